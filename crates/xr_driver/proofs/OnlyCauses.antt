-- Each status comes only with its cause.
use Rattle.std.proofs.Common.{◌≡◌, ◌⊎◌, ◌≤◌, ℕ, Bool, true, false, List, Option, Some, refl, inl, inr, sym, ◌∙◌, arith}
use Rattle.xw_io.specs.Outside.{IsFileOf}
use Rattle.xs_instr.specs.declared.image.Image.{Image}
use Rattle.xs_instr.specs.declared.image.Stim.{Stim}
use Rattle.xs_instr.specs.declared.trace.Record.{Record}
use Rattle.xc_tree.specs.Plain.{Item}
use Rattle.xs_instr.specs.declared.trace.EndWord.{EndWord}
use Rattle.xs_instr.specs.declared.trace.EndWord.TheVariants.{Finished, Trapped, Stuck, Stopped}
use Rattle.xr_driver.specs.Answers.{Answers, Decided, no_command, missing, too_long, read_fault, refused, bad_stim, checked, assembled, ran, timed, bad_route, no_memory, Delivered, whole, out_fell, err_fell, Outcome, status_of_run}
use Rattle.xr_driver.specs.Causes.{BreaksNone, OnlyCauses, OutputCauses, WasRun, WasTimed}
use Rattle.xr_driver.specs.Command.{Command, Run, Asm, Check, Time, file_of, means}
use Rattle.xr_front.specs.Rules.{IsAccepted}
use Rattle.xr_driver.specs.Runs.{IsCompiled, IsRunFor, IsStimOf}
use Rattle.xr_driver.specs.Outside.{Loads, Span, Gained}
use Rattle.xw_io.specs.Outside.{Rose}

-- a status that no refusal has
abbrev IsRunStatus : ℕ → Type 0
IsRunStatus s = (s ≤ 5) × ((s ≡ 0) ⊎ (3 ≤ s))

run_status : (trapped : Bool) (word : EndWord) → IsRunStatus (status_of_run trapped word)
run_status true word = (omega arith, inr (omega arith))
run_status false Finished = (omega arith, inl refl)
run_status false Trapped = (omega arith, inr (omega arith))
run_status false Stuck = (omega arith, inr (omega arith))
run_status false Stopped = (omega arith, inr (omega arith))

not_one : (s : ℕ) → IsRunStatus s → s ≡ 1 → ⊥
not_one s (few, inl zero_is) e = absurd (omega (arith, zero_is, e))
not_one s (few, inr more) e = absurd (omega (arith, more, e))

not_two : (s : ℕ) → IsRunStatus s → s ≡ 2 → ⊥
not_two s (few, inl zero_is) e = absurd (omega (arith, zero_is, e))
not_two s (few, inr more) e = absurd (omega (arith, more, e))

not_late : (s n : ℕ) → IsRunStatus s → 6 ≤ n → s ≡ n → ⊥
not_late s n h late e = let few = h.0 in absurd (omega (arith, few, late, e))

module _ (words : List (List ℕ)) (shelf : Loads) (out err : Span) where
  -- a status with which no output is due
  without_output : (s : ℕ) → (s ≡ 0 → ⊥) → (s ≤ 2) ⊎ (6 ≤ s) → OutputCauses words shelf s
  without_output s some (inl few) = record {
    done = λ e. absurd (some e);
    finished = λ e file ticks workers stim m. absurd (some e);
    bounded = λ e file name m. absurd (some e);
    trapped = λ e. absurd (omega (arith, few, e));
    stopped = λ e. absurd (omega (arith, few, e));
    stuck = λ e. absurd (omega (arith, few, e));
  }
  without_output s some (inr more) = record {
    done = λ e. absurd (some e);
    finished = λ e file ticks workers stim m. absurd (some e);
    bounded = λ e file name m. absurd (some e);
    trapped = λ e. absurd (omega (arith, more, e));
    stopped = λ e. absurd (omega (arith, more, e));
    stuck = λ e. absurd (omega (arith, more, e));
  }

  same_command : (a b : Command) → Some a ≡ Some b → a ≡ b
  same_command a b e = cc

  -- a command that is no run, and is done
  all_done : (c : Command) (text : List ℕ) (P : List Item) → means words ≡ Some c → IsFileOf shelf.files (file_of c) text → IsAccepted text P →
      ((file : List ℕ) (ticks workers : ℕ) (stim : Option (List ℕ)) → c ≡ Run file ticks workers stim → ⊥) →
      ((file name : List ℕ) → c ≡ Time file name → WasTimed words shelf BreaksNone) → OutputCauses words shelf 0
  all_done c text P m told accepted no_run bounds = record {
    done = λ e. (c, m, (text, told, (P, accepted)));
    finished = λ e file ticks workers stim m'. absurd (no_run file ticks workers stim (same_command c (Run file ticks workers stim) (sym m ∙ m')));
    bounded = λ e file name m'. bounds file name (same_command c (Time file name) (sym m ∙ m'));
    trapped = λ e. absurd (omega (arith, e));
    stopped = λ e. absurd (omega (arith, e));
    stuck = λ e. absurd (omega (arith, e));
  }

  -- a run, by its end
  ran_so : (file : List ℕ) (ticks workers : ℕ) (stim : Option (List ℕ)) (text : List ℕ) (s : Stim) (L : Image) (lines : List Record)
      (word : EndWord) (trapped : Bool) → means words ≡ Some (Run file ticks workers stim) → IsFileOf shelf.files file text → IsCompiled text L →
      IsStimOf shelf.files stim s → IsRunFor L s ticks lines word trapped → OutputCauses words shelf (status_of_run trapped word)
  ran_so file ticks workers stim text s L lines word trapped m told compiled stimulus lockstep = by_end trapped word lockstep
    where
      so : (IsSo : EndWord → Bool → Type 0) (trapped : Bool) (word : EndWord) → IsRunFor L s ticks lines word trapped → IsSo word trapped →
          WasRun words shelf IsSo
      so IsSo trapped word lockstep h = record {
        file = file;
        ticks = ticks;
        workers = workers;
        stim = stim;
        means_run = m;
        text = text;
        told = told;
        L = L;
        compiled = compiled;
        s = s;
        stimulus = stimulus;
        lines = lines;
        word = word;
        trapped = trapped;
        lockstep = lockstep;
        is_so = h;
      }

      run_is_not_time : (f n : List ℕ) → Run file ticks workers stim ≡ Time f n → ⊥
      run_is_not_time f n e = cc

      by_end : (trapped : Bool) (word : EndWord) → IsRunFor L s ticks lines word trapped → OutputCauses words shelf (status_of_run trapped word)
      by_end true word run = record {
        done = λ e. absurd (omega (arith, e));
        finished = λ e f t w st m'. absurd (omega (arith, e));
        bounded = λ e f n m'. absurd (omega (arith, e));
        trapped = λ e. so (λ w t. t ≡ true) true word run refl;
        stopped = λ e. absurd (omega (arith, e));
        stuck = λ e. absurd (omega (arith, e));
      }
      by_end false Finished run = record {
        done = λ e. (Run file ticks workers stim, m, (text, told, (compiled.program, compiled.means_so)));
        finished = λ e f t w st m'. so (λ w t. (w ≡ Finished) × (t ≡ false)) false Finished run (refl, refl);
        bounded = λ e f n m'. absurd (run_is_not_time f n (same_command (Run file ticks workers stim) (Time f n) (sym m ∙ m')));
        trapped = λ e. absurd (omega (arith, e));
        stopped = λ e. absurd (omega (arith, e));
        stuck = λ e. absurd (omega (arith, e));
      }
      by_end false Trapped run = record {
        done = λ e. absurd (omega (arith, e));
        finished = λ e f t w st m'. absurd (omega (arith, e));
        bounded = λ e f n m'. absurd (omega (arith, e));
        trapped = λ e. so (λ w t. t ≡ true) false Trapped run (run.trapped_only_with_a_trap refl);
        stopped = λ e. absurd (omega (arith, e));
        stuck = λ e. absurd (omega (arith, e));
      }
      by_end false Stuck run = record {
        done = λ e. absurd (omega (arith, e));
        finished = λ e f t w st m'. absurd (omega (arith, e));
        bounded = λ e f n m'. absurd (omega (arith, e));
        trapped = λ e. absurd (omega (arith, e));
        stopped = λ e. absurd (omega (arith, e));
        stuck = λ e. so (λ w t. (w ≡ Stuck) × (t ≡ false)) false Stuck run (refl, refl);
      }
      by_end false Stopped run = record {
        done = λ e. absurd (omega (arith, e));
        finished = λ e f t w st m'. absurd (omega (arith, e));
        bounded = λ e f n m'. absurd (omega (arith, e));
        trapped = λ e. absurd (omega (arith, e));
        stopped = λ e. so (λ w t. (w ≡ Stopped) × (t ≡ false)) false Stopped run (refl, refl);
        stuck = λ e. absurd (omega (arith, e));
      }

  -- what an output is due with
  printed : (s : ℕ) → IsRunStatus s → OutputCauses words shelf s → OnlyCauses words shelf out err s
  printed s h output = record {
    refused = λ e. absurd (not_one s h e);
    usage = λ e. absurd (not_two s h e);
    missing = λ e. absurd (not_late s 6 h (omega arith) e);
    too_long = λ e. absurd (not_late s 7 h (omega arith) e);
    read_fault = λ e. absurd (not_late s 8 h (omega arith) e);
    stim_refused = λ e. absurd (not_late s 10 h (omega arith) e);
    route_refused = λ e. absurd (not_late s 13 h (omega arith) e);
    write_fault = λ e. absurd (not_late s 9 h (omega arith) e);
    no_memory = λ e. absurd (not_late s 12 h (omega arith) e);
    output = output;
    others = inl (let few = h.0 in omega arith);
  }

  by_decided : (o : Outcome) → Decided words shelf o → Gained out o.output → OnlyCauses words shelf out err o.status
  by_decided o (no_command none) g = record {
    refused = λ e. absurd (omega (arith, e));
    usage = λ e. none;
    missing = λ e. absurd (omega (arith, e));
    too_long = λ e. absurd (omega (arith, e));
    read_fault = λ e. absurd (omega (arith, e));
    stim_refused = λ e. absurd (omega (arith, e));
    route_refused = λ e. absurd (omega (arith, e));
    write_fault = λ e. absurd (omega (arith, e));
    no_memory = λ e. g;
    output = without_output 2 (λ e. absurd (omega (arith, e))) (inl (omega arith));
    others = inl (omega arith);
  }
  by_decided o (missing c name m due rose none) g = record {
    refused = λ e. absurd (omega (arith, e));
    usage = λ e. absurd (omega (arith, e));
    missing = λ e. (rose, (c, m, (name, due, none)));
    too_long = λ e. absurd (omega (arith, e));
    read_fault = λ e. absurd (omega (arith, e));
    stim_refused = λ e. absurd (omega (arith, e));
    route_refused = λ e. absurd (omega (arith, e));
    write_fault = λ e. absurd (omega (arith, e));
    no_memory = λ e. g;
    output = without_output 6 (λ e. absurd (omega (arith, e))) (inr (omega arith));
    others = inl (omega arith);
  }
  by_decided o (too_long c name m due rose long) g = record {
    refused = λ e. absurd (omega (arith, e));
    usage = λ e. absurd (omega (arith, e));
    missing = λ e. absurd (omega (arith, e));
    too_long = λ e. (rose, (c, m, (name, due, long)));
    read_fault = λ e. absurd (omega (arith, e));
    stim_refused = λ e. absurd (omega (arith, e));
    route_refused = λ e. absurd (omega (arith, e));
    write_fault = λ e. absurd (omega (arith, e));
    no_memory = λ e. g;
    output = without_output 7 (λ e. absurd (omega (arith, e))) (inr (omega arith));
    others = inl (omega arith);
  }
  by_decided o (read_fault c name m due rose) g = record {
    refused = λ e. absurd (omega (arith, e));
    usage = λ e. absurd (omega (arith, e));
    missing = λ e. absurd (omega (arith, e));
    too_long = λ e. absurd (omega (arith, e));
    read_fault = λ e. (rose, (c, m, (name, due, tt)));
    stim_refused = λ e. absurd (omega (arith, e));
    route_refused = λ e. absurd (omega (arith, e));
    write_fault = λ e. absurd (omega (arith, e));
    no_memory = λ e. g;
    output = without_output 8 (λ e. absurd (omega (arith, e))) (inr (omega arith));
    others = inl (omega arith);
  }
  by_decided o (refused c text b m told first) g = record {
    refused = λ e. (c, m, (text, told, (b, first)));
    usage = λ e. absurd (omega (arith, e));
    missing = λ e. absurd (omega (arith, e));
    too_long = λ e. absurd (omega (arith, e));
    read_fault = λ e. absurd (omega (arith, e));
    stim_refused = λ e. absurd (omega (arith, e));
    route_refused = λ e. absurd (omega (arith, e));
    write_fault = λ e. absurd (omega (arith, e));
    no_memory = λ e. g;
    output = without_output 1 (λ e. absurd (omega (arith, e))) (inl (omega arith));
    others = inl (omega arith);
  }
  by_decided o (bad_stim name line rule bad) g = record {
    refused = λ e. absurd (omega (arith, e));
    usage = λ e. absurd (omega (arith, e));
    missing = λ e. absurd (omega (arith, e));
    too_long = λ e. absurd (omega (arith, e));
    read_fault = λ e. absurd (omega (arith, e));
    stim_refused = λ e. (name, line, rule, bad);
    route_refused = λ e. absurd (omega (arith, e));
    write_fault = λ e. absurd (omega (arith, e));
    no_memory = λ e. g;
    output = without_output 10 (λ e. absurd (omega (arith, e))) (inr (omega arith));
    others = inl (omega arith);
  }
  by_decided o (checked file text P m told accepted) g =
      printed 0 (omega arith, inl refl) (all_done (Check file) text P m told accepted (λ f t w s e. cc) (λ f n e. absurd (cc)))
  by_decided o (assembled file text L m told compiled) g =
      printed 0 (omega arith, inl refl) (all_done (Asm file) text compiled.program m told compiled.means_so (λ f t w s e. cc) (λ f n e. absurd (cc)))
  by_decided o (ran file ticks workers stim text s L lines word trapped m told compiled stimulus lockstep beside) g =
      printed (status_of_run trapped word) (run_status trapped word)
      (ran_so file ticks workers stim text s L lines word trapped m told compiled stimulus lockstep)
  by_decided o (timed L name asked numbers are bounds unbroken kept) g =
      printed 0 (omega arith, inl refl)
      (all_done (Time are.file name) are.text are.compiled.program are.meant are.told are.compiled.means_so (λ f t w s e. cc)
      (λ f n e. (L, name, asked, are, unbroken)))
  by_decided o (bad_route L name asked line rule are first) g = record {
    refused = λ e. absurd (omega (arith, e));
    usage = λ e. absurd (omega (arith, e));
    missing = λ e. absurd (omega (arith, e));
    too_long = λ e. absurd (omega (arith, e));
    read_fault = λ e. absurd (omega (arith, e));
    stim_refused = λ e. absurd (omega (arith, e));
    route_refused = λ e. (L, name, asked, are, (line, rule, first, g));
    write_fault = λ e. absurd (omega (arith, e));
    no_memory = λ e. absurd (omega (arith, e));
    output = without_output 13 (λ e. absurd (omega (arith, e))) (inr (omega arith));
    others = inr (inr refl);
  }
  by_decided o no_memory g = record {
    refused = λ e. absurd (omega (arith, e));
    usage = λ e. absurd (omega (arith, e));
    missing = λ e. absurd (omega (arith, e));
    too_long = λ e. absurd (omega (arith, e));
    read_fault = λ e. absurd (omega (arith, e));
    stim_refused = λ e. absurd (omega (arith, e));
    route_refused = λ e. absurd (omega (arith, e));
    write_fault = λ e. absurd (omega (arith, e));
    no_memory = λ e. g;
    output = without_output 12 (λ e. absurd (omega (arith, e))) (inr (omega arith));
    others = inr (inl refl);
  }

  nine : Rose out.faults out.faults' ⊎ Rose err.faults err.faults' → OnlyCauses words shelf out err 9
  nine rose = record {
    refused = λ e. absurd (omega (arith, e));
    usage = λ e. absurd (omega (arith, e));
    missing = λ e. absurd (omega (arith, e));
    too_long = λ e. absurd (omega (arith, e));
    read_fault = λ e. absurd (omega (arith, e));
    stim_refused = λ e. absurd (omega (arith, e));
    route_refused = λ e. absurd (omega (arith, e));
    write_fault = λ e. rose;
    no_memory = λ e. absurd (omega (arith, e));
    output = without_output 9 (λ e. absurd (omega (arith, e))) (inr (omega arith));
    others = inl (omega arith);
  }

  by_delivered : (o : Outcome) (status : ℕ) → Decided words shelf o → Delivered o out err status → OnlyCauses words shelf out err status
  by_delivered o status d (whole at_out at_err) = by_decided o d at_out
  by_delivered o status d (out_fell rose f f') = nine (inl rose)
  by_delivered o status d (err_fell rose some f f') = nine (inr rose)

  pub only_causes : (status : ℕ) → Answers words shelf out err status → OnlyCauses words shelf out err status
  only_causes status a = by_delivered a.outcome status a.decided a.delivered
