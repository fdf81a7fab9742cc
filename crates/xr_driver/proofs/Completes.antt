-- Where nothing fails, each cause has its status, or memory is wanting.
use Rattle.std.proofs.Common.{◌≡◌, ◌⊎◌, ℕ, ◌<◌, ◌≤◌, List, [], length, refl, sym, subst, inl, inr, arith}
use Rattle.std.specs.Prelude.{Option, Some, None}
use Rattle.xw_io.specs.Outside.{WhereTold, IsFileOf, IsTooLong, found, max_file}
use Rattle.xw_io.specs.declared.file.File.{File}
use Rattle.xc_tree.specs.Plain.{Item}
use Rattle.xw_words.specs.declared.pos.Broken.{Broken}
use Rattle.xr_driver.specs.Answers.{Answers, AreTimed, Decided, no_command, missing, too_long, read_fault, refused, bad_stim, checked, assembled, ran, timed, bad_route, no_memory, Delivered, whole, out_fell, err_fell, Outcome, status_of_run}
use Rattle.xr_driver.specs.Causes.{AllCauses, Completes, DoneWith, NoFault, Timed, bounded, broken}
use Rattle.xs_instr.specs.declared.image.Image.{Image}
use Rattle.xs_instr.specs.declared.image.Stim.{Stim}
use Rattle.xr_driver.specs.Command.{Command, Run, Asm, Check, Time, file_of, means, second_of, stim_of}
use Rattle.xr_driver.specs.Due.{HasAccepted, IsDue, of_text, of_second}
use Rattle.xr_driver.specs.Outside.{Loads, Span, Gained}
use Rattle.xr_front.specs.Rules.{First, IsAccepted, IsRefusedOrAccepted}
use Rattle.xr_driver.specs.Runs.{IsStimOf, no_stim, unnamed}
use Rattle.xr_stim.specs.Stimulus.{IsFirstBroken, Means}
use Rattle.xr_driver.proofs.Decides.{stim_is_second}
use Rattle.xr_driver.proofs.Stims.{not_both, one_stim, one_text, text_of_stim}

none_some : {A : Type 0} (o : Option A) (x : A) → o ≡ None → o ≡ Some x → ⊥
none_some o x p q = absurd (cc)

same_some : {A : Type 0} (o : Option A) (x y : A) → o ≡ Some x → o ≡ Some y → x ≡ y
same_some o x y p q = cc

-- a text that is accepted breaks no rule
not_refused : (text other : List ℕ) (b : Broken) (P : List Item) → text ≡ other → IsAccepted text P → First other b → ⊥
not_refused text other b P e is first = (subst (λ t. IsAccepted t P) e is).unbroken first.phase b first.breaks

-- no file has the name, or it has more bytes than a file may have
abbrev IsBad : List File → List ℕ → Type 0
IsBad files name = (found files name ≡ None) ⊎ ((text : List ℕ) × (found files name ≡ Some text) × (max_file < length text))

-- The same as `AllCauses` of the command that is meant.
record CausesOf (files : List File) (out : Span) (c : Command) (status : ℕ) : Type 0 where
  missing : (name : List ℕ) → IsDue (Some files) c name → found files name ≡ None → status ≡ 6
  too_long : (name text : List ℕ) → IsDue (Some files) c name → found files name ≡ Some text → max_file < length text → status ≡ 7
  answered : (text : List ℕ) → IsFileOf (Some files) (file_of c) text → IsRefusedOrAccepted text
  refused : (text : List ℕ) (b : Broken) → IsFileOf (Some files) (file_of c) text → First text b → status ≡ 1
  stim_refused : (name text : List ℕ) (line rule : ℕ) → HasAccepted (Some files) c → stim_of c ≡ Some name →
      IsFileOf (Some files) name text → IsFirstBroken text line rule → status ≡ 10
  done : (text : List ℕ) (P : List Item) (s : Stim) → IsFileOf (Some files) (file_of c) text → IsAccepted text P →
      IsStimOf (Some files) (stim_of c) s → DoneWith files c text s out status

module _ (files : List File) where
  -- a file that is there, and is no longer than a file may be, isn't bad
  not_bad : (name text : List ℕ) → IsFileOf (Some files) name text → IsBad files name → ⊥
  not_bad name text h (inl gone) = none_some (found files name) text gone h.told
  not_bad name text h (inr (other, there, long)) =
      let same = same_some (found files name) other text there h.told in
      let short = subst (λ t. length t ≤ max_file) (sym same) h.short in
      absurd (omega (arith, long, short))

  module _ (c : Command) where
    -- of two files that are due and bad, both are the same
    one_bad : (a b : List ℕ) → IsDue (Some files) c a → IsDue (Some files) c b → IsBad files a → IsBad files b → a ≡ b
    one_bad a b (of_text d) (of_text e) bad_a bad_b = refl
    one_bad a b (of_text d) (of_second e n is names) bad_a bad_b = absurd (not_bad (file_of c) is.text is.told bad_a)
    one_bad a b (of_second d m is names) (of_text e) bad_a bad_b = absurd (not_bad (file_of c) is.text is.told bad_b)
    one_bad a b (of_second d m is names) (of_second e n also too) bad_a bad_b = same_some (second_of c) a b names too

    -- the file that the command names behind its text is there, where it names one
    abbrev SecondIsThere : Type 0
    SecondIsThere = (name : List ℕ) → second_of c ≡ Some name → (text : List ℕ) × IsFileOf (Some files) name text

    -- no file that is due is bad where the text is there, and that one too
    none_bad : (text : List ℕ) → IsFileOf (Some files) (file_of c) text → SecondIsThere →
        (name : List ℕ) → IsDue (Some files) c name → IsBad files name → ⊥
    none_bad text told there name (of_text d) bad = not_bad (file_of c) text told bad
    none_bad text told there name (of_second d n is names) bad = let second = there name names in not_bad name second.0 second.1 bad

    -- nor where the text is refused
    none_bad_refused : (text : List ℕ) (b : Broken) → IsFileOf (Some files) (file_of c) text → First text b →
        (name : List ℕ) → IsDue (Some files) c name → IsBad files name → ⊥
    none_bad_refused text b told first name (of_text d) bad = not_bad (file_of c) text told bad
    none_bad_refused text b told first name (of_second d n is names) bad =
        not_refused is.text text b is.program (one_text files (file_of c) is.text text is.told told) is.accepted first

    -- a text that is there is accepted where a file that is due is bad
    accepted_before_bad : (name : List ℕ) → IsDue (Some files) c name → IsBad files name → (text : List ℕ) →
        IsFileOf (Some files) (file_of c) text → (P : List Item) × IsAccepted text P
    accepted_before_bad name (of_text d) bad text told = absurd (not_bad (file_of c) text told bad)
    accepted_before_bad name (of_second d n is names) bad text told =
        (is.program, subst (λ t. IsAccepted t is.program) (one_text files (file_of c) is.text text is.told told) is.accepted)

    -- it is there where the stimulus is, which it is then
    stim_there : (name text : List ℕ) → stim_of c ≡ Some name → IsFileOf (Some files) name text → SecondIsThere
    stim_there name text is told other names =
        (text, subst (λ k. IsFileOf (Some files) k text) (same_some (second_of c) name other (stim_is_second c name is) names) told)

  -- all that is done rests on the second file too, which is bad
  second_bad_done : (out : Span) (c : Command) (name text : List ℕ) (s : Stim) (status : ℕ) → second_of c ≡ Some name → IsBad files name →
      IsStimOf (Some files) (stim_of c) s → DoneWith files c text s out status
  second_bad_done out (Run file ticks workers stim) name text s status names bad of =
      let its = text_of_stim files stim name s names of in absurd (not_bad name its.0 its.1 bad)
  second_bad_done out (Asm file) name text s status names bad of = absurd (cc)
  second_bad_done out (Check file) name text s status names bad of = absurd (cc)
  second_bad_done out (Time file routes) name text s status names bad of =
      λ asked told. absurd
      (not_bad name asked (subst (λ k. IsFileOf (Some files) k asked) (same_some (Some routes) routes name refl names) told) bad)

  bad_done : (out : Span) (c : Command) (name text : List ℕ) (s : Stim) (status : ℕ) → IsDue (Some files) c name → IsBad files name →
      IsFileOf (Some files) (file_of c) text → IsStimOf (Some files) (stim_of c) s → DoneWith files c text s out status
  bad_done out c name text s status (of_text d) bad told of = absurd (not_bad (file_of c) text told bad)
  bad_done out c name text s status (of_second d n is names) bad told of = second_bad_done out c name text s status names bad of

  module _ (out : Span) (c : Command) where
    -- a file that is due is bad
    with_bad_file : (name : List ℕ) → IsDue (Some files) c name → IsBad files name → (status : ℕ) → (found files name ≡ None → status ≡ 6) →
        ((text : List ℕ) → found files name ≡ Some text → max_file < length text → status ≡ 7) → CausesOf files out c status
    with_bad_file name due bad status gone long = record {
      missing = λ other also f. gone (subst (λ n. found files n ≡ None) (one_bad c other name also due (inl f) bad) f);
      too_long = λ other text also f more.
          long text (subst (λ n. found files n ≡ Some text) (one_bad c other name also due (inr (text, f, more)) bad) f) more;
      answered = λ text told. inr (accepted_before_bad c name due bad text told);
      refused = λ text b told first. absurd (none_bad_refused c text b told first name due bad);
      stim_refused = λ stim text line rule is names told first.
          absurd (none_bad c is.text is.told (stim_there c stim text names told) name due bad);
      done = λ text P s told is of. bad_done out c name text s status due bad told of;
    }

    -- the text is refused
    with_refused : (text : List ℕ) (b : Broken) → IsFileOf (Some files) (file_of c) text → First text b → CausesOf files out c 1
    with_refused text b told first = record {
      missing = λ name due f. absurd (none_bad_refused c text b told first name due (inl f));
      too_long = λ name other due f long. absurd (none_bad_refused c text b told first name due (inr (other, f, long)));
      answered = λ other also. inl (b, subst (λ t. First t b) (one_text files (file_of c) text other told also) first);
      refused = λ other k also f. refl;
      stim_refused = λ name lines line rule of names also f.
          absurd (not_refused of.text text b of.program (one_text files (file_of c) of.text text of.told told) of.accepted first);
      done = λ other P s also is of. absurd (not_refused other text b P (one_text files (file_of c) other text also told) is first);
    }

    -- a line of the stimulus breaks a rule
    with_bad_line : (name text : List ℕ) (line rule : ℕ) → HasAccepted (Some files) c → stim_of c ≡ Some name →
        IsFileOf (Some files) name text → IsFirstBroken text line rule → CausesOf files out c 10
    with_bad_line name text line rule of names told first =
        let there = stim_there c name text names told in
        record {
          missing = λ other also f. absurd (none_bad c of.text of.told there other also (inl f));
          too_long = λ other lines also f long. absurd (none_bad c of.text of.told there other also (inr (lines, f, long)));
          answered = λ other also.
              let same = one_text files (file_of c) of.text other of.told also in
              inr (of.program, subst (λ t. IsAccepted t of.program) same of.accepted);
          refused = λ other b also f.
              absurd (not_refused of.text other b of.program (one_text files (file_of c) of.text other of.told also) of.accepted f);
          stim_refused = λ other lines n r is also too f. refl;
          done = λ other P s also is by.
              let stim = text_of_stim files (stim_of c) name s names by in
              absurd (not_both text s line rule (subst (λ t. Means t s) (one_text files name stim.0 text stim.1 told) stim.2) first);
        }

    -- all was done
    with_done : (text : List ℕ) (P : List Item) (s : Stim) (status : ℕ) → IsFileOf (Some files) (file_of c) text → IsAccepted text P →
        IsStimOf (Some files) (stim_of c) s → SecondIsThere c → DoneWith files c text s out status → CausesOf files out c status
    with_done text P s status told is of there so = record {
      missing = λ name due f. absurd (none_bad c text told there name due (inl f));
      too_long = λ name other due f long. absurd (none_bad c text told there name due (inr (other, f, long)));
      answered = λ other also. inr (P, subst (λ t. IsAccepted t P) (one_text files (file_of c) text other told also) is);
      refused = λ other b also f. absurd (not_refused text other b P (one_text files (file_of c) text other told also) is f);
      stim_refused = λ name lines line rule accepted names also f.
          let stim = text_of_stim files (stim_of c) name s names of in
          absurd (not_both lines s line rule (subst (λ t. Means t s) (one_text files name stim.0 lines stim.1 also) stim.2) f);
      done = λ other Q t also isQ by.
          subst (λ x. DoneWith files c x t out status) (one_text files (file_of c) text other told also)
          (subst (λ x. DoneWith files c text x out status) (one_stim files (stim_of c) s t of by) so);
    }

module _ (words : List (List ℕ)) (shelf : Loads) (out err : Span) (files : List File) (told : shelf.files ≡ Some files) (kept : NoFault shelf out err) where
  all_causes : (c : Command) → means words ≡ Some c → (status : ℕ) → CausesOf files out c status → AllCauses words files out status
  all_causes c m status k = record {
    usage = λ none. absurd (none_some (means words) c none m);
    missing = λ d name n. (also d n).missing name;
    too_long = λ d name text n. (also d n).too_long name text;
    answered = λ d text n f short. (also d n).answered text (record { short = short; told = f });
    refused = λ d text b n f short. (also d n).refused text b (record { short = short; told = f });
    stim_refused = λ name line rule bad.
        (also bad.c bad.meant).stim_refused name bad.text line rule bad.accepted bad.names bad.told bad.first;
    done = λ d text P s n f short. (also d n).done text P s (record { short = short; told = f });
  }
    where
      also : (d : Command) → means words ≡ Some d → CausesOf files out d status
      also d n = subst (λ x. CausesOf files out x status) (same_some (means words) c d m n) k

  -- the text was timed
  timed_so : (L : Image) (name asked : List ℕ) (are : AreTimed words shelf.files L name asked) (status : ℕ) →
      Timed are.text asked out status → AllCauses words files out status
  timed_so L name asked are status so =
      let is = subst (λ fs. IsFileOf fs are.file are.text) told are.told in
      let routes = subst (λ fs. IsFileOf fs name asked) told are.asked_told in
      all_causes (Time are.file name) are.meant status
      (with_done files out (Time are.file name) are.text are.compiled.program no_stim status is are.compiled.means_so unnamed
      (λ other e. (asked, subst (λ k. IsFileOf (Some files) k asked) (same_some (Some name) name other refl e) routes))
      (λ also by. subst (λ x. Timed are.text x out status) (one_text files name asked also routes by) so))

  by_decided : (o : Outcome) → Decided words shelf o → Gained out o.output → ((o.status ≡ 12) × Gained out []) ⊎ AllCauses words files out o.status
  by_decided o (no_command none) g = inr (record {
    usage = λ n. refl;
    missing = λ d name n due f. absurd (none_some (means words) d none n);
    too_long = λ d name other n due f long. absurd (none_some (means words) d none n);
    answered = λ d other n f short. absurd (none_some (means words) d none n);
    refused = λ d other b n f short first. absurd (none_some (means words) d none n);
    stim_refused = λ name line rule bad. absurd (none_some (means words) bad.c none bad.meant);
    done = λ d other Q s n f short is of. absurd (none_some (means words) d none n);
  })
  by_decided o (missing c name m due rose gone) g =
      let none = subst (λ fs. WhereTold fs (λ all. found all name ≡ None)) told gone in
      let is_due = subst (λ fs. IsDue fs c name) told due in
      inr (all_causes c m 6
      (with_bad_file files out c name is_due (inl none) 6 (λ f. refl) (λ text f long. absurd (none_some (found files name) text none f))))
  by_decided o (too_long c name m due rose long) g =
      let there = subst (λ fs. IsTooLong fs name) told long in
      let is_due = subst (λ fs. IsDue fs c name) told due in
      inr (all_causes c m 7
      (with_bad_file files out c name is_due (inr there) 7 (λ f. absurd (none_some (found files name) there.0 f there.1)) (λ text f more. refl)))
  by_decided o (read_fault c name m due rose) g = absurd (kept.shelf_kept rose)
  by_decided o (refused c text b m h first) g =
      inr (all_causes c m 1 (with_refused files out c text b (subst (λ fs. IsFileOf fs (file_of c) text) told h) first))
  by_decided o (bad_stim name line rule bad) g =
      let accepted = subst (λ fs. HasAccepted fs bad.c) told bad.accepted in
      let is = subst (λ fs. IsFileOf fs name bad.text) told bad.told in
      inr (all_causes bad.c bad.meant 10 (with_bad_line files out bad.c name bad.text line rule accepted bad.names is bad.first))
  by_decided o (checked file text P m h accepted) g =
      let is = subst (λ fs. IsFileOf fs file text) told h in
      inr (all_causes (Check file) m 0
      (with_done files out (Check file) text P no_stim 0 is accepted unnamed (λ name e. absurd (cc))
      (record { status_is = refl; output = g })))
  by_decided o (assembled file text L m h compiled) g =
      let is = subst (λ fs. IsFileOf fs file text) told h in
      inr (all_causes (Asm file) m 0
      (with_done files out (Asm file) text compiled.program no_stim 0 is compiled.means_so unnamed (λ name e. absurd (cc))
      (record { L = L; compiled = compiled; status_is = refl; output = g })))
  by_decided o (ran file ticks workers stim text s L lines word trapped m h compiled stimulus lockstep of_program) g =
      let is = subst (λ fs. IsFileOf fs file text) told h in
      let of = subst (λ fs. IsStimOf fs stim s) told stimulus in
      inr (all_causes (Run file ticks workers stim) m (status_of_run trapped word)
      (with_done files out (Run file ticks workers stim) text compiled.program s (status_of_run trapped word) is compiled.means_so of
      (λ name e. let its = text_of_stim files stim name s e of in (its.0, its.1)) (record {
        L = L;
        lines = lines;
        word = word;
        trapped = trapped;
        compiled = compiled;
        lockstep = lockstep;
        of_program = of_program;
        status_is = refl;
        output = g;
      })))
  by_decided o (timed L name asked numbers are bounds unbroken kept) g =
      inr (timed_so L name asked are 0 (bounded L numbers are.compiled bounds unbroken kept g))
  by_decided o (bad_route L name asked line rule are first) g =
      inr (timed_so L name asked are 13 (broken L line rule are.compiled first g))
  by_decided o no_memory g = inl (refl, g)

  by_delivered : (o : Outcome) (status : ℕ) → Decided words shelf o → Delivered o out err status → ((status ≡ 12) × Gained out []) ⊎ AllCauses words files out status
  by_delivered o status d (whole at_out at_err) = by_decided o d at_out
  by_delivered o status d (out_fell rose f f') = absurd (kept.out_kept rose)
  by_delivered o status d (err_fell rose some f f') = absurd (kept.err_kept rose)

pub completes : (words : List (List ℕ)) (shelf : Loads) (out err : Span) (status : ℕ) → Answers words shelf out err status → Completes words shelf out err status
completes words shelf out err status a files told kept = by_delivered words shelf out err files told kept a.outcome status a.decided a.delivered
