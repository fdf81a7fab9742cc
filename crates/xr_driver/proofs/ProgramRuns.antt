-- The run of the program that stands beside the run in lockstep, from the law on all runs of the machine.
use Rattle.std.proofs.Common.{◌≡◌, ℕ, Bool, List, map, sym, ◌∙◌}
use Rattle.xs_instr.specs.declared.image.Image.{Image}
use Rattle.xs_instr.specs.declared.image.Stim.{Stim}
use Rattle.xs_instr.specs.declared.trace.EndWord.{EndWord}
use Rattle.xs_instr.specs.declared.trace.EndWord.TheVariants.{Stuck}
use Rattle.xs_instr.specs.declared.trace.Record.{Record}
use Rattle.xs_instr.specs.Valid.{IsGoodStim, Valid}
use Rattle.xs_fabric.specs.EndWord.{end_of}
use Rattle.xs_fabric.specs.Lockstep.{lockstep}
use Rattle.xs_fabric.proofs.LockstepLeads.{lockstep_leads}
use Rattle.xs_fabric.proofs.Stuck.{stuck_stays}
use Rattle.xc_kernel.specs.Copies.{copy_of}
use Rattle.xc_meaning.specs.Runs.{program_start}
use Rattle.xc_meaning.specs.States.Worlds.{clock}
use Rattle.xr_match.specs.Implements.{Agree, IsQuietBehind, QuietAgree}
use Rattle.xr_match.specs.Matching.{WholeMatchingRun}
use Rattle.xr_match.specs.Meanings.{of_text}
use Rattle.xr_match.proofs.Matching.{runs_match_wholly}
use Rattle.xr_match.proofs.RunsBeside.{same_run}
use Rattle.xr_driver.specs.Runs.{IsCompiled, IsRunFor, IsRunOf}

-- a machine that is stuck is quiet behind any ticks
stuck_is_quiet : (L : Image) (s : Stim) (rounds : ℕ) → Valid L → end_of L s (lockstep L s rounds) ≡ Stuck → (cores : List ℕ) →
    IsQuietBehind L s (lockstep L s rounds) cores
stuck_is_quiet L s rounds valid stuck cores =
    let run = lockstep_leads L s rounds in
    record {
      quiet = λ later ticks.
          let is = stuck_stays L s run.events (lockstep L s rounds) later cores valid run.to stuck ticks in
          record { steps = is.quiet.steps; moves = is.quiet.moves };
    }

pub run_beside : (text : List ℕ) (L : Image) (s : Stim) (compiled : IsCompiled text L) → IsGoodStim s →
    (rounds : ℕ) (lines : List Record) (word : EndWord) (trapped : Bool) → IsRunFor L s rounds lines word trapped →
    IsRunOf compiled.program L s rounds lines word
run_beside text L s compiled good rounds lines word trapped run =
    let leads = lockstep_leads L s rounds in
    let P = compiled.program in
    let whole : WholeMatchingRun L P s leads.events (lockstep L s rounds) =
    runs_match_wholly L P s compiled.wholly good leads.events (lockstep L s rounds) leads.to in
    let agree : Agree L (of_text P) (lockstep L s rounds) whole.run.state = whole.run.last.agree in
    let quiet : QuietAgree L (of_text P) s (lockstep L s rounds) whole.run.state = whole.run.last.quiet in
    record {
      events = leads.events;
      enabled = leads.to;
      run = whole.run;
      trace = run.lines_are ∙ agree.trace;
      finished = (
        λ is. agree.ended.0 (run.finished_exactly_where_ended.0 is),
        λ ended. run.finished_exactly_where_ended.1 (agree.ended.1 ended),
      );
      stuck = λ is cores. record {
        quiet = λ y ticks.
            quiet cores (stuck_is_quiet L s rounds compiled.valid (sym run.word_is ∙ is) cores) y
            (sym (same_run (copy_of P) s (program_start P) (of_text P).bound (map clock cores) whole.run.state) ∙ ticks);
      };
    }
