-- A thread on its way through the cases of a select.
use Rattle.std.proofs.Common.{◌≡◌, ℕ, List, [], ◌∷◌, ◌++◌, refl, sym, ap, append_assoc}
use Rattle.xw_words.specs.declared.pos.Pos.{Pos}
use Rattle.xs_instr.specs.declared.state.CoreState.{CoreState}
use Rattle.xs_instr.specs.declared.state.Regs.{Regs}
use Rattle.xc_kernel.specs.declared.statement.KRes.{KRes}
use Rattle.xc_kernel.specs.Values.{ErrorKind}
use Rattle.xc_meaning.specs.Settings.Select.{Enabled, these, wrong}
use Rattle.xc_meaning.specs.States.Items.{Choice}
use Rattle.xl_expr.specs.PartSteps.{KeptParts}
use Rattle.xl_expr.specs.Works.{Errs}
use Rattle.xl_select.proofs.Along.{with_first}
use Rattle.xl_select.proofs.Flags.{Flags, Known}
use Rattle.xl_select.proofs.Moves.{Opener, Stands, its_own}
use Rattle.xl_select.proofs.SetUp.{SetUp}
use Rattle.xl_select.proofs.Values.{Both}

-- It stands at an index: cases that are done are set up, the resources named so far have flags, which tell those that are enabled, and r9
-- has the word of a flag that is set.
pub record Passing (o : Opener) (seen on : List KRes) (done : List Choice) (pc : ℕ) (b : CoreState) : Type 0 where
  pub regs : Regs
  pub stands : Stands o (Both (SetUp o done) (Flags o.s seen on)) pc regs b
  pub one : regs.r9 ≡ 1
  pub known : Known seen on done

-- enabled cases behind those that are done

abbrev pub after_done : List Choice → Enabled → Enabled
after_done done (these cs) = these (done ++ cs)
after_done done (wrong kind pos) = wrong kind pos

pub one_more_done : (done : List Choice) (c : Choice) (e : Enabled) → after_done done (with_first c e) ≡ after_done (done ++ c ∷ []) e
one_more_done done c (these cs) = ap these (sym (append_assoc done (c ∷ []) cs))
one_more_done done c (wrong kind pos) = refl

-- an outcome where an error is one of the thread's next step
pub record TakesErrors (o : Opener) (Outcome : Enabled → CoreState → Type 0) : Type 0 where
  pub by : (kind : ErrorKind) (pos : Pos) (b : CoreState) →
      ((c : CoreState) → KeptParts o.relied (its_own o) o.t b c → Errs o.home o.t kind pos c) → Outcome (wrong kind pos) b
