-- A transfer's code, by its resource and its end.
use Rattle.std.proofs.Common.{◌≡◌, ℕ, true, List, [], length, Option, Some, Result, Ok, Err, OnOk, sym, subst}
use Rattle.xw_words.specs.declared.pos.Pos.{Pos}
use Rattle.xc_kernel.specs.declared.statement.KRes.{KRes}
use Rattle.xc_kernel.specs.declared.statement.KRes.TheVariants.{Port, Timer, Chan}
use Rattle.xc_kernel.specs.Plain as kernel
use Rattle.xs_instr.specs.Adds.{Adds}
use Rattle.xs_instr.specs.Lines.{Line}
use Rattle.xl_chan.specs.Transfers.{Receives, SendsValue}
use Rattle.xl_expr.specs.declared.plan.Plan.{Plan}
use Rattle.xl_expr.specs.Targets.{AreAimed}
use Rattle.xl_port.specs.Inputs.{Inputs}
use Rattle.xl_port.specs.Outputs.{Outputs}
use Rattle.xl_port.specs.TimerInputs.{TimerInputs}
use Rattle.xl_ends.specs.Ends.{Sides, end_at}
use Rattle.xl_statements.specs.Cells.{Cell}
use Rattle.xl_statements.specs.Emits.{AreLines, ByEnd, Coded, Emits, Emitted, InputEmits, OutputEmits}
use Rattle.xl_statements.proofs.Parts.{emitted_as, piece_emitted}

-- lines that were added, as code
piece_is : {A B : Type 0} (r : Result A B) (P : ℕ → List Line → Type 0) (Code : Coded) (old new : List Line) → ((last : Pos) (pc : ℕ) (cells : List Cell) → AreLines P last pc cells → Code last pc cells) → OnOk r (Adds old new (P (length old))) → OnOk r (Adds old new (AreAimed (length old))) → OnOk r (Emitted Code old new [] [])
piece_is (Ok x) P Code old new f h g = emitted_as (AreLines P) Code old new [] [] f (piece_emitted P old new [] h g)
piece_is (Err x) P Code old new f h g = tt

module _ {A B : Type 0} (r : Result A B) (plan : Plan) (sides : Sides) (old new : List Line) where
  pub put_out : (o : kernel.Output) (p : ℕ) → o.resource ≡ Port p → OnOk r (Adds old new (Outputs plan o (length old))) →
      OnOk r (Adds old new (AreAimed (length old))) → OnOk r (Emitted (Emits plan sides (kernel.output o)) old new [] [])
  put_out o p port =
      piece_is r (Outputs plan o) (Emits plan sides (kernel.output o)) old new
      (λ last pc cells h. subst (λ (resource : KRes). OutputEmits plan sides o resource last pc cells) (sym port) h)

  pub sent : (o : kernel.Output) (c end : ℕ) → o.resource ≡ Chan c → end_at plan.channels sides c ≡ Some end → OnOk r (Adds old new (SendsValue plan end o.value true o.pos (length old))) → OnOk r (Adds old new (AreAimed (length old))) → OnOk r (Emitted (Emits plan sides (kernel.output o)) old new [] [])
  sent o c end channel at_end =
      piece_is r (SendsValue plan end o.value true o.pos) (Emits plan sides (kernel.output o)) old new
      (λ last pc cells h. subst (λ (resource : KRes). OutputEmits plan sides o resource last pc cells) (sym channel)
      (subst (λ (e : Option ℕ). ByEnd (λ n. SendsValue plan n o.value true o.pos) e last pc cells) (sym at_end) h))

  pub port_in_emitted : (i : kernel.Input) (p : ℕ) → i.resource ≡ Port p → OnOk r (Adds old new (Inputs plan i (length old))) →
      OnOk r (Adds old new (AreAimed (length old))) → OnOk r (Emitted (Emits plan sides (kernel.input i)) old new [] [])
  port_in_emitted i p port =
      piece_is r (Inputs plan i) (Emits plan sides (kernel.input i)) old new
      (λ last pc cells h. subst (λ (resource : KRes). InputEmits plan sides i resource last pc cells) (sym port) h)

  pub timer_in_emitted : (i : kernel.Input) (n : ℕ) → i.resource ≡ Timer n → OnOk r (Adds old new (TimerInputs plan i (length old))) →
      OnOk r (Adds old new (AreAimed (length old))) → OnOk r (Emitted (Emits plan sides (kernel.input i)) old new [] [])
  timer_in_emitted i n timer =
      piece_is r (TimerInputs plan i) (Emits plan sides (kernel.input i)) old new
      (λ last pc cells h. subst (λ (resource : KRes). InputEmits plan sides i resource last pc cells) (sym timer) h)

  pub received : (i : kernel.Input) (c end : ℕ) → i.resource ≡ Chan c → end_at plan.channels sides c ≡ Some end → OnOk r (Adds old new (Receives plan end i.target true i.pos (length old))) → OnOk r (Adds old new (AreAimed (length old))) → OnOk r (Emitted (Emits plan sides (kernel.input i)) old new [] [])
  received i c end channel at_end =
      piece_is r (Receives plan end i.target true i.pos) (Emits plan sides (kernel.input i)) old new
      (λ last pc cells h. subst (λ (resource : KRes). InputEmits plan sides i resource last pc cells) (sym channel)
      (subst (λ (e : Option ℕ). ByEnd (λ n. Receives plan n i.target true i.pos) e last pc cells) (sym at_end) h))
