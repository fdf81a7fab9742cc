-- What the steps that are left of a transfer say of a thread's next slot, and what stands behind each of them.
use Rattle.std.proofs.Common.{◌≡◌, ℕ, ◌+◌, true, List, [], ◌∷◌, Option, Some}
use Rattle.std.specs.Prelude.{slice_get}
use Rattle.xw_words.specs.declared.pos.Pos.{Pos}
use Rattle.xs_instr.specs.declared.image.Home.{Home}
use Rattle.xs_instr.specs.declared.instr.Reg.{Reg}
use Rattle.xs_instr.specs.declared.instr.Reg.TheVariants.{R0}
use Rattle.xs_instr.specs.declared.state.ChanEnd.{ChanEnd}
use Rattle.xs_instr.specs.declared.state.CoreState.{CoreState}
use Rattle.xs_instr.specs.declared.state.Regs.{Regs}
use Rattle.xs_instr.specs.declared.state.Token.{Token}
use Rattle.xs_instr.specs.declared.trace.Record.TheVariants.{Fault}
use Rattle.xs_instr.specs.declared.trace.Trap.TheVariants.{Mismatch}
use Rattle.xs_instr.specs.Did.{map_did}
use Rattle.xs_instr.specs.Ends.{control_token, ins_control, ins_word, outs, word_tokens}
use Rattle.xs_instr.specs.Registers.{reg_set}
use Rattle.xs_instr.specs.Rows.{gets_with, goes_with, put_ends}
use Rattle.xs_instr.specs.Slot.{fault_of, slot}
use Rattle.xc_kernel.specs.Plain as kernel
use Rattle.xc_meaning.specs.States.Channels.{Side}
use Rattle.xc_meaning.specs.States.Items.{Item, awaits, chooses, does, ends, fixed, mark, says, storing, stores, stamps, transaction_end}
use Rattle.xl_chan.specs.Protocols.{END, Act, Acts, ActsAll, Behind, input_acts, output_acts, sends, takes, takes_word}
use Rattle.xl_statements.specs.Pieces.{Exit}
use Rattle.xr_simulation.specs.Runners.{Setting, Runner, end_place, home}
use Rattle.xr_simulation.specs.ThreadViews.{running}
use Rattle.xr_simulation.specs.Transfers.{AwaitsNothing, acts_left}
use Rattle.xr_simulation.specs.NextStep.{HasBases, IsBehind, ItemsFrom, TakesSteps}
use Rattle.xr_channels.specs.Phases.{awaits_ack, checks_end, offers, sends_ack, sends_end}
use Rattle.xr_simulation.proofs.RelyGuarantee.Events.{items_unwatched}
use Rattle.xr_simulation.proofs.RelyGuarantee.Stands.{items_stand}

-- Steps of a protocol don't depend on where the thread began it.
module _ (h : Home) (t e : ℕ) (tie : Option ℕ) (pos : Pos) (pc pc' : ℕ) (regs regs' : Regs) where
  -- one step
  acts_from : (act : Act) (index : ℕ) (rs : Regs) → Acts h t e (running tie pc regs) pos act index rs → Acts h t e (running tie pc' regs') pos act index rs
  acts_from (sends tokens) index rs a = record { by = a.by; faults = a.faults }
  acts_from (takes_word to) index rs a = record { by = a.by; faults = a.faults }
  acts_from (takes control) index rs a = record { by = a.by; faults = a.faults }

  -- what holds of the registers behind it
  behind_from : (act : Act) (P P' : Regs → Type 0) (rs : Regs) → ((u : Regs) → P u → P' u) →
      Behind h t e (running tie pc regs) pos act P rs → Behind h t e (running tie pc' regs') pos act P' rs
  behind_from (sends tokens) P P' rs f b = f rs b
  behind_from (takes_word to) P P' rs f b = λ v. f (reg_set rs to v) (b v)
  behind_from (takes control) P P' rs f b = f rs b

  -- all of them
  pub all_from : (acts : List Act) (Q : ℕ → Regs → Type 0) (index : ℕ) (rs : Regs) → ActsAll h t e (running tie pc regs) pos acts Q index rs →
      ActsAll h t e (running tie pc' regs') pos acts Q index rs
  all_from [] Q index rs a = a
  all_from (act ∷ acts) Q index rs a = (
    acts_from act index rs a.0,
    behind_from act (ActsAll h t e (running tie pc regs) pos acts Q (index + 1)) (ActsAll h t e (running tie pc' regs') pos acts Q (index + 1)) rs
        (λ u. all_from acts Q (index + 1) u) a.1,
  )

module _ (g : Setting) (r : Runner) (c : ℕ) (side : Side) (pos : Pos) (P : ℕ → Regs → Type 0) (pc : ℕ) (regs : Regs) where
  -- The next slot, in any core in which the thread stands there and the end is there.

  -- where tokens are to be sent
  pub sends_slot : (tokens : List Token) (acts : List Act) → TakesSteps g r c side pos (sends tokens ∷ acts) P pc regs → (a : CoreState) (end : ChanEnd) →
      slice_get a.threads r.thread ≡ Some (running r.tie pc regs) → slice_get a.ends (end_place g r c side) ≡ Some end →
      slot (home g r) a r.thread ≡ map_did (goes_with put_ends a r.thread (running r.tie pc regs)) (outs (home g r) a.clock tokens a.ends (end_place g r c side) end)
  sends_slot tokens acts steps a end here there = steps.0.by a end here there

  -- where a word is to come to a register
  pub word_slot : (to : Reg) (acts : List Act) → TakesSteps g r c side pos (takes_word to ∷ acts) P pc regs → (a : CoreState) (end : ChanEnd) →
      slice_get a.threads r.thread ≡ Some (running r.tie pc regs) → slice_get a.ends (end_place g r c side) ≡ Some end →
      slot (home g r) a r.thread ≡ map_did (gets_with put_ends a r.thread (running r.tie pc regs) to) (ins_word (home g r) a.clock a.ends (end_place g r c side) end)
  word_slot to acts steps a end here there = steps.0.by a end here there

  -- where a control token is to come
  pub takes_slot : (control : ℕ) (acts : List Act) → TakesSteps g r c side pos (takes control ∷ acts) P pc regs → (a : CoreState) (end : ChanEnd) →
      slice_get a.threads r.thread ≡ Some (running r.tie pc regs) → slice_get a.ends (end_place g r c side) ≡ Some end →
      slot (home g r) a r.thread ≡ map_did (goes_with put_ends a r.thread (running r.tie pc regs)) (ins_control (home g r) a.clock control a.ends (end_place g r c side) end)
  takes_slot control acts steps a end here there = steps.0.by a end here there

  -- where it traps, it does so at the place of the transfer
  pub fault_at : (act : Act) (acts : List Act) → TakesSteps g r c side pos (act ∷ acts) P pc regs → (a : CoreState) →
      slice_get a.threads r.thread ≡ Some (running r.tie pc regs) → fault_of (home g r) a r.thread Mismatch ≡ Fault r.core pos Mismatch
  fault_at act acts steps a here = steps.0.faults a here

  -- Behind a step stand the other ones, from the next index on.

  pub behind_sent : (tokens : List Token) (acts : List Act) → TakesSteps g r c side pos (sends tokens ∷ acts) P pc regs → TakesSteps g r c side pos acts P (pc + 1) regs
  behind_sent tokens acts steps = all_from (home g r) r.thread (end_place g r c side) r.tie pos pc (pc + 1) regs regs acts P (pc + 1) regs steps.1

  pub behind_taken : (control : ℕ) (acts : List Act) → TakesSteps g r c side pos (takes control ∷ acts) P pc regs → TakesSteps g r c side pos acts P (pc + 1) regs
  behind_taken control acts steps = all_from (home g r) r.thread (end_place g r c side) r.tie pos pc (pc + 1) regs regs acts P (pc + 1) regs steps.1

  pub behind_word : (to : Reg) (acts : List Act) → TakesSteps g r c side pos (takes_word to ∷ acts) P pc regs → (v : ℕ) →
      TakesSteps g r c side pos acts P (pc + 1) (reg_set regs to v)
  behind_word to acts steps v =
      all_from (home g r) r.thread (end_place g r c side) r.tie pos pc (pc + 1) regs (reg_set regs to v) acts P (pc + 1) (reg_set regs to v) (steps.1 v)

  -- By phases.

  -- the offer
  pub offer_sent : (v : ℕ) → TakesSteps g r c side pos (output_acts v true) P pc regs → TakesSteps g r c side pos (acts_left (sends_end v)) P (pc + 1) regs
  offer_sent v steps = behind_sent (word_tokens v) (acts_left (sends_end v)) steps

  -- its end
  pub end_sent : (v : ℕ) → TakesSteps g r c side pos (acts_left (sends_end v)) P pc regs →
      TakesSteps g r c side pos (acts_left (awaits_ack (offers v))) P (pc + 1) regs
  end_sent v steps = behind_sent (control_token END ∷ []) (acts_left (awaits_ack (offers v))) steps

  -- the end of an offer whose word has come in
  pub end_taken : TakesSteps g r c side pos (acts_left checks_end) P pc regs → TakesSteps g r c side pos (acts_left sends_ack) P (pc + 1) regs
  end_taken steps = behind_taken END (acts_left sends_ack) steps

  -- and the answer
  pub ack_sent : TakesSteps g r c side pos (acts_left sends_ack) P pc regs → P (pc + 1) regs
  ack_sent steps = steps.1

-- the word of an offer has come in: what stands behind the input stores this word
pub word_come : (g : Setting) (r : Runner) (c : ℕ) (side : Side) (pos : Pos) (target : Option kernel.Place) (rest : List Item) (j pc : ℕ) (regs : Regs) (v : ℕ) →
    TakesSteps g r c side pos (input_acts R0 true) (λ index last. IsBehind g r (storing target last.r0 rest) j index last) pc regs →
    TakesSteps g r c side pos (acts_left checks_end) (IsBehind g r (storing target v rest) j) (pc + 1) (reg_set regs R0 v)
word_come g r c side pos target rest j pc regs v steps =
    behind_word g r c side pos (λ index last. IsBehind g r (storing target last.r0 rest) j index last) pc regs R0 (acts_left checks_end) steps v

-- What stands behind a transfer.
module _ (g : Setting) (r : Runner) where
  -- where the code of items stands, no answer is awaited first
  pub nothing_awaited : (items : List Item) (exits : List Exit) (pc j : ℕ) → ItemsFrom g r items exits pc j → AwaitsNothing items
  nothing_awaited [] exits pc j h = absurd h
  nothing_awaited (does t ∷ rest) exits pc j h = tt
  nothing_awaited (mark n ∷ rest) exits pc j h = tt
  nothing_awaited (says i ∷ rest) exits pc j h = tt
  nothing_awaited (stores place v ∷ rest) exits pc j h = tt
  nothing_awaited (stamps resource place v ∷ rest) exits pc j h = tt
  nothing_awaited (awaits c pos ∷ rest) exits pc j h = absurd h.stands
  nothing_awaited (transaction_end c is_master pos ∷ rest) exits pc j h = tt
  nothing_awaited (chooses choices otherwise ∷ rest) exits pc j h = absurd h.stands
  nothing_awaited (fixed i v counter ∷ rest) exits pc j h = tt
  nothing_awaited (ends ∷ rest) exits pc j h = tt

  -- the code of items may stand there
  pub behind_of_items : (items : List Item) (exits : List Exit) (pc j : ℕ) (regs : Regs) → HasBases g r regs → ItemsFrom g r items exits pc j → IsBehind g r items j pc regs
  behind_of_items items exits pc j regs bases h = (
    bases,
    items_unwatched g r items exits pc j h,
    λ core. items_stand g r items exits pc j regs core h,
  )
