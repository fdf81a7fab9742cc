-- Where a thread takes no events: at the code of items, and where nothing is waited for.
use Rattle.std.proofs.Common.{◌≡◌, ℕ, [], ◌∷◌, List, Option, Some, refl, sym, ap, ◌∙◌, subst}
use Rattle.std.specs.Prelude.{Bool, false}
use Rattle.xs_instr.specs.declared.image.Code.{Code}
use Rattle.xs_instr.specs.declared.state.Regs.{Regs}
use Rattle.xs_instr.specs.declared.state.Thread.{Thread}
use Rattle.xc_meaning.specs.States.Branches.{Mode, runs}
use Rattle.xc_meaning.specs.States.Items.{Item, does, says, stores, stamps, mark, awaits, transaction_end, chooses, fixed, ends}
use Rattle.xl_expr.specs.declared.plan.Plan.{Plan}
use Rattle.xl_ends.specs.Ends.{Sides}
use Rattle.xl_statements.specs.Pieces.{Exit}
use Rattle.xr_simulation.specs.Items.{ItemsAt}
use Rattle.xr_simulation.specs.Runners.{Setting, Runner, code, plan}
use Rattle.xr_simulation.specs.ThreadViews.{running, running_so}
use Rattle.xr_simulation.specs.MatchStates.{EventsAre}
use Rattle.xr_simulation.specs.Transfers.{AwaitsNothing}
use Rattle.xr_simulation.specs.NextStep.{EndOf, ItemsFrom, is_watching}

-- the code of no item waits for an event
pub code_unwatched : (places : Plan) (image : Code) (sides : Sides) (End : (pc j : ℕ) → Type 0) (items : List Item) (exits : List Exit)
    (pc j : ℕ) → ItemsAt places image sides End items exits pc j → is_watching items ≡ false
code_unwatched places image sides End [] exits pc j h = refl
code_unwatched places image sides End (does s ∷ rest) exits pc j h = refl
code_unwatched places image sides End (says i ∷ rest) exits pc j h = refl
code_unwatched places image sides End (stores place v ∷ rest) exits pc j h = refl
code_unwatched places image sides End (stamps resource place v ∷ rest) exits pc j h = refl
code_unwatched places image sides End (mark n ∷ rest) exits pc j h = refl
code_unwatched places image sides End (awaits c pos ∷ rest) exits pc j h = refl
code_unwatched places image sides End (transaction_end c is_master pos ∷ rest) exits pc j h = refl
code_unwatched places image sides End (chooses choices otherwise ∷ rest) exits pc j h = absurd h.stands
code_unwatched places image sides End (fixed i v counter ∷ rest) exits pc j h = refl
code_unwatched places image sides End (ends ∷ rest) exits pc j h = refl

-- nor do items before which nothing is waited for
pub nothing_unwatched : (items : List Item) → AwaitsNothing items → is_watching items ≡ false
nothing_unwatched [] h = refl
nothing_unwatched (does s ∷ rest) h = refl
nothing_unwatched (says i ∷ rest) h = refl
nothing_unwatched (stores place v ∷ rest) h = refl
nothing_unwatched (stamps resource place v ∷ rest) h = refl
nothing_unwatched (mark n ∷ rest) h = refl
nothing_unwatched (awaits c pos ∷ rest) h = refl
nothing_unwatched (transaction_end c is_master pos ∷ rest) h = refl
nothing_unwatched (chooses choices otherwise ∷ rest) h = absurd h
nothing_unwatched (fixed i v counter ∷ rest) h = refl
nothing_unwatched (ends ∷ rest) h = refl

-- so a thread that takes none stands as it should at such items
pub here_at : (items : List Item) {o : Option Thread} {tie : Option ℕ} {pc : ℕ} {regs : Regs} → is_watching items ≡ false →
    o ≡ Some (running tie pc regs) → o ≡ Some (running_so (is_watching items) tie pc regs)
here_at items {tie = tie} {pc = pc} {regs = regs} none here = here ∙ ap (λ (bit : Bool). Some (running_so bit tie pc regs)) (sym none)

-- and the other way round
pub here_from : (items : List Item) {o : Option Thread} {tie : Option ℕ} {pc : ℕ} {regs : Regs} → is_watching items ≡ false →
    o ≡ Some (running_so (is_watching items) tie pc regs) → o ≡ Some (running tie pc regs)
here_from items {tie = tie} {pc = pc} {regs = regs} none here = here ∙ ap (λ (bit : Bool). Some (running_so bit tie pc regs)) none

-- a branch that runs says whether its thread takes events
pub events_on : (mode : Mode) (items : List Item) (bit : Bool) → mode ≡ runs → bit ≡ is_watching items → EventsAre mode items bit
events_on mode items bit on is = subst (λ m. EventsAre m items bit) (sym on) is

module _ (g : Setting) (r : Runner) where
  pub items_unwatched : (items : List Item) (exits : List Exit) (pc j : ℕ) → ItemsFrom g r items exits pc j → is_watching items ≡ false
  items_unwatched items exits pc j h = code_unwatched (plan g r) (code g r) r.sides (EndOf g r) items exits pc j h
