-- Each step of a run has its outline.
use Rattle.std.proofs.Common.{◌≡◌, ℕ, IsTrue, Bool, true, false, List, [], ◌∷◌, Option, Some, None, slice_get, nat_lt, refl, ap, subst, ◌∙◌}
use Rattle.xs_instr.specs.declared.image.Stim.{Stim}
use Rattle.xs_instr.specs.Machine.{and_then}
use Rattle.xs_instr.specs.Slot.{last_clock}
use Rattle.xc_kernel.specs.Plain as kernel
use Rattle.xc_meaning.specs.States.Items.{TextItem, Item, says}
use Rattle.xc_meaning.specs.States.Branches.{Mode, runs, waits, ended, erred, Branch}
use Rattle.xc_meaning.specs.States.Worlds.{World, only_if, Action, clock, go, take, default}
use Rattle.xc_meaning.specs.Settings.Setting.{Setting}
use Rattle.xc_meaning.specs.Settings.Par.{all_done}
use Rattle.xc_meaning.specs.Settings.Select.{takes, takes_default}
use Rattle.xc_meaning.specs.Runs.{does_item, step_of, does_first, goes_by, selects_by, goes, selects, acts}
use Rattle.xc_meaning.specs.Outline.{Outlined, Moved, ticked, stepped, joined}
use Rattle.xc_meaning.proofs.Basics.{some_given, none_given}
use Rattle.xc_meaning.proofs.Outlines.{Outlines, item_outlined, takes_outlined, default_outlined}

-- the first item of a branch is none of a text's
pub record NoText (x : World) : Type 0 where
  pub first : (n : ℕ) (b : Branch) (i : TextItem) (rest : List Item) → slice_get x.branches n ≡ Some b → b.items ≡ says i ∷ rest → ⊥

module _ (K : kernel.Kernel) (s : Stim) (x : World) where
  if_moved : (c : Bool) (y : World) {z : World} → only_if c y ≡ Some z → (IsTrue c → Moved K s x y) → Moved K s x z
  if_moved true y e h = subst (Moved K s x) (some_given e) (h refl)
  if_moved false y e h = none_given e

  outlined_of : {st : Setting} {item : Item} (o : Option World) {y : World} → o ≡ Some y → Outlines st item o → Outlined st item y
  outlined_of {st} {item} o e h = subst (Outlines st item) e h

  module _ (n : ℕ) (b : Branch) (is : slice_get x.branches n ≡ Some b) where
    first_moved : (step : Setting → Item → Option World) → ((rest : List Item) (item : Item) → b.items ≡ item ∷ rest → Outlines (step_of K s x n b rest) item (step (step_of K s x n b rest) item)) →
        b.mode ≡ runs → (items : List Item) → b.items ≡ items → {y : World} → does_first K s x n b step items ≡ Some y → Moved K s x y
    first_moved step h em [] ei e = none_given e
    first_moved step h em (item ∷ rest) ei {y} e = stepped n b item rest y is em ei (outlined_of (step (step_of K s x n b rest) item) e (h rest item ei))

    go_moved : NoText x → (mode : Mode) → b.mode ≡ mode → {y : World} → goes_by K s x n b mode ≡ Some y → Moved K s x y
    go_moved h runs em e = first_moved does_item (λ rest item ei. item_outlined (step_of K s x n b rest) item (λ i f. h.first n b i rest is (ei ∙ ap (λ j. j ∷ rest) f))) em b.items refl e
    go_moved h (waits from count) em e = if_moved (all_done x from count) _ e (λ d. joined n b from count is em d)
    go_moved h ended em e = none_given e
    go_moved h erred em e = none_given e

    select_moved : (step : Setting → Item → Option World) → ((st : Setting) (item : Item) → Outlines st item (step st item)) →
        (mode : Mode) → b.mode ≡ mode → {y : World} → selects_by K s x n step b mode ≡ Some y → Moved K s x y
    select_moved step h runs em e = first_moved step (λ rest item ei. h (step_of K s x n b rest) item) em b.items refl e
    select_moved step h (waits from count) em e = none_given e
    select_moved step h ended em e = none_given e
    select_moved step h erred em e = none_given e

  tick_moved : (core : ℕ) (c : Option ℕ) {y : World} → and_then c (Rattle.xc_meaning.specs.Settings.Time.ticks x core) ≡ Some y → Moved K s x y
  tick_moved core None e = none_given e
  tick_moved core (Some c) e = if_moved (nat_lt c last_clock) _ e (λ h. ticked _)

  branch_moved : (n : ℕ) (o : Option Branch) → slice_get x.branches n ≡ o → (f : Branch → Option World) → {y : World} → and_then o f ≡ Some y →
      ((b : Branch) → slice_get x.branches n ≡ Some b → f b ≡ Some y → Moved K s x y) → Moved K s x y
  branch_moved n None is f e h = none_given e
  branch_moved n (Some b) is f e h = h b is e

  pub moved : NoText x → (m : Action) {y : World} → acts K s x m ≡ Some y → Moved K s x y
  moved h (clock core) e = tick_moved core (slice_get x.clocks core) e
  moved h (go n) e = branch_moved n (slice_get x.branches n) refl (goes K s x n) e (λ b is f. go_moved n b is h b.mode refl f)
  moved h (take n k) e = branch_moved n (slice_get x.branches n) refl (selects K s x n (λ st. takes st k)) e (λ b is f. select_moved n b is (λ st. takes st k) (λ st item. takes_outlined st k item) b.mode refl f)
  moved h (default n) e = branch_moved n (slice_get x.branches n) refl (selects K s x n takes_default) e (λ b is f. select_moved n b is takes_default default_outlined b.mode refl f)
