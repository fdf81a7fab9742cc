-- A branch whose next item is a transfer over a channel stands in a side of it, whose end is on the branch's core.
use Rattle.std.proofs.Common.{◌≡◌, ◌⊎◌, ⊎_elim, ◌<◌, ℕ, Bool, true, false, List, [], ◌∷◌, length, Option, Some, None, IsSome, IsTrue, refl, sym, ap, ◌∙◌, subst, inl, inr, eq-eqb}
use Rattle.std.specs.Prelude.{slice_get, slice_index_or}
use Rattle.xc_kernel.specs.declared.statement.KRes.{KRes}
use Rattle.xc_kernel.specs.declared.statement.KRes.TheVariants.{Port, Timer, Chan}
use Rattle.xc_kernel.specs.Plain as kernel
use Rattle.xc_kernel.specs.Things.{by_resource, channel}
use Rattle.xc_invariants.proofs.Always.{each_has_side}
use Rattle.xc_invariants.specs.Every.{AllItems}
use Rattle.xc_invariants.specs.Lawful.{Lawful, is_on}
use Rattle.xc_invariants.specs.Sided.{EachChoice, ItemBySide, SidedAt, UnsidedCases, UnsidedInput, UnsidedItem, UnsidedStatements}
use Rattle.xc_meaning.specs.States.Branches.{Branch, side_of}
use Rattle.xc_meaning.specs.States.Channels.{Side}
use Rattle.xc_meaning.specs.States.Items.{Choice, Item, awaits, chooses, does, ends, fixed, mark, says, stamps, stores, transaction_end}
use Rattle.xc_meaning.specs.States.Worlds.{World}
use Rattle.xr_simulation.specs.Fits.{AllFit, CasesFit, CountedInputFits, Fits, ItemsFit, PutsOutAt, TakesInAt}
use Rattle.xr_simulation.specs.Runners.{Setting, Runner}
use Rattle.xr_simulation.specs.NextStep.{CasesOnSides, ChoicesOnSides, IsOnSide, StandsInSides}
use Rattle.xr_simulation.proofs.Image.Sides.{cores_agree}

-- a truth value is one of the two
both_ways : (b : Bool) → b ≡ true → b ≡ false → ⊥
both_ways b t f = cc

-- some side
side_known : (side : Option Side) → IsSome side → (s : Side) × (side ≡ Some s)
side_known None h = absurd (cc)
side_known (Some s) h = (s, refl)

module _ (g : Setting) (r : Runner) where
  -- the first item is on a side of its channel, where it is a transfer over one, or a select with such cases
  abbrev pub FirstIsSided : List Item → Type 0
  FirstIsSided (does t ∷ rest) = StandsInSides g r t
  FirstIsSided (chooses choices otherwise ∷ rest) = ChoicesOnSides g r choices
  FirstIsSided items = Unit {0}

  module _ (x : World) (lawful : Lawful g.program x) (branch : Branch) (known : slice_get x.branches r.branch ≡ Some branch) (sides : branch.sides ≡ r.sides) (core : branch.core ≡ r.core) where
    -- the side of a channel in which the branch stands has its end on the runner's core
    on_side : (c : ℕ) → c < length g.program.channels → (s : Side) → side_of branch c ≡ Some s → IsOnSide g r (Chan c)
    on_side c lt s is = (
      s,
      ap (λ l. slice_index_or l c None) (sym sides) ∙ is,
      sym (cores_agree g.program c s) ∙ ((lawful.on_sides c lt).each r.branch branch known).stands s is ∙ core,
    )

    -- that of a channel on which the next item is
    on_channel : (item : Item) (rest : List Item) → branch.items ≡ item ∷ rest → (c : ℕ) → c < length g.program.channels → IsTrue (is_on c item) → IsOnSide g r (Chan c)
    on_channel item rest items c lt on =
        let s = side_known (side_of branch c) (each_has_side g.program x lawful r.branch branch item rest known items c lt on) in
        on_side c lt s.0 s.1

    -- that of an output
    output_sided : (o : kernel.Output) (rest : List Item) → branch.items ≡ does (kernel.output o) ∷ rest → (res : KRes) → o.resource ≡ res → PutsOutAt g r res → IsOnSide g r res
    output_sided o rest items (Port p) is fits = tt
    output_sided o rest items (Timer t) is fits = tt
    output_sided o rest items (Chan c) is fits = on_channel (does (kernel.output o)) rest items c fits.known (ap (by_resource (channel c)) is ∙ eq-eqb c c refl)

    -- and of an input
    input_sided : (i : kernel.Input) (rest : List Item) → branch.items ≡ does (kernel.input i) ∷ rest → (res : KRes) → i.resource ≡ res → TakesInAt g r res → IsOnSide g r res
    input_sided i rest items (Port p) is fits = tt
    input_sided i rest items (Timer t) is fits = tt
    input_sided i rest items (Chan c) is fits = on_channel (does (kernel.input i)) rest items c fits.known (ap (by_resource (channel c)) is ∙ eq-eqb c c refl)

    -- of a channel of the kernel's the branch has a side, or its next item uses the channel in `par`s alone
    abbrev IsSidedOr : (Unsided : ℕ → Type 0) → Type 0
    IsSidedOr Unsided = (c : ℕ) → c < length g.program.channels → IsOnSide g r (Chan c) ⊎ Unsided c

    sided_or : (item : Item) (rest : List Item) → branch.items ≡ item ∷ rest → IsSidedOr (λ c. UnsidedItem c item)
    sided_or item rest items c lt =
        let all = subst (AllItems (SidedAt c r.branch branch.sides)) items ((lawful.sided c lt).all r.branch branch known) in
        by (slice_index_or branch.sides c None) refl all.0
      where
        by : (side : Option Side) → slice_index_or branch.sides c None ≡ side → ItemBySide c side item → IsOnSide g r (Chan c) ⊎ UnsidedItem c item
        by None e h = inr h
        by (Some s) e h = inl (on_side c lt s e)

    -- the input of a case
    case_sided : (i : kernel.Input) → IsSidedOr (λ c. UnsidedInput c i) → (res : KRes) → i.resource ≡ res → TakesInAt g r res → IsOnSide g r res
    case_sided i or (Port p) is fits = tt
    case_sided i or (Timer t) is fits = tt
    case_sided i or (Chan c) is fits =
        ⊎_elim (λ on. on) (λ off. absurd (both_ways (by_resource (channel c) i.resource) (ap (by_resource (channel c)) is ∙ eq-eqb c c refl) off))
        (or c fits.known)

    cases_sided : (cs : kernel.Cases) → IsSidedOr (λ c. UnsidedCases c cs) → CasesFit g r cs → CasesOnSides g r cs
    cases_sided kernel.no_case or fits = tt
    cases_sided (kernel.more_cases (kernel.case guard i ss) cs) or fits = (
      case_sided i (λ c lt. ⊎_elim (λ on. inl on) (λ off. inr off.0.0) (or c lt)) i.resource refl fits.0.1.0.from,
      cases_sided cs (λ c lt. ⊎_elim (λ on. inl on) (λ off. inr off.1) (or c lt)) fits.1,
    )

    -- and of a select whose enabled cases are known
    choices_sided : (cs : List Choice) → IsSidedOr (λ c. EachChoice (UnsidedInput c) (UnsidedStatements c) cs) →
        EachChoice (CountedInputFits g r) (AllFit g r) cs → ChoicesOnSides g r cs
    choices_sided [] or fits = tt
    choices_sided (a ∷ cs) or fits = (
      case_sided a.input (λ c lt. ⊎_elim (λ on. inl on) (λ off. inr off.0) (or c lt)) a.input.resource refl fits.0.0.from,
      choices_sided cs (λ c lt. ⊎_elim (λ on. inl on) (λ off. inr off.2) (or c lt)) fits.2,
    )

    statement_sided : (t : kernel.Statement) (rest : List Item) → branch.items ≡ does t ∷ rest → Fits g r t → StandsInSides g r t
    statement_sided (kernel.set_zero v) rest items fits = tt
    statement_sided (kernel.set place e) rest items fits = tt
    statement_sided (kernel.output o) rest items fits = output_sided o rest items o.resource refl fits.0.to
    statement_sided (kernel.input i) rest items fits = input_sided i rest items i.resource refl fits.0.from
    statement_sided (kernel.if_then e a b) rest items fits = tt
    statement_sided (kernel.loop e a b) rest items fits = tt
    statement_sided (kernel.block n a) rest items fits = tt
    statement_sided (kernel.exit n) rest items fits = tt
    statement_sided (kernel.select cases otherwise pos) rest items fits =
        cases_sided cases (λ c lt. ⊎_elim (λ on. inl on) (λ off. inr off.0) (sided_or (does (kernel.select cases otherwise pos)) rest items c lt)) fits.0
    statement_sided (kernel.par bs) rest items fits = tt
    statement_sided (kernel.transaction c is_master ss start close) rest items fits = tt

    -- whatever is next
    pub first_sided : (items : List Item) → branch.items ≡ items → ItemsFit g r items → FirstIsSided items
    first_sided [] is fits = tt
    first_sided (does t ∷ rest) is fits = statement_sided t rest is fits.0
    first_sided (says i ∷ rest) is fits = tt
    first_sided (stores place v ∷ rest) is fits = tt
    first_sided (stamps resource place v ∷ rest) is fits = tt
    first_sided (mark n ∷ rest) is fits = tt
    first_sided (awaits c pos ∷ rest) is fits = tt
    first_sided (transaction_end c is_master pos ∷ rest) is fits = tt
    first_sided (chooses choices otherwise ∷ rest) is fits =
        choices_sided choices (λ c lt. ⊎_elim (λ on. inl on) (λ off. inr off.0) (sided_or (chooses choices otherwise) rest is c lt)) fits.0.0
    first_sided (fixed i value counter ∷ rest) is fits = tt
    first_sided (ends ∷ rest) is fits = tt
