use Rattle.std.proofs.Common.{◌≡◌, ◌≤◌, ◌+◌, ◌∙◌, ℕ, true, List, [], ◌∷◌, Option, Some, drop, refl, sym, ap, subst}
use Rattle.std.specs.Prelude.{MatchOption, slice_get}
use Rattle.std.proofs.lemmas.Bool.{le-leb}
use Rattle.xs_instr.specs.declared.state.Item.{Item}
use Rattle.xs_fabric.specs.Lockstep.{due_of, is_due}
use Rattle.xs_fabric.proofs.Dues.{due_later, due_none}
use Rattle.xs_fabric.proofs.link.Link.take_due.Goals as goal

-- the first item is taken, and it is due
first_taken : (clock : ℕ) (old new : List Item) (i : Item) (result : Option Item) →
    slice_get old 0 ≡ Some i → result ≡ slice_get old 0 → new ≡ drop 1 old → i.tick + 8 ≤ clock →
    MatchOption result ((due_of clock old ≡ []) × (new ≡ old)) (λ item. (old ≡ item ∷ new) × (is_due clock item ≡ true))
first_taken clock [] new i result there taken rest due = absurd (let z : ⊥ = cc in z)
first_taken clock (x ∷ old) new i result there taken rest due =
    let same : x ≡ i = cc in
    let is : is_due clock x ≡ true = ap (is_due clock) same ∙ le-leb (i.tick + 8) clock due in
    subst (λ o. MatchOption o ((due_of clock (x ∷ old) ≡ []) × (new ≡ x ∷ old)) (λ item. (x ∷ old ≡ item ∷ new) × (is_due clock item ≡ true)))
    (sym taken)
    (ap (λ l. x ∷ l) (sym rest), is)

pub returns-in-None : goal.returns-in-None
returns-in-None c =
    (due_none c.args.clock c.args.self.now (ap (λ l. slice_get l 0) (sym c.self.view_is) ∙ sym c.in-None.ensures), refl)

pub returns-then-first-clock : goal.returns-then-first-clock
returns-then-first-clock c =
    let old = c.self.inside.items.items in
    let new = c.pop_front.new.self.items in
    let clock = c.args.clock in
    let taken = c.pop_front.ensures in
    let first = sym c.in-Some.ensures in
    subst
    (λ l. MatchOption c.pop_front.result ((due_of clock l ≡ []) × (new ≡ l)) (λ item. (l ≡ item ∷ new) × (is_due clock item ≡ true)))
    c.self.view_is
    (first_taken clock old new c.in-Some.first.now c.pop_front.result first taken.value (ap (λ b. b.items) taken.items) c.if-first-clock.true)

pub returns-else-first-clock : goal.returns-else-first-clock
returns-else-first-clock c =
    let there = ap (λ l. slice_get l 0) (sym c.self.view_is) ∙ sym c.in-Some.ensures in
    (due_later c.args.clock c.args.self.now c.in-Some.first.now there c.if-first-clock.false, refl)
