-- A link's item that is taken.
use Rattle.std.proofs.Common.{◌≡◌, ◌<◌, ℕ, List, [], ◌∷◌, length, Option, Some, None, MatchOption, sym, ap, ◌∙◌}
use Rattle.std.specs.Prelude.{slice_set, slice_index_or}
use Rattle.xs_instr.specs.declared.state.Item.{Item}
use Rattle.xs_instr.specs.Machine.{items_in, link_in, link_of, link_put_in}
use Rattle.xs_fabric.specs.OnLinks.{IsTaken, IsTakenFrom, items_at}
use Rattle.xs_fabric.specs.Rounds.{Links}
use Rattle.xs_core.proofs.Lists.{get_set, set_same}
use Rattle.xs_core.proofs.There.{there}

-- from one of the links out of a core
pub taken_from : (d : List Item) (out : List (List Item)) (b : ℕ) (result : Option Item) (new : List Item) → b < length out → MatchOption result ((slice_index_or out b d ≡ []) × (new ≡ [])) (λ item. slice_index_or out b d ≡ item ∷ new) → MatchOption result ((items_at out b ≡ []) × (slice_set out b new ≡ out)) (λ item. IsTakenFrom out b item (slice_set out b new))
taken_from d out b None new lt h =
    let here = there out b d lt in
    (ap items_in here ∙ h.0, ap (slice_set out b) (h.1 ∙ sym h.0) ∙ set_same out b (slice_index_or out b d) here)
taken_from d out b (Some item) new lt h =
    let here = there out b d lt in
    let is : items_at (slice_set out b new) b ≡ new = ap items_in (get_set out b (slice_index_or out b d) new here) in
    (ap items_in here ∙ h ∙ ap (λ x. item ∷ x) (sym is), ap (slice_set out b) (sym is))

-- and so from all the links
pub taken : (d : List (List Item)) (links : Links) (a b : ℕ) (result : Option Item) (out : List (List Item)) → a < length links → MatchOption result ((items_at (slice_index_or links a d) b ≡ []) × (out ≡ slice_index_or links a d)) (λ item. IsTakenFrom (slice_index_or links a d) b item out) → MatchOption result ((link_of links a b ≡ []) × (slice_set links a out ≡ links)) (λ item. IsTaken links a b item (slice_set links a out))
taken d links a b None out lt h =
    let here = there links a d lt in
    (ap (λ o. link_in o b) here ∙ h.0, ap (slice_set links a) h.1 ∙ set_same links a (slice_index_or links a d) here)
taken d links a b (Some item) out lt h =
    let here = there links a d lt in
    let is : link_of (slice_set links a out) a b ≡ items_at out b = ap (λ o. link_in o b) (get_set links a (slice_index_or links a d) out here) in (
      ap (λ o. link_in o b) here ∙ h.0 ∙ ap (λ x. item ∷ x) (sym is),
      ap (slice_set links a) (h.1 ∙ ap (slice_set (slice_index_or links a d) b) (sym is)) ∙ sym (ap (link_put_in links a b (link_of (slice_set links a out) a b)) here),
    )
