-- The link at two places, as it is read and set there.
use Rattle.std.proofs.Common.{◌≡◌, ◌<◌, ◌∙◌, ℕ, List, [], length, sym, ap}
use Rattle.std.specs.Prelude.{slice_index_or, slice_set}
use Rattle.xs_instr.specs.declared.state.Item.{Item}
use Rattle.xs_instr.specs.Machine.{items_in, link_in, link_of, link_put, link_put_in}
use Rattle.xs_fabric.specs.Rounds.{Links}
use Rattle.xs_core.proofs.There.{there}

pub at_link : (links : Links) (a b : ℕ) (d : List Item) → a < length links → b < length (slice_index_or links a []) → slice_index_or (slice_index_or links a []) b d ≡ link_of links a b
at_link links a b d la lb =
    sym (ap (λ o. link_in o b) (there links a [] la) ∙ ap items_in (there (slice_index_or links a []) b d lb))

pub set_link : (links : Links) (a b : ℕ) (new : List Item) → a < length links → slice_set links a (slice_set (slice_index_or links a []) b new) ≡ link_put links a b new
set_link links a b new la = sym (ap (link_put_in links a b new) (there links a [] la))
