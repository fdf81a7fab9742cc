use Rattle.std.proofs.Common.{◌≡◌, ℕ, zero, suc, List, ◌∷◌, Option, Some, None, replicate, refl, ap, ◌∙◌}
use Rattle.xl_ends.specs.declared.sides.Side.{Side}
use Rattle.xc_meaning.specs.States.Channels as meaning
use Rattle.xl_ends.specs.Sides.{sides_of}
use Rattle.xl_ends.proofs.sides.no_sides.Goals as goal

none_each : (n : ℕ) → sides_of (replicate n None) ≡ replicate n None
none_each zero = refl
none_each (suc n) = ap (λ (sides : List (Option meaning.Side)). None ∷ sides) (none_each n)

only_none : (P : Option Side → Type 0) → ((side : Side) → P (Some side) → ⊥) → (side : Option Side) → P side → side ≡ None
only_none P not_some None h = refl
only_none P not_some (Some side) h = absurd (not_some side h)

pub returns : goal.returns
returns c =
    ap sides_of (c.from_vec.ensures ∙ c.in_ok-sides.ensures.items_if_clones_equal (only_none _ (λ side h. h)))
    ∙ none_each c.args.channels
