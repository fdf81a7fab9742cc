use Rattle.std.proofs.Common.{◌≡◌, ℕ, Bor, List, Option, Some, None, rules, sym, ap, ap₂, ◌∙◌}
use Rattle.std.specs.Prelude.{option_copied, option_map, slice_get, slice_index_or}
use Rattle.std.specs.Slice.{IsItemAt}
use Rattle.std.proofs.lemmas.Option.{slice_get-get_or, slice_get_past}
use Rattle.xl_expr.specs.declared.plan.EndPlaces.{EndPlaces}
use Rattle.xl_ends.specs.declared.sides.Side.{Side}
use Rattle.xl_ends.specs.declared.sides.Side.TheVariants.{First, Second}
use Rattle.xl_ends.specs.Ends.{end_at, end_of_side}
use Rattle.xl_ends.specs.Sides.{side_of, sides_of}
use Rattle.xl_ends.proofs.sides.end_at.Goals as goal

-- the places that are lent are those at the number
places_at : (xs : List EndPlaces) (i : ℕ) (r : Option (Bor EndPlaces)) → IsItemAt xs i r → option_copied r ≡ slice_get xs i
places_at xs i None h = sym (slice_get_past xs i h.3)
places_at xs i (Some x) h = sym (slice_get-get_or xs i x.now h.3.0 ∙ ap Some (sym h.1))

-- the end's place, by the places and by the side
told :
    (xs : List EndPlaces) (sides : List (Option Side)) (i : ℕ) (r : Option (Bor EndPlaces)) (side : Option Side) → IsItemAt xs i r →
    option_map side_of side ≡ slice_index_or (sides_of sides) i None →
    end_of_side (option_copied r) (option_map side_of side) ≡ end_at xs (sides_of sides) i
told xs sides i r side h g = ap₂ end_of_side (places_at xs i r h) g

pub returns-in-Some-Some-First : goal.returns-in-Some-Some-First
returns-in-Some-Some-First c =
    let side : option_map side_of (Some First) ≡ slice_index_or (sides_of c.args.sides.now) c.args.channel None = search rules in
    told c.args.channels.now c.args.sides.now c.args.channel (Some c.in-Some-Some-First.places) (Some First) c.in-Some-Some-First.ensures.lookup side

pub returns-in-Some-Some-Second : goal.returns-in-Some-Some-Second
returns-in-Some-Some-Second c =
    let side : option_map side_of (Some Second) ≡ slice_index_or (sides_of c.args.sides.now) c.args.channel None = search rules in
    told c.args.channels.now c.args.sides.now c.args.channel (Some c.in-Some-Some-Second.places) (Some Second)
    c.in-Some-Some-Second.ensures.lookup side

pub returns-in_default : goal.returns-in_default
returns-in_default c =
    told c.args.channels.now c.args.sides.now c.args.channel (Some c.in_default.field-0-0) None c.in_default.ensures.lookup
    (ap (option_map side_of) (sym c.in_default.is-1) ∙ c.side_at.ensures)

pub returns-in_default-2 : goal.returns-in_default-2
returns-in_default-2 c =
    told c.args.channels.now c.args.sides.now c.args.channel None c.side_at.result c.in_default.ensures.lookup c.side_at.ensures
