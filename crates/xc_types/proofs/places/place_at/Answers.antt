use Rattle.std.proofs.Common.{ℕ, Bool, not, ap, ◌∙◌}
use Rattle.xc_tree.specs.Trees as tree
use Rattle.xc_tree.specs.Types.Named.{named_of}
use Rattle.xc_types.specs.Checker.{with_broken}
use Rattle.xc_types.specs.Places.{has_form_of_place}
use Rattle.xc_types.proofs.Placings.{whole_place}
use Rattle.xc_types.proofs.places.place_at.Goals as goal

pub returns : goal.returns
returns c =
    c.breaks_where.ensures
    ∙ ap (λ (b : Bool). with_broken (not b) 508 c.args.place.now.first c.part.new.found)
    (c.has_form-is_well_formed.ensures
    ∙ ap (λ (first : ℕ). has_form_of_place c.args.named.now c.args.place.now.value first c.count.result) c.count-first.ensures
    ∙ ap (λ (last : ℕ). has_form_of_place c.args.named.now c.args.place.now.value c.args.found.now.names last) c.count.ensures)
    ∙ whole_place (named_of c.args.named.now) c.args.found.now (tree.place_of c.args.place.now) c.part.new.found c.in_ok-part.ensures
