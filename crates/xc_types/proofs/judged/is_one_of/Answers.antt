use Rattle.std.proofs.Common.{◌≡◌, ℕ, nat_eq, List, [], ◌∷◌, ◌||◌, refl, ap, ◌∙◌}
use Rattle.std.specs.List.{list_any}
use Rattle.xc_tree.specs.Types.Words.{is_among}
use Rattle.xc_types.proofs.judged.is_one_of.Goals as goal

among_any : (vs : List ℕ) (v : ℕ) → list_any (λ w. nat_eq w v) vs ≡ is_among vs v
among_any [] v = refl
among_any (w ∷ ws) v = ap (λ t. nat_eq w v || t) (among_any ws v)

pub returns-in-Some : goal.returns-in-Some
returns-in-Some c = rw c.in-Some.is (c.contains.ensures.value ∙ among_any c.args.variables.now c.in-Some.variable)
