-- What is known of a program when all of it was found.
use Rattle.std.proofs.Common.{◌≡◌, ℕ, Bool, List, [], ◌++◌, Option, None, sym, ap, subst, ◌∙◌}
use Rattle.xw_words.specs.declared.pos.Broken.{Broken}
use Rattle.xc_tree.specs.declared.names.Mark.{Mark}
use Rattle.xc_tree.specs.Checks.{Breaks}
use Rattle.xc_tree.specs.Least.{IsLeastOf}
use Rattle.xc_tree.specs.Types.Named.{NamedProgram}
use Rattle.xc_tree.specs.Types.Sites.{of_items, sites, types, unsigned_at}
use Rattle.xc_types.specs.declared.checker.Checker.{Checker}
use Rattle.xc_types.specs.Checker.{saw, all_broken, first_among}
use Rattle.xc_types.proofs.Breaking.{least_broken}

pub all_types : (n : NamedProgram) (s t : Checker) (ms : List Mark) → s.names ≡ 0 → s.types ≡ [] → t ≡ saw s ms (of_items n 0 s.names n.program) → t.types ≡ unsigned_at n
unfolding saw sites unsigned_at
all_types n s t ms e f g =
    ap (λ (z : Checker). z.types) g
    ∙ ap (λ (k : ℕ). s.types ++ types (of_items n 0 k n.program)) e
    ∙ ap (λ (ts : List Bool). ts ++ types (of_items n 0 0 n.program)) f

pub all_rules : (n : NamedProgram) (s t : Checker) (ms : List Mark) → s.names ≡ 0 → s.best ≡ None → t ≡ saw s ms (of_items n 0 s.names n.program) → IsLeastOf (Breaks n) t.best
unfolding saw sites
all_rules n s t ms e f g =
    let first : t.best ≡ first_among None (all_broken (of_items n 0 0 n.program)) =
    ap (λ (z : Checker). z.best) g
    ∙ ap (λ (k : ℕ). first_among s.best (all_broken (of_items n 0 k n.program))) e
    ∙ ap (λ (b : Option Broken). first_among b (all_broken (of_items n 0 0 n.program))) f in
    subst (IsLeastOf (Breaks n)) (sym first) (least_broken n)
