-- The cases of a select, one at a time, for those that are `default`.
use Rattle.std.proofs.Common.{◌≡◌, ℕ, ◌+◌, ◌<◌, ◌≤◌, Bool, true, false, List, ◌∷◌, length, drop, get_or, map, Some, None, refl, ap, ◌∙◌}
use Rattle.std.proofs.lemmas.List.{drop_all}
use Rattle.xw_words.proofs.Lists.{drop_item}
use Rattle.xw_words.specs.declared.pos.Pos.{Pos}
use Rattle.xc_tree.specs.declared.tree.Case.{Case, out-Case}
use Rattle.xc_tree.specs.declared.tree.Head.{Head}
use Rattle.xc_tree.specs.Plain as plain
use Rattle.xc_tree.specs.Shapes.Rules.{defaults}
use Rattle.xc_tree.specs.Trees.{case_of}
use Rattle.xc_tree.proofs.Forms.{case-Case}
use Rattle.xc_types.specs.declared.checker.Checker.{Checker}
use Rattle.xc_types.specs.Checker.{with_broken, with_broken_at}

-- the places of all, or of those behind the first
abbrev pub behind_first : Bool → List Pos → List Pos
behind_first true ps = ps
behind_first false ps = drop 1 ps

here : (b : Bool) (p : Pos) (ps : List Pos) (s : Checker) → with_broken_at 507 (behind_first b (p ∷ ps)) s ≡ with_broken_at 507 ps (with_broken b 507 p s)
unfolding with_broken_at with_broken
here true p ps s = refl
here false p ps s = refl

head_none : (x : Case) (rest : plain.Cases) → (out-Case x).head ≡ None → defaults (plain.more_cases (case_of x) rest) ≡ (out-Case x).pos ∷ defaults rest
head_none x rest e = rw (case-Case x, e) refl

head_some : (x : Case) (h : Head) (rest : plain.Cases) → (out-Case x).head ≡ Some h → defaults (plain.more_cases (case_of x) rest) ≡ defaults rest
head_some x h rest e = rw (case-Case x, e) refl

module _ (cs : List Case) (i : ℕ) (x : Case) (e : x ≡ get_or cs i x) (l : i < length cs) (b : Bool) (s : Checker) where
  pub next_default : (out-Case x).head ≡ None → with_broken_at 507 (behind_first b (defaults (plain.cases (map case_of (drop i cs))))) s ≡ with_broken_at 507 (behind_first true (defaults (plain.cases (map case_of (drop (i + 1) cs))))) (with_broken b 507 (out-Case x).pos s)
  next_default h =
      rw (drop_item cs i x e l)
      (ap (λ (ps : List Pos). with_broken_at 507 (behind_first b ps) s) (head_none x (plain.cases (map case_of (drop (i + 1) cs))) h) ∙ here b (out-Case x).pos (defaults (plain.cases (map case_of (drop (i + 1) cs)))) s)

  pub next_other : (h : Head) → (out-Case x).head ≡ Some h → with_broken_at 507 (behind_first b (defaults (plain.cases (map case_of (drop i cs))))) s ≡ with_broken_at 507 (behind_first b (defaults (plain.cases (map case_of (drop (i + 1) cs))))) s
  next_other y h = rw (drop_item cs i x e l) (ap (λ (ps : List Pos). with_broken_at 507 (behind_first b ps) s) (head_some x y (plain.cases (map case_of (drop (i + 1) cs))) h))

pub no_default : (cs : List Case) (i : ℕ) (b : Bool) (s : Checker) → length cs ≤ i → with_broken_at 507 (behind_first b (defaults (plain.cases (map case_of (drop i cs))))) s ≡ s
unfolding with_broken_at
no_default cs i true s h = rw (drop_all i cs h) refl
no_default cs i false s h = rw (drop_all i cs h) refl

pub ruleset one_by_one = (next_default, next_other, no_default)
