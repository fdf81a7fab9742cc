-- The functions of a program, one behind the other.
use Rattle.std.proofs.Common.{◌≡◌, ℕ, true, false, Option, Some, None, suc, zero, ◌+◌, ◌<◌, ◌≤◌, List, [], ◌∷◌, ◌++◌, length, drop, get_or, map, bytes_eq, arith, refl, ap, sym, subst, ◌∙◌}
use Rattle.std.proofs.lemmas.List.{append-nil, append_assoc, drop_all}
use Rattle.std.specs.Borrow.{Bor}
use Rattle.std.specs.List.{All}
use Rattle.xw_words.proofs.Lists.{drop_item}
use Rattle.xc_tree.specs.Plain as tree
use Rattle.xc_tree.specs.Trees.{item_of}
use Rattle.xc_tree.specs.declared.tree.Item.{Item}
use Rattle.xc_tree.specs.declared.tree.FuncItem.{FuncItem}
use Rattle.xc_kernel.specs.Programs.{Function, functions, function_named, function_by}
use Rattle.xc_tree.specs.Trees.{statement_of}
use Rattle.xc_tree.specs.Heights.{height}
use Rattle.xc_inline.specs.Functions.{HasFewParameters, function_of, functions_among, deepest}

functions_cons : (i : tree.Item) (items : List tree.Item) → functions (i ∷ items) ≡ functions (i ∷ []) ++ functions items
functions_cons (tree.function head body) items = refl
functions_cons (tree.port p) items = refl

-- the item at a place gives its function before those of the rest
pub functions_step : (items : List Item) (i : ℕ) (x : Item) → x ≡ get_or items i x → i < length items → functions (map item_of (drop i items)) ≡ functions (item_of x ∷ []) ++ functions (map item_of (drop (i + 1) items))
functions_step items i x e h =
    ap (λ xs. functions (map item_of xs)) (drop_item items i x e h)
    ∙ functions_cons (item_of x) (map item_of (drop (i + 1) items))

-- what has been added, before the functions of the rest, is the functions of all
pub functions_more : (items xs : List Item) (i : ℕ) (x : Item) (before : List Function) {made whole : List Function} → xs ≡ items → x ≡ get_or xs i x → i < length xs → made ≡ before ++ functions (item_of x ∷ []) →
    before ++ functions (map item_of (drop i items)) ≡ whole → made ++ functions (map item_of (drop (i + 1) items)) ≡ whole
functions_more items xs i x before same e h added so_far =
    let rest = functions (map item_of (drop (i + 1) items)) in
    let step = functions_step items i x (subst (λ (ys : List Item). x ≡ get_or ys i x) same e) (subst (λ (ys : List Item). i < length ys) same h) in
    ap (λ m. m ++ rest) added ∙ append_assoc before (functions (item_of x ∷ [])) rest ∙ sym (ap (λ r. before ++ r) step) ∙ so_far

pub functions_all : (items xs : List Item) (i : ℕ) (made : List Function) {whole : List Function} → xs ≡ items → length xs ≤ i → made ++ functions (map item_of (drop i items)) ≡ whole → made ≡ whole
functions_all items xs i made same h so_far =
    let none = ap (λ ys. functions (map item_of ys)) (drop_all i items (subst (λ (ys : List Item). length ys ≤ i) same h)) in
    sym (append-nil made) ∙ sym (ap (λ r. made ++ r) none) ∙ so_far

-- the function at a place, or those behind it
pub named_step : (fs : List (Bor FuncItem)) (i : ℕ) (f : Bor FuncItem) (name : List ℕ) → f ≡ get_or fs i f → i < length fs → function_named (functions_among (drop i fs)) name ≡ function_by (bytes_eq f.now.name.text name) (function_of f.now) (function_named (functions_among (drop (i + 1) fs)) name)
named_step fs i f name e h =
    ap (λ xs. function_named (functions_among xs) name) (drop_item fs i f e h)

pub deepest_step : (fs : List (Bor FuncItem)) (i : ℕ) (f : Bor FuncItem) → f ≡ get_or fs i f → i < length fs → deepest (drop i fs) ≡ deepest (f ∷ drop (i + 1) fs)
deepest_step fs i f e h = ap deepest (drop_item fs i f e h)

-- the function at a place has few parameters, where all have
pub few_at : (fs : List (Bor FuncItem)) (i : ℕ) (f : Bor FuncItem) → All HasFewParameters (functions_among fs) → f ≡ get_or fs i f → i < length fs → HasFewParameters (function_of f.now)
few_at [] i f few e h = absurd (omega (arith, h))
few_at (x ∷ fs) zero f few e h = subst (λ (g : Bor FuncItem). HasFewParameters (function_of g.now)) (sym e) (few 0 (function_of f.now) (omega arith))
few_at (x ∷ fs) (suc i) f few e h = few_at fs i f (λ k d l. few (suc k) d (omega (arith, l))) e (omega (arith, h))

-- a function at a place of a list that is another list's
module _ (fs xs : List (Bor FuncItem)) (i : ℕ) (f : Bor FuncItem) (same : xs ≡ fs) (e : f ≡ get_or xs i f) (h : i < length xs) where
  there : f ≡ get_or fs i f
  there = subst (λ (ys : List (Bor FuncItem)). f ≡ get_or ys i f) same e

  within : i < length fs
  within = subst (λ (ys : List (Bor FuncItem)). i < length ys) same h

  -- it is found by its name, and by another name what is behind it
  pub named_here : (name : List ℕ) {found : Option Function} → true ≡ bytes_eq f.now.name.text name →
      found ≡ function_named (functions_among (drop i fs)) name → Some (function_of f.now) ≡ found
  named_here name is so_far =
      ap (λ b. function_by b (function_of f.now) (function_named (functions_among (drop (i + 1) fs)) name)) is
      ∙ sym (so_far ∙ named_step fs i f name there within)

  pub named_behind : (name : List ℕ) {found : Option Function} → false ≡ bytes_eq f.now.name.text name →
      found ≡ function_named (functions_among (drop i fs)) name → found ≡ function_named (functions_among (drop (i + 1) fs)) name
  named_behind name is so_far =
      so_far ∙ named_step fs i f name there within
      ∙ sym (ap (λ b. function_by b (function_of f.now) (function_named (functions_among (drop (i + 1) fs)) name)) is)

  -- its body is no higher than the highest, nor are those behind it
  pub deep_here : (n : ℕ) → deepest (drop i fs) ≤ n → height (statement_of f.now.body) ≤ n
  deep_here n d = let s = deepest_step fs i f there within in omega (arith, s, d)

  pub deep_behind : (n : ℕ) → deepest (drop i fs) ≤ n → deepest (drop (i + 1) fs) ≤ n
  deep_behind n d = let s = deepest_step fs i f there within in omega (arith, s, d)

-- behind the last function none is found
pub named_nowhere : (fs xs : List (Bor FuncItem)) (i : ℕ) (name : List ℕ) {found : Option Function} → xs ≡ fs → length xs ≤ i →
    found ≡ function_named (functions_among (drop i fs)) name → None ≡ found
named_nowhere fs xs i name same h so_far =
    sym (so_far ∙ ap (λ ys. function_named (functions_among ys) name) (drop_all i fs (subst (λ (ys : List (Bor FuncItem)). length ys ≤ i) same h)))
