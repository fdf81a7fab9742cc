-- How what was found grows by the mark or the site that stands first.
use Rattle.std.proofs.Common.{◌≡◌, ℕ, ◌+◌, ◌≤◌, Bool, true, false, not, ◌&&◌, nat_le, List, [], ◌∷◌, ◌++◌, length, map, Option, refl, sym, ap, subst, ◌∙◌, append_assoc, append-nil, slice_set, arith, length-append}
use Rattle.xw_words.specs.declared.pos.Pos.{Pos}
use Rattle.xw_words.specs.declared.pos.Broken.{Broken}
use Rattle.xc_tree.specs.declared.tree.Id.{Id}
use Rattle.xc_tree.specs.declared.names.Decl.{Decl}
use Rattle.xc_tree.specs.declared.names.Mark.{Mark}
use Rattle.xc_tree.specs.declared.names.Mark.TheVariants.{Declares, Uses, Calls}
use Rattle.xc_tree.specs.Types.Named.{Name}
use Rattle.xc_tree.specs.Types.Entities.{is_word, is_array, is_index}
use Rattle.xc_tree.specs.Types.Rules.{broken_where}
use Rattle.xc_tree.specs.Types.Sites.{Site}
use Rattle.xc_tree.specs.Types.Sites as site
use Rattle.xc_tree.proofs.Forms.{forms, expression-Expr, form-Num, form-Name, form-Index, form-Un, form-Bin, form-Cond, form-Cast}
use Rattle.xc_types.specs.declared.checker.Checker.{Checker}
use Rattle.xc_types.specs.Checker.{saw, all_broken, first_among, first_with, broken_at, one_more_name, with_type, with_type_at, with_broken}
use Rattle.xc_types.proofs.Joins.{one, saw_join, saw_names, saw_nothing}

-- what is broken at a site, where the other rules that the site may break are these
pub first_here : (best : Option Broken) (t : Bool) (n : ℕ) (p : Pos) (others rest : List Broken) →
    first_among best ((map (broken_at n) (broken_where t p) ++ others) ++ rest) ≡ first_among (first_with t n p best) (others ++ rest)
first_here best true n p others rest = refl
first_here best false n p others rest = refl

pub saw_use : (s : Checker) (i : Id) (ms : List Mark) (ss : List Site) → saw s (Uses i ∷ ms) ss ≡ saw (one_more_name s) ms ss
unfolding saw one_more_name
saw_use s i ms ss = refl

pub saw_call : (s : Checker) (i : Id) (ms : List Mark) (ss : List Site) → saw s (Calls i ∷ ms) ss ≡ saw (one_more_name s) ms ss
unfolding saw one_more_name
saw_call s i ms ss = refl

pub saw_declaration : (s : Checker) (d : Decl) (ms : List Mark) (ss : List Site) → saw s (Declares d ∷ ms) ss ≡ saw (one_more_name s) ms ss
unfolding saw one_more_name
saw_declaration s d ms ss = refl

pub saw_node : (s : Checker) (u : Bool) (ms : List Mark) (ss : List Site) → saw s ms (site.node u ∷ ss) ≡ saw (with_type u s) ms ss
unfolding saw with_type
saw_node s u ms ss = one s _ _ _ _ _ _ _ _ refl (sym (append_assoc s.types (u ∷ []) (site.types ss))) refl refl

pub saw_word : (s : Checker) (x : Name) (ms : List Mark) (ss : List Site) → saw s ms (site.word x ∷ ss) ≡ saw (with_broken (not (is_word x.what)) 401 x.id.pos s) ms ss
unfolding saw with_broken
saw_word s x ms ss = one s _ _ _ _ _ _ _ _ refl refl (first_here s.best (not (is_word x.what)) 401 x.id.pos [] (all_broken ss)) refl

pub saw_lval : (s : Checker) (x : Name) (ms : List Mark) (ss : List Site) → saw s ms (site.lval x ∷ ss) ≡ saw (with_broken (is_index x.what) 412 x.id.pos (with_broken (not (is_word x.what)) 403 x.id.pos s)) ms ss
unfolding saw with_broken
saw_lval s x ms ss =
    one s _ _ _ _ _ _ _ _ refl refl (first_here s.best (not (is_word x.what)) 403 x.id.pos (map (broken_at 412) (broken_where (is_index x.what) x.id.pos) ++ []) (all_broken ss) ∙ first_here (first_with (not (is_word x.what)) 403 x.id.pos s.best) (is_index x.what) 412 x.id.pos [] (all_broken ss)) refl

pub saw_length : (s : Checker) (l : ℕ) (p : Pos) (ms : List Mark) (ss : List Site) → saw s ms (site.array_length l p ∷ ss) ≡ saw (with_broken (not (nat_le 1 l && nat_le l 16384)) 409 p s) ms ss
unfolding saw with_broken
saw_length s l p ms ss = one s _ _ _ _ _ _ _ _ refl refl (first_here s.best (not (nat_le 1 l && nat_le l 16384)) 409 p [] (all_broken ss)) refl

pub saw_indexed : (s : Checker) (x : Name) (ms : List Mark) (ss : List Site) → saw s ms (site.indexed x ∷ ss) ≡ saw (with_broken (not (is_array x.what)) 402 x.id.pos s) ms ss
unfolding saw with_broken
saw_indexed s x ms ss = one s _ _ _ _ _ _ _ _ refl refl (first_here s.best (not (is_array x.what)) 402 x.id.pos [] (all_broken ss)) refl

pub names_more : (s : Checker) → (one_more_name s).names ≡ s.names + 1
unfolding one_more_name
names_more s = refl

pub names_typed : (u : Bool) (s : Checker) → (with_type u s).names ≡ s.names
unfolding with_type
names_typed u s = refl

pub names_set : (i : ℕ) (u : Bool) (s : Checker) → (with_type_at i u s).names ≡ s.names
unfolding with_type_at
names_set i u s = refl

pub names_broken : (t : Bool) (n : ℕ) (p : Pos) (s : Checker) → (with_broken t n p s).names ≡ s.names
unfolding with_broken
names_broken t n p s = refl

set_seam : (xs ys : List Bool) (u v : Bool) → slice_set ((xs ++ v ∷ []) ++ ys) (length xs) u ≡ (xs ++ u ∷ []) ++ ys
set_seam [] ys u v = refl
set_seam (x ∷ xs) ys u v = ap (λ zs. x ∷ zs) (set_seam xs ys u v)

-- the type of a node is set behind what stands in it
pub saw_set : (s : Checker) (i : ℕ) (u v : Bool) (ms : List Mark) (ss : List Site) → i ≡ length s.types → with_type_at i u (saw (with_type v s) ms ss) ≡ saw (with_type u s) ms ss
unfolding saw with_type with_type_at
saw_set s i u v ms ss e = rw e (one s _ _ _ _ _ _ _ _ refl (set_seam s.types (site.types ss) u v) refl refl)

-- the same behind two parts of it
pub saw_set_twice : (s : Checker) (i : ℕ) (u v : Bool) (a b : List Mark) (x y : List Site) → i ≡ length s.types → with_type_at i u (saw (saw (with_type v s) a x) b y) ≡ saw (saw (with_type u s) a x) b y
saw_set_twice s i u v a b x y e =
    ap (with_type_at i u) (sym (saw_join (with_type v s) a b x y)) ∙ saw_set s i u v (a ++ b) (x ++ y) e ∙ saw_join (with_type u s) a b x y

pub types_grow : (s : Checker) (u : Bool) (i : ℕ) (ms : List Mark) (ss : List Site) → i ≡ length s.types → i + 1 ≤ length (saw (with_type u s) ms ss).types
unfolding saw with_type
types_grow s u i ms ss e = rw (length-append (s.types ++ u ∷ []) (site.types ss), length-append s.types (u ∷ [])) (omega arith)

pub types_grow_twice : (s : Checker) (u : Bool) (i : ℕ) (a b : List Mark) (x y : List Site) → i ≡ length s.types → i + 1 ≤ length (saw (saw (with_type u s) a x) b y).types
types_grow_twice s u i a b x y e = subst (λ (found : Checker). i + 1 ≤ length found.types) (saw_join (with_type u s) a b x y) (types_grow s u i (a ++ b) (x ++ y) e)

-- what expressions stand for
pub ruleset expressions = (expression-Expr, form-Num, form-Name, form-Index, form-Un, form-Bin, form-Cond, form-Cast)

-- what is needed along an expression alone
pub ruleset expression_steps = (expressions, append_assoc, append-nil, saw_join, saw_names, saw_nothing, saw_use, saw_node, saw_word, saw_indexed, names_more, names_typed, names_set, names_broken, saw_set, saw_set_twice, types_grow, types_grow_twice)

pub ruleset steps = (forms, append_assoc, append-nil, saw_join, saw_names, saw_nothing, saw_use, saw_call, saw_declaration, saw_node, saw_word, saw_lval, saw_length, saw_indexed, names_more, names_typed, names_set, names_broken, saw_set, saw_set_twice, types_grow, types_grow_twice)
