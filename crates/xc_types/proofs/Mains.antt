-- The statements of main's block, one at a time.
use Rattle.std.proofs.Common.{◌≡◌, ℕ, ◌+◌, ◌<◌, ◌≤◌, suc, Bool, true, false, ◌&&◌, ◌||◌, if◌then◌else◌, nat_eq, List, [], ◌∷◌, length, drop, get_or, slice_get, map, Option, Some, None, refl, sym, ap, subst, ◌∙◌, arith}
use Rattle.std.proofs.lemmas.Bool.Decides.{nat_tests}
use Rattle.std.proofs.lemmas.List.{drop_all}
use Rattle.std.specs.declared.boxed.Box.{Box}
use Rattle.std.specs.declared.alloc.Global.{Global}
use Rattle.std.proofs.lemmas.Option.{none-some}
use Rattle.xw_words.proofs.Lists.{drop_item, some_same}
use Rattle.xw_words.specs.declared.pos.Pos.{Pos}
use Rattle.xc_tree.specs.declared.tree.Branch.{Branch}
use Rattle.xc_tree.specs.declared.tree.Case.{Case}
use Rattle.xc_tree.specs.declared.tree.Declared.{Declared}
use Rattle.xc_tree.specs.declared.tree.Id.{Id}
use Rattle.xc_tree.specs.declared.tree.Rhs.{Rhs}
use Rattle.xc_tree.specs.declared.tree.St as st
use Rattle.xc_tree.specs.declared.tree.St.TheOpen as S
use Rattle.xc_tree.specs.declared.tree.St.{St, Block, out-St, roll-St, roll-out-St, fold-roll-St}
use Rattle.xc_tree.specs.declared.tree.St.TheVariants.{rolls-Block, rolls-Decl, rolls-Par, rolls-Repl, rolls-Return}
use Rattle.xc_tree.specs.declared.tree.Stmt.{Stmt}
use Rattle.xc_tree.specs.Plain as plain
use Rattle.xc_tree.specs.Shapes.Main.{place_branches, has_placed, is_placed, is_channels_par_return, is_return_at_most, are_channels, is_channel_kind, statements_in}
use Rattle.xc_tree.specs.Trees.{statement_of, action_of, branch_of, declaration_of, action_step, branch_step, case_step, statement_step}
use Rattle.xc_tree.proofs.Forms.{forms, statement-Stmt}
use Rattle.xc_types.specs.declared.main_function.Part.{Part}
use Rattle.xc_types.specs.declared.main_function.Part.TheVariants.{Channels, Par, Return, Other}
use Rattle.xc_types.specs.Mains.{action_part, part_of, places, is_return_part}

place_first : (s : plain.Statement) (ss : plain.Statements) → place_branches (plain.more s ss) ≡ (places (part_of s) || place_branches ss)
place_first (plain.statement a p c own) ss = by a
  where
    declared : (t : Bool) → place_branches ss ≡ (places (if t then Channels else Other) || place_branches ss)
    declared true = refl
    declared false = refl

    by : (b : plain.Action) → place_branches (plain.more (plain.statement b p c own) ss) ≡ (places (part_of (plain.statement b p c own)) || place_branches ss)
    by (plain.declare ds) = declared (are_channels ds)
    by _ = refl

pub next_places : (xs : List Stmt) (i : ℕ) (x : Stmt) → x ≡ get_or xs i x → i < length xs → place_branches (plain.statements (map statement_of (drop i xs))) ≡ (places (part_of (statement_of x)) || place_branches (plain.statements (map statement_of (drop (i + 1) xs))))
next_places xs i x e h = rw (drop_item xs i x e h) (place_first (statement_of x) (plain.statements (map statement_of (drop (i + 1) xs))))

pub no_place : (xs : List Stmt) (i : ℕ) → length xs ≤ i → place_branches (plain.statements (map statement_of (drop i xs))) ≡ false
no_place xs i h = rw (drop_all i xs h) refl

pub next_placed : (xs : List Branch) (i : ℕ) (x : Branch) → x ≡ get_or xs i x → i < length xs → has_placed (plain.branches (map branch_of (drop i xs))) ≡ (is_placed (branch_of x) || has_placed (plain.branches (map branch_of (drop (i + 1) xs))))
next_placed xs i x e h = rw (drop_item xs i x e h) refl

pub none_placed : (xs : List Branch) (i : ℕ) → length xs ≤ i → has_placed (plain.branches (map branch_of (drop i xs))) ≡ false
none_placed xs i h = rw (drop_all i xs h) refl

pub next_channels : (xs : List Declared) (i : ℕ) (x : Declared) → x ≡ get_or xs i x → i < length xs → are_channels (map declaration_of (drop i xs)) ≡ (is_channel_kind (declaration_of x).kind && are_channels (map declaration_of (drop (i + 1) xs)))
next_channels xs i x e h = rw (drop_item xs i x e h) refl

pub none_declared : (xs : List Declared) (i : ℕ) → length xs ≤ i → are_channels (map declaration_of (drop i xs)) ≡ true
none_declared xs i h = rw (drop_all i xs h) refl

-- whether statements are of the form, by what the first is, and the others
abbrev pub by_part : Part → plain.Statements → Bool
by_part Channels ss = is_channels_par_return ss
by_part (Par has_placed) ss = is_return_at_most ss
by_part Return ss = false
by_part Other ss = false

first_part : (s : plain.Statement) (ss : plain.Statements) → is_channels_par_return (plain.more s ss) ≡ by_part (part_of s) ss
first_part (plain.statement a p c own) ss = by a
  where
    declared : (t : Bool) → (t && is_channels_par_return ss) ≡ by_part (if t then Channels else Other) ss
    declared true = refl
    declared false = refl

    by : (b : plain.Action) → is_channels_par_return (plain.more (plain.statement b p c own) ss) ≡ by_part (part_of (plain.statement b p c own)) ss
    by (plain.declare ds) = declared (are_channels ds)
    by (plain.par bs) = refl
    by (plain.replicated x y z from until body) = refl
    by _ = refl

pub next_form : (xs : List Stmt) (i : ℕ) (x : Stmt) → x ≡ get_or xs i x → i < length xs → is_channels_par_return (plain.statements (map statement_of (drop i xs))) ≡ by_part (part_of (statement_of x)) (plain.statements (map statement_of (drop (i + 1) xs)))
next_form xs i x e h = ap (λ (ys : List Stmt). is_channels_par_return (plain.statements (map statement_of ys))) (drop_item xs i x e h) ∙ first_part (statement_of x) (plain.statements (map statement_of (drop (i + 1) xs)))

pub no_form : (xs : List Stmt) (i : ℕ) → length xs ≤ i → is_channels_par_return (plain.statements (map statement_of (drop i xs))) ≡ false
no_form xs i h = rw (drop_all i xs h) refl

two_left : (s t : plain.Statement) (ss : plain.Statements) → is_return_at_most (plain.more s (plain.more t ss)) ≡ false
two_left (plain.statement a p c own) t ss = by a
  where
    by : (b : plain.Action) → is_return_at_most (plain.more (plain.statement b p c own) (plain.more t ss)) ≡ false
    by (plain.return_with r) = refl
    by _ = refl

above_one : (n : ℕ) → nat_eq (suc (suc n)) 1 ≡ false
above_one n = grind (arith, nat_tests)

return_left : (s : plain.Statement) → is_return_at_most (plain.more s plain.no_more) ≡ is_return_part (part_of s)
return_left (plain.statement a p c own) = by a
  where
    declared : (t : Bool) → false ≡ is_return_part (if t then Channels else Other)
    declared true = refl
    declared false = refl

    by : (b : plain.Action) → is_return_at_most (plain.more (plain.statement b p c own) plain.no_more) ≡ is_return_part (part_of (plain.statement b p c own))
    by (plain.declare ds) = declared (are_channels ds)
    by _ = refl

pub first_left : (xs : List Stmt) (x : Stmt) → slice_get xs 0 ≡ Some x → is_return_at_most (plain.statements (map statement_of xs)) ≡ (nat_eq (length xs) 1 && is_return_part (part_of (statement_of x)))
first_left [] x e = absurd (none-some x e)
first_left (y ∷ []) x e = return_left (statement_of y) ∙ ap (λ (z : Stmt). is_return_part (part_of (statement_of z))) (some_same y x e)
first_left (y ∷ (z ∷ zs)) x e =
    two_left (statement_of y) (statement_of z) (plain.statements (map statement_of zs)) ∙ sym (ap (λ b. b && is_return_part (part_of (statement_of x))) (above_one (length zs)))

pub none_left : (xs : List Stmt) → slice_get xs 0 ≡ None → is_return_at_most (plain.statements (map statement_of xs)) ≡ true
none_left [] e = refl
none_left (x ∷ xs) e = absurd (none-some x (sym e))

abbrev IsAlone : plain.Action → Type 0
IsAlone a = (p q : Pos) (n : ℕ) → plain.more (plain.statement a p q n) plain.no_more ≡ statements_in (plain.statement a p q n)

rolled_alone : (k : S.St-F St Branch Case Stmt) → ((ss : List Stmt) → roll-St k ≡ Block ss → ⊥) → IsAlone (action_of (roll-St k))
unfolding action_of
rolled_alone (S.Block ss) h = absurd (h ss (rolls-Block ss))
rolled_alone k h = subst IsAlone (sym (fold-roll-St plain.Action plain.Branch plain.Case plain.Statement action_step branch_step case_step statement_step k)) (λ p q n. refl)

-- what isn't a block stands alone
pub stands_alone : (s : Stmt) (k : St) → k ≡ s.kind.value → ((ss : List Stmt) → k ≡ Block ss → ⊥) → plain.more (statement_of s) plain.no_more ≡ statements_in (statement_of s)
stands_alone s k e h = rw (statement-Stmt s, ← e) (subst (λ (f : St). ((ss : List Stmt) → f ≡ Block ss → ⊥) → IsAlone (action_of f)) (roll-out-St k) (rolled_alone (out-St k)) h s.pos s.close s.own)

-- a statement of this kind is other than the parts of the form
abbrev IsOther : St → Type 0
IsOther k =
    ((ds : List Declared) → k ≡ st.Decl ds → ⊥)
    → ((bs : List Branch) → k ≡ st.Par bs → ⊥)
    → ((a b c : Id) (from until : ℕ) (body : Box Branch Global) → k ≡ st.Repl a b c from until body → ⊥)
    → ((r : Option Rhs) → k ≡ st.Return r → ⊥)
    → Other ≡ action_part (action_of k)

rolled_other : (k : S.St-F St Branch Case Stmt) → IsOther (roll-St k)
unfolding action_of
rolled_other (S.Decl ds) d p r v = absurd (d ds (rolls-Decl ds))
rolled_other (S.Par bs) d p r v = absurd (p bs (rolls-Par bs))
rolled_other (S.Repl a b c from until body) d p r v = absurd (r a b c from until body (rolls-Repl a b c from until body))
rolled_other (S.Return x) d p r v = absurd (v x (rolls-Return x))
rolled_other k d p r v = subst (λ (a : plain.Action). Other ≡ action_part a) (sym (fold-roll-St plain.Action plain.Branch plain.Case plain.Statement action_step branch_step case_step statement_step k)) refl

pub other_part : (s : Stmt) (k : St) → k ≡ s.kind.value → ((ds : List Declared) → k ≡ st.Decl ds → ⊥) → ((bs : List Branch) → k ≡ st.Par bs → ⊥)
    → ((a b c : Id) (from until : ℕ) (body : Box Branch Global) → k ≡ st.Repl a b c from until body → ⊥) → ((r : Option Rhs) → k ≡ st.Return r → ⊥)
    → Other ≡ part_of (statement_of s)
other_part s k e d p r v = rw (statement-Stmt s, ← e) (subst IsOther (roll-out-St k) (rolled_other (out-St k)) d p r v)

pub ruleset mains = (forms, next_places, no_place, next_placed, none_placed, next_channels, none_declared)

pub ruleset parts = (next_form, no_form, first_left, none_left)
