-- What is handed to the parameters of a function.
use Rattle.std.proofs.Common.{◌≡◌, ℕ, zero, suc, ◌+◌, ◌-◌, ◌<◌, ◌≤◌, List, [], ◌∷◌, length, drop, get_or, map, min, arith, refl, ap, subst, sym, ◌∙◌}
use Rattle.std.specs.Borrow.{Bor}
use Rattle.xw_words.proofs.Lists.{drop_item}
use Rattle.xc_tree.specs.declared.tree.Param.{Param}
use Rattle.xc_tree.specs.declared.tree.Arg.{Arg}
use Rattle.xc_tree.specs.Trees.{argument_of}
use Rattle.xc_kernel.specs.Paths.{Path}
use Rattle.xc_kernel.specs.Scopes.{Scope, Entity, a_port, with_name}
use Rattle.xc_kernel.specs.Copy.{Copy, no_copy, joined}
use Rattle.xc_kernel.specs.Context.{Context}
use Rattle.xc_kernel.specs.Parameters.{Passed, passed, and_passed, all_passed}
use Rattle.xc_inline.specs.Contexts.{ports_from}
use Rattle.xc_inline.specs.Handed.{IsPassed, passed_copy}
use Rattle.xc_inline.specs.declared.parameters.Handed.{Handed}

drop_whole : {X : Type 0} (xs : List X) → drop (length xs) xs ≡ []
drop_whole [] = refl
drop_whole (x ∷ xs) = drop_whole xs

get_or_same : {X : Type 0} (xs : List X) (i : ℕ) (d e : X) → i < length xs → get_or xs i d ≡ get_or xs i e
get_or_same [] i d e h = absurd (omega (arith, h))
get_or_same (x ∷ xs) zero d e h = refl
get_or_same (x ∷ xs) (suc i) d e h = get_or_same xs i d e (omega (arith, h))

-- what stands at a place, whatever stands for places that aren't there
pub get_or_itself : {X : Type 0} (xs : List X) (i : ℕ) (d : X) → i < length xs → get_or xs i d ≡ get_or xs i (get_or xs i d)
get_or_itself xs i d h = get_or_same xs i d (get_or xs i d) h

-- from the last port on there is none
pub ports_end : (names : List (Bor (List ℕ))) → ports_from (length names) (drop (length names) names) ≡ []
ports_end names = ap (ports_from (length names)) (drop_whole names)

-- a port before those behind it
pub ports_step : (names : List (Bor (List ℕ))) (n m : ℕ) (x : Bor (List ℕ)) → n ≡ m + 1 → x ≡ get_or names m x → m < length names → with_name (ports_from n (drop n names)) x.now (a_port m) ≡ ports_from m (drop m names)
ports_step names n m x e is h = ap (λ k. with_name (ports_from k (drop k names)) x.now (a_port m)) e ∙ sym (ap (ports_from m) (drop_item names m x is h))

-- behind the last parameter, or the last argument, nothing is passed
pub passed_end : (c : Context) (scope : Scope) (own : Path) (ps : List Param) (args : List Arg) (n : ℕ) → n ≡ min (length ps) (length args) → all_passed c scope own (drop n ps) (map argument_of (drop n args)) ≡ no_copy c.ports
passed_end c scope own [] args n h =
    let z : n ≡ 0 = omega (arith, h) in
    ap (λ k. all_passed c scope own (drop k []) (map argument_of (drop k args))) z
passed_end c scope own (p ∷ ps) [] n h =
    let z : n ≡ 0 = omega (arith, h) in
    ap (λ k. all_passed c scope own (drop k (p ∷ ps)) (map argument_of (drop k []))) z
passed_end c scope own (p ∷ ps) (a ∷ args) zero h = absurd (omega (arith, h))
passed_end c scope own (p ∷ ps) (a ∷ args) (suc n) h = passed_end c scope own ps args n (omega (arith, h))

-- a parameter before the others
pub passed_before : (name : List ℕ) (p : Passed) (others : Copy) {handed both : Copy} {scope : Scope} {entity : Entity} → handed ≡ passed_copy p scope → entity ≡ p.entity → both ≡ joined handed (record others { scope = with_name others.scope name entity }) → both ≡ and_passed name p others
passed_before name p others handed entity both = both ∙ λ i. joined (handed i) (record others { scope = with_name others.scope name (entity i) })

-- what is handed for what is passed, by another name of it
pub handed_as : {p q : Passed} {h : Handed} → p ≡ q → IsPassed p h → IsPassed q h
handed_as {h = h} e is = subst (λ x. IsPassed x h) e is

-- the parameter and the argument at a place before those behind them
pub passed_step : (c : Context) (scope : Scope) (own : Path) (ps : List Param) (args : List Arg) (n m : ℕ) (p : Param) (a : Arg) → n ≡ m + 1 → p ≡ get_or ps m p → a ≡ get_or args m a → m < length ps → m < length args →
    and_passed p.name.text (passed c scope own p.name.pos p.kind (argument_of a).value) (all_passed c scope own (drop n ps) (map argument_of (drop n args))) ≡ all_passed c scope own (drop m ps) (map argument_of (drop m args))
passed_step c scope own ps args n m p a e ip ia lp la =
    ap (λ k. and_passed p.name.text (passed c scope own p.name.pos p.kind (argument_of a).value) (all_passed c scope own (drop k ps) (map argument_of (drop k args)))) e
    ∙ sym (λ i. all_passed c scope own (drop_item ps m p ip lp i) (map argument_of (drop_item args m a ia la i)))

-- from the first on all are passed
pub passed_all : (c : Context) (scope : Scope) (own : Path) (ps : List Param) (args : List Arg) (n : ℕ) {made : Copy} → n ≤ 0 → made ≡ all_passed c scope own (drop n ps) (map argument_of (drop n args)) → made ≡ all_passed c scope own ps (map argument_of args)
passed_all c scope own ps args zero none made = made
passed_all c scope own ps args (suc n) none made = absurd (omega (arith, none))

-- numbers that go down to 0

pub goes_down : (n : ℕ) → 0 < n → ◌≡◌ {A = ℕ} n ((n - 1) + 1)
goes_down n some = omega (arith, some)

pub stays_below : (n k : ℕ) → 0 < n → n ≤ k → n - 1 < k
stays_below n k some h = omega (arith, some, h)

pub stays_within : (n k : ℕ) → n ≤ k → n - 1 ≤ k
stays_within n k h = omega (arith, h)

pub least_first : (n a b : ℕ) → n ≡ min a b → n ≤ a
least_first n a b h = omega (arith, h)

pub least_second : (n a b : ℕ) → n ≡ min a b → n ≤ b
least_second n a b h = omega (arith, h)
