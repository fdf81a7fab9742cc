-- How counts change.
use Rattle.std.proofs.Common.{◌≡◌, ◌<◌, ◌+◌, ℕ, zero, suc, Bool, true, false, List, [], ◌∷◌, Option, Some, None, length, refl, sym, ap, ◌∙◌, inl, inr, arith, length-append}
use Rattle.std.proofs.lemmas.Bool.{eqb-true, eqb-false}
use Rattle.std.specs.Prelude.{slice_get, slice_set, nat_eq, ◌≢◌, ◌⊎◌}
use Rattle.xs_instr.specs.declared.state.ChanEnd.{ChanEnd}
use Rattle.xs_instr.specs.declared.state.Moved.{Moved}
use Rattle.xs_instr.specs.declared.state.Moved.TheVariants.{Tok, Credit}
use Rattle.xs_instr.specs.declared.state.Token.{Token}
use Rattle.xw_words.specs.Words.{truth}
use Rattle.xs_instr.specs.Ends.{token_at, credit_at, arrives, all_arrive, tokens_to, credits_to}
use Rattle.xs_core.specs.Room.{Kind, Tokens, Credits, weight, weights, level}
use Rattle.xs_core.proofs.Lists.{get_set, get_set_other}

pub same_num : (a b : ℕ) → (a ≡ b) ⊎ (a ≢ b)
same_num a b = go (nat_eq a b) refl
  where
    go : (v : Bool) → nat_eq a b ≡ v → (a ≡ b) ⊎ (a ≢ b)
    go true h = inl (eqb-true a b h)
    go false h = inr (eqb-false a b h)

pub eq_itself : (a : ℕ) → nat_eq a a ≡ true
eq_itself a = go (nat_eq a a) refl
  where
    go : (v : Bool) → nat_eq a a ≡ v → v ≡ true
    go true h = refl
    go false h = absurd (eqb-false a a h refl)

pub eq_not : (a b : ℕ) → a ≢ b → nat_eq a b ≡ false
eq_not a b n = go (nat_eq a b) refl
  where
    go : (v : Bool) → nat_eq a b ≡ v → v ≡ false
    go false h = refl
    go true h = absurd (n (eqb-true a b h))

pub length_set : {X : Type 0} (xs : List X) (i : ℕ) (x : X) → length (slice_set xs i x) ≡ length xs
length_set [] i x = refl
length_set (y ∷ xs) zero x = refl
length_set (y ∷ xs) (suc i) x = ap suc (length_set xs i x)

pub get_in : {X : Type 0} (xs : List X) (i : ℕ) → slice_get xs i ≡ None → i < length xs → ⊥
get_in [] i h lt = omega arith
get_in (x ∷ xs) zero h lt = cc
get_in (x ∷ xs) (suc i) h lt = get_in xs i h (omega arith)

pub get_below : {X : Type 0} (xs : List X) (i : ℕ) (x : X) → slice_get xs i ≡ Some x → i < length xs
get_below [] i x h = cc
get_below (y ∷ xs) zero x h = omega arith
get_below (y ∷ xs) (suc i) x h = let r = get_below xs i x h in omega (arith, r)

pub get_there : {X : Type 0} (xs : List X) (i : ℕ) → i < length xs → (x : X) × (slice_get xs i ≡ Some x)
get_there {X = X} xs i lt = go (slice_get xs i) refl
  where
    go : (o : Option X) → slice_get xs i ≡ o → (x : X) × (slice_get xs i ≡ Some x)
    go None h = absurd (get_in xs i h lt)
    go (Some x) h = (x, h)

-- an end with another's count changed
level_set_other : (k : Kind) (ends : List ChanEnd) (f e : ℕ) (end : ChanEnd) → f ≢ e → level k (slice_get (slice_set ends f end) e) ≡ level k (slice_get ends e)
level_set_other k ends f e end n = ap (level k) (get_set_other ends f e end n)

arrive_other : (k : Kind) (ends : List ChanEnd) (e f : ℕ) (o : Option ChanEnd) (x : Token) → f ≢ e → (level k (slice_get (token_at ends f x o) e) ≡ level k (slice_get ends e)) × (level k (slice_get (credit_at ends f o) e) ≡ level k (slice_get ends e))
arrive_other k ends e f None x n = (refl, refl)
arrive_other k ends e f (Some end) x n = (level_set_other k ends f e _ n, level_set_other k ends f e _ n)

token_here : (ends : List ChanEnd) (e : ℕ) (x : Token) (o : Option ChanEnd) → slice_get ends e ≡ o → e < length ends → (level Tokens (slice_get (token_at ends e x o) e) ≡ level Tokens (slice_get ends e) + 1) × (level Credits (slice_get (token_at ends e x o) e) ≡ level Credits (slice_get ends e))
token_here ends e x None h lt = absurd (get_in ends e h lt)
token_here ends e x (Some end) h lt = (
  ap (level Tokens) (get_set ends e end _ h) ∙ length-append end.tokens (x ∷ []) ∙ sym (ap (λ o. level Tokens o + 1) h),
  ap (level Credits) (get_set ends e end _ h) ∙ sym (ap (level Credits) h),
)

credit_here : (ends : List ChanEnd) (e : ℕ) (o : Option ChanEnd) → slice_get ends e ≡ o → e < length ends → (level Tokens (slice_get (credit_at ends e o) e) ≡ level Tokens (slice_get ends e)) × (level Credits (slice_get (credit_at ends e o) e) ≡ level Credits (slice_get ends e) + 1)
credit_here ends e None h lt = absurd (get_in ends e h lt)
credit_here ends e (Some end) h lt = (
  ap (level Tokens) (get_set ends e end _ h) ∙ sym (ap (level Tokens) h),
  ap (level Credits) (get_set ends e end _ h) ∙ sym (ap (λ o. level Credits o + 1) h),
)

no_more : (a b n : ℕ) → a ≡ b → n ≡ 0 → a ≡ b + n
no_more a b n h g = omega (arith, h, g)

one_more : (a b n : ℕ) → a ≡ b + 1 → n ≡ 1 → a ≡ b + n
one_more a b n h g = omega (arith, h, g)

weight_here : (e : ℕ) → truth (nat_eq e e) ≡ 1
weight_here e = ap truth (eq_itself e)

weight_other : (f e : ℕ) → f ≢ e → truth (nat_eq f e) ≡ 0
weight_other f e n = ap truth (eq_not f e n)

-- what arrives is counted at its end
pub arrive : (k : Kind) (ends : List ChanEnd) (e : ℕ) (m : Moved) → e < length ends → level k (slice_get (arrives ends m) e) ≡ level k (slice_get ends e) + weight k e m
arrive k ends e (Tok f x) lt = go k (same_num f e)
  where
    go : (j : Kind) → (f ≡ e) ⊎ (f ≢ e) → level j (slice_get (token_at ends f x (slice_get ends f)) e) ≡ level j (slice_get ends e) + weight j e (Tok f x)
    go Tokens (inl h) = rw h (one_more _ _ _ (token_here ends e x (slice_get ends e) refl lt).0 (weight_here e))
    go Credits (inl h) = rw h (no_more _ _ _ (token_here ends e x (slice_get ends e) refl lt).1 refl)
    go Tokens (inr n) = no_more _ _ _ (arrive_other Tokens ends e f (slice_get ends f) x n).0 (weight_other f e n)
    go Credits (inr n) = no_more _ _ _ (arrive_other Credits ends e f (slice_get ends f) x n).0 refl
arrive k ends e (Credit f) lt = go k (same_num f e)
  where
    go : (j : Kind) → (f ≡ e) ⊎ (f ≢ e) → level j (slice_get (credit_at ends f (slice_get ends f)) e) ≡ level j (slice_get ends e) + weight j e (Credit f)
    go Credits (inl h) = rw h (one_more _ _ _ (credit_here ends e (slice_get ends e) refl lt).1 (weight_here e))
    go Tokens (inl h) = rw h (no_more _ _ _ (credit_here ends e (slice_get ends e) refl lt).0 refl)
    go Credits (inr n) = no_more _ _ _ (arrive_other Credits ends e f (slice_get ends f) (record { control = false; byte = 0 }) n).1 (weight_other f e n)
    go Tokens (inr n) = no_more _ _ _ (arrive_other Tokens ends e f (slice_get ends f) (record { control = false; byte = 0 }) n).1 refl

pub length_arrives : (ends : List ChanEnd) (m : Moved) → length (arrives ends m) ≡ length ends
length_arrives ends (Tok f x) = go (slice_get ends f)
  where
    go : (o : Option ChanEnd) → length (token_at ends f x o) ≡ length ends
    go None = refl
    go (Some end) = length_set ends f _
length_arrives ends (Credit f) = go (slice_get ends f)
  where
    go : (o : Option ChanEnd) → length (credit_at ends f o) ≡ length ends
    go None = refl
    go (Some end) = length_set ends f _

pub length_all_arrive : (ends : List ChanEnd) (ms : List Moved) → length (all_arrive ends ms) ≡ length ends
length_all_arrive ends [] = refl
length_all_arrive ends (m ∷ ms) = length_all_arrive (arrives ends m) ms ∙ length_arrives ends m

pub arrive_all : (k : Kind) (ends : List ChanEnd) (e : ℕ) (ms : List Moved) → e < length ends → level k (slice_get (all_arrive ends ms) e) ≡ level k (slice_get ends e) + weights k e ms
arrive_all k ends e [] lt = omega arith
arrive_all k ends e (m ∷ ms) lt =
    let le = length_arrives ends m in let lt' : e < length (arrives ends m) = omega (arith, le, lt) in
    let a = arrive_all k (arrives ends m) e ms lt' in
    let b = arrive k ends e m lt in
    omega (arith, a, b)

pub weights_tokens : (f y : ℕ) (ks : List Token) → weights Credits y (tokens_to f ks) ≡ 0
weights_tokens f y [] = refl
weights_tokens f y (k ∷ ks) = let r = weights_tokens f y ks in omega (arith, r)

pub weights_tokens_here : (f : ℕ) (ks : List Token) → weights Tokens f (tokens_to f ks) ≡ length ks
weights_tokens_here f [] = refl
weights_tokens_here f (k ∷ ks) = let r = weights_tokens_here f ks in let s = ap truth (eq_itself f) in omega (arith, r, s)

pub weights_tokens_other : (f y : ℕ) (ks : List Token) → f ≢ y → weights Tokens y (tokens_to f ks) ≡ 0
weights_tokens_other f y [] n = refl
weights_tokens_other f y (k ∷ ks) n = let r = weights_tokens_other f y ks n in let s = ap truth (eq_not f y n) in omega (arith, r, s)

pub weights_credits : (f y n : ℕ) → weights Tokens y (credits_to f n) ≡ 0
weights_credits f y zero = refl
weights_credits f y (suc n) = let r = weights_credits f y n in omega (arith, r)

pub weights_credits_here : (f n : ℕ) → weights Credits f (credits_to f n) ≡ n
weights_credits_here f zero = refl
weights_credits_here f (suc n) = let r = weights_credits_here f n in let s = ap truth (eq_itself f) in omega (arith, r, s)

pub weights_credits_other : (f y n : ℕ) → f ≢ y → weights Credits y (credits_to f n) ≡ 0
weights_credits_other f y zero ne = refl
weights_credits_other f y (suc n) ne = let r = weights_credits_other f y n ne in let s = ap truth (eq_not f y ne) in omega (arith, r, s)
