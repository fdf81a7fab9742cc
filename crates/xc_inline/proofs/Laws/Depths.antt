-- How far the walk is from its end: so many calls may still be entered, and within a function's body it goes down. With one
-- call less it is nearer its end, whatever the body of the function.
use Rattle.std.proofs.Common.{◌≡◌, ℕ, zero, suc, ◌+◌, ◌-◌, ◌*◌, ◌<◌, ◌≤◌, max, arith, refl, sym, subst}

-- by the calls left, the height of the highest body, the height of what is walked, and the place among the functions of the walk
abbrev pub distance : (calls highest height place : ℕ) → ℕ
distance n d h r = n * (16 * d + 16) + (16 * h + r)

above_less : (k x y : ℕ) → x < y → k + x < k + y
above_less k x y h = omega (arith, h)

-- further down in the same body
pub nearer : (n d e h r i q : ℕ) → e ≡ d → 16 * i + q < 16 * h + r → distance n e i q < distance n d h r
nearer n d e h r i q same less =
    let P : ℕ → Type 0 = λ e. distance n e i q < distance n d h r in
    subst P (sym same) (above_less (n * (16 * d + 16)) (16 * i + q) (16 * h + r) less)

suc_times : (n k : ℕ) → suc n * k ≡ n * k + k
suc_times n k = grind arith

-- so many calls that each go less than k deep
one_call_less : (n k x : ℕ) → x < k → (n ≡ 0 → ⊥) → (n - 1) * k + x < n * k
one_call_less zero k x h e = absurd (e refl)
one_call_less (suc n) k x h e = let s = suc_times n k in let p : ◌≡◌ {A = ℕ} (suc n - 1) n = omega arith in rw p omega (arith, h, s)

-- into a function
pub enters : (n d e h r q : ℕ) → e ≡ d → (n ≡ 0 → ⊥) → q < 16 → distance (n - 1) e d q < distance n d h r
enters n d e h r q same some less =
    let P : ℕ → Type 0 = λ e. distance (n - 1) e d q < distance n d h r in
    let l = one_call_less n (16 * d + 16) (16 * d + q) (omega (arith, less)) some in
    subst P (sym same) (omega (arith, l))

-- what is further down, below what the walk has left
pub down : (n d e h r i q : ℕ) {t : ℕ} → distance n d h r ≡ t → e ≡ d → 16 * i + q < 16 * h + r → distance n e i q < t
down n d e h r i q {t} left same less = let P : ℕ → Type 0 = λ t. distance n e i q < t in subst P left (nearer n d e h r i q same less)

-- a function that is entered, below what the walk has left
pub enters_below : (n d e h r q : ℕ) {t : ℕ} → distance n d h r ≡ t → e ≡ d → (n ≡ 0 → ⊥) → q < 16 → distance (n - 1) e d q < t
enters_below n d e h r q {t} left same some less = let P : ℕ → Type 0 = λ t. distance (n - 1) e d q < t in subst P left (enters n d e h r q same some less)

-- The same, by where it stands; that one place is before another is an equation that computes, so that an answer says no more.

-- what a statement holds
pub held : (n d i q k : ℕ) {h t : ℕ} → distance n d h 0 ≡ t → h ≡ i + 1 → ◌≡◌ {A = ℕ} (q + suc k) 16 → distance n d i q < t
held n d i q k {h} left whole place = down n d d h 0 i q left refl (omega (arith, whole, place))

-- something no higher, by a function of an earlier place
pub lower : (n d e h r i q k : ℕ) {t : ℕ} → distance n d h r ≡ t → e ≡ d → i ≤ h → ◌≡◌ {A = ℕ} (q + suc k) r → distance n e i q < t
lower n d e h r i q k left same high place = down n d e h r i q left same (omega (arith, high, place))

-- something as high
pub level : (n d e h r i q k : ℕ) {t : ℕ} → distance n d h r ≡ t → e ≡ d → i ≡ h → ◌≡◌ {A = ℕ} (q + suc k) r → distance n e i q < t
level n d e h r i q k left same high place = down n d e h r i q left same (omega (arith, high, place))

-- one of two
pub in_first : (n d e a b r q k : ℕ) {t : ℕ} → distance n d (max a b) r ≡ t → e ≡ d → ◌≡◌ {A = ℕ} (q + suc k) r → distance n e a q < t
in_first n d e a b r q k left same place = down n d e (max a b) r a q left same (omega (arith, place))

pub in_second : (n d e a b r q k : ℕ) {t : ℕ} → distance n d (max a b) r ≡ t → e ≡ d → ◌≡◌ {A = ℕ} (q + suc k) r → distance n e b q < t
in_second n d e a b r q k left same place = down n d e (max a b) r b q left same (omega (arith, place))

-- the body of a function that a call enters
pub enters_first : (n d : ℕ) {t : ℕ} → distance n d 0 2 ≡ t → (n ≡ 0 → ⊥) → distance (n - 1) d d 1 < t
enters_first n d left some = enters_below n d d 0 2 1 left refl some (omega arith)

-- Calls and numbers.

pub of_one_call : (n : ℕ) → (n ≡ 0 → ⊥) → ◌≡◌ {A = ℕ} (suc (n - 1)) n
of_one_call n some = omega (arith, some)

pub no_less : (n : ℕ) → n ≤ n
no_less n = omega arith

pub one_above : (n m : ℕ) → n ≤ m → n ≤ m + 1
one_above n m h = omega (arith, h)
