-- What was sent within the last eight ticks isn't due.
use Rattle.std.proofs.Common.{◌≡◌, ◌≤◌, ◌<◌, ◌+◌, ℕ, Bool, true, false, List, [], ◌∷◌, ◌++◌, refl, ap, ◌∙◌, arith}
use Rattle.std.specs.Prelude.{nat_eq, nat_le}
use Rattle.std.proofs.lemmas.Bool.{leb-true, le-leb, lt-leb}
use Rattle.xs_instr.specs.declared.state.Item.{Item}
use Rattle.xs_instr.specs.declared.state.Sent.{Sent}
use Rattle.xs_fabric.specs.Lockstep.{is_due, due_by, due_of, late_by, late_of}
use Rattle.xr_windows.specs.Alone.{for_by, sent_for, AllAfter, AllLater, AllSent, AllUpTo}
use Rattle.xr_windows.specs.Windows.{before_by, sent_before}

not_due : (clock : ℕ) (i : Item) → clock < i.tick + 8 → is_due clock i ≡ false
not_due clock i lt = go (is_due clock i) refl
  where
    go : (b : Bool) → is_due clock i ≡ b → b ≡ false
    go false e = refl
    go true e = let le : i.tick + 8 ≤ clock = leb-true (i.tick + 8) clock e in absurd (omega arith)

none_due : (t clock : ℕ) (ys : List Item) → AllLater t ys → clock < t + 9 → due_of clock ys ≡ []
none_due t clock [] all lt = refl
none_due t clock (y ∷ ys) all lt = let h = all.0 in ap (due_by y (due_of clock ys)) (not_due clock y (omega arith))

all_late : (t clock : ℕ) (ys : List Item) → AllLater t ys → clock < t + 9 → late_of clock ys ≡ ys
all_late t clock [] all lt = refl
all_late t clock (y ∷ ys) all lt = let h = all.0 in ap (late_by (y ∷ ys) (late_of clock ys)) (not_due clock y (omega arith))

-- what is behind on the link changes nothing of what is due
pub due_behind : (t clock : ℕ) (xs ys : List Item) → AllLater t ys → clock < t + 9 → due_of clock (xs ++ ys) ≡ due_of clock xs
due_behind t clock [] ys all lt = none_due t clock ys all lt
due_behind t clock (x ∷ xs) ys all lt = ap (λ r. due_by x r (is_due clock x)) (due_behind t clock xs ys all lt)

late_by-behind : (x : Item) (xs ys : List Item) (rest : List Item) (b : Bool) → late_by (x ∷ (xs ++ ys)) (rest ++ ys) b ≡ late_by (x ∷ xs) rest b ++ ys
late_by-behind x xs ys rest true = refl
late_by-behind x xs ys rest false = refl

-- and stays behind what is left
pub late_behind : (t clock : ℕ) (xs ys : List Item) → AllLater t ys → clock < t + 9 → late_of clock (xs ++ ys) ≡ late_of clock xs ++ ys
late_behind t clock [] ys all lt = all_late t clock ys all lt
late_behind t clock (x ∷ xs) ys all lt =
    ap (λ r. late_by (x ∷ (xs ++ ys)) r (is_due clock x)) (late_behind t clock xs ys all lt)
    ∙ late_by-behind x xs ys (late_of clock xs) (is_due clock x)

for_by-behind : (i : Item) (xs ys : List Item) (b : Bool) → for_by i (xs ++ ys) b ≡ for_by i xs b ++ ys
for_by-behind i xs ys true = refl
for_by-behind i xs ys false = refl

pub sent_for-append : (j : ℕ) (xs ys : List Sent) → sent_for j (xs ++ ys) ≡ sent_for j xs ++ sent_for j ys
sent_for-append j [] ys = refl
sent_for-append j (x ∷ xs) ys =
    ap (λ r. for_by (record { tick = x.tick; moved = x.moved }) r (nat_eq x.to j)) (sent_for-append j xs ys)
    ∙ for_by-behind (record { tick = x.tick; moved = x.moved }) (sent_for j xs) (sent_for j ys) (nat_eq x.to j)

for_by-later : (t : ℕ) (i : Item) (xs : List Item) (b : Bool) → t < i.tick → AllLater t xs → AllLater t (for_by i xs b)
for_by-later t i xs true lt all = (lt, all)
for_by-later t i xs false lt all = all

pub sent_later : (t j : ℕ) (xs : List Sent) → AllAfter t xs → AllLater t (sent_for j xs)
sent_later t j [] all = tt
sent_later t j (x ∷ xs) all = for_by-later t (record { tick = x.tick; moved = x.moved }) (sent_for j xs) (nat_eq x.to j) all.0 (sent_later t j xs all.1)

pub sent_append : (P : Sent → Type 0) (xs ys : List Sent) → AllSent P xs → AllSent P ys → AllSent P (xs ++ ys)
sent_append P [] ys a b = b
sent_append P (x ∷ xs) ys a b = (a.0, sent_append P xs ys a.1 b)

for_by-old : (t : ℕ) (i : Item) (xs : List Item) (b : Bool) → i.tick ≤ t → AllUpTo t xs → AllUpTo t (for_by i xs b)
for_by-old t i xs true le all = (le, all)
for_by-old t i xs false le all = all

pub sent_old : (t j : ℕ) (xs : List Sent) → AllSent (λ s. s.tick ≤ t) xs → AllUpTo t (sent_for j xs)
sent_old t j [] all = tt
sent_old t j (x ∷ xs) all = for_by-old t (record { tick = x.tick; moved = x.moved }) (sent_for j xs) (nat_eq x.to j) all.0 (sent_old t j xs all.1)

pub old_append : (t : ℕ) (xs ys : List Item) → AllUpTo t xs → AllUpTo t ys → AllUpTo t (xs ++ ys)
old_append t [] ys a b = b
old_append t (x ∷ xs) ys a b = (a.0, old_append t xs ys a.1 b)

pub old_more : (t u : ℕ) (xs : List Item) → t ≤ u → AllUpTo t xs → AllUpTo u xs
old_more t u [] le all = tt
old_more t u (x ∷ xs) le all = (let h = all.0 in omega arith, old_more t u xs le all.1)

late_by-old : (t : ℕ) (all rest : List Item) (b : Bool) → AllUpTo t all → AllUpTo t rest → AllUpTo t (late_by all rest b)
late_by-old t all rest true h k = k
late_by-old t all rest false h k = h

-- what is left isn't newer
pub late_old : (t clock : ℕ) (xs : List Item) → AllUpTo t xs → AllUpTo t (late_of clock xs)
late_old t clock [] all = tt
late_old t clock (x ∷ xs) all = late_by-old t (x ∷ xs) (late_of clock xs) (is_due clock x) all (late_old t clock xs all.1)

first_by-old : (t : ℕ) (i : Item) (rest : List Item) → i.tick ≤ t → before_by i rest (nat_le i.tick t) ≡ i ∷ rest
first_by-old t i rest le = ap (before_by i rest) (le-leb i.tick t le)

none_before : (t : ℕ) (ys : List Item) → AllLater t ys → sent_before t ys ≡ []
none_before t [] all = refl
none_before t (y ∷ ys) all = ap (before_by y (sent_before t ys)) (lt-leb y.tick t all.0)

-- the older items stand in front
pub before_split : (t : ℕ) (xs ys : List Item) → AllUpTo t xs → AllLater t ys → sent_before t (xs ++ ys) ≡ xs
before_split t [] ys old new = none_before t ys new
before_split t (x ∷ xs) ys old new = first_by-old t x (sent_before t (xs ++ ys)) old.0 ∙ ap (λ r. x ∷ r) (before_split t xs ys old.1 new)
