-- Threads that are changed one after another.
use Rattle.std.proofs.Common.{◌≡◌, ◌<◌, ◌+◌, ℕ, zero, suc, List, [], ◌∷◌, length, get_or, slice_set, refl, ap, ◌∙◌, sym, arith, add-one}
use Rattle.xs_instr.specs.declared.state.Thread.{Thread}
use Rattle.xs_instr.specs.Pool.{all_joined, all_started, is_tied, joined_by, started_by}

-- those below place n are changed
abbrev pub changed_to : (Thread → Thread) → List Thread → ℕ → List Thread
changed_to f xs zero = xs
changed_to f [] (suc n) = []
changed_to f (x ∷ xs) (suc n) = f x ∷ changed_to f xs n

-- one more is changed
changed_more : (f : Thread → Thread) (xs : List Thread) (n : ℕ) (d : Thread) → n < length xs → slice_set (changed_to f xs n) n (f (get_or (changed_to f xs n) n d)) ≡ changed_to f xs (suc n)
changed_more f [] n d lt = absurd (omega arith)
changed_more f (x ∷ xs) zero d lt = refl
changed_more f (x ∷ xs) (suc n) d lt = ap (λ l. f x ∷ l) (changed_more f xs n d (omega arith))

pub changed_next : (f : Thread → Thread) (xs now : List Thread) (n : ℕ) (d : Thread) → now ≡ changed_to f xs n → n < length xs → slice_set now n (f (get_or now n d)) ≡ changed_to f xs (n + 1)
changed_next f xs now n d e lt =
    ap (λ (l : List Thread). slice_set l n (f (get_or l n d))) e ∙ changed_more f xs n d lt ∙ ap (changed_to f xs) (sym (add-one n))

pub all_changed-started : (xs : List Thread) (n : ℕ) → changed_to (λ x. started_by x (is_tied x n)) xs (length xs) ≡ all_started xs n
all_changed-started [] n = refl
all_changed-started (x ∷ xs) n = ap (λ l. started_by x (is_tied x n) ∷ l) (all_changed-started xs n)

pub all_changed-joined : (xs : List Thread) (n : ℕ) → changed_to (λ x. joined_by x (is_tied x n)) xs (length xs) ≡ all_joined xs n
all_changed-joined [] n = refl
all_changed-joined (x ∷ xs) n = ap (λ l. joined_by x (is_tied x n) ∷ l) (all_changed-joined xs n)
