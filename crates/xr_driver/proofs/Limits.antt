-- The numbers of a run are within their limits.
use Rattle.std.proofs.Common.{◌≡◌, ℕ, Bool, true, false, not, ◌&&◌, ◌≤◌, List, [], ◌∷◌, IfSome, arith, refl, subst, nat_lt}
use Rattle.std.proofs.lemmas.Bool.{ltb-false, ltb-true}
use Rattle.std.specs.Prelude.{Option, Some, None, bytes_eq, codes, if◌then◌else◌, length, option_and_then, unwrap_or}
use Rattle.std.specs.Option.{option_map}
use Rattle.xr_stim.specs.Numbers.{number}
use Rattle.xr_driver.specs.Command.{Asm, Check, Command, Run, RunWords, Time, default_ticks, default_workers, if_within, is_operand, is_ticks, is_workers, means, most_digits, most_ticks, most_workers, number_within, other_of, run_as, run_on, run_words, ticks_of, with_operand, with_tick_number, with_ticks, with_worker_number, with_workers, workers_of}
use Rattle.xr_driver.specs.declared.prepare.Task.{Task}
use Rattle.xr_driver.specs.Next.{IsTaskFor}
use Rattle.xw_io.specs.declared.file.File.{File}

-- a number of 1 to the most
abbrev IsWithin : (most n : ℕ) → Type 0
IsWithin most n = (1 ≤ n) × (n ≤ most)

-- what words behind `run` tell is within the limits
record AreWithin (words : RunWords) : Type 0 where
  ticks : IfSome words.ticks (IsWithin most_ticks)
  workers : IfSome words.workers (IsWithin most_workers)

-- the same of a command
abbrev HasLimits : Command → Type 0
HasLimits (Run file ticks workers stim) = IsWithin most_ticks ticks × IsWithin most_workers workers
HasLimits (Asm file) = Unit {0}
HasLimits (Check file) = Unit {0}
HasLimits (Time file routes) = Unit {0}

either : {A : Type 0} (P : A → Type 0) (t : Bool) (a b : Option A) → IfSome a P → IfSome b P → IfSome (if t then a else b) P
either P true a b p q = p
either P false a b p q = q

then_some : {A B : Type 0} (P : A → Type 0) (Q : B → Type 0) (f : A → Option B) (o : Option A) → IfSome o P →
    ((x : A) → P x → IfSome (f x) Q) → IfSome (option_and_then f o) Q
then_some P Q f None p h = tt
then_some P Q f (Some x) p h = h x p

some_number : (most n : ℕ) → IfSome (if_within most n) (IsWithin most)
some_number most n = by (nat_lt 0 n) (nat_lt most n) (ltb-true 0 n) (ltb-false most n)
  where
    by : (a b : Bool) → (a ≡ true → 1 ≤ n) → (b ≡ false → n ≤ most) → IfSome (if a && not b then Some n else None) (IsWithin most)
    by true true p q = tt
    by true false p q = (p refl, q refl)
    by false b p q = tt

number_is_within : (most : ℕ) (word : List ℕ) → IfSome (number_within most word) (IsWithin most)
number_is_within most word =
    either (IsWithin most) (nat_lt most_digits (length word)) None (option_and_then (if_within most) (number word)) tt
    (then_some (λ n. Unit {0}) (IsWithin most) (if_within most) (number word) (any (number word)) (λ n h. some_number most n))
  where
    any : (o : Option ℕ) → IfSome o (λ n. Unit {0})
    any None = tt
    any (Some n) = tt

with_operand_within : (word : List ℕ) (o : Option RunWords) → IfSome o AreWithin → IfSome (option_map (with_operand word) o) AreWithin
with_operand_within word None h = tt
with_operand_within word (Some behind) h = record { ticks = h.ticks; workers = h.workers }

with_ticks_within : (t : Option ℕ) (o : Option RunWords) → IfSome t (IsWithin most_ticks) → IfSome o AreWithin → IfSome (with_ticks t o) AreWithin
with_ticks_within None None p h = tt
with_ticks_within None (Some behind) p h = tt
with_ticks_within (Some n) None p h = tt
with_ticks_within (Some n) (Some behind) p h = by behind.ticks
  where
    by : (t : Option ℕ) → IfSome (with_tick_number n (record { operands = behind.operands; ticks = t; workers = behind.workers })) AreWithin
    by None = record { ticks = p; workers = h.workers }
    by (Some m) = tt

with_workers_within : (t : Option ℕ) (o : Option RunWords) → IfSome t (IsWithin most_workers) → IfSome o AreWithin →
    IfSome (with_workers t o) AreWithin
with_workers_within None None p h = tt
with_workers_within None (Some behind) p h = tt
with_workers_within (Some n) None p h = tt
with_workers_within (Some n) (Some behind) p h = by behind.workers
  where
    by : (w : Option ℕ) → IfSome (with_worker_number n (record { operands = behind.operands; ticks = behind.ticks; workers = w })) AreWithin
    by None = record { ticks = h.ticks; workers = p }
    by (Some m) = tt

words_are_within : (words : List (List ℕ)) → IfSome (run_words words) AreWithin
words_are_within [] = record { ticks = tt; workers = tt }
words_are_within (word ∷ []) =
    either AreWithin (is_operand word) (Some (with_operand word (record { operands = []; ticks = None; workers = None }))) None
    (record { ticks = tt; workers = tt }) tt
words_are_within (word ∷ next ∷ rest) =
    either AreWithin (is_operand word) (option_map (with_operand word) (run_words (next ∷ rest)))
    (if is_ticks word then with_ticks (ticks_of next) (run_words rest)
    else (if is_workers word then with_workers (workers_of next) (run_words rest) else None))
    (with_operand_within word (run_words (next ∷ rest)) (words_are_within (next ∷ rest)))
    (either AreWithin (is_ticks word) (with_ticks (ticks_of next) (run_words rest))
    (if is_workers word then with_workers (workers_of next) (run_words rest) else None)
    (with_ticks_within (ticks_of next) (run_words rest) (number_is_within most_ticks next) (words_are_within rest))
    (either AreWithin (is_workers word) (with_workers (workers_of next) (run_words rest)) None
    (with_workers_within (workers_of next) (run_words rest) (number_is_within most_workers next) (words_are_within rest)) tt))

or_default : (most d : ℕ) (o : Option ℕ) → IfSome o (IsWithin most) → IsWithin most d → IsWithin most (unwrap_or o d)
or_default most d None p q = q
or_default most d (Some n) p q = p

run_is_within : (operands : List (List ℕ)) (ticks workers : ℕ) → IsWithin most_ticks ticks → IsWithin most_workers workers →
    IfSome (run_on operands ticks workers) HasLimits
run_is_within [] ticks workers p q = tt
run_is_within (file ∷ []) ticks workers p q = (p, q)
run_is_within (file ∷ stim ∷ []) ticks workers p q = (p, q)
run_is_within (a ∷ b ∷ c ∷ rest) ticks workers p q = tt

other_is_within : (word : List ℕ) (rest : List (List ℕ)) → IfSome (other_of word rest) HasLimits
other_is_within word [] = tt
other_is_within word (file ∷ []) =
    either HasLimits (is_operand file)
    (if bytes_eq word (codes "asm") then Some (Asm file) else (if bytes_eq word (codes "check") then Some (Check file) else None)) None
    (either HasLimits (bytes_eq word (codes "asm")) (Some (Asm file)) (if bytes_eq word (codes "check") then Some (Check file) else None) tt
    (either HasLimits (bytes_eq word (codes "check")) (Some (Check file)) None tt tt)) tt
other_is_within word (file ∷ second ∷ []) =
    either HasLimits (is_operand file && is_operand second && bytes_eq word (codes "time")) (Some (Time file second)) None tt tt
other_is_within word (a ∷ b ∷ c ∷ rest) = tt

means_within : (words : List (List ℕ)) → IfSome (means words) HasLimits
means_within [] = tt
means_within (word ∷ rest) =
    either HasLimits (bytes_eq word (codes "run")) (option_and_then run_as (run_words rest)) (other_of word rest)
    (then_some AreWithin HasLimits run_as (run_words rest) (words_are_within rest)
    (λ are h. run_is_within are.operands (unwrap_or are.ticks default_ticks) (unwrap_or are.workers default_workers)
    (or_default most_ticks default_ticks are.ticks h.ticks (omega arith, omega arith))
    (or_default most_workers default_workers are.workers h.workers (omega arith, omega arith))))
    (other_is_within word rest)

-- the run that words ask for has 1 to 200,000 ticks, and 1 to 16 workers
pub task_limits : (words : List (List ℕ)) (files : Option (List File)) (task : Task) → IsTaskFor words files task →
    ((1 ≤ task.ticks) × (task.ticks ≤ 200000)) × ((1 ≤ task.workers) × (task.workers ≤ 16))
task_limits words files task is =
    subst HasLimits is.of.is_run (subst (λ q. IfSome q HasLimits) is.meant (means_within words))
