-- The words behind `run`, one by one.
use Rattle.std.proofs.Common.{◌≡◌, Bool, true, false, ℕ, List, [], ◌∷◌, ◌++◌, length, refl, ap, arith, ◌∙◌, sym, map, take, drop, ◌≤◌, ◌-◌}
use Rattle.std.proofs.lemmas.List.{append_assoc, take_all}
use Rattle.std.specs.Prelude.{Option, Some, None, slice_index_or, unwrap_or, if◌then◌else◌, option_and_then}
use Rattle.std.specs.Option.{option_map}
use Rattle.xr_driver.specs.Command.{Command, RunWords, default_ticks, default_workers, is_operand, is_ticks, is_workers, run_on, run_words, ticks_of, with_operand, with_tick_number, with_ticks, with_worker_number, with_workers, workers_of}
use Rattle.xr_driver.specs.Decision.{tell_ticks, tell_workers, told_with}
use Rattle.xr_driver.specs.declared.words.Told.{Told}

-- of a number that is told in front and behind, the one that is, where it is told at most once
abbrev one_of : Option ℕ → Option ℕ → Option (Option ℕ)
one_of None behind = Some behind
one_of (Some n) None = Some (Some n)
one_of (Some n) (Some m) = None

-- the run of these operands with these numbers
abbrev with_numbers : List (List ℕ) → Option ℕ → Option ℕ → Option Command
with_numbers operands ticks workers = run_on operands (unwrap_or ticks default_ticks) (unwrap_or workers default_workers)

-- the command of a run with these operands and what options tell, and with what other words are
abbrev joined : List (List ℕ) → Told → RunWords → Option Command
joined operands told behind =
    option_and_then (λ ticks. option_and_then (with_numbers (operands ++ behind.operands) ticks) (one_of told.workers behind.workers))
    (one_of told.ticks behind.ticks)

-- the command of a run with these operands and what options tell, in front of these words
abbrev pub run_from : List (List ℕ) → Told → List (List ℕ) → Option Command
run_from operands told words = option_and_then (joined operands told) (run_words words)

-- an operand is next
pub from_operand : (operands : List (List ℕ)) (told : Told) (word : List ℕ) (rest : List (List ℕ)) → is_operand word ≡ true →
    run_from operands told (word ∷ rest) ≡ run_from (operands ++ word ∷ []) told rest
from_operand operands told word rest e = ap (option_and_then (joined operands told)) (words_are rest) ∙ by (run_words rest)
  where
    words_are : (rest : List (List ℕ)) → run_words (word ∷ rest) ≡ option_map (with_operand word) (run_words rest)
    words_are [] = rw e refl
    words_are (next ∷ behind) = rw e refl

    by : (o : Option RunWords) →
        option_and_then (joined operands told) (option_map (with_operand word) o) ≡ option_and_then (joined (operands ++ word ∷ []) told) o
    by None = refl
    by (Some behind) =
        ap (λ all. option_and_then (λ ticks. option_and_then (with_numbers all ticks) (one_of told.workers behind.workers))
        (one_of told.ticks behind.ticks))
        (sym (append_assoc operands (word ∷ []) behind.operands))

-- three operands are too many
from_three : (a b c : List ℕ) (told : Told) (words : List (List ℕ)) → run_from (a ∷ b ∷ c ∷ []) told words ≡ None
from_three a b c told words = by (run_words words)
  where
    by_workers : (o : Option (Option ℕ)) (ticks : Option ℕ) (behind : List (List ℕ)) →
        option_and_then (with_numbers (a ∷ b ∷ c ∷ behind) ticks) o ≡ None
    by_workers None ticks behind = refl
    by_workers (Some workers) ticks behind = refl

    by_ticks : (o : Option (Option ℕ)) (p : Option (Option ℕ)) (behind : List (List ℕ)) →
        option_and_then (λ ticks. option_and_then (with_numbers (a ∷ b ∷ c ∷ behind) ticks) p) o ≡ None
    by_ticks None p behind = refl
    by_ticks (Some ticks) p behind = by_workers p ticks behind

    by : (o : Option RunWords) → option_and_then (joined (a ∷ b ∷ c ∷ []) told) o ≡ None
    by None = refl
    by (Some behind) = by_ticks (one_of told.ticks behind.ticks) (one_of told.workers behind.workers) behind.operands

pub from_full : (operands : List (List ℕ)) (told : Told) (word : List ℕ) (rest : List (List ℕ)) →
    length operands ≡ 2 → is_operand word ≡ true → run_from operands told (word ∷ rest) ≡ None
from_full (a ∷ b ∷ []) told word rest full e = from_operand (a ∷ b ∷ []) told word rest e ∙ from_three a b word told rest
from_full [] told word rest full e = absurd (cc)
from_full (a ∷ []) told word rest full e = absurd (cc)
from_full (a ∷ b ∷ c ∷ operands) told word rest full e = absurd (cc)

-- words behind `run` that tell these operands and numbers
abbrev words_at : List (List ℕ) → (ticks workers : Option ℕ) → RunWords
words_at operands ticks workers = record { operands = operands; ticks = ticks; workers = workers }

-- what options tell in front of other words, with one more of them
module _ (operands : List (List ℕ)) where
  abbrev told_before : Option Told → Option RunWords → Option Command
  told_before told words = option_and_then (λ t. option_and_then (joined operands t) words) told

  ticks_before : (a b : Option ℕ) (n : ℕ) (o : Option RunWords) →
      option_and_then (joined operands (record { ticks = a; workers = b })) (with_ticks (Some n) o)
      ≡ told_before (tell_ticks (record { ticks = a; workers = b }) n) o
  ticks_before None b n None = refl
  ticks_before (Some m) b n None = refl
  ticks_before a b n (Some behind) = by a behind.ticks
    where
      by : (a c : Option ℕ) →
          option_and_then (joined operands (record { ticks = a; workers = b })) (with_tick_number n (words_at behind.operands c behind.workers))
          ≡ told_before (tell_ticks (record { ticks = a; workers = b }) n) (Some (words_at behind.operands c behind.workers))
      by None None = refl
      by None (Some k) = refl
      by (Some m) None = refl
      by (Some m) (Some k) = refl

  workers_before : (a b : Option ℕ) (n : ℕ) (o : Option RunWords) →
      option_and_then (joined operands (record { ticks = a; workers = b })) (with_workers (Some n) o)
      ≡ told_before (tell_workers (record { ticks = a; workers = b }) n) o
  workers_before a None n None = refl
  workers_before a (Some m) n None = refl
  workers_before a b n (Some behind) = by a b behind.ticks behind.workers
    where
      by : (a b c d : Option ℕ) →
          option_and_then (joined operands (record { ticks = a; workers = b })) (with_worker_number n (words_at behind.operands c d))
          ≡ told_before (tell_workers (record { ticks = a; workers = b }) n) (Some (words_at behind.operands c d))
      by a None c None = refl
      by None None None (Some k) = refl
      by None None (Some m) (Some k) = refl
      by (Some j) None None (Some k) = refl
      by (Some j) None (Some m) (Some k) = refl
      by None (Some w) None None = refl
      by None (Some w) (Some m) None = refl
      by (Some j) (Some w) None None = refl
      by (Some j) (Some w) (Some m) None = refl
      by a (Some w) c (Some k) = refl

  -- the same of the next word, which is no number
  no_ticks : (told : Told) (o : Option RunWords) (p : Option ℕ) →
      option_and_then (joined operands told) (with_ticks p o) ≡ told_before (option_and_then (tell_ticks told) p) o
  no_ticks told None None = refl
  no_ticks told (Some behind) None = refl
  no_ticks told o (Some n) = ticks_before told.ticks told.workers n o

  no_workers : (told : Told) (o : Option RunWords) (p : Option ℕ) →
      option_and_then (joined operands told) (with_workers p o) ≡ told_before (option_and_then (tell_workers told) p) o
  no_workers told None None = refl
  no_workers told (Some behind) None = refl
  no_workers told o (Some n) = workers_before told.ticks told.workers n o

  -- a word that is no operand is next, and another one behind it
  pub from_option : (told : Told) (word next : List ℕ) (rest : List (List ℕ)) → is_operand word ≡ false →
      run_from operands told (word ∷ next ∷ rest) ≡ told_before (told_with word next told) (run_words rest)
  from_option told word next rest e = rw e (by (is_ticks word) (is_workers word))
    where
      words_by : Bool → Bool → Option RunWords
      words_by t w =
          if t then with_ticks (ticks_of next) (run_words rest)
          else (if w then with_workers (workers_of next) (run_words rest) else None)

      told_by : Bool → Bool → Option Told
      told_by t w =
          if t then option_and_then (tell_ticks told) (ticks_of next)
          else (if w then option_and_then (tell_workers told) (workers_of next) else None)

      by : (t w : Bool) → option_and_then (joined operands told) (words_by t w) ≡ told_before (told_by t w) (run_words rest)
      by true w = no_ticks told (run_words rest) (ticks_of next)
      by false true = no_workers told (run_words rest) (workers_of next)
      by false false = refl

-- the same of words that the program holds
module _ {A : Type 0} (text : A → List ℕ) where
  abbrev behind_first : List A → List A
  behind_first words = take (length words - 1) (drop 1 words)

  first_is : (words : List A) (first d : A) → 1 ≤ length words → first ≡ slice_index_or words 0 d →
      map text words ≡ text first ∷ map text (behind_first words)
  first_is [] first d h e = absurd (omega (arith, h))
  first_is (x ∷ xs) first d h e = rw (e, take_all (length (x ∷ xs) - 1) xs (omega arith)) refl

  two_are : (words : List A) (first second d e : A) → 1 ≤ length words → first ≡ slice_index_or words 0 d →
      1 ≤ length (behind_first words) → second ≡ slice_index_or (behind_first words) 0 e →
      map text words ≡ text first ∷ text second ∷ map text (behind_first (behind_first words))
  two_are words first second d e h is k also =
      first_is words first d h is ∙ ap (λ ws. text first ∷ ws) (first_is (behind_first words) second e k also)

  module _ (all : Option Command) (operands : List (List ℕ)) (told : Told) (words : List A) (first d : A)
      (some : 1 ≤ length words) (is : first ≡ slice_index_or words 0 d) (known : all ≡ run_from operands told (map text words)) where
    abbrev rest : List (List ℕ)
    rest = map text (behind_first words)

    one : all ≡ run_from operands told (text first ∷ rest)
    one = known ∙ ap (run_from operands told) (first_is words first d some is)

    pub operand_next : (after : List (List ℕ)) → is_operand (text first) ≡ true → after ≡ operands ++ text first ∷ [] →
        all ≡ run_from after told (map text (behind_first words))
    operand_next after e more =
        one ∙ from_operand operands told (text first) rest e ∙ ap (λ o. run_from o told rest) (sym more)

    pub too_many : is_operand (text first) ≡ true → length operands ≡ 2 → all ≡ None
    too_many e full = one ∙ from_full operands told (text first) rest full e

    module _ (second k : A) (more : 1 ≤ length (behind_first words)) (also : second ≡ slice_index_or (behind_first words) 0 k)
        (other : is_operand (text first) ≡ false) where
      abbrev last : List (List ℕ)
      last = map text (behind_first (behind_first words))

      two : all ≡ told_before operands (told_with (text first) (text second) told) (run_words last)
      two =
          known ∙ ap (run_from operands told) (two_are words first second d k some is more also)
          ∙ from_option operands told (text first) (text second) last other

      with_known : (o : Option Told) → told_with (text first) (text second) told ≡ o → all ≡ told_before operands o (run_words last)
      with_known o e = two ∙ ap (λ t. told_before operands t (run_words last)) e

      pub no_option : told_with (text first) (text second) told ≡ None → all ≡ None
      no_option e = with_known None e

      pub option_next : (after : Told) → told_with (text first) (text second) told ≡ Some after →
          all ≡ run_from operands after (map text (behind_first (behind_first words)))
      option_next after e = with_known (Some after) e
