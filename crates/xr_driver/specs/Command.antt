-- What the words of the command line mean.
use Rattle.std.specs.Prelude.{ℕ, ◌&&◌, Bool, false, not, List, [], ◌∷◌, length, codes, bytes_eq, nat_eq, nat_lt, Option, Some, None, is_none, option_and_then, unwrap_or, if◌then◌else◌}
use Rattle.std.specs.Option.{option_map}
use Rattle.xr_stim.specs.Numbers.{number}

-- what the program is asked to do
pub data Command : Type 0 where
  -- compile a file, and run it for so many ticks by so many workers, under the stimulus of another file where one is named
  Run : (file : List ℕ) → (ticks workers : ℕ) → (stim : Option (List ℕ)) → Command
  -- compile a file, and write its listing
  Asm : (file : List ℕ) → Command
  -- say whether a file is accepted
  Check : (file : List ℕ) → Command
  -- compile a file, and write its listing and the bounds of the routes that another file asks for
  Time : (file routes : List ℕ) → Command

-- the word begins with two dashes
abbrev pub is_option : List ℕ → Bool
is_option (a ∷ b ∷ rest) = nat_eq a 45 && nat_eq b 45
is_option other = false

-- the word is neither empty nor an option
abbrev pub is_operand : List ℕ → Bool
is_operand [] = false
is_operand (a ∷ rest) = not (is_option (a ∷ rest))

-- how many ticks a run has where the words don't say it
abbrev pub default_ticks : ℕ
default_ticks = 100000

-- the most ticks that a run has
abbrev pub most_ticks : ℕ
most_ticks = 200000

-- how many workers a run has where the words don't say it
abbrev pub default_workers : ℕ
default_workers = 1

-- the most workers that a run has
abbrev pub most_workers : ℕ
most_workers = 16

-- the most digits that a number has
abbrev pub most_digits : ℕ
most_digits = 6

-- this number, where it is 1 to the most
abbrev pub if_within : (most n : ℕ) → Option ℕ
if_within most n = if nat_lt 0 n && not (nat_lt most n) then Some n else None

-- the number of 1 to the most that a word is: one to six decimal digits
abbrev pub number_within : (most : ℕ) → List ℕ → Option ℕ
number_within most word = if nat_lt most_digits (length word) then None else option_and_then (if_within most) (number word)

-- the number of ticks that a word is
abbrev pub ticks_of : List ℕ → Option ℕ
ticks_of word = number_within most_ticks word

-- the number of workers that a word is
abbrev pub workers_of : List ℕ → Option ℕ
workers_of word = number_within most_workers word

-- the word that stands in front of the number of ticks
abbrev pub is_ticks : List ℕ → Bool
is_ticks word = bytes_eq word (codes "--ticks")

-- the word that stands in front of the number of workers
abbrev pub is_workers : List ℕ → Bool
is_workers word = bytes_eq word (codes "--workers")

-- what the words behind `run` are: the operands, and the numbers of ticks and of workers where they are told
pub record RunWords : Type 0 where
  pub operands : List (List ℕ)
  pub ticks : Option ℕ
  pub workers : Option ℕ

-- no words
abbrev pub no_words : RunWords
no_words = record { operands = []; ticks = None; workers = None }

-- an operand in front of other words
abbrev pub with_operand : List ℕ → RunWords → RunWords
with_operand word behind = record { operands = word ∷ behind.operands; ticks = behind.ticks; workers = behind.workers }

-- the number of ticks in front of other words, which don't tell it too
abbrev pub with_tick_number : ℕ → RunWords → Option RunWords
with_tick_number n behind =
    if is_none behind.ticks then Some (record { operands = behind.operands; ticks = Some n; workers = behind.workers }) else None

-- the same of a word that is such a number
abbrev pub with_ticks : Option ℕ → Option RunWords → Option RunWords
with_ticks (Some n) (Some behind) = with_tick_number n behind
with_ticks ticks behind = None

-- the number of workers in front of other words, which don't tell it too
abbrev pub with_worker_number : ℕ → RunWords → Option RunWords
with_worker_number n behind =
    if is_none behind.workers then Some (record { operands = behind.operands; ticks = behind.ticks; workers = Some n }) else None

-- the same of a word that is such a number
abbrev pub with_workers : Option ℕ → Option RunWords → Option RunWords
with_workers (Some n) (Some behind) = with_worker_number n behind
with_workers workers behind = None

-- The words behind `run` are operands, and anywhere among them, each at most once, `--ticks` and `--workers` with their numbers.
abbrev pub run_words : List (List ℕ) → Option RunWords
run_words [] = Some no_words
run_words (word ∷ []) = if is_operand word then Some (with_operand word no_words) else None
run_words (word ∷ next ∷ rest) =
    if is_operand word then option_map (with_operand word) (run_words (next ∷ rest))
    else (if is_ticks word then with_ticks (ticks_of next) (run_words rest)
    else (if is_workers word then with_workers (workers_of next) (run_words rest) else None))

-- the run of one operand, the file, or of two, the file and that of the stimulus
abbrev pub run_on : List (List ℕ) → (ticks workers : ℕ) → Option Command
run_on (file ∷ []) ticks workers = Some (Run file ticks workers None)
run_on (file ∷ stim ∷ []) ticks workers = Some (Run file ticks workers (Some stim))
run_on other ticks workers = None

-- the run for the number of ticks that is told, or else for 100,000, by the number of workers that is told, or else by one
abbrev pub run_as : RunWords → Option Command
run_as words = run_on words.operands (unwrap_or words.ticks default_ticks) (unwrap_or words.workers default_workers)

-- what the words behind `run` ask for
abbrev pub run_of : List (List ℕ) → Option Command
run_of words = option_and_then run_as (run_words words)

-- what the word of another command asks for, with the words behind it: a file, or two
abbrev pub other_of : (word : List ℕ) → List (List ℕ) → Option Command
other_of word (file ∷ []) =
    if is_operand file then (if bytes_eq word (codes "asm") then Some (Asm file)
    else (if bytes_eq word (codes "check") then Some (Check file) else None))
    else None
other_of word (file ∷ second ∷ []) =
    if is_operand file && is_operand second && bytes_eq word (codes "time") then Some (Time file second) else None
other_of word other = None

-- What words mean: the first is the command.
abbrev pub means : List (List ℕ) → Option Command
means [] = None
means (word ∷ rest) = if bytes_eq word (codes "run") then run_of rest else other_of word rest

-- the file with the text that a command is about
abbrev pub file_of : Command → List ℕ
file_of (Run file ticks workers stim) = file
file_of (Asm file) = file
file_of (Check file) = file
file_of (Time file routes) = file

-- the file with the stimulus, where a command names one
abbrev pub stim_of : Command → Option (List ℕ)
stim_of (Run file ticks workers stim) = stim
stim_of (Asm file) = None
stim_of (Check file) = None
stim_of (Time file routes) = None

-- the file with the routes, where a command names one
abbrev pub route_file_of : Command → Option (List ℕ)
route_file_of (Run file ticks workers stim) = None
route_file_of (Asm file) = None
route_file_of (Check file) = None
route_file_of (Time file routes) = Some routes

-- the file that a command names behind that of its text
abbrev pub second_of : Command → Option (List ℕ)
second_of (Run file ticks workers stim) = stim
second_of (Asm file) = None
second_of (Check file) = None
second_of (Time file routes) = Some routes

-- how many workers a command asks for: all but a run is done by the caller alone
abbrev pub workers_asked : Command → ℕ
workers_asked (Run file ticks workers stim) = workers
workers_asked (Asm file) = 1
workers_asked (Check file) = 1
workers_asked (Time file routes) = 1

-- that is two workers or more
abbrev pub asks_for_workers : Option Command → Bool
asks_for_workers None = false
asks_for_workers (Some c) = nat_lt 1 (workers_asked c)

-- the words mean a run by two workers or more
abbrev pub mean_workers : List (List ℕ) → Bool
mean_workers words = asks_for_workers (means words)
