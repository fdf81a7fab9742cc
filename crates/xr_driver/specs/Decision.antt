-- What is due, of the values that the program holds.
use Rattle.std.specs.Prelude.{ℕ, Bool, List, [], ◌∷◌, None, Some, Option, Result, Ok, Err, is_none, option_and_then, if◌then◌else◌}
use Rattle.xs_instr.specs.declared.image.Image.{Image}
use Rattle.xs_instr.specs.Valid.{Valid}
use Rattle.xr_driver.specs.declared.decide.Decision.{Decision}
use Rattle.xr_driver.specs.declared.decide.Printed.{Printed}
use Rattle.xr_driver.specs.declared.decide.Printed.TheVariants.{Nothing, Accepted, Code, Bounds, Whole}
use Rattle.xr_driver.specs.declared.decide.Line.{Line}
use Rattle.xr_driver.specs.declared.decide.Line.TheVariants.{Nothing as NoLine, Usage, NoFile, TooLong, ReadFault, Broken as BrokenLine, BadLine, NoMemory}
use Rattle.xr_driver.specs.declared.words.Command.{Command}
use Rattle.xr_driver.specs.declared.words.Command.TheVariants.{Run, Asm, Check, Time}
use Rattle.xr_driver.specs.declared.words.Told.{Told}
use Rattle.xr_driver.specs.declared.words.Operands.{Operands}
use Rattle.xr_driver.specs.declared.words.Operands.TheVariants.{Nothing as NoOperand, File, FileAndStim}
use Rattle.xr_driver.specs.Command.{Command as Meant, Run as MeansRun, Asm as MeansAsm, Check as MeansCheck, Time as MeansTime, is_ticks, is_workers, ticks_of, workers_of}
use Rattle.xr_driver.specs.Lines.{accepted_line, code_section, run_output, time_output, usage_line, no_file_line, too_long_line, read_fault_line, broken_line, bad_line, no_memory_line}
use Rattle.xr_driver.specs.Answers.{Outcome, prints, says, status_of_run}
use Rattle.xr_windows.specs.declared.run.Run.{Run as WholeRun}
use Rattle.xw_words.specs.declared.memory.Memory.{Memory}

-- the meaning of a command
abbrev pub command_of : Command → Meant
command_of (Run file None ticks workers) = MeansRun file.now ticks workers None
command_of (Run file (Some stim) ticks workers) = MeansRun file.now ticks workers (Some stim.now)
command_of (Asm file) = MeansAsm file.now
command_of (Check file) = MeansCheck file.now
command_of (Time file routes) = MeansTime file.now routes.now

-- the operands among the words behind `run`
abbrev pub names_of : Operands → List (List ℕ)
names_of NoOperand = []
names_of (File file) = file.now ∷ []
names_of (FileAndStim file stim) = file.now ∷ stim.now ∷ []

-- the number of ticks, where it isn't told yet
abbrev pub tell_ticks : Told → ℕ → Option Told
tell_ticks told n = if is_none told.ticks then Some (record { ticks = Some n; workers = told.workers }) else None

-- the number of workers, where it isn't told yet
abbrev pub tell_workers : Told → ℕ → Option Told
tell_workers told n = if is_none told.workers then Some (record { ticks = told.ticks; workers = Some n }) else None

-- What options tell, with one more of them and its number: none where the word is no option, where that is told already, and where the next
-- word isn't its number.
abbrev pub told_with : (word next : List ℕ) → Told → Option Told
told_with word next told =
    if is_ticks word then option_and_then (tell_ticks told) (ticks_of next)
    else (if is_workers word then option_and_then (tell_workers told) (workers_of next) else None)

-- what is due on `out`
abbrev pub printed_text : Printed → List ℕ
printed_text Nothing = []
printed_text Accepted = accepted_line
printed_text (Code L) = code_section L
printed_text (Bounds L numbers) = time_output L numbers
printed_text (Whole L run) = run_output L run.trace run.end

-- what is due can be written
abbrev pub IsPrintable : Printed → Type 0
IsPrintable Nothing = Unit {0}
IsPrintable Accepted = Unit {0}
IsPrintable (Code L) = Valid L
IsPrintable (Bounds L numbers) = Valid L
IsPrintable (Whole L run) = Valid L

-- what is due on `err`
abbrev pub line_text : Line → List ℕ
line_text NoLine = []
line_text Usage = usage_line
line_text (NoFile name) = no_file_line name.now
line_text (TooLong name) = too_long_line name.now
line_text (ReadFault name) = read_fault_line name.now
line_text (BrokenLine name broken) = broken_line name.now broken
line_text (BadLine name line rule) = bad_line name.now line rule
line_text NoMemory = no_memory_line

-- what is decided
abbrev pub outcome_of : Decision → Outcome
outcome_of d = record { status = d.status; output = printed_text d.printed; line = line_text d.line }

-- what is decided where a run of the image was tried: what it tells, or that memory is wanting
abbrev pub outcome_of_run : Image → Result WholeRun Memory → Outcome
outcome_of_run L (Ok run) = prints (status_of_run run.trapped run.end) (run_output L run.trace run.end)
outcome_of_run L (Err memory) = says 12 no_memory_line
