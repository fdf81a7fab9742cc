-- The texts that are written.
use Rattle.std.specs.Prelude.{ℕ, List, ◌++◌, codes, decimal}
use Rattle.xw_words.specs.declared.pos.Broken.{Broken}
use Rattle.xs_instr.specs.declared.image.Image.{Image}
use Rattle.xs_instr.specs.declared.trace.EndWord.{EndWord}
use Rattle.xs_instr.specs.declared.trace.Record.{Record}
use Rattle.xs_instr.specs.Texts.{all_texts, image_text, record_line, end_text, pos_text}

-- the code section: `code`, and the listing
unfoldable pub code_section : Image → List ℕ
code_section L = codes "code\n" ++ image_text L

-- the whole output of a run: code section, trace section, end line
unfoldable pub run_output : Image → List Record → EndWord → List ℕ
run_output L lines word =
    codes "code\n" ++ image_text L ++ codes "trace\n" ++ all_texts record_line lines ++ codes "end " ++ end_text word ++ codes "\n"

-- the bound of a route, as `ticks N`
unfoldable pub bound_line : ℕ → List ℕ
bound_line n = codes "ticks " ++ decimal n ++ codes "\n"

-- the whole output of `time`: code section, and the bound of each route
unfoldable pub time_output : Image → (numbers : List ℕ) → List ℕ
time_output L numbers = codes "code\n" ++ image_text L ++ all_texts bound_line numbers

abbrev pub accepted_line : List ℕ
accepted_line = codes "accepted\n"

abbrev pub usage_line : List ℕ
usage_line = codes "usage: xcsim check FILE | asm FILE | run FILE [STIM] [--ticks N] [--workers W] | debug FILE STIM SCRIPT | make N | bench N | time FILE SPEC\n"

unfoldable pub no_file_line : List ℕ → List ℕ
no_file_line name = codes "no file " ++ name ++ codes "\n"

unfoldable pub too_long_line : List ℕ → List ℕ
too_long_line name = codes "too long " ++ name ++ codes "\n"

unfoldable pub read_fault_line : List ℕ → List ℕ
read_fault_line name = codes "read fault " ++ name ++ codes "\n"

-- the broken rule and its place, as `FILE:LINE:COL: rule N`
unfoldable pub broken_line : List ℕ → Broken → List ℕ
broken_line name b = name ++ codes ":" ++ pos_text b.pos ++ codes ": rule " ++ decimal b.rule ++ codes "\n"

-- the line of a stimulus or of a text of routes that breaks a rule, and the rule, as `STIM:LINE: rule N`
unfoldable pub bad_line : List ℕ → (line : ℕ) → (rule : ℕ) → List ℕ
bad_line name line rule = name ++ codes ":" ++ decimal line ++ codes ": rule " ++ decimal rule ++ codes "\n"

abbrev pub no_memory_line : List ℕ
no_memory_line = codes "out of memory\n"
