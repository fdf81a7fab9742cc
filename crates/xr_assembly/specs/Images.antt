-- The image that the lines of a listing tell.
use Rattle.std.specs.Prelude.{ℕ, Bool, true, false, if◌then◌else◌, List, [], ◌∷◌, Option, Some, None, min}
use Rattle.xr_assembly.specs.declared.lines.ChanLine.{ChanLine}
use Rattle.xr_assembly.specs.declared.lines.Line.{Line}
use Rattle.xr_assembly.specs.declared.lines.Line.TheVariants.{Core, Words, Timers, Ends, Port, Root, Code, Chan}
use Rattle.xs_instr.specs.declared.image.CoreImage.{CoreImage}
use Rattle.xs_instr.specs.declared.image.Image.{Image}
use Rattle.xs_instr.specs.declared.image.Pair.{Pair}
use Rattle.xs_instr.specs.declared.image.PortDecl.{PortDecl}
use Rattle.xs_instr.specs.declared.instr.Instr.{Instr}
use Rattle.xw_words.specs.declared.pos.Pos.{Pos}

-- whether the line begins a core
abbrev pub is_core : Line → Bool
is_core (Core n) = true
is_core _ = false

-- the port that a line tells, if it tells one
abbrev pub port_in : Line → Option PortDecl
port_in (Port decl) = Some decl
port_in _ = None

-- the root that a line tells
abbrev pub root_in : Line → Option ℕ
root_in (Root k) = Some k
root_in _ = None

-- the instruction that a line tells
abbrev pub instr_in : Line → Option Instr
instr_in (Code c) = Some c.instr
instr_in _ = None

-- the place of that instruction
abbrev pub pos_in : Line → Option Pos
pos_in (Code c) = Some c.pos
pos_in _ = None

-- the channel that a line tells
abbrev pub chan_in : Line → Option ChanLine
chan_in (Chan c) = Some c
chan_in _ = None

-- what is told before what further lines tell
abbrev pub told_before : {A : Type 0} → Option A → List A → List A
told_before None later = later
told_before (Some x) later = x ∷ later

-- what lines tell of their core, as far as the next one
abbrev pub told : {A : Type 0} → (Line → Option A) → List Line → List A
told find [] = []
told find (line ∷ more) = if is_core line then [] else told_before (find line) (told find more)

-- how much memory a core has, by the lines behind `.core`
abbrev pub words_in : List Line → ℕ
words_in (Words n ∷ more) = n
words_in _ = 0

-- how many timers it has
abbrev pub timers_in : List Line → ℕ
timers_in (words ∷ Timers n ∷ more) = n
timers_in _ = 0

-- how many channel ends it has
abbrev pub channel_ends_in : List Line → ℕ
channel_ends_in (words ∷ timers ∷ Ends n ∷ more) = n
channel_ends_in _ = 0

-- The number of a core in an image. It is a byte there: a greater one, of which there is no core, is told as 255, of which there is none
-- either.
abbrev pub core_number : ℕ → ℕ
core_number n = min n 255

-- a core, by its number and the lines behind it
abbrev pub core_told : ℕ → List Line → CoreImage
core_told n lines = record {
  number = core_number n;
  words = words_in lines;
  timers = timers_in lines;
  ends = channel_ends_in lines;
  ports = told port_in lines;
  roots = told root_in lines;
  code = record { instrs = told instr_in lines; «at» = told pos_in lines };
}

-- a core before others, if a line begins one
abbrev pub core_before : Line → List Line → List CoreImage → List CoreImage
core_before (Core n) lines later = core_told n lines ∷ later
core_before _ lines later = later

-- the cores that lines tell
abbrev pub cores_of : List Line → List CoreImage
cores_of [] = []
cores_of (line ∷ more) = core_before line more (cores_of more)

-- a channel
abbrev pub pair_of : ChanLine → Pair
pair_of c = record { core = core_number c.core; end = c.end; peer_core = core_number c.peer_core; peer_end = c.peer_end }

-- a channel before others, if a line tells one
abbrev pub pair_before : Option ChanLine → List Pair → List Pair
pair_before None later = later
pair_before (Some c) later = pair_of c ∷ later

-- the channels that lines tell
abbrev pub pairs_of : List Line → List Pair
pairs_of [] = []
pairs_of (line ∷ more) = pair_before (chan_in line) (pairs_of more)

-- the image that lines tell
abbrev pub image_of : List Line → Image
image_of lines = record { cores = cores_of lines; chans = pairs_of lines }
