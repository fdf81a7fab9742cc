-- What it is that a text is a line of a listing.
use Rattle.std.specs.Prelude.{◌≡◌, ℕ, ◌<◌, ◌^◌, true, List, ◌∷◌, ◌++◌, Some}
use Rattle.xr_assembly.specs.Cuts.{parts}
use Rattle.xr_assembly.specs.Forms.{form_of_line}
use Rattle.xr_assembly.specs.declared.lines.ChanLine.{ChanLine}
use Rattle.xr_assembly.specs.declared.lines.CodeLine.{CodeLine}
use Rattle.xr_assembly.specs.declared.lines.Line.{Line}
use Rattle.xs_instr.specs.declared.instr.Instr.{Instr}
use Rattle.xw_words.specs.declared.pos.Pos.{Pos}
use Rattle.xs_instr.specs.declared.image.Pair.{Pair}

-- the text is one line with its line feed, whatever stands behind it, and is read as this line
pub record IsLine (text : List ℕ) (line : Line) : Type 0 where
  pub bytes : List ℕ
  pub ends : (behind : List ℕ) → parts 10 (text ++ behind) ≡ bytes ∷ parts 10 behind
  pub reads : form_of_line bytes ≡ Some (record { line = line; fits = true })

-- the numbers of a channel are words, as they are in each image that a program holds
pub record AreWords (p : Pair) : Type 0 where
  pub core : p.core < 2 ^ 32
  pub end : p.end < 2 ^ 32
  pub peer_core : p.peer_core < 2 ^ 32
  pub peer_end : p.peer_end < 2 ^ 32

-- the line that a channel is told by
abbrev pub chan_line_of : Pair → ChanLine
chan_line_of p = record { core = p.core; end = p.end; peer_core = p.peer_core; peer_end = p.peer_end }

-- the line that an instruction is told by
abbrev pub code_line_of : ℕ → Instr → Pos → CodeLine
code_line_of i x p = record { index = i; instr = x; pos = p }
