-- The forms of lines of a listing. A line has words, with one space between any two. It begins the listing or ends it, says a number of a
-- core, a port or a root, or is an instruction or a channel.
use Rattle.std.specs.Prelude.{ℕ, Bool, true, ◌&&◌, if◌then◌else◌, List, [], ◌∷◌, Option, Some, None, option_and_then, bytes_eq, codes}
use Rattle.std.specs.Option.{is_some}
use Rattle.xr_assembly.specs.Cuts.{before_last, behind_first, numeral, parts, the_one_named}
use Rattle.xr_assembly.specs.Instructions.{value, with_none, with_one, with_three, with_two}
use Rattle.xr_assembly.specs.declared.instructions.Spoken.{Spoken}
use Rattle.xr_assembly.specs.declared.lines.Form.{Form}
use Rattle.xr_assembly.specs.declared.lines.Line.{Line}
use Rattle.xr_assembly.specs.declared.lines.Line.TheVariants.{Begin, Core, Words, Timers, Ends, Port, Root, Code, Chan, Trace}
use Rattle.xr_assembly.specs.declared.lines.Place.{Place}
use Rattle.xr_stim.specs.Forms.{port_names}
use Rattle.xs_instr.specs.declared.image.Dir.{Dir}
use Rattle.xs_instr.specs.declared.image.Dir.TheVariants.{In as DirIn, Out as DirOut, Both as DirBoth}
use Rattle.xs_instr.specs.Texts.{dir_text}
use Rattle.xw_words.specs.Tables.{place_in}

-- a line that has this form, and whether its numbers fit
abbrev pub formed : Bool → Option Line → Option Form
formed fits None = None
formed fits (Some line) = Some (record { line = line; fits = fits })

-- a word that is a line: `code` or `trace`
abbrev pub alone : List ℕ → Option Form
alone word =
    formed true (if bytes_eq word (codes "code") then Some Begin else if bytes_eq word (codes "trace") then Some Trace else None)

-- the line that says this number behind a word
abbrev pub directive : List ℕ → ℕ → Option Line
directive word n =
    if bytes_eq word (codes ".core") then Some (Core n)
    else if bytes_eq word (codes ".words") then Some (Words n)
    else if bytes_eq word (codes ".timers") then Some (Timers n)
    else if bytes_eq word (codes ".ends") then Some (Ends n)
    else if bytes_eq word (codes ".root") then Some (Root n)
    else None

-- `numbered`, by the number
abbrev pub numbered_by : List ℕ → Option (Option ℕ) → Option Form
numbered_by word None = None
numbered_by word (Some n) = formed (is_some n) (directive word (value n))

-- a word and a number
abbrev pub numbered : List ℕ → List ℕ → Option Form
numbered word n = numbered_by word (numeral n)

-- all ways of a port
abbrev pub dirs : List Dir
dirs = DirIn ∷ DirOut ∷ DirBoth ∷ []

-- `port`, by the port and its way
abbrev pub port_by : Option ℕ → Option Dir → Option Form
port_by (Some port) (Some dir) = Some (record { line = Port (record { port = port; dir = dir }); fits = true })
port_by _ _ = None

-- a port's identifier and its way
abbrev pub port : List ℕ → List ℕ → Option Form
port id dir = port_by (place_in port_names id) (the_one_named dir_text dirs dir)

-- `chan`, by its numbers
abbrev pub chan_by : Option (Option ℕ) → Option (Option ℕ) → Option (Option ℕ) → Option (Option ℕ) → Option Form
chan_by (Some c) (Some e) (Some peer_c) (Some peer_e) =
    formed (is_some c && is_some e && is_some peer_c && is_some peer_e)
    (Some (Chan (record { core = value c; end = value e; peer_core = value peer_c; peer_end = value peer_e })))
chan_by _ _ _ _ = None

-- the core and the number of each end of a channel
abbrev pub chan : List ℕ → List ℕ → List ℕ → List ℕ → Option Form
chan c e peer_c peer_e = chan_by (numeral c) (numeral e) (numeral peer_c) (numeral peer_e)

-- a place, by its numbers
abbrev pub place_of_numbers : Option (Option ℕ) → Option (Option ℕ) → Option Place
place_of_numbers (Some l) (Some c) = Some (record { pos = record { line = value l; col = value c }; fits = is_some l && is_some c })
place_of_numbers _ _ = None

-- a place, by what stands between its colons
abbrev pub place_of_parts : List (List ℕ) → Option Place
place_of_parts (l ∷ c ∷ []) = place_of_numbers (numeral l) (numeral c)
place_of_parts _ = None

-- the place that a word tells: `@LINE:COL`
abbrev pub place_of_word : List ℕ → Option Place
place_of_word word = option_and_then (λ w. place_of_parts (parts 58 w)) (behind_first 64 word)

-- the index that a word tells: a number with a colon behind it
abbrev pub index : List ℕ → Option (Option ℕ)
index word = option_and_then numeral (before_last 58 word)

-- `code`, by its index, its instruction and its place
abbrev pub code_by : Option (Option ℕ) → Option Spoken → Option Place → Option Form
code_by (Some i) (Some x) (Some p) =
    formed (is_some i && x.fits && p.fits) (Some (Code (record { index = value i; instr = x.instr; pos = p.pos })))
code_by _ _ _ = None

-- an index, an instruction and a place
abbrev pub code : List ℕ → Option Spoken → List ℕ → Option Form
code i x p = code_by (index i) x (place_of_word p)

-- a line of three words: a port, or an instruction without operands
abbrev pub of_three : List ℕ → List ℕ → List ℕ → Option Form
of_three a b c = if bytes_eq a (codes ".port") then port b c else code a (with_none b) c

-- a line of five words: a channel, or an instruction with two operands
abbrev pub of_five : List ℕ → List ℕ → List ℕ → List ℕ → List ℕ → Option Form
of_five a b c d e = if bytes_eq a (codes ".chan") then chan b c d e else code a (with_two b c d) e

-- the form of a line of these words
abbrev pub form_of_words : List (List ℕ) → Option Form
form_of_words (word ∷ []) = alone word
form_of_words (word ∷ n ∷ []) = numbered word n
form_of_words (a ∷ b ∷ c ∷ []) = of_three a b c
form_of_words (i ∷ name ∷ a ∷ p ∷ []) = code i (with_one name a) p
form_of_words (a ∷ b ∷ c ∷ d ∷ e ∷ []) = of_five a b c d e
form_of_words (i ∷ name ∷ a ∷ b ∷ c ∷ p ∷ []) = code i (with_three name a b c) p
form_of_words _ = None

-- the form of a line, if it has one
abbrev pub form_of_line : List ℕ → Option Form
form_of_line line = form_of_words (parts 32 line)
