-- The forms of lines of a stimulus: a line is skipped, or it is `TICK CORE PORT VALUE`, or it has another form.
use Rattle.std.specs.Prelude.{ℕ, zero, suc, ◌+◌, ◌^◌, if◌then◌else◌, List, [], ◌∷◌, Option, None, Some, nat_lt, option_and_then}
use Rattle.xr_stim.specs.Lines.{is_skipped, words}
use Rattle.xr_stim.specs.Numbers.{number}
use Rattle.xr_stim.specs.declared.form.Form.{Form}
use Rattle.xr_stim.specs.declared.form.Form.TheVariants.{Skipped, Stimulus, Other}
use Rattle.xr_stim.specs.declared.form.Parts.{Parts}
use Rattle.xw_words.specs.Ports.{port_count, port_text}
use Rattle.xw_words.specs.Tables.{place_in}

-- a number, if it is below 2^32
abbrev pub if_small : ℕ → Option ℕ
if_small n = if nat_lt n (2 ^ 32) then Some n else None

-- the number that a word is, if it is one below 2^32
abbrev pub small_number : List ℕ → Option ℕ
small_number word = option_and_then if_small (number word)

-- the names of so many ports from a place on
abbrev pub names_from : ℕ → ℕ → List (List ℕ)
names_from zero port = []
names_from (suc n) port = port_text port ∷ names_from n (port + 1)

-- the names of all ports, by their places
unfoldable pub port_names : List (List ℕ)
port_names = names_from port_count 0

-- the parts of a line, where its first, second and fourth word are such numbers
abbrev pub parts_of : Option ℕ → Option ℕ → Option ℕ → Option ℕ → Option Parts
parts_of (Some tick) (Some core) port (Some value) = Some (record { tick = tick; core = core; port = port; value = value })
parts_of _ _ _ _ = None

-- the parts of a line that these words make up, if they are four
abbrev pub parts_of_words : List (List ℕ) → Option Parts
parts_of_words (tick ∷ core ∷ port ∷ value ∷ []) = parts_of (small_number tick) (small_number core) (place_in port_names port) (small_number value)
parts_of_words _ = None

-- the parts of a line that has the form of a stimulus line
abbrev pub parts : List ℕ → Option Parts
parts line = parts_of_words (words line)

-- a line with these parts
abbrev pub form_of_parts : Option Parts → Form
form_of_parts (Some parts) = Stimulus parts
form_of_parts None = Other

-- what a line is
abbrev pub form : List ℕ → Form
form line = if is_skipped line then Skipped else form_of_parts (parts line)
