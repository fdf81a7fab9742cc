-- The stimulus that a text means, and the first line that breaks a rule.
use Rattle.std.specs.Prelude.{◌≡◌, ℕ, ◌+◌, ◌^◌, ◌<◌, Bool, true, false, ◌||◌, if◌then◌else◌, List, [], ◌∷◌, length, take, slice_index_or, Option, None, Some, is_none, nat_le, nat_lt, unwrap_or, filter_map}
use Rattle.std.specs.Str.Lines.{lines}
use Rattle.xr_stim.specs.Forms.{form}
use Rattle.xr_stim.specs.declared.form.Form.{Form}
use Rattle.xr_stim.specs.declared.form.Form.TheVariants.{Stimulus, Other}
use Rattle.xs_instr.specs.declared.image.Stim.{Stim}
use Rattle.xs_instr.specs.declared.image.StimLine.{StimLine}
use Rattle.xw_words.specs.Ports.{width_of}

-- the most lines that a stimulus may have
abbrev pub most_lines : ℕ
most_lines = 100000

-- whether the value has more bits than the port, if there is one
abbrev pub is_too_wide : Option ℕ → ℕ → Bool
is_too_wide None value = false
is_too_wide (Some port) value = nat_le (2 ^ width_of port) value

-- What breaks a rule, by the tick of the stimulus line before, the number of the line and its form.

-- 801: another form
abbrev pub has_other_form : ℕ → ℕ → Form → Bool
has_other_form last n Other = true
has_other_form last n _ = false

-- 802: a tick below that of the stimulus line before
abbrev pub has_earlier_tick : ℕ → ℕ → Form → Bool
has_earlier_tick last n (Stimulus parts) = nat_lt parts.tick last
has_earlier_tick last n _ = false

-- 803: no such core, or no such port
abbrev pub has_no_place : ℕ → ℕ → Form → Bool
has_no_place last n (Stimulus parts) = nat_lt 3 parts.core || is_none parts.port
has_no_place last n _ = false

-- 804: a value with more bits than the port
abbrev pub has_wide_value : ℕ → ℕ → Form → Bool
has_wide_value last n (Stimulus parts) = is_too_wide parts.port parts.value
has_wide_value last n _ = false

-- 805: a line too many
abbrev pub is_too_many : ℕ → ℕ → Form → Bool
is_too_many last n form = nat_lt most_lines n

-- The rules in rising order, each with what breaks it. The least broken rule is the first of the table that is broken. Line 100,001
-- breaks a rule, so no count can run over.
abbrev pub rules : List (ℕ × (ℕ → ℕ → Form → Bool))
rules = (801, has_other_form) ∷ (802, has_earlier_tick) ∷ (803, has_no_place) ∷ (804, has_wide_value) ∷ (805, is_too_many) ∷ []

-- the first of these rules that is broken
abbrev pub first_of : List (ℕ × (ℕ → ℕ → Form → Bool)) → ℕ → ℕ → Form → Option ℕ
first_of [] last n form = None
first_of (rule ∷ more) last n form = if rule.1 last n form then Some rule.0 else first_of more last n form

-- the least rule that is broken
abbrev pub broken_rule : ℕ → ℕ → Form → Option ℕ
broken_rule last n form = first_of rules last n form

-- the line of the stimulus that a line of the text says, if it says one
abbrev pub line_of : Form → Option StimLine
line_of (Stimulus parts) = Some (record { tick = parts.tick; core = parts.core; port = unwrap_or parts.port 0; value = parts.value })
line_of _ = None

-- the lines of the stimulus that these lines of the text say
abbrev pub lines_of : List (List ℕ) → List StimLine
lines_of ls = filter_map (λ line. line_of (form line)) ls

-- the last tick, or else this one
abbrev pub last_tick : ℕ → List StimLine → ℕ
last_tick tick [] = tick
last_tick tick (l ∷ ls) = last_tick l.tick ls

-- the least rule that is broken by the line at this place, from 0
abbrev pub broken_at : List (List ℕ) → ℕ → Option ℕ
broken_at ls k = broken_rule (last_tick 0 (lines_of (take k ls))) (k + 1) (form (slice_index_or ls k []))

-- no line of the text breaks a rule, and the stimulus has the lines that those of the text say
pub record Means (text : List ℕ) (stim : Stim) : Type 0 where
  pub unbroken : (k : ℕ) → k < length (lines text) → broken_at (lines text) k ≡ None
  pub says : stim.lines ≡ lines_of (lines text)

-- line n of the text, counted from 1, breaks a rule, this is the least that it breaks, and no line before it breaks one
pub record IsFirstBroken (text : List ℕ) (n rule : ℕ) : Type 0 where
  pub before : ℕ
  pub number : n ≡ before + 1
  pub there : before < length (lines text)
  pub broken : broken_at (lines text) before ≡ Some rule
  pub others : (k : ℕ) → k < before → broken_at (lines text) k ≡ None
