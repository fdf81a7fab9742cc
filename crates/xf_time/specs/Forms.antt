-- The forms of lines of a text of routes: a line is skipped, or it is `route CORE L:C L:C B`, or it has another form.
use Rattle.std.specs.Prelude.{ℕ, ◌+◌, Bool, if◌then◌else◌, List, [], ◌∷◌, Option, None, Some, ◌==◌, bytes_eq, codes, drop, take}
use Rattle.std.specs.List.{position}
use Rattle.xr_stim.specs.Forms.{small_number}
use Rattle.xr_stim.specs.Lines.{is_skipped, words}
use Rattle.xf_time.specs.declared.form.Form.{Form}
use Rattle.xf_time.specs.declared.form.Form.TheVariants.{Skipped, IsRoute, Other}
use Rattle.xf_time.specs.declared.form.Route.{Route}
use Rattle.xw_words.specs.declared.pos.Pos.{Pos}

-- whether a byte is a colon
abbrev pub is_colon : ℕ → Bool
is_colon b = b == 58

-- the place of these numbers
abbrev pub place_of_numbers : Option ℕ → Option ℕ → Option Pos
place_of_numbers (Some line) (Some col) = Some (record { line = line; col = col })
place_of_numbers _ _ = None

-- `place`, by cases
abbrev pub place_at_colon : List ℕ → Option ℕ → Option Pos
place_at_colon word None = None
place_at_colon word (Some colon) = place_of_numbers (small_number (take colon word)) (small_number (drop (colon + 1) word))

-- the place that a word is, if it is two numbers below 2^32 with a colon between
abbrev pub place : List ℕ → Option Pos
place word = place_at_colon word (position is_colon word)

-- a route with these parts
abbrev pub route_of : Option ℕ → Option Pos → Option Pos → Option ℕ → Option Route
route_of (Some core) (Some from) (Some to) (Some backward) = Some (record { core = core; from = from; to = to; backward = backward })
route_of _ _ _ _ = None

-- the route that these words make up, if they are `route`, a core, two places and a number
abbrev pub route_of_words : List (List ℕ) → Option Route
route_of_words (name ∷ core ∷ from ∷ to ∷ backward ∷ []) =
    if bytes_eq name (codes "route") then route_of (small_number core) (place from) (place to) (small_number backward) else None
route_of_words _ = None

-- a line with this route
abbrev pub form_of_route : Option Route → Form
form_of_route (Some route) = IsRoute route
form_of_route None = Other

-- what a line is
abbrev pub form : List ℕ → Form
form line = if is_skipped line then Skipped else form_of_route (route_of_words (words line))
