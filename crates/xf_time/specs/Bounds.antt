-- The numbers of the routes that a text asks for, and the first line of it that breaks a rule.
use Rattle.std.specs.Prelude.{◌≡◌, ◌<◌, ℕ, ◌+◌, Bool, not, ◌&&◌, ◌||◌, if◌then◌else◌, List, [], ◌∷◌, length, slice_get, Option, None, Some, nat_eq, nat_lt}
use Rattle.std.specs.List.{list_any}
use Rattle.std.specs.Str.Lines.{lines}
use Rattle.xf_time.specs.Forms.{form}
use Rattle.xf_time.specs.Routes.{HoldsUp, IsLongest, is_place}
use Rattle.xf_time.specs.declared.form.Form.{Form}
use Rattle.xf_time.specs.declared.form.Form.TheVariants.{Skipped, IsRoute, Other}
use Rattle.xf_time.specs.declared.form.Route.{Route}
use Rattle.xf_time.specs.declared.reader.RouteLine.{RouteLine}
use Rattle.xs_instr.specs.Machine.{parts_in}
use Rattle.xs_instr.specs.declared.image.Code.{Code}
use Rattle.xs_instr.specs.declared.image.Image.{Image}
use Rattle.xw_words.specs.declared.pos.Pos.{Pos}

-- What a line breaks by its form and the number of routes before it: 1001, another form; 1002, a core above 3 or more than 1,000
-- backward branches; 1005, the 17th route. It is the least of these rules.
abbrev pub broken_rule : (routes : ℕ) → Form → Option ℕ
broken_rule routes Skipped = None
broken_rule routes Other = Some 1001
broken_rule routes (IsRoute route) =
    if nat_lt 3 route.core || nat_lt 1000 route.backward then Some 1002 else if nat_eq routes 16 then Some 1005 else None

-- how many routes there are with this line
abbrev pub with_line : (routes : ℕ) → Form → ℕ
with_line routes (IsRoute route) = routes + 1
with_line routes Skipped = routes
with_line routes Other = routes

-- `first_broken`, by cases
abbrev pub broken_or : Option ℕ → (number : ℕ) → Option (ℕ × ℕ) → Option (ℕ × ℕ)
broken_or (Some rule) number later = Some (number, rule)
broken_or None number later = later

-- the first of these lines that breaks a rule by its form, with the rule, where so many routes stand before them; lines are counted on
-- from a number
abbrev pub first_broken : (routes number : ℕ) → List (List ℕ) → Option (ℕ × ℕ)
first_broken routes number [] = None
first_broken routes number (line ∷ more) =
    broken_or (broken_rule routes (form line)) number (first_broken (with_line routes (form line)) (number + 1) more)

-- the route that a line is, before others
abbrev pub route_before : Form → (number : ℕ) → List RouteLine → List RouteLine
route_before (IsRoute route) number later = record { line = number; route = route } ∷ later
route_before Skipped number later = later
route_before Other number later = later

-- the routes of these lines
abbrev pub routes_from : (number : ℕ) → List (List ℕ) → List RouteLine
routes_from number [] = []
routes_from number (line ∷ more) = route_before (form line) number (routes_from (number + 1) more)

-- the routes that a text asks for
abbrev pub routes_of : List ℕ → List RouteLine
routes_of text = routes_from 1 (lines text)

-- the code of a core
abbrev pub code_of : Image → ℕ → Code
code_of image core = (parts_in image.cores core).code

-- whether an instruction stands at a place of the text
abbrev pub has_instr_at : Code → Pos → Bool
has_instr_at code place = list_any (λ pos. is_place (Some pos) place) code.«at»

-- 1003: the core has no instruction where the route begins, or none where it ends
abbrev pub is_misplaced : Image → Route → Bool
is_misplaced image route =
    not (has_instr_at (code_of image route.core) route.from && has_instr_at (code_of image route.core) route.to)

-- the line of the first route that is
abbrev pub first_misplaced : Image → List RouteLine → Option ℕ
first_misplaced image [] = None
first_misplaced image (r ∷ more) = if is_misplaced image r.route then Some r.line else first_misplaced image more

-- 1004: a thread may be held up on a way of the route
abbrev pub IsHeld : Image → Route → Type 0
IsHeld image route = HoldsUp (code_of image route.core) route.from route.to route.backward

-- the number of a route
abbrev pub IsNumberOf : Image → Route → ℕ → Type 0
IsNumberOf image route long = IsLongest (code_of image route.core) route.from route.to route.backward long

-- a number for each route, in order
pub record AreRouteNumbers (image : Image) (routes : List RouteLine) (numbers : List ℕ) : Type 0 where
  pub count : length numbers ≡ length routes
  pub each : (k : ℕ) (r : RouteLine) (n : ℕ) → slice_get routes k ≡ Some r → slice_get numbers k ≡ Some n → IsNumberOf image r.route n

-- the line of the first route on which a thread may be held up
pub record IsFirstHeld (image : Image) (routes : List RouteLine) (line : ℕ) : Type 0 where
  pub index : ℕ
  pub route : RouteLine
  pub here : slice_get routes index ≡ Some route
  pub line_is : route.line ≡ line
  pub held : IsHeld image route.route
  pub others : (k : ℕ) (r : RouteLine) → k < index → slice_get routes k ≡ Some r → IsHeld image r.route → ⊥

-- no line of the text breaks a rule, and these are the numbers of its routes
pub record AreBounds (image : Image) (text : List ℕ) (numbers : List ℕ) : Type 0 where
  pub formed : first_broken 0 1 (lines text) ≡ None
  pub placed : first_misplaced image (routes_of text) ≡ None
  pub are : AreRouteNumbers image (routes_of text) numbers

-- The line of the text that is named, counted from 1, and its rule: the first that breaks a rule by its form; where there is none, the
-- first that breaks 1003; and where there is none of these either, the first that breaks 1004.
pub data IsFirstBroken (image : Image) (text : List ℕ) : (line rule : ℕ) → Type 0 where
  by_form : {line rule : ℕ} → first_broken 0 1 (lines text) ≡ Some (line, rule) → IsFirstBroken image text line rule
  by_place : {line : ℕ} → first_broken 0 1 (lines text) ≡ None → first_misplaced image (routes_of text) ≡ Some line →
      IsFirstBroken image text line 1003
  by_hold : {line : ℕ} → first_broken 0 1 (lines text) ≡ None → first_misplaced image (routes_of text) ≡ None →
      IsFirstHeld image (routes_of text) line → IsFirstBroken image text line 1004
