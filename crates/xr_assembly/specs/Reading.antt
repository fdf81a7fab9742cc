-- The lines of a listing's text, and the first that breaks rule 1101 or 1102.
use Rattle.std.specs.Prelude.{ℕ, ◌+◌, Bool, true, false, not, ◌&&◌, if◌then◌else◌, List, [], ◌∷◌, length, Option, Some, None, ◌==◌, nat_eq, nat_le, nat_lt, replicate, slice_get, slice_set, unwrap_or}
use Rattle.xr_assembly.specs.Forms.{form_of_line}
use Rattle.xr_assembly.specs.declared.lines.Form.{Form}
use Rattle.xr_assembly.specs.declared.lines.Line.{Line}
use Rattle.xr_assembly.specs.declared.lines.Line.TheVariants.{Begin, Core, Words, Timers, Ends, Port, Root, Code, Chan, Trace}
use Rattle.xr_assembly.specs.declared.order.Here.{Here}
use Rattle.xr_assembly.specs.declared.order.Kind.{Kind}
use Rattle.xr_assembly.specs.declared.order.Kind.TheVariants as kind
use Rattle.xs_instr.specs.declared.instr.Instr.{Instr}
use Rattle.xs_instr.specs.declared.instr.Instr.TheVariants.{Chkct, Outct}

-- the kind of a line
abbrev pub line_kind : Line → Kind
line_kind Begin = kind.Begin
line_kind (Core n) = kind.Core
line_kind (Words n) = kind.Words
line_kind (Timers n) = kind.Timers
line_kind (Ends n) = kind.Ends
line_kind (Port decl) = kind.Port
line_kind (Root k) = kind.Root
line_kind (Code c) = kind.Code
line_kind (Chan c) = kind.Chan
line_kind Trace = kind.Trace

-- Which kind of line may stand right behind which. A core has its four numbers, its ports, one or more roots, and its instructions.
abbrev pub may_follow_kind : Kind → Kind → Bool
may_follow_kind kind.Begin kind.Core = true
may_follow_kind kind.Core kind.Words = true
may_follow_kind kind.Words kind.Timers = true
may_follow_kind kind.Timers kind.Ends = true
may_follow_kind kind.Ends kind.Port = true
may_follow_kind kind.Ends kind.Root = true
may_follow_kind kind.Port kind.Port = true
may_follow_kind kind.Port kind.Root = true
may_follow_kind kind.Root kind.Root = true
may_follow_kind kind.Root kind.Code = true
may_follow_kind kind.Root kind.Core = true
may_follow_kind kind.Root kind.Chan = true
may_follow_kind kind.Root kind.Trace = true
may_follow_kind kind.Code kind.Code = true
may_follow_kind kind.Code kind.Core = true
may_follow_kind kind.Code kind.Chan = true
may_follow_kind kind.Code kind.Trace = true
may_follow_kind kind.Chan kind.Chan = true
may_follow_kind kind.Chan kind.Trace = true
may_follow_kind _ _ = false

-- the first line is `code`
abbrev pub is_begin : Kind → Bool
is_begin kind.Begin = true
is_begin _ = false

-- whether a kind of line may stand behind the last, if there is one
abbrev pub may_follow : Option Kind → Kind → Bool
may_follow None next = is_begin next
may_follow (Some last) next = may_follow_kind last next

-- whether a kind of line may end a text
abbrev pub is_end : Kind → Bool
is_end kind.Root = true
is_end kind.Code = true
is_end kind.Chan = true
is_end kind.Trace = true
is_end _ = false

-- whether the text may end behind the last line, if there is one
abbrev pub may_end : Option Kind → Bool
may_end None = false
may_end (Some last) = is_end last

-- before the first line
abbrev pub start : Here
start = record { kind = None; least = 0; ports = replicate 29 false; roots = 0; index = 0 }

-- the control token of an instruction, where it has one, is a byte
abbrev pub has_byte_token : Instr → Bool
has_byte_token (Outct r n) = nat_le n 255
has_byte_token (Chkct r n) = nat_le n 255
has_byte_token _ = true

-- whether the core has told this port
abbrev pub has_port : List Bool → ℕ → Bool
has_port ports port = unwrap_or (slice_get ports port) false

-- Whether the numbers of a line are in their ranges: a core below 4 and above the core before, no more words, timers, ends and roots than
-- a core has, each port once, each index the next, and control tokens that are bytes.
abbrev pub in_range : Here → Line → Bool
in_range here (Core n) = nat_lt n 4 && nat_le here.least n
in_range here (Words n) = nat_le n 16384
in_range here (Timers n) = nat_le n 10
in_range here (Ends n) = nat_le n 32
in_range here (Port decl) = not (has_port here.ports decl.port)
in_range here (Root k) = nat_lt here.roots 8
in_range here (Code c) = nat_eq c.index here.index && has_byte_token c.instr
in_range here Begin = true
in_range here (Chan c) = true
in_range here Trace = true

-- what stands behind a line
abbrev pub behind_line : Here → Line → Here
behind_line here (Core n) = record { kind = Some kind.Core; least = n + 1; ports = replicate 29 false; roots = 0; index = 0 }
behind_line here (Port decl) = record here { kind = Some kind.Port; ports = slice_set here.ports decl.port true }
behind_line here (Root k) = record here { kind = Some kind.Root; roots = here.roots + 1 }
behind_line here (Code c) = record here { kind = Some kind.Code; index = here.index + 1 }
behind_line here Begin = record here { kind = Some kind.Begin }
behind_line here (Words n) = record here { kind = Some kind.Words }
behind_line here (Timers n) = record here { kind = Some kind.Timers }
behind_line here (Ends n) = record here { kind = Some kind.Ends }
behind_line here (Chan c) = record here { kind = Some kind.Chan }
behind_line here Trace = record here { kind = Some kind.Trace }

-- The rule that a line breaks, by what stands before it: 1101, it has no form of a line, or one that may not stand here; 1102, a number is
-- 2^32 or more, or out of its range. It is the least of these rules.
abbrev pub broken_listing_rule : Here → Option Form → Option ℕ
broken_listing_rule here None = Some 1101
broken_listing_rule here (Some form) =
    if may_follow here.kind (line_kind form.line) then (if form.fits && in_range here form.line then None else Some 1102) else Some 1101

-- whether the line is `trace`
abbrev pub is_trace : Line → Bool
is_trace Trace = true
is_trace _ = false

-- `first_broken`, by the rule that the line breaks and its form
abbrev pub broken_or : Option ℕ → Option Form → (number : ℕ) → (Form → Option (ℕ × ℕ)) → Option (ℕ × ℕ)
broken_or (Some rule) form number later = Some (number, rule)
broken_or None None number later = None
broken_or None (Some form) number later = if is_trace form.line then None else later form

-- The first line that breaks 1101 or 1102, with its rule. The parts of a text between its line feeds are given, and the lines are counted
-- on from a number. Each part but the last is a line. The last stands behind the last line feed: it is empty, and the text may end
-- there, or it breaks 1101.
abbrev pub first_broken : Here → (number : ℕ) → List (List ℕ) → Option (ℕ × ℕ)
first_broken here number [] = None
first_broken here number (last ∷ []) = if length last == 0 && may_end here.kind then None else Some (number, 1101)
first_broken here number (line ∷ next ∷ more) =
    broken_or (broken_listing_rule here (form_of_line line)) (form_of_line line) number
    (λ f. first_broken (behind_line here f.line) (number + 1) (next ∷ more))

-- a line before others, of which `trace` has none
abbrev pub line_before : Option Form → List Line → List Line
line_before None later = []
line_before (Some form) later = if is_trace form.line then [] else form.line ∷ later

-- the lines of the listing, as far as `trace`
abbrev pub listing_lines : List (List ℕ) → List Line
listing_lines [] = []
listing_lines (last ∷ []) = []
listing_lines (line ∷ next ∷ more) = line_before (form_of_line line) (listing_lines (next ∷ more))
