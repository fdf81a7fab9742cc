-- A text read line by line.
use Rattle.std.proofs.Common.{◌≡◌, ℕ, ◌+◌, ◌<◌, true, false, if◌then◌else◌, List, [], ◌∷◌, length, Some, None, refl, ap, ◌∙◌, arith}
use Rattle.std.proofs.lemmas.List.Splits.{length-slice_split}
use Rattle.std.specs.Prelude.{◌==◌}
use Rattle.xr_assembly.specs.Cuts.{parts}
use Rattle.xr_assembly.specs.Forms.{form_of_line}
use Rattle.xr_assembly.specs.Reading.{behind_line, broken_listing_rule, broken_or, first_broken, is_trace, line_before, listing_lines}
use Rattle.xr_assembly.specs.declared.lines.Form.{Form}
use Rattle.xr_assembly.specs.declared.order.Here.{Here}

-- a text has some part
some_part : (text : List ℕ) → 0 < length (parts 10 text)
some_part text = omega (arith, length-slice_split (λ b. b == 10) text)

broken_step : (here : Here) (n : ℕ) (line : List ℕ) (more : List (List ℕ)) → 0 < length more →
    first_broken here n (line ∷ more) ≡ broken_or (broken_listing_rule here (form_of_line line)) (form_of_line line) n (λ f. first_broken (behind_line here f.line) (n + 1) more)
broken_step here n line [] some = absurd (omega arith)
broken_step here n line (next ∷ more) some = refl

lines_step : (line : List ℕ) (more : List (List ℕ)) → 0 < length more → listing_lines (line ∷ more) ≡ line_before (form_of_line line) (listing_lines more)
lines_step line [] some = absurd (omega arith)
lines_step line (next ∷ more) some = refl

-- the first line of those that are left breaks a rule
pub broken-here : (here : Here) (n rule : ℕ) (rest line behind : List ℕ) → parts 10 rest ≡ line ∷ parts 10 behind →
    broken_listing_rule here (form_of_line line) ≡ Some rule → first_broken here n (parts 10 rest) ≡ Some (n, rule)
broken-here here n rule rest line more e broken =
    ap (first_broken here n) e ∙ broken_step here n line (parts 10 more) (some_part more)
    ∙ ap (λ r. broken_or r (form_of_line line) n (λ f. first_broken (behind_line here f.line) (n + 1) (parts 10 more))) broken

-- the first line of those that are left breaks none, and isn't `trace`
pub broken-later : (here : Here) (n : ℕ) (f : Form) (rest line more : List ℕ) → parts 10 rest ≡ line ∷ parts 10 more → form_of_line line ≡ Some f →
    broken_listing_rule here (Some f) ≡ None → is_trace f.line ≡ false →
    first_broken here n (parts 10 rest) ≡ first_broken (behind_line here f.line) (n + 1) (parts 10 more)
broken-later here n f rest line more e is good other =
    ap (first_broken here n) e ∙ broken_step here n line (parts 10 more) (some_part more)
    ∙ ap (λ o. broken_or (broken_listing_rule here o) o n (λ f. first_broken (behind_line here f.line) (n + 1) (parts 10 more))) is
    ∙ ap (λ r. broken_or r (Some f) n (λ f. first_broken (behind_line here f.line) (n + 1) (parts 10 more))) good
    ∙ ap (λ b. if b then None else first_broken (behind_line here f.line) (n + 1) (parts 10 more)) other

-- the first line of those that are left breaks none, and is `trace`
pub broken-none : (here : Here) (n : ℕ) (f : Form) (rest line more : List ℕ) → parts 10 rest ≡ line ∷ parts 10 more → form_of_line line ≡ Some f →
    broken_listing_rule here (Some f) ≡ None → is_trace f.line ≡ true → first_broken here n (parts 10 rest) ≡ None
broken-none here n f rest line more e is good trace =
    ap (first_broken here n) e ∙ broken_step here n line (parts 10 more) (some_part more)
    ∙ ap (λ o. broken_or (broken_listing_rule here o) o n (λ f. first_broken (behind_line here f.line) (n + 1) (parts 10 more))) is
    ∙ ap (λ r. broken_or r (Some f) n (λ f. first_broken (behind_line here f.line) (n + 1) (parts 10 more))) good
    ∙ ap (λ b. if b then None else first_broken (behind_line here f.line) (n + 1) (parts 10 more)) trace

-- the lines are that of this form and those behind it
pub lines-more : (f : Form) (rest line more : List ℕ) → parts 10 rest ≡ line ∷ parts 10 more → form_of_line line ≡ Some f → is_trace f.line ≡ false →
    listing_lines (parts 10 rest) ≡ f.line ∷ listing_lines (parts 10 more)
lines-more f rest line more e is other =
    ap listing_lines e ∙ lines_step line (parts 10 more) (some_part more) ∙ ap (λ o. line_before o (listing_lines (parts 10 more))) is
    ∙ ap (λ b. if b then [] else f.line ∷ listing_lines (parts 10 more)) other
