-- The image that a text tells, and the first line of a text that breaks a rule.
use Rattle.std.specs.Prelude.{◌≡◌, ℕ, List, [], Option, None, Some}
use Rattle.xr_assembly.specs.Cuts.{parts}
use Rattle.xr_assembly.specs.Images.{image_of}
use Rattle.xr_assembly.specs.Reading.{first_broken, listing_lines, start}
use Rattle.xr_assembly.specs.References.{first_broken_reference}
use Rattle.xr_assembly.specs.declared.lines.Line.{Line}
use Rattle.xs_instr.specs.declared.image.Image.{Image}

-- the lines of a text, as far as `trace`
abbrev pub lines_in : List ℕ → List Line
lines_in text = listing_lines (parts 10 text)

-- the image that a text tells
abbrev pub image_in : List ℕ → Image
image_in text = image_of (lines_in text)

-- the first line of a text that breaks 1101 or 1102, with the rule
abbrev pub broken_line : List ℕ → Option (ℕ × ℕ)
broken_line text = first_broken start 1 (parts 10 text)

-- the first line of a text that breaks 1103, 1104 or 1105, with the rule
abbrev pub broken_reference_in : List ℕ → Option (ℕ × ℕ)
broken_reference_in text = first_broken_reference (image_in text) 0 [] 1 (lines_in text)

-- no line of the text breaks a rule, and the lines tell the image
pub record Tells (text : List ℕ) (L : Image) : Type 0 where
  pub lines : broken_line text ≡ None
  pub references : broken_reference_in text ≡ None
  pub image : L ≡ image_in text

-- The line of the text that is named, counted from 1, and its rule: the first that breaks 1101 or 1102, with the least rule; where there
-- is none, the first that breaks 1103, 1104 or 1105.
pub data IsFirstBrokenLine (text : List ℕ) : (line rule : ℕ) → Type 0 where
  by_line : {line rule : ℕ} → broken_line text ≡ Some (line, rule) → IsFirstBrokenLine text line rule
  by_reference : {line rule : ℕ} → broken_line text ≡ None → broken_reference_in text ≡ Some (line, rule) → IsFirstBrokenLine text line rule
