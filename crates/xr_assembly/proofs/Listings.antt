-- A text tells an image or has a first line that breaks a rule, and not both.
use Rattle.std.proofs.Common.{◌≡◌, ◌⊎◌, ℕ, List, [], Option, Some, None, inl, inr, refl, sym, ap, ◌∙◌}
use Rattle.xr_assembly.specs.Listings.{IsFirstBrokenLine, Tells, broken_line, broken_reference_in, by_line, by_reference, image_in, lines_in}
use Rattle.xr_assembly.specs.Errors.{IfAsmLine}
use Rattle.xr_assembly.specs.Images.{image_of}
use Rattle.xr_assembly.specs.References.{first_broken_reference}
use Rattle.xr_assembly.specs.declared.lines.Line.{Line}
use Rattle.xr_assembly.specs.declared.reader.AsmErr.{AsmErr}
use Rattle.xr_assembly.specs.declared.reader.AsmErr.TheVariants as err
use Rattle.xs_instr.specs.declared.image.Image.{Image}

nothing : (n r : ℕ) (o : Option (ℕ × ℕ)) → o ≡ None → o ≡ Some (n, r) → ⊥
nothing n r o none some =
    let a : ℕ × ℕ = (n, r) in
    let e : None ≡ Some a = sym none ∙ some in absurd (cc)

abbrev line_in : Option (ℕ × ℕ) → ℕ
line_in None = 0
line_in (Some x) = x.0

abbrev rule_in : Option (ℕ × ℕ) → ℕ
rule_in None = 0
rule_in (Some x) = x.1

same : (n r m q : ℕ) (o : Option (ℕ × ℕ)) → o ≡ Some (n, r) → o ≡ Some (m, q) → (n ≡ m) × (r ≡ q)
same n r m q o e g =
    let a : ℕ × ℕ = (n, r) in
    let b : ℕ × ℕ = (m, q) in
    let h : Some a ≡ Some b = sym e ∙ g in (ap line_in h, ap rule_in h)

pub not_both : (text : List ℕ) (L : Image) (n r : ℕ) → Tells text L → IsFirstBrokenLine text n r → ⊥
not_both text L n r t (by_line e) = nothing n r (broken_line text) t.lines e
not_both text L n r t (by_reference e g) = nothing n r (broken_reference_in text) t.references g

pub one_image : (text : List ℕ) (L M : Image) → Tells text L → Tells text M → L ≡ M
one_image text L M t u = t.image ∙ sym u.image

pub one_line : (text : List ℕ) (n r m q : ℕ) → IsFirstBrokenLine text n r → IsFirstBrokenLine text m q → (n ≡ m) × (r ≡ q)
one_line text n r m q (by_line e) (by_line g) = same n r m q (broken_line text) e g
one_line text n r m q (by_line e) (by_reference none g) = absurd (nothing n r (broken_line text) none e)
one_line text n r m q (by_reference none e) (by_line g) = absurd (nothing m q (broken_line text) none g)
one_line text n r m q (by_reference none e) (by_reference none' g) = same n r m q (broken_reference_in text) e g

some_by : (text : List ℕ) (o p : Option (ℕ × ℕ)) → broken_line text ≡ o → broken_reference_in text ≡ p →
    ((L : Image) × Tells text L) ⊎ ((n : ℕ) × (r : ℕ) × IsFirstBrokenLine text n r)
some_by text (Some x) p e g = inr (x.0, x.1, by_line e)
some_by text None (Some x) e g = inr (x.0, x.1, by_reference e g)
some_by text None None e g = inl (image_in text, record { lines = e; references = g; image = refl })

-- each text tells an image or has a first line that breaks a rule
pub some : (text : List ℕ) → ((L : Image) × Tells text L) ⊎ ((n : ℕ) × (r : ℕ) × IsFirstBrokenLine text n r)
some text = some_by text (broken_line text) (broken_reference_in text) refl refl

-- a broken line is the first that breaks a rule
pub line_first : (text : List ℕ) (e : AsmErr) → IfAsmLine e (λ line rule. broken_line text ≡ Some (line, rule)) → IfAsmLine e (λ line rule. IsFirstBrokenLine text line rule)
line_first text (err.Line line rule) h = by_line h
line_first text err.Memory h = tt

-- what is found of the image that was made, and its lines, is found of the text
pub reference_is : (text : List ℕ) (L : Image) (ls ms : List Line) (o : Option (ℕ × ℕ)) → ls ≡ lines_in text → ms ≡ lines_in text → L ≡ image_of ls →
    o ≡ first_broken_reference L 0 [] 1 ms → broken_reference_in text ≡ o
reference_is text L ls ms o l m image found =
    sym (found ∙ ap (λ I. first_broken_reference I 0 [] 1 ms) (image ∙ ap image_of l) ∙ ap (first_broken_reference (image_in text) 0 [] 1) m)
