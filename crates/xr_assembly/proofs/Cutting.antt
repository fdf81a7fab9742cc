-- Where the first part of a text ends.
use Rattle.std.proofs.Common.{◌≡◌, ℕ, ◌+◌, ◌-◌, ◌<◌, Bool, List, [], ◌∷◌, length, take, drop, None, refl, sym, ap, subst, ◌∙◌, arith}
use Rattle.std.proofs.lemmas.List.{take_rest}
use Rattle.std.proofs.lemmas.List.Splits.{length-slice_split}
use Rattle.std.specs.List.{position_or_len, slice_split}
use Rattle.std.specs.Prelude.{◌==◌}
use Rattle.xr_assembly.specs.Cuts.{parts}
use Rattle.xr_assembly.specs.Forms.{form_of_words, place_of_parts}
use Rattle.xr_stim.proofs.PartLemmas.{first_part}

-- a text that is cut at the first byte that passes has what stands before it as its first part
pub cut-at : (p : ℕ → Bool) (text : List ℕ) (n : ℕ) → n ≡ position_or_len p text → n < length text →
    slice_split p text ≡ take n text ∷ slice_split p (take (length text - (n + 1)) (drop (n + 1) text))
cut-at p text n place lt =
    subst (λ k. slice_split p text ≡ take k text ∷ slice_split p (drop (k + 1) text)) (sym place)
    (first_part p text (subst (λ k. k < length text) place lt))
    ∙ ap (λ rest. take n text ∷ slice_split p rest) (sym (take_rest text (n + 1)))

-- a text has some part
pub some_part : (byte : ℕ) (text : List ℕ) → 0 < length (parts byte text)
some_part byte text = omega (arith, length-slice_split (λ b. b == byte) text)

-- more than two parts make no place
no_place : (a b : List ℕ) (more : List (List ℕ)) → 0 < length more → place_of_parts (a ∷ b ∷ more) ≡ None
no_place a b [] some = absurd (omega arith)
no_place a b (x ∷ more) some = refl

-- more than six words make no line
no_form : (a b c d e f : List ℕ) (more : List (List ℕ)) → 0 < length more → form_of_words (a ∷ b ∷ c ∷ d ∷ e ∷ f ∷ more) ≡ None
no_form a b c d e f [] some = absurd (omega arith)
no_form a b c d e f (x ∷ more) some = refl

pub place-of_three : (word a rest b behind : List ℕ) → parts 58 word ≡ a ∷ parts 58 rest → parts 58 rest ≡ b ∷ parts 58 behind →
    place_of_parts (parts 58 word) ≡ None
place-of_three word a rest b behind e g =
    ap place_of_parts (e ∙ ap (λ ps. a ∷ ps) g) ∙ no_place a b (parts 58 behind) (some_part 58 behind)

pub form-of_seven : (ws behind : List ℕ) (a b c d e f : List ℕ) → parts 32 ws ≡ a ∷ b ∷ c ∷ d ∷ e ∷ f ∷ parts 32 behind →
    form_of_words (parts 32 ws) ≡ None
form-of_seven ws behind a b c d e f is = ap form_of_words is ∙ no_form a b c d e f (parts 32 behind) (some_part 32 behind)
