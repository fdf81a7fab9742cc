-- Instructions at one place, one after another.
use Rattle.std.proofs.Common.{◌≡◌, ℕ, zero, suc, ◌+◌, ◌<◌, ◌≤◌, List, [], ◌∷◌, ◌++◌, length, take, get_or, refl, sym, ap, ◌∙◌, arith, append_assoc, add-one}
use Rattle.xw_words.specs.declared.pos.Pos.{Pos}
use Rattle.xs_instr.specs.declared.instr.Instr.{Instr}
use Rattle.xs_instr.specs.Lines.{Line, line, at_pos}

at_pos-suc : (pos : Pos) (is : List Instr) (n : ℕ) (d : Instr) → n < length is → at_pos pos (take (suc n) is) ≡ at_pos pos (take n is) ++ line (get_or is n d) pos ∷ []
at_pos-suc pos [] n d h = absurd (omega arith)
at_pos-suc pos (i ∷ is) zero d h = refl
at_pos-suc pos (i ∷ is) (suc n) d h = ap (λ ls. line i pos ∷ ls) (at_pos-suc pos is n d (omega arith))

pub length-at_pos-take : (pos : Pos) (is : List Instr) (n : ℕ) → length (at_pos pos (take n is)) ≤ n
length-at_pos-take pos is zero = omega arith
length-at_pos-take pos [] (suc n) = omega arith
length-at_pos-take pos (i ∷ is) (suc n) = let h = length-at_pos-take pos is n in omega arith

pub puts_one : (pos : Pos) (is : List Instr) (n : ℕ) (i d : Instr) (old e new : List Line) → n < length is → i ≡ get_or is n d → e ≡ old ++ at_pos pos (take n is) → new ≡ e ++ line i pos ∷ [] → new ≡ old ++ at_pos pos (take (n + 1) is)
puts_one pos is n i d old e new h at_n e_is new_is =
    new_is
    ∙ ap (λ x. x ++ line i pos ∷ []) e_is
    ∙ append_assoc old (at_pos pos (take n is)) (line i pos ∷ [])
    ∙ ap (λ j. old ++ (at_pos pos (take n is) ++ line j pos ∷ [])) at_n
    ∙ ap (λ x. old ++ x) (sym (at_pos-suc pos is n d h))
    ∙ ap (λ m. old ++ at_pos pos (take m is)) (sym (add-one n))
