-- A loop, and what is passed over: code with a hole that has landed.
use Rattle.std.proofs.Common.{◌≡◌, ℕ, ◌+◌, ◌<◌, ◌≤◌, List, [], ◌∷◌, ◌++◌, length, refl, sym, ap, ◌∙◌, subst, arith, append_assoc, length-append}
use Rattle.xw_words.specs.declared.pos.Pos.{Pos}
use Rattle.xs_instr.specs.declared.instr.Instr.{Instr}
use Rattle.xs_instr.specs.declared.instr.Instr.TheVariants.{Brff, Brfu, Brbu}
use Rattle.xs_instr.specs.declared.instr.Reg.TheVariants.{R0}
use Rattle.xs_instr.specs.Adds.{Adds}
use Rattle.xs_instr.specs.Lines.{IsOpen, Line, landed, line, open_line, with_target}
use Rattle.xs_instr.specs.Valid.{IsForward, IsGoodInstr}
use Rattle.xl_expr.specs.Targets.{AreAimed, AreGoodLines}
use Rattle.xl_expr.proofs.Emitted.{landed_behind, open_behind}
use Rattle.xl_expr.proofs.GoodCode.{aimed_append, good_append}
use Rattle.xl_flow.specs.Flow.{AddsTest}

-- a branch with a hole behind some lines, and lines behind it at whose end it lands
module _ (i : Instr) (forward : (size n k : ℕ) → IsForward size n k → IsGoodInstr size n (with_target i k)) (pos : Pos) (front rest all : List Line) (h : ℕ) (h_is : h ≡ length front) (all_is : all ≡ front ++ open_line i pos ∷ rest) where
  pub is_open : IsOpen all h
  is_open = open_behind front rest all h i pos h_is all_is

  pub lands : (new : List Line) → new ≡ landed all h (length all) → AreAimed 0 front → ((size : ℕ) → length all < size → AreGoodLines size (length front + 1) rest) → AreAimed 0 new
  lands new new_is aimed good =
      let target = length all in
      let is : new ≡ front ++ line (with_target i target) pos ∷ rest = new_is ∙ landed_behind front rest all h target i pos h_is all_is in
      let size_is : length all ≡ length front + (1 + length rest) = omega (arith, ap length all_is, length-append front (open_line i pos ∷ rest)) in
      let branch : AreAimed (0 + length front) (line (with_target i target) pos ∷ rest) =
      record {
        by = λ size lt.
            let g = good size (omega (arith, size_is, lt)) in
            let e : length front + 1 ≡ 0 + length front + 1 = omega arith in
            (forward size (0 + length front) target (omega (arith, size_is), omega (arith, size_is, lt)), refl, subst (λ n. AreGoodLines size n rest) e g);
      } in
      subst (AreAimed 0) (sym is) (aimed_append 0 front (line (with_target i target) pos ∷ rest) aimed branch)

-- `while`: a test, a body, and a jump back to the test
module _ (pos : Pos) (e0 e1 e2 e3 : List Line) (h : ℕ) (test : AddsTest e0 e1 h pos (AreAimed (length e0))) (body : Adds e1 e2 (AreAimed (length e1))) (back : e3 ≡ e2 ++ line (Brbu (length e0)) pos ∷ []) where
  abbrev front : List Line
  front = e0 ++ test.lines

  abbrev rest : List Line
  rest = body.lines ++ line (Brbu (length e0)) pos ∷ []

  index_is : h ≡ length front
  index_is = test.index ∙ sym (length-append e0 test.lines)

  all_is : e3 ≡ front ++ open_line (Brff R0 0) pos ∷ rest
  all_is =
      back
      ∙ ap (λ ls. ls ++ line (Brbu (length e0)) pos ∷ []) (body.is ∙ ap (λ ls. ls ++ body.lines) (test.is ∙ sym (append_assoc e0 test.lines (open_line (Brff R0 0) pos ∷ []))))
      ∙ ap (λ ls. ls ++ line (Brbu (length e0)) pos ∷ []) (append_assoc front (open_line (Brff R0 0) pos ∷ []) body.lines)
      ∙ append_assoc front (open_line (Brff R0 0) pos ∷ body.lines) (line (Brbu (length e0)) pos ∷ [])

  pub loop_open : IsOpen e3 h
  loop_open = is_open (Brff R0 0) (λ size n k f. f) pos front rest e3 h index_is all_is

  before : length e1 ≡ length front + 1
  before = omega (arith, ap length test.is, length-append e0 (test.lines ++ open_line (Brff R0 0) pos ∷ []), length-append test.lines (open_line (Brff R0 0) pos ∷ []), length-append e0 test.lines)

  pub loop_lands : (e4 : List Line) → e4 ≡ landed e3 h (length e3) → AreAimed 0 e0 → AreAimed 0 e4
  loop_lands e4 e4_is aimed =
      let e : length e0 ≡ 0 + length e0 = omega arith in
      lands (Brff R0 0) (λ size n k f. f) pos front rest e3 h index_is all_is e4 e4_is (aimed_append 0 e0 test.lines aimed (subst (λ n. AreAimed n test.lines) e test.so)) good
    where
      sizes : length e3 ≡ length e1 + (length body.lines + 1)
      sizes = omega (arith, ap length back, ap length body.is, length-append e2 (line (Brbu (length e0)) pos ∷ []), length-append e1 body.lines)

      good : (size : ℕ) → length e3 < size → AreGoodLines size (length front + 1) rest
      good size lt =
          let within : length e1 + length body.lines < size = omega (arith, sizes, lt) in
          let below : length e0 ≤ length e1 + length body.lines = omega (arith, before, length-append e0 test.lines) in
          subst (λ n. AreGoodLines size n rest) before
          (good_append size (length e1) body.lines (line (Brbu (length e0)) pos ∷ []) (body.so.by size within) ((below, omega (arith, below, within)), refl, tt))

-- a jump over some lines
module _ (pos : Pos) (e0 e1 e2 : List Line) (h : ℕ) (jump : e1 ≡ e0 ++ open_line (Brfu 0) pos ∷ []) (h_is : h ≡ length e0) (body : Adds e1 e2 (AreAimed (length e1))) where
  over_is : e2 ≡ e0 ++ open_line (Brfu 0) pos ∷ body.lines
  over_is = body.is ∙ ap (λ ls. ls ++ body.lines) jump ∙ append_assoc e0 (open_line (Brfu 0) pos ∷ []) body.lines

  pub over_open : IsOpen e2 h
  over_open = is_open (Brfu 0) (λ size n k f. f) pos e0 body.lines e2 h h_is over_is

  pub over_lands : (e3 : List Line) → e3 ≡ landed e2 h (length e2) → AreAimed 0 e0 → AreAimed 0 e3
  over_lands e3 e3_is aimed =
      let next : length e1 ≡ length e0 + 1 = omega (arith, ap length jump, length-append e0 (open_line (Brfu 0) pos ∷ [])) in
      let size_is = ap length body.is ∙ length-append e1 body.lines in
      lands (Brfu 0) (λ size n k f. f) pos e0 body.lines e2 h h_is over_is e3 e3_is aimed (λ size lt. subst (λ n. AreGoodLines size n body.lines) next (body.so.by size (omega (arith, size_is, lt))))
