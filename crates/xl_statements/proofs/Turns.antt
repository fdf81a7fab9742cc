-- A loop: its test, its body, what follows each turn, and the jump back.
use Rattle.std.proofs.Common.{◌≡◌, ℕ, ◌+◌, List, [], ◌∷◌, ◌++◌, length, map, Option, refl, sym, ap, ◌∙◌, subst, arith, append_assoc, append-nil, length-append}
use Rattle.std.proofs.lemmas.List.{length-map}
use Rattle.xw_words.specs.declared.pos.Pos.{Pos}
use Rattle.xs_instr.specs.declared.instr.Instr.TheVariants.{Brff, Brbu}
use Rattle.xs_instr.specs.declared.instr.Reg.TheVariants.{R0}
use Rattle.xs_instr.specs.Lines.{Line, line, open_line, IsOpen, landed, last_pos}
use Rattle.xc_kernel.specs.Plain as kernel
use Rattle.xl_expr.specs.declared.plan.VarPlan.{VarPlan}
use Rattle.xl_expr.specs.Targets.{AreAimed}
use Rattle.xl_flow.specs.Flow.{AddsTest, Tests}
use Rattle.xl_statements.specs.declared.leaving.Leaving.{Leaving}
use Rattle.xl_statements.specs.Cells.{Cell, known, behind, leaves, line_of}
use Rattle.xl_statements.specs.Emits.{Coded, Emitted, LoopCode}
use Rattle.xl_statements.proofs.Parts.{emitted_length, emitted_last, leaves_append, leaves_behind, lines_append, lines_known}
use Rattle.xl_statements.proofs.Seams.{lands_at, next_length, open_at}
use Rattle.xl_statements.proofs.Sides.{test_aimed, test_front, test_last, test_length}

module _
    (vars : List (Option VarPlan)) (x : kernel.Expression) (Body Next : Coded)
    (e0 e1 e2 e3 e4 : List Line) (left0 left1 left2 : List Leaving) (start out : ℕ) (last : Pos)
    (at_1 : AddsTest e0 e1 out last (Tests vars x (length e0) last))
    (aims : AddsTest e0 e1 out last (AreAimed (length e0)))
    (at_2 : Emitted Body e1 e2 left0 left1)
    (at_3 : Emitted Next e2 e3 left1 left2)
    (start_is : start ≡ length e0)
    (at_4 : e4 ≡ e3 ++ line (Brbu start) (last_pos e3) ∷ [])
  where
    out_is : out ≡ length (e0 ++ at_1.lines)
    out_is = at_1.index ∙ sym (length-append e0 at_1.lines)

    length_1 : length e1 ≡ length e0 + length at_1.lines + 1
    length_1 = test_length e0 e1 at_1.lines last at_1.is

    length_2 : length e2 ≡ length e0 + length at_1.lines + 1 + length at_2.cells
    length_2 = let l = length_1 in let m = emitted_length Body e1 e2 left0 left1 at_2 in omega arith

    length_4 : length e4 ≡ length e0 + length at_1.lines + 1 + length at_2.cells + length at_3.cells + 1
    length_4 = let l = length_2 in let m = emitted_length Next e2 e3 left1 left2 at_3 in omega (arith, ap length at_4, next_length e3 (line (Brbu start) (last_pos e3)))

    last_2 : last_pos e2 ≡ behind last at_2.cells
    last_2 = emitted_last Body e1 e2 left0 left1 at_2 ∙ ap (λ p. behind p at_2.cells) (test_last e0 e1 at_1.lines last at_1.is)

    last_3 : last_pos e3 ≡ behind (behind last at_2.cells) at_3.cells
    last_3 = emitted_last Next e2 e3 left1 left2 at_3 ∙ ap (λ p. behind p at_3.cells) last_2

    -- the jump back, at its place
    abbrev back : Line
    back = line (Brbu (length e0)) (behind (behind last at_2.cells) at_3.cells)

    abbrev turn_lines : List Line
    turn_lines = map line_of at_2.cells ++ (map line_of at_3.cells ++ line (Brbu (length e0)) (behind (behind last at_2.cells) at_3.cells) ∷ [])

    e4_is : e4 ≡ (e0 ++ at_1.lines) ++ open_line (Brff R0 0) last ∷ (map line_of at_2.cells ++ (map line_of at_3.cells ++ line (Brbu (length e0)) (behind (behind last at_2.cells) at_3.cells) ∷ []))
    e4_is =
        at_4
        ∙ ap (λ k. e3 ++ line (Brbu k) (last_pos e3) ∷ []) start_is
        ∙ ap (λ p. e3 ++ line (Brbu (length e0)) p ∷ []) last_3
        ∙ ap (λ ls. ls ++ back ∷ []) at_3.lines
        ∙ append_assoc e2 (map line_of at_3.cells) (back ∷ [])
        ∙ ap (λ ls. ls ++ (map line_of at_3.cells ++ back ∷ [])) at_2.lines
        ∙ append_assoc e1 (map line_of at_2.cells) (map line_of at_3.cells ++ back ∷ [])
        ∙ ap (λ ls. ls ++ turn_lines) (test_front e0 e1 at_1.lines last at_1.is)
        ∙ append_assoc (e0 ++ at_1.lines) (open_line (Brff R0 0) last ∷ []) turn_lines

    pub out_open : IsOpen e4 out
    out_open = subst (λ ls. IsOpen ls out) (sym e4_is) (open_at (e0 ++ at_1.lines) turn_lines (Brff R0 0) last out out_is)

    abbrev cells : List Cell
    cells = map known at_1.lines ++ (known (line (Brff R0 (length e4)) last) ∷ (at_2.cells ++ (at_3.cells ++ known (line (Brbu (length e0)) (behind (behind last at_2.cells) at_3.cells)) ∷ [])))

    cells_lines : map line_of cells ≡ at_1.lines ++ (line (Brff R0 (length e4)) last ∷ turn_lines)
    cells_lines =
        lines_append (map known at_1.lines) (known (line (Brff R0 (length e4)) last) ∷ (at_2.cells ++ (at_3.cells ++ known back ∷ [])))
        ∙ ap (λ ls. ls ++ line (Brff R0 (length e4)) last ∷ map line_of (at_2.cells ++ (at_3.cells ++ known back ∷ []))) (lines_known at_1.lines)
        ∙ ap (λ ls. at_1.lines ++ (line (Brff R0 (length e4)) last ∷ ls)) (lines_append at_2.cells (at_3.cells ++ known back ∷ []))
        ∙ ap (λ ls. at_1.lines ++ (line (Brff R0 (length e4)) last ∷ (map line_of at_2.cells ++ ls))) (lines_append at_3.cells (known back ∷ []))

    module _ (e5 : List Line) (at_5 : e5 ≡ landed e4 out (length e4)) where
      e5_is : e5 ≡ e0 ++ map line_of cells
      e5_is =
          at_5
          ∙ ap (λ ls. landed ls out (length e4)) e4_is
          ∙ lands_at (e0 ++ at_1.lines) turn_lines (Brff R0 0) last out (length e4) out_is
          ∙ append_assoc e0 at_1.lines (line (Brff R0 (length e4)) last ∷ turn_lines)
          ∙ ap (λ ls. e0 ++ ls) (sym cells_lines)

      pub turns_size : length e5 ≡ length e4
      turns_size =
          let l = length_4 in
          omega (arith, ap length e5_is, length-append e0 (map line_of cells), ap length cells_lines, length-append at_1.lines (line (Brff R0 (length e4)) last ∷ turn_lines), length-append (map line_of at_2.cells) (map line_of at_3.cells ++ back ∷ []), length-append (map line_of at_3.cells) (back ∷ []), length-map at_2.cells line_of, length-map at_3.cells line_of)

      cells_leaves : left2 ≡ left0 ++ leaves cells (length e0)
      cells_leaves =
          let last_one : leaves at_3.cells (length e2) ≡ leaves (at_3.cells ++ known back ∷ []) (length e2) = sym (leaves_append at_3.cells (known back ∷ []) (length e2) ∙ append-nil (leaves at_3.cells (length e2))) in
          at_3.leaving_ones
          ∙ ap (λ l. l ++ leaves at_3.cells (length e2)) at_2.leaving_ones
          ∙ append_assoc left0 (leaves at_2.cells (length e1)) (leaves at_3.cells (length e2))
          ∙ ap (λ l. left0 ++ (leaves at_2.cells (length e1) ++ l)) last_one
          ∙ ap (λ k. left0 ++ (leaves at_2.cells k ++ leaves (at_3.cells ++ known back ∷ []) (length e2))) length_1
          ∙ ap (λ k. left0 ++ (leaves at_2.cells (length e0 + length at_1.lines + 1) ++ leaves (at_3.cells ++ known back ∷ []) k)) length_2
          ∙ ap (λ l. left0 ++ l) (sym (leaves_append at_2.cells (at_3.cells ++ known back ∷ []) (length e0 + length at_1.lines + 1)))
          ∙ ap (λ l. left0 ++ l) (sym (leaves_behind at_1.lines (known (line (Brff R0 (length e4)) last) ∷ (at_2.cells ++ (at_3.cells ++ known back ∷ []))) (length e0)))

      pub turns_emitted : last ≡ last_pos e0 → Emitted (LoopCode vars x Body Next) e0 e5 left0 left2
      turns_emitted last_is =
          record {
            cells = cells;
            lines = e5_is;
            leaving_ones = cells_leaves;
            so = subst (λ p. LoopCode vars x Body Next p (length e0) cells) last_is (record {
              test = at_1.lines;
              body = at_2.cells;
              next = at_3.cells;
              end = length e4;
              end_is = length_4;
              is = refl;
              tests = at_1.so;
              aimed = test_aimed e0 e1 out last (Tests vars x (length e0) last) (AreAimed (length e0)) at_1 aims aims.so;
              body_is = subst (λ p. Body p (length e0 + length at_1.lines + 1) at_2.cells) (test_last e0 e1 at_1.lines last at_1.is) (subst (λ k. Body (last_pos e1) k at_2.cells) length_1 at_2.so);
              next_is = subst (λ p. Next p (length e0 + length at_1.lines + 1 + length at_2.cells) at_3.cells) last_2 (subst (λ k. Next (last_pos e2) k at_3.cells) length_2 at_3.so);
            });
          }
