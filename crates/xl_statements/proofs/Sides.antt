-- A test, two sides, and the jumps between them.
use Rattle.std.proofs.Common.{◌≡◌, ℕ, ◌+◌, ◌<◌, List, [], ◌∷◌, ◌++◌, length, map, Option, refl, sym, ap, ◌∙◌, subst, arith, append_assoc, length-append}
use Rattle.std.proofs.lemmas.List.{length-map, append_cancel_left, append_cancel_right}
use Rattle.xw_words.specs.declared.pos.Pos.{Pos}
use Rattle.xs_instr.specs.declared.instr.Instr.TheVariants.{Brff, Brfu}
use Rattle.xs_instr.specs.declared.instr.Reg.TheVariants.{R0}
use Rattle.xs_instr.specs.Extends.{Extends}
use Rattle.xs_instr.specs.Lines.{Line, line, open_line, IsOpen, landed, last_pos}
use Rattle.xc_kernel.specs.Plain as kernel
use Rattle.xc_kernel.specs.declared.statement.Kst.{Kst}
use Rattle.xl_expr.specs.declared.plan.VarPlan.{VarPlan}
use Rattle.xl_expr.specs.Targets.{AreAimed}
use Rattle.xl_expr.proofs.Emitted.{last_added}
use Rattle.xl_flow.specs.Flow.{AddsTest, Tests}
use Rattle.xl_statements.specs.declared.leaving.Leaving.{Leaving}
use Rattle.xl_statements.specs.Built.{statements_of}
use Rattle.xl_statements.specs.Cells.{Cell, known, behind, leaves, line_of}
use Rattle.xl_statements.specs.Emits.{Branching, Coded, Emitted, OneSide, TwoSides}
use Rattle.xl_statements.proofs.Parts.{emitted_length, emitted_last, leaves_append, leaves_behind, lines_append, lines_known}
use Rattle.xl_statements.proofs.Seams.{extends_by, lands_at, next_length, open_at}

-- behind a test
module _ (e0 e1 : List Line) (hole : ℕ) (last : Pos) (P Q : List Line → Type 0) (h : AddsTest e0 e1 hole last P) (g : AddsTest e0 e1 hole last Q) where
  pub test_same : g.lines ≡ h.lines
  test_same = append_cancel_right g.lines h.lines (open_line (Brff R0 0) last ∷ []) (append_cancel_left e0 (g.lines ++ open_line (Brff R0 0) last ∷ []) (h.lines ++ open_line (Brff R0 0) last ∷ []) (sym g.is ∙ h.is))

  pub test_aimed : Q g.lines → Q h.lines
  test_aimed q = subst Q test_same q

module _ (e0 e1 t : List Line) (last : Pos) (h : e1 ≡ e0 ++ (t ++ open_line (Brff R0 0) last ∷ [])) where
  pub test_front : e1 ≡ (e0 ++ t) ++ open_line (Brff R0 0) last ∷ []
  test_front = h ∙ sym (append_assoc e0 t (open_line (Brff R0 0) last ∷ []))

  pub test_length : length e1 ≡ length e0 + length t + 1
  test_length = omega (arith, ap length test_front, length-append (e0 ++ t) (open_line (Brff R0 0) last ∷ []), length-append e0 t)

  pub test_last : last_pos e1 ≡ last
  test_last = last_added (e0 ++ t) e1 (open_line (Brff R0 0) last ∷ []) test_front

-- one side

module _
    (vars : List (Option VarPlan)) (x : kernel.Expression) (First : Coded)
    (e0 e1 e2 : List Line) (left0 left1 : List Leaving) (past : ℕ) (last : Pos)
    (at_1 : AddsTest e0 e1 past last (Tests vars x (length e0) last))
    (aims : AddsTest e0 e1 past last (AreAimed (length e0)))
    (at_2 : Emitted First e1 e2 left0 left1)
  where
    one_past : past ≡ length (e0 ++ at_1.lines)
    one_past = at_1.index ∙ sym (length-append e0 at_1.lines)

    one_is : e2 ≡ (e0 ++ at_1.lines) ++ open_line (Brff R0 0) last ∷ map line_of at_2.cells
    one_is = at_2.lines ∙ ap (λ ls. ls ++ map line_of at_2.cells) (test_front e0 e1 at_1.lines last at_1.is) ∙ append_assoc (e0 ++ at_1.lines) (open_line (Brff R0 0) last ∷ []) (map line_of at_2.cells)

    pub one_open : IsOpen e2 past
    one_open = subst (λ ls. IsOpen ls past) (sym one_is) (open_at (e0 ++ at_1.lines) (map line_of at_2.cells) (Brff R0 0) last past one_past)

    one_length : length e2 ≡ length e0 + length at_1.lines + 1 + length at_2.cells
    one_length = let l = test_length e0 e1 at_1.lines last at_1.is in let m = emitted_length First e1 e2 left0 left1 at_2 in omega arith

    abbrev one_cells : List Cell
    one_cells = map known at_1.lines ++ (known (line (Brff R0 (length e2)) last) ∷ at_2.cells)

    pub one_side_emitted : (e3 : List Line) → e3 ≡ landed e2 past (length e2) → last ≡ last_pos e0 → Emitted (OneSide vars x First) e0 e3 left0 left1
    one_side_emitted e3 at_3 last_is =
        record {
          cells = one_cells;
          lines =
              at_3
              ∙ ap (λ ls. landed ls past (length e2)) one_is
              ∙ lands_at (e0 ++ at_1.lines) (map line_of at_2.cells) (Brff R0 0) last past (length e2) one_past
              ∙ append_assoc e0 at_1.lines (line (Brff R0 (length e2)) last ∷ map line_of at_2.cells)
              ∙ ap (λ ls. e0 ++ (ls ++ line (Brff R0 (length e2)) last ∷ map line_of at_2.cells)) (sym (lines_known at_1.lines))
              ∙ ap (λ ls. e0 ++ ls) (sym (lines_append (map known at_1.lines) (known (line (Brff R0 (length e2)) last) ∷ at_2.cells)));
          leaving_ones =
              at_2.leaving_ones
              ∙ ap (λ k. left0 ++ leaves at_2.cells k) (test_length e0 e1 at_1.lines last at_1.is)
              ∙ ap (λ l. left0 ++ l) (sym (leaves_behind at_1.lines (known (line (Brff R0 (length e2)) last) ∷ at_2.cells) (length e0)));
          so = subst (λ p. OneSide vars x First p (length e0) one_cells) last_is (record {
            test = at_1.lines;
            first = at_2.cells;
            end = length e2;
            end_is = one_length;
            is = refl;
            tests = at_1.so;
            aimed = test_aimed e0 e1 past last (Tests vars x (length e0) last) (AreAimed (length e0)) at_1 aims aims.so;
            first_is = subst (λ p. First p (length e0 + length at_1.lines + 1) at_2.cells) (test_last e0 e1 at_1.lines last at_1.is) (subst (λ k. First (last_pos e1) k at_2.cells) (test_length e0 e1 at_1.lines last at_1.is) at_2.so);
          });
        }

-- there is no second side
pub branch_one : (ss : List Kst) (vars : List (Option VarPlan)) (x : kernel.Expression) (First Second : Coded) → length ss ≡ 0 → (last : Pos) (pc : ℕ) (cells : List Cell) → OneSide vars x First last pc cells → Branching (statements_of ss) vars x First Second last pc cells
branch_one [] vars x First Second none last pc cells h = h
branch_one (s ∷ ss) vars x First Second none last pc cells h = absurd (omega (arith, none))

-- there is a second side
pub branch_two : (ss : List Kst) (vars : List (Option VarPlan)) (x : kernel.Expression) (First Second : Coded) → 0 < length ss → (last : Pos) (pc : ℕ) (cells : List Cell) → TwoSides vars x First Second last pc cells → Branching (statements_of ss) vars x First Second last pc cells
branch_two [] vars x First Second some last pc cells h = absurd (omega arith)
branch_two (s ∷ ss) vars x First Second some last pc cells h = h

-- two sides

module _
    (vars : List (Option VarPlan)) (x : kernel.Expression) (First Second : Coded)
    (e0 e1 e2 e3 e4 : List Line) (left0 left1 : List Leaving) (past over : ℕ) (last : Pos)
    (at_1 : AddsTest e0 e1 past last (Tests vars x (length e0) last))
    (aims : AddsTest e0 e1 past last (AreAimed (length e0)))
    (at_2 : Emitted First e1 e2 left0 left1)
    (at_3 : e3 ≡ e2 ++ open_line (Brfu 0) (last_pos e2) ∷ [])
    (over_is : over ≡ length e2)
  where
    abbrev t : List Line
    t = at_1.lines

    abbrev a : List Cell
    a = at_2.cells

    first_lines : List Line
    first_lines = map line_of at_2.cells

    past_is : past ≡ length (e0 ++ at_1.lines)
    past_is = at_1.index ∙ sym (length-append e0 at_1.lines)

    -- the open jump to the second side, with what is behind it
    e3_is : e3 ≡ (e0 ++ at_1.lines) ++ open_line (Brff R0 0) last ∷ (map line_of at_2.cells ++ open_line (Brfu 0) (last_pos e2) ∷ [])
    e3_is =
        at_3
        ∙ ap (λ ls. ls ++ open_line (Brfu 0) (last_pos e2) ∷ []) (at_2.lines ∙ ap (λ ls. ls ++ map line_of at_2.cells) (test_front e0 e1 at_1.lines last at_1.is) ∙ append_assoc (e0 ++ at_1.lines) (open_line (Brff R0 0) last ∷ []) (map line_of at_2.cells))
        ∙ append_assoc (e0 ++ at_1.lines) (open_line (Brff R0 0) last ∷ map line_of at_2.cells) (open_line (Brfu 0) (last_pos e2) ∷ [])

    pub past_open : IsOpen e3 past
    past_open = subst (λ ls. IsOpen ls past) (sym e3_is) (open_at (e0 ++ at_1.lines) _ (Brff R0 0) last past past_is)

    length_2 : length e2 ≡ length e0 + length at_1.lines + 1 + length at_2.cells
    length_2 = let l = test_length e0 e1 at_1.lines last at_1.is in let m = emitted_length First e1 e2 left0 left1 at_2 in omega arith

    length_3 : length e3 ≡ length e0 + length at_1.lines + 1 + length at_2.cells + 1
    length_3 = let l = length_2 in omega (arith, ap length at_3, next_length e2 (open_line (Brfu 0) (last_pos e2)))

    last_2 : last_pos e2 ≡ behind last at_2.cells
    last_2 = emitted_last First e1 e2 left0 left1 at_2 ∙ ap (λ p. behind p at_2.cells) (test_last e0 e1 at_1.lines last at_1.is)

    module _ (at_4 : e4 ≡ landed e3 past (length e3)) where
      -- it lands; the other jump is open behind this
      front : List Line
      front = (e0 ++ at_1.lines) ++ (line (Brff R0 (length e3)) last ∷ map line_of at_2.cells)

      front_length : length ((e0 ++ at_1.lines) ++ (line (Brff R0 (length e3)) last ∷ map line_of at_2.cells)) ≡ length e2
      front_length = let l = length_2 in omega (arith, length-append (e0 ++ at_1.lines) (line (Brff R0 (length e3)) last ∷ map line_of at_2.cells), length-append e0 at_1.lines, length-map at_2.cells line_of)

      e4_is : e4 ≡ ((e0 ++ at_1.lines) ++ (line (Brff R0 (length e3)) last ∷ map line_of at_2.cells)) ++ open_line (Brfu 0) (last_pos e2) ∷ []
      e4_is =
          at_4
          ∙ ap (λ ls. landed ls past (length e3)) e3_is
          ∙ lands_at (e0 ++ at_1.lines) (map line_of at_2.cells ++ open_line (Brfu 0) (last_pos e2) ∷ []) (Brff R0 0) last past (length e3) past_is
          ∙ sym (append_assoc (e0 ++ at_1.lines) (line (Brff R0 (length e3)) last ∷ map line_of at_2.cells) (open_line (Brfu 0) (last_pos e2) ∷ []))

      pub length_4 : length e4 ≡ length e3
      length_4 =
          let l = front_length in
          omega (arith, ap length e4_is, next_length ((e0 ++ at_1.lines) ++ (line (Brff R0 (length e3)) last ∷ map line_of at_2.cells)) (open_line (Brfu 0) (last_pos e2)), ap length at_3, next_length e2 (open_line (Brfu 0) (last_pos e2)))

      last_4 : last_pos e4 ≡ behind last at_2.cells
      last_4 = last_added ((e0 ++ at_1.lines) ++ (line (Brff R0 (length e3)) last ∷ map line_of at_2.cells)) e4 (open_line (Brfu 0) (last_pos e2) ∷ []) e4_is ∙ last_2

      pub extends_4 : Extends e0 e4
      extends_4 = extends_by e0 e4 _ (e4_is ∙ append_assoc (e0 ++ at_1.lines) (line (Brff R0 (length e3)) last ∷ map line_of at_2.cells) (open_line (Brfu 0) (last_pos e2) ∷ []) ∙ append_assoc e0 at_1.lines _)

      module _ (e5 : List Line) (left2 : List Leaving) (at_5 : Emitted Second e4 e5 left1 left2) where
        e5_is : e5 ≡ ((e0 ++ at_1.lines) ++ (line (Brff R0 (length e3)) last ∷ map line_of at_2.cells)) ++ open_line (Brfu 0) (last_pos e2) ∷ map line_of at_5.cells
        e5_is =
            at_5.lines
            ∙ ap (λ ls. ls ++ map line_of at_5.cells) e4_is
            ∙ append_assoc ((e0 ++ at_1.lines) ++ (line (Brff R0 (length e3)) last ∷ map line_of at_2.cells)) (open_line (Brfu 0) (last_pos e2) ∷ []) (map line_of at_5.cells)

        pub over_open : IsOpen e5 over
        over_open = subst (λ ls. IsOpen ls over) (sym e5_is) (open_at ((e0 ++ at_1.lines) ++ (line (Brff R0 (length e3)) last ∷ map line_of at_2.cells)) (map line_of at_5.cells) (Brfu 0) (last_pos e2) over (over_is ∙ sym front_length))

        length_5 : length e5 ≡ length e3 + length at_5.cells
        length_5 = let l = length_4 in let m = emitted_length Second e4 e5 left1 left2 at_5 in omega arith

        abbrev cells : List Cell
        cells = map known at_1.lines ++ (known (line (Brff R0 (length e3)) last) ∷ (at_2.cells ++ (known (line (Brfu (length e5)) (behind last at_2.cells)) ∷ at_5.cells)))

        cells_lines : map line_of cells ≡ at_1.lines ++ (line (Brff R0 (length e3)) last ∷ (map line_of at_2.cells ++ (line (Brfu (length e5)) (behind last at_2.cells) ∷ map line_of at_5.cells)))
        cells_lines =
            lines_append (map known at_1.lines) (known (line (Brff R0 (length e3)) last) ∷ (at_2.cells ++ (known (line (Brfu (length e5)) (behind last at_2.cells)) ∷ at_5.cells)))
            ∙ ap (λ ls. ls ++ line (Brff R0 (length e3)) last ∷ map line_of (at_2.cells ++ (known (line (Brfu (length e5)) (behind last at_2.cells)) ∷ at_5.cells))) (lines_known at_1.lines)
            ∙ ap (λ ls. at_1.lines ++ (line (Brff R0 (length e3)) last ∷ ls)) (lines_append at_2.cells (known (line (Brfu (length e5)) (behind last at_2.cells)) ∷ at_5.cells))

        module _ (e6 : List Line) (at_6 : e6 ≡ landed e5 over (length e5)) where
          e6_is : e6 ≡ e0 ++ map line_of cells
          e6_is =
              at_6
              ∙ ap (λ ls. landed ls over (length e5)) e5_is
              ∙ lands_at ((e0 ++ at_1.lines) ++ (line (Brff R0 (length e3)) last ∷ map line_of at_2.cells)) (map line_of at_5.cells) (Brfu 0) (last_pos e2) over (length e5) (over_is ∙ sym front_length)
              ∙ ap (λ p. ((e0 ++ at_1.lines) ++ (line (Brff R0 (length e3)) last ∷ map line_of at_2.cells)) ++ line (Brfu (length e5)) p ∷ map line_of at_5.cells) last_2
              ∙ append_assoc (e0 ++ at_1.lines) (line (Brff R0 (length e3)) last ∷ map line_of at_2.cells) (line (Brfu (length e5)) (behind last at_2.cells) ∷ map line_of at_5.cells)
              ∙ append_assoc e0 at_1.lines (line (Brff R0 (length e3)) last ∷ (map line_of at_2.cells ++ (line (Brfu (length e5)) (behind last at_2.cells) ∷ map line_of at_5.cells)))
              ∙ ap (λ ls. e0 ++ ls) (sym cells_lines)

          pub sides_size : length e6 ≡ length e5
          sides_size =
              let l = length_5 in
              let m = length_3 in
              let n = length-append at_1.lines (line (Brff R0 (length e3)) last ∷ (map line_of at_2.cells ++ (line (Brfu (length e5)) (behind last at_2.cells) ∷ map line_of at_5.cells))) in
              omega (arith, ap length e6_is, length-append e0 (map line_of cells), ap length cells_lines, n, length-append (map line_of at_2.cells) (line (Brfu (length e5)) (behind last at_2.cells) ∷ map line_of at_5.cells), length-map at_2.cells line_of, length-map at_5.cells line_of)

          cells_leaves : left2 ≡ left0 ++ leaves cells (length e0)
          cells_leaves =
              at_5.leaving_ones
              ∙ ap (λ l. l ++ leaves at_5.cells (length e4)) at_2.leaving_ones
              ∙ append_assoc left0 (leaves at_2.cells (length e1)) (leaves at_5.cells (length e4))
              ∙ ap (λ k. left0 ++ (leaves at_2.cells k ++ leaves at_5.cells (length e4))) (test_length e0 e1 at_1.lines last at_1.is)
              ∙ ap (λ k. left0 ++ (leaves at_2.cells (length e0 + length at_1.lines + 1) ++ leaves at_5.cells k)) (length_4 ∙ length_3)
              ∙ ap (λ l. left0 ++ l) (sym (leaves_append at_2.cells (known (line (Brfu (length e5)) (behind last at_2.cells)) ∷ at_5.cells) (length e0 + length at_1.lines + 1)))
              ∙ ap (λ l. left0 ++ l) (sym (leaves_behind at_1.lines (known (line (Brff R0 (length e3)) last) ∷ (at_2.cells ++ (known (line (Brfu (length e5)) (behind last at_2.cells)) ∷ at_5.cells))) (length e0)))

          pub sides_emitted : last ≡ last_pos e0 → Emitted (TwoSides vars x First Second) e0 e6 left0 left2
          sides_emitted last_is =
              record {
                cells = cells;
                lines = e6_is;
                leaving_ones = cells_leaves;
                so = subst (λ p. TwoSides vars x First Second p (length e0) cells) last_is (record {
                  test = at_1.lines;
                  first = at_2.cells;
                  second = at_5.cells;
                  other = length e3;
                  end = length e5;
                  other_is = length_3;
                  end_is = length_5;
                  is = refl;
                  tests = at_1.so;
                  aimed = test_aimed e0 e1 past last (Tests vars x (length e0) last) (AreAimed (length e0)) at_1 aims aims.so;
                  first_is = subst (λ p. First p (length e0 + length at_1.lines + 1) at_2.cells) (test_last e0 e1 at_1.lines last at_1.is) (subst (λ k. First (last_pos e1) k at_2.cells) (test_length e0 e1 at_1.lines last at_1.is) at_2.so);
                  second_is = subst (λ p. Second p (length e3) at_5.cells) last_4 (subst (λ k. Second (last_pos e4) k at_5.cells) length_4 at_5.so);
                });
              }
