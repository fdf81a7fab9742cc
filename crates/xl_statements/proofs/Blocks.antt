-- The lines of a block or select, once the jumps to its end have landed, are those of its cells.
use Rattle.std.proofs.Common.{◌≡◌, ℕ, ◌+◌, ◌≤◌, Bool, true, false, List, [], ◌∷◌, ◌++◌, length, map, take, drop, Result, Ok, Err, OnOk, refl, sym, ap, ◌∙◌, subst, arith, append_assoc, length-append}
use Rattle.std.proofs.lemmas.List.{length-map}
use Rattle.std.proofs.Math.Seq.{take-append_seam, drop-append_seam}
use Rattle.xs_instr.specs.declared.instr.Instr.TheVariants.{Brfu}
use Rattle.xs_instr.specs.Extends.{Extends}
use Rattle.xs_instr.specs.Lines.{Line, line, open_line}
use Rattle.xl_statements.specs.declared.leaving.JumpTarget.{JumpTarget}
use Rattle.xl_statements.specs.declared.leaving.Leaving.{Leaving}
use Rattle.xl_statements.specs.Cells.{Cell, known, leaving, closed, closed_by, leaves, line_of, same_target}
use Rattle.xl_statements.specs.Emits.{Closes, Coded, Emitted}
use Rattle.xl_statements.specs.Landing.{Closable, OpenWhere, closed_line, closed_lines, kept_leaving, others_leaving}
use Rattle.xl_statements.proofs.Parts.{emitted_length, lines_length}
use Rattle.xl_statements.proofs.Seams.{extends_by, next_length, seam_landed, seam_open}

module _ (ended : JumpTarget) (end : ℕ) where
  -- the jumps that are left
  others_cells : (cells : List Cell) (k : ℕ) → others_leaving ended (leaves cells k) ≡ leaves (map (closed ended end) cells) k
  others_cells [] k = refl
  others_cells (known l ∷ cells) k = others_cells cells (k + 1)
  others_cells (leaving m pos ∷ cells) k = by (same_target m ended) (others_cells cells (k + 1))
    where
      by : (b : Bool) → others_leaving ended (leaves cells (k + 1)) ≡ leaves (map (closed ended end) cells) (k + 1) → kept_leaving b (record { target = m; hole = record { index = k } }) (others_leaving ended (leaves cells (k + 1))) ≡ leaves (closed_by b m end pos ∷ map (closed ended end) cells) k
      by true h = h
      by false h = ap (λ l. record { target = m; hole = record { index = k } } ∷ l) h

  -- one line further in front
  further : (cells : List Cell) (front after : List Line) (l : Line) → closed_lines ((front ++ l ∷ []) ++ map line_of cells) ended end (leaves cells (length (front ++ l ∷ []))) ≡ (front ++ l ∷ []) ++ after → closed_lines (front ++ l ∷ map line_of cells) ended end (leaves cells (length front + 1)) ≡ front ++ l ∷ after
  further cells front after l h =
      ap (λ ls. closed_lines ls ended end (leaves cells (length front + 1))) (sym (append_assoc front (l ∷ []) (map line_of cells)))
      ∙ ap (λ k. closed_lines ((front ++ l ∷ []) ++ map line_of cells) ended end (leaves cells k)) (sym (next_length front l))
      ∙ h
      ∙ append_assoc front (l ∷ []) after

  moved : (cells : List Cell) (front : List Line) (l : Line) → Closable ((front ++ l ∷ []) ++ map line_of cells) ended end (leaves cells (length (front ++ l ∷ []))) → Closable (front ++ l ∷ map line_of cells) ended end (leaves cells (length front + 1))
  moved cells front l h =
      subst (λ k. Closable (front ++ l ∷ map line_of cells) ended end (leaves cells k)) (next_length front l)
      (subst (λ ls. Closable ls ended end (leaves cells (length (front ++ l ∷ [])))) (append_assoc front (l ∷ []) (map line_of cells)) h)

  -- they land
  close_cells : (cells : List Cell) (front : List Line) → closed_lines (front ++ map line_of cells) ended end (leaves cells (length front)) ≡ front ++ map line_of (map (closed ended end) cells)
  close_cells [] front = refl
  close_cells (known l ∷ cells) front = further cells front (map line_of (map (closed ended end) cells)) l (close_cells cells (front ++ l ∷ []))
  close_cells (leaving m pos ∷ cells) front = by (same_target m ended) (close_cells cells (front ++ line (Brfu end) pos ∷ [])) (close_cells cells (front ++ open_line (Brfu 0) pos ∷ []))
    where
      after : List Line
      after = map line_of (map (closed ended end) cells)

      by : (b : Bool) → closed_lines ((front ++ line (Brfu end) pos ∷ []) ++ map line_of cells) ended end (leaves cells (length (front ++ line (Brfu end) pos ∷ []))) ≡ (front ++ line (Brfu end) pos ∷ []) ++ map line_of (map (closed ended end) cells) → closed_lines ((front ++ open_line (Brfu 0) pos ∷ []) ++ map line_of cells) ended end (leaves cells (length (front ++ open_line (Brfu 0) pos ∷ []))) ≡ (front ++ open_line (Brfu 0) pos ∷ []) ++ map line_of (map (closed ended end) cells) → closed_lines (closed_line (front ++ open_line (Brfu 0) pos ∷ map line_of cells) (length front) end b) ended end (leaves cells (length front + 1)) ≡ front ++ map line_of (closed_by b m end pos ∷ map (closed ended end) cells)
      by true h k = ap (λ ls. closed_lines ls ended end (leaves cells (length front + 1))) (seam_landed front (map line_of cells) (Brfu 0) pos end) ∙ further cells front (map line_of (map (closed ended end) cells)) (line (Brfu end) pos) h
      by false h k = further cells front (map line_of (map (closed ended end) cells)) (open_line (Brfu 0) pos) k

  closable_cells : (cells : List Cell) (front : List Line) → Closable (front ++ map line_of cells) ended end (leaves cells (length front))
  closable_cells [] front = tt
  closable_cells (known l ∷ cells) front = moved cells front l (closable_cells cells (front ++ l ∷ []))
  closable_cells (leaving m pos ∷ cells) front = by (same_target m ended) (closable_cells cells (front ++ line (Brfu end) pos ∷ [])) (closable_cells cells (front ++ open_line (Brfu 0) pos ∷ []))
    where
      by : (b : Bool) → Closable ((front ++ line (Brfu end) pos ∷ []) ++ map line_of cells) ended end (leaves cells (length (front ++ line (Brfu end) pos ∷ []))) → Closable ((front ++ open_line (Brfu 0) pos ∷ []) ++ map line_of cells) ended end (leaves cells (length (front ++ open_line (Brfu 0) pos ∷ []))) → OpenWhere b (front ++ open_line (Brfu 0) pos ∷ map line_of cells) (length front) × Closable (closed_line (front ++ open_line (Brfu 0) pos ∷ map line_of cells) (length front) end b) ended end (leaves cells (length front + 1))
      by true h k = (seam_open front (map line_of cells) (Brfu 0) pos, subst (λ ls. Closable ls ended end (leaves cells (length front + 1))) (sym (seam_landed front (map line_of cells) (Brfu 0) pos end)) (moved cells front (line (Brfu end) pos) h))
      by false h k = (tt, moved cells front (open_line (Brfu 0) pos) k)

-- a block or select, from what stands in it to its end; `outside` jumps were open in front of it
module _ (Inside : Coded) (ended : JumpTarget) (e0 e1 : List Line) (before all : List Leaving) (at_1 : Emitted Inside e0 e1 before all) (outside : ℕ) (outside_is : outside ≡ length before) where
  abbrev inner : List Leaving
  inner = drop outside all

  inner_leaves : drop outside all ≡ leaves at_1.cells (length e0)
  inner_leaves = ap (λ k. drop k all) outside_is ∙ ap (drop (length before)) at_1.leaving_ones ∙ drop-append_seam before (leaves at_1.cells (length e0))

  outside_ones : take outside all ≡ before
  outside_ones = ap (λ k. take k all) outside_is ∙ ap (take (length before)) at_1.leaving_ones ∙ take-append_seam before (leaves at_1.cells (length e0))

  pub outside_within : outside ≤ length all
  outside_within = omega (arith, outside_is, ap length at_1.leaving_ones, length-append before (leaves at_1.cells (length e0)))

  pub inner_closable : Closable e1 ended (length e1) (drop outside all)
  inner_closable =
      subst (λ ls. Closable ls ended (length e1) inner) (sym at_1.lines)
      (subst (λ l. Closable (e0 ++ map line_of at_1.cells) ended (length e1) l) (sym inner_leaves) (closable_cells ended (length e1) at_1.cells e0))

  module _ (e2 : List Line) (at_2 : e2 ≡ closed_lines e1 ended (length e1) (drop outside all)) where
    closed_is : e2 ≡ e0 ++ map line_of (map (closed ended (length e0 + length at_1.cells)) at_1.cells)
    closed_is =
        at_2
        ∙ ap (λ l. closed_lines e1 ended (length e1) l) inner_leaves
        ∙ ap (λ ls. closed_lines ls ended (length e1) (leaves at_1.cells (length e0))) at_1.lines
        ∙ close_cells ended (length e1) at_1.cells e0
        ∙ ap (λ end. e0 ++ map line_of (map (closed ended end) at_1.cells)) (emitted_length Inside e0 e1 before all at_1)

    pub closed_extends : Extends e0 e2
    closed_extends = extends_by e0 e2 _ closed_is

    pub closed_size : length e2 ≡ length e1
    closed_size =
        let l = emitted_length Inside e0 e1 before all at_1 in
        let m = length-map at_1.cells (closed ended (length e0 + length at_1.cells)) in
        omega (arith, ap length closed_is, lines_length e0 (map (closed ended (length e0 + length at_1.cells)) at_1.cells))

    pub closed_emitted : (after : List Leaving) → after ≡ take outside all ++ others_leaving ended (drop outside all) → Emitted (Closes ended Inside) e0 e2 before after
    closed_emitted after after_is =
        record {
          cells = map (closed ended (length e0 + length at_1.cells)) at_1.cells;
          lines = closed_is;
          leaving_ones =
              after_is
              ∙ ap (λ l. l ++ others_leaving ended inner) outside_ones
              ∙ ap (λ l. before ++ others_leaving ended l) inner_leaves
              ∙ ap (λ l. before ++ l) (others_cells ended (length e0 + length at_1.cells) at_1.cells (length e0));
          so = record { inside = at_1.cells; is = refl; inside_is = at_1.so };
        }

    pub block_ends : {A B : Type 0} (r : Result A B) (after : List Leaving) → OnOk r (after ≡ take outside all ++ others_leaving ended (drop outside all)) → OnOk r (Emitted (Closes ended Inside) e0 e2 before after)
    block_ends (Ok x) after h = closed_emitted after h
    block_ends (Err x) after h = tt
