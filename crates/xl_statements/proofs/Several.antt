-- A `par` of several branches: what opens it, the first branch, what closes it, the jump past the others, and these.
use Rattle.std.proofs.Common.{◌≡◌, ℕ, zero, suc, ◌+◌, ◌*◌, ◌≤◌, List, [], ◌∷◌, ◌++◌, length, map, refl, sym, ap, ◌∙◌, subst, arith, append_assoc, length-append}
use Rattle.std.proofs.lemmas.List.{append_cancel_left, length-map}
use Rattle.xw_words.specs.declared.pos.Pos.{Pos}
use Rattle.xc_kernel.specs.Plain as kernel
use Rattle.xc_meaning.specs.Counts.KernelCounts.{branch_count}
use Rattle.xs_instr.specs.declared.instr.Instr.TheVariants.{Brfu}
use Rattle.xs_instr.specs.Adds.{Adds}
use Rattle.xs_instr.specs.Extends.{Extends}
use Rattle.xs_instr.specs.Lines.{Line, IsOpen, at_pos, landed, last_pos, line, open_line}
use Rattle.xl_expr.specs.declared.plan.Plan.{Plan}
use Rattle.xl_expr.specs.Targets.{AreAimed}
use Rattle.xl_expr.proofs.Emitted.{last_added}
use Rattle.xl_par.specs.Closing.{Closes, closing_instrs}
use Rattle.xl_par.specs.Opening.{AreAimedWith, Opens, filled, opening_lines, starts_from}
use Rattle.xl_par.proofs.Listed.{opening_length}
use Rattle.xl_select.specs.Holes.{holes_in}
use Rattle.xl_statements.specs.declared.leaving.Leaving.{Leaving}
use Rattle.xl_ends.specs.Ends.{Sides}
use Rattle.xl_statements.specs.Branches.{SlavesEmitIn}
use Rattle.xl_statements.specs.Cells.{Cell, known, behind, leaves, line_of}
use Rattle.xl_statements.specs.Emits.{Coded, Emitted, SeveralBranches, StartsEmitted}
use Rattle.xl_statements.specs.Landing.{AreLandable, Lands, all_landed}
use Rattle.xl_statements.proofs.Parts.{emitted_last, emitted_length, leaves_append, leaves_behind, lines_append, lines_known, lines_length}
use Rattle.xl_statements.proofs.Seams.{extends_by, lands_at, open_at}
use Rattle.xl_statements.proofs.Slaves.{starts_count}
use Rattle.xl_statements.proofs.Starts.{all_size, fills, filled_length, landables, opening_holes, opening_last}

-- what a call added is what its code is
pub added : (old new lines : List Line) (P : List Line → Type 0) → new ≡ old ++ lines → Adds old new P → P lines
added old new lines P is h = subst P (append_cancel_left old h.lines lines (sym h.is ∙ is)) h.so

-- what opens it, at the place in front
pub opened : (stacks n m : ℕ) (pos : Pos) (e0 e1 : List Line) → pos ≡ last_pos e0 → m ≡ n → e1 ≡ e0 ++ opening_lines stacks pos m → e1 ≡ e0 ++ opening_lines stacks (last_pos e0) n
opened stacks n m pos e0 e1 pos_is m_is h = h ∙ ap (λ p. e0 ++ opening_lines stacks p m) pos_is ∙ ap (λ k. e0 ++ opening_lines stacks (last_pos e0) k) m_is

pub opens_so : (stacks n m : ℕ) (pos : Pos) (e0 e1 : List Line) → pos ≡ last_pos e0 → m ≡ n → e1 ≡ e0 ++ opening_lines stacks (last_pos e0) n → Adds e0 e1 (Opens stacks m pos (length e0)) → Opens stacks n (last_pos e0) (length e0) (opening_lines stacks (last_pos e0) n)
opens_so stacks n m pos e0 e1 pos_is m_is is h =
    subst (λ k. Opens stacks k (last_pos e0) (length e0) (opening_lines stacks (last_pos e0) n)) m_is
    (subst (λ p. Opens stacks m p (length e0) (opening_lines stacks (last_pos e0) n)) pos_is (added e0 e1 (opening_lines stacks (last_pos e0) n) (Opens stacks m pos (length e0)) is h))

pub aimed_so : (stacks n m : ℕ) (e0 e1 : List Line) → m ≡ n → e1 ≡ e0 ++ opening_lines stacks (last_pos e0) n → Adds e0 e1 (AreAimedWith m (length e0)) → AreAimedWith n (length e0) (opening_lines stacks (last_pos e0) n)
aimed_so stacks n m e0 e1 m_is is h =
    subst (λ k. AreAimedWith k (length e0) (opening_lines stacks (last_pos e0) n)) m_is (added e0 e1 (opening_lines stacks (last_pos e0) n) (AreAimedWith m (length e0)) is h)

pub starts_are : (pc n m : ℕ) (holes : List ℕ) → m ≡ n → holes ≡ starts_from pc m → holes ≡ starts_from pc n
starts_are pc n m holes m_is h = h ∙ ap (starts_from pc) m_is

-- there is a hole for each start
pub starts_length : (pc n : ℕ) → length (starts_from pc n) ≡ n
starts_length pc zero = refl
starts_length pc (suc n) = ap suc (starts_length (pc + 7) n)

-- up to the jump past the others
module _
    (plan : Plan) (n : ℕ) (First : Coded) (e0 e1 e2 e3 : List Line) (left0 left1 : List Leaving)
    (at_1 : e1 ≡ e0 ++ opening_lines plan.first_stack (last_pos e0) n)
    (at_2 : Emitted First e1 e2 left0 left1)
    (at_3 : e3 ≡ e2 ++ (at_pos (last_pos e2) closing_instrs ++ open_line (Brfu 0) (last_pos e2) ∷ []))
  where
    abbrev opening : List Line
    opening = opening_lines plan.first_stack (last_pos e0) n

    abbrev firsts : List Line
    firsts = map line_of at_2.cells

    abbrev closing : List Line
    closing = at_pos (last_pos e2) closing_instrs

    abbrev jump : List Line
    jump = open_line (Brfu 0) (last_pos e2) ∷ []

    last_1 : last_pos e1 ≡ last_pos e0
    last_1 = last_added e0 e1 opening at_1 ∙ opening_last plan.first_stack (last_pos e0) n (last_pos e0)

    length_1 : length e1 ≡ length e0 + length (opening_lines plan.first_stack (last_pos e0) n)
    length_1 = ap length at_1 ∙ length-append e0 opening

    last_2 : last_pos e2 ≡ behind (last_pos e0) at_2.cells
    last_2 = emitted_last First e1 e2 left0 left1 at_2 ∙ ap (λ p. behind p at_2.cells) last_1

    length_2 : length e2 ≡ length e0 + length (opening_lines plan.first_stack (last_pos e0) n) + length at_2.cells
    length_2 = emitted_length First e1 e2 left0 left1 at_2 ∙ ap (λ k. k + length at_2.cells) length_1

    pub several_length : length e3 ≡ length e2 + 10
    several_length = ap length at_3 ∙ length-append e2 (closing ++ jump)

    pub several_size : length e3 ≡ length e0 + 7 * n + 20 + length at_2.cells
    several_size = let a = several_length in let b = length_2 in let c = opening_length plan.first_stack (last_pos e0) n in omega (arith, a, b, c)

    e3_is : e3 ≡ e0 ++ (opening_lines plan.first_stack (last_pos e0) n ++ (map line_of at_2.cells ++ (at_pos (last_pos e2) closing_instrs ++ open_line (Brfu 0) (last_pos e2) ∷ [])))
    e3_is =
        at_3
        ∙ ap (λ ls. ls ++ (closing ++ jump)) at_2.lines
        ∙ append_assoc e1 firsts (closing ++ jump)
        ∙ ap (λ ls. ls ++ (firsts ++ (closing ++ jump))) at_1
        ∙ append_assoc e0 opening (firsts ++ (closing ++ jump))

    last_3 : last_pos e3 ≡ last_pos e2
    last_3 = last_added e2 e3 (closing ++ jump) at_3

    module _ (holes : List ℕ) (holes_are : holes ≡ starts_from (length e0 + 9) n) where
      pub holes_landable : AreLandable e3 holes
      holes_landable =
          subst (AreLandable e3) (opening_holes plan.first_stack (last_pos e0) n (length e0) ∙ sym holes_are)
          (subst (λ ls. AreLandable ls (holes_in (opening_lines plan.first_stack (last_pos e0) n) (length e0))) (sym e3_is) (landables opening (firsts ++ (closing ++ jump)) e0))

      landed_are : (starts : List ℕ) → all_landed e3 holes starts ≡ e0 ++ (filled (opening_lines plan.first_stack (last_pos e0) n) starts ++ (map line_of at_2.cells ++ (at_pos (last_pos e2) closing_instrs ++ open_line (Brfu 0) (last_pos e2) ∷ [])))
      landed_are starts =
          ap (λ hs. all_landed e3 hs starts) (holes_are ∙ sym (opening_holes plan.first_stack (last_pos e0) n (length e0)))
          ∙ ap (λ ls. all_landed ls (holes_in (opening_lines plan.first_stack (last_pos e0) n) (length e0)) starts) e3_is
          ∙ fills opening (firsts ++ (closing ++ jump)) e0 starts

      pub several_refused : (e4 : List Line) → Lands holes e3 e4 → Extends e0 e4
      several_refused e4 h = extends_by e0 e4 _ (h.is ∙ ap (λ ls. ls ++ h.more) (landed_are h.targets) ∙ append_assoc e0 _ h.more)

      module _
          (each : List Sides) (bs : kernel.Branches) (as_many : branch_count bs ≡ n) (few : n ≤ 7)
          (opens : Opens plan.first_stack n (last_pos e0) (length e0) (opening_lines plan.first_stack (last_pos e0) n))
          (opens_aimed : AreAimedWith n (length e0) (opening_lines plan.first_stack (last_pos e0) n))
          (closes : Closes (last_pos e2) (length e2) (at_pos (last_pos e2) closing_instrs))
          (closes_aimed : AreAimed (length e2) (at_pos (last_pos e2) closing_instrs))
          (past : ℕ) (past_is : past ≡ length e2 + 9)
          (e4 : List Line) (left2 : List Leaving) (at_4 : StartsEmitted (SlavesEmitIn plan each bs) holes e3 e4 left1 left2)
        where
          abbrev front : List Line
          front = e0 ++ (filled (opening_lines plan.first_stack (last_pos e0) n) at_4.starts ++ (map line_of at_2.cells ++ at_pos (last_pos e2) closing_instrs))

          front_length : length (e0 ++ (filled (opening_lines plan.first_stack (last_pos e0) n) at_4.starts ++ (map line_of at_2.cells ++ at_pos (last_pos e2) closing_instrs))) ≡ length e2 + 9
          front_length =
              let l = length_2 in
              let f = filled_length opening at_4.starts in
              let m = length-map at_2.cells line_of in
              omega (arith, l, f, m, length-append e0 (filled opening at_4.starts ++ (firsts ++ closing)), length-append (filled opening at_4.starts) (firsts ++ closing), length-append firsts closing)

          e4_is : e4 ≡ (e0 ++ (filled (opening_lines plan.first_stack (last_pos e0) n) at_4.starts ++ (map line_of at_2.cells ++ at_pos (last_pos e2) closing_instrs))) ++ open_line (Brfu 0) (last_pos e2) ∷ map line_of at_4.cells
          e4_is =
              at_4.lines
              ∙ ap (λ ls. ls ++ map line_of at_4.cells) (
              landed_are at_4.starts
              ∙ ap (λ ls. e0 ++ (filled opening at_4.starts ++ ls)) (sym (append_assoc firsts closing jump))
              ∙ ap (λ ls. e0 ++ ls) (sym (append_assoc (filled opening at_4.starts) (firsts ++ closing) jump))
              ∙ sym (append_assoc e0 (filled opening at_4.starts ++ (firsts ++ closing)) jump)
              )
              ∙ append_assoc front jump (map line_of at_4.cells)

          pub jump_open : IsOpen e4 past
          jump_open = subst (λ ls. IsOpen ls past) (sym e4_is) (open_at front (map line_of at_4.cells) (Brfu 0) (last_pos e2) past (past_is ∙ sym front_length))

          length_4 : length e4 ≡ length e3 + length at_4.cells
          length_4 = ap length at_4.lines ∙ lines_length (all_landed e3 holes at_4.starts) at_4.cells ∙ ap (λ k. k + length at_4.cells) (all_size e3 holes at_4.starts)

          abbrev tail : List Cell
          tail = known (line (Brfu (length e4)) (behind (last_pos e0) at_2.cells)) ∷ at_4.cells

          abbrev cells : List Cell
          cells = map known (filled (opening_lines plan.first_stack (last_pos e0) n) at_4.starts) ++ (at_2.cells ++ (map known (at_pos (last_pos e2) closing_instrs) ++ (known (line (Brfu (length e4)) (behind (last_pos e0) at_2.cells)) ∷ at_4.cells)))

          cells_lines : map line_of cells ≡ filled (opening_lines plan.first_stack (last_pos e0) n) at_4.starts ++ (map line_of at_2.cells ++ (at_pos (last_pos e2) closing_instrs ++ (line (Brfu (length e4)) (behind (last_pos e0) at_2.cells) ∷ map line_of at_4.cells)))
          cells_lines =
              lines_append (map known (filled opening at_4.starts)) (at_2.cells ++ (map known closing ++ tail))
              ∙ ap (λ ls. ls ++ map line_of (at_2.cells ++ (map known closing ++ tail))) (lines_known (filled opening at_4.starts))
              ∙ ap (λ ls. filled opening at_4.starts ++ ls) (lines_append at_2.cells (map known closing ++ tail))
              ∙ ap (λ ls. filled opening at_4.starts ++ (firsts ++ ls)) (lines_append (map known closing) tail ∙ ap (λ ls. ls ++ map line_of tail) (lines_known closing))

          module _ (e5 : List Line) (at_5 : e5 ≡ landed e4 past (length e4)) where
            e5_is : e5 ≡ e0 ++ map line_of cells
            e5_is =
                at_5
                ∙ ap (λ ls. landed ls past (length e4)) e4_is
                ∙ lands_at front (map line_of at_4.cells) (Brfu 0) (last_pos e2) past (length e4) (past_is ∙ sym front_length)
                ∙ ap (λ p. front ++ line (Brfu (length e4)) p ∷ map line_of at_4.cells) last_2
                ∙ append_assoc e0 (filled opening at_4.starts ++ (firsts ++ closing)) (map line_of tail)
                ∙ ap (λ ls. e0 ++ ls) (append_assoc (filled opening at_4.starts) (firsts ++ closing) (map line_of tail))
                ∙ ap (λ ls. e0 ++ (filled opening at_4.starts ++ ls)) (append_assoc firsts closing (map line_of tail))
                ∙ ap (λ ls. e0 ++ ls) (sym cells_lines)

            pub several_end : length e5 ≡ length e4
            several_end =
                let l = front_length in
                omega (arith, l, ap length (at_5 ∙ ap (λ ls. landed ls past (length e4)) e4_is ∙ lands_at front (map line_of at_4.cells) (Brfu 0) (last_pos e2) past (length e4) (past_is ∙ sym front_length)), ap length e4_is, length-append front (line (Brfu (length e4)) (last_pos e2) ∷ map line_of at_4.cells), length-append front (open_line (Brfu 0) (last_pos e2) ∷ map line_of at_4.cells))

            cells_leaves : left2 ≡ left0 ++ leaves cells (length e0)
            cells_leaves =
                let f : length e0 + length (filled opening at_4.starts) ≡ length e1 = ap (λ k. length e0 + k) (filled_length opening at_4.starts) ∙ sym length_1 in
                let s : length e1 + length at_2.cells + 9 + 1 ≡ length e3 = let a = several_length in let b = length_2 in let c = length_1 in omega (arith, a, b, c) in
                at_4.leaving_ones
                ∙ ap (λ l. l ++ leaves at_4.cells (length e3)) at_2.leaving_ones
                ∙ append_assoc left0 (leaves at_2.cells (length e1)) (leaves at_4.cells (length e3))
                ∙ ap (λ k. left0 ++ (leaves at_2.cells (length e1) ++ leaves at_4.cells k)) (sym s)
                ∙ ap (λ l. left0 ++ (leaves at_2.cells (length e1) ++ l)) (sym (leaves_behind closing tail (length e1 + length at_2.cells)))
                ∙ ap (λ l. left0 ++ l) (sym (leaves_append at_2.cells (map known closing ++ tail) (length e1)))
                ∙ ap (λ k. left0 ++ leaves (at_2.cells ++ (map known closing ++ tail)) k) (sym f)
                ∙ ap (λ l. left0 ++ l) (sym (leaves_behind (filled opening at_4.starts) (at_2.cells ++ (map known closing ++ tail)) (length e0)))

            pub several_emitted : Emitted (SeveralBranches plan (branch_count bs) First (SlavesEmitIn plan each bs)) e0 e5 left0 left2
            several_emitted =
                let three : length e3 ≡ length e0 + length opening + length at_2.cells + 9 + 1 = let a = several_length in let b = length_2 in omega (arith, a, b) in
                record {
                  cells = cells;
                  lines = e5_is;
                  leaving_ones = cells_leaves;
                  so = subst (λ m. SeveralBranches plan m First (SlavesEmitIn plan each bs) (last_pos e0) (length e0) cells) (sym as_many) (record {
                    opening = opening;
                    starts = at_4.starts;
                    first = at_2.cells;
                    closing = closing;
                    others = at_4.cells;
                    end = length e4;
                    as_many = starts_count plan each bs at_4.starts (last_pos e3) (length e3) at_4.cells at_4.so ∙ as_many;
                    few = few;
                    end_is = let a = length_4 in omega (arith, a, three);
                    is = refl;
                    opens = opens;
                    opens_aimed = opens_aimed;
                    first_is = subst (λ p. First p (length e0 + length opening) at_2.cells) last_1 (subst (λ k. First (last_pos e1) k at_2.cells) length_1 at_2.so);
                    closes = subst (λ p. Closes p (length e0 + length opening + length at_2.cells) closing) last_2 (subst (λ k. Closes (last_pos e2) k closing) length_2 closes);
                    closes_aimed = subst (λ k. AreAimed k closing) length_2 closes_aimed;
                    others_are = subst (λ p. SlavesEmitIn plan each bs at_4.starts p (length e0 + length opening + length at_2.cells + 9 + 1) at_4.cells) (last_3 ∙ last_2) (subst (λ k. SlavesEmitIn plan each bs at_4.starts (last_pos e3) k at_4.cells) three at_4.so);
                  });
                }
