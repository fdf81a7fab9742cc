-- The code of a root, from that of its statements.
use Rattle.std.proofs.Common.{◌≡◌, ℕ, ◌+◌, List, [], ◌∷◌, ◌++◌, length, map, refl, sym, ap, ◌∙◌, subst, arith, append_assoc, length-append}
use Rattle.std.proofs.lemmas.List.{append_cancel_left, length-map}
use Rattle.xw_words.specs.declared.pos.Pos.{Pos}
use Rattle.xs_instr.specs.declared.instr.Instr.TheVariants.{Freet}
use Rattle.xs_instr.specs.Adds.{Adds}
use Rattle.xs_instr.specs.Lines.{HasNoHole, Line, line, last_pos}
use Rattle.xc_kernel.specs.Plain as kernel
use Rattle.xl_expr.specs.declared.plan.Plan.{Plan}
use Rattle.xl_expr.specs.Targets.{AreGoodLines}
use Rattle.xl_par.specs.Roots.{EndsRoot}
use Rattle.xl_ends.specs.Ends.{Sides}
use Rattle.xl_statements.specs.declared.leaving.Leaving.{Leaving}
use Rattle.xl_statements.specs.Cells.{line_of}
use Rattle.xl_statements.specs.Emits.{AllEmit, Emitted}
use Rattle.xl_statements.specs.Inside.{AreInside, StandAlone}
use Rattle.xl_statements.specs.Roots.{IsRoot}
use Rattle.xl_statements.proofs.Inside.{all_good, all_known, good_lines}
use Rattle.xl_statements.proofs.Parts.{emitted_length}

lines_good : (size i : ℕ) (a b : List Line) → AreGoodLines size i a → AreGoodLines size (i + length a) b → AreGoodLines size i (a ++ b)
lines_good size i [] b h g = let e : i + 0 ≡ i = omega arith in subst (λ n. AreGoodLines size n b) e g
lines_good size i (l ∷ a) b h g =
    let e : i + length (l ∷ a) ≡ i + 1 + length a = omega arith in
    (h.0, h.1, lines_good size (i + 1) a b h.2 (subst (λ n. AreGoodLines size n b) e g))

module _
    (plan : Plan) (sides : Sides) (body : kernel.Statements) (pos : Pos) (e0 e1 e2 : List Line) (left : List Leaving)
    (inside : AreInside [] body)
    (at_1 : Emitted (AllEmit plan sides body) e0 e1 [] left)
    (at_2 : e2 ≡ e1 ++ line Freet pos ∷ [])
    (ends : Adds e1 e2 (EndsRoot (length e1)))
  where
    root_lines : e2 ≡ e0 ++ (map line_of at_1.cells ++ line Freet pos ∷ [])
    root_lines = at_2 ∙ ap (λ ls. ls ++ line Freet pos ∷ []) at_1.lines ∙ append_assoc e0 (map line_of at_1.cells) (line Freet pos ∷ [])

    length_1 : length e1 ≡ length e0 + length at_1.cells
    length_1 = emitted_length (AllEmit plan sides body) e0 e1 [] left at_1

    pub root_emitted : Adds e0 e2 (IsRoot plan sides body pos (last_pos e0) (length e0))
    root_emitted =
        let good = all_good plan sides body [] [] (last_pos e0) (length e0 + length at_1.cells + 1) (length e0) at_1.cells (λ n k. k) inside at_1.so (omega arith) in
        let cells = all_known (length e0 + length at_1.cells + 1) (length e0) at_1.cells good in
        let last_line : ends.lines ≡ line Freet pos ∷ [] = append_cancel_left e1 ends.lines (line Freet pos ∷ []) (sym ends.is ∙ at_2) in
        let end : length e1 ≡ length e0 + length (map line_of at_1.cells) = length_1 ∙ ap (λ k. length e0 + k) (sym (length-map at_1.cells line_of)) in
        record {
          lines = map line_of at_1.cells ++ line Freet pos ∷ [];
          is = root_lines;
          so = record {
            front = map line_of at_1.cells;
            is = refl;
            body_is = subst (AllEmit plan sides body (last_pos e0) (length e0)) cells at_1.so;
            inside = inside;
            ends = subst (EndsRoot (length e0 + length (map line_of at_1.cells))) last_line (subst (λ k. EndsRoot k ends.lines) end ends.so);
          };
        }

    pub root_alone : Adds e0 e2 (StandAlone (length e0))
    root_alone = record {
      lines = map line_of at_1.cells ++ line Freet pos ∷ [];
      is = root_lines;
      so = record {
        by = λ size h.
            let n = length-append (map line_of at_1.cells) (line Freet pos ∷ []) in
            let m = length-map at_1.cells line_of in
            lines_good size (length e0) (map line_of at_1.cells) (line Freet pos ∷ []) (good_lines size (length e0) at_1.cells (all_good plan sides body [] [] (last_pos e0) size (length e0) at_1.cells (λ n k. k) inside at_1.so (omega arith))) (tt, refl, tt);
      };
    }

-- code that stands alone has no open target
good_closed : (size i : ℕ) (ls : List Line) → AreGoodLines size i ls → HasNoHole ls
good_closed size i [] h = tt
good_closed size i (l ∷ ls) h = (h.1, good_closed size (i + 1) ls h.2)

pub no_hole : (old new : List Line) → old ≡ [] → Adds old new (StandAlone (length old)) → HasNoHole new
no_hole old new none h =
    let size : length h.lines ≡ length old + length h.lines = omega (arith, ap length none) in
    subst HasNoHole (sym (h.is ∙ ap (λ ls. ls ++ h.lines) none)) (good_closed (length h.lines) (length old) h.lines (h.so.by (length h.lines) (omega arith)))
