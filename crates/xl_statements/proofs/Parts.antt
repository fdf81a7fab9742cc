-- Cells that were emitted: their lines, and the jumps among them.
use Rattle.std.proofs.Common.{◌≡◌, ℕ, ◌+◌, List, [], ◌∷◌, ◌++◌, length, map, refl, sym, ap, ◌∙◌, subst, arith, append_assoc, append-nil, length-append}
use Rattle.std.proofs.lemmas.List.{length-map, append_cancel_left}
use Rattle.xw_words.specs.declared.pos.Pos.{Pos}
use Rattle.xs_instr.specs.Adds.{Adds}
use Rattle.xs_instr.specs.Lines.{Line, last_pos}
use Rattle.xl_expr.specs.Targets.{AreAimed}
use Rattle.xl_expr.proofs.Emitted.{last_added}
use Rattle.xl_statements.specs.declared.leaving.Leaving.{Leaving}
use Rattle.xl_statements.specs.Cells.{Cell, known, leaving, behind, leaves, line_of}
use Rattle.xl_statements.specs.Emits.{AreLines, Coded, Emitted, Follow}

pub lines_append : (a b : List Cell) → map line_of (a ++ b) ≡ map line_of a ++ map line_of b
lines_append [] b = refl
lines_append (c ∷ a) b = ap (λ l. line_of c ∷ l) (lines_append a b)

pub lines_known : (ls : List Line) → map line_of (map known ls) ≡ ls
lines_known [] = refl
lines_known (l ∷ ls) = ap (λ x. l ∷ x) (lines_known ls)

pub lines_length : (front : List Line) (cells : List Cell) → length (front ++ map line_of cells) ≡ length front + length cells
lines_length front cells = omega (arith, length-append front (map line_of cells), length-map cells line_of)

-- the jumps of two parts
pub leaves_append : (a b : List Cell) (k : ℕ) → leaves (a ++ b) k ≡ leaves a k ++ leaves b (k + length a)
leaves_append [] b k = let z : k ≡ k + 0 = omega arith in ap (leaves b) z
leaves_append (known l ∷ a) b k = let z : k + 1 + length a ≡ k + length (known l ∷ a) = omega arith in leaves_append a b (k + 1) ∙ ap (λ m. leaves a (k + 1) ++ leaves b m) z
leaves_append (leaving target pos ∷ a) b k = let z : k + 1 + length a ≡ k + length (leaving target pos ∷ a) = omega arith in ap (λ l. record { target = target; hole = record { index = k } } ∷ l) (leaves_append a b (k + 1) ∙ ap (λ m. leaves a (k + 1) ++ leaves b m) z)

-- lines that are known have none
pub leaves_behind : (ls : List Line) (b : List Cell) (k : ℕ) → leaves (map known ls ++ b) k ≡ leaves b (k + length ls)
leaves_behind [] b k = let z : k ≡ k + 0 = omega arith in ap (leaves b) z
leaves_behind (l ∷ ls) b k = let z : k + 1 + length ls ≡ k + length (l ∷ ls) = omega arith in leaves_behind ls b (k + 1) ∙ ap (leaves b) z

pub leaves_known : (ls : List Line) (k : ℕ) → leaves (map known ls) k ≡ []
leaves_known [] k = refl
leaves_known (l ∷ ls) k = leaves_known ls (k + 1)

-- what is added by a piece of code
pub piece_emitted : (P : ℕ → List Line → Type 0) (old new : List Line) (left : List Leaving) → Adds old new (P (length old)) → Adds old new (AreAimed (length old)) → Emitted (AreLines P) old new left left
piece_emitted P old new left h g =
    let same : g.lines ≡ h.lines = append_cancel_left old g.lines h.lines (sym g.is ∙ h.is) in
    record {
      cells = map known h.lines;
      lines = h.is ∙ ap (λ ls. old ++ ls) (sym (lines_known h.lines));
      leaving_ones = sym (append-nil left) ∙ ap (λ l. left ++ l) (sym (leaves_known h.lines (length old)));
      so = record { lines = h.lines; is = refl; so = h.so; aimed = subst (AreAimed (length old)) same g.so };
    }

-- another word for the code
pub emitted_as : (P Q : Coded) (old new : List Line) (before after : List Leaving) → ((last : Pos) (pc : ℕ) (cells : List Cell) → P last pc cells → Q last pc cells) → Emitted P old new before after → Emitted Q old new before after
emitted_as P Q old new before after f h = record { cells = h.cells; lines = h.lines; leaving_ones = h.leaving_ones; so = f (last_pos old) (length old) h.cells h.so }

module _ (Code : Coded) (old new : List Line) (before after : List Leaving) (h : Emitted Code old new before after) where
  pub emitted_length : length new ≡ length old + length h.cells
  emitted_length = ap length h.lines ∙ lines_length old h.cells

  pub emitted_last : last_pos new ≡ behind (last_pos old) h.cells
  emitted_last = last_added old new (map line_of h.cells) h.lines

-- one code behind another
pub both_emitted : (First Rest : Coded) (e0 e1 e2 : List Line) (left0 left1 left2 : List Leaving) → Emitted First e0 e1 left0 left1 → Emitted Rest e1 e2 left1 left2 → Emitted (Follow First Rest) e0 e2 left0 left2
both_emitted First Rest e0 e1 e2 left0 left1 left2 h g =
    let size : length e1 ≡ length e0 + length h.cells = emitted_length First e0 e1 left0 left1 h in
    record {
      cells = h.cells ++ g.cells;
      lines = g.lines ∙ ap (λ ls. ls ++ map line_of g.cells) h.lines ∙ append_assoc e0 (map line_of h.cells) (map line_of g.cells) ∙ ap (λ ls. e0 ++ ls) (sym (lines_append h.cells g.cells));
      leaving_ones =
          g.leaving_ones
          ∙ ap (λ l. l ++ leaves g.cells (length e1)) h.leaving_ones
          ∙ append_assoc left0 (leaves h.cells (length e0)) (leaves g.cells (length e1))
          ∙ ap (λ k. left0 ++ (leaves h.cells (length e0) ++ leaves g.cells k)) size
          ∙ ap (λ l. left0 ++ l) (sym (leaves_append h.cells g.cells (length e0)));
      so = record {
        first = h.cells;
        rest = g.cells;
        is = refl;
        first_is = h.so;
        rest_is = subst (λ p. Rest p (length e0 + length h.cells) g.cells) (emitted_last First e0 e1 left0 left1 h) (subst (λ n. Rest (last_pos e1) n g.cells) size g.so);
      };
    }
