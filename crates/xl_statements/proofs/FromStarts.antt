-- Codes one after the other, each from where its start lands.
use Rattle.std.proofs.Common.{◌≡◌, ℕ, ◌+◌, List, [], ◌∷◌, ◌++◌, length, map, refl, sym, ap, ◌∙◌, subst, append_assoc, append-nil}
use Rattle.xs_instr.specs.Extends.{Extends}
use Rattle.xs_instr.specs.Lines.{Line, IsOpen, landed, last_pos}
use Rattle.xl_statements.specs.declared.leaving.Leaving.{Leaving}
use Rattle.xl_statements.specs.Cells.{Cell, behind, leaves, line_of}
use Rattle.xl_statements.specs.Emits.{Coded, Emitted, FromStarts, StartsEmitted}
use Rattle.xl_statements.specs.Landing.{AreLandable, Lands, all_landed}
use Rattle.xl_statements.proofs.Parts.{emitted_last, emitted_length, leaves_append, lines_append, lines_length}
use Rattle.xl_statements.proofs.Starts.{all_front, all_none, landed_front, landed_last, landed_size, open_front}

-- What a loop over such codes keeps: the code so far is that of all, once what is left comes behind it.
pub record StartsWalked (All Rest : List ℕ → Coded) (holes open_ones : List ℕ) (e0 e : List Line) (before left : List Leaving) : Type 0 where
  pub front : List Line
  pub cells : List Cell
  pub starts : List ℕ
  pub is : e ≡ front ++ map line_of cells
  pub size : length front ≡ length e0
  pub landable : AreLandable front open_ones
  pub lands : (later : List ℕ) → all_landed front open_ones later ≡ all_landed e0 holes (starts ++ later)
  pub leaving_ones : left ≡ before ++ leaves cells (length e0)
  pub so : (later : List ℕ) (more : List Cell) → Rest later (last_pos e) (length e) more → All (starts ++ later) (last_pos e0) (length e0) (cells ++ more)

pub starts_begin : (All : List ℕ → Coded) (holes : List ℕ) (e0 : List Line) (before : List Leaving) → AreLandable e0 holes → StartsWalked All All holes holes e0 e0 before before
starts_begin All holes e0 before landable = record {
  front = e0;
  cells = [];
  starts = [];
  is = sym (append-nil e0);
  size = refl;
  landable = landable;
  lands = λ later. refl;
  leaving_ones = sym (append-nil before);
  so = λ later more h. h;
}

module _
    (All Rest : List ℕ → Coded) (holes open_ones : List ℕ) (e0 e1 : List Line) (before left1 : List Leaving)
    (h : StartsWalked All Rest holes open_ones e0 e1 before left1)
  where
    pub rest_landable : AreLandable e1 open_ones
    rest_landable = subst (λ ls. AreLandable ls open_ones) (sym h.is) (landable_front h.front open_ones (map line_of h.cells) h.landable)
      where
        landable_front : (ls : List Line) (hs : List ℕ) (tail : List Line) → AreLandable ls hs → AreLandable (ls ++ tail) hs
        landable_front ls [] tail k = tt
        landable_front ls (hole ∷ hs) tail k = (
          open_front ls tail hole k.0,
          λ n. subst (λ x. AreLandable x hs) (sym (landed_front ls tail hole n k.0)) (landable_front (landed ls hole n) hs tail (k.1 n)),
        )

    -- what lands from here on
    rest_lands : (later : List ℕ) → all_landed e1 open_ones later ≡ all_landed e0 holes (h.starts ++ later) ++ map line_of h.cells
    rest_lands later =
        ap (λ ls. all_landed ls open_ones later) h.is
        ∙ all_front h.front (map line_of h.cells) open_ones later h.landable
        ∙ ap (λ ls. ls ++ map line_of h.cells) (h.lands later)

    length_1 : length e1 ≡ length e0 + length h.cells
    length_1 = ap length h.is ∙ lines_length h.front h.cells ∙ ap (λ k. k + length h.cells) h.size

    -- what came of it where memory was wanting
    pub starts_refused : (e2 : List Line) → Lands open_ones e1 e2 → Lands holes e0 e2
    starts_refused e2 more = record {
      targets = h.starts ++ more.targets;
      more = map line_of h.cells ++ more.more;
      is =
          more.is
          ∙ ap (λ ls. ls ++ more.more) (rest_lands more.targets)
          ∙ append_assoc (all_landed e0 holes (h.starts ++ more.targets)) (map line_of h.cells) more.more;
    }

    -- what is left was emitted
    pub starts_end : (e2 : List Line) (left2 : List Leaving) → StartsEmitted Rest open_ones e1 e2 left1 left2 → StartsEmitted All holes e0 e2 before left2
    starts_end e2 left2 g = record {
      starts = h.starts ++ g.starts;
      cells = h.cells ++ g.cells;
      lines =
          g.lines
          ∙ ap (λ ls. ls ++ map line_of g.cells) (rest_lands g.starts)
          ∙ append_assoc (all_landed e0 holes (h.starts ++ g.starts)) (map line_of h.cells) (map line_of g.cells)
          ∙ ap (λ ls. all_landed e0 holes (h.starts ++ g.starts) ++ ls) (sym (lines_append h.cells g.cells));
      leaving_ones =
          g.leaving_ones
          ∙ ap (λ k. left1 ++ leaves g.cells k) length_1
          ∙ ap (λ l. l ++ leaves g.cells (length e0 + length h.cells)) h.leaving_ones
          ∙ append_assoc before (leaves h.cells (length e0)) (leaves g.cells (length e0 + length h.cells))
          ∙ ap (λ l. before ++ l) (sym (leaves_append h.cells g.cells (length e0)));
      so = h.so g.starts g.cells g.so;
    }

-- of no code nothing is left
pub none_left : (Rest : List ℕ → Coded) (e : List Line) (left : List Leaving) → Rest [] (last_pos e) (length e) [] → StartsEmitted Rest [] e e left left
none_left Rest e left h = record {
  starts = [];
  cells = [];
  lines = sym (append-nil e);
  leaving_ones = sym (append-nil left);
  so = h;
}

module _
    (All : List ℕ → Coded) (First : Coded) (Rest : List ℕ → Coded) (holes open_ones : List ℕ) (hole : ℕ) (e0 e1 : List Line) (before left1 : List Leaving)
    (h : StartsWalked All (FromStarts First Rest) holes (hole ∷ open_ones) e0 e1 before left1)
  where
    pub start_open : IsOpen e1 hole
    start_open = subst (λ ls. IsOpen ls hole) (sym h.is) (open_front h.front (map line_of h.cells) hole h.landable.0)

    -- and what came behind where memory was wanting
    pub start_refused : (e2 : List Line) → Extends (landed e1 hole (length e1)) e2 → Lands holes e0 e2
    start_refused e2 more = starts_refused All (FromStarts First Rest) holes (hole ∷ open_ones) e0 e1 before left1 h e2 (record {
      targets = length e1 ∷ [];
      more = more.more;
      is = more.is ∙ ap (λ ls. ls ++ more.more) (all_none (landed e1 hole (length e1)) open_ones);
    })

    module _ (e2 : List Line) (left2 : List Leaving) (g : Emitted First (landed e1 hole (length e1)) e2 left1 left2) where
      front_lands : landed e1 hole (length e1) ≡ landed h.front hole (length e1) ++ map line_of h.cells
      front_lands = ap (λ ls. landed ls hole (length e1)) h.is ∙ landed_front h.front (map line_of h.cells) hole (length e1) h.landable.0

      last_1 : last_pos (landed e1 hole (length e1)) ≡ last_pos e1
      last_1 = landed_last e1 hole (length e1)

      size_1 : length (landed e1 hole (length e1)) ≡ length e1
      size_1 = landed_size e1 hole (length e1)

      last_2 : last_pos e2 ≡ behind (last_pos e1) g.cells
      last_2 = emitted_last First (landed e1 hole (length e1)) e2 left1 left2 g ∙ ap (λ p. behind p g.cells) last_1

      length_2 : length e2 ≡ length e1 + length g.cells
      length_2 = emitted_length First (landed e1 hole (length e1)) e2 left1 left2 g ∙ ap (λ k. k + length g.cells) size_1

      pub starts_go_on : StartsWalked All Rest holes open_ones e0 e2 before left2
      starts_go_on = record {
        front = landed h.front hole (length e1);
        cells = h.cells ++ g.cells;
        starts = h.starts ++ length e1 ∷ [];
        is =
            g.lines
            ∙ ap (λ ls. ls ++ map line_of g.cells) front_lands
            ∙ append_assoc (landed h.front hole (length e1)) (map line_of h.cells) (map line_of g.cells)
            ∙ ap (λ ls. landed h.front hole (length e1) ++ ls) (sym (lines_append h.cells g.cells));
        size = landed_size h.front hole (length e1) ∙ h.size;
        landable = h.landable.1 (length e1);
        lands = λ later. h.lands (length e1 ∷ later) ∙ ap (λ ns. all_landed e0 holes ns) (sym (append_assoc h.starts (length e1 ∷ []) later));
        leaving_ones =
            g.leaving_ones
            ∙ ap (λ k. left1 ++ leaves g.cells k) (size_1 ∙ length_1 All (FromStarts First Rest) holes (hole ∷ open_ones) e0 e1 before left1 h)
            ∙ ap (λ l. l ++ leaves g.cells (length e0 + length h.cells)) h.leaving_ones
            ∙ append_assoc before (leaves h.cells (length e0)) (leaves g.cells (length e0 + length h.cells))
            ∙ ap (λ l. before ++ l) (sym (leaves_append h.cells g.cells (length e0)));
        so = λ later more k.
            subst (λ ns. All ns (last_pos e0) (length e0) ((h.cells ++ g.cells) ++ more)) (sym (append_assoc h.starts (length e1 ∷ []) later))
            (subst (All (h.starts ++ (length e1 ∷ later)) (last_pos e0) (length e0)) (sym (append_assoc h.cells g.cells more))
            (h.so (length e1 ∷ later) (g.cells ++ more) (record {
              first = g.cells;
              later = later;
              others = more;
              starts_are = refl;
              is = refl;
              first_is = subst (λ p. First p (length e1) g.cells) last_1 (subst (λ n. First (last_pos (landed e1 hole (length e1))) n g.cells) size_1 g.so);
              others_are = subst (λ p. Rest later p (length e1 + length g.cells) more) last_2 (subst (λ n. Rest later (last_pos e2) n more) length_2 k);
            })));
      }
