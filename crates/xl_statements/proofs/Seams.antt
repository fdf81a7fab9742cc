-- Lines one behind the other, and an open one among them that lands.
use Rattle.std.proofs.Common.{◌≡◌, ℕ, ◌+◌, ◌<◌, ◌≤◌, List, [], ◌∷◌, ◌++◌, length, Some, refl, sym, ap, ◌∙◌, subst, arith, append_assoc, length-append}
use Rattle.std.specs.Prelude.{slice_get, slice_set}
use Rattle.std.proofs.lemmas.Option.{slice_get-get_or}
use Rattle.std.proofs.Math.Seq.{get_or-append_seam}
use Rattle.xw_words.specs.declared.pos.Pos.{Pos}
use Rattle.xs_instr.specs.declared.instr.Instr.{Instr}
use Rattle.xs_instr.specs.Extends.{Extends}
use Rattle.xs_instr.specs.Lines.{Line, line, open_line, with_target, IsOpen, IsOpenLine, landed, landed_at}

-- the line at a seam
pub seam_get : (front back : List Line) (l : Line) → slice_get (front ++ l ∷ back) (length front) ≡ Some l
seam_get front back l =
    let within : length front < length (front ++ l ∷ back) = omega (arith, length-append front (l ∷ back)) in
    slice_get-get_or (front ++ l ∷ back) (length front) l within ∙ ap Some (get_or-append_seam front l back l)

pub seam_set : (front back : List Line) (l x : Line) → slice_set (front ++ l ∷ back) (length front) x ≡ front ++ x ∷ back
seam_set [] back l x = refl
seam_set (f ∷ front) back l x = ap (λ ls. f ∷ ls) (seam_set front back l x)

-- it lands there
pub seam_landed : (front back : List Line) (i : Instr) (pos : Pos) (end : ℕ) → landed (front ++ open_line i pos ∷ back) (length front) end ≡ front ++ line (with_target i end) pos ∷ back
seam_landed front back i pos end =
    ap (landed_at (front ++ open_line i pos ∷ back) (length front) end) (seam_get front back (open_line i pos))
    ∙ seam_set front back (open_line i pos) (line (with_target i end) pos)

pub seam_open : (front back : List Line) (i : Instr) (pos : Pos) → IsOpen (front ++ open_line i pos ∷ back) (length front)
seam_open front back i pos = subst IsOpenLine (sym (seam_get front back (open_line i pos))) refl

-- the same by an index
pub lands_at : (front back : List Line) (i : Instr) (pos : Pos) (k end : ℕ) → k ≡ length front → landed (front ++ open_line i pos ∷ back) k end ≡ front ++ line (with_target i end) pos ∷ back
lands_at front back i pos k end h = ap (λ j. landed (front ++ open_line i pos ∷ back) j end) h ∙ seam_landed front back i pos end

pub open_at : (front back : List Line) (i : Instr) (pos : Pos) (k : ℕ) → k ≡ length front → IsOpen (front ++ open_line i pos ∷ back) k
open_at front back i pos k h = subst (IsOpen (front ++ open_line i pos ∷ back)) (sym h) (seam_open front back i pos)

pub next_length : (front : List Line) (l : Line) → length (front ++ l ∷ []) ≡ length front + 1
next_length front l = omega (arith, length-append front (l ∷ []))

-- further lines behind further lines
pub extends_on : (a b c : List Line) → Extends a b → Extends b c → Extends a c
extends_on a b c h g = record {
  more = h.more ++ g.more;
  is = g.is ∙ ap (λ ls. ls ++ g.more) h.is ∙ append_assoc a h.more g.more;
}

pub extends_by : (a b more : List Line) → b ≡ a ++ more → Extends a b
extends_by a b more h = record { more = more; is = h }

pub as_long : {A : Type 0} (a b more : List A) → b ≡ a ++ more → length a ≤ length b
as_long a b more h = omega (arith, ap length h, length-append a more)
