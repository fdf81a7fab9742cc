-- The starts of a `par`'s branches, and of a select's cases, land among the lines that open it.
use Rattle.std.proofs.Common.{◌≡◌, ℕ, zero, suc, ◌+◌, Bool, true, false, List, [], ◌∷◌, ◌++◌, length, Option, Some, None, refl, sym, ap, ◌∙◌, subst, arith, append_assoc}
use Rattle.std.specs.Prelude.{slice_get, slice_set}
use Rattle.xw_words.specs.declared.pos.Pos.{Pos}
use Rattle.xs_instr.specs.declared.instr.Instr.TheVariants.{Msync}
use Rattle.xs_instr.specs.declared.instr.Reg.TheVariants.{R1}
use Rattle.xs_instr.specs.Lines.{Line, IsOpen, IsOpenLine, aimed, first_pos, landed, landed_at, last_or, last_pos, line}
use Rattle.xl_par.specs.Opening.{filled, filled_on, opening_lines, slaves_lines, stack_offset, starts_from}
use Rattle.xl_select.specs.Holes.{holes_in, holes_on}
use Rattle.xl_statements.specs.Landing.{AreLandable, all_landed}
use Rattle.xl_statements.proofs.Closing.{landed_length}
use Rattle.xl_statements.proofs.Seams.{next_length, seam_get, seam_set}

-- A line in front.

none_some : {A : Type 0} {x : A} → None ≡ Some x → ⊥
none_some e = cc

get_front : (front tail : List Line) (h : ℕ) (l : Line) → slice_get front h ≡ Some l → slice_get (front ++ tail) h ≡ Some l
get_front [] tail h l e = absurd (none_some e)
get_front (f ∷ front) tail zero l e = e
get_front (f ∷ front) tail (suc h) l e = get_front front tail h l e

set_front : (front tail : List Line) (h : ℕ) (l x : Line) → slice_get front h ≡ Some l → slice_set (front ++ tail) h x ≡ slice_set front h x ++ tail
set_front [] tail h l x e = absurd (none_some e)
set_front (f ∷ front) tail zero l x e = refl
set_front (f ∷ front) tail (suc h) l x e = ap (λ ls. f ∷ ls) (set_front front tail h l x e)

-- it lands there as it does alone
pub landed_front : (front tail : List Line) (h n : ℕ) → IsOpen front h → landed (front ++ tail) h n ≡ landed front h n ++ tail
landed_front front tail h n opened = by (slice_get front h) refl opened
  where
    by : (o : Option Line) → slice_get front h ≡ o → IsOpenLine o → landed (front ++ tail) h n ≡ landed front h n ++ tail
    by None e q = absurd q
    by (Some l) e q =
        ap (landed_at (front ++ tail) h n) (get_front front tail h l e)
        ∙ set_front front tail h l (aimed l n) e
        ∙ ap (λ ls. ls ++ tail) (sym (ap (landed_at front h n) e))

pub open_front : (front tail : List Line) (h : ℕ) → IsOpen front h → IsOpen (front ++ tail) h
open_front front tail h opened = by (slice_get front h) refl opened
  where
    by : (o : Option Line) → slice_get front h ≡ o → IsOpenLine o → IsOpen (front ++ tail) h
    by None e q = absurd q
    by (Some l) e q = subst IsOpenLine (sym (get_front front tail h l e)) q

-- Neither how many lines there are changes, nor their places.

pub landed_size : (ls : List Line) (h n : ℕ) → length (landed ls h n) ≡ length ls
landed_size ls h n = landed_length ls h n (slice_get ls h)

set_last : (ls : List Line) (h : ℕ) (l : Line) (n : ℕ) (p : Pos) → slice_get ls h ≡ Some l → last_or p (slice_set ls h (aimed l n)) ≡ last_or p ls
set_last [] h l n p e = absurd (none_some e)
set_last (f ∷ ls) zero l n p e = let same : f ≡ l = cc in ap (λ (x : Line). last_or x.pos ls) (sym same)
set_last (f ∷ ls) (suc h) l n p e = set_last ls h l n f.pos e

pub landed_last : (ls : List Line) (h n : ℕ) → last_pos (landed ls h n) ≡ last_pos ls
landed_last ls h n = by (slice_get ls h) refl
  where
    by : (o : Option Line) → slice_get ls h ≡ o → last_pos (landed_at ls h n o) ≡ last_pos ls
    by None e = refl
    by (Some l) e = set_last ls h l n first_pos e

pub all_size : (ls : List Line) (holes targets : List ℕ) → length (all_landed ls holes targets) ≡ length ls
all_size ls [] targets = refl
all_size ls (h ∷ hs) [] = refl
all_size ls (h ∷ hs) (n ∷ ns) = all_size (landed ls h n) hs ns ∙ landed_size ls h n

pub all_last : (ls : List Line) (holes targets : List ℕ) → last_pos (all_landed ls holes targets) ≡ last_pos ls
all_last ls [] targets = refl
all_last ls (h ∷ hs) [] = refl
all_last ls (h ∷ hs) (n ∷ ns) = all_last (landed ls h n) hs ns ∙ landed_last ls h n

-- without targets they stay as they are
pub all_none : (ls : List Line) (holes : List ℕ) → ls ≡ all_landed ls holes []
all_none ls [] = refl
all_none ls (h ∷ hs) = refl

-- they land as they do alone
pub all_front : (front tail : List Line) (holes targets : List ℕ) → AreLandable front holes → all_landed (front ++ tail) holes targets ≡ all_landed front holes targets ++ tail
all_front front tail [] targets h = refl
all_front front tail (k ∷ hs) [] h = refl
all_front front tail (k ∷ hs) (n ∷ ns) h = ap (λ ls. all_landed ls hs ns) (landed_front front tail k n h.0) ∙ all_front (landed front k n) tail hs ns (h.1 n)

-- Open lines, one after the other.

filled_none : (ls : List Line) → filled ls [] ≡ ls
filled_none [] = refl
filled_none (l ∷ ls) = by l.is_open (filled_none ls)
  where
    by : (b : Bool) → filled ls [] ≡ ls → filled_on l b [] (filled ls) ≡ l ∷ ls
    by true h = ap (λ x. l ∷ x) h
    by false h = ap (λ x. l ∷ x) h

pub filled_length : (ls : List Line) (starts : List ℕ) → length (filled ls starts) ≡ length ls
filled_length [] starts = refl
filled_length (l ∷ ls) starts = by l.is_open starts (λ ns. filled_length ls ns)
  where
    by : (b : Bool) (starts : List ℕ) → ((ns : List ℕ) → length (filled ls ns) ≡ length ls) → length (filled_on l b starts (filled ls)) ≡ suc (length ls)
    by true [] h = ap suc (h [])
    by true (n ∷ ns) h = ap suc (h ns)
    by false starts h = ap suc (h starts)

pub filled_last : (ls : List Line) (starts : List ℕ) (p : Pos) → last_or p (filled ls starts) ≡ last_or p ls
filled_last [] starts p = refl
filled_last (l ∷ ls) starts p = by l.is_open starts (λ ns. filled_last ls ns l.pos)
  where
    by : (b : Bool) (starts : List ℕ) → ((ns : List ℕ) → last_or l.pos (filled ls ns) ≡ last_or l.pos ls) → last_or p (filled_on l b starts (filled ls)) ≡ last_or l.pos ls
    by true [] h = h []
    by true (n ∷ ns) h = h ns
    by false starts h = h starts

-- a line lands behind others
lands : (ls tail front : List Line) (l : Line) (n : ℕ) → landed (front ++ (l ∷ (ls ++ tail))) (length front) n ≡ front ++ (aimed l n ∷ (ls ++ tail))
lands ls tail front l n =
    ap (landed_at (front ++ (l ∷ (ls ++ tail))) (length front) n) (seam_get front (ls ++ tail) l)
    ∙ seam_set front (ls ++ tail) l (aimed l n)

-- once they have landed the lines are filled
pub fills : (ls tail front : List Line) (starts : List ℕ) → all_landed (front ++ (ls ++ tail)) (holes_in ls (length front)) starts ≡ front ++ (filled ls starts ++ tail)
fills [] tail front starts = refl
fills (l ∷ ls) tail front starts = by l.is_open starts (λ x ns. further x ns (fills ls tail (front ++ x ∷ []) ns))
  where
    -- one line further in front
    further : (x : Line) (ns : List ℕ) → all_landed ((front ++ x ∷ []) ++ (ls ++ tail)) (holes_in ls (length (front ++ x ∷ []))) ns ≡ (front ++ x ∷ []) ++ (filled ls ns ++ tail) → all_landed (front ++ (x ∷ (ls ++ tail))) (holes_in ls (length front + 1)) ns ≡ front ++ (x ∷ (filled ls ns ++ tail))
    further x ns h =
        ap (λ ks. all_landed ks (holes_in ls (length front + 1)) ns) (sym (append_assoc front (x ∷ []) (ls ++ tail)))
        ∙ ap (λ k. all_landed ((front ++ x ∷ []) ++ (ls ++ tail)) (holes_in ls k) ns) (sym (next_length front x))
        ∙ h
        ∙ append_assoc front (x ∷ []) (filled ls ns ++ tail)

    by : (b : Bool) (starts : List ℕ) → ((x : Line) (ns : List ℕ) → all_landed (front ++ (x ∷ (ls ++ tail))) (holes_in ls (length front + 1)) ns ≡ front ++ (x ∷ (filled ls ns ++ tail))) → all_landed (front ++ (l ∷ (ls ++ tail))) (holes_on b (length front) (holes_in ls (length front + 1))) starts ≡ front ++ (filled_on l b starts (filled ls) ++ tail)
    by true [] h = ap (λ x. front ++ (l ∷ (x ++ tail))) (sym (filled_none ls))
    by true (n ∷ ns) h = ap (λ x. all_landed x (holes_in ls (length front + 1)) ns) (lands ls tail front l n) ∙ h (aimed l n) ns
    by false starts h = h l starts

pub landables : (ls tail front : List Line) → AreLandable (front ++ (ls ++ tail)) (holes_in ls (length front))
landables [] tail front = tt
landables (l ∷ ls) tail front = by l.is_open refl (λ x. further x (landables ls tail (front ++ x ∷ [])))
  where
    further : (x : Line) → AreLandable ((front ++ x ∷ []) ++ (ls ++ tail)) (holes_in ls (length (front ++ x ∷ []))) → AreLandable (front ++ (x ∷ (ls ++ tail))) (holes_in ls (length front + 1))
    further x h =
        subst (λ k. AreLandable (front ++ (x ∷ (ls ++ tail))) (holes_in ls k)) (next_length front x)
        (subst (λ ks. AreLandable ks (holes_in ls (length (front ++ x ∷ [])))) (append_assoc front (x ∷ []) (ls ++ tail)) h)

    by : (b : Bool) → l.is_open ≡ b → ((x : Line) → AreLandable (front ++ (x ∷ (ls ++ tail))) (holes_in ls (length front + 1))) → AreLandable (front ++ (l ∷ (ls ++ tail))) (holes_on b (length front) (holes_in ls (length front + 1)))
    by true e h = (
      subst IsOpenLine (sym (seam_get front (ls ++ tail) l)) e,
      λ n. subst (λ ks. AreLandable ks (holes_in ls (length front + 1))) (sym (lands ls tail front l n)) (h (aimed l n)),
    )
    by false e h = h l

-- Those of what opens a `par`.

slaves_holes : (offset : ℕ) (pos : Pos) (n k : ℕ) → holes_in (slaves_lines offset pos n ++ line (Msync R1) pos ∷ []) k ≡ starts_from k n
slaves_holes offset pos zero k = refl
slaves_holes offset pos (suc n) k =
    let e : k + 1 + 1 + 1 + 1 + 1 + 1 + 1 ≡ k + 7 = omega arith in
    ap (λ hs. (k + 1) ∷ hs) (slaves_holes offset pos n (k + 1 + 1 + 1 + 1 + 1 + 1 + 1) ∙ ap (λ j. starts_from j n) e)

pub opening_holes : (stacks : ℕ) (pos : Pos) (n k : ℕ) → holes_in (opening_lines stacks pos n) k ≡ starts_from (k + 9) n
opening_holes stacks pos n k =
    let e : k + 1 + 1 + 1 + 1 + 1 + 1 + 1 + 1 + 1 ≡ k + 9 = omega arith in
    slaves_holes (stack_offset stacks) pos n (k + 1 + 1 + 1 + 1 + 1 + 1 + 1 + 1 + 1) ∙ ap (λ j. starts_from j n) e

slaves_last : (offset : ℕ) (pos : Pos) (n : ℕ) (p : Pos) → last_or p (slaves_lines offset pos n ++ line (Msync R1) pos ∷ []) ≡ pos
slaves_last offset pos zero p = refl
slaves_last offset pos (suc n) p = slaves_last offset pos n pos

pub opening_last : (stacks : ℕ) (pos : Pos) (n : ℕ) (p : Pos) → last_or p (opening_lines stacks pos n) ≡ pos
opening_last stacks pos n p = slaves_last (stack_offset stacks) pos n pos
