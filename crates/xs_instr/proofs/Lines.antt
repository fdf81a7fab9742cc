-- Three lists side by side.
use Rattle.std.proofs.Common.{◌≡◌, ℕ, zero, suc, ◌+◌, ◌-◌, ◌<◌, ◌^◌, Bool, false, List, [], ◌∷◌, ◌++◌, length, map, Option, Some, None, refl, sym, ap, ◌∙◌, get_or, arith, length-append}
use Rattle.std.specs.Prelude.{slice_get}
use Rattle.std.proofs.Math.ListN.{set, length-set}
use Rattle.xw_words.specs.declared.pos.Pos.{Pos}
use Rattle.xs_instr.specs.declared.instr.Instr.{Instr}
use Rattle.xs_instr.specs.Lines.{Line, lines_of, AreEven, IsOpen, landed, landed_at, with_target, instr_of, pos_of, last_or, first_pos}

pub lines-length : (is : List Instr) (ps : List Pos) (os : List Bool) → length ps ≡ length is → length os ≡ length is → length (lines_of is ps os) ≡ length is
lines-length [] ps os h g = refl
lines-length (i ∷ is) [] os h g = absurd (omega arith)
lines-length (i ∷ is) (p ∷ ps) [] h g = absurd (omega arith)
lines-length (i ∷ is) (p ∷ ps) (o ∷ os) h g = ap suc (lines-length is ps os (omega arith) (omega arith))

pub lines-push : (is : List Instr) (ps : List Pos) (os : List Bool) (i : Instr) (p : Pos) (o : Bool) → length ps ≡ length is → length os ≡ length is → lines_of (is ++ i ∷ []) (ps ++ p ∷ []) (os ++ o ∷ []) ≡ lines_of is ps os ++ record { instr = i; pos = p; is_open = o } ∷ []
lines-push [] [] [] i p o h g = refl
lines-push [] (q ∷ ps) os i p o h g = absurd (omega arith)
lines-push [] [] (r ∷ os) i p o h g = absurd (omega arith)
lines-push (j ∷ is) [] os i p o h g = absurd (omega arith)
lines-push (j ∷ is) (q ∷ ps) [] i p o h g = absurd (omega arith)
lines-push (j ∷ is) (q ∷ ps) (r ∷ os) i p o h g =
    let l : Line = record { instr = j; pos = q; is_open = r } in
    ap (λ ls. l ∷ ls) (lines-push is ps os i p o (omega arith) (omega arith))

pub lines-instrs : (is : List Instr) (ps : List Pos) (os : List Bool) → length ps ≡ length is → length os ≡ length is → map instr_of (lines_of is ps os) ≡ is
lines-instrs [] ps os h g = refl
lines-instrs (i ∷ is) [] os h g = absurd (omega arith)
lines-instrs (i ∷ is) (p ∷ ps) [] h g = absurd (omega arith)
lines-instrs (i ∷ is) (p ∷ ps) (o ∷ os) h g = ap (λ ls. i ∷ ls) (lines-instrs is ps os (omega arith) (omega arith))

pub lines-places : (is : List Instr) (ps : List Pos) (os : List Bool) → length ps ≡ length is → length os ≡ length is → map pos_of (lines_of is ps os) ≡ ps
lines-places [] [] os h g = refl
lines-places [] (p ∷ ps) os h g = absurd (omega arith)
lines-places (i ∷ is) [] os h g = absurd (omega arith)
lines-places (i ∷ is) (p ∷ ps) [] h g = absurd (omega arith)
lines-places (i ∷ is) (p ∷ ps) (o ∷ os) h g = ap (λ ls. p ∷ ls) (lines-places is ps os (omega arith) (omega arith))

-- the place of the last one
pub lines-last : (is : List Instr) (ps : List Pos) (os : List Bool) (q d : Pos) → length ps ≡ length is → length os ≡ length is → last_or q (lines_of is ps os) ≡ get_or (q ∷ ps) (length ps) d
lines-last [] [] os q d h g = refl
lines-last [] (p ∷ ps) os q d h g = absurd (omega arith)
lines-last (i ∷ is) [] os q d h g = absurd (omega arith)
lines-last (i ∷ is) (p ∷ ps) [] q d h g = absurd (omega arith)
lines-last (i ∷ is) (p ∷ ps) (o ∷ os) q d h g = lines-last is ps os p d (omega arith) (omega arith)

-- an open line is there
pub open_within : (ls : List Line) (h : ℕ) → IsOpen ls h → h < length ls
open_within [] h o = absurd o
open_within (l ∷ ls) zero o = omega arith
open_within (l ∷ ls) (suc h) o = let r = open_within ls h o in omega arith

-- a target is given
pub lines-land : (is : List Instr) (ps : List Pos) (os : List Bool) (h n : ℕ) (d : Instr) → length ps ≡ length is → length os ≡ length is → h < length is → lines_of (set is h (with_target (get_or is h d) n)) ps (set os h false) ≡ landed (lines_of is ps os) h n
lines-land [] ps os h n d e g lt = absurd (omega arith)
lines-land (i ∷ is) [] os h n d e g lt = absurd (omega arith)
lines-land (i ∷ is) (p ∷ ps) [] h n d e g lt = absurd (omega arith)
lines-land (i ∷ is) (p ∷ ps) (o ∷ os) zero n d e g lt = refl
lines-land (i ∷ is) (p ∷ ps) (o ∷ os) (suc h) n d e g lt =
    let l : Line = record { instr = i; pos = p; is_open = o } in
    ap (λ ls. l ∷ ls) (lines-land is ps os h n d (omega arith) (omega arith) (omega arith)) ∙ more (slice_get (lines_of is ps os) h)
  where
    more : (x : Option Line) → (let l : Line = record { instr = i; pos = p; is_open = o } in l ∷ landed_at (lines_of is ps os) h n x ≡ landed_at (l ∷ lines_of is ps os) (suc h) n x)
    more None = refl
    more (Some y) = refl

module _ (is : List Instr) (ps : List Pos) (os : List Bool) (ls : List Line) (even : AreEven is ps os) (seen : lines_of is ps os ≡ ls) where
  pub seen_length : length is ≡ length ls
  seen_length = sym (lines-length is ps os even.places even.open_ones) ∙ ap length seen

  -- one more of each
  pub even_push : (i : Instr) (p : Pos) (o : Bool) (is' : List Instr) (ps' : List Pos) (os' : List Bool) → is' ≡ is ++ i ∷ [] → ps' ≡ ps ++ p ∷ [] → os' ≡ os ++ o ∷ [] → length ls + 1 < 2 ^ 32 → AreEven is' ps' os'
  even_push i p o is' ps' os' a b d few =
      let e = even.places in
      let f = even.open_ones in
      let g = seen_length in
      let la = ap length a ∙ length-append is (i ∷ []) in
      let lb = ap length b ∙ length-append ps (p ∷ []) in
      let ld = ap length d ∙ length-append os (o ∷ []) in
      record { places = omega arith; open_ones = omega arith; few = omega arith }

  pub seen_push : (i : Instr) (p : Pos) (o : Bool) (is' : List Instr) (ps' : List Pos) (os' : List Bool) → is' ≡ is ++ i ∷ [] → ps' ≡ ps ++ p ∷ [] → os' ≡ os ++ o ∷ [] → lines_of is' ps' os' ≡ ls ++ record { instr = i; pos = p; is_open = o } ∷ []
  seen_push i p o is' ps' os' a b d =
      rw (a, b, d) (lines-push is ps os i p o even.places even.open_ones) ∙ ap (λ l. l ++ record { instr = i; pos = p; is_open = o } ∷ []) seen

  pub hole_within : (h h' : ℕ) → h ≡ h' → IsOpen ls h' → h < length is
  hole_within h h' e o = let w = open_within ls h' o in let s = seen_length in omega arith

  pub seen_land : (h h' n n' : ℕ) (d : Instr) → h ≡ h' → n ≡ n' → IsOpen ls h' → lines_of (set is h (with_target (get_or is h d) n)) ps (set os h false) ≡ landed ls h' n'
  seen_land h h' n n' d e g o =
      lines-land is ps os h n d even.places even.open_ones (hole_within h h' e o) ∙ ap (λ l. landed l h n) seen ∙ ap (λ k. landed ls k n) e ∙ ap (landed ls h') g

  pub even_land : (h n : ℕ) (i : Instr) → AreEven (set is h i) ps (set os h false)
  even_land h n i =
      let a = length-set is h i in
      let b = length-set os h false in
      let e = even.places in
      let f = even.open_ones in
      let g = even.few in
      record { places = omega arith; open_ones = omega arith; few = omega arith }

pub last_place : (is : List Instr) (ps : List Pos) (os : List Bool) (d : Pos) → AreEven is ps os → (length ps ≡ 0 → ⊥) → get_or ps (length ps - 1) d ≡ last_or first_pos (lines_of is ps os)
last_place is [] os d even some = absurd (some refl)
last_place is (p ∷ ps) os d even some =
    let e : length (p ∷ ps) - 1 ≡ length ps = omega arith in
    ap (λ n. get_or (p ∷ ps) n d) e ∙ sym (lines-last is (p ∷ ps) os first_pos d even.places even.open_ones ∙ refl)
