-- Code that an emitter holds, and that may stand in an image.
use Rattle.std.proofs.Common.{◌≡◌, ℕ, ◌+◌, ◌<◌, List, [], ◌∷◌, ◌++◌, length, refl, sym, ap, subst, arith, length-append}
use Rattle.xw_words.specs.declared.pos.Pos.{Pos}
use Rattle.xs_instr.specs.declared.instr.Instr.{Instr}
use Rattle.xs_instr.specs.declared.instr.Instr.TheVariants.{Freet}
use Rattle.xs_instr.specs.Adds.{Adds}
use Rattle.xs_instr.specs.Lines.{HasNoHole, Line, line}
use Rattle.xs_instr.specs.Valid.{IsGoodInstr}
use Rattle.xl_expr.specs.Targets.{AreAimed, AreGoodLines}
use Rattle.xl_expr.proofs.GoodCode.{aimed_append, good_append, good_closed}

-- behind what was there
pub aimed_on : (old new : List Line) → AreAimed 0 old → Adds old new (AreAimed (length old)) → AreAimed 0 new
aimed_on old new h a =
    let e : length old ≡ 0 + length old = omega arith in
    subst (AreAimed 0) (sym a.is) (aimed_append 0 old a.lines h (subst (λ n. AreAimed n a.lines) e a.so))

pub one_aimed : (old new : List Line) (i : Instr) (pos : Pos) → AreAimed 0 old → ((size n : ℕ) → IsGoodInstr size n i) → new ≡ old ++ line i pos ∷ [] → AreAimed 0 new
one_aimed old new i pos h plain e = aimed_on old new h (record { lines = line i pos ∷ []; is = e; so = record { by = λ size lt. (plain size (length old), refl, tt) } })

-- the whole, with the end of the root behind it
whole_good : (old new : List Line) (pos : Pos) → AreAimed 0 old → new ≡ old ++ line Freet pos ∷ [] → AreGoodLines (length new) 0 new
whole_good old new pos h e =
    let n : 0 + length old < length new = omega (arith, ap length e, length-append old (line Freet pos ∷ [])) in
    subst (λ ls. AreGoodLines (length new) 0 ls) (sym e) (good_append (length new) 0 old (line Freet pos ∷ []) (h.by (length new) n) (tt, refl, tt))

pub whole_closed : (old new : List Line) (pos : Pos) → AreAimed 0 old → new ≡ old ++ line Freet pos ∷ [] → HasNoHole new
whole_closed old new pos h e = good_closed (length new) 0 new (whole_good old new pos h e)
