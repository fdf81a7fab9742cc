-- Lines with the targets of their open ones: where some stand behind others, and where no target is open.
use Rattle.std.proofs.Common.{◌≡◌, ℕ, suc, ◌+◌, Bool, true, false, List, [], ◌∷◌, ◌++◌, length, refl, sym, ap, ◌∙◌, subst, arith}
use Rattle.xw_words.specs.declared.pos.Pos.{Pos}
use Rattle.xs_instr.specs.declared.image.Code.{Code}
use Rattle.xs_instr.specs.declared.instr.Instr.{Instr}
use Rattle.xs_instr.specs.Lines.{Line, aimed, at_pos, line}
use Rattle.xs_instr.specs.OwnSteps.{StandAt}
use Rattle.xl_expr.proofs.Lists.{stand_back, stand_front}
use Rattle.xl_par.specs.Opening.{filled, filled_on}
use Rattle.xl_select.specs.Holes.{holes_in, holes_on}

-- with no target nothing changes
filled_none : (ls : List Line) → filled ls [] ≡ ls
filled_none [] = refl
filled_none (l ∷ ls) = by l.is_open (filled_none ls)
  where
    by : (b : Bool) → filled ls [] ≡ ls → filled_on l b [] (filled ls) ≡ l ∷ ls
    by true h = ap (λ ms. l ∷ ms) h
    by false h = ap (λ ms. l ∷ ms) h

-- each part takes its own targets
filled_both : (a b : List Line) (ts us : List ℕ) (here : ℕ) → length ts ≡ length (holes_in a here) →
    filled (a ++ b) (ts ++ us) ≡ filled a ts ++ filled b us
filled_both [] b [] us here count = refl
filled_both [] b (t ∷ ts) us here count = absurd (omega (arith, count))
filled_both (l ∷ a) b ts us here count = by l.is_open ts count (λ ts' count'. filled_both a b ts' us (here + 1) count')
  where
    by : (o : Bool) (ts : List ℕ) → length ts ≡ length (holes_on o here (holes_in a (here + 1))) →
        ((ts' : List ℕ) → length ts' ≡ length (holes_in a (here + 1)) → filled (a ++ b) (ts' ++ us) ≡ filled a ts' ++ filled b us) →
        filled_on l o (ts ++ us) (filled (a ++ b)) ≡ filled_on l o ts (filled a) ++ filled b us
    by true [] count more = absurd (omega (arith, count))
    by true (t ∷ ts) count more = ap (λ ms. aimed l t ∷ ms) (more ts (omega (arith, count)))
    by false ts count more = ap (λ ms. l ∷ ms) (more ts count)

-- lines with no open one stand in front of others
pub stand_cut : (code : Code) (pc : ℕ) (a b : List Line) (us : List ℕ) (here : ℕ) → holes_in a here ≡ [] →
    StandAt code pc (filled (a ++ b) us) → StandAt code pc a × StandAt code (pc + length a) (filled b us)
stand_cut code pc a b us here closed st =
    let all : filled (a ++ b) us ≡ a ++ filled b us = filled_both a b [] us here (ap length (sym closed)) ∙ ap (λ ms. ms ++ filled b us) (filled_none a) in
    let there : StandAt code pc (a ++ filled b us) = subst (λ ls. StandAt code pc ls) all st in
    (stand_front code pc a (filled b us) there, stand_back code pc a (filled b us) there)

filled_length : (ls : List Line) (ts : List ℕ) → length (filled ls ts) ≡ length ls
filled_length [] ts = refl
filled_length (l ∷ ls) ts = by l.is_open ts (λ us. filled_length ls us)
  where
    by : (o : Bool) (ts : List ℕ) → ((us : List ℕ) → length (filled ls us) ≡ length ls) →
        length (filled_on l o ts (filled ls)) ≡ length (l ∷ ls)
    by true [] more = ap suc (more [])
    by true (t ∷ ts) more = ap suc (more ts)
    by false ts more = ap suc (more ts)

-- and others stand behind those that have as many open ones as targets
pub stand_apart : (code : Code) (pc : ℕ) (a b : List Line) (ts us : List ℕ) (here : ℕ) → length ts ≡ length (holes_in a here) →
    StandAt code pc (filled (a ++ b) (ts ++ us)) → StandAt code pc (filled a ts) × StandAt code (pc + length a) (filled b us)
stand_apart code pc a b ts us here count st =
    let there : StandAt code pc (filled a ts ++ filled b us) = subst (λ ls. StandAt code pc ls) (filled_both a b ts us here count) st in (
      stand_front code pc (filled a ts) (filled b us) there,
      subst (λ n. StandAt code (pc + n) (filled b us)) (filled_length a ts) (stand_back code pc (filled a ts) (filled b us) there),
    )

-- instructions of one place, one list behind the other
pub at_pos_both : (pos : Pos) (is js : List Instr) → at_pos pos (is ++ js) ≡ at_pos pos is ++ at_pos pos js
at_pos_both pos [] js = refl
at_pos_both pos (i ∷ is) js = ap (λ ls. line i pos ∷ ls) (at_pos_both pos is js)
