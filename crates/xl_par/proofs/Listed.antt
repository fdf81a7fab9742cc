-- The lines that open a `par`: how many there are, where their holes are, and how they grow.
use Rattle.std.proofs.Common.{◌≡◌, ℕ, false, zero, suc, ◌+◌, ◌*◌, List, [], ◌∷◌, ◌++◌, length, refl, ap, ◌∙◌, subst, arith, append_assoc, length-append}
use Rattle.xw_words.specs.declared.pos.Pos.{Pos}
use Rattle.xs_instr.specs.declared.emitter.Hole.{Hole}
use Rattle.xs_instr.specs.declared.instr.Instr.TheVariants.{Msync}
use Rattle.xs_instr.specs.declared.instr.Reg.TheVariants.{R1}
use Rattle.xs_instr.specs.Lines.{Line, at_pos, line}
use Rattle.xl_expr.specs.Targets.{AreGoodLines}
use Rattle.xl_par.specs.Opening.{AreAimedWith, AreBelow, beginning_instrs, filled, indices_of, opening_lines, slave_lines, slaves_lines, stack_offset, starts_from}

pub slaves_length : (offset : ℕ) (pos : Pos) (n : ℕ) → length (slaves_lines offset pos n) ≡ 7 * n
slaves_length offset pos zero = refl
slaves_length offset pos (suc n) = omega (arith, slaves_length offset pos n)

pub opening_length : (stacks : ℕ) (pos : Pos) (n : ℕ) → length (opening_lines stacks pos n) ≡ 7 * n + 10
opening_length stacks pos n = omega (arith, slaves_length (stack_offset stacks) pos n, length-append (slaves_lines (stack_offset stacks) pos n) (record { instr = Msync R1; pos = pos; is_open = false } ∷ []))

-- one more at the end is one more at the beginning
pub one_more_slave : (offset : ℕ) (pos : Pos) (n : ℕ) → slaves_lines offset pos n ++ slave_lines offset pos ≡ slaves_lines offset pos (suc n)
one_more_slave offset pos zero = refl
one_more_slave offset pos (suc n) =
    append_assoc (slave_lines offset pos) (slaves_lines offset pos n) (slave_lines offset pos)
    ∙ ap (λ ls. slave_lines offset pos ++ ls) (one_more_slave offset pos n)

pub one_more_start : (pc n : ℕ) → starts_from pc n ++ (pc + 7 * n + 1) ∷ [] ≡ starts_from pc (suc n)
one_more_start pc zero = let e : pc + 7 * 0 + 1 ≡ pc + 1 = omega arith in ap (λ k. k ∷ []) e
one_more_start pc (suc n) =
    let e : pc + 7 * suc n + 1 ≡ pc + 7 + 7 * n + 1 = omega arith in
    ap (λ ks. (pc + 1) ∷ ks) (ap (λ k. starts_from (pc + 7) n ++ k ∷ []) e ∙ one_more_start (pc + 7) n)

pub indices_append : (xs : List Hole) (h : Hole) → indices_of (xs ++ h ∷ []) ≡ indices_of xs ++ h.index ∷ []
indices_append [] h = refl
indices_append (x ∷ xs) h = ap (λ ks. x.index ∷ ks) (indices_append xs h)

pub next_slave : (offset : ℕ) (pos : Pos) (n : ℕ) → slaves_lines offset pos n ++ slave_lines offset pos ≡ slaves_lines offset pos (n + 1)
next_slave offset pos n = let e : suc n ≡ n + 1 = omega arith in one_more_slave offset pos n ∙ ap (slaves_lines offset pos) e

pub next_start : (pc n : ℕ) → starts_from pc n ++ (pc + 7 * n + 1) ∷ [] ≡ starts_from pc (n + 1)
next_start pc n = let e : suc n ≡ n + 1 = omega arith in one_more_start pc n ∙ ap (starts_from pc) e

-- the parts make up the whole
pub opening_joined : (stacks offset : ℕ) (pos : Pos) (n : ℕ) (e0 e1 e2 e3 : List Line) → offset ≡ stack_offset stacks → e1 ≡ e0 ++ at_pos pos beginning_instrs → e2 ≡ e1 ++ slaves_lines offset pos n → e3 ≡ e2 ++ line (Msync R1) pos ∷ [] → e3 ≡ e0 ++ opening_lines stacks pos n
opening_joined stacks offset pos n e0 e1 e2 e3 o h1 h2 h3 =
    let begin = at_pos pos beginning_instrs in
    let slaves = slaves_lines (stack_offset stacks) pos n in
    let last = line (Msync R1) pos ∷ [] in
    h3
    ∙ ap (λ ls. ls ++ last) (h2 ∙ ap (λ k. e1 ++ slaves_lines k pos n) o ∙ ap (λ ls. ls ++ slaves) h1)
    ∙ append_assoc (e0 ++ begin) slaves last
    ∙ append_assoc e0 begin (slaves ++ last)

-- with starts that are indices of the code, it may stand there
good_slaves : (offset : ℕ) (pos : Pos) (size pc : ℕ) (starts : List ℕ) → AreBelow size starts → AreGoodLines size pc (filled (slaves_lines offset pos (length starts) ++ line (Msync R1) pos ∷ []) starts)
good_slaves offset pos size pc [] h = (tt, refl, tt)
good_slaves offset pos size pc (start ∷ starts) h =
    (tt, refl, (h.0, refl, (tt, refl, (tt, refl, (tt, refl, (tt, refl, (tt, refl, good_slaves offset pos size (pc + 1 + 1 + 1 + 1 + 1 + 1 + 1) starts h.1)))))))

pub opening_aimed : (stacks slaves : ℕ) (pos : Pos) (pc : ℕ) → AreAimedWith slaves pc (opening_lines stacks pos slaves)
opening_aimed stacks slaves pos pc = record {
  by = λ starts size count below.
      subst (λ k. AreGoodLines size pc (filled (opening_lines stacks pos k) starts)) count (
        tt,
        refl,
        (
          tt,
          refl,
          (
            tt,
            refl,
            (
              tt,
              refl,
              (
                tt,
                refl,
                (
                  tt,
                  refl,
                  (
                    tt,
                    refl,
                    (
                      tt,
                      refl,
                      (
                        tt,
                        refl,
                        good_slaves (stack_offset stacks) pos size (pc + 1 + 1 + 1 + 1 + 1 + 1 + 1 + 1 + 1) starts below,
                      ),
                    ),
                  ),
                ),
              ),
            ),
          ),
        ),
      );
}
