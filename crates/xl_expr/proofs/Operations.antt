-- An operation means what its operator makes of its operands' values.
use Rattle.std.proofs.Common.{◌≡◌, ℕ, ◌+◌, ◌*◌, ◌<◌, ◌≤◌, max, Bool, true, false, List, [], ◌∷◌, ◌++◌, length, Option, Some, None, refl, sym, ap, ◌∙◌, subst, arith, length-append}
use Rattle.std.specs.Prelude.{not, nat_eq}
use Rattle.xw_words.specs.declared.pos.Pos.{Pos}
use Rattle.xs_instr.specs.declared.image.Code.{Code}
use Rattle.xs_instr.specs.declared.instr.Instr.TheVariants.{Ldc, Brft, Brff, Brfu}
use Rattle.xs_instr.specs.declared.instr.Reg.TheVariants.{R0}
use Rattle.xs_instr.specs.declared.state.Regs.{Regs}
use Rattle.xs_instr.specs.Registers.{reg_set}
use Rattle.xs_instr.specs.Rows.{jumps_by}
use Rattle.xc_kernel.specs.Values.{Value, word, error, applied, of_one, of_two, of_both, with_second, and_then, or_else, choice, truth_of, is_true}
use Rattle.xc_kernel.specs.Operators as operator
use Rattle.xc_kernel.specs.Operators.{Operator}
use Rattle.xs_instr.specs.Lines.{Line, line}
use Rattle.xs_instr.specs.OwnSteps.{StandAt, temporary}
use Rattle.xl_expr.specs.Code.{Operand, one_tail, joined_code, operation_code}
use Rattle.xl_expr.specs.declared.direct_operand.Direct.{Direct}
use Rattle.xl_expr.proofs.Lists.{stand_front, stand_back}
use Rattle.xl_expr.proofs.Ways.{own, IsPlain}
use Rattle.xl_expr.proofs.Runs.{Runs, Keeps, Ready, ready_kept, keeps_all, keeps_r0, done, looser, one_on, by_quiet}
use Rattle.xl_expr.proofs.Tails.{tail_runs, one_runs, one_few}
use Rattle.xl_expr.proofs.Pieces.{bound, truth_made, IsDirect, Means, value_on, tail_means, two_means, straight_means, turned_means, short_means}

plain_brff : (target : ℕ) → IsPlain (Brff R0 target)
plain_brff target = record { row_is = λ h c t th. refl; no_event = refl }

plain_brft : (target : ℕ) → IsPlain (Brft R0 target)
plain_brft target = record { row_is = λ h c t th. refl; no_event = refl }

plain_brfu : (target : ℕ) → IsPlain (Brfu target)
plain_brfu target = record { row_is = λ h c t th. refl; no_event = refl }

module _ (code : Code) (relied : ℕ → Bool) (s : ℕ) (small : s + temporary ≤ 16384) (mine : (k : ℕ) → k < temporary → relied (s + k) ≡ true) (dp : ℕ) (first : List ℕ) where
  abbrev Piece_means : (ℕ → ℕ → Pos → List Line) → Value → ℕ → ℕ → Type 0
  Piece_means = Means code relied s small mine dp first

  abbrev Run : Regs → List ℕ → ℕ → ℕ → ℕ → ℕ → Value → Type 0
  Run = Runs code relied s

  abbrev Is_ready : Regs → List ℕ → Type 0
  Is_ready = Ready code relied s dp first

  -- what one instruction may bring is the value
  abbrev pub HasDirect : Option Direct → Value → Type 0
  HasDirect None v = Unit {0}
  HasDirect (Some d) v = (b : ℕ) × (v ≡ word b) × IsDirect code relied s small mine dp first d b

  -- each operand means its value
  pub data AllMean : List Operand → List Value → ℕ → ℕ → Type 0 where
    none : AllMean [] [] 0 0
    some : (p : Operand) (v : Value) (d n : ℕ) (ps : List Operand) (vs : List Value) (ds ns : ℕ) (here : Piece_means p.piece v d n) (direct : HasDirect p.direct v) (rest : AllMean ps vs ds ns) → AllMean (p ∷ ps) (v ∷ vs) (max d ds) (n + ns)

  -- more room and more nodes do no harm
  pub means_more : (p : ℕ → ℕ → Pos → List Line) (v : Value) (d e m n : ℕ) → d ≤ e → m ≤ n → Piece_means p v d m → Piece_means p v e n
  means_more p v d e m n le few h = record {
    by = λ k pc last regs words st fits ready.
        looser code relied s regs words pc (pc + length (p k pc last)) (pc + length (p k pc last)) k k (7 * m) (7 * n) v refl (omega arith) (omega arith) (h.by k pc last regs words st (omega arith) ready);
  }

  -- no operand
  nothing_means : (o : Operator) (u : Bool) (pos : Pos) → Piece_means (operation_code o u pos []) (word 0) 1 1
  nothing_means o u pos = record {
    by = λ k pc last regs words st fits ready.
        looser code relied s regs words pc (pc + 1) (pc + 1) k k (1 + 0) 7 (word 0) refl (omega arith) (omega arith)
        (one_on code relied s regs words (reg_set regs R0 0) words pc (pc + 1) (pc + 1) k 0 (word 0) (by_quiet code relied s (Ldc R0 0) regs (reg_set regs R0 0) words pc (pc + 1) st.0 (record { row_is = λ h c t th. refl; no_event = refl }) (λ ws g. refl)) (keeps_r0 s k regs words 0) (done code relied s (reg_set regs R0 0) words (pc + 1) (pc + 1) k 0 0 refl refl));
  }

  -- one operand
  one_means : (o : Operator) (u : Bool) (pos : Pos) (a : Operand) (va : Value) (da na : ℕ) → Piece_means a.piece va da na → Piece_means (operation_code o u pos (a ∷ [])) (bound va (of_one o)) da (1 + na)
  one_means o u pos a va da na ma =
      tail_means code relied s small mine dp first pos (one_tail o) (let f = one_few pos o in omega arith) a.piece va da na (of_one o) ma
      (λ x pc k regs words st ready e. subst (λ y. Run regs words pc (pc + length (one_tail o)) k (length (one_tail o)) (of_one o y)) e (tail_runs code relied s pos (one_tail o) regs (of_one o regs.r0) (one_runs pos o regs) words pc k st))

  -- three operands, of which the first chooses
  module _ (o : Operator) (u : Bool) (pos : Pos) (pa pb pd : Operand) (more : List Operand) (va vb vd : Value) (da db dd na nb nd : ℕ) (ma : Piece_means pa.piece va da na) (mb : Piece_means pb.piece vb db nb) (md : Piece_means pd.piece vd dd nd) where
    choice_by : (k pc : ℕ) (last : Pos) (regs : Regs) (words : List ℕ) → StandAt code pc (operation_code o u pos (pa ∷ pb ∷ pd ∷ more) k pc last) → k + (1 + max da (max db dd)) ≤ temporary → Is_ready regs words → Run regs words pc (pc + length (operation_code o u pos (pa ∷ pb ∷ pd ∷ more) k pc last)) k (7 * (1 + na + nb + nd)) (bound va (λ a. choice (is_true a) vb vd))
    choice_by k pc last regs words st fits ready =
        looser code relied s regs words pc end (pc + length all) k k (7 * na + (1 + (7 * nb + 7 * nd + 1))) (7 * (1 + na + nb + nd)) (bound va (λ a. choice (is_true a) vb vd)) end_is (omega arith) (omega arith)
        (value_on code relied s small mine dp first regs words pc pc1 end k (7 * na) (1 + (7 * nb + 7 * nd + 1)) va (λ a. choice (is_true a) vb vd) (ma.by k pc last regs words (stand_front code pc ca _ st) (omega arith) ready) second)
      where
        ca : List Line
        ca = pa.piece k pc last

        pc1 : ℕ
        pc1 = pc + length ca

        cb : List Line
        cb = pb.piece (k + 1) (pc1 + 1) pos

        pc2 : ℕ
        pc2 = pc1 + 1 + length cb

        cd : List Line
        cd = pd.piece (k + 1) (pc2 + 1) pos

        end : ℕ
        end = pc2 + 1 + length cd

        all : List Line
        all = operation_code o u pos (pa ∷ pb ∷ pd ∷ more) k pc last

        end_is : end ≡ pc + length all
        end_is = omega (arith, length-append ca (line (Brff R0 (pc2 + 1)) pos ∷ (cb ++ (line (Brfu end) pos ∷ cd))), length-append cb (line (Brfu end) pos ∷ cd))

        test_stands : StandAt code pc1 (line (Brff R0 (pc2 + 1)) pos ∷ (cb ++ (line (Brfu end) pos ∷ cd)))
        test_stands = stand_back code pc ca (line (Brff R0 (pc2 + 1)) pos ∷ (cb ++ (line (Brfu end) pos ∷ cd))) st

        skip_stands : StandAt code pc2 (line (Brfu end) pos ∷ cd)
        skip_stands = stand_back code (pc1 + 1) cb (line (Brfu end) pos ∷ cd) test_stands.2

        second : (a : ℕ) (regs1 : Regs) (words1 : List ℕ) → Keeps s k regs words regs1 words1 → regs1.r0 ≡ a → Run regs1 words1 pc1 end k (1 + (7 * nb + 7 * nd + 1)) (choice (is_true a) vb vd)
        second a regs1 words1 keeps1 a_is = decide (nat_eq regs1.r0 0) refl
          where
            ready1 : Is_ready regs1 words1
            ready1 = ready_kept code relied s dp first k regs words regs1 words1 ready keeps1

            chosen : (b : Bool) → nat_eq regs1.r0 0 ≡ b → choice (not b) vb vd ≡ choice (is_true a) vb vd
            chosen b e = ap (λ (x : Bool). choice (not x) vb vd) (sym e) ∙ ap (λ x. choice (is_true x) vb vd) a_is

            bound_is : (v : Value) → bound v word ≡ v
            bound_is (word b) = refl
            bound_is (error kind p) = refl

            decide : (b : Bool) → nat_eq regs1.r0 0 ≡ b → Run regs1 words1 pc1 end k (1 + (7 * nb + 7 * nd + 1)) (choice (is_true a) vb vd)
            decide true e =
                subst (Run regs1 words1 pc1 end k (1 + (7 * nb + 7 * nd + 1))) (chosen true e)
                (looser code relied s regs1 words1 pc1 end end k k (1 + 7 * nd) (1 + (7 * nb + 7 * nd + 1)) vd refl (omega arith) (omega arith)
                (one_on code relied s regs1 words1 regs1 words1 pc1 (pc2 + 1) end k (7 * nd) vd (by_quiet code relied s (Brff R0 (pc2 + 1)) regs1 regs1 words1 pc1 (pc2 + 1) test_stands.0 (plain_brff (pc2 + 1)) (λ ws g. ap (jumps_by (own pc1 regs1 ws) (pc2 + 1)) e)) (keeps_all s k regs1 words1)
                (looser code relied s regs1 words1 (pc2 + 1) end end (k + 1) k (7 * nd) (7 * nd) vd refl (omega arith) (omega arith)
                (md.by (k + 1) (pc2 + 1) pos regs1 words1 skip_stands.2 (omega arith) ready1))))
            decide false e =
                subst (Run regs1 words1 pc1 end k (1 + (7 * nb + 7 * nd + 1))) (chosen false e)
                (looser code relied s regs1 words1 pc1 end end k k (1 + (7 * nb + 1)) (1 + (7 * nb + 7 * nd + 1)) vb refl (omega arith) (omega arith)
                (one_on code relied s regs1 words1 regs1 words1 pc1 (pc1 + 1) end k (7 * nb + 1) vb (by_quiet code relied s (Brff R0 (pc2 + 1)) regs1 regs1 words1 pc1 (pc1 + 1) test_stands.0 (plain_brff (pc2 + 1)) (λ ws g. ap (jumps_by (own pc1 regs1 ws) (pc2 + 1)) e)) (keeps_all s k regs1 words1)
                (looser code relied s regs1 words1 (pc1 + 1) end end (k + 1) k (7 * nb + 1) (7 * nb + 1) vb refl (omega arith) (omega arith)
                (subst (Run regs1 words1 (pc1 + 1) end (k + 1) (7 * nb + 1)) (bound_is vb)
                (value_on code relied s small mine dp first regs1 words1 (pc1 + 1) pc2 end (k + 1) (7 * nb) 1 vb word (mb.by (k + 1) (pc1 + 1) pos regs1 words1 (stand_front code (pc1 + 1) cb _ test_stands.2) (omega arith) ready1)
                (λ b regs3 words3 h b_is. one_on code relied s regs3 words3 regs3 words3 pc2 end end (k + 1) 0 (word b) (by_quiet code relied s (Brfu end) regs3 regs3 words3 pc2 end skip_stands.0 (plain_brfu end) (λ ws g. refl)) (keeps_all s (k + 1) regs3 words3) (done code relied s regs3 words3 end end (k + 1) 0 b refl b_is)))))))

    choice_means : Piece_means (operation_code o u pos (pa ∷ pb ∷ pd ∷ more)) (bound va (λ a. choice (is_true a) vb vd)) (1 + max da (max db dd)) (1 + na + nb + nd)
    choice_means = record { by = choice_by }

  -- two operands
  module _ (u : Bool) (pos : Pos) (pa pb : Operand) (va vb : Value) (da db na nb : ℕ) (ma : Piece_means pa.piece va da na) (mb : Piece_means pb.piece vb db nb) where
    and_decides : (a : ℕ) → nat_eq a 0 ≡ true → and_then (is_true a) vb ≡ truth_made a
    and_decides a e = rw e refl

    and_goes : (a : ℕ) → nat_eq a 0 ≡ false → and_then (is_true a) vb ≡ truth_of vb
    and_goes a e = rw e refl

    or_decides : (a : ℕ) → is_true a ≡ true → or_else (is_true a) vb ≡ truth_made a
    or_decides a e = by (nat_eq a 0) refl
      where
        by : (b : Bool) → nat_eq a 0 ≡ b → or_else (is_true a) vb ≡ truth_made a
        by true h = let f : not true ≡ true = ap not (sym h) ∙ e in cc
        by false h = rw h refl

    or_goes : (a : ℕ) → is_true a ≡ false → or_else (is_true a) vb ≡ truth_of vb
    or_goes a e = ap (λ b. or_else b vb) e

    -- an error of either, or what is made of both words
    both_is : (o : Operator) (a : ℕ) (v : Value) → bound v (λ b. of_two o u pos a b) ≡ of_both o u pos a v
    both_is o a (word b) = refl
    both_is o a (error kind p) = refl

    joined_means : (o : Operator) (da' db' : Option Direct) → HasDirect da' va → HasDirect db' vb → Piece_means (joined_code o u pos pa.piece pb.piece da' db') (bound va (λ a. of_both o u pos a vb)) (1 + max da db) (1 + na + nb)
    joined_means o da' (Some d) h g =
        subst (λ v. Piece_means (joined_code o u pos pa.piece pb.piece da' (Some d)) (bound va (λ a. of_both o u pos a v)) (1 + max da db) (1 + na + nb)) (sym g.1)
        (means_more (joined_code o u pos pa.piece pb.piece da' (Some d)) (bound va (λ a. of_two o u pos a g.0)) da (1 + max da db) (1 + na) (1 + na + nb) (omega arith) (omega arith) (straight_means code relied s small mine dp first o u pos pa.piece va da na ma d g.0 g.2))
    joined_means o (Some d) None h g =
        subst (λ v. Piece_means (joined_code o u pos pa.piece pb.piece (Some d) None) (bound v (λ a. of_both o u pos a vb)) (1 + max da db) (1 + na + nb)) (sym h.1)
        (subst (λ v. Piece_means (joined_code o u pos pa.piece pb.piece (Some d) None) v (1 + max da db) (1 + na + nb)) (both_is o h.0 vb)
        (means_more (joined_code o u pos pa.piece pb.piece (Some d) None) (bound vb (λ b. of_two o u pos h.0 b)) db (1 + max da db) (1 + nb) (1 + na + nb) (omega arith) (omega arith) (turned_means code relied s small mine dp first o u pos pb.piece vb db nb mb d h.0 h.2)))
    joined_means o None None h g = two_means code relied s small mine dp first o u pos pa.piece pb.piece va vb da db na nb ma mb

    both_means : (o : Operator) → HasDirect pa.direct va → HasDirect pb.direct vb → Piece_means (operation_code o u pos (pa ∷ pb ∷ [])) (bound va (λ a. with_second o u pos a vb)) (1 + max da db) (1 + na + nb)
    both_means operator.both h g = short_means code relied s small mine dp first operator.both u pos pa.piece pb.piece va vb da db na nb ma mb (Brff R0) (λ a. nat_eq a 0) (λ a. and_then (is_true a) vb) plain_brff (λ target pc regs ws. refl) and_decides and_goes
    both_means operator.either h g = short_means code relied s small mine dp first operator.either u pos pa.piece pb.piece va vb da db na nb ma mb (Brft R0) is_true (λ a. or_else (is_true a) vb) plain_brft (λ target pc regs ws. refl) or_decides or_goes
    both_means other h g = joined_means other pa.direct pb.direct h g

  -- any number of operands
  pub operation_means : (o : Operator) (u : Bool) (pos : Pos) (ps : List Operand) (vs : List Value) (d n : ℕ) → AllMean ps vs d n → Piece_means (operation_code o u pos ps) (applied o u pos vs) (1 + d) (1 + n)
  operation_means o u pos ps vs d n none = means_more _ (word 0) 1 1 1 1 (omega arith) (omega arith) (nothing_means o u pos)
  operation_means o u pos ps vs d n (some pa va da na ps' vs' ds ns ma ha none) =
      means_more (operation_code o u pos (pa ∷ [])) (applied o u pos (va ∷ [])) da (1 + max da 0) (1 + na) (1 + (na + 0)) (omega arith) (omega arith) (subst (λ v. Piece_means (operation_code o u pos (pa ∷ [])) v da (1 + na)) (is va) (one_means o u pos pa va da na ma))
    where
      is : (v : Value) → bound v (of_one o) ≡ applied o u pos (v ∷ [])
      is (word a) = refl
      is (error kind p) = refl
  operation_means o u pos ps vs d n (some pa va da na ps1 vs1 ds1 ns1 ma ha (some pb vb db nb ps2 vs2 ds2 ns2 mb hb none)) =
      means_more (operation_code o u pos (pa ∷ pb ∷ [])) (applied o u pos (va ∷ vb ∷ [])) (1 + max da db) (1 + max da (max db 0)) (1 + na + nb) (1 + (na + (nb + 0))) (omega arith) (omega arith) (subst (λ v. Piece_means (operation_code o u pos (pa ∷ pb ∷ [])) v (1 + max da db) (1 + na + nb)) (is va) (both_means u pos pa pb va vb da db na nb ma mb o ha hb))
    where
      is : (v : Value) → bound v (λ a. with_second o u pos a vb) ≡ applied o u pos (v ∷ vb ∷ [])
      is (word a) = refl
      is (error kind p) = refl
  operation_means o u pos ps vs d n (some pa va da na ps1 vs1 ds1 ns1 ma ha (some pb vb db nb ps2 vs2 ds2 ns2 mb hb (some pd vd dd nd ps3 vs3 ds3 ns3 md hd rest))) =
      means_more (operation_code o u pos (pa ∷ pb ∷ pd ∷ ps3)) (applied o u pos (va ∷ vb ∷ vd ∷ vs3)) (1 + max da (max db dd)) (1 + max da (max db (max dd ds3))) (1 + na + nb + nd) (1 + (na + (nb + (nd + ns3)))) (omega arith) (omega arith) (subst (λ v. Piece_means (operation_code o u pos (pa ∷ pb ∷ pd ∷ ps3)) v (1 + max da (max db dd)) (1 + na + nb + nd)) (is va) (choice_means o u pos pa pb pd ps3 va vb vd da db dd na nb nd ma mb md))
    where
      is : (v : Value) → bound v (λ a. choice (is_true a) vb vd) ≡ applied o u pos (v ∷ vb ∷ vd ∷ vs3)
      is (word a) = refl
      is (error kind p) = refl
