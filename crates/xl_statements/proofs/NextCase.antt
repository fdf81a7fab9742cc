-- A turn of the loop over the cases of a select, and its end.
use Rattle.std.proofs.Common.{◌≡◌, ℕ, ◌+◌, ◌-◌, ◌<◌, ◌≤◌, List, [], ◌∷◌, ◌++◌, drop, get_or, length, length-drop, take, option_map, sym, ap, ◌∙◌, subst, arith}
use Rattle.std.proofs.lemmas.List.{at_drop_all, at_drop_more}
use Rattle.xc_kernel.specs.Plain as kernel
use Rattle.xc_kernel.specs.declared.statement.KCase.{KCase}
use Rattle.xc_kernel.specs.declared.statement.Kst.{Kst}
use Rattle.xc_kernel.specs.Kernels.{expression_of, input_of}
use Rattle.xs_instr.specs.declared.emitter.Hole.{Hole}
use Rattle.xs_instr.specs.Lines.{Line}
use Rattle.xl_expr.specs.declared.plan.Plan.{Plan}
use Rattle.xl_par.specs.Opening.{indices_of}
use Rattle.xl_ends.specs.Ends.{Sides}
use Rattle.xl_select.specs.OpeningCode.{cases_of}
use Rattle.xl_statements.specs.declared.leaving.Leaving.{Leaving}
use Rattle.xl_statements.specs.Built.{statements_of}
use Rattle.xl_statements.proofs.Cases.{CasesWalked, cases_at}
use Rattle.xl_statements.proofs.Slaves.{take_all}

-- a slice from a place on
pub rest_is : {A : Type 0} (xs : List A) (n : ℕ) → n ≤ length xs → take (length xs - n) (drop n xs) ≡ drop n xs
rest_is xs n le = let e : length xs - n ≡ length (drop n xs) = omega (arith, length-drop n xs, le) in ap (λ k. take k (drop n xs)) e ∙ take_all (drop n xs)

module _
    (plan : Plan) (sides : Sides) (otherwise : kernel.Default) (cs : List KCase) (hs : List Hole) (more holes : List ℕ) (i : ℕ)
    (e0 e : List Line) (before left : List Leaving) (starts : length hs ≡ length cs)
    (h : CasesWalked plan sides otherwise (cases_of cs) (cases_of (drop i cs)) holes (indices_of (drop i hs) ++ more) e0 e before left)
  where
    -- the next case, with its start
    pub next_case : i < length cs → (x : KCase) (body : List Kst) → x ≡ get_or cs i x → body ≡ x.body → (none : Hole) →
        CasesWalked plan sides otherwise (cases_of cs) (kernel.more_cases (kernel.case (option_map expression_of x.guard) (input_of x.head) (statements_of body)) (cases_of (drop (i + 1) cs)))
        holes ((get_or hs i none).index ∷ (indices_of (drop (i + 1) hs) ++ more)) e0 e before left
    next_case lt x body x_is body_is none =
        let guard = option_map expression_of x.guard in
        let cases : cases_of (drop i cs) ≡ kernel.more_cases (kernel.case (option_map expression_of x.guard) (input_of x.head) (statements_of body)) (cases_of (drop (i + 1) cs)) =
        cases_at cs i x x_is lt
        ∙ ap (λ (ss : List Kst). kernel.more_cases (kernel.case guard (input_of x.head) (statements_of ss)) (cases_of (drop (i + 1) cs))) (sym body_is) in
        let open_ones : indices_of (drop i hs) ≡ (get_or hs i none).index ∷ indices_of (drop (i + 1) hs) = at_drop_more indices_of hs i none (omega (arith, starts, lt)) in
        subst (λ (l : List ℕ). CasesWalked plan sides otherwise (cases_of cs) (kernel.more_cases (kernel.case guard (input_of x.head) (statements_of body)) (cases_of (drop (i + 1) cs))) holes (l ++ more) e0 e before left) open_ones
        (subst (λ (l : kernel.Cases). CasesWalked plan sides otherwise (cases_of cs) l holes (indices_of (drop i hs) ++ more) e0 e before left) cases h)

    -- behind the last
    pub cases_over : length cs ≤ i → CasesWalked plan sides otherwise (cases_of cs) kernel.no_case holes more e0 e before left
    cases_over past =
        let cases : cases_of (drop i cs) ≡ kernel.no_case = at_drop_all cases_of cs i past in
        let open_ones : indices_of (drop i hs) ≡ [] = at_drop_all indices_of hs i (omega (arith, starts, past)) in
        subst (λ (l : List ℕ). CasesWalked plan sides otherwise (cases_of cs) kernel.no_case holes (l ++ more) e0 e before left) open_ones
        (subst (λ (l : kernel.Cases). CasesWalked plan sides otherwise (cases_of cs) l holes (indices_of (drop i hs) ++ more) e0 e before left) cases h)
