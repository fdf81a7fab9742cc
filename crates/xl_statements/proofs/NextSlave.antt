-- A turn of the loop over the branches behind the first, and its end.
use Rattle.std.proofs.Common.{◌≡◌, ℕ, ◌+◌, ◌<◌, ◌≤◌, List, [], ◌∷◌, drop, get_or, length, map, sym, ap, ◌∙◌, subst, arith}
use Rattle.std.proofs.lemmas.List.{at_drop_all, at_drop_more}
use Rattle.std.specs.Prelude.{Option}
use Rattle.xc_kernel.specs.Plain as kernel
use Rattle.xc_kernel.specs.declared.statement.KBranch.{KBranch}
use Rattle.xc_kernel.specs.declared.statement.Kst.{Kst}
use Rattle.xs_instr.specs.declared.emitter.Hole.{Hole}
use Rattle.xs_instr.specs.Lines.{Line}
use Rattle.xl_expr.specs.declared.plan.Plan.{Plan}
use Rattle.xl_par.specs.Opening.{indices_of}
use Rattle.xl_ends.specs.Ends.{Sides}
use Rattle.xl_ends.specs.Sides.{sides_of}
use Rattle.xl_ends.specs.declared.sides.Side.{Side}
use Rattle.xl_statements.specs.declared.leaving.Leaving.{Leaving}
use Rattle.xl_statements.specs.Branches.{SlavesEmitIn}
use Rattle.xl_statements.specs.Built.{branches_of, statements_of}
use Rattle.xl_statements.specs.Emits.{StartsEmitted}
use Rattle.xl_statements.proofs.Slaves.{SlavesWalked, branches_at, slaves_end}

module _
    (plan : Plan) (each : List (List (Option Side))) (bs : List KBranch) (hs : List Hole) (i : ℕ)
    (e0 e : List Line) (before left : List Leaving)
    (many : length each ≡ length bs) (starts : length hs ≡ length bs)
    (h : SlavesWalked plan (map sides_of each) (map sides_of (drop i each)) (branches_of bs) (branches_of (drop i bs)) (indices_of hs) (indices_of (drop i hs)) e0 e before left)
  where
    -- the next branch, with its sides and its start
    pub next_slave : i < length bs → (listed own : List (Option Side)) → listed ≡ get_or each i listed → own ≡ listed → (x : KBranch) (body : List Kst) → x ≡ get_or bs i x → body ≡ x.body → (none : Hole) →
        SlavesWalked plan (map sides_of each) (sides_of own ∷ map sides_of (drop (i + 1) each)) (branches_of bs) (kernel.more_branches (kernel.branch (statements_of body) x.pos) (branches_of (drop (i + 1) bs))) (indices_of hs) ((get_or hs i none).index ∷ indices_of (drop (i + 1) hs)) e0 e before left
    next_slave lt listed own listed_is own_is x body x_is body_is none =
        let sides : map sides_of (drop i each) ≡ sides_of own ∷ map sides_of (drop (i + 1) each) =
        at_drop_more (map sides_of) each i listed (omega (arith, many))
        ∙ ap (λ (y : List (Option Side)). sides_of y ∷ map sides_of (drop (i + 1) each)) (sym (own_is ∙ listed_is)) in
        let branches : branches_of (drop i bs) ≡ kernel.more_branches (kernel.branch (statements_of body) x.pos) (branches_of (drop (i + 1) bs)) =
        branches_at bs i x x_is lt
        ∙ ap (λ (ss : List Kst). kernel.more_branches (kernel.branch (statements_of ss) x.pos) (branches_of (drop (i + 1) bs))) (sym body_is) in
        let holes : indices_of (drop i hs) ≡ (get_or hs i none).index ∷ indices_of (drop (i + 1) hs) = at_drop_more indices_of hs i none (omega (arith, starts)) in
        subst (λ (l : List ℕ). SlavesWalked plan (map sides_of each) (sides_of own ∷ map sides_of (drop (i + 1) each)) (branches_of bs) (kernel.more_branches (kernel.branch (statements_of body) x.pos) (branches_of (drop (i + 1) bs))) (indices_of hs) l e0 e before left) holes
        (subst (λ (l : kernel.Branches). SlavesWalked plan (map sides_of each) (sides_of own ∷ map sides_of (drop (i + 1) each)) (branches_of bs) l (indices_of hs) (indices_of (drop i hs)) e0 e before left) branches
        (subst (λ (l : List Sides). SlavesWalked plan (map sides_of each) l (branches_of bs) (branches_of (drop i bs)) (indices_of hs) (indices_of (drop i hs)) e0 e before left) sides h))

    -- behind the last
    pub slaves_over : length bs ≤ i → StartsEmitted (SlavesEmitIn plan (map sides_of each) (branches_of bs)) (indices_of hs) e0 e before left
    slaves_over past =
        let sides : map sides_of (drop i each) ≡ [] = at_drop_all (map sides_of) each i (omega (arith, many)) in
        let branches : branches_of (drop i bs) ≡ kernel.no_branch = at_drop_all branches_of bs i past in
        let holes : indices_of (drop i hs) ≡ [] = at_drop_all indices_of hs i (omega (arith, starts)) in
        slaves_end plan (map sides_of each) (branches_of bs) (indices_of hs) e0 e before left
        (subst (λ (l : List ℕ). SlavesWalked plan (map sides_of each) [] (branches_of bs) kernel.no_branch (indices_of hs) l e0 e before left) holes
        (subst (λ (l : kernel.Branches). SlavesWalked plan (map sides_of each) [] (branches_of bs) l (indices_of hs) (indices_of (drop i hs)) e0 e before left) branches
        (subst (λ (l : List Sides). SlavesWalked plan (map sides_of each) l (branches_of bs) (branches_of (drop i bs)) (indices_of hs) (indices_of (drop i hs)) e0 e before left) sides h)))
