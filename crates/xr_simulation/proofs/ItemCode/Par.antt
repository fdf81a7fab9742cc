-- The code of a `par`'s branches, as the code of what they have to do.
use Rattle.std.proofs.Common.{◌≡◌, ℕ, ◌+◌, ◌*◌, List, [], ◌∷◌, Some, refl, sym, ◌∙◌, subst, arith}
use Rattle.xs_instr.specs.declared.image.Code.{Code}
use Rattle.xs_instr.specs.declared.state.CoreState.{CoreState}
use Rattle.xs_instr.specs.declared.state.Regs.{Regs}
use Rattle.xs_instr.specs.Pool.{all_started}
use Rattle.xs_instr.specs.Rows.{goes_on, put_threads}
use Rattle.xc_kernel.specs.Plain as kernel
use Rattle.xc_meaning.specs.States.Items.{ends, todo}
use Rattle.xl_expr.specs.declared.plan.Plan.{Plan}
use Rattle.xl_expr.proofs.Lists.{get_set_other}
use Rattle.xl_par.specs.Opening.{AreReady, ready_thread, turned}
use Rattle.xr_simulation.specs.Items.{EndAt, ItemsAt}
use Rattle.xl_ends.specs.Ends.{Sides}
use Rattle.xl_statements.specs.Pieces.{PiecesAt, SlaveEndsAt, SlavesAt}
use Rattle.xr_simulation.specs.Runners.{Setting, Runner, code, plan}
use Rattle.xr_simulation.specs.ThreadViews.{running}
use Rattle.xr_simulation.specs.NextStep.{AreSetOff, Placed, backwards_on, placed_in}
use Rattle.xr_simulation.proofs.ItemCode.Items.{pieces_before}
use Rattle.xr_simulation.proofs.Relation.Pools.{num_same, started_one}

module _ (plan : Plan) (code : Code) (sides : Sides) (End : (pc j : ℕ) → Type 0) where
  -- the end of a branch
  end_item : (a j : ℕ) → End a j → ItemsAt plan code sides End (ends ∷ []) [] a j
  end_item a j h = record { index = a; here = 0; further = j; jumps = refl; stands = (h, refl); sum = omega arith }

  -- statements, and then the end of the branch
  pub branch_stands : (ss : kernel.Statements) (a b j : ℕ) → PiecesAt code plan sides ss [] a b → End b j → ItemsAt plan code sides End (todo ss (ends ∷ [])) [] a j
  branch_stands ss a b j pieces end = pieces_before plan code sides End ss (ends ∷ []) [] a b j pieces (end_item b j end)

-- the code of branches behind the first, by where they start
module _ (plan : Plan) (code : Code) where
  record SlaveAt (start : ℕ) (placed : Placed) : Type 0 where
    end : ℕ
    pieces : PiecesAt code plan placed.sides placed.code [] start end
    ends_there : SlaveEndsAt code plan end

  abbrev AllAt : List ℕ → List Placed → Type 0
  AllAt [] [] = Unit {0}
  AllAt [] (placed ∷ others) = ⊥
  AllAt (start ∷ starts) [] = ⊥
  AllAt (start ∷ starts) (placed ∷ others) = SlaveAt start placed × AllAt starts others

  all_at : (sides : Sides) (before : List kernel.Statements) (bs : kernel.Branches) (starts : List ℕ) → SlavesAt code plan sides before bs starts → AllAt starts (placed_in sides before bs)
  all_at sides before kernel.no_branch starts h = subst (λ l. AllAt l []) (sym h) tt
  all_at sides before (kernel.more_branches (kernel.branch ss pos) bs) starts (start, others, end, is, pieces, ends_there, behind) =
      subst (λ l. AllAt l (placed_in sides before (kernel.more_branches (kernel.branch ss pos) bs))) (sym is)
      (record { end = end; pieces = pieces; ends_there = ends_there }, all_at sides (ss ∷ before) bs others behind)

  -- the other way round
  all_turned : (starts others : List ℕ) (branches more : List Placed) → AllAt starts branches → AllAt others more → AllAt (turned starts others) (backwards_on branches more)
  all_turned [] others [] more h k = k
  all_turned [] others (placed ∷ branches) more h k = absurd h
  all_turned (start ∷ starts) others [] more h k = absurd h
  all_turned (start ∷ starts) others (placed ∷ branches) more h k = all_turned starts (start ∷ others) branches (placed ∷ more) h.1 (h.0, k)

-- A step that sets all off that are ready leaves each at its code.
module _ (g : Setting) (r : Runner) (y : CoreState) (sync dp pc : ℕ) (regs : Regs) (base : dp ≡ 4 * r.block.base) where
  abbrev set_off_core : CoreState
  set_off_core = goes_on (put_threads y (all_started y.threads sync)) r.thread (running r.tie pc regs) regs

  off : (threads starts : List ℕ) (branches : List Placed) → AreReady (plan g r).first_stack dp sync r.thread threads starts y → AllAt (plan g r) (code g r) starts branches → AreSetOff g r set_off_core sync threads branches
  off [] [] [] ready h = tt
  off [] [] (placed ∷ branches) ready h = absurd h
  off [] (start ∷ starts) branches ready h = absurd ready
  off (u ∷ us) [] branches ready h = absurd ready
  off (u ∷ us) (start ∷ starts) [] ready h = absurd h
  off (u ∷ us) (start ∷ starts) (placed ∷ branches) ready h =
      let there = ready.0.there in
      let thread = ready_thread (plan g r).first_stack dp sync u start in (
        record {
          pc = start;
          regs = thread.regs;
          here =
              get_set_other (all_started y.threads sync) r.thread u (running r.tie (pc + 1) regs) ready.0.other
              ∙ started_one y.threads sync u thread there (num_same (Some sync) sync refl);
          base = base;
          stack = refl;
          at_code = branch_stands (plan g r) (code g r) placed.sides (EndAt (plan g r) (code g r) (Some sync) []) placed.code start h.0.end 0 h.0.pieces h.0.ends_there;
        },
        off us starts branches ready.1 h.1,
      )

  pub all_off : (threads starts : List ℕ) (first : kernel.Statements) (bs : kernel.Branches) → AreReady (plan g r).first_stack dp sync r.thread threads (turned starts []) y →
      SlavesAt (code g r) (plan g r) r.sides (first ∷ []) bs starts → AreSetOff g r set_off_core sync threads (backwards_on (placed_in r.sides (first ∷ []) bs) [])
  all_off threads starts first bs ready h =
      let branches = placed_in r.sides (first ∷ []) bs in
      off threads (turned starts []) (backwards_on branches []) ready
      (all_turned (plan g r) (code g r) starts [] branches [] (all_at (plan g r) (code g r) r.sides (first ∷ []) bs starts h) tt)
