-- A `par` of several branches: from its code the thread comes soon to the instruction that sets them off.
use Rattle.std.proofs.Common.{◌≡◌, ℕ, zero, suc, ◌+◌, ◌*◌, ◌<◌, ◌≤◌, List, [], ◌∷◌, Some, length, refl, sym, ap, ◌∙◌, subst, arith}
use Rattle.std.specs.Prelude.{slice_get}
use Rattle.xw_words.specs.declared.pos.Pos.{Pos}
use Rattle.xs_instr.specs.declared.instr.Reg.TheVariants.{Dp, Sp}
use Rattle.xs_instr.specs.declared.state.CoreState.{CoreState}
use Rattle.xs_instr.specs.declared.state.Regs.{Regs}
use Rattle.xs_instr.specs.Registers.{reg_get}
use Rattle.xs_instr.specs.Resources.{sync_name}
use Rattle.xc_kernel.specs.Plain as kernel
use Rattle.xc_meaning.specs.Counts.KernelCounts.{branch_count}
use Rattle.xc_meaning.specs.Settings.Sides.{sides_in}
use Rattle.xc_meaning.specs.States.Items.{Item, does, ends, todo}
use Rattle.xl_par.specs.Acquired.{Acquired, KeepsAcquired, nothing_acquired}
use Rattle.xl_par.specs.Opening.{HoldsSyncs, SetsOff}
use Rattle.xr_simulation.specs.Fits.{Fits, ItemsFit}
use Rattle.xr_simulation.specs.Items.{EndAt, ItemsAt}
use Rattle.xr_simulation.specs.Parents.{Parent, syncs_of}
use Rattle.xl_ends.specs.Ends.{Sides, codes_in}
use Rattle.xl_statements.specs.Pieces.{Exit, SeveralAt, PiecesAt, SlavesAt}
use Rattle.xr_simulation.specs.Runners.{Setting, Runner, code, home, plan, relied}
use Rattle.xr_simulation.specs.ThreadViews.{ThreadView, running}
use Rattle.xr_simulation.specs.Settled.{HasSeveral}
use Rattle.xr_simulation.specs.NextStep as turn
use Rattle.xr_simulation.specs.NextStep.{Begins, EndOf, Has, HasBases, HoldsNames, IsAt, ItemsFrom, Leads, StatementLeads, StableNextStep, cost, name_register}
use Rattle.xr_simulation.proofs.RelyGuarantee.Arrival.{at_runs}
use Rattle.xr_simulation.proofs.Par.AcquiringSteps.{Reached, hand_kept, hand_leads}
use Rattle.xr_simulation.proofs.ItemCode.Items.{behind_jumps}
use Rattle.xr_simulation.proofs.RelyGuarantee.Layouts.{has_kept, runs_at}
use Rattle.xr_simulation.proofs.ItemCode.Par.{all_off, branch_stands}
use Rattle.xr_simulation.proofs.RelyGuarantee.ThreadViews.{leads_as, leads_more}

-- a new synchroniser's name is the first, and each other one stands in the next register
names_shift : (core sync : ℕ) (syncs : List ℕ) (old regs : Regs) → HoldsSyncs core sync old regs → HoldsNames core syncs old → HoldsNames core (sync ∷ syncs) regs
names_shift core sync syncs old regs h names = record { by = by }
  where
    by : (place n : ℕ) → slice_get (sync ∷ syncs) place ≡ Some n → place < 7 → reg_get regs (name_register place) ≡ sync_name core n
    by zero n e few = let same : sync ≡ n = cc in h.r1 ∙ ap (sync_name core) same
    by (suc zero) n e few = h.r2 ∙ names.by 0 n e (omega arith)
    by (suc (suc zero)) n e few = h.r3 ∙ names.by 1 n e (omega arith)
    by (suc (suc (suc zero))) n e few = h.r4 ∙ names.by 2 n e (omega arith)
    by (suc (suc (suc (suc zero)))) n e few = h.r5 ∙ names.by 3 n e (omega arith)
    by (suc (suc (suc (suc (suc zero))))) n e few = h.r6 ∙ names.by 4 n e (omega arith)
    by (suc (suc (suc (suc (suc (suc zero)))))) n e few = h.r7 ∙ names.by 5 n e (omega arith)
    by (suc (suc (suc (suc (suc (suc (suc more))))))) n e few = absurd (omega (arith, few))

module _ (g : Setting) (r : Runner) (ss : kernel.Statements) (pos : Pos) (b : kernel.Branch) (bs : kernel.Branches) where
  abbrev others : kernel.Branches
  others = kernel.more_branches b bs

  abbrev all : kernel.Branches
  all = kernel.more_branches (kernel.branch ss pos) others

  -- the sides in which the first branch stands
  abbrev first_sides : Sides
  first_sides = sides_in 0 [] ss (codes_in others) r.sides

  abbrev Piece : (pc pc' : ℕ) → Type 0
  Piece pc pc' = SeveralAt (code g r) (plan g r) (branch_count others) (PiecesAt (code g r) (plan g r) first_sides ss []) (SlavesAt (code g r) (plan g r) r.sides (ss ∷ []) others) pc pc'

  module _ (rest : List Item) (exits : List Exit) (pc pc' j : ℕ) (piece : Piece pc pc') (fits : Fits g r (kernel.par all))
      (behind : ItemsFrom g r rest exits pc' j) (rest_fits : ItemsFit g r rest) (z : ThreadView) (regs : Regs)
      (bases : HasBases g r regs) where
    -- the branch that makes them, while it waits
    abbrev parent : (sync from count : ℕ) → Parent
    parent sync from count = record {
      branch = r.branch;
      from = from;
      count = count;
      sync = Some sync;
      items = rest;
      sides = r.sides;
      inside = r.inside;
    }

    abbrev EndWith : (sync from count : ℕ) → (pc j : ℕ) → Type 0
    EndWith sync from count = EndAt (plan g r) (code g r) r.tie (parent sync from count ∷ r.parents)

    -- the code of the first branch, behind which the `par` is closed
    first_stands : (sync from count : ℕ) → ItemsAt (plan g r) (code g r) first_sides (EndWith sync from count) (todo ss (ends ∷ [])) [] piece.first (piece.jumps + j)
    first_stands sync from count =
        branch_stands (plan g r) (code g r) first_sides (EndWith sync from count) ss piece.first piece.done (piece.jumps + j) piece.first_at
        (piece.closed, piece.closes, (exits, behind_jumps (plan g r) (code g r) r.sides (EndOf g r) rest exits piece.jumps piece.closed pc' j piece.past behind))

    -- once all are ready the next step sets them off
    sets_off : (y : ThreadView) (hand : Acquired) → y.hand ≡ Some hand → Has g r (does (kernel.par all) ∷ rest) y →
        SetsOff (home g r) (relied g r) (plan g r).first_stack r.thread (running r.tie pc regs) z.core.words piece.starts piece.opens.place piece.first hand y.core → Begins g r j y
    sets_off y hand is has s = record {
      hand = hand;
      in_hand = is;
      sync = s.sync;
      sync_is = s.sync_is;
      few_sync = s.few;
      no_lack = s.no_lack;
      branch = has.branch;
      first = ss;
      first_pos = pos;
      others = others;
      several = omega arith;
      rest = rest;
      does_par = has.runs;
      tied = s.tied;
      pc = s.index;
      regs = s.regs;
      here = s.here;
      bases = record {
        base = s.others Dp refl ∙ bases.base;
        stack = s.others Sp refl ∙ bases.stack;
        names = names_shift r.core s.sync (syncs_of r.parents) regs s.regs s.syncs bases.names;
      };
      goes = s.goes;
      jumps = piece.jumps + j;
      fewer = let one = piece.at_most_one in omega arith;
      own_code = λ from count.
          subst (λ p. ItemsAt (plan g r) (code g r) first_sides (EndWith s.sync from count) (todo ss (ends ∷ [])) [] p (piece.jumps + j)) (sym s.next) (first_stands s.sync from count);
      set_off = all_off g r y.core s.sync regs.dp s.index s.regs bases.base hand.threads piece.starts ss others s.ready piece.slaves_at;
      fits = (fits, rest_fits);
      has = has;
    }

    -- from its code the thread comes there
    leads_there : r.core < 4 → Has g r (does (kernel.par all) ∷ rest) z → IsAt g r z pc regs → z.hand ≡ Some (nothing_acquired (branch_count others)) → Leads g r (cost g r) j z
    leads_there core has here is =
        let slaves = branch_count others in
        let opens = piece.opens in
        let Q : Acquired → CoreState → Type 0 = λ hand b.
        (c : CoreState) → KeepsAcquired (relied g r) r.thread hand b c → SetsOff (home g r) (relied g r) (plan g r).first_stack r.thread (running r.tie pc regs) z.core.words piece.starts opens.place (pc + length opens.lines) hand c in
        let way = opens.opens.by (home g r) (relied g r) r.thread (running r.tie pc regs) piece.starts z.core core opens.as_many opens.stand (runs_at g r z pc regs here) in
        let le : 7 * slaves + 9 ≤ cost g r = let counted = fits.1 in omega arith in
        leads_more g r (StableNextStep g r j) (7 * slaves + 9) (cost g r) z le
        (leads_as g r (Reached g r Q (does (kernel.par all) ∷ rest)) (StableNextStep g r j) (7 * slaves + 9) z
        (λ x reached y k.
        let off = reached.there y.core (hand_kept g r reached.hand x y reached.in_hand k) in
        let off' = subst (λ p. SetsOff (home g r) (relied g r) (plan g r).first_stack r.thread (running r.tie pc regs) z.core.words piece.starts opens.place p reached.hand y.core) (sym opens.end) off in
        turn.begins (sets_off y reached.hand (k.hand ∙ reached.in_hand) (has_kept g r (does (kernel.par all) ∷ rest) x y k reached.has) off'))
        (hand_leads g r Q (does (kernel.par all) ∷ rest) (7 * slaves + 9) z (nothing_acquired slaves) is (at_runs g r z pc regs here) has way))

-- from its code to that instruction
pub par_leads : (g : Setting) (r : Runner) → r.core < 4 → (bs : kernel.Branches) → HasSeveral bs → StatementLeads g r (kernel.par bs)
par_leads g r core kernel.no_branch several = absurd several
par_leads g r core (kernel.more_branches b kernel.no_branch) several = absurd several
par_leads g r core (kernel.more_branches (kernel.branch ss pos) (kernel.more_branches b bs)) several =
    λ rest exits pc pc' j z regs laid piece fits sided behind rest_fits has sized here bases is.
    leads_there g r ss pos b bs rest exits pc pc' j piece fits behind rest_fits z regs bases core has here is
