-- Where the first branch of a `par` has ended, its thread comes soon to where it joins the others.
use Rattle.std.proofs.Common.{◌≡◌, ◌≢◌, ℕ, zero, suc, true, ◌+◌, ◌<◌, ◌≤◌, List, ◌∷◌, Option, Some, None, length, refl, sym, ap, ◌∙◌, subst, inl, inr, ⊎_elim, arith}
use Rattle.std.specs.Prelude.{slice_get}
use Rattle.std.proofs.lemmas.List.{length-set}
use Rattle.std.proofs.lemmas.Option.{slice_get_within}
use Rattle.xw_words.specs.declared.pos.Pos.{Pos}
use Rattle.xs_instr.specs.declared.instr.Reg.TheVariants.{Dp, Sp}
use Rattle.xs_instr.specs.declared.state.CoreState.{CoreState}
use Rattle.xs_instr.specs.declared.state.Regs.{Regs}
use Rattle.xs_instr.specs.declared.state.Thread.{Thread}
use Rattle.xs_instr.specs.Registers.{reg_get}
use Rattle.xs_instr.specs.Resources.{sync_name}
use Rattle.xl_expr.specs.Leads.{Leads}
use Rattle.xl_expr.proofs.Lists.{get_set_other}
use Rattle.xl_expr.proofs.ResourceParts.{others_same}
use Rattle.xl_par.specs.Closing as closing
use Rattle.xl_par.specs.Acquired.{Acquired, IsAmong}
use Rattle.xl_par.specs.Closing.{HoldsOuter, KeptSync, QuietStep}
use Rattle.xr_simulation.specs.Items.{EndAt, ItemsAt}
use Rattle.xr_simulation.specs.Parents.{Parent, sync_before, syncs_of}
use Rattle.xl_statements.specs.Pieces.{ClosesAt, Exit}
use Rattle.xr_simulation.specs.Runners.{Setting, Runner, code, home, plan, relied}
use Rattle.xr_simulation.specs.ThreadViews.{IsSilentStep, Rely, LeadsIn, keeps, Owns, ThreadView, StillRuns, after, running}
use Rattle.xr_simulation.specs.NextStep.{HasBases, HoldsNames, IsAt, Joins, JoinsAt, name_register}
use Rattle.xr_simulation.proofs.RelyGuarantee.Arrival.{at_runs, runs_still, same_use}
use Rattle.xr_simulation.proofs.RelyGuarantee.Layouts.{runs_at}
use Rattle.xr_simulation.proofs.RelyGuarantee.ThreadViews.{leads_as}
use Rattle.xr_simulation.proofs.Relation.Sizes.{same_sizes}

-- each name but the first stands one register further down
names_back : (core sync : ℕ) (syncs : List ℕ) (old regs : Regs) → length syncs ≤ 6 → HoldsOuter old regs → HoldsNames core (sync ∷ syncs) old → HoldsNames core syncs regs
names_back core sync syncs old regs small h names = record { by = λ place n e few. by place n e (let within = slice_get_within syncs place n e in omega arith) }
  where
    by : (place n : ℕ) → slice_get syncs place ≡ Some n → place < 6 → reg_get regs (name_register place) ≡ sync_name core n
    by zero n e few = h.r1 ∙ names.by 1 n e (omega arith)
    by (suc zero) n e few = h.r2 ∙ names.by 2 n e (omega arith)
    by (suc (suc zero)) n e few = h.r3 ∙ names.by 3 n e (omega arith)
    by (suc (suc (suc zero))) n e few = h.r4 ∙ names.by 4 n e (omega arith)
    by (suc (suc (suc (suc zero)))) n e few = h.r5 ∙ names.by 5 n e (omega arith)
    by (suc (suc (suc (suc (suc zero))))) n e few = h.r6 ∙ names.by 6 n e (omega arith)
    by (suc (suc (suc (suc (suc (suc more)))))) n e few = absurd (omega (arith, few))

module _ (g : Setting) (r : Runner) (n : ℕ) where
  -- what is kept of a view is kept of its core, and of a synchroniser that the runner owns
  sync_kept : (z y : ThreadView) → Owns r z.hand n → Rely g r z y → KeptSync (relied g r) r.thread n z.core y.core
  sync_kept z y owns k = record { own = record { thread = k.thread; words = k.words }; sync = k.syncs n owns }

  -- a quiet step is a silent one
  quiet_silent : (y : ThreadView) (b : CoreState) → StillRuns g r y.core → QuietStep (home g r) r.thread y.core b →
      IsSilentStep g r y (after g r y b)
  quiet_silent y b on step =
      let th' : Thread = record step.thread { pc = step.after.pc; regs = step.after.regs } in
      let others : (u : ℕ) → u ≢ r.thread → slice_get b.threads u ≡ slice_get y.core.threads u = λ u ne.
      ap (λ (c : CoreState). slice_get c.threads u) step.left ∙ get_set_other y.core.threads r.thread u th' ne in
      record {
        made = step.made;
        world = refl;
        roots = ap (λ (c : CoreState). c.roots) step.left;
        channel_ends = ap (λ (c : CoreState). c.ends) step.left;
        guarantee = record {
          clock = ap (λ (c : CoreState). c.clock) step.left;
          others = λ u ne not_held. others u ne;
          as_many = ap (λ (c : CoreState). length c.threads) step.left ∙ length-set y.core.threads r.thread th';
          words = λ w not_mine. ap (λ (c : CoreState). slice_get c.words w) step.left ∙ step.words w tt;
          sizes = same_sizes (home g r) y.core r.thread b step.made;
          resources = others_same _ _ _ _ (ap (λ (c : CoreState). c.ports) step.left) (ap (λ (c : CoreState). c.timers) step.left)
              (ap (λ (c : CoreState). c.events) step.left);
        };
        hand = keeps refl (ap (λ (c : CoreState). c.syncs) step.left) (same_use g r y (after g r y b) others);
        was = on;
        on = runs_still g r y.core b step.thread step.after.pc step.after.regs on step.here (ap (λ (c : CoreState). c.threads) step.left);
      }

  -- quiet steps are silent, so where they lead the runner comes, with what it had in hand
  pub quiet_leads : (Q : CoreState → Type 0) (hand : Option Acquired) (k : ℕ) (z : ThreadView) → z.hand ≡ hand → Owns r z.hand n →
      StillRuns g r z.core → Leads (KeptSync (relied g r) r.thread n) (QuietStep (home g r) r.thread) Q k z.core →
      LeadsIn g r (λ x. Q x.core × (x.hand ≡ hand)) k z
  quiet_leads Q hand zero z is owns on way = (way, is)
  quiet_leads Q hand (suc k) z is owns on way =
      ⊎_elim
      (λ (here : Q z.core). inl (here, is))
      (λ further. inr (λ y kept.
      let s = further y.core (sync_kept z y owns kept) in
      let on' : StillRuns g r y.core = record { thread = on.thread; there = kept.thread ∙ on.there; runs = on.runs; tied = on.tied; no_events = on.no_events } in
      let owns' : Owns r y.hand n = subst (λ h. Owns r h n) (sym kept.hand) owns in
      let silent = quiet_silent y s.0 on' s.1 in
      (after g r y s.0, silent, quiet_leads Q hand k (after g r y s.0) (kept.hand ∙ is) owns' silent.on s.2)))
      way

module _ (g : Setting) (r : Runner) (p : Parent) (ps : List Parent) (n j : ℕ) (regs : Regs) (exits : List Exit) (parents : r.parents ≡ p ∷ ps) (sync : p.sync ≡ Some n) (outer : length (syncs_of ps) ≤ 6) (bases : HasBases g r regs) where
  -- the innermost synchroniser is the first one
  first_sync : syncs_of r.parents ≡ n ∷ syncs_of ps
  first_sync = ap syncs_of parents ∙ ap (λ o. sync_before o (syncs_of ps)) sync

  joins_at : (pc closed : ℕ) (old : List ℕ) (place : Pos) (y : ThreadView) →
      ItemsAt (plan g r) (code g r) p.sides (EndAt (plan g r) (code g r) r.tie ps) p.items exits closed j →
      closing.Joins (home g r) (relied g r) r.thread n (running r.tie pc regs) old place closed y.core → y.hand ≡ None → JoinsAt g r p ps j y
  joins_at pc closed old place y behind h no_hand = record {
    sync = n;
    sync_is = sync;
    no_hand = no_hand;
    pc = h.index;
    regs = h.regs;
    exits = exits;
    here = h.here;
    bases = record {
      base = h.others Dp refl ∙ bases.base;
      stack = h.others Sp refl ∙ bases.stack;
      names = names_back r.core n (syncs_of ps) regs h.regs outer h.outer (subst (λ syncs. HoldsNames r.core syncs regs) first_sync bases.names);
    };
    at_code = subst (λ q. ItemsAt (plan g r) (code g r) p.sides (EndAt (plan g r) (code g r) r.tie ps) p.items exits q j) (sym h.next) behind;
    pauses = h.waits;
    joins = h.joins;
    frees = h.frees;
  }

pub closes_leads : (g : Setting) (r : Runner) (p : Parent) (ps : List Parent) (n j pc closed : ℕ) (z : ThreadView) (regs : Regs)
    (exits : List Exit) →
    r.parents ≡ p ∷ ps → p.sync ≡ Some n → n < 8 → length (syncs_of ps) ≤ 6 → slice_get z.core.syncs n ≡ Some true →
    IsAt g r z pc regs → HasBases g r regs → ClosesAt (code g r) (plan g r) pc closed →
    ItemsAt (plan g r) (code g r) p.sides (EndAt (plan g r) (code g r) r.tie ps) p.items exits closed j → z.hand ≡ None → LeadsIn g r (Joins g r p ps j) 7 z
closes_leads g r p ps n j pc closed z regs exits parents sync few outer taken here bases closes behind no_hand =
    let first = first_sync g r p ps n j regs exits parents sync outer bases in
    let owned : (hand : Option Acquired) → Owns r hand n = λ hand. inl (subst (λ syncs. IsAmong syncs n) (sym first) (inl refl)) in
    let name : regs.r1 ≡ sync_name r.core n = bases.names.by 0 n (ap (λ syncs. slice_get syncs 0) first) (omega arith) in
    let at_end = pc + length closes.lines in
    let Q : CoreState → Type 0 = λ b.
    (c : CoreState) → KeptSync (relied g r) r.thread n b c → closing.Joins (home g r) (relied g r) r.thread n (running r.tie pc regs) z.core.words closes.place at_end c in
    let way = closes.closes.by (home g r) (relied g r) r.thread n (running r.tie pc regs) z.core few name taken closes.stand (runs_at g r z pc regs here) in
    let behind' = subst (λ q. ItemsAt (plan g r) (code g r) p.sides (EndAt (plan g r) (code g r) r.tie ps) p.items exits q j) closes.end behind in
    leads_as g r (λ x. Q x.core × (x.hand ≡ None)) (Joins g r p ps j) 7 z
    (λ x h y k. joins_at g r p ps n j regs exits parents sync outer bases pc at_end z.core.words closes.place y behind' (h.0 y.core (sync_kept g r n x y (owned x.hand) k)) (k.hand ∙ h.1))
    (quiet_leads g r n Q None 7 z no_hand (owned z.hand) (at_runs g r z pc regs here) way)
