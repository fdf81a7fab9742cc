-- All words of a variable become 0; until the last one is, they are the thread's own business.
use Rattle.std.proofs.Common.{◌≡◌, ℕ, eq-eqb, ◌+◌, ◌-◌, ◌*◌, ◌≤◌, true, false, List, ◌∷◌, map, None, refl, sym, ◌∙◌, subst, arith}
use Rattle.std.specs.Prelude.{◌/◌, slice_set, nat_eq}
use Rattle.std.proofs.lemmas.List.{length-set}
use Rattle.xs_instr.specs.declared.state.CoreState.{CoreState}
use Rattle.xs_instr.specs.declared.state.Regs.{Regs}
use Rattle.xs_instr.specs.Memory.{address_at, word_put}
use Rattle.xs_instr.specs.OwnSteps as own
use Rattle.xs_instr.specs.OwnSteps.{Within}
use Rattle.xc_kernel.specs.Plain as kernel
use Rattle.xc_kernel.specs.Eval.{words_of}
use Rattle.xc_meaning.specs.States.Items.{Item, does}
use Rattle.xc_meaning.specs.States.Worlds.{go, with_zeros, zero_for}
use Rattle.xl_expr.proofs.Lists.{get_set_same, get_set_other}
use Rattle.xl_expr.proofs.ResourceParts.{others_same}
use Rattle.xl_flow.specs.Zeros.{IsOutside, WritesLast}
use Rattle.xl_statements.specs.Pieces.{Exit}
use Rattle.xr_simulation.specs.Fits.{IsChanged, ItemsFit}
use Rattle.xr_simulation.specs.Runners.{Setting, Runner, IsLaidOut, home, relied}
use Rattle.xr_simulation.specs.ThreadViews.{ThreadView, running}
use Rattle.xr_simulation.specs.NextStep as turn
use Rattle.xr_simulation.specs.NextStep.{Goes, Has, HasBases, ItemsFrom, Runs, StatementLeads, StableNextStep, cost, first_changes, own_go}
use Rattle.xr_simulation.proofs.RelyGuarantee.Arrival.{Since, any_part, arrives, at_runs, core_kept, ports_since, since_kept}
use Rattle.xr_simulation.proofs.Image.Bases.{bases_worked}
use Rattle.xr_simulation.proofs.ItemCode.Evaluations.{item_acts, runs_with, with_items}
use Rattle.xr_simulation.proofs.RelyGuarantee.Layouts.{ports_last, runs_at, runs_kept}
use Rattle.xr_simulation.proofs.Relation.Sizes.{words_sized}
use Rattle.xr_simulation.proofs.RelyGuarantee.ThreadViews.{leads_as, leads_more}
use Rattle.xr_simulation.proofs.RelyGuarantee.Stands.{items_stand}
use Rattle.xr_simulation.proofs.RelyGuarantee.Events.{here_at, items_unwatched}
use Rattle.xr_simulation.proofs.RelyGuarantee.Variables.{all_set, base, planned, room, safe, stands_from, words_other, words_stand, zero_holds}

module _ (g : Setting) (r : Runner) (v : ℕ) (laid : IsLaidOut g r) (is : IsChanged g r v) (rest : List Item) (z : ThreadView) (k : ℕ)
    (is_k : is.found.words ≡ k + 1) where
  abbrev from : ℕ
  from = base g r v laid is

  module _ (exits : List Exit) (j : ℕ) (pc' : ℕ) (regs : Regs) (bases : HasBases g r regs) (no_hand : z.hand ≡ None)
      (behind : ItemsFrom g r rest exits pc' j) (fits : ItemsFit g r rest) (has : Has g r (does (kernel.set_zero v) ∷ rest) z) where
    -- the last store is the branch's step
    last_goes : (tie_pc : ℕ) (x : ThreadView) → Since g r (IsOutside from (k + 1)) any_part z x →
        WritesLast (home g r) (relied g r) r.thread (running r.tie tie_pc regs) z.core.words from k pc' x.core → Goes g r j x
    last_goes tie_pc x since w =
        let branch = has.branch in
        let runs : Runs x.world r.branch branch (does (kernel.set_zero v) ∷ rest) =
        runs_kept g r z x branch (does (kernel.set_zero v) ∷ rest) since.branch has.runs in
        let old = running r.tie w.index w.regs in
        let new = running r.tie pc' w.regs in
        let words = word_put x.core.words (address_at from k) 0 in
        let left : CoreState = record x.core { threads = slice_set x.core.threads r.thread new; words = words } in
        let world = with_zeros (with_items x.world r.branch branch rest) v in
        let y : ThreadView = record { core = left; world = world; hand = None } in
        let next = runs_with x.world r.branch branch (does (kernel.set_zero v) ∷ rest) rest runs in
        record {
          left = left;
          made = None;
          made_is = w.made;
          guarantee = record {
            clock = refl;
            others = λ u ne not_held. get_set_other x.core.threads r.thread u new ne;
            as_many = length-set x.core.threads r.thread new;
            words = λ n not_mine. get_set_other x.core.words (address_at from k / 4) n 0
                (λ e. safe g r v laid is (k + 1) is_k n not_mine k (omega arith) e);
            sizes = words_sized x.core left (length-set x.core.words (address_at from k / 4) 0) refl refl refl;
            resources = others_same _ _ _ _ refl refl refl;
          };
          roots = refl;
          syncs = refl;
          channel_ends = refl;
          no_hand = since.hand ∙ no_hand;
          items = rest;
          acts = record {
            branch = branch;
            known = runs.known;
            mode = runs.running;
            core = has.core;
            world = world;
            action = go r.branch;
            own = own_go;
            acted = item_acts g.program g.stimulus r.branch x.world branch (does (kernel.set_zero v)) rest runs;
            is_next = record {
              clocks = refl;
              branches = refl;
              store = λ u unchanged. words_other x.world.store v u (map zero_for (words_of x.world.store v))
                  (λ e. differs u (subst (λ these. first_changes these u ≡ false) runs.items_are unchanged) e);
              trace = refl;
            };
            inboxes = refl;
          };
          jumps = j;
          fewer = omega arith;
          rest = record {
            pc = pc';
            regs = w.regs;
            here = here_at rest (items_unwatched g r rest exits pc' j behind) (get_set_same x.core.threads r.thread old new w.here);
            bases = bases_worked g r regs w.regs w.others bases;
            stands = items_stand g r rest exits pc' j w.regs left behind;
            fits = fits;
            has = record {
              branch = record branch { items = rest };
              runs = record { known = next.known; running = next.running; items_are = refl };
              core = has.core;
              holds = record {
                holds = zero_holds g r v laid is z k is_k x since w.zeros w.there has.holds;
                room = room g r v laid is z k is_k x since w.zeros w.there has.holds;
              };
              ports = ports_last g r z y (λ p listed is_port. ports_since g r (IsOutside from (k + 1)) any_part z x since p listed
                  is_port tt) has.ports;
            };
          };
        }
      where
        differs : (u : ℕ) → nat_eq u v ≡ false → u ≡ v → ⊥
        differs u unchanged e = let h : true ≡ false = sym (eq-eqb u v e) ∙ unchanged in cc

-- From the code that sets a variable's words to 0 the thread comes to the last store.
module _ (g : Setting) (r : Runner) where
  pub zero_leads : (v : ℕ) → StatementLeads g r (kernel.set_zero v)
  zero_leads v rest exits pc pc' j z regs laid code (is, counted) sided behind fits has sized here bases no_hand =
      leads_more g r (StableNextStep g r j) (2 * (k + 1) + 1) (cost g r) z few
      (leads_as g r (λ y. AtLast y.core × Since g r (IsOutside (base g r v laid is) (k + 1)) any_part z y) (StableNextStep g r j) (2 * (k + 1) + 1) z
      (λ y h x kept. turn.goes_on (last_goes g r v laid is rest z k is_k exits j pc' regs bases no_hand behind fits has pc x
      (since_kept g r (IsOutside (base g r v laid is) (k + 1)) any_part h.1 kept) (h.0 x.core (core_kept g r kept))))
      (arrives g r (IsOutside (base g r v laid is) (k + 1)) (safe g r v laid is (k + 1) is_k) AtLast (2 * (k + 1) + 1) z (at_runs g r z pc regs here) way))
    where
      k : ℕ
      k = is.found.words - 1

      is_k : is.found.words ≡ k + 1
      is_k = let some = is.some in omega arith

      AtLast : CoreState → Type 0
      AtLast b = (c : CoreState) → own.Kept (relied g r) r.thread b c → WritesLast (home g r) (relied g r) r.thread (running r.tie pc regs) z.core.words (base g r v laid is) k pc' c

      few : 2 * (k + 1) + 1 ≤ cost g r
      few = let w = is.words in let e = is_k in omega (arith, counted)

      way : Within (home g r) (relied g r) (IsOutside (base g r v laid is) (k + 1)) r.thread AtLast (2 * (k + 1) + 1) z.core
      way =
          let b = base g r v laid is in
          subst (λ q. Within (home g r) (relied g r) (IsOutside b (k + 1)) r.thread (λ d. (c : CoreState) → own.Kept (relied g r) r.thread d c → WritesLast (home g r) (relied g r) r.thread (running r.tie pc regs) z.core.words b k q c) (2 * (k + 1) + 1) z.core) (sym code.end)
          (code.so.last is.found k (planned g r v laid is) (all_set g r v laid is ∙ is_k) (home g r) (relied g r) r.thread b
          (running r.tie pc regs) z.core code.stand (runs_at g r z pc regs here) (stands_from g r v laid is z.core.words regs bases)
          (words_stand g r v laid is (k + 1) is_k z has.holds))
