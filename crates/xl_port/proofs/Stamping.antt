-- The store of a port's counter: name, counter and store, one after another.
use Rattle.std.proofs.Common.{◌≡◌, ℕ, suc, ◌+◌, ◌-◌, ◌*◌, Bool, false, List, [], ◌∷◌, ◌++◌, length, Option, refl, sym, ◌∙◌, subst, arith, length-append}
use Rattle.xw_words.specs.declared.pos.Pos.{Pos}
use Rattle.xs_instr.specs.declared.image.Home.{Home}
use Rattle.xs_instr.specs.declared.instr.Instr.TheVariants.{Getts}
use Rattle.xs_instr.specs.declared.instr.Reg.TheVariants.{R0, R11, Dp}
use Rattle.xs_instr.specs.declared.state.CoreState.{CoreState}
use Rattle.xs_instr.specs.declared.state.Mode.TheVariants.{Running}
use Rattle.xs_instr.specs.declared.state.Port.{Port}
use Rattle.xs_instr.specs.declared.state.Regs.{Regs}
use Rattle.xs_instr.specs.declared.state.Thread.{Thread}
use Rattle.xs_instr.specs.Lines.{Line}
use Rattle.xs_instr.specs.OwnSteps.{IsApart, StandAt, Within}
use Rattle.xs_instr.specs.Registers.{reg_set}
use Rattle.xc_kernel.specs.declared.statement.KRes.{KRes}
use Rattle.xc_kernel.specs.Plain as kernel
use Rattle.xc_kernel.specs.Values.{Value, word, error}
use Rattle.xc_kernel.specs.Eval.{Store}
use Rattle.xl_expr.specs.declared.plan.Plan.{Plan}
use Rattle.xl_expr.specs.declared.plan.VarPlan.{VarPlan}
use Rattle.xl_expr.specs.Measures.{nodes_at}
use Rattle.xl_expr.specs.PartSteps.{KeptParts, PartsStep, WithinParts}
use Rattle.xl_expr.specs.Plans.{resource_in}
use Rattle.xl_expr.specs.ResourceParts.{port_alone}
use Rattle.xl_expr.specs.Stores.{IsAddress, StoreOutcome, Stores, Writes, index_in}
use Rattle.xl_expr.specs.Works.{PlaceIsLaid}
use Rattle.xl_expr.proofs.Lasting.{address_lasts, place_lasts}
use Rattle.xl_expr.proofs.Lists.{stand_back, stand_front}
use Rattle.xl_expr.proofs.StoreClause.{some_place}
use Rattle.xl_expr.proofs.Ways.{at_pc}
use Rattle.xl_expr.proofs.Wider.{leads_map, within_leads}
use Rattle.xl_port.specs.Stamps.{Stamps}
use Rattle.xl_port.specs.Waits.{UsesName}
use Rattle.xl_port.proofs.PortRows.{getts_turns, port_is, port_lasts}
use Rattle.xl_port.proofs.Since.{Since, at_first, own_is_parts_step, runs_since, turns_lead, uses_lead}

module _ (home : Home) (relied : ℕ → Bool) (s t p : ℕ) (port : Port) (thread : Thread) (runs : thread.mode ≡ Running)
    (quiet : thread.event_bit ≡ false) (old : List ℕ) (vars : List (Option VarPlan)) (store : Store) (place : kernel.Place) (pc : ℕ)
    (regs : Regs) (b : CoreState) (h : Since home relied (port_alone p) s t thread runs quiet old (port_is p port) pc regs b) where
  dp_same : thread.regs.dp ≡ regs.dp
  dp_same = sym (h.others Dp refl)

  -- the layout of the place is there
  place_laid : PlaceIsLaid vars relied s thread.regs.dp old store place → PlaceIsLaid vars relied s regs.dp b.words store place
  place_laid laid = subst (λ d. PlaceIsLaid vars relied s d b.words store place) dp_same
      (place_lasts vars relied s thread.regs.dp old b.words store h.words place laid)

  -- what is said of the thread there is said of the thread before
  said_before : (v pc' : ℕ) (value : Value) (c : CoreState) →
      StoreOutcome vars home relied s t (at_pc thread pc regs) b.words place v pc' value c →
      StoreOutcome vars home relied s t thread old place v pc' value c
  said_before v pc' (error kind pos) c g = g
  said_before v pc' (word i) c g = (
    g.0,
    subst (λ d. IsAddress vars relied s d old place i g.0) (sym dp_same)
        (address_lasts vars relied s regs.dp b.words old store (λ w r l. sym (h.words w r l)) place i g.0 g.1),
    λ d k.
        let w : Writes home relied s t (at_pc thread pc regs) b.words g.0 v pc' d = g.2 d k in
        record {
          index = w.index;
          regs = w.regs;
          here = w.here;
          others = λ r n. w.others r n ∙ h.others r n;
          within = w.within;
          words = λ n r l. w.words n r l ∙ h.words n r l;
          made = w.made;
        },
  )

  pub store_leads : (pc' : ℕ) (ls : List Line) → pc + length ls ≡ pc' → Stores vars place R0 pc ls → StandAt home.parts.code pc ls →
      PlaceIsLaid vars relied s thread.regs.dp old store place →
      WithinParts home relied (IsApart s) (port_alone p) t
      (StoreOutcome vars home relied s t thread old place regs.r0 pc' (index_in store place)) (8 * nodes_at place - 1) b
  store_leads pc' ls e stores st laid =
      let There : ℕ → CoreState → Type 0 = λ q. StoreOutcome vars home relied s t (at_pc thread pc regs) b.words place regs.r0 q
      (index_in store place) in
      leads_map (KeptParts relied (port_alone p) t) (PartsStep home (IsApart s) (port_alone p) t) (There pc')
      (StoreOutcome vars home relied s t thread old place regs.r0 pc' (index_in store place))
      (λ c g. said_before regs.r0 pc' (index_in store place) c g) (8 * nodes_at place - 1) b
      (within_leads (KeptParts relied (port_alone p) t) (PartsStep home (IsApart s) (port_alone p) t) home relied (IsApart s) t (There pc')
      (λ c d k. k.own) (own_is_parts_step home (IsApart s) (port_alone p) t) (8 * nodes_at place - 1) b
      (subst (λ q. Within home relied (IsApart s) t (There q) (8 * nodes_at place - 1) b) e
      (stores.by home relied s t (at_pc thread pc regs) store b st
      (runs_since home relied (port_alone p) s t thread runs quiet old (port_is p port) pc regs b h) h.room (place_laid laid))))

-- the clause, from those of the parts
pub stamps_by_parts : (plan : Plan) (resource : KRes) (place : kernel.Place) (pos : Pos) (pc : ℕ) (ls ms : List Line) →
    UsesName (resource_in plan.ports plan.timers resource) (Getts R0 R11 ∷ []) pos pc ls → Stores plan.vars place R0 (pc + length ls) ms →
    Stamps plan resource place pc (ls ++ ms)
stamps_by_parts plan resource place pos pc ls ms uses stores = record {
  by = λ home relied s t p port thread store a st at_work room laid stands.
      let end = pc + length (ls ++ ms) in
      let old = a.words in
      let mine = port_alone p in
      let Q : CoreState → Type 0 = StoreOutcome plan.vars home relied s t thread old place port.stamp end (index_in store place) in
      let most = 8 * nodes_at place - 1 in
      let few : 2 + suc most ≡ 8 * nodes_at place + 2 = omega (arith, some_place place) in
      let whole : pc + length ls + length ms ≡ end = omega (arith, length-append ls ms) in
      let lasts = port_lasts relied t p port in
      subst (λ n. WithinParts home relied (IsApart s) mine t Q n a) few
      (uses_lead home relied mine s t thread at_work.runs at_work.no_events old (port_is p port) lasts
      (resource_in plan.ports plan.timers resource) stands.name (Getts R0 R11 ∷ []) pos pc thread.regs ls uses
      (stand_front home.parts.code pc ls ms st) stands.name_is Q (suc most)
      (λ pc1 e1 st1 b h.
      let named = reg_set thread.regs R11 stands.name in
      let regs = reg_set named R0 port.stamp in
      let behind : pc + length ls ≡ pc1 + 1 = omega (arith, e1) in
      turns_lead home relied mine s t thread at_work.runs at_work.no_events old (port_is p port) (port_is p port) pc1 named regs
      (Getts R0 R11) lasts
      (getts_turns home relied s t p thread at_work.runs at_work.no_events old stands.name stands.names pc1 named refl port) st1.0 Q most
      (λ c k. store_leads home relied s t p port thread at_work.runs at_work.no_events old plan.vars store place (pc1 + 1) regs c k end ms
      (omega (arith, behind, whole))
      (subst (λ q. Stores plan.vars place R0 q ms) behind stores)
      (subst (λ q. StandAt home.parts.code q ms) behind (stand_back home.parts.code pc ls ms st)) laid) b h) a
      (at_first home relied mine s t pc thread a (port_is p port) at_work room stands.there));
}
