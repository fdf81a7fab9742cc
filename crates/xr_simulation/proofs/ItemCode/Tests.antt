-- The tests of `if` and of a loop: from their code the thread comes to the branching instruction.
use Rattle.std.proofs.Common.{◌≡◌, ℕ, ◌+◌, ◌*◌, ◌≤◌, Bool, true, false, List, ◌∷◌, Some, None, refl, ap, ◌∙◌, subst, arith}
use Rattle.std.specs.Prelude.{not, length, nat_eq}
use Rattle.xs_instr.specs.declared.state.Regs.{Regs}
use Rattle.xs_instr.specs.OwnSteps.{IsApart}
use Rattle.xc_kernel.specs.Plain as kernel
use Rattle.xc_kernel.specs.Values.{Value, word, error}
use Rattle.xc_kernel.specs.Eval.{eval}
use Rattle.xc_meaning.specs.Counts.KernelCounts.{of_expression}
use Rattle.xc_meaning.specs.Settings.Flow.{chooses_side, items_by, tests, turn_items}
use Rattle.xc_meaning.specs.Settings.Kernel.{does_statement}
use Rattle.xc_meaning.specs.States.Branches.{Branch}
use Rattle.xc_meaning.specs.States.Items.{Item, does, todo}
use Rattle.xc_meaning.specs.States.Worlds.{World, go}
use Rattle.xc_meaning.specs.Runs.{acts, step_of}
use Rattle.xl_expr.specs.Measures.{nodes}
use Rattle.xl_expr.specs.Works.{steps_before}
use Rattle.xl_flow.specs.Flow.{Branches, TestOutcome, chosen}
use Rattle.xl_statements.specs.Pieces.{Exit, TestAt}
use Rattle.xr_simulation.specs.Fits.{ItemsFit, Uses, greatest}
use Rattle.xr_simulation.specs.Runners.{Setting, Runner, IsLaidOut, code, home, plan, relied}
use Rattle.xr_simulation.specs.ThreadViews.{ThreadView, running}
use Rattle.xr_simulation.specs.NextStep as turn
use Rattle.xr_simulation.specs.NextStep.{EndOf, StatementLeads, IsAt, ItemsFrom, HasBases, Has, Runs, Goes, StableNextStep, Leads, cost}
use Rattle.xr_simulation.proofs.RelyGuarantee.ThreadViews.{leads_as, leads_more}
use Rattle.xr_simulation.proofs.RelyGuarantee.Arrival.{Since, at_runs, any_part, since_kept, core_kept, apart_of_changes, arrives}
use Rattle.xr_simulation.proofs.RelyGuarantee.Layouts.{has_since, room_of, runs_at, laid_at}
use Rattle.xr_simulation.proofs.Image.Bases.{bases_scratched}
use Rattle.xr_simulation.proofs.ItemCode.Evaluations.{nodes_are, eval_still, item_acts, value_errs, with_items}
use Rattle.xr_simulation.proofs.OwnSteps.Turns.{MakesOwn, spot_goes}
use Rattle.xr_simulation.proofs.ItemCode.Items.{behind_jumps, pieces_before, all_fit}

-- the step that traps is one of those that are counted
pub before_few : (v : Value) (most : ℕ) → steps_before v most ≤ most
before_few (word v) most = omega arith
before_few (error kind pos) most = omega arith

-- A statement that tests an expression, and goes on with the items of one of two sides.
module _ (g : Setting) (r : Runner) (laid : IsLaidOut g r) (t : kernel.Statement) (rest : List Item) (x : kernel.Expression) (uses : Uses g r x) (held other : List Item) (begins : (w : World) (branch : Branch) → does_statement (step_of g.program g.stimulus w r.branch branch rest) t ≡ tests (step_of g.program g.stimulus w r.branch branch rest) x held other) (exits : List Exit) (pc next target n m j : ℕ) (at_held : ItemsFrom g r held exits next n) (held_fits : ItemsFit g r held) (few_held : n ≤ j + 1) (at_other : ItemsFrom g r other exits target m) (other_fits : ItemsFit g r other) (few_other : m ≤ j + 1) where
  -- the branch's action, by the expression's value
  test_acts : (w : World) (branch : Branch) (v : Value) → Runs w r.branch branch (does t ∷ rest) → eval w.store x ≡ v → acts g.program g.stimulus w (go r.branch) ≡ chooses_side (step_of g.program g.stimulus w r.branch branch rest) v held other
  test_acts w branch v runs is =
      let st = step_of g.program g.stimulus w r.branch branch rest in
      item_acts g.program g.stimulus r.branch w branch (does t) rest runs ∙ begins w branch ∙ ap (λ o. chooses_side st o held other) is

  -- at the branching instruction, with the expression's word known
  test_goes : (z q : ThreadView) (regs : Regs) (v : ℕ) → HasBases g r regs → q.hand ≡ None → (has : Has g r (does t ∷ rest) q) →
      eval q.world.store x ≡ word v →
      Branches (home g r) (relied g r) r.stack r.thread (running r.tie pc regs) z.core.words (chosen target next (nat_eq v 0))
      q.core → Goes g r j q
  test_goes z q regs v bases no_hand has is b = by (nat_eq v 0) refl
    where
      bases' : HasBases g r b.regs
      bases' = bases_scratched g r regs b.regs b.others bases

      acted : (zero : Bool) → nat_eq v 0 ≡ zero → acts g.program g.stimulus q.world (go r.branch) ≡ Some (with_items q.world r.branch has.branch (items_by (not zero) held other))
      acted zero e = test_acts q.world has.branch (word v) has.runs is ∙ ap (λ z'. Some (with_items q.world r.branch has.branch (items_by (not z') held other))) e

      made : (zero : Bool) → nat_eq v 0 ≡ zero → MakesOwn g r q (chosen target next zero) b.regs q.core.words
      made zero e = subst (λ z'. MakesOwn g r q (chosen target next z') b.regs q.core.words) e (record { index = b.index; here = b.here; made = b.made; others = λ w not_mine. refl; size = refl })

      by : (zero : Bool) → nat_eq v 0 ≡ zero → Goes g r j q
      by true e = spot_goes g r j q target b.regs (made true e) bases' no_hand (does t) rest other has (acted true e) exits m at_other other_fits few_other
      by false e = spot_goes g r j q next b.regs (made false e) bases' no_hand (does t) rest held has (acted false e) exits n at_held held_fits few_held

  -- where the code of the test has come, the turn is next
  test_turns : (z : ThreadView) (regs : Regs) → HasBases g r regs → z.hand ≡ None → Has g r (does t ∷ rest) z → (v : Value) →
      eval z.world.store x ≡ v → (y : ThreadView) →
      TestOutcome (home g r) (relied g r) r.stack r.thread (running r.tie pc regs) z.core.words target next v y.core →
      Since g r (IsApart r.stack) any_part z y → StableNextStep g r j y
  test_turns z regs bases no_hand has (word v) is y outcome since q k =
      let b = outcome q.core (core_kept g r k) in
      let since' = since_kept g r (IsApart r.stack) any_part since k in
      turn.goes_on (test_goes z q regs v bases (since'.hand ∙ no_hand) (has_since g r laid (does t ∷ rest) z q since' b.within has)
      (eval_still (plan g r).vars r.footprint.uses z.world.store q.world.store since'.store x uses ∙ is) b)
  test_turns z regs bases no_hand has (error kind pos) is y outcome since q k =
      let since' = since_kept g r (IsApart r.stack) any_part since k in
      let has_q = has_since g r laid (does t ∷ rest) z q since' (since'.room has.holds.room) has in
      let is_q = eval_still (plan g r).vars r.footprint.uses z.world.store q.world.store since'.store x uses ∙ is in
      let st = step_of g.program g.stimulus q.world r.branch has_q.branch rest in
      turn.errs (value_errs g r q (does t) rest kind pos (outcome q.core (core_kept g r k)) has_q (since'.hand ∙ no_hand) (begins q.world has_q.branch ∙ ap (λ o. chooses_side st o held other) is_q))

-- from its code to the branching instruction
pub test_leads : (g : Setting) (r : Runner) → IsLaidOut g r → (t : kernel.Statement) (rest : List Item) (x : kernel.Expression) → Uses g r x → of_expression x ≤ greatest g r → (held other : List Item) →
    ((w : World) (branch : Branch) → does_statement (step_of g.program g.stimulus w r.branch branch rest) t ≡ tests (step_of g.program g.stimulus w r.branch branch rest) x held other) →
    (exits : List Exit) (pc next target n m j : ℕ) → TestAt (code g r) (plan g r) x pc next target →
    ItemsFrom g r held exits next n → ItemsFit g r held → n ≤ j + 1 → ItemsFrom g r other exits target m → ItemsFit g r other → m ≤ j + 1 →
    (z : ThreadView) (regs : Regs) → Has g r (does t ∷ rest) z → IsAt g r z pc regs → HasBases g r regs → z.hand ≡ None →
    Leads g r (cost g r) j z
test_leads g r laid t rest x uses counted held other begins exits pc next target n m j test at_held held_fits few_held at_other other_fits few_other z regs has here bases no_hand =
    let behind = pc + length test.lines + 1 in
    let v = eval z.world.store x in
    let way = test.tests.by target (home g r) (relied g r) r.stack r.thread (running r.tie pc regs) z.world.store z.core test.stand (runs_at g r z pc regs here) (room_of g r laid z regs bases has.holds) (laid_at g r laid z regs x uses bases has.holds) in
    let outcome = TestOutcome (home g r) (relied g r) r.stack r.thread (running r.tie pc regs) z.core.words target behind v in
    let most = steps_before v (8 * nodes x) in
    let at_held' = subst (λ p. ItemsFrom g r held exits p n) test.end at_held in
    let le : most ≤ cost g r = let a = before_few v (8 * nodes x) in let e = nodes_are x in omega arith in
    leads_more g r (StableNextStep g r j) most (cost g r) z le
    (leads_as g r (λ y. outcome y.core × Since g r (IsApart r.stack) any_part z y) (StableNextStep g r j) most z
    (λ y h. test_turns g r laid t rest x uses held other begins exits pc behind target n m j at_held' held_fits few_held at_other other_fits few_other z regs bases no_hand has v refl y h.0 h.1)
    (arrives g r (IsApart r.stack) (apart_of_changes g r) outcome most z (at_runs g r z pc regs here) way))

module _ (g : Setting) (r : Runner) where
  -- at most one jump leads from the first side past the second
  pub if_leads : (x : kernel.Expression) (a b : kernel.Statements) → StatementLeads g r (kernel.if_then x a b)
  if_leads x a b rest exits pc pc' j z regs laid (first, second, done, n, test, at_a, jumps, few, at_b) (uses, fits_a, fits_b, counted)
      sided behind rest_fits has sized here bases no_hand =
      let at_done = behind_jumps (plan g r) (code g r) r.sides (EndOf g r) rest exits n done pc' j jumps behind in
      let held = pieces_before (plan g r) (code g r) r.sides (EndOf g r) a rest exits first done (n + j) at_a at_done in
      let other = pieces_before (plan g r) (code g r) r.sides (EndOf g r) b rest exits second pc' j at_b behind in
      test_leads g r laid (kernel.if_then x a b) rest x uses counted (todo a rest) (todo b rest) (λ w branch. refl) exits pc first second (n + j) j j test held (all_fit g r a rest fits_a rest_fits) (omega arith) other (all_fit g r b rest fits_b rest_fits) (omega arith) z regs has here bases no_hand

  -- behind a turn the loop comes again at the same index
  pub loop_leads : (x : kernel.Expression) (a b : kernel.Statements) → StatementLeads g r (kernel.loop x a b)
  loop_leads x a b rest exits pc pc' j z regs laid (body, next, done, test, at_a, at_b, jumps) (uses, fits_a, fits_b, counted)
      sided behind rest_fits has sized here bases no_hand =
      let t = kernel.loop x a b in
      let again : ItemsFrom g r (does t ∷ rest) exits pc j = record { index = pc; here = 0; further = j; jumps = refl; sum = omega arith; stands = (pc', (body, next, done, test, at_a, at_b, jumps), behind) } in
      let again_fits : ItemsFit g r (does t ∷ rest) = ((uses, fits_a, fits_b, counted), rest_fits) in
      let at_done = behind_jumps (plan g r) (code g r) r.sides (EndOf g r) (does t ∷ rest) exits 1 done pc j jumps again in
      let at_next = pieces_before (plan g r) (code g r) r.sides (EndOf g r) b (does t ∷ rest) exits next done (1 + j) at_b at_done in
      let held = pieces_before (plan g r) (code g r) r.sides (EndOf g r) a (todo b (does t ∷ rest)) exits body next (1 + j) at_a at_next in
      let held_fits = all_fit g r a (todo b (does t ∷ rest)) fits_a (all_fit g r b (does t ∷ rest) fits_b again_fits) in
      test_leads g r laid t rest x uses counted (turn_items x a b rest) rest (λ w branch. refl) exits pc body pc' (1 + j) j j test held held_fits (omega arith) behind rest_fits (omega arith) z regs has here bases no_hand
