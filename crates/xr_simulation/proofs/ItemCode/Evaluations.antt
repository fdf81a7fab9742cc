-- Values that a branch's items have next: they stay while others act, they cost so many steps, and where one is an error the branch errs.
use Rattle.std.proofs.Common.{◌≡◌, ℕ, true, Bool, List, [], ◌∷◌, ◌++◌, length, Option, Some, None, refl, ap, ◌∙◌, arith}
use Rattle.std.specs.Prelude.{slice_set, slice_index}
use Rattle.xw_words.specs.declared.pos.Pos.{Pos}
use Rattle.xs_instr.specs.declared.image.Stim.{Stim}
use Rattle.xs_instr.specs.declared.trace.Record.TheVariants.{Fault}
use Rattle.xs_instr.specs.declared.trace.Trap.{Trap}
use Rattle.xs_instr.specs.Machine.{and_then}
use Rattle.xc_kernel.specs.Plain as kernel
use Rattle.xc_kernel.specs.Operators.{operator_at}
use Rattle.xc_kernel.specs.Values.{word, ErrorKind, arithmetic, index, applied}
use Rattle.xc_kernel.specs.Eval.{Store, eval, eval_all, eval_place, element_at, words_of}
use Rattle.xc_meaning.specs.Counts.KernelCounts.{of_expression, of_operands, of_place}
use Rattle.xc_meaning.specs.States.Items.{Item}
use Rattle.xc_meaning.specs.States.Branches.{Branch}
use Rattle.xc_meaning.specs.States.Worlds.{World, go}
use Rattle.xc_meaning.specs.Settings.Setting.{errs, kind_of}
use Rattle.xc_meaning.specs.Runs.{acts, does_item, does_first, goes, goes_by, step_of}
use Rattle.xl_expr.specs.Frames.{HasVars, HaveVars, HasPlace}
use Rattle.xl_expr.specs.Measures.{nodes, nodes_of, nodes_at}
use Rattle.xl_expr.specs.declared.plan.VarPlan.{VarPlan}
use Rattle.xl_expr.specs.Stores.{index_in, tested_value}
use Rattle.xl_expr.specs.Works as works
use Rattle.xl_expr.specs.Works.{trap_of}
use Rattle.xl_expr.proofs.Lists.{get_set_same}
use Rattle.xr_simulation.specs.Runners.{Setting, Runner, home}
use Rattle.xr_simulation.specs.ThreadViews.{ThreadView}
use Rattle.xr_simulation.specs.NextStep.{Runs, Acts, Errs, Has, failed, own_go}

-- an expression costs what it counts
mutual
  pub nodes_are : (x : kernel.Expression) → nodes x ≡ of_expression x
  nodes_are (kernel.number v) = refl
  nodes_are (kernel.read p) = nodes_at_are p
  nodes_are (kernel.operation o u es pos) = let e = nodes_of_are es in omega arith

  -- so do operands
  nodes_of_are : (es : kernel.Operands) → nodes_of es ≡ of_operands es
  nodes_of_are kernel.no_operand = refl
  nodes_of_are (kernel.more_operands e es) = let a = nodes_are e in let b = nodes_of_are es in omega arith

  -- and a place
  pub nodes_at_are : (p : kernel.Place) → nodes_at p ≡ of_place p
  nodes_at_are (kernel.word v) = refl
  nodes_at_are (kernel.element v i pos) = let e = nodes_are i in omega arith

-- a value is the same where the words of the variables are that the thread uses
module _ (vars : List (Option VarPlan)) (uses : ℕ → Bool) (old new : Store) (same : (v : ℕ) → uses v ≡ true → words_of new v ≡ words_of old v) where
  mutual
    pub eval_still : (x : kernel.Expression) → HasVars vars uses x → eval new x ≡ eval old x
    eval_still (kernel.number v) h = refl
    eval_still (kernel.read p) h = place_still p h
    eval_still (kernel.operation o u es pos) h = ap (applied (operator_at o) u pos) (all_still es h)

    -- the same of operands
    all_still : (es : kernel.Operands) → HaveVars vars uses es → eval_all new es ≡ eval_all old es
    all_still kernel.no_operand h = refl
    all_still (kernel.more_operands e es) h = ap (λ v. v ∷ eval_all new es) (eval_still e h.0) ∙ ap (λ vs. eval old e ∷ vs) (all_still es h.1)

    -- and of what stands at a place
    place_still : (p : kernel.Place) → HasPlace vars uses p → eval_place new p ≡ eval_place old p
    place_still (kernel.word v) h = ap (λ l. word (slice_index l 0)) (same v h.3)
    place_still (kernel.element v i pos) h =
        ap (λ l. element_at l pos (eval new i)) (same v h.1.2) ∙ ap (element_at (words_of old v) pos) (eval_still i h.0)

  -- and so is the index of a place
  pub index_still : (p : kernel.Place) → HasPlace vars uses p → index_in new p ≡ index_in old p
  index_still (kernel.word v) h = refl
  index_still (kernel.element v i pos) h =
      ap (λ l. tested_value (length l) pos (eval new i)) (same v h.1.2)
      ∙ ap (tested_value (length (words_of old v)) pos) (eval_still i h.0)

-- a branch has other items
abbrev pub with_items : World → (branch : ℕ) → Branch → List Item → World
with_items x b branch items = record x { branches = slice_set x.branches b (record branch { items = items }) }

-- a branch that has other items left runs with them
pub runs_with : (x : World) (b : ℕ) (branch : Branch) (items other : List Item) → Runs x b branch items → Runs (with_items x b branch other) b (record branch { items = other }) other
runs_with x b branch items other h = record {
  known = get_set_same x.branches b branch (record branch { items = other }) h.known;
  running = h.running;
  items_are = refl;
}

-- a running branch's act is the step of its first item
pub item_acts : (K : kernel.Kernel) (s : Stim) (b : ℕ) (x : World) (branch : Branch) (i : Item) (rest : List Item) → Runs x b branch (i ∷ rest) → acts K s x (go b) ≡ does_item (step_of K s x b branch rest) i
item_acts K s b x branch i rest h =
    ap (λ o. and_then o (goes K s x b)) h.known
    ∙ ap (goes_by K s x b branch) h.running
    ∙ ap (does_first K s x b branch does_item) h.items_are

-- an error is the same trap on both sides
pub kinds_agree : (kind : ErrorKind) → kind_of kind ≡ trap_of kind
kinds_agree arithmetic = refl
kinds_agree index = refl

module _ (g : Setting) (r : Runner) where
  -- the branch errs at its first item
  abbrev pub err_acts : (x : World) (branch : Branch) (i : Item) (rest : List Item) (kind : Trap) (pos : Pos) → Runs x r.branch branch (i ∷ rest) → branch.core ≡ r.core → does_item (step_of g.program g.stimulus x r.branch branch rest) i ≡ errs (step_of g.program g.stimulus x r.branch branch rest) kind pos → Acts g r x failed (Some (Fault r.core pos kind))
  err_acts x branch i rest kind pos runs core erred = record {
    branch = branch;
    known = runs.known;
    mode = runs.running;
    core = core;
    world = record x { branches = slice_set x.branches r.branch (failed branch); trace = x.trace ++ Fault r.core pos kind ∷ [] };
    action = go r.branch;
    own = own_go;
    acted =
        item_acts g.program g.stimulus r.branch x branch i rest runs
        ∙ erred
        ∙ ap (λ (c : ℕ). Some (record x { branches = slice_set x.branches r.branch (failed branch); trace = x.trace ++ Fault c pos kind ∷ [] })) core;
    is_next = record { clocks = refl; branches = refl; store = λ v c. refl; trace = refl };
    inboxes = refl;
  }

  -- where the thread's next step traps with the error that the branch's first item has, both err
  pub value_errs : (y : ThreadView) (i : Item) (rest : List Item) (kind : ErrorKind) (pos : Pos) →
      works.Errs (home g r) r.thread kind pos y.core → (has : Has g r (i ∷ rest) y) → y.hand ≡ None →
      does_item (step_of g.program g.stimulus y.world r.branch has.branch rest) i ≡ errs
      (step_of g.program g.stimulus y.world r.branch has.branch rest) (kind_of kind) pos → Errs g r y
  value_errs y i rest kind pos traps has no_hand erred =
      let st = step_of g.program g.stimulus y.world r.branch has.branch rest in
      record {
        kind = trap_of kind;
        pos = pos;
        traps = traps.traps;
        fault = traps.record_is;
        holds = has.holds;
        ports = has.ports;
        no_hand = no_hand;
        store = refl;
        acts = err_acts y.world has.branch i rest (trap_of kind) pos has.runs has.core (erred ∙ ap (λ k. errs st k pos) (kinds_agree kind));
      }
