-- A thread at rest whose first item has no instruction: the program does that item, by one action or two, and the thread stands where it
-- stood, at the code of what is left. By cases.
use Rattle.std.proofs.Common.{◌≡◌, ◌≢◌, ℕ, zero, suc, ◌+◌, ◌<◌, ◌≤◌, ◌++◌, true, false, List, [], ◌∷◌, length, Option, Some, None, inl, ⊎_elim, refl, sym, ap, ◌∙◌, subst, arith}
use Rattle.std.specs.Prelude.{◌||◌, ◌&&◌, slice_get, slice_set}
use Rattle.std.proofs.lemmas.Bool.{or_cases, or_left, or_right}
use Rattle.std.proofs.lemmas.List.{length-set}
use Rattle.xw_words.specs.declared.pos.Pos.{Pos}
use Rattle.xs_instr.specs.declared.state.Regs.{Regs}
use Rattle.xs_instr.specs.Machine.{and_then}
use Rattle.xc_kernel.specs.Plain as kernel
use Rattle.xc_kernel.specs.Things.{Thing, by_statement, by_statements, variable, port}
use Rattle.xc_invariants.specs.Tree.{IsForest}
use Rattle.xc_meaning.specs.Runs.{acts, acts_all, goes, goes_by, step_of}
use Rattle.xc_meaning.specs.Settings.Par.{all_done, is_done, joins}
use Rattle.xc_meaning.specs.Settings.Setting.{becomes}
use Rattle.xc_meaning.specs.Settings.Sides.{sides_in}
use Rattle.xc_meaning.specs.States.Branches.{Branch, runs, waits}
use Rattle.xc_meaning.specs.States.Items.{Item, does, mark, ends, todo}
use Rattle.xc_meaning.specs.States.Worlds.{Action, World, go, only_if}
use Rattle.xc_meaning.specs.Uses.{by_items}
use Rattle.xl_expr.proofs.Lists.{get_set_same, get_set_other}
use Rattle.xl_par.specs.Acquired.{Acquired, IsAmong}
use Rattle.xr_simulation.specs.Fits.{FitOn, ItemsFit}
use Rattle.xr_simulation.specs.Items.{Behind, ClosingAt, EndAt, FirstAt, ItemsAt}
use Rattle.xr_simulation.specs.Parents.{Parent, sync_before, syncs_of}
use Rattle.xl_ends.specs.Ends.{Sides}
use Rattle.xl_statements.specs.Pieces.{ClosesAt, Exit, Jumps, PiecesAt}
use Rattle.xr_simulation.specs.Roles.{ParentWaits, ParentsWait}
use Rattle.xr_simulation.specs.Runners.{HoldsPlaces, Footprint, Setting, Runner, IsPort, code, footprint_of, plan, port_place, shrunk}
use Rattle.xr_simulation.specs.ThreadViews.{IsStable, Owns, ThreadView}
use Rattle.xr_simulation.specs.NextStep.{EndOf, HasBases, HoldsNames, HoldsStore, IsAt, IsJoining, ItemsFrom, Joins, PortsStand, Rest, Runs, finished, is_watching}
use Rattle.xr_simulation.proofs.ItemCode.ParCloses.{closes_leads}
use Rattle.xr_simulation.proofs.ItemCode.Evaluations.{item_acts, runs_with, with_items}
use Rattle.xr_simulation.proofs.ItemCode.Items.{behind_jumps, pieces_before}
use Rattle.xr_simulation.proofs.ItemCode.Jumps.{jumps_way}
use Rattle.xr_simulation.proofs.RelyGuarantee.Stands.{items_stand}
use Rattle.xr_simulation.proofs.Relation.Waiting.{none_runs, parents_wait_on, waits_below, waits_known, waits_otherwise}
use Rattle.xr_simulation.proofs.RelyGuarantee.Events.{code_unwatched, here_at, here_from}

-- What is left of a branch uses no more.

-- statements before items use no more than both
todo_uses : (th : Thing) (ss : kernel.Statements) (rest others : List Item) → (by_statements th ss ≡ true → by_items th others ≡ true) → (by_items th rest ≡ true → by_items th others ≡ true) → by_items th (todo ss rest) ≡ true → by_items th others ≡ true
todo_uses th kernel.no_more rest others here there uses = there uses
todo_uses th (kernel.more s ss) rest others here there uses =
    ⊎_elim
    (λ first. here (or_left (by_statement th s) (by_statements th ss) first))
    (λ more. todo_uses th ss rest others (λ u. here (or_right (by_statement th s) (by_statements th ss) u)) there more)
    (or_cases (by_statement th s) (by_items th (todo ss rest)) uses)

block_uses : (th : Thing) (n : ℕ) (ss : kernel.Statements) (rest : List Item) → by_items th (todo ss (mark n ∷ rest)) ≡ true → by_items th (does (kernel.block n ss) ∷ rest) ≡ true
block_uses th n ss rest uses =
    todo_uses th ss (mark n ∷ rest) (does (kernel.block n ss) ∷ rest)
    (λ u. or_left (by_statements th ss) (by_items th rest) u)
    (λ u. or_right (by_statements th ss) (by_items th rest) u)
    uses

child_uses : (th : Thing) (ss : kernel.Statements) (pos : Pos) (rest : List Item) → by_items th (todo ss (ends ∷ [])) ≡ true → by_items th (does (kernel.par (kernel.more_branches (kernel.branch ss pos) kernel.no_branch)) ∷ rest) ≡ true
child_uses th ss pos rest uses =
    todo_uses th ss (ends ∷ []) (does (kernel.par (kernel.more_branches (kernel.branch ss pos) kernel.no_branch)) ∷ rest)
    (λ u. or_left (by_statements th ss || false) (by_items th rest) (or_left (by_statements th ss) false u))
    (λ u. absurd (cc))
    uses

-- Branches behind others.

get_last : {A : Type 0} (xs : List A) (x : A) → slice_get (xs ++ x ∷ []) (length xs) ≡ Some x
get_last [] x = refl
get_last (y ∷ xs) x = get_last xs x

pub get_before : {A : Type 0} (xs ys : List A) (n : ℕ) (x : A) → slice_get xs n ≡ Some x → slice_get (xs ++ ys) n ≡ Some x
get_before [] ys n x h = absurd (cc)
get_before (y ∷ xs) ys zero x h = h
get_before (y ∷ xs) ys (suc n) x h = get_before xs ys n x h

-- one action is a piece of the program's run
pub one_action : (g : Setting) (x y : World) (m : Action) → acts g.program g.stimulus x m ≡ Some y → acts_all g.program g.stimulus (Some x) (m ∷ []) ≡ Some y
one_action g x y m acted = ap (λ o. acts_all g.program g.stimulus o []) acted

-- the runner with another branch, which stands in these sides and inside these transactions and has these items, and for which these wait
abbrev pub going : Runner → (branch : ℕ) → List Parent → Sides → (inside : List ℕ) → List Item → Runner
going r b ps sides inside items = record r { branch = b; parents = ps; sides = sides; inside = inside; footprint = footprint_of items }

module _ (g : Setting) (r : Runner) where
  -- what it needs it has, where it uses no more than before
  less_holds : (b : ℕ) (ps : List Parent) (sides : Sides) (inside : List ℕ) (items : List Item) (z y : ThreadView) →
      ((v : ℕ) → (footprint_of items).uses v ≡ true → r.footprint.uses v ≡ true) → y.core ≡ z.core → y.world.store ≡ z.world.store →
      HoldsStore g r z → HoldsStore g (going r b ps sides inside items) y
  less_holds b ps sides inside items z y less same_core same_store h =
      let was : HoldsPlaces g r.core r.footprint.uses y.core.words y.world.store =
      subst (λ c. HoldsPlaces g r.core r.footprint.uses c.words y.world.store) (sym same_core)
      (subst (λ s. HoldsPlaces g r.core r.footprint.uses z.core.words s) (sym same_store) h.holds) in
      let size : length y.core.words ≡ length z.core.words = ap (λ c. length c.words) same_core in
      record {
        holds = record {
          lengths = λ v n found near uses. was.lengths v n found near (less v uses);
          values = λ v n i x found near uses there. was.values v n i x found near (less v uses) there;
        };
        room = let room = h.room in omega (arith, room, size);
      }

  less_ports : (b : ℕ) (ps : List Parent) (sides : Sides) (inside : List ℕ) (items : List Item) (z y : ThreadView) →
      ((p : ℕ) → (footprint_of items).ports p ≡ true → r.footprint.ports p ≡ true) → y.core ≡ z.core → PortsStand g r z →
      PortsStand g (going r b ps sides inside items) y
  less_ports b ps sides inside items z y less same_core h = λ p listed is.
      let mine : IsPort g r p listed = record { mine = less p is.mine; known = is.known; core = is.core } in
      let old = h p listed mine in
      record { port = old.port; there = ap (λ c. slice_get c.ports (port_place g r p)) same_core ∙ old.there; declared = old.declared }

  -- The thread stands where it stood, and what its new branch has to do begins there.
  going_rest : (b : ℕ) (ps : List Parent) (sides : Sides) (inside : List ℕ) (items : List Item) (j : ℕ) (z y : ThreadView)
      (branch : Branch) (pc : ℕ) (regs : Regs) (exits : List Exit) →
      IsAt g r z pc regs → y.core ≡ z.core → HasBases g r regs → syncs_of ps ≡ syncs_of r.parents →
      ItemsAt (plan g r) (code g r) sides (EndAt (plan g r) (code g r) r.tie ps) items exits pc j →
      ItemsFit g (going r b ps sides inside items) items →
      Runs y.world b branch items → branch.core ≡ r.core → HoldsStore g (going r b ps sides inside items) y →
      PortsStand g (going r b ps sides inside items) y → Rest g (going r b ps sides inside items) items j y
  going_rest b ps sides inside items j z y branch pc regs exits here same_core bases same_syncs at_code fits works core holds ports =
      record {
        pc = pc;
        regs = regs;
        here = here_at items (code_unwatched (plan g r) (code g r) sides (EndAt (plan g r) (code g r) r.tie ps) items exits pc j at_code)
            (ap (λ c. slice_get c.threads r.thread) same_core ∙ here);
        bases = record {
          base = bases.base;
          stack = bases.stack;
          names = subst (λ syncs. HoldsNames r.core syncs regs) (sym same_syncs)
              bases.names;
        };
        stands = items_stand g (going r b ps sides inside items) items exits pc j regs y.core at_code;
        fits = fits;
        has = record { branch = branch; runs = works; core = core; holds = holds; ports = ports };
      }

  -- 1. The branch goes on with other items: at the beginning of a block, at its end, and at a `par` of no branch.
  pub record StaysOn (items : List Item) (j : ℕ) (z : ThreadView) : Type 0 where
    pub branch : Branch
    pub known : slice_get z.world.branches r.branch ≡ Some branch
    pub running : branch.mode ≡ runs
    pub acted : acts g.program g.stimulus z.world (go r.branch) ≡ Some (with_items z.world r.branch branch items)
    pub rest : Rest g (shrunk r items) items j (record z { world = with_items z.world r.branch branch items })

  stays : (item : Item) (rest items : List Item) (j : ℕ) (z : ThreadView) → is_watching (item ∷ rest) ≡ false →
      (h : Rest g r (item ∷ rest) j z) →
      r.footprint ≡ footprint_of (item ∷ rest) → ((th : Thing) → by_items th items ≡ true → by_items th (item ∷ rest) ≡ true) →
      acts g.program g.stimulus z.world (go r.branch) ≡ Some (with_items z.world r.branch h.has.branch items) →
      (exits : List Exit) → ItemsFrom g r items exits h.pc j → ItemsFit g (shrunk r items) items → StaysOn items j z
  stays item rest items j z unwatched h footprint less acted exits at_code fits =
      let has = h.has in
      let y : ThreadView = record z { world = with_items z.world r.branch has.branch items } in
      record {
        branch = has.branch;
        known = has.runs.known;
        running = has.runs.running;
        acted = acted;
        rest = going_rest r.branch r.parents r.sides r.inside items j z y (record has.branch { items = items }) h.pc h.regs exits
            (here_from (item ∷ rest) unwatched h.here) refl h.bases refl at_code fits
            (runs_with z.world r.branch has.branch (item ∷ rest) items has.runs) has.core
            (less_holds r.branch r.parents r.sides r.inside items z y
            (λ v u. ap (λ (f : Footprint). f.uses v) footprint ∙ less (variable v) u) refl refl has.holds)
            (less_ports r.branch r.parents r.sides r.inside items z y
            (λ p u. ap (λ (f : Footprint). f.ports p) footprint ∙ less (port p) u) refl has.ports);
      }

  -- jumps before items
  on_behind : (items : List Item) (exits : List Exit) (n a b j k : ℕ) → Jumps (code g r) n a b → ItemsFrom g r items exits b j → n + j ≡ k → ItemsFrom g r items exits a k
  on_behind items exits n a b j k jumps h e = subst (ItemsFrom g r items exits a) e (behind_jumps (plan g r) (code g r) r.sides (EndOf g r) items exits n a b j jumps h)

  -- a block begins
  pub block_settles : (n : ℕ) (ss : kernel.Statements) (rest : List Item) (j : ℕ) (z : ThreadView) →
      Rest g r (does (kernel.block n ss) ∷ rest) j z →
      r.footprint ≡ footprint_of (does (kernel.block n ss) ∷ rest) → ItemsFit g (shrunk r (todo ss (mark n ∷ rest))) (todo ss (mark n ∷ rest)) → StaysOn (todo ss (mark n ∷ rest)) j z
  block_settles n ss rest j z h footprint fits =
      let c = h.stands.1 in
      let next = c.stands.0 in
      let inner : List Exit = record { block = n; index = next } ∷ h.stands.0 in
      let at_mark : ItemsFrom g r (mark n ∷ rest) inner next c.further = record {
        index = next;
        here = 0;
        further = c.further;
        jumps = refl;
        stands = record { outer = h.stands.0; innermost = refl; others = c.stands.2 };
        sum = omega arith;
      } in
      let inside = pieces_before (plan g r) (code g r) r.sides (EndOf g r) ss (mark n ∷ rest) inner c.index next c.further c.stands.1 at_mark in
      stays (does (kernel.block n ss)) rest (todo ss (mark n ∷ rest)) j z refl h footprint (λ th u. block_uses th n ss rest u)
      (item_acts g.program g.stimulus r.branch z.world h.has.branch (does (kernel.block n ss)) rest h.has.runs)
      inner (on_behind (todo ss (mark n ∷ rest)) inner c.here h.pc c.index c.further j c.jumps inside c.sum) fits

  -- a block ends
  pub mark_settles : (n : ℕ) (rest : List Item) (j : ℕ) (z : ThreadView) → Rest g r (mark n ∷ rest) j z →
      r.footprint ≡ footprint_of (mark n ∷ rest) → ItemsFit g (shrunk r rest) rest → StaysOn rest j z
  mark_settles n rest j z h footprint fits =
      let c = h.stands.1 in
      stays (mark n) rest rest j z refl h footprint (λ th u. u)
      (item_acts g.program g.stimulus r.branch z.world h.has.branch (mark n) rest h.has.runs)
      c.stands.outer (on_behind rest c.stands.outer c.here h.pc c.index c.further j c.jumps c.stands.others c.sum) fits

  -- a `par` of no branch
  pub none_settles : (rest : List Item) (j : ℕ) (z : ThreadView) → Rest g r (does (kernel.par kernel.no_branch) ∷ rest) j z →
      r.footprint ≡ footprint_of (does (kernel.par kernel.no_branch) ∷ rest) → ItemsFit g (shrunk r rest) rest → StaysOn rest j z
  none_settles rest j z h footprint fits =
      let c = h.stands.1 in
      let others : ItemsFrom g r rest h.stands.0 c.index c.further = subst (λ q. ItemsFrom g r rest h.stands.0 q c.further)
      (sym c.stands.1) c.stands.2 in
      stays (does (kernel.par kernel.no_branch)) rest rest j z refl h footprint (λ th u. u)
      (item_acts g.program g.stimulus r.branch z.world h.has.branch (does (kernel.par kernel.no_branch)) rest h.has.runs)
      h.stands.0 (on_behind rest h.stands.0 c.here h.pc c.index c.further j c.jumps others c.sum) fits

-- 2. A `par` of one branch: that branch is made, and its maker waits.

-- the branch that is made
abbrev pub child_of : Branch → kernel.Statements → Branch
child_of branch ss = record {
  core = branch.core;
  mode = runs;
  items = todo ss (ends ∷ []);
  sides = sides_in 0 [] ss [] branch.sides;
  inside = branch.inside;
  family = branch.family;
  birth = Some (record { family = branch.family; index = 0; among = 1 });
}

-- its maker, while it waits
abbrev pub maker_of : Branch → (child : ℕ) → List Item → Branch
maker_of branch child rest = record branch { mode = waits child 1; items = rest }

abbrev pub with_child : World → (b : ℕ) → Branch → kernel.Statements → List Item → World
with_child x b branch ss rest = record x { branches = slice_set x.branches b (maker_of branch (length x.branches) rest) ++ child_of branch ss ∷ [] }

-- the maker, as it is known where it waits
abbrev pub waiting_one : (branch child : ℕ) → List Item → Sides → (inside : List ℕ) → Parent
waiting_one b child rest sides inside = record {
  branch = b;
  from = child;
  count = 1;
  sync = None;
  items = rest;
  sides = sides;
  inside = inside;
}

-- the sides of the branch that is made
abbrev pub sides_under : kernel.Statements → Sides → Sides
sides_under ss sides = sides_in 0 [] ss [] sides

-- the runner of the branch that is made
abbrev pub under : Runner → (child : ℕ) → kernel.Statements → List Item → Runner
under r child ss rest =
    going r child (waiting_one r.branch child rest r.sides r.inside ∷ r.parents) (sides_under ss r.sides) r.inside (todo ss (ends ∷ []))

module _ (g : Setting) (r : Runner) where
  pub record GoesUnder (ss : kernel.Statements) (rest : List Item) (j : ℕ) (z : ThreadView) : Type 0 where
    pub branch : Branch
    pub known : slice_get z.world.branches r.branch ≡ Some branch
    pub running : branch.mode ≡ runs
    pub acted : acts g.program g.stimulus z.world (go r.branch) ≡ Some (with_child z.world r.branch branch ss rest)
    pub rest_there : Rest g (under r (length z.world.branches) ss rest) (todo ss (ends ∷ [])) j (record z { world = with_child z.world r.branch branch ss rest })

  -- the branch that is made is behind the others
  pub child_there : (x : World) (branch : Branch) (ss : kernel.Statements) (rest : List Item) → slice_get (with_child x r.branch branch ss rest).branches (length x.branches) ≡ Some (child_of branch ss)
  child_there x branch ss rest =
      let set = slice_set x.branches r.branch (maker_of branch (length x.branches) rest) in
      subst (λ n. slice_get (set ++ child_of branch ss ∷ []) n ≡ Some (child_of branch ss)) (length-set x.branches r.branch (maker_of branch (length x.branches) rest))
      (get_last set (child_of branch ss))

  -- its code begins where that of the `par` does, and what is left to its maker follows
  child_code : (ss : kernel.Statements) (rest : List Item) (exits : List Exit) (child a b j : ℕ) → PiecesAt (code g r) (plan g r) (sides_under ss r.sides) ss [] a b → ItemsFrom g r rest exits b j →
      ItemsAt (plan g r) (code g r) (sides_under ss r.sides)
      (EndAt (plan g r) (code g r) r.tie (waiting_one r.branch child rest r.sides r.inside ∷ r.parents)) (todo ss (ends ∷ [])) [] a j
  child_code ss rest exits child a b j pieces others =
      let End = EndAt (plan g r) (code g r) r.tie (waiting_one r.branch child rest r.sides r.inside ∷ r.parents) in
      let at_end : ItemsAt (plan g r) (code g r) (sides_under ss r.sides) End (ends ∷ []) [] b j = record { index = b; here = 0; further = j; jumps = refl; stands = ((exits, others), refl); sum = omega arith } in
      pieces_before (plan g r) (code g r) (sides_under ss r.sides) End ss (ends ∷ []) [] a b j pieces at_end

  pub one_settles : (ss : kernel.Statements) (pos : Pos) (rest : List Item) (j : ℕ) (z : ThreadView) →
      Rest g r (does (kernel.par (kernel.more_branches (kernel.branch ss pos) kernel.no_branch)) ∷ rest) j z →
      r.footprint ≡ footprint_of (does (kernel.par (kernel.more_branches (kernel.branch ss pos) kernel.no_branch)) ∷ rest) → ItemsFit g (under r (length z.world.branches) ss rest) (todo ss (ends ∷ [])) → GoesUnder ss rest j z
  one_settles ss pos rest j z h footprint fits =
      let item = does (kernel.par (kernel.more_branches (kernel.branch ss pos) kernel.no_branch)) in
      let has = h.has in
      let c = h.stands.1 in
      let child = length z.world.branches in
      let parents = waiting_one r.branch child rest r.sides r.inside ∷ r.parents in
      let sides = sides_under ss r.sides in
      let items = todo ss (ends ∷ []) in
      let y : ThreadView = record z { world = with_child z.world r.branch has.branch ss rest } in
      let End = EndAt (plan g r) (code g r) r.tie parents in
      let at_index = child_code ss rest h.stands.0 child c.index c.stands.0 c.further c.stands.1 c.stands.2 in
      let at_pc = subst (ItemsAt (plan g r) (code g r) sides End items [] h.pc) c.sum (behind_jumps (plan g r) (code g r) sides End items [] c.here h.pc c.index c.further c.jumps at_index) in
      record {
        branch = has.branch;
        known = has.runs.known;
        running = has.runs.running;
        acted = item_acts g.program g.stimulus r.branch z.world has.branch item rest has.runs;
        rest_there = going_rest g r child parents sides r.inside items j z y (child_of has.branch ss) h.pc h.regs [] h.here refl h.bases
            refl at_pc fits
            (record { known = child_there z.world has.branch ss rest; running = refl; items_are = refl }) has.core
            (less_holds g r child parents sides r.inside items z y
            (λ v u. ap (λ (f : Footprint). f.uses v) footprint ∙ child_uses (variable v) ss pos rest u) refl refl has.holds)
            (less_ports g r child parents sides r.inside items z y
            (λ p u. ap (λ (f : Footprint). f.ports p) footprint ∙ child_uses (port p) ss pos rest u) refl has.ports);
      }

-- 3. The end of a branch for which another waits, of a `par` of one branch: it ends, and that one goes on.

-- a branch ends
abbrev pub with_ended : World → (b : ℕ) → Branch → World
with_ended x b branch = record x { branches = slice_set x.branches b (finished branch) }

-- the branch that waited, as it goes on
abbrev pub risen_branch : Branch → Branch
risen_branch waiting = record waiting { mode = runs }

abbrev pub with_risen : World → (b : ℕ) → Branch → (parent : ℕ) → Branch → World
with_risen x b branch parent waiting = record x { branches = slice_set (slice_set x.branches b (finished branch)) parent (risen_branch waiting) }

-- its runner
abbrev pub risen : Runner → Parent → List Parent → Runner
risen r p ps = going r p.branch ps p.sides p.inside p.items

module _ (g : Setting) (r : Runner) (p : Parent) (ps : List Parent) where
  pub record Rises (j : ℕ) (z : ThreadView) : Type 0 where
    pub branch : Branch
    pub known : slice_get z.world.branches r.branch ≡ Some branch
    pub running : branch.mode ≡ runs
    pub waiting : Branch
    pub waits_there : slice_get z.world.branches p.branch ≡ Some waiting
    pub apart : p.branch ≢ r.branch
    pub acted : acts_all g.program g.stimulus (Some z.world) (go r.branch ∷ go p.branch ∷ []) ≡ Some (with_risen z.world r.branch branch p.branch waiting)
    pub rest : Rest g (risen r p ps) p.items j (record z { world = with_risen z.world r.branch branch p.branch waiting })

  -- the only branch of the `par` has ended
  only_done : (x : World) (branch : Branch) → slice_get x.branches r.branch ≡ Some branch → all_done (with_ended x r.branch branch) r.branch 1 ≡ true
  only_done x branch known =
      let e : r.branch + 0 ≡ r.branch = omega arith in
      ap (λ n. is_done (slice_get (slice_set x.branches r.branch (finished branch)) n) && true) e
      ∙ ap (λ o. is_done o && true) (get_set_same x.branches r.branch branch (finished branch) known)

  -- and the one that waits goes on
  rises_acts : (z : ThreadView) (branch : Branch) → slice_get z.world.branches r.branch ≡ Some branch →
      (w : ParentWaits g z.world r.core r.family p r.branch) → p.sync ≡ None → p.branch ≢ r.branch →
      acts g.program g.stimulus (with_ended z.world r.branch branch) (go p.branch) ≡ Some (with_risen z.world r.branch branch p.branch w.branch)
  rises_acts z branch known w none apart =
      let K = g.program in
      let s = g.stimulus in
      let x = with_ended z.world r.branch branch in
      let there : slice_get x.branches p.branch ≡ Some w.branch = get_set_other z.world.branches r.branch p.branch (finished branch) apart ∙ w.known in
      let st = step_of K s x p.branch w.branch w.branch.items in
      let y = becomes st (risen_branch w.branch) in
      ap (λ o. and_then o (goes K s x p.branch)) there
      ∙ ap (goes_by K s x p.branch w.branch) w.mode
      ∙ ap (λ n. joins st n p.count) w.first_is
      ∙ ap (λ n. joins st r.branch n) (w.one none)
      ∙ ap (λ b. only_if b y) (only_done z.world branch known)

  pub rises : (rest : List Item) (j : ℕ) (z : ThreadView) → r.parents ≡ p ∷ ps → p.sync ≡ None → (h : Rest g r (ends ∷ rest) j z) →
      (w : ParentWaits g z.world r.core r.family p r.branch) →
      ItemsFit g (risen r p ps) p.items →
      HoldsStore g (risen r p ps) (record z { world = with_risen z.world r.branch h.has.branch p.branch w.branch }) →
      PortsStand g (risen r p ps) (record z { world = with_risen z.world r.branch h.has.branch p.branch w.branch }) → Rises j z
  rises rest j z parents none h w fits holds ports =
      let has = h.has in
      let c = h.stands.1 in
      let y : ThreadView = record z { world = with_risen z.world r.branch has.branch p.branch w.branch } in
      let x = with_ended z.world r.branch has.branch in
      let there : slice_get x.branches p.branch ≡ Some w.branch = get_set_other z.world.branches r.branch p.branch (finished has.branch) apart ∙ w.known in
      let behind = subst (λ o. ClosingAt (plan g r) (code g r) o (λ q k. (exits : List Exit) × ItemsAt (plan g r) (code g r) p.sides End p.items exits q k) c.index c.further) none
      (subst (λ l. EndAt (plan g r) (code g r) r.tie l c.index c.further) parents c.stands.0) in
      let at_pc = subst (ItemsAt (plan g r) (code g r) p.sides End p.items behind.0 h.pc) c.sum (behind_jumps (plan g r) (code g r) p.sides End p.items behind.0 c.here h.pc c.index c.further c.jumps behind.1) in
      record {
        branch = has.branch;
        known = has.runs.known;
        running = has.runs.running;
        waiting = w.branch;
        waits_there = w.known;
        apart = apart;
        acted =
            ap (λ o. acts_all g.program g.stimulus o (go p.branch ∷ [])) (item_acts g.program g.stimulus r.branch z.world has.branch ends rest has.runs)
            ∙ ap (λ o. acts_all g.program g.stimulus o []) (rises_acts z has.branch has.runs.known w none apart);
        rest = going_rest g r p.branch ps p.sides p.inside p.items j z y (risen_branch w.branch) h.pc h.regs behind.0 h.here refl h.bases
            same_syncs at_pc fits
            (record { known = get_set_same x.branches p.branch w.branch (risen_branch w.branch) there; running = refl; items_are = w.items }) w.on_core holds ports;
      }
    where
      End : (pc j : ℕ) → Type 0
      End = EndAt (plan g r) (code g r) r.tie ps

      apart : p.branch ≢ r.branch
      apart = waits_otherwise g r.core r.family z.world p r.branch r.branch h.has.branch w h.has.runs.known h.has.runs.running

      same_syncs : syncs_of ps ≡ syncs_of r.parents
      same_syncs = sym (ap syncs_of parents ∙ ap (λ o. sync_before o (syncs_of ps)) none)

-- 4. The end of the first branch of a `par` of several: it ends, and its thread goes on to where it joins the others.
module _ (g : Setting) (r : Runner) (p : Parent) (ps : List Parent) where
  pub record EndsFirst (most : ℕ) (z : ThreadView) : Type 0 where
    pub branch : Branch
    pub known : slice_get z.world.branches r.branch ≡ Some branch
    pub running : branch.mode ≡ runs
    pub acted : acts g.program g.stimulus z.world (go r.branch) ≡ Some (with_ended z.world r.branch branch)
    pub joining : IsJoining g (shrunk r []) p ps most (record z { world = with_ended z.world r.branch branch })

  pub first_ends : (n : ℕ) (rest : List Item) (j : ℕ) (z : ThreadView) → r.parents ≡ p ∷ ps → p.sync ≡ Some n → n < 8 →
      length (syncs_of ps) ≤ 6 → slice_get z.core.syncs n ≡ Some true → z.hand ≡ None →
      Rest g r (ends ∷ rest) j z → EndsFirst (7 + j) z
  first_ends n rest j z parents sync few outer taken no_hand h = record {
    branch = h.has.branch;
    known = h.has.runs.known;
    running = h.has.runs.running;
    acted = item_acts g.program g.stimulus r.branch z.world h.has.branch ends rest h.has.runs;
    joining = (
      c.here + 7,
      c.further,
      (let sum = c.sum in omega arith),
      jumps_way g s IsTaken (Joins g s p ps c.further) lasts (λ y from to regs has. has) c.here 7 y h.pc c.index h.regs c.jumps h.here (taken, no_hand)
          (λ x here has. closes_leads g s p ps n c.further c.index behind.0 x h.regs behind.2.0 parents sync few outer has.0 here bases behind.1 behind.2.1 has.1),
    );
  }
    where
      s : Runner
      s = shrunk r []

      y : ThreadView
      y = record z { world = with_ended z.world r.branch h.has.branch }

      c : Behind (plan g r) (code g r)
          (FirstAt (plan g r) (code g r) r.sides (EndOf g r) ends (λ exits pc k. ItemsFrom g r rest exits pc k) h.stands.0) h.pc j
      c = h.stands.1

      -- the synchroniser is taken, and the runner has nothing in hand
      IsTaken : ThreadView → Type 0
      IsTaken x = (slice_get x.core.syncs n ≡ Some true) × (x.hand ≡ None)

      owns : (hand : Option Acquired) → Owns s hand n
      owns hand = inl (subst (λ syncs. IsAmong syncs n) (sym (ap syncs_of parents ∙ ap (λ o. sync_before o (syncs_of ps)) sync)) (inl refl))

      lasts : IsStable g s IsTaken
      lasts x x' k has = (k.syncs n (owns x.hand) ∙ has.0, k.hand ∙ has.1)

      bases : HasBases g s h.regs
      bases = h.bases

      behind : (closed : ℕ) × ClosesAt (code g r) (plan g r) c.index closed × ((exits : List Exit) × ItemsAt (plan g r) (code g r) p.sides (EndAt (plan g r) (code g r) r.tie ps) p.items exits closed c.further)
      behind =
          subst (λ o. ClosingAt (plan g r) (code g r) o (λ q k. (exits : List Exit) × ItemsAt (plan g r) (code g r) p.sides (EndAt (plan g r) (code g r) r.tie ps) p.items exits q k) c.index c.further) sync
          (subst (λ l. EndAt (plan g r) (code g r) r.tie l c.index c.further) parents c.stands.0)

-- Those that wait do so still.
module _ (g : Setting) (r : Runner) (x : World) (branch : Branch) (known : slice_get x.branches r.branch ≡ Some branch) (running : branch.mode ≡ runs) where
  -- where the branch is another
  pub parents_beside : (new : Branch) (ps : List Parent) (first : ℕ) → ParentsWait g x r.core r.family ps first → ParentsWait g (record x { branches = slice_set x.branches r.branch new }) r.core r.family ps first
  parents_beside new ps first h =
      parents_wait_on g r.core r.family x (record x { branches = slice_set x.branches r.branch new }) ps first
      (λ n m. get_set_other x.branches r.branch n new (none_runs g r.core r.family x ps first r.branch branch h known running n m)) h

  -- where branches are made
  pub parents_before : (others : List Branch) (ps : List Parent) (first : ℕ) → ParentsWait g x r.core r.family ps first → ParentsWait g (record x { branches = x.branches ++ others }) r.core r.family ps first
  parents_before others ps first h =
      parents_wait_on g r.core r.family x (record x { branches = x.branches ++ others }) ps first
      (λ n m. let there = waits_known g r.core r.family x ps first h n m in get_before x.branches others n there.0 there.1 ∙ sym there.1) h

module _ (g : Setting) (r : Runner) (x : World) (branch : Branch) (known : slice_get x.branches r.branch ≡ Some branch) (running : branch.mode ≡ runs) where
  -- and the maker of a `par` of one branch waits with them
  pub parents_under : (ss : kernel.Statements) (rest : List Item) → branch.core ≡ r.core → branch.family ≡ r.family →
      branch.sides ≡ r.sides → branch.inside ≡ r.inside → FitOn g r.core rest → ParentsWait g x r.core r.family r.parents r.branch →
      ParentsWait g (with_child x r.branch branch ss rest) r.core r.family
      (waiting_one r.branch (length x.branches) rest r.sides r.inside ∷ r.parents) (length x.branches)
  parents_under ss rest core family sides inside fits h = (first, others)
    where
      maker : Branch
      maker = maker_of branch (length x.branches) rest

      set : World
      set = record x { branches = slice_set x.branches r.branch maker }

      there : slice_get (slice_set x.branches r.branch maker) r.branch ≡ Some maker
      there = get_set_same x.branches r.branch branch maker known

      first : ParentWaits g (with_child x r.branch branch ss rest) r.core r.family
          (waiting_one r.branch (length x.branches) rest r.sides r.inside) (length x.branches)
      first = record {
        branch = maker;
        known = get_before (slice_set x.branches r.branch maker) (child_of branch ss ∷ []) r.branch maker there;
        mode = refl;
        items = refl;
        on_core = core;
        of_family = family;
        first_is = refl;
        one = λ none. refl;
        several = λ n e. absurd (cc);
        fits = fits;
        sides = sides;
        inside = inside;
      }

      still : ParentsWait g set r.core r.family r.parents r.branch
      still = parents_beside g r x branch known running maker r.parents r.branch h

      others : ParentsWait g (with_child x r.branch branch ss rest) r.core r.family r.parents r.branch
      others =
          parents_wait_on g r.core r.family set (with_child x r.branch branch ss rest) r.parents r.branch
          (λ n m. let known_n = waits_known g r.core r.family set r.parents r.branch still n m in get_before (slice_set x.branches r.branch maker) (child_of branch ss ∷ []) n known_n.0 known_n.1 ∙ sym known_n.1) still

  -- where the innermost goes on the others wait
  pub parents_risen : (roots : ℕ) → IsForest roots x.branches → (p : Parent) (ps : List Parent) (waiting : Branch) → ParentsWait g x r.core r.family (p ∷ ps) r.branch →
      ParentsWait g (with_risen x r.branch branch p.branch waiting) r.core r.family ps p.branch
  parents_risen roots forest p ps waiting h =
      parents_wait_on g r.core r.family x (with_risen x r.branch branch p.branch waiting) ps p.branch
      (λ n m.
      let lt = waits_below g r.core r.family x roots forest ps p.branch h.1 n m in
      let not_it : n ≢ p.branch = λ e. absurd (omega (arith, lt, e)) in
      get_set_other (slice_set x.branches r.branch (finished branch)) p.branch n (risen_branch waiting) not_it
      ∙ get_set_other x.branches r.branch n (finished branch) (none_runs g r.core r.family x ps p.branch r.branch branch h.1 known running n m)) h.1
