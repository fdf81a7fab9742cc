-- The number of a route bounds the steps of a thread that sets out on it.
use Rattle.std.proofs.Common.{◌≡◌, ◌≤◌, ◌<◌, ◌⊎◌, inl, inr, ℕ, zero, suc, ◌+◌, Bool, true, false, List, [], ◌∷◌, Option, Some, None, length, nat_eq, nat_lt, refl, sym, ap, ◌∙◌, subst, arith}
use Rattle.std.proofs.lemmas.Bool.{cases_lt, ltb-false}
use Rattle.std.specs.List.{slice_get}
use Rattle.std.specs.Prelude.{◌≢◌, ◌||◌, if◌then◌else◌}
use Rattle.std.specs.Str.Lines.{lines}
use Rattle.xs_instr.specs.declared.image.Code.{Code}
use Rattle.xs_instr.specs.declared.image.Image.{Image}
use Rattle.xs_instr.specs.declared.image.Stim.{Stim}
use Rattle.xs_instr.specs.declared.state.Thread.{Thread}
use Rattle.xs_fabric.specs.OwnTurns.{Onward, GoesOn, Waits, MayBranch, Branches, MayBranchBack, BranchesBack, EndsThread, AwaitsEvent, LeadsElsewhere}
use Rattle.xs_fabric.specs.OwnTurns.{IsSuccessor, onward}
use Rattle.xs_fabric.proofs.Ways.{some_is}
use Rattle.xf_time.proofs.Best.{off}
use Rattle.xf_time.proofs.Filling.{flow_past}
use Rattle.xf_time.proofs.Steps.{stands_behind, steps_are_counted}
use Rattle.xf_time.specs.Bounds.{IsNumberOf, broken_or, broken_rule, code_of, first_broken, route_before, routes_from, with_line}
use Rattle.xf_time.specs.Forms.{form}
use Rattle.xf_time.specs.Routes.{on_way, at_from, IsExit, flow_to, is_at, is_unsaid}
use Rattle.xf_time.specs.Steps.{StandsAtTurn}
use Rattle.xf_time.specs.Threads.{BoundsHold, NumbersHold, SetsOut, StepsWithin}
use Rattle.xf_time.specs.Ways.{LeadsTo, goes_on, behind_waits, not_branched, branched, branches, not_branched_back, branched_back, branches_back}
use Rattle.xf_time.specs.Ways.{NeverHeld, Way}
use Rattle.xf_time.specs.declared.form.Form.{Form}
use Rattle.xf_time.specs.declared.form.Form.TheVariants.{Skipped, IsRoute, Other}
use Rattle.xf_time.specs.declared.form.Route.{Route}
use Rattle.xf_time.specs.declared.reader.RouteLine.{RouteLine}

-- to a successor it leads, with a number of backward branches
leads : (way : Onward) (i j : ℕ) → way ≢ AwaitsEvent → way ≢ LeadsElsewhere → IsSuccessor way i j → (u : ℕ) × LeadsTo way i u j
leads GoesOn i j f g e = (0, subst (LeadsTo GoesOn i 0) (sym e) goes_on)
leads Waits i j f g e = (0, subst (LeadsTo Waits i 0) (sym e) behind_waits)
leads (MayBranch k) i j f g (inl e) = (0, subst (LeadsTo (MayBranch k) i 0) (sym e) not_branched)
leads (MayBranch k) i j f g (inr e) = (0, subst (LeadsTo (MayBranch k) i 0) (sym e) branched)
leads (Branches k) i j f g e = (0, subst (LeadsTo (Branches k) i 0) (sym e) branches)
leads (MayBranchBack k) i j f g (inl e) = (0, subst (LeadsTo (MayBranchBack k) i 0) (sym e) not_branched_back)
leads (MayBranchBack k) i j f g (inr e) = (1, subst (LeadsTo (MayBranchBack k) i 1) (sym e) branched_back)
leads (BranchesBack k) i j f g e = (1, subst (LeadsTo (BranchesBack k) i 1) (sym e) branches_back)
leads EndsThread i j f g e = absurd e
leads AwaitsEvent i j f g e = absurd (f refl)
leads LeadsElsewhere i j f g e = absurd (g refl)

module _ (L : Image) (s : Stim) (route : Route) (t n long : ℕ) (after : Thread) (few : route.core < 4) (below : t < 8) (is : IsNumberOf L route long)
    (h : SetsOut L s route t n after) where
  abbrev code : Code
  code = code_of L route.core

  -- where the instruction leads is said
  not_unsaid : (way : Onward) → is_unsaid way ≡ true → onward h.instr ≢ way
  not_unsaid way unsaid e =
      is.not_held (at_from (record { at_from = h.at_from; instr = h.instr; instr_is = h.executes.instr_is; unsaid = ap is_unsaid e ∙ unsaid }))

  no_event : onward h.instr ≢ AwaitsEvent
  no_event = not_unsaid AwaitsEvent refl

  not_elsewhere : onward h.instr ≢ LeadsElsewhere
  not_elsewhere = not_unsaid LeadsElsewhere refl

  behind : IsSuccessor (onward h.instr) h.index after.pc × StandsAtTurn L s route.core t (suc n) after.pc
  behind = stands_behind L s route.core t n h.index h.instr after few below h.executes no_event not_elsewhere

  exit : after.pc < length code.instrs → IsExit code route.from after.pc
  exit there =
      let lead = leads (onward h.instr) h.index after.pc no_event not_elsewhere behind.0 in
      record {
        index = h.index;
        exit = record {
          at_from = h.at_from;
          instr = h.instr;
          instr_is = h.executes.instr_is;
          taken = lead.0;
          leads = lead.1;
          there = there;
          apart = h.apart;
        };
      }

  -- no way from there is held up, and none is longer
  within : NeverHeld (flow_to code route.to) after.pc route.backward →
      ((taken l : ℕ) → taken ≤ route.backward → Way (flow_to code route.to) after.pc taken l → l ≤ long) → StepsWithin L s route t n long after
  within free most = steps_are_counted L s route.core t (suc n) after.pc route.backward long (is_at code route.to) few below behind.1 free most

  by_place : (after.pc < length code.instrs) ⊎ (length code.instrs ≤ after.pc) → StepsWithin L s route t n long after
  by_place (inl there) =
      let x = exit there in
      within (λ m le meets. is.not_held (on_way x le meets))
      (λ m l le way. is.most l (record { exit = after.pc; is_exit = x; taken = m; few = le; way = way }))
  by_place (inr past) =
      let none = off (flow_to code route.to) route.backward after.pc (flow_past code route.to after.pc past) in
      within none.free (λ m l le way. let zero = none.most m l le way in omega (arith, zero))

  holds : StepsWithin L s route t n long after
  holds = by_place (cases_lt after.pc (length code.instrs))

pub bounds_hold : BoundsHold
bounds_hold L s route t n long after few below is h = holds L s route t n long after few below is h

-- the cores of a text's routes

by_tests : (above many last : Bool) (number : ℕ) (later : Option (ℕ × ℕ)) →
    broken_or (if above || many then Some 1002 else if last then Some 1005 else None) number later ≡ None → (above ≡ false) × (later ≡ None)
by_tests true many last number later e = cc
by_tests false true last number later e = cc
by_tests false false true number later e = cc
by_tests false false false number later e = (refl, e)

by_form : (f : Form) (routes number k : ℕ) (later : Option (ℕ × ℕ)) (rest : List RouteLine) (r : RouteLine) →
    ((i : ℕ) → later ≡ None → slice_get rest i ≡ Some r → r.route.core < 4) → broken_or (broken_rule routes f) number later ≡ None →
    slice_get (route_before f number rest) k ≡ Some r → r.route.core < 4
by_form Skipped routes number k later rest r below e h = below k e h
by_form Other routes number k later rest r below e h = cc
by_form (IsRoute x) routes number k later rest r below e h = here k h
  where
    tests : (nat_lt 3 x.core ≡ false) × (later ≡ None)
    tests = by_tests (nat_lt 3 x.core) (nat_lt 1000 x.backward) (nat_eq routes 16) number later e

    few : x.core < 4
    few = let least = ltb-false 3 x.core tests.0 in omega (arith, least)

    here : (k : ℕ) → slice_get (route_before (IsRoute x) number rest) k ≡ Some r → r.route.core < 4
    here zero h = subst (λ (z : RouteLine). z.route.core < 4) (some_is (record { line = number; route = x }) r h) few
    here (suc i) h = below i tests.1 h

cores_below : (ls : List (List ℕ)) (routes number k : ℕ) (r : RouteLine) → first_broken routes number ls ≡ None →
    slice_get (routes_from number ls) k ≡ Some r → r.route.core < 4
cores_below [] routes number k r e h = cc
cores_below (line ∷ more) routes number k r e h =
    by_form (form line) routes number k (first_broken (with_line routes (form line)) (number + 1) more) (routes_from (number + 1) more) r
    (λ i f g. cores_below more (with_line routes (form line)) (number + 1) i r f g) e h

pub numbers_hold : NumbersHold
numbers_hold L text numbers are s k r t n long after here number below h =
    let few = cores_below (lines text) 0 1 k r are.formed here in
    bounds_hold L s r.route t n long after few below (are.are.each k r long here number) h
