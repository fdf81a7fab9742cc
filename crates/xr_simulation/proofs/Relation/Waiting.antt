-- The branches that wait for one, while that one goes on, makes another or ends.
use Rattle.std.proofs.Common.{◌≡◌, ◌≢◌, ℕ, ◌<◌, List, [], ◌∷◌, Some, inl, inr, refl, sym, ap, ◌∙◌, arith}
use Rattle.std.specs.Prelude.{slice_get}
use Rattle.std.proofs.lemmas.Option.{same_Some}
use Rattle.xc_invariants.specs.Tree.{IsForest}
use Rattle.xc_meaning.specs.States.Branches.{Branch, runs, waits}
use Rattle.xc_meaning.specs.States.Worlds.{World}
use Rattle.xl_par.specs.Acquired.{IsAmong}
use Rattle.xr_simulation.specs.Parents.{Parent, branches_of}
use Rattle.xr_simulation.specs.Roles.{ParentWaits, ParentsWait}
use Rattle.xr_simulation.specs.Runners.{Setting}

module _ (g : Setting) (core family : ℕ) where
  -- a branch that waits is none that runs
  pub waits_otherwise : (x : World) (p : Parent) (first b : ℕ) (branch : Branch) → ParentWaits g x core family p first → slice_get x.branches b ≡ Some branch → branch.mode ≡ runs → p.branch ≢ b
  waits_otherwise x p first b branch h known running same =
      let one : h.branch ≡ branch = same_Some h.branch branch (sym h.known ∙ ap (slice_get x.branches) same ∙ known) in
      let modes : waits p.from p.count ≡ runs = sym h.mode ∙ ap (λ (c : Branch). c.mode) one ∙ running in
      absurd (cc)

  -- nor are all of them
  pub none_runs : (x : World) (ps : List Parent) (first b : ℕ) (branch : Branch) → ParentsWait g x core family ps first → slice_get x.branches b ≡ Some branch → branch.mode ≡ runs →
      (n : ℕ) → IsAmong (branches_of ps) n → n ≢ b
  none_runs x [] first b branch h known running n m = absurd m
  none_runs x (p ∷ ps) first b branch h known running n (inl here) = λ e. waits_otherwise x p first b branch h.0 known running (sym here ∙ e)
  none_runs x (p ∷ ps) first b branch h known running n (inr there) = none_runs x ps p.branch b branch h.1 known running n there

  -- each waits for later ones
  pub waits_below : (x : World) (roots : ℕ) → IsForest roots x.branches → (ps : List Parent) (first : ℕ) → ParentsWait g x core family ps first → (n : ℕ) → IsAmong (branches_of ps) n → n < first
  waits_below x roots forest [] first h n m = absurd m
  waits_below x roots forest (p ∷ ps) first h n (inl here) =
      let d = forest.family p.branch p.from h.0.branch p.from p.count h.0.known h.0.mode in
      let lt = d.0 in
      let is = h.0.first_is in
      omega (arith, lt, is, here)
  waits_below x roots forest (p ∷ ps) first h n (inr there) =
      let d = forest.family p.branch p.from h.0.branch p.from p.count h.0.known h.0.mode in
      let lt = d.0 in
      let is = h.0.first_is in
      let deeper = waits_below x roots forest ps p.branch h.1 n there in
      omega (arith, lt, is, deeper)

  -- each is there
  pub waits_known : (x : World) (ps : List Parent) (first : ℕ) → ParentsWait g x core family ps first → (n : ℕ) → IsAmong (branches_of ps) n → (branch : Branch) × (slice_get x.branches n ≡ Some branch)
  waits_known x [] first h n m = absurd m
  waits_known x (p ∷ ps) first h n (inl here) = (h.0.branch, ap (slice_get x.branches) here ∙ h.0.known)
  waits_known x (p ∷ ps) first h n (inr there) = waits_known x ps p.branch h.1 n there

  -- they wait still where they are as they were
  parent_waits_on : (x y : World) (p : Parent) (first : ℕ) → slice_get y.branches p.branch ≡ slice_get x.branches p.branch → ParentWaits g x core family p first → ParentWaits g y core family p first
  parent_waits_on x y p first same h = record {
    branch = h.branch;
    known = same ∙ h.known;
    mode = h.mode;
    items = h.items;
    on_core = h.on_core;
    of_family = h.of_family;
    first_is = h.first_is;
    one = h.one;
    several = h.several;
    fits = h.fits;
    sides = h.sides;
    inside = h.inside;
  }

  pub parents_wait_on : (x y : World) (ps : List Parent) (first : ℕ) → ((b : ℕ) → IsAmong (branches_of ps) b → slice_get y.branches b ≡ slice_get x.branches b) → ParentsWait g x core family ps first → ParentsWait g y core family ps first
  parents_wait_on x y [] first same h = h
  parents_wait_on x y (p ∷ ps) first same h =
      (parent_waits_on x y p first (same p.branch (inl refl)) h.0, parents_wait_on x y ps p.branch (λ b m. same b (inr m)) h.1)
