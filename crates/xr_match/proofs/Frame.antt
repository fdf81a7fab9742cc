-- A relation between the states of two systems that each step of the one keeps: so its runs have runs of the other beside them.
use Rattle.std.proofs.Common.{◌≡◌, List, [], ◌∷◌, Option, Some, None, refl, sym, subst}
use Rattle.xs_instr.specs.Machine.{and_then}
use Rattle.xr_match.specs.Systems.{System, SomeIs, IsRun, leads, Along, Beside, Refines}

-- a piece of B's run leads to where S holds again
abbrev pub Follows : (A B : System) → (A.State → B.State → Type 0) → B.State → A.State → Type 0
Follows A B S y x' = (piece : List B.Step) × (y' : B.State) × (leads B y piece ≡ Some y') × S x' y'

-- S holds at the start, each step of A keeps it, and where it holds so does R
pub record Simulates (A B : System) (S R : A.State → B.State → Type 0) : Type 0 where
  pub holds : (x : A.State) (y : B.State) → S x y → R x y
  pub begins : Follows A B S B.start A.start
  pub step : (x x' : A.State) (y : B.State) (a : A.Step) → S x y → A.next x a ≡ Some x' → Follows A B S y x'

module _ (A B : System) (S R : A.State → B.State → Type 0) (sim : Simulates A B S R) where
  -- every run from where S holds has its pieces
  along : (steps : List A.Step) (x : A.State) (y : B.State) → S x y → SomeIs (leads A x steps) (λ z. Unit {0}) → (pieces : List (List B.Step)) × Along A B R x y steps pieces
  along [] x y stands run = ([], sim.holds x y stands)
  along (a ∷ steps) x y stands run = go (along steps) (A.next x a) refl run
    where
      go : ((x' : A.State) (y' : B.State) → S x' y' → SomeIs (leads A x' steps) (λ z. Unit {0}) → (pieces : List (List B.Step)) × Along A B R x' y' steps pieces) → (o : Option A.State) → A.next x a ≡ o → SomeIs (and_then o (λ z. leads A z steps)) (λ z. Unit {0}) → (pieces : List (List B.Step)) × Along A B R x y (a ∷ steps) pieces
      go next None e r = absurd r
      go next (Some x') e r =
          let p = sim.step x x' y a stands e in
          let q = next x' p.1 p.3 r in
          let there = subst (λ o. SomeIs o (λ y'. Along A B R x' y' steps q.0)) (sym p.2) q.1 in
          let both = subst (λ o. SomeIs o (λ z. SomeIs (leads B y p.0) (λ y'. Along A B R z y' steps q.0))) (sym e) there in
          (p.0 ∷ q.0, (sim.holds x y stands, both))

  pub beside : (steps : List A.Step) → IsRun A steps → Beside A B R steps
  beside steps run =
      let b = sim.begins in
      let q = along steps A.start b.1 b.3 run in
      record { first = b.0; pieces = q.0; along = subst (λ o. SomeIs o (λ y. Along A B R A.start y steps q.0)) (sym b.2) q.1 }

pub refines_by : (A B : System) (S R : A.State → B.State → Type 0) → Simulates A B S R → Refines A B R
refines_by A B S R sim = record { by = beside A B S R sim }
