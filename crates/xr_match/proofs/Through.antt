-- Where A's runs have runs of B beside them, and those have runs of C, A's have runs of C.
use Rattle.std.proofs.Common.{◌≡◌, List, [], ◌∷◌, ◌++◌, Option, Some, None, refl, sym, subst, ap, ◌∙◌}
use Rattle.std.proofs.lemmas.Option.{same_Some}
use Rattle.xs_instr.specs.Machine.{and_then}
use Rattle.xr_match.specs.Systems.{System, SomeIs, concat, leads, Along, Beside, Refines}

pub there_get : {A : Type 0} (F : A → Type 0) (o : Option A) → SomeIs o F → (x : A) × (o ≡ Some x) × F x
there_get F None h = absurd h
there_get F (Some x) h = (x, refl, h)

pub there_put : {A : Type 0} (F : A → Type 0) (o : Option A) (x : A) → o ≡ Some x → F x → SomeIs o F
there_put F o x e h = subst (λ p. SomeIs p F) (sym e) h

behind_one : {A B C : Type 0} (f : A → Option C) (g : A → Option B) (k : B → Option C) → ((y : A) → f y ≡ and_then (g y) k) → (o : Option A) → and_then o f ≡ and_then (and_then o g) k
behind_one f g k h None = refl
behind_one f g k h (Some y) = h y

module _ (A : System) where
  -- steps behind others
  leads_behind : (before behind : List A.Step) (x : A.State) → leads A x (before ++ behind) ≡ and_then (leads A x before) (λ y. leads A y behind)
  leads_behind [] behind x = refl
  leads_behind (a ∷ before) behind x = behind_one (λ y. leads A y (before ++ behind)) (λ y. leads A y before) (λ y. leads A y behind) (λ y. leads_behind before behind y) (A.next x a)

  pub leads_both : (before behind : List A.Step) (x y : A.State) → leads A x before ≡ Some y → leads A x (before ++ behind) ≡ leads A y behind
  leads_both before behind x y e = leads_behind before behind x ∙ ap (λ (o : Option A.State). and_then o (λ z. leads A z behind)) e

module _ (A B : System) (R : A.State → B.State → Type 0) where
  -- the pieces beside a run are a run
  pieces_run : (steps : List A.Step) (pieces : List (List B.Step)) (x : A.State) (y : B.State) → Along A B R x y steps pieces → SomeIs (leads B y (concat pieces)) (λ z. Unit {0})
  pieces_run [] [] x y h = tt
  pieces_run [] (p ∷ ps) x y h = absurd h
  pieces_run (a ∷ steps) [] x y h = absurd h
  pieces_run (a ∷ steps) (p ∷ ps) x y h =
      let one = there_get (λ x'. SomeIs (leads B y p) (λ y'. Along A B R x' y' steps ps)) (A.next x a) h.1 in
      let two = there_get (λ y'. Along A B R one.0 y' steps ps) (leads B y p) one.2 in
      subst (λ o. SomeIs o (λ z. Unit {0})) (sym (leads_both B p (concat ps) y two.0 two.1)) (pieces_run steps ps one.0 two.0 two.2)

  -- they stand so at first
  now : (steps : List A.Step) (pieces : List (List B.Step)) (x : A.State) (y : B.State) → Along A B R x y steps pieces → R x y
  now [] [] x y h = h
  now [] (p ∷ ps) x y h = absurd h
  now (a ∷ steps) [] x y h = absurd h
  now (a ∷ steps) (p ∷ ps) x y h = h.0

  -- a run beside the front of another, and the rest beside its rest
  split : (before behind : List A.Step) (pieces : List (List B.Step)) (x x' : A.State) (y : B.State) → leads A x before ≡ Some x' → Along A B R x y (before ++ behind) pieces →
      (piece : List B.Step) × (rest : List (List B.Step)) × (y' : B.State) × (leads B y piece ≡ Some y') × Along A B R x' y' behind rest
  split [] behind pieces x x' y e h = ([], pieces, y, refl, subst (λ z. Along A B R z y behind pieces) (same_Some x x' e) h)
  split (a ∷ before) behind [] x x' y e h = absurd h
  split (a ∷ before) behind (p ∷ ps) x x' y e h =
      let one = there_get (λ z. SomeIs (leads B y p) (λ w. Along A B R z w (before ++ behind) ps)) (A.next x a) h.1 in
      let two = there_get (λ w. Along A B R one.0 w (before ++ behind) ps) (leads B y p) one.2 in
      let on : leads A one.0 before ≡ Some x' = ap (λ (o : Option A.State). and_then o (λ z. leads A z before)) (sym one.1) ∙ e in
      let rest = split before behind ps one.0 x' two.0 on two.2 in
      (p ++ rest.0, rest.1, rest.2, leads_both B p rest.0 y two.0 two.1 ∙ rest.3, rest.4)

module _ (A B C : System) (R : A.State → B.State → Type 0) (S : B.State → C.State → Type 0) (T : A.State → C.State → Type 0) (both : (x : A.State) (y : B.State) (z : C.State) → R x y → S y z → T x z) where
  through : (steps : List A.Step) (pieces : List (List B.Step)) (others : List (List C.Step)) (x : A.State) (y : B.State) (z : C.State) →
      Along A B R x y steps pieces → Along B C S y z (concat pieces) others → (outs : List (List C.Step)) × Along A C T x z steps outs
  through [] [] others x y z h k = ([], both x y z h (now B C S [] others y z k))
  through [] (p ∷ ps) others x y z h k = absurd h
  through (a ∷ steps) [] others x y z h k = absurd h
  through (a ∷ steps) (p ∷ ps) others x y z h k =
      let one = there_get (λ x'. SomeIs (leads B y p) (λ y'. Along A B R x' y' steps ps)) (A.next x a) h.1 in
      let two = there_get (λ y'. Along A B R one.0 y' steps ps) (leads B y p) one.2 in
      let cut = split B C S p (concat ps) others y two.0 z two.1 k in
      let rest = through steps ps cut.1 one.0 two.0 cut.2 two.2 cut.4 in (
        cut.0 ∷ rest.0,
        (
          both x y z h.0 (now B C S (p ++ concat ps) others y z k),
          there_put (λ x'. SomeIs (leads C z cut.0) (λ z'. Along A C T x' z' steps rest.0)) (A.next x a) one.0 one.1
              (there_put (λ z'. Along A C T one.0 z' steps rest.0) (leads C z cut.0) cut.2 cut.3 rest.1),
        ),
      )

  beside_both : Refines B C S → (steps : List A.Step) → Beside A B R steps → Beside A C T steps
  beside_both second steps first =
      let at_first = there_get (λ y. Along A B R A.start y steps first.pieces) (leads B B.start first.first) first.along in
      let run = subst (λ o. SomeIs o (λ y. Unit {0})) (sym (leads_both B first.first (concat first.pieces) B.start at_first.0 at_first.1)) (pieces_run A B R steps first.pieces A.start at_first.0 at_first.2) in
      let other = second.by (first.first ++ concat first.pieces) run in
      let at_other = there_get (λ z. Along B C S B.start z (first.first ++ concat first.pieces) other.pieces) (leads C C.start other.first) other.along in
      let cut = split B C S first.first (concat first.pieces) other.pieces B.start at_first.0 at_other.0 at_first.1 at_other.2 in
      let rest = through steps first.pieces cut.1 A.start at_first.0 cut.2 at_first.2 cut.4 in
      record {
        first = other.first ++ cut.0;
        pieces = rest.0;
        along = there_put (λ z. Along A C T A.start z steps rest.0) (leads C C.start (other.first ++ cut.0)) cut.2 (leads_both C other.first cut.0 C.start at_other.0 at_other.1 ∙ cut.3) rest.1;
      }

  pub refines_through : Refines A B R → Refines B C S → Refines A C T
  refines_through first second = record { by = λ steps run. beside_both second steps (first.by steps run) }
