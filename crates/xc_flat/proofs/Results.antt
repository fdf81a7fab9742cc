-- What two values are that could be made.
use Rattle.std.proofs.Common.{◌≡◌, ap, subst, ◌∙◌}
use Rattle.std.specs.Prelude.{Result, Ok, Err, IfOk}

-- what is known of the first of them
pub known_first : {T A X E : Type 0} (r : Result T E) (first : T → A) (f : A → X) (a : A) (x : X) → IfOk r (λ p. first p ≡ a) → f a ≡ x → IfOk r (λ p. f (first p) ≡ x)
known_first (Ok p) first f a x e g = ap f e ∙ g
known_first (Err m) first f a x e g = tt

-- what is known of the second, where it was made
pub known_second : {T B E : Type 0} (r : Result T E) (second : T → B) (made : Result B E) (P : B → Type 0) → IfOk r (λ p. made ≡ Ok (second p)) → IfOk made P → IfOk r (λ p. P (second p))
known_second (Ok p) second made P e g = subst (λ m. IfOk m P) e g
known_second (Err m) second made P e g = tt
