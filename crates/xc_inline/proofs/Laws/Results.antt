-- A call's result that is given on as it is, and what is said of it.
use Rattle.std.proofs.Common.{Result, Ok, Err, IfOk, OnOk}
use Rattle.std.specs.Result.{IsErr}
use Rattle.std.proofs.lemmas.Result.{IfOk-from_err}

module _ {T E : Type 0} where
  pub given_on : (r : Result T E) {P Q : T → Type 0} → IfOk r P → ((x : T) → P x → Q x) → IfOk r Q
  given_on (Ok x) h f = f x h
  given_on (Err why) h f = h

  pub given_on_both : (r : Result T E) {P R Q : T → Type 0} → IfOk r P → IfOk r R → ((x : T) → P x → R x → Q x) → IfOk r Q
  given_on_both (Ok x) h k f = f x h k
  given_on_both (Err why) h k f = h

  pub given_on_ok : (r : Result T E) {P Q : Type 0} → OnOk r P → (P → Q) → OnOk r Q
  given_on_ok (Ok x) h f = f h
  given_on_ok (Err why) h f = h

  -- what is so in any case
  pub if_given : (r : Result T E) {P : Type 0} → P → OnOk r P
  if_given (Ok x) p = p
  if_given (Err why) p = tt

  -- of an error nothing is said
  pub on_error : (r : Result T E) (P : Type 0) → IsErr r → OnOk r P
  on_error r P h = IfOk-from_err r (λ x. P) h
