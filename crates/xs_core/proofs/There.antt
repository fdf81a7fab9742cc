-- What is read at a place that is there.
use Rattle.std.proofs.Common.{◌≡◌, ◌<◌, ℕ, List, Some, length, get_or, slice_get}
use Rattle.std.proofs.lemmas.Option.{slice_get-get_or}

pub there : {X : Type 0} (xs : List X) (i : ℕ) (d : X) → i < length xs → slice_get xs i ≡ Some (get_or xs i d)
there xs i d lt = slice_get-get_or xs i d lt
