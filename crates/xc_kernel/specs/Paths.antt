-- Paths. A path names an instance: the places of the calls and the indices of the branches that lead to it, and the place
-- where it is declared.
use Rattle.std.specs.Prelude.{ℕ, suc, ◌^◌, ◌%◌, ◌/◌, Bool, true, false, List, [], ◌∷◌, ◌++◌, ◌||◌, nat_eq}
use Rattle.std.specs.Cmp.Lexicographic.{pointwise}
use Rattle.xw_words.specs.declared.pos.Pos.{Pos}

abbrev pub Path : Type 0
Path = List ℕ

-- From an instance to what is called or declared in it at a place. A path has line and column for each step, and not one number, as
-- the tree has no other names for its places.
abbrev pub path_at : Path → Pos → Path
path_at path pos = path ++ pos.line ∷ pos.col ∷ []

-- From an instance to a branch of a `par` in it, by the two words of the branch's index, the low one first; no line has the
-- number 0. A 0 stands before each of the two words. So every index of a `par` has a path, and no two have the same.
abbrev pub path_of_branch : Path → ℕ → Path
path_of_branch path index = path ++ 0 ∷ index % 2 ^ 32 ∷ 0 ∷ index / 2 ^ 32 ∷ []

-- from the block that `break` leaves to the one in it that `continue` leaves
abbrev pub path_of_turn : Path → Path
path_of_turn path = path ++ 0 ∷ []

-- whether two paths are the same
abbrev pub is_same : Path → Path → Bool
is_same = pointwise nat_eq

-- `place_of_path`, by cases
abbrev pub place_by : Bool → ℕ → ℕ
place_by true behind = 0
place_by false behind = suc behind

-- the place of the first instance with a path
abbrev pub place_of_path : {V : Type 0} → (V → Path) → List V → Path → ℕ
place_of_path path_of [] path = 0
place_of_path path_of (x ∷ xs) path = place_by (is_same (path_of x) path) (place_of_path path_of xs path)

-- whether some instance has a path
abbrev pub has_path : {V : Type 0} → (V → Path) → List V → Path → Bool
has_path path_of [] path = false
has_path path_of (x ∷ xs) path = is_same (path_of x) path || has_path path_of xs path

-- `with_new`, by cases
abbrev pub with_by : {V : Type 0} → List V → V → Bool → List V
with_by xs x true = xs
with_by xs x false = xs ++ x ∷ []

-- one more instance, where none has its path yet
abbrev pub with_new : {V : Type 0} → (V → Path) → List V → V → List V
with_new path_of xs x = with_by xs x (has_path path_of xs (path_of x))

-- those of a list behind others, each path once
abbrev pub with_all : {V : Type 0} → (V → Path) → List V → List V → List V
with_all path_of known [] = known
with_all path_of known (x ∷ xs) = with_all path_of (with_new path_of known x) xs

-- each path once, in order of first sight
abbrev pub each_once : {V : Type 0} → (V → Path) → List V → List V
each_once path_of xs = with_all path_of [] xs
