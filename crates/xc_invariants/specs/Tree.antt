-- The tree of the branches of a state: which branch waits for which.
use Rattle.std.specs.Prelude.{◌≡◌, ◌⊎◌, ℕ, ◌+◌, ◌-◌, ◌<◌, ◌≤◌, List, [], length, Some, None, slice_get}
use Rattle.xc_meaning.specs.States.Branches.{Mode, waits, ended, erred, Branch}
use Rattle.xc_meaning.specs.Settings.Par.{family_of}

-- a branch waits for another
pub record IsChild (bs : List Branch) (n k : ℕ) : Type 0 where
  pub parent : Branch
  pub is : slice_get bs n ≡ Some parent
  pub from : ℕ
  pub count : ℕ
  pub waiting : parent.mode ≡ waits from count
  pub least : from ≤ k
  pub less : k < from + count

-- or for one that waits for it, at any depth
pub data Above (bs : List Branch) : ℕ → ℕ → Type 0 where
  directly : {n k : ℕ} → IsChild bs n k → Above bs n k
  further : {n k m : ℕ} → IsChild bs n k → Above bs k m → Above bs n m

abbrev pub IsWaiting : Mode → Type 0
IsWaiting (waits from count) = Unit {0}
IsWaiting mode = ⊥

-- how a branch that waits and one for which it waits go together
pub record IsOwn (p : Branch) (from count : ℕ) (k : ℕ) (c : Branch) : Type 0 where
  pub core : c.core ≡ p.core
  pub birth : c.birth ≡ Some (record { family = p.family; index = k - from; among = count })
  pub family : c.family ≡ family_of p.family k (k - from)

-- The branches are a forest on so many roots: each branch waits for later ones of its own, each but the roots is waited for by at
-- most one, and a branch that has ended or erred has nothing left.
pub record IsForest (roots : ℕ) (bs : List Branch) : Type 0 where
  pub stopped : (n : ℕ) (b : Branch) → slice_get bs n ≡ Some b → (b.mode ≡ ended) ⊎ (b.mode ≡ erred) → b.items ≡ []
  pub all_there : roots ≤ length bs
  pub family : (n k : ℕ) (p : Branch) (from count : ℕ) → slice_get bs n ≡ Some p → p.mode ≡ waits from count → (n < from) × (roots ≤ from) × (0 < count) × (from + count ≤ length bs)
  pub own : (n k : ℕ) (p c : Branch) (from count : ℕ) → slice_get bs n ≡ Some p → p.mode ≡ waits from count → from ≤ k → k < from + count → slice_get bs k ≡ Some c → IsOwn p from count k c
  pub one_parent : (n m k : ℕ) → IsChild bs n k → IsChild bs m k → n ≡ m
  pub born : (n : ℕ) (b : Branch) → slice_get bs n ≡ Some b → n < roots → b.birth ≡ None

-- Of two branches neither of which is above the other this holds.
pub record Unrelated (R : Branch → Branch → Type 0) (bs : List Branch) : Type 0 where
  pub pair : (n m : ℕ) (b c : Branch) → slice_get bs n ≡ Some b → slice_get bs m ≡ Some c → (n ≡ m → ⊥) → Above bs n m ⊎ (Above bs m n ⊎ R b c)

-- A branch is present where it is a root, or where one that is present waits for it.
pub data IsPresent (roots : ℕ) (bs : List Branch) : ℕ → Type 0 where
  root : {n : ℕ} → n < roots → IsPresent roots bs n
  child : {n k : ℕ} → IsPresent roots bs n → IsChild bs n k → IsPresent roots bs k
