-- Copies of communications.
use Rattle.std.proofs.Common.{◌≡◌, List, [], ◌∷◌, ◌++◌, refl, ◌∙◌, append-nil}
use Rattle.xc_tree.specs.Plain as tree
use Rattle.xc_kernel.specs.Plain as kernel
use Rattle.xc_kernel.specs.Scopes.{Scope, entity_of}
use Rattle.xc_kernel.specs.Copy.{Copy, no_copy, joined, with_code}
use Rattle.xc_kernel.specs.Context.{Context}
use Rattle.xc_kernel.specs.Transfers.{channel_of, naming, target_copy}
use Rattle.std.proofs.Common.{ℕ}

-- a target names no channel
pub target_named : (c : Context) (scope : Scope) (t : tree.Target) → (target_copy c scope t).named ≡ []
target_named c scope (tree.to e) = refl
target_named c scope tree.dropped = refl
target_named c scope (tree.fresh u name) = refl

-- a communication's channel, and behind it what names none
pub names_joined : (scope : Scope) (name : List ℕ) {named other both : Copy} {before : Scope} (copy : Copy) → named ≡ naming scope name (no_copy before) → other ≡ copy → copy.named ≡ [] → both ≡ joined named other → both ≡ naming scope name copy
names_joined scope name copy named other none both =
    both ∙ (λ i. joined (named i) (other i))
    ∙ (λ i. record copy { named = channel_of (entity_of scope name) ++ none i })
    ∙ λ i. record copy { named = append-nil (channel_of (entity_of scope name)) i }

-- a statement in the place of none
pub coded : (copy : Copy) {names added : Copy} {s t : kernel.Statement} → copy.code ≡ [] → names ≡ copy → s ≡ t → added ≡ with_code names (names.code ++ s ∷ []) → added ≡ with_code copy (t ∷ [])
coded copy {t = t} none names s added = added ∙ (λ i. with_code (names i) ((names i).code ++ s i ∷ [])) ∙ λ i. with_code copy (none i ++ t ∷ [])

-- a target has no statement
pub target_code : (c : Context) (scope : Scope) (t : tree.Target) → (target_copy c scope t).code ≡ []
target_code c scope (tree.to e) = refl
target_code c scope tree.dropped = refl
target_code c scope (tree.fresh u name) = refl
