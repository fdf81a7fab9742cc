-- A list of cores to which one is added.
use Rattle.std.proofs.Common.{◌≡◌, ◌≤◌, ◌∙◌, ℕ, zero, suc, List, [], ◌∷◌, ◌++◌, map, Some, None, Result, Ok, Err, OnOk, sym, ap, subst, arith}
use Rattle.std.proofs.lemmas.List.{map-append}
use Rattle.std.proofs.lemmas.Option.{same_Some}
use Rattle.xs_core.specs.Core.{Seen as Core}
use Rattle.xs_fabric.specs.Kept.{AreIdle}
use Rattle.xs_fabric.specs.Rooms.{IsIdle}

module _ {T E : Type 0} where
  -- what follows where there is a value
  pub on_ok : (r : Result T E) {P Q : Type 0} → (P → Q) → OnOk r P → OnOk r Q
  on_ok (Ok x) f h = f h
  on_ok (Err why) f h = h

pub mapped : {A : Type 0} (f : Core → A) (cores cores' : List Core) (core new : Core) → f new ≡ f core → cores' ≡ cores ++ new ∷ [] → map f cores' ≡ map f cores ++ f core ∷ []
mapped f cores cores' core new same is =
    ap (map f) is ∙ map-append f cores (new ∷ []) ∙ ap (λ x. map f cores ++ x ∷ []) same

none_there : (core : Core) → None ≡ Some core → ⊥
none_there core h = cc

idle_last : (cores : List Core) (new : Core) → AreIdle cores → IsIdle new → AreIdle (cores ++ new ∷ [])
idle_last [] new all one zero k h = subst (λ (x : Core). IsIdle x) (same_Some new k h) one
idle_last [] new all one (suc i) k h = absurd (none_there k h)
idle_last (c ∷ cores) new all one zero k h = all zero k h
idle_last (c ∷ cores) new all one (suc i) k h = idle_last cores new (λ j x g. all (suc j) x g) one i k h

pub idle_added : (cores cores' : List Core) (new : Core) → IsIdle new → cores' ≡ cores ++ new ∷ [] → AreIdle cores → AreIdle cores'
idle_added cores cores' new one is all = subst (λ (x : List Core). AreIdle x) (sym is) (idle_last cores new all one)

pub room_enough : (n : ℕ) → 256 ≤ n → 32 ≤ n
room_enough n h = omega (arith, h)

pub no_idle : (cores : List Core) → cores ≡ [] → AreIdle cores
no_idle cores is = subst (λ (x : List Core). AreIdle x) (sym is) (λ i core h. absurd (none_there core h))

pub four_added : {A : Type 0} (xs ys zs vs ws : List A) (a b c d : A) → xs ≡ [] → ys ≡ xs ++ a ∷ [] → zs ≡ ys ++ b ∷ [] → vs ≡ zs ++ c ∷ [] → ws ≡ vs ++ d ∷ [] → ws ≡ a ∷ b ∷ c ∷ d ∷ []
four_added xs ys zs vs ws a b c d none y z v w =
    w ∙ ap (λ l. l ++ d ∷ []) (v ∙ ap (λ l. l ++ c ∷ []) (z ∙ ap (λ l. l ++ b ∷ []) (y ∙ ap (λ l. l ++ a ∷ []) none)))
