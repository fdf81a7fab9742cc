-- A core has no more ports than there are identifiers.
use Rattle.std.proofs.Common.{◌≡◌, ◌≢◌, ◌⊎◌, inl, inr, ⊎_elim, ℕ, suc, ◌+◌, ◌<◌, ◌≤◌, Bool, true, false, ◌||◌, cond, List, [], ◌∷◌, length, map, sum_by, nat_eq, eqb, refl, sym, ap, true≢false, arith}
use Rattle.std.specs.List.{AllByRecursion, IsDistinct, list_any}
use Rattle.std.proofs.lemmas.List.Sums.{sum_by-cons}
use Rattle.std.proofs.lemmas.Map.Steps.{length-le_from_distinct_below}
use Rattle.xw_words.specs.Ports.{port_count}
use Rattle.xc_kernel.specs.declared.kernel.PortUse.{PortUse}
use Rattle.xc_disjoint.specs.Cores.{if_so}
use Rattle.xl_plan.specs.Layout.{ports_here}
use Rattle.xl_plan.specs.Planned.{IsNewPort, ArePortsApart, ports_on}

abbrev id_of : PortUse → ℕ
id_of p = p.id

or_true : (a b : Bool) → (a || b) ≡ true → (a ≡ true) ⊎ (b ≡ true)
or_true true b e = inl refl
or_true false b e = inr e

not_equal : (a b : ℕ) → a ≢ b → eqb a b ≡ false
not_equal a b h = grind arith

equal : (a b : ℕ) → eqb a b ≡ true → a ≡ b
equal a b e = grind arith

all_new : (id : ℕ) (ps : List PortUse) → IsNewPort id ps → AllByRecursion (λ y. eqb id y ≡ false) (map id_of ps)
all_new id [] h = tt
all_new id (p ∷ ps) h = (not_equal id p.id h.0, all_new id ps h.1)

distinct : (ps : List PortUse) → ArePortsApart ps → IsDistinct eqb (map id_of ps)
unfolding IsDistinct
distinct [] h = tt
distinct (p ∷ ps) h = (all_new p.id ps h.1, distinct ps h.2)

below : (ps : List PortUse) → ArePortsApart ps → (q : ℕ) → list_any (eqb q) (map id_of ps) ≡ true → q < port_count
below [] h q e = absurd (true≢false (sym e))
below (p ∷ ps) h q e = ⊎_elim (λ f. let same = equal q p.id f in let lt = h.0 in omega arith) (below ps h.2 q) (or_true (eqb q p.id) _ e)

as_long : (ps : List PortUse) → length (map id_of ps) ≡ length ps
as_long [] = refl
as_long (p ∷ ps) = ap (λ n. suc n) (as_long ps)

few : (ps : List PortUse) → ArePortsApart ps → length ps ≤ port_count
few ps h =
    let a = length-le_from_distinct_below (map id_of ps) port_count (distinct ps h) (below ps h) in
    let b = as_long ps in
    omega arith

counted : (b : Bool) (p : PortUse) (ps : List PortUse) → length (cond b (p ∷ ps) ps) ≡ if_so b 1 + length ps
counted true p ps = omega arith
counted false p ps = omega arith

number_of : (core : ℕ) (ps : List PortUse) → sum_by (ports_here core) ps ≡ length (ports_on core ps)
number_of core [] = refl
number_of core (p ∷ ps) =
    let h = number_of core ps in
    let s = sum_by-cons (ports_here core) p ps in
    let c = counted (nat_eq p.core core) p (ports_on core ps) in
    omega arith

pub few_ports : (core : ℕ) (ps : List PortUse) → ArePortsApart (ports_on core ps) → sum_by (ports_here core) ps ≤ port_count
few_ports core ps h =
    let a = few (ports_on core ps) h in
    let b = number_of core ps in
    omega arith
