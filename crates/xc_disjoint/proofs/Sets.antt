-- Footprints by their sets of numbers.
use Rattle.std.proofs.Common.{◌≡◌, ℕ, Bool, true, false, ◌||◌, cond, List, [], ◌∷◌, nat_eq, Result, Ok, Err, OnOk, IfOk, refl, sym, ap, ◌∙◌, arith}
use Rattle.std.specs.List.{list_any}
use Rattle.std.proofs.lemmas.Bool.Decides.{nat_tests}
use Rattle.xc_kernel.specs.declared.statement.KRes.{KRes}
use Rattle.xc_kernel.specs.declared.statement.KRes.TheVariants.{Port, Timer, Chan}
use Rattle.xc_kernel.specs.Things.{Thing, variable, change, port, timer, channel}
use Rattle.xc_disjoint.specs.declared.footprint.Footprint.{Footprint}
use Rattle.xc_disjoint.specs.Footprints.{Uses, nothing, both, read_of, change_of, port_of, timer_of, of_resource, Numbers, members, with_one, with_all, uses_in}
use Rattle.xc_disjoint.proofs.FootprintSteps.{same_uses, or_false, both_nothing}

pub on_ok : {A E P Q : Type 0} (r : Result A E) → (P → Q) → OnOk r P → OnOk r Q
on_ok (Ok a) f p = f p
on_ok (Err e) f p = tt

pub if_ok : {A E : Type 0} {P Q : A → Type 0} (r : Result A E) → ((x : A) → P x → Q x) → IfOk r P → IfOk r Q
if_ok (Ok a) f p = f a p
if_ok (Err e) f p = tt

same_numbers : {f g : Numbers} → ((n : ℕ) → f n ≡ g n) → f ≡ g
same_numbers h = λ j n. h n j

or_true : (a : Bool) → (a || true) ≡ true
or_true true = refl
or_true false = refl

symmetric : (a b : ℕ) → nat_eq a b ≡ nat_eq b a
symmetric a b = grind (arith, nat_tests)

pub inserted : (old new : List ℕ) (k : ℕ) → ((q : ℕ) → list_any (nat_eq q) new ≡ cond (nat_eq k q) true (list_any (nat_eq q) old)) → members new ≡ with_one (members old) k
unfolding members with_one
inserted old new k puts = same_numbers (λ q. puts q ∙ at q (nat_eq k q) refl)
  where
    at : (q : ℕ) (b : Bool) → nat_eq k q ≡ b → cond (nat_eq k q) true (list_any (nat_eq q) old) ≡ (list_any (nat_eq q) old || nat_eq q k)
    at q true e = rw (symmetric q k, e) (sym (or_true (list_any (nat_eq q) old)))
    at q false e = rw (symmetric q k, e) (sym (or_false (list_any (nat_eq q) old)))

-- numbers that are put one behind the other
abbrev pub with_each : Numbers → List ℕ → Numbers
with_each f [] = f
with_each f (n ∷ ns) = with_each (with_one f n) ns

or_assoc : (a b c : Bool) → ((a || b) || c) ≡ (a || (b || c))
or_assoc true b c = refl
or_assoc false b c = refl

pub each_is_all : (f : Numbers) (ns : List ℕ) → with_each f ns ≡ with_all f (members ns)
unfolding members with_one with_all
each_is_all f [] = same_numbers (λ q. sym (or_false (f q)))
each_is_all f (n ∷ ns) = each_is_all (with_one f n) ns ∙ same_numbers (λ q. or_assoc (f q) (nat_eq q n) (list_any (nat_eq q) ns))

or_swap : (a b : Bool) → (a || b) ≡ (b || a)
or_swap true b = sym (or_true b)
or_swap false b = sym (or_false b)

pub swapped : (f g : Numbers) → with_all f g ≡ with_all g f
unfolding with_all
swapped f g = same_numbers (λ q. or_swap (f q) (g q))

module _ (f g : Footprint) where
  -- by what is put into each set
  put : (h : Uses) → ((n : ℕ) → members g.used.keys n ≡ (members f.used.keys n || h (variable n))) → ((n : ℕ) → members g.changed.keys n ≡ (members f.changed.keys n || h (change n))) →
      ((n : ℕ) → members g.ports.keys n ≡ (members f.ports.keys n || h (port n))) → ((n : ℕ) → members g.timers.keys n ≡ (members f.timers.keys n || h (timer n))) → ((n : ℕ) → h (channel n) ≡ false) → uses_in g ≡ both (uses_in f) h
  unfolding uses_in both
  put h u c p t none = same_uses by
    where
      by : (th : Thing) → uses_in g th ≡ (uses_in f th || h th)
      by (variable n) = u n
      by (change n) = c n
      by (port n) = p n
      by (timer n) = t n
      by (channel n) = sym (none n)

  same : (xs ys : List ℕ) (n : ℕ) → ys ≡ xs → members ys n ≡ (members xs n || false)
  same xs ys n e = ap (λ ns. members ns n) e ∙ sym (or_false (members xs n))

  pub reads : (v : ℕ) → members g.used.keys ≡ with_one (members f.used.keys) v → g.changed.keys ≡ f.changed.keys → g.ports.keys ≡ f.ports.keys → g.timers.keys ≡ f.timers.keys → uses_in g ≡ both (uses_in f) (read_of v)
  unfolding read_of with_one
  reads v u c p t = put (read_of v) (λ n. ap (λ s. s n) u) (λ n. same f.changed.keys g.changed.keys n c) (λ n. same f.ports.keys g.ports.keys n p) (λ n. same f.timers.keys g.timers.keys n t) (λ n. refl)

  pub changes : (v : ℕ) → members g.used.keys ≡ with_one (members f.used.keys) v → members g.changed.keys ≡ with_one (members f.changed.keys) v → g.ports.keys ≡ f.ports.keys → g.timers.keys ≡ f.timers.keys → uses_in g ≡ both (uses_in f) (change_of v)
  unfolding change_of with_one
  changes v u c p t = put (change_of v) (λ n. ap (λ s. s n) u) (λ n. ap (λ s. s n) c) (λ n. same f.ports.keys g.ports.keys n p) (λ n. same f.timers.keys g.timers.keys n t) (λ n. refl)

  pub takes_port : (r : KRes) (m : ℕ) → r ≡ Port m → members g.ports.keys ≡ with_one (members f.ports.keys) m → g.used.keys ≡ f.used.keys → g.changed.keys ≡ f.changed.keys → g.timers.keys ≡ f.timers.keys → uses_in g ≡ both (uses_in f) (of_resource r)
  unfolding port_of with_one
  takes_port r m e p u c t =
      put (port_of m) (λ n. same f.used.keys g.used.keys n u) (λ n. same f.changed.keys g.changed.keys n c) (λ n. ap (λ s. s n) p) (λ n. same f.timers.keys g.timers.keys n t) (λ n. refl)
      ∙ ap (λ x. both (uses_in f) (of_resource x)) (sym e)

  pub takes_timer : (r : KRes) (m : ℕ) → r ≡ Timer m → members g.timers.keys ≡ with_one (members f.timers.keys) m → g.used.keys ≡ f.used.keys → g.changed.keys ≡ f.changed.keys → g.ports.keys ≡ f.ports.keys → uses_in g ≡ both (uses_in f) (of_resource r)
  unfolding timer_of with_one
  takes_timer r m e t u c p =
      put (timer_of m) (λ n. same f.used.keys g.used.keys n u) (λ n. same f.changed.keys g.changed.keys n c) (λ n. same f.ports.keys g.ports.keys n p) (λ n. ap (λ s. s n) t) (λ n. refl)
      ∙ ap (λ x. both (uses_in f) (of_resource x)) (sym e)

  pub joins : (h : Footprint) → members g.used.keys ≡ with_all (members f.used.keys) (members h.used.keys) → members g.changed.keys ≡ with_all (members f.changed.keys) (members h.changed.keys) →
      members g.ports.keys ≡ with_all (members f.ports.keys) (members h.ports.keys) → members g.timers.keys ≡ with_all (members f.timers.keys) (members h.timers.keys) → uses_in g ≡ both (uses_in f) (uses_in h)
  unfolding uses_in with_all
  joins h u c p t = put (uses_in h) (λ n. ap (λ s. s n) u) (λ n. ap (λ s. s n) c) (λ n. ap (λ s. s n) p) (λ n. ap (λ s. s n) t) (λ n. refl)

pub takes_channel : (f : Footprint) (r : KRes) (m : ℕ) → r ≡ Chan m → uses_in f ≡ both (uses_in f) (of_resource r)
takes_channel f r m e = sym (both_nothing (uses_in f)) ∙ ap (λ x. both (uses_in f) (of_resource x)) (sym e)

pub begins : (f : Footprint) → f.used.keys ≡ [] → f.changed.keys ≡ [] → f.ports.keys ≡ [] → f.timers.keys ≡ [] → uses_in f ≡ nothing
unfolding uses_in nothing members
begins f u c p t = same_uses by
  where
    by : (th : Thing) → uses_in f th ≡ false
    by (variable n) = ap (λ ns. list_any (nat_eq n) ns) u
    by (change n) = ap (λ ns. list_any (nat_eq n) ns) c
    by (port n) = ap (λ ns. list_any (nat_eq n) ns) p
    by (timer n) = ap (λ ns. list_any (nat_eq n) ns) t
    by (channel n) = refl
