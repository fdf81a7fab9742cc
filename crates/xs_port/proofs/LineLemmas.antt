-- What one line of the stimulus more says of the pins.
use Rattle.std.proofs.Common.{◌≡◌, ◌≢◌, ℕ, ◌+◌, ◌<◌, ◌≤◌, Bool, true, false, ◌&&◌, List, [], ◌∷◌, length, get_or, set, drop, subst, add-one, drop-cons, nat_eq, nat_le, refl, sym, ap, ◌∙◌, arith, eq-eqb, get_or-set_same, get_or-set_other, inl, inr}
use Rattle.std.proofs.lemmas.List.{drop_all}
use Rattle.std.proofs.lemmas.Bool.Decides.{eqb_tells, leb_tells}
use Rattle.xs_instr.specs.declared.image.StimLine.{StimLine}
use Rattle.xs_instr.specs.Ports.{line_by, line_speaks, pins_from}
use Rattle.xs_instr.specs.Valid.{AreGoodLines}
use Rattle.xs_port.specs.Lines.{Used}

-- a line whose tests all hold speaks
all_hold : (v last : ℕ) (a b c : Bool) → a ≡ true → b ≡ true → c ≡ true → line_by v last (a && b && c) ≡ v
all_hold v last true true true p q r = refl
all_hold v last false b c p q r = cc
all_hold v last true false c p q r = cc
all_hold v last true true false p q r = cc

-- a line with a test that fails says nothing
first_fails : (v last : ℕ) (a b c : Bool) → a ≡ false → line_by v last (a && b && c) ≡ last
first_fails v last false b c p = refl
first_fails v last true b c p = cc

second_fails : (v last : ℕ) (a b c : Bool) → b ≡ false → line_by v last (a && b && c) ≡ last
second_fails v last false b c p = refl
second_fails v last true false c p = refl
second_fails v last true true c p = cc

third_fails : (v last : ℕ) (a b c : Bool) → c ≡ false → line_by v last (a && b && c) ≡ last
third_fails v last false b c p = refl
third_fails v last true false c p = refl
third_fails v last true true false p = refl
third_fails v last true true true p = cc

-- numbers that differ test so
ne_test : (a b : ℕ) → a ≢ b → nat_eq a b ≡ false
ne_test a b ne = elim (eqb_tells a b) [ inl w ↦ absurd (ne w.1) | inr w ↦ w.0 ]

-- the order of numbers tests so
le_test : (a b : ℕ) → a ≤ b → nat_le a b ≡ true
le_test a b le = elim (leb_tells a b) [ inl w ↦ w.0 | inr w ↦ absurd (omega arith) ]

gt_test : (a b : ℕ) → b < a → nat_le a b ≡ false
gt_test a b lt = elim (leb_tells a b) [ inl w ↦ absurd (omega arith) | inr w ↦ w.0 ]

-- good lines that no tick is before n are good where no tick may be before an earlier m
pub good_from : (m n : ℕ) (ls : List StimLine) → m ≤ n → AreGoodLines n ls → AreGoodLines m ls
good_from m n [] le good = tt
good_from m n (l ∷ ls) le good = (omega arith, good.1, good.2, good.3, good.4)

-- good lines whose first is after the clock are all after it
pub good_after : (clock : ℕ) (l : StimLine) (ls : List StimLine) → clock < l.tick → AreGoodLines 0 (l ∷ ls) → AreGoodLines (clock + 1) (l ∷ ls)
good_after clock l ls lt good = (omega arith, good.1, good.2, good.3, good.4)

-- lines after the clock say nothing at it
pub later_same : (n : ℕ) (ls : List StimLine) (core id clock last : ℕ) → clock < n → AreGoodLines n ls → pins_from ls core id clock last ≡ last
later_same n [] core id clock last lt good = refl
later_same n (l ∷ ls) core id clock last lt good =
    ap (λ x. pins_from ls core id clock x)
    (third_fails l.value last (nat_eq l.core core) (nat_eq l.port id) (nat_le l.tick clock) (gt_test l.tick clock (omega arith)))
    ∙ later_same l.tick ls core id clock last (omega arith) good.4

-- a line of another core that is used changes nothing
pub used_far :
    (all : List StimLine) (l : StimLine) (ls : List StimLine) (core clock : ℕ) (old new : List ℕ) →
    Used all (l ∷ ls) core clock old new → l.core ≢ core → Used all ls core clock old new
used_far all l ls core clock old new used ne = record {
  same = λ t id due named. used.same t id due named
      ∙ ap (λ x. pins_from ls core id t x)
      (first_fails l.value (get_or new id 0) (nat_eq l.core core) (nat_eq l.port id) (nat_le l.tick t) (ne_test l.core core ne));
}

-- what a line of this core says of a port, once it is due
said_own :
    (l : StimLine) (core id t : ℕ) (new : List ℕ) → l.core ≡ core → l.tick ≤ t → l.port < length new →
    line_by l.value (get_or new id 0) (line_speaks l core id t) ≡ get_or (set new l.port l.value) id 0
said_own l core id t new own due «in» =
    elim (eqb_tells l.port id) [
      | inl w ↦ all_hold l.value (get_or new id 0) (nat_eq l.core core) (nat_eq l.port id) (nat_le l.tick t) (eq-eqb l.core core own) w.0 (le_test l.tick t due)
          ∙ sym (get_or-set_same new l.port l.value 0 «in»)
          ∙ ap (λ i. get_or (set new l.port l.value) i 0) w.1
      | inr w ↦ second_fails l.value (get_or new id 0) (nat_eq l.core core) (nat_eq l.port id) (nat_le l.tick t) w.0
          ∙ sym (get_or-set_other new l.port id l.value 0 (λ e. w.1 (sym e)))
    ]

-- a line of this core that is used sets its port's pins
pub used_own :
    (all : List StimLine) (l : StimLine) (ls : List StimLine) (core clock : ℕ) (old new : List ℕ) →
    Used all (l ∷ ls) core clock old new → l.core ≡ core → l.tick ≤ clock → l.port < length new →
    Used all ls core clock old (set new l.port l.value)
used_own all l ls core clock old new used own due «in» = record {
  same = λ t id later named. used.same t id later named
      ∙ ap (λ x. pins_from ls core id t x) (said_own l core id t new own (omega arith) «in»);
}

-- the line at a place, and those behind it
at_place : (lines : List StimLine) (k : ℕ) (d : StimLine) → k < length lines → drop k lines ≡ get_or lines k d ∷ drop (k + 1) lines
at_place lines k d lt = rw add-one (drop-cons lines k d lt)

-- good lines without their first
pub good_next :
    (lines : List StimLine) (k : ℕ) → k < length lines → AreGoodLines 0 (drop k lines) → AreGoodLines 0 (drop (k + 1) lines)
good_next lines k lt good =
    let line : StimLine = get_or lines k (record { tick = 0; core = 0; port = 0; value = 0 }) in
    let here : AreGoodLines 0 (line ∷ drop (k + 1) lines) =
    subst (λ (ls : List StimLine). AreGoodLines 0 ls) (at_place lines k (record { tick = 0; core = 0; port = 0; value = 0 }) lt) good in
    good_from 0 line.tick (drop (k + 1) lines) (omega arith) here.4

-- the line at a place is of another core, and is used
pub next_far :
    (all lines : List StimLine) (k : ℕ) (d : StimLine) (core clock : ℕ) (old values : List ℕ) → k < length lines →
    Used all (drop k lines) core clock old values → (get_or lines k d).core ≢ core →
    Used all (drop (k + 1) lines) core clock old values
next_far all lines k d core clock old values lt used ne =
    used_far all (get_or lines k d) (drop (k + 1) lines) core clock old values
    (subst (λ (ls : List StimLine). Used all ls core clock old values) (at_place lines k d lt) used) ne

-- the line at a place is of this core and due, and is used
pub next_own :
    (all lines : List StimLine) (k : ℕ) (d : StimLine) (core clock : ℕ) (old values : List ℕ) → k < length lines →
    Used all (drop k lines) core clock old values → (get_or lines k d).core ≡ core → (get_or lines k d).tick ≤ clock →
    (get_or lines k d).port < length values →
    Used all (drop (k + 1) lines) core clock old (set values (get_or lines k d).port (get_or lines k d).value)
next_own all lines k d core clock old values lt used own due «in» =
    used_own all (get_or lines k d) (drop (k + 1) lines) core clock old values
    (subst (λ (ls : List StimLine). Used all ls core clock old values) (at_place lines k d lt) used) own due «in»

-- the line at a place is after the clock
pub late_from :
    (lines : List StimLine) (k : ℕ) (d : StimLine) (clock : ℕ) → k < length lines → clock < (get_or lines k d).tick →
    AreGoodLines 0 (drop k lines) → AreGoodLines (clock + 1) (drop k lines)
late_from lines k d clock lt late good =
    subst (λ (ls : List StimLine). AreGoodLines (clock + 1) ls) (sym (at_place lines k d lt))
    (good_after clock (get_or lines k d) (drop (k + 1) lines) late
    (subst (λ (ls : List StimLine). AreGoodLines 0 ls) (at_place lines k d lt) good))

-- no line is left
pub none_from : (n : ℕ) (lines : List StimLine) (k : ℕ) → length lines ≤ k → AreGoodLines n (drop k lines)
none_from n lines k le = subst (λ (ls : List StimLine). AreGoodLines n ls) (sym (drop_all k lines le)) tt
