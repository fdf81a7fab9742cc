-- What holds of the input and the body of each case of a select holds of those that are enabled.
use Rattle.std.proofs.Common.{◌≡◌, ℕ, zero, suc, Bool, true, false, List, [], ◌∷◌, Some, slice_get, subst}
use Rattle.xc_kernel.specs.declared.statement.KRes.{KRes}
use Rattle.xc_kernel.specs.Plain as kernel
use Rattle.xc_kernel.specs.Values.{Value, word, error, is_true}
use Rattle.xc_kernel.specs.Eval.{Store}
use Rattle.xc_meaning.specs.States.Items.{Body, of_kernel, Choice}
use Rattle.xc_meaning.specs.Settings.Time.{Timing, passes, fails, timing}
use Rattle.xc_meaning.specs.Settings.Select.{Enabled, these, wrong, unless_same, elsewhere, same_resource, before_others, timed_case, case_by, guarded_case, guard_value, enabled}
use Rattle.xc_invariants.specs.Sided.{BodyIs, EachChoice}
use Rattle.xc_meaning.proofs.Basics.{some_given, none_given}

module _ (I : kernel.Input → Type 0) (B : kernel.Statements → Type 0) where
  abbrev EachEnabled : Enabled → Type 0
  EachEnabled (these cs) = EachChoice I B cs
  EachEnabled (wrong kind pos) = Unit {0}

  unless_each : (b : Bool) (c : Choice) (cs : List Choice) → I c.input → BodyIs B c.body → EachChoice I B cs → EachChoice I B (unless_same b c cs)
  unless_each true c cs h g hs = hs
  unless_each false c cs h g hs = (h, g, hs)

  elsewhere_each : (r : KRes) (cs : List Choice) → EachChoice I B cs → EachChoice I B (elsewhere r cs)
  elsewhere_each r [] h = tt
  elsewhere_each r (c ∷ cs) h = unless_each (same_resource r c.input.resource) c (elsewhere r cs) h.0 h.1 (elsewhere_each r cs h.2)

  before_each : (c : Choice) (others : Enabled) → I c.input → BodyIs B c.body → EachEnabled others → EachEnabled (before_others c others)
  before_each c (these cs) h g hs = (h, g, elsewhere_each c.input.resource cs hs)
  before_each c (wrong kind pos) h g hs = tt

  timed_each : (i : kernel.Input) (b : Body) (others : Enabled) (t : Timing) → I i → BodyIs B b → EachEnabled others → EachEnabled (timed_case i b others t)
  timed_each input b others (passes when) h g hs = before_each (record { input = input; when = when; body = b }) others h g hs
  timed_each input b others (fails kind pos) h g hs = tt

  by_each : (b : Bool) (with_it others : Enabled) → EachEnabled with_it → EachEnabled others → EachEnabled (case_by b with_it others)
  by_each true with_it others h g = h
  by_each false with_it others h g = g

  guarded_each : (v : Value) (with_it others : Enabled) → EachEnabled with_it → EachEnabled others → EachEnabled (guarded_case v with_it others)
  guarded_each (word v) with_it others h g = by_each (is_true v) with_it others h g
  guarded_each (error kind pos) with_it others h g = tt

  abbrev pub EachCase : kernel.Cases → Type 0
  EachCase kernel.no_case = Unit {0}
  EachCase (kernel.more_cases (kernel.case guard i ss) cs) = I i × B ss × EachCase cs

  enabled_each : (store : Store) (cs : kernel.Cases) → EachCase cs → EachEnabled (enabled store cs)
  enabled_each store kernel.no_case h = tt
  enabled_each store (kernel.more_cases (kernel.case guard input ss) cs) h =
      guarded_each (guard_value store guard) _ _ (timed_each input (of_kernel ss) (enabled store cs) (timing store input.time input.condition) h.0 h.1 (enabled_each store cs h.2)) (enabled_each store cs h.2)

  pub known_each : (store : Store) (cs : kernel.Cases) (choices : List Choice) → enabled store cs ≡ these choices → EachCase cs → EachChoice I B choices
  known_each store cs choices e h = subst EachEnabled e (enabled_each store cs h)

  pub choice_each : (choices : List Choice) (n : ℕ) (c : Choice) → slice_get choices n ≡ Some c → EachChoice I B choices → I c.input × BodyIs B c.body
  choice_each [] n c e h = none_given e
  choice_each (d ∷ ds) zero c e h = subst (λ a. I a.input × BodyIs B a.body) (some_given e) (h.0, h.1)
  choice_each (d ∷ ds) (suc n) c e h = choice_each ds n c e h.2
