-- What holds of everything that code uses goes down to its parts.
use Rattle.std.proofs.Common.{◌≡◌, ℕ, zero, suc, Bool, true, false, List, [], ◌∷◌, Option, Some, slice_get, subst}
use Rattle.xc_kernel.specs.declared.statement.KRes.{KRes}
use Rattle.xc_kernel.specs.declared.statement.KRes.TheVariants.{Chan}
use Rattle.xc_kernel.specs.Plain as kernel
use Rattle.xc_kernel.specs.Values.{Value, word, error, is_true}
use Rattle.xc_kernel.specs.Eval.{Store}
use Rattle.xc_meaning.specs.States.Items.{Body, of_kernel, of_text, Choice, Item}
use Rattle.xc_meaning.specs.Settings.Time.{Timing, passes, fails, timing}
use Rattle.xc_meaning.specs.Settings.Select.{Enabled, these, wrong, unless_same, elsewhere, same_resource, before_others, timed_case, case_by, guarded_case, guard_value, enabled, default_of}
use Rattle.xc_kernel.specs.Things.{Thing, channel}
use Rattle.xc_invariants.specs.Every.{AllStatements, AllBranches, AllBody, EveryResource, EveryTarget, EverySomeTarget, EveryInput, EveryStatements, EveryCases, EveryDefault, EveryBranches, EveryBody, EverySomeBody, EveryChoices, EveryItem}
use Rattle.xc_invariants.proofs.Inherited.{Inherits}
use Rattle.xc_meaning.proofs.Basics.{some_given, none_given}

module _ (F : Thing → Type 0) (Q : kernel.Branches → Type 0) (T : ℕ → kernel.Statements → Type 0) where
  abbrev Of : Item → Type 0
  Of = EveryItem F Q T

  pub every_statements : (ss : kernel.Statements) → EveryStatements F Q T ss → AllStatements (EveryItem F Q T) ss
  every_statements kernel.no_more h = tt
  every_statements (kernel.more s ss) h = (h.0, every_statements ss h.1)

  pub every_branches : (bs : kernel.Branches) → EveryBranches F Q T bs → AllBranches (EveryItem F Q T) bs
  every_branches kernel.no_branch h = tt
  every_branches (kernel.more_branches (kernel.branch ss pos) bs) h = (every_statements ss h.0, every_branches bs h.1)

  every_body : (b : Body) → EveryBody F Q T b → AllBody (EveryItem F Q T) b
  every_body (of_kernel ss) h = every_statements ss h
  every_body (of_text i) h = absurd h

  abbrev EveryEnabled : Enabled → Type 0
  EveryEnabled (these cs) = EveryChoices F Q T cs
  EveryEnabled (wrong kind pos) = Unit {0}

  unless_every : (b : Bool) (c : Choice) (cs : List Choice) → EveryInput F Q T c.input → EveryBody F Q T c.body → EveryChoices F Q T cs → EveryChoices F Q T (unless_same b c cs)
  unless_every true c cs h g hs = hs
  unless_every false c cs h g hs = (h, g, hs)

  elsewhere_every : (r : KRes) (cs : List Choice) → EveryChoices F Q T cs → EveryChoices F Q T (elsewhere r cs)
  elsewhere_every r [] h = tt
  elsewhere_every r (c ∷ cs) h = unless_every (same_resource r c.input.resource) c (elsewhere r cs) h.0 h.1 (elsewhere_every r cs h.2)

  before_every : (c : Choice) (others : Enabled) → EveryInput F Q T c.input → EveryBody F Q T c.body → EveryEnabled others → EveryEnabled (before_others c others)
  before_every c (these cs) h g hs = (h, g, elsewhere_every c.input.resource cs hs)
  before_every c (wrong kind pos) h g hs = tt

  timed_every : (i : kernel.Input) (b : Body) (others : Enabled) (t : Timing) → EveryInput F Q T i → EveryBody F Q T b → EveryEnabled others → EveryEnabled (timed_case i b others t)
  timed_every input b others (passes when) h g hs = before_every (record { input = input; when = when; body = b }) others h g hs
  timed_every input b others (fails kind pos) h g hs = tt

  by_every : (b : Bool) (with_it others : Enabled) → EveryEnabled with_it → EveryEnabled others → EveryEnabled (case_by b with_it others)
  by_every true with_it others h g = h
  by_every false with_it others h g = g

  guarded_every : (v : Value) (with_it others : Enabled) → EveryEnabled with_it → EveryEnabled others → EveryEnabled (guarded_case v with_it others)
  guarded_every (word v) with_it others h g = by_every (is_true v) with_it others h g
  guarded_every (error kind pos) with_it others h g = tt

  enabled_every : (store : Store) (cs : kernel.Cases) → EveryCases F Q T cs → EveryEnabled (enabled store cs)
  enabled_every store kernel.no_case h = tt
  enabled_every store (kernel.more_cases (kernel.case guard input ss) cs) h =
      guarded_every (guard_value store guard) _ _ (timed_every input (of_kernel ss) (enabled store cs) (timing store input.time input.condition) h.0.1 h.0.2 (enabled_every store cs h.1)) (enabled_every store cs h.1)

  default_every : (d : kernel.Default) → EveryDefault F Q T d → EverySomeBody F Q T (default_of d)
  default_every kernel.no_default h = tt
  default_every (kernel.default ss) h = h

  choice_every : (choices : List Choice) (n : ℕ) (c : Choice) → slice_get choices n ≡ Some c → EveryChoices F Q T choices → EveryInput F Q T c.input × EveryBody F Q T c.body
  choice_every [] n c e h = none_given e
  choice_every (d ∷ ds) zero c e h = subst (λ a. EveryInput F Q T a.input × EveryBody F Q T a.body) (some_given e) (h.0, h.1)
  choice_every (d ∷ ds) (suc n) c e h = choice_every ds n c e h.2

  target_every : (o : Option kernel.Place) (place : kernel.Place) → o ≡ Some place → EverySomeTarget F Q T o → EveryTarget F Q T place
  target_every o place e h = subst (EverySomeTarget F Q T) e h

  channel_every : (r : KRes) (c : ℕ) → r ≡ Chan c → EveryResource F Q T r → F (channel c)
  channel_every r c e h = subst (EveryResource F Q T) e h

  pub every_inherits : Inherits (EveryItem F Q T)
  every_inherits = record {
    stamp_sent = λ o place v e h. (h.resource, target_every o.stamp place e h.stamp);
    answer = λ o c pos e h. channel_every o.resource c e h.resource;
    target = λ input place v e h. target_every input.target place e h.target;
    stamp = λ input place v e h. (h.resource, target_every input.stamp place e h.stamp);
    target_fixed = λ input x y place v e h. target_every input.target place e h.target;
    stamp_fixed = λ input x y place v e h. (h.resource, target_every input.stamp place e h.stamp);
    of_if = λ e a b h. (every_statements a h.1, every_statements b h.2);
    of_loop = λ e a b h. (every_statements a h.1, every_statements b h.2);
    of_block = λ n a h. (every_statements a h, tt);
    of_select = λ cs d pos store choices e h. (subst EveryEnabled e (enabled_every store cs h.0), default_every d h.1);
    of_choice = λ choices otherwise n c e h. let g = choice_every choices n c e h.0 in (g.0, λ v w. g.0, every_body c.body g.1);
    of_default = λ choices body h. every_body body h.1;
    of_transaction = λ c is_master a start close h. (every_statements a h.2, h.0, h.0);
    of_end = λ c is_master pos h. h;
  }
