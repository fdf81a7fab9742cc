-- The enabled cases of a select are those from left to right.
use Rattle.std.proofs.Common.{◌≡◌, ℕ, Bool, true, false, ◌||◌, List, [], ◌∷◌, refl, sym, ap, ◌∙◌, eqb-true}
use Rattle.std.specs.Prelude.{nat_eq}
use Rattle.xc_kernel.specs.declared.statement.KRes.{KRes}
use Rattle.xc_kernel.specs.declared.statement.KRes.TheVariants.{Port, Timer, Chan}
use Rattle.xc_kernel.specs.Plain as kernel
use Rattle.xc_kernel.specs.Values.{Value, word, error, is_true}
use Rattle.xc_kernel.specs.Eval.{Store}
use Rattle.xc_meaning.specs.Settings.Select.{Enabled, these, wrong, same_resource, unless_same, elsewhere, before_others, timed_case, case_by, guarded_case, guard_value, enabled}
use Rattle.xc_meaning.specs.Settings.Time.{Timing, passes, fails, timing}
use Rattle.xc_meaning.specs.States.Items.{Body, of_kernel, Choice}
use Rattle.xl_select.proofs.Along.{is_seen, first_unless, timed_along, along}

-- the cases whose resource isn't among some
abbrev pub kept_by : Bool → Choice → List Choice → List Choice
kept_by true c cs = cs
kept_by false c cs = c ∷ cs

abbrev pub without : List KRes → List Choice → List Choice
without seen [] = []
without seen (c ∷ cs) = kept_by (is_seen seen c.input.resource) c (without seen cs)

abbrev pub without_in : List KRes → Enabled → Enabled
without_in seen (these cs) = these (without seen cs)
without_in seen (wrong kind pos) = wrong kind pos

without_none : (cs : List Choice) → without [] cs ≡ cs
without_none [] = refl
without_none (c ∷ cs) = ap (λ l. c ∷ l) (without_none cs)

none_in : (e : Enabled) → without_in [] e ≡ e
none_in (these cs) = ap these (without_none cs)
none_in (wrong kind pos) = refl

-- two of one resource are among the same
same_number : (a b : ℕ) → nat_eq a b ≡ true → a ≡ b
same_number a b h = eqb-true a b h

pub same_is : (a b : KRes) → same_resource a b ≡ true → a ≡ b
same_is (Port p) (Port q) h = ap Port (same_number p q h)
same_is (Timer t) (Timer u) h = ap Timer (same_number t u h)
same_is (Chan c) (Chan d) h = ap Chan (same_number c d h)
same_is (Port p) (Timer t) h = cc
same_is (Port p) (Chan c) h = cc
same_is (Timer t) (Port p) h = cc
same_is (Timer t) (Chan c) h = cc
same_is (Chan c) (Port p) h = cc
same_is (Chan c) (Timer t) h = cc

-- where a resource is among those before, dropping its cases drops nothing more
drops_none : (seen : List KRes) (r : KRes) (cs : List Choice) → is_seen seen r ≡ true → without seen (elsewhere r cs) ≡ without seen cs
drops_none seen r [] h = refl
drops_none seen r (c ∷ cs) h = by (same_resource r c.input.resource) refl (drops_none seen r cs h)
  where
    by : (b : Bool) → same_resource r c.input.resource ≡ b → without seen (elsewhere r cs) ≡ without seen cs → without seen (unless_same (same_resource r c.input.resource) c (elsewhere r cs)) ≡ without seen (c ∷ cs)
    by true e next =
        let seen_too : is_seen seen c.input.resource ≡ true = ap (is_seen seen) (sym (same_is r c.input.resource e)) ∙ h in
        ap (λ x. without seen (unless_same x c (elsewhere r cs))) e ∙ next ∙ sym (ap (λ x. kept_by x c (without seen cs)) seen_too)
    by false e next =
        ap (λ x. without seen (unless_same x c (elsewhere r cs))) e ∙ ap (kept_by (is_seen seen c.input.resource) c) next

-- else they are dropped as those of one more resource are
drops_one : (seen : List KRes) (r : KRes) (cs : List Choice) → without seen (elsewhere r cs) ≡ without (r ∷ seen) cs
drops_one seen r [] = refl
drops_one seen r (c ∷ cs) = by (same_resource r c.input.resource) refl (drops_one seen r cs)
  where
    by : (b : Bool) → same_resource r c.input.resource ≡ b → without seen (elsewhere r cs) ≡ without (r ∷ seen) cs → without seen (unless_same (same_resource r c.input.resource) c (elsewhere r cs)) ≡ without (r ∷ seen) (c ∷ cs)
    by true e next =
        ap (λ x. without seen (unless_same x c (elsewhere r cs))) e ∙ next
        ∙ sym (ap (λ x. kept_by (x || is_seen seen c.input.resource) c (without (r ∷ seen) cs)) e)
    by false e next =
        ap (λ x. without seen (unless_same x c (elsewhere r cs))) e
        ∙ ap (kept_by (is_seen seen c.input.resource) c) next
        ∙ sym (ap (λ x. kept_by (x || is_seen seen c.input.resource) c (without (r ∷ seen) cs)) e)

-- one case before others, without the resources before it
before_is : (seen : List KRes) (c : Choice) (e : Enabled) (b : Bool) → is_seen seen c.input.resource ≡ b → without_in seen (before_others c e) ≡ first_unless b c (without_in seen e) (without_in (c.input.resource ∷ seen) e)
before_is seen c (wrong kind pos) true h = refl
before_is seen c (wrong kind pos) false h = refl
before_is seen c (these cs) true h =
    ap these (ap (λ x. kept_by x c (without seen (elsewhere c.input.resource cs))) h ∙ drops_none seen c.input.resource cs h)
before_is seen c (these cs) false h =
    ap these (ap (λ x. kept_by x c (without seen (elsewhere c.input.resource cs))) h ∙ ap (λ l. c ∷ l) (drops_one seen c.input.resource cs))

timed_is : (seen : List KRes) (i : kernel.Input) (body : Body) (e : Enabled) (t : Timing) → without_in seen (timed_case i body e t) ≡ timed_along seen i body (without_in seen e) (without_in (i.resource ∷ seen) e) t
timed_is seen i body e (passes when) = before_is seen (record { input = i; when = when; body = body }) e (is_seen seen i.resource) refl
timed_is seen i body e (fails kind pos) = refl

case_is : (seen : List KRes) (b : Bool) (with_it others : Enabled) → without_in seen (case_by b with_it others) ≡ case_by b (without_in seen with_it) (without_in seen others)
case_is seen true with_it others = refl
case_is seen false with_it others = refl

guarded_is : (seen : List KRes) (v : Value) (with_it others : Enabled) → without_in seen (guarded_case v with_it others) ≡ guarded_case v (without_in seen with_it) (without_in seen others)
guarded_is seen (word v) with_it others = case_is seen (is_true v) with_it others
guarded_is seen (error kind pos) with_it others = refl

along_is : (store : Store) (seen : List KRes) (cs : kernel.Cases) → without_in seen (enabled store cs) ≡ along store seen cs
along_is store seen kernel.no_case = refl
along_is store seen (kernel.more_cases (kernel.case guard i ss) cs) =
    let e = enabled store cs in
    let t = timing store i.time i.condition in
    guarded_is seen (guard_value store guard) (timed_case i (of_kernel ss) e t) e
    ∙ ap (λ x. guarded_case (guard_value store guard) x (without_in seen e)) (timed_is seen i (of_kernel ss) e t)
    ∙ ap (λ x. guarded_case (guard_value store guard) (timed_along seen i (of_kernel ss) x (without_in (i.resource ∷ seen) e) t) x) (along_is store seen cs)
    ∙ ap (λ x. guarded_case (guard_value store guard) (timed_along seen i (of_kernel ss) (along store seen cs) x t) (along store seen cs)) (along_is store (i.resource ∷ seen) cs)

-- so a select's enabled cases are those from left to right, where none is enabled before
pub enabled_along : (store : Store) (cs : kernel.Cases) → enabled store cs ≡ along store [] cs
enabled_along store cs = sym (none_in (enabled store cs)) ∙ along_is store [] cs
