-- The enabled cases of a select from left to right, by the resources that are enabled already.
use Rattle.std.specs.Prelude.{Bool, true, false, ◌||◌, List, [], ◌∷◌}
use Rattle.xc_kernel.specs.declared.statement.KRes.{KRes}
use Rattle.xc_kernel.specs.Plain as kernel
use Rattle.xc_kernel.specs.Eval.{Store}
use Rattle.xc_meaning.specs.Settings.Select.{Enabled, these, wrong, same_resource, guarded_case, guard_value}
use Rattle.xc_meaning.specs.Settings.Time.{Timing, passes, fails, timing}
use Rattle.xc_meaning.specs.States.Items.{Body, of_kernel, Choice}

-- whether a resource is among some
abbrev pub is_seen : List KRes → KRes → Bool
is_seen [] r = false
is_seen (q ∷ qs) r = same_resource q r || is_seen qs r

-- a case before others
abbrev pub with_first : Choice → Enabled → Enabled
with_first c (these cs) = these (c ∷ cs)
with_first c (wrong kind pos) = wrong kind pos

-- `timed_along`, by cases
abbrev pub first_unless : Bool → Choice → (others without : Enabled) → Enabled
first_unless true c others without = others
first_unless false c others without = with_first c without

-- a case whose guard holds: it counts where its resource is not among those before it
abbrev pub timed_along : List KRes → kernel.Input → Body → (others without : Enabled) → Timing → Enabled
timed_along seen i body others without (passes when) =
    first_unless (is_seen seen i.resource) (record { input = i; when = when; body = body }) others without
timed_along seen i body others without (fails kind pos) = wrong kind pos

-- the enabled cases among these, where the resources in `seen` are enabled before
abbrev pub along : Store → List KRes → kernel.Cases → Enabled
along store seen kernel.no_case = these []
along store seen (kernel.more_cases (kernel.case guard i ss) cs) =
    guarded_case (guard_value store guard)
    (timed_along seen i (of_kernel ss) (along store seen cs) (along store (i.resource ∷ seen) cs) (timing store i.time i.condition))
    (along store seen cs)
