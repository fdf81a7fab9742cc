-- What a checked kernel needs of a core is there.
use Rattle.std.proofs.Common.{◌≡◌, ◌⊎◌, ⊎_elim, ℕ, ◌+◌, ◌*◌, ◌%◌, ◌^◌, ◌<◌, ◌≤◌, sum_by, ap, ◌∙◌, arith}
use Rattle.std.proofs.Math.Nat.{mod-eq_of_lt}
use Rattle.xc_kernel.specs.Plain as kernel
use Rattle.xc_disjoint.specs.Checked.{IsChecked}
use Rattle.xc_disjoint.specs.Cores.{last_core}
use Rattle.xc_disjoint.specs.Needs.{threads_on, timers_on, words_on}
use Rattle.xc_disjoint.specs.Rules.{most_timers, most_words, needs, timers, words}
use Rattle.xc_disjoint.specs.Sums.{capped}
use Rattle.xs_instr.specs.Resources.{name_of}
use Rattle.xl_plan.specs.Layout.{words_here, first_temporary, port_name, timer_name, ports_here}
use Rattle.xl_plan.proofs.FewPorts.{few_ports}
use Rattle.xl_plan.proofs.Fits.{words_fit}
use Rattle.xl_plan.proofs.PortsDiffer.{ports_apart}

within_or_not : (n most : ℕ) → (n ≤ most) ⊎ (most < n)
within_or_not n most = grind arith

pub few_words : (k : kernel.Kernel) (core : ℕ) → IsChecked k → core ≤ last_core → words_on k core ≤ most_words
few_words k core h is_core =
    ⊎_elim (λ le. le)
    (λ lt. absurd (h.unbroken _ (needs (words (record { core = core; is_core = is_core; more = lt })))))
    (within_or_not (words_on k core) most_words)

small_capped : (n : ℕ) → n ≤ most_words → capped n ≡ n
unfolding capped
small_capped n h = omega (arith, h)

-- so the count of threads is exact
pub all_threads : (k : kernel.Kernel) (core count : ℕ) → IsChecked k → core ≤ last_core → count ≡ capped (threads_on k core) → count ≡ threads_on k core
all_threads k core count h is_core e =
    let few = few_words k core h is_core in
    e ∙ small_capped (threads_on k core) (omega (arith, few))

pub fitting_threads : (k : kernel.Kernel) (core count : ℕ) → IsChecked k → core ≤ last_core → count ≡ capped (threads_on k core) → count ≤ most_words
fitting_threads k core count h is_core e =
    let few = few_words k core h is_core in
    let same = all_threads k core count h is_core e in
    omega (arith, few, same)

pub few_timers : (k : kernel.Kernel) (core : ℕ) → IsChecked k → core ≤ last_core → timers_on k core ≤ most_timers
few_timers k core h is_core =
    ⊎_elim (λ le. le)
    (λ lt. absurd (h.unbroken _ (needs (timers (record { core = core; is_core = is_core; more = lt })))))
    (within_or_not (timers_on k core) most_timers)

-- all words of a core's variables stand below its temporary words
pub variables_fit : (k : kernel.Kernel) (core : ℕ) → IsChecked k → sum_by (words_here core) k.variables ≤ first_temporary k core
variables_fit k core h = words_fit k core h.of_program

-- so they are few
pub few_variable_words : (k : kernel.Kernel) (core : ℕ) → IsChecked k → core ≤ last_core → sum_by (words_here core) k.variables < 2 ^ 32
few_variable_words k core h is_core =
    let a = variables_fit k core h in
    let b = few_words k core h is_core in
    omega arith

-- the names of ports and timers, of which there are few
pub port_names : (k : kernel.Kernel) (core : ℕ) → IsChecked k → core ≤ last_core → (n : ℕ) → n ≤ sum_by (ports_here core) k.ports → (name_of core 0 0 + 256 * n) % 2 ^ 32 ≡ port_name core n
port_names k core h is_core n le =
    let few = few_ports core k.ports (ports_apart k core is_core h.of_program) in
    let small : name_of core n 0 < 2 ^ 32 = omega arith in
    ap (λ m. m % 2 ^ 32) (let q : name_of core 0 0 + 256 * n ≡ name_of core n 0 = omega arith in q) ∙ mod-eq_of_lt small

pub timer_names : (k : kernel.Kernel) (core : ℕ) → IsChecked k → core ≤ last_core → (n : ℕ) → n ≤ timers_on k core → (name_of core 0 1 + 256 * n) % 2 ^ 32 ≡ timer_name core n
timer_names k core h is_core n le =
    let few = few_timers k core h is_core in
    let small : name_of core n 1 < 2 ^ 32 = omega arith in
    ap (λ m. m % 2 ^ 32) (let q : name_of core 0 1 + 256 * n ≡ name_of core n 1 = omega arith in q) ∙ mod-eq_of_lt small

pub first_small : (core kind : ℕ) → core ≤ last_core → kind ≤ 1 → name_of core 0 kind < 2 ^ 32
first_small core kind h g = omega arith
