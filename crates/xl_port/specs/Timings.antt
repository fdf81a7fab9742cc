-- The time or the condition of a transfer: how many nodes it has, where its words stand, and how it sets a port or a timer.
use Rattle.std.specs.Prelude.{ℕ, ◌%◌, ◌^◌, Bool, List, Option, Some, None}
use Rattle.xs_instr.specs.declared.instr.Cond.TheVariants.{None as NoCond, Eq, Neq, After}
use Rattle.xs_instr.specs.declared.state.Port.{Port}
use Rattle.xs_instr.specs.declared.state.Timer.{Timer}
use Rattle.xc_kernel.specs.Plain as kernel
use Rattle.xc_kernel.specs.Eval.{Store}
use Rattle.xc_meaning.specs.States.Items.{When, now, at_time, pins_equal, pins_differ, after_time}
use Rattle.xl_expr.specs.declared.plan.VarPlan.{VarPlan}
use Rattle.xl_expr.specs.Measures.{depth, nodes}
use Rattle.xl_expr.specs.Works.{IsLaid}

-- the expression of a time, else of a condition
abbrev pub timing_expression : Option kernel.Expression → Option kernel.Condition → Option kernel.Expression
timing_expression (Some time) condition = Some time
timing_expression None (Some condition) = Some condition.value
timing_expression None None = None

-- how many nodes it has, and how deep it is

abbrev pub time_nodes : Option kernel.Expression → ℕ
time_nodes None = 0
time_nodes (Some x) = nodes x

abbrev pub time_depth : Option kernel.Expression → ℕ
time_depth None = 0
time_depth (Some x) = depth x

-- the layout: its words stand where the plan has them
abbrev pub TimeIsLaid : List (Option VarPlan) → (ℕ → Bool) → (s dp : ℕ) → List ℕ → Store → Option kernel.Expression → Type 0
TimeIsLaid vars relied s dp words store None = Unit {0}
TimeIsLaid vars relied s dp words store (Some x) = IsLaid vars relied s dp words store x

-- a port that is set for a transfer and has no latch; no port waits until after a time of the clock
abbrev pub port_set : When → Port → Port
port_set now port = record port { cond = NoCond; latch = None; time = None }
port_set (at_time time) port = record port { cond = NoCond; latch = None; time = Some (time % 2 ^ 16) }
port_set (pins_equal v) port = record port { cond = Eq; latch = None; time = None; datum = v }
port_set (pins_differ v) port = record port { cond = Neq; latch = None; time = None; datum = v }
port_set (after_time time) port = record port { cond = NoCond; latch = None; time = None }

-- a timer that is set for an input and has no latch; a timer waits until after a time alone
abbrev pub timer_set : When → Timer → Timer
timer_set (after_time time) timer = record timer { cond = After; latch = None; datum = time }
timer_set when timer = record timer { cond = NoCond; latch = None }
