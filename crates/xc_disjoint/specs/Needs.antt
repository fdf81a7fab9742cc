-- What a kernel needs on a core.
use Rattle.std.specs.Prelude.{ℕ, ◌+◌, ◌*◌, sum_by}
use Rattle.xc_kernel.specs.declared.kernel.Var.{Var}
use Rattle.xc_kernel.specs.declared.kernel.Timer.{Timer}
use Rattle.xc_kernel.specs.declared.kernel.Inst.{Inst}
use Rattle.xc_kernel.specs.Plain as kernel
use Rattle.xc_disjoint.specs.Cores.{if_so, on_core}
use Rattle.xc_disjoint.specs.Threads as threads
use Rattle.xc_disjoint.specs.Ends.{ends_of_root}

-- the threads of its roots there
abbrev pub threads_of_root : ℕ → kernel.Root → ℕ
threads_of_root core r = on_core core r.core (threads.of_statements r.body)

abbrev pub threads_on : kernel.Kernel → ℕ → ℕ
threads_on k core = sum_by (threads_of_root core) k.roots

-- the channel ends of its roots there
abbrev pub ends_on_of_root : kernel.Kernel → ℕ → kernel.Root → ℕ
ends_on_of_root k core r = on_core core r.core (ends_of_root k r)

abbrev pub ends_on : kernel.Kernel → ℕ → ℕ
ends_on k core = sum_by (ends_on_of_root k core) k.roots

-- one timer for each instance there
abbrev pub timers_of : ℕ → Timer → ℕ
timers_of core t = on_core core t.core 1

abbrev pub timers_on : kernel.Kernel → ℕ → ℕ
timers_on k core = sum_by (timers_of core) k.timers

-- a function's instance needs four words, and one for each parameter
abbrev pub words_of_instance : ℕ → Inst → ℕ
words_of_instance core i = on_core core i.core (4 + i.params)

-- a variable that counts by itself needs its words
abbrev pub words_of_variable : ℕ → Var → ℕ
words_of_variable core v = on_core core v.core (if_so v.counted v.words)

-- the words of a thread's stack
abbrev pub words_of_thread : ℕ
words_of_thread = 512

-- the words of instances, of variables and of threads there
abbrev pub words_on : kernel.Kernel → ℕ → ℕ
words_on k core =
    sum_by (words_of_instance core) k.instances + sum_by (words_of_variable core) k.variables + words_of_thread * threads_on k core
