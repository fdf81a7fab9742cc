-- The lives of hardware threads, the families that they belong to, and how many steps each life has done.
use Rattle.std.specs.Prelude.{ℕ, zero, suc, ◌+◌, Bool, true, false, not, ◌&&◌, ◌||◌, Option, Some, None, nat_eq, slice_get}
use Rattle.xs_instr.specs.declared.image.Image.{Image}
use Rattle.xs_instr.specs.declared.image.Stim.{Stim}
use Rattle.xs_instr.specs.declared.state.CoreState.{CoreState}
use Rattle.xs_instr.specs.declared.state.Thread.{Thread}
use Rattle.xs_instr.specs.Machine.{Machine, Event, Step, Tick, Move, and_then, boot, does}
use Rattle.xs_instr.specs.Pool.{is_unused}
use Rattle.xr_match.specs.Systems.{System}

-- A family is a branch with the family of the first branch of each `par` that it makes. Here it is named by where it comes from:
pub data Family : Type 0 where
  -- by a root, by its core and its place among that core's roots
  of_root : (core place : ℕ) → Family
  -- by the branch with an index, from 1, of the j-th `par` of two or more branches, from 0, that another family makes
  of_child : (maker : Family) (par index : ℕ) → Family

-- what a life has a synchroniser for: the number of its `par`, from 0, and how many threads it has tied to it
pub record Tying : Type 0 where
  pub par : ℕ
  pub tied : ℕ

-- A life is one use of a hardware thread, from boot or from where it is got to where it is freed: the family that it belongs to, the
-- steps that it has done, how many `par`s it got a synchroniser for, and for which `par` it got each synchroniser last. A thread that is
-- tied to a synchroniser which its maker didn't get belongs to no family. The j-th synchroniser that a life gets is that of its
-- family's j-th `par` of two or more branches. A thread of no family may do no more than the bound of one action.
pub record Life : Type 0 where
  pub family : Option Family
  pub steps : ℕ
  pub pars : ℕ
  pub tyings : (synchroniser : ℕ) → Option Tying

abbrev pub begun : Option Family → Life
begun family = record { family = family; steps = 0; pars = 0; tyings = λ synchroniser. None }

-- A machine with the last life of each of its threads. A life that has ended stands here until its thread is got again. From then on
-- the count of its family only grows.
pub record Watched : Type 0 where
  pub machine : Machine
  pub lives : (core thread : ℕ) → Life

abbrev pub watched_start : Image → Watched
watched_start L = record { machine = boot L; lives = λ core thread. begun (Some (of_root core thread)) }

-- What a thread's step did that leads from one state of the machine to another: which threads and synchronisers of its core it got.

abbrev pub thread_of : Machine → (core thread : ℕ) → Option Thread
thread_of m core thread =
    and_then (slice_get m.cores core) (λ (of_core : CoreState). slice_get of_core.threads thread)

abbrev pub in_use : Option Thread → Bool
in_use None = false
in_use (Some thread) = not (is_unused thread.mode)

abbrev pub is_got : Machine → Machine → (core thread : ℕ) → Bool
is_got m m' core thread = not (in_use (thread_of m core thread)) && in_use (thread_of m' core thread)

abbrev pub is_so : Option Bool → Bool
is_so None = false
is_so (Some taken) = taken

abbrev pub is_taken : Machine → (core synchroniser : ℕ) → Bool
is_taken m core synchroniser =
    is_so (and_then (slice_get m.cores core) (λ (of_core : CoreState). slice_get of_core.syncs synchroniser))

abbrev pub synchroniser_got : Machine → Machine → (core synchroniser : ℕ) → Bool
synchroniser_got m m' core synchroniser = not (is_taken m core synchroniser) && is_taken m' core synchroniser

-- whether one of a core's first synchronisers was got; it has seven
abbrev pub some_synchroniser_got : Machine → Machine → (core synchronisers : ℕ) → Bool
some_synchroniser_got m m' core zero = false
some_synchroniser_got m m' core (suc synchroniser) =
    synchroniser_got m m' core synchroniser || some_synchroniser_got m m' core synchroniser

-- the synchroniser that a thread is tied to
abbrev pub tie_of : Option Thread → Option ℕ
tie_of None = None
tie_of (Some thread) = thread.tie

abbrev pub is_tied : Option ℕ → (synchroniser : ℕ) → Bool
is_tied None synchroniser = false
is_tied (Some other) synchroniser = nat_eq other synchroniser

-- whether one of a core's first threads was got and tied to a synchroniser
abbrev pub some_tied : Machine → Machine → (core synchroniser threads : ℕ) → Bool
some_tied m m' core synchroniser zero = false
some_tied m m' core synchroniser (suc thread) =
    (is_got m m' core thread && is_tied (tie_of (thread_of m' core thread)) synchroniser) || some_tied m m' core synchroniser thread

-- The life of the thread that stepped.

abbrev pub one_where : Bool → ℕ
one_where true = 1
one_where false = 0

abbrev pub one_more : Tying → Tying
one_more tying = record { par = tying.par; tied = tying.tied + 1 }

-- what a life has a synchroniser for, by whether it was got in this step, and whether a thread was tied to it
abbrev pub tying_after : (is_new is_tied : Bool) → (par : ℕ) → Option Tying → Option Tying
tying_after true is_tied par old = Some (record { par = par; tied = 0 })
tying_after false true par None = None
tying_after false true par (Some tying) = Some (one_more tying)
tying_after false false par old = old

abbrev pub stepped : Machine → Machine → (core : ℕ) → Life → Life
stepped m m' core life = record {
  family = life.family;
  steps = life.steps + 1;
  pars = life.pars + one_where (some_synchroniser_got m m' core 7);
  tyings = λ synchroniser.
      tying_after
      (synchroniser_got m m' core synchroniser)
      (some_tied m m' core synchroniser 8)
      life.pars
      (life.tyings synchroniser);
}

-- The life of a thread that was got, by its maker's: the n-th thread that is tied for a `par` belongs to the branch with index n.

abbrev pub child_family : Option Family → Option Tying → Option Family
child_family None tying = None
child_family (Some maker) None = None
child_family (Some maker) (Some tying) = Some (of_child maker tying.par (tying.tied + 1))

abbrev pub tying_of : Life → Option ℕ → Option Tying
tying_of maker None = None
tying_of maker (Some synchroniser) = maker.tyings synchroniser

abbrev pub child_of : Life → (tie : Option ℕ) → Life
child_of maker tie = begun (child_family maker.family (tying_of maker tie))

-- `life_after`, by cases: the thread that stepped, one that was got, or another
abbrev pub life_by : (is_own is_new : Bool) → (own new old : Life) → Life
life_by true is_new own new old = own
life_by false true own new old = new
life_by false false own new old = old

-- a thread's last life, once a thread of this core has stepped
abbrev pub life_after : Watched → Machine → (core thread : ℕ) → (its_core its_thread : ℕ) → Life
life_after w m' core thread its_core its_thread =
    life_by
    (nat_eq its_core core && nat_eq its_thread thread)
    (nat_eq its_core core && is_got w.machine m' core its_thread)
    (stepped w.machine m' core (w.lives core thread))
    (child_of (w.lives core thread) (tie_of (thread_of m' core its_thread)))
    (w.lives its_core its_thread)

-- the last lives once an event has led to this state
abbrev pub lives_after : Watched → Machine → Event → (core thread : ℕ) → Life
lives_after w m' (Step core thread) = life_after w m' core thread
lives_after w m' (Tick core) = w.lives
lives_after w m' (Move from to) = w.lives

abbrev pub watched_after : Watched → Event → Machine → Watched
watched_after w event m' = record { machine = m'; lives = lives_after w m' event }

-- the machine with a listing under a stimulus, with its threads' lives
abbrev pub machine_of : Image → Stim → System
machine_of L s = record {
  State = Watched;
  Step = Event;
  start = watched_start L;
  next = λ w event. and_then (does L s w.machine event) (λ m'. Some (watched_after w event m'));
}
