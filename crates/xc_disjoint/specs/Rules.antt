-- The rules of a kernel: 601 to 606 of what keeps branches apart, and 701 to 706 of what it needs.
use Rattle.std.specs.Prelude.{◌≡◌, ℕ, ◌<◌, ◌≤◌, Contains, slice_get, Some}
use Rattle.xw_words.specs.declared.pos.Pos.{Pos}
use Rattle.xw_words.specs.declared.pos.Broken.{Broken}
use Rattle.xc_kernel.specs.declared.kernel.PortUse.{PortUse}
use Rattle.xc_kernel.specs.declared.statement.KRes.TheVariants.{Port}
use Rattle.xc_kernel.specs.Plain as kernel
use Rattle.xc_disjoint.specs.Disjoint.{NotApart}
use Rattle.xc_disjoint.specs.Cores.{last_core, no_core}
use Rattle.xc_kernel.specs.Uses as uses
use Rattle.xc_kernel.specs.Uses.{Use}
use Rattle.xc_disjoint.specs.Needs.{threads_on, ends_on, timers_on, words_on}

-- what a core has
abbrev pub most_threads : ℕ
most_threads = 8

abbrev pub most_ends : ℕ
most_ends = 32

abbrev pub most_timers : ℕ
most_timers = 10

abbrev pub most_words : ℕ
most_words = 16384

-- some core needs more than this
pub record IsAbove (limit : ℕ) (needed_on : ℕ → ℕ) : Type 0 where
  pub core : ℕ
  pub is_core : core ≤ last_core
  pub more : limit < needed_on core

-- the place of a root or of a port gives no core
pub data HasNoCore (k : kernel.Kernel) : Pos → Type 0 where
  of_root : (r : kernel.Root) → Contains k.roots r → r.core ≡ no_core → HasNoCore k r.place
  of_port : (p : PortUse) → Contains k.ports p → p.core ≡ no_core → HasNoCore k p.place

-- A root uses this port, which is on a core other than the root's. Cores are compared as the kernel has them, 255 among them for a
-- place that gives none.
pub record IsElsewhere (k : kernel.Kernel) (r : kernel.Root) (u : Use) : Type 0 where
  pub among : Contains (uses.of_statements r.body) u
  pub number : ℕ
  pub resource : u.resource ≡ Port number
  pub port : PortUse
  pub is_port : slice_get k.ports number ≡ Some port
  pub other_core : port.core ≡ r.core → ⊥

pub record UsesElsewhere (k : kernel.Kernel) (pos : Pos) : Type 0 where
  pub root : kernel.Root
  pub among : Contains k.roots root
  pub used : Use
  pub elsewhere : IsElsewhere k root used
  pub place : pos ≡ used.pos

-- A core needs more threads, channel ends, timers or words than it has, which breaks a rule at main. All four stand at one place, so
-- the first that is broken is the least, and no more are looked at.
pub data NeedsMore (k : kernel.Kernel) : Broken → Type 0 where
  threads : IsAbove most_threads (threads_on k) → NeedsMore k (record { rule = 701; pos = k.main })
  ends : IsAbove most_ends (ends_on k) → NeedsMore k (record { rule = 702; pos = k.main })
  timers : IsAbove most_timers (timers_on k) → NeedsMore k (record { rule = 703; pos = k.main })
  words : IsAbove most_words (words_on k) → NeedsMore k (record { rule = 704; pos = k.main })

-- One of the rules is broken, and where: branches don't keep apart; a core needs more than it has; a place gives no core, at the
-- place; a port is used on another core than its own, at the use.
pub data Breaks (k : kernel.Kernel) : Broken → Type 0 where
  apart : {b : Broken} → NotApart k b → Breaks k b
  needs : {b : Broken} → NeedsMore k b → Breaks k b
  without_core : {pos : Pos} → HasNoCore k pos → Breaks k (record { rule = 705; pos = pos })
  elsewhere : {pos : Pos} → UsesElsewhere k pos → Breaks k (record { rule = 706; pos = pos })
