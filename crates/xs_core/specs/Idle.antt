-- What is known of threads without looking at them.
use Rattle.std.specs.Prelude.{◌≡◌, ◌≢◌, ◌≤◌, ℕ, List, Some, slice_get}
use Rattle.xs_instr.specs.declared.state.Mode.TheVariants.{Unused}
use Rattle.xs_instr.specs.declared.state.Thread.{Thread}

-- each thread from that number on is unused
abbrev pub AreUnusedFrom : ℕ → List Thread → Type 0
AreUnusedFrom n threads = (t : ℕ) (x : Thread) → n ≤ t → slice_get threads t ≡ Some x → x.mode ≡ Unused

-- no thread but that one is changed
abbrev pub KeepsOthers : ℕ → List Thread → List Thread → Type 0
KeepsOthers t old new = (u : ℕ) → t ≢ u → slice_get new u ≡ slice_get old u
