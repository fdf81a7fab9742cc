-- What an Out does to its sink.
use Rattle.std.specs.Prelude.{◌≡◌, ◌≤◌, ℕ, List, [], ◌++◌, length, take, Option, Bool, true, false, Result, Ok, Err}
use Rattle.xw_io.specs.declared.output.Out.{Out}
use Rattle.xw_io.specs.declared.output.SinkFault.{SinkFault}
use Rattle.xw_io.specs.Outside.{Rose, gained}

-- how many bytes an Out gathers
abbrev pub held_room : ℕ
held_room = 4096

-- a sink took the front of what was due, and the rest waits.
pub record Passed (told told' : Option (List ℕ)) (due rest : List ℕ) : Type 0 where
  pub front : List ℕ
  pub due_is : due ≡ front ++ rest
  pub told_is : told' ≡ gained told front

-- all of a text was written.
pub record Went {O : Type 0} (bytes : O → Option (List ℕ)) (faults : O → ℕ) (old new : Out O) (text : List ℕ) : Type 0 where
  pub counts : faults old.sink.now ≤ faults new.sink.now
  pub passed : Passed (bytes old.sink.now) (bytes new.sink.now) (old.held ++ text) new.held

-- the sink failed in between.
pub record Fell {O : Type 0} (bytes : O → Option (List ℕ)) (faults : O → ℕ) (old new : Out O) (text : List ℕ) : Type 0 where
  pub rose : Rose (faults old.sink.now) (faults new.sink.now)
  pub counts : faults old.sink.now ≤ faults new.sink.now
  pub rest : List ℕ
  pub passed : Passed (bytes old.sink.now) (bytes new.sink.now) (old.held ++ text) rest

-- what a call that writes a text leaves.
abbrev pub Wrote : {O : Type 0} → (O → Option (List ℕ)) → (O → ℕ) → Out O → Out O → List ℕ → Result (Unit {0}) SinkFault → Type 0
Wrote bytes faults old new text (Ok done) = (new.usable ≡ true) × Went bytes faults old new text
Wrote bytes faults old new text (Err fault) = (new.usable ≡ false) × Fell bytes faults old new text

-- what a call that writes some of a text leaves: at least one byte of it was written
abbrev pub WroteSome : {O : Type 0} → (O → Option (List ℕ)) → (O → ℕ) → Out O → Out O → List ℕ → Result ℕ SinkFault → Type 0
WroteSome bytes faults old new text (Ok n) = (new.usable ≡ true) × Went bytes faults old new (take n text) × (1 ≤ n) × (n ≤ length text)
WroteSome bytes faults old new text (Err fault) = (new.usable ≡ false) × Fell bytes faults old new []

-- what a text leaves that is written where the sink hasn't failed before.
abbrev pub Flowed : {O : Type 0} → (O → Option (List ℕ)) → (O → ℕ) → Out O → Out O → List ℕ → Bool → Bool → Type 0
Flowed bytes faults old new text true true = Went bytes faults old new text
Flowed bytes faults old new text true false = Fell bytes faults old new text
Flowed bytes faults old new text false true = ⊥
Flowed bytes faults old new text false false = (bytes new.sink.now ≡ bytes old.sink.now) × (faults new.sink.now ≡ faults old.sink.now)

-- what a text leaves, whether the sink has failed before or not
pub record Drew {O : Type 0} (bytes : O → Option (List ℕ)) (faults : O → ℕ) (old new : Out O) (text : List ℕ) : Type 0 where
  pub flowed : Flowed bytes faults old new text old.usable new.usable
