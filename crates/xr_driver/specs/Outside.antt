-- A shelf and a sink before and after a call.
use Rattle.std.specs.Prelude.{◌≡◌, ◌≤◌, ℕ, List, Option, Result, Ok, Err}
use Rattle.xw_io.specs.Outside.{Rose, gained}
use Rattle.xw_io.specs.Gathering.{Passed}
use Rattle.xw_io.specs.declared.file.File.{File}
use Rattle.xw_io.specs.declared.output.SinkFault.{SinkFault}

-- a shelf's files, which no call changes, and its counts before and after
pub record Loads : Type 0 where
  pub files : Option (List File)
  pub faults : ℕ
  pub faults' : ℕ
  pub misses : ℕ
  pub misses' : ℕ
  pub longs : ℕ
  pub longs' : ℕ

abbrev pub loads : {S : Type 0} → (S → Option (List File)) → (S → ℕ) → (S → ℕ) → (S → ℕ) → S → S → Loads
loads files faults misses longs s s' = record {
  files = files s;
  faults = faults s;
  faults' = faults s';
  misses = misses s;
  misses' = misses s';
  longs = longs s;
  longs' = longs s';
}

-- a sink's bytes, where they are told, and its count of faults, before and after
pub record Span : Type 0 where
  pub told : Option (List ℕ)
  pub told' : Option (List ℕ)
  pub faults : ℕ
  pub faults' : ℕ

abbrev pub span : {O : Type 0} → (O → Option (List ℕ)) → (O → ℕ) → O → O → Span
span bytes faults o o' = record { told = bytes o; told' = bytes o'; faults = faults o; faults' = faults o' }

-- the sink gained all of a text
abbrev pub Gained : Span → List ℕ → Type 0
Gained s text = s.told' ≡ gained s.told text

-- the sink gained a front of a text
abbrev pub GainedFront : Span → List ℕ → Type 0
GainedFront s due = (rest : List ℕ) × Passed s.told s.told' due rest

-- the sink gained all of a text, or it failed and gained a front of it
abbrev pub Gave : Span → List ℕ → Result (Unit {0}) SinkFault → Type 0
Gave s text (Ok done) = (s.faults ≤ s.faults') × Gained s text
Gave s text (Err fault) = (s.faults ≤ s.faults') × Rose s.faults s.faults' × GainedFront s text
