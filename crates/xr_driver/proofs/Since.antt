-- What is decided since a later moment of a shelf is decided since an earlier one too.
use Rattle.std.proofs.Common.{◌≡◌, ◌≤◌, ℕ, List, Option, arith, inl, inr, subst}
use Rattle.xw_io.specs.Outside.{Rose}
use Rattle.xr_driver.specs.Answers.{Decided, Outcome, no_command, missing, too_long, read_fault, refused, bad_stim, checked, assembled, ran, timed, bad_route, no_memory}
use Rattle.xw_io.specs.declared.file.File.{File}
use Rattle.xr_driver.specs.Command.{Command}
use Rattle.xr_driver.specs.Outside.{Loads}
use Rattle.xr_driver.specs.Parts.{IsAnswer}

-- a count that rose since a later moment rose since an earlier one
rose_since : (early late now : ℕ) → early ≤ late → Rose late now → Rose early now
rose_since early late now h (inl more) = inl (omega (arith, h, more))
rose_since early late now h (inr last) = inr last

module _ (words : List (List ℕ)) (shelf : Loads) (faults misses longs : ℕ) (f : faults ≤ shelf.faults) (m : misses ≤ shelf.misses)
    (l : longs ≤ shelf.longs) where
  pub decided_since : (o : Outcome) → Decided words shelf o →
      Decided words (record shelf { faults = faults; misses = misses; longs = longs }) o
  decided_since o (no_command none) = no_command none
  decided_since o (missing c name meant due rose gone) = missing c name meant due (rose_since misses shelf.misses shelf.misses' m rose) gone
  decided_since o (too_long c name meant due rose long) = too_long c name meant due (rose_since longs shelf.longs shelf.longs' l rose) long
  decided_since o (read_fault c name meant due rose) = read_fault c name meant due (rose_since faults shelf.faults shelf.faults' f rose)
  decided_since o (refused c text b meant told first) = refused c text b meant told first
  decided_since o (bad_stim name line rule bad) = bad_stim name line rule bad
  decided_since o (checked file text P meant told accepted) = checked file text P meant told accepted
  decided_since o (assembled file text L meant told compiled) = assembled file text L meant told compiled
  decided_since o (ran file ticks workers stim text s L lines word trapped meant told compiled stimulus lockstep of_program) =
      ran file ticks workers stim text s L lines word trapped meant told compiled stimulus lockstep of_program
  decided_since o (timed L name asked numbers are bounds unbroken kept) = timed L name asked numbers are bounds unbroken kept
  decided_since o (bad_route L name asked line rule are first) = bad_route L name asked line rule are first
  decided_since o no_memory = no_memory

pub answered_since : (late : Loads) (files : Option (List File)) (faults misses longs : ℕ) → late.files ≡ files → faults ≤ late.faults →
    misses ≤ late.misses → longs ≤ late.longs → (c : Command) (o : Outcome) → IsAnswer late c o →
    IsAnswer (record late { files = files; faults = faults; misses = misses; longs = longs }) c o
answered_since late files faults misses longs e f m l c o answer words meant =
    subst (λ fs. Decided words (record late { files = fs; faults = faults; misses = misses; longs = longs }) o) e
    (decided_since words late faults misses longs f m l o (answer words meant))
