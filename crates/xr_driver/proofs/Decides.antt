-- The rows of the answers, for a file's name as the program has it.
use Rattle.std.proofs.Common.{Bor, ◌≡◌, ◌≤◌, ℕ, List, Option, None, Some, Ok, Err, IfOk, refl, ap, ◌∙◌, sym, subst}
use Rattle.std.specs.Prelude.{Result, IsErrAnd}
use Rattle.std.proofs.lemmas.Result.{err_from_is_err_and}
use Rattle.xw_io.specs.Outside.{Rose, IsFileOf, IsMissing, IsTooLong}
use Rattle.xw_io.specs.declared.file.File.{File}
use Rattle.xw_words.specs.declared.pos.Broken.{Broken}
use Rattle.xc_kernel.specs.Plain.{Kernel}
use Rattle.xs_instr.specs.declared.image.Image.{Image}
use Rattle.xs_instr.specs.declared.image.Stim.{Stim}
use Rattle.xf_time.specs.Bounds.{AreBounds, IsFirstBroken as IsFirstBrokenOn}
use Rattle.xf_time.proofs.Threads.{numbers_hold}
use Rattle.xs_instr.specs.Valid.{IsGoodStim}
use Rattle.xr_driver.specs.Answers.{Decided, Outcome, missing, too_long, read_fault, refused, bad_stim, checked, assembled, ran, timed, bad_route, no_memory, says, prints, prints_and_says}
use Rattle.xr_driver.specs.Command.{Command, Run, Asm, Check, Time, file_of, means, route_file_of, second_of, stim_of}
use Rattle.xr_driver.specs.Decision.{command_of, outcome_of, outcome_of_run}
use Rattle.xr_driver.specs.Next.{IsNext, IsNextOf, IsNextOn, IsTaskFor}
use Rattle.xr_driver.specs.declared.decide.Decision.{Decision}
use Rattle.xr_driver.specs.declared.decide.Printed.TheVariants.{Nothing}
use Rattle.xr_driver.specs.declared.decide.Line.TheVariants.{NoMemory}
use Rattle.xr_driver.specs.declared.prepare.Next.{Next}
use Rattle.xr_driver.specs.declared.prepare.Next.TheVariants.{Done, Left}
use Rattle.xr_driver.specs.declared.prepare.Task.{Task}
use Rattle.xr_windows.specs.Telling.{IsLockstep}
use Rattle.xr_windows.specs.declared.run.Run.{Run as WholeRun}
use Rattle.xw_words.specs.declared.memory.Memory.{Memory}
use Rattle.xr_driver.specs.declared.words.Command.TheVariants.{Run as RunCommand}
use Rattle.xr_driver.specs.Due.{HasAccepted, IsDue, of_text}
use Rattle.xr_driver.specs.Lines.{accepted_line, bad_line, broken_line, code_section, no_file_line, no_memory_line, read_fault_line, time_output, too_long_line}
use Rattle.xr_driver.specs.Outside.{Loads}
use Rattle.xr_driver.specs.Parts.{AreInputs, AreRead, IsAnswer, IsAnswerOn, IsAnswerWith, IsTextAt}
use Rattle.xr_driver.specs.Reads.{IsKernelIn, RefusesOf, refusal_of}
use Rattle.xr_driver.specs.declared.files.Inputs.{Inputs}
use Rattle.xr_driver.specs.declared.files.Refused.{Refused}
use Rattle.xr_driver.specs.Runs.{IsCompiled, IsStimOf, no_stim, unnamed}
use Rattle.xr_driver.proofs.ProgramRuns.{run_beside}
use Rattle.xr_driver.proofs.Rounds.{run_for}
use Rattle.xr_driver.proofs.Since.{answered_since}
use Rattle.xr_front.specs.Rules.{First, IsKernelOf}
use Rattle.xr_stim.specs.Stimulus.{IsFirstBroken}

pub without_memory : (shelf : Loads) (c : Command) → IsAnswer shelf c (says 12 no_memory_line)
without_memory shelf c words meant = no_memory

-- what a call refused is handed on
pub handed_on : {A : Type 0} (shelf : Loads) (IsSo : Command → Type 0) (why : Refused) (r : Result A Refused) → IsErrAnd r (λ e. e ≡ why) →
    ((c : Command) → IsSo c → IsAnswer shelf c (refusal_of why)) → RefusesOf shelf IsSo r
handed_on shelf IsSo why r h answer =
    let is = err_from_is_err_and r h in
    subst (λ q. RefusesOf shelf IsSo q) (sym is.1) (λ c so. subst (λ e. IsAnswer shelf c (refusal_of e)) (sym is.2) (answer c so))

-- the file of this name is due
module _ (shelf : Loads) (c : Command) (name : List ℕ) (due : IsDue shelf.files c name) where
  pub missing_at : Rose shelf.misses shelf.misses' → IsMissing shelf.files name → IsAnswer shelf c (says 6 (no_file_line name))
  missing_at rose gone words meant = missing c name meant due rose gone

  pub too_long_at : Rose shelf.longs shelf.longs' → IsTooLong shelf.files name → IsAnswer shelf c (says 7 (too_long_line name))
  too_long_at rose long words meant = too_long c name meant due rose long

  pub read_fault_at : Rose shelf.faults shelf.faults' → IsAnswer shelf c (says 8 (read_fault_line name))
  read_fault_at rose words meant = read_fault c name meant due rose

-- the text's file is due at first, and the stimulus's when that is accepted
pub text_due : (files : Option (List File)) (c : Command) (name : List ℕ) → name ≡ file_of c → IsDue files c name
text_due files c name is = subst (λ n. IsDue files c n) (sym is) (of_text c)

pub refused_at : (shelf : Loads) (c : Command) (name : List ℕ) → name ≡ file_of c → (text : List ℕ) (b : Broken) →
    IsFileOf shelf.files name text → First text b → IsAnswer shelf c (says 1 (broken_line name b))
refused_at shelf c name is text b told first words meant =
    subst (λ n. Decided words shelf (says 1 (broken_line n b))) (sym is)
    (refused c text b meant (subst (λ n. IsFileOf shelf.files n text) is told) first)

pub bad_line_at : (shelf : Loads) (c : Command) (name : List ℕ) → HasAccepted shelf.files c → stim_of c ≡ Some name →
    (text : List ℕ) (line rule : ℕ) → IsFileOf shelf.files name text → IsFirstBroken text line rule →
    IsAnswer shelf c (says 10 (bad_line name line rule))
bad_line_at shelf c name accepted names text line rule told first words meant =
    bad_stim name line rule (record {
      c = c;
      meant = meant;
      accepted = accepted;
      names = names;
      text = text;
      told = told;
      first = first;
    })

-- the file of the stimulus, and that of the routes, is the one that is named behind the text's
pub stim_is_second : (c : Command) (name : List ℕ) → stim_of c ≡ Some name → second_of c ≡ Some name
stim_is_second (Run file ticks workers stim) name e = e
stim_is_second (Asm file) name e = absurd (cc)
stim_is_second (Check file) name e = absurd (cc)
stim_is_second (Time file routes) name e = absurd (cc)

pub route_file_is_second : (c : Command) (name : List ℕ) → route_file_of c ≡ Some name → second_of c ≡ Some name
route_file_is_second (Run file ticks workers stim) name e = absurd (cc)
route_file_is_second (Asm file) name e = absurd (cc)
route_file_is_second (Check file) name e = absurd (cc)
route_file_is_second (Time file routes) name e = e

-- a command with a stimulus names no routes
no_routes_with_stim : (c : Command) (name : List ℕ) → stim_of c ≡ Some name → route_file_of c ≡ None
no_routes_with_stim (Run file ticks workers stim) name e = refl
no_routes_with_stim (Asm file) name e = refl
no_routes_with_stim (Check file) name e = refl
no_routes_with_stim (Time file routes) name e = absurd (cc)

-- the text is read
module _ (files : Option (List File)) (c : Command) (name : List ℕ) (K : Kernel) (is : name ≡ file_of c) (read : IsKernelIn files name K) where
  pub accepted_by : HasAccepted files c
  accepted_by = record {
    text = read.text;
    told = subst (λ n. IsFileOf files n read.text) is read.told;
    program = read.kernel.program;
    accepted = read.kernel.accepted;
  }

  -- the inputs are read then, at a later moment of the shelf, which has the same files
  pub all_read : (inputs : Inputs) (later : Option (List File)) → later ≡ files → AreInputs later c inputs → AreRead files c K inputs
  all_read inputs later same are = record {
    text = read.text;
    told = subst (λ n. IsFileOf files n read.text) is read.told;
    kernel = read.kernel;
    inputs_are = subst (λ fs. AreInputs fs c inputs) same are;
  }

-- a stimulus is named, or no file is, or that of the routes
module _ (files : Option (List File)) (c : Command) (inputs : Inputs) where
  no_stim_at : (name : Option (List ℕ)) (s : Stim) → name ≡ None → s ≡ no_stim → IsStimOf files name s
  no_stim_at name s none is = subst (λ n. IsStimOf files n s) (sym none) (subst (λ x. IsStimOf files None x) (sym is) unnamed)

  pub with_stim : (name : List ℕ) → stim_of c ≡ Some name → IsStimOf files (Some name) inputs.stim → AreInputs files c inputs
  with_stim name names of = record {
    stim = subst (λ o. IsStimOf files o inputs.stim) (sym names) of;
    routes = subst (λ o. IsTextAt files o inputs.routes) (sym (no_routes_with_stim c name names)) tt;
  }

  pub with_routes : (name : List ℕ) → stim_of c ≡ None → inputs.stim ≡ no_stim → route_file_of c ≡ Some name →
      IsFileOf files name inputs.routes → AreInputs files c inputs
  with_routes name none is names told = record {
    stim = no_stim_at (stim_of c) inputs.stim none is;
    routes = subst (λ o. IsTextAt files o inputs.routes) (sym names) told;
  }

  pub without_files : stim_of c ≡ None → inputs.stim ≡ no_stim → route_file_of c ≡ None → AreInputs files c inputs
  without_files none is no_routes = record {
    stim = no_stim_at (stim_of c) inputs.stim none is;
    routes = subst (λ o. IsTextAt files o inputs.routes) (sym no_routes) tt;
  }

-- what is answered where the inputs are refused, since the text was loaded
module _ (late : Loads) (files : Option (List File)) (faults misses longs : ℕ) (same : late.files ≡ files) (f : faults ≤ late.faults)
    (m : misses ≤ late.misses) (l : longs ≤ late.longs) where
  pub inputs_refused_at : (c : Command) (name : List ℕ) (K : Kernel) (o : Outcome) → name ≡ file_of c → IsKernelIn files name K →
      ((d : Command) → HasAccepted late.files d × (d ≡ c) → IsAnswer late d o) → (d : Command) → d ≡ c →
      IsAnswer (record late { files = files; faults = faults; misses = misses; longs = longs }) d o
  inputs_refused_at c name K o is read answer d e =
      let accepted = subst (λ fs. HasAccepted fs c) (sym same) (accepted_by files c name K is read) in
      subst (λ k. IsAnswer (record late { files = files; faults = faults; misses = misses; longs = longs }) k o) (sym e)
      (answered_since late files faults misses longs same f m l c o (answer c (accepted, refl)))

pub all_without_memory : (c : Command) (K : Kernel) (inputs : Inputs) → IsAnswerOn c K inputs (says 12 no_memory_line)
all_without_memory c K inputs shelf read words meant = no_memory

-- a run, with a stimulus that is named or without one
pub run_at : (file : Bor (List ℕ)) (stim : Option (Bor (List ℕ))) (ticks workers : ℕ) (K : Kernel) (inputs : Inputs) (next : Next) →
    ((f : List ℕ) (name : Option (List ℕ)) → IsNextOn (Run f ticks workers name) K inputs next) →
    IsNextOn (command_of (RunCommand file stim ticks workers)) K inputs next
run_at file None ticks workers K inputs next is = is file.now None
run_at file (Some stim) ticks workers K inputs next is = is file.now (Some stim.now)

pub checked_at : (file : List ℕ) (K : Kernel) (inputs : Inputs) → IsAnswerOn (Check file) K inputs (prints 0 accepted_line)
checked_at file K inputs shelf read words meant = checked file read.text read.kernel.program meant read.told read.kernel.accepted

-- the image of the kernel
module _ (K : Kernel) (L : Image) (is : (text : List ℕ) → IsKernelOf text K → IsCompiled text L) where
  pub assembled_at : (file : List ℕ) (inputs : Inputs) → IsAnswerOn (Asm file) K inputs (prints 0 (code_section L))
  assembled_at file inputs shelf read words meant = assembled file read.text L meant read.told (is read.text read.kernel)

  pub compiled_at : (c : Command) (inputs : Inputs) (o : Outcome) → IsAnswerWith c L inputs o → IsAnswerOn c K inputs o
  compiled_at c inputs o answer shelf read =
      answer shelf (record { text = read.text; told = read.told; compiled = is read.text read.kernel; inputs_are = read.inputs_are })

pub image_without_memory : (c : Command) (L : Image) (inputs : Inputs) → IsAnswerWith c L inputs (says 12 no_memory_line)
image_without_memory c L inputs shelf compiled words meant = no_memory

-- a run that is left, and what it tells
pub left_at : (K : Kernel) (L : Image) → ((text : List ℕ) → IsKernelOf text K → IsCompiled text L) → (file : List ℕ) (name : Option (List ℕ))
    (ticks workers : ℕ) (inputs : Inputs) → IsGoodStim inputs.stim →
    IsNextOn (Run file ticks workers name) K inputs (Left (record { image = L; stim = inputs.stim; ticks = ticks; workers = workers }))
left_at K L is file name ticks workers inputs good shelf read = record {
  file = file;
  stim_file = name;
  is_run = refl;
  text = read.text;
  told = read.told;
  compiled = is read.text read.kernel;
  stimulus = read.inputs_are.stim;
  good = good;
}

pub next_without_memory : (c : Command) (K : Kernel) (inputs : Inputs) (d : Decision) →
    d ≡ record { status = 12; printed = Nothing; line = NoMemory } → IsNextOn c K inputs (Done d)
next_without_memory c K inputs d is shelf read =
    subst (λ x. IsNextOf shelf c (Done x)) (sym is) (λ words meant. no_memory, tt)

pub meant_next : (words : List (List ℕ)) (shelf : Loads) (c : Command) (next : Next) → means words ≡ Some c → IsNextOf shelf c next →
    IsNext words shelf next
meant_next words shelf c (Done d) meant is = (is.0 words meant, is.1)
meant_next words shelf c (Left task) meant is = record { command = c; meant = meant; of = is }

run_decided : (words : List (List ℕ)) (shelf : Loads) (task : Task) (r : Result WholeRun Memory) → IsTaskFor words shelf.files task →
    IfOk r (λ run. IsLockstep task.image task.stim task.ticks run) → Decided words shelf (outcome_of_run task.image r)
run_decided words shelf task (Err memory) is so = no_memory
run_decided words shelf task (Ok run) is so =
    let of = is.of in
    let lockstep = run_for task.image task.stim of.compiled.valid task.ticks run so in
    ran of.file task.ticks task.workers of.stim_file of.text task.stim task.image run.trace run.end run.trapped
    (is.meant ∙ ap Some of.is_run) of.told of.compiled of.stimulus lockstep
    (run_beside of.text task.image task.stim of.compiled of.good task.ticks run.trace run.end run.trapped lockstep)

pub after_run : (words : List (List ℕ)) (shelf : Loads) (task : Task) (r : Result WholeRun Memory) (d : Decision) →
    outcome_of d ≡ outcome_of_run task.image r → IsTaskFor words shelf.files task →
    IfOk r (λ run. IsLockstep task.image task.stim task.ticks run) → Decided words shelf (outcome_of d)
after_run words shelf task r d e is so = subst (λ o. Decided words shelf o) (sym e) (run_decided words shelf task r is so)

-- the routes are those of this file
module _ (file name : List ℕ) (L : Image) (inputs : Inputs) where
  pub timed_at : (numbers : List ℕ) → AreBounds L inputs.routes numbers →
      ((line rule : ℕ) → IsFirstBrokenOn L inputs.routes line rule → ⊥) →
      IsAnswerWith (Time file name) L inputs (prints 0 (time_output L numbers))
  timed_at numbers bounds unbroken shelf is words meant =
      timed L name inputs.routes numbers
      (record { file = file; meant = meant; text = is.text; told = is.told; compiled = is.compiled; asked_told = is.inputs_are.routes })
      bounds unbroken (numbers_hold L inputs.routes numbers bounds)

  pub bad_route_at : (line rule : ℕ) → IsFirstBrokenOn L inputs.routes line rule →
      IsAnswerWith (Time file name) L inputs (prints_and_says 13 (code_section L) (bad_line name line rule))
  bad_route_at line rule first shelf is words meant =
      bad_route L name inputs.routes line rule
      (record { file = file; meant = meant; text = is.text; told = is.told; compiled = is.compiled; asked_told = is.inputs_are.routes })
      first
