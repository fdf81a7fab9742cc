-- The steps of a program's kernel and of its text, and their runs.
use Rattle.std.specs.Prelude.{ℕ, ◌+◌, List, [], ◌∷◌, map, replicate, Option, Some, None, IsSome, slice_get}
use Rattle.xs_instr.specs.Machine.{and_then}
use Rattle.xs_instr.specs.declared.image.Stim.{Stim}
use Rattle.xc_tree.specs.Plain as tree
use Rattle.xc_kernel.specs.declared.kernel.Var.{Var}
use Rattle.xc_kernel.specs.declared.kernel.Chan.{Chan}
use Rattle.xc_kernel.specs.Plain as kernel
use Rattle.xc_kernel.specs.Copies.{copy_of}
use Rattle.xc_meaning.specs.States.Channels.{Side, Inboxes, no_parcels}
use Rattle.xc_meaning.specs.States.Items.{Item, does, says, stores, stamps, mark, awaits, transaction_end, chooses, fixed, ends}
use Rattle.xc_meaning.specs.States.Branches.{Mode, runs, waits, ended, erred, Branch}
use Rattle.xc_meaning.specs.States.Worlds.{World, Action, clock, go, take, default}
use Rattle.xc_meaning.specs.Settings.Setting.{Setting, becomes, goes_on}
use Rattle.xc_meaning.specs.Settings.Stores.{stored}
use Rattle.xc_meaning.specs.Settings.Sides.{sides_in}
use Rattle.xc_meaning.specs.Settings.Par.{begun, joins}
use Rattle.xc_meaning.specs.Settings.Channels.{awaits_answer}
use Rattle.xc_meaning.specs.Settings.Transactions as transaction
use Rattle.xc_meaning.specs.Settings.Time.{ticks}
use Rattle.xc_meaning.specs.Settings.Transfers.{inputs_fixed}
use Rattle.xc_meaning.specs.Settings.Select.{takes, takes_default}
use Rattle.xc_meaning.specs.Settings.Kernel.{does_statement}
use Rattle.xc_meaning.specs.Texts.Statements.{says_item}
use Rattle.xc_meaning.specs.Texts.Roots.{Root, program_roots}

-- the step of an item; a select whose cases are known goes on by a case or the default alone
abbrev pub does_item : Setting → Item → Option World
does_item s (does t) = does_statement s t
does_item s (says i) = says_item s i
does_item s (stores place v) = stored s place v
does_item s (stamps resource place v) = stored s place v
does_item s (mark n) = Some (goes_on s)
does_item s (awaits c pos) = awaits_answer s c pos
does_item s (transaction_end c is_master pos) = transaction.closes s c is_master pos
does_item s (chooses choices otherwise) = None
does_item s (fixed i v counter) = inputs_fixed s i v counter i.resource
does_item s ends = Some (becomes s (record s.branch { mode = ended; items = [] }))

-- the setting of a branch's step, with these items behind the first
abbrev pub step_of : kernel.Kernel → Stim → World → (number : ℕ) → Branch → List Item → Setting
step_of K s x b branch rest = record { program = K; stimulus = s; world = x; number = b; branch = branch; rest = rest }

-- the step of a branch's first item
abbrev pub does_first : kernel.Kernel → Stim → World → (number : ℕ) → Branch → (Setting → Item → Option World) → List Item → Option World
does_first K s x b branch step [] = None
does_first K s x b branch step (item ∷ rest) = step (step_of K s x b branch rest) item

-- a branch that runs does its first item, one that waits goes on behind its `par`, and others do nothing more
abbrev pub goes_by : kernel.Kernel → Stim → World → (number : ℕ) → Branch → Mode → Option World
goes_by K s x b branch runs = does_first K s x b branch does_item branch.items
goes_by K s x b branch (waits from count) = joins (step_of K s x b branch branch.items) from count
goes_by K s x b branch ended = None
goes_by K s x b branch erred = None

abbrev pub goes : kernel.Kernel → Stim → World → (number : ℕ) → Branch → Option World
goes K s x b branch = goes_by K s x b branch branch.mode

-- a branch that runs goes on behind its select
abbrev pub selects_by : kernel.Kernel → Stim → World → (number : ℕ) → (Setting → Item → Option World) → Branch → Mode → Option World
selects_by K s x b step branch runs = does_first K s x b branch step branch.items
selects_by K s x b step branch mode = None

abbrev pub selects : kernel.Kernel → Stim → World → (number : ℕ) → (Setting → Item → Option World) → Branch → Option World
selects K s x b step branch = selects_by K s x b step branch branch.mode

-- What an action leaves, where it is possible under a stimulus. Of the kernel its ports alone count.
abbrev pub acts : kernel.Kernel → Stim → World → Action → Option World
acts K s x (clock core) = and_then (slice_get x.clocks core) (ticks x core)
acts K s x (go b) = and_then (slice_get x.branches b) (goes K s x b)
acts K s x (take b n) = and_then (slice_get x.branches b) (selects K s x b (λ step. takes step n))
acts K s x (default b) = and_then (slice_get x.branches b) (selects K s x b takes_default)

-- where a list of actions leads, each possible where it stands
abbrev pub acts_all : kernel.Kernel → Stim → Option World → List Action → Option World
acts_all K s None ms = None
acts_all K s (Some x) [] = Some x
acts_all K s (Some x) (m ∷ ms) = acts_all K s (acts K s x m) ms

-- Starts.

abbrev pub codes_of_roots : List Root → List kernel.Statements
codes_of_roots [] = []
codes_of_roots (r ∷ rs) = r.begun.code ∷ codes_of_roots rs

-- a root by its number, in the family of that number
abbrev pub root_branch : (number core : ℕ) → List (Option Side) → List Item → Branch
root_branch number core sides items = record {
  core = core;
  mode = runs;
  items = items;
  sides = sides;
  inside = [];
  family = number;
  birth = None;
}

-- the roots are the branches of one `par`, and the ones from a number on stand behind those with this code
abbrev pub root_branches : (number : ℕ) → (before : List kernel.Statements) → List (Option Side) → List Root → List Branch
root_branches number before sides [] = []
root_branches number before sides (r ∷ rs) =
    root_branch number r.core (sides_in 0 before r.begun.code (codes_of_roots rs) sides) r.begun.items
    ∷ root_branches (number + 1) (r.begun.code ∷ before) sides rs

abbrev pub no_side : Chan → Option Side
no_side c = None

abbrev pub empty_inboxes : Chan → Inboxes
empty_inboxes c = no_parcels

abbrev pub zeros_of : Var → List ℕ
zeros_of v = replicate v.words 0

-- all clocks are 0, nothing has arrived and nothing is recorded, and the roots have all to do
abbrev pub start_with : kernel.Kernel → List Root → World
start_with K roots = record {
  clocks = 0 ∷ 0 ∷ 0 ∷ 0 ∷ [];
  branches = root_branches 0 [] (map no_side K.channels) roots;
  store = map zeros_of K.variables;
  inboxes = map empty_inboxes K.channels;
  trace = [];
}

abbrev pub kernel_root : kernel.Root → Root
kernel_root r = record { core = r.core; begun = begun r.body }

abbrev pub kernel_start : kernel.Kernel → World
kernel_start K = start_with K (map kernel_root K.roots)

abbrev pub program_start : List tree.Item → World
program_start P = start_with (copy_of P) (program_roots P)

-- where a list of actions leads from the start

abbrev pub kernel_run : kernel.Kernel → Stim → List Action → Option World
kernel_run K s ms = acts_all K s (Some (kernel_start K)) ms

abbrev pub program_run : List tree.Item → Stim → List Action → Option World
program_run P s ms = acts_all (copy_of P) s (Some (program_start P)) ms

-- a list of actions is a run of a kernel, or of a program's text
pub record AllowedKernel (K : kernel.Kernel) (s : Stim) (ms : List Action) : Type 0 where
  pub leads : IsSome (kernel_run K s ms)

pub record Allowed (P : List tree.Item) (s : Stim) (ms : List Action) : Type 0 where
  pub leads : IsSome (program_run P s ms)
