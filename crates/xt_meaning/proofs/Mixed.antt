-- A program with many kinds of statements, run as its kernel and as its text, each step that is possible in turn.
use Rattle.std.specs.Prelude.{◌≡◌, ℕ, zero, suc, Bool, true, List, [], ◌∷◌, unwrap_or, refl}
use Rattle.xw_words.specs.Tables.{place_from}
use Rattle.xw_words.specs.Ports.{identifiers}
use Rattle.xs_instr.specs.declared.trace.Record.{Record}
use Rattle.xs_instr.specs.declared.trace.Record.TheVariants.{PortOut, PortIn}
use Rattle.xc_tree.specs.Plain as tree
use Rattle.xc_kernel.specs.Plain as kernel
use Rattle.xc_kernel.specs.Eval.{Store}
use Rattle.xc_kernel.specs.Copies.{copy_of}
use Rattle.xc_meaning.specs.States.Branches.{all_ended}
use Rattle.xc_meaning.specs.States.Worlds.{World, Action, go, default}
use Rattle.xc_meaning.specs.Runs.{acts, kernel_start, program_start}
use Rattle.xt_meaning.proofs.Programs.{mixed}
use Rattle.xt_meaning.proofs.Running.{no_stimulus}

-- these steps in order, without those that aren't possible
abbrev possible : kernel.Kernel → List Action → World → World
possible K [] x = x
possible K (m ∷ ms) x = possible K ms (unwrap_or (acts K no_stimulus x m) x)

abbrev rounds : kernel.Kernel → ℕ → World → World
rounds K zero x = x
rounds K (suc n) x = rounds K n (possible K (go 0 ∷ default 0 ∷ go 1 ∷ go 2 ∷ []) x)

pub record Left : Type 0 where
  pub trace : List Record
  pub store : Store
  pub ended : Bool

abbrev left : World → Left
left x = record { trace = x.trace; store = x.store; ended = all_ended x.branches }

abbrev kernel_left : List tree.Item → Left
kernel_left P = left (rounds (copy_of P) 200 (kernel_start (copy_of P)))

abbrev program_left : List tree.Item → Left
program_left P = left (rounds (copy_of P) 200 (program_start P))

-- both have ended, with the same trace and the same words
same : kernel_left mixed ≡ program_left mixed
unfolding copy_of identifiers place_from
same = refl

trace : (program_left mixed).trace ≡ PortOut 0 26 0 1 ∷ PortIn 0 1 0 0 ∷ []
unfolding copy_of identifiers place_from
trace = refl

ended : (program_left mixed).ended ≡ true
unfolding copy_of identifiers place_from
ended = refl
