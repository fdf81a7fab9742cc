-- What a step of a branch depends on, its setting; how the branch goes on, and how it errs.
use Rattle.std.specs.Prelude.{ℕ, List, [], Option, Some, slice_set}
use Rattle.xw_words.specs.declared.pos.Pos.{Pos}
use Rattle.xs_instr.specs.declared.image.Stim.{Stim}
use Rattle.xs_instr.specs.declared.trace.Trap.{Trap}
use Rattle.xs_instr.specs.declared.trace.Trap.TheVariants.{Arithmetic, Index, Mismatch}
use Rattle.xs_instr.specs.declared.trace.Record.TheVariants.{Fault}
use Rattle.xc_kernel.specs.Plain as kernel
use Rattle.xc_kernel.specs.Values.{Value, word, error, ErrorKind, arithmetic, index}
use Rattle.xc_kernel.specs.Eval.{eval}
use Rattle.xc_meaning.specs.States.Items.{Item}
use Rattle.xc_meaning.specs.States.Branches.{Branch, erred}
use Rattle.xc_meaning.specs.States.Worlds.{World, with_record}

-- What the step of a branch depends on.
pub record Setting : Type 0 where
  pub program : kernel.Kernel
  pub stimulus : Stim
  pub world : World
  -- the branch by its number, and its items behind the first one
  pub number : ℕ
  pub branch : Branch
  pub rest : List Item

-- the branch goes on as this one
abbrev pub becomes : Setting → Branch → World
becomes s branch = record s.world { branches = slice_set s.world.branches s.number branch }

-- the branch has these items left
abbrev pub goes_to : Setting → List Item → World
goes_to s items = becomes s (record s.branch { items = items })

-- its first item is done
abbrev pub goes_on : Setting → World
goes_on s = goes_to s s.rest

-- the branch errs: that is recorded, and the branch does nothing more
abbrev pub errs : Setting → Trap → Pos → Option World
errs s kind pos =
    Some (with_record (becomes s (record s.branch { mode = erred; items = [] })) (Fault s.branch.core pos kind))

-- it has received something other than what it waits for
abbrev pub mismatches : Setting → Pos → Option World
mismatches s pos = errs s Mismatch pos

abbrev pub kind_of : ErrorKind → Trap
kind_of arithmetic = Arithmetic
kind_of index = Index

-- it goes on with a word, or errs as the word's evaluation does
abbrev pub with_value : Setting → Value → (ℕ → Option World) → Option World
with_value s (word v) go = go v
with_value s (error kind pos) go = errs s (kind_of kind) pos

-- it goes on with the word of an expression
abbrev pub with_word_of : Setting → kernel.Expression → (ℕ → Option World) → Option World
with_word_of s e go = with_value s (eval s.world.store e) go
