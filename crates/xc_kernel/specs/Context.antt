-- Where a statement stands: what is the same for a function's body, a branch, or a loop's body.
use Rattle.std.specs.Prelude.{ℕ, Bool, true, false, List, Option, option_map}
use Rattle.xw_words.specs.declared.pos.Pos.{Pos}
use Rattle.xc_tree.specs.Plain as tree
use Rattle.xc_kernel.specs.declared.kernel.Var.{Var}
use Rattle.xc_kernel.specs.Plain as kernel
use Rattle.xc_kernel.specs.Paths.{Path, path_at, path_of_branch, path_of_turn}
use Rattle.xc_kernel.specs.Numbering.{Numbering, variable_number, block_number}
use Rattle.xc_kernel.specs.Scopes.{Scope, a_word, with_name}
use Rattle.xc_kernel.specs.Programs.{Function}
use Rattle.xc_kernel.specs.Expressions.{expression_in, kernel_place, word_of}
use Rattle.xc_kernel.specs.Copy.{Copy, no_copy, with_variable}

pub record Context : Type 0 where
  pub functions : List Function
  -- the ports' names, which each function knows
  pub ports : Scope
  pub numbering : Numbering
  pub core : ℕ
  -- the instance of a function or branch
  pub path : Path
  -- the variable of the function's result
  pub result : Path
  -- the blocks that `return`, `break` and `continue` leave
  pub returns : Path
  pub breaks : Path
  pub continues : Path

-- a branch of a `par` here
abbrev pub in_branch : Context → ℕ → Context
in_branch c index = record c { path = path_of_branch c.path index }

-- the body of a loop whose word stands at a place
abbrev pub in_loop : Context → Pos → Context
in_loop c pos = record c { breaks = path_at c.path pos; continues = path_of_turn (path_at c.path pos) }

-- the body of a case that begins at a place
abbrev pub in_case : Context → Pos → Context
in_case c pos = record c { breaks = path_at c.path pos }

-- the body of a function that is called here by this path
abbrev pub in_function : Context → Path → Function → Context
in_function c own f = record c { path = own; result = path_at own f.head.name.pos; returns = own }

-- the kernel's expressions and places here

abbrev pub expression : Context → Scope → tree.Expression → kernel.Expression
expression c scope e = expression_in c.numbering scope e

abbrev pub maybe_expression : Context → Scope → Option tree.Expression → Option kernel.Expression
maybe_expression c scope e = option_map (expression c scope) e

abbrev pub place : Context → Scope → tree.Expression → kernel.Place
place c scope e = kernel_place c.numbering scope e

-- the word of a variable of this path
abbrev pub word_at : Context → Path → kernel.Place
word_at c path = word_of c.numbering path

-- statements of the kernel here

-- stores a word in the variable of this path
abbrev pub set_word : Context → Path → kernel.Expression → kernel.Statement
set_word c path e = kernel.set (word_at c path) e

-- sets the words of the variable of this path to 0
abbrev pub set_zero : Context → Path → kernel.Statement
set_zero c path = kernel.set_zero (variable_number c.numbering path)

-- leaves the block of this path
abbrev pub leave : Context → Path → kernel.Statement
leave c path = kernel.exit (block_number c.numbering path)

-- the block of this path
abbrev pub block_at : Context → Path → List kernel.Statement → kernel.Statement
block_at c path code = kernel.block (block_number c.numbering path) (kernel.statements code)

-- instances here

-- a variable of one word; those of parameters and results aren't counted by themselves
abbrev pub word_variable : Context → (counted : Bool) → Path → Pos → Var
word_variable c counted path pos = record { words = 1; array = false; counted = counted; core = c.core; path = path; pos = pos }

-- a variable of an array
abbrev pub array_variable : Context → (length : ℕ) → Path → Pos → Var
array_variable c length path pos = record { words = length; array = true; counted = true; core = c.core; path = path; pos = pos }

-- a word variable is declared by a name at a place
abbrev pub declares_word : Context → List ℕ → Pos → (is_unsigned : Bool) → Scope → Copy
declares_word c name pos u scope =
    with_variable (no_copy (with_name scope name (a_word (path_at c.path pos) u))) (word_variable c true (path_at c.path pos) pos)
