-- What an argument gives, as the code has it, and the function that a name means.
use Rattle.std.specs.Prelude.{ℕ, if◌then◌else◌, Option, None, option_map, slice_get}
use Rattle.std.specs.Borrow.{Bor}
use Rattle.std.specs.Option.{option_copied}
use Rattle.xw_words.specs.declared.pos.Pos.{Pos}
use Rattle.xc_tree.specs.declared.names.Named.{Named}
use Rattle.xc_tree.specs.declared.names.What.{What}
use Rattle.xc_tree.specs.declared.tree.Expr.{Expr}
use Rattle.xc_tree.specs.declared.tree.FuncItem.{FuncItem}
use Rattle.xc_tree.specs.declared.tree.ParamKind.{ParamKind}
use Rattle.xc_tree.specs.Plain as plain
use Rattle.xc_tree.specs.Trees.{expression_of, head_of}
use Rattle.xc_tree.specs.Types.Calls.{Argument, Given, a_name, an_element, given_by}
use Rattle.xc_tree.specs.Types.Entities.{is_variable}
use Rattle.xc_tree.specs.Types.Named.{named_of, what_at}

-- what an expression gives before which k names stand
abbrev pub given : Named → ℕ → Expr → Given
given named k e = given_by (named_of named) k (expression_of e)

-- what the name means that is given by itself
abbrev pub name_given : Given → Option What
name_given (a_name x) = x.what
name_given other = None

-- what the name means of which an element is given
abbrev pub element_given : Given → Option What
element_given (an_element x) = x.what
element_given other = None

-- an argument whose first token stands at this place, with its parameter
abbrev pub argument : Named → ℕ → Option ParamKind → Pos → Expr → Argument
argument named k parameter first e = record { first = first; parameter = parameter; given = given named k e }

-- the variable that name k means, if it means one
abbrev pub variable_at : Named → ℕ → Option ℕ
variable_at named k = if is_variable (what_at (named_of named) (slice_get named.uses k)) then slice_get named.uses k else None

-- the head of a called function
abbrev pub head : Option (Bor FuncItem) → Option plain.Head
head called = option_map head_of (option_copied called)
