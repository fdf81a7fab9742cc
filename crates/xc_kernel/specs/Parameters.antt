-- How a call's arguments are handed to the parameters of the function.
use Rattle.std.specs.Prelude.{ℕ, Bool, true, false, List, [], ◌∷◌, ◌++◌}
use Rattle.xw_words.specs.declared.pos.Pos.{Pos}
use Rattle.xc_tree.specs.declared.tree.Param.{Param}
use Rattle.xc_tree.specs.declared.tree.ParamKind.{ParamKind}
use Rattle.xc_tree.specs.declared.tree.ParamKind.TheVariants.{Value, Ref, Array, End, Port}
use Rattle.xc_tree.specs.Plain as tree
use Rattle.xc_kernel.specs.declared.kernel.Var.{Var}
use Rattle.xc_kernel.specs.Plain as kernel
use Rattle.xc_tree.specs.Symbols.{bracket}
use Rattle.xc_kernel.specs.Paths.{Path, path_at}
use Rattle.xc_kernel.specs.Scopes.{Scope, Entity, a_word, an_array, an_element, nothing_known, entity_of, with_name}
use Rattle.xc_kernel.specs.Expressions.{two_operands}
use Rattle.xc_kernel.specs.Copy.{Copy, no_copy}
use Rattle.xc_kernel.specs.Context.{Context, expression, set_word, word_variable}

-- what a call stores for a parameter, what the parameter's name then stands for, and its variable where it has one
pub record Passed : Type 0 where
  pub code : List kernel.Statement
  pub entity : Entity
  pub variables : List Var

-- the parameter stands for what the argument stands for
abbrev pub stands_for : Entity → Passed
stands_for entity = record { code = []; entity = entity; variables = [] }

-- by value: a variable of its own holds the argument's word
abbrev pub by_value : Context → Scope → Path → Pos → (is_unsigned : Bool) → tree.Expression → Passed
by_value c scope own pos u e = record {
  code = set_word c (path_at own pos) (expression c scope e) ∷ [];
  entity = a_word (path_at own pos) u;
  variables = word_variable c false (path_at own pos) pos ∷ [];
}

-- the test of an index that stands alone: it gives the index, where that is below the array's length
abbrev pub index_test : Context → Scope → tree.Expression → (length : ℕ) → Pos → kernel.Expression
index_test c scope i length pos = kernel.operation bracket true (two_operands (expression c scope i) (kernel.number length)) pos

-- an element by reference: a variable of its own holds the index, which is tested at the call
abbrev pub by_element : Context → Scope → Path → Pos → (index : tree.Expression) → Pos → Entity → Passed
by_element c scope own pos i array_pos (an_array path length u) = record {
  code = set_word c (path_at own pos) (index_test c scope i length array_pos) ∷ [];
  entity = an_element path (path_at own pos) u;
  variables = word_variable c false (path_at own pos) pos ∷ [];
}
by_element c scope own pos i array_pos other = stands_for nothing_known

-- by reference: a name, or an element
abbrev pub form_by_reference : Context → Scope → Path → Pos → Pos → tree.Form → Passed
form_by_reference c scope own pos at (tree.name text) = stands_for (entity_of scope text)
form_by_reference c scope own pos at (tree.index text i) = by_element c scope own pos i at (entity_of scope text)
form_by_reference c scope own pos at other = stands_for nothing_known

abbrev pub by_reference : Context → Scope → Path → Pos → tree.Expression → Passed
by_reference c scope own pos (tree.expression form at) = form_by_reference c scope own pos at form

-- a whole array, a channel or a port: a name
abbrev pub by_name : Scope → tree.Expression → Passed
by_name scope (tree.expression (tree.name text) at) = stands_for (entity_of scope text)
by_name scope other = stands_for nothing_known

-- an argument in the caller's scope, for a parameter whose name stands at a place, in a call of this path
abbrev pub passed : Context → Scope → Path → Pos → ParamKind → tree.Expression → Passed
passed c scope own pos (Value u) e = by_value c scope own pos u e
passed c scope own pos (Ref u) e = by_reference c scope own pos e
passed c scope own pos (Array u length) e = by_name scope e
passed c scope own pos (End is_streaming) e = by_name scope e
passed c scope own pos (Port dir) e = by_name scope e

-- a parameter before the others, whose names are known in the function
abbrev pub and_passed : List ℕ → Passed → Copy → Copy
and_passed name p others = record others {
  code = p.code ++ others.code;
  scope = with_name others.scope name p.entity;
  variables = p.variables ++ others.variables;
}

-- all arguments, from left to right; a function knows the ports and its parameters
abbrev pub all_passed : Context → Scope → Path → List Param → List tree.Argument → Copy
all_passed c scope own [] args = no_copy c.ports
all_passed c scope own (p ∷ ps) [] = no_copy c.ports
all_passed c scope own (p ∷ ps) (a ∷ args) =
    and_passed p.name.text (passed c scope own p.name.pos p.kind a.value) (all_passed c scope own ps args)
