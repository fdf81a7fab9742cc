-- The functions and ports of a program.
use Rattle.std.specs.Prelude.{ℕ, zero, suc, Bool, true, false, List, [], ◌∷◌, length, Option, Some, None, codes, bytes_eq}
use Rattle.xw_words.specs.declared.pos.Pos.{Pos}
use Rattle.xc_tree.specs.Plain as tree

-- a function with its body
pub record Function : Type 0 where
  pub head : tree.Head
  pub body : tree.Statement

-- the functions, in the order of the text
abbrev pub functions : List tree.Item → List Function
functions [] = []
functions (tree.function head body ∷ items) = record { head = head; body = body } ∷ functions items
functions (tree.port p ∷ items) = functions items

-- the ports, in the order of the text
abbrev pub ports : List tree.Item → List tree.Port
ports [] = []
ports (tree.function head body ∷ items) = ports items
ports (tree.port p ∷ items) = p ∷ ports items

-- `function_named`, by cases
abbrev pub function_by : Bool → Function → Option Function → Option Function
function_by true f others = Some f
function_by false f others = others

-- the first function of a name
abbrev pub function_named : List Function → List ℕ → Option Function
function_named [] name = None
function_named (f ∷ fs) name = function_by (bytes_eq f.head.name.text name) f (function_named fs name)

-- main's name
abbrev pub name_of_main : List ℕ
name_of_main = codes "main"

-- the function main
abbrev pub main_of : List tree.Item → Option Function
main_of items = function_named (functions items) name_of_main

-- `main_pos`, by cases
abbrev pub pos_of_function : Option Function → Pos
pos_of_function (Some f) = f.head.name.pos
pos_of_function None = record { line = 1; col = 1 }

-- the place of main's name
abbrev pub main_pos : List tree.Item → Pos
main_pos items = pos_of_function (main_of items)

-- What a call counts by what the function counts that it calls, and what each call in that one counts. Calls are followed
-- at most so deep.
abbrev pub count_within : ((tree.Call → ℕ) → Option Function → ℕ) → List Function → ℕ → tree.Call → ℕ
count_within of_function fs zero call = 0
count_within of_function fs (suc n) call = of_function (count_within of_function fs n) (function_named fs call.called.text)

-- as no function calls itself, calls go at most as deep as there are functions
abbrev pub count_of_call : ((tree.Call → ℕ) → Option Function → ℕ) → List Function → tree.Call → ℕ
count_of_call of_function fs call = count_within of_function fs (length fs) call
