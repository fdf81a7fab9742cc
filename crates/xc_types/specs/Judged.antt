-- What is said of the arguments of a call together.
use Rattle.std.specs.Prelude.{ℕ, Bool, true, false, not, nat_eq, is_some, ◌&&◌, ◌||◌, List, [], ◌∷◌, ◌++◌, length, map, slice_get, Option, Some, None, option_map}
use Rattle.xw_words.specs.declared.pos.Pos.{Pos}
use Rattle.xc_tree.specs.declared.names.Named.{Named}
use Rattle.xc_tree.specs.declared.tree.Arg.{Arg}
use Rattle.xc_tree.specs.declared.tree.Param.{Param}
use Rattle.xc_tree.specs.declared.tree.ParamKind.{ParamKind}
use Rattle.xc_tree.specs.Plain as plain
use Rattle.xc_tree.specs.Types.Calls.{Argument, fits, referred, is_channel_given}
use Rattle.xc_tree.specs.Types.Rules.{is_one_of, gives_word}
use Rattle.xc_tree.specs.Shapes.Enclosing.{Enclosing, in_transaction}
use Rattle.xc_tree.specs.Trees.{argument_of}
use Rattle.xc_tree.specs.Types.Calls as calls
use Rattle.xc_tree.specs.Types.Named.{named_of}
use Rattle.xc_types.specs.declared.checker.Checker.{Checker}
use Rattle.xc_types.specs.declared.judged.Judged.{Judged}
use Rattle.xc_types.specs.Given.{argument}
use Rattle.xc_types.specs.Checker.{first_with, with_broken, with_first}

abbrev pub judged_nothing : Judged
judged_nothing = record { misfit = None; again = None; variables = []; has_channel = false }

-- a variable at the end of others
abbrev pub with_last : List ℕ → Option ℕ → List ℕ
with_last vs None = vs
with_last vs (Some v) = vs ++ v ∷ []

-- with one more argument
abbrev pub judged_with : Judged → Argument → Judged
judged_with j a = record {
  misfit = first_with (not (fits a.parameter a.given)) 406 a.first j.misfit;
  again = first_with (is_one_of j.variables (referred a)) 416 a.first j.again;
  variables = with_last j.variables (referred a);
  has_channel = j.has_channel || is_channel_given a.given;
}

-- with one more argument as the code has it, before which k names stand
abbrev pub with_argument : Named → ℕ → Option ParamKind → Arg → Judged → Judged
with_argument named k parameter arg j = judged_with j (argument named k parameter arg.first arg.value)

-- with one more variable
abbrev pub with_variable : Option ℕ → Judged → Judged
with_variable v j = record j { variables = with_last j.variables v }

-- with these arguments
abbrev pub judged : Judged → List Argument → Judged
judged j [] = j
judged j (a ∷ rest) = judged (judged_with j a) rest

-- whether so many arguments are as many as parameters, where what is called is a function
abbrev pub has_number_of : Option plain.Head → ℕ → Bool
has_number_of None n = true
has_number_of (Some h) n = nat_eq n (length h.params)

-- what the parameter at a place is
abbrev pub kind_of : List Param → ℕ → Option ParamKind
kind_of ps i = option_map (λ (p : Param). p.kind) (slice_get ps i)

-- with what a call breaks, by how many arguments it has and what is said of them
abbrev pub with_call : Enclosing → Option plain.Head → (number : ℕ) → Judged → (is_right_side : Bool) → Pos → Checker → Checker
with_call around meant number j r p s =
    with_broken (in_transaction around.holders && j.has_channel) 506 p
    (with_first j.again
    (with_broken (r && not (gives_word meant)) 407 p
    (with_first j.misfit
    (with_broken (not (has_number_of meant number)) 405 p
    (with_broken (not (is_some meant)) 404 p s)))))

-- what is said of these arguments too, by what was found before them
abbrev pub judged_further : Named → List Param → List Arg → Checker → Judged → Judged
judged_further named params args f j =
    judged j (calls.arguments (named_of named) f.names params (map argument_of args))

-- what is said of these arguments, by what was found before them
abbrev pub judged_arguments : Named → List Param → List Arg → Checker → Judged
judged_arguments named params args f = judged_further named params args f judged_nothing
