-- The arguments of calls, and which parameters they fit.
use Rattle.std.specs.Prelude.{ℕ, Bool, true, false, ◌&&◌, if◌then◌else◌, List, [], ◌∷◌, Option, Some, None}
use Rattle.xw_words.specs.declared.pos.Pos.{Pos}
use Rattle.xc_tree.specs.declared.tree.TreeDir.{TreeDir}
use Rattle.xc_tree.specs.declared.tree.Param.{Param}
use Rattle.xc_tree.specs.declared.tree.ParamKind.{ParamKind}
use Rattle.xc_tree.specs.declared.tree.ParamKind.TheVariants as param
use Rattle.xc_tree.specs.Plain as plain
use Rattle.xc_tree.specs.Names.Marks as marks
use Rattle.xc_tree.specs.Types.Named.{NamedProgram, Name, name_at, past}
use Rattle.xc_tree.specs.Types.Entities.{is_variable, is_word_of, is_array_of, is_channel, is_channel_of, is_port_of, length_of, length_does}

-- what is given as an argument: a name, an element of an array, or another expression
pub data Given : Type 0 where
  a_name : Name → Given
  an_element : Name → Given
  another : Given

-- an argument by its first token, with the parameter that it is for, where there is one
pub record Argument : Type 0 where
  pub first : Pos
  pub parameter : Option ParamKind
  pub given : Given

abbrev pub given_form : NamedProgram → ℕ → Pos → plain.Form → Given
given_form n k p (plain.name t) = a_name (name_at n k (record { text = t; pos = p }))
given_form n k p (plain.index t e) = an_element (name_at n k (record { text = t; pos = p }))
given_form n k p other = another

abbrev pub given_by : NamedProgram → ℕ → plain.Expression → Given
given_by n k (plain.expression f p) = given_form n k p f

-- what the first of these parameters takes, and the parameters behind it
abbrev pub first_of : List Param → Option ParamKind
first_of [] = None
first_of (p ∷ ps) = Some p.kind

abbrev pub rest_of : List Param → List Param
rest_of [] = []
rest_of (p ∷ ps) = ps

-- the arguments of a call, the first of which has k names before it, with the parameters
abbrev pub arguments : NamedProgram → ℕ → List Param → List plain.Argument → List Argument
arguments n k ps [] = []
arguments n k ps (a ∷ rest) =
    record { first = a.first; parameter = first_of ps; given = given_by n k a.value }
    ∷ arguments n (past k (marks.of_argument a)) (rest_of ps) rest

-- for an `&` parameter: a word or an element, of its type
abbrev pub fits_reference : Bool → Given → Bool
fits_reference u (a_name x) = is_word_of u x.what
fits_reference u (an_element x) = is_array_of u x.what
fits_reference u another = false

-- for an array parameter: an array of its type and, where it has a length, of that length
abbrev pub fits_array : Bool → Option ℕ → Given → Bool
fits_array u l (a_name x) = is_array_of u x.what && length_does l (length_of x.what)
fits_array u l other = false

-- for a `chanend`: a channel or a chanend
abbrev pub fits_end : Bool → Given → Bool
fits_end s (a_name x) = is_channel_of s x.what
fits_end s other = false

-- for a port: a port of its direction
abbrev pub fits_port : TreeDir → Given → Bool
fits_port d (a_name x) = is_port_of d x.what
fits_port d other = false

-- Whether what is given fits a parameter; for one by value each word does, and an argument without a parameter has none to
-- fit. An argument of a call of something that isn't a function has no parameter either. What is called breaks 405 or 404 before it in
-- the text, so this decides no answer.
abbrev pub fits : Option ParamKind → Given → Bool
fits None g = true
fits (Some (param.Value u)) g = true
fits (Some (param.Ref u)) g = fits_reference u g
fits (Some (param.Array u l)) g = fits_array u (marks.length_of l) g
fits (Some (param.End s)) g = fits_end s g
fits (Some (param.Port d)) g = fits_port d g

-- whether a parameter stands for the variable that is given: that is so for `&` and arrays
abbrev pub is_by_reference : Option ParamKind → Bool
is_by_reference (Some (param.Ref u)) = true
is_by_reference (Some (param.Array u l)) = true
is_by_reference other = false

-- whether a channel is given
abbrev pub is_channel_given : Given → Bool
is_channel_given (a_name x) = is_channel x.what
is_channel_given other = false

-- the declaration that a name means, where that is one of a variable
abbrev pub declared_variable : Name → Option ℕ
declared_variable x = if is_variable x.what then x.declared else None

-- the declaration of the variable that is given by itself or by an element
abbrev pub variable_of : Given → Option ℕ
variable_of (a_name x) = declared_variable x
variable_of (an_element x) = declared_variable x
variable_of another = None

-- the variable that a call may change through this argument
abbrev pub referred : Argument → Option ℕ
referred a = if is_by_reference a.parameter then variable_of a.given else None
