-- How the trees of texts of one line are written down in examples: places are columns. The last tokens of statements and how
-- many tokens they have are left out.
use Rattle.std.specs.Prelude.{ℕ, Bool, List, [], ◌∷◌, ◌++◌, Option}
use Rattle.xw_words.specs.declared.pos.Pos.{Pos}
use Rattle.xw_words.specs.declared.pos.Broken.{Broken}
use Rattle.xc_tree.specs.declared.tree.Id.{Id}
use Rattle.xc_tree.specs.declared.tree.Param.{Param}
use Rattle.xc_tree.specs.Plain as plain
use Rattle.xc_tree.specs.Names.Marks.{of_program}
use Rattle.xc_tree.specs.Names.Uses.{declarations}
use Rattle.xc_tree.specs.Types.Named.{NamedProgram}
use Rattle.xc_tree.specs.Types.Sites.{Site, sites}
use Rattle.xc_tree.specs.Checks.{Rule, rules}

abbrev pub at : (column : ℕ) → Pos
at c = record { line = 1; col = c }

abbrev pub id : List ℕ → (column : ℕ) → Id
id t c = record { text = t; pos = at c }

abbrev pub number : ℕ → (is_unsigned : Bool) (column : ℕ) → plain.Expression
number v u c = plain.expression (plain.number v u) (at c)

abbrev pub name : List ℕ → (column : ℕ) → plain.Expression
name t c = plain.expression (plain.name t) (at c)

abbrev pub index : List ℕ → plain.Expression → (column : ℕ) → plain.Expression
index t i c = plain.expression (plain.index t i) (at c)

abbrev pub unary : (symbol : ℕ) → plain.Expression → (column : ℕ) → plain.Expression
unary o a c = plain.expression (plain.unary o a) (at c)

abbrev pub binary : (symbol : ℕ) → (first second : plain.Expression) (column : ℕ) → plain.Expression
binary o a b c = plain.expression (plain.binary o a b) (at c)

abbrev pub choice : (test first second : plain.Expression) (column : ℕ) → plain.Expression
choice t a b c = plain.expression (plain.choice t a b) (at c)

abbrev pub cast : (is_unsigned : Bool) → plain.Expression → (column : ℕ) → plain.Expression
cast u a c = plain.expression (plain.cast u a) (at c)

abbrev pub given : (first : ℕ) → plain.Expression → plain.Argument
given first e = record { value = e; first = at first }

abbrev pub call_of : Id → List plain.Argument → plain.RightSide
call_of called arguments = plain.result (record { called = called; arguments = arguments })

abbrev pub timing : (at_sign : ℕ) → plain.Expression → plain.Timing
timing c e = record { at = at c; value = e }

abbrev pub condition : (when test : ℕ) → plain.Expression → plain.Condition
condition c t e = record { at = at c; test = t; value = e }

abbrev pub placing : (on first : ℕ) → plain.Expression → plain.Place
placing on first e = record { on = at on; first = at first; value = e }

abbrev pub does : plain.Action → (column : ℕ) → plain.Statement
does a c = plain.statement a (at c) (at c) 0

abbrev pub function_of : Option Bool → Id → List Param → plain.Statements → (brace : ℕ) → plain.Item
function_of result n params ss c = plain.function (record { result = result; name = n; params = params; own = 0 }) (does (plain.block ss) c)

-- a program, and for each of its names the place of its declaration
abbrev pub named : List plain.Item → List ℕ → NamedProgram
named program uses = record { program = program; decls = declarations (of_program program); uses = uses }

abbrev pub number_all : ℕ → List Pos → List Broken
number_all n [] = []
number_all n (p ∷ ps) = record { rule = n; pos = p } ∷ number_all n ps

abbrev pub broken_by : Rule → List Site → List Broken
broken_by r [] = []
broken_by r (s ∷ ss) = number_all r.number (r.broken_at s) ++ broken_by r ss

abbrev pub broken_of : List Rule → List Site → List Broken
broken_of [] ss = []
broken_of (r ∷ rs) ss = broken_by r ss ++ broken_of rs ss

-- all the rules that a program breaks, with their places: by number, and those of one number in the order of the text
abbrev pub broken : NamedProgram → List Broken
broken n = broken_of rules (sites n)

abbrev pub rule : ℕ → (column : ℕ) → Broken
rule n c = record { rule = n; pos = at c }
