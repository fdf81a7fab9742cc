-- What the rules of types and shapes speak of in a program, in the order of the text.
use Rattle.std.specs.Prelude.{ℕ, ◌+◌, Bool, true, false, List, [], ◌∷◌, ◌++◌, Option, Some, None, is_some}
use Rattle.xw_words.specs.declared.pos.Pos.{Pos}
use Rattle.xc_tree.specs.declared.tree.Id.{Id}
use Rattle.xc_tree.specs.declared.tree.Param.{Param}
use Rattle.xc_tree.specs.declared.tree.ParamKind.{ParamKind}
use Rattle.xc_tree.specs.declared.tree.ParamKind.TheVariants as param
use Rattle.xc_tree.specs.Plain as plain
use Rattle.xc_tree.specs.Names.Marks as marks
use Rattle.xc_tree.specs.Types.Named.{NamedProgram, Name, name_at, names_used, past, function_of}
use Rattle.xc_tree.specs.Types.Words.{is_unsigned}
use Rattle.xc_tree.specs.Types.Calls.{Argument, arguments, first_of, rest_of}
use Rattle.xc_tree.specs.Shapes.Enclosing.{Enclosing, inside, in_block_of, a_block, an_if, a_loop, a_case, a_branch, a_transaction}

pub data Site : Type 0 where
  -- a node of an expression: whether it is a word that is `unsigned`
  node : Bool → Site
  -- a name alone where a word is needed
  word : Name → Site
  -- a name before a `[`
  indexed : Name → Site
  -- a name alone where an `lval` is needed
  lval : Name → Site
  -- a call: the name that is called, the function that it means, the arguments, and whether the call is an `rhs`
  call : Enclosing → Name → Option plain.Head → List Argument → (is_right_side : Bool) → Site
  -- the name before a `<:`, and that before a `:>`
  output : Name → Site
  input : Name → Site
  -- an `@` of a communication with this name
  time : Name → Pos → Site
  -- a `when` of an input from this name, and the place in `WORDS` of its test
  condition : Name → Pos → (test : ℕ) → Site
  -- the length of an array
  array_length : ℕ → Pos → Site
  -- the names of a replicated `par`
  replicator : (first second third : Id) → Site
  -- these with their first word; a `return` also with whether it has a value
  return : Enclosing → (has_value : Bool) → Pos → Site
  break : Enclosing → Pos → Site
  continue : Enclosing → Pos → Site
  par : Enclosing → Pos → Site
  select : Enclosing → plain.Cases → Pos → Site
  -- also with the names of the communications inside
  transaction : Enclosing → List Name → Pos → Site
  -- the place of a branch, and what is around its `par`
  placed : Enclosing → plain.Place → Site
  -- any place, with the names in it
  place : plain.Place → List Name → Site
  function : plain.Head → plain.Statement → Site

-- the names of communications
abbrev pub named_by : Site → List Name
named_by (output x) = x ∷ []
named_by (input x) = x ∷ []
named_by other = []

abbrev pub communications : List Site → List Name
communications [] = []
communications (s ∷ ss) = named_by s ++ communications ss

-- the types of the nodes
abbrev pub type_of : Site → List Bool
type_of (node u) = u ∷ []
type_of other = []

abbrev pub types : List Site → List Bool
types [] = []
types (s ∷ ss) = type_of s ++ types ss

-- what is there may be absent
abbrev pub optional : {V : Type 0} → (V → List Site) → Option V → List Site
optional f None = []
optional f (Some x) = f x

-- what each of a list has, one behind the other
abbrev pub each : {V : Type 0} → (V → List Site) → List V → List Site
each f [] = []
each f (x ∷ xs) = f x ++ each f xs

abbrev mutual
  -- what an expression has where a word is needed; the text has k names before it
  pub of_expression : NamedProgram → ℕ → plain.Expression → List Site
  of_expression n k (plain.expression f p) = of_form n k p f

  -- each node stands at its own token
  pub of_form : NamedProgram → ℕ → Pos → plain.Form → List Site
  of_form n k p (plain.number v u) = node u ∷ []
  of_form n k p (plain.name t) = word (name_at n k (record { text = t; pos = p })) ∷ node (is_unsigned n k (plain.expression (plain.name t) p)) ∷ []
  of_form n k p (plain.index t e) =
      indexed (name_at n k (record { text = t; pos = p })) ∷ node (is_unsigned n k (plain.expression (plain.index t e) p)) ∷ of_expression n (k + 1) e
  of_form n k p (plain.unary o a) = node (is_unsigned n k (plain.expression (plain.unary o a) p)) ∷ of_expression n k a
  of_form n k p (plain.binary o a b) =
      of_expression n k a
      ++ node (is_unsigned n k (plain.expression (plain.binary o a b) p)) ∷ of_expression n (past k (marks.of_expression a)) b
  of_form n k p (plain.choice c a b) =
      of_expression n k c
      ++ node (is_unsigned n k (plain.expression (plain.choice c a b) p))
      ∷ (of_expression n (past k (marks.of_expression c)) a
      ++ of_expression n (past (past k (marks.of_expression c)) (marks.of_expression a)) b)
  of_form n k p (plain.cast u a) = node u ∷ of_expression n k a

-- what stands where an `lval` is needed: a name alone is looked at as one, and anything else as an expression
abbrev pub of_lval : NamedProgram → ℕ → plain.Expression → List Site
of_lval n k (plain.expression (plain.name t) p) =
    lval (name_at n k (record { text = t; pos = p })) ∷ node (is_unsigned n k (plain.expression (plain.name t) p)) ∷ []
of_lval n k other = of_expression n k other

-- what an argument has whose parameter is neither by value nor `&`, or that has none: a name alone need not be a word
abbrev pub of_whole : NamedProgram → ℕ → plain.Expression → List Site
of_whole n k (plain.expression (plain.name t) p) = node (is_unsigned n k (plain.expression (plain.name t) p)) ∷ []
of_whole n k other = of_expression n k other

-- what an argument has, by its parameter
abbrev pub of_argument : NamedProgram → ℕ → Option ParamKind → plain.Expression → List Site
of_argument n k (Some (param.Value u)) e = of_expression n k e
of_argument n k (Some (param.Ref u)) e = of_lval n k e
of_argument n k other e = of_whole n k e

-- the arguments of a call, the first of which has k names before it, for these parameters
abbrev pub of_arguments : NamedProgram → ℕ → List Param → List plain.Argument → List Site
of_arguments n k ps [] = []
of_arguments n k ps (a ∷ rest) =
    of_argument n k (first_of ps) a.value ++ of_arguments n (past k (marks.of_argument a)) (rest_of ps) rest

-- the parameters of the function that is called; what isn't one has none
abbrev pub params_of : Option plain.Head → List Param
params_of None = []
params_of (Some h) = h.params

-- a call of what `called` means, which is `meant` where that is a function
abbrev pub of_called : NamedProgram → Enclosing → ℕ → Name → Option plain.Head → List plain.Argument → (is_right_side : Bool) → List Site
of_called n around k called meant given r =
    call around called meant (arguments n k (params_of meant) given) r ∷ of_arguments n k (params_of meant) given

abbrev pub of_call : NamedProgram → Enclosing → ℕ → (is_right_side : Bool) → plain.Call → List Site
of_call n around k r c =
    of_called n around (k + 1) (name_at n k c.called) (function_of n (name_at n k c.called).what) c.arguments r

abbrev pub of_right : NamedProgram → Enclosing → ℕ → (is_right_side : Bool) → plain.RightSide → List Site
of_right n around k r (plain.value e) = of_expression n k e
of_right n around k r (plain.result c) = of_call n around k r c

-- a time is a word, and a stamp an `lval`
abbrev pub of_time : NamedProgram → ℕ → Name → plain.Timing → List Site
of_time n k x t = time x t.at ∷ of_expression n k t.value

abbrev pub of_stamp : NamedProgram → ℕ → Name → plain.Timing → List Site
of_stamp n k x t = time x t.at ∷ of_lval n k t.value

abbrev pub of_condition : NamedProgram → ℕ → Name → plain.Condition → List Site
of_condition n k x c = condition x c.at c.test ∷ of_expression n k c.value

-- the names of a communication's parts: its own first, then those of its time, of its condition and of what comes next
abbrev pub past_time : ℕ → Option plain.Timing → ℕ
past_time k t = past k (marks.optional marks.of_timing t)

abbrev pub past_condition : ℕ → Option plain.Condition → ℕ
past_condition k c = past k (marks.optional marks.of_condition c)

abbrev pub of_value_and_stamp : NamedProgram → ℕ → Name → plain.Output → List Site
of_value_and_stamp n k x o =
    of_expression n k o.value ++ optional (of_stamp n (past k (marks.of_expression o.value)) x) o.stamp

abbrev pub of_output : NamedProgram → ℕ → plain.Output → List Site
of_output n k o =
    output (name_at n k o.name)
    ∷ (optional (of_time n (k + 1) (name_at n k o.name)) o.time
    ++ of_value_and_stamp n (past_time (k + 1) o.time) (name_at n k o.name) o)

-- a name that an input declares is a word
abbrev pub of_target : NamedProgram → ℕ → plain.Target → List Site
of_target n k (plain.to e) = of_lval n k e
of_target n k plain.dropped = []
of_target n k (plain.fresh u i) = []

abbrev pub of_target_and_stamp : NamedProgram → ℕ → Name → plain.Input → List Site
of_target_and_stamp n k x i =
    of_target n k i.target ++ optional (of_stamp n (past k (marks.of_target i.target)) x) i.stamp

abbrev pub of_input : NamedProgram → ℕ → plain.Input → List Site
of_input n k i =
    input (name_at n k i.name)
    ∷ (optional (of_time n (k + 1) (name_at n k i.name)) i.time
    ++ (optional (of_condition n (past_time (k + 1) i.time) (name_at n k i.name)) i.condition
    ++ of_target_and_stamp n (past_condition (past_time (k + 1) i.time) i.condition) (name_at n k i.name) i))

-- what the kind of a declared name has, behind that name
abbrev pub of_kind : NamedProgram → Enclosing → ℕ → plain.Kind → List Site
of_kind n around k (plain.word u r) = optional (of_right n around k true) r
of_kind n around k (plain.array u l p) = array_length l p ∷ []
of_kind n around k (plain.channel s) = []
of_kind n around k plain.timer = []

abbrev pub of_declarations : NamedProgram → Enclosing → ℕ → List plain.Declaration → List Site
of_declarations n around k [] = []
of_declarations n around k (d ∷ ds) =
    of_kind n around (k + 1) d.kind ++ of_declarations n around (past k (marks.of_declaration d)) ds

abbrev pub of_place : NamedProgram → ℕ → plain.Place → List Site
of_place n k p = place p (names_used n k (marks.of_expression p.value)) ∷ of_expression n k p.value

-- the place of a branch, and what is around its `par`
abbrev pub of_branch_place : NamedProgram → Enclosing → ℕ → plain.Place → List Site
of_branch_place n around k p = placed around p ∷ of_place n k p

abbrev mutual
  -- what a statement has, with what is around it; the text has k names before it
  pub of_statement : NamedProgram → Enclosing → ℕ → plain.Statement → List Site
  of_statement n around k (plain.statement a p c own) = of_action n around k p a

  pub of_action : NamedProgram → Enclosing → ℕ → Pos → plain.Action → List Site
  of_action n around k p plain.empty = []
  of_action n around k p (plain.block ss) = of_statements n (inside a_block around) k ss
  of_action n around k p (plain.declare ds) = of_declarations n around k ds
  of_action n around k p (plain.assign l o q r) = of_lval n k l ++ of_right n around (past k (marks.of_expression l)) true r
  of_action n around k p (plain.step l o) = of_lval n k l
  of_action n around k p (plain.perform r) = of_right n around k false r
  of_action n around k p (plain.output o) = of_output n k o
  of_action n around k p (plain.input i) = of_input n k i
  of_action n around k p (plain.if_then c s o) =
      of_expression n k c
      ++ (of_statement n (inside an_if around) (past k (marks.of_expression c)) s
      ++ of_maybe n (inside an_if around) (past (past k (marks.of_expression c)) (marks.of_statement s)) o)
  of_action n around k p (plain.while_loop c s) =
      of_expression n k c ++ of_statement n (inside a_loop around) (past k (marks.of_expression c)) s
  of_action n around k p (plain.do_while s c) =
      of_statement n (inside a_loop around) k s ++ of_expression n (past k (marks.of_statement s)) c
  of_action n around k p (plain.for_loop a c b s) =
      of_maybe n around k a
      ++ (optional (of_expression n (past k (marks.of_maybe a))) c
      ++ (of_maybe n around (past (past k (marks.of_maybe a)) (marks.optional marks.of_expression c)) b
      ++ of_statement n (inside a_loop around) (past (past (past k (marks.of_maybe a)) (marks.optional marks.of_expression c)) (marks.of_maybe b)) s))
  of_action n around k p (plain.return_with r) = return around (is_some r) p ∷ optional (of_right n around k true) r
  of_action n around k p plain.break_out = break around p ∷ []
  of_action n around k p plain.continue_on = continue around p ∷ []
  of_action n around k p (plain.par bs) = par around p ∷ of_branches n around k bs
  of_action n around k p (plain.replicated a b c from until body) =
      par around p ∷ replicator a b c ∷ of_branch n around (k + 3) body
  of_action n around k p (plain.select cs) = select around cs p ∷ of_cases n around k cs
  of_action n around k p (plain.transaction m ss) =
      transaction around (communications (of_statements n (inside a_transaction around) k ss)) p
      ∷ of_statements n (inside a_transaction around) k ss

  pub of_maybe : NamedProgram → Enclosing → ℕ → plain.Maybe → List Site
  of_maybe n around k plain.absent = []
  of_maybe n around k (plain.present s) = of_statement n around k s

  pub of_statements : NamedProgram → Enclosing → ℕ → plain.Statements → List Site
  of_statements n around k plain.no_more = []
  of_statements n around k (plain.more s ss) =
      of_statement n around k s ++ of_statements n around (past k (marks.of_statement s)) ss

  pub of_branch : NamedProgram → Enclosing → ℕ → plain.Branch → List Site
  of_branch n around k (plain.branch p s) =
      optional (of_branch_place n around k) p
      ++ of_statement n (inside a_branch around) (past k (marks.optional marks.of_place p)) s

  pub of_branches : NamedProgram → Enclosing → ℕ → plain.Branches → List Site
  of_branches n around k plain.no_branch = []
  of_branches n around k (plain.more_branches b bs) =
      of_branch n around k b ++ of_branches n around (past k (marks.of_branch b)) bs

  pub of_case : NamedProgram → Enclosing → ℕ → plain.Case → List Site
  of_case n around k (plain.case p g i ss) =
      optional (of_expression n k) g
      ++ (optional (of_input n (past k (marks.optional marks.of_expression g))) i
      ++ of_statements n (inside a_case around) (past (past k (marks.optional marks.of_expression g)) (marks.optional marks.of_input i)) ss)

  pub of_cases : NamedProgram → Enclosing → ℕ → plain.Cases → List Site
  of_cases n around k plain.no_case = []
  of_cases n around k (plain.more_cases c cs) =
      of_case n around k c ++ of_cases n around (past k (marks.of_case c)) cs

-- the lengths of array parameters
abbrev pub of_parameter_kind : ParamKind → List Site
of_parameter_kind (param.Array u (Some l)) = array_length l.0 l.1 ∷ []
of_parameter_kind other = []

abbrev pub of_parameter : Param → List Site
of_parameter p = of_parameter_kind p.kind

-- what stands directly in a function's block
abbrev pub of_body : NamedProgram → Enclosing → ℕ → plain.Statement → List Site
of_body n around k (plain.statement (plain.block ss) p c own) = of_statements n around k ss
of_body n around k s = of_statement n around k s

abbrev pub of_item : NamedProgram → ℕ → plain.Item → List Site
of_item n k (plain.port p) = optional (of_place n k) p.place
of_item n k (plain.function h b) =
    function h b ∷ (each of_parameter h.params ++ of_body n (in_block_of h) (past (k + 1) (marks.each marks.of_param h.params)) b)

-- what items have, the first of which is item i of the program and has k names before it
abbrev pub of_items : NamedProgram → (i k : ℕ) → List plain.Item → List Site
of_items n i k [] = []
of_items n i k (item ∷ rest) = of_item n k item ++ of_items n (i + 1) (past k (marks.of_item i item)) rest

-- all of a program
unfoldable pub sites : NamedProgram → List Site
sites n = of_items n 0 0 n.program

-- for each node of an expression, in the order of the text, whether it is a word that is `unsigned`
unfoldable pub unsigned_at : NamedProgram → List Bool
unsigned_at n = types (sites n)
