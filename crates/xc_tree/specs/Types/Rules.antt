-- The rules 401 to 416 of types: for each what it says, and at which places it is broken by what stands somewhere in a program.
use Rattle.std.specs.Prelude.{ℕ, Bool, true, false, not, nat_eq, nat_le, ◌&&◌, if◌then◌else◌, List, [], ◌∷◌, ◌++◌, length, Option, Some, None, bytes_eq, is_some}
use Rattle.xw_words.specs.declared.pos.Pos.{Pos}
use Rattle.xc_tree.specs.declared.tree.Id.{Id}
use Rattle.xc_tree.specs.Plain as plain
use Rattle.xc_tree.specs.Words.{timerafter_word}
use Rattle.xc_tree.specs.Types.Entities.{is_word, is_array, is_index, agree, is_port, is_timer, takes_output, gives_input}
use Rattle.xc_tree.specs.Types.Calls.{Argument, fits, referred}
use Rattle.xc_tree.specs.Types.Words.{is_among}
use Rattle.xc_tree.specs.Types.Sites.{Site}
use Rattle.xc_tree.specs.Types.Sites as site

-- a rule is broken at a place where this holds, and unless it does
abbrev pub broken_where : Bool → Pos → List Pos
broken_where true p = p ∷ []
broken_where false p = []

abbrev pub broken_unless : Bool → Pos → List Pos
broken_unless b p = broken_where (not b) p

-- Rule 401: a word is needed, and the name is none. At the name. A name alone that is changed breaks 403 or 412 and not 401. One
-- before a `[` breaks 402 alone, also where it is changed.
abbrev pub rule_401 : Site → List Pos
rule_401 (site.word x) = broken_unless (is_word x.what) x.id.pos
rule_401 other = []

-- Rule 402: `[` follows a name that isn't an array. At the name.
abbrev pub rule_402 : Site → List Pos
rule_402 (site.indexed x) = broken_unless (is_array x.what) x.id.pos
rule_402 other = []

-- Rule 403: an `lval` is neither a word nor an element. At the name. (What is said of indices is rule 412.)
abbrev pub rule_403 : Site → List Pos
rule_403 (site.lval x) = broken_unless (is_word x.what) x.id.pos
rule_403 other = []

-- Rule 404: what is called isn't a function. At the called name.
abbrev pub rule_404 : Site → List Pos
rule_404 (site.call around x meant given r) = broken_unless (is_some meant) x.id.pos
rule_404 other = []

-- whether there are as many arguments as parameters, where what is called is a function
abbrev pub has_number : Option plain.Head → List Argument → Bool
has_number None given = true
has_number (Some h) given = nat_eq (length given) (length h.params)

-- Rule 405: the number of arguments is another. At the called name.
abbrev pub rule_405 : Site → List Pos
rule_405 (site.call around x meant given r) = broken_unless (has_number meant given) x.id.pos
rule_405 other = []

-- the arguments that don't fit their parameters, each by its first token
abbrev pub misfits : List Argument → List Pos
misfits [] = []
misfits (a ∷ rest) = broken_unless (fits a.parameter a.given) a.first ++ misfits rest

-- Rule 406: an argument doesn't fit its parameter. At its first token. What is given for an `&` parameter is an lval, so 403 and 412
-- speak of it too, at the name. An index of a replicated `par` is an `int`: it breaks 412 for `int &`, and 406 too for `unsigned &`.
abbrev pub rule_406 : Site → List Pos
rule_406 (site.call around x meant given r) = misfits given
rule_406 other = []

-- whether a call gives a word; what isn't a function is left to rule 404
abbrev pub gives_word : Option plain.Head → Bool
gives_word None = true
gives_word (Some h) = is_some h.result

-- Rule 407: the call of a `void` function is an `rhs`. At the called name.
abbrev pub rule_407 : Site → List Pos
rule_407 (site.call around x meant given r) = broken_where (r && not (gives_word meant)) x.id.pos
rule_407 other = []

-- Rule 408: `return` has a value in a `void` function, or none in another. At the `return`.
abbrev pub rule_408 : Site → List Pos
rule_408 (site.return around has_value p) = broken_unless (agree has_value (is_some around.function.result)) p
rule_408 other = []

-- the most words of an array
abbrev pub longest_array : ℕ
longest_array = 16384

-- Rule 409: an array's length is 0 or above 16,384. At the number.
abbrev pub rule_409 : Site → List Pos
rule_409 (site.array_length l p) = broken_unless (nat_le 1 l && nat_le l longest_array) p
rule_409 other = []

-- Rule 410: `<:` stands behind something other than a channel, a chanend, an `out port` or a `port`. At the name.
abbrev pub rule_410 : Site → List Pos
rule_410 (site.output x) = broken_unless (takes_output x.what) x.id.pos
rule_410 other = []

-- Rule 411: `:>` stands behind something other than a channel, a chanend, an `in port`, a `port` or a timer. At the name.
abbrev pub rule_411 : Site → List Pos
rule_411 (site.input x) = broken_unless (gives_input x.what) x.id.pos
rule_411 other = []

-- Rule 412: an `lval` is the index of a replicated `par`. At the name.
abbrev pub rule_412 : Site → List Pos
rule_412 (site.lval x) = broken_where (is_index x.what) x.id.pos
rule_412 other = []

-- Rule 413: `@` stands in a communication with something that isn't a port. At the `@`.
abbrev pub rule_413 : Site → List Pos
rule_413 (site.time x p) = broken_unless (is_port x.what) p
rule_413 other = []

-- Rule 414: `pinseq` or `pinsneq` is asked of something that isn't a port, or `timerafter` of something that isn't a timer. At
-- the `when`.
abbrev pub rule_414 : Site → List Pos
rule_414 (site.condition x p t) = broken_unless (if nat_eq t timerafter_word then is_timer x.what else is_port x.what) p
rule_414 other = []

-- of the second and the third name the first that isn't spelled as the first name
abbrev pub first_that_differs : (first second third : Id) → List Pos
first_that_differs a b c =
    if bytes_eq a.text b.text then broken_unless (bytes_eq a.text c.text) c.pos else b.pos ∷ []

-- Rule 415: the three names of a replicated `par` differ. At the first that differs.
abbrev pub rule_415 : Site → List Pos
rule_415 (site.replicator a b c) = first_that_differs a b c
rule_415 other = []

-- whether a variable is one of these
abbrev pub is_one_of : List ℕ → Option ℕ → Bool
is_one_of before None = false
is_one_of before (Some v) = is_among before v

-- these variables, and one more where there is one
abbrev pub with_variable : Option ℕ → List ℕ → List ℕ
with_variable None before = before
with_variable (Some v) before = v ∷ before

-- the arguments that refer to a variable to which an earlier one does, or that is among these
abbrev pub again : List ℕ → List Argument → List Pos
again before [] = []
again before (a ∷ rest) = broken_where (is_one_of before (referred a)) a.first ++ again (with_variable (referred a) before) rest

-- Rule 416: one variable is the argument of two `&` or array parameters of one call. At the first token of the second. An element
-- stands for its array, and the rule speaks of variables alone. All further arguments break it, not only the second.
abbrev pub rule_416 : Site → List Pos
rule_416 (site.call around x meant given r) = again [] given
rule_416 other = []
