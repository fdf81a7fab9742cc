-- What was found behind the parts of a communication, by what its name is declared as.
use Rattle.std.specs.Prelude.{ℕ, Bool, not, nat_eq, slice_get, if◌then◌else◌, Option, Some, None, option_map}
use Rattle.xw_words.specs.declared.pos.Pos.{Pos}
use Rattle.xc_tree.specs.declared.names.Named.{Named}
use Rattle.xc_tree.specs.declared.names.What.{What}
use Rattle.xc_tree.specs.declared.tree.Head.{Head}
use Rattle.xc_tree.specs.declared.tree.Timed.{Timed}
use Rattle.xc_tree.specs.declared.tree.When.{When}
use Rattle.xc_tree.specs.Plain as plain
use Rattle.xc_tree.specs.Names.Marks as marks
use Rattle.xc_tree.specs.Trees as tree
use Rattle.xc_tree.specs.Types.Named.{NamedProgram, named_of, what_at}
use Rattle.xc_tree.specs.Types.Entities.{is_channel, is_port, is_timer, gives_input}
use Rattle.xc_tree.specs.Words.{timerafter_word}
use Rattle.xc_tree.specs.Types.Sites.{of_expression, of_lval, of_target}
use Rattle.xc_types.specs.declared.checker.Checker.{Checker}
use Rattle.xc_types.specs.Checker.{saw, one_more_name, with_broken, with_channel}

-- behind an expression, and behind an `lval`
abbrev pub saw_expression : NamedProgram → plain.Expression → Checker → Checker
saw_expression n e s = saw s (marks.of_expression e) (of_expression n s.names e)

abbrev pub saw_lval : NamedProgram → plain.Expression → Checker → Checker
saw_lval n e s = saw s (marks.of_expression e) (of_lval n s.names e)

-- behind the name of an input, which breaks rule 411 where it gives none
abbrev pub past_input : NamedProgram → Pos → Checker → Checker
past_input n p s =
    let declared = slice_get n.uses s.names in
    let what = what_at n declared in
    one_more_name (with_channel (is_channel what) declared (with_broken (not (gives_input what)) 411 p s))

-- behind a time and a stamp, which break rule 413 where the name is no port
abbrev pub with_time : NamedProgram → Bool → Option plain.Timing → Checker → Checker
with_time n is_port None s = s
with_time n is_port (Some t) s = saw_expression n t.value (with_broken (not is_port) 413 t.at s)

abbrev pub with_stamp : NamedProgram → Bool → Option plain.Timing → Checker → Checker
with_stamp n is_port None s = s
with_stamp n is_port (Some t) s = saw_lval n t.value (with_broken (not is_port) 413 t.at s)

-- whether a condition's test can be asked of something
abbrev pub can_ask : Option What → ℕ → Bool
can_ask what test = if nat_eq test timerafter_word then is_timer what else is_port what

-- behind a condition, which breaks rule 414 where it can't be asked
abbrev pub with_condition : NamedProgram → Option What → Option plain.Condition → Checker → Checker
with_condition n what None s = s
with_condition n what (Some c) s = saw_expression n c.value (with_broken (not (can_ask what c.test)) 414 c.at s)

-- behind where an input goes and its stamp
abbrev pub with_target_and_stamp : NamedProgram → Bool → plain.Input → Checker → Checker
with_target_and_stamp n is_port i s = with_stamp n is_port i.stamp (saw s (marks.of_target i.target) (of_target n s.names i.target))

-- the same by the parts as the code has them
abbrev pub after_target_and_stamp : Named → Bool → Head → Checker → Checker
after_target_and_stamp named is_port i f = with_target_and_stamp (named_of named) is_port (tree.input_of i) f

abbrev pub after_time : Named → Bool → Option Timed → Checker → Checker
after_time named is_port t f = with_time (named_of named) is_port (option_map tree.timing_of t) f

abbrev pub after_stamp : Named → Bool → Option Timed → Checker → Checker
after_stamp named is_port t f = with_stamp (named_of named) is_port (option_map tree.timing_of t) f

abbrev pub after_condition : Named → Option What → Option When → Checker → Checker
after_condition named what c f = with_condition (named_of named) what (option_map tree.condition_of c) f
