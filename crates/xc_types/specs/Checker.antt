-- What a walk has found of a program: how many names, the types of its nodes, the first of the broken rules, and the channels
-- that communications name.
use Rattle.std.specs.Prelude.{ℕ, ◌+◌, Bool, true, false, List, [], ◌∷◌, ◌++◌, not, drop, is_some, map, slice_get, slice_set, Option, Some}
use Rattle.xw_words.specs.declared.pos.Pos.{Pos}
use Rattle.xw_words.specs.declared.pos.Broken.{Broken}
use Rattle.xc_tree.specs.declared.names.Mark.{Mark}
use Rattle.xc_tree.specs.declared.names.What.{What}
use Rattle.xc_tree.specs.Checks.{Rule, rules}
use Rattle.xc_tree.specs.Least.{first_of}
use Rattle.xc_tree.specs.Types.Named.{NamedProgram, past, what_at}
use Rattle.xc_tree.specs.Types.Entities.{agree, is_word, is_array, word_is_unsigned, elements_are_unsigned}
use Rattle.xc_tree.specs.Types.Sites.{Site, types, communications}
use Rattle.xc_tree.specs.declared.tree.Id.{Id}
use Rattle.xc_tree.specs.Types.Rules.{first_that_differs}
use Rattle.xc_tree.specs.Shapes.Rules.{channels, declared_as_channel, defaults}
use Rattle.xc_tree.specs.Shapes.Enclosing.{Enclosing, has_way_out, has_next_turn, in_par_or_transaction, in_transaction}
use Rattle.xc_tree.specs.Plain.{Cases}
use Rattle.xc_types.specs.declared.checker.Checker.{Checker}

abbrev pub broken_at : ℕ → Pos → Broken
broken_at n p = record { rule = n; pos = p }

-- what a site breaks of these rules
abbrev pub broken_of : List Rule → Site → List Broken
broken_of [] s = []
broken_of (r ∷ rs) s = map (broken_at r.number) (r.broken_at s) ++ broken_of rs s

-- all that these sites break
abbrev pub all_broken : List Site → List Broken
all_broken [] = []
all_broken (s ∷ ss) = broken_of rules s ++ all_broken ss

-- the first of these, or this one
abbrev pub first_among : Option Broken → List Broken → Option Broken
first_among b [] = b
first_among b (x ∷ xs) = first_among (first_of b (Some x)) xs

-- what was found behind a part of the text that has these marks and these sites
unfoldable pub saw : Checker → List Mark → List Site → Checker
saw s ms ss = record s {
  names = past s.names ms;
  types = s.types ++ types ss;
  best = first_among s.best (all_broken ss);
  channels = s.channels ++ channels (communications ss);
}

-- with one more name
unfoldable pub one_more_name : Checker → Checker
one_more_name s = record s { names = s.names + 1 }

-- with the type of one more node
unfoldable pub with_type : Bool → Checker → Checker
with_type u s = record s { types = s.types ++ u ∷ [] }

-- with another type for this node
unfoldable pub with_type_at : ℕ → Bool → Checker → Checker
with_type_at i u s = record s { types = slice_set s.types i u }

-- the first of what was broken and of a rule that is broken where this holds
abbrev pub first_with : Bool → ℕ → Pos → Option Broken → Option Broken
first_with true n p best = first_of best (Some (broken_at n p))
first_with false n p best = best

-- with a rule that is broken where this holds
unfoldable pub with_broken : Bool → ℕ → Pos → Checker → Checker
with_broken t n p s = record s { best = first_with t n p s.best }

-- with what a communication names, where that is a channel
unfoldable pub with_channel : Bool → Option ℕ → Checker → Checker
with_channel b d s = record s { channels = s.channels ++ declared_as_channel b d }

-- with the first of these broken rules
unfoldable pub with_first : Option Broken → Checker → Checker
with_first b s = record s { best = first_of s.best b }

-- with one rule that is broken at these places
unfoldable pub with_broken_at : ℕ → List Pos → Checker → Checker
with_broken_at n ps s = record s { best = first_among s.best (map (broken_at n) ps) }

-- behind the names at the head of a replicated `par`, where rule 415 is broken at the first that differs
abbrev pub with_replicated : Id → Id → Id → Checker → Checker
with_replicated a b c s = one_more_name (one_more_name (one_more_name (with_broken_at 415 (first_that_differs a b c) s)))

-- what the next name is declared as
abbrev pub next_what : NamedProgram → Checker → Option What
next_what n s = what_at n (slice_get n.uses s.names)

-- whether the next name is a word, or an array of words, that is `unsigned`
abbrev pub next_is_unsigned : NamedProgram → Checker → Bool
next_is_unsigned n s = word_is_unsigned (next_what n s)

abbrev pub next_has_unsigned : NamedProgram → Checker → Bool
next_has_unsigned n s = elements_are_unsigned (next_what n s)

-- behind a name at this place, alone where a word is needed
abbrev pub after_word : NamedProgram → Pos → Checker → Checker
after_word n p s = one_more_name (with_type (word_is_unsigned (next_what n s)) (with_broken (not (is_word (next_what n s))) 401 p s))

-- behind a name at this place, before a `[`
abbrev pub after_indexed : NamedProgram → Pos → Checker → Checker
after_indexed n p s = one_more_name (with_type (elements_are_unsigned (next_what n s)) (with_broken (not (is_array (next_what n s))) 402 p s))

-- behind a `break` at this place, with what is around it
abbrev pub after_break : Enclosing → Pos → Checker → Checker
after_break around p s = with_broken (not (has_way_out around.holders)) 501 p s

-- behind a `return`, with a value or without one
abbrev pub after_return : Enclosing → Bool → Pos → Checker → Checker
after_return around has_value p s =
    with_broken (in_par_or_transaction around.holders) 502 p
    (with_broken (not (agree has_value (is_some around.function.result))) 408 p s)

-- behind a `continue`
abbrev pub after_continue : Enclosing → Pos → Checker → Checker
after_continue around p s = with_broken (not (has_next_turn around.holders)) 501 p s

-- behind the word of what may not stand inside a transaction
abbrev pub not_inside : Enclosing → Pos → Checker → Checker
not_inside around p s = with_broken (in_transaction around.holders) 506 p s

-- with the second and further `default`s of these cases
abbrev pub with_defaults : Cases → Checker → Checker
with_defaults cs s = with_broken_at 507 (drop 1 (defaults cs)) s

-- behind the head of a replicated `par`, whose word stands at this place
abbrev pub after_replicator : Enclosing → Id → Id → Id → Pos → Checker → Checker
after_replicator around a b c p s = with_replicated a b c (not_inside around p s)

-- behind the word of a select that has these cases
abbrev pub after_select : Enclosing → Cases → Pos → Checker → Checker
after_select around cs p s = with_defaults cs (not_inside around p s)
