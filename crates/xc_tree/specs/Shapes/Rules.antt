-- The rules 501 to 508 of shapes: for each what it says, and at which places it is broken by what stands somewhere in a program.
use Rattle.std.specs.Prelude.{ℕ, Bool, true, false, not, nat_eq, ◌&&◌, ◌||◌, List, [], ◌∷◌, ◌++◌, drop, Option, Some, None}
use Rattle.xw_words.specs.declared.pos.Pos.{Pos}
use Rattle.xc_tree.specs.Plain as plain
use Rattle.xc_tree.specs.Types.Named.{Name}
use Rattle.xc_tree.specs.Types.Entities.{is_channel}
use Rattle.xc_tree.specs.Types.Calls.{Argument, is_channel_given}
use Rattle.xc_tree.specs.Types.Sites.{Site}
use Rattle.xc_tree.specs.Types.Sites as site
use Rattle.xc_tree.specs.Types.Rules.{broken_where, broken_unless}
use Rattle.xc_tree.specs.Shapes.Enclosing.{has_way_out, has_next_turn, in_transaction, in_par_or_transaction, is_main, directly_in_main}
use Rattle.xc_tree.specs.Shapes.Places.{has_form_of_place}
use Rattle.xc_tree.specs.Shapes.Main.{place_branches, is_channels_par_return, statements_in}

-- Rule 501: a `break` has no loop or case around it, or a `continue` no loop, in the same branch and transaction. At the word.
abbrev pub rule_501 : Site → List Pos
rule_501 (site.break around p) = broken_unless (has_way_out around.holders) p
rule_501 (site.continue around p) = broken_unless (has_next_turn around.holders) p
rule_501 other = []

-- Rule 502: a `return` stands inside a `par` or a transaction. At the `return`.
abbrev pub rule_502 : Site → List Pos
rule_502 (site.return around has_value p) = broken_where (in_par_or_transaction around.holders) p
rule_502 other = []

-- Rule 503: a branch is placed that isn't one of a `par` directly in main's block. At the `on`.
abbrev pub rule_503 : Site → List Pos
rule_503 (site.placed around p) = broken_unless (directly_in_main around) p.on
rule_503 other = []

-- Rule 504: a `par` directly in main's block has a placed branch, and the block isn't declarations of channels, one `par`, and
-- at most one `return`. At `main`.
abbrev pub rule_504 : Site → List Pos
rule_504 (site.function h b) =
    broken_where (is_main h && (place_branches (statements_in b) && not (is_channels_par_return (statements_in b)))) h.name.pos
rule_504 other = []

-- the declaration of a name, where it is one of a channel
abbrev pub declared_as_channel : Bool → Option ℕ → List ℕ
declared_as_channel true (Some d) = d ∷ []
declared_as_channel b d = []

-- the declarations of the channels among these names
abbrev pub channels : List Name → List ℕ
channels [] = []
channels (x ∷ xs) = declared_as_channel (is_channel x.what) x.declared ++ channels xs

-- whether all of these are that one
abbrev pub are_all : ℕ → List ℕ → Bool
are_all c [] = true
are_all c (d ∷ ds) = nat_eq c d && are_all c ds

-- whether there is one among these, however often
abbrev pub are_one : List ℕ → Bool
are_one [] = false
are_one (c ∷ cs) = are_all c cs

-- Rule 505: the communications in a transaction don't name exactly one channel or chanend. At the transaction's word.
abbrev pub rule_505 : Site → List Pos
rule_505 (site.transaction around inside p) = broken_unless (are_one (channels inside)) p
rule_505 other = []

-- whether a channel is given by one of these arguments
abbrev pub is_channel_among : List Argument → Bool
is_channel_among [] = false
is_channel_among (a ∷ rest) = is_channel_given a.given || is_channel_among rest

-- Rule 506: a transaction holds a `par`, a `select`, a transaction, or a call with a channel argument. At its word or called
-- name. A channel argument is a channel that is given, whatever the parameter is.
abbrev pub rule_506 : Site → List Pos
rule_506 (site.par around p) = broken_where (in_transaction around.holders) p
rule_506 (site.select around cs p) = broken_where (in_transaction around.holders) p
rule_506 (site.transaction around inside p) = broken_where (in_transaction around.holders) p
rule_506 (site.call around x meant given r) = broken_where (in_transaction around.holders && is_channel_among given) x.id.pos
rule_506 other = []

-- the places of each `default` among the cases
abbrev pub defaults : plain.Cases → List Pos
defaults plain.no_case = []
defaults (plain.more_cases (plain.case p g (Some i) ss) cs) = defaults cs
defaults (plain.more_cases (plain.case p g None ss) cs) = p ∷ defaults cs

-- Rule 507: a select has a second `default`. At that. All further ones break it, not only the second.
abbrev pub rule_507 : Site → List Pos
rule_507 (site.select around cs p) = drop 1 (defaults cs)
rule_507 other = []

-- Rule 508: the expression of a place has other parts than numbers, indices of replicated `par`s, `+ - *` and brackets. At its
-- first token.
abbrev pub rule_508 : Site → List Pos
rule_508 (site.place p names) = broken_unless (has_form_of_place p.value names) p.first
rule_508 other = []
