use Rattle.std.proofs.Common.{refl, [], ◌∷◌}
use Rattle.xc_nonterminals.proofs.Reading.Exits.{handed_on}
use Rattle.xc_nonterminals.proofs.Reading.Paths.{begin, over_word, lacks, lacks_word, read, stops, finish}
use Rattle.xc_nonterminals.proofs.Stating.Marks.{at_a_type}
use Rattle.xc_nonterminals.proofs.parser.Parser.dest.Goals as goal
use Rattle.xc_tree.specs.Terminals as terminal

pub returns-then-is_word-clause-read : goal.returns-then-is_word-clause-read
returns-then-is_word-clause-read c =
    let on = (c.is_word.ensures.yes c.if-is_word.true).1.1 in
    finish (over_word (begin refl tt) on refl) refl

pub returns-in_err-word-clause-stopped : goal.returns-in_err-word-clause-stopped
returns-in_err-word-clause-stopped c =
    handed_on _ c.from_residual.result c.from_residual.ensures.1
    (stops _ (at_a_type (begin refl tt) (c.begins_type.ensures.yes c.if-begins_type.true) refl) (c.in_err-word.ensures.stopped _) refl)

pub returns-in_err-name-clause-stopped : goal.returns-in_err-name-clause-stopped
returns-in_err-name-clause-stopped c =
    let word = read (at_a_type (begin refl tt) (c.begins_type.ensures.yes c.if-begins_type.true) refl) (c.in_ok-word.ensures.read _) refl in
    handed_on _ c.from_residual-in_err-name.result c.from_residual-in_err-name.ensures.1
    (stops _ word (c.in_err-name.ensures.stopped _) refl)

pub returns-then-begins_type-clause-read : goal.returns-then-begins_type-clause-read
returns-then-begins_type-clause-read c =
    let word = read (at_a_type (begin refl tt) (c.begins_type.ensures.yes c.if-begins_type.true) refl) (c.in_ok-word.ensures.read _) refl in
    rw c.fresh.ensures (finish (read word (c.in_ok-name.ensures.read _) refl) refl)

pub returns-in_err-lval-clause-stopped : goal.returns-in_err-lval-clause-stopped
returns-in_err-lval-clause-stopped c =
    let no_void = c.is_word.ensures.no c.if-is_word.false in
    let no_type = c.begins_type.ensures.no c.if-begins_type.false in
    handed_on _ c.from_residual-in_err-lval.result c.from_residual-in_err-lval.ensures.1
    (stops _ (lacks (terminal.int_word ∷ terminal.unsigned_word ∷ []) (lacks_word 27 (begin refl tt) no_void) no_type) c.in_err-lval.ensures.stopped refl)

pub returns-clause-read : goal.returns-clause-read
returns-clause-read c =
    let no_void = c.is_word.ensures.no c.if-is_word.false in
    let no_type = c.begins_type.ensures.no c.if-begins_type.false in
    finish (read (lacks (terminal.int_word ∷ terminal.unsigned_word ∷ []) (lacks_word 27 (begin refl tt) no_void) no_type) c.in_ok-lval.ensures.read refl) refl
