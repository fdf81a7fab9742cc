use Rattle.std.proofs.Common.{[], ◌∷◌, refl}
use Rattle.xc_nonterminals.proofs.Reading.Exits.{handed_on}
use Rattle.xc_nonterminals.proofs.Reading.Paths.{begin, over_word, lacks, lacks_word, read, stops, finish}
use Rattle.xc_nonterminals.proofs.parser.Parser.param.Goals as goal
use Rattle.xc_tree.specs.Terminals as terminal

pub returns-in_err-name-clause-stopped : goal.returns-in_err-name-clause-stopped
returns-in_err-name-clause-stopped c =
    let on = (c.is_word.ensures.yes c.if-is_word.true).1.1 in
    handed_on _ c.from_residual.result c.from_residual.ensures.1
    (λ room. stops _ (over_word (begin refl tt) on refl) (c.in_err-name.ensures.stopped room) refl)

pub returns-then-is_word-clause-read : goal.returns-then-is_word-clause-read
returns-then-is_word-clause-read c =
    let on = (c.is_word.ensures.yes c.if-is_word.true).1.1 in
    rw c.param_of.ensures
    (λ room. finish (read (over_word (begin refl tt) on refl) (c.in_ok-name.ensures.read room) refl) refl)

pub returns-in_err-dir-clause-stopped : goal.returns-in_err-dir-clause-stopped
returns-in_err-dir-clause-stopped c =
    let no_type = c.begins_type.ensures.no c.if-begins_type.false in
    let no_end = c.is_word.ensures.no c.if-is_word.false in
    handed_on _ c.from_residual-in_err-dir.result c.from_residual-in_err-dir.ensures.1
    (λ room. stops _ (lacks_word 3 (lacks (terminal.int_word ∷ terminal.unsigned_word ∷ []) (begin refl tt) no_type) no_end) (c.in_err-dir.ensures.stopped room) refl)

pub returns-in_err-name-2-clause-stopped : goal.returns-in_err-name-2-clause-stopped
returns-in_err-name-2-clause-stopped c =
    let no_type = c.begins_type.ensures.no c.if-begins_type.false in
    let no_end = c.is_word.ensures.no c.if-is_word.false in
    handed_on _ c.from_residual-in_err-name-2.result c.from_residual-in_err-name-2.ensures.1
    (λ room. stops _ (read (lacks_word 3 (lacks (terminal.int_word ∷ terminal.unsigned_word ∷ []) (begin refl tt) no_type) no_end) (c.in_ok-dir.ensures.read room) refl) (c.in_err-name-2.ensures.stopped room) refl)

pub returns-clause-read : goal.returns-clause-read
returns-clause-read c =
    let no_type = c.begins_type.ensures.no c.if-begins_type.false in
    let no_end = c.is_word.ensures.no c.if-is_word.false in
    rw c.param_of-2.ensures
    (λ room. finish (read (read (lacks_word 3 (lacks (terminal.int_word ∷ terminal.unsigned_word ∷ []) (begin refl tt) no_type) no_end) (c.in_ok-dir.ensures.read room) refl) (c.in_ok-name-2.ensures.read room) refl) refl)
