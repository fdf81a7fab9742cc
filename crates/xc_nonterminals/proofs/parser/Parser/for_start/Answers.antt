use Rattle.std.proofs.Common.{refl, arith}
use Rattle.xc_tree.specs.Symbol.{for_start}
use Rattle.xc_tree.proofs.Forms.{action-Decl}
use Rattle.xc_nonterminals.proofs.Reading.Exits.{handed_on}
use Rattle.xc_nonterminals.proofs.Reading.Insides.{memory_stops}
use Rattle.xc_nonterminals.proofs.Reading.Rounds.{declared_deep, type_stops, name_stops, equals_stops, value_stops, value_unfit, value_reads}
use Rattle.xc_nonterminals.proofs.parser.Parser.for_start.Goals as goal

pub returns-in_err-step-clause-stopped : goal.returns-in_err-step-clause-stopped
returns-in_err-step-clause-stopped c =
    handed_on _ c.from_residual.result c.from_residual.ensures.1
    (c.in_err-step.ensures.no_start (c.begins_type.ensures.no c.if-not-begins_type.true))

pub returns-then-not-begins_type-clause-read : goal.returns-then-not-begins_type-clause-read
returns-then-not-begins_type-clause-read c =
    c.in_ok-step.ensures.start (c.begins_type.ensures.no c.if-not-begins_type.true)

pub returns-then-room-eq0-clause-stopped : goal.returns-then-room-eq0-clause-stopped
returns-then-room-eq0-clause-stopped c =
    declared_deep c.args.self.now.toks.now c.args.room c.args.at c.if-room-eq0.true (c.begins_type.ensures.yes c.if-not-begins_type.false)

pub returns-in_err-word-clause-stopped : goal.returns-in_err-word-clause-stopped
returns-in_err-word-clause-stopped c =
    let begins = c.begins_type.ensures.yes c.if-not-begins_type.false in
    handed_on _ c.from_residual-in_err-word.result c.from_residual-in_err-word.ensures.1
    (type_stops c.args.self.now.toks.now c.args.room c.args.at (omega arith) begins _ (c.in_err-word.ensures.stopped _))

pub returns-in_err-name-clause-stopped : goal.returns-in_err-name-clause-stopped
returns-in_err-name-clause-stopped c =
    let begins = c.begins_type.ensures.yes c.if-not-begins_type.false in
    handed_on _ c.from_residual-in_err-name.result c.from_residual-in_err-name.ensures.1
    (name_stops c.args.self.now.toks.now c.args.room c.args.at (omega arith) begins (c.in_ok-word.ensures.read _) _ (c.in_err-name.ensures.stopped _))

pub returns-in_err-equals-clause-stopped : goal.returns-in_err-equals-clause-stopped
returns-in_err-equals-clause-stopped c =
    let begins = c.begins_type.ensures.yes c.if-not-begins_type.false in
    handed_on _ c.from_residual-in_err-equals.result c.from_residual-in_err-equals.ensures.1
    (equals_stops c.args.self.now.toks.now c.args.room c.args.at (omega arith) begins (c.in_ok-word.ensures.read _) (c.in_ok-name.ensures.read _) _ (c.in_err-equals.ensures.stopped _))

pub returns-in_err-value-clause-stopped : goal.returns-in_err-value-clause-stopped
returns-in_err-value-clause-stopped c =
    let begins = c.begins_type.ensures.yes c.if-not-begins_type.false in
    handed_on _ c.from_residual-in_err-value.result c.from_residual-in_err-value.ensures.1
    (value_stops c.args.self.now.toks.now c.args.room c.args.at (omega arith) begins (c.in_ok-word.ensures.read _) (c.in_ok-name.ensures.read _) (c.in_ok-equals.ensures.read _) _ c.in_err-value.ensures.stopped)

pub returns-in_default-clause-read : goal.returns-in_default-clause-read
returns-in_default-clause-read c =
    let begins = c.begins_type.ensures.yes c.if-not-begins_type.false in
    value_unfit c.args.self.now.toks.now c.args.room c.args.at (omega arith) begins (c.in_ok-word.ensures.read _) (c.in_ok-name.ensures.read _) (c.in_ok-equals.ensures.read _) (rw c.in_default.is at c.in_ok-value.ensures.read)

pub whole-requires-clause-held : goal.whole-requires-clause-held
whole-requires-clause-held c = rw action-Decl refl

pub returns-in_err-whole-clause-stopped : goal.returns-in_err-whole-clause-stopped
returns-in_err-whole-clause-stopped c =
    handed_on _ c.from_residual-in_err-whole.result c.from_residual-in_err-whole.ensures.1
    (memory_stops c.args.self.now.toks.now c.args.room for_start c.args.at c.in_err-whole.ensures.memory)

pub returns-in_err-push-clause-stopped : goal.returns-in_err-push-clause-stopped
returns-in_err-push-clause-stopped c =
    handed_on _ c.from_residual-in_err-push.result c.from_residual-in_err-push.ensures.1 tt

pub returns-clause-read : goal.returns-clause-read
returns-clause-read c =
    let begins = c.begins_type.ensures.yes c.if-not-begins_type.false in
    let right = rw c.in-Some.is at c.in_ok-value.ensures.read in
    rw (c.in_ok-whole.ensures.made.1, c.in_ok-whole.ensures.made.0, action-Decl, c.in_ok-push.ensures.ok, c.new-declared.ensures, c.variable.ensures)
    (value_reads c.args.self.now.toks.now c.args.room c.args.at (omega arith) begins (c.in_ok-word.ensures.read _) (c.in_ok-name.ensures.read _) (c.in_ok-equals.ensures.read _) right)
