use Rattle.std.proofs.Common.{arith}
use Rattle.xc_tree.proofs.Forms.{action-Assign, action-Step}
use Rattle.xc_nonterminals.proofs.Reading.Exits.{handed_on}
use Rattle.xc_nonterminals.proofs.Stating.Marks.{on_it}
use Rattle.xc_nonterminals.proofs.Stating.Targets.{lval_roomy, target_stops, right_stops, right_read, up_read, down_read, mark_stops, value_stops, value_read}
use Rattle.xc_nonterminals.proofs.parser.Parser.assign.Goals as goal

pub returns-in_err-target-clause-stopped : goal.returns-in_err-target-clause-stopped
returns-in_err-target-clause-stopped c =
    handed_on _ c.from_residual.result c.from_residual.ensures.1 (target_stops c.args.self.now.toks.now c.args.room c.args.at _ c.in_err-target.ensures.stopped)

pub returns-in_err-target-2-clause-stopped : goal.returns-in_err-target-2-clause-stopped
returns-in_err-target-2-clause-stopped c =
    let on = (c.is_symbol.ensures.yes c.if-is_symbol.true).1.1 in
    let stopped = rw c.in_err-target-2.ensures.failed at c.rhs.ensures.stopped in
    handed_on _ c.from_residual-in_err-target-2.result c.from_residual-in_err-target-2.ensures.1
    (right_stops c.args.self.now.toks.now c.args.room c.args.at c.in_ok-target.ensures.read on _ stopped)

pub unreachable-requires : goal.unreachable-requires
unreachable-requires c =
    let read = rw c.in_ok-target-2.ensures.made at c.rhs.ensures.roomless in
    let roomless = rw c.in_default.is at read in
    let room = lval_roomy _ _ _ _ _ c.in_ok-target.ensures.read.derives in
    omega (arith, roomless, room)

pub returns-then-is_symbol-clause-read : goal.returns-then-is_symbol-clause-read
returns-then-is_symbol-clause-read c =
    let on = on_it (c.is_symbol.ensures.yes c.if-is_symbol.true).1.1 c.index-self-end.result in
    let read = rw c.in_ok-target-2.ensures.made at c.rhs.ensures.read in
    let right = rw c.in-Some.is at read in
    rw (action-Assign, c.in_ok-target-2.ensures.value) (right_read c.args.self.now.toks.now c.args.room c.args.at c.in_ok-target.ensures.read on right)

pub returns-then-is_symbol-2-clause-read : goal.returns-then-is_symbol-2-clause-read
returns-then-is_symbol-2-clause-read c =
    rw action-Step (up_read c.args.self.now.toks.now c.args.room c.args.at c.in_ok-target.ensures.read (c.is_symbol-2.ensures.yes c.if-is_symbol-2.true).1.1)

pub returns-then-is_symbol-3-clause-read : goal.returns-then-is_symbol-3-clause-read
returns-then-is_symbol-3-clause-read c =
    rw action-Step (down_read c.args.self.now.toks.now c.args.room c.args.at c.in_ok-target.ensures.read (c.is_symbol-3.ensures.yes c.if-is_symbol-3.true).1.1)

pub returns-in_err-target-3-clause-stopped : goal.returns-in_err-target-3-clause-stopped
returns-in_err-target-3-clause-stopped c =
    let stopped = rw c.in_err-target-3.ensures.failed at c.assign_op.ensures.stopped in
    handed_on _ c.from_residual-in_err-target-3.result c.from_residual-in_err-target-3.ensures.1
    (mark_stops c.args.self.now.toks.now c.args.room c.args.at c.in_ok-target.ensures.read (c.is_symbol.ensures.no c.if-is_symbol.false) (c.is_symbol-2.ensures.no c.if-is_symbol-2.false) (c.is_symbol-3.ensures.no c.if-is_symbol-3.false) _ (stopped _))

pub returns-in_err-target-4-clause-stopped : goal.returns-in_err-target-4-clause-stopped
returns-in_err-target-4-clause-stopped c =
    let mark = rw c.in_ok-target-3.ensures.made at c.assign_op.ensures.read in
    let stopped = rw c.in_err-target-4.ensures.failed at c.expr.ensures.stopped in
    handed_on _ c.from_residual-in_err-target-4.result c.from_residual-in_err-target-4.ensures.1
    (value_stops c.args.self.now.toks.now c.args.room c.args.at c.in_ok-target.ensures.read (c.is_symbol.ensures.no c.if-is_symbol.false) (c.is_symbol-2.ensures.no c.if-is_symbol-2.false) (c.is_symbol-3.ensures.no c.if-is_symbol-3.false) (mark _) _ stopped)

pub returns-clause-read : goal.returns-clause-read
returns-clause-read c =
    let mark = rw c.in_ok-target-3.ensures.made at c.assign_op.ensures.read in
    let value = rw c.in_ok-target-4.ensures.made at c.expr.ensures.read in
    rw (action-Assign, c.in_ok-target-4.ensures.value, c.in_ok-target-3.ensures.value)
    (value_read c.args.self.now.toks.now c.args.room c.args.at c.in_ok-target.ensures.read (c.is_symbol.ensures.no c.if-is_symbol.false) (c.is_symbol-2.ensures.no c.if-is_symbol-2.false) (c.is_symbol-3.ensures.no c.if-is_symbol-3.false) (mark _) value)
