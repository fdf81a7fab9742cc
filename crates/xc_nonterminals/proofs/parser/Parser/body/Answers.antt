use Rattle.std.proofs.Common.{◌≡◌, ◌+◌, ◌-◌, arith}
use Rattle.xc_tree.specs.Symbol as symbol
use Rattle.xc_nonterminals.proofs.Stating.Simples.{body_deep, body_wrong}
use Rattle.xc_nonterminals.proofs.Reading.Stated.{ok_room, err_room}
use Rattle.xc_nonterminals.proofs.parser.Parser.body.Goals as goal

pub returns-then-room-gt0-clause-read : goal.returns-then-room-gt0-clause-read
returns-then-room-gt0-clause-read c =
    let e : c.args.room - 1 + 1 ≡ c.args.room = omega arith in
    ok_room c.args.self.now.toks.now symbol.body c.args.at _ _ e c.braced.result c.braced.ensures.body

pub returns-then-room-gt0-clause-stopped : goal.returns-then-room-gt0-clause-stopped
returns-then-room-gt0-clause-stopped c =
    let e : c.args.room - 1 + 1 ≡ c.args.room = omega arith in
    err_room c.args.self.now.toks.now symbol.body c.args.at e c.braced.result c.braced.ensures.no_body

pub returns-then-is_symbol-clause-stopped : goal.returns-then-is_symbol-clause-stopped
returns-then-is_symbol-clause-stopped c =
    let e : c.args.room ≡ 0 = omega arith in
    rw e (body_deep c.args.self.now.toks.now 0 c.args.at (c.is_symbol.ensures.yes c.if-is_symbol.true).1.1)

pub returns-clause-stopped : goal.returns-clause-stopped
returns-clause-stopped c =
    let e : c.args.room ≡ 0 = omega arith in
    rw e (body_wrong c.args.self.now.toks.now 0 c.args.at (c.is_symbol.ensures.no c.if-is_symbol.false))
