use Rattle.std.proofs.Common.{◌≡◌, ◌+◌, map, subst, arith}
use Rattle.xc_tree.specs.Symbol as symbol
use Rattle.xc_tree.specs.Trees.{argument_of}
use Rattle.xc_nonterminals.specs.Reading.{Reads}
use Rattle.xc_nonterminals.specs.Stops.{Stopped}
use Rattle.xc_nonterminals.proofs.Valued.RightSides.{missing_call, unopened_call, stops_call, open_call, reads_call}
use Rattle.xc_nonterminals.proofs.parser.Parser.call.Goals as goal

pub returns-in-Err-clause-stopped : goal.returns-in-Err-clause-stopped
returns-in-Err-clause-stopped c = missing_call c.args.self.now.toks.now c.args.room c.args.at c.in-Err.e c.in-Err.ensures.missing

pub returns-then-not-is_symbol-clause-stopped : goal.returns-then-not-is_symbol-clause-stopped
returns-then-not-is_symbol-clause-stopped c = unopened_call c.args.self.now.toks.now c.args.room c.args.at c.in-Ok.ensures.named.1 (c.is_symbol.ensures.no c.if-not-is_symbol.true)

pub returns-in-Err-arguments-clause-stopped : goal.returns-in-Err-arguments-clause-stopped
returns-in-Err-arguments-clause-stopped c =
    let y = c.is_symbol.ensures.yes c.if-not-is_symbol.false in
    let e : c.args.at + 2 ≡ c.args.at + 1 + 1 = omega arith in
    stops_call c.args.self.now.toks.now c.args.room c.args.at c.in-Ok.ensures.named.1 y.1.1 c.in-Err-arguments.e (subst (λ i. Stopped c.args.self.now.toks.now c.args.room symbol.arguments i c.in-Err-arguments.e) e c.in-Err-arguments.ensures.stopped)

pub returns-then-not-is_symbol-2-clause-stopped : goal.returns-then-not-is_symbol-2-clause-stopped
returns-then-not-is_symbol-2-clause-stopped c =
    let y = c.is_symbol.ensures.yes c.if-not-is_symbol.false in
    let e : c.args.at + 2 ≡ c.args.at + 1 + 1 = omega arith in
    open_call c.args.self.now.toks.now c.args.room c.args.at c.in-Ok.ensures.named.1 y.1.1 (subst (λ i. Reads c.args.self.now.toks.now c.args.room symbol.arguments i c.in-Ok-arguments.arguments.end (map argument_of c.in-Ok-arguments.arguments.value)) e c.in-Ok-arguments.ensures.read) (c.is_symbol-2.ensures.no c.if-not-is_symbol-2.true)

pub returns-clause-read : goal.returns-clause-read
returns-clause-read c =
    let y = c.is_symbol.ensures.yes c.if-not-is_symbol.false in
    let e : c.args.at + 2 ≡ c.args.at + 1 + 1 = omega arith in
    let close = c.is_symbol-2.ensures.yes c.if-not-is_symbol-2.false in
    reads_call c.args.self.now.toks.now c.args.room c.args.at c.in-Ok.ensures.named.1 y.1.1 (subst (λ i. Reads c.args.self.now.toks.now c.args.room symbol.arguments i c.in-Ok-arguments.arguments.end (map argument_of c.in-Ok-arguments.arguments.value)) e c.in-Ok-arguments.ensures.read) close.1.1
