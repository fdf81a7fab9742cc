use Rattle.std.proofs.Common.{◌≡◌, ◌+◌, subst, arith}
use Rattle.xc_tree.specs.Symbol as symbol
use Rattle.xc_nonterminals.specs.Reading.{TooDeep, Unfit}
use Rattle.xc_nonterminals.proofs.Valued.RightSides.{deep_name_goes_on, unfit_name}
use Rattle.xc_nonterminals.proofs.parser.Parser.rhs.Goals as goal

pub returns-then-goes_on-clause-stopped : goal.returns-then-goes_on-clause-stopped
returns-then-goes_on-clause-stopped c =
    let y = c.is_name.ensures.yes c.if-not-is_name.false in
    let e : 0 ≡ c.args.room = let h = c.if-room-gt0.false in omega arith in
    let g = c.goes_on.ensures.yes c.if-goes_on.true in
    subst (λ r. TooDeep c.args.self.now.toks.now r symbol.rhs c.args.at (c.args.at + 1)) e (deep_name_goes_on c.args.self.now.toks.now y.1.2 (c.is_symbol.ensures.no c.if-is_symbol.false) g.1)

pub returns-clause-read : goal.returns-clause-read
returns-clause-read c =
    let y = c.is_name.ensures.yes c.if-not-is_name.false in
    let e : 0 ≡ c.args.room = let h = c.if-room-gt0.false in omega arith in
    subst (λ r. Unfit c.args.self.now.toks.now r symbol.rhs c.args.at (c.args.at + 1)) e (unfit_name c.args.self.now.toks.now y.1.2 (c.is_symbol.ensures.no c.if-is_symbol.false) (c.goes_on.ensures.no c.if-goes_on.false))
