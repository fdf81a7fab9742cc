use Rattle.std.proofs.Common.{refl, arith}
use Rattle.xc_tree.specs.declared.token.Kind.TheVariants.{Name, Num, Key, Sym}
use Rattle.xc_tree.specs.Derives.{On}
use Rattle.xc_nonterminals.proofs.Derivations.Inverse.{same_kind}
use Rattle.xc_nonterminals.proofs.Derivations.Single.{unlike}
use Rattle.xc_nonterminals.proofs.Reading.Tests.{stands_there, name_within}
use Rattle.xc_nonterminals.proofs.Valued.RightSides.{no_lval}
use Rattle.xc_nonterminals.proofs.parser.Parser.lval.Goals as goal

pub returns-then-at-self-clause-stopped : goal.returns-then-at-self-clause-stopped
returns-then-at-self-clause-stopped c = no_lval c.args.self.now.toks.now c.args.room c.args.at (λ s. let h = name_within s in absurd (omega arith))

pub variable-requires : goal.variable-requires
variable-requires c =
    let on : On c.args.self.now.toks.now c.args.at (Name c.in-Name.text) _ = stands_there c.args.self.now.toks.now c.args.at c.index-self-at.result _ (omega arith) c.index-self-at.is c.in-Name.is in
    record { on = (omega arith, on) }

pub returns-in-Num-clause-stopped : goal.returns-in-Num-clause-stopped
returns-in-Num-clause-stopped c =
    let on : On c.args.self.now.toks.now c.args.at (Num c.in-Num.field-0 c.in-Num.field-1) _ = stands_there c.args.self.now.toks.now c.args.at c.index-self-at.result _ (omega arith) c.index-self-at.is c.in-Num.is in
    no_lval c.args.self.now.toks.now c.args.room c.args.at (λ s. unlike (same_kind on s.2) refl)

pub returns-in-Key-clause-stopped : goal.returns-in-Key-clause-stopped
returns-in-Key-clause-stopped c =
    let on : On c.args.self.now.toks.now c.args.at (Key c.in-Key.field-0) _ = stands_there c.args.self.now.toks.now c.args.at c.index-self-at.result _ (omega arith) c.index-self-at.is c.in-Key.is in
    no_lval c.args.self.now.toks.now c.args.room c.args.at (λ s. unlike (same_kind on s.2) refl)

pub returns-in-Sym-clause-stopped : goal.returns-in-Sym-clause-stopped
returns-in-Sym-clause-stopped c =
    let on : On c.args.self.now.toks.now c.args.at (Sym c.in-Sym.field-0) _ = stands_there c.args.self.now.toks.now c.args.at c.index-self-at.result _ (omega arith) c.index-self-at.is c.in-Sym.is in
    no_lval c.args.self.now.toks.now c.args.room c.args.at (λ s. unlike (same_kind on s.2) refl)
