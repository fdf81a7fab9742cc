use Rattle.std.proofs.Common.{sym, ◌∙◌, arith}
use Rattle.xc_tree.specs.declared.token.Kind.TheVariants.{Name, Num, Key, Sym}
use Rattle.xc_tree.specs.Derives.{On}
use Rattle.xc_nonterminals.proofs.Derivations.TokenSets.{false_true}
use Rattle.xc_nonterminals.proofs.Reading.Tests.{stands_there, name_begins, number_begins, symbol_begins, begins_as}
use Rattle.xc_nonterminals.proofs.tokens.begins_operand.Goals as goal

pub returns-in-Name-clause-yes : goal.returns-in-Name-clause-yes
returns-in-Name-clause-yes c =
    let on : On c.args.toks.now c.args.at (Name c.in-Name.field-0) _ = stands_there c.args.toks.now c.args.at c.index-toks-at.result _ (omega arith) c.index-toks-at.is c.in-Name.is in
    λ h. (omega arith, name_begins on)

pub returns-in-Num-clause-yes : goal.returns-in-Num-clause-yes
returns-in-Num-clause-yes c =
    let on : On c.args.toks.now c.args.at (Num c.in-Num.field-0 c.in-Num.field-1) _ = stands_there c.args.toks.now c.args.at c.index-toks-at.result _ (omega arith) c.index-toks-at.is c.in-Num.is in
    λ h. (omega arith, number_begins on)

pub returns-in-Sym-clause-yes : goal.returns-in-Sym-clause-yes
returns-in-Sym-clause-yes c =
    let on : On c.args.toks.now c.args.at (Sym c.in-Sym.symbol) _ = stands_there c.args.toks.now c.args.at c.index-toks-at.result _ (omega arith) c.index-toks-at.is c.in-Sym.is in
    λ h. (omega arith, symbol_begins on (c.begins_operand_as.ensures.0 h))

pub returns-in-Sym-clause-no : goal.returns-in-Sym-clause-no
returns-in-Sym-clause-no c =
    let on : On c.args.toks.now c.args.at (Sym c.in-Sym.symbol) _ = stands_there c.args.toks.now c.args.at c.index-toks-at.result _ (omega arith) c.index-toks-at.is c.in-Sym.is in
    λ h o. false_true (sym h ∙ c.begins_operand_as.ensures.1 (begins_as on o))

pub returns-in-Key-clause-no : goal.returns-in-Key-clause-no
returns-in-Key-clause-no c =
    let on : On c.args.toks.now c.args.at (Key c.in-Key.field-0) _ = stands_there c.args.toks.now c.args.at c.index-toks-at.result _ (omega arith) c.index-toks-at.is c.in-Key.is in
    λ h o. begins_as on o
