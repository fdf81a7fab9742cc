use Rattle.std.proofs.Common.{sym, subst, ◌∙◌, arith}
use Rattle.xc_tree.specs.declared.token.Kind.TheVariants.{Num, Key, Sym}
use Rattle.xc_tree.specs.Derives.{On}
use Rattle.xc_tree.specs.Symbol as symbol
use Rattle.xc_nonterminals.specs.Follows.{StandsAt}
use Rattle.xc_nonterminals.proofs.Derivations.TokenSets.{false_true, one_is}
use Rattle.xc_nonterminals.proofs.Reading.Stated.{none_with, some_with}
use Rattle.xc_nonterminals.proofs.Reading.Tests.{nothing_past, stands_there}
use Rattle.xc_nonterminals.proofs.parser.Parser.first.Goals as goal

pub returns-then-at-self-clause-none : goal.returns-then-at-self-clause-none
returns-then-at-self-clause-none c = λ o. nothing_past c.if-at-self.true o

pub returns-in-Sym-clause-some : goal.returns-in-Sym-clause-some
returns-in-Sym-clause-some c =
    let on : On c.args.self.now.toks.now c.args.at (Sym c.in-Sym.symbol) _ = stands_there c.args.self.now.toks.now c.args.at c.index-self-at.result _ (omega arith) c.index-self-at.is c.in-Sym.is in
    some_with _ _ c.first_by_symbol.result (λ f h. (omega arith, subst (StandsAt c.args.self.now.toks.now c.args.at) (sym h) (_, on))) c.first_by_symbol.ensures.some

pub returns-in-Sym-clause-none : goal.returns-in-Sym-clause-none
returns-in-Sym-clause-none c =
    let on : On c.args.self.now.toks.now c.args.at (Sym c.in-Sym.symbol) _ = stands_there c.args.self.now.toks.now c.args.at c.index-self-at.result _ (omega arith) c.index-self-at.is c.in-Sym.is in
    none_with c.first_by_symbol.result (λ h o. false_true (sym h ∙ one_is (symbol.sym c.in-Sym.symbol) (_, on) o)) c.first_by_symbol.ensures.none

pub returns-in-Key-clause-some : goal.returns-in-Key-clause-some
returns-in-Key-clause-some c =
    let on : On c.args.self.now.toks.now c.args.at (Key c.in-Key.word) _ = stands_there c.args.self.now.toks.now c.args.at c.index-self-at.result _ (omega arith) c.index-self-at.is c.in-Key.is in
    some_with _ _ c.first_by_word.result (λ f h. (omega arith, subst (StandsAt c.args.self.now.toks.now c.args.at) (sym h) (_, on))) c.first_by_word.ensures.some

pub returns-in-Key-clause-none : goal.returns-in-Key-clause-none
returns-in-Key-clause-none c =
    let on : On c.args.self.now.toks.now c.args.at (Key c.in-Key.word) _ = stands_there c.args.self.now.toks.now c.args.at c.index-self-at.result _ (omega arith) c.index-self-at.is c.in-Key.is in
    none_with c.first_by_word.result (λ h o. false_true (sym h ∙ one_is (symbol.key c.in-Key.word) (_, on) o)) c.first_by_word.ensures.none

pub returns-in-Num-clause-none : goal.returns-in-Num-clause-none
returns-in-Num-clause-none c =
    let on : On c.args.self.now.toks.now c.args.at (Num c.in-Num.field-0 c.in-Num.field-1) _ = stands_there c.args.self.now.toks.now c.args.at c.index-self-at.result _ (omega arith) c.index-self-at.is c.in-Num.is in
    λ o. false_true (one_is symbol.a_number (_, _, _, on) o)
