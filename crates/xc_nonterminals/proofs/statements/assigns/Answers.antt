use Rattle.std.proofs.Common.{refl, ◌≡◌, sym, ◌∙◌, true, arith}
use Rattle.xc_tree.specs.Symbol as symbol
use Rattle.xc_tree.specs.declared.token.Kind.TheVariants.{Sym}
use Rattle.xc_tree.specs.Derives.{On}
use Rattle.xc_nonterminals.specs.Begun.{assigning}
use Rattle.xc_nonterminals.specs.Follows.{has}
use Rattle.xc_nonterminals.proofs.Derivations.TokenSets.{false_true}
use Rattle.xc_nonterminals.proofs.Derivations.Single.{one_symbol, other_kind, unlike}
use Rattle.xc_nonterminals.proofs.Reading.Stated.{among_assigning, only_symbols}
use Rattle.xc_nonterminals.proofs.Reading.Tests.{stands_there}
use Rattle.xc_nonterminals.proofs.statements.assigns.Goals as goal

pub returns-in-Sym-clause-yes : goal.returns-in-Sym-clause-yes
returns-in-Sym-clause-yes c =
    let on : On c.args.toks.now c.args.at (Sym c.in-Sym.symbol) _ = stands_there c.args.toks.now c.args.at c.index-toks-at.result _ (omega arith) c.index-toks-at.is c.in-Sym.is in
    λ h. let e : has assigning (symbol.sym c.in-Sym.symbol) ≡ true = sym c.assigns_by.ensures ∙ h in one_symbol assigning on e

pub returns-in-Sym-clause-no : goal.returns-in-Sym-clause-no
returns-in-Sym-clause-no c =
    let on : On c.args.toks.now c.args.at (Sym c.in-Sym.symbol) _ = stands_there c.args.toks.now c.args.at c.index-toks-at.result _ (omega arith) c.index-toks-at.is c.in-Sym.is in
    λ h o. false_true (sym h ∙ c.assigns_by.ensures ∙ among_assigning on o)

pub returns-in-Key-clause-no : goal.returns-in-Key-clause-no
returns-in-Key-clause-no c = λ h. only_symbols (λ n p on. unlike (other_kind c.args.toks.now c.args.at _ _ _ p (omega arith) c.in-Key.is on) refl)

pub returns-in-Name-clause-no : goal.returns-in-Name-clause-no
returns-in-Name-clause-no c = λ h. only_symbols (λ n p on. unlike (other_kind c.args.toks.now c.args.at _ _ _ p (omega arith) c.in-Name.is on) refl)

pub returns-in-Num-clause-no : goal.returns-in-Num-clause-no
returns-in-Num-clause-no c = λ h. only_symbols (λ n p on. unlike (other_kind c.args.toks.now c.args.at _ _ _ p (omega arith) c.in-Num.is on) refl)
