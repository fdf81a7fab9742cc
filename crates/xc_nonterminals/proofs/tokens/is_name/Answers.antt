use Rattle.std.proofs.Common.{refl, arith}
use Rattle.xc_nonterminals.proofs.Derivations.Single.{on_kind, other_kind, past_all, unlike}
use Rattle.xc_nonterminals.proofs.tokens.is_name.Goals as goal

pub returns-then-at-toks-clause-no : goal.returns-then-at-toks-clause-no
returns-then-at-toks-clause-no c = λ h s. past_all (λ g. omega arith) s.2

pub returns-in-Name-clause-yes : goal.returns-in-Name-clause-yes
returns-in-Name-clause-yes c = λ h. (omega arith, (_, _, on_kind c.args.toks.now c.args.at _ _ (omega arith) c.in-Name.is))

pub returns-in-Sym-clause-no : goal.returns-in-Sym-clause-no
returns-in-Sym-clause-no c = λ h s. unlike (other_kind c.args.toks.now c.args.at _ _ _ s.1 (omega arith) c.in-Sym.is s.2) refl

pub returns-in-Key-clause-no : goal.returns-in-Key-clause-no
returns-in-Key-clause-no c = λ h s. unlike (other_kind c.args.toks.now c.args.at _ _ _ s.1 (omega arith) c.in-Key.is s.2) refl

pub returns-in-Num-clause-no : goal.returns-in-Num-clause-no
returns-in-Num-clause-no c = λ h s. unlike (other_kind c.args.toks.now c.args.at _ _ _ s.1 (omega arith) c.in-Num.is s.2) refl
