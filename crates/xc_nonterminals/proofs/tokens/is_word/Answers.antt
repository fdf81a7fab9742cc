use Rattle.std.proofs.Common.{refl, arith}
use Rattle.xc_nonterminals.proofs.Derivations.Single.{other_kind, past_all, unlike}
use Rattle.xc_nonterminals.proofs.tokens.is_word.Goals as goal

pub returns-then-at-toks-clause-no : goal.returns-then-at-toks-clause-no
returns-then-at-toks-clause-no c = λ h p on. past_all (λ g. omega arith) on

pub returns-in-Sym-clause-no : goal.returns-in-Sym-clause-no
returns-in-Sym-clause-no c = λ h p on. unlike (other_kind c.args.toks.now c.args.at _ _ _ p (omega arith) c.in-Sym.is on) refl

pub returns-in-Name-clause-no : goal.returns-in-Name-clause-no
returns-in-Name-clause-no c = λ h p on. unlike (other_kind c.args.toks.now c.args.at _ _ _ p (omega arith) c.in-Name.is on) refl

pub returns-in-Num-clause-no : goal.returns-in-Num-clause-no
returns-in-Num-clause-no c = λ h p on. unlike (other_kind c.args.toks.now c.args.at _ _ _ p (omega arith) c.in-Num.is on) refl
