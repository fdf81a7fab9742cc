use Rattle.std.proofs.Common.{refl, arith}
use Rattle.xc_nonterminals.proofs.Derivations.Single.{other_kind, past_all, unlike}
use Rattle.xc_nonterminals.proofs.parser.Parser.name.Goals as goal

pub returns-then-at-self-clause-missing : goal.returns-then-at-self-clause-missing
returns-then-at-self-clause-missing c = (refl, λ s. past_all (λ g. omega arith) s.2)

pub returns-in-Num-clause-missing : goal.returns-in-Num-clause-missing
returns-in-Num-clause-missing c = (refl, λ s. unlike (other_kind c.args.self.now.toks.now c.args.at _ _ _ s.1 (omega arith) c.in-Num.is s.2) refl)

pub returns-in-Key-clause-missing : goal.returns-in-Key-clause-missing
returns-in-Key-clause-missing c = (refl, λ s. unlike (other_kind c.args.self.now.toks.now c.args.at _ _ _ s.1 (omega arith) c.in-Key.is s.2) refl)

pub returns-in-Sym-clause-missing : goal.returns-in-Sym-clause-missing
returns-in-Sym-clause-missing c = (refl, λ s. unlike (other_kind c.args.self.now.toks.now c.args.at _ _ _ s.1 (omega arith) c.in-Sym.is s.2) refl)
