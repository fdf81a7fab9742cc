use Rattle.std.proofs.Common.{refl, arith}
use Rattle.xc_nonterminals.proofs.Derivations.Single.{number_reads, number_refuses, on_kind, other_kind, past_all, unlike}
use Rattle.xc_nonterminals.proofs.parser.Parser.numeral.Goals as goal

pub returns-then-at-self-clause-stopped : goal.returns-then-at-self-clause-stopped
returns-then-at-self-clause-stopped c = number_refuses (λ n u p on. past_all (λ h. omega arith) on)

pub returns-in-Name-clause-stopped : goal.returns-in-Name-clause-stopped
returns-in-Name-clause-stopped c = number_refuses (λ n u p on. unlike (other_kind c.args.self.now.toks.now c.args.at _ _ _ p (omega arith) c.in-Name.is on) refl)

pub returns-in-Key-clause-stopped : goal.returns-in-Key-clause-stopped
returns-in-Key-clause-stopped c = number_refuses (λ n u p on. unlike (other_kind c.args.self.now.toks.now c.args.at _ _ _ p (omega arith) c.in-Key.is on) refl)

pub returns-in-Sym-clause-stopped : goal.returns-in-Sym-clause-stopped
returns-in-Sym-clause-stopped c = number_refuses (λ n u p on. unlike (other_kind c.args.self.now.toks.now c.args.at _ _ _ p (omega arith) c.in-Sym.is on) refl)

pub returns-in-Num-clause-read : goal.returns-in-Num-clause-read
returns-in-Num-clause-read c = number_reads (on_kind c.args.self.now.toks.now c.args.at _ _ (omega arith) c.in-Num.is)
