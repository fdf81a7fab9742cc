use Rattle.std.proofs.Common.{refl, arith}
use Rattle.xc_nonterminals.proofs.Derivations.Single.{name_reads, name_refuses, on_kind, other_kind, past_all, unlike}
use Rattle.xc_nonterminals.proofs.parser.Parser.id.Goals as goal

pub returns-then-at-self-clause-stopped : goal.returns-then-at-self-clause-stopped
returns-then-at-self-clause-stopped c = name_refuses (λ t p on. past_all (λ h. omega arith) on)

pub returns-in-Num-clause-stopped : goal.returns-in-Num-clause-stopped
returns-in-Num-clause-stopped c = name_refuses (λ t p on. unlike (other_kind c.args.self.now.toks.now c.args.at _ _ _ p (omega arith) c.in-Num.is on) refl)

pub returns-in-Key-clause-stopped : goal.returns-in-Key-clause-stopped
returns-in-Key-clause-stopped c = name_refuses (λ t p on. unlike (other_kind c.args.self.now.toks.now c.args.at _ _ _ p (omega arith) c.in-Key.is on) refl)

pub returns-in-Sym-clause-stopped : goal.returns-in-Sym-clause-stopped
returns-in-Sym-clause-stopped c = name_refuses (λ t p on. unlike (other_kind c.args.self.now.toks.now c.args.at _ _ _ p (omega arith) c.in-Sym.is on) refl)

pub returns-in_ok-copy-in-Name-clause-read : goal.returns-in_ok-copy-in-Name-clause-read
returns-in_ok-copy-in-Name-clause-read c = rw c.in_ok-copy-in-Name.ensures (name_reads (on_kind c.args.self.now.toks.now c.args.at _ _ (omega arith) c.in-Name.is))
