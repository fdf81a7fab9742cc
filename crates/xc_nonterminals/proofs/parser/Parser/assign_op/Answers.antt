use Rattle.std.proofs.Common.{refl, arith}
use Rattle.xc_nonterminals.proofs.Derivations.Single.{on_kind, other_kind, past_all, unlike}
use Rattle.xc_nonterminals.proofs.Stating.Marks.{mark_reads, mark_refuses, other_mark}
use Rattle.xc_nonterminals.proofs.parser.Parser.assign_op.Goals as goal
use Rattle.xc_nonterminals.proofs.parser.Parser.assign_op.Goals.{then-symbol-lt-PLUS_EQUALS-via-then-symbol-lt-PLUS_EQUALS, then-symbol-lt-PLUS_EQUALS-via-else-symbol-lt-PLUS_EQUALS+then-symbol-gt-SHIFT_EQUALS}

pub returns-then-at-self-clause-stopped : goal.returns-then-at-self-clause-stopped
returns-then-at-self-clause-stopped c = mark_refuses (λ o p l h on. past_all (λ g. omega arith) on)

pub returns-then-symbol-lt-PLUS_EQUALS-clause-stopped : goal.returns-then-symbol-lt-PLUS_EQUALS-clause-stopped
returns-then-symbol-lt-PLUS_EQUALS-clause-stopped c = mark_refuses (λ o p l h on.
    let e = other_mark (other_kind c.args.self.now.toks.now c.args.at _ _ _ p (omega arith) c.in-Sym.is on) in
    elim c.then-symbol-lt-PLUS_EQUALS.branch [
      | then-symbol-lt-PLUS_EQUALS-via-then-symbol-lt-PLUS_EQUALS w ↦ let x = w.if-symbol-lt-PLUS_EQUALS.true in omega arith
      | then-symbol-lt-PLUS_EQUALS-via-else-symbol-lt-PLUS_EQUALS+then-symbol-gt-SHIFT_EQUALS w ↦ let x = w.if-symbol-gt-SHIFT_EQUALS.true in omega arith
    ])

pub returns-else-symbol-gt-SHIFT_EQUALS-clause-read : goal.returns-else-symbol-gt-SHIFT_EQUALS-clause-read
returns-else-symbol-gt-SHIFT_EQUALS-clause-read c =
    mark_reads c.in-Sym.symbol (omega arith) (omega arith) _ (on_kind c.args.self.now.toks.now c.args.at _ _ (omega arith) c.in-Sym.is)

pub returns-in-Name-clause-stopped : goal.returns-in-Name-clause-stopped
returns-in-Name-clause-stopped c = mark_refuses (λ o p l h on. unlike (other_kind c.args.self.now.toks.now c.args.at _ _ _ p (omega arith) c.in-Name.is on) refl)

pub returns-in-Num-clause-stopped : goal.returns-in-Num-clause-stopped
returns-in-Num-clause-stopped c = mark_refuses (λ o p l h on. unlike (other_kind c.args.self.now.toks.now c.args.at _ _ _ p (omega arith) c.in-Num.is on) refl)

pub returns-in-Key-clause-stopped : goal.returns-in-Key-clause-stopped
returns-in-Key-clause-stopped c = mark_refuses (λ o p l h on. unlike (other_kind c.args.self.now.toks.now c.args.at _ _ _ p (omega arith) c.in-Key.is on) refl)
