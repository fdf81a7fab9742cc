use Rattle.std.proofs.Common.{inl, inr, refl}
use Rattle.xc_nonterminals.proofs.Reading.Exits.{handed_on}
use Rattle.xc_nonterminals.proofs.Reading.Rounds.{no_start, some_start}
use Rattle.xc_nonterminals.proofs.parser.Parser.maybe_start.Goals as goal

pub returns-then-is_symbol-clause-read : goal.returns-then-is_symbol-clause-read
returns-then-is_symbol-clause-read c =
    no_start c.args.self.now.toks.now c.args.room c.args.at (c.is_symbol.ensures.yes c.if-is_symbol.true).1.1

pub returns-in_err-value-clause-stopped : goal.returns-in_err-value-clause-stopped
returns-in_err-value-clause-stopped c =
    handed_on _ c.from_residual.result c.from_residual.ensures.1
    (record { lacks = c.is_symbol.ensures.no c.if-is_symbol.false; stops = inl c.in_err-value.ensures.stopped })

pub returns-then-is_symbol-2-clause-stopped : goal.returns-then-is_symbol-2-clause-stopped
returns-then-is_symbol-2-clause-stopped c =
    let unfit = rw c.in_default.is at c.in_ok-value.ensures.read in
    record {
      lacks = c.is_symbol.ensures.no c.if-is_symbol.false;
      stops = inr (c.in_ok-value.field-0.end, unfit, (refl, (c.is_symbol-in_default.ensures.yes c.if-is_symbol-2.true).1));
    }

pub returns-in_default-clause-stopped : goal.returns-in_default-clause-stopped
returns-in_default-clause-stopped c =
    let unfit = rw c.in_default.is at c.in_ok-value.ensures.read in
    record {
      lacks = c.is_symbol.ensures.no c.if-is_symbol.false;
      stops = inr (c.in_ok-value.field-0.end, unfit, (refl, c.is_symbol-in_default.ensures.no c.if-is_symbol-2.false));
    }

pub returns-clause-read : goal.returns-clause-read
returns-clause-read c =
    some_start c.args.self.now.toks.now c.args.room c.args.at c.in_ok-value.ensures.bounds.0 (rw c.in-Some.is at c.in_ok-value.ensures.read)
