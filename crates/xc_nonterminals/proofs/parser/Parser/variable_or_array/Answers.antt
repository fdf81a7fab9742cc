use Rattle.xc_nonterminals.proofs.Reading.Exits.{handed_on}
use Rattle.xc_nonterminals.proofs.Declaring.Declarators.{name_stops, length_stops, close_stops, array_read, bare_read, value_stops, word_read, word_unfit}
use Rattle.xc_nonterminals.proofs.parser.Parser.variable_or_array.Goals as goal

pub returns-in_err-name-clause-stopped : goal.returns-in_err-name-clause-stopped
returns-in_err-name-clause-stopped c =
    handed_on _ c.from_residual.result c.from_residual.ensures.1
    (name_stops c.args.self.now.toks.now c.args.room c.args.at _ (c.in_err-name.ensures.stopped _))

pub returns-in_err-length-clause-stopped : goal.returns-in_err-length-clause-stopped
returns-in_err-length-clause-stopped c =
    let on = (c.is_symbol.ensures.yes c.if-is_symbol.true).1.1 in
    handed_on _ c.from_residual-in_err-length.result c.from_residual-in_err-length.ensures.1
    (length_stops c.args.self.now.toks.now c.args.room c.args.at (c.in_ok-name.ensures.read _) on _ (c.in_err-length.ensures.stopped _))

pub returns-in_err-close-clause-stopped : goal.returns-in_err-close-clause-stopped
returns-in_err-close-clause-stopped c =
    let on = (c.is_symbol.ensures.yes c.if-is_symbol.true).1.1 in
    handed_on _ c.from_residual-in_err-close.result c.from_residual-in_err-close.ensures.1
    (close_stops c.args.self.now.toks.now c.args.room c.args.at (c.in_ok-name.ensures.read _) on (c.in_ok-length.ensures.read _) _ (c.in_err-close.ensures.stopped _))

pub returns-then-is_symbol-clause-read : goal.returns-then-is_symbol-clause-read
returns-then-is_symbol-clause-read c =
    let on = (c.is_symbol.ensures.yes c.if-is_symbol.true).1.1 in
    record {
      value = _;
      reads = array_read c.args.self.now.toks.now c.args.room c.args.at (c.in_ok-name.ensures.read _) on (c.in_ok-length.ensures.read _) (c.in_ok-close.ensures.read _);
      is = c.array.ensures;
    }

pub returns-then-not-is_symbol-clause-read : goal.returns-then-not-is_symbol-clause-read
returns-then-not-is_symbol-clause-read c =
    let no_bracket = c.is_symbol.ensures.no c.if-is_symbol.false in
    let no_equals = c.is_symbol-2.ensures.no c.if-not-is_symbol.true in
    record {
      value = _;
      reads = bare_read c.args.self.now.toks.now c.args.room c.args.at (c.in_ok-name.ensures.read _) no_bracket no_equals;
      is = c.variable.ensures;
    }

pub returns-in_err-value-clause-stopped : goal.returns-in_err-value-clause-stopped
returns-in_err-value-clause-stopped c =
    let no_bracket = c.is_symbol.ensures.no c.if-is_symbol.false in
    let on = (c.is_symbol-2.ensures.yes c.if-not-is_symbol.false).1.1 in
    handed_on _ c.from_residual-in_err-value.result c.from_residual-in_err-value.ensures.1
    (value_stops c.args.self.now.toks.now c.args.room c.args.at (c.in_ok-name.ensures.read _) no_bracket on _ c.in_err-value.ensures.stopped)

pub returns-in_default-clause-unfit : goal.returns-in_default-clause-unfit
returns-in_default-clause-unfit c =
    let no_bracket = c.is_symbol.ensures.no c.if-is_symbol.false in
    let on = (c.is_symbol-2.ensures.yes c.if-not-is_symbol.false).1.1 in
    word_unfit c.args.self.now.toks.now c.args.room c.args.at (c.in_ok-name.ensures.read _) no_bracket on (rw c.in_default.is at c.in_ok-value.ensures.read)

pub returns-clause-read : goal.returns-clause-read
returns-clause-read c =
    let no_bracket = c.is_symbol.ensures.no c.if-is_symbol.false in
    let on = (c.is_symbol-2.ensures.yes c.if-not-is_symbol.false).1.1 in
    record {
      value = _;
      reads = word_read c.args.self.now.toks.now c.args.room c.args.at (c.in_ok-name.ensures.read _) no_bracket on (rw c.in-Some.is at c.in_ok-value.ensures.read);
      is = c.variable-2.ensures;
    }
