use Rattle.std.proofs.Common.{◌++◌, ◌∷◌, [], map, sym, ap, subst, ◌∙◌, arith}
use Rattle.xc_tree.specs.Symbol as symbol
use Rattle.xc_tree.specs.Trees.{argument_of}
use Rattle.xc_nonterminals.specs.Reading.{Reads}
use Rattle.xc_nonterminals.proofs.Valued.RightSides.{Listed, mapped, no_arguments, first_listed, first_stops, one_more_listed, more_stops, all_listed}
use Rattle.xc_nonterminals.proofs.parser.Parser.arguments.Goals as goal

pub returns-then-not-begins_operand-clause-read : goal.returns-then-not-begins_operand-clause-read
returns-then-not-begins_operand-clause-read c = subst (λ x. Reads c.args.self.now.toks.now c.args.room symbol.arguments c.args.at c.args.at (map argument_of x)) (sym c.new-value.ensures) (no_arguments (c.begins_operand.ensures.no c.if-not-begins_operand.true))

pub returns-in-Err-clause-stopped : goal.returns-in-Err-clause-stopped
returns-in-Err-clause-stopped c = let o = c.begins_operand.ensures.yes c.if-not-begins_operand.false in first_stops c.args.room c.in-Err.e o.1 c.in-Err.ensures.stopped

pub arguments-init : goal.arguments-init
arguments-init c =
    let o = c.begins_operand.ensures.yes c.if-not-begins_operand.false in
    let r = c.in-Ok.ensures.read in
    let b = c.in-Ok.ensures.bounds in
    let e = mapped [] c.next_argument.new.arguments r.0 (r.1 ∙ ap (λ x. x ++ (r.0 ∷ [])) c.new-value.ensures) in
    record { after = omega arith; within = b.1; listed = subst (Listed c.args.self.now.toks.now c.args.room c.args.at c.in-Ok.end) (sym e) (first_listed o.1 r.2) }

pub returns-in-Err-next_argument-clause-stopped : goal.returns-in-Err-next_argument-clause-stopped
returns-in-Err-next_argument-clause-stopped c =
    let y = c.is_symbol.ensures.yes c.arguments-test.true in
    more_stops c.arguments.invariant.listed y.1.1 c.in-Err-next_argument.e c.in-Err-next_argument.ensures.stopped

pub arguments-preserved : goal.arguments-preserved
arguments-preserved c =
    let y = c.is_symbol.ensures.yes c.arguments-test.true in
    let r = c.in-Ok-next_argument.ensures.read in
    let b = c.in-Ok-next_argument.ensures.bounds in
    let a = c.arguments.invariant.after in
    let e = mapped c.arguments.value c.next_argument-in-arguments.new.arguments r.0 r.1 in
    record { after = omega arith; within = b.1; listed = subst (Listed c.args.self.now.toks.now c.args.room c.args.at c.in-Ok-next_argument.end) (sym e) (one_more_listed c.arguments.invariant.listed y.1.1 r.2) }

pub returns-clause-read : goal.returns-clause-read
returns-clause-read c = all_listed c.arguments.invariant.listed (c.is_symbol.ensures.no c.arguments-test.false)
