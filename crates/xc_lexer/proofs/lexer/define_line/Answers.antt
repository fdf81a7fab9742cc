use Rattle.std.proofs.Common.{◌++◌, [], None, Some, false, refl, sym, ap, subst, ◌∙◌, length, arith, append-nil}
use Rattle.xc_tree.specs.declared.lexing.Reading.TheVariants.{Formless, TooLarge, Fine}
use Rattle.xc_tree.specs.Numbers.{reading}
use Rattle.xc_tree.specs.Bytes.{part}
use Rattle.xc_tree.specs.HashLines.{ends, unclosed}
use Rattle.xc_tree.specs.Pieces.{Numbers, number_faults, ending_faults, Piece}
use Rattle.xc_lexer.specs.Lines.{TailIs}
use Rattle.xc_tree.specs.Refusals.{IfBroken}
use Rattle.xc_lexer.specs.Steps.{stand, FirstOf}
use Rattle.xc_lexer.proofs.Forms.{no_some}
use Rattle.xc_lexer.proofs.Pieces.{each_append, each_map, number_after, From}
use Rattle.xc_lexer.proofs.Outcomes.{Ended, ended, later_than, define_piece, breaks, went, some_of}
use Rattle.xc_lexer.proofs.lexer.define_line.Goals as goal

pub returns-then-is_some-clause-broken : goal.returns-then-is_some-clause-broken
returns-then-is_some-clause-broken c =
    let text = c.args.text.now in
    let state = c.args.state.now in
    let line = c.args.line in
    let form = c.requires.form in
    let e = ended text line.end c.args.ending c.requires.ending in
    let n = some_of c.number.result (sym c.is_some.ensures ∙ c.if-is_some.true) in
    let r = reading (part text line.number_at line.end) in
    let p = define_piece text (stand state) line.name.now line.number_at line.end e (Some n.0) r c.requires.starts c.requires.at_line_start form.form (sym c.number.ensures ∙ n.1) refl in
    let later = each_append (From line.number_at) (number_faults line.number_at r) (ending_faults e.ending) (number_after line.number_at line.number_at r (omega arith)) (each_map (From line.end) (From line.number_at) (ending_faults e.ending) (λ g h. omega (arith, form.some)) e.later) in
    subst (λ x. IfBroken x (λ b. FirstOf text state b)) (sym c.broken.ensures)
    (breaks text state [] 104 state.place.at (number_faults line.number_at r ++ ending_faults e.ending) _ (record { rule = 104; pos = state.place.pos }) (ap (λ p. record { rule = 104; pos = p }) c.requires.place.pos) p
    (later_than 104 state.place.at line.number_at (number_faults line.number_at r ++ ending_faults e.ending) form.number later) (omega (arith, form.number, form.some, form.within)) (omega (arith, form.number, form.some, e.after)))

pub returns-in-Formless-clause-broken : goal.returns-in-Formless-clause-broken
returns-in-Formless-clause-broken c =
    let text = c.args.text.now in
    let state = c.args.state.now in
    let line = c.args.line in
    let form = c.requires.form in
    let e = ended text line.end c.args.ending c.requires.ending in
    let none = no_some c.number.result (sym c.is_some.ensures ∙ c.if-is_some.false) in
    let p = define_piece text (stand state) line.name.now line.number_at line.end e None Formless c.requires.starts c.requires.at_line_start form.form (sym c.number.ensures ∙ none) (sym c.in-Formless.ensures) in
    subst (λ x. IfBroken x (λ b. FirstOf text state b)) (sym c.broken-in-Formless.ensures)
    (breaks text state [] 106 line.number_at (ending_faults e.ending) _ (record { rule = 106; pos = c.further.result.pos }) (ap (λ x. record { rule = 106; pos = x.pos }) c.further.ensures) p
    (later_than 106 line.number_at line.end (ending_faults e.ending) form.some e.later) (omega (arith, form.some, form.within)) (omega (arith, form.some, e.after)))

pub returns-in-TooLarge-clause-broken : goal.returns-in-TooLarge-clause-broken
returns-in-TooLarge-clause-broken c =
    let text = c.args.text.now in
    let state = c.args.state.now in
    let line = c.args.line in
    let form = c.requires.form in
    let e = ended text line.end c.args.ending c.requires.ending in
    let none = no_some c.number.result (sym c.is_some.ensures ∙ c.if-is_some.false) in
    let p = define_piece text (stand state) line.name.now line.number_at line.end e None TooLarge c.requires.starts c.requires.at_line_start form.form (sym c.number.ensures ∙ none) (sym c.in-TooLarge.ensures) in
    subst (λ x. IfBroken x (λ b. FirstOf text state b)) (sym c.broken-in-TooLarge.ensures)
    (breaks text state [] 102 line.number_at (ending_faults e.ending) _ (record { rule = 102; pos = c.further-in-TooLarge.result.pos }) (ap (λ x. record { rule = 102; pos = x.pos }) c.further-in-TooLarge.ensures) p
    (later_than 102 line.number_at line.end (ending_faults e.ending) form.some e.later) (omega (arith, form.some, form.within)) (omega (arith, form.some, e.after)))

pub returns-in_ok-define-in-At-clause-went : goal.returns-in_ok-define-in-At-clause-went
returns-in_ok-define-in-At-clause-went c =
    let text = c.args.text.now in
    let state = c.args.state.now in
    let line = c.args.line in
    let form = c.requires.form in
    let a = subst (TailIs text line.end) c.in-At.is c.requires.ending in
    let e : Ended text line.end = record { at = c.in-At.end; ending = ends; tail = a.0; after = a.1; later = tt } in
    let none = no_some c.number.result (sym c.is_some.ensures ∙ c.if-is_some.false) in
    let p = define_piece text (stand state) line.name.now line.number_at line.end e None (Fine c.in-Fine.number) c.requires.starts c.requires.at_line_start form.form (sym c.number.ensures ∙ none) (sym c.in-Fine.ensures) in
    let q = subst (λ (x : Numbers). Piece text (stand state) [] [] (record { at = c.in-At.end; fresh = false; numbers = x })) (sym c.in_ok-define-in-At.ensures.ok) p in
    went text state c.go_on.new.state [] c.args.toks.now c.args.toks.now c.in-At.end false c.define.new.self c.go_on.ensures.is c.requires.place.short q (sym (append-nil c.args.toks.now)) a.2

pub returns-in-Unclosed-clause-broken : goal.returns-in-Unclosed-clause-broken
returns-in-Unclosed-clause-broken c =
    let text = c.args.text.now in
    let state = c.args.state.now in
    let line = c.args.line in
    let form = c.requires.form in
    let a = subst (TailIs text line.end) c.in-Unclosed.is c.requires.ending in
    let e : Ended text line.end = record { at = length text; ending = unclosed a.0; tail = a.1; after = omega (arith, a.2, a.3); later = (a.2, tt) } in
    let none = no_some c.number.result (sym c.is_some.ensures ∙ c.if-is_some.false) in
    let p = define_piece text (stand state) line.name.now line.number_at line.end e None (Fine c.in-Fine.number) c.requires.starts c.requires.at_line_start form.form (sym c.number.ensures ∙ none) (sym c.in-Fine.ensures) in
    subst (λ x. IfBroken x (λ b. FirstOf text state b)) (sym c.broken-in-Unclosed.ensures)
    (breaks text state [] 103 a.0 [] _ (record { rule = 103; pos = c.in-Unclosed.pos }) (ap (λ x. record { rule = 103; pos = x }) a.4) p tt a.3 a.3)
