use Rattle.std.proofs.Common.{[], inl, refl, sym, ap, subst, length}
use Rattle.xc_tree.specs.HashLines.{unclosed}
use Rattle.xc_tree.specs.Pieces.{fault, go_on}
use Rattle.xc_lexer.specs.Lines.{TailIs}
use Rattle.xc_tree.specs.Refusals.{IfBroken}
use Rattle.xc_lexer.specs.Steps.{stand, FirstOf}
use Rattle.xc_lexer.proofs.Outcomes.{hash_line, breaks}
use Rattle.xc_lexer.proofs.lexer.include_line.Goals as goal

pub returns-in-Unclosed-clause-broken : goal.returns-in-Unclosed-clause-broken
returns-in-Unclosed-clause-broken c =
    let text = c.args.text.now in
    let state = c.args.state.now in
    let a = subst (TailIs text c.args.form_end) c.in-Unclosed.is c.requires.ending in
    let after = go_on (stand state) (length text) in
    let p = hash_line text (stand state) after (fault 103 a.0) c.requires.starts c.requires.at_line_start (inl (c.args.form_end, length text, unclosed a.0, c.requires.form, a.1, refl, refl)) in
    subst (λ e. IfBroken e (λ b. FirstOf text state b)) (sym c.broken.ensures)
    (breaks text state [] 103 a.0 [] after (record { rule = 103; pos = c.in-Unclosed.pos }) (ap (λ p. record { rule = 103; pos = p }) a.4) p tt a.3 a.3)
