use Rattle.std.proofs.Common.{ℕ, ◌+◌, ◌∷◌, ◌++◌, [], sym, ap, ◌∙◌, arith, length-take, length-drop}
use Rattle.xw_words.specs.declared.pos.Pos.{Pos}
use Rattle.xc_tree.specs.declared.token.Tok.{Tok}
use Rattle.xc_tree.specs.declared.token.Kind.TheVariants.{Num}
use Rattle.xc_tree.specs.declared.lexing.Start.TheVariants.{Digit}
use Rattle.xc_tree.specs.declared.lexing.Reading.TheVariants.{Formless, TooLarge, Fine}
use Rattle.xc_tree.specs.Bytes.{byte}
use Rattle.xc_tree.specs.Pieces.{number_token, go_on}
use Rattle.xc_lexer.specs.Steps.{stand}
use Rattle.xc_lexer.proofs.Spans.{longer, inside}
use Rattle.xc_lexer.proofs.Pieces.{starts_digit}
use Rattle.xc_lexer.proofs.Outcomes.{went, broken_here, number_piece}
use Rattle.xc_lexer.proofs.lexer.number.Goals as goal

pub read-requires : goal.read-requires
read-requires c =
    let text = c.args.text.now in
    let at = c.args.state.now.place.at in
    let h = longer c.run_end-end.ensures.span (starts_digit (byte text at) (byte text (at + 1)) c.requires.starts) in
    omega (arith, length-take {A = ℕ}, length-drop {A = ℕ}, c.run_end-end.ensures.within)

pub returns-in-Formless-clause-broken : goal.returns-in-Formless-clause-broken
returns-in-Formless-clause-broken c =
    let text = c.args.text.now in
    let state = c.args.state.now in
    broken_here text state [] 106 (go_on (stand state) c.run_end-end.result) c.broken.result c.broken.ensures c.requires.place (inside text state.place.at Digit c.requires.starts (λ e. cc))
    (number_piece text (stand state) c.run_end-end.result Formless c.requires.starts c.run_end-end.ensures.span (sym c.in-Formless.ensures))

pub returns-in-TooLarge-clause-broken : goal.returns-in-TooLarge-clause-broken
returns-in-TooLarge-clause-broken c =
    let text = c.args.text.now in
    let state = c.args.state.now in
    broken_here text state [] 102 (go_on (stand state) c.run_end-end.result) c.broken-in-TooLarge.result c.broken-in-TooLarge.ensures c.requires.place (inside text state.place.at Digit c.requires.starts (λ e. cc))
    (number_piece text (stand state) c.run_end-end.result TooLarge c.requires.starts c.run_end-end.ensures.span (sym c.in-TooLarge.ensures))

pub returns-in_ok-push-in-Fine-clause-went : goal.returns-in_ok-push-in-Fine-clause-went
returns-in_ok-push-in-Fine-clause-went c =
    let text = c.args.text.now in
    let state = c.args.state.now in
    let n = c.in-Fine.number in
    let tok : Pos → Tok = λ p. record { kind = Num n.value n.is_unsigned; pos = p } in
    went text state c.go_on.new.state (number_token text state.place.at (Fine n)) c.args.toks.now c.push.new.self c.run_end-end.result _ _ c.go_on.ensures.is c.requires.place.short
    (number_piece text (stand state) c.run_end-end.result (Fine n) c.requires.starts c.run_end-end.ensures.span (sym c.in-Fine.ensures))
    (c.in_ok-push-in-Fine.ensures.ok ∙ ap (λ p. c.args.toks.now ++ tok p ∷ []) c.requires.place.pos) c.run_end-end.ensures.within
