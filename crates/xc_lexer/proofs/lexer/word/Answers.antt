use Rattle.std.proofs.Common.{◌≡◌, [], ◌∷◌, ◌++◌, refl, ap, ◌∙◌}
use Rattle.xw_words.specs.declared.pos.Pos.{Pos}
use Rattle.xc_tree.specs.declared.token.Tok.{Tok}
use Rattle.xc_tree.specs.declared.token.Kind.{Kind}
use Rattle.xc_tree.specs.declared.lexing.Start.TheVariants.{Letter}
use Rattle.xc_tree.specs.Bytes.{part}
use Rattle.xc_tree.specs.Places.{pos_at}
use Rattle.xc_tree.specs.Pieces.{token, kind_of_word, go_on}
use Rattle.xc_lexer.specs.Names.{numbers_of}
use Rattle.xc_lexer.specs.Steps.{stand}
use Rattle.xc_lexer.proofs.Outcomes.{piece_by, went}
use Rattle.xc_lexer.proofs.lexer.word.Goals as goal

pub returns-clause-went : goal.returns-clause-went
returns-clause-went c =
    let text = c.args.text.now in
    let state = c.args.state.now in
    let at = state.place.at in
    let end = c.run_end-end.result in
    let kind : Kind = kind_of_word (numbers_of state.names) (part text at end) in
    let tok : Kind → Pos → Tok = λ k p. record { kind = k; pos = p } in
    let same : tok c.in_ok-kind.kind state.place.pos ≡ tok kind (pos_at text at) = (λ i. tok (c.in_ok-kind.ensures i) (c.requires.place.pos i)) in
    went text state c.go_on.new.state (token text at kind) c.args.toks.now c.push.new.self end _ _ c.go_on.ensures.is c.requires.place.short
    (piece_by text (stand state) (go_on (stand state) end) (token text at kind) [] Letter c.requires.starts (end, c.run_end-end.ensures.span, refl, refl, refl))
    (c.in_ok-push.ensures.ok ∙ ap (λ t. c.args.toks.now ++ t ∷ []) same) c.run_end-end.ensures.within
