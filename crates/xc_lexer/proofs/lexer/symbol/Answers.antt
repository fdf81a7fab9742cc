use Rattle.std.proofs.Common.{◌+◌, [], ◌∷◌, ◌++◌, inl, inr, refl, ap, ◌∙◌}
use Rattle.xw_words.specs.declared.pos.Pos.{Pos}
use Rattle.xc_tree.specs.declared.token.Tok.{Tok}
use Rattle.xc_tree.specs.declared.token.Kind.TheVariants.{Sym}
use Rattle.xc_tree.specs.declared.lexing.Start.TheVariants.{Other}
use Rattle.xc_tree.specs.Pieces.{fault, token, go_on}
use Rattle.xc_lexer.specs.Steps.{stand}
use Rattle.xc_lexer.proofs.Outcomes.{piece_by, went, broken_here}
use Rattle.xc_lexer.proofs.lexer.symbol.Goals as goal

pub returns-in_default-clause-broken : goal.returns-in_default-clause-broken
returns-in_default-clause-broken c =
    let text = c.args.text.now in
    let state = c.args.state.now in
    let after = go_on (stand state) (state.place.at + 1) in
    broken_here text state [] 101 after c.broken.result c.broken.ensures c.requires.place c.requires.more
    (piece_by text (stand state) after [] (fault 101 state.place.at) Other c.requires.starts (inr (c.in_default.ensures.none, refl, refl, refl)))

pub returns-clause-went : goal.returns-clause-went
returns-clause-went c =
    let text = c.args.text.now in
    let state = c.args.state.now in
    let k = c.in-Some.place in
    let end = c.in-Some.end in
    let a = c.in-Some.ensures.some in
    let tok : Pos → Tok = λ p. record { kind = Sym k; pos = p } in
    went text state c.go_on.new.state (token text state.place.at (Sym k)) c.args.toks.now c.push.new.self end _ _ c.go_on.ensures.is c.requires.place.short
    (piece_by text (stand state) (go_on (stand state) end) (token text state.place.at (Sym k)) [] Other c.requires.starts (inl (end, k, a, refl, refl, refl)))
    (c.in_ok-push.ensures.ok ∙ ap (λ p. c.args.toks.now ++ tok p ∷ []) c.requires.place.pos) a.within
