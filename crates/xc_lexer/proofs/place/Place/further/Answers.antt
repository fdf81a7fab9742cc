use Rattle.std.proofs.Common.{◌≡◌, ap, ◌∙◌, arith, length-take, length-drop, ℕ}
use Rattle.xw_words.specs.declared.pos.Pos.{Pos}
use Rattle.xc_tree.specs.Bytes.{part}
use Rattle.xc_tree.specs.Places.{pos_at, pos_behind}
use Rattle.xc_lexer.specs.declared.place.Place.{Place}
use Rattle.xc_lexer.proofs.Spans.{line_within, col_within, pos_on}
use Rattle.xc_lexer.proofs.place.Place.further.Goals as goal

pub pos_behind-requires-clause-line : goal.pos_behind-requires-clause-line
pos_behind-requires-clause-line c =
    let h = line_within c.args.text.now c.args.self.at in
    let e = ap (λ p. p.line) c.requires.is_in.pos in
    omega (arith, length-take {A = ℕ}, length-drop {A = ℕ}, c.requires.is_in.short, c.requires.is_in.within)

pub pos_behind-requires-clause-col : goal.pos_behind-requires-clause-col
pos_behind-requires-clause-col c =
    let h = col_within c.args.text.now c.args.self.at in
    let e = ap (λ p. p.col) c.requires.is_in.pos in
    omega (arith, length-take {A = ℕ}, length-drop {A = ℕ}, c.requires.is_in.short, c.requires.is_in.within)

pub returns : goal.returns
returns c =
    let e = pos_on c.args.text.now c.args.self.at c.args.end c.requires.end in
    let f : c.pos_behind.result ≡ pos_at c.args.text.now c.args.end = c.pos_behind.ensures ∙ ap (λ p. pos_behind p (part c.args.text.now c.args.self.at c.args.end)) c.requires.is_in.pos ∙ e in
    let make : Pos → Place = λ p. record { at = c.args.end; pos = p } in
    ap make f
