use Rattle.std.proofs.Common.{[], inr, refl, length, arith}
use Rattle.xc_tree.specs.declared.lexing.Start.TheVariants.{BlockComment}
use Rattle.xc_tree.specs.Pieces.{fault, go_on}
use Rattle.xc_lexer.specs.Steps.{stand}
use Rattle.xc_lexer.proofs.Outcomes.{piece_by, broken_here}
use Rattle.xc_lexer.proofs.lexer.comment.Goals as goal

pub returns-in_default-clause-broken : goal.returns-in_default-clause-broken
returns-in_default-clause-broken c =
    let text = c.args.text.now in
    let state = c.args.state.now in
    broken_here text state [] 103 (go_on (stand state) (length text)) c.broken.result c.broken.ensures c.requires.place (omega (arith, c.requires.room))
    (piece_by text (stand state) (go_on (stand state) (length text)) [] (fault 103 state.place.at) BlockComment c.requires.starts (inr (c.in_default.ensures.open, refl, refl, refl)))
