use Rattle.std.proofs.Common.{length, ◌-◌}
use Rattle.xc_lexer.specs.Places.{IsPlace}
use Rattle.xc_lexer.specs.Steps.{stand}
use Rattle.xc_lexer.proofs.Rows.{SoFar}
use Rattle.xc_lexer.proofs.lexer.lex.Given as goal

abbrev pub invariant-pieces : goal.invariant-pieces
invariant-pieces l = record {
  place : IsPlace l.text l.state.place;
  so_far : SoFar l.text (stand l.state) l.toks;
}

abbrev pub decreases-pieces : goal.decreases-pieces
decreases-pieces l = length l.text - l.state.place.at
