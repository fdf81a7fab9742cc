use Rattle.std.proofs.Common.{ℕ, ◌≤◌, ◌-◌, length}
use Rattle.xc_tree.specs.HashLines.{Ending, Tail}
use Rattle.xc_lexer.specs.Places.{IsPlace}
use Rattle.xc_lexer.proofs.lines.tail.Given as goal

abbrev pub invariant-tail : goal.invariant-tail
invariant-tail l = record {
  place : IsPlace l.text l.here;
  after : l.fn.form_end.at ≤ l.here.at;
  back : (j : ℕ) (e : Ending) → Tail l.text l.here.at j e → Tail l.text l.fn.form_end.at j e;
  forth : (j : ℕ) (e : Ending) → Tail l.text l.fn.form_end.at j e → Tail l.text l.here.at j e;
}

abbrev pub decreases-tail : goal.decreases-tail
decreases-tail l = length l.text - l.here.at
