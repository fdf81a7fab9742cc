use Rattle.std.proofs.Common.{ℕ, ◌≤◌, List, arith}
use Rattle.xc_tree.specs.HashLines as spec
use Rattle.xc_tree.specs.HashLines.{stop, step}
use Rattle.xc_lexer.specs.declared.lines.Ending.{Ending}
use Rattle.xc_lexer.specs.declared.lines.Ending.TheVariants.{At, Unclosed}
use Rattle.xc_lexer.specs.Lines.{StopIs, TailIs}
use Rattle.xc_lexer.proofs.Forms.{step_on}
use Rattle.xc_lexer.proofs.lines.tail.Goals as goal

ended : (text : List ℕ) (from here : ℕ) (x : Ending) → ((j : ℕ) (e : spec.Ending) → spec.Tail text here j e → spec.Tail text from j e) → from ≤ here → StopIs text here x → TailIs text from x
ended text from here (At j) back h a = (back j spec.ends (stop a.0), omega (arith, a.1), a.2)
ended text from here (Unclosed p) back h a = (here, back _ _ (stop a.0), h, a.1, a.2)

pub tail-preserved : goal.tail-preserved
tail-preserved c =
    let w = c.in-On.ensures in
    record {
      place = w.2;
      after = omega (arith, w.1, c.tail.invariant.after);
      back = λ j e t. c.tail.invariant.back j e (step w.0 t);
      forth = λ j e t. step_on w.0 (c.tail.invariant.forth j e t);
    }

pub returns-in-Stop-clause-some : goal.returns-in-Stop-clause-some
returns-in-Stop-clause-some c =
    ended c.args.text.now c.args.form_end.at c.tail.here.at c.in-Stop.ending c.tail.invariant.back c.tail.invariant.after c.in-Stop.ensures
