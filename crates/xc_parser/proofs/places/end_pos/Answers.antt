use Rattle.std.proofs.Common.{◌≡◌, ◌+◌, sym, ap, ◌∙◌, arith, drop}
use Rattle.std.proofs.lemmas.List.{at_drop_all}
use Rattle.std.proofs.Math.Seq.{take-length}
use Rattle.xc_tree.specs.Places.{pos_behind}
use Rattle.xc_nonterminals.proofs.Derivations.Columns.{pos_step, line_feed, no_line_feed}
use Rattle.xc_parser.proofs.places.end_pos.Goals as goal
use Rattle.xc_parser.proofs.places.end_pos.Goals.{then-b-eq10, else-b-eq10}

pub loop-b-preserved : goal.loop-b-preserved
loop-b-preserved c =
    let bs = c.args.text.now in
    let i = c.loop-b.b-index in
    let e = pos_step c.loop-b.end bs i (omega arith) in
    elim c.if-b-eq10.branch [
      | then-b-eq10 w ↦ let l = ap (λ p. p.line) w.end-is in let k = ap (λ p. p.col) w.end-is in record {
        line = omega arith;
        col = omega arith;
        value = ap (λ p. pos_behind p (drop (i + 1) bs)) (w.end-is ∙ line_feed c.loop-b.end _ w.if-b-eq10.true) ∙ sym e ∙ c.loop-b.invariant.value;
      }
      | else-b-eq10 w ↦ let l = ap (λ p. p.line) w.end-is in let k = ap (λ p. p.col) w.end-is in record {
        line = omega arith;
        col = omega arith;
        value = ap (λ p. pos_behind p (drop (i + 1) bs)) (w.end-is ∙ no_line_feed c.loop-b.end _ w.if-b-eq10.false) ∙ sym e ∙ c.loop-b.invariant.value;
      }
    ]

pub returns : goal.returns
unfolding pos_behind
returns c =
    let e : pos_behind c.loop-b.end (drop c.loop-b.b-index c.args.text.now) ≡ c.loop-b.end = at_drop_all (pos_behind c.loop-b.end) c.args.text.now c.loop-b.b-index (omega arith) in
    sym e ∙ c.loop-b.invariant.value ∙ ap (pos_behind (record { line = 1; col = 1 })) (sym (take-length c.args.text.now))
