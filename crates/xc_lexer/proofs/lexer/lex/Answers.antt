use Rattle.std.proofs.Common.{true, refl, sym, subst, arith}
use Rattle.xc_tree.specs.Places.{pos_behind}
use Rattle.xc_tree.specs.Pieces.{Numbers, Stand}
use Rattle.xc_tree.specs.Lexes.{beginning}
use Rattle.xc_lexer.proofs.Order.{rise}
use Rattle.xc_lexer.proofs.Outcomes.{broken_map}
use Rattle.xc_lexer.proofs.Rows.{SoFar, start, lexes, tokens_one, tokens_unbroken, went_on, first_broken}
use Rattle.xc_lexer.proofs.lexer.lex.Goals as goal

pub pieces-init : goal.pieces-init
unfolding pos_behind
pieces-init c = record {
  place = record { short = c.if-text-gt-LONGEST.false; within = omega arith; pos = refl };
  so_far =
      let at : Numbers → Stand = λ x. record { at = 0; fresh = true; numbers = x } in
      subst (λ x. SoFar c.args.text.now (at x) c.new-toks.result) (sym c.new.ensures) (subst (SoFar c.args.text.now beginning) (sym c.new-toks.ensures) (start c.args.text.now));
}

pub pieces-preserved : goal.pieces-preserved
pieces-preserved c = went_on c.pieces.invariant.so_far c.in-Ok.ensures.went

pub returns-in-Err-clause-broken : goal.returns-in-Err-clause-broken
returns-in-Err-clause-broken c =
    let k = c.pieces.invariant in
    broken_map c.in-Err.e (λ b w. first_broken k.so_far w k.place.short) c.in-Err.ensures.broken

pub returns-in-Err-clause-none : goal.returns-in-Err-clause-none
returns-in-Err-clause-none c =
    let k = c.pieces.invariant in
    broken_map c.in-Err.e (λ b w v l. tokens_unbroken c.args.text.now v b l (first_broken k.so_far w k.place.short).breaks) c.in-Err.ensures.broken

pub returns-clause-tokens : goal.returns-clause-tokens
returns-clause-tokens c =
    let k = c.pieces.invariant in
    lexes k.so_far k.place.short k.place.within (omega arith)

pub returns-clause-only : goal.returns-clause-only
returns-clause-only c = λ v l.
    let k = c.pieces.invariant in
    tokens_one c.args.text.now v c.pieces.toks l (lexes k.so_far k.place.short k.place.within (omega arith))

pub returns-clause-unbroken : goal.returns-clause-unbroken
returns-clause-unbroken c = λ b h.
    let k = c.pieces.invariant in
    tokens_unbroken c.args.text.now c.pieces.toks b (lexes k.so_far k.place.short k.place.within (omega arith)) h

pub returns-clause-rising : goal.returns-clause-rising
returns-clause-rising c =
    let k = c.pieces.invariant in
    rise c.args.text.now c.pieces.toks (lexes k.so_far k.place.short k.place.within (omega arith))
