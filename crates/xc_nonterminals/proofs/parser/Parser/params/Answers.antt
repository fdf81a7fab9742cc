use Rattle.std.proofs.Common.{[], refl, sym, arith}
use Rattle.xc_tree.specs.Symbol as symbol
use Rattle.xc_nonterminals.specs.Follows.{first}
use Rattle.xc_nonterminals.proofs.Reading.Exits.{handed_on}
use Rattle.xc_nonterminals.proofs.Derivations.TokenSets.{one_within}
use Rattle.xc_nonterminals.proofs.Reading.Paths.{begin, over_word, lacks, lacks_word, finish}
use Rattle.xc_nonterminals.proofs.Rests.Opening.{fronts}
use Rattle.xc_nonterminals.proofs.Rests.Unfinished.{unfinished}
use Rattle.xc_nonterminals.proofs.Reading.Rows.{row_stops}
use Rattle.xc_nonterminals.proofs.Reading.Listed.{first_listed, next_listed, next_stops, end_listed}
use Rattle.xc_nonterminals.proofs.Declaring.ParamRows.{row_of_params}
use Rattle.xc_nonterminals.proofs.parser.Parser.params.Goals as goal

pub returns-then-is_word-clause-read : goal.returns-then-is_word-clause-read
returns-then-is_word-clause-read c =
    let on = (c.is_word.ensures.yes c.if-is_word.true).1.1 in
    rw c.new-value.ensures (λ room. finish (over_word (begin refl tt) on refl) refl)

pub returns-then-not-begins_param-clause-read : goal.returns-then-not-begins_param-clause-read
returns-then-not-begins_param-clause-read c =
    let none = c.is_word.ensures.no c.if-is_word.false in
    let no_param = c.begins_param.ensures.no c.if-not-begins_param.true in
    rw c.new-value.ensures (λ room. finish (lacks (first symbol.param) (lacks_word 27 (begin refl tt) none) no_param) refl)

pub returns-in_err-first-clause-stopped : goal.returns-in_err-first-clause-stopped
returns-in_err-first-clause-stopped c =
    let none = c.is_word.ensures.no c.if-is_word.false in
    let one = one_within (fronts symbol.params) refl (c.begins_param.ensures.yes c.if-not-begins_param.false) in
    handed_on _ c.from_residual.result c.from_residual.ensures.1
    (λ room. row_stops row_of_params [] _ (unfinished (lacks_word 27 (begin refl tt) none) one) (c.in_err-first.ensures.stopped room) refl)

pub returns-in_err-push-clause-stopped : goal.returns-in_err-push-clause-stopped
returns-in_err-push-clause-stopped c =
    handed_on _ c.from_residual-in_err-push.result c.from_residual-in_err-push.ensures.1 (λ room. tt)

pub params-init : goal.params-init
params-init c =
    let none = c.is_word.ensures.no c.if-is_word.false in
    let one = one_within (fronts symbol.params) refl (c.begins_param.ensures.yes c.if-not-begins_param.false) in
    record {
      after = c.in_ok-first.ensures.bounds.0;
      within = c.in_ok-first.ensures.bounds.1;
      listed = λ room. first_listed row_of_params (unfinished (lacks_word 27 (begin refl tt) none) one) (c.in_ok-first.ensures.read room) (cc (c.new-value.ensures, c.in_ok-push.ensures.ok));
    }

pub returns-in_err-next-clause-stopped : goal.returns-in_err-next-clause-stopped
returns-in_err-next-clause-stopped c =
    let on = (c.is_symbol.ensures.yes c.params-test.true).1.1 in
    handed_on _ c.from_residual-in_err-next.result c.from_residual-in_err-next.ensures.1
    (λ room. next_stops row_of_params _ (c.params.invariant.listed room) on refl (c.in_err-next.ensures.stopped room))

pub returns-in_err-push-2-clause-stopped : goal.returns-in_err-push-2-clause-stopped
returns-in_err-push-2-clause-stopped c =
    handed_on _ c.from_residual-in_err-push-2.result c.from_residual-in_err-push-2.ensures.1 (λ room. tt)

pub params-preserved : goal.params-preserved
params-preserved c =
    let on = (c.is_symbol.ensures.yes c.params-test.true).1.1 in
    let after = c.params.invariant.after in
    let more = c.in_ok-next.ensures.bounds.0 in
    record {
      after = omega arith;
      within = c.in_ok-next.ensures.bounds.1;
      listed = λ room. next_listed row_of_params (c.params.invariant.listed room) on refl (c.in_ok-next.ensures.read room) (sym c.in_ok-push-2.ensures.ok);
    }

pub returns-clause-read : goal.returns-clause-read
returns-clause-read c =
    let none = c.is_symbol.ensures.no c.params-test.false in
    λ room. finish (end_listed row_of_params (c.params.invariant.listed room) none refl) refl
