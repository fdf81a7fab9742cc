use Rattle.std.proofs.Common.{ℕ, option_map, slice_get, sym, ap, ◌∙◌}
use Rattle.std.specs.Option.{option_copied}
use Rattle.xc_tree.specs.Trees as tree
use Rattle.xc_tree.specs.Types.Named.{named_of, function_of, what_at}
use Rattle.xc_types.specs.Enclosing.{around_of}
use Rattle.xc_types.specs.Judged.{with_call}
use Rattle.xc_types.proofs.Judging.{whole_call}
use Rattle.xc_types.proofs.calls.right_side.Goals as goal

pub returns-in_ok-judged-in-Call : goal.returns-in_ok-judged-in-Call
returns-in_ok-judged-in-Call c =
    let n = named_of c.args.named.now in
    let around = around_of c.args.around.now in
    let called = option_copied c.function_of-called.result in
    let number = ap (λ (k : ℕ). with_call around (option_map tree.head_of called) k c.in_ok-judged-in-Call.judged c.args.is_right_side c.in-Call.pos c.arguments.new.found) c.len.ensures in
    let whole = whole_call n c.args.found.now around c.args.is_right_side (record { text = c.in-Call.name; pos = c.in-Call.pos }) c.in-Call.args called c.pass.new.self c.arguments.new.found c.in_ok-judged-in-Call.judged
    (c.function_of-called.ensures ∙ ap (function_of n) (c.what_of.ensures ∙ ap (λ (k : ℕ). what_at n (slice_get n.uses k)) c.count.ensures))
    c.in_ok-pass-in-Call.ensures
    (rw (sym c.params_of.ensures, sym c.as_slice.ensures) c.in_ok-judged-in-Call.ensures.found)
    (rw (sym c.params_of.ensures, sym c.as_slice.ensures) c.in_ok-judged-in-Call.ensures.judged) in
    rw c.in-Call.is (c.judge_call.ensures ∙ number ∙ whole)
