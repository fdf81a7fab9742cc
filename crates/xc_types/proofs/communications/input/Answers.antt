use Rattle.std.proofs.Common.{◌≡◌, ◌∙◌, ℕ, OnOk, ap, slice_get, subst}
use Rattle.xc_tree.specs.Trees as tree
use Rattle.xc_tree.specs.Types.Named.{named_of, what_at}
use Rattle.std.specs.Option.{option_copied}
use Rattle.xc_types.specs.declared.checker.Checker.{Checker}
use Rattle.xc_types.proofs.Talks.{whole_input}
use Rattle.xc_types.proofs.communications.input.Goals as goal

pub returns : goal.returns
returns c =
    subst (λ (s : Checker). OnOk c.target_and_stamp.result (c.target_and_stamp.new.found ≡ s))
    (whole_input (named_of c.args.named.now) c.args.found.now (tree.input_of c.args.head.now) (option_copied c.what_of-what.result) c.is_port-is_port.result c.input_name.new.found c.time.new.found c.condition.new.found
    (c.what_of-what.ensures ∙ ap (λ (k : ℕ). what_at (named_of c.args.named.now) (slice_get c.args.named.now.uses k)) c.count.ensures) c.is_port-is_port.ensures c.in_ok-input_name.ensures c.in_ok-time.ensures c.in_ok-condition.ensures)
    c.target_and_stamp.ensures
