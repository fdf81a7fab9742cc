use Rattle.std.proofs.Common.{◌≡◌, List, length, map, Bor, subst, sym, ap, ◌∙◌, arith}
use Rattle.std.proofs.lemmas.List.{length-map}
use Rattle.xc_tree.specs.declared.tree.FuncItem.{FuncItem}
use Rattle.xc_kernel.specs.Programs.{Function}
use Rattle.xc_tree.specs.Trees as tree
use Rattle.xc_size.specs.Functions.{function_of}
use Rattle.xc_size.specs.Known.{AreKnown, IsSizeOfBody, listed}
use Rattle.xc_size.specs.Numbers.{number_of}
use Rattle.xc_size.proofs.CalledParts.{statement}
use Rattle.xc_size.proofs.Right.{all_known, all_at, body_is}
use Rattle.xc_size.proofs.filling.whole_size.Goals as goal

pub returns-then-branch : goal.returns-then-branch
returns-then-branch c =
    let known = subst (AreKnown c.add_in_order.new.sizes.each) (statement (number_of c.add_in_order.new.sizes.names) (tree.statement_of c.args.body.now)) (c.in_ok-are_known.ensures c.if-branch.true) in
    let count : length c.args.sizes.now.all ≡ length (listed c.add_in_order.new.sizes) = sym (ap length c.in_ok-add_in_order.ensures.all) ∙ sym (length-map c.add_in_order.new.sizes.all (λ (f : Bor FuncItem). function_of f.now)) in
    subst (λ (fs : List Function). IsSizeOfBody fs (tree.statement_of c.args.body.now) c.statement.result) (ap (map (λ (f : Bor FuncItem). function_of f.now)) c.in_ok-add_in_order.ensures.all)
    (body_is c.add_in_order.new.sizes (length c.args.sizes.now.all) (tree.statement_of c.args.body.now) c.statement.result count
    (all_known c.add_in_order.new.sizes (length c.args.sizes.now.all) (length c.args.sizes.now.all) _ c.in_ok-add_in_order.ensures.functions c.in_ok-add_in_order.ensures.right (omega arith) known)
    c.statement.ensures.statements c.statement.ensures.nodes c.statement.ensures.depth)

pub returns : goal.returns
returns c =
    let all : c.add_by_rounds.new.sizes.all ≡ c.args.sizes.now.all = c.in_ok-add_by_rounds.ensures.all ∙ c.in_ok-add_in_order.ensures.all in
    let count : length c.add_in_order.new.sizes.all ≡ length (listed c.add_by_rounds.new.sizes) = sym (ap length c.in_ok-add_by_rounds.ensures.all) ∙ sym (length-map c.add_by_rounds.new.sizes.all (λ (f : Bor FuncItem). function_of f.now)) in
    subst (λ (fs : List Function). IsSizeOfBody fs (tree.statement_of c.args.body.now) c.statement-2.result) (ap (map (λ (f : Bor FuncItem). function_of f.now)) all)
    (body_is c.add_by_rounds.new.sizes (length c.add_in_order.new.sizes.all) (tree.statement_of c.args.body.now) c.statement-2.result count
    (all_at c.add_by_rounds.new.sizes (length c.add_in_order.new.sizes.all) _ c.in_ok-add_by_rounds.ensures.functions c.in_ok-add_by_rounds.ensures.right)
    c.statement-2.ensures.statements c.statement-2.ensures.nodes c.statement-2.ensures.depth)
