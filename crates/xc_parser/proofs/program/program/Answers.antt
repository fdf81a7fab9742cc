use Rattle.std.proofs.Common.{◌≡◌, length, map, option_map, Some, None, subst, arith}
use Rattle.std.proofs.lemmas.List.{map_push}
use Rattle.xc_tree.specs.Derives.{deepest}
use Rattle.xc_tree.specs.Symbol as symbol
use Rattle.xc_tree.specs.Trees.{item_of}
use Rattle.xc_nonterminals.specs.Reading.{Reads}
use Rattle.xc_nonterminals.proofs.Reading.Exits.{handed_on}
use Rattle.xc_nonterminals.proofs.Derivations.Cuts.{one_of_within}
use Rattle.xc_nonterminals.proofs.Reading.Items.{gathers_none, one_item, one_prototype, no_item, item_stops}
use Rattle.xc_parser.proofs.program.program.Goals as goal

pub items-init : goal.items-init
items-init c = record { within = omega arith; gathers = rw c.new-items.ensures gathers_none }

pub returns-in_err-value-clause-stopped : goal.returns-in_err-value-clause-stopped
returns-in_err-value-clause-stopped c =
    handed_on _ c.from_residual.result c.from_residual.ensures.1
    (item_stops c.items.invariant.gathers _ (omega arith) c.in_err-value.ensures.stopped)

pub items-preserved-in_ok-push-in-Some : goal.items-preserved-in_ok-push-in-Some
items-preserved-in_ok-push-in-Some c =
    let toks = c.args.parser.now.toks.now in
    let e : c.in_ok-value.field-0.value ≡ Some c.in-Some.item = cc in
    let r = subst (λ v. Reads toks deepest symbol.item c.items.end c.in_ok-value.field-0.end (option_map item_of v)) e c.in_ok-value.ensures.read in
    record {
      within = c.in_ok-value.ensures.bounds.1;
      gathers = rw (c.in_ok-push-in-Some.ensures.ok, map_push) (one_item c.items.invariant.gathers r);
    }

pub items-preserved : goal.items-preserved
items-preserved c =
    let toks = c.args.parser.now.toks.now in
    let e : c.in_ok-value.field-0.value ≡ None = cc in
    let r = subst (λ v. Reads toks deepest symbol.item c.items.end c.in_ok-value.field-0.end (option_map item_of v)) e c.in_ok-value.ensures.read in
    record {
      within = c.in_ok-value.ensures.bounds.1;
      gathers = one_prototype c.items.invariant.gathers r;
    }

pub returns-clause-read : goal.returns-clause-read
returns-clause-read c =
    let toks = c.args.parser.now.toks.now in
    let h = c.items.invariant.within in
    let e : c.items.end ≡ length toks = omega arith in
    subst (λ n. Reads toks deepest symbol.program 0 n (map item_of c.items.items)) e
    (no_item c.items.invariant.gathers (λ o. let l = one_of_within o in absurd (omega arith)))
