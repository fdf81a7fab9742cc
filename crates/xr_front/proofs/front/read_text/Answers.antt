use Rattle.std.proofs.Common.{sym, subst, arith}
use Rattle.xc_tree.specs.declared.refusal.Refusal.{Refusal}
use Rattle.xc_tree.specs.Parses.{FirstBroken}
use Rattle.xc_tree.specs.Refusals.{IfBroken}
use Rattle.xc_tree.specs.Trees.{program_of}
use Rattle.xc_lexer.proofs.Outcomes.{broken_map}
use Rattle.xc_parser.proofs.Reading.Exits.{handed_on}
use Rattle.xr_front.specs.Rules.{First}
use Rattle.xr_front.proofs.Firsts.{first_in_bytes, first_in_tokens, first_of_form}
use Rattle.xr_front.proofs.Order.{tokens_few}
use Rattle.xr_front.proofs.Reading.{read_as}
use Rattle.xc_today.specs.Today.{IsSupported}
use Rattle.xr_front.proofs.front.read_text.Goals as goal

pub parse-requires : goal.parse-requires
parse-requires c =
    let few = tokens_few c.args.text.now c.in_ok-toks.toks c.in_ok-toks.ensures.tokens in
    let short = c.in_ok-toks.ensures.tokens.short in
    record { short = omega (arith, few, short) }

pub returns-in_err-toks-clause-first : goal.returns-in_err-toks-clause-first
returns-in_err-toks-clause-first c =
    handed_on (λ (e : Refusal). IfBroken e (First c.args.text.now)) c.from_residual.result c.from_residual.ensures.1
    (broken_map _ (first_in_bytes c.args.text.now) c.in_err-toks.ensures.broken)

pub returns-in_err-tree-clause-first : goal.returns-in_err-tree-clause-first
returns-in_err-tree-clause-first c =
    handed_on (λ (e : Refusal). IfBroken e (First c.args.text.now)) c.from_residual-in_err-tree.result c.from_residual-in_err-tree.ensures.1
    (broken_map _
    (λ b first. first_in_tokens c.args.text.now c.in_ok-toks.toks c.in_ok-toks.ensures.tokens b (subst (λ end. FirstBroken c.in_ok-toks.toks end b) c.end_pos.ensures first))
    c.in_err-tree.ensures.broken)

pub returns-then-not-is_supported-clause-first : goal.returns-then-not-is_supported-clause-first
returns-then-not-is_supported-clause-first c =
    first_of_form c.args.text.now c.in_ok-toks.toks c.in_ok-toks.ensures.tokens (program_of c.in_ok-tree.tree) c.in_ok-tree.ensures.tree c.in_ok-tree.ensures.unbroken
    (λ h.
    let t = c.is_supported.ensures.1 (subst IsSupported (sym c.as_slice.ensures) h) in
    let f = c.if-not-is_supported.true in
    absurd (cc))

pub check_tree-requires : goal.check_tree-requires
check_tree-requires c =
    let form = subst IsSupported c.as_slice.ensures (c.is_supported.ensures.0 c.if-not-is_supported.false) in
    let read =
    read_as c.args.text.now c.in_ok-toks.toks (program_of c.in_ok-tree.tree) c.in_ok-toks.ensures.tokens c.in_ok-toks.ensures.rising
    c.in_ok-tree.ensures.tree c.in_ok-tree.ensures.only c.in_ok-tree.ensures.unbroken c.in_ok-tree.ensures.shallow form in
    record { read = (c.args.text.now, read) }

pub returns-clause-accepted : goal.returns-clause-accepted
returns-clause-accepted c =
    let form = subst IsSupported c.as_slice.ensures (c.is_supported.ensures.0 c.if-not-is_supported.false) in
    let read =
    read_as c.args.text.now c.in_ok-toks.toks (program_of c.in_ok-tree.tree) c.in_ok-toks.ensures.tokens c.in_ok-toks.ensures.rising
    c.in_ok-tree.ensures.tree c.in_ok-tree.ensures.only c.in_ok-tree.ensures.unbroken c.in_ok-tree.ensures.shallow form in
    c.check_tree.ensures.accepted c.args.text.now read

pub returns-clause-first : goal.returns-clause-first
returns-clause-first c =
    let form = subst IsSupported c.as_slice.ensures (c.is_supported.ensures.0 c.if-not-is_supported.false) in
    let read =
    read_as c.args.text.now c.in_ok-toks.toks (program_of c.in_ok-tree.tree) c.in_ok-toks.ensures.tokens c.in_ok-toks.ensures.rising
    c.in_ok-tree.ensures.tree c.in_ok-tree.ensures.only c.in_ok-tree.ensures.unbroken c.in_ok-tree.ensures.shallow form in
    c.check_tree.ensures.first c.args.text.now read

pub returns-clause-built : goal.returns-clause-built
returns-clause-built c = c.check_tree.ensures.built
