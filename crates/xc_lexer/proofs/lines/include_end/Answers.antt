use Rattle.std.proofs.Common.{subst, ℕ, ◌+◌}
use Rattle.xc_tree.specs.Bytes.{Span, is_blank}
use Rattle.xc_lexer.proofs.Forms.{no_include, none_map}
use Rattle.xc_lexer.proofs.lines.include_end.Goals as goal

pub returns-clause-none : goal.returns-clause-none
returns-clause-none c =
    let at = c.blanks_end-header_at.result in
    let blanks : Span is_blank c.args.text.now (c.args.at + 8) at = subst (λ (n : ℕ). Span is_blank c.args.text.now n at) c.in_ok-opened.ensures.some.1 c.blanks_end-header_at.ensures.span in
    none_map c.header_end.result (no_include blanks) c.header_end.ensures.none
