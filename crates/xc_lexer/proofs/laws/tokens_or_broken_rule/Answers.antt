use Rattle.xc_lexer.proofs.Rows.{tokens_unbroken}
use Rattle.xc_lexer.proofs.laws.tokens_or_broken_rule.Goals as goal

pub returns : goal.returns
returns c = λ toks l b h. tokens_unbroken c.args.text.now toks b l h
