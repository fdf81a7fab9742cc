use Rattle.xc_lexer.proofs.Rows.{tokens_one}
use Rattle.xc_lexer.proofs.laws.one_list_of_tokens.Goals as goal

pub returns : goal.returns
returns c = tokens_one c.args.text.now
