use Rattle.std.proofs.Common.{◌<◌, ◌^◌, length, arith}
use Rattle.xt_programs.proofs.Reading.{of_text}
use Rattle.xt_programs.proofs.texts.tree_of.Goals as goal

pub returns-in-Ok-parse-clause-text : goal.returns-in-Ok-parse-clause-text
returns-in-Ok-parse-clause-text c =
    let count = c.len.ensures in
    let most = c.if-len-gt-MOST.false in
    let few : length c.in-Ok.toks < 2 ^ 32 = omega (arith, count, most) in
    of_text c.in-Ok.ensures.tokens c.in-Ok.ensures.rising few c.in-Ok-parse.ensures.tree
