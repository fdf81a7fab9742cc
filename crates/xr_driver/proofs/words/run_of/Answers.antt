use Rattle.std.proofs.Common.{rules, ◌≡◌, true, false, string_bytes}
use Rattle.xr_driver.specs.Command.{is_operand}
use Rattle.xr_driver.proofs.RunWords.{no_option, operand_next, option_next, too_many}
use Rattle.xr_driver.proofs.words.run_of.Goals as goal

pub returns-in_err-operands : goal.returns-in_err-operands
returns-in_err-operands c =
    let is : is_operand (string_bytes c.word-item.result) ≡ true = search rules in
    rw c.from_residual.ensures
    (too_many string_bytes _ _ _ _ _ _ c.in-len1-up.len_at_least c.word-item.is c.words.invariant is c.in_err-operands.ensures)

pub words-preserved-then-names_file : goal.words-preserved-then-names_file
words-preserved-then-names_file c =
    let is : is_operand (string_bytes c.word-item.result) ≡ true = search rules in
    let more = rw c.as_str.ensures.value at c.in_ok-operands.ensures in
    operand_next string_bytes _ _ _ _ _ _ c.in-len1-up.len_at_least c.word-item.is c.words.invariant _ is more

pub words-preserved : goal.words-preserved
words-preserved c =
    let other : is_operand (string_bytes c.word-item.result) ≡ false = search rules in
    option_next string_bytes _ _ _ _ _ _ c.in-len1-up.len_at_least c.word-item.is c.words.invariant _ _ c.in-len1-up-behind.len_at_least
    c.number-item.is other _ (search rules)

pub returns-in_err-told : goal.returns-in_err-told
returns-in_err-told c =
    let other : is_operand (string_bytes c.word-item.result) ≡ false = search rules in
    rw c.from_residual-in_err-told.ensures
    (no_option string_bytes _ _ _ _ _ _ c.in-len1-up.len_at_least c.word-item.is c.words.invariant _ _ c.in-len1-up-behind.len_at_least
    c.number-item.is other (search rules))
