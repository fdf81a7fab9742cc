use Rattle.std.proofs.Common.{rules, ◌≡◌, false, string_bytes}
use Rattle.std.specs.Prelude.{bytes_eq, codes}
use Rattle.xr_driver.proofs.OtherWords.{means_nothing}
use Rattle.xr_driver.proofs.words.meaning.Goals as goal

pub returns-in-len3-up : goal.returns-in-len3-up
returns-in-len3-up c =
    let other : bytes_eq (string_bytes c.word-item.result) (codes "run") ≡ false = search rules in
    means_nothing string_bytes _ _ _ c.in-len1-up.len_at_least c.word-item.is other c.in-len3-up.len_at_least
