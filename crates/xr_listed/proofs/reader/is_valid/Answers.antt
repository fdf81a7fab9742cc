use Rattle.std.proofs.Common.{rules}
use Rattle.xr_listed.proofs.NoFifth.{valid_of}
use Rattle.xr_listed.proofs.reader.is_valid.Goals as goal

pub returns-then-are_good_pairs : goal.returns-then-are_good_pairs
returns-then-are_good_pairs c = valid_of c.args.image.now c.as_slice-cores.result.now c.as_slice-chans.result.now c.are_all_once.result c.as_slice-cores.ensures c.as_slice-chans.ensures (search rules) c.if-not-are_good_cores.ensures c.if-are_good_pairs.ensures c.are_all_once.ensures
