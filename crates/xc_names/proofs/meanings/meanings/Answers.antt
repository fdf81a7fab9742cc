use Rattle.std.proofs.Common.{length, refl}
use Rattle.xc_names.specs.Latest.{latest_of}
use Rattle.xc_names.proofs.News.{begins, all_read}
use Rattle.xc_names.proofs.meanings.meanings.Goals as goal

pub read_all-requires : goal.read_all-requires
read_all-requires c = rw (c.new.ensures, c.new-2.ensures) (begins _ _ _ c.requires c.in_ok-globals.ensures)

pub returns : goal.returns
returns c = all_read c.args.marks.now c.args.ends.now (latest_of c.read_all.new.walk.latest) c.read_all.new.walk.outer c.read_all.new.walk.meant (length c.args.marks.now) refl c.in_ok-read_all.ensures
