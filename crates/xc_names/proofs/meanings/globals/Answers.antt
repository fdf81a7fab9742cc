use Rattle.xc_names.proofs.News.{no_globals}
use Rattle.xc_names.specs.Latest.{latest_of}
use Rattle.xc_names.proofs.meanings.globals.Goals as goal

pub loop-at-init : goal.loop-at-init
loop-at-init c = no_globals c.args.marks.now (latest_of c.new-latest.result) c.new-latest.ensures
