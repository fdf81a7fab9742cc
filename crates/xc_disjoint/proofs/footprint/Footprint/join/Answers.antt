use Rattle.xc_disjoint.proofs.Sets.{on_ok, joins}
use Rattle.xc_disjoint.proofs.footprint.Footprint.join.Goals as goal

pub returns : goal.returns
returns c =
    on_ok c.insert_all-4.result
    (λ e. joins c.args.self.now (record { used = c.insert_all.new.numbers; changed = c.insert_all-2.new.numbers; ports = c.insert_all-3.new.numbers; timers = c.insert_all-4.new.numbers }) c.args.other.now c.in_ok-insert_all.ensures c.in_ok-insert_all-2.ensures c.in_ok-insert_all-3.ensures e)
    c.insert_all-4.ensures
