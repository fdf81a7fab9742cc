use Rattle.std.proofs.Common.{sym, subst}
use Rattle.xs_core.proofs.Delivered.{delivered}
use Rattle.xs_core.proofs.one_core.Core.deliver.Goals as goal
use Rattle.xs_core.specs.Core.{Seen}
use Rattle.xs_core.specs.Deliver.{HasRoomFrom}

pub invariant_of-self : goal.invariant_of-self
invariant_of-self c =
    let room = subst (λ (v : Seen). HasRoomFrom v.home v.state.ends c.args.moved) (sym c.self.view_is) c.requires in
    record {
      order = delivered c.self.inside.state c.arrive.new.ends c.args.moved c.self.invariant.order room c.arrive.ensures;
      room = c.self.invariant.room;
      few = c.self.invariant.few;
      unused = c.self.invariant.unused;
    }
