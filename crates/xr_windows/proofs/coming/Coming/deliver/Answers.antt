use Rattle.std.proofs.Common.{◌++◌}
use Rattle.xr_windows.proofs.Delivered.{first_room, given_more, next_room}
use Rattle.xr_windows.proofs.coming.Coming.deliver.Goals as goal
use Rattle.xs_fabric.specs.Lockstep.{due_of}

pub deliver_due-requires : goal.deliver_due-requires
deliver_due-requires c =
    let core = c.args.core.now in
    let w = due_of c.args.clock c.args.self.now.from0.items in
    let x = due_of c.args.clock c.args.self.now.from1.items in
    let y = due_of c.args.clock c.args.self.now.from2.items in
    let z = due_of c.args.clock c.args.self.now.from3.items in
    first_room core w x (first_room core (w ++ x) y (first_room core ((w ++ x) ++ y) z c.requires))

pub deliver_due-requires-2 : goal.deliver_due-requires-2
deliver_due-requires-2 c =
    let core = c.args.core.now in
    let w = due_of c.args.clock c.args.self.now.from0.items in
    let x = due_of c.args.clock c.args.self.now.from1.items in
    let y = due_of c.args.clock c.args.self.now.from2.items in
    let z = due_of c.args.clock c.args.self.now.from3.items in
    next_room core c.deliver_due.new.core w x c.deliver_due.ensures.core (first_room core (w ++ x) y (first_room core ((w ++ x) ++ y) z c.requires))

pub deliver_due-requires-3 : goal.deliver_due-requires-3
deliver_due-requires-3 c =
    let core = c.args.core.now in
    let w = due_of c.args.clock c.args.self.now.from0.items in
    let x = due_of c.args.clock c.args.self.now.from1.items in
    let y = due_of c.args.clock c.args.self.now.from2.items in
    let z = due_of c.args.clock c.args.self.now.from3.items in
    let two = given_more core c.deliver_due.new.core c.deliver_due-2.new.core w x c.deliver_due.ensures.core c.deliver_due-2.ensures.core in
    next_room core c.deliver_due-2.new.core (w ++ x) y two (first_room core ((w ++ x) ++ y) z c.requires)

pub deliver_due-requires-4 : goal.deliver_due-requires-4
deliver_due-requires-4 c =
    let core = c.args.core.now in
    let w = due_of c.args.clock c.args.self.now.from0.items in
    let x = due_of c.args.clock c.args.self.now.from1.items in
    let y = due_of c.args.clock c.args.self.now.from2.items in
    let z = due_of c.args.clock c.args.self.now.from3.items in
    let two = given_more core c.deliver_due.new.core c.deliver_due-2.new.core w x c.deliver_due.ensures.core c.deliver_due-2.ensures.core in
    let three = given_more core c.deliver_due-2.new.core c.deliver_due-3.new.core (w ++ x) y two c.deliver_due-3.ensures.core in
    next_room core c.deliver_due-3.new.core ((w ++ x) ++ y) z three c.requires

pub returns-clause-core : goal.returns-clause-core
returns-clause-core c =
    let core = c.args.core.now in
    let w = due_of c.args.clock c.args.self.now.from0.items in
    let x = due_of c.args.clock c.args.self.now.from1.items in
    let y = due_of c.args.clock c.args.self.now.from2.items in
    let z = due_of c.args.clock c.args.self.now.from3.items in
    let two = given_more core c.deliver_due.new.core c.deliver_due-2.new.core w x c.deliver_due.ensures.core c.deliver_due-2.ensures.core in
    let three = given_more core c.deliver_due-2.new.core c.deliver_due-3.new.core (w ++ x) y two c.deliver_due-3.ensures.core in
    given_more core c.deliver_due-3.new.core c.deliver_due-4.new.core ((w ++ x) ++ y) z three c.deliver_due-4.ensures.core
