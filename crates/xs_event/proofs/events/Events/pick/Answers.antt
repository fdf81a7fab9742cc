use Rattle.std.proofs.Common.{◌≡◌, Option, Some, None, rules}
use Rattle.xs_event.proofs.Picked.{picked-least}
use Rattle.xs_event.specs.Readiness.{readiness_of}
use Rattle.xs_instr.specs.declared.state.Res.{Res}
use Rattle.xs_instr.specs.declared.state.Res.TheVariants.{Port, Timer, End}
use Rattle.xs_instr.specs.Events.{picked}
use Rattle.xs_event.proofs.events.Events.pick.Goals as goal

pub returns-in-Some-clause-least : goal.returns-in-Some-clause-least
returns-in-Some-clause-least c =
    let res : Option Res = Some (Port c.in-Some.n) in
    let is : res ≡ picked c.args.self.now c.args.thread (readiness_of c.args.ready.now) = search rules in
    picked-least c.args.self.now c.args.thread (readiness_of c.args.ready.now) res is

pub returns-in-Some-first_ready-clause-least : goal.returns-in-Some-first_ready-clause-least
returns-in-Some-first_ready-clause-least c =
    let res : Option Res = Some (Timer c.in-Some-first_ready.n) in
    let is : res ≡ picked c.args.self.now c.args.thread (readiness_of c.args.ready.now) = search rules in
    picked-least c.args.self.now c.args.thread (readiness_of c.args.ready.now) res is

pub returns-in-Some-first_ready-2-clause-least : goal.returns-in-Some-first_ready-2-clause-least
returns-in-Some-first_ready-2-clause-least c =
    let res : Option Res = Some (End c.in-Some-first_ready-2.n) in
    let is : res ≡ picked c.args.self.now c.args.thread (readiness_of c.args.ready.now) = search rules in
    picked-least c.args.self.now c.args.thread (readiness_of c.args.ready.now) res is

pub returns-in-None-clause-none : goal.returns-in-None-clause-none
returns-in-None-clause-none c =
    let res : Option Res = None in
    let is : res ≡ picked c.args.self.now c.args.thread (readiness_of c.args.ready.now) = search rules in
    picked-least c.args.self.now c.args.thread (readiness_of c.args.ready.now) res is
