use Rattle.std.proofs.Common.{arith}
use Rattle.xc_nonterminals.proofs.Reading.Exits.{handed_on}
use Rattle.xc_nonterminals.proofs.Stating.Guards.{no_guarded, no_name, no_transfer}
use Rattle.xc_nonterminals.proofs.Stating.CaseSteps.{alone_reads, alone_stops, guarded_reads, guarded_stops, guard_stops, named_guard, any_guard}
use Rattle.xc_nonterminals.proofs.parser.Parser.event.Goals.{then-is_name+else-is_transfer+else-room-eq0, else-is_name}
use Rattle.xc_nonterminals.proofs.parser.Parser.event.Goals as goal

pub returns-in_err-input-clause-stopped : goal.returns-in_err-input-clause-stopped
returns-in_err-input-clause-stopped c =
    let on = (c.is_name.ensures.yes c.if-is_name.true).1.2 in
    handed_on _ c.from_residual.result c.from_residual.ensures.1
    (alone_stops c.args.self.now.toks.now c.args.room c.args.at on (no_guarded on (c.is_transfer.ensures.yes c.if-is_transfer.true)) _ c.in_err-input.ensures.stopped)

pub returns-then-is_transfer-clause-read : goal.returns-then-is_transfer-clause-read
returns-then-is_transfer-clause-read c =
    let on = (c.is_name.ensures.yes c.if-is_name.true).1.2 in
    (_, alone_reads c.args.self.now.toks.now c.args.room c.args.at on (no_guarded on (c.is_transfer.ensures.yes c.if-is_transfer.true)) c.in_ok-input.ensures.bounds.0 c.in_ok-input.ensures.read.1)

pub returns-in_err-guard-clause-stopped : goal.returns-in_err-guard-clause-stopped
returns-in_err-guard-clause-stopped c =
    let stopped = c.in_err-guard.ensures.stopped in
    handed_on _ c.from_residual-in_err-guard.result c.from_residual-in_err-guard.ensures.1
    (elim c.if-is_name.branch [
      | then-is_name+else-is_transfer+else-room-eq0 w ↦
          let on = (c.is_name.ensures.yes w.if-is_name.true).1.2 in
          let room = w.if-room-eq0.false in
          guard_stops c.args.self.now.toks.now c.args.room c.args.at (no_transfer on (w.is_transfer.ensures.no w.if-is_transfer.false)) _ stopped (named_guard c.args.self.now.toks.now c.args.room c.args.at _ on (omega arith) stopped)
      | else-is_name w ↦ guard_stops c.args.self.now.toks.now c.args.room c.args.at (no_name (c.is_name.ensures.no w.if-is_name.false)) _ stopped (any_guard c.args.self.now.toks.now c.args.room c.args.at _ stopped)
    ])

pub returns-in_err-guard-2-clause-stopped : goal.returns-in_err-guard-2-clause-stopped
returns-in_err-guard-2-clause-stopped c =
    let behind = c.in_ok-guard.ensures.bounds.0 in
    let stopped = rw c.in_err-guard-2.ensures.failed at c.awaited-2.ensures.stopped in
    handed_on _ c.from_residual-in_err-guard-2.result c.from_residual-in_err-guard-2.ensures.1
    (elim c.if-is_name.branch [
      | then-is_name+else-is_transfer+else-room-eq0 w ↦
          let on = (c.is_name.ensures.yes w.if-is_name.true).1.2 in
          guarded_stops c.args.self.now.toks.now c.args.room c.args.at (no_transfer on (w.is_transfer.ensures.no w.if-is_transfer.false)) _ c.in_ok-guard.ensures.read (omega arith) stopped
      | else-is_name w ↦ guarded_stops c.args.self.now.toks.now c.args.room c.args.at (no_name (c.is_name.ensures.no w.if-is_name.false)) _ c.in_ok-guard.ensures.read (omega arith) stopped
    ])

pub returns-clause-read : goal.returns-clause-read
returns-clause-read c =
    let behind = c.in_ok-guard.ensures.bounds.0 in
    let read = rw c.in_ok-guard-2.ensures.made at c.awaited-2.ensures.read in (
      read.0,
      rw c.in_ok-guard-2.ensures.value elim c.if-is_name.branch [
        | then-is_name+else-is_transfer+else-room-eq0 w ↦
            let on = (c.is_name.ensures.yes w.if-is_name.true).1.2 in
            guarded_reads c.args.self.now.toks.now c.args.room c.args.at (no_transfer on (w.is_transfer.ensures.no w.if-is_transfer.false)) c.in_ok-guard.ensures.read (omega arith) read.1
        | else-is_name w ↦ guarded_reads c.args.self.now.toks.now c.args.room c.args.at (no_name (c.is_name.ensures.no w.if-is_name.false)) c.in_ok-guard.ensures.read (omega arith) read.1
      ],
    )
