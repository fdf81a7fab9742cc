use Rattle.std.proofs.Common.{◌++◌, ◌∙◌, ap, append_assoc, arith, length, length-append, refl, subst}
use Rattle.std.specs.Prelude.{option_map}
use Rattle.xc_kernel.specs.Kernels.{place_of}
use Rattle.xl_expr.specs.Destinations.{WritesTo}
use Rattle.xl_expr.specs.Targets.{AreAimed}
use Rattle.xl_expr.proofs.Emitted.{behind_extends, on_err}
use Rattle.xl_expr.proofs.GoodCode.{aimed_append}
use Rattle.xl_chan.proofs.Receiving.{joined_takes}
use Rattle.xl_chan.proofs.statement.emit_receive.Goals as goal

pub returns-clause-takes : goal.returns-clause-takes
returns-clause-takes c =
    let old = c.args.e.now in
    let dest = option_map place_of c.args.dest.now in
    let transfer = c.in_ok-emit_in.ensures.takes in
    let write = c.in_ok-emit_destination.ensures.writes in
    let behind = ap length transfer.is ∙ length-append old transfer.lines in
    record {
      lines = transfer.lines ++ write.lines;
      is = write.is ∙ ap (λ ls. ls ++ write.lines) transfer.is ∙ append_assoc old transfer.lines write.lines;
      so = joined_takes c.args.plan.now c.args.end c.args.plain c.args.pos (length old) transfer.lines write.lines transfer.so dest
          (subst (λ n. WritesTo c.args.plan.now.vars dest n write.lines) behind write.so);
    }

pub returns-clause-receives : goal.returns-clause-receives
returns-clause-receives c =
    let old = c.args.e.now in
    let dest = option_map place_of c.args.dest.now in
    let transfer = c.in_ok-emit_in.ensures.takes in
    let write = c.in_ok-emit_destination.ensures.writes in
    let behind = ap length transfer.is ∙ length-append old transfer.lines in
    record {
      lines = transfer.lines ++ write.lines;
      is = write.is ∙ ap (λ ls. ls ++ write.lines) transfer.is ∙ append_assoc old transfer.lines write.lines;
      so = record {
        transfer = transfer.lines;
        write = write.lines;
        is = refl;
        takes = transfer.so;
        writes = subst (λ n. WritesTo c.args.plan.now.vars dest n write.lines) behind write.so;
      };
    }

pub returns-clause-aimed : goal.returns-clause-aimed
returns-clause-aimed c =
    let old = c.args.e.now in
    let transfer = c.in_ok-emit_in.ensures.aimed in
    let write = c.in_ok-emit_destination.ensures.aimed in
    let behind = ap length transfer.is ∙ length-append old transfer.lines in
    record {
      lines = transfer.lines ++ write.lines;
      is = write.is ∙ ap (λ ls. ls ++ write.lines) transfer.is ∙ append_assoc old transfer.lines write.lines;
      so = aimed_append (length old) transfer.lines write.lines transfer.so (subst (λ n. AreAimed n write.lines) behind write.so);
    }

pub emit_in-requires : goal.emit_in-requires
emit_in-requires c =
    let room = c.requires.room in
    omega arith

pub emit_destination-requires-clause-room : goal.emit_destination-requires-clause-room
emit_destination-requires-clause-room c =
    let room = c.requires.room in
    let transfer = c.in_ok-emit_in.ensures.size in
    omega arith

pub returns-clause-size : goal.returns-clause-size
returns-clause-size c =
    let transfer = c.in_ok-emit_in.ensures.size in
    let write = c.in_ok-emit_destination.ensures.size in
    omega arith

pub returns-in_err-emit_destination-clause-refused : goal.returns-in_err-emit_destination-clause-refused
returns-in_err-emit_destination-clause-refused c =
    on_err _ _ (behind_extends _ _ _ _ c.in_ok-emit_in.ensures.takes.is c.in_err-emit_destination.ensures.refused)
