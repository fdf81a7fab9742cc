use Rattle.std.proofs.Common.{◌≡◌, ◌++◌, OnOk, subst, sym}
use Rattle.xs_instr.specs.Lines.{at_pos}
use Rattle.xl_chan.specs.Protocols.{output_instrs}
use Rattle.xl_chan.proofs.transfer.put_output.Goals as goal

pub returns-then-plain-clause-code : goal.returns-then-plain-clause-code
returns-then-plain-clause-code c =
    subst (λ b. OnOk c.put_all.result (c.put_all.new.self ≡ c.args.e.now ++ at_pos c.args.pos (output_instrs c.args.from b))) (sym c.if-plain.true) c.put_all.ensures.ok
