use Rattle.std.proofs.Common.{refl}
use Rattle.std.specs.Prelude.{codes}
use Rattle.xr_assembly.proofs.WrittenInstrs.{code_line-is}
use Rattle.xr_assembly.proofs.WrittenLines.{chan_line-is, number_line-is, port_line-is}
use Rattle.xr_assembly.proofs.law.written_lines_are_read.Goals as goal
use Rattle.xr_assembly.specs.declared.lines.Line.TheVariants as line

pub returns-clause-core : goal.returns-clause-core
returns-clause-core c n small = number_line-is (codes ".core") n (line.Core n) small refl refl refl

pub returns-clause-words : goal.returns-clause-words
returns-clause-words c n small = number_line-is (codes ".words") n (line.Words n) small refl refl refl

pub returns-clause-timers : goal.returns-clause-timers
returns-clause-timers c n small = number_line-is (codes ".timers") n (line.Timers n) small refl refl refl

pub returns-clause-ends : goal.returns-clause-ends
returns-clause-ends c n small = number_line-is (codes ".ends") n (line.Ends n) small refl refl refl

pub returns-clause-root : goal.returns-clause-root
returns-clause-root c n small = number_line-is (codes ".root") n (line.Root n) small refl refl refl

pub returns-clause-port : goal.returns-clause-port
returns-clause-port c = port_line-is

pub returns-clause-chan : goal.returns-clause-chan
returns-clause-chan c = chan_line-is

pub returns-clause-code : goal.returns-clause-code
returns-clause-code c = code_line-is
