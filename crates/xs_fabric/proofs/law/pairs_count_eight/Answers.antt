use Rattle.xs_instr.specs.Machine.{boot}
use Rattle.xs_fabric.proofs.Stepped.{runs_sound, boot_sound}
use Rattle.xs_fabric.proofs.law.pairs_count_eight.Goals as goal

pub returns : goal.returns
returns c = λ L s es m d e valid run there. (runs_sound L valid s es (boot L) m (boot_sound L valid) run).sums d e there
