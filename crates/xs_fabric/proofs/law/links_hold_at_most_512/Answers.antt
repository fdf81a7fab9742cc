use Rattle.xs_instr.specs.Machine.{boot}
use Rattle.xs_fabric.proofs.Places.{links_have_places}
use Rattle.xs_fabric.proofs.Stepped.{boot_sound, runs_sound}
use Rattle.xs_fabric.proofs.law.links_hold_at_most_512.Goals as goal

pub returns : goal.returns
returns c = λ L s es m a b valid run. links_have_places L valid m (runs_sound L valid s es (boot L) m (boot_sound L valid) run) a b
