use Rattle.xs_instr.specs.Machine.{boot}
use Rattle.xs_fabric.proofs.Sound.{first_has_room}
use Rattle.xs_fabric.proofs.Stepped.{runs_sound, boot_sound}
use Rattle.xs_fabric.proofs.law.first_item_has_room.Goals as goal

pub returns : goal.returns
returns c = λ L s es m a b i rest valid run h. first_has_room L valid m (runs_sound L valid s es (boot L) m (boot_sound L valid) run) a b i rest h
