use Rattle.xs_fabric.proofs.Deliveries.{all_room}
use Rattle.xs_fabric.proofs.law.due_items_have_room.Goals as goal

pub returns : goal.returns
returns c =
    λ L s es m d clock core valid run there. all_room L valid s d m core clock 4 (record { events = es; to = run }) there
