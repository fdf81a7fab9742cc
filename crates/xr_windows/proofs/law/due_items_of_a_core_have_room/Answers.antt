use Rattle.xr_windows.proofs.Rooms.{due_has_room}
use Rattle.xr_windows.proofs.law.due_items_of_a_core_have_room.Goals as goal

pub returns : goal.returns
returns c L s t n i valid li eight small = due_has_room L s valid t n i li eight small
