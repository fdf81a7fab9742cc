-- What comes, one sender after the other.
use Rattle.std.proofs.Common.{◌≡◌, ◌<◌, List, [], ◌∷◌, ◌++◌, sym, ap, subst, ◌∙◌}
use Rattle.std.proofs.lemmas.Bool.{lt-ltb}
use Rattle.xs_core.specs.Core.{Seen as Core}
use Rattle.xs_fabric.specs.Lockstep.{all_came, tick_if, tick_once}
use Rattle.xs_fabric.specs.Rooms.{AllHaveRoom}
use Rattle.xs_fabric.proofs.LockstepLeads.{came_append}
use Rattle.xs_instr.specs.declared.image.Home.{Home}
use Rattle.xs_instr.specs.declared.state.CoreState.{CoreState}
use Rattle.xs_instr.specs.declared.state.Item.{Item}
use Rattle.xs_instr.specs.Machine.{came}
use Rattle.xs_instr.specs.Slot.{last_clock, ticked}

room_first : (home : Home) (core : CoreState) (xs ys : List Item) → AllHaveRoom home core (xs ++ ys) → AllHaveRoom home core xs
room_first home core [] ys h = tt
room_first home core (x ∷ xs) ys h = (h.0, room_first home (came core x.moved) xs ys h.1)

room_then : (home : Home) (core : CoreState) (xs ys : List Item) → AllHaveRoom home core (xs ++ ys) → AllHaveRoom home (all_came core xs) ys
room_then home core [] ys h = h
room_then home core (x ∷ xs) ys h = room_then home (came core x.moved) xs ys h.1

-- the core after these came
abbrev pub given : Core → List Item → Core
given core items = record core { state = all_came core.state items }

pub given_more : (core core1 core2 : Core) (xs ys : List Item) → core1 ≡ given core xs → core2 ≡ given core1 ys → core2 ≡ given core (xs ++ ys)
given_more core core1 core2 xs ys e f =
    f ∙ ap (λ (k : Core). given k ys) e ∙ ap (λ s. record core { state = s }) (sym (came_append core.state xs ys))

pub first_room : (core : Core) (xs ys : List Item) → AllHaveRoom core.home core.state (xs ++ ys) → AllHaveRoom core.home core.state xs
first_room core xs ys h = room_first core.home core.state xs ys h

pub next_room : (core core1 : Core) (xs ys : List Item) → core1 ≡ given core xs → AllHaveRoom core.home core.state (xs ++ ys) → AllHaveRoom core1.home core1.state ys
next_room core core1 xs ys e h =
    subst (λ (k : Core). AllHaveRoom k.home k.state ys) (sym e) (room_then core.home core.state xs ys h)

pub tick_is : (core : CoreState) → core.clock < last_clock → tick_once core ≡ ticked core
tick_is core lt = ap (tick_if core) (lt-ltb core.clock last_clock lt)
