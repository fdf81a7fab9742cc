-- A core by itself: what it does within eight ticks does not look at what others send in them.
use Rattle.std.specs.Prelude.{ℕ, zero, suc, ◌<◌, ◌≤◌, Bool, true, false, List, [], ◌∷◌, ◌++◌, nat_eq}
use Rattle.xs_instr.specs.declared.image.Home.{Home}
use Rattle.xs_instr.specs.declared.state.CoreState.{CoreState}
use Rattle.xs_instr.specs.declared.state.Item.{Item}
use Rattle.xs_instr.specs.declared.state.Sent.{Sent}
use Rattle.xs_instr.specs.declared.trace.Record.{Record}
use Rattle.xs_instr.specs.Machine.{link_of}
use Rattle.xr_windows.specs.declared.stamped.Stamped.{Stamped}
use Rattle.xs_fabric.specs.Lockstep.{Part, tick_once, core_round, due_of, late_of}

-- records of one tick, each with it
abbrev pub stamped : ℕ → List Record → List Stamped
stamped tick [] = []
stamped tick (r ∷ rs) = record { tick = tick; made = r } ∷ stamped tick rs

-- a core with what is on its way to it, by the number of the sender, and what it wrote down and sent since it began
pub record Alone : Type 0 where
  pub core : CoreState
  pub coming : ℕ → List Item
  pub made : List Stamped
  pub sent : List Sent

-- what is due of it from the cores below n
abbrev pub due_in : (ℕ → List Item) → ℕ → ℕ → List Item
due_in coming clock zero = []
due_in coming clock (suc n) = due_in coming clock n ++ due_of clock (coming n)

-- a core's part of a round, by itself: a tick, what is due of what is on its way, and a turn of each thread
abbrev pub own_part : Home → Alone → Part
own_part home a = core_round home (tick_once a.core) (due_in a.coming (tick_once a.core).clock 4)

-- the core after such a part
abbrev pub after_round : Alone → ℕ → Part → Alone
after_round a clock p = record {
  core = p.core;
  coming = λ j. late_of clock (a.coming j);
  made = a.made ++ stamped clock p.made;
  sent = a.sent ++ p.sent;
}

-- n rounds of a core by itself
unfoldable pub alone : Home → Alone → ℕ → Alone
alone home a zero = a
alone home a (suc n) = after_round (alone home a n) (tick_once (alone home a n).core).clock (own_part home (alone home a n))

-- a core that begins
abbrev pub begins : CoreState → (ℕ → List Item) → Alone
begins core coming = record { core = core; coming = coming; made = []; sent = [] }

-- `sent_for`, by cases
abbrev pub for_by : Item → List Item → Bool → List Item
for_by i rest true = i ∷ rest
for_by i rest false = rest

-- what was sent to core j, as items on the link to it
abbrev pub sent_for : ℕ → List Sent → List Item
sent_for j [] = []
sent_for j (s ∷ ss) = for_by (record { tick = s.tick; moved = s.moved }) (sent_for j ss) (nat_eq s.to j)

-- what is on its way to core i, by the number of the sender
abbrev pub coming_to : List (List (List Item)) → ℕ → ℕ → List Item
coming_to links i a = link_of links a i

-- each of them is such
abbrev pub AllSent : (Sent → Type 0) → List Sent → Type 0
AllSent P [] = Unit {0}
AllSent P (s ∷ ss) = P s × AllSent P ss

-- each was sent after tick t
abbrev pub AllAfter : ℕ → List Sent → Type 0
AllAfter t ss = AllSent (λ s. t < s.tick) ss

-- none was sent at tick t or before
abbrev pub AllLater : ℕ → List Item → Type 0
AllLater t [] = Unit {0}
AllLater t (i ∷ items) = (t < i.tick) × AllLater t items

-- none was sent after tick t
abbrev pub AllUpTo : ℕ → List Item → Type 0
AllUpTo t [] = Unit {0}
AllUpTo t (i ∷ items) = (i.tick ≤ t) × AllUpTo t items
