-- What a part of a run is.
use Rattle.std.specs.Prelude.{ℕ, ◌≡◌, ◌<◌, ◌≤◌, Bool, List, []}
use Rattle.xr_windows.specs.Coming.{lists_of}
use Rattle.xr_windows.specs.Windows.{Between, part, windows_of}
use Rattle.xr_windows.specs.declared.part.Part.TheInside.{Inside}
use Rattle.xr_windows.specs.declared.stamped.Stamped.{Stamped}
use Rattle.xs_core.specs.Core.{Seen as Core}
use Rattle.xs_fabric.specs.OnLinks.{items_at}
use Rattle.xs_instr.specs.declared.image.Home.{Home}
use Rattle.xs_instr.specs.declared.image.Image.{Image}
use Rattle.xs_instr.specs.declared.image.Stim.{Stim}
use Rattle.xs_instr.specs.declared.state.CoreState.{CoreState}
use Rattle.xs_instr.specs.declared.state.Item.{Item}
use Rattle.xs_instr.specs.Machine.{boot_core, home_of, parts_in}
use Rattle.xs_instr.specs.Valid.{IsGoodStim, Valid}

-- a part, as contracts see it: what no event changes of its core, how the core stands, what was sent to it and isn't delivered
-- yet, by the number of the sender, its records, whether it sent an item in the window that it ran last, how many windows it
-- has run, and for how many ticks the run goes
pub record Standing : Type 0 where
  pub home : Home
  pub core : CoreState
  pub waiting : List (List Item)
  pub records : List Stamped
  pub has_sent : Bool
  pub ran : ℕ
  pub ticks : ℕ

-- how it stands between two windows
abbrev pub state_of : Standing → Between
state_of p = record { core = p.core; records = p.records; waiting = items_at p.waiting; has_sent = p.has_sent }

-- what is seen of it
abbrev pub standing_of : Inside → Standing
standing_of p = record {
  home = p.core.home;
  core = p.core.state;
  waiting = lists_of p.coming;
  records = p.records.items;
  has_sent = p.has_sent;
  ran = p.ran;
  ticks = p.ticks;
}

-- what its core sent was taken
abbrev pub IsDrained : Inside → Type 0
IsDrained p = p.core.outbox ≡ []

-- a core as it starts in a run
pub record IsStart (L : Image) (s : Stim) (core : Core) : Type 0 where
  pub valid : Valid L
  pub good : IsGoodStim s
  pub number : core.home.number < 4
  pub home : core.home ≡ home_of L s core.home.number
  pub state : core.state ≡ boot_core (parts_in L.cores core.home.number)

-- it is its core's part of the run of n ticks, after the windows that it has run
pub record IsPartOf (L : Image) (s : Stim) (n : ℕ) (p : Standing) : Type 0 where
  pub valid : Valid L
  pub good : IsGoodStim s
  pub number : p.home.number < 4
  pub home : p.home ≡ home_of L s p.home.number
  pub ticks : p.ticks ≡ n
  pub some : 1 ≤ n
  pub few : n ≤ 200000
  pub within : p.ran ≤ windows_of n
  pub state : state_of p ≡ part L s n p.home.number p.ran

-- it is core i's, and has run all windows
pub record IsLast (L : Image) (s : Stim) (n i : ℕ) (p : Standing) : Type 0 where
  pub part : IsPartOf L s n p
  pub number : p.home.number ≡ i
  pub all : p.ran ≡ windows_of n
