-- Rounds, one after the other.
use Rattle.std.proofs.Common.{◌≡◌, ℕ, ◌+◌, List, [], refl, sym, subst, add-one}
use Rattle.std.proofs.lemmas.List.{append-nil}
use Rattle.xr_windows.specs.Alone.{Alone, after_round, alone, begins, own_part}
use Rattle.xr_windows.specs.Goes.{CanGo, Goes}
use Rattle.xr_windows.specs.declared.stamped.Stamped.{Stamped}
use Rattle.xs_core.specs.Core.{Seen as Core}
use Rattle.xs_fabric.specs.Lockstep.{tick_once}
use Rattle.xs_instr.specs.declared.image.Home.{Home}
use Rattle.xs_instr.specs.declared.state.CoreState.{CoreState}
use Rattle.xs_instr.specs.declared.state.Item.{Item}

pub can_be : (home home' : Home) (core core' : CoreState) (coming coming' : ℕ → List Item) → home ≡ home' → core ≡ core' → ((b : ℕ) → coming b ≡ coming' b) → CanGo home core coming → CanGo home' core' coming'
can_be home home' core core' coming coming' homes cores comings can =
    subst (λ (h : Home). CanGo h core' coming') homes
    (subst (λ (k : CoreState). CanGo home k coming') cores
    (subst (λ (f : ℕ → List Item). CanGo home core f) (λ j b. comings b j) can))

pub can_go : (home : Home) (a : Alone) (records0 : List Stamped) (core : Core) (coming : ℕ → List Item) (records : List Stamped) → core.home ≡ home → Goes a records0 core coming records → CanGo home a.core a.coming → CanGo core.home core.state coming
can_go home a records0 core coming records homes h can =
    can_be home core.home a.core core.state a.coming coming (sym homes) (sym h.state) (λ b. sym (h.on_way b)) can

pub no_rounds : (home : Home) (core : Core) (coming : ℕ → List Item) (records : List Stamped) → core.outbox ≡ [] → Goes (alone home (begins core.state coming) 0) records core coming records
unfolding alone
no_rounds home core coming records none = record {
  state = refl;
  on_way = λ b. refl;
  outgoing = none;
  written = sym (append-nil records);
}

pub rounds_more : (home home' : Home) (a0 : Alone) (n : ℕ) (records0 : List Stamped) (core : Core) (coming : ℕ → List Item) (records : List Stamped) → home' ≡ home → Goes (after_round (alone home a0 n) (tick_once (alone home a0 n).core).clock (own_part home' (alone home a0 n))) records0 core coming records → Goes (alone home a0 (n + 1)) records0 core coming records
unfolding alone
rounds_more home home' a0 n records0 core coming records same h =
    rw add-one (subst (λ (k : Home). Goes (after_round (alone home a0 n) (tick_once (alone home a0 n).core).clock (own_part k (alone home a0 n))) records0 core coming records) same h)
