-- A core as it starts is its part of the run before the first window.
use Rattle.std.proofs.Common.{◌≡◌, ◌≤◌, ◌<◌, ◌^◌, ◌-◌, ℕ, zero, suc, false, List, [], refl, sym, ap, ◌∙◌, arith}
use Rattle.xr_windows.specs.Coming.{coming_of, lists_of}
use Rattle.xr_windows.specs.declared.coming.Coming.{Coming}
use Rattle.xr_windows.specs.Parts.{IsPartOf, IsStart}
use Rattle.xr_windows.specs.Windows.{core_after, core_of, made_between, part, sent_before, window_start}
use Rattle.xr_windows.specs.declared.stamped.Stamped.{Stamped}
use Rattle.xr_windows.proofs.PartNext.{boot_link}
use Rattle.xr_windows.proofs.WindowRun.{between}
use Rattle.xs_core.specs.Core.{Seen as Core}
use Rattle.xs_fabric.specs.Lockstep.{lockstep}
use Rattle.xs_instr.specs.declared.image.Image.{Image}
use Rattle.xs_instr.specs.declared.image.Stim.{Stim}
use Rattle.xs_instr.specs.declared.state.CoreState.{CoreState}
use Rattle.xs_instr.specs.declared.state.Item.{Item}
use Rattle.xs_instr.specs.Machine.{boot, boot_core, parts_in}

booted : (L : Image) (i : ℕ) → core_of L (boot L) i ≡ boot_core (parts_in L.cores i)
booted L zero = refl
booted L (suc zero) = refl
booted L (suc (suc zero)) = refl
booted L (suc (suc (suc zero))) = refl
booted L (suc (suc (suc (suc i)))) = refl

pub nothing_comes : (c : Coming) → c.from0.items ≡ [] → c.from1.items ≡ [] → c.from2.items ≡ [] → c.from3.items ≡ [] → (a : ℕ) → coming_of c a ≡ []
nothing_comes c e0 e1 e2 e3 zero = e0
nothing_comes c e0 e1 e2 e3 (suc zero) = e1
nothing_comes c e0 e1 e2 e3 (suc (suc zero)) = e2
nothing_comes c e0 e1 e2 e3 (suc (suc (suc zero))) = e3
nothing_comes c e0 e1 e2 e3 (suc (suc (suc (suc a)))) = refl

module _ (L : Image) (s : Stim) (n i : ℕ) (few : n ≤ 200000) where
  none : window_start n 0 ≡ 0
  none = omega arith

  small : n < 2 ^ 32
  small = omega arith

  core_first : boot_core (parts_in L.cores i) ≡ core_after L s i (window_start n 0)
  unfolding lockstep
  core_first = sym (ap (core_after L s i) none ∙ booted L i)

  made_first : [] ≡ made_between L s i 0 (window_start n 0)
  unfolding made_between
  made_first = sym (ap (made_between L s i 0) none)

  pub first_state : (core : CoreState) (records : List Stamped) (coming : ℕ → List Item) → core ≡ boot_core (parts_in L.cores i) → records ≡ [] → ((a : ℕ) → coming a ≡ []) → between core records coming false ≡ part L s n i 0
  unfolding part
  first_state core records coming is no_records nothing =
      (λ j. record {
        core = (is ∙ core_first) j;
        records = (no_records ∙ made_first) j;
        waiting = λ a. (nothing a ∙ sym (ap (sent_before (window_start n (0 - 1))) (boot_link L s n small (window_start n 0) a i none))) j;
        has_sent = false;
      })

pub first_part : (L : Image) (s : Stim) (n : ℕ) (core : Core) (records : List Stamped) (c : Coming) → IsStart L s core → 1 ≤ n → n ≤ 200000 → records ≡ [] → ((a : ℕ) → coming_of c a ≡ [])
    → IsPartOf L s n (record { home = core.home; core = core.state; waiting = lists_of c; records = records; has_sent = false; ran = 0; ticks = n })
first_part L s n core records c is some few no_records nothing = record {
  valid = is.valid;
  good = is.good;
  number = is.number;
  home = is.home;
  ticks = refl;
  some = some;
  few = few;
  within = omega arith;
  state = first_state L s n core.home.number few core.state records (coming_of c) is.state no_records nothing;
}
