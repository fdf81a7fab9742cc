-- After n rounds each clock is n.
use Rattle.std.proofs.Common.{◌≡◌, ◌≤◌, ◌<◌, ◌+◌, ◌^◌, ℕ, zero, suc, Bool, true, false, List, [], ◌∷◌, Option, Some, None, length, refl, sym, ap, ◌∙◌, inl, inr, subst, arith}
use Rattle.std.proofs.lemmas.Bool.{ltb-false}
use Rattle.std.specs.Prelude.{slice_get, slice_set, nat_lt}
use Rattle.xs_instr.specs.declared.image.Image.{Image}
use Rattle.xs_instr.specs.declared.image.Stim.{Stim}
use Rattle.xs_instr.specs.declared.instr.Cond.{Cond}
use Rattle.xs_instr.specs.declared.instr.GetKind.{GetKind}
use Rattle.xs_instr.specs.declared.instr.GetKind.TheVariants.{Sync as GetSync, Lock as GetLock}
use Rattle.xs_instr.specs.declared.instr.Instr.{Instr}
use Rattle.xs_instr.specs.declared.instr.Instr.TheVariants.{Getr, Freer, Getst, Tinitpc, Tinitdp, Tinitsp, Msync, Ssync, Mjoin, Freet, Out, Outt, Outct, In, Int, Chkct, Setc, Setd, Setpt, Getts, Setv, Eeu, Edu, Clre, Waiteu, Setsr, Clrsr}
use Rattle.xs_instr.specs.declared.instr.Reg.{Reg}
use Rattle.xs_instr.specs.declared.state.CoreState.{CoreState}
use Rattle.xs_instr.specs.declared.state.Item.{Item}
use Rattle.xs_instr.specs.declared.state.Mode.{Mode}
use Rattle.xs_instr.specs.declared.state.Mode.TheVariants.{Unused, Waiting, Running, Trapped}
use Rattle.xs_instr.specs.declared.state.Res.{Res}
use Rattle.xs_instr.specs.declared.state.Res.TheVariants.{Port as ResPort, Timer as ResTimer, End as ResEnd}
use Rattle.xs_instr.specs.declared.state.Thread.{Thread}
use Rattle.xs_instr.specs.Did.{Did, Made, Paused, Traps, Idle, map_did}
use Rattle.xs_instr.specs.Events.{latched}
use Rattle.xs_instr.specs.declared.image.Home.{Home}
use Rattle.xs_instr.specs.Resources.{Named, APort, ATimer, AnEnd, ASync, ALock}
use Rattle.xs_instr.specs.Rows.{out_row, in_row, cond_row, data_row, free_row, get_row, wait_row, end_row, names, row, local_row, local_of, put_local}
use Rattle.xs_instr.specs.Registers.{reg_get}
use Rattle.xs_instr.specs.Slot.{fetched, event_or_row, instr_at, pick_where, takes_events, turn_of, turn_at, slot, trapped, trapped_at, last_clock}
use Rattle.xs_instr.specs.Machine.{Machine, boot, came, home_of}
use Rattle.xs_fabric.specs.Lockstep.{Part, after, turn, turns, tick_if, tick_once, all_came, core_round, due_from, part_at, round_there, round_at, rounds_at, lockstep}
use Rattle.xs_core.proofs.Lists.{get_set, get_set_other}
use Rattle.xs_core.proofs.Weights.{same_num, get_below, length_set}
use Rattle.xs_fabric.proofs.Ways.{some_is}

-- the clock after a turn
abbrev pub clock_after : CoreState → Did CoreState → ℕ
clock_after core (Made left made sent) = left.clock
clock_after core Paused = core.clock
clock_after core (Traps kind) = core.clock
clock_after core Idle = core.clock

told_clock : {A : Type 0} (core : CoreState) (put : A → CoreState) (did : Did A) → ((a : A) → (put a).clock ≡ core.clock) → clock_after core (map_did put did) ≡ core.clock
told_clock core put (Made left made sent) h = h left
told_clock core put Paused h = refl
told_clock core put (Traps kind) h = refl
told_clock core put Idle h = refl

module _ (home : Home) (core : CoreState) (t : ℕ) (thread : Thread) where
  out_clock : (v : ℕ) (x : Named) → clock_after core (out_row home core t thread v x) ≡ core.clock
  out_clock v (APort p) = told_clock core _ _ (λ a. refl)
  out_clock v (AnEnd e) = told_clock core _ _ (λ a. refl)
  out_clock v (ALock l) = told_clock core _ _ (λ a. refl)
  out_clock v _ = refl

  in_clock : (d : Reg) (v : ℕ) (x : Named) → clock_after core (in_row home core t thread d v x) ≡ core.clock
  in_clock d v (APort p) = told_clock core _ _ (λ a. refl)
  in_clock d v (ATimer n) = told_clock core _ _ (λ a. refl)
  in_clock d v (AnEnd e) = told_clock core _ _ (λ a. refl)
  in_clock d v (ALock l) = told_clock core _ _ (λ a. refl)
  in_clock d v _ = refl

  cond_clock : (cond : Cond) (x : Named) → clock_after core (cond_row core t thread cond x) ≡ core.clock
  cond_clock cond (APort p) = told_clock core _ _ (λ a. refl)
  cond_clock cond (ATimer n) = told_clock core _ _ (λ a. refl)
  cond_clock cond _ = refl

  data_clock : (v : ℕ) (x : Named) → clock_after core (data_row core t thread v x) ≡ core.clock
  data_clock v (APort p) = told_clock core _ _ (λ a. refl)
  data_clock v (ATimer n) = told_clock core _ _ (λ a. refl)
  data_clock v _ = refl

  free_clock : (x : Named) → clock_after core (free_row core t thread x) ≡ core.clock
  free_clock (ASync n) = told_clock core _ _ (λ a. refl)
  free_clock (ALock l) = told_clock core _ _ (λ a. refl)
  free_clock _ = refl

  get_clock : (d : Reg) (kind : GetKind) → clock_after core (get_row home core t thread d kind) ≡ core.clock
  get_clock d GetSync = refl
  get_clock d GetLock = refl

  wait_clock : (o : Option ℕ) → clock_after core (wait_row core t thread o) ≡ core.clock
  wait_clock None = refl
  wait_clock (Some n) = refl

  end_clock : (o : Option ℕ) → clock_after core (end_row core t thread o) ≡ core.clock
  end_clock None = refl
  end_clock (Some n) = refl

  row_clock : (i : Instr) → clock_after core (row home core t thread i) ≡ core.clock
  row_clock (Getr d kind) = get_clock d kind
  row_clock (Freer r) = free_clock (names home thread r)
  row_clock Ssync = wait_clock thread.tie
  row_clock Freet = end_clock thread.tie
  row_clock (Out r s) = out_clock (reg_get thread.regs s) (names home thread r)
  row_clock (In d r) = in_clock d (reg_get thread.regs r) (names home thread r)
  row_clock (Setc r cond) = cond_clock cond (names home thread r)
  row_clock (Setd r s) = data_clock (reg_get thread.regs s) (names home thread r)
  row_clock Clre = refl
  row_clock Waiteu = refl
  row_clock (Setsr n) = refl
  row_clock (Clrsr n) = refl
  row_clock (Getst d r) = told_clock core _ _ (λ a. refl)
  row_clock (Tinitpc x k) = told_clock core _ _ (λ a. refl)
  row_clock (Tinitdp x s) = told_clock core _ _ (λ a. refl)
  row_clock (Tinitsp x s) = told_clock core _ _ (λ a. refl)
  row_clock (Msync r) = told_clock core _ _ (λ a. refl)
  row_clock (Mjoin r) = told_clock core _ _ (λ a. refl)
  row_clock (Outt r s) = told_clock core _ _ (λ a. refl)
  row_clock (Outct r n) = told_clock core _ _ (λ a. refl)
  row_clock (Int d r) = told_clock core _ _ (λ a. refl)
  row_clock (Chkct r n) = told_clock core _ _ (λ a. refl)
  row_clock (Setpt r s) = told_clock core _ _ (λ a. refl)
  row_clock (Getts d r) = told_clock core _ _ (λ a. refl)
  row_clock (Setv r k) = told_clock core _ _ (λ a. refl)
  row_clock (Eeu r) = told_clock core _ _ (λ a. refl)
  row_clock (Edu r) = told_clock core _ _ (λ a. refl)
  row_clock i = told_clock core (put_local core t thread) (local_row (local_of core thread) i) (λ a. refl)

  latched_clock : (r : Res) → (latched home core r).clock ≡ core.clock
  latched_clock (ResPort n) = refl
  latched_clock (ResTimer n) = refl
  latched_clock (ResEnd n) = refl

  fetched_clock : (i : Option Instr) → clock_after core (fetched home core t thread i) ≡ core.clock
  fetched_clock None = refl
  fetched_clock (Some i) = row_clock i

  event_or_row_clock : (i : Option Instr) (o : Option Res) → clock_after core (event_or_row home core t thread i o) ≡ core.clock
  event_or_row_clock i (Some r) = latched_clock r
  event_or_row_clock i None = fetched_clock i

  turn_of_clock : (m : Mode) → clock_after core (turn_of home core t thread m) ≡ core.clock
  turn_of_clock Running = event_or_row_clock (instr_at home thread.pc) (pick_where home core t (takes_events thread (instr_at home thread.pc)))
  turn_of_clock Waiting = refl
  turn_of_clock Unused = refl
  turn_of_clock Trapped = refl

pub slot_clock : (home : Home) (core : CoreState) (t : ℕ) → clock_after core (slot home core t) ≡ core.clock
slot_clock home core t = go (slice_get core.threads t)
  where
    go : (o : Option Thread) → clock_after core (turn_at home core t o) ≡ core.clock
    go None = refl
    go (Some thread) = turn_of_clock home core t thread thread.mode

trapped_clock : (core : CoreState) (t : ℕ) → (trapped core t).clock ≡ core.clock
trapped_clock core t = go (slice_get core.threads t)
  where
    go : (o : Option Thread) → (trapped_at core t o).clock ≡ core.clock
    go None = refl
    go (Some x) = refl

turn_clock : (home : Home) (p : Part) (t : ℕ) → (turn home p t).core.clock ≡ p.core.clock
unfolding turn
turn_clock home p t = go (slot home p.core t) (slot_clock home p.core t)
  where
    go : (d : Did CoreState) → clock_after p.core d ≡ p.core.clock → (after home p t d).core.clock ≡ p.core.clock
    go (Made left made sent) h = h
    go (Traps kind) h = trapped_clock p.core t
    go Paused h = refl
    go Idle h = refl

pub turns_clock : (home : Home) (p : Part) (n : ℕ) → (turns home p n).core.clock ≡ p.core.clock
unfolding turns
turns_clock home p zero = refl
turns_clock home p (suc n) = turn_clock home (turns home p n) n ∙ turns_clock home p n

pub came_clock : (core : CoreState) (items : List Item) → (all_came core items).clock ≡ core.clock
came_clock core [] = refl
came_clock core (i ∷ items) = came_clock (came core i.moved) items

part_clock : (home : Home) (m : Machine) (c : ℕ) (core : CoreState) → (part_at home m c core).core.clock ≡ core.clock
unfolding part_at core_round
part_clock home m c core = turns_clock home _ 8 ∙ came_clock core (due_from m.links c core.clock 4)

pub tick_clock : (core : CoreState) → core.clock + 1 < 2 ^ 32 → (tick_once core).clock ≡ core.clock + 1
tick_clock core h = go (nat_lt core.clock last_clock) refl
  where
    go : (b : Bool) → nat_lt core.clock last_clock ≡ b → (tick_if core b).clock ≡ core.clock + 1
    go true e = refl
    go false e = let ge = ltb-false core.clock last_clock e in let no : ⊥ = omega (arith, ge, h) in absurd no

-- each of the cores' clocks is n
abbrev pub AllAt : List CoreState → ℕ → Type 0
AllAt cores n = (c : ℕ) (core : CoreState) → slice_get cores c ≡ Some core → core.clock ≡ n

-- the clocks of the cores below b are n + 1, and the others' n
abbrev Between : List CoreState → ℕ → ℕ → Type 0
Between cores b n = (c : ℕ) (core : CoreState) → slice_get cores c ≡ Some core → (c < b → core.clock ≡ n + 1) × (b ≤ c → core.clock ≡ n)

round_clock : (L : Image) (s : Stim) (m : Machine) (b n : ℕ) → n + 1 < 2 ^ 32 → Between m.cores b n → Between (round_at L s m b).cores (suc b) n
unfolding round_at
round_clock L s m b n small h = go (slice_get m.cores b) refl
  where
    home : Home
    home = home_of L s b

    go : (o : Option CoreState) → slice_get m.cores b ≡ o → Between (round_there (home_of L s b) m b o).cores (suc b) n
    go None g c core e = elim (same_num b c) [
      | inl w ↦ let none : slice_get m.cores c ≡ None = subst (λ v. slice_get m.cores v ≡ None) w g in let no : None ≡ Some core = sym none ∙ e in cc
      | inr ne ↦ let r = h c core e in ((λ lt. let lt' : c < b = omega arith in r.0 lt'), (λ le. let le' : b ≤ c = omega arith in r.1 le'))
    ]
    go (Some old) g c core e = elim (same_num b c) [
      | inl w ↦
          let up = tick_once old in
          let p = part_at (home_of L s b) m b up in
          let e' = subst (λ v. slice_get (slice_set m.cores b p.core) v ≡ Some core) (sym w) e in
          let is = some_is p.core core (sym (get_set m.cores b old p.core g) ∙ e') in
          let was : old.clock ≡ n = let le : b ≤ b = omega arith in (h b old g).1 le in
          let small' : old.clock + 1 < 2 ^ 32 = omega (arith, was, small) in
          let now : core.clock ≡ n + 1 = sym (ap (λ (k : CoreState). k.clock) is) ∙ part_clock (home_of L s b) m b up ∙ tick_clock old small' ∙ ap (λ v. v + 1) was in
          ((λ lt. now), (λ le. let no : ⊥ = omega arith in absurd no))
      | inr ne ↦
          let up = tick_once old in
          let p = part_at (home_of L s b) m b up in
          let e' = sym (get_set_other m.cores b c p.core ne) ∙ e in
          let r = h c core e' in
          ((λ lt. let lt' : c < b = omega arith in r.0 lt'), (λ le. let le' : b ≤ c = omega arith in r.1 le'))
    ]

rounds_clock : (L : Image) (s : Stim) (m : Machine) (n b : ℕ) → n + 1 < 2 ^ 32 → AllAt m.cores n → Between (rounds_at L s m b).cores b n
unfolding rounds_at
rounds_clock L s m n zero small h = λ c core e. ((λ lt. let no : ⊥ = omega arith in absurd no), (λ le. h c core e))
rounds_clock L s m n (suc b) small h = round_clock L s (rounds_at L s m b) b n small (rounds_clock L s m n b small h)

pub four_cores : (L : Image) (s : Stim) (m : Machine) (b : ℕ) → length (rounds_at L s m b).cores ≡ length m.cores
unfolding rounds_at round_at
four_cores L s m zero = refl
four_cores L s m (suc b) = go (slice_get (rounds_at L s m b).cores b) ∙ four_cores L s m b
  where
    go : (o : Option CoreState) → length (round_there (home_of L s b) (rounds_at L s m b) b o).cores ≡ length (rounds_at L s m b).cores
    go None = refl
    go (Some core) = length_set (rounds_at L s m b).cores b _

pub lockstep_four : (L : Image) (s : Stim) (n : ℕ) → length (lockstep L s n).cores ≡ 4
unfolding lockstep
lockstep_four L s zero = refl
lockstep_four L s (suc n) = four_cores L s (lockstep L s n) 4 ∙ lockstep_four L s n

boot_clock : (L : Image) → AllAt (boot L).cores 0
boot_clock L zero core e = ap (λ (k : CoreState). k.clock) (sym (some_is _ core e))
boot_clock L (suc zero) core e = ap (λ (k : CoreState). k.clock) (sym (some_is _ core e))
boot_clock L (suc (suc zero)) core e = ap (λ (k : CoreState). k.clock) (sym (some_is _ core e))
boot_clock L (suc (suc (suc zero))) core e = ap (λ (k : CoreState). k.clock) (sym (some_is _ core e))
boot_clock L (suc (suc (suc (suc c)))) core e = cc

pub lockstep_clock : (L : Image) (s : Stim) (n : ℕ) → n < 2 ^ 32 → AllAt (lockstep L s n).cores n
unfolding lockstep
lockstep_clock L s zero h = boot_clock L
lockstep_clock L s (suc n) h = λ c core e.
    let less : n < 2 ^ 32 = omega (arith, h) in
    let small : n + 1 < 2 ^ 32 = omega (arith, h) in
    let all = rounds_clock L s (lockstep L s n) n 4 small (lockstep_clock L s n less) in
    let lt = get_below (rounds_at L s (lockstep L s n) 4).cores c core e in
    let four = four_cores L s (lockstep L s n) 4 ∙ lockstep_four L s n in
    let below : c < 4 = omega (arith, lt, four) in
    let r = (all c core e).0 below in
    omega (arith, r)
