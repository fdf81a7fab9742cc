-- A thread's turn leaves each port declared as it was.
use Rattle.std.proofs.Common.{◌≡◌, ℕ, zero, suc, Bool, true, false, List, [], ◌∷◌, map, Option, Some, None, option_map, refl, sym, ap, ◌∙◌}
use Rattle.std.specs.Prelude.{◌%◌, ◌^◌, slice_get, slice_set}
use Rattle.std.proofs.lemmas.Option.{slice_get-map, same_Some}
use Rattle.xs_instr.specs.declared.image.Home.{Home}
use Rattle.xs_instr.specs.declared.image.PortDecl.{PortDecl}
use Rattle.xs_instr.specs.declared.instr.Cond.{Cond}
use Rattle.xs_instr.specs.declared.instr.GetKind.{GetKind}
use Rattle.xs_instr.specs.declared.instr.GetKind.TheVariants.{Sync as GetSync, Lock as GetLock}
use Rattle.xs_instr.specs.declared.instr.Instr.{Instr}
use Rattle.xs_instr.specs.declared.instr.Instr.TheVariants.{Getr, Freer, Getst, Tinitpc, Tinitdp, Tinitsp, Msync, Ssync, Mjoin, Freet, Out, Outt, Outct, In, Int, Chkct, Setc, Setd, Setpt, Getts, Setv, Eeu, Edu, Clre, Waiteu, Setsr, Clrsr}
use Rattle.xs_instr.specs.declared.instr.Reg.{Reg}
use Rattle.xs_instr.specs.declared.state.CoreState.{CoreState}
use Rattle.xs_instr.specs.declared.state.Mode.{Mode}
use Rattle.xs_instr.specs.declared.state.Mode.TheVariants.{Unused, Waiting, Running, Trapped}
use Rattle.xs_instr.specs.declared.state.Port.{Port}
use Rattle.xs_instr.specs.declared.state.PortGot.{PortGot}
use Rattle.xs_instr.specs.declared.state.Res.{Res}
use Rattle.xs_instr.specs.declared.state.Res.TheVariants.{Port as ResPort, Timer as ResTimer, End as ResEnd}
use Rattle.xs_instr.specs.declared.state.Thread.{Thread}
use Rattle.xs_instr.specs.declared.trace.Record.{Record}
use Rattle.xs_instr.specs.Did.{Did, Given, Made, Paused, Traps, Idle, makes, map_did}
use Rattle.xs_instr.specs.Events.{latched}
use Rattle.xs_instr.specs.Ports.{counter, can_receive, can_send, drives, drives_by, drives_on, is_port_cond, meets, moved_at, port_cond_by, port_cond_set, port_data_set, port_latched, port_latched_at, port_stamp, port_time_set, reads, reads_latched, reads_now, reads_on, time_meets}
use Rattle.xs_instr.specs.Registers.{reg_get}
use Rattle.xs_instr.specs.Resources.{Named, APort, ATimer, AnEnd, ASync, ALock, on_port, usable}
use Rattle.xs_instr.specs.Rows.{gets_with, goes_with, local_row, local_of, put_local, put_ports, out_row, in_row, cond_row, data_row, free_row, get_row, wait_row, end_row, names, row}
use Rattle.xs_instr.specs.Slot.{fetched, event_or_row, instr_at, pick_where, takes_events, turn_of, turn_at, slot}

-- how ports are declared
abbrev pub declared_in : List Port → List PortDecl
declared_in ports = map (λ (p : Port). p.decl) ports

-- a port that is there is declared so
pub declared_there : (xs ys : List Port) (n : ℕ) (port : Port) → declared_in ys ≡ declared_in xs → slice_get xs n ≡ Some port →
    (other : Port) × (slice_get ys n ≡ Some other) × (other.decl ≡ port.decl)
declared_there xs ys n port same there = by (slice_get ys n) refl
  where
    is : option_map (λ (p : Port). p.decl) (slice_get ys n) ≡ Some port.decl
    is =
        sym (slice_get-map (λ (p : Port). p.decl) ys n)
        ∙ ap (λ l. slice_get l n) same
        ∙ slice_get-map (λ (p : Port). p.decl) xs n
        ∙ ap (option_map (λ (p : Port). p.decl)) there

    by : (o : Option Port) → slice_get ys n ≡ o → (other : Port) × (slice_get ys n ≡ Some other) × (other.decl ≡ port.decl)
    by None e = let none : None ≡ Some port.decl = ap (option_map (λ (p : Port). p.decl)) (sym e) ∙ is in absurd (cc)
    by (Some other) e = (other, e, same_Some other.decl port.decl (ap (option_map (λ (p : Port). p.decl)) (sym e) ∙ is))

-- a port is set to one that is declared as it
set_declared : (ports : List Port) (n : ℕ) (port new : Port) → slice_get ports n ≡ Some port → new.decl ≡ port.decl → declared_in (slice_set ports n new) ≡ declared_in ports
set_declared [] n port new there same = refl
set_declared (x ∷ xs) zero port new there same =
    let one : new.decl ≡ x.decl = same ∙ ap (λ (p : Port). p.decl) (sym (same_Some x port there)) in
    ap (λ d. d ∷ declared_in xs) one
set_declared (x ∷ xs) (suc n) port new there same = ap (λ l. x.decl ∷ l) (set_declared xs n port new there same)

-- what a step leaves of ports is declared as they were
abbrev AreDeclared : List Port → Did (List Port) → Type 0
AreDeclared ports (Made left made sent) = declared_in left ≡ declared_in ports
AreDeclared ports Paused = Unit {0}
AreDeclared ports (Traps kind) = Unit {0}
AreDeclared ports Idle = Unit {0}

abbrev AreGiven : List Port → Did (Given (List Port)) → Type 0
AreGiven ports (Made given made sent) = declared_in given.left ≡ declared_in ports
AreGiven ports Paused = Unit {0}
AreGiven ports (Traps kind) = Unit {0}
AreGiven ports Idle = Unit {0}

module _ (home : Home) (clock : ℕ) (ports : List Port) (n : ℕ) (port : Port) (there : slice_get ports n ≡ Some port) where
  drives_by_so : (v : ℕ) (b : Bool) → AreDeclared ports (drives_by home (counter clock) v ports n port b)
  drives_by_so v true = set_declared ports n port (moved_at port (counter clock)) there refl
  drives_by_so v false = tt

  drives_so : (v : ℕ) (b : Bool) → AreDeclared ports (drives_on home (counter clock) v ports n port b)
  drives_so v true = drives_by_so v (time_meets port.time (counter clock))
  drives_so v false = tt

  reads_now_so : (b : Bool) → AreGiven ports (reads_now home clock ports n port b)
  reads_now_so true = set_declared ports n port (moved_at port (counter clock)) there refl
  reads_now_so false = tt

  reads_latched_so : (o : Option PortGot) → AreGiven ports (reads_latched home clock ports n port o)
  reads_latched_so (Some got) = set_declared ports n port (record port { latch = None; stamp = got.stamp }) there refl
  reads_latched_so None = reads_now_so (meets home clock port)

  reads_so : (b : Bool) → AreGiven ports (reads_on home clock ports n port b)
  reads_so true = reads_latched_so port.latch
  reads_so false = tt

  cond_so : (cond : Cond) (b : Bool) → AreDeclared ports (port_cond_by cond ports n port b)
  cond_so cond true = set_declared ports n port (record port { cond = cond; latch = None; time = None }) there refl
  cond_so cond false = tt

-- how ports are declared behind a turn
abbrev declared_after : CoreState → Did CoreState → List PortDecl
declared_after core (Made left made sent) = declared_in left.ports
declared_after core Paused = declared_in core.ports
declared_after core (Traps kind) = declared_in core.ports
declared_after core Idle = declared_in core.ports

-- a part is changed that isn't the ports
told_ports : {A : Type 0} (core : CoreState) (put : A → CoreState) (did : Did A) → ((a : A) → declared_in (put a).ports ≡ declared_in core.ports) → declared_after core (map_did put did) ≡ declared_in core.ports
told_ports core put (Made left made sent) h = h left
told_ports core put Paused h = refl
told_ports core put (Traps kind) h = refl
told_ports core put Idle h = refl

module _ (home : Home) (core : CoreState) (t : ℕ) (thread : Thread) where
  -- the ports are changed
  told_put : (did : Did (List Port)) → AreDeclared core.ports did → declared_after core (map_did (goes_with put_ports core t thread) did) ≡ declared_in core.ports
  told_put (Made left made sent) h = h
  told_put Paused h = refl
  told_put (Traps kind) h = refl
  told_put Idle h = refl

  told_given : (d : Reg) (did : Did (Given (List Port))) → AreGiven core.ports did → declared_after core (map_did (gets_with put_ports core t thread d) did) ≡ declared_in core.ports
  told_given d (Made left made sent) h = h
  told_given d Paused h = refl
  told_given d (Traps kind) h = refl
  told_given d Idle h = refl

  -- what is done with a port that is there
  with_port : (go : ℕ → Port → Did (List Port)) → ((n : ℕ) (port : Port) → slice_get core.ports n ≡ Some port → AreDeclared core.ports (go n port)) → (x : Named) → AreDeclared core.ports (on_port core go x)
  with_port go so (APort n) = by (slice_get core.ports n) refl
    where
      by : (o : Option Port) → slice_get core.ports n ≡ o → AreDeclared core.ports (usable (go n) o)
      by None e = tt
      by (Some port) e = so n port e
  with_port go so _ = tt

  given_port : (go : ℕ → Port → Did (Given (List Port))) → ((n : ℕ) (port : Port) → slice_get core.ports n ≡ Some port → AreGiven core.ports (go n port)) → (x : Named) → AreGiven core.ports (on_port core go x)
  given_port go so (APort n) = by (slice_get core.ports n) refl
    where
      by : (o : Option Port) → slice_get core.ports n ≡ o → AreGiven core.ports (usable (go n) o)
      by None e = tt
      by (Some port) e = so n port e
  given_port go so _ = tt

  of_out : (v : ℕ) (x : Named) → declared_after core (out_row home core t thread v x) ≡ declared_in core.ports
  of_out v (APort p) = told_put _ (with_port (drives home core.clock v core.ports) (λ n port e. drives_so home core.clock core.ports n port e v (can_send port.decl.dir)) (APort p))
  of_out v (AnEnd e) = told_ports core _ _ (λ a. refl)
  of_out v (ALock l) = told_ports core _ _ (λ a. refl)
  of_out v _ = refl

  of_in : (d : Reg) (v : ℕ) (x : Named) → declared_after core (in_row home core t thread d v x) ≡ declared_in core.ports
  of_in d v (APort p) = told_given d _ (given_port (reads home core.clock core.ports) (λ n port e. reads_so home core.clock core.ports n port e (can_receive port.decl.dir)) (APort p))
  of_in d v (ATimer n) = told_ports core _ _ (λ a. refl)
  of_in d v (AnEnd e) = told_ports core _ _ (λ a. refl)
  of_in d v (ALock l) = told_ports core _ _ (λ a. refl)
  of_in d v _ = refl

  of_cond : (cond : Cond) (x : Named) → declared_after core (cond_row core t thread cond x) ≡ declared_in core.ports
  of_cond cond (APort p) = told_put _ (with_port (port_cond_set cond core.ports) (λ n port e. cond_so home core.clock core.ports n port e cond (is_port_cond cond)) (APort p))
  of_cond cond (ATimer n) = told_ports core _ _ (λ a. refl)
  of_cond cond _ = refl

  of_data : (v : ℕ) (x : Named) → declared_after core (data_row core t thread v x) ≡ declared_in core.ports
  of_data v (APort p) = told_put _ (with_port (port_data_set v core.ports) (λ n port e. set_declared core.ports n port (record port { datum = v }) e refl) (APort p))
  of_data v (ATimer n) = told_ports core _ _ (λ a. refl)
  of_data v _ = refl

  of_free : (x : Named) → declared_after core (free_row core t thread x) ≡ declared_in core.ports
  of_free (ASync n) = told_ports core _ _ (λ a. refl)
  of_free (ALock l) = told_ports core _ _ (λ a. refl)
  of_free _ = refl

  of_get : (d : Reg) (kind : GetKind) → declared_after core (get_row home core t thread d kind) ≡ declared_in core.ports
  of_get d GetSync = refl
  of_get d GetLock = refl

  of_wait : (o : Option ℕ) → declared_after core (wait_row core t thread o) ≡ declared_in core.ports
  of_wait None = refl
  of_wait (Some n) = refl

  of_end : (o : Option ℕ) → declared_after core (end_row core t thread o) ≡ declared_in core.ports
  of_end None = refl
  of_end (Some n) = refl

  of_row : (i : Instr) → declared_after core (row home core t thread i) ≡ declared_in core.ports
  of_row (Getr d kind) = of_get d kind
  of_row (Freer r) = of_free (names home thread r)
  of_row Ssync = of_wait thread.tie
  of_row Freet = of_end thread.tie
  of_row (Out r s) = of_out (reg_get thread.regs s) (names home thread r)
  of_row (In d r) = of_in d (reg_get thread.regs r) (names home thread r)
  of_row (Setc r cond) = of_cond cond (names home thread r)
  of_row (Setd r s) = of_data (reg_get thread.regs s) (names home thread r)
  of_row (Setpt r s) =
      let v = reg_get thread.regs s in
      told_put _ (with_port (port_time_set v core.ports) (λ n port e. set_declared core.ports n port (record port { time = Some (v % 2 ^ 16) }) e refl) (names home thread r))
  of_row (Getts d r) = told_given d _ (given_port (port_stamp core.ports) (λ n port e. refl) (names home thread r))
  of_row Clre = refl
  of_row Waiteu = refl
  of_row (Setsr n) = refl
  of_row (Clrsr n) = refl
  of_row (Getst d r) = told_ports core _ _ (λ a. refl)
  of_row (Tinitpc x k) = told_ports core _ _ (λ a. refl)
  of_row (Tinitdp x s) = told_ports core _ _ (λ a. refl)
  of_row (Tinitsp x s) = told_ports core _ _ (λ a. refl)
  of_row (Msync r) = told_ports core _ _ (λ a. refl)
  of_row (Mjoin r) = told_ports core _ _ (λ a. refl)
  of_row (Outt r s) = told_ports core _ _ (λ a. refl)
  of_row (Outct r n) = told_ports core _ _ (λ a. refl)
  of_row (Int d r) = told_ports core _ _ (λ a. refl)
  of_row (Chkct r n) = told_ports core _ _ (λ a. refl)
  of_row (Setv r k) = told_ports core _ _ (λ a. refl)
  of_row (Eeu r) = told_ports core _ _ (λ a. refl)
  of_row (Edu r) = told_ports core _ _ (λ a. refl)
  of_row i = told_ports core (put_local core t thread) (local_row (local_of core thread) i) (λ a. refl)

  of_latched_port : (n : ℕ) (o : Option Port) → slice_get core.ports n ≡ o → declared_in (port_latched_at home core.clock core.ports n o) ≡ declared_in core.ports
  of_latched_port n None e = refl
  of_latched_port n (Some port) e = set_declared core.ports n port (port_latched home core.clock port) e refl

  of_latched : (x : Res) → declared_in (latched home core x).ports ≡ declared_in core.ports
  of_latched (ResPort n) = of_latched_port n (slice_get core.ports n) refl
  of_latched (ResTimer n) = refl
  of_latched (ResEnd n) = refl

  of_fetched : (i : Option Instr) → declared_after core (fetched home core t thread i) ≡ declared_in core.ports
  of_fetched None = refl
  of_fetched (Some i) = of_row i

  of_event_or_row : (i : Option Instr) (o : Option Res) → declared_after core (event_or_row home core t thread i o) ≡ declared_in core.ports
  of_event_or_row i (Some x) = of_latched x
  of_event_or_row i None = of_fetched i

  of_turn : (m : Mode) → declared_after core (turn_of home core t thread m) ≡ declared_in core.ports
  of_turn Running = of_event_or_row (instr_at home thread.pc) (pick_where home core t (takes_events thread (instr_at home thread.pc)))
  of_turn Waiting = refl
  of_turn Unused = refl
  of_turn Trapped = refl

-- what a turn leaves declares its ports as before, whatever record it makes
pub made_declared : (home : Home) (core : CoreState) (t : ℕ) (left : CoreState) (made : Option Record) →
    slot home core t ≡ Made left made [] → declared_in left.ports ≡ declared_in core.ports
made_declared home core t left made is = sym (ap (declared_after core) is) ∙ go (slice_get core.threads t)
  where
    go : (o : Option Thread) → declared_after core (turn_at home core t o) ≡ declared_in core.ports
    go None = refl
    go (Some thread) = of_turn home core t thread thread.mode

-- and so where it makes none
pub same_declared : (home : Home) (core : CoreState) (t : ℕ) (left : CoreState) → slot home core t ≡ makes left →
    declared_in left.ports ≡ declared_in core.ports
same_declared home core t left made = made_declared home core t left None made
