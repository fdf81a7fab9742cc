-- The run in lockstep is a run of enabled events.
use Rattle.std.proofs.Common.{◌≡◌, ℕ, zero, suc, ◌+◌, Bool, true, false, List, [], ◌∷◌, ◌++◌, length, Option, Some, None, refl, sym, ap, ◌∙◌, le_refl, length-append, arith}
use Rattle.std.specs.Prelude.{slice_get, slice_set, nat_lt}
use Rattle.xs_instr.specs.declared.image.Image.{Image}
use Rattle.xs_instr.specs.declared.image.Stim.{Stim}
use Rattle.xs_instr.specs.declared.state.CoreState.{CoreState}
use Rattle.xs_instr.specs.declared.state.Item.{Item}
use Rattle.xs_instr.specs.declared.trace.Record.{Record}
use Rattle.xs_instr.specs.Did.{Did, Made, Paused, Traps, Idle, is_step}
use Rattle.xs_instr.specs.Slot.{slot, is_ready, last_clock, trapped, fault_of}
use Rattle.xw_words.specs.Words.{truth}
use Rattle.xs_instr.specs.Machine.{Machine, Event, Step, Tick, Move, and_then, does, runs, boot, home_of, link_of, link_put, on_links, noted, came}
use Rattle.xs_fabric.specs.Lockstep.{Part, after, turn, turns, tick_if, tick_once, all_came, core_round, is_due, due_by, due_of, late_by, late_of, due_from, late_from, part_at, round_there, round_at, rounds_at, lockstep, steps_in, events_there, events_in}
use Rattle.xs_fabric.specs.Runs.{Leads}
use Rattle.xs_core.proofs.Lists.{set_same, get_set, set_twice, append_nothing, append_three}
use Rattle.xs_fabric.proofs.Links.{Links, put_same, put_twice, get_put, late_keeps, on_links_append}

runs_on : (L : Image) (s : Stim) (es fs : List Event) (m m' m'' : Machine) → runs L s m es ≡ Some m' → runs L s m' fs ≡ Some m'' → runs L s m (es ++ fs) ≡ Some m''
runs_on L s [] fs m m' m'' h g = let e : m ≡ m' = cc in rw e g
runs_on L s (e ∷ es) fs m m' m'' h g = go (does L s m e) h (λ n k. runs_on L s es fs n m' m'' k g)
  where
    go : (o : Option Machine) → and_then o (λ n. runs L s n es) ≡ Some m' → ((n : Machine) → runs L s n es ≡ Some m' → runs L s n (es ++ fs) ≡ Some m'') → and_then o (λ n. runs L s n (es ++ fs)) ≡ Some m''
    go None h next = cc
    go (Some n) h next = next n h

pub then_leads : (L : Image) (s : Stim) (m m' m'' : Machine) → Leads L s m m' → Leads L s m' m'' → Leads L s m m''
then_leads L s m m' m'' a b = record { events = a.events ++ b.events; to = runs_on L s a.events b.events m m' m'' a.to b.to }

pub stays : (L : Image) (s : Stim) (m m' : Machine) → m ≡ m' → Leads L s m m'
stays L s m m' h = record { events = []; to = ap (λ x. Some x) h }

pub one_event : (L : Image) (s : Stim) (m m' : Machine) (e : Event) → does L s m e ≡ Some m' → Leads L s m m'
one_event L s m m' e h = record { events = e ∷ []; to = rw h refl }

pub leads_at : (L : Image) (s : Stim) (m m' m'' : Machine) → Leads L s m m' → m' ≡ m'' → Leads L s m m''
leads_at L s m m' m'' a e = record { events = a.events; to = a.to ∙ ap (λ x. Some x) e }

-- as many events lead from m to m'
pub record Counted (L : Image) (s : Stim) (m m' : Machine) (n : ℕ) : Type 0 where
  pub leads : Leads L s m m'
  pub count : length leads.events ≡ n

then_counted : (L : Image) (s : Stim) (m m' m'' : Machine) (j k : ℕ) → Counted L s m m' j → Counted L s m' m'' k → Counted L s m m'' (j + k)
unfolding then_leads
then_counted L s m m' m'' j k a b =
    let both = length-append a.leads.events b.leads.events in
    let one = a.count in
    let two = b.count in
    record { leads = then_leads L s m m' m'' a.leads b.leads; count = omega (arith, both, one, two) }

stays_counted : (L : Image) (s : Stim) (m m' : Machine) → m ≡ m' → Counted L s m m' 0
unfolding stays
stays_counted L s m m' h = record { leads = stays L s m m' h; count = refl }

one_counted : (L : Image) (s : Stim) (m m' : Machine) (e : Event) → does L s m e ≡ Some m' → Counted L s m m' 1
unfolding one_event
one_counted L s m m' e h = record { leads = one_event L s m m' e h; count = refl }

counted_at : (L : Image) (s : Stim) (m m' m'' : Machine) (j k : ℕ) → Counted L s m m' j → m' ≡ m'' → j ≡ k → Counted L s m m'' k
unfolding leads_at
counted_at L s m m' m'' j k a e f = record { leads = leads_at L s m m' m'' a.leads e; count = a.count ∙ f }

abbrev pub machine : List CoreState → Links → List Record → Machine
machine cores links trace = record { cores = cores; links = links; trace = trace }

-- the machine with core c as in p, since it stood as in m
abbrev pub put : Machine → ℕ → Part → Machine
put m c p = machine (slice_set m.cores c p.core) (on_links m.links c p.sent) (m.trace ++ p.made)

noted_on : (xs ys : List Record) (r : Option Record) → noted (xs ++ ys) r ≡ xs ++ noted ys r
noted_on xs ys None = refl
noted_on xs ys (Some r) = append_three xs ys (r ∷ [])

pub came_append : (core : CoreState) (xs ys : List Item) → all_came core (xs ++ ys) ≡ all_came (all_came core xs) ys
came_append core [] ys = refl
came_append core (x ∷ xs) ys = came_append (came core x.moved) xs ys

module _ (L : Image) (s : Stim) (c : ℕ) where
  after_counted : (m : Machine) (core : CoreState) (p : Part) (t : ℕ) (d : Did CoreState) → slice_get m.cores c ≡ Some core → slot (home_of L s c) p.core t ≡ d → Counted L s (put m c p) (put m c (after (home_of L s c) p t d)) (truth (is_step d))
  after_counted m core p t (Made new made sent) g e =
      let here = get_set m.cores c core p.core g in
      counted_at L s (put m c p) _ _ 1 1
      (one_counted L s (put m c p) (machine (slice_set (slice_set m.cores c p.core) c new) (on_links (on_links m.links c p.sent) c sent) (noted (m.trace ++ p.made) made)) (Step c t) (rw (here, e) refl))
      (rw (set_twice m.cores c p.core new, sym (on_links_append m.links c p.sent sent), noted_on m.trace p.made made) refl) refl
  after_counted m core p t (Traps kind) g e =
      let here = get_set m.cores c core p.core g in
      counted_at L s (put m c p) _ _ 1 1
      (one_counted L s (put m c p) (machine (slice_set (slice_set m.cores c p.core) c (trapped p.core t)) (on_links m.links c p.sent) ((m.trace ++ p.made) ++ fault_of (home_of L s c) p.core t kind ∷ [])) (Step c t) (rw (here, e) refl))
      (rw (set_twice m.cores c p.core (trapped p.core t), append_three m.trace p.made (fault_of (home_of L s c) p.core t kind ∷ [])) refl) refl
  after_counted m core p t Paused g e = stays_counted L s (put m c p) _ refl
  after_counted m core p t Idle g e = stays_counted L s (put m c p) _ refl

  -- the turns of the threads below n
  turns_counted : (m : Machine) (core : CoreState) (p : Part) (n : ℕ) → slice_get m.cores c ≡ Some core → Counted L s (put m c p) (put m c (turns (home_of L s c) p n)) (steps_in (home_of L s c) p n)
  unfolding turns turn
  turns_counted m core p zero g = stays_counted L s (put m c p) _ refl
  turns_counted m core p (suc n) g =
      let q = turns (home_of L s c) p n in
      then_counted L s (put m c p) (put m c q) _ (steps_in (home_of L s c) p n) (truth (is_ready (home_of L s c) q.core n)) (turns_counted m core p n g) (after_counted m core q n (slot (home_of L s c) q.core n) g refl)

  tick_counted : (m : Machine) (core : CoreState) (b : Bool) → slice_get m.cores c ≡ Some core → nat_lt core.clock last_clock ≡ b → Counted L s m (record m { cores = slice_set m.cores c (tick_if core b) }) (truth b)
  tick_counted m core true g e = one_counted L s m _ (Tick c) (rw (g, e) refl)
  tick_counted m core false g e = stays_counted L s m _ (ap (λ l. machine l m.links m.trace) (sym (set_same m.cores c core g)))

  pub tick_leads : (m : Machine) (core : CoreState) (b : Bool) → slice_get m.cores c ≡ Some core → nat_lt core.clock last_clock ≡ b → Leads L s m (record m { cores = slice_set m.cores c (tick_if core b) })
  tick_leads m core b g e = (tick_counted m core b g e).leads

  -- the moves of the link from core a, as far as they are due
  moves_counted : (m : Machine) (core : CoreState) (a clock : ℕ) (items : List Item) → slice_get m.cores c ≡ Some core → link_of m.links a c ≡ items → Counted L s m (machine (slice_set m.cores c (all_came core (due_of clock items))) (link_put m.links a c (late_of clock items)) m.trace) (length (due_of clock items))
  moves_counted m core a clock [] g e =
      stays_counted L s m _
      (ap (λ l. machine l m.links m.trace) (sym (set_same m.cores c core g))
      ∙ ap (λ l. machine (slice_set m.cores c core) l m.trace) (sym (ap (λ x. link_put m.links a c x) (sym e) ∙ put_same m.links a c)))
  moves_counted m core a clock (i ∷ items) g e =
      let m1 = machine (slice_set m.cores c (came core i.moved)) (link_put m.links a c items) m.trace in
      go (is_due clock i)
      (moves_counted m1 (came core i.moved) a clock items (get_set m.cores c core (came core i.moved) g) (get_put m.links a c i items items e))
    where
      go : (b : Bool) → Counted L s (machine (slice_set m.cores c (came core i.moved)) (link_put m.links a c items) m.trace) (machine (slice_set (slice_set m.cores c (came core i.moved)) c (all_came (came core i.moved) (due_of clock items))) (link_put (link_put m.links a c items) a c (late_of clock items)) m.trace) (length (due_of clock items)) → Counted L s m (machine (slice_set m.cores c (all_came core (due_by i (due_of clock items) b))) (link_put m.links a c (late_by (i ∷ items) (late_of clock items) b)) m.trace) (length (due_by i (due_of clock items) b))
      go false rest =
          stays_counted L s m _
          (ap (λ l. machine l m.links m.trace) (sym (set_same m.cores c core g))
          ∙ ap (λ l. machine (slice_set m.cores c core) l m.trace) (sym (ap (λ x. link_put m.links a c x) (sym e) ∙ put_same m.links a c)))
      go true rest =
          let m1 = machine (slice_set m.cores c (came core i.moved)) (link_put m.links a c items) m.trace in
          counted_at L s m _ _ (1 + length (due_of clock items)) (suc (length (due_of clock items)))
          (then_counted L s m m1 _ 1 (length (due_of clock items)) (one_counted L s m m1 (Move a c) (rw (e, g) refl)) rest)
          (rw (set_twice m.cores c (came core i.moved) (all_came (came core i.moved) (due_of clock items)), put_twice m.links a c items (late_of clock items)) refl)
          (omega arith)

  -- the moves of the links from the cores below n
  all_moves_counted : (m : Machine) (core : CoreState) (clock n : ℕ) → slice_get m.cores c ≡ Some core → Counted L s m (machine (slice_set m.cores c (all_came core (due_from m.links c clock n))) (late_from m.links c clock n) m.trace) (length (due_from m.links c clock n))
  all_moves_counted m core clock zero g = stays_counted L s m _ (ap (λ l. machine l m.links m.trace) (sym (set_same m.cores c core g)))
  all_moves_counted m core clock (suc n) g =
      let before = due_from m.links c clock n in
      let core1 = all_came core before in
      let links1 = late_from m.links c clock n in
      let m1 = machine (slice_set m.cores c core1) links1 m.trace in
      let link = link_of links1 n c in
      let same = late_keeps m.links c clock n n (le_refl n) in
      let two = moves_counted m1 core1 n clock link (get_set m.cores c core core1 g) refl in
      let both = length-append before (due_of clock (link_of m.links n c)) in
      let alike = ap (λ (l : List Item). length (due_of clock l)) same in
      counted_at L s m _ _ (length before + length (due_of clock link)) (length (before ++ due_of clock (link_of m.links n c)))
      (then_counted L s m m1 _ (length before) (length (due_of clock link)) (all_moves_counted m core clock n g) two)
      (rw (set_twice m.cores c core1 (all_came core1 (due_of clock link)), came_append core before (due_of clock (link_of m.links n c)), same) refl)
      (omega (arith, both, alike))

  pub all_moves_lead : (m : Machine) (core : CoreState) (clock n : ℕ) → slice_get m.cores c ≡ Some core → Leads L s m (machine (slice_set m.cores c (all_came core (due_from m.links c clock n))) (late_from m.links c clock n) m.trace)
  all_moves_lead m core clock n g = (all_moves_counted m core clock n g).leads

  round_counted : (m : Machine) (o : Option CoreState) → slice_get m.cores c ≡ o → Counted L s m (round_there (home_of L s c) m c o) (events_there (home_of L s c) m c o)
  unfolding core_round part_at
  round_counted m None g = stays_counted L s m _ refl
  round_counted m (Some core) g =
      let up = tick_once core in
      let due = due_from m.links c up.clock 4 in
      let m1 = machine (slice_set m.cores c up) m.links m.trace in
      let core2 = all_came up due in
      let m2 = machine (slice_set m.cores c core2) (late_from m.links c up.clock 4) m.trace in
      let base = machine m.cores (late_from m.links c up.clock 4) m.trace in
      let p : Part = record { core = core2; made = []; sent = [] } in
      let ticks = truth (nat_lt core.clock last_clock) in
      let steps = steps_in (home_of L s c) p 8 in
      let one = tick_counted m core (nat_lt core.clock last_clock) g refl in
      let at_p : m2 ≡ put base c p = ap (λ l. machine (slice_set m.cores c core2) (late_from m.links c up.clock 4) l) (sym (append_nothing m.trace)) in
      let two = counted_at L s m1 _ (put base c p) (length due) (length due) (all_moves_counted m1 up up.clock 4 (get_set m.cores c core up g))
      (ap (λ l. machine l (late_from m.links c up.clock 4) m.trace) (set_twice m.cores c up core2) ∙ at_p) refl in
      let three = turns_counted base core p 8 g in
      then_counted L s m (put base c p) _ (ticks + length due) steps (then_counted L s m m1 (put base c p) ticks (length due) one two) three

  pub round_leads : (m : Machine) (o : Option CoreState) → slice_get m.cores c ≡ o → Leads L s m (round_there (home_of L s c) m c o)
  round_leads m o g = (round_counted m o g).leads

-- the parts of the cores below n
pub rounds_counted : (L : Image) (s : Stim) (m : Machine) (n : ℕ) → Counted L s m (rounds_at L s m n) (events_in L s m n)
unfolding rounds_at round_at events_in
rounds_counted L s m zero = stays_counted L s m m refl
rounds_counted L s m (suc n) =
    let m1 = rounds_at L s m n in
    then_counted L s m m1 _ (events_in L s m n) (events_there (home_of L s n) m1 n (slice_get m1.cores n)) (rounds_counted L s m n) (round_counted L s n m1 (slice_get m1.cores n) refl)

pub rounds_lead : (L : Image) (s : Stim) (m : Machine) (n : ℕ) → Leads L s m (rounds_at L s m n)
rounds_lead L s m n = (rounds_counted L s m n).leads

pub lockstep_leads : (L : Image) (s : Stim) (n : ℕ) → Leads L s (boot L) (lockstep L s n)
unfolding lockstep
lockstep_leads L s zero = stays L s (boot L) (boot L) refl
lockstep_leads L s (suc n) = then_leads L s (boot L) (lockstep L s n) _ (lockstep_leads L s n) (rounds_lead L s (lockstep L s n) 4)
