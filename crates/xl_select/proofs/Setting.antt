-- The resource of a case is set for what the case waits for, while the cases that are done stay set up.
use Rattle.std.proofs.Common.{◌≡◌, ◌≢◌, ◌⊎◌, ℕ, suc, ◌+◌, ◌%◌, ◌^◌, true, false, List, length, Option, Some, None, refl, sym, ap, ◌∙◌, subst, arith, inl, inr}
use Rattle.std.specs.Prelude.{slice_get, slice_set}
use Rattle.std.proofs.lemmas.Bool.{cases_eq}
use Rattle.std.proofs.lemmas.Option.{same_Some}
use Rattle.xw_words.specs.declared.pos.Pos.{Pos}
use Rattle.xs_instr.specs.declared.instr.Cond.{Cond}
use Rattle.xs_instr.specs.declared.instr.Cond.TheVariants.{None as NoCond}
use Rattle.xs_instr.specs.declared.instr.Instr.{Instr}
use Rattle.xs_instr.specs.declared.instr.Instr.TheVariants.{Setc, Setd, Setpt}
use Rattle.xs_instr.specs.declared.instr.Reg.TheVariants.{R0, R11}
use Rattle.xs_instr.specs.declared.state.CoreState.{CoreState}
use Rattle.xs_instr.specs.declared.state.Port.{Port}
use Rattle.xs_instr.specs.declared.state.Regs.{Regs}
use Rattle.xs_instr.specs.declared.state.Res.{Res}
use Rattle.xs_instr.specs.declared.state.Res.TheVariants.{Port as ResPort, Timer as ResTimer, End as ResEnd}
use Rattle.xs_instr.specs.declared.state.Timer.{Timer}
use Rattle.xs_instr.specs.Did.{makes}
use Rattle.xs_instr.specs.Lines.{at_pos}
use Rattle.xs_instr.specs.OwnSteps.{StandAt}
use Rattle.xs_instr.specs.Ports.{is_port_cond}
use Rattle.xs_instr.specs.Resources.{APort, ATimer, named}
use Rattle.xs_instr.specs.Rows.{row}
use Rattle.xs_instr.specs.Slot.{is_waiteu}
use Rattle.xs_instr.specs.Timers.{is_timer_cond}
use Rattle.xc_tree.specs.Words.{pinseq_word, pinsneq_word}
use Rattle.xc_kernel.specs.declared.statement.KRes.{KRes}
use Rattle.xc_kernel.specs.declared.statement.KRes.TheVariants.{Port as KPort, Timer as KTimer, Chan as KChan}
use Rattle.xc_kernel.specs.Conditions.{AsksForPins, AsksForTime}
use Rattle.xc_kernel.specs.Plain as kernel
use Rattle.xc_meaning.specs.Settings.Time.{when_tested}
use Rattle.xc_meaning.specs.States.Items.{Choice, When, now, at_time}
use Rattle.xl_expr.specs.ResourceParts.{port_alone, timer_alone}
use Rattle.xl_expr.proofs.Evaluates.{some_nodes}
use Rattle.xl_expr.proofs.Lists.{get_set_other, get_set_same}
use Rattle.xl_expr.proofs.ResourceParts.{others_fewer, port_same, timer_same}
use Rattle.xl_expr.proofs.Ways.{at_pc}
use Rattle.xl_port.specs.Timings.{port_set, time_nodes, timer_set, timing_expression}
use Rattle.xl_select.specs.Armed.{IsSetFor}
use Rattle.xl_select.specs.Opening.{CaseFits, IsOfKind, IsThere, named_at}
use Rattle.xl_select.specs.OpeningCode.{cond_named, setting_instrs, waiting_instrs}
use Rattle.xl_select.proofs.Moves.{AreThere, Opener, Reaches, Stands, behind, its_own, reaches_more, stands_with}
use Rattle.xl_select.proofs.SettingRows.{port_leaves, port_setc_row, port_setd_row, port_setpt_row, ports_left, timer_leaves, timer_setc_row, timer_setd_row, timers_left}
use Rattle.xl_select.proofs.SetUp.{OfPart, SetUp, With, armed_beside, set_up_lasts, with_lasts}
use Rattle.xl_select.proofs.Steps.{change_leads}
use Rattle.xl_select.proofs.Values.{Both, LastsBeside, LastsSaved}

-- what a case waits for, by the word of its time or condition
abbrev pub when_by : Option kernel.Expression → Option kernel.Condition → ℕ → When
when_by (Some x) condition v = at_time v
when_by None (Some condition) v = when_tested condition.test v
when_by None None v = now

-- a port's condition, and a timer's, and what they are set for

port_cond_fits : (test : ℕ) → (test ≡ pinseq_word) ⊎ (test ≡ pinsneq_word) → is_port_cond (cond_named test) ≡ true
port_cond_fits test (inl e) = subst (λ w. is_port_cond (cond_named w) ≡ true) (sym e) refl
port_cond_fits test (inr e) = subst (λ w. is_port_cond (cond_named w) ≡ true) (sym e) refl

abbrev port_asked : (test v : ℕ) → Port → Port
port_asked test v port = record port { cond = cond_named test; latch = None; time = None; datum = v }

port_tested : (test v : ℕ) (port : Port) → (test ≡ pinseq_word) ⊎ (test ≡ pinsneq_word) →
    port_asked test v port ≡ port_set (when_tested test v) port
port_tested test v port (inl e) = subst (λ w. port_asked w v port ≡ port_set (when_tested w v) port) (sym e) refl
port_tested test v port (inr e) = subst (λ w. port_asked w v port ≡ port_set (when_tested w v) port) (sym e) refl

timer_cond_fits : (condition : kernel.Condition) → AsksForTime (Some condition) → is_timer_cond (cond_named condition.test) ≡ true
timer_cond_fits condition e = subst (λ w. is_timer_cond (cond_named w) ≡ true) (sym e) refl

abbrev timer_asked : (test v : ℕ) → Timer → Timer
timer_asked test v timer = record timer { cond = cond_named test; latch = None; datum = v }

timer_tested : (condition : kernel.Condition) (v : ℕ) (timer : Timer) → AsksForTime (Some condition) →
    timer_asked condition.test v timer ≡ timer_set (when_tested condition.test v) timer
timer_tested condition v timer e = subst (λ w. timer_asked w v timer ≡ timer_set (when_tested w v) timer) (sym e) refl

module _ (o : Opener) (done : List Choice) (Flags : List ℕ → Type 0) (saved : LastsSaved o Flags) (regs : Regs) (pos : Pos) (Q : CoreState → Type 0) (m : ℕ) where
  abbrev Apart : Res → Type 0
  Apart at = (n : ℕ) (d : Choice) → slice_get done n ≡ Some d → o.places d.input.resource ≢ at

  -- a port of the thread's own
  module _ (n : ℕ) (own : its_own o (ResPort n)) (apart : Apart (ResPort n)) (there : (b : CoreState) → AreThere o b → IsThere b (ResPort n)) (names : named o.home.number regs.r11 ≡ APort n) where
    abbrev PortIs : (Port → Port) → CoreState → Type 0
    PortIs g b = (port : Port) × (slice_get b.ports n ≡ Some (g port))

    port_part : (g : Port → Port) → OfPart o (ResPort n) (PortIs g)
    port_part g = record { by = λ a b same h. (h.0, port_same a b n same ∙ h.1) }

    after_port : (c : CoreState) (pc : ℕ) (x x' : Port) → slice_get c.ports n ≡ Some x → x'.decl ≡ x.decl → SetUp o done c →
        SetUp o done (behind c o.t (at_pc o.thread pc regs) (pc + 1) regs (ports_left c (slice_set c.ports n x')))
    after_port c pc x x' is decl h = record {
      armed = armed_beside o done (ResPort n) c d apart (λ res e. e) (λ res ne. refl) others h.armed;
      declared = record { by = λ k port mine first. by k (cases_eq k n) port (h.declared.by k port mine first) };
    }
      where
        d : CoreState
        d = behind c o.t (at_pc o.thread pc regs) (pc + 1) regs (ports_left c (slice_set c.ports n x'))

        others : (when : When) (res : Res) → res ≢ ResPort n → IsSetFor c when res →
            IsSetFor (behind c o.t (at_pc o.thread pc regs) (pc + 1) regs (ports_left c (slice_set c.ports n x'))) when res
        others when (ResPort k) ne g = (g.0, get_set_other c.ports n k x' (λ e. ne (ap (λ (j : ℕ). ResPort j) e)) ∙ g.1)
        others when (ResTimer k) ne g = g
        others when (ResEnd k) ne g = tt

        by : (k : ℕ) → (k ≡ n) ⊎ (k ≢ n) → (port : Port) → (port' : Port) × (slice_get c.ports k ≡ Some port') × (port'.decl ≡ port.decl) →
            (port' : Port) × (slice_get (slice_set c.ports n x') k ≡ Some port') × (port'.decl ≡ port.decl)
        by k (inl e) port g =
            let same : g.0 ≡ x = same_Some g.0 x (sym g.1 ∙ ap (λ j. slice_get c.ports j) e ∙ is) in
            (x', ap (λ j. slice_get (slice_set c.ports n x') j) e ∙ get_set_same c.ports n x x' is, decl ∙ ap (λ (p : Port). p.decl) (sym same) ∙ g.2)
        by k (inr ne) port g = (g.0, get_set_other c.ports n k x' ne ∙ g.1, g.2)

    -- an instruction that changes it
    port_leads : (F : CoreState → Type 0) → LastsBeside o F → ((c : CoreState) → F c → SetUp o done c) → (g : Port → Port) →
        ((c : CoreState) → AreThere o c → F c → PortIs g c) →
        (f : Port → Port) → ((x : Port) → (f x).decl ≡ x.decl) → (i : Instr) → is_waiteu (Some i) ≡ false → (pc : ℕ) →
        ((c : CoreState) (x : Port) → slice_get c.ports n ≡ Some x → row o.home c o.t (at_pc o.thread pc regs) i ≡ makes (behind c o.t (at_pc o.thread pc regs) (pc + 1) regs (ports_left c (slice_set c.ports n (f x))))) →
        slice_get o.home.parts.code.instrs pc ≡ Some i → (k : ℕ) →
        ((b : CoreState) → Stands o (Both (With o done (PortIs (λ y. f (g y)))) Flags) (pc + 1) regs b → Reaches o Q k b) →
        (a : CoreState) → Stands o (Both F Flags) pc regs a → Reaches o Q (suc k) a
    port_leads F beside up g found f decl i no_event pc row_is stands k next a h =
        change_leads o F beside Flags saved pc regs Q k a h (With o done (PortIs (λ y. f (g y)))) i no_event
        (λ c t e.
        let y = found c t e in
        let x' = f (g y.0) in
        let d = behind c o.t (at_pc o.thread pc regs) (pc + 1) regs (ports_left c (slice_set c.ports n x')) in
        record {
          ports = slice_set c.ports n x';
          timers = c.timers;
          events = c.events;
          row_is = row_is c (g y.0) y.1;
          others = others_fewer (port_alone n) o.t c d (its_own o) (λ res is. subst (its_own o) (sym is) own) (port_leaves o.home o.t o.thread pc regs c n (g y.0) y.1 names x');
          after = (after_port c pc (g y.0) x' y.1 (decl (g y.0)) (up c e), (y.0, get_set_same c.ports n (g y.0) x' y.1));
        })
        stands next

    -- it is cleared with a condition
    port_cleared : (cond : Cond) → is_port_cond cond ≡ true → (pc : ℕ) → slice_get o.home.parts.code.instrs pc ≡ Some (Setc R11 cond) →
        (k : ℕ) →
        ((b : CoreState) → Stands o (Both (With o done (PortIs (λ y. record y { cond = cond; latch = None; time = None }))) Flags) (pc + 1) regs b → Reaches o Q k b) →
        (a : CoreState) → Stands o (Both (SetUp o done) Flags) pc regs a → Reaches o Q (suc k) a
    port_cleared cond ok pc stands k next a h =
        port_leads (SetUp o done) (set_up_lasts o done) (λ c e. e) (λ y. y) (λ c t e. there c t) (λ x. record x { cond = cond; latch = None; time = None }) (λ x. refl) (Setc R11 cond) refl pc
        (λ c x is. port_setc_row o.home o.t o.thread pc regs c n x is names cond ok) stands k next a h

    port_waits : (time : Option kernel.Expression) (condition : Option kernel.Condition) → AsksForPins condition → (pc : ℕ) →
        StandAt o.home.parts.code pc (at_pos pos (waiting_instrs time condition)) →
        ((b : CoreState) → Stands o (Both (With o done (λ c. IsSetFor c (when_by time condition regs.r0) (ResPort n))) Flags) (pc + length (waiting_instrs time condition)) regs b → Reaches o Q m b) →
        (a : CoreState) → Stands o (Both (SetUp o done) Flags) pc regs a →
        Reaches o Q (1 + time_nodes (timing_expression time condition) + m) a
    port_waits (Some x) condition asks pc st next a h =
        let cleared = λ (y : Port). record y { cond = NoCond; latch = None; time = None } in
        let end : pc + 1 + 1 ≡ pc + 2 = omega arith in
        let some = some_nodes x in
        reaches_more o Q (suc (suc m)) (1 + time_nodes (timing_expression (Some x) condition) + m) a (omega arith)
        (port_cleared NoCond refl pc st.0 (suc m) (λ b g.
        port_leads (With o done (PortIs cleared)) (with_lasts o done (ResPort n) own (PortIs cleared) (port_part cleared)) (λ c e. e.0) cleared (λ c t e. e.1) (λ y. record y { time = Some (regs.r0 % 2 ^ 16) }) (λ y. refl) (Setpt R11 R0) refl (pc + 1)
        (λ c y is. port_setpt_row o.home o.t o.thread (pc + 1) regs c n y is names) st.2.0 m
        (λ c l. next c (subst (λ k. Stands o (Both (With o done (λ q. IsSetFor q (at_time regs.r0) (ResPort n))) Flags) k regs c) end l)) b g) a h)
    port_waits None (Some condition) asks pc st next a h =
        let cond = cond_named condition.test in
        let cleared = λ (y : Port). record y { cond = cond; latch = None; time = None } in
        let end : pc + 1 + 1 ≡ pc + 2 = omega arith in
        let some = some_nodes condition.value in
        let asked = port_asked condition.test regs.r0 in
        reaches_more o Q (suc (suc m)) (1 + time_nodes (timing_expression None (Some condition)) + m) a (omega arith)
        (port_cleared cond (port_cond_fits condition.test asks) pc st.0 (suc m) (λ b g.
        port_leads (With o done (PortIs cleared)) (with_lasts o done (ResPort n) own (PortIs cleared) (port_part cleared)) (λ c e. e.0) cleared (λ c t e. e.1) (λ y. record y { datum = regs.r0 }) (λ y. refl) (Setd R11 R0) refl (pc + 1)
        (λ c y is. port_setd_row o.home o.t o.thread (pc + 1) regs c n y is names) st.2.0 m
        (λ c l. next c (subst (λ k. Stands o (Both (With o done (λ q. IsSetFor q (when_tested condition.test regs.r0) (ResPort n))) Flags) k regs c) end
        (stands_with o (Both (With o done (PortIs asked)) Flags) (Both (With o done (λ q. IsSetFor q (when_tested condition.test regs.r0) (ResPort n))) Flags) (pc + 1 + 1) regs c
        (λ e. ((e.0.0, (e.0.1.0, e.0.1.1 ∙ ap Some (port_tested condition.test regs.r0 e.0.1.0 asks))), e.1)) l))) b g) a h)
    port_waits None None asks pc st next a h = reaches_more o Q (suc m) (1 + time_nodes (timing_expression None None) + m) a (omega arith) (port_cleared NoCond refl pc st.0 m next a h)

  -- a timer of the thread's own
  module _ (n : ℕ) (own : its_own o (ResTimer n)) (apart : Apart (ResTimer n)) (there : (b : CoreState) → AreThere o b → IsThere b (ResTimer n)) (names : named o.home.number regs.r11 ≡ ATimer n) where
    abbrev TimerIs : (Timer → Timer) → CoreState → Type 0
    TimerIs g b = (timer : Timer) × (slice_get b.timers n ≡ Some (g timer))

    timer_part : (g : Timer → Timer) → OfPart o (ResTimer n) (TimerIs g)
    timer_part g = record { by = λ a b same h. (h.0, timer_same a b n same ∙ h.1) }

    after_timer : (c : CoreState) (pc : ℕ) (x' : Timer) → SetUp o done c →
        SetUp o done (behind c o.t (at_pc o.thread pc regs) (pc + 1) regs (timers_left c (slice_set c.timers n x')))
    after_timer c pc x' h = record {
      armed = armed_beside o done (ResTimer n) c d apart (λ res e. e) (λ res ne. refl) others h.armed;
      declared = record { by = λ k port mine first. h.declared.by k port mine first };
    }
      where
        d : CoreState
        d = behind c o.t (at_pc o.thread pc regs) (pc + 1) regs (timers_left c (slice_set c.timers n x'))

        others : (when : When) (res : Res) → res ≢ ResTimer n → IsSetFor c when res →
            IsSetFor (behind c o.t (at_pc o.thread pc regs) (pc + 1) regs (timers_left c (slice_set c.timers n x'))) when res
        others when (ResTimer k) ne g = (g.0, get_set_other c.timers n k x' (λ e. ne (ap (λ (j : ℕ). ResTimer j) e)) ∙ g.1)
        others when (ResPort k) ne g = g
        others when (ResEnd k) ne g = tt

    -- an instruction that changes it
    timer_leads : (F : CoreState → Type 0) → LastsBeside o F → ((c : CoreState) → F c → SetUp o done c) → (g : Timer → Timer) →
        ((c : CoreState) → AreThere o c → F c → TimerIs g c) →
        (f : Timer → Timer) → (i : Instr) → is_waiteu (Some i) ≡ false → (pc : ℕ) →
        ((c : CoreState) (x : Timer) → slice_get c.timers n ≡ Some x → row o.home c o.t (at_pc o.thread pc regs) i ≡ makes (behind c o.t (at_pc o.thread pc regs) (pc + 1) regs (timers_left c (slice_set c.timers n (f x))))) →
        slice_get o.home.parts.code.instrs pc ≡ Some i → (k : ℕ) →
        ((b : CoreState) → Stands o (Both (With o done (TimerIs (λ y. f (g y)))) Flags) (pc + 1) regs b → Reaches o Q k b) →
        (a : CoreState) → Stands o (Both F Flags) pc regs a → Reaches o Q (suc k) a
    timer_leads F beside up g found f i no_event pc row_is stands k next a h =
        change_leads o F beside Flags saved pc regs Q k a h (With o done (TimerIs (λ y. f (g y)))) i no_event
        (λ c t e.
        let y = found c t e in
        let x' = f (g y.0) in
        let d = behind c o.t (at_pc o.thread pc regs) (pc + 1) regs (timers_left c (slice_set c.timers n x')) in
        record {
          ports = c.ports;
          timers = slice_set c.timers n x';
          events = c.events;
          row_is = row_is c (g y.0) y.1;
          others = others_fewer (timer_alone n) o.t c d (its_own o) (λ res is. subst (its_own o) (sym is) own) (timer_leaves o.home o.t o.thread pc regs c n (g y.0) y.1 names x');
          after = (after_timer c pc x' (up c e), (y.0, get_set_same c.timers n (g y.0) x' y.1));
        })
        stands next

    -- it is cleared with a condition
    timer_cleared : (cond : Cond) → is_timer_cond cond ≡ true → (pc : ℕ) → slice_get o.home.parts.code.instrs pc ≡ Some (Setc R11 cond) →
        (k : ℕ) →
        ((b : CoreState) → Stands o (Both (With o done (TimerIs (λ y. record y { cond = cond; latch = None }))) Flags) (pc + 1) regs b → Reaches o Q k b) →
        (a : CoreState) → Stands o (Both (SetUp o done) Flags) pc regs a → Reaches o Q (suc k) a
    timer_cleared cond ok pc stands k next a h =
        timer_leads (SetUp o done) (set_up_lasts o done) (λ c e. e) (λ y. y) (λ c t e. there c t) (λ x. record x { cond = cond; latch = None }) (Setc R11 cond) refl pc
        (λ c x is. timer_setc_row o.home o.t o.thread pc regs c n x is names cond ok) stands k next a h

    timer_waits : (time : Option kernel.Expression) (condition : Option kernel.Condition) → time ≡ None → AsksForTime condition → (pc : ℕ) →
        StandAt o.home.parts.code pc (at_pos pos (waiting_instrs time condition)) →
        ((b : CoreState) → Stands o (Both (With o done (λ c. IsSetFor c (when_by time condition regs.r0) (ResTimer n))) Flags) (pc + length (waiting_instrs time condition)) regs b → Reaches o Q m b) →
        (a : CoreState) → Stands o (Both (SetUp o done) Flags) pc regs a →
        Reaches o Q (1 + time_nodes (timing_expression time condition) + m) a
    timer_waits (Some x) condition none asks pc st next a h = cc
    timer_waits None (Some condition) none asks pc st next a h =
        let cond = cond_named condition.test in
        let cleared = λ (y : Timer). record y { cond = cond; latch = None } in
        let end : pc + 1 + 1 ≡ pc + 2 = omega arith in
        let some = some_nodes condition.value in
        let asked = timer_asked condition.test regs.r0 in
        reaches_more o Q (suc (suc m)) (1 + time_nodes (timing_expression None (Some condition)) + m) a (omega arith)
        (timer_cleared cond (timer_cond_fits condition asks) pc st.0 (suc m) (λ b g.
        timer_leads (With o done (TimerIs cleared)) (with_lasts o done (ResTimer n) own (TimerIs cleared) (timer_part cleared)) (λ c e. e.0) cleared (λ c t e. e.1) (λ y. record y { datum = regs.r0 }) (Setd R11 R0) refl (pc + 1)
        (λ c y is. timer_setd_row o.home o.t o.thread (pc + 1) regs c n y is names) st.2.0 m
        (λ c l. next c (subst (λ k. Stands o (Both (With o done (λ q. IsSetFor q (when_tested condition.test regs.r0) (ResTimer n))) Flags) k regs c) end
        (stands_with o (Both (With o done (TimerIs asked)) Flags) (Both (With o done (λ q. IsSetFor q (when_tested condition.test regs.r0) (ResTimer n))) Flags) (pc + 1 + 1) regs c
        (λ e. ((e.0.0, (e.0.1.0, e.0.1.1 ∙ ap Some (timer_tested condition regs.r0 e.0.1.0 asks))), e.1)) l))) b g) a h)
    timer_waits None None none asks pc st next a h = reaches_more o Q (suc m) (1 + time_nodes (timing_expression None None) + m) a (omega arith) (timer_cleared NoCond refl pc st.0 m next a h)

  -- what a case names is set for what it waits for
  pub setting_leads : (r : KRes) (at : Res) → IsOfKind r at → its_own o at → Apart at → ((b : CoreState) → AreThere o b → IsThere b at) →
      named o.home.number regs.r11 ≡ named_at at → (i : kernel.Input) → CaseFits i r →
      (pc : ℕ) → StandAt o.home.parts.code pc (at_pos pos (setting_instrs r i.time i.condition)) →
      ((b : CoreState) → Stands o (Both (With o done (λ c. IsSetFor c (when_by i.time i.condition regs.r0) at)) Flags) (pc + length (setting_instrs r i.time i.condition)) regs b → Reaches o Q m b) →
      (a : CoreState) → Stands o (Both (SetUp o done) Flags) pc regs a →
      Reaches o Q (1 + time_nodes (timing_expression i.time i.condition) + m) a
  setting_leads (KPort p) (ResPort n) kind own apart there names i fits pc st next a h = port_waits n own apart there names i.time i.condition fits pc st next a h
  setting_leads (KTimer t) (ResTimer n) kind own apart there names i fits pc st next a h = timer_waits n own apart there names i.time i.condition fits.0 fits.1 pc st next a h
  setting_leads (KChan c) (ResEnd n) kind own apart there names i fits pc st next a h =
      let end : pc ≡ pc + 0 = omega arith in
      let Set : CoreState → Type 0 = λ q. IsSetFor q (when_by i.time i.condition regs.r0) (ResEnd n) in
      reaches_more o Q m (1 + time_nodes (timing_expression i.time i.condition) + m) a (omega arith)
      (next a (subst (λ k. Stands o (Both (With o done Set) Flags) k regs a) end
      (stands_with o (Both (SetUp o done) Flags) (Both (With o done Set) Flags) pc regs a (λ e. ((e.0, tt), e.1)) h)))
  setting_leads (KPort p) (ResTimer n) kind own apart there names i fits pc st next a h = absurd kind
  setting_leads (KPort p) (ResEnd n) kind own apart there names i fits pc st next a h = absurd kind
  setting_leads (KTimer t) (ResPort n) kind own apart there names i fits pc st next a h = absurd kind
  setting_leads (KTimer t) (ResEnd n) kind own apart there names i fits pc st next a h = absurd kind
  setting_leads (KChan c) (ResPort n) kind own apart there names i fits pc st next a h = absurd kind
  setting_leads (KChan c) (ResTimer n) kind own apart there names i fits pc st next a h = absurd kind
