-- The code of one case: its guard off, an earlier one of its resource enabled, or set up itself.
use Rattle.std.proofs.Common.{◌≡◌, ◌≢◌, ℕ, suc, ◌+◌, ◌*◌, ◌<◌, ◌≤◌, Bool, true, false, List, [], ◌∷◌, ◌++◌, length, Option, Some, None, refl, sym, ap, ◌∙◌, subst, arith, inl, length-append}
use Rattle.std.specs.Prelude.{nat_eq, not, slice_get, slice_set}
use Rattle.xw_words.specs.declared.pos.Pos.{Pos}
use Rattle.xs_instr.specs.declared.instr.Instr.TheVariants.{Brff, Brft, Ldwsp, Stwsp}
use Rattle.xs_instr.specs.declared.instr.Reg.{Reg}
use Rattle.xs_instr.specs.declared.instr.Reg.TheVariants.{R0, R9, R10}
use Rattle.xs_instr.specs.declared.state.CoreState.{CoreState}
use Rattle.xs_instr.specs.declared.state.Regs.{Regs}
use Rattle.xs_instr.specs.Lines.{Line, line}
use Rattle.xs_instr.specs.OwnSteps.{StandAt, temporary}
use Rattle.xs_instr.specs.Registers.{reg_get, reg_set}
use Rattle.xc_kernel.specs.declared.statement.KRes.{KRes}
use Rattle.xc_kernel.specs.Plain as kernel
use Rattle.xc_kernel.specs.Values.{Value, word, is_true}
use Rattle.xc_kernel.specs.Eval.{Store}
use Rattle.xc_meaning.specs.Settings.Select.{Enabled, case_by, guarded_case, guard_value}
use Rattle.xc_meaning.specs.Settings.Time.{Timing, passes, timing, timing_by, when_tested}
use Rattle.xc_meaning.specs.States.Items.{Choice, at_time, of_kernel}
use Rattle.xl_expr.specs.declared.plan.Plan.{Plan}
use Rattle.xl_expr.specs.Code.{expression_code}
use Rattle.xl_expr.specs.Measures.{nodes}
use Rattle.xl_expr.proofs.Above.{code_evaluates_above}
use Rattle.xl_expr.proofs.Evaluates.{some_nodes}
use Rattle.xl_expr.proofs.Lists.{stand_back, stand_front}
use Rattle.xl_par.specs.Opening.{filled}
use Rattle.xl_port.specs.Timings.{TimeIsLaid, time_depth, time_nodes, timing_expression}
use Rattle.xl_select.specs.declared.opening.Flag.{Flag}
use Rattle.xl_select.specs.Armed.{case_in}
use Rattle.xl_select.specs.Opening.{AreApart, CaseStands, is_arming}
use Rattle.xl_select.specs.OpeningCode.{arming_lines, case_depth, case_lines, case_parts, first_value, flag_by, guard_lines, past_lines, place_from, seen_by, tested_lines, timed_lines, value_lines}
use Rattle.xl_select.proofs.Along.{first_unless, is_seen, timed_along}
use Rattle.xl_select.proofs.Enabling.{arming_leads, choice_of}
use Rattle.xl_select.proofs.Filled.{stand_cut}
use Rattle.xl_select.proofs.FlagRows.{brff_row, brft_row, ldwsp_row}
use Rattle.xl_select.proofs.Flags.{Flags, Known, done_other, flag_set, flags_last, known_on, known_with, marked, place_few, place_new, place_old}
use Rattle.xl_select.proofs.Holes.{guard_closed, value_closed}
use Rattle.xl_select.proofs.Moves.{Opener, Reaches, Stands, reaches_more, stands_with}
use Rattle.xl_select.proofs.Passing.{Passing, TakesErrors, after_done, one_more_done}
use Rattle.xl_select.proofs.Setting.{when_by}
use Rattle.xl_select.proofs.SetUp.{SetUp, named_in, set_up_lasts}
use Rattle.xl_select.proofs.Steps.{flag_leads, quiet_leads}
use Rattle.xl_select.proofs.Values.{Both, LastsSaved, value_leads}

arming_r10 : (regs : Regs) (v : ℕ) (r : Reg) → is_arming r ≡ false → reg_get (reg_set regs R10 v) r ≡ reg_get regs r
arming_r10 regs v R10 h = cc
arming_r10 regs v other h = refl

-- a flag with its word
abbrev FlagIs : (o : Opener) (seen on : List KRes) (f v : ℕ) → List ℕ → Type 0
FlagIs o seen on f v ws = Flags o.s seen on ws × (slice_get ws (o.s + f) ≡ Some v)

flag_lasts : (o : Opener) (seen on : List KRes) (f v : ℕ) → length seen ≤ 112 → f < 112 → LastsSaved o (FlagIs o seen on f v)
flag_lasts o seen on f v few lt = record {
  by = λ xs ys same h. ((flags_last o seen on few).by xs ys same h.0, same (o.s + f) (o.temporaries f (omega arith)) (inl (omega arith)) ∙ h.1);
}

module _ (o : Opener) (plan : Plan) (store : Store) (end : ℕ) (i : kernel.Input) (guard : Option kernel.Expression) (body : kernel.Statements) (place target : ℕ)
    (case_is : case_in o.cases place ≡ Some (kernel.case guard i body)) (target_is : slice_get o.targets place ≡ Some target)
    (stands : CaseStands o.home o.relied o.s o.thread.regs.dp plan o.places o.first end i) (different : AreApart o.places o.cases)
    (guard_laid : TimeIsLaid plan.vars o.relied o.s o.thread.regs.dp o.first.words store guard)
    (timing_laid : TimeIsLaid plan.vars o.relied o.s o.thread.regs.dp o.first.words store (timing_expression i.time i.condition)) (shallow : case_depth guard i ≤ 400)
    (Rest : List KRes → Enabled) (Out : Enabled → CoreState → Type 0) (errs : TakesErrors o Out) (on : List KRes) (done : List Choice) (n : ℕ) where
  abbrev timed_nodes : ℕ
  timed_nodes = time_nodes (timing_expression i.time i.condition)

  -- what comes of the case where its guard holds
  abbrev Timed : Timing → Enabled
  Timed = timed_along on i (of_kernel body) (Rest on) (Rest (i.resource ∷ on))

  -- where it leads to, by what comes of the case, or by the word of its time or condition

  abbrev Comes : Timing → CoreState → Type 0
  Comes timing = Out (after_done done (Timed timing))

  abbrev Worded : ℕ → CoreState → Type 0
  Worded v = Comes (passes (when_by i.time i.condition v))

  -- where the thread goes on behind the case
  abbrev GoesOn : (seen : List KRes) (pc : ℕ) → Type 0
  GoesOn seen pc = (on' : List KRes) (done' : List Choice) (b : CoreState) → Passing o seen on' done' pc b → Reaches o (Out (after_done done' (Rest on'))) n b

  goes_from : (seen : List KRes) (pc pc' : ℕ) → pc ≡ pc' → GoesOn seen pc' → GoesOn seen pc
  goes_from seen pc pc' e next on' done' b h = next on' done' b (subst (λ k. Passing o seen on' done' k b) e h)

  -- those that are done stand elsewhere
  apart : (seen : List KRes) → Known seen on done → is_seen on i.resource ≡ false → (a : CoreState) → SetUp o done a →
      (k : ℕ) (d : Choice) → slice_get done k ≡ Some d → o.places d.input.resource ≢ o.places i.resource
  apart seen known off a up k d h same =
      done_other seen on done i.resource known off k d h
      (different.by d.input.resource i.resource (named_in o done a up.armed k d h) (place, guard, i, body, case_is, refl) same)

  -- how many steps set it up
  abbrev arming_steps : ℕ
  arming_steps = 2 + (1 + time_nodes (timing_expression i.time i.condition) + suc (suc n))

  module _ (seen : List KRes) (few : length seen ≤ 112) (f : ℕ) (at : place_from 0 seen i.resource ≡ Some f) (known : Known seen on done) where
    -- it is set up where no earlier case of its resource is enabled
    armed_leads : is_seen on i.resource ≡ false → (pc : ℕ) (regs : Regs) → regs.r9 ≡ 1 →
        StandAt o.home.parts.code pc (filled (arming_lines plan end i) (target ∷ [])) →
        GoesOn seen (pc + length (arming_lines plan end i)) →
        (a : CoreState) → Stands o (Both (SetUp o done) (Flags o.s seen (i.resource ∷ on))) pc regs a →
        Reaches o (Worded regs.r0) arming_steps a
    armed_leads off pc regs one st next a h =
        let c = choice_of i body regs.r0 in
        let more = Rest (i.resource ∷ on) in
        let is : after_done done (first_unless (is_seen on i.resource) c (Rest on) more) ≡ after_done (done ++ c ∷ []) more =
        ap (λ b. after_done done (first_unless b c (Rest on) more)) off ∙ one_more_done done c more in
        subst (λ e. Reaches o (Out e) arming_steps a) (sym is)
        (arming_leads o plan end i guard body place target case_is target_is stands done (apart seen known off a h.there.0) (Flags o.s seen (i.resource ∷ on)) (flags_last o seen (i.resource ∷ on) few) pc regs (Out (after_done (done ++ c ∷ []) more)) n st
        (λ regs' b same g. next (i.resource ∷ on) (done ++ c ∷ []) b (record { regs = regs'; stands = g; one = same ∙ one; known = known_on seen on done c f at known })) a h)

    -- by the flag, where an earlier case names its resource
    abbrev tested : ℕ → List Line
    tested pc = tested_lines (record { number = f; is_known = true }) i.pos (arming_lines plan end i) pc

    module _ (pc : ℕ) (regs : Regs) (one : regs.r9 ≡ 1) (st : StandAt o.home.parts.code pc (filled (tested pc) (target ∷ []))) (next : GoesOn seen (pc + length (tested pc))) where
      abbrev lines : List Line
      lines = arming_lines plan end i

      -- where the flag's jump leads
      abbrev behind_arming : ℕ
      behind_arming = pc + 1 + 1 + length (line (Stwsp R9 f) i.pos ∷ lines)

      lt : f < 112
      lt = let x = place_few seen i.resource f at in omega arith

      marks : (ws : List ℕ) → o.s + f < length ws → Flags o.s seen on ws → is_seen on i.resource ≡ false →
          Flags o.s seen (i.resource ∷ on) (slice_set ws (o.s + f) regs.r9)
      marks ws inside h off =
          subst (λ v. Flags o.s seen (marked (is_true v) i.resource on) (slice_set ws (o.s + f) regs.r9)) one
          (flag_set o.s seen seen on i.resource f regs.r9 ws at (λ q k other e. e) off inside h)

      module _ (v : ℕ) where
        abbrev regs_then : Regs
        regs_then = reg_set regs R10 v

        abbrev FlagHas : List ℕ → Type 0
        FlagHas = FlagIs o seen on f v

        -- the flag is set, and the case passed
        passed : (a : CoreState) → is_seen on i.resource ≡ true → Stands o (Both (SetUp o done) FlagHas) (behind_arming) regs_then a →
            Reaches o (Worded regs.r0) n a
        passed a is h =
            let end_is : behind_arming ≡ pc + length (tested pc) = omega arith in
            let c = choice_of i body regs.r0 in
            subst (λ b. Reaches o (Out (after_done done (first_unless b c (Rest on) (Rest (i.resource ∷ on))))) n a) (sym is)
            (next on done a (record {
              regs = regs_then;
              stands = stands_with o (Both (SetUp o done) FlagHas) (Both (SetUp o done) (Flags o.s seen on)) (pc + length (tested pc)) regs_then a (λ e. (e.0, e.1.0))
                  (subst (λ k. Stands o (Both (SetUp o done) FlagHas) k regs_then a) end_is h);
              one = one;
              known = known;
            }))

        -- it is not set, and gets set
        unmarked : (a : CoreState) → is_seen on i.resource ≡ false → Stands o (Both (SetUp o done) FlagHas) (pc + 1 + 1) regs_then a →
            Reaches o (Worded regs.r0) (suc arming_steps) a
        unmarked a off h =
            let end_is : pc + 1 + 1 + 1 + length lines ≡ pc + length (tested pc) = omega arith in
            flag_leads o (SetUp o done) (set_up_lasts o done) FlagHas (flag_lasts o seen on f v few lt) (pc + 1 + 1) regs_then (Worded regs.r0) arming_steps a h
            f (omega (arith, lt)) R9 (Flags o.s seen (i.resource ∷ on)) (λ ws inside g. marks ws inside g.0 off) st.2.2.0
            (λ b g. armed_leads off (pc + 1 + 1 + 1) regs_then one st.2.2.2 (goes_from seen (pc + 1 + 1 + 1 + length lines) (pc + length (tested pc)) end_is next) b g)

        by_flag : (b : Bool) → is_true v ≡ b → is_seen on i.resource ≡ b → (a : CoreState) →
            Stands o (Both (SetUp o done) FlagHas) (pc + 1) regs_then a → Reaches o (Worded regs.r0) (suc (suc arming_steps)) a
        by_flag true e is a h =
            reaches_more o (Worded regs.r0) (suc n) (suc (suc arming_steps)) a (omega arith)
            (quiet_leads o (SetUp o done) (set_up_lasts o done) FlagHas (flag_lasts o seen on f v few lt) (pc + 1) regs_then (Worded regs.r0) n a h
            behind_arming regs_then (Brft R10 behind_arming) refl (λ r w. refl) (λ c g room. brft_row o.home o.relied o.s o.t o.thread (pc + 1) regs_then c room R10 behind_arming true e) st.2.0
            (λ b g. passed b is g))
        by_flag false e is a h =
            quiet_leads o (SetUp o done) (set_up_lasts o done) FlagHas (flag_lasts o seen on f v few lt) (pc + 1) regs_then (Worded regs.r0) (suc arming_steps) a h
            (pc + 1 + 1) regs_then (Brft R10 behind_arming) refl (λ r w. refl) (λ c g room. brft_row o.home o.relied o.s o.t o.thread (pc + 1) regs_then c room R10 behind_arming false e) st.2.0
            (λ b g. unmarked b is g)

      tested_leads : (a : CoreState) → Stands o (Both (SetUp o done) (Flags o.s seen on)) pc regs a →
          Reaches o (Worded regs.r0) (3 + arming_steps) a
      tested_leads a h =
          let x = h.there.1.by i.resource f at in
          let v = x.0 in
          let h' = stands_with o (Both (SetUp o done) (Flags o.s seen on)) (Both (SetUp o done) (FlagIs o seen on f v)) pc regs a (λ e. (e.0, (e.1, x.1))) h in
          reaches_more o (Worded regs.r0) (suc (suc (suc arming_steps))) (3 + arming_steps) a (omega arith)
          (quiet_leads o (SetUp o done) (set_up_lasts o done) (FlagIs o seen on f v) (flag_lasts o seen on f v few lt) pc regs (Worded regs.r0) (suc (suc arming_steps)) a h'
          (pc + 1) (reg_set regs R10 v) (Ldwsp R10 f) refl (arming_r10 regs v) (λ c g room. ldwsp_row o.home o.relied o.s o.t o.thread pc regs c room f (omega (arith, lt)) R10 v g.1) st.0
          (λ b g. by_flag v (is_true v) refl (sym x.2) b g))

  -- the word of the time or condition comes first
  module _ (Kept : List ℕ → Type 0) (saved : LastsSaved o Kept) (pc : ℕ) (last : Pos) (regs : Regs) (k : ℕ) where
    valued_by : (time : Option kernel.Expression) (condition : Option kernel.Condition) →
        TimeIsLaid plan.vars o.relied o.s o.thread.regs.dp o.first.words store (timing_expression time condition) →
        time_depth (timing_expression time condition) ≤ 400 →
        StandAt o.home.parts.code pc (value_lines plan.vars (timing_expression time condition) pc last) →
        ((regs' : Regs) (b : CoreState) → regs'.r9 ≡ regs.r9 → Stands o (Both (SetUp o done) Kept) (pc + length (value_lines plan.vars (timing_expression time condition) pc last)) regs' b → Reaches o (Comes (passes (when_by time condition regs'.r0))) k b) →
        (a : CoreState) → Stands o (Both (SetUp o done) Kept) pc regs a →
        Reaches o (Comes (timing store time condition)) (7 * time_nodes (timing_expression time condition) + k) a
    valued_by (Some x) condition laid deep st next a h =
        value_leads o (SetUp o done) (set_up_lasts o done) Kept saved plan.vars store x pc regs (expression_code plan.vars x first_value pc last) (λ v. Comes (timing_by v at_time)) k
        (λ regs' b g same. next regs' b same g) (λ kind pos b g. errs.by kind pos b g) a h (code_evaluates_above plan.vars x first_value pc last (omega (arith, deep))) st laid
    valued_by None (Some c) laid deep st next a h =
        value_leads o (SetUp o done) (set_up_lasts o done) Kept saved plan.vars store c.value pc regs (expression_code plan.vars c.value first_value pc last) (λ v. Comes (timing_by v (when_tested c.test))) k
        (λ regs' b g same. next regs' b same g) (λ kind pos b g. errs.by kind pos b g) a h (code_evaluates_above plan.vars c.value first_value pc last (omega (arith, deep))) st laid
    valued_by None None laid deep st next a h =
        let e : pc ≡ pc + 0 = omega arith in
        let few : k ≡ 7 * 0 + k = omega arith in
        subst (λ m. Reaches o (Comes (timing store None None)) m a) few
        (next regs a refl (subst (λ m. Stands o (Both (SetUp o done) Kept) m regs a) e h))

  -- how deep the time or condition is
  deep_time : time_depth (timing_expression i.time i.condition) ≤ 400
  deep_time = omega (arith, shallow)

  -- and then the case, by the flag or without it

  module _ (seen : List KRes) (few : length seen ≤ 112) (f : ℕ) (at : place_from 0 seen i.resource ≡ Some f) (known : Known seen on done) (pc : ℕ) (last : Pos) (regs : Regs) (one : regs.r9 ≡ 1) where
    timed_known : StandAt o.home.parts.code pc (filled (timed_lines plan end (record { number = f; is_known = true }) i pc last) (target ∷ [])) →
        GoesOn seen (pc + length (timed_lines plan end (record { number = f; is_known = true }) i pc last)) →
        (a : CoreState) → Stands o (Both (SetUp o done) (Flags o.s seen on)) pc regs a →
        Reaches o (Comes (timing store i.time i.condition)) (7 * timed_nodes + (3 + arming_steps)) a
    timed_known st next a h =
        let value = value_lines plan.vars (timing_expression i.time i.condition) pc last in
        let middle = pc + length value in
        let tested = tested_lines (record { number = f; is_known = true }) i.pos (arming_lines plan end i) middle in
        let cut = stand_cut o.home.parts.code pc value tested (target ∷ []) pc (value_closed plan.vars (timing_expression i.time i.condition) pc last) st in
        let end_is : middle + length tested ≡ pc + length (value ++ tested) = omega (arith, length-append value tested) in
        valued_by (Flags o.s seen on) (flags_last o seen on few) pc last regs (3 + arming_steps) i.time i.condition timing_laid deep_time cut.0
        (λ regs' b same g. tested_leads seen few f at known middle regs' (same ∙ one) cut.1 (goes_from seen (middle + length tested) (pc + length (value ++ tested)) end_is next) b g) a h

    timed_new : (number : ℕ) → is_seen on i.resource ≡ false →
        StandAt o.home.parts.code pc (filled (timed_lines plan end (record { number = number; is_known = false }) i pc last) (target ∷ [])) →
        GoesOn seen (pc + length (timed_lines plan end (record { number = number; is_known = false }) i pc last)) →
        (a : CoreState) → Stands o (Both (SetUp o done) (Flags o.s seen (i.resource ∷ on))) pc regs a →
        Reaches o (Comes (timing store i.time i.condition)) (7 * timed_nodes + arming_steps) a
    timed_new number off st next a h =
        let value = value_lines plan.vars (timing_expression i.time i.condition) pc last in
        let middle = pc + length value in
        let arming = arming_lines plan end i in
        let cut = stand_cut o.home.parts.code pc value arming (target ∷ []) pc (value_closed plan.vars (timing_expression i.time i.condition) pc last) st in
        let end_is : middle + length arming ≡ pc + length (value ++ arming) = omega (arith, length-append value arming) in
        valued_by (Flags o.s seen (i.resource ∷ on)) (flags_last o seen (i.resource ∷ on) few) pc last regs arming_steps i.time i.condition timing_laid deep_time cut.0
        (λ regs' b same g. armed_leads seen few f at known off middle regs' (same ∙ one) cut.1 (goes_from seen (middle + length arming) (pc + length (value ++ arming)) end_is next) b g) a h

  -- by the guard's word in r0 the case is passed, or not

  abbrev Guarded : Value → Enabled
  Guarded v = guarded_case v (Timed (timing store i.time i.condition)) (Rest on)

  abbrev Decides : Value → CoreState → Type 0
  Decides v = Out (after_done done (Guarded v))

  -- the jump past what stands behind the guard
  abbrev past : Flag → ℕ → List Line
  past flag pc = past_lines (Brff R0 0) i.pos (λ m. timed_lines plan end flag i m i.pos) pc

  module _ (Kept : List ℕ → Type 0) (saved : LastsSaved o Kept) (pc : ℕ) (regs : Regs) (target_then k : ℕ) (st : slice_get o.home.parts.code.instrs pc ≡ Some (Brff R0 target_then)) (a : CoreState) (h : Stands o (Both (SetUp o done) Kept) pc regs a) where
    off_leads : nat_eq regs.r0 0 ≡ true →
        ((b : CoreState) → Stands o (Both (SetUp o done) Kept) target_then regs b → Reaches o (Out (after_done done (Rest on))) k b) →
        Reaches o (Decides (word regs.r0)) (suc k) a
    off_leads e next =
        subst (λ b. Reaches o (Out (after_done done (case_by (not b) (Timed (timing store i.time i.condition)) (Rest on)))) (suc k) a) (sym e)
        (quiet_leads o (SetUp o done) (set_up_lasts o done) Kept saved pc regs (Out (after_done done (Rest on))) k a h target_then regs (Brff R0 target_then) refl (λ r w. refl)
        (λ c g room. brff_row o.home o.relied o.s o.t o.thread pc regs c room R0 target_then true e) st next)

    holds_leads : nat_eq regs.r0 0 ≡ false →
        ((b : CoreState) → Stands o (Both (SetUp o done) Kept) (pc + 1) regs b → Reaches o (Comes (timing store i.time i.condition)) k b) →
        Reaches o (Decides (word regs.r0)) (suc k) a
    holds_leads e next =
        subst (λ b. Reaches o (Out (after_done done (case_by (not b) (Timed (timing store i.time i.condition)) (Rest on)))) (suc k) a) (sym e)
        (quiet_leads o (SetUp o done) (set_up_lasts o done) Kept saved pc regs (Comes (timing store i.time i.condition)) k a h (pc + 1) regs (Brff R0 target_then) refl (λ r w. refl)
        (λ c g room. brff_row o.home o.relied o.s o.t o.thread pc regs c room R0 target_then false e) st next)

  -- a case whose resource an earlier one names
  module _ (seen : List KRes) (few : length seen ≤ 112) (f : ℕ) (at : place_from 0 seen i.resource ≡ Some f) (known : Known seen on done) where
    abbrev known_flag : Flag
    known_flag = record { number = f; is_known = true }

    abbrev known_steps : ℕ
    known_steps = 7 * timed_nodes + (3 + arming_steps)

    known_by_word : (pc : ℕ) (regs : Regs) → regs.r9 ≡ 1 → StandAt o.home.parts.code pc (filled (past known_flag pc) (target ∷ [])) →
        GoesOn seen (pc + length (past known_flag pc)) →
        (w : Bool) → nat_eq regs.r0 0 ≡ w → (a : CoreState) → Stands o (Both (SetUp o done) (Flags o.s seen on)) pc regs a →
        Reaches o (Decides (word regs.r0)) (suc known_steps) a
    known_by_word pc regs one st next true e a h =
        let timed = timed_lines plan end known_flag i (pc + 1) i.pos in
        let end_is : pc + 1 + length timed ≡ pc + length (past known_flag pc) = omega arith in
        reaches_more o (Decides (word regs.r0)) (suc n) (suc known_steps) a (omega arith)
        (off_leads (Flags o.s seen on) (flags_last o seen on few) pc regs (pc + 1 + length timed) n st.0 a h e
        (λ b g. goes_from seen (pc + 1 + length timed) (pc + length (past known_flag pc)) end_is next on done b (record { regs = regs; stands = g; one = one; known = known })))
    known_by_word pc regs one st next false e a h =
        let timed = timed_lines plan end known_flag i (pc + 1) i.pos in
        let end_is : pc + 1 + length timed ≡ pc + length (past known_flag pc) = omega arith in
        holds_leads (Flags o.s seen on) (flags_last o seen on few) pc regs (pc + 1 + length timed) known_steps st.0 a h e
        (λ b g. timed_known seen few f at known (pc + 1) i.pos regs one st.2 (goes_from seen (pc + 1 + length timed) (pc + length (past known_flag pc)) end_is next) b g)

    known_leads : (g : Option kernel.Expression) → TimeIsLaid plan.vars o.relied o.s o.thread.regs.dp o.first.words store g →
        time_depth g ≤ 400 → (pc : ℕ) (last : Pos) →
        StandAt o.home.parts.code pc (filled (case_lines plan end known_flag g i pc last) (target ∷ [])) →
        GoesOn seen (pc + length (case_lines plan end known_flag g i pc last)) → (a : CoreState) (regs : Regs) → regs.r9 ≡ 1 →
        Stands o (Both (SetUp o done) (Flags o.s seen on)) pc regs a → Reaches o (Decides (guard_value store g)) (8 * case_parts g i + n) a
    known_leads None laid deep pc last st next a regs one h =
        let e : pc + 0 ≡ pc = omega arith in
        let st' = subst (λ m. StandAt o.home.parts.code pc (filled (timed_lines plan end known_flag i m last) (target ∷ []))) e st in
        let next' = subst (λ m. GoesOn seen (pc + length (timed_lines plan end known_flag i m last))) e next in
        reaches_more o (Decides (guard_value store None)) known_steps (8 * case_parts None i + n) a (omega arith)
        (timed_known seen few f at known pc last regs one st' next' a h)
    known_leads (Some x) laid deep pc last st next a regs one h =
        let value = expression_code plan.vars x first_value pc last in
        let front = guard_lines plan.vars known_flag i.pos (Some x) pc last in
        let middle = pc + length front in
        let inner = past known_flag middle in
        let cut = stand_cut o.home.parts.code pc front inner (target ∷ []) pc (guard_closed plan end i known_flag (Some x) pc last) st in
        let middle_is : pc + length value ≡ middle = omega (arith, length-append value []) in
        let end_is : middle + length inner ≡ pc + length (front ++ inner) = omega (arith, length-append front inner) in
        let some = some_nodes x in
        reaches_more o (Decides (guard_value store (Some x))) (7 * nodes x + suc known_steps) (8 * case_parts (Some x) i + n) a (omega arith)
        (value_leads o (SetUp o done) (set_up_lasts o done) (Flags o.s seen on) (flags_last o seen on few) plan.vars store x pc regs value Decides (suc known_steps)
        (λ regs' b g same. known_by_word middle regs' (same ∙ one) cut.1 (goes_from seen (middle + length inner) (pc + length (front ++ inner)) end_is next) (nat_eq regs'.r0 0) refl b (subst (λ m. Stands o (Both (SetUp o done) (Flags o.s seen on)) m regs' b) middle_is g))
        (λ kind pos b g. errs.by kind pos b g) a h (code_evaluates_above plan.vars x first_value pc last (omega (arith, deep))) (stand_front o.home.parts.code pc value [] cut.0) laid)

  -- a case that names a resource for the first time
  module _ (seen : List KRes) (few : length (seen ++ i.resource ∷ []) ≤ 112) (new : place_from 0 seen i.resource ≡ None) (known : Known seen on done) where
    abbrev new_flag : Flag
    new_flag = record { number = length seen; is_known = false }

    abbrev seen' : List KRes
    seen' = seen ++ i.resource ∷ []

    abbrev new_steps : ℕ
    new_steps = 7 * timed_nodes + arming_steps

    fits : length seen < temporary
    fits = omega (arith, few, length-append seen (i.resource ∷ []))

    fewer : length seen ≤ 112
    fewer = omega (arith, few, length-append seen (i.resource ∷ []))

    known' : Known (seen ++ i.resource ∷ []) on done
    known' = known_with seen i.resource on done known

    -- its flag gets a word
    noted : (v : ℕ) (ws : List ℕ) → o.s + length seen < length ws → Flags o.s seen on ws →
        Flags o.s (seen ++ i.resource ∷ []) (marked (is_true v) i.resource on) (slice_set ws (o.s + length seen) v)
    noted v ws inside h =
        flag_set o.s seen (seen ++ i.resource ∷ []) on i.resource (length seen) v ws (place_new seen i.resource new) (place_old seen i.resource new) (known.on_seen i.resource new) inside h

    new_by_word : (pc : ℕ) (regs : Regs) → regs.r9 ≡ 1 → StandAt o.home.parts.code pc (filled (past new_flag pc) (target ∷ [])) →
        GoesOn seen' (pc + length (past new_flag pc)) →
        (w : Bool) → nat_eq regs.r0 0 ≡ w → (a : CoreState) →
        Stands o (Both (SetUp o done) (Flags o.s seen' (marked (not w) i.resource on))) pc regs a →
        Reaches o (Decides (word regs.r0)) (suc new_steps) a
    new_by_word pc regs one st next true e a h =
        let timed = timed_lines plan end new_flag i (pc + 1) i.pos in
        let end_is : pc + 1 + length timed ≡ pc + length (past new_flag pc) = omega arith in
        reaches_more o (Decides (word regs.r0)) (suc n) (suc new_steps) a (omega arith)
        (off_leads (Flags o.s seen' on) (flags_last o seen' on few) pc regs (pc + 1 + length timed) n st.0 a h e
        (λ b g. goes_from seen' (pc + 1 + length timed) (pc + length (past new_flag pc)) end_is next on done b (record { regs = regs; stands = g; one = one; known = known' })))
    new_by_word pc regs one st next false e a h =
        let timed = timed_lines plan end new_flag i (pc + 1) i.pos in
        let end_is : pc + 1 + length timed ≡ pc + length (past new_flag pc) = omega arith in
        holds_leads (Flags o.s seen' (i.resource ∷ on)) (flags_last o seen' (i.resource ∷ on) few) pc regs (pc + 1 + length timed) new_steps st.0 a h e
        (λ b g. timed_new seen' few (length seen) (place_new seen i.resource new) known' (pc + 1) i.pos regs one (length seen) (known.on_seen i.resource new) st.2
        (goes_from seen' (pc + 1 + length timed) (pc + length (past new_flag pc)) end_is next) b g)

    new_leads : (g : Option kernel.Expression) → TimeIsLaid plan.vars o.relied o.s o.thread.regs.dp o.first.words store g →
        time_depth g ≤ 400 → (pc : ℕ) (last : Pos) →
        StandAt o.home.parts.code pc (filled (case_lines plan end new_flag g i pc last) (target ∷ [])) →
        GoesOn seen' (pc + length (case_lines plan end new_flag g i pc last)) → (a : CoreState) (regs : Regs) → regs.r9 ≡ 1 →
        Stands o (Both (SetUp o done) (Flags o.s seen on)) pc regs a → Reaches o (Decides (guard_value store g)) (8 * case_parts g i + n) a
    new_leads None laid deep pc last st next a regs one h =
        let timed = timed_lines plan end new_flag i (pc + 1) i.pos in
        let end_is : pc + 1 + length timed ≡ pc + suc (length timed) = omega arith in
        let Q : CoreState → Type 0 = Decides (guard_value store None) in
        reaches_more o Q (suc new_steps) (8 * case_parts None i + n) a (omega arith)
        (flag_leads o (SetUp o done) (set_up_lasts o done) (Flags o.s seen on) (flags_last o seen on fewer) pc regs Q new_steps a h (length seen) fits R9 (Flags o.s seen' (i.resource ∷ on))
        (λ ws inside g. subst (λ v. Flags o.s seen' (marked (is_true v) i.resource on) (slice_set ws (o.s + length seen) regs.r9)) one (noted regs.r9 ws inside g)) st.0
        (λ b g. timed_new seen' few (length seen) (place_new seen i.resource new) known' (pc + 1) i.pos regs one (length seen) (known.on_seen i.resource new) st.2 (goes_from seen' (pc + 1 + length timed) (pc + suc (length timed)) end_is next) b g))
    new_leads (Some x) laid deep pc last st next a regs one h =
        let value = expression_code plan.vars x first_value pc last in
        let flag = line (Stwsp R0 (length seen)) i.pos ∷ [] in
        let front = guard_lines plan.vars new_flag i.pos (Some x) pc last in
        let middle = pc + length front in
        let inner = past new_flag middle in
        let cut = stand_cut o.home.parts.code pc front inner (target ∷ []) pc (guard_closed plan end i new_flag (Some x) pc last) st in
        let middle_is : pc + length value + 1 ≡ middle = omega (arith, length-append value flag) in
        let end_is : middle + length inner ≡ pc + length (front ++ inner) = omega (arith, length-append front inner) in
        let some = some_nodes x in
        let noting = stand_back o.home.parts.code pc value flag cut.0 in
        reaches_more o (Decides (guard_value store (Some x))) (7 * nodes x + suc (suc new_steps)) (8 * case_parts (Some x) i + n) a (omega arith)
        (value_leads o (SetUp o done) (set_up_lasts o done) (Flags o.s seen on) (flags_last o seen on fewer) plan.vars store x pc regs value Decides (suc (suc new_steps))
        (λ regs' b g same. flag_leads o (SetUp o done) (set_up_lasts o done) (Flags o.s seen on) (flags_last o seen on fewer) (pc + length value) regs' (Decides (word regs'.r0)) (suc new_steps) b g (length seen) fits R0
        (Flags o.s seen' (marked (is_true regs'.r0) i.resource on)) (λ ws inside k. noted regs'.r0 ws inside k) noting.0
        (λ d l. new_by_word middle regs' (same ∙ one) cut.1 (goes_from seen' (middle + length inner) (pc + length (front ++ inner)) end_is next) (nat_eq regs'.r0 0) refl d
        (subst (λ m. Stands o (Both (SetUp o done) (Flags o.s seen' (marked (is_true regs'.r0) i.resource on))) m regs' d) middle_is l)))
        (λ kind pos b g. errs.by kind pos b g) a h (code_evaluates_above plan.vars x first_value pc last (omega (arith, deep))) (stand_front o.home.parts.code pc value flag cut.0) laid)

  -- the case, whether an earlier one names its resource or not
  pub case_leads : (seen : List KRes) (p : Option ℕ) → place_from 0 seen i.resource ≡ p →
      length (seen_by seen i.resource (flag_by (length seen) p).is_known) ≤ 112 → (pc : ℕ) (last : Pos) →
      StandAt o.home.parts.code pc (filled (case_lines plan end (flag_by (length seen) p) guard i pc last) (target ∷ [])) →
      GoesOn (seen_by seen i.resource (flag_by (length seen) p).is_known) (pc + length (case_lines plan end (flag_by (length seen) p) guard i pc last)) →
      (a : CoreState) → Passing o seen on done pc a → Reaches o (Decides (guard_value store guard)) (8 * case_parts guard i + n) a
  case_leads seen (Some f) at few pc last st next a h = known_leads seen few f at h.known guard guard_laid (omega (arith, shallow)) pc last st next a h.regs h.one h.stands
  case_leads seen None new few pc last st next a h = new_leads seen few new h.known guard guard_laid (omega (arith, shallow)) pc last st next a h.regs h.one h.stands
