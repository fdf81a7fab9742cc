-- The code that opens a select does what `Opens` says.
use Rattle.std.proofs.Common.{◌≡◌, ℕ, suc, ◌+◌, ◌*◌, ◌≤◌, Bool, true, false, List, [], ◌++◌, length, Some, refl, sym, ap, ◌∙◌, subst, arith, length-append}
use Rattle.std.specs.Prelude.{slice_get}
use Rattle.xw_words.specs.declared.pos.Pos.{Pos}
use Rattle.xs_instr.specs.declared.image.Home.{Home}
use Rattle.xs_instr.specs.declared.instr.Instr.TheVariants.{Clre, Ldc, Setsr}
use Rattle.xs_instr.specs.declared.instr.Reg.{Reg}
use Rattle.xs_instr.specs.declared.instr.Reg.TheVariants.{R9}
use Rattle.xs_instr.specs.declared.state.CoreState.{CoreState}
use Rattle.xs_instr.specs.declared.state.Regs.{Regs}
use Rattle.xs_instr.specs.Events.{cleared}
use Rattle.xs_instr.specs.Lines.{Line, last_or}
use Rattle.xs_instr.specs.OwnSteps.{IsApart, StandAt}
use Rattle.xs_instr.specs.Registers.{reg_get, reg_set}
use Rattle.xc_kernel.specs.declared.statement.KRes.{KRes}
use Rattle.xc_kernel.specs.Plain as kernel
use Rattle.xc_kernel.specs.Eval.{Store}
use Rattle.xc_meaning.specs.Settings.Select.{Enabled, these, wrong, enabled}
use Rattle.xc_meaning.specs.States.Items.{Choice}
use Rattle.xl_expr.specs.declared.plan.Plan.{Plan}
use Rattle.xl_expr.proofs.Ways.{at_pc, turn_row}
use Rattle.xl_par.specs.Opening.{filled}
use Rattle.xl_select.specs.Holes.{holes_in}
use Rattle.xl_select.specs.Opening.{CasesAreLaid, CasesStand, AreApart, Opens, OpeningOutcome, TakingStands, default_targets, is_arming}
use Rattle.xl_select.specs.OpeningCode.{case_count, case_lines, cases_depth, cases_lines, cases_parts, cases_starts, first_end, flag_for, other_ends, opening_lines, resources_from, seen_with, taking_lines}
use Rattle.xl_select.proofs.AllCases.{all_are_last, cases_lead}
use Rattle.xl_select.proofs.Along.{along}
use Rattle.xl_select.proofs.AlongCases.{enabled_along}
use Rattle.xl_select.proofs.Arming.{none_armed}
use Rattle.xl_select.proofs.EventRows.{clearing_leaves, clre_row, events_left}
use Rattle.xl_select.proofs.Filled.{stand_apart}
use Rattle.xl_select.proofs.FlagRows.{ldc_row}
use Rattle.xl_select.proofs.Flags.{Flags, flags_last, nothing_known}
use Rattle.xl_select.proofs.Holes.{cases_open}
use Rattle.xl_select.proofs.Moves.{Opener, Reaches, Stands, behind, its_own, reaches_more, stands_kept}
use Rattle.xl_select.proofs.Passing.{Passing, TakesErrors, after_done}
use Rattle.xl_select.proofs.SetUp.{Declared, SetUp, declared_lasts, set_up_lasts}
use Rattle.xl_select.proofs.Steps.{change_leads, quiet_leads}
use Rattle.xl_select.proofs.Values.{Both, lasts_both}

-- each case has one start
starts_count : (plan : Plan) (ends : List ℕ) (seen : List KRes) (here : ℕ) (last : Pos) (cs : kernel.Cases) →
    length (cases_starts plan ends seen here last cs) ≡ case_count cs
starts_count plan ends seen here last kernel.no_case = refl
starts_count plan ends seen here last (kernel.more_cases (kernel.case guard i ss) cs) =
    let lines = case_lines plan (first_end ends) (flag_for seen i.resource) guard i here last in
    omega (arith, starts_count plan (other_ends ends) (seen_with seen i.resource) (here + length lines) (last_or last lines) cs)

same_done : (e : Enabled) → after_done [] e ≡ e
same_done (these cs) = refl
same_done (wrong kind pos) = refl

arming_r9 : (regs : Regs) (v : ℕ) (r : Reg) → is_arming r ≡ false → reg_get (reg_set regs R9 v) r ≡ reg_get regs r
arming_r9 regs v R9 h = cc
arming_r9 regs v other h = refl

no_flags : (s : ℕ) (words : List ℕ) → Flags s [] [] words
no_flags s words = record { by = λ r f e. cc }

-- at the end stand SETSR, and where the event is taken
taking_stands : (home : Home) (otherwise : Bool) (target : ℕ) (pos : Pos) (pc : ℕ) →
    StandAt home.parts.code pc (filled (taking_lines otherwise pos) (default_targets otherwise target)) →
    (slice_get home.parts.code.instrs pc ≡ Some (Setsr 1)) × (slice_get home.parts.code.«at» pc ≡ Some pos) × TakingStands home otherwise target pos (pc + 1) (pc + length (taking_lines otherwise pos))
taking_stands home true target pos pc st = let e : pc + 1 + 2 ≡ pc + 3 = omega arith in (st.0, st.1, (st.2.0, st.2.1, st.2.2.0, st.2.2.1, e))
taking_stands home false target pos pc st = let e : pc + 1 + 1 ≡ pc + 2 = omega arith in (st.0, st.1, (st.2.0, st.2.1, e))

module _ (o : Opener) (plan : Plan) (ends : List ℕ) (store : Store) (otherwise : Bool) (default_target : ℕ) (pos : Pos) (pc : ℕ)
    (few : length (resources_from [] o.cases) ≤ 112) where
  abbrev middle : List Line
  middle = cases_lines plan ends [] (pc + 2) pos o.cases

  abbrev finish : ℕ
  finish = pc + length (opening_lines plan ends o.cases otherwise pos pc)

  abbrev Out : Enabled → CoreState → Type 0
  Out = OpeningOutcome o.home o.relied o.s o.t o.thread o.first o.places o.cases o.targets otherwise default_target pos finish

  -- behind the cases the next step lets the thread take events
  opened_there : StandAt o.home.parts.code (pc + 2 + length middle) (filled (taking_lines otherwise pos) (default_targets otherwise default_target)) →
      (on : List KRes) (done : List Choice) (b : CoreState) → Passing o (resources_from [] o.cases) on done (pc + 2 + length middle) b → Out (these done) b
  opened_there st on done b h c k =
      let last = taking_lines otherwise pos in
      let index = pc + 2 + length middle in
      let sc = stands_kept o (Both (SetUp o done) (Flags o.s (resources_from [] o.cases) on)) (lasts_both o (SetUp o done) (set_up_lasts o done) (Flags o.s (resources_from [] o.cases) on) (flags_last o (resources_from [] o.cases) on few)) index h.regs b c h.stands k in
      let end_is : index + length last ≡ finish = omega (arith, length-append middle last) in
      let at_end = taking_stands o.home otherwise default_target pos index st in
      record {
        index = index;
        regs = h.regs;
        here = sc.here;
        place = at_end.1;
        others = sc.others;
        within = sc.room.within;
        words = sc.words;
        armed = sc.there.0.armed;
        declared = sc.there.0.declared.by;
        goes = turn_row o.home.parts.code o.relied (IsApart o.s) o.home o.t o.thread o.runs o.quiet refl c index h.regs (Setsr 1) sc.here at_end.0 refl;
        takes = subst (λ n. TakingStands o.home otherwise default_target pos (index + 1) n) end_is at_end.2;
      }

  -- all of it
  opening_leads : cases_depth o.cases ≤ 400 → AreApart o.places o.cases → length o.targets ≡ case_count o.cases →
      StandAt o.home.parts.code pc (filled (opening_lines plan ends o.cases otherwise pos pc) (o.targets ++ default_targets otherwise default_target)) →
      CasesAreLaid plan.vars o.relied o.s o.thread.regs.dp o.first.words store o.cases →
      CasesStand o.home o.relied o.s o.thread.regs.dp plan o.places o.first ends o.cases →
      Stands o (Both (Declared o) (Flags o.s [] [])) pc o.thread.regs o.first →
      Reaches o (Out (enabled store o.cases)) (8 * cases_parts o.cases + 2) o.first
  opening_leads deep different count st laid stands h =
      let k = 8 * cases_parts o.cases + 0 in
      let regs = o.thread.regs in
      let regs' = reg_set regs R9 1 in
      let Goal : CoreState → Type 0 = Out (after_done [] (along store [] o.cases)) in
      let holes : length o.targets ≡ length (holes_in middle (pc + 2)) = count ∙ sym (starts_count plan ends [] (pc + 2) pos o.cases) ∙ ap length (sym (cases_open plan ends [] (pc + 2) pos o.cases)) in
      let two : pc + 1 + 1 ≡ pc + 2 = omega arith in
      let behind_two = subst (λ n. StandAt o.home.parts.code n (filled (middle ++ taking_lines otherwise pos) (o.targets ++ default_targets otherwise default_target))) two st.2.2 in
      let cut = stand_apart o.home.parts.code (pc + 2) middle (taking_lines otherwise pos) o.targets (default_targets otherwise default_target) (pc + 2) holes behind_two in
      let nothing = flags_last o [] [] (omega arith) in
      let errs : TakesErrors o Out = record { by = λ kind at b f. f } in
      subst (λ e. Reaches o (Out e) (8 * cases_parts o.cases + 2) o.first) (same_done (along store [] o.cases) ∙ sym (enabled_along store o.cases))
      (reaches_more o Goal (suc (suc k)) (8 * cases_parts o.cases + 2) o.first (omega arith)
      (change_leads o (Declared o) (declared_lasts o) (Flags o.s [] []) nothing pc regs Goal (suc k) o.first h (SetUp o []) Clre refl
      (λ c t e. record {
        ports = c.ports;
        timers = c.timers;
        events = cleared c.events o.t;
        row_is = clre_row o.home c o.t o.thread pc regs;
        others = clearing_leaves (its_own o) o.t c (at_pc o.thread pc regs) (pc + 1) regs;
        after = record {
          armed = none_armed o.places o.t o.cases o.targets c (behind c o.t (at_pc o.thread pc regs) (pc + 1) regs (events_left c (cleared c.events o.t))) refl;
          declared = record { by = e.by };
        };
      }) st.0
      (λ b g. quiet_leads o (SetUp o []) (set_up_lasts o []) (Flags o.s [] []) nothing (pc + 1) regs Goal k b g (pc + 1 + 1) regs' (Ldc R9 1) refl (arming_r9 regs 1) (λ c f room. ldc_row o.home o.relied o.s o.t o.thread (pc + 1) regs c room R9 1) st.2.0
      (λ d l. cases_lead o plan store different Out errs 0 o.cases o.targets count (all_are_last o) ends [] few deep laid stands (pc + 2) pos cut.0 [] [] (λ on done f m. opened_there cut.1 on done f m) d
      (record { regs = regs'; stands = subst (λ n. Stands o (Both (SetUp o []) (Flags o.s [] [])) n regs' d) two l; one = refl; known = nothing_known })))))

-- so the lines open a select
pub opening_opens : (plan : Plan) (ends : List ℕ) (cases : kernel.Cases) (otherwise : Bool) (pos : Pos) (pc : ℕ) → cases_depth cases ≤ 400 →
    length (resources_from [] cases) ≤ 112 → Opens plan ends cases otherwise pos pc (opening_lines plan ends cases otherwise pos pc)
opening_opens plan ends cases otherwise pos pc deep few = record {
  by = λ home relied s t thread store places targets default_target a count st at_work room laid stands different.
      let o : Opener = record {
        home = home;
        relied = relied;
        s = s;
        t = t;
        thread = thread;
        runs = at_work.runs;
        quiet = at_work.no_events;
        first = a;
        temporaries = room.relied_on;
        places = places;
        cases = cases;
        targets = targets;
      } in
      opening_leads o plan ends store otherwise default_target pos pc few deep different count st laid stands (record {
        here = at_work.here ∙ ap (λ q. Some (record thread { pc = q })) at_work.pc_is;
        room = room;
        others = λ r w. refl;
        words = λ w r l. refl;
        there = (record { by = λ n port own is. (port, is, refl) }, no_flags s a.words);
      });
}
