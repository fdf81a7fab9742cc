-- What the code that sets a variable's words to 0 does.
use Rattle.std.proofs.Common.{zero, suc, None, ◌≡◌, ℕ, ◌+◌, ◌*◌, ◌/◌, ◌%◌, ◌^◌, ◌<◌, Bool, true, false, List, ◌∷◌, length, Option, Some, refl, sym, ap, ◌∙◌, subst, get_or, arith}
use Rattle.xs_instr.specs.Lines.{at_pos}
use Rattle.std.specs.Prelude.{nat_eq, slice_get}
use Rattle.std.proofs.lemmas.Option.{slice_get-get_or, slice_get_within}
use Rattle.xw_words.specs.declared.pos.Pos.{Pos}
use Rattle.xs_instr.specs.declared.image.Code.{Code}
use Rattle.xs_instr.specs.declared.image.Home.{Home}
use Rattle.xs_instr.specs.declared.instr.Instr.{Instr}
use Rattle.xs_instr.specs.declared.instr.Instr.TheVariants.{Ldc, Ldwdp, Stwdp, Stw}
use Rattle.xs_instr.specs.declared.instr.Reg.{Reg}
use Rattle.xs_instr.specs.declared.instr.Reg.TheVariants.{R0, R10, R11}
use Rattle.xs_instr.specs.declared.state.CoreState.{CoreState}
use Rattle.xs_instr.specs.declared.state.Regs.{Regs}
use Rattle.xs_instr.specs.declared.state.Thread.{Thread}
use Rattle.xs_instr.specs.Memory.{address_at, word_at, word_put}
use Rattle.xs_instr.specs.OwnSteps.{RunsAt, StandAt, Within}
use Rattle.xs_instr.specs.Registers.{reg_get, reg_set}
use Rattle.xs_instr.specs.Rows.{loads, stores_at}
use Rattle.xl_expr.specs.declared.plan.VarAt.{VarAt}
use Rattle.xl_expr.specs.declared.plan.VarAt.TheVariants.{Near, Far, Through}
use Rattle.xl_expr.specs.declared.plan.VarPlan.{VarPlan}
use Rattle.xl_expr.specs.Stores.{is_working}
use Rattle.xl_expr.specs.Plans.{var_in}
use Rattle.xl_expr.specs.Targets.{AreAimed}
use Rattle.xl_expr.proofs.GoodCode.{ArePlain, plain_append, plain_aimed}
use Rattle.xl_expr.proofs.Lists.{word_by_same}
use Rattle.xl_expr.proofs.Ways.{own, Fits, Way, way_on, way_leads}
use Rattle.xl_flow.specs.Zeros.{IsOutside, StandsFrom, WordsStand, Zeroed, far_write, near_write, words_set, writes, zero_code, zero_instrs, zero_of}
use Rattle.xl_flow.proofs.Zeroing.{WritesOne, all_written, are_zero, cleared, cleared_size, outside_kept, quiet_sure, store_sure}

-- the address of word i, from the first word's and from dp
pub near_address : (dp n i : ℕ) → address_at dp ((n + i) % 2 ^ 32) ≡ address_at (address_at dp n) i
near_address dp n i = omega arith

-- the registers that the code leaves
module _ (first : Regs) where
  pub record IsReady (regs : Regs) : Type 0 where
    pub r0_is : regs.r0 ≡ 0
    pub dp_is : regs.dp ≡ first.dp
    pub others : (r : Reg) → is_working r ≡ false → reg_get regs r ≡ reg_get first r

  pub record IsBased (base : ℕ) (regs : Regs) : Type 0 where
    pub ready : IsReady regs
    pub r11_is : regs.r11 ≡ base

pub other_r0 : (regs : Regs) (v : ℕ) (r : Reg) → is_working r ≡ false → reg_get (reg_set regs R0 v) r ≡ reg_get regs r
other_r0 regs v R0 h = cc
other_r0 regs v other h = refl

pub other_r10 : (regs : Regs) (v : ℕ) (r : Reg) → is_working r ≡ false → reg_get (reg_set regs R10 v) r ≡ reg_get regs r
other_r10 regs v R10 h = cc
other_r10 regs v other h = refl

pub other_r11 : (regs : Regs) (v : ℕ) (r : Reg) → is_working r ≡ false → reg_get (reg_set regs R11 v) r ≡ reg_get regs r
other_r11 regs v R11 h = cc
other_r11 regs v other h = refl

module _ (code : Code) (relied : ℕ → Bool) (base words : ℕ) (first : Regs) (pos : Pos) (relied_on : (i : ℕ) → i < words → relied (address_at base i / 4) ≡ true) where
  abbrev pub leaves : ℕ → Type 0
  leaves = IsOutside base words

  pub near_one : (n : ℕ) → base ≡ address_at first.dp n → WritesOne code relied leaves (IsReady first) (near_write n) (λ i. address_at base i) pos words
  near_one n base_is i pc regs memory x lt st ready there = record {
    count = 1;
    few = omega arith;
    regs' = regs;
    ready = ready;
    way = (
      own (pc + 1) regs _,
      store_sure code relied leaves (Stwdp R0 ((n + i) % 2 ^ 32)) pc regs memory (address_at base i) x st.0
          (record { row_is = λ h c t th. refl; no_event = refl })
          (relied_on i lt)
          there
          (λ ws.
          ap (λ v. stores_at (own pc regs ws) v (address_at regs.dp ((n + i) % 2 ^ 32))) ready.r0_is
          ∙ ap (λ a. stores_at (own pc regs ws) 0 a) (ap (λ d. address_at d ((n + i) % 2 ^ 32)) ready.dp_is ∙ near_address first.dp n i ∙ ap (λ b. address_at b i) (sym base_is)))
          (λ w l e. l i lt e),
      refl,
    );
  }

  pub far_one : WritesOne code relied leaves (IsBased first base) far_write (λ i. address_at base i) pos words
  far_one i pc regs memory x lt st ready there =
      let regs1 = reg_set regs R10 i in
      let k = ready.ready in
      record {
        count = 2;
        few = omega arith;
        regs' = regs1;
        ready = record { ready = record { r0_is = k.r0_is; dp_is = k.dp_is; others = λ r h. other_r10 regs i r h ∙ k.others r h }; r11_is = ready.r11_is };
        way = (
          own (pc + 1) regs1 memory,
          quiet_sure code relied leaves (Ldc R10 i) regs regs1 memory pc st.0 (record { row_is = λ h c t th. refl; no_event = refl }) (λ ws g. refl),
          (
            own (pc + 1 + 1) regs1 _,
            store_sure code relied leaves (Stw R0 R11 R10) (pc + 1) regs1 memory (address_at base i) x st.2.0
                (record { row_is = λ h c t th. refl; no_event = refl })
                (relied_on i lt)
                there
                (λ ws.
                ap (λ v. stores_at (own (pc + 1) regs1 ws) v (address_at regs1.r11 i)) k.r0_is
                ∙ ap (λ b. stores_at (own (pc + 1) regs1 ws) 0 (address_at b i)) ready.r11_is)
                (λ w l e. l i lt e),
            let e : pc + 1 + 1 ≡ pc + 2 = omega arith in ap (λ p. own p regs1 (word_put memory (address_at base i) 0)) e,
          ),
        );
      }

module _ (home : Home) (relied : ℕ → Bool) (t base words pc : ℕ) (last : Pos) (thread : Thread) (a : CoreState) (at_work : RunsAt t pc thread a) (stand : WordsStand relied a.words base words) where
  abbrev pub my_code : Code
  my_code = home.parts.code

  abbrev pub Leaves : ℕ → Type 0
  Leaves = IsOutside base words

  abbrev all_cleared : List ℕ
  all_cleared = cleared a.words (λ i. address_at base i) words

  pub starts : Fits my_code relied Leaves t thread (own pc thread.regs a.words) a
  starts = record { here = at_work.here ∙ ap (λ p. Some (record thread { pc = p })) at_work.pc_is; words = record { by = λ w r. refl } }

  -- where the thread comes to, its words are 0
  zeroed : (pc' : ℕ) (regs : Regs) → ((r : Reg) → is_working r ≡ false → reg_get regs r ≡ reg_get thread.regs r) → (b : CoreState) → Fits my_code relied Leaves t thread (own pc' regs all_cleared) b → Zeroed relied t thread a.words base words pc' b
  zeroed pc' regs others b f = record {
    regs = regs;
    here = f.here;
    zeros = λ i lt. word_by_same all_cleared b.words (address_at base i) (nat_eq (address_at base i % 4) 0) (f.words.by (address_at base i / 4) (stand.relied_on i lt)) ∙ are_zero a.words (λ j. address_at base j) words stand.there words i (omega arith) lt;
    others = others;
    kept = λ w r outside. f.words.by w r ∙ outside_kept a.words (λ j. address_at base j) words w outside;
    within = λ w r lt.
        let size = cleared_size a.words (λ j. address_at base j) words in
        let there = slice_get-get_or all_cleared w 0 (omega (arith, size, lt)) in
        slice_get_within b.words w (get_or all_cleared w 0) (f.words.by w r ∙ there);
  }

  abbrev pub regs0 : Regs
  regs0 = reg_set thread.regs R0 0

  pub cleared_r0 : IsReady thread.regs regs0
  cleared_r0 = record { r0_is = refl; dp_is = refl; others = λ r h. other_r0 thread.regs 0 r h }

  pub first_step : slice_get my_code.instrs pc ≡ Some (Ldc R0 0) → Way my_code relied Leaves 1 (own pc thread.regs a.words) (own (pc + 1) regs0 a.words)
  first_step st = (own (pc + 1) regs0 a.words, quiet_sure my_code relied Leaves (Ldc R0 0) thread.regs regs0 a.words pc st (record { row_is = λ h c t th. refl; no_event = refl }) (λ ws g. refl), refl)

  near_leads : (n : ℕ) → StandAt my_code pc (at_pos last (Ldc R0 0 ∷ writes (near_write n) words)) → base ≡ address_at thread.regs.dp n → Within home relied Leaves t (Zeroed relied t thread a.words base words (pc + length (at_pos last (Ldc R0 0 ∷ writes (near_write n) words)))) (2 * words + 2) a
  near_leads n st base_is =
      let w = all_written my_code relied Leaves (IsReady thread.regs) (near_write n) (λ i. address_at base i) last words (near_one my_code relied base words thread.regs last stand.relied_on n base_is) a.words stand.there words (pc + 1) regs0 (omega arith) st.2 cleared_r0 in
      let ls = at_pos last (writes (near_write n) words) in
      let e : pc + 1 + length ls ≡ pc + length (at_pos last (Ldc R0 0 ∷ writes (near_write n) words)) = omega arith in
      let f = w.few in
      let all = way_on my_code relied Leaves 1 w.count (own pc thread.regs a.words) (own (pc + 1) regs0 a.words) (own (pc + 1 + length ls) w.regs' all_cleared) (first_step st.0) w.way in
      let others = w.ready.others in
      way_leads my_code relied Leaves home t thread at_work.runs at_work.no_events refl _ (1 + w.count) (2 * words + 2) (own pc thread.regs a.words) (own (pc + 1 + length ls) w.regs' all_cleared) (omega arith) all
      (λ b g. subst (λ p. Zeroed relied t thread a.words base words p b) e (zeroed (pc + 1 + length ls) w.regs' others b g)) a starts

  abbrev pub regs1 : Regs
  regs1 = reg_set regs0 R11 base

  pub second_step : (n : ℕ) → slice_get my_code.instrs (pc + 1) ≡ Some (Ldwdp R11 n) → word_at a.words (address_at thread.regs.dp n) ≡ Some base → relied (address_at thread.regs.dp n / 4) ≡ true → Way my_code relied Leaves 1 (own (pc + 1) regs0 a.words) (own (pc + 1 + 1) regs1 a.words)
  second_step n st there relied_on = (
    own (pc + 1 + 1) regs1 a.words,
    quiet_sure my_code relied Leaves (Ldwdp R11 n) regs0 regs1 a.words (pc + 1) st (record { row_is = λ h c t th. refl; no_event = refl })
        (λ ws g. ap (loads (own (pc + 1) regs0 ws) R11) (word_by_same a.words ws (address_at thread.regs.dp n) (nat_eq (address_at thread.regs.dp n % 4) 0) (g.by (address_at thread.regs.dp n / 4) relied_on) ∙ there)),
    refl,
  )

  far_leads : (n : ℕ) → StandAt my_code pc (at_pos last (Ldc R0 0 ∷ Ldwdp R11 n ∷ writes far_write words)) → word_at a.words (address_at thread.regs.dp n) ≡ Some base → relied (address_at thread.regs.dp n / 4) ≡ true → Within home relied Leaves t (Zeroed relied t thread a.words base words (pc + length (at_pos last (Ldc R0 0 ∷ Ldwdp R11 n ∷ writes far_write words)))) (2 * words + 2) a
  far_leads n st there relied_on =
      let based : IsBased thread.regs base regs1 = record { ready = record { r0_is = refl; dp_is = refl; others = λ r h. other_r11 regs0 base r h ∙ other_r0 thread.regs 0 r h }; r11_is = refl } in
      let w = all_written my_code relied Leaves (IsBased thread.regs base) far_write (λ i. address_at base i) last words (far_one my_code relied base words thread.regs last stand.relied_on) a.words stand.there words (pc + 1 + 1) regs1 (omega arith) st.2.2 based in
      let ls = at_pos last (writes far_write words) in
      let e : pc + 1 + 1 + length ls ≡ pc + length (at_pos last (Ldc R0 0 ∷ Ldwdp R11 n ∷ writes far_write words)) = omega arith in
      let f = w.few in
      let both = way_on my_code relied Leaves 1 1 (own pc thread.regs a.words) (own (pc + 1) regs0 a.words) (own (pc + 1 + 1) regs1 a.words) (first_step st.0) (second_step n st.2.0 there relied_on) in
      let all = way_on my_code relied Leaves 2 w.count (own pc thread.regs a.words) (own (pc + 1 + 1) regs1 a.words) (own (pc + 1 + 1 + length ls) w.regs' all_cleared) both w.way in
      let k = w.ready.ready in
      way_leads my_code relied Leaves home t thread at_work.runs at_work.no_events refl _ (2 + w.count) (2 * words + 2) (own pc thread.regs a.words) (own (pc + 1 + 1 + length ls) w.regs' all_cleared) (omega arith) all
      (λ b g. subst (λ p. Zeroed relied t thread a.words base words p b) e (zeroed (pc + 1 + 1 + length ls) w.regs' k.others b g)) a starts

-- by where the variable stands
pub zero_leads : (home : Home) (relied : ℕ → Bool) (t base words pc : ℕ) (last : Pos) (thread : Thread) (a : CoreState) (place : VarAt) → RunsAt t pc thread a → StandAt home.parts.code pc (at_pos last (zero_instrs place words)) → StandsFrom relied thread.regs.dp a.words place base → WordsStand relied a.words base (words_set place words) → Within home relied (IsOutside base (words_set place words)) t (Zeroed relied t thread a.words base (words_set place words) (pc + length (at_pos last (zero_instrs place words)))) (2 * words_set place words + 2) a
zero_leads home relied t base words pc last thread a (Near n) at_work st from stand = near_leads home relied t base words pc last thread a at_work stand n st from
zero_leads home relied t base words pc last thread a (Far n) at_work st from stand = far_leads home relied t base words pc last thread a at_work stand n st from.0 from.1
zero_leads home relied t base words pc last thread a (Through n) at_work st from stand = far_leads home relied t base 1 pc last thread a at_work stand n st from.0 from.1

-- none of its instructions has a target
writes_plain : (write : ℕ → List Instr) → ((i : ℕ) → ArePlain (write i)) → (words : ℕ) → ArePlain (writes write words)
writes_plain write each zero = tt
writes_plain write each (suc i) = plain_append (writes write i) (write i) (writes_plain write each i) (each i)

instrs_plain : (place : VarAt) (words : ℕ) → ArePlain (zero_instrs place words)
instrs_plain (Near n) words = ((λ size i. tt), writes_plain (near_write n) (λ i. ((λ size j. tt), tt)) words)
instrs_plain (Far n) words = ((λ size i. tt), ((λ size i. tt), writes_plain far_write (λ i. ((λ size j. tt), ((λ size j. tt), tt))) words))
instrs_plain (Through n) words = ((λ size i. tt), ((λ size i. tt), writes_plain far_write (λ i. ((λ size j. tt), ((λ size j. tt), tt))) 1))

pub zero_aimed : (vars : List (Option VarPlan)) (v pc : ℕ) (last : Pos) → AreAimed pc (zero_code vars v last)
zero_aimed vars v pc last = of (var_in vars v)
  where
    of : (found : Option VarPlan) → AreAimed pc (zero_of found last)
    of None = record { by = λ size e. tt }
    of (Some found) = plain_aimed last (zero_instrs found.place found.words) pc (instrs_plain found.place found.words)
