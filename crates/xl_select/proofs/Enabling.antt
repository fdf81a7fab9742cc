-- The resource of a case is named, set, given its vector, and enabled: then one more case is set up.
use Rattle.std.proofs.Common.{◌≡◌, ◌≢◌, ◌⊎◌, ℕ, suc, ◌+◌, List, [], ◌∷◌, ◌++◌, length, Option, Some, None, refl, sym, ap, ◌∙◌, subst, arith, inl, inr, length-append}
use Rattle.std.specs.Prelude.{slice_get}
use Rattle.xw_words.specs.declared.pos.Pos.{Pos}
use Rattle.xs_instr.specs.declared.instr.Instr.TheVariants.{Eeu, Setv}
use Rattle.xs_instr.specs.declared.instr.Reg.TheVariants.{R11}
use Rattle.xs_instr.specs.declared.state.CoreState.{CoreState}
use Rattle.xs_instr.specs.declared.state.Events.{Events}
use Rattle.xs_instr.specs.declared.state.Regs.{Regs}
use Rattle.xs_instr.specs.declared.state.Res.{Res}
use Rattle.xs_instr.specs.declared.state.Watch.{Watch}
use Rattle.xs_instr.specs.Events.{enabled, vector_in, vector_of, vector_set, watch_of}
use Rattle.xs_instr.specs.Lines.{at_pos, line, open_line}
use Rattle.xs_instr.specs.OwnSteps.{StandAt}
use Rattle.xs_instr.specs.Registers.{reg_set}
use Rattle.xs_instr.specs.Resources.{named}
use Rattle.xc_kernel.specs.Plain as kernel
use Rattle.xc_meaning.specs.States.Items.{Choice, of_kernel}
use Rattle.xl_expr.specs.declared.plan.Plan.{Plan}
use Rattle.xl_expr.specs.declared.plan.ResAt.{ResAt}
use Rattle.xl_expr.specs.ResourceParts.{owner_in}
use Rattle.xl_expr.proofs.Identified.{code_identifies}
use Rattle.xl_expr.proofs.Lists.{stand_back, stand_front}
use Rattle.xl_expr.proofs.Pieces.{length-at_pos}
use Rattle.xl_expr.proofs.Ways.{at_pc}
use Rattle.xl_port.specs.Resources.{ResourceIs}
use Rattle.xl_port.specs.Timings.{time_nodes, timing_expression}
use Rattle.xl_par.specs.Opening.{filled}
use Rattle.xl_select.specs.Armed.{IsSetFor, case_in}
use Rattle.xl_select.specs.Opening.{CaseStands, IsNamedBy, IsThere, named_at}
use Rattle.xl_select.specs.OpeningCode.{arming_lines, name_instrs, resource_name, setting_instrs}
use Rattle.xl_select.proofs.Arming.{armed_on, same_or_not}
use Rattle.xl_select.proofs.EventRows.{eeu_row, enabling_leaves, events_left, setv_row, vector_leaves}
use Rattle.xl_select.proofs.Filled.{at_pos_both, stand_cut}
use Rattle.xl_select.proofs.Holes.{plain_closed}
use Rattle.xl_select.proofs.Moves.{AreThere, Opener, Reaches, Stands, behind, its_own}
use Rattle.xl_select.proofs.Setting.{setting_leads, when_by}
use Rattle.xl_select.proofs.SetUp.{OfPart, SetUp, With, armed_beside, set_kept, set_same, set_up_lasts, vector_kept, with_lasts}
use Rattle.xl_select.proofs.Steps.{change_leads}
use Rattle.xl_select.proofs.Values.{Both, LastsSaved, name_leads}
use Rattle.xl_select.proofs.Watching.{vector_other, vector_same}

-- a vector leaves for whom each resource is enabled
owner_left : (ev : Events) (at : Res) (k : ℕ) (w : Watch) → watch_of ev at ≡ Some w → (res : Res) → (res ≡ at) ⊎ (res ≢ at) →
    owner_in (watch_of (vector_set ev at k) res) ≡ owner_in (watch_of ev res)
owner_left ev at k w is res (inl e) =
    subst (λ r. owner_in (watch_of (vector_set ev at k) r) ≡ owner_in (watch_of ev r)) (sym e)
    (ap owner_in (vector_same ev at k w is) ∙ sym (ap owner_in is))
owner_left ev at k w is res (inr ne) = ap owner_in (vector_other ev at res k w is ne)

module _ (o : Opener) (done : List Choice) (c : Choice) (guard : Option kernel.Expression) (body : kernel.Statements) (place target : ℕ)
    (case_is : case_in o.cases place ≡ Some (kernel.case guard c.input body)) (body_is : c.body ≡ of_kernel body) (target_is : slice_get o.targets place ≡ Some target)
    (apart : (n : ℕ) (d : Choice) → slice_get done n ≡ Some d → o.places d.input.resource ≢ o.places c.input.resource) (Flags : List ℕ → Type 0) (saved : LastsSaved o Flags) where
  abbrev at : Res
  at = o.places c.input.resource

  named_here : IsNamedBy o.cases c.input.resource
  named_here = (place, guard, c.input, body, case_is, refl)

  own_here : its_own o (o.places c.input.resource)
  own_here = (c.input.resource, named_here, refl)

  there_here : (b : CoreState) → AreThere o b → IsThere b (o.places c.input.resource)
  there_here b t = t.there c.input.resource named_here

  -- it is set, and then has its vector too

  abbrev Ready : CoreState → Type 0
  Ready b = IsSetFor b c.when at

  ready_part : OfPart o at Ready
  ready_part = record { by = λ a b same h. set_kept c.when at a b same h }

  abbrev Aimed : CoreState → Type 0
  Aimed b = IsSetFor b c.when at × (vector_of b.events at ≡ target)

  aimed_part : OfPart o at Aimed
  aimed_part = record { by = λ a b same h. (set_kept c.when at a b same h.0, vector_kept at a b same ∙ h.1) }

  module _ (regs : Regs) (names : named o.home.number regs.r11 ≡ named_at (o.places c.input.resource)) (Q : CoreState → Type 0) (n : ℕ) where
    after_vector : (b : CoreState) (pc : ℕ) (w : Watch) → watch_of b.events at ≡ Some w → With o done Ready b →
        With o done Aimed (behind b o.t (at_pc o.thread pc regs) (pc + 1) regs (events_left b (vector_set b.events at target)))
    after_vector b pc w is h =
        let d = behind b o.t (at_pc o.thread pc regs) (pc + 1) regs (events_left b (vector_set b.events at target)) in (
          record {
            armed = armed_beside o done at b d apart
                (λ res e. sym (owner_left b.events at target w is res (same_or_not res at)) ∙ e) (λ res ne. vector_other b.events at res target w is ne)
                (λ when res ne g. set_same when res b d refl refl g) h.0.armed;
            declared = record { by = λ k port mine first. h.0.declared.by k port mine first };
          },
          (set_same c.when at b d refl refl h.1, ap vector_in (vector_same b.events at target w is)),
        )

    vector_leads : (pc : ℕ) → slice_get o.home.parts.code.instrs pc ≡ Some (Setv R11 target) → (k : ℕ) →
        ((b : CoreState) → Stands o (Both (With o done Aimed) Flags) (pc + 1) regs b → Reaches o Q k b) →
        (a : CoreState) → Stands o (Both (With o done Ready) Flags) pc regs a → Reaches o Q (suc k) a
    vector_leads pc stands k next a h =
        change_leads o (With o done Ready) (with_lasts o done at own_here Ready ready_part) Flags saved pc regs Q k a h (With o done Aimed) (Setv R11 target) refl
        (λ b t e.
        let w = t.watched c.input.resource named_here in
        record {
          ports = b.ports;
          timers = b.timers;
          events = vector_set b.events at target;
          row_is = setv_row o.home b o.t o.thread pc regs at (there_here b t) names target;
          others = vector_leaves (its_own o) o.t b (at_pc o.thread pc regs) (pc + 1) regs at own_here w.0 w.1 target;
          after = after_vector b pc w.0 w.1 e;
        })
        stands next

    after_enabling : (b : CoreState) (pc : ℕ) (w : Watch) → watch_of b.events at ≡ Some w → With o done Aimed b →
        SetUp o (done ++ c ∷ []) (behind b o.t (at_pc o.thread pc regs) (pc + 1) regs (events_left b (enabled b.events at o.t)))
    after_enabling b pc w is h =
        let d = behind b o.t (at_pc o.thread pc regs) (pc + 1) regs (events_left b (enabled b.events at o.t)) in
        record {
          armed = armed_on o.places o.t o.cases o.targets b d done c target w h.0.armed is (sym (ap vector_in is) ∙ h.1.1) refl apart (set_same c.when at b d refl refl h.1.0)
              (λ when res ne g. set_same when res b d refl refl g)
              (record { place = place; guard = guard; body = body; case_is = case_is; body_is = body_is; target_is = target_is });
          declared = record { by = λ k port mine first. h.0.declared.by k port mine first };
        }

    enabling_leads : (pc : ℕ) → slice_get o.home.parts.code.instrs pc ≡ Some (Eeu R11) → (k : ℕ) →
        ((b : CoreState) → Stands o (Both (SetUp o (done ++ c ∷ [])) Flags) (pc + 1) regs b → Reaches o Q k b) →
        (a : CoreState) → Stands o (Both (With o done Aimed) Flags) pc regs a → Reaches o Q (suc k) a
    enabling_leads pc stands k next a h =
        change_leads o (With o done Aimed) (with_lasts o done at own_here Aimed aimed_part) Flags saved pc regs Q k a h (SetUp o (done ++ c ∷ [])) (Eeu R11) refl
        (λ b t e.
        let w = t.watched c.input.resource named_here in
        record {
          ports = b.ports;
          timers = b.timers;
          events = enabled b.events at o.t;
          row_is = eeu_row o.home b o.t o.thread pc regs at (there_here b t) names;
          others = enabling_leaves (its_own o) o.t b (at_pc o.thread pc regs) (pc + 1) regs at own_here w.0 w.1;
          after = after_enabling b pc w.0 w.1 e;
        })
        stands next

    -- a resource that is set is given its vector, and enabled
    watch_leads : (pc : ℕ) (pos : Pos) → StandAt o.home.parts.code pc (line (Setv R11 target) pos ∷ line (Eeu R11) pos ∷ []) →
        ((b : CoreState) → Stands o (Both (SetUp o (done ++ c ∷ [])) Flags) (pc + 2) regs b → Reaches o Q n b) →
        (a : CoreState) → Stands o (Both (With o done Ready) Flags) pc regs a → Reaches o Q (suc (suc n)) a
    watch_leads pc pos st next a h =
        let end : pc + 1 + 1 ≡ pc + 2 = omega arith in
        vector_leads pc st.0 (suc n) (λ b g. enabling_leads (pc + 1) st.2.0 n
        (λ d l. next d (subst (λ k. Stands o (Both (SetUp o (done ++ c ∷ [])) Flags) k regs d) end l)) b g) a h

-- the choice that comes of the word of a time or condition
abbrev pub choice_of : kernel.Input → kernel.Statements → (v : ℕ) → Choice
choice_of i body v = record { input = i; when = when_by i.time i.condition v; body = of_kernel body }

-- all of it, by the lines
module _ (o : Opener) (plan : Plan) (end : ℕ) (i : kernel.Input) (guard : Option kernel.Expression) (body : kernel.Statements) (place target : ℕ)
    (case_is : case_in o.cases place ≡ Some (kernel.case guard i body)) (target_is : slice_get o.targets place ≡ Some target)
    (stands : CaseStands o.home o.relied o.s o.thread.regs.dp plan o.places o.first end i) (done : List Choice)
    (apart : (n : ℕ) (d : Choice) → slice_get done n ≡ Some d → o.places d.input.resource ≢ o.places i.resource) (Flags : List ℕ → Type 0) (saved : LastsSaved o Flags) where
  -- the name, by where the plan has it
  by_name : (named_place : Option ResAt) → ResourceIs o.relied o.s o.thread.regs.dp o.first.words named_place stands.name →
      (pc : ℕ) (regs : Regs) (Q : CoreState → Type 0) (n : ℕ) → StandAt o.home.parts.code pc (at_pos i.pos (name_instrs named_place)) →
      ((b : CoreState) → Stands o (Both (SetUp o done) Flags) (pc + length (at_pos i.pos (name_instrs named_place))) (reg_set regs R11 stands.name) b → Reaches o Q n b) →
      (a : CoreState) → Stands o (Both (SetUp o done) Flags) pc regs a → Reaches o Q (2 + n) a
  by_name None is pc regs Q n st next a h = absurd is
  by_name (Some found) is pc regs Q n st next a h =
      name_leads o (SetUp o done) (set_up_lasts o done) Flags saved found stands.name pc regs (at_pos i.pos (name_instrs (Some found))) Q n next a h (code_identifies found pc i.pos) st is

  pub arming_leads : (pc : ℕ) (regs : Regs) (Q : CoreState → Type 0) (n : ℕ) →
      StandAt o.home.parts.code pc (filled (arming_lines plan end i) (target ∷ [])) →
      ((regs' : Regs) (b : CoreState) → regs'.r9 ≡ regs.r9 → Stands o (Both (SetUp o (done ++ choice_of i body regs.r0 ∷ [])) Flags) (pc + length (arming_lines plan end i)) regs' b → Reaches o Q n b) →
      (a : CoreState) → Stands o (Both (SetUp o done) Flags) pc regs a →
      Reaches o Q (2 + (1 + time_nodes (timing_expression i.time i.condition) + suc (suc n))) a
  arming_leads pc regs Q n st next a h =
      let place_is = resource_name plan end i.resource in
      let names = name_instrs place_is in
      let sets = setting_instrs i.resource i.time i.condition in
      let last = open_line (Setv R11 0) i.pos ∷ line (Eeu R11) i.pos ∷ [] in
      let regs' = reg_set regs R11 stands.name in
      let cut = stand_cut o.home.parts.code pc (at_pos i.pos (names ++ sets)) last (target ∷ []) pc (plain_closed i.pos (names ++ sets) pc) st in
      let both = at_pos_both i.pos names sets in
      let front : StandAt o.home.parts.code pc (at_pos i.pos names ++ at_pos i.pos sets) = subst (λ ls. StandAt o.home.parts.code pc ls) both cut.0 in
      let middle = pc + length (at_pos i.pos names) in
      let behind_all : middle + length sets ≡ pc + length (at_pos i.pos (names ++ sets)) = omega (arith, ap length both, length-append (at_pos i.pos names) (at_pos i.pos sets), length-at_pos i.pos sets) in
      let whole : pc + length (at_pos i.pos (names ++ sets)) + 2 ≡ pc + length (arming_lines plan end i) = omega (arith, length-append (at_pos i.pos (names ++ sets)) last) in
      let Now : CoreState → Type 0 = Both (SetUp o (done ++ choice_of i body regs.r0 ∷ [])) Flags in
      let Set : CoreState → Type 0 = Both (With o done (λ c. IsSetFor c (when_by i.time i.condition regs.r0) (o.places i.resource))) Flags in
      by_name place_is stands.name_is pc regs Q (1 + time_nodes (timing_expression i.time i.condition) + suc (suc n)) (stand_front o.home.parts.code pc (at_pos i.pos names) (at_pos i.pos sets) front)
      (λ b g. setting_leads o done Flags saved regs' i.pos Q (suc (suc n)) i.resource (o.places i.resource) stands.kind
      (own_here o done (choice_of i body regs.r0) guard body place target case_is refl target_is apart Flags saved) apart
      (there_here o done (choice_of i body regs.r0) guard body place target case_is refl target_is apart Flags saved) stands.names i stands.fits
      middle (stand_back o.home.parts.code pc (at_pos i.pos names) (at_pos i.pos sets) front)
      (λ d l. watch_leads o done (choice_of i body regs.r0) guard body place target case_is refl target_is apart Flags saved regs' stands.names Q n
      (pc + length (at_pos i.pos (names ++ sets))) i.pos cut.1
      (λ f m. next regs' f refl (subst (λ k. Stands o Now k regs' f) whole m)) d (subst (λ k. Stands o Set k regs' d) behind_all l))
      b g) a h
