-- The steps of a thread beside a resource of its own: where they have led, and that they go on.
use Rattle.std.proofs.Common.{◌≡◌, ℕ, zero, suc, ◌+◌, ◌*◌, ◌/◌, ◌%◌, Bool, true, false, List, Option, Some, None, refl, sym, ap, ◌∙◌, subst, arith, length, length-append, inl, inr}
use Rattle.std.specs.Prelude.{nat_eq, slice_get}
use Rattle.xs_instr.specs.declared.image.Home.{Home}
use Rattle.xs_instr.specs.declared.instr.Instr.{Instr}
use Rattle.xs_instr.specs.declared.instr.Reg.{Reg}
use Rattle.xs_instr.specs.declared.instr.Reg.TheVariants.{R0, R10, R11, Dp, Sp}
use Rattle.xs_instr.specs.declared.state.CoreState.{CoreState}
use Rattle.xs_instr.specs.declared.state.Mode.TheVariants.{Running}
use Rattle.xs_instr.specs.declared.state.Port.{Port}
use Rattle.xs_instr.specs.declared.state.Regs.{Regs}
use Rattle.xs_instr.specs.declared.state.Res.{Res}
use Rattle.xs_instr.specs.declared.state.Thread.{Thread}
use Rattle.xs_instr.specs.declared.state.Timer.{Timer}
use Rattle.xs_instr.specs.Did.{makes}
use Rattle.xs_instr.specs.Lines.{Line, at_pos}
use Rattle.xs_instr.specs.Memory.{address_at}
use Rattle.xs_instr.specs.OwnSteps.{HasRoom, IsApart, IsWord, OwnStep, RunsAt, StandAt, Within}
use Rattle.xs_instr.specs.Registers.{reg_get, reg_set}
use Rattle.xs_instr.specs.Rows.{put_local, row}
use Rattle.xs_instr.specs.Slot.{is_waiteu, slot}
use Rattle.xc_kernel.specs.Plain as kernel
use Rattle.xc_kernel.specs.Values.{ErrorKind, Value, word, error}
use Rattle.xc_kernel.specs.Eval.{Store, eval}
use Rattle.xw_words.specs.declared.pos.Pos.{Pos}
use Rattle.xl_expr.specs.declared.plan.ResAt.{ResAt}
use Rattle.xl_expr.specs.declared.plan.ResAt.TheVariants.{Fixed, Held}
use Rattle.xl_expr.specs.declared.plan.VarPlan.{VarPlan}
use Rattle.xl_expr.specs.Identifiers.{Identifies, IsIdentifier, Named}
use Rattle.xl_expr.specs.Measures.{nodes}
use Rattle.xl_expr.specs.PartSteps.{KeptParts, PartsStep, WithinParts}
use Rattle.xl_expr.specs.ResourceParts.{OtherPartsStay}
use Rattle.xl_expr.specs.Stores.{is_working}
use Rattle.xl_expr.specs.Works.{Errs, Evaluates, Gives, IsLaid, Outcome, is_scratch, same_reg}
use Rattle.xl_expr.proofs.Evaluates.{within_most}
use Rattle.xl_expr.proofs.Lasting.{laid_lasts}
use Rattle.xl_expr.proofs.Lists.{get_set_same, room_kept, stand_back, stand_front, word_by_same}
use Rattle.xl_expr.proofs.ResourceParts.{others_same}
use Rattle.xl_expr.proofs.Ways.{at_pc, own, turn_row}
use Rattle.xl_expr.proofs.Wider.{leads_more, then_leads}
use Rattle.xl_port.specs.Resources.{ResourceIs}
use Rattle.xl_port.specs.Waits.{UsesName}

-- a register that no part changes
working_scratch : (r : Reg) → is_working r ≡ false → is_scratch r ≡ false
working_scratch R0 h = cc
working_scratch R11 h = cc
working_scratch other h = refl

pub working_r0 : (r : Reg) → is_working r ≡ false → same_reg r R0 ≡ false
working_r0 R0 h = cc
working_r0 other h = refl

pub working_r10 : (r : Reg) → is_working r ≡ false → same_reg r R10 ≡ false
working_r10 R10 h = cc
working_r10 other h = refl

pub other_r11 : (regs : Regs) (v : ℕ) (r : Reg) → is_working r ≡ false → reg_get (reg_set regs R11 v) r ≡ reg_get regs r
other_r11 regs v R11 h = cc
other_r11 regs v other h = refl

pub other_r0 : (regs : Regs) (v : ℕ) (r : Reg) → is_working r ≡ false → reg_get (reg_set regs R0 v) r ≡ reg_get regs r
other_r0 regs v R0 h = cc
other_r0 regs v other h = refl

-- the identifier lasts where the words that are relied on stay
module _ (relied : ℕ → Bool) (s dp : ℕ) (words words' : List ℕ)
    (same : (w : ℕ) → relied w ≡ true → IsApart s w → slice_get words' w ≡ slice_get words w) where
  word_lasts : (address x : ℕ) → IsWord relied s words address x → IsWord relied s words' address x
  word_lasts address x h = record {
    there = word_by_same words words' address (nat_eq (address % 4) 0) (same (address / 4) h.relied_on h.apart) ∙ h.there;
    relied_on = h.relied_on;
    apart = h.apart;
  }

  identifier_lasts : (place : ResAt) (name : ℕ) → IsIdentifier relied s dp words place name → IsIdentifier relied s dp words' place name
  identifier_lasts (Fixed id) name h = h
  identifier_lasts (Held n j) name h = (h.0, word_lasts (address_at dp n) h.0 h.1, h.2)

-- a fact of a core's ports and timers that lasts while others take their steps, and over the thread's own that leave these
pub record Lasts (relied : ℕ → Bool) (mine : Res → Type 0) (t : ℕ) (Has : CoreState → Type 0) : Type 0 where
  pub kept : (a b : CoreState) → KeptParts relied mine t a b → Has a → Has b
  pub still : (a b : CoreState) → b.ports ≡ a.ports → b.timers ≡ a.timers → Has a → Has b

-- a step that changes no resource is one that may change some
pub own_is_parts_step : (home : Home) (leaves : ℕ → Type 0) (mine : Res → Type 0) (t : ℕ) (a b : CoreState) → OwnStep home leaves t a b →
    PartsStep home leaves mine t a b
own_is_parts_step home leaves mine t a b s = record {
  thread = s.thread;
  here = s.here;
  after = s.after;
  ports = a.ports;
  timers = a.timers;
  events = a.events;
  made = s.made;
  left = s.left;
  words = s.words;
  resources = others_same mine t a b
      (ap (λ (c : CoreState). c.ports) s.left) (ap (λ (c : CoreState). c.timers) s.left) (ap (λ (c : CoreState). c.events) s.left);
}

-- what leads somewhere without a resource leads there beside one, which is then as it was
pub beside : (home : Home) (relied : ℕ → Bool) (leaves : ℕ → Type 0) (mine : Res → Type 0) (t : ℕ) (Has Q : CoreState → Type 0) →
    Lasts relied mine t Has → (n : ℕ) (a : CoreState) → Has a → Within home relied leaves t Q n a →
    WithinParts home relied leaves mine t (λ b. Q b × Has b) n a
beside home relied leaves mine t Has Q lasts zero a e h = (h, e)
beside home relied leaves mine t Has Q lasts (suc n) a e (inl h) = inl (h, e)
beside home relied leaves mine t Has Q lasts (suc n) a e (inr h) = inr (λ b k.
    let x = h b k.own in
    let there = lasts.still b x.0 (ap (λ (c : CoreState). c.ports) x.1.left) (ap (λ (c : CoreState). c.timers) x.1.left)
    (lasts.kept a b k e) in
    (x.0, own_is_parts_step home leaves mine t b x.0 x.1, beside home relied leaves mine t Has Q lasts n x.0 there x.2))

-- the core behind a step that changes registers, ports and timers
abbrev pub behind_step : CoreState → (t : ℕ) → Thread → (pc : ℕ) → Regs → List Port → List Timer → CoreState
behind_step c t thread pc regs ports timers = record (put_local c t thread (own pc regs c.words))
    { ports = ports; timers = timers; events = c.events }

module _ (home : Home) (relied : ℕ → Bool) (mine : Res → Type 0) (s t : ℕ) (thread : Thread) (runs : thread.mode ≡ Running)
    (quiet : thread.event_bit ≡ false) (old : List ℕ) where
  abbrev pub Leads : (CoreState → Type 0) → ℕ → CoreState → Type 0
  Leads = WithinParts home relied (IsApart s) mine t

  -- the thread stands at an index with these registers, the resource is so, and all that the code leaves is as it was
  pub record Since (Has : CoreState → Type 0) (pc : ℕ) (regs : Regs) (b : CoreState) : Type 0 where
    pub here : slice_get b.threads t ≡ Some (at_pc thread pc regs)
    pub room : HasRoom relied s regs b.words
    pub others : (r : Reg) → is_working r ≡ false → reg_get regs r ≡ reg_get thread.regs r
    pub words : (w : ℕ) → relied w ≡ true → IsApart s w → slice_get b.words w ≡ slice_get old w
    pub there : Has b

  pub runs_since : (Has : CoreState → Type 0) (pc : ℕ) (regs : Regs) (b : CoreState) → Since Has pc regs b →
      RunsAt t pc (at_pc thread pc regs) b
  runs_since Has pc regs b h = record { here = h.here; pc_is = refl; runs = runs; no_events = quiet }

  room_since : (regs regs' : Regs) (words words' : List ℕ) → ((r : Reg) → is_working r ≡ false → reg_get regs' r ≡ reg_get regs r) →
      ((w : ℕ) → relied w ≡ true → slice_get words' w ≡ slice_get words w) → HasRoom relied s regs words → HasRoom relied s regs' words'
  room_since regs regs' words words' others same room = record {
    sp_is = others Sp refl ∙ room.sp_is;
    small = room.small;
    within = room_kept relied s room.relied_on words words' room.within same;
    relied_on = room.relied_on;
  }

  pub since_kept : (Has : CoreState → Type 0) → Lasts relied mine t Has → (pc : ℕ) (regs : Regs) (b c : CoreState) → Since Has pc regs b →
      KeptParts relied mine t b c → Since Has pc regs c
  since_kept Has lasts pc regs b c h k = record {
    here = k.own.thread ∙ h.here;
    room = room_since regs regs b.words c.words (λ r w. refl) k.own.words h.room;
    others = h.others;
    words = λ w r l. k.own.words w r ∙ h.words w r l;
    there = lasts.kept b c k h.there;
  }

  -- the thread's turn there is the row of its instruction
  pub turn_since : (Has : CoreState → Type 0) (pc : ℕ) (regs : Regs) (i : Instr) (b : CoreState) → Since Has pc regs b →
      slice_get home.parts.code.instrs pc ≡ Some i → is_waiteu (Some i) ≡ false → slot home b t ≡ row home b t (at_pc thread pc regs) i
  turn_since Has pc regs i b h stands no_event =
      turn_row home.parts.code relied (IsApart s) home t thread runs quiet refl b pc regs i h.here stands no_event

  -- an instruction that leads from one fact to another, and changes nothing of other resources
  pub record Turns (Has Then : CoreState → Type 0) (pc : ℕ) (regs regs' : Regs) (i : Instr) : Type 0 where
    pub ports : CoreState → List Port
    pub timers : CoreState → List Timer
    pub no_event : is_waiteu (Some i) ≡ false
    pub left : (r : Reg) → is_working r ≡ false → reg_get regs' r ≡ reg_get regs r
    pub row_is : (c : CoreState) → Has c → row home c t (at_pc thread pc regs) i ≡ makes
        (behind_step c t (at_pc thread pc regs) (pc + 1) regs' (ports c) (timers c))
    pub others : (c : CoreState) → OtherPartsStay mine t c (behind_step c t (at_pc thread pc regs) (pc + 1) regs' (ports c) (timers c))
    pub after : (c : CoreState) → Has c → Then (behind_step c t (at_pc thread pc regs) (pc + 1) regs' (ports c) (timers c))

  pub turns_lead : (Has Then : CoreState → Type 0) (pc : ℕ) (regs regs' : Regs) (i : Instr) → Lasts relied mine t Has →
      Turns Has Then pc regs regs' i → slice_get home.parts.code.instrs pc ≡ Some i → (Q : CoreState → Type 0) (n : ℕ) →
      ((b : CoreState) → Since Then (pc + 1) regs' b → Leads Q n b) → (a : CoreState) → Since Has pc regs a → Leads Q (suc n) a
  turns_lead Has Then pc regs regs' i lasts turns stands Q n next a h = inr (λ b k.
      let sb = since_kept Has lasts pc regs a b h k in
      let th = at_pc thread pc regs in
      let d = behind_step b t th (pc + 1) regs' (turns.ports b) (turns.timers b) in (
        d,
        record {
          thread = th;
          here = sb.here;
          after = own (pc + 1) regs' b.words;
          ports = turns.ports b;
          timers = turns.timers b;
          events = b.events;
          made = turn_since Has pc regs i b sb stands turns.no_event ∙ turns.row_is b sb.there;
          left = refl;
          words = λ w l. refl;
          resources = turns.others b;
        },
        next d (record {
          here = get_set_same b.threads t th (at_pc thread (pc + 1) regs') sb.here;
          room = room_since regs regs' b.words b.words turns.left (λ w r. refl) sb.room;
          others = λ r w. turns.left r w ∙ sb.others r w;
          words = sb.words;
          there = turns.after b sb.there;
        }),
      ))

  dp_since : (Has : CoreState → Type 0) (pc : ℕ) (regs : Regs) (b : CoreState) → Since Has pc regs b → thread.regs.dp ≡ regs.dp
  dp_since Has pc regs b k = sym (k.others Dp refl)

  -- the layout is there
  pub laid_since : (Has : CoreState → Type 0) (vars : List (Option VarPlan)) (store : Store) (x : kernel.Expression) (pc : ℕ) (regs : Regs)
      (b : CoreState) → Since Has pc regs b → IsLaid vars relied s thread.regs.dp old store x → IsLaid vars relied s regs.dp b.words store x
  laid_since Has vars store x pc regs b k h =
      subst (λ d. IsLaid vars relied s d b.words store x) (dp_since Has pc regs b k)
      (laid_lasts vars relied s thread.regs.dp old b.words store k.words x h)

  identifier_since : (Has : CoreState → Type 0) (place : ResAt) (name pc : ℕ) (regs : Regs) (b : CoreState) → Since Has pc regs b →
      IsIdentifier relied s thread.regs.dp old place name → IsIdentifier relied s regs.dp b.words place name
  identifier_since Has place name pc regs b k h =
      subst (λ d. IsIdentifier relied s d b.words place name) (dp_since Has pc regs b k)
      (identifier_lasts relied s thread.regs.dp old b.words k.words place name h)

  -- the name comes to r11
  pub name_leads : (Has : CoreState → Type 0) → Lasts relied mine t Has → (place : ResAt) (name pc : ℕ) (regs : Regs) (ls : List Line) →
      Identifies place pc ls → StandAt home.parts.code pc ls → IsIdentifier relied s thread.regs.dp old place name →
      (Q : CoreState → Type 0) (n : ℕ) → ((b : CoreState) → Since Has (pc + length ls) (reg_set regs R11 name) b → Leads Q n b) →
      (a : CoreState) → Since Has pc regs a → Leads Q (2 + n) a
  name_leads Has lasts place name pc regs ls identifies st is Q n next a h =
      let Behind : CoreState → Type 0 = λ b. Named relied t (at_pc thread pc regs) a.words name (pc + length ls) b × Has b in
      then_leads (KeptParts relied mine t) (PartsStep home (IsApart s) mine t) Behind Q 2 n a
      (beside home relied (IsApart s) mine t Has (Named relied t (at_pc thread pc regs) a.words name (pc + length ls)) lasts 2 a h.there
      (identifies.by home relied s t name (at_pc thread pc regs) a st (runs_since Has pc regs a h)
      (identifier_since Has place name pc regs a h is)))
      (λ b g. next b (record {
        here = g.0.here;
        room = room_since regs (reg_set regs R11 name) a.words b.words (λ r w. other_r11 regs name r w) g.0.words h.room;
        others = λ r w. other_r11 regs name r w ∙ h.others r w;
        words = λ w r l. g.0.words w r ∙ h.words w r l;
        there = g.1;
      }))

  -- and then come the instructions that use it
  pub uses_lead : (Has : CoreState → Type 0) → Lasts relied mine t Has →
      (place : Option ResAt) (name : ℕ) (instrs : List Instr) (pos : Pos) (pc : ℕ) (regs : Regs) (ls : List Line) →
      UsesName place instrs pos pc ls → StandAt home.parts.code pc ls → ResourceIs relied s thread.regs.dp old place name →
      (Q : CoreState → Type 0) (n : ℕ) → ((pc' : ℕ) → pc' + length (at_pos pos instrs) ≡ pc + length ls →
      StandAt home.parts.code pc' (at_pos pos instrs) → (b : CoreState) → Since Has pc' (reg_set regs R11 name) b → Leads Q n b) →
      (a : CoreState) → Since Has pc regs a → Leads Q (2 + n) a
  uses_lead Has lasts None name instrs pos pc regs ls uses st is Q n next a h = absurd is
  uses_lead Has lasts (Some place) name instrs pos pc regs ls uses st is Q n next a h =
      let st' = subst (λ l. StandAt home.parts.code pc l) uses.is st in
      let tail = at_pos pos instrs in
      let end : pc + length uses.name + length tail ≡ pc + length ls = omega (arith, ap length uses.is, length-append uses.name tail) in
      name_leads Has lasts place name pc regs uses.name uses.identifies (stand_front home.parts.code pc uses.name tail st') is Q n
      (next (pc + length uses.name) end (stand_back home.parts.code pc uses.name tail st')) a h

  -- an expression's word comes to a register that may change, or its error does
  module _ (Has : CoreState → Type 0) (lasts : Lasts relied mine t Has) (vars : List (Option VarPlan)) (store : Store)
      (x : kernel.Expression) (to : Reg) (free : (r : Reg) → is_working r ≡ false → same_reg r to ≡ false) (pc : ℕ) (regs : Regs)
      (ls : List Line) where
    -- what was given there
    pub record Given (v : ℕ) (regs' : Regs) (b : CoreState) : Type 0 where
      pub since : Since Has (pc + length ls) regs' b
      pub value : reg_get regs' to ≡ v
      pub left : (r : Reg) → is_scratch r ≡ false → same_reg r to ≡ false → reg_get regs' r ≡ reg_get regs r

    module _ (Q : Value → CoreState → Type 0) (n : ℕ)
        (next : (v : ℕ) (regs' : Regs) (b : CoreState) → Given v regs' b → Leads (Q (word v)) n b)
        (errs : (kind : ErrorKind) (pos : Pos) (b : CoreState) → ((c : CoreState) → KeptParts relied mine t b c → Errs home t kind pos c) →
        Q (error kind pos) b) (a : CoreState) (h : Since Has pc regs a) where
      on_outcome : (value : Value) (b : CoreState) →
          Outcome home relied s t (at_pc thread pc regs) a.words to (pc + length ls) value b × Has b → Leads (Q value) n b
      on_outcome (error kind pos) b g =
          leads_more (KeptParts relied mine t) (PartsStep home (IsApart s) mine t) (Q (error kind pos)) 0 n (omega arith) b
          (errs kind pos b (λ c k. g.0 c k.own))
      on_outcome (word v) b g =
          let gives : Gives relied s t (at_pc thread pc regs) a.words to (pc + length ls) v b = g.0 in
          next v gives.regs b (record {
            since = record {
              here = gives.here;
              room = record {
                sp_is = gives.others Sp refl (free Sp refl) ∙ h.room.sp_is;
                small = h.room.small;
                within = gives.within;
                relied_on = h.room.relied_on;
              };
              others = λ r w. gives.others r (working_scratch r w) (free r w) ∙ h.others r w;
              words = λ w r l. gives.words w r l ∙ h.words w r l;
              there = g.1;
            };
            value = gives.value;
            left = gives.others;
          })

      pub value_leads : Evaluates vars x to pc ls → StandAt home.parts.code pc ls → IsLaid vars relied s thread.regs.dp old store x →
          Leads (Q (eval store x)) (8 * nodes x + n) a
      value_leads ev st laid =
          let There : CoreState → Type 0 = Outcome home relied s t (at_pc thread pc regs) a.words to (pc + length ls) (eval store x) in
          then_leads (KeptParts relied mine t) (PartsStep home (IsApart s) mine t) (λ b. There b × Has b) (Q (eval store x)) (8 * nodes x) n
          a
          (beside home relied (IsApart s) mine t Has There lasts (8 * nodes x) a h.there
          (within_most home relied (IsApart s) t There (eval store x) (8 * nodes x) a
          (ev.by home relied s t (at_pc thread pc regs) store a st (runs_since Has pc regs a h) h.room
          (laid_since Has vars store x pc regs a h laid))))
          (on_outcome (eval store x))

-- at the first index
pub at_first : (home : Home) (relied : ℕ → Bool) (mine : Res → Type 0) (s t pc : ℕ) (thread : Thread) (a : CoreState)
    (Has : CoreState → Type 0) → (at_work : RunsAt t pc thread a) → HasRoom relied s thread.regs a.words → Has a →
    Since home relied mine s t thread at_work.runs at_work.no_events a.words Has pc thread.regs a
at_first home relied mine s t pc thread a Has at_work room there = record {
  here = at_work.here ∙ ap (λ q. Some (record thread { pc = q })) at_work.pc_is;
  room = room;
  others = λ r w. refl;
  words = λ w r l. refl;
  there = there;
}
