-- The steps of a thread that opens a select: where they have led, and that they go on.
use Rattle.std.proofs.Common.{◌≡◌, ℕ, suc, ◌+◌, ◌<◌, ◌≤◌, Bool, true, false, List, length, Some, refl, ◌∙◌, arith, inr}
use Rattle.std.specs.Prelude.{slice_get}
use Rattle.xs_instr.specs.declared.image.Home.{Home}
use Rattle.xs_instr.specs.declared.instr.Instr.{Instr}
use Rattle.xs_instr.specs.declared.instr.Reg.{Reg}
use Rattle.xs_instr.specs.declared.instr.Reg.TheVariants.{Sp}
use Rattle.xs_instr.specs.declared.state.CoreState.{CoreState}
use Rattle.xs_instr.specs.declared.state.Events.{Events}
use Rattle.xs_instr.specs.declared.state.Mode.TheVariants.{Running}
use Rattle.xs_instr.specs.declared.state.Port.{Port}
use Rattle.xs_instr.specs.declared.state.Regs.{Regs}
use Rattle.xs_instr.specs.declared.state.Res.{Res}
use Rattle.xs_instr.specs.declared.state.Thread.{Thread}
use Rattle.xs_instr.specs.declared.state.Timer.{Timer}
use Rattle.xs_instr.specs.declared.state.Watch.{Watch}
use Rattle.xs_instr.specs.Did.{makes}
use Rattle.xs_instr.specs.Events.{watch_of}
use Rattle.xs_instr.specs.OwnSteps.{HasRoom, IsApart, RunsAt, temporary}
use Rattle.xs_instr.specs.Registers.{reg_get}
use Rattle.xs_instr.specs.Rows.{put_local, row}
use Rattle.xs_instr.specs.Slot.{is_waiteu}
use Rattle.xc_kernel.specs.declared.statement.KRes.{KRes}
use Rattle.xc_kernel.specs.Plain as kernel
use Rattle.xl_expr.specs.Leads.{Leads}
use Rattle.xl_expr.specs.PartSteps.{KeptParts, PartsStep}
use Rattle.xl_expr.specs.ResourceParts.{OtherPartsStay}
use Rattle.xl_expr.proofs.Lists.{get_set_same, room_kept}
use Rattle.xl_expr.proofs.Ways.{at_pc, own, turn_row}
use Rattle.xl_expr.proofs.Wider.{leads_more}
use Rattle.xl_select.specs.Opening.{CasesKept, IsNamedBy, IsOfCases, IsThere, is_arming}

-- what a step leaves
pub record Left : Type 0 where
  pub ports : List Port
  pub timers : List Timer
  pub events : Events
  pub words : List ℕ

-- the core behind a step
abbrev pub behind : CoreState → (t : ℕ) → Thread → (pc : ℕ) → Regs → Left → CoreState
behind c t thread pc regs left =
    record (put_local c t thread (own pc regs left.words)) { ports = left.ports; timers = left.timers; events = left.events }

-- a thread that opens a select: its core's code, what it relies on, the core at first, where its cases' resources stand and its events lead
pub record Opener : Type 0 where
  pub home : Home
  pub relied : ℕ → Bool
  pub s : ℕ
  pub t : ℕ
  pub thread : Thread
  pub runs : thread.mode ≡ Running
  pub quiet : thread.event_bit ≡ false
  pub first : CoreState
  pub temporaries : (k : ℕ) → k < temporary → relied (s + k) ≡ true
  pub places : KRes → Res
  pub cases : kernel.Cases
  pub targets : List ℕ

-- its own resources
abbrev pub its_own : Opener → Res → Type 0
its_own o = IsOfCases o.places o.cases

-- the resources of its cases are there, each with a watch
pub record AreThere (o : Opener) (b : CoreState) : Type 0 where
  pub there : (r : KRes) → IsNamedBy o.cases r → IsThere b (o.places r)
  pub watched : (r : KRes) → IsNamedBy o.cases r → (watch : Watch) × (watch_of b.events (o.places r) ≡ Some watch)

module _ (o : Opener) where
  abbrev pub Reaches : (CoreState → Type 0) → ℕ → CoreState → Type 0
  Reaches = Leads (CasesKept o.relied o.places o.cases o.t) (PartsStep o.home (IsApart o.s) (its_own o) o.t)

  -- more steps may be taken
  pub reaches_more : (Q : CoreState → Type 0) (k n : ℕ) (a : CoreState) → k ≤ n → Reaches Q k a → Reaches Q n a
  reaches_more Q k n a few h = leads_more (CasesKept o.relied o.places o.cases o.t) (PartsStep o.home (IsApart o.s) (its_own o) o.t) Q k n few a h

  -- the thread stands at an index with these registers, what is said of the core holds, and all that the code leaves is as it was
  pub record Stands (Has : CoreState → Type 0) (pc : ℕ) (regs : Regs) (b : CoreState) : Type 0 where
    pub here : slice_get b.threads o.t ≡ Some (at_pc o.thread pc regs)
    pub room : HasRoom o.relied o.s regs b.words
    pub others : (r : Reg) → is_arming r ≡ false → reg_get regs r ≡ reg_get o.thread.regs r
    pub words : (w : ℕ) → o.relied w ≡ true → IsApart o.s w → slice_get b.words w ≡ slice_get o.first.words w
    pub there : Has b

  -- what lasts while others take their steps
  pub record Lasts (Has : CoreState → Type 0) : Type 0 where
    pub kept : (a b : CoreState) → KeptParts o.relied (its_own o) o.t a b → Has a → Has b

  pub runs_there : (Has : CoreState → Type 0) (pc : ℕ) (regs : Regs) (b : CoreState) → Stands Has pc regs b →
      RunsAt o.t pc (at_pc o.thread pc regs) b
  runs_there Has pc regs b h = record { here = h.here; pc_is = refl; runs = o.runs; no_events = o.quiet }

  pub stands_kept : (Has : CoreState → Type 0) → Lasts Has → (pc : ℕ) (regs : Regs) (b c : CoreState) → Stands Has pc regs b →
      KeptParts o.relied (its_own o) o.t b c → Stands Has pc regs c
  stands_kept Has lasts pc regs b c h k = record {
    here = k.own.thread ∙ h.here;
    room = record {
      sp_is = h.room.sp_is;
      small = h.room.small;
      within = room_kept o.relied o.s h.room.relied_on b.words c.words h.room.within k.own.words;
      relied_on = h.room.relied_on;
    };
    others = h.others;
    words = λ w r l. k.own.words w r ∙ h.words w r l;
    there = lasts.kept b c k h.there;
  }

  -- what is said may be weaker
  pub stands_with : (Has Then : CoreState → Type 0) (pc : ℕ) (regs : Regs) (b : CoreState) → (Has b → Then b) → Stands Has pc regs b →
      Stands Then pc regs b
  stands_with Has Then pc regs b f h = record { here = h.here; room = h.room; others = h.others; words = h.words; there = f h.there }

  -- what an instruction does in one state, which has all that was said
  pub record Moved (Then : CoreState → Type 0) (pc : ℕ) (regs : Regs) (pc' : ℕ) (regs' : Regs) (i : Instr) (c : CoreState) : Type 0 where
    pub left : Left
    pub row_is : row o.home c o.t (at_pc o.thread pc regs) i ≡ makes (behind c o.t (at_pc o.thread pc regs) pc' regs' left)
    pub size : length left.words ≡ length c.words
    pub apart : (w : ℕ) → IsApart o.s w → slice_get left.words w ≡ slice_get c.words w
    pub others : OtherPartsStay (its_own o) o.t c (behind c o.t (at_pc o.thread pc regs) pc' regs' left)
    pub after : Then (behind c o.t (at_pc o.thread pc regs) pc' regs' left)

  -- an instruction that leads from one fact to another
  pub record Moves (Has Then : CoreState → Type 0) (pc : ℕ) (regs : Regs) (pc' : ℕ) (regs' : Regs) (i : Instr) : Type 0 where
    pub no_event : is_waiteu (Some i) ≡ false
    pub same : (r : Reg) → is_arming r ≡ false → reg_get regs' r ≡ reg_get regs r
    pub by : (c : CoreState) → AreThere o c → Has c → HasRoom o.relied o.s regs c.words → Moved Then pc regs pc' regs' i c

  pub moves_lead : (Has Then : CoreState → Type 0) (pc : ℕ) (regs : Regs) (pc' : ℕ) (regs' : Regs) (i : Instr) → Lasts Has →
      Moves Has Then pc regs pc' regs' i → slice_get o.home.parts.code.instrs pc ≡ Some i → (Q : CoreState → Type 0) (n : ℕ) →
      ((b : CoreState) → Stands Then pc' regs' b → Reaches Q n b) → (a : CoreState) → Stands Has pc regs a → Reaches Q (suc n) a
  moves_lead Has Then pc regs pc' regs' i lasts moves stands Q n next a h = inr (λ b k.
      let sb = stands_kept Has lasts pc regs a b h k.own in
      let th = at_pc o.thread pc regs in
      let m = moves.by b (record { there = k.there; watched = k.watched }) sb.there sb.room in
      let d = behind b o.t th pc' regs' m.left in (
        d,
        record {
          thread = th;
          here = sb.here;
          after = own pc' regs' m.left.words;
          ports = m.left.ports;
          timers = m.left.timers;
          events = m.left.events;
          made = turn_row o.home.parts.code o.relied (IsApart o.s) o.home o.t o.thread o.runs o.quiet refl b pc regs i sb.here stands moves.no_event ∙ m.row_is;
          left = refl;
          words = λ w l. m.apart w l;
          resources = m.others;
        },
        next d (record {
          here = get_set_same b.threads o.t th (at_pc o.thread pc' regs') sb.here;
          room = record {
            sp_is = moves.same Sp refl ∙ sb.room.sp_is;
            small = sb.room.small;
            within = let w = sb.room.within in omega (arith, m.size);
            relied_on = sb.room.relied_on;
          };
          others = λ r w. moves.same r w ∙ sb.others r w;
          words = λ w r l. m.apart w l ∙ sb.words w r l;
          there = m.after;
        }),
      ))
