-- Steps of a thread by what it alone has and the words that it relies on, and what they are on a core.
use Rattle.std.proofs.Common.{◌≡◌, ℕ, zero, suc, ◌+◌, Bool, true, false, List, Some, refl, sym, ap, ◌∙◌, subst, arith, ◌≤◌, inl, inr}
use Rattle.std.specs.Prelude.{slice_get, ◌||◌}
use Rattle.xw_words.specs.declared.pos.Pos.{Pos}
use Rattle.xs_instr.specs.declared.image.Code.{Code}
use Rattle.xs_instr.specs.declared.image.Home.{Home}
use Rattle.xs_instr.specs.declared.instr.Instr.{Instr}
use Rattle.xs_instr.specs.declared.state.CoreState.{CoreState}
use Rattle.xs_instr.specs.declared.state.Mode.TheVariants.{Running}
use Rattle.xs_instr.specs.declared.state.Regs.{Regs}
use Rattle.xs_instr.specs.declared.state.Thread.{Thread}
use Rattle.xs_instr.specs.declared.trace.Record.TheVariants.{Fault}
use Rattle.xs_instr.specs.Did.{makes, map_did, Traps}
use Rattle.xs_instr.specs.Rows.{Local, local_of, local_row, put_local, row}
use Rattle.xs_instr.specs.Slot.{slot, turn_at, turn_of, runs_on, event_or_row, pick_where, is_waiteu, pos_at, pos_where}
use Rattle.xs_instr.specs.OwnSteps.{Kept, Within}
use Rattle.xc_kernel.specs.Values.{ErrorKind}
use Rattle.xl_expr.specs.Works.{Errs, trap_of}
use Rattle.xl_expr.proofs.Lists.{get_set_same}

abbrev pub own : ℕ → Regs → List ℕ → Local
own pc regs words = record { pc = pc; regs = regs; words = words }

-- a row of pc, registers and words, at which no events are taken
pub record IsPlain (i : Instr) : Type 0 where
  pub row_is : (home : Home) (core : CoreState) (t : ℕ) (thread : Thread) → row home core t thread i ≡ map_did (put_local core t thread) (local_row (local_of core thread) i)
  pub no_event : is_waiteu (Some i) ≡ false

-- a thread at pc, whose other parts never change
abbrev pub at_pc : Thread → ℕ → Regs → Thread
at_pc thread pc regs = record thread { pc = pc; regs = regs }

pub kept_twice : {relied : ℕ → Bool} {t : ℕ} {a b c : CoreState} → Kept relied t a b → Kept relied t b c → Kept relied t a c
kept_twice h k = record { thread = k.thread ∙ h.thread; words = λ w r. k.words w r ∙ h.words w r }

module _ (code : Code) (relied : ℕ → Bool) (leaves : ℕ → Type 0) where
  -- the same words, as far as the thread relies on them
  pub record Agree (xs ys : List ℕ) : Type 0 where
    pub by : (w : ℕ) → relied w ≡ true → slice_get ys w ≡ slice_get xs w

  -- what a step leaves, of any words that agree with those that the thread knows
  pub record Moves (i : Instr) (o o' : Local) (ws : List ℕ) : Type 0 where
    pub words : List ℕ
    pub made : local_row (own o.pc o.regs ws) i ≡ makes (own o'.pc o'.regs words)
    pub agree : Agree o'.words words
    pub apart : (w : ℕ) → leaves w → slice_get words w ≡ slice_get ws w

  pub record Sure (o o' : Local) : Type 0 where
    pub instr : Instr
    pub stands : slice_get code.instrs o.pc ≡ Some instr
    pub plain : IsPlain instr
    pub goes : (ws : List ℕ) → Agree o.words ws → Moves instr o o' ws

  -- the next step traps
  pub record Fails (kind : ErrorKind) (pos : Pos) (o : Local) : Type 0 where
    pub instr : Instr
    pub stands : slice_get code.instrs o.pc ≡ Some instr
    pub place : slice_get code.«at» o.pc ≡ Some pos
    pub plain : IsPlain instr
    pub traps : (ws : List ℕ) → Agree o.words ws → local_row (own o.pc o.regs ws) instr ≡ Traps (trap_of kind)

  abbrev pub Way : ℕ → Local → Local → Type 0
  Way zero o o' = o ≡ o'
  Way (suc n) o o' = (m : Local) × Sure o m × Way n m o'

  pub way_on : (n m : ℕ) (a b c : Local) → Way n a b → Way m b c → Way (n + m) a c
  way_on zero m a b c h g =
      let e : m ≡ 0 + m = omega arith in
      subst (λ k. Way k a c) e (subst (λ o. Way m o c) (sym h) g)
  way_on (suc n) m a b c h g =
      let e : suc (n + m) ≡ suc n + m = omega arith in
      let all : Way (suc (n + m)) a c = (h.0, h.1, way_on n m h.0 b c h.2 g) in
      subst (λ k. Way k a c) e all

  -- a core where the thread has this, and its words agree
  pub record Fits (t : ℕ) (thread : Thread) (o : Local) (a : CoreState) : Type 0 where
    pub here : slice_get a.threads t ≡ Some (at_pc thread o.pc o.regs)
    pub words : Agree o.words a.words

  pub fits_kept : (t : ℕ) (thread : Thread) (o : Local) (a b : CoreState) → Fits t thread o a → Kept relied t a b → Fits t thread o b
  fits_kept t thread o a b f k = record { here = k.thread ∙ f.here; words = record { by = λ w r. k.words w r ∙ f.words.by w r } }

  module _ (home : Home) (t : ℕ) (thread : Thread) (runs : thread.mode ≡ Running) (quiet : thread.event_bit ≡ false) (code_is : home.parts.code ≡ code) where
    -- the thread's turn is the row of its instruction
    pub turn_row : (b : CoreState) (pc : ℕ) (regs : Regs) (i : Instr) → slice_get b.threads t ≡ Some (at_pc thread pc regs) → slice_get code.instrs pc ≡ Some i → is_waiteu (Some i) ≡ false → slot home b t ≡ row home b t (at_pc thread pc regs) i
    turn_row b pc regs i here stands no_event =
        let th = at_pc thread pc regs in
        ap (turn_at home b t) here
        ∙ ap (turn_of home b t th) runs
        ∙ ap (runs_on home b t th) (ap (λ (k : Code). slice_get k.instrs pc) code_is ∙ stands)
        ∙ ap (λ (e : Bool). event_or_row home b t th (Some i) (pick_where home b t (e || is_waiteu (Some i)))) quiet
        ∙ ap (λ (e : Bool). event_or_row home b t th (Some i) (pick_where home b t e)) no_event

    pub turn_is : (b : CoreState) (o : Local) (i : Instr) → Fits t thread o b → slice_get code.instrs o.pc ≡ Some i → IsPlain i → slot home b t ≡ map_did (put_local b t (at_pc thread o.pc o.regs)) (local_row (own o.pc o.regs b.words) i)
    turn_is b o i f stands plain =
        turn_row b o.pc o.regs i f.here stands plain.no_event ∙ plain.row_is home b t (at_pc thread o.pc o.regs)

    pub way_leads : (Q : CoreState → Type 0) (n most : ℕ) (o o' : Local) → n ≤ most → Way n o o' → ((b : CoreState) → Fits t thread o' b → Q b) → (a : CoreState) → Fits t thread o a → Within home relied leaves t Q most a
    way_leads Q zero zero o o' le h q a f = q a (subst (λ x. Fits t thread x a) h f)
    way_leads Q zero (suc most) o o' le h q a f = inl (q a (subst (λ x. Fits t thread x a) h f))
    way_leads Q (suc n) zero o o' le h q a f = absurd (omega arith)
    way_leads Q (suc n) (suc most) o o' le h q a f = inr (λ b k.
        let fb = fits_kept t thread o a b f k in
        let m = h.0 in
        let sure = h.1 in
        let go = sure.goes b.words fb.words in
        let d : CoreState = put_local b t (at_pc thread o.pc o.regs) (own m.pc m.regs go.words) in (
          d,
          record {
            thread = at_pc thread o.pc o.regs;
            here = fb.here;
            after = own m.pc m.regs go.words;
            made = turn_is b o sure.instr fb sure.stands sure.plain ∙ ap (map_did (put_local b t (at_pc thread o.pc o.regs))) go.made;
            left = refl;
            words = go.apart;
          },
          way_leads Q n most m o' (omega arith) h.2 q d (record { here = get_set_same b.threads t (at_pc thread o.pc o.regs) (at_pc thread m.pc m.regs) fb.here; words = go.agree }),
        ))

    pub fails_errs : (kind : ErrorKind) (pos : Pos) (o : Local) → Fails kind pos o → (b : CoreState) → Fits t thread o b → (c : CoreState) → Kept relied t b c → Errs home t kind pos c
    fails_errs kind pos o h b f c k =
        let fc = fits_kept t thread o b c f k in
        let th = at_pc thread o.pc o.regs in
        record {
          traps = turn_is c o h.instr fc h.stands h.plain ∙ ap (map_did (put_local c t th)) (h.traps c.words fc.words);
          record_is = ap (λ x. Fault home.number (pos_at home x) (trap_of kind)) fc.here ∙ ap (λ (k : Code). Fault home.number (pos_where (slice_get k.«at» o.pc)) (trap_of kind)) code_is ∙ ap (λ x. Fault home.number (pos_where x) (trap_of kind)) h.place;
        }
