-- The code of a guard, of a time or condition, and of a name, beside what is said of the core's resources and of the flags.
use Rattle.std.proofs.Common.{◌≡◌, ℕ, zero, suc, ◌+◌, ◌*◌, ◌/◌, ◌%◌, Bool, true, false, List, length, Option, refl, sym, ap, ◌∙◌, subst, arith, inl, inr}
use Rattle.std.specs.Prelude.{nat_eq, slice_get}
use Rattle.xw_words.specs.declared.pos.Pos.{Pos}
use Rattle.xs_instr.specs.declared.instr.Reg.{Reg}
use Rattle.xs_instr.specs.declared.instr.Reg.TheVariants.{R0, R9, R11, Dp, Sp}
use Rattle.xs_instr.specs.declared.state.CoreState.{CoreState}
use Rattle.xs_instr.specs.declared.state.Regs.{Regs}
use Rattle.xs_instr.specs.Lines.{Line}
use Rattle.xs_instr.specs.Memory.{address_at}
use Rattle.xs_instr.specs.OwnSteps.{IsApart, IsWord, StandAt, Within}
use Rattle.xs_instr.specs.Registers.{reg_get, reg_set}
use Rattle.xc_kernel.specs.Plain as kernel
use Rattle.xc_kernel.specs.Values.{ErrorKind, Value, word, error}
use Rattle.xc_kernel.specs.Eval.{Store, eval}
use Rattle.xl_expr.specs.declared.plan.ResAt.{ResAt}
use Rattle.xl_expr.specs.declared.plan.ResAt.TheVariants.{Fixed, Held}
use Rattle.xl_expr.specs.declared.plan.VarPlan.{VarPlan}
use Rattle.xl_expr.specs.Above.{EvaluatesAbove, GivesAbove, IsSaved, OutcomeAbove}
use Rattle.xl_expr.specs.Identifiers.{Identifies, IsIdentifier, Named}
use Rattle.xl_expr.specs.Measures.{nodes}
use Rattle.xl_expr.specs.PartSteps.{KeptParts, PartsStep}
use Rattle.xl_expr.specs.Works.{Errs, IsLaid, is_scratch, same_reg}
use Rattle.xl_expr.proofs.Lasting.{laid_lasts}
use Rattle.xl_expr.proofs.Lists.{room_kept, word_by_same}
use Rattle.xl_expr.proofs.Ways.{at_pc}
use Rattle.xl_expr.proofs.Wider.{leads_more, then_leads}
use Rattle.xl_port.proofs.Since.{own_is_parts_step}
use Rattle.xl_select.specs.Opening.{CasesKept, is_arming}
use Rattle.xl_select.specs.OpeningCode.{first_value}
use Rattle.xl_select.proofs.Moves.{Lasts, Opener, Reaches, Stands, its_own, runs_there}

-- an identifier lasts where the words that are relied on stay
module _ (relied : ℕ → Bool) (s dp : ℕ) (words words' : List ℕ) (same : (w : ℕ) → relied w ≡ true → IsApart s w → slice_get words' w ≡ slice_get words w) where
  word_lasts : (address x : ℕ) → IsWord relied s words address x → IsWord relied s words' address x
  word_lasts address x h = record {
    there = word_by_same words words' address (nat_eq (address % 4) 0) (same (address / 4) h.relied_on h.apart) ∙ h.there;
    relied_on = h.relied_on;
    apart = h.apart;
  }

  pub identifier_lasts : (place : ResAt) (name : ℕ) → IsIdentifier relied s dp words place name → IsIdentifier relied s dp words' place name
  identifier_lasts (Fixed id) name h = h
  identifier_lasts (Held n j) name h = (h.0, word_lasts (address_at dp n) h.0 h.1, h.2)

-- what lasts while others take their steps, and over the thread's own that leave all resources
pub record LastsBeside (o : Opener) (Facts : CoreState → Type 0) : Type 0 where
  pub kept : (a b : CoreState) → KeptParts o.relied (its_own o) o.t a b → Facts a → Facts b
  pub still : (a b : CoreState) → b.ports ≡ a.ports → b.timers ≡ a.timers → b.events ≡ a.events → Facts a → Facts b

-- what is said of words that are relied on and below the expressions'
pub record LastsSaved (o : Opener) (Flags : List ℕ → Type 0) : Type 0 where
  pub by : (xs ys : List ℕ) → ((w : ℕ) → o.relied w ≡ true → IsSaved o.s first_value w → slice_get ys w ≡ slice_get xs w) → Flags xs →
      Flags ys

abbrev pub Both : (Facts : CoreState → Type 0) → (Flags : List ℕ → Type 0) → CoreState → Type 0
Both Facts Flags b = Facts b × Flags b.words

-- both last
pub lasts_both : (o : Opener) (Facts : CoreState → Type 0) → LastsBeside o Facts → (Flags : List ℕ → Type 0) → LastsSaved o Flags →
    Lasts o (Both Facts Flags)
lasts_both o Facts beside Flags saved = record {
  kept = λ a b k h. (beside.kept a b k h.0, saved.by a.words b.words (λ w r l. k.own.words w r) h.1);
}

-- what leads somewhere without a resource leads there beside some
pub beside_all : (o : Opener) (Facts Q : CoreState → Type 0) → LastsBeside o Facts → (n : ℕ) (a : CoreState) → Facts a →
    Within o.home o.relied (IsApart o.s) o.t Q n a → Reaches o (λ b. Q b × Facts b) n a
beside_all o Facts Q lasts zero a e h = (h, e)
beside_all o Facts Q lasts (suc n) a e (inl h) = inl (h, e)
beside_all o Facts Q lasts (suc n) a e (inr h) = inr (λ b k.
    let x = h b k.own.own in
    let there = lasts.still b x.0 (ap (λ (c : CoreState). c.ports) x.1.left) (ap (λ (c : CoreState). c.timers) x.1.left) (ap (λ (c : CoreState). c.events) x.1.left) (lasts.kept a b k.own e) in
    (x.0, own_is_parts_step o.home (IsApart o.s) (its_own o) o.t b x.0 x.1, beside_all o Facts Q lasts n x.0 there x.2))

-- the registers that neither an expression's code nor a name changes
arming_scratch : (r : Reg) → is_arming r ≡ false → is_scratch r ≡ false
arming_scratch R0 h = cc
arming_scratch R11 h = cc
arming_scratch other h = refl

arming_r0 : (r : Reg) → is_arming r ≡ false → same_reg r R0 ≡ false
arming_r0 R0 h = cc
arming_r0 other h = refl

arming_r11 : (regs : Regs) (v : ℕ) (r : Reg) → is_arming r ≡ false → reg_get (reg_set regs R11 v) r ≡ reg_get regs r
arming_r11 regs v R11 h = cc
arming_r11 regs v other h = refl

module _ (o : Opener) (Facts : CoreState → Type 0) (beside : LastsBeside o Facts) (Flags : List ℕ → Type 0) (saved : LastsSaved o Flags) where
  abbrev Standing : ℕ → Regs → CoreState → Type 0
  Standing = Stands o (Both Facts Flags)

  -- an expression's word comes to r0, or its error does
  module _ (vars : List (Option VarPlan)) (store : Store) (x : kernel.Expression) (pc : ℕ) (regs : Regs) (ls : List Line) (Q : Value → CoreState → Type 0) (n : ℕ) (next : (regs' : Regs) (b : CoreState) → Standing (pc + length ls) regs' b → regs'.r9 ≡ regs.r9 → Reaches o (Q (word regs'.r0)) n b) (errs : (kind : ErrorKind) (pos : Pos) (b : CoreState) → ((c : CoreState) → KeptParts o.relied (its_own o) o.t b c → Errs o.home o.t kind pos c) → Q (error kind pos) b) (a : CoreState) (h : Standing pc regs a) where
    on_outcome : (value : Value) (b : CoreState) →
        OutcomeAbove o.home o.relied o.s first_value o.t (at_pc o.thread pc regs) a.words (pc + length ls) value b × Facts b →
        Reaches o (Q value) n b
    on_outcome (error kind pos) b g =
        leads_more (CasesKept o.relied o.places o.cases o.t) (PartsStep o.home (IsApart o.s) (its_own o) o.t) (Q (error kind pos)) 0 n (omega arith) b
        (errs kind pos b (λ c m. g.0 c m.own))
    on_outcome (word v) b g =
        let above : GivesAbove o.relied o.s first_value o.t (at_pc o.thread pc regs) a.words (pc + length ls) v b = g.0 in
        let gives = above.gives in
        subst (λ u. Reaches o (Q (word u)) n b) gives.value
        (next gives.regs b (record {
          here = gives.here;
          room = record {
            sp_is = gives.others Sp refl refl ∙ h.room.sp_is;
            small = h.room.small;
            within = gives.within;
            relied_on = h.room.relied_on;
          };
          others = λ r w. gives.others r (arming_scratch r w) (arming_r0 r w) ∙ h.others r w;
          words = λ w r l. gives.words w r l ∙ h.words w r l;
          there = (g.1, saved.by a.words b.words above.saved h.there.1);
        }) (gives.others R9 refl refl))

    laid_there : IsLaid vars o.relied o.s o.thread.regs.dp o.first.words store x → IsLaid vars o.relied o.s regs.dp a.words store x
    laid_there laid =
        subst (λ d. IsLaid vars o.relied o.s d a.words store x) (sym (h.others Dp refl))
        (laid_lasts vars o.relied o.s o.thread.regs.dp o.first.words a.words store h.words x laid)

    pub value_leads : EvaluatesAbove vars x first_value pc ls → StandAt o.home.parts.code pc ls →
        IsLaid vars o.relied o.s o.thread.regs.dp o.first.words store x → Reaches o (Q (eval store x)) (7 * nodes x + n) a
    value_leads ev st laid =
        let There : CoreState → Type 0 = OutcomeAbove o.home o.relied o.s first_value o.t (at_pc o.thread pc regs) a.words (pc + length ls) (eval store x) in
        then_leads (CasesKept o.relied o.places o.cases o.t) (PartsStep o.home (IsApart o.s) (its_own o) o.t) (λ b. There b × Facts b) (Q (eval store x)) (7 * nodes x) n a
        (beside_all o Facts There beside (7 * nodes x) a h.there.0
        (ev.by o.home o.relied o.s o.t (at_pc o.thread pc regs) store a st (runs_there o (Both Facts Flags) pc regs a h) h.room (laid_there laid)))
        (on_outcome (eval store x))

  -- a resource's name comes to r11
  module _ (place : ResAt) (name pc : ℕ) (regs : Regs) (ls : List Line) (Q : CoreState → Type 0) (n : ℕ) (next : (b : CoreState) → Standing (pc + length ls) (reg_set regs R11 name) b → Reaches o Q n b) (a : CoreState) (h : Standing pc regs a) where
    name_there : IsIdentifier o.relied o.s o.thread.regs.dp o.first.words place name → IsIdentifier o.relied o.s regs.dp a.words place name
    name_there is =
        subst (λ d. IsIdentifier o.relied o.s d a.words place name) (sym (h.others Dp refl))
        (identifier_lasts o.relied o.s o.thread.regs.dp o.first.words a.words h.words place name is)

    pub name_leads : Identifies place pc ls → StandAt o.home.parts.code pc ls →
        IsIdentifier o.relied o.s o.thread.regs.dp o.first.words place name → Reaches o Q (2 + n) a
    name_leads identifies st is =
        let There : CoreState → Type 0 = Named o.relied o.t (at_pc o.thread pc regs) a.words name (pc + length ls) in
        then_leads (CasesKept o.relied o.places o.cases o.t) (PartsStep o.home (IsApart o.s) (its_own o) o.t) (λ b. There b × Facts b) Q 2 n a
        (beside_all o Facts There beside 2 a h.there.0
        (identifies.by o.home o.relied o.s o.t name (at_pc o.thread pc regs) a st (runs_there o (Both Facts Flags) pc regs a h) (name_there is)))
        (λ b g. next b (record {
          here = g.0.here;
          room = record {
            sp_is = h.room.sp_is;
            small = h.room.small;
            within = room_kept o.relied o.s h.room.relied_on a.words b.words h.room.within g.0.words;
            relied_on = h.room.relied_on;
          };
          others = λ r w. arming_r11 regs name r w ∙ h.others r w;
          words = λ w r l. g.0.words w r ∙ h.words w r l;
          there = (g.1, saved.by a.words b.words (λ w r l. g.0.words w r) h.there.1);
        }))
