-- Where a place's word stands, and the code that writes it.
use Rattle.std.specs.Prelude.{◌≡◌, ℕ, ◌+◌, ◌-◌, ◌*◌, ◌%◌, ◌^◌, ◌≤◌, Bool, true, false, List, [], ◌∷◌, ◌++◌, length, Option, Some, None, slice_get}
use Rattle.xw_words.specs.declared.pos.Pos.{Pos}
use Rattle.xs_instr.specs.declared.image.Home.{Home}
use Rattle.xs_instr.specs.declared.instr.Instr.{Instr}
use Rattle.xs_instr.specs.declared.instr.Instr.TheVariants.{Ldc, Ldwdp, Stwdp, Ldawdp, Ldwsp, Stwsp, Stw}
use Rattle.xs_instr.specs.declared.instr.Reg.{Reg}
use Rattle.xs_instr.specs.declared.instr.Reg.TheVariants.{R0, R10, R11}
use Rattle.xs_instr.specs.declared.state.CoreState.{CoreState}
use Rattle.xs_instr.specs.declared.state.Regs.{Regs}
use Rattle.xs_instr.specs.declared.state.Thread.{Thread}
use Rattle.xs_instr.specs.Did.{makes}
use Rattle.xs_instr.specs.Memory.{address_at, word_put}
use Rattle.xs_instr.specs.Registers.{reg_get}
use Rattle.xs_instr.specs.Rows.{put_local}
use Rattle.xs_instr.specs.Slot.{slot}
use Rattle.xc_kernel.specs.Plain as kernel
use Rattle.xc_kernel.specs.Values.{Value, word, error, tested}
use Rattle.xc_kernel.specs.Eval.{Store, words_of, eval}
use Rattle.xs_instr.specs.Lines.{Line, line, at_pos}
use Rattle.xs_instr.specs.OwnSteps.{HasRoom, IsApart, IsWord, Kept, RunsAt, StandAt, Within, temporary}
use Rattle.xl_expr.specs.declared.plan.VarAt.{VarAt}
use Rattle.xl_expr.specs.declared.plan.VarAt.TheVariants.{Near, Far, Through}
use Rattle.xl_expr.specs.declared.plan.VarPlan.{VarPlan}
use Rattle.xl_expr.specs.Plans.{var_in}
use Rattle.xl_expr.specs.Measures.{nodes_at}
use Rattle.xl_expr.specs.Code.{fixed_index, tested_index, expression_code}
use Rattle.xl_expr.specs.Works.{PlaceIsLaid, Errs}

-- a word in r10 is written to the address r11 + 4 r0
abbrev pub write : Instr
write = Stw R10 R11 R0

-- a register's word goes to the word at 4i behind the address that the word at dp + 4n holds
abbrev pub held_write : (n i : ℕ) → Reg → List Instr
held_write n i from = Stwsp from 0 ∷ Ldwdp R11 n ∷ Ldc R0 i ∷ Ldwsp R10 0 ∷ write ∷ []

-- a register's word goes to a variable's
abbrev pub word_write : VarAt → Reg → List Instr
word_write (Near n) from = Stwdp from n ∷ []
word_write (Far n) from = held_write n 0 from
word_write (Through n) from = held_write n 0 from

abbrev pub word_store : Option VarPlan → Reg → Pos → List Line
word_store None from last = []
word_store (Some found) from last = at_pos last (word_write found.place from)

-- behind the index's code
abbrev pub element_write : Instr → ℕ → List Instr
element_write base words = tested_index words ++ base ∷ Ldwsp R10 0 ∷ write ∷ []

-- to an element, by its index's code, after which an instruction brings the address of the array's first word to r11
abbrev pub indexed_write : Instr → ℕ → Reg → Pos → (ℕ → List Line) → ℕ → List Line
indexed_write base words from pos index here = line (Stwsp from 0) pos ∷ (index (here + 1) ++ at_pos pos (element_write base words))

-- and at an index that needs no test, or by its code
abbrev pub element_store_at : VarAt → (words : ℕ) → (fixed : Option ℕ) → Reg → Pos → (ℕ → List Line) → ℕ → List Line
element_store_at (Near n) words (Some i) from pos index here = at_pos pos (Stwdp from ((n + i) % 2 ^ 32) ∷ [])
element_store_at (Near n) words None from pos index here = indexed_write (Ldawdp R11 n) words from pos index here
element_store_at (Far n) words (Some i) from pos index here = at_pos pos (held_write n i from)
element_store_at (Far n) words None from pos index here = indexed_write (Ldwdp R11 n) words from pos index here
element_store_at (Through n) words fixed from pos index here = at_pos pos (held_write n 0 from)

abbrev pub element_store : Option VarPlan → kernel.Expression → Reg → Pos → (ℕ → List Line) → ℕ → List Line
element_store None i from pos index here = []
element_store (Some found) i from pos index here = element_store_at found.place found.words (fixed_index i found.words) from pos index here

abbrev pub store_code : List (Option VarPlan) → kernel.Place → Reg → ℕ → Pos → List Line
store_code vars (kernel.word v) from here last = word_store (var_in vars v) from last
store_code vars (kernel.element v i pos) from here last = element_store (var_in vars v) i from pos (λ n. expression_code vars i 1 n pos) here

-- the index of a place's word in its variable, or the error
abbrev pub tested_value : ℕ → Pos → Value → Value
tested_value len pos (word i) = tested i len pos
tested_value len pos (error kind at_pos') = error kind at_pos'

abbrev pub index_in : Store → kernel.Place → Value
index_in store (kernel.word v) = word 0
index_in store (kernel.element v i pos) = tested_value (length (words_of store v)) pos (eval store i)

-- the address of a place's word, by its index
module _ (vars : List (Option VarPlan)) (relied : ℕ → Bool) (s dp : ℕ) (words : List ℕ) where
  abbrev pub WordAt : VarAt → ℕ → Type 0
  WordAt (Near n) address = address ≡ address_at dp n
  WordAt (Far n) address = (base : ℕ) × IsWord relied s words (address_at dp n) base × (address ≡ address_at base 0)
  WordAt (Through n) address = (base : ℕ) × IsWord relied s words (address_at dp n) base × (address ≡ address_at base 0)

  abbrev pub ElementAt : VarAt → ℕ → ℕ → Type 0
  ElementAt (Near n) i address = address ≡ address_at (address_at dp n) i
  ElementAt (Far n) i address = (base : ℕ) × IsWord relied s words (address_at dp n) base × (address ≡ address_at base i)
  ElementAt (Through n) i address = (base : ℕ) × IsWord relied s words (address_at dp n) base × (address ≡ address_at base 0)

  abbrev pub OfWord : Option VarPlan → ℕ → Type 0
  OfWord None address = ⊥
  OfWord (Some found) address = WordAt found.place address

  abbrev pub OfElement : Option VarPlan → ℕ → ℕ → Type 0
  OfElement None i address = ⊥
  OfElement (Some found) i address = ElementAt found.place i address

  abbrev pub IsAddress : kernel.Place → ℕ → ℕ → Type 0
  IsAddress (kernel.word v) i address = OfWord (var_in vars v) address
  IsAddress (kernel.element v x pos) i address = OfElement (var_in vars v) i address

-- the registers that the code changes
abbrev pub is_working : Reg → Bool
is_working R0 = true
is_working R10 = true
is_working R11 = true
is_working _ = false

-- thread t's next step writes v at the address and goes on to an index; its temporary words are there, its registers but r0, r10 and r11 are
-- as they were, and so are all words that it relies on but its temporary ones
pub record Writes (home : Home) (relied : ℕ → Bool) (s t : ℕ) (thread : Thread) (old : List ℕ) (address v pc : ℕ) (b : CoreState) : Type 0 where
  pub index : ℕ
  pub regs : Regs
  pub here : slice_get b.threads t ≡ Some (record thread { pc = index; regs = regs })
  pub others : (r : Reg) → is_working r ≡ false → reg_get regs r ≡ reg_get thread.regs r
  pub within : s + temporary ≤ length b.words
  pub words : (w : ℕ) → relied w ≡ true → IsApart s w → slice_get b.words w ≡ slice_get old w
  pub made : slot home b t ≡ makes (put_local b t (record thread { pc = index; regs = regs }) (record { pc = pc; regs = regs; words = word_put b.words address v }))

abbrev pub StoreOutcome : List (Option VarPlan) → Home → (ℕ → Bool) → ℕ → ℕ → Thread → List ℕ → kernel.Place → ℕ → ℕ → Value → CoreState → Type 0
StoreOutcome vars home relied s t thread old place v pc (word i) b =
    (address : ℕ) × IsAddress vars relied s thread.regs.dp old place i address × ((c : CoreState) → Kept relied t b c → Writes home relied s t thread old address v pc c)
StoreOutcome vars home relied s t thread old place v pc (error kind pos) b = (c : CoreState) → Kept relied t b c → Errs home t kind pos c

-- The lines write a register's word to a place: wherever they stand and whatever other threads do, after fewer than 8 own steps
-- for each node the thread stands where its next step writes the word at the place's address, or its next step traps with the
-- index's error. The write is the step at which the program does its own, and the code ends before it.
pub record Stores (vars : List (Option VarPlan)) (place : kernel.Place) (from : Reg) (pc : ℕ) (lines : List Line) : Type 0 where
  pub by : (home : Home) (relied : ℕ → Bool) (s t : ℕ) (thread : Thread) (store : Store) (a : CoreState) →
      StandAt home.parts.code pc lines → RunsAt t pc thread a → HasRoom relied s thread.regs a.words →
      PlaceIsLaid vars relied s thread.regs.dp a.words store place →
      Within home relied (IsApart s) t
      (StoreOutcome vars home relied s t thread a.words place (reg_get thread.regs from) (pc + length lines) (index_in store place))
      (8 * nodes_at place - 1) a
