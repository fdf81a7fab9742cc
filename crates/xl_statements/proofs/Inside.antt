-- The cells of statements may stand in code that goes on behind them, and jump to the ends of blocks and of the select around them alone.
use Rattle.std.proofs.Common.{◌≡◌, ℕ, ◌+◌, ◌<◌, ◌≤◌, ◌≢◌, Bool, true, false, List, [], ◌∷◌, ◌++◌, length, map, Option, Some, None, refl, sym, ap, ◌∙◌, subst, arith, length-append, ⊎_elim, eq-eqb}
use Rattle.std.specs.Prelude.{nat_eq, ◌||◌}
use Rattle.std.proofs.lemmas.Bool.{cases_eq, ne_eqb}
use Rattle.std.proofs.lemmas.List.{length-map}
use Rattle.xw_words.specs.declared.pos.Pos.{Pos}
use Rattle.xc_tree.specs.Types.Words.{is_among}
use Rattle.xs_instr.specs.declared.instr.Instr.TheVariants.{Brff, Brfu, Brbu, Ssync}
use Rattle.xs_instr.specs.declared.instr.Reg.TheVariants.{R0}
use Rattle.xs_instr.specs.Lines.{Line, last_or, line}
use Rattle.xc_kernel.specs.declared.statement.KRes.{KRes}
use Rattle.xc_kernel.specs.declared.statement.KRes.TheVariants.{Port, Timer, Chan}
use Rattle.xc_kernel.specs.Plain as kernel
use Rattle.xc_meaning.specs.Counts.KernelCounts.{branch_count}
use Rattle.xc_meaning.specs.Settings.Sides.{sides_in}
use Rattle.xl_expr.specs.declared.plan.Plan.{Plan}
use Rattle.xl_expr.specs.Targets.{AreGoodLines}
use Rattle.xl_par.specs.Opening.{AreBelow, filled}
use Rattle.xl_ends.specs.Ends.{Sides, codes_in, end_at}
use Rattle.xl_select.specs.Entry.{EntersCase}
use Rattle.xl_select.specs.Opening.{IsBehind, default_targets}
use Rattle.xl_select.specs.OpeningCode.{case_count, is_default}
use Rattle.xl_statements.specs.declared.leaving.JumpTarget.{JumpTarget}
use Rattle.xl_statements.specs.declared.leaving.JumpTarget.TheVariants.{BlockEnd, SelectEnd}
use Rattle.xl_statements.specs.CaseEnds.{case_end}
use Rattle.xl_statements.specs.Cells.{Cell, known, leaving, behind, closed, closed_by, line_of, same_target}
use Rattle.xl_statements.specs.Emits.{AllEmit, AreLines, Branching, ByEnd, CaseCode, Coded, DefaultEmits, Emits, InputEmits, InsideEmits, OneSide, OutputEmits, ParEmits, SelectCode, SeveralBranches, SlavesEmit, TwoSides, is_last, jump_unless}
use Rattle.xl_statements.specs.Inside.{AreGoodCells, AreInside, BranchesAreInside, CasesAreInside, DefaultIsInside, IsInside, is_target_among}
use Rattle.xl_statements.proofs.Starts.{filled_length}

eqb_swap : (a b : ℕ) → nat_eq a b ≡ nat_eq b a
eqb_swap a b =
    ⊎_elim
    (λ (e : a ≡ b). eq-eqb a b e ∙ sym (eq-eqb b a (sym e)))
    (λ (ne : a ≢ b). ne_eqb a b ne ∙ sym (ne_eqb b a (λ e. ne (sym e))))
    (cases_eq a b)

-- the ends of these blocks are among those that jumps may lead to
abbrev Covers : (around : List ℕ) → (targets : List JumpTarget) → Type 0
Covers around targets = (n : ℕ) → is_among around n ≡ true → is_target_among targets (BlockEnd n) ≡ true

covers_block : (around : List ℕ) (targets : List JumpTarget) (n : ℕ) → Covers around targets → Covers (n ∷ around) (BlockEnd n ∷ targets)
covers_block around targets n h m among = by (nat_eq n m) refl
  where
    by : (b : Bool) → nat_eq n m ≡ b → (nat_eq m n || is_target_among targets (BlockEnd m)) ≡ true
    by true e = ap (λ b. b || is_target_among targets (BlockEnd m)) (eqb_swap m n ∙ e)
    by false e = ap (λ b. b || is_target_among targets (BlockEnd m)) (eqb_swap m n ∙ e) ∙ h m (subst (λ b. (b || is_among around m) ≡ true) e among)

module _ (around : List JumpTarget) (size : ℕ) where
  good_append : (a b : List Cell) (i : ℕ) → AreGoodCells around size i a → AreGoodCells around size (i + length a) b → AreGoodCells around size i (a ++ b)
  good_append [] b i h g = let e : i + 0 ≡ i = omega arith in subst (λ n. AreGoodCells around size n b) e g
  good_append (known l ∷ a) b i h g =
      let e : i + length (known l ∷ a) ≡ i + 1 + length a = omega arith in
      (h.0, h.1, good_append a b (i + 1) h.2 (subst (λ n. AreGoodCells around size n b) e g))
  good_append (leaving n pos ∷ a) b i h g =
      let e : i + length (leaving n pos ∷ a) ≡ i + 1 + length a = omega arith in
      (h.0, good_append a b (i + 1) h.1 (subst (λ n. AreGoodCells around size n b) e g))

  good_known : (ls : List Line) (i : ℕ) → AreGoodLines size i ls → AreGoodCells around size i (map known ls)
  good_known [] i h = tt
  good_known (l ∷ ls) i h = (h.0, h.1, good_known ls (i + 1) h.2)

  -- those to its own end
  good_closed : (n : JumpTarget) (end : ℕ) (cells : List Cell) (i : ℕ) → i + length cells ≤ end → end < size → AreGoodCells (n ∷ around) size i cells → AreGoodCells around size i (map (closed n end) cells)
  good_closed n end [] i within ends h = tt
  good_closed n end (known l ∷ cells) i within ends h = (h.0, h.1, good_closed n end cells (i + 1) (omega arith) ends h.2)
  good_closed n end (leaving m pos ∷ cells) i within ends h = by (good_closed n end cells (i + 1) (omega arith) ends h.1) (same_target m n) refl
    where
      by : AreGoodCells around size (i + 1) (map (closed n end) cells) → (b : Bool) → same_target m n ≡ b → AreGoodCells around size i (closed_by b m end pos ∷ map (closed n end) cells)
      by rest true e = let near : i < end = omega arith in ((near, ends), refl, rest)
      by rest false e = (subst (λ b. (b || is_target_among around m) ≡ true) e h.0, rest)

-- what jumps to no end around it may stand anywhere
good_anywhere : (around : List JumpTarget) (size i : ℕ) (cells : List Cell) → AreGoodCells [] size i cells → AreGoodCells around size i cells
good_anywhere around size i [] h = tt
good_anywhere around size i (known l ∷ cells) h = (h.0, h.1, good_anywhere around size (i + 1) cells h.2)
good_anywhere around size i (leaving n pos ∷ cells) h = let none : false ≡ true = h.0 in absurd cc

-- no jump leaves code around which there is no end
pub all_known : (size i : ℕ) (cells : List Cell) → AreGoodCells [] size i cells → cells ≡ map known (map line_of cells)
all_known size i [] h = refl
all_known size i (known l ∷ cells) h = ap (λ cs. known l ∷ cs) (all_known size (i + 1) cells h.2)
all_known size i (leaving n pos ∷ cells) h = let none : false ≡ true = h.0 in cc

pub good_lines : (size i : ℕ) (cells : List Cell) → AreGoodCells [] size i cells → AreGoodLines size i (map line_of cells)
good_lines size i [] h = tt
good_lines size i (known l ∷ cells) h = (h.0, h.1, good_lines size (i + 1) cells h.2)
good_lines size i (leaving n pos ∷ cells) h = let none : false ≡ true = h.0 in absurd cc

piece_good : (around : List JumpTarget) (P : ℕ → List Line → Type 0) (last : Pos) (size pc : ℕ) (cells : List Cell) → AreLines P last pc cells → pc + length cells < size → AreGoodCells around size pc cells
piece_good around P last size pc cells h ends =
    let n : length cells ≡ length h.lines = ap length h.is ∙ length-map h.lines known in
    subst (AreGoodCells around size pc) (sym h.is) (good_known around size h.lines pc (h.aimed.by size (omega arith)))

module _ (plan : Plan) where
  -- what is said of a side's cells
  abbrev IsGoodCode : (around : List JumpTarget) (size : ℕ) → Coded → Type 0
  IsGoodCode around size Code = (last : Pos) (pc : ℕ) (cells : List Cell) → Code last pc cells → pc + length cells < size → AreGoodCells around size pc cells

  module _ (around : List JumpTarget) (last : Pos) (size pc : ℕ) (cells : List Cell) (x : kernel.Expression) (First Second : Coded) (first_good : IsGoodCode around size First) (second_good : IsGoodCode around size Second) where
    one_side_good : OneSide plan.vars x First last pc cells → pc + length cells < size → AreGoodCells around size pc cells
    one_side_good h ends =
        let tail = known (line (Brff R0 h.end) last) ∷ h.first in
        let n : length cells ≡ length h.test + 1 + length h.first = omega (arith, ap length h.is, length-append (map known h.test) tail, length-map h.test known) in
        let e = h.end_is in
        let m = length-map h.test known in
        let first = first_good last (pc + length h.test + 1) h.first h.first_is (omega arith) in
        let from_test : AreGoodCells around size (pc + length h.test) tail = ((omega arith, omega arith), refl, first) in
        subst (AreGoodCells around size pc) (sym h.is)
        (good_append around size (map known h.test) tail pc (good_known around size h.test pc (h.aimed.by size (omega arith))) (subst (λ k. AreGoodCells around size (pc + k) tail) (sym m) from_test))

    two_sides_good : TwoSides plan.vars x First Second last pc cells → pc + length cells < size → AreGoodCells around size pc cells
    two_sides_good h ends =
        let jump = known (line (Brfu h.end) (behind last h.first)) in
        let tail = known (line (Brff R0 h.other) last) ∷ (h.first ++ (jump ∷ h.second)) in
        let n : length cells ≡ length h.test + 1 + length h.first + 1 + length h.second = omega (arith, ap length h.is, length-append (map known h.test) tail, length-map h.test known, length-append h.first (jump ∷ h.second)) in
        let o = h.other_is in
        let e = h.end_is in
        let m = length-map h.test known in
        let first = first_good last (pc + length h.test + 1) h.first h.first_is (omega arith) in
        let second = second_good (behind last h.first) h.other h.second h.second_is (omega arith) in
        let at_jump : pc + length h.test + 1 + length h.first + 1 ≡ h.other = omega arith in
        let from_jump : AreGoodCells around size (pc + length h.test + 1 + length h.first) (jump ∷ h.second) = ((omega arith, omega arith), refl, subst (λ k. AreGoodCells around size k h.second) (sym at_jump) second) in
        let from_test : AreGoodCells around size (pc + length h.test) tail = ((omega arith, omega arith), refl, good_append around size h.first (jump ∷ h.second) (pc + length h.test + 1) first from_jump) in
        subst (AreGoodCells around size pc) (sym h.is)
        (good_append around size (map known h.test) tail pc (good_known around size h.test pc (h.aimed.by size (omega arith))) (subst (λ k. AreGoodCells around size (pc + k) tail) (sym m) from_test))

    branching_good : (b : kernel.Statements) → Branching b plan.vars x First Second last pc cells → pc + length cells < size → AreGoodCells around size pc cells
    branching_good kernel.no_more h ends = one_side_good h ends
    branching_good (kernel.more s ss) h ends = two_sides_good h ends

  -- a `par`, by what is said of its first branch, and of the others and their starts
  module _ (around : List JumpTarget) (last : Pos) (size pc : ℕ) (cells : List Cell) (slaves : ℕ) (First : Coded) (Slaves : List ℕ → Coded)
      (first_good : IsGoodCode [] size First)
      (slaves_good : (starts : List ℕ) (l : Pos) (i : ℕ) (cs : List Cell) → Slaves starts l i cs → i + length cs < size → AreBelow size starts × AreGoodCells [] size i cs)
    where
      several_good : SeveralBranches plan slaves First Slaves last pc cells → pc + length cells < size → AreGoodCells around size pc cells
      several_good h ends =
          let jump = known (line (Brfu h.end) (behind last h.first)) in
          let opening = map known (filled h.opening h.starts) in
          let closing = map known h.closing in
          let e = h.end_is in
          let f = filled_length h.opening h.starts in
          let m = length-map (filled h.opening h.starts) known in
          let c = length-map h.closing known in
          let n : pc + length cells ≡ h.end =
          omega (arith, ap length h.is, length-append opening (h.first ++ (closing ++ (jump ∷ h.others))), length-append h.first (closing ++ (jump ∷ h.others)), length-append closing (jump ∷ h.others), e, f, m, c) in
          let p1 = pc + length h.opening in
          let first = first_good last (pc + length h.opening) h.first h.first_is (omega (arith, n, e, ends)) in
          let others = slaves_good h.starts (behind last h.first) (pc + length h.opening + length h.first + length h.closing + 1) h.others h.others_are (omega (arith, n, e, ends)) in
          let from_jump : AreGoodCells around size (pc + length h.opening + length h.first + length h.closing) (jump ∷ h.others) =
          ((omega (arith, n, e, ends), omega (arith, n, e, ends)), refl, good_anywhere around size (pc + length h.opening + length h.first + length h.closing + 1) h.others others.1) in
          let closing_lines = good_known around size h.closing (pc + length h.opening + length h.first) (h.closes_aimed.by size (omega (arith, n, e, ends))) in
          let from_closing =
          good_append around size closing (jump ∷ h.others) (pc + length h.opening + length h.first) closing_lines (subst (λ k. AreGoodCells around size (pc + length h.opening + length h.first + k) (jump ∷ h.others)) (sym c) from_jump) in
          let from_first = good_append around size h.first (closing ++ (jump ∷ h.others)) (pc + length h.opening) (good_anywhere around size (pc + length h.opening) h.first first) from_closing in
          let opening_lines = good_known around size (filled h.opening h.starts) pc (h.opens_aimed.by h.starts size h.as_many others.0) in
          subst (AreGoodCells around size pc) (sym h.is)
          (good_append around size opening (h.first ++ (closing ++ (jump ∷ h.others))) pc opening_lines (subst (λ k. AreGoodCells around size (pc + k) (h.first ++ (closing ++ (jump ∷ h.others)))) (sym (m ∙ f)) from_first))

  -- a transfer, which has no code where there is no end
  by_end_good : (around : List JumpTarget) (P : (end : ℕ) → ℕ → List Line → Type 0) (end : Option ℕ) (last : Pos) (size pc : ℕ) (cells : List Cell) → ByEnd P end last pc cells → pc + length cells < size → AreGoodCells around size pc cells
  by_end_good around P None last size pc cells h ends = subst (AreGoodCells around size pc) (sym h) tt
  by_end_good around P (Some end) last size pc cells h ends = piece_good around (P end) last size pc cells h ends

  output_good : (sides : Sides) (o : kernel.Output) (around : List JumpTarget) (last : Pos) (size pc : ℕ) (cells : List Cell) (resource : KRes) → OutputEmits plan sides o resource last pc cells → pc + length cells < size → AreGoodCells around size pc cells
  output_good sides o around last size pc cells (Port p) h ends = piece_good around _ last size pc cells h ends
  output_good sides o around last size pc cells (Timer t) h ends = absurd h
  output_good sides o around last size pc cells (Chan c) h ends = by_end_good around _ (end_at plan.channels sides c) last size pc cells h ends

  input_good : (sides : Sides) (i : kernel.Input) (around : List JumpTarget) (last : Pos) (size pc : ℕ) (cells : List Cell) (resource : KRes) → InputEmits plan sides i resource last pc cells → pc + length cells < size → AreGoodCells around size pc cells
  input_good sides i around last size pc cells (Port p) h ends = piece_good around _ last size pc cells h ends
  input_good sides i around last size pc cells (Timer t) h ends = piece_good around _ last size pc cells h ends
  input_good sides i around last size pc cells (Chan c) h ends = by_end_good around _ (end_at plan.channels sides c) last size pc cells h ends

  -- a case of a select, by what is said of its body
  module _ (targets : List JumpTarget) (size : ℕ) (Enters : ℕ → List Line → Type 0) (Body : Coded) (body_good : IsGoodCode (SelectEnd ∷ targets) size Body) where
    case_good : (ends_select : Bool) (last : Pos) (pc : ℕ) (cells : List Cell) → CaseCode Enters Body ends_select last pc cells → pc + length cells < size → AreGoodCells (SelectEnd ∷ targets) size pc cells
    case_good ends_select last pc cells h ends =
        let jump = jump_unless ends_select (behind (last_or last h.entry) h.body) in
        let m = length-map h.entry known in
        let n : length cells ≡ length h.entry + (length h.body + length (jump_unless ends_select (behind (last_or last h.entry) h.body))) = omega (arith, ap length h.is, length-append (map known h.entry) (h.body ++ jump), length-append h.body jump, m) in
        let body = body_good (last_or last h.entry) (pc + length h.entry) h.body h.body_is (omega (arith, n, ends)) in
        let from_entry = good_append (SelectEnd ∷ targets) size h.body jump (pc + length h.entry) body (jump_good ends_select (behind (last_or last h.entry) h.body) (pc + length h.entry + length h.body)) in
        subst (AreGoodCells (SelectEnd ∷ targets) size pc) (sym h.is)
        (good_append (SelectEnd ∷ targets) size (map known h.entry) (h.body ++ jump) pc (good_known (SelectEnd ∷ targets) size h.entry pc (h.aimed.by size (omega (arith, n, ends)))) (subst (λ k. AreGoodCells (SelectEnd ∷ targets) size (pc + k) (h.body ++ jump)) (sym m) from_entry))
      where
        jump_good : (ends_select : Bool) (p : Pos) (i : ℕ) → AreGoodCells (SelectEnd ∷ targets) size i (jump_unless ends_select p)
        jump_good true p i = tt
        jump_good false p i = (refl, tt)

  -- What is said of a select's cases and default, with their starts: that of the default is not in front of theirs.
  record AreGoodInside (targets : List JumpTarget) (size : ℕ) (otherwise : Bool) (starts : List ℕ) (default_start pc : ℕ) (cells : List Cell) : Type 0 where
    pub below : AreBelow size starts
    pub is_behind : IsBehind otherwise pc default_start size
    pub good : AreGoodCells (SelectEnd ∷ targets) size pc cells

  behind_sooner : (otherwise : Bool) (end further target size : ℕ) → end ≤ further → IsBehind otherwise further target size → IsBehind otherwise end target size
  behind_sooner true end further target size le h = (omega (arith, le, h.0), h.1)
  behind_sooner false end further target size le h = tt

  first_of : (a b : ℕ) (more others : List ℕ) → a ∷ more ≡ b ∷ others → a ≡ b
  first_of a b more others e = cc

  rest_of : (a b : ℕ) (more others : List ℕ) → a ∷ more ≡ b ∷ others → more ≡ others
  rest_of a b more others e = cc

  module _ (targets : List JumpTarget) (last : Pos) (size pc : ℕ) (cells : List Cell) (ends_of : List ℕ) (cases : kernel.Cases) (d : kernel.Default) (pos : Pos) (Cases : List ℕ → Coded)
      (inside_good : (starts : List ℕ) (default_start : ℕ) (l : Pos) (i : ℕ) (cs : List Cell) → length starts ≡ case_count cases → Cases (starts ++ default_targets (is_default d) default_start) l i cs → i + length cs < size → AreGoodInside targets size (is_default d) starts default_start i cs)
    where
      select_good : SelectCode plan ends_of cases d pos Cases last pc cells → pc + length cells < size → AreGoodCells targets size pc cells
      select_good h ends =
          let g = h.inside_is in
          let starts = h.starts ++ default_targets (is_default d) h.default_start in
          let opening = map known (filled h.opening starts) in
          let end = pc + length h.opening + length g.inside in
          let m : length (map known (filled h.opening (h.starts ++ default_targets (is_default d) h.default_start))) ≡ length h.opening = length-map (filled h.opening starts) known ∙ filled_length h.opening starts in
          let k : length h.inside ≡ length g.inside = ap length g.is ∙ length-map g.inside (closed SelectEnd (pc + length h.opening + length g.inside)) in
          let n : length cells ≡ length h.opening + length g.inside = omega (arith, ap length h.is, length-append opening h.inside, m, k) in
          let inside = inside_good h.starts h.default_start (last_or last h.opening) (pc + length h.opening) g.inside h.as_many g.inside_is (omega (arith, n, ends)) in
          let closed_ones : AreGoodCells targets size (pc + length h.opening) h.inside =
          subst (AreGoodCells targets size (pc + length h.opening)) (sym g.is)
          (good_closed targets size SelectEnd (pc + length h.opening + length g.inside) g.inside (pc + length h.opening) (omega arith) (omega (arith, n, ends)) inside.good) in
          let lines = good_known targets size (filled h.opening starts) pc (h.opens_aimed.by h.starts h.default_start size h.as_many inside.below inside.is_behind (omega (arith, n, ends))) in
          subst (AreGoodCells targets size pc) (sym h.is)
          (good_append targets size opening h.inside pc lines (subst (λ j. AreGoodCells targets size (pc + j) h.inside) (sym m) closed_ones))

  mutual
    pub emits_good : (sides : Sides) (s : kernel.Statement) (around : List ℕ) (targets : List JumpTarget) (last : Pos) (size pc : ℕ) (cells : List Cell) → Covers around targets → IsInside around s → Emits plan sides s last pc cells → pc + length cells < size → AreGoodCells targets size pc cells
    emits_good sides (kernel.set_zero v) around targets last size pc cells covers inside h ends = piece_good targets _ last size pc cells h ends
    emits_good sides (kernel.set place x) around targets last size pc cells covers inside h ends = piece_good targets _ last size pc cells h ends
    emits_good sides (kernel.output o) around targets last size pc cells covers inside h ends = output_good sides o targets last size pc cells o.resource h ends
    emits_good sides (kernel.input i) around targets last size pc cells covers inside h ends = input_good sides i targets last size pc cells i.resource h ends
    emits_good sides (kernel.if_then x a b) around targets last size pc cells covers inside h ends =
        branching_good targets last size pc cells x (AllEmit plan sides a) (AllEmit plan sides b) (λ l i cs k n. all_good sides a around targets l size i cs covers inside.0 k n) (λ l i cs k n. all_good sides b around targets l size i cs covers inside.1 k n) b h ends
    emits_good sides (kernel.loop x a b) around targets last size pc cells covers inside h ends =
        let back = known (line (Brbu pc) (behind (behind last h.body) h.next)) in
        let tail = known (line (Brff R0 h.end) last) ∷ (h.body ++ (h.next ++ back ∷ [])) in
        let n : length cells ≡ length h.test + 1 + length h.body + length h.next + 1 = omega (arith, ap length h.is, length-append (map known h.test) tail, length-map h.test known, length-append h.body (h.next ++ back ∷ []), length-append h.next (back ∷ [])) in
        let e = h.end_is in
        let m = length-map h.test known in
        let body = all_good sides a around targets last size (pc + length h.test + 1) h.body covers inside.0 h.body_is (omega arith) in
        let next = all_good sides b around targets (behind last h.body) size (pc + length h.test + 1 + length h.body) h.next covers inside.1 h.next_is (omega arith) in
        let from_back : AreGoodCells targets size (pc + length h.test + 1 + length h.body + length h.next) (back ∷ []) = ((omega arith, omega arith), refl, tt) in
        let from_next = good_append targets size h.next (back ∷ []) (pc + length h.test + 1 + length h.body) next from_back in
        let from_test : AreGoodCells targets size (pc + length h.test) tail = ((omega arith, omega arith), refl, good_append targets size h.body (h.next ++ back ∷ []) (pc + length h.test + 1) body from_next) in
        subst (AreGoodCells targets size pc) (sym h.is)
        (good_append targets size (map known h.test) tail pc (good_known targets size h.test pc (h.aimed.by size (omega arith))) (subst (λ k. AreGoodCells targets size (pc + k) tail) (sym m) from_test))
    emits_good sides (kernel.block n a) around targets last size pc cells covers inside h ends =
        let m : length cells ≡ length h.inside = ap length h.is ∙ length-map h.inside (closed (BlockEnd n) (pc + length h.inside)) in
        subst (AreGoodCells targets size pc) (sym h.is)
        (good_closed targets size (BlockEnd n) (pc + length h.inside) h.inside pc (omega arith) (omega arith) (all_good sides a (n ∷ around) (BlockEnd n ∷ targets) last size pc h.inside (covers_block around targets n covers) inside h.inside_is (omega arith)))
    emits_good sides (kernel.exit n) around targets last size pc cells covers inside h ends = subst (AreGoodCells targets size pc) (sym h) (covers n inside, tt)
    emits_good sides (kernel.select cs d pos) around targets last size pc cells covers inside h ends =
        select_good targets last size pc cells _ cs d pos (InsideEmits plan sides d cs) (λ starts default_start l i cells count k n. cases_good sides d cs around targets size (λ start l i cells k n. default_good sides d around targets start l size i cells covers inside.1 k n) starts default_start l i cells covers inside.0 count k n) h ends
    emits_good sides (kernel.par bs) around targets last size pc cells covers inside h ends = par_good sides bs targets last size pc cells inside h ends
    emits_good sides (kernel.transaction c is_master a start close) around targets last size pc cells covers inside h ends = absurd h

    pub all_good : (sides : Sides) (ss : kernel.Statements) (around : List ℕ) (targets : List JumpTarget) (last : Pos) (size pc : ℕ) (cells : List Cell) → Covers around targets → AreInside around ss → AllEmit plan sides ss last pc cells → pc + length cells < size → AreGoodCells targets size pc cells
    all_good sides kernel.no_more around targets last size pc cells covers inside h ends = subst (AreGoodCells targets size pc) (sym h) tt
    all_good sides (kernel.more s ss) around targets last size pc cells covers inside h ends =
        let n : length cells ≡ length h.first + length h.rest = ap length h.is ∙ length-append h.first h.rest in
        subst (AreGoodCells targets size pc) (sym h.is)
        (good_append targets size h.first h.rest pc (emits_good sides s around targets last size pc h.first covers inside.0 h.first_is (omega arith)) (all_good sides ss around targets (behind last h.first) size (pc + length h.first) h.rest covers inside.1 h.rest_is (omega arith)))

    -- by what is said of the default
    cases_good : (sides : Sides) (d : kernel.Default) (cs : kernel.Cases) (around : List ℕ) (targets : List JumpTarget) (size : ℕ) →
        ((start : ℕ) (l : Pos) (i : ℕ) (cells : List Cell) → DefaultEmits plan sides d (default_targets (is_default d) start) l i cells → i + length cells < size → AreGoodInside targets size (is_default d) [] start i cells) →
        (starts : List ℕ) (default_start : ℕ) (last : Pos) (pc : ℕ) (cells : List Cell) → Covers around targets → CasesAreInside around cs → length starts ≡ case_count cs →
        InsideEmits plan sides d cs (starts ++ default_targets (is_default d) default_start) last pc cells → pc + length cells < size → AreGoodInside targets size (is_default d) starts default_start pc cells
    cases_good sides d kernel.no_case around targets size default_is [] default_start last pc cells covers inside count h ends = default_is default_start last pc cells h ends
    cases_good sides d kernel.no_case around targets size default_is (start ∷ starts) default_start last pc cells covers inside count h ends = absurd (let z : ⊥ = omega (arith, count) in z)
    cases_good sides d (kernel.more_cases (kernel.case guard i ss) cs) around targets size default_is [] default_start last pc cells covers inside count h ends = absurd (let z : ⊥ = omega (arith, count) in z)
    cases_good sides d (kernel.more_cases (kernel.case guard i ss) cs) around targets size default_is (start ∷ starts) default_start last pc cells covers inside count h ends =
        let Enters = EntersCase plan i (case_end plan.channels sides i.resource) true in
        let n : length cells ≡ length h.first + length h.others = ap length h.is ∙ length-append h.first h.others in
        let first = case_good targets size Enters (AllEmit plan sides ss) (λ l j body k m. all_good sides ss around (SelectEnd ∷ targets) l size j body covers inside.0 k m) (is_last cs d) last pc h.first h.first_is (omega (arith, n, ends)) in
        let here : start ≡ pc = first_of start pc (starts ++ default_targets (is_default d) default_start) h.later h.starts_are in
        let later : h.later ≡ starts ++ default_targets (is_default d) default_start = sym (rest_of start pc (starts ++ default_targets (is_default d) default_start) h.later h.starts_are) in
        let others = cases_good sides d cs around targets size default_is starts default_start (behind last h.first) (pc + length h.first) h.others covers inside.1 (omega (arith, count)) (subst (λ ns. InsideEmits plan sides d cs ns (behind last h.first) (pc + length h.first) h.others) later h.others_are) (omega (arith, n, ends)) in
        record {
          below = (omega (arith, here, n, ends), others.below);
          is_behind = behind_sooner (is_default d) pc (pc + length h.first) default_start size (omega arith) others.is_behind;
          good = subst (AreGoodCells (SelectEnd ∷ targets) size pc) (sym h.is) (good_append (SelectEnd ∷ targets) size h.first h.others pc first others.good);
        }

    default_good : (sides : Sides) (d : kernel.Default) (around : List ℕ) (targets : List JumpTarget) (default_start : ℕ) (last : Pos) (size pc : ℕ) (cells : List Cell) →
        Covers around targets → DefaultIsInside around d → DefaultEmits plan sides d (default_targets (is_default d) default_start) last pc cells → pc + length cells < size →
        AreGoodInside targets size (is_default d) [] default_start pc cells
    default_good sides kernel.no_default around targets default_start last size pc cells covers inside h ends =
        record { below = tt; is_behind = tt; good = subst (AreGoodCells (SelectEnd ∷ targets) size pc) (sym h.1) tt }
    default_good sides (kernel.default ss) around targets default_start last size pc cells covers inside h ends =
        let here : default_start ≡ pc = first_of default_start pc [] [] h.0 in
        record {
          below = tt;
          is_behind = (omega (arith, here), omega (arith, here, ends));
          good = all_good sides ss around (SelectEnd ∷ targets) last size pc cells covers inside h.1 ends;
        }

    par_good : (sides : Sides) (bs : kernel.Branches) (around : List JumpTarget) (last : Pos) (size pc : ℕ) (cells : List Cell) → BranchesAreInside bs → ParEmits plan sides bs last pc cells → pc + length cells < size → AreGoodCells around size pc cells
    par_good sides kernel.no_branch around last size pc cells inside h ends = subst (AreGoodCells around size pc) (sym h) tt
    par_good sides (kernel.more_branches (kernel.branch ss pos) kernel.no_branch) around last size pc cells inside h ends =
        good_anywhere around size pc cells (all_good (sides_in 0 [] ss [] sides) ss [] [] last size pc cells (λ n k. k) inside.0 h ends)
    par_good sides (kernel.more_branches (kernel.branch ss pos) (kernel.more_branches b bs)) around last size pc cells inside h ends =
        several_good around last size pc cells (branch_count (kernel.more_branches b bs)) (AllEmit plan (sides_in 0 [] ss (codes_in (kernel.more_branches b bs)) sides) ss) (SlavesEmit plan sides (ss ∷ []) (kernel.more_branches b bs)) (λ l i cs k n. all_good (sides_in 0 [] ss (codes_in (kernel.more_branches b bs)) sides) ss [] [] l size i cs (λ m e. e) inside.0 k n) (λ ns l i cs k n. slaves_good sides (ss ∷ []) (kernel.more_branches b bs) ns l size i cs inside.1 k n) h ends

    slaves_good : (sides : Sides) (before : List kernel.Statements) (bs : kernel.Branches) (starts : List ℕ) (last : Pos) (size pc : ℕ) (cells : List Cell) → BranchesAreInside bs → SlavesEmit plan sides before bs starts last pc cells → pc + length cells < size → AreBelow size starts × AreGoodCells [] size pc cells
    slaves_good sides before kernel.no_branch starts last size pc cells inside h ends = (subst (AreBelow size) (sym h.0) tt, subst (AreGoodCells [] size pc) (sym h.1) tt)
    slaves_good sides before (kernel.more_branches (kernel.branch ss pos) bs) starts last size pc cells inside h ends =
        let g = h.first_is in
        let end = known (line Ssync (behind last g.body)) in
        let n : length cells ≡ length h.first + length h.others = ap length h.is ∙ length-append h.first h.others in
        let m : length h.first ≡ length g.body + 1 = omega (arith, ap length g.is, length-append g.body (end ∷ [])) in
        let body = all_good (sides_in 0 before ss (codes_in bs) sides) ss [] [] last size pc g.body (λ n k. k) inside.0 g.body_is (omega (arith, n, m, ends)) in
        let slave : AreGoodCells [] size pc h.first = subst (AreGoodCells [] size pc) (sym g.is) (good_append [] size g.body (end ∷ []) pc body (tt, refl, tt)) in
        let others = slaves_good sides (ss ∷ before) bs h.later (behind last h.first) size (pc + length h.first) h.others inside.1 h.others_are (omega (arith, n, ends)) in
        (subst (AreBelow size) (sym h.starts_are) (omega (arith, n, m, ends), others.0), subst (AreGoodCells [] size pc) (sym h.is) (good_append [] size h.first h.others pc slave others.1))
