-- Where the cells of statements stand in a code, their pieces stand there.
use Rattle.std.proofs.Common.{◌≡◌, ℕ, ◌+◌, ◌≤◌, Bool, true, false, List, [], ◌∷◌, ◌++◌, length, map, Option, Some, None, refl, sym, ap, ◌∙◌, subst, arith, length-append, inl, inr}
use Rattle.std.specs.Prelude.{slice_get}
use Rattle.std.proofs.lemmas.Bool.{false≢true}
use Rattle.std.proofs.lemmas.List.{length-map}
use Rattle.xw_words.specs.declared.pos.Pos.{Pos}
use Rattle.xs_instr.specs.declared.image.Code.{Code}
use Rattle.xs_instr.specs.declared.instr.Instr.TheVariants.{Brff, Brfu, Brbu, Freet, Ssync}
use Rattle.xs_instr.specs.declared.instr.Reg.TheVariants.{R0}
use Rattle.xs_instr.specs.Lines.{Line, last_or, line}
use Rattle.xs_instr.specs.OwnSteps.{StandAt}
use Rattle.xc_kernel.specs.declared.statement.KRes.{KRes}
use Rattle.xc_kernel.specs.declared.statement.KRes.TheVariants.{Port, Timer, Chan}
use Rattle.xc_kernel.specs.Plain as kernel
use Rattle.xc_meaning.specs.Counts.KernelCounts.{branch_count}
use Rattle.xc_meaning.specs.Settings.Sides.{sides_in}
use Rattle.xl_expr.specs.declared.plan.Plan.{Plan}
use Rattle.xl_par.specs.Opening.{filled}
use Rattle.xl_ends.specs.Ends.{Sides, codes_in, end_at}
use Rattle.xl_select.specs.Entry.{EntersCase}
use Rattle.xl_select.specs.Opening.{default_targets}
use Rattle.xl_select.specs.OpeningCode.{is_default}
use Rattle.xl_statements.specs.declared.leaving.JumpTarget.{JumpTarget}
use Rattle.xl_statements.specs.declared.leaving.JumpTarget.TheVariants.{BlockEnd, SelectEnd}
use Rattle.xl_statements.specs.CaseEnds.{case_end, case_ends}
use Rattle.xl_statements.specs.Cells.{Cell, known, leaving, behind, closed, closed_by, same_target}
use Rattle.xl_statements.specs.Emits.{AllEmit, AreLines, Branching, ByEnd, CaseCode, Coded, DefaultEmits, Emits, InputEmits, InsideEmits, OneSide, OutputEmits, ParEmits, SelectCode, SeveralBranches, SlavesEmit, TwoSides, is_last, jump_unless}
use Rattle.xl_statements.specs.Inside.{AreGoodCells, AreInside, BranchesAreInside, CasesAreInside, DefaultIsInside, IsInside}
use Rattle.xl_statements.specs.Laws.{RootsStand}
use Rattle.xl_statements.specs.Pieces.{ByEndAt, CaseFrom, CasesAt, DefaultFrom, Exit, InputAt, Jumps, LinesAt, OutputAt, ParAt, PieceAt, PiecesAt, SelectAt, SeveralAt, SlavesAt, exit_by, exit_of}
use Rattle.xl_statements.proofs.Inside.{all_good}
use Rattle.xl_statements.proofs.Starts.{filled_length}

-- where the open blocks end, and the select whose end is open
record OpenEnds : Type 0 where
  pub exits : List Exit
  pub select : Option ℕ

abbrev none_open : OpenEnds
none_open = record { exits = []; select = None }

-- where a jump to an end leads
abbrev end_of : OpenEnds → JumpTarget → Option ℕ
end_of open_ends (BlockEnd n) = exit_of open_ends.exits n
end_of open_ends SelectEnd = open_ends.select

-- one more end
abbrev with_end : OpenEnds → JumpTarget → (end : ℕ) → OpenEnds
with_end open_ends (BlockEnd n) end = record { exits = record { block = n; index = end } ∷ open_ends.exits; select = open_ends.select }
with_end open_ends SelectEnd end = record { exits = open_ends.exits; select = Some end }

end_with : (open_ends : OpenEnds) (ended target : JumpTarget) (end : ℕ) → end_of (with_end open_ends ended end) target ≡ exit_by (same_target target ended) end (end_of open_ends target)
end_with open_ends (BlockEnd n) (BlockEnd m) end = refl
end_with open_ends (BlockEnd n) SelectEnd end = refl
end_with open_ends SelectEnd (BlockEnd m) end = refl
end_with open_ends SelectEnd SelectEnd end = refl

-- a cell stands at an index of a code, by where the open ends are
abbrev CellAt : Code → OpenEnds → ℕ → Cell → Type 0
CellAt code open_ends pc (known l) = (slice_get code.instrs pc ≡ Some l.instr) × (slice_get code.«at» pc ≡ Some l.pos)
CellAt code open_ends pc (leaving target pos) = (end : ℕ) × (end_of open_ends target ≡ Some end) × (slice_get code.instrs pc ≡ Some (Brfu end))

abbrev CellsAt : Code → OpenEnds → ℕ → List Cell → Type 0
CellsAt code open_ends pc [] = Unit {0}
CellsAt code open_ends pc (c ∷ cs) = CellAt code open_ends pc c × CellsAt code open_ends (pc + 1) cs

module _ (code : Code) (open_ends : OpenEnds) where
  cells_front : (a b : List Cell) (pc : ℕ) → CellsAt code open_ends pc (a ++ b) → CellsAt code open_ends pc a
  cells_front [] b pc h = tt
  cells_front (c ∷ a) b pc h = (h.0, cells_front a b (pc + 1) h.1)

  cells_back : (a b : List Cell) (pc : ℕ) → CellsAt code open_ends pc (a ++ b) → CellsAt code open_ends (pc + length a) b
  cells_back [] b pc h = let e : pc ≡ pc + 0 = omega arith in subst (λ n. CellsAt code open_ends n b) e h
  cells_back (c ∷ a) b pc h =
      let e : pc + 1 + length a ≡ pc + length (c ∷ a) = omega arith in
      subst (λ n. CellsAt code open_ends n b) e (cells_back a b (pc + 1) h.1)

  -- cells that are known are lines
  lines_stand : (ls : List Line) (pc : ℕ) → CellsAt code open_ends pc (map known ls) → StandAt code pc ls
  lines_stand [] pc h = tt
  lines_stand (l ∷ ls) pc h = (h.0.0, h.0.1, lines_stand ls (pc + 1) h.1)

  cells_stand : (ls : List Line) (pc : ℕ) → StandAt code pc ls → CellsAt code open_ends pc (map known ls)
  cells_stand [] pc h = tt
  cells_stand (l ∷ ls) pc h = ((h.0, h.1), cells_stand ls (pc + 1) h.2)

-- where the jumps to an end are known, they stand as jumps to it
cells_closed : (code : Code) (open_ends : OpenEnds) (ended : JumpTarget) (end : ℕ) (cells : List Cell) (pc : ℕ) → CellsAt code open_ends pc (map (closed ended end) cells) → CellsAt code (with_end open_ends ended end) pc cells
cells_closed code open_ends ended end [] pc h = tt
cells_closed code open_ends ended end (known l ∷ cells) pc h = (h.0, cells_closed code open_ends ended end cells (pc + 1) h.1)
cells_closed code open_ends ended end (leaving target pos ∷ cells) pc h = (by (same_target target ended) refl, cells_closed code open_ends ended end cells (pc + 1) h.1)
  where
    by : (b : Bool) → same_target target ended ≡ b → CellAt code (with_end open_ends ended end) pc (leaving target pos)
    by true e =
        let here = subst (λ b. CellAt code open_ends pc (closed_by b target end pos)) e h.0 in
        (end, end_with open_ends ended target end ∙ ap (λ b. exit_by b end (end_of open_ends target)) e, here.0)
    by false e =
        let here = subst (λ b. CellAt code open_ends pc (closed_by b target end pos)) e h.0 in
        (here.0, end_with open_ends ended target end ∙ ap (λ b. exit_by b end (end_of open_ends target)) e ∙ here.1, here.2)

-- of cells that jump to no end none needs to be open
cells_alone : (code : Code) (open_ends : OpenEnds) (size pc : ℕ) (cells : List Cell) → AreGoodCells [] size pc cells → CellsAt code open_ends pc cells → CellsAt code none_open pc cells
cells_alone code open_ends size pc [] good h = tt
cells_alone code open_ends size pc (known l ∷ cells) good h = (h.0, cells_alone code open_ends size (pc + 1) cells good.2 h.1)
cells_alone code open_ends size pc (leaving n pos ∷ cells) good h = let none : false ≡ true = good.0 in absurd cc

module _ (code : Code) (plan : Plan) where
  piece_stands : (P : ℕ → List Line → Type 0) (last : Pos) (open_ends : OpenEnds) (pc : ℕ) (cells : List Cell) → AreLines P last pc cells → CellsAt code open_ends pc cells → LinesAt code P pc (pc + length cells)
  piece_stands P last open_ends pc cells h at_pc = record {
    lines = h.lines;
    stand = lines_stand code open_ends h.lines pc (subst (CellsAt code open_ends pc) h.is at_pc);
    so = h.so;
    end = ap (λ n. pc + n) (ap length h.is ∙ length-map h.lines known);
  }

  -- a test and its branch
  test_stands : (open_ends : OpenEnds) (pc other : ℕ) (test : List Line) (last : Pos) (tail : List Cell) → CellsAt code open_ends pc (map known test ++ (known (line (Brff R0 other) last) ∷ tail)) → StandAt code pc (test ++ line (Brff R0 other) last ∷ []) × CellsAt code open_ends (pc + length test + 1) tail
  test_stands open_ends pc other [] last tail h =
      let e : pc + 1 ≡ pc + 0 + 1 = omega arith in
      ((h.0.0, h.0.1, tt), subst (λ k. CellsAt code open_ends k tail) e h.1)
  test_stands open_ends pc other (l ∷ test) last tail h =
      let e : pc + 1 + length test + 1 ≡ pc + length (l ∷ test) + 1 = omega arith in
      let rest = test_stands open_ends (pc + 1) other test last tail h.1 in
      ((h.0.0, h.0.1, rest.0), subst (λ k. CellsAt code open_ends k tail) e rest.1)

  -- what is said of a side's cells
  abbrev SideStands : Sides → kernel.Statements → OpenEnds → Coded → Type 0
  SideStands sides a open_ends Code = (last : Pos) (pc : ℕ) (cells : List Cell) → Code last pc cells → CellsAt code open_ends pc cells → PiecesAt code plan sides a open_ends.exits pc (pc + length cells)

  module _ (sides : Sides) (x : kernel.Expression) (a b : kernel.Statements) (First Second : Coded) (open_ends : OpenEnds) (last : Pos) (pc : ℕ) (cells : List Cell) (first_stands : SideStands sides a open_ends First) (second_stands : SideStands sides b open_ends Second) where
    one_side_stands : OneSide plan.vars x First last pc cells → b ≡ kernel.no_more → CellsAt code open_ends pc cells → PieceAt code plan sides (kernel.if_then x a b) open_ends.exits pc (pc + length cells)
    one_side_stands h none at_pc =
        let m = length-map h.test known in
        let e = h.end_is in
        let n : h.end ≡ pc + length cells = omega (arith, ap length h.is, length-append (map known h.test) (known (line (Brff R0 h.end) last) ∷ h.first)) in
        let at_test = test_stands open_ends pc h.end h.test last h.first (subst (CellsAt code open_ends pc) h.is at_pc) in
        let first = first_stands last (pc + length h.test + 1) h.first h.first_is at_test.1 in
        (pc + length h.test + 1, h.end, pc + length h.test + 1 + length h.first, 0, record { lines = h.test; place = last; stand = at_test.0; tests = h.tests; end = refl }, first, sym e ∙ n, omega arith, subst (λ ss. PiecesAt code plan sides ss open_ends.exits h.end (pc + length cells)) (sym none) n)

    two_sides_stand : TwoSides plan.vars x First Second last pc cells → CellsAt code open_ends pc cells → PieceAt code plan sides (kernel.if_then x a b) open_ends.exits pc (pc + length cells)
    two_sides_stand h at_pc =
        let jump = known (line (Brfu h.end) (behind last h.first)) in
        let tail = h.first ++ (jump ∷ h.second) in
        let m = length-map h.test known in
        let o = h.other_is in
        let e = h.end_is in
        let n : h.end ≡ pc + length cells = omega (arith, ap length h.is, length-append (map known h.test) (known (line (Brff R0 h.other) last) ∷ tail), length-append h.first (jump ∷ h.second)) in
        let at_test = test_stands open_ends pc h.other h.test last tail (subst (CellsAt code open_ends pc) h.is at_pc) in
        let at_jump = cells_back code open_ends h.first (jump ∷ h.second) (pc + length h.test + 1) at_test.1 in
        let at_second = subst (λ k. CellsAt code open_ends k h.second) (sym o) at_jump.1 in
        let first = first_stands last (pc + length h.test + 1) h.first h.first_is (cells_front code open_ends h.first (jump ∷ h.second) (pc + length h.test + 1) at_test.1) in
        let second = second_stands (behind last h.first) h.other h.second h.second_is at_second in
        (pc + length h.test + 1, h.other, pc + length h.test + 1 + length h.first, 1, record { lines = h.test; place = last; stand = at_test.0; tests = h.tests; end = refl }, first, (h.end, inl at_jump.0.0, n), omega arith, subst (PiecesAt code plan sides b open_ends.exits h.other) (sym e ∙ n) second)

    branching_stands : (second : kernel.Statements) → b ≡ second → Branching second plan.vars x First Second last pc cells → CellsAt code open_ends pc cells → PieceAt code plan sides (kernel.if_then x a b) open_ends.exits pc (pc + length cells)
    branching_stands kernel.no_more is h at_pc = one_side_stands h is at_pc
    branching_stands (kernel.more s ss) is h at_pc = two_sides_stand h at_pc

  -- a `par`, by what is said of its first branch, and of the others and their starts
  module _ (slaves : ℕ) (First : Coded) (FirstAt : (pc pc' : ℕ) → Type 0) (Slaves : List ℕ → Coded) (SlavesStand : List ℕ → Type 0) (open_ends : OpenEnds) (last : Pos) (pc : ℕ) (cells : List Cell)
      (first_stands : (l : Pos) (i : ℕ) (cs : List Cell) → First l i cs → CellsAt code open_ends i cs → FirstAt i (i + length cs))
      (slaves_stand : (starts : List ℕ) (l : Pos) (i : ℕ) (cs : List Cell) → Slaves starts l i cs → CellsAt code open_ends i cs → SlavesStand starts)
    where
      several_stand : SeveralBranches plan slaves First Slaves last pc cells → CellsAt code open_ends pc cells → SeveralAt code plan slaves FirstAt SlavesStand pc (pc + length cells)
      several_stand h at_pc =
          let jump = known (line (Brfu h.end) (behind last h.first)) in
          let opening = map known (filled h.opening h.starts) in
          let closing = map known h.closing in
          let e = h.end_is in
          let f = filled_length h.opening h.starts in
          let m = length-map (filled h.opening h.starts) known in
          let c = length-map h.closing known in
          let n : h.end ≡ pc + length cells =
          omega (arith, ap length h.is, length-append opening (h.first ++ (closing ++ (jump ∷ h.others))), length-append h.first (closing ++ (jump ∷ h.others)), length-append closing (jump ∷ h.others), e, f, m, c) in
          let all = subst (CellsAt code open_ends pc) h.is at_pc in
          let from_first = subst (λ k. CellsAt code open_ends (pc + k) (h.first ++ (closing ++ (jump ∷ h.others)))) (m ∙ f) (cells_back code open_ends opening (h.first ++ (closing ++ (jump ∷ h.others))) pc all) in
          let from_closing = cells_back code open_ends h.first (closing ++ (jump ∷ h.others)) (pc + length h.opening) from_first in
          let from_jump = subst (λ k. CellsAt code open_ends (pc + length h.opening + length h.first + k) (jump ∷ h.others)) c (cells_back code open_ends closing (jump ∷ h.others) (pc + length h.opening + length h.first) from_closing) in
          record {
            starts = h.starts;
            first = pc + length h.opening;
            done = pc + length h.opening + length h.first;
            closed = pc + length h.opening + length h.first + length h.closing;
            jumps = 1;
            few = h.few;
            opens = record {
              lines = h.opening;
              place = last;
              as_many = h.as_many;
              stand = lines_stand code open_ends (filled h.opening h.starts) pc (cells_front code open_ends opening (h.first ++ (closing ++ (jump ∷ h.others))) pc all);
              opens = h.opens;
              end = refl;
            };
            first_at = first_stands last (pc + length h.opening) h.first h.first_is (cells_front code open_ends h.first (closing ++ (jump ∷ h.others)) (pc + length h.opening) from_first);
            closes = record {
              lines = h.closing;
              place = behind last h.first;
              stand = lines_stand code open_ends h.closing (pc + length h.opening + length h.first) (cells_front code open_ends closing (jump ∷ h.others) (pc + length h.opening + length h.first) from_closing);
              closes = h.closes;
              end = refl;
            };
            past = (h.end, inl from_jump.0.0, n);
            at_most_one = omega arith;
            slaves_at = slaves_stand h.starts (behind last h.first) (pc + length h.opening + length h.first + length h.closing + 1) h.others h.others_are from_jump.1;
          }

  -- behind the last code of a select nothing stands
  nothing_behind : (sides : Sides) (d : kernel.Default) (cs : kernel.Cases) (starts : List ℕ) (last : Pos) (pc : ℕ) (cells : List Cell) → is_last cs d ≡ true → InsideEmits plan sides d cs starts last pc cells → cells ≡ []
  nothing_behind sides kernel.no_default kernel.no_case starts last pc cells e h = h.1
  nothing_behind sides (kernel.default ss) kernel.no_case starts last pc cells e h = absurd (false≢true e)
  nothing_behind sides d (kernel.more_cases c cs) starts last pc cells e h = absurd (false≢true e)

  -- a case of a select, by what is said of its body
  module _ (Enters : ℕ → List Line → Type 0) (Body : Coded) (BodyAt : (pc pc' : ℕ) → Type 0) (open_ends : OpenEnds) (end : ℕ) (at_end : open_ends.select ≡ Some end)
      (body_stands : (l : Pos) (i : ℕ) (cs : List Cell) → Body l i cs → CellsAt code open_ends i cs → BodyAt i (i + length cs))
    where
      -- at most one jump leads from behind it to the select's end
      jumps_past : (ends_select : Bool) (p : Pos) (done : ℕ) → CellsAt code open_ends done (jump_unless ends_select p) → (ends_select ≡ true → done ≡ end) → (n : ℕ) × Jumps code n done end × (n ≤ 1)
      jumps_past true p done h last_one = (0, last_one refl, omega arith)
      jumps_past false p done h last_one = (1, (h.0.0, inl h.0.2, some_same h.0.0 end (sym h.0.1 ∙ at_end)), omega arith)
        where
          some_same : (a b : ℕ) → Some a ≡ Some b → a ≡ b
          some_same a b e = cc

      case_stands : (ends_select : Bool) (last : Pos) (pc : ℕ) (cells : List Cell) → (ends_select ≡ true → pc + length cells ≡ end) → CaseCode Enters Body ends_select last pc cells → CellsAt code open_ends pc cells → CaseFrom code plan Enters BodyAt pc end
      case_stands ends_select last pc cells last_one h at_pc =
          let jump = jump_unless ends_select (behind (last_or last h.entry) h.body) in
          let m = length-map h.entry known in
          let all = subst (CellsAt code open_ends pc) h.is at_pc in
          let from_body = subst (λ k. CellsAt code open_ends (pc + k) (h.body ++ jump)) m (cells_back code open_ends (map known h.entry) (h.body ++ jump) pc all) in
          let from_jump = cells_back code open_ends h.body jump (pc + length h.entry) from_body in
          let size : length cells ≡ length h.entry + (length h.body + length (jump_unless ends_select (behind (last_or last h.entry) h.body))) = omega (arith, ap length h.is, length-append (map known h.entry) (h.body ++ jump), length-append h.body jump, m) in
          let past = jumps_past ends_select (behind (last_or last h.entry) h.body) (pc + length h.entry + length h.body) from_jump
          (λ e. omega (arith, size, last_one e, ap (λ b. length (jump_unless b (behind (last_or last h.entry) h.body))) e)) in
          record {
            entered = pc + length h.entry;
            done = pc + length h.entry + length h.body;
            jumps = past.0;
            enters = record { lines = h.entry; stand = lines_stand code open_ends h.entry pc (cells_front code open_ends (map known h.entry) (h.body ++ jump) pc all); so = h.enters; end = refl };
            body = body_stands (last_or last h.entry) (pc + length h.entry) h.body h.body_is (cells_front code open_ends h.body jump (pc + length h.entry) from_body);
            past = past.1;
            at_most_one = past.2;
          }

  -- a select, by what is said of its cases and default, and of where they start
  module _ (ends : List ℕ) (cases : kernel.Cases) (d : kernel.Default) (pos : Pos) (Cases : List ℕ → Coded) (CasesStand : List ℕ → (end : ℕ) → Type 0) (open_ends : OpenEnds) (last : Pos) (pc : ℕ) (cells : List Cell)
      (inside_stands : (starts : List ℕ) (l : Pos) (i : ℕ) (cs : List Cell) (end : ℕ) → i + length cs ≡ end → Cases starts l i cs → CellsAt code (with_end open_ends SelectEnd end) i cs → CasesStand starts end)
    where
      select_stands : SelectCode plan ends cases d pos Cases last pc cells → CellsAt code open_ends pc cells → SelectAt code plan ends cases (is_default d) pos CasesStand pc (pc + length cells)
      select_stands h at_pc =
          let g = h.inside_is in
          let starts = h.starts ++ default_targets (is_default d) h.default_start in
          let opening = map known (filled h.opening starts) in
          let end = pc + length h.opening + length g.inside in
          let m : length (map known (filled h.opening (h.starts ++ default_targets (is_default d) h.default_start))) ≡ length h.opening = length-map (filled h.opening starts) known ∙ filled_length h.opening starts in
          let k : length h.inside ≡ length g.inside = ap length g.is ∙ length-map g.inside (closed SelectEnd (pc + length h.opening + length g.inside)) in
          let n : pc + length h.opening + length g.inside ≡ pc + length cells = omega (arith, ap length h.is, length-append opening h.inside, m, k) in
          let all = subst (CellsAt code open_ends pc) h.is at_pc in
          let behind_opening = subst (λ j. CellsAt code open_ends (pc + j) h.inside) m (cells_back code open_ends opening h.inside pc all) in
          let at_inside = cells_closed code open_ends SelectEnd (pc + length h.opening + length g.inside) g.inside (pc + length h.opening) (subst (CellsAt code open_ends (pc + length h.opening)) g.is behind_opening) in
          record {
            lines = h.opening;
            targets = h.starts;
            default_target = h.default_start;
            as_many = h.as_many;
            stand = lines_stand code open_ends (filled h.opening starts) pc (cells_front code open_ends opening h.inside pc all);
            opens = h.opens;
            cases_at = subst (CasesStand starts) n (inside_stands starts (last_or last h.opening) (pc + length h.opening) g.inside end refl g.inside_is at_inside);
          }

  -- a branch's cells, around which no end is open
  branch_alone : (sides : Sides) (ss : kernel.Statements) (open_ends : OpenEnds) (last : Pos) (pc : ℕ) (cells : List Cell) → AreInside [] ss → AllEmit plan sides ss last pc cells → CellsAt code open_ends pc cells → CellsAt code none_open pc cells
  branch_alone sides ss open_ends last pc cells inside h at_pc =
      cells_alone code open_ends (pc + length cells + 1) pc cells (all_good plan sides ss [] [] last (pc + length cells + 1) pc cells (λ n k. k) inside h (omega arith)) at_pc

  -- a transfer, which has no code where there is no end
  by_end_stands : (P : (end : ℕ) → ℕ → List Line → Type 0) (end : Option ℕ) (open_ends : OpenEnds) (last : Pos) (pc : ℕ) (cells : List Cell) → ByEnd P end last pc cells → CellsAt code open_ends pc cells → ByEndAt code plan P end pc (pc + length cells)
  by_end_stands P None open_ends last pc cells h at_pc = let none : length cells ≡ 0 = ap length h in omega arith
  by_end_stands P (Some end) open_ends last pc cells h at_pc = piece_stands (P end) last open_ends pc cells h at_pc

  output_stands : (sides : Sides) (o : kernel.Output) (open_ends : OpenEnds) (last : Pos) (pc : ℕ) (cells : List Cell) (resource : KRes) → OutputEmits plan sides o resource last pc cells → CellsAt code open_ends pc cells → OutputAt code plan sides o resource pc (pc + length cells)
  output_stands sides o open_ends last pc cells (Port p) h at_pc = piece_stands _ last open_ends pc cells h at_pc
  output_stands sides o open_ends last pc cells (Timer t) h at_pc = absurd h
  output_stands sides o open_ends last pc cells (Chan c) h at_pc = by_end_stands _ (end_at plan.channels sides c) open_ends last pc cells h at_pc

  input_stands : (sides : Sides) (i : kernel.Input) (open_ends : OpenEnds) (last : Pos) (pc : ℕ) (cells : List Cell) (resource : KRes) → InputEmits plan sides i resource last pc cells → CellsAt code open_ends pc cells → InputAt code plan sides i resource pc (pc + length cells)
  input_stands sides i open_ends last pc cells (Port p) h at_pc = piece_stands _ last open_ends pc cells h at_pc
  input_stands sides i open_ends last pc cells (Timer t) h at_pc = piece_stands _ last open_ends pc cells h at_pc
  input_stands sides i open_ends last pc cells (Chan c) h at_pc = by_end_stands _ (end_at plan.channels sides c) open_ends last pc cells h at_pc

  mutual
    statement_stands : (sides : Sides) (s : kernel.Statement) (around : List ℕ) (open_ends : OpenEnds) (last : Pos) (pc : ℕ) (cells : List Cell) → IsInside around s → Emits plan sides s last pc cells → CellsAt code open_ends pc cells → PieceAt code plan sides s open_ends.exits pc (pc + length cells)
    statement_stands sides (kernel.set_zero v) around open_ends last pc cells inside h at_pc = piece_stands _ last open_ends pc cells h at_pc
    statement_stands sides (kernel.set place x) around open_ends last pc cells inside h at_pc = piece_stands _ last open_ends pc cells h at_pc
    statement_stands sides (kernel.output o) around open_ends last pc cells inside h at_pc = output_stands sides o open_ends last pc cells o.resource h at_pc
    statement_stands sides (kernel.input i) around open_ends last pc cells inside h at_pc = input_stands sides i open_ends last pc cells i.resource h at_pc
    statement_stands sides (kernel.if_then x a b) around open_ends last pc cells inside h at_pc =
        branching_stands sides x a b (AllEmit plan sides a) (AllEmit plan sides b) open_ends last pc cells (λ l i cs k n. statements_stand sides a around open_ends l i cs inside.0 k n) (λ l i cs k n. statements_stand sides b around open_ends l i cs inside.1 k n) b refl h at_pc
    statement_stands sides (kernel.loop x a b) around open_ends last pc cells inside h at_pc =
        let back = known (line (Brbu pc) (behind (behind last h.body) h.next)) in
        let tail = h.body ++ (h.next ++ back ∷ []) in
        let m = length-map h.test known in
        let e = h.end_is in
        let n : h.end ≡ pc + length cells = omega (arith, ap length h.is, length-append (map known h.test) (known (line (Brff R0 h.end) last) ∷ tail), length-append h.body (h.next ++ back ∷ []), length-append h.next (back ∷ [])) in
        let at_test = test_stands open_ends pc h.end h.test last tail (subst (CellsAt code open_ends pc) h.is at_pc) in
        let p = pc + length h.test + 1 in
        let at_next = cells_back code open_ends h.body (h.next ++ back ∷ []) (pc + length h.test + 1) at_test.1 in
        let at_back = cells_back code open_ends h.next (back ∷ []) (pc + length h.test + 1 + length h.body) at_next in
        let body = statements_stand sides a around open_ends last (pc + length h.test + 1) h.body inside.0 h.body_is (cells_front code open_ends h.body (h.next ++ back ∷ []) (pc + length h.test + 1) at_test.1) in
        let next = statements_stand sides b around open_ends (behind last h.body) (pc + length h.test + 1 + length h.body) h.next inside.1 h.next_is (cells_front code open_ends h.next (back ∷ []) (pc + length h.test + 1 + length h.body) at_next) in
        (pc + length h.test + 1, pc + length h.test + 1 + length h.body, pc + length h.test + 1 + length h.body + length h.next, record { lines = h.test; place = last; stand = subst (λ k. StandAt code pc (h.test ++ line (Brff R0 k) last ∷ [])) n at_test.0; tests = h.tests; end = refl }, body, next, (pc, inr at_back.0.0, refl))
    statement_stands sides (kernel.block n a) around open_ends last pc cells inside h at_pc =
        let end = pc + length h.inside in
        let same : pc + length h.inside ≡ pc + length cells = ap (λ k. pc + k) (sym (ap length h.is ∙ length-map h.inside (closed (BlockEnd n) (pc + length h.inside)))) in
        let at_inside = cells_closed code open_ends (BlockEnd n) (pc + length h.inside) h.inside pc (subst (CellsAt code open_ends pc) h.is at_pc) in
        subst (PieceAt code plan sides (kernel.block n a) open_ends.exits pc) same
        (statements_stand sides a (n ∷ around) (with_end open_ends (BlockEnd n) (pc + length h.inside)) last pc h.inside inside h.inside_is at_inside)
    statement_stands sides (kernel.exit n) around open_ends last pc cells inside h at_pc =
        let here = subst (CellsAt code open_ends pc) h at_pc in
        (here.0.0, here.0.1, here.0.2, ap (λ k. pc + k) (ap length h))
    statement_stands sides (kernel.select cs d pos) around open_ends last pc cells inside h at_pc =
        select_stands (case_ends plan.channels sides cs) cs d pos (InsideEmits plan sides d cs) (CasesAt code plan sides open_ends.exits (DefaultFrom code plan sides open_ends.exits d) cs) open_ends last pc cells
        (λ starts l i inner end past k n. cases_stand sides d cs around (with_end open_ends SelectEnd end) end (λ later p j others over m o. default_stands sides d around (with_end open_ends SelectEnd end) later p j end others over inside.1 m o) starts l i inner refl past inside.0 k n) h at_pc
    statement_stands sides (kernel.par bs) around open_ends last pc cells inside h at_pc = par_stands sides bs open_ends last pc cells inside h at_pc
    statement_stands sides (kernel.transaction c is_master a start close) around open_ends last pc cells inside h at_pc = absurd h

    statements_stand : (sides : Sides) (ss : kernel.Statements) (around : List ℕ) (open_ends : OpenEnds) (last : Pos) (pc : ℕ) (cells : List Cell) → AreInside around ss → AllEmit plan sides ss last pc cells → CellsAt code open_ends pc cells → PiecesAt code plan sides ss open_ends.exits pc (pc + length cells)
    statements_stand sides kernel.no_more around open_ends last pc cells inside h at_pc =
        let none : length cells ≡ 0 = ap length h in
        omega arith
    statements_stand sides (kernel.more s ss) around open_ends last pc cells inside h at_pc =
        let all = subst (CellsAt code open_ends pc) h.is at_pc in
        let end : pc + length h.first + length h.rest ≡ pc + length cells = omega (arith, ap length h.is, length-append h.first h.rest) in
        (pc + length h.first, statement_stands sides s around open_ends last pc h.first inside.0 h.first_is (cells_front code open_ends h.first h.rest pc all), subst (PiecesAt code plan sides ss open_ends.exits (pc + length h.first)) end (statements_stand sides ss around open_ends (behind last h.first) (pc + length h.first) h.rest inside.1 h.rest_is (cells_back code open_ends h.first h.rest pc all)))

    -- by what is said of the default
    cases_stand : (sides : Sides) (d : kernel.Default) (cs : kernel.Cases) (around : List ℕ) (open_ends : OpenEnds) (end : ℕ) →
        ((starts : List ℕ) (l : Pos) (i : ℕ) (cells : List Cell) → i + length cells ≡ end → DefaultEmits plan sides d starts l i cells → CellsAt code open_ends i cells → DefaultFrom code plan sides open_ends.exits d starts end) →
        (starts : List ℕ) (last : Pos) (pc : ℕ) (cells : List Cell) → open_ends.select ≡ Some end → pc + length cells ≡ end → CasesAreInside around cs →
        InsideEmits plan sides d cs starts last pc cells → CellsAt code open_ends pc cells → CasesAt code plan sides open_ends.exits (DefaultFrom code plan sides open_ends.exits d) cs starts end
    cases_stand sides d kernel.no_case around open_ends end default_is starts last pc cells at_end past inside h at_pc = default_is starts last pc cells past h at_pc
    cases_stand sides d (kernel.more_cases (kernel.case guard i ss) cs) around open_ends end default_is starts last pc cells at_end past inside h at_pc =
        let all = subst (CellsAt code open_ends pc) h.is at_pc in
        let n : length cells ≡ length h.first + length h.others = ap length h.is ∙ length-append h.first h.others in
        let last_one : is_last cs d ≡ true → pc + length h.first ≡ end = λ e. omega (arith, n, past, ap length (nothing_behind sides d cs h.later (behind last h.first) (pc + length h.first) h.others e h.others_are)) in (
          pc,
          h.later,
          h.starts_are,
          case_stands (EntersCase plan i (case_end plan.channels sides i.resource) true) (AllEmit plan sides ss) (PiecesAt code plan sides ss open_ends.exits) open_ends end at_end
              (λ l j body k m. statements_stand sides ss around open_ends l j body inside.0 k m) (is_last cs d) last pc h.first last_one h.first_is (cells_front code open_ends h.first h.others pc all),
          cases_stand sides d cs around open_ends end default_is h.later (behind last h.first) (pc + length h.first) h.others at_end (omega (arith, n, past)) inside.1 h.others_are (cells_back code open_ends h.first h.others pc all),
        )

    default_stands : (sides : Sides) (d : kernel.Default) (around : List ℕ) (open_ends : OpenEnds) (starts : List ℕ) (last : Pos) (pc end : ℕ) (cells : List Cell) →
        pc + length cells ≡ end → DefaultIsInside around d → DefaultEmits plan sides d starts last pc cells → CellsAt code open_ends pc cells → DefaultFrom code plan sides open_ends.exits d starts end
    default_stands sides kernel.no_default around open_ends starts last pc end cells past inside h at_pc = h.0
    default_stands sides (kernel.default ss) around open_ends starts last pc end cells past inside h at_pc =
        (pc, h.0, subst (PiecesAt code plan sides ss open_ends.exits pc) past (statements_stand sides ss around open_ends last pc cells inside h.1 at_pc))

    par_stands : (sides : Sides) (bs : kernel.Branches) (open_ends : OpenEnds) (last : Pos) (pc : ℕ) (cells : List Cell) → BranchesAreInside bs → ParEmits plan sides bs last pc cells → CellsAt code open_ends pc cells → ParAt code plan sides bs pc (pc + length cells)
    par_stands sides kernel.no_branch open_ends last pc cells inside h at_pc =
        let none : length cells ≡ 0 = ap length h in
        omega arith
    par_stands sides (kernel.more_branches (kernel.branch ss pos) kernel.no_branch) open_ends last pc cells inside h at_pc =
        statements_stand (sides_in 0 [] ss [] sides) ss [] none_open last pc cells inside.0 h (branch_alone (sides_in 0 [] ss [] sides) ss open_ends last pc cells inside.0 h at_pc)
    par_stands sides (kernel.more_branches (kernel.branch ss pos) (kernel.more_branches b bs)) open_ends last pc cells inside h at_pc =
        let own = sides_in 0 [] ss (codes_in (kernel.more_branches b bs)) sides in
        several_stand (branch_count (kernel.more_branches b bs)) (AllEmit plan own ss) (PiecesAt code plan own ss []) (SlavesEmit plan sides (ss ∷ []) (kernel.more_branches b bs)) (SlavesAt code plan sides (ss ∷ []) (kernel.more_branches b bs)) open_ends last pc cells (λ l i cs k n. statements_stand own ss [] none_open l i cs inside.0 k (branch_alone own ss open_ends l i cs inside.0 k n)) (λ ns l i cs k n. slaves_stand sides (ss ∷ []) (kernel.more_branches b bs) open_ends ns l i cs inside.1 k n) h at_pc

    slaves_stand : (sides : Sides) (before : List kernel.Statements) (bs : kernel.Branches) (open_ends : OpenEnds) (starts : List ℕ) (last : Pos) (pc : ℕ) (cells : List Cell) → BranchesAreInside bs → SlavesEmit plan sides before bs starts last pc cells → CellsAt code open_ends pc cells → SlavesAt code plan sides before bs starts
    slaves_stand sides before kernel.no_branch open_ends starts last pc cells inside h at_pc = h.0
    slaves_stand sides before (kernel.more_branches (kernel.branch ss pos) bs) open_ends starts last pc cells inside h at_pc =
        let g = h.first_is in
        let own = sides_in 0 before ss (codes_in bs) sides in
        let end = known (line Ssync (behind last g.body)) in
        let all = subst (CellsAt code open_ends pc) h.is at_pc in
        let slave = subst (CellsAt code open_ends pc) g.is (cells_front code open_ends h.first h.others pc all) in
        let at_end = cells_back code open_ends g.body (end ∷ []) pc slave in (
          pc,
          h.later,
          pc + length g.body,
          h.starts_are,
          statements_stand own ss [] none_open last pc g.body inside.0 g.body_is (branch_alone own ss open_ends last pc g.body inside.0 g.body_is (cells_front code open_ends g.body (end ∷ []) pc slave)),
          record { lines = line Ssync (behind last g.body) ∷ []; stand = (at_end.0.0, at_end.0.1, tt); ends = g.ends; instr = at_end.0.0 },
          slaves_stand sides (ss ∷ before) bs open_ends h.later (behind last h.first) (pc + length h.first) h.others inside.1 h.others_are (cells_back code open_ends h.first h.others pc all),
        )

  line_front : (a b : List Line) (pc : ℕ) → StandAt code pc (a ++ b) → StandAt code pc a
  line_front [] b pc h = tt
  line_front (l ∷ a) b pc h = (h.0, h.1, line_front a b (pc + 1) h.2)

  line_back : (a b : List Line) (pc : ℕ) → StandAt code pc (a ++ b) → StandAt code (pc + length a) b
  line_back [] b pc h = let e : pc ≡ pc + 0 = omega arith in subst (λ n. StandAt code n b) e h
  line_back (l ∷ a) b pc h =
      let e : pc + 1 + length a ≡ pc + length (l ∷ a) = omega arith in
      subst (λ n. StandAt code n b) e (line_back a b (pc + 1) h.2)

pub roots_stand : RootsStand
roots_stand code plan sides body pos last pc lines h at_pc =
    let all = subst (StandAt code pc) h.is at_pc in
    let stand = cells_stand code none_open h.front pc (line_front code plan h.front (line Freet pos ∷ []) pc all) in
    let same : pc + length (map known h.front) ≡ pc + length h.front = ap (λ k. pc + k) (length-map h.front known) in
    record {
      done = pc + length h.front;
      pieces = subst (PiecesAt code plan sides body [] pc) same (statements_stand code plan sides body [] none_open last pc (map known h.front) h.inside h.body_is stand);
      ends_here = line_back code plan h.front (line Freet pos ∷ []) pc all;
      ends = h.ends;
    }
