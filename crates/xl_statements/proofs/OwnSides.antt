-- The code of a `par`'s branches, each in the sides that the `par` gives it.
use Rattle.std.proofs.Common.{◌≡◌, ℕ, suc, ◌-◌, ◌≤◌, List, [], ◌∷◌, drop, get_or, length, map, take, refl, sym, ap, ◌∙◌, subst, arith}
use Rattle.std.specs.Prelude.{Option}
use Rattle.xw_words.specs.declared.pos.Pos.{Pos}
use Rattle.xc_kernel.specs.Plain as kernel
use Rattle.xc_kernel.specs.declared.statement.KBranch.{KBranch}
use Rattle.xc_meaning.specs.Counts.KernelCounts.{branch_count}
use Rattle.xc_meaning.specs.Settings.Sides.{sides_in}
use Rattle.xl_expr.specs.declared.plan.Plan.{Plan}
use Rattle.xl_ends.specs.Branches.{sides_of_each}
use Rattle.xl_ends.specs.Ends.{Sides, codes_in}
use Rattle.xl_ends.specs.Sides.{sides_of}
use Rattle.xl_ends.specs.declared.sides.Side.{Side}
use Rattle.xl_statements.specs.Branches.{SlavesEmitIn}
use Rattle.xl_statements.specs.Built.{branches_of}
use Rattle.xl_statements.specs.Cells.{Cell}
use Rattle.xl_statements.specs.Emits.{AllEmit, Coded, FromStarts, ParEmits, SeveralBranches, Slave, SlavesEmit}
use Rattle.xl_statements.proofs.Slaves.{several_of, take_all}

-- those of the first branch, and of the others
module _ (each : List (List (Option Side))) (own : Sides) (others : List Sides) (is : map sides_of each ≡ own ∷ others) where
  pub first_sides : (first : List (Option Side)) → first ≡ get_or each 0 first → sides_of first ≡ own
  first_sides first first_is = by each first_is is
    where
      by : (each : List (List (Option Side))) → first ≡ get_or each 0 first → map sides_of each ≡ own ∷ others → sides_of first ≡ own
      by [] first_is e = cc
      by (x ∷ each) first_is e = let same = ap sides_of first_is in cc

  pub others_sides : map sides_of (take (length each - 1) (drop 1 each)) ≡ others
  others_sides = by each is
    where
      by : (each : List (List (Option Side))) → map sides_of each ≡ own ∷ others → map sides_of (take (length each - 1) (drop 1 each)) ≡ others
      by [] e = cc
      by (x ∷ each) e =
          let n : length each ≡ length (x ∷ each) - 1 = omega arith in
          let all : take (length (x ∷ each) - 1) each ≡ each = ap (λ k. take k each) (sym n) ∙ take_all each in
          let rest : map sides_of each ≡ others = cc in
          ap (map sides_of) all ∙ rest

-- each branch has its own
pub sides_count : (sides : Sides) (before : List kernel.Statements) (bs : kernel.Branches) → length (sides_of_each sides before bs) ≡ branch_count bs
sides_count sides before kernel.no_branch = refl
sides_count sides before (kernel.more_branches (kernel.branch ss pos) bs) = ap suc (sides_count sides (ss ∷ before) bs)

module _ (plan : Plan) (sides : Sides) where
  slaves_in : (before : List kernel.Statements) (bs : kernel.Branches) → SlavesEmitIn plan (sides_of_each sides before bs) bs ≡ SlavesEmit plan sides before bs
  slaves_in before kernel.no_branch = refl
  slaves_in before (kernel.more_branches (kernel.branch ss pos) bs) =
      ap (λ (Others : List ℕ → Coded). λ (starts : List ℕ) (last : Pos) (pc : ℕ) (cells : List Cell). FromStarts (Slave (AllEmit plan (sides_in 0 before ss (codes_in bs) sides) ss)) Others starts last pc cells) (slaves_in (ss ∷ before) bs)

  module _ (ss : kernel.Statements) (pos : Pos) (last : Pos) (pc : ℕ) (cells : List Cell) where
    -- the code of a `par` of one branch
    pub one_in : (own : Sides) → own ≡ sides_in 0 [] ss [] sides → AllEmit plan own ss last pc cells → ParEmits plan sides (kernel.more_branches (kernel.branch ss pos) kernel.no_branch) last pc cells
    one_in own is h = subst (λ s. AllEmit plan s ss last pc cells) is h

    -- and of several
    pub several_in : (bs : List KBranch) (own : Sides) (each : List Sides) → 1 ≤ length bs → own ≡ sides_in 0 [] ss (codes_in (branches_of bs)) sides → each ≡ sides_of_each sides (ss ∷ []) (branches_of bs) →
        SeveralBranches plan (branch_count (branches_of bs)) (AllEmit plan own ss) (SlavesEmitIn plan each (branches_of bs)) last pc cells →
        ParEmits plan sides (kernel.more_branches (kernel.branch ss pos) (branches_of bs)) last pc cells
    several_in bs own each some own_is each_is h =
        several_of bs plan (AllEmit plan (sides_in 0 [] ss (codes_in (branches_of bs)) sides) ss) (SlavesEmit plan sides (ss ∷ []) (branches_of bs)) last pc cells some
        (subst (λ (Slaves : List ℕ → Coded). SeveralBranches plan (branch_count (branches_of bs)) (AllEmit plan (sides_in 0 [] ss (codes_in (branches_of bs)) sides) ss) Slaves last pc cells)
        (ap (λ (each : List Sides). SlavesEmitIn plan each (branches_of bs)) each_is ∙ slaves_in (ss ∷ []) (branches_of bs))
        (subst (λ (s : Sides). SeveralBranches plan (branch_count (branches_of bs)) (AllEmit plan s ss) (SlavesEmitIn plan each (branches_of bs)) last pc cells) own_is h))
