-- The branches of a `par` behind the first, one after the other.
use Rattle.std.proofs.Common.{◌≡◌, ℕ, zero, suc, ◌+◌, ◌-◌, ◌*◌, ◌<◌, ◌≤◌, add-one, drop, drop-cons, get_or, take, List, [], ◌∷◌, ◌++◌, length, map, refl, sym, ap, ◌∙◌, subst, arith, append_assoc, append-nil}
use Rattle.std.proofs.lemmas.List.{append_cancel_left}
use Rattle.xw_words.specs.declared.pos.Pos.{Pos}
use Rattle.xc_kernel.specs.Plain as kernel
use Rattle.xc_kernel.specs.declared.statement.KBranch.{KBranch}
use Rattle.xc_kernel.specs.Kernels.{branch_of}
use Rattle.xc_kernel.proofs.Forms.{branch-KBranch}
use Rattle.xc_meaning.specs.Counts.KernelCounts.{branch_count}
use Rattle.xs_instr.specs.declared.emitter.Hole.{Hole}
use Rattle.xs_instr.specs.declared.instr.Instr.TheVariants.{Ssync}
use Rattle.xs_instr.specs.Adds.{Adds}
use Rattle.xs_instr.specs.Extends.{Extends}
use Rattle.xs_instr.specs.Lines.{Line, IsOpen, landed, last_pos, line}
use Rattle.xl_expr.specs.declared.plan.Plan.{Plan}
use Rattle.xl_par.specs.Closing.{EndsSlave}
use Rattle.xl_par.specs.Opening.{indices_of}
use Rattle.xl_statements.specs.declared.leaving.Leaving.{Leaving}
use Rattle.xl_ends.specs.Ends.{Sides}
use Rattle.xl_statements.specs.Branches.{SlavesEmitIn}
use Rattle.xl_statements.specs.Built.{BranchesAreBuilt, BranchesAreNarrow, BranchesAreShallow, branches_of, most_of_all, most_of_branches, statements_of}
use Rattle.xl_statements.specs.Cells.{Cell, known, behind, leaves, line_of}
use Rattle.xl_statements.specs.Emits.{AllEmit, Coded, Emitted, OneOrSeveral, SeveralBranches, Slave, StartsEmitted}
use Rattle.xl_statements.specs.Landing.{AreLandable, Lands}
use Rattle.xl_statements.proofs.FromStarts.{StartsWalked, none_left, start_open, start_refused, starts_begin, starts_end, starts_go_on}
use Rattle.xl_statements.proofs.Parts.{emitted_last, emitted_length, leaves_append, lines_append}
use Rattle.xl_statements.proofs.Walks.{branch_weights, weights}

-- The branches of a list.

pub branches_count : (bs : List KBranch) → branch_count (branches_of bs) ≡ length bs
branches_count [] = refl
branches_count (b ∷ bs) = ap suc (branches_count bs)

-- each is counted
pub branches_room : (bs : kernel.Branches) (plan : Plan) → branch_count bs ≤ most_of_branches plan.vars bs
branches_room kernel.no_branch plan = omega arith
branches_room (kernel.more_branches (kernel.branch ss pos) bs) plan = let h = branches_room bs plan in omega (arith, h)

branch_first : (b x : KBranch) (others : kernel.Branches) → x ≡ b → kernel.more_branches (branch_of b) others ≡ kernel.more_branches (kernel.branch (statements_of x.body) x.pos) others
branch_first b x others e = ap (λ y. kernel.more_branches (branch_of y) others) (sym e) ∙ ap (λ y. kernel.more_branches y others) (branch-KBranch x)

-- those from one on
pub branches_at : (bs : List KBranch) (i : ℕ) (x : KBranch) → x ≡ get_or bs i x → i < length bs → branches_of (drop i bs) ≡ kernel.more_branches (kernel.branch (statements_of x.body) x.pos) (branches_of (drop (i + 1) bs))
branches_at bs i x is lt =
    let cut : drop i bs ≡ get_or bs i x ∷ drop (i + 1) bs = rw add-one (drop-cons bs i x lt) in
    ap branches_of cut ∙ branch_first (get_or bs i x) x (branches_of (drop (i + 1) bs)) is

pub indices_length : (hs : List Hole) → length (indices_of hs) ≡ length hs
indices_length [] = refl
indices_length (h ∷ hs) = ap suc (indices_length hs)

pub take_all : {A : Type 0} (xs : List A) → take (length xs) xs ≡ xs
take_all [] = refl
take_all (x ∷ xs) = ap (λ ys. x ∷ ys) (take_all xs)

-- one, or the first and the others
pub one_branch : (bs : List KBranch) (x : KBranch) → x ≡ get_or bs 0 x → 1 ≤ length bs → length bs < 2 → branches_of bs ≡ kernel.more_branches (kernel.branch (statements_of x.body) x.pos) kernel.no_branch
one_branch [] x is some few = absurd (let z : ⊥ = omega (arith, some) in z)
one_branch (b ∷ []) x is some few = branch_first b x kernel.no_branch is
one_branch (b ∷ c ∷ bs) x is some few = absurd (let z : ⊥ = omega (arith, few) in z)

pub first_branch : (bs : List KBranch) (x : KBranch) → x ≡ get_or bs 0 x → 2 ≤ length bs → branches_of bs ≡ kernel.more_branches (kernel.branch (statements_of x.body) x.pos) (branches_of (take (length bs - 1) (drop 1 bs)))
first_branch [] x is some = absurd (let z : ⊥ = omega (arith, some) in z)
first_branch (b ∷ bs) x is some =
    let n : length bs ≡ length (b ∷ bs) - 1 = omega arith in
    branch_first b x (branches_of bs) is ∙ ap (λ l. kernel.more_branches (kernel.branch (statements_of x.body) x.pos) (branches_of l)) (sym (take_all bs) ∙ ap (λ k. take k bs) n)

pub several_of : (bs : List KBranch) (plan : Plan) (First : Coded) (Slaves : List ℕ → Coded) (last : Pos) (pc : ℕ) (cells : List Cell) → 1 ≤ length bs → SeveralBranches plan (branch_count (branches_of bs)) First Slaves last pc cells → OneOrSeveral plan (branches_of bs) First Slaves last pc cells
several_of [] plan First Slaves last pc cells some h = absurd (let z : ⊥ = omega (arith, some) in z)
several_of (b ∷ bs) plan First Slaves last pc cells some h = h

some_branch_weight : (bs : kernel.Branches) → 1 ≤ branch_weights bs
some_branch_weight kernel.no_branch = omega arith
some_branch_weight (kernel.more_branches (kernel.branch ss pos) bs) = omega arith

branch_weight : (bs : List KBranch) (i : ℕ) (x d : KBranch) → get_or bs i d ≡ x → i < length bs → weights (statements_of x.body) + 2 ≤ branch_weights (branches_of bs)
branch_weight [] i x d is lt = absurd (let z : ⊥ = omega (arith, lt) in z)
branch_weight (b ∷ bs) zero x d is lt =
    let e = ap branch_weights (branch_first b x (branches_of bs) (sym is)) in
    let l = some_branch_weight (branches_of bs) in
    omega (arith, e, l)
branch_weight (b ∷ bs) (suc i) x d is lt =
    let e = ap branch_weights (branch_first b b (branches_of bs) refl) in
    let l = branch_weight bs i x d is (omega (arith, lt)) in
    omega (arith, e, l)

pub branch_lighter : (bs : List KBranch) (i : ℕ) (x : KBranch) → x ≡ get_or bs i x → i < length bs → 2 * weights (statements_of x.body) + 1 < 2 * branch_weights (branches_of bs)
branch_lighter bs i x is lt = let l = branch_weight bs i x x (sym is) lt in omega (arith, l)

-- One branch, from its statements to its end.

module _
    (Body : Coded) (e1 e2 e3 : List Line) (left0 left1 : List Leaving)
    (at_1 : Emitted Body e1 e2 left0 left1)
    (at_2 : e3 ≡ e2 ++ line Ssync (last_pos e2) ∷ [])
    (ends : Adds e2 e3 (EndsSlave (length e2)))
  where
    pub slave_emitted : Emitted (Slave Body) e1 e3 left0 left1
    slave_emitted =
        let last : last_pos e2 ≡ behind (last_pos e1) at_1.cells = emitted_last Body e1 e2 left0 left1 at_1 in
        let end = known (line Ssync (behind (last_pos e1) at_1.cells)) in
        let size = emitted_length Body e1 e2 left0 left1 at_1 in
        let own : ends.lines ≡ line Ssync (behind (last_pos e1) at_1.cells) ∷ [] =
        append_cancel_left e2 ends.lines (line Ssync (behind (last_pos e1) at_1.cells) ∷ []) (sym ends.is ∙ at_2 ∙ ap (λ p. e2 ++ line Ssync p ∷ []) last) in
        record {
          cells = at_1.cells ++ end ∷ [];
          lines =
              at_2
              ∙ ap (λ p. e2 ++ line Ssync p ∷ []) last
              ∙ ap (λ ls. ls ++ line Ssync (behind (last_pos e1) at_1.cells) ∷ []) at_1.lines
              ∙ append_assoc e1 (map line_of at_1.cells) (line Ssync (behind (last_pos e1) at_1.cells) ∷ [])
              ∙ ap (λ ls. e1 ++ ls) (sym (lines_append at_1.cells (end ∷ [])));
          leaving_ones =
              at_1.leaving_ones
              ∙ ap (λ l. left0 ++ l) (sym (leaves_append at_1.cells (end ∷ []) (length e1) ∙ append-nil (leaves at_1.cells (length e1))));
          so = record {
            body = at_1.cells;
            is = refl;
            body_is = at_1.so;
            ends = subst (EndsSlave (length e1 + length at_1.cells)) own (subst (λ k. EndsSlave k ends.lines) size ends.so);
          };
        }

-- What the loop over them keeps.
pub record SlavesWalked
    (plan : Plan) (each others : List Sides) (all rest : kernel.Branches) (holes open_ones : List ℕ)
    (e0 e : List Line) (before left : List Leaving) : Type 0 where
  pub built : BranchesAreBuilt rest
  pub shallow : BranchesAreShallow rest
  pub narrow : BranchesAreNarrow rest
  pub room : length e + most_of_branches plan.vars rest ≤ length e0 + most_of_branches plan.vars all
  pub walked : StartsWalked (SlavesEmitIn plan each all) (SlavesEmitIn plan others rest) holes open_ones e0 e before left

pub slaves_begin : (plan : Plan) (each : List Sides) (all : kernel.Branches) (holes : List ℕ) (e0 : List Line) (before : List Leaving) →
    BranchesAreBuilt all → BranchesAreShallow all → BranchesAreNarrow all → AreLandable e0 holes →
    SlavesWalked plan each each all all holes holes e0 e0 before before
slaves_begin plan each all holes e0 before built shallow narrow landable = record {
  built = built;
  shallow = shallow;
  narrow = narrow;
  room = omega arith;
  walked = starts_begin (SlavesEmitIn plan each all) holes e0 before landable;
}

module _
    (plan : Plan) (each others : List Sides) (own : Sides) (all rest : kernel.Branches) (ss : kernel.Statements) (pos : Pos) (holes open_ones : List ℕ) (hole : ℕ)
    (e0 e1 : List Line) (before left1 : List Leaving)
    (h : SlavesWalked plan each (own ∷ others) all (kernel.more_branches (kernel.branch ss pos) rest) holes (hole ∷ open_ones) e0 e1 before left1)
  where
    pub slave_open : IsOpen e1 hole
    slave_open = start_open (SlavesEmitIn plan each all) (Slave (AllEmit plan own ss)) (SlavesEmitIn plan others rest) holes open_ones hole e0 e1 before left1 h.walked

    -- and what came behind where memory was wanting
    pub slave_refused : (e2 : List Line) → Extends (landed e1 hole (length e1)) e2 → Lands holes e0 e2
    slave_refused e2 more = start_refused (SlavesEmitIn plan each all) (Slave (AllEmit plan own ss)) (SlavesEmitIn plan others rest) holes open_ones hole e0 e1 before left1 h.walked e2 more

    pub slaves_go_on : (e2 : List Line) (left2 : List Leaving) → Emitted (Slave (AllEmit plan own ss)) (landed e1 hole (length e1)) e2 left1 left2 → length e2 ≤ length e1 + most_of_all plan.vars ss + 1 → SlavesWalked plan each others all rest holes open_ones e0 e2 before left2
    slaves_go_on e2 left2 g size = record {
      built = h.built.1;
      shallow = h.shallow.1;
      narrow = h.narrow.1;
      room = let r = h.room in omega (arith, r, size);
      walked = starts_go_on (SlavesEmitIn plan each all) (Slave (AllEmit plan own ss)) (SlavesEmitIn plan others rest) holes open_ones hole e0 e1 before left1 h.walked e2 left2 g;
    }

pub slaves_end : (plan : Plan) (each : List Sides) (all : kernel.Branches) (holes : List ℕ) (e0 e : List Line) (before left : List Leaving) →
    SlavesWalked plan each [] all kernel.no_branch holes [] e0 e before left → StartsEmitted (SlavesEmitIn plan each all) holes e0 e before left
slaves_end plan each all holes e0 e before left h =
    starts_end (SlavesEmitIn plan each all) (SlavesEmitIn plan [] kernel.no_branch) holes [] e0 e before left h.walked e left
    (none_left (SlavesEmitIn plan [] kernel.no_branch) e left (refl, refl))

-- there is a start for each
pub starts_count : (plan : Plan) (each : List Sides) (bs : kernel.Branches) (starts : List ℕ) (last : Pos) (pc : ℕ) (cells : List Cell) → SlavesEmitIn plan each bs starts last pc cells → length starts ≡ branch_count bs
starts_count plan each kernel.no_branch starts last pc cells h = ap length h.0
starts_count plan [] (kernel.more_branches b bs) starts last pc cells h = absurd h
starts_count plan (own ∷ each) (kernel.more_branches (kernel.branch ss pos) bs) starts last pc cells h =
    ap length h.starts_are ∙ ap suc (starts_count plan each bs h.later (behind last h.first) (pc + length h.first) h.others h.others_are)
