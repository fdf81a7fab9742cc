-- The program's steps of a `par`: its branches are made and waited for, and their maker goes on behind them.
use Rattle.std.proofs.Common.{◌≡◌, ◌≢◌, ℕ, zero, suc, ◌+◌, ◌-◌, ◌<◌, ◌≤◌, true, List, [], ◌∷◌, ◌++◌, length, Some, option_map, refl, sym, ap, ◌∙◌, subst, arith}
use Rattle.std.specs.Prelude.{slice_get, slice_set}
use Rattle.std.proofs.lemmas.List.{length-set}
use Rattle.std.proofs.lemmas.Option.{same_Some, slice_get_within}
use Rattle.xs_instr.specs.declared.image.Stim.{Stim}
use Rattle.xs_instr.specs.Machine.{and_then}
use Rattle.xc_kernel.specs.Plain as kernel
use Rattle.xc_meaning.specs.Counts.KernelCounts.{branch_count}
use Rattle.xc_meaning.specs.Runs.{acts, does_first, does_item, goes, goes_by, step_of}
use Rattle.xc_meaning.specs.Settings.Par.{all_begun, all_done, children, family_of}
use Rattle.xc_meaning.specs.Settings.Setting.{Setting}
use Rattle.xc_meaning.specs.Settings.Sides.{sides_in}
use Rattle.xc_meaning.specs.States.Branches.{Branch, runs, waits}
use Rattle.xc_meaning.specs.States.Items.{Item, does, ends, todo}
use Rattle.xc_meaning.specs.States.Worlds.{World, go, only_if}
use Rattle.xl_expr.proofs.Lists.{get_set_other, get_set_same}
use Rattle.xl_ends.specs.Ends.{Sides, codes_in}
use Rattle.xr_simulation.specs.NextStep.{Placed, Runs, placed_in}

-- A list with some more behind it, of which one item was written.

in_front : {X : Type 0} (xs ys : List X) (i : ℕ) → i < length xs → slice_get (xs ++ ys) i ≡ slice_get xs i
in_front [] ys i lt = absurd (omega arith)
in_front (x ∷ xs) ys zero lt = refl
in_front (x ∷ xs) ys (suc i) lt = in_front xs ys i (omega arith)

behind_front : {X : Type 0} (xs ys : List X) (i : ℕ) → slice_get (xs ++ ys) (length xs + i) ≡ slice_get ys i
behind_front [] ys i = let e : i ≡ 0 + i = omega arith in subst (λ k. slice_get ys k ≡ slice_get ys i) e refl
behind_front (x ∷ xs) ys i =
    let e : suc (length xs + i) ≡ suc (length xs) + i = omega arith in
    subst (λ k. slice_get ((x ∷ xs) ++ ys) k ≡ slice_get ys i) e (behind_front xs ys i)

get_new : {X : Type 0} (xs more : List X) (b i : ℕ) (y : X) → slice_get (slice_set xs b y ++ more) (length xs + i) ≡ slice_get more i
get_new xs more b i y = subst (λ n. slice_get (slice_set xs b y ++ more) (n + i) ≡ slice_get more i) (length-set xs b y) (behind_front (slice_set xs b y) more i)

get_old_same : {X : Type 0} (xs more : List X) (b : ℕ) (x y : X) → slice_get xs b ≡ Some x → slice_get (slice_set xs b y ++ more) b ≡ Some y
get_old_same xs more b x y e =
    let lt = slice_get_within xs b x e in
    let l = length-set xs b y in
    in_front (slice_set xs b y) more b (omega arith) ∙ get_set_same xs b x y e

get_old_other : {X : Type 0} (xs more : List X) (b i : ℕ) (y : X) → i ≢ b → i < length xs → slice_get (slice_set xs b y ++ more) i ≡ slice_get xs i
get_old_other xs more b i y ne lt =
    let l = length-set xs b y in
    in_front (slice_set xs b y) more i (omega arith) ∙ get_set_other xs b i y ne

-- as many as the `par` has
pub begun_length : (bs : kernel.Branches) → length (all_begun bs) ≡ branch_count bs
begun_length kernel.no_branch = refl
begun_length (kernel.more_branches (kernel.branch ss pos) bs) = ap suc (begun_length bs)

pub placed_length : (sides : Sides) (before : List kernel.Statements) (bs : kernel.Branches) → length (placed_in sides before bs) ≡ branch_count bs
placed_length sides before kernel.no_branch = refl
placed_length sides before (kernel.more_branches (kernel.branch ss pos) bs) = ap suc (placed_length sides (ss ∷ before) bs)

-- each has its code
pub placed_code : (sides : Sides) (before : List kernel.Statements) (bs : kernel.Branches) (i : ℕ) (placed : Placed) → slice_get (placed_in sides before bs) i ≡ Some placed → slice_get (codes_in bs) i ≡ Some placed.code
placed_code sides before kernel.no_branch i placed e = absurd (let z : ⊥ = cc in z)
placed_code sides before (kernel.more_branches (kernel.branch ss pos) bs) zero placed e = ap (option_map (λ (k : Placed). k.code)) e
placed_code sides before (kernel.more_branches (kernel.branch ss pos) bs) (suc i) placed e = placed_code sides (ss ∷ before) bs i placed e

pub some_at : {X : Type 0} (xs : List X) (i : ℕ) → i < length xs → (x : X) × (slice_get xs i ≡ Some x)
some_at [] i lt = absurd (omega arith)
some_at (x ∷ xs) zero lt = (x, refl)
some_at (x ∷ xs) (suc i) lt = some_at xs i (omega arith)

-- a new branch, with its code and the sides in which it stands
pub record IsNew (maker : Branch) (number index among : ℕ) (placed : Placed) (b : Branch) : Type 0 where
  pub core : b.core ≡ maker.core
  pub mode : b.mode ≡ runs
  pub items : b.items ≡ todo placed.code (ends ∷ [])
  pub sides : b.sides ≡ placed.sides
  pub inside : b.inside ≡ maker.inside
  pub family : b.family ≡ family_of maker.family number index
  pub birth : b.birth ≡ Some (record { family = maker.family; index = index; among = among })

-- each is made by its index
new_at : (s : Setting) (among index : ℕ) (before : List kernel.Statements) (bs : kernel.Branches) (i : ℕ) (placed : Placed) → slice_get (placed_in s.branch.sides before bs) i ≡ Some placed →
    (b : Branch) × (slice_get (children s among index before (all_begun bs)) i ≡ Some b) × IsNew s.branch (length s.world.branches + (index + i)) (index + i) among placed b
new_at s among index before kernel.no_branch i placed e = absurd (let z : ⊥ = cc in z)
new_at s among index before (kernel.more_branches (kernel.branch ss pos) bs) zero placed e =
    let here : Placed = record { sides = sides_in 0 before ss (codes_in bs) s.branch.sides; code = ss } in
    let same : here ≡ placed = same_Some here placed e in
    let place : index ≡ index + 0 = omega arith in (
      _,
      refl,
      record {
        core = refl;
        mode = refl;
        items = ap (λ (k : Placed). todo k.code (ends ∷ [])) same;
        sides = ap (λ (k : Placed). k.sides) same;
        inside = refl;
        family = ap (λ k. family_of s.branch.family (length s.world.branches + k) k) place;
        birth = ap (λ k. Some (record { family = s.branch.family; index = k; among = among })) place;
      },
    )
new_at s among index before (kernel.more_branches (kernel.branch ss pos) bs) (suc i) placed e =
    let on = new_at s among (index + 1) (ss ∷ before) bs i placed e in
    let place : index + 1 + i ≡ index + suc i = omega arith in
    (on.0, on.1, subst (λ k. IsNew s.branch (length s.world.branches + k) k among placed on.0) place on.2)

-- and no others
new_length : (s : Setting) (among index : ℕ) (before : List kernel.Statements) (bs : kernel.Branches) → length (children s among index before (all_begun bs)) ≡ branch_count bs
new_length s among index before kernel.no_branch = refl
new_length s among index before (kernel.more_branches (kernel.branch ss pos) bs) = ap suc (new_length s among (index + 1) (ss ∷ before) bs)

module _ (K : kernel.Kernel) (s : Stim) (n : ℕ) (x : World) (branch : Branch) where
  -- a `par` makes its branches
  module _ (bs : kernel.Branches) (rest : List Item) where
    abbrev pub waiting : Branch
    waiting = record branch { mode = waits (length x.branches) (length (all_begun bs)); items = rest }

    abbrev pub new_branches : List Branch
    new_branches = children (step_of K s x n branch rest) (length (all_begun bs)) 0 [] (all_begun bs)

    abbrev pub opened : World
    opened = record x { branches = slice_set x.branches n waiting ++ new_branches }

    -- each is there, in the sides that its maker's make it
    pub made_there : (sides : Sides) → branch.sides ≡ sides → (i : ℕ) (placed : Placed) → slice_get (placed_in sides [] bs) i ≡ Some placed → (c : Branch) × (slice_get opened.branches (length x.branches + i) ≡ Some c) × IsNew branch (length x.branches + i) i (length (all_begun bs)) placed c
    made_there sides same i placed e =
        let h = new_at (step_of K s x n branch rest) (length (all_begun bs)) 0 [] bs i placed (ap (λ l. slice_get (placed_in l [] bs) i) same ∙ e) in
        let place : 0 + i ≡ i = omega arith in
        (h.0, get_new x.branches new_branches n i waiting ∙ h.1, subst (λ k. IsNew branch (length x.branches + k) k (length (all_begun bs)) placed h.0) place h.2)

    -- the maker waits
    pub maker_there : slice_get x.branches n ≡ Some branch → slice_get opened.branches n ≡ Some waiting
    maker_there known = get_old_same x.branches new_branches n branch waiting known

    -- all others are what they were
    pub others_there : (k : ℕ) → k ≢ n → k < length x.branches → slice_get opened.branches k ≡ slice_get x.branches k
    others_there k ne lt = get_old_other x.branches new_branches n k waiting ne lt

    -- there are no others
    pub none_else : (sides : Sides) → branch.sides ≡ sides → (k : ℕ) (c : Branch) → slice_get opened.branches k ≡ Some c → length x.branches ≤ k → (i : ℕ) × (placed : Placed) × (k ≡ length x.branches + i) × (i < branch_count bs) × (slice_get (placed_in sides [] bs) i ≡ Some placed) × IsNew branch k i (length (all_begun bs)) placed c
    none_else sides same_sides k c there le =
        let i = k - length x.branches in
        let at : k ≡ length x.branches + i = omega arith in
        let there' : slice_get new_branches i ≡ Some c = sym (get_new x.branches new_branches n i waiting) ∙ ap (slice_get opened.branches) (sym at) ∙ there in
        let lt = slice_get_within new_branches i c there' in
        let many = new_length (step_of K s x n branch rest) (length (all_begun bs)) 0 [] bs in
        let few : i < branch_count bs = omega arith in
        let placed_many = placed_length sides [] bs in
        let placed = some_at (placed_in sides [] bs) i (omega arith) in
        let made = made_there sides same_sides i placed.0 placed.1 in
        let same : made.0 ≡ c = same_Some made.0 c (sym made.1 ∙ ap (slice_get opened.branches) (sym at) ∙ there) in
        (i, placed.0, at, few, placed.1, subst (λ d. IsNew branch k i (length (all_begun bs)) placed.0 d) same (subst (λ m. IsNew branch m i (length (all_begun bs)) placed.0 made.0) (sym at) made.2))

  pub par_acts : (b : kernel.Branch) (bs : kernel.Branches) (rest : List Item) → Runs x n branch (does (kernel.par (kernel.more_branches b bs)) ∷ rest) → acts K s x (go n) ≡ Some (opened (kernel.more_branches b bs) rest)
  par_acts (kernel.branch ss pos) bs rest h =
      ap (λ o. and_then o (goes K s x n)) h.known
      ∙ ap (goes_by K s x n branch) h.running
      ∙ ap (does_first K s x n branch does_item) h.items_are

  -- the maker goes on
  abbrev pub joined : World
  joined = record x { branches = slice_set x.branches n (record branch { mode = runs }) }

  pub join_acts : (from count : ℕ) → slice_get x.branches n ≡ Some branch → branch.mode ≡ waits from count → all_done x from count ≡ true → acts K s x (go n) ≡ Some joined
  join_acts from count known mode done =
      ap (λ o. and_then o (goes K s x n)) known
      ∙ ap (goes_by K s x n branch) mode
      ∙ ap (λ d. only_if d joined) done
