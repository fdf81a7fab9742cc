-- Codes one after the other, by the channels that each uses.
use Rattle.std.proofs.Common.{◌≡◌, ℕ, ◌+◌, ◌<◌, ◌≤◌, Bool, true, false, ◌||◌, List, [], ◌∷◌, ◌++◌, length, map, take, get_or, Some, None, refl, sym, ap, ap₂, ◌∙◌, arith}
use Rattle.std.proofs.lemmas.List.{map-append, take_more}
use Rattle.std.proofs.lemmas.List.FromFn.{get_or-map-range_with_len}
use Rattle.std.proofs.lemmas.List.Folds.{list_any-append}
use Rattle.xc_kernel.specs.declared.statement.KBranch.{KBranch}
use Rattle.xc_kernel.specs.declared.kernel.Root.{Root}
use Rattle.xc_kernel.specs.Branches.{branches_of}
use Rattle.xc_kernel.specs.Kernels.{branch_of, root_of}
use Rattle.xc_kernel.specs.Plain as kernel
use Rattle.xc_kernel.specs.Things.{channel, by_statements}
use Rattle.xc_kernel.proofs.Forms.{branch-KBranch}
use Rattle.xc_meaning.specs.Settings.Sides.{one_uses, side_by, sides_in}
use Rattle.xl_ends.specs.Branches.{one_uses_at, sides_by, sides_by_each, sides_of_each, uses_at, uses_of_branch}
use Rattle.xl_ends.specs.Ends.{Sides, codes_in}
use Rattle.xl_ends.specs.Uses.{uses_among}

-- the answer for a channel
uses_here : (n c : ℕ) (ss : kernel.Statements) → c < n → uses_at c (uses_among n ss) ≡ by_statements (channel c) ss
uses_here n c ss lt = get_or-map-range_with_len (λ d. by_statements (channel d) ss) 0 n c c false lt (omega arith)

uses_in : (n c : ℕ) (codes : List kernel.Statements) → c < n → one_uses_at c (map (uses_among n) codes) ≡ one_uses c codes
uses_in n c [] lt = refl
uses_in n c (code ∷ codes) lt = ap₂ ◌||◌ (uses_here n c code lt) (uses_in n c codes lt)

or_turned : (a b : Bool) → (a || (b || false)) ≡ (b || a)
or_turned true true = refl
or_turned true false = refl
or_turned false true = refl
or_turned false false = refl

-- The lists tell of each channel below a number whether some code uses it.
record Tells (n : ℕ) (before : List (List Bool)) (code : List kernel.Statements) : Type 0 where
  by : (c : ℕ) → c < n → one_uses_at c before ≡ one_uses c code

-- the sides of one branch
sides_told : (n k : ℕ) (before behind : List (List Bool)) (here : List Bool) (code : kernel.Statements) (codes later : List kernel.Statements) (sides : Sides) → k + length sides ≤ n → Tells n before codes → ((c : ℕ) → c < n → uses_at c here ≡ by_statements (channel c) code) → Tells n behind later → sides_by k before here behind sides ≡ sides_in k codes code later sides
sides_told n k before behind here code codes later [] le b h a = refl
sides_told n k before behind here code codes later (None ∷ sides) le b h a =
    ap₂ ◌∷◌
    (ap (λ (x : Bool). side_by x (one_uses_at k before) (one_uses_at k behind)) (h k (omega arith))
    ∙ ap₂ (λ (x y : Bool). side_by (by_statements (channel k) code) x y) (b.by k (omega arith)) (a.by k (omega arith)))
    (sides_told n (k + 1) before behind here code codes later sides (omega arith) b h a)
sides_told n k before behind here code codes later (Some side ∷ sides) le b h a =
    ap (λ (s : Sides). Some side ∷ s) (sides_told n (k + 1) before behind here code codes later sides (omega arith) b h a)

-- the lists of each branch's channels, and of each root's, are those of their codes
pub used_by_branches : (n : ℕ) (bs : List KBranch) → map (λ b. uses_of_branch n (branch_of b)) bs ≡ map (uses_among n) (codes_in (kernel.branches (map branch_of bs)))
used_by_branches n [] = refl
used_by_branches n (b ∷ bs) =
    ap₂ ◌∷◌ (ap (uses_of_branch n) (branch-KBranch b)) (used_by_branches n bs)
    ∙ ap (λ (x : kernel.Branch). map (uses_among n) (codes_in (kernel.more_branches x (kernel.branches (map branch_of bs))))) (sym (branch-KBranch b))

pub used_by_roots : (n : ℕ) (rs : List Root) → map (λ r. uses_among n (root_of r).body) rs ≡ map (uses_among n) (codes_in (branches_of (map root_of rs)))
used_by_roots n [] = refl
used_by_roots n (r ∷ rs) = ap (λ us. uses_among n (root_of r).body ∷ us) (used_by_roots n rs)

-- one list more
pub next_used : {A : Type 0} (uses : A → List Bool) (xs : List A) (i : ℕ) (x : A) (us new : List (List Bool)) (own : List Bool) → x ≡ get_or xs i x → i < length xs → us ≡ map uses (take i xs) → own ≡ uses x → new ≡ us ++ own ∷ [] → new ≡ map uses (take (i + 1) xs)
next_used uses xs i x us new own is lt so_far own_is new_is =
    new_is
    ∙ ap₂ (λ (ys : List (List Bool)) (y : List Bool). ys ++ y ∷ []) so_far own_is
    ∙ sym (ap (map uses) (take_more xs i x lt ∙ ap (λ y. take i xs ++ y ∷ []) (sym is)) ∙ map-append uses (take i xs) (x ∷ []))

-- The sides of all, by the channels that each uses.
module _ (n : ℕ) (sides : Sides) (fits : length sides ≤ n) where
  tells_more : (before : List (List Bool)) (codes : List kernel.Statements) (code : kernel.Statements) → Tells n before codes → Tells n (before ++ uses_among n code ∷ []) (code ∷ codes)
  tells_more before codes code tells = record {
    by = λ c lt.
        list_any-append (uses_at c) before (uses_among n code ∷ [])
        ∙ ap₂ (λ (x y : Bool). x || (y || false)) (tells.by c lt) (uses_here n c code lt)
        ∙ or_turned (one_uses c codes) (by_statements (channel c) code);
  }

  each_told : (before : List (List Bool)) (codes : List kernel.Statements) (bs : kernel.Branches) → Tells n before codes → sides_by_each sides before (map (uses_among n) (codes_in bs)) ≡ sides_of_each sides codes bs
  each_told before codes kernel.no_branch tells = refl
  each_told before codes (kernel.more_branches (kernel.branch code pos) bs) tells =
      ap₂ ◌∷◌
      (sides_told n 0 before (map (uses_among n) (codes_in bs)) (uses_among n code) code codes (codes_in bs) sides (omega arith) tells (λ c lt. uses_here n c code lt) (record { by = λ c lt. uses_in n c (codes_in bs) lt }))
      (each_told (before ++ uses_among n code ∷ []) (code ∷ codes) bs (tells_more before codes code tells))

  pub all_told : (bs : kernel.Branches) → sides_by_each sides [] (map (uses_among n) (codes_in bs)) ≡ sides_of_each sides [] bs
  all_told bs = each_told [] [] bs (record { by = λ c lt. refl })
