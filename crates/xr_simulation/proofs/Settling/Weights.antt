-- How much a thread may do without an instruction, at most: each such step makes it less. And whether it may do one.
use Rattle.std.proofs.Common.{◌≡◌, ℕ, ◌+◌, ◌<◌, ◌⊎◌, inl, inr, List, [], ◌∷◌, refl, arith}
use Rattle.xw_words.specs.declared.pos.Pos.{Pos}
use Rattle.xc_kernel.specs.Plain as kernel
use Rattle.xc_meaning.specs.States.Items.{Item, does, says, stores, stamps, mark, awaits, transaction_end, chooses, fixed, ends, todo}
use Rattle.xr_simulation.specs.Parents.{Parent}
use Rattle.xr_simulation.specs.Settled.{IsOwn}

abbrev mutual
  -- a block weighs one more than what stands in it and its mark, and so does a `par` of one branch
  pub weight : kernel.Statement → ℕ
  weight (kernel.block n ss) = 2 + weights ss
  weight (kernel.par bs) = 2 + weights_in bs
  weight other = 1

  pub weights : kernel.Statements → ℕ
  weights kernel.no_more = 0
  weights (kernel.more s ss) = weight s + weights ss

  pub weights_in : kernel.Branches → ℕ
  weights_in kernel.no_branch = 0
  weights_in (kernel.more_branches (kernel.branch ss pos) bs) = weights ss + weights_in bs

abbrev pub item_weight : Item → ℕ
item_weight (does s) = weight s
item_weight other = 1

abbrev pub items_weight : List Item → ℕ
items_weight [] = 0
items_weight (i ∷ items) = item_weight i + items_weight items

-- what is left to those that wait
abbrev pub left_weight : List Parent → ℕ
left_weight [] = 0
left_weight (p ∷ ps) = items_weight p.items + left_weight ps

-- what is left to a thread: the items of the branch that it runs, and those of the branches that wait
abbrev pub thread_weight : List Parent → List Item → ℕ
thread_weight ps items = items_weight items + left_weight ps

-- statements before items
pub todo_weight : (ss : kernel.Statements) (rest : List Item) → items_weight (todo ss rest) ≡ weights ss + items_weight rest
todo_weight kernel.no_more rest = omega arith
todo_weight (kernel.more s ss) rest = omega (arith, todo_weight ss rest)

module _ (ps : List Parent) where
  -- the beginning of a block makes it less
  pub block_lighter : (n : ℕ) (ss : kernel.Statements) (rest : List Item) → thread_weight ps (todo ss (mark n ∷ rest)) < thread_weight ps (does (kernel.block n ss) ∷ rest)
  block_lighter n ss rest = omega (arith, todo_weight ss (mark n ∷ rest))

  -- so does its end
  pub mark_lighter : (n : ℕ) (rest : List Item) → thread_weight ps rest < thread_weight ps (mark n ∷ rest)
  mark_lighter n rest = omega arith

  -- and a `par` of no branch
  pub none_lighter : (rest : List Item) → thread_weight ps rest < thread_weight ps (does (kernel.par kernel.no_branch) ∷ rest)
  none_lighter rest = omega arith

  -- and one of a branch, for which the maker waits
  pub one_lighter : (p : Parent) (ss : kernel.Statements) (pos : Pos) →
      thread_weight (p ∷ ps) (todo ss (ends ∷ [])) < thread_weight ps (does (kernel.par (kernel.more_branches (kernel.branch ss pos) kernel.no_branch)) ∷ p.items)
  one_lighter p ss pos = omega (arith, todo_weight ss (ends ∷ []))

  -- and the end of a branch for which another waits
  pub end_lighter : (p : Parent) (rest : List Item) → thread_weight ps p.items < thread_weight (p ∷ ps) (ends ∷ rest)
  end_lighter p rest = omega arith

-- An item without an instruction.
pub data HasNone (ps : List Parent) : List Item → Type 0 where
  block : (n : ℕ) (ss : kernel.Statements) (rest : List Item) → HasNone ps (does (kernel.block n ss) ∷ rest)
  block_end : (n : ℕ) (rest : List Item) → HasNone ps (mark n ∷ rest)
  par_of_none : (rest : List Item) → HasNone ps (does (kernel.par kernel.no_branch) ∷ rest)
  par_of_one : (ss : kernel.Statements) (pos : Pos) (rest : List Item) → HasNone ps (does (kernel.par (kernel.more_branches (kernel.branch ss pos) kernel.no_branch)) ∷ rest)
  branch_end : (p : Parent) (qs : List Parent) (rest : List Item) → ps ≡ p ∷ qs → HasNone ps (ends ∷ rest)

-- a `par` has several branches, or it has no instruction
par_own : (ps : List Parent) (bs : kernel.Branches) (rest : List Item) → IsOwn ps (does (kernel.par bs) ∷ rest) ⊎ HasNone ps (does (kernel.par bs) ∷ rest)
par_own ps kernel.no_branch rest = inr (par_of_none rest)
par_own ps (kernel.more_branches (kernel.branch ss pos) kernel.no_branch) rest = inr (par_of_one ss pos rest)
par_own ps (kernel.more_branches b (kernel.more_branches c bs)) rest = inl tt

statement_own : (ps : List Parent) (t : kernel.Statement) (rest : List Item) → IsOwn ps (does t ∷ rest) ⊎ HasNone ps (does t ∷ rest)
statement_own ps (kernel.block n ss) rest = inr (block n ss rest)
statement_own ps (kernel.par bs) rest = par_own ps bs rest
statement_own ps (kernel.set_zero v) rest = inl tt
statement_own ps (kernel.set place x) rest = inl tt
statement_own ps (kernel.output o) rest = inl tt
statement_own ps (kernel.input i) rest = inl tt
statement_own ps (kernel.if_then x a b) rest = inl tt
statement_own ps (kernel.loop x a b) rest = inl tt
statement_own ps (kernel.exit n) rest = inl tt
statement_own ps (kernel.select cases otherwise pos) rest = inl tt
statement_own ps (kernel.transaction c is_master ss start close) rest = inl tt

-- the end of a branch has an instruction, or another branch waits for it
end_own : (ps : List Parent) (rest : List Item) → IsOwn ps (ends ∷ rest) ⊎ HasNone ps (ends ∷ rest)
end_own [] rest = inl tt
end_own (p ∷ ps) rest = inr (branch_end p ps rest refl)

-- the first item has an instruction, or it has none
pub own_or_none : (ps : List Parent) (items : List Item) → IsOwn ps items ⊎ HasNone ps items
own_or_none ps [] = inl tt
own_or_none ps (does t ∷ rest) = statement_own ps t rest
own_or_none ps (ends ∷ rest) = end_own ps rest
own_or_none ps (mark n ∷ rest) = inr (block_end n rest)
own_or_none ps (says i ∷ rest) = inl tt
own_or_none ps (stores place v ∷ rest) = inl tt
own_or_none ps (stamps resource place v ∷ rest) = inl tt
own_or_none ps (awaits c pos ∷ rest) = inl tt
own_or_none ps (transaction_end c is_master pos ∷ rest) = inl tt
own_or_none ps (chooses choices otherwise ∷ rest) = inl tt
own_or_none ps (fixed i v counter ∷ rest) = inl tt
