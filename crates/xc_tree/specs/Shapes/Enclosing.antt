-- What stands around a statement in its function.
use Rattle.std.specs.Prelude.{Bool, true, false, ◌&&◌, List, [], ◌∷◌, codes, bytes_eq}
use Rattle.xc_tree.specs.Plain as plain

-- what a statement stands in
pub data Holder : Type 0 where
  -- a block that isn't the function's own
  a_block : Holder
  an_if : Holder
  -- the body of a `while`, `do` or `for`
  a_loop : Holder
  -- a case of a select
  a_case : Holder
  -- a branch of a `par`
  a_branch : Holder
  -- a transaction
  a_transaction : Holder

-- the function that a statement stands in, and what there is around it inside the function's block, the innermost first
pub record Enclosing : Type 0 where
  pub function : plain.Head
  pub holders : List Holder

-- what is around a statement that stands directly in a holder
abbrev pub inside : Holder → Enclosing → Enclosing
inside h a = record { function = a.function; holders = h ∷ a.holders }

-- directly in a function's block
abbrev pub in_block_of : plain.Head → Enclosing
in_block_of f = record { function = f; holders = [] }

-- a `break` leaves the innermost loop or case around it, in the same branch and transaction
abbrev pub has_way_out : List Holder → Bool
has_way_out [] = false
has_way_out (a_block ∷ hs) = has_way_out hs
has_way_out (an_if ∷ hs) = has_way_out hs
has_way_out (a_loop ∷ hs) = true
has_way_out (a_case ∷ hs) = true
has_way_out (a_branch ∷ hs) = false
has_way_out (a_transaction ∷ hs) = false

-- a `continue` goes on with the innermost loop around it, in the same branch and transaction
abbrev pub has_next_turn : List Holder → Bool
has_next_turn [] = false
has_next_turn (a_block ∷ hs) = has_next_turn hs
has_next_turn (an_if ∷ hs) = has_next_turn hs
has_next_turn (a_loop ∷ hs) = true
has_next_turn (a_case ∷ hs) = has_next_turn hs
has_next_turn (a_branch ∷ hs) = false
has_next_turn (a_transaction ∷ hs) = false

-- inside a transaction
abbrev pub in_transaction : List Holder → Bool
in_transaction [] = false
in_transaction (a_transaction ∷ hs) = true
in_transaction (other ∷ hs) = in_transaction hs

-- inside a `par` or a transaction
abbrev pub in_par_or_transaction : List Holder → Bool
in_par_or_transaction [] = false
in_par_or_transaction (a_branch ∷ hs) = true
in_par_or_transaction (a_transaction ∷ hs) = true
in_par_or_transaction (other ∷ hs) = in_par_or_transaction hs

abbrev pub is_empty : {V : Type 0} → List V → Bool
is_empty [] = true
is_empty (x ∷ xs) = false

-- the function `main` without parameters
abbrev pub is_main : plain.Head → Bool
is_main h = bytes_eq h.name.text (codes "main") && is_empty h.params

-- directly in main's block
abbrev pub directly_in_main : Enclosing → Bool
directly_in_main a = is_empty a.holders && is_main a.function
