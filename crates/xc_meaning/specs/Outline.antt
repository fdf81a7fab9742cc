-- The outline of a step: what it leaves of the items of its branch, and which branches it makes, whatever the words are.
use Rattle.std.specs.Prelude.{◌≡◌, ◌⊎◌, ℕ, true, false, List, [], ◌∷◌, ◌++◌, length, Option, Some, slice_get, slice_set, IsTrue}
use Rattle.xw_words.specs.declared.pos.Pos.{Pos}
use Rattle.xs_instr.specs.declared.image.Stim.{Stim}
use Rattle.xc_kernel.specs.declared.statement.KRes.TheVariants.{Chan}
use Rattle.xc_kernel.specs.Plain as kernel
use Rattle.xc_kernel.specs.Eval.{Store, words_of}
use Rattle.xc_meaning.specs.States.Items.{Body, Choice, Item, does, says, mark, awaits, transaction_end, chooses, fixed, ends, todo, body_items, storing, stamping}
use Rattle.xc_meaning.specs.States.Branches.{runs, waits, ended, erred, Branch}
use Rattle.xc_meaning.specs.States.Worlds.{World, inboxes_of}
use Rattle.xc_meaning.specs.Settings.Flow.{turn_items, items_from_mark}
use Rattle.xc_meaning.specs.Settings.Par.{Begun, all_begun, children, all_done}
use Rattle.xc_meaning.specs.Settings.Transactions.{without_innermost}
use Rattle.xc_meaning.specs.Settings.Select.{enabled, these, default_of}
use Rattle.xc_meaning.specs.Settings.Setting.{Setting}
use Rattle.xc_meaning.specs.Runs.{step_of}
use Rattle.xc_kernel.specs.Things.{change, channel}
use Rattle.xc_meaning.specs.Uses.{by_item}

-- whether a branch's place among its transactions, and its end, stay as they are when this item is passed
abbrev pub IsPassed : Item → Type 0
IsPassed (does (kernel.transaction c is_master ss start close)) = ⊥
IsPassed (says i) = ⊥
IsPassed (transaction_end c is_master pos) = ⊥
IsPassed (chooses choices otherwise) = ⊥
IsPassed ends = ⊥
IsPassed item = Unit {0}

-- what a branch has to do after its first item, in front of the rest
pub data Leaves (rest : List Item) : Item → List Item → Type 0 where
  passed : (item : Item) → IsPassed item → Leaves rest item rest
  sent : (o : kernel.Output) (v : ℕ) → Leaves rest (does (kernel.output o)) (stamping o.resource o.stamp v rest)
  offered : (o : kernel.Output) (c : ℕ) (pos : Pos) → o.resource ≡ Chan c → Leaves rest (does (kernel.output o)) (awaits c pos ∷ rest)
  received : (i : kernel.Input) (v : ℕ) → Leaves rest (does (kernel.input i)) (storing i.target v rest)
  sampled : (i : kernel.Input) (v w : ℕ) → Leaves rest (does (kernel.input i)) (storing i.target v (stamping i.resource i.stamp w rest))
  received_fixed : (i : kernel.Input) (x y v : ℕ) → Leaves rest (fixed i x y) (storing i.target v rest)
  sampled_fixed : (i : kernel.Input) (x y v w : ℕ) → Leaves rest (fixed i x y) (storing i.target v (stamping i.resource i.stamp w rest))
  held : (e : kernel.Expression) (a b : kernel.Statements) → Leaves rest (does (kernel.if_then e a b)) (todo a rest)
  other : (e : kernel.Expression) (a b : kernel.Statements) → Leaves rest (does (kernel.if_then e a b)) (todo b rest)
  turned : (e : kernel.Expression) (a b : kernel.Statements) → Leaves rest (does (kernel.loop e a b)) (turn_items e a b rest)
  begun : (n : ℕ) (a : kernel.Statements) → Leaves rest (does (kernel.block n a)) (todo a (mark n ∷ rest))
  left : (n : ℕ) → Leaves rest (does (kernel.exit n)) (items_from_mark n rest)
  known : (cs : kernel.Cases) (d : kernel.Default) (pos : Pos) (store : Store) (choices : List Choice) → enabled store cs ≡ these choices →
      Leaves rest (does (kernel.select cs d pos)) (chooses choices (default_of d) ∷ rest)
  taken_fixed : (choices : List Choice) (otherwise : Option Body) (n : ℕ) (c : Choice) (v w : ℕ) → slice_get choices n ≡ Some c →
      Leaves rest (chooses choices otherwise) (fixed c.input v w ∷ body_items c.body rest)
  taken_input : (choices : List Choice) (otherwise : Option Body) (n : ℕ) (c : Choice) → slice_get choices n ≡ Some c →
      Leaves rest (chooses choices otherwise) (does (kernel.input c.input) ∷ body_items c.body rest)
  defaulted : (choices : List Choice) (body : Body) → Leaves rest (chooses choices (Some body)) (body_items body rest)

-- the same where a transaction begins
pub data Enters (rest : List Item) : Item → ℕ → List Item → Type 0 where
  as_master : (c : ℕ) (ss : kernel.Statements) (start close : Pos) →
      Enters rest (does (kernel.transaction c true ss start close)) c (awaits c start ∷ todo ss (transaction_end c true close ∷ rest))
  as_slave : (c : ℕ) (ss : kernel.Statements) (start close : Pos) →
      Enters rest (does (kernel.transaction c false ss start close)) c (todo ss (transaction_end c false close ∷ rest))

-- and where it ends
pub data Exits (rest : List Item) : Item → List Item → Type 0 where
  as_master : (c : ℕ) (pos : Pos) → Exits rest (transaction_end c true pos) (awaits c pos ∷ rest)
  as_slave : (c : ℕ) (pos : Pos) → Exits rest (transaction_end c false pos) rest

-- what becomes of a branch by the step of its first item, and the branches that it makes
pub data Becomes (s : Setting) : Item → Branch → List Branch → Type 0 where
  goes : (item : Item) (items : List Item) → Leaves s.rest item items → Becomes s item (record s.branch { items = items }) []
  enters : (item : Item) (c : ℕ) (items : List Item) → Enters s.rest item c items →
      Becomes s item (record s.branch { items = items; inside = c ∷ s.branch.inside }) []
  exits : (item : Item) (items : List Item) → Exits s.rest item items →
      Becomes s item (record s.branch { items = items; inside = without_innermost s.branch.inside }) []
  errs : (item : Item) → Becomes s item (record s.branch { mode = erred; items = [] }) []
  ends_it : Becomes s ends (record s.branch { mode = ended; items = [] }) []
  makes : (bs : kernel.Branches) (b : Begun) (others : List Begun) → all_begun bs ≡ b ∷ others →
      Becomes s (does (kernel.par bs)) (record s.branch { mode = waits (length s.world.branches) (length (b ∷ others)); items = s.rest })
      (children s (length (b ∷ others)) 0 [] (b ∷ others))

-- A step of a branch that does an item: what becomes of the branches. It changes no variable and no inboxes but those that the item
-- changes or uses.
pub record Outlined (s : Setting) (item : Item) (y : World) : Type 0 where
  pub now : Branch
  pub more : List Branch
  pub branches : y.branches ≡ slice_set s.world.branches s.number now ++ more
  pub becomes : Becomes s item now more
  pub words : (v : ℕ) → words_of y.store v ≡ words_of s.world.store v ⊎ IsTrue (by_item (change v) item)
  pub inboxes : (c : ℕ) → inboxes_of y c ≡ inboxes_of s.world c ⊎ IsTrue (by_item (channel c) item)
  pub clocks : y.clocks ≡ s.world.clocks

-- A step of a run, by its outline: a clock goes up, a branch does its first item, or a branch goes on behind a `par` whose branches have ended.
pub data Moved (K : kernel.Kernel) (s : Stim) (x : World) : World → Type 0 where
  ticked : (clocks : List ℕ) → Moved K s x (record x { clocks = clocks })
  stepped : (n : ℕ) (b : Branch) (item : Item) (rest : List Item) (y : World) →
      slice_get x.branches n ≡ Some b → b.mode ≡ runs → b.items ≡ item ∷ rest → Outlined (step_of K s x n b rest) item y → Moved K s x y
  joined : (n : ℕ) (b : Branch) (from count : ℕ) →
      slice_get x.branches n ≡ Some b → b.mode ≡ waits from count → IsTrue (all_done x from count) →
      Moved K s x (record x { branches = slice_set x.branches n (record b { mode = runs }) })
