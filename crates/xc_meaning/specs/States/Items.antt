-- What a branch has still to do, item by item. The items of a kernel are its statements, those of a text stand with the names
-- that are known there, and some more of both are left by a step for the next ones.
use Rattle.std.specs.Prelude.{ℕ, Bool, List, ◌∷◌, Option, Some, None}
use Rattle.xw_words.specs.declared.pos.Pos.{Pos}
use Rattle.xc_tree.specs.Plain as tree
use Rattle.xc_kernel.specs.declared.statement.KRes.{KRes}
use Rattle.xc_kernel.specs.Plain as kernel
use Rattle.xc_kernel.specs.Paths.{Path}
use Rattle.xc_kernel.specs.Scopes.{Scope}
use Rattle.xc_kernel.specs.Context.{Context}

-- a loop of a text by the place of its word: its test, what follows each turn, its body, and where it stands
pub record Loop : Type 0 where
  pub pos : Pos
  pub test : Option tree.Expression
  pub next : tree.Maybe
  pub body : tree.Statement
  pub context : Context
  pub scope : Scope

-- an item of a text
pub data TextItem : Type 0 where
  statement : tree.Statement → Context → Scope → TextItem
  -- a declared name
  name : tree.Declaration → Context → Scope → TextItem
  -- a parameter that stands for what its argument stands for
  bound : TextItem
  -- the body of a function, a loop or a case, as the block that `return`, `continue` or `break` leaves
  body : (block : Path) → tree.Statements → Context → Scope → TextItem
  -- the test of a `for` that begins, that of a `while` or `for` behind a turn, and that of a `do`
  first_test : Loop → TextItem
  again : Loop → TextItem
  again_do : Loop → TextItem
  -- the value of a `return`, once its call is done
  returned : kernel.Expression → Context → TextItem

-- when a transfer may pass, once its time or condition is evaluated
pub data When : Type 0 where
  now : When
  -- at a value of the port's counter
  at_time : ℕ → When
  -- while the port's pins are this word, or while they are another
  pins_equal : ℕ → When
  pins_differ : ℕ → When
  -- while the clock is after this time
  after_time : ℕ → When

-- the body of a select's case
pub data Body : Type 0 where
  of_kernel : kernel.Statements → Body
  of_text : TextItem → Body

-- an enabled case of a select
pub record Choice : Type 0 where
  pub input : kernel.Input
  pub when : When
  pub body : Body

pub data Item : Type 0 where
  does : kernel.Statement → Item
  says : TextItem → Item
  -- a word goes to the destination of a transfer that has passed
  stores : kernel.Place → ℕ → Item
  -- the counter at which a transfer over a resource has passed goes to its stamp
  stamps : KRes → kernel.Place → ℕ → Item
  -- the end of the block with this number
  mark : ℕ → Item
  -- waits for the answer to an offer, an opening or a closing
  awaits : (channel : ℕ) → Pos → Item
  -- the end of a transaction
  transaction_end : (channel : ℕ) (is_master : Bool) → Pos → Item
  -- a select whose enabled cases are known, and its default
  chooses : List Choice → Option Body → Item
  -- the input of a case, with the value and the counter at which the case was taken
  fixed : kernel.Input → (value counter : ℕ) → Item
  -- the end of the branch
  ends : Item

-- the statements of a kernel, and then other items
abbrev pub todo : kernel.Statements → List Item → List Item
todo kernel.no_more rest = rest
todo (kernel.more s ss) rest = does s ∷ todo ss rest

-- the body of a case, and then other items
abbrev pub body_items : Body → List Item → List Item
body_items (of_kernel ss) rest = todo ss rest
body_items (of_text i) rest = says i ∷ rest

-- a word to be stored, where there is a place for it
abbrev pub storing : Option kernel.Place → ℕ → List Item → List Item
storing None v rest = rest
storing (Some place) v rest = stores place v ∷ rest

-- a stamp, where there is a place for it
abbrev pub stamping : KRes → Option kernel.Place → ℕ → List Item → List Item
stamping resource None v rest = rest
stamping resource (Some place) v rest = stamps resource place v ∷ rest
