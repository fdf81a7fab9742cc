-- What goes down from an item to those that a step leaves in its place holds of all that is left.
use Rattle.std.proofs.Common.{◌≡◌, ℕ, Bool, true, false, List, [], ◌∷◌, Option, Some, None, slice_get, nat_eq, refl}
use Rattle.xw_words.specs.declared.pos.Pos.{Pos}
use Rattle.xc_kernel.specs.declared.statement.KRes.{KRes}
use Rattle.xc_kernel.specs.declared.statement.KRes.TheVariants.{Chan}
use Rattle.xc_kernel.specs.Plain as kernel
use Rattle.xc_kernel.specs.Eval.{Store}
use Rattle.xc_meaning.specs.States.Items.{Body, of_kernel, of_text, Choice, Item, does, says, stores, stamps, mark, awaits, transaction_end, chooses, fixed, ends, todo, body_items, storing, stamping}
use Rattle.xc_meaning.specs.Settings.Flow.{from_mark_by, items_from_mark}
use Rattle.xc_meaning.specs.Settings.Select.{enabled, these, default_of}
use Rattle.xc_invariants.specs.Every.{AllItems, AllStatements, AllBody}
use Rattle.xc_meaning.specs.Outline.{Leaves, passed, sent, offered, received, sampled, received_fixed, sampled_fixed, held, other, turned, begun, left, known, taken_fixed, taken_input, defaulted, Enters, Exits}
use Rattle.xc_meaning.specs.Outline as outline

pub record Inherits (P : Item → Type 0) : Type 0 where
  pub stamp_sent : (o : kernel.Output) (place : kernel.Place) (v : ℕ) → o.stamp ≡ Some place → P (does (kernel.output o)) → P (stamps o.resource place v)
  pub answer : (o : kernel.Output) (c : ℕ) (pos : Pos) → o.resource ≡ Chan c → P (does (kernel.output o)) → P (awaits c pos)
  pub target : (i : kernel.Input) (place : kernel.Place) (v : ℕ) → i.target ≡ Some place → P (does (kernel.input i)) → P (stores place v)
  pub stamp : (i : kernel.Input) (place : kernel.Place) (v : ℕ) → i.stamp ≡ Some place → P (does (kernel.input i)) → P (stamps i.resource place v)
  pub target_fixed : (i : kernel.Input) (x y : ℕ) (place : kernel.Place) (v : ℕ) → i.target ≡ Some place → P (fixed i x y) → P (stores place v)
  pub stamp_fixed : (i : kernel.Input) (x y : ℕ) (place : kernel.Place) (v : ℕ) → i.stamp ≡ Some place → P (fixed i x y) → P (stamps i.resource place v)
  pub of_if : (e : kernel.Expression) (a b : kernel.Statements) → P (does (kernel.if_then e a b)) → AllStatements P a × AllStatements P b
  pub of_loop : (e : kernel.Expression) (a b : kernel.Statements) → P (does (kernel.loop e a b)) → AllStatements P a × AllStatements P b
  pub of_block : (n : ℕ) (a : kernel.Statements) → P (does (kernel.block n a)) → AllStatements P a × P (mark n)
  pub of_select : (cs : kernel.Cases) (d : kernel.Default) (pos : Pos) (store : Store) (choices : List Choice) → enabled store cs ≡ these choices →
      P (does (kernel.select cs d pos)) → P (chooses choices (default_of d))
  pub of_choice : (choices : List Choice) (otherwise : Option Body) (n : ℕ) (c : Choice) → slice_get choices n ≡ Some c →
      P (chooses choices otherwise) → P (does (kernel.input c.input)) × ((v w : ℕ) → P (fixed c.input v w)) × AllBody P c.body
  pub of_default : (choices : List Choice) (body : Body) → P (chooses choices (Some body)) → AllBody P body
  pub of_transaction : (c : ℕ) (is_master : Bool) (a : kernel.Statements) (start close : Pos) →
      P (does (kernel.transaction c is_master a start close)) → AllStatements P a × P (awaits c start) × P (transaction_end c is_master close)
  pub of_end : (c : ℕ) (is_master : Bool) (pos : Pos) → P (transaction_end c is_master pos) → P (awaits c pos)

module _ (P : Item → Type 0) where
  pub all_todo : (ss : kernel.Statements) (rest : List Item) → AllStatements P ss → AllItems P rest → AllItems P (todo ss rest)
  all_todo kernel.no_more rest h g = g
  all_todo (kernel.more s ss) rest h g = (h.0, all_todo ss rest h.1 g)

  pub all_body : (b : Body) (rest : List Item) → AllBody P b → AllItems P rest → AllItems P (body_items b rest)
  all_body (of_kernel ss) rest h g = all_todo ss rest h g
  all_body (of_text i) rest h g = (h, g)

  pub all_storing : (place : Option kernel.Place) (v : ℕ) (rest : List Item) → ((p : kernel.Place) → place ≡ Some p → P (stores p v)) → AllItems P rest → AllItems P (storing place v rest)
  all_storing None v rest h g = g
  all_storing (Some p) v rest h g = (h p refl, g)

  pub all_stamping : (resource : KRes) (place : Option kernel.Place) (v : ℕ) (rest : List Item) → ((p : kernel.Place) → place ≡ Some p → P (stamps resource p v)) → AllItems P rest → AllItems P (stamping resource place v rest)
  all_stamping resource None v rest h g = g
  all_stamping resource (Some p) v rest h g = (h p refl, g)

  by_all : (b : Bool) (here behind : List Item) → AllItems P here → AllItems P behind → AllItems P (from_mark_by b here behind)
  by_all true here behind h g = h
  by_all false here behind h g = g

  pub all_from_mark : (n : ℕ) (items : List Item) → AllItems P items → AllItems P (items_from_mark n items)
  all_from_mark n [] h = tt
  all_from_mark n (mark m ∷ rest) h = by_all (nat_eq n m) (mark m ∷ rest) (items_from_mark n rest) h (all_from_mark n rest h.1)
  all_from_mark n (does s ∷ rest) h = all_from_mark n rest h.1
  all_from_mark n (says i ∷ rest) h = all_from_mark n rest h.1
  all_from_mark n (stores place v ∷ rest) h = all_from_mark n rest h.1
  all_from_mark n (stamps resource place v ∷ rest) h = all_from_mark n rest h.1
  all_from_mark n (awaits c pos ∷ rest) h = all_from_mark n rest h.1
  all_from_mark n (transaction_end c is_master pos ∷ rest) h = all_from_mark n rest h.1
  all_from_mark n (chooses choices otherwise ∷ rest) h = all_from_mark n rest h.1
  all_from_mark n (fixed i v counter ∷ rest) h = all_from_mark n rest h.1
  all_from_mark n (ends ∷ rest) h = all_from_mark n rest h.1

  pub all_left : Inherits P → (rest : List Item) (item : Item) (items : List Item) → Leaves rest item items → P item → AllItems P rest → AllItems P items
  all_left k rest first after (passed item p) h g = g
  all_left k rest first after (sent o v) h g = all_stamping o.resource o.stamp v rest (λ p e. k.stamp_sent o p v e h) g
  all_left k rest first after (offered o c pos e) h g = (k.answer o c pos e h, g)
  all_left k rest first after (received input v) h g = all_storing input.target v rest (λ p e. k.target input p v e h) g
  all_left k rest first after (sampled input v w) h g =
      all_storing input.target v (stamping input.resource input.stamp w rest) (λ p e. k.target input p v e h) (all_stamping input.resource input.stamp w rest (λ p e. k.stamp input p w e h) g)
  all_left k rest first after (received_fixed input x y v) h g = all_storing input.target v rest (λ p e. k.target_fixed input x y p v e h) g
  all_left k rest first after (sampled_fixed input x y v w) h g =
      all_storing input.target v (stamping input.resource input.stamp w rest) (λ p e. k.target_fixed input x y p v e h) (all_stamping input.resource input.stamp w rest (λ p e. k.stamp_fixed input x y p w e h) g)
  all_left k rest first after (held e a b) h g = all_todo a rest (k.of_if e a b h).0 g
  all_left k rest first after (other e a b) h g = all_todo b rest (k.of_if e a b h).1 g
  all_left k rest first after (turned e a b) h g =
      all_todo a (todo b (does (kernel.loop e a b) ∷ rest)) (k.of_loop e a b h).0 (all_todo b (does (kernel.loop e a b) ∷ rest) (k.of_loop e a b h).1 (h, g))
  all_left k rest first after (begun n a) h g = all_todo a (mark n ∷ rest) (k.of_block n a h).0 ((k.of_block n a h).1, g)
  all_left k rest first after (left n) h g = all_from_mark n rest g
  all_left k rest first after (known cs d pos store choices e) h g = (k.of_select cs d pos store choices e h, g)
  all_left k rest first after (taken_fixed choices otherwise n c v w e) h g =
      ((k.of_choice choices otherwise n c e h).1 v w, all_body c.body rest (k.of_choice choices otherwise n c e h).2 g)
  all_left k rest first after (taken_input choices otherwise n c e) h g =
      ((k.of_choice choices otherwise n c e h).0, all_body c.body rest (k.of_choice choices otherwise n c e h).2 g)
  all_left k rest first after (defaulted choices body) h g = all_body body rest (k.of_default choices body h) g

  pub all_entered : Inherits P → (rest : List Item) (item : Item) (c : ℕ) (items : List Item) → Enters rest item c items → P item → AllItems P rest → AllItems P items
  all_entered k rest first c after (outline.Enters.as_master d ss start close) h g =
      let t = k.of_transaction d true ss start close h in (t.1, all_todo ss (transaction_end d true close ∷ rest) t.0 (t.2, g))
  all_entered k rest first c after (outline.Enters.as_slave d ss start close) h g =
      let t = k.of_transaction d false ss start close h in all_todo ss (transaction_end d false close ∷ rest) t.0 (t.2, g)

  pub all_exited : Inherits P → (rest : List Item) (item : Item) (items : List Item) → Exits rest item items → P item → AllItems P rest → AllItems P items
  all_exited k rest first after (outline.Exits.as_master c pos) h g = (k.of_end c true pos h, g)
  all_exited k rest first after (outline.Exits.as_slave c pos) h g = g
