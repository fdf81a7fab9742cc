-- Loops. A loop's block, which `break` leaves, ends behind it; each turn is a body, whose block `continue` leaves.
use Rattle.std.specs.Prelude.{List, ◌∷◌, Option, Some, None}
use Rattle.xw_words.specs.declared.pos.Pos.{Pos}
use Rattle.xc_tree.specs.Plain as tree
use Rattle.xc_kernel.specs.Paths.{path_at, path_of_turn}
use Rattle.xc_kernel.specs.Scopes.{Scope}
use Rattle.xc_kernel.specs.Context.{Context, in_loop}
use Rattle.xc_kernel.specs.Values.{Value, word}
use Rattle.xc_kernel.specs.Eval.{Store}
use Rattle.xc_meaning.specs.States.Items.{Loop, first_test, again, again_do, Item, says, mark}
use Rattle.xc_meaning.specs.States.Worlds.{World}
use Rattle.xc_meaning.specs.Settings.Setting.{Setting, goes_to}
use Rattle.xc_meaning.specs.Settings.Flow.{chooses_side}
use Rattle.xc_meaning.specs.Texts.Words.{value_in}
use Rattle.xc_meaning.specs.Texts.Copied.{behind, block_in}
use Rattle.xc_meaning.specs.Texts.Items.{maybe_items, body_item}

-- the context of a loop's body
abbrev pub turn_context : Loop → Context
turn_context l = in_loop l.context l.pos

-- A turn of a loop. What has a mark begins by a step of its own: the body of a function, of a loop and of a case is one item, whose
-- step lays out its statements and its mark, as the kernel's block does. A body that is a block takes this one step and no other.
abbrev pub turn_item : Loop → Item
turn_item l = body_item (path_of_turn (path_at l.context.path l.pos)) l.body (turn_context l) l.scope

-- The mark of a loop's block. It stands behind the loop also where the first test doesn't hold.
abbrev pub loop_mark : Loop → Item
loop_mark l = mark (block_in l.context (path_at l.context.path l.pos))

-- one turn, what follows it, and the test again
abbrev pub turn_items : Loop → List Item → List Item
turn_items l rest = turn_item l ∷ maybe_items l.next l.context l.scope (says (again l) ∷ rest)

-- the value of a test; without one a loop goes on for ever
abbrev pub test_value : Context → Scope → Store → Option tree.Expression → Value
test_value c scope store None = word 1
test_value c scope store (Some e) = value_in c scope store e

-- the test of a `while` or `for`, with these items behind the loop
abbrev pub tests_loop : Setting → Loop → List Item → Option World
tests_loop s l rest = chooses_side s (test_value l.context l.scope s.world.store l.test) (turn_items l rest) rest

-- the test of a `do`, which knows the names behind the body
abbrev pub tests_do : Setting → Loop → Option World
tests_do s l =
    chooses_side s (test_value l.context (behind l.body (turn_context l) l.scope) s.world.store l.test) (turn_item l ∷ says (again_do l) ∷ s.rest) s.rest

-- the first test of a `while` or `for`
abbrev pub tests_first : Setting → Loop → Option World
tests_first s l = tests_loop s l (loop_mark l ∷ s.rest)

-- a `do` begins with its body, and then comes its test
abbrev pub begins_do : Setting → Loop → Option World
begins_do s l = Some (goes_to s (turn_item l ∷ says (again_do l) ∷ loop_mark l ∷ s.rest))

-- A `for` begins with its initialiser, and then comes its test. That first test is an item of its own, whose step is that of a
-- `while`.
abbrev pub begins_for : Setting → tree.Maybe → Scope → Loop → Option World
begins_for s first scope l = Some (goes_to s (maybe_items first l.context scope (says (first_test l) ∷ s.rest)))

-- the loops of a text, by the place of their word

abbrev pub while_loop : tree.Expression → tree.Statement → Pos → Context → Scope → Loop
while_loop test body pos c scope =
    record { pos = pos; test = Some test; next = tree.absent; body = body; context = c; scope = scope }

abbrev pub for_loop : Option tree.Expression → tree.Maybe → tree.Statement → Pos → Context → Scope → Loop
for_loop test next body pos c scope = record { pos = pos; test = test; next = next; body = body; context = c; scope = scope }
