-- Whether the items that a branch has still to do use a thing.
use Rattle.std.specs.Prelude.{Bool, true, false, ◌||◌, List, [], ◌∷◌, Option, Some, None}
use Rattle.xc_kernel.specs.Things.{Thing, by_channel, by_target, by_resource, by_input, by_statement, by_statements}
use Rattle.xc_meaning.specs.States.Items.{Body, of_kernel, of_text, Choice, Item, does, says, stores, stamps, mark, awaits, transaction_end, chooses, fixed, ends}

abbrev pub by_body : Thing → Body → Bool
by_body th (of_kernel ss) = by_statements th ss
by_body th (of_text i) = true

abbrev pub by_some_body : Thing → Option Body → Bool
by_some_body th None = false
by_some_body th (Some b) = by_body th b

abbrev pub by_choices : Thing → List Choice → Bool
by_choices th [] = false
by_choices th (c ∷ cs) = by_input th c.input || (by_body th c.body || by_choices th cs)

-- whether an item that is still to do uses this; an item of a text isn't looked at
abbrev pub by_item : Thing → Item → Bool
by_item th (does s) = by_statement th s
by_item th (says i) = true
by_item th (stores place v) = by_target th place
by_item th (stamps resource place v) = by_resource th resource || by_target th place
by_item th (mark n) = false
by_item th (awaits c pos) = by_channel th c
by_item th (transaction_end c is_master pos) = by_channel th c
by_item th (chooses choices otherwise) = by_choices th choices || by_some_body th otherwise
by_item th (fixed i v counter) = by_input th i
by_item th ends = false

abbrev pub by_items : Thing → List Item → Bool
by_items th [] = false
by_items th (item ∷ items) = by_item th item || by_items th items
