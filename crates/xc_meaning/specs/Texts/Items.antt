-- The items that statements are where they stand.
use Rattle.std.specs.Prelude.{List, [], ◌∷◌}
use Rattle.xc_tree.specs.Plain as tree
use Rattle.xc_kernel.specs.Paths.{Path}
use Rattle.xc_kernel.specs.Scopes.{Scope}
use Rattle.xc_kernel.specs.Context.{Context}
use Rattle.xc_meaning.specs.States.Items.{statement, name, body, Item, says, mark}
use Rattle.xc_meaning.specs.Texts.Copied.{behind, behind_name, block_in}

-- a declaration is an item for each name that it declares
abbrev pub name_items : List tree.Declaration → Context → Scope → List Item → List Item
name_items [] c scope rest = rest
name_items (d ∷ ds) c scope rest = says (name d c scope) ∷ name_items ds c (behind_name d c scope) rest

abbrev pub statement_items : tree.Statement → Context → Scope → List Item → List Item
statement_items (tree.statement (tree.declare ds) pos close own) c scope rest = name_items ds c scope rest
statement_items s c scope rest = says (statement s c scope) ∷ rest

abbrev pub maybe_items : tree.Maybe → Context → Scope → List Item → List Item
maybe_items tree.absent c scope rest = rest
maybe_items (tree.present s) c scope rest = statement_items s c scope rest

abbrev pub statements_items : tree.Statements → Context → Scope → List Item → List Item
statements_items tree.no_more c scope rest = rest
statements_items (tree.more s ss) c scope rest = statement_items s c scope (statements_items ss c (behind s c scope) rest)

abbrev pub only : tree.Statement → tree.Statements
only s = tree.more s tree.no_more

-- a statement as the body of a function or loop: what a block holds, or the statement alone
abbrev pub as_body : tree.Statement → tree.Statements
as_body (tree.statement (tree.block ss) pos close own) = ss
as_body s = only s

abbrev pub body_item : Path → tree.Statement → Context → Scope → Item
body_item block s c scope = says (body block (as_body s) c scope)

-- the statements of a body, and the mark of its block
abbrev pub entered_items : Path → tree.Statements → Context → Scope → List Item → List Item
entered_items block ss c scope rest = statements_items ss c scope (mark (block_in c block) ∷ rest)
