-- A declared name: its words become 0, or its initialiser's value is stored.
use Rattle.std.specs.Prelude.{Option, Some, None}
use Rattle.xc_tree.specs.Plain as tree
use Rattle.xc_kernel.specs.Paths.{Path, path_at}
use Rattle.xc_kernel.specs.Numbering.{variable_number}
use Rattle.xc_kernel.specs.Scopes.{Scope}
use Rattle.xc_kernel.specs.Context.{Context, word_at, declares_word}
use Rattle.xc_meaning.specs.States.Worlds.{World}
use Rattle.xc_meaning.specs.Settings.Setting.{Setting, goes_on}
use Rattle.xc_meaning.specs.Settings.Stores.{zeroed}
use Rattle.xc_meaning.specs.Texts.Words.{word_spot}
use Rattle.xc_meaning.specs.Texts.Calls.{stores_right}

-- a variable of this path begins
abbrev pub begins_word : Setting → Context → Scope → Path → Option tree.RightSide → Option World
begins_word s c scope path None = zeroed s (variable_number c.numbering path)
begins_word s c scope path (Some r) = stores_right s c scope (word_spot (variable_number c.numbering path)) (word_at c path) r

-- By what is declared; a word's initialiser knows the word itself, and a channel or timer has no words. A declaration is an item for
-- each name. That of a channel or a timer is a step that changes nothing.
abbrev pub declares_kind : Setting → Context → Scope → tree.Declaration → tree.Kind → Option World
declares_kind s c scope d (tree.word u r) =
    begins_word s c (declares_word c d.name.text d.name.pos u scope).scope (path_at c.path d.name.pos) r
declares_kind s c scope d (tree.array u length pos) = zeroed s (variable_number c.numbering (path_at c.path d.name.pos))
declares_kind s c scope d (tree.channel is_streaming) = Some (goes_on s)
declares_kind s c scope d tree.timer = Some (goes_on s)

abbrev pub declares : Setting → Context → Scope → tree.Declaration → Option World
declares s c scope d = declares_kind s c scope d d.kind
