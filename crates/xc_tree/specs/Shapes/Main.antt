-- The form of main's block where it has a placed branch.
use Rattle.std.specs.Prelude.{Bool, true, false, ◌&&◌, ◌||◌, List, [], ◌∷◌, Some, None}
use Rattle.xc_tree.specs.Plain as plain

abbrev pub is_placed : plain.Branch → Bool
is_placed (plain.branch None s) = false
is_placed (plain.branch (Some p) s) = true

abbrev pub has_placed : plain.Branches → Bool
has_placed plain.no_branch = false
has_placed (plain.more_branches b bs) = is_placed b || has_placed bs

-- a `par` with a placed branch; a replicated one counts also where it has no numbers
abbrev pub places_branch : plain.Action → Bool
places_branch (plain.par bs) = has_placed bs
places_branch (plain.replicated a b c from until body) = is_placed body
places_branch other = false

-- a `par` directly among these statements has a placed branch
abbrev pub place_branches : plain.Statements → Bool
place_branches plain.no_more = false
place_branches (plain.more (plain.statement a p c own) ss) = places_branch a || place_branches ss

abbrev pub is_channel_kind : plain.Kind → Bool
is_channel_kind (plain.channel s) = true
is_channel_kind other = false

-- whether all of these declare channels
abbrev pub are_channels : List plain.Declaration → Bool
are_channels [] = true
are_channels (d ∷ ds) = is_channel_kind d.kind && are_channels ds

-- nothing, or one `return`
abbrev pub is_return_at_most : plain.Statements → Bool
is_return_at_most plain.no_more = true
is_return_at_most (plain.more (plain.statement (plain.return_with r) p c own) plain.no_more) = true
is_return_at_most other = false

-- declarations of channels, then one `par`, then at most one `return`
abbrev pub is_channels_par_return : plain.Statements → Bool
is_channels_par_return (plain.more (plain.statement (plain.declare ds) p c own) ss) = are_channels ds && is_channels_par_return ss
is_channels_par_return (plain.more (plain.statement (plain.par bs) p c own) ss) = is_return_at_most ss
is_channels_par_return (plain.more (plain.statement (plain.replicated a b d from until body) p c own) ss) = is_return_at_most ss
is_channels_par_return other = false

-- what stands in a block
abbrev pub statements_in : plain.Statement → plain.Statements
statements_in (plain.statement (plain.block ss) p c own) = ss
statements_in other = plain.more other plain.no_more
