-- What is on its way when a run ends, told by the four parts.
use Rattle.std.specs.Prelude.{ℕ, Bool, true, false, ◌||◌, List, [], ◌∷◌}
use Rattle.xs_instr.specs.declared.image.Image.{Image}
use Rattle.xs_instr.specs.declared.image.Stim.{Stim}
use Rattle.xs_instr.specs.declared.state.Item.{Item}
use Rattle.xr_windows.specs.Windows.{Between, part, windows_of}

-- there is one
abbrev pub has_item : List Item → Bool
has_item [] = false
has_item (i ∷ items) = true

-- something waits from one of the four cores
abbrev pub waits : (ℕ → List Item) → Bool
waits w = has_item (w 0) || (has_item (w 1) || (has_item (w 2) || has_item (w 3)))

-- an item that was sent to the core isn't delivered yet, or the window that it ran last sent one
abbrev pub pending : Between → Bool
pending p = waits p.waiting || p.has_sent

-- the same of the four cores of a run of n ticks, in the end
abbrev pub some_pending : Image → Stim → ℕ → Bool
some_pending L s n =
    pending (part L s n 0 (windows_of n)) || (pending (part L s n 1 (windows_of n)) || (pending (part L s n 2 (windows_of n)) || pending (part L s n 3 (windows_of n))))
