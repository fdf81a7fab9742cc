-- The sizes of parts of programs, as counts that go no further than one above their limits.
use Rattle.std.specs.Prelude.{ℕ, ◌+◌, min, List, Option, Some, None, slice_get}
use Rattle.xc_tree.specs.Plain as tree
use Rattle.xc_size.specs.declared.size.Size.{Size}
use Rattle.xc_size.specs.declared.sizes.Sizes.{Sizes}
use Rattle.xc_size.specs.Numbers.{number_of}

-- a count, or one above its limit where it is greater
unfoldable pub up_to : (limit count : ℕ) → ℕ
up_to limit count = min count (limit + 1)

abbrev pub no_size : Size
no_size = record { statements = 0; nodes = 0; depth = 0 }

-- the size that stands somewhere, where one is known
abbrev pub known_size : Option (Option Size) → Size
known_size None = no_size
known_size (Some None) = no_size
known_size (Some (Some size)) = size

-- the size by a function's number
abbrev pub size_by : List (Option Size) → Option ℕ → Size
size_by sizes None = no_size
size_by sizes (Some number) = known_size (slice_get sizes number)

-- the size that a call adds of the function with a name
abbrev pub size_called : Sizes → List ℕ → Size
size_called sizes name = size_by sizes.each (number_of sizes.names name)

-- what a call adds to each count
abbrev pub statements_called : Sizes → tree.Call → ℕ
statements_called sizes call = (size_called sizes call.called.text).statements

abbrev pub nodes_called : Sizes → tree.Call → ℕ
nodes_called sizes call = (size_called sizes call.called.text).nodes

abbrev pub depth_called : Sizes → tree.Call → ℕ
depth_called sizes call = (size_called sizes call.called.text).depth
