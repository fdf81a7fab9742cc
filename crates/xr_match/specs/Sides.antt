-- The channels of a kernel that have two sides, in the kernel's order.
use Rattle.std.specs.Prelude.{ℕ, zero, suc, Bool, true, false, List, [], ◌∷◌, ◌++◌, length}
use Rattle.xc_kernel.specs.Branches.{has_two_sides}
use Rattle.xc_kernel.specs.Plain as kernel

-- a channel's number, where it has two
abbrev pub where_so : Bool → (channel : ℕ) → List ℕ
where_so true channel = channel ∷ []
where_so false channel = []

-- those among the first channels
abbrev pub two_sided_among : kernel.Kernel → (channels : ℕ) → List ℕ
two_sided_among K zero = []
two_sided_among K (suc channel) = two_sided_among K channel ++ where_so (has_two_sides K channel) channel

-- Line k of an image's `.chan` lines is the k-th of them, and its first end the first side.
abbrev pub two_sided : kernel.Kernel → List ℕ
two_sided K = two_sided_among K (length K.channels)
