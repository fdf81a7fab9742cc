-- What lines refer to: the ends that channels join, and the indices where threads begin and instructions lead.
use Rattle.std.specs.Prelude.{ℕ, zero, suc, ◌+◌, Bool, true, false, not, ◌&&◌, ◌||◌, if◌then◌else◌, List, [], ◌∷◌, ◌++◌, length, Option, Some, None, nat_eq, nat_le, nat_lt}
use Rattle.xr_assembly.specs.Images.{chan_in, core_number, pair_of}
use Rattle.xr_assembly.specs.declared.lines.ChanLine.{ChanLine}
use Rattle.xr_assembly.specs.declared.lines.Line.{Line}
use Rattle.xr_assembly.specs.declared.lines.Line.TheVariants.{Core, Ends, Root, Code, Chan}
use Rattle.xs_instr.specs.declared.image.CoreImage.{CoreImage}
use Rattle.xs_instr.specs.declared.image.Image.{Image}
use Rattle.xs_instr.specs.declared.image.Pair.{Pair}
use Rattle.xs_instr.specs.declared.instr.Instr.{Instr}
use Rattle.xs_instr.specs.declared.instr.Instr.TheVariants.{Brft, Brff, Brfu, Brbt, Brbf, Brbu, Blrf, Blrb, Tinitpc, Setv}
use Rattle.xs_instr.specs.Ends.{is_first, is_second}
use Rattle.xs_instr.specs.Machine.{parts_in}

-- forwards, to an index
abbrev pub is_forward : (size i k : ℕ) → Bool
is_forward size i k = nat_lt i k && nat_lt k size

-- backwards or to itself, to an index
abbrev pub is_backward : (size i k : ℕ) → Bool
is_backward size i k = nat_le k i && nat_lt k size

-- whether the instruction at an index leads to one, on its side, where it leads to another than the next
abbrev pub has_good_target : (size i : ℕ) → Instr → Bool
has_good_target size i (Brft a k) = is_forward size i k
has_good_target size i (Brff a k) = is_forward size i k
has_good_target size i (Brfu k) = is_forward size i k
has_good_target size i (Blrf k) = is_forward size i k
has_good_target size i (Brbt a k) = is_backward size i k
has_good_target size i (Brbf a k) = is_backward size i k
has_good_target size i (Brbu k) = is_backward size i k
has_good_target size i (Blrb k) = is_backward size i k
has_good_target size i (Setv r k) = nat_lt k size
has_good_target size i (Tinitpc x k) = nat_lt k size
has_good_target size i _ = true

-- whether a channel has that end
abbrev pub has_end : Pair → (c e : ℕ) → Bool
has_end p c e = is_first p c e || is_second p c e

-- whether channels name an end
abbrev pub is_named : List Pair → (c e : ℕ) → Bool
is_named [] c e = false
is_named (p ∷ ps) c e = has_end p c e || is_named ps c e

-- whether channels name each end of a core that is below e
abbrev pub are_named : List Pair → (c e : ℕ) → Bool
are_named ps c zero = true
are_named ps c (suc e) = are_named ps c e && is_named ps c e

-- whether an end is there, and no channel before names it
abbrev pub is_new_end : List CoreImage → List Pair → (c e : ℕ) → Bool
is_new_end cores before c e = nat_lt e (parts_in cores c).ends && not (is_named before c e)

-- whether a channel's two ends are there, differ, and no channel before names one
abbrev pub is_good_pair : List CoreImage → List Pair → Pair → Bool
is_good_pair cores before p =
    is_new_end cores before p.core p.end && is_new_end cores before p.peer_core p.peer_end
    && not (nat_eq p.core p.peer_core && nat_eq p.end p.peer_end)

-- how much code a core has
abbrev pub size_of : List CoreImage → ℕ → ℕ
size_of cores c = length (parts_in cores c).code.instrs

-- The rule that a line breaks by what it refers to, where it is of core c and these channels stand before it: 1103, a channel's end isn't
-- there, or is named a second time; 1104, a root or a target is no index, or is on the wrong side; 1105, no channel names an end.
abbrev pub broken_reference : Image → (c : ℕ) → List Pair → Line → Option ℕ
broken_reference L c before (Chan p) = if is_good_pair L.cores before (pair_of p) then None else Some 1103
broken_reference L c before (Root k) = if nat_lt k (size_of L.cores c) then None else Some 1104
broken_reference L c before (Code x) = if has_good_target (size_of L.cores c) x.index x.instr then None else Some 1104
broken_reference L c before (Ends e) = if are_named L.chans c e then None else Some 1105
broken_reference L c before _ = None

-- the core that the lines behind a line are of
abbrev pub core_behind : ℕ → Line → ℕ
core_behind c (Core n) = core_number n
core_behind c _ = c

-- channels, and a further one if there is one
abbrev pub with_chan : List Pair → Option ChanLine → List Pair
with_chan before None = before
with_chan before (Some p) = before ++ pair_of p ∷ []

-- `first_broken_reference`, by the rule that the line breaks
abbrev pub reference_or : Option ℕ → (number : ℕ) → Option (ℕ × ℕ) → Option (ℕ × ℕ)
reference_or (Some rule) number later = Some (number, rule)
reference_or None number later = later

-- the first of these lines that breaks a rule by what it refers to, with the rule; lines are counted on from a number
abbrev pub first_broken_reference : Image → (c : ℕ) → List Pair → (number : ℕ) → List Line → Option (ℕ × ℕ)
first_broken_reference L c before number [] = None
first_broken_reference L c before number (line ∷ more) =
    reference_or (broken_reference L c before line) number
    (first_broken_reference L (core_behind c line) (with_chan before (chan_in line)) (number + 1) more)
