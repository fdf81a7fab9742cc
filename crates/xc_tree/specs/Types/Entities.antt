-- What a name may be used for, by what it is declared as.
use Rattle.std.specs.Prelude.{ℕ, Bool, true, false, not, nat_eq, ◌&&◌, Option, Some, None}
use Rattle.xc_tree.specs.declared.tree.TreeDir.{TreeDir}
use Rattle.xc_tree.specs.declared.tree.TreeDir.TheVariants.{In, Out, Both}
use Rattle.xc_tree.specs.declared.names.What.{What}
use Rattle.xc_tree.specs.declared.names.What.TheVariants.{Word, Array, Ref, ArrayParam, Chan, End, Timer, Port, PortParam, Index}

-- A word: one that is declared, a parameter for one, or the index of a replicated `par`. A name that has no entry in the lists is
-- declared as nothing, and every test here refuses it. So the definitions speak of every tree with its lists.
abbrev pub is_word : Option What → Bool
is_word (Some (Word u)) = true
is_word (Some (Ref u)) = true
is_word (Some Index) = true
is_word other = false

abbrev pub is_array : Option What → Bool
is_array (Some (Array u n)) = true
is_array (Some (ArrayParam u n)) = true
is_array other = false

-- a variable: a word or an array that is declared, or a parameter for one
abbrev pub is_variable : Option What → Bool
is_variable (Some (Word u)) = true
is_variable (Some (Array u n)) = true
is_variable (Some (Ref u)) = true
is_variable (Some (ArrayParam u n)) = true
is_variable other = false

-- the index of a replicated `par`
abbrev pub is_index : Option What → Bool
is_index (Some Index) = true
is_index other = false

-- a channel, or a parameter for an end of one
abbrev pub is_channel : Option What → Bool
is_channel (Some (Chan s)) = true
is_channel (Some (End s)) = true
is_channel other = false

abbrev pub is_port : Option What → Bool
is_port (Some (Port d)) = true
is_port (Some (PortParam d)) = true
is_port other = false

abbrev pub is_timer : Option What → Bool
is_timer (Some Timer) = true
is_timer other = false

-- whether a port of this direction takes outputs, and whether it gives inputs
abbrev pub drives : TreeDir → Bool
drives In = false
drives Out = true
drives Both = true

abbrev pub reads : TreeDir → Bool
reads In = true
reads Out = false
reads Both = true

-- what `<:` may stand behind: a channel, an `out port` or a `port`
abbrev pub takes_output : Option What → Bool
takes_output (Some (Port d)) = drives d
takes_output (Some (PortParam d)) = drives d
takes_output other = is_channel other

-- what `:>` may stand behind: a channel, an `in port`, a `port` or a timer
abbrev pub gives_input : Option What → Bool
gives_input (Some (Port d)) = reads d
gives_input (Some (PortParam d)) = reads d
gives_input (Some Timer) = true
gives_input other = is_channel other

-- both, or none of the two
abbrev pub agree : Bool → Bool → Bool
agree true b = b
agree false b = not b

-- whether a word is `unsigned` and so the elements of an array; else they are `int`
abbrev pub word_is_unsigned : Option What → Bool
word_is_unsigned (Some (Word u)) = u
word_is_unsigned (Some (Ref u)) = u
word_is_unsigned other = false

abbrev pub elements_are_unsigned : Option What → Bool
elements_are_unsigned (Some (Array u n)) = u
elements_are_unsigned (Some (ArrayParam u n)) = u
elements_are_unsigned other = false

-- a word of this type, and an array of words of it
abbrev pub is_word_of : Bool → Option What → Bool
is_word_of u w = is_word w && agree u (word_is_unsigned w)

abbrev pub is_array_of : Bool → Option What → Bool
is_array_of u w = is_array w && agree u (elements_are_unsigned w)

-- the length of an array, where it is told
abbrev pub length_of : Option What → Option ℕ
length_of (Some (Array u n)) = Some n
length_of (Some (ArrayParam u n)) = n
length_of other = None

-- an array of this length does where that length is asked for, or none is
abbrev pub length_does : Option ℕ → Option ℕ → Bool
length_does None has = true
length_does (Some n) None = false
length_does (Some n) (Some m) = nat_eq n m

-- a channel that is streaming where that is asked for, and else isn't
abbrev pub is_channel_of : Bool → Option What → Bool
is_channel_of s (Some (Chan t)) = agree s t
is_channel_of s (Some (End t)) = agree s t
is_channel_of s other = false

abbrev pub same_direction : TreeDir → TreeDir → Bool
same_direction In In = true
same_direction Out Out = true
same_direction Both Both = true
same_direction d e = false

abbrev pub is_port_of : TreeDir → Option What → Bool
is_port_of d (Some (Port e)) = same_direction d e
is_port_of d (Some (PortParam e)) = same_direction d e
is_port_of d other = false
