-- What the parts of declarations, transfers and assignments stand for.
use Rattle.std.specs.Prelude.{◌≡◌, ℕ, ◌⊎◌, Bool, false, List, [], ◌∷◌, ◌++◌, Option, if◌then◌else◌}
use Rattle.xc_tree.specs.declared.token.Tok.{Tok}
use Rattle.xc_tree.specs.declared.tree.Id.{Id}
use Rattle.xc_tree.specs.declared.tree.Declared.{Declared}
use Rattle.xc_tree.specs.Plain as plain
use Rattle.xc_tree.specs.Symbol as symbol
use Rattle.xc_tree.specs.Terminals.{comma, semicolon}
use Rattle.xc_tree.specs.Grammar.{time_of, condition_of, named, declared}
use Rattle.xc_tree.specs.Trees as trees
use Rattle.xc_nonterminals.specs.declared.stop.Stop.{Stop}
use Rattle.xc_nonterminals.specs.declared.stop.Stop.TheVariants.{Wrong, Deep, Memory}
use Rattle.xc_nonterminals.specs.declared.transfers.Waits.{Waits}
use Rattle.xc_nonterminals.specs.declared.transfers.Waits.TheVariants.{AtOnce, Time, Condition}
use Rattle.xc_nonterminals.specs.declared.assignments.Mark.{Mark}
use Rattle.xc_nonterminals.specs.Follows.{OneOf}
use Rattle.xc_nonterminals.specs.Reading.{Reads, Unfit}
use Rattle.xc_nonterminals.specs.Stops.{Stopped}

abbrev pub waits_of : Waits → symbol.Waits
waits_of AtOnce = symbol.at_once
waits_of (Time t) = symbol.at_time (trees.timing_of t)
waits_of (Condition w) = symbol.when_true (trees.condition_of w)

abbrev pub mark_of : Mark → symbol.Marked
mark_of m = record { mark = m.symbol; pos = m.pos }

-- an input of its parts
abbrev pub received : Id → symbol.Waits → plain.Target → Option plain.Timing → plain.Input
received n w d s = record { name = n; time = time_of w; condition = condition_of w; target = d; stamp = s }

-- an output of its parts
abbrev pub sent : Id → Option plain.Timing → plain.Expression → Option plain.Timing → plain.Output
sent n t e s = record { name = n; time = t; value = e; stamp = s }

-- a declaration with this property stands behind the others
abbrev pub Adds : List Declared → List Declared → (Declared → Type 0) → Type 0
Adds old new P = (d : Declared) × (new ≡ old ++ d ∷ []) × P d

-- a name was read up to j, and declared as this kind
pub record Names (toks : List Tok) (i j : ℕ) (kind : plain.Kind) (d : Declared) : Type 0 where
  pub reads : (room : ℕ) → Reads toks room symbol.a_name i j d.name
  pub is : trees.declaration_of d ≡ named kind d.name

-- what a declaration of channels, or else of timers, declares
abbrev pub resource_kind : Bool → plain.Kind
resource_kind is_chan = if is_chan then plain.channel false else plain.timer

-- a variable or an array was read up to j, and declared with this type of its words
pub record Declares (toks : List Tok) (room i j : ℕ) (is_unsigned : Bool) (d : Declared) : Type 0 where
  pub value : symbol.Declarator
  pub reads : Reads toks room symbol.dv i j value
  pub is : trees.declaration_of d ≡ declared is_unsigned value

-- where the declaration goes on at j, its initial value is too deep
abbrev pub IsCut : List Tok → ℕ → Stop → Type 0
IsCut toks j (Deep m) = (m ≡ j) × OneOf toks j (comma ∷ semicolon ∷ [])
IsCut toks j (Wrong m) = (m ≡ j) × (OneOf toks j (comma ∷ semicolon ∷ []) → ⊥)
IsCut toks j Memory = Unit {0}

-- no variable and no array with room was read from i on
abbrev pub NoName : List Tok → ℕ → ℕ → Stop → Type 0
NoName toks room i e = Stopped toks room symbol.dv i e ⊎ ((j : ℕ) × Unfit toks room symbol.dv i j × IsCut toks j e)
