-- Items that begin with the head of a function: what is open behind it.
use Rattle.std.proofs.Common.{ℕ, List, [], ◌∷◌, Option, refl}
use Rattle.xc_tree.specs.declared.token.Tok.{Tok}
use Rattle.xc_tree.specs.Plain as plain
use Rattle.xc_tree.specs.Symbol.{Symbol, item, head}
use Rattle.xc_nonterminals.specs.declared.stop.Stop.{Stop}
use Rattle.xc_nonterminals.specs.Follows.{OneOf, first}
use Rattle.xc_nonterminals.specs.Reading.{Reads}
use Rattle.xc_nonterminals.specs.Stops.{Stopped}
use Rattle.xc_nonterminals.proofs.Rests.Rests.{Rest}
use Rattle.xc_nonterminals.proofs.Rests.Opening.{beginnings, without, Heads, no_head, one_head, popped}
use Rattle.xc_nonterminals.proofs.Derivations.TokenSets.{one_disjoint}
use Rattle.xc_nonterminals.proofs.Reading.Paths.{Roomy, begin, lacks, read_all, stops_all}
use Rattle.xc_tree.specs.Terminals as terminal

abbrev of_ports : List Symbol
of_ports = terminal.on_word ∷ terminal.in_word ∷ terminal.out_word ∷ terminal.port_word ∷ []

abbrev headed : List (Rest (Option plain.Item))
headed = without of_ports (beginnings item)

abbrev item_heads : Heads head 0 headed
item_heads = one_head (one_head no_head)

-- a function and a prototype, behind the head
abbrev pub behind_head : plain.Head → List (Rest (Option plain.Item))
behind_head h = popped item_heads h

module _ {toks : List Tok} {at : ℕ} (o : OneOf toks at (first head)) where
  begins_headed : (room : ℕ) → Roomy toks room item at at headed
  begins_headed room = lacks of_ports (begin refl tt) (one_disjoint of_ports refl o)

  pub head_stops : (room : ℕ) (e : Stop) → Stopped toks room head at e → Stopped toks room item at e
  head_stops room e x = stops_all item_heads e (begins_headed room) x refl

  pub at_head : {room k : ℕ} {h : plain.Head} → Reads toks room head at k h → Roomy toks room item at k (behind_head h)
  at_head {room} x = read_all item_heads (begins_headed room) x refl
