-- Parameters that begin with the type of a word: what is open behind it.
use Rattle.std.proofs.Common.{ℕ, ◌+◌, Bool, List, [], ◌∷◌, refl}
use Rattle.xc_tree.specs.declared.token.Tok.{Tok}
use Rattle.xc_tree.specs.declared.token.Kind.TheVariants.{Sym}
use Rattle.xc_tree.specs.declared.tree.Param.{Param}
use Rattle.xc_tree.specs.declared.tree.Id.{Id}
use Rattle.xw_words.specs.declared.pos.Pos.{Pos}
use Rattle.xc_tree.specs.Symbol.{Symbol, a_name, word, param}
use Rattle.xc_tree.specs.Derives.{On}
use Rattle.xc_nonterminals.specs.declared.stop.Stop.{Stop}
use Rattle.xc_nonterminals.specs.Follows.{OneOf, follows}
use Rattle.xc_nonterminals.specs.Reading.{Reads}
use Rattle.xc_nonterminals.specs.Stops.{Stopped}
use Rattle.xc_nonterminals.proofs.Rests.Rests.{Rest}
use Rattle.xc_nonterminals.proofs.Rests.Opening.{beginnings, without, Heads, no_head, one_head, popped, over}
use Rattle.xc_nonterminals.proofs.Derivations.TokenSets.{one_disjoint}
use Rattle.xc_nonterminals.proofs.Reading.Paths.{Roomy, begin, over_symbol, lacks, lacks_symbol, read_all, stops_all}
use Rattle.xc_tree.specs.Terminals as terminal

abbrev types : List Symbol
types = terminal.int_word ∷ terminal.unsigned_word ∷ []

abbrev others : List Symbol
others = terminal.chanend_word ∷ terminal.in_word ∷ terminal.out_word ∷ terminal.port_word ∷ []

-- the alternatives that begin with a type
abbrev typed : List (Rest Param)
typed = without others (beginnings param)

abbrev typed_heads : Heads word 0 typed
typed_heads = one_head (one_head (one_head (one_head no_head)))

-- what they are behind it, and where no `&` stands
abbrev pub behind_type : Bool → List (Rest Param)
behind_type u = popped typed_heads u

abbrev pub by_value : Bool → List (Rest Param)
by_value u = without (terminal.ampersand ∷ []) (behind_type u)

abbrev name_heads : (u : Bool) → Heads a_name 0 (by_value u)
name_heads u = one_head (one_head (one_head no_head))

-- behind the name, and where a `[` stands, behind that
abbrev pub behind_name : Bool → Id → List (Rest Param)
behind_name u n = popped (name_heads u) n

abbrev pub in_brackets : Bool → Id → Pos → List (Rest Param)
in_brackets u n p = over (follows param) terminal.bracket p (behind_name u n)

module _ {toks : List Tok} {at : ℕ} (type : OneOf toks at types) where
  begins_typed : (room : ℕ) → Roomy toks room param at at typed
  begins_typed room = lacks others (begin refl tt) (one_disjoint others refl type)

  pub type_stops : (room : ℕ) (e : Stop) → Stopped toks room word at e → Stopped toks room param at e
  type_stops room e x = stops_all typed_heads e (begins_typed room) x refl

  module _ {room : ℕ} {k : ℕ} {u : Bool} (w : Reads toks room word at k u) where
    pub at_type : Roomy toks room param at k (behind_type u)
    at_type = read_all typed_heads (begins_typed room) w refl

    module _ (none : (p : Pos) → On toks k (Sym 10) p → ⊥) where
      pub name_stops : (e : Stop) → Stopped toks room a_name k e → Stopped toks room param at e
      name_stops e x = stops_all (name_heads u) e (lacks_symbol 10 at_type none) x refl

      module _ {m : ℕ} {n : Id} (x : Reads toks room a_name k m n) where
        pub at_name : Roomy toks room param at m (behind_name u n)
        at_name = read_all (name_heads u) (lacks_symbol 10 at_type none) x refl

        pub at_bracket : {p : Pos} → On toks m (Sym 4) p → Roomy toks room param at (m + 1) (in_brackets u n p)
        at_bracket on = over_symbol at_name on refl
