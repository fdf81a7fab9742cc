-- Paths of the variables and arrays of a declaration, behind their names.
use Rattle.std.proofs.Common.{ℕ, ◌+◌, List, Some, None, refl}
use Rattle.xw_words.specs.declared.pos.Pos.{Pos}
use Rattle.xc_tree.specs.declared.token.Tok.{Tok}
use Rattle.xc_tree.specs.declared.token.Kind.TheVariants.{Sym}
use Rattle.xc_tree.specs.declared.tree.Id.{Id}
use Rattle.xc_tree.specs.Plain as plain
use Rattle.xc_tree.specs.Symbol.{a_name, a_number, dv, initial, Numeral, a_word, an_array}
use Rattle.xc_tree.specs.Derives.{On}
use Rattle.xc_nonterminals.specs.declared.stop.Stop.{Stop}
use Rattle.xc_nonterminals.specs.Reading.{Reads, Unfit}
use Rattle.xc_nonterminals.specs.Stops.{Stopped}
use Rattle.xc_nonterminals.proofs.Rests.Opening.{beginnings, Heads, no_head, one_head, popped}
use Rattle.xc_nonterminals.proofs.Reading.Paths.{Roomy, begin, over_symbol, lacks_symbol, taken, read, read_all, stops, stops_all, finish, unfit_last}
use Rattle.xc_nonterminals.proofs.Rests.Unfinished.{unfinished}
use Rattle.xc_tree.specs.Terminals as terminal

abbrev names : Heads a_name 0 (beginnings dv)
names = one_head (one_head no_head)

module _ (toks : List Tok) (room i : ℕ) where
  pub name_stops : (e : Stop) → Stopped toks room a_name i e → Stopped toks room dv i e
  name_stops e x = stops_all names e (begin refl tt) x refl

  module _ {j : ℕ} {n : Id} (name : Reads toks room a_name i j n) where
    name_read : Roomy toks room dv i j (popped names n)
    name_read = read_all names (begin refl tt) name refl

    -- an array
    module _ {p : Pos} (on : On toks j (Sym 4) p) where
      pub length_stops : (e : Stop) → Stopped toks room a_number (j + 1) e → Stopped toks room dv i e
      length_stops e x = stops e (over_symbol name_read on refl) x refl

      module _ {k : ℕ} {l : Numeral} (length : Reads toks room a_number (j + 1) k l) where
        pub close_stops : (e : Stop) → Stopped toks room terminal.end_bracket k e → Stopped toks room dv i e
        close_stops e x = stops e (read (over_symbol name_read on refl) length refl) x refl

        pub array_read : {m : ℕ} {q : Pos} → Reads toks room terminal.end_bracket k m q → Reads toks room dv i m (an_array n l.value l.pos)
        array_read x = finish (read (read (over_symbol name_read on refl) length refl) x refl) refl

    -- a variable
    module _ (no_bracket : (p : Pos) → On toks j (Sym 4) p → ⊥) where
      pub bare_read : ((p : Pos) → On toks j (Sym 22) p → ⊥) → Reads toks room dv i j (a_word n None)
      bare_read none = finish (lacks_symbol 22 (taken (lacks_symbol 4 name_read no_bracket) refl) none) refl

      module _ {p : Pos} (on : On toks j (Sym 22) p) where
        pub value_stops : (e : Stop) → Stopped toks room initial j e → Stopped toks room dv i e
        value_stops e x = stops e (unfinished (taken (lacks_symbol 4 name_read no_bracket) refl) (record { token = terminal.equals; stands = (p, on); among = refl })) x refl

        pub word_read : {k : ℕ} {r : plain.RightSide} → Reads toks room initial j k r → Reads toks room dv i k (a_word n (Some r))
        word_read x = finish (read (unfinished (taken (lacks_symbol 4 name_read no_bracket) refl) (record { token = terminal.equals; stands = (p, on); among = refl })) x refl) refl

        pub word_unfit : {k : ℕ} → Unfit toks room initial j k → Unfit toks room dv i k
        word_unfit u = unfit_last (unfinished (taken (lacks_symbol 4 name_read no_bracket) refl) (record { token = terminal.equals; stands = (p, on); among = refl })) u refl refl
