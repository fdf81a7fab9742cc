-- Paths of outputs and inputs as statements, behind their names.
use Rattle.std.proofs.Common.{◌≡◌, ℕ, ◌+◌, ◌≤◌, inl, inr, true, List, [], ◌∷◌, Option, Some, None, refl, sym as sym', subst, arith}
use Rattle.xw_words.specs.declared.pos.Pos.{Pos}
use Rattle.xc_tree.specs.declared.token.Tok.{Tok}
use Rattle.xc_tree.specs.declared.token.Kind.TheVariants.{Name, Sym}
use Rattle.xc_tree.specs.declared.tree.Id.{Id}
use Rattle.xc_tree.specs.Plain as plain
use Rattle.xc_tree.specs.Symbol as symbol
use Rattle.xc_tree.specs.Symbol.{Symbol, a_name, maybe, statement, input, dest, stamp, time, expr}
use Rattle.xc_tree.specs.Grammar.{statement_of}
use Rattle.xc_tree.specs.Derives.{On, extent}
use Rattle.xc_nonterminals.specs.declared.stop.Stop.{Stop}
use Rattle.xc_nonterminals.specs.Follows.{OneOf, StandsAt}
use Rattle.xc_nonterminals.specs.Reading.{Reads}
use Rattle.xc_nonterminals.specs.RowReading.{ReadsRow, StoppedRow}
use Rattle.xc_nonterminals.specs.Stops.{Stopped}
use Rattle.xc_nonterminals.specs.Parts.{received, sent}
use Rattle.xc_nonterminals.specs.Tails.{output_row, input_row}
use Rattle.xc_nonterminals.proofs.Rests.Rests.{Part, Rest}
use Rattle.xc_nonterminals.proofs.Rests.Opening.{Heads, no_head, one_head, popped}
use Rattle.xc_nonterminals.proofs.Rests.Behinds.{token_derived}
use Rattle.xc_nonterminals.proofs.Reading.Paths.{Roomy, roomy, begin, over_name, at_symbol, lacks_symbol, taken, read, read_all, stops, stops_all, finish}
use Rattle.xc_nonterminals.proofs.Rests.Choices.{all_open, pass_name, only_symbol, spread_out}
use Rattle.xc_nonterminals.proofs.Stating.Marks.{first_of, none_of}
use Rattle.xc_nonterminals.proofs.Rests.Aheads.{Ahead, name_symbol, name_word, read_ahead, stops_ahead}
use Rattle.xc_nonterminals.proofs.Reading.Insides.{inner_reads, inner_stopped}
use Rattle.xc_nonterminals.proofs.Reading.InsideRows.{inner_row, inner_row_stopped}
use Rattle.xc_nonterminals.proofs.Reading.RowSteps.{read_row, stops_row}
use Rattle.xc_tree.specs.Terminals as terminal

abbrev part : Symbol → Part
part s = record { above = 1; symbol = s }

-- an input; an output behind its name; with its time before it, an output and an input
abbrev an_input : Rest plain.Statement
an_input = record { need = 1; parts = part input ∷ part terminal.semicolon ∷ []; fits = λ x. true; make = λ e (d, u). statement_of e (plain.input d) }

abbrev output_behind : Id → Rest plain.Statement
output_behind n = record {
  need = 1;
  parts = part terminal.sends ∷ part expr ∷ part (maybe stamp) ∷ part terminal.semicolon ∷ [];
  fits = λ x. true;
  make = λ e (p, (v, (s, (q, u)))). statement_of e (plain.output (sent n None v s));
}

abbrev timed_output : Id → Rest plain.Statement
timed_output n = record {
  need = 1;
  parts = part time ∷ part terminal.sends ∷ part expr ∷ part (maybe stamp) ∷ part terminal.semicolon ∷ [];
  fits = λ x. true;
  make = λ e (t, (p, (v, (s, (q, u))))). statement_of e (plain.output (sent n (Some t) v s));
}

abbrev timed_input : Id → Rest plain.Statement
timed_input n = record {
  need = 1;
  parts = part time ∷ part terminal.receives ∷ part dest ∷ part (maybe stamp) ∷ part terminal.semicolon ∷ [];
  fits = λ x. true;
  make = λ e (t, (p, (d, (s, (q, u))))). statement_of e (plain.input (received n (symbol.at_time t) d s));
}

abbrev both_timed : (n : Id) → Heads time 1 (timed_output n ∷ timed_input n ∷ [])
both_timed n = one_head (one_head no_head)

module _ (toks : List Tok) (room i : ℕ) where
  -- an input, where `:>` or `when` stands behind the name
  module _ {x : List ℕ} {p : Pos} (named : On toks i (Name x) p) (o : OneOf toks (i + 1) (terminal.receives ∷ terminal.when_word ∷ [])) where
    input_ahead : Ahead toks (room + 1) statement i i (i + 1) (an_input ∷ [])
    input_ahead = elim (first_of terminal.receives (terminal.when_word ∷ []) o) [
      | inl y ↦ name_symbol (begin refl (omega arith)) named y.1
      | inr q ↦ elim (first_of terminal.when_word [] q) [ inl y ↦ name_word (begin refl (omega arith)) named y.1 | inr z ↦ absurd (none_of z) ]
    ]

    pub input_stops : (e : Stop) → Stopped toks room input i e → Stopped toks (room + 1) statement i e
    input_stops e y = stops_ahead e input_ahead (over_name (begin refl tt) named refl) (inner_stopped toks room input i e y) refl

    module _ {k : ℕ} {v : plain.Input} (r : Reads toks room input i k v) (l : i + 1 ≤ k) where
      pub input_ends : (e : Stop) → Stopped toks room terminal.semicolon k e → Stopped toks (room + 1) statement i e
      input_ends e y = stops e (read_ahead input_ahead (inner_reads room r) l refl) (inner_stopped toks room terminal.semicolon k e y) refl

      pub input_reads : {j : ℕ} {q : Pos} → Reads toks room terminal.semicolon k j q → Reads toks (room + 1) statement i j (statement_of (extent toks i j) (plain.input v))
      input_reads y = finish (read (read_ahead input_ahead (inner_reads room r) l refl) (inner_reads room y) refl) refl

  module _ {k : ℕ} {n : Id} (name : Reads toks room a_name i k n) where
    name_here : (k ≡ i + 1) × On toks i (Name n.text) n.pos
    name_here = token_derived refl name.derives

    -- an output, where `<:` stands behind the name
    module _ {o : Pos} (on : On toks (i + 1) (Sym 24) o) where
      output_open : Roomy toks (room + 1) statement i k (output_behind n ∷ [])
      output_open =
          let named = pass_name {room = room + 1} {s = statement} (all_open refl) name_here.1 refl (omega arith) in
          subst (λ m. Roomy toks (room + 1) statement i m (output_behind n ∷ [])) (sym' name_here.0) (roomy (only_symbol (spread_out (only_symbol named on)) on) (omega arith))

      pub sent_stops : (e : Stop) → StoppedRow toks room output_row k e → Stopped toks (room + 1) statement i e
      sent_stops e x = stops_row 1 output_row [] e output_open (inner_row_stopped toks room output_row k e x) refl

      pub output_read : {j : ℕ} {p q : Pos} {v : plain.Expression} {t : Option plain.Timing} → ReadsRow toks room output_row k j (p, (v, (t, (q, tt)))) → Reads toks (room + 1) statement i j (statement_of (extent toks i j) (plain.output (sent n None v t)))
      output_read x = finish (read_row 1 output_row [] output_open (inner_row room x) refl refl) refl

    -- an output or an input with a time, where `@` stands behind the name
    module _ (o : StandsAt toks (i + 1) terminal.at_sign) where
      timed_open : Roomy toks (room + 1) statement i k (timed_output n ∷ timed_input n ∷ [])
      timed_open =
          let named = pass_name {room = room + 1} {s = statement} (all_open refl) name_here.1 refl (omega arith) in
          subst (λ m. Roomy toks (room + 1) statement i m (timed_output n ∷ timed_input n ∷ [])) (sym' name_here.0) (at_symbol (taken (roomy (only_symbol named o.1) (omega arith)) refl) o.1)

      pub time_stops : (e : Stop) → Stopped toks room time k e → Stopped toks (room + 1) statement i e
      time_stops e x = stops_all (both_timed n) e timed_open (inner_stopped toks room time k e x) refl

      module _ {l : ℕ} {w : plain.Timing} (timed : Reads toks room time k l w) where
        time_read : Roomy toks (room + 1) statement i l (popped (both_timed n) w)
        time_read = read_all (both_timed n) timed_open (inner_reads room timed) refl

        -- an output
        module _ {p : Pos} (on : On toks l (Sym 24) p) where
          pub timed_sent_stops : (e : Stop) → StoppedRow toks room output_row l e → Stopped toks (room + 1) statement i e
          timed_sent_stops e x = stops_row 1 output_row [] e (at_symbol time_read on) (inner_row_stopped toks room output_row l e x) refl

          pub timed_output_read : {j : ℕ} {q r : Pos} {v : plain.Expression} {t : Option plain.Timing} → ReadsRow toks room output_row l j (q, (v, (t, (r, tt)))) → Reads toks (room + 1) statement i j (statement_of (extent toks i j) (plain.output (sent n (Some w) v t)))
          timed_output_read x = finish (read_row 1 output_row [] (at_symbol time_read on) (inner_row room x) refl refl) refl

        -- an input
        module _ (none : (p : Pos) → On toks l (Sym 24) p → ⊥) where
          pub timed_received_stops : (e : Stop) → StoppedRow toks room input_row l e → Stopped toks (room + 1) statement i e
          timed_received_stops e x = stops_row 1 input_row [] e (lacks_symbol 24 time_read none) (inner_row_stopped toks room input_row l e x) refl

          pub timed_input_read : {j : ℕ} {q r : Pos} {d : plain.Target} {t : Option plain.Timing} → ReadsRow toks room input_row l j (q, (d, (t, (r, tt)))) → Reads toks (room + 1) statement i j (statement_of (extent toks i j) (plain.input (received n (symbol.at_time w) d t)))
          timed_input_read x = finish (read_row 1 input_row [] (lacks_symbol 24 time_read none) (inner_row room x) refl refl) refl
