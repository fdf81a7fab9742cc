-- The rows between the brackets of a replicated `par`, and the path through it.
use Rattle.std.proofs.Common.{ℕ, ◌+◌, List, [], ◌∷◌, refl, arith}
use Rattle.xw_words.specs.declared.pos.Pos.{Pos}
use Rattle.xc_tree.specs.declared.token.Tok.{Tok}
use Rattle.xc_tree.specs.declared.token.Kind.TheVariants.{Key, Sym}
use Rattle.xc_tree.specs.declared.tree.Id.{Id}
use Rattle.xc_tree.specs.Plain as plain
use Rattle.xc_tree.specs.Symbol.{Numeral, sym, a_name, a_number, branch, statement}
use Rattle.xc_tree.specs.Grammar.{statement_of}
use Rattle.xc_tree.specs.Derives.{On, extent}
use Rattle.xc_nonterminals.specs.declared.stop.Stop.{Stop}
use Rattle.xc_nonterminals.specs.Counting.{bound_row, step_row}
use Rattle.xc_nonterminals.specs.Reading.{Reads}
use Rattle.xc_nonterminals.specs.RowReading.{ReadsRow, StoppedRow}
use Rattle.xc_nonterminals.specs.Stops.{Stopped}
use Rattle.xc_nonterminals.proofs.Rests.Rests.{left}
use Rattle.xc_nonterminals.proofs.Reading.Paths.{begin, at_symbol, over_word, read, stops}
use Rattle.xc_nonterminals.proofs.Reading.Insides.{inner_reads, inner_stopped}
use Rattle.xc_nonterminals.proofs.Reading.Lasts.{read_last, stops_last}
use Rattle.xc_nonterminals.proofs.Reading.RowReads.{row_read, row_goes, row_stops, no_more_row}
use Rattle.xc_nonterminals.proofs.Reading.RowSteps.{read_row, stops_row}
use Rattle.xc_tree.specs.Terminals as terminal

module _ (toks : List Tok) (room o i : ℕ) where
  -- a name, a symbol, a number and a semicolon
  pub bound_name_stops : (e : Stop) → Stopped toks room a_name i e → StoppedRow toks room (bound_row o) i e
  bound_name_stops e x = row_stops toks room i a_name (sym o ∷ a_number ∷ terminal.semicolon ∷ []) e x refl

  module _ {j : ℕ} {n : Id} (name : Reads toks room a_name i j n) where
    bound_goes : (e : Stop) → StoppedRow toks room (sym o ∷ a_number ∷ terminal.semicolon ∷ []) j e → StoppedRow toks room (bound_row o) i e
    bound_goes e x = row_goes toks room i a_name (sym o ∷ a_number ∷ terminal.semicolon ∷ []) e name x refl

    pub bound_symbol_stops : (e : Stop) → Stopped toks room (sym o) j e → StoppedRow toks room (bound_row o) i e
    bound_symbol_stops e x = bound_goes e (row_stops toks room j (sym o) (a_number ∷ terminal.semicolon ∷ []) e x refl)

    module _ {k : ℕ} {p : Pos} (symbol : Reads toks room (sym o) j k p) where
      pub bound_number_stops : (e : Stop) → Stopped toks room a_number k e → StoppedRow toks room (bound_row o) i e
      bound_number_stops e x = bound_goes e (row_goes toks room j (sym o) (a_number ∷ terminal.semicolon ∷ []) e symbol (row_stops toks room k a_number (terminal.semicolon ∷ []) e x refl) refl)

      module _ {l : ℕ} {v : Numeral} (number : Reads toks room a_number k l v) where
        pub bound_end_stops : (e : Stop) → Stopped toks room terminal.semicolon l e → StoppedRow toks room (bound_row o) i e
        bound_end_stops e x =
            let b = row_goes toks room k a_number (terminal.semicolon ∷ []) e number (row_stops toks room l terminal.semicolon [] e x refl) refl in
            bound_goes e (row_goes toks room j (sym o) (a_number ∷ terminal.semicolon ∷ []) e symbol b refl)

        pub bound_read : {m : ℕ} {q : Pos} → Reads toks room terminal.semicolon l m q → ReadsRow toks room (bound_row o) i m (n, (p, (v, (q, tt))))
        bound_read x = row_read name (row_read symbol (row_read number (row_read x no_more_row refl) refl) refl) refl

module _ (toks : List Tok) (room i : ℕ) where
  -- a name, `++` and a bracket
  pub step_name_stops : (e : Stop) → Stopped toks room a_name i e → StoppedRow toks room step_row i e
  step_name_stops e x = row_stops toks room i a_name (terminal.plus_plus ∷ terminal.end_paren ∷ []) e x refl

  module _ {j : ℕ} {n : Id} (name : Reads toks room a_name i j n) where
    pub step_symbol_stops : (e : Stop) → Stopped toks room terminal.plus_plus j e → StoppedRow toks room step_row i e
    step_symbol_stops e x = row_goes toks room i a_name (terminal.plus_plus ∷ terminal.end_paren ∷ []) e name (row_stops toks room j terminal.plus_plus (terminal.end_paren ∷ []) e x refl) refl

    module _ {k : ℕ} {p : Pos} (symbol : Reads toks room terminal.plus_plus j k p) where
      pub step_end_stops : (e : Stop) → Stopped toks room terminal.end_paren k e → StoppedRow toks room step_row i e
      step_end_stops e x =
          let b = row_goes toks room j terminal.plus_plus (terminal.end_paren ∷ []) e symbol (row_stops toks room k terminal.end_paren [] e x refl) refl in
          row_goes toks room i a_name (terminal.plus_plus ∷ terminal.end_paren ∷ []) e name b refl

      pub step_read : {l : ℕ} {q : Pos} → Reads toks room terminal.end_paren k l q → ReadsRow toks room step_row i l (n, (p, (q, tt)))
      step_read x = row_read name (row_read symbol (row_read x no_more_row refl) refl) refl

-- a replicated `par`, from its word on
module _ {toks : List Tok} (room : ℕ) {at : ℕ} {p q : Pos} (w : On toks at (Key 15) p) (b : On toks (at + 1) (Sym 0) q) where
  pub counts_paren_stops : (e : Stop) → Stopped toks (left (room + 1) 1) terminal.paren (at + 1) e → Stopped toks (room + 1) statement at e
  counts_paren_stops e x = stops e (at_symbol (over_word (begin refl (omega arith)) w refl) b) x refl

  module _ {k : ℕ} {r : Pos} (paren : Reads toks (left (room + 1) 1) terminal.paren (at + 1) k r) where
    pub counts_int_stops : (e : Stop) → Stopped toks (left (room + 1) 1) terminal.int_word k e → Stopped toks (room + 1) statement at e
    counts_int_stops e x = stops e (read (at_symbol (over_word (begin refl (omega arith)) w refl) b) paren refl) x refl

    module _ {l : ℕ} {s : Pos} (int : Reads toks (left (room + 1) 1) terminal.int_word k l s) where
      pub counts_first_stops : (e : Stop) → StoppedRow toks (left (room + 1) 1) (bound_row 22) l e → Stopped toks (room + 1) statement at e
      counts_first_stops e x = stops_row 1 (bound_row 22) _ e (read (read (at_symbol (over_word (begin refl (omega arith)) w refl) b) paren refl) int refl) x refl

      module _ {m : ℕ} {n : Id} {v : Numeral} {a c : Pos} (first : ReadsRow toks (left (room + 1) 1) (bound_row 22) l m (n, (a, (v, (c, tt))))) where
        pub counts_second_stops : (e : Stop) → StoppedRow toks (left (room + 1) 1) (bound_row 20) m e → Stopped toks (room + 1) statement at e
        counts_second_stops e x = stops_row 1 (bound_row 20) _ e (read_row 1 (bound_row 22) _ (read (read (at_symbol (over_word (begin refl (omega arith)) w refl) b) paren refl) int refl) first refl refl) x refl

        module _ {m' : ℕ} {n' : Id} {v' : Numeral} {a' c' : Pos} (second : ReadsRow toks (left (room + 1) 1) (bound_row 20) m m' (n', (a', (v', (c', tt))))) where
          pub counts_third_stops : (e : Stop) → StoppedRow toks (left (room + 1) 1) step_row m' e → Stopped toks (room + 1) statement at e
          counts_third_stops e x = stops_row 1 step_row _ e (read_row 1 (bound_row 20) _ (read_row 1 (bound_row 22) _ (read (read (at_symbol (over_word (begin refl (omega arith)) w refl) b) paren refl) int refl) first refl refl) second refl refl) x refl

          module _ {j : ℕ} {o : Id} {d f : Pos} (third : ReadsRow toks (left (room + 1) 1) step_row m' j (o, (d, (f, tt)))) where
            pub counted_stops : (e : Stop) → Stopped toks room branch j e → Stopped toks (room + 1) statement at e
            counted_stops e x = stops_last e (read_row 1 step_row _ (read_row 1 (bound_row 20) _ (read_row 1 (bound_row 22) _ (read (read (at_symbol (over_word (begin refl (omega arith)) w refl) b) paren refl) int refl) first refl refl) second refl refl) third refl refl) (inner_stopped toks room branch j e x) refl (λ e x h. h)

            pub counted_reads : {g : ℕ} {y : plain.Branch} → Reads toks room branch j g y → Reads toks (room + 1) statement at g (statement_of (extent toks at g) (plain.replicated n n' o v.value v'.value y))
            counted_reads x = read_last (read_row 1 step_row _ (read_row 1 (bound_row 20) _ (read_row 1 (bound_row 22) _ (read (read (at_symbol (over_word (begin refl (omega arith)) w refl) b) paren refl) int refl) first refl refl) second refl refl) third refl refl) (inner_reads room x) refl refl (λ e x h. h)
