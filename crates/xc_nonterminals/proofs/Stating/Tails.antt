-- The rows that statements end with.
use Rattle.std.proofs.Common.{ℕ, List, [], ◌∷◌, Option, refl}
use Rattle.xw_words.specs.declared.pos.Pos.{Pos}
use Rattle.xc_tree.specs.declared.token.Tok.{Tok}
use Rattle.xc_tree.specs.Plain as plain
use Rattle.xc_tree.specs.Symbol.{maybe, expr, dest, stamp}
use Rattle.xc_nonterminals.specs.declared.stop.Stop.{Stop}
use Rattle.xc_nonterminals.specs.Reading.{Reads}
use Rattle.xc_nonterminals.specs.RowReading.{ReadsRow, StoppedRow}
use Rattle.xc_nonterminals.specs.Stops.{Stopped}
use Rattle.xc_nonterminals.specs.Tails.{output_row, input_row, do_row}
use Rattle.xc_nonterminals.proofs.Reading.RowReads.{row_read, row_goes, row_stops, no_more_row}
use Rattle.xc_tree.specs.Terminals as terminal

module _ (toks : List Tok) (room i : ℕ) where
  -- an output from its sign on
  pub output_sign_stops : (e : Stop) → Stopped toks room terminal.sends i e → StoppedRow toks room output_row i e
  output_sign_stops e x = row_stops toks room i terminal.sends (expr ∷ maybe stamp ∷ terminal.semicolon ∷ []) e x refl

  module _ {j : ℕ} {p : Pos} (sign : Reads toks room terminal.sends i j p) where
    pub value_stops : (e : Stop) → Stopped toks room expr j e → StoppedRow toks room output_row i e
    value_stops e x = row_goes toks room i terminal.sends (expr ∷ maybe stamp ∷ terminal.semicolon ∷ []) e sign (row_stops toks room j expr (maybe stamp ∷ terminal.semicolon ∷ []) e x refl) refl

    module _ {k : ℕ} {v : plain.Expression} (x : Reads toks room expr j k v) where
      pub output_stamp_stops : (e : Stop) → Stopped toks room (maybe stamp) k e → StoppedRow toks room output_row i e
      output_stamp_stops e y =
          let b = row_stops toks room k (maybe stamp) (terminal.semicolon ∷ []) e y refl in
          row_goes toks room i terminal.sends (expr ∷ maybe stamp ∷ terminal.semicolon ∷ []) e sign (row_goes toks room j expr (maybe stamp ∷ terminal.semicolon ∷ []) e x b refl) refl

      module _ {l : ℕ} {t : Option plain.Timing} (stamped : Reads toks room (maybe stamp) k l t) where
        pub output_close_stops : (e : Stop) → Stopped toks room terminal.semicolon l e → StoppedRow toks room output_row i e
        output_close_stops e y =
            let b = row_goes toks room k (maybe stamp) (terminal.semicolon ∷ []) e stamped (row_stops toks room l terminal.semicolon [] e y refl) refl in
            row_goes toks room i terminal.sends (expr ∷ maybe stamp ∷ terminal.semicolon ∷ []) e sign (row_goes toks room j expr (maybe stamp ∷ terminal.semicolon ∷ []) e x b refl) refl

        pub output_row_read : {m : ℕ} {q : Pos} → Reads toks room terminal.semicolon l m q → ReadsRow toks room output_row i m (p, (v, (t, (q, tt))))
        output_row_read y = row_read sign (row_read x (row_read stamped (row_read y no_more_row refl) refl) refl) refl

  -- an input from its sign on
  pub input_sign_stops : (e : Stop) → Stopped toks room terminal.receives i e → StoppedRow toks room input_row i e
  input_sign_stops e x = row_stops toks room i terminal.receives (dest ∷ maybe stamp ∷ terminal.semicolon ∷ []) e x refl

  module _ {j : ℕ} {p : Pos} (sign : Reads toks room terminal.receives i j p) where
    pub target_stops : (e : Stop) → Stopped toks room dest j e → StoppedRow toks room input_row i e
    target_stops e x = row_goes toks room i terminal.receives (dest ∷ maybe stamp ∷ terminal.semicolon ∷ []) e sign (row_stops toks room j dest (maybe stamp ∷ terminal.semicolon ∷ []) e x refl) refl

    module _ {k : ℕ} {v : plain.Target} (x : Reads toks room dest j k v) where
      pub input_stamp_stops : (e : Stop) → Stopped toks room (maybe stamp) k e → StoppedRow toks room input_row i e
      input_stamp_stops e y =
          let b = row_stops toks room k (maybe stamp) (terminal.semicolon ∷ []) e y refl in
          row_goes toks room i terminal.receives (dest ∷ maybe stamp ∷ terminal.semicolon ∷ []) e sign (row_goes toks room j dest (maybe stamp ∷ terminal.semicolon ∷ []) e x b refl) refl

      module _ {l : ℕ} {t : Option plain.Timing} (stamped : Reads toks room (maybe stamp) k l t) where
        pub input_close_stops : (e : Stop) → Stopped toks room terminal.semicolon l e → StoppedRow toks room input_row i e
        input_close_stops e y =
            let b = row_goes toks room k (maybe stamp) (terminal.semicolon ∷ []) e stamped (row_stops toks room l terminal.semicolon [] e y refl) refl in
            row_goes toks room i terminal.receives (dest ∷ maybe stamp ∷ terminal.semicolon ∷ []) e sign (row_goes toks room j dest (maybe stamp ∷ terminal.semicolon ∷ []) e x b refl) refl

        pub input_row_read : {m : ℕ} {q : Pos} → Reads toks room terminal.semicolon l m q → ReadsRow toks room input_row i m (p, (v, (t, (q, tt))))
        input_row_read y = row_read sign (row_read x (row_read stamped (row_read y no_more_row refl) refl) refl) refl

  -- the end of a `do`
  pub do_word_stops : (e : Stop) → Stopped toks room terminal.while_word i e → StoppedRow toks room do_row i e
  do_word_stops e x = row_stops toks room i terminal.while_word (terminal.paren ∷ expr ∷ terminal.end_paren ∷ terminal.semicolon ∷ []) e x refl

  module _ {j : ℕ} {p : Pos} (word : Reads toks room terminal.while_word i j p) where
    do_goes : (e : Stop) → StoppedRow toks room (terminal.paren ∷ expr ∷ terminal.end_paren ∷ terminal.semicolon ∷ []) j e → StoppedRow toks room do_row i e
    do_goes e x = row_goes toks room i terminal.while_word (terminal.paren ∷ expr ∷ terminal.end_paren ∷ terminal.semicolon ∷ []) e word x refl

    pub do_open_stops : (e : Stop) → Stopped toks room terminal.paren j e → StoppedRow toks room do_row i e
    do_open_stops e x = do_goes e (row_stops toks room j terminal.paren (expr ∷ terminal.end_paren ∷ terminal.semicolon ∷ []) e x refl)

    module _ {k : ℕ} {q : Pos} (paren : Reads toks room terminal.paren j k q) where
      open_goes : (e : Stop) → StoppedRow toks room (expr ∷ terminal.end_paren ∷ terminal.semicolon ∷ []) k e → StoppedRow toks room do_row i e
      open_goes e x = do_goes e (row_goes toks room j terminal.paren (expr ∷ terminal.end_paren ∷ terminal.semicolon ∷ []) e paren x refl)

      pub do_test_stops : (e : Stop) → Stopped toks room expr k e → StoppedRow toks room do_row i e
      do_test_stops e x = open_goes e (row_stops toks room k expr (terminal.end_paren ∷ terminal.semicolon ∷ []) e x refl)

      module _ {l : ℕ} {c : plain.Expression} (test : Reads toks room expr k l c) where
        pub do_close_stops : (e : Stop) → Stopped toks room terminal.end_paren l e → StoppedRow toks room do_row i e
        do_close_stops e x = open_goes e (row_goes toks room k expr (terminal.end_paren ∷ terminal.semicolon ∷ []) e test (row_stops toks room l terminal.end_paren (terminal.semicolon ∷ []) e x refl) refl)

        module _ {m : ℕ} {r : Pos} (close : Reads toks room terminal.end_paren l m r) where
          pub do_end_stops : (e : Stop) → Stopped toks room terminal.semicolon m e → StoppedRow toks room do_row i e
          do_end_stops e x =
              let b = row_goes toks room l terminal.end_paren (terminal.semicolon ∷ []) e close (row_stops toks room m terminal.semicolon [] e x refl) refl in
              open_goes e (row_goes toks room k expr (terminal.end_paren ∷ terminal.semicolon ∷ []) e test b refl)

          pub do_row_read : {n : ℕ} {t : Pos} → Reads toks room terminal.semicolon m n t → ReadsRow toks room do_row i n (p, (q, (c, (r, (t, tt)))))
          do_row_read x = row_read word (row_read paren (row_read test (row_read close (row_read x no_more_row refl) refl) refl) refl) refl
