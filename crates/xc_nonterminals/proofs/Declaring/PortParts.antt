-- The row of a port behind its place.
use Rattle.std.proofs.Common.{ℕ, List, [], ◌∷◌, refl}
use Rattle.xw_words.specs.declared.pos.Pos.{Pos}
use Rattle.xc_tree.specs.declared.token.Tok.{Tok}
use Rattle.xc_tree.specs.declared.tree.Id.{Id}
use Rattle.xc_tree.specs.Symbol.{a_name, dir, Value}
use Rattle.xc_nonterminals.specs.declared.stop.Stop.{Stop}
use Rattle.xc_nonterminals.specs.PortParts.{port_row}
use Rattle.xc_nonterminals.specs.Reading.{Reads}
use Rattle.xc_nonterminals.specs.RowReading.{ReadsRow, StoppedRow}
use Rattle.xc_nonterminals.specs.Stops.{Stopped}
use Rattle.xc_nonterminals.proofs.Reading.RowReads.{row_read, row_goes, row_stops, no_more_row}
use Rattle.xc_tree.specs.Terminals as terminal

module _ (toks : List Tok) (room i : ℕ) where
  pub port_dir_stops : (e : Stop) → Stopped toks room dir i e → StoppedRow toks room port_row i e
  port_dir_stops e x = row_stops toks room i dir (a_name ∷ terminal.equals ∷ a_name ∷ terminal.semicolon ∷ []) e x refl

  module _ {j : ℕ} {d : Value dir} (way : Reads toks room dir i j d) where
    port_goes : (e : Stop) → StoppedRow toks room (a_name ∷ terminal.equals ∷ a_name ∷ terminal.semicolon ∷ []) j e → StoppedRow toks room port_row i e
    port_goes e x = row_goes toks room i dir (a_name ∷ terminal.equals ∷ a_name ∷ terminal.semicolon ∷ []) e way x refl

    pub port_name_stops : (e : Stop) → Stopped toks room a_name j e → StoppedRow toks room port_row i e
    port_name_stops e x = port_goes e (row_stops toks room j a_name (terminal.equals ∷ a_name ∷ terminal.semicolon ∷ []) e x refl)

    module _ {k : ℕ} {n : Id} (name : Reads toks room a_name j k n) where
      name_goes : (e : Stop) → StoppedRow toks room (terminal.equals ∷ a_name ∷ terminal.semicolon ∷ []) k e → StoppedRow toks room port_row i e
      name_goes e x = port_goes e (row_goes toks room j a_name (terminal.equals ∷ a_name ∷ terminal.semicolon ∷ []) e name x refl)

      pub port_equals_stops : (e : Stop) → Stopped toks room terminal.equals k e → StoppedRow toks room port_row i e
      port_equals_stops e x = name_goes e (row_stops toks room k terminal.equals (a_name ∷ terminal.semicolon ∷ []) e x refl)

      module _ {l : ℕ} {p : Pos} (equals : Reads toks room terminal.equals k l p) where
        equals_goes : (e : Stop) → StoppedRow toks room (a_name ∷ terminal.semicolon ∷ []) l e → StoppedRow toks room port_row i e
        equals_goes e x = name_goes e (row_goes toks room k terminal.equals (a_name ∷ terminal.semicolon ∷ []) e equals x refl)

        pub port_ident_stops : (e : Stop) → Stopped toks room a_name l e → StoppedRow toks room port_row i e
        port_ident_stops e x = equals_goes e (row_stops toks room l a_name (terminal.semicolon ∷ []) e x refl)

        module _ {m : ℕ} {o : Id} (ident : Reads toks room a_name l m o) where
          pub port_end_stops : (e : Stop) → Stopped toks room terminal.semicolon m e → StoppedRow toks room port_row i e
          port_end_stops e x = equals_goes e (row_goes toks room l a_name (terminal.semicolon ∷ []) e ident (row_stops toks room m terminal.semicolon [] e x refl) refl)

          pub port_read : {h : ℕ} {q : Pos} → Reads toks room terminal.semicolon m h q → ReadsRow toks room port_row i h (d, (n, (p, (o, (q, tt)))))
          port_read x = row_read way (row_read name (row_read equals (row_read ident (row_read x no_more_row refl) refl) refl) refl) refl
