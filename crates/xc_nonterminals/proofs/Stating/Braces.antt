-- Paths through blocks, what stands in them, and transactions.
use Rattle.std.proofs.Common.{ℕ, ◌+◌, Bool, true, false, if◌then◌else◌, List, [], ◌∷◌, ◌++◌, refl, arith}
use Rattle.xw_words.specs.declared.pos.Pos.{Pos}
use Rattle.xc_tree.specs.declared.token.Tok.{Tok}
use Rattle.xc_tree.specs.declared.token.Kind.TheVariants.{Key, Sym}
use Rattle.xc_tree.specs.Plain as plain
use Rattle.xc_tree.specs.Symbol.{block, block_item, decl, statement}
use Rattle.xc_tree.specs.Grammar.{statement_of}
use Rattle.xc_tree.specs.Derives.{On, extent}
use Rattle.xc_nonterminals.specs.declared.stop.Stop.{Stop}
use Rattle.xc_nonterminals.specs.Follows.{OneOf, StandsAt, first, begins_declaration, begins_statement}
use Rattle.xc_nonterminals.specs.Reading.{Reads}
use Rattle.xc_nonterminals.specs.Stops.{Stopped}
use Rattle.xc_nonterminals.proofs.Derivations.TokenSets.{one_disjoint}
use Rattle.xc_nonterminals.proofs.Reading.Paths.{Roomy, begin, over_symbol, over_word, lacks, read, stops, finish}
use Rattle.xc_nonterminals.proofs.Reading.Loops.{Run, having, one_more, one_stops, no_more}
use Rattle.xc_nonterminals.proofs.Reading.Lasts.{read_last, stops_last}
use Rattle.xc_nonterminals.proofs.Stating.Simples.{each_of}
use Rattle.xc_nonterminals.proofs.Reading.Insides.{inner_reads, inner_stopped}
use Rattle.xc_tree.specs.Terminals as terminal

module _ (toks : List Tok) (room at : ℕ) where
  -- a declaration, and a statement, as an item of a block
  pub declared_item : {j : ℕ} {v : plain.Statement} → OneOf toks at begins_declaration → Reads toks room decl at j v → Reads toks room block_item at j v
  declared_item o r = finish (read (lacks begins_statement (begin refl tt) (one_disjoint begins_statement refl o)) r refl) refl

  pub declared_stops : (e : Stop) → OneOf toks at begins_declaration → Stopped toks room decl at e → Stopped toks room block_item at e
  declared_stops e o s = stops e (lacks begins_statement (begin refl tt) (one_disjoint begins_statement refl o)) s refl

  pub stated_item : {j : ℕ} {v : plain.Statement} → (OneOf toks at begins_declaration → ⊥) → Reads toks room statement at j v → Reads toks room block_item at j v
  stated_item none r = read_last (lacks begins_declaration (begin refl tt) none) r refl refl (λ e x h. h)

  pub stated_stops : (e : Stop) → (OneOf toks at begins_declaration → ⊥) → Stopped toks room statement at e → Stopped toks room block_item at e
  stated_stops e none s = stops_last e (lacks begins_declaration (begin refl tt) none) s refl (λ e x h. h)

-- a block with these items so far
abbrev items_of_block : Run (List plain.Statement)
items_of_block = record { need = 0; above = 0; symbol = block_item; parts = record { above = 0; symbol = terminal.end_brace } ∷ []; fits = λ x. true; make = λ e x. x.0 }

pub record Holds (toks : List Tok) (room at k : ℕ) (items : List plain.Statement) : Type 0 where
  pub roomy : Roomy toks room block at k (having items_of_block items ∷ [])

module _ {toks : List Tok} {room at : ℕ} where
  pub opened : {p : Pos} → On toks at (Sym 2) p → Holds toks room at (at + 1) []
  opened on = record { roomy = over_symbol (begin refl tt) on refl }

  module _ {k : ℕ} {items : List plain.Statement} (h : Holds toks room at k items) where
    pub item_added : {j : ℕ} {v : plain.Statement} → Reads toks room block_item k j v → Holds toks room at j (items ++ (v ∷ []))
    item_added r = record { roomy = one_more items_of_block items h.roomy r refl }

    pub item_stops : (e : Stop) → ((p : Pos) → On toks k (Sym 3) p → ⊥) → Stopped toks room block_item k e → Stopped toks room block at e
    item_stops e none s = one_stops items_of_block items e h.roomy s (λ o. each_of (terminal.end_brace ∷ []) (λ t. StandsAt toks k t → ⊥) ((λ x. none x.0 x.1), tt) o.token o.among o.stands) refl refl

    pub closed_block : {p : Pos} → On toks k (Sym 3) p → Reads toks room block at (k + 1) items
    closed_block {p} on =
        let o : OneOf toks k (terminal.end_brace ∷ []) = record { token = terminal.end_brace; stands = (p, on); among = refl } in
        finish (over_symbol (no_more items_of_block items h.roomy (one_disjoint (first block_item) refl o) refl) on refl) refl

-- no brace stands there
pub brace_missing : (toks : List Tok) (room at : ℕ) (e : Stop) → Stopped toks room terminal.brace at e → Stopped toks room block at e
brace_missing toks room at e s = stops e (begin refl tt) s refl

-- transactions
module _ (toks : List Tok) (room at : ℕ) where
  pub transaction_reads : (is_master : Bool) {p : Pos} {j : ℕ} {ss : List plain.Statement} → On toks at (Key (if is_master then 12 else 21)) p → Reads toks room block (at + 1) j ss → Reads toks (room + 1) statement at j (statement_of (extent toks at j) (plain.transaction is_master (plain.statements ss)))
  transaction_reads true on r = finish (read (over_word (begin refl (omega arith)) on refl) (inner_reads room r) refl) refl
  transaction_reads false on r = finish (read (over_word (begin refl (omega arith)) on refl) (inner_reads room r) refl) refl

  pub transaction_stops : (is_master : Bool) {p : Pos} (e : Stop) → On toks at (Key (if is_master then 12 else 21)) p → Stopped toks room block (at + 1) e → Stopped toks (room + 1) statement at e
  transaction_stops true e on s = stops e (over_word (begin refl (omega arith)) on refl) (inner_stopped toks room block (at + 1) e s) refl
  transaction_stops false e on s = stops e (over_word (begin refl (omega arith)) on refl) (inner_stopped toks room block (at + 1) e s) refl
