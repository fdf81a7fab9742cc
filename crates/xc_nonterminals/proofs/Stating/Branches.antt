-- Paths through a `par`: its branches, and a replicated one.
use Rattle.std.proofs.Common.{ℕ, ◌+◌, true, List, [], ◌∷◌, ◌++◌, Option, refl, arith}
use Rattle.xw_words.specs.declared.pos.Pos.{Pos}
use Rattle.xc_tree.specs.declared.token.Tok.{Tok}
use Rattle.xc_tree.specs.declared.token.Kind.TheVariants.{Key, Sym}
use Rattle.xc_tree.specs.Plain as plain
use Rattle.xc_tree.specs.Symbol.{maybe, place, branch, statement}
use Rattle.xc_tree.specs.Grammar.{statement_of}
use Rattle.xc_tree.specs.Derives.{On, extent}
use Rattle.xc_nonterminals.specs.declared.stop.Stop.{Stop}
use Rattle.xc_nonterminals.specs.Follows.{OneOf, first}
use Rattle.xc_nonterminals.specs.Reading.{Reads}
use Rattle.xc_nonterminals.specs.Stops.{Stopped}
use Rattle.xc_nonterminals.proofs.Derivations.TokenSets.{one_disjoint, one_token_of}
use Rattle.xc_nonterminals.proofs.Derivations.Single.{one_symbol}
use Rattle.xc_nonterminals.proofs.Reading.Paths.{Roomy, begin, over_word, over_symbol, lacks_symbol, read, stops, finish}
use Rattle.xc_nonterminals.proofs.Reading.Loops.{Run, having, one_more, one_stops, no_more}
use Rattle.xc_nonterminals.proofs.Reading.Lasts.{read_last, stops_last}
use Rattle.xc_nonterminals.proofs.Reading.Insides.{inner_reads, inner_stopped}
use Rattle.xc_tree.specs.Terminals as terminal

-- a branch: its place was read, and its statement
pub place_stops : (toks : List Tok) (room at : ℕ) (e : Stop) → Stopped toks room (maybe place) at e → Stopped toks room branch at e
place_stops toks room at e x = stops e (begin refl tt) x refl

module _ {toks : List Tok} {room at : ℕ} where
  module _ {k : ℕ} {p : Option plain.Place} (x : Reads toks room (maybe place) at k p) where
    pub body_stops : (e : Stop) → Stopped toks room statement k e → Stopped toks room branch at e
    body_stops e y = stops_last e (read (begin refl tt) x refl) y refl (λ e x h. h)

    pub branch_reads : {j : ℕ} {v : plain.Statement} → Reads toks room statement k j v → Reads toks room branch at j (plain.branch p v)
    branch_reads y = read_last (read (begin refl tt) x refl) y refl refl (λ e x h. h)

-- the branches between braces
abbrev branches_of_par : Run plain.Statement
branches_of_par = record { need = 1; above = 1; symbol = branch; parts = record { above = 1; symbol = terminal.end_brace } ∷ []; fits = λ x. true; make = λ e x. statement_of e (plain.par (plain.branches x.0)) }

-- so many branches were read
pub record Runs (toks : List Tok) (room at k : ℕ) (bs : List plain.Branch) : Type 0 where
  pub roomy : Roomy toks (room + 1) statement at k (having branches_of_par bs ∷ [])

module _ {toks : List Tok} {at : ℕ} (room : ℕ) {p : Pos} (on : On toks at (Key 15) p) where
  pub par_unopened : (e : Stop) → ((q : Pos) → On toks (at + 1) (Sym 0) q → ⊥) → Stopped toks room terminal.brace (at + 1) e → Stopped toks (room + 1) statement at e
  par_unopened e none x = stops e (lacks_symbol 0 (over_word (begin refl (omega arith)) on refl) none) (inner_stopped toks room terminal.brace (at + 1) e x) refl

  pub par_opened : {k : ℕ} {q : Pos} → ((q : Pos) → On toks (at + 1) (Sym 0) q → ⊥) → Reads toks room terminal.brace (at + 1) k q → Runs toks room at k []
  par_opened none x = record { roomy = read (lacks_symbol 0 (over_word (begin refl (omega arith)) on refl) none) (inner_reads room x) refl }

module _ {toks : List Tok} {room at k : ℕ} {bs : List plain.Branch} (h : Runs toks room at k bs) where
  pub branch_added : {j : ℕ} {v : plain.Branch} → Reads toks room branch k j v → Runs toks room at j (bs ++ (v ∷ []))
  branch_added r = record { roomy = one_more branches_of_par bs h.roomy (inner_reads room r) refl }

  pub branch_stops : (e : Stop) → ((q : Pos) → On toks k (Sym 3) q → ⊥) → Stopped toks room branch k e → Stopped toks (room + 1) statement at e
  branch_stops e none s = one_stops branches_of_par bs e h.roomy (inner_stopped toks room branch k e s) (λ o. let y = one_token o in none y.0 y.1) refl refl
    where
      one_token : OneOf toks k (terminal.end_brace ∷ []) → (q : Pos) × On toks k (Sym 3) q
      one_token o = one_token_of terminal.end_brace o

  pub par_closed : {q : Pos} → On toks k (Sym 3) q → Reads toks (room + 1) statement at (k + 1) (statement_of (extent toks at (k + 1)) (plain.par (plain.branches bs)))
  par_closed on = finish (over_symbol (no_more branches_of_par bs h.roomy (one_disjoint (first branch) refl (one_symbol (terminal.end_brace ∷ []) on refl)) refl) on refl) refl
