-- The path through an `if`.
use Rattle.std.proofs.Common.{ℕ, ◌+◌, List, refl, arith}
use Rattle.xw_words.specs.declared.pos.Pos.{Pos}
use Rattle.xc_tree.specs.declared.token.Tok.{Tok}
use Rattle.xc_tree.specs.declared.token.Kind.TheVariants.{Key, Sym}
use Rattle.xc_tree.specs.Plain as plain
use Rattle.xc_tree.specs.Symbol.{expr, statement}
use Rattle.xc_tree.specs.Grammar.{statement_of}
use Rattle.xc_tree.specs.Derives.{On, extent}
use Rattle.xc_nonterminals.specs.declared.stop.Stop.{Stop}
use Rattle.xc_nonterminals.specs.Reading.{Reads}
use Rattle.xc_nonterminals.specs.Stops.{Stopped}
use Rattle.xc_nonterminals.proofs.Rests.Rests.{Rest, left}
use Rattle.xc_nonterminals.proofs.Rests.Opening.{fronts, beginnings, over, Heads, no_head, one_head, popped}
use Rattle.xc_nonterminals.proofs.Reading.Paths.{Roomy, begin, over_symbol, over_word, read_all, stops_all}
use Rattle.xc_nonterminals.proofs.Reading.Lasts.{read_last, stops_last, if_ends, if_goes_on, if_stops}
use Rattle.xc_nonterminals.proofs.Stating.Elses.{read_shut}
use Rattle.xc_nonterminals.proofs.Reading.Insides.{inner_reads, inner_stopped}
use Rattle.xc_tree.specs.Terminals as terminal

-- what is open behind the word, the bracket, the condition and its bracket
abbrev behind_word : Pos → List (Rest plain.Statement)
behind_word p = over (fronts statement) terminal.if_word p (beginnings statement)

abbrev paren_heads : (p : Pos) → Heads terminal.paren 1 (behind_word p)
paren_heads p = one_head (one_head no_head)

abbrev behind_paren : Pos → Pos → List (Rest plain.Statement)
behind_paren p q = over (fronts statement) terminal.paren q (behind_word p)

abbrev test_heads : (p q : Pos) → Heads expr 1 (behind_paren p q)
test_heads p q = one_head (one_head no_head)

abbrev behind_test : Pos → Pos → plain.Expression → List (Rest plain.Statement)
behind_test p q c = popped (test_heads p q) c

abbrev close_heads : (p q : Pos) (c : plain.Expression) → Heads terminal.end_paren 1 (behind_test p q c)
close_heads p q c = one_head (one_head no_head)

abbrev behind_close : Pos → Pos → plain.Expression → Pos → List (Rest plain.Statement)
behind_close p q c r = over (fronts statement) terminal.end_paren r (behind_test p q c)

module _ {toks : List Tok} (room : ℕ) {at : ℕ} {p : Pos} (w : On toks at (Key 9) p) where
  at_word : Roomy toks (room + 1) statement at (at + 1) (behind_word p)
  at_word = over_word (begin refl (omega arith)) w refl

  pub open_stops : (e : Stop) → Stopped toks (left (room + 1) 1) terminal.paren (at + 1) e → Stopped toks (room + 1) statement at e
  open_stops e s = stops_all (paren_heads p) e at_word s refl

  module _ {q : Pos} (o : On toks (at + 1) (Sym 0) q) where
    at_paren : Roomy toks (room + 1) statement at (at + 1 + 1) (behind_paren p q)
    at_paren = over_symbol at_word o refl

    pub test_stops : (e : Stop) → Stopped toks room expr (at + 1 + 1) e → Stopped toks (room + 1) statement at e
    test_stops e s = stops_all (test_heads p q) e at_paren (inner_stopped toks room expr (at + 1 + 1) e s) refl

    module _ {m : ℕ} {c : plain.Expression} (t : Reads toks room expr (at + 1 + 1) m c) where
      at_test : Roomy toks (room + 1) statement at m (behind_test p q c)
      at_test = read_all (test_heads p q) at_paren (inner_reads room t) refl

      pub close_stops : (e : Stop) → Stopped toks (left (room + 1) 1) terminal.end_paren m e → Stopped toks (room + 1) statement at e
      close_stops e s = stops_all (close_heads p q c) e at_test s refl

      module _ {r : Pos} (l : On toks m (Sym 1) r) where
        at_close : Roomy toks (room + 1) statement at (m + 1) (behind_close p q c r)
        at_close = over_symbol at_test l refl

        pub then_stops : (e : Stop) → Stopped toks room statement (m + 1) e → Stopped toks (room + 1) statement at e
        then_stops e s = if_stops at_close e (inner_stopped toks room statement (m + 1) e s) (λ e x. refl)

        module _ {j : ℕ} {v : plain.Statement} (s : Reads toks room statement (m + 1) j v) where
          pub then_reads : ((u : Pos) → On toks j (Key 7) u → ⊥) → Reads toks (room + 1) statement at j (statement_of (extent toks at j) (plain.if_then c v plain.absent))
          then_reads none = if_ends at_close (inner_reads room s) (λ x. refl) (λ e x. refl) none

          module _ {u : Pos} (els : On toks j (Key 7) u) where
            pub else_stops : (e : Stop) → Stopped toks room statement (j + 1) e → Stopped toks (room + 1) statement at e
            else_stops e z = stops_last e (if_goes_on at_close (inner_reads room s) (λ x. refl) (λ e x. refl) els (read_shut s els)) (inner_stopped toks room statement (j + 1) e z) refl (λ e x h. h)

            pub else_reads : {k : ℕ} {y : plain.Statement} → Reads toks room statement (j + 1) k y → Reads toks (room + 1) statement at k (statement_of (extent toks at k) (plain.if_then c v (plain.present y)))
            else_reads z = read_last (if_goes_on at_close (inner_reads room s) (λ x. refl) (λ e x. refl) els (read_shut s els)) (inner_reads room z) refl refl (λ e x h. h)
