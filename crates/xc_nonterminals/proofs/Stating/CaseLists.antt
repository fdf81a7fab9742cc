-- Paths through a `select`: its cases, of which there is one at least.
use Rattle.std.proofs.Common.{◌≡◌, ℕ, ◌+◌, true, List, [], ◌∷◌, ◌++◌, refl, sym as sym', ap, subst, arith}
use Rattle.xw_words.specs.declared.pos.Pos.{Pos}
use Rattle.xc_tree.specs.declared.token.Tok.{Tok}
use Rattle.xc_tree.specs.declared.token.Kind.TheVariants.{Key, Sym}
use Rattle.xc_tree.specs.Plain as plain
use Rattle.xc_tree.specs.Symbol.{case, statement}
use Rattle.xc_tree.specs.Grammar.{statement_of}
use Rattle.xc_tree.specs.Derives.{On, extent}
use Rattle.xc_nonterminals.specs.declared.stop.Stop.{Stop}
use Rattle.xc_nonterminals.specs.Follows.{OneOf, first}
use Rattle.xc_nonterminals.specs.Reading.{Reads}
use Rattle.xc_nonterminals.specs.Stops.{Stopped}
use Rattle.xc_nonterminals.proofs.Derivations.TokenSets.{one_disjoint, one_token_of}
use Rattle.xc_nonterminals.proofs.Derivations.Single.{one_symbol}
use Rattle.xc_nonterminals.proofs.Reading.Paths.{Roomy, begin, over_word, over_symbol, read, stops, finish}
use Rattle.xc_nonterminals.proofs.Reading.Loops.{Run, having, one_more, one_stops, no_more}
use Rattle.xc_nonterminals.proofs.Reading.Insides.{inner_reads, inner_stopped}
use Rattle.xc_tree.specs.Terminals as terminal

-- the cases behind the first one
abbrev cases_behind : plain.Case → Run plain.Statement
cases_behind c = record { need = 1; above = 1; symbol = case; parts = record { above = 1; symbol = terminal.end_brace } ∷ []; fits = λ x. true; make = λ e x. statement_of e (plain.select (plain.more_cases c (plain.cases x.0))) }

-- these cases were read
pub record Cases (toks : List Tok) (room at k : ℕ) (cs : List plain.Case) : Type 0 where
  pub head : plain.Case
  pub others : List plain.Case
  pub roomy : Roomy toks (room + 1) statement at k (having (cases_behind head) others ∷ [])
  pub are : cs ≡ head ∷ others

module _ {toks : List Tok} {at : ℕ} (room : ℕ) {p : Pos} (on : On toks at (Key 20) p) where
  pub select_unopened : (e : Stop) → Stopped toks room terminal.brace (at + 1) e → Stopped toks (room + 1) statement at e
  select_unopened e x = stops e (over_word (begin refl (omega arith)) on refl) (inner_stopped toks room terminal.brace (at + 1) e x) refl

  module _ {k : ℕ} {q : Pos} (brace : Reads toks room terminal.brace (at + 1) k q) where
    pub case_missing : (e : Stop) → Stopped toks room case k e → Stopped toks (room + 1) statement at e
    case_missing e x = stops e (read (over_word (begin refl (omega arith)) on refl) (inner_reads room brace) refl) (inner_stopped toks room case k e x) refl

    pub first_case : {j : ℕ} {c : plain.Case} {cs : List plain.Case} → Reads toks room case k j c → cs ≡ c ∷ [] → Cases toks room at j cs
    first_case {c} x e = record {
      head = c;
      others = [];
      roomy = read (read (over_word (begin refl (omega arith)) on refl) (inner_reads room brace) refl) (inner_reads room x) refl;
      are = e;
    }

module _ {toks : List Tok} {room at k : ℕ} {cs : List plain.Case} (h : Cases toks room at k cs) where
  pub case_added : {j : ℕ} {v : plain.Case} → Reads toks room case k j v → Cases toks room at j (cs ++ (v ∷ []))
  case_added {v} r = record {
    head = h.head;
    others = h.others ++ (v ∷ []);
    roomy = one_more (cases_behind h.head) h.others h.roomy (inner_reads room r) refl;
    are = ap (λ l. l ++ (v ∷ [])) h.are;
  }

  pub case_stops : (e : Stop) → ((q : Pos) → On toks k (Sym 3) q → ⊥) → Stopped toks room case k e → Stopped toks (room + 1) statement at e
  case_stops e none s = one_stops (cases_behind h.head) h.others e h.roomy (inner_stopped toks room case k e s) (λ o. let y = one_token o in none y.0 y.1) refl refl
    where
      one_token : OneOf toks k (terminal.end_brace ∷ []) → (q : Pos) × On toks k (Sym 3) q
      one_token o = one_token_of terminal.end_brace o

  pub select_closed : {q : Pos} → On toks k (Sym 3) q → Reads toks (room + 1) statement at (k + 1) (statement_of (extent toks at (k + 1)) (plain.select (plain.cases cs)))
  select_closed on =
      let r = finish (over_symbol (no_more (cases_behind h.head) h.others h.roomy (one_disjoint (first case) refl (one_symbol (terminal.end_brace ∷ []) on refl)) refl) on refl) refl in
      subst (λ (l : List plain.Case). Reads toks (room + 1) statement at (k + 1) (statement_of (extent toks at (k + 1)) (plain.select (plain.cases l)))) (sym' h.are) r
