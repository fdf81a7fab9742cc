-- A name behind which stands nothing that an expression goes on with is a whole expression.
use Rattle.std.proofs.Common.{◌≡◌, ℕ, zero, suc, ◌+◌, ◌≤◌, inl, inr, true, List, refl, subst, ◌∙◌, arith}
use Rattle.xw_words.specs.declared.pos.Pos.{Pos}
use Rattle.xc_tree.specs.declared.token.Tok.{Tok}
use Rattle.xc_tree.specs.declared.token.Kind.TheVariants.{Name, Sym}
use Rattle.xc_tree.specs.Plain as plain
use Rattle.xc_tree.specs.Symbol.{sym, a_name, expr, level, atom}
use Rattle.xc_tree.specs.Grammar.{rules}
use Rattle.xc_tree.specs.Derives.{On, unlimited, Derives}
use Rattle.xc_nonterminals.specs.Follows.{OneOf, has, after_expression}
use Rattle.xc_nonterminals.specs.Reading.{GoesOn}
use Rattle.xc_nonterminals.proofs.Derivations.TokenSets.{one_within}
use Rattle.xc_nonterminals.proofs.Rests.Behinds.{token_derived}
use Rattle.xc_nonterminals.proofs.Rests.Alternatives.{by_rules}
use Rattle.xc_nonterminals.proofs.Derivations.Lists.{unrow, unend}
use Rattle.xc_nonterminals.proofs.Valued.Levels.{More, stop, go, split}
use Rattle.xc_nonterminals.proofs.Valued.Operators.{operator_is, operator_goes_on}
use Rattle.xc_nonterminals.proofs.Meeting.Openers.{by_opened}
use Rattle.xc_tree.specs.Terminals as terminal

module _ (toks : List Tok) (i : ℕ) {x : List ℕ} {p : Pos} (name : On toks i (Name x) p) (shut : OneOf toks (i + 1) after_expression → ⊥) where
  closed_at : (k : ℕ) → k ≡ i + 1 → OneOf toks k after_expression → ⊥
  closed_at k e o = shut (subst (λ y. OneOf toks y after_expression) e o)

  no_symbol : (k o : ℕ) {q : Pos} → k ≡ i + 1 → On toks k (Sym o) q → has after_expression (sym o) ≡ true → ⊥
  no_symbol k o {q} e on h = closed_at k e (record { token = sym o; stands = (q, on); among = h })

  atom_ends : (j : ℕ) (v : plain.Expression) → Derives toks unlimited atom i j v → j ≡ i + 1
  atom_ends j v d = elim (by_opened toks unlimited i a_name (x, p, name) (rules atom) j v (by_rules toks unlimited atom i j v refl d)) [
    | inl y ↦ let r = unrow y.2 in unend r.2 ∙ (token_derived {t = a_name} refl r.1).0
    | inr (inl y) ↦
        let r = unrow y.2 in
        let b = unrow r.2 in
        absurd (no_symbol r.0 4 (token_derived {t = a_name} refl r.1).0 (token_derived {t = terminal.bracket} refl b.1).1 refl)
    | inr (inr z) ↦ absurd z
  ]

  more_ends : (m k j : ℕ) (b v : plain.Expression) → m ≤ 9 → More toks m k b j v → k ≡ i + 1 → j ≡ i + 1
  more_ends m k j b v h stop e = e
  more_ends m k j b v h (go d r g) e =
      let o : GoesOn toks (level 10) k = operator_goes_on toks 10 {l = m} (omega arith) (operator_is toks d).1 in
      absurd (closed_at k e (one_within after_expression refl o))

  level_ends : (m j : ℕ) (v : plain.Expression) → m ≤ 10 → Derives toks unlimited (level m) i j v → j ≡ i + 1
  level_ends zero j v h d = elim (by_opened toks unlimited i a_name (x, p, name) (rules (level zero)) j v (by_rules toks unlimited (level zero) i j v refl d)) [
    | inl y ↦ let r = unrow y.2 in unend r.2 ∙ atom_ends r.0 y.0.0 r.1
    | inr z ↦ absurd z
  ]
  level_ends (suc m) j v h d = let y = split toks m i j v d in more_ends m y.0 j y.1 v (omega arith) y.3 (level_ends m y.0 y.1 (omega arith) y.2)

  pub name_ends : (j : ℕ) (v : plain.Expression) → Derives toks unlimited expr i j v → j ≡ i + 1
  name_ends j v d = elim (by_rules toks unlimited expr i j v refl d) [
    | inl y ↦ let r = unrow y.2 in unend r.2 ∙ level_ends 10 r.0 y.0.0 (omega arith) r.1
    | inr (inl y) ↦
        let r = unrow y.2 in
        let b = unrow r.2 in
        absurd (no_symbol r.0 9 (level_ends 10 r.0 y.0.0 (omega arith) r.1) (token_derived {t = terminal.question} refl b.1).1 refl)
    | inr (inr z) ↦ absurd z
  ]
