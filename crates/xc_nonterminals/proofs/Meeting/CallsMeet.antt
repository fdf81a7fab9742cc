-- A right side that is a call is no expression: its name is one, and goes on with a bracket.
use Rattle.std.proofs.Common.{◌≡◌, ℕ, ◌+◌, inl, inr, true, false, List, [], ◌∷◌, refl, sym as sym', subst, ◌∙◌}
use Rattle.xc_tree.specs.declared.token.Tok.{Tok}
use Rattle.xc_tree.specs.declared.token.Kind.TheVariants.{Sym}
use Rattle.xc_tree.specs.Plain as plain
use Rattle.xc_tree.specs.Symbol.{a_name, expr, rhs, call}
use Rattle.xc_tree.specs.Grammar.{Rule, rules, gives}
use Rattle.xc_tree.specs.Derives.{On, unlimited}
use Rattle.xc_nonterminals.specs.Follows.{OneOf, after_expression}
use Rattle.xc_nonterminals.proofs.Derivations.TokenSets.{front, one_is}
use Rattle.xc_nonterminals.proofs.Rests.Behinds.{token_derived}
use Rattle.xc_nonterminals.proofs.Rests.Alternatives.{by_rules}
use Rattle.xc_nonterminals.proofs.Derivations.Lists.{unrow}
use Rattle.xc_nonterminals.proofs.Meeting.NamesEnd.{name_ends}
use Rattle.xc_nonterminals.proofs.Derivations.Statures.{By, Tree, derived}
use Rattle.xc_nonterminals.proofs.Meeting.Meetings.{AllMeet, Meets, Differ, each_meets, rules_meet}
use Rattle.xc_tree.specs.Terminals as terminal

abbrev by_expression : Rule plain.RightSide
by_expression = gives (expr ∷ []) (λ (e, u). plain.value e)

abbrev by_call : Rule plain.RightSide
by_call = gives (call ∷ []) (λ (c, u). plain.result c)

module _ (toks : List Tok) (n : ℕ) where
  call_differs : Differ toks n rhs by_expression by_call
  call_differs i j k v w (vs, (m, d, h), f, e) (ws, (l, c, g'), f', e') = elim (by_rules toks unlimited call i l ws.0 refl (derived toks n call i l ws.0 c)) [
    | inl y ↦
        let r = unrow y.2 in
        let b = unrow r.2 in
        let name = token_derived {t = a_name} refl r.1 in
        let paren = token_derived {t = terminal.paren} refl b.1 in
        let at = subst (λ z. On toks z (Sym 0) y.0.1.0) name.0 paren.1 in
        let shut : OneOf toks (i + 1) after_expression → ⊥ = (λ o. let g : false ≡ true = one_is terminal.paren (y.0.1.0, at) o in absurd (cc)) in
        let end : j ≡ i + 1 = h ∙ name_ends toks i name.1 shut m vs.0 (derived toks n expr i m vs.0 d) in
        inl (front rhs v (record { token = terminal.paren; stands = (y.0.1.0, subst (λ z. On toks z (Sym 0) y.0.1.0) (sym' end) at); among = refl }))
    | inr z ↦ absurd z
  ]

  pub rhs_meets : AllMeet toks n → (i j k : ℕ) (v w : plain.RightSide) → By toks (Tree toks n) (rules rhs) i j v → By toks (Tree toks n) (rules rhs) i k w → Meets toks rhs j v k w
  rhs_meets meet i j k v w x y = rules_meet toks n rhs i j k v w (rules rhs) (each_meets toks n meet rhs (rules rhs) refl) ((call_differs, tt), (tt, tt)) x y
