-- A text has at most one answer.
use Rattle.std.proofs.Common.{◌≡◌, ◌⊎◌, ℕ, List, ap, inl, inr, subst, arith}
use Rattle.xw_words.specs.declared.pos.Broken.{Broken}
use Rattle.xw_words.specs.declared.pos.Pos.{Pos}
use Rattle.xc_lexer.proofs.Rows.{tokens_one}
use Rattle.xc_tree.specs.declared.token.Tok.{Tok}
use Rattle.xc_tree.specs.Plain.{Item}
use Rattle.xc_tree.specs.Derives.{IsProgram}
use Rattle.xc_tree.specs.Lexes.{IsBefore, IsNotAfter}
use Rattle.xr_front.specs.Rules.{First, IsAccepted, IsEarlier, rank}

not_both : (p q : Pos) → IsBefore p q → IsBefore q p → ⊥
not_both p q (inl h) (inl k) = absurd (omega (arith, h, k))
not_both p q (inl h) (inr k) = let e = k.0 in absurd (omega (arith, h, e))
not_both p q (inr h) (inl k) = let e = h.0 in absurd (omega (arith, k, e))
not_both p q (inr h) (inr k) = let l = h.1 in let m = k.1 in absurd (omega (arith, l, m))

not_itself : (p q : Pos) → p ≡ q → IsBefore q p → ⊥
not_itself p q e h = let at_q = subst (IsBefore q) e h in not_both q q at_q at_q

broken_same : (a b : Broken) → a.rule ≡ b.rule → a.pos ≡ b.pos → a ≡ b
broken_same a b e f = λ j. record { rule = e j; pos = f j }

neither_after : (a b : Broken) → IsNotAfter a b → IsNotAfter b a → a ≡ b
neither_after a b (inl h) (inl k) = absurd (not_both a.pos b.pos h k)
neither_after a b (inl h) (inr k) = absurd (not_itself b.pos a.pos k.0 h)
neither_after a b (inr h) (inl k) = absurd (not_itself a.pos b.pos h.0 k)
neither_after a b (inr h) (inr k) = let l = h.1 in let m = k.1 in broken_same a b (omega (arith, l, m)) h.0

module _ (text : List ℕ) where
  -- one broken rule is the first
  pub one_first : (b c : Broken) → First text b → First text c → b ≡ c
  one_first b c f g = by (f.least g.phase c g.breaks) (g.least f.phase b f.breaks)
    where
      by : IsEarlier f.phase g.phase ⊎ ((f.phase ≡ g.phase) × IsNotAfter b c) → IsEarlier g.phase f.phase ⊎ ((g.phase ≡ f.phase) × IsNotAfter c b) → b ≡ c
      by (inl h) (inl k) = absurd (omega (arith, h, k))
      by (inl h) (inr k) = let e = ap rank k.0 in absurd (omega (arith, h, e))
      by (inr h) (inl k) = let e = ap rank h.0 in absurd (omega (arith, k, e))
      by (inr h) (inr k) = neither_after b c h.1 k.1

  -- one program is accepted, as tokens have one tree
  pub one_accepted : ((toks : List Tok) (v w : List Item) → IsProgram toks v → IsProgram toks w → v ≡ w) → (P Q : List Item) → IsAccepted text P → IsAccepted text Q → P ≡ Q
  one_accepted one_tree P Q p q =
      let toks = tokens_one text q.tree.toks p.tree.toks q.tree.lexes p.tree.lexes in
      one_tree p.tree.toks P Q p.tree.derives (subst (λ ts. IsProgram ts Q) toks q.tree.derives)

  -- what breaks a rule isn't accepted
  pub first_or_accepted : (b : Broken) (P : List Item) → First text b → IsAccepted text P → ⊥
  first_or_accepted b P f p = p.unbroken f.phase b f.breaks
