-- Binary operators: a level is what stands on the level below it, with operators and right sides behind it.
use Rattle.std.proofs.Common.{◌≡◌, ℕ, zero, suc, ◌+◌, ◌<◌, ◌≤◌, inl, inr, List, [], ◌∷◌, refl, sym as sym', subst, ◌∙◌, arith}
use Rattle.xc_tree.specs.declared.token.Tok.{Tok}
use Rattle.xc_tree.specs.Plain as plain
use Rattle.xc_tree.specs.Symbol.{sym, level, operator, Marked}
use Rattle.xc_tree.specs.Grammar.{rules, operators, one_of}
use Rattle.xc_tree.specs.Derives.{Room, unlimited, Derives}
use Rattle.xc_nonterminals.proofs.Rests.Alternatives.{ByRules, by_rules}
use Rattle.xc_nonterminals.proofs.Derivations.Forth.{forth}
use Rattle.xc_nonterminals.proofs.Rests.Behinds.{token_derived}
use Rattle.xc_nonterminals.proofs.Derivations.Lists.{unrow, unend}

abbrev pub joined : plain.Expression → Marked → plain.Expression → plain.Expression
joined a o b = plain.expression (plain.binary o.mark a b) o.pos

-- from i with the tree a, operators of level m + 1 and their right sides lead to j and the tree v
pub data More (toks : List Tok) (m : ℕ) : ℕ → plain.Expression → ℕ → plain.Expression → Type 0 where
  stop : {i : ℕ} {t : plain.Expression} → More toks m i t i t
  go : {i l k j : ℕ} {o : Marked} {a b v : plain.Expression} → Derives toks unlimited (operator (suc m)) i l o → Derives toks unlimited (level m) l k b → More toks m k (joined a o b) j v → More toks m i a j v

module _ (toks : List Tok) where
  op_in : (room : Room) (os : List ℕ) (i j : ℕ) (o : Marked) → ByRules toks room (one_of os) i j o → j ≡ i + 1
  op_in room [] i j o e = absurd e
  op_in room (x ∷ os) i j o (inl e) = let y = unrow e.2 in unend y.2 ∙ (token_derived {t = sym x} refl y.1).0
  op_in room (x ∷ os) i j o (inr e) = op_in room os i j o e

  -- an operator is one token
  pub op_one : {room : Room} (m i j : ℕ) (o : Marked) → Derives toks room (operator m) i j o → j ≡ i + 1
  op_one {room} m i j o d = op_in room (operators m) i j o (by_rules toks room (operator m) i j o refl d)

module _ (toks : List Tok) (m : ℕ) where
  pub snoc : {i j l k : ℕ} {a v c : plain.Expression} {o : Marked} → More toks m i a j v → Derives toks unlimited (operator (suc m)) j l o → Derives toks unlimited (level m) l k c → More toks m i a k (joined v o c)
  snoc stop d e = go d e stop
  snoc (go d' e' r) d e = go d' e' (snoc r d e)

  abbrev pub Split : ℕ → ℕ → plain.Expression → Type 0
  Split i j t = (k : ℕ) × (b : plain.Expression) × Derives toks unlimited (level m) i k b × More toks m k b j t

  split_step : (i j : ℕ) (t : plain.Expression) → ((k : ℕ) (a : plain.Expression) → k < j → Derives toks unlimited (level (suc m)) i k a → Split i k a) → ByRules toks unlimited (rules (level (suc m))) i j t → Split i j t
  split_step i j t f (inl e) =
      let y = unrow e.2 in
      let h = unend y.2 in
      (j, t, subst (λ k. Derives toks unlimited (level m) i k t) (sym' h) (subst (Derives toks unlimited (level m) i y.0) (sym' e.4) y.1), stop)
  split_step i j t f (inr (inl e)) =
      let y = unrow e.2 in
      let z = unrow y.2 in
      let w = unrow z.2 in
      let h = unend w.2 in
      let g = op_one toks (suc m) y.0 z.0 e.0.1.0 z.1 in
      let l = forth w.1 in
      let s = f y.0 e.0.0 (omega arith) y.1 in
      (s.0, s.1, s.2, subst (λ k. More toks m s.0 s.1 k t) (sym' h) (subst (More toks m s.0 s.1 w.0) (sym' e.4) (snoc s.3 z.1 w.1)))
  split_step i j t f (inr (inr e)) = absurd e

  -- by how far the tokens reach, since a left side is shorter
  split_by : (n i j : ℕ) (t : plain.Expression) → j ≤ n → Derives toks unlimited (level (suc m)) i j t → Split i j t
  split_by zero i j t h d = split_step i j t (λ k a l d'. absurd (omega arith)) (by_rules toks unlimited (level (suc m)) i j t refl d)
  split_by (suc n) i j t h d = split_step i j t (λ k a l d'. split_by n i k a (omega arith) d') (by_rules toks unlimited (level (suc m)) i j t refl d)

  -- a level is what stands on the level below it
  pub split : (i j : ℕ) (t : plain.Expression) → Derives toks unlimited (level (suc m)) i j t → Split i j t
  split i j t d = split_by j i j t (omega arith) d
