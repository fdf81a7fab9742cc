-- Two readings of a level of operators meet where what stands on the level below it does.
use Rattle.std.proofs.Common.{◌≡◌, ℕ, zero, suc, ◌+◌, ◌<◌, ◌≤◌, inl, inr, List, refl, sym as sym', ap, subst, ◌∙◌, arith}
use Rattle.xc_tree.specs.declared.token.Tok.{Tok}
use Rattle.xc_tree.specs.Plain as plain
use Rattle.xc_tree.specs.Symbol.{level, operator, Marked}
use Rattle.xc_tree.specs.Grammar.{rules}
use Rattle.xc_tree.specs.Derives.{unlimited, Derives}
use Rattle.xc_nonterminals.specs.Levels.{IsOperator, level_of}
use Rattle.xc_nonterminals.specs.Reading.{IsFront, GoesOn}
use Rattle.xc_nonterminals.proofs.Derivations.TokenSets.{same_kind}
use Rattle.xc_nonterminals.proofs.Derivations.Single.{one_pos}
use Rattle.xc_nonterminals.proofs.Derivations.Forth.{forth}
use Rattle.xc_nonterminals.proofs.Valued.Operators.{operator_is, bracket_goes_on, operator_goes_on, Onward, index, operates, goes_onward}
use Rattle.xc_nonterminals.proofs.Derivations.Statures.{By, Tree, opened_same, derived}
use Rattle.xc_nonterminals.proofs.Meeting.Meetings.{AllMeet, Meets}

abbrev joined : plain.Expression → Marked → plain.Expression → plain.Expression
joined a o b = plain.expression (plain.binary o.mark a b) o.pos

-- from k with the tree a, operators of level m + 1 and their right sides, less than n symbols tall, lead to j and the tree v
data Behind (toks : List Tok) (n m : ℕ) : ℕ → plain.Expression → ℕ → plain.Expression → Type 0 where
  stop : {k : ℕ} {a : plain.Expression} → Behind toks n m k a k a
  go : {k j : ℕ} (l q : ℕ) (o : Marked) {a : plain.Expression} (b : plain.Expression) {v : plain.Expression} → Tree toks n (operator (suc m)) k l o → Tree toks n (level m) l q b → Behind toks n m q (joined a o b) j v → Behind toks n m k a j v

module _ (toks : List Tok) (n m : ℕ) where
  snoc : (i j l k : ℕ) (a v c : plain.Expression) (o : Marked) → Behind toks n m i a j v → Tree toks n (operator (suc m)) j l o → Tree toks n (level m) l k c → Behind toks n m i a k (joined v o c)
  snoc i j l k a v c o stop d e = go l k o c d e stop
  snoc i j l k a v c o (go l' q o' b d' e' r) d e = go l' q o' b d' e' (snoc q j l k (joined a o' b) v c o r d e)

  -- what stands on the level below, and a row of operators behind it
  abbrev Split : ℕ → ℕ → plain.Expression → Type 0
  Split i j t = (k : ℕ) × (b : plain.Expression) × Tree toks n (level m) i k b × Behind toks n m k b j t

  stands_at : (k l : ℕ) (o : Marked) → Tree toks n (operator (suc m)) k l o → (l ≡ k + 1) × IsOperator toks k (suc m) o
  stands_at k l o d = operator_is toks (derived toks n (operator (suc m)) k l o d)

  split_rules : (i j : ℕ) (t : plain.Expression) → ((k : ℕ) (a : plain.Expression) → k < j → Tree toks n (level (suc m)) i k a → Split i k a) → By toks (Tree toks n) (rules (level (suc m))) i j t → Split i j t
  split_rules i j t f (inl (vs, (k, d, h), g, e)) =
      (k, vs.0, d, subst (λ q. Behind toks n m k vs.0 q t) (sym' h) (subst (λ z. Behind toks n m k vs.0 k z) (sym' e) stop))
  split_rules i j t f (inr (inl (vs, (k, d, (l, o, (q, b, h))), g, e))) =
      let p : l ≡ k + 1 = (stands_at k l vs.1.0 o).0 in
      let r : l ≤ q = forth (derived toks n (level m) l q vs.1.1.0 b) in
      let end : j ≡ q = h in
      let s = f k vs.0 (omega arith) d in
      (s.0, s.1, s.2, subst (λ y. Behind toks n m s.0 s.1 y t) (sym' h) (subst (λ z. Behind toks n m s.0 s.1 q z) (sym' e) (snoc s.0 k l q s.1 vs.0 vs.1.1.0 vs.1.0 s.3 o b)))
  split_rules i j t f (inr (inr e)) = absurd e

  -- by how far the tokens reach, since a left side is shorter
  split_by : (most i j : ℕ) (t : plain.Expression) → j ≤ most → Tree toks n (level (suc m)) i j t → Split i j t
  split_by zero i j t h d = split_rules i j t (λ k a l d'. absurd (omega arith)) (opened_same toks n (level (suc m)) refl i j t d)
  split_by (suc most) i j t h d = split_rules i j t (λ k a l d'. split_by most i k a (omega arith) d') (opened_same toks n (level (suc m)) refl i j t d)

  split : (i j : ℕ) (t : plain.Expression) → By toks (Tree toks n) (rules (level (suc m))) i j t → Split i j t
  split i j t x = split_rules i j t (λ k a l d. split_by j i k a (omega arith) d) x

  -- what a level goes on with the next one does too, and an operator of the next one is none of it
  raise : (i : ℕ) → Onward toks m i → GoesOn toks (level (suc m)) i
  raise i (index on) = bracket_goes_on toks (suc m) on
  raise i (operates {l} h s) = operator_goes_on toks (suc m) {l = l} (omega arith) s

  no_operator : (i : ℕ) (o : Marked) → IsOperator toks i (suc m) o → Onward toks m i → ⊥
  no_operator i o s (index on) =
      let e = same_kind on s.on in
      let f : 4 ≡ o.mark = cc in
      let g : 0 ≡ suc m = ap level_of f ∙ s.binds in
      omega (arith, g)
  no_operator i o s (operates {l} {o = u} h r) =
      let e = same_kind r.on s.on in
      let f : u.mark ≡ o.mark = cc in
      let g : suc l ≡ suc m = sym' r.binds ∙ (ap level_of f ∙ s.binds) in
      omega (arith, g)

  end_goes_on : (k j : ℕ) (b v : plain.Expression) → Behind toks n m k b j v → GoesOn toks (level m) k → GoesOn toks (level (suc m)) j
  end_goes_on k j b v stop g = raise k (goes_onward toks m k g)
  end_goes_on k j b v (go l q o c d e r) g = absurd (no_operator k o (stands_at k l o d).1 (goes_onward toks m k g))

  front_of : (j : ℕ) (v : plain.Expression) → GoesOn toks (level (suc m)) j → IsFront toks (level (suc m)) j v
  front_of j v g = record { goes_on = g; may = refl }

  one_operator : (k l h : ℕ) (o u : Marked) → Tree toks n (operator (suc m)) k l o → Tree toks n (operator (suc m)) k h u → (h ≡ l) × (u ≡ o)
  one_operator k l h o u d e =
      let x = stands_at k l o d in
      let y = stands_at k h u e in
      let f = same_kind y.1.on x.1.on in
      let g : u.mark ≡ o.mark = cc in
      let p = one_pos y.1.on x.1.on in
      (y.0 ∙ sym' x.0, λ i. record { mark = g i; pos = p i })

  module _ (meet : AllMeet toks n) where
    -- two rows of operators behind one tree
    chains : (k j h : ℕ) (a v w : plain.Expression) → Behind toks n m k a j v → Behind toks n m k a h w → Meets toks (level (suc m)) j v h w
    chains k j h a v w stop stop = inl (refl, refl)
    chains k j h a v w stop (go l q o c d e r) = inr (inl (front_of k a (operator_goes_on toks (suc m) {l = m} (omega arith) (stands_at k l o d).1)))
    chains k j h a v w (go l q o c d e r) stop = inr (inr (front_of k a (operator_goes_on toks (suc m) {l = m} (omega arith) (stands_at k l o d).1)))
    chains k j h a v w (go l q o b d e r) (go l' q' o' b' d' e' r') =
        let c = one_operator k l l' o o' d d' in
        elim (meet (level m) refl l q q' b b' e (subst (λ z. Tree toks n (level m) z q' b') c.0 e')) [
          | inl g ↦
              let f : joined a o' b' ≡ joined a o b = (λ i. joined a (c.1 i) (g.1 i)) in
              chains q j h (joined a o b) v w r (subst (λ z. Behind toks n m q z h w) f (subst (λ z. Behind toks n m z (joined a o' b') h w) g.0 r'))
          | inr (inl f) ↦ inr (inl (front_of j v (end_goes_on q j (joined a o b) v r f.goes_on)))
          | inr (inr f) ↦ inr (inr (front_of h w (end_goes_on q' h (joined a o' b') w r' f.goes_on)))
        ]

    pub level_meets : (i j k : ℕ) (v w : plain.Expression) → By toks (Tree toks n) (rules (level (suc m))) i j v → By toks (Tree toks n) (rules (level (suc m))) i k w → Meets toks (level (suc m)) j v k w
    level_meets i j k v w x y =
        let s = split i j v x in
        let t = split i k w y in
        elim (meet (level m) refl i s.0 t.0 s.1 t.1 s.2 t.2) [
          | inl e ↦ chains s.0 j k s.1 v w s.3 (subst (λ z. Behind toks n m s.0 z k w) e.1 (subst (λ z. Behind toks n m z t.1 k w) e.0 t.3))
          | inr (inl f) ↦ inr (inl (front_of j v (end_goes_on s.0 j s.1 v s.3 f.goes_on)))
          | inr (inr f) ↦ inr (inr (front_of k w (end_goes_on t.0 k t.1 w t.3 f.goes_on)))
        ]

-- an operator is one token
pub operator_meets : (toks : List Tok) (m i j k : ℕ) (v w : Marked) → Derives toks unlimited (operator m) i j v → Derives toks unlimited (operator m) i k w → Meets toks (operator m) j v k w
operator_meets toks m i j k v w d e =
    let x = operator_is toks d in
    let y = operator_is toks e in
    let f = same_kind y.1.on x.1.on in
    let g : w.mark ≡ v.mark = cc in
    let p = one_pos y.1.on x.1.on in
    inl (y.0 ∙ sym' x.0, λ i. record { mark = g i; pos = p i })
