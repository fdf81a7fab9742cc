-- An open statement with an `else` behind it goes on with it.
use Rattle.std.proofs.Common.{◌≡◌, ℕ, zero, suc, ◌+◌, ◌≤◌, inl, inr, Bool, true, false, not, List, [], ◌∷◌, refl, sym as sym', ap, subst, ◌∙◌, arith}
use Rattle.xw_words.specs.declared.pos.Pos.{Pos}
use Rattle.xc_tree.specs.declared.token.Tok.{Tok}
use Rattle.xc_tree.specs.declared.token.Kind.TheVariants.{Key}
use Rattle.xc_tree.specs.Plain as plain
use Rattle.xc_tree.specs.Plain.{is_open, is_open_action, is_open_branch}
use Rattle.xc_tree.specs.Symbol.{Symbol, assign, expr, statement, closed, branch, Value, Values}
use Rattle.xc_tree.specs.Grammar.{rules}
use Rattle.xc_tree.specs.Terminals.{paren, end_paren, else_word, if_word, while_word, for_word, par_word}
use Rattle.xc_tree.specs.Derives.{On, Room, unlimited, Derives, Row, done, next, Prefix, whole, Begins, in_this, after}
use Rattle.xc_nonterminals.specs.Reading.{Reads}
use Rattle.xc_nonterminals.proofs.Rests.Alternatives.{ByRules, by_rules, from_rules, from_starts}
use Rattle.xc_nonterminals.proofs.Rests.Behinds.{token_derived, token_derives}
use Rattle.xc_nonterminals.proofs.Derivations.Lists.{unrow, unend}
use Rattle.xc_nonterminals.proofs.Derivations.Forth.{forth, lift, strict}

never : false ≡ true → ⊥
never e = cc

abbrev last_of : Symbol → List Symbol → Symbol
last_of s [] = s
last_of s (t ∷ ts) = last_of t ts

abbrev last_value : (s : Symbol) (ss : List Symbol) → Values (s ∷ ss) → Value (last_of s ss)
last_value s [] x = x.0
last_value s (t ∷ ts) x = last_value t ts x.1

module _ {toks : List Tok} {room : Room} where
  -- a row goes on where its last symbol does
  extend : {s : Symbol} {ss : List Symbol} {i j : ℕ} {vs : Values (s ∷ ss)} → Row toks room (s ∷ ss) i j vs → ((k : ℕ) → i ≤ k → Derives toks room (last_of s ss) k j (last_value s ss vs) → Prefix toks room (last_of s ss) k (j + 1)) → Begins toks room (s ∷ ss) i (j + 1)
  extend {i} (next d done) g = in_this (g i (omega arith) d)
  extend (next d (next e r)) g = let l = forth d in after d (extend (next e r) (λ k h x. g k (omega arith) x))

module _ (toks : List Tok) where
  abbrev Goes : ℕ → Type 0
  Goes n = (i j : ℕ) (v : plain.Statement) (p : Pos) → j ≤ i + n → Derives toks unlimited statement i j v → is_open v ≡ true → On toks j (Key 7) p → Prefix toks unlimited statement i (j + 1)

  branch_goes : (n : ℕ) → Goes n → (i j : ℕ) (v : plain.Branch) (p : Pos) → j ≤ i + n → Derives toks unlimited branch i j v → is_open_branch v ≡ true → On toks j (Key 7) p → Prefix toks unlimited branch i (j + 1)
  branch_goes n rec i j v p l d o on = elim (by_rules toks unlimited branch i j v refl d) [
    | inl x ↦
        let s : is_open x.0.1.0 ≡ true = ap is_open_branch (sym' x.4) ∙ o in
        from_starts toks unlimited branch i (j + 1) (inl (tt, extend x.2 (λ k h e. rec k j x.0.1.0 p (omega arith) e s on)))
    | inr x ↦ absurd x
  ]

  assign_shut : {i k : ℕ} {a : plain.Action} → Derives toks unlimited assign i k a → is_open_action a ≡ false
  assign_shut {i} {k} {a} d = elim (by_rules toks unlimited assign i k a refl d) [
    | inl x ↦ ap is_open_action x.4
    | inr y ↦ elim y [
      | inl x ↦ ap is_open_action x.4
      | inr z ↦ elim z [ inl x ↦ ap is_open_action x.4 | inr w ↦ elim w [ inl x ↦ ap is_open_action x.4 | inr u ↦ absurd u ] ]
    ]
  ]

  -- an `if` without `else`, by whether what it holds is open
  then_goes : (n : ℕ) → Goes n → (i j : ℕ) (p : Pos) (x : Values (if_word ∷ paren ∷ expr ∷ end_paren ∷ statement ∷ [])) (a b c d : ℕ) → Derives toks unlimited if_word i a x.0 → Derives toks unlimited paren a b x.1.0 → Derives toks unlimited expr b c x.1.1.0 → Derives toks unlimited end_paren c d x.1.1.1.0 → Derives toks unlimited statement d j x.1.1.1.1.0 → j ≤ d + n → (o : Bool) → is_open x.1.1.1.1.0 ≡ o → On toks j (Key 7) p → Prefix toks unlimited statement i (j + 1)
  then_goes n rec i j p x a b c d ka kb kc kd s l true e on =
      from_starts toks unlimited statement i (j + 1) (inr (inr (inr (inr (inr (inr (inl (tt, after ka (after kb (after kc (after kd (in_this (rec d j x.1.1.1.1.0 p l s e on)))))))))))))
  then_goes n rec i j p x a b c d ka kb kc kd s l false e on =
      let shut : Derives toks unlimited closed d j x.1.1.1.1.0 = from_rules toks unlimited closed d j x.1.1.1.1.0 (inl ((x.1.1.1.1.0, tt), tt, next s done, ap not e, refl)) in
      from_starts toks unlimited statement i (j + 1) (inr (inr (inr (inr (inr (inr (inr (inl (tt, after ka (after kb (after kc (after kd (after shut (in_this (whole (token_derives else_word on))))))))))))))))

  step : (n : ℕ) → Goes n → (i j : ℕ) (v : plain.Statement) (p : Pos) → j ≤ i + suc n → ByRules toks unlimited (rules statement) i j v → is_open v ≡ true → On toks j (Key 7) p → Prefix toks unlimited statement i (j + 1)
  step n rec i j v p l (inl x) o on = absurd (never (ap is_open (sym' x.4) ∙ o))
  step n rec i j v p l (inr (inl x)) o on = absurd (never (ap is_open (sym' x.4) ∙ o))
  step n rec i j v p l (inr (inr (inl x))) o on = absurd (never (sym' (assign_shut (unrow x.2).1) ∙ (ap is_open (sym' x.4) ∙ o)))
  step n rec i j v p l (inr (inr (inr (inl x)))) o on = absurd (never (ap is_open (sym' x.4) ∙ o))
  step n rec i j v p l (inr (inr (inr (inr (inl x))))) o on = absurd (never (ap is_open (sym' x.4) ∙ o))
  step n rec i j v p l (inr (inr (inr (inr (inr (inl x)))))) o on = absurd (never (ap is_open (sym' x.4) ∙ o))
  step n rec i j v p l (inr (inr (inr (inr (inr (inr (inl x))))))) o on =
      let a = unrow x.2 in
      let b = unrow a.2 in
      let c = unrow b.2 in
      let d = unrow c.2 in
      let e = unrow d.2 in
      let s = x.0.1.1.1.1.0 in
      let first = (token_derived {t = if_word} refl a.1).0 in
      let k = forth b.1 in
      let k' = forth c.1 in
      let k'' = forth d.1 in
      let h = unend e.2 in
      let inner : Derives toks unlimited statement d.0 j s = subst (λ (q : ℕ). Derives toks unlimited statement d.0 q s) (sym' h) e.1 in
      then_goes n rec i j p x.0 a.0 b.0 c.0 d.0 a.1 b.1 c.1 d.1 inner (omega (arith, first)) (is_open s) refl on
  step n rec i j v p l (inr (inr (inr (inr (inr (inr (inr (inl x)))))))) o on =
      let a = unrow x.2 in
      let first = (token_derived {t = if_word} refl a.1).0 in
      let s : is_open x.0.1.1.1.1.1.1.0 ≡ true = ap is_open (sym' x.4) ∙ o in
      from_starts toks unlimited statement i (j + 1) (inr (inr (inr (inr (inr (inr (inr (inl (tt, after a.1 (extend a.2 (λ k h e. rec k j x.0.1.1.1.1.1.1.0 p (omega (arith, first)) e s on)))))))))))
  step n rec i j v p l (inr (inr (inr (inr (inr (inr (inr (inr (inl x))))))))) o on =
      let a = unrow x.2 in
      let first = (token_derived {t = while_word} refl a.1).0 in
      let s : is_open x.0.1.1.1.1.0 ≡ true = ap is_open (sym' x.4) ∙ o in
      from_starts toks unlimited statement i (j + 1) (inr (inr (inr (inr (inr (inr (inr (inr (inl (tt, after a.1 (extend a.2 (λ k h e. rec k j x.0.1.1.1.1.0 p (omega (arith, first)) e s on))))))))))))
  step n rec i j v p l (inr (inr (inr (inr (inr (inr (inr (inr (inr (inl x)))))))))) o on = absurd (never (ap is_open (sym' x.4) ∙ o))
  step n rec i j v p l (inr (inr (inr (inr (inr (inr (inr (inr (inr (inr (inl x))))))))))) o on =
      let a = unrow x.2 in
      let first = (token_derived {t = for_word} refl a.1).0 in
      let s : is_open x.0.1.1.1.1.1.1.1.1.0 ≡ true = ap is_open (sym' x.4) ∙ o in
      from_starts toks unlimited statement i (j + 1) (inr (inr (inr (inr (inr (inr (inr (inr (inr (inr (inl (tt, after a.1 (extend a.2 (λ k h e. rec k j x.0.1.1.1.1.1.1.1.1.0 p (omega (arith, first)) e s on))))))))))))))
  step n rec i j v p l (inr (inr (inr (inr (inr (inr (inr (inr (inr (inr (inr (inl x)))))))))))) o on = absurd (never (ap is_open (sym' x.4) ∙ o))
  step n rec i j v p l (inr (inr (inr (inr (inr (inr (inr (inr (inr (inr (inr (inr (inl x))))))))))))) o on = absurd (never (ap is_open (sym' x.4) ∙ o))
  step n rec i j v p l (inr (inr (inr (inr (inr (inr (inr (inr (inr (inr (inr (inr (inr (inl x)))))))))))))) o on = absurd (never (ap is_open (sym' x.4) ∙ o))
  step n rec i j v p l (inr (inr (inr (inr (inr (inr (inr (inr (inr (inr (inr (inr (inr (inr (inl x))))))))))))))) o on = absurd (never (ap is_open (sym' x.4) ∙ o))
  step n rec i j v p l (inr (inr (inr (inr (inr (inr (inr (inr (inr (inr (inr (inr (inr (inr (inr (inl x)))))))))))))))) o on =
      let a = unrow x.2 in
      let first = (token_derived {t = par_word} refl a.1).0 in
      let s : is_open_branch x.0.1.1.1.1.1.1.1.1.1.1.1.1.1.1.0 ≡ true = ap is_open (sym' x.4) ∙ o in
      from_starts toks unlimited statement i (j + 1) (inr (inr (inr (inr (inr (inr (inr (inr (inr (inr (inr (inr (inr (inr (inr (inl (tt, after a.1 (extend a.2 (λ k h e. branch_goes n rec k j x.0.1.1.1.1.1.1.1.1.1.1.1.1.1.1.0 p (omega (arith, first)) e s on)))))))))))))))))))
  step n rec i j v p l (inr (inr (inr (inr (inr (inr (inr (inr (inr (inr (inr (inr (inr (inr (inr (inr (inl x))))))))))))))))) o on = absurd (never (ap is_open (sym' x.4) ∙ o))
  step n rec i j v p l (inr (inr (inr (inr (inr (inr (inr (inr (inr (inr (inr (inr (inr (inr (inr (inr (inr (inl x)))))))))))))))))) o on = absurd (never (ap is_open (sym' x.4) ∙ o))
  step n rec i j v p l (inr (inr (inr (inr (inr (inr (inr (inr (inr (inr (inr (inr (inr (inr (inr (inr (inr (inr (inl x))))))))))))))))))) o on = absurd (never (ap is_open (sym' x.4) ∙ o))
  step n rec i j v p l (inr (inr (inr (inr (inr (inr (inr (inr (inr (inr (inr (inr (inr (inr (inr (inr (inr (inr (inr (x)))))))))))))))))))) o on = absurd x

  goes : (n : ℕ) → Goes n
  goes zero i j v p l d o on = let h = strict refl d in absurd (omega arith)
  goes (suc n) i j v p l d o on = step n (goes n) i j v p l (by_rules toks unlimited statement i j v refl d) o on

-- a statement that was read to its end is none that an `else` behind it belongs to
pub read_shut : {toks : List Tok} {room : ℕ} {i j : ℕ} {v : plain.Statement} {p : Pos} → Reads toks room statement i j v → On toks j (Key 7) p → is_open v ≡ false
read_shut {toks} {i} {j} {v} {p} r on = go (is_open v) refl
  where
    go : (b : Bool) → is_open v ≡ b → b ≡ false
    go true e = let h = r.most (j + 1) (goes toks j i j v p (omega arith) (lift r.derives) e on) in absurd (omega arith)
    go false e = refl
