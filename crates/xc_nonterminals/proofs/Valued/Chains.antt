-- Binary operators: an expression of a level is an operand with operators and right sides behind it.
use Rattle.std.proofs.Common.{◌≡◌, ℕ, zero, suc, ◌+◌, ◌<◌, ◌≤◌, ◌⊎◌, inl, inr, List, [], ◌∷◌, slice_get, Some, refl, sym as sym', subst, arith}
use Rattle.xc_tree.specs.declared.token.Tok.{Tok}
use Rattle.xc_tree.specs.Plain as plain
use Rattle.xc_tree.specs.Symbol.{Symbol, level, operator, Marked, Value}
use Rattle.xc_tree.specs.Grammar.{Rule, rules}
use Rattle.xc_tree.specs.Depth.{of_expression}
use Rattle.xc_tree.specs.Derives.{Among, Room, HasRoom, below, Derives, Prefix, nothing, whole, begins, Begins, in_this, after}
use Rattle.xc_nonterminals.specs.Levels.{IsOperator}
use Rattle.xc_nonterminals.proofs.Derivations.Inverse.{Begun, Ends, by_rules, begun_of, widen, widen_prefix, forth, Wider, below_wider, wider_below, has_wider}
use Rattle.xc_nonterminals.proofs.Valued.Operators.{operator_is, operator_prefix}
use Rattle.xc_nonterminals.proofs.Derivations.Heights.{p_level, depth_fits, more_room, less_room}

abbrev pub joined : plain.Expression → Marked → plain.Expression → plain.Expression
joined a o b = plain.expression (plain.binary o.mark a b) o.pos

-- From k with the tree v, operators of the levels above `low` up to `high`, each binding at most as strongly as the one
-- before it, and their right sides lead to j and the tree w. A level is meant by the one below it.
pub data Chain (toks : List Tok) (room : Room) : ℕ → ℕ → ℕ → plain.Expression → ℕ → plain.Expression → Type 0 where
  stop : {low high k : ℕ} {v : plain.Expression} → Chain toks room low high k v k v
  go : {low high l k m j : ℕ} {o : Marked} {v b w : plain.Expression} → low ≤ suc l → l < high → IsOperator toks k (suc l) o → HasRoom room (of_expression v + 1) → Derives toks (below room 1) (level l) (k + 1) m b → Chain toks room (suc l) high m (joined v o b) j w → Chain toks room low high k v j w

-- the same for a prefix that ends at n
pub data ChainTo (toks : List Tok) (room : Room) : ℕ → ℕ → ℕ → plain.Expression → ℕ → Type 0 where
  ends : {low high k n : ℕ} {v : plain.Expression} → n ≤ k → ChainTo toks room low high k v n
  inside : {low high l k n : ℕ} {o : Marked} {v : plain.Expression} → low ≤ suc l → l < high → IsOperator toks k (suc l) o → HasRoom room (of_expression v + 1) → Prefix toks (below room 1) (level l) (k + 1) n → ChainTo toks room low high k v n
  onward : {low high l k m n : ℕ} {o : Marked} {v b : plain.Expression} → low ≤ suc l → l < high → IsOperator toks k (suc l) o → HasRoom room (of_expression v + 1) → Derives toks (below room 1) (level l) (k + 1) m b → ChainTo toks room (suc l) high m (joined v o b) n → ChainTo toks room low high k v n

-- an operand, and a chain behind it
abbrev pub Split : List Tok → Room → ℕ → ℕ → ℕ → plain.Expression → Type 0
Split toks room m i j t = (k : ℕ) × (b : plain.Expression) × Derives toks room (level 0) i k b × Chain toks room 0 m k b j t

abbrev pub SplitTo : List Tok → Room → ℕ → ℕ → ℕ → Type 0
SplitTo toks room m i n = Prefix toks room (level 0) i n ⊎ ((k : ℕ) × (b : plain.Expression) × Derives toks room (level 0) i k b × ChainTo toks room 0 m k b n)

module _ (toks : List Tok) where
  raise : {room : Room} {low high k j : ℕ} {v w : plain.Expression} (top : ℕ) → high ≤ top → Chain toks room low high k v j w → Chain toks room low top k v j w
  raise top h stop = stop
  raise top h (go a b s x d c) = go a (omega arith) s x d (raise top h c)

  raise_to : {room wide : Room} {low high k n : ℕ} {v : plain.Expression} (top : ℕ) → high ≤ top → Wider room wide → ChainTo toks room low high k v n → ChainTo toks wide low top k v n
  raise_to top h f (ends e) = ends e
  raise_to {room} {wide} top h f (inside {v} a b s x q) = inside a (omega arith) s (has_wider room wide (of_expression v + 1) f x) (widen_prefix toks (wider_below room wide 1 f) q)
  raise_to {room} {wide} top h f (onward {v} a b s x d c) = onward a (omega arith) s (has_wider room wide (of_expression v + 1) f x) (widen toks (wider_below room wide 1 f) d) (raise_to top h f c)

  snoc : {room : Room} {low m k j n : ℕ} {v w c : plain.Expression} {o : Marked} → low ≤ suc m → Chain toks room low (suc m) k v j w → IsOperator toks j (suc m) o → HasRoom room (of_expression w + 1) → Derives toks (below room 1) (level m) (j + 1) n c → Chain toks room low (suc m) k v n (joined w o c)
  snoc {m} a stop s x d = go a (omega arith) s x d stop
  snoc {m} a (go a' b s' x' d' c) s x d = go a' b s' x' d' (snoc (omega arith) c s x d)

  append : {room : Room} {low m k j n : ℕ} {v w : plain.Expression} → low ≤ m → Chain toks room low m k v j w → ((from : ℕ) → from ≤ m → ChainTo toks room from m j w n) → ChainTo toks room low m k v n
  append {low} a stop f = f low a
  append a (go a' b s x d c) f = onward a' b s x d (append (omega arith) c f)

  chain_to : {room : Room} {low high k j : ℕ} {v w : plain.Expression} → Chain toks room low high k v j w → ChainTo toks room low high k v j
  chain_to stop = ends (omega arith)
  chain_to (go a b s x d c) = onward a b s x d (chain_to c)

  module _ (m : ℕ) where
    split_rule : {room : Room} (lower : (i j : ℕ) (t : plain.Expression) → Derives toks room (level m) i j t → Split toks room m i j t) (i j : ℕ) (t : plain.Expression) → ((k : ℕ) (a : plain.Expression) → k < j → Derives toks room (level (suc m)) i k a → Split toks room (suc m) i k a) → Ends toks room (rules (level (suc m))) i j t → Split toks room (suc m) i j t
    split_rule {room} lower i j t f (inl e) =
        let d = widen toks (below_wider room 0) e.2.1 in
        let y = lower i e.2.0 e.0.0 d in
        (y.0, y.1, y.2, subst (λ k. Chain toks room 0 (suc m) y.0 y.1 k t) (sym' e.2.2) (subst (λ z. Chain toks room 0 (suc m) y.0 y.1 e.2.0 z) (sym' e.4) (raise (suc m) (omega arith) y.3)))
    split_rule {room} lower i j t f (inr (inl e)) =
        let d = e.2.1 in
        let o = operator_is toks e.2.2.1 in
        let b = e.2.2.2.1 in
        let l = forth toks b in
        let h : j ≡ e.2.2.2.0 = e.2.2.2.2 in
        let y = f e.2.0 e.0.0 (omega arith) (widen toks (below_wider room 1) d) in
        let x : HasRoom room (of_expression e.0.0 + 1) = less_room room (of_expression e.0.0 + 1) (1 + of_expression e.0.0) (omega arith) (more_room room 1 (of_expression e.0.0) e.1 (depth_fits toks p_level d)) in
        let b' = subst (λ k. Derives toks (below room 1) (level m) k e.2.2.2.0 e.0.1.1.0) o.0 b in
        (y.0, y.1, y.2, subst (λ k. Chain toks room 0 (suc m) y.0 y.1 k t) (sym' h) (subst (λ z. Chain toks room 0 (suc m) y.0 y.1 e.2.2.2.0 z) (sym' e.4) (snoc (omega arith) y.3 o.1 x b')))
    split_rule lower i j t f (inr (inr e)) = absurd e

    split_by : {room : Room} (lower : (i j : ℕ) (t : plain.Expression) → Derives toks room (level m) i j t → Split toks room m i j t) (n i j : ℕ) (t : plain.Expression) → j ≤ n → Derives toks room (level (suc m)) i j t → Split toks room (suc m) i j t
    split_by lower zero i j t h d = split_rule lower i j t (λ k a l d'. absurd (omega arith)) (by_rules toks (level (suc m)) refl d)
    split_by lower (suc n) i j t h d = split_rule lower i j t (λ k a l d'. split_by lower n i k a (omega arith) d') (by_rules toks (level (suc m)) refl d)

  pub split : {room : Room} (m i j : ℕ) (t : plain.Expression) → Derives toks room (level m) i j t → Split toks room m i j t
  split zero i j t d = (j, t, d, stop)
  split (suc m) i j t d = split_by m (split m) j i j t (omega arith) d

  -- the first symbol of a beginning, where it is a level, as a chain
  abbrev First : Room → List Symbol → ℕ → ℕ → Type 0
  First room [] i n = ⊥
  First room (s ∷ ss) i n = (((m : ℕ) → s ≡ level m → SplitTo toks room m i n) × Prefix toks room s i n) ⊎ ((k : ℕ) × (v : Value s) × Derives toks room s i k v × Begun toks room ss k n)

  abbrev Firsts : Room → List (Rule plain.Expression) → ℕ → ℕ → Type 0
  Firsts room [] i n = ⊥
  Firsts room (r ∷ rs) i n = (HasRoom room r.nodes × First (below room r.nodes) r.parts i n) ⊎ Firsts room rs i n

  first_among : (room : Room) (rs : List (Rule plain.Expression)) (r : Rule plain.Expression) (at i n : ℕ) → slice_get rs at ≡ Some r → HasRoom room r.nodes × First (below room r.nodes) r.parts i n → Firsts room rs i n
  first_among room [] r at i n e h = absurd (cc)
  first_among room (x ∷ rs) r zero i n e h = let f : r ≡ x = cc in inl (subst (λ y. HasRoom room y.nodes × First (below room y.nodes) y.parts i n) f h)
  first_among room (x ∷ rs) r (suc at) i n e h = inr (first_among room rs r at i n e h)

  lift_to : {room wide : Room} (m top : ℕ) {i n : ℕ} → m ≤ top → Wider room wide → SplitTo toks room m i n → SplitTo toks wide top i n
  lift_to m top h f (inl q) = inl (widen_prefix toks f q)
  lift_to m top h f (inr (k, b, d, c)) = inr (k, b, widen toks f d, raise_to top h f c)

  -- a left operand, and the beginning of what stands behind it
  joined_to : {room : Room} (m : ℕ) {i k n : ℕ} (a : plain.Expression) → HasRoom room 1 → Derives toks (below room 1) (level (suc m)) i k a → ((from : ℕ) → from ≤ suc m → HasRoom room (of_expression a + 1) → ChainTo toks room from (suc m) k a n) → SplitTo toks room (suc m) i n
  joined_to {room} m {i} {k} {n} a h d f =
      let x : HasRoom room (of_expression a + 1) = less_room room (of_expression a + 1) (1 + of_expression a) (omega arith) (more_room room 1 (of_expression a) h (depth_fits toks p_level d)) in
      let y = split (suc m) i k a (widen toks (below_wider room 1) d) in
      inr (y.0, y.1, y.2, append (omega arith) y.3 (λ from l. f from l x))

  behind_left : {room : Room} (m : ℕ) {i k n : ℕ} (a : plain.Expression) → HasRoom room 1 → Derives toks (below room 1) (level (suc m)) i k a → Begun toks (below room 1) (operator (suc m) ∷ level m ∷ []) k n → SplitTo toks room (suc m) i n
  behind_left {room} m {i} {k} {n} a h d (inl q) = joined_to m a h d (λ from l x. elim (operator_prefix toks q) [
    | inl e ↦ ends (omega arith)
    | inr t ↦ inside l (omega arith) t.2 x (subst (λ y. Prefix toks (below room 1) (level m) (k + 1) y) (sym' t.0) nothing)
  ])
  behind_left {room} m {i} {k} {n} a h d (inr (j, o, e, inl q)) = joined_to m a h d (λ from l x. let t = operator_is toks e in inside l (omega arith) t.1 x (subst (λ y. Prefix toks (below room 1) (level m) y n) t.0 q))
  behind_left {room} m {i} {k} {n} a h d (inr (j, o, e, inr (x, b, c, q))) = absurd q

  first_rule : {room : Room} (m : ℕ) {i n : ℕ} → Firsts room (rules (level (suc m))) i n → SplitTo toks room (suc m) i n
  first_rule {room} m (inl (h, inl (f, q))) = lift_to m (suc m) (omega arith) (below_wider room 0) (f m refl)
  first_rule {room} m (inl (h, inr (k, v, d, q))) = absurd q
  first_rule {room} m (inr (inl (h, inl (f, q)))) = lift_to (suc m) (suc m) (omega arith) (below_wider room 1) (f (suc m) refl)
  first_rule {room} m (inr (inl (h, inr (k, a, d, q)))) = behind_left m a h d q
  first_rule {room} m (inr (inr e)) = absurd e

  whole_to : {room : Room} (m : ℕ) {i n : ℕ} (t : plain.Expression) → Derives toks room (level m) i n t → SplitTo toks room m i n
  whole_to m {i} {n} t d = let y = split m i n t d in inr (y.0, y.1, y.2, chain_to y.3)

  of_level : {room : Room} (m : ℕ) (s : Symbol) {i n : ℕ} → s ≡ level m → (r : Rule (Value s)) → Among (rules s) r → HasRoom room r.nodes × First (below room r.nodes) r.parts i n → Prefix toks room s i n → SplitTo toks room m i n
  of_level {room} zero s {i} {n} e = λ r a h q. inl (subst (λ x. Prefix toks room x i n) e q)
  of_level {room} (suc m) s {i} {n} e = subst (λ x. (r : Rule (Value x)) → Among (rules x) r → HasRoom room r.nodes × First (below room r.nodes) r.parts i n → Prefix toks room x i n → SplitTo toks room (suc m) i n) (sym' e) (λ r a h q. first_rule m (first_among room (rules (level (suc m))) r a.at i n a.there h))

  mutual
    split_prefix : {room : Room} {s : Symbol} {i n : ℕ} → Prefix toks room s i n → (m : ℕ) → s ≡ level m → SplitTo toks room m i n
    split_prefix nothing m e = inl nothing
    split_prefix {room} {s} {i} {n} (whole {v} d) m e = subst (λ x. (v : Value x) → Derives toks room x i n v → SplitTo toks room m i n) (sym' e) (whole_to m) v d
    split_prefix {room} {s} (begins {r} a h q) m e = of_level m s e r a (h, split_first q) (begins a h q)

    split_first : {room : Room} {ss : List Symbol} {i n : ℕ} → Begins toks room ss i n → First room ss i n
    split_first (in_this q) = inl (split_prefix q, q)
    split_first (after {j} {v} d q) = inr (j, v, d, begun_of toks q)

  pub split_to : {room : Room} (m : ℕ) {i n : ℕ} → Prefix toks room (level m) i n → SplitTo toks room m i n
  split_to m q = split_prefix q m refl
