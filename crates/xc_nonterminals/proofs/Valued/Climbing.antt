-- How far a level reaches: what is known of all levels behind an operand and some of the operators.
use Rattle.std.proofs.Common.{◌≡◌, ℕ, zero, suc, ◌+◌, ◌-◌, ◌<◌, ◌≤◌, ◌⊎◌, inl, inr, List, refl, sym as sym', ap, subst, ◌∙◌, arith}
use Rattle.std.proofs.Math.Nat.{eq-or-lt_of_le}
use Rattle.xw_words.specs.declared.pos.Pos.{Pos}
use Rattle.xc_tree.specs.declared.token.Tok.{Tok}
use Rattle.xc_tree.specs.declared.token.Kind.TheVariants.{Sym}
use Rattle.xc_tree.specs.Plain as plain
use Rattle.xc_tree.specs.Symbol.{level, Marked}
use Rattle.xc_tree.specs.Depth.{of_expression}
use Rattle.xc_tree.specs.Derives.{On, Room, unlimited, at_most, HasRoom, below, Derives, Prefix, nothing, whole}
use Rattle.xc_nonterminals.specs.Reading.{GoesOn, IsFront, Reads, Refuses, TooDeep}
use Rattle.xc_nonterminals.specs.Levels.{level_of, IsOperator}
use Rattle.xc_nonterminals.proofs.Derivations.Inverse.{from_rules, from_starts, widen, widen_prefix, Wider, any_wider, same_kind, same_pos}
use Rattle.xc_nonterminals.proofs.Valued.Operators.{is_operator, bracket_goes_on, operator_goes_on, Onward, index, operates, goes_onward}
use Rattle.xc_nonterminals.proofs.Derivations.Heights.{p_level, shallow, no_room}
use Rattle.xc_nonterminals.proofs.Valued.Chains.{joined, Chain, stop, go, ChainTo, ends, inside, onward, split, split_to}

-- From `at` on the tree v was read up to k by operators of the levels up to `low`. Each other reading of a level from
-- there up goes on at its end, or has a chain of operators behind k.
pub record SoFar (toks : List Tok) (room low at k : ℕ) (v : plain.Expression) : Type 0 where
  pub derives : Derives toks (at_most room) (level low) at k v
  pub only : (wide : Room) (m j : ℕ) (w : plain.Expression) → low ≤ m → Derives toks wide (level m) at j w → GoesOn toks (level m) j ⊎ Chain toks wide low m k v j w
  pub most : (wide : Room) (m n : ℕ) → low ≤ m → Prefix toks wide (level m) at n → ChainTo toks wide low m k v n

pub wider_zero : (room : Room) → Wider room (below room 0)
wider_zero unlimited = tt
wider_zero (at_most r) = omega arith

lower_or : (l m : ℕ) → l ≤ suc m → (l ≡ suc m) ⊎ (l ≤ m)
lower_or l m h = elim (eq-or-lt_of_le h) [ inl y ↦ inl y | inr y ↦ inr (omega arith) ]

module _ (toks : List Tok) where
  -- what is read of a level is read of each higher one
  raise_one : {room : Room} (m : ℕ) {i k : ℕ} {v : plain.Expression} → Derives toks room (level m) i k v → Derives toks room (level (suc m)) i k v
  raise_one {room} m {i} {k} {v} d = from_rules toks (level (suc m)) (inl ((v, tt), no_room room, (k, widen toks (wider_zero room) d, refl), refl, refl))

  pub raised : {room : Room} (low m : ℕ) {i k : ℕ} {v : plain.Expression} → low ≤ m → Derives toks room (level low) i k v → Derives toks room (level m) i k v
  raised {room} low zero {i} {k} {v} h d = let e : low ≡ 0 = omega arith in subst (λ l. Derives toks room (level l) i k v) e d
  raised {room} low (suc m) {i} {k} {v} h d = elim (lower_or low m h) [
    | inl e ↦ subst (λ l. Derives toks room (level l) i k v) e d
    | inr y ↦ raise_one m (raised low m y d)
  ]

  raise_prefix_one : {room : Room} (m : ℕ) {i n : ℕ} → Prefix toks room (level m) i n → Prefix toks room (level (suc m)) i n
  raise_prefix_one {room} m q = from_starts toks (level (suc m)) (inl (no_room room, inl (widen_prefix toks (wider_zero room) q)))

  pub raised_prefix : {room : Room} (low m : ℕ) {i n : ℕ} → low ≤ m → Prefix toks room (level low) i n → Prefix toks room (level m) i n
  raised_prefix {room} low zero {i} {n} h q = let e : low ≡ 0 = omega arith in subst (λ l. Prefix toks room (level l) i n) e q
  raised_prefix {room} low (suc m) {i} {n} h q = elim (lower_or low m h) [
    | inl e ↦ subst (λ l. Prefix toks room (level l) i n) e q
    | inr y ↦ raise_prefix_one m (raised_prefix low m y q)
  ]

  -- one operator stands in one place
  same_mark : {k l l' : ℕ} {o o' : Marked} → IsOperator toks k l o → IsOperator toks k l' o' → (o ≡ o') × (l ≡ l')
  same_mark {o} {o'} a b =
      let e = same_kind a.on b.on in
      let m : o.mark ≡ o'.mark = cc in
      let p = same_pos a.on b.on in
      (ap (λ x. record { mark = x; pos = o.pos }) m ∙ ap (λ x. record { mark = o'.mark; pos = x }) p, sym' a.binds ∙ ap level_of m ∙ b.binds)

  no_bracket : {k l : ℕ} {o : Marked} {p : Pos} → On toks k (Sym 4) p → IsOperator toks k (suc l) o → ⊥
  no_bracket {k} {l} {o} on s =
      let e = same_kind on s.on in
      let m : 4 ≡ o.mark = cc in
      let b : level_of 4 ≡ suc l = ap level_of m ∙ s.binds in
      absurd (cc)

  onward_goes : {k : ℕ} (low m : ℕ) → low ≤ m → Onward toks low k → GoesOn toks (level m) k
  onward_goes low m h (index on) = bracket_goes_on toks m on
  onward_goes low m h (operates l s) = operator_goes_on toks m (omega arith) s

  front : {m k : ℕ} {w : plain.Expression} → GoesOn toks (level m) k → IsFront toks (level m) k w
  front g = record { goes_on = g; may = refl }

  -- a reading that goes on by a weaker operator only has no chain behind it
  stuck : {room : Room} {low m k j : ℕ} {v w : plain.Expression} (n : ℕ) → Onward toks n k → n ≤ low - 1 → n ≤ m → Chain toks room low m k v j w → GoesOn toks (level m) j
  stuck {m} n g a b stop = onward_goes n m b g
  stuck n (index on) a b (go c e s x d f) = absurd (no_bracket on s)
  stuck n (operates h s') a b (go c e s x d f) = let y = same_mark s' s in absurd (omega (arith, y.1))

  stuck_to : {room : Room} {low m k n' : ℕ} {v : plain.Expression} (n : ℕ) → Onward toks n k → n ≤ low - 1 → ChainTo toks room low m k v n' → n' ≤ k
  stuck_to n g a (ends h) = h
  stuck_to n (index on) a (inside c e s x q) = absurd (no_bracket on s)
  stuck_to n (operates h s') a (inside c e s x q) = let y = same_mark s' s in absurd (omega (arith, y.1))
  stuck_to n (index on) a (onward c e s x d f) = absurd (no_bracket on s)
  stuck_to n (operates h s') a (onward c e s x d f) = let y = same_mark s' s in absurd (omega (arith, y.1))

  module _ {room at : ℕ} where
    -- behind the operand
    pub start : {k : ℕ} {v : plain.Expression} → Reads toks room (level 0) at k v → SoFar toks room 0 at k v
    start {k} {v} r = record {
      derives = r.derives;
      only = λ wide m j w h d. let y = split toks m at j w d in elim (r.only y.0 y.1 (widen toks (any_wider wide) y.2)) [
        | inl e ↦ inr (subst (λ x. Chain toks wide 0 m x v j w) e.0 (subst (λ x. Chain toks wide 0 m y.0 x j w) e.1 y.3))
        | inr g ↦ inl (stuck 0 (goes_onward toks 0 y.0 g.goes_on) (omega arith) (omega arith) y.3)
      ];
      most = λ wide m n h q. elim (split_to toks m q) [
        | inl x ↦ ends (r.most n (widen_prefix toks (any_wider wide) x))
        | inr y ↦ elim (r.only y.0 y.1 (widen toks (any_wider wide) y.2)) [
          | inl e ↦ subst (λ x. ChainTo toks wide 0 m x v n) e.0 (subst (λ x. ChainTo toks wide 0 m y.0 x n) e.1 y.3)
          | inr g ↦ let a = stuck_to 0 (goes_onward toks 0 y.0 g.goes_on) (omega arith) y.3 in let b = r.most y.0 (whole (widen toks (any_wider wide) y.2)) in ends (omega arith)
        ]
      ];
    }

    pub refuse_first : (m x : ℕ) → Refuses toks room (level 0) at x → Refuses toks room (level m) at x
    refuse_first m x r = record {
      prefix = raised_prefix 0 m (omega arith) r.prefix;
      never = λ j w d. let y = split toks m at j w d in front (stuck 0 (goes_onward toks 0 y.0 (r.never y.0 y.1 y.2).goes_on) (omega arith) (omega arith) y.3);
      most = λ n q. elim (split_to toks m q) [
        | inl p ↦ r.most n p
        | inr y ↦ let a = stuck_to 0 (goes_onward toks 0 y.0 (r.never y.0 y.1 y.2).goes_on) (omega arith) y.3 in let b = r.most y.0 (whole y.2) in omega arith
      ];
    }

    pub deep_first : (m x : ℕ) → TooDeep toks room (level 0) at x → TooDeep toks room (level m) at x
    deep_first m x r = record {
      prefix = raised_prefix 0 m (omega arith) r.prefix;
      begins = raised_prefix 0 m (omega arith) r.begins;
      never = λ j w d. let y = split toks m at j w d in front (stuck 0 (goes_onward toks 0 y.0 (r.never y.0 y.1 y.2).goes_on) (omega arith) (omega arith) y.3);
      most = λ n q. elim (split_to toks m q) [
        | inl p ↦ r.most n p
        | inr y ↦ let a = stuck_to 0 (goes_onward toks 0 y.0 (r.never y.0 y.1 y.2).goes_on) (omega arith) y.3 in let b = r.most y.0 (whole y.2) in omega arith
      ];
    }

  -- at an operator of level l + 1
  module _ {room at low k l : ℕ} {v : plain.Expression} {o : Marked} (s : SoFar toks room low at k v) (op : IsOperator toks k (suc l) o) (from : low ≤ suc l) where
    left_fits : of_expression v + 1 ≤ room → Derives toks (at_most (room - 1)) (level (suc l)) at k v
    left_fits h = shallow toks (room - 1) p_level (omega arith) (raised low (suc l) from s.derives)

    -- a reading of the right side, where the chain goes over this operator
    turned : {inner : Room} {l' m : ℕ} {o' : Marked} {b : plain.Expression} → IsOperator toks k (suc l') o' → Derives toks inner (level l') (k + 1) m b → Derives toks inner (level l) (k + 1) m b
    turned {inner} {l'} {m} {o'} {b} s' d = let y = same_mark s' op in let e : l' ≡ l = omega (arith, y.1) in subst (λ x. Derives toks inner (level x) (k + 1) m b) e d

    turned_to : {inner : Room} {l' n : ℕ} {o' : Marked} → IsOperator toks k (suc l') o' → Prefix toks inner (level l') (k + 1) n → Prefix toks inner (level l) (k + 1) n
    turned_to {inner} {l'} {n} s' q = let y = same_mark s' op in let e : l' ≡ l = omega (arith, y.1) in subst (λ x. Prefix toks inner (level x) (k + 1) n) e q

    module _ {m : ℕ} {b : plain.Expression} (r : Reads toks (room - 1) (level l) (k + 1) m b) where
      only_on : {wide : Room} {top j : ℕ} {w : plain.Expression} → suc l ≤ top → Chain toks wide low top k v j w → GoesOn toks (level top) j ⊎ Chain toks wide (suc l) top m (joined v o b) j w
      only_on {top} h stop = inl (operator_goes_on toks top (omega arith) op)
      only_on {wide} {top} {j} {w} h (go {l = l'} {m = m'} {o = o'} {b = b'} c e s' x d f) =
          let y = same_mark s' op in
          let z : l' ≡ l = omega (arith, y.1) in
          let d' = turned s' d in
          elim (r.only m' b' (widen toks (any_wider (below wide 1)) d')) [
            | inl g ↦ inr (subst (λ x. Chain toks wide (suc x) top m (joined v o b) j w) z (subst (λ x. Chain toks wide (suc l') top m (joined v x b) j w) y.0 (subst (λ x. Chain toks wide (suc l') top m (joined v o' x) j w) g.1 (subst (λ x. Chain toks wide (suc l') top x (joined v o' b') j w) g.0 f))))
            | inr g ↦ inl (stuck l (goes_onward toks l m' g.goes_on) (omega arith) (omega arith) f)
          ]

      most_on : {wide : Room} {top n : ℕ} → suc l ≤ top → ChainTo toks wide low top k v n → ChainTo toks wide (suc l) top m (joined v o b) n
      most_on h (ends e) = let a = r.most (k + 1) nothing in ends (omega arith)
      most_on {wide} h (inside c e s' x q) = ends (r.most _ (widen_prefix toks (any_wider (below wide 1)) (turned_to s' q)))
      most_on {wide} {top} {n} h (onward {l = l'} {m = m'} {o = o'} {b = b'} c e s' x d f) =
          let y = same_mark s' op in
          let z : l' ≡ l = omega (arith, y.1) in
          let d' = widen toks (any_wider (below wide 1)) (turned s' d) in
          elim (r.only m' b' d') [
            | inl g ↦ subst (λ x. ChainTo toks wide (suc x) top m (joined v o b) n) z (subst (λ x. ChainTo toks wide (suc l') top m (joined v x b) n) y.0 (subst (λ x. ChainTo toks wide (suc l') top m (joined v o' x) n) g.1 (subst (λ x. ChainTo toks wide (suc l') top x (joined v o' b') n) g.0 f)))
            | inr g ↦ let a = stuck_to l (goes_onward toks l m' g.goes_on) (omega arith) f in let c' = r.most m' (whole d') in ends (omega arith)
          ]

      -- over it and its right side
      pub step : of_expression v + 1 ≤ room → SoFar toks room (suc l) at m (joined v o b)
      step h = record {
        derives = from_rules toks (level (suc l)) (inr (inl ((v, (o, (b, tt))), omega arith, (k, left_fits h, (k + 1, is_operator toks op, (m, r.derives, refl))), refl, refl)));
        only = λ wide top j w e d. elim (s.only wide top j w (omega arith) d) [ inl g ↦ inl g | inr c ↦ only_on e c ];
        most = λ wide top n e q. most_on e (s.most wide top n (omega arith) q);
      }

    begun : {x : ℕ} {wide : Room} → HasRoom wide 1 → Derives toks (below wide 1) (level (suc l)) at k v → Prefix toks (below wide 1) (level l) (k + 1) x → Prefix toks wide (level (suc l)) at x
    begun {x} h d q = from_starts toks (level (suc l)) (inr (inl (h, inr (k, v, d, inr (k + 1, o, is_operator toks op, inl q)))))

    never_on : {wide : Room} {top j : ℕ} {w : plain.Expression} → l < top → ((j : ℕ) (w : plain.Expression) → Derives toks (below wide 1) (level l) (k + 1) j w → GoesOn toks (level l) j) → Chain toks wide low top k v j w → GoesOn toks (level top) j
    never_on {top} h f stop = operator_goes_on toks top h op
    never_on h f (go {m = m'} {b = b'} c e s' x d g) = let y = same_mark s' op in stuck l (goes_onward toks l m' (f m' b' (turned s' d))) (omega (arith, y.1)) (omega arith) g

    most_off : {wide : Room} {top x n : ℕ} → ((j : ℕ) (w : plain.Expression) → Derives toks (below wide 1) (level l) (k + 1) j w → GoesOn toks (level l) j) → ((n : ℕ) → Prefix toks (below wide 1) (level l) (k + 1) n → n ≤ x) → ChainTo toks wide low top k v n → n ≤ x
    most_off f most (ends e) = let a = most (k + 1) nothing in omega arith
    most_off f most (inside c e s' x q) = most _ (turned_to s' q)
    most_off f most (onward {m = m'} {b = b'} c e s' x d g) =
        let y = same_mark s' op in
        let d' = turned s' d in
        let a = stuck_to l (goes_onward toks l m' (f m' b' d')) (omega (arith, y.1)) g in
        let b = most m' (whole d') in
        omega arith

    module _ (m : ℕ) (under : l < m) where
      pub refuse_right : (x : ℕ) → of_expression v + 1 ≤ room → Refuses toks (room - 1) (level l) (k + 1) x → Refuses toks room (level m) at x
      refuse_right x h r = record {
        prefix = raised_prefix (suc l) m (omega arith) (begun (omega arith) (left_fits h) r.prefix);
        never = λ j w d. front (elim (s.only unlimited m j w (omega arith) d) [ inl g ↦ g | inr c ↦ never_on under (λ j w d. (r.never j w d).goes_on) c ]);
        most = λ n q. most_off (λ j w d. (r.never j w d).goes_on) r.most (s.most unlimited m n (omega arith) q);
      }

      pub deep_right : (x : ℕ) → of_expression v + 1 ≤ room → TooDeep toks (room - 1) (level l) (k + 1) x → TooDeep toks room (level m) at x
      deep_right x h r = record {
        prefix = raised_prefix (suc l) m (omega arith) (begun (omega arith) (left_fits h) r.prefix);
        begins = raised_prefix (suc l) m (omega arith) (begun tt (raised low (suc l) from (widen toks tt s.derives)) r.begins);
        never = λ j w d. front (elim (s.only (at_most room) m j w (omega arith) d) [ inl g ↦ g | inr c ↦ never_on under (λ j w d. (r.never j w d).goes_on) c ]);
        most = λ n q. most_off (λ j w d. (r.never j w d).goes_on) r.most (s.most (at_most room) m n (omega arith) q);
      }

      deep_only : {j : ℕ} {w : plain.Expression} → room < of_expression v + 1 → Chain toks (at_most room) low m k v j w → GoesOn toks (level m) j
      deep_only h stop = operator_goes_on toks m under op
      deep_only h (go c e s' x d f) = absurd (omega arith)

      deep_most : {n : ℕ} → room < of_expression v + 1 → ChainTo toks (at_most room) low m k v n → n ≤ k
      deep_most h (ends e) = e
      deep_most h (inside c e s' x q) = absurd (omega arith)
      deep_most h (onward c e s' x d f) = absurd (omega arith)

      -- there is no room for it
      pub deep_here : room < of_expression v + 1 → TooDeep toks room (level m) at k
      deep_here h = record {
        prefix = whole (raised low m (omega arith) s.derives);
        begins = raised_prefix (suc l) m (omega arith) (begun tt (raised low (suc l) from (widen toks tt s.derives)) nothing);
        never = λ j w d. front (elim (s.only (at_most room) m j w (omega arith) d) [ inl g ↦ g | inr c ↦ deep_only h c ]);
        most = λ n q. deep_most h (s.most (at_most room) m n (omega arith) q);
      }

  -- no operator of a level up to m stands behind it
  module _ {room at low k m : ℕ} {v : plain.Expression} (s : SoFar toks room low at k v) (h : low ≤ m) (none : (l : ℕ) (o : Marked) → l < m → IsOperator toks k (suc l) o → ⊥) where
    last : {wide : Room} {j : ℕ} {w : plain.Expression} → Chain toks wide low m k v j w → (j ≡ k) × (w ≡ v)
    last stop = (refl, refl)
    last (go {l} {o = o'} c e s' x d f) = absurd (none l o' e s')

    last_to : {wide : Room} {n : ℕ} → ChainTo toks wide low m k v n → n ≤ k
    last_to (ends e) = e
    last_to (inside {l} {o = o'} c e s' x q) = absurd (none l o' e s')
    last_to (onward {l} {o = o'} c e s' x d f) = absurd (none l o' e s')

    pub finish : Reads toks room (level m) at k v
    finish = record {
      derives = raised low m h s.derives;
      only = λ j w d. elim (s.only unlimited m j w h d) [ inl g ↦ inr (front g) | inr c ↦ inl (last c) ];
      most = λ n q. last_to (s.most unlimited m n h q);
    }
