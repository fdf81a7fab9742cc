-- Reading the items of a program, one behind the other, from its first token on.
use Rattle.std.proofs.Common.{◌≡◌, ℕ, ◌+◌, ◌<◌, ◌≤◌, ◌⊎◌, inl, inr, List, [], ◌∷◌, ◌++◌, length, Option, Some, None, append_assoc, append-nil, refl, sym as sym', ap, subst, ◌∙◌, arith}
use Rattle.xc_tree.specs.declared.token.Tok.{Tok}
use Rattle.xc_tree.specs.Plain.{Item}
use Rattle.xc_tree.specs.Symbol.{program, item, many}
use Rattle.xc_tree.specs.Grammar.{kept}
use Rattle.xc_tree.specs.Derives.{Room, unlimited, at_most, HasRoom, Derives, Row, next, done, Prefix, Begins, in_this, deepest}
use Rattle.xc_nonterminals.specs.declared.stop.Stop.{Stop}
use Rattle.xc_nonterminals.specs.declared.stop.Stop.TheVariants.{Wrong, Deep, Memory}
use Rattle.xc_nonterminals.specs.Follows.{OneOf, first}
use Rattle.xc_nonterminals.specs.Reading.{Reads, Refuses, TooDeep, IsFront}
use Rattle.xc_nonterminals.specs.Stops.{Stopped}
use Rattle.xc_nonterminals.specs.Programs.{NoProgram, NoShallow, Halted}
use Rattle.xc_nonterminals.proofs.Derivations.Forth.{inside_same, lift, lift_prefix, forth, prefix_forth, ahead}
use Rattle.xc_nonterminals.proofs.Derivations.Firsts.{prefix_first}
use Rattle.xc_nonterminals.proofs.Rests.Alternatives.{by_rules, from_rules, by_starts, from_starts}
use Rattle.xc_nonterminals.proofs.Derivations.Lists.{unrow, unend, unbegin, unbegin_none, many_split, many_none, many_more, many_begin, begin_many, more_many}
use Rattle.xc_nonterminals.proofs.Derivations.Cuts.{one_of_within}

-- These were read up to k: what derives items goes on there with further ones, or ends where an item begins.
pub record Onward (toks : List Tok) (room : Room) (k : ℕ) (xs : List (Option Item)) : Type 0 where
  pub derives : (j : ℕ) (ys : List (Option Item)) → Derives toks room (many item) k j ys → Derives toks room (many item) 0 j (xs ++ ys)
  pub only : (j : ℕ) (ws : List (Option Item)) → Derives toks room (many item) 0 j ws → OneOf toks j (first item) ⊎ ((ys : List (Option Item)) × Derives toks room (many item) k j ys × (ws ≡ xs ++ ys))
  pub prefix : (n : ℕ) → Prefix toks room (many item) k n → Prefix toks room (many item) 0 n
  pub most : (n : ℕ) → Prefix toks room (many item) 0 n → (n ≤ k) ⊎ Prefix toks room (many item) k n

-- with a limit and without, and these are the items that are no prototypes
pub record Gathers (toks : List Tok) (k : ℕ) (items : List Item) : Type 0 where
  pub all : List (Option Item)
  pub free : Onward toks unlimited k all
  pub held : Onward toks (at_most deepest) k all
  pub are : items ≡ kept all

-- one item is read from k up to l, and no other
record OneItem (toks : List Tok) (room : Room) (k l : ℕ) (v : Option Item) : Type 0 where
  pub derives : Derives toks room item k l v
  pub only : (j : ℕ) (w : Option Item) → Derives toks room item k j w → (j ≡ l) × (w ≡ v)
  pub most : (n : ℕ) → Prefix toks room item k n → n ≤ l

no_front : {toks : List Tok} {k : ℕ} {w : Option Item} → IsFront toks item k w → ⊥
no_front f = let g = f.goes_on.among in absurd (cc)

item_free : {toks : List Tok} {k l : ℕ} {v : Option Item} → Reads toks deepest item k l v → OneItem toks unlimited k l v
item_free r = record {
  derives = lift r.derives;
  only = λ j w d. elim (r.only j w d) [ inl e ↦ (e.0, e.1) | inr f ↦ absurd (no_front f) ];
  most = r.most;
}

item_held : {toks : List Tok} {k l : ℕ} {v : Option Item} → Reads toks deepest item k l v → OneItem toks (at_most deepest) k l v
item_held r = record {
  derives = r.derives;
  only = λ j w d. elim (r.only j w (lift d)) [ inl e ↦ (e.0, e.1) | inr f ↦ absurd (no_front f) ];
  most = λ n q. r.most n (lift_prefix q);
}

module _ {toks : List Tok} {room : Room} where
  none_onward : Onward toks room 0 []
  none_onward = record {
    derives = λ j ys d. d;
    only = λ j ws d. inr (ws, d, refl);
    prefix = λ n q. q;
    most = λ n q. inr q;
  }

  module _ {k l : ℕ} {xs : List (Option Item)} {v : Option Item} (a : Onward toks room k xs) (o : OneItem toks room k l v) where
    more_derives : (j : ℕ) (ys : List (Option Item)) → Derives toks room (many item) l j ys → Derives toks room (many item) 0 j ((xs ++ (v ∷ [])) ++ ys)
    more_derives j ys d = subst (Derives toks room (many item) 0 j) (sym' (append_assoc xs (v ∷ []) ys)) (a.derives j (v ∷ ys) (many_more o.derives d))

    more_only : (j : ℕ) (ws : List (Option Item)) → Derives toks room (many item) 0 j ws → OneOf toks j (first item) ⊎ ((ys : List (Option Item)) × Derives toks room (many item) l j ys × (ws ≡ (xs ++ (v ∷ [])) ++ ys))
    more_only j ws d = elim (a.only j ws d) [
      | inl x ↦ inl x
      | inr (ys, e, f) ↦ elim (many_split e) [
        | inl h ↦ inl (subst (λ n. OneOf toks n (first item)) (sym' h.0) (ahead refl o.derives))
        | inr (m, y, zs, g, t, eq) ↦
            let p = o.only m y g in
            inr (zs, subst (λ n. Derives toks room (many item) n j zs) p.0 t, f ∙ ap (λ us. xs ++ us) (eq ∙ ap (λ u. u ∷ zs) p.1) ∙ sym' (append_assoc xs (v ∷ []) zs))
      ]
    ]

    more_most : (n : ℕ) → Prefix toks room (many item) 0 n → (n ≤ l) ⊎ Prefix toks room (many item) l n
    more_most n q = elim (a.most n q) [
      | inl h ↦ let g = forth o.derives in inl (omega arith)
      | inr q' ↦ elim (many_begin q') [
        | inl h ↦ let g = forth o.derives in inl (omega arith)
        | inr z ↦ elim z [
          | inl p ↦ inl (o.most n p)
          | inr (m, y, d, p) ↦ inr (subst (λ i. Prefix toks room (many item) i n) (o.only m y d).0 p)
        ]
      ]
    ]

    more_onward : Onward toks room l (xs ++ (v ∷ []))
    more_onward = record {
      derives = more_derives;
      only = more_only;
      prefix = λ n q. a.prefix n (more_many o.derives q);
      most = more_most;
    }

pub gathers_none : {toks : List Tok} → Gathers toks 0 []
gathers_none = record { all = []; free = none_onward; held = none_onward; are = refl }

-- a program is its items
no_nodes : (room : Room) → HasRoom room 0
no_nodes unlimited = tt
no_nodes (at_most n) = omega arith

module _ {toks : List Tok} {room : Room} where
  of_items : {i j : ℕ} {xs : List (Option Item)} → Derives toks room (many item) i j xs → Derives toks room program i j (kept xs)
  of_items {i} {j} {xs} d =
      from_rules toks room program i j (kept xs) (inl ((xs, tt), no_nodes room, subst (λ (r : Room). Row toks r (many item ∷ []) i j (xs, tt)) (sym' (inside_same room 0)) (next d done), refl, refl))

  its_items : {i j : ℕ} {is : List Item} → Derives toks room program i j is → (xs : List (Option Item)) × Derives toks room (many item) i j xs × (is ≡ kept xs)
  its_items {i} {j} {is} d = elim (by_rules toks room program i j is refl d) [
    | inl x ↦
        let a = unrow x.2 in
        (x.0.0, subst (λ n. Derives toks room (many item) i n x.0.0) (sym' (unend a.2)) (subst (λ (r : Room). Derives toks r (many item) i a.0 x.0.0) (inside_same room 0) a.1), x.4)
    | inr w ↦ absurd w
  ]

  begin_items : {i n : ℕ} → Prefix toks room (many item) i n → Prefix toks room program i n
  begin_items {i} {n} q = from_starts toks room program i n (inl (no_nodes room, subst (λ (r : Room). Begins toks r (many item ∷ []) i n) (sym' (inside_same room 0)) (in_this q)))

  items_begin : {i n : ℕ} → Prefix toks room program i n → (n ≤ i) ⊎ Prefix toks room (many item) i n
  items_begin {i} {n} q = elim (by_starts toks room program i n refl q) [
    | inl h ↦ inl h
    | inr z ↦ elim z [
      | inl x ↦ elim (unbegin (subst (λ (r : Room). Begins toks r (many item ∷ []) i n) (inside_same room 0) x.1)) [ inl p ↦ inr p | inr y ↦ absurd (unbegin_none y.3) ]
      | inr w ↦ absurd w
    ]
  ]

kept_push : (xs : List (Option Item)) (i : Item) → kept (xs ++ (Some i ∷ [])) ≡ kept xs ++ (i ∷ [])
kept_push [] i = refl
kept_push (None ∷ xs) i = kept_push xs i
kept_push (Some x ∷ xs) i = ap (λ is. x ∷ is) (kept_push xs i)

kept_same : (xs : List (Option Item)) → kept (xs ++ (None ∷ [])) ≡ kept xs
kept_same [] = refl
kept_same (None ∷ xs) = kept_same xs
kept_same (Some x ∷ xs) = ap (λ is. x ∷ is) (kept_same xs)

-- Each step of the loop: one more item, a prototype, the end, and an item that was refused.
module _ {toks : List Tok} {k : ℕ} {items : List Item} (g : Gathers toks k items) where
  pub one_item : {l : ℕ} {i : Item} → Reads toks deepest item k l (Some i) → Gathers toks l (items ++ (i ∷ []))
  one_item {l} {i} r = record {
    all = g.all ++ (Some i ∷ []);
    free = more_onward g.free (item_free r);
    held = more_onward g.held (item_held r);
    are = ap (λ is. is ++ (i ∷ [])) g.are ∙ sym' (kept_push g.all i);
  }

  pub one_prototype : {l : ℕ} → Reads toks deepest item k l None → Gathers toks l items
  one_prototype {l} r = record {
    all = g.all ++ (None ∷ []);
    free = more_onward g.free (item_free r);
    held = more_onward g.held (item_held r);
    are = g.are ∙ sym' (kept_same g.all);
  }

  module _ (none : OneOf toks k (first item) → ⊥) where
    last_derives : Derives toks (at_most deepest) program 0 k items
    last_derives =
        let d = subst (Derives toks (at_most deepest) (many item) 0 k) (append-nil g.all) (g.held.derives k [] many_none) in
        subst (Derives toks (at_most deepest) program 0 k) (sym' g.are) (of_items d)

    last_only : (j : ℕ) (is : List Item) → Derives toks unlimited program 0 j is → ((j ≡ k) × (is ≡ items)) ⊎ IsFront toks program j is
    last_only j is d =
        let x = its_items d in
        elim (g.free.only j x.0 x.1) [
          | inl o ↦ inr (record { goes_on = o; may = refl })
          | inr (ys, e, f) ↦ elim (many_split e) [
            | inl h ↦ inl (h.0, x.2 ∙ ap kept (f ∙ ap (λ us. g.all ++ us) h.1 ∙ append-nil g.all) ∙ sym' g.are)
            | inr (m, y, zs, t, more, eq) ↦ absurd (none (ahead refl t))
          ]
        ]

    last_most : (n : ℕ) → Prefix toks unlimited program 0 n → n ≤ k
    last_most n q = elim (items_begin q) [
      | inl h ↦ omega arith
      | inr p ↦ elim (g.free.most n p) [
        | inl h ↦ h
        | inr p' ↦ elim (many_begin p') [
          | inl h ↦ h
          | inr z ↦ elim z [
            | inl t ↦ elim (prefix_first toks unlimited item k n t) [ inl h ↦ h | inr o ↦ absurd (none o) ]
            | inr (m, y, t, more) ↦ absurd (none (ahead refl t))
          ]
        ]
      ]
    ]

    -- where no item begins the program ends
    pub no_item : Reads toks deepest program 0 k items
    no_item = record { derives = last_derives; only = last_only; most = last_most }

  module _ {m : ℕ} (h : k < length toks) where
    item_wrong : Refuses toks deepest item k m → NoProgram toks m
    item_wrong r = record {
      prefix = begin_items (g.held.prefix m (begin_many r.prefix));
      none = λ is d.
          let x = its_items d in
          elim (g.free.only (length toks) x.0 x.1) [
            | inl o ↦ let l = one_of_within o in absurd (omega arith)
            | inr (ys, e, f) ↦ elim (many_split e) [
              | inl (e', f') ↦ absurd (omega arith)
              | inr (n, y, zs, t, more, eq) ↦ absurd (no_front (r.never n y t))
            ]
          ];
      most = λ n q.
          let l = prefix_forth r.prefix in
          elim (items_begin q) [
            | inl e ↦ omega arith
            | inr p ↦ elim (g.free.most n p) [
              | inl e ↦ omega arith
              | inr p' ↦ elim (many_begin p') [
                | inl e ↦ omega arith
                | inr z ↦ elim z [ inl t ↦ r.most n t | inr (i, y, t, more) ↦ absurd (no_front (r.never i y t)) ]
              ]
            ]
          ];
    }

    item_deep : TooDeep toks deepest item k m → NoShallow toks m
    item_deep r = record {
      prefix = begin_items (g.held.prefix m (begin_many r.prefix));
      begins = begin_items (g.free.prefix (m + 1) (begin_many r.begins));
      most = λ n q.
          let l = prefix_forth r.prefix in
          elim (items_begin q) [
            | inl e ↦ omega arith
            | inr p ↦ elim (g.held.most n p) [
              | inl e ↦ omega arith
              | inr p' ↦ elim (many_begin p') [
                | inl e ↦ omega arith
                | inr z ↦ elim z [ inl t ↦ r.most n t | inr (i, y, t, more) ↦ absurd (no_front (r.never i y t)) ]
              ]
            ]
          ];
    }

  pub item_stops : (e : Stop) → k < length toks → Stopped toks deepest item k e → Halted toks e
  item_stops (Wrong m) h r = item_wrong h r
  item_stops (Deep m) h r = item_deep h r
  item_stops Memory h r = tt
