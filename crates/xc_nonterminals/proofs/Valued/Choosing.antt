-- Expressions with `? :`: what stands behind the test.
use Rattle.std.proofs.Common.{◌≡◌, ℕ, suc, ◌+◌, ◌-◌, ◌<◌, ◌≤◌, ◌⊎◌, inl, inr, true, List, [], ◌∷◌, refl, sym as sym', ap, subst, ◌∙◌, arith}
use Rattle.std.proofs.lemmas.Bool.{and_parts, or_cases, eqb-true}
use Rattle.xw_words.specs.declared.pos.Pos.{Pos}
use Rattle.xc_tree.specs.declared.token.Tok.{Tok}
use Rattle.xc_tree.specs.declared.token.Kind.TheVariants.{Sym}
use Rattle.xc_tree.specs.Plain as plain
use Rattle.xc_tree.specs.Symbol.{Symbol, sym, key, a_name, a_number, expr, level}
use Rattle.xc_tree.specs.Depth.{of_expression}
use Rattle.xc_tree.specs.Derives.{On, Room, unlimited, at_most, HasRoom, below, Derives, a_sym, Prefix, nothing, whole}
use Rattle.xc_nonterminals.specs.declared.stop.Stop.{Stop}
use Rattle.xc_nonterminals.specs.declared.stop.Stop.TheVariants.{Wrong, Deep, Memory}
use Rattle.xc_nonterminals.specs.Follows.{has, is_same, follows}
use Rattle.xc_nonterminals.specs.Reading.{GoesOn, IsFront, Reads, Refuses, TooDeep}
use Rattle.xc_nonterminals.specs.Stops.{Stopped}
use Rattle.xc_nonterminals.specs.Levels.{level_of}
use Rattle.xc_nonterminals.proofs.Derivations.TokenSets.{false_true}
use Rattle.xc_nonterminals.proofs.Derivations.Inverse.{Begun, by_rules, from_rules, by_starts, from_starts, widen, widen_prefix, any_wider, below_wider, same_kind, same_pos}
use Rattle.xc_nonterminals.proofs.Valued.Operators.{token_is, token_prefix, Onward, index, operates, goes_onward}
use Rattle.xc_nonterminals.proofs.Derivations.Heights.{p_level, depth_fits, shallow, no_room}
use Rattle.xc_nonterminals.proofs.Valued.Climbing.{wider_zero}
use Rattle.xc_nonterminals.proofs.Rests.Rests.{Part, Rest, Open, Stands}
use Rattle.xc_nonterminals.proofs.Rests.Rests as rest
use Rattle.xc_nonterminals.proofs.Rests.Opening.{within}
use Rattle.xc_nonterminals.proofs.Reading.Paths.{Roomy, roomy, read, stops, over_symbol, lacks_symbol, none_left, finish}
use Rattle.xc_tree.specs.Terminals as terminal

abbrev chosen : plain.Expression → plain.Expression → plain.Expression → Pos → plain.Expression
chosen c a b p = plain.expression (plain.choice c a b) p

has_same : (xs : List Symbol) (x t : Symbol) → has xs x ≡ true → is_same x t ≡ true → has xs t ≡ true
has_same xs (sym a) (sym b) e h = subst (λ y. has xs (sym y) ≡ true) (eqb-true a b h) e
has_same xs (key a) (key b) e h = subst (λ y. has xs (key y) ≡ true) (eqb-true a b h) e
has_same xs a_name a_name e h = e
has_same xs a_number a_number e h = e
has_same xs (sym a) t e h = absurd (false_true h)
has_same xs (key a) t e h = absurd (false_true h)
has_same xs a_name t e h = absurd (false_true h)
has_same xs a_number t e h = absurd (false_true h)
has_same xs s t e h = absurd (false_true h)

pub has_within : (xs ys : List Symbol) (t : Symbol) → within xs ys ≡ true → has xs t ≡ true → has ys t ≡ true
has_within [] ys t w h = absurd (cc)
has_within (x ∷ xs) ys t w h =
    let p = and_parts (has ys x) (within xs ys) w in
    elim (or_cases (is_same x t) (has xs t) h) [ inl e ↦ has_same ys x t p.0 e | inr e ↦ has_within xs ys t p.1 e ]

module _ (toks : List Tok) where
  pub expr_goes : (k : ℕ) → GoesOn toks (level 10) k → GoesOn toks expr k
  expr_goes k g = record { token = g.token; stands = g.stands; among = has_within (follows (level 10)) (follows expr) g.token refl g.among }

  pub question_goes : {k : ℕ} {p : Pos} → On toks k (Sym 9) p → GoesOn toks expr k
  question_goes {k} {p} on = record { token = terminal.question; stands = (p, on); among = refl }

  front : {k : ℕ} {w : plain.Expression} → GoesOn toks expr k → IsFront toks expr k w
  front g = record { goes_on = g; may = refl }

  -- no level goes on with `?`
  clash_of : {k : ℕ} {p : Pos} → On toks k (Sym 9) p → Onward toks 10 k → ⊥
  clash_of on (index on') = let e = same_kind on on' in absurd (cc)
  clash_of on (operates {l} {o} h s) =
      let e = same_kind on s.on in
      let m : 9 ≡ o.mark = cc in
      let b : level_of 9 ≡ suc l = ap level_of m ∙ s.binds in
      absurd (cc)

  clash : {k : ℕ} {p : Pos} → On toks k (Sym 9) p → GoesOn toks (level 10) k → ⊥
  clash {k} on g = clash_of on (goes_onward toks 10 k g)

  -- a test, and what stands behind it
  pub record Chooses (room : Room) (i j : ℕ) (w : plain.Expression) : Type 0 where
    pub one : HasRoom room 1
    pub test : plain.Expression
    pub question : ℕ
    pub tested : Derives toks (below room 1) (level 10) i question test
    pub pos : Pos
    pub on : On toks question (Sym 9) pos
    pub first : plain.Expression
    pub colon : ℕ
    pub firsts : Derives toks (below room 1) expr (question + 1) colon first
    pub mark : Pos
    pub behind : On toks colon (Sym 8) mark
    pub second : plain.Expression
    pub seconds : Derives toks (below room 1) expr (colon + 1) j second
    pub is : w ≡ chosen test first second pos

  pub expr_is : {room : Room} {i j : ℕ} {w : plain.Expression} → Derives toks room expr i j w → Derives toks room (level 10) i j w ⊎ Chooses room i j w
  expr_is {room} {i} {j} {w} d = elim (by_rules toks expr refl d) [
    | inl e ↦ inl (subst (λ k. Derives toks room (level 10) i k w) (sym' e.2.2) (subst (Derives toks room (level 10) i e.2.0) (sym' e.4) (widen toks (below_wider room 0) e.2.1)))
    | inr (inl e) ↦
        let r = e.2 in
        let q = token_is toks r.2.1 in
        let c = token_is toks r.2.2.2.1 in
        inr (record {
          one = e.1;
          test = e.0.0;
          question = r.0;
          tested = r.1;
          pos = e.0.1.0;
          on = q.1;
          first = e.0.1.1.0;
          colon = r.2.2.0;
          firsts = subst (λ k. Derives toks (below room 1) expr k r.2.2.0 e.0.1.1.0) q.0 r.2.2.1;
          mark = e.0.1.1.1.0;
          behind = c.1;
          second = e.0.1.1.1.1.0;
          seconds = subst (λ k. Derives toks (below room 1) expr (r.2.2.0 + 1) k e.0.1.1.1.1.0) (sym' r.2.2.2.2.2) (subst (λ k. Derives toks (below room 1) expr k r.2.2.2.2.0 e.0.1.1.1.1.0) c.0 r.2.2.2.2.1);
          is = e.4;
        })
    | inr (inr e) ↦ absurd e
  ]

  -- the beginning of what stands behind a test
  pub record ChoosesTo (room : Room) (i n : ℕ) : Type 0 where
    pub one : HasRoom room 1
    pub test : plain.Expression
    pub question : ℕ
    pub tested : Derives toks (below room 1) (level 10) i question test
    pub pos : Pos
    pub on : On toks question (Sym 9) pos
    pub rest : Begun toks (below room 1) (expr ∷ terminal.colon ∷ expr ∷ []) (question + 1) n

  pub expr_to : {room : Room} {i n : ℕ} → Prefix toks room expr i n → Prefix toks room (level 10) i n ⊎ ChoosesTo room i n
  expr_to {room} {i} {n} q = elim (by_starts toks expr q) [
    | inl e ↦ inl (subst (Prefix toks room (level 10) i) (sym' e) nothing)
    | inr (inl y) ↦ elim (expr_is y.1) [
      | inl d ↦ inl (whole d)
      | inr c ↦ inr (record { one = c.one; test = c.test; question = c.question; tested = c.tested; pos = c.pos; on = c.on; rest = inr (c.colon, c.first, c.firsts, inr (c.colon + 1, c.mark, a_sym c.behind, inl (whole c.seconds))) })
    ]
    | inr (inr (inl (h, inl p))) ↦ inl (widen_prefix toks (below_wider room 0) p)
    | inr (inr (inl (h, inr y))) ↦ absurd y.3
    | inr (inr (inr (inl (h, inl p)))) ↦ inl (widen_prefix toks (below_wider room 1) p)
    | inr (inr (inr (inl (h, inr (k, c, d, inl p))))) ↦ elim (token_prefix toks p) [
      | inl e ↦ inl (subst (Prefix toks room (level 10) i) (sym' e) (whole (widen toks (below_wider room 1) d)))
      | inr t ↦ inr (record { one = h; test = c; question = k; tested = d; pos = t.1; on = t.2; rest = inl (subst (Prefix toks (below room 1) expr (k + 1)) (sym' t.0) nothing) })
    ]
    | inr (inr (inr (inl (h, inr (k, c, d, inr (m, p, t, y)))))) ↦
        let z = token_is toks t in
        inr (record { one = h; test = c; question = k; tested = d; pos = p; on = z.1; rest = subst (λ x. Begun toks (below room 1) (expr ∷ terminal.colon ∷ expr ∷ []) x n) z.0 y })
    | inr (inr (inr (inr e))) ↦ absurd e
  ]

  -- a level as a whole expression
  pub alone : {room : Room} {i j : ℕ} {v : plain.Expression} → Derives toks room (level 10) i j v → Derives toks room expr i j v
  alone {room} {i} {j} {v} d = from_rules toks expr (inl ((v, tt), no_room room, (j, widen toks (wider_zero room) d, refl), refl, refl))

  pub alone_to : {room : Room} {i n : ℕ} → Prefix toks room (level 10) i n → Prefix toks room expr i n
  alone_to {room} q = from_starts toks expr (inl (no_room room, inl (widen_prefix toks (wider_zero room) q)))

  pub asked : {room : Room} {i k n : ℕ} {v : plain.Expression} {p : Pos} → HasRoom room 1 → Derives toks (below room 1) (level 10) i k v → On toks k (Sym 9) p → n ≡ k + 1 → Prefix toks room expr i n
  asked {room} {i} {k} {n} {v} {p} h d on e = subst (Prefix toks room expr i) (sym' e) (from_starts toks expr (inr (inl (h, inr (k, v, d, inl (whole (a_sym on)))))))

  module _ (room at : ℕ) where
    -- the test isn't read
    pub no_test : (e : Stop) → Stopped toks room (level 10) at e → Stopped toks room expr at e
    no_test (Wrong x) r = record {
      prefix = alone_to r.prefix;
      never = λ j w d. elim (expr_is d) [ inl y ↦ front (expr_goes j (r.never j w y).goes_on) | inr c ↦ absurd (clash c.on (r.never c.question c.test (widen toks (any_wider unlimited) c.tested)).goes_on) ];
      most = λ n q. elim (expr_to q) [ inl y ↦ r.most n y | inr c ↦ absurd (clash c.on (r.never c.question c.test (widen toks (any_wider unlimited) c.tested)).goes_on) ];
    }
    no_test (Deep x) r = record {
      prefix = alone_to r.prefix;
      begins = alone_to r.begins;
      never = λ j w d. elim (expr_is d) [ inl y ↦ front (expr_goes j (r.never j w y).goes_on) | inr c ↦ absurd (clash c.on (r.never c.question c.test (widen toks (below_wider (at_most room) 1) c.tested)).goes_on) ];
      most = λ n q. elim (expr_to q) [ inl y ↦ r.most n y | inr c ↦ absurd (clash c.on (r.never c.question c.test (widen toks (below_wider (at_most room) 1) c.tested)).goes_on) ];
    }
    no_test Memory r = tt

  module _ {room at : ℕ} where
    module _ {k : ℕ} {v : plain.Expression} (r : Reads toks room (level 10) at k v) where
      -- a choice is behind this test
      same_test : {wide : Room} {j : ℕ} {c : plain.Expression} {p : Pos} → Derives toks wide (level 10) at j c → On toks j (Sym 9) p → (j ≡ k) × (c ≡ v)
      same_test {wide} {j} {c} d on = elim (r.only j c (widen toks (any_wider wide) d)) [ inl e ↦ e | inr g ↦ absurd (clash on g.goes_on) ]

      -- no choice
      pub no_question : ((p : Pos) → On toks k (Sym 9) p → ⊥) → Reads toks room expr at k v
      no_question none = record {
        derives = alone r.derives;
        only = λ j w d. elim (expr_is d) [
          | inl y ↦ elim (r.only j w y) [ inl e ↦ inl e | inr g ↦ inr (front (expr_goes j g.goes_on)) ]
          | inr c ↦ let e = same_test c.tested c.on in absurd (none c.pos (subst (λ x. On toks x (Sym 9) c.pos) e.0 c.on))
        ];
        most = λ n q. elim (expr_to q) [
          | inl y ↦ r.most n y
          | inr c ↦ let e = same_test c.tested c.on in absurd (none c.pos (subst (λ x. On toks x (Sym 9) c.pos) e.0 c.on))
        ];
      }

      module _ {p : Pos} (on : On toks k (Sym 9) p) where
        too_high : {j : ℕ} {c : plain.Expression} {q : Pos} → room < of_expression v + 1 → 1 ≤ room → Derives toks (at_most (room - 1)) (level 10) at j c → On toks j (Sym 9) q → ⊥
        too_high {j} {c} {q} h one d on' = let e = same_test d on' in let f = depth_fits toks p_level d in let g : of_expression v ≤ room - 1 = subst (λ x. of_expression x ≤ room - 1) e.1 f in omega arith

        -- there is no room for a choice
        pub deep_question : room < of_expression v + 1 → TooDeep toks room expr at k
        deep_question h = record {
          prefix = whole (alone r.derives);
          begins = asked tt (widen toks tt r.derives) on refl;
          never = λ j w d. elim (expr_is d) [
            | inl y ↦ elim (r.only j w (widen toks tt y)) [ inl e ↦ front (subst (GoesOn toks expr) (sym' e.0) (question_goes on)) | inr g ↦ front (expr_goes j g.goes_on) ]
            | inr c ↦ absurd (too_high h c.one c.tested c.on)
          ];
          most = λ n q. elim (expr_to q) [ inl y ↦ r.most n (widen_prefix toks tt y) | inr c ↦ absurd (too_high h c.one c.tested c.on) ];
        }

        abbrev behind : Rest plain.Expression
        behind = record {
          need = 1;
          parts = record { above = 1; symbol = expr } ∷ record { above = 1; symbol = terminal.colon } ∷ record { above = 1; symbol = expr } ∷ [];
          fits = λ x. true;
          make = λ e x. chosen v x.0 x.1.1.0 p;
        }

        back : (wide : Room) {n : ℕ} → rest.BeginsOf toks wide behind.parts (k + 1) n → Begun toks (below wide 1) (expr ∷ terminal.colon ∷ expr ∷ []) (k + 1) n
        back wide (inl q) = inl q.1
        back wide (inr (m, a, h, d, inl q)) = inr (m, a, d, inl q.1)
        back wide (inr (m, a, h, d, inr (l, u, g, e, inl q))) = inr (m, a, d, inr (l, u, e, inl q.1))
        back wide (inr (m, a, h, d, inr (l, u, g, e, inr (i, b, f, c, x)))) = absurd x

        forward : (wide : Room) {n : ℕ} → HasRoom wide 1 → Begun toks (below wide 1) (expr ∷ terminal.colon ∷ expr ∷ []) (k + 1) n → rest.BeginsOf toks wide behind.parts (k + 1) n
        forward wide one (inl q) = inl (one, q)
        forward wide one (inr (m, a, d, inl q)) = inr (m, a, one, d, inl (one, q))
        forward wide one (inr (m, a, d, inr (l, u, e, inl q))) = inr (m, a, one, d, inr (l, u, one, e, inl (one, q)))
        forward wide one (inr (m, a, d, inr (l, u, e, inr (i, b, c, x)))) = absurd x

        goes_over : {wide : Room} {j : ℕ} {w : plain.Expression} → Chooses wide at j w → rest.EndsBy toks wide behind at (k + 1) j w
        goes_over {wide} {j} {w} c =
            let e = same_test c.tested c.on in
            let on' = subst (λ x. On toks x (Sym 9) c.pos) e.0 c.on in
            let q = same_pos on' on in
            let d = subst (λ x. Derives toks (below wide 1) expr (x + 1) c.colon c.first) e.0 c.firsts in
            ((c.first, (c.mark, (c.second, tt))), c.one, (c.colon, c.one, d, (c.colon + 1, c.one, a_sym c.behind, (j, c.one, c.seconds, refl))), refl, c.is ∙ ap (λ x. chosen x c.first c.second c.pos) e.1 ∙ ap (chosen v c.first c.second) q)

        module _ (wide : Room) (one : HasRoom wide 1) (left : Derives toks (below wide 1) (level 10) at k v) where
          opened : Open toks wide expr at (k + 1) (k + 1) (behind ∷ [])
          opened = record {
            derives = λ j w x. elim x [
              | inl e ↦ let y = e.2 in from_rules toks expr (inr (inl ((v, (p, (e.0.0, (e.0.1.0, (e.0.1.1.0, tt))))), one, (k, left, (k + 1, a_sym on, (y.0, y.2, (y.3.0, y.3.2, (y.3.3.0, y.3.3.2, y.3.3.3))))), refl, e.4)))
              | inr e ↦ absurd e
            ];
            only = λ j w d. elim (expr_is d) [
              | inl y ↦ elim (r.only j w (widen toks (any_wider wide) y)) [ inl e ↦ inl (front (subst (GoesOn toks expr) (sym' e.0) (question_goes on))) | inr g ↦ inl (front (expr_goes j g.goes_on)) ]
              | inr c ↦ inr (inl (goes_over c))
            ];
            prefix = λ n x. elim x [
              | inl e ↦ from_starts toks expr (inr (inl (one, inr (k, v, left, inr (k + 1, p, a_sym on, back wide e.1)))))
              | inr e ↦ absurd e
            ];
            here = asked one left on refl;
            most = λ n q. elim (expr_to q) [
              | inl y ↦ let a = r.most n (widen_prefix toks (any_wider wide) y) in inl (omega arith)
              | inr c ↦ let e = same_test c.tested c.on in inr (inl (one, forward wide one (subst (λ x. Begun toks (below wide 1) (expr ∷ terminal.colon ∷ expr ∷ []) (x + 1) n) e.0 c.rest)))
            ];
          }

        -- behind the `?`
        pub question : of_expression v + 1 ≤ room → Roomy toks room expr at (k + 1) (behind ∷ [])
        question h = roomy (record {
          free = opened unlimited tt (widen toks tt r.derives);
          held = opened (at_most room) (omega arith) (shallow toks (room - 1) p_level (omega arith) r.derives);
        }) (omega arith)

        module _ (h : of_expression v + 1 ≤ room) where
          pub stops_first : (e : Stop) → Stopped toks (room - 1) expr (k + 1) e → Stopped toks room expr at e
          stops_first e s = stops e (question h) s refl

          module _ {l : ℕ} {a : plain.Expression} (s : Reads toks (room - 1) expr (k + 1) l a) where
            pub no_colon : ((q : Pos) → On toks l (Sym 8) q → ⊥) → Refuses toks room expr at l
            no_colon none = none_left (lacks_symbol 8 (read (question h) s refl) none)

            module _ {q : Pos} (colon : On toks l (Sym 8) q) where
              pub stops_second : (e : Stop) → Stopped toks (room - 1) expr (l + 1) e → Stopped toks room expr at e
              stops_second e t = stops e (over_symbol (read (question h) s refl) colon refl) t refl

              pub reads_choice : {j : ℕ} {b : plain.Expression} → Reads toks (room - 1) expr (l + 1) j b → Reads toks room expr at j (chosen v a b p)
              reads_choice t = finish (read (over_symbol (read (question h) s refl) colon refl) t refl) refl
