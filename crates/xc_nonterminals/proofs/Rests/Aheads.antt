-- Two tokens of view: rests that the second of them rules out.
use Rattle.std.proofs.Common.{◌≡◌, ℕ, max, ◌+◌, ◌≤◌, ◌⊎◌, inl, inr, Bool, true, false, not, ◌&&◌, ◌||◌, List, [], ◌∷◌, refl, sym as sym', subst, ◌∙◌, arith}
use Rattle.std.proofs.lemmas.Bool.{and_parts, and_from, or_cases, not-true, not-false}
use Rattle.xw_words.specs.declared.pos.Pos.{Pos}
use Rattle.xc_tree.specs.declared.token.Tok.{Tok}
use Rattle.xc_tree.specs.declared.token.Kind.TheVariants.{Name, Key, Sym}
use Rattle.xc_tree.specs.Symbol.{Symbol, sym, key, a_name, Value}
use Rattle.xc_tree.specs.Grammar.{Extent}
use Rattle.xc_tree.specs.Derives.{On, Room, unlimited, at_most, Derives, Prefix, whole}
use Rattle.xc_nonterminals.specs.declared.stop.Stop.{Stop}
use Rattle.xc_nonterminals.specs.declared.stop.Stop.TheVariants.{Wrong, Deep, Memory}
use Rattle.xc_nonterminals.specs.Follows.{StandsAt, OneOf, has}
use Rattle.xc_nonterminals.specs.Reading.{IsFront, Reads, Unfit}
use Rattle.xc_nonterminals.specs.Stops.{Stopped}
use Rattle.xc_nonterminals.proofs.Rests.Rests.{Part, ValuesOf, Rest, Ends, Starts, Open, inside, left}
use Rattle.xc_nonterminals.proofs.Rests.Opening.{fronts, keep, without, over, sift, grown, layers, all_ready, is_any, moves, peak, firsts, nullables, is_apart, no_head, one_head, Heads, popped, heads_apart}
use Rattle.xc_nonterminals.proofs.Derivations.TokenSets.{front, one_is}
use Rattle.xc_nonterminals.proofs.Derivations.Firsts.{parts_first, begun_first}
use Rattle.xc_nonterminals.proofs.Derivations.Forth.{lift, lift_prefix, inside_free, inside_most}
use Rattle.xc_nonterminals.proofs.Rests.Heads.{Apart, apart_from}
use Rattle.xc_nonterminals.proofs.Rests.Behinds.{TokenAt, token_stands}
use Rattle.xc_nonterminals.proofs.Rests.Narrows.{Narrows, Gone, compose, narrow, sifted, at_token, at_none}
use Rattle.xc_nonterminals.proofs.Rests.Moves.{OneHas, grows, overs, behind_here, any_has, peak_has, sift_peak, moves_from}
use Rattle.xc_nonterminals.proofs.Rests.Advances.{Known, Never, known_free, known_held, never_free, never_held, advance, refused, lead_free, lead_held, apart_all, popped_needs}
use Rattle.xc_nonterminals.proofs.Reading.Paths.{Roomy}

-- The symbol stands at k with these rests, and there is room for each; what else there was ends before token m.
pub record Ahead (toks : List Tok) (room : ℕ) (s : Symbol) (i k m : ℕ) (rs : List (Rest (Value s))) : Type 0 where
  pub free : Open toks unlimited s i k m rs
  pub held : Open toks (at_most room) s i k m rs
  pub needs : peak rs ≤ room

-- a rest goes on with a token of this value and then another, or with none of these behind it
abbrev pub lasts : {V : Type 0} → List Symbol → (t : Symbol) → Value t → Symbol → Rest V → Bool
lasts fs t v u r = not (all_ready fs t (grown layers fs t (r ∷ [])) && not (is_any (keep fs u (over fs t v (r ∷ [])))))

abbrev pub lasts_else : {V : Type 0} → List Symbol → (t : Symbol) → Value t → List Symbol → Rest V → Bool
lasts_else fs t v us r = not (all_ready fs t (grown layers fs t (r ∷ [])) && not (is_any (without us (over fs t v (r ∷ [])))))

none_left : {V : Type 0} (rs : List (Rest V)) → is_any rs ≡ false → rs ≡ []
none_left [] e = refl
none_left (r ∷ rs) e = absurd (cc)

module _ {toks : List Tok} {room : Room} {s : Symbol} {i k : ℕ} where
  gone_by : {m : ℕ} {r : Rest (Value s)} {rs' : List (Rest (Value s))} → Narrows toks room s i k (r ∷ []) m m rs' → is_any rs' ≡ false → Gone toks room s i k m r
  gone_by {m} {r} {rs'} b e = record {
    ends = λ j v x. elim (b.ends j v (inl x)) [ inl g ↦ g | inr y ↦ absurd (subst (λ (l : List (Rest (Value s))). Ends toks room l i m j v) (none_left rs' e) y) ];
    starts = λ n x. elim (b.starts n (inl x)) [ inl h ↦ h | inr y ↦ absurd (subst (λ (l : List (Rest (Value s))). Starts toks room l m n) (none_left rs' e) y) ];
  }

  dying : (t : Symbol) (v : Value t) → TokenAt toks k t v → (u : Symbol) → StandsAt toks (k + 1) u → (r : Rest (Value s)) → lasts (fronts s) t v u r ≡ false → Gone toks room s i k (k + 1) r
  dying t v at u next r e =
      let a = all_ready (fronts s) t (grown layers (fronts s) t (r ∷ [])) in
      let c = is_any (keep (fronts s) u (over (fronts s) t v (r ∷ []))) in
      let p = and_parts a (not c) (not-false (a && not c) e) in
      gone_by (compose (overs t v at (r ∷ []) p.0) (at_token u next (over (fronts s) t v (r ∷ []))) (omega arith)) (not-true c p.1)

  dying_else : (t : Symbol) (v : Value t) → TokenAt toks k t v → (us : List Symbol) → (OneOf toks (k + 1) us → ⊥) → (r : Rest (Value s)) → lasts_else (fronts s) t v us r ≡ false → Gone toks room s i k (k + 1) r
  dying_else t v at us none r e =
      let a = all_ready (fronts s) t (grown layers (fronts s) t (r ∷ [])) in
      let c = is_any (without us (over (fronts s) t v (r ∷ []))) in
      let p = and_parts a (not c) (not-false (a && not c) e) in
      gone_by (compose (overs t v at (r ∷ []) p.0) (at_none us none (over (fronts s) t v (r ∷ []))) (omega arith)) (not-true c p.1)

module _ {toks : List Tok} {room : ℕ} {s : Symbol} {i k : ℕ} {rs : List (Rest (Value s))} where
  ruled : (b : Rest (Value s) → Bool) → ((room : Room) (r : Rest (Value s)) → b r ≡ false → Gone toks room s i k (k + 1) r) → Roomy toks room s i k rs → Ahead toks room s i k (k + 1) (sift b rs)
  ruled b gone st =
      let l = sift_peak b rs in
      let h = st.needs in
      record {
        free = narrow st.stands.free (sifted b (gone unlimited) rs) (omega arith) st.stands.free.here;
        held = narrow st.stands.held (sifted b (gone (at_most room)) rs) (omega arith) st.stands.held.here;
        needs = omega arith;
      }

  -- a name, and a token or another behind it
  pub name_symbol : {x : List ℕ} {p q : Pos} {o : ℕ} → Roomy toks room s i k rs → On toks k (Name x) p → On toks (k + 1) (Sym o) q → Ahead toks room s i k (k + 1) (sift (lasts (fronts s) a_name (record { text = x; pos = p }) (sym o)) rs)
  name_symbol {x} {p} {q} {o} st a b = ruled (lasts (fronts s) a_name (record { text = x; pos = p }) (sym o)) (λ c r e. dying a_name (record { text = x; pos = p }) a (sym o) (q, b) r e) st

  pub name_word : {x : List ℕ} {p q : Pos} {w : ℕ} → Roomy toks room s i k rs → On toks k (Name x) p → On toks (k + 1) (Key w) q → Ahead toks room s i k (k + 1) (sift (lasts (fronts s) a_name (record { text = x; pos = p }) (key w)) rs)
  name_word {x} {p} {q} {w} st a b = ruled (lasts (fronts s) a_name (record { text = x; pos = p }) (key w)) (λ c r e. dying a_name (record { text = x; pos = p }) a (key w) (q, b) r e) st

  -- a name, and none of these behind it
  pub name_else : (us : List Symbol) {x : List ℕ} {p : Pos} → Roomy toks room s i k rs → On toks k (Name x) p → (OneOf toks (k + 1) us → ⊥) → Ahead toks room s i k (k + 1) (sift (lasts_else (fronts s) a_name (record { text = x; pos = p }) us) rs)
  name_else us {x} {p} st a none = ruled (lasts_else (fronts s) a_name (record { text = x; pos = p }) us) (λ c r e. dying_else a_name (record { text = x; pos = p }) a us none r e) st

  -- over the first token
  pub over_ahead : (t : Symbol) (v : Value t) → TokenAt toks k t v → Ahead toks room s i k (k + 1) rs → moves (fronts s) t rs (over (fronts s) t v rs) ≡ true → Roomy toks room s i (k + 1) (over (fronts s) t v rs)
  over_ahead t v at st e =
      let m = moves_from (fronts s) t rs (over (fronts s) t v rs) e in
      let n = m.needs in
      let h = st.needs in
      record {
        stands = record {
          free = ahead_pass unlimited st.free m.ready (any_has (over (fronts s) t v rs) m.any);
          held = ahead_pass (at_most room) st.held m.ready (peak_has room (over (fronts s) t v rs) m.any (omega arith));
        };
        needs = omega arith;
      }
    where
      ahead_pass : (room : Room) → Open toks room s i k (k + 1) rs → all_ready (fronts s) t (grown layers (fronts s) t rs) ≡ true → OneHas room (over (fronts s) t v rs) → Open toks room s i (k + 1) (k + 1) (over (fronts s) t v rs)
      ahead_pass room o f h =
          let g = grows {room = room} {s = s} {i = i} layers t (token_stands toks k t v at) rs in
          narrow o (overs t v at rs f) (omega arith) (o.prefix (k + 1) (g.starts_back (k + 1) (behind_here toks room k t v at (grown layers (fronts s) t rs) h)))

module _ {toks : List Tok} {room : ℕ} {s : Symbol} {i k m : ℕ} {rs : List (Rest (Value s))} {t : Symbol} {a : ℕ} (heads : Heads t a rs) where
  -- the symbol that all rests begin with is read from the first token on
  pub read_ahead_all : {j : ℕ} {v : Value t} → Ahead toks room s i k m rs → Reads toks (left room a) t k j v → m ≤ j → heads_apart s heads ≡ true → Roomy toks room s i j (popped heads v)
  read_ahead_all {j} {v} st r l e =
      let f : Known toks (inside unlimited a) t k j v = subst (λ (x : Room). Known toks x t k j v) (sym' (inside_free a)) (known_free r) in
      let h : Known toks (inside (at_most room) a) t k j v = subst (λ (x : Room). Known toks x t k j v) (sym' (inside_most room a)) (known_held r) in
      let b = apart_all s heads e in
      record {
        stands = record {
          free = advance heads st.free b f l (st.free.prefix j (lead_free room s heads e (whole f.derives)));
          held = advance heads st.held b h l (st.held.prefix j (lead_held room s heads e st.needs (whole h.derives)));
        };
        needs = popped_needs room heads v st.needs;
      }

  -- reading it stopped; it can be begun up to token m
  pub stops_ahead_all : (e : Stop) {rs' : List (Rest (Value t))} → Ahead toks room s i k m rs → Roomy toks (left room a) t k m rs' → Stopped toks (left room a) t k e → heads_apart s heads ≡ true → Stopped toks room s i e
  stops_ahead_all (Wrong l) st begun r d =
      let g : Never toks (inside unlimited a) t k l = subst (λ (x : Room). Never toks x t k l) (sym' (inside_free a)) (never_free r) in
      let c = refused heads st.free (apart_all s heads d) g (r.most m begun.stands.free.here) in
      record {
        prefix = st.held.prefix l (lead_held room s heads d st.needs (subst (λ (x : Room). Prefix toks x t k l) (sym' (inside_most room a)) r.prefix));
        never = c.never;
        most = c.most;
      }
  stops_ahead_all (Deep l) st begun r d =
      let g : Never toks (inside (at_most room) a) t k l = subst (λ (x : Room). Never toks x t k l) (sym' (inside_most room a)) (never_held r) in
      let c = refused heads st.held (apart_all s heads d) g (r.most m begun.stands.held.here) in
      record {
        prefix = st.held.prefix l (lead_held room s heads d st.needs (subst (λ (x : Room). Prefix toks x t k l) (sym' (inside_most room a)) r.prefix));
        begins = st.free.prefix (l + 1) (lead_free room s heads d (subst (λ (x : Room). Prefix toks x t k (l + 1)) (sym' (inside_free a)) r.begins));
        never = c.never;
        most = c.most;
      }
  stops_ahead_all Memory st begun r d = tt

module _ {toks : List Tok} {room : ℕ} {s : Symbol} {i k m n a : ℕ} {t : Symbol} {ps : List Part} {f : ValuesOf (record { above = a; symbol = t } ∷ ps) → Bool} {make : Extent → ValuesOf (record { above = a; symbol = t } ∷ ps) → Value s} where
  -- the same where one rest is left
  pub read_ahead : {j : ℕ} {v : Value t} → Ahead toks room s i k m (record { need = n; parts = record { above = a; symbol = t } ∷ ps; fits = f; make = make } ∷ []) → Reads toks (left room a) t k j v → m ≤ j → is_apart s t ps ≡ true → Roomy toks room s i j (record { need = max n a; parts = ps; fits = λ x. f (v, x); make = λ e x. make e (v, x) } ∷ [])
  read_ahead st r l e = read_ahead_all (one_head no_head) st r l (and_from (is_apart s t ps) true e refl)

  pub stops_ahead : (e : Stop) {rs : List (Rest (Value t))} → Ahead toks room s i k m (record { need = n; parts = record { above = a; symbol = t } ∷ ps; fits = f; make = make } ∷ []) → Roomy toks (left room a) t k m rs → Stopped toks (left room a) t k e → is_apart s t ps ≡ true → Stopped toks room s i e
  stops_ahead e st begun r d = stops_ahead_all (one_head no_head) e st begun r (and_from (is_apart s t ps) true d refl)

-- A symbol that is read up to l at most, by any reading that doesn't go on.
pub record Alone (toks : List Tok) (t : Symbol) (k l : ℕ) : Type 0 where
  pub only : (j : ℕ) (w : Value t) → Derives toks unlimited t k j w → (j ≡ l) ⊎ IsFront toks t j w
  pub most : (n : ℕ) → Prefix toks unlimited t k n → n ≤ l

pub alone_read : {toks : List Tok} {room : ℕ} {t : Symbol} {k l : ℕ} {v : Value t} → Reads toks room t k l v → Alone toks t k l
alone_read r = record { only = λ j w d. elim (r.only j w d) [ inl e ↦ inl e.0 | inr g ↦ inr g ]; most = r.most }

pub alone_unfit : {toks : List Tok} {room : ℕ} {t : Symbol} {k l : ℕ} → Unfit toks room t k l → Alone toks t k l
alone_unfit r = record { only = λ j w d. elim (r.only j w d) [ inl e ↦ inl e.0 | inr g ↦ inr g ]; most = r.most }

-- the token behind such a symbol doesn't stand there in a rest
abbrev pub rules_out : Symbol → Symbol → List Part → Symbol → Bool
rules_out s t ps u = is_apart s t ps && (not (has (firsts ps) u) && (not (nullables ps) || has (fronts s) u))

module _ {toks : List Tok} {room : Room} {s : Symbol} {i k l : ℕ} {n a : ℕ} {t : Symbol} {ps : List Part} {f : ValuesOf (record { above = a; symbol = t } ∷ ps) → Bool} {make : Extent → ValuesOf (record { above = a; symbol = t } ∷ ps) → Value s} where
  ruled_out : Alone toks t k l → (u : Symbol) → StandsAt toks l u → rules_out s t ps u ≡ true → Gone toks room s i k l (record { need = n; parts = record { above = a; symbol = t } ∷ ps; fits = f; make = make })
  ruled_out al u at e =
      let p = and_parts (is_apart s t ps) (not (has (firsts ps) u) && (not (nullables ps) || has (fronts s) u)) e in
      let q = and_parts (not (has (firsts ps) u)) (not (nullables ps) || has (fronts s) u) p.1 in
      let ap : Apart toks s t ps = apart_from s t ps p.0 in
      let no_first : OneOf toks l (firsts ps) → ⊥ = λ o. let b = one_is u at o in let c = not-true (has (firsts ps) u) q.0 in absurd (cc) in
      let goes : nullables ps ≡ true → OneOf toks l (fronts s) = λ h. elim (or_cases (not (nullables ps)) (has (fronts s) u) q.1) [ inl b ↦ let c = not-true (nullables ps) b in absurd (cc) | inr b ↦ record { token = u; stands = at; among = b } ] in
      record {
        ends = λ j v x. elim (al.only x.2.0 x.0.0 (lift x.2.2)) [
          | inl b ↦ elim (parts_first toks room ps x.2.0 j x.0.1 x.2.3) [
            | inl c ↦ subst (λ (y : ℕ). IsFront toks s y v) (sym' (c.0 ∙ b)) (front s v (goes c.1))
            | inr o ↦ absurd (no_first (subst (λ (y : ℕ). OneOf toks y (firsts ps)) b o))
          ]
          | inr g ↦ elim (parts_first toks room ps x.2.0 j x.0.1 x.2.3) [
            | inl c ↦ subst (λ (y : ℕ). IsFront toks s y v) (sym' c.0) (front s v (ap.ends x.2.0 g.goes_on c.1))
            | inr o ↦ absurd (ap.begins x.2.0 g.goes_on o)
          ]
        ];
        starts = λ b x. elim x.1 [
          | inl q ↦ al.most b (lift_prefix q.1)
          | inr y ↦ elim (al.only y.0 y.1 (lift y.3)) [
            | inl c ↦ elim (begun_first toks room ps y.0 b y.4) [ inl h ↦ omega (arith, c) | inr o ↦ absurd (no_first (subst (λ (z : ℕ). OneOf toks z (firsts ps)) c o)) ]
            | inr g ↦ elim (begun_first toks room ps y.0 b y.4) [ inl h ↦ let d = al.most y.0 (whole (lift y.3)) in omega arith | inr o ↦ absurd (ap.begins y.0 g.goes_on o) ]
          ]
        ];
      }

module _ {toks : List Tok} {room : Room} {s : Symbol} {i k : ℕ} {n a : ℕ} {t : Symbol} {ps : List Part} {f : ValuesOf (record { above = a; symbol = t } ∷ ps) → Bool} {make : Extent → ValuesOf (record { above = a; symbol = t } ∷ ps) → Value s} where
  first_gone : {m : ℕ} {rs : List (Rest (Value s))} → Gone toks room s i k m (record { need = n; parts = record { above = a; symbol = t } ∷ ps; fits = f; make = make }) → Narrows toks room s i k (record { need = n; parts = record { above = a; symbol = t } ∷ ps; fits = f; make = make } ∷ rs) k m rs
  first_gone g = record {
    ends = λ j v x. elim x [ inl y ↦ inl (g.ends j v y) | inr y ↦ inr y ];
    starts = λ b x. elim x [ inl y ↦ inl (g.starts b y) | inr y ↦ inr y ];
    ends_back = λ j v x. inr x;
    starts_back = λ b x. inr x;
  }

  second_gone : {m : ℕ} {r : Rest (Value s)} → Gone toks room s i k m (record { need = n; parts = record { above = a; symbol = t } ∷ ps; fits = f; make = make }) → Narrows toks room s i k (r ∷ record { need = n; parts = record { above = a; symbol = t } ∷ ps; fits = f; make = make } ∷ []) k m (r ∷ [])
  second_gone g = record {
    ends = λ j v x. elim x [ inl y ↦ inr (inl y) | inr z ↦ elim z [ inl y ↦ inl (g.ends j v y) | inr y ↦ absurd y ] ];
    starts = λ b x. elim x [ inl y ↦ inr (inl y) | inr z ↦ elim z [ inl y ↦ inl (g.starts b y) | inr y ↦ absurd y ] ];
    ends_back = λ j v x. elim x [ inl y ↦ inl y | inr y ↦ absurd y ];
    starts_back = λ b x. elim x [ inl y ↦ inl y | inr y ↦ absurd y ];
  }

module _ {toks : List Tok} {room : ℕ} {s : Symbol} {i k l : ℕ} {n a : ℕ} {t : Symbol} {ps : List Part} {f : ValuesOf (record { above = a; symbol = t } ∷ ps) → Bool} {make : Extent → ValuesOf (record { above = a; symbol = t } ∷ ps) → Value s} where
  -- the first of some rests, or the second of two, is ruled out by the token behind its symbol
  pub not_first : {rs : List (Rest (Value s))} → Roomy toks room s i k (record { need = n; parts = record { above = a; symbol = t } ∷ ps; fits = f; make = make } ∷ rs) → Alone toks t k l → k ≤ l → (u : Symbol) → StandsAt toks l u → rules_out s t ps u ≡ true → Ahead toks room s i k l rs
  not_first st al h u at e =
      let d = st.needs in
      record {
        free = narrow st.stands.free (first_gone (ruled_out al u at e)) h st.stands.free.here;
        held = narrow st.stands.held (first_gone (ruled_out al u at e)) h st.stands.held.here;
        needs = grind arith;
      }

  pub not_second : {r : Rest (Value s)} → Roomy toks room s i k (r ∷ record { need = n; parts = record { above = a; symbol = t } ∷ ps; fits = f; make = make } ∷ []) → Alone toks t k l → k ≤ l → (u : Symbol) → StandsAt toks l u → rules_out s t ps u ≡ true → Ahead toks room s i k l (r ∷ [])
  not_second st al h u at e =
      let d = st.needs in
      record {
        free = narrow st.stands.free (second_gone (ruled_out al u at e)) h st.stands.free.here;
        held = narrow st.stands.held (second_gone (ruled_out al u at e)) h st.stands.held.here;
        needs = grind arith;
      }
