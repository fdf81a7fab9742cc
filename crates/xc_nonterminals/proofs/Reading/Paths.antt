-- The steps of a path through a function that reads a symbol, each of them for every symbol.
use Rattle.std.proofs.Common.{◌≡◌, ℕ, suc, max, ◌+◌, ◌≤◌, Bool, true, false, leb, List, [], ◌∷◌, inl, inr, refl, sym as sym', ap, subst, ◌∙◌, arith}
use Rattle.std.proofs.lemmas.Bool.{and_from, leb-true}
use Rattle.xw_words.specs.declared.pos.Pos.{Pos}
use Rattle.xc_tree.specs.declared.token.Tok.{Tok}
use Rattle.xc_tree.specs.declared.token.Kind.TheVariants.{Name, Num, Key, Sym}
use Rattle.xc_tree.specs.Symbol.{Symbol, sym, key, a_name, a_number, Value}
use Rattle.xc_tree.specs.Grammar.{Extent}
use Rattle.xc_tree.specs.Derives.{On, extent, Room, unlimited, at_most, Prefix, nothing, whole}
use Rattle.xc_nonterminals.specs.declared.stop.Stop.{Stop}
use Rattle.xc_nonterminals.specs.declared.stop.Stop.TheVariants.{Wrong, Deep, Memory}
use Rattle.xc_nonterminals.specs.Follows.{OneOf, StandsAt}
use Rattle.xc_nonterminals.specs.Reading.{Reads, Refuses, TooDeep, Unfit}
use Rattle.xc_nonterminals.specs.Stops.{Stopped}
use Rattle.xc_nonterminals.proofs.Rests.Rests.{Part, ValuesOf, Rest, Stands, left, inside}
use Rattle.xc_nonterminals.proofs.Derivations.TokenSets.{one_token_of}
use Rattle.xc_nonterminals.proofs.Derivations.Forth.{forth, lift_prefix, inside_free, inside_most}
use Rattle.xc_nonterminals.proofs.Rests.Behinds.{TokenAt}
use Rattle.xc_nonterminals.proofs.Rests.Moves.{pass, any_has, peak_has, sift_peak, within_le, moves_from}
use Rattle.xc_nonterminals.proofs.Rests.Choices.{all_open, only_token, no_one, spread_out, stuck}
use Rattle.xc_nonterminals.proofs.Rests.Advances.{Known, Never, known_free, known_held, never_free, never_held, advance, refused, lead_free, lead_held, apart_all, popped_needs, freed_ends, deep_ends, freed_starts, deep_starts, no_end, no_start}
use Rattle.xc_nonterminals.proofs.Rests.Opening.{fronts, needs_none, opens, no_head, one_head, is_token, beginnings, over, moves, peak, Within, keep, without, spread, is_apart, heads_apart, Heads, popped, deepened}

no_symbol : {toks : List Tok} {k : ℕ} (o : ℕ) → ((p : Pos) → On toks k (Sym o) p → ⊥) → OneOf toks k (sym o ∷ []) → ⊥
no_symbol {toks} {k} o none x = let y = one_token_of (sym o) x in none y.0 y.1

no_word : {toks : List Tok} {k : ℕ} (w : ℕ) → ((p : Pos) → On toks k (Key w) p → ⊥) → OneOf toks k (key w ∷ []) → ⊥
no_word {toks} {k} w none x = let y = one_token_of (key w) x in none y.0 y.1

-- the symbol stands so, and there is room for each rest
pub record Roomy (toks : List Tok) (room : ℕ) (s : Symbol) (i k : ℕ) (rs : List (Rest (Value s))) : Type 0 where
  pub stands : Stands toks room s i k rs
  pub needs : peak rs ≤ room

-- at its beginning
pub begin : {toks : List Tok} {room : ℕ} {s : Symbol} {i : ℕ} → is_token s ≡ false → Within (peak (beginnings s)) room → Roomy toks room s i i (beginnings s)
begin {room} {s} e h = record { stands = all_open e; needs = within_le (peak (beginnings s)) room h }

-- where there is room
pub roomy : {toks : List Tok} {room : ℕ} {s : Symbol} {i k : ℕ} {rs : List (Rest (Value s))} → Stands toks room s i k rs → Within (peak rs) room → Roomy toks room s i k rs
roomy {room} {rs} st h = record { stands = st; needs = within_le (peak rs) room h }

module _ {toks : List Tok} {room : ℕ} {s : Symbol} {i k : ℕ} {rs : List (Rest (Value s))} where
  -- over a token
  pub over_token : (t : Symbol) (v : Value t) → TokenAt toks k t v → Roomy toks room s i k rs → moves (fronts s) t rs (over (fronts s) t v rs) ≡ true → Roomy toks room s i (k + 1) (over (fronts s) t v rs)
  over_token t v at st e =
      let m = moves_from (fronts s) t rs (over (fronts s) t v rs) e in
      let n = m.needs in
      let h = st.needs in
      record {
        stands = record {
          free = pass t v at st.stands.free m.ready (any_has (over (fronts s) t v rs) m.any);
          held = pass t v at st.stands.held m.ready (peak_has room (over (fronts s) t v rs) m.any (omega arith));
        };
        needs = omega arith;
      }

  pub over_symbol : {o : ℕ} {p : Pos} → Roomy toks room s i k rs → On toks k (Sym o) p → moves (fronts s) (sym o) rs (over (fronts s) (sym o) p rs) ≡ true → Roomy toks room s i (k + 1) (over (fronts s) (sym o) p rs)
  over_symbol {o} {p} st on e = over_token (sym o) p on st e

  pub over_word : {w : ℕ} {p : Pos} → Roomy toks room s i k rs → On toks k (Key w) p → moves (fronts s) (key w) rs (over (fronts s) (key w) p rs) ≡ true → Roomy toks room s i (k + 1) (over (fronts s) (key w) p rs)
  over_word {w} {p} st on e = over_token (key w) p on st e

  pub over_name : {t : List ℕ} {p : Pos} → Roomy toks room s i k rs → On toks k (Name t) p → moves (fronts s) a_name rs (over (fronts s) a_name (record { text = t; pos = p }) rs) ≡ true → Roomy toks room s i (k + 1) (over (fronts s) a_name (record { text = t; pos = p }) rs)
  over_name {t} {p} st on e = over_token a_name (record { text = t; pos = p }) on st e

  pub over_number : {n : ℕ} {u : Bool} {p : Pos} → Roomy toks room s i k rs → On toks k (Num n u) p → moves (fronts s) a_number rs (over (fronts s) a_number (record { value = n; is_unsigned = u; pos = p }) rs) ≡ true → Roomy toks room s i (k + 1) (over (fronts s) a_number (record { value = n; is_unsigned = u; pos = p }) rs)
  over_number {n} {u} {p} st on e = over_token a_number (record { value = n; is_unsigned = u; pos = p }) on st e

  -- the rests that a token leaves open
  pub at_one : (t : Symbol) → StandsAt toks k t → Roomy toks room s i k rs → Roomy toks room s i k (keep (fronts s) t rs)
  at_one t at st = let l = sift_peak (opens (fronts s) t) rs in let h = st.needs in record { stands = only_token t at st.stands; needs = omega arith }

  pub at_symbol : {o : ℕ} {p : Pos} → Roomy toks room s i k rs → On toks k (Sym o) p → Roomy toks room s i k (keep (fronts s) (sym o) rs)
  at_symbol {o} {p} st on = at_one (sym o) (p, on) st

  pub at_word : {w : ℕ} {p : Pos} → Roomy toks room s i k rs → On toks k (Key w) p → Roomy toks room s i k (keep (fronts s) (key w) rs)
  at_word {w} {p} st on = at_one (key w) (p, on) st

  pub at_name : {t : List ℕ} {p : Pos} → Roomy toks room s i k rs → On toks k (Name t) p → Roomy toks room s i k (keep (fronts s) a_name rs)
  at_name {t} {p} st on = at_one a_name (t, p, on) st

  pub at_number : {n : ℕ} {u : Bool} {p : Pos} → Roomy toks room s i k rs → On toks k (Num n u) p → Roomy toks room s i k (keep (fronts s) a_number rs)
  at_number {n} {u} {p} st on = at_one a_number (n, u, p, on) st

  -- those that are left where none of these tokens stands
  pub lacks : (ts : List Symbol) → Roomy toks room s i k rs → (OneOf toks k ts → ⊥) → Roomy toks room s i k (without ts rs)
  lacks ts st none = let l = sift_peak (needs_none ts) rs in let h = st.needs in record { stands = no_one ts st.stands none; needs = omega arith }

  pub lacks_symbol : (o : ℕ) → Roomy toks room s i k rs → ((p : Pos) → On toks k (Sym o) p → ⊥) → Roomy toks room s i k (without (sym o ∷ []) rs)
  lacks_symbol o st none = lacks (sym o ∷ []) st (no_symbol o none)

  pub lacks_word : (w : ℕ) → Roomy toks room s i k rs → ((p : Pos) → On toks k (Key w) p → ⊥) → Roomy toks room s i k (without (key w ∷ []) rs)
  lacks_word w st none = lacks (key w ∷ []) st (no_word w none)

  -- the plain symbols that rests begin with, taken for their alternatives
  pub taken : Roomy toks room s i k rs → leb (peak (spread rs)) (peak rs) ≡ true → Roomy toks room s i k (spread rs)
  taken st e = let l = leb-true (peak (spread rs)) (peak rs) e in let h = st.needs in record { stands = spread_out st.stands; needs = omega arith }

  -- where all rests begin with the same symbol: it is read, or reading it stopped, or it is too deep as far as it was read
  module _ {t : Symbol} {a : ℕ} (heads : Heads t a rs) where
    pub read_all : {j : ℕ} {v : Value t} → Roomy toks room s i k rs → Reads toks (left room a) t k j v → heads_apart s heads ≡ true → Roomy toks room s i j (popped heads v)
    read_all {j} {v} st r e =
        let f : Known toks (inside unlimited a) t k j v = subst (λ (x : Room). Known toks x t k j v) (sym' (inside_free a)) (known_free r) in
        let h : Known toks (inside (at_most room) a) t k j v = subst (λ (x : Room). Known toks x t k j v) (sym' (inside_most room a)) (known_held r) in
        let l = forth r.derives in
        let b = apart_all s heads e in
        record {
          stands = record {
            free = advance heads st.stands.free b f l (st.stands.free.prefix j (lead_free room s heads e (whole f.derives)));
            held = advance heads st.stands.held b h l (st.stands.held.prefix j (lead_held room s heads e st.needs (whole h.derives)));
          };
          needs = popped_needs room heads v st.needs;
        }

    pub refuses_all : {m : ℕ} → Roomy toks room s i k rs → Refuses toks (left room a) t k m → heads_apart s heads ≡ true → Refuses toks room s i m
    refuses_all {m} st r e =
        let f : Never toks (inside unlimited a) t k m = subst (λ (x : Room). Never toks x t k m) (sym' (inside_free a)) (never_free r) in
        let n = refused heads st.stands.free (apart_all s heads e) f (r.most k nothing) in
        record {
          prefix = st.stands.held.prefix m (lead_held room s heads e st.needs (subst (λ (x : Room). Prefix toks x t k m) (sym' (inside_most room a)) r.prefix));
          never = n.never;
          most = n.most;
        }

    pub deep_all : {m : ℕ} → Roomy toks room s i k rs → TooDeep toks (left room a) t k m → heads_apart s heads ≡ true → TooDeep toks room s i m
    deep_all {m} st r e =
        let f : Never toks (inside (at_most room) a) t k m = subst (λ (x : Room). Never toks x t k m) (sym' (inside_most room a)) (never_held r) in
        let n = refused heads st.stands.held (apart_all s heads e) f (r.most k nothing) in
        record {
          prefix = st.stands.held.prefix m (lead_held room s heads e st.needs (subst (λ (x : Room). Prefix toks x t k m) (sym' (inside_most room a)) r.prefix));
          begins = st.stands.free.prefix (m + 1) (lead_free room s heads e (subst (λ (x : Room). Prefix toks x t k (m + 1)) (sym' (inside_free a)) r.begins));
          never = n.never;
          most = n.most;
        }

    pub stops_all : (e : Stop) → Roomy toks room s i k rs → Stopped toks (left room a) t k e → heads_apart s heads ≡ true → Stopped toks room s i e
    stops_all (Wrong m) st r d = refuses_all st r d
    stops_all (Deep m) st r d = deep_all st r d
    stops_all Memory st r d = tt

    pub unfit_all : {j : ℕ} → Roomy toks room s i k rs → (u : Unfit toks (left room a) t k j) → heads_apart s heads ≡ true → Stands toks room s i j (deepened room heads u.value)
    unfit_all {j} st u e =
        let known : Known toks unlimited t k j u.value = record { derives = u.derives; only = u.only; most = u.most } in
        let f : Known toks (inside unlimited a) t k j u.value = subst (λ (x : Room). Known toks x t k j u.value) (sym' (inside_free a)) known in
        let nv : Never toks (at_most (left room a)) t k j = record { never = u.never; most = λ n q. u.most n (lift_prefix q) } in
        let g : Never toks (inside (at_most room) a) t k j = subst (λ (x : Room). Never toks x t k j) (sym' (inside_most room a)) nv in
        let l = forth u.derives in
        let b = apart_all s heads e in
        let o = advance heads st.stands.free b f l (st.stands.free.prefix j (lead_free room s heads e (whole f.derives))) in
        let n = refused heads st.stands.held b g l in
        record {
          free = record {
            derives = λ q v y. o.derives q v (freed_ends toks i room heads u.value j q v y);
            only = λ q v d. elim (o.only q v d) [ inl y ↦ inl y | inr y ↦ inr (deep_ends toks i room heads u.value j q v y) ];
            prefix = λ q y. o.prefix q (freed_starts toks i room heads u.value j q y);
            here = o.here;
            most = λ q y. elim (o.most q y) [ inl z ↦ inl z | inr z ↦ inr (deep_starts toks i room heads u.value j q z) ];
          };
          held = record {
            derives = λ q v y. absurd (no_end toks i room heads u.value j q v y);
            only = λ q v d. inl (n.never q v d);
            prefix = λ q y. absurd (no_start toks i room heads u.value j q y);
            here = st.stands.held.prefix j (lead_held room s heads e st.needs (subst (λ (x : Room). Prefix toks x t k j) (sym' (inside_most room a)) u.prefix));
            most = λ q y. inl (n.most q y);
          };
        }

module _ {toks : List Tok} {room : ℕ} {s : Symbol} {i k : ℕ} where
  -- no rest is left
  pub none_left : Roomy toks room s i k [] → Refuses toks room s i k
  none_left st = stuck st.stands

  -- one rest is at its end
  pub finish : {n : ℕ} {f : ValuesOf [] → Bool} {make : Extent → ValuesOf [] → Value s} → Roomy toks room s i k (record { need = n; parts = []; fits = f; make = make } ∷ []) → f tt ≡ true → Reads toks room s i k (make (extent toks i k) tt)
  finish {n} {f} {make} st e =
      let h : n ≤ room = (let l = st.needs in grind arith) in
      record {
        derives = st.stands.held.derives k (make (extent toks i k) tt) (inl (tt, h, refl, e, refl));
        only = λ j v d. elim (st.stands.free.only j v d) [
          | inl g ↦ inr g
          | inr x ↦ elim x [ inl y ↦ inl (y.2, y.4 ∙ ap (λ (l : ℕ). make (extent toks i l) tt) y.2) | inr z ↦ absurd z ]
        ];
        most = λ q y. elim (st.stands.free.most q y) [ inl l ↦ l | inr x ↦ elim x [ inl z ↦ absurd z.1 | inr z ↦ absurd z ] ];
      }

  -- the same where one rest is left
  module _ {n a : ℕ} {t : Symbol} {ps : List Part} {f : ValuesOf (record { above = a; symbol = t } ∷ ps) → Bool} {make : Extent → ValuesOf (record { above = a; symbol = t } ∷ ps) → Value s} where
    pub read : {j : ℕ} {v : Value t} → Roomy toks room s i k (record { need = n; parts = record { above = a; symbol = t } ∷ ps; fits = f; make = make } ∷ []) → Reads toks (left room a) t k j v → is_apart s t ps ≡ true → Roomy toks room s i j (record { need = max n a; parts = ps; fits = λ x. f (v, x); make = λ e x. make e (v, x) } ∷ [])
    read st r e = read_all (one_head no_head) st r (and_from (is_apart s t ps) true e refl)

    pub stops : (e : Stop) → Roomy toks room s i k (record { need = n; parts = record { above = a; symbol = t } ∷ ps; fits = f; make = make } ∷ []) → Stopped toks (left room a) t k e → is_apart s t ps ≡ true → Stopped toks room s i e
    stops e st r d = stops_all (one_head no_head) e st r (and_from (is_apart s t ps) true d refl)

    pub unfit : {j : ℕ} → Roomy toks room s i k (record { need = n; parts = record { above = a; symbol = t } ∷ ps; fits = f; make = make } ∷ []) → (u : Unfit toks (left room a) t k j) → is_apart s t ps ≡ true → Stands toks room s i j (record { need = suc room; parts = ps; fits = λ x. f (u.value, x); make = λ e x. make e (u.value, x) } ∷ [])
    unfit st u e = unfit_all (one_head no_head) st u (and_from (is_apart s t ps) true e refl)

  -- what is too deep stands at the end of the symbol
  pub unfit_last : {n a : ℕ} {t : Symbol} {f : ValuesOf (record { above = a; symbol = t } ∷ []) → Bool} {make : Extent → ValuesOf (record { above = a; symbol = t } ∷ []) → Value s} {j : ℕ} → Roomy toks room s i k (record { need = n; parts = record { above = a; symbol = t } ∷ []; fits = f; make = make } ∷ []) → (u : Unfit toks (left room a) t k j) → is_apart s t [] ≡ true → f (u.value, tt) ≡ true → Unfit toks room s i j
  unfit_last {f} {make} {j} st u e g =
      let o = unfit st u e in
      record {
        value = make (extent toks i j) (u.value, tt);
        derives = o.free.derives j (make (extent toks i j) (u.value, tt)) (inl (tt, tt, refl, g, refl));
        only = λ l v d. elim (o.free.only l v d) [
          | inl x ↦ inr x
          | inr x ↦ elim x [ inl y ↦ inl (y.2, y.4 ∙ ap (λ (b : ℕ). make (extent toks i b) (u.value, tt)) y.2) | inr z ↦ absurd z ]
        ];
        most = λ q y. elim (o.free.most q y) [ inl l ↦ l | inr x ↦ elim x [ inl z ↦ absurd z.1 | inr z ↦ absurd z ] ];
        prefix = o.held.here;
        never = λ l v d. elim (o.held.only l v d) [ inl x ↦ x | inr x ↦ elim x [ inl y ↦ let h = y.1 in absurd (omega arith) | inr z ↦ absurd z ] ];
      }
