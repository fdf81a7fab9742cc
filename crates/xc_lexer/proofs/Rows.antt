-- Rows of pieces: a text has one row, and what is known of it once a beginning has been read.
use Rattle.std.proofs.Common.{◌≡◌, ℕ, ◌<◌, ◌≤◌, ◌⊎◌, inl, inr, zero, suc, List, [], ◌∷◌, ◌++◌, length, refl, sym, ap, subst, ◌∙◌, arith, append_assoc, append-nil}
use Rattle.std.specs.Prelude.{Contains}
use Rattle.std.proofs.lemmas.List.Elements.{Contains-append_cases}
use Rattle.xw_words.specs.declared.pos.Broken.{Broken}
use Rattle.xc_tree.specs.declared.token.Tok.{Tok}
use Rattle.xc_tree.specs.Places.{pos_at}
use Rattle.xc_tree.specs.Pieces.{Stand, Fault, Piece}
use Rattle.xc_tree.specs.Least.{IsFirst}
use Rattle.xc_tree.specs.Lexes.{Leads, here, onward, beginning, Lexes, Breaks, BreaksAt, IsNotAfter, longest_text}
use Rattle.xc_lexer.specs.declared.lexer.State.{State}
use Rattle.xc_lexer.specs.Places.{IsPlace}
use Rattle.xc_lexer.specs.Steps.{Went, FirstOf, stand, NotAfter, Each}
use Rattle.xc_lexer.proofs.Spans.{pos_before}
use Rattle.xc_lexer.proofs.Pieces.{piece_one, no_piece, piece_after, each_append, each_map, From}

-- no rule is broken in a row whose parts break none, and else one is
pub no_first : (f g : List Fault) → f ++ g ≡ [] → (f ≡ []) × (g ≡ [])
no_first [] g e = (refl, e)
no_first (x ∷ f) g e = cc

-- a row to the text's end goes beyond any other
module _ (text : List ℕ) where
  -- the rest of one row behind a beginning of it that is another
  pub at_end : (s s1 : Stand) (t : List Tok) (f : List Fault) → Leads text s t f s1 → length text ≤ s.at → (t ≡ []) × (f ≡ []) × (s1 ≡ s)
  at_end s s1 t f here h = (refl, refl, refl)
  at_end s s1 t f (onward {s' = r} u {ts} g {fs} p q) h = absurd (no_piece text s r u g h p)

  -- what breaks no rule up to the end breaks none before
  pub faultless : (s s2 last : Stand) (t u : List Tok) (f g : List Fault) → length text ≤ last.at → Leads text s u g s2 → Leads text s t f last → f ≡ [] → g ≡ []
  faultless s s2 last t u f g whole here d e = refl
  faultless s s2 last t u f g whole (onward {s' = r} u1 {ts = us} g1 {fs = gs} p q) d e = by (λ z vs ws w q2 n. faultless r s2 z vs us ws gs w q q2 n) last t f whole d e
    where
      by : ((z : Stand) (vs : List Tok) (ws : List Fault) → length text ≤ z.at → Leads text r vs ws z → ws ≡ [] → gs ≡ []) → (z : Stand) (t0 : List Tok) (f0 : List Fault) → length text ≤ z.at → Leads text s t0 f0 z → f0 ≡ [] → g1 ++ gs ≡ []
      by rest z t0 f0 w here e0 = absurd (no_piece text s r u1 g1 w p)
      by rest z t0 f0 w (onward {s' = r2} u2 {ts = vs} f2 {fs = ws} p2 q2) e0 =
          let same = piece_one text s u2 u1 f2 g1 r2 r p2 p in
          let n = no_first f2 ws e0 in
          let m = rest z vs ws w (subst (λ x. Leads text x vs ws z) (sym same.2) q2) n.1 in
          (λ i. (same.1 ∙ n.0) i ++ m i)

  -- one row of tokens
  pub one_row : (s s2 last : Stand) (t u : List Tok) (f g : List Fault) → length text ≤ last.at → Leads text s t f last → Leads text s u g s2 → length text ≤ s2.at → u ≡ t
  one_row s s2 last t u f g whole here d h = (at_end s s2 u g d whole).0
  one_row s s2 last t u f g whole (onward {s' = r} t1 {ts} f1 {fs} p q) d h = by (λ z us gs w q2. one_row r z last ts us fs gs whole q q2 w) s2 u g h d
    where
      by : ((z : Stand) (us : List Tok) (gs : List Fault) → length text ≤ z.at → Leads text r us gs z → us ≡ ts) → (z : Stand) (u0 : List Tok) (g0 : List Fault) → length text ≤ z.at → Leads text s u0 g0 z → u0 ≡ t1 ++ ts
      by rest z u0 g0 w here = absurd (no_piece text s r t1 f1 w p)
      by rest z u0 g0 w (onward {s' = r2} u2 {ts = us} g2 {fs = gs} p2 q2) =
          let same = piece_one text s t1 u2 f1 g2 r r2 p p2 in
          let m = rest z us gs w (subst (λ x. Leads text x us gs z) same.2 q2) in
          (λ i. same.0 i ++ m i)

no_member : (f : Fault) → Contains [] f → ⊥
no_member f h = absurd (omega (arith, h.1))

-- a text has one list of tokens
pub tokens_one : (text : List ℕ) (u v : List Tok) → Lexes text u → Lexes text v → u ≡ v
tokens_one text u v a b =
    let h : length text ≤ b.last.at = omega (arith, b.ends) in
    let g : length text ≤ a.last.at = omega (arith, a.ends) in
    one_row text beginning a.last b.last v u [] [] h b.leads a.leads g

-- and where it has one it breaks no rule
pub tokens_unbroken : (text : List ℕ) (v : List Tok) (b : Broken) → Lexes text v → Breaks text b → ⊥
tokens_unbroken text v b l (inl h) = absurd (omega (arith, h.0, l.short))
tokens_unbroken text v b l (inr h) =
    let d = h.1.1 in
    let w : length text ≤ l.last.at = omega (arith, l.ends) in
    no_member h.1.0 (subst (λ x. Contains x h.1.0) (faultless text beginning d.last l.last v d.toks [] d.faults w d.leads l.leads refl) d.among)

snoc : {text : List ℕ} {a s s' : Stand} {ts : List Tok} (t : List Tok) {fs : List Fault} (f : List Fault) → Leads text a ts fs s → Piece text s t f s' → Leads text a (ts ++ t) (fs ++ f) s'
snoc {text} {a} {s} {s'} {ts} t {fs} f here p = subst (λ x. Leads text a x f s') (append-nil t) (subst (λ y. Leads text a (t ++ []) y s') (append-nil f) (onward t f p here))
snoc {text} {a} {s} {s'} {ts} t {fs} f (onward t1 {ts = ts1} f1 {fs = fs1} q r) p =
    subst (λ x. Leads text a x ((f1 ++ fs1) ++ f) s') (sym (append_assoc t1 ts1 t)) (subst (λ y. Leads text a (t1 ++ (ts1 ++ t)) y s') (sym (append_assoc f1 fs1 f)) (onward t1 f1 q (snoc t f r p)))

-- the text was read so far, and each other row of pieces ended before or goes on from here
pub record SoFar (text : List ℕ) (s : Stand) (toks : List Tok) : Type 0 where
  pub derives : Leads text beginning toks [] s
  pub only : (t : List Tok) (f : List Fault) (s2 : Stand) → Leads text beginning t f s2 → (f ≡ []) ⊎ (rest : List Tok) × Leads text s rest f s2

pub start : (text : List ℕ) → SoFar text beginning []
start text = record { derives = here; only = λ t f s2 d. inr (t, d) }

module _ (text : List ℕ) (s s' : Stand) (t : List Tok) (n : Piece text s t [] s') where
  step_on : {rest : List Tok} {f : List Fault} {s2 : Stand} → Leads text s rest f s2 → (f ≡ []) ⊎ (after : List Tok) × Leads text s' after f s2
  step_on here = inl refl
  step_on {s2} (onward {s' = r} t1 {ts} f1 {fs} p q) =
      let e = piece_one text s t t1 [] f1 s' r n p in
      inr (ts, subst (λ x. Leads text s' ts x s2) (sym (ap (λ x. x ++ fs) e.1)) (subst (λ x. Leads text x ts fs s2) e.2 q))

  step : {toks : List Tok} → SoFar text s toks → SoFar text s' (toks ++ t)
  step {toks} k = record {
    derives = snoc t [] k.derives n;
    only = λ t2 f s2 d. elim (k.only t2 f s2 d) [ inl e ↦ inl e | inr x ↦ step_on x.1 ];
  }

pub went_on : {text : List ℕ} {before after : State} {toks more : List Tok} → SoFar text (stand before) toks → Went text before toks after more → record { place : IsPlace text after.place; so_far : SoFar text (stand after) more }
went_on {text} {before} {after} {toks} {more} k w =
    record { place = w.place; so_far = subst (SoFar text (stand after)) (sym w.pushed) (step text (stand before) (stand after) w.found w.next k) }

-- the whole text was read
pub lexes : {text : List ℕ} {s : Stand} {toks : List Tok} → SoFar text s toks → length text ≤ longest_text → s.at ≤ length text → length text ≤ s.at → Lexes text toks
lexes {s} k short a b = record { short = short; last = s; leads = k.derives; ends = omega arith }

each_contains : (P : Fault → Type 0) (xs : List Fault) (g : Fault) → Each P xs → Contains xs g → P g
each_contains P [] g a c = absurd (no_member g c)
each_contains P (x ∷ xs) g a (zero, l, e) = subst P e a.0
each_contains P (x ∷ xs) g a (suc k, l, e) = each_contains P xs g a.1 (k, omega arith, e)

leads_after : (text : List ℕ) (s : Stand) (ts : List Tok) (fs : List Fault) (s2 : Stand) → Leads text s ts fs s2 → Each (From s.at) fs
leads_after text s ts fs s2 here = tt
leads_after text s ts fs s2 (onward {s'} t {ts = ts1} f {fs = fs1} p r) =
    let y = piece_after text s t f s' p in
    each_append (From s.at) f fs1 y.1 (each_map (From s'.at) (From s.at) fs1 (λ g h. omega (arith, y.0)) (leads_after text s' ts1 fs1 s2 r))

abbrev broken_of : List ℕ → Fault → Broken
broken_of text f = record { rule = f.rule; pos = pos_at text f.at }

not_after : (text : List ℕ) (f g : Fault) → f.at < length text → NotAfter f g → IsNotAfter (broken_of text f) (broken_of text g)
not_after text f g l (inl h) = inl (pos_before text f.at g.at h l)
not_after text f g l (inr h) = inr (ap (pos_at text) h.0, h.1)

-- the first broken rule of the next piece is the text's
module _ {text : List ℕ} {before : State} {toks : List Tok} {b : Broken} (k : SoFar text (stand before) toks) (w : FirstOf text before b) where
  first_least : (g : Fault) → Contains (w.first ∷ w.others) g → NotAfter w.first g
  first_least g c = each_contains (NotAfter w.first) (w.first ∷ w.others) g (inr (refl, omega arith), w.least) c

  later_least : (g : Fault) → w.after.at ≤ g.at → NotAfter w.first g
  later_least g h = let p = w.passed in inl (omega arith)

  all_least : {rest : List Tok} {f : List Fault} {s2 : Stand} → Leads text (stand before) rest f s2 → (g : Fault) → Contains f g → NotAfter w.first g
  all_least here g c = absurd (no_member g c)
  all_least {s2} (onward {s'} t {ts} f {fs} p r) g c =
      let e = piece_one text (stand before) w.found t (w.first ∷ w.others) f w.after s' w.next p in
      elim (Contains-append_cases f fs g c) [
        | inl x ↦ first_least g (subst (λ l. Contains l g) e.1 x)
        | inr x ↦ later_least g (subst (λ z. z.at ≤ g.at) e.2 (each_contains (From s'.at) fs g (leads_after text s' ts fs s2 r) x))
      ]

  reached_least : (g : Fault) → BreaksAt text g → NotAfter w.first g
  reached_least g x = elim (k.only x.toks x.faults x.last x.leads) [
    | inl y ↦ absurd (no_member g (subst (λ l. Contains l g) y x.among))
    | inr y ↦ all_least y.1 g x.among
  ]

  least_of : length text ≤ longest_text → (other : Broken) → Breaks text other → IsNotAfter b other
  least_of short other (inl h) = absurd (omega (arith, h.0))
  least_of short other (inr h) = subst (λ x. IsNotAfter x other) (sym w.is) (subst (IsNotAfter (broken_of text w.first)) (sym h.1.2) (not_after text w.first h.1.0 w.in_text (reached_least h.1.0 h.1.1)))

  pub first_broken : length text ≤ longest_text → IsFirst (Breaks text) b
  first_broken short = record {
    breaks = inr (short, (w.first, record { toks = toks ++ w.found; faults = w.first ∷ w.others; last = w.after; leads = snoc w.found (w.first ∷ w.others) k.derives w.next; among = (0, omega arith, refl) }, w.is));
    least = least_of short;
  }
