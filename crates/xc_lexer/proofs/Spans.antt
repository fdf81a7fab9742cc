-- Runs of bytes of a class.
use Rattle.std.proofs.Common.{◌≡◌, ℕ, ◌+◌, ◌<◌, ◌≤◌, Bool, true, false, inl, inr, List, length, get_or, refl, sym, ap, subst, ◌∙◌, arith}
use Rattle.std.proofs.lemmas.List.{get_or_past, get_or_default}
use Rattle.std.proofs.Common.{drop, if◌then◌else◌, nat_eq}
use Rattle.std.proofs.lemmas.List.{at_drop_more}
use Rattle.xc_tree.specs.Lexes.{IsBefore}
use Rattle.xc_tree.specs.declared.lexing.Start.{Start}
use Rattle.xc_tree.specs.declared.lexing.Start.TheVariants.{End}
use Rattle.std.proofs.Math.Seq.{take-add}
use Rattle.std.proofs.lemmas.Bool.{eq-eqb, ne_eqb, cases_order, cases_lt}
use Rattle.xw_words.specs.declared.pos.Pos.{Pos}
use Rattle.std.proofs.Common.{take, ◌++◌, ◌-◌, ◌∷◌, [], length-take, length-drop}
use Rattle.xc_tree.specs.Bytes.{start_at, start_of, part, byte, Span, ClosedAt, Unclosed}
use Rattle.xc_tree.specs.Places.{pos_at, pos_behind, next_pos}

-- behind the text no class goes on
pub stops_past : (is_in : ℕ → Bool) (text : List ℕ) (j : ℕ) → is_in 256 ≡ false → length text ≤ j → is_in (byte text j) ≡ false
stops_past is_in text j e h = ap is_in (get_or_past text j 256 h) ∙ e

pub stops_at : (is_in : ℕ → Bool) (text : List ℕ) (j : ℕ) → j < length text → is_in (get_or text j 0) ≡ false → is_in (byte text j) ≡ false
stops_at is_in text j h e = ap is_in (get_or_default text j 256 0 h) ∙ e

-- the place behind one more byte
pub pos_step : (p : Pos) (bs : List ℕ) (i : ℕ) → i < length bs → pos_behind p (drop i bs) ≡ pos_behind (next_pos p (get_or bs i 0)) (drop (i + 1) bs)
unfolding pos_behind
pos_step p bs i h = at_drop_more (pos_behind p) bs i 0 h

pub line_feed : (p : Pos) (b : ℕ) → b ≡ 10 → record { line = p.line + 1; col = 1 } ≡ next_pos p b
unfolding next_pos
line_feed p b e = ap (λ t. if t then record { line = p.line + 1; col = 1 } else record { line = p.line; col = p.col + 1 }) (sym (eq-eqb b 10 e))

pub no_line_feed : (p : Pos) (b : ℕ) → (b ≡ 10 → ⊥) → record { line = p.line; col = p.col + 1 } ≡ next_pos p b
unfolding next_pos
no_line_feed p b e = ap (λ t. if t then record { line = p.line + 1; col = 1 } else record { line = p.line; col = p.col + 1 }) (sym (ne_eqb b 10 e))

take_both : (text : List ℕ) (i j : ℕ) → i ≤ j → take i text ++ part text i j ≡ take j text
take_both text i j h = let e : i + (j - i) ≡ j = omega arith in sym (take-add i (j - i) text) ∙ ap (λ k. take k text) e

-- the place behind two rows of bytes
pub behind_both : (p : Pos) (a b : List ℕ) → pos_behind p (a ++ b) ≡ pos_behind (pos_behind p a) b
unfolding pos_behind
behind_both p [] b = refl
behind_both p (x ∷ a) b = behind_both (next_pos p x) a b

abbrev moved : Bool → Pos → Pos
moved true p = record { line = p.line + 1; col = 1 }
moved false p = record { line = p.line; col = p.col + 1 }

moved_line : (t : Bool) (p : Pos) → (moved t p).line ≤ p.line + 1
moved_line true p = omega arith
moved_line false p = omega arith

moved_col : (t : Bool) (p : Pos) → (moved t p).col ≤ p.col + 1
moved_col true p = omega arith
moved_col false p = omega arith

is_moved : (p : Pos) (b : ℕ) (t : Bool) → nat_eq b 10 ≡ t → next_pos p b ≡ moved t p
unfolding next_pos
is_moved p b true e = ap (λ t. if t then record { line = p.line + 1; col = 1 } else record { line = p.line; col = p.col + 1 }) e
is_moved p b false e = ap (λ t. if t then record { line = p.line + 1; col = 1 } else record { line = p.line; col = p.col + 1 }) e

line_at_most : (p : Pos) (a : List ℕ) → (pos_behind p a).line ≤ p.line + length a
unfolding pos_behind
line_at_most p [] = omega arith
line_at_most p (x ∷ a) =
    let h = line_at_most (next_pos p x) a in
    let k = moved_line (nat_eq x 10) p in
    let e = ap (λ q. q.line) (is_moved p x (nat_eq x 10) refl) in
    omega arith

col_at_most : (p : Pos) (a : List ℕ) → (pos_behind p a).col ≤ p.col + length a
unfolding pos_behind
col_at_most p [] = omega arith
col_at_most p (x ∷ a) =
    let h = col_at_most (next_pos p x) a in
    let k = moved_col (nat_eq x 10) p in
    let e = ap (λ q. q.col) (is_moved p x (nat_eq x 10) refl) in
    omega arith

pub line_within : (text : List ℕ) (i : ℕ) → (pos_at text i).line ≤ i + 1
line_within text i = let h = line_at_most (record { line = 1; col = 1 }) (take i text) in omega (arith, length-take {A = ℕ})

pub col_within : (text : List ℕ) (i : ℕ) → (pos_at text i).col ≤ i + 1
col_within text i = let h = col_at_most (record { line = 1; col = 1 }) (take i text) in omega (arith, length-take {A = ℕ})

pub pos_on : (text : List ℕ) (i j : ℕ) → i ≤ j → pos_behind (pos_at text i) (part text i j) ≡ pos_at text j
pos_on text i j h = sym (behind_both (record { line = 1; col = 1 }) (take i text) (part text i j)) ∙ ap (pos_behind (record { line = 1; col = 1 })) (take_both text i j h)

pub longer : {is_in : ℕ → Bool} {text : List ℕ} {i j : ℕ} → Span is_in text i j → is_in (byte text i) ≡ true → i < j
longer {is_in} {text} {i} {j} s e = elim (cases_order i j) [
  | inl f ↦ let k : is_in (byte text i) ≡ false = ap (λ n. is_in (byte text n)) f ∙ s.stops in absurd (cc)
  | inr x ↦ elim x [ inl h ↦ h | inr h ↦ let l = s.after in absurd (omega arith) ]
]

-- a place behind another
before_trans : (p q r : Pos) → IsBefore p q → IsBefore q r → IsBefore p r
before_trans p q r (inl a) (inl b) = inl (omega arith)
before_trans p q r (inl a) (inr b) = inl (omega (arith, b.0))
before_trans p q r (inr a) (inl b) = inl (omega (arith, a.0))
before_trans p q r (inr a) (inr b) = inr (a.0 ∙ b.0, omega (arith, a.1, b.1))

moved_before : (t : Bool) (p : Pos) → IsBefore p (moved t p)
moved_before true p = inl (omega arith)
moved_before false p = inr (refl, omega arith)

next_before : (p : Pos) (b : ℕ) → IsBefore p (next_pos p b)
next_before p b = subst (IsBefore p) (sym (is_moved p b (nat_eq b 10) refl)) (moved_before (nat_eq b 10) p)

behind_before : (p : Pos) (b : ℕ) (bs : List ℕ) → IsBefore p (pos_behind p (b ∷ bs))
unfolding pos_behind
behind_before p b [] = next_before p b
behind_before p b (c ∷ bs) = before_trans p (next_pos p b) (pos_behind (next_pos p b) (c ∷ bs)) (next_before p b) (behind_before (next_pos p b) c bs)

some_before : (p : Pos) (bs : List ℕ) → 0 < length bs → IsBefore p (pos_behind p bs)
some_before p [] h = absurd (omega arith)
some_before p (b ∷ bs) h = behind_before p b bs

pub pos_before : (text : List ℕ) (i j : ℕ) → i < j → i < length text → IsBefore (pos_at text i) (pos_at text j)
pos_before text i j h l = subst (IsBefore (pos_at text i)) (pos_on text i j (omega arith)) (some_before (pos_at text i) (part text i j) (simp (length-take, length-drop) (omega arith)))

-- a place that begins something is in the text
pub inside : (text : List ℕ) (i : ℕ) (x : Start) → start_at text i ≡ x → (x ≡ End → ⊥) → i < length text
unfolding start_of
inside text i x e n = elim (cases_lt i (length text)) [
  | inl h ↦ h
  | inr h ↦ let g : start_of (byte text i) (byte text (i + 1)) ≡ End = ap (λ b. start_of b (byte text (i + 1))) (get_or_past text i 256 h) in absurd (n (sym e ∙ g))
]

-- a run ends at one place, and so does a comment
span_below : {is_in : ℕ → Bool} {text : List ℕ} {i j k : ℕ} → Span is_in text i j → Span is_in text i k → j < k → ⊥
span_below {j} a b h = let e = b.inside j a.after h in let f = a.stops in absurd (cc)

pub span_one : {is_in : ℕ → Bool} {text : List ℕ} {i j k : ℕ} → Span is_in text i j → Span is_in text i k → k ≡ j
span_one {j} {k} a b = elim (cases_order j k) [ inl e ↦ sym e | inr x ↦ elim x [ inl h ↦ absurd (span_below a b h) | inr h ↦ absurd (span_below b a h) ] ]

closed_below : {text : List ℕ} {i j k : ℕ} → ClosedAt text i j → ClosedAt text i k → j < k → ⊥
closed_below {text} {i} {j} {k} a b h = let l = a.after in b.first (j - 2) (omega arith) (omega arith) a.closes

pub closed_one : {text : List ℕ} {i j k : ℕ} → ClosedAt text i j → ClosedAt text i k → k ≡ j
closed_one {j} {k} a b = elim (cases_order j k) [ inl e ↦ sym e | inr x ↦ elim x [ inl h ↦ absurd (closed_below a b h) | inr h ↦ absurd (closed_below b a h) ] ]

pub not_both : {text : List ℕ} {i j : ℕ} → ClosedAt text i j → Unclosed text i → ⊥
not_both {j} a b = let l = a.after in b.never (j - 2) (omega arith) a.closes
