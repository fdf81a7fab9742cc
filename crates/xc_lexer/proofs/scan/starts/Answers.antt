use Rattle.std.proofs.Common.{◌≡◌, ℕ, ◌+◌, ◌-◌, ◌<◌, ◌≤◌, ◌⊎◌, inl, inr, true, false, ◌&&◌, nat_eq, Fits, w8, List, length, get_or}
use Rattle.std.proofs.Common.{refl, sym, ap, subst, ◌∙◌, arith}
use Rattle.std.proofs.lemmas.Bool.{eq-eqb, ne_eqb}
use Rattle.std.proofs.lemmas.List.{get_or_past, get_or_default}
use Rattle.xc_tree.specs.declared.lexing.Start.{Start}
use Rattle.xc_tree.specs.declared.lexing.Start.TheVariants.{End, Blank, LineEnd, LineComment, BlockComment, Hash, Letter, Digit, Other}
use Rattle.xc_tree.specs.Bytes.{byte, start_at, start_of, is_letter, is_digit, is_of_word, is_blank, is_in_line}
use Rattle.xc_lexer.proofs.scan.starts.Goals.{then-text-at-gt1, else-text-at-gt1}
use Rattle.xc_lexer.proofs.scan.starts.Goals as goal

-- what holds where this begins, at the byte b
abbrev Beside : List ℕ → ℕ → ℕ → Start → Type 0
Beside text at b End = length text ≤ at
Beside text at b Blank = Unit {0}
Beside text at b LineEnd = Unit {0}
Beside text at b LineComment = is_in_line b ≡ true
Beside text at b BlockComment = at + 2 ≤ length text
Beside text at b Hash = Unit {0}
Beside text at b Letter = is_of_word b ≡ true
Beside text at b Digit = is_of_word b ≡ true
Beside text at b Other = Unit {0}

-- with that, all is said of what begins there
said : (text : List ℕ) (at b : ℕ) (x : Start) → byte text at ≡ b → x ≡ start_of b (byte text (at + 1)) →
    ((x ≡ End → ⊥) → at < length text) → Beside text at b x →
    record {
      is : x ≡ start_at text at;
      within : (x ≡ End → ⊥) → at < length text;
      end : x ≡ End → length text ≤ at;
      comment : x ≡ BlockComment → at + 2 ≤ length text;
      line : x ≡ LineComment → is_in_line (byte text at) ≡ true;
      letter : x ≡ Letter → is_of_word (byte text at) ≡ true;
      digit : x ≡ Digit → is_of_word (byte text at) ≡ true;
    }
said text at b x e is within beside = record {
  is = is ∙ ap (λ y. start_of y (byte text (at + 1))) (sym e);
  within = within;
  end = λ p. subst (Beside text at b) p beside;
  comment = λ p. subst (Beside text at b) p beside;
  line = λ p. ap is_in_line e ∙ subst (Beside text at b) p beside;
  letter = λ p. ap is_of_word e ∙ subst (Beside text at b) p beside;
  digit = λ p. ap is_of_word e ∙ subst (Beside text at b) p beside;
}

-- a byte is none that is read behind the text
no_end : (b : ℕ) → Fits w8 b → b ≡ 256 → ⊥
no_end b fits e = absurd (omega arith)

-- the byte that the code takes for the next one: that, or a blank behind the text
abbrev Next : List ℕ → ℕ → ℕ → Type 0
Next text at next = ((1 < length text - at) × (next ≡ get_or text (at + 1) 0)) ⊎ ((length text - at ≤ 1) × (next ≡ 32))

-- if it is another one than a blank, it is the next one
next_is : (text : List ℕ) (at next k : ℕ) → Next text at next → next ≡ k → 32 < k → (byte text (at + 1) ≡ k) × (at + 2 ≤ length text)
next_is text at next k (inl h) e more = (get_or_default text (at + 1) 256 0 (omega (arith, h.0)) ∙ sym h.1 ∙ e, omega (arith, h.0))
next_is text at next k (inr h) e more = absurd (omega (arith, h.1))

-- if it isn't this one, the next one isn't
next_is_not : (text : List ℕ) (at next k : ℕ) → Next text at next → (next ≡ k → ⊥) → k < 256 → byte text (at + 1) ≡ k → ⊥
next_is_not text at next k (inl h) other less e = other (h.1 ∙ sym (get_or_default text (at + 1) 256 0 (omega (arith, h.0))) ∙ e)
next_is_not text at next k (inr h) other less e =
    let past = get_or_past text (at + 1) 256 (omega (arith, h.0)) in
    absurd (omega arith)

-- two bytes aren't a slash and this one
not_both : (text : List ℕ) (at b next k : ℕ) → Next text at next → k < 256 → ((b ≡ 47) × (next ≡ k → ⊥)) ⊎ (b ≡ 47 → ⊥) →
    (nat_eq b 47 && nat_eq (byte text (at + 1)) k) ≡ false
not_both text at b next k is less (inl h) = rw (eq-eqb b 47 h.0, ne_eqb (byte text (at + 1)) k (next_is_not text at next k is h.1 less))
not_both text at b next k is less (inr h) = rw (ne_eqb b 47 h)

-- what two bytes begin, in the order of the tests
module _ (b next : ℕ) where
  -- a blank
  begins_blank : (b ≡ 256 → ⊥) → is_blank b ≡ true → Blank ≡ start_of b next
  unfolding start_of
  begins_blank some e = rw (ne_eqb b 256 some, e)

  -- a line feed
  begins_line_end : is_blank b ≡ false → b ≡ 10 → LineEnd ≡ start_of b next
  unfolding start_of
  begins_line_end not e = rw (ne_eqb b 256 (omega arith), not, eq-eqb b 10 e)

  -- two slashes
  begins_line_comment : is_blank b ≡ false → b ≡ 47 → next ≡ 47 → LineComment ≡ start_of b next
  unfolding start_of
  begins_line_comment not e f = rw (ne_eqb b 256 (omega arith), not, ne_eqb b 10 (omega arith), eq-eqb b 47 e, eq-eqb next 47 f)

  -- a slash and a star
  begins_comment : is_blank b ≡ false → b ≡ 47 → next ≡ 42 → BlockComment ≡ start_of b next
  unfolding start_of
  begins_comment not e f =
      rw (ne_eqb b 256 (omega arith), not, ne_eqb b 10 (omega arith), eq-eqb b 47 e, ne_eqb next 47 (omega arith), eq-eqb next 42 f)

  -- a `#`
  begins_hash : is_blank b ≡ false → b ≡ 35 → Hash ≡ start_of b next
  unfolding start_of
  begins_hash not e = rw (ne_eqb b 256 (omega arith), not, ne_eqb b 10 (omega arith), ne_eqb b 47 (omega arith), eq-eqb b 35 e)

  -- none of these
  module _ (some : b ≡ 256 → ⊥) (no_blank : is_blank b ≡ false) (no_end : b ≡ 10 → ⊥) (no_line : (nat_eq b 47 && nat_eq next 47) ≡ false)
      (no_block : (nat_eq b 47 && nat_eq next 42) ≡ false) (no_hash : b ≡ 35 → ⊥) where
    -- a letter
    begins_letter : is_letter b ≡ true → Letter ≡ start_of b next
    unfolding start_of
    begins_letter e = rw (ne_eqb b 256 some, no_blank, ne_eqb b 10 no_end, no_line, no_block, ne_eqb b 35 no_hash, e)

    -- a digit
    begins_digit : is_letter b ≡ false → is_digit b ≡ true → Digit ≡ start_of b next
    unfolding start_of
    begins_digit not e = rw (ne_eqb b 256 some, no_blank, ne_eqb b 10 no_end, no_line, no_block, ne_eqb b 35 no_hash, not, e)

    -- another byte
    begins_other : is_letter b ≡ false → is_digit b ≡ false → Other ≡ start_of b next
    unfolding start_of
    begins_other not e = rw (ne_eqb b 256 some, no_blank, ne_eqb b 10 no_end, no_line, no_block, ne_eqb b 35 no_hash, not, e)

-- behind the text there is its end
begins_end : (text : List ℕ) (at : ℕ) → length text ≤ at → End ≡ start_of 256 (byte text (at + 1))
unfolding start_of
begins_end text at h = refl

-- a slash ends no line
slash_in_line : (b : ℕ) → b ≡ 47 → is_in_line b ≡ true
unfolding is_in_line
slash_in_line b e = rw e

-- a letter is of a word
letter_of_word : (b : ℕ) → is_letter b ≡ true → is_of_word b ≡ true
unfolding is_of_word
letter_of_word b e = rw e

-- a digit is of a word
digit_of_word : (b : ℕ) → is_letter b ≡ false → is_digit b ≡ true → is_of_word b ≡ true
unfolding is_of_word
digit_of_word b not e = rw (not, e)

pub returns-then-at-text : goal.returns-then-at-text
returns-then-at-text c =
    said c.args.text.now c.args.at 256 End (get_or_past c.args.text.now c.args.at 256 c.if-at-text.true)
    (begins_end c.args.text.now c.args.at c.if-at-text.true)
    (λ n. absurd (n refl)) c.if-at-text.true

pub returns-then-is_blank : goal.returns-then-is_blank
returns-then-is_blank c =
    let text = c.args.text.now in
    let at = c.args.at in
    let b = get_or text at 0 in
    said text at b Blank (get_or_default text at 256 0 c.if-at-text.false)
    (begins_blank b (byte text (at + 1)) (no_end b (c.type_inv.text at)) (sym c.is_blank.ensures ∙ c.if-is_blank.true))
    (λ _. c.if-at-text.false) tt

pub returns-then-b-eq10 : goal.returns-then-b-eq10
returns-then-b-eq10 c =
    let text = c.args.text.now in
    let at = c.args.at in
    let b = get_or text at 0 in
    let no_blank = sym c.is_blank.ensures ∙ c.if-is_blank.false in
    said text at b LineEnd (get_or_default text at 256 0 c.if-at-text.false)
    (begins_line_end b (byte text (at + 1)) no_blank c.if-b-eq10.true)
    (λ _. c.if-at-text.false) tt

pub returns-then-next-eq47 : goal.returns-then-next-eq47
returns-then-next-eq47 c =
    let text = c.args.text.now in
    let at = c.args.at in
    let b = get_or text at 0 in
    let no_blank = sym c.is_blank.ensures ∙ c.if-is_blank.false in
    let next : Next text at c.if-text-at-gt1.next = elim c.if-text-at-gt1.branch [
      | then-text-at-gt1 w ↦ inl (w.if-text-at-gt1.true, w.next-is)
      | else-text-at-gt1 w ↦ inr (w.if-text-at-gt1.false, w.next-is)
    ] in
    let slash = next_is text at c.if-text-at-gt1.next 47 next c.if-next-eq47.true (omega arith) in
    said text at b LineComment (get_or_default text at 256 0 c.if-at-text.false)
    (begins_line_comment b (byte text (at + 1)) no_blank c.if-b-eq47.true slash.0)
    (λ _. c.if-at-text.false) (slash_in_line b c.if-b-eq47.true)

pub returns-then-next-eq42 : goal.returns-then-next-eq42
returns-then-next-eq42 c =
    let text = c.args.text.now in
    let at = c.args.at in
    let b = get_or text at 0 in
    let no_blank = sym c.is_blank.ensures ∙ c.if-is_blank.false in
    let next : Next text at c.if-text-at-gt1.next = elim c.if-text-at-gt1.branch [
      | then-text-at-gt1 w ↦ inl (w.if-text-at-gt1.true, w.next-is)
      | else-text-at-gt1 w ↦ inr (w.if-text-at-gt1.false, w.next-is)
    ] in
    let star = next_is text at c.if-text-at-gt1.next 42 next c.if-next-eq42.true (omega arith) in
    said text at b BlockComment (get_or_default text at 256 0 c.if-at-text.false)
    (begins_comment b (byte text (at + 1)) no_blank c.if-b-eq47-2.true star.0)
    (λ _. c.if-at-text.false) star.1

pub returns-then-b-eq35 : goal.returns-then-b-eq35
returns-then-b-eq35 c =
    let text = c.args.text.now in
    let at = c.args.at in
    let b = get_or text at 0 in
    let no_blank = sym c.is_blank.ensures ∙ c.if-is_blank.false in
    said text at b Hash (get_or_default text at 256 0 c.if-at-text.false)
    (begins_hash b (byte text (at + 1)) no_blank c.if-b-eq35.true)
    (λ _. c.if-at-text.false) tt

pub returns-then-is_letter : goal.returns-then-is_letter
returns-then-is_letter c =
    let text = c.args.text.now in
    let at = c.args.at in
    let b = get_or text at 0 in
    let no_blank = sym c.is_blank.ensures ∙ c.if-is_blank.false in
    let next : Next text at c.if-text-at-gt1.next = elim c.if-text-at-gt1.branch [
      | then-text-at-gt1 w ↦ inl (w.if-text-at-gt1.true, w.next-is)
      | else-text-at-gt1 w ↦ inr (w.if-text-at-gt1.false, w.next-is)
    ] in
    let no_line = not_both text at b c.if-text-at-gt1.next 47 next (omega arith) c.else-b-eq47.either in
    let no_block = not_both text at b c.if-text-at-gt1.next 42 next (omega arith) c.else-b-eq47-2.either in
    let letter = sym c.is_letter.ensures ∙ c.if-is_letter.true in
    said text at b Letter (get_or_default text at 256 0 c.if-at-text.false)
    (begins_letter b (byte text (at + 1)) (no_end b (c.type_inv.text at)) no_blank c.if-b-eq10.false no_line no_block
    c.if-b-eq35.false letter)
    (λ _. c.if-at-text.false) (letter_of_word b letter)

pub returns-then-is_digit : goal.returns-then-is_digit
returns-then-is_digit c =
    let text = c.args.text.now in
    let at = c.args.at in
    let b = get_or text at 0 in
    let no_blank = sym c.is_blank.ensures ∙ c.if-is_blank.false in
    let next : Next text at c.if-text-at-gt1.next = elim c.if-text-at-gt1.branch [
      | then-text-at-gt1 w ↦ inl (w.if-text-at-gt1.true, w.next-is)
      | else-text-at-gt1 w ↦ inr (w.if-text-at-gt1.false, w.next-is)
    ] in
    let no_line = not_both text at b c.if-text-at-gt1.next 47 next (omega arith) c.else-b-eq47.either in
    let no_block = not_both text at b c.if-text-at-gt1.next 42 next (omega arith) c.else-b-eq47-2.either in
    let no_letter = sym c.is_letter.ensures ∙ c.if-is_letter.false in
    let digit = sym c.is_digit.ensures ∙ c.if-is_digit.true in
    said text at b Digit (get_or_default text at 256 0 c.if-at-text.false)
    (begins_digit b (byte text (at + 1)) (no_end b (c.type_inv.text at)) no_blank c.if-b-eq10.false no_line no_block
    c.if-b-eq35.false no_letter digit)
    (λ _. c.if-at-text.false) (digit_of_word b no_letter digit)

pub returns : goal.returns
returns c =
    let text = c.args.text.now in
    let at = c.args.at in
    let b = get_or text at 0 in
    let no_blank = sym c.is_blank.ensures ∙ c.if-is_blank.false in
    let next : Next text at c.if-text-at-gt1.next = elim c.if-text-at-gt1.branch [
      | then-text-at-gt1 w ↦ inl (w.if-text-at-gt1.true, w.next-is)
      | else-text-at-gt1 w ↦ inr (w.if-text-at-gt1.false, w.next-is)
    ] in
    let no_line = not_both text at b c.if-text-at-gt1.next 47 next (omega arith) c.else-b-eq47.either in
    let no_block = not_both text at b c.if-text-at-gt1.next 42 next (omega arith) c.else-b-eq47-2.either in
    let no_letter = sym c.is_letter.ensures ∙ c.if-is_letter.false in
    let no_digit = sym c.is_digit.ensures ∙ c.if-is_digit.false in
    said text at b Other (get_or_default text at 256 0 c.if-at-text.false)
    (begins_other b (byte text (at + 1)) (no_end b (c.type_inv.text at)) no_blank c.if-b-eq10.false no_line no_block
    c.if-b-eq35.false no_letter no_digit)
    (λ _. c.if-at-text.false) tt
