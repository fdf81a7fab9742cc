-- `#` lines: a line has at most one form, and ends in one way.
use Rattle.std.proofs.Common.{◌≡◌, ℕ, ◌+◌, ◌<◌, Bool, true, false, ◌||◌, is_some, inl, inr, Option, None, Some, IfNone, List, length, get_or, drop, codes, refl, sym, ap, subst, ◌∙◌, arith}
use Rattle.std.proofs.lemmas.List.{get_or-drop, get_or-take}
use Rattle.xc_tree.specs.declared.lexing.Start.{Start}
use Rattle.xc_tree.specs.declared.lexing.Start.TheVariants.{End, Blank, LineEnd, LineComment, BlockComment, Hash, Letter, Digit, Other}
use Rattle.xc_tree.specs.Bytes.{byte, start_at, part, Span, HasBytesAt, is_blank, is_of_word, is_letter, is_digit}
use Rattle.xc_tree.specs.Places.{pos_at}
use Rattle.xc_tree.specs.HashLines.{Header, Include, Define, Ending, TailStep, TailStop, Tail, stop, step}
use Rattle.xc_lexer.proofs.Spans.{span_one, closed_one, not_both}

-- a byte of a row of bytes that stands at a place
byte_of : (text w : List ℕ) (i k : ℕ) → HasBytesAt text i w → k < length w → byte text (i + k) ≡ get_or w k 256
byte_of text w i k h l = sym (get_or-drop i text k 256) ∙ sym (get_or-take (length w) (drop i text) k 256 l) ∙ ap (λ x. get_or x k 256) h

-- rows of bytes that differ at a byte don't stand at one place
apart : (text v w : List ℕ) (i k : ℕ) → HasBytesAt text i v → HasBytesAt text i w → k < length v → k < length w → (get_or v k 256 ≡ get_or w k 256 → ⊥) → ⊥
apart text v w i k a b l m n = n (sym (byte_of text v i k a l) ∙ byte_of text w i k b m)

differ : (a b : ℕ) → (a < b) → a ≡ b → ⊥
differ a b l e = absurd (omega arith)

-- one header
module _ (text : List ℕ) (i : ℕ) where
  pub header_one : {j k : ℕ} → Header text i j → Header text i k → k ≡ j
  header_one (inl a) (inl b) = b.1 ∙ sym a.1
  header_one (inl a) (inr (inl b)) = absurd (apart text (codes "<platform.h>") (codes "<xs1.h>") i 1 b.0 a.0 (omega arith) (omega arith) (differ 112 120 (omega arith)))
  header_one (inl a) (inr (inr b)) = absurd (apart text (codes "<print.h>") (codes "<xs1.h>") i 1 b.0 a.0 (omega arith) (omega arith) (differ 112 120 (omega arith)))
  header_one (inr (inl a)) (inl b) = absurd (apart text (codes "<platform.h>") (codes "<xs1.h>") i 1 a.0 b.0 (omega arith) (omega arith) (differ 112 120 (omega arith)))
  header_one (inr (inl a)) (inr (inl b)) = b.1 ∙ sym a.1
  header_one (inr (inl a)) (inr (inr b)) = absurd (apart text (codes "<platform.h>") (codes "<print.h>") i 2 a.0 b.0 (omega arith) (omega arith) (differ 108 114 (omega arith)))
  header_one (inr (inr a)) (inl b) = absurd (apart text (codes "<print.h>") (codes "<xs1.h>") i 1 a.0 b.0 (omega arith) (omega arith) (differ 112 120 (omega arith)))
  header_one (inr (inr a)) (inr (inl b)) = absurd (apart text (codes "<platform.h>") (codes "<print.h>") i 2 b.0 a.0 (omega arith) (omega arith) (differ 108 114 (omega arith)))
  header_one (inr (inr a)) (inr (inr b)) = b.1 ∙ sym a.1

module _ {text : List ℕ} {i : ℕ} where
  -- one include
  pub include_one : {j k : ℕ} → Include text i j → Include text i k → k ≡ j
  include_one {j} {k} a b = header_one text a.header_at a.header (subst (λ n. Header text n k) (span_one a.blanks b.blanks) b.header)

  -- an include is no define
  pub include_no_define : {j m k : ℕ} {name : List ℕ} → Include text i j → Define text i name m k → ⊥
  include_no_define a b = apart text (codes "#define") (codes "#include") i 1 b.opens a.opens (omega arith) (omega arith) (differ 100 105 (omega arith))

  -- one define
  pub define_one : {m k m2 k2 : ℕ} {name name2 : List ℕ} → Define text i name m k → Define text i name2 m2 k2 → record { same_name : name2 ≡ name; same_number : m2 ≡ m; same_end : k2 ≡ k }
  define_one {m} {k} {m2} {k2} {name} {name2} a b =
      let at : b.name_at ≡ a.name_at = span_one a.blanks b.blanks in
      let end : b.name_end ≡ a.name_end = span_one a.run (subst (λ n. Span is_of_word text n b.name_end) at b.run) in
      let number : m2 ≡ m = span_one a.more_blanks (subst (λ n. Span is_blank text n m2) end b.more_blanks) in
      record {
        same_name = b.spells ∙ ap (λ n. part text n b.name_end) at ∙ ap (λ n. part text a.name_at n) end ∙ sym a.spells;
        same_number = number;
        same_end = span_one a.number (subst (λ n. Span is_of_word text n k2) number b.number);
      }

module _ (text : List ℕ) (i : ℕ) where
  step_one : {j k : ℕ} (x : Start) → TailStep text i x j → TailStep text i x k → k ≡ j
  step_one Blank a b = b ∙ sym a
  step_one LineComment a b = span_one a b
  step_one BlockComment a b = closed_one a.0 b.0
  step_one End a b = absurd a
  step_one LineEnd a b = absurd a
  step_one Hash a b = absurd a
  step_one Letter a b = absurd a
  step_one Digit a b = absurd a
  step_one Other a b = absurd a

  stop_one : {j k : ℕ} {e f : Ending} (x : Start) → TailStop text i x j e → TailStop text i x k f → (k ≡ j) × (f ≡ e)
  stop_one End a b = (b.0 ∙ sym a.0, b.1 ∙ sym a.1)
  stop_one LineEnd a b = (b.0 ∙ sym a.0, b.1 ∙ sym a.1)
  stop_one BlockComment (inl a) (inl b) = (closed_one a.0 b.0, b.2 ∙ sym a.2)
  stop_one BlockComment (inl a) (inr b) = absurd (not_both a.0 b.0)
  stop_one BlockComment (inr a) (inl b) = absurd (not_both b.0 a.0)
  stop_one BlockComment (inr a) (inr b) = (b.1 ∙ sym a.1, b.2 ∙ sym a.2)
  stop_one Blank a b = absurd a
  stop_one LineComment a b = absurd a
  stop_one Hash a b = absurd a
  stop_one Letter a b = absurd a
  stop_one Digit a b = absurd a
  stop_one Other a b = absurd a

  step_no_stop : (k j : ℕ) (e : Ending) (x : Start) → TailStep text i x k → TailStop text i x j e → ⊥
  step_no_stop k j e BlockComment a (inl b) = b.1 (ap (λ n. (pos_at text n).line) (closed_one a.0 b.0) ∙ a.1)
  step_no_stop k j e BlockComment a (inr b) = not_both a.0 b.0
  step_no_stop k j e Blank a b = b
  step_no_stop k j e LineComment a b = b
  step_no_stop k j e End a b = a
  step_no_stop k j e LineEnd a b = a
  step_no_stop k j e Hash a b = a
  step_no_stop k j e Letter a b = a
  step_no_stop k j e Digit a b = a
  step_no_stop k j e Other a b = a

module _ {text : List ℕ} where
  -- behind a blank or a comment the end is the same
  pub step_on : {i k j : ℕ} {e : Ending} → TailStep text i (start_at text i) k → Tail text i j e → Tail text k j e
  step_on {i} a (stop b) = absurd (step_no_stop text i _ _ _ (start_at text i) a b)
  step_on {i} {k} {j} {e} a (step b r) = subst (λ n. Tail text n j e) (step_one text i (start_at text i) a b) r

  -- where nothing of the kind follows there is no end
  pub no_tail : {i j : ℕ} {e : Ending} → ((k : ℕ) → TailStep text i (start_at text i) k → ⊥) → ((k : ℕ) (f : Ending) → TailStop text i (start_at text i) k f → ⊥) → Tail text i j e → ⊥
  no_tail n m (stop b) = m _ _ b
  no_tail n m (step b r) = n _ b

  stop_only : {i j k : ℕ} {e f : Ending} → TailStop text i (start_at text i) j e → Tail text i k f → (k ≡ j) × (f ≡ e)
  stop_only {i} a (stop b) = stop_one text i (start_at text i) a b
  stop_only {i} a (step b r) = absurd (step_no_stop text i _ _ _ (start_at text i) b a)

  -- one end
  pub tail_one : {i j k : ℕ} {e f : Ending} → Tail text i j e → Tail text i k f → (k ≡ j) × (f ≡ e)
  tail_one (stop a) b = stop_only a b
  tail_one (step a r) b = tail_one r (step_on a b)

-- where no header stands there is no include, if the blanks before it end there
pub no_include : {text : List ℕ} {i at : ℕ} → Span is_blank text (i + 8) at → ((k : ℕ) → Header text at k → ⊥) → (k : ℕ) → Include text i k → ⊥
no_include {text} b n k d = n k (subst (λ m. Header text m k) (span_one b d.blanks) d.header)

pub none_map : {T : Type 0} {P Q : Type 0} (r : Option T) → (P → Q) → IfNone r P → IfNone r Q
none_map None f p = f p
none_map (Some x) f p = p

pub no_some : {T : Type 0} (r : Option T) → is_some r ≡ false → r ≡ None
no_some None e = refl
no_some (Some x) e = cc

-- a run that begins with a digit has a byte
pub digit_of_word : (b : ℕ) → is_digit b ≡ true → is_of_word b ≡ true
unfolding is_of_word
digit_of_word b e = by (is_letter b)
  where
    by : (t : Bool) → (t || is_digit b) ≡ true
    by true = refl
    by false = e
