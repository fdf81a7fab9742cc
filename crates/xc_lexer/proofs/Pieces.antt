-- The pieces of a text: at a place there is one, and it goes on.
use Rattle.std.proofs.Common.{◌≡◌, ℕ, ◌+◌, ◌<◌, ◌≤◌, Bool, true, false, ◌&&◌, ◌||◌, if◌then◌else◌, nat_eq, inl, inr, Option, Some, None, List, [], ◌∷◌, ◌++◌, length, refl, sym, ap, subst, ◌∙◌, arith}
use Rattle.std.proofs.lemmas.Bool.{cases_order, eqb-true}
use Rattle.std.proofs.lemmas.List.{get_or_past}
use Rattle.xc_tree.specs.declared.token.Tok.{Tok}
use Rattle.xc_tree.specs.declared.token.Kind.TheVariants.{Sym}
use Rattle.xc_tree.specs.declared.lexing.Number.{Number}
use Rattle.xc_tree.specs.declared.lexing.Start.{Start}
use Rattle.xc_tree.specs.declared.lexing.Start.TheVariants.{End, Blank, LineEnd, LineComment, BlockComment, Hash, Letter, Digit, Other}
use Rattle.xc_tree.specs.declared.lexing.Reading.{Reading}
use Rattle.xc_tree.specs.declared.lexing.Reading.TheVariants.{Formless, TooLarge, Fine}
use Rattle.xc_tree.specs.Numbers.{reading}
use Rattle.xc_tree.specs.Bytes.{byte, start_at, start_of, part, is_of_word, is_in_line, is_letter, is_digit, is_blank}
use Rattle.xc_tree.specs.Tables.{symbols, Longest}
use Rattle.xw_words.specs.Tables.{place_in}
use Rattle.xc_tree.specs.HashLines.{Ending, ends, unclosed, TailStep, TailStop, Tail, stop, step, Include, Define}
use Rattle.xc_tree.specs.Pieces.{Stand, go_on, Fault, token, number_token, number_faults, kind_of_word, ending_faults, again_faults, define, IncludeLine, DefineLine, HashLine, HashAt, PieceOf, Piece}
use Rattle.xc_lexer.specs.Steps.{Each}
use Rattle.xc_lexer.proofs.Spans.{span_one, closed_one, not_both, longer, inside}
use Rattle.xc_lexer.proofs.Symbols.{longest_after}
use Rattle.xc_lexer.proofs.Forms.{include_one, include_no_define, define_one, tail_one, digit_of_word}

-- one piece
abbrev Same : List Tok → List Fault → Stand → List Tok → List Fault → Stand → Type 0
Same t f s t2 f2 s2 = (t2 ≡ t) × (f2 ≡ f) × (s2 ≡ s)

same_by : {t : List Tok} {f : List Fault} {s : Stand} {u t2 : List Tok} {g f2 : List Fault} {r s2 : Stand} → t ≡ u → f ≡ g → s ≡ r → t2 ≡ u → f2 ≡ g → s2 ≡ r → Same t f s t2 f2 s2
same_by a b c d e f = (d ∙ sym a, e ∙ sym b, f ∙ sym c)

module _ (text : List ℕ) (s : Stand) where
  longest_below : {j k i l : ℕ} → Longest text s.at j k → Longest text s.at i l → j < i → ⊥
  longest_below a b h = let e = a.no_longer _ h b.within in let f = b.spells in absurd (cc)

  longest_end : {j k i l : ℕ} → Longest text s.at j k → Longest text s.at i l → i ≡ j
  longest_end {j} {i} a b = elim (cases_order j i) [ inl e ↦ sym e | inr x ↦ elim x [ inl h ↦ absurd (longest_below a b h) | inr h ↦ absurd (longest_below b a h) ] ]

  longest_symbol : {j k i l : ℕ} → Longest text s.at j k → Longest text s.at i l → l ≡ k
  longest_symbol {j} {k} {i} {l} a b =
      let e : place_in symbols (part text s.at i) ≡ Some k = ap (λ n. place_in symbols (part text s.at n)) (longest_end a b) ∙ a.spells in
      let f = b.spells in
      cc

  module _ (f f2 : List Fault) (r r2 : Stand) where
    abbrev SameLine : Type 0
    SameLine = (f2 ≡ f) × (r2 ≡ r)

    include_line_one : IncludeLine text s f r → IncludeLine text s f2 r2 → SameLine
    include_line_one a b =
        let k = include_one a.3 b.3 in
        let e = tail_one a.4 (subst (λ n. Tail text n b.1 b.2) k b.4) in
        (b.5 ∙ ap ending_faults e.1 ∙ sym a.5, b.6 ∙ ap (go_on s) e.0 ∙ sym a.6)

    abbrev line_faults : List ℕ → ℕ → ℕ → Ending → List Fault
    line_faults name m k e = again_faults s.at (s.numbers name) ++ (number_faults m (reading (part text m k)) ++ ending_faults e)

    abbrev line_stand : List ℕ → ℕ → ℕ → ℕ → Stand
    line_stand name m k j = record { at = j; fresh = false; numbers = define s.numbers name (reading (part text m k)) }

    define_line_one : DefineLine text s f r → DefineLine text s f2 r2 → SameLine
    define_line_one a b =
        let d = define_one a.5 b.5 in
        let e = tail_one a.6 (subst (λ n. Tail text n b.3 b.4) d.same_end b.6) in (
          b.7 ∙ (λ i. line_faults (d.same_name i) (d.same_number i) (d.same_end i) (e.1 i)) ∙ sym a.7,
          b.8 ∙ (λ i. line_stand (d.same_name i) (d.same_number i) (d.same_end i) (e.0 i)) ∙ sym a.8,
        )

    hash_line_one : HashLine text s f r → HashLine text s f2 r2 → SameLine
    hash_line_one (inl a) (inl b) = include_line_one a b
    hash_line_one (inl a) (inr (inl b)) = absurd (include_no_define a.3 b.5)
    hash_line_one (inl a) (inr (inr b)) = absurd (b.0.no_include _ _ _ a.3 a.4)
    hash_line_one (inr (inl a)) (inl b) = absurd (include_no_define b.3 a.5)
    hash_line_one (inr (inl a)) (inr (inl b)) = define_line_one a b
    hash_line_one (inr (inl a)) (inr (inr b)) = absurd (b.0.no_define _ _ _ _ _ a.5 a.6)
    hash_line_one (inr (inr a)) (inl b) = absurd (a.0.no_include _ _ _ b.3 b.4)
    hash_line_one (inr (inr a)) (inr (inl b)) = absurd (a.0.no_define _ _ _ _ _ b.5 b.6)
    hash_line_one (inr (inr a)) (inr (inr b)) = (b.1 ∙ sym a.1, b.2 ∙ sym a.2)

    hash_one : (at_line_start : Bool) → HashAt text s at_line_start f r → HashAt text s at_line_start f2 r2 → SameLine
    hash_one true a b = hash_line_one a b
    hash_one false a b = (b.0 ∙ sym a.0, b.1 ∙ sym a.1)

  module _ (t t2 : List Tok) (f f2 : List Fault) (r r2 : Stand) where
    piece_of_one : (x : Start) → PieceOf text s x t f r → PieceOf text s x t2 f2 r2 → Same t f r t2 f2 r2
    piece_of_one End a b = absurd a
    piece_of_one Blank a b = same_by a.0 a.1 a.2 b.0 b.1 b.2
    piece_of_one LineEnd a b = same_by a.0 a.1 a.2 b.0 b.1 b.2
    piece_of_one LineComment a b = same_by a.2 a.3 a.4 b.2 b.3 (b.4 ∙ ap (go_on s) (span_one a.1 b.1))
    piece_of_one BlockComment (inl a) (inl b) = same_by a.2 a.3 a.4 b.2 b.3 (b.4 ∙ ap (go_on s) (closed_one a.1 b.1))
    piece_of_one BlockComment (inl a) (inr b) = absurd (not_both a.1 b.0)
    piece_of_one BlockComment (inr a) (inl b) = absurd (not_both b.1 a.0)
    piece_of_one BlockComment (inr a) (inr b) = same_by a.1 a.2 a.3 b.1 b.2 b.3
    piece_of_one Hash a b = let h = hash_one f f2 r r2 s.fresh a.1 b.1 in (b.0 ∙ sym a.0, h.0, h.1)
    piece_of_one Letter a b =
        let h = span_one a.1 b.1 in
        same_by a.2 a.3 a.4 (b.2 ∙ ap (λ k. token text s.at (kind_of_word s.numbers (part text s.at k))) h) b.3 (b.4 ∙ ap (go_on s) h)
    piece_of_one Digit a b =
        let h = span_one a.1 b.1 in
        same_by a.2 a.3 a.4 (b.2 ∙ ap (λ k. number_token text s.at (reading (part text s.at k))) h) (b.3 ∙ ap (λ k. number_faults s.at (reading (part text s.at k))) h) (b.4 ∙ ap (go_on s) h)
    piece_of_one Other (inl a) (inl b) = same_by a.3 a.4 a.5 (b.3 ∙ ap (λ l. token text s.at (Sym l)) (longest_symbol a.2 b.2)) b.4 (b.5 ∙ ap (go_on s) (longest_end a.2 b.2))
    piece_of_one Other (inl a) (inr b) = let e = b.0.never a.0 a.2.within in let g = a.2.spells in absurd (cc)
    piece_of_one Other (inr a) (inl b) = let e = a.0.never b.0 b.2.within in let g = b.2.spells in absurd (cc)
    piece_of_one Other (inr a) (inr b) = same_by a.1 a.2 a.3 b.1 b.2 b.3

pub piece_one : (text : List ℕ) (s : Stand) (t t2 : List Tok) (f f2 : List Fault) (r r2 : Stand) → Piece text s t f r → Piece text s t2 f2 r2 → (t2 ≡ t) × (f2 ≡ f) × (r2 ≡ r)
piece_one text s t t2 f f2 r r2 a b = piece_of_one text s t t2 f f2 r r2 (start_at text s.at) a b

-- behind the text there is none
pub no_piece : (text : List ℕ) (s r : Stand) (t : List Tok) (f : List Fault) → length text ≤ s.at → Piece text s t f r → ⊥
unfolding start_of
no_piece text s r t f h p =
    let e : start_at text s.at ≡ End = ap (λ b. start_of b (byte text (s.at + 1))) (get_or_past text s.at 256 h) in
    subst (λ x. PieceOf text s x t f r) e p

-- what a place begins, by the tests in their order
abbrev chosen : Bool → Bool → Bool → Bool → Bool → Bool → Bool → Bool → Start
chosen none blank feed line block hash letter digit =
    if none then End
    else (if blank then Blank
    else (if feed then LineEnd
    else (if line then LineComment
    else (if block then BlockComment
    else (if hash then Hash
    else (if letter then Letter
    else (if digit then Digit
    else Other)))))))

line_test : (n b f l k h w d : Bool) → chosen n b f l k h w d ≡ LineComment → l ≡ true
line_test true b f l k h w d e = cc
line_test false true f l k h w d e = cc
line_test false false true l k h w d e = cc
line_test false false false true k h w d e = refl
line_test false false false false true h w d e = cc
line_test false false false false false true w d e = cc
line_test false false false false false false true d e = cc
line_test false false false false false false false true e = cc
line_test false false false false false false false false e = cc

letter_test : (n b f l k h w d : Bool) → chosen n b f l k h w d ≡ Letter → w ≡ true
letter_test true b f l k h w d e = cc
letter_test false true f l k h w d e = cc
letter_test false false true l k h w d e = cc
letter_test false false false true k h w d e = cc
letter_test false false false false true h w d e = cc
letter_test false false false false false true w d e = cc
letter_test false false false false false false true d e = refl
letter_test false false false false false false false true e = cc
letter_test false false false false false false false false e = cc

digit_test : (n b f l k h w d : Bool) → chosen n b f l k h w d ≡ Digit → d ≡ true
digit_test true b f l k h w d e = cc
digit_test false true f l k h w d e = cc
digit_test false false true l k h w d e = cc
digit_test false false false true k h w d e = cc
digit_test false false false false true h w d e = cc
digit_test false false false false false true w d e = cc
digit_test false false false false false false true d e = cc
digit_test false false false false false false false true e = refl
digit_test false false false false false false false false e = cc

both_first : (a b : Bool) → (a && b) ≡ true → a ≡ true
both_first true b e = refl
both_first false b e = cc

letter_of_word : (b : ℕ) → is_letter b ≡ true → is_of_word b ≡ true
unfolding is_of_word
letter_of_word b e = ap (λ t. t || is_digit b) e

pub starts_line_comment : (b next : ℕ) → start_of b next ≡ LineComment → is_in_line b ≡ true
unfolding start_of is_in_line
starts_line_comment b next e =
    let h = both_first (nat_eq b 47) (nat_eq next 47) (line_test (nat_eq b 256) (is_blank b) (nat_eq b 10) (nat_eq b 47 && nat_eq next 47) (nat_eq b 47 && nat_eq next 42) (nat_eq b 35) (is_letter b) (is_digit b) e) in
    let g : b ≡ 47 = eqb-true b 47 h in
    subst (λ x. (if nat_eq x 10 then false else (if nat_eq x 256 then false else true)) ≡ true) (sym g) refl

pub starts_letter : (b next : ℕ) → start_of b next ≡ Letter → is_of_word b ≡ true
unfolding start_of
starts_letter b next e = letter_of_word b (letter_test (nat_eq b 256) (is_blank b) (nat_eq b 10) (nat_eq b 47 && nat_eq next 47) (nat_eq b 47 && nat_eq next 42) (nat_eq b 35) (is_letter b) (is_digit b) e)

pub starts_digit : (b next : ℕ) → start_of b next ≡ Digit → is_of_word b ≡ true
unfolding start_of
starts_digit b next e = digit_of_word b (digit_test (nat_eq b 256) (is_blank b) (nat_eq b 10) (nat_eq b 47 && nat_eq next 47) (nat_eq b 47 && nat_eq next 42) (nat_eq b 35) (is_letter b) (is_digit b) e)

-- each broken rule is broken at its piece or later, and the next piece begins later
pub each_append : (P : Fault → Type 0) (xs ys : List Fault) → Each P xs → Each P ys → Each P (xs ++ ys)
each_append P [] ys a b = b
each_append P (x ∷ xs) ys a b = (a.0, each_append P xs ys a.1 b)

pub each_map : (P Q : Fault → Type 0) (xs : List Fault) → ((g : Fault) → P g → Q g) → Each P xs → Each Q xs
each_map P Q [] f a = tt
each_map P Q (x ∷ xs) f a = (f x a.0, each_map P Q xs f a.1)

abbrev pub From : ℕ → Fault → Type 0
From i g = i ≤ g.at

pub number_after : (i m : ℕ) (r : Reading) → i ≤ m → Each (From i) (number_faults m r)
number_after i m Formless h = (h, tt)
number_after i m TooLarge h = (h, tt)
number_after i m (Fine n) h = tt

abbrev EndFrom : ℕ → Ending → Type 0
EndFrom i ends = Unit {0}
EndFrom i (unclosed u) = i ≤ u

end_weaken : (i k : ℕ) (e : Ending) → i ≤ k → EndFrom k e → EndFrom i e
end_weaken i k ends h a = tt
end_weaken i k (unclosed u) h a = omega arith

end_after : (i : ℕ) (e : Ending) → EndFrom i e → Each (From i) (ending_faults e)
end_after i ends a = tt
end_after i (unclosed u) a = (a, tt)

again_after : (i : ℕ) (d : Option Number) → Each (From i) (again_faults i d)
again_after i None = tt
again_after i (Some n) = (omega arith, tt)

abbrev pub AfterIt : Stand → List Fault → Stand → Type 0
AfterIt s f s' = (s.at < s'.at) × Each (From s.at) f

module _ (text : List ℕ) where
  stop_after : (i j : ℕ) (e : Ending) (x : Start) → start_at text i ≡ x → TailStop text i x j e → (i ≤ j) × EndFrom i e
  stop_after i j e LineEnd q a = (omega (arith, a.0), subst (EndFrom i) (sym a.1) tt)
  stop_after i j e End q a = (omega (arith, a.0), subst (EndFrom i) (sym a.1) tt)
  stop_after i j e BlockComment q (inl a) = let l = a.0.after in (omega arith, subst (EndFrom i) (sym a.2) tt)
  stop_after i j e BlockComment q (inr a) = let l = inside text i BlockComment q (λ f. cc) in (omega (arith, a.1), let h : i ≤ i = omega arith in subst (EndFrom i) (sym a.2) h)
  stop_after i j e Blank q a = absurd a
  stop_after i j e LineComment q a = absurd a
  stop_after i j e Hash q a = absurd a
  stop_after i j e Letter q a = absurd a
  stop_after i j e Digit q a = absurd a
  stop_after i j e Other q a = absurd a

  step_after : (i k : ℕ) (x : Start) → TailStep text i x k → i ≤ k
  step_after i k Blank a = omega (arith, a)
  step_after i k LineComment a = a.after
  step_after i k BlockComment a = let l = a.0.after in omega arith
  step_after i k End a = absurd a
  step_after i k LineEnd a = absurd a
  step_after i k Hash a = absurd a
  step_after i k Letter a = absurd a
  step_after i k Digit a = absurd a
  step_after i k Other a = absurd a

  tail_after : (i j : ℕ) (e : Ending) → Tail text i j e → (i ≤ j) × EndFrom i e
  tail_after i j e (stop a) = stop_after i j e (start_at text i) refl a
  tail_after i j e (step {k} a r) = let h = step_after i k (start_at text i) a in let y = tail_after k j e r in (omega (arith, y.0), end_weaken i k e h y.1)

  include_after : (i k : ℕ) → Include text i k → i < k
  include_after i k n = let h = n.parted in elim n.header [ inl a ↦ omega (arith, a.1) | inr b ↦ elim b [ inl a ↦ omega (arith, a.1) | inr a ↦ omega (arith, a.1) ] ]

  define_after : (i m k : ℕ) (t : List ℕ) → Define text i t m k → (i < m) × (m ≤ k)
  define_after i m k t d = let a = d.parted in let b = d.run.after in let c = d.parted_too in let e = d.number.after in (omega arith, omega arith)

  after_by : (s s' z : Stand) (f g : List Fault) → f ≡ g → s' ≡ z → s.at < z.at → Each (From s.at) g → AfterIt s f s'
  after_by s s' z f g e h l a = (subst (λ y. s.at < y.at) (sym h) l, subst (Each (From s.at)) (sym e) a)

  hash_after : (s : Stand) (b : Bool) (f : List Fault) (s' : Stand) → HashAt text s b f s' → AfterIt s f s'
  hash_after s false f s' a = after_by s s' _ f _ a.0 a.1 (omega arith) (omega arith, tt)
  hash_after s true f s' (inl a) =
      let h = include_after s.at a.0 a.3 in
      let y = tail_after a.0 a.1 a.2 a.4 in
      after_by s s' _ f _ a.5 a.6 (omega (arith, y.0)) (end_after s.at a.2 (end_weaken s.at a.0 a.2 (omega arith) y.1))
  hash_after s true f s' (inr (inl a)) =
      let h = define_after s.at a.1 a.2 a.0 a.5 in
      let y = tail_after a.2 a.3 a.4 a.6 in
      let r = reading (part text a.1 a.2) in
      after_by s s' _ f _ a.7 a.8 (omega (arith, y.0, h.0, h.1))
      (each_append (From s.at) (again_faults s.at (s.numbers a.0)) (number_faults a.1 r ++ ending_faults a.4) (again_after s.at (s.numbers a.0))
      (each_append (From s.at) (number_faults a.1 r) (ending_faults a.4) (number_after s.at a.1 r (omega (arith, h.0))) (end_after s.at a.4 (end_weaken s.at a.2 a.4 (omega (arith, h.0, h.1)) y.1))))
  hash_after s true f s' (inr (inr a)) = after_by s s' _ f _ a.1 a.2 (omega arith) (omega arith, tt)

  piece_of_after : (s : Stand) (x : Start) (t : List Tok) (f : List Fault) (s' : Stand) → start_at text s.at ≡ x → PieceOf text s x t f s' → AfterIt s f s'
  piece_of_after s End t f s' q a = absurd a
  piece_of_after s Blank t f s' q a = after_by s s' _ f _ a.1 a.2 (omega arith) tt
  piece_of_after s LineEnd t f s' q a = after_by s s' _ f _ a.1 a.2 (omega arith) tt
  piece_of_after s LineComment t f s' q a = after_by s s' _ f _ a.3 a.4 (longer a.1 (starts_line_comment (byte text s.at) (byte text (s.at + 1)) q)) tt
  piece_of_after s BlockComment t f s' q (inl a) = let l = a.1.after in after_by s s' _ f _ a.3 a.4 (omega arith) tt
  piece_of_after s BlockComment t f s' q (inr a) = let l = inside text s.at BlockComment q (λ f. cc) in after_by s s' _ f _ a.2 a.3 (omega arith) (omega arith, tt)
  piece_of_after s Hash t f s' q a = hash_after s s.fresh f s' a.1
  piece_of_after s Letter t f s' q a = after_by s s' _ f _ a.3 a.4 (longer a.1 (starts_letter (byte text s.at) (byte text (s.at + 1)) q)) tt
  piece_of_after s Digit t f s' q a = after_by s s' _ f _ a.3 a.4 (longer a.1 (starts_digit (byte text s.at) (byte text (s.at + 1)) q)) (number_after s.at s.at _ (omega arith))
  piece_of_after s Other t f s' q (inl a) = after_by s s' _ f _ a.4 a.5 (longest_after text s.at a.0 a.1 a.2) tt
  piece_of_after s Other t f s' q (inr a) = after_by s s' _ f _ a.2 a.3 (omega arith) (omega arith, tt)

pub piece_after : (text : List ℕ) (s : Stand) (t : List Tok) (f : List Fault) (s' : Stand) → Piece text s t f s' → AfterIt s f s'
piece_after text s t f s' p = piece_of_after text s (start_at text s.at) t f s' refl p
