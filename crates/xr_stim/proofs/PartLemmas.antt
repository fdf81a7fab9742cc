-- Where the first part of a text ends: the lines and the words that come of it.
use Rattle.std.proofs.Common.{◌≡◌, ◌≢◌, ℕ, ◌+◌, ◌-◌, ◌<◌, ◌≤◌, Bool, true, false, not, cond, List, [], ◌∷◌, suc, length, take, drop, get_or, nat_lt, refl, sym, ap, subst, ◌∙◌, arith, add-one, Some, None, unwrap_or, length-take}
use Rattle.std.proofs.Math.Seq.{drop-cons}
use Rattle.std.proofs.lemmas.Bool.{ltb-false, ltb-true, ne_eqb}
use Rattle.std.proofs.lemmas.List.{drop_all, take_all, take_rest}
use Rattle.std.proofs.lemmas.List.Splits.{length-slice_split, slice_split-cons_yes, slice_split_first, slice_split_none}
use Rattle.std.proofs.lemmas.List.Sums.{fails_before_first, passes_at_first, prefix_len-le-length}
use Rattle.std.specs.List.{filter, position, position_or_len, slice_split}
use Rattle.std.specs.Str.Lines.{lines, lines_of_parts, strip_carriage_return}
use Rattle.xr_stim.specs.Lines.{is_feed, is_some_bytes, is_space, past_spaces, words}

-- the place of the first that passes is within the list
pub place-within : (p : ℕ → Bool) (xs : List ℕ) → position_or_len p xs ≤ length xs
place-within p xs = prefix_len-le-length (λ x. not (p x)) xs

-- it is what `position` finds, or else the length
pub place-found : (p : ℕ → Bool) (xs : List ℕ) → unwrap_or (position p xs) (length xs) ≡ position_or_len p xs
place-found p xs =
    let within : position_or_len p xs ≤ length xs = place-within p xs in
    elim (nat_lt (position_or_len p xs) (length xs)) as (λ b. nat_lt (position_or_len p xs) (length xs) ≡ b → unwrap_or (cond b (Some (position_or_len p xs)) None) (length xs) ≡ position_or_len p xs) [
      | true ↦ λ e. refl
      | false ↦ λ e. omega (arith, ltb-false (position_or_len p xs) (length xs) e)
    ] refl

-- where none passes, the list is the one part
pub one_part : (p : ℕ → Bool) (xs : List ℕ) → length xs ≤ position_or_len p xs → slice_split p xs ≡ xs ∷ []
one_part p xs all = slice_split_none p xs (λ k d lt. fails_before_first p xs k d (omega arith))

-- what stands behind the first part, where it isn't the whole
pub first_part : (p : ℕ → Bool) (xs : List ℕ) → position_or_len p xs < length xs →
    slice_split p xs ≡ take (position_or_len p xs) xs ∷ slice_split p (drop (position_or_len p xs + 1) xs)
first_part p xs lt = slice_split_first p xs 0 lt

-- a line with more behind it
line-more : (x : List ℕ) (parts : List (List ℕ)) → 0 < length parts → lines_of_parts (x ∷ parts) ≡ strip_carriage_return x ∷ lines_of_parts parts
line-more x [] some = absurd (omega arith)
line-more x (y ∷ more) some = refl

-- a text without a line feed is a line, if it isn't empty
pub lines-last : (text : List ℕ) → length text ≢ 0 → length text ≡ position_or_len is_feed text →
    lines text ≡ text ∷ lines (take (length text - length text) (drop (length text) text))
lines-last text some whole =
    ap lines_of_parts (one_part is_feed text (omega arith))
    ∙ ap (λ b. cond b [] (text ∷ [])) (ne_eqb (length text) 0 some)
    ∙ ap (λ rest. text ∷ lines rest) (sym (take_rest text (length text) ∙ drop_all (length text) text (omega arith)))

-- a text with a line feed has a line before it, and the lines of what stands behind it
pub lines-first : (text : List ℕ) (n : ℕ) (line : List ℕ) → n ≡ position_or_len is_feed text → n ≢ length text →
    line ≡ strip_carriage_return (take n text) → lines text ≡ line ∷ lines (take (length text - (n + 1)) (drop (n + 1) text))
lines-first text n line place more is =
    let within : position_or_len is_feed text ≤ length text = place-within is_feed text in
    let parts = slice_split is_feed (drop (n + 1) text) in
    let some : 0 < length parts = omega (arith, length-slice_split is_feed (drop (n + 1) text)) in
    ap lines_of_parts (subst (λ k. slice_split is_feed text ≡ take k text ∷ slice_split is_feed (drop (k + 1) text)) (sym place) (first_part is_feed text (omega arith)))
    ∙ line-more (take n text) parts some
    ∙ ap (λ x. x ∷ lines_of_parts parts) (sym is)
    ∙ ap (λ rest. line ∷ lines rest) (sym (take_rest text (n + 1)))

past_step : (b : ℕ) (bs : List ℕ) (t : Bool) → is_space b ≡ t → words (past_spaces bs) ≡ words bs → words (cond t (past_spaces bs) (b ∷ bs)) ≡ words (b ∷ bs)
past_step b bs true e same = same ∙ ap (filter is_some_bytes) (sym (slice_split-cons_yes is_space b bs e))
past_step b bs false e same = refl

-- spaces before a line make no word
pub words-past_spaces : (line : List ℕ) → words (past_spaces line) ≡ words line
words-past_spaces [] = refl
words-past_spaces (b ∷ bs) = past_step b bs (is_space b) refl (words-past_spaces bs)

place_step : (b : ℕ) (bs : List ℕ) (t : Bool) → is_space b ≡ t → (length (past_spaces bs) ≢ 0 → 0 < position_or_len is_space (past_spaces bs)) →
    length (cond t (past_spaces bs) (b ∷ bs)) ≢ 0 → 0 < position_or_len is_space (cond t (past_spaces bs) (b ∷ bs))
place_step b bs true e behind some = behind some
place_step b bs false e behind some =
    subst (λ t. 0 < cond (not t) (1 + position_or_len is_space bs) 0) (sym e) (omega arith)

-- what is left past spaces doesn't begin with one
pub place-past_spaces : (line : List ℕ) → length (past_spaces line) ≢ 0 → 0 < position_or_len is_space (past_spaces line)
place-past_spaces [] some = absurd (some refl)
place-past_spaces (b ∷ bs) some = place_step b bs (is_space b) refl (place-past_spaces bs) some

-- a part with some bytes is kept
kept_part : (x : List ℕ) (parts : List (List ℕ)) → length x ≢ 0 → filter is_some_bytes (x ∷ parts) ≡ x ∷ filter is_some_bytes parts
kept_part x parts some = ap (λ b. cond (not b) (x ∷ filter is_some_bytes parts) (filter is_some_bytes parts)) (ne_eqb (length x) 0 some)

-- a line whose first space stands at n, with words behind it
before_space : (line : List ℕ) (n : ℕ) → 0 < n → n ≡ position_or_len is_space line → n < length line → words line ≡ take n line ∷ words (drop n line)
before_space line n some place more =
    let space : is_space (get_or line n 0) ≡ true =
    subst (λ k. is_space (get_or line k 0) ≡ true) (sym place) (passes_at_first is_space line 0 (omega arith)) in
    let long : length (take n line) ≢ 0 = λ e. omega (arith, length-take n line) in
    ap (filter is_some_bytes) (subst (λ k. slice_split is_space line ≡ take k line ∷ slice_split is_space (drop (k + 1) line)) (sym place) (first_part is_space line (omega arith)))
    ∙ kept_part (take n line) (slice_split is_space (drop (n + 1) line)) long
    ∙ ap (λ rest. take n line ∷ filter is_some_bytes rest) (sym (ap (slice_split is_space) (drop-cons line n 0 more)
    ∙ slice_split-cons_yes is_space (get_or line n 0) (drop (suc n) line) space ∙ ap (λ k. [] ∷ slice_split is_space (drop k line)) (sym (add-one n))) ∙ refl)

-- a line without a space is a word, if it isn't empty
whole_word : (line : List ℕ) (n : ℕ) → 0 < n → n ≡ position_or_len is_space line → length line ≤ n → words line ≡ take n line ∷ words (drop n line)
whole_word line n some place whole =
    let within : position_or_len is_space line ≤ length line = place-within is_space line in
    let long : length line ≢ 0 = λ e. omega arith in
    ap (filter is_some_bytes) (one_part is_space line (omega arith)) ∙ kept_part line [] long
    ∙ ap (λ x. x ∷ []) (sym (take_all n line whole))
    ∙ ap (λ rest. take n line ∷ words rest) (sym (drop_all n line whole))

-- a line that doesn't begin with a space begins with a word
pub words-first : (line : List ℕ) (n : ℕ) → 0 < n → n ≡ position_or_len is_space line →
    words line ≡ take n line ∷ words (take (length line - n) (drop n line))
words-first line n some place =
    elim (nat_lt n (length line)) as (λ b. nat_lt n (length line) ≡ b → words line ≡ take n line ∷ words (drop n line)) [
      | true ↦ λ e. before_space line n some place (ltb-true n (length line) e)
      | false ↦ λ e. whole_word line n some place (ltb-false n (length line) e)
    ] refl
    ∙ ap (λ rest. take n line ∷ words rest) (sym (take_rest line n))

-- a list of length 0
empty_is : (xs : List ℕ) → length xs ≡ 0 → xs ≡ []
empty_is [] e = refl
empty_is (x ∷ xs) e = absurd (omega arith)

-- a line of spaces alone has no word
pub words-none : (line : List ℕ) → length (past_spaces line) ≡ 0 → words line ≡ []
words-none line e = sym (words-past_spaces line) ∙ ap words (empty_is (past_spaces line) e)
