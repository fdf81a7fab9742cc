-- A text read line by line.
use Rattle.std.proofs.Common.{◌≡◌, ◌⊎◌, ℕ, zero, suc, ◌+◌, ◌<◌, ◌≤◌, List, [], ◌∷◌, ◌++◌, length, take, drop, get_or, Option, Some, None, inl, inr, refl, sym, ap, subst, ◌∙◌, arith, add-one, append-nil, below_more, length-drop}
use Rattle.std.proofs.Math.Seq.{drop-cons, take-suc}
use Rattle.std.proofs.lemmas.List.{take_all}
use Rattle.std.proofs.lemmas.List.Elements.{filter_map-append}
use Rattle.std.specs.List.{filter_map}
use Rattle.std.specs.Str.Lines.{lines}
use Rattle.xr_stim.specs.Forms.{form}
use Rattle.xr_stim.specs.Stimulus.{broken_at, broken_rule, IsFirstBroken, last_tick, line_of, lines_of, Means}
use Rattle.xs_instr.specs.declared.image.Stim.{Stim}
use Rattle.xs_instr.specs.declared.image.StimLine.{StimLine}

-- the first place below n at which something stands
record First (f : ℕ → Option ℕ) (n : ℕ) : Type 0 where
  pub place : ℕ
  pub what : ℕ
  pub below : place < n
  pub found : f place ≡ Some what
  pub others : (k : ℕ) → k < place → f k ≡ None

one_more : (f : ℕ → Option ℕ) (n : ℕ) → ((k : ℕ) → k < n → f k ≡ None) ⊎ First f n → (o : Option ℕ) → f n ≡ o →
    ((k : ℕ) → k < suc n → f k ≡ None) ⊎ First f (suc n)
one_more f n (inr first) o e = inr (record { place = first.place; what = first.what; below = omega arith; found = first.found; others = first.others })
one_more f n (inl none) (Some r) e = inr (record { place = n; what = r; below = omega arith; found = e; others = none })
one_more f n (inl none) None e = inl (subst (λ m. (k : ℕ) → k < m → f k ≡ None) (add-one n) (below_more (λ k. f k ≡ None) n none e))

first_or_none : (f : ℕ → Option ℕ) (n : ℕ) → ((k : ℕ) → k < n → f k ≡ None) ⊎ First f n
first_or_none f zero = inl (λ k lt. absurd (omega arith))
first_or_none f (suc n) = one_more f n (first_or_none f n) (f n) refl

-- each text means a stimulus or has a first line that breaks a rule
pub some : (text : List ℕ) → ((s : Stim) × Means text s) ⊎ ((n : ℕ) × (r : ℕ) × IsFirstBroken text n r)
some text =
    elim (first_or_none (broken_at (lines text)) (length (lines text))) [
      | inl none ↦ inl (record { lines = lines_of (lines text) }, record { unbroken = none; says = refl })
      | inr first ↦ inr (first.place + 1, first.what, record { before = first.place; number = refl; there = first.below; broken = first.found; others = first.others })
    ]

-- what stands first behind k items is the item at k
record At (ls : List (List ℕ)) (k : ℕ) (x : List ℕ) (more : List (List ℕ)) : Type 0 where
  pub there : k < length ls
  pub item : get_or ls k [] ≡ x
  pub behind : drop (k + 1) ls ≡ more
  pub taken : take (k + 1) ls ≡ take k ls ++ x ∷ []

at_line : (ls : List (List ℕ)) (k : ℕ) (x : List ℕ) (more : List (List ℕ)) → drop k ls ≡ x ∷ more → At ls k x more
at_line ls k x more e =
    let there : k < length ls = omega (arith, ap length e, length-drop k ls) in
    let cut : get_or ls k [] ∷ drop (suc k) ls ≡ x ∷ more = sym (drop-cons ls k [] there) ∙ e in
    let item : get_or ls k [] ≡ x = cc in
    let behind : drop (suc k) ls ≡ more = cc in
    record {
      there = there;
      item = item;
      behind = ap (λ n. drop n ls) (add-one k) ∙ behind;
      taken = ap (λ n. take n ls) (add-one k) ∙ take-suc ls k [] there ∙ ap (λ y. take k ls ++ y ∷ []) item;
    }

-- so many lines of a text have been read, and this of the stimulus came of them
pub record SoFar (text rest : List ℕ) (number tick : ℕ) (found : List StimLine) : Type 0 where
  pub behind : drop number (lines text) ≡ lines rest
  pub last : tick ≡ last_tick 0 found
  pub says : found ≡ lines_of (take number (lines text))
  pub unbroken : (k : ℕ) → k < number → broken_at (lines text) k ≡ None

-- before the first line
pub begun : (text : List ℕ) → SoFar text text 0 0 []
begun text = record { behind = refl; last = refl; says = refl; unbroken = λ k lt. absurd (omega arith) }

last_tick-append : (tick : ℕ) (ls : List StimLine) (l : StimLine) → last_tick tick (ls ++ l ∷ []) ≡ l.tick
last_tick-append tick [] l = refl
last_tick-append tick (x ∷ xs) l = last_tick-append x.tick xs l

-- what the next line breaks
broken-next : (text rest : List ℕ) (n tick : ℕ) (found : List StimLine) (line behind : List ℕ) → SoFar text rest n tick found →
    lines rest ≡ line ∷ lines behind → broken_at (lines text) n ≡ broken_rule tick (n + 1) (form line)
broken-next text rest n tick found line behind so e =
    let here = at_line (lines text) n line (lines behind) (so.behind ∙ e) in
    ap (λ ls. broken_rule (last_tick 0 ls) (n + 1) (form (get_or (lines text) n []))) (sym so.says)
    ∙ ap (λ t. broken_rule t (n + 1) (form (get_or (lines text) n []))) (sym so.last)
    ∙ ap (λ x. broken_rule tick (n + 1) (form x)) here.item

-- the lines of the stimulus, with what the next line says
says-next : (text rest : List ℕ) (n tick : ℕ) (found : List StimLine) (line behind : List ℕ) (o : Option StimLine) → SoFar text rest n tick found →
    lines rest ≡ line ∷ lines behind → line_of (form line) ≡ o → lines_of (take (n + 1) (lines text)) ≡ found ++ filter_map (λ x. x) (o ∷ [])
says-next text rest n tick found line behind o so e is =
    let here = at_line (lines text) n line (lines behind) (so.behind ∙ e) in
    ap lines_of here.taken ∙ filter_map-append (λ x. line_of (form x)) (take n (lines text)) (line ∷ [])
    ∙ ap (λ ls. ls ++ lines_of (line ∷ [])) (sym so.says) ∙ ap (λ q. found ++ filter_map (λ x. x) (q ∷ [])) is

-- a stimulus line more
pub line-found : (text rest : List ℕ) (n tick : ℕ) (found : List StimLine) (line behind : List ℕ) (l : StimLine) → SoFar text rest n tick found →
    lines rest ≡ line ∷ lines behind → broken_rule tick (n + 1) (form line) ≡ None → line_of (form line) ≡ Some l →
    SoFar text behind (n + 1) l.tick (found ++ l ∷ [])
line-found text rest n tick found line behind l so e unbroken is = record {
  behind = (at_line (lines text) n line (lines behind) (so.behind ∙ e)).behind;
  last = sym (last_tick-append 0 found l);
  says = sym (says-next text rest n tick found line behind (Some l) so e is);
  unbroken = below_more (λ k. broken_at (lines text) k ≡ None) n so.unbroken (broken-next text rest n tick found line behind so e ∙ unbroken);
}

-- a skipped line more
pub line-skipped : (text rest : List ℕ) (n tick : ℕ) (found : List StimLine) (line behind : List ℕ) → SoFar text rest n tick found →
    lines rest ≡ line ∷ lines behind → broken_rule tick (n + 1) (form line) ≡ None → line_of (form line) ≡ None →
    SoFar text behind (n + 1) tick found
line-skipped text rest n tick found line behind so e unbroken is = record {
  behind = (at_line (lines text) n line (lines behind) (so.behind ∙ e)).behind;
  last = so.last;
  says = sym (says-next text rest n tick found line behind None so e is ∙ append-nil found);
  unbroken = below_more (λ k. broken_at (lines text) k ≡ None) n so.unbroken (broken-next text rest n tick found line behind so e ∙ unbroken);
}

-- the next line breaks a rule
pub line-broken : (text rest : List ℕ) (n tick : ℕ) (found : List StimLine) (line behind : List ℕ) (rule : ℕ) → SoFar text rest n tick found →
    lines rest ≡ line ∷ lines behind → broken_rule tick (n + 1) (form line) ≡ Some rule → IsFirstBroken text (n + 1) rule
line-broken text rest n tick found line behind rule so e broken = record {
  before = n;
  number = refl;
  there = (at_line (lines text) n line (lines behind) (so.behind ∙ e)).there;
  broken = broken-next text rest n tick found line behind so e ∙ broken;
  others = so.unbroken;
}

-- no line is left
pub all-read : (text rest : List ℕ) (n tick : ℕ) (found : List StimLine) → SoFar text rest n tick found → lines rest ≡ [] →
    Means text (record { lines = found })
all-read text rest n tick found so e =
    let end : length (lines text) ≤ n = omega (arith, ap length (so.behind ∙ e), length-drop n (lines text)) in
    record {
      unbroken = λ k lt. so.unbroken k (omega arith);
      says = so.says ∙ ap lines_of (take_all n (lines text) end);
    }
