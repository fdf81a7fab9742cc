-- How the row is filled, index by index.
use Rattle.std.proofs.Common.{◌≡◌, ◌≤◌, ◌<◌, ◌⊎◌, inl, inr, ℕ, suc, ◌+◌, ◌^◌, Bool, true, false, List, Option, Some, None, length, set, nat_lt, ◌-◌, refl, sym, ap, ◌∙◌, subst, arith}
use Rattle.std.proofs.lemmas.Bool.{cases_eq}
use Rattle.std.proofs.lemmas.Bool.Decides.{nat_tests}
use Rattle.std.proofs.lemmas.List.{get_or_past}
use Rattle.std.proofs.lemmas.List.{get_or-set_same, get_or-set_other, length-set}
use Rattle.std.proofs.lemmas.Option.{slice_get_past}
use Rattle.xs_instr.specs.declared.image.Code.{Code}
use Rattle.xs_fabric.specs.OwnTurns.{Onward}
use Rattle.xf_time.proofs.Best.{number_by_way, off}
use Rattle.xf_time.proofs.Lengths.{ordered, way_short}
use Rattle.xf_time.specs.Routes.{IsGoodCode, flow_to, is_at}
use Rattle.xf_time.specs.Rows.{IsFilledFrom, IsNumber, number_at, number_in, number_where}
use Rattle.xf_time.specs.Ways.{flow_at}
use Rattle.xw_words.specs.declared.pos.Pos.{Pos}

no_flow : (b : Bool) → flow_at b None ≡ None
no_flow true = refl
no_flow false = refl

-- behind the code ways end
pub flow_past : (code : Code) (to : Pos) (j : ℕ) → length code.instrs ≤ j → flow_to code to j ≡ None
flow_past code to j h = ap (flow_at (is_at code to j)) (slice_get_past code.instrs j h) ∙ no_flow (is_at code to j)

past_number : (code : Code) (to : Pos) (b j : ℕ) (row : List (Option ℕ)) → length row ≡ length code.instrs → length code.instrs ≤ j →
    IsNumber (flow_to code to) b j (number_in row j)
past_number code to b j row e h =
    subst (IsNumber (flow_to code to) b j) (sym (get_or_past row j (Some 0) (omega arith))) (off (flow_to code to) b j (flow_past code to j h))

-- before the first turn
pub begun : (code : Code) (to : Pos) (row : List (Option ℕ)) → length row ≡ length code.instrs → IsFilledFrom code to 0 (length code.instrs) row
begun code to row e = record {
  long = e;
  above = λ j h. past_number code to 0 j row e h;
  below = λ j b h g. absurd (omega (arith, g));
}

-- before the next turn
pub next_turn : (code : Code) (to : Pos) (b : ℕ) (row : List (Option ℕ)) → IsFilledFrom code to b 0 row → IsFilledFrom code to (b + 1) (length code.instrs) row
next_turn code to b row f = record {
  long = f.long;
  above = λ j h. past_number code to (b + 1) j row f.long h;
  below = λ j c h g. subst (λ (m : ℕ). IsNumber (flow_to code to) m j (number_in row j)) (omega (arith, g)) (f.above j (omega arith));
}

number_where_is : (code : Code) (to : Pos) (b i : ℕ) (is_left : Bool) (row : List (Option ℕ)) (o : Option Onward) → IsGoodCode code → b < 2 ^ 32 →
    IsFilledFrom code to b (i + 1) row → (is_left ≡ false → b ≡ 0) → (is_left ≡ true → (c : ℕ) × (b ≡ suc c)) → flow_to code to i ≡ o →
    IsNumber (flow_to code to) b i (number_where o i is_left (number_in row))
number_where_is code to b i is_left row None good small f none some e = off (flow_to code to) b i e
number_where_is code to b i is_left row (Some way) good small f none some e =
    let o = ordered code to good in
    number_by_way (flow_to code to) b i (length code.instrs) (number_in row)
    (λ c j n l h g w. way_short (flow_to code to) (length code.instrs) b j n l o good.few small (omega arith) w)
    f.above f.below way is_left e (o.targets i way e) none some

-- one index more
pub fill_one : (code : Code) (to : Pos) (b i : ℕ) (is_left : Bool) (row : List (Option ℕ)) (number : Option ℕ) → IsGoodCode code → b < 2 ^ 32 → i < length code.instrs →
    IsFilledFrom code to b (i + 1) row → (is_left ≡ false → b ≡ 0) → (is_left ≡ true → (c : ℕ) × (b ≡ suc c)) →
    number ≡ number_at code to i is_left (number_in row) → IsFilledFrom code to b i (set row i number)
fill_one code to b i is_left row number good small lt f none some e = record {
  long = length-set row i number ∙ f.long;
  above = λ j h. above j h (cases_eq j i);
  below = λ j c h g. subst (IsNumber (flow_to code to) c j) (sym (other j (omega arith))) (f.below j c (omega arith) g);
}
  where
    other : (j : ℕ) → (j ≡ i → ⊥) → number_in (set row i number) j ≡ number_in row j
    other j h = get_or-set_other row i j number (Some 0) h

    here : number_in (set row i number) i ≡ number
    here = get_or-set_same row i number (Some 0) (let l = f.long in omega (arith, l))

    is : IsNumber (flow_to code to) b i number
    is = subst (IsNumber (flow_to code to) b i) (sym e)
        (number_where_is code to b i is_left row (flow_to code to i) good small f none some refl)

    above : (j : ℕ) → i ≤ j → (j ≡ i) ⊎ (j ≡ i → ⊥) → IsNumber (flow_to code to) b j (number_in (set row i number) j)
    above j h (inl g) =
        subst (λ (m : ℕ). IsNumber (flow_to code to) b m (number_in (set row i number) m)) (sym g) (subst (IsNumber (flow_to code to) b i) (sym here) is)
    above j h (inr g) = subst (IsNumber (flow_to code to) b j) (sym (other j g)) (f.above j (omega (arith, g)))

none_left : (b : ℕ) → nat_lt 0 b ≡ false → b ≡ 0
none_left b h = grind (arith, nat_tests)

above_zero : (b : ℕ) → nat_lt 0 b ≡ true → 0 < b
above_zero b h = grind (arith, nat_tests)

some_left : (b : ℕ) → nat_lt 0 b ≡ true → (c : ℕ) × (b ≡ suc c)
some_left b h = (b - 1, let g = above_zero b h in omega (arith, g))

-- one turn, by what is filled
pub fill_turn : (code : Code) (to : Pos) (b size filled : ℕ) (row seen left : List (Option ℕ)) (number : Option ℕ) → IsGoodCode code → b < 2 ^ 32 →
    size ≡ length code.instrs → filled < size → IsFilledFrom code to b (length code.instrs - filled) row → seen ≡ row →
    number ≡ number_at code to (size - 1 - filled) (nat_lt 0 b) (number_in seen) → left ≡ set row (size - 1 - filled) number →
    IsFilledFrom code to b (length code.instrs - (filled + 1)) left
fill_turn code to b size filled row seen left number good small e lt f same is after =
    let i = size - 1 - filled in
    let here : length code.instrs - filled ≡ i + 1 = omega arith in
    let less : i ≡ length code.instrs - (filled + 1) = omega arith in
    let state : IsFilledFrom code to b (i + 1) row = subst (λ (m : ℕ). IsFilledFrom code to b m row) here f in
    let number_is : number ≡ number_at code to i (nat_lt 0 b) (number_in row) = is ∙ ap (λ (xs : List (Option ℕ)). number_at code to i (nat_lt 0 b) (number_in xs)) same in
    let filled_here : IsFilledFrom code to b i (set row i number) =
    fill_one code to b i (nat_lt 0 b) row number good small (omega arith) state (none_left b) (some_left b) number_is in
    subst (λ (m : ℕ). IsFilledFrom code to b m left) less (subst (IsFilledFrom code to b i) (sym after) filled_here)
