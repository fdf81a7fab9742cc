-- Lines that break no rule are lines of a good stimulus.
use Rattle.std.proofs.Common.{◌≡◌, ℕ, ◌+◌, ◌^◌, ◌<◌, ◌≤◌, Bool, true, false, ◌||◌, cond, List, [], ◌∷◌, ◌++◌, length, Option, Some, None, nat_lt, refl, subst, arith, is_none, unwrap_or, bytes_eq}
use Rattle.std.proofs.lemmas.Bool.{ltb-false}
use Rattle.std.proofs.lemmas.Bool.Decides.{nat_tests}
use Rattle.xr_stim.specs.Lines.{is_skipped, words}
use Rattle.xr_stim.specs.Forms.{form, form_of_parts, parts, parts_of, parts_of_words, port_names, small_number}
use Rattle.xr_stim.specs.Stimulus.{broken_rule, is_too_wide, last_tick, line_of}
use Rattle.xr_stim.specs.declared.form.Form.{Form}
use Rattle.xr_stim.specs.declared.form.Form.TheVariants.{Skipped, Stimulus, Other}
use Rattle.xr_stim.specs.declared.form.Parts.{Parts}
use Rattle.xs_instr.specs.Valid.{AreGoodLines}
use Rattle.xs_instr.specs.declared.image.StimLine.{StimLine}
use Rattle.xw_words.specs.Ports.{port_count, width_of}
use Rattle.xw_words.specs.Tables.{place_from, place_in}

-- a place that is found is in the table
place-within : (k : ℕ) (table : List (List ℕ)) (w : List ℕ) (p : ℕ) → place_from k table w ≡ Some p → p < k + length table
unfolding place_from
place-within k [] w p e = absurd (cc)
place-within k (x ∷ xs) w p e =
    elim (bytes_eq x w) as (λ b. cond b (Some k) (place_from (k + 1) xs w) ≡ Some p → p < k + length (x ∷ xs)) [
      | true ↦ λ is. let same : k ≡ p = cc in omega arith
      | false ↦ λ is. let below : p < k + 1 + length xs = place-within (k + 1) xs w p is in omega arith
    ] e

-- the port of a line is there
abbrev HasPort : Option Parts → Type 0
HasPort (Some parts) = (p : ℕ) → parts.port ≡ Some p → p < port_count
HasPort None = Unit {0}

port_count_is : length port_names ≡ port_count
unfolding port_names
port_count_is = refl

parts_port : (tick core value : Option ℕ) (name : List ℕ) → HasPort (parts_of tick core (place_in port_names name) value)
parts_port (Some tick) (Some core) (Some value) name =
    λ p e. omega (arith, place-within 0 port_names name p e, port_count_is)
parts_port (Some tick) (Some core) None name = tt
parts_port (Some tick) None value name = tt
parts_port None core value name = tt

words_port : (ws : List (List ℕ)) → HasPort (parts_of_words ws)
words_port (tick ∷ core ∷ port ∷ value ∷ []) = parts_port (small_number tick) (small_number core) (small_number value) port
words_port [] = tt
words_port (a ∷ []) = tt
words_port (a ∷ b ∷ []) = tt
words_port (a ∷ b ∷ c ∷ []) = tt
words_port (a ∷ b ∷ c ∷ d ∷ e ∷ ws) = tt

-- a line of the stimulus, where this is the tick of the one before
pub record Fits (last : ℕ) (l : StimLine) : Type 0 where
  pub tick : last ≤ l.tick
  pub core : l.core < 4
  pub port : l.port < port_count
  pub value : l.value < 2 ^ width_of l.port

not_this : (b : Bool) (r : ℕ) (o : Option ℕ) → cond b (Some r) o ≡ None → (b ≡ false) × (o ≡ None)
not_this true r o e = absurd (cc)
not_this false r o e = (refl, e)

neither : (a b : Bool) → (a || b) ≡ false → (a ≡ false) × (b ≡ false)
neither true b e = absurd (cc)
neither false b e = (refl, e)

-- parts that break no rule
parts_fit : (last n tick core value : ℕ) (port : Option ℕ) → ((p : ℕ) → port ≡ Some p → p < port_count) →
    broken_rule last n (Stimulus (record { tick = tick; core = core; port = port; value = value })) ≡ None →
    Fits last (record { tick = tick; core = core; port = unwrap_or port 0; value = value })
parts_fit last n tick core value port there e =
    let early = not_this (nat_lt tick last) 802 _ e in
    let place = not_this (nat_lt 3 core || is_none port) 803 _ early.1 in
    let wide = not_this (is_too_wide port value) 804 _ place.1 in
    let core_there = neither (nat_lt 3 core) (is_none port) place.0 in
    elim port as (λ q. port ≡ q → is_none q ≡ false → is_too_wide q value ≡ false → Fits last (record { tick = tick; core = core; port = unwrap_or q 0; value = value })) [
      | None ↦ λ is some narrow. absurd (cc)
      | Some p ↦ λ is some narrow. record {
        tick = ltb-false tick last early.0;
        core = omega (arith, ltb-false 3 core core_there.0);
        port = there p is;
        value = grind (arith, nat_tests);
      }
    ] refl core_there.1 wide.0

form_fits : (last n : ℕ) (l : StimLine) (skipped : Bool) (o : Option Parts) → HasPort o → broken_rule last n (cond skipped Skipped (form_of_parts o)) ≡ None →
    line_of (cond skipped Skipped (form_of_parts o)) ≡ Some l → Fits last l
form_fits last n l true o there e is = absurd (cc)
form_fits last n l false None there e is = absurd (cc)
form_fits last n l false (Some parts) there e is =
    let same : record { tick = parts.tick; core = parts.core; port = unwrap_or parts.port 0; value = parts.value } ≡ l = cc in
    subst (Fits last) same (parts_fit last n parts.tick parts.core parts.value parts.port there e)

-- a line that breaks no rule says a line of a good stimulus
pub line_fits : (line : List ℕ) (last n : ℕ) (l : StimLine) → broken_rule last n (form line) ≡ None → line_of (form line) ≡ Some l → Fits last l
line_fits line last n l e is = form_fits last n l (is_skipped line) (parts line) (words_port (words line)) e is

-- so does one more behind others
pub good-append : (n last : ℕ) (ls : List StimLine) (l : StimLine) → AreGoodLines n ls → last ≡ last_tick n ls → Fits last l → AreGoodLines n (ls ++ l ∷ [])
good-append n last [] l good is f = (omega (arith, f.tick), f.core, f.port, f.value, tt)
good-append n last (x ∷ xs) l good is f = (good.0, good.1, good.2, good.3, good-append x.tick last xs l good.4 is f)

-- the number of a line that breaks no rule
pub few_lines : (last n : ℕ) (f : Form) → broken_rule last n f ≡ None → n ≤ 100000
few_lines last n Skipped e = omega (arith, ltb-false 100000 n (not_this (nat_lt 100000 n) 805 None e).0)
few_lines last n Other e = absurd (cc)
few_lines last n (Stimulus parts) e =
    let early = not_this (nat_lt parts.tick last) 802 _ e in
    let place = not_this (nat_lt 3 parts.core || is_none parts.port) 803 _ early.1 in
    let wide = not_this (is_too_wide parts.port parts.value) 804 _ place.1 in
    omega (arith, ltb-false 100000 n (not_this (nat_lt 100000 n) 805 None wide.1).0)
