-- Where the words of variables stand, and that memory holds the store where a place is written or all words of a variable become 0.
use Rattle.std.proofs.Common.{◌≡◌, ◌≢◌, ℕ, zero, suc, ◌+◌, ◌*◌, ◌<◌, ◌≤◌, true, false, List, [], ◌∷◌, map, option_map, Option, Some, None, refl, sym, ap, ◌∙◌, subst, ⊎_elim, get_or, arith, ◌/◌, Bool, length}
use Rattle.std.specs.Prelude.{◌%◌, slice_get, slice_set, nat_eq, nat_lt}
use Rattle.std.proofs.lemmas.Bool.{cases_eq, ltb-true}
use Rattle.std.proofs.lemmas.List.{length-set, length-map, get_or-set_other, get_or-set_same}
use Rattle.std.proofs.lemmas.Option.{slice_get-map, slice_get-get_or, slice_get_within, same_Some}
use Rattle.xs_instr.specs.declared.state.Regs.{Regs}
use Rattle.xs_instr.specs.declared.state.Res.{Res}
use Rattle.xs_instr.specs.Memory.{address_at, word_at, word_by, word_put}
use Rattle.xs_instr.specs.OwnSteps.{temporary, IsApart}
use Rattle.xc_kernel.specs.Plain as kernel
use Rattle.xc_kernel.specs.Eval.{Store, words_of, eval}
use Rattle.xc_meaning.specs.States.Worlds.{zero_for}
use Rattle.xl_expr.specs.declared.plan.VarAt.{VarAt}
use Rattle.xl_expr.specs.declared.plan.VarAt.TheVariants.{Near}
use Rattle.xl_expr.specs.declared.plan.VarPlan.{VarPlan}
use Rattle.xl_expr.specs.Frames.{IsNear, HasPlace, changed, variable_of}
use Rattle.xl_expr.specs.Plans.{var_in}
use Rattle.xl_expr.proofs.Lists.{get_set_same, get_set_other}
use Rattle.xl_flow.specs.Zeros.{IsOutside, StandsFrom, WordsStand, words_set}
use Rattle.xr_simulation.specs.Fits.{IsChanged, UsesAt}
use Rattle.xr_simulation.specs.Runners.{HoldsPlaces, Activation, Setting, Runner, IsLaidOut, MayChange, of_variable, places, plan_in, relied, plan}
use Rattle.xr_simulation.specs.ThreadViews.{ThreadView}
use Rattle.xr_simulation.specs.NextStep.{HasBases, HoldsStore}
use Rattle.xr_simulation.proofs.RelyGuarantee.Arrival.{Since, any_part, stack_relied}
use Rattle.xr_simulation.proofs.RelyGuarantee.Layouts.{unseen, variable_relied, place_seen, seen}
use Rattle.xw_words.specs.declared.pos.Pos.{Pos}
use Rattle.xc_kernel.specs.Values.{Value, word, error, tested_by}
use Rattle.xl_expr.specs.Stores.{ElementAt, IsAddress, OfElement, OfWord, WordAt, index_in, tested_value}
use Rattle.xl_expr.proofs.Framed.{store_holds}
use Rattle.xl_expr.proofs.Lasting.{address_lasts}

-- an index that a place has is below the length of its variable
index_within : (len i : ℕ) (pos : Pos) (v : Value) → tested_value len pos v ≡ word i → i < len
index_within len i pos (word k) h = by (nat_lt k len) refl h
  where
    by : (b : Bool) → nat_lt k len ≡ b → tested_by k pos b ≡ word i → i < len
    by true e f = let same : k ≡ i = cc in let lt = ltb-true k len e in omega arith
    by false e f = absurd (cc)
index_within len i pos (error kind p) h = absurd (cc)

module _ (g : Setting) (r : Runner) (laid : IsLaidOut g r) where
  -- the address of a place's word, by its index
  abbrev pub IsPlaced : (words : List ℕ) → kernel.Place → (i address : ℕ) → Type 0
  IsPlaced words p i address = IsAddress (places g r.core) (relied g r) r.stack (4 * 0) words p i address

  -- as code finds it
  pub address_seen : (words : List ℕ) (regs : Regs) → HasBases g r regs → (p : kernel.Place) (i address : ℕ) →
      IsAddress (plan g r).vars (relied g r) r.stack regs.dp words p i address → IsPlaced words p i address
  address_seen words regs bases p i address h =
      seen g r laid (λ b. IsAddress (plan_in (g.plans r.core) b.plan).vars (relied g r) r.stack (4 * b.base) words p i address)
      (subst (λ d. IsAddress (plan g r).vars (relied g r) r.stack d words p i address) bases.base h)

  -- it is the same while the runner goes on
  pub address_since : (stays : Res → Type 0) (z q : ThreadView) → Since g r (IsApart r.stack) stays z q → (p : kernel.Place)
      (i address : ℕ) → IsPlaced z.core.words p i address → IsPlaced q.core.words p i address
  address_since stays z q since p i address h =
      address_lasts (places g r.core) (relied g r) r.stack (4 * 0) z.core.words q.core.words z.world.store since.words p i address h

  -- `place_changes`, by cases
  changes_by : (words : List ℕ) (store : Store) → HoldsPlaces g r.core r.footprint.uses words store →
      (p : kernel.Place) (i address : ℕ) → HasPlace (places g r.core) r.footprint.uses p →
      r.footprint.changes (variable_of p) ≡ true → index_in store p ≡ word i → IsPlaced words p i address → MayChange g r (address / 4)
  changes_by words store holds (kernel.word v) i address (found, known, some, uses) changes is at_address =
      let near = laid.frame.near v found known in
      let placed = subst (λ (q : VarAt). WordAt (places g r.core) (relied g r) r.stack (4 * 0) words q address) near.1.place
      (subst (λ o. OfWord (places g r.core) (relied g r) r.stack (4 * 0) words o address) known at_address) in
      let low = laid.frame.low v near.0 0 found near.1 some in
      of_variable v near.0 0 found near.1 changes some (omega arith)
  changes_by words store holds (kernel.element v x pos) i address (has_x, (found, known, uses)) changes is at_address =
      let near = laid.frame.near v found known in
      let placed = subst (λ (q : VarAt). ElementAt (places g r.core) (relied g r) r.stack (4 * 0) words q i address) near.1.place
      (subst (λ o. OfElement (places g r.core) (relied g r) r.stack (4 * 0) words o i address) known at_address) in
      let len = length (words_of store v) in
      let size = holds.lengths v near.0 found near.1 uses in
      let lt : i < found.words = let w = index_within len i pos (eval store x) is in omega arith in
      let low = laid.frame.low v near.0 i found near.1 lt in
      of_variable v near.0 i found near.1 changes lt (omega arith)

  -- the word at a place's address is one that the runner may change
  pub place_changes : (words : List ℕ) (store : Store) → HoldsPlaces g r.core r.footprint.uses words store →
      (p : kernel.Place) (i address : ℕ) → UsesAt g r p → r.footprint.changes (variable_of p) ≡ true → index_in store p ≡ word i →
      IsPlaced words p i address → MayChange g r (address / 4)
  place_changes words store holds p i address uses changes is at_address =
      changes_by words store holds p i address (place_seen g r laid p uses) changes is at_address

  -- and where it is written memory holds the store that has the word
  pub place_holds : (words : List ℕ) (store : Store) → HoldsPlaces g r.core r.footprint.uses words store →
      (p : kernel.Place) (i address x : ℕ) → UsesAt g r p → index_in store p ≡ word i → IsPlaced words p i address →
      HoldsPlaces g r.core r.footprint.uses (word_put words address x) (changed store (variable_of p) i x)
  place_holds words store holds p i address x uses is at_address =
      store_holds (places g r.core) (relied g r) r.footprint.uses r.stack 0 laid.frame words store holds p i address x
      (place_seen g r laid p uses) is at_address

-- where word i of a variable stands that begins at word d + n
index_is : (d n i : ℕ) → d + n + i < 16384 → address_at (address_at (4 * d) n) i / 4 ≡ d + n + i
index_is d n i lt = omega arith

-- that is a whole word
aligned : (d n i : ℕ) → d + n + i < 16384 → address_at (address_at (4 * d) n) i % 4 ≡ 0
aligned d n i lt = omega arith

-- so it is that word of the list
word_is : (words : List ℕ) (d n i : ℕ) → d + n + i < 16384 → word_at words (address_at (address_at (4 * d) n) i) ≡ slice_get words (d + n + i)
word_is words d n i lt =
    ap (λ b. word_by words (address_at (address_at (4 * d) n) i) (nat_eq b 0)) (aligned d n i lt) ∙ ap (slice_get words) (index_is d n i lt)

-- the words of variables in a store where one of them has others
pub words_other : (store : Store) (v w : ℕ) (ws : List ℕ) → w ≢ v → words_of (slice_set store v ws) w ≡ words_of store w
words_other store v w ws ne = get_or-set_other store v w ws [] ne

-- a variable with words is one of the store's
has_words : (store : Store) (v : ℕ) → 0 < length (words_of store v) → v < length store
has_words [] v h = absurd (omega arith)
has_words (ws ∷ store) zero h = omega arith
has_words (ws ∷ store) (suc v) h = let lt = has_words store v h in omega arith

-- and those of the one that got them
words_same : (store : Store) (v : ℕ) (ws : List ℕ) → 0 < length (words_of store v) → words_of (slice_set store v ws) v ≡ ws
words_same store v ws some = get_or-set_same store v ws [] (has_words store v some)

-- a word of a list of which each word became 0
module _ (ws : List ℕ) (i y : ℕ) where
  zero_by : (o : Option ℕ) → slice_get ws i ≡ o → option_map zero_for o ≡ Some y → (i < length ws) × (y ≡ 0)
  zero_by None e h = cc
  zero_by (Some x) e h = (slice_get_within ws i x e, sym (same_Some 0 y h))

  was_zeroed : slice_get (map zero_for ws) i ≡ Some y → (i < length ws) × (y ≡ 0)
  was_zeroed h = zero_by (slice_get ws i) refl (sym (slice_get-map zero_for ws i) ∙ h)

module _ (g : Setting) (r : Runner) (v : ℕ) (laid : IsLaidOut g r) (is : IsChanged g r v) where
  -- the variable stands near
  pub near : (n : ℕ) × IsNear (places g r.core) v n is.found
  near = laid.frame.near v is.found is.known

  -- its first word, counted from dp's, and that word's address
  abbrev pub first : ℕ
  first = near.0

  abbrev pub base : ℕ
  base = address_at (4 * 0) first

  -- its words are low enough to have addresses
  low : (i : ℕ) → i < is.found.words → 0 + first + i < 16384
  low i lt = laid.frame.low v first i is.found near.1 lt

  -- what the code asks for: the words stand where the plan has them
  pub words_stand : (n : ℕ) → is.found.words ≡ n → (z : ThreadView) → HoldsStore g r z → WordsStand (relied g r) z.core.words base n
  words_stand n is_n z h = record {
    there = λ i lt.
        let within : i < is.found.words = omega arith in
        let x = get_or (words_of z.world.store v) i 0 in
        let old : slice_get (words_of z.world.store v) i ≡ Some x = slice_get-get_or (words_of z.world.store v) i 0 (let l = h.holds.lengths v first is.found near.1 is.uses in omega arith) in
        (x, word_is z.core.words 0 first i (low i within) ∙ h.holds.values v first i x is.found near.1 is.uses old);
    relied_on = λ i lt.
        let within : i < is.found.words = omega arith in
        ap (relied g r) (index_is 0 first i (low i within)) ∙ variable_relied g r v first i is.found near.1 is.uses within;
  }

  -- and it says so of the variable
  pub planned : var_in (plan g r).vars v ≡ Some is.found
  planned = unseen g r laid (λ b. var_in (plan_in (g.plans r.core) b.plan).vars v ≡ Some is.found) is.known

  pub all_set : words_set is.found.place is.found.words ≡ is.found.words
  all_set = ap (λ (p : VarAt). words_set p is.found.words) near.1.place

  pub stands_from : (words : List ℕ) (regs : Regs) → HasBases g r regs → StandsFrom (relied g r) regs.dp words is.found.place base
  stands_from words regs bases =
      let from_near : StandsFrom (relied g r) regs.dp words (Near first) base = ap (λ d. address_at d first)
      (sym (bases.base ∙ ap (λ (b : Activation). 4 * b.base) laid.block)) in
      subst (λ (p : VarAt). StandsFrom (relied g r) regs.dp words p base) (sym near.1.place) from_near

  -- a word that the runner may not change is none of them
  pub safe : (n : ℕ) → is.found.words ≡ n → (w : ℕ) → (MayChange g r w → ⊥) → IsOutside base n w
  safe n is_n w not_mine i lt e =
      let within : i < is.found.words = omega arith in
      not_mine (of_variable v first i is.found near.1 is.changes within (let f = index_is 0 first i (low i within) in omega (arith, e, f)))

  -- nor is a temporary word
  stack_outside : (n : ℕ) → is.found.words ≡ n → (k : ℕ) → k < temporary → IsOutside base n (r.stack + k)
  stack_outside n is_n k lt i l e =
      let within : i < is.found.words = omega arith in
      let same : r.stack + k ≡ 0 + first + i = e ∙ index_is 0 first i (low i within) in
      ⊎_elim (λ (below : 0 + first + i < r.stack). absurd (omega arith))
      (λ (above : r.stack + temporary ≤ 0 + first + i). absurd (omega arith)) (laid.frame.apart v first i is.found near.1 within)

  -- nor a word of another variable
  other_outside : (n : ℕ) → is.found.words ≡ n → (w m k : ℕ) (other : VarPlan) → IsNear (places g r.core) w m other → k < other.words →
      w ≢ v → IsOutside base n (0 + m + k)
  other_outside n is_n w m k other near' lt ne i l e =
      let within : i < is.found.words = omega arith in
      let same : 0 + m + k ≡ 0 + first + i = e ∙ index_is 0 first i (low i within) in
      ne (laid.frame.disjoint w m k v first i other is.found near' near.1 lt within (omega arith))

  module _ (z : ThreadView) (k : ℕ) (is_k : is.found.words ≡ k + 1) where
    -- at the last store
    module _ (x : ThreadView) (since : Since g r (IsOutside base (k + 1)) any_part z x)
        (zeros : (i : ℕ) → i < k → word_at x.core.words (address_at base i) ≡ Some 0)
        (there : (y : ℕ) × (word_at x.core.words (address_at base k) ≡ Some y)) (holds : HoldsStore g r z) where
      -- what the last store leaves in memory, and what the branch's step leaves in the store
      abbrev pub zero_words : List ℕ
      zero_words = word_put x.core.words (address_at base k) 0

      abbrev pub zero_store : Store
      zero_store = slice_set x.world.store v (map zero_for (words_of x.world.store v))

      -- the address of the last word is that of its place
      put_is : zero_words ≡ slice_set x.core.words (0 + first + k) 0
      put_is = ap (λ w. slice_set x.core.words w 0) (index_is 0 first k (low k (omega arith)))

      -- the plan has as many words as the variable
      length_is : is.found.words ≡ length (words_of x.world.store v)
      length_is = holds.holds.lengths v first is.found near.1 is.uses ∙ ap length (sym (since.store v is.uses))

      -- the variable's words in the store, once the step is done
      new_words : words_of zero_store v ≡ map zero_for (words_of x.world.store v)
      new_words = words_same x.world.store v (map zero_for (words_of x.world.store v)) (let l = length_is in let s = is.some in omega arith)

      -- each of the variable's words is 0
      is_zero : (i : ℕ) → i < k + 1 → slice_get zero_words (0 + first + i) ≡ Some 0
      is_zero i lt =
          ap (λ ws. slice_get ws (0 + first + i)) put_is
          ∙ ⊎_elim
          (λ (e : i ≡ k). subst (λ n. slice_get (slice_set x.core.words (0 + first + k) 0) (0 + first + n) ≡ Some 0) (sym e)
          (get_set_same x.core.words (0 + first + k) there.0 0 (sym (word_is x.core.words 0 first k (low k (omega arith))) ∙ there.1)))
          (λ (ne : i ≢ k). get_set_other x.core.words (0 + first + k) (0 + first + i) 0 (λ f. ne (omega arith)) ∙ sym
          (word_is x.core.words 0 first i (low i (omega arith))) ∙ zeros i (below i lt ne))
          (cases_eq i k)
        where
          below : (i : ℕ) → i < k + 1 → i ≢ k → i < k
          below i lt ne = omega (arith, lt, ne)

      -- the words of another variable are as they were
      is_other : (w m i y : ℕ) (other : VarPlan) → IsNear (places g r.core) w m other → r.footprint.uses w ≡ true → w ≢ v →
          slice_get (words_of x.world.store w) i ≡ Some y → slice_get zero_words (0 + m + i) ≡ Some y
      is_other w m i y other near' uses ne h =
          let old : slice_get (words_of z.world.store w) i ≡ Some y = ap (λ ws. slice_get ws i) (sym (since.store w uses)) ∙ h in
          let within : i < other.words = let l = holds.holds.lengths w m other near' uses in let lt = slice_get_within (words_of z.world.store w) i y old in omega arith in
          ap (λ ws. slice_get ws (0 + m + i)) put_is
          ∙ get_set_other x.core.words (0 + first + k) (0 + m + i) 0
          (λ f. ne (laid.frame.disjoint w m i v first k other is.found near' near.1 within (omega arith) (omega arith)))
          ∙ since.words (0 + m + i) (variable_relied g r w m i other near' uses within)
          (other_outside (k + 1) is_k w m i other near' within ne)
          ∙ holds.holds.values w m i y other near' uses old

      -- memory has the words of the store, whichever the variable is
      values : (w m i y : ℕ) (other : VarPlan) → IsNear (places g r.core) w m other → r.footprint.uses w ≡ true →
          slice_get (words_of zero_store w) i ≡ Some y → slice_get zero_words (0 + m + i) ≡ Some y
      values w m i y other near' uses h = ⊎_elim same (λ (ne : w ≢ v). is_other w m i y other near' uses ne (ap (λ ws. slice_get ws i) (sym (words_other x.world.store v w (map zero_for (words_of x.world.store v)) ne)) ∙ h)) (cases_eq w v)
        where
          same : w ≡ v → slice_get zero_words (0 + m + i) ≡ Some y
          same e =
              let here : IsNear (places g r.core) v m other = subst (λ u. IsNear (places g r.core) u m other) e near' in
              let found : is.found ≡ other = same_Some is.found other (sym near.1.known ∙ here.known) in
              let placed : Near first ≡ Near m = sym near.1.place ∙ ap (λ (p : VarPlan). p.place) found ∙ here.place in
              let m_is : m ≡ first = cc in
              let was = was_zeroed (words_of x.world.store v) i y (sym (ap (λ ws. slice_get ws i) new_words) ∙ ap (λ u. slice_get (words_of zero_store u) i) (sym e) ∙ h) in
              let lt : i < k + 1 = let l = length_is in let w' = was.0 in omega arith in
              ap (λ n. slice_get zero_words (0 + n + i)) m_is ∙ is_zero i lt ∙ ap Some (sym was.1)

      -- and no variable got longer or shorter
      lengths : (w m : ℕ) (other : VarPlan) → IsNear (places g r.core) w m other → r.footprint.uses w ≡ true →
          other.words ≡ length (words_of zero_store w)
      lengths w m other near' uses =
          let old = holds.holds.lengths w m other near' uses ∙ ap length (sym (since.store w uses)) in
          ⊎_elim
          (λ (e : w ≡ v). old ∙ ap (λ u. length (words_of x.world.store u)) e ∙ sym (length-map (words_of x.world.store v) zero_for) ∙ ap length (sym new_words) ∙ ap (λ u. length (words_of zero_store u)) (sym e))
          (λ (ne : w ≢ v). old ∙ ap length (sym (words_other x.world.store v w (map zero_for (words_of x.world.store v)) ne)))
          (cases_eq w v)

      -- the temporary words are there still
      pub room : r.stack + temporary ≤ length zero_words
      room =
          let word = get_or z.core.words (r.stack + 511) 0 in
          let was : slice_get z.core.words (r.stack + 511) ≡ Some word = slice_get-get_or z.core.words (r.stack + 511) 0 (let h = holds.room in omega arith) in
          let still = slice_get_within x.core.words (r.stack + 511) word (since.words (r.stack + 511) (stack_relied g r 511 (omega arith)) (stack_outside (k + 1) is_k 511 (omega arith)) ∙ was) in
          let same = length-set x.core.words (address_at base k / 4) 0 in
          omega arith

      -- so memory holds the store again
      pub zero_holds : HoldsPlaces g r.core r.footprint.uses zero_words zero_store
      zero_holds = record { lengths = lengths; values = values }
