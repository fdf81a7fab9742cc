-- A frame keeps the store in a core's words.
use Rattle.std.proofs.Common.{◌≡◌, ◌≢◌, ℕ, zero, suc, ◌+◌, ◌*◌, ◌/◌, ◌%◌, ◌<◌, Bool, true, false, List, [], ◌∷◌, length, Option, Some, refl, sym, ap, ◌∙◌, subst, ⊎_elim, get_or, arith}
use Rattle.std.specs.Prelude.{slice_get, slice_set, slice_index, nat_eq, nat_lt}
use Rattle.std.proofs.lemmas.Bool.{cases_eq, ltb-true}
use Rattle.std.proofs.lemmas.List.{length-set, get_or-set_other, get_or-set_same}
use Rattle.std.proofs.lemmas.Option.{slice_get-get_or, slice_get_within, same_Some}
use Rattle.xs_instr.specs.Memory.{address_at, word_at, word_by, word_put}
use Rattle.xs_instr.specs.OwnSteps.{IsApart, IsWord}
use Rattle.xc_kernel.specs.Plain as kernel
use Rattle.xc_kernel.specs.Values.{Value, word, error, tested_by}
use Rattle.xc_kernel.specs.Eval.{Store, words_of, eval}
use Rattle.xw_words.specs.declared.pos.Pos.{Pos}
use Rattle.xl_expr.specs.declared.plan.VarAt.{VarAt}
use Rattle.xl_expr.specs.declared.plan.VarAt.TheVariants.{Near}
use Rattle.xl_expr.specs.declared.plan.VarPlan.{VarPlan}
use Rattle.xl_expr.specs.Plans.{var_in}
use Rattle.xl_expr.specs.Frames.{IsNear, Frame, Holds, HasVars, HaveVars, HasPlace, changed, variable_of}
use Rattle.xl_expr.specs.Stores.{OfWord, OfElement, WordAt, ElementAt, IsAddress, index_in, tested_value}
use Rattle.xl_expr.specs.Works.{WordStands, WordIsLaid, IsLaid, AreLaid, PlaceIsLaid}
use Rattle.xl_expr.proofs.Laid.{near_laid}
use Rattle.xl_expr.proofs.Lists.{get_set_same, get_set_other}

-- the address of the word d + n + i
address_is : (d n i : ℕ) → d + n + i < 16384 → address_at (address_at (4 * d) n) i ≡ 4 * (d + n + i)
address_is d n i lt = omega arith

index_is : (w : ℕ) → (4 * w) / 4 ≡ w
index_is w = omega arith

word_at_index : (words : List ℕ) (w x : ℕ) → slice_get words w ≡ Some x → word_at words (4 * w) ≡ Some x
word_at_index words w x h =
    let e : (4 * w) % 4 ≡ 0 = omega arith in
    ap (λ n. word_by words (4 * w) (nat_eq n 0)) e ∙ ap (slice_get words) (index_is w) ∙ h

module _ (vars : List (Option VarPlan)) (relied uses : ℕ → Bool) (s d : ℕ) (frame : Frame vars relied uses s d) (words : List ℕ) (store : Store) (holds : Holds vars uses d words store) where
  -- each word of a variable is where the layout wants it
  stands_at : (v n i x : ℕ) (found : VarPlan) → IsNear vars v n found → uses v ≡ true → slice_get (words_of store v) i ≡ Some x → IsWord relied s words (address_at (address_at (4 * d) n) i) x
  stands_at v n i x found near used there =
      let within : i < found.words = let l = holds.lengths v n found near used in let w = slice_get_within (words_of store v) i x there in omega arith in
      let a = address_is d n i (frame.low v n i found near within) in
      subst (λ p. IsWord relied s words p x) (sym a) (record {
        there = word_at_index words (d + n + i) x (holds.values v n i x found near used there);
        relied_on = ap relied (index_is (d + n + i)) ∙ frame.relied_on v n i found near used within;
        apart = subst (IsApart s) (sym (index_is (d + n + i))) (frame.apart v n i found near within);
      })

  first_address : (n : ℕ) → address_at (address_at (4 * d) n) 0 ≡ address_at (4 * d) n
  first_address n = omega arith

  word_laid : (v : ℕ) (found : VarPlan) → var_in vars v ≡ Some found → 0 < found.words → uses v ≡ true → WordIsLaid vars relied s (4 * d) words store (var_in vars v) (words_of store v)
  word_laid v found known some used =
      let near = frame.near v found known in
      let n = near.0 in
      let xs = words_of store v in
      let there = slice_get-get_or xs 0 0 (let l = holds.lengths v n found near.1 used in omega arith) in
      let at_near : WordStands vars relied s (4 * d) words store (Near n) (slice_index xs 0) = subst (λ p. IsWord relied s words p (slice_index xs 0)) (first_address n) (stands_at v n 0 (slice_index xs 0) found near.1 used there) in
      subst (λ o. WordIsLaid vars relied s (4 * d) words store o xs) (sym known) (subst (λ (p : VarAt). WordStands vars relied s (4 * d) words store p (slice_index xs 0)) (sym near.1.place) at_near)

  element_laid : (v : ℕ) (found : VarPlan) (i : kernel.Expression) (pos : Pos) → var_in vars v ≡ Some found → uses v ≡ true → IsLaid vars relied s (4 * d) words store i → PlaceIsLaid vars relied s (4 * d) words store (kernel.element v i pos)
  element_laid v found i pos known used index =
      let near = frame.near v found known in
      let n = near.0 in
      near_laid vars relied s (4 * d) words store v found known (holds.lengths v n found near.1 used) i pos n near.1.place index (λ j x e. stands_at v n j x found near.1 used e)

  mutual
    pub framed_laid : (x : kernel.Expression) → HasVars vars uses x → IsLaid vars relied s (4 * d) words store x
    framed_laid (kernel.number v) h = tt
    framed_laid (kernel.read p) h = framed_place p h
    framed_laid (kernel.operation o u es pos) h = framed_all es h

    framed_all : (es : kernel.Operands) → HaveVars vars uses es → AreLaid vars relied s (4 * d) words store es
    framed_all kernel.no_operand h = tt
    framed_all (kernel.more_operands e es) h = (framed_laid e h.0, framed_all es h.1)

    pub framed_place : (p : kernel.Place) → HasPlace vars uses p → PlaceIsLaid vars relied s (4 * d) words store p
    framed_place (kernel.word v) h = word_laid v h.0 h.1 h.2 h.3
    framed_place (kernel.element v i pos) h = element_laid v h.1.0 i pos h.1.1 h.1.2 (framed_laid i h.0)

  -- the words of variables after one word was changed
  words_other : (v w i x : ℕ) → w ≢ v → words_of (changed store v i x) w ≡ words_of store w
  words_other v w i x ne = get_or-set_other store v w (slice_set (words_of store v) i x) [] ne

  words_same : (v i x : ℕ) → v < length store → words_of (changed store v i x) v ≡ slice_set (words_of store v) i x
  words_same v i x lt = get_or-set_same store v (slice_set (words_of store v) i x) [] lt

  has_words : (st : Store) (v : ℕ) → 0 < length (words_of st v) → v < length st
  has_words [] v h = absurd (omega arith)
  has_words (y ∷ st) zero h = omega arith
  has_words (y ∷ st) (suc v) h = let r = has_words st v h in omega arith

  -- a word is written where the layout has it, and the words are those of the changed store
  pub write_holds : (v n i x : ℕ) (found : VarPlan) → IsNear vars v n found → uses v ≡ true → i < found.words → Holds vars uses d (slice_set words (d + n + i) x) (changed store v i x)
  write_holds v n i x found near used within = record { lengths = lengths; values = values }
    where
      there : v < length store
      there = has_words store v (let l = holds.lengths v n found near used in omega arith)

      old : slice_get (words_of store v) i ≡ Some (get_or (words_of store v) i 0)
      old = slice_get-get_or (words_of store v) i 0 (let l = holds.lengths v n found near used in omega arith)

      lengths : (w m : ℕ) (other : VarPlan) → IsNear vars w m other → uses w ≡ true → other.words ≡ length (words_of (changed store v i x) w)
      lengths w m other near' used' =
          ⊎_elim
          (λ (e : w ≡ v). holds.lengths w m other near' used' ∙ ap (λ u. length (words_of store u)) e ∙ sym (length-set (words_of store v) i x) ∙ ap length (sym (words_same v i x there)) ∙ ap (λ u. length (words_of (changed store v i x) u)) (sym e))
          (λ (ne : w ≢ v). holds.lengths w m other near' used' ∙ ap length (sym (words_other v w i x ne)))
          (cases_eq w v)

      same_var : (m j y : ℕ) (other : VarPlan) → IsNear vars v m other → slice_get (slice_set (words_of store v) i x) j ≡ Some y → slice_get (slice_set words (d + n + i) x) (d + m + j) ≡ Some y
      same_var m j y other near' h =
          let same : found ≡ other = same_Some found other (sym near.known ∙ near'.known) in
          let places : Near n ≡ Near m = sym near.place ∙ ap (λ (p : VarPlan). p.place) same ∙ near'.place in
          let m_is : m ≡ n = cc in
          ⊎_elim
          (λ (e : j ≡ i).
          let y_is : Some x ≡ Some y = sym (get_set_same (words_of store v) i (get_or (words_of store v) i 0) x old) ∙ ap (slice_get (slice_set (words_of store v) i x)) (sym e) ∙ h in
          let at_w : d + m + j ≡ d + n + i = omega arith in
          ap (slice_get (slice_set words (d + n + i) x)) at_w ∙ get_set_same words (d + n + i) (get_or (words_of store v) i 0) x (holds.values v n i (get_or (words_of store v) i 0) found near used old) ∙ y_is)
          (λ (ne : j ≢ i).
          get_set_other words (d + n + i) (d + m + j) x (λ f. ne (omega arith)) ∙ holds.values v m j y other near' used (sym (get_set_other (words_of store v) i j x ne) ∙ h))
          (cases_eq j i)

      values : (w m j y : ℕ) (other : VarPlan) → IsNear vars w m other → uses w ≡ true → slice_get (words_of (changed store v i x) w) j ≡ Some y → slice_get (slice_set words (d + n + i) x) (d + m + j) ≡ Some y
      values w m j y other near' used' h =
          ⊎_elim
          (λ (e : w ≡ v).
          same_var m j y other (subst (λ u. IsNear vars u m other) e near') (ap (λ ws. slice_get ws j) (sym (words_same v i x there)) ∙ ap (λ u. slice_get (words_of (changed store v i x) u) j) (sym e) ∙ h))
          (λ (ne : w ≢ v).
          let here : slice_get (words_of store w) j ≡ Some y = ap (λ ws. slice_get ws j) (sym (words_other v w i x ne)) ∙ h in
          let within' : j < other.words = let l = holds.lengths w m other near' used' in let r = slice_get_within (words_of store w) j y here in omega arith in
          get_set_other words (d + n + i) (d + m + j) x (λ f. ne (frame.disjoint w m j v n i other found near' near within' within (omega arith))) ∙ holds.values w m j y other near' used' here)
          (cases_eq w v)

  within_by : (len i j : ℕ) (pos : Pos) (b : Bool) → nat_lt j len ≡ b → tested_by j pos b ≡ word i → i < len
  within_by len i j pos true e h = let same : j ≡ i = cc in let l = ltb-true j len e in omega arith
  within_by len i j pos false e h = absurd (cc)

  index_within : (len i : ℕ) (pos : Pos) (v : Value) → tested_value len pos v ≡ word i → i < len
  index_within len i pos (word j) h = within_by len i j pos (nat_lt j len) refl h
  index_within len i pos (error kind p) h = absurd (cc)

  put_is : (n i address x : ℕ) → d + n + i < 16384 → address ≡ address_at (address_at (4 * d) n) i → word_put words address x ≡ slice_set words (d + n + i) x
  put_is n i address x lt e = ap (λ w. slice_set words w x) (ap (λ p. p / 4) (e ∙ address_is d n i lt) ∙ index_is (d + n + i))

  -- where the next step writes a word at a place's address, it leaves the words of the changed store
  pub store_holds : (p : kernel.Place) (i address x : ℕ) → HasPlace vars uses p → index_in store p ≡ word i → IsAddress vars relied s (4 * d) words p i address → Holds vars uses d (word_put words address x) (changed store (variable_of p) i x)
  store_holds (kernel.word v) i address x h is_i at_address =
      let found = h.0 in
      let near = frame.near v found h.1 in
      let n = near.0 in
      let none : 0 ≡ i = cc in
      let placed = subst (λ (q : VarAt). WordAt vars relied s (4 * d) words q address) near.1.place (subst (λ o. OfWord vars relied s (4 * d) words o address) h.1 at_address) in
      let within : i < found.words = let some = h.2 in omega arith in
      let low = frame.low v n i found near.1 within in
      let e : address ≡ address_at (address_at (4 * d) n) i = placed ∙ sym (first_address n) ∙ ap (address_at (address_at (4 * d) n)) none in
      subst (λ ws. Holds vars uses d ws (changed store v i x)) (sym (put_is n i address x low e)) (write_holds v n i x found near.1 h.3 within)
  store_holds (kernel.element v index pos) i address x h is_i at_address =
      let found = h.1.0 in
      let near = frame.near v found h.1.1 in
      let n = near.0 in
      let placed = subst (λ (q : VarAt). ElementAt vars relied s (4 * d) words q i address) near.1.place (subst (λ o. OfElement vars relied s (4 * d) words o i address) h.1.1 at_address) in
      let within : i < found.words = let l = holds.lengths v n found near.1 h.1.2 in let w = index_within (length (words_of store v)) i pos (eval store index) is_i in omega arith in
      let low = frame.low v n i found near.1 within in
      subst (λ ws. Holds vars uses d ws (changed store v i x)) (sym (put_is n i address x low placed)) (write_holds v n i x found near.1 h.1.2 within)
