-- The place of a port that breaks no rule has a number, and the kernel's core of the port is that number, where it is one of a core.
use Rattle.std.proofs.Common.{◌≡◌, ◌≤◌, ◌⊎◌, inl, inr, ⊎_elim, ℕ, suc, ◌+◌, Bool, true, false, ◌&&◌, ◌||◌, List, [], ◌∷◌, ◌++◌, Contains, Option, None, Some, slice_get, nat_eq, nat_le, refl, sym, ap, subst, ◌∙◌, true≢false, arith}
use Rattle.std.proofs.lemmas.Option.{slice_get_within, get_or_from_slice_get}
use Rattle.xw_words.specs.Words.{word_difference, word_negative, word_product, word_sum}
use Rattle.xw_words.specs.declared.pos.Broken.{Broken}
use Rattle.xw_words.specs.declared.pos.Pos.{Pos}
use Rattle.xc_tree.specs.declared.names.Decl.{Decl}
use Rattle.xc_tree.specs.declared.names.Mark.{Mark}
use Rattle.xc_tree.specs.declared.names.Mark.TheVariants.{Opens, Closes, Declares, Uses, Calls}
use Rattle.xc_tree.specs.Plain as tree
use Rattle.xc_tree.specs.Checks.{Breaks, rule}
use Rattle.xc_tree.specs.Names.Marks as marks
use Rattle.xc_tree.specs.Names.Ports.{once, both, by_sign, by_operator, place_number, form_number, core_at}
use Rattle.xc_tree.specs.Names.Ports as names
use Rattle.xc_tree.specs.Shapes.Places.{signs, operators, is_made_of_these, form_is_made_of_these, are_indices, has_form_of_place}
use Rattle.xc_tree.specs.Shapes.Rules.{rule_508}
use Rattle.xc_tree.specs.Symbols as symbols
use Rattle.xc_tree.specs.Types.Entities.{is_index}
use Rattle.xc_tree.specs.Types.Named.{NamedProgram, Name, name_at, names_used, past, what_at, what_of}
use Rattle.xc_tree.specs.Types.Rules.{broken_unless}
use Rattle.xc_tree.specs.Types.Sites.{Site}
use Rattle.xc_tree.specs.Types.Sites as site
use Rattle.xc_tree.specs.Types.Words.{is_among}
use Rattle.xc_kernel.specs.Eval.{eval}
use Rattle.xc_kernel.specs.Expressions.{form_in, eval_in}
use Rattle.xc_kernel.specs.Numbering.{no_numbering}
use Rattle.xc_kernel.specs.Operators as operator
use Rattle.xc_kernel.specs.Operators.{operator_at}
use Rattle.xc_kernel.specs.Ports.{core_by, core_of_value, core_of}
use Rattle.xc_kernel.specs.Scopes.{is_unsigned}
use Rattle.xc_kernel.specs.Types.{operation_is_unsigned}
use Rattle.xc_kernel.specs.Values.{Value, word, applied}
use Rattle.xc_wellformed.specs.Stacks.{Frame, Stack, decl_by, declared_at, found, found_in, Resolves, after, outer}
use Rattle.xc_wellformed.proofs.Outside.{Alike, alike_resolves, Among, declared_again, decl_of_item, outer_item}
use Rattle.xc_wellformed.proofs.Resolved.{AllNew}
use Rattle.xc_wellformed.proofs.Stacks.{resolves_both, scope_ends, quiet_split, quiet_skip, quiet_optional, quiet_expression, quiet_place}
use Rattle.xc_meaning.proofs.Recursion.Scopes as scopes
use Rattle.xc_wellformed.proofs.Walk.Arguments.{AllIn, split}

and_both : (a b : Bool) → (a && b) ≡ true → (a ≡ true) × (b ≡ true)
and_both true b e = (refl, e)
and_both false b e = absurd (true≢false (sym e))

and_true : (a b : Bool) → a ≡ true → b ≡ true → (a && b) ≡ true
and_true true b e f = f
and_true false b e f = absurd (true≢false (sym e))

or_true : (a b : Bool) → (a || b) ≡ true → (a ≡ true) ⊎ (b ≡ true)
or_true true b e = inl refl
or_true false b e = inr e

no_more : {A : Type 0} (b : Bool) → (b || false) ≡ true → (b ≡ true → A) → A
no_more true e f = f refl
no_more false e f = absurd (true≢false (sym e))

same_number : (a b : ℕ) → nat_eq a b ≡ true → a ≡ b
same_number a b e = grind arith

indices_both : (xs ys : List Name) → are_indices (xs ++ ys) ≡ true → (are_indices xs ≡ true) × (are_indices ys ≡ true)
indices_both [] ys h = (refl, h)
indices_both (x ∷ xs) ys h =
    let a = and_both (is_index x.what) (are_indices (xs ++ ys)) h in
    let g = indices_both xs ys a.1 in
    (and_true (is_index x.what) (are_indices xs) a.0 g.0, g.1)

-- a number and a word that are the same
pub record Valued (number : Option ℕ) (value : Value) : Type 0 where
  pub v : ℕ
  pub is_number : number ≡ Some v
  pub is_word : value ≡ word v

module _ (n : NamedProgram) where
  what_is : (o : Option ℕ) → what_at n o ≡ what_of (declared_at n o)
  what_is None = refl
  what_is (Some d) = refl

  used_both : (k : ℕ) (ms ns : List Mark) → names_used n k (ms ++ ns) ≡ names_used n k ms ++ names_used n (past k ms) ns
  used_both k [] ns = refl
  used_both k (Opens ∷ ms) ns = used_both k ms ns
  used_both k (Closes ∷ ms) ns = used_both k ms ns
  used_both k (Declares d ∷ ms) ns = used_both (k + 1) ms ns
  used_both k (Uses i ∷ ms) ns = ap (λ (xs : List Name). name_at n k i ∷ xs) (used_both (k + 1) ms ns)
  used_both k (Calls i ∷ ms) ns = ap (λ (xs : List Name). name_at n k i ∷ xs) (used_both (k + 1) ms ns)

  -- where no name that is known is an index
  module _ (st : Stack) (none : (t : List ℕ) → is_index (what_of (found st t)) ≡ false) where
    abbrev Of : tree.Expression → Type 0
    Of e = Valued (place_number e) (eval_in no_numbering [] [] e)

    abbrev OfForm : tree.Form → Pos → Type 0
    OfForm f p = Valued (form_number f) (eval [] (form_in no_numbering [] p f))

    one_sign : (o : ℕ) (a : tree.Expression) (p : Pos) → is_among signs o ≡ true → Of a → OfForm (tree.unary o a) p
    one_sign o a p e x =
        ⊎_elim
        (λ q. subst (λ s. OfForm (tree.unary s a) p) (same_number symbols.plus o q)
        (record { v = x.v; is_number = x.is_number; is_word = ap (λ w. applied operator.plus (is_unsigned [] a) p (w ∷ [])) x.is_word }))
        (λ q. no_more (nat_eq symbols.minus o) q (λ r. subst (λ s. OfForm (tree.unary s a) p) (same_number symbols.minus o r)
        (record { v = word_negative x.v; is_number = ap (once word_negative) x.is_number; is_word = ap (λ w. applied operator.minus (is_unsigned [] a) p (w ∷ [])) x.is_word })))
        (or_true (nat_eq symbols.plus o) (nat_eq symbols.minus o || false) e)

    two_numbers : (f : ℕ → ℕ → ℕ) (a b : Option ℕ) (v w : ℕ) → a ≡ Some v → b ≡ Some w → both f a b ≡ Some (f v w)
    two_numbers f a b v w e g = ap (λ m. both f m b) e ∙ ap (both f (Some v)) g

    two_words : (s : ℕ) (u : Bool) (p : Pos) (x y : Value) (v w : ℕ) → x ≡ word v → y ≡ word w → applied (operator_at s) u p (x ∷ y ∷ []) ≡ applied (operator_at s) u p (word v ∷ word w ∷ [])
    two_words s u p x y v w e g = ap (λ z. applied (operator_at s) u p (z ∷ y ∷ [])) e ∙ ap (λ z. applied (operator_at s) u p (word v ∷ z ∷ [])) g

    between : (o : ℕ) (a b : tree.Expression) (p : Pos) → is_among operators o ≡ true → Of a → Of b → OfForm (tree.binary o a b) p
    between o a b p e x y =
        ⊎_elim
        (λ q. subst (λ s. OfForm (tree.binary s a b) p) (same_number symbols.plus o q)
        (record { v = word_sum x.v y.v; is_number = two_numbers word_sum _ _ x.v y.v x.is_number y.is_number; is_word = two_words symbols.plus (operation_is_unsigned operator.plus (is_unsigned [] a) (is_unsigned [] b)) p _ _ x.v y.v x.is_word y.is_word }))
        (λ q. ⊎_elim
        (λ r. subst (λ s. OfForm (tree.binary s a b) p) (same_number symbols.minus o r)
        (record { v = word_difference x.v y.v; is_number = two_numbers word_difference _ _ x.v y.v x.is_number y.is_number; is_word = two_words symbols.minus (operation_is_unsigned operator.minus (is_unsigned [] a) (is_unsigned [] b)) p _ _ x.v y.v x.is_word y.is_word }))
        (λ r. no_more (nat_eq symbols.star o) r (λ t. subst (λ s. OfForm (tree.binary s a b) p) (same_number symbols.star o t)
        (record { v = word_product x.v y.v; is_number = two_numbers word_product _ _ x.v y.v x.is_number y.is_number; is_word = two_words symbols.star (operation_is_unsigned operator.times (is_unsigned [] a) (is_unsigned [] b)) p _ _ x.v y.v x.is_word y.is_word })))
        (or_true (nat_eq symbols.minus o) (nat_eq symbols.star o || false) q))
        (or_true (nat_eq symbols.plus o) (nat_eq symbols.minus o || (nat_eq symbols.star o || false)) e)

    mutual
      valued : (e : tree.Expression) (k : ℕ) → is_made_of_these e ≡ true → are_indices (names_used n k (marks.of_expression e)) ≡ true → Resolves n k st (marks.of_expression e) → Of e
      valued (tree.expression f p) k m h r = form_valued f p k m h r

      form_valued : (f : tree.Form) (p : Pos) (k : ℕ) → form_is_made_of_these f ≡ true → are_indices (names_used n k (marks.of_form p f)) ≡ true → Resolves n k st (marks.of_form p f) → OfForm f p
      form_valued (tree.number v u) p k m h r = record { v = v; is_number = refl; is_word = refl }
      form_valued (tree.name t) p k m h r =
          absurd (true≢false (sym (and_both (is_index (what_at n (slice_get n.uses k))) true h).0 ∙ ap is_index (what_is (slice_get n.uses k) ∙ ap what_of r.0) ∙ none t))
      form_valued (tree.index t e) p k m h r = absurd (true≢false (sym m))
      form_valued (tree.unary o a) p k m h r = let b = and_both (is_among signs o) (is_made_of_these a) m in one_sign o a p b.0 (valued a k b.1 h r)
      form_valued (tree.binary o a b) p k m h r =
          let c = and_both (is_among operators o) (is_made_of_these a && is_made_of_these b) m in
          let d = and_both (is_made_of_these a) (is_made_of_these b) c.1 in
          let i = indices_both (names_used n k (marks.of_expression a)) (names_used n (past k (marks.of_expression a)) (marks.of_expression b)) (ap are_indices (sym (used_both k (marks.of_expression a) (marks.of_expression b))) ∙ h) in
          let s = quiet_split n k st (marks.of_expression a) (marks.of_expression b) (quiet_expression a) r in
          between o a b p c.0 (valued a k d.0 i.0 s.0) (valued b (past k (marks.of_expression a)) d.1 i.1 s.1)
      form_valued (tree.choice c a b) p k m h r = absurd (true≢false (sym m))
      form_valued (tree.cast u a) p k m h r = absurd (true≢false (sym m))

  -- the places of ports

  abbrev pub IsFinePlace : Site → Type 0
  IsFinePlace (site.place p xs) = has_form_of_place p.value xs ≡ true
  IsFinePlace other = Unit {0}

  abbrev pub PlaceValued : Option tree.Place → Type 0
  PlaceValued None = Unit {0}
  PlaceValued (Some p) = Valued (place_number p.value) (eval_in no_numbering [] [] p.value)

  place_valued : (st : Stack) → ((t : List ℕ) → is_index (what_of (found st t)) ≡ false) → (k : ℕ) (o : Option tree.Place) → Resolves n k st (marks.optional marks.of_place o) → AllIn IsFinePlace (site.optional (site.of_place n k) o) → PlaceValued o
  place_valued st none k None r g = tt
  place_valued st none k (Some p) r g =
      let b = and_both (is_made_of_these p.value) (are_indices (names_used n k (marks.of_expression p.value))) g.0 in
      valued st none p.value k b.0 b.1 r

  abbrev AllAmong : Frame → List Decl → Type 0
  AllAmong gs ds = AllIn (λ d. Among d gs) ds

  abbrev PortValued : tree.Port → Type 0
  PortValued p = PlaceValued p.place

  pub ports_valued : (items : List tree.Item) (i k : ℕ) (a gs : Frame) → AllNew gs → Alike (a ∷ []) (gs ∷ []) → AllAmong gs (outer 0 (marks.of_items i items)) → ((t : List ℕ) → is_index (what_of (found (gs ∷ []) t)) ≡ false) → Resolves n k (a ∷ []) (marks.of_items i items) → AllIn IsFinePlace (site.of_items n i k items) → AllIn PortValued (names.ports items)
  ports_valued [] i k a gs new alike among none r g = tt
  ports_valued (tree.port p ∷ items) i k a gs new alike among none r g =
      let ms = marks.of_item i (tree.port p) in
      let rest = marks.of_items (i + 1) items in
      let d = decl_of_item i (tree.port p) in
      let am = subst (AllAmong gs) (outer_item i (tree.port p) rest) among in
      let r1 = resolves_both n k (a ∷ []) ms rest r in
      let q = quiet_skip (a ∷ []) (marks.optional marks.of_place p.place) (Declares d ∷ []) (quiet_optional marks.of_place quiet_place p.place) in
      let g1 = split IsFinePlace (site.of_item n k (tree.port p)) _ g in
      let r2 = resolves_both n k (a ∷ []) (marks.optional marks.of_place p.place) (Declares d ∷ []) r1.0 in (
        place_valued (gs ∷ []) none k p.place (alike_resolves n (marks.optional marks.of_place p.place) k (a ∷ []) (gs ∷ []) alike r2.0) g1.0,
        ports_valued items (i + 1) (past k ms) (d ∷ a) gs new (declared_again gs a d new am.0 alike) am.1 none (subst (λ (z : Stack). Resolves n (past k ms) z rest) q r1.1) g1.1,
      )
  ports_valued (tree.function h b ∷ items) i k a gs new alike among none r g =
      let ms = marks.of_item i (tree.function h b) in
      let rest = marks.of_items (i + 1) items in
      let d = decl_of_item i (tree.function h b) in
      let am = subst (AllAmong gs) (outer_item i (tree.function h b) rest) among in
      let r1 = resolves_both n k (a ∷ []) ms rest r in
      let inner = marks.each marks.of_param h.params ++ marks.of_body b in
      let su = (d ∷ a) ∷ [] in
      let q : after su (marks.in_scope inner) ≡ su = scope_ends su inner (scopes.both _ _ (scopes.all marks.of_param scopes.of_param h.params) (scopes.of_body b)) in
      let g1 = split IsFinePlace (site.of_item n k (tree.function h b)) _ g in
      ports_valued items (i + 1) (past k ms) (d ∷ a) gs new (declared_again gs a d new am.0 alike) am.1 none (subst (λ (z : Stack). Resolves n (past k ms) z rest) q r1.1) g1.1

  -- what is declared outside of functions is no index
  found_by : (b : Bool) (d : Decl) (o : Option Decl) → is_index (Some d.what) ≡ false → is_index (what_of o) ≡ false → is_index (what_of (decl_by b d o)) ≡ false
  found_by true d o e f = e
  found_by false d o e f = f

  abbrev NotIndex : Decl → Type 0
  NotIndex d = is_index (Some d.what) ≡ false

  pub none_index : (ds : Frame) (t : List ℕ) → AllIn NotIndex ds → is_index (what_of (found_in ds t None)) ≡ false
  none_index [] t h = refl
  none_index (d ∷ ds) t h = found_by _ d (found_in ds t None) h.0 (none_index ds t h.1)

  item_not_index : (i : ℕ) (item : tree.Item) → NotIndex (decl_of_item i item)
  item_not_index i (tree.port p) = refl
  item_not_index i (tree.function h b) = refl

  pub outer_not_index : (items : List tree.Item) (i : ℕ) → AllIn NotIndex (outer 0 (marks.of_items i items))
  outer_not_index [] i = tt
  outer_not_index (item ∷ items) i = subst (AllIn NotIndex) (sym (outer_item i item (marks.of_items (i + 1) items))) (item_not_index i item, outer_not_index items (i + 1))

  -- the rule of places isn't broken
  unless : (b : Bool) (p : Pos) → (Contains (broken_unless b p) p → ⊥) → b ≡ true
  unless true p h = refl
  unless false p h = absurd (h (0, omega arith, refl))

  all_by_place : (P : Site → Type 0) (xs : List Site) → ((i : ℕ) (x : Site) → slice_get xs i ≡ Some x → P x) → AllIn P xs
  all_by_place P [] f = tt
  all_by_place P (x ∷ xs) f = (f 0 x refl, all_by_place P xs (λ i y e. f (suc i) y e))

  fine_place : ((b : Broken) → Breaks n b → ⊥) → (s : Site) → Contains (site.sites n) s → IsFinePlace s
  fine_place unbroken (site.place p xs) h =
      unless (has_form_of_place p.value xs) p.first
      (λ c. unbroken (record { rule = 508; pos = p.first }) (record { rule = rule 508 rule_508; among = (23, omega arith, refl); numbered = refl; site = site.place p xs; there = h; broken = c }))
  fine_place unbroken other h = tt

  pub fine_places : ((b : Broken) → Breaks n b → ⊥) → AllIn IsFinePlace (site.sites n)
  fine_places unbroken = all_by_place IsFinePlace (site.sites n) (λ i s e. fine_place unbroken s (i, slice_get_within (site.sites n) i s e, get_or_from_slice_get (site.sites n) i s s e))

-- so the kernel's core of such a port is its number

core_by_number : (b : Bool) (v c : ℕ) → core_by v b ≡ c → c ≤ 3 → v ≡ c
core_by_number true v c e le = e
core_by_number false v c e le = absurd (let q : ⊥ = omega arith in q)

pub core_is : (n : NamedProgram) (o : Option tree.Place) (c : ℕ) → PlaceValued n o → core_of [] o ≡ c → c ≤ 3 → core_at o ≡ Some c
core_is n None c h e le = ap (λ m. Some m) e
core_is n (Some p) c h e le = h.is_number ∙ ap (λ m. Some m) (core_by_number (nat_le h.v 3) h.v c (ap core_of_value (sym h.is_word) ∙ e) le)
