-- Rule 303, port by port.
use Rattle.std.proofs.Common.{◌≡◌, ℕ, ◌+◌, ◌<◌, ◌≤◌, ◌⊎◌, inl, inr, Bool, true, false, not, ◌&&◌, nat_eq, if◌then◌else◌, List, [], ◌∷◌, ◌++◌, length, take, slice_get, Contains, Option, None, Some, refl, sym, ap, subst, ◌∙◌, arith, append-nil}
use Rattle.std.specs.Cmp.Lexicographic.{pointwise, bytes_decides}
use Rattle.std.proofs.lemmas.Bool.Decides.{nat_tests}
use Rattle.std.proofs.lemmas.Option.{slice_get_read, slice_get_within, get_or_from_slice_get}
use Rattle.std.proofs.lemmas.List.{length-take-le, get_or-take, take_all, take-append-le}
use Rattle.xw_words.proofs.Lists.{push_at, push_before, pushed, take_push, some_same}
use Rattle.xw_words.specs.declared.pos.Broken.{Broken}
use Rattle.xc_tree.specs.Plain as plain
use Rattle.xc_tree.specs.Names.Ports.{core_of_port, ports}
use Rattle.xw_words.specs.Ports.{identifiers}
use Rattle.xc_tree.specs.Names.Rules.{IsUsedAgain}
use Rattle.xc_tree.specs.Least.{IsLeastOf, first_of}
use Rattle.xc_names.specs.PortRules.{HasWrongPort, wrong_port, IsOnCore, IsWrong, unnamed, doubled, AreTaken, Takes, TakesItem, by_port, by_function, is_taken_on, rule_of, rule_of_item}
use Rattle.xc_names.specs.Taken.{is_among}
use Rattle.xc_names.proofs.Identifiers.{among_contains, contains_among}
use Rattle.xc_tree.proofs.Leasts.{either, of_same, none_broken, one_broken}

-- the rule at a port's identifier
abbrev pub at_port : plain.Port → Broken
at_port p = record { rule = 303; pos = p.ident.pos }

pub record IsLastWrong (ps : List plain.Port) (p : plain.Port) (b : Broken) : Type 0 where
  pub wrong : IsWrong ps p
  pub is : b ≡ at_port p

both_false : (a b : Bool) → (a && not b) ≡ false → (a ≡ false) ⊎ (b ≡ true)
both_false true true e = inr refl
both_false true false e = absurd (cc)
both_false false b e = inl refl

both_true : (a b : Bool) → (a && not b) ≡ true → (a ≡ true) × (b ≡ false)
both_true true true e = absurd (cc)
both_true true false e = (refl, refl)
both_true false b e = absurd (cc)

clash : {A : Type 0} → true ≡ false → A
clash e = absurd (cc)

module _ (ps : List plain.Port) (taken : List ℕ → ℕ → Bool) (a : AreTaken ps taken) (p : plain.Port) where
  taken_wrong : (o : Option ℕ) → core_of_port p ≡ o → is_taken_on taken p.ident.text o ≡ true → IsWrong ps p
  taken_wrong None e h = clash (sym h)
  taken_wrong (Some core) e h = doubled core e (a.right p.ident.text core h)

  wrong_taken : (o : Option ℕ) → core_of_port p ≡ o → (core : ℕ) → core_of_port p ≡ Some core → IsOnCore ps p.ident.text core → is_taken_on taken p.ident.text o ≡ true
  wrong_taken None e core f h = absurd (none (sym e ∙ f))
    where
      none : None ≡ Some core → ⊥
      none q = cc
  wrong_taken (Some x) e core f h = ap (taken p.ident.text) (some_same x core (sym e ∙ f)) ∙ a.all p.ident.text core h

  fine : is_among identifiers p.ident.text ≡ true → is_taken_on taken p.ident.text (core_of_port p) ≡ false → IsWrong ps p → ⊥
  fine h g (unnamed x) = x (among_contains identifiers p.ident.text h)
  fine h g (doubled core e x) = clash (sym (wrong_taken (core_of_port p) refl core e x) ∙ g)

  pub last_rule : IsLeastOf (IsLastWrong ps p) (rule_of taken p)
  last_rule = by (is_among identifiers p.ident.text && not (is_taken_on taken p.ident.text (core_of_port p))) refl
    where
      bad : (is_among identifiers p.ident.text ≡ false) ⊎ (is_taken_on taken p.ident.text (core_of_port p) ≡ true) → IsWrong ps p
      bad (inl h) = unnamed (λ c. clash (sym (contains_among identifiers p.ident.text c) ∙ h))
      bad (inr h) = taken_wrong (core_of_port p) refl h

      by : (t : Bool) → (is_among identifiers p.ident.text && not (is_taken_on taken p.ident.text (core_of_port p))) ≡ t → IsLeastOf (IsLastWrong ps p) (if is_among identifiers p.ident.text && not (is_taken_on taken p.ident.text (core_of_port p)) then None else Some (at_port p))
      by true e = let x = both_true (is_among identifiers p.ident.text) (is_taken_on taken p.ident.text (core_of_port p)) e in rw e (none_broken (IsLastWrong ps p) (λ b h. fine x.0 x.1 h.wrong))
      by false e = rw e (one_broken (IsLastWrong ps p) (at_port p) (record { wrong = bad (both_false (is_among identifiers p.ident.text) (is_taken_on taken p.ident.text (core_of_port p)) e); is = refl }) (λ b h. h.is))

-- a port more takes what it has
on_more : (ps : List plain.Port) (p : plain.Port) (t : List ℕ) (core : ℕ) → IsOnCore ps t core → IsOnCore (ps ++ p ∷ []) t core
on_more ps p t core h = record { place = h.place; port = h.port; there = push_before ps p h.place (slice_get_within ps h.place h.port h.there) ∙ h.there; identifier = h.identifier; its_core = h.its_core }

on_last : (ps : List plain.Port) (p : plain.Port) (core : ℕ) → core_of_port p ≡ Some core → IsOnCore (ps ++ p ∷ []) p.ident.text core
on_last ps p core e = record { place = length ps; port = p; there = push_at ps p (length ps) refl; identifier = refl; its_core = e }

on_split : (ps : List plain.Port) (p : plain.Port) (t : List ℕ) (core : ℕ) → IsOnCore (ps ++ p ∷ []) t core → IsOnCore ps t core ⊎ ((t ≡ p.ident.text) × (core_of_port p ≡ Some core))
on_split ps p t core h = by (pushed ps p h.port h.place h.there)
  where
    by : (slice_get ps h.place ≡ Some h.port) ⊎ ((h.place ≡ length ps) × (p ≡ h.port)) → IsOnCore ps t core ⊎ ((t ≡ p.ident.text) × (core_of_port p ≡ Some core))
    by (inl e) = inl (record { place = h.place; port = h.port; there = e; identifier = h.identifier; its_core = h.its_core })
    by (inr e) = inr (sym h.identifier ∙ ap (λ (q : plain.Port). q.ident.text) (sym e.1), ap core_of_port e.1 ∙ h.its_core)

-- whether a spelling and a core are those of a port
same_key : (p : plain.Port) (t : List ℕ) (core : ℕ) → ((t ≡ p.ident.text) × (core_of_port p ≡ Some core)) ⊎ (t ≡ p.ident.text → core_of_port p ≡ Some core → ⊥)
same_key p t core = by (pointwise nat_eq t p.ident.text) refl (core_of_port p) refl
  where
    equal : (x y : ℕ) → nat_eq x y ≡ true → x ≡ y
    equal x y e = grind (arith, nat_tests)

    unequal : (x y : ℕ) → nat_eq x y ≡ false → x ≡ y → ⊥
    unequal x y e = grind (arith, nat_tests)

    cores : t ≡ p.ident.text → (x : ℕ) → core_of_port p ≡ Some x → (b : Bool) → nat_eq x core ≡ b → ((t ≡ p.ident.text) × (core_of_port p ≡ Some core)) ⊎ (t ≡ p.ident.text → core_of_port p ≡ Some core → ⊥)
    cores q x e true f = inl (q, e ∙ ap Some (equal x core f))
    cores q x e false f = inr (λ r g. unequal x core f (some_same x core (sym e ∙ g)))

    none : {x : ℕ} → None ≡ Some x → ⊥
    none q = cc

    by : (b : Bool) → pointwise nat_eq t p.ident.text ≡ b → (o : Option ℕ) → core_of_port p ≡ o → ((t ≡ p.ident.text) × (core_of_port p ≡ Some core)) ⊎ (t ≡ p.ident.text → core_of_port p ≡ Some core → ⊥)
    by true e None f = inr (λ r g. none (sym f ∙ g))
    by true e (Some x) f = cores ((bytes_decides t p.ident.text).0 e) x f (nat_eq x core) refl
    by false e o f = inr (λ r g. clash (sym ((bytes_decides t p.ident.text).1 r) ∙ e))

pub taken_more : (ps : List plain.Port) (p : plain.Port) (old new : List ℕ → ℕ → Bool) → AreTaken ps old → Takes old p new → AreTaken (ps ++ p ∷ []) new
taken_more ps p old new a k = record {
  right = λ t core h. right t core h (same_key p t core);
  all = λ t core h. all t core h (same_key p t core);
}
  where
    right : (t : List ℕ) (core : ℕ) → new t core ≡ true → ((t ≡ p.ident.text) × (core_of_port p ≡ Some core)) ⊎ (t ≡ p.ident.text → core_of_port p ≡ Some core → ⊥) → IsOnCore (ps ++ p ∷ []) t core
    right t core h (inl s) = subst (λ (x : List ℕ). IsOnCore (ps ++ p ∷ []) x core) (sym s.0) (on_last ps p core s.1)
    right t core h (inr s) = on_more ps p t core (a.right t core (sym (k.others t core s) ∙ h))

    all : (t : List ℕ) (core : ℕ) → IsOnCore (ps ++ p ∷ []) t core → ((t ≡ p.ident.text) × (core_of_port p ≡ Some core)) ⊎ (t ≡ p.ident.text → core_of_port p ≡ Some core → ⊥) → new t core ≡ true
    all t core h (inl s) = ap (λ x. new x core) s.0 ∙ k.own core s.1
    all t core h (inr s) = k.others t core s ∙ old_one (on_split ps p t core h)
      where
        old_one : IsOnCore ps t core ⊎ ((t ≡ p.ident.text) × (core_of_port p ≡ Some core)) → old t core ≡ true
        old_one (inl x) = a.all t core x
        old_one (inr x) = absurd (s x.0 x.1)

-- a port among these is wrong, by those before it
pub record HasWrong (ps : List plain.Port) (b : Broken) : Type 0 where
  pub place : ℕ
  pub port : plain.Port
  pub there : slice_get ps place ≡ Some port
  pub last : IsLastWrong (take place ps) port b

pub one_further : (ps : List plain.Port) (p : plain.Port) (best o : Option Broken) → IsLeastOf (HasWrong ps) best → IsLeastOf (IsLastWrong ps p) o → IsLeastOf (HasWrong (ps ++ p ∷ [])) (first_of best o)
one_further ps p best o x y = of_same (λ b. HasWrong ps b ⊎ IsLastWrong ps p b) (HasWrong (ps ++ p ∷ [])) (first_of best o) to from (either (HasWrong ps) (IsLastWrong ps p) best o x y)
  where
    less_le : {m n : ℕ} → m < n → m ≤ n
    less_le h = omega arith

    front : (k : ℕ) → k ≤ length ps → take k (ps ++ p ∷ []) ≡ take k ps
    front k h = take-append-le k ps (p ∷ []) h

    to : (b : Broken) → HasWrong ps b ⊎ IsLastWrong ps p b → HasWrong (ps ++ p ∷ []) b
    to b (inl h) =
        let less = slice_get_within ps h.place h.port h.there in
        record { place = h.place; port = h.port; there = push_before ps p h.place less ∙ h.there; last = subst (λ (qs : List plain.Port). IsLastWrong qs h.port b) (sym (front h.place (less_le less))) h.last }
    to b (inr h) = record { place = length ps; port = p; there = push_at ps p (length ps) refl; last = subst (λ (qs : List plain.Port). IsLastWrong qs p b) (sym (front (length ps) (omega arith) ∙ take_all (length ps) ps (omega arith))) h }

    from : (b : Broken) → HasWrong (ps ++ p ∷ []) b → HasWrong ps b ⊎ IsLastWrong ps p b
    from b h = by (pushed ps p h.port h.place h.there)
      where
        by : (slice_get ps h.place ≡ Some h.port) ⊎ ((h.place ≡ length ps) × (p ≡ h.port)) → HasWrong ps b ⊎ IsLastWrong ps p b
        by (inl e) = inl (record { place = h.place; port = h.port; there = e; last = subst (λ (qs : List plain.Port). IsLastWrong qs h.port b) (front h.place (less_le (slice_get_within ps h.place h.port e))) h.last })
        by (inr e) = inr (subst (λ (q : plain.Port). IsLastWrong ps q b) (sym e.1) (subst (λ (qs : List plain.Port). IsLastWrong qs h.port b) (ap (λ k. take k (ps ++ p ∷ [])) e.0 ∙ front (length ps) (omega arith) ∙ take_all (length ps) ps (omega arith)) h.last))

-- among the first k items of a program
pub record PortsSoFar (program : List plain.Item) (k : ℕ) (taken : List ℕ → ℕ → Bool) (best : Option Broken) : Type 0 where
  pub are : AreTaken (ports (take k program)) taken
  pub least : IsLeastOf (HasWrong (ports (take k program))) best

pub none_seen : (program : List plain.Item) (taken : List ℕ → ℕ → Bool) → ((t : List ℕ) (core : ℕ) → taken t core ≡ false) → PortsSoFar program 0 taken None
none_seen program taken h = record {
  are = record { right = λ t core e. clash (sym e ∙ h t core); all = λ t core x. absurd (empty x.place x.port x.there) };
  least = none_broken (HasWrong []) (λ b x. empty x.place x.port x.there);
}
  where
    empty : (k : ℕ) (p : plain.Port) → slice_get {X = plain.Port} [] k ≡ Some p → ⊥
    empty k p e = let l : k < 0 = slice_get_within {A = plain.Port} [] k p e in omega arith

ports_append : (xs ys : List plain.Item) → ports (xs ++ ys) ≡ ports xs ++ ports ys
ports_append [] ys = refl
ports_append (plain.port p ∷ xs) ys = ap (λ ps. p ∷ ps) (ports_append xs ys)
ports_append (plain.function h b ∷ xs) ys = ports_append xs ys

first_none : (best : Option Broken) → first_of best None ≡ best
first_none None = refl
first_none (Some b) = refl

pub see_item : (program : List plain.Item) (k : ℕ) (i : plain.Item) (old new : List ℕ → ℕ → Bool) (best : Option Broken) → slice_get program k ≡ Some i → PortsSoFar program k old best → TakesItem old i new → PortsSoFar program (k + 1) new (first_of best (rule_of_item old i))
see_item program k i old new best e s (by_port {p = p} t) = record {
  are = subst (λ (ps : List plain.Port). AreTaken ps new) (sym next) (taken_more (ports (take k program)) p old new s.are t);
  least = subst (λ (ps : List plain.Port). IsLeastOf (HasWrong ps) (first_of best (rule_of old p))) (sym next) (one_further (ports (take k program)) p best (rule_of old p) s.least (last_rule (ports (take k program)) old s.are p));
}
  where
    next : ports (take (k + 1) program) ≡ ports (take k program) ++ p ∷ []
    next = ap ports (take_push program k (plain.port p) e) ∙ ports_append (take k program) (plain.port p ∷ [])
see_item program k i old new best e s (by_function {h = h} {b = b}) = record {
  are = subst (λ (ps : List plain.Port). AreTaken ps old) (sym next) s.are;
  least = subst (λ (o : Option Broken). IsLeastOf (HasWrong (ports (take (k + 1) program))) o) (sym (first_none best)) (subst (λ (ps : List plain.Port). IsLeastOf (HasWrong ps) best) (sym next) s.least);
}
  where
    next : ports (take (k + 1) program) ≡ ports (take k program)
    next = ap ports (take_push program k (plain.function h b) e) ∙ ports_append (take k program) (plain.function h b ∷ []) ∙ append-nil (ports (take k program))

-- a place before k of a list is one of its first k
in_front : {A : Type 0} (xs : List A) (k j : ℕ) (x : A) → k ≤ length xs → slice_get (take k xs) j ≡ Some x → (j < k) × (slice_get xs j ≡ Some x)
in_front xs k j x h e =
    let long = length-take-le k xs h in
    let less : j < k = let l = slice_get_within (take k xs) j x e in omega arith in
    (less, slice_get_read xs (length xs) j x refl (omega arith) (sym (sym (get_or-take k xs j x less) ∙ get_or_from_slice_get (take k xs) j x x e)))

of_front : {A : Type 0} (xs : List A) (k j : ℕ) (x : A) → k ≤ length xs → j < k → slice_get xs j ≡ Some x → slice_get (take k xs) j ≡ Some x
of_front xs k j x h less e =
    let long = length-take-le k xs h in
    slice_get_read (take k xs) k j x (sym long) less (sym (get_or-take k xs j x less ∙ get_or_from_slice_get xs j x x e))

at_most : {m n : ℕ} → m < n → m ≤ n
at_most h = omega arith

wrong_of : (program : List plain.Item) (b : Broken) → HasWrong (ports program) b → HasWrongPort program b
wrong_of program b h = wrong_port (record { «at» = h.place; port = h.port; there = h.there; wrong = by h.last.wrong; place = ap (λ (x : Broken). x.pos) h.last.is }) (ap (λ (x : Broken). x.rule) h.last.is)
  where
    by : IsWrong (take h.place (ports program)) h.port → (Contains identifiers h.port.ident.text → ⊥) ⊎ IsUsedAgain program h.place h.port
    by (unnamed x) = inl x
    by (doubled core e c) =
        let f = in_front (ports program) h.place c.place c.port (at_most (slice_get_within (ports program) h.place h.port h.there)) c.there in
        inr (record { other = c.place; earlier = f.0; port_before = c.port; there = f.1; one_identifier = c.identifier; core = core; its_core = e; one_core = c.its_core })

of_wrong : (program : List plain.Item) (b : Broken) → HasWrongPort program b → HasWrong (ports program) b
of_wrong program b (wrong_port x e) = record { place = x.«at»; port = x.port; there = x.there; last = record { wrong = by x.wrong; is = λ j. record { rule = e j; pos = x.place j } } }
  where
    by : (Contains identifiers x.port.ident.text → ⊥) ⊎ IsUsedAgain program x.«at» x.port → IsWrong (take x.«at» (ports program)) x.port
    by (inl h) = unnamed h
    by (inr u) = doubled u.core u.its_core (record { place = u.other; port = u.port_before; there = of_front (ports program) x.«at» u.other u.port_before (at_most (slice_get_within (ports program) x.«at» x.port x.there)) u.earlier u.there; identifier = u.one_identifier; its_core = u.one_core })

pub all_seen : (program : List plain.Item) (k : ℕ) (taken : List ℕ → ℕ → Bool) (best : Option Broken) → length program ≤ k → PortsSoFar program k taken best → IsLeastOf (HasWrongPort program) best
all_seen program k taken best h s =
    of_same (HasWrong (ports program)) (HasWrongPort program) best (wrong_of program) (of_wrong program)
    (subst (λ (is : List plain.Item). IsLeastOf (HasWrong (ports is)) best) (take_all k program h) s.least)
