-- Where the functions of a program are declared, and which of them a called name means.
use Rattle.std.proofs.Common.{◌≡◌, ℕ, zero, suc, ◌+◌, ◌<◌, ◌⊎◌, inl, inr, Bool, true, false, bytes_eq, List, [], ◌∷◌, ◌++◌, length, take, drop, slice_get, None, Some, refl, sym, ap, subst, ◌∙◌, arith, append_assoc, append-nil, length-append, add-zero}
use Rattle.std.proofs.Math.Nat.{eq-or-lt_of_le}
use Rattle.std.proofs.lemmas.Option.{none-some}
use Rattle.xw_words.proofs.Lists.{at_front, drop_front, in_one, some_same}
use Rattle.xc_tree.specs.declared.names.Decl.{Decl}
use Rattle.xc_tree.specs.declared.names.What.TheVariants as what
use Rattle.xc_tree.specs.declared.names.Mark.{Mark}
use Rattle.xc_tree.specs.declared.names.Mark.TheVariants.{Opens, Closes, Declares, Uses, Calls}
use Rattle.xc_tree.specs.Plain as plain
use Rattle.xc_tree.specs.Names.Marks.{of_item, of_items, in_scope, each, of_param, of_body, declares, of_place as marks_of_place}
use Rattle.xc_tree.specs.Names.Scopes.{to_end, end_of, DeclaresAt, IsWithin, Means}
use Rattle.xc_tree.specs.Names.Rules.{Breaks302}
use Rattle.xc_tree.specs.Names.Calls.{first_of}
use Rattle.xc_kernel.specs.Programs.{Function, functions, function_named, function_by}
use Rattle.xc_meaning.proofs.Recursion.Scopes.{is_function, Inner, nothing, used, called, declared, scope, both, maybe, of_place, of_function, to_end_past}

-- no function is declared inside one
no_function : (ms : List Mark) → Inner ms → (u : ℕ) (d : Decl) → slice_get ms u ≡ Some (Declares d) → is_function d.what ≡ None
no_function [] a u d e = absurd (none-some _ e)
no_function (Uses n ∷ ms) a zero d e = absurd (cc)
no_function (Uses n ∷ ms) (used a) (suc u) d e = no_function ms a u d e
no_function (Calls n ∷ ms) a zero d e = absurd (cc)
no_function (Calls n ∷ ms) (called a) (suc u) d e = no_function ms a u d e
no_function (Declares c ∷ ms) (declared h a) zero d e = let g : c ≡ d = cc in ap (λ (x : Decl). is_function x.what) (sym g) ∙ h
no_function (Declares c ∷ ms) (declared h a) (suc u) d e = no_function ms a u d e
no_function (Closes ∷ ms) a u d e = elim a [ ]
no_function (Opens ∷ ks) a zero d e = absurd (cc)
no_function (Opens ∷ ks) (scope {ms = ms} {rest = rest} a c) (suc u) d e = by (in_one ms (Closes ∷ rest) u (Declares d) e) (no_function ms a) (no_function rest c)
  where
    behind : (v : ℕ) → slice_get (Closes ∷ rest) v ≡ Some (Declares d) → ((w : ℕ) (x : Decl) → slice_get rest w ≡ Some (Declares x) → is_function x.what ≡ None) → is_function d.what ≡ None
    behind zero g k = absurd (cc)
    behind (suc v) g k = k v d g

    by : (slice_get ms u ≡ Some (Declares d)) ⊎ ((v : ℕ) × (u ≡ length ms + v) × (slice_get (Closes ∷ rest) v ≡ Some (Declares d))) → ((w : ℕ) (x : Decl) → slice_get ms w ≡ Some (Declares x) → is_function x.what ≡ None) → ((w : ℕ) (x : Decl) → slice_get rest w ≡ Some (Declares x) → is_function x.what ≡ None) → is_function d.what ≡ None
    by (inl g) h k = h u d g
    by (inr (v, q, g)) h k = behind v g k

port_inner : (i : ℕ) (p : plain.Port) → Inner (of_item i (plain.port p))
port_inner i p = both _ _ (maybe marks_of_place of_place p.place) (declared refl nothing)

-- the scope of the program goes on behind each item
item_end : (i : ℕ) (item : plain.Item) (rest : List Mark) → to_end 0 (of_item i item ++ rest) ≡ length (of_item i item) + to_end 0 rest
item_end i (plain.port p) rest = to_end_past (of_item i (plain.port p)) (port_inner i p) 0 rest
item_end i (plain.function h b) rest = let e = to_end_past (in_scope (each of_param h.params ++ of_body b)) (of_function h b) 0 rest in omega arith

items_end : (k : ℕ) (is : List plain.Item) → to_end 0 (of_items k is) ≡ length (of_items k is)
items_end k [] = refl
items_end k (i ∷ is) =
    let a = item_end k i (of_items (k + 1) is) in
    let b = items_end (k + 1) is in
    let c : length (of_item k i ++ of_items (k + 1) is) ≡ length (of_item k i) + length (of_items (k + 1) is) = length-append (of_item k i) (of_items (k + 1) is) in
    omega arith

-- the marks of an item stand behind those of the items before
pub item_stands : (k : ℕ) (is : List plain.Item) (j : ℕ) (item : plain.Item) → slice_get is j ≡ Some item → of_items k is ≡ of_items k (take j is) ++ (of_item (k + j) item ++ of_items (k + j + 1) (drop (suc j) is))
item_stands k [] j item e = absurd (none-some item e)
item_stands k (i ∷ is) zero item e =
    let g : i ≡ item = cc in
    ap (λ (x : plain.Item). of_item k x ++ of_items (k + 1) is) g ∙ ap (λ (n : ℕ). of_item n item ++ of_items (n + 1) is) (sym (add-zero k))
item_stands k (i ∷ is) (suc j) item e =
    ap (λ (ms : List Mark). of_item k i ++ ms) (item_stands (k + 1) is j item e)
    ∙ ap (λ (n : ℕ). of_item k i ++ (of_items (k + 1) (take j is) ++ (of_item n item ++ of_items (n + 1) (drop (suc j) is)))) place
    ∙ sym (append_assoc (of_item k i) (of_items (k + 1) (take j is)) _)
  where
    place : (k + 1) + j ≡ k + suc j
    place = omega arith

pub item_next : (k : ℕ) (is : List plain.Item) (j : ℕ) (item : plain.Item) → slice_get is j ≡ Some item → of_items k (take (suc j) is) ≡ of_items k (take j is) ++ of_item (k + j) item
item_next k [] j item e = absurd (none-some item e)
item_next k (i ∷ is) zero item e =
    let g : i ≡ item = cc in
    append-nil (of_item k i) ∙ ap (λ (x : plain.Item). of_item k x) g ∙ ap (λ (n : ℕ). of_item n item) (sym (add-zero k))
item_next k (i ∷ is) (suc j) item e =
    ap (λ (ms : List Mark). of_item k i ++ ms) (item_next (k + 1) is j item e)
    ∙ ap (λ (n : ℕ). of_item k i ++ (of_items (k + 1) (take j is) ++ of_item n item)) place
    ∙ sym (append_assoc (of_item k i) (of_items (k + 1) (take j is)) _)
  where
    place : (k + 1) + j ≡ k + suc j
    place = omega arith

-- a function is declared where its item begins
pub record Declared (k : ℕ) (is : List plain.Item) (d g : ℕ) : Type 0 where
  pub item : ℕ
  pub head : plain.Head
  pub body : plain.Statement
  pub there : slice_get is item ≡ Some (plain.function head body)
  pub place : d ≡ length (of_items k (take item is))
  pub number : g ≡ k + item

pub declared_at : (k : ℕ) (is : List plain.Item) (d : ℕ) (decl : Decl) (g : ℕ) → slice_get (of_items k is) d ≡ Some (Declares decl) → is_function decl.what ≡ Some g → Declared k is d g
declared_at k [] d decl g e f = absurd (none-some _ e)
declared_at k (i ∷ is) d decl g e f = by (in_one (of_item k i) (of_items (k + 1) is) d (Declares decl) e) (declared_at (k + 1) is)
  where
    declares_same : (a c : Decl) → Some (Declares a) ≡ Some (Declares c) → a ≡ c
    declares_same a c q = cc

    own_number : (h : plain.Head) → Some (declares h.name (what.Func k)) ≡ Some (Declares decl) → g ≡ k + 0
    own_number h q =
        let same : Some k ≡ Some g = ap (λ (x : Decl). is_function x.what) (declares_same (record { name = h.name; what = what.Func k }) decl q) ∙ f in
        sym (some_same k g same) ∙ sym (add-zero k)

    in_first : (i : plain.Item) (d : ℕ) → slice_get (of_item k i) d ≡ Some (Declares decl) → Declared k (i ∷ is) d g
    in_first (plain.port p) d q = absurd (none-some g (sym (no_function _ (port_inner k p) d decl q) ∙ f))
    in_first (plain.function h b) zero q = record { item = 0; head = h; body = b; there = refl; place = refl; number = own_number h q }
    in_first (plain.function h b) (suc d) q = absurd (none-some g (sym (no_function _ (of_function h b) d decl q) ∙ f))

    by : (slice_get (of_item k i) d ≡ Some (Declares decl)) ⊎ ((v : ℕ) × (d ≡ length (of_item k i) + v) × (slice_get (of_items (k + 1) is) v ≡ Some (Declares decl))) → ((v : ℕ) (x : Decl) (y : ℕ) → slice_get (of_items (k + 1) is) v ≡ Some (Declares x) → is_function x.what ≡ Some y → Declared (k + 1) is v y) → Declared k (i ∷ is) d g
    by (inl q) more = in_first i d q
    by (inr (v, q, r)) more =
        let a = more v decl g r f in
        let long : length (of_item k i ++ of_items (k + 1) (take a.item is)) ≡ length (of_item k i) + length (of_items (k + 1) (take a.item is)) = length-append (of_item k i) (of_items (k + 1) (take a.item is)) in
        record { item = suc a.item; head = a.head; body = a.body; there = a.there; place = let p = a.place in omega arith; number = let q = a.number in omega arith }

module _ (P : List plain.Item) where
  -- the name of a function is known up to the end of the program
  whole_text : (j : ℕ) (item : plain.Item) → slice_get P j ≡ Some item → end_of (of_items 0 P) (first_of P j) ≡ length (of_items 0 P)
  whole_text j item e =
      let before = of_items 0 (take j P) in
      let rest = of_item (0 + j) item ++ of_items (0 + j + 1) (drop (suc j) P) in
      let stands : of_items 0 P ≡ before ++ rest = item_stands 0 P j item e in
      let left : drop (first_of P j) (of_items 0 P) ≡ rest = ap (drop (first_of P j)) stands ∙ drop_front before rest in
      let a = item_end (0 + j) item (of_items (0 + j + 1) (drop (suc j) P)) in
      let b = items_end (0 + j + 1) (drop (suc j) P) in
      let c : length rest ≡ length (of_item (0 + j) item) + length (of_items (0 + j + 1) (drop (suc j) P)) = length-append (of_item (0 + j) item) (of_items (0 + j + 1) (drop (suc j) P)) in
      let long : length (of_items 0 P) ≡ length before + length rest = ap length stands ∙ length-append before rest in
      let f : to_end 0 (drop (first_of P j) (of_items 0 P)) ≡ to_end 0 rest = ap (to_end 0) left in
      omega arith

  its_mark : (j : ℕ) (h : plain.Head) (b : plain.Statement) → slice_get P j ≡ Some (plain.function h b) → slice_get (of_items 0 P) (first_of P j) ≡ Some (declares h.name (what.Func j))
  its_mark j h b e =
      ap (λ (ms : List Mark). slice_get ms (first_of P j)) (item_stands 0 P j (plain.function h b) e)
      ∙ at_front (of_items 0 (take j P)) _ _
      ∙ ap (λ (n : ℕ). Some (declares h.name (what.Func n))) (none_before j)
    where
      none_before : (n : ℕ) → 0 + n ≡ n
      none_before n = omega arith

  -- a called name that means a function means the one of that name
  pub callee_is : ((p : _) → Breaks302 (of_items 0 P) p → ⊥) → (u : ℕ) (t : List ℕ) (d : ℕ) → Means (of_items 0 P) u t d → (decl : Decl) → slice_get (of_items 0 P) d ≡ Some (Declares decl) → (g : ℕ) → decl.what ≡ what.Func g → (j : ℕ) (h : plain.Head) (b : plain.Statement) → slice_get P j ≡ Some (plain.function h b) → h.name.text ≡ t → g ≡ j
  callee_is once u t d m decl there g f j h b at_j spelled =
      let here = declared_at 0 P d decl g there (ap is_function f) in
      let own : end_of (of_items 0 P) d ≡ length (of_items 0 P) = ap (end_of (of_items 0 P)) here.place ∙ whole_text here.item _ here.there in
      let its : end_of (of_items 0 P) (first_of P j) ≡ length (of_items 0 P) = whole_text j _ at_j in
      let open_still = m.known.open_still in
      let within = m.innermost (first_of P j) (record { decl = record { name = h.name; what = what.Func j }; there = its_mark j h b at_j; spelled = spelled }) (record { begun = inr its; open_still = omega arith }) in
      let same : d ≡ first_of P j = first within own its in
      func_same g j (sym f ∙ ap (λ (x : Decl). x.what) (declares_same decl (record { name = h.name; what = what.Func j }) (some_same _ _ (sym there ∙ ap (slice_get (of_items 0 P)) same ∙ its_mark j h b at_j))))
    where
      declares_same : (a c : Decl) → Declares a ≡ Declares c → a ≡ c
      declares_same a c e = cc

      func_same : (a c : ℕ) → what.Func a ≡ what.Func c → a ≡ c
      func_same a c e = cc

      first : IsWithin (of_items 0 P) d (first_of P j) → end_of (of_items 0 P) d ≡ length (of_items 0 P) → end_of (of_items 0 P) (first_of P j) ≡ length (of_items 0 P) → d ≡ first_of P j
      first (inl x) own its = absurd (omega arith)
      first (inr (x, y)) own its = by (eq-or-lt_of_le y)
        where
          by : (d ≡ first_of P j) ⊎ (d < first_of P j) → d ≡ first_of P j
          by (inl e) = e
          by (inr less) = absurd (once h.name.pos (record { first = d; second = first_of P j; decl = record { name = h.name; what = what.Func j }; again = its_mark j h b at_j; before = subst (DeclaresAt (of_items 0 P) d) (sym spelled) m.declared; earlier = less; one_scope = own ∙ sym its; place = refl }))

-- the function of a name is an item of the program
pub record Named (P : List plain.Item) (t : List ℕ) (f : Function) : Type 0 where
  pub item : ℕ
  pub there : slice_get P item ≡ Some (plain.function f.head f.body)
  pub spelled : bytes_eq f.head.name.text t ≡ true

pub named : (P : List plain.Item) (t : List ℕ) (f : Function) → function_named (functions P) t ≡ Some f → Named P t f
named [] t f e = absurd (none-some f e)
named (plain.port p ∷ P) t f e = let a = named P t f e in record { item = suc a.item; there = a.there; spelled = a.spelled }
named (plain.function h b ∷ P) t f e = by (bytes_eq h.name.text t) refl e (named P t)
  where
    own : Function
    own = record { head = h; body = b }

    by : (r : Bool) → bytes_eq h.name.text t ≡ r → function_by r (record { head = h; body = b }) (function_named (functions P) t) ≡ Some f → ((g : Function) → function_named (functions P) t ≡ Some g → Named P t g) → Named (plain.function h b ∷ P) t f
    by true q x more =
        let s : record { head = h; body = b } ≡ f = some_same _ _ x in
        subst (λ (g : Function). Named (plain.function h b ∷ P) t g) s (record { item = 0; there = refl; spelled = q })
    by false q x more = let a = more f x in record { item = suc a.item; there = a.there; spelled = a.spelled }
