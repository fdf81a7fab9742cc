-- Each name of a typed program means what the stack of open scopes has for it.
use Rattle.std.proofs.Common.{◌≡◌, ℕ, zero, suc, ◌+◌, ◌<◌, ◌≤◌, ◌⊎◌, inl, inr, Bool, true, false, List, [], ◌∷◌, ◌++◌, length, take, drop, slice_get, bytes_eq, Option, Some, refl, sym, ap, subst, ◌∙◌, true≢false, arith, append_assoc, length-append, add-zero}
use Rattle.std.proofs.Math.Nat.{eq-or-lt_of_le}
use Rattle.std.proofs.lemmas.Option.{slice_get_within, none-some}
use Rattle.std.proofs.lemmas.Slice.Eq.{bytes_eq-Decides}
use Rattle.xw_words.proofs.Lists.{some_same}
use Rattle.xw_words.specs.declared.pos.Pos.{Pos}
use Rattle.xc_tree.specs.declared.tree.Id.{Id}
use Rattle.xc_tree.specs.declared.names.Decl.{Decl}
use Rattle.xc_tree.specs.declared.names.Mark.{Mark}
use Rattle.xc_tree.specs.declared.names.Mark.TheVariants.{Opens, Closes, Declares, Uses, Calls}
use Rattle.xc_tree.specs.Plain as plain
use Rattle.xc_tree.specs.Names.Marks as marks
use Rattle.xc_tree.specs.Names.Scopes.{to_end, end_of, IsKnown, IsWithin, Means}
use Rattle.xc_tree.specs.Names.Rules as names
use Rattle.xc_tree.specs.Names.Uses.{Entries, AreUses, IsUse, none, past_begin, past_end, declared, used, declarations, number_of}
use Rattle.xc_tree.specs.Types.Named.{NamedProgram, past}
use Rattle.xc_kernel.specs.Sound.{IsTyped}
use Rattle.xc_wellformed.specs.Stacks.{declared_at, Frame, Stack, decl_by, found_in, found, IsUndeclared, IsNew, Resolves, outer}
use Rattle.xc_meaning.proofs.Recursion.Scopes as scopes
use Rattle.xc_meaning.proofs.Recursion.Scopes.{Inner, to_end_past}
use Rattle.xc_meaning.proofs.Recursion.Uses.{past_both, one_further, numbered, Entry, below_or_at, at_end, longer, next}

-- Marks that close so many scopes that were open before.
abbrev Closing : ℕ → List Mark → Type 0
Closing k [] = k ≡ 0
Closing k (Opens ∷ ms) = Closing (suc k) ms
Closing zero (Closes ∷ ms) = ⊥
Closing (suc k) (Closes ∷ ms) = Closing k ms
Closing k (Declares d ∷ ms) = Closing k ms
Closing k (Uses i ∷ ms) = Closing k ms
Closing k (Calls i ∷ ms) = Closing k ms

closing_before : (ms : List Mark) → Inner ms → (k : ℕ) (rest : List Mark) → Closing k rest → Closing k (ms ++ rest)
closing_before [] scopes.nothing k rest c = c
closing_before (Uses n ∷ ms) (scopes.used a) k rest c = closing_before ms a k rest c
closing_before (Calls n ∷ ms) (scopes.called a) k rest c = closing_before ms a k rest c
closing_before (Declares d ∷ ms) (scopes.declared h a) k rest c = closing_before ms a k rest c
closing_before (Closes ∷ ms) a k rest c = elim a [ ]
closing_before (Opens ∷ ks) (scopes.scope {ms = ms} {rest = more} a b) k rest c =
    subst (λ (xs : List Mark). Closing (suc k) xs) (sym (append_assoc ms (Closes ∷ more) rest)) (closing_before ms a (suc k) (Closes ∷ (more ++ rest)) (closing_before more b k rest c))

-- the ends of open scopes differ
ends_differ : (ms : List Mark) (k i j : ℕ) → Closing k ms → i < j → j ≤ k → to_end i ms < to_end j ms
ends_differ [] k i j c h g = absurd (omega arith)
ends_differ (Opens ∷ ms) k i j c h g = let r = ends_differ ms (suc k) (suc i) (suc j) c (omega arith) (omega arith) in omega arith
ends_differ (Closes ∷ ms) zero i j c h g = absurd c
ends_differ (Closes ∷ ms) (suc k) zero zero c h g = absurd (omega arith)
ends_differ (Closes ∷ ms) (suc k) zero (suc j) c h g = omega arith
ends_differ (Closes ∷ ms) (suc k) (suc i) zero c h g = absurd (omega arith)
ends_differ (Closes ∷ ms) (suc k) (suc i) (suc j) c h g = let r = ends_differ ms k i j c (omega arith) (omega arith) in omega arith
ends_differ (Declares d ∷ ms) k i j c h g = let r = ends_differ ms k i j c h g in omega arith
ends_differ (Uses d ∷ ms) k i j c h g = let r = ends_differ ms k i j c h g in omega arith
ends_differ (Calls d ∷ ms) k i j c h g = let r = ends_differ ms k i j c h g in omega arith

-- the text ends last
last_end : (ms : List Mark) (k : ℕ) → Closing k ms → to_end k ms ≡ length ms
last_end [] k c = refl
last_end (Opens ∷ ms) k c = ap suc (last_end ms (suc k) c)
last_end (Closes ∷ ms) zero c = absurd c
last_end (Closes ∷ ms) (suc k) c = ap suc (last_end ms k c)
last_end (Declares d ∷ ms) k c = ap suc (last_end ms k c)
last_end (Uses d ∷ ms) k c = ap suc (last_end ms k c)
last_end (Calls d ∷ ms) k c = ap suc (last_end ms k c)

dropped : {A : Type 0} (xs : List A) (v : ℕ) (x : A) (ys : List A) → drop v xs ≡ x ∷ ys → (slice_get xs v ≡ Some x) × (drop (suc v) xs ≡ ys)
dropped {A = A} [] zero x ys e = absurd (none_more x ys e)
  where
    none_more : (y : A) (zs : List A) → [] ≡ y ∷ zs → ⊥
    none_more y zs q = cc
dropped {A = A} [] (suc v) x ys e = absurd (none_more x ys e)
  where
    none_more : (y : A) (zs : List A) → [] ≡ y ∷ zs → ⊥
    none_more y zs q = cc
dropped (y ∷ xs) zero x ys e = (cc, cc)
dropped (y ∷ xs) (suc v) x ys e = dropped xs v x ys e

drop_long : {A : Type 0} (xs : List A) (v : ℕ) (x : A) (ys : List A) → drop v xs ≡ x ∷ ys → v + suc (length ys) ≡ length xs
drop_long {A = A} [] zero x ys e = absurd (none_more x ys e)
  where
    none_more : (y : A) (zs : List A) → [] ≡ y ∷ zs → ⊥
    none_more y zs q = cc
drop_long {A = A} [] (suc v) x ys e = absurd (none_more x ys e)
  where
    none_more : (y : A) (zs : List A) → [] ≡ y ∷ zs → ⊥
    none_more y zs q = cc
drop_long {A = A} (y ∷ xs) zero x ys e = let q = ap length (tails y x xs ys e) in omega arith
  where
    tails : (a b : A) (cs bs : List A) → a ∷ cs ≡ b ∷ bs → cs ≡ bs
    tails a b cs bs q = cc
drop_long (y ∷ xs) (suc v) x ys e = let q = drop_long xs v x ys e in omega arith

-- none of these is spelled so
abbrev pub NotNamed : List ℕ → List Decl → Type 0
NotNamed t [] = Unit {0}
NotNamed t (x ∷ xs) = (bytes_eq x.name.text t ≡ false) × NotNamed t xs

-- no two are spelled alike
abbrev pub AllNew : List Decl → Type 0
AllNew [] = Unit {0}
AllNew (x ∷ xs) = NotNamed x.name.text xs × AllNew xs

abbrev Among : Decl → List Decl → Type 0
Among d [] = ⊥
Among d (x ∷ xs) = (x ≡ d) ⊎ Among d xs

module _ (all : List Mark) where
  -- a declaration that counts at a place: it stands before it, or its scope is the program
  abbrev Seen : ℕ → ℕ → Type 0
  Seen v d = (d < v) ⊎ (end_of all d ≡ length all)

  seen_on : (v d : ℕ) → Seen v d → Seen (suc v) d
  seen_on v d (inl h) = inl (omega arith)
  seen_on v d (inr h) = inr h

  seen_before : (v d : ℕ) → Seen (suc v) d → Seen v d ⊎ (d ≡ v)
  seen_before v d (inr h) = inl (inr h)
  seen_before v d (inl h) = by (eq-or-lt_of_le (less d v h))
    where
      less : (m n : ℕ) → m < suc n → m ≤ n
      less m n g = omega arith

      by : (d ≡ v) ⊎ (d < v) → Seen v d ⊎ (d ≡ v)
      by (inl g) = inr g
      by (inr g) = inl (inl g)

  -- a declaration of the scope that ends at e
  record IsThere (v e : ℕ) (x : Decl) : Type 0 where
    pub place : ℕ
    pub there : slice_get all place ≡ Some (Declares x)
    pub ends : end_of all place ≡ e
    pub seen : Seen v place

  abbrev Held : ℕ → ℕ → Frame → Type 0
  Held v e [] = Unit {0}
  Held v e (x ∷ f) = IsThere v e x × Held v e f

  held_on : (v e g : ℕ) (f : Frame) → e ≡ g → Held v e f → Held (suc v) g f
  held_on v e g [] q h = tt
  held_on v e g (x ∷ f) q h = (record { place = h.0.place; there = h.0.there; ends = h.0.ends ∙ q; seen = seen_on v h.0.place h.0.seen }, held_on v e g f q h.1)

  -- each frame has declarations of its scope alone
  abbrev Levels : ℕ → (ℕ → ℕ) → Stack → Type 0
  Levels v ends [] = Unit {0}
  Levels v ends (f ∷ st) = Held v (ends 0) f × Levels v (λ i. ends (suc i)) st

  levels_on : (v : ℕ) (ends others : ℕ → ℕ) (st : Stack) → ((i : ℕ) → ends i ≡ others i) → Levels v ends st → Levels (suc v) others st
  levels_on v ends others [] q h = tt
  levels_on v ends others (f ∷ st) q h = (held_on v (ends 0) (others 0) f (q 0) h.0, levels_on v (λ i. ends (suc i)) (λ i. others (suc i)) st (λ i. q (suc i)) h.1)

  -- a declaration is in the frame of its scope
  record IsIn (at_level : ℕ → ℕ) (st : Stack) (d : ℕ) (decl : Decl) : Type 0 where
    pub level : ℕ
    pub frame : Frame
    pub there : slice_get st level ≡ Some frame
    pub among : Among decl frame
    pub ends : end_of all d ≡ at_level level

  abbrev Complete : ℕ → (ℕ → ℕ) → Stack → Type 0
  Complete v ends st = (d : ℕ) (decl : Decl) → slice_get all d ≡ Some (Declares decl) → Seen v d → v ≤ end_of all d → IsIn ends st d decl

  module _ (once : (p : Pos) → names.Breaks302 all p → ⊥) where
    -- two declarations of one spelling in one scope are one
    earlier_none : (d p : ℕ) (x y : Decl) → slice_get all d ≡ Some (Declares x) → slice_get all p ≡ Some (Declares y) → x.name.text ≡ y.name.text → end_of all d ≡ end_of all p → d < p → ⊥
    earlier_none d p x y at_d at_p spelled ends less =
        once y.name.pos (record { first = d; second = p; decl = y; again = at_p; before = record { decl = x; there = at_d; spelled = spelled }; earlier = less; one_scope = ends; place = refl })

    one_place : (d p : ℕ) (x y : Decl) → slice_get all d ≡ Some (Declares x) → slice_get all p ≡ Some (Declares y) → x.name.text ≡ y.name.text → end_of all d ≡ end_of all p → d ≡ p
    one_place d p x y at_d at_p spelled ends = by (three d p)
      where
        three : (a b : ℕ) → (a < b) ⊎ ((b < a) ⊎ (a ≡ b))
        three zero zero = inr (inr refl)
        three zero (suc b) = inl (omega arith)
        three (suc a) zero = inr (inl (omega arith))
        three (suc a) (suc b) = up (three a b)
          where
            up : (a < b) ⊎ ((b < a) ⊎ (a ≡ b)) → (suc a < suc b) ⊎ ((suc b < suc a) ⊎ (suc a ≡ suc b))
            up (inl h) = inl (omega arith)
            up (inr (inl h)) = inr (inl (omega arith))
            up (inr (inr h)) = inr (inr (ap suc h))

        by : (d < p) ⊎ ((p < d) ⊎ (d ≡ p)) → d ≡ p
        by (inl h) = absurd (earlier_none d p x y at_d at_p spelled ends h)
        by (inr (inl h)) = absurd (earlier_none p d y x at_p at_d (sym spelled) (sym ends) h)
        by (inr (inr h)) = h

    one_decl : (d p : ℕ) (x y : Decl) → slice_get all d ≡ Some (Declares x) → slice_get all p ≡ Some (Declares y) → d ≡ p → x ≡ y
    one_decl d p x y at_d at_p e = declares_same x y (some_same (Declares x) (Declares y) (sym at_d ∙ ap (slice_get all) e ∙ at_p))
      where
        declares_same : (a b : Decl) → Declares a ≡ Declares b → a ≡ b
        declares_same a b q = cc

    shift_on : (v l w : ℕ) → v + suc l ≡ w → suc v + l ≡ w
    shift_on v l w e = omega arith

    fresh_in : (x : Decl) (v : ℕ) (f : Frame) (e : ℕ) → slice_get all v ≡ Some (Declares x) → end_of all v ≡ e → e < length all → Held v e f → IsUndeclared x.name.text f
    fresh_in x v [] e at_v own inner h = tt
    fresh_in x v (y ∷ f) e at_v own inner h = (by (bytes_eq y.name.text x.name.text) refl h.0.seen, fresh_in x v f e at_v own inner h.1)
      where
        by : (b : Bool) → bytes_eq y.name.text x.name.text ≡ b → Seen v h.0.place → b ≡ false
        by false q s = refl
        by true q (inr g) = let a = h.0.ends in absurd (omega arith)
        by true q (inl g) = absurd (earlier_none h.0.place v y x h.0.there at_v ((bytes_eq-Decides y.name.text x.name.text).0 q) (h.0.ends ∙ sym own) g)

    is_new : (x : Decl) (ms : List Mark) (v j : ℕ) (f : Frame) (st : Stack) → drop v all ≡ Declares x ∷ ms → Closing j ms → suc (length st) ≡ suc j → Levels v (λ l. v + to_end l (Declares x ∷ ms)) (f ∷ st) → IsNew x.name.text (f ∷ st)
    is_new x ms v j f [] e c long h = tt
    is_new x ms v j f (g ∷ st) e c long h =
        let a = ends_differ ms j 0 j c (omega arith) (omega arith) in
        let l = last_end ms j c in
        let d = drop_long all v (Declares x) ms e in
        fresh_in x v f (v + to_end 0 (Declares x ∷ ms)) (dropped all v (Declares x) ms e).0 (ap (λ (xs : List Mark). v + to_end 0 xs) e) (omega arith) h.0

    -- names that are declared outside of functions differ
    outer_fresh : (ms : List Mark) (v j : ℕ) → drop v all ≡ ms → v + length ms ≡ length all → Closing j ms → (d : ℕ) (y : Decl) → slice_get all d ≡ Some (Declares y) → end_of all d ≡ length all → d < v → NotNamed y.name.text (outer j ms)
    outer_fresh [] v j e long c d y at_d ends less = tt
    outer_fresh (Opens ∷ ms) v j e long c d y at_d ends less = outer_fresh ms (suc v) (suc j) (dropped all v Opens ms e).1 (shift_on v (length ms) (length all) long) c d y at_d ends (omega arith)
    outer_fresh (Closes ∷ ms) v zero e long c d y at_d ends less = absurd c
    outer_fresh (Closes ∷ ms) v (suc j) e long c d y at_d ends less = outer_fresh ms (suc v) j (dropped all v Closes ms e).1 (shift_on v (length ms) (length all) long) c d y at_d ends (omega arith)
    outer_fresh (Declares x ∷ ms) v zero e long c d y at_d ends less =
        let k = dropped all v (Declares x) ms e in
        let own : end_of all v ≡ length all = ap (λ (xs : List Mark). v + to_end 0 xs) e ∙ ap (λ (l : ℕ). v + suc l) (last_end ms 0 c) ∙ long in
        (by k.0 own (bytes_eq x.name.text y.name.text) refl, outer_fresh ms (suc v) zero k.1 (shift_on v (length ms) (length all) long) c d y at_d ends (omega arith))
      where
        by : slice_get all v ≡ Some (Declares x) → end_of all v ≡ length all → (b : Bool) → bytes_eq x.name.text y.name.text ≡ b → b ≡ false
        by at_v own false q = refl
        by at_v own true q = absurd (earlier_none d v y x at_d at_v (sym ((bytes_eq-Decides x.name.text y.name.text).0 q)) (ends ∙ sym own) less)
    outer_fresh (Declares x ∷ ms) v (suc j) e long c d y at_d ends less = outer_fresh ms (suc v) (suc j) (dropped all v (Declares x) ms e).1 (shift_on v (length ms) (length all) long) c d y at_d ends (omega arith)
    outer_fresh (Uses i ∷ ms) v j e long c d y at_d ends less = outer_fresh ms (suc v) j (dropped all v (Uses i) ms e).1 (shift_on v (length ms) (length all) long) c d y at_d ends (omega arith)
    outer_fresh (Calls i ∷ ms) v j e long c d y at_d ends less = outer_fresh ms (suc v) j (dropped all v (Calls i) ms e).1 (shift_on v (length ms) (length all) long) c d y at_d ends (omega arith)

    outer_new : (ms : List Mark) (v j : ℕ) → drop v all ≡ ms → v + length ms ≡ length all → Closing j ms → AllNew (outer j ms)
    outer_new [] v j e long c = tt
    outer_new (Opens ∷ ms) v j e long c = outer_new ms (suc v) (suc j) (dropped all v Opens ms e).1 (shift_on v (length ms) (length all) long) c
    outer_new (Closes ∷ ms) v zero e long c = absurd c
    outer_new (Closes ∷ ms) v (suc j) e long c = outer_new ms (suc v) j (dropped all v Closes ms e).1 (shift_on v (length ms) (length all) long) c
    outer_new (Declares x ∷ ms) v zero e long c =
        let k = dropped all v (Declares x) ms e in
        let own : end_of all v ≡ length all = ap (λ (xs : List Mark). v + to_end 0 xs) e ∙ ap (λ (l : ℕ). v + suc l) (last_end ms 0 c) ∙ long in
        (outer_fresh ms (suc v) zero k.1 (shift_on v (length ms) (length all) long) c v x k.0 own (omega arith), outer_new ms (suc v) zero k.1 (shift_on v (length ms) (length all) long) c)
    outer_new (Declares x ∷ ms) v (suc j) e long c = outer_new ms (suc v) (suc j) (dropped all v (Declares x) ms e).1 (shift_on v (length ms) (length all) long) c
    outer_new (Uses i ∷ ms) v j e long c = outer_new ms (suc v) j (dropped all v (Uses i) ms e).1 (shift_on v (length ms) (length all) long) c
    outer_new (Calls i ∷ ms) v j e long c = outer_new ms (suc v) j (dropped all v (Calls i) ms e).1 (shift_on v (length ms) (length all) long) c

    -- at a name the stack has what the name means
    module _ (v : ℕ) (t : List ℕ) (d : ℕ) (means : Means all v t d) where
      decl : Decl
      decl = means.declared.decl

      spelled_same : (x : Decl) → bytes_eq x.name.text t ≡ true → x.name.text ≡ t
      spelled_same x e = (bytes_eq-Decides x.name.text t).0 e

      spelled_test : (x : Decl) → x.name.text ≡ t → bytes_eq x.name.text t ≡ false → ⊥
      spelled_test x e f = true≢false (sym ((bytes_eq-Decides x.name.text t).1 e) ∙ f)

      -- in its own frame
      own_frame : (f : Frame) (e : ℕ) (outside : Option Decl) → Held v e f → end_of all d ≡ e → Among means.declared.decl f → found_in f t outside ≡ Some means.declared.decl
      own_frame [] e outside h q a = absurd a
      own_frame (x ∷ f) e outside h q a = by (bytes_eq x.name.text t) refl a (λ a. own_frame f e outside h.1 q a)
        where
          by : (b : Bool) → bytes_eq x.name.text t ≡ b → (x ≡ means.declared.decl) ⊎ Among means.declared.decl f → (Among means.declared.decl f → found_in f t outside ≡ Some means.declared.decl) → decl_by b x (found_in f t outside) ≡ Some means.declared.decl
          by true same a r = ap Some (one_decl h.0.place d x means.declared.decl h.0.there means.declared.there
              (one_place h.0.place d x means.declared.decl h.0.there means.declared.there (spelled_same x same ∙ sym means.declared.spelled) (h.0.ends ∙ sym q)))
          by false same (inl a) r = absurd (spelled_test x (ap (λ (y : Decl). y.name.text) a ∙ means.declared.spelled) same)
          by false same (inr a) r = r a

      -- a frame further in has none
      other_frame : (f : Frame) (e : ℕ) (outside : Option Decl) → Held v e f → v < e → e < end_of all d → found_in f t outside ≡ outside
      other_frame [] e outside h less inner = refl
      other_frame (x ∷ f) e outside h less inner = by (bytes_eq x.name.text t) refl (other_frame f e outside h.1 less inner)
        where
          known : Seen v h.0.place → IsKnown all h.0.place v
          known (inl g) = record { begun = inl (omega arith); open_still = let q = h.0.ends in omega arith }
          known (inr g) = record { begun = inr g; open_still = let q = h.0.ends in omega arith }

          not_within : IsWithin all d h.0.place → ⊥
          not_within (inl g) = let q = h.0.ends in omega arith
          not_within (inr g) = let q = h.0.ends in let r = g.0 in omega arith

          by : (b : Bool) → bytes_eq x.name.text t ≡ b → found_in f t outside ≡ outside → decl_by b x (found_in f t outside) ≡ outside
          by true same r = absurd (not_within (means.innermost h.0.place (record { decl = x; there = h.0.there; spelled = spelled_same x same }) (known h.0.seen)))
          by false same r = r

      find : (st : Stack) (ends : ℕ → ℕ) (level : ℕ) (frame : Frame) → Levels v ends st → slice_get st level ≡ Some frame → Among means.declared.decl frame → end_of all d ≡ ends level → ((i : ℕ) → i < level → v < ends i) → ((i : ℕ) → i < level → ends i < ends level) → found st t ≡ Some means.declared.decl
      find [] ends level frame h at_level a q open_still differ = absurd (none-some frame at_level)
      find (f ∷ st) ends zero frame h at_level a q open_still differ = own_frame f (ends 0) (found st t) h.0 q (subst (Among means.declared.decl) (sym (some_same f frame at_level)) a)
      find (f ∷ st) ends (suc level) frame h at_level a q open_still differ =
          other_frame f (ends 0) (found st t) h.0 (open_still 0 (omega arith)) (let g = differ 0 (omega arith) in omega arith)
          ∙ find st (λ i. ends (suc i)) level frame h.1 at_level a q (λ i less. open_still (suc i) (omega arith)) (λ i less. differ (suc i) (omega arith))

    -- one mark further

    complete_on : (v : ℕ) (m : Mark) (ends others : ℕ → ℕ) (st : Stack) → slice_get all v ≡ Some m → ((x : Decl) → m ≡ Declares x → ⊥) → ((i : ℕ) → ends i ≡ others i) → Complete v ends st → Complete (suc v) others st
    complete_on v m ends others st at_v other q c d x at_d s less = by (seen_before v d s)
      where
        by : Seen v d ⊎ (d ≡ v) → IsIn others st d x
        by (inl g) = let k = c d x at_d g (omega arith) in record { level = k.level; frame = k.frame; there = k.there; among = k.among; ends = k.ends ∙ q k.level }
        by (inr g) = absurd (other x (some_same m (Declares x) (sym at_v ∙ ap (slice_get all) (sym g) ∙ at_d)))

    complete_open : (v : ℕ) (ends others : ℕ → ℕ) (st : Stack) → slice_get all v ≡ Some Opens → ((i : ℕ) → ends i ≡ others (suc i)) → Complete v ends st → Complete (suc v) others ([] ∷ st)
    complete_open v ends others st at_v q c d x at_d s less = by (seen_before v d s)
      where
        by : Seen v d ⊎ (d ≡ v) → IsIn others ([] ∷ st) d x
        by (inl g) = let k = c d x at_d g (omega arith) in record { level = suc k.level; frame = k.frame; there = k.there; among = k.among; ends = k.ends ∙ q k.level }
        by (inr g) = let e : Opens ≡ Declares x = some_same Opens (Declares x) (sym at_v ∙ ap (slice_get all) (sym g) ∙ at_d) in absurd (cc)

    complete_close : (v : ℕ) (ends others : ℕ → ℕ) (f : Frame) (st : Stack) → slice_get all v ≡ Some Closes → ends 0 ≡ v → ((i : ℕ) → ends (suc i) ≡ others i) → Complete v ends (f ∷ st) → Complete (suc v) others st
    complete_close v ends others f st at_v here q c d x at_d s less = by (seen_before v d s)
      where
        level_of : (k : IsIn ends (f ∷ st) d x) (l : ℕ) → k.level ≡ l → IsIn others st d x
        level_of k zero e = let g = k.ends ∙ ap ends e ∙ here in absurd (omega arith)
        level_of k (suc l) e = record { level = l; frame = k.frame; there = ap (slice_get (f ∷ st)) (sym e) ∙ k.there; among = k.among; ends = k.ends ∙ ap ends e ∙ q l }

        by : Seen v d ⊎ (d ≡ v) → IsIn others st d x
        by (inl g) = let k = c d x at_d g (omega arith) in level_of k k.level refl
        by (inr g) = let e : Closes ≡ Declares x = some_same Closes (Declares x) (sym at_v ∙ ap (slice_get all) (sym g) ∙ at_d) in absurd (cc)

    complete_declared : (v : ℕ) (y : Decl) (ends others : ℕ → ℕ) (f : Frame) (st : Stack) → slice_get all v ≡ Some (Declares y) → end_of all v ≡ others 0 → ((i : ℕ) → ends i ≡ others i) → Complete v ends (f ∷ st) → Complete (suc v) others ((y ∷ f) ∷ st)
    complete_declared v y ends others f st at_v here q c d x at_d s less = by (seen_before v d s)
      where
        level_of : (k : IsIn ends (f ∷ st) d x) (l : ℕ) → k.level ≡ l → IsIn others ((y ∷ f) ∷ st) d x
        level_of k zero e = record { level = zero; frame = y ∷ f; there = refl; among = inr (subst (Among x) (sym (some_same f k.frame (ap (slice_get (f ∷ st)) (sym e) ∙ k.there))) k.among); ends = k.ends ∙ ap ends e ∙ q 0 }
        level_of k (suc l) e = record { level = suc l; frame = k.frame; there = ap (slice_get (f ∷ st)) (sym e) ∙ k.there; among = k.among; ends = k.ends ∙ ap ends e ∙ q (suc l) }

        by : Seen v d ⊎ (d ≡ v) → IsIn others ((y ∷ f) ∷ st) d x
        by (inl g) = let k = c d x at_d g (omega arith) in level_of k k.level refl
        by (inr g) = record { level = zero; frame = y ∷ f; there = refl; among = inl (one_decl v d y x at_v at_d (sym g)); ends = ap (end_of all) g ∙ here }

    -- all that follows
    module _ (n : NamedProgram) (decls : n.decls ≡ declarations all) (each : (u : ℕ) (i : Id) → slice_get all u ≡ Some (Uses i) ⊎ slice_get all u ≡ Some (Calls i) → Entry all u i n.uses) where
      in_range : {A : Type 0} (xs : List A) (l : ℕ) (x : A) → slice_get xs l ≡ Some x → l < length xs
      in_range [] l x e = absurd (none-some x e)
      in_range (y ∷ xs) zero x e = omega arith
      in_range (y ∷ xs) (suc l) x e = let g = in_range xs l x e in omega arith

      use_is : (ms : List Mark) (m : Mark) (v k j : ℕ) (i : Id) (st : Stack) → slice_get all v ≡ Some m → ((x : Decl) → m ≡ Declares x → ⊥) → past 0 (take v all) ≡ k → Closing j ms → length st ≡ suc j → Entry all v i n.uses →
          Levels v (λ l. v + suc (to_end l ms)) st → Complete v (λ l. v + suc (to_end l ms)) st → declared_at n (slice_get n.uses k) ≡ found st i.text
      use_is ms mark v k j i st at_v other names_before c long entry h complete =
          let d = entry.declaration in
          let m = entry.means in
          let known_at : v < end_of all d = m.known.open_still in
          let seen : Seen v d = still m.known.begun in
          let k_in = complete d m.declared.decl m.declared.there seen (omega arith) in
          let short = in_range st k_in.level k_in.frame k_in.there in
          let there : found st i.text ≡ Some m.declared.decl =
          find v i.text d m st (λ l. v + suc (to_end l ms)) k_in.level k_in.frame h k_in.there k_in.among k_in.ends (λ l less. omega arith)
          (λ l less. let g = ends_differ ms j l k_in.level c less (omega arith) in omega arith) in
          ap (declared_at n) (ap (slice_get n.uses) (sym names_before) ∙ entry.entry) ∙ (ap (λ (ds : List Decl). slice_get ds (number_of all d)) decls ∙ numbered all d m.declared.decl m.declared.there) ∙ sym there
        where
          still : (entry.declaration ≤ v) ⊎ (end_of all entry.declaration ≡ length all) → Seen v entry.declaration
          still (inr g) = inr g
          still (inl g) = by (eq-or-lt_of_le g)
            where
              by : (entry.declaration ≡ v) ⊎ (entry.declaration < v) → Seen v entry.declaration
              by (inr l) = inl l
              by (inl e) = absurd (other entry.means.declared.decl (some_same mark (Declares entry.means.declared.decl) (sym at_v ∙ ap (slice_get all) (sym e) ∙ entry.means.declared.there)))

      names_on : (v k : ℕ) (m : Mark) → slice_get all v ≡ Some m → past 0 (take v all) ≡ k → past 0 (take (suc v) all) ≡ past k (m ∷ [])
      names_on v k m at_v e = ap (past 0) (one_further all v m at_v) ∙ past_both 0 (take v all) (m ∷ []) ∙ ap (λ (j : ℕ). past j (m ∷ [])) e

      own_end : (v : ℕ) (m : Mark) (ms : List Mark) → drop v all ≡ m ∷ ms → end_of all v ≡ v + to_end 0 (m ∷ ms)
      own_end v m ms e = ap (λ (xs : List Mark). v + to_end 0 xs) e

      resolve : (ms : List Mark) (v k j : ℕ) (st : Stack) → drop v all ≡ ms → past 0 (take v all) ≡ k → Closing j ms → length st ≡ suc j → Levels v (λ l. v + to_end l ms) st → Complete v (λ l. v + to_end l ms) st → Resolves n k st ms
      resolve [] v k j st e names_before c long h complete = tt
      resolve (Opens ∷ ms) v k j st e names_before c long h complete =
          let d = dropped all v Opens ms e in
          resolve ms (suc v) k (suc j) ([] ∷ st) d.1 (names_on v k Opens d.0 names_before) c (ap suc long)
          (tt, levels_on v (λ l. v + to_end l (Opens ∷ ms)) (λ l. suc v + to_end (suc l) ms) st (λ l. omega arith) h)
          (complete_open v (λ l. v + to_end l (Opens ∷ ms)) (λ l. suc v + to_end l ms) st d.0 (λ l. omega arith) complete)
      resolve (Closes ∷ ms) v k zero st e names_before c long h complete = absurd c
      resolve (Closes ∷ ms) v k (suc j) [] e names_before c long h complete = absurd (zero_no (suc j) long)
        where
          zero_no : (m : ℕ) → 0 ≡ suc m → ⊥
          zero_no m q = omega arith
      resolve (Closes ∷ ms) v k (suc j) (f ∷ st) e names_before c long h complete =
          let d = dropped all v Closes ms e in
          resolve ms (suc v) k j st d.1 (names_on v k Closes d.0 names_before) c (one_less (length st) (suc j) long)
          (levels_on v (λ l. v + to_end (suc l) (Closes ∷ ms)) (λ l. suc v + to_end l ms) st (λ l. omega arith) h.1)
          (complete_close v (λ l. v + to_end l (Closes ∷ ms)) (λ l. suc v + to_end l ms) f st d.0 (omega arith) (λ l. omega arith) complete)
        where
          one_less : (a b : ℕ) → suc a ≡ suc b → a ≡ b
          one_less a b q = omega arith
      resolve (Declares x ∷ ms) v k j [] e names_before c long h complete = absurd (zero_no j long)
        where
          zero_no : (m : ℕ) → 0 ≡ suc m → ⊥
          zero_no m q = omega arith
      resolve (Declares x ∷ ms) v k j (f ∷ st) e names_before c long h complete =
          let d = dropped all v (Declares x) ms e in
          let own : end_of all v ≡ suc v + to_end 0 ms = own_end v (Declares x) ms e ∙ shift v (to_end 0 ms) in
          let l0 = levels_on v (λ l. v + to_end l (Declares x ∷ ms)) (λ l. suc v + to_end l ms) (f ∷ st) (λ l. omega arith) h in (
            is_new x ms v j f st e c long h,
            resolve ms (suc v) (k + 1) j ((x ∷ f) ∷ st) d.1 (names_on v k (Declares x) d.0 names_before) c long
                ((record { place = v; there = d.0; ends = own; seen = inl (omega arith) }, l0.0), l0.1)
                (complete_declared v x (λ l. v + to_end l (Declares x ∷ ms)) (λ l. suc v + to_end l ms) f st d.0 own (λ l. omega arith) complete),
          )
        where
          shift : (a b : ℕ) → a + suc b ≡ suc a + b
          shift a b = omega arith
      resolve (Uses i ∷ ms) v k j st e names_before c long h complete =
          let d = dropped all v (Uses i) ms e in (
            use_is ms (Uses i) v k j i st d.0 (λ x q. absurd (cc)) names_before c long (each v i (inl d.0)) h complete,
            resolve ms (suc v) (k + 1) j st d.1 (names_on v k (Uses i) d.0 names_before) c long
                (levels_on v (λ l. v + to_end l (Uses i ∷ ms)) (λ l. suc v + to_end l ms) st (λ l. omega arith) h)
                (complete_on v (Uses i) (λ l. v + to_end l (Uses i ∷ ms)) (λ l. suc v + to_end l ms) st d.0 (λ x q. absurd (cc)) (λ l. omega arith) complete),
          )
      resolve (Calls i ∷ ms) v k j st e names_before c long h complete =
          let d = dropped all v (Calls i) ms e in (
            use_is ms (Calls i) v k j i st d.0 (λ x q. absurd (cc)) names_before c long (each v i (inr d.0)) h complete,
            resolve ms (suc v) (k + 1) j st d.1 (names_on v k (Calls i) d.0 names_before) c long
                (levels_on v (λ l. v + to_end l (Calls i ∷ ms)) (λ l. suc v + to_end l ms) st (λ l. omega arith) h)
                (complete_on v (Calls i) (λ l. v + to_end l (Calls i ∷ ms)) (λ l. suc v + to_end l ms) st d.0 (λ x q. absurd (cc)) (λ l. omega arith) complete),
          )

    shift_long : (v l w : ℕ) → v + suc l ≡ w → suc v + l ≡ w
    shift_long v l w e = omega arith

    next_place : (v d : ℕ) → suc v + d ≡ v + suc d
    next_place v d = omega arith

    -- what is declared outside of functions is known in the whole text
    held_outer : (ms : List Mark) (v j : ℕ) → drop v all ≡ ms → v + length ms ≡ length all → Closing j ms → Held 0 (length all) (outer j ms)
    held_outer [] v j e long c = tt
    held_outer (Opens ∷ ms) v j e long c = held_outer ms (suc v) (suc j) (dropped all v Opens ms e).1 (shift_long v (length ms) (length all) long) c
    held_outer (Closes ∷ ms) v zero e long c = absurd c
    held_outer (Closes ∷ ms) v (suc j) e long c = held_outer ms (suc v) j (dropped all v Closes ms e).1 (shift_long v (length ms) (length all) long) c
    held_outer (Declares x ∷ ms) v zero e long c =
        let d = dropped all v (Declares x) ms e in
        let own : end_of all v ≡ length all = ap (λ (xs : List Mark). v + to_end 0 xs) e ∙ ap (λ (l : ℕ). v + suc l) (last_end ms 0 c) ∙ long in
        (record { place = v; there = d.0; ends = own; seen = inr own }, held_outer ms (suc v) zero d.1 (shift_long v (length ms) (length all) long) c)
    held_outer (Declares x ∷ ms) v (suc j) e long c = held_outer ms (suc v) (suc j) (dropped all v (Declares x) ms e).1 (shift_long v (length ms) (length all) long) c
    held_outer (Uses i ∷ ms) v j e long c = held_outer ms (suc v) j (dropped all v (Uses i) ms e).1 (shift_long v (length ms) (length all) long) c
    held_outer (Calls i ∷ ms) v j e long c = held_outer ms (suc v) j (dropped all v (Calls i) ms e).1 (shift_long v (length ms) (length all) long) c

    -- and all that is known in the whole text is declared there
    outer_has : (ms : List Mark) (v j d : ℕ) (x : Decl) → drop v all ≡ ms → v + length ms ≡ length all → Closing j ms → slice_get ms d ≡ Some (Declares x) → end_of all (v + d) ≡ length all → Among x (outer j ms)
    outer_has [] v j d x e long c at_d ends = absurd (none-some _ at_d)
    outer_has (Opens ∷ ms) v j zero x e long c at_d ends = absurd (cc)
    outer_has (Opens ∷ ms) v j (suc d) x e long c at_d ends = outer_has ms (suc v) (suc j) d x (dropped all v Opens ms e).1 (shift_long v (length ms) (length all) long) c at_d (ap (end_of all) (next_place v d) ∙ ends)
    outer_has (Closes ∷ ms) v zero d x e long c at_d ends = absurd c
    outer_has (Closes ∷ ms) v (suc j) zero x e long c at_d ends = absurd (cc)
    outer_has (Closes ∷ ms) v (suc j) (suc d) x e long c at_d ends = outer_has ms (suc v) j d x (dropped all v Closes ms e).1 (shift_long v (length ms) (length all) long) c at_d (ap (end_of all) (next_place v d) ∙ ends)
    outer_has (Declares y ∷ ms) v zero zero x e long c at_d ends = inl (cc)
    outer_has (Declares y ∷ ms) v zero (suc d) x e long c at_d ends = inr (outer_has ms (suc v) zero d x (dropped all v (Declares y) ms e).1 (shift_long v (length ms) (length all) long) c at_d (ap (end_of all) (next_place v d) ∙ ends))
    outer_has (Declares y ∷ ms) v (suc j) zero x e long c at_d ends =
        let own : end_of all v ≡ v + suc (to_end 0 ms) = ap (λ (xs : List Mark). v + to_end 0 xs) e in
        let here : end_of all v ≡ length all = ap (end_of all) (sym (add-zero v)) ∙ ends in
        let less = ends_differ ms (suc j) 0 (suc j) c (omega arith) (omega arith) in
        let last = last_end ms (suc j) c in
        absurd (omega arith)
    outer_has (Declares y ∷ ms) v (suc j) (suc d) x e long c at_d ends = outer_has ms (suc v) (suc j) d x (dropped all v (Declares y) ms e).1 (shift_long v (length ms) (length all) long) c at_d (ap (end_of all) (next_place v d) ∙ ends)
    outer_has (Uses i ∷ ms) v j zero x e long c at_d ends = absurd (cc)
    outer_has (Uses i ∷ ms) v j (suc d) x e long c at_d ends = outer_has ms (suc v) j d x (dropped all v (Uses i) ms e).1 (shift_long v (length ms) (length all) long) c at_d (ap (end_of all) (next_place v d) ∙ ends)
    outer_has (Calls i ∷ ms) v j zero x e long c at_d ends = absurd (cc)
    outer_has (Calls i ∷ ms) v j (suc d) x e long c at_d ends = outer_has ms (suc v) j d x (dropped all v (Calls i) ms e).1 (shift_long v (length ms) (length all) long) c at_d (ap (end_of all) (next_place v d) ∙ ends)

-- the items of a program

items_inner : (i : ℕ) (item : plain.Item) → Inner (marks.of_item i item) ⊎ ((h : plain.Head) × (b : plain.Statement) × (item ≡ plain.function h b))
items_inner i (plain.port p) = inl (scopes.both _ _ (scopes.maybe marks.of_place scopes.of_place p.place) (scopes.declared refl scopes.nothing))
items_inner i (plain.function h b) = inr (h, b, refl)

closing_item : (i : ℕ) (item : plain.Item) (rest : List Mark) → Closing 0 rest → Closing 0 (marks.of_item i item ++ rest)
closing_item i (plain.port p) rest c = closing_before _ (scopes.both _ _ (scopes.maybe marks.of_place scopes.of_place p.place) (scopes.declared refl scopes.nothing)) 0 rest c
closing_item i (plain.function h b) rest c = closing_before _ (scopes.of_function h b) 0 rest c

closing_items : (i : ℕ) (items : List plain.Item) → Closing 0 (marks.of_items i items)
closing_items i [] = refl
closing_items i (item ∷ items) = closing_item i item (marks.of_items (i + 1) items) (closing_items (i + 1) items)

-- each name that is used has its entry
record UsesStand (ms : List Mark) (i : ℕ) (entries : List ℕ) : Type 0 where
  pub count : past 0 (take i ms) ≡ length entries
  pub each : (u : ℕ) (n : Id) → u < i → IsUse ms u n → Entry ms u n entries

stand_clear : (ms : List Mark) (i : ℕ) (entries : List ℕ) (m : Mark) → slice_get ms i ≡ Some m → past (past 0 (take i ms)) (m ∷ []) ≡ past 0 (take i ms) → ((n : Id) → IsUse ms i n → ⊥) → UsesStand ms i entries → UsesStand ms (i + 1) entries
stand_clear ms i entries m e p other s = record {
  count = next ms i m e ∙ p ∙ s.count;
  each = λ u n less at_u. by u n at_u (below_or_at u i less);
}
  where
    by : (u : ℕ) (n : Id) → IsUse ms u n → (u ≡ i) ⊎ (u < i) → Entry ms u n entries
    by u n at_u (inl q) = absurd (other n (subst (λ (j : ℕ). IsUse ms j n) q at_u))
    by u n at_u (inr less) = s.each u n less at_u

stand_longer : (ms : List Mark) (i : ℕ) (entries : List ℕ) (x : ℕ) (m : Mark) → slice_get ms i ≡ Some m → past (past 0 (take i ms)) (m ∷ []) ≡ past 0 (take i ms) + 1 → ((n : Id) → IsUse ms i n → Entry ms i n (entries ++ x ∷ [])) → UsesStand ms i entries → UsesStand ms (i + 1) (entries ++ x ∷ [])
stand_longer ms i entries x m e p own s =
    let long : length (entries ++ x ∷ []) ≡ length entries + 1 = length-append entries (x ∷ []) in
    record {
      count = next ms i m e ∙ p ∙ ap (λ (k : ℕ). k + 1) s.count ∙ sym long;
      each = λ u n less at_u. by u n at_u (below_or_at u i less);
    }
  where
    by : (u : ℕ) (n : Id) → IsUse ms u n → (u ≡ i) ⊎ (u < i) → Entry ms u n (entries ++ x ∷ [])
    by u n at_u (inl q) = subst (λ (j : ℕ). Entry ms j n (entries ++ x ∷ [])) (sym q) (own n (subst (λ (j : ℕ). IsUse ms j n) q at_u))
    by u n at_u (inr less) = longer ms u n entries (x ∷ []) (s.each u n less at_u)

no_use : (ms : List Mark) (i : ℕ) (m : Mark) → slice_get ms i ≡ Some m → ((n : Id) → m ≡ Uses n → ⊥) → ((n : Id) → m ≡ Calls n → ⊥) → (n : Id) → IsUse ms i n → ⊥
no_use ms i m e f g n (inl u) = f n (some_same m (Uses n) (sym e ∙ u))
no_use ms i m e f g n (inr u) = g n (some_same m (Calls n) (sym e ∙ u))

uses_stand : (ms : List Mark) (i : ℕ) (entries : List ℕ) → Entries ms i entries → UsesStand ms i entries
uses_stand ms i entries none = record { count = refl; each = λ u n less e. absurd (omega arith) }
uses_stand ms i entries (past_begin {i = j} a e) = stand_clear ms j entries Opens e refl (no_use ms j Opens e (λ n q. absurd (cc)) (λ n q. absurd (cc))) (uses_stand ms j entries a)
uses_stand ms i entries (past_end {i = j} a e) = stand_clear ms j entries Closes e refl (no_use ms j Closes e (λ n q. absurd (cc)) (λ n q. absurd (cc))) (uses_stand ms j entries a)
uses_stand ms i entries (declared {i = j} {ns = ns} {d = d} a e) = stand_longer ms j ns (number_of ms j) (Declares d) e refl (λ n q. absurd (no_use ms j (Declares d) e (λ n q. absurd (cc)) (λ n q. absurd (cc)) n q)) (uses_stand ms j ns a)
uses_stand ms i entries (used {i = j} {ns = ns} {n = n} d a u m) = by u (uses_stand ms j ns a)
  where
    same : (x y : Id) → IsUse ms j x → IsUse ms j y → x ≡ y
    same x y (inl e) (inl f) = cc
    same x y (inl e) (inr f) = absurd (cc)
    same x y (inr e) (inl f) = absurd (cc)
    same x y (inr e) (inr f) = cc

    own : UsesStand ms j ns → (x : Id) → IsUse ms j x → Entry ms j x (ns ++ number_of ms d ∷ [])
    own s x q = record { declaration = d; means = subst (λ (y : Id). Means ms j y.text d) (same n x u q) m; entry = ap (slice_get (ns ++ number_of ms d ∷ [])) s.count ∙ at_end ns (number_of ms d) }

    by : IsUse ms j n → UsesStand ms j ns → UsesStand ms (j + 1) (ns ++ number_of ms d ∷ [])
    by (inl e) s = stand_longer ms j ns (number_of ms d) (Uses n) e refl (own s) s
    by (inr e) s = stand_longer ms j ns (number_of ms d) (Calls n) e refl (own s) s

resolved_by : (P : List plain.Item) (n : NamedProgram) → n.decls ≡ declarations (marks.of_items 0 P) → AreUses (marks.of_items 0 P) n.uses → ((p : Pos) → names.Breaks302 (marks.of_items 0 P) p → ⊥) → Resolves n 0 (outer 0 (marks.of_items 0 P) ∷ []) (marks.of_items 0 P)
resolved_by P n decls uses once =
    let all = marks.of_items 0 P in
    let s = uses_stand all (length all) n.uses uses in
    let c = closing_items 0 P in
    let whole : 0 + to_end 0 all ≡ length all = let e = last_end all 0 c in omega arith in
    resolve all once n decls (λ u i q. s.each u i (within u i q) q) all 0 0 0 (outer 0 all ∷ []) refl refl c refl
    (subst (λ (e : ℕ). Held all 0 e (outer 0 all)) (sym whole) (held_outer all once all 0 0 refl (omega arith) c), tt)
    (λ d x at_d seen short. by d x at_d (ends d seen))
  where
    within : (u : ℕ) (i : Id) → IsUse (marks.of_items 0 P) u i → u < length (marks.of_items 0 P)
    within u i (inl e) = slice_get_within (marks.of_items 0 P) u _ e
    within u i (inr e) = slice_get_within (marks.of_items 0 P) u _ e

    zero_more : (d : ℕ) → 0 + d ≡ d
    zero_more d = omega arith

    ends : (d : ℕ) → Seen (marks.of_items 0 P) 0 d → end_of (marks.of_items 0 P) d ≡ length (marks.of_items 0 P)
    ends d (inl h) = absurd (omega arith)
    ends d (inr h) = h

    by : (d : ℕ) (x : Decl) → slice_get (marks.of_items 0 P) d ≡ Some (Declares x) → end_of (marks.of_items 0 P) d ≡ length (marks.of_items 0 P) → IsIn (marks.of_items 0 P) (λ l. 0 + to_end l (marks.of_items 0 P)) (outer 0 (marks.of_items 0 P) ∷ []) d x
    by d x at_d e = record {
      level = zero;
      frame = outer 0 (marks.of_items 0 P);
      there = refl;
      among = outer_has (marks.of_items 0 P) once (marks.of_items 0 P) 0 0 d x refl (omega arith) (closing_items 0 P) at_d (ap (end_of (marks.of_items 0 P)) (zero_more d) ∙ e);
      ends = let g = last_end (marks.of_items 0 P) 0 (closing_items 0 P) in omega arith;
    }

pub names_resolve : (P : List plain.Item) (n : NamedProgram) (types : List Bool) → IsTyped P n types → Resolves n 0 (outer 0 (marks.of_items 0 P) ∷ []) (marks.of_items 0 P)
unfolding marks.of_program
names_resolve P n types t = resolved_by P n t.is_named.decls t.is_named.uses (λ p b. t.names _ (names.declared_again b))

-- the names that are declared outside of functions differ
pub outer_differ : (P : List plain.Item) (n : NamedProgram) (types : List Bool) → IsTyped P n types → AllNew (outer 0 (marks.of_items 0 P))
unfolding marks.of_program
outer_differ P n types t = outer_new (marks.of_items 0 P) (λ p b. t.names _ (names.declared_again b)) (marks.of_items 0 P) 0 0 refl (omega arith) (closing_items 0 P)
