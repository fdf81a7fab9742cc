-- The rules 301 and 302, by what names mean.
use Rattle.std.proofs.Common.{◌≡◌, ℕ, ◌+◌, ◌<◌, ◌≤◌, ◌⊎◌, inl, inr, List, length, slice_get, Bool, true, false, nat_eq, if◌then◌else◌, Option, None, Some, refl, sym, ap, subst, ◌∙◌, arith}
use Rattle.std.proofs.lemmas.Option.{slice_get_within}
use Rattle.std.proofs.lemmas.Bool.Decides.{nat_tests}
use Rattle.xw_words.proofs.Lists.{below_or_at, some_same}
use Rattle.xw_words.specs.declared.pos.Broken.{Broken}
use Rattle.xc_tree.specs.declared.tree.Id.{Id}
use Rattle.xc_tree.specs.declared.names.Decl.{Decl}
use Rattle.xc_tree.specs.declared.names.Mark.{Mark}
use Rattle.xc_tree.specs.declared.names.Mark.TheVariants.{Opens, Closes, Declares, Uses, Calls}
use Rattle.xc_tree.specs.Names.Scopes.{end_of, DeclaresAt, IsKnown, IsWithin}
use Rattle.xc_tree.specs.Names.Uses.{IsUse}
use Rattle.xc_tree.specs.Least.{IsLeastOf, first_of}
use Rattle.xc_names.specs.Meanings.{spelling_of, Meaning, means, unknown, AreMeanings}
use Rattle.xc_names.specs.NameRules.{IsBrokenAt, unknown as unknown_name, again, IsBrokenBefore, at_use, at_declaration, broken_by}
use Rattle.xc_names.proofs.Known.{knows_itself, ends_no_earlier, own_scope}
use Rattle.xc_tree.proofs.Leasts.{either, of_same, none_broken, one_broken}

-- another mark breaks neither
scopes_only : (ms : List Mark) (i : ℕ) (m : Mark) → slice_get ms i ≡ Some m → spelling_of m ≡ None → (b : Broken) → IsBrokenAt ms i b → ⊥
scopes_only ms i m e f b (unknown_name {n = n} (inl u) none) = let g = ap spelling_of (some_same m (Uses n) (sym e ∙ u)) in cc
scopes_only ms i m e f b (unknown_name {n = n} (inr u) none) = let g = ap spelling_of (some_same m (Calls n) (sym e ∙ u)) in cc
scopes_only ms i m e f b (again {d = d} x u c h g) = let k = ap spelling_of (some_same m (Declares d) (sym e ∙ u)) in cc

used_as : (m : Mark) (n : Id) → (m ≡ Uses n) ⊎ (m ≡ Calls n) → (k : Id) → (m ≡ Uses k) ⊎ (m ≡ Calls k) → n ≡ k
used_as m n (inl a) k (inl b) = cc
used_as m n (inl a) k (inr b) = absurd (cc)
used_as m n (inr a) k (inl b) = absurd (cc)
used_as m n (inr a) k (inr b) = cc

-- a use is the mark's
use_of : (ms : List Mark) (i : ℕ) (m : Mark) (n : Id) → slice_get ms i ≡ Some m → IsUse ms i n → (m ≡ Uses n) ⊎ (m ≡ Calls n)
use_of ms i m n e (inl u) = inl (some_same m _ (sym e ∙ u))
use_of ms i m n e (inr u) = inr (some_same m _ (sym e ∙ u))

uses_only : (ms : List Mark) (i : ℕ) (m : Mark) (n : Id) → slice_get ms i ≡ Some m → (m ≡ Uses n) ⊎ (m ≡ Calls n) → (b : Broken) → IsBrokenAt ms i b → ((d : ℕ) → DeclaresAt ms d n.text → IsKnown ms d i → ⊥) × (b ≡ record { rule = 301; pos = n.pos })
uses_only ms i m n e u b (unknown_name {n = k} w none) =
    let same : k ≡ n = used_as m k (use_of ms i m k e w) n u in
    (λ d x y. none d (subst (λ (j : Id). DeclaresAt ms d j.text) (sym same) x) y, ap (λ (j : Id). record { rule = 301; pos = j.pos }) same)
uses_only ms i m n e (inl u) b (again {d = d} x w c h g) = let k : Declares d ≡ Uses n = sym (some_same m (Declares d) (sym e ∙ w)) ∙ u in absurd (cc)
uses_only ms i m n e (inr u) b (again {d = d} x w c h g) = let k : Declares d ≡ Calls n = sym (some_same m (Declares d) (sym e ∙ w)) ∙ u in absurd (cc)

is_use : (ms : List Mark) (i : ℕ) (m : Mark) (n : Id) → slice_get ms i ≡ Some m → (m ≡ Uses n) ⊎ (m ≡ Calls n) → IsUse ms i n
is_use ms i m n e (inl u) = inl (e ∙ ap Some u)
is_use ms i m n e (inr u) = inr (e ∙ ap Some u)

use_rule : (ms : List Mark) (i : ℕ) (m : Mark) (n : Id) → slice_get ms i ≡ Some m → (m ≡ Uses n) ⊎ (m ≡ Calls n) → (o : Option ℕ) → Meaning ms i n.text o → IsLeastOf (IsBrokenAt ms i) (at_use n.pos o)
use_rule ms i m n e u None (unknown none) = one_broken (IsBrokenAt ms i) _ (unknown_name (is_use ms i m n e u) none) (λ b h. (uses_only ms i m n e u b h).1)
use_rule ms i m n e u (Some d) (means k) = none_broken (IsBrokenAt ms i) (λ b h. (uses_only ms i m n e u b h).0 d k.declared k.known)

declares_only : (ms : List Mark) (i : ℕ) (d : Decl) → slice_get ms i ≡ Some (Declares d) → (b : Broken) → IsBrokenAt ms i b → ((x : ℕ) × DeclaresAt ms x d.name.text × (x < i) × (end_of ms x ≡ end_of ms i)) × (b ≡ record { rule = 302; pos = d.name.pos })
declares_only ms i d e b (unknown_name {n = n} (inl u) none) = let k : Declares d ≡ Uses n = some_same _ _ (sym e ∙ u) in absurd (cc)
declares_only ms i d e b (unknown_name {n = n} (inr u) none) = let k : Declares d ≡ Calls n = some_same _ _ (sym e ∙ u) in absurd (cc)
declares_only ms i d e b (again {d = c} x w dx h g) =
    let same : c ≡ d = by (some_same _ _ (sym w ∙ e)) in
    ((x, subst (λ (j : Decl). DeclaresAt ms x j.name.text) same dx, h, g), ap (λ (j : Decl). record { rule = 302; pos = j.name.pos }) same)
  where
    by : Declares c ≡ Declares d → c ≡ d
    by q = cc

declaration_rule : (ms : List Mark) (i : ℕ) (d : Decl) → slice_get ms i ≡ Some (Declares d) → (o : Option ℕ) → Meaning ms i d.name.text o → IsLeastOf (IsBrokenAt ms i) (at_declaration d.name.pos i o)
declaration_rule ms i d e None (unknown none) = absurd (none i own (knows_itself ms i d.name.text own))
  where
    own : DeclaresAt ms i d.name.text
    own = record { decl = d; there = e; spelled = refl }
declaration_rule ms i d e (Some x) (means k) = by (nat_eq x i) refl
  where
    own : DeclaresAt ms i d.name.text
    own = record { decl = d; there = e; spelled = refl }

    less : i < length ms
    less = slice_get_within ms i _ e

    short : i ≤ length ms
    short = let h = less in omega arith

    -- what its name means is no later in the same scope
    first : IsWithin ms x i → (x ≤ i) × (end_of ms x ≡ end_of ms i)
    first (inl h) = let g = ends_no_earlier ms i x short k.known in absurd (omega arith)
    first (inr h) = (h.1, h.0)

    is_first : (x ≤ i) × (end_of ms x ≡ end_of ms i)
    is_first = first (k.innermost i own (knows_itself ms i d.name.text own))

    itself : x ≡ i → (y : ℕ) → DeclaresAt ms y d.name.text → y < i → end_of ms y ≡ end_of ms i → ⊥
    itself q y dy h g = at (k.innermost y dy (record { begun = inl (omega arith); open_still = let o = own_scope ms i d.name.text own in omega arith }))
      where
        at : IsWithin ms x y → ⊥
        at (inl z) = let w = ap (end_of ms) q in omega arith
        at (inr z) = let w = z.1 in omega arith

    by : (t : Bool) → nat_eq x i ≡ t → IsLeastOf (IsBrokenAt ms i) (if nat_eq x i then None else Some (record { rule = 302; pos = d.name.pos }))
    by true q = rw q (none_broken (IsBrokenAt ms i) (λ b h. let z = (declares_only ms i d e b h).0 in itself (equal x i q) z.0 z.1 z.2 z.3))
      where
        equal : (a c : ℕ) → nat_eq a c ≡ true → a ≡ c
        equal a c z = grind (arith, nat_tests)
    by false q = rw q (one_broken (IsBrokenAt ms i) _ (again x e k.declared (strict (unequal x i q) is_first.0) is_first.1) (λ b h. (declares_only ms i d e b h).1))
      where
        unequal : (a c : ℕ) → nat_eq a c ≡ false → a ≡ c → ⊥
        unequal a c z = grind (arith, nat_tests)

        strict : {a c : ℕ} → (a ≡ c → ⊥) → a ≤ c → a < c
        strict z w = omega arith

pub spelled_here : (ms : List Mark) (i : ℕ) (m : Mark) (t : List ℕ) (meant : List (Option ℕ)) (o : Option ℕ) → AreMeanings ms meant → slice_get ms i ≡ Some m → spelling_of m ≡ Some t → slice_get meant i ≡ Some o → Meaning ms i t o
spelled_here ms i m t meant o a e f g =
    let x = a.each i t (record { mark = m; there = e; spelled = f }) in
    subst (Meaning ms i t) (some_same x.found o (sym x.there ∙ g)) x.right

pub mark_rule : (ms : List Mark) (meant : List (Option ℕ)) → AreMeanings ms meant → (i : ℕ) (m : Mark) (o : Option ℕ) → slice_get ms i ≡ Some m → slice_get meant i ≡ Some o → IsLeastOf (IsBrokenAt ms i) (broken_by m i o)
mark_rule ms meant a i Opens o e g = none_broken (IsBrokenAt ms i) (scopes_only ms i Opens e refl)
mark_rule ms meant a i Closes o e g = none_broken (IsBrokenAt ms i) (scopes_only ms i Closes e refl)
mark_rule ms meant a i (Declares d) o e g = declaration_rule ms i d e o (spelled_here ms i (Declares d) d.name.text meant o a e refl g)
mark_rule ms meant a i (Uses n) o e g = use_rule ms i (Uses n) n e (inl refl) o (spelled_here ms i (Uses n) n.text meant o a e refl g)
mark_rule ms meant a i (Calls n) o e g = use_rule ms i (Calls n) n e (inr refl) o (spelled_here ms i (Calls n) n.text meant o a e refl g)

pub nothing_before : (ms : List Mark) → IsLeastOf (IsBrokenBefore ms 0) None
nothing_before ms = none_broken (IsBrokenBefore ms 0) (λ b h. let k = h.before in omega arith)

pub one_further : (ms : List Mark) (i : ℕ) (best o : Option Broken) → IsLeastOf (IsBrokenBefore ms i) best → IsLeastOf (IsBrokenAt ms i) o → IsLeastOf (IsBrokenBefore ms (i + 1)) (first_of best o)
one_further ms i best o p q = of_same (λ b. IsBrokenBefore ms i b ⊎ IsBrokenAt ms i b) (IsBrokenBefore ms (i + 1)) (first_of best o) to from (either (IsBrokenBefore ms i) (IsBrokenAt ms i) best o p q)
  where
    to : (b : Broken) → IsBrokenBefore ms i b ⊎ IsBrokenAt ms i b → IsBrokenBefore ms (i + 1) b
    to b (inl h) = record { place = h.place; before = let k = h.before in omega arith; broken = h.broken }
    to b (inr h) = record { place = i; before = omega arith; broken = h }

    from : (b : Broken) → IsBrokenBefore ms (i + 1) b → IsBrokenBefore ms i b ⊎ IsBrokenAt ms i b
    from b h = by (below_or_at h.place i h.before)
      where
        by : (h.place < i) ⊎ (h.place ≡ i) → IsBrokenBefore ms i b ⊎ IsBrokenAt ms i b
        by (inl k) = inl (record { place = h.place; before = k; broken = h.broken })
        by (inr k) = inr (subst (λ (j : ℕ). IsBrokenAt ms j b) k h.broken)
