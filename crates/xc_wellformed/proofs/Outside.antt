-- What is declared outside of functions.
use Rattle.std.proofs.Common.{◌≡◌, ℕ, suc, ◌+◌, ◌⊎◌, inl, inr, Bool, true, false, List, [], ◌∷◌, ◌++◌, bytes_eq, Option, None, Some, refl, sym, ap, ◌∙◌, true≢false, append_assoc}
use Rattle.xc_tree.specs.declared.names.Decl.{Decl}
use Rattle.xc_tree.specs.declared.names.Mark.{Mark}
use Rattle.xc_tree.specs.declared.names.Mark.TheVariants.{Opens, Closes, Declares, Uses, Calls}
use Rattle.xc_tree.specs.Types.Named.{NamedProgram}
use Rattle.std.proofs.lemmas.Slice.Eq.{bytes_eq-Decides}
use Rattle.xc_tree.specs.declared.names.What.TheVariants as what
use Rattle.xc_tree.specs.Plain as plain
use Rattle.xc_tree.specs.Names.Marks as marks
use Rattle.xc_meaning.proofs.Recursion.Scopes as scopes
use Rattle.xc_meaning.proofs.Recursion.Scopes.{Inner}
use Rattle.xc_wellformed.proofs.Stacks.{Quiet, silent, quiet_use, quiet_called, quiet_optional, quiet_place}
use Rattle.xc_wellformed.proofs.Resolved.{NotNamed, AllNew}
use Rattle.xc_wellformed.specs.Stacks.{Frame, Stack, decl_by, found_in, found, with_decl, popped, IsNew, Resolves, outer}

-- Stacks that differ in the outermost frame, which has the same names.
pub data Alike : Stack → Stack → Type 0 where
  nothing : Alike [] []
  bottom : {a b : Frame} → ((t : List ℕ) → found_in a t None ≡ found_in b t None) → Alike (a ∷ []) (b ∷ [])
  further : {f : Frame} {st su : Stack} → Alike st su → Alike (f ∷ st) (f ∷ su)

found_through : (f : Frame) (t : List ℕ) (x y : Option Decl) → x ≡ y → found_in f t x ≡ found_in f t y
found_through f t x y e = ap (found_in f t) e

pub alike_found : (st su : Stack) (t : List ℕ) → Alike st su → found st t ≡ found su t
alike_found _ _ t nothing = refl
alike_found _ _ t (bottom h) = h t
alike_found _ _ t (further {f = f} {st = st} {su = su} a) = found_through f t (found st t) (found su t) (alike_found st su t a)

alike_popped : (st su : Stack) → Alike st su → Alike (popped st) (popped su)
alike_popped _ _ nothing = nothing
alike_popped _ _ (bottom h) = nothing
alike_popped _ _ (further a) = a

alike_declared : (d : Decl) (st su : Stack) → Alike st su → Alike (with_decl d st) (with_decl d su)
alike_declared d _ _ nothing = bottom (λ t. refl)
alike_declared d _ _ (bottom h) = bottom (λ t. ap (decl_by (bytes_eq d.name.text t) d) (h t))
alike_declared d _ _ (further a) = further a

alike_new : (t : List ℕ) (st su : Stack) → Alike st su → IsNew t st → IsNew t su
alike_new t _ _ nothing h = tt
alike_new t _ _ (bottom k) h = tt
alike_new t _ _ (further nothing) h = tt
alike_new t _ _ (further (bottom k)) h = h
alike_new t _ _ (further (further a)) h = h

pub alike_resolves : (n : NamedProgram) (ms : List Mark) (k : ℕ) (st su : Stack) → Alike st su → Resolves n k st ms → Resolves n k su ms
alike_resolves n [] k st su a r = tt
alike_resolves n (Opens ∷ ms) k st su a r = alike_resolves n ms k ([] ∷ st) ([] ∷ su) (further a) r
alike_resolves n (Closes ∷ ms) k st su a r = alike_resolves n ms k (popped st) (popped su) (alike_popped st su a) r
alike_resolves n (Declares d ∷ ms) k st su a r = (alike_new d.name.text st su a r.0, alike_resolves n ms (k + 1) (with_decl d st) (with_decl d su) (alike_declared d st su a) r.1)
alike_resolves n (Uses i ∷ ms) k st su a r = (r.0 ∙ alike_found st su i.text a, alike_resolves n ms (k + 1) st su a r.1)
alike_resolves n (Calls i ∷ ms) k st su a r = (r.0 ∙ alike_found st su i.text a, alike_resolves n ms (k + 1) st su a r.1)

-- Names that differ.

abbrev pub Among : Decl → List Decl → Type 0
Among d [] = ⊥
Among d (x ∷ xs) = (x ≡ d) ⊎ Among d xs

not_named : (xs : List Decl) (t : List ℕ) (d : Decl) → NotNamed t xs → Among d xs → bytes_eq d.name.text t ≡ false
not_named [] t d h a = absurd a
not_named (x ∷ xs) t d h (inl e) = ap (λ (y : Decl). bytes_eq y.name.text t) (sym e) ∙ h.0
not_named (x ∷ xs) t d h (inr a) = not_named xs t d h.1 a

-- one of such names is found
pub found_there : (xs : List Decl) (d : Decl) (t : List ℕ) → AllNew xs → Among d xs → bytes_eq d.name.text t ≡ true → found_in xs t None ≡ Some d
found_there [] d t h a e = absurd a
found_there (x ∷ xs) d t h (inl q) e = ap (λ (b : Bool). decl_by b x (found_in xs t None)) (ap (λ (y : Decl). bytes_eq y.name.text t) q ∙ e) ∙ ap Some q
found_there (x ∷ xs) d t h (inr a) e = by (bytes_eq x.name.text t) refl (found_there xs d t h.1 a e)
  where
    same : (u v : List ℕ) → bytes_eq u v ≡ true → u ≡ v
    same u v q = (bytes_eq-Decides u v).0 q

    by : (b : Bool) → bytes_eq x.name.text t ≡ b → found_in xs t None ≡ Some d → decl_by b x (found_in xs t None) ≡ Some d
    by false q r = r
    by true q r = absurd (true≢false (sym ((bytes_eq-Decides d.name.text x.name.text).1 (same d.name.text t e ∙ sym (same x.name.text t q))) ∙ not_named xs x.name.text d h.0 a))

-- to declare such a name again changes nothing
pub declared_again : (gs : Frame) (a : Frame) (d : Decl) → AllNew gs → Among d gs → Alike (a ∷ []) (gs ∷ []) → Alike ((d ∷ a) ∷ []) (gs ∷ [])
declared_again gs a d h g k = bottom (λ t. by t (bytes_eq d.name.text t) refl)
  where
    by : (t : List ℕ) (b : Bool) → bytes_eq d.name.text t ≡ b → decl_by b d (found_in a t None) ≡ found_in gs t None
    by t true e = sym (found_there gs d t h g e)
    by t false e = alike_found (a ∷ []) (gs ∷ []) t k

-- the names of items

outer_quiet : (ms rest : List Mark) → Quiet ms → outer 0 (ms ++ rest) ≡ outer 0 rest
outer_quiet [] rest silent = refl
outer_quiet (Uses i ∷ ms) rest (quiet_use h) = outer_quiet ms rest h
outer_quiet (Calls i ∷ ms) rest (quiet_called h) = outer_quiet ms rest h
outer_quiet (Opens ∷ ms) rest h = elim h [ ]
outer_quiet (Closes ∷ ms) rest h = elim h [ ]
outer_quiet (Declares d ∷ ms) rest h = elim h [ ]

outer_inner : (ms rest : List Mark) (j : ℕ) → Inner ms → outer (suc j) (ms ++ rest) ≡ outer (suc j) rest
outer_inner [] rest j scopes.nothing = refl
outer_inner (Uses i ∷ ms) rest j (scopes.used a) = outer_inner ms rest j a
outer_inner (Calls i ∷ ms) rest j (scopes.called a) = outer_inner ms rest j a
outer_inner (Declares d ∷ ms) rest j (scopes.declared h a) = outer_inner ms rest j a
outer_inner (Closes ∷ ms) rest j a = elim a [ ]
outer_inner (Opens ∷ ks) rest j (scopes.scope {ms = ms} {rest = more} a b) =
    ap (outer (suc (suc j))) (append_assoc ms (Closes ∷ more) rest) ∙ outer_inner ms (Closes ∷ (more ++ rest)) (suc j) a ∙ outer_inner more rest j b

-- what an item declares
abbrev pub decl_of_item : ℕ → plain.Item → Decl
decl_of_item i (plain.port p) = record { name = p.name; what = what.Port p.dir }
decl_of_item i (plain.function h b) = record { name = h.name; what = what.Func i }

pub outer_item : (i : ℕ) (item : plain.Item) (rest : List Mark) → outer 0 (marks.of_item i item ++ rest) ≡ decl_of_item i item ∷ outer 0 rest
outer_item i (plain.port p) rest =
    ap (outer 0) (append_assoc (marks.optional marks.of_place p.place) (marks.declares p.name (what.Port p.dir) ∷ []) rest)
    ∙ outer_quiet (marks.optional marks.of_place p.place) (marks.declares p.name (what.Port p.dir) ∷ rest) (quiet_optional marks.of_place quiet_place p.place)
outer_item i (plain.function h b) rest =
    let inner = marks.each marks.of_param h.params ++ marks.of_body b in
    ap (λ (xs : List Decl). decl_of_item i (plain.function h b) ∷ xs)
    (ap (outer 1) (append_assoc inner (Closes ∷ []) rest) ∙ outer_inner inner (Closes ∷ rest) 0 (scopes.both _ _ (scopes.all marks.of_param scopes.of_param h.params) (scopes.of_body b)))
