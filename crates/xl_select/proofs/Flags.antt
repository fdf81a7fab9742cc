-- The flags of the resources named so far: which of these an earlier enabled case has.
use Rattle.std.proofs.Common.{◌≡◌, ◌≢◌, ℕ, ◌+◌, ◌<◌, ◌≤◌, ◌⊎◌, Bool, true, false, ◌||◌, List, [], ◌∷◌, ◌++◌, length, Option, Some, None, refl, sym, ap, ◌∙◌, subst, arith, inl, inr, get_or, eq-eqb, true≢false}
use Rattle.std.specs.Prelude.{slice_get, slice_set, if◌then◌else◌}
use Rattle.std.proofs.lemmas.Option.{same_Some, slice_get-get_or}
use Rattle.xc_kernel.specs.declared.statement.KRes.{KRes}
use Rattle.xc_kernel.specs.declared.statement.KRes.TheVariants.{Port, Timer, Chan}
use Rattle.xc_kernel.specs.Values.{is_true}
use Rattle.xc_meaning.specs.Settings.Select.{same_resource}
use Rattle.xc_meaning.specs.States.Items.{Choice}
use Rattle.xl_expr.proofs.Lists.{get_set_other, get_set_same}
use Rattle.xl_select.specs.OpeningCode.{place_from}
use Rattle.xl_select.proofs.Along.{is_seen}
use Rattle.xl_select.proofs.AlongCases.{same_is}
use Rattle.xl_select.proofs.Arming.{in_one_more}
use Rattle.xl_select.proofs.Moves.{Opener}
use Rattle.xl_select.proofs.Values.{LastsSaved}

same_self : (r : KRes) → same_resource r r ≡ true
same_self (Port p) = eq-eqb p p refl
same_self (Timer t) = eq-eqb t t refl
same_self (Chan c) = eq-eqb c c refl

not_none : (f : ℕ) → Some f ≡ None → ⊥
not_none f e = cc

-- places among resources

-- the first of two, where it is there
abbrev or_else : Option ℕ → Option ℕ → Option ℕ
or_else (Some n) other = Some n
or_else None other = other

abbrev found_if : Bool → ℕ → Option ℕ
found_if b n = if b then Some n else None

place_more : (n : ℕ) (qs : List KRes) (q r : KRes) →
    place_from n (qs ++ q ∷ []) r ≡ or_else (place_from n qs r) (found_if (same_resource q r) (n + length qs))
place_more n [] q r = let e : n ≡ n + 0 = omega arith in ap (found_if (same_resource q r)) e
place_more n (x ∷ qs) q r = by (same_resource x r) (place_more (n + 1) qs q r)
  where
    by : (b : Bool) →
        place_from (n + 1) (qs ++ q ∷ []) r ≡ or_else (place_from (n + 1) qs r) (found_if (same_resource q r) (n + 1 + length qs)) →
        (if b then Some n else place_from (n + 1) (qs ++ q ∷ []) r) ≡ or_else (if b then Some n else place_from (n + 1) qs r) (found_if (same_resource q r) (n + length (x ∷ qs)))
    by true h = refl
    by false h =
        let e : n + 1 + length qs ≡ n + length (x ∷ qs) = omega arith in
        h ∙ ap (λ k. or_else (place_from (n + 1) qs r) (found_if (same_resource q r) k)) e

place_bound : (n : ℕ) (qs : List KRes) (r : KRes) (f : ℕ) → place_from n qs r ≡ Some f → (n ≤ f) × (f < n + length qs)
place_bound n [] r f h = cc
place_bound n (x ∷ qs) r f h = by (same_resource x r) h (λ g. place_bound (n + 1) qs r f g)
  where
    by : (b : Bool) → (if b then Some n else place_from (n + 1) qs r) ≡ Some f →
        (place_from (n + 1) qs r ≡ Some f → (n + 1 ≤ f) × (f < n + 1 + length qs)) → (n ≤ f) × (f < n + length (x ∷ qs))
    by true e more = let same = same_Some n f e in (omega (arith, same), omega (arith, same))
    by false e more = let x = more e in (omega (arith, x.0), omega (arith, x.1))

place_alike : (n : ℕ) (qs : List KRes) (q r : KRes) (f : ℕ) → place_from n qs q ≡ Some f → place_from n qs r ≡ Some f → q ≡ r
place_alike n [] q r f h g = cc
place_alike n (x ∷ qs) q r f h g = by (same_resource x q) (same_resource x r) refl refl h g (λ h g. place_alike (n + 1) qs q r f h g)
  where
    by : (b c : Bool) → same_resource x q ≡ b → same_resource x r ≡ c → (if b then Some n else place_from (n + 1) qs q) ≡ Some f →
        (if c then Some n else place_from (n + 1) qs r) ≡ Some f →
        (place_from (n + 1) qs q ≡ Some f → place_from (n + 1) qs r ≡ Some f → q ≡ r) → q ≡ r
    by true true e d h g more = sym (same_is x q e) ∙ same_is x r d
    by true false e d h g more = let at = same_Some n f h in let least = place_bound (n + 1) qs r f g in absurd (omega (arith, at, least.0))
    by false true e d h g more = let at = same_Some n f g in let least = place_bound (n + 1) qs q f h in absurd (omega (arith, at, least.0))
    by false false e d h g more = more h g

pub place_few : (seen : List KRes) (r : KRes) (f : ℕ) → place_from 0 seen r ≡ Some f → f < length seen
place_few seen r f h = let x = place_bound 0 seen r f h in omega (arith, x.1)

-- a resource that isn't there comes last
module _ (seen : List KRes) (r : KRes) (new : place_from 0 seen r ≡ None) where
  pub place_new : place_from 0 (seen ++ r ∷ []) r ≡ Some (length seen)
  place_new =
      let e : 0 + length seen ≡ length seen = omega arith in
      place_more 0 seen r r
      ∙ ap (λ o. or_else o (found_if (same_resource r r) (0 + length seen))) new
      ∙ ap (λ b. found_if b (0 + length seen)) (same_self r)
      ∙ ap Some e

  pub place_old : (q : KRes) (n : ℕ) → same_resource r q ≡ false → place_from 0 (seen ++ r ∷ []) q ≡ Some n → place_from 0 seen q ≡ Some n
  place_old q n other h =
      sym (or_none (place_from 0 seen q))
      ∙ ap (λ b. or_else (place_from 0 seen q) (found_if b (0 + length seen))) (sym other)
      ∙ sym (place_more 0 seen r q)
      ∙ h
    where
      or_none : (o : Option ℕ) → or_else o None ≡ o
      or_none None = refl
      or_none (Some n) = refl

place_gone : (seen : List KRes) (r q : KRes) → place_from 0 (seen ++ r ∷ []) q ≡ None → place_from 0 seen q ≡ None
place_gone seen r q h = by (place_from 0 seen q) (sym (place_more 0 seen r q) ∙ h)
  where
    by : (o : Option ℕ) → or_else o (found_if (same_resource r q) (0 + length seen)) ≡ None → o ≡ None
    by None e = refl
    by (Some n) e = e

-- Where a resource is enabled, and where not: with one more, if so.

abbrev pub marked : Bool → KRes → List KRes → List KRes
marked true r on = r ∷ on
marked false r on = on

marked_other : (b : Bool) (r q : KRes) (on : List KRes) → same_resource r q ≡ false → is_seen (marked b r on) q ≡ is_seen on q
marked_other true r q on other = ap (λ x. x || is_seen on q) other
marked_other false r q on other = refl

marked_same : (b : Bool) (r : KRes) (on : List KRes) → is_seen on r ≡ false → is_seen (marked b r on) r ≡ b
marked_same true r on off = ap (λ x. x || is_seen on r) (same_self r)
marked_same false r on off = off

-- each resource named so far has a flag, which isn't 0 where it is enabled
pub record Flags (s : ℕ) (seen on : List KRes) (words : List ℕ) : Type 0 where
  pub by : (r : KRes) (f : ℕ) → place_from 0 seen r ≡ Some f → (v : ℕ) × (slice_get words (s + f) ≡ Some v) × (is_true v ≡ is_seen on r)

-- flags last where the words that are relied on and saved do
pub flags_last : (o : Opener) (seen on : List KRes) → length seen ≤ 112 → LastsSaved o (Flags o.s seen on)
flags_last o seen on few = record {
  by = λ xs ys same h. record {
    by = λ r f e.
        let x = h.by r f e in
        let lt = place_few seen r f e in
        (x.0, same (o.s + f) (o.temporaries f (omega arith)) (inl (omega arith)) ∙ x.1, x.2);
  };
}

-- a resource's flag is set by a word
pub flag_set : (s : ℕ) (seen seen' on : List KRes) (r : KRes) (f v : ℕ) (ws : List ℕ) → place_from 0 seen' r ≡ Some f →
    ((q : KRes) (n : ℕ) → same_resource r q ≡ false → place_from 0 seen' q ≡ Some n → place_from 0 seen q ≡ Some n) → is_seen on r ≡ false →
    s + f < length ws → Flags s seen on ws → Flags s seen' (marked (is_true v) r on) (slice_set ws (s + f) v)
flag_set s seen seen' on r f v ws at old off inside h = record { by = λ q n e. by q n e (same_resource r q) refl }
  where
    on' : List KRes
    on' = marked (is_true v) r on

    there : slice_get ws (s + f) ≡ Some (get_or ws (s + f) 0)
    there = slice_get-get_or ws (s + f) 0 inside

    by : (q : KRes) (n : ℕ) → place_from 0 seen' q ≡ Some n → (b : Bool) → same_resource r q ≡ b →
        (u : ℕ) × (slice_get (slice_set ws (s + f) v) (s + n) ≡ Some u) × (is_true u ≡ is_seen (marked (is_true v) r on) q)
    by q n e true same =
        let is = same_is r q same in
        let place : f ≡ n = same_Some f n (sym at ∙ ap (place_from 0 seen') is ∙ e) in (
          v,
          subst (λ m. slice_get (slice_set ws (s + f) v) (s + m) ≡ Some v) place (get_set_same ws (s + f) (get_or ws (s + f) 0) v there),
          sym (marked_same (is_true v) r on off) ∙ ap (is_seen (marked (is_true v) r on)) is,
        )
    by q n e false other =
        let x = h.by q n (old q n other e) in
        let far : s + n ≢ s + f = λ d.
        let place : n ≡ f = omega (arith, d) in
        let alike = place_alike 0 seen' r q f at (e ∙ ap Some place) in
        true≢false (sym (same_self r) ∙ ap (same_resource r) alike ∙ other) in
        (x.0, get_set_other ws (s + f) (s + n) v far ∙ x.1, x.2 ∙ sym (marked_other (is_true v) r q on other))

-- What is known of the cases that are done: their resources are marked, and marked ones have a flag.
pub record Known (seen on : List KRes) (done : List Choice) : Type 0 where
  pub done_on : (n : ℕ) (d : Choice) → slice_get done n ≡ Some d → is_seen on d.input.resource ≡ true
  pub on_seen : (r : KRes) → place_from 0 seen r ≡ None → is_seen on r ≡ false

pub nothing_known : Known [] [] []
nothing_known = record { done_on = λ n d h. absurd (none n d h); on_seen = λ r h. refl }
  where
    none : (n : ℕ) (d : Choice) → slice_get [] n ≡ Some d → ⊥
    none n d h = cc

pub known_with : (seen : List KRes) (r : KRes) (on : List KRes) (done : List Choice) → Known seen on done → Known (seen ++ r ∷ []) on done
known_with seen r on done h = record { done_on = h.done_on; on_seen = λ q e. h.on_seen q (place_gone seen r q e) }

pub known_on : (seen on : List KRes) (done : List Choice) (c : Choice) (f : ℕ) → place_from 0 seen c.input.resource ≡ Some f →
    Known seen on done → Known seen (c.input.resource ∷ on) (done ++ c ∷ [])
known_on seen on done c f at h = record {
  done_on = λ n d e. done_by n d (in_one_more done c d n e);
  on_seen = λ q e. on_by q e (same_resource c.input.resource q) refl;
}
  where
    r : KRes
    r = c.input.resource

    or_true : (b : Bool) → (b || true) ≡ true
    or_true true = refl
    or_true false = refl

    done_by : (n : ℕ) (d : Choice) → (slice_get done n ≡ Some d) ⊎ (d ≡ c) → is_seen (c.input.resource ∷ on) d.input.resource ≡ true
    done_by n d (inl e) = ap (λ b. same_resource c.input.resource d.input.resource || b) (h.done_on n d e) ∙ or_true (same_resource c.input.resource d.input.resource)
    done_by n d (inr e) =
        ap (λ (x : Choice). same_resource c.input.resource x.input.resource || is_seen on x.input.resource) e
        ∙ ap (λ b. b || is_seen on c.input.resource) (same_self c.input.resource)

    on_by : (q : KRes) → place_from 0 seen q ≡ None → (b : Bool) → same_resource c.input.resource q ≡ b →
        is_seen (c.input.resource ∷ on) q ≡ false
    on_by q e true same = absurd (not_none f (sym at ∙ ap (place_from 0 seen) (same_is c.input.resource q same) ∙ e))
    on_by q e false other = ap (λ b. b || is_seen on q) other ∙ h.on_seen q e

-- so those that are done stand apart from a resource that isn't marked
pub done_other : (seen on : List KRes) (done : List Choice) (r : KRes) → Known seen on done → is_seen on r ≡ false → (n : ℕ) (d : Choice) →
    slice_get done n ≡ Some d → d.input.resource ≢ r
done_other seen on done r h off n d e same = true≢false (sym (h.done_on n d e) ∙ ap (is_seen on) same ∙ off)
