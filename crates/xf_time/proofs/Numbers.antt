-- The numbers of routes, route by route.
use Rattle.std.proofs.Common.{◌≡◌, ◌<◌, inl, inr, ℕ, ◌+◌, ◌++◌, Bool, true, false, nat_eq, List, [], ◌∷◌, Option, Some, None, length, get_or, refl, sym, ap, ◌∙◌, subst, arith, length-append, lit<}
use Rattle.std.specs.Prelude.{Result, Ok, Err, IfErr, IfOk}
use Rattle.std.proofs.lemmas.Bool.{cases_lt}
use Rattle.std.proofs.lemmas.List.{get_or_append_left, get_or_push}
use Rattle.std.proofs.lemmas.Option.{get_or_from_slice_get, slice_get-get_or, slice_get_within}
use Rattle.std.specs.List.{slice_get}
use Rattle.std.specs.Str.Lines.{lines}
use Rattle.xs_instr.specs.declared.image.CoreImage.{CoreImage}
use Rattle.xs_instr.specs.declared.image.Image.{Image}
use Rattle.xs_instr.specs.Machine.{parts_by, parts_in}
use Rattle.xs_instr.specs.Valid.{AreGoodCores, Valid}
use Rattle.xf_time.specs.Bounds.{AreBounds, AreRouteNumbers, IsFirstBroken, by_form, by_place, by_hold, IsFirstHeld, IsHeld, IsNumberOf, code_of, first_broken, first_misplaced, routes_of}
use Rattle.xf_time.specs.Errors.{IfLine}
use Rattle.xf_time.specs.Routes.{IsGoodCode}
use Rattle.xf_time.specs.declared.reader.RouteLine.{RouteLine}
use Rattle.xf_time.specs.declared.reader.TimeErr.{TimeErr}
use Rattle.xf_time.specs.declared.reader.TimeErr.TheVariants as err

good_by : (k rest : CoreImage) (b : Bool) → IsGoodCode k.code → IsGoodCode rest.code → IsGoodCode (parts_by k rest b).code
good_by k rest true h g = h
good_by k rest false h g = g

good_parts : (n : ℕ) (ks : List CoreImage) (c : ℕ) → AreGoodCores n ks → IsGoodCode (parts_in ks c).code
good_parts n [] c h = record { few = lit< tt; good = tt }
good_parts n (k ∷ ks) c h =
    good_by k (parts_in ks c) (nat_eq k.number c) (record { few = h.2.few; good = h.2.code }) (good_parts (k.number + 1) ks c h.3)

-- the code of each core of an image that can be run is good
pub good_code : (image : Image) (core : ℕ) → Valid image → IsGoodCode (code_of image core)
good_code image core v = good_parts 0 image.cores core v.cores

-- the first i routes have these numbers
pub record NumbersTo (image : Image) (routes : List RouteLine) (numbers : List ℕ) (i : ℕ) : Type 0 where
  pub count : length numbers ≡ i
  pub each : (k : ℕ) (r : RouteLine) (n : ℕ) → slice_get routes k ≡ Some r → slice_get numbers k ≡ Some n → IsNumberOf image r.route n

-- one route more
pub one_more : (image : Image) (routes : List RouteLine) (numbers : List ℕ) (i n : ℕ) (d : RouteLine) → NumbersTo image routes numbers i →
    IsNumberOf image (get_or routes i d).route n → NumbersTo image routes (numbers ++ n ∷ []) (i + 1)
one_more image routes numbers i n d so is = record {
  count = let e = so.count in omega (arith, length-append numbers (n ∷ []), e);
  each = each;
}
  where
    earlier : (k : ℕ) (r : RouteLine) (m : ℕ) → k < i → slice_get routes k ≡ Some r → slice_get (numbers ++ n ∷ []) k ≡ Some m → IsNumberOf image r.route m
    earlier k r m h e f =
        let within : k < length numbers = let g = so.count in omega (arith, g, h) in
        so.each k r m e (slice_get-get_or numbers k 0 within
        ∙ ap Some (sym (get_or_append_left numbers (n ∷ []) 0 k within) ∙ get_or_from_slice_get (numbers ++ n ∷ []) k m 0 f))

    here : (k : ℕ) (r : RouteLine) (m : ℕ) → k ≡ i → slice_get routes k ≡ Some r → slice_get (numbers ++ n ∷ []) k ≡ Some m → IsNumberOf image r.route m
    here k r m g e f =
        let route : get_or routes i d ≡ r = ap (λ (j : ℕ). get_or routes j d) (sym g) ∙ get_or_from_slice_get routes k r d e in
        let number : n ≡ m = sym (get_or_push numbers n 0 k (so.count ∙ sym g)) ∙ get_or_from_slice_get (numbers ++ n ∷ []) k m 0 f in
        subst (λ (q : RouteLine). IsNumberOf image q.route m) route (subst (IsNumberOf image (get_or routes i d).route) number is)

    each : (k : ℕ) (r : RouteLine) (m : ℕ) → slice_get routes k ≡ Some r → slice_get (numbers ++ n ∷ []) k ≡ Some m → IsNumberOf image r.route m
    each k r m e f =
        let below : k < length (numbers ++ n ∷ []) = slice_get_within (numbers ++ n ∷ []) k m f in
        elim (cases_lt k i) [
          | inl h ↦ earlier k r m h e f
          | inr h ↦ here k r m (let g = so.count in omega (arith, length-append numbers (n ∷ []), g, h, below)) e f
        ]

-- all routes
pub all_numbers : (image : Image) (routes : List RouteLine) (numbers : List ℕ) (i : ℕ) → i ≡ length routes → NumbersTo image routes numbers i → AreRouteNumbers image routes numbers
all_numbers image routes numbers i e so = record { count = so.count ∙ e; each = so.each }

-- on the next route a thread may be held up
pub next_held : (image : Image) (routes : List RouteLine) (numbers : List ℕ) (i : ℕ) (d : RouteLine) → i < length routes → NumbersTo image routes numbers i →
    IsHeld image (get_or routes i d).route → IsFirstHeld image routes (get_or routes i d).line
next_held image routes numbers i d lt so held = record {
  index = i;
  route = get_or routes i d;
  here = slice_get-get_or routes i d lt;
  line_is = refl;
  held = held;
  others = λ k r h e g. (so.each k r (get_or numbers k 0) e (slice_get-get_or numbers k 0 (let c = so.count in omega (arith, c, h)))).not_held g;
}

-- where the routes have numbers, on none a thread may be held up
never_held : (image : Image) (routes : List RouteLine) (numbers : List ℕ) (line : ℕ) → AreRouteNumbers image routes numbers → IsFirstHeld image routes line → ⊥
never_held image routes numbers line are first =
    let within : first.index < length routes = slice_get_within routes first.index first.route first.here in
    (are.each first.index first.route (get_or numbers first.index 0) first.here
    (slice_get-get_or numbers first.index 0 (let c = are.count in omega (arith, c, within)))).not_held first.held

none_is_some : {A : Type 0} (x : A) (o : Option A) → o ≡ Some x → o ≡ None → ⊥
none_is_some x o e f = let h : None ≡ Some x = sym f ∙ e in cc

-- a text that has bounds has no first line that breaks a rule
pub not_both : (image : Image) (text numbers : List ℕ) (line rule : ℕ) → AreBounds image text numbers → IsFirstBroken image text line rule → ⊥
not_both image text numbers line rule b (by_form e) = none_is_some (line, rule) (first_broken 0 1 (lines text)) e b.formed
not_both image text numbers line _ b (by_place e f) = none_is_some line (first_misplaced image (routes_of text)) f b.placed
not_both image text numbers line _ b (by_hold e f first) = never_held image (routes_of text) numbers line b.are first

-- What an answer says.

pub ok_unbroken : (image : Image) (text : List ℕ) (r : Result (List ℕ) TimeErr) → IfOk r (λ ns. AreBounds image text ns) →
    IfOk r (λ ns. (n q : ℕ) → IsFirstBroken image text n q → ⊥)
ok_unbroken image text (Ok ns) h = λ n q f. not_both image text ns n q h f
ok_unbroken image text (Err e) h = tt

pub err_none : (image : Image) (text : List ℕ) (r : Result (List ℕ) TimeErr) → IfErr r (λ e. IfLine e (λ line rule. IsFirstBroken image text line rule)) →
    IfErr r (λ e. IfLine e (λ line rule. (ns : List ℕ) → AreBounds image text ns → ⊥))
err_none image text (Ok ns) h = tt
err_none image text (Err (err.Line line rule)) h = λ ns b. not_both image text ns line rule b h
err_none image text (Err err.Memory) h = tt

pub ok_bounds : (image : Image) (text : List ℕ) (routes : List RouteLine) (r : Result (List ℕ) TimeErr) → first_broken 0 1 (lines text) ≡ None →
    first_misplaced image routes ≡ None → routes ≡ routes_of text → IfOk r (λ ns. AreRouteNumbers image routes ns) → IfOk r (λ ns. AreBounds image text ns)
ok_bounds image text routes (Ok ns) e f g h = record {
  formed = e;
  placed = sym (ap (first_misplaced image) g) ∙ f;
  are = subst (λ (rs : List RouteLine). AreRouteNumbers image rs ns) g h;
}
ok_bounds image text routes (Err x) e f g h = tt

pub err_held : (image : Image) (text : List ℕ) (routes : List RouteLine) (r : Result (List ℕ) TimeErr) → first_broken 0 1 (lines text) ≡ None →
    first_misplaced image routes ≡ None → routes ≡ routes_of text →
    IfErr r (λ e. IfLine e (λ line rule. (rule ≡ 1004) × IsFirstHeld image routes line)) → IfErr r (λ e. IfLine e (λ line rule. IsFirstBroken image text line rule))
err_held image text routes (Ok ns) e f g h = tt
err_held image text routes (Err (err.Line line rule)) e f g h =
    subst (IsFirstBroken image text line) (sym h.0)
    (by_hold e (sym (ap (first_misplaced image) g) ∙ f) (subst (λ (rs : List RouteLine). IsFirstHeld image rs line) g h.1))
err_held image text routes (Err err.Memory) e f g h = tt

pub err_form : (image : Image) (text : List ℕ) (e : TimeErr) → IfLine e (λ line rule. first_broken 0 1 (lines text) ≡ Some (line, rule)) →
    IfLine e (λ line rule. IsFirstBroken image text line rule)
err_form image text (err.Line line rule) h = by_form h
err_form image text err.Memory h = tt
