-- How counts on the links change.
use Rattle.std.proofs.Common.{◌≡◌, ◌≤◌, ◌<◌, ◌+◌, ℕ, zero, suc, List, [], ◌∷◌, ◌++◌, Option, Some, None, length, refl, sym, ap, ◌∙◌, inl, inr, subst, arith}
use Rattle.std.specs.Prelude.{slice_get, slice_set, ◌≢◌, ◌⊎◌}
use Rattle.xs_instr.specs.declared.state.Item.{Item}
use Rattle.xs_instr.specs.declared.state.Moved.{Moved}
use Rattle.xs_instr.specs.Ends.{all_sent}
use Rattle.xs_instr.specs.Machine.{items_in, link_in, link_of, link_put, link_put_in, on_links}
use Rattle.xs_core.specs.Room.{Kind, weights, items_weight, on_way}
use Rattle.xs_core.proofs.Lists.{get_set, get_set_other}
use Rattle.xs_fabric.proofs.Links.{Links, get_put_other}
use Rattle.xs_core.proofs.Weights.{same_num, length_set, get_there}

-- four links out of each of four cores
pub record Square (links : Links) : Type 0 where
  pub rows : length links ≡ 4
  pub columns : (a : ℕ) (out : List (List Item)) → slice_get links a ≡ Some out → length out ≡ 4

pub some_is : {X : Type 0} (x y : X) → Some x ≡ Some y → x ≡ y
some_is x y h = cc

pub less_than : (a b : ℕ) → a < suc b → a ≢ b → a < b
less_than a b h ne = omega (arith, h, ne)

pub square_put : (links : Links) (a b : ℕ) (x : List Item) → Square links → Square (link_put links a b x)
square_put links a b x q = go (slice_get links a) refl
  where
    col : (out : List (List Item)) → slice_get links a ≡ Some out → (d : ℕ) (out' : List (List Item)) → slice_get (slice_set links a (slice_set out b x)) d ≡ Some out' → (a ≡ d) ⊎ (a ≢ d) → length out' ≡ 4
    col out h d out' g (inr n) = q.columns d out' (sym (get_set_other links a d (slice_set out b x) n) ∙ g)
    col out h d out' g (inl e) =
        let g' = subst (λ v. slice_get (slice_set links a (slice_set out b x)) v ≡ Some out') (sym e) g in
        let same = some_is _ _ (sym (get_set links a out (slice_set out b x) h) ∙ g') in
        sym (ap length same) ∙ length_set out b x ∙ q.columns a out h

    go : (o : Option (List (List Item))) → slice_get links a ≡ o → Square (link_put_in links a b x o)
    go None h = q
    go (Some out) h = record {
      rows = length_set links a _ ∙ q.rows;
      columns = λ d out' g. col out h d out' g (same_num a d);
    }

-- a link that is there can be written
pub get_put_there : (links : Links) (a b : ℕ) (x : List Item) → Square links → a < 4 → b < 4 → link_of (link_put links a b x) a b ≡ x
get_put_there links a b x q la lb =
    let rows = q.rows in
    let la' : a < length links = omega (arith, rows, la) in
    let row = get_there links a la' in
    let cols = q.columns a row.0 row.1 in
    let lb' : b < length row.0 = omega (arith, cols, lb) in
    let link = get_there row.0 b lb' in
    ap (λ o. link_of (link_put_in links a b x o) a b) row.1
    ∙ ap (λ r. link_in r b) (get_set links a row.0 (slice_set row.0 b x) row.1)
    ∙ ap items_in (get_set row.0 b link.0 x link.1)

pub get_put_column : (links : Links) (a b d e : ℕ) (x : List Item) → b ≢ e → link_of (link_put links a b x) d e ≡ link_of links d e
get_put_column links a b d e x n = go (slice_get links a) refl (same_num a d)
  where
    go : (o : Option (List (List Item))) → slice_get links a ≡ o → (a ≡ d) ⊎ (a ≢ d) → link_of (link_put_in links a b x o) d e ≡ link_of links d e
    go None h k = refl
    go (Some out) h (inr m) = ap (λ r. link_in r e) (get_set_other links a d (slice_set out b x) m)
    go (Some out) h (inl m) =
        let at_a : link_of (slice_set links a (slice_set out b x)) a e ≡ link_of links a e =
        ap (λ r. link_in r e) (get_set links a out (slice_set out b x) h) ∙ ap items_in (get_set_other out b e x n) ∙ sym (ap (λ r. link_in r e) h) in
        subst (λ v. link_of (slice_set links a (slice_set out b x)) v e ≡ link_of links v e) m at_a

pub way_column : (k : Kind) (e : ℕ) (links : Links) (a b c n : ℕ) (x : List Item) → b ≢ c → on_way k e (link_put links a b x) c n ≡ on_way k e links c n
way_column k e links a b c zero x ne = refl
way_column k e links a b c (suc n) x ne =
    let r = way_column k e links a b c n x ne in
    let s = ap (items_weight k e) (get_put_column links a b n c x ne) in
    omega (arith, r, s)

way_below : (k : Kind) (e : ℕ) (links : Links) (a b n : ℕ) (x : List Item) → n ≤ a → on_way k e (link_put links a b x) b n ≡ on_way k e links b n
way_below k e links a b zero x h = refl
way_below k e links a b (suc n) x h =
    let le : n ≤ a = omega arith in
    let ne : a ≢ n = omega arith in
    let r = way_below k e links a b n x le in
    let s = ap (items_weight k e) (get_put_other links a n b x ne) in
    omega (arith, r, s)

way_above : (k : Kind) (e : ℕ) (links : Links) (a b n : ℕ) (x : List Item) → Square links → a < 4 → b < 4 → a < n → on_way k e (link_put links a b x) b n + items_weight k e (link_of links a b) ≡ on_way k e links b n + items_weight k e x
way_above k e links a b zero x q la lb h = omega arith
way_above k e links a b (suc n) x q la lb h = go (same_num a n) (λ lt. way_above k e links a b n x q la lb lt)
  where
    last : on_way k e (link_put links a b x) b (suc a) + items_weight k e (link_of links a b) ≡ on_way k e links b (suc a) + items_weight k e x
    last =
        let r = way_below k e links a b a x (omega arith) in
        let s = ap (items_weight k e) (get_put_there links a b x q la lb) in
        omega (arith, r, s)

    go : (a ≡ n) ⊎ (a ≢ n) → (a < n → on_way k e (link_put links a b x) b n + items_weight k e (link_of links a b) ≡ on_way k e links b n + items_weight k e x) → on_way k e (link_put links a b x) b (suc n) + items_weight k e (link_of links a b) ≡ on_way k e links b (suc n) + items_weight k e x
    go (inl m) rest = subst (λ v. on_way k e (link_put links a b x) b (suc v) + items_weight k e (link_of links a b) ≡ on_way k e links b (suc v) + items_weight k e x) m last
    go (inr m) rest =
        let lt : a < n = omega arith in
        let r = rest lt in
        let s = ap (items_weight k e) (get_put_other links a n b x m) in
        omega (arith, r, s)

-- a link's count goes from that of what it held to that of what it holds
pub way_put : (k : Kind) (e : ℕ) (links : Links) (a b : ℕ) (x : List Item) → Square links → a < 4 → b < 4 → on_way k e (link_put links a b x) b 4 + items_weight k e (link_of links a b) ≡ on_way k e links b 4 + items_weight k e x
way_put k e links a b x q la lb = way_above k e links a b 4 x q la lb la

pub items_append : (k : Kind) (e : ℕ) (xs ys : List Item) → items_weight k e (xs ++ ys) ≡ items_weight k e xs + items_weight k e ys
items_append k e [] ys = omega arith
items_append k e (x ∷ xs) ys = let r = items_append k e xs ys in omega (arith, r)

pub square_sent : (links : Links) (c d tick : ℕ) (ms : List Moved) → Square links → Square (on_links links c (all_sent d tick ms))
square_sent links c d tick [] q = q
square_sent links c d tick (m ∷ ms) q = square_sent _ c d tick ms (square_put links c d _ q)

-- what is sent to core d is on its way there
pub way_sent : (k : Kind) (e : ℕ) (links : Links) (c d tick : ℕ) (ms : List Moved) → Square links → c < 4 → d < 4 → on_way k e (on_links links c (all_sent d tick ms)) d 4 ≡ on_way k e links d 4 + weights k e ms
way_sent k e links c d tick [] q lc ld = omega arith
way_sent k e links c d tick (m ∷ ms) q lc ld =
    let i : Item = record { tick = tick; moved = m } in
    let old = link_of links c d in
    let links1 = link_put links c d (old ++ i ∷ []) in
    let r = way_sent k e links1 c d tick ms (square_put links c d (old ++ i ∷ []) q) lc ld in
    let s = way_put k e links c d (old ++ i ∷ []) q lc ld in
    let t = items_append k e old (i ∷ []) in
    omega (arith, r, s, t)

-- and nowhere else
pub way_sent_other : (k : Kind) (e : ℕ) (links : Links) (c d x tick : ℕ) (ms : List Moved) → d ≢ x → on_way k e (on_links links c (all_sent d tick ms)) x 4 ≡ on_way k e links x 4
way_sent_other k e links c d x tick [] ne = refl
way_sent_other k e links c d x tick (m ∷ ms) ne =
    let links1 = link_put links c d (link_of links c d ++ record { tick = tick; moved = m } ∷ []) in
    way_sent_other k e links1 c d x tick ms ne ∙ way_column k e links c d x 4 _ ne
