-- Reading and writing links.
use Rattle.std.proofs.Common.{◌≡◌, ◌≤◌, ℕ, zero, suc, List, [], ◌∷◌, ◌++◌, Option, Some, None, refl, ap, ◌∙◌, arith}
use Rattle.std.specs.Prelude.{slice_get, slice_set, ◌≢◌}
use Rattle.xs_instr.specs.declared.state.Item.{Item}
use Rattle.xs_instr.specs.declared.state.Sent.{Sent}
use Rattle.xs_instr.specs.Machine.{items_in, link_in, link_of, link_put_in, link_put, on_links}
use Rattle.xs_fabric.specs.Lockstep.{late_from}
use Rattle.xs_core.proofs.Lists.{set_same, set_past, get_set, get_set_other, set_twice}

abbrev pub Links : Type 0
Links = List (List (List Item))

-- a link is written with what it holds
pub put_same : (links : Links) (a b : ℕ) → link_put links a b (link_of links a b) ≡ links
put_same links a b = go (slice_get links a) refl
  where
    row : (out : List (List Item)) (o : Option (List Item)) → slice_get out b ≡ o → slice_set out b (items_in o) ≡ out
    row out None h = set_past out b [] h
    row out (Some x) h = set_same out b x h

    go : (o : Option (List (List Item))) → slice_get links a ≡ o → link_put_in links a b (link_in o b) o ≡ links
    go None h = refl
    go (Some out) h = ap (λ r. slice_set links a r) (row out (slice_get out b) refl) ∙ set_same links a out h

pub put_twice : (links : Links) (a b : ℕ) (x y : List Item) → link_put (link_put links a b x) a b y ≡ link_put links a b y
put_twice links a b x y = go (slice_get links a) refl
  where
    go : (o : Option (List (List Item))) → slice_get links a ≡ o → link_put (link_put_in links a b x o) a b y ≡ link_put_in links a b y o
    go None h = rw h refl
    go (Some out) h =
        let e = get_set links a out (slice_set out b x) h in
        let step : link_put (slice_set links a (slice_set out b x)) a b y ≡ slice_set (slice_set links a (slice_set out b x)) a (slice_set (slice_set out b x) b y) = rw e refl in
        step ∙ set_twice links a _ _ ∙ ap (λ r. slice_set links a r) (set_twice out b x y)

-- a link that holds something can be written
pub get_put : (links : Links) (a b : ℕ) (i : Item) (is x : List Item) → link_of links a b ≡ i ∷ is → link_of (link_put links a b x) a b ≡ x
get_put links a b i is x = go (slice_get links a) refl
  where
    row : (out : List (List Item)) (o : Option (List Item)) → slice_get out b ≡ o → items_in o ≡ i ∷ is → items_in (slice_get (slice_set out b x) b) ≡ x
    row out None h k = cc
    row out (Some z) h k = ap items_in (get_set out b z x h)

    go : (o : Option (List (List Item))) → slice_get links a ≡ o → link_in o b ≡ i ∷ is → link_of (link_put_in links a b x o) a b ≡ x
    go None h k = cc
    go (Some out) h k = ap (λ r. link_in r b) (get_set links a out (slice_set out b x) h) ∙ row out (slice_get out b) refl k

pub get_put_other : (links : Links) (a d b : ℕ) (x : List Item) → a ≢ d → link_of (link_put links a b x) d b ≡ link_of links d b
get_put_other links a d b x n = go (slice_get links a)
  where
    go : (o : Option (List (List Item))) → link_of (link_put_in links a b x o) d b ≡ link_of links d b
    go None = refl
    go (Some out) = ap (λ r. link_in r b) (get_set_other links a d (slice_set out b x) n)

-- what came from lower cores changes no higher one's link
pub late_keeps : (links : Links) (c clock n d : ℕ) → n ≤ d → link_of (late_from links c clock n) d c ≡ link_of links d c
late_keeps links c clock zero d h = refl
late_keeps links c clock (suc n) d h =
    let ne : n ≢ d = omega arith in
    let le : n ≤ d = omega arith in
    get_put_other (late_from links c clock n) n d c _ ne ∙ late_keeps links c clock n d le

pub on_links_append : (links : Links) (c : ℕ) (xs ys : List Sent) → on_links links c (xs ++ ys) ≡ on_links (on_links links c xs) c ys
on_links_append links c [] ys = refl
on_links_append links c (x ∷ xs) ys = on_links_append _ c xs ys
