-- The laws hold at the start.
use Rattle.std.proofs.Common.{◌≡◌, ◌≢◌, ◌⊎◌, inl, inr, ⊎_elim, ℕ, zero, suc, ◌+◌, ◌<◌, ◌≤◌, IsTrue, List, [], ◌∷◌, length, map, Option, Some, None, slice_get, slice_index_or, refl, sym, ap, subst, ◌∙◌, arith}
use Rattle.xc_kernel.specs.declared.kernel.Chan.{Chan}
use Rattle.xc_kernel.specs.Plain as kernel
use Rattle.xc_meaning.specs.States.Channels.{Side}
use Rattle.xc_meaning.specs.States.Items.{does}
use Rattle.xc_meaning.specs.States.Branches.{runs, ended, erred, Branch, side_of}
use Rattle.xc_meaning.specs.Settings.Sides.{side_in}
use Rattle.xc_meaning.specs.Runs.{codes_of_roots, kernel_root, kernel_start, no_side, root_branches}
use Rattle.xc_kernel.specs.Things.{channel, by_statements}
use Rattle.xc_meaning.specs.Uses.{by_items}
use Rattle.xc_invariants.specs.Every.{AllItems}
use Rattle.xc_invariants.specs.Each.{EachItem}
use Rattle.xc_invariants.specs.Tree.{IsForest, Unrelated}
use Rattle.xc_kernel.specs.Branches.{branches_of}
use Rattle.xc_kernel.specs.Uses.{once}
use Rattle.xc_kernel.specs.Branches.{users}
use Rattle.xc_invariants.specs.Sided.{ItemBySide, SidedAt, Differ, OtherSides, IsSided}
use Rattle.xc_invariants.proofs.Uses.{todo_uses}
use Rattle.xc_invariants.proofs.Trees.{waiting_is, running_waits_not}
use Rattle.xc_invariants.proofs.Starts.{start_at}
use Rattle.xc_invariants.proofs.Lookups.{front_of, next_of}
use Rattle.xc_invariants.proofs.Sides.{count, Stands, two_of, differ_of_two, sided_items, sides_at, sides_length}
use Rattle.xc_invariants.specs.Lawful.{EachLong}

no_sides_long : (cs : List Chan) → length (map no_side cs) ≡ length cs
no_sides_long [] = refl
no_sides_long (c ∷ cs) = ap suc (no_sides_long cs)

no_side_at : (cs : List Chan) (c : ℕ) → slice_index_or (map no_side cs) c None ≡ None
no_side_at [] c = refl
no_side_at (d ∷ cs) zero = refl
no_side_at (d ∷ cs) (suc c) = no_side_at cs c

roots_length : (number : ℕ) (before : List kernel.Statements) (sides : List (Option Side)) (rs : List kernel.Root) → length (root_branches number before sides (map kernel_root rs)) ≡ length rs
roots_length number before sides [] = refl
roots_length number before sides (r ∷ rs) = ap suc (roots_length (number + 1) (r.body ∷ before) sides rs)

module _ (K : kernel.Kernel) where
  abbrev start : List Branch
  start = (kernel_start K).branches

  abbrev codes : List kernel.Statements
  codes = codes_of_roots (map kernel_root K.roots)

  starts_running : (n : ℕ) (b : Branch) → slice_get start n ≡ Some b → b.mode ≡ runs
  starts_running n b e = ap (λ d. d.mode) (start_at K n b e).is

  pub forest_begins : IsForest (length K.roots) start
  forest_begins = record {
    stopped = λ n b e h. ⊎_elim (λ f. let g : runs ≡ ended = sym (starts_running n b e) ∙ f in absurd cc) (λ f. let g : runs ≡ erred = sym (starts_running n b e) ∙ f in absurd cc) h;
    all_there = let l = roots_length 0 [] (map no_side K.channels) K.roots in omega arith;
    family = λ n k p from count e ew. running_waits_not (starts_running n p e) (waiting_is ew);
    own = λ n k p c from count e ew le lt ec. running_waits_not (starts_running n p e) (waiting_is ew);
    one_parent = λ n m k a b. running_waits_not (starts_running n a.parent a.is) (waiting_is a.waiting);
    born = λ n b e lt. ap (λ d. d.birth) (start_at K n b e).is;
  }

  pub long_begins : EachLong (length K.channels) start
  long_begins = record {
    long = λ n b e. let r = start_at K n b e in ap (λ d. length d.sides) r.is ∙ sides_length 0 (front_of [] codes n) r.root.body (next_of codes n) (map no_side K.channels) ∙ no_sides_long K.channels;
  }

  module _ (k : IsSided K) (c : ℕ) (lt : c < length K.channels) where
    pub root_stands : (n : ℕ) (b : Branch) (e : slice_get start n ≡ Some b) → Stands c codes n (start_at K n b e).root.body None (slice_index_or b.sides c None)
    root_stands n b e =
        let r = start_at K n b e in
        let l = no_sides_long K.channels in
        record {
          code = r.code_there;
          side = ap (λ d. slice_index_or d.sides c None) r.is
              ∙ sides_at c 0 (front_of [] codes n) r.root.body (next_of codes n) (map no_side K.channels) (omega arith)
              ∙ (λ i. side_in ((let z : 0 + c ≡ c = omega arith in z) i) (front_of [] codes n) r.root.body (next_of codes n) (no_side_at K.channels c i));
        }

    pub users_of : (rs : List kernel.Root) → count c (codes_of_roots (map kernel_root rs)) ≡ users c (branches_of rs)
    users_of [] = refl
    users_of (r ∷ rs) = let h = users_of rs in ap (λ n. once (by_statements (channel c) r.body) + n) h

    pub sided_begins : EachItem (SidedAt c) start
    sided_begins = record {
      all = λ n b e. let r = start_at K n b e in
          subst (AllItems (ItemBySide c (slice_index_or b.sides c None))) (sym (ap (λ d. d.items) r.is))
          (sided_items c r.root.body codes n (slice_index_or b.sides c None) None (branches_of K.roots) (root_stands n b e) (users_of K.roots) r.code (k.sided c lt));
    }

    begin_by : (i j : ℕ) (a b : kernel.Statements) (xs ys : Option Side) → ItemBySide c None (does (kernel.par (branches_of K.roots))) → i ≢ j → Stands c codes i a None xs → Stands c codes j b None ys →
        by_statements (channel c) a ≡ Rattle.std.proofs.Common.true → by_statements (channel c) b ≡ Rattle.std.proofs.Common.true → Differ xs ys
    begin_by i j a b xs ys (inl p) ne h g e f =
        let two = two_of c codes i j a b h.code g.code e f ne in
        let u = users_of K.roots in
        let one = p.0 in
        absurd (omega arith)
    begin_by i j a b xs ys (inr p) ne h g e f = differ_of_two c h g e f ne (users_of K.roots ∙ p.0)

    code_used : (n : ℕ) (b : Branch) (e : slice_get start n ≡ Some b) → IsTrue (by_items (channel c) b.items) → by_statements (channel c) (start_at K n b e).root.body ≡ Rattle.std.proofs.Common.true
    code_used n b e u =
        let r = start_at K n b e in
        todo_uses (channel c) r.root.body (subst (λ items. IsTrue (by_items (channel c) items)) (ap (λ d. d.items) r.is) u)

    pub other_begins : Unrelated (OtherSides c) start
    other_begins = record {
      pair = λ n m b d e f ne. inr (inr (record {
        differ = λ u v. begin_by n m (start_at K n b e).root.body (start_at K m d f).root.body (side_of b c) (side_of d c) (k.sided c lt) ne (root_stands n b e) (root_stands m d f) (code_used n b e u) (code_used m d f v);
      }));
    }
