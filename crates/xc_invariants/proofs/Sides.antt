-- The sides of channels: each channel that a branch uses itself has a side there, and two branches that use one are on other sides.
use Rattle.std.proofs.Common.{◌≡◌, ◌≢◌, ◌⊎◌, inl, inr, ⊎_elim, ℕ, zero, suc, ◌+◌, ◌<◌, ◌≤◌, Bool, true, false, IsTrue, List, [], ◌∷◌, length, map, Option, Some, None, slice_get, slice_index_or, refl, sym, ap, ap₂, subst, ◌∙◌, true≢false, arith}
use Rattle.xs_instr.specs.declared.image.Stim.{Stim}
use Rattle.xc_kernel.specs.Plain as kernel
use Rattle.xc_meaning.specs.States.Channels.{Side, first, second}
use Rattle.xc_meaning.specs.States.Items.{Item, does, ends, todo}
use Rattle.xc_meaning.specs.States.Branches.{Branch, runs, side_of}
use Rattle.xc_meaning.specs.States.Worlds.{World}
use Rattle.xc_meaning.specs.Settings.Setting.{Setting}
use Rattle.xc_meaning.specs.Settings.Par.{Begun, all_begun, codes_of, children}
use Rattle.xc_meaning.specs.Settings.Sides.{one_uses, side_by, side_in, sides_in}
use Rattle.xc_meaning.specs.Runs.{step_of}
use Rattle.xc_kernel.specs.Things.{channel, by_statements}
use Rattle.xc_meaning.specs.Uses.{by_items}
use Rattle.xc_invariants.specs.Every.{AllItems, EveryStatements}
use Rattle.xc_invariants.specs.Each.{EachItem}
use Rattle.xc_invariants.specs.Tree.{IsForest, Unrelated}
use Rattle.xc_invariants.specs.Rules.{AnyThing, AnyTransaction, code_at}
use Rattle.xc_kernel.specs.Uses.{once}
use Rattle.xc_kernel.specs.Branches.{users}
use Rattle.xc_invariants.specs.Sided.{AtMostOne, LoneItem, LoneBranches, UnsidedItem, UnsidedStatements, UnsidedBranches, ItemBySide, SidedAt, Differ, OtherSides}
use Rattle.xc_meaning.specs.Outline.{Becomes, goes, enters, exits, errs, ends_it, makes, Moved, ticked, stepped, joined}
use Rattle.xc_meaning.proofs.Basics.{some_given, none_given, true_or_false}
use Rattle.xc_invariants.proofs.Inherited.{Inherits, all_todo}
use Rattle.xc_invariants.proofs.EveryItem.{every_inherits, every_statements}
use Rattle.xc_invariants.proofs.Unsided.{unsided_inherits, unsided_statements, unused_statements}
use Rattle.xc_invariants.proofs.Lookups.{Behind, itself, there, new, behind, front_of, next_of, born}
use Rattle.xc_invariants.proofs.EachItems.{each_kept}
use Rattle.xc_invariants.specs.Lawful.{KernelsAt, EachLong}
use Rattle.xc_invariants.proofs.Uses.{IsKernels, becomes_uses, made_uses, todo_uses}
use Rattle.xc_invariants.proofs.Pairs.{IsKept, pairs_kept}

module _ (c : ℕ) where
  -- how many of some pieces of code use the channel
  abbrev pub count : List kernel.Statements → ℕ
  count [] = 0
  count (a ∷ rest) = once (by_statements (channel c) a) + count rest

  some_count : (a : kernel.Statements) (rest : List kernel.Statements) → ((by_statements (channel c) a ≡ true) ⊎ (by_statements (channel c) a ≡ false)) →
      ((one_uses c rest ≡ false) × (count rest ≡ 0)) ⊎ ((one_uses c rest ≡ true) × (0 < count rest)) → ((one_uses c (a ∷ rest) ≡ false) × (count (a ∷ rest) ≡ 0)) ⊎ ((one_uses c (a ∷ rest) ≡ true) × (0 < count (a ∷ rest)))
  some_count a rest (inl e) h = inr (ap (λ b. Rattle.std.proofs.Common.◌||◌ b (one_uses c rest)) e, let o = ap once e in omega arith)
  some_count a rest (inr e) (inl h) = inl (ap₂ Rattle.std.proofs.Common.◌||◌ e h.0, let o = ap once e in let z = h.1 in omega arith)
  some_count a rest (inr e) (inr h) = inr (ap₂ Rattle.std.proofs.Common.◌||◌ e h.0, let z = h.1 in omega arith)

  pub uses_count : (rest : List kernel.Statements) → ((one_uses c rest ≡ false) × (count rest ≡ 0)) ⊎ ((one_uses c rest ≡ true) × (0 < count rest))
  uses_count [] = inl (refl, refl)
  uses_count (a ∷ rest) = some_count a rest (true_or_false (by_statements (channel c) a)) (uses_count rest)

  none_uses : (rest : List kernel.Statements) → count rest ≡ 0 → one_uses c rest ≡ false
  none_uses rest e = ⊎_elim (λ h. h.0) (λ h. let l = h.1 in absurd (omega arith)) (uses_count rest)

  some_uses : (rest : List kernel.Statements) → 0 < count rest → one_uses c rest ≡ true
  some_uses rest e = ⊎_elim (λ h. let l = h.1 in absurd (omega arith)) (λ h. h.0) (uses_count rest)

  pub counted : (before cs : List kernel.Statements) (j : ℕ) (a : kernel.Statements) → slice_get cs j ≡ Some a → count (front_of before cs j) + (once (by_statements (channel c) a) + count (next_of cs j)) ≡ count before + count cs
  counted before [] j a e = none_given e
  counted before (b ∷ cs) zero a e = let o = ap (λ d. once (by_statements (channel c) d)) (some_given e) in omega arith
  counted before (b ∷ cs) (suc j) a e = let h = counted (b ∷ before) cs j a e in omega arith

  pub front_least : (before cs : List kernel.Statements) (j : ℕ) → count before ≤ count (front_of before cs j)
  front_least before cs zero = omega arith
  front_least before [] (suc j) = omega arith
  front_least before (b ∷ cs) (suc j) = let h = front_least (b ∷ before) cs j in omega arith

  front_grows : (before cs : List kernel.Statements) (i j : ℕ) (a : kernel.Statements) → slice_get cs i ≡ Some a → i < j → count (front_of before cs i) + once (by_statements (channel c) a) ≤ count (front_of before cs j)
  front_grows before [] i j a e lt = none_given e
  front_grows before (b ∷ cs) zero zero a e lt = absurd (omega arith)
  front_grows before (b ∷ cs) zero (suc j) a e lt = let h = front_least (b ∷ before) cs j in let o = ap (λ d. once (by_statements (channel c) d)) (some_given e) in omega arith
  front_grows before (b ∷ cs) (suc i) zero a e lt = absurd (omega arith)
  front_grows before (b ∷ cs) (suc i) (suc j) a e lt = front_grows (b ∷ before) cs i j a e (omega arith)

  -- the side that a branch with this code has, among these, where its maker's is this
  pub record Stands (cs : List kernel.Statements) (j : ℕ) (a : kernel.Statements) (makers its : Option Side) : Type 0 where
    pub code : slice_get cs j ≡ Some a
    pub side : its ≡ side_in c (front_of [] cs j) a (next_of cs j) makers

  pub unused_side : {cs : List kernel.Statements} {j : ℕ} {a : kernel.Statements} {its : Option Side} → Stands cs j a None its → by_statements (channel c) a ≡ false → its ≡ None
  unused_side {cs} {j} h e = h.side ∙ ap (λ b. side_by b (one_uses c (front_of [] cs j)) (one_uses c (next_of cs j))) e

  pub lone_side : {cs : List kernel.Statements} {j : ℕ} {a : kernel.Statements} {its : Option Side} → Stands cs j a None its → by_statements (channel c) a ≡ true → count cs ≤ 1 → its ≡ None
  lone_side {cs} {j} {a} h e le =
      let k = counted [] cs j a h.code in
      let o = ap once e in
      let f = none_uses (front_of [] cs j) (omega arith) in
      let n = none_uses (next_of cs j) (omega arith) in
      h.side ∙ (λ i. side_by (e i) (f i) (n i))

  -- of two, the first has none in front of it
  pub data IsOneOfTwo (cs : List kernel.Statements) (j : ℕ) (its : Option Side) : Type 0 where
    as_first : its ≡ Some first → count (front_of [] cs j) ≡ 0 → IsOneOfTwo cs j its
    as_second : its ≡ Some second → count (front_of [] cs j) ≡ 1 → IsOneOfTwo cs j its

  by_front : {cs : List kernel.Statements} {j : ℕ} {a : kernel.Statements} {its : Option Side} → Stands cs j a None its → by_statements (channel c) a ≡ true → count cs ≡ 2 →
      ((one_uses c (front_of [] cs j) ≡ false) × (count (front_of [] cs j) ≡ 0)) ⊎ ((one_uses c (front_of [] cs j) ≡ true) × (0 < count (front_of [] cs j))) → IsOneOfTwo cs j its
  by_front {cs} {j} {a} h e two (inl f) =
      let k = counted [] cs j a h.code in
      let o = ap once e in
      let z = f.1 in
      let n = some_uses (next_of cs j) (omega arith) in
      as_first (h.side ∙ (λ i. side_by (e i) (f.0 i) (n i))) f.1
  by_front {cs} {j} {a} h e two (inr f) =
      let k = counted [] cs j a h.code in
      let o = ap once e in
      let z = f.1 in
      as_second (h.side ∙ (λ i. side_by (e i) (f.0 i) (one_uses c (next_of cs j)))) (omega arith)

  pub side_of_two : {cs : List kernel.Statements} {j : ℕ} {a : kernel.Statements} {its : Option Side} → Stands cs j a None its → by_statements (channel c) a ≡ true → count cs ≡ 2 → IsOneOfTwo cs j its
  side_of_two {cs} {j} h e two = by_front h e two (uses_count (front_of [] cs j))

  differ_by : {x y : Option Side} (a b : Side) → x ≡ Some a → y ≡ Some b → Differ (Some a) (Some b) → Differ x y
  differ_by {x} {y} a b e f h = subst (λ o. Differ o y) (sym e) (subst (Differ (Some a)) (sym f) h)

  differ_ordered : {cs : List kernel.Statements} {i j : ℕ} {a : kernel.Statements} {x y : Option Side} → Stands cs i a None x → by_statements (channel c) a ≡ true → i < j → IsOneOfTwo cs i x → IsOneOfTwo cs j y → Differ x y × Differ y x
  differ_ordered {cs} {i} {j} {a} h e lt (as_first ex fx) (as_second ey fy) = (differ_by first second ex ey tt, differ_by second first ey ex tt)
  differ_ordered {cs} {i} {j} {a} h e lt (as_first ex fx) (as_first ey fy) = let g = front_grows [] cs i j a h.code lt in let o = ap once e in absurd (omega arith)
  differ_ordered {cs} {i} {j} {a} h e lt (as_second ex fx) (as_first ey fy) = let g = front_grows [] cs i j a h.code lt in let o = ap once e in absurd (omega arith)
  differ_ordered {cs} {i} {j} {a} h e lt (as_second ex fx) (as_second ey fy) = let g = front_grows [] cs i j a h.code lt in let o = ap once e in absurd (omega arith)

  order : (i j : ℕ) → i ≢ j → (i < j) ⊎ (j < i)
  order i j ne = grind arith

  pub differ_of_two : {cs : List kernel.Statements} {i j : ℕ} {a b : kernel.Statements} {x y : Option Side} → Stands cs i a None x → Stands cs j b None y → by_statements (channel c) a ≡ true → by_statements (channel c) b ≡ true → i ≢ j → count cs ≡ 2 → Differ x y
  differ_of_two {cs} {i} {j} {a} {b} {x} {y} h g e f ne two =
      ⊎_elim (λ lt. (differ_ordered h e lt (side_of_two h e two) (side_of_two g f two)).0)
      (λ lt. (differ_ordered g f lt (side_of_two g f two) (side_of_two h e two)).1) (order i j ne)

  two_users : (cs : List kernel.Statements) (i j : ℕ) (a b : kernel.Statements) → slice_get cs i ≡ Some a → slice_get cs j ≡ Some b → by_statements (channel c) a ≡ true → by_statements (channel c) b ≡ true → i < j → 2 ≤ count cs
  two_users cs i j a b e f ea eb lt =
      let g = front_grows [] cs i j a e lt in
      let k = counted [] cs j b f in
      let o = ap once ea in
      let p = ap once eb in
      omega arith

  pub two_of : (cs : List kernel.Statements) (i j : ℕ) (a b : kernel.Statements) → slice_get cs i ≡ Some a → slice_get cs j ≡ Some b → by_statements (channel c) a ≡ true → by_statements (channel c) b ≡ true → i ≢ j → 2 ≤ count cs
  two_of cs i j a b e f ea eb ne = ⊎_elim (λ lt. two_users cs i j a b e f ea eb lt) (λ lt. two_users cs j i b a f e eb ea lt) (order i j ne)

-- The sides of a branch that has just been made.

pub sides_at : (c k : ℕ) (front : List kernel.Statements) (a : kernel.Statements) (next : List kernel.Statements) (sides : List (Option Side)) → c < length sides →
    slice_index_or (sides_in k front a next sides) c None ≡ side_in (k + c) front a next (slice_index_or sides c None)
sides_at c k front a next [] lt = absurd (omega arith)
sides_at zero k front a next (side ∷ sides) lt = ap (λ d. side_in d front a next side) (let l : k ≡ k + 0 = omega arith in l)
sides_at (suc c) k front a next (side ∷ sides) lt =
    sides_at c (k + 1) front a next sides (omega arith) ∙ ap (λ d. side_in d front a next (slice_index_or sides c None)) (let l : k + 1 + c ≡ k + suc c = omega arith in l)

pub sides_length : (k : ℕ) (front : List kernel.Statements) (a : kernel.Statements) (next : List kernel.Statements) (sides : List (Option Side)) → length (sides_in k front a next sides) ≡ length sides
sides_length k front a next [] = refl
sides_length k front a next (side ∷ sides) = ap suc (sides_length (k + 1) front a next sides)

pub sides_stay : (s : Setting) (item : Item) (now : Branch) (more : List Branch) → Becomes s item now more → now.sides ≡ s.branch.sides
sides_stay s item now more (goes one items l) = refl
sides_stay s item now more (enters one c items l) = refl
sides_stay s item now more (exits one items l) = refl
sides_stay s item now more (errs one) = refl
sides_stay s item now more ends_it = refl
sides_stay s item now more (makes bs b others e) = refl

-- a branch that a `par` makes stands among its code
pub record StandsIn (c : ℕ) (s : Setting) (bs : kernel.Branches) (j : ℕ) (d : Branch) : Type 0 where
  pub code : kernel.Statements
  pub at_place : code_at bs j ≡ Some code
  pub items : d.items ≡ todo code (ends ∷ [])
  pub stands : Stands c (codes_of (all_begun bs)) j code (slice_index_or s.branch.sides c None) (slice_index_or d.sides c None)

begun_code : (bs : kernel.Branches) (j : ℕ) (g : Begun) → slice_get (all_begun bs) j ≡ Some g → (code_at bs j ≡ Some g.code) × (g.items ≡ todo g.code (ends ∷ []))
begun_code kernel.no_branch j g e = none_given e
begun_code (kernel.more_branches (kernel.branch ss pos) bs) zero g e =
    (ap (λ h. Some h.code) (some_given e), sym (ap (λ h. h.items) (some_given e)) ∙ ap (λ h. todo h.code (ends ∷ [])) (some_given e))
begun_code (kernel.more_branches (kernel.branch ss pos) bs) (suc j) g e = begun_code bs j g e

pub stands_in : (c : ℕ) (s : Setting) (bs : kernel.Branches) (j : ℕ) (d : Branch) → c < length s.branch.sides → slice_get (children s (length (all_begun bs)) 0 [] (all_begun bs)) j ≡ Some d → StandsIn c s bs j d
stands_in c s bs j d lt e =
    let b = born s (length (all_begun bs)) 0 [] (all_begun bs) j d e in
    let g = begun_code bs j b.begun b.is_there in
    record {
      code = b.begun.code;
      at_place = g.0;
      items = ap (λ a. a.items) b.is ∙ g.1;
      stands = record {
        code = b.code_there;
        side = ap (λ a. slice_index_or a.sides c None) b.is
            ∙ sides_at c 0 (front_of [] (codes_of (all_begun bs)) j) b.begun.code (next_of (codes_of (all_begun bs)) j) s.branch.sides lt
            ∙ ap (λ k. side_in k (front_of [] (codes_of (all_begun bs)) j) b.begun.code (next_of (codes_of (all_begun bs)) j) (slice_index_or s.branch.sides c None)) (let l : 0 + c ≡ c = omega arith in l);
      };
    }

users_count : (c : ℕ) (bs : kernel.Branches) → count c (codes_of (all_begun bs)) ≡ users c bs
users_count c kernel.no_branch = refl
users_count c (kernel.more_branches (kernel.branch ss pos) bs) = let h = users_count c bs in ap (λ n. once (by_statements (channel c) ss) + n) h

lone_at : (c : ℕ) (bs : kernel.Branches) (j : ℕ) (a : kernel.Statements) → code_at bs j ≡ Some a → LoneBranches c bs → EveryStatements AnyThing (AtMostOne c) AnyTransaction a
lone_at c kernel.no_branch j a e h = none_given e
lone_at c (kernel.more_branches (kernel.branch ss pos) bs) zero a e h = subst (EveryStatements AnyThing (AtMostOne c) AnyTransaction) (some_given e) h.0
lone_at c (kernel.more_branches (kernel.branch ss pos) bs) (suc j) a e h = lone_at c bs j a e h.1

unsided_at : (c : ℕ) (bs : kernel.Branches) (j : ℕ) (a : kernel.Statements) → code_at bs j ≡ Some a → UnsidedBranches c bs → UnsidedStatements c a
unsided_at c kernel.no_branch j a e h = none_given e
unsided_at c (kernel.more_branches (kernel.branch ss pos) bs) zero a e h = subst (UnsidedStatements c) (some_given e) h.0
unsided_at c (kernel.more_branches (kernel.branch ss pos) bs) (suc j) a e h = unsided_at c bs j a e h.1

-- what holds of a branch's code by the side that it gets
module _ (c : ℕ) (a : kernel.Statements) where
  lone_items : EveryStatements AnyThing (AtMostOne c) AnyTransaction a → AllItems (LoneItem c) (todo a (ends ∷ []))
  lone_items h = all_todo (LoneItem c) a (ends ∷ []) (every_statements AnyThing (AtMostOne c) AnyTransaction a h) (tt, tt)

  unsided_items : UnsidedStatements c a → AllItems (UnsidedItem c) (todo a (ends ∷ []))
  unsided_items h = all_todo (UnsidedItem c) a (ends ∷ []) (unsided_statements c a h) (tt, tt)

  by_side : (its : Option Side) (side : Option Side) → its ≡ side → AllItems (ItemBySide c side) (todo a (ends ∷ [])) → AllItems (ItemBySide c its) (todo a (ends ∷ []))
  by_side its side e h = subst (λ o. AllItems (ItemBySide c o) (todo a (ends ∷ []))) (sym e) h

  module _ (cs : List kernel.Statements) (j : ℕ) (its : Option Side) where
    two_items : EveryStatements AnyThing (AtMostOne c) AnyTransaction a → IsOneOfTwo c cs j its → AllItems (ItemBySide c its) (todo a (ends ∷ []))
    two_items h (as_first e f) = by_side its (Some first) e (lone_items h)
    two_items h (as_second e f) = by_side its (Some second) e (lone_items h)

    made_items : Stands c cs j a None its → (by_statements (channel c) a ≡ true) ⊎ (by_statements (channel c) a ≡ false) → ((count c cs ≤ 1) × UnsidedStatements c a) ⊎ ((count c cs ≡ 2) × EveryStatements AnyThing (AtMostOne c) AnyTransaction a) →
        AllItems (ItemBySide c its) (todo a (ends ∷ []))
    made_items h (inr e) k = by_side its None (unused_side c h e) (unsided_items (unused_statements c a e))
    made_items h (inl e) (inl k) = by_side its None (lone_side c h e k.0) (unsided_items k.1)
    made_items h (inl e) (inr k) = two_items k.1 (side_of_two c h e k.0)

    -- by its maker's side
    pub sided_items : (makers : Option Side) (bs : kernel.Branches) → Stands c cs j a makers its → count c cs ≡ users c bs → code_at bs j ≡ Some a → ItemBySide c makers (does (kernel.par bs)) → AllItems (ItemBySide c its) (todo a (ends ∷ []))
    sided_items (Some side) bs h e f p = by_side its (Some side) h.side (lone_items (lone_at c bs j a f p.1))
    sided_items None bs h e f p =
        made_items h (true_or_false (by_statements (channel c) a))
        (⊎_elim (λ q. inl (let le = q.0 in omega arith, unsided_at c bs j a f q.1)) (λ q. inr (e ∙ q.0, lone_at c bs j a f q.1)) p)

side_inherits : (c : ℕ) (side : Option Side) → Inherits (ItemBySide c side)
side_inherits c None = unsided_inherits c
side_inherits c (Some side) = every_inherits AnyThing (AtMostOne c) AnyTransaction

module _ (K : kernel.Kernel) (stim : Stim) (x : World) where
  new_long : (channels n : ℕ) (b : Branch) (item : Item) (rest : List Item) (now : Branch) (more : List Branch) → EachLong channels x.branches → slice_get x.branches n ≡ Some b → Becomes (step_of K stim x n b rest) item now more →
      (j : ℕ) (d : Branch) → slice_get more j ≡ Some d → length d.sides ≡ channels
  new_long channels n b item rest now more h is (goes one items l) j d e = none_given e
  new_long channels n b item rest now more h is (enters one f items l) j d e = none_given e
  new_long channels n b item rest now more h is (exits one items l) j d e = none_given e
  new_long channels n b item rest now more h is (errs one) j d e = none_given e
  new_long channels n b item rest now more h is ends_it j d e = none_given e
  new_long channels n b item rest now more h is (makes bs g others f) j d e =
      let k = born (step_of K stim x n b rest) (length (g ∷ others)) 0 [] (g ∷ others) j d e in
      ap (λ a. length a.sides) k.is ∙ sides_length 0 (front_of [] (codes_of (g ∷ others)) j) k.begun.code (next_of (codes_of (g ∷ others)) j) b.sides ∙ h.long n b is

  long_behind : (channels n : ℕ) (b : Branch) (item : Item) (rest : List Item) (now : Branch) (more : List Branch) → EachLong channels x.branches → slice_get x.branches n ≡ Some b → Becomes (step_of K stim x n b rest) item now more →
      (k : ℕ) (d : Branch) → Behind x.branches n now more k d → length d.sides ≡ channels
  long_behind channels n b item rest now more h is g k d (itself ek ed) = ap (λ a. length a.sides) ed ∙ ap length (sides_stay (step_of K stim x n b rest) item now more g) ∙ h.long n b is
  long_behind channels n b item rest now more h is g k d (there ne e) = h.long k d e
  long_behind channels n b item rest now more h is g k d (new j ek e) = new_long channels n b item rest now more h is g j d e

  joined_long : (channels n : ℕ) (b : Branch) → EachLong channels x.branches → slice_get x.branches n ≡ Some b → (k : ℕ) (d : Branch) → Behind x.branches n (record b { mode = runs }) [] k d → length d.sides ≡ channels
  joined_long channels n b h is k d (itself ek ed) = ap (λ a. length a.sides) ed ∙ h.long n b is
  joined_long channels n b h is k d (there ne e) = h.long k d e
  joined_long channels n b h is k d (new j ek e) = none_given e

  pub long_kept : (channels : ℕ) {y : World} → EachLong channels x.branches → Moved K stim x y → EachLong channels y.branches
  long_kept channels h (ticked clocks) = record { long = h.long }
  long_kept channels h (stepped n b item rest z is em ei o) = record {
    long = λ k d e. long_behind channels n b item rest o.now o.more h is o.becomes k d (behind x.branches n b o.now o.more k d is (subst (λ bs. slice_get bs k ≡ Some d) o.branches e));
  }
  long_kept channels h (joined n b from count is em d) = record {
    long = λ k d e. joined_long channels n b h is k d (behind x.branches n b (record b { mode = runs }) [] k d is (subst (λ bs. slice_get bs k ≡ Some d) (sym (Rattle.std.proofs.Common.append-nil (Rattle.std.proofs.Common.slice_set x.branches n (record b { mode = runs })))) e));
  }

  module _ (channels c : ℕ) (lt : c < channels) (long : EachLong channels x.branches) where
    within_sides : (n : ℕ) (b : Branch) → slice_get x.branches n ≡ Some b → c < length b.sides
    within_sides n b is = let e = long.long n b is in omega arith

    -- each branch's items are fit for its side
    pub sided_kept : {y : World} → EachItem (SidedAt c) x.branches → Moved K stim x y → EachItem (SidedAt c) y.branches
    sided_kept h m =
        each_kept (SidedAt c) (SidedAt c) K stim x
        (record {
          inherits = λ n sides. side_inherits c (slice_index_or sides c None);
          same = λ n sides items lt all. all;
          made = λ n b bs rest is em ei j d e p.
              let k = stands_in c (step_of K stim x n b rest) bs j d (within_sides n b is) e in
              subst (AllItems (ItemBySide c (slice_index_or d.sides c None))) (sym k.items)
              (sided_items c k.code (codes_of (all_begun bs)) j (slice_index_or d.sides c None) (slice_index_or b.sides c None) bs k.stands (users_count c bs) k.at_place p);
        }) h m

    -- two branches of a `par` that use the channel
    siblings_by : (makers : Option Side) (bs : kernel.Branches) (i j : ℕ) (a b : kernel.Statements) (xs ys : Option Side) → ItemBySide c makers (does (kernel.par bs)) → i ≢ j →
        Stands c (codes_of (all_begun bs)) i a makers xs → Stands c (codes_of (all_begun bs)) j b makers ys → by_statements (channel c) a ≡ true → by_statements (channel c) b ≡ true → Differ xs ys
    siblings_by (Some side) bs i j a b xs ys p ne h g e f =
        let two = two_of c (codes_of (all_begun bs)) i j a b h.code g.code e f ne in
        let u = users_count c bs in
        let one = p.0 in
        absurd (omega arith)
    siblings_by None bs i j a b xs ys (inl p) ne h g e f =
        let two = two_of c (codes_of (all_begun bs)) i j a b h.code g.code e f ne in
        let u = users_count c bs in
        let one = p.0 in
        absurd (omega arith)
    siblings_by None bs i j a b xs ys (inr p) ne h g e f = differ_of_two c h g e f ne (users_count c bs ∙ p.0)

    uses_code : (d : Branch) (a : kernel.Statements) → d.items ≡ todo a (ends ∷ []) → IsTrue (by_items (channel c) d.items) → by_statements (channel c) a ≡ true
    uses_code d a e u = todo_uses (channel c) a (subst (λ items. IsTrue (by_items (channel c) items)) e u)

    stays_on_side : (makers its : Option Side) (front next : List kernel.Statements) (a : kernel.Statements) (other : Option Side) → its ≡ side_in c front a next makers → Differ makers other → Differ its other
    stays_on_side (Some side) its front next a other e h = subst (λ o. Differ o other) (sym e) h
    stays_on_side None its front next a other e h = absurd h

    -- the children that a step has made, if it has, by the `par`
    made_children : {A : Type 0} (s : Setting) (item : Item) (now : Branch) (more : List Branch) → Becomes s item now more → (j : ℕ) (d : Branch) → slice_get more j ≡ Some d →
        ((bs : kernel.Branches) → item ≡ does (kernel.par bs) → more ≡ children s (length (all_begun bs)) 0 [] (all_begun bs) → A) → A
    made_children s item now more (goes one items l) j d e k = none_given e
    made_children s item now more (enters one f items l) j d e k = none_given e
    made_children s item now more (exits one items l) j d e k = none_given e
    made_children s item now more (errs one) j d e k = none_given e
    made_children s item now more ends_it j d e k = none_given e
    made_children s item now more (makes bs g others f) j d e k = k bs refl (λ i. children s (length (sym f i)) 0 [] (sym f i))

    module _ (kernels : EachItem KernelsAt x.branches) (sided : EachItem (SidedAt c) x.branches) where
      other_step : (n : ℕ) (b : Branch) (item : Item) (rest : List Item) (now : Branch) (more : List Branch) → slice_get x.branches n ≡ Some b → b.mode ≡ runs → b.items ≡ item ∷ rest →
          Becomes (step_of K stim x n b rest) item now more → IsKept (OtherSides c) (step_of K stim x n b rest) now more
      other_step n b item rest now more is em ei h =
          let s = step_of K stim x n b rest in
          let its : AllItems IsKernels (item ∷ rest) = subst (AllItems IsKernels) ei (kernels.all n b is) in
          let fit : AllItems (ItemBySide c (side_of b c)) (item ∷ rest) = subst (AllItems (ItemBySide c (side_of b c))) ei (sided.all n b is) in
          record {
            becomes = λ d r. record {
              differ = λ u v. subst (λ o. Differ o (side_of d c)) (sym (ap (λ sides. slice_index_or sides c None) (sides_stay s item now more h)))
                  (r.differ (subst (λ i. IsTrue (by_items (channel c) i)) (sym ei) (becomes_uses s item now more h its (channel c) u)) v);
            };
            made = λ j d e f r. record {
              differ = λ u v. made_children s item now more h j d f
                  (λ bs eb el.
                  let k = stands_in c s bs j d (within_sides n b is) (subst (λ m. slice_get m j ≡ Some d) el f) in
                  stays_on_side (side_of b c) (side_of d c) (front_of [] (codes_of (all_begun bs)) j) (next_of (codes_of (all_begun bs)) j) k.code (side_of e c) k.stands.side
                  (r.differ (subst (λ i. IsTrue (by_items (channel c) i)) (sym ei) (made_uses s item now more h j d f (channel c) u)) v));
            };
            siblings = λ i j d e ne f g. record {
              differ = λ u v. made_children s item now more h i d f
                  (λ bs eb el.
                  let k = stands_in c s bs i d (within_sides n b is) (subst (λ m. slice_get m i ≡ Some d) el f) in
                  let l = stands_in c s bs j e (within_sides n b is) (subst (λ m. slice_get m j ≡ Some e) el g) in
                  let p : ItemBySide c (side_of b c) (does (kernel.par bs)) = subst (ItemBySide c (side_of b c)) eb fit.0 in
                  siblings_by (side_of b c) bs i j k.code l.code (side_of d c) (side_of e c) p ne k.stands l.stands (uses_code d k.code k.items u) (uses_code e l.code l.items v));
            };
          }

      differ_swap : (a b : Option Side) → Differ a b → Differ b a
      differ_swap (Some first) (Some second) h = tt
      differ_swap (Some second) (Some first) h = tt
      differ_swap (Some first) (Some first) h = absurd h
      differ_swap (Some second) (Some second) h = absurd h
      differ_swap (Some first) None h = absurd h
      differ_swap (Some second) None h = absurd h
      differ_swap None b h = absurd h

      other_swap : (b d : Branch) → OtherSides c b d → OtherSides c d b
      other_swap b d h = record { differ = λ u v. differ_swap (side_of b c) (side_of d c) (h.differ v u) }

      other_stopped : (b d : Branch) → d.items ≡ [] → OtherSides c b d
      other_stopped b d e = record { differ = λ u v. absurd (true≢false (sym (subst (λ i. IsTrue (by_items (channel c) i)) e v))) }

      pub other_kept : (roots : ℕ) {y : World} → IsForest roots x.branches → Unrelated (OtherSides c) x.branches → Moved K stim x y → Unrelated (OtherSides c) y.branches
      other_kept roots f h m = pairs_kept (OtherSides c) other_swap other_stopped K stim roots x f h m other_step (λ b d r. record { differ = r.differ })
