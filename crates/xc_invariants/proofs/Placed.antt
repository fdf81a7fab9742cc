-- Items stay well placed.
use Rattle.std.proofs.Common.{◌≡◌, ◌⊎◌, inl, inr, ⊎_elim, ℕ, zero, suc, Bool, true, false, ◌||◌, IsTrue, List, [], ◌∷◌, ◌++◌, length, Option, Some, None, slice_get, nat_eq, refl, sym, ap, subst, ◌∙◌, true≢false}
use Rattle.xs_instr.specs.declared.image.Stim.{Stim}
use Rattle.xc_kernel.specs.declared.statement.KRes.{KRes}
use Rattle.xc_kernel.specs.Plain as kernel
use Rattle.xc_meaning.specs.States.Items.{Body, of_kernel, of_text, Item, does, says, stores, stamps, mark, awaits, transaction_end, chooses, fixed, ends, todo, body_items, storing, stamping}
use Rattle.xc_meaning.specs.States.Branches.{Mode, runs, waits, Branch}
use Rattle.xc_meaning.specs.States.Worlds.{World}
use Rattle.xc_meaning.specs.Settings.Setting.{Setting}
use Rattle.xc_meaning.specs.Settings.Flow.{from_mark_by, items_from_mark}
use Rattle.xc_meaning.specs.Settings.Channels.{is_among}
use Rattle.xc_meaning.specs.Settings.Transactions.{without_innermost}
use Rattle.xc_meaning.specs.Settings.Select.{default_of}
use Rattle.xc_meaning.specs.Runs.{step_of, kernel_start}
use Rattle.xc_invariants.proofs.Starts.{start_at}
use Rattle.xc_invariants.proofs.EachItems.{each_branch_kept}
use Rattle.xc_kernel.specs.Things.{channel, by_statements}
use Rattle.xc_meaning.specs.Uses.{by_items}
use Rattle.xc_invariants.specs.Every.{AllItems}
use Rattle.xc_invariants.specs.Each.{EachItem}
use Rattle.xc_invariants.specs.Needs.{AnyInput}
use Rattle.xc_invariants.specs.Sided.{BodyIs, DefaultIs}
use Rattle.xc_invariants.specs.Placed.{AreUnused, IsAlone, EachAlone, PlacedStatement, PlacedStatements, PlacedCases, PlacedDefault, PlacedBranches, marks_of, open_of, ends_of, PlacedItems, EndsWell, WellPlaced, IfLively, EachPlaced, IsPlaced}
use Rattle.xc_kernel.specs.Branches.{branches_of}
use Rattle.xc_invariants.specs.Rules.{code_at}
use Rattle.xc_meaning.specs.Outline as outline
use Rattle.xc_meaning.specs.Outline.{IsPassed, Leaves, passed, sent, offered, received, sampled, received_fixed, sampled_fixed, held, other, turned, left, known, taken_fixed, taken_input, defaulted, Enters, Exits, Becomes, goes, enters, exits, errs, ends_it, makes, Outlined, Moved, ticked, stepped, joined}
use Rattle.xc_meaning.proofs.Basics.{some_given, none_given, or_left, or_right, or_cases}
use Rattle.xc_invariants.proofs.Choices.{EachCase, known_each, choice_each}
use Rattle.xc_invariants.proofs.Lookups.{born}
use Rattle.xc_invariants.specs.Lawful.{KernelsAt}
use Rattle.xc_invariants.proofs.Uses.{IsKernels, becomes_uses, made_uses, child_at, todo_uses, code_uses}

pub lively_runs : (m : Mode) (A : Type 0) → m ≡ runs → A → IfLively m A
lively_runs m A e h = subst (λ n. IfLively n A) (sym e) h

pub among_append : (c : ℕ) (xs ys : List ℕ) → IsTrue (is_among c (xs ++ ys)) → IsTrue (is_among c xs) ⊎ IsTrue (is_among c ys)
among_append c [] ys u = inr u
among_append c (x ∷ xs) ys u = ⊎_elim (λ v. inl (or_left _ _ v)) (λ v. ⊎_elim (λ w. inl (or_right (nat_eq c x) _ w)) inr (among_append c xs ys v)) (or_cases _ _ u)

module _ (B : ℕ → List ℕ → Type 0) (A : List ℕ → kernel.Branches → Type 0) where
  -- Items in front of which others stand, that change none of what is behind: these are the same for both, and both are well placed.
  pub record SameBehind (items rest : List Item) : Type 0 where
    pub marks : marks_of items ≡ marks_of rest
    pub opened : open_of items ≡ open_of rest
    pub ends : ends_of items ≡ ends_of rest
    pub placed : (PlacedItems B A) items
    pub ended : EndsWell items

  -- what is known of the rest
  pub record Fine (rest : List Item) : Type 0 where
    pub placed : (PlacedItems B A) rest
    pub ended : EndsWell rest

  fine_same : (rest : List Item) → Fine rest → SameBehind rest rest
  fine_same rest h = record { marks = refl; opened = refl; ends = refl; placed = h.placed; ended = h.ended }

  fine_of : {items rest : List Item} → SameBehind items rest → Fine items
  fine_of h = record { placed = h.placed; ended = h.ended }

  follows : {a b c : List Item} → SameBehind a b → SameBehind b c → SameBehind a c
  follows h g = record { marks = h.marks ∙ g.marks; opened = h.opened ∙ g.opened; ends = h.ends ∙ g.ends; placed = h.placed; ended = h.ended }

  more_placed : (s : kernel.Statement) (items : List Item) → (PlacedStatement B A) (marks_of items) (open_of items) (ends_of items) s → Fine items → Fine (does s ∷ items)
  more_placed s items h g = record { placed = (h, g.placed); ended = g.ended }

  -- code in front of the rest
  pub placed_todo : (ss : kernel.Statements) (rest : List Item) → (PlacedStatements B A) (marks_of rest) (open_of rest) (ends_of rest) ss → Fine rest → SameBehind (todo ss rest) rest
  placed_todo kernel.no_more rest h g = fine_same rest g
  placed_todo (kernel.more s ss) rest h g =
      let k = placed_todo ss rest h.1 g in record {
        marks = k.marks;
        opened = k.opened;
        ends = k.ends;
        placed = (subst (λ a. (PlacedStatement B A) a (open_of (todo ss rest)) (ends_of (todo ss rest)) s) (sym k.marks) (subst (λ a. (PlacedStatement B A) (marks_of rest) a (ends_of (todo ss rest)) s) (sym k.opened) (subst (λ a. (PlacedStatement B A) (marks_of rest) (open_of rest) a s) (sym k.ends) h.0)), k.placed);
        ended = k.ended;
      }

  placed_body : (b : Body) (rest : List Item) → BodyIs ((PlacedStatements B A) (marks_of rest) (open_of rest) (ends_of rest)) b → Fine rest → SameBehind (body_items b rest) rest
  placed_body (of_kernel ss) rest h g = placed_todo ss rest h g
  placed_body (of_text i) rest h g = absurd h

  placed_storing : (place : Option kernel.Place) (v : ℕ) (rest : List Item) → Fine rest → SameBehind (storing place v rest) rest
  placed_storing None v rest g = fine_same rest g
  placed_storing (Some p) v rest g = record { marks = refl; opened = refl; ends = refl; placed = (tt, g.placed); ended = g.ended }

  placed_stamping : (resource : KRes) (place : Option kernel.Place) (v : ℕ) (rest : List Item) → Fine rest → SameBehind (stamping resource place v rest) rest
  placed_stamping resource None v rest g = fine_same rest g
  placed_stamping resource (Some p) v rest g = record { marks = refl; opened = refl; ends = refl; placed = (tt, g.placed); ended = g.ended }

  -- what is left from a mark on, where the mark is there: no transaction ends before it
  pub record Left (n : ℕ) (items : List Item) : Type 0 where
    pub fine : Fine (items_from_mark n items)
    pub ends : ends_of (items_from_mark n items) ≡ ends_of items

  module _ (n : ℕ) where
    left_by : (m : ℕ) (rest : List Item) (b : Bool) → nat_eq n m ≡ b → (PlacedItems B A) (mark m ∷ rest) → EndsWell rest → (IsTrue (is_among n (open_of rest)) → Left n rest) → IsTrue (b || is_among n (open_of rest)) → Left n (mark m ∷ rest)
    left_by m rest true e h g k u = record {
      fine = subst (λ b. Fine (from_mark_by b (mark m ∷ rest) (items_from_mark n rest))) (sym e) (record { placed = h; ended = g });
      ends = ap (λ b. ends_of (from_mark_by b (mark m ∷ rest) (items_from_mark n rest))) e;
    }
    left_by m rest false e h g k u =
        let l = k u in record {
          fine = subst (λ b. Fine (from_mark_by b (mark m ∷ rest) (items_from_mark n rest))) (sym e) l.fine;
          ends = ap (λ b. ends_of (from_mark_by b (mark m ∷ rest) (items_from_mark n rest))) e ∙ l.ends;
        }

    again : {rest : List Item} (item : Item) → items_from_mark n (item ∷ rest) ≡ items_from_mark n rest → ends_of (item ∷ rest) ≡ ends_of rest → Left n rest → Left n (item ∷ rest)
    again item e f l = record { fine = subst Fine (sym e) l.fine; ends = ap ends_of e ∙ l.ends ∙ sym f }

    pub left_from : (items : List Item) → (PlacedItems B A) items → EndsWell items → IsTrue (is_among n (open_of items)) → Left n items
    left_from [] h g u = absurd g
    left_from (mark m ∷ rest) h g u = left_by m rest (nat_eq n m) refl h g (left_from rest h.1 g) u
    left_from (does s ∷ rest) h g u = again (does s) refl refl (left_from rest h.1 g u)
    left_from (says i ∷ rest) h g u = absurd h.0
    left_from (stores p v ∷ rest) h g u = again (stores p v) refl refl (left_from rest h.1 g u)
    left_from (stamps resource p v ∷ rest) h g u = again (stamps resource p v) refl refl (left_from rest h.1 g u)
    left_from (awaits c pos ∷ rest) h g u = again (awaits c pos) refl refl (left_from rest h.1 g u)
    left_from (transaction_end c is_master pos ∷ rest) h g u = absurd (true≢false (sym u))
    left_from (chooses choices otherwise ∷ rest) h g u = again (chooses choices otherwise) refl refl (left_from rest h.1 g u)
    left_from (fixed i v counter ∷ rest) h g u = again (fixed i v counter) refl refl (left_from rest h.1 g u)
    left_from (ends ∷ []) h g u = absurd (true≢false (sym u))
    left_from (ends ∷ item ∷ rest) h g u = absurd g

  -- Code stands as well in front of items that change nothing of what is behind.
  moved_code : {items rest : List Item} (ss : kernel.Statements) → SameBehind items rest → (PlacedStatements B A) (marks_of rest) (open_of rest) (ends_of rest) ss → (PlacedStatements B A) (marks_of items) (open_of items) (ends_of items) ss
  moved_code {items} {rest} ss k h =
      subst (λ a. (PlacedStatements B A) a (open_of items) (ends_of items) ss) (sym k.marks) (subst (λ a. (PlacedStatements B A) (marks_of rest) a (ends_of items) ss) (sym k.opened) (subst (λ a. (PlacedStatements B A) (marks_of rest) (open_of rest) a ss) (sym k.ends) h))

  -- what a step leaves of well placed items
  pub record Stays (item : Item) (rest items : List Item) : Type 0 where
    pub fine : Fine items
    pub ends : ends_of items ≡ ends_of (item ∷ rest)

  by_same : {item : Item} {rest items : List Item} → SameBehind items rest → ends_of (item ∷ rest) ≡ ends_of rest → Stays item rest items
  by_same k e = record { fine = fine_of k; ends = k.ends ∙ sym e }

  passed_stays : (item : Item) (rest : List Item) → IsPassed item → (PlacedItems B A) (item ∷ rest) → EndsWell (item ∷ rest) → Stays item rest rest
  passed_stays (does s) rest p h g = record { fine = record { placed = h.1; ended = g }; ends = refl }
  passed_stays (says i) rest p h g = absurd p
  passed_stays (stores place v) rest p h g = record { fine = record { placed = h.1; ended = g }; ends = refl }
  passed_stays (stamps resource place v) rest p h g = record { fine = record { placed = h.1; ended = g }; ends = refl }
  passed_stays (mark n) rest p h g = record { fine = record { placed = h.1; ended = g }; ends = refl }
  passed_stays (awaits c pos) rest p h g = record { fine = record { placed = h.1; ended = g }; ends = refl }
  passed_stays (transaction_end c is_master pos) rest p h g = absurd p
  passed_stays (chooses choices otherwise) rest p h g = absurd p
  passed_stays (fixed i v counter) rest p h g = record { fine = record { placed = h.1; ended = g }; ends = refl }
  passed_stays ends rest p h g = absurd p

  module _ (M O I : List ℕ) where
    placed_cases : (cs : kernel.Cases) → (PlacedCases B A) M O I cs → EachCase AnyInput ((PlacedStatements B A) M O I) cs
    placed_cases kernel.no_case h = tt
    placed_cases (kernel.more_cases (kernel.case guard input a) cs) h = (tt, h.0, placed_cases cs h.1)

    placed_default : (d : kernel.Default) → (PlacedDefault B A) M O I d → DefaultIs ((PlacedStatements B A) M O I) (default_of d)
    placed_default kernel.no_default h = tt
    placed_default (kernel.default ss) h = h

  pub left_stays : (rest : List Item) (item : Item) (items : List Item) → Leaves rest item items → (PlacedItems B A) (item ∷ rest) → EndsWell (item ∷ rest) → Stays item rest items
  left_stays rest item items (passed one p) h g = passed_stays one rest p h g
  left_stays rest item items (sent o v) h g = by_same (placed_stamping o.resource o.stamp v rest (record { placed = h.1; ended = g })) refl
  left_stays rest item items (offered o c pos e) h g = record { fine = record { placed = (tt, h.1); ended = g }; ends = refl }
  left_stays rest item items (received input v) h g = by_same (placed_storing input.target v rest (record { placed = h.1; ended = g })) refl
  left_stays rest item items (sampled input v w) h g =
      let k = placed_stamping input.resource input.stamp w rest (record { placed = h.1; ended = g }) in by_same (follows (placed_storing input.target v (stamping input.resource input.stamp w rest) (fine_of k)) k) refl
  left_stays rest item items (received_fixed input x y v) h g = by_same (placed_storing input.target v rest (record { placed = h.1; ended = g })) refl
  left_stays rest item items (sampled_fixed input x y v w) h g =
      let k = placed_stamping input.resource input.stamp w rest (record { placed = h.1; ended = g }) in by_same (follows (placed_storing input.target v (stamping input.resource input.stamp w rest) (fine_of k)) k) refl
  left_stays rest item items (held e a b) h g = by_same (placed_todo a rest h.0.0 (record { placed = h.1; ended = g })) refl
  left_stays rest item items (other e a b) h g = by_same (placed_todo b rest h.0.1 (record { placed = h.1; ended = g })) refl
  left_stays rest item items (turned e a b) h g =
      let k = placed_todo b (does (kernel.loop e a b) ∷ rest) h.0.1 (record { placed = h; ended = g }) in
      let l = placed_todo a (todo b (does (kernel.loop e a b) ∷ rest)) (moved_code a k h.0.0) (fine_of k) in
      record { fine = fine_of l; ends = l.ends ∙ k.ends }
  left_stays rest item items (outline.begun n a) h g =
      let k = placed_todo a (mark n ∷ rest) h.0.1 (record { placed = (h.0.0, h.1); ended = g }) in record { fine = fine_of k; ends = k.ends }
  left_stays rest item items (left n) h g = let l = left_from n rest h.1 g h.0 in record { fine = l.fine; ends = l.ends }
  left_stays rest item items (known cs d pos store choices e) h g = record {
    fine = record {
      placed = (
        (
          known_each AnyInput ((PlacedStatements B A) (marks_of rest) (open_of rest) (ends_of rest)) store cs choices e (placed_cases (marks_of rest) (open_of rest) (ends_of rest) cs h.0.0),
          placed_default (marks_of rest) (open_of rest) (ends_of rest) d h.0.1,
        ),
        h.1,
      );
      ended = g;
    };
    ends = refl;
  }
  left_stays rest item items (taken_fixed choices otherwise n c v w e) h g =
      let k = placed_body c.body rest (choice_each AnyInput ((PlacedStatements B A) (marks_of rest) (open_of rest) (ends_of rest)) choices n c e h.0.0).1 (record { placed = h.1; ended = g }) in
      record { fine = record { placed = (tt, k.placed); ended = k.ended }; ends = k.ends }
  left_stays rest item items (taken_input choices otherwise n c e) h g =
      let k = placed_body c.body rest (choice_each AnyInput ((PlacedStatements B A) (marks_of rest) (open_of rest) (ends_of rest)) choices n c e h.0.0).1 (record { placed = h.1; ended = g }) in
      record { fine = record { placed = (tt, k.placed); ended = k.ended }; ends = k.ends }
  left_stays rest item items (defaulted choices body) h g = by_same (placed_body body rest h.0.1 (record { placed = h.1; ended = g })) refl

  pub record Entered (item : Item) (rest : List Item) (c : ℕ) (items : List Item) : Type 0 where
    pub fine : Fine items
    pub ends : ends_of items ≡ c ∷ ends_of (item ∷ rest)

  pub entered_stays : (rest : List Item) (item : Item) (c : ℕ) (items : List Item) → Enters rest item c items → (PlacedItems B A) (item ∷ rest) → EndsWell (item ∷ rest) → Entered item rest c items
  entered_stays rest item c items (outline.Enters.as_master d ss start close) h g =
      let k = placed_todo ss (transaction_end d true close ∷ rest) h.0 (record { placed = (tt, h.1); ended = g }) in record { fine = record { placed = (tt, k.placed); ended = k.ended }; ends = k.ends }
  entered_stays rest item c items (outline.Enters.as_slave d ss start close) h g =
      let k = placed_todo ss (transaction_end d false close ∷ rest) h.0 (record { placed = (tt, h.1); ended = g }) in record { fine = fine_of k; ends = k.ends }

  pub record Exited (item : Item) (rest : List Item) (items : List Item) : Type 0 where
    pub channel : ℕ
    pub fine : Fine items
    pub ends : channel ∷ ends_of items ≡ ends_of (item ∷ rest)

  pub exited_stays : (rest : List Item) (item : Item) (items : List Item) → Exits rest item items → (PlacedItems B A) (item ∷ rest) → EndsWell (item ∷ rest) → Exited item rest items
  exited_stays rest item items (outline.Exits.as_master c pos) h g = record { channel = c; fine = record { placed = (tt, h.1); ended = g }; ends = refl }
  exited_stays rest item items (outline.Exits.as_slave c pos) h g = record { channel = c; fine = record { placed = h.1; ended = g }; ends = refl }

  -- Branches.

  module _ (s : Setting) (item : Item) (now : Branch) (more : List Branch) (h : (WellPlaced B A) s.branch) (ei : s.branch.items ≡ item ∷ s.rest) where
    pub its_placed : (PlacedItems B A) (item ∷ s.rest)
    its_placed = subst (PlacedItems B A) ei h.placed

    pub its_ended : EndsWell (item ∷ s.rest)
    its_ended = subst EndsWell ei h.ended

    its_inside : s.branch.inside ≡ ends_of (item ∷ s.rest) ++ h.inside.outer
    its_inside = h.inside.is ∙ ap (λ i. ends_of i ++ h.inside.outer) ei

    placed_now : Fine now.items → now.inside ≡ ends_of now.items ++ h.inside.outer → (WellPlaced B A) now
    placed_now f e = record { placed = f.placed; ended = f.ended; inside = record { outer = h.inside.outer; is = e } }

  pub placed_begun : (bs : kernel.Branches) (j : ℕ) (ss : kernel.Statements) → code_at bs j ≡ Some ss → (PlacedBranches B A) bs → (PlacedStatements B A) [] [] [] ss
  placed_begun kernel.no_branch j ss e h = none_given e
  placed_begun (kernel.more_branches (kernel.branch a pos) bs) zero ss e h = subst ((PlacedStatements B A) [] [] []) (some_given e) h.0
  placed_begun (kernel.more_branches (kernel.branch a pos) bs) (suc j) ss e h = placed_begun bs j ss e h.1

  -- what a new branch has to do
  pub begins_placed : (ss : kernel.Statements) → (PlacedStatements B A) [] [] [] ss → SameBehind (todo ss (ends ∷ [])) (ends ∷ [])
  begins_placed ss h = placed_todo ss (ends ∷ []) h (record { placed = (tt, tt); ended = tt })

  -- by the transactions that it stood in
  now_placed : (s : Setting) (item : Item) (now : Branch) (more : List Branch) → s.branch.mode ≡ runs → (WellPlaced B A) s.branch → s.branch.items ≡ item ∷ s.rest → Becomes s item now more → IfLively now.mode ((WellPlaced B A) now)
  now_placed s item now more em h ei (goes one items l) =
      let f = left_stays s.rest one items l (its_placed s one now more h ei) (its_ended s one now more h ei) in
      lively_runs s.branch.mode _ em
      (placed_now s one (record s.branch { items = items }) [] h ei f.fine (its_inside s one now more h ei ∙ ap (λ e. e ++ h.inside.outer) (sym f.ends)))
  now_placed s item now more em h ei (enters one c items l) =
      let f = entered_stays s.rest one c items l (its_placed s one now more h ei) (its_ended s one now more h ei) in
      lively_runs s.branch.mode _ em
      (placed_now s one (record s.branch { items = items; inside = c ∷ s.branch.inside }) [] h ei f.fine (ap (λ i. c ∷ i) (its_inside s one now more h ei) ∙ ap (λ e. e ++ h.inside.outer) (sym f.ends)))
  now_placed s item now more em h ei (exits one items l) =
      let f = exited_stays s.rest one items l (its_placed s one now more h ei) (its_ended s one now more h ei) in
      lively_runs s.branch.mode _ em
      (placed_now s one (record s.branch { items = items; inside = without_innermost s.branch.inside }) [] h ei f.fine
      (ap without_innermost (its_inside s one now more h ei ∙ ap (λ e. e ++ h.inside.outer) (sym f.ends))))
  now_placed s item now more em h ei (errs one) = tt
  now_placed s item now more em h ei ends_it = tt
  now_placed s item now more em h ei (makes bs b others e) =
      placed_now s (does (kernel.par bs)) (record s.branch { mode = waits (length s.world.branches) (length (b ∷ others)); items = s.rest }) [] h ei
      (record { placed = (its_placed s (does (kernel.par bs)) now more h ei).1; ended = its_ended s (does (kernel.par bs)) now more h ei })
      (its_inside s (does (kernel.par bs)) now more h ei)

  new_placed : (s : Setting) (item : Item) (now : Branch) (more : List Branch) → (WellPlaced B A) s.branch → s.branch.items ≡ item ∷ s.rest → Becomes s item now more → (j : ℕ) (c : Branch) → slice_get more j ≡ Some c → IfLively c.mode ((WellPlaced B A) c)
  new_placed s item now more h ei (goes one items l) j c e = none_given e
  new_placed s item now more h ei (enters one d items l) j c e = none_given e
  new_placed s item now more h ei (exits one items l) j c e = none_given e
  new_placed s item now more h ei (errs one) j c e = none_given e
  new_placed s item now more h ei ends_it j c e = none_given e
  new_placed s item now more h ei (makes bs b others f) j c e =
      let d = child_at s (does (kernel.par bs)) _ _ (makes bs b others f) bs refl j c e in
      let g = born s (length (b ∷ others)) 0 [] (b ∷ others) j c e in
      let p = its_placed s (does (kernel.par bs)) now more h ei in
      let q = begins_placed d.code (placed_begun bs j d.code d.is_there p.0.1) in
      let inside_is : c.inside ≡ s.branch.inside = ap (λ a. a.inside) g.is in
      lively_runs c.mode ((WellPlaced B A) c) (ap (λ a. a.mode) g.is)
      (record {
        placed = subst (PlacedItems B A) (sym d.items) q.placed;
        ended = subst EndsWell (sym d.items) q.ended;
        inside = record { outer = s.branch.inside; is = inside_is ∙ ap (λ e. e ++ s.branch.inside) (sym (ap ends_of d.items ∙ q.ends)) };
      })

  module _ (K : kernel.Kernel) (stim : Stim) (x : World) (h : (EachPlaced B A) x.branches) where
    now_each : (n : ℕ) (b : Branch) (item : Item) (rest : List Item) (now : Branch) (more : List Branch) → slice_get x.branches n ≡ Some b → b.mode ≡ runs → b.items ≡ item ∷ rest → Becomes (step_of K stim x n b rest) item now more → IfLively now.mode ((WellPlaced B A) now)
    now_each n b item rest now more is em ei g = now_placed (step_of K stim x n b rest) item now more em (subst (λ m. IfLively m ((WellPlaced B A) b)) em (h.each n b is)) ei g

    new_each : (n : ℕ) (b : Branch) (item : Item) (rest : List Item) (now : Branch) (more : List Branch) → slice_get x.branches n ≡ Some b → b.mode ≡ runs → b.items ≡ item ∷ rest → Becomes (step_of K stim x n b rest) item now more →
        (j : ℕ) (c : Branch) → slice_get more j ≡ Some c → IfLively c.mode ((WellPlaced B A) c)
    new_each n b item rest now more is em ei g j c e = new_placed (step_of K stim x n b rest) item now more (subst (λ m. IfLively m ((WellPlaced B A) b)) em (h.each n b is)) ei g j c e

    pub placed_kept : {y : World} → Moved K stim x y → (EachPlaced B A) y.branches
    placed_kept m =
        let k = each_branch_kept (λ b. IfLively b.mode ((WellPlaced B A) b)) K stim x (record { each = h.each }) now_each new_each
        (λ n b from count is ew. let w : (WellPlaced B A) b = subst (λ m. IfLively m ((WellPlaced B A) b)) ew (h.each n b is) in record { placed = w.placed; ended = w.ended; inside = record { outer = w.inside.outer; is = w.inside.is } }) m in
        record { each = k.each }

  -- at the start
  pub placed_begins : (K : kernel.Kernel) → (IsPlaced B A) K → (EachPlaced B A) (kernel_start K).branches
  placed_begins K h = record {
    each = λ n b e.
        let r = start_at K n b e in
        let q = begins_placed r.root.body (placed_begun (branches_of K.roots) n r.root.body r.code h.roots) in
        let items : b.items ≡ todo r.root.body (ends ∷ []) = ap (λ d. d.items) r.is in
        lively_runs b.mode ((WellPlaced B A) b) (ap (λ d. d.mode) r.is)
        (record {
          placed = subst (PlacedItems B A) (sym items) q.placed;
          ended = subst EndsWell (sym items) q.ended;
          inside = record { outer = []; is = ap (λ d. d.inside) r.is ∙ ap (λ e. e ++ []) (sym (ap ends_of items ∙ q.ends)) };
        });
  }

-- A branch uses no channel of a transaction that it stands in by its makers alone, where no `par` uses a channel of the transactions around it.
alone_inside : (s : Setting) (item : Item) (h : IsAlone s.branch) → s.branch.items ≡ item ∷ s.rest → s.branch.inside ≡ ends_of (item ∷ s.rest) ++ h.outer
alone_inside s item h ei = h.is ∙ ap (λ i. ends_of i ++ h.outer) ei

still_alone : (s : Setting) (item : Item) (now : Branch) (more : List Branch) (h : IsAlone s.branch) → s.branch.items ≡ item ∷ s.rest → AllItems IsKernels (item ∷ s.rest) → Becomes s item now more → (c : ℕ) → IsTrue (is_among c h.outer) → IsTrue (by_items (channel c) now.items) → ⊥
still_alone s item now more h ei k g c u v = h.unused c u (subst (λ i. IsTrue (by_items (channel c) i)) (sym ei) (becomes_uses s item now more g k (channel c) v))

module _ (B : ℕ → List ℕ → Type 0) where
  now_alone : (s : Setting) (item : Item) (now : Branch) (more : List Branch) → s.branch.mode ≡ runs → WellPlaced B AreUnused s.branch → IsAlone s.branch → s.branch.items ≡ item ∷ s.rest → AllItems IsKernels (item ∷ s.rest) → Becomes s item now more → IfLively now.mode (IsAlone now)
  now_alone s item now more em w h ei k (goes one items l) =
      let f = left_stays B AreUnused s.rest one items l (its_placed B AreUnused s one now more w ei) (its_ended B AreUnused s one now more w ei) in
      lively_runs s.branch.mode _ em
      (record { outer = h.outer; is = alone_inside s one h ei ∙ ap (λ e. e ++ h.outer) (sym f.ends); unused = still_alone s one (record s.branch { items = items }) [] h ei k (goes one items l) })
  now_alone s item now more em w h ei k (enters one c items l) =
      let f = entered_stays B AreUnused s.rest one c items l (its_placed B AreUnused s one now more w ei) (its_ended B AreUnused s one now more w ei) in
      lively_runs s.branch.mode _ em
      (record { outer = h.outer; is = ap (λ i. c ∷ i) (alone_inside s one h ei) ∙ ap (λ e. e ++ h.outer) (sym f.ends); unused = still_alone s one (record s.branch { items = items; inside = c ∷ s.branch.inside }) [] h ei k (enters one c items l) })
  now_alone s item now more em w h ei k (exits one items l) =
      let f = exited_stays B AreUnused s.rest one items l (its_placed B AreUnused s one now more w ei) (its_ended B AreUnused s one now more w ei) in
      lively_runs s.branch.mode _ em
      (record { outer = h.outer; is = ap without_innermost (alone_inside s one h ei ∙ ap (λ e. e ++ h.outer) (sym f.ends)); unused = still_alone s one (record s.branch { items = items; inside = without_innermost s.branch.inside }) [] h ei k (exits one items l) })
  now_alone s item now more em w h ei k (errs one) = tt
  now_alone s item now more em w h ei k ends_it = tt
  now_alone s item now more em w h ei k (makes bs b others e) =
      record { outer = h.outer; is = alone_inside s (does (kernel.par bs)) h ei; unused = still_alone s (does (kernel.par bs)) _ _ h ei k (makes bs b others e) }

  new_alone : (s : Setting) (item : Item) (now : Branch) (more : List Branch) → WellPlaced B AreUnused s.branch → IsAlone s.branch → s.branch.items ≡ item ∷ s.rest → Becomes s item now more → (j : ℕ) (c : Branch) → slice_get more j ≡ Some c → IfLively c.mode (IsAlone c)
  new_alone s item now more w h ei (goes one items l) j c e = none_given e
  new_alone s item now more w h ei (enters one d items l) j c e = none_given e
  new_alone s item now more w h ei (exits one items l) j c e = none_given e
  new_alone s item now more w h ei (errs one) j c e = none_given e
  new_alone s item now more w h ei ends_it j c e = none_given e
  new_alone s item now more w h ei (makes bs b others f) j c e =
      let d = child_at s (does (kernel.par bs)) _ _ (makes bs b others f) bs refl j c e in
      let g = born s (length (b ∷ others)) 0 [] (b ∷ others) j c e in
      let p = its_placed B AreUnused s (does (kernel.par bs)) now more w ei in
      let q = begins_placed B AreUnused d.code (placed_begun B AreUnused bs j d.code d.is_there p.0.1) in
      lively_runs c.mode (IsAlone c) (ap (λ a. a.mode) g.is)
      (record {
        outer = s.branch.inside;
        is = ap (λ a. a.inside) g.is ∙ ap (λ e. e ++ s.branch.inside) (sym (ap ends_of d.items ∙ q.ends));
        unused = λ a u v.
            let used : IsTrue (by_statements (channel a) d.code) = todo_uses (channel a) d.code (subst (λ i. IsTrue (by_items (channel a) i)) d.items v) in
            ⊎_elim (λ y. p.0.0.unused a y (code_uses (channel a) bs j d.code d.is_there used))
            (λ y. h.unused a y (subst (λ i. IsTrue (by_items (channel a) i)) (sym ei) (made_uses s (does (kernel.par bs)) _ _ (makes bs b others f) j c e (channel a) v)))
            (among_append a (ends_of s.rest) h.outer (subst (λ i. IsTrue (is_among a i)) (alone_inside s (does (kernel.par bs)) h ei) u));
      })

  module _ (K : kernel.Kernel) (stim : Stim) (x : World) (kernels : EachItem KernelsAt x.branches) (w : EachPlaced B AreUnused x.branches) (h : EachAlone x.branches) where
    now_own : (n : ℕ) (b : Branch) (item : Item) (rest : List Item) (now : Branch) (more : List Branch) → slice_get x.branches n ≡ Some b → b.mode ≡ runs → b.items ≡ item ∷ rest → Becomes (step_of K stim x n b rest) item now more → IfLively now.mode (IsAlone now)
    now_own n b item rest now more is em ei g =
        now_alone (step_of K stim x n b rest) item now more em (subst (λ m. IfLively m (WellPlaced B AreUnused b)) em (w.each n b is)) (subst (λ m. IfLively m (IsAlone b)) em (h.each n b is)) ei (subst (AllItems IsKernels) ei (kernels.all n b is)) g

    new_own : (n : ℕ) (b : Branch) (item : Item) (rest : List Item) (now : Branch) (more : List Branch) → slice_get x.branches n ≡ Some b → b.mode ≡ runs → b.items ≡ item ∷ rest → Becomes (step_of K stim x n b rest) item now more →
        (j : ℕ) (c : Branch) → slice_get more j ≡ Some c → IfLively c.mode (IsAlone c)
    new_own n b item rest now more is em ei g j c e =
        new_alone (step_of K stim x n b rest) item now more (subst (λ m. IfLively m (WellPlaced B AreUnused b)) em (w.each n b is)) (subst (λ m. IfLively m (IsAlone b)) em (h.each n b is)) ei g j c e

    pub alone_kept : {y : World} → Moved K stim x y → EachAlone y.branches
    alone_kept m =
        let k = each_branch_kept (λ b. IfLively b.mode (IsAlone b)) K stim x (record { each = h.each }) now_own new_own
        (λ n b from count is ew. let a : IsAlone b = subst (λ m. IfLively m (IsAlone b)) ew (h.each n b is) in record { outer = a.outer; is = a.is; unused = a.unused }) m in
        record { each = k.each }

  pub alone_begins : (K : kernel.Kernel) → IsPlaced B AreUnused K → EachAlone (kernel_start K).branches
  alone_begins K h = record {
    each = λ n b e.
        let r = start_at K n b e in
        let q = begins_placed B AreUnused r.root.body (placed_begun B AreUnused (branches_of K.roots) n r.root.body r.code h.roots) in
        let items : b.items ≡ todo r.root.body (ends ∷ []) = ap (λ d. d.items) r.is in
        lively_runs b.mode (IsAlone b) (ap (λ d. d.mode) r.is)
        (record { outer = []; is = ap (λ d. d.inside) r.is ∙ ap (λ e. e ++ []) (sym (ap ends_of items ∙ q.ends)); unused = λ c u v. absurd (true≢false (sym u)) });
  }
