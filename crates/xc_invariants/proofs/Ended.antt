-- Behind the end of a transaction no branch on that side stands in one on its channel.
use Rattle.std.proofs.Common.{◌||◌, ◌≡◌, ◌≢◌, ◌⊎◌, inl, inr, ⊎_elim, ℕ, ◌<◌, Bool, false, IsTrue, List, [], ◌∷◌, ◌++◌, length, append-nil, Some, slice_get, slice_set, nat_eq, refl, sym, ap, subst, ◌∙◌, arith, ap₂}
use Rattle.xw_words.specs.declared.pos.Pos.{Pos}
use Rattle.xs_instr.specs.declared.image.Stim.{Stim}
use Rattle.xc_kernel.specs.Plain as kernel
use Rattle.xc_kernel.specs.Things.{channel, by_input, by_resource}
use Rattle.xc_meaning.specs.States.Channels.{Side}
use Rattle.xc_meaning.specs.States.Items.{Item, transaction_end, Choice, does, says, stores, stamps, mark, awaits, chooses, fixed, ends}
use Rattle.xc_meaning.specs.States.Branches.{runs, Branch, side_of}
use Rattle.xc_meaning.specs.States.Worlds.{World, Action}
use Rattle.xc_meaning.specs.Settings.Setting.{Setting}
use Rattle.xc_meaning.specs.Settings.Channels.{is_among}
use Rattle.xc_meaning.specs.Settings.Transactions.{without_innermost}
use Rattle.xc_meaning.specs.Runs.{step_of, kernel_run, kernel_start}
use Rattle.xc_meaning.specs.Uses.{by_items, by_item, by_choices, by_body}
use Rattle.xc_meaning.specs.Outline.{Becomes, goes, enters, exits, errs, ends_it, makes, Moved, ticked, stepped, joined}
use Rattle.xc_meaning.proofs.Basics.{or_right, or_cases, some_given, none_given, same_or_not, same_number, or_left}
use Rattle.xc_meaning.proofs.Moved.{moved}
use Rattle.xc_disjoint.specs.Checked.{IsChecked}
use Rattle.xc_wellformed.proofs.Spread.{behind_same}
use Rattle.xc_invariants.specs.Rules.{AnyThing, AnyPar, AnyTransaction}
use Rattle.xc_invariants.specs.Every.{EveryItem}
use Rattle.xc_invariants.specs.Each.{EachItem, EachBranch}
use Rattle.xc_invariants.specs.Tree.{IsChild, Above, directly, further, IsWaiting}
use Rattle.xc_invariants.specs.Placed.{ends_of, IsAlone, IfLively}
use Rattle.xc_invariants.specs.Nested.{StandsInside, as_root, as_child, EachInside}
use Rattle.xc_invariants.specs.Tidy.{SpeaksAlone}
use Rattle.xc_invariants.specs.Lawful.{Lawful, Listed, EndsOnce, EndLeavesNone, NestedOutside, is_nested, some_choice_on}
use Rattle.xc_invariants.specs.Within.{inside_on}
use Rattle.xc_invariants.proofs.Always.{along, ends_use, laws_begin, laws_hold}
use Rattle.xc_invariants.proofs.Checked.{checked_obey, checked_listed, inside_holds, users_are_inside}
use Rattle.xc_invariants.proofs.Links.{items_have}
use Rattle.xc_invariants.proofs.Lookups.{Behind, itself, there, new, behind, at_itself, at_other}
use Rattle.xc_invariants.proofs.Nested.{ends_inside, all_below, above_stands}
use Rattle.xc_invariants.proofs.Placed.{among_append}
use Rattle.xc_invariants.proofs.Single.{SpeaksIn, UnusedBy, OwnItems, SpeaksOwn, own_kept, own_begins, speaking_begins}
use Rattle.xc_invariants.proofs.Tidy.{not_true, never, nested_is_used}
use Rattle.xc_invariants.proofs.Transacted.{checked_speak_alone, checked_tidy_holds}
use Rattle.xc_invariants.proofs.Trees.{running_waits_not, waiting_is, above_waits}
use Rattle.xc_invariants.proofs.Uses.{no_text, every_kept}
use Rattle.xc_invariants.proofs.Agreed.{Within, some_within, EndThere, ends_there, not_kept}
use Rattle.xc_kernel.proofs.Used.{by_resource_of}
use Rattle.xc_invariants.specs.Sided.{EachChoice}

-- Each branch has still to do what speaks alone.
record Speaks (x : World) : Type 0 where
  alone : EachItem (λ n sides. EveryItem AnyThing AnyPar SpeaksAlone) x.branches
  own : EachBranch SpeaksOwn x.branches

all_speak : (K : kernel.Kernel) (s : Stim) (ms : List Action) (x : World) → IsChecked K → kernel_run K s ms ≡ Some x → Speaks x
all_speak K s ms x k e =
    along Speaks K s (λ a b m h t. record { alone = every_kept K s a AnyThing AnyPar SpeaksAlone t.alone m; own = own_kept K s a t.alone t.own m }) ms (Some (kernel_start K)) x
    (λ z f. (subst (Lawful K) (some_given f) (laws_begin K (checked_obey K k)), subst Speaks (some_given f) (record { alone = speaking_begins K (checked_speak_alone K k); own = own_begins K }))) e

-- from a branch above to the one that waits for it
above_last : (bs : List Branch) {a n : ℕ} → Above bs a n → (m : ℕ) × (IsChild bs m n × ((a ≡ m) ⊎ Above bs a m))
above_last bs {a} (directly c) = (a, (c, inl refl))
above_last bs {a} (further {k = k} c h) =
    let r = above_last bs h in (r.0, (r.1.0, inr (⊎_elim (λ e. directly (subst (λ z. IsChild bs a z) e c)) (λ b. further c b) r.1.1)))

no_more : (s : Setting) (item : Item) (now : Branch) (more : List Branch) (c : ℕ) (is_master : Bool) (pos : Pos) → Becomes s item now more → item ≡ transaction_end c is_master pos → more ≡ []
no_more s item now more c is_master pos (goes one items l) e = refl
no_more s item now more c is_master pos (enters one d items l) e = refl
no_more s item now more c is_master pos (exits one items l) e = refl
no_more s item now more c is_master pos (errs one) e = refl
no_more s item now more c is_master pos ends_it e = refl
no_more s item now more c is_master pos (makes bs b others f) e = absurd cc

module _ (K : kernel.Kernel) (s : Stim) (ms : List Action) (x : World) (k : IsChecked K) (e : kernel_run K s ms ≡ Some x)
    (n : ℕ) (b : Branch) (is : slice_get x.branches n ≡ Some b) (em : b.mode ≡ runs) (c : ℕ) (is_master : Bool) (pos : Pos) (rest : List Item) (ei : b.items ≡ transaction_end c is_master pos ∷ rest) where
  lone : IsAlone b
  lone = subst (λ m. IfLively m (IsAlone b)) em ((checked_tidy_holds K s ms x k e).alone.each n b is)

  end_is : IsTrue (is_among c (ends_of b.items))
  end_is = subst (λ i. IsTrue (is_among c (ends_of i))) (sym ei) (or_left (nat_eq c c) (is_among c (ends_of rest)) (same_number c))

  uses_it : IsTrue (by_items (channel c) b.items)
  uses_it = ends_use c b.items end_is

  outer : List ℕ
  outer = ends_of rest ++ lone.outer

  inside_is : b.inside ≡ c ∷ (ends_of rest ++ lone.outer)
  inside_is = lone.is ∙ ap (λ i. ends_of i ++ lone.outer) ei

  once : is_among c (ends_of rest ++ lone.outer) ≡ false
  once = not_true (is_among c (ends_of rest ++ lone.outer))
      (λ u. ⊎_elim (λ v. never v (subst OwnItems ei ((all_speak K s ms x k e).own.each n b is).own).0) (λ v. lone.unused c v uses_it) (among_append c (ends_of rest) lone.outer u))

  pub stands_once : (outer : List ℕ) × ((b.inside ≡ c ∷ outer) × (is_among c outer ≡ false))
  stands_once = (ends_of rest ++ lone.outer, (inside_is, once))

  left_none : is_among c (without_innermost b.inside) ≡ false
  left_none = ap (λ i. is_among c (without_innermost i)) inside_is ∙ once

  listed : c < length K.channels
  listed = items_have (Listed K) AnyPar AnyTransaction (channel c) b.items ((checked_listed K s ms x k e).all n b is) uses_it

  laws : Lawful K x
  laws = laws_hold K s ms x (checked_obey K k) e

  inside : EachInside (length K.roots) x.branches
  inside = inside_holds K s ms x k e

  stands : StandsInside (length K.roots) x.branches n b
  stands = subst (λ m. IfLively m (StandsInside (length K.roots) x.branches n b)) em (inside.each n b is)

  -- no branch above it has the end of one on this channel among its items
  none_above : (m : ℕ) (p : Branch) → slice_get x.branches m ≡ Some p → StandsInside (length K.roots) x.branches m p → IsTrue (is_among c (ends_of p.items)) → Above x.branches m n → ⊥
  none_above m p ep t u a = by stands
    where
      by : StandsInside (length K.roots) x.branches n b → ⊥
      by (as_root lt q) =
          let r = above_last x.branches a in
          let ch = r.1.0 in
          let g = laws.forest.family r.0 n ch.parent ch.from ch.count ch.is ch.waiting in
          let l = g.1 in
          let z = ch.least in
          absurd (omega arith)
      by (as_child l q ch eq f) =
          let r = above_last x.branches a in
          let here = ends_inside (length K.roots) x.branches m p c t u in
          let same : l ≡ r.0 = laws.forest.one_parent l r.0 n ch r.1.0 in
          let among : IsTrue (is_among c q.inside) =
          ⊎_elim (λ (o : m ≡ r.0). subst (λ (d : Branch). IsTrue (is_among c d.inside)) (some_given (sym ep ∙ (ap (slice_get x.branches) (o ∙ sym same) ∙ eq))) here)
          (λ o. all_below (length K.roots) x.branches laws.forest inside c m l p q (subst (λ z. Above x.branches m z) (sym same) o) ep (waits_so l q ch eq) here) r.1.1 in
          lone.unused c (subst (λ i. IsTrue (is_among c i)) (sym (behind_same (ends_of b.items) lone.outer q.inside (sym lone.is ∙ f))) among) uses_it
        where
          waits_so : (l : ℕ) (q : Branch) → IsChild x.branches l n → slice_get x.branches l ≡ Some q → StandsInside (length K.roots) x.branches l q
          waits_so l q ch eq = above_stands (length K.roots) x.branches laws.forest inside c l n q (directly ch) eq

  module _ (side : Side) (es : side_of b c ≡ Some side) where
    -- it alone stands in the transaction
    it_alone : (w : Within x.branches c side) → w.number ≡ n
    it_alone w = ⊎_elim by (λ h. absurd (not_kept K s ms x k e c listed side n b is em es uses_it w.number w.branch w.there h.0 h.1)) (ends_there K s ms x k e c listed side w)
      where
        of_same : (t : EndThere K s ms x k e c listed side w.number w.branch) → n ≡ t.number → w.number ≡ n
        of_same t q = ⊎_elim (λ p. sym p.0 ∙ sym q) (λ a. absurd (running_waits_not em (above_waits x.branches n w.number b is (subst (λ z. Above x.branches z w.number) (sym q) a)))) t.over

        by : EndThere K s ms x k e c listed side w.number w.branch → w.number ≡ n
        by t =
            ⊎_elim (of_same t) (λ a. absurd (none_above t.number t.branch t.there t.stands t.end a))
            (users_are_inside K s ms x k e t.number n t.branch b t.there is em c t.end (t.side_is ∙ sym es) uses_it).0

    module _ (now : Branch) (left : now.inside ≡ without_innermost b.inside) where
      changed : now ≡ b → ⊥
      changed q =
          never (subst (λ i. IsTrue (is_among c i)) (sym inside_is) (or_left (nat_eq c c) (is_among c (ends_of rest ++ lone.outer)) (same_number c))) (ap (is_among c) (sym (ap (λ (d : Branch). d.inside) q) ∙ left) ∙ left_none)

      none_stepped : (n0 : ℕ) (b0 : Branch) (item : Item) (rest0 : List Item) → slice_get x.branches n0 ≡ Some b0 → b0.mode ≡ runs → b0.items ≡ item ∷ rest0 → (after : Branch) (more : List Branch) → Becomes (step_of K s x n0 b0 rest0) item after more →
          slice_get (slice_set x.branches n0 after ++ more) n ≡ Some now → Within (slice_set x.branches n0 after ++ more) c side → ⊥
      none_stepped n0 b0 item rest0 is0 em0 ei0 after more g at w =
          ⊎_elim
          (λ (q : n0 ≡ n). here q (some_given (sym (at_itself x.branches n0 b0 after more is0) ∙ (ap (slice_get (slice_set x.branches n0 after ++ more)) q ∙ at))) (behind x.branches n0 b0 after more w.number w.branch is0 w.there))
          (λ ne. changed (some_given (sym at ∙ at_other x.branches n0 after more n b (λ z. ne (sym z)) is))) (same_or_not n0 n)
        where
          here : n0 ≡ n → after ≡ now → Behind x.branches n0 after more w.number w.branch → ⊥
          here q f (itself ek ed) = never w.within (ap (λ (d : Branch). is_among c d.inside) (ed ∙ f) ∙ (ap (is_among c) left ∙ left_none))
          here q f (there ne old) = ne (it_alone (record { number = w.number; branch = w.branch; there = old; going = w.going; side_is = w.side_is; within = w.within }) ∙ sym q)
          here q f (new j ek ed) =
              let same : b0 ≡ b = some_given (sym is0 ∙ (ap (slice_get x.branches) q ∙ is)) in
              let items : item ∷ rest0 ≡ transaction_end c is_master pos ∷ rest = sym ei0 ∙ (ap (λ (d : Branch). d.items) same ∙ ei) in
              let first : item ≡ transaction_end c is_master pos = cc in
              none_given (subst (λ l. slice_get l j ≡ Some w.branch) (no_more (step_of K s x n0 b0 rest0) item after more c is_master pos g first) ed)

      none_left : {y : World} → Moved K s x y → slice_get y.branches n ≡ Some now → Within y.branches c side → ⊥
      none_left (ticked clocks) at w = changed (some_given (sym at ∙ is))
      none_left (stepped n0 b0 item rest0 z is0 em0 ei0 o) at w =
          none_stepped n0 b0 item rest0 is0 em0 ei0 o.now o.more o.becomes (ap (λ l. slice_get l n) (sym o.branches) ∙ at) (subst (λ l. Within l c side) o.branches w)
      none_left (joined n0 b0 from count is0 ew d) at w =
          let ne : n ≢ n0 = λ q. running_waits_not em (subst (λ (z : Branch). IsWaiting z.mode) (some_given (sym is0 ∙ (ap (slice_get x.branches) (sym q) ∙ is))) (waiting_is ew)) in
          changed (some_given (sym at ∙ (ap (λ l. slice_get l n) (sym (append-nil (slice_set x.branches n0 (record b0 { mode = runs })))) ∙ at_other x.branches n0 (record b0 { mode = runs }) [] n b ne is)))

pub ends_once_holds : EndsOnce
ends_once_holds K s ms x k e n b is em c is_master pos rest ei = stands_once K s ms x k e n b is em c is_master pos rest ei

pub end_leaves_none : EndLeavesNone
end_leaves_none K s ms x y m k e f n b now is em at c is_master pos rest ei left side es =
    not_true (inside_on y.branches c side)
    (λ h. none_left K s ms x k e n b is em c is_master pos rest ei side es now left (moved K s x (no_text K s x (laws_hold K s ms x (checked_obey K k) e).kernels) m f) at (some_within y.branches c side h))

-- Where a branch begins a transaction it stands in none on that channel.

choices_use : (c : ℕ) (choices : List Choice) → IsTrue (some_choice_on c choices) → IsTrue (by_choices (channel c) choices)
choices_use c [] u = never u refl
choices_use c (a ∷ others) u =
    ⊎_elim (λ v. or_left (by_input (channel c) a.input) _ (subst IsTrue (sym (by_resource_of c a.input)) v)) (λ v. or_right (by_input (channel c) a.input) _ (or_right (by_body (channel c) a.body) _ (choices_use c others v)))
    (or_cases (by_resource (channel c) a.input.resource) (some_choice_on c others) u)

held_uses : (c : ℕ) (item : Item) → IsTrue (is_nested c item) → IsTrue (by_item (channel c) item)
held_uses c (does s) u = nested_is_used c s u
held_uses c (chooses choices otherwise) u = or_left (by_choices (channel c) choices) _ (choices_use c choices u)
held_uses c (says i) u = never u refl
held_uses c (stores p v) u = never u refl
held_uses c (stamps resource p v) u = never u refl
held_uses c (mark n) u = never u refl
held_uses c (awaits d pos) u = never u refl
held_uses c (transaction_end d is_master pos) u = never u refl
held_uses c (fixed i v counter) u = never u refl
held_uses c ends u = never u refl

choices_beside : (c : ℕ) (behind_it : List ℕ) (choices : List Choice) → EachChoice (UnusedBy behind_it) (SpeaksIn behind_it) choices → IsTrue (is_among c behind_it) → some_choice_on c choices ≡ false
choices_beside c behind_it [] h u = refl
choices_beside c behind_it (a ∷ others) h u = ap₂ ◌||◌ (sym (by_resource_of c a.input) ∙ h.0 c u) (choices_beside c behind_it others h.2 u)

-- so none of its own transactions is on the channel
not_own : (c : ℕ) (item : Item) (rest : List Item) → OwnItems (item ∷ rest) → IsTrue (is_nested c item) → IsTrue (is_among c (ends_of (item ∷ rest))) → ⊥
not_own c (does s) rest h u v = never u (h.0 c v)
not_own c (chooses choices otherwise) rest h u v = never u (choices_beside c (ends_of rest) choices h.0.0 v)
not_own c (says i) rest h u v = never u refl
not_own c (stores p w) rest h u v = never u refl
not_own c (stamps resource p w) rest h u v = never u refl
not_own c (mark n) rest h u v = never u refl
not_own c (awaits d pos) rest h u v = never u refl
not_own c (transaction_end d is_master pos) rest h u v = never u refl
not_own c (fixed i w counter) rest h u v = never u refl
not_own c ends rest h u v = never u refl

pub held_outside : NestedOutside
held_outside K s ms x k e n b is em item rest ei c u =
    let its : IsAlone b = subst (λ m. IfLively m (IsAlone b)) em ((checked_tidy_holds K s ms x k e).alone.each n b is) in
    not_true (is_among c b.inside)
    (λ v. ⊎_elim (λ w. not_own c item rest (subst OwnItems ei ((all_speak K s ms x k e).own.each n b is).own) u (subst (λ i. IsTrue (is_among c (ends_of i))) ei w))
    (λ w. its.unused c w (subst (λ i. IsTrue (by_items (channel c) i)) (sym ei) (or_left (by_item (channel c) item) (by_items (channel c) rest) (held_uses c item u))))
    (among_append c (ends_of b.items) its.outer (subst (λ i. IsTrue (is_among c i)) its.is v)))
