-- No transaction that a branch stands in begins again before it ends.
use Rattle.std.proofs.Common.{◌≡◌, ℕ, Bool, true, false, ◌||◌, IsTrue, List, [], ◌∷◌, Option, Some, None, slice_get, nat_eq, refl, sym, ap, subst}
use Rattle.xs_instr.specs.declared.image.Stim.{Stim}
use Rattle.xc_kernel.specs.declared.statement.KRes.{KRes}
use Rattle.xc_kernel.specs.Plain as kernel
use Rattle.xc_kernel.specs.Things.{channel, by_channel, by_statements, by_cases, by_default, by_input, by_some_expression}
use Rattle.xc_kernel.specs.Branches.{branches_of}
use Rattle.xc_kernel.proofs.Used.{or_false}
use Rattle.xc_meaning.specs.States.Items.{Body, of_kernel, of_text, Item, does, says, stores, stamps, mark, awaits, transaction_end, chooses, fixed, ends, todo, body_items, storing, stamping}
use Rattle.xc_meaning.specs.States.Branches.{Branch}
use Rattle.xc_meaning.specs.States.Worlds.{World}
use Rattle.xc_meaning.specs.Settings.Setting.{Setting}
use Rattle.xc_meaning.specs.Settings.Flow.{from_mark_by, items_from_mark}
use Rattle.xc_meaning.specs.Settings.Channels.{is_among}
use Rattle.xc_meaning.specs.Settings.Select.{default_of}
use Rattle.xc_meaning.specs.Runs.{step_of, kernel_start}
use Rattle.xc_meaning.specs.Outline as outline
use Rattle.xc_meaning.specs.Outline.{Leaves, passed, sent, offered, received, sampled, received_fixed, sampled_fixed, held, other, turned, left, known, taken_fixed, taken_input, defaulted, Enters, Exits, Becomes, goes, enters, exits, errs, ends_it, makes, Moved}
use Rattle.xc_meaning.proofs.Basics.{none_given, or_left, same_number}
use Rattle.xc_invariants.specs.Rules.{AnyThing, AnyPar}
use Rattle.xc_invariants.specs.Every.{EveryItem, AllItems}
use Rattle.xc_invariants.specs.Each.{EachItem, EachBranch}
use Rattle.xc_invariants.specs.Sided.{BodyIs, EachChoice, DefaultIs}
use Rattle.xc_invariants.specs.Placed.{ends_of}
use Rattle.xc_invariants.specs.Tidy.{nested_use, nested_uses, SpeaksAlone, TransactionsAreTidy}
use Rattle.xc_invariants.proofs.Choices.{EachCase, known_each, choice_each}
use Rattle.xc_invariants.proofs.EachItems.{each_branch_kept}
use Rattle.xc_invariants.proofs.EveryItem.{every_branches}
use Rattle.xc_invariants.proofs.Starts.{start_at, all_at}
use Rattle.xc_invariants.proofs.Uses.{child_at}
use Rattle.xc_invariants.proofs.Tidy.{not_true, never, unused_not_nested, one_more}

-- What a branch has still to do speaks alone, by the channels of the transactions that end behind each item: none stands in another one
-- on its channel, and in no item in front of an end does a `par`, a select or a transaction use its channel.
abbrev pub SpeaksIn : List ℕ → kernel.Statements → Type 0
SpeaksIn inside ss = (c : ℕ) → IsTrue (is_among c inside) → nested_uses c ss ≡ false

abbrev pub UnusedBy : List ℕ → kernel.Input → Type 0
UnusedBy inside i = (c : ℕ) → IsTrue (is_among c inside) → by_input (channel c) i ≡ false

abbrev pub OwnItem : List ℕ → Item → Type 0
OwnItem inside (does s) = (c : ℕ) → IsTrue (is_among c inside) → nested_use c s ≡ false
OwnItem inside (says i) = ⊥
OwnItem inside (transaction_end d is_master pos) = is_among d inside ≡ false
OwnItem inside (chooses choices otherwise) =
    EachChoice (UnusedBy inside) (SpeaksIn inside) choices × DefaultIs (SpeaksIn inside) otherwise
OwnItem inside item = Unit {0}

abbrev pub OwnItems : List Item → Type 0
OwnItems [] = Unit {0}
OwnItems (item ∷ rest) = OwnItem (ends_of rest) item × OwnItems rest

pub record SpeaksOwn (b : Branch) : Type 0 where
  pub own : OwnItems b.items

-- items in front of others in which the same transactions end
record Own (items rest : List Item) : Type 0 where
  own : OwnItems items
  ends : ends_of items ≡ ends_of rest

own_todo : (ss : kernel.Statements) (rest : List Item) → SpeaksIn (ends_of rest) ss → OwnItems rest → Own (todo ss rest) rest
own_todo kernel.no_more rest h g = record { own = g; ends = refl }
own_todo (kernel.more s ss) rest h g =
    let k = own_todo ss rest (λ c u. (or_false (nested_use c s) (nested_uses c ss) (h c u)).1) g in
    record { own = (λ c u. (or_false (nested_use c s) (nested_uses c ss) (h c (subst (λ i. IsTrue (is_among c i)) k.ends u))).0, k.own); ends = k.ends }

own_body : (b : Body) (rest : List Item) → BodyIs (SpeaksIn (ends_of rest)) b → OwnItems rest → Own (body_items b rest) rest
own_body (of_kernel ss) rest h g = own_todo ss rest h g
own_body (of_text i) rest h g = absurd h

own_storing : (place : Option kernel.Place) (v : ℕ) (rest : List Item) → OwnItems rest → OwnItems (storing place v rest)
own_storing None v rest g = g
own_storing (Some p) v rest g = (tt, g)

own_stamping : (resource : KRes) (place : Option kernel.Place) (v : ℕ) (rest : List Item) → OwnItems rest → OwnItems (stamping resource place v rest)
own_stamping resource None v rest g = g
own_stamping resource (Some p) v rest g = (tt, g)

own_by : (b : Bool) (here behind : List Item) → OwnItems here → OwnItems behind → OwnItems (from_mark_by b here behind)
own_by true here behind h g = h
own_by false here behind h g = g

own_from : (n : ℕ) (items : List Item) → OwnItems items → OwnItems (items_from_mark n items)
own_from n [] h = tt
own_from n (mark m ∷ rest) h = own_by (nat_eq n m) (mark m ∷ rest) (items_from_mark n rest) h (own_from n rest h.1)
own_from n (does s ∷ rest) h = own_from n rest h.1
own_from n (says i ∷ rest) h = own_from n rest h.1
own_from n (stores place v ∷ rest) h = own_from n rest h.1
own_from n (stamps resource place v ∷ rest) h = own_from n rest h.1
own_from n (awaits c pos ∷ rest) h = own_from n rest h.1
own_from n (transaction_end c is_master pos ∷ rest) h = own_from n rest h.1
own_from n (chooses choices otherwise ∷ rest) h = own_from n rest h.1
own_from n (fixed i v counter ∷ rest) h = own_from n rest h.1
own_from n (ends ∷ rest) h = own_from n rest h.1

-- the cases of a select, where none uses these channels
own_cases : (inside : List ℕ) (cs : kernel.Cases) → ((c : ℕ) → IsTrue (is_among c inside) → by_cases (channel c) cs ≡ false) → EachCase (UnusedBy inside) (SpeaksIn inside) cs
own_cases inside kernel.no_case h = tt
own_cases inside (kernel.more_cases (kernel.case guard i a) cs) h =
    ((λ c u. (or_false (by_input (channel c) i) (by_statements (channel c) a) (or_false (by_some_expression (channel c) guard) _ (or_false _ (by_cases (channel c) cs) (h c u)).0).1).0), (λ c u. unused_not_nested c a (or_false (by_input (channel c) i) (by_statements (channel c) a) (or_false (by_some_expression (channel c) guard) _ (or_false _ (by_cases (channel c) cs) (h c u)).0).1).1), own_cases inside cs (λ c u. (or_false _ (by_cases (channel c) cs) (h c u)).1))

own_default : (inside : List ℕ) (d : kernel.Default) → ((c : ℕ) → IsTrue (is_among c inside) → by_default (channel c) d ≡ false) → DefaultIs (SpeaksIn inside) (default_of d)
own_default inside kernel.no_default h = tt
own_default inside (kernel.default ss) h = λ c u. unused_not_nested c ss (h c u)

own_left : (rest : List Item) (item : Item) (items : List Item) → Leaves rest item items → OwnItems (item ∷ rest) → OwnItems items
own_left rest first after (passed item p) h = h.1
own_left rest first after (sent o v) h = own_stamping o.resource o.stamp v rest h.1
own_left rest first after (offered o c pos e) h = (tt, h.1)
own_left rest first after (received input v) h = own_storing input.target v rest h.1
own_left rest first after (sampled input v w) h =
    own_storing input.target v (stamping input.resource input.stamp w rest) (own_stamping input.resource input.stamp w rest h.1)
own_left rest first after (received_fixed input x y v) h = own_storing input.target v rest h.1
own_left rest first after (sampled_fixed input x y v w) h =
    own_storing input.target v (stamping input.resource input.stamp w rest) (own_stamping input.resource input.stamp w rest h.1)
own_left rest first after (held e a b) h = (own_todo a rest (λ c u. (or_false (nested_uses c a) (nested_uses c b) (h.0 c u)).0) h.1).own
own_left rest first after (other e a b) h = (own_todo b rest (λ c u. (or_false (nested_uses c a) (nested_uses c b) (h.0 c u)).1) h.1).own
own_left rest first after (turned e a b) h =
    let k = own_todo b (does (kernel.loop e a b) ∷ rest) (λ c u. (or_false (nested_uses c a) (nested_uses c b) (h.0 c u)).1) h in
    (own_todo a (todo b (does (kernel.loop e a b) ∷ rest)) (λ c u. (or_false (nested_uses c a) (nested_uses c b) (h.0 c (subst (λ i. IsTrue (is_among c i)) k.ends u))).0) k.own).own
own_left rest first after (outline.Leaves.begun n a) h = (own_todo a (mark n ∷ rest) (λ c u. h.0 c u) (tt, h.1)).own
own_left rest first after (left n) h = own_from n rest h.1
own_left rest first after (known cs d pos store choices e) h = (
  (
    known_each (UnusedBy (ends_of rest)) (SpeaksIn (ends_of rest)) store cs choices e (own_cases (ends_of rest) cs (λ c u. (or_false (by_cases (channel c) cs) (by_default (channel c) d) (h.0 c u)).0)),
    own_default (ends_of rest) d (λ c u. (or_false (by_cases (channel c) cs) (by_default (channel c) d) (h.0 c u)).1),
  ),
  h.1,
)
own_left rest first after (taken_fixed choices otherwise n c v w e) h = (tt, (own_body c.body rest (choice_each (UnusedBy (ends_of rest)) (SpeaksIn (ends_of rest)) choices n c e h.0.0).1 h.1).own)
own_left rest first after (taken_input choices otherwise n c e) h = (λ d u. refl, (own_body c.body rest (choice_each (UnusedBy (ends_of rest)) (SpeaksIn (ends_of rest)) choices n c e h.0.0).1 h.1).own)
own_left rest first after (defaulted choices body) h = (own_body body rest h.0.1 h.1).own

-- a transaction that begins isn't one around it
ends_once : (d : ℕ) (inside : List ℕ) (ss : kernel.Statements) → ((c : ℕ) → IsTrue (is_among c inside) → (by_channel (channel c) d || by_statements (channel c) ss) ≡ false) → is_among d inside ≡ false
ends_once d inside ss h = not_true (is_among d inside) (λ u. never (or_left (by_channel (channel d) d) (by_statements (channel d) ss) (same_number d)) (h d u))

own_entered : (rest : List Item) (item : Item) (c : ℕ) (items : List Item) → Enters rest item c items → EveryItem AnyThing AnyPar SpeaksAlone item → OwnItems (item ∷ rest) → OwnItems items
own_entered rest first c after (outline.Enters.as_master d ss start close) t h =
    (tt, (own_todo ss (transaction_end d true close ∷ rest) (one_more d (ends_of rest) ss t.1 h.0) (ends_once d (ends_of rest) ss h.0, h.1)).own)
own_entered rest first c after (outline.Enters.as_slave d ss start close) t h =
    (own_todo ss (transaction_end d false close ∷ rest) (one_more d (ends_of rest) ss t.1 h.0) (ends_once d (ends_of rest) ss h.0, h.1)).own

own_exited : (rest : List Item) (item : Item) (items : List Item) → Exits rest item items → OwnItems (item ∷ rest) → OwnItems items
own_exited rest first after (outline.Exits.as_master c pos) h = (tt, h.1)
own_exited rest first after (outline.Exits.as_slave c pos) h = h.1

own_now : (s : Setting) (item : Item) (now : Branch) (more : List Branch) → Becomes s item now more → EveryItem AnyThing AnyPar SpeaksAlone item → OwnItems (item ∷ s.rest) → OwnItems now.items
own_now s item now more (goes one items l) t h = own_left s.rest one items l h
own_now s item now more (enters one c items l) t h = own_entered s.rest one c items l t h
own_now s item now more (exits one items l) t h = own_exited s.rest one items l h
own_now s item now more (errs one) t h = tt
own_now s item now more ends_it t h = tt
own_now s item now more (makes bs b others e) t h = h.1

-- a branch that begins
own_begun : (ss : kernel.Statements) → OwnItems (todo ss (ends ∷ []))
own_begun ss = (own_todo ss (ends ∷ []) (λ c u. never u refl) (tt, tt)).own

own_new : (s : Setting) (item : Item) (now : Branch) (more : List Branch) → Becomes s item now more → (j : ℕ) (c : Branch) → slice_get more j ≡ Some c → OwnItems c.items
own_new s item now more (goes one items l) j c e = none_given e
own_new s item now more (enters one d items l) j c e = none_given e
own_new s item now more (exits one items l) j c e = none_given e
own_new s item now more (errs one) j c e = none_given e
own_new s item now more ends_it j c e = none_given e
own_new s item now more (makes bs b others f) j c e =
    let d = child_at s (does (kernel.par bs)) _ _ (makes bs b others f) bs refl j c e in subst OwnItems (sym d.items) (own_begun d.code)

pub own_kept : (K : kernel.Kernel) (stim : Stim) (x : World) {y : World} → EachItem (λ n sides. EveryItem AnyThing AnyPar SpeaksAlone) x.branches → EachBranch SpeaksOwn x.branches → Moved K stim x y → EachBranch SpeaksOwn y.branches
own_kept K stim x t h m =
    each_branch_kept SpeaksOwn K stim x h
    (λ n b item rest now more is em ei g. record { own = own_now (step_of K stim x n b rest) item now more g (subst (λ i. AllItems (EveryItem AnyThing AnyPar SpeaksAlone) i) ei (t.all n b is)).0 (subst OwnItems ei (h.each n b is).own) })
    (λ n b item rest now more is em ei g j c e. record { own = own_new (step_of K stim x n b rest) item now more g j c e }) (λ n b from count is ew. record { own = (h.each n b is).own }) m

pub own_begins : (K : kernel.Kernel) → EachBranch SpeaksOwn (kernel_start K).branches
own_begins K = record { each = λ n b e. let r = start_at K n b e in record { own = subst OwnItems (sym (ap (λ (d : Branch). d.items) r.is)) (own_begun r.root.body) } }

pub speaking_begins : (K : kernel.Kernel) → TransactionsAreTidy K → EachItem (λ n sides. EveryItem AnyThing AnyPar SpeaksAlone) (kernel_start K).branches
speaking_begins K h = record {
  all = λ n b e.
      let r = start_at K n b e in
      subst (λ i. AllItems (EveryItem AnyThing AnyPar SpeaksAlone) i) (sym (ap (λ (d : Branch). d.items) r.is))
      (all_at (EveryItem AnyThing AnyPar SpeaksAlone) (branches_of K.roots) n r.root.body r.code (every_branches AnyThing AnyPar SpeaksAlone (branches_of K.roots) h.tidy) tt);
}
