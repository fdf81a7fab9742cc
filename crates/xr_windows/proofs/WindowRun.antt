-- A window's rounds make the next part.
use Rattle.std.proofs.Common.{◌≡◌, ◌<◌, ◌+◌, ◌^◌, ℕ, zero, suc, Bool, List, [], ◌∷◌, ◌++◌, Option, refl, sym, ap, subst, ◌∙◌, arith}
use Rattle.xr_windows.specs.Alone.{Alone, alone, begins, coming_to, sent_for}
use Rattle.xr_windows.specs.Coming.{items_from, lists_of}
use Rattle.xr_windows.specs.Goes.{CanGo, Goes}
use Rattle.xr_windows.specs.Parts.{IsPartOf, Standing}
use Rattle.xr_windows.specs.Sending.{AreNeeded, Sending, batches_to, items_in}
use Rattle.xr_windows.specs.Windows.{Between, batch, core_after, has_one, part, ticks_in, went_on, window_start, windows_of}
use Rattle.xr_windows.specs.declared.coming.Coming.{Coming}
use Rattle.xr_windows.specs.declared.stamped.Stamped.{Stamped}
use Rattle.xr_windows.proofs.Brought.{brought}
use Rattle.xr_windows.proofs.EightTicks.{clock_at, loc}
use Rattle.xr_windows.proofs.Needed.{needed_items}
use Rattle.xr_windows.proofs.PartNext.{batch_next, coming_four, few, part_next, window_is}
use Rattle.xr_windows.proofs.Rooms.{due_has_room}
use Rattle.xr_windows.proofs.SentTicks.{alone_clock}
use Rattle.xs_core.specs.Core.{Seen as Core}
use Rattle.xs_fabric.specs.Lockstep.{lockstep}
use Rattle.xs_fabric.specs.OnLinks.{items_at}
use Rattle.xs_instr.specs.declared.image.Home.{Home}
use Rattle.xs_instr.specs.declared.image.Image.{Image}
use Rattle.xs_instr.specs.declared.image.Stim.{Stim}
use Rattle.xs_instr.specs.declared.state.CoreState.{CoreState}
use Rattle.xs_instr.specs.declared.state.Item.{Item}
use Rattle.xs_instr.specs.Machine.{home_of}

-- four lists, by their number
abbrev pub comes : List Item → List Item → List Item → List Item → ℕ → List Item
comes x y z w = items_at (x ∷ y ∷ z ∷ w ∷ [])

abbrev pub between : CoreState → List Stamped → (ℕ → List Item) → Bool → Between
between core records waiting sent = record { core = core; records = records; waiting = waiting; has_sent = sent }

-- a part's window begins: the core is the part's, and behind what waits stands what the batches bring
pub record Begins (L : Image) (s : Stim) (n : ℕ) (p : Standing) (core : Core) (x y z w : List Item) : Type 0 where
  pub part : IsPartOf L s n p
  pub left : p.ran < windows_of n
  pub home : core.home ≡ p.home
  pub state : core.state ≡ p.core
  pub got : List Sending
  pub came : got ≡ batches_to L s n p.home.number p.ran
  pub from0 : x ≡ items_at p.waiting 0 ++ items_from 0 got
  pub from1 : y ≡ items_at p.waiting 1 ++ items_from 1 got
  pub from2 : z ≡ items_at p.waiting 2 ++ items_from 2 got
  pub from3 : w ≡ items_at p.waiting 3 ++ items_from 3 got

module _ (L : Image) (s : Stim) (n : ℕ) (p : Standing) (core : Core) (x y z w : List Item) (b : Begins L s n p core x y z w) where
  abbrev i : ℕ
  i = p.home.number

  abbrev k : ℕ
  k = p.ran

  abbrev t : ℕ
  t = window_start n k

  small : n < 2 ^ 32
  small = let few = b.part.few in omega arith

  at_place : (a : ℕ) → a < 4 → items_at p.waiting a ++ items_from a b.got ≡ (part L s n i k).waiting a ++ items_from a (batches_to L s n i k)
  at_place a la = (λ j. (b.part.state j).waiting a ++ items_from a (b.came j))

  waits_and_came : (a : ℕ) → a < 4 → items_at p.waiting a ++ items_from a b.got ≡ coming_to (lockstep L s t).links i a
  waits_and_came zero la =
      at_place 0 la ∙ ap (λ xs. (part L s n i k).waiting 0 ++ xs) (brought L s n small i 0 k b.part.number la) ∙ sym (coming_four L s n small i k b.part.number 0)
  waits_and_came (suc zero) la =
      at_place 1 la ∙ ap (λ xs. (part L s n i k).waiting 1 ++ xs) (brought L s n small i 1 k b.part.number la) ∙ sym (coming_four L s n small i k b.part.number 1)
  waits_and_came (suc (suc zero)) la =
      at_place 2 la ∙ ap (λ xs. (part L s n i k).waiting 2 ++ xs) (brought L s n small i 2 k b.part.number la) ∙ sym (coming_four L s n small i k b.part.number 2)
  waits_and_came (suc (suc (suc zero))) la =
      at_place 3 la ∙ ap (λ xs. (part L s n i k).waiting 3 ++ xs) (brought L s n small i 3 k b.part.number la) ∙ sym (coming_four L s n small i k b.part.number 3)
  waits_and_came (suc (suc (suc (suc a)))) la = absurd (omega arith)

  lists_are : (a : ℕ) → comes x y z w a ≡ coming_to (lockstep L s t).links i a
  lists_are zero = b.from0 ∙ waits_and_came 0 (omega arith)
  lists_are (suc zero) = b.from1 ∙ waits_and_came 1 (omega arith)
  lists_are (suc (suc zero)) = b.from2 ∙ waits_and_came 2 (omega arith)
  lists_are (suc (suc (suc zero))) = b.from3 ∙ waits_and_came 3 (omega arith)
  lists_are (suc (suc (suc (suc a)))) = sym (coming_four L s n small i k b.part.number (suc (suc (suc (suc a)))))

  core_is : core.state ≡ core_after L s i t
  unfolding part
  core_is = b.state ∙ ap (λ (q : Between). q.core) b.part.state

  home_is : core.home ≡ home_of L s i
  home_is = b.home ∙ b.part.home

  -- the core by itself is that of the run
  alone_is : (m : ℕ) → alone core.home (begins core.state (comes x y z w)) m ≡ loc L s t m i
  alone_is m = (λ j. alone (home_is j) (begins (core_is j) (λ a. lists_are a j)) m)

  -- so each of its rounds can be run
  pub can_run : (m : ℕ) → m < ticks_in n k → CanGo core.home (alone core.home (begins core.state (comes x y z w)) m).core (alone core.home (begins core.state (comes x y z w)) m).coming
  can_run m lt =
      let short = b.part.few in
      let eight : m < 8 = let f = few L s n small k in omega arith in
      let inside : t + m + 1 < 2 ^ 32 = omega arith in
      let clock = alone_clock (home_of L s i) (begins (core_after L s i t) (coming_to (lockstep L s t).links i)) t m (clock_at L s t i b.part.number (omega arith)) (omega arith) in
      let there : CanGo (home_of L s i) (loc L s t m i).core (loc L s t m i).coming = record {
        clock = omega (arith, clock);
        room = due_has_room L s b.part.valid t m i b.part.number eight inside;
      } in
      subst (λ (h : Home). CanGo h (alone core.home (begins core.state (comes x y z w)) m).core (alone core.home (begins core.state (comes x y z w)) m).coming) (sym home_is)
      (subst (λ (a : Alone). CanGo (home_of L s i) a.core a.coming) (sym (alone_is m)) there)

  next_is : part L s n i (suc k) ≡ went_on (part L s n i k) (loc L s t (ticks_in n k) i)
  next_is = part_next L s n small i k b.part.number ∙ ap (went_on (part L s n i k)) (window_is L s n small i k b.part.number)

  module _ (ticks : ℕ) (same : ticks ≡ ticks_in n k) (records records' : List Stamped) (core' : Core) (x' y' z' w' : List Item) (written : records ≡ p.records) (h : Goes (alone core.home (begins core.state (comes x y z w)) ticks) records core' (comes x' y' z' w') records') where
    ran_is : alone core.home (begins core.state (comes x y z w)) ticks ≡ loc L s t (ticks_in n k) i
    ran_is = ap (alone core.home (begins core.state (comes x y z w))) same ∙ alone_is (ticks_in n k)

    base : records ≡ (part L s n i k).records
    base = written ∙ ap (λ (q : Between). q.records) b.part.state

    state_is : (core1 : CoreState) (records1 : List Stamped) (sent : Bool) → core1 ≡ core'.state → records1 ≡ records' → sent ≡ has_one core'.outbox → between core1 records1 (comes x' y' z' w') sent ≡ part L s n i (suc k)
    state_is core1 records1 sent cores recs some =
        (λ j. record {
          core = (cores ∙ h.state ∙ ap (λ (a : Alone). a.core) ran_is) j;
          records = (recs ∙ h.written ∙ (λ m. base m ++ (ran_is m).made)) j;
          waiting = λ a. (h.on_way a ∙ ap (λ (q : Alone). q.coming a) ran_is) j;
          has_sent = (some ∙ ap has_one (h.outgoing ∙ ap (λ (a : Alone). a.sent) ran_is)) j;
        })
        ∙ sym next_is

    pub next_part : (home1 : Home) (core1 : CoreState) (records1 : List Stamped) (sent : Bool) (ran all : ℕ) → home1 ≡ core.home → core1 ≡ core'.state → records1 ≡ records' → sent ≡ has_one core'.outbox → ran ≡ k + 1 → all ≡ p.ticks → IsPartOf L s n (record { home = home1; core = core1; waiting = x' ∷ y' ∷ z' ∷ w' ∷ []; records = records1; has_sent = sent; ran = ran; ticks = all })
    next_part home1 core1 records1 sent ran all homes cores recs some rans alls =
        let at_home : home1 ≡ p.home = homes ∙ b.home in
        let numbers : home1.number ≡ i = ap (λ (x : Home). x.number) at_home in
        let number = b.part.number in
        let left = b.left in
        let next : suc k ≡ ran = omega (arith, rans) in
        record {
          valid = b.part.valid;
          good = b.part.good;
          number = omega (arith, numbers, number);
          home = at_home ∙ b.part.home ∙ sym (ap (home_of L s) numbers);
          ticks = alls ∙ b.part.ticks;
          some = b.part.some;
          few = b.part.few;
          within = omega (arith, rans, left);
          state = state_is core1 records1 sent cores recs some ∙ (λ j. part L s n (sym numbers j) (next j));
        }

    -- what it sent is the run's batches
    pub next_batch : (number : ℕ) → number ≡ core.home.number → (j : ℕ) → sent_for j core'.outbox ≡ batch L s n number j k
    next_batch number at_number j =
        let numbers : number ≡ i = at_number ∙ ap (λ (x : Home). x.number) b.home in
        ap (sent_for j) (h.outgoing ∙ ap (λ (a : Alone). a.sent) ran_is)
        ∙ sym (batch_next L s n small i j k b.part.number ∙ ap (λ (a : Alone). sent_for j a.sent) (window_is L s n small i k b.part.number))
        ∙ sym (ap (λ m. batch L s n m j k) numbers)

pub begins_of : (L : Image) (s : Stim) (n : ℕ) (p : Standing) (core0 core : Core) (c c1 c' : Coming) (records : List Stamped) (sent : Bool) (ran ticks : ℕ) (g0 g1 g2 g3 : Option Sending)
    → record { home = core0.home; core = core0.state; waiting = lists_of c; records = records; has_sent = sent; ran = ran; ticks = ticks } ≡ p
    → IsPartOf L s n p → p.ran < windows_of n → AreNeeded L s n p.home.number p.ran g0 g1 g2 g3 → core ≡ record core0 { spare = core.spare }
    → c1.from0.items ≡ c.from0.items → c1.from1.items ≡ c.from1.items → c1.from2.items ≡ c.from2.items → c1.from3.items ≡ c.from3.items
    → c'.from0.items ≡ c1.from0.items ++ items_in g0 → c'.from1.items ≡ c1.from1.items ++ items_in g1 → c'.from2.items ≡ c1.from2.items ++ items_in g2 → c'.from3.items ≡ c1.from3.items ++ items_in g3
    → Begins L s n p core c'.from0.items c'.from1.items c'.from2.items c'.from3.items
begins_of L s n p core0 core c c1 c' records sent ran ticks g0 g1 g2 g3 view is left need rest r0 r1 r2 r3 e0 e1 e2 e3 =
    let brings = needed_items L s n p.home.number in
    record {
      part = is;
      left = left;
      home = ap (λ (k : Core). k.home) rest ∙ ap (λ (v : Standing). v.home) view;
      state = ap (λ (k : Core). k.state) rest ∙ ap (λ (v : Standing). v.core) view;
      got = batches_to L s n p.home.number p.ran;
      came = refl;
      from0 = e0 ∙ ap (λ xs. xs ++ items_in g0) r0 ∙ (λ j. items_at (view j).waiting 0 ++ items_in (need.first j)) ∙ ap (λ xs. items_at p.waiting 0 ++ xs) (brings 0 p.ran is.number (omega arith));
      from1 = e1 ∙ ap (λ xs. xs ++ items_in g1) r1 ∙ (λ j. items_at (view j).waiting 1 ++ items_in (need.second j)) ∙ ap (λ xs. items_at p.waiting 1 ++ xs) (brings 1 p.ran is.number (omega arith));
      from2 = e2 ∙ ap (λ xs. xs ++ items_in g2) r2 ∙ (λ j. items_at (view j).waiting 2 ++ items_in (need.third j)) ∙ ap (λ xs. items_at p.waiting 2 ++ xs) (brings 2 p.ran is.number (omega arith));
      from3 = e3 ∙ ap (λ xs. xs ++ items_in g3) r3 ∙ (λ j. items_at (view j).waiting 3 ++ items_in (need.fourth j)) ∙ ap (λ xs. items_at p.waiting 3 ++ xs) (brings 3 p.ran is.number (omega arith));
    }

pub ticks_are : (L : Image) (s : Stim) (n : ℕ) (p v : Standing) (ticks : ℕ) → v ≡ p → IsPartOf L s n p → ticks ≡ ticks_in v.ticks v.ran → ticks ≡ ticks_in n p.ran
ticks_are L s n p v ticks view is h = h ∙ (λ j. ticks_in ((ap (λ (q : Standing). q.ticks) view ∙ is.ticks) j) (view j).ran)
