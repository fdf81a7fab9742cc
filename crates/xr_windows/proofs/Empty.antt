-- Nothing is on its way exactly where no part is pending.
use Rattle.std.proofs.Common.{◌≡◌, ◌≤◌, ◌<◌, ◌-◌, ◌^◌, ℕ, zero, suc, Bool, true, false, not, ◌&&◌, ◌||◌, List, [], ◌∷◌, ◌++◌, Some, refl, sym, ap, ◌∙◌, arith}
use Rattle.std.specs.Prelude.{slice_get}
use Rattle.std.proofs.lemmas.Bool.{eq-eqb}
use Rattle.xs_instr.specs.declared.image.Image.{Image}
use Rattle.xs_instr.specs.declared.image.Stim.{Stim}
use Rattle.xs_instr.specs.declared.state.Item.{Item}
use Rattle.xs_instr.specs.declared.state.Sent.{Sent}
use Rattle.xs_instr.specs.Ends.{peer_of}
use Rattle.xs_instr.specs.Machine.{home_of, items_in, link_in, link_of}
use Rattle.xs_fabric.specs.EndWord.{links_empty, no_items, no_items_out}
use Rattle.xr_windows.specs.Alone.{AllSent, coming_to, for_by, sent_for}
use Rattle.xs_fabric.specs.Lockstep.{lockstep}
use Rattle.xr_windows.specs.Pending.{has_item, pending, some_pending, waits}
use Rattle.xr_windows.specs.Windows.{core_after, has_one, part, ticks_in, window_start, windows_of}
use Rattle.xr_windows.proofs.EightTicks.{lockstep_square, loc}
use Rattle.xs_fabric.proofs.Links.{Links}
use Rattle.xr_windows.proofs.PartNext.{few, link_then, sent_is, waiting_is, within_run}
use Rattle.xr_windows.proofs.SentTicks.{alone_to}
use Rattle.xs_fabric.proofs.Ways.{Square}
use Rattle.xs_core.proofs.Weights.{get_below}

-- a peer is on one of the four cores, as in each valid image
abbrev pub PeersAmongFour : Image → Type 0
PeersAmongFour L = (c e : ℕ) → c < 4 → (peer_of L.chans c e).core < 4

-- nothing is on a link
abbrev pub Nothing : Links → Type 0
Nothing links = (a i : ℕ) → a < 4 → i < 4 → link_of links a i ≡ []

none_is : (xs : List Item) → xs ≡ [] → no_items xs ≡ true
none_is xs e = ap no_items e

is_none : (xs : List Item) → no_items xs ≡ true → xs ≡ []
is_none [] e = refl
is_none (x ∷ xs) e = cc

both : (a b : Bool) → a ≡ true → b ≡ true → (a && b) ≡ true
both true b e f = f
both false b e f = cc

left_of : (a b : Bool) → (a && b) ≡ true → a ≡ true
left_of true b e = refl
left_of false b e = cc

right_of : (a b : Bool) → (a && b) ≡ true → b ≡ true
right_of true b e = e
right_of false b e = cc

out_empty : (out : List (List Item)) → ((i : ℕ) (x : List Item) → slice_get out i ≡ Some x → no_items x ≡ true) → no_items_out out ≡ true
out_empty [] h = refl
out_empty (x ∷ out) h = both (no_items x) (no_items_out out) (h 0 x refl) (out_empty out (λ i y e. h (suc i) y e))

rows_empty : (links : Links) → ((a : ℕ) (out : List (List Item)) → slice_get links a ≡ Some out → no_items_out out ≡ true) → links_empty links ≡ true
rows_empty [] h = refl
rows_empty (out ∷ links) h = both (no_items_out out) (links_empty links) (h 0 out refl) (rows_empty links (λ a o e. h (suc a) o e))

nothing_empty : (links : Links) → Square links → Nothing links → links_empty links ≡ true
nothing_empty links q none = rows_empty links (λ a out h. out_empty out (λ i x g.
    let la : a < 4 = let lt = get_below links a out h in let r = q.rows in omega arith in
    let li : i < 4 = let lt = get_below out i x g in let r = q.columns a out h in omega arith in
    none_is x (sym (ap (λ o. link_in o i) h ∙ ap items_in g) ∙ none a i la li)))

out_none : (out : List (List Item)) (i : ℕ) → no_items_out out ≡ true → items_in (slice_get out i) ≡ []
out_none [] i e = refl
out_none (x ∷ out) zero e = is_none x (left_of (no_items x) (no_items_out out) e)
out_none (x ∷ out) (suc i) e = out_none out i (right_of (no_items x) (no_items_out out) e)

link_none : (links : Links) (a i : ℕ) → links_empty links ≡ true → link_of links a i ≡ []
link_none [] a i e = refl
link_none (out ∷ links) zero i e = out_none out i (left_of (no_items_out out) (links_empty links) e)
link_none (out ∷ links) (suc a) i e = link_none links a i (right_of (no_items_out out) (links_empty links) e)

first_none : (xs ys : List Item) → xs ++ ys ≡ [] → xs ≡ []
first_none [] ys e = refl
first_none (x ∷ xs) ys e = cc

second_none : (xs ys : List Item) → xs ++ ys ≡ [] → ys ≡ []
second_none [] ys e = e
second_none (x ∷ xs) ys e = cc

-- what goes to one of the four cores goes onto a link
none_sent : (ss : List Sent) → AllSent (λ s. s.to < 4) ss → ((i : ℕ) → i < 4 → sent_for i ss ≡ []) → ss ≡ []
none_sent [] all h = refl
none_sent (s ∷ ss) all h =
    let here = h s.to all.0 in
    let there : record { tick = s.tick; moved = s.moved } ∷ sent_for s.to ss ≡ [] = sym (ap (for_by (record { tick = s.tick; moved = s.moved }) (sent_for s.to ss)) (eq-eqb s.to s.to refl)) ∙ here in
    cc

has_none : (xs : List Item) → xs ≡ [] → has_item xs ≡ false
has_none xs e = ap has_item e

no_item : (xs : List Item) → has_item xs ≡ false → xs ≡ []
no_item [] e = refl
no_item (x ∷ xs) e = cc

no_one : (ss : List Sent) → has_one ss ≡ false → ss ≡ []
no_one [] e = refl
no_one (s ∷ ss) e = cc

neither : (a b : Bool) → a ≡ false → b ≡ false → (a || b) ≡ false
neither false b e f = f
neither true b e f = cc

not_left : (a b : Bool) → (a || b) ≡ false → a ≡ false
not_left false b e = refl
not_left true b e = cc

not_right : (a b : Bool) → (a || b) ≡ false → b ≡ false
not_right false b e = e
not_right true b e = cc

module _ (L : Image) (s : Stim) (n : ℕ) (small : n < 2 ^ 32) (peers : PeersAmongFour L) (k : ℕ) where
  -- what core i sent in the window
  abbrev sent_by : ℕ → List Sent
  sent_by i = (loc L s (window_start n k) (ticks_in n k) i).sent

  abbrev came_to : ℕ → ℕ → List Item
  came_to i a = (loc L s (window_start n k) (ticks_in n k) i).coming a

  abbrev links_then : Links
  links_then = (lockstep L s (window_start n (suc k))).links

  has_sent_is : (i : ℕ) → i < 4 → (part L s n i (suc k)).has_sent ≡ has_one (sent_by i)
  unfolding part
  has_sent_is i li = ap has_one (sent_is L s (window_start n k) (ticks_in n k) i li (few L s n small k) (within_run L s n small k))

  to_four : (i : ℕ) → i < 4 → AllSent (λ x. x.to < 4) (sent_by i)
  to_four i li = alone_to (λ d. d < 4) (home_of L s i) (core_after L s i (window_start n k)) (coming_to (lockstep L s (window_start n k)).links i) (ticks_in n k) (λ e far. peers i e li)

  none_waits : (i a : ℕ) → i < 4 → a < 4 → Nothing links_then → (part L s n i (suc k)).waiting a ≡ []
  none_waits i a li la none =
      waiting_is L s n small a i k la li ∙ first_none (came_to i a) (sent_for i (sent_by a)) (sym (link_then L s n small a i k la li) ∙ none a i la li)

  none_went : (i : ℕ) → i < 4 → Nothing links_then → sent_by i ≡ []
  none_went i li none =
      none_sent (sent_by i) (to_four i li) (λ j lj. second_none (came_to j i) (sent_for j (sent_by i)) (sym (link_then L s n small i j k li lj) ∙ none i j li lj))

  not_pending : (i : ℕ) → i < 4 → Nothing links_then → pending (part L s n i (suc k)) ≡ false
  not_pending i li none =
      let w = (part L s n i (suc k)).waiting in
      neither (waits w) (part L s n i (suc k)).has_sent
      (neither (has_item (w 0)) _ (has_none (w 0) (none_waits i 0 li (omega arith) none))
      (neither (has_item (w 1)) _ (has_none (w 1) (none_waits i 1 li (omega arith) none))
      (neither (has_item (w 2)) (has_item (w 3)) (has_none (w 2) (none_waits i 2 li (omega arith) none)) (has_none (w 3) (none_waits i 3 li (omega arith) none)))))
      (has_sent_is i li ∙ ap has_one (none_went i li none))

  -- what no pending part has
  waits_none : (w : ℕ → List Item) → waits w ≡ false → (a : ℕ) → a < 4 → w a ≡ []
  waits_none w e zero la = no_item (w 0) (not_left (has_item (w 0)) _ e)
  waits_none w e (suc zero) la = no_item (w 1) (not_left (has_item (w 1)) _ (not_right (has_item (w 0)) _ e))
  waits_none w e (suc (suc zero)) la = no_item (w 2) (not_left (has_item (w 2)) _ (not_right (has_item (w 1)) _ (not_right (has_item (w 0)) _ e)))
  waits_none w e (suc (suc (suc zero))) la = no_item (w 3) (not_right (has_item (w 2)) (has_item (w 3)) (not_right (has_item (w 1)) _ (not_right (has_item (w 0)) _ e)))
  waits_none w e (suc (suc (suc (suc a)))) la = absurd (omega arith)

  nothing_then : ((i : ℕ) → i < 4 → pending (part L s n i (suc k)) ≡ false) → Nothing links_then
  nothing_then h a i la li =
      let w = (part L s n i (suc k)).waiting in
      let came : came_to i a ≡ [] = sym (waiting_is L s n small a i k la li) ∙ waits_none w (not_left (waits w) _ (h i li)) a la in
      let went : sent_by a ≡ [] = no_one (sent_by a) (sym (has_sent_is a la) ∙ not_right (waits (part L s n a (suc k)).waiting) _ (h a la)) in
      link_then L s n small a i k la li ∙ (λ j. came j ++ sent_for i (went j))

  abbrev any : Bool
  any = pending (part L s n 0 (suc k)) || (pending (part L s n 1 (suc k)) || (pending (part L s n 2 (suc k)) || pending (part L s n 3 (suc k))))

  none_of : any ≡ false → (i : ℕ) → i < 4 → pending (part L s n i (suc k)) ≡ false
  none_of e zero li = not_left (pending (part L s n 0 (suc k))) _ e
  none_of e (suc zero) li = not_left (pending (part L s n 1 (suc k))) _ (not_right (pending (part L s n 0 (suc k))) _ e)
  none_of e (suc (suc zero)) li = not_left (pending (part L s n 2 (suc k))) _ (not_right (pending (part L s n 1 (suc k))) _ (not_right (pending (part L s n 0 (suc k))) _ e))
  none_of e (suc (suc (suc zero))) li = not_right (pending (part L s n 2 (suc k))) (pending (part L s n 3 (suc k))) (not_right (pending (part L s n 1 (suc k))) _ (not_right (pending (part L s n 0 (suc k))) _ e))
  none_of e (suc (suc (suc (suc i)))) li = absurd (omega arith)

  any_none : Nothing links_then → any ≡ false
  any_none none =
      neither (pending (part L s n 0 (suc k))) _ (not_pending 0 (omega arith) none)
      (neither (pending (part L s n 1 (suc k))) _ (not_pending 1 (omega arith) none)
      (neither (pending (part L s n 2 (suc k))) (pending (part L s n 3 (suc k))) (not_pending 2 (omega arith) none) (not_pending 3 (omega arith) none)))

  -- the links are empty exactly where no part is pending
  pub empty_then : links_empty links_then ≡ not any
  empty_then = go any refl
    where
      go : (b : Bool) → any ≡ b → links_empty links_then ≡ not b
      go false e = nothing_empty links_then (lockstep_square L s (window_start n (suc k))) (nothing_then (none_of e))
      go true e = other (links_empty links_then) refl
        where
          other : (c : Bool) → links_empty links_then ≡ c → c ≡ false
          other false f = refl
          other true f = let no = any_none (λ a i la li. link_none links_then a i f) in cc (e, no)

-- in the end
pub empty_in_the_end : (L : Image) (s : Stim) (n : ℕ) → 1 ≤ n → n < 2 ^ 32 → PeersAmongFour L → links_empty (lockstep L s n).links ≡ not (some_pending L s n)
empty_in_the_end L s n some small peers =
    let k : ℕ = windows_of n - 1 in
    let all : suc k ≡ windows_of n = omega arith in
    let last : window_start n (suc k) ≡ n = omega arith in
    sym (ap (λ t. links_empty (lockstep L s t).links) last)
    ∙ empty_then L s n small peers k
    ∙ ap (λ w. not (pending (part L s n 0 w) || (pending (part L s n 1 w) || (pending (part L s n 2 w) || pending (part L s n 3 w))))) all
