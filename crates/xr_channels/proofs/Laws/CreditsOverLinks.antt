-- The law of credits holds at the start, and each delivery over a link keeps it: of all channels.
use Rattle.std.proofs.Common.{◌≡◌, ◌<◌, ◌≢◌, ℕ, ◌+◌, List, [], ◌∷◌, ◌++◌, length, Option, Some, None, refl, sym, ap, ◌∙◌, subst, arith, inl, inr}
use Rattle.std.specs.Prelude.{◌⊎◌, slice_get, slice_set}
use Rattle.xs_instr.specs.declared.image.Pair.{Pair}
use Rattle.xs_instr.specs.declared.state.ChanEnd.{ChanEnd}
use Rattle.xs_instr.specs.declared.state.CoreState.{CoreState}
use Rattle.xs_instr.specs.declared.state.Item.{Item}
use Rattle.xs_instr.specs.declared.state.Moved.{Moved}
use Rattle.xs_instr.specs.declared.state.Moved.TheVariants.{Tok, Credit}
use Rattle.xs_instr.specs.Ends.{Peer, token_at, credit_at}
use Rattle.xs_instr.specs.Machine.{Machine, link_of, link_put, no_links, boot, came, move_to, move_at}
use Rattle.xc_meaning.specs.States.Channels.{Side, other_side}
use Rattle.xr_channels.specs.Channels.{Links, tokens_for, ends_in, end_of_side, IsWired}
use Rattle.xr_channels.specs.Balance.{IsEight, Balanced}
use Rattle.xr_channels.specs.CreditsOverLinks.{credits_for, IsEightOverLinks, end_of_item, ComesFrom, AllCome, BalancedOverLinks}
use Rattle.xr_channels.specs.Laws.{CreditsBegin, CreditsAreKept}
use Rattle.xr_channels.proofs.Tokens.Views.{IsEnd, Square, no_square, same_num, get_put, get_put_other}
use Rattle.xr_channels.proofs.Tokens.Changes.{peer, token_comes_to, credit_comes}
use Rattle.xr_channels.proofs.Tokens.Credits.{end_there, row_length, ends_length}
use Rattle.xr_channels.proofs.All.Begins.{boot_links}
use Rattle.xr_channels.proofs.All.Frames.{twice}
use Rattle.xr_channels.proofs.All.Wired.{valid_wired}
use Rattle.xr_channels.proofs.Laws.Balances.{balanced_begins}
use Rattle.xr_channels.proofs.Laws.Deliveries.{Sender, token_keeps, credit_keeps}

-- what comes to a side was sent by the other
pub sender : (pairs : List Pair) (a b e : ℕ) → ComesFrom pairs a b e → Sender pairs a b e
sender pairs a b e s = record {
  channel = s.channel;
  pair = s.pair;
  side = other_side s.side;
  here = s.here;
  from = s.from;
  to = ap (end_of_side s.pair) (twice s.side) ∙ s.to;
}

-- A link's first item comes from core a to core b.
module _ (pairs : List Pair) (wired : IsWired pairs) (cores : List CoreState) (links : Links) (a b tick : ℕ) (rest : List Item) (core : CoreState) (at_b : slice_get cores b ≡ Some core) (h : BalancedOverLinks pairs cores links) where
  square : Square links
  square = record { rows = h.rows }

  -- the links are not those from a core to itself
  pub no_self : (i : Item) → link_of links a b ≡ i ∷ rest → a ≢ b
  no_self i is e = let none : i ∷ rest ≡ [] = sym is ∙ ap (λ c. link_of links c b) e ∙ h.selves b in cc

  -- what is left on links
  left_come : (i : Item) → link_of links a b ≡ i ∷ rest → a < 4 → b < 4 → (c d : ℕ) → AllCome pairs c d (link_of (link_put links a b rest) c d)
  left_come i is la lb c d = by (same_num a c) (same_num b d)
    where
      all : AllCome pairs a b (i ∷ rest)
      all = subst (AllCome pairs a b) is (h.come a b)

      at_ab : AllCome pairs a b (link_of (link_put links a b rest) a b)
      at_ab = subst (AllCome pairs a b) (sym (get_put links a b rest square la lb)) all.1

      by : (a ≡ c) ⊎ (a ≢ c) → (b ≡ d) ⊎ (b ≢ d) → AllCome pairs c d (link_of (link_put links a b rest) c d)
      by (inr n) y = subst (AllCome pairs c d) (sym (get_put_other links a b c d rest (λ e. absurd (n e)))) (h.come c d)
      by (inl e) (inr n) = subst (AllCome pairs c d) (sym (get_put_other links a b c d rest (λ k. n))) (h.come c d)
      by (inl e) (inl k) =
          subst (λ x. AllCome pairs x d (link_of (link_put links a b rest) x d)) e
          (subst (λ x. AllCome pairs a x (link_of (link_put links a b rest) a x)) k at_ab)

  module _ (e : ℕ) (s : ComesFrom pairs a b e) where
    -- the end is there
    pub is_end : IsEnd core.ends e
    is_end =
        let size : e < length (ends_in (slice_get cores b)) = subst (λ (q : Peer). q.end < length (ends_in (slice_get cores q.core))) s.to (h.ends s.channel s.pair s.side s.here) in
        end_there core.ends e (subst (λ o. e < length (ends_in o)) at_b size)

    -- both cores are among the four
    pub from_core : a < 4
    from_core = subst (λ c. c < 4) s.from (wired.core s.channel s.pair (other_side s.side) s.here)

    pub to_core : b < 4
    to_core = subst (λ (q : Peer). q.core < 4) s.to (wired.core s.channel s.pair s.side s.here)

    -- each side still has its end
    left_ends : (left : CoreState) (now : ChanEnd) → left.ends ≡ slice_set core.ends e now → (k : ℕ) (p : Pair) (side : Side) → slice_get pairs k ≡ Some p → (end_of_side p side).end < length (ends_in (slice_get (slice_set cores b left) (end_of_side p side).core))
    left_ends left now is k p side at_k =
        let old = h.ends k p side at_k in
        let size = ends_length cores b e core left is_end.end at_b is_end.there (ap length is ∙ row_length core.ends e now []) (end_of_side p side).core in
        omega (arith, old, size)

  -- the law holds once it has come
  pub kept : (moved : Moved) → link_of links a b ≡ record { tick = tick; moved = moved } ∷ rest → ComesFrom pairs a b (end_of_item moved) → BalancedOverLinks pairs (slice_set cores b (came core moved)) (link_put links a b rest)
  kept (Tok e t) is s =
      let ne = no_self (record { tick = tick; moved = Tok e t }) is in
      let la = from_core e s in
      let lb = to_core e s in
      let end = is_end e s in
      let changes = (token_comes_to cores links a b tick rest core at_b h.selves square la lb ne e t end is).0 in record {
        ends = left_ends e s (came core (Tok e t)) (record end.end { tokens = end.end.tokens ++ t ∷ [] }) (ap (token_at core.ends e t) end.there);
        eight = λ k p side at_k. token_keeps pairs wired cores links a b tick rest core at_b h.selves square la lb ne k p side at_k e t end is (sender pairs a b e s) (h.eight k p side at_k);
        come = left_come (record { tick = tick; moved = Tok e t }) is la lb;
        selves = changes.selves;
        rows = changes.square.rows;
      }
  kept (Credit e) is s =
      let ne = no_self (record { tick = tick; moved = Credit e }) is in
      let la = from_core e s in
      let lb = to_core e s in
      let end = is_end e s in
      let changes = (credit_comes cores links a b tick rest core at_b h.selves square la lb ne e is (peer b e)).0 in record {
        ends = left_ends e s (came core (Credit e)) (record end.end { credits = end.end.credits + 1 }) (ap (credit_at core.ends e) end.there);
        eight = λ k p side at_k. credit_keeps pairs wired cores links a b tick rest core at_b h.selves square la lb ne k p side at_k e end is s (h.eight k p side at_k);
        come = left_come (record { tick = tick; moved = Credit e }) is la lb;
        selves = changes.selves;
        rows = changes.square.rows;
      }

-- with nothing on a link
pub balanced_over : (pairs : List Pair) (cores : List CoreState) → Balanced pairs cores → BalancedOverLinks pairs cores no_links
balanced_over pairs cores h = record {
  ends = h.ends;
  eight = λ k p side at_k. eight_at (end_of_side p side) (end_of_side p (other_side side)) (h.eight k p side at_k);
  come = λ a b. subst (AllCome pairs a b) (sym (boot_links a b)) tt;
  selves = λ c. boot_links c c;
  rows = no_square.rows;
}
  where
    eight_at : (here there : Peer) → IsEight cores here there → IsEightOverLinks cores no_links here there
    eight_at here there old =
        let out = ap (λ l. length (tokens_for there.end l)) (boot_links here.core there.core) in
        let back = ap (credits_for here.end) (boot_links there.core here.core) in
        omega (arith, old, out, back)

-- as it is at the start
pub credits_begin : CreditsBegin
credits_begin L valid = balanced_over L.chans (boot L).cores (balanced_begins L valid)

-- each delivery keeps the law
pub credits_kept : CreditsAreKept
credits_kept L s valid m m' a b e h = by (link_of m.links a b) refl e
  where
    machine_is : (x y : Machine) → Some x ≡ Some y → x ≡ y
    machine_is x y h = cc

    at_core : (i : Item) (rest : List Item) → link_of m.links a b ≡ i ∷ rest → (o : Option CoreState) → slice_get m.cores b ≡ o → move_to m a b i rest o ≡ Some m' → BalancedOverLinks L.chans m'.cores m'.links
    at_core i rest is None at f = cc
    at_core i rest is (Some core) at f =
        let all : AllCome L.chans a b (i ∷ rest) = subst (AllCome L.chans a b) is (h.come a b) in
        subst (λ (x : Machine). BalancedOverLinks L.chans x.cores x.links)
        (machine_is (record m { cores = slice_set m.cores b (came core i.moved); links = link_put m.links a b rest }) m' f)
        (kept L.chans (valid_wired L valid) m.cores m.links a b i.tick rest core at h i.moved is all.0)

    by : (items : List Item) → link_of m.links a b ≡ items → move_at m a b items ≡ Some m' → BalancedOverLinks L.chans m'.cores m'.links
    by [] is f = cc
    by (i ∷ rest) is f = at_core i rest is (slice_get m.cores b) refl f
