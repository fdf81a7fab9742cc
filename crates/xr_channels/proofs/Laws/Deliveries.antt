-- What comes over a link keeps the law of credits: of each channel alone.
use Rattle.std.proofs.Common.{◌≡◌, ◌<◌, ◌≢◌, ℕ, suc, ◌+◌, List, [], ◌∷◌, ◌++◌, length, Some, refl, sym, ap, ◌∙◌, subst, arith, length-append, inl, inr, eq-eqb}
use Rattle.std.specs.Prelude.{◌⊎◌, slice_get, slice_set}
use Rattle.xs_instr.specs.declared.image.Pair.{Pair}
use Rattle.xs_instr.specs.declared.state.ChanEnd.{ChanEnd}
use Rattle.xs_instr.specs.declared.state.CoreState.{CoreState}
use Rattle.xs_instr.specs.declared.state.Item.{Item}
use Rattle.xs_instr.specs.declared.state.Moved.TheVariants.{Tok, Credit}
use Rattle.xs_instr.specs.declared.state.Token.{Token}
use Rattle.xs_instr.specs.Ends.{Peer, token_at, credit_at}
use Rattle.xs_instr.specs.Machine.{link_of, link_put, came}
use Rattle.xc_meaning.specs.States.Channels.{Side, other_side}
use Rattle.xr_channels.specs.Channels.{Links, tokens_at, tokens_for, ends_in, end_of_side, IsWired}
use Rattle.xr_channels.specs.Balance.{credits_at, credits_in}
use Rattle.xr_channels.specs.CreditsOverLinks.{credit_by, credits_for, IsEightOverLinks, ComesFrom}
use Rattle.xr_channels.proofs.Tokens.Views.{IsEnd, Square, same_num, num_other, get_put, get_put_other, get_set, get_set_other}
use Rattle.xr_channels.proofs.Tokens.Changes.{peer, Changed, IsSelfless, token_comes_to, credit_comes}
use Rattle.xr_channels.proofs.Tokens.Credits.{credits_of_end}
use Rattle.xr_channels.proofs.All.Frames.{twice}

-- An item on the link from core a to core b is for end e there: it is that of a side whose other side sends, with its end on core a.
pub record Sender (pairs : List Pair) (a b e : ℕ) : Type 0 where
  pub channel : ℕ
  pub pair : Pair
  pub side : Side
  pub here : slice_get pairs channel ≡ Some pair
  pub from : (end_of_side pair side).core ≡ a
  pub to : end_of_side pair (other_side side) ≡ peer b e

-- the other side tells the side
one_side : (s t : Side) → other_side s ≡ other_side t → s ≡ t
one_side s t e = sym (twice s) ∙ ap other_side e ∙ twice t

-- a channel is one
pair_is : (pairs : List Pair) (j k : ℕ) (p q : Pair) → slice_get pairs j ≡ Some p → slice_get pairs k ≡ Some q → j ≡ k → p ≡ q
pair_is pairs j k p q e f same = by (sym e ∙ ap (slice_get pairs) same ∙ f)
  where
    by : Some p ≡ Some q → p ≡ q
    by h = cc

module _ (pairs : List Pair) (wired : IsWired pairs) (cores : List CoreState) (links : Links) (a b tick : ℕ) (rest : List Item) (core : CoreState) (at_b : slice_get cores b ≡ Some core) (selves : IsSelfless links) (square : Square links) (la : a < 4) (lb : b < 4) (ne_ab : a ≢ b)
    (k : ℕ) (p : Pair) (side : Side) (at_k : slice_get pairs k ≡ Some p) where
  abbrev here : Peer
  here = end_of_side p side

  abbrev there : Peer
  there = end_of_side p (other_side side)

  abbrev links' : Links
  links' = link_put links a b rest

  -- the credits on each link, where the first item was none of them
  way_credits : (x y f : ℕ) → credits_for f (link_of links a b) ≡ credits_for f rest → credits_for f (link_of links' x y) ≡ credits_for f (link_of links x y)
  way_credits x y f same = by (same_num a x) (same_num b y)
    where
      by : (a ≡ x) ⊎ (a ≢ x) → (b ≡ y) ⊎ (b ≢ y) → credits_for f (link_of links' x y) ≡ credits_for f (link_of links x y)
      by (inr n) s = ap (credits_for f) (get_put_other links a b x y rest (λ e. absurd (n e)))
      by (inl e) (inr n) = ap (credits_for f) (get_put_other links a b x y rest (λ z. n))
      by (inl e) (inl z) =
          let at_ab : credits_for f (link_of links' a b) ≡ credits_for f (link_of links a b) = ap (credits_for f) (get_put links a b rest square la lb) ∙ sym same in
          subst (λ v. credits_for f (link_of links' v y) ≡ credits_for f (link_of links v y)) e
          (subst (λ v. credits_for f (link_of links' a v) ≡ credits_for f (link_of links a v)) z at_ab)

  -- the credits of each end, where the ends of core b have the same
  core_credits : (left : CoreState) (x f : ℕ) → (b ≡ x → credits_of_end left.ends f ≡ credits_of_end core.ends f) → credits_at (slice_set cores b left) x f ≡ credits_at cores x f
  core_credits left x f same = by (same_num b x)
    where
      by : (b ≡ x) ⊎ (b ≢ x) → credits_at (slice_set cores b left) x f ≡ credits_at cores x f
      by (inl e) =
          subst (λ v. credits_at (slice_set cores b left) v f ≡ credits_at cores v f) e
          (ap (λ o. credits_of_end (ends_in o) f) (get_set cores b core left at_b) ∙ same e ∙ sym (ap (λ o. credits_of_end (ends_in o) f) at_b))
      by (inr n) = ap (λ o. credits_of_end (ends_in o) f) (get_set_other cores b x left n)

  -- A token comes.
  module _ (e : ℕ) (t : Token) (is_end : IsEnd core.ends e) (is : link_of links a b ≡ record { tick = tick; moved = Tok e t } ∷ rest) (s : Sender pairs a b e) where
    abbrev after : List CoreState
    after = slice_set cores b (came core (Tok e t))

    same_credits : credits_at after here.core here.end ≡ credits_at cores here.core here.end
    same_credits = core_credits (came core (Tok e t)) here.core here.end (λ z. by (same_num e here.end))
      where
        now : ChanEnd
        now = record is_end.end { tokens = is_end.end.tokens ++ t ∷ [] }

        one : (came core (Tok e t)).ends ≡ slice_set core.ends e now
        one = ap (token_at core.ends e t) is_end.there

        by : (e ≡ here.end) ⊎ (e ≢ here.end) → credits_of_end (came core (Tok e t)).ends here.end ≡ credits_of_end core.ends here.end
        by (inl z) =
            subst (λ v. credits_of_end (came core (Tok e t)).ends v ≡ credits_of_end core.ends v) z
            (ap (λ l. credits_of_end l e) one ∙ ap credits_in (get_set core.ends e is_end.end now is_end.there) ∙ sym (ap credits_in is_end.there))
        by (inr n) = ap (λ l. credits_of_end l here.end) one ∙ ap credits_in (get_set_other core.ends e here.end now n)

    same_back : credits_for here.end (link_of links' there.core here.core) ≡ credits_for here.end (link_of links there.core here.core)
    same_back = way_credits there.core here.core here.end (ap (credits_for here.end) is)

    pub token_keeps : IsEightOverLinks cores links here there → IsEightOverLinks after links' here there
    token_keeps old = by (same_num there.core b) (same_num there.end e)
      where
        changes : Changed cores links after links' (peer b e) × (tokens_at after b e ≡ tokens_at cores b e ++ t ∷ []) × (tokens_for e (link_of links a b) ≡ t ∷ tokens_for e (link_of links' a b))
        changes = token_comes_to cores links a b tick rest core at_b selves square la lb ne_ab e t is_end is

        elsewhere : (peer there.core there.end ≢ peer b e) → IsEightOverLinks after links' here there
        elsewhere ne =
            let x = same_credits in
            let y = same_back in
            let v = ap length (changes.0.buffers there.core there.end ne) in
            let w = ap length (changes.0.ways here.core there.core there.end ne) in
            omega (arith, old, x, y, v, w)

        by : (there.core ≡ b) ⊎ (there.core ≢ b) → (there.end ≡ e) ⊎ (there.end ≢ e) → IsEightOverLinks after links' here there
        by (inr n) q = elsewhere (λ z. n (ap (λ (u : Peer). u.core) z))
        by (inl c) (inr n) = elsewhere (λ z. n (ap (λ (u : Peer). u.end) z))
        by (inl c) (inl d) =
            let same_place : end_of_side s.pair (other_side s.side) ≡ end_of_side p (other_side side) = s.to ∙ ap (λ y. peer y e) (sym c) ∙ ap (peer there.core) (sym d) in
            let one = wired.once s.channel s.pair (other_side s.side) k p (other_side side) s.here at_k same_place in
            let same_pair : s.pair ≡ p = pair_is pairs s.channel k s.pair p s.here at_k one.0 in
            let from : here.core ≡ a = ap (λ v. (end_of_side v side).core) (sym same_pair) ∙ ap (λ v. (end_of_side s.pair v).core) (sym (one_side s.side side one.1)) ∙ s.from in
            let x = same_credits in
            let y = same_back in
            let v : tokens_at after there.core there.end ≡ tokens_at cores there.core there.end ++ t ∷ [] =
            ap (λ i. tokens_at after i there.end) c ∙ ap (tokens_at after b) d ∙ changes.1 ∙ ap (λ l. l ++ t ∷ []) (sym (ap (λ i. tokens_at cores i there.end) c ∙ ap (tokens_at cores b) d)) in
            let v1 = ap length v in
            let v2 = length-append (tokens_at cores there.core there.end) (t ∷ []) in
            let w : tokens_for there.end (link_of links here.core there.core) ≡ t ∷ tokens_for there.end (link_of links' here.core there.core) =
            ap (λ i. tokens_for there.end (link_of links i there.core)) from
            ∙ ap (λ i. tokens_for there.end (link_of links a i)) c
            ∙ ap (λ i. tokens_for i (link_of links a b)) d
            ∙ changes.2
            ∙ ap (λ l. t ∷ l) (sym (ap (λ i. tokens_for there.end (link_of links' i there.core)) from
            ∙ ap (λ i. tokens_for there.end (link_of links' a i)) c
            ∙ ap (λ i. tokens_for i (link_of links' a b)) d)) in
            let w1 = ap length w in
            omega (arith, old, x, y, v1, v2, w1)

  -- A credit comes.
  module _ (e : ℕ) (is_end : IsEnd core.ends e) (is : link_of links a b ≡ record { tick = tick; moved = Credit e } ∷ rest) (s : ComesFrom pairs a b e) where
    abbrev then : List CoreState
    then = slice_set cores b (came core (Credit e))

    changes_so : Changed cores links then links' here × ((x f : ℕ) → tokens_at then x f ≡ tokens_at cores x f) × ((x y f : ℕ) → tokens_for f (link_of links' x y) ≡ tokens_for f (link_of links x y))
    changes_so = credit_comes cores links a b tick rest core at_b selves square la lb ne_ab e is here

    abbrev more : ChanEnd
    more = record is_end.end { credits = is_end.end.credits + 1 }

    one_more : (came core (Credit e)).ends ≡ slice_set core.ends e more
    one_more = ap (credit_at core.ends e) is_end.there

    -- at the end itself
    paid : credits_at then b e ≡ credits_at cores b e + 1
    paid =
        ap (λ o. credits_of_end (ends_in o) e) (get_set cores b core (came core (Credit e)) at_b)
        ∙ ap (λ l. credits_of_end l e) one_more
        ∙ ap credits_in (get_set core.ends e is_end.end more is_end.there)
        ∙ ap (λ n. n + 1) (sym (ap (λ o. credits_of_end (ends_in o) e) at_b ∙ ap credits_in is_end.there))

    -- and at another one
    unpaid : (here.core ≡ b → here.end ≢ e) → credits_at then here.core here.end ≡ credits_at cores here.core here.end
    unpaid ne =
        core_credits (came core (Credit e)) here.core here.end
        (λ z. ap (λ l. credits_of_end l here.end) one_more ∙ ap credits_in (get_set_other core.ends e here.end more (λ q. ne (sym z) (sym q))))

    pub credit_keeps : IsEightOverLinks cores links here there → IsEightOverLinks then links' here there
    credit_keeps old = by (same_num here.core b) (same_num here.end e)
      where
        v : length (tokens_at then there.core there.end) ≡ length (tokens_at cores there.core there.end)
        v = ap length (changes_so.1 there.core there.end)

        w : length (tokens_for there.end (link_of links' here.core there.core)) ≡ length (tokens_for there.end (link_of links here.core there.core))
        w = ap length (changes_so.2 here.core there.core there.end)

        elsewhere : (here.core ≡ b → here.end ≢ e) → credits_for here.end (link_of links' there.core here.core) ≡ credits_for here.end (link_of links there.core here.core) → IsEightOverLinks then links' here there
        elsewhere ne back =
            let x = unpaid ne in
            let y = v in
            let z = w in
            omega (arith, old, x, y, z, back)

        by : (here.core ≡ b) ⊎ (here.core ≢ b) → (here.end ≡ e) ⊎ (here.end ≢ e) → IsEightOverLinks then links' here there
        by (inr n) q = elsewhere (λ z. absurd (n z)) (ap (credits_for here.end) (get_put_other links a b there.core here.core rest (λ m z. n (sym z))))
        by (inl c) (inr n) = elsewhere (λ z. n) (way_credits there.core here.core here.end (ap (credits_for here.end) is ∙ ap (λ q. credit_by q (credits_for here.end rest)) (num_other e here.end (λ z. n (sym z)))))
        by (inl c) (inl d) =
            let same_place : end_of_side s.pair s.side ≡ end_of_side p side = s.to ∙ ap (λ y. peer y e) (sym c) ∙ ap (peer here.core) (sym d) in
            let one = wired.once s.channel s.pair s.side k p side s.here at_k same_place in
            let same_pair : s.pair ≡ p = pair_is pairs s.channel k s.pair p s.here at_k one.0 in
            let from : there.core ≡ a = ap (λ q. (end_of_side q (other_side side)).core) (sym same_pair) ∙ ap (λ q. (end_of_side s.pair (other_side q)).core) (sym one.1) ∙ s.from in
            let x : credits_at then here.core here.end ≡ credits_at cores here.core here.end + 1 =
            ap (λ i. credits_at then i here.end) c ∙ ap (credits_at then b) d ∙ paid ∙ ap (λ n. n + 1) (sym (ap (λ i. credits_at cores i here.end) c ∙ ap (credits_at cores b) d)) in
            let at_ab : (ls : Links) → credits_for here.end (link_of ls there.core here.core) ≡ credits_for e (link_of ls a b) =
            λ ls. ap (λ i. credits_for here.end (link_of ls i here.core)) from ∙ ap (λ i. credits_for here.end (link_of ls a i)) c ∙ ap (λ i. credits_for i (link_of ls a b)) d in
            let back : credits_for here.end (link_of links there.core here.core) ≡ suc (credits_for here.end (link_of links' there.core here.core)) =
            at_ab links
            ∙ ap (credits_for e) is
            ∙ ap (λ q. credit_by q (credits_for e rest)) (eq-eqb e e refl)
            ∙ ap (λ l. suc (credits_for e l)) (sym (get_put links a b rest square la lb))
            ∙ ap suc (sym (at_ab links')) in
            let y = v in
            let z = w in
            omega (arith, old, x, y, z, back)
