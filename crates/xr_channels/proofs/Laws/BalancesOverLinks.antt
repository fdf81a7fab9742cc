-- The law of credits over links is kept by each row on an end of a channel, wherever the other end is, and by each step that leaves the ends.
use Rattle.std.proofs.Common.{◌≡◌, ◌<◌, ◌≤◌, ◌≢◌, ℕ, suc, zero, ◌+◌, ◌-◌, List, [], ◌∷◌, ◌++◌, length, drop, Bool, true, false, Some, refl, sym, ap, ◌∙◌, subst, arith, length-append, inl, inr}
use Rattle.std.specs.Prelude.{◌⊎◌, nat_eq, slice_get, slice_set}
use Rattle.std.proofs.lemmas.List.{length-drop}
use Rattle.xs_instr.specs.declared.image.Home.{Home}
use Rattle.xs_instr.specs.declared.image.Pair.{Pair}
use Rattle.xs_instr.specs.declared.state.ChanEnd.{ChanEnd}
use Rattle.xs_instr.specs.declared.state.CoreState.{CoreState}
use Rattle.xs_instr.specs.declared.state.Item.{Item}
use Rattle.xs_instr.specs.declared.state.Moved.{Moved}
use Rattle.xs_instr.specs.declared.state.Token.{Token}
use Rattle.xs_instr.specs.Ends.{Peer, Gone, goes_by, peer_of, tokens_go, tokens_taken, tokens_to, credits_to, all_sent}
use Rattle.xs_instr.specs.Machine.{link_of, on_links}
use Rattle.xc_meaning.specs.States.Channels.{Side, first, second, other_side}
use Rattle.xr_channels.specs.Channels.{Links, ends_in, tokens_in, tokens_at, tokens_for, end_of_side, IsWired}
use Rattle.xr_channels.specs.Balance.{credits_in, credits_at}
use Rattle.xr_channels.specs.CreditsOverLinks.{credits_for, IsEightOverLinks, ComesFrom, AllCome, BalancedOverLinks}
use Rattle.xr_channels.proofs.Tokens.Views.{Square, same_num, items_of, link_sent, link_sent_other}
use Rattle.xr_channels.proofs.Tokens.Changes.{peer, Changed, Sends, near, far, sends, takes, IsSelfless}
use Rattle.xr_channels.proofs.Tokens.Credits.{end_there}
use Rattle.xr_channels.proofs.Tokens.LinkCredits.{Pays, Repays, pays, repays}
use Rattle.xr_channels.proofs.All.Frames.{twice, two_ends}

-- What two parts of a link are for.
come_append : (pairs : List Pair) (a b : ℕ) (xs ys : List Item) → AllCome pairs a b xs → AllCome pairs a b ys → AllCome pairs a b (xs ++ ys)
come_append pairs a b [] ys h k = k
come_append pairs a b (x ∷ xs) ys h k = (h.0, come_append pairs a b xs ys h.1 k)

-- tokens for an end
come_tokens : (pairs : List Pair) (a b e tick : ℕ) (ks : List Token) → ComesFrom pairs a b e → AllCome pairs a b (items_of tick (tokens_to e ks))
come_tokens pairs a b e tick [] h = tt
come_tokens pairs a b e tick (k ∷ ks) h = (h, come_tokens pairs a b e tick ks h)

-- and credits for it
come_credits : (pairs : List Pair) (a b e tick n : ℕ) → ComesFrom pairs a b e → AllCome pairs a b (items_of tick (credits_to e n))
come_credits pairs a b e tick zero h = tt
come_credits pairs a b e tick (suc n) h = (h, come_credits pairs a b e tick n h)

-- what goes onto a link
come_sent : (pairs : List Pair) (links : Links) (c d tick : ℕ) (ms : List Moved) → Square links → c < 4 → d < 4 → ((a b : ℕ) → AllCome pairs a b (link_of links a b)) → AllCome pairs c d (items_of tick ms) → (a b : ℕ) → AllCome pairs a b (link_of (on_links links c (all_sent d tick ms)) a b)
come_sent pairs links c d tick ms q lc ld h new a b = by (same_num c a) (same_num d b)
  where
    by : (c ≡ a) ⊎ (c ≢ a) → (d ≡ b) ⊎ (d ≢ b) → AllCome pairs a b (link_of (on_links links c (all_sent d tick ms)) a b)
    by (inr n) y = subst (AllCome pairs a b) (sym (link_sent_other links c d a b tick ms (λ e. absurd (n e)))) (h a b)
    by (inl e) (inr n) = subst (AllCome pairs a b) (sym (link_sent_other links c d a b tick ms (λ k. n))) (h a b)
    by (inl e) (inl k) =
        let at_cd : AllCome pairs c d (link_of (on_links links c (all_sent d tick ms)) c d) = subst (AllCome pairs c d) (sym (link_sent links c d tick ms q lc ld)) (come_append pairs c d (link_of links c d) (items_of tick ms) (h c d) new) in
        subst (λ x. AllCome pairs x b (link_of (on_links links c (all_sent d tick ms)) x b)) e
        (subst (λ x. AllCome pairs c x (link_of (on_links links c (all_sent d tick ms)) c x)) k at_cd)

-- An end has what it had, and so have the links to it.
pub record IsSameOverLinks (cores : List CoreState) (links : Links) (cores' : List CoreState) (links' : Links) (x f : ℕ) : Type 0 where
  pub credits : credits_at cores' x f ≡ credits_at cores x f
  pub tokens : tokens_at cores' x f ≡ tokens_at cores x f
  pub tokens_to_it : (a : ℕ) → tokens_for f (link_of links' a x) ≡ tokens_for f (link_of links a x)
  pub credits_to_it : (a : ℕ) → credits_for f (link_of links' a x) ≡ credits_for f (link_of links a x)

module _ (pairs : List Pair) (cores : List CoreState) (links : Links) (b : BalancedOverLinks pairs cores links) where
  -- a trap, a tick and each step that leaves the ends of all cores
  pub balanced_same : (cores' : List CoreState) → ((x : ℕ) → ends_in (slice_get cores' x) ≡ ends_in (slice_get cores x)) → BalancedOverLinks pairs cores' links
  balanced_same cores' same = record {
    ends = λ k p side at_k. let old = b.ends k p side at_k in let size = ap length (same (end_of_side p side).core) in omega (arith, old, size);
    eight = λ k p side at_k. eight_at (end_of_side p side) (end_of_side p (other_side side)) (b.eight k p side at_k);
    come = b.come;
    selves = b.selves;
    rows = b.rows;
  }
    where
      eight_at : (here there : Peer) → IsEightOverLinks cores links here there → IsEightOverLinks cores' links here there
      eight_at here there old =
          let credits = ap (λ l. credits_in (slice_get l here.end)) (same here.core) in
          let tokens = ap (λ l. length (tokens_in (slice_get l there.end))) (same there.core) in
          omega (arith, old, credits, tokens)

  square : Square links
  square = record { rows = b.rows }

  module _ (wired : IsWired pairs) (k : ℕ) (p : Pair) (side : Side) (at_k : slice_get pairs k ≡ Some p) where
    -- the two ends of a channel
    abbrev pub here : Peer
    here = end_of_side p side

    abbrev pub there : Peer
    there = end_of_side p (other_side side)

    -- Only the two ends of one channel change, and the links to them.
    balanced_next : (cores' : List CoreState) (links' : Links) → ((x : ℕ) → length (ends_in (slice_get cores' x)) ≡ length (ends_in (slice_get cores x))) → IsSelfless links' → Square links' → ((c d : ℕ) → AllCome pairs c d (link_of links' c d)) → ((x f : ℕ) → peer x f ≢ here → peer x f ≢ there → IsSameOverLinks cores links cores' links' x f) → IsEightOverLinks cores' links' here there → IsEightOverLinks cores' links' there here → BalancedOverLinks pairs cores' links'
    balanced_next cores' links' sizes selves still_square come others mine theirs = record {
      ends = λ j p' s at_j. let old = b.ends j p' s at_j in let size = sizes (end_of_side p' s).core in omega (arith, old, size);
      eight = λ j p' s at_j. by j p' s at_j (same_num k j);
      come = come;
      selves = selves;
      rows = still_square.rows;
    }
      where
        both : (s x : Side) → side ≡ x → IsEightOverLinks cores' links' (end_of_side p s) (end_of_side p (other_side s))
        both first first e = subst (λ z. IsEightOverLinks cores' links' (end_of_side p z) (end_of_side p (other_side z))) e mine
        both second second e = subst (λ z. IsEightOverLinks cores' links' (end_of_side p z) (end_of_side p (other_side z))) e mine
        both first second e = subst (λ z. IsEightOverLinks cores' links' (end_of_side p (other_side z)) (end_of_side p z)) e theirs
        both second first e = subst (λ z. IsEightOverLinks cores' links' (end_of_side p (other_side z)) (end_of_side p z)) e theirs

        away : (j : ℕ) (p' : Pair) (s x : Side) → slice_get pairs j ≡ Some p' → k ≢ j → end_of_side p' s ≢ end_of_side p x
        away j p' s x at_j ne e = ne (sym (wired.once j p' s k p x at_j at_k e).0)

        both_away : (j : ℕ) (p' : Pair) (s : Side) → slice_get pairs j ≡ Some p' → k ≢ j → IsSameOverLinks cores links cores' links' (end_of_side p' s).core (end_of_side p' s).end
        both_away j p' s at_j ne = others (end_of_side p' s).core (end_of_side p' s).end (away j p' s side at_j ne) (away j p' s (other_side side) at_j ne)

        by : (j : ℕ) (p' : Pair) (s : Side) → slice_get pairs j ≡ Some p' → (k ≡ j) ⊎ (k ≢ j) → IsEightOverLinks cores' links' (end_of_side p' s) (end_of_side p' (other_side s))
        by j p' s at_j (inl e) =
            let same : p ≡ p' = some_is p p' (sym at_k ∙ subst (λ v. slice_get pairs v ≡ Some p') (sym e) at_j) in
            subst (λ v. IsEightOverLinks cores' links' (end_of_side v s) (end_of_side v (other_side s))) same (both s side refl)
          where
            some_is : (a b : Pair) → Some a ≡ Some b → a ≡ b
            some_is a b z = cc
        by j p' s at_j (inr ne) =
            let old = b.eight j p' s at_j in
            let of_here = both_away j p' s at_j ne in
            let of_there = both_away j p' (other_side s) at_j ne in
            let credits = of_here.credits in
            let tokens = ap length of_there.tokens in
            let out = ap length (of_there.tokens_to_it (end_of_side p' s).core) in
            let back = of_here.credits_to_it (end_of_side p' (other_side s)).core in
            omega (arith, old, credits, tokens, out, back)

    -- A row of a thread at its end.
    module _ (home : Home) (core left : CoreState) (end : ChanEnd) (number : home.number ≡ (end_of_side p side).core) (is_pairs : home.pairs ≡ pairs) (at_c : slice_get cores (end_of_side p side).core ≡ Some core) (at_e : slice_get core.ends (end_of_side p side).end ≡ Some end) where
      abbrev pub c : ℕ
      c = here.core

      abbrev pub e : ℕ
      e = here.end

      abbrev pub cores_left : List CoreState
      cores_left = slice_set cores c left

      -- the two ends are two
      apart : here ≢ there
      apart = two_ends pairs wired k p side at_k

      -- the law, of either
      mine : IsEightOverLinks cores links here there
      mine = b.eight k p side at_k

      theirs : IsEightOverLinks cores links there here
      theirs = subst (λ q. IsEightOverLinks cores links there q) (ap (end_of_side p) (twice side)) (b.eight k p (other_side side) at_k)

      -- what was at the end
      tokens_were : tokens_at cores c e ≡ end.tokens
      tokens_were = ap (λ o. tokens_in (slice_get (ends_in o) e)) at_c ∙ ap tokens_in at_e

      credits_were : credits_at cores c e ≡ end.credits
      credits_were = ap (λ o. credits_in (slice_get (ends_in o) e)) at_c ∙ ap credits_in at_e

      -- the peer is the other side's end
      q_is : peer_of home.pairs home.number e ≡ there
      q_is = ap (λ l. peer_of l home.number e) is_pairs ∙ ap (λ n. peer_of pairs n e) number ∙ wired.peers k p side at_k

      -- both cores are among the four, and the other end is there
      lc : c < 4
      lc = wired.core k p side at_k

      ld : there.core < 4
      ld = wired.core k p (other_side side) at_k

      there_is : there.end < length (ends_in (slice_get cores there.core))
      there_is = b.ends k p (other_side side) at_k

      -- what goes to the other end comes from here
      comes : ComesFrom pairs c there.core there.end
      comes = record {
        channel = k;
        pair = p;
        side = other_side side;
        here = at_k;
        from = ap (λ s. (end_of_side p s).core) (twice side);
        to = refl;
      }

      -- of all links, where something goes to the other end
      all_come : (ms : List Moved) (near : Bool) → AllCome pairs c there.core (items_of core.clock ms) → (gone : Gone) → gone.sent ≡ (goes_by core.ends there.core core.clock ms near).sent → (x y : ℕ) → AllCome pairs x y (link_of (on_links links c gone.sent) x y)
      all_come ms true new gone is x y = subst (λ s. AllCome pairs x y (link_of (on_links links c s) x y)) (sym is) (b.come x y)
      all_come ms false new gone is x y = subst (λ s. AllCome pairs x y (link_of (on_links links c s) x y)) (sym is) (come_sent pairs links c there.core core.clock ms square lc ld b.come new x y)

      -- Tokens go out, for which there are credits.
      module _ (ks : List Token) (enough : length ks ≤ end.credits) where
        -- what goes, to the end there
        abbrev sent_to : Peer → Gone
        sent_to q = tokens_go home core.clock core.ends e end ks q

        abbrev links_sent : Links
        links_sent = on_links links c (sent_to there).sent

        sent_there : left.ends ≡ (sent_to there).ends → BalancedOverLinks pairs cores_left links_sent
        sent_there is_left =
            balanced_next cores_left links_sent paid.0.sizes moved.0.selves moved.0.square
            (all_come (tokens_to there.end ks) (nat_eq there.core home.number) (come_tokens pairs c there.core there.end core.clock ks comes) (sent_to there) (sent_is (nat_eq there.core home.number)))
            (λ x f nh nt. record {
              credits = paid.0.ends x f nh;
              tokens = moved.0.buffers x f nt;
              tokens_to_it = λ a. moved.0.ways a x f nt;
              credits_to_it = λ a. paid.2 a x f;
            })
            (let old = mine in
            let was = credits_were in
            let now = paid.1 in
            let gone = under_way moved.1 in
            let back = paid.2 there.core c e in
            omega (arith, old, was, now, gone, back, enough))
            (let old = theirs in
            let credits = paid.0.ends there.core there.end (λ z. apart (sym z)) in
            let come = ap length (moved.0.ways there.core c e apart) in
            let tokens = ap length (moved.0.buffers c e apart) in
            let back = paid.2 c there.core there.end in
            omega (arith, old, credits, come, tokens, back))
          where
            moved : Changed cores links cores_left links_sent there × Sends cores links cores_left links_sent c there ks
            moved = sends home core.clock cores links c e core left end there at_c at_e number b.selves square lc ld (end_there _ _ there_is) ks (sent_to there) refl is_left (sent_to there).sent refl

            paid : Pays home core.clock cores links c e core left end there at_c at_e number square lc ld ks (sent_to there).sent
            paid = pays home core.clock cores links c e core left end there at_c at_e number square lc ld ks is_left (sent_to there).sent refl

            sent_is : (near : Bool) → (goes_by (slice_set core.ends e (record end { credits = end.credits - length ks })) there.core core.clock (tokens_to there.end ks) near).sent ≡ (goes_by core.ends there.core core.clock (tokens_to there.end ks) near).sent
            sent_is true = refl
            sent_is false = refl

            -- so many more are under way, or there
            under_way : Sends cores links cores_left links_sent c there ks → length (tokens_for there.end (link_of links_sent c there.core)) + length (tokens_at cores_left there.core there.end) ≡ (length (tokens_for there.end (link_of links c there.core)) + length (tokens_at cores there.core there.end)) + length ks
            under_way (near same tokens way) =
                let t = ap length tokens in
                let sum = length-append (tokens_at cores there.core there.end) ks in
                let w = ap length way in
                omega (arith, t, sum, w)
            under_way (far ne tokens way) =
                let t = ap length tokens in
                let w = ap length way in
                let sum = length-append (tokens_for there.end (link_of links c there.core)) ks in
                omega (arith, t, w, sum)

        -- OUT and OUTCT keep the law
        pub sent_keeps : left.ends ≡ (sent_to (peer_of home.pairs home.number e)).ends → BalancedOverLinks pairs cores_left (on_links links c (sent_to (peer_of home.pairs home.number e)).sent)
        sent_keeps is_left = subst (λ q. left.ends ≡ (sent_to q).ends → BalancedOverLinks pairs cores_left (on_links links c (sent_to q).sent)) (sym q_is) sent_there is_left

      -- Tokens are taken.
      module _ (n : ℕ) (enough : n ≤ length end.tokens) where
        -- what goes, from the end there
        abbrev taken_to : Peer → Gone
        taken_to q = tokens_taken home core.clock core.ends e end n q

        abbrev links_taken : Links
        links_taken = on_links links c (taken_to there).sent

        taken_there : left.ends ≡ (taken_to there).ends → BalancedOverLinks pairs cores_left links_taken
        taken_there is_left =
            balanced_next cores_left links_taken repaid.0.sizes moved.0.selves moved.0.square
            (all_come (credits_to there.end n) (nat_eq there.core home.number) (come_credits pairs c there.core there.end core.clock n comes) (taken_to there) (sent_is (nat_eq there.core home.number)))
            (λ x f nh nt. record {
              credits = repaid.0.ends x f nt;
              tokens = moved.0.buffers x f nh;
              tokens_to_it = λ a. moved.2 a x f;
              credits_to_it = λ a. repaid.0.ways a x f nt;
            })
            (let old = mine in
            let credits = repaid.0.ends c e apart in
            let out = ap length (moved.2 c there.core there.end) in
            let tokens = ap length (moved.0.buffers there.core there.end (λ z. apart (sym z))) in
            let back = repaid.0.ways there.core c e apart in
            omega (arith, old, credits, out, tokens, back))
            (let old = theirs in
            let given = repaid.1 in
            let come = ap length (moved.2 there.core c e) in
            let fewer = ap length moved.1 in
            let size = length-drop n (tokens_at cores c e) in
            let was = ap length tokens_were in
            omega (arith, old, given, come, fewer, size, was, enough))
          where
            moved : Changed cores links cores_left links_taken (peer c e) × (tokens_at cores_left c e ≡ drop n (tokens_at cores c e)) × ((a x f : ℕ) → tokens_for f (link_of links_taken a x) ≡ tokens_for f (link_of links a x))
            moved = takes home core.clock cores links c e core left end there at_c at_e number b.selves square lc ld (end_there _ _ there_is) n (taken_to there) refl is_left (taken_to there).sent refl

            repaid : Repays home core.clock cores links c e core left end there at_c at_e number square lc ld n there_is (taken_to there).sent
            repaid = repays home core.clock cores links c e core left end there at_c at_e number square lc ld n there_is is_left (taken_to there).sent refl

            sent_is : (near : Bool) → (goes_by (slice_set core.ends e (record end { tokens = drop n end.tokens })) there.core core.clock (credits_to there.end n) near).sent ≡ (goes_by core.ends there.core core.clock (credits_to there.end n) near).sent
            sent_is true = refl
            sent_is false = refl

        -- IN and CHKCT keep the law
        pub taken_keeps : left.ends ≡ (taken_to (peer_of home.pairs home.number e)).ends → BalancedOverLinks pairs cores_left (on_links links c (taken_to (peer_of home.pairs home.number e)).sent)
        taken_keeps is_left = subst (λ q. left.ends ≡ (taken_to q).ends → BalancedOverLinks pairs cores_left (on_links links c (taken_to q).sent)) (sym q_is) taken_there is_left
