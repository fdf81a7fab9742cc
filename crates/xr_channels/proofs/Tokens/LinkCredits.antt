-- The credits on links, and what a row on an end changes of the credits of ends and on links.
use Rattle.std.proofs.Common.{◌≡◌, ◌<◌, ◌≢◌, ℕ, suc, zero, ◌+◌, ◌-◌, Bool, true, false, List, [], ◌∷◌, ◌++◌, length, drop, Some, refl, sym, ap, ◌∙◌, subst, arith, inl, inr, eq-eqb}
use Rattle.std.proofs.lemmas.Bool.{eqb-true}
use Rattle.std.specs.Prelude.{◌⊎◌, nat_eq, slice_get, slice_set}
use Rattle.xs_instr.specs.declared.image.Home.{Home}
use Rattle.xs_instr.specs.declared.state.ChanEnd.{ChanEnd}
use Rattle.xs_instr.specs.declared.state.CoreState.{CoreState}
use Rattle.xs_instr.specs.declared.state.Item.{Item}
use Rattle.xs_instr.specs.declared.state.Moved.{Moved}
use Rattle.xs_instr.specs.declared.state.Moved.TheVariants.{Tok, Credit}
use Rattle.xs_instr.specs.declared.state.Sent.{Sent}
use Rattle.xs_instr.specs.declared.state.Token.{Token}
use Rattle.xs_instr.specs.Ends.{tokens_to, credits_to, all_sent, Peer, goes_by, tokens_go, tokens_taken}
use Rattle.xs_instr.specs.Machine.{link_of, on_links}
use Rattle.xr_channels.specs.Channels.{Links, ends_in}
use Rattle.xr_channels.specs.Balance.{credits_at}
use Rattle.xr_channels.specs.CreditsOverLinks.{credit_by, credit_for, credits_for}
use Rattle.xr_channels.proofs.Tokens.Views.{same_num, num_other, Square, items_of, link_sent, link_sent_other}
use Rattle.xr_channels.proofs.Tokens.Changes.{peer}
use Rattle.xr_channels.proofs.Tokens.Credits.{row_length, ends_length, paid_here, paid_other, given_there, given_other}

-- an item before others
credit_more : (e : ℕ) (m : Moved) (n k : ℕ) → credit_for e m (n + k) ≡ credit_for e m n + k
credit_more e (Tok f t) n k = refl
credit_more e (Credit f) n k = by (nat_eq f e)
  where
    by : (b : Bool) → credit_by b (n + k) ≡ credit_by b n + k
    by true = omega arith
    by false = refl

-- the credits of two parts of a link
pub credits_for_append : (e : ℕ) (xs ys : List Item) → credits_for e (xs ++ ys) ≡ credits_for e xs + credits_for e ys
credits_for_append e [] ys = omega arith
credits_for_append e (x ∷ xs) ys = ap (credit_for e x.moved) (credits_for_append e xs ys) ∙ credit_more e x.moved (credits_for e xs) (credits_for e ys)

-- tokens are no credits
pub credits_for_tokens : (e f tick : ℕ) (ks : List Token) → credits_for e (items_of tick (tokens_to f ks)) ≡ 0
credits_for_tokens e f tick [] = refl
credits_for_tokens e f tick (k ∷ ks) = credits_for_tokens e f tick ks

-- the credits that were sent
pub credits_for_here : (e tick n : ℕ) → credits_for e (items_of tick (credits_to e n)) ≡ n
credits_for_here e tick zero = refl
credits_for_here e tick (suc n) = ap (λ b. credit_by b (credits_for e (items_of tick (credits_to e n)))) (eq-eqb e e refl) ∙ ap suc (credits_for_here e tick n)

-- those for another end
pub credits_for_other : (e f tick n : ℕ) → f ≢ e → credits_for e (items_of tick (credits_to f n)) ≡ 0
credits_for_other e f tick zero ne = refl
credits_for_other e f tick (suc n) ne = ap (λ b. credit_by b (credits_for e (items_of tick (credits_to f n)))) (num_other f e ne) ∙ credits_for_other e f tick n ne

-- Something goes from core c to core d.
module _ (links : Links) (c d tick : ℕ) (ms : List Moved) (square : Square links) (lc : c < 4) (ld : d < 4) where
  abbrev links_then : Links
  links_then = on_links links c (all_sent d tick ms)

  -- on that link
  pub sent_credits : (f : ℕ) → credits_for f (link_of links_then c d) ≡ credits_for f (link_of links c d) + credits_for f (items_of tick ms)
  sent_credits f = ap (credits_for f) (link_sent links c d tick ms square lc ld) ∙ credits_for_append f (link_of links c d) (items_of tick ms)

  -- on each link to an end, where none of it is a credit for that end
  pub sent_no_credits : (a x f : ℕ) → (d ≡ x → credits_for f (items_of tick ms) ≡ 0) → credits_for f (link_of links_then a x) ≡ credits_for f (link_of links a x)
  sent_no_credits a x f none = by (same_num c a) (same_num d x)
    where
      by : (c ≡ a) ⊎ (c ≢ a) → (d ≡ x) ⊎ (d ≢ x) → credits_for f (link_of links_then a x) ≡ credits_for f (link_of links a x)
      by (inr n) y = ap (credits_for f) (link_sent_other links c d a x tick ms (λ e. absurd (n e)))
      by (inl e) (inr n) = ap (credits_for f) (link_sent_other links c d a x tick ms (λ k. n))
      by (inl e) (inl k) =
          let at_cd : credits_for f (link_of links_then c d) ≡ credits_for f (link_of links c d) =
          (let sum = sent_credits f in let zero_more = none k in omega (arith, sum, zero_more)) in
          subst (λ y. credits_for f (link_of links_then y x) ≡ credits_for f (link_of links y x)) e
          (subst (λ y. credits_for f (link_of links_then c y) ≡ credits_for f (link_of links c y)) k at_cd)

-- Nothing changes of credits but of those for the end z, and each core has as many ends.
pub record CreditsChanged (cores : List CoreState) (links : Links) (cores' : List CoreState) (links' : Links) (z : Peer) : Type 0 where
  pub ends : (x f : ℕ) → peer x f ≢ z → credits_at cores' x f ≡ credits_at cores x f
  pub ways : (a x f : ℕ) → peer x f ≢ z → credits_for f (link_of links' a x) ≡ credits_for f (link_of links a x)
  pub sizes : (x : ℕ) → length (ends_in (slice_get cores' x)) ≡ length (ends_in (slice_get cores x))

-- A row on end e of core c, whose peer is q.
module _ (home : Home) (clock : ℕ) (cores : List CoreState) (links : Links) (c e : ℕ) (core left : CoreState) (end : ChanEnd) (q : Peer) (at_c : slice_get cores c ≡ Some core) (at_e : slice_get core.ends e ≡ Some end) (number : home.number ≡ c) (square : Square links) (lc : c < 4) (lq : q.core < 4) where
  -- another end than one of this core
  end_other : (z : Peer) (x f : ℕ) → peer x f ≢ z → z.core ≡ x → z.end ≢ f
  end_other z x f ne a b = ne (ap (λ y. peer y f) (sym a) ∙ ap (λ y. peer z.core y) (sym b))

  -- OUT and OUTCT
  module _ (ks : List Token) where
    -- the end with the credits paid
    abbrev paid_end : ChanEnd
    paid_end = record end { credits = end.credits - length ks }

    -- The end pays, and no credit is sent.
    abbrev pub Pays : List Sent → Type 0
    Pays sent =
        CreditsChanged cores links (slice_set cores c left) (on_links links c sent) (peer c e)
        × (credits_at (slice_set cores c left) c e ≡ end.credits - length ks)
        × ((a x f : ℕ) → credits_for f (link_of (on_links links c sent) a x) ≡ credits_for f (link_of links a x))

    -- by whether the peer is on the core
    pays_by : (b : Bool) → left.ends ≡ (goes_by (slice_set core.ends e paid_end) q.core clock (tokens_to q.end ks) b).ends → (sent : List Sent) → sent ≡ (goes_by (slice_set core.ends e paid_end) q.core clock (tokens_to q.end ks) b).sent → Pays sent
    pays_by true is_ends sent is_sent =
        let same : (a x f : ℕ) → credits_for f (link_of (on_links links c sent) a x) ≡ credits_for f (link_of links a x) = λ a x f. ap (λ s. credits_for f (link_of (on_links links c s) a x)) is_sent in (
          record {
            ends = λ x f ne. paid_other cores c e core left end at_c at_e (end.credits - length ks) q.end ks is_ends x f (end_other (peer c e) x f ne);
            ways = λ a x f ne. same a x f;
            sizes = ends_length cores c e core left end at_c at_e (ap length is_ends ∙ row_length core.ends e paid_end (tokens_to q.end ks));
          },
          paid_here cores c e core left end at_c at_e (end.credits - length ks) q.end ks is_ends,
          same,
        )
    pays_by false is_ends sent is_sent =
        let same : (a x f : ℕ) → credits_for f (link_of (on_links links c sent) a x) ≡ credits_for f (link_of links a x) =
        λ a x f. ap (λ s. credits_for f (link_of (on_links links c s) a x)) is_sent
        ∙ sent_no_credits links c q.core clock (tokens_to q.end ks) square lc lq a x f (λ k. credits_for_tokens f q.end clock ks) in (
          record {
            ends = λ x f ne. paid_other cores c e core left end at_c at_e (end.credits - length ks) q.end [] is_ends x f (end_other (peer c e) x f ne);
            ways = λ a x f ne. same a x f;
            sizes = ends_length cores c e core left end at_c at_e (ap length is_ends ∙ row_length core.ends e paid_end []);
          },
          paid_here cores c e core left end at_c at_e (end.credits - length ks) q.end [] is_ends,
          same,
        )

    pub pays : left.ends ≡ (tokens_go home clock core.ends e end ks q).ends → (sent : List Sent) → sent ≡ (tokens_go home clock core.ends e end ks q).sent → Pays sent
    pays is_ends sent is_sent = pays_by (nat_eq q.core home.number) is_ends sent is_sent

  -- IN and CHKCT
  module _ (n : ℕ) (q_there : q.end < length (ends_in (slice_get cores q.core))) where
    -- the end without the tokens that were taken
    abbrev cut_end : ChanEnd
    cut_end = record end { tokens = drop n end.tokens }

    -- The peer gets the credits back, at once or over the link.
    abbrev pub Repays : List Sent → Type 0
    Repays sent =
        CreditsChanged cores links (slice_set cores c left) (on_links links c sent) q
        × (credits_at (slice_set cores c left) q.core q.end + credits_for q.end (link_of (on_links links c sent) c q.core)
        ≡ (credits_at cores q.core q.end + credits_for q.end (link_of links c q.core)) + n)

    -- by whether the peer is on the core
    repays_by : (b : Bool) → nat_eq q.core home.number ≡ b → left.ends ≡ (goes_by (slice_set core.ends e cut_end) q.core clock (credits_to q.end n) b).ends → (sent : List Sent) → sent ≡ (goes_by (slice_set core.ends e cut_end) q.core clock (credits_to q.end n) b).sent → Repays sent
    repays_by true is_near is_ends sent is_sent =
        let same : (a x f : ℕ) → credits_for f (link_of (on_links links c sent) a x) ≡ credits_for f (link_of links a x) = λ a x f. ap (λ s. credits_for f (link_of (on_links links c s) a x)) is_sent in
        let on_core : q.core ≡ c = eqb-true q.core home.number is_near ∙ number in
        let there : q.end < length core.ends =
        (let size = ap (λ o. length (ends_in o)) (ap (slice_get cores) on_core ∙ at_c) in let lt = q_there in omega (arith, size, lt)) in
        let given = given_there cores c e core left end at_c at_e (drop n end.tokens) q.end n is_ends there in
        let back : credits_at (slice_set cores c left) q.core q.end ≡ credits_at cores q.core q.end + n =
        subst (λ x. credits_at (slice_set cores c left) x q.end ≡ credits_at cores x q.end + n) (sym on_core) given in (
          record {
            ends = λ x f ne. given_other cores c e core left end at_c at_e (drop n end.tokens) q.end n is_ends x f (λ k. end_other q x f ne (on_core ∙ k));
            ways = λ a x f ne. same a x f;
            sizes = ends_length cores c e core left end at_c at_e (ap length is_ends ∙ row_length core.ends e cut_end (credits_to q.end n));
          },
          (let on_link = same c q.core q.end in omega (arith, back, on_link)),
        )
    repays_by false is_far is_ends sent is_sent =
        let kept : (x f : ℕ) → credits_at (slice_set cores c left) x f ≡ credits_at cores x f =
        λ x f. given_other cores c e core left end at_c at_e (drop n end.tokens) (suc f) 0 is_ends x f (λ k z. absurd (omega (arith, z))) in
        let links_same : (a x f : ℕ) → credits_for f (link_of (on_links links c sent) a x) ≡ credits_for f (link_of (on_links links c (all_sent q.core clock (credits_to q.end n))) a x) =
        λ a x f. ap (λ s. credits_for f (link_of (on_links links c s) a x)) is_sent in (
          record {
            ends = λ x f ne. kept x f;
            ways = λ a x f ne.
                links_same a x f
                ∙ sent_no_credits links c q.core clock (credits_to q.end n) square lc lq a x f (λ k. credits_for_other f q.end clock n (end_other q x f ne k));
            sizes = ends_length cores c e core left end at_c at_e (ap length is_ends ∙ row_length core.ends e cut_end []);
          },
          (let old = kept q.core q.end in
              let now = links_same c q.core q.end in
              let sum = sent_credits links c q.core clock (credits_to q.end n) square lc lq q.end in
              let new = credits_for_here q.end clock n in
              omega (arith, old, now, sum, new)),
        )

    pub repays : left.ends ≡ (tokens_taken home clock core.ends e end n q).ends → (sent : List Sent) → sent ≡ (tokens_taken home clock core.ends e end n q).sent → Repays sent
    repays is_ends sent is_sent = repays_by (nat_eq q.core home.number) refl is_ends sent is_sent
