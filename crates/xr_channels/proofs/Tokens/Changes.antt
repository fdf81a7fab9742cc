-- What a row on an end, and the arrival of an item, changes of the tokens at ends and on links.
use Rattle.std.proofs.Common.{◌≡◌, ◌<◌, ◌≢◌, ℕ, ◌-◌, Bool, true, false, List, [], ◌∷◌, ◌++◌, length, drop, Some, refl, sym, ap, ◌∙◌, subst, append-nil, inl, inr, eq-eqb}
use Rattle.std.specs.Prelude.{◌⊎◌, nat_eq, slice_get, slice_set}
use Rattle.xs_instr.specs.declared.image.Home.{Home}
use Rattle.xs_instr.specs.declared.state.ChanEnd.{ChanEnd}
use Rattle.xs_instr.specs.declared.state.CoreState.{CoreState}
use Rattle.xs_instr.specs.declared.state.Item.{Item}
use Rattle.xs_instr.specs.declared.state.Moved.{Moved}
use Rattle.xs_instr.specs.declared.state.Moved.TheVariants.{Tok, Credit}
use Rattle.xs_instr.specs.declared.state.Sent.{Sent}
use Rattle.xs_instr.specs.declared.state.Token.{Token}
use Rattle.xs_instr.specs.Ends.{tokens_to, credits_to, all_sent, Peer, Gone, goes_by, tokens_go, tokens_taken}
use Rattle.xs_instr.specs.Machine.{link_of, link_put, on_links, came}
use Rattle.xr_channels.specs.Channels.{Links, tokens_in, ends_in, tokens_at, token_by, tokens_for}
use Rattle.xr_channels.proofs.Tokens.Views.{get_set, get_set_other, same_num, num_other, tokens_of_end, IsEnd, same_tokens, end_after, tokens_arrive, tokens_arrive_other, credits_arrive, credit_arrives, Square, get_put, get_put_other, square_put, square_sent, items_of, link_sent, link_sent_other, tokens_for_append, tokens_for_here, tokens_for_other, tokens_for_credits}

-- an end by its core and number
abbrev pub peer : (core end : ℕ) → Peer
peer c e = record { core = c; end = e }

-- nothing is on its way from a core to itself
abbrev pub IsSelfless : Links → Type 0
IsSelfless links = (c : ℕ) → link_of links c c ≡ []

-- Nothing changes but what is for the end q.
pub record Changed (cores : List CoreState) (links : Links) (cores' : List CoreState) (links' : Links) (q : Peer) : Type 0 where
  pub buffers : (x f : ℕ) → (peer x f ≢ q) → tokens_at cores' x f ≡ tokens_at cores x f
  pub ways : (a x f : ℕ) → (peer x f ≢ q) → tokens_for f (link_of links' a x) ≡ tokens_for f (link_of links a x)
  pub selves : IsSelfless links'
  pub square : Square links'

-- tokens go from a core to the end q
pub data Sends (cores : List CoreState) (links : Links) (cores' : List CoreState) (links' : Links) (c : ℕ) (q : Peer) (ks : List Token) : Type 0 where
  near : q.core ≡ c → tokens_at cores' q.core q.end ≡ tokens_at cores q.core q.end ++ ks → tokens_for q.end (link_of links' c q.core) ≡ tokens_for q.end (link_of links c q.core) → Sends cores links cores' links' c q ks
  far : q.core ≢ c → tokens_at cores' q.core q.end ≡ tokens_at cores q.core q.end → tokens_for q.end (link_of links' c q.core) ≡ tokens_for q.end (link_of links c q.core) ++ ks → Sends cores links cores' links' c q ks

-- another core
core_other : (cores : List CoreState) (c x f : ℕ) (left : CoreState) → c ≢ x → tokens_at (slice_set cores c left) x f ≡ tokens_at cores x f
core_other cores c x f left ne = ap (λ o. tokens_of_end (ends_in o) f) (get_set_other cores c x left ne)

-- a core that is written
core_here : (cores : List CoreState) (c f : ℕ) (core left : CoreState) → slice_get cores c ≡ Some core → tokens_at (slice_set cores c left) c f ≡ tokens_of_end left.ends f
core_here cores c f core left at_c = ap (λ o. tokens_of_end (ends_in o) f) (get_set cores c core left at_c)

-- a core as it was
core_was : (cores : List CoreState) (c f : ℕ) (core : CoreState) → slice_get cores c ≡ Some core → tokens_at cores c f ≡ tokens_of_end core.ends f
core_was cores c f core at_c = ap (λ o. tokens_of_end (ends_in o) f) at_c

-- a core of which only its ends matter, at each end
pub core_same : (cores : List CoreState) (c x f : ℕ) (core left : CoreState) → slice_get cores c ≡ Some core → (c ≡ x → tokens_of_end left.ends f ≡ tokens_of_end core.ends f) → tokens_at (slice_set cores c left) x f ≡ tokens_at cores x f
core_same cores c x f core left at_c same = by (same_num c x)
  where
    by : (c ≡ x) ⊎ (c ≢ x) → tokens_at (slice_set cores c left) x f ≡ tokens_at cores x f
    by (inl e) = subst (λ y. tokens_at (slice_set cores c left) y f ≡ tokens_at cores y f) e (core_here cores c f core left at_c ∙ same e ∙ sym (core_was cores c f core at_c))
    by (inr ne) = core_other cores c x f left ne

-- nothing changes where the ends stay
pub still_changed : (cores : List CoreState) (links : Links) (c : ℕ) (core left : CoreState) (q : Peer) → slice_get cores c ≡ Some core → left.ends ≡ core.ends → IsSelfless links → Square links → Changed cores links (slice_set cores c left) links q
still_changed cores links c core left q at_c same selves square = record {
  buffers = λ x f ne. core_same cores c x f core left at_c (λ e. ap (λ l. tokens_of_end l f) same);
  ways = λ a x f ne. refl;
  selves = selves;
  square = square;
}

-- what goes to another core
selves_sent : (links : Links) (c d tick : ℕ) (ms : List Moved) → d ≢ c → IsSelfless links → IsSelfless (on_links links c (all_sent d tick ms))
selves_sent links c d tick ms ne h a = link_sent_other links c d a a tick ms (λ e k. ne (k ∙ sym e)) ∙ h a

module _ (home : Home) (clock : ℕ) (cores : List CoreState) (links : Links) (c e : ℕ) (core left : CoreState) (end : ChanEnd) (q : Peer) (at_c : slice_get cores c ≡ Some core) (at_e : slice_get core.ends e ≡ Some end) (number : home.number ≡ c) (selves : IsSelfless links) (square : Square links) (lc : c < 4) (lq : q.core < 4) (q_there : IsEnd (ends_in (slice_get cores q.core)) q.end) where
  -- another end of the peer's core
  is_peer_end : (x f : ℕ) → peer x f ≢ q → q.core ≡ x → q.end ≢ f
  is_peer_end x f ne a b = ne (ap (λ y. peer y f) (sym a) ∙ ap (λ y. peer q.core y) (sym b))

  module _ (ks : List Token) where
    -- the ends with the credits paid
    abbrev pub paid : List ChanEnd
    paid = slice_set core.ends e (record end { credits = end.credits - length ks })

    -- the tokens are the same
    paid_same : (f : ℕ) → tokens_of_end paid f ≡ tokens_of_end core.ends f
    paid_same f = same_tokens core.ends e f end (record end { credits = end.credits - length ks }) at_e refl

    -- what goes to the peer, by whether it is on the core
    abbrev pub gone_by : Bool → Gone
    gone_by b = goes_by paid q.core clock (tokens_to q.end ks) b

    -- by whether the peer is on the core
    sends_by : (b : Bool) → nat_eq q.core home.number ≡ b → left.ends ≡ (gone_by b).ends → (sent : List Sent) → sent ≡ (gone_by b).sent → Changed cores links (slice_set cores c left) (on_links links c sent) q × Sends cores links (slice_set cores c left) (on_links links c sent) c q ks
    sends_by true is_near is_ends sent is_sent =
        let same : q.core ≡ c = near_is is_near in
        let there : IsEnd paid q.end = end_after core.ends e q.end _ (subst (λ o. IsEnd (ends_in o) q.end) (ap (λ y. slice_get cores y) same ∙ at_c) q_there) in
        let links_same : on_links links c sent ≡ links = ap (λ s. on_links links c s) is_sent in (
          record {
            buffers = λ x f ne. core_same cores c x f core left at_c (λ k. ap (λ l. tokens_of_end l f) is_ends ∙ tokens_arrive_other paid q.end f ks (is_peer_end x f ne (same ∙ k)) ∙ paid_same f);
            ways = λ a x f ne. ap (λ l. tokens_for f (link_of l a x)) links_same;
            selves = subst IsSelfless (sym links_same) selves;
            square = subst Square (sym links_same) square;
          },
          near same
              (ap (λ y. tokens_at (slice_set cores c left) y q.end) same
              ∙ core_here cores c q.end core left at_c
              ∙ ap (λ l. tokens_of_end l q.end) is_ends
              ∙ tokens_arrive paid q.end ks there
              ∙ ap (λ l. l ++ ks) (paid_same q.end ∙ sym (core_was cores c q.end core at_c) ∙ ap (λ y. tokens_at cores y q.end) (sym same)))
              (ap (λ l. tokens_for q.end (link_of l c q.core)) links_same),
        )
      where
        near_is : nat_eq q.core home.number ≡ true → q.core ≡ c
        near_is h = eqb_is q.core home.number h ∙ number
          where
            eqb_is : (a b : ℕ) → nat_eq a b ≡ true → a ≡ b
            eqb_is a b k = ⊎_same (same_num a b) k
              where
                ⊎_same : (a ≡ b) ⊎ (a ≢ b) → nat_eq a b ≡ true → a ≡ b
                ⊎_same (inl x) y = x
                ⊎_same (inr x) y = let no : false ≡ true = sym (num_other a b x) ∙ y in cc
    sends_by false is_far is_ends sent is_sent =
        let other : q.core ≢ c = far_is is_far in
        let ms = tokens_to q.end ks in
        let links_same : on_links links c sent ≡ on_links links c (all_sent q.core clock ms) = ap (λ s. on_links links c s) is_sent in (
          record {
            buffers = λ x f ne. core_same cores c x f core left at_c (λ k. ap (λ l. tokens_of_end l f) is_ends ∙ paid_same f);
            ways = λ a x f ne. ap (λ l. tokens_for f (link_of l a x)) links_same ∙ way_other a x f ne (same_num c a) (same_num q.core x);
            selves = subst IsSelfless (sym links_same) (selves_sent links c q.core clock ms other selves);
            square = subst Square (sym links_same) (square_sent links c q.core clock ms square);
          },
          far other
              (core_same cores c q.core q.end core left at_c (λ k. absurd (other (sym k))))
              (ap (λ l. tokens_for q.end (link_of l c q.core)) links_same
              ∙ ap (λ l. tokens_for q.end l) (link_sent links c q.core clock ms square lc lq)
              ∙ tokens_for_append q.end (link_of links c q.core) (items_of clock ms)
              ∙ ap (λ l. tokens_for q.end (link_of links c q.core) ++ l) (tokens_for_here q.end clock ks)),
        )
      where
        far_is : nat_eq q.core home.number ≡ false → q.core ≢ c
        far_is h k = let yes : nat_eq q.core home.number ≡ true = eq-eqb q.core home.number (k ∙ sym number) in let no : false ≡ true = sym h ∙ yes in cc

        way_other : (a x f : ℕ) → peer x f ≢ q → (c ≡ a) ⊎ (c ≢ a) → (q.core ≡ x) ⊎ (q.core ≢ x) → tokens_for f (link_of (on_links links c (all_sent q.core clock (tokens_to q.end ks))) a x) ≡ tokens_for f (link_of links a x)
        way_other a x f ne (inr n) s = ap (tokens_for f) (link_sent_other links c q.core a x clock (tokens_to q.end ks) (λ k. absurd (n k)))
        way_other a x f ne (inl m) (inr n) = ap (tokens_for f) (link_sent_other links c q.core a x clock (tokens_to q.end ks) (λ k. n))
        way_other a x f ne (inl m) (inl n) =
            let at_q : tokens_for f (link_of (on_links links c (all_sent q.core clock (tokens_to q.end ks))) c q.core) ≡ tokens_for f (link_of links c q.core) =
            ap (tokens_for f) (link_sent links c q.core clock (tokens_to q.end ks) square lc lq)
            ∙ tokens_for_append f (link_of links c q.core) (items_of clock (tokens_to q.end ks))
            ∙ ap (λ l. tokens_for f (link_of links c q.core) ++ l) (tokens_for_other f q.end clock ks (is_peer_end x f ne n))
            ∙ append-nil (tokens_for f (link_of links c q.core)) in
            subst (λ y. tokens_for f (link_of (on_links links c (all_sent q.core clock (tokens_to q.end ks))) y x) ≡ tokens_for f (link_of links y x)) m
            (subst (λ y. tokens_for f (link_of (on_links links c (all_sent q.core clock (tokens_to q.end ks))) c y) ≡ tokens_for f (link_of links c y)) n at_q)

    -- OUT and OUTCT
    pub sends : (gone : Gone) → tokens_go home clock core.ends e end ks q ≡ gone → left.ends ≡ gone.ends → (sent : List Sent) → sent ≡ gone.sent → Changed cores links (slice_set cores c left) (on_links links c sent) q × Sends cores links (slice_set cores c left) (on_links links c sent) c q ks
    sends gone is_gone is_ends sent is_sent =
        sends_by (nat_eq q.core home.number) refl (is_ends ∙ sym (ap (λ (x : Gone). x.ends) is_gone)) sent (is_sent ∙ sym (ap (λ (x : Gone). x.sent) is_gone))

  module _ (n : ℕ) where
    -- the ends without the tokens that were taken
    abbrev pub cut : List ChanEnd
    cut = slice_set core.ends e (record end { tokens = drop n end.tokens })

    -- the tokens that are left
    cut_here : tokens_of_end cut e ≡ drop n (tokens_of_end core.ends e)
    cut_here = ap tokens_in (get_set core.ends e end (record end { tokens = drop n end.tokens }) at_e) ∙ ap (λ o. drop n (tokens_in o)) (sym at_e)

    -- those at another end
    cut_other : (f : ℕ) → e ≢ f → tokens_of_end cut f ≡ tokens_of_end core.ends f
    cut_other f ne = ap tokens_in (get_set_other core.ends e f _ ne)

    -- by whether the peer is on the core
    takes_by : (b : Bool) → nat_eq q.core home.number ≡ b → left.ends ≡ (goes_by cut q.core clock (credits_to q.end n) b).ends → (sent : List Sent) → sent ≡ (goes_by cut q.core clock (credits_to q.end n) b).sent → Changed cores links (slice_set cores c left) (on_links links c sent) (peer c e) × (tokens_at (slice_set cores c left) c e ≡ drop n (tokens_at cores c e)) × ((a x f : ℕ) → tokens_for f (link_of (on_links links c sent) a x) ≡ tokens_for f (link_of links a x))
    takes_by true is_near is_ends sent is_sent =
        let links_same : on_links links c sent ≡ links = ap (λ s. on_links links c s) is_sent in
        let ways : (a x f : ℕ) → tokens_for f (link_of (on_links links c sent) a x) ≡ tokens_for f (link_of links a x) = λ a x f. ap (λ l. tokens_for f (link_of l a x)) links_same in (
          record {
            buffers = λ x f ne. core_same cores c x f core left at_c (λ k. ap (λ l. tokens_of_end l f) is_ends ∙ credits_arrive cut q.end f n ∙ cut_other f (λ z. ne (ap (λ y. peer y f) (sym k) ∙ ap (λ y. peer c y) (sym z))));
            ways = λ a x f ne. ways a x f;
            selves = subst IsSelfless (sym links_same) selves;
            square = subst Square (sym links_same) square;
          },
          core_here cores c e core left at_c ∙ ap (λ l. tokens_of_end l e) is_ends ∙ credits_arrive cut q.end e n ∙ cut_here ∙ ap (drop n) (sym (core_was cores c e core at_c)),
          ways,
        )
    takes_by false is_far is_ends sent is_sent =
        let other : q.core ≢ c = far_is is_far in
        let ms = credits_to q.end n in
        let links_same : on_links links c sent ≡ on_links links c (all_sent q.core clock ms) = ap (λ s. on_links links c s) is_sent in
        let ways : (a x f : ℕ) → tokens_for f (link_of (on_links links c sent) a x) ≡ tokens_for f (link_of links a x) = λ a x f. ap (λ l. tokens_for f (link_of l a x)) links_same ∙ way_same a x f (same_num c a) (same_num q.core x) in (
          record {
            buffers = λ x f ne. core_same cores c x f core left at_c (λ k. ap (λ l. tokens_of_end l f) is_ends ∙ cut_other f (λ z. ne (ap (λ y. peer y f) (sym k) ∙ ap (λ y. peer c y) (sym z))));
            ways = λ a x f ne. ways a x f;
            selves = subst IsSelfless (sym links_same) (selves_sent links c q.core clock ms other selves);
            square = subst Square (sym links_same) (square_sent links c q.core clock ms square);
          },
          core_here cores c e core left at_c ∙ ap (λ l. tokens_of_end l e) is_ends ∙ cut_here ∙ ap (drop n) (sym (core_was cores c e core at_c)),
          ways,
        )
      where
        far_is : nat_eq q.core home.number ≡ false → q.core ≢ c
        far_is h k = let yes : nat_eq q.core home.number ≡ true = eq-eqb q.core home.number (k ∙ sym number) in let no : false ≡ true = sym h ∙ yes in cc

        way_same : (a x f : ℕ) → (c ≡ a) ⊎ (c ≢ a) → (q.core ≡ x) ⊎ (q.core ≢ x) → tokens_for f (link_of (on_links links c (all_sent q.core clock (credits_to q.end n))) a x) ≡ tokens_for f (link_of links a x)
        way_same a x f (inr m) s = ap (tokens_for f) (link_sent_other links c q.core a x clock (credits_to q.end n) (λ k. absurd (m k)))
        way_same a x f (inl m) (inr k) = ap (tokens_for f) (link_sent_other links c q.core a x clock (credits_to q.end n) (λ z. k))
        way_same a x f (inl m) (inl k) =
            let at_q : tokens_for f (link_of (on_links links c (all_sent q.core clock (credits_to q.end n))) c q.core) ≡ tokens_for f (link_of links c q.core) =
            ap (tokens_for f) (link_sent links c q.core clock (credits_to q.end n) square lc lq)
            ∙ tokens_for_append f (link_of links c q.core) (items_of clock (credits_to q.end n))
            ∙ ap (λ l. tokens_for f (link_of links c q.core) ++ l) (tokens_for_credits f q.end clock n)
            ∙ append-nil (tokens_for f (link_of links c q.core)) in
            subst (λ y. tokens_for f (link_of (on_links links c (all_sent q.core clock (credits_to q.end n))) y x) ≡ tokens_for f (link_of links y x)) m
            (subst (λ y. tokens_for f (link_of (on_links links c (all_sent q.core clock (credits_to q.end n))) c y) ≡ tokens_for f (link_of links c y)) k at_q)

    -- IN and CHKCT
    pub takes : (gone : Gone) → tokens_taken home clock core.ends e end n q ≡ gone → left.ends ≡ gone.ends → (sent : List Sent) → sent ≡ gone.sent → Changed cores links (slice_set cores c left) (on_links links c sent) (peer c e) × (tokens_at (slice_set cores c left) c e ≡ drop n (tokens_at cores c e)) × ((a x f : ℕ) → tokens_for f (link_of (on_links links c sent) a x) ≡ tokens_for f (link_of links a x))
    takes gone is_gone is_ends sent is_sent =
        takes_by (nat_eq q.core home.number) refl (is_ends ∙ sym (ap (λ (x : Gone). x.ends) is_gone)) sent (is_sent ∙ sym (ap (λ (x : Gone). x.sent) is_gone))

-- An item comes from core a to core b.
module _ (cores : List CoreState) (links : Links) (a b tick : ℕ) (rest : List Item) (core : CoreState) (at_b : slice_get cores b ≡ Some core) (selves : IsSelfless links) (square : Square links) (la : a < 4) (lb : b < 4) (ne_ab : a ≢ b) where
  -- nothing comes from a core to itself
  selves_rest : IsSelfless (link_put links a b rest)
  selves_rest c = get_put_other links a b c c rest (λ e k. ne_ab (e ∙ sym k)) ∙ selves c

  -- a link whose items for an end are the same, but for its first one
  way_rest : (x y f : ℕ) → tokens_for f (link_of links a b) ≡ tokens_for f rest → tokens_for f (link_of (link_put links a b rest) x y) ≡ tokens_for f (link_of links x y)
  way_rest x y f same = by (same_num a x) (same_num b y)
    where
      by : (a ≡ x) ⊎ (a ≢ x) → (b ≡ y) ⊎ (b ≢ y) → tokens_for f (link_of (link_put links a b rest) x y) ≡ tokens_for f (link_of links x y)
      by (inr n) s = ap (tokens_for f) (get_put_other links a b x y rest (λ e. absurd (n e)))
      by (inl e) (inr n) = ap (tokens_for f) (get_put_other links a b x y rest (λ k. n))
      by (inl e) (inl k) =
          let at_ab : tokens_for f (link_of (link_put links a b rest) a b) ≡ tokens_for f (link_of links a b) = ap (tokens_for f) (get_put links a b rest square la lb) ∙ sym same in
          subst (λ z. tokens_for f (link_of (link_put links a b rest) z y) ≡ tokens_for f (link_of links z y)) e
          (subst (λ z. tokens_for f (link_of (link_put links a b rest) a z) ≡ tokens_for f (link_of links a z)) k at_ab)

  -- a credit
  pub credit_comes : (e : ℕ) → link_of links a b ≡ record { tick = tick; moved = Credit e } ∷ rest → (q : Peer) → Changed cores links (slice_set cores b (came core (Credit e))) (link_put links a b rest) q × ((x f : ℕ) → tokens_at (slice_set cores b (came core (Credit e))) x f ≡ tokens_at cores x f) × ((x y f : ℕ) → tokens_for f (link_of (link_put links a b rest) x y) ≡ tokens_for f (link_of links x y))
  credit_comes e is q =
      let buffers : (x f : ℕ) → tokens_at (slice_set cores b (came core (Credit e))) x f ≡ tokens_at cores x f = λ x f. core_same cores b x f core (came core (Credit e)) at_b (λ k. credit_arrives core.ends e f) in
      let ways : (x y f : ℕ) → tokens_for f (link_of (link_put links a b rest) x y) ≡ tokens_for f (link_of links x y) = λ x y f. way_rest x y f (ap (tokens_for f) is) in
      (record { buffers = λ x f ne. buffers x f; ways = λ x y f ne. ways x y f; selves = selves_rest; square = square_put links a b rest square }, buffers, ways)

  -- a token
  pub token_comes_to : (e : ℕ) (k : Token) → IsEnd core.ends e → link_of links a b ≡ record { tick = tick; moved = Tok e k } ∷ rest → Changed cores links (slice_set cores b (came core (Tok e k))) (link_put links a b rest) (peer b e) × (tokens_at (slice_set cores b (came core (Tok e k))) b e ≡ tokens_at cores b e ++ k ∷ []) × (tokens_for e (link_of links a b) ≡ k ∷ tokens_for e (link_of (link_put links a b rest) a b))
  token_comes_to e k there is = (
    record {
      buffers = λ x f ne. core_same cores b x f core (came core (Tok e k)) at_b (λ s. tokens_arrive_other core.ends e f (k ∷ []) (other_end x f ne s));
      ways = λ x y f ne. by_end x y f ne (same_num e f);
      selves = selves_rest;
      square = square_put links a b rest square;
    },
    core_here cores b e core (came core (Tok e k)) at_b ∙ tokens_arrive core.ends e (k ∷ []) there ∙ ap (λ l. l ++ k ∷ []) (sym (core_was cores b e core at_b)),
    ap (tokens_for e) is ∙ ap (λ x. token_by x k (tokens_for e rest)) (eq-eqb e e refl) ∙ ap (λ l. k ∷ tokens_for e l) (sym (get_put links a b rest square la lb)),
  )
    where
      other_end : (x f : ℕ) → peer x f ≢ peer b e → b ≡ x → e ≢ f
      other_end x f ne s z = ne (ap (λ y. peer y f) (sym s) ∙ ap (λ y. peer b y) (sym z))

      by_end : (x y f : ℕ) → peer y f ≢ peer b e → (e ≡ f) ⊎ (e ≢ f) → tokens_for f (link_of (link_put links a b rest) x y) ≡ tokens_for f (link_of links x y)
      by_end x y f ne (inr n) = way_rest x y f (ap (tokens_for f) is ∙ ap (λ z. token_by z k (tokens_for f rest)) (num_other e f n))
      by_end x y f ne (inl s) = ap (tokens_for f) (get_put_other links a b x y rest (λ m z. ne (ap (λ w. peer w f) (sym z) ∙ ap (λ w. peer b w) (sym s))))
