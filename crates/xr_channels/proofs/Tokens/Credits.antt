-- How the credits of ends change, and that there are always as many ends.
use Rattle.std.proofs.Common.{◌≡◌, ◌<◌, ◌≢◌, ℕ, suc, zero, ◌+◌, List, [], ◌∷◌, length, Option, Some, None, refl, sym, ap, ◌∙◌, subst, arith, inl, inr}
use Rattle.std.specs.Prelude.{◌⊎◌, slice_get, slice_set}
use Rattle.xs_instr.specs.declared.state.ChanEnd.{ChanEnd}
use Rattle.xs_instr.specs.declared.state.CoreState.{CoreState}
use Rattle.xs_instr.specs.declared.state.Moved.{Moved}
use Rattle.xs_instr.specs.declared.state.Moved.TheVariants.{Tok, Credit}
use Rattle.xs_instr.specs.declared.state.Token.{Token}
use Rattle.xs_instr.specs.Ends.{arrives, all_arrive, token_at, credit_at, tokens_to, credits_to}
use Rattle.xr_channels.specs.Channels.{ends_in}
use Rattle.xr_channels.specs.Balance.{credits_in, credits_at}
use Rattle.xr_channels.proofs.Tokens.Views.{get_set, get_set_other, same_num, IsEnd}

-- an end that is there
pub end_there : (ends : List ChanEnd) (e : ℕ) → e < length ends → IsEnd ends e
end_there [] e lt = absurd (omega arith)
end_there (x ∷ ends) zero lt = record { end = x; there = refl }
end_there (x ∷ ends) (suc e) lt = let h = end_there ends e (omega arith) in record { end = h.end; there = h.there }

-- writing an end
set_length : {X : Type 0} (xs : List X) (i : ℕ) (x : X) → length (slice_set xs i x) ≡ length xs
set_length [] i x = refl
set_length (y ∷ xs) zero x = refl
set_length (y ∷ xs) (suc i) x = ap suc (set_length xs i x)

-- what arrives leaves as many ends

-- a token
token_length : (ends : List ChanEnd) (e : ℕ) (k : Token) (o : Option ChanEnd) → length (token_at ends e k o) ≡ length ends
token_length ends e k None = refl
token_length ends e k (Some end) = set_length ends e _

-- a credit
credit_length : (ends : List ChanEnd) (e : ℕ) (o : Option ChanEnd) → length (credit_at ends e o) ≡ length ends
credit_length ends e None = refl
credit_length ends e (Some end) = set_length ends e _

-- either
arrives_length : (ends : List ChanEnd) (m : Moved) → length (arrives ends m) ≡ length ends
arrives_length ends (Tok e k) = token_length ends e k (slice_get ends e)
arrives_length ends (Credit e) = credit_length ends e (slice_get ends e)

-- several
all_arrive_length : (ends : List ChanEnd) (ms : List Moved) → length (all_arrive ends ms) ≡ length ends
all_arrive_length ends [] = refl
all_arrive_length ends (m ∷ ms) = all_arrive_length (arrives ends m) ms ∙ arrives_length ends m

-- so does a row
pub row_length : (ends : List ChanEnd) (e : ℕ) (end : ChanEnd) (ms : List Moved) → length (all_arrive (slice_set ends e end) ms) ≡ length ends
row_length ends e end ms = all_arrive_length (slice_set ends e end) ms ∙ set_length ends e end

-- the credits of an end of a core
abbrev pub credits_of_end : List ChanEnd → ℕ → ℕ
credits_of_end ends e = credits_in (slice_get ends e)

-- writing an end with the same credits
same_credits : (ends : List ChanEnd) (e g : ℕ) (end end' : ChanEnd) → slice_get ends e ≡ Some end → end'.credits ≡ end.credits → credits_of_end (slice_set ends e end') g ≡ credits_of_end ends g
same_credits ends e g end end' h same = by (same_num e g)
  where
    by : (e ≡ g) ⊎ (e ≢ g) → credits_of_end (slice_set ends e end') g ≡ credits_of_end ends g
    by (inl x) = subst (λ y. credits_of_end (slice_set ends e end') y ≡ credits_of_end ends y) x (ap credits_in (get_set ends e end end' h) ∙ same ∙ sym (ap credits_in h))
    by (inr ne) = ap credits_in (get_set_other ends e g end' ne)

-- tokens that arrive change no credits

-- one token
token_credits : (ends : List ChanEnd) (f g : ℕ) (k : Token) → credits_of_end (arrives ends (Tok f k)) g ≡ credits_of_end ends g
token_credits ends f g k = by (slice_get ends f) refl
  where
    by : (o : Option ChanEnd) → slice_get ends f ≡ o → credits_of_end (token_at ends f k o) g ≡ credits_of_end ends g
    by None e = refl
    by (Some end) e = same_credits ends f g end _ e refl

-- several
tokens_credits : (ends : List ChanEnd) (f g : ℕ) (ks : List Token) → credits_of_end (all_arrive ends (tokens_to f ks)) g ≡ credits_of_end ends g
tokens_credits ends f g [] = refl
tokens_credits ends f g (k ∷ ks) = tokens_credits (arrives ends (Tok f k)) f g ks ∙ token_credits ends f g k

-- credits come to their end

-- at that end
credits_come : (ends : List ChanEnd) (f n : ℕ) (end : ChanEnd) → slice_get ends f ≡ Some end → credits_of_end (all_arrive ends (credits_to f n)) f ≡ end.credits + n
credits_come ends f zero end h = let e = ap credits_in h in omega (arith, e)
credits_come ends f (suc n) end h =
    let now : ChanEnd = record end { credits = end.credits + 1 } in
    let one : arrives ends (Credit f) ≡ slice_set ends f now = ap (λ o. credit_at ends f o) h in
    let rest = credits_come (slice_set ends f now) f n now (get_set ends f end now h) in
    let first = ap (λ x. credits_of_end (all_arrive x (credits_to f n)) f) one in
    omega (arith, rest, first)

-- one credit, at another end
credit_other : (ends : List ChanEnd) (f g : ℕ) (o : Option ChanEnd) → f ≢ g → slice_get (credit_at ends f o) g ≡ slice_get ends g
credit_other ends f g None ne = refl
credit_other ends f g (Some end) ne = get_set_other ends f g _ ne

-- several credits, at another end
credits_other : (ends : List ChanEnd) (f g n : ℕ) → f ≢ g → credits_of_end (all_arrive ends (credits_to f n)) g ≡ credits_of_end ends g
credits_other ends f g zero ne = refl
credits_other ends f g (suc n) ne = credits_other (arrives ends (Credit f)) f g n ne ∙ ap credits_in (credit_other ends f g (slice_get ends f) ne)

-- A core's ends as a row leaves them.
module _ (cores : List CoreState) (c e : ℕ) (core left : CoreState) (end : ChanEnd) (at_c : slice_get cores c ≡ Some core) (at_e : slice_get core.ends e ≡ Some end) where
  -- the credits at an end that the row leaves
  credits_here : (f : ℕ) → credits_at (slice_set cores c left) c f ≡ credits_of_end left.ends f
  credits_here f = ap (λ o. credits_of_end (ends_in o) f) (get_set cores c core left at_c)

  -- and those that were there
  credits_were : (f : ℕ) → credits_at cores c f ≡ credits_of_end core.ends f
  credits_were f = ap (λ o. credits_of_end (ends_in o) f) at_c

  -- the same credits at an end, where they are the same within the core
  credits_same : (x f : ℕ) → (c ≡ x → credits_of_end left.ends f ≡ credits_of_end core.ends f) → credits_at (slice_set cores c left) x f ≡ credits_at cores x f
  credits_same x f same = by (same_num c x)
    where
      by : (c ≡ x) ⊎ (c ≢ x) → credits_at (slice_set cores c left) x f ≡ credits_at cores x f
      by (inl y) = subst (λ z. credits_at (slice_set cores c left) z f ≡ credits_at cores z f) y (credits_here f ∙ same y ∙ sym (credits_were f))
      by (inr ne) = ap (λ o. credits_of_end (ends_in o) f) (get_set_other cores c x left ne)

  -- each core has as many ends
  pub ends_length : length left.ends ≡ length core.ends → (x : ℕ) → length (ends_in (slice_get (slice_set cores c left) x)) ≡ length (ends_in (slice_get cores x))
  ends_length same x = by (same_num c x)
    where
      by : (c ≡ x) ⊎ (c ≢ x) → length (ends_in (slice_get (slice_set cores c left) x)) ≡ length (ends_in (slice_get cores x))
      by (inl y) = subst (λ z. length (ends_in (slice_get (slice_set cores c left) z)) ≡ length (ends_in (slice_get cores z))) y (ap (λ o. length (ends_in o)) (get_set cores c core left at_c) ∙ same ∙ sym (ap (λ o. length (ends_in o)) at_c))
      by (inr ne) = ap (λ o. length (ends_in o)) (get_set_other cores c x left ne)

  -- Tokens were sent to end f of the core, and end e has these credits left.
  module _ (credits f : ℕ) (ks : List Token) (is_left : left.ends ≡ all_arrive (slice_set core.ends e (record end { credits = credits })) (tokens_to f ks)) where
    -- at the end itself
    pub paid_here : credits_at (slice_set cores c left) c e ≡ credits
    paid_here =
        credits_here e
        ∙ ap (λ l. credits_of_end l e) is_left
        ∙ tokens_credits (slice_set core.ends e (record end { credits = credits })) f e ks
        ∙ ap credits_in (get_set core.ends e end (record end { credits = credits }) at_e)

    -- at another end
    pub paid_other : (x g : ℕ) → (c ≡ x → e ≢ g) → credits_at (slice_set cores c left) x g ≡ credits_at cores x g
    paid_other x g ne = credits_same x g (λ y. ap (λ l. credits_of_end l g) is_left ∙ tokens_credits (slice_set core.ends e (record end { credits = credits })) f g ks ∙ ap credits_in (get_set_other core.ends e g _ (ne y)))

  -- Tokens of end e were taken, and n credits went to end f of the core.
  module _ (tokens : List Token) (f n : ℕ) (is_left : left.ends ≡ all_arrive (slice_set core.ends e (record end { tokens = tokens })) (credits_to f n)) where
    -- taking tokens changes no credits
    cut_same : (g : ℕ) → credits_of_end (slice_set core.ends e (record end { tokens = tokens })) g ≡ credits_of_end core.ends g
    cut_same g = same_credits core.ends e g end (record end { tokens = tokens }) at_e refl

    -- at the end that they go to
    pub given_there : f < length core.ends → credits_at (slice_set cores c left) c f ≡ credits_at cores c f + n
    given_there lt =
        let cut = slice_set core.ends e (record end { tokens = tokens }) in
        let size : length cut ≡ length core.ends = set_length core.ends e _ in
        let there = end_there cut f (omega (arith, size, lt)) in
        credits_here f
        ∙ ap (λ l. credits_of_end l f) is_left
        ∙ credits_come cut f n there.end there.there
        ∙ ap (λ m. m + n) (sym (ap credits_in there.there) ∙ cut_same f ∙ sym (credits_were f))

    -- at another end
    pub given_other : (x g : ℕ) → (c ≡ x → f ≢ g) → credits_at (slice_set cores c left) x g ≡ credits_at cores x g
    given_other x g ne = credits_same x g (λ y. ap (λ l. credits_of_end l g) is_left ∙ credits_other (slice_set core.ends e (record end { tokens = tokens })) f g n (ne y) ∙ cut_same g)
