-- A core's part of a round on the links.
use Rattle.std.proofs.Common.{◌≡◌, ◌≤◌, ◌<◌, ℕ, zero, suc, List, [], ◌∷◌, ◌++◌, Option, Some, None, refl, sym, ap, subst, ◌∙◌, inl, inr, arith, append_assoc}
use Rattle.std.specs.Prelude.{◌⊎◌, ◌≢◌, nat_eq, slice_get, slice_set}
use Rattle.std.proofs.lemmas.Bool.{ne_eqb, eq-eqb}
use Rattle.xs_instr.specs.declared.state.Item.{Item}
use Rattle.xs_instr.specs.declared.state.Sent.{Sent}
use Rattle.xs_instr.specs.Machine.{link_in, link_of, link_put, link_put_in, on_links}
use Rattle.xs_fabric.specs.Lockstep.{late_from, late_of}
use Rattle.xr_windows.specs.Alone.{for_by, sent_for}
use Rattle.xs_fabric.proofs.Links.{Links, get_put_other, late_keeps}
use Rattle.xs_core.proofs.Lists.{append_nothing, get_set_other}
use Rattle.xs_fabric.proofs.Ways.{Square, square_put, get_put_there, get_put_column}
use Rattle.xs_core.proofs.Weights.{same_num}

pub square_late : (links : Links) (c clock n : ℕ) → Square links → Square (late_from links c clock n)
square_late links c clock zero q = q
square_late links c clock (suc n) q = square_put _ n c _ (square_late links c clock n q)

-- what is left on the links to core c
pub late_here : (links : Links) (c clock n a : ℕ) → Square links → c < 4 → n ≤ 4 → a < n → link_of (late_from links c clock n) a c ≡ late_of clock (link_of links a c)
late_here links c clock zero a q lc le lt = absurd (omega arith)
late_here links c clock (suc n) a q lc le lt = go (λ g. late_here links c clock n a q lc (omega arith) g) (same_num n a)
  where
    before : Links
    before = late_from links c clock n

    go : (a < n → link_of before a c ≡ late_of clock (link_of links a c)) → (n ≡ a) ⊎ (n ≢ a) → link_of (link_put before n c (late_of clock (link_of before n c))) a c ≡ late_of clock (link_of links a c)
    go more (inl e) =
        let there : link_of (link_put before n c (late_of clock (link_of before n c))) n c ≡ late_of clock (link_of links n c) =
        get_put_there before n c _ (square_late links c clock n q) (omega arith) lc ∙ ap (late_of clock) (late_keeps links c clock n n (omega arith)) in
        subst (λ v. link_of (link_put before n c (late_of clock (link_of before n c))) v c ≡ late_of clock (link_of links v c)) e there
    go more (inr ne) = get_put_other before n a c _ ne ∙ more (omega arith)

-- and nothing changes on the links to another
pub late_elsewhere : (links : Links) (c clock n a i : ℕ) → c ≢ i → link_of (late_from links c clock n) a i ≡ link_of links a i
late_elsewhere links c clock zero a i ne = refl
late_elsewhere links c clock (suc n) a i ne = get_put_column (late_from links c clock n) n c a i _ ne ∙ late_elsewhere links c clock n a i ne

pub square_on : (links : Links) (c : ℕ) (ss : List Sent) → Square links → Square (on_links links c ss)
square_on links c [] q = q
square_on links c (s ∷ ss) q = square_on _ c ss (square_put links c s.to _ q)

-- what core c sent stands behind on its links
pub on_own : (links : Links) (c i : ℕ) (ss : List Sent) → Square links → c < 4 → i < 4 → link_of (on_links links c ss) c i ≡ link_of links c i ++ sent_for i ss
on_own links c i [] q lc li = sym (append_nothing (link_of links c i))
on_own links c i (s ∷ ss) q lc li =
    on_own (link_put links c s.to (link_of links c s.to ++ item ∷ [])) c i ss (square_put links c s.to _ q) lc li ∙ go (same_num s.to i)
  where
    item : Item
    item = record { tick = s.tick; moved = s.moved }

    go : (s.to ≡ i) ⊎ (s.to ≢ i) → link_of (link_put links c s.to (link_of links c s.to ++ item ∷ [])) c i ++ sent_for i ss ≡ link_of links c i ++ for_by item (sent_for i ss) (nat_eq s.to i)
    go (inl e) =
        let here : link_of (link_put links c s.to (link_of links c s.to ++ item ∷ [])) c i ≡ link_of links c i ++ item ∷ [] =
        subst (λ v. link_of (link_put links c v (link_of links c v ++ item ∷ [])) c i ≡ link_of links c i ++ item ∷ []) (sym e) (get_put_there links c i _ q lc li) in
        ap (λ w. w ++ sent_for i ss) here
        ∙ append_assoc (link_of links c i) (item ∷ []) (sent_for i ss)
        ∙ sym (ap (λ b. link_of links c i ++ for_by item (sent_for i ss) b) (eq-eqb s.to i e))
    go (inr ne) =
        ap (λ w. w ++ sent_for i ss) (get_put_column links c s.to c i _ ne)
        ∙ sym (ap (λ b. link_of links c i ++ for_by item (sent_for i ss) b) (ne_eqb s.to i ne))

pub put_other_row : (links : Links) (a b d e : ℕ) (x : List Item) → a ≢ d → link_of (link_put links a b x) d e ≡ link_of links d e
put_other_row links a b d e x n = go (slice_get links a)
  where
    go : (o : Option (List (List Item))) → link_of (link_put_in links a b x o) d e ≡ link_of links d e
    go None = refl
    go (Some out) = ap (λ r. link_in r e) (get_set_other links a d (slice_set out b x) n)

-- and not on another's
pub on_other : (links : Links) (c a i : ℕ) (ss : List Sent) → c ≢ a → link_of (on_links links c ss) a i ≡ link_of links a i
on_other links c a i [] ne = refl
on_other links c a i (s ∷ ss) ne = on_other (link_put links c s.to (link_of links c s.to ++ record { tick = s.tick; moved = s.moved } ∷ [])) c a i ss ne ∙ put_other_row links c s.to a i _ ne
