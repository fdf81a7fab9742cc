-- An image of two cores can be run: core 0 with three ends, of which two are joined and one leads to core 1, which has one.
use Rattle.std.proofs.Common.{◌≡◌, ◌<◌, ℕ, zero, suc, Bool, true, false, List, [], ◌∷◌, refl, sym, ap, ◌∙◌, subst, inl, inr, arith}
use Rattle.std.specs.Prelude.{nat_eq, replicate, ◌⊎◌}
use Rattle.xs_core.specs.Deliver.{HasRoomAt, HasRoomFrom}
use Rattle.xs_core.specs.Room.{Credits, Tokens}
use Rattle.std.proofs.lemmas.Bool.{eqb-true}
use Rattle.xs_instr.specs.declared.image.CoreImage.{CoreImage}
use Rattle.xt_core.specs.Channels.{across, within}
use Rattle.xs_instr.specs.declared.image.Pair.{Pair}
use Rattle.xs_instr.specs.declared.image.Stim.{Stim}
use Rattle.xs_instr.specs.declared.state.Moved.TheVariants.{Tok}
use Rattle.xs_instr.specs.declared.state.Token.{Token}
use Rattle.xs_instr.specs.Machine.{boot_core, boot_end, home_of, no_parts, parts_by, parts_in}
use Rattle.xs_instr.specs.Valid.{IsGoodCore, IsThere, Valid, times_named}

module _ (k l : CoreImage) (number : k.number ≡ 0) (ends : k.ends ≡ 3) (number' : l.number ≡ 1) (ends' : l.ends ≡ 1) where
  at_zero : (parts_in (k ∷ l ∷ []) 0).ends ≡ 3
  at_zero = ap (λ b. (parts_by k (parts_in (l ∷ []) 0) b).ends) (ap (λ n. nat_eq n 0) number) ∙ ends

  at_one : (parts_in (k ∷ l ∷ []) 1).ends ≡ 1
  at_one =
      ap (λ b. (parts_by k (parts_in (l ∷ []) 1) b).ends) (ap (λ n. nat_eq n 1) number)
      ∙ ap (λ b. (parts_by l (no_parts 1) b).ends) (ap (λ n. nat_eq n 1) number') ∙ ends'

  which : (c e : ℕ) → IsThere (k ∷ l ∷ []) c e → ((c ≡ 0) × (e < 3)) ⊎ ((c ≡ 1) × (e < 1))
  which c e h = first (nat_eq k.number c) refl (nat_eq l.number c) refl h
    where
      first : (a : Bool) → nat_eq k.number c ≡ a → (b : Bool) → nat_eq l.number c ≡ b → e < (parts_by k (parts_by l (no_parts c) b) a).ends → ((c ≡ 0) × (e < 3)) ⊎ ((c ≡ 1) × (e < 1))
      first true x b y lt = inl (sym (eqb-true k.number c x) ∙ number, omega (arith, lt, ends))
      first false x true y lt = inr (sym (eqb-true l.number c y) ∙ number', omega (arith, lt, ends'))
      first false x false y lt = absurd (omega (arith, lt))

  once_zero : (e : ℕ) → e < 3 → times_named (within ∷ across ∷ []) 0 e ≡ 1
  once_zero zero lt = refl
  once_zero (suc zero) lt = refl
  once_zero (suc (suc zero)) lt = refl
  once_zero (suc (suc (suc e))) lt = absurd (omega arith)

  once_one : (e : ℕ) → e < 1 → times_named (within ∷ across ∷ []) 1 e ≡ 1
  once_one zero lt = refl
  once_one (suc e) lt = absurd (omega arith)

  valid_two : IsGoodCore k → IsGoodCore l → Valid (record { cores = k ∷ l ∷ []; chans = within ∷ across ∷ [] })
  valid_two good good' = record {
    some_core = omega arith;
    cores = (omega (arith, number), omega (arith, number), good, (omega (arith, number, number'), omega (arith, number'), good', tt));
    pairs = (omega (arith, at_zero), omega (arith, at_zero), (omega (arith, at_zero), omega (arith, at_one), tt));
    once = λ c e there. elim (which c e there) [
      | inl h ↦ subst (λ v. times_named (within ∷ across ∷ []) v e ≡ 1) (sym h.0) (once_zero e h.1)
      | inr h ↦ subst (λ v. times_named (within ∷ across ∷ []) v e ≡ 1) (sym h.0) (once_one e h.1)
    ];
  }

  -- what leads to core 1 has room as the core starts
  far_two : (s : Stim) (t : Token) → HasRoomFrom (home_of (record { cores = k ∷ l ∷ []; chans = within ∷ across ∷ [] }) s 0) (boot_core (parts_in (k ∷ l ∷ []) 0)).ends (Tok 2 t)
  far_two s t =
      subst (λ n. HasRoomAt (home_of (record { cores = k ∷ l ∷ []; chans = within ∷ across ∷ [] }) s 0) Tokens Credits (replicate n boot_end) 2) (sym at_zero)
      (record { there = omega arith; room = omega arith })

-- the same of lists that are made item by item
pub valid_of : (k l : CoreImage) (cores : List CoreImage) (chans : List Pair) → k.number ≡ 0 → k.ends ≡ 3 → l.number ≡ 1 → l.ends ≡ 1 → IsGoodCore k → IsGoodCore l → cores ≡ k ∷ l ∷ [] → chans ≡ within ∷ across ∷ [] → Valid (record { cores = cores; chans = chans })
valid_of k l cores chans n e n' e' good good' cs ps =
    subst (λ (x : List CoreImage). Valid (record { cores = x; chans = chans })) (sym cs)
    (subst (λ (x : List Pair). Valid (record { cores = k ∷ l ∷ []; chans = x })) (sym ps) (valid_two k l n e n' e' good good'))

pub far_of : (k l : CoreImage) (cores : List CoreImage) (chans : List Pair) → k.number ≡ 0 → k.ends ≡ 3 → l.number ≡ 1 → l.ends ≡ 1 → cores ≡ k ∷ l ∷ [] → chans ≡ within ∷ across ∷ [] →
    (s : Stim) (t : Token) → HasRoomFrom (home_of (record { cores = cores; chans = chans }) s 0) (boot_core (parts_in cores 0)).ends (Tok 2 t)
far_of k l cores chans n e n' e' cs ps s t =
    subst (λ (x : List CoreImage). HasRoomFrom (home_of (record { cores = x; chans = chans }) s 0) (boot_core (parts_in x 0)).ends (Tok 2 t)) (sym cs)
    (subst (λ (x : List Pair). HasRoomFrom (home_of (record { cores = k ∷ l ∷ []; chans = x }) s 0) (boot_core (parts_in (k ∷ l ∷ []) 0)).ends (Tok 2 t)) (sym ps) (far_two k l n e n' e' s t))
