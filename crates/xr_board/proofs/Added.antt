-- What is added comes to its core.
use Rattle.std.proofs.Common.{◌≡◌, ℕ, ◌<◌, List, [], ◌∷◌, ◌++◌, Bool, true, false, length, get_or, refl, ap, sym, ◌∙◌, append_assoc, nat_eq, arith}
use Rattle.std.specs.Prelude.{remove}
use Rattle.xr_board.specs.ForCores.{for_by, for_core}
use Rattle.xr_windows.specs.Sending.{Sending}

by_first : (b : Sending) (rest : List Sending) (t : Bool) → for_by b rest t ≡ for_by b [] t ++ rest
by_first b rest true = refl
by_first b rest false = refl

-- the first batch, and the others
pub for_first : (j : ℕ) (bs : List Sending) (b : Sending) → 0 < length bs → b ≡ get_or bs 0 b → for_core j bs ≡ for_core j (b ∷ []) ++ for_core j (remove bs 0)
for_first j [] b lt is = absurd (omega arith)
for_first j (x ∷ bs) b lt is = ap (λ y. for_by y (for_core j bs) (nat_eq y.to j)) (sym is) ∙ by_first b (for_core j bs) (nat_eq b.to j)

pub added_more : (j : ℕ) (x y z out bs : List Sending) (b : Sending) → 0 < length bs → b ≡ get_or bs 0 b → x ++ for_core j bs ≡ z ++ for_core j out → y ≡ x ++ for_core j (b ∷ []) → y ++ for_core j (remove bs 0) ≡ z ++ for_core j out
added_more j x y z out bs b lt is so_far more =
    ap (λ w. w ++ for_core j (remove bs 0)) more
    ∙ append_assoc x (for_core j (b ∷ [])) (for_core j (remove bs 0))
    ∙ sym (ap (λ w. x ++ w) (for_first j bs b lt is))
    ∙ so_far
