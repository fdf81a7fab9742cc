-- How long a way is at most, by how many backward branches it takes.
use Rattle.std.proofs.Common.{◌≡◌, ◌<◌, ◌≤◌, ℕ, zero, suc, ◌+◌, ◌*◌, ◌^◌, Bool, true, false, List, [], ◌∷◌, Option, Some, None, length, refl, subst, arith}
use Rattle.std.proofs.Math.Nat.{mul-le-mul_left}
use Rattle.std.proofs.lemmas.Option.{slice_get_within}
use Rattle.std.specs.List.{slice_get}
use Rattle.xs_instr.specs.declared.image.Code.{Code}
use Rattle.xs_instr.specs.declared.instr.Instr.{Instr}
use Rattle.xs_instr.specs.declared.instr.Instr.TheVariants.{Brft, Brff, Brfu, Brbt, Brbf, Brbu}
use Rattle.xs_instr.specs.Valid.{AreGoodInstrs, IsBackward, IsForward, IsGoodInstr}
use Rattle.xs_fabric.specs.OwnTurns.{Onward, MayBranch, Branches, MayBranchBack, BranchesBack, onward}
use Rattle.xf_time.specs.Routes.{IsGoodCode, flow_to, is_at}
use Rattle.xf_time.specs.Ways.{Flow, LeadsTo, goes_on, behind_waits, not_branched, branched, branches, not_branched_back, branched_back, branches_back, Way, last, more, flow_at}
use Rattle.xw_words.specs.declared.pos.Pos.{Pos}

-- targets are on the right side
abbrev pub HasTarget : (size i : ℕ) → Onward → Type 0
HasTarget size i (MayBranch k) = IsForward size i k
HasTarget size i (Branches k) = IsForward size i k
HasTarget size i (MayBranchBack k) = IsBackward size i k
HasTarget size i (BranchesBack k) = IsBackward size i k
HasTarget size i _ = Unit {0}

target_of : (size i : ℕ) (x : Instr) → IsGoodInstr size i x → HasTarget size i (onward x)
target_of size i (Brft a k) h = h
target_of size i (Brff a k) h = h
target_of size i (Brfu k) h = h
target_of size i (Brbt a k) h = h
target_of size i (Brbf a k) h = h
target_of size i (Brbu k) h = h
target_of size i _ h = tt

good_at : (size i : ℕ) (xs : List Instr) (n : ℕ) (x : Instr) → AreGoodInstrs size i xs → slice_get xs n ≡ Some x → IsGoodInstr size (i + n) x
good_at size i [] n x h e = let f : None ≡ Some x = e in cc
good_at size i (y ∷ ys) zero x h e =
    let same : y ≡ x = cc in
    subst (λ z. IsGoodInstr size (i + 0) z) same (subst (λ m. IsGoodInstr size m y) (omega arith) h.0)
good_at size i (y ∷ ys) (suc n) x h e =
    subst (λ m. IsGoodInstr size m x) (omega arith) (good_at size (suc i) ys n x h.1 e)

-- each index that has a flow is one of so many, and its targets are on the right side
pub record IsOrdered (flow : Flow) (size : ℕ) : Type 0 where
  pub inside : (i : ℕ) (way : Onward) → flow i ≡ Some way → i < size
  pub targets : (i : ℕ) (way : Onward) → flow i ≡ Some way → HasTarget size i way

inside_at : (b : Bool) (xs : List Instr) (i : ℕ) (o : Option Instr) (way : Onward) → slice_get xs i ≡ o → flow_at b o ≡ Some way → i < length xs
inside_at true xs i o way e f = let h : None ≡ Some way = f in cc
inside_at false xs i None way e f = let h : None ≡ Some way = f in cc
inside_at false xs i (Some x) way e f = slice_get_within xs i x e

target_at : (b : Bool) (code : Code) (i : ℕ) (o : Option Instr) (way : Onward) → AreGoodInstrs (length code.instrs) 0 code.instrs →
    slice_get code.instrs i ≡ o → flow_at b o ≡ Some way → HasTarget (length code.instrs) i way
target_at true code i o way g e f = let h : None ≡ Some way = f in cc
target_at false code i None way g e f = let h : None ≡ Some way = f in cc
target_at false code i (Some x) way g e f =
    let same : onward x ≡ way = cc in
    let good : IsGoodInstr (length code.instrs) i x = subst (λ m. IsGoodInstr (length code.instrs) m x) (omega arith) (good_at (length code.instrs) 0 code.instrs i x g e) in
    subst (HasTarget (length code.instrs) i) same (target_of (length code.instrs) i x good)

pub ordered : (code : Code) (to : Pos) → IsGoodCode code → IsOrdered (flow_to code to) (length code.instrs)
ordered code to good = record {
  inside = λ i way e. inside_at (is_at code to i) code.instrs i (slice_get code.instrs i) way refl e;
  targets = λ i way e. target_at (is_at code to i) code i (slice_get code.instrs i) way good.good refl e;
}

ahead : (l i j m s : ℕ) → i < j → l + j ≤ s + m * s → suc l + i ≤ s + (0 + m) * s
ahead l i j m s h g = omega arith

back : (l i j m s : ℕ) → i < s → l + j ≤ s + m * s → suc l + i ≤ s + (1 + m) * s
back l i j m s h g = omega arith

step_bound : (way : Onward) (l i u j m s : ℕ) → LeadsTo way i u j → HasTarget s i way → i < s → l + j ≤ s + m * s → suc l + i ≤ s + (u + m) * s
step_bound _ l i _ _ m s goes_on t h g = ahead l i (i + 1) m s (omega arith) g
step_bound _ l i _ _ m s behind_waits t h g = ahead l i (i + 1) m s (omega arith) g
step_bound _ l i _ _ m s not_branched t h g = ahead l i (i + 1) m s (omega arith) g
step_bound _ l i _ _ m s (branched {i = _} {k}) t h g = ahead l i k m s t.0 g
step_bound _ l i _ _ m s (branches {i = _} {k}) t h g = ahead l i k m s t.0 g
step_bound _ l i _ _ m s not_branched_back t h g = ahead l i (i + 1) m s (omega arith) g
step_bound _ l i _ _ m s (branched_back {i = _} {k}) t h g = back l i k m s h g
step_bound _ l i _ _ m s (branches_back {i = _} {k}) t h g = back l i k m s h g

-- with n backward branches
way_bound : (flow : Flow) (size i n l : ℕ) → IsOrdered flow size → Way flow i n l → l + i ≤ size + n * size
way_bound flow size i _ _ o (last way e) = let h = o.inside i way e in omega (arith, h)
way_bound flow size i _ _ o (more {i = _} {j} {u} {n} {l} way e d w) =
    step_bound way l i u j n size d (o.targets i way e) (o.inside i way e) (way_bound flow size j n l o w)

-- it is shorter than the greatest number of 64 bits
pub way_short : (flow : Flow) (size b i n l : ℕ) → IsOrdered flow size → size < 2 ^ 32 → b < 2 ^ 32 → n ≤ b → Way flow i n l → l < 18446744073709551615
way_short flow size b i n l o few small h w =
    let long = way_bound flow size i n l o w in
    let product : n * size ≤ n * 4294967295 = mul-le-mul_left n (omega arith) in
    omega arith
