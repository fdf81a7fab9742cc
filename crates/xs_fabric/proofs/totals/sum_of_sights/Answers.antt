use Rattle.std.proofs.Common.{◌≡◌, ◌<◌, ◌∙◌, ℕ, List, Some, length, map, refl, sym, ap, arith}
use Rattle.std.specs.Prelude.{slice_get}
use Rattle.std.proofs.lemmas.Option.{slice_get_read}
use Rattle.xs_core.specs.Core.{Seen as Core}
use Rattle.xs_instr.specs.declared.image.Image.{Image}
use Rattle.xs_instr.specs.declared.image.Stim.{Stim}
use Rattle.xs_instr.specs.declared.trace.Sight.{Sight}
use Rattle.xs_instr.specs.Sight.{sight}
use Rattle.xs_fabric.specs.EndWord.{no_sight, sight_at, sight_sum}
use Rattle.xs_fabric.specs.Seen.{home_in, homes, state_in}
use Rattle.xs_fabric.proofs.Among.{home_at, state_at}
use Rattle.xs_fabric.proofs.totals.sum_of_sights.Goals as goal

-- the sight of a core among the four
sight_is : (L : Image) (s : Stim) (cores : List Core) (i : ℕ) (core : Core) (seen : Sight) →
    i < 4 → map home_in cores ≡ homes L s → slice_get cores i ≡ Some core → seen ≡ sight core.home core.state →
    seen ≡ sight_at L s i (slice_get (map state_in cores) i)
sight_is L s cores i core seen lt of there is =
    is ∙ ap (λ home. sight home core.state) (home_at L s cores i core lt of there) ∙ sym (ap (sight_at L s i) (state_at cores i core there))

abbrev sum_of : Sight → Sight → Sight → Sight → Sight
sum_of a b c d = sight_sum (sight_sum (sight_sum (sight_sum no_sight a) b) c) d

-- the same sights have the same sum
same_sum : (a b c d a' b' c' d' : Sight) → a ≡ a' → b ≡ b' → c ≡ c' → d ≡ d' → sum_of a b c d ≡ sum_of a' b' c' d'
same_sum a b c d a' b' c' d' ea eb ec ed =
    ap (λ x. sum_of x b c d) ea ∙ ap (λ x. sum_of a' x c d) eb ∙ ap (λ x. sum_of a' b' x d) ec ∙ ap (λ x. sum_of a' b' c' x) ed

abbrev of_numbers : (r u t y m : ℕ) → Sight
of_numbers r u t y m = record { roots = r; used = u; trapped = t; ready = y; timed = m }

-- the same numbers are the same sight
same_sight : (r u t y m r' u' t' y' m' : ℕ) → r ≡ r' → u ≡ u' → t ≡ t' → y ≡ y' → m ≡ m' → of_numbers r u t y m ≡ of_numbers r' u' t' y' m'
same_sight r u t y m r' u' t' y' m' er eu et ey em =
    ap (λ x. of_numbers x u t y m) er
    ∙ ap (λ x. of_numbers r' x t y m) eu
    ∙ ap (λ x. of_numbers r' u' x y m) et
    ∙ ap (λ x. of_numbers r' u' t' x m) ey
    ∙ ap (λ x. of_numbers r' u' t' y' x) em

pub returns : goal.returns
returns c = λ L s links trace of.
    let cores = c.args.cores.now in
    let four = c.requires in
    let n = length cores in
    let there_a = slice_get_read cores n 0 c.index-cores-0.result refl (omega (arith, four)) c.index-cores-0.is in
    let there_b = slice_get_read cores n 1 c.index-cores-1.result refl (omega (arith, four)) c.index-cores-1.is in
    let there_c = slice_get_read cores n 2 c.index-cores-2.result refl (omega (arith, four)) c.index-cores-2.is in
    let there_d = slice_get_read cores n 3 c.index-cores-3.result refl (omega (arith, four)) c.index-cores-3.is in
    same_sight _ _ _ _ _ _ _ _ _ _ c.sum.ensures c.sum-2.ensures c.sum-3.ensures c.sum-4.ensures c.sum-5.ensures
    ∙ same_sum c.sight-a.result c.sight-b.result c.sight-c.result c.sight-d.result _ _ _ _
    (sight_is L s cores 0 _ _ (omega arith) of there_a c.sight-a.ensures)
    (sight_is L s cores 1 _ _ (omega arith) of there_b c.sight-b.ensures)
    (sight_is L s cores 2 _ _ (omega arith) of there_c c.sight-c.ensures)
    (sight_is L s cores 3 _ _ (omega arith) of there_d c.sight-d.ensures)
