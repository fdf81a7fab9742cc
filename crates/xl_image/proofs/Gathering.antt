-- The cores one after the other.
use Rattle.std.proofs.Common.{◌≡◌, ◌∙◌, ℕ, suc, ◌+◌, Bool, true, false, List, [], ◌∷◌, ◌++◌, map, refl, sym, ap, subst, arith}
use Rattle.std.specs.Prelude.{cond, filter}
use Rattle.std.specs.List.{All}
use Rattle.std.proofs.lemmas.List.Elements.{All-push, filter-append}
use Rattle.xs_instr.specs.declared.image.CoreImage.{CoreImage}
use Rattle.xc_kernel.specs.Plain as kernel
use Rattle.xl_image.specs.Parts.{IsPartOf, below, has_root, number_of}

map_push : (cores : List CoreImage) (part : CoreImage) → map number_of (cores ++ part ∷ []) ≡ map number_of cores ++ part.number ∷ []
map_push [] part = refl
map_push (c ∷ cores) part = ap (λ l. c.number ∷ l) (map_push cores part)

-- one core more is looked at
one_more : (p : ℕ → Bool) (n : ℕ) → filter p (below (n + 1)) ≡ filter p (below n) ++ cond (p n) (n ∷ []) []
one_more p n = ap (λ m. filter p (below m)) (let z : n + 1 ≡ suc n = omega arith in z) ∙ filter-append p (below n) (n ∷ [])

-- What the loop keeps.
pub record Gathered (k : kernel.Kernel) (core : ℕ) (cores : List CoreImage) : Type 0 where
  pub numbers : map number_of cores ≡ filter (has_root k) (below core)
  pub parts : All (λ (part : CoreImage). IsPartOf k part.number part) cores

append_none : (xs : List ℕ) → xs ++ [] ≡ xs
append_none [] = refl
append_none (x ∷ xs) = ap (λ l. x ∷ l) (append_none xs)

pub gathers : (k : kernel.Kernel) (core : ℕ) (cores new : List CoreImage) (part : CoreImage) → Gathered k core cores → has_root k core ≡ true → IsPartOf k core part → new ≡ cores ++ part ∷ [] → Gathered k (core + 1) new
gathers k core cores new part h rooted is e =
    let numbers = map_push cores part ∙ ap (λ n. map number_of cores ++ n ∷ []) is.number ∙ ap (λ l. l ++ core ∷ []) h.numbers
    ∙ ap (λ b. filter (has_root k) (below core) ++ cond b (core ∷ []) []) (sym rooted) ∙ sym (one_more (has_root k) core) in
    let own : IsPartOf k part.number part = subst (λ c. IsPartOf k c part) (sym is.number) is in
    let all = All-push (λ (p : CoreImage). IsPartOf k p.number p) cores part h.parts own in
    subst (Gathered k (core + 1)) (sym e) (record { numbers = numbers; parts = all })

pub skips : (k : kernel.Kernel) (core : ℕ) (cores : List CoreImage) → Gathered k core cores → has_root k core ≡ false → Gathered k (core + 1) cores
skips k core cores h rootless = record {
  numbers = h.numbers ∙ sym (append_none (filter (has_root k) (below core))) ∙ ap (λ b. filter (has_root k) (below core) ++ cond b (core ∷ []) []) (sym rootless) ∙ sym (one_more (has_root k) core);
  parts = h.parts;
}
