-- The lines of an image's channels are those of the kernel's channels with two sides.
use Rattle.std.proofs.Common.{◌≡◌, ⊎_elim, ℕ, zero, suc, ◌<◌, ◌≤◌, Bool, true, false, List, [], ◌∷◌, ◌++◌, map, length, option_map, Some, slice_get, refl, sym, ap, subst, ◌∙◌, arith}
use Rattle.std.specs.Prelude.{◌||◌}
use Rattle.std.proofs.lemmas.Bool.{cases_lt}
use Rattle.std.proofs.lemmas.Option.{slice_get-map}
use Rattle.xs_instr.specs.declared.image.CoreImage.{CoreImage}
use Rattle.xs_instr.specs.declared.image.Pair.{Pair}
use Rattle.xs_instr.specs.Machine.{parts_in}
use Rattle.xs_instr.specs.Valid.{AreGoodPairs, Valid}
use Rattle.xc_kernel.specs.Plain as kernel
use Rattle.xc_kernel.specs.Branches.{branches_of, has_two_sides}
use Rattle.xc_kernel.specs.Things.{channel, by_branches, by_statements}
use Rattle.xc_disjoint.specs.Checked.{IsChecked}
use Rattle.xc_disjoint.specs.Rules.{apart}
use Rattle.xc_meaning.specs.States.Channels.{Side, first, second}
use Rattle.xc_meaning.proofs.Basics.{none_given, some_given}
use Rattle.xl_image.specs.Images.{IsImage, is_used, one_root_uses, pair_of, pair_where, pairs_below}
use Rattle.xl_plan.specs.Layout.{is_used_on}
use Rattle.xl_plan.proofs.TwoSides.{two_sides}
use Rattle.xr_match.specs.Sides.{two_sided, two_sided_among, where_so}
use Rattle.xr_simulation.specs.Images.{AreLines}
use Rattle.xr_simulation.specs.Runners.{Setting}
use Rattle.xr_simulation.specs.Wired.{IsLine}
use Rattle.xr_simulation.proofs.Image.Sides.{known}
use Rattle.xr_channels.specs.Channels.{end_of_side}
use Rattle.xr_channels.proofs.All.Wired.{valid_wired}

-- which root uses a channel

uses_root : (c : ℕ) (rs : List kernel.Root) → one_root_uses c rs ≡ by_branches (channel c) (branches_of rs)
uses_root c [] = refl
uses_root c (r ∷ rs) = ap (λ b. by_statements (channel c) r.body || b) (uses_root c rs)

-- the channels with two sides, and the image's lines

listed_at : (K : kernel.Kernel) (n c : ℕ) → c < n → has_two_sides K c ≡ true → (line : ℕ) × (slice_get (two_sided_among K n) line ≡ Some c)
listed_at K zero c lt two = absurd (omega (arith, lt))
listed_at K (suc n) c lt two =
    ⊎_elim
    (λ (less : c < n). let k = listed_at K n c less two in (k.0, before_more (two_sided_among K n) (where_so (has_two_sides K n) n) k.0 c k.1))
    (λ (le : n ≤ c).
    let same : c ≡ n = omega (arith, lt, le) in
    let here = ap (λ b. where_so b n) (ap (has_two_sides K) (sym same) ∙ two) in (
      length (two_sided_among K n),
      ap (λ l. slice_get (two_sided_among K n ++ l) (length (two_sided_among K n))) here ∙ at_length (two_sided_among K n) n ∙ ap Some (sym same),
    ))
    (cases_lt c n)
  where
    before_more : (xs more : List ℕ) (i x : ℕ) → slice_get xs i ≡ Some x → slice_get (xs ++ more) i ≡ Some x
    before_more [] more i x e = absurd (none_given e)
    before_more (y ∷ ys) more zero x e = e
    before_more (y ∷ ys) more (suc i) x e = before_more ys more i x e

    at_length : (xs : List ℕ) (x : ℕ) → slice_get (xs ++ x ∷ []) (length xs) ≡ Some x
    at_length [] x = refl
    at_length (y ∷ ys) x = at_length ys x

map_append : (K : kernel.Kernel) (xs ys : List ℕ) → map (pair_of K) (xs ++ ys) ≡ map (pair_of K) xs ++ map (pair_of K) ys
map_append K [] ys = refl
map_append K (x ∷ xs) ys = ap (λ l. pair_of K x ∷ l) (map_append K xs ys)

pairs_are : (K : kernel.Kernel) (n : ℕ) → ((c : ℕ) → c < n → has_two_sides K c ≡ is_used K c) → pairs_below K n ≡ map (pair_of K) (two_sided_among K n)
pairs_are K zero same = refl
pairs_are K (suc n) same =
    ap (λ l. l ++ pair_where (is_used K n) (pair_of K n)) (pairs_are K n (λ c lt. same c (omega (arith, lt))))
    ∙ ap (λ l. map (pair_of K) (two_sided_among K n) ++ l) (ap (λ b. pair_where b (pair_of K n)) (sym (same n (omega arith))) ∙ as_one (has_two_sides K n))
    ∙ sym (map_append K (two_sided_among K n) (where_so (has_two_sides K n) n))
  where
    as_one : (b : Bool) → pair_where b (pair_of K n) ≡ map (pair_of K) (where_so b n)
    as_one true = refl
    as_one false = refl

-- what stands in a list of pairs comes of a channel
of_channel : (K : kernel.Kernel) (cs : List ℕ) (line : ℕ) (p : Pair) → slice_get (map (pair_of K) cs) line ≡ Some p → (c : ℕ) × (slice_get cs line ≡ Some c)
of_channel K [] line p e = absurd (none_given e)
of_channel K (c ∷ cs) zero p e = (c, refl)
of_channel K (c ∷ cs) (suc line) p e = of_channel K cs line p e

-- the ends of a pair are there
pair_there : (ks : List CoreImage) (pairs : List Pair) (line : ℕ) (p : Pair) → AreGoodPairs ks pairs → slice_get pairs line ≡ Some p → (side : Side) → (end_of_side p side).end < (parts_in ks (end_of_side p side).core).ends
pair_there ks [] line p h e side = absurd (none_given e)
pair_there ks (q ∷ qs) zero p h e first = subst (λ (x : Pair). x.end < (parts_in ks x.core).ends) (some_given e) h.0
pair_there ks (q ∷ qs) zero p h e second = subst (λ (x : Pair). x.peer_end < (parts_in ks x.peer_core).ends) (some_given e) h.1
pair_there ks (q ∷ qs) (suc line) p h e side = pair_there ks qs line p h.2 e side

module _ (g : Setting) (checked : IsChecked g.program) (is : IsImage g.program g.image) (valid : Valid g.image) where
  -- a channel has two sides where it is used
  two_is_used : (c : ℕ) → c < length g.program.channels → has_two_sides g.program c ≡ is_used g.program c
  two_is_used c lt = two_sides g.program (λ b h. checked.unbroken b (apart h)) c lt ∙ sym (uses_root c g.program.roots)

  chans_are : g.image.chans ≡ map (pair_of g.program) (two_sided g.program)
  chans_are = is.channels ∙ pairs_are g.program (length g.program.channels) two_is_used

  used_at : (core c : ℕ) → c < length g.program.channels → is_used_on g.program core c ≡ true → (line : ℕ) × IsLine g.program line c
  used_at core c lt used = listed_at g.program (length g.program.channels) c lt (two_is_used c lt ∙ (known g.program core c used).some)

  pub lines_are : AreLines g
  lines_are = record {
    valid = valid;
    wired = valid_wired g.image valid;
    line = λ line c e. ap (λ l. slice_get l line) chans_are ∙ slice_get-map (pair_of g.program) (two_sided g.program) line ∙ ap (option_map (pair_of g.program)) e;
    channel = λ line p e. of_channel g.program (two_sided g.program) line p (ap (λ l. slice_get l line) (sym chans_are) ∙ e);
    used = used_at;
    ends = λ line p side e. pair_there g.image.cores g.image.chans line p valid.pairs e side;
  }
