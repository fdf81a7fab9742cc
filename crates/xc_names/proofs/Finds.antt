-- Looking a declaration up along those that its name meant before.
use Rattle.std.proofs.Common.{◌≡◌, ℕ, suc, ◌+◌, ◌-◌, ◌<◌, ◌≤◌, List, [], ◌∷◌, ◌++◌, length, get_or, slice_get, Option, None, Some, refl, sym, subst, ◌∙◌, arith}
use Rattle.std.proofs.lemmas.Option.{slice_get-get_or, slice_get_within, get_or_from_slice_get}
use Rattle.xw_words.proofs.Lists.{push_before, some_same}
use Rattle.xc_names.specs.Reads.{EndsBehind, behind, Finds, nothing, open_still, ended, IsFound}

-- what is found from the next one is found from the first, and there is such
pub record Leads (ends : List ℕ) (outer : List (Option ℕ)) (u : ℕ) (from next : Option ℕ) : Type 0 where
  pub found : IsFound ends outer u next
  pub along : (r : Option ℕ) → Finds ends outer u next r → Finds ends outer u from r

pub begin : (ends : List ℕ) (outer : List (Option ℕ)) (u : ℕ) (from : Option ℕ) → IsFound ends outer u from → Leads ends outer u from from
begin ends outer u from f = record { found = f; along = λ r h. h }

-- how much of the text is left to a declaration's end
abbrev pub left : List ℕ → ℕ → Option ℕ → ℕ
left ends u None = 0
left ends u (Some d) = suc (u + 1 - get_or ends d 0)

-- what the next look at a declaration meets
pub record Looks (ends : List ℕ) (outer : List (Option ℕ)) (u : ℕ) (from : Option ℕ) (d : ℕ) : Type 0 where
  pub in_ends : d < length ends
  pub still : u < get_or ends d 0 → Finds ends outer u from (Some d)
  pub in_outer : get_or ends d 0 ≤ u → d < length outer
  pub onward : (o : Option ℕ) → get_or ends d 0 ≤ u → slice_get outer d ≡ Some o → Leads ends outer u from o × (left ends u o < left ends u (Some d))

later : (ends : List ℕ) (e u : ℕ) (o : Option ℕ) → EndsBehind ends e o → e ≤ u → left ends u o < suc (u + 1 - e)
later ends e u None b h = omega arith
later ends e u (Some d) (behind {f = f} there less) h = let g = get_or_from_slice_get ends d f 0 there in omega arith

pub look : (ends : List ℕ) (outer : List (Option ℕ)) (u : ℕ) (from : Option ℕ) (d : ℕ) → Leads ends outer u from (Some d) → Looks ends outer u from d
look ends outer u from d l = by l.found.found l.found.finds
  where
    by : (r : Option ℕ) → Finds ends outer u (Some d) r → Looks ends outer u from d
    by r (open_still {e = e} there less) =
        let g = get_or_from_slice_get ends d e 0 there in
        record {
          in_ends = slice_get_within ends d e there;
          still = λ h. l.along (Some d) (open_still there less);
          in_outer = λ h. absurd (omega arith);
          onward = λ o h x. absurd (omega arith);
        }
    by r (ended {e = e} {o = p} there less next b rest) =
        let g = get_or_from_slice_get ends d e 0 there in
        record {
          in_ends = slice_get_within ends d e there;
          still = λ h. absurd (omega arith);
          in_outer = λ h. slice_get_within outer d p next;
          onward = λ o h x.
              let same : p ≡ o = some_same p o (sym next ∙ x) in
              let shorter : left ends u p < suc (u + 1 - e) = later ends e u p b less in (
                record {
                  found = record { found = r; finds = subst (λ (q : Option ℕ). Finds ends outer u q r) same rest };
                  along = λ s f. l.along s (ended there less x (subst (λ (q : Option ℕ). EndsBehind ends e q) same b) f);
                },
                subst (λ (q : Option ℕ). left ends u q < left ends u (Some d)) same (subst (λ (m : ℕ). left ends u p < suc (u + 1 - m)) (sym g) shorter),
              );
        }

-- at most one is found
pub one_found : (ends : List ℕ) (outer : List (Option ℕ)) (u : ℕ) (o r s : Option ℕ) → Finds ends outer u o r → Finds ends outer u o s → r ≡ s
one_found ends outer u o r s nothing nothing = refl
one_found ends outer u o r s (open_still {d = d} a b) (open_still c e) = refl
one_found ends outer u o r s (open_still {e = x} a b) (ended {e = y} c e f g h) = let q : x ≡ y = some_same x y (sym a ∙ c) in absurd (omega arith)
one_found ends outer u o r s (ended {e = x} c e f g h) (open_still {e = y} a b) = let q : x ≡ y = some_same x y (sym c ∙ a) in absurd (omega arith)
one_found ends outer u o r s (ended {o = p} a b c d f) (ended {o = q} a' b' c' d' f') =
    let same : p ≡ q = some_same p q (sym c ∙ c') in
    one_found ends outer u q r s (subst (λ (x : Option ℕ). Finds ends outer u x r) same f) f'

-- what is found is still found when one more is kept
pub found_pushed : (ends : List ℕ) (outer : List (Option ℕ)) (x : Option ℕ) (u : ℕ) (o r : Option ℕ) → Finds ends outer u o r → Finds ends (outer ++ x ∷ []) u o r
found_pushed ends outer x u o r nothing = nothing
found_pushed ends outer x u o r (open_still a b) = open_still a b
found_pushed ends outer x u o r (ended {d = d} {o = p} a b c e f) = ended a b (push_before outer x d (slice_get_within outer d p c) ∙ c) e (found_pushed ends outer x u p r f)

-- later the same is found from what was found
pub found_on : (ends : List ℕ) (outer : List (Option ℕ)) (i u : ℕ) (o r s : Option ℕ) → i ≤ u → Finds ends outer i o r → Finds ends outer u o s → Finds ends outer u r s
found_on ends outer i u o r s h nothing f = f
found_on ends outer i u o r s h (open_still a b) f = f
found_on ends outer i u o r s h (ended {e = x} a b c d g) (open_still {e = y} a' less) = let q : x ≡ y = some_same x y (sym a ∙ a') in absurd (omega arith)
found_on ends outer i u o r s h (ended {o = p} a b c d g) (ended {o = q} a' b' c' d' f) =
    let same : p ≡ q = some_same p q (sym c ∙ c') in
    found_on ends outer i u p r s h g (subst (λ (x : Option ℕ). Finds ends outer u x s) (sym same) f)

-- one look further out
pub go_out : (ends : List ℕ) (outer : List (Option ℕ)) (u : ℕ) (from next : Option ℕ) (d : ℕ) → Leads ends outer u from next → next ≡ Some d → get_or ends d 0 ≤ u → Leads ends outer u from (get_or outer d None) × (left ends u (get_or outer d None) < left ends u next)
go_out ends outer u from next d l e h =
    let k : Looks ends outer u from d = look ends outer u from d (subst (Leads ends outer u from) e l) in
    let step = k.onward (get_or outer d None) h (slice_get-get_or outer d None (k.in_outer h)) in
    (step.0, subst (λ (o : Option ℕ). left ends u (get_or outer d None) < left ends u o) (sym e) step.1)

pub looks_at : (ends : List ℕ) (outer : List (Option ℕ)) (u : ℕ) (from next : Option ℕ) (d : ℕ) → Leads ends outer u from next → next ≡ Some d → Looks ends outer u from d
looks_at ends outer u from next d l e = look ends outer u from d (subst (Leads ends outer u from) e l)

pub none_left : (ends : List ℕ) (outer : List (Option ℕ)) (u : ℕ) (from next : Option ℕ) → Leads ends outer u from next → next ≡ None → Finds ends outer u from None
none_left ends outer u from next l e = l.along None (subst (λ (o : Option ℕ). Finds ends outer u o None) (sym e) nothing)
