-- The watches of a list, cleared up to a place.
use Rattle.std.proofs.Common.{◌≡◌, ℕ, zero, suc, List, [], ◌∷◌, Some, None, length, slice_get, slice_set, ap, refl, sym, ◌∙◌, ◌+◌, add-one}
use Rattle.xs_instr.specs.declared.state.Watch.{Watch}
use Rattle.xs_instr.specs.Events.{cleared_by, cleared_in}
use Rattle.xs_instr.specs.Resources.{is_num}

-- those below place n are cleared of thread t
abbrev pub cleared_to : List Watch → ℕ → ℕ → List Watch
cleared_to ws t zero = ws
cleared_to [] t (suc n) = []
cleared_to (w ∷ ws) t (suc n) = cleared_by w (is_num w.owner t) ∷ cleared_to ws t n

-- one more is cleared
pub cleared_to-suc : (ws : List Watch) (t n : ℕ) (w : Watch) → slice_get (cleared_to ws t n) n ≡ Some w
    → slice_set (cleared_to ws t n) n (cleared_by w (is_num w.owner t)) ≡ cleared_to ws t (suc n)
cleared_to-suc [] t zero w there = cc
cleared_to-suc [] t (suc n) w there = cc
cleared_to-suc (v ∷ ws) t zero w there =
    let e : w ≡ v = cc in ap (λ x. cleared_by x (is_num x.owner t) ∷ ws) e
cleared_to-suc (v ∷ ws) t (suc n) w there = ap (λ rest. cleared_by v (is_num v.owner t) ∷ rest) (cleared_to-suc ws t n w there)

-- past the end there is none
pub cleared_to-past : (ws : List Watch) (t n : ℕ) → slice_get (cleared_to ws t n) n ≡ None → cleared_to ws t n ≡ cleared_to ws t (suc n)
cleared_to-past [] t zero none = refl
cleared_to-past [] t (suc n) none = refl
cleared_to-past (v ∷ ws) t zero none = cc
cleared_to-past (v ∷ ws) t (suc n) none = ap (λ rest. cleared_by v (is_num v.owner t) ∷ rest) (cleared_to-past ws t n none)

-- up to the end all are cleared
pub cleared_to-length : (ws : List Watch) (t : ℕ) → cleared_to ws t (length ws) ≡ cleared_in ws t
cleared_to-length [] t = refl
cleared_to-length (w ∷ ws) t = ap (λ rest. cleared_by w (is_num w.owner t) ∷ rest) (cleared_to-length ws t)

-- there are as many
pub length-cleared_to : (ws : List Watch) (t n : ℕ) → length (cleared_to ws t n) ≡ length ws
length-cleared_to ws t zero = refl
length-cleared_to [] t (suc n) = refl
length-cleared_to (w ∷ ws) t (suc n) = ap suc (length-cleared_to ws t n)

-- the watch at a place is cleared where it stands
pub cleared_to-set : (old now next : List Watch) (t n : ℕ) (w v : Watch) → now ≡ cleared_to old t n → slice_get now n ≡ Some w
    → v ≡ cleared_by w (is_num w.owner t) → next ≡ slice_set now n v → next ≡ cleared_to old t (n + 1)
cleared_to-set old now next t n w v so_far there put set =
    set ∙ ap (slice_set now n) put ∙ ap (λ xs. slice_set xs n (cleared_by w (is_num w.owner t))) so_far
    ∙ cleared_to-suc old t n w (ap (λ xs. slice_get xs n) (sym so_far) ∙ there) ∙ ap (cleared_to old t) (sym (add-one n))

-- no watch is at a place
pub cleared_to-none : (old now next : List Watch) (t n : ℕ) → now ≡ cleared_to old t n → slice_get now n ≡ None → next ≡ now
    → next ≡ cleared_to old t (n + 1)
cleared_to-none old now next t n so_far none same =
    same ∙ so_far ∙ cleared_to-past old t n (ap (λ xs. slice_get xs n) (sym so_far) ∙ none) ∙ ap (cleared_to old t) (sym (add-one n))
