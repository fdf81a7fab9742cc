-- A name has one stimulus, or one line that breaks a rule first.
use Rattle.std.proofs.Common.{◌≡◌, ℕ, List, Option, Some, None, ap, sym, ◌∙◌, refl, subst}
use Rattle.xw_io.specs.Outside.{IsFileOf, found}
use Rattle.xw_io.specs.declared.file.File.{File}
use Rattle.xs_instr.specs.declared.image.Stim.{Stim}
use Rattle.xs_instr.specs.declared.image.StimLine.{StimLine}
use Rattle.xr_stim.specs.Stimulus.{IsFirstBroken, Means}
use Rattle.xr_driver.specs.Runs.{IsStimOf, named, unnamed}

module _ (files : List File) where
  -- a name has one text
  pub one_text : (name text other : List ℕ) → IsFileOf (Some files) name text → IsFileOf (Some files) name other → text ≡ other
  one_text name text other h k = same (found files name) text other h.told k.told
    where
      same : {A : Type 0} (o : Option A) (x y : A) → o ≡ Some x → o ≡ Some y → x ≡ y
      same o x y p q = cc

  one_meaning : (text : List ℕ) (s t : Stim) → Means text s → Means text t → s ≡ t
  one_meaning text s t h k =
      let lines : s.lines ≡ t.lines = h.says ∙ sym k.says in
      ap (λ (ls : List StimLine). record { lines = ls }) lines

  pub one_stim : (name : Option (List ℕ)) (s t : Stim) → IsStimOf (Some files) name s → IsStimOf (Some files) name t → s ≡ t
  one_stim name s t unnamed unnamed = refl
  one_stim name s t (named n text u h means) (named m other v k means') =
      one_meaning other u v (subst (λ x. Means x u) (one_text n text other h k) means) means'

  -- a stimulus that is named has a text, which means it
  pub text_of_stim : (o : Option (List ℕ)) (name : List ℕ) (s : Stim) → o ≡ Some name → IsStimOf (Some files) o s →
      (text : List ℕ) × IsFileOf (Some files) name text × Means text s
  text_of_stim o name s e unnamed = absurd (cc)
  text_of_stim o name s e (named n text u h means) =
      let same : n ≡ name = cc in
      (text, subst (λ k. IsFileOf (Some files) k text) same h, means)

-- no text means a stimulus and has a line that breaks a rule
pub not_both : (text : List ℕ) (s : Stim) (n r : ℕ) → Means text s → IsFirstBroken text n r → ⊥
not_both text s n r means first = none_some (means.unbroken first.before first.there) first.broken
  where
    none_some : {A : Type 0} {o : Option A} {x : A} → o ≡ None → o ≡ Some x → ⊥
    none_some p q = absurd (cc)
