-- Where no two instances have one path, a list that has each path once has all of them.
use Rattle.std.proofs.Common.{◌≡◌, Bool, true, false, ◌||◌, List, [], ◌∷◌, ◌++◌, refl, sym, ap, ◌∙◌, true≢false, append_assoc}
use Rattle.std.specs.Cmp.Lexicographic.{bytes_decides}
use Rattle.xc_kernel.specs.Paths.{Path, is_same, has_path, with_by, with_all, each_once}
use Rattle.xc_kernel.specs.Numbering.{Numbering, path_of_variable, path_of_channel, path_of_timer, path_of_block}
use Rattle.xc_kernel.specs.Copies.{rooted, numbering}
use Rattle.xc_kernel.proofs.Roots.{numbering_is_own}
use Rattle.xc_wellformed.specs.Once.{NoneAt, PathsDiffer}
use Rattle.xc_wellformed.specs.Laws.{NoInstanceTwice, NoInstanceMerged}
use Rattle.xc_wellformed.proofs.Rising.{functions_differ, of_text}
use Rattle.xc_wellformed.proofs.Twice.{program_differs}

module _ {V : Type 0} (path_of : V → Path) where
  -- none of the known ones has the path of one of the others
  abbrev Strange : List V → List V → Type 0
  Strange known [] = Unit {0}
  Strange known (x ∷ xs) = (has_path path_of known (path_of x) ≡ false) × Strange known xs

  or_false : (a b : Bool) → a ≡ false → b ≡ false → (a || b) ≡ false
  or_false true b e f = e
  or_false false b e f = f

  not_same : (p q : Path) → (q ≡ p → ⊥) → is_same p q ≡ false
  not_same p q h = by (is_same p q) refl
    where
      by : (b : Bool) → is_same p q ≡ b → b ≡ false
      by true e = absurd (h (sym ((bytes_decides p q).0 e)))
      by false e = refl

  one_more : (known : List V) (x : V) (path : Path) → has_path path_of known path ≡ false → is_same (path_of x) path ≡ false → has_path path_of (known ++ x ∷ []) path ≡ false
  one_more [] x path h e = or_false (is_same (path_of x) path) false e refl
  one_more (y ∷ known) x path h e = or_false (is_same (path_of y) path) _ (left (is_same (path_of y) path) _ h) (one_more known x path (right (is_same (path_of y) path) _ h) e)
    where
      left : (a b : Bool) → (a || b) ≡ false → a ≡ false
      left true b q = q
      left false b q = refl

      right : (a b : Bool) → (a || b) ≡ false → b ≡ false
      right true b q = absurd (true≢false q)
      right false b q = q

  still : (known xs : List V) (x : V) → Strange known xs → NoneAt path_of (path_of x) xs → Strange (known ++ x ∷ []) xs
  still known [] x h d = tt
  still known (y ∷ xs) x h d = (one_more known x (path_of y) h.0 (not_same (path_of x) (path_of y) d.0), still known xs x h.1 d.1)

  all_kept : (known xs : List V) → Strange known xs → PathsDiffer path_of xs → with_all path_of known xs ≡ known ++ xs
  all_kept known [] h d = sym (no_more known)
    where
      no_more : (zs : List V) → zs ++ [] ≡ zs
      no_more [] = refl
      no_more (z ∷ zs) = ap (λ (l : List V). z ∷ l) (no_more zs)
  all_kept known (x ∷ xs) h d =
      ap (λ (b : Bool). with_all path_of (with_by known x b) xs) h.0
      ∙ (all_kept (known ++ x ∷ []) xs (still known xs x h.1 d.0) d.1 ∙ append_assoc known (x ∷ []) xs)

  nothing_known : (xs : List V) → Strange [] xs
  nothing_known [] = tt
  nothing_known (x ∷ xs) = (refl, nothing_known xs)

  pub each_is : (xs : List V) → PathsDiffer path_of xs → each_once path_of xs ≡ xs
  each_is xs d = all_kept [] xs (nothing_known xs) d

pub none_twice : NoInstanceTwice
none_twice P n text = program_differs P n (functions_differ P (of_text P text))

pub none_merged : NoInstanceMerged
none_merged P text =
    let own = numbering_is_own P (numbering P) in
    let d = none_twice P (numbering P) text in
    let made = (rooted P (numbering P)).made in
    record {
      variables = ap (λ (m : Numbering). m.variables) (sym own) ∙ each_is path_of_variable made.variables d.variables;
      channels = ap (λ (m : Numbering). m.channels) (sym own) ∙ each_is path_of_channel made.channels d.channels;
      timers = ap (λ (m : Numbering). m.timers) (sym own) ∙ each_is path_of_timer made.timers d.timers;
      blocks = ap (λ (m : Numbering). m.blocks) (sym own) ∙ each_is path_of_block made.blocks d.blocks;
    }
