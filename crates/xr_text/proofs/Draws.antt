-- Texts that are drawn one after another.
use Rattle.std.proofs.Common.{◌≡◌, ℕ, zero, suc, ◌+◌, ◌<◌, List, [], ◌∷◌, ◌++◌, length, take, get_or, refl, sym, ◌∙◌, ap, arith, min, length-take}
use Rattle.std.proofs.lemmas.List.{take_more, append_assoc}
use Rattle.std.specs.Prelude.{Option}
use Rattle.xs_instr.specs.declared.image.CoreImage.{CoreImage}
use Rattle.xs_instr.specs.declared.instr.Instr.{Instr}
use Rattle.xs_instr.specs.Texts.{all_texts, code_line, code_lines}
use Rattle.xs_instr.specs.Valid.{AreGoodCores, IsGoodCore}
use Rattle.xw_io.proofs.Sinks.{drew-then, append_nothing}
use Rattle.xw_io.specs.declared.output.Out.{Out}
use Rattle.xw_io.specs.Gathering.{Drew}
use Rattle.xw_words.specs.declared.pos.Pos.{Pos}

-- one text and then another
infixl 5 ◌▸◌
pub ◌▸◌ : {O : Type 0} {bytes : O → Option (List ℕ)} {faults : O → ℕ} {a b c : Out O} {x y : List ℕ} →
    Drew bytes faults a b x → Drew bytes faults b c y → Drew bytes faults a c (x ++ y)
p ▸ q = drew-then _ _ _ _ _ _ _ p q

all_texts-last : {A : Type 0} → (text : A → List ℕ) (xs : List A) (x : A) → all_texts text (xs ++ x ∷ []) ≡ all_texts text xs ++ text x
all_texts-last text [] x = append_nothing (text x)
all_texts-last text (y ∷ ys) x = rw (all_texts-last text ys x, append_assoc (text y) (all_texts text ys) (text x)) refl

-- the texts of the items before i, and of item i
pub all_texts-more : {A : Type 0} → (text : A → List ℕ) (xs : List A) (i : ℕ) (d : A) → i < length xs →
    all_texts text (take (i + 1) xs) ≡ all_texts text (take i xs) ++ text (get_or xs i d)
all_texts-more text xs i d h = rw (take_more xs i d h) (all_texts-last text (take i xs) (get_or xs i d))

code_lines-last : (xs : List Instr) (ps : List Pos) (k : ℕ) (x : Instr) (p : Pos) → length ps ≡ length xs →
    code_lines k (xs ++ x ∷ []) (ps ++ p ∷ []) ≡ code_lines k xs ps ++ code_line (k + length xs) x p
code_lines-last [] [] k x p e = ap (λ n. code_line n x p ++ []) k_is ∙ append_nothing (code_line (k + 0) x p)
  where
    k_is : k ≡ k + 0
    k_is = omega arith
code_lines-last [] (q ∷ ps) k x p e = absurd (omega arith)
code_lines-last (y ∷ xs) [] k x p e = absurd (omega arith)
code_lines-last (y ∷ xs) (q ∷ ps) k x p e =
    ap (λ t. code_line k y q ++ t) (code_lines-last xs ps (suc k) x p (omega arith))
    ∙ ap (λ n. code_line k y q ++ (code_lines (suc k) xs ps ++ code_line n x p)) n_is
    ∙ sym (append_assoc (code_line k y q) (code_lines (suc k) xs ps) (code_line (k + suc (length xs)) x p))
  where
    n_is : suc k + length xs ≡ k + suc (length xs)
    n_is = omega arith

min_is : (i n : ℕ) → i < n → min i n ≡ i
min_is i n h = omega arith

-- the lines of the instructions before i, and of instruction i
pub code_lines-more : (xs : List Instr) (ps : List Pos) (i : ℕ) (x : Instr) (p : Pos) → length ps ≡ length xs → i < length xs →
    code_lines 0 (take (i + 1) xs) (take (i + 1) ps) ≡ code_lines 0 (take i xs) (take i ps) ++ code_line i (get_or xs i x) (get_or ps i p)
code_lines-more xs ps i x p e h =
    rw (take_more xs i x h, take_more ps i p h', code_lines-last (take i xs) (take i ps) 0 (get_or xs i x) (get_or ps i p) same, length-take i xs, min_is i (length xs) h)
    (ap (λ n. code_lines 0 (take i xs) (take i ps) ++ code_line n (get_or xs i x) (get_or ps i p)) i_is)
  where
    h' : i < length ps
    h' = omega arith

    same : length (take i ps) ≡ length (take i xs)
    same = rw (length-take i ps, length-take i xs, e) refl

    i_is : 0 + i ≡ i
    i_is = omega arith

-- each of the good cores is good
pub good_core-at : (n : ℕ) (cs : List CoreImage) (i : ℕ) (d : CoreImage) → AreGoodCores n cs → i < length cs → IsGoodCore (get_or cs i d)
good_core-at n [] i d good h = absurd (omega arith)
good_core-at n (c ∷ cs) zero d good h = good.2
good_core-at n (c ∷ cs) (suc i) d good h = good_core-at (c.number + 1) cs i d good.3 (omega arith)
