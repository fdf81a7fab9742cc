-- How what was found grows by the places of branches and ports.
use Rattle.std.proofs.Common.{◌≡◌, ℕ, ◌+◌, ◌-◌, ◌<◌, ◌≤◌, suc, true, not, ◌&&◌, slice_get, List, [], ◌∷◌, ◌++◌, length, refl, sym, ap, ◌∙◌, arith}
use Rattle.xw_words.specs.declared.pos.Pos.{Pos}
use Rattle.xc_tree.specs.declared.tree.Id.{Id}
use Rattle.xc_tree.specs.declared.names.Mark.{Mark}
use Rattle.xc_tree.specs.declared.names.Mark.TheVariants.{Uses}
use Rattle.xc_tree.specs.Names.Marks as marks
use Rattle.xc_tree.specs.Plain as plain
use Rattle.xc_tree.specs.Shapes.Enclosing.{Enclosing, directly_in_main}
use Rattle.xc_tree.specs.Shapes.Places.{is_made_of_these, are_indices, has_form_of_place}
use Rattle.xc_tree.specs.Types.Entities.{is_index}
use Rattle.xc_tree.specs.Types.Named.{NamedProgram, Name, names_used, past, what_at}
use Rattle.xc_tree.specs.Types.Sites.{Site}
use Rattle.xc_tree.specs.Types.Sites as site
use Rattle.xc_types.specs.Places.{all_indices}
use Rattle.xc_types.specs.declared.checker.Checker.{Checker}
use Rattle.xc_types.specs.Checker.{saw, all_broken, with_broken}
use Rattle.xc_types.proofs.Holders.{arounds}
use Rattle.xc_types.proofs.Joins.{one, saw_names}
use Rattle.xc_types.proofs.Shaping.{late}
use Rattle.xc_types.proofs.Steps.{steps, first_here}

-- marks of names that are used, and no others
data OnlyUses : List Mark → Type 0 where
  none_used : OnlyUses []
  one_used : {i : Id} {ms : List Mark} → OnlyUses ms → OnlyUses (Uses i ∷ ms)

both_used : (a b : List Mark) → OnlyUses a → OnlyUses b → OnlyUses (a ++ b)
both_used _ b none_used k = k
both_used _ b (one_used h) k = one_used (both_used _ b h k)

mutual
  expression_uses : (e : plain.Expression) → OnlyUses (marks.of_expression e)
  expression_uses (plain.expression f p) = form_uses p f

  form_uses : (p : Pos) (f : plain.Form) → OnlyUses (marks.of_form p f)
  form_uses p (plain.number v u) = none_used
  form_uses p (plain.name t) = one_used none_used
  form_uses p (plain.index t e) = one_used (expression_uses e)
  form_uses p (plain.unary o e) = expression_uses e
  form_uses p (plain.binary o a b) = both_used _ _ (expression_uses a) (expression_uses b)
  form_uses p (plain.choice c a b) = both_used _ _ (expression_uses c) (both_used _ _ (expression_uses a) (expression_uses b))
  form_uses p (plain.cast u e) = expression_uses e

past_uses : (k : ℕ) (ms : List Mark) → OnlyUses ms → past k ms ≡ k + length ms
past_uses k _ none_used = omega arith
past_uses k _ (one_used {ms = ms} h) = let e = past_uses (k + 1) ms h in omega arith

indices_used : (n : NamedProgram) (k : ℕ) (ms : List Mark) → OnlyUses ms → are_indices (names_used n k ms) ≡ all_indices n k (length ms)
indices_used n k _ none_used = refl
indices_used n k _ (one_used {ms = ms} h) = ap (λ t. is_index (what_at n (slice_get n.uses k)) && t) (indices_used n (k + 1) ms h)

pub saw_placed : (s : Checker) (around : Enclosing) (p : plain.Place) (ms : List Mark) (ss : List Site) → saw s ms (site.placed around p ∷ ss) ≡ saw (with_broken (not (directly_in_main around)) 503 p.on s) ms ss
unfolding saw with_broken
saw_placed s around p ms ss = one s _ _ _ _ _ _ _ _ refl refl (first_here s.best (not (directly_in_main around)) 503 p.on [] (all_broken ss)) refl

saw_place : (s : Checker) (p : plain.Place) (xs : List Name) (ms : List Mark) (ss : List Site) → saw s ms (site.place p xs ∷ ss) ≡ with_broken (not (has_form_of_place p.value xs)) 508 p.first (saw s ms ss)
unfolding saw with_broken
saw_place s p xs ms ss =
    one s _ _ _ _ _ _ _ _ refl refl (first_here s.best (not (has_form_of_place p.value xs)) 508 p.first [] (all_broken ss) ∙ late s.best (not (has_form_of_place p.value xs)) 508 p.first (all_broken ss)) refl

-- behind a place, by what is found behind its expression
pub whole_place : (n : NamedProgram) (s : Checker) (p : plain.Place) (t : Checker) → t ≡ saw s (marks.of_expression p.value) (site.of_expression n s.names p.value)
    → with_broken (not (is_made_of_these p.value && all_indices n s.names (t.names - s.names))) 508 p.first t ≡ saw s (marks.of_place p) (site.of_place n s.names p)
whole_place n s p t e =
    ap (λ b. with_broken (not (is_made_of_these p.value && b)) 508 p.first t) same ∙ ap (with_broken (not (has_form_of_place p.value used)) 508 p.first) e ∙ sym (saw_place s p used ms (site.of_expression n s.names p.value))
  where
    ms : List Mark
    ms = marks.of_expression p.value

    used : List Name
    used = names_used n s.names ms

    number : t.names - s.names ≡ length ms
    number = let a : t.names ≡ past s.names ms = ap (λ (z : Checker). z.names) e ∙ saw_names s ms (site.of_expression n s.names p.value) in let b = past_uses s.names ms (expression_uses p.value) in omega arith

    same : all_indices n s.names (t.names - s.names) ≡ are_indices used
    same = ap (all_indices n s.names) number ∙ sym (indices_used n s.names ms (expression_uses p.value))

pub ruleset placings = (steps, arounds, saw_placed, whole_place)

pub next_index : (n : NamedProgram) (k last : ℕ) → k < last → all_indices n k (last - k) ≡ (is_index (what_at n (slice_get n.uses k)) && all_indices n (k + 1) (last - (k + 1)))
next_index n k last h = let e : last - k ≡ suc (last - (k + 1)) = omega arith in ap (all_indices n k) e

pub no_index : (n : NamedProgram) (k last : ℕ) → last ≤ k → all_indices n k (last - k) ≡ true
no_index n k last h = let e : last - k ≡ 0 = omega arith in ap (all_indices n k) e

pub ruleset counted = (next_index, no_index)
