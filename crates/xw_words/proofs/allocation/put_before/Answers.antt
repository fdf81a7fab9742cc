use Rattle.std.proofs.Common.{◌≡◌, ◌++◌, List, [], ◌∷◌, length, ap, sym, ◌∙◌, arith}
use Rattle.std.proofs.lemmas.List.{append_assoc}
use Rattle.std.proofs.lemmas.Result.{IfOk-from_err}
use Rattle.xw_words.proofs.allocation.put_before.Goals as goal

-- the last item of a list goes before others
last_before : {X : Type 0} (ys : List X) (x : X) (items : List X) {before made whole : List X} → before ≡ ys ++ x ∷ [] → made ≡ x ∷ items →
    before ++ items ≡ whole → ys ++ made ≡ whole
last_before ys x items before made so_far =
    ap (λ m. ys ++ m) made ∙ sym (append_assoc ys (x ∷ []) items) ∙ sym (ap (λ b. b ++ items) before) ∙ so_far

none_before : {X : Type 0} (xs items : List X) {whole : List X} → length xs ≡ 0 → xs ++ items ≡ whole → items ≡ whole
none_before [] items h so_far = so_far
none_before (x ∷ xs) items h so_far = absurd (omega (arith, h))

pub returns-in_err-push_front : goal.returns-in_err-push_front
returns-in_err-push_front g c = IfOk-from_err c.from_residual.result _ c.from_residual.ensures.0

pub moved-preserved : goal.moved-preserved
moved-preserved g c =
    last_before c.pop_back.new.self.items c.in-Some.item c.moved.items.items c.in-Some.ensures.items c.in_ok-push_front.ensures c.moved.invariant

pub returns : goal.returns
returns g c = none_before c.moved.short.items c.moved.items.items (omega (arith, c.in_default.ensures.cases.0)) c.moved.invariant
