use Rattle.std.proofs.Common.{◌≡◌, ◌+◌, List, [], ◌∷◌, ◌++◌, ◌∙◌, ap, append_assoc, arith, length, length-append}
use Rattle.xs_instr.specs.Lines.{Line}
use Rattle.xl_expr.proofs.Emitted.{behind_extends, on_err, same_extends}
use Rattle.xl_par.proofs.opening.put_slave.Goals as goal

-- one more line, one longer
one_longer : (old new : List Line) (l : Line) → new ≡ old ++ l ∷ [] → length new ≡ length old + 1
one_longer old new l e = ap length e ∙ length-append old (l ∷ [])

-- three parts behind what was held
three_joined : (old a b new l m n : List Line) → a ≡ old ++ l → b ≡ a ++ m → new ≡ b ++ n → new ≡ old ++ (l ++ (m ++ n))
three_joined old a b new l m n e f g =
    g ∙ ap (λ ls. ls ++ n) (f ∙ ap (λ ls. ls ++ m) e) ∙ append_assoc (old ++ l) m n ∙ append_assoc old l (m ++ n)

pub hole-requires-clause-few : goal.hole-requires-clause-few
hole-requires-clause-few c = omega (arith, one_longer _ _ _ c.in_ok-put.ensures.ok, c.requires)

pub returns-in_err-put-clause-refused : goal.returns-in_err-put-clause-refused
returns-in_err-put-clause-refused c = on_err _ _ (same_extends _ _ c.in_err-put.ensures.refused)

pub returns-in_err-start-clause-refused : goal.returns-in_err-start-clause-refused
returns-in_err-start-clause-refused c =
    on_err _ _ (behind_extends _ _ _ _ c.in_ok-put.ensures.ok (same_extends _ _ c.in_err-start.ensures.refused))

pub put_all-requires : goal.put_all-requires
put_all-requires c =
    omega (arith, one_longer _ _ _ c.in_ok-put.ensures.ok, one_longer _ _ _ c.in_ok-start.ensures.ok, c.requires)

pub returns-in_err-put_all-clause-refused : goal.returns-in_err-put_all-clause-refused
returns-in_err-put_all-clause-refused c =
    on_err _ _ (behind_extends _ _ _ _ c.in_ok-put.ensures.ok (behind_extends _ _ _ _ c.in_ok-start.ensures.ok c.in_err-put_all.ensures.refused))

pub returns-clause-code : goal.returns-clause-code
returns-clause-code c = three_joined _ _ _ _ _ _ _ c.in_ok-put.ensures.ok c.in_ok-start.ensures.ok c.in_ok-put_all.ensures.ok

pub returns-clause-start : goal.returns-clause-start
returns-clause-start c = c.in_ok-start.ensures.index ∙ one_longer _ _ _ c.in_ok-put.ensures.ok
