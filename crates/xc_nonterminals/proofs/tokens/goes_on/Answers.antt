use Rattle.std.proofs.Common.{◌-◌, inl, inr, arith}
use Rattle.xc_nonterminals.proofs.Valued.Operators.{index, operates}
use Rattle.xc_nonterminals.proofs.Reading.Tests.{lower, operator_after, bracket_after, question_after, after_is}
use Rattle.xc_nonterminals.proofs.tokens.goes_on.Goals as goal

pub returns-in-Some-clause-yes : goal.returns-in-Some-clause-yes
returns-in-Some-clause-yes c = λ h. (c.in-Some.ensures.some.0, operator_after {l = c.in-Some.field-0.level - 1} (let a = c.in-Some.ensures.some in omega arith) (lower c.in-Some.ensures.some.1 c.in-Some.ensures.is))

pub returns-then-is_symbol-clause-yes : goal.returns-then-is_symbol-clause-yes
returns-then-is_symbol-clause-yes c = λ h. let y = c.is_symbol.ensures.yes c.if-is_symbol.true in (y.0, question_after y.1.1)

pub returns-clause-yes : goal.returns-clause-yes
returns-clause-yes c = λ h. let y = c.is_symbol-2.ensures.yes h in (y.0, bracket_after y.1.1)

pub returns-clause-no : goal.returns-clause-no
returns-clause-no c = λ h o. elim (after_is o) [
  | inl y ↦ c.is_symbol.ensures.no c.if-is_symbol.false y.0 y.1
  | inr (index {p} on) ↦ c.is_symbol-2.ensures.no h p on
  | inr (operates {l} {o = m} g s) ↦ (c.in_default.ensures.none).none l m g s
]
