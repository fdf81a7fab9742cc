use Rattle.std.proofs.Common.{ℕ, List, ◌++◌, codes, sym}
use Rattle.std.proofs.lemmas.List.{append_assoc}
use Rattle.std.specs.Prelude.{Option}
use Rattle.xr_text.proofs.Draws.{◌▸◌}
use Rattle.xr_text.proofs.instruction.add_instr.Goals as goal
use Rattle.xs_instr.specs.Texts.{one_operand, three_operands, two_operands}
use Rattle.xw_io.specs.declared.output.Out.{Out}
use Rattle.xw_io.specs.Gathering.{Drew}

-- a name and its first operand
one : {O : Type 0} {bytes : O → Option (List ℕ)} {faults : O → ℕ} {p q r : Out O} (name a : List ℕ) →
    Drew bytes faults p q name → Drew bytes faults q r (codes " " ++ a) → Drew bytes faults p r (one_operand name a)
unfolding one_operand
one name a d e = rw (append_assoc name (codes " ") a) (d ▸ e)

-- and the second behind them
two : {O : Type 0} {bytes : O → Option (List ℕ)} {faults : O → ℕ} {p q r : Out O} (name a b : List ℕ) →
    Drew bytes faults p q (one_operand name a) → Drew bytes faults q r (codes ", " ++ b) → Drew bytes faults p r (two_operands name a b)
unfolding one_operand two_operands
two name a b d e = rw (append_assoc (name ++ codes " " ++ a) (codes ", ") b) (d ▸ e)

-- and the third
three : {O : Type 0} {bytes : O → Option (List ℕ)} {faults : O → ℕ} {p q r : Out O} (name a b c : List ℕ) →
    Drew bytes faults p q (two_operands name a b) → Drew bytes faults q r (codes ", " ++ c) → Drew bytes faults p r (three_operands name a b c)
unfolding two_operands three_operands
three name a b c d e = rw (append_assoc (name ++ codes " " ++ a ++ codes ", " ++ b) (codes ", ") c) (d ▸ e)

pub returns-in-One-clause-drew : goal.returns-in-One-clause-drew
returns-in-One-clause-drew g c = rw (c.in-One.ensures, sym c.name.ensures) (one _ _ c.add.ensures.drew c.add_first.ensures.drew)

pub returns-in-Two-clause-drew : goal.returns-in-Two-clause-drew
returns-in-Two-clause-drew g c =
    rw (c.in-Two.ensures, sym c.name.ensures) (two _ _ _ (one _ _ c.add.ensures.drew c.add_first-in-Two.ensures.drew) c.add_next.ensures.drew)

pub returns-in-Three-clause-drew : goal.returns-in-Three-clause-drew
returns-in-Three-clause-drew g c =
    rw (c.in-Three.ensures, sym c.name.ensures)
    (three _ _ _ _ (two _ _ _ (one _ _ c.add.ensures.drew c.add_first-in-Three.ensures.drew) c.add_next-in-Three.ensures.drew) c.add_next-in-Three-2.ensures.drew)
