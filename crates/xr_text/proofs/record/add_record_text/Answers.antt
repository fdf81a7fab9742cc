use Rattle.xr_text.proofs.Draws.{◌▸◌}
use Rattle.xr_text.proofs.record.add_record_text.Goals as goal
use Rattle.xs_instr.specs.Texts.{record_text}

pub returns-in-Com-clause-drew : goal.returns-in-Com-clause-drew
unfolding record_text
returns-in-Com-clause-drew g c = rw c.in-Com.is
    (c.add.ensures.drew ▸ c.add_number.ensures.drew ▸ c.add-in-Com.ensures.drew ▸ c.add_number-in-Com.ensures.drew)

pub returns-in-PortOut-clause-drew : goal.returns-in-PortOut-clause-drew
unfolding record_text
returns-in-PortOut-clause-drew g c = rw c.in-PortOut.is c.add_transfer.ensures.drew

pub returns-in-PortIn-clause-drew : goal.returns-in-PortIn-clause-drew
unfolding record_text
returns-in-PortIn-clause-drew g c = rw c.in-PortIn.is c.add_transfer-in-PortIn.ensures.drew

pub returns-in-Fault-clause-drew : goal.returns-in-Fault-clause-drew
unfolding record_text
returns-in-Fault-clause-drew g c = rw c.in-Fault.is
    (c.add-in-Fault.ensures.drew ▸ c.add_number-in-Fault.ensures.drew ▸ c.add-in-Fault-2.ensures.drew ▸ c.add_pos.ensures.drew
    ▸ c.add-in-Fault-3.ensures.drew ▸ c.add_trap.ensures.drew)
