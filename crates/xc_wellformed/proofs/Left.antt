-- Which blocks are left.
use Rattle.std.proofs.Common.{refl}
use Rattle.xc_wellformed.specs.Left.{WhileIsLeft, DoIsLeft, ForIsLeft, CaseIsLeft, FunctionIsLeft}

pub while_is_left : WhileIsLeft
while_is_left c pos test body = refl

pub do_is_left : DoIsLeft
do_is_left c pos test body = refl

pub for_is_left : ForIsLeft
for_is_left c pos scope test next body = refl

pub case_is_left : CaseIsLeft
case_is_left c pos body = (refl, refl)

pub function_is_left : FunctionIsLeft
function_is_left copies c own f scope = refl
