use Rattle.xc_kernel.specs.Kernels.{kernel_of}
use Rattle.xr_simulation.proofs.Relation.Implementing.{implements, text_wholly, wholly_implements}
use Rattle.xr_simulation.proofs.compiler.compile.Goals as goal

pub returns-clause-implements : goal.returns-clause-implements
returns-clause-implements c =
    implements (kernel_of c.args.checked.now) c.in_ok-image.image c.kernel.ensures.accepted c.in_ok-image.ensures.pieces c.in_ok-image.ensures.valid c.requires.built

pub returns-clause-wholly : goal.returns-clause-wholly
returns-clause-wholly c =
    wholly_implements (kernel_of c.args.checked.now) c.in_ok-image.image c.kernel.ensures.accepted c.in_ok-image.ensures.pieces c.in_ok-image.ensures.valid c.requires.built

pub returns-clause-of_text : goal.returns-clause-of_text
returns-clause-of_text c =
    text_wholly (kernel_of c.args.checked.now) c.in_ok-image.image c.kernel.ensures.accepted c.in_ok-image.ensures.pieces c.in_ok-image.ensures.valid c.requires.built
