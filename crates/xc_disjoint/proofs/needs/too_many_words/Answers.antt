use Rattle.std.proofs.Common.{arith}
use Rattle.xc_kernel.specs.Kernels.{kernel_of}
use Rattle.xc_disjoint.specs.Needs.{words_on}
use Rattle.xc_disjoint.specs.Rules.{most_words}
use Rattle.xc_disjoint.proofs.Limits.{decides}
use Rattle.xc_disjoint.proofs.needs.too_many_words.Goals as goal

pub returns : goal.returns
returns c =
    decides most_words (omega arith) (words_on (kernel_of c.args.kernel.now)) c.is_above.result c.core_words.result c.core_words-2.result c.core_words-3.result c.core_words-4.result c.is_above.ensures
    c.core_words.ensures
    c.core_words-2.ensures
    c.core_words-3.ensures
    c.core_words-4.ensures
