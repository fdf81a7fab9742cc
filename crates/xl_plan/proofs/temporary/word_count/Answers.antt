use Rattle.std.proofs.Common.{List, map, sum_by, ap, ◌∙◌, arith}
use Rattle.xc_kernel.specs.declared.kernel.Kernel.{Kernel}
use Rattle.xc_kernel.specs.declared.kernel.Root.{Root}
use Rattle.xc_kernel.specs.Kernels.{kernel_of, root_of}
use Rattle.xc_disjoint.specs.Needs.{threads_of_root}
use Rattle.xc_disjoint.specs.Sums.{capped}
use Rattle.xl_plan.proofs.Sizes.{all_threads, fitting_threads}
use Rattle.xl_plan.proofs.temporary.word_count.Goals as goal

pub overflow_cast-threads : goal.overflow_cast-threads
overflow_cast-threads c =
    let k = kernel_of c.args.checked.now in
    let count = c.thread_count-threads.ensures ∙ ap (λ (rs : List Root). capped (sum_by (threads_of_root c.args.core) (map root_of rs))) (c.as_slice.ensures ∙ ap (λ (q : Kernel). q.roots) c.kernel.ensures.kernel) in
    let few = fitting_threads k c.args.core c.thread_count-threads.result c.kernel.ensures.accepted c.requires count in
    omega (arith, few)

pub temporary_words-requires-clause-is_thread : goal.temporary_words-requires-clause-is_thread
temporary_words-requires-clause-is_thread c =
    let k = kernel_of c.args.checked.now in
    let count = c.thread_count-threads.ensures ∙ ap (λ (rs : List Root). capped (sum_by (threads_of_root c.args.core) (map root_of rs))) (c.as_slice.ensures ∙ ap (λ (q : Kernel). q.roots) c.kernel.ensures.kernel) in
    let same = all_threads k c.args.core c.thread_count-threads.result c.kernel.ensures.accepted c.requires count in
    omega (arith, same)

pub returns : goal.returns
returns c =
    let k = kernel_of c.args.checked.now in
    let count = c.thread_count-threads.ensures ∙ ap (λ (rs : List Root). capped (sum_by (threads_of_root c.args.core) (map root_of rs))) (c.as_slice.ensures ∙ ap (λ (q : Kernel). q.roots) c.kernel.ensures.kernel) in
    c.temporary_words.ensures.all (all_threads k c.args.core c.thread_count-threads.result c.kernel.ensures.accepted c.requires count)
