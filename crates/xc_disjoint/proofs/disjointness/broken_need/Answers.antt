use Rattle.xc_kernel.specs.Kernels.{kernel_of}
use Rattle.xc_disjoint.proofs.Limits.{is_so, not_so}
use Rattle.xc_disjoint.proofs.Whole.{by_threads, by_ends, by_timers, by_words, by_nothing}
use Rattle.xc_disjoint.proofs.disjointness.broken_need.Goals as goal

pub returns-then-too_many_threads : goal.returns-then-too_many_threads
returns-then-too_many_threads c =
    rw c.at_main.ensures
    (by_threads (kernel_of c.args.kernel.now) (is_so c.too_many_threads.result c.too_many_threads.ensures c.if-too_many_threads.true))

pub returns-then-too_many_ends : goal.returns-then-too_many_ends
returns-then-too_many_ends c =
    rw c.at_main-then-too_many_ends.ensures
    (by_ends (kernel_of c.args.kernel.now)
    (not_so c.too_many_threads.result c.too_many_threads.ensures c.if-too_many_threads.false)
    (is_so c.too_many_ends.result c.too_many_ends.ensures c.if-too_many_ends.true))

pub returns-then-too_many_timers : goal.returns-then-too_many_timers
returns-then-too_many_timers c =
    rw c.at_main-then-too_many_timers.ensures
    (by_timers (kernel_of c.args.kernel.now)
    (not_so c.too_many_threads.result c.too_many_threads.ensures c.if-too_many_threads.false)
    (not_so c.too_many_ends.result c.too_many_ends.ensures c.if-too_many_ends.false)
    (is_so c.too_many_timers.result c.too_many_timers.ensures c.if-too_many_timers.true))

pub returns-then-too_many_words : goal.returns-then-too_many_words
returns-then-too_many_words c =
    rw c.at_main-then-too_many_words.ensures
    (by_words (kernel_of c.args.kernel.now)
    (not_so c.too_many_threads.result c.too_many_threads.ensures c.if-too_many_threads.false)
    (not_so c.too_many_ends.result c.too_many_ends.ensures c.if-too_many_ends.false)
    (not_so c.too_many_timers.result c.too_many_timers.ensures c.if-too_many_timers.false)
    (is_so c.too_many_words.result c.too_many_words.ensures c.if-too_many_words.true))

pub returns : goal.returns
returns c =
    by_nothing (kernel_of c.args.kernel.now)
    (not_so c.too_many_threads.result c.too_many_threads.ensures c.if-too_many_threads.false)
    (not_so c.too_many_ends.result c.too_many_ends.ensures c.if-too_many_ends.false)
    (not_so c.too_many_timers.result c.too_many_timers.ensures c.if-too_many_timers.false)
    (not_so c.too_many_words.result c.too_many_words.ensures c.if-too_many_words.false)
