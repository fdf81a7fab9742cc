use Rattle.std.proofs.Common.{List, ◌∙◌, ap, sum_by, arith}
use Rattle.xc_kernel.specs.declared.kernel.Inst.{Inst}
use Rattle.xc_kernel.specs.declared.kernel.Kernel.{Kernel}
use Rattle.xc_kernel.specs.declared.kernel.Var.{Var}
use Rattle.xc_kernel.specs.Kernels.{kernel_of}
use Rattle.xc_disjoint.specs.Needs.{words_of_instance, words_of_variable}
use Rattle.xl_plan.proofs.Sizes.{few_words}
use Rattle.xl_plan.proofs.temporary.temporary_words.Goals as goal

pub instance_words-requires : goal.instance_words-requires
instance_words-requires c =
    let few = few_words (kernel_of c.args.checked.now) c.args.core c.kernel-kernel.ensures.accepted c.requires.is_core in
    let same = ap (λ (is : List Inst). sum_by (words_of_instance c.args.core) is) (c.as_slice.ensures ∙ ap (λ (k : Kernel). k.insts) c.kernel-kernel.ensures.kernel) in
    omega arith

pub variable_words-requires : goal.variable_words-requires
variable_words-requires c =
    let few = few_words (kernel_of c.args.checked.now) c.args.core c.kernel-kernel.ensures.accepted c.requires.is_core in
    let same = ap (λ (vs : List Var). sum_by (words_of_variable c.args.core) vs) (c.as_slice-2.ensures ∙ ap (λ (k : Kernel). k.vars) c.kernel-kernel.ensures.kernel) in
    omega arith

pub overflow_add-result : goal.overflow_add-result
overflow_add-result c =
    let few = few_words (kernel_of c.args.checked.now) c.args.core c.kernel-kernel.ensures.accepted c.requires.is_core in
    let instances = c.instance_words.ensures ∙ ap (λ (is : List Inst). sum_by (words_of_instance c.args.core) is) (c.as_slice.ensures ∙ ap (λ (k : Kernel). k.insts) c.kernel-kernel.ensures.kernel) in
    let variables = c.variable_words.ensures ∙ ap (λ (vs : List Var). sum_by (words_of_variable c.args.core) vs) (c.as_slice-2.ensures ∙ ap (λ (k : Kernel). k.vars) c.kernel-kernel.ensures.kernel) in
    omega arith

pub overflow_mul-result : goal.overflow_mul-result
overflow_mul-result c =
    let few = few_words (kernel_of c.args.checked.now) c.args.core c.kernel-kernel.ensures.accepted c.requires.is_core in
    let thread = c.requires.is_thread in
    omega arith

pub overflow_add-result-2 : goal.overflow_add-result-2
overflow_add-result-2 c =
    let few = few_words (kernel_of c.args.checked.now) c.args.core c.kernel-kernel.ensures.accepted c.requires.is_core in
    let thread = c.requires.is_thread in
    let instances = c.instance_words.ensures ∙ ap (λ (is : List Inst). sum_by (words_of_instance c.args.core) is) (c.as_slice.ensures ∙ ap (λ (k : Kernel). k.insts) c.kernel-kernel.ensures.kernel) in
    let variables = c.variable_words.ensures ∙ ap (λ (vs : List Var). sum_by (words_of_variable c.args.core) vs) (c.as_slice-2.ensures ∙ ap (λ (k : Kernel). k.vars) c.kernel-kernel.ensures.kernel) in
    omega arith

pub returns-clause-few : goal.returns-clause-few
returns-clause-few c = few_words (kernel_of c.args.checked.now) c.args.core c.kernel-kernel.ensures.accepted c.requires.is_core
