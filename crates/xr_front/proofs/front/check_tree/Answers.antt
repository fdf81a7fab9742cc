use Rattle.std.proofs.Common.{sym, subst}
use Rattle.xc_kernel.specs.Kernels.{kernel_of}
use Rattle.xc_tree.specs.declared.refusal.Refusal.{Refusal}
use Rattle.xc_tree.specs.Refusals.{IfBroken}
use Rattle.xc_tree.specs.Trees.{program_of}
use Rattle.xc_lexer.proofs.Outcomes.{broken_map}
use Rattle.xc_parser.proofs.Reading.Exits.{handed_on}
use Rattle.xr_front.specs.Rules.{First, IsKernelOf}
use Rattle.xl_image.specs.Roots.{KernelIsBuilt}
use Rattle.xr_front.proofs.Reading.{err_by, ok_by, of_names, of_types, typed_too, shallow_too, size_too, needs_too, kernel_too, built_too}
use Rattle.xr_front.proofs.front.check_tree.Goals as goal

pub resolve-requires : goal.resolve-requires
resolve-requires c =
    let read = c.requires.read.1 in
    record { toks = read.toks; derived = read.derives; few = read.few }

pub returns-in_err-named-clause-first : goal.returns-in_err-named-clause-first
returns-in_err-named-clause-first c text read =
    handed_on (λ (e : Refusal). IfBroken e (First text)) c.from_residual.result c.from_residual.ensures.1
    (broken_map _ (of_names text (program_of c.args.tree) read) c.in_err-named.ensures.broken)

pub returns-in_err-typed-clause-first : goal.returns-in_err-typed-clause-first
returns-in_err-typed-clause-first c text read =
    handed_on (λ (e : Refusal). IfBroken e (First text)) c.from_residual-in_err-typed.result c.from_residual-in_err-typed.ensures.1
    (broken_map _
    (of_types text (program_of c.args.tree) read c.in_ok-named.named c.in_ok-named.ensures.named c.in_ok-named.ensures.unbroken)
    c.in_err-typed.ensures.broken)

pub copy_of-requires-clause-typed : goal.copy_of-requires-clause-typed
copy_of-requires-clause-typed c =
    typed_too c.requires.read.0 c.args.tree c.requires.read.1 c.in_ok-named.named c.in_ok-named.ensures.tree c.in_ok-named.ensures.named c.in_ok-named.ensures.unbroken
    c.in_ok-typed.typed c.in_ok-typed.ensures.named c.in_ok-typed.ensures.types c.in_ok-typed.ensures.unbroken

pub copy_of-requires-clause-shallow : goal.copy_of-requires-clause-shallow
copy_of-requires-clause-shallow c =
    shallow_too c.requires.read.0 c.args.tree c.requires.read.1 c.in_ok-named.named c.in_ok-named.ensures.tree c.in_ok-named.ensures.named c.in_ok-named.ensures.unbroken
    c.in_ok-typed.typed c.in_ok-typed.ensures.named c.in_ok-typed.ensures.types c.in_ok-typed.ensures.unbroken

pub returns-in_err-kernel-clause-first : goal.returns-in_err-kernel-clause-first
returns-in_err-kernel-clause-first c text read =
    handed_on (λ (e : Refusal). IfBroken e (First text)) c.from_residual-in_err-kernel.result c.from_residual-in_err-kernel.ensures.1
    (broken_map _
    (size_too text c.args.tree read c.in_ok-named.named c.in_ok-named.ensures.tree c.in_ok-named.ensures.named c.in_ok-named.ensures.unbroken
    c.in_ok-typed.typed c.in_ok-typed.ensures.named c.in_ok-typed.ensures.types c.in_ok-typed.ensures.unbroken)
    c.in_err-kernel.ensures.broken)

pub returns-clause-accepted : goal.returns-clause-accepted
returns-clause-accepted c text read =
    let kernel_is = kernel_too text c.args.tree read c.in_ok-named.named c.in_ok-named.ensures.tree c.in_ok-named.ensures.named c.in_ok-named.ensures.unbroken
    c.in_ok-typed.typed c.in_ok-typed.ensures.named c.in_ok-typed.ensures.types c.in_ok-typed.ensures.unbroken
    (kernel_of c.in_ok-kernel.kernel) c.in_ok-kernel.ensures.small c.in_ok-kernel.ensures.copies in
    ok_by c.disjoint.result (λ x same unbroken. subst (λ k. IsKernelOf text (kernel_of k)) (sym same) (kernel_is unbroken))
    c.disjoint.ensures.kernel c.disjoint.ensures.unbroken

pub returns-clause-built : goal.returns-clause-built
returns-clause-built c =
    let built = built_too c.requires.read.0 c.args.tree c.requires.read.1 c.in_ok-named.named c.in_ok-named.ensures.tree c.in_ok-named.ensures.named c.in_ok-named.ensures.unbroken
    c.in_ok-typed.typed c.in_ok-typed.ensures.named c.in_ok-typed.ensures.types c.in_ok-typed.ensures.unbroken
    (kernel_of c.in_ok-kernel.kernel) c.in_ok-kernel.ensures.small c.in_ok-kernel.ensures.copies in
    ok_by c.disjoint.result (λ x same unbroken. subst (λ k. KernelIsBuilt (kernel_of k)) (sym same) built)
    c.disjoint.ensures.kernel c.disjoint.ensures.unbroken

pub returns-clause-first : goal.returns-clause-first
returns-clause-first c text read =
    let first = needs_too text c.args.tree read c.in_ok-named.named c.in_ok-named.ensures.tree c.in_ok-named.ensures.named c.in_ok-named.ensures.unbroken
    c.in_ok-typed.typed c.in_ok-typed.ensures.named c.in_ok-typed.ensures.types c.in_ok-typed.ensures.unbroken
    (kernel_of c.in_ok-kernel.kernel) c.in_ok-kernel.ensures.small c.in_ok-kernel.ensures.copies in
    err_by c.disjoint.result (λ e broken. broken_map e first broken) c.disjoint.ensures.broken
