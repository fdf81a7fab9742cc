use Rattle.std.proofs.Common.{◌∙◌, ◌+◌, ◌<◌, ◌++◌, ℕ, List, [], ◌∷◌, drop, length, map, refl, sym, ap, subst, arith, eq-eqb}
use Rattle.std.proofs.lemmas.Bool.{ne_eqb}
use Rattle.std.proofs.lemmas.List.{get_or-map, length-map}
use Rattle.xs_instr.specs.Lines.{Line}
use Rattle.xc_kernel.specs.declared.kernel.Kernel.{Kernel}
use Rattle.xc_kernel.specs.Kernels.{kernel_of, root_of}
use Rattle.xl_ends.specs.Sides.{sides_of}
use Rattle.xl_plan.specs.Layout.{temporary_of}
use Rattle.xl_plan.proofs.Sizes.{few_words}
use Rattle.xl_image.specs.Images.{SidedRoot, sided_roots}
use Rattle.xl_image.specs.Roots.{most_of_roots}
use Rattle.xl_image.proofs.Begun.{Begun, begins, ends_so, goes_on, has_room, is_thread, passes, turned}
use Rattle.xl_image.proofs.GoodParts.{few_roots_on}
use Rattle.xl_image.proofs.Ready.{code_fits, roots_ready}
use Rattle.xl_image.proofs.Sided.{as_many_there, as_many_sides, each_told, none_behind, own_sides, roots_are}
use Rattle.xl_image.proofs.Threads.{roots_have_threads}
use Rattle.xl_image.proofs.roots.emit_roots.Goals as goal
use Rattle.xl_image.proofs.roots.emit_roots.Goals.{then-root-core+in_ok-push+in_ok-emit_thread, else-root-core}

pub loop-number-init : goal.loop-number-init
loop-number-init c =
    let k = kernel_of c.args.checked.now in
    subst (λ (ns : List ℕ). Begun k c.args.core c.args.plan.now (sided_roots k) (sided_roots k) c.args.e.now ns) (sym c.new-entries.ensures)
    (begins k c.args.core c.args.plan.now c.args.e.now c.requires.empty (roots_ready k c.kernel-kernel.ensures.accepted c.requires.built))

pub bounds-sides-number : goal.bounds-sides-number
bounds-sides-number c =
    let k = kernel_of c.args.checked.now in
    let each = map sides_of c.as_slice-sides.result.now in
    let same = c.as_slice-roots.ensures ∙ ap (λ (q : Kernel). q.roots) c.kernel-kernel.ensures.kernel in
    let told = each_told k c.len.result (map root_of c.as_slice-roots.result.now) each (ap (map sides_of) c.as_slice-sides.ensures ∙ c.in_ok-sides.ensures)
    (c.len.ensures ∙ ap (λ (q : Kernel). length q.chans) c.kernel-kernel.ensures.kernel) (ap (map root_of) same) in
    let many = as_many_sides k each told in
    let n = length-map c.as_slice-sides.result.now sides_of in
    let m = length-map c.args.checked.now.roots root_of in
    let l = ap length same in
    let t = c.loop-number-test.true in
    omega (arith, many, n, m, l, t)

pub overflow_cast-thread : goal.overflow_cast-thread
overflow_cast-thread c =
    let k = kernel_of c.args.checked.now in
    let core = c.args.core in
    let same = c.as_slice-roots.ensures ∙ ap (λ (q : Kernel). q.roots) c.kernel-kernel.ensures.kernel in
    let begun = turned k core c.args.plan.now c.args.checked.now.roots c.as_slice-roots.result.now c.loop-number.number c.index-roots-number.result c.loop-number.e c.loop-number.entries same refl c.index-roots-number.is c.loop-number-test.true c.loop-number.invariant in
    let one = is_thread k core c.args.plan.now _ _ _ c.loop-number.e c.loop-number.entries begun (eq-eqb c.index-roots-number.result.core core c.if-root-core.true) in
    let few = few_roots_on k c.kernel-kernel.ensures.accepted core c.requires.is_core in
    let many = as_many_there k core in
    let n = c.len-thread.ensures in
    omega (arith, one, few, many, n)

pub temporary_words-word-requires-clause-is_thread : goal.temporary_words-word-requires-clause-is_thread
temporary_words-word-requires-clause-is_thread c =
    let k = kernel_of c.args.checked.now in
    let core = c.args.core in
    let same = c.as_slice-roots.ensures ∙ ap (λ (q : Kernel). q.roots) c.kernel-kernel.ensures.kernel in
    let begun = turned k core c.args.plan.now c.args.checked.now.roots c.as_slice-roots.result.now c.loop-number.number c.index-roots-number.result c.loop-number.e c.loop-number.entries same refl c.index-roots-number.is c.loop-number-test.true c.loop-number.invariant in
    let one = is_thread k core c.args.plan.now _ _ _ c.loop-number.e c.loop-number.entries begun (eq-eqb c.index-roots-number.result.core core c.if-root-core.true) in
    let t = roots_have_threads core k.roots in
    let many = as_many_there k core in
    let n = c.len-thread.ensures in
    omega (arith, one, t, many, n)

pub emit_thread-requires-clause-stack : goal.emit_thread-requires-clause-stack
emit_thread-requires-clause-stack c =
    let few = few_words (kernel_of c.args.checked.now) c.args.core c.kernel-kernel.ensures.accepted c.requires.is_core in
    let first = c.requires.planned.first_stack in
    omega (arith, few, first)

pub emit_thread-requires-clause-ready : goal.emit_thread-requires-clause-ready
emit_thread-requires-clause-ready c =
    let k = kernel_of c.args.checked.now in
    let same = c.as_slice-roots.ensures ∙ ap (λ (q : Kernel). q.roots) c.kernel-kernel.ensures.kernel in
    let begun = turned k c.args.core c.args.plan.now c.args.checked.now.roots c.as_slice-roots.result.now c.loop-number.number c.index-roots-number.result c.loop-number.e c.loop-number.entries same refl c.index-roots-number.is c.loop-number-test.true c.loop-number.invariant in
    begun.ready.0

pub emit_thread-requires-clause-room : goal.emit_thread-requires-clause-room
emit_thread-requires-clause-room c =
    let k = kernel_of c.args.checked.now in
    let core = c.args.core in
    let same = c.as_slice-roots.ensures ∙ ap (λ (q : Kernel). q.roots) c.kernel-kernel.ensures.kernel in
    let begun = turned k core c.args.plan.now c.args.checked.now.roots c.as_slice-roots.result.now c.loop-number.number c.index-roots-number.result c.loop-number.e c.loop-number.entries same refl c.index-roots-number.is c.loop-number-test.true c.loop-number.invariant in
    let room = has_room k core c.args.plan.now _ _ _ c.loop-number.e c.loop-number.entries begun in
    let fits = code_fits k core c.args.plan.now c.requires.planned c.kernel-kernel.ensures.accepted c.requires.built in
    let all = ap (most_of_roots c.args.plan.now.vars) (roots_are k) in
    omega (arith, room, fits, all)

pub loop-number-preserved : goal.loop-number-preserved
loop-number-preserved c =
    let k = kernel_of c.args.checked.now in
    let core = c.args.core in
    let plan = c.args.plan.now in
    let same = c.as_slice-roots.ensures ∙ ap (λ (q : Kernel). q.roots) c.kernel-kernel.ensures.kernel in
    let x = c.index-roots-number.result in
    let i = c.loop-number.number in
    let e = c.loop-number.e in
    let entries = c.loop-number.entries in
    let rest = drop (i + 1) (sided_roots k) in
    let begun = turned k core plan c.args.checked.now.roots c.as_slice-roots.result.now i x e entries same refl c.index-roots-number.is c.loop-number-test.true c.loop-number.invariant in
    let all = c.as_slice-sides.result.now in
    let each = map sides_of all in
    let told = each_told k c.len.result (map root_of c.as_slice-roots.result.now) each (ap (map sides_of) c.as_slice-sides.ensures ∙ c.in_ok-sides.ensures)
    (c.len.ensures ∙ ap (λ (q : Kernel). length q.chans) c.kernel-kernel.ensures.kernel) (ap (map root_of) same) in
    let inside = let l = ap length same in let m = length-map c.args.checked.now.roots root_of in let t = c.loop-number-test.true in let z : i < length k.roots = omega (arith, l, m, t) in z in
    elim c.if-root-core.branch [
      | then-root-core+in_ok-push+in_ok-emit_thread w ↦
          subst (λ (ls : List Line). Begun k core plan (sided_roots k) rest ls c.if-root-core.entries) (sym w.e-is)
          (subst (λ (ns : List ℕ). Begun k core plan (sided_roots k) rest w.emit_thread.new.e ns) (sym w.entries-is)
          (goes_on k core plan (sided_roots k) rest _ e entries begun (eq-eqb x.core core w.if-root-core.true) w.emit_thread.new.e w.push.new.self (sides_of w.as_slice.result.now) w.temporary_words-word.result
          (own_sides k each told i (sides_of w.as_slice.result.now)
          (ap sides_of (w.as_slice.ensures ∙ w.index-sides-number.is)
          ∙ sym (get_or-map sides_of all i w.index-sides-number.result (sides_of w.as_slice.result.now) (let n = length-map all sides_of in let many = as_many_sides k each told in omega (arith, inside, n, many)))) inside)
          (w.temporary_words-word.ensures.begin ∙ ap (temporary_of k core) w.len-thread.ensures)
          (w.in_ok-push.ensures.ok ∙ ap (λ (n : ℕ). entries ++ n ∷ []) w.here.ensures.next)
          w.in_ok-emit_thread.ensures.code w.in_ok-emit_thread.ensures.alone w.in_ok-emit_thread.ensures.size))
      | else-root-core w ↦
          subst (λ (ls : List Line). Begun k core plan (sided_roots k) rest ls c.if-root-core.entries) (sym w.e-is)
          (subst (λ (ns : List ℕ). Begun k core plan (sided_roots k) rest e ns) (sym w.entries-is)
          (passes k core plan (sided_roots k) rest _ e entries begun (ne_eqb x.core core w.if-root-core.false)))
    ]

pub returns-clause-code : goal.returns-clause-code
returns-clause-code c =
    let k = kernel_of c.args.checked.now in
    let same = c.as_slice-roots.ensures ∙ ap (λ (q : Kernel). q.roots) c.kernel-kernel.ensures.kernel in
    let none = none_behind k c.loop-number.number (let l = ap length same in let m = length-map c.args.checked.now.roots root_of in let t = c.loop-number-test.false in omega (arith, l, m, t)) in
    ends_so k c.args.core c.args.plan.now (sided_roots k) c.loop-number.e c.loop-number.entries (subst (λ (l : List SidedRoot). Begun k c.args.core c.args.plan.now (sided_roots k) l c.loop-number.e c.loop-number.entries) none c.loop-number.invariant)

pub returns-clause-alone : goal.returns-clause-alone
returns-clause-alone c = c.loop-number.invariant.alone

pub returns-clause-few : goal.returns-clause-few
returns-clause-few c =
    let k = kernel_of c.args.checked.now in
    let room = c.loop-number.invariant.room in
    let fits = code_fits k c.args.core c.args.plan.now c.requires.planned c.kernel-kernel.ensures.accepted c.requires.built in
    let all = ap (most_of_roots c.args.plan.now.vars) (roots_are k) in
    omega (arith, room, fits, all)
