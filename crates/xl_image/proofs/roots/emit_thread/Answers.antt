use Rattle.std.proofs.Common.{◌≡◌, ℕ, ◌+◌, ◌^◌, ◌<◌, ◌≤◌, List, [], length, Result, Ok, Err, IsErr, OnOk, sym, subst, arith}
use Rattle.xc_kernel.specs.declared.statement.Kst.{Kst}
use Rattle.xc_kernel.specs.Kernels.{root_of}
use Rattle.xs_instr.specs.Adds.{Adds}
use Rattle.xs_instr.specs.Lines.{last_pos}
use Rattle.xl_ends.specs.Sides.{sides_of}
use Rattle.xl_statements.specs.Built.{statements_of, AreBuilt, AreNarrow, AreShallow, most_of_all}
use Rattle.xl_statements.specs.Inside.{AreInside, StandAlone}
use Rattle.xl_statements.specs.Roots.{IsRoot}
use Rattle.xl_image.specs.Roots.{IsRootCode, most_of_root}
use Rattle.xl_image.proofs.ThreadCode.{on_ok, longer, thread_code, thread_alone}
use Rattle.xl_image.proofs.roots.emit_thread.Goals as goal

-- there is room for the root's code behind what sets its stack
two_more : (e0 e1 most : ℕ) → e1 ≡ e0 + 2 → e0 + (most + 3) < 2 ^ 32 → e1 + most + 1 < 2 ^ 32
two_more e0 e1 most e room = omega arith

-- the size of both
with_two : (e0 e1 e2 most : ℕ) → e1 ≡ e0 + 2 → e2 ≤ e1 + most + 1 → e2 ≤ e0 + (most + 3)
with_two e0 e1 e2 most e size = omega arith

-- there is room for what sets its stack
room_for_two : (e0 most : ℕ) → e0 + (most + 3) < 2 ^ 32 → e0 + 2 < 2 ^ 32
room_for_two e0 most room = omega arith

-- of an error nothing is asked of what there is where it went well
not_ok : {A B : Type 0} (r : Result A B) (P : Type 0) → IsErr r → OnOk r P
not_ok (Ok x) P e = cc
not_ok (Err x) P e = tt

pub put_all-requires : goal.put_all-requires
put_all-requires c = room_for_two (length c.args.e.now) (most_of_all c.args.plan.now.vars (root_of c.args.root.now).body) c.requires.room

pub returns-in_err-put_all : goal.returns-in_err-put_all
returns-in_err-put_all c = record {
  code = not_ok c.from_residual.result _ c.from_residual.ensures.0;
  alone = not_ok c.from_residual.result _ c.from_residual.ensures.0;
  size = not_ok c.from_residual.result _ c.from_residual.ensures.0;
}

pub emit_root-requires-clause-built : goal.emit_root-requires-clause-built
emit_root-requires-clause-built c = subst (λ (b : List Kst). AreBuilt (statements_of b)) (sym c.as_slice.ensures) c.requires.ready.built

pub emit_root-requires-clause-shallow : goal.emit_root-requires-clause-shallow
emit_root-requires-clause-shallow c = subst (λ (b : List Kst). AreShallow (statements_of b)) (sym c.as_slice.ensures) c.requires.ready.shallow

pub emit_root-requires-clause-narrow : goal.emit_root-requires-clause-narrow
emit_root-requires-clause-narrow c = subst (λ (b : List Kst). AreNarrow (statements_of b)) (sym c.as_slice.ensures) c.requires.ready.narrow

pub emit_root-requires-clause-inside : goal.emit_root-requires-clause-inside
emit_root-requires-clause-inside c = subst (λ (b : List Kst). AreInside [] (statements_of b)) (sym c.as_slice.ensures) c.requires.ready.inside

pub emit_root-requires-clause-stack : goal.emit_root-requires-clause-stack
emit_root-requires-clause-stack c = c.requires.stack

pub emit_root-requires-clause-room : goal.emit_root-requires-clause-room
emit_root-requires-clause-room c =
    let e0 = c.args.e.now in
    let e1 = c.put_all.new.self in
    let r = root_of c.args.root.now in
    subst (λ (b : List Kst). length e1 + most_of_all c.args.plan.now.vars (statements_of b) + 1 < 2 ^ 32) (sym c.as_slice.ensures)
    (two_more (length e0) (length e1) (most_of_all c.args.plan.now.vars r.body) (longer c.args.word r e0 e1 e1 c.in_ok-put_all.ensures.ok)
    c.requires.room)

pub returns-clause-alone : goal.returns-clause-alone
returns-clause-alone c =
    let e0 = c.args.e.now in
    let e1 = c.put_all.new.self in
    let e2 = c.emit_root.new.e in
    on_ok c.emit_root.result (Adds e1 e2 (StandAlone (length e1))) (Adds e0 e2 (StandAlone (length e0))) c.emit_root.ensures.alone
    (thread_alone c.args.word (root_of c.args.root.now) e0 e1 e2 c.in_ok-put_all.ensures.ok)

pub returns-clause-size : goal.returns-clause-size
returns-clause-size c =
    let e0 = c.args.e.now in
    let e1 = c.put_all.new.self in
    let e2 = c.emit_root.new.e in
    let r = root_of c.args.root.now in
    let most = most_of_all c.args.plan.now.vars r.body in
    on_ok c.emit_root.result (length e2 ≤ length e1 + most + 1) (length e2 ≤ length e0 + most_of_root c.args.plan.now.vars r)
    (subst (λ (b : List Kst). OnOk c.emit_root.result (length e2 ≤ length e1 + most_of_all c.args.plan.now.vars (statements_of b) + 1))
    c.as_slice.ensures c.emit_root.ensures.size)
    (with_two (length e0) (length e1) (length e2) most (longer c.args.word r e0 e1 e2 c.in_ok-put_all.ensures.ok))

pub returns-clause-code : goal.returns-clause-code
returns-clause-code c =
    let e1 = c.put_all.new.self in
    let e2 = c.emit_root.new.e in
    let r = root_of c.args.root.now in
    on_ok c.emit_root.result (Adds e1 e2 (IsRoot c.args.plan.now (sides_of c.args.sides.now) (statements_of c.as_slice.result.now) c.args.root.now.pos (last_pos e1) (length e1))) (Adds c.args.e.now e2 (IsRootCode c.args.plan.now (sides_of c.args.sides.now) c.args.word r (length c.args.e.now)))
    c.emit_root.ensures.root
    (λ h. thread_code c.args.word r c.args.e.now e1 e2 c.in_ok-put_all.ensures.ok c.args.plan.now (sides_of c.args.sides.now) (subst (λ (b : List Kst). Adds e1 e2 (IsRoot c.args.plan.now (sides_of c.args.sides.now) (statements_of b) c.args.root.now.pos (last_pos e1) (length e1))) c.as_slice.ensures h))
