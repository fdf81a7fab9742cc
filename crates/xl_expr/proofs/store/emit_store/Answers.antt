use Rattle.std.proofs.Common.{◌≤◌, arith, length}
use Rattle.xc_kernel.specs.Kernels.{place_of}
use Rattle.xl_expr.specs.Measures.{depth_at}
use Rattle.xl_expr.specs.Stores.{store_code}
use Rattle.xl_expr.proofs.GoodCode.{store_aimed}
use Rattle.xl_expr.proofs.Sizes.{stored_longer}
use Rattle.xl_expr.proofs.StoreClause.{code_stores}
use Rattle.xl_expr.proofs.store.emit_store.Goals as goal

pub returns-clause-stores : goal.returns-clause-stores
returns-clause-stores c =
    let vars = c.args.plan.now.vars in
    let p = place_of c.args.dst.now in
    let here = length c.args.e.now in
    let last = c.pos-last.result in
    let shallow : depth_at p ≤ 512 = omega (arith, c.requires.shallow) in
    record { lines = store_code vars p c.args.from here last; is = c.in_ok-emit_write.ensures.code; so = code_stores vars p c.args.from here last shallow }

pub returns-clause-size : goal.returns-clause-size
returns-clause-size c =
    stored_longer c.args.plan.now.vars (place_of c.args.dst.now) c.args.from (length c.args.e.now) c.pos-last.result c.args.e.now c.emit_write.new.e c.in_ok-emit_write.ensures.code

pub returns-clause-aimed : goal.returns-clause-aimed
returns-clause-aimed c =
    let vars = c.args.plan.now.vars in
    let p = place_of c.args.dst.now in
    let here = length c.args.e.now in
    let last = c.pos-last.result in
    record { lines = store_code vars p c.args.from here last; is = c.in_ok-emit_write.ensures.code; so = store_aimed vars p c.args.from here last }
