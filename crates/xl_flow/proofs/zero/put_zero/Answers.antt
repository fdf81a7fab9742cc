use Rattle.std.proofs.Common.{◌≡◌, ℕ, ◌+◌, ◌*◌, ◌^◌, ◌<◌, List, [], ◌∷◌, ◌++◌, length, Option, Some, sym, ap, ◌∙◌, subst, arith, append-nil}
use Rattle.xw_words.specs.declared.pos.Pos.{Pos}
use Rattle.xs_instr.specs.declared.instr.Instr.TheVariants.{Ldc, Ldwdp}
use Rattle.xs_instr.specs.declared.instr.Reg.TheVariants.{R0, R11}
use Rattle.xs_instr.specs.Lines.{Line, at_pos, line}
use Rattle.xl_expr.specs.declared.plan.VarAt.{VarAt}
use Rattle.xl_expr.specs.declared.plan.VarAt.TheVariants.{Near, Far, Through}
use Rattle.xl_expr.specs.declared.plan.VarPlan.{VarPlan}
use Rattle.xl_expr.proofs.Emitted.{behind_extends, on_err, one_longer, then_code, two_longer}
use Rattle.xl_flow.specs.Zeros.{far_write, near_write, room_of, words_set, writes, zero_instrs, zero_of}
use Rattle.xl_flow.proofs.zero.put_zero.Goals as goal

-- the room that a variable's code has, and the code, by where the variable stands
room_at : (n : ℕ) (o : Option VarPlan) (found : VarPlan) (place : VarAt) → o ≡ Some found → found.place ≡ place →
    n + room_of o < 2 ^ 32 → n + (2 * words_set place found.words + 2) < 2 ^ 32
room_at n o found place e h room =
    subst (λ (p : VarAt). n + (2 * words_set p found.words + 2) < 2 ^ 32) h (subst (λ (x : Option VarPlan). n + room_of x < 2 ^ 32) e room)

code_at : (last : Pos) (old new : List Line) (o : Option VarPlan) (found : VarPlan) (place : VarAt) → o ≡ Some found → found.place ≡ place →
    new ≡ old ++ at_pos last (zero_instrs place found.words) → new ≡ old ++ zero_of o last
code_at last old new o found place e h code =
    code
    ∙ ap (λ (p : VarAt). old ++ at_pos last (zero_instrs p found.words)) (sym h)
    ∙ ap (λ (x : Option VarPlan). old ++ zero_of x last) (sym e)

-- there is room for each piece
one_fits : (n w : ℕ) → n + (2 * w + 2) < 2 ^ 32 → n + 1 < 2 ^ 32
one_fits n w room = omega arith

two_fit : (n w : ℕ) → n + (2 * w + 2) < 2 ^ 32 → n + 2 < 2 ^ 32
two_fit n w room = omega arith

near_fits : (n n1 w : ℕ) → n + (2 * w + 2) < 2 ^ 32 → n1 ≡ n + 1 → n1 + w < 2 ^ 32
near_fits n n1 w room e = omega arith

far_fits : (n n1 w : ℕ) → n + (2 * w + 2) < 2 ^ 32 → n1 ≡ n + 2 → n1 + 2 * w < 2 ^ 32
far_fits n n1 w room e = omega arith

pub put_all-requires : goal.put_all-requires
put_all-requires c =
    let found = c.in-Some.found in
    let place = sym c.placed.ensures ∙ c.in-Some.is in
    one_fits (length c.args.e.now) found.words (room_at (length c.args.e.now) _ found (Near c.in-Near.n) place c.in-Near.is c.requires.room)

pub put_near_writes-requires : goal.put_near_writes-requires
put_near_writes-requires c =
    let found = c.in-Some.found in
    let place = sym c.placed.ensures ∙ c.in-Some.is in
    near_fits (length c.args.e.now) (length c.put_all.new.self) found.words
    (room_at (length c.args.e.now) _ found (Near c.in-Near.n) place c.in-Near.is c.requires.room)
    (one_longer c.args.e.now c.put_all.new.self (line (Ldc R0 0) c.args.last) c.in_ok-put_all-in-Near.ensures.ok)

pub put_all-requires-in-Far : goal.put_all-requires-in-Far
put_all-requires-in-Far c =
    let found = c.in-Some.found in
    let place = sym c.placed.ensures ∙ c.in-Some.is in
    two_fit (length c.args.e.now) found.words (room_at (length c.args.e.now) _ found (Far c.in-Far.n) place c.in-Far.is c.requires.room)

pub put_far_writes-requires : goal.put_far_writes-requires
put_far_writes-requires c =
    let found = c.in-Some.found in
    let place = sym c.placed.ensures ∙ c.in-Some.is in
    far_fits (length c.args.e.now) (length c.put_all-in-Far.new.self) found.words
    (room_at (length c.args.e.now) _ found (Far c.in-Far.n) place c.in-Far.is c.requires.room)
    (two_longer c.args.e.now c.put_all-in-Far.new.self (line (Ldc R0 0) c.args.last) (line (Ldwdp R11 c.in-Far.n) c.args.last)
    c.in_ok-put_all-in-Far.ensures.ok)

pub put_all-requires-in-Through : goal.put_all-requires-in-Through
put_all-requires-in-Through c =
    let found = c.in-Some.found in
    let place = sym c.placed.ensures ∙ c.in-Some.is in
    two_fit (length c.args.e.now) 1 (room_at (length c.args.e.now) _ found (Through c.in-Through.n) place c.in-Through.is c.requires.room)

pub put_far_writes-requires-in-Through : goal.put_far_writes-requires-in-Through
put_far_writes-requires-in-Through c =
    let found = c.in-Some.found in
    let place = sym c.placed.ensures ∙ c.in-Some.is in
    let n = c.in-Through.n in
    far_fits (length c.args.e.now) (length c.put_all-in-Through.new.self) 1
    (room_at (length c.args.e.now) _ found (Through n) place c.in-Through.is c.requires.room)
    (two_longer c.args.e.now c.put_all-in-Through.new.self (line (Ldc R0 0) c.args.last) (line (Ldwdp R11 n) c.args.last)
    c.in_ok-put_all-in-Through.ensures.ok)

pub returns-in-None-clause-code : goal.returns-in-None-clause-code
returns-in-None-clause-code c =
    let e = c.args.e.now in
    sym (append-nil e) ∙ ap (λ (x : Option VarPlan). e ++ zero_of x c.args.last) (sym c.in-None.is ∙ c.placed.ensures)

pub returns-in_ok-put_near_writes-in-Near-clause-code : goal.returns-in_ok-put_near_writes-in-Near-clause-code
returns-in_ok-put_near_writes-in-Near-clause-code c =
    let found = c.in-Some.found in
    let place = sym c.placed.ensures ∙ c.in-Some.is in
    let n = c.in-Near.n in
    code_at c.args.last c.args.e.now c.put_near_writes.new.e _ found (Near n) place c.in-Near.is
    (then_code c.args.e.now c.put_all.new.self c.put_near_writes.new.e (at_pos c.args.last (Ldc R0 0 ∷ []))
    (λ here. at_pos c.args.last (writes (near_write n) found.words)) c.in_ok-put_all-in-Near.ensures.ok c.in_ok-put_near_writes-in-Near.ensures.code)

pub returns-in_ok-put_far_writes-in-Far-clause-code : goal.returns-in_ok-put_far_writes-in-Far-clause-code
returns-in_ok-put_far_writes-in-Far-clause-code c =
    let found = c.in-Some.found in
    let place = sym c.placed.ensures ∙ c.in-Some.is in
    let n = c.in-Far.n in
    code_at c.args.last c.args.e.now c.put_far_writes.new.e _ found (Far n) place c.in-Far.is
    (then_code c.args.e.now c.put_all-in-Far.new.self c.put_far_writes.new.e (at_pos c.args.last (Ldc R0 0 ∷ Ldwdp R11 n ∷ []))
    (λ here. at_pos c.args.last (writes far_write found.words)) c.in_ok-put_all-in-Far.ensures.ok c.in_ok-put_far_writes-in-Far.ensures.code)

pub returns-in_ok-put_far_writes-in-Through-clause-code : goal.returns-in_ok-put_far_writes-in-Through-clause-code
returns-in_ok-put_far_writes-in-Through-clause-code c =
    let found = c.in-Some.found in
    let place = sym c.placed.ensures ∙ c.in-Some.is in
    let n = c.in-Through.n in
    code_at c.args.last c.args.e.now c.put_far_writes-in-Through.new.e _ found (Through n) place c.in-Through.is
    (then_code c.args.e.now c.put_all-in-Through.new.self c.put_far_writes-in-Through.new.e (at_pos c.args.last (Ldc R0 0 ∷ Ldwdp R11 n ∷ []))
    (λ here. at_pos c.args.last (writes far_write 1)) c.in_ok-put_all-in-Through.ensures.ok c.in_ok-put_far_writes-in-Through.ensures.code)

pub returns-in_err-put_near_writes-in-Near-clause-refused :
    goal.returns-in_err-put_near_writes-in-Near-clause-refused
returns-in_err-put_near_writes-in-Near-clause-refused c =
    on_err _ _ (behind_extends _ _ _ _ c.in_ok-put_all-in-Near.ensures.ok c.in_err-put_near_writes-in-Near.ensures.refused)

pub returns-in_err-put_far_writes-in-Far-clause-refused :
    goal.returns-in_err-put_far_writes-in-Far-clause-refused
returns-in_err-put_far_writes-in-Far-clause-refused c =
    on_err _ _ (behind_extends _ _ _ _ c.in_ok-put_all-in-Far.ensures.ok c.in_err-put_far_writes-in-Far.ensures.refused)

pub returns-in_err-put_far_writes-in-Through-clause-refused :
    goal.returns-in_err-put_far_writes-in-Through-clause-refused
returns-in_err-put_far_writes-in-Through-clause-refused c =
    on_err _ _ (behind_extends _ _ _ _ c.in_ok-put_all-in-Through.ensures.ok c.in_err-put_far_writes-in-Through.ensures.refused)

pub returns-in_err-put_all-in-Near-clause-refused : goal.returns-in_err-put_all-in-Near-clause-refused
returns-in_err-put_all-in-Near-clause-refused c = on_err _ _ c.in_err-put_all-in-Near.ensures.refused

pub returns-in_err-put_all-in-Far-clause-refused : goal.returns-in_err-put_all-in-Far-clause-refused
returns-in_err-put_all-in-Far-clause-refused c = on_err _ _ c.in_err-put_all-in-Far.ensures.refused

pub returns-in_err-put_all-in-Through-clause-refused : goal.returns-in_err-put_all-in-Through-clause-refused
returns-in_err-put_all-in-Through-clause-refused c = on_err _ _ c.in_err-put_all-in-Through.ensures.refused
