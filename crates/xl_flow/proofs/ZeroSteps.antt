-- The lines of the code that sets words to 0, one word after another.
use Rattle.std.proofs.Common.{◌≡◌, ℕ, zero, suc, ◌+◌, ◌*◌, ◌≤◌, Option, Some, None, List, [], ◌++◌, length, refl, sym, ap, ◌∙◌, arith, length-append, append_assoc, append-nil}
use Rattle.xw_words.specs.declared.pos.Pos.{Pos}
use Rattle.xs_instr.specs.declared.instr.Instr.{Instr}
use Rattle.xs_instr.specs.Lines.{Line, at_pos}
use Rattle.xl_expr.specs.declared.plan.VarAt.{VarAt}
use Rattle.xl_expr.specs.declared.plan.VarAt.TheVariants.{Near, Far, Through}
use Rattle.xl_expr.specs.declared.plan.VarPlan.{VarPlan}
use Rattle.xl_expr.proofs.Emitted.{at_pos-append}
use Rattle.xl_flow.specs.Zeros.{far_write, near_write, room_of, words_set, writes, zero_instrs, zero_of}

pub near-length : (pos : Pos) (n i : ℕ) → length (at_pos pos (writes (near_write n) i)) ≡ i
near-length pos n zero = refl
near-length pos n (suc i) =
    omega (arith, ap length (at_pos-append pos (writes (near_write n) i) (near_write n i)), length-append (at_pos pos (writes (near_write n) i)) (at_pos pos (near_write n i)), near-length pos n i)

pub far-length : (pos : Pos) (i : ℕ) → length (at_pos pos (writes far_write i)) ≡ 2 * i
far-length pos zero = refl
far-length pos (suc i) =
    omega (arith, ap length (at_pos-append pos (writes far_write i) (far_write i)), length-append (at_pos pos (writes far_write i)) (at_pos pos (far_write i)), far-length pos i)

pub room_is : (pos : Pos) (found : Option VarPlan) → length (zero_of found pos) ≤ room_of found
room_is pos None = omega arith
room_is pos (Some found) = at_place found.place
  where
    at_place : (place : VarAt) → length (at_pos pos (zero_instrs place found.words)) ≤ 2 * words_set place found.words + 2
    at_place (Near n) = omega (arith, near-length pos n found.words)
    at_place (Far n) = omega (arith, far-length pos found.words)
    at_place (Through n) = omega (arith, far-length pos 1)

-- one word more
pub one_more : (write : ℕ → List Instr) (pos : Pos) (i : ℕ) (old e1 e2 : List Line) → e1 ≡ old ++ at_pos pos (writes write i) → e2 ≡ e1 ++ at_pos pos (write i) → e2 ≡ old ++ at_pos pos (writes write (i + 1))
one_more write pos i old e1 e2 h g =
    let next : suc i ≡ i + 1 = omega arith in
    g
    ∙ ap (λ ls. ls ++ at_pos pos (write i)) h
    ∙ append_assoc old (at_pos pos (writes write i)) (at_pos pos (write i))
    ∙ ap (λ ls. old ++ ls) (sym (at_pos-append pos (writes write i) (write i)))
    ∙ ap (λ k. old ++ at_pos pos (writes write k)) next

pub none_yet : (old : List Line) → old ≡ old ++ []
none_yet old = sym (append-nil old)
