-- The trace, a tick further.
use Rattle.std.proofs.Common.{◌≡◌, ℕ, ◌+◌, List, [], ◌++◌, refl, sym, ◌∙◌, add-one, append_assoc}
use Rattle.xr_windows.specs.declared.stamped.Stamped.{Stamped}
use Rattle.xr_windows.specs.Merge.{at_tick, round_of, rounds_of}
use Rattle.xr_windows.specs.Cut.{first_at, Left}
use Rattle.xr_windows.proofs.Cuts.{left_now}
use Rattle.xs_instr.specs.declared.trace.Record.{Record}

pub rounds_none : (a b c d : List Stamped) → rounds_of a b c d 0 ≡ []
unfolding rounds_of
rounds_none a b c d = refl

rounds_more : (a b c d : List Stamped) (t : ℕ) → rounds_of a b c d (t + 1) ≡ rounds_of a b c d t ++ round_of a b c d (t + 1)
unfolding rounds_of
rounds_more a b c d t = rw add-one refl

four : (r p q x y : List Record) → (((r ++ p) ++ q) ++ x) ++ y ≡ r ++ (((p ++ q) ++ x) ++ y)
four r p q x y = simp append_assoc

pub trace_next : (a b c d i j k l : List Stamped) (t : ℕ) (t0 t1 t2 t3 t4 : List Record)
    → Left t a i → Left t b j → Left t c k → Left t d l
    → t0 ≡ rounds_of a b c d t
    → t1 ≡ t0 ++ first_at (t + 1) i → t2 ≡ t1 ++ first_at (t + 1) j → t3 ≡ t2 ++ first_at (t + 1) k → t4 ≡ t3 ++ first_at (t + 1) l
    → t4 ≡ rounds_of a b c d (t + 1)
trace_next a b c d i j k l t t0 t1 t2 t3 t4 ha hb hc hd e0 e1 e2 e3 e4 =
    let all : t4 ≡ (((rounds_of a b c d t ++ at_tick (t + 1) a) ++ at_tick (t + 1) b) ++ at_tick (t + 1) c) ++ at_tick (t + 1) d =
    rw (e4, e3, e2, e1, e0, left_now t a i ha, left_now t b j hb, left_now t c k hc, left_now t d l hd) refl in
    all ∙ four (rounds_of a b c d t) (at_tick (t + 1) a) (at_tick (t + 1) b) (at_tick (t + 1) c) (at_tick (t + 1) d) ∙ sym (rounds_more a b c d t)
