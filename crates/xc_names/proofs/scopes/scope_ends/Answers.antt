use Rattle.std.proofs.Common.{◌≡◌, ℕ, ◌+◌, ◌-◌, ◌<◌, List, length, get_or, slice_set, ap, subst, ◌∙◌, arith}
use Rattle.xc_tree.specs.declared.names.Mark.{Mark}
use Rattle.xc_names.specs.Ends.{open_before, last_or}
use Rattle.xc_names.proofs.Ends.{Back, back_over}
use Rattle.xc_names.proofs.scopes.scope_ends.Goals as goal

below : (n : ℕ) → 0 < n → n ≡ n - 1 + 1
below n h = omega arith

step : (ms : List Mark) (n : ℕ) (m : Mark) (closing ends new new_ends : List ℕ) (x : ℕ) → 0 < n → Back ms n closing ends → m ≡ get_or ms (n - 1) m → new ≡ open_before m (n - 1) closing → x ≡ last_or (length ms) new → new_ends ≡ slice_set ends (n - 1) x → Back ms (n - 1) new new_ends
step ms n m closing ends new new_ends x h b e f g k =
    let less : n - 1 < length ms = let w = b.within in omega arith in
    let before = subst (λ (j : ℕ). Back ms j closing ends) (below n h) b in
    rw (k, g, f) (back_over ms (n - 1) m closing ends e less before)

pub back-preserved : goal.back-preserved
back-preserved c =
    step c.args.marks.now c.back.at c.index-marks-at.result c.back.closing.items c.back.ends c.step_back.new.closing.items c.set.new.self c.last_of.result c.back-test.true c.back.invariant c.index-marks-at.is c.in_ok-step_back.ensures (c.last_of.ensures ∙ ap (last_or (length c.args.marks.now)) c.as_slice.ensures) c.set.ensures
