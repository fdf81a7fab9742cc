-- How close a kernel and its text stay: the steps of a `do`, and a tree in which an exit doesn't meet its mark.
use Rattle.std.specs.Prelude.{◌≡◌, zero, suc, true, false, List, [], ◌∷◌, ◌++◌, Some, None, codes, is_some, IsSome, IsTrue, unwrap_or, refl}
use Rattle.xs_instr.specs.declared.image.Stim.{Stim}
use Rattle.xc_tree.specs.Plain as tree
use Rattle.xc_kernel.proofs.Written.{at, id, number, result}
use Rattle.xc_kernel.specs.Plain as kernel
use Rattle.xc_kernel.specs.Copies.{copy_of}
use Rattle.xc_meaning.specs.States.Items.{mark, ends}
use Rattle.xc_meaning.specs.States.Worlds.{World, Action, clock, go, take, default}
use Rattle.xc_meaning.specs.Runs.{acts, kernel_start, program_start, kernel_run, program_run}
use Rattle.xc_meaning.specs.Quiet.{is_idle, IsQuiet, QuietBehind}
use Rattle.xc_meaning.specs.Follows.{HasMark, ExitsMeetIn}
use Rattle.xt_meaning.proofs.Running.{no_stimulus, steps, kernel_seen, program_seen, finished}

-- int main(void) { do { } while (0); return 0; }
abbrev one_turn : List tree.Item
one_turn =
    (tree.function (record { result = (Some false); name = (id (codes "main") 1 5); params = ([]); own = 5 })
    (tree.statement (tree.block (tree.statements (
    (tree.statement (tree.do_while (tree.statement (tree.block tree.no_more) (at 1 21) (at 1 23) 2) (number 0 false 1 32)) (at 1 18) (at 1 34) 6)
    ∷ (tree.statement (tree.return_with (Some (tree.value (number 0 false 1 43)))) (at 1 36) (at 1 44) 3)
    ∷ []))) (at 1 16) (at 1 46) 2))
    ∷ []

-- In the kernel the `do` does seven steps: its block, the loop's test, the body's block and mark, the test, the exit and the block's mark.
-- The `return` does three.
kernel_ends : kernel_seen one_turn no_stimulus (steps 13 0) ≡ finished []
unfolding copy_of
kernel_ends = refl

-- In the text it does five: its beginning, the body and its mark, the test and the mark. The `return` does two.
text_ends : program_seen one_turn no_stimulus (steps 10 0) ≡ finished []
unfolding copy_of
text_ends = refl

-- int f(void) { par { return 1; } return 0; }
-- int main(void) { int x = f(); return 0; }
abbrev returns_in_branch : List tree.Item
returns_in_branch =
    (tree.function (record { result = (Some false); name = (id (codes "f") 1 5); params = ([]); own = 5 })
    (tree.statement (tree.block (tree.statements (
    (tree.statement (tree.par (tree.branches ((tree.branch None (tree.statement (tree.return_with (Some (tree.value (number 1 false 1 28)))) (at 1 21) (at 1 29) 3)) ∷ []))) (at 1 15) (at 1 31) 3)
    ∷ (tree.statement (tree.return_with (Some (tree.value (number 0 false 1 40)))) (at 1 33) (at 1 41) 3)
    ∷ []))) (at 1 13) (at 1 43) 2))
    ∷ (tree.function (record { result = (Some false); name = (id (codes "main") 2 5); params = ([]); own = 5 })
    (tree.statement (tree.block (tree.statements (
    (tree.statement (tree.declare ((record { kind = (tree.word false (Some (result (id (codes "f") 2 26) ([])))); name = (id (codes "x") 2 22) }) ∷ [])) (at 2 18) (at 2 29) 7)
    ∷ (tree.statement (tree.return_with (Some (tree.value (number 0 false 2 38)))) (at 2 31) (at 2 39) 3)
    ∷ []))) (at 2 16) (at 2 41) 2))
    ∷ []

-- main has come to wait for the branch, and that has stored the result
abbrev behind_store : List Action
behind_store = steps 5 0 ++ steps 1 1

abbrev kernel_there : World
kernel_there = unwrap_or (kernel_run (copy_of returns_in_branch) no_stimulus behind_store) (kernel_start (copy_of returns_in_branch))

abbrev text_there : World
text_there = unwrap_or (program_run returns_in_branch no_stimulus behind_store) (program_start returns_in_branch)

-- in the kernel it has yet to leave a block that isn't there,
still_exits : is_some (acts (copy_of returns_in_branch) no_stimulus kernel_there (go 1)) ≡ true
unfolding copy_of
still_exits = refl

exits_busy : is_idle kernel_there (go 1) ≡ false
unfolding copy_of
exits_busy = refl

unmet : ExitsMeetIn kernel_there.branches → ⊥
unfolding copy_of
unmet h = nothing_left (h.meet 1 _ refl refl _ _ refl).is
  where
    nothing_left : {n : Rattle.std.specs.Prelude.ℕ} {behind : List Rattle.xc_meaning.specs.States.Items.Item} → [] ≡ mark n ∷ behind → ⊥
    nothing_left e = cc

-- and in the text nothing is left to do
quiet_text : IsQuiet (copy_of returns_in_branch) no_stimulus text_there
unfolding copy_of
quiet_text = record { idle = idle }
  where
    idle : (m : Action) → IsSome (acts (copy_of returns_in_branch) no_stimulus text_there m) → IsTrue (is_idle text_there m)
    idle (clock c) h = refl
    idle (go zero) h = h
    idle (go (suc zero)) h = h
    idle (go (suc (suc b))) h = h
    idle (take zero n) h = h
    idle (take (suc zero) n) h = h
    idle (take (suc (suc b)) n) h = h
    idle (default zero) h = h
    idle (default (suc zero)) h = h
    idle (default (suc (suc b))) h = h

-- The items of a branch that leaves block 3 have its mark, or not.
outside : HasMark 3 (mark 4 ∷ ends ∷ []) → ⊥
outside h = nothing_left h.is
  where
    nothing_left : [] ≡ mark 3 ∷ h.behind → ⊥
    nothing_left e = cc

inside : HasMark 3 (mark 4 ∷ mark 3 ∷ ends ∷ [])
inside = record { behind = ends ∷ []; is = refl }

-- Quiet behind no tick is quiet.
quiet_now : (K : kernel.Kernel) (s : Stim) (x : World) → QuietBehind K s x [] → IsQuiet K s x
quiet_now K s x q = q.quiet x refl
