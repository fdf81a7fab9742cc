-- An input: transfer and write, one after another.
use Rattle.std.proofs.Common.{◌≡◌, ℕ, ◌+◌, ◌-◌, ◌*◌, Bool, List, [], ◌∷◌, ◌++◌, length, Option, Some, None, ap, subst, arith, length-append}
use Rattle.xw_words.specs.declared.pos.Pos.{Pos}
use Rattle.xs_instr.specs.declared.image.Home.{Home}
use Rattle.xs_instr.specs.declared.instr.Reg.TheVariants.{R0}
use Rattle.xs_instr.specs.declared.state.CoreState.{CoreState}
use Rattle.xs_instr.specs.declared.state.Regs.{Regs}
use Rattle.xs_instr.specs.declared.state.Thread.{Thread}
use Rattle.xs_instr.specs.Lines.{Line}
use Rattle.xs_instr.specs.OwnSteps.{HasRoom, IsApart, RunsAt, StandAt, Within}
use Rattle.xs_instr.specs.Registers.{reg_set}
use Rattle.xc_kernel.specs.Plain as kernel
use Rattle.xl_expr.specs.declared.plan.Plan.{Plan}
use Rattle.xl_expr.specs.Destinations.{WritesTo}
use Rattle.xl_expr.specs.Measures.{nodes_at}
use Rattle.xl_expr.specs.Stores.{StoreOutcome, index_in}
use Rattle.xl_expr.proofs.Lists.{stand_front, stand_back}
use Rattle.xl_chan.specs.Protocols.{Act, ActsAll, Behind, at_index, input_acts, sends, takes, takes_word}
use Rattle.xl_chan.specs.Transfers.{AtProtocol, EndStands, EndsAt, StoresFrom, Takes, TakesTo}
use Rattle.xl_chan.proofs.Transferring.{within_map}

-- what follows the steps of a protocol, in other words
module _ (home : Home) (t e : ℕ) (thread : Thread) (pos : Pos) where
  behind_map : (act : Act) (P Q : Regs → Type 0) → ((regs : Regs) → P regs → Q regs) → (regs : Regs) → Behind home t e thread pos act P regs → Behind home t e thread pos act Q regs
  behind_map (sends tokens) P Q f regs h = f regs h
  behind_map (takes_word to) P Q f regs h = λ v. f (reg_set regs to v) (h v)
  behind_map (takes control) P Q f regs h = f regs h

  acts_map : (acts : List Act) (P Q : ℕ → Regs → Type 0) → ((index : ℕ) (regs : Regs) → P index regs → Q index regs) → (index : ℕ) (regs : Regs) → ActsAll home t e thread pos acts P index regs → ActsAll home t e thread pos acts Q index regs
  acts_map [] P Q f index regs h = f index regs h
  acts_map (act ∷ acts) P Q f index regs h =
      (h.0, behind_map act (ActsAll home t e thread pos acts P (index + 1)) (ActsAll home t e thread pos acts Q (index + 1)) (acts_map acts P Q f (index + 1)) regs h.1)

module _ (plan : Plan) (end : ℕ) (plain : Bool) (pos : Pos) (pc : ℕ) (ls ms : List Line) (receives : Takes plan end R0 plain pos pc ls) where
  module _ (home : Home) (relied : ℕ → Bool) (s t e : ℕ) (thread : Thread) (a : CoreState) (stand : StandAt home.parts.code pc (ls ++ ms)) (at_work : RunsAt t pc thread a) (room : HasRoom relied s thread.regs a.words) (stands : EndStands home relied s thread.regs.dp plan end e a.words) where
    abbrev pc1 : ℕ
    pc1 = pc + length ls

    abbrev behind : ℕ
    behind = pc + length (ls ++ ms)

    -- behind the transfer
    writes_from : (dest : Option kernel.Place) → WritesTo plan.vars dest pc1 ms → (index : ℕ) (regs : Regs) → EndsAt pc1 index regs → StoresFrom plan.vars home relied s t thread dest behind index regs
    writes_from None none index regs is = omega (arith, is, ap length none, length-append ls ms)
    writes_from (Some place) st index regs is = λ store c here room' laid.
        let last : pc1 + length ms ≡ behind = omega (arith, length-append ls ms) in
        subst (λ n. Within home relied (IsApart s) t (StoreOutcome plan.vars home relied s t (at_index thread index regs) c.words place regs.r0 n (index_in store place)) (8 * nodes_at place - 1) c) last
        (st.by home relied s t (at_index thread index regs) store c (stand_back home.parts.code pc ls ms stand)
        (record { here = here; pc_is = is; runs = at_work.runs; no_events = at_work.no_events }) room' laid)

    word_leads : (dest : Option kernel.Place) → WritesTo plan.vars dest pc1 ms → Within home relied (IsApart s) t (AtProtocol home relied s t e thread a.words pos (input_acts R0 plain) (StoresFrom plan.vars home relied s t thread dest behind)) 3 a
    word_leads dest writes =
        within_map home relied (IsApart s) t
        (AtProtocol home relied s t e thread a.words pos (input_acts R0 plain) (EndsAt pc1))
        (AtProtocol home relied s t e thread a.words pos (input_acts R0 plain) (StoresFrom plan.vars home relied s t thread dest behind))
        (λ b h. record {
          index = h.index;
          regs = h.regs;
          here = h.here;
          others = h.others;
          within = h.within;
          words = h.words;
          steps = acts_map home t e thread pos (input_acts R0 plain) (EndsAt pc1) (StoresFrom plan.vars home relied s t thread dest behind) (writes_from dest writes) h.index h.regs h.steps;
        }) 3 a
        (receives.by home relied s t e thread a (stand_front home.parts.code pc ls ms stand) at_work room stands)

  -- the public clause, from those of the parts
  pub joined_takes : (dest : Option kernel.Place) → WritesTo plan.vars dest (pc + length ls) ms → TakesTo plan end dest plain pos pc (ls ++ ms)
  joined_takes dest writes = record {
    by = λ home relied s t e thread a stand at_work room stands. word_leads home relied s t e thread a stand at_work room stands dest writes;
  }
