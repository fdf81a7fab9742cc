-- An output: value and transfer, one after another.
use Rattle.std.proofs.Common.{◌≡◌, ℕ, ◌+◌, ◌*◌, Bool, false, List, [], ◌∷◌, ◌++◌, length, refl, sym, ◌∙◌, subst, arith, length-append}
use Rattle.xw_words.specs.declared.pos.Pos.{Pos}
use Rattle.xs_instr.specs.declared.image.Home.{Home}
use Rattle.xs_instr.specs.declared.instr.Reg.{Reg}
use Rattle.xs_instr.specs.declared.instr.Reg.TheVariants.{R0, R11, Dp, Sp}
use Rattle.xs_instr.specs.declared.state.CoreState.{CoreState}
use Rattle.xs_instr.specs.declared.state.Regs.{Regs}
use Rattle.xs_instr.specs.declared.state.Thread.{Thread}
use Rattle.xs_instr.specs.Lines.{Line}
use Rattle.xs_instr.specs.OwnSteps.{HasRoom, IsApart, RunsAt, StandAt, Within}
use Rattle.xs_instr.specs.Registers.{reg_set}
use Rattle.xc_kernel.specs.Plain as kernel
use Rattle.xc_kernel.specs.Values.{Value, word, error}
use Rattle.xc_kernel.specs.Eval.{Store, eval}
use Rattle.xl_expr.specs.declared.plan.Plan.{Plan}
use Rattle.xl_expr.specs.Identifiers.{IsIdentifier}
use Rattle.xl_expr.specs.Measures.{nodes}
use Rattle.xl_expr.specs.Stores.{is_working}
use Rattle.xl_expr.specs.Works.{Evaluates, Gives, IsLaid, Outcome, is_scratch, same_reg}
use Rattle.xl_expr.proofs.Evaluates.{then_within, within_more, within_most}
use Rattle.xl_expr.proofs.Lists.{stand_front, stand_back}
use Rattle.xl_chan.specs.Protocols.{Act, Acts, ActsAll, at_index, output_acts, sends, takes, takes_word}
use Rattle.xl_chan.specs.Transfers.{AtProtocol, EndStands, EndsAt, OutputReaches, Sends, SendsValue}
use Rattle.xl_chan.proofs.Transferring.{same_identifier, within_map}

-- a register that no part changes
working_scratch : (r : Reg) → is_working r ≡ false → is_scratch r ≡ false
working_scratch R0 h = cc
working_scratch R11 h = cc
working_scratch other h = refl

working_r0 : (r : Reg) → is_working r ≡ false → same_reg r R0 ≡ false
working_r0 R0 h = cc
working_r0 other h = refl

-- the steps of a protocol don't ask where the thread stood before
module _ (home : Home) (t e : ℕ) (thread : Thread) (before : ℕ) (regs0 : Regs) (pos : Pos) where
  abbrev there : Thread
  there = at_index thread before regs0

  act_moves : (act : Act) (index : ℕ) (regs : Regs) → Acts home t e there pos act index regs → Acts home t e thread pos act index regs
  act_moves (sends tokens) index regs h = record { by = h.by; faults = h.faults }
  act_moves (takes_word to) index regs h = record { by = h.by; faults = h.faults }
  act_moves (takes control) index regs h = record { by = h.by; faults = h.faults }

  acts_move : (acts : List Act) (Q : ℕ → Regs → Type 0) (index : ℕ) (regs : Regs) → ActsAll home t e there pos acts Q index regs → ActsAll home t e thread pos acts Q index regs
  acts_move [] Q index regs h = h
  acts_move (sends tokens ∷ acts) Q index regs h = (act_moves (sends tokens) index regs h.0, acts_move acts Q (index + 1) regs h.1)
  acts_move (takes_word to ∷ acts) Q index regs h = (act_moves (takes_word to) index regs h.0, λ v. acts_move acts Q (index + 1) (reg_set regs to v) (h.1 v))
  acts_move (takes control ∷ acts) Q index regs h = (act_moves (takes control) index regs h.0, acts_move acts Q (index + 1) regs h.1)

module _ (plan : Plan) (end : ℕ) (x : kernel.Expression) (plain : Bool) (pos : Pos) (pc : ℕ) (ls ms : List Line) (ev : Evaluates plan.vars x R0 pc ls) (goes : Sends plan end R0 plain pos (pc + length ls) ms) where
  module _ (home : Home) (relied : ℕ → Bool) (s t e : ℕ) (thread : Thread) (store : Store) (a : CoreState) (stand : StandAt home.parts.code pc (ls ++ ms)) (at_work : RunsAt t pc thread a) (room : HasRoom relied s thread.regs a.words) (laid : IsLaid plan.vars relied s thread.regs.dp a.words store x) (stands : EndStands home relied s thread.regs.dp plan end e a.words) where
    abbrev pc1 : ℕ
    pc1 = pc + length ls

    abbrev behind : ℕ
    behind = pc + length (ls ++ ms)

    -- what is said of the thread behind the value is said of the thread before it
    said_before : (v : ℕ) (b : CoreState) (g : Gives relied s t thread a.words R0 pc1 v b) (c : CoreState) → AtProtocol home relied s t e (at_index thread pc1 g.regs) b.words pos (output_acts g.regs.r0 plain) (EndsAt (pc1 + length ms)) c → AtProtocol home relied s t e thread a.words pos (output_acts v plain) (EndsAt behind) c
    said_before v b g c h =
        let last : pc1 + length ms ≡ behind = omega (arith, length-append ls ms) in
        let all : AtProtocol home relied s t e thread a.words pos (output_acts g.regs.r0 plain) (EndsAt (pc1 + length ms)) c = record {
          index = h.index;
          regs = h.regs;
          here = h.here;
          others = λ r w. h.others r w ∙ g.others r (working_scratch r w) (working_r0 r w);
          within = h.within;
          words = λ w r l. h.words w r l ∙ g.words w r l;
          steps = acts_move home t e thread pc1 g.regs pos (output_acts g.regs.r0 plain) (EndsAt (pc1 + length ms)) h.index h.regs h.steps;
        } in
        subst (λ n. AtProtocol home relied s t e thread a.words pos (output_acts v plain) (EndsAt n) c) last
        (subst (λ n. AtProtocol home relied s t e thread a.words pos (output_acts n plain) (EndsAt (pc1 + length ms)) c) g.value all)

    on_value : (value : Value) (b : CoreState) → Outcome home relied s t thread a.words R0 pc1 value b → Within home relied (IsApart s) t (OutputReaches home relied s t e thread a.words plain pos behind value) 3 b
    on_value (error kind at_pos') b h =
        within_more home relied (IsApart s) t (OutputReaches home relied s t e thread a.words plain pos behind (error kind at_pos')) 0 3 (omega arith) b h
    on_value (word v) b g =
        let dp_is = g.others Dp refl refl in
        let same = same_identifier relied s thread.regs.dp a.words b.words g.words stands.place stands.name stands.name_is in
        within_map home relied (IsApart s) t
        (AtProtocol home relied s t e (at_index thread pc1 g.regs) b.words pos (output_acts g.regs.r0 plain) (EndsAt (pc1 + length ms)))
        (OutputReaches home relied s t e thread a.words plain pos behind (word v)) (said_before v b g) 3 b
        (goes.by home relied s t e (at_index thread pc1 g.regs) b (stand_back home.parts.code pc ls ms stand)
        (record { here = g.here; pc_is = refl; runs = at_work.runs; no_events = at_work.no_events })
        (record { sp_is = g.others Sp refl refl ∙ room.sp_is; small = room.small; within = g.within; relied_on = room.relied_on })
        (record { place = stands.place; planned = stands.planned; name = stands.name; name_is = subst (λ d. IsIdentifier relied s d b.words stands.place stands.name) (sym dp_is) same; names = stands.names }))

    value_leads : Within home relied (IsApart s) t (OutputReaches home relied s t e thread a.words plain pos behind (eval store x)) (8 * nodes x + 3) a
    value_leads =
        then_within home relied (IsApart s) t (Outcome home relied s t thread a.words R0 pc1 (eval store x)) (OutputReaches home relied s t e thread a.words plain pos behind (eval store x)) (8 * nodes x) 3 a
        (within_most home relied (IsApart s) t (Outcome home relied s t thread a.words R0 pc1 (eval store x)) (eval store x) (8 * nodes x) a
        (ev.by home relied s t thread store a (stand_front home.parts.code pc ls ms stand) at_work room laid))
        (on_value (eval store x))

  -- the public clause, from those of the parts
  pub joined_sends : SendsValue plan end x plain pos pc (ls ++ ms)
  joined_sends = record { by = value_leads }
