-- The code of a store writes a register's word to a place, on a core, whatever other threads do.
use Rattle.std.proofs.Common.{ℕ, ◌+◌, ◌-◌, ◌*◌, ◌≤◌, Bool, List, length, Option, refl, ap, ◌∙◌, arith}
use Rattle.xw_words.specs.declared.pos.Pos.{Pos}
use Rattle.xs_instr.specs.declared.image.Home.{Home}
use Rattle.xs_instr.specs.declared.instr.Reg.{Reg}
use Rattle.xs_instr.specs.declared.state.CoreState.{CoreState}
use Rattle.xs_instr.specs.declared.state.Thread.{Thread}
use Rattle.xs_instr.specs.Did.{map_did}
use Rattle.xs_instr.specs.Registers.{reg_get}
use Rattle.xs_instr.specs.Rows.{put_local}
use Rattle.xs_instr.specs.OwnSteps.{IsApart, HasRoom, Kept, RunsAt, Within, temporary}
use Rattle.xc_kernel.specs.Plain as kernel
use Rattle.xc_kernel.specs.Values.{Value, word, error}
use Rattle.xc_kernel.specs.Eval.{Store}
use Rattle.xl_expr.specs.declared.plan.VarPlan.{VarPlan}
use Rattle.xl_expr.specs.Measures.{nodes_at, depth_at}
use Rattle.xl_expr.specs.Stores.{store_code, index_in, IsAddress, Writes, StoreOutcome, Stores}
use Rattle.xl_expr.proofs.Ways.{own, Fits, at_pc, fits_kept, turn_is, way_leads, fails_errs}
use Rattle.xl_expr.proofs.Lists.{room_kept}
use Rattle.xl_expr.proofs.Evaluates.{small, starts, ready}
use Rattle.xl_expr.proofs.StoreRuns.{WriteRuns, Writing, place_writes}

pub some_place : (p : kernel.Place) → 1 ≤ nodes_at p
some_place (kernel.word v) = omega arith
some_place (kernel.element v i pos) = omega arith

module _ (home : Home) (relied : ℕ → Bool) (s t : ℕ) (thread : Thread) (a : CoreState) (pc : ℕ) (at_work : RunsAt t pc thread a) (room : HasRoom relied s thread.regs a.words) (vars : List (Option VarPlan)) (place : kernel.Place) (store : Store) where
  abbrev Reaches : ℕ → ℕ → ℕ → Value → Type 0
  Reaches v pc' most val = Within home relied (IsApart s) t (StoreOutcome vars home relied s t thread a.words place v pc' val) most a

  writes_by : (pc' most v address : ℕ) (w : Writing home.parts.code relied s (small home relied s t thread a pc at_work room) room.relied_on thread.regs.dp a.words vars store thread.regs a.words pc pc' most v address) (b : CoreState) → Fits home.parts.code relied (IsApart s) t thread (own w.index w.regs' w.words') b → (c : CoreState) → Kept relied t b c → Writes home relied s t thread a.words address v pc' c
  writes_by pc' most v address w b f c k =
      let fc = fits_kept home.parts.code relied (IsApart s) t thread (own w.index w.regs' w.words') b c f k in
      record {
        index = w.index;
        regs = w.regs';
        here = fc.here;
        others = w.leaves.others;
        within = let r = room.within in let size = w.leaves.size in room_kept relied s room.relied_on w.words' c.words (omega arith) fc.words.by;
        words = λ x r h. fc.words.by x r ∙ w.leaves.same x h;
        made = turn_is home.parts.code relied (IsApart s) home t thread at_work.runs at_work.no_events refl c (own w.index w.regs' w.words') w.instr fc w.stands w.plain ∙ ap (map_did (put_local c t (at_pc thread w.index w.regs'))) (w.turn c.words fc.words);
      }

  writes_reach : (pc' most v : ℕ) (val : Value) → WriteRuns home.parts.code relied s (small home relied s t thread a pc at_work room) room.relied_on thread.regs.dp a.words vars store (IsAddress vars relied s thread.regs.dp a.words place) thread.regs a.words pc pc' most v val → Reaches v pc' most val
  writes_reach pc' most v (word i) r =
      let w = r.2 in
      way_leads home.parts.code relied (IsApart s) home t thread at_work.runs at_work.no_events refl _ w.count most (own pc thread.regs a.words) (own w.index w.regs' w.words') w.few w.way (λ b f. (r.0, r.1, writes_by pc' most v r.0 w b f)) a (starts home relied s t thread a pc at_work room)
  writes_reach pc' most v (error kind pos) r =
      way_leads home.parts.code relied (IsApart s) home t thread at_work.runs at_work.no_events refl _ r.count most (own pc thread.regs a.words) r.there r.few r.way (λ b f. fails_errs home.parts.code relied (IsApart s) home t thread at_work.runs at_work.no_events refl kind pos r.there r.fails b f) a (starts home relied s t thread a pc at_work room)

-- the public clause, from the code alone
pub code_stores : (vars : List (Option VarPlan)) (place : kernel.Place) (from : Reg) (pc : ℕ) (last : Pos) → depth_at place ≤ temporary → Stores vars place from pc (store_code vars place from pc last)
code_stores vars place from pc last shallow = record {
  by = λ home relied s t thread store a st at_work room laid.
      writes_reach home relied s t thread a pc at_work room vars place store (pc + length (store_code vars place from pc last)) (8 * nodes_at place - 1) (reg_get thread.regs from) (index_in store place)
      (place_writes home.parts.code relied s (small home relied s t thread a pc at_work room) room.relied_on thread.regs.dp a.words vars store place from last pc thread.regs a.words laid st shallow (ready home relied s t thread a pc at_work room));
}
