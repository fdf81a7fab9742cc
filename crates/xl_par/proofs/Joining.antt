-- The code behind the first branch of a `par`.
use Rattle.std.proofs.Common.{◌≡◌, ℕ, zero, suc, ◌+◌, ◌<◌, Bool, true, false, Some, refl, ap, ◌∙◌, inl, inr, arith}
use Rattle.std.specs.Prelude.{slice_get}
use Rattle.xw_words.specs.declared.pos.Pos.{Pos}
use Rattle.xs_instr.specs.declared.image.Home.{Home}
use Rattle.xs_instr.specs.declared.instr.Instr.TheVariants.{Freer, Mjoin}
use Rattle.xs_instr.specs.declared.instr.Reg.{Reg}
use Rattle.xs_instr.specs.declared.instr.Reg.TheVariants.{R1, R2, R3, R4, R5, R6, R7, R10}
use Rattle.xs_instr.specs.declared.state.CoreState.{CoreState}
use Rattle.xs_instr.specs.declared.state.Regs.{Regs}
use Rattle.xs_instr.specs.declared.state.Thread.{Thread}
use Rattle.xs_instr.specs.Did.{map_did}
use Rattle.xs_instr.specs.Lines.{at_pos}
use Rattle.xs_instr.specs.OwnSteps.{RunsAt, StandAt, Within}
use Rattle.xs_instr.specs.Pool.{joined, joined_when, sync_freed, sync_freed_by}
use Rattle.xs_instr.specs.Registers.{reg_get}
use Rattle.xs_instr.specs.Resources.{ASync, named, on_sync, sync_name, where_taken}
use Rattle.xs_instr.specs.Rows.{free_row, goes_with, put_syncs, put_threads}
use Rattle.xl_expr.specs.Leads.{Leads}
use Rattle.xl_expr.proofs.Ways.{Fits, Way, at_pc, fits_kept, own, turn_row, way_leads}
use Rattle.xl_expr.proofs.Wider.{leads_map}
use Rattle.xl_par.specs.Closing.{Closes, Joins, KeptSync, QuietStep, closing_instrs, is_closing}
use Rattle.xl_par.proofs.Moves.{by_or, everywhere, fits_there}
use Rattle.xl_par.proofs.Names.{sync_named}

-- what leads somewhere leads there beside a synchroniser, which is then as it was
beside_sync : (home : Home) (relied : ℕ → Bool) (t n : ℕ) (Q : CoreState → Type 0) (k : ℕ) (a : CoreState) → slice_get a.syncs n ≡ Some true → Within home relied everywhere t Q k a → Leads (KeptSync relied t n) (QuietStep home t) (λ b. Q b × (slice_get b.syncs n ≡ Some true)) k a
beside_sync home relied t n Q zero a e h = (h, e)
beside_sync home relied t n Q (suc k) a e (inl h) = inl (h, e)
beside_sync home relied t n Q (suc k) a e (inr h) = inr (λ b s.
    let x = h b s.own in
    let same : slice_get x.0.syncs n ≡ slice_get b.syncs n = ap (λ (c : CoreState). slice_get c.syncs n) x.1.left in
    (x.0, x.1, beside_sync home relied t n Q k x.0 (same ∙ (s.sync ∙ e)) x.2))

abbrev closing_regs : Regs → Regs
closing_regs s = record s { r1 = s.r2; r2 = s.r3; r3 = s.r4; r4 = s.r5; r5 = s.r6; r6 = s.r7; r10 = s.r1 }

others_stay : (s : Regs) (r : Reg) → is_closing r ≡ false → reg_get (closing_regs s) r ≡ reg_get s r
others_stay s R1 h = cc
others_stay s R2 h = cc
others_stay s R3 h = cc
others_stay s R4 h = cc
others_stay s R5 h = cc
others_stay s R6 h = cc
others_stay s R10 h = cc
others_stay s other h = refl

module _ (home : Home) (relied : ℕ → Bool) (t n : ℕ) (thread : Thread) (pos : Pos) (pc : ℕ) (a : CoreState) (few : n < 8) (r1_is : thread.regs.r1 ≡ sync_name home.number n) (st : StandAt home.parts.code pc (at_pos pos closing_instrs)) (at_work : RunsAt t pc thread a) where
  abbrev index : ℕ
  index = pc + 1 + 1 + 1 + 1 + 1 + 1 + 1

  abbrev regs : Regs
  regs = closing_regs thread.regs

  way : Way home.parts.code relied everywhere 7 (own pc thread.regs a.words) (own index regs a.words)
  way =
      let s = thread.regs in
      let s1 = record s { r10 = s.r1 } in
      let s2 = record s1 { r1 = s.r2 } in
      let s3 = record s2 { r2 = s.r3 } in
      let s4 = record s3 { r3 = s.r4 } in
      let s5 = record s4 { r4 = s.r5 } in
      let s6 = record s5 { r5 = s.r6 } in
      let code = home.parts.code in
      let ws = a.words in (
        own (pc + 1) s1 ws,
        by_or code relied ws R10 R1 (pc) s st.0,
        (
          own (pc + 1 + 1) s2 ws,
          by_or code relied ws R1 R2 (pc + 1) s1 st.2.0,
          (
            own (pc + 1 + 1 + 1) s3 ws,
            by_or code relied ws R2 R3 (pc + 1 + 1) s2 st.2.2.0,
            (
              own (pc + 1 + 1 + 1 + 1) s4 ws,
              by_or code relied ws R3 R4 (pc + 1 + 1 + 1) s3 st.2.2.2.0,
              (
                own (pc + 1 + 1 + 1 + 1 + 1) s5 ws,
                by_or code relied ws R4 R5 (pc + 1 + 1 + 1 + 1) s4 st.2.2.2.2.0,
                (
                  own (pc + 1 + 1 + 1 + 1 + 1 + 1) s6 ws,
                  by_or code relied ws R5 R6 (pc + 1 + 1 + 1 + 1 + 1) s5 st.2.2.2.2.2.0,
                  (
                    own (pc + 1 + 1 + 1 + 1 + 1 + 1 + 1) regs ws,
                    by_or code relied ws R6 R7 (pc + 1 + 1 + 1 + 1 + 1 + 1) s6 st.2.2.2.2.2.2.0,
                    refl,
                  ),
                ),
              ),
            ),
          ),
        ),
      )

  name : named home.number regs.r10 ≡ ASync n
  name = ap (named home.number) r1_is ∙ sync_named home.number n few

  -- behind the seven steps
  at_join : (c : CoreState) → Fits home.parts.code relied everywhere t thread (own index regs a.words) c → slice_get c.syncs n ≡ Some true → Joins home relied t n thread a.words pos (pc + 9) c
  at_join c f taken =
      let th = at_pc thread index regs in
      let behind = at_pc thread (index + 1) regs in
      let goes = goes_with put_threads c t th in
      let row =
      turn_row home.parts.code relied everywhere home t thread at_work.runs at_work.no_events refl c index regs (Mjoin R10) f.here st.2.2.2.2.2.2.2.0 refl
      ∙ ap (λ m. map_did goes (on_sync c (joined c.threads) m)) name
      ∙ ap (λ o. map_did goes (where_taken (joined c.threads n) o)) taken in
      record {
        index = index;
        regs = regs;
        here = f.here;
        place = st.2.2.2.2.2.2.2.1;
        next = omega arith;
        outer = record { r1 = refl; r2 = refl; r3 = refl; r4 = refl; r5 = refl; r6 = refl };
        others = others_stay thread.regs;
        words = f.words.by;
        waits = λ m. row ∙ ap (λ b. map_did goes (joined_when c.threads n b)) m;
        joins = λ m. row ∙ ap (λ b. map_did goes (joined_when c.threads n b)) m;
        frees = λ d here there untied.
            turn_row home.parts.code relied everywhere home t thread at_work.runs at_work.no_events refl d (index + 1) regs (Freer R10) here st.2.2.2.2.2.2.2.2.0 refl
            ∙ ap (free_row d t behind) name
            ∙ ap (λ o. map_did (goes_with put_syncs d t behind) (where_taken (sync_freed d.threads d.syncs n) o)) there
            ∙ ap (λ b. map_did (goes_with put_syncs d t behind) (sync_freed_by d.syncs n b)) untied;
      }

  pub join_leads : slice_get a.syncs n ≡ Some true → Leads (KeptSync relied t n) (QuietStep home t) (λ b. (c : CoreState) → KeptSync relied t n b c → Joins home relied t n thread a.words pos (pc + 9) c) 7 a
  join_leads taken =
      leads_map (KeptSync relied t n) (QuietStep home t)
      (λ b. Fits home.parts.code relied everywhere t thread (own index regs a.words) b × (slice_get b.syncs n ≡ Some true))
      (λ b. (c : CoreState) → KeptSync relied t n b c → Joins home relied t n thread a.words pos (pc + 9) c)
      (λ b h c k. at_join c (fits_kept home.parts.code relied everywhere t thread (own index regs a.words) b c h.0 k.own) (k.sync ∙ h.1))
      7 a
      (beside_sync home relied t n (Fits home.parts.code relied everywhere t thread (own index regs a.words)) 7 a taken
      (way_leads home.parts.code relied everywhere home t thread at_work.runs at_work.no_events refl
      (Fits home.parts.code relied everywhere t thread (own index regs a.words)) 7 7 (own pc thread.regs a.words) (own index regs a.words) (omega arith) way (λ b h. h) a
      (fits_there home.parts.code relied t pc thread a at_work)))

pub closing_closes : (pos : Pos) (pc : ℕ) → Closes pos pc (at_pos pos closing_instrs)
closing_closes pos pc = record {
  by = λ home relied t n thread a few r1_is taken st at_work. join_leads home relied t n thread pos pc a few r1_is st at_work taken;
}
