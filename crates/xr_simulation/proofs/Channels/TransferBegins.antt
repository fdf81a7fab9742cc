-- A branch begins a transfer on the side of a channel in which it stands: nobody else is inside one there.
use Rattle.std.proofs.Common.{◌≡◌, ◌≢◌, inl, ℕ, IsTrue, List, [], Option, Some, None, refl, sym, ap, ◌∙◌, subst, ⊎_elim}
use Rattle.std.specs.Prelude.{Bool, false, slice_get}
use Rattle.std.proofs.lemmas.Bool.{cases_eq}
use Rattle.std.proofs.lemmas.Option.{none-some, same_Some}
use Rattle.xc_kernel.specs.Things.{channel}
use Rattle.xc_invariants.specs.Tree.{IsWaiting}
use Rattle.xc_meaning.specs.States.Branches.{Branch, runs, side_of}
use Rattle.xc_meaning.specs.States.Channels.{Parcel, Side, first, second, other_side}
use Rattle.xc_meaning.specs.Uses.{by_items}
use Rattle.xl_par.specs.Acquired.{Acquired}
use Rattle.xl_plan.specs.Layout.{core_of}
use Rattle.xr_simulation.specs.Runners.{IsChannel, Runner}
use Rattle.xr_simulation.specs.Transfers.{owing}
use Rattle.xr_simulation.specs.Wired.{HasAlone, IsLine, IsTransferring}
use Rattle.xr_simulation.proofs.Channels.OwnSide.{alone_begins, alone_excludes}
use Rattle.xr_simulation.proofs.Relation.Moments.{Moment, ThreadAt}
use Rattle.xr_simulation.proofs.Relation.CoreSteps.{same_runner, works_at}
use Rattle.xr_simulation.proofs.Channels.WiredMoves.{Moves}
use Rattle.xr_simulation.proofs.Channels.Wiring.{late_between, wired_between}
use Rattle.xr_channels.specs.Phases.{Phase, between, side_state}

-- no side is the other one
not_other : (side : Side) → ◌≡◌ {A = Option Side} (Some side) (Some (other_side side)) → ⊥
not_other first e = cc
not_other second e = cc

module _ {may_rest : (core thread : ℕ) → Bool} {moment : Moment may_rest} {hand : Option Acquired} (thread_at : ThreadAt moment hand)
    (outside : thread_at.runner.transfer ≡ None)
    (branch : Branch) (known : slice_get moment.told.state.branches thread_at.runner.branch ≡ Some branch) (on : branch.mode ≡ runs) (d : ℕ)
    (side : Side) (is_channel : IsChannel moment.setting thread_at.runner d) (uses : IsTrue (by_items (channel d) branch.items))
    (stands : side_of branch d ≡ Some side) (here : core_of moment.setting.program d side ≡ thread_at.runner.core) where
  open moment use {setting as g, image as is, roles as who, watched as w, told as x, standing as st}
  open thread_at use {core as c, thread as t, runner as r, runs as runs_r}

  awake : IsWaiting branch.mode → ⊥
  awake h = subst IsWaiting on h

  -- its line
  pub lines_there : (line : ℕ) × IsLine g.program line d
  lines_there = is.lines.used r.core d is_channel.known is_channel.used

  abbrev pub line : ℕ
  line = lines_there.0

  pub line_there : IsLine g.program line d
  line_there = lines_there.1

  pub core_there : core_of g.program d side ≡ c
  core_there = here ∙ st.roles.core c t r hand runs_r

  -- a thread that is inside a transfer there would run this very branch
  pub nobody : (e u : ℕ) → IsTransferring who e u d side → ⊥
  nobody e u i =
      ⊎_elim
      (λ (same : i.runner.branch ≡ r.branch).
      let one = st.roles.branches c t e u r.branch r i.runner hand i.hand runs_r i.runs (inl refl) (inl (sym same)) in
      let own : r ≡ i.runner = same_runner r i.runner hand i.hand (sym runs_r ∙ sym (ap (λ k. who k u) one.0 ∙ ap (who c) one.1) ∙ i.runs) in
      none-some i.transfer (sym outside ∙ ap (λ (k : Runner). k.transfer) own ∙ i.is))
      (λ (ne : i.runner.branch ≢ r.branch).
      let works = works_at moment e u i.runner i.hand i.runs in
      let alone : HasAlone x.state.branches d side i.runner.branch = subst (λ k. HasAlone x.state.branches k side i.runner.branch) i.channel_is (subst (λ k. HasAlone x.state.branches i.transfer.channel k i.runner.branch) i.side_is (st.alone e u i.runner i.hand i.transfer i.runs i.is)) in
      not_other side (sym stands ∙ alone_excludes d side x.state.branches i.runner.branch r.branch works.branch branch alone works.known works.goes known awake (λ f. ne (sym f)) uses))
      (cases_eq i.runner.branch r.branch)

  -- so the side stands in no piece
  pub spot_there : st.wired.ghosts.side_states line side ≡ side_state between false
  spot_there = wired_between g who w.machine x.state st.wired line d side line_there nobody

  -- and nothing is late behind it
  pub late_there : st.wired.ghosts.late line (other_side side) ≡ []
  late_there = late_between g who w.machine x.state st.wired line d side line_there nobody

  -- the branch has it for itself
  pub alone_there : HasAlone x.state.branches d side r.branch
  alone_there = alone_begins d side g.program x.state st.lawful is_channel.known r.branch branch known uses stands

  -- its thread goes inside a transfer
  pub begins : (s : Runner) (phase : Phase) (late : List Parcel) → s.transfer ≡ Some (owing d side phase late) →
      Moves g who c t r s d side phase late
  begins s phase late its = record {
    old = λ transfer was. absurd (none-some transfer (sym outside ∙ was));
    new = λ transfer now. same_Some transfer (owing d side phase late) (sym now ∙ its);
    over = λ none. absurd (none-some (owing d side phase late) (sym none ∙ its));
    mine = λ e u other. absurd (nobody e u other);
  }
