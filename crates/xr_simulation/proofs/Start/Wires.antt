-- At the start all channels are between pieces, and nothing has arrived.
use Rattle.std.proofs.Common.{◌≡◌, ℕ, zero, suc, ◌<◌, List, [], ◌∷◌, map, length, Option, Some, None, refl, sym, ap, ◌∙◌, arith}
use Rattle.std.specs.Prelude.{false, slice_get, slice_index_or}
use Rattle.std.proofs.lemmas.List.{length-replicate}
use Rattle.std.proofs.lemmas.Option.{slice_get_within}
use Rattle.xs_instr.specs.declared.image.Pair.{Pair}
use Rattle.xs_instr.specs.declared.state.CoreState.{CoreState}
use Rattle.xs_instr.specs.Machine.{boot, boot_end, parts_in}
use Rattle.xc_kernel.specs.declared.kernel.Chan.{Chan}
use Rattle.xc_meaning.specs.Runs.{empty_inboxes, kernel_start}
use Rattle.xc_meaning.specs.States.Channels.{Inboxes, Side, first, no_parcels, parcels_at, second}
use Rattle.xl_par.specs.Acquired.{Acquired}
use Rattle.xr_match.specs.Sides.{two_sided}
use Rattle.xr_simulation.specs.Images.{IsImageOf}
use Rattle.xr_simulation.specs.Roles.{Roles, used_by}
use Rattle.xr_simulation.specs.Runners.{Setting, Runner}
use Rattle.xr_simulation.specs.Transfers.{Transfer}
use Rattle.xr_simulation.specs.Wired.{AreWired, IsTransferring, idle, boxes_in}
use Rattle.xr_simulation.proofs.Start.SetMachine.{set_cores_are, set_machine}
use Rattle.xr_simulation.proofs.Start.ProgramStart.{root_of}
use Rattle.xr_channels.specs.Channels.{ends_in, start_ghosts}
use Rattle.xr_channels.proofs.All.Chosen.{chosen_length}
use Rattle.xr_channels.proofs.All.OverLinks.{over_begins, over_same}

-- the inboxes of a start are empty
empty_at : (cs : List Chan) (c : ℕ) → slice_index_or (map empty_inboxes cs) c no_parcels ≡ no_parcels
empty_at [] c = refl
empty_at (x ∷ cs) zero = refl
empty_at (x ∷ cs) (suc c) = empty_at cs c

chosen_empty : (channels : List ℕ) (cs : List Chan) (k : ℕ) → slice_index_or (map (λ c. slice_index_or (map empty_inboxes cs) c no_parcels) channels) k no_parcels ≡ no_parcels
chosen_empty [] cs k = refl
chosen_empty (c ∷ channels) cs zero = empty_at cs c
chosen_empty (c ∷ channels) cs (suc k) = chosen_empty channels cs k

nothing_at : (side : Side) → parcels_at no_parcels side ≡ []
nothing_at first = refl
nothing_at second = refl

as_many : (cs : List Chan) → length (map empty_inboxes cs) ≡ length cs
as_many [] = refl
as_many (c ∷ cs) = ap suc (as_many cs)

none_is_some : (transfer : Transfer) → ◌≡◌ {A = Option Transfer} None (Some transfer) → ⊥
none_is_some transfer e = cc

module _ (g : Setting) (who : Roles) (is : IsImageOf g who) where
  abbrev boxes : List Inboxes
  boxes = (kernel_start g.program).inboxes

  -- no thread is inside a transfer
  pub none_inside : (core thread : ℕ) (r : Runner) (hand : Option Acquired) → who core thread ≡ used_by r hand → r.transfer ≡ None
  none_inside core thread r hand runs = (root_of g who is core thread r hand runs).is_root.no_transfer

  pub none_begun : (core thread : ℕ) (r : Runner) (hand : Option Acquired) (transfer : Transfer) → who core thread ≡ used_by r hand → r.transfer ≡ Some transfer → ⊥
  none_begun core thread r hand transfer runs is_in = none_is_some transfer (sym (none_inside core thread r hand runs) ∙ is_in)

  none_transfers : (core thread c : ℕ) (side : Side) → IsTransferring who core thread c side → ⊥
  none_transfers core thread c side h = none_begun core thread h.runner h.hand h.transfer h.runs h.is

  -- setting the stacks leaves the ends
  pub ends_same : (x : ℕ) → ends_in (slice_get (set_machine who g.image).cores x) ≡ ends_in (slice_get (boot g.image).cores x)
  ends_same zero = refl
  ends_same (suc zero) = refl
  ends_same (suc (suc zero)) = refl
  ends_same (suc (suc (suc zero))) = refl
  ends_same (suc (suc (suc (suc x)))) = refl

  sized : (k : ℕ) (p : Pair) → slice_get g.image.chans k ≡ Some p → k < length (boxes_in g.program boxes)
  sized k p e =
      let c = is.lines.channel k p e in
      let within = slice_get_within (two_sided g.program) k c.0 c.1 in
      let long = chosen_length (two_sided g.program) boxes in
      omega (arith, within, long)

  pub wired_begin : AreWired g who (set_machine who g.image) (kernel_start g.program)
  wired_begin = record {
    ghosts = start_ghosts (λ k. false);
    over = over_same g.image.chans (boot g.image).cores (boot g.image).links (boxes_in g.program boxes) (start_ghosts (λ k. false))
        (over_begins g.image (λ k. false) (boxes_in g.program boxes) is.lines.valid
        (λ k side. ap (λ b. parcels_at b side) (chosen_empty (two_sided g.program) g.program.channels k) ∙ nothing_at side) sized)
        (set_machine who g.image).cores ends_same;
    long = as_many g.program.channels;
    ends = λ c a e. let d = set_cores_are who g.image c a e in ap (λ (i : CoreState). length i.ends) d.1 ∙ length-replicate (parts_in g.image.cores c).ends boot_end;
    listed = λ core thread c side h. absurd (none_transfers core thread c side h);
    stances = λ line c side at. idle (λ core thread h. none_transfers core thread c side h) refl refl;
    one = λ core thread core' thread' c side h k. absurd (none_transfers core thread c side h);
  }
