-- A thread at the first step of a piece of code on a channel: the side on which it begins, and the branch that has the piece to do.
use Rattle.std.proofs.Common.{◌≡◌, ℕ, IsTrue, List, [], ◌∷◌, Some, None, sym, ap, ◌∙◌, subst}
use Rattle.std.specs.Prelude.{slice_index_or}
use Rattle.std.proofs.lemmas.Option.{same_Some}
use Rattle.xc_kernel.specs.declared.statement.KRes.TheVariants.{Chan}
use Rattle.xc_kernel.specs.Things.{by_resource, channel}
use Rattle.xc_meaning.proofs.Basics.{or_left, same_number}
use Rattle.xc_meaning.specs.States.Branches.{Branch, runs, side_of}
use Rattle.xc_meaning.specs.States.Items.{Item, does}
use Rattle.xc_meaning.specs.Uses.{by_items}
use Rattle.xr_simulation.specs.Fits.{ItemsFit, PutsOutAt, TakesInAt}
use Rattle.xr_simulation.specs.Runners.{IsChannel, Runner, Setting}
use Rattle.xr_simulation.specs.MatchStates.{none_rests}
use Rattle.xr_simulation.specs.NextStep.{Communicates, Has, Piece, Runs, puts_out, resource_of, statement_of, takes_in}
use Rattle.xr_simulation.proofs.Channels.EndRows.{AtEnd, begins_there}
use Rattle.xr_simulation.proofs.Relation.Moments.{BranchAt, Moment, ThreadAt}
use Rattle.xr_channels.specs.Phases.{between}

-- the channel is one of the core's
pub piece_channel : (g : Setting) (r : Runner) (piece : Piece) (rest : List Item) (c : ℕ) → resource_of piece ≡ Chan c →
    ItemsFit g r (does (statement_of piece) ∷ rest) → IsChannel g r c
piece_channel g r (puts_out o v) rest c is fits = subst (PutsOutAt g r) is fits.0.0.to
piece_channel g r (takes_in i) rest c is fits = subst (TakesInAt g r) is fits.0.0.from

-- and what is to be done uses it
pub piece_uses : (piece : Piece) (rest : List Item) (c : ℕ) → resource_of piece ≡ Chan c →
    IsTrue (by_items (channel c) (does (statement_of piece) ∷ rest))
piece_uses (puts_out o v) rest c is =
    or_left _ (by_items (channel c) rest) (or_left (by_resource (channel c) o.resource) _ (ap (by_resource (channel c)) is ∙ same_number c))
piece_uses (takes_in i) rest c is =
    or_left _ (by_items (channel c) rest) (or_left (by_resource (channel c) i.resource) _ (ap (by_resource (channel c)) is ∙ same_number c))

module _ {moment : Moment none_rests} {thread_at : ThreadAt moment None} (branch_at : BranchAt thread_at)
    (on : branch_at.branch.mode ≡ runs) (none : thread_at.runner.transfer ≡ None) (piece : Piece) (j : ℕ)
    (h : Communicates moment.setting thread_at.runner piece j
    (record { core = thread_at.state; world = moment.told.state; hand = None })) where
  open moment use {setting as g, told as x, standing as st}
  open thread_at use {state as a, runner as r}
  open branch_at use {branch, known, stand}

  -- the branch has its statement to do next
  pub begins_with : branch.items ≡ does (statement_of piece) ∷ h.rest
  begins_with = ap (λ (b : Branch). b.items) (same_Some branch h.has.branch (sym known ∙ h.has.runs.known)) ∙ h.has.runs.items_are

  pub has : Has g r branch.items (record { core = a; world = x.state; hand = None })
  has = subst (λ items. Has g r items (record { core = a; world = x.state; hand = None })) (sym begins_with) h.has

  pub to_do : Runs x.state r.branch branch (does (statement_of piece) ∷ h.rest)
  to_do = record { known = known; running = on; items_are = begins_with }

  -- and stands on the side, outside of transactions
  pub stands : side_of branch h.on.channel ≡ Some h.on.side
  stands = ap (λ l. slice_index_or l h.on.channel None) stand.sides ∙ h.on.stands_in

  pub outside : branch.inside ≡ []
  outside = st.plain.outside r.branch branch known

  pub is_channel : IsChannel g r h.on.channel
  is_channel = piece_channel g r piece h.rest h.on.channel h.on.is_channel h.fits

  pub uses : IsTrue (by_items (channel h.on.channel) branch.items)
  uses = subst (λ items. IsTrue (by_items (channel h.on.channel) items)) (sym begins_with)
      (piece_uses piece h.rest h.on.channel h.on.is_channel)

  abbrev pub at_end : AtEnd thread_at h.on.channel h.on.side between []
  at_end = begins_there thread_at none branch known on h.on.channel h.on.side is_channel uses stands h.on.here
