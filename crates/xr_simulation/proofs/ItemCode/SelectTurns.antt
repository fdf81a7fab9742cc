-- The turn of a thread at its select: it takes the event of a case, and its branch that case; or it goes on to the default, and so does its
-- branch; or it waits, and its branch can do nothing. For channels it is a premise that an end is ready where something has arrived.
use Rattle.std.proofs.Common.{◌≡◌, ◌⊎◌, inl, inr, ℕ, ◌+◌, ◌≤◌, true, false, List, ◌∷◌, Some, None, refl, sym, ap, ◌∙◌, subst}
use Rattle.std.specs.Prelude.{slice_get, slice_index}
use Rattle.std.proofs.lemmas.Option.{get_or_from_slice_get}
use Rattle.xc_meaning.proofs.Basics.{some_given}
use Rattle.xs_instr.specs.declared.image.PortDecl.{PortDecl}
use Rattle.xs_instr.specs.declared.state.CoreState.{CoreState}
use Rattle.xs_instr.specs.declared.state.Port.{Port as PortState}
use Rattle.xs_instr.specs.declared.state.Regs.{Regs}
use Rattle.xs_instr.specs.declared.state.Res.{Res}
use Rattle.xs_instr.specs.declared.state.Thread.{Thread}
use Rattle.xs_instr.specs.Did.{Paused, makes}
use Rattle.xs_instr.specs.Events.{end_ready, latched, vector_of}
use Rattle.xs_instr.specs.Slot.{event_taken, slot}
use Rattle.xc_kernel.specs.declared.statement.KRes.{KRes}
use Rattle.xc_kernel.specs.declared.statement.KRes.TheVariants.{Port, Timer, Chan}
use Rattle.xc_kernel.specs.Plain as kernel
use Rattle.xc_invariants.proofs.Choices.{choice_each}
use Rattle.xc_meaning.specs.Runs.{step_of}
use Rattle.xc_meaning.specs.Settings.Select.{has_arrived, input_taken}
use Rattle.xc_meaning.specs.Settings.Setting as source
use Rattle.xc_meaning.specs.States.Branches.{side_of}
use Rattle.xc_meaning.specs.States.Items.{Body, Choice, Item, body_items, chooses}
use Rattle.xc_meaning.specs.States.Worlds.{default, take}
use Rattle.xl_expr.specs.ResourceParts.{OtherPartsStay}
use Rattle.xl_expr.proofs.ResourceParts.{others_same}
use Rattle.xr_events.specs.Armed.{StandsFor}
use Rattle.xr_events.specs.Latches.{LatchIsOf}
use Rattle.xr_events.specs.Readiness.{SameMoment}
use Rattle.xr_events.specs.Turns as events
use Rattle.xr_events.specs.Turns.{SelectTurn, TakesCase, TakesDefault, ThreadAtSelect}
use Rattle.xr_events.proofs.Takings.{own_parts_stay, taken_moves}
use Rattle.xr_events.proofs.Turns.{turn_agrees}
use Rattle.xr_simulation.specs.Fits.{AllFit, CountedInputFits, ItemFits, TakesInAt}
use Rattle.xr_simulation.specs.Runners.{IsMine, Setting, Runner, home}
use Rattle.xr_simulation.specs.ThreadViews.{ThreadView, running_so}
use Rattle.xr_simulation.specs.NextStep.{CannotAct, CaseAt, DefaultAt, Goes, IsPlacedAt, Selects, is_watching, own_default, own_take, resources_here}
use Rattle.xr_simulation.proofs.ItemCode.ResourceTurns.{Passes, both_pass, moved_on}
use Rattle.xr_simulation.proofs.ItemCode.Selects.{case_fits, default_left_fits}
use Rattle.xr_simulation.proofs.ItemCode.Timings.{identifier_is}
use Rattle.xr_simulation.proofs.RelyGuarantee.Events.{items_unwatched}
use Rattle.xr_simulation.proofs.RelyGuarantee.Stands.{items_stand}

-- the input of a case that is taken waits for nothing
taken_unwatched : (s : source.Setting) (i : kernel.Input) (res : KRes) (behind : List Item) →
    is_watching (input_taken s i res ∷ behind) ≡ false
taken_unwatched s i (Port p) behind = refl
taken_unwatched s i (Timer t) behind = refl
taken_unwatched s i (Chan c) behind = refl

module _ (g : Setting) (r : Runner) where
  -- the thread waits, and its branch can do nothing; or both go on
  abbrev pub SelectGoes : ℕ → ThreadView → Type 0
  SelectGoes j y = ((slot (home g r) y.core r.thread ≡ Paused) × CannotAct g r y.world) ⊎ Goes g r j y

  -- the thread stands at the code of a case that was taken
  case_stands : (s : source.Setting) (i : kernel.Input) (res : KRes) (behind : List Item) (most index : ℕ) (regs : Regs)
      (core : CoreState) → LatchIsOf (resources_here g r) core (input_taken s i res) → CaseAt g r res i behind most index →
      (jumps : ℕ) × (jumps ≤ most) × IsPlacedAt g r (input_taken s i res ∷ behind) jumps index regs core
  case_stands s i (Port p) behind most index regs core latch (entered, exits, jumps, few, lines, items) =
      (jumps, few, (entered, exits, latch, lines, items))
  case_stands s i (Timer t) behind most index regs core latch (entered, exits, jumps, few, lines, items) =
      (jumps, few, (entered, exits, latch, lines, items))
  case_stands s i (Chan c) behind most index regs core latch (exits, jumps, few, items) = (jumps, few, (exits, items))

  module _ (j : ℕ) (y : ThreadView) (h : Selects g r j y) (clock : slice_get y.world.clocks r.core ≡ Some y.core.clock) where
    -- the setting of the branch's step
    abbrev pub s : source.Setting
    s = step_of g.program g.stimulus y.world r.branch h.has.branch h.rest

    -- something has arrived at a channel where the end of the branch's side is ready
    abbrev pub EndsAgree : Type 0
    EndsAgree =
        (n : ℕ) (c : Choice) → slice_get h.choices n ≡ Some c → (channel : ℕ) → c.input.resource ≡ Chan channel →
        end_ready y.core ((resources_here g r).end channel) ≡ has_arrived s channel (side_of s.branch channel)

    module _ (ends : EndsAgree) where
      abbrev thread : Thread
      thread = running_so true r.tie h.pc h.regs

      -- each case's resource is the program's
      resource_stands : (n : ℕ) (c : Choice) → slice_get h.choices n ≡ Some c → (res : KRes) → c.input.resource ≡ res →
          TakesInAt g r res → StandsFor y.core s (resources_here g r) res
      resource_stands n c listed (Port p) is from = λ port there.
          let its = h.has.ports p from.listed from.is in
          ap (λ (x : PortState). x.decl.port) (some_given (sym there ∙ its.there))
          ∙ ap (λ (d : PortDecl). d.port) its.declared ∙ sym (identifier_is g.program.ports p from.listed from.is.known)
      resource_stands n c listed (Timer t) is from = tt
      resource_stands n c listed (Chan channel) is from = ends n c listed channel is

      moment : SameMoment (home g r) y.core s
      moment = record {
        clock = ap (slice_index y.world.clocks) h.has.core ∙ get_or_from_slice_get y.world.clocks r.core y.core.clock 0 clock;
        number = sym h.has.core;
        lines = refl;
      }

      at_select : ThreadAtSelect (home g r) y.core (resources_here g r) r.thread thread s h.choices h.otherwise
      at_select = record {
        moment = moment;
        armed = h.stands.armed;
        stands = λ n c listed. resource_stands n c listed c.input.resource refl
            (choice_each (CountedInputFits g r) (AllFit g r) h.choices n c listed h.fits.0.0).0.0.from;
        here = h.here;
        running = refl;
        takes_events = refl;
        code = h.stands.code;
      }

      -- a case
      module _ (n : ℕ) (c : Choice) (res : Res) (listed : slice_get h.choices n ≡ Some c)
          (k : TakesCase (home g r) y.core (resources_here g r) r.thread thread s n c res) where
        abbrev items : List Item
        items = input_taken s c.input c.input.resource ∷ body_items c.body h.rest

        abbrev left : CoreState
        left = event_taken (home g r) y.core r.thread thread res

        moves : left ≡ moved_on g r y.core (vector_of y.core.events res) h.regs (latched (home g r) y.core res).ports (latched (home g r) y.core res).timers
        moves = taken_moves (home g r) y.core r.thread thread res

        at_code : CaseAt g r c.input.resource c.input (body_items c.body h.rest) (j + 1) (vector_of y.core.events res)
        at_code = subst (λ x. CaseAt g r c.input.resource c.input (body_items c.body h.rest) (j + 1) (vector_of y.core.events x))
            (sym k.resource) (h.stands.at_cases n c listed)

        stands : (jumps : ℕ) × (jumps ≤ j + 1) × IsPlacedAt g r items jumps (vector_of y.core.events res) h.regs left
        stands = case_stands s c.input c.input.resource (body_items c.body h.rest) (j + 1) (vector_of y.core.events res) h.regs left k.latched
            at_code

        passes : Passes g r stands.0 y items None
        passes = record {
          pc = vector_of y.core.events res;
          regs = h.regs;
          ports = (latched (home g r) y.core res).ports;
          timers = (latched (home g r) y.core res).timers;
          moves = record {
            was = thread;
            here = h.here;
            made_is = k.turn ∙ ap makes moves;
            resources = subst (λ l. OtherPartsStay (IsMine g r) r.thread y.core l) moves
                (own_parts_stay (home g r) y.core r.thread thread (IsMine g r) res (subst (IsMine g r) (sym k.resource) (h.own n c listed)));
          };
          bases = h.bases;
          unwatched = taken_unwatched s c.input c.input.resource (body_items c.body h.rest);
          stands = subst (λ l. IsPlacedAt g r items stands.0 (vector_of y.core.events res) h.regs l) moves stands.2;
          fits = case_fits g r s h.choices h.otherwise n c h.rest listed h.fits.0 h.fits.1;
        }

        case_turn : Goes g r j y
        case_turn = both_pass g r h.has h.no_hand j stands.0 stands.1 items None passes (take r.branch n) (own_take n) k.action

      -- the default
      default_turn : (body : Body) → h.otherwise ≡ Some body → TakesDefault (home g r) y.core (resources_here g r) r.thread thread s body → Goes g r j y
      default_turn body is k =
          both_pass g r h.has h.no_hand j at_code.1 at_code.2 (body_items body h.rest) None passes (default r.branch) own_default k.action
        where
          at_code : DefaultAt g r (Some body) h.rest (j + 1) (h.pc + 1)
          at_code = subst (λ o. DefaultAt g r o h.rest (j + 1) (h.pc + 1)) is h.stands.at_default

          passes : Passes g r at_code.1 y (body_items body h.rest) None
          passes = record {
            pc = h.pc + 1;
            regs = h.regs;
            ports = y.core.ports;
            timers = y.core.timers;
            moves = record {
              was = thread;
              here = h.here;
              made_is = k.turn;
              resources = others_same (IsMine g r) r.thread y.core _ refl refl refl;
            };
            bases = h.bases;
            unwatched = items_unwatched g r (body_items body h.rest) at_code.0 (h.pc + 1) at_code.1 at_code.3;
            stands = items_stand g r (body_items body h.rest) at_code.0 (h.pc + 1) at_code.1 h.regs _ at_code.3;
            fits = default_left_fits g r h.choices body h.rest (subst (λ o. ItemFits g r (chooses h.choices o)) is h.fits.0) h.fits.1;
          }

      by_turn : SelectTurn (home g r) y.core (resources_here g r) r.thread thread s h.choices h.otherwise → SelectGoes j y
      by_turn (events.takes_case n c res listed k) = inr (case_turn n c res listed k)
      by_turn (events.waits is k) = inl (k.turn, record { goes = k.no_go; takes = k.no_take; takes_default = k.no_default })
      by_turn (events.takes_default body is k) = inr (default_turn body is k)

      -- whichever it is, the two sides do the same
      pub select_turn : SelectGoes j y
      select_turn =
          by_turn (turn_agrees g.program g.stimulus y.world r.branch h.has.branch h.choices h.otherwise h.rest
          (record { known = h.has.runs.known; running = h.has.runs.running; items_are = h.has.runs.items_are }) (home g r) y.core
          (resources_here g r) r.thread thread at_select)
