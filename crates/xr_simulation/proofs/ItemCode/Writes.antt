-- A word that is written to a place: the thread comes to the instruction that writes it, and the branch stores it; or both err by the place's index.
use Rattle.std.proofs.Common.{◌≡◌, ℕ, ◌+◌, ◌/◌, ◌≤◌, eq-eqb, true, false, List, [], ◌∷◌, length, Some, None, refl, sym, ap, ◌∙◌, subst, arith}
use Rattle.std.specs.Prelude.{nat_eq, slice_set}
use Rattle.std.proofs.lemmas.Bool.{or_left}
use Rattle.std.proofs.lemmas.List.{length-set, get_or-set_other}
use Rattle.xw_words.specs.declared.pos.Pos.{Pos}
use Rattle.xs_instr.specs.declared.state.Regs.{Regs}
use Rattle.xs_instr.specs.declared.state.Res.{Res}
use Rattle.xs_instr.specs.Memory.{word_put}
use Rattle.xs_instr.specs.OwnSteps.{IsApart, temporary}
use Rattle.xs_instr.specs.declared.state.CoreState.{CoreState}
use Rattle.xc_kernel.specs.Plain as kernel
use Rattle.xc_kernel.specs.Values.{Value, word, error, ErrorKind}
use Rattle.xc_kernel.specs.Eval.{Store, eval, words_of}
use Rattle.xc_kernel.specs.Things.{by_expression, by_target, change}
use Rattle.xc_meaning.specs.Settings.Setting as meaning
use Rattle.xc_meaning.specs.Settings.Setting.{errs, kind_of, with_value}
use Rattle.xc_meaning.specs.Settings.Stores.{stored, stored_in}
use Rattle.xc_meaning.specs.States.Branches.{Branch}
use Rattle.xc_meaning.specs.States.Items.{Item}
use Rattle.xc_meaning.specs.States.Worlds.{World, go}
use Rattle.xc_meaning.specs.Runs.{acts, does_item, step_of}
use Rattle.xc_meaning.specs.Uses.{by_item}
use Rattle.xl_expr.specs.Frames.{changed, variable_of}
use Rattle.xl_expr.specs.Stores.{StoreOutcome, Writes, index_in, tested_value}
use Rattle.xl_expr.proofs.Lists.{get_set_other}
use Rattle.xr_simulation.specs.Fits.{ItemsFit, UsesAt}
use Rattle.xr_simulation.specs.Runners.{HoldsPlaces, Setting, Runner, IsLaidOut, MayChange, home, plan, relied}
use Rattle.xr_simulation.specs.ThreadViews.{ThreadView, Rely, running}
use Rattle.xr_simulation.specs.NextStep as turn
use Rattle.xr_simulation.specs.NextStep.{HasBases, Has, Goes, SameParts, IsPlacedAt, NextStep, is_watching}
use Rattle.xr_simulation.proofs.RelyGuarantee.Arrival.{Since, core_kept}
use Rattle.xr_simulation.proofs.Image.Bases.{bases_worked}
use Rattle.xr_simulation.proofs.ItemCode.Evaluations.{index_still, item_acts, value_errs, with_items}
use Rattle.xr_simulation.proofs.RelyGuarantee.Variables.{IsPlaced, address_seen, address_since, place_changes, place_holds}
use Rattle.xr_simulation.proofs.OwnSteps.Turns.{MakesOwn, own_goes}

-- a word is stored at the index that a place has
stored_is : (s : meaning.Setting) (p : kernel.Place) (v i : ℕ) → index_in s.world.store p ≡ word i → stored s p v ≡ stored_in s (variable_of p) v i
stored_is s (kernel.word u) v i is = let e : 0 ≡ i = cc in ap (stored_in s u v) e
stored_is s (kernel.element u x pos) v i is = by (eval s.world.store x) refl
  where
    len : ℕ
    len = length (words_of s.world.store u)

    by : (o : Value) → eval s.world.store x ≡ o → stored s (kernel.element u x pos) v ≡ stored_in s u v i
    by (word k) e =
        ap (λ o. with_value s o (λ l. with_value s (tested_value len pos (word l)) (stored_in s u v))) e
        ∙ ap (λ o. with_value s o (stored_in s u v)) (ap (tested_value len pos) (sym e) ∙ is)
    by (error kind at_pos) e = let none : error kind at_pos ≡ word i = ap (tested_value len pos) (sym e) ∙ is in absurd (cc)

-- or the branch errs by the index's error
stored_errs : (s : meaning.Setting) (p : kernel.Place) (v : ℕ) (kind : ErrorKind) (pos : Pos) → index_in s.world.store p ≡ error kind pos → stored s p v ≡ errs s (kind_of kind) pos
stored_errs s (kernel.word u) v kind pos is = absurd (cc)
stored_errs s (kernel.element u x p) v kind pos is = by (eval s.world.store x) refl
  where
    len : ℕ
    len = length (words_of s.world.store u)

    by : (o : Value) → eval s.world.store x ≡ o → stored s (kernel.element u x p) v ≡ errs s (kind_of kind) pos
    by (word k) e =
        ap (λ o. with_value s o (λ l. with_value s (tested_value len p (word l)) (stored_in s u v))) e
        ∙ ap (λ o. with_value s o (stored_in s u v)) (ap (tested_value len p) (sym e) ∙ is)
    by (error kind' pos') e =
        ap (λ o. with_value s o (λ l. with_value s (tested_value len p (word l)) (stored_in s u v))) e
        ∙ ap (λ o. with_value s o (stored_in s u v)) (ap (tested_value len p) (sym e) ∙ is)

-- the target of a store is changed
pub target_changed : (place : kernel.Place) → by_target (change (variable_of place)) place ≡ true
target_changed (kernel.word v) = eq-eqb v v refl
target_changed (kernel.element v index pos) = or_left (nat_eq v v) (by_expression (change v) index) (eq-eqb v v refl)

-- An item by which the branch stores a word at a place.
module _ (g : Setting) (r : Runner) (laid : IsLaidOut g r) (item : Item) (place : kernel.Place) (rest : List Item) (pc pc' j : ℕ)
    (uses_place : UsesAt g r place) (changes : r.footprint.changes (variable_of place) ≡ true)
    (changed_first : by_item (change (variable_of place)) item ≡ true) (rest_fits : ItemsFit g r rest)
    (unwatched : is_watching rest ≡ false) (q : ThreadView)
    (behind : (regs' : Regs) (core' : CoreState) → HasBases g r regs' → SameParts g r.core rest q.core core' →
    IsPlacedAt g r rest j pc' regs' core') where
  -- what its step is there
  abbrev pub Stores : World → Branch → (v : ℕ) → Type 0
  Stores w branch v =
      does_item (step_of g.program g.stimulus w r.branch branch rest) item ≡ stored (step_of g.program g.stimulus w r.branch branch rest) place v

  -- at the instruction that writes the word
  write_goes : (z : ThreadView) (regs : Regs) (v i address : ℕ) → HasBases g r regs → q.hand ≡ None → (has : Has g r (item ∷ rest) q) →
      Stores q.world has.branch v → index_in q.world.store place ≡ word i →
      IsPlaced g r laid q.core.words place i address →
      Writes (home g r) (relied g r) r.stack r.thread (running r.tie pc regs) z.core.words address v pc' q.core → Goes g r j q
  write_goes z regs v i address bases no_hand has is is_index at_address w =
      own_goes g r j q pc' w.regs words made bases' no_hand item rest rest store has acted same holds room unwatched j
      (λ core still. behind w.regs core bases' still) rest_fits (omega arith)
    where
      words : List ℕ
      words = word_put q.core.words address v

      store : Store
      store = changed q.world.store (variable_of place) i v

      mine : MayChange g r (address / 4)
      mine = place_changes g r laid q.core.words q.world.store has.holds.holds place i address uses_place changes is_index at_address

      made : MakesOwn g r q pc' w.regs words
      made = record {
        index = w.index;
        here = w.here;
        made = w.made;
        others = λ u not_mine. get_set_other q.core.words (address / 4) u v (λ e. not_mine (subst (MayChange g r) (sym e) mine));
        size = length-set q.core.words (address / 4) v;
      }

      bases' : HasBases g r w.regs
      bases' = bases_worked g r regs w.regs w.others bases

      acted : acts g.program g.stimulus q.world (go r.branch) ≡ Some (record (with_items q.world r.branch has.branch rest) { store = store })
      acted =
          item_acts g.program g.stimulus r.branch q.world has.branch item rest has.runs
          ∙ is
          ∙ stored_is (step_of g.program g.stimulus q.world r.branch has.branch rest) place v i is_index

      same : (u : ℕ) → by_item (change u) item ≡ false → words_of store u ≡ words_of q.world.store u
      same u c = get_or-set_other q.world.store (variable_of place) u (slice_set (words_of q.world.store (variable_of place)) i v) []
          (λ e. let f : true ≡ false = sym changed_first ∙ ap (λ v. by_item (change v) item) (sym e) ∙ c in absurd (cc))

      holds : HoldsPlaces g r.core r.footprint.uses words store
      holds = place_holds g r laid q.core.words q.world.store has.holds.holds place i address v uses_place is_index at_address

      room : r.stack + temporary ≤ length words
      room = let e = length-set q.core.words (address / 4) v in let h = has.holds.room in omega arith

  -- where the code has come the turn is next: it writes the word, or traps by the index's error
  pub store_turns : (stays : Res → Type 0) (z y : ThreadView) (regs : Regs) (v : ℕ) (i : Value) → HasBases g r regs → Rely g r y q →
      Since g r (IsApart r.stack) stays z q → q.hand ≡ None →
      (has : Has g r (item ∷ rest) q) → Stores q.world has.branch v → index_in z.world.store place ≡ i →
      StoreOutcome (plan g r).vars (home g r) (relied g r) r.stack r.thread (running r.tie pc regs) z.core.words place v pc' i y.core → NextStep g r j q
  store_turns stays z y regs v i bases kept since no_hand has is is_index outcome = by i is_index outcome
    where
      index_is : (o : Value) → index_in z.world.store place ≡ o → index_in q.world.store place ≡ o
      index_is o e = index_still (plan g r).vars r.footprint.uses z.world.store q.world.store since.store place uses_place ∙ e

      by : (i : Value) → index_in z.world.store place ≡ i → StoreOutcome (plan g r).vars (home g r) (relied g r) r.stack r.thread (running r.tie pc regs) z.core.words place v pc' i y.core → NextStep g r j q
      by (word i) f (address, at_address, writes) =
          let w = writes q.core (core_kept g r kept) in
          let there = address_seen g r laid z.core.words regs bases place i address at_address in
          let at_q = address_since g r laid stays z q since place i address there in
          turn.goes_on (write_goes z regs v i address bases no_hand has is (index_is (word i) f) at_q w)
      by (error kind pos) f traps =
          let s = step_of g.program g.stimulus q.world r.branch has.branch rest in
          turn.errs (value_errs g r q item rest kind pos (traps q.core (core_kept g r kept)) has no_hand (is ∙ stored_errs s place v kind pos (index_is (error kind pos) f)))
