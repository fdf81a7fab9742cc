-- Where an open block ends there stand the items from its mark on.
use Rattle.std.proofs.Common.{◌≡◌, ℕ, ◌≤◌, Bool, true, false, List, [], ◌∷◌, Some, None, nat_eq, refl, sym, ap, subst, ◌∙◌, arith}
use Rattle.std.proofs.lemmas.Option.{same_Some}
use Rattle.xs_instr.specs.declared.image.Code.{Code}
use Rattle.xc_meaning.specs.Settings.Flow.{from_mark_by, items_from_mark}
use Rattle.xc_meaning.specs.States.Items.{Item, does, says, stores, stamps, mark, awaits, transaction_end, chooses, fixed, ends}
use Rattle.xl_expr.specs.declared.plan.Plan.{Plan}
use Rattle.xr_simulation.specs.Items.{ItemsAt, MarkAt}
use Rattle.xl_ends.specs.Ends.{Sides}
use Rattle.xl_statements.specs.Pieces.{Exit, exit_by, exit_of}

module _ (plan : Plan) (code : Code) (sides : Sides) (End : (pc j : ℕ) → Type 0) where
  -- items stand at an index, with at most so many jumps between them
  pub record StandWithin (items : List Item) (pc most : ℕ) : Type 0 where
    pub exits : List Exit
    pub jumps : ℕ
    pub few : jumps ≤ most
    pub stand : ItemsAt plan code sides End items exits pc jumps

  -- more jumps are allowed
  more_jumps : (items : List Item) (pc n m : ℕ) → n ≤ m → StandWithin items pc n → StandWithin items pc m
  more_jumps items pc n m le h = record { exits = h.exits; jumps = h.jumps; few = (let f = h.few in omega arith); stand = h.stand }

  -- at a mark
  at_mark : (m : ℕ) (rest : List Item) (exits : List Exit) (n index j : ℕ) (same : Bool) → nat_eq n m ≡ same → (here further : ℕ) (h : MarkAt plan code m (ItemsAt plan code sides End rest) exits here further) → further ≤ j → exit_by same here (exit_of h.outer n) ≡ Some index → (exit_of h.outer n ≡ Some index → StandWithin (items_from_mark n rest) index further) → StandWithin (from_mark_by same (mark m ∷ rest) (items_from_mark n rest)) index j
  at_mark m rest exits n index j true f here k h le e next = record {
    exits = exits;
    jumps = k;
    few = le;
    stand = subst (λ p. ItemsAt plan code sides End (mark m ∷ rest) exits p k) (same_Some here index e) (record { index = here; here = 0; further = k; jumps = refl; stands = h; sum = omega arith });
  }
  at_mark m rest exits n index j false f here k h le e next = more_jumps (items_from_mark n rest) index k j le (next e)

  pub exits_lead : (items : List Item) (exits : List Exit) (n index pc j : ℕ) → exit_of exits n ≡ Some index → ItemsAt plan code sides End items exits pc j → StandWithin (items_from_mark n items) index j
  exits_lead [] exits n index pc j e h = absurd h
  exits_lead (does s ∷ rest) exits n index pc j e h =
      more_jumps (items_from_mark n rest) index h.further j (let s' = h.sum in omega arith) (exits_lead rest exits n index h.stands.0 h.further e h.stands.2)
  exits_lead (mark m ∷ rest) exits n index pc j e h =
      at_mark m rest exits n index j (nat_eq n m) refl h.index h.further h.stands (let s = h.sum in omega arith)
      (ap (λ l. exit_of l n) (sym h.stands.innermost) ∙ e)
      (λ f. exits_lead rest h.stands.outer n index h.index h.further f h.stands.others)
  exits_lead (says i ∷ rest) exits n index pc j e h = absurd h.stands
  exits_lead (stores place v ∷ rest) exits n index pc j e h = absurd h.stands
  exits_lead (stamps resource place v ∷ rest) exits n index pc j e h = absurd h.stands
  exits_lead (awaits c pos ∷ rest) exits n index pc j e h = absurd h.stands
  exits_lead (transaction_end c is_master pos ∷ rest) exits n index pc j e h = absurd h.stands
  exits_lead (chooses choices otherwise ∷ rest) exits n index pc j e h = absurd h.stands
  exits_lead (fixed i v counter ∷ rest) exits n index pc j e h = absurd h.stands
  exits_lead (ends ∷ rest) exits n index pc j e h =
      let none : None ≡ Some index = ap (λ l. exit_of l n) (sym h.stands.1) ∙ e in cc
