-- The code of what a branch has still to do, by the sides of channels in which it stands: it begins at an index.
use Rattle.std.specs.Prelude.{◌≡◌, ℕ, ◌+◌, List, [], ◌∷◌, Option, Some, None, slice_get}
use Rattle.xs_instr.specs.declared.image.Code.{Code}
use Rattle.xs_instr.specs.declared.instr.Instr.TheVariants.{Freet}
use Rattle.xc_meaning.specs.States.Items.{Item, does, says, stores, stamps, mark, awaits, transaction_end, chooses, fixed, ends}
use Rattle.xl_expr.specs.declared.plan.Plan.{Plan}
use Rattle.xl_ends.specs.Ends.{Sides}
use Rattle.xr_simulation.specs.Parents.{Parent}
use Rattle.xl_statements.specs.Pieces.{ClosesAt, Exit, Jumps, PieceAt, SlaveEndsAt}

module _ (plan : Plan) (code : Code) where
  -- n jumps lead to where P holds with a number of further jumps; j is the sum of both
  pub record Behind (P : (pc j : ℕ) → Type 0) (pc j : ℕ) : Type 0 where
    pub index : ℕ
    pub here : ℕ
    pub further : ℕ
    pub jumps : Jumps code here pc index
    pub stands : P index further
    pub sum : here + further ≡ j

  -- The mark of a block is where the innermost open block ends. Blocks begin and end as soon as they can, in the piece of the action
  -- before them. So does the end of the first branch of a `par`: it comes with the branch's last action, before the thread is at the
  -- MJOIN.
  pub record MarkAt (block : ℕ) (Others : List Exit → (pc j : ℕ) → Type 0) (exits : List Exit) (pc j : ℕ) : Type 0 where
    pub outer : List Exit
    pub innermost : exits ≡ record { block = block; index = pc } ∷ outer
    pub others : Others outer pc j

  -- the first item's code, by what stands where the branch ends and by what holds of the code of the others
  abbrev pub FirstAt : Sides → (End : (pc j : ℕ) → Type 0) → Item → (List Exit → (pc j : ℕ) → Type 0) → List Exit → (pc j : ℕ) → Type 0
  FirstAt sides End (does s) Others exits pc j = (q : ℕ) × PieceAt code plan sides s exits pc q × Others exits q j
  FirstAt sides End (mark n) Others exits pc j = MarkAt n Others exits pc j
  FirstAt sides End ends Others exits pc j = End pc j × (exits ≡ [])
  FirstAt sides End (says i) Others exits pc j = ⊥
  FirstAt sides End (stores place v) Others exits pc j = ⊥
  FirstAt sides End (stamps resource place v) Others exits pc j = ⊥
  FirstAt sides End (awaits c pos) Others exits pc j = ⊥
  FirstAt sides End (transaction_end c is_master pos) Others exits pc j = ⊥
  FirstAt sides End (chooses choices otherwise) Others exits pc j = ⊥
  FirstAt sides End (fixed i value counter) Others exits pc j = ⊥

  -- The code of a branch's items begins at an index, by where the open blocks end: those whose marks are among the items. Between items there
  -- may be jumps, in all j of them.
  abbrev pub ItemsAt : Sides → (End : (pc j : ℕ) → Type 0) → List Item → List Exit → (pc j : ℕ) → Type 0
  ItemsAt sides End [] exits pc j = ⊥
  ItemsAt sides End (i ∷ rest) exits pc j = Behind (FirstAt sides End i (ItemsAt sides End rest) exits) pc j

  -- What stands where a branch ends. A root's thread is freed there, and a tied one waits.
  abbrev pub LastAt : (tie : Option ℕ) → (pc : ℕ) → Type 0
  LastAt None pc = slice_get code.instrs pc ≡ Some Freet
  LastAt (Some n) pc = SlaveEndsAt code plan pc

  -- the code that closes a `par`, where it has a synchroniser, and then P
  abbrev pub ClosingAt : (sync : Option ℕ) → (P : (pc j : ℕ) → Type 0) → (pc j : ℕ) → Type 0
  ClosingAt None P pc j = P pc j
  ClosingAt (Some n) P pc j = (closed : ℕ) × ClosesAt code plan pc closed × P closed j

  -- behind the first branch of a `par` it is closed, and what is left to its maker follows
  abbrev pub EndAt : (tie : Option ℕ) → List Parent → (pc j : ℕ) → Type 0
  EndAt tie [] pc j = LastAt tie pc
  EndAt tie (p ∷ ps) pc j = ClosingAt p.sync (λ q k. (exits : List Exit) × ItemsAt p.sides (EndAt tie ps) p.items exits q k) pc j
