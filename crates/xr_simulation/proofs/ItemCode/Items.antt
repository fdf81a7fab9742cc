-- Where the code of items stands, and what they need, before statements and behind jumps.
use Rattle.std.proofs.Common.{◌≡◌, ℕ, zero, suc, ◌+◌, ◌≤◌, Bool, true, false, List, [], ◌∷◌, Option, Some, None, refl, sym, subst, arith}
use Rattle.std.specs.Prelude.{nat_eq}
use Rattle.xs_instr.specs.declared.image.Code.{Code}
use Rattle.xc_kernel.specs.Plain as kernel
use Rattle.xc_tree.specs.Depth.{if_some}
use Rattle.xc_meaning.specs.Counts.KernelCounts.{of_place}
use Rattle.xc_meaning.specs.Settings.Flow.{from_mark_by, items_from_mark}
use Rattle.xc_meaning.specs.States.Items.{Item, does, says, stores, stamps, mark, awaits, transaction_end, chooses, fixed, ends, storing, todo}
use Rattle.xl_expr.specs.declared.plan.Plan.{Plan}
use Rattle.xr_simulation.specs.Items.{ItemsAt}
use Rattle.xl_ends.specs.Ends.{Sides}
use Rattle.xl_statements.specs.Pieces.{Exit, Jumps, PiecesAt}
use Rattle.xr_simulation.specs.Fits.{AllFit, ChangesAt, ItemsFit, greatest}
use Rattle.xr_simulation.specs.Runners.{Setting, Runner}

-- jumps behind jumps
pub jumps_on : (code : Code) (n m a b c : ℕ) → Jumps code n a b → Jumps code m b c → Jumps code (n + m) a c
jumps_on code zero m a b c h k =
    let e : m ≡ 0 + m = omega arith in
    subst (λ n. Jumps code n a c) e (subst (λ p. Jumps code m p c) (sym h) k)
jumps_on code (suc n) m a b c h k =
    let e : suc (n + m) ≡ suc n + m = omega arith in
    let all : Jumps code (suc (n + m)) a c = (h.0, h.1, jumps_on code n m h.0 b c h.2 k) in
    subst (λ l. Jumps code l a c) e all

module _ (plan : Plan) (code : Code) (sides : Sides) (End : (pc j : ℕ) → Type 0) where
  -- jumps lead to items
  pub behind_jumps : (items : List Item) (exits : List Exit) (n a b j : ℕ) → Jumps code n a b → ItemsAt plan code sides End items exits b j → ItemsAt plan code sides End items exits a (n + j)
  behind_jumps [] exits n a b j h k = absurd k
  behind_jumps (i ∷ rest) exits n a b j h k = record {
    index = k.index;
    here = n + k.here;
    further = k.further;
    jumps = jumps_on code n k.here a b k.index h k.jumps;
    stands = k.stands;
    sum = let e = k.sum in omega arith;
  }

  -- statements before an item
  code_stands : (ss : kernel.Statements) (item : Item) (rest : List Item) (exits : List Exit) (a b j : ℕ) → PiecesAt code plan sides ss exits a b → ItemsAt plan code sides End (item ∷ rest) exits b j → ItemsAt plan code sides End (todo ss (item ∷ rest)) exits a j
  code_stands kernel.no_more item rest exits a b j h items = subst (λ q. ItemsAt plan code sides End (item ∷ rest) exits q j) (sym h) items
  code_stands (kernel.more s ss) item rest exits a b j h items = record {
    index = a;
    here = 0;
    further = j;
    jumps = refl;
    stands = (h.0, h.1, code_stands ss item rest exits h.0 b j h.2 items);
    sum = omega arith;
  }

  -- statements before items
  pub pieces_before : (ss : kernel.Statements) (rest : List Item) (exits : List Exit) (a b j : ℕ) → PiecesAt code plan sides ss exits a b → ItemsAt plan code sides End rest exits b j → ItemsAt plan code sides End (todo ss rest) exits a j
  pieces_before ss [] exits a b j h k = absurd k
  pieces_before ss (i ∷ rest) exits a b j h k = code_stands ss i rest exits a b j h k

module _ (g : Setting) (r : Runner) where
  -- a store before items fits where there is room for it
  pub storing_fits : (target : Option kernel.Place) (v : ℕ) (rest : List Item) → ChangesAt g r target →
      if_some of_place target ≤ greatest g r → ItemsFit g r rest → ItemsFit g r (storing target v rest)
  storing_fits None v rest changes counted fits = fits
  storing_fits (Some place) v rest changes counted fits = ((changes, counted), fits)

  -- statements before items fit where both do
  pub all_fit : (ss : kernel.Statements) (rest : List Item) → AllFit g r ss → ItemsFit g r rest → ItemsFit g r (todo ss rest)
  all_fit kernel.no_more rest h k = k
  all_fit (kernel.more s ss) rest h k = (h.0, all_fit ss rest h.1 k)

  -- `left_fit` at a mark, by cases
  from_mark : (n m : ℕ) (rest : List Item) (same : Bool) → ItemsFit g r rest → ItemsFit g r (items_from_mark n rest) → ItemsFit g r (from_mark_by same (mark m ∷ rest) (items_from_mark n rest))
  from_mark n m rest true h k = (tt, h)
  from_mark n m rest false h k = k

  -- what is left when items up to a mark are dropped fits still
  pub left_fit : (n : ℕ) (items : List Item) → ItemsFit g r items → ItemsFit g r (items_from_mark n items)
  left_fit n [] h = tt
  left_fit n (does s ∷ rest) h = left_fit n rest h.1
  left_fit n (says i ∷ rest) h = left_fit n rest h.1
  left_fit n (stores place v ∷ rest) h = left_fit n rest h.1
  left_fit n (stamps resource place v ∷ rest) h = left_fit n rest h.1
  left_fit n (mark m ∷ rest) h = from_mark n m rest (nat_eq n m) h.1 (left_fit n rest h.1)
  left_fit n (awaits c pos ∷ rest) h = left_fit n rest h.1
  left_fit n (transaction_end c is_master pos ∷ rest) h = left_fit n rest h.1
  left_fit n (chooses choices otherwise ∷ rest) h = left_fit n rest h.1
  left_fit n (fixed i v counter ∷ rest) h = left_fit n rest h.1
  left_fit n (ends ∷ rest) h = left_fit n rest h.1
