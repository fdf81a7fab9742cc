-- Where a statement stands in a branch, an `if` or a loop, no declaration stands: so the grammar has it.
use Rattle.std.proofs.Common.{◌≡◌, ℕ, zero, suc, List, [], ◌∷◌, Option, None, Some, slice_get, subst, bytes_eq, Bool, true, false}
use Rattle.xc_tree.specs.declared.token.Tok.{Tok}
use Rattle.xc_tree.specs.Plain as plain
use Rattle.xc_tree.specs.Symbol.{Symbol, sym, key, a_name, a_number, many, maybe, program, item, body, block, block_item, decl, statement, closed, branch, assign, Value, Values}
use Rattle.xc_tree.specs.Grammar.{Rule, Extent, rules, kept}
use Rattle.xc_tree.specs.Derives.{Room, extent, Derives, a_sym, a_key, named, counted, by_rule, Row, done, next}
use Rattle.xc_kernel.specs.Programs.{Function, functions, function_by, function_named}
use Rattle.xc_wellformed.proofs.Grammar.{AllOf, MaybeOf}

-- what declares nothing by a declaration, outside of the blocks in it
abbrev mutual
  pub Stays : plain.Statement → Type 0
  Stays (plain.statement a pos close own) = ActionStays a

  pub ActionStays : plain.Action → Type 0
  ActionStays (plain.declare ds) = ⊥
  ActionStays (plain.if_then test a b) = Stays a × MaybeStays b
  ActionStays (plain.while_loop test a) = Stays a
  ActionStays (plain.do_while a test) = Stays a
  ActionStays (plain.par bs) = BranchesStay bs
  ActionStays other = Unit {0}

  pub MaybeStays : plain.Maybe → Type 0
  MaybeStays plain.absent = Unit {0}
  MaybeStays (plain.present s) = Stays s

  pub BranchStays : plain.Branch → Type 0
  BranchStays (plain.branch place s) = Stays s

  pub BranchesStay : plain.Branches → Type 0
  BranchesStay plain.no_branch = Unit {0}
  BranchesStay (plain.more_branches b bs) = BranchStays b × BranchesStay bs

-- what stands in a block declares, or is so
abbrev pub Stands : plain.Statement → Type 0
Stands (plain.statement (plain.declare ds) pos close own) = Unit {0}
Stands other = Stays other

abbrev pub AllStand : plain.Statements → Type 0
AllStand plain.no_more = Unit {0}
AllStand (plain.more s ss) = Stands s × AllStand ss

abbrev pub BodyStands : plain.Statement → Type 0
BodyStands (plain.statement (plain.block ss) pos close own) = AllStand ss
BodyStands other = Unit {0}

abbrev ItemStands : plain.Item → Type 0
ItemStands (plain.port p) = Unit {0}
ItemStands (plain.function h b) = BodyStands b

stands : (s : plain.Statement) → Stays s → Stands s
stands (plain.statement (plain.declare ds) pos close own) h = absurd h
stands (plain.statement plain.empty pos close own) h = h
stands (plain.statement (plain.block ss) pos close own) h = h
stands (plain.statement (plain.assign to symbol at r) pos close own) h = h
stands (plain.statement (plain.step to symbol) pos close own) h = h
stands (plain.statement (plain.perform r) pos close own) h = h
stands (plain.statement (plain.output o) pos close own) h = h
stands (plain.statement (plain.input i) pos close own) h = h
stands (plain.statement (plain.if_then test a b) pos close own) h = h
stands (plain.statement (plain.while_loop test a) pos close own) h = h
stands (plain.statement (plain.do_while a test) pos close own) h = h
stands (plain.statement (plain.for_loop x test y a) pos close own) h = h
stands (plain.statement (plain.return_with r) pos close own) h = h
stands (plain.statement plain.break_out pos close own) h = h
stands (plain.statement plain.continue_on pos close own) h = h
stands (plain.statement (plain.par bs) pos close own) h = h
stands (plain.statement (plain.replicated x y z from until b) pos close own) h = h
stands (plain.statement (plain.select cs) pos close own) h = h
stands (plain.statement (plain.transaction is_master ss) pos close own) h = h

all_stand : (ss : List plain.Statement) → AllOf Stands ss → AllStand (plain.statements ss)
all_stand [] h = tt
all_stand (s ∷ ss) h = (h.0, all_stand ss h.1)

all_branches : (bs : List plain.Branch) → AllOf BranchStays bs → BranchesStay (plain.branches bs)
all_branches [] h = tt
all_branches (b ∷ bs) h = (h.0, all_branches bs h.1)

all_kept : (is : List (Option plain.Item)) → AllOf (MaybeOf ItemStands) is → AllOf ItemStands (kept is)
all_kept [] h = tt
all_kept (None ∷ is) h = all_kept is h.1
all_kept (Some i ∷ is) h = (h.0, all_kept is h.1)

-- of what a symbol derives
abbrev Good : (s : Symbol) → Value s → Type 0
Good (many s) = AllOf (Good s)
Good (maybe s) = MaybeOf (Good s)
Good program = AllOf ItemStands
Good item = MaybeOf ItemStands
Good body = BodyStands
Good block = AllOf Stands
Good block_item = Stands
Good decl = Stands
Good statement = Stays
Good closed = Stays
Good branch = BranchStays
Good assign = ActionStays
Good _ = λ v. Unit {0}

abbrev RowGood : (ss : List Symbol) → Values ss → Type 0
RowGood [] vs = Unit {0}
RowGood (s ∷ ss) vs = Good s vs.0 × RowGood ss vs.1

-- an alternative keeps it
abbrev Keeps : {V : Type 0} → (V → Type 0) → Rule V → Type 0
Keeps G r = (e : Extent) (x : Values r.parts) → RowGood r.parts x → G (r.make e x)

infixr 20 ◌&◌
data AllKeep {V : Type 0} (G : V → Type 0) : List (Rule V) → Type 0 where
  none : AllKeep G []
  ◌&◌ : {r : Rule V} {rs : List (Rule V)} → Keeps G r → AllKeep G rs → AllKeep G (r ∷ rs)

among_all : {V : Type 0} (G : V → Type 0) (rs : List (Rule V)) (r : Rule V) (at : ℕ) → AllKeep G rs → slice_get rs at ≡ Some r → Keeps G r
among_all G [] r at none e = absurd (cc)
among_all G (x ∷ rs) r zero (a & more) e = let g : x ≡ r = cc in subst (λ y. Keeps G y) g a
among_all G (x ∷ rs) r (suc at) (a & more) e = among_all G rs r at more e

-- where nothing is asked
nothing : {V : Type 0} (rs : List (Rule V)) → AllKeep (λ x. Unit {0}) rs
nothing [] = none
nothing (r ∷ rs) = (λ e x g. tt) & nothing rs

all_keep : (s : Symbol) → AllKeep (Good s) (rules s)
all_keep (sym o) = none
all_keep (key w) = none
all_keep a_name = none
all_keep a_number = none
all_keep (many s) = (λ e x g. tt) & (λ e x g. (g.0, g.1.0)) & none
all_keep (maybe s) = (λ e x g. tt) & (λ e x g. g.0) & none
all_keep program = (λ e x g. all_kept x.0 g.0) & none
all_keep item = (λ e x g. tt) & (λ e x g. g.1.0) & (λ e x g. tt) & none
all_keep body = (λ e x g. all_stand x.0 g.0) & none
all_keep block = (λ e x g. g.1.0) & none
all_keep block_item = (λ e x g. g.0) & (λ e x g. stands x.0 g.0) & none
all_keep decl = (λ e x g. tt) & (λ e x g. tt) & (λ e x g. tt) & none
all_keep statement =
    (λ e x g. tt) &
    (λ e x g. tt) &
    (λ e x g. g.0) &
    (λ e x g. tt) &
    (λ e x g. tt) &
    (λ e x g. tt) &
    (λ e x g. (g.1.1.1.1.0, tt)) &
    (λ e x g. (g.1.1.1.1.0, g.1.1.1.1.1.1.0)) &
    (λ e x g. g.1.1.1.1.0) &
    (λ e x g. g.1.0) &
    (λ e x g. tt) &
    (λ e x g. tt) &
    (λ e x g. tt) &
    (λ e x g. tt) &
    (λ e x g. all_branches x.1.1.0 g.1.1.0) &
    (λ e x g. tt) &
    (λ e x g. tt) &
    (λ e x g. tt) &
    (λ e x g. tt) & none
all_keep closed = (λ e x g. g.0) & none
all_keep branch = (λ e x g. g.1.0) & none
all_keep assign = (λ e x g. tt) & (λ e x g. tt) & (λ e x g. tt) & (λ e x g. tt) & none
all_keep s = nothing (rules s)

mutual
  good : {toks : List Tok} {room : Room} {s : Symbol} {i j : ℕ} {v : Value s} → Derives toks room s i j v → Good s v
  good (a_sym on) = tt
  good (a_key on) = tt
  good (named on) = tt
  good (counted on) = tt
  good {toks} {s} {i} {j} (by_rule {r} {vs} a h row f) = among_all (Good s) (rules s) r a.at (all_keep s) a.there (extent toks i j) vs (row_good row)

  row_good : {toks : List Tok} {room : Room} {ss : List Symbol} {i j : ℕ} {vs : Values ss} → Row toks room ss i j vs → RowGood ss vs
  row_good done = tt
  row_good (next d r) = (good d, row_good r)

abbrev pub FunctionStands : Function → Type 0
FunctionStands f = BodyStands f.body

of_functions : (items : List plain.Item) → AllOf ItemStands items → AllOf FunctionStands (functions items)
of_functions [] h = tt
of_functions (plain.port p ∷ items) h = of_functions items h.1
of_functions (plain.function g b ∷ items) h = (h.0, of_functions items h.1)

-- so it is in each function of what some tokens are
pub functions_stand : (toks : List Tok) (room : Room) (i j : ℕ) (items : List plain.Item) → Derives toks room program i j items → AllOf FunctionStands (functions items)
functions_stand toks room i j items d = of_functions items (good d)

pub stand_named : (fs : List Function) → AllOf FunctionStands fs → (t : List ℕ) (f : Function) → function_named fs t ≡ Some f → BodyStands f.body
stand_named [] h t f e = absurd (none_some f e)
  where
    none_some : (x : Function) → None ≡ Some x → ⊥
    none_some x q = cc
stand_named (g ∷ fs) h t f e = by (bytes_eq g.head.name.text t) e (stand_named fs h.1 t f)
  where
    some_same : (x y : Function) → Some x ≡ Some y → x ≡ y
    some_same x y q = cc

    by : (b : Bool) → function_by b g (function_named fs t) ≡ Some f → (function_named fs t ≡ Some f → BodyStands f.body) → BodyStands f.body
    by true q k = subst (λ (x : Function). BodyStands x.body) (some_same g f q) h.0
    by false q k = k q
