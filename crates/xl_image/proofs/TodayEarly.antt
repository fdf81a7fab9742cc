-- Statements of no later form, and that tokens without its words derive no others.
use Rattle.std.proofs.Common.{◌≡◌, ℕ, zero, suc, List, [], ◌∷◌, slice_get, Option, None, Some, refl, subst}
use Rattle.xc_tree.specs.declared.token.Tok.{Tok}
use Rattle.xc_tree.specs.Plain as plain
use Rattle.xc_tree.specs.Words as words
use Rattle.xc_tree.specs.Symbol.{Symbol, sym, key, a_name, a_number, many, maybe, commas, program, item, body, block, block_item, decl, statement, closed, case_item, for_start, for_step, branch, case, assign, Value, Values}
use Rattle.xc_tree.specs.Grammar.{Rule, Extent, rules, kept}
use Rattle.xc_tree.specs.Derives.{Room, extent, Derives, a_sym, a_key, named, counted, by_rule, Row, done, next}
use Rattle.xl_image.proofs.TodayRules.{EachRule, none, ◌&◌, among_each}
use Rattle.xc_wellformed.proofs.Grammar.{AllOf, MaybeOf}
use Rattle.xc_today.specs.Today.{later_words, IsNoneOf, KindIsSupported, IsSupported}

-- no transaction
abbrev mutual
  pub IsEarly : plain.Statement → Type 0
  IsEarly (plain.statement action pos close own) = IsEarlyAction action

  pub IsEarlyAction : plain.Action → Type 0
  IsEarlyAction (plain.block ss) = AreEarly ss
  IsEarlyAction (plain.if_then test first second) = IsEarly first × IsMaybeEarly second
  IsEarlyAction (plain.while_loop test s) = IsEarly s
  IsEarlyAction (plain.do_while s test) = IsEarly s
  IsEarlyAction (plain.for_loop first test step s) = IsMaybeEarly first × (IsMaybeEarly step × IsEarly s)
  IsEarlyAction (plain.par bs) = AreEarlyBranches bs
  IsEarlyAction (plain.replicated first second third from until b) = IsEarlyBranch b
  IsEarlyAction (plain.select cs) = AreEarlyCases cs
  IsEarlyAction (plain.transaction is_master ss) = ⊥
  IsEarlyAction other = Unit {0}

  pub IsMaybeEarly : plain.Maybe → Type 0
  IsMaybeEarly plain.absent = Unit {0}
  IsMaybeEarly (plain.present s) = IsEarly s

  pub AreEarly : plain.Statements → Type 0
  AreEarly plain.no_more = Unit {0}
  AreEarly (plain.more s ss) = IsEarly s × AreEarly ss

  pub IsEarlyBranch : plain.Branch → Type 0
  IsEarlyBranch (plain.branch place s) = IsEarly s

  pub AreEarlyBranches : plain.Branches → Type 0
  AreEarlyBranches plain.no_branch = Unit {0}
  AreEarlyBranches (plain.more_branches b bs) = IsEarlyBranch b × AreEarlyBranches bs

  pub IsEarlyCase : plain.Case → Type 0
  IsEarlyCase (plain.case pos guard i ss) = AreEarly ss

  pub AreEarlyCases : plain.Cases → Type 0
  AreEarlyCases plain.no_case = Unit {0}
  AreEarlyCases (plain.more_cases c cs) = IsEarlyCase c × AreEarlyCases cs

abbrev pub IsEarlyItem : plain.Item → Type 0
IsEarlyItem (plain.port p) = Unit {0}
IsEarlyItem (plain.function head s) = IsEarly s

-- from lists to what the tree has

maybe_early : (o : Option plain.Statement) → MaybeOf IsEarly o → IsMaybeEarly (plain.maybe o)
maybe_early None h = tt
maybe_early (Some s) h = h

all_early : (ss : List plain.Statement) → AllOf IsEarly ss → AreEarly (plain.statements ss)
all_early [] h = tt
all_early (s ∷ ss) h = (h.0, all_early ss h.1)

all_branches : (bs : List plain.Branch) → AllOf IsEarlyBranch bs → AreEarlyBranches (plain.branches bs)
all_branches [] h = tt
all_branches (b ∷ bs) h = (h.0, all_branches bs h.1)

all_cases : (cs : List plain.Case) → AllOf IsEarlyCase cs → AreEarlyCases (plain.cases cs)
all_cases [] h = tt
all_cases (c ∷ cs) h = (h.0, all_cases cs h.1)

all_kept : (is : List (Option plain.Item)) → AllOf (MaybeOf IsEarlyItem) is → AllOf IsEarlyItem (kept is)
all_kept [] h = tt
all_kept (None ∷ is) h = all_kept is h.1
all_kept (Some i ∷ is) h = (h.0, all_kept is h.1)

-- what holds of what a symbol derives
abbrev Good : (s : Symbol) → Value s → Type 0
Good (key w) = λ p. IsNoneOf later_words w
Good (many s) = AllOf (Good s)
Good (maybe s) = MaybeOf (Good s)
Good (commas s) = AllOf (Good s)
Good program = AllOf IsEarlyItem
Good item = MaybeOf IsEarlyItem
Good body = IsEarly
Good block = AllOf IsEarly
Good block_item = IsEarly
Good decl = IsEarly
Good statement = IsEarly
Good closed = IsEarly
Good case_item = IsEarly
Good for_start = IsEarly
Good for_step = IsEarly
Good branch = IsEarlyBranch
Good case = IsEarlyCase
Good assign = IsEarlyAction
Good other = λ v. Unit {0}

abbrev RowGood : (ss : List Symbol) → Values ss → Type 0
RowGood [] vs = Unit {0}
RowGood (s ∷ ss) vs = Good s vs.0 × RowGood ss vs.1

-- an alternative keeps it
abbrev Keeps : {V : Type 0} → (V → Type 0) → Rule V → Type 0
Keeps G r = (e : Extent) (x : Values r.parts) → RowGood r.parts x → G (r.make e x)

-- where nothing is asked
nothing : {V : Type 0} (rs : List (Rule V)) → EachRule (λ r. Keeps (λ x. Unit {0}) r) rs
nothing [] = none
nothing (r ∷ rs) = (λ e x g. tt) & nothing rs

-- one of them isn't none of them
no_one : (places : List ℕ) (i place : ℕ) → slice_get places i ≡ Some place → IsNoneOf places place → ⊥
no_one [] i place e h = absurd (cc)
no_one (x ∷ xs) zero place e h = let g : x ≡ place = cc in h.0 (cc)
no_one (x ∷ xs) (suc i) place e h = no_one xs i place e h.1

all_keep : (s : Symbol) → EachRule (λ r. Keeps (Good s) r) (rules s)
all_keep (sym o) = none
all_keep (key w) = none
all_keep a_name = none
all_keep a_number = none
all_keep (many s) = (λ e x g. tt) & (λ e x g. (g.0, g.1.0)) & none
all_keep (maybe s) = (λ e x g. tt) & (λ e x g. g.0) & none
all_keep (commas s) = (λ e x g. (g.0, tt)) & (λ e x g. (g.0, g.1.1.0)) & none
all_keep program = (λ e x g. all_kept x.0 g.0) & none
all_keep item = (λ e x g. tt) & (λ e x g. g.1.0) & (λ e x g. tt) & none
all_keep body = (λ e x g. all_early x.0 g.0) & none
all_keep block = (λ e x g. g.1.0) & none
all_keep block_item = (λ e x g. g.0) & (λ e x g. g.0) & none
all_keep decl = (λ e x g. tt) & (λ e x g. tt) & (λ e x g. tt) & none
all_keep statement =
    (λ e x g. tt) &
    (λ e x g. all_early x.0 g.0) &
    (λ e x g. g.0) &
    (λ e x g. tt) &
    (λ e x g. tt) &
    (λ e x g. tt) &
    (λ e x g. (g.1.1.1.1.0, tt)) &
    (λ e x g. (g.1.1.1.1.0, g.1.1.1.1.1.1.0)) &
    (λ e x g. g.1.1.1.1.0) &
    (λ e x g. g.1.0) &
    (λ e x g. (maybe_early x.1.1.0 g.1.1.0, (maybe_early x.1.1.1.1.1.1.0 g.1.1.1.1.1.1.0, g.1.1.1.1.1.1.1.1.0))) &
    (λ e x g. tt) &
    (λ e x g. tt) &
    (λ e x g. tt) &
    (λ e x g. all_branches x.1.1.0 g.1.1.0) &
    (λ e x g. g.1.1.1.1.1.1.1.1.1.1.1.1.1.1.0) &
    (λ e x g. (g.1.1.0, all_cases x.1.1.1.0 g.1.1.1.0)) &
    (λ e x g. absurd (no_one later_words 0 words.master_word refl g.0)) &
    (λ e x g. absurd (no_one later_words 1 words.slave_word refl g.0)) & none
all_keep closed = (λ e x g. g.0) & none
all_keep case_item = (λ e x g. g.0) & (λ e x g. g.0) & none
all_keep for_start = (λ e x g. g.0) & (λ e x g. tt) & none
all_keep for_step = (λ e x g. g.0) & none
all_keep branch = (λ e x g. g.1.0) & none
all_keep case = (λ e x g. all_early x.1.1.1.1.0 g.1.1.1.1.0) & (λ e x g. all_early x.1.1.0 g.1.1.0) & none
all_keep assign = (λ e x g. tt) & (λ e x g. tt) & (λ e x g. tt) & (λ e x g. tt) & none
all_keep s = nothing (rules s)

-- a token of these
of_today : (toks : List Tok) (i : ℕ) (t : Tok) → IsSupported toks → slice_get toks i ≡ Some t → KindIsSupported t.kind
of_today [] i t h e = absurd (cc)
of_today (x ∷ xs) zero t h e = let g : x ≡ t = cc in subst (λ (y : Tok). KindIsSupported y.kind) g h.0
of_today (x ∷ xs) (suc i) t h e = of_today xs i t h.1 e

module _ (toks : List Tok) (today : IsSupported toks) where
  mutual
    good : {room : Room} {s : Symbol} {i j : ℕ} {v : Value s} → Derives toks room s i j v → Good s v
    good (a_sym on) = tt
    good (a_key on) = of_today toks _ _ today on.there
    good (named on) = tt
    good (counted on) = tt
    good {s} {i} {j} (by_rule {r} {vs} a h row f) = among_each (λ x. Keeps (Good s) x) (rules s) r a.at (all_keep s) a.there (extent toks i j) vs (row_good row)

    row_good : {room : Room} {ss : List Symbol} {i j : ℕ} {vs : Values ss} → Row toks room ss i j vs → RowGood ss vs
    row_good done = tt
    row_good (next d r) = (good d, row_good r)

  -- the program that they are
  pub program_early : (room : Room) (i j : ℕ) (items : List plain.Item) → Derives toks room program i j items → AllOf IsEarlyItem items
  program_early room i j items d = good d
