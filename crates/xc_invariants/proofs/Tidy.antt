-- Where no `par`, no `select` and no transaction in a transaction uses its channel, no `par` uses a channel of a transaction around it.
use Rattle.std.proofs.Common.{◌≡◌, ⊎_elim, ℕ, Bool, true, false, ◌||◌, IsTrue, List, [], ◌∷◌, nat_eq, refl, sym, subst, ◌∙◌, true≢false}
use Rattle.std.proofs.lemmas.Bool.{eqb-true}
use Rattle.xc_kernel.specs.Plain as kernel
use Rattle.xc_kernel.specs.Things.{channel, by_expression, by_some_expression, by_input, by_channel, by_statement, by_statements, by_cases, by_default}
use Rattle.xc_kernel.specs.Branches.{branches_of}
use Rattle.xc_kernel.proofs.Used.{or_false}
use Rattle.xc_meaning.specs.Settings.Channels.{is_among}
use Rattle.xc_meaning.proofs.Basics.{or_left, or_right, or_cases}
use Rattle.xc_wellformed.specs.Exits.{ExitsAreInside}
use Rattle.xc_invariants.specs.Every.{EveryStatement, EveryStatements, EveryCases, EveryDefault, EveryBranches}
use Rattle.xc_invariants.specs.Rules.{AnyThing, AnyPar}
use Rattle.xc_invariants.specs.Placed.{AnyInside, IsDistinct, AreUnused, PlacedStatement, PlacedStatements, PlacedCases, PlacedDefault, PlacedBranches}
use Rattle.xc_invariants.specs.Lawful.{IsTidy}
use Rattle.xc_invariants.specs.Tidy.{nested_use, nested_uses, SpeaksAlone, TransactionsAreTidy}
use Rattle.xc_invariants.proofs.Formed.{fresh_blocks}

pub not_true : (b : Bool) → (b ≡ true → ⊥) → b ≡ false
not_true true h = absurd (h refl)
not_true false h = refl

pub never : {A : Type 0} {b : Bool} → b ≡ true → b ≡ false → A
never e f = absurd (true≢false (sym e ∙ f))

pub in_either : (a b x y : Bool) → (IsTrue a → IsTrue x) → (IsTrue b → IsTrue y) → IsTrue (a || b) → IsTrue (x || y)
in_either a b x y f g h = ⊎_elim (λ l. or_left x y (f l)) (λ r. or_right x y (g r)) (or_cases a b h)

-- what is used by a nested `par`, select or transaction is used
module _ (c : ℕ) where
  mutual
    pub nested_is_used : (s : kernel.Statement) → IsTrue (nested_use c s) → IsTrue (by_statement (channel c) s)
    nested_is_used (kernel.set_zero v) h = never h refl
    nested_is_used (kernel.set p e) h = never h refl
    nested_is_used (kernel.output o) h = never h refl
    nested_is_used (kernel.input i) h = never h refl
    nested_is_used (kernel.if_then e a b) h = or_right (by_expression (channel c) e) _ (in_either (nested_uses c a) (nested_uses c b) (by_statements (channel c) a) (by_statements (channel c) b) (nested_are_used a) (nested_are_used b) h)
    nested_is_used (kernel.loop e a b) h = or_right (by_expression (channel c) e) _ (in_either (nested_uses c a) (nested_uses c b) (by_statements (channel c) a) (by_statements (channel c) b) (nested_are_used a) (nested_are_used b) h)
    nested_is_used (kernel.block n a) h = nested_are_used a h
    nested_is_used (kernel.exit n) h = never h refl
    nested_is_used (kernel.select cs d pos) h = h
    nested_is_used (kernel.par bs) h = h
    nested_is_used (kernel.transaction d is_master a start close) h = h

    pub nested_are_used : (ss : kernel.Statements) → IsTrue (nested_uses c ss) → IsTrue (by_statements (channel c) ss)
    nested_are_used kernel.no_more h = never h refl
    nested_are_used (kernel.more s ss) h = in_either (nested_use c s) (nested_uses c ss) (by_statement (channel c) s) (by_statements (channel c) ss) (nested_is_used s) (nested_are_used ss) h

  -- so what isn't used isn't used by one of these
  pub unused_not_nested : (ss : kernel.Statements) → by_statements (channel c) ss ≡ false → nested_uses c ss ≡ false
  unused_not_nested ss e = not_true (nested_uses c ss) (λ h. never (nested_are_used ss h) e)

-- of each of these channels
abbrev pub Each : List ℕ → (ℕ → Bool) → Type 0
Each inside by = (c : ℕ) → IsTrue (is_among c inside) → by c ≡ false

left : (inside : List ℕ) (a b : ℕ → Bool) → Each inside (λ c. a c || b c) → Each inside a
left inside a b h c m = (or_false (a c) (b c) (h c m)).0

right : (inside : List ℕ) (a b : ℕ → Bool) → Each inside (λ c. a c || b c) → Each inside b
right inside a b h c m = (or_false (a c) (b c) (h c m)).1

pub one_more : (d : ℕ) (inside : List ℕ) (a : kernel.Statements) → SpeaksAlone d a → Each inside (λ c. by_channel (channel c) d || by_statements (channel c) a) → Each (d ∷ inside) (λ c. nested_uses c a)
one_more d inside a e h c m =
    ⊎_elim (λ s. subst (λ (x : ℕ). nested_uses x a ≡ false) (sym (eqb-true c d s)) e) (λ k. unused_not_nested c a ((or_false (by_channel (channel c) d) (by_statements (channel c) a) (h c k)).1)) (or_cases (nat_eq c d) (is_among c inside) m)

mutual
  placed : (s : kernel.Statement) (around free inside : List ℕ) → Each inside (λ c. nested_use c s) → EveryStatement AnyThing AnyPar SpeaksAlone s → PlacedStatement IsDistinct AnyInside around free inside s → PlacedStatement IsDistinct AreUnused around free inside s
  placed (kernel.set_zero v) around free inside k t h = tt
  placed (kernel.set p e) around free inside k t h = tt
  placed (kernel.output o) around free inside k t h = tt
  placed (kernel.input i) around free inside k t h = tt
  placed (kernel.if_then e a b) around free inside k t h =
      (all_placed a around free inside (left inside (λ c. nested_uses c a) (λ c. nested_uses c b) k) t.1 h.0, all_placed b around free inside (right inside (λ c. nested_uses c a) (λ c. nested_uses c b) k) t.2 h.1)
  placed (kernel.loop e a b) around free inside k t h =
      (all_placed a around free inside (left inside (λ c. nested_uses c a) (λ c. nested_uses c b) k) t.1 h.0, all_placed b around free inside (right inside (λ c. nested_uses c a) (λ c. nested_uses c b) k) t.2 h.1)
  placed (kernel.block n a) around free inside k t h = (h.0, all_placed a (n ∷ around) (n ∷ free) inside k t h.1)
  placed (kernel.exit n) around free inside k t h = h
  placed (kernel.select cs d pos) around free inside k t h =
      (cases_placed cs around free inside (left inside (λ c. by_cases (channel c) cs) (λ c. by_default (channel c) d) k) t.0 h.0, default_placed d around free inside (right inside (λ c. by_cases (channel c) cs) (λ c. by_default (channel c) d) k) t.1 h.1)
  placed (kernel.par bs) around free inside k t h = (record { unused = λ c m u. never u (k c m) }, branches_placed bs t.1 h.1)
  placed (kernel.transaction d is_master a start close) around free inside k t h = all_placed a around [] (d ∷ inside) (one_more d inside a t.1 k) t.2 h

  all_placed : (ss : kernel.Statements) (around free inside : List ℕ) → Each inside (λ c. nested_uses c ss) → EveryStatements AnyThing AnyPar SpeaksAlone ss → PlacedStatements IsDistinct AnyInside around free inside ss → PlacedStatements IsDistinct AreUnused around free inside ss
  all_placed kernel.no_more around free inside k t h = tt
  all_placed (kernel.more s ss) around free inside k t h =
      (placed s around free inside (left inside (λ c. nested_use c s) (λ c. nested_uses c ss) k) t.0 h.0, all_placed ss around free inside (right inside (λ c. nested_use c s) (λ c. nested_uses c ss) k) t.1 h.1)

  cases_placed : (cs : kernel.Cases) (around free inside : List ℕ) → Each inside (λ c. by_cases (channel c) cs) → EveryCases AnyThing AnyPar SpeaksAlone cs → PlacedCases IsDistinct AnyInside around free inside cs → PlacedCases IsDistinct AreUnused around free inside cs
  cases_placed kernel.no_case around free inside k t h = tt
  cases_placed (kernel.more_cases (kernel.case guard i a) cs) around free inside k t h =
      (all_placed a around free inside (λ c m. unused_not_nested c a (body c (k c m))) t.0.2 h.0, cases_placed cs around free inside (λ c m. rest c (k c m)) t.1 h.1)
    where
      body : (c : ℕ) → by_cases (channel c) (kernel.more_cases (kernel.case guard i a) cs) ≡ false → by_statements (channel c) a ≡ false
      body c e = (or_false (by_input (channel c) i) (by_statements (channel c) a) (or_false (by_some_expression (channel c) guard) _ (or_false _ (by_cases (channel c) cs) e).0).1).1

      rest : (c : ℕ) → by_cases (channel c) (kernel.more_cases (kernel.case guard i a) cs) ≡ false → by_cases (channel c) cs ≡ false
      rest c e = (or_false _ (by_cases (channel c) cs) e).1

  default_placed : (d : kernel.Default) (around free inside : List ℕ) → Each inside (λ c. by_default (channel c) d) → EveryDefault AnyThing AnyPar SpeaksAlone d → PlacedDefault IsDistinct AnyInside around free inside d → PlacedDefault IsDistinct AreUnused around free inside d
  default_placed kernel.no_default around free inside k t h = tt
  default_placed (kernel.default a) around free inside k t h = all_placed a around free inside (λ c m. unused_not_nested c a (k c m)) t h

  branches_placed : (bs : kernel.Branches) → EveryBranches AnyThing AnyPar SpeaksAlone bs → PlacedBranches IsDistinct AnyInside bs → PlacedBranches IsDistinct AreUnused bs
  branches_placed kernel.no_branch t h = tt
  branches_placed (kernel.more_branches (kernel.branch a pos) bs) t h = (all_placed a [] [] [] (λ c m. never m refl) t.0 h.0, branches_placed bs t.1 h.1)

-- so a kernel whose transactions are tidy, and that leaves blocks around, is tidy
pub tidy_by : (K : kernel.Kernel) → ExitsAreInside K → TransactionsAreTidy K → IsTidy K
tidy_by K h t = record { placed = record { roots = branches_placed (branches_of K.roots) t.tidy (fresh_blocks K h).roots } }
