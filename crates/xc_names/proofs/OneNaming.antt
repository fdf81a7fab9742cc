-- What the names of a tree mean is one.
use Rattle.std.proofs.Common.{◌≡◌, ◌+◌, inl, inr, ℕ, List, [], ◌∷◌, ◌++◌, slice_get, Option, Some, refl, sym, ap, subst, ◌∙◌, append-nil, arith}
use Rattle.xc_tree.specs.declared.names.Mark.{Mark}
use Rattle.xc_tree.specs.declared.names.Mark.TheVariants.{Opens, Closes, Declares, Uses, Calls}
use Rattle.xc_tree.specs.Names.Scopes.{Means}
use Rattle.xc_tree.specs.Names.Marks.{of_program}
use Rattle.xc_tree.specs.Names.Uses.{AreUses, Entries, number_of, none, past_begin, past_end, declared, used}
use Rattle.xc_tree.specs.Plain.{Item}
use Rattle.xc_tree.specs.Types.Named.{IsNamed, NamedProgram}
use Rattle.xc_names.proofs.Cycles.{one_meaning}

-- what a mark adds to the entries
abbrev Adds : List Mark → ℕ → Mark → List ℕ → Type 0
Adds ms k Opens added = added ≡ []
Adds ms k Closes added = added ≡ []
Adds ms k (Declares d) added = added ≡ number_of ms k ∷ []
Adds ms k (Uses n) added = (d : ℕ) × Means ms k n.text d × (added ≡ number_of ms d ∷ [])
Adds ms k (Calls n) added = (d : ℕ) × Means ms k n.text d × (added ≡ number_of ms d ∷ [])

added_one : (ms : List Mark) (k : ℕ) (m : Mark) (a b : List ℕ) → Adds ms k m a → Adds ms k m b → a ≡ b
added_one ms k Opens a b h i = h ∙ sym i
added_one ms k Closes a b h i = h ∙ sym i
added_one ms k (Declares d) a b h i = h ∙ sym i
added_one ms k (Uses n) a b (d, m, h) (e, l, i) = h ∙ ap (λ x. number_of ms x ∷ []) (one_meaning ms k n.text d e m l) ∙ sym i
added_one ms k (Calls n) a b (d, m, h) (e, l, i) = h ∙ ap (λ x. number_of ms x ∷ []) (one_meaning ms k n.text d e m l) ∙ sym i

-- the last mark, and what it adds
record Last (ms : List Mark) (k : ℕ) (before ns : List ℕ) : Type 0 where
  mark : Mark
  there : slice_get ms k ≡ Some mark
  added : List ℕ
  adds : Adds ms k mark added
  are : ns ≡ before ++ added

data Begun (ms : List Mark) (i : ℕ) (ns : List ℕ) : Type 0 where
  nothing : i ≡ 0 → ns ≡ [] → Begun ms i ns
  further : (k : ℕ) (before : List ℕ) → i ≡ k + 1 → Entries ms k before → Last ms k before ns → Begun ms i ns

begun : (ms : List Mark) (i : ℕ) (ns : List ℕ) → Entries ms i ns → Begun ms i ns
begun ms i ns none = nothing refl refl
begun ms i ns (past_begin {i = k} rest e) = further k ns refl rest (record { mark = Opens; there = e; added = []; adds = refl; are = sym (append-nil ns) })
begun ms i ns (past_end {i = k} rest e) = further k ns refl rest (record { mark = Closes; there = e; added = []; adds = refl; are = sym (append-nil ns) })
begun ms i ns (declared {i = k} {ns = before} {d} rest e) = further k before refl rest (record { mark = Declares d; there = e; added = number_of ms k ∷ []; adds = refl; are = refl })
begun ms i ns (used {i = k} {ns = before} {n} d rest (inl e) means) = further k before refl rest (record { mark = Uses n; there = e; added = number_of ms d ∷ []; adds = (d, means, refl); are = refl })
begun ms i ns (used {i = k} {ns = before} {n} d rest (inr e) means) = further k before refl rest (record { mark = Calls n; there = e; added = number_of ms d ∷ []; adds = (d, means, refl); are = refl })

mark_one : (o : Option Mark) (a b : Mark) → o ≡ Some a → o ≡ Some b → a ≡ b
mark_one o a b e f = cc

-- two that are one before their last mark are one
last_one : (ms : List Mark) (k : ℕ) (before other ns os : List ℕ) → before ≡ other → Last ms k before ns → Last ms k other os → ns ≡ os
last_one ms k before other ns os e a b =
    let same = mark_one (slice_get ms k) b.mark a.mark b.there a.there in
    let added = added_one ms k a.mark a.added b.added a.adds (subst (λ m. Adds ms k m b.added) same b.adds) in
    a.are ∙ ap (λ l. before ++ l) added ∙ ap (λ l. l ++ b.added) e ∙ sym b.are

entries_by : (ms : List Mark) (k : ℕ) (before ns os : List ℕ) → ((other : List ℕ) → Entries ms k other → before ≡ other) → Last ms k before ns → Begun ms (k + 1) os → ns ≡ os
entries_by ms k before ns os earlier last (nothing e f) = absurd (omega (arith, e))
entries_by ms k before ns os earlier last (further j other e rest l) =
    let same : j ≡ k = omega (arith, e) in
    last_one ms k before other ns os (earlier other (subst (λ x. Entries ms x other) same rest)) last (subst (λ x. Last ms x other os) same l)

no_entries : (ms : List Mark) (os : List ℕ) → Begun ms 0 os → [] ≡ os
no_entries ms os (nothing e f) = sym f
no_entries ms os (further k before e rest l) = absurd (omega (arith, e))

entries_one : (ms : List Mark) (i : ℕ) (ns os : List ℕ) → Entries ms i ns → Entries ms i os → ns ≡ os
entries_one ms i ns os none y = no_entries ms os (begun ms 0 os y)
entries_one ms i ns os (past_begin {i = k} rest e) y =
    entries_by ms k ns ns os (λ other z. entries_one ms k ns other rest z) (record { mark = Opens; there = e; added = []; adds = refl; are = sym (append-nil ns) }) (begun ms (k + 1) os y)
entries_one ms i ns os (past_end {i = k} rest e) y =
    entries_by ms k ns ns os (λ other z. entries_one ms k ns other rest z) (record { mark = Closes; there = e; added = []; adds = refl; are = sym (append-nil ns) }) (begun ms (k + 1) os y)
entries_one ms i ns os (declared {i = k} {ns = before} {d} rest e) y =
    entries_by ms k before ns os (λ other z. entries_one ms k before other rest z) (record { mark = Declares d; there = e; added = number_of ms k ∷ []; adds = refl; are = refl }) (begun ms (k + 1) os y)
entries_one ms i ns os (used {i = k} {ns = before} {n} d rest (inl e) means) y =
    entries_by ms k before ns os (λ other z. entries_one ms k before other rest z) (record { mark = Uses n; there = e; added = number_of ms d ∷ []; adds = (d, means, refl); are = refl }) (begun ms (k + 1) os y)
entries_one ms i ns os (used {i = k} {ns = before} {n} d rest (inr e) means) y =
    entries_by ms k before ns os (λ other z. entries_one ms k before other rest z) (record { mark = Calls n; there = e; added = number_of ms d ∷ []; adds = (d, means, refl); are = refl }) (begun ms (k + 1) os y)

-- a list of marks has one list of uses
pub uses_one : (ms : List Mark) (ns os : List ℕ) → AreUses ms ns → AreUses ms os → ns ≡ os
uses_one ms ns os x y = entries_one ms _ ns os x y

pub named_same : (a b : NamedProgram) → a.program ≡ b.program → a.decls ≡ b.decls → a.uses ≡ b.uses → a ≡ b
named_same a b e f g = λ j. record { program = e j; decls = f j; uses = g j }

-- a tree has one named program
pub one_naming : (program : List Item) (a b : NamedProgram) → IsNamed program a → IsNamed program b → a ≡ b
one_naming program a b x y =
    named_same a b (x.program_is ∙ sym y.program_is) (x.decls ∙ sym y.decls) (uses_one (of_program program) a.uses b.uses x.uses y.uses)
