-- The words of the kernel's expressions are those of the text's, by the types that `unsigned_at` tells.
use Rattle.std.proofs.Common.{◌≡◌, ℕ, ◌+◌, Bool, true, ◌||◌, List, [], ◌∷◌, length, map, Option, refl, sym, ap, subst, ◌∙◌}
use Rattle.xw_words.specs.declared.pos.Pos.{Pos}
use Rattle.xc_tree.specs.declared.names.What.{What}
use Rattle.xc_tree.specs.Names.Marks as marks
use Rattle.xc_tree.specs.Plain as tree
use Rattle.xc_tree.specs.Types.Named.{NamedProgram, past, what_of}
use Rattle.xc_tree.specs.Symbols.{bracket}
use Rattle.xc_tree.specs.Types.Words as words
use Rattle.xc_kernel.specs.declared.kernel.PortUse.{PortUse}
use Rattle.xc_kernel.specs.Plain as kernel
use Rattle.xc_kernel.specs.Operators.{choose, operator_at, operator_of}
use Rattle.xc_kernel.specs.Types.{operation_is_unsigned}
use Rattle.xc_kernel.specs.Values.{Value, word, error, applied}
use Rattle.xc_kernel.specs.Eval.{Store, words_of, eval}
use Rattle.xc_kernel.specs.Paths.{Path}
use Rattle.xc_kernel.specs.Numbering.{Numbering, variable_number}
use Rattle.xc_kernel.specs.Scopes.{Scope, Entity, an_array, entity_of, is_unsigned}
use Rattle.xc_kernel.specs.Expressions.{expression_in, kernel_place, updated, two_operands}
use Rattle.xc_kernel.specs.Context.{Context}
use Rattle.xc_kernel.specs.Parameters.{index_test}
use Rattle.xc_kernel.specs.Programs.{Function, functions, ports}
use Rattle.xc_kernel.specs.Ports.{port_use}
use Rattle.xc_kernel.specs.Copies.{numbering}
use Rattle.xc_meaning.specs.Texts.Words.{array_variable, index_below, spot_of_place, value, value_of_form, updated_value, index_value, spot}
use Rattle.xc_meaning.proofs.Words.{entity_value, entity_spot, element_is, array_spot}
use Rattle.xc_wellformed.specs.Stacks.{found}
use Rattle.xc_wellformed.specs.Denotes.{AnyPath, HasVariable, Denotes, a_variable, whole_array, word_referred, element_referred, array_referred, the_channel, the_end, the_timer, the_port, port_given, the_index, the_function, none_there}
use Rattle.xc_wellformed.specs.Sources.{typed, typed_form, Where}
use Rattle.xc_wellformed.specs.Words.{HasWords, StandsHere, WordsKept, UpdatesKept, StepsKept, SpotsKept}
use Rattle.xc_wellformed.proofs.Sourced as sourced

-- of what is translated by the types of the text
module _ (n : NamedProgram) (num : Numbering) (scope : Scope) (store : Store) where
  mutual
    typed_value : (k : ℕ) (e : tree.Expression) → eval store (typed n num scope k e) ≡ value (words.is_unsigned n) num scope store k e
    typed_value k (tree.expression form pos) = typed_form_value k pos form

    typed_form_value : (k : ℕ) (pos : Pos) (form : tree.Form) → eval store (typed_form n num scope k pos form) ≡ value_of_form (words.is_unsigned n) num scope store k pos form
    typed_form_value k pos (tree.number v u) = refl
    typed_form_value k pos (tree.name text) = entity_value num store pos (entity_of scope text)
    typed_form_value k pos (tree.index text i) = element_is num store pos (entity_of scope text) (typed_value (k + 1) i)
    typed_form_value k pos (tree.unary symbol a) = λ i. applied (operator_at symbol) (words.is_unsigned n k a) pos (typed_value k a i ∷ [])
    typed_form_value k pos (tree.binary symbol a b) =
        let k1 = past k (marks.of_expression a) in
        λ i. applied (operator_at symbol) (operation_is_unsigned (operator_at symbol) (words.is_unsigned n k a) (words.is_unsigned n k1 b)) pos
        (typed_value k a i ∷ typed_value k1 b i ∷ [])
    typed_form_value k pos (tree.choice test a b) =
        let k1 = past k (marks.of_expression test) in
        let k2 = past k1 (marks.of_expression a) in
        λ i. applied choose (words.is_unsigned n k1 a || words.is_unsigned n k2 b) pos
        (typed_value k test i ∷ typed_value k1 a i ∷ typed_value k2 b i ∷ [])
    typed_form_value k pos (tree.cast u a) = typed_value k a

module _ (P : List tree.Item) (n : NamedProgram) (there : Where P n) (store : Store) where
  abbrev fs : List Function
  fs = functions P

  abbrev ps : List PortUse
  ps = map port_use (ports P)

  abbrev num : Numbering
  num = numbering P

  abbrev scope : Scope
  scope = there.scope

  typed_is : (k : ℕ) (e : tree.Expression) → StandsHere P n there store k e → expression_in num scope e ≡ typed n num scope k e
  typed_is k e h = sourced.typed_is n fs ps num (λ c. AnyPath) (λ c. AnyPath) 0 there.stack scope there.agrees e k h.0 h.1

  type_is : (k : ℕ) (e : tree.Expression) → StandsHere P n there store k e → is_unsigned scope e ≡ words.is_unsigned n k e
  type_is k e h = sourced.type_is n fs ps num (λ c. AnyPath) (λ c. AnyPath) 0 there.stack scope there.agrees e k h.0 h.1

  keeps_word : (k : ℕ) (e : tree.Expression) → StandsHere P n there store k e → eval store (expression_in num scope e) ≡ value (words.is_unsigned n) num scope store k e
  keeps_word k e h = ap (eval store) (typed_is k e h) ∙ typed_value n num scope store k e

  keeps_updated : (k : ℕ) (to : tree.Expression) (symbol : ℕ) (pos : Pos) → StandsHere P n there store k to → {u v : Bool} → u ≡ v → (e : kernel.Expression) {w : Value} → eval store e ≡ w →
      eval store (updated num scope to symbol pos u e) ≡ updated_value (words.is_unsigned n) num scope store k to symbol pos v w
  keeps_updated k to symbol pos h t e g =
      λ i. applied (operator_at (operator_of symbol)) (operation_is_unsigned (operator_at (operator_of symbol)) (type_is k to h i) (t i)) pos
      (keeps_word k to h i ∷ g i ∷ [])

  keeps_spot : (k : ℕ) (e : tree.Expression) → StandsHere P n there store k e → spot_of_place store (kernel_place num scope e) ≡ spot (words.is_unsigned n) num scope store k e
  keeps_spot k (tree.expression (tree.name text) pos) h = entity_spot num store pos (entity_of scope text)
  keeps_spot k (tree.expression (tree.index text i) pos) h = array_spot num store pos (entity_of scope text) (keeps_word (k + 1) i (h.0.1, h.1))
  keeps_spot k (tree.expression (tree.number v u) pos) h = refl
  keeps_spot k (tree.expression (tree.unary o a) pos) h = refl
  keeps_spot k (tree.expression (tree.binary o a b) pos) h = refl
  keeps_spot k (tree.expression (tree.choice q a b) pos) h = refl
  keeps_spot k (tree.expression (tree.cast u a) pos) h = refl

  -- an array is as long as its variable
  abbrev LongAs : Entity → Type 0
  LongAs (an_array path l u) = HasVariable num AnyPath path true l
  LongAs other = Unit {0}

  long_as : (t : List ℕ) (w : Option What) (x : Entity) → Denotes n fs ps num AnyPath AnyPath t w x → LongAs x
  long_as t _ _ (a_variable h) = tt
  long_as t _ _ (whole_array h) = h
  long_as t _ _ (word_referred h) = tt
  long_as t _ _ (element_referred h g) = tt
  long_as t _ _ (array_referred told h) = h
  long_as t _ _ (the_channel h) = tt
  long_as t _ _ (the_end h) = tt
  long_as t _ _ (the_timer h) = tt
  long_as t _ _ (the_port h) = tt
  long_as t _ _ (port_given h) = tt
  long_as t _ _ the_index = tt
  long_as t _ _ (the_function h) = tt
  long_as t _ _ none_there = tt

  below_is : (v : Value) (l : ℕ) (pos : Pos) → applied (operator_at bracket) true pos (v ∷ word l ∷ []) ≡ index_below l pos v
  below_is (word i) l pos = refl
  below_is (error kind at) l pos = refl

  pub keeps_index : HasWords num store → (c : Context) → c.numbering ≡ num → (k : ℕ) (pos : Pos) (name : List ℕ) (i : tree.Expression) → StandsHere P n there store k (tree.expression (tree.index name i) pos) →
      (array : Path) (l : ℕ) (u : Bool) → entity_of scope name ≡ an_array array l u → eval store (index_test c scope i l pos) ≡ index_value (words.is_unsigned n) num scope store k pos name i
  keeps_index words_are c e k pos name i h array l u is =
      let v = subst LongAs is (long_as name (what_of (found there.stack name)) (entity_of scope name) (there.agrees name).0) in
      let long = sym (words_are (variable_number num array) v.variable v.there ∙ v.long) ∙ ap (λ (x : Entity). length (words_of store (array_variable num x))) (sym is) in
      ap (λ (m : Numbering). eval store (kernel.operation bracket true (two_operands (expression_in m scope i) (kernel.number l)) pos)) e
      ∙ (below_is (eval store (expression_in num scope i)) l pos
      ∙ λ j. index_below (long j) pos (keeps_word (k + 1) i (h.0.1, h.1) j))

pub words_kept : WordsKept
words_kept P n there store = keeps_word P n there store

pub updates_kept : UpdatesKept
updates_kept P n there store k to symbol pos j e h g =
    keeps_updated P n there store k to symbol pos h (type_is P n there store j e g) (expression_in (numbering P) there.scope e) (keeps_word P n there store j e g)

pub steps_kept : StepsKept
steps_kept P n there store k to symbol pos h = keeps_updated P n there store k to symbol pos h refl (kernel.number 1) refl

pub spots_kept : SpotsKept
spots_kept P n there store = keeps_spot P n there store
