-- The word of an expression of a text is that of the kernel's expression for it.
use Rattle.std.proofs.Common.{◌≡◌, ℕ, ◌+◌, Bool, ◌||◌, [], ◌∷◌, refl}
use Rattle.xw_words.specs.declared.pos.Pos.{Pos}
use Rattle.xc_tree.specs.Names.Marks as marks
use Rattle.xc_tree.specs.Plain as tree
use Rattle.xc_tree.specs.Types.Named.{past}
use Rattle.xc_kernel.specs.Plain as kernel
use Rattle.xc_kernel.specs.Operators.{choose, operator_at, operator_of}
use Rattle.xc_kernel.specs.Types.{operation_is_unsigned}
use Rattle.xc_kernel.specs.Values.{Value, applied}
use Rattle.xc_kernel.specs.Eval.{Store, words_of, element_at, eval}
use Rattle.xc_kernel.specs.Numbering.{Numbering}
use Rattle.xc_kernel.specs.Scopes.{Scope, Entity, a_word, an_array, an_element, a_channel, a_timer, a_port, a_constant, nothing_known, entity_of, is_unsigned}
use Rattle.xc_kernel.specs.Expressions.{expression_in, form_in, kernel_place, place_of_entity, word_of_entity, array_number, updated}
use Rattle.xc_meaning.specs.Texts.Words.{array_variable, element_spot, spot_of_place, value_of_entity, spot_of_entity, value, value_of_form, updated_value, spot}

pub array_is : (num : Numbering) (x : Entity) → array_number num x ≡ array_variable num x
array_is num (a_word path u) = refl
array_is num (an_array path l u) = refl
array_is num (an_element a i u) = refl
array_is num (a_channel path) = refl
array_is num (a_timer path) = refl
array_is num (a_port p) = refl
array_is num (a_constant v) = refl
array_is num nothing_known = refl

pub entity_value : (num : Numbering) (store : Store) (pos : Pos) (x : Entity) → eval store (word_of_entity num pos x) ≡ value_of_entity num store pos x
entity_value num store pos (a_word path u) = refl
entity_value num store pos (an_array path l u) = refl
entity_value num store pos (an_element a i u) = refl
entity_value num store pos (a_channel path) = refl
entity_value num store pos (a_timer path) = refl
entity_value num store pos (a_port p) = refl
entity_value num store pos (a_constant v) = refl
entity_value num store pos nothing_known = refl

pub entity_spot : (num : Numbering) (store : Store) (pos : Pos) (x : Entity) → spot_of_place store (place_of_entity num pos x) ≡ spot_of_entity num store pos x
entity_spot num store pos (a_word path u) = refl
entity_spot num store pos (an_array path l u) = refl
entity_spot num store pos (an_element a i u) = refl
entity_spot num store pos (a_channel path) = refl
entity_spot num store pos (a_timer path) = refl
entity_spot num store pos (a_port p) = refl
entity_spot num store pos (a_constant v) = refl
entity_spot num store pos nothing_known = refl

-- an element of an array
pub element_is : (num : Numbering) (store : Store) (pos : Pos) (x : Entity) {v w : Value} → v ≡ w → element_at (words_of store (array_number num x)) pos v ≡ element_at (words_of store (array_variable num x)) pos w
element_is num store pos x e = λ i. element_at (words_of store (array_is num x i)) pos (e i)

-- where an element is stored
pub array_spot : (num : Numbering) (store : Store) (pos : Pos) (x : Entity) {v w : Value} → v ≡ w → element_spot store (array_number num x) pos v ≡ element_spot store (array_variable num x) pos w
array_spot num store pos x e = λ i. element_spot store (array_is num x i) pos (e i)

module _ (num : Numbering) (scope : Scope) (store : Store) where
  abbrev types : ℕ → tree.Expression → Bool
  types k e = is_unsigned scope e

  mutual
    pub value_is : (k : ℕ) (e : tree.Expression) → eval store (expression_in num scope e) ≡ value types num scope store k e
    value_is k (tree.expression form pos) = form_value_is k pos form

    form_value_is : (k : ℕ) (pos : Pos) (form : tree.Form) → eval store (form_in num scope pos form) ≡ value_of_form types num scope store k pos form
    form_value_is k pos (tree.number v u) = refl
    form_value_is k pos (tree.name text) = entity_value num store pos (entity_of scope text)
    form_value_is k pos (tree.index text i) = element_is num store pos (entity_of scope text) (value_is (k + 1) i)
    form_value_is k pos (tree.unary symbol a) = λ i. applied (operator_at symbol) (is_unsigned scope a) pos (value_is k a i ∷ [])
    form_value_is k pos (tree.binary symbol a b) =
        λ i. applied (operator_at symbol) (operation_is_unsigned (operator_at symbol) (is_unsigned scope a) (is_unsigned scope b)) pos
        (value_is k a i ∷ value_is (past k (marks.of_expression a)) b i ∷ [])
    form_value_is k pos (tree.choice test a b) =
        λ i. applied choose (is_unsigned scope a || is_unsigned scope b) pos
        (value_is k test i ∷ value_is (past k (marks.of_expression test)) a i ∷ value_is (past (past k (marks.of_expression test)) (marks.of_expression a)) b i ∷ [])
    form_value_is k pos (tree.cast u a) = value_is k a

  pub spot_is : (k : ℕ) (e : tree.Expression) → spot_of_place store (kernel_place num scope e) ≡ spot types num scope store k e
  spot_is k (tree.expression (tree.name text) pos) = entity_spot num store pos (entity_of scope text)
  spot_is k (tree.expression (tree.index text i) pos) = array_spot num store pos (entity_of scope text) (value_is (k + 1) i)
  spot_is k (tree.expression (tree.number v u) pos) = refl
  spot_is k (tree.expression (tree.unary o a) pos) = refl
  spot_is k (tree.expression (tree.binary o a b) pos) = refl
  spot_is k (tree.expression (tree.choice q a b) pos) = refl
  spot_is k (tree.expression (tree.cast u a) pos) = refl

  pub updated_is : (k : ℕ) (to : tree.Expression) (symbol : ℕ) (pos : Pos) (u : Bool) (e : kernel.Expression) (v : Value) → eval store e ≡ v → eval store (updated num scope to symbol pos u e) ≡ updated_value types num scope store k to symbol pos u v
  updated_is k to symbol pos u e v h =
      λ i. applied (operator_at (operator_of symbol)) (operation_is_unsigned (operator_at (operator_of symbol)) (is_unsigned scope to) u) pos
      (value_is k to i ∷ h i ∷ [])
