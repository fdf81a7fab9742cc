-- The word that an expression of a text has where it stands, or its first error: names have what they stand for here, and operations
-- what their operators give, from left to right.
use Rattle.std.specs.Prelude.{ℕ, ◌+◌, Bool, ◌||◌, List, [], ◌∷◌, length, slice_index}
use Rattle.xw_words.specs.declared.pos.Pos.{Pos}
use Rattle.xc_tree.specs.Names.Marks as marks
use Rattle.xc_tree.specs.Plain as tree
use Rattle.xc_tree.specs.Types.Named.{past}
use Rattle.xc_kernel.specs.Plain as kernel
use Rattle.xc_kernel.specs.Operators.{choose, operator_at, operator_of}
use Rattle.xc_kernel.specs.Types.{operation_is_unsigned}
use Rattle.xc_kernel.specs.Values.{Value, word, error, tested, applied}
use Rattle.xc_kernel.specs.Eval.{Store, words_of, element_at, eval}
use Rattle.xc_kernel.specs.Paths.{Path}
use Rattle.xc_kernel.specs.Numbering.{Numbering, variable_number}
use Rattle.xc_kernel.specs.Scopes.{Scope, Entity, a_word, an_array, an_element, a_constant, entity_of, is_unsigned}
use Rattle.xc_kernel.specs.Context.{Context}
use Rattle.xc_meaning.specs.Settings.Stores.{Spot}

-- the variable of the array that a name stands for; no typed text has another name before `[`
abbrev pub array_variable : Numbering → Entity → ℕ
array_variable num (an_array path length u) = variable_number num path
array_variable num other = 0

-- an index, where it is below a length
abbrev pub index_below : (length : ℕ) → Pos → Value → Value
index_below length pos (word i) = tested i length pos
index_below length pos (error kind at) = error kind at

-- where a word is stored: in a variable that is no array, or in an element of one
abbrev pub word_spot : (variable : ℕ) → Spot
word_spot variable = record { variable = variable; index = word 0 }

abbrev pub element_spot : Store → (variable : ℕ) → Pos → Value → Spot
element_spot store variable pos index = record { variable = variable; index = index_below (length (words_of store variable)) pos index }

-- of a place of the kernel
abbrev pub spot_of_place : Store → kernel.Place → Spot
spot_of_place store (kernel.word variable) = word_spot variable
spot_of_place store (kernel.element variable i pos) = element_spot store variable pos (eval store i)

-- by the numbers of instances, and the words of variables
module _ (num : Numbering) (store : Store) where
  -- the words of an instance
  abbrev pub words_at : Path → List ℕ
  words_at path = words_of store (variable_number num path)

  -- the word of an instance that is no array
  abbrev pub word_at : Path → ℕ
  word_at path = slice_index (words_at path) 0

  -- What a name alone has: a word, the element that an `&` parameter stands for, or the number of a branch. No typed text has
  -- another name there.
  abbrev pub value_of_entity : Pos → Entity → Value
  value_of_entity pos (a_word path u) = word (word_at path)
  value_of_entity pos (an_element array index u) = element_at (words_at array) pos (word (word_at index))
  value_of_entity pos (a_constant v) = word v
  value_of_entity pos other = word (slice_index (words_of store 0) 0)

  -- where a name alone is stored
  abbrev pub spot_of_entity : Pos → Entity → Spot
  spot_of_entity pos (a_word path u) = word_spot (variable_number num path)
  spot_of_entity pos (an_element array index u) = element_spot store (variable_number num array) pos (word (word_at index))
  spot_of_entity pos other = word_spot 0

-- by what names stand for, and which expressions, before which the text has so many names, are `unsigned`
module _ (unsigned : ℕ → tree.Expression → Bool) (num : Numbering) (scope : Scope) (store : Store) where
  -- the words of an array
  abbrev pub array_words : (name : List ℕ) → List ℕ
  array_words name = words_of store (array_variable num (entity_of scope name))

  -- An operation is by its operator, of `unsigned` words or of `int` ones, and errs at its own place; an element errs at the
  -- array's name; a cast leaves the word.
  abbrev mutual
    pub value : ℕ → tree.Expression → Value
    value k (tree.expression form pos) = value_of_form k pos form

    pub value_of_form : ℕ → Pos → tree.Form → Value
    value_of_form k pos (tree.number v u) = word v
    value_of_form k pos (tree.name text) = value_of_entity num store pos (entity_of scope text)
    value_of_form k pos (tree.index text i) = element_at (array_words text) pos (value (k + 1) i)
    value_of_form k pos (tree.unary symbol a) = applied (operator_at symbol) (unsigned k a) pos (value k a ∷ [])
    value_of_form k pos (tree.binary symbol a b) =
        applied (operator_at symbol)
        (operation_is_unsigned (operator_at symbol) (unsigned k a) (unsigned (past k (marks.of_expression a)) b)) pos
        (value k a ∷ value (past k (marks.of_expression a)) b ∷ [])
    value_of_form k pos (tree.choice test a b) =
        applied choose
        (unsigned (past k (marks.of_expression test)) a
        || unsigned (past (past k (marks.of_expression test)) (marks.of_expression a)) b) pos
        (value k test ∷ value (past k (marks.of_expression test)) a
        ∷ value (past (past k (marks.of_expression test)) (marks.of_expression a)) b ∷ [])
    value_of_form k pos (tree.cast u a) = value k a

  -- what `to op= e` stores, e being `unsigned` or not and having this value: `to op (e)`, at the place of the symbol
  abbrev pub updated_value : ℕ → tree.Expression → (symbol : ℕ) → Pos → Bool → Value → Value
  updated_value k to symbol pos is_unsigned v =
      applied (operator_at (operator_of symbol))
      (operation_is_unsigned (operator_at (operator_of symbol)) (unsigned k to) is_unsigned) pos
      (value k to ∷ v ∷ [])

  -- an index, where it is below the length of the array of this name
  abbrev pub index_value : ℕ → Pos → (name : List ℕ) → tree.Expression → Value
  index_value k pos name i = index_below (length (array_words name)) pos (value (k + 1) i)

  -- where an expression that can be assigned to is stored; no typed text assigns to another
  abbrev pub spot_of_form : ℕ → Pos → tree.Form → Spot
  spot_of_form k pos (tree.name text) = spot_of_entity num store pos (entity_of scope text)
  spot_of_form k pos (tree.index text i) = element_spot store (array_variable num (entity_of scope text)) pos (value (k + 1) i)
  spot_of_form k pos other = word_spot 0

  abbrev pub spot : ℕ → tree.Expression → Spot
  spot k (tree.expression form pos) = spot_of_form k pos form

-- Where a statement stands the types are those of what names stand for.

-- Which expressions are `unsigned` is an argument of the definition: the steps of a text give it these types, and the law
-- `expressions_keep_their_word` those that the rules of types give.
abbrev pub types_in : Scope → ℕ → tree.Expression → Bool
types_in scope k e = is_unsigned scope e

abbrev pub value_in : Context → Scope → Store → tree.Expression → Value
value_in c scope store e = value (types_in scope) c.numbering scope store 0 e

abbrev pub updated_in : Context → Scope → Store → tree.Expression → (symbol : ℕ) → Pos → Bool → Value → Value
updated_in c scope store to symbol pos is_unsigned v = updated_value (types_in scope) c.numbering scope store 0 to symbol pos is_unsigned v

abbrev pub spot_in : Context → Scope → Store → tree.Expression → Spot
spot_in c scope store e = spot (types_in scope) c.numbering scope store 0 e
