-- What the parameters of a call stand for, and what is stored for them.
use Rattle.std.specs.Prelude.{◌≡◌, ℕ, ◌<◌, Bool, false, List, [], ◌∷◌, Some, slice_get, bytes_eq}
use Rattle.xw_words.specs.declared.pos.Pos.{Pos}
use Rattle.xc_tree.specs.declared.tree.Param.{Param}
use Rattle.xc_tree.specs.declared.tree.ParamKind.{ParamKind}
use Rattle.xc_tree.specs.declared.tree.ParamKind.TheVariants.{Value, Ref, Array, End, Port}
use Rattle.xc_tree.specs.Plain as tree
use Rattle.xc_tree.specs.Types.Named.{NamedProgram}
use Rattle.xc_tree.specs.Types.Words as words
use Rattle.xc_kernel.specs.Plain as kernel
use Rattle.xc_kernel.specs.Values as values
use Rattle.xc_kernel.specs.Eval.{Store, eval}
use Rattle.xc_kernel.specs.Paths.{Path, path_at}
use Rattle.xc_kernel.specs.Scopes.{Scope, a_word, an_array, an_element, entity_of}
use Rattle.xc_kernel.specs.Context.{Context, in_function, word_at, set_word}
use Rattle.xc_kernel.specs.Parameters.{Passed, stands_for, passed, all_passed}
use Rattle.xc_kernel.specs.Programs.{Function}
use Rattle.xc_kernel.specs.Calls.{called, path_of_call, value_of}
use Rattle.xc_kernel.specs.Copies.{numbering}
use Rattle.xc_meaning.specs.Texts.Words.{index_value}
use Rattle.xc_wellformed.specs.Sources.{Where}
use Rattle.xc_wellformed.specs.Words.{HasWords, ValueOf, StandsHere, AtEachPlace}

-- one statement stores a value in the variable of this path
pub record IsStored (store : Store) (c : Context) (path : Path) (p : Passed) (v : values.Value) : Type 0 where
  pub word : kernel.Expression
  pub code : p.code ≡ set_word c path word ∷ []
  pub value : eval store word ≡ v

-- what is handed on by name: all but a value
abbrev pub IsByName : ParamKind → Type 0
IsByName (Value u) = ⊥
IsByName (Ref u) = Unit {0}
IsByName (Array u length) = Unit {0}
IsByName (End is_streaming) = Unit {0}
IsByName (Port dir) = Unit {0}

-- `name[i]`
abbrev pub element : (name : List ℕ) → tree.Expression → Pos → tree.Expression
element name i at = tree.expression (tree.index name i) at

-- In a call of this path from a place of a program, for a parameter whose name stands at a place:
module _ (P : List tree.Item) (n : NamedProgram) (there : Where P n) (store : Store) where
  -- one by value has a variable of its own, in which the argument's word is stored;
  abbrev pub ValueIsGiven : Type 0
  ValueIsGiven =
      (c : Context) → c.numbering ≡ numbering P →
      (own : Path) (pos : Pos) (u : Bool) (k : ℕ) (e : tree.Expression) → StandsHere P n there store k e →
      IsStored store c (path_at own pos) (passed c there.scope own pos (Value u) e) (ValueOf P n there store k e)
      × ((passed c there.scope own pos (Value u) e).entity ≡ a_word (path_at own pos) u)

  -- an `&` parameter that is given an element stands for an element of that very array, at an index that is stored now and tested
  -- against the words of that array;
  abbrev pub ElementIsGiven : Type 0
  ElementIsGiven =
      HasWords (numbering P) store → (c : Context) → c.numbering ≡ numbering P →
      (own : Path) (pos : Pos) (u : Bool) (k : ℕ) (name : List ℕ) (i : tree.Expression) (at : Pos) →
      StandsHere P n there store k (element name i at) →
      (array : Path) (length : ℕ) (v : Bool) → entity_of there.scope name ≡ an_array array length v →
      IsStored store c (path_at own pos) (passed c there.scope own pos (Ref u) (element name i at))
      (index_value (words.is_unsigned n) (numbering P) there.scope store k at name i)
      × ((passed c there.scope own pos (Ref u) (element name i at)).entity ≡ an_element array (path_at own pos) v)

  -- and one that is given a name stands for what the name stands for.
  abbrev pub NameIsGiven : Type 0
  NameIsGiven =
      (c : Context) (own : Path) (pos : Pos) (kind : ParamKind) → IsByName kind → (name : List ℕ) (at : Pos) →
      passed c there.scope own pos kind (tree.expression (tree.name name) at) ≡ stands_for (entity_of there.scope name)

abbrev pub ValuesGiven : Type 0
ValuesGiven = AtEachPlace ValueIsGiven

abbrev pub ElementsGiven : Type 0
ElementsGiven = AtEachPlace ElementIsGiven

abbrev pub NamesGiven : Type 0
NamesGiven = AtEachPlace NameIsGiven

-- In the function a parameter that no earlier one is called as stands for what the argument at its own place gives it.
abbrev pub EachByItsOwn : Type 0
EachByItsOwn =
    (c : Context) (scope : Scope) (own : Path) (ps : List Param) (args : List tree.Argument) →
    (i : ℕ) (p : Param) (a : tree.Argument) → slice_get ps i ≡ Some p → slice_get args i ≡ Some a →
    ((j : ℕ) (q : Param) → j < i → slice_get ps j ≡ Some q → bytes_eq q.name.text p.name.text ≡ false) →
    entity_of (all_passed c scope own ps args).scope p.name.text ≡ (passed c scope own p.name.pos p.kind a.value).entity

-- What a call gives is read from the variable in which the function's `return` stores it.
abbrev pub ResultIsReturned : Type 0
ResultIsReturned =
    (c : Context) (scope : Scope) (call : tree.Call) (f : Function) → called c call ≡ Some f →
    value_of c scope (tree.result call) ≡ kernel.read (word_at c (in_function c (path_of_call c call.called.pos) f).result)
