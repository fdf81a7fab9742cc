-- The parts of the text that a kernel's parts come from: there each name means what `uses` has for
-- it, and each operation has the type that `unsigned_at` tells.
use Rattle.std.specs.Prelude.{◌≡◌, ℕ, ◌+◌, true, false, ◌||◌, List, map}
use Rattle.xw_words.specs.declared.pos.Pos.{Pos}
use Rattle.xc_tree.specs.Symbols.{question, bracket}
use Rattle.xc_tree.specs.Names.Marks as marks
use Rattle.xc_tree.specs.Plain as tree
use Rattle.xc_tree.specs.Types.Named.{NamedProgram, past}
use Rattle.xc_tree.specs.Types.Words.{is_unsigned}
use Rattle.xc_kernel.specs.Plain as kernel
use Rattle.xc_kernel.specs.Operators.{operator_at, operator_of}
use Rattle.xc_kernel.specs.Types.{operation_is_unsigned}
use Rattle.xc_kernel.specs.Paths.{Path}
use Rattle.xc_kernel.specs.Numbering.{Numbering}
use Rattle.xc_kernel.specs.Scopes.{Scope, entity_of}
use Rattle.xc_kernel.specs.Expressions.{word_of, place_of_entity, word_of_entity, array_number, resource_of, one_operand, two_operands}
use Rattle.xc_kernel.specs.Programs.{functions, ports}
use Rattle.xc_kernel.specs.Ports.{port_use}
use Rattle.xc_kernel.specs.Copies.{numbering}
use Rattle.xc_wellformed.specs.Stacks.{Stack, Resolves}
use Rattle.xc_wellformed.specs.Denotes.{AnyPath, HasVariable, Agrees}

-- The kernel's expression for one of the text, before which the text has k names: its names stand
-- for these entities, and its operations have the types of their operands in the text.
module _ (n : NamedProgram) (num : Numbering) (scope : Scope) where
  abbrev mutual
    pub typed : ℕ → tree.Expression → kernel.Expression
    typed k (tree.expression form pos) = typed_form k pos form

    pub typed_form : ℕ → Pos → tree.Form → kernel.Expression
    typed_form k pos (tree.number v u) = kernel.number v
    typed_form k pos (tree.name text) = word_of_entity num pos (entity_of scope text)
    typed_form k pos (tree.index text i) =
        kernel.read (kernel.element (array_number num (entity_of scope text)) (typed (k + 1) i) pos)
    typed_form k pos (tree.unary symbol a) =
        kernel.operation symbol (is_unsigned n k a) (one_operand (typed k a)) pos
    typed_form k pos (tree.binary symbol a b) =
        kernel.operation symbol (operation_is_unsigned (operator_at symbol) (is_unsigned n k a) (is_unsigned n (past k (marks.of_expression a)) b))
        (two_operands (typed k a) (typed (past k (marks.of_expression a)) b)) pos
    typed_form k pos (tree.choice test a b) =
        kernel.operation question
        (is_unsigned n (past k (marks.of_expression test)) a || is_unsigned n (past (past k (marks.of_expression test)) (marks.of_expression a)) b)
        (kernel.more_operands (typed k test)
        (two_operands (typed (past k (marks.of_expression test)) a) (typed (past (past k (marks.of_expression test)) (marks.of_expression a)) b))) pos
    typed_form k pos (tree.cast u a) = typed k a

  -- the kernel's place for one that can be assigned to
  abbrev pub typed_place : ℕ → tree.Expression → kernel.Place
  typed_place k (tree.expression (tree.name text) pos) =
      place_of_entity num pos (entity_of scope text)
  typed_place k (tree.expression (tree.index text i) pos) =
      kernel.element (array_number num (entity_of scope text)) (typed (k + 1) i) pos
  typed_place k other = kernel.word 0

module _ (P : List tree.Item) (n : NamedProgram) where
  -- where a part of the text is copied: in the copy's scope each name stands for an instance of
  -- what the open scopes have for it
  pub record Where : Type 0 where
    pub stack : Stack
    pub scope : Scope
    pub agrees : Agrees n (functions P) (map port_use (ports P)) (numbering P) AnyPath AnyPath stack scope

  -- an expression of the text, whose names mean there what `uses` has for them
  pub record IsCopied (x : kernel.Expression) : Type 0 where
    pub there : Where
    pub text : tree.Expression
    pub names : ℕ
    pub resolves : Resolves n names there.stack (marks.of_expression text)
    pub is : x ≡ typed n (numbering P) there.scope names text

  -- `place op= e` by an operator, and a step by 1
  pub record IsUpdated (x : kernel.Expression) : Type 0 where
    pub there : Where
    pub to : tree.Expression
    pub names : ℕ
    pub resolves : Resolves n names there.stack (marks.of_expression to)
    pub value : tree.Expression
    pub value_names : ℕ
    pub value_resolves : Resolves n value_names there.stack (marks.of_expression value)
    pub symbol : ℕ
    pub pos : Pos
    pub is : x ≡ kernel.operation (operator_of symbol) (operation_is_unsigned (operator_at (operator_of symbol)) (is_unsigned n names to) (is_unsigned n value_names value))
        (two_operands (typed n (numbering P) there.scope names to) (typed n (numbering P) there.scope value_names value)) pos

  pub record IsStepped (x : kernel.Expression) : Type 0 where
    pub there : Where
    pub to : tree.Expression
    pub names : ℕ
    pub resolves : Resolves n names there.stack (marks.of_expression to)
    pub symbol : ℕ
    pub pos : Pos
    pub is : x ≡ kernel.operation (operator_of symbol) (operation_is_unsigned (operator_at (operator_of symbol)) (is_unsigned n names to) false)
        (two_operands (typed n (numbering P) there.scope names to) (kernel.number 1)) pos

  -- a word of a call's own: its result
  pub record IsResult (p : kernel.Place) : Type 0 where
    pub path : Path
    pub variable : HasVariable (numbering P) AnyPath path false 1
    pub is : p ≡ word_of (numbering P) path

  -- what is no operation of the copy's own: an expression of the text, a call's result, or the 1 of
  -- a loop without a test
  pub data Simple : kernel.Expression → Type 0 where
    copied : {x : kernel.Expression} → IsCopied x → Simple x
    result : {p : kernel.Place} → IsResult p → Simple (kernel.read p)
    always : Simple (kernel.number 1)

  -- and these: `op=`, a step, and the test of an index that stands alone, against the words of an
  -- array
  pub data HasSource : kernel.Expression → Type 0 where
    simple : {x : kernel.Expression} → Simple x → HasSource x
    updated : {x : kernel.Expression} → IsUpdated x → HasSource x
    stepped : {x : kernel.Expression} → IsStepped x → HasSource x
    tested : {x : kernel.Expression} {path : Path} {length : ℕ} {pos : Pos} →
        HasVariable (numbering P) AnyPath path true length → Simple x →
        HasSource (kernel.operation bracket true (two_operands x (kernel.number length)) pos)

  -- a place of the text, or a word of the copy's own: a declared name's, a parameter's or a
  -- result's
  pub record IsCopiedPlace (p : kernel.Place) : Type 0 where
    pub there : Where
    pub text : tree.Expression
    pub names : ℕ
    pub resolves : Resolves n names there.stack (marks.of_expression text)
    pub is : p ≡ typed_place n (numbering P) there.scope names text

  pub data PlaceHasSource : kernel.Place → Type 0 where
    placed : {p : kernel.Place} → IsCopiedPlace p → PlaceHasSource p
    own : {p : kernel.Place} → IsResult p → PlaceHasSource p

  -- an output and an input of the text go through what their names stand for
  pub record OutputHasSource (o : kernel.Output) : Type 0 where
    pub there : Where
    pub text : tree.Output
    pub names : ℕ
    pub resolves : Resolves n names there.stack (marks.of_output text)
    pub is : o.resource ≡ resource_of (numbering P) (entity_of there.scope text.name.text)

  pub record InputHasSource (i : kernel.Input) : Type 0 where
    pub there : Where
    pub text : tree.Input
    pub names : ℕ
    pub resolves : Resolves n names there.stack (marks.of_input text)
    pub is : i.resource ≡ resource_of (numbering P) (entity_of there.scope text.name.text)
