-- The kernel's expressions and places for those of a program, by what names stand for.
use Rattle.std.specs.Prelude.{ℕ, Bool, ◌||◌}
use Rattle.xw_words.specs.declared.pos.Pos.{Pos}
use Rattle.xc_tree.specs.Plain as tree
use Rattle.xc_kernel.specs.declared.statement.KRes.{KRes}
use Rattle.xc_kernel.specs.declared.statement.KRes.TheVariants.{Port, Timer, Chan}
use Rattle.xc_kernel.specs.Plain as kernel
use Rattle.xc_kernel.specs.Operators.{operator_at, operator_of}
use Rattle.xc_tree.specs.Symbols.{question}
use Rattle.xc_kernel.specs.Types.{operation_is_unsigned}
use Rattle.xc_kernel.specs.Values.{Value}
use Rattle.xc_kernel.specs.Eval.{Store, eval}
use Rattle.xc_kernel.specs.Paths.{Path}
use Rattle.xc_kernel.specs.Numbering.{Numbering, variable_number, channel_number, timer_number}
use Rattle.xc_kernel.specs.Scopes.{Scope, Entity, a_word, an_array, an_element, a_channel, a_timer, a_port, a_constant, entity_of, is_unsigned}

-- the word of a variable
abbrev pub word_of : Numbering → Path → kernel.Place
word_of n path = kernel.word (variable_number n path)

-- the place that a name alone stands for
abbrev pub place_of_entity : Numbering → Pos → Entity → kernel.Place
place_of_entity n pos (a_word path u) = word_of n path
place_of_entity n pos (an_element array index u) = kernel.element (variable_number n array) (kernel.read (word_of n index)) pos
place_of_entity n pos other = kernel.word 0

-- the word that a name alone stands for
abbrev pub word_of_entity : Numbering → Pos → Entity → kernel.Expression
word_of_entity n pos (a_constant v) = kernel.number v
word_of_entity n pos other = kernel.read (place_of_entity n pos other)

-- the variable of an array
abbrev pub array_number : Numbering → Entity → ℕ
array_number n (an_array path length u) = variable_number n path
array_number n other = 0

-- the operands of an operator
abbrev pub one_operand : kernel.Expression → kernel.Operands
one_operand a = kernel.more_operands a kernel.no_operand

abbrev pub two_operands : kernel.Expression → kernel.Expression → kernel.Operands
two_operands a b = kernel.more_operands a (one_operand b)

-- A cast leaves nothing: it shows in the types of the operations around it.
abbrev mutual
  pub expression_in : Numbering → Scope → tree.Expression → kernel.Expression
  expression_in n scope (tree.expression form pos) = form_in n scope pos form

  pub form_in : Numbering → Scope → Pos → tree.Form → kernel.Expression
  form_in n scope pos (tree.number v u) = kernel.number v
  form_in n scope pos (tree.name text) = word_of_entity n pos (entity_of scope text)
  form_in n scope pos (tree.index text i) =
      kernel.read (kernel.element (array_number n (entity_of scope text)) (expression_in n scope i) pos)
  form_in n scope pos (tree.unary symbol a) = kernel.operation symbol (is_unsigned scope a) (one_operand (expression_in n scope a)) pos
  form_in n scope pos (tree.binary symbol a b) =
      kernel.operation symbol (operation_is_unsigned (operator_at symbol) (is_unsigned scope a) (is_unsigned scope b))
      (two_operands (expression_in n scope a) (expression_in n scope b)) pos
  form_in n scope pos (tree.choice test a b) =
      kernel.operation question (is_unsigned scope a || is_unsigned scope b)
      (kernel.more_operands (expression_in n scope test) (two_operands (expression_in n scope a) (expression_in n scope b))) pos
  form_in n scope pos (tree.cast u a) = expression_in n scope a

-- the place of a form that can be assigned to: a name, or an element
abbrev pub place_of_form : Numbering → Scope → Pos → tree.Form → kernel.Place
place_of_form n scope pos (tree.name text) = place_of_entity n pos (entity_of scope text)
place_of_form n scope pos (tree.index text i) = kernel.element (array_number n (entity_of scope text)) (expression_in n scope i) pos
place_of_form n scope pos other = kernel.word 0

-- the place of an expression that can be assigned to
abbrev pub kernel_place : Numbering → Scope → tree.Expression → kernel.Place
kernel_place n scope (tree.expression form pos) = place_of_form n scope pos form

-- what `place op= e` stores, e being of the kernel: `place op (e)`, at the place of its operator
abbrev pub updated : Numbering → Scope → tree.Expression → (symbol : ℕ) → Pos → Bool → kernel.Expression → kernel.Expression
updated n scope to symbol pos u e =
    kernel.operation (operator_of symbol) (operation_is_unsigned (operator_at (operator_of symbol)) (is_unsigned scope to) u)
    (two_operands (expression_in n scope to) e) pos

-- the port, timer or channel that a name stands for
abbrev pub resource_of : Numbering → Entity → KRes
resource_of n (a_channel path) = Chan (channel_number n path)
resource_of n (a_timer path) = Timer (timer_number n path)
resource_of n (a_port number) = Port number
resource_of n other = Port 0

-- the word that an expression of a program has, or its first error, where names stand for these instances
abbrev pub eval_in : Numbering → Scope → Store → tree.Expression → Value
eval_in n scope store e = eval store (expression_in n scope e)
