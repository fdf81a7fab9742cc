-- The translations of expressions have their operands, and are hardly deeper than what they translate.
use Rattle.std.proofs.Common.{◌+◌, ◌≤◌, refl, arith}
use Rattle.xw_words.specs.declared.pos.Pos.{Pos}
use Rattle.xc_tree.specs.Plain as tree
use Rattle.xc_tree.specs.Depth.{of_expression, of_form}
use Rattle.xc_kernel.specs.Plain as kernel
use Rattle.xc_kernel.specs.Numbering.{Numbering}
use Rattle.xc_kernel.specs.Scopes.{Scope, Entity, a_word, an_array, an_element, a_channel, a_timer, a_port, a_constant, nothing_known, entity_of}
use Rattle.xc_kernel.specs.Expressions.{expression_in, form_in, kernel_place, place_of_entity, word_of_entity}
use Rattle.xc_wellformed.specs.Operands.{HasOperands, PlaceHasOperands, IsProper, IsProperForm}
use Rattle.xc_wellformed.specs.Levels.{levels, levels_below}

module _ (num : Numbering) where
  -- of what a name stands for
  pub entity_operands : (x : Entity) (pos : Pos) → PlaceHasOperands (place_of_entity num pos x)
  entity_operands (a_word path u) pos = tt
  entity_operands (an_array path l u) pos = tt
  entity_operands (an_element array index u) pos = tt
  entity_operands (a_channel path) pos = tt
  entity_operands (a_timer path) pos = tt
  entity_operands (a_port number) pos = tt
  entity_operands (a_constant v) pos = tt
  entity_operands nothing_known pos = tt

  word_operands : (x : Entity) (pos : Pos) → HasOperands (word_of_entity num pos x)
  word_operands (a_word path u) pos = tt
  word_operands (an_array path l u) pos = tt
  word_operands (an_element array index u) pos = tt
  word_operands (a_channel path) pos = tt
  word_operands (a_timer path) pos = tt
  word_operands (a_port number) pos = tt
  word_operands (a_constant v) pos = tt
  word_operands nothing_known pos = tt

  entity_levels : (x : Entity) (pos : Pos) → levels_below (place_of_entity num pos x) ≤ 1
  entity_levels (a_word path u) pos = omega arith
  entity_levels (an_array path l u) pos = omega arith
  entity_levels (an_element array index u) pos = omega arith
  entity_levels (a_channel path) pos = omega arith
  entity_levels (a_timer path) pos = omega arith
  entity_levels (a_port number) pos = omega arith
  entity_levels (a_constant v) pos = omega arith
  entity_levels nothing_known pos = omega arith

  word_levels : (x : Entity) (pos : Pos) → levels (word_of_entity num pos x) ≤ 2
  word_levels (a_word path u) pos = omega arith
  word_levels (an_array path l u) pos = omega arith
  word_levels (an_element array index u) pos = omega arith
  word_levels (a_channel path) pos = omega arith
  word_levels (a_timer path) pos = omega arith
  word_levels (a_port number) pos = omega arith
  word_levels (a_constant v) pos = omega arith
  word_levels nothing_known pos = omega arith

  module _ (scope : Scope) where
    mutual
      pub has_operands : (e : tree.Expression) → IsProper e → HasOperands (expression_in num scope e)
      has_operands (tree.expression f p) h = form_operands f p h

      form_operands : (f : tree.Form) (p : Pos) → IsProperForm f → HasOperands (form_in num scope p f)
      form_operands (tree.number v u) p h = tt
      form_operands (tree.name t) p h = word_operands (entity_of scope t) p
      form_operands (tree.index t i) p h = has_operands i h
      form_operands (tree.unary o a) p h = (h.0, (has_operands a h.1, tt))
      form_operands (tree.binary o a b) p h = (h.0, (has_operands a h.1.0, (has_operands b h.1.1, tt)))
      form_operands (tree.choice q a b) p h = (refl, (has_operands q h.0, (has_operands a h.1.0, (has_operands b h.1.1, tt))))
      form_operands (tree.cast u a) p h = has_operands a h

    mutual
      pub few_levels : (e : tree.Expression) → levels (expression_in num scope e) ≤ of_expression e + 1
      few_levels (tree.expression f p) = let a = form_levels f p in omega arith

      form_levels : (f : tree.Form) (p : Pos) → levels (form_in num scope p f) ≤ of_form f + 2
      form_levels (tree.number v u) p = omega arith
      form_levels (tree.name t) p = word_levels (entity_of scope t) p
      form_levels (tree.index t i) p = let a = few_levels i in omega arith
      form_levels (tree.unary o a) p = let x = few_levels a in omega arith
      form_levels (tree.binary o a b) p = let x = few_levels a in let y = few_levels b in omega arith
      form_levels (tree.choice q a b) p = let z = few_levels q in let x = few_levels a in let y = few_levels b in omega arith
      form_levels (tree.cast u a) p = let x = few_levels a in omega arith

    -- of places that are assigned to
    pub place_operands : (e : tree.Expression) → IsProper e → PlaceHasOperands (kernel_place num scope e)
    place_operands (tree.expression (tree.name t) p) h = entity_operands (entity_of scope t) p
    place_operands (tree.expression (tree.index t i) p) h = has_operands i h
    place_operands (tree.expression (tree.number v u) p) h = tt
    place_operands (tree.expression (tree.unary o a) p) h = tt
    place_operands (tree.expression (tree.binary o a b) p) h = tt
    place_operands (tree.expression (tree.choice q a b) p) h = tt
    place_operands (tree.expression (tree.cast u a) p) h = tt

    pub place_levels : (e : tree.Expression) → levels (kernel.read (kernel_place num scope e)) ≤ of_expression e + 1
    place_levels (tree.expression (tree.name t) p) = let a = entity_levels (entity_of scope t) p in omega arith
    place_levels (tree.expression (tree.index t i) p) = let a = few_levels i in omega arith
    place_levels (tree.expression (tree.number v u) p) = omega arith
    place_levels (tree.expression (tree.unary o a) p) = omega arith
    place_levels (tree.expression (tree.binary o a b) p) = omega arith
    place_levels (tree.expression (tree.choice q a b) p) = omega arith
    place_levels (tree.expression (tree.cast u a) p) = omega arith
