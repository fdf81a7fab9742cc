-- The form of a place's expression.
use Rattle.std.specs.Prelude.{ℕ, Bool, true, false, ◌&&◌, List, [], ◌∷◌}
use Rattle.xc_tree.specs.Plain as plain
use Rattle.xc_tree.specs.Symbols.{minus, plus, star}
use Rattle.xc_tree.specs.Types.Named.{Name}
use Rattle.xc_tree.specs.Types.Entities.{is_index}
use Rattle.xc_tree.specs.Types.Words.{is_among}

-- `+` and `-`, which may stand before one operand
abbrev pub signs : List ℕ
signs = plus ∷ minus ∷ []

-- `+`, `-` and `*`, which may stand between two
abbrev pub operators : List ℕ
operators = plus ∷ minus ∷ star ∷ []

abbrev mutual
  -- an expression is made of numbers, names, `+`, `-`, `*` and brackets alone
  pub is_made_of_these : plain.Expression → Bool
  is_made_of_these (plain.expression f p) = form_is_made_of_these f

  pub form_is_made_of_these : plain.Form → Bool
  form_is_made_of_these (plain.number v u) = true
  form_is_made_of_these (plain.name t) = true
  form_is_made_of_these (plain.index t e) = false
  form_is_made_of_these (plain.unary o a) = is_among signs o && is_made_of_these a
  form_is_made_of_these (plain.binary o a b) = is_among operators o && (is_made_of_these a && is_made_of_these b)
  form_is_made_of_these (plain.choice c a b) = false
  form_is_made_of_these (plain.cast u a) = false

-- these names are indices of replicated `par`s
abbrev pub are_indices : List Name → Bool
are_indices [] = true
are_indices (x ∷ xs) = is_index x.what && are_indices xs

-- a place's expression, with its names, has no other parts than numbers, indices of replicated `par`s, `+`, `-`, `*` and
-- brackets
abbrev pub has_form_of_place : plain.Expression → List Name → Bool
has_form_of_place e names = is_made_of_these e && are_indices names
