-- The ports of a program, and their cores.
use Rattle.std.specs.Prelude.{ℕ, nat_eq, if◌then◌else◌, List, [], ◌∷◌, Option, Some, None}
use Rattle.xw_words.specs.Words.{word_difference, word_negative, word_product, word_sum}
use Rattle.xc_tree.specs.Symbols.{minus, plus, star}
use Rattle.xc_tree.specs.Plain as plain

-- the ports that items declare, in the order of the text
abbrev pub ports : List plain.Item → List plain.Port
ports [] = []
ports (plain.port p ∷ is) = p ∷ ports is
ports (plain.function h b ∷ is) = ports is

-- what is made of a number, where there is one
abbrev pub once : (ℕ → ℕ) → Option ℕ → Option ℕ
once f None = None
once f (Some a) = Some (f a)

-- what is made of two numbers, where there are both
abbrev pub both : (ℕ → ℕ → ℕ) → Option ℕ → Option ℕ → Option ℕ
both f None y = None
both f (Some a) None = None
both f (Some a) (Some b) = Some (f a b)

-- `+` and `-` before an operand
abbrev pub by_sign : ℕ → Option ℕ → Option ℕ
by_sign symbol a = if nat_eq symbol plus then a else (if nat_eq symbol minus then once word_negative a else None)

-- `+`, `-` and `*`, whose results wrap
abbrev pub by_operator : ℕ → Option ℕ → Option ℕ → Option ℕ
by_operator symbol a b =
    if nat_eq symbol plus then both word_sum a b
    else (if nat_eq symbol minus then both word_difference a b
    else (if nat_eq symbol star then both word_product a b else None))

-- the number of a place, as a word, where it is made of numbers, `+`, `-`, `*` and brackets alone
abbrev mutual
  pub place_number : plain.Expression → Option ℕ
  place_number (plain.expression f p) = form_number f

  pub form_number : plain.Form → Option ℕ
  form_number (plain.number n u) = Some n
  form_number (plain.name t) = None
  form_number (plain.index t e) = None
  form_number (plain.unary o e) = by_sign o (place_number e)
  form_number (plain.binary o a b) = by_operator o (place_number a) (place_number b)
  form_number (plain.choice c a b) = None
  form_number (plain.cast u e) = None

-- The core of a port, where its place has that form: 0 where it isn't placed. Rule 303 speaks of cores as words, also of those above
-- 3. A place that isn't a number has no core, and doesn't count.
abbrev pub core_at : Option plain.Place → Option ℕ
core_at None = Some 0
core_at (Some p) = place_number p.value

abbrev pub core_of_port : plain.Port → Option ℕ
core_of_port p = core_at p.place
