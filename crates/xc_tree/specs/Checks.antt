-- The phase of types and shapes: which of the rules 401 to 416 and 501 to 508 a program breaks.
use Rattle.std.specs.Prelude.{◌≡◌, ℕ, List, [], ◌∷◌, Contains}
use Rattle.xw_words.specs.declared.pos.Pos.{Pos}
use Rattle.xw_words.specs.declared.pos.Broken.{Broken}
use Rattle.xc_tree.specs.Types.Named.{NamedProgram}
use Rattle.xc_tree.specs.Types.Sites.{Site, sites}
use Rattle.xc_tree.specs.Types.Rules.{rule_401, rule_402, rule_403, rule_404, rule_405, rule_406, rule_407, rule_408, rule_409, rule_410, rule_411, rule_412, rule_413, rule_414, rule_415, rule_416}
use Rattle.xc_tree.specs.Shapes.Rules.{rule_501, rule_502, rule_503, rule_504, rule_505, rule_506, rule_507, rule_508}

-- a rule by its number: the places at which it is broken by what stands somewhere
pub record Rule : Type 0 where
  pub number : ℕ
  pub broken_at : Site → List Pos

abbrev pub rule : ℕ → (Site → List Pos) → Rule
rule n f = record { number = n; broken_at = f }

-- those of types, and those of shapes
abbrev pub rules : List Rule
rules =
    rule 401 rule_401 ∷ rule 402 rule_402 ∷ rule 403 rule_403 ∷ rule 404 rule_404 ∷ rule 405 rule_405 ∷ rule 406 rule_406
    ∷ rule 407 rule_407 ∷ rule 408 rule_408 ∷ rule 409 rule_409 ∷ rule 410 rule_410 ∷ rule 411 rule_411 ∷ rule 412 rule_412
    ∷ rule 413 rule_413 ∷ rule 414 rule_414 ∷ rule 415 rule_415 ∷ rule 416 rule_416
    ∷ rule 501 rule_501 ∷ rule 502 rule_502 ∷ rule 503 rule_503 ∷ rule 504 rule_504 ∷ rule 505 rule_505 ∷ rule 506 rule_506
    ∷ rule 507 rule_507 ∷ rule 508 rule_508 ∷ []

-- a program breaks a rule at a place
pub record BreaksRule (n : NamedProgram) (number : ℕ) (p : Pos) : Type 0 where
  pub rule : Rule
  pub among : Contains rules rule
  pub numbered : rule.number ≡ number
  pub site : Site
  pub there : Contains (sites n) site
  pub broken : Contains (rule.broken_at site) p

abbrev pub Breaks : NamedProgram → Broken → Type 0
Breaks n b = BreaksRule n b.rule b.pos
