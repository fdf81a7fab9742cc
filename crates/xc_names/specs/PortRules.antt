-- Rule 303, port by port.
use Rattle.std.specs.Prelude.{◌≡◌, ℕ, Bool, true, false, not, ◌&&◌, if◌then◌else◌, List, slice_get, Contains, Option, Some, None}
use Rattle.xw_words.specs.declared.pos.Broken.{Broken}
use Rattle.xc_tree.specs.Plain as plain
use Rattle.xc_tree.specs.Names.Ports.{core_of_port}
use Rattle.xw_words.specs.Ports.{identifiers}
use Rattle.xc_tree.specs.Names.Rules.{Breaks303}
use Rattle.xc_names.specs.Taken.{is_among}

-- a program breaks rule 303
pub data HasWrongPort (program : List plain.Item) : Broken → Type 0 where
  wrong_port : {b : Broken} → Breaks303 program b.pos → b.rule ≡ 303 → HasWrongPort program b

-- among these ports one has this identifier on this core
pub record IsOnCore (ps : List plain.Port) (t : List ℕ) (core : ℕ) : Type 0 where
  pub place : ℕ
  pub port : plain.Port
  pub there : slice_get ps place ≡ Some port
  pub identifier : port.ident.text ≡ t
  pub its_core : core_of_port port ≡ Some core

-- a port behind these has no identifier of a port, or one that is taken on its core
pub data IsWrong (ps : List plain.Port) (p : plain.Port) : Type 0 where
  unnamed : (Contains identifiers p.ident.text → ⊥) → IsWrong ps p
  doubled : (core : ℕ) → core_of_port p ≡ Some core → IsOnCore ps p.ident.text core → IsWrong ps p

-- what is taken is what these ports have
pub record AreTaken (ps : List plain.Port) (taken : List ℕ → ℕ → Bool) : Type 0 where
  pub right : (t : List ℕ) (core : ℕ) → taken t core ≡ true → IsOnCore ps t core
  pub all : (t : List ℕ) (core : ℕ) → IsOnCore ps t core → taken t core ≡ true

-- whether the identifier of a port is taken on its core
abbrev pub is_taken_on : (List ℕ → ℕ → Bool) → List ℕ → Option ℕ → Bool
is_taken_on taken t None = false
is_taken_on taken t (Some core) = taken t core

abbrev pub rule_of : (List ℕ → ℕ → Bool) → plain.Port → Option Broken
rule_of taken p =
    if is_among identifiers p.ident.text && not (is_taken_on taken p.ident.text (core_of_port p)) then None
    else Some (record { rule = 303; pos = p.ident.pos })

-- what is taken when a port has taken its identifier on its core
pub record Takes (old : List ℕ → ℕ → Bool) (p : plain.Port) (new : List ℕ → ℕ → Bool) : Type 0 where
  pub own : (core : ℕ) → core_of_port p ≡ Some core → new p.ident.text core ≡ true
  pub others : (t : List ℕ) (core : ℕ) → (t ≡ p.ident.text → core_of_port p ≡ Some core → ⊥) → new t core ≡ old t core

-- what is taken behind an item
pub data TakesItem (old : List ℕ → ℕ → Bool) : plain.Item → (List ℕ → ℕ → Bool) → Type 0 where
  by_port : {p : plain.Port} {new : List ℕ → ℕ → Bool} → Takes old p new → TakesItem old (plain.port p) new
  by_function : {h : plain.Head} {b : plain.Statement} → TakesItem old (plain.function h b) old

abbrev pub rule_of_item : (List ℕ → ℕ → Bool) → plain.Item → Option Broken
rule_of_item taken (plain.port p) = rule_of taken p
rule_of_item taken (plain.function h b) = None
