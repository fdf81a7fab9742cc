-- What calls and right sides stand for, and tokens that are missing.
use Rattle.std.specs.Prelude.{◌≡◌, ℕ, List, map, slice_get, Option, Some, None}
use Rattle.xc_tree.specs.declared.token.Tok.{Tok}
use Rattle.xc_tree.specs.declared.tree.Rhs.{Rhs}
use Rattle.xc_tree.specs.Plain as plain
use Rattle.xc_tree.specs.Symbol.{Symbol, expr, rhs, initial}
use Rattle.xc_tree.specs.Derives.{position}
use Rattle.xc_tree.specs.Trees.{argument_of, right_of}
use Rattle.xc_nonterminals.specs.declared.values.Called.{Called}
use Rattle.xc_nonterminals.specs.declared.stop.Stop.{Stop}
use Rattle.xc_nonterminals.specs.declared.stop.Stop.TheVariants.{Wrong, Deep, Memory}
use Rattle.xc_nonterminals.specs.Follows.{StandsAt}
use Rattle.xc_nonterminals.specs.Reading.{Reads, Unfit}

abbrev pub call_of : Called → plain.Call
call_of c = record { called = c.name; arguments = map argument_of c.arguments }

-- an expression is read, and its first token stands there
pub record IsValued (toks : List Tok) (room i j : ℕ) (a : plain.Argument) : Type 0 where
  pub read : Reads toks room expr i j a.value
  pub first : position (slice_get toks i) ≡ a.first

-- a right side that is read, or only where there were room
abbrev pub ReadsRhs : List Tok → ℕ → ℕ → ℕ → Option Rhs → Type 0
ReadsRhs toks room i j None = Unfit toks room rhs i j
ReadsRhs toks room i j (Some r) = Reads toks room rhs i j (right_of r)

abbrev pub ReadsInitial : List Tok → ℕ → ℕ → ℕ → Option Rhs → Type 0
ReadsInitial toks room i j None = Unfit toks room initial i j
ReadsInitial toks room i j (Some r) = Reads toks room initial i j (right_of r)

-- it stopped since this token doesn't stand here, or for want of memory
abbrev pub IsMissing : List Tok → ℕ → Symbol → Stop → Type 0
IsMissing toks i t (Wrong m) = (m ≡ i) × (StandsAt toks i t → ⊥)
IsMissing toks i t (Deep m) = ⊥
IsMissing toks i t Memory = Unit {0}
