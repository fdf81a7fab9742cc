-- Why tokens are no program, or none whose nodes all have room.
use Rattle.std.specs.Prelude.{ℕ, ◌+◌, ◌≤◌, List}
use Rattle.xc_tree.specs.declared.token.Tok.{Tok}
use Rattle.xc_tree.specs.Plain.{Item}
use Rattle.xc_tree.specs.Derives.{IsProgram, IsBeginning, IsShallow}
use Rattle.xc_nonterminals.specs.declared.stop.Stop.{Stop}
use Rattle.xc_nonterminals.specs.declared.stop.Stop.TheVariants.{Wrong, Deep, Memory}

-- no program goes on with token m, or none ends there
pub record NoProgram (toks : List Tok) (m : ℕ) : Type 0 where
  pub prefix : IsShallow toks m
  pub none : (items : List Item) → IsProgram toks items → ⊥
  pub most : (n : ℕ) → IsBeginning toks n → n ≤ m

-- each program that goes on with token m has a node that is too deep
pub record NoShallow (toks : List Tok) (m : ℕ) : Type 0 where
  pub prefix : IsShallow toks m
  pub begins : IsBeginning toks (m + 1)
  pub most : (n : ℕ) → IsShallow toks n → n ≤ m

-- the tokens were refused so as a program; want of memory says nothing
abbrev pub Halted : List Tok → Stop → Type 0
Halted toks (Wrong m) = NoProgram toks m
Halted toks (Deep m) = NoShallow toks m
Halted toks Memory = Unit {0}
