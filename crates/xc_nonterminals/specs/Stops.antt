-- Where and why reading a symbol stopped.
use Rattle.std.specs.Prelude.{ℕ, List}
use Rattle.xc_tree.specs.declared.token.Tok.{Tok}
use Rattle.xc_tree.specs.Symbol.{Symbol}
use Rattle.xc_nonterminals.specs.declared.stop.Stop.{Stop}
use Rattle.xc_nonterminals.specs.declared.stop.Stop.TheVariants.{Wrong, Deep, Memory}
use Rattle.xc_nonterminals.specs.Reading.{Refuses, TooDeep}

-- the symbol, from i on and with room for so many nodes, was refused so; want of memory says nothing
abbrev pub Stopped : List Tok → ℕ → Symbol → ℕ → Stop → Type 0
Stopped toks room s i (Wrong m) = Refuses toks room s i m
Stopped toks room s i (Deep m) = TooDeep toks room s i m
Stopped toks room s i Memory = Unit {0}
