-- Where the walk stands.
use Rattle.std.specs.Prelude.{ℕ, ◌+◌, List, [], ◌∷◌}
use Rattle.std.specs.Borrow.{Bor}
use Rattle.xc_kernel.specs.Scopes.{Scope, a_port, with_name}
use Rattle.xc_kernel.specs.Context as spec
use Rattle.xc_kernel.specs.Programs.{Function}
use Rattle.xc_inline.specs.Functions.{functions_among}
use Rattle.xc_inline.specs.Numbers.{numbering_of}
use Rattle.xc_inline.specs.declared.context.Context.{Context}
use Rattle.xc_inline.specs.declared.functions.Functions.{Functions}

-- the functions, in the order of the text
abbrev pub functions_of : Functions → List Function
functions_of fs = functions_among fs.all.items

-- the names of ports, which have the numbers from n on
abbrev pub ports_from : ℕ → List (Bor (List ℕ)) → Scope
ports_from n [] = []
ports_from n (name ∷ names) = with_name (ports_from (n + 1) names) name.now (a_port n)

-- the context
abbrev pub context_of : Context → spec.Context
context_of c = record {
  functions = functions_of c.functions.now;
  ports = ports_from 0 c.ports.now;
  numbering = numbering_of c.numbers.now;
  core = c.core;
  path = c.path.now;
  result = c.result.now;
  returns = c.returns.now;
  breaks = c.breaks.now;
  continues = c.continues.now;
}
