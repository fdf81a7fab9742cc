-- What the declared types of a kernel stand for as plain data.
use Rattle.std.specs.Prelude.{ℕ, List, map, Option, option_map}
use Rattle.xc_kernel.specs.declared.kernel.Kernel.{Kernel}
use Rattle.xc_kernel.specs.declared.kernel.Root.{Root}
use Rattle.xc_kernel.specs.declared.statement.KOut.{KOut}
use Rattle.xc_kernel.specs.declared.statement.KHead.{KHead}
use Rattle.xc_kernel.specs.declared.statement.Kx.{Kx, fold-Kx}
use Rattle.xc_kernel.specs.declared.statement.Kx.TheOpen as X
use Rattle.xc_kernel.specs.declared.statement.Place.{Place, fold-Place}
use Rattle.xc_kernel.specs.declared.statement.Kst.{Kst, fold-Kst}
use Rattle.xc_kernel.specs.declared.statement.Kst.TheOpen as S
use Rattle.xc_kernel.specs.declared.statement.KBranch.{KBranch, fold-KBranch}
use Rattle.xc_kernel.specs.declared.statement.KCase.{KCase, fold-KCase}
use Rattle.xc_kernel.specs.declared.statement.KSelect.{KSelect, fold-KSelect}
use Rattle.xc_kernel.specs.Plain as plain

abbrev pub expression_step : X.Kx-F plain.Expression plain.Place → plain.Expression
expression_step (X.Num v) = plain.number v
expression_step (X.Read p) = plain.read p
expression_step (X.Op o u es p) = plain.operation o u (plain.operands es) p

abbrev pub place_step : X.Place-F plain.Expression plain.Place → plain.Place
place_step (X.Word v) = plain.word v
place_step (X.Elem v i p) = plain.element v i.value p

-- the expression that a `Kx` stands for
unfoldable pub expression_of : Kx → plain.Expression
expression_of = fold-Kx plain.Expression plain.Place expression_step place_step

unfoldable pub place_of : Place → plain.Place
place_of = fold-Place plain.Expression plain.Place expression_step place_step

abbrev pub condition_of : ℕ × Kx → plain.Condition
condition_of c = record { test = c.0; value = expression_of c.1 }

abbrev pub output_of : KOut → plain.Output
output_of o = record {
  resource = o.res;
  time = option_map expression_of o.time;
  value = expression_of o.value;
  stamp = option_map place_of o.stamp;
  pos = o.pos;
}

abbrev pub input_of : KHead → plain.Input
input_of h = record {
  resource = h.res;
  time = option_map expression_of h.time;
  condition = option_map condition_of h.cond;
  target = option_map place_of h.dest;
  stamp = option_map place_of h.stamp;
  pos = h.pos;
}

abbrev pub statement_step : S.Kst-F plain.Statement plain.Branch plain.Case plain.Statement → plain.Statement
statement_step (S.Zero v) = plain.set_zero v
statement_step (S.Set p e) = plain.set (place_of p) (expression_of e)
statement_step (S.Out o) = plain.output (output_of o)
statement_step (S.In h) = plain.input (input_of h)
statement_step (S.If e a b) = plain.if_then (expression_of e) (plain.statements a) (plain.statements b)
statement_step (S.Loop e a b) = plain.loop (expression_of e) (plain.statements a) (plain.statements b)
statement_step (S.Block n a) = plain.block n (plain.statements a)
statement_step (S.Exit n) = plain.exit n
statement_step (S.Select s) = s
statement_step (S.Par bs) = plain.par (plain.branches bs)
statement_step (S.Tran c m a o e) = plain.transaction c m (plain.statements a) o e

abbrev pub branch_step : S.KBranch-F plain.Statement plain.Branch plain.Case plain.Statement → plain.Branch
branch_step b = plain.branch (plain.statements b.body) b.pos

abbrev pub case_step : S.KCase-F plain.Statement plain.Branch plain.Case plain.Statement → plain.Case
case_step c = plain.case (option_map expression_of c.guard) (input_of c.head) (plain.statements c.body)

abbrev pub select_step : S.KSelect-F plain.Statement plain.Branch plain.Case plain.Statement → plain.Statement
select_step s = plain.select (plain.cases s.cases) (plain.default_by s.otherwise) s.pos

-- the statement that a `Kst` stands for
unfoldable pub statement_of : Kst → plain.Statement
statement_of = fold-Kst plain.Statement plain.Branch plain.Case plain.Statement statement_step branch_step case_step select_step

unfoldable pub branch_of : KBranch → plain.Branch
branch_of = fold-KBranch plain.Statement plain.Branch plain.Case plain.Statement statement_step branch_step case_step select_step

unfoldable pub case_of : KCase → plain.Case
case_of = fold-KCase plain.Statement plain.Branch plain.Case plain.Statement statement_step branch_step case_step select_step

unfoldable pub select_of : KSelect → plain.Statement
select_of = fold-KSelect plain.Statement plain.Branch plain.Case plain.Statement statement_step branch_step case_step select_step

abbrev pub default_of : Option (List Kst) → plain.Default
default_of ss = plain.default_by (option_map (map statement_of) ss)

abbrev pub root_of : Root → plain.Root
root_of r = record { core = r.core; place = r.place; body = plain.statements (map statement_of r.body); pos = r.pos }

-- the kernel that a `Kernel` stands for
abbrev pub kernel_of : Kernel → plain.Kernel
kernel_of k = record {
  roots = map root_of k.roots;
  variables = k.vars;
  channels = k.chans;
  timers = k.timers;
  ports = k.ports;
  instances = k.insts;
  main = k.main;
}
