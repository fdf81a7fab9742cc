-- How code uses channels, as functions of the channel, so that a table is one of them.
use Rattle.std.specs.Prelude.{ℕ, Bool, true, false, Option, Some, None, nat_eq, option_map}
use Rattle.xw_words.specs.declared.pos.Pos.{Pos}
use Rattle.xw_words.specs.declared.pos.Broken.{Broken}
use Rattle.xc_tree.specs.Least.{first_of}
use Rattle.xc_kernel.specs.declared.statement.KRes.{KRes}
use Rattle.xc_kernel.specs.declared.statement.KRes.TheVariants.{Port, Timer, Chan}
use Rattle.xc_kernel.specs.Plain as kernel
use Rattle.xc_disjoint.specs.declared.uses.Use.{Use}
use Rattle.xc_disjoint.specs.declared.uses.Held.TheVariants.{Apart, Two, Many}
use Rattle.xc_disjoint.specs.declared.uses.Share.{Share}
use Rattle.xc_disjoint.specs.declared.uses.Share.TheVariants as share

-- a rule at a place
abbrev pub at : ℕ → Pos → Broken
at rule pos = record { rule = rule; pos = pos }

abbrev pub after : Use → Use → Use
after first next = record { held = Apart; second = first_of first.second next.second }

abbrev pub with_use : Pos → Option Share → Use → Share
with_use pos None next = share.One next
with_use pos (Some (share.One one)) next = share.Two (at 605 pos) (first_of one.second next.second)
with_use pos (Some (share.Two second inside)) next = share.Many (at 603 pos) (first_of (first_of inside (Some second)) next.second)
with_use pos (Some (share.Many third seconds)) next = share.Many third (first_of seconds next.second)

abbrev pub use_of : Share → Use
use_of (share.One one) = one
use_of (share.Two second inside) = record { held = Two inside; second = first_of inside (Some second) }
use_of (share.Many third seconds) = record { held = Many third; second = seconds }

-- the same where there may be no use

abbrev pub some_after : Option Use → Option Use → Option Use
some_after None next = next
some_after (Some first) None = Some first
some_after (Some first) (Some next) = Some (after first next)

abbrev pub some_with : Pos → Option Share → Option Use → Option Share
some_with pos s None = s
some_with pos s (Some next) = Some (with_use pos s next)

-- for all channels

abbrev pub Uses : Type 0
Uses = ℕ → Option Use

abbrev pub Shares : Type 0
Shares = ℕ → Option Share

unfoldable pub no_uses : Uses
no_uses c = None

unfoldable pub no_shares : Shares
no_shares c = None

unfoldable pub all_after : Uses → Uses → Uses
all_after f g c = some_after (f c) (g c)

unfoldable pub all_with : Pos → Shares → Uses → Shares
all_with pos f g c = some_with pos (f c) (g c)

unfoldable pub uses_of : Shares → Uses
uses_of f c = option_map use_of (f c)

-- `only`, by cases
abbrev pub use_if : Bool → Use → Option Use
use_if true u = Some u
use_if false u = None

-- one channel is used like this, and no other
unfoldable pub only : ℕ → Use → Uses
only used u c = use_if (nat_eq used c) u

-- one use, and no `par`
abbrev pub one_use : Use
one_use = record { held = Apart; second = None }

abbrev pub of_resource : KRes → Uses
of_resource (Port n) = no_uses
of_resource (Timer n) = no_uses
of_resource (Chan n) = only n one_use

abbrev mutual
  pub of_statement : kernel.Statement → Uses
  of_statement (kernel.set_zero v) = no_uses
  of_statement (kernel.set p e) = no_uses
  of_statement (kernel.output o) = of_resource o.resource
  of_statement (kernel.input i) = of_resource i.resource
  of_statement (kernel.if_then test a b) = all_after (of_statements a) (of_statements b)
  of_statement (kernel.loop test a b) = all_after (of_statements a) (of_statements b)
  of_statement (kernel.block n a) = of_statements a
  of_statement (kernel.exit n) = no_uses
  of_statement (kernel.select cs d pos) = all_after (of_cases cs) (of_default d)
  of_statement (kernel.par bs) = uses_of (with_branches no_shares bs)
  of_statement (kernel.transaction c is_master a start close) = all_after (only c one_use) (of_statements a)

  pub of_statements : kernel.Statements → Uses
  of_statements kernel.no_more = no_uses
  of_statements (kernel.more s ss) = all_after (of_statement s) (of_statements ss)

  pub of_case : kernel.Case → Uses
  of_case (kernel.case guard i a) = all_after (of_resource i.resource) (of_statements a)

  pub of_cases : kernel.Cases → Uses
  of_cases kernel.no_case = no_uses
  of_cases (kernel.more_cases c cs) = all_after (of_case c) (of_cases cs)

  pub of_default : kernel.Default → Uses
  of_default kernel.no_default = no_uses
  of_default (kernel.default a) = of_statements a

  -- how the branches of a `par` use channels, with these behind others
  pub with_branches : Shares → kernel.Branches → Shares
  with_branches shares kernel.no_branch = shares
  with_branches shares (kernel.more_branches (kernel.branch a pos) bs) = with_branches (all_with pos shares (of_statements a)) bs
