-- The uses of ports, timers and channels: by each output, input and case, and of its channel by each transaction.
use Rattle.std.specs.Prelude.{ℕ, ◌+◌, Bool, true, false, List, [], ◌∷◌, ◌++◌}
use Rattle.xw_words.specs.declared.pos.Pos.{Pos}
use Rattle.xc_kernel.specs.declared.statement.KRes.{KRes}
use Rattle.xc_kernel.specs.declared.statement.KRes.TheVariants.{Chan}
use Rattle.xc_kernel.specs.Plain as kernel
use Rattle.xc_kernel.specs.Things as things
use Rattle.xc_kernel.specs.Things.{by_resource}

-- what is used, and where
pub record Use : Type 0 where
  pub resource : KRes
  pub pos : Pos

abbrev pub of_output : kernel.Output → Use
of_output o = record { resource = o.resource; pos = o.pos }

abbrev pub of_input : kernel.Input → Use
of_input i = record { resource = i.resource; pos = i.pos }

abbrev pub of_channel : ℕ → Pos → Use
of_channel channel pos = record { resource = Chan channel; pos = pos }

abbrev mutual
  pub of_statement : kernel.Statement → List Use
  of_statement (kernel.set_zero v) = []
  of_statement (kernel.set p e) = []
  of_statement (kernel.output o) = of_output o ∷ []
  of_statement (kernel.input i) = of_input i ∷ []
  of_statement (kernel.if_then test a b) = of_statements a ++ of_statements b
  of_statement (kernel.loop test a b) = of_statements a ++ of_statements b
  of_statement (kernel.block n a) = of_statements a
  of_statement (kernel.exit n) = []
  of_statement (kernel.select cs d pos) = of_cases cs ++ of_default d
  of_statement (kernel.par bs) = of_branches bs
  of_statement (kernel.transaction channel is_master a start close) = of_channel channel start ∷ of_statements a

  pub of_statements : kernel.Statements → List Use
  of_statements kernel.no_more = []
  of_statements (kernel.more s ss) = of_statement s ++ of_statements ss

  pub of_case : kernel.Case → List Use
  of_case (kernel.case guard i a) = of_input i ∷ of_statements a

  pub of_cases : kernel.Cases → List Use
  of_cases kernel.no_case = []
  of_cases (kernel.more_cases c cs) = of_case c ++ of_cases cs

  pub of_default : kernel.Default → List Use
  of_default kernel.no_default = []
  of_default (kernel.default a) = of_statements a

  pub of_branch : kernel.Branch → List Use
  of_branch (kernel.branch a pos) = of_statements a

  pub of_branches : kernel.Branches → List Use
  of_branches kernel.no_branch = []
  of_branches (kernel.more_branches b bs) = of_branch b ++ of_branches bs

-- once where something is so, and else never
abbrev pub once : Bool → ℕ
once true = 1
once false = 0

-- how often some uses are of a channel
abbrev pub count_of : ℕ → List Use → ℕ
count_of channel [] = 0
count_of channel (u ∷ us) = once (by_resource (things.channel channel) u.resource) + count_of channel us
