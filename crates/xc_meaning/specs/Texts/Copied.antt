-- What the copy rule says of a piece of a text where it stands: the names behind it, and the code that tells its channels.
use Rattle.std.specs.Prelude.{ℕ, length}
use Rattle.xc_tree.specs.Plain as tree
use Rattle.xc_kernel.specs.Plain as kernel
use Rattle.xc_kernel.specs.Numbering.{channel_number, block_number}
use Rattle.xc_kernel.specs.Paths.{Path}
use Rattle.xc_kernel.specs.Scopes.{Scope}
use Rattle.xc_kernel.specs.Copy.{code_of}
use Rattle.xc_kernel.specs.Context.{Context}
use Rattle.xc_kernel.specs.Calls.{CopiesCall}
use Rattle.xc_kernel.specs.Declarations.{declaration_copy}
use Rattle.xc_kernel.specs.Flow.{first_of}
use Rattle.xc_kernel.specs.Statements.{statement_copy, maybe_copy, statements_copy, branch_copy, calls_copy}

-- how calls are copied here
abbrev pub calls_in : Context → CopiesCall
calls_in c = calls_copy (length c.functions)

-- the names that are known behind a statement, a declared name or a branch
abbrev pub behind : tree.Statement → Context → Scope → Scope
behind s c scope = (statement_copy (calls_in c) s c scope).scope

abbrev pub behind_maybe : tree.Maybe → Context → Scope → Scope
behind_maybe s c scope = (maybe_copy (calls_in c) s c scope).scope

abbrev pub behind_name : tree.Declaration → Context → Scope → Scope
behind_name d c scope = (declaration_copy (calls_in c) c scope d).scope

abbrev pub behind_branch : tree.Branch → Context → Scope → Scope
behind_branch b c scope = (branch_copy (calls_in c) b c scope).scope

-- the code that a statement stands for
abbrev pub code_in : tree.Statement → Context → Scope → kernel.Statements
code_in s c scope = code_of (statement_copy (calls_in c) s c scope)

-- the one channel that the communications of a transaction name
abbrev pub channel_in : tree.Statements → Context → Scope → ℕ
channel_in ss c scope = channel_number c.numbering (first_of (statements_copy (calls_in c) ss c scope).named)

-- the number of a block
abbrev pub block_in : Context → Path → ℕ
block_in c path = block_number c.numbering path
