-- Code that stands in no side of a channel.
use Rattle.std.proofs.Common.{◌≡◌, inl, ℕ, false, nat_eq, refl, ap, subst, arith}
use Rattle.xc_kernel.specs.declared.statement.KRes.{KRes}
use Rattle.xc_kernel.specs.declared.statement.KRes.TheVariants.{Chan}
use Rattle.xc_kernel.specs.Plain as kernel
use Rattle.xc_meaning.specs.States.Items.{Body, of_kernel, of_text}
use Rattle.xc_kernel.proofs.Used.{or_false}
use Rattle.xc_meaning.specs.Settings.Select.{default_of}
use Rattle.xc_kernel.specs.Things.{channel, by_resource, by_statement, by_statements, by_case, by_cases, by_default, by_branch, by_branches}
use Rattle.xc_invariants.specs.Every.{AllStatements, AllBranches, AllBody}
use Rattle.xc_invariants.specs.Sided.{BodyIs, DefaultIs, UnsidedStatement, UnsidedStatements, UnsidedCase, UnsidedCases, UnsidedDefault, UnsidedBranch, UnsidedBranches, UnsidedInput, UnsidedItem}
use Rattle.xc_kernel.specs.Uses.{once}
use Rattle.xc_kernel.specs.Branches.{users}
use Rattle.xc_invariants.proofs.Inherited.{Inherits}
use Rattle.xc_invariants.proofs.Choices.{EachCase, known_each, choice_each}

module _ (c : ℕ) where
  pub unsided_statements : (ss : kernel.Statements) → UnsidedStatements c ss → AllStatements (UnsidedItem c) ss
  unsided_statements kernel.no_more h = tt
  unsided_statements (kernel.more s ss) h = (h.0, unsided_statements ss h.1)

  pub unsided_branches : (bs : kernel.Branches) → UnsidedBranches c bs → AllBranches (UnsidedItem c) bs
  unsided_branches kernel.no_branch h = tt
  unsided_branches (kernel.more_branches (kernel.branch ss pos) bs) h = (unsided_statements ss h.0, unsided_branches bs h.1)

  unsided_body : (b : Body) → BodyIs (UnsidedStatements c) b → AllBody (UnsidedItem c) b
  unsided_body (of_kernel ss) h = unsided_statements ss h
  unsided_body (of_text i) h = absurd h

  unsided_cases : (cs : kernel.Cases) → UnsidedCases c cs → EachCase (UnsidedInput c) (UnsidedStatements c) cs
  unsided_cases kernel.no_case h = tt
  unsided_cases (kernel.more_cases (kernel.case guard input ss) cs) h = (h.0.0, h.0.1, unsided_cases cs h.1)

  unsided_default : (d : kernel.Default) → UnsidedDefault c d → DefaultIs (UnsidedStatements c) (default_of d)
  unsided_default kernel.no_default h = tt
  unsided_default (kernel.default ss) h = h

  other_channel : (r : KRes) (d : ℕ) → r ≡ Chan d → by_resource (channel c) r ≡ false → nat_eq c d ≡ false
  other_channel r d e h = subst (λ r. by_resource (channel c) r ≡ false) e h

  pub unsided_inherits : Inherits (UnsidedItem c)
  unsided_inherits = record {
    stamp_sent = λ o place v e h. tt;
    answer = λ o d pos e h. other_channel o.resource d e h;
    target = λ input place v e h. tt;
    stamp = λ input place v e h. tt;
    target_fixed = λ input x y place v e h. tt;
    stamp_fixed = λ input x y place v e h. tt;
    of_if = λ e a b h. (unsided_statements a h.0, unsided_statements b h.1);
    of_loop = λ e a b h. (unsided_statements a h.0, unsided_statements b h.1);
    of_block = λ n a h. (unsided_statements a h, tt);
    of_select = λ cs d pos store choices e h. (known_each (UnsidedInput c) (UnsidedStatements c) store cs choices e (unsided_cases cs h.0), unsided_default d h.1);
    of_choice = λ choices otherwise n a e h. let g = choice_each (UnsidedInput c) (UnsidedStatements c) choices n a e h.0 in (g.0, λ v w. g.0, unsided_body a.body g.1);
    of_default = λ choices body h. unsided_body body h.1;
    of_transaction = λ d is_master a start close h. (unsided_statements a h.1, h.0, h.0);
    of_end = λ d is_master pos h. h;
  }

  -- code that doesn't use the channel at all

  mutual
    pub unused_statement : (s : kernel.Statement) → by_statement (channel c) s ≡ false → UnsidedStatement c s
    unused_statement (kernel.set_zero v) h = tt
    unused_statement (kernel.set p e) h = tt
    unused_statement (kernel.output o) h = (or_false _ _ h).0
    unused_statement (kernel.input input) h = (or_false _ _ h).0
    unused_statement (kernel.if_then e a b) h = let g = or_false _ _ (or_false _ _ h).1 in (unused_statements a g.0, unused_statements b g.1)
    unused_statement (kernel.loop e a b) h = let g = or_false _ _ (or_false _ _ h).1 in (unused_statements a g.0, unused_statements b g.1)
    unused_statement (kernel.block n a) h = unused_statements a h
    unused_statement (kernel.exit n) h = tt
    unused_statement (kernel.select cs d pos) h = let g = or_false _ _ h in (unused_cases cs g.0, unused_default d g.1)
    unused_statement (kernel.par bs) h = let e = no_users bs h in inl (omega arith, unused_branches bs h)
    unused_statement (kernel.transaction d is_master a start close) h = let g = or_false _ _ h in (g.0, unused_statements a g.1)

    pub unused_statements : (ss : kernel.Statements) → by_statements (channel c) ss ≡ false → UnsidedStatements c ss
    unused_statements kernel.no_more h = tt
    unused_statements (kernel.more s ss) h = let g = or_false _ _ h in (unused_statement s g.0, unused_statements ss g.1)

    unused_case : (a : kernel.Case) → by_case (channel c) a ≡ false → UnsidedCase c a
    unused_case (kernel.case guard input a) h = let g = or_false _ _ (or_false _ _ h).1 in ((or_false _ _ g.0).0, unused_statements a g.1)

    unused_cases : (cs : kernel.Cases) → by_cases (channel c) cs ≡ false → UnsidedCases c cs
    unused_cases kernel.no_case h = tt
    unused_cases (kernel.more_cases a cs) h = let g = or_false _ _ h in (unused_case a g.0, unused_cases cs g.1)

    unused_default : (d : kernel.Default) → by_default (channel c) d ≡ false → UnsidedDefault c d
    unused_default kernel.no_default h = tt
    unused_default (kernel.default a) h = unused_statements a h

    unused_branch : (b : kernel.Branch) → by_branch (channel c) b ≡ false → UnsidedBranch c b
    unused_branch (kernel.branch a pos) h = unused_statements a h

    pub unused_branches : (bs : kernel.Branches) → by_branches (channel c) bs ≡ false → UnsidedBranches c bs
    unused_branches kernel.no_branch h = tt
    unused_branches (kernel.more_branches b bs) h = let g = or_false _ _ h in (unused_branch b g.0, unused_branches bs g.1)

    pub no_users : (bs : kernel.Branches) → by_branches (channel c) bs ≡ false → users c bs ≡ 0
    no_users kernel.no_branch h = refl
    no_users (kernel.more_branches b bs) h =
        let g = or_false (by_branch (channel c) b) (by_branches (channel c) bs) h in
        let e = ap once g.0 in
        let f = no_users bs g.1 in
        omega arith
