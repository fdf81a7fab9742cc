use Rattle.std.proofs.Common.{subst}
use Rattle.xc_tree.specs.Checks.{Breaks}
use Rattle.xc_tree.specs.Least.{IsLeastOf}
use Rattle.xc_tree.specs.Types.Named.{named_of}
use Rattle.xc_tree.proofs.Leasts.{first_of_least, none_of}
use Rattle.xc_types.proofs.checking.unsigned_of.Goals as goal

pub returns-in-Some-clause-broken : goal.returns-in-Some-clause-broken
returns-in-Some-clause-broken c =
    first_of_least (Breaks (named_of c.args.named.now)) c.in-Some.broken (subst (IsLeastOf (Breaks (named_of c.args.named.now))) c.in-Some.is c.in_ok-types.ensures.best)

pub returns-in-None-clause-unbroken : goal.returns-in-None-clause-unbroken
returns-in-None-clause-unbroken c =
    none_of (Breaks (named_of c.args.named.now)) (subst (IsLeastOf (Breaks (named_of c.args.named.now))) c.in-None.is c.in_ok-types.ensures.best)
