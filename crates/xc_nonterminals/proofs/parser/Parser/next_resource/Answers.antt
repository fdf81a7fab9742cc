use Rattle.std.proofs.Common.{sym, ap, subst, ◌∙◌}
use Rattle.xc_tree.specs.Symbol.{a_name}
use Rattle.xc_tree.specs.Grammar.{named}
use Rattle.xc_nonterminals.specs.Reading.{Reads}
use Rattle.xc_nonterminals.specs.Parts.{resource_kind}
use Rattle.xc_nonterminals.proofs.parser.Parser.next_resource.Goals as goal

pub returns-clause-read : goal.returns-clause-read
returns-clause-read c =
    let e = sym c.resource.ensures.named in (
      c.resource.result,
      c.in_ok-push.ensures.ok,
      record {
        reads = λ room. subst (Reads c.args.self.now.toks.now room a_name c.args.at c.in_ok-name.name.end) e (c.in_ok-name.ensures.read room);
        is = c.resource.ensures.made ∙ ap (named (resource_kind c.args.is_chan)) e;
      },
    )
