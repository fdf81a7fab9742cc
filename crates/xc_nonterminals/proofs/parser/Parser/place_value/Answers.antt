use Rattle.xc_nonterminals.proofs.Valued.RightSides.{if_ok, if_err, reads_place_value, stops_place_value}
use Rattle.xc_nonterminals.proofs.parser.Parser.place_value.Goals as goal

pub returns-clause-read : goal.returns-clause-read
returns-clause-read c = if_ok c.valued.result (λ r h. reads_place_value h.first h.read) c.valued.ensures.read

pub returns-clause-stopped : goal.returns-clause-stopped
returns-clause-stopped c = if_err c.valued.result (λ e h. stops_place_value c.args.self.now.toks.now c.args.room c.args.at e h) c.valued.ensures.stopped
