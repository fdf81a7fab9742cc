use Rattle.std.proofs.Common.{length, map, ◌*◌, ◌+◌, ◌-◌, ◌<◌, ◌≡◌, ◌≤◌}
use Rattle.xc_nonterminals.proofs.Stating.Braces.{Holds}
use Rattle.xc_nonterminals.proofs.Stating.Branches.{Runs}
use Rattle.xc_nonterminals.proofs.Stating.CaseLists.{Cases}
use Rattle.xc_nonterminals.proofs.Stating.CaseSteps.{Leads}
use Rattle.xc_tree.specs.Plain as plain
use Rattle.xc_tree.specs.Trees as trees
use Rattle.xc_nonterminals.proofs.parser.Parser.+statement.Given as goal

abbrev pub invariant-par-branches : goal.invariant-par-branches
invariant-par-branches l = record {
  after : l.at < l.end;
  within : l.end ≤ length l.self.toks.now;
  held : l.held ≡ plain.branches_tokens (plain.branches (map trees.branch_of l.branches));
  room : l.at + l.held ≤ l.end;
  runs : Runs l.self.toks.now l.room l.at l.end (map trees.branch_of l.branches);
}

abbrev pub decreases-par-branches : goal.decreases-par-branches
decreases-par-branches l = length l.self.toks.now - l.end

abbrev pub invariant-select-cases : goal.invariant-select-cases
invariant-select-cases l = record {
  after : l.at < l.end;
  within : l.end ≤ length l.self.toks.now;
  held : l.held ≡ plain.cases_tokens (plain.cases (map trees.case_of l.cases));
  room : l.at + l.held ≤ l.end;
  all : Cases l.self.toks.now l.room l.at l.end (map trees.case_of l.cases);
}

abbrev pub decreases-select-cases : goal.decreases-select-cases
decreases-select-cases l = length l.self.toks.now - l.end

abbrev pub decreases-branch : goal.decreases-branch
decreases-branch l = 8 * l.room + 10

abbrev pub decreases-replicated : goal.decreases-replicated
decreases-replicated l = 8 * l.room + 11

abbrev pub decreases-par : goal.decreases-par
decreases-par l = 8 * l.room + 12

abbrev pub decreases-select : goal.decreases-select
decreases-select l = 8 * l.room + 12

abbrev pub invariant-case_body-items : goal.invariant-case_body-items
invariant-case_body-items l = record {
  after : l.at ≤ l.end;
  within : l.end ≤ length l.self.toks.now;
  leads : Leads l.self.toks.now l.room l.at l.end (map trees.statement_of l.value);
}

abbrev pub decreases-case_body-items : goal.decreases-case_body-items
decreases-case_body-items l = length l.self.toks.now - l.end

abbrev pub decreases-case : goal.decreases-case
decreases-case l = 8 * l.room + 10

abbrev pub decreases-default_case : goal.decreases-default_case
decreases-default_case l = 8 * l.room + 9

abbrev pub decreases-case_body : goal.decreases-case_body
decreases-case_body l = 8 * l.room + 8

abbrev pub decreases-while_loop : goal.decreases-while_loop
decreases-while_loop l = 8 * l.room + 12

abbrev pub decreases-do_loop : goal.decreases-do_loop
decreases-do_loop l = 8 * l.room + 12

abbrev pub decreases-for_loop : goal.decreases-for_loop
decreases-for_loop l = 8 * l.room + 12

abbrev pub invariant-block-items : goal.invariant-block-items
invariant-block-items l = record {
  after : l.at < l.end;
  within : l.end ≤ length l.self.toks.now;
  holds : Holds l.self.toks.now l.room l.at l.end (map trees.statement_of l.value);
}

abbrev pub decreases-block-items : goal.decreases-block-items
decreases-block-items l = length l.self.toks.now - l.end

abbrev pub decreases-statement : goal.decreases-statement
decreases-statement l = 8 * l.room + 6

abbrev pub decreases-block_item : goal.decreases-block_item
decreases-block_item l = 8 * l.room + 7

abbrev pub decreases-block : goal.decreases-block
decreases-block l = 8 * l.room + 8

abbrev pub decreases-braced : goal.decreases-braced
decreases-braced l = 8 * l.room + 9

abbrev pub decreases-transaction : goal.decreases-transaction
decreases-transaction l = 8 * l.room + 12

abbrev pub decreases-conditional : goal.decreases-conditional
decreases-conditional l = 8 * l.room + 12

abbrev pub decreases-begun : goal.decreases-begun
decreases-begun l = 8 * l.room + 13
