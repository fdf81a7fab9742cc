use Rattle.xc_nonterminals.proofs.Declaring.DeclaredRows.{decl_refuses, decl_deep}
use Rattle.xc_nonterminals.proofs.parser.Parser.declaration.Goals as goal

pub returns-then-not-begins_declaration-clause-stopped : goal.returns-then-not-begins_declaration-clause-stopped
returns-then-not-begins_declaration-clause-stopped c = decl_refuses c.args.room (c.begins_declaration.ensures.no c.if-not-begins_declaration.true)

pub returns-then-room-eq0-clause-stopped : goal.returns-then-room-eq0-clause-stopped
returns-then-room-eq0-clause-stopped c = decl_deep c.args.room c.if-room-eq0.true (c.begins_declaration.ensures.yes c.if-not-begins_declaration.false)
