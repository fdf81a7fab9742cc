use Rattle.std.proofs.Common.{rules, ◌≡◌, ◌≤◌, inl, inr, ◌+◌, ◌-◌, refl, sym, subst, ◌∙◌, arith}
use Rattle.xc_tree.specs.declared.token.Kind.TheVariants.{Name, Num, Key, Sym}
use Rattle.xw_words.specs.declared.pos.Pos.{Pos}
use Rattle.xc_tree.specs.Plain as plain
use Rattle.xc_tree.specs.Derives.{On}
use Rattle.xc_tree.specs.Depth.{of_expression}
use Rattle.xc_tree.specs.Symbol.{expr, level, lval}
use Rattle.xc_tree.specs.Trees.{expression_of}
use Rattle.xc_nonterminals.specs.Reading.{Reads, Refuses, TooDeep}
use Rattle.xc_nonterminals.specs.Stops.{Stopped}
use Rattle.xc_nonterminals.specs.Operands.{IsSymbol}
use Rattle.xc_nonterminals.proofs.Derivations.TokenSets.{false_true}
use Rattle.xc_nonterminals.proofs.Reading.Insides.{memory_stops}
use Rattle.xc_nonterminals.proofs.Reading.Tests.{is_symbol, stands_there, stands_here, begins_as, none_past, lower}
use Rattle.xc_nonterminals.proofs.Valued.Atoms.{reads_number, deep_number, no_operand, reads_name, deep_name, reads_element, open_element, stops_element, reads_variable, deep_variable, reads_place, open_place, stops_place, reads_signed, stops_signed, deep_sign, open_int, open_unsigned, stops_int, stops_unsigned, deep_int, deep_unsigned, cast_reads}
use Rattle.xc_nonterminals.proofs.Reading.Runs.{Run, out_of_all, stops_inside, not_closed, closed, no_first, no_operand_of, climb_from, climbs, right_stops, too_deep, climbed}
use Rattle.xc_nonterminals.proofs.Valued.Choosing.{no_test, no_question, deep_question, stops_first, no_colon, stops_second, reads_choice}
use Rattle.xc_nonterminals.proofs.parser.Parser.+expression.Goals as goal

pub bare-returns-then-at-self-clause-stopped : goal.bare-returns-then-at-self-clause-stopped
bare-returns-then-at-self-clause-stopped t c = no_operand c.args.room (none_past c.args.self.now.toks.now c.args.at c.if-at-self.true)

pub bare-returns-then-room-eq0-clause-stopped : goal.bare-returns-then-room-eq0-clause-stopped
bare-returns-then-room-eq0-clause-stopped t c =
    let on : On c.args.self.now.toks.now c.args.at (Num c.in-Num.value c.in-Num.is_unsigned) _ = stands_there c.args.self.now.toks.now c.args.at c.index-self-at.result _ (omega arith) c.index-self-at.is c.in-Num.is in
    subst (λ r. TooDeep c.args.self.now.toks.now r (level 0) c.args.at c.args.at) (sym c.if-room-eq0.true) (deep_number on)

pub bare-variable-requires : goal.bare-variable-requires
bare-variable-requires t c =
    let on : On c.args.self.now.toks.now c.args.at (Name c.in-Name.text) _ = stands_there c.args.self.now.toks.now c.args.at c.index-self-at.result _ (omega arith) c.index-self-at.is c.in-Name.is in
    (search rules, (omega arith, on))

pub bare-signed-requires : goal.bare-signed-requires
bare-signed-requires t c =
    let on : On c.args.self.now.toks.now c.args.at (Sym c.in-Sym.symbol) _ = stands_there c.args.self.now.toks.now c.args.at c.index-self-at.result _ (omega arith) c.index-self-at.is c.in-Sym.is in
    (search rules, (c.is_sign.ensures.0 c.if-is_sign.true, (omega arith, on)))

pub bare-returns-else-room-eq0-clause-read : goal.bare-returns-else-room-eq0-clause-read
bare-returns-else-room-eq0-clause-read t c =
    let on : On c.args.self.now.toks.now c.args.at (Num c.in-Num.value c.in-Num.is_unsigned) _ = stands_there c.args.self.now.toks.now c.args.at c.index-self-at.result _ (omega arith) c.index-self-at.is c.in-Num.is in
    subst (Reads c.args.self.now.toks.now c.args.room (level 0) c.args.at (c.args.at + 1)) (sym c.number.ensures.made) (reads_number (let h = c.if-room-eq0.false in omega arith) on)

pub bare-returns-else-is_sign-clause-stopped : goal.bare-returns-else-is_sign-clause-stopped
bare-returns-else-is_sign-clause-stopped t c =
    let on : On c.args.self.now.toks.now c.args.at (Sym c.in-Sym.symbol) _ = stands_there c.args.self.now.toks.now c.args.at c.index-self-at.result _ (omega arith) c.index-self-at.is c.in-Sym.is in
    no_operand c.args.room (λ o. elim (begins_as on o) [
      | inl e ↦
          let paren : IsSymbol c.args.self.now.toks.now c.args.at 0 = is_symbol 0 on e in
          c.requires.no_bracket (record { paren = paren; no_type = λ y. c.is_cast.ensures.no c.if-is_cast.false (record { paren = paren; type = y }) })
      | inr h ↦ false_true (sym c.if-is_sign.false ∙ c.is_sign.ensures.1 h)
    ])

pub bare-returns-in-Key-clause-stopped : goal.bare-returns-in-Key-clause-stopped
bare-returns-in-Key-clause-stopped t c =
    let on : On c.args.self.now.toks.now c.args.at (Key c.in-Key.field-0) _ = stands_there c.args.self.now.toks.now c.args.at c.index-self-at.result _ (omega arith) c.index-self-at.is c.in-Key.is in
    no_operand c.args.room (λ o. begins_as on o)

pub cast-returns-then-room-eq0-clause-stopped : goal.cast-returns-then-room-eq0-clause-stopped
cast-returns-then-room-eq0-clause-stopped t c =
    let y = c.requires.cast.1 in
    subst (λ r. TooDeep c.args.self.now.toks.now r (level 0) c.args.at (c.args.at + 1)) (sym c.if-room-eq0.true) (elim y.type [ inl z ↦ deep_int y.paren.1 z.1 | inr z ↦ deep_unsigned y.paren.1 z.1 ])

pub cast-returns-then-not-is_symbol-clause-stopped : goal.cast-returns-then-not-is_symbol-clause-stopped
cast-returns-then-not-is_symbol-clause-stopped t c =
    let h : 1 ≤ c.args.room = let g = c.if-room-eq0.false in omega arith in
    let y = c.requires.cast.1 in
    let e : c.args.at + 1 + 1 ≡ c.args.at + 2 = omega arith in
    let f : c.args.at + 3 ≡ c.args.at + 1 + 1 + 1 = omega arith in
    let none = λ (r : Pos). λ (on : On c.args.self.now.toks.now (c.args.at + 1 + 1) (Sym 1) r). c.is_symbol.ensures.no c.if-not-is_symbol.true r (subst (λ i. On c.args.self.now.toks.now i (Sym 1) r) e on) in
    subst (Refuses c.args.self.now.toks.now c.args.room (level 0) c.args.at) e (elim y.type [ inl z ↦ open_int h y.paren.1 z.1 none | inr z ↦ open_unsigned h y.paren.1 z.1 none ])

pub cast-returns-in-Err-clause-stopped : goal.cast-returns-in-Err-clause-stopped
cast-returns-in-Err-clause-stopped t c =
    let h : 1 ≤ c.args.room = let g = c.if-room-eq0.false in omega arith in
    let y = c.requires.cast.1 in
    let e : c.args.at + 1 + 1 ≡ c.args.at + 2 = omega arith in
    let f : c.args.at + 3 ≡ c.args.at + 1 + 1 + 1 = omega arith in
    let close = c.is_symbol.ensures.yes c.if-not-is_symbol.false in
    let on = subst (λ i. On c.args.self.now.toks.now i (Sym 1) close.1.0) (sym e) close.1.1 in
    let r = subst (λ i. Stopped c.args.self.now.toks.now (c.args.room - 1) (level 0) i c.in-Err.e) f c.in-Err.ensures.stopped in
    elim y.type [ inl z ↦ stops_int h y.paren.1 z.1 c.in-Err.e on r | inr z ↦ stops_unsigned h y.paren.1 z.1 c.in-Err.e on r ]

pub cast-returns-in-Ok-cast-clause-read : goal.cast-returns-in-Ok-cast-clause-read
cast-returns-in-Ok-cast-clause-read t c =
    let h : 1 ≤ c.args.room = let g = c.if-room-eq0.false in omega arith in
    let y = c.requires.cast.1 in
    let e : c.args.at + 1 + 1 ≡ c.args.at + 2 = omega arith in
    let f : c.args.at + 3 ≡ c.args.at + 1 + 1 + 1 = omega arith in
    let close = c.is_symbol.ensures.yes c.if-not-is_symbol.false in
    let on = subst (λ i. On c.args.self.now.toks.now i (Sym 1) close.1.0) (sym e) close.1.1 in
    let r = subst (λ i. Reads c.args.self.now.toks.now (c.args.room - 1) (level 0) i c.in-Ok.operand.end (expression_of c.in-Ok.operand.tree)) f c.in-Ok.ensures.read in
    let made = sym c.in-Ok-cast.ensures.made in
    let paren = stands_here c.index-self-at.result (omega arith) y.paren.1 in
    subst (Reads c.args.self.now.toks.now c.args.room (level 0) c.args.at c.in-Ok.operand.end) made (cast_reads h paren y.type (c.is_word-is_unsigned.ensures.yes) (c.is_word-is_unsigned.ensures.no) on r)

pub choice-returns-in-Err-clause-stopped : goal.choice-returns-in-Err-clause-stopped
choice-returns-in-Err-clause-stopped t c =
    let q = c.requires.question in
    let on = stands_here c.index-self-question.result q.0 q.1.1 in
    let h : of_expression (expression_of c.args.test.tree) + 1 ≤ c.args.room = let d = c.requires.test.depth in let f = c.requires.fits in omega arith in
    let stopped = rw c.in-Err.ensures.failed at c.expression.ensures.stopped in
    λ at r. stops_first c.args.self.now.toks.now r on h c.in-Err.e stopped

pub choice-returns-then-not-is_symbol-clause-stopped : goal.choice-returns-then-not-is_symbol-clause-stopped
choice-returns-then-not-is_symbol-clause-stopped t c =
    let q = c.requires.question in
    let on = stands_here c.index-self-question.result q.0 q.1.1 in
    let h : of_expression (expression_of c.args.test.tree) + 1 ≤ c.args.room = let d = c.requires.test.depth in let f = c.requires.fits in omega arith in
    let first = rw c.in-Ok.ensures.made at c.expression.ensures.read in
    λ at r. no_colon c.args.self.now.toks.now r on h first (c.is_symbol.ensures.no c.if-not-is_symbol.true)

pub choice-returns-in-Err-with_ok-clause-stopped : goal.choice-returns-in-Err-with_ok-clause-stopped
choice-returns-in-Err-with_ok-clause-stopped t c =
    let q = c.requires.question in
    let on = stands_here c.index-self-question.result q.0 q.1.1 in
    let h : of_expression (expression_of c.args.test.tree) + 1 ≤ c.args.room = let d = c.requires.test.depth in let f = c.requires.fits in omega arith in
    let colon = c.is_symbol.ensures.yes c.if-not-is_symbol.false in
    let first = rw c.in-Ok.ensures.made at c.expression.ensures.read in
    let stopped = rw c.in-Err-with_ok.ensures.failed at c.expression-2.ensures.stopped in
    λ at r. stops_second c.args.self.now.toks.now r on h first colon.1.1 c.in-Err-with_ok.e stopped

pub choice-returns-in-Ok-choice-clause-read : goal.choice-returns-in-Ok-choice-clause-read
choice-returns-in-Ok-choice-clause-read t c =
    let q = c.requires.question in
    let on = stands_here c.index-self-question.result q.0 q.1.1 in
    let h : of_expression (expression_of c.args.test.tree) + 1 ≤ c.args.room = let d = c.requires.test.depth in let f = c.requires.fits in omega arith in
    let colon = c.is_symbol.ensures.yes c.if-not-is_symbol.false in
    let first = rw c.in-Ok.ensures.made at c.expression.ensures.read in
    let second = rw c.in-Ok-with_ok.ensures.made at c.expression-2.ensures.read in
    rw (c.in-Ok-choice.ensures.made, c.in-Ok-with_ok.ensures.value, c.in-Ok.ensures.value)
    (λ at r. reads_choice c.args.self.now.toks.now r on h first colon.1.1 second)

pub climb-operators-init : goal.climb-operators-init
climb-operators-init t c = climb_from c.args.level c.args.first c.requires.first

pub climb-returns-then-left-room-clause-stopped : goal.climb-returns-then-left-room-clause-stopped
climb-returns-then-left-room-clause-stopped t c =
    let op = lower c.in-Some.ensures.some.1 c.in-Some.ensures.is in
    let b = c.in-Some.ensures.some in
    too_deep c.operators.invariant op (omega arith) c.if-left-room.true

pub climb-returns-in-Err-clause-stopped : goal.climb-returns-in-Err-clause-stopped
climb-returns-in-Err-clause-stopped t c =
    let op = lower c.in-Some.ensures.some.1 c.in-Some.ensures.is in
    let b = c.in-Some.ensures.some in
    right_stops c.operators.invariant op c.in-Err.e (omega arith) c.if-left-room.false c.in-Err.ensures.stopped

pub climb-operators-preserved : goal.climb-operators-preserved
climb-operators-preserved t c =
    let op = lower c.in-Some.ensures.some.1 c.in-Some.ensures.is in
    let b = c.in-Some.ensures.some in
    let s = c.in-Ok.ensures.sized in
    climbs c.operators.invariant op (omega arith) c.if-left-room.false s.1 (omega arith) c.in-Ok.ensures.read c.in-Ok.ensures.last refl (search rules) c.in-Ok-binary.ensures.made

pub climb-returns-clause-read : goal.climb-returns-clause-read
climb-returns-clause-read t c =
    climbed c.operators.invariant c.in_default.ensures.none

pub expression-returns-in-Err-clause-stopped : goal.expression-returns-in-Err-clause-stopped
expression-returns-in-Err-clause-stopped t c = no_first c.args.self.now.toks.now c.args.room c.args.at c.in-Err.e c.in-Err.ensures.stopped

pub level-returns-in-Err-clause-stopped : goal.level-returns-in-Err-clause-stopped
level-returns-in-Err-clause-stopped t c = no_operand_of c.args.self.now.toks.now c.args.room c.args.level c.args.at c.in-Err.e c.in-Err.ensures.stopped

pub operand-returns-in-Err-clause-stopped : goal.operand-returns-in-Err-clause-stopped
operand-returns-in-Err-clause-stopped t c =
    let b = c.brackets_end-start.ensures in
    let run : Run c.args.self.now.toks.now c.args.at c.brackets_end-start.result = record { after = b.bounds.0; within = b.bounds.1; brackets = b.brackets } in
    out_of_all c.args.self.now.toks.now c.args.room c.in-Err.e run c.in-Err.ensures.stopped

pub operand-returns-in-Err-rest-clause-stopped : goal.operand-returns-in-Err-rest-clause-stopped
operand-returns-in-Err-rest-clause-stopped t c =
    let i = c.brackets.invariant in
    stops_inside c.args.self.now.toks.now c.args.room c.brackets-test.true i.run c.in-Err-rest.e (c.in-Err-rest.ensures.stopped c.brackets.start i.read)

pub operand-returns-then-not-is_symbol-clause-stopped : goal.operand-returns-then-not-is_symbol-clause-stopped
operand-returns-then-not-is_symbol-clause-stopped t c =
    let i = c.brackets.invariant in
    not_closed c.args.self.now.toks.now c.args.room c.brackets-test.true i.run (c.in-Ok-rest.ensures.read c.brackets.start i.read) (c.is_symbol.ensures.no c.if-not-is_symbol.true)

pub operand-brackets-preserved : goal.operand-brackets-preserved
operand-brackets-preserved t c =
    let i = c.brackets.invariant in
    let s = c.in-Ok-rest.ensures.sized in
    let a = i.after in
    let close = c.is_symbol.ensures.yes c.if-not-is_symbol.false in
    closed c.args.self.now.toks.now c.args.room c.brackets-test.true i.run s.1 (omega arith) close.0 (c.in-Ok-rest.ensures.read c.brackets.start i.read) close.1.1

pub rest-returns-in-Err-clause-stopped : goal.rest-returns-in-Err-clause-stopped
rest-returns-in-Err-clause-stopped t c =
    λ at r. no_test c.args.self.now.toks.now c.args.room at c.in-Err.e (c.in-Err.ensures.stopped at r)

pub rest-returns-then-not-is_symbol-clause-read : goal.rest-returns-then-not-is_symbol-clause-read
rest-returns-then-not-is_symbol-clause-read t c =
    λ at r. no_question c.args.self.now.toks.now (c.in-Ok.ensures.read at r) (c.is_symbol.ensures.no c.if-not-is_symbol.true)

pub rest-returns-then-test-room-clause-stopped : goal.rest-returns-then-test-room-clause-stopped
rest-returns-then-test-room-clause-stopped t c =
    let q = c.is_symbol.ensures.yes c.if-not-is_symbol.false in
    let d = c.in-Ok.ensures.sized.1.depth in
    λ at r. deep_question c.args.self.now.toks.now (c.in-Ok.ensures.read at r) q.1.1 (let g = c.if-test-room.true in omega arith)

pub signed-returns-then-room-eq0-clause-stopped : goal.signed-returns-then-room-eq0-clause-stopped
signed-returns-then-room-eq0-clause-stopped t c =
    let s = c.requires.sign in
    subst (λ r. TooDeep c.args.self.now.toks.now r (level 0) c.args.at c.args.at) (sym c.if-room-eq0.true) (deep_sign c.args.symbol s.0 s.1 c.requires.on.1)

pub signed-returns-in-Err-clause-stopped : goal.signed-returns-in-Err-clause-stopped
signed-returns-in-Err-clause-stopped t c =
    let s = c.requires.sign in
    stops_signed (let h = c.if-room-eq0.false in omega arith) c.args.symbol c.in-Err.e s.0 s.1 c.requires.on.1 c.in-Err.ensures.stopped

pub signed-returns-in-Ok-unary-clause-read : goal.signed-returns-in-Ok-unary-clause-read
signed-returns-in-Ok-unary-clause-read t c =
    let s = c.requires.sign in
    subst (Reads c.args.self.now.toks.now c.args.room (level 0) c.args.at c.in-Ok.operand.end) (sym c.in-Ok-unary.ensures.made) (reads_signed (let h = c.if-room-eq0.false in omega arith) c.args.symbol s.0 s.1 c.requires.on.1 c.in-Ok.ensures.read)

pub variable-returns-then-room-eq0-clause-stopped : goal.variable-returns-then-room-eq0-clause-stopped
variable-returns-then-room-eq0-clause-stopped t c =
    subst (λ r. TooDeep c.args.self.now.toks.now r (level 0) c.args.at c.args.at) (sym c.if-room-eq0.true) (deep_name c.requires.on.1)

pub variable-returns-then-room-eq0-clause-no_lval : goal.variable-returns-then-room-eq0-clause-no_lval
variable-returns-then-room-eq0-clause-no_lval t c =
    subst (λ r. TooDeep c.args.self.now.toks.now r lval c.args.at c.args.at) (sym c.if-room-eq0.true) (deep_variable c.requires.on.1)

pub variable-returns-then-not-is_symbol-clause-read : goal.variable-returns-then-not-is_symbol-clause-read
variable-returns-then-not-is_symbol-clause-read t c =
    let h : 1 ≤ c.args.room = let g = c.if-room-eq0.false in omega arith in
    let on = c.requires.on.1 in
    let e : c.args.at + 2 ≡ c.args.at + 1 + 1 = omega arith in
    subst (Reads c.args.self.now.toks.now c.args.room (level 0) c.args.at (c.args.at + 1)) (sym c.name.ensures.made) (subst (λ x. Reads c.args.self.now.toks.now c.args.room (level 0) c.args.at (c.args.at + 1) (plain.expression (plain.name x) c.args.pos)) (sym c.in-Ok.ensures) (reads_name h on (c.is_symbol.ensures.no c.if-not-is_symbol.true)))

pub variable-returns-then-not-is_symbol-clause-lval : goal.variable-returns-then-not-is_symbol-clause-lval
variable-returns-then-not-is_symbol-clause-lval t c =
    let h : 1 ≤ c.args.room = let g = c.if-room-eq0.false in omega arith in
    let on = c.requires.on.1 in
    let e : c.args.at + 2 ≡ c.args.at + 1 + 1 = omega arith in
    subst (Reads c.args.self.now.toks.now c.args.room lval c.args.at (c.args.at + 1)) (sym c.name.ensures.made) (subst (λ x. Reads c.args.self.now.toks.now c.args.room lval c.args.at (c.args.at + 1) (plain.expression (plain.name x) c.args.pos)) (sym c.in-Ok.ensures) (reads_variable h on (c.is_symbol.ensures.no c.if-not-is_symbol.true)))

pub variable-returns-in-Err-expression-clause-stopped : goal.variable-returns-in-Err-expression-clause-stopped
variable-returns-in-Err-expression-clause-stopped t c =
    let h : 1 ≤ c.args.room = let g = c.if-room-eq0.false in omega arith in
    let on = c.requires.on.1 in
    let e : c.args.at + 2 ≡ c.args.at + 1 + 1 = omega arith in
    let opened = c.is_symbol.ensures.yes c.if-not-is_symbol.false in
    stops_element h on opened.1.1 c.in-Err-expression.e (subst (λ i. Stopped c.args.self.now.toks.now (c.args.room - 1) expr i c.in-Err-expression.e) e c.in-Err-expression.ensures.stopped)

pub variable-returns-in-Err-expression-clause-no_lval : goal.variable-returns-in-Err-expression-clause-no_lval
variable-returns-in-Err-expression-clause-no_lval t c =
    let h : 1 ≤ c.args.room = let g = c.if-room-eq0.false in omega arith in
    let on = c.requires.on.1 in
    let e : c.args.at + 2 ≡ c.args.at + 1 + 1 = omega arith in
    let opened = c.is_symbol.ensures.yes c.if-not-is_symbol.false in
    stops_place h on opened.1.1 c.in-Err-expression.e (subst (λ i. Stopped c.args.self.now.toks.now (c.args.room - 1) expr i c.in-Err-expression.e) e c.in-Err-expression.ensures.stopped)

pub variable-returns-then-not-is_symbol-2-clause-stopped : goal.variable-returns-then-not-is_symbol-2-clause-stopped
variable-returns-then-not-is_symbol-2-clause-stopped t c =
    let h : 1 ≤ c.args.room = let g = c.if-room-eq0.false in omega arith in
    let on = c.requires.on.1 in
    let e : c.args.at + 2 ≡ c.args.at + 1 + 1 = omega arith in
    let opened = c.is_symbol.ensures.yes c.if-not-is_symbol.false in
    open_element h on opened.1.1 (subst (λ i. Reads c.args.self.now.toks.now (c.args.room - 1) expr i c.in-Ok-expression.place.end (expression_of c.in-Ok-expression.place.tree)) e c.in-Ok-expression.ensures.read) (c.is_symbol-2.ensures.no c.if-not-is_symbol-2.true)

pub variable-returns-then-not-is_symbol-2-clause-no_lval : goal.variable-returns-then-not-is_symbol-2-clause-no_lval
variable-returns-then-not-is_symbol-2-clause-no_lval t c =
    let h : 1 ≤ c.args.room = let g = c.if-room-eq0.false in omega arith in
    let on = c.requires.on.1 in
    let e : c.args.at + 2 ≡ c.args.at + 1 + 1 = omega arith in
    let opened = c.is_symbol.ensures.yes c.if-not-is_symbol.false in
    open_place h on opened.1.1 (subst (λ i. Reads c.args.self.now.toks.now (c.args.room - 1) expr i c.in-Ok-expression.place.end (expression_of c.in-Ok-expression.place.tree)) e c.in-Ok-expression.ensures.read) (c.is_symbol-2.ensures.no c.if-not-is_symbol-2.true)

pub variable-returns-in-Ok-index-clause-read : goal.variable-returns-in-Ok-index-clause-read
variable-returns-in-Ok-index-clause-read t c =
    let h : 1 ≤ c.args.room = let g = c.if-room-eq0.false in omega arith in
    let on = c.requires.on.1 in
    let e : c.args.at + 2 ≡ c.args.at + 1 + 1 = omega arith in
    let opened = c.is_symbol.ensures.yes c.if-not-is_symbol.false in
    let close = c.is_symbol-2.ensures.yes c.if-not-is_symbol-2.false in
    let r = subst (λ i. Reads c.args.self.now.toks.now (c.args.room - 1) expr i c.in-Ok-expression.place.end (expression_of c.in-Ok-expression.place.tree)) e c.in-Ok-expression.ensures.read in
    subst (Reads c.args.self.now.toks.now c.args.room (level 0) c.args.at (c.in-Ok-expression.place.end + 1)) (sym c.in-Ok-index.ensures.made) (subst (λ x. Reads c.args.self.now.toks.now c.args.room (level 0) c.args.at (c.in-Ok-expression.place.end + 1) (plain.expression (plain.index x (expression_of c.in-Ok-expression.place.tree)) c.args.pos)) (sym c.in-Ok.ensures) (reads_element h on opened.1.1 r close.1.1))

pub variable-returns-in-Ok-index-clause-lval : goal.variable-returns-in-Ok-index-clause-lval
variable-returns-in-Ok-index-clause-lval t c =
    let h : 1 ≤ c.args.room = let g = c.if-room-eq0.false in omega arith in
    let on = c.requires.on.1 in
    let e : c.args.at + 2 ≡ c.args.at + 1 + 1 = omega arith in
    let opened = c.is_symbol.ensures.yes c.if-not-is_symbol.false in
    let close = c.is_symbol-2.ensures.yes c.if-not-is_symbol-2.false in
    let r = subst (λ i. Reads c.args.self.now.toks.now (c.args.room - 1) expr i c.in-Ok-expression.place.end (expression_of c.in-Ok-expression.place.tree)) e c.in-Ok-expression.ensures.read in
    subst (Reads c.args.self.now.toks.now c.args.room lval c.args.at (c.in-Ok-expression.place.end + 1)) (sym c.in-Ok-index.ensures.made) (subst (λ x. Reads c.args.self.now.toks.now c.args.room lval c.args.at (c.in-Ok-expression.place.end + 1) (plain.expression (plain.index x (expression_of c.in-Ok-expression.place.tree)) c.args.pos)) (sym c.in-Ok.ensures) (reads_place h on opened.1.1 r close.1.1))

pub choice-returns-in-Err-choice-clause-stopped : goal.choice-returns-in-Err-choice-clause-stopped
choice-returns-in-Err-choice-clause-stopped t c = λ at r. memory_stops c.args.self.now.toks.now c.args.room expr at c.in-Err-choice.ensures.memory

pub climb-returns-in-Err-binary-clause-stopped : goal.climb-returns-in-Err-binary-clause-stopped
climb-returns-in-Err-binary-clause-stopped t c = λ at r. memory_stops c.args.self.now.toks.now c.args.room (level c.args.level) at c.in-Err-binary.ensures.memory

pub signed-returns-in-Err-unary-clause-stopped : goal.signed-returns-in-Err-unary-clause-stopped
signed-returns-in-Err-unary-clause-stopped t c = memory_stops c.args.self.now.toks.now c.args.room (level 0) c.args.at c.in-Err-unary.ensures.memory

pub cast-returns-in-Err-cast-clause-stopped : goal.cast-returns-in-Err-cast-clause-stopped
cast-returns-in-Err-cast-clause-stopped t c = memory_stops c.args.self.now.toks.now c.args.room (level 0) c.args.at c.in-Err-cast.ensures.memory

pub variable-returns-in-Err-index-clause-stopped : goal.variable-returns-in-Err-index-clause-stopped
variable-returns-in-Err-index-clause-stopped t c = memory_stops c.args.self.now.toks.now c.args.room (level 0) c.args.at c.in-Err-index.ensures.memory

pub variable-returns-in-Err-index-clause-no_lval : goal.variable-returns-in-Err-index-clause-no_lval
variable-returns-in-Err-index-clause-no_lval t c = memory_stops c.args.self.now.toks.now c.args.room lval c.args.at c.in-Err-index.ensures.memory
