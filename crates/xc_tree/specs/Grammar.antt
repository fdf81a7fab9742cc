-- The grammar: the alternatives of each symbol.
use Rattle.std.specs.Prelude.{ℕ, zero, suc, ◌-◌, Bool, true, false, not, List, [], ◌∷◌, map, slice_get, Option, Some, None}
use Rattle.xw_words.specs.declared.pos.Pos.{Pos}
use Rattle.xc_tree.specs.declared.tree.Id.{Id}
use Rattle.xc_tree.specs.declared.tree.ParamKind.TheVariants as kind
use Rattle.xc_tree.specs.declared.tree.TreeDir.TheVariants.{In, Out, Both}
use Rattle.xc_tree.specs.Plain as plain
use Rattle.xc_tree.specs.Symbol.{Symbol, sym, key, a_name, a_number, many, maybe, commas, program, item, portdecl, dir, place, place_value, head, result, word, params, param, body, block, block_item, decl, dv, initial, statement, closed, case_item, for_start, for_step, branch, case, guard, assign, assign_op, rhs, call, arguments, argument, lval, output, input, time, stamp, waits, test, dest, expr, level, operator, sign, atom, Value, Values, Marked, Waits, at_once, at_time, when_true, Declarator, a_word, an_array}
use Rattle.xc_tree.specs.Symbols as symbols
use Rattle.xc_tree.specs.Words as words
use Rattle.xc_tree.specs.Terminals.{paren, end_paren, brace, end_brace, bracket, end_bracket, semicolon, comma, colon, question, ampersand, below, equals, at_sign, sends, receives, arrow, plus_plus, minus_minus, break_word, case_word, chan_word, chanend_word, continue_word, default_word, do_word, else_word, for_word, if_word, in_word, int_word, master_word, on_word, out_word, par_word, port_word, pinseq_word, pinsneq_word, return_word, select_word, slave_word, stdcore_word, tile_word, timer_word, timerafter_word, unsigned_word, void_word, when_word, while_word}

-- the tokens that a symbol is derived from: the first and the last of them, and how many they are
pub record Extent : Type 0 where
  pub first : Pos
  pub last : Pos
  pub count : ℕ

-- An alternative: its symbols, what their values must fulfil, the nodes of the tree that it makes, and its value. Brackets, the name
-- of a call and the name of a transfer are no nodes. So where no node has room inside a statement, `f(`, `p <:` and `p @` go on, and
-- the next token decides. `x =`, `x[` and `x++` are too deep at their second token, since an assignment names a variable, which is a
-- node. A `(` that opens brackets goes on, and what stands behind it is too deep.
pub record Rule (V : Type 0) : Type 0 where
  pub parts : List Symbol
  pub fits : Values parts → Bool
  pub nodes : ℕ
  pub make : Extent → Values parts → V

-- an alternative that makes no node
abbrev pub gives : {V : Type 0} (parts : List Symbol) → (Values parts → V) → Rule V
gives parts f = record { parts = parts; fits = λ x. true; nodes = 0; make = λ e x. f x }

-- an alternative that makes a node of an expression
abbrev pub makes : (parts : List Symbol) → (Values parts → plain.Expression) → Rule plain.Expression
makes parts f = record { parts = parts; fits = λ x. true; nodes = 1; make = λ e x. f x }

abbrev pub statement_of : Extent → plain.Action → plain.Statement
statement_of e a = plain.statement a e.first e.last (e.count - plain.held a)

-- an alternative that makes a node of a statement
abbrev pub does : (parts : List Symbol) → (Values parts → plain.Action) → Rule plain.Statement
does parts f = record { parts = parts; fits = λ x. true; nodes = 1; make = λ e x. statement_of e (f x) }

-- an alternative with a condition
abbrev pub only : {V : Type 0} (s : Symbol) → (Value s → Bool) → (Value s → V) → Rule V
only s p f = record { parts = s ∷ []; fits = λ x. p x.0; nodes = 0; make = λ e x. f x.0 }

-- the items that are no prototypes
abbrev pub kept : List (Option plain.Item) → List plain.Item
kept [] = []
kept (None ∷ is) = kept is
kept (Some i ∷ is) = i ∷ kept is

-- the declaration of a name, by what it is
abbrev pub named : plain.Kind → Id → plain.Declaration
named k n = record { kind = k; name = n }

-- the declaration of a word or an array of words
abbrev pub declared : Bool → Declarator → plain.Declaration
declared u (a_word n r) = named (plain.word u r) n
declared u (an_array n l p) = named (plain.array u l p) n

-- the time and the condition of an input
abbrev pub time_of : Waits → Option plain.Timing
time_of at_once = None
time_of (at_time t) = Some t
time_of (when_true c) = None

abbrev pub condition_of : Waits → Option plain.Condition
condition_of at_once = None
condition_of (at_time t) = None
condition_of (when_true c) = Some c

abbrev at : Pos → plain.Form → plain.Expression
at p f = plain.expression f p

-- one of some tokens
abbrev pub one_of : List ℕ → List (Rule Marked)
one_of [] = []
one_of (o ∷ os) = gives (sym o ∷ []) (λ (p, u). record { mark = o; pos = p }) ∷ one_of os

-- The operators by level: none at 0; `* / %`, `+ -`, `<< >>`, `< <= > >=`, `== !=`, `&`, `^`, `|`, `&&` and `||`.
abbrev pub by_level : List (List ℕ)
by_level =
    [] ∷ (symbols.star ∷ symbols.slash ∷ symbols.percent ∷ []) ∷ (symbols.plus ∷ symbols.minus ∷ [])
    ∷ (symbols.shift_up ∷ symbols.shift_down ∷ [])
    ∷ (symbols.below ∷ symbols.below_equals ∷ symbols.above ∷ symbols.above_equals ∷ [])
    ∷ (symbols.equals_equals ∷ symbols.bang_equals ∷ []) ∷ (symbols.ampersand ∷ []) ∷ (symbols.caret ∷ []) ∷ (symbols.bar ∷ [])
    ∷ (symbols.and_and ∷ []) ∷ (symbols.or_or ∷ []) ∷ []

abbrev pub or_none : Option (List ℕ) → List ℕ
or_none None = []
or_none (Some os) = os

abbrev pub operators : ℕ → List ℕ
operators m = or_none (slice_get by_level m)

-- the alternatives of a symbol
abbrev pub rules : (s : Symbol) → List (Rule (Value s))
rules (sym o) = []
rules (key w) = []
rules a_name = []
rules a_number = []
rules (many s) =
    gives [] (λ u. []) ∷
    gives (s ∷ many s ∷ []) (λ (x, (xs, u)). x ∷ xs) ∷ []
rules (maybe s) =
    gives [] (λ u. None) ∷
    gives (s ∷ []) (λ (x, u). Some x) ∷ []
rules (commas s) =
    gives (s ∷ []) (λ (x, u). x ∷ []) ∷
    gives (s ∷ comma ∷ commas s ∷ []) (λ (x, (p, (xs, u))). x ∷ xs) ∷ []
-- A prototype gives no item, so a text of prototypes alone is an empty program. Nothing in it is compared with the function.
rules program =
    gives (many item ∷ []) (λ (is, u). kept is) ∷ []
rules item =
    gives (portdecl ∷ []) (λ (p, u). Some (plain.port p)) ∷
    gives (head ∷ body ∷ []) (λ (h, (b, u)). Some (plain.function h b)) ∷
    gives (head ∷ semicolon ∷ []) (λ x. None) ∷ []
rules portdecl =
    gives (maybe place ∷ dir ∷ a_name ∷ equals ∷ a_name ∷ semicolon ∷ [])
    (λ (p, (d, (n, (q, (i, u))))). record { place = p; dir = d; name = n; ident = i }) ∷ []
rules dir =
    gives (in_word ∷ port_word ∷ []) (λ x. In) ∷
    gives (out_word ∷ port_word ∷ []) (λ x. Out) ∷
    gives (port_word ∷ []) (λ x. Both) ∷ []
rules place =
    gives (on_word ∷ stdcore_word ∷ bracket ∷ place_value ∷ end_bracket ∷ colon ∷ [])
    (λ (p, (w, (q, (v, u)))). record { on = p; first = v.first; value = v.value }) ∷
    gives (on_word ∷ tile_word ∷ bracket ∷ place_value ∷ end_bracket ∷ colon ∷ [])
    (λ (p, (w, (q, (v, u)))). record { on = p; first = v.first; value = v.value }) ∷ []
rules place_value =
    record { parts = expr ∷ []; fits = λ x. true; nodes = 0; make = λ e x. record { value = x.0; first = e.first } } ∷ []
rules head =
    record {
      parts = result ∷ a_name ∷ paren ∷ params ∷ end_paren ∷ [];
      fits = λ x. true;
      nodes = 0;
      make = λ e (r, (n, (p, (ps, u)))). record { result = r; name = n; params = ps; own = e.count };
    } ∷ []
rules result =
    gives (void_word ∷ []) (λ x. None) ∷
    gives (word ∷ []) (λ (w, u). Some w) ∷ []
rules word =
    gives (int_word ∷ []) (λ x. false) ∷
    gives (unsigned_word ∷ []) (λ x. true) ∷
    gives (unsigned_word ∷ int_word ∷ []) (λ x. true) ∷ []
-- `int main()` has the same tree as `int main(void)`.
rules params =
    gives [] (λ u. []) ∷
    gives (void_word ∷ []) (λ x. []) ∷
    gives (commas param ∷ []) (λ (ps, u). ps) ∷ []
rules param =
    gives (word ∷ a_name ∷ []) (λ (w, (n, u)). record { kind = kind.Value w; name = n }) ∷
    gives (word ∷ ampersand ∷ a_name ∷ []) (λ (w, (p, (n, u))). record { kind = kind.Ref w; name = n }) ∷
    gives (word ∷ a_name ∷ bracket ∷ end_bracket ∷ []) (λ (w, (n, u)). record { kind = kind.Array w None; name = n }) ∷
    gives (word ∷ a_name ∷ bracket ∷ a_number ∷ end_bracket ∷ [])
    (λ (w, (n, (p, (k, u)))). record { kind = kind.Array w (Some (k.value, k.pos)); name = n }) ∷
    gives (chanend_word ∷ a_name ∷ []) (λ (p, (n, u)). record { kind = kind.End false; name = n }) ∷
    gives (dir ∷ a_name ∷ []) (λ (d, (n, u)). record { kind = kind.Port d; name = n }) ∷ []
rules body =
    does (block ∷ []) (λ (ss, u). plain.block (plain.statements ss)) ∷ []
rules block =
    gives (brace ∷ many block_item ∷ end_brace ∷ []) (λ (p, (ss, u)). ss) ∷ []
rules block_item =
    gives (decl ∷ []) (λ (s, u). s) ∷
    gives (statement ∷ []) (λ (s, u). s) ∷ []
rules decl =
    does (word ∷ commas dv ∷ semicolon ∷ []) (λ (w, (ds, u)). plain.declare (map (declared w) ds)) ∷
    does (chan_word ∷ commas a_name ∷ semicolon ∷ []) (λ (p, (ns, u)). plain.declare (map (named (plain.channel false)) ns)) ∷
    does (timer_word ∷ commas a_name ∷ semicolon ∷ []) (λ (p, (ns, u)). plain.declare (map (named plain.timer) ns)) ∷ []
rules dv =
    gives (a_name ∷ maybe initial ∷ []) (λ (n, (r, u)). a_word n r) ∷
    gives (a_name ∷ bracket ∷ a_number ∷ end_bracket ∷ []) (λ (n, (p, (k, u))). an_array n k.value k.pos) ∷ []
rules initial =
    gives (equals ∷ rhs ∷ []) (λ (p, (r, u)). r) ∷ []
rules statement =
    does (semicolon ∷ []) (λ x. plain.empty) ∷
    does (block ∷ []) (λ (ss, u). plain.block (plain.statements ss)) ∷
    does (assign ∷ semicolon ∷ []) (λ (a, u). a) ∷
    does (call ∷ semicolon ∷ []) (λ (c, u). plain.perform (plain.result c)) ∷
    does (output ∷ semicolon ∷ []) (λ (o, u). plain.output o) ∷
    does (input ∷ semicolon ∷ []) (λ (i, u). plain.input i) ∷
    does (if_word ∷ paren ∷ expr ∷ end_paren ∷ statement ∷ [])
    (λ (p, (q, (c, (r, (s, u))))). plain.if_then c s plain.absent) ∷
    does (if_word ∷ paren ∷ expr ∷ end_paren ∷ closed ∷ else_word ∷ statement ∷ [])
    (λ (p, (q, (c, (r, (s, (l, (o, u))))))). plain.if_then c s (plain.present o)) ∷
    does (while_word ∷ paren ∷ expr ∷ end_paren ∷ statement ∷ [])
    (λ (p, (q, (c, (r, (s, u))))). plain.while_loop c s) ∷
    does (do_word ∷ statement ∷ while_word ∷ paren ∷ expr ∷ end_paren ∷ semicolon ∷ [])
    (λ (p, (s, (w, (q, (c, u))))). plain.do_while s c) ∷
    does (for_word ∷ paren ∷ maybe for_start ∷ semicolon ∷ maybe expr ∷ semicolon ∷ maybe for_step ∷ end_paren ∷ statement ∷ [])
    (λ (p, (q, (a, (r, (c, (t, (b, (v, (s, u))))))))). plain.for_loop (plain.maybe a) c (plain.maybe b) s) ∷
    does (return_word ∷ maybe rhs ∷ semicolon ∷ []) (λ (p, (r, u)). plain.return_with r) ∷
    does (break_word ∷ semicolon ∷ []) (λ x. plain.break_out) ∷
    does (continue_word ∷ semicolon ∷ []) (λ x. plain.continue_on) ∷
    does (par_word ∷ brace ∷ many branch ∷ end_brace ∷ []) (λ (p, (q, (bs, u))). plain.par (plain.branches bs)) ∷
    does (par_word ∷ paren ∷ int_word ∷ a_name ∷ equals ∷ a_number ∷ semicolon ∷ a_name ∷ below ∷ a_number ∷ semicolon ∷ a_name ∷ plus_plus ∷ end_paren ∷ branch ∷ [])
    (λ (p, (q, (i, (a, (e, (f, (s, (b, (l, (g, (t, (c, (d, (r, (m, u))))))))))))))). plain.replicated a b c f.value g.value m) ∷
    does (select_word ∷ brace ∷ case ∷ many case ∷ end_brace ∷ [])
    (λ (p, (q, (c, (cs, u)))). plain.select (plain.more_cases c (plain.cases cs))) ∷
    does (master_word ∷ block ∷ []) (λ (p, (ss, u)). plain.transaction true (plain.statements ss)) ∷
    does (slave_word ∷ block ∷ []) (λ (p, (ss, u)). plain.transaction false (plain.statements ss)) ∷ []
-- A statement to which a following `else` doesn't belong. So an `else` belongs to the nearest `if`.
rules closed =
    only statement (λ s. not (plain.is_open s)) (λ s. s) ∷ []
-- What stands directly in a case. No statement there is `break ;`, so a case ends at its first one.
rules case_item =
    gives (decl ∷ []) (λ (s, u). s) ∷
    only statement (λ s. not (plain.is_break s)) (λ s. s) ∷ []
rules for_start =
    does (assign ∷ []) (λ (a, u). a) ∷
    does (word ∷ a_name ∷ equals ∷ rhs ∷ [])
    (λ (w, (n, (p, (r, u)))). plain.declare (named (plain.word w (Some r)) n ∷ [])) ∷ []
rules for_step =
    does (assign ∷ []) (λ (a, u). a) ∷ []
rules branch =
    gives (maybe place ∷ statement ∷ []) (λ (p, (s, u)). plain.branch p s) ∷ []
rules case =
    gives (case_word ∷ maybe guard ∷ input ∷ colon ∷ many case_item ∷ break_word ∷ semicolon ∷ [])
    (λ (p, (g, (i, (q, (ss, u))))). plain.case p g (Some i) (plain.statements ss)) ∷
    gives (default_word ∷ colon ∷ many case_item ∷ break_word ∷ semicolon ∷ [])
    (λ (p, (q, (ss, u))). plain.case p None None (plain.statements ss)) ∷ []
rules guard =
    gives (expr ∷ arrow ∷ []) (λ (e, u). e) ∷ []
rules assign =
    gives (lval ∷ equals ∷ rhs ∷ []) (λ (l, (p, (r, u))). plain.assign l symbols.equals p r) ∷
    gives (lval ∷ assign_op ∷ expr ∷ []) (λ (l, (o, (e, u))). plain.assign l o.mark o.pos (plain.value e)) ∷
    gives (lval ∷ plus_plus ∷ []) (λ (l, u). plain.step l symbols.plus_plus) ∷
    gives (lval ∷ minus_minus ∷ []) (λ (l, u). plain.step l symbols.minus_minus) ∷ []
rules assign_op = one_of
    (symbols.plus_equals ∷ symbols.minus_equals ∷ symbols.star_equals ∷ symbols.slash_equals ∷ symbols.percent_equals
    ∷ symbols.ampersand_equals ∷ symbols.bar_equals ∷ symbols.caret_equals ∷ symbols.shift_up_equals ∷ symbols.shift_down_equals ∷ [])
rules rhs =
    gives (expr ∷ []) (λ (e, u). plain.value e) ∷
    gives (call ∷ []) (λ (c, u). plain.result c) ∷ []
rules call =
    gives (a_name ∷ paren ∷ arguments ∷ end_paren ∷ []) (λ (n, (p, (xs, u))). record { called = n; arguments = xs }) ∷ []
rules arguments =
    gives [] (λ u. []) ∷
    gives (commas argument ∷ []) (λ (xs, u). xs) ∷ []
rules argument =
    record { parts = expr ∷ []; fits = λ x. true; nodes = 0; make = λ e x. record { value = x.0; first = e.first } } ∷ []
rules lval =
    makes (a_name ∷ []) (λ (n, u). at n.pos (plain.name n.text)) ∷
    makes (a_name ∷ bracket ∷ expr ∷ end_bracket ∷ []) (λ (n, (p, (e, u))). at n.pos (plain.index n.text e)) ∷ []
rules output =
    gives (a_name ∷ maybe time ∷ sends ∷ expr ∷ maybe stamp ∷ [])
    (λ (n, (t, (p, (e, (s, u))))). record { name = n; time = t; value = e; stamp = s }) ∷ []
rules input =
    gives (a_name ∷ waits ∷ receives ∷ dest ∷ maybe stamp ∷ [])
    (λ (n, (w, (p, (d, (s, u))))). record { name = n; time = time_of w; condition = condition_of w; target = d; stamp = s }) ∷ []
rules time =
    gives (at_sign ∷ expr ∷ []) (λ (p, (e, u)). record { at = p; value = e }) ∷ []
rules stamp =
    gives (at_sign ∷ lval ∷ []) (λ (p, (e, u)). record { at = p; value = e }) ∷ []
rules waits =
    gives [] (λ u. at_once) ∷
    gives (time ∷ []) (λ (t, u). at_time t) ∷
    gives (when_word ∷ test ∷ paren ∷ expr ∷ end_paren ∷ [])
    (λ (p, (t, (q, (e, u)))). when_true (record { at = p; test = t; value = e })) ∷ []
rules test =
    gives (pinseq_word ∷ []) (λ x. words.pinseq_word) ∷
    gives (pinsneq_word ∷ []) (λ x. words.pinsneq_word) ∷
    gives (timerafter_word ∷ []) (λ x. words.timerafter_word) ∷ []
rules dest =
    gives (lval ∷ []) (λ (e, u). plain.to e) ∷
    gives (void_word ∷ []) (λ x. plain.dropped) ∷
    gives (word ∷ a_name ∷ []) (λ (w, (n, u)). plain.fresh w n) ∷ []
rules expr =
    gives (level 10 ∷ []) (λ (e, u). e) ∷
    makes (level 10 ∷ question ∷ expr ∷ colon ∷ expr ∷ []) (λ (c, (p, (a, (q, (b, u))))). at p (plain.choice c a b)) ∷ []
rules (level zero) =
    gives (atom ∷ []) (λ (e, u). e) ∷
    makes (sign ∷ level 0 ∷ []) (λ (o, (e, u)). at o.pos (plain.unary o.mark e)) ∷
    makes (paren ∷ int_word ∷ end_paren ∷ level 0 ∷ []) (λ (p, (w, (q, (e, u)))). at p (plain.cast false e)) ∷
    makes (paren ∷ unsigned_word ∷ end_paren ∷ level 0 ∷ []) (λ (p, (w, (q, (e, u)))). at p (plain.cast true e)) ∷ []
rules (level (suc m)) =
    gives (level m ∷ []) (λ (e, u). e) ∷
    makes (level (suc m) ∷ operator (suc m) ∷ level m ∷ [])
    (λ (a, (o, (b, u))). at o.pos (plain.binary o.mark a b)) ∷ []
rules (operator m) = one_of (operators m)
rules sign = one_of (symbols.minus ∷ symbols.plus ∷ symbols.tilde ∷ symbols.bang ∷ [])
rules atom =
    makes (a_number ∷ []) (λ (n, u). at n.pos (plain.number n.value n.is_unsigned)) ∷
    makes (a_name ∷ []) (λ (n, u). at n.pos (plain.name n.text)) ∷
    makes (a_name ∷ bracket ∷ expr ∷ end_bracket ∷ []) (λ (n, (p, (e, u))). at n.pos (plain.index n.text e)) ∷
    gives (paren ∷ expr ∷ end_paren ∷ []) (λ (p, (e, u)). e) ∷ []
