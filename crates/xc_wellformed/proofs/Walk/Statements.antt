-- Statements, functions and calls of a typed program's copy.
use Rattle.std.proofs.Common.{◌≡◌, ℕ, zero, suc, ◌+◌, ◌-◌, Bool, true, false, List, [], ◌∷◌, ◌++◌, length, Option, Some, None, nat_eq, is_some, refl, sym, subst, ◌∙◌, true≢false}
use Rattle.xw_words.specs.declared.pos.Pos.{Pos}
use Rattle.xc_tree.specs.declared.names.Decl.{Decl}
use Rattle.xc_tree.specs.declared.names.What.TheVariants as what
use Rattle.xc_tree.specs.declared.names.Mark.TheVariants.{Closes, Uses}
use Rattle.xc_tree.specs.Plain as tree
use Rattle.xc_tree.specs.Names.Marks as marks
use Rattle.xc_tree.specs.Types.Named.{NamedProgram, past}
use Rattle.xc_tree.specs.Types.Calls.{arguments}
use Rattle.xc_tree.specs.Types.Sites.{Site}
use Rattle.xc_tree.specs.Types.Sites as site
use Rattle.xc_tree.specs.Shapes.Enclosing.{Enclosing, a_block, an_if, a_loop, a_case, a_branch, a_transaction, inside, in_block_of, in_transaction}
use Rattle.xc_kernel.specs.declared.kernel.PortUse.{PortUse}
use Rattle.xc_kernel.specs.Plain as kernel
use Rattle.xc_tree.specs.Symbols.{equals}
use Rattle.xc_kernel.specs.Paths.{Path, path_at}
use Rattle.xc_kernel.specs.Numbering.{Numbering, channel_number}
use Rattle.xc_kernel.specs.Scopes.{Scope, entity_of}
use Rattle.xc_kernel.specs.Programs.{Function, function_named}
use Rattle.xc_kernel.specs.Copy.{joined, with_code}
use Rattle.xc_kernel.specs.Context.{Context, in_branch, in_loop, in_case, in_function, expression, maybe_expression, place}
use Rattle.xc_kernel.specs.Parameters.{all_passed}
use Rattle.xc_kernel.specs.Calls.{CopiesCall, result_copy, function_copy, path_of_call}
use Rattle.xc_kernel.specs.Transfers.{input_names}
use Rattle.xc_kernel.specs.Flow.{first_of, test_or_true, leave_unless, case_scope}
use Rattle.xc_kernel.specs.Statements.{statement_copy, action_copy, maybe_copy, statements_copy, branch_copy, branches_copy, cases_copy, calls_copy}
use Rattle.xc_wellformed.specs.Stacks.{Frame, Stack, with_decl, after, Resolves}
use Rattle.xc_wellformed.specs.Denotes.{HasVariable}
use Rattle.xc_wellformed.specs.Each.{EachCase, EachDefault}
use Rattle.xc_wellformed.proofs.Shaped.{ShapedArguments, ShapedStatement, ShapedAction, ShapedMaybe, ShapedStatements, ShapedBranch, ShapedBranches, ShapedCases, Deep}
use Rattle.xc_wellformed.proofs.Talks.{one_talks, silent_both, silent_expression, silent_lval, silent_right, silent_maybe_right, silent_maybe_expression, silent_declarations, output_talks, input_talks, CallsSilent, calls_silent, right_names_none, assign_names_none, return_names_none, declarations_name_none}
use Rattle.xc_meaning.proofs.Recursion.Scopes as scopes
use Rattle.xc_wellformed.proofs.Stacks.{after_both, resolves_both, scope_ends, quiet_split, quiet_skip, quiet_after, quiet_both, quiet_optional, quiet_expression, quiet_right, quiet_timing, quiet_place}
use Rattle.xc_wellformed.proofs.Walk.Arguments.{AllIn, split, both, AllFit, IsFine}
use Rattle.xc_wellformed.proofs.Walk.Arguments as walk
use Rattle.xc_wellformed.proofs.Walk.Parts as part

module _ (n : NamedProgram) (fs : List Function) (ps : List PortUse) (num : Numbering) (H J : ℕ → Path → Type 0) (here : ℕ) where
  module _ (X V : tree.Expression → Type 0) (S : ℕ → Type 0) (E F : kernel.Expression → Type 0) (L : kernel.Place → Type 0) (Z : ℕ → Type 0) (O : kernel.Output → Type 0) (I : kernel.Input → Type 0) (T : ℕ → Type 0) where
    module _ (leaves : walk.Leaves n fs ps num H J here X V S E F L Z O I T) (gs : Frame) where
      module _ (C : tree.Call → Type 0) (copies : CopiesCall) (calls_are : (walk.CallsWell n fs ps num H J here X V S E F L Z O I T leaves gs) C copies) (mute : CallsSilent copies) where
        mutual
          pub statement_well : (t : tree.Statement) (c : Context) (scope : Scope) (st : Stack) (around : Enclosing) (k : ℕ) → (walk.Sits n fs ps num H J here X V S E F L Z O I T leaves gs) c scope st around → Resolves n k st (marks.of_statement t) → AllIn IsFine (site.of_statement n around k t) → ShapedStatement X V S C t → (walk.Made n fs ps num H J here X V S E F L Z O I T) (statement_copy copies t c scope) → (walk.Well n fs ps num H J here X V S E F L Z O I T) (after st (marks.of_statement t)) (statement_copy copies t c scope)
          statement_well (tree.statement a pos close own) c scope st around k s r g x m = action_well a pos close c scope st around k s r g x m

          action_well : (a : tree.Action) (pos close : Pos) (c : Context) (scope : Scope) (st : Stack) (around : Enclosing) (k : ℕ) → (walk.Sits n fs ps num H J here X V S E F L Z O I T leaves gs) c scope st around → Resolves n k st (marks.of_action a) → AllIn IsFine (site.of_action n around k pos a) → ShapedAction X V S C a → (walk.Made n fs ps num H J here X V S E F L Z O I T) (action_copy copies a pos close c scope) → (walk.Well n fs ps num H J here X V S E F L Z O I T) (after st (marks.of_action a)) (action_copy copies a pos close c scope)
          action_well tree.empty pos close c scope st around k s r g x m = (walk.nothing_well n fs ps num H J here X V S E F L Z O I T leaves gs) c scope st around s
          action_well (tree.block ss) pos close c scope st around k s r g x m =
              let r2 = resolves_both n k ([] ∷ st) (marks.of_statements ss) (Closes ∷ []) r in
              let w = statements_well ss c scope ([] ∷ st) (inside a_block around) k ((walk.with_names n fs ps num H J here X V S E F L Z O I T leaves gs) c scope scope st ([] ∷ st) around (inside a_block around) ((walk.inner_needs n fs ps num H J here X V S E F L Z O I T leaves gs) a_block around) ((walk.in_new n fs ps num H J here) st scope s.known) s) r2.0 g x (record { variables = m.variables; channels = m.channels; timers = m.timers }) in
              (walk.at_stack n fs ps num H J here X V S E F L Z O I T) st _ (action_copy copies (tree.block ss) pos close c scope) (sym (scope_ends st (marks.of_statements ss) (scopes.of_statements ss))) (record { code = w.code; scope = s.known })
          action_well (tree.declare ds) pos close c scope st around k s r g x m = (part.declarations_well n fs ps num H J here X V S E F L Z O I T leaves gs C copies calls_are mute) ds c scope st around k s r g x m
          action_well (tree.assign to symbol spot r) pos close c scope st around k s rs g x m =
              (walk.at_stack n fs ps num H J here X V S E F L Z O I T) st _ (action_copy copies (tree.assign to symbol spot r) pos close c scope) (sym (quiet_after st (marks.of_expression to ++ marks.of_right r) (quiet_both _ _ (quiet_expression to) (quiet_right r))))
              ((part.assign_well n fs ps num H J here X V S E F L Z O I T leaves gs C copies calls_are mute) c scope st around k to symbol spot r (nat_eq symbol equals) s rs g x.0 x.1.0 x.1.1.0 x.1.1.1 m)
          action_well (tree.step to symbol) pos close c scope st around k s r g x m =
              (walk.at_stack n fs ps num H J here X V S E F L Z O I T) st _ (action_copy copies (tree.step to symbol) pos close c scope) (sym (quiet_after st (marks.of_expression to) (quiet_expression to)))
              (record { code = (part.step_well n fs ps num H J here X V S E F L Z O I T leaves gs C copies calls_are mute) c scope st around k to symbol pos s r g x.0 x.1; scope = s.known })
          action_well (tree.perform r) pos close c scope st around k s rs g x m =
              (walk.at_stack n fs ps num H J here X V S E F L Z O I T) st _ (action_copy copies (tree.perform r) pos close c scope) (sym (quiet_after st (marks.of_right r) (quiet_right r)))
              ((part.right_well n fs ps num H J here X V S E F L Z O I T leaves gs C copies calls_are mute) c scope st around k false r s rs g x m).well
          action_well (tree.output o) pos close c scope st around k s r g x m =
              (walk.at_stack n fs ps num H J here X V S E F L Z O I T) st _ (action_copy copies (tree.output o) pos close c scope) (sym (quiet_skip st (marks.optional marks.of_timing o.time) (marks.of_expression o.value ++ marks.optional marks.of_timing o.stamp) (quiet_optional marks.of_timing quiet_timing o.time)
              ∙ quiet_skip st (marks.of_expression o.value) (marks.optional marks.of_timing o.stamp) (quiet_expression o.value) ∙ quiet_after st (marks.optional marks.of_timing o.stamp) (quiet_optional marks.of_timing quiet_timing o.stamp)))
              (record { code = ((part.output_well n fs ps num H J here X V S E F L Z O I T leaves gs C copies calls_are mute) c scope st around k o s r g x, tt); scope = s.known })
          action_well (tree.input i) pos close c scope st around k s r g x m =
              let mi : (walk.Made n fs ps num H J here X V S E F L Z O I T) (input_names c scope i) = record { variables = m.variables; channels = m.channels; timers = m.timers } in
              record { code = ((part.input_well n fs ps num H J here X V S E F L Z O I T leaves gs C copies calls_are mute) c scope st around k i s r g x mi, tt); scope = (part.input_known n fs ps num H J here X V S E F L Z O I T leaves gs C copies calls_are mute) c scope st i s.core_is s.known mi }
          action_well (tree.if_then test a b) pos close c scope st around k s r g x m =
              let ca = statement_copy copies a c scope in
              let k1 = past k (marks.of_expression test) in
              let r1 = quiet_split n k st (marks.of_expression test) (marks.of_statement a ++ marks.of_maybe b) (quiet_expression test) r in
              let r2 = resolves_both n k1 st (marks.of_statement a) (marks.of_maybe b) r1.1 in
              let g1 = split IsFine (site.of_expression n k test) _ g in
              let g2 = split IsFine (site.of_statement n (inside an_if around) k1 a) _ g1.1 in
              let m2 = (walk.made_both n fs ps num H J here X V S E F L Z O I T) ca (maybe_copy copies b c ca.scope) (record { variables = m.variables; channels = m.channels; timers = m.timers }) in
              let su = after st (marks.of_statement a) in
              let w = statement_well a c scope st (inside an_if around) k1 ((walk.with_names n fs ps num H J here X V S E F L Z O I T leaves gs) c scope scope st st around (inside an_if around) ((walk.inner_needs n fs ps num H J here X V S E F L Z O I T leaves gs) an_if around) s.known s) r2.0 g2.0 x.1.0 m2.0 in
              let v = maybe_well b c ca.scope su (inside an_if around) (past k1 (marks.of_statement a)) ((walk.with_names n fs ps num H J here X V S E F L Z O I T leaves gs) c scope ca.scope st su around (inside an_if around) ((walk.inner_needs n fs ps num H J here X V S E F L Z O I T leaves gs) an_if around) w.scope s) r2.1 g2.1 x.1.1 m2.1 in
              (walk.at_stack n fs ps num H J here X V S E F L Z O I T) _ _ (action_copy copies (tree.if_then test a b) pos close c scope)
              (sym (quiet_skip st (marks.of_expression test) (marks.of_statement a ++ marks.of_maybe b) (quiet_expression test) ∙ after_both st (marks.of_statement a) (marks.of_maybe b)))
              (record { code = (((walk.test_at n fs ps num H J here X V S E F L Z O I T leaves gs) c scope st around k test s r1.0 g1.0 x.0, ((walk.as_statements n fs ps num H J here X V S E F L Z O I T) ca.code w.code, (walk.as_statements n fs ps num H J here X V S E F L Z O I T) (maybe_copy copies b c ca.scope).code v.code)), tt); scope = v.scope })
          action_well (tree.while_loop test body) pos close c scope st around k s r g x m =
              let cb = statement_copy copies body (in_loop c pos) scope in
              let k1 = past k (marks.of_expression test) in
              let r1 = quiet_split n k st (marks.of_expression test) (marks.of_statement body) (quiet_expression test) r in
              let g1 = split IsFine (site.of_expression n k test) _ g in
              let w = statement_well body (in_loop c pos) scope st (inside a_loop around) k1 ((walk.sits_in n fs ps num H J here X V S E F L Z O I T leaves gs) c (in_loop c pos) scope scope st st around (inside a_loop around) refl refl refl refl refl ((walk.inner_needs n fs ps num H J here X V S E F L Z O I T leaves gs) a_loop around) s.known s) r1.1 g1.1 x.1 (record { variables = m.variables; channels = m.channels; timers = m.timers }) in
              (walk.at_stack n fs ps num H J here X V S E F L Z O I T) _ _ (action_copy copies (tree.while_loop test body) pos close c scope) (sym (quiet_skip st (marks.of_expression test) (marks.of_statement body) (quiet_expression test)))
              (record { code = ((part.loop_well n fs ps num H J here X V S E F L Z O I T leaves gs C copies calls_are mute) c (path_at c.path pos) (expression c scope test) cb.code [] [] ((walk.test_at n fs ps num H J here X V S E F L Z O I T leaves gs) c scope st around k test s r1.0 g1.0 x.0) w.code tt tt, tt); scope = w.scope })
          action_well (tree.do_while body test) pos close c scope st around k s r g x m =
              let cb = statement_copy copies body (in_loop c pos) scope in
              let k1 = past k (marks.of_statement body) in
              let su = after st (marks.of_statement body) in
              let r1 = resolves_both n k st (marks.of_statement body) (marks.of_expression test) r in
              let g1 = split IsFine (site.of_statement n (inside a_loop around) k body) _ g in
              let w = statement_well body (in_loop c pos) scope st (inside a_loop around) k ((walk.sits_in n fs ps num H J here X V S E F L Z O I T leaves gs) c (in_loop c pos) scope scope st st around (inside a_loop around) refl refl refl refl refl ((walk.inner_needs n fs ps num H J here X V S E F L Z O I T leaves gs) a_loop around) s.known s) r1.0 g1.0 x.0 (record { variables = m.variables; channels = m.channels; timers = m.timers }) in
              let e = (walk.test_at n fs ps num H J here X V S E F L Z O I T leaves gs) c cb.scope su around k1 test ((walk.with_names n fs ps num H J here X V S E F L Z O I T leaves gs) c scope cb.scope st su around around (λ t. t) w.scope s) r1.1 g1.1 x.1 in
              (walk.at_stack n fs ps num H J here X V S E F L Z O I T) _ _ (action_copy copies (tree.do_while body test) pos close c scope) (sym (after_both st (marks.of_statement body) (marks.of_expression test) ∙ quiet_after su (marks.of_expression test) (quiet_expression test)))
              (record {
                code = ((part.loop_well n fs ps num H J here X V S E F L Z O I T leaves gs C copies calls_are mute) c (path_at c.path pos) (kernel.number 1) cb.code (leave_unless c (path_at c.path pos) (expression c cb.scope test) ∷ []) [] (leaves.weaker _ leaves.one) w.code ((e, (tt, (tt, tt))), tt) tt, tt);
                scope = w.scope;
              })
          action_well (tree.for_loop first test next body) pos close c scope st around k s r g x m =
              let mt = marks.optional marks.of_expression test in
              let all = marks.of_maybe first ++ (mt ++ (marks.of_maybe next ++ marks.of_statement body)) in
              let r0 = (resolves_both n k ([] ∷ st) all (Closes ∷ []) r).0 in
              let r1 = resolves_both n k ([] ∷ st) (marks.of_maybe first) (mt ++ (marks.of_maybe next ++ marks.of_statement body)) r0 in
              let k1 = past k (marks.of_maybe first) in
              let su = after ([] ∷ st) (marks.of_maybe first) in
              let r2 = quiet_split n k1 su mt (marks.of_maybe next ++ marks.of_statement body) (quiet_optional marks.of_expression quiet_expression test) r1.1 in
              let k2 = past k1 mt in
              let r3 = quiet_split n k2 su (marks.of_maybe next) (marks.of_statement body) ((part.step_quiet n fs ps num H J here X V S E F L Z O I T leaves gs C copies calls_are mute) next x.1.1.0.1) r2.1 in
              let k3 = past k2 (marks.of_maybe next) in
              let g1 = split IsFine (site.of_maybe n around k first) _ g in
              let g2 = split IsFine (site.optional (site.of_expression n k1) test) _ g1.1 in
              let g3 = split IsFine (site.of_maybe n around k2 next) _ g2.1 in
              let f = maybe_copy copies first c scope in
              let cn = maybe_copy copies next c f.scope in
              let cb = statement_copy copies body (in_loop c pos) f.scope in
              let m0 : (walk.Made n fs ps num H J here X V S E F L Z O I T) (joined f (joined cn cb)) = record { variables = m.variables; channels = m.channels; timers = m.timers } in
              let m1 = (walk.made_both n fs ps num H J here X V S E F L Z O I T) f (joined cn cb) m0 in
              let m2 = (walk.made_both n fs ps num H J here X V S E F L Z O I T) cn cb m1.1 in
              let w = maybe_well first c scope ([] ∷ st) around k ((walk.with_names n fs ps num H J here X V S E F L Z O I T leaves gs) c scope scope st ([] ∷ st) around around (λ t. t) ((walk.in_new n fs ps num H J here) st scope s.known) s) r1.0 g1.0 x.0 m1.0 in
              let sits = (walk.with_names n fs ps num H J here X V S E F L Z O I T leaves gs) c scope f.scope st su around around (λ t. t) w.scope s in
              let v = maybe_well next c f.scope su around k2 sits r3.0 g3.0 x.1.1.0.0 m2.0 in
              let z = statement_well body (in_loop c pos) f.scope su (inside a_loop around) k3 ((walk.sits_in n fs ps num H J here X V S E F L Z O I T leaves gs) c (in_loop c pos) scope f.scope st su around (inside a_loop around) refl refl refl refl refl ((walk.inner_needs n fs ps num H J here X V S E F L Z O I T leaves gs) a_loop around) w.scope s) r3.1 g3.1 x.1.1.1 m2.1 in
              (walk.at_stack n fs ps num H J here X V S E F L Z O I T) st _ (action_copy copies (tree.for_loop first test next body) pos close c scope)
              (sym (scope_ends st all (scopes.both _ _ (scopes.of_maybe first) (scopes.both _ _ (scopes.maybe marks.of_expression scopes.of_expression test) (scopes.both _ _ (scopes.of_maybe next) (scopes.of_statement body))))))
              (record {
                code = both (walk.Good n fs ps num H J here X V S E F L Z O I T) f.code _ w.code ((part.loop_well n fs ps num H J here X V S E F L Z O I T leaves gs C copies calls_are mute) c (path_at c.path pos) (test_or_true (maybe_expression c f.scope test)) cb.code [] cn.code ((part.or_one n fs ps num H J here X V S E F L Z O I T leaves gs C copies calls_are mute) c f.scope su around k1 test sits r2.0 g2.0 x.1.0) z.code tt v.code, tt);
                scope = s.known;
              })
          action_well (tree.return_with r) pos close c scope st around k s rs g x m =
              (walk.at_stack n fs ps num H J here X V S E F L Z O I T) st _ (action_copy copies (tree.return_with r) pos close c scope) (sym (quiet_after st (marks.optional marks.of_right r) (quiet_optional marks.of_right quiet_right r)))
              ((part.return_well n fs ps num H J here X V S E F L Z O I T leaves gs C copies calls_are mute) c scope st around k r s rs g.0 g.1 x m)
          action_well tree.break_out pos close c scope st around k s r g x m = record { code = (tt, tt); scope = s.known }
          action_well tree.continue_on pos close c scope st around k s r g x m = record { code = (tt, tt); scope = s.known }
          action_well (tree.par bs) pos close c scope st around k s r g x m =
              let w = branches_well bs 0 c scope st around k s r g.1 x (record { variables = m.variables; channels = m.channels; timers = m.timers }) in
              record { code = (w.code, tt); scope = w.known }
          action_well (tree.replicated first second third from until b) pos close c scope st around k s r g x m =
              let d : Decl = record { name = first; what = what.Index } in
              let sd = with_decl d ([] ∷ st) in
              let r1 = resolves_both n (((k + 1) + 1) + 1) sd (marks.of_branch b) (Closes ∷ []) r.1.1.1 in
              let rb = subst (λ (j : ℕ). Resolves n j sd (marks.of_branch b)) ((part.three n fs ps num H J here X V S E F L Z O I T leaves gs C copies calls_are mute) k) r1.0 in
              let w = (part.numbered_well n fs ps num H J here X V S E F L Z O I T leaves gs C copies calls_are mute) b c scope first st around s (until - from) 0 from (λ e other t mm. (branch_well b e other sd around (k + 3) t rb g.1.1 x mm).code) (record { variables = m.variables; channels = m.channels; timers = m.timers }) in
              (walk.at_stack n fs ps num H J here X V S E F L Z O I T) st _ (action_copy copies (tree.replicated first second third from until b) pos close c scope)
              (sym (scope_ends st (marks.declares first what.Index ∷ Uses second ∷ Uses third ∷ marks.of_branch b) (scopes.declared refl (scopes.used (scopes.used (scopes.of_branch b))))))
              (record { code = (w.code, tt); scope = w.known })
          action_well (tree.select cs) pos close c scope st around k s r g x m =
              let w = cases_well cs c scope st around k s r g.1 x (record { variables = m.variables; channels = m.channels; timers = m.timers }) in
              (walk.at_stack n fs ps num H J here X V S E F L Z O I T) st _ (action_copy copies (tree.select cs) pos close c scope) (sym ((part.cases_end n fs ps num H J here X V S E F L Z O I T leaves gs C copies calls_are mute) st cs)) (record { code = (w, tt); scope = s.known })
          action_well (tree.transaction is_master ss) pos close c scope st around k s r g x m =
              let r2 = resolves_both n k ([] ∷ st) (marks.of_statements ss) (Closes ∷ []) r in
              let cb = statements_copy copies ss c scope in
              let mb : (walk.Made n fs ps num H J here X V S E F L Z O I T) cb = record { variables = m.variables; channels = m.channels; timers = m.timers } in
              let sb = (walk.with_names n fs ps num H J here X V S E F L Z O I T leaves gs) c scope scope st ([] ∷ st) around (inside a_transaction around) ((walk.inner_needs n fs ps num H J here X V S E F L Z O I T leaves gs) a_transaction around) ((walk.in_new n fs ps num H J here) st scope s.known) s in
              let w = statements_well ss c scope ([] ∷ st) (inside a_transaction around) k sb r2.0 g.1 x mb in
              let h = statements_heard ss c scope ([] ∷ st) (inside a_transaction around) k refl sb r2.0 g.1 x mb in
              let on = leaves.transacting (first_of cb.named) ((part.first_heard n fs ps num H J here X V S E F L Z O I T leaves gs C copies calls_are mute) cb.named h.each (h.some (one_talks (site.of_statements n (inside a_transaction around) k ss) g.0.0))) in
              (walk.at_stack n fs ps num H J here X V S E F L Z O I T) st _ (action_copy copies (tree.transaction is_master ss) pos close c scope) (sym (scope_ends st (marks.of_statements ss) (scopes.of_statements ss)))
              (record { code = ((subst (λ (q : Numbering). T (channel_number q (first_of cb.named))) (sym s.numbers) on, (walk.as_statements n fs ps num H J here X V S E F L Z O I T) cb.code w.code), tt); scope = s.known })

          -- a part of a transaction, which has (walk.no n fs ps num H J here X V S E F L Z O I T leaves gs) `par`, (walk.no n fs ps num H J here X V S E F L Z O I T leaves gs) `select` and (walk.no n fs ps num H J here X V S E F L Z O I T leaves gs) transaction
          statement_heard : (t : tree.Statement) (c : Context) (scope : Scope) (st : Stack) (around : Enclosing) (k : ℕ) → in_transaction around.holders ≡ true → (walk.Sits n fs ps num H J here X V S E F L Z O I T leaves gs) c scope st around → Resolves n k st (marks.of_statement t) → AllIn IsFine (site.of_statement n around k t) → ShapedStatement X V S C t → (walk.Made n fs ps num H J here X V S E F L Z O I T) (statement_copy copies t c scope) → (part.Heard n fs ps num H J here X V S E F L Z O I T leaves gs C copies calls_are mute) (site.of_statement n around k t) (statement_copy copies t c scope)
          statement_heard (tree.statement a pos close own) c scope st around k i s r g x m = action_heard a pos close c scope st around k i s r g x m

          action_heard : (a : tree.Action) (pos close : Pos) (c : Context) (scope : Scope) (st : Stack) (around : Enclosing) (k : ℕ) → in_transaction around.holders ≡ true → (walk.Sits n fs ps num H J here X V S E F L Z O I T leaves gs) c scope st around → Resolves n k st (marks.of_action a) → AllIn IsFine (site.of_action n around k pos a) → ShapedAction X V S C a → (walk.Made n fs ps num H J here X V S E F L Z O I T) (action_copy copies a pos close c scope) → (part.Heard n fs ps num H J here X V S E F L Z O I T leaves gs C copies calls_are mute) (site.of_action n around k pos a) (action_copy copies a pos close c scope)
          action_heard tree.empty pos close c scope st around k i s r g x m = (part.nothing_heard n fs ps num H J here X V S E F L Z O I T leaves gs C copies calls_are mute) [] _ refl refl
          action_heard (tree.block ss) pos close c scope st around k i s r g x m =
              let r2 = resolves_both n k ([] ∷ st) (marks.of_statements ss) (Closes ∷ []) r in
              (part.heard_same n fs ps num H J here X V S E F L Z O I T leaves gs C copies calls_are mute) _ (statements_copy copies ss c scope) (action_copy copies (tree.block ss) pos close c scope) refl
              (statements_heard ss c scope ([] ∷ st) (inside a_block around) k i ((walk.with_names n fs ps num H J here X V S E F L Z O I T leaves gs) c scope scope st ([] ∷ st) around (inside a_block around) ((walk.inner_needs n fs ps num H J here X V S E F L Z O I T leaves gs) a_block around) ((walk.in_new n fs ps num H J here) st scope s.known) s) r2.0 g x (record { variables = m.variables; channels = m.channels; timers = m.timers }))
          action_heard (tree.declare ds) pos close c scope st around k i s r g x m = (part.nothing_heard n fs ps num H J here X V S E F L Z O I T leaves gs C copies calls_are mute) _ (action_copy copies (tree.declare ds) pos close c scope) (declarations_name_none copies mute c ds scope) (silent_declarations n around k ds)
          action_heard (tree.assign to symbol spot e) pos close c scope st around k i s r g x m =
              (part.nothing_heard n fs ps num H J here X V S E F L Z O I T leaves gs C copies calls_are mute) _ (action_copy copies (tree.assign to symbol spot e) pos close c scope) (assign_names_none copies mute c scope to symbol spot e (nat_eq symbol equals))
              (silent_both (site.of_lval n k to) _ (silent_lval n k to) (silent_right n around (past k (marks.of_expression to)) true e))
          action_heard (tree.step to symbol) pos close c scope st around k i s r g x m = (part.nothing_heard n fs ps num H J here X V S E F L Z O I T leaves gs C copies calls_are mute) _ (action_copy copies (tree.step to symbol) pos close c scope) refl (silent_lval n k to)
          action_heard (tree.perform e) pos close c scope st around k i s r g x m = (part.nothing_heard n fs ps num H J here X V S E F L Z O I T leaves gs C copies calls_are mute) _ (action_copy copies (tree.perform e) pos close c scope) (right_names_none copies mute c scope e) (silent_right n around k false e)
          action_heard (tree.output o) pos close c scope st around k i s r g x m =
              let h = (part.channel_heard n fs ps num H J here X V S E F L Z O I T leaves gs C copies calls_are mute) o.name.text _ _ ((walk.standing n fs ps num H J here) st scope k o.name.text s.known r.0) in
              record { each = h.0; some = λ t. h.1 (output_talks n k o t) }
          action_heard (tree.input y) pos close c scope st around k i s r g x m =
              let h = (part.channel_heard n fs ps num H J here X V S E F L Z O I T leaves gs C copies calls_are mute) y.name.text _ _ ((walk.standing n fs ps num H J here) st scope k y.name.text s.known r.0) in
              record { each = h.0; some = λ t. h.1 (input_talks n k y t) }
          action_heard (tree.if_then test a b) pos close c scope st around k i s r g x m =
              let ca = statement_copy copies a c scope in
              let k1 = past k (marks.of_expression test) in
              let r1 = quiet_split n k st (marks.of_expression test) (marks.of_statement a ++ marks.of_maybe b) (quiet_expression test) r in
              let r2 = resolves_both n k1 st (marks.of_statement a) (marks.of_maybe b) r1.1 in
              let g1 = split IsFine (site.of_expression n k test) _ g in
              let g2 = split IsFine (site.of_statement n (inside an_if around) k1 a) _ g1.1 in
              let m2 = (walk.made_both n fs ps num H J here X V S E F L Z O I T) ca (maybe_copy copies b c ca.scope) (record { variables = m.variables; channels = m.channels; timers = m.timers }) in
              let su = after st (marks.of_statement a) in
              let sa = (walk.with_names n fs ps num H J here X V S E F L Z O I T leaves gs) c scope scope st st around (inside an_if around) ((walk.inner_needs n fs ps num H J here X V S E F L Z O I T leaves gs) an_if around) s.known s in
              let w = statement_well a c scope st (inside an_if around) k1 sa r2.0 g2.0 x.1.0 m2.0 in
              let h = statement_heard a c scope st (inside an_if around) k1 i sa r2.0 g2.0 x.1.0 m2.0 in
              let v = maybe_heard b c ca.scope su (inside an_if around) (past k1 (marks.of_statement a)) i ((walk.with_names n fs ps num H J here X V S E F L Z O I T leaves gs) c scope ca.scope st su around (inside an_if around) ((walk.inner_needs n fs ps num H J here X V S E F L Z O I T leaves gs) an_if around) w.scope s) r2.1 g2.1 x.1.1 m2.1 in
              (part.heard_behind n fs ps num H J here X V S E F L Z O I T leaves gs C copies calls_are mute) (site.of_expression n k test) _ (action_copy copies (tree.if_then test a b) pos close c scope) (silent_expression n k test)
              ((part.heard_same n fs ps num H J here X V S E F L Z O I T leaves gs C copies calls_are mute) _ (joined ca (maybe_copy copies b c ca.scope)) (action_copy copies (tree.if_then test a b) pos close c scope) refl ((part.heard_both n fs ps num H J here X V S E F L Z O I T leaves gs C copies calls_are mute) (site.of_statement n (inside an_if around) k1 a) _ ca (maybe_copy copies b c ca.scope) h v))
          action_heard (tree.while_loop test body) pos close c scope st around k i s r g x m =
              let k1 = past k (marks.of_expression test) in
              let r1 = quiet_split n k st (marks.of_expression test) (marks.of_statement body) (quiet_expression test) r in
              let g1 = split IsFine (site.of_expression n k test) _ g in
              let h = statement_heard body (in_loop c pos) scope st (inside a_loop around) k1 i ((walk.sits_in n fs ps num H J here X V S E F L Z O I T leaves gs) c (in_loop c pos) scope scope st st around (inside a_loop around) refl refl refl refl refl ((walk.inner_needs n fs ps num H J here X V S E F L Z O I T leaves gs) a_loop around) s.known s) r1.1 g1.1 x.1 (record { variables = m.variables; channels = m.channels; timers = m.timers }) in
              (part.heard_behind n fs ps num H J here X V S E F L Z O I T leaves gs C copies calls_are mute) (site.of_expression n k test) _ (action_copy copies (tree.while_loop test body) pos close c scope) (silent_expression n k test)
              ((part.heard_same n fs ps num H J here X V S E F L Z O I T leaves gs C copies calls_are mute) _ (statement_copy copies body (in_loop c pos) scope) (action_copy copies (tree.while_loop test body) pos close c scope) refl h)
          action_heard (tree.do_while body test) pos close c scope st around k i s r g x m =
              let r1 = resolves_both n k st (marks.of_statement body) (marks.of_expression test) r in
              let g1 = split IsFine (site.of_statement n (inside a_loop around) k body) _ g in
              let h = statement_heard body (in_loop c pos) scope st (inside a_loop around) k i ((walk.sits_in n fs ps num H J here X V S E F L Z O I T leaves gs) c (in_loop c pos) scope scope st st around (inside a_loop around) refl refl refl refl refl ((walk.inner_needs n fs ps num H J here X V S E F L Z O I T leaves gs) a_loop around) s.known s) r1.0 g1.0 x.0 (record { variables = m.variables; channels = m.channels; timers = m.timers }) in
              (part.heard_before n fs ps num H J here X V S E F L Z O I T leaves gs C copies calls_are mute) (site.of_statement n (inside a_loop around) k body) _ (action_copy copies (tree.do_while body test) pos close c scope) (silent_expression n (past k (marks.of_statement body)) test)
              ((part.heard_same n fs ps num H J here X V S E F L Z O I T leaves gs C copies calls_are mute) _ (statement_copy copies body (in_loop c pos) scope) (action_copy copies (tree.do_while body test) pos close c scope) refl h)
          action_heard (tree.for_loop first test next body) pos close c scope st around k i s r g x m =
              let mt = marks.optional marks.of_expression test in
              let all = marks.of_maybe first ++ (mt ++ (marks.of_maybe next ++ marks.of_statement body)) in
              let r0 = (resolves_both n k ([] ∷ st) all (Closes ∷ []) r).0 in
              let r1 = resolves_both n k ([] ∷ st) (marks.of_maybe first) (mt ++ (marks.of_maybe next ++ marks.of_statement body)) r0 in
              let k1 = past k (marks.of_maybe first) in
              let su = after ([] ∷ st) (marks.of_maybe first) in
              let r2 = quiet_split n k1 su mt (marks.of_maybe next ++ marks.of_statement body) (quiet_optional marks.of_expression quiet_expression test) r1.1 in
              let k2 = past k1 mt in
              let r3 = quiet_split n k2 su (marks.of_maybe next) (marks.of_statement body) ((part.step_quiet n fs ps num H J here X V S E F L Z O I T leaves gs C copies calls_are mute) next x.1.1.0.1) r2.1 in
              let k3 = past k2 (marks.of_maybe next) in
              let g1 = split IsFine (site.of_maybe n around k first) _ g in
              let g2 = split IsFine (site.optional (site.of_expression n k1) test) _ g1.1 in
              let g3 = split IsFine (site.of_maybe n around k2 next) _ g2.1 in
              let f = maybe_copy copies first c scope in
              let cn = maybe_copy copies next c f.scope in
              let cb = statement_copy copies body (in_loop c pos) f.scope in
              let m0 : (walk.Made n fs ps num H J here X V S E F L Z O I T) (joined f (joined cn cb)) = record { variables = m.variables; channels = m.channels; timers = m.timers } in
              let m1 = (walk.made_both n fs ps num H J here X V S E F L Z O I T) f (joined cn cb) m0 in
              let m2 = (walk.made_both n fs ps num H J here X V S E F L Z O I T) cn cb m1.1 in
              let w = maybe_well first c scope ([] ∷ st) around k ((walk.with_names n fs ps num H J here X V S E F L Z O I T leaves gs) c scope scope st ([] ∷ st) around around (λ t. t) ((walk.in_new n fs ps num H J here) st scope s.known) s) r1.0 g1.0 x.0 m1.0 in
              let sits = (walk.with_names n fs ps num H J here X V S E F L Z O I T leaves gs) c scope f.scope st su around around (λ t. t) w.scope s in
              let inner = (walk.with_names n fs ps num H J here X V S E F L Z O I T leaves gs) c scope scope st ([] ∷ st) around around (λ t. t) ((walk.in_new n fs ps num H J here) st scope s.known) s in
              let hf = maybe_heard first c scope ([] ∷ st) around k i inner r1.0 g1.0 x.0 m1.0 in
              let hn = maybe_heard next c f.scope su around k2 i sits r3.0 g3.0 x.1.1.0.0 m2.0 in
              let hb = statement_heard body (in_loop c pos) f.scope su (inside a_loop around) k3 i ((walk.sits_in n fs ps num H J here X V S E F L Z O I T leaves gs) c (in_loop c pos) scope f.scope st su around (inside a_loop around) refl refl refl refl refl ((walk.inner_needs n fs ps num H J here X V S E F L Z O I T leaves gs) a_loop around) w.scope s) r3.1 g3.1 x.1.1.1 m2.1 in
              (part.heard_same n fs ps num H J here X V S E F L Z O I T leaves gs C copies calls_are mute) _ (joined f (joined cn cb)) (action_copy copies (tree.for_loop first test next body) pos close c scope) refl
              ((part.heard_both n fs ps num H J here X V S E F L Z O I T leaves gs C copies calls_are mute) (site.of_maybe n around k first) _ f (joined cn cb) hf
              ((part.heard_behind n fs ps num H J here X V S E F L Z O I T leaves gs C copies calls_are mute) (site.optional (site.of_expression n k1) test) _ (joined cn cb) (silent_maybe_expression n k1 test) ((part.heard_both n fs ps num H J here X V S E F L Z O I T leaves gs C copies calls_are mute) (site.of_maybe n around k2 next) (site.of_statement n (inside a_loop around) k3 body) cn cb hn hb)))
          action_heard (tree.return_with e) pos close c scope st around k i s r g x m = (part.nothing_heard n fs ps num H J here X V S E F L Z O I T leaves gs C copies calls_are mute) _ (action_copy copies (tree.return_with e) pos close c scope) (return_names_none copies mute c scope e) (silent_maybe_right n around k e)
          action_heard tree.break_out pos close c scope st around k i s r g x m = (part.nothing_heard n fs ps num H J here X V S E F L Z O I T leaves gs C copies calls_are mute) _ (action_copy copies tree.break_out pos close c scope) refl refl
          action_heard tree.continue_on pos close c scope st around k i s r g x m = (part.nothing_heard n fs ps num H J here X V S E F L Z O I T leaves gs C copies calls_are mute) _ (action_copy copies tree.continue_on pos close c scope) refl refl
          action_heard (tree.par bs) pos close c scope st around k i s r g x m = absurd (true≢false (sym i ∙ g.0))
          action_heard (tree.replicated y a z from until b) pos close c scope st around k i s r g x m = absurd (true≢false (sym i ∙ g.0))
          action_heard (tree.select cs) pos close c scope st around k i s r g x m = absurd (true≢false (sym i ∙ g.0))
          action_heard (tree.transaction is_master ss) pos close c scope st around k i s r g x m = absurd (true≢false (sym i ∙ g.0.1))

          maybe_heard : (t : tree.Maybe) (c : Context) (scope : Scope) (st : Stack) (around : Enclosing) (k : ℕ) → in_transaction around.holders ≡ true → (walk.Sits n fs ps num H J here X V S E F L Z O I T leaves gs) c scope st around → Resolves n k st (marks.of_maybe t) → AllIn IsFine (site.of_maybe n around k t) → ShapedMaybe X V S C t → (walk.Made n fs ps num H J here X V S E F L Z O I T) (maybe_copy copies t c scope) → (part.Heard n fs ps num H J here X V S E F L Z O I T leaves gs C copies calls_are mute) (site.of_maybe n around k t) (maybe_copy copies t c scope)
          maybe_heard tree.absent c scope st around k i s r g x m = (part.nothing_heard n fs ps num H J here X V S E F L Z O I T leaves gs C copies calls_are mute) [] _ refl refl
          maybe_heard (tree.present t) c scope st around k i s r g x m = statement_heard t c scope st around k i s r g x m

          statements_heard : (ss : tree.Statements) (c : Context) (scope : Scope) (st : Stack) (around : Enclosing) (k : ℕ) → in_transaction around.holders ≡ true → (walk.Sits n fs ps num H J here X V S E F L Z O I T leaves gs) c scope st around → Resolves n k st (marks.of_statements ss) → AllIn IsFine (site.of_statements n around k ss) → ShapedStatements X V S C ss → (walk.Made n fs ps num H J here X V S E F L Z O I T) (statements_copy copies ss c scope) → (part.Heard n fs ps num H J here X V S E F L Z O I T leaves gs C copies calls_are mute) (site.of_statements n around k ss) (statements_copy copies ss c scope)
          statements_heard tree.no_more c scope st around k i s r g x m = (part.nothing_heard n fs ps num H J here X V S E F L Z O I T leaves gs C copies calls_are mute) [] _ refl refl
          statements_heard (tree.more t ss) c scope st around k i s r g x m =
              let ct = statement_copy copies t c scope in
              let k1 = past k (marks.of_statement t) in
              let su = after st (marks.of_statement t) in
              let r1 = resolves_both n k st (marks.of_statement t) (marks.of_statements ss) r in
              let g1 = split IsFine (site.of_statement n around k t) _ g in
              let m1 = (walk.made_both n fs ps num H J here X V S E F L Z O I T) ct (statements_copy copies ss c ct.scope) m in
              let w = statement_well t c scope st around k s r1.0 g1.0 x.0 m1.0 in
              let h = statement_heard t c scope st around k i s r1.0 g1.0 x.0 m1.0 in
              let v = statements_heard ss c ct.scope su around k1 i ((walk.with_names n fs ps num H J here X V S E F L Z O I T leaves gs) c scope ct.scope st su around around (λ t. t) w.scope s) r1.1 g1.1 x.1 m1.1 in
              (part.heard_both n fs ps num H J here X V S E F L Z O I T leaves gs C copies calls_are mute) (site.of_statement n around k t) (site.of_statements n around k1 ss) ct (statements_copy copies ss c ct.scope) h v

          maybe_well : (t : tree.Maybe) (c : Context) (scope : Scope) (st : Stack) (around : Enclosing) (k : ℕ) → (walk.Sits n fs ps num H J here X V S E F L Z O I T leaves gs) c scope st around → Resolves n k st (marks.of_maybe t) → AllIn IsFine (site.of_maybe n around k t) → ShapedMaybe X V S C t → (walk.Made n fs ps num H J here X V S E F L Z O I T) (maybe_copy copies t c scope) → (walk.Well n fs ps num H J here X V S E F L Z O I T) (after st (marks.of_maybe t)) (maybe_copy copies t c scope)
          maybe_well tree.absent c scope st around k s r g x m = (walk.nothing_well n fs ps num H J here X V S E F L Z O I T leaves gs) c scope st around s
          maybe_well (tree.present t) c scope st around k s r g x m = statement_well t c scope st around k s r g x m

          statements_well : (ss : tree.Statements) (c : Context) (scope : Scope) (st : Stack) (around : Enclosing) (k : ℕ) → (walk.Sits n fs ps num H J here X V S E F L Z O I T leaves gs) c scope st around → Resolves n k st (marks.of_statements ss) → AllIn IsFine (site.of_statements n around k ss) → ShapedStatements X V S C ss → (walk.Made n fs ps num H J here X V S E F L Z O I T) (statements_copy copies ss c scope) → (walk.Well n fs ps num H J here X V S E F L Z O I T) (after st (marks.of_statements ss)) (statements_copy copies ss c scope)
          statements_well tree.no_more c scope st around k s r g x m = (walk.nothing_well n fs ps num H J here X V S E F L Z O I T leaves gs) c scope st around s
          statements_well (tree.more t ss) c scope st around k s r g x m =
              let ct = statement_copy copies t c scope in
              let k1 = past k (marks.of_statement t) in
              let su = after st (marks.of_statement t) in
              let r1 = resolves_both n k st (marks.of_statement t) (marks.of_statements ss) r in
              let g1 = split IsFine (site.of_statement n around k t) _ g in
              let m1 = (walk.made_both n fs ps num H J here X V S E F L Z O I T) ct (statements_copy copies ss c ct.scope) m in
              let w = statement_well t c scope st around k s r1.0 g1.0 x.0 m1.0 in
              let v = statements_well ss c ct.scope su around k1 ((walk.with_names n fs ps num H J here X V S E F L Z O I T leaves gs) c scope ct.scope st su around around (λ t. t) w.scope s) r1.1 g1.1 x.1 m1.1 in
              (walk.at_stack n fs ps num H J here X V S E F L Z O I T) _ _ (statements_copy copies (tree.more t ss) c scope) (sym (after_both st (marks.of_statement t) (marks.of_statements ss)))
              (record { code = both (walk.Good n fs ps num H J here X V S E F L Z O I T) ct.code (statements_copy copies ss c ct.scope).code w.code v.code; scope = v.scope })

          branch_well : (b : tree.Branch) (c : Context) (scope : Scope) (st : Stack) (around : Enclosing) (k : ℕ) → (walk.Sits n fs ps num H J here X V S E F L Z O I T leaves gs) c scope st around → Resolves n k st (marks.of_branch b) → AllIn IsFine (site.of_branch n around k b) → ShapedBranch X V S C b → (walk.Made n fs ps num H J here X V S E F L Z O I T) (branch_copy copies b c scope) → (walk.Well n fs ps num H J here X V S E F L Z O I T) (after st (marks.of_branch b)) (branch_copy copies b c scope)
          branch_well (tree.branch place t) c scope st around k s r g x m =
              let mp = marks.optional marks.of_place place in
              let q = quiet_optional marks.of_place quiet_place place in
              let r1 = quiet_split n k st mp (marks.of_statement t) q r in
              let g1 = split IsFine (site.optional (site.of_branch_place n around k) place) _ g in
              (walk.at_stack n fs ps num H J here X V S E F L Z O I T) _ _ (branch_copy copies (tree.branch place t) c scope) (sym (quiet_skip st mp (marks.of_statement t) q))
              (statement_well t c scope st (inside a_branch around) (past k mp) ((walk.with_names n fs ps num H J here X V S E F L Z O I T leaves gs) c scope scope st st around (inside a_branch around) ((walk.inner_needs n fs ps num H J here X V S E F L Z O I T leaves gs) a_branch around) s.known s) r1.1 g1.1 x m)

          branches_well : (bs : tree.Branches) (index : ℕ) (c : Context) (scope : Scope) (st : Stack) (around : Enclosing) (k : ℕ) → (walk.Sits n fs ps num H J here X V S E F L Z O I T leaves gs) c scope st around → Resolves n k st (marks.of_branches bs) → AllIn IsFine (site.of_branches n around k bs) → ShapedBranches X V S C bs → (walk.Made n fs ps num H J here X V S E F L Z O I T) (branches_copy copies bs index c scope).made → (part.BranchesWell n fs ps num H J here X V S E F L Z O I T leaves gs C copies calls_are mute) (after st (marks.of_branches bs)) (branches_copy copies bs index c scope).made.scope (branches_copy copies bs index c scope).branches
          branches_well tree.no_branch index c scope st around k s r g x m = record { code = tt; known = s.known }
          branches_well (tree.more_branches b bs) index c scope st around k s r g x m =
              let cb = branch_copy copies b (in_branch c index) scope in
              let k1 = past k (marks.of_branch b) in
              let su = after st (marks.of_branch b) in
              let r1 = resolves_both n k st (marks.of_branch b) (marks.of_branches bs) r in
              let g1 = split IsFine (site.of_branch n around k b) _ g in
              let m1 = (walk.made_both n fs ps num H J here X V S E F L Z O I T) (with_code cb []) (branches_copy copies bs (index + 1) c cb.scope).made m in
              let w = branch_well b (in_branch c index) scope st around k ((walk.sits_in n fs ps num H J here X V S E F L Z O I T leaves gs) c (in_branch c index) scope scope st st around around refl refl refl refl refl (λ t. t) s.known s) r1.0 g1.0 x.0 (record { variables = m1.0.variables; channels = m1.0.channels; timers = m1.0.timers }) in
              let v = branches_well bs (index + 1) c cb.scope su around k1 ((walk.with_names n fs ps num H J here X V S E F L Z O I T leaves gs) c scope cb.scope st su around around (λ t. t) w.scope s) r1.1 g1.1 x.1 m1.1 in
              let e = after_both st (marks.of_branch b) (marks.of_branches bs) in
              record { code = ((walk.as_statements n fs ps num H J here X V S E F L Z O I T) cb.code w.code, v.code); known = subst (λ (z : Stack). (walk.Known n fs ps num H J here) z (branches_copy copies (tree.more_branches b bs) index c scope).made.scope) (sym e) v.known }

          cases_well : (cs : tree.Cases) (c : Context) (scope : Scope) (st : Stack) (around : Enclosing) (k : ℕ) → (walk.Sits n fs ps num H J here X V S E F L Z O I T leaves gs) c scope st around → Resolves n k st (marks.of_cases cs) → AllIn IsFine (site.of_cases n around k cs) → ShapedCases X V S C cs → (walk.Made n fs ps num H J here X V S E F L Z O I T) (cases_copy copies cs c scope).made → EachCase E L Z O I T (cases_copy copies cs c scope).cases × EachDefault E L Z O I T (cases_copy copies cs c scope).otherwise
          cases_well tree.no_case c scope st around k s r g x m = (tt, tt)
          cases_well (tree.more_cases (tree.case pos guard None ss) cs) c scope st around k s r g x m =
              let mg = marks.optional marks.of_expression guard in
              let ms = marks.of_case (tree.case pos guard None ss) in
              let cb = statements_copy copies ss (in_case c pos) scope in
              let r1 = resolves_both n k st ms (marks.of_cases cs) r in
              let r2 = resolves_both n k ([] ∷ st) (mg ++ marks.of_statements ss) (Closes ∷ []) r1.0 in
              let r3 = quiet_split n k ([] ∷ st) mg (marks.of_statements ss) (quiet_optional marks.of_expression quiet_expression guard) r2.0 in
              let g1 = split IsFine (site.of_case n around k (tree.case pos guard None ss)) _ g in
              let g2 = split IsFine (site.optional (site.of_expression n k) guard) _ g1.0 in
              let m1 = (walk.made_both n fs ps num H J here X V S E F L Z O I T) (with_code cb []) (cases_copy copies cs c scope).made (record { variables = m.variables; channels = m.channels; timers = m.timers }) in
              let w = statements_well ss (in_case c pos) scope ([] ∷ st) (inside a_case around) (past k mg) ((walk.sits_in n fs ps num H J here X V S E F L Z O I T leaves gs) c (in_case c pos) scope scope st ([] ∷ st) around (inside a_case around) refl refl refl refl refl ((walk.inner_needs n fs ps num H J here X V S E F L Z O I T leaves gs) a_case around) ((walk.in_new n fs ps num H J here) st scope s.known) s) r3.1 g2.1 x.0.1.1 (record { variables = m1.0.variables; channels = m1.0.channels; timers = m1.0.timers }) in
              let rest = subst (λ (z : Stack). Resolves n (past k ms) z (marks.of_cases cs)) ((part.case_ends n fs ps num H J here X V S E F L Z O I T leaves gs C copies calls_are mute) st (tree.case pos guard None ss)) r1.1 in
              let v = cases_well cs c scope st around (past k ms) s rest g1.1 x.1 m1.1 in
              (v.0, ((walk.as_statements n fs ps num H J here X V S E F L Z O I T) cb.code w.code, tt))
          cases_well (tree.more_cases (tree.case pos guard (Some i) ss) cs) c scope st around k s r g x m =
              let mg = marks.optional marks.of_expression guard in
              let ms = marks.of_case (tree.case pos guard (Some i) ss) in
              let inner = case_scope c scope (Some i) in
              let cb = statements_copy copies ss (in_case c pos) inner in
              let r1 = resolves_both n k st ms (marks.of_cases cs) r in
              let r2 = resolves_both n k ([] ∷ st) (mg ++ (marks.of_input i ++ marks.of_statements ss)) (Closes ∷ []) r1.0 in
              let r3 = quiet_split n k ([] ∷ st) mg (marks.of_input i ++ marks.of_statements ss) (quiet_optional marks.of_expression quiet_expression guard) r2.0 in
              let k1 = past k mg in
              let r4 = resolves_both n k1 ([] ∷ st) (marks.of_input i) (marks.of_statements ss) r3.1 in
              let su = after ([] ∷ st) (marks.of_input i) in
              let g1 = split IsFine (site.of_case n around k (tree.case pos guard (Some i) ss)) _ g in
              let g2 = split IsFine (site.optional (site.of_expression n k) guard) _ g1.0 in
              let g3 = split IsFine (site.of_input n k1 i) _ g2.1 in
              let m1 = (walk.made_both n fs ps num H J here X V S E F L Z O I T) (joined (input_names c scope i) (with_code cb [])) (cases_copy copies cs c scope).made (record { variables = m.variables; channels = m.channels; timers = m.timers }) in
              let m2 = (walk.made_both n fs ps num H J here X V S E F L Z O I T) (input_names c scope i) (with_code cb []) m1.0 in
              let sn = (walk.with_names n fs ps num H J here X V S E F L Z O I T leaves gs) c scope scope st ([] ∷ st) around around (λ t. t) ((walk.in_new n fs ps num H J here) st scope s.known) s in
              let known = (part.input_known n fs ps num H J here X V S E F L Z O I T leaves gs C copies calls_are mute) c scope ([] ∷ st) i s.core_is ((walk.in_new n fs ps num H J here) st scope s.known) m2.0 in
              let w = statements_well ss (in_case c pos) inner su (inside a_case around) (past k1 (marks.of_input i)) ((walk.sits_in n fs ps num H J here X V S E F L Z O I T leaves gs) c (in_case c pos) scope inner st su around (inside a_case around) refl refl refl refl refl ((walk.inner_needs n fs ps num H J here X V S E F L Z O I T leaves gs) a_case around) known s) r4.1 g3.1 x.0.1.1 (record { variables = m2.1.variables; channels = m2.1.channels; timers = m2.1.timers }) in
              let rest = subst (λ (z : Stack). Resolves n (past k ms) z (marks.of_cases cs)) ((part.case_ends n fs ps num H J here X V S E F L Z O I T leaves gs C copies calls_are mute) st (tree.case pos guard (Some i) ss)) r1.1 in
              let v = cases_well cs c scope st around (past k ms) s rest g1.1 x.1 m1.1 in
              let e = (part.guard_well n fs ps num H J here X V S E F L Z O I T leaves gs C copies calls_are mute) c scope ([] ∷ st) around k guard sn r3.0 g2.0 x.0.0 in
              (((e, ((part.input_well n fs ps num H J here X V S E F L Z O I T leaves gs C copies calls_are mute) c scope ([] ∷ st) around k1 i sn r4.0 g3.0 x.0.1.0 m2.0, ((walk.as_statements n fs ps num H J here X V S E F L Z O I T) cb.code w.code, tt))), v.0), v.1)

        -- the body of a function
        body_well : (h : tree.Head) (body : tree.Statement) (c : Context) (scope : Scope) (st : Stack) (k : ℕ) → (walk.Sits n fs ps num H J here X V S E F L Z O I T leaves gs) c scope st (in_block_of h) → Resolves n k st (marks.of_body body) → AllIn IsFine (site.of_body n (in_block_of h) k body) → ShapedStatement X V S C body → (walk.Made n fs ps num H J here X V S E F L Z O I T) (statement_copy copies body c scope) → AllIn (walk.Good n fs ps num H J here X V S E F L Z O I T) (statement_copy copies body c scope).code
        body_well h (tree.statement (tree.block ss) p close own) c scope st k s r g x m = (statements_well ss c scope st (in_block_of h) k s r g x (record { variables = m.variables; channels = m.channels; timers = m.timers })).code
        body_well h (tree.statement tree.empty p close own) c scope st k s r g x m = tt
        body_well h (tree.statement (tree.declare ds) p close own) c scope st k s r g x m = (statement_well (tree.statement (tree.declare ds) p close own) c scope st (in_block_of h) k s r g x m).code
        body_well h (tree.statement (tree.assign to symbol q e) p close own) c scope st k s r g x m = (statement_well (tree.statement (tree.assign to symbol q e) p close own) c scope st (in_block_of h) k s r g x m).code
        body_well h (tree.statement (tree.step to symbol) p close own) c scope st k s r g x m = (statement_well (tree.statement (tree.step to symbol) p close own) c scope st (in_block_of h) k s r g x m).code
        body_well h (tree.statement (tree.perform e) p close own) c scope st k s r g x m = (statement_well (tree.statement (tree.perform e) p close own) c scope st (in_block_of h) k s r g x m).code
        body_well h (tree.statement (tree.output o) p close own) c scope st k s r g x m = (statement_well (tree.statement (tree.output o) p close own) c scope st (in_block_of h) k s r g x m).code
        body_well h (tree.statement (tree.input i) p close own) c scope st k s r g x m = (statement_well (tree.statement (tree.input i) p close own) c scope st (in_block_of h) k s r g x m).code
        body_well h (tree.statement (tree.if_then t a b) p close own) c scope st k s r g x m = (statement_well (tree.statement (tree.if_then t a b) p close own) c scope st (in_block_of h) k s r g x m).code
        body_well h (tree.statement (tree.while_loop t a) p close own) c scope st k s r g x m = (statement_well (tree.statement (tree.while_loop t a) p close own) c scope st (in_block_of h) k s r g x m).code
        body_well h (tree.statement (tree.do_while a t) p close own) c scope st k s r g x m = (statement_well (tree.statement (tree.do_while a t) p close own) c scope st (in_block_of h) k s r g x m).code
        body_well h (tree.statement (tree.for_loop y t z a) p close own) c scope st k s r g x m = (statement_well (tree.statement (tree.for_loop y t z a) p close own) c scope st (in_block_of h) k s r g x m).code
        body_well h (tree.statement (tree.return_with e) p close own) c scope st k s r g x m = (statement_well (tree.statement (tree.return_with e) p close own) c scope st (in_block_of h) k s r g x m).code
        body_well h (tree.statement tree.break_out p close own) c scope st k s r g x m = (tt, tt)
        body_well h (tree.statement tree.continue_on p close own) c scope st k s r g x m = (tt, tt)
        body_well h (tree.statement (tree.par bs) p close own) c scope st k s r g x m = (statement_well (tree.statement (tree.par bs) p close own) c scope st (in_block_of h) k s r g x m).code
        body_well h (tree.statement (tree.replicated y a z from until b) p close own) c scope st k s r g x m = (statement_well (tree.statement (tree.replicated y a z from until b) p close own) c scope st (in_block_of h) k s r g x m).code
        body_well h (tree.statement (tree.select cs) p close own) c scope st k s r g x m = (statement_well (tree.statement (tree.select cs) p close own) c scope st (in_block_of h) k s r g x m).code
        body_well h (tree.statement (tree.transaction is_master ss) p close own) c scope st k s r g x m = (statement_well (tree.statement (tree.transaction is_master ss) p close own) c scope st (in_block_of h) k s r g x m).code

        result_well : (c : Context) (path : Path) (pos : Pos) (scope : Scope) (o : Option Bool) → c.numbering ≡ num → c.core ≡ here → (walk.Made n fs ps num H J here X V S E F L Z O I T) (result_copy c path pos scope o) → AllIn (walk.Good n fs ps num H J here X V S E F L Z O I T) (result_copy c path pos scope o).code × (is_some o ≡ true → HasVariable num (H here) path false 1)
        result_well c path pos scope None e on m = (tt, λ t. (walk.no n fs ps num H J here X V S E F L Z O I T leaves gs) t)
        result_well c path pos scope (Some u) e on m =
            let h = (walk.own_variable n fs ps num H J here) c.core path false 1 on m.variables.0 in
            (((walk.zero_at_path n fs ps num H J here X V S E F L Z O I T leaves gs) c e path false 1 h, tt), λ t. h)

        pub function_well : (c : Context) (scope : Scope) (st : Stack) (around : Enclosing) (k : ℕ) (own : Path) (f : Function) (args : List tree.Argument) → (walk.FunctionRight n fs ps num H J here X V S E F L Z O I T) gs f → ShapedStatement X V S C f.body → (walk.Sits n fs ps num H J here X V S E F L Z O I T leaves gs) c scope st around →
            Resolves n k st (marks.each marks.of_argument args) → AllIn IsFine (site.of_arguments n k f.head.params args) → ShapedArguments X V S C args → length args ≡ length f.head.params → AllFit (arguments n k f.head.params args) →
            (walk.Made n fs ps num H J here X V S E F L Z O I T) (function_copy (statement_copy copies) c scope own f args) → (walk.CallWell n fs ps num H J here X V S E F L Z O I T leaves gs) st own f (function_copy (statement_copy copies) c scope own f args)
        function_well c scope st around k own f args fr shaped s r g x long fit m =
            let cr = result_copy c (path_at own f.head.name.pos) f.head.name.pos scope f.head.result in
            let cp = all_passed c scope own f.head.params args in
            let inner = in_function c own f in
            let cb = statement_copy copies f.body inner cp.scope in
            let m0 : (walk.Made n fs ps num H J here X V S E F L Z O I T) (joined cr (joined cp cb)) = record { variables = m.variables; channels = m.channels; timers = m.timers } in
            let m1 = (walk.made_both n fs ps num H J here X V S E F L Z O I T) cr (joined cp cb) m0 in
            let m2 = (walk.made_both n fs ps num H J here X V S E F L Z O I T) cp cb m1.1 in
            let res = result_well c (path_at own f.head.name.pos) f.head.name.pos scope f.head.result s.numbers s.core_is m1.0 in
            let pw = (walk.all_passed_well n fs ps num H J here X V S E F L Z O I T leaves gs) c scope st around s C own f.head.params args k r g x long fit m2.0.variables in
            let su = after ([] ∷ gs ∷ []) (marks.each marks.of_param f.head.params) in
            let known : (walk.Known n fs ps num H J here) su cp.scope = λ t. subst (λ (o : Option Decl). (walk.Stood n fs ps num H J here) t o (entity_of cp.scope t)) (sym ((walk.params_found n fs ps num H J here X V S E F L Z O I T leaves gs) f.head.params fr.params_at [] gs [] t fr.params_new)) (pw.entities t) in
            let sits : (walk.Sits n fs ps num H J here X V S E F L Z O I T leaves gs) inner cp.scope su (in_block_of f.head) = record { numbers = s.numbers; core_is = s.core_is; functions_are = s.functions_are; ports_known = s.ports_known; result_there = λ t. res.1 t.1; known = known } in
            let bw = body_well f.head f.body inner cp.scope su fr.body_at sits fr.resolves fr.fine shaped m2.1 in
            record {
              well = record { code = both (walk.Good n fs ps num H J here X V S E F L Z O I T) cr.code _ res.0 (both (walk.Good n fs ps num H J here X V S E F L Z O I T) cp.code _ pw.code ((walk.as_statements n fs ps num H J here X V S E F L Z O I T) cb.code bw, tt)); scope = s.known };
              result = res.1;
            }

      -- calls, as deep as they go
      module _ (rights : (t : List ℕ) (f : Function) → function_named fs t ≡ Some f → (walk.FunctionRight n fs ps num H J here X V S E F L Z O I T) gs f) where
        pub calls_well : (depth : ℕ) → (walk.CallsWell n fs ps num H J here X V S E F L Z O I T leaves gs) (Deep X V S fs depth) (calls_copy depth)
        calls_well zero call f e x c scope st around k s r g xs long fit m = absurd (none_some f (sym x ∙ e))
          where
            none_some : (f : Function) → None ≡ Some f → ⊥
            none_some f q = cc
        calls_well (suc depth) call f e x c scope st around k s r g xs long fit m =
            function_well (Deep X V S fs depth) (calls_copy depth) (calls_well depth) (calls_silent depth) c scope st around k (path_of_call c call.called.pos) f call.arguments (rights call.called.text f e) (x f e) s r g xs long fit m
