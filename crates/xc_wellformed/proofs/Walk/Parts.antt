-- Right sides, declarations, assignments and transfers of a typed program's copy, and what is heard of channels in a transaction.
use Rattle.std.proofs.Common.{◌≡◌, ℕ, zero, suc, ◌+◌, Bool, true, false, List, [], ◌∷◌, ◌++◌, length, ◌⊎◌, inl, inr, Option, Some, None, option_map, is_some, refl, sym, ap, subst, ◌∙◌, true≢false, arith}
use Rattle.xw_words.specs.declared.pos.Pos.{Pos}
use Rattle.xc_tree.specs.declared.tree.Id.{Id}
use Rattle.xc_tree.specs.declared.names.Decl.{Decl}
use Rattle.xc_tree.specs.declared.names.What.{What}
use Rattle.xc_tree.specs.declared.names.What.TheVariants as what
use Rattle.xc_tree.specs.Plain as tree
use Rattle.xc_tree.specs.Names.Marks as marks
use Rattle.xc_tree.specs.Types.Named.{NamedProgram, Name, name_at, past}
use Rattle.xc_tree.specs.Types.Entities.{is_channel, agree}
use Rattle.xc_tree.specs.Types.Sites.{Site}
use Rattle.xc_tree.specs.Types.Sites as site
use Rattle.xc_tree.specs.Shapes.Enclosing.{Enclosing, is_empty, in_par_or_transaction}
use Rattle.xc_kernel.specs.declared.kernel.PortUse.{PortUse}
use Rattle.xc_kernel.specs.Plain as kernel
use Rattle.xc_kernel.specs.Paths.{Path, path_at, path_of_turn}
use Rattle.xc_kernel.specs.Numbering.{Numbering}
use Rattle.xc_kernel.specs.Scopes.{Scope, Entity, a_word, an_array, a_channel, a_timer, a_constant, with_name}
use Rattle.xc_kernel.specs.Expressions.{word_of, expression_in, updated}
use Rattle.xc_kernel.specs.Programs.{Function, function_named}
use Rattle.xc_kernel.specs.Copy.{Copy, joined, followed_by, with_code, code_of}
use Rattle.xc_kernel.specs.Context.{Context, in_branch, in_loop, in_case, in_function, block_at, expression, maybe_expression, place}
use Rattle.xc_kernel.specs.Calls.{CopiesCall, path_of_result, call_by, right_copy, value_of, right_is_unsigned}
use Rattle.xc_kernel.specs.Declarations.{initial_copy, kind_copy, declarations_copy}
use Rattle.xc_kernel.specs.Transfers.{channel_of, time_of, stamp_of, condition_of, output_of, input_of, target_of, target_copy, behind_target, input_names}
use Rattle.xc_kernel.specs.Flow.{first_of, test_or_true, numbered_copy, replicated}
use Rattle.xc_kernel.specs.Statements.{pos_of_branch, assign_by, return_copy, branch_copy}
use Rattle.xc_wellformed.specs.Stacks.{Frame, Stack, with_decl, after, Resolves}
use Rattle.xc_wellformed.specs.Denotes.{HasVariable, HasChannel, head_of, a_variable, whole_array, word_referred, element_referred, array_referred, the_channel, the_end, the_timer, the_port, port_given, the_index, the_function, none_there}
use Rattle.xc_wellformed.specs.Each.{EachMaybe, EachPlace, EachCondition, EachOutput, EachInput, EachBranch}
use Rattle.xc_wellformed.proofs.Shaped.{ShapedArguments, ShapedRight, ShapedMaybeRight, ShapedMaybeExpression, ShapedTime, ShapedStamp, ShapedCondition, ShapedTarget, ShapedOutput, ShapedInput, ShapedKind, ShapedDeclarations, OnlyValue, IsStepAtMost}
use Rattle.xc_wellformed.proofs.Talks.{talks, talks_both, CallsSilent}
use Rattle.xc_meaning.proofs.Recursion.Scopes as scopes
use Rattle.xc_wellformed.proofs.Stacks.{Quiet, silent, after_both, resolves_both, scope_ends, quiet_split, quiet_skip, quiet_after, quiet_both, quiet_optional, quiet_expression, quiet_right, quiet_timing, quiet_condition}
use Rattle.xc_wellformed.proofs.Walk.Arguments.{AllIn, split, both, AllFit, IsFine}
use Rattle.xc_wellformed.proofs.Walk.Arguments as walk

module _ (n : NamedProgram) (fs : List Function) (ps : List PortUse) (num : Numbering) (H J : ℕ → Path → Type 0) (here : ℕ) where
  module _ (X V : tree.Expression → Type 0) (S : ℕ → Type 0) (E F : kernel.Expression → Type 0) (L : kernel.Place → Type 0) (Z : ℕ → Type 0) (O : kernel.Output → Type 0) (I : kernel.Input → Type 0) (T : ℕ → Type 0) where
    module _ (leaves : walk.Leaves n fs ps num H J here X V S E F L Z O I T) (gs : Frame) where
      module _ (C : tree.Call → Type 0) (copies : CopiesCall) (calls_are : (walk.CallsWell n fs ps num H J here X V S E F L Z O I T leaves gs) C copies) (mute : CallsSilent copies) where
        pub record RightWell (c : Context) (scope : Scope) (st : Stack) (is_right_side : Bool) (r : tree.RightSide) : Type 0 where
          pub well : (walk.Well n fs ps num H J here X V S E F L Z O I T) st (right_copy copies c scope r)
          pub value : is_right_side ≡ true → F (value_of c scope r)

        call_by_well : (c : Context) (scope : Scope) (st : Stack) (around : Enclosing) (k : ℕ) (b : Bool) (call : tree.Call) (o : Option Function) → function_named fs call.called.text ≡ o → function_named c.functions call.called.text ≡ o → (walk.Sits n fs ps num H J here X V S E F L Z O I T leaves gs) c scope st around → Resolves n (k + 1) st (marks.each marks.of_argument call.arguments) → is_some (option_map head_of o) ≡ true → (walk.CallFacts n fs ps num H J here X V S E F L Z O I T leaves gs) (k + 1) call.arguments b (option_map head_of o) →
            C call → ShapedArguments X V S C call.arguments → (walk.Made n fs ps num H J here X V S E F L Z O I T) (call_by copies c scope call.called.pos call.arguments o) →
            (walk.Well n fs ps num H J here X V S E F L Z O I T) st (call_by copies c scope call.called.pos call.arguments o) × (b ≡ true → F (kernel.read (word_of c.numbering (path_of_result c call.called.pos o))))
        call_by_well c scope st around k b call None e q s r there facts x xs m = (walk.no n fs ps num H J here X V S E F L Z O I T leaves gs) there
        call_by_well c scope st around k b call (Some f) e q s r there facts x xs m =
            let long : length call.arguments ≡ length f.head.params = sym ((walk.as_many n fs ps num H J here X V S E F L Z O I T leaves gs) (k + 1) f.head.params call.arguments) ∙ (walk.equal n fs ps num H J here X V S E F L Z O I T leaves gs) _ _ facts.0 in
            let w = calls_are call f e x c scope st around (k + 1) s r facts.1.1.1 xs long facts.1.0 m in
            (w.well, λ t. (walk.read_at_path n fs ps num H J here X V S E F L Z O I T leaves gs) c s.numbers (path_at (path_at c.path call.called.pos) f.head.name.pos) (w.result (facts.1.1.0 t)))

        pub right_well : (c : Context) (scope : Scope) (st : Stack) (around : Enclosing) (k : ℕ) (b : Bool) (r : tree.RightSide) → (walk.Sits n fs ps num H J here X V S E F L Z O I T leaves gs) c scope st around → Resolves n k st (marks.of_right r) → AllIn IsFine (site.of_right n around k b r) → ShapedRight X V S C r → (walk.Made n fs ps num H J here X V S E F L Z O I T) (right_copy copies c scope r) → RightWell c scope st b r
        right_well c scope st around k b (tree.value e) s r g x m = record { well = (walk.nothing_well n fs ps num H J here X V S E F L Z O I T leaves gs) c scope st around s; value = λ t. (walk.ex_at n fs ps num H J here X V S E F L Z O I T leaves gs) c scope st around k e s r g x }
        right_well c scope st around k b (tree.result call) s r g x m =
            let meant = (walk.function_there n fs ps num H J here X V S E F L Z O I T leaves gs) c scope st around s call.called.text _ _ ((walk.standing n fs ps num H J here) st scope k call.called.text s.known r.0) g.0.0 in
            let there = subst (λ (h : Option tree.Head). is_some h ≡ true) meant g.0.0 in
            let facts = subst ((walk.CallFacts n fs ps num H J here X V S E F L Z O I T leaves gs) (k + 1) call.arguments b) meant (g.0.1.0, (g.0.1.1.0, (g.0.1.1.1, g.1))) in
            let e : function_named c.functions call.called.text ≡ function_named fs call.called.text = ap (λ (xs : List Function). function_named xs call.called.text) s.functions_are in
            let w = call_by_well c scope st around k b call (function_named c.functions call.called.text) (sym e) refl s r.1
            (subst (λ (o : Option Function). is_some (option_map head_of o) ≡ true) (sym e) there)
            (subst (λ (o : Option Function). (walk.CallFacts n fs ps num H J here X V S E F L Z O I T leaves gs) (k + 1) call.arguments b (option_map head_of o)) (sym e) facts) x.0 x.1 m in
            record { well = w.0; value = w.1 }

        initial_well : (c : Context) (path : Path) (r : Option tree.RightSide) (scope : Scope) (st : Stack) (around : Enclosing) (k : ℕ) → (walk.Sits n fs ps num H J here X V S E F L Z O I T leaves gs) c scope st around → HasVariable num (H here) path false 1 → Resolves n k st (marks.optional marks.of_right r) → AllIn IsFine (site.optional (site.of_right n around k true) r) → ShapedMaybeRight X V S C r → (walk.Made n fs ps num H J here X V S E F L Z O I T) (initial_copy copies c path r scope) → (walk.Well n fs ps num H J here X V S E F L Z O I T) st (initial_copy copies c path r scope)
        initial_well c path None scope st around k s h r g x m = record { code = ((walk.zero_at_path n fs ps num H J here X V S E F L Z O I T leaves gs) c s.numbers path false 1 h, tt); scope = s.known }
        initial_well c path (Some e) scope st around k s h r g x m =
            let w = right_well c scope st around k true e s r g x ((walk.made_both n fs ps num H J here X V S E F L Z O I T) (right_copy copies c scope e) _ m).0 in
            record { code = both (walk.Good n fs ps num H J here X V S E F L Z O I T) (right_copy copies c scope e).code _ w.well.code (((walk.word_at_path n fs ps num H J here X V S E F L Z O I T leaves gs) c s.numbers path h, leaves.weaker _ (w.value refl)), tt); scope = s.known }

        -- behind a declaration
        kind_well : (c : Context) (scope : Scope) (st : Stack) (around : Enclosing) (k : ℕ) (name : Id) (kind : tree.Kind) → (walk.Sits n fs ps num H J here X V S E F L Z O I T leaves gs) c scope st around → Resolves n k st (marks.of_declaration (record { kind = kind; name = name })) → AllIn IsFine (site.of_kind n around (k + 1) kind) → ShapedKind X V S C kind → (walk.Made n fs ps num H J here X V S E F L Z O I T) (kind_copy copies c scope name.text name.pos kind) → (walk.Well n fs ps num H J here X V S E F L Z O I T) (after st (marks.of_declaration (record { kind = kind; name = name }))) (kind_copy copies c scope name.text name.pos kind)
        kind_well c scope st around k name (tree.word u r) s rs g x m =
            let d : Decl = record { name = name; what = what.Word u } in
            let path = path_at c.path name.pos in
            let inner = with_name scope name.text (a_word path u) in
            let m2 = (walk.made_both n fs ps num H J here X V S E F L Z O I T) (Rattle.xc_kernel.specs.Context.declares_word c name.text name.pos u scope) (initial_copy copies c path r inner) m in
            let h = (walk.own_variable n fs ps num H J here) c.core path false 1 s.core_is m2.0.variables.0 in
            let su = with_decl d st in
            let sits = (walk.with_names n fs ps num H J here X V S E F L Z O I T leaves gs) c scope inner st su around around (λ t. t) ((walk.with_declared n fs ps num H J here) st scope d (a_word path u) (λ t. a_variable h) (c.path, refl) s.known) s in
            let w = initial_well c path r inner su around (k + 1) sits h rs.1 g x m2.1 in
            (walk.at_stack n fs ps num H J here X V S E F L Z O I T) su _ (kind_copy copies c scope name.text name.pos (tree.word u r)) (sym (quiet_after su (marks.optional marks.of_right r) (quiet_optional marks.of_right quiet_right r))) (record { code = w.code; scope = w.scope })
        kind_well c scope st around k name (tree.array u l p) s rs g x m =
            let d : Decl = record { name = name; what = what.Array u l } in
            let path = path_at c.path name.pos in
            let h = (walk.own_variable n fs ps num H J here) c.core path true l s.core_is m.variables.0 in
            record { code = ((walk.zero_at_path n fs ps num H J here X V S E F L Z O I T leaves gs) c s.numbers path true l h, tt); scope = (walk.with_declared n fs ps num H J here) st scope d (an_array path l u) (λ t. whole_array h) (c.path, refl) s.known }
        kind_well c scope st around k name (tree.channel b) s rs g x m =
            let d : Decl = record { name = name; what = what.Chan b } in
            record { code = tt; scope = (walk.with_declared n fs ps num H J here) st scope d (a_channel (path_at c.path name.pos)) (λ t. the_channel m.channels.0) (c.path, refl) s.known }
        kind_well c scope st around k name tree.timer s rs g x m =
            let d : Decl = record { name = name; what = what.Timer } in
            record { code = tt; scope = (walk.with_declared n fs ps num H J here) st scope d (a_timer (path_at c.path name.pos)) (λ t. the_timer ((walk.own_timer n fs ps num H J here) c.core (path_at c.path name.pos) s.core_is m.timers.0)) (c.path, refl) s.known }

        followed_well : (st su sv : Stack) (a : Copy) (next : Scope → Copy) → (walk.Made n fs ps num H J here X V S E F L Z O I T) (followed_by a next) → ((walk.Made n fs ps num H J here X V S E F L Z O I T) a → (walk.Well n fs ps num H J here X V S E F L Z O I T) su a) → ((walk.Well n fs ps num H J here X V S E F L Z O I T) su a → (walk.Made n fs ps num H J here X V S E F L Z O I T) (next a.scope) → (walk.Well n fs ps num H J here X V S E F L Z O I T) sv (next a.scope)) → (walk.Well n fs ps num H J here X V S E F L Z O I T) sv (followed_by a next)
        followed_well st su sv a next m h g =
            let k = (walk.made_both n fs ps num H J here X V S E F L Z O I T) a (next a.scope) m in
            let w = h k.0 in
            let v = g w k.1 in
            record { code = both (walk.Good n fs ps num H J here X V S E F L Z O I T) a.code (next a.scope).code w.code v.code; scope = v.scope }

        pub declarations_well : (ds : List tree.Declaration) (c : Context) (scope : Scope) (st : Stack) (around : Enclosing) (k : ℕ) → (walk.Sits n fs ps num H J here X V S E F L Z O I T leaves gs) c scope st around → Resolves n k st (marks.each marks.of_declaration ds) → AllIn IsFine (site.of_declarations n around k ds) → ShapedDeclarations X V S C ds → (walk.Made n fs ps num H J here X V S E F L Z O I T) (declarations_copy copies c ds scope) → (walk.Well n fs ps num H J here X V S E F L Z O I T) (after st (marks.each marks.of_declaration ds)) (declarations_copy copies c ds scope)
        declarations_well [] c scope st around k s r g x m = (walk.nothing_well n fs ps num H J here X V S E F L Z O I T leaves gs) c scope st around s
        declarations_well (d ∷ ds) c scope st around k s r g x m =
            let r2 = resolves_both n k st (marks.of_declaration d) (marks.each marks.of_declaration ds) r in
            let g2 = split IsFine (site.of_kind n around (k + 1) d.kind) _ g in
            let su = after st (marks.of_declaration d) in
            (walk.at_stack n fs ps num H J here X V S E F L Z O I T) _ _ (declarations_copy copies c (d ∷ ds) scope) (sym (after_both st (marks.of_declaration d) (marks.each marks.of_declaration ds)))
            (followed_well st su (after su (marks.each marks.of_declaration ds)) (kind_copy copies c scope d.name.text d.name.pos d.kind) (declarations_copy copies c ds) m
            (λ m1. kind_well c scope st around k d.name d.kind s r2.0 g2.0 x.0 m1)
            (λ w m2. declarations_well ds c _ su around (past k (marks.of_declaration d)) ((walk.with_names n fs ps num H J here X V S E F L Z O I T leaves gs) c scope _ st su around around (λ t. t) w.scope s) r2.1 g2.1 x.1 m2))

        -- assignments

        pub assign_well : (c : Context) (scope : Scope) (st : Stack) (around : Enclosing) (k : ℕ) (to : tree.Expression) (symbol : ℕ) (pos : Pos) (r : tree.RightSide) (b : Bool) → (walk.Sits n fs ps num H J here X V S E F L Z O I T leaves gs) c scope st around → Resolves n k st (marks.of_expression to ++ marks.of_right r) → AllIn IsFine (site.of_lval n k to ++ site.of_right n around (past k (marks.of_expression to)) true r) → V to → S symbol → ShapedRight X V S C r → OnlyValue X V S C b r → (walk.Made n fs ps num H J here X V S E F L Z O I T) (assign_by copies c scope to symbol pos r b) → (walk.Well n fs ps num H J here X V S E F L Z O I T) st (assign_by copies c scope to symbol pos r b)
        assign_well c scope st around k to symbol pos r true s rs g v y x o m =
            let r2 = quiet_split n k st (marks.of_expression to) (marks.of_right r) (quiet_expression to) rs in
            let g2 = split IsFine (site.of_lval n k to) _ g in
            let w = right_well c scope st around (past k (marks.of_expression to)) true r s r2.1 g2.1 x ((walk.made_both n fs ps num H J here X V S E F L Z O I T) (right_copy copies c scope r) _ m).0 in
            record { code = both (walk.Good n fs ps num H J here X V S E F L Z O I T) (right_copy copies c scope r).code _ w.well.code (((walk.lval_at n fs ps num H J here X V S E F L Z O I T leaves gs) c scope st around k to s r2.0 g2.0 v, leaves.weaker _ (w.value refl)), tt); scope = s.known }
        assign_well c scope st around k to symbol pos (tree.value e) false s rs g v y x o m =
            let r2 = quiet_split n k st (marks.of_expression to) (marks.of_expression e) (quiet_expression to) rs in
            let g2 = split IsFine (site.of_lval n k to) _ g in
            let up = subst (λ (q : Numbering). E (updated q scope to symbol pos (right_is_unsigned scope (tree.value e)) (expression_in q scope e))) (sym s.numbers)
            (leaves.updating to k st scope s.known r2.0 g2.0 v symbol y pos e (past k (marks.of_expression to)) r2.1 g2.1 x) in
            record { code = (((walk.lval_at n fs ps num H J here X V S E F L Z O I T leaves gs) c scope st around k to s r2.0 g2.0 v, up), tt); scope = s.known }
        assign_well c scope st around k to symbol pos (tree.result call) false s rs g v y x o m = absurd o

        pub step_well : (c : Context) (scope : Scope) (st : Stack) (around : Enclosing) (k : ℕ) (to : tree.Expression) (symbol : ℕ) (pos : Pos) → (walk.Sits n fs ps num H J here X V S E F L Z O I T leaves gs) c scope st around → Resolves n k st (marks.of_expression to) → AllIn IsFine (site.of_lval n k to) → V to → S symbol → AllIn (walk.Good n fs ps num H J here X V S E F L Z O I T) (kernel.set (place c scope to) (updated c.numbering scope to symbol pos false (kernel.number 1)) ∷ [])
        step_well c scope st around k to symbol pos s r g v y = (
          (
            (walk.lval_at n fs ps num H J here X V S E F L Z O I T leaves gs) c scope st around k to s r g v,
            subst (λ (q : Numbering). E (updated q scope to symbol pos false (kernel.number 1))) (sym s.numbers) (leaves.stepping to k st scope s.known r g v symbol y pos),
          ),
          tt,
        )

        -- a `return`
        result_is : (c : Context) (scope : Scope) (st : Stack) (around : Enclosing) → (walk.Sits n fs ps num H J here X V S E F L Z O I T leaves gs) c scope st around → agree true (is_some around.function.result) ≡ true → in_par_or_transaction around.holders ≡ false → HasVariable num (H here) c.result false 1
        result_is c scope st around s e f = s.result_there (f, e)

        pub return_well : (c : Context) (scope : Scope) (st : Stack) (around : Enclosing) (k : ℕ) (r : Option tree.RightSide) → (walk.Sits n fs ps num H J here X V S E F L Z O I T leaves gs) c scope st around → Resolves n k st (marks.optional marks.of_right r) → (agree (is_some r) (is_some around.function.result) ≡ true) × (in_par_or_transaction around.holders ≡ false) → AllIn IsFine (site.optional (site.of_right n around k true) r) → ShapedMaybeRight X V S C r → (walk.Made n fs ps num H J here X V S E F L Z O I T) (return_copy copies c scope r) → (walk.Well n fs ps num H J here X V S E F L Z O I T) st (return_copy copies c scope r)
        return_well c scope st around k None s rs a g x m = record { code = (tt, tt); scope = s.known }
        return_well c scope st around k (Some r) s rs a g x m =
            let w = right_well c scope st around k true r s rs g x ((walk.made_both n fs ps num H J here X V S E F L Z O I T) (right_copy copies c scope r) _ m).0 in
            record { code = both (walk.Good n fs ps num H J here X V S E F L Z O I T) (right_copy copies c scope r).code _ w.well.code (((walk.word_at_path n fs ps num H J here X V S E F L Z O I T leaves gs) c s.numbers c.result (result_is c scope st around s a.0 a.1), leaves.weaker _ (w.value refl)), (tt, tt)); scope = s.known }

        -- transfers

        time_well : (c : Context) (scope : Scope) (st : Stack) (around : Enclosing) (k : ℕ) (y : Name) (o : Option tree.Timing) → (walk.Sits n fs ps num H J here X V S E F L Z O I T leaves gs) c scope st around → Resolves n k st (marks.optional marks.of_timing o) → AllIn IsFine (site.optional (site.of_time n k y) o) → ShapedTime X V S C o → EachMaybe E L Z O I T (option_map (time_of c scope) o)
        time_well c scope st around k y None s r g x = tt
        time_well c scope st around k y (Some t) s r g x = (walk.test_at n fs ps num H J here X V S E F L Z O I T leaves gs) c scope st around k t.value s r g.1 x

        stamp_well : (c : Context) (scope : Scope) (st : Stack) (around : Enclosing) (k : ℕ) (y : Name) (o : Option tree.Timing) → (walk.Sits n fs ps num H J here X V S E F L Z O I T leaves gs) c scope st around → Resolves n k st (marks.optional marks.of_timing o) → AllIn IsFine (site.optional (site.of_stamp n k y) o) → ShapedStamp X V S C o → EachPlace E L Z O I T (option_map (stamp_of c scope) o)
        stamp_well c scope st around k y None s r g x = tt
        stamp_well c scope st around k y (Some t) s r g x = (walk.lval_at n fs ps num H J here X V S E F L Z O I T leaves gs) c scope st around k t.value s r g.1 x

        condition_well : (c : Context) (scope : Scope) (st : Stack) (around : Enclosing) (k : ℕ) (y : Name) (o : Option tree.Condition) → (walk.Sits n fs ps num H J here X V S E F L Z O I T leaves gs) c scope st around → Resolves n k st (marks.optional marks.of_condition o) → AllIn IsFine (site.optional (site.of_condition n k y) o) → ShapedCondition X V S C o → EachCondition E L Z O I T (option_map (condition_of c scope) o)
        condition_well c scope st around k y None s r g x = tt
        condition_well c scope st around k y (Some t) s r g x = (walk.test_at n fs ps num H J here X V S E F L Z O I T leaves gs) c scope st around k t.value s r g.1 x

        pub output_well : (c : Context) (scope : Scope) (st : Stack) (around : Enclosing) (k : ℕ) (o : tree.Output) → (walk.Sits n fs ps num H J here X V S E F L Z O I T leaves gs) c scope st around → Resolves n k st (marks.of_output o) → AllIn IsFine (site.of_output n k o) → ShapedOutput X V S C o → EachOutput E L Z O I T (output_of c scope o)
        output_well c scope st around k o s r g x =
            let y = name_at n k o.name in
            let q = quiet_optional marks.of_timing quiet_timing o.time in
            let r2 = quiet_split n (k + 1) st (marks.optional marks.of_timing o.time) (marks.of_expression o.value ++ marks.optional marks.of_timing o.stamp) q r.1 in
            let k2 = past (k + 1) (marks.optional marks.of_timing o.time) in
            let r3 = quiet_split n k2 st (marks.of_expression o.value) (marks.optional marks.of_timing o.stamp) (quiet_expression o.value) r2.1 in
            let g2 = split IsFine (site.optional (site.of_time n (k + 1) y) o.time) _ g.1 in
            let g3 = split IsFine (site.of_expression n k2 o.value) _ g2.1 in (
              leaves.going_out c scope o k st s.numbers s.known r g,
              (
                time_well c scope st around (k + 1) y o.time s r2.0 g2.0 x.0,
                ((walk.test_at n fs ps num H J here X V S E F L Z O I T leaves gs) c scope st around k2 o.value s r3.0 g3.0 x.1.0, stamp_well c scope st around (past k2 (marks.of_expression o.value)) y o.stamp s r3.1 g3.1 x.1.1),
              ),
            )

        target_known : (c : Context) (scope : Scope) (st : Stack) (t : tree.Target) → c.core ≡ here → (walk.Known n fs ps num H J here) st scope → (walk.Made n fs ps num H J here X V S E F L Z O I T) (target_copy c scope t) → (walk.Known n fs ps num H J here) (after st (marks.of_target t)) (target_copy c scope t).scope
        target_known c scope st (tree.to e) on a m = subst (λ (x : Stack). (walk.Known n fs ps num H J here) x scope) (sym (quiet_after st (marks.of_expression e) (quiet_expression e))) a
        target_known c scope st tree.dropped on a m = a
        target_known c scope st (tree.fresh u name) on a m = (walk.with_declared n fs ps num H J here) st scope (record { name = name; what = what.Word u }) (a_word (path_at c.path name.pos) u) (λ t. a_variable ((walk.own_variable n fs ps num H J here) c.core (path_at c.path name.pos) false 1 on m.variables.0)) (c.path, refl) a

        target_well : (c : Context) (scope : Scope) (st : Stack) (around : Enclosing) (k : ℕ) (t : tree.Target) → (walk.Sits n fs ps num H J here X V S E F L Z O I T leaves gs) c scope st around → Resolves n k st (marks.of_target t) → AllIn IsFine (site.of_target n k t) → ShapedTarget X V S C t → (walk.Made n fs ps num H J here X V S E F L Z O I T) (target_copy c scope t) → EachPlace E L Z O I T (target_of c scope t)
        target_well c scope st around k (tree.to e) s r g x m = (walk.lval_at n fs ps num H J here X V S E F L Z O I T leaves gs) c scope st around k e s r g x
        target_well c scope st around k tree.dropped s r g x m = tt
        target_well c scope st around k (tree.fresh u name) s r g x m = (walk.word_at_path n fs ps num H J here X V S E F L Z O I T leaves gs) c s.numbers (path_at c.path name.pos) ((walk.own_variable n fs ps num H J here) c.core (path_at c.path name.pos) false 1 s.core_is m.variables.0)

        input_stack : (st : Stack) (i : tree.Input) → after (after st (marks.of_target i.target)) (marks.optional marks.of_timing i.stamp) ≡ after st (marks.of_target i.target)
        input_stack st i = quiet_after _ (marks.optional marks.of_timing i.stamp) (quiet_optional marks.of_timing quiet_timing i.stamp)

        -- behind an input its target is known
        behind_input : (st : Stack) (i : tree.Input) → after st (marks.of_input i) ≡ after st (marks.of_target i.target)
        behind_input st i =
            quiet_skip st (marks.optional marks.of_timing i.time) (marks.optional marks.of_condition i.condition ++ (marks.of_target i.target ++ marks.optional marks.of_timing i.stamp)) (quiet_optional marks.of_timing quiet_timing i.time)
            ∙ quiet_skip st (marks.optional marks.of_condition i.condition) (marks.of_target i.target ++ marks.optional marks.of_timing i.stamp) (quiet_optional marks.of_condition quiet_condition i.condition)
            ∙ after_both st (marks.of_target i.target) (marks.optional marks.of_timing i.stamp) ∙ input_stack st i

        pub input_known : (c : Context) (scope : Scope) (st : Stack) (i : tree.Input) → c.core ≡ here → (walk.Known n fs ps num H J here) st scope → (walk.Made n fs ps num H J here X V S E F L Z O I T) (input_names c scope i) → (walk.Known n fs ps num H J here) (after st (marks.of_input i)) (input_names c scope i).scope
        input_known c scope st i on a m = subst (λ (x : Stack). (walk.Known n fs ps num H J here) x (target_copy c scope i.target).scope) (sym (behind_input st i)) (target_known c scope st i.target on a (record { variables = m.variables; channels = m.channels; timers = m.timers }))

        pub input_well : (c : Context) (scope : Scope) (st : Stack) (around : Enclosing) (k : ℕ) (i : tree.Input) → (walk.Sits n fs ps num H J here X V S E F L Z O I T leaves gs) c scope st around → Resolves n k st (marks.of_input i) → AllIn IsFine (site.of_input n k i) → ShapedInput X V S C i → (walk.Made n fs ps num H J here X V S E F L Z O I T) (input_names c scope i) → EachInput E L Z O I T (input_of c scope i)
        input_well c scope st around k i s r g x m =
            let y = name_at n k i.name in
            let r2 = quiet_split n (k + 1) st (marks.optional marks.of_timing i.time) (marks.optional marks.of_condition i.condition ++ (marks.of_target i.target ++ marks.optional marks.of_timing i.stamp)) (quiet_optional marks.of_timing quiet_timing i.time) r.1 in
            let k2 = past (k + 1) (marks.optional marks.of_timing i.time) in
            let r3 = quiet_split n k2 st (marks.optional marks.of_condition i.condition) (marks.of_target i.target ++ marks.optional marks.of_timing i.stamp) (quiet_optional marks.of_condition quiet_condition i.condition) r2.1 in
            let k3 = past k2 (marks.optional marks.of_condition i.condition) in
            let r4 = resolves_both n k3 st (marks.of_target i.target) (marks.optional marks.of_timing i.stamp) r3.1 in
            let g2 = split IsFine (site.optional (site.of_time n (k + 1) y) i.time) _ g.1 in
            let g3 = split IsFine (site.optional (site.of_condition n k2 y) i.condition) _ g2.1 in
            let g4 = split IsFine (site.of_target n k3 i.target) _ g3.1 in
            let mt : (walk.Made n fs ps num H J here X V S E F L Z O I T) (target_copy c scope i.target) = record { variables = m.variables; channels = m.channels; timers = m.timers } in
            let su = after st (marks.of_target i.target) in
            let sits = (walk.with_names n fs ps num H J here X V S E F L Z O I T leaves gs) c scope (target_copy c scope i.target).scope st su around around (λ t. t) (target_known c scope st i.target s.core_is s.known mt) s in (
              leaves.coming_in c scope i k st s.numbers s.known r g x.0,
              (
                time_well c scope st around (k + 1) y i.time s r2.0 g2.0 x.1.0,
                (
                  condition_well c scope st around k2 y i.condition s r3.0 g3.0 x.1.1.0,
                  (
                    target_well c scope st around k3 i.target s r4.0 g4.0 x.1.1.1.0 mt,
                    stamp_well c (behind_target c scope i) su around (past k3 (marks.of_target i.target)) y i.stamp sits r4.1 g4.1 x.1.1.1.1,
                  ),
                ),
              ),
            )

        -- what is heard in a part of a transaction: its copy names channels that are there, and one where the part communicates
        pub record Heard (sites : List Site) (copy : Copy) : Type 0 where
          pub each : AllIn (HasChannel num) copy.named
          pub some : talks sites ≡ true → is_empty copy.named ≡ false

        pub nothing_heard : (sites : List Site) (copy : Copy) → copy.named ≡ [] → talks sites ≡ false → Heard sites copy
        nothing_heard sites copy e f = record { each = subst (AllIn (HasChannel num)) (sym e) tt; some = λ t. absurd (true≢false (sym t ∙ f)) }

        left_empty : (xs ys : List Path) → is_empty xs ≡ false → is_empty (xs ++ ys) ≡ false
        left_empty [] ys e = absurd (true≢false e)
        left_empty (x ∷ xs) ys e = refl

        right_empty : (xs ys : List Path) → is_empty ys ≡ false → is_empty (xs ++ ys) ≡ false
        right_empty [] ys e = e
        right_empty (x ∷ xs) ys e = refl

        pub heard_both : (xs ys : List Site) (a b : Copy) → Heard xs a → Heard ys b → Heard (xs ++ ys) (joined a b)
        heard_both xs ys a b h g = record { each = both (HasChannel num) a.named b.named h.each g.each; some = λ t. by (talks_both xs ys t) }
          where
            by : (talks xs ≡ true) ⊎ (talks ys ≡ true) → is_empty (a.named ++ b.named) ≡ false
            by (inl t) = left_empty a.named b.named (h.some t)
            by (inr t) = right_empty a.named b.named (g.some t)

        -- parts that don't communicate before and behind
        pub heard_behind : (xs ys : List Site) (copy : Copy) → talks xs ≡ false → Heard ys copy → Heard (xs ++ ys) copy
        heard_behind xs ys copy e h = record { each = h.each; some = λ t. by (talks_both xs ys t) }
          where
            by : (talks xs ≡ true) ⊎ (talks ys ≡ true) → is_empty copy.named ≡ false
            by (inl t) = absurd (true≢false (sym t ∙ e))
            by (inr t) = h.some t

        pub heard_before : (xs ys : List Site) (copy : Copy) → talks ys ≡ false → Heard xs copy → Heard (xs ++ ys) copy
        heard_before xs ys copy e h = record { each = h.each; some = λ t. by (talks_both xs ys t) }
          where
            by : (talks xs ≡ true) ⊎ (talks ys ≡ true) → is_empty copy.named ≡ false
            by (inl t) = h.some t
            by (inr t) = absurd (true≢false (sym t ∙ e))

        pub heard_same : (xs : List Site) (a b : Copy) → a.named ≡ b.named → Heard xs a → Heard xs b
        heard_same xs a b e h = record { each = subst (AllIn (HasChannel num)) e h.each; some = λ t. subst (λ (ps : List Path). is_empty ps ≡ false) e (h.some t) }

        -- the channel that a name stands for
        pub channel_heard : (t : List ℕ) (w : Option What) (x : Entity) → (walk.Standing n fs ps num H J here) t w x → AllIn (HasChannel num) (channel_of x) × (is_channel w ≡ true → is_empty (channel_of x) ≡ false)
        channel_heard t _ _ (the_channel h) = ((h, tt), λ e. refl)
        channel_heard t _ _ (the_end h) = ((h, tt), λ e. refl)
        channel_heard t _ _ (a_variable h) = (tt, λ e. (walk.no n fs ps num H J here X V S E F L Z O I T leaves gs) e)
        channel_heard t _ _ (whole_array h) = (tt, λ e. (walk.no n fs ps num H J here X V S E F L Z O I T leaves gs) e)
        channel_heard t _ _ (word_referred h) = (tt, λ e. (walk.no n fs ps num H J here X V S E F L Z O I T leaves gs) e)
        channel_heard t _ _ (element_referred h g) = (tt, λ e. (walk.no n fs ps num H J here X V S E F L Z O I T leaves gs) e)
        channel_heard t _ _ (array_referred told h) = (tt, λ e. (walk.no n fs ps num H J here X V S E F L Z O I T leaves gs) e)
        channel_heard t _ _ (the_timer h) = (tt, λ e. (walk.no n fs ps num H J here X V S E F L Z O I T leaves gs) e)
        channel_heard t _ _ (the_port h) = (tt, λ e. (walk.no n fs ps num H J here X V S E F L Z O I T leaves gs) e)
        channel_heard t _ _ (port_given h) = (tt, λ e. (walk.no n fs ps num H J here X V S E F L Z O I T leaves gs) e)
        channel_heard t _ _ the_index = (tt, λ e. (walk.no n fs ps num H J here X V S E F L Z O I T leaves gs) e)
        channel_heard t _ _ (the_function h) = (tt, λ e. (walk.no n fs ps num H J here X V S E F L Z O I T leaves gs) e)
        channel_heard t _ _ none_there = (tt, λ e. (walk.no n fs ps num H J here X V S E F L Z O I T leaves gs) e)

        pub first_heard : (ps : List Path) → AllIn (HasChannel num) ps → is_empty ps ≡ false → HasChannel num (first_of ps)
        first_heard [] h e = absurd (true≢false e)
        first_heard (p ∷ ps) h e = h.0

        -- statements

        pub loop_well : (c : Context) (path : Path) (test : kernel.Expression) (body more next : List kernel.Statement) → E test → AllIn (walk.Good n fs ps num H J here X V S E F L Z O I T) body → AllIn (walk.Good n fs ps num H J here X V S E F L Z O I T) more → AllIn (walk.Good n fs ps num H J here X V S E F L Z O I T) next →
            (walk.Good n fs ps num H J here X V S E F L Z O I T) (block_at c path (kernel.loop test (kernel.statements (block_at c (path_of_turn path) body ∷ more)) (kernel.statements next) ∷ []))
        loop_well c path test body more next e h g k = ((e, (((walk.as_statements n fs ps num H J here X V S E F L Z O I T) body h, (walk.as_statements n fs ps num H J here X V S E F L Z O I T) more g), (walk.as_statements n fs ps num H J here X V S E F L Z O I T) next k)), tt)

        -- what follows each turn declares nothing
        pub step_quiet : (x : tree.Maybe) → IsStepAtMost X V S C x → Quiet (marks.of_maybe x)
        step_quiet tree.absent h = silent
        step_quiet (tree.present (tree.statement (tree.assign to symbol pos r) p close own)) h = quiet_both _ _ (quiet_expression to) (quiet_right r)
        step_quiet (tree.present (tree.statement (tree.step to symbol) p close own)) h = quiet_expression to
        step_quiet (tree.present (tree.statement other p close own)) h = absurd h

        pub three : (k : ℕ) → ((k + 1) + 1) + 1 ≡ k + 3
        three k = omega arith

        -- in so many copies of a branch, each by its number
        pub record BranchesWell (st : Stack) (scope : Scope) (bs : kernel.Branches) : Type 0 where
          pub code : EachBranch E L Z O I T bs
          pub known : (walk.Known n fs ps num H J here) st scope

        pub numbered_well : (b : tree.Branch) (c : Context) (scope : Scope) (name : Id) (st : Stack) (around : Enclosing) → (walk.Sits n fs ps num H J here X V S E F L Z O I T leaves gs) c scope st around → (count index number : ℕ) →
            ((d : Context) (other : Scope) → (walk.Sits n fs ps num H J here X V S E F L Z O I T leaves gs) d other (with_decl (record { name = name; what = what.Index }) ([] ∷ st)) around → (walk.Made n fs ps num H J here X V S E F L Z O I T) (branch_copy copies b d other) → AllIn (walk.Good n fs ps num H J here X V S E F L Z O I T) (branch_copy copies b d other).code) →
            (walk.Made n fs ps num H J here X V S E F L Z O I T) (replicated (numbered_copy (branch_copy copies b) c scope name.text) (pos_of_branch b) scope count index number).made →
            BranchesWell st (replicated (numbered_copy (branch_copy copies b) c scope name.text) (pos_of_branch b) scope count index number).made.scope (replicated (numbered_copy (branch_copy copies b) c scope name.text) (pos_of_branch b) scope count index number).branches
        numbered_well b c scope name st around s zero index number rec m = record { code = tt; known = s.known }
        numbered_well b c scope name st around s (suc count) index number rec m =
            let d : Decl = record { name = name; what = what.Index } in
            let inner = with_name scope name.text (a_constant number) in
            let one = branch_copy copies b (in_branch c index) inner in
            let others = (replicated (numbered_copy (branch_copy copies b) c scope name.text) (pos_of_branch b) scope count (index + 1) (number + 1)).made in
            let k = (walk.made_both n fs ps num H J here X V S E F L Z O I T) (with_code (Rattle.xc_kernel.specs.Copy.in_scope_of scope one) []) others m in
            let known = (walk.with_declared n fs ps num H J here) ([] ∷ st) scope d (a_constant number) (λ t. the_index) tt ((walk.in_new n fs ps num H J here) st scope s.known) in
            let x = rec (in_branch c index) inner ((walk.sits_in n fs ps num H J here X V S E F L Z O I T leaves gs) c (in_branch c index) scope inner st (with_decl d ([] ∷ st)) around around refl refl refl refl refl (λ t. t) known s) (record { variables = k.0.variables; channels = k.0.channels; timers = k.0.timers }) in
            let y = numbered_well b c scope name st around s count (index + 1) (number + 1) rec k.1 in
            record { code = ((walk.as_statements n fs ps num H J here X V S E F L Z O I T) one.code x, y.code); known = y.known }

        pub case_ends : (st : Stack) (a : tree.Case) → after st (marks.of_case a) ≡ st
        case_ends st (tree.case pos guard i ss) = scope_ends st _ (scopes.both _ _ (scopes.maybe marks.of_expression scopes.of_expression guard) (scopes.both _ _ (scopes.maybe marks.of_input scopes.of_input i) (scopes.of_statements ss)))

        pub cases_end : (st : Stack) (cs : tree.Cases) → after st (marks.of_cases cs) ≡ st
        cases_end st tree.no_case = refl
        cases_end st (tree.more_cases a cs) = after_both st (marks.of_case a) (marks.of_cases cs) ∙ ap (λ (z : Stack). after z (marks.of_cases cs)) (case_ends st a) ∙ cases_end st cs

        pub or_one : (c : Context) (scope : Scope) (st : Stack) (around : Enclosing) (k : ℕ) (e : Option tree.Expression) → (walk.Sits n fs ps num H J here X V S E F L Z O I T leaves gs) c scope st around → Resolves n k st (marks.optional marks.of_expression e) → AllIn IsFine (site.optional (site.of_expression n k) e) → ShapedMaybeExpression X V S C e → E (test_or_true (maybe_expression c scope e))
        or_one c scope st around k None s r g x = leaves.weaker _ leaves.one
        or_one c scope st around k (Some e) s r g x = (walk.test_at n fs ps num H J here X V S E F L Z O I T leaves gs) c scope st around k e s r g x

        pub guard_well : (c : Context) (scope : Scope) (st : Stack) (around : Enclosing) (k : ℕ) (e : Option tree.Expression) → (walk.Sits n fs ps num H J here X V S E F L Z O I T leaves gs) c scope st around → Resolves n k st (marks.optional marks.of_expression e) → AllIn IsFine (site.optional (site.of_expression n k) e) → ShapedMaybeExpression X V S C e → EachMaybe E L Z O I T (maybe_expression c scope e)
        guard_well c scope st around k None s r g x = tt
        guard_well c scope st around k (Some e) s r g x = (walk.test_at n fs ps num H J here X V S E F L Z O I T leaves gs) c scope st around k e s r g x
