-- In the copy of a typed program neither a `par` nor a `select` nor a transaction in a transaction uses its channel: statements,
-- functions and calls.
use Rattle.std.proofs.Common.{◌≡◌, inl, inr, ⊎_elim, ℕ, zero, suc, ◌+◌, ◌-◌, Bool, true, false, ◌||◌, IsTrue, List, [], ◌∷◌, ◌++◌, Option, Some, None, nat_eq, refl, sym, ap, subst, ◌∙◌, true≢false, arith, slice_get}
use Rattle.std.proofs.lemmas.Bool.{eqb-true}
use Rattle.xw_words.specs.declared.pos.Pos.{Pos}
use Rattle.xc_tree.specs.declared.names.Decl.{Decl}
use Rattle.xc_tree.specs.declared.names.What.TheVariants as what
use Rattle.xc_tree.specs.declared.names.Mark.TheVariants.{Closes, Uses}
use Rattle.xc_tree.specs.declared.tree.Id.{Id}
use Rattle.xc_tree.specs.Plain as tree
use Rattle.xc_tree.specs.Symbols.{equals}
use Rattle.xc_tree.specs.Names.Marks as marks
use Rattle.xc_tree.specs.Types.Named.{NamedProgram, past, what_at}
use Rattle.xc_tree.specs.Types.Entities.{is_channel}
use Rattle.xc_tree.specs.Types.Sites.{Site}
use Rattle.xc_tree.specs.Types.Sites as site
use Rattle.xc_tree.specs.Shapes.Enclosing.{Enclosing, a_block, an_if, a_loop, a_case, a_branch, a_transaction, inside, in_block_of, in_transaction, is_empty}
use Rattle.xc_kernel.specs.declared.kernel.Chan.{Chan}
use Rattle.xc_kernel.specs.Plain as kernel
use Rattle.xc_kernel.specs.Things.{channel, by_input, by_some_expression, by_branches, by_case, by_cases, by_default}
use Rattle.xc_kernel.specs.Paths.{Path, path_at}
use Rattle.xc_kernel.specs.Numbering.{Numbering, channel_number, variable_number}
use Rattle.xc_kernel.specs.Scopes.{Scope, Entity, a_word, an_array, a_channel, a_timer, a_constant, entity_of, with_name}
use Rattle.xc_kernel.specs.Programs.{Function}
use Rattle.xc_kernel.specs.Copy.{Copy}
use Rattle.xc_kernel.specs.Context as context
use Rattle.xc_kernel.specs.Context.{Context, in_branch, in_loop, in_case, in_function, word_at, set_word, set_zero, leave, place, maybe_expression}
use Rattle.xc_kernel.specs.Expressions.{updated}
use Rattle.xc_kernel.specs.Calls.{CopiesCall, right_is_unsigned, value_of}
use Rattle.xc_kernel.specs.Declarations.{initial_copy, kind_copy, declarations_copy}
use Rattle.xc_kernel.specs.Transfers.{target_copy, input_names, input_of, output_of, channel_of}
use Rattle.xc_kernel.specs.Flow.{first_of, test_or_true, leave_unless, numbered_copy, replicated, case_scope, for_copy}
use Rattle.xc_kernel.specs.Statements.{pos_of_branch, assign_by, return_copy, statement_copy, action_copy, maybe_copy, statements_copy, branch_copy, branches_copy, cases_copy}
use Rattle.xc_kernel.proofs.Used.{by_its_resource, by_resource_of, no_some_expression}
use Rattle.xc_meaning.proofs.Basics.{or_left, or_right, or_cases}
use Rattle.xc_wellformed.specs.Stacks.{Frame, Stack, with_decl, after, Resolves, declared_at, found}
use Rattle.xc_wellformed.proofs.Places.{In}
use Rattle.xc_wellformed.proofs.Spread.{in_left, in_right, weaker}
use Rattle.xc_wellformed.proofs.Shaped.{AnyCall, IsStepAtMost, ShapedStatement, ShapedAction, ShapedMaybe, ShapedStatements, ShapedBranch, ShapedBranches, ShapedCases, Assigns}
use Rattle.xc_wellformed.specs.Operands.{IsProper}
use Rattle.xc_wellformed.proofs.Shaped.{IsProperLval}
use Rattle.xc_wellformed.proofs.Talks.{one_talks, silent_both, silent_expression, silent_lval, silent_right, silent_maybe_right, silent_maybe_expression, silent_declarations, output_talks, input_talks, CallsSilent, talks}
use Rattle.xc_wellformed.proofs.Leaks.{CallsKeep}
use Rattle.xc_meaning.proofs.Recursion.Scopes as scopes
use Rattle.xc_wellformed.proofs.Stacks.{Quiet, silent, after_both, resolves_both, scope_ends, quiet_split, quiet_skip, quiet_after, quiet_both, quiet_optional, quiet_expression, quiet_right, quiet_timing, quiet_condition, quiet_place}
use Rattle.xc_wellformed.proofs.Walk.Arguments.{AllIn, split, both}
use Rattle.xc_invariants.specs.Rules.{AnyThing, AnyPar}
use Rattle.xc_invariants.specs.Every.{EveryBranches, EveryCases, EveryDefault}
use Rattle.xc_invariants.specs.Tidy.{nested_uses, SpeaksAlone}
use Rattle.xc_invariants.proofs.Tidy.{never, not_true}
use Rattle.xc_invariants.proofs.Formed.{expression, some_expression, output, input}
use Rattle.xc_invariants.proofs.Speaking.{in_either, uses, holds, AllTidy, by_one, behind_expression, if_uses, if_holds, loop_uses, loop_holds, number, made, made_left, made_right, Room, room_left, room_right, room_behind, Scoped, EntityIn, scoped_with, no_channel, NamedIn, named_one, is_named, resource_in, Agrees, agrees_with, Part, PartOf, no_use, part_both, recoded, rescoped, resited, silent_before, silent_behind, at_stack}
use Rattle.xc_invariants.proofs.Handed.{IsFineHere, Idle, idle_both, idle_set, idle_zero, meant, Sits, with_names, loop_sits, case_sits, branch_sits, Called, CallsSpeak, OnePart, right_part, then_part}

abbrev pub Shape : tree.Statement → Type 0
Shape = ShapedStatement IsProper IsProperLval Assigns AnyCall

-- where a function's body stands in the text, and that it obeys the rules
pub record IsRight (n : NamedProgram) (gs : Frame) (f : Function) : Type 0 where
  pub params_at : ℕ
  pub params_new : Resolves n params_at ([] ∷ gs ∷ []) (marks.each marks.of_param f.head.params)
  pub body_at : ℕ
  pub resolves : Resolves n body_at (after ([] ∷ gs ∷ []) (marks.each marks.of_param f.head.params)) (marks.of_body f.body)
  pub fine : AllIn IsFineHere (site.of_body n (in_block_of f.head) body_at f.body)
  pub shape : Shape f.body

-- the first of some channels is one of these
first_in : (q : Numbering) (ks : List ℕ) (ps : List Path) → NamedIn q ks ps → is_empty ps ≡ false → In (channel_number q (first_of ps)) ks
first_in q ks [] h e = absurd (true≢false e)
first_in q ks (p ∷ ps) h e = h.0

same_channel : {x y : Path} → a_channel x ≡ a_channel y → x ≡ y
same_channel e = cc

pub three : (k : ℕ) → ((k + 1) + 1) + 1 ≡ k + 3
three k = omega arith

-- leaving a loop uses no channel
leave_none : (d : ℕ) (c : Context) (path : Path) (e : kernel.Expression) → uses d (leave_unless c path e ∷ []) ≡ false
leave_none d c path e = not_true (uses d (leave_unless c path e ∷ [])) (λ h. never (behind_expression d e _ (by_one d _ h)) refl)

step_quiet : (x : tree.Maybe) → IsStepAtMost IsProper IsProperLval Assigns AnyCall x → Quiet (marks.of_maybe x)
step_quiet tree.absent h = silent
step_quiet (tree.present (tree.statement (tree.assign to symbol pos r) p close own)) h = quiet_both _ _ (quiet_expression to) (quiet_right r)
step_quiet (tree.present (tree.statement (tree.step to symbol) p close own)) h = quiet_expression to
step_quiet (tree.present (tree.statement other p close own)) h = absurd h

-- what is known in a part and behind it
widen : (q : Numbering) (d : ℕ) (ks known : List ℕ) (xs ys : List Chan) → ((e : ℕ) → In e known → In e (made q xs)) → In d ((ks ++ known) ++ made q ys) → In d (ks ++ made q (xs ++ ys))
widen q d ks known xs ys f i =
    ⊎_elim (λ l. ⊎_elim (λ k. in_left d ks (made q (xs ++ ys)) k) (λ m. in_right d ks (made q (xs ++ ys)) (made_left q d xs ys (f d m))) (in_either d ks known l)) (λ r. in_right d ks (made q (xs ++ ys)) (made_right q d xs ys r)) (in_either d (ks ++ known) (made q ys) i)

widen_first : (q : Numbering) (d : ℕ) (ks : List ℕ) (xs ys : List Chan) → In d (ks ++ made q xs) → In d (ks ++ made q (xs ++ ys))
widen_first q d ks xs ys i = ⊎_elim (λ k. in_left d ks (made q (xs ++ ys)) k) (λ m. in_right d ks (made q (xs ++ ys)) (made_left q d xs ys m)) (in_either d ks (made q xs) i)

widen_second : (q : Numbering) (d : ℕ) (ks : List ℕ) (xs ys : List Chan) → In d (ks ++ made q ys) → In d (ks ++ made q (xs ++ ys))
widen_second q d ks xs ys i = ⊎_elim (λ k. in_left d ks (made q (xs ++ ys)) k) (λ m. in_right d ks (made q (xs ++ ys)) (made_right q d xs ys m)) (in_either d ks (made q ys) i)

module _ (n : NamedProgram) (fs : List Function) (gs : Frame) where
  -- all that a part knows and hides is made by it
  part_knows : {q : Numbering} {ks : List ℕ} {b : Bool} {xs : List Site} {st : Stack} {ch : List Chan} {named : List Path} {scope : Scope} {code : List kernel.Statement} (p : Part n fs q ks b xs st ch named scope code) (d : ℕ) → In d (ks ++ p.known) → In d (ks ++ made q ch)
  part_knows {q = q} {ks = ks} {ch = ch} p d i = ⊎_elim (λ k. in_left d ks (made q ch) k) (λ m. in_right d ks (made q ch) (p.known_made d m)) (in_either d ks p.known i)

  pub part_uses : {q : Numbering} {ks : List ℕ} {b : Bool} {xs : List Site} {st : Stack} {ch : List Chan} {named : List Path} {scope : Scope} {code : List kernel.Statement} (p : Part n fs q ks b xs st ch named scope code) (d : ℕ) → IsTrue (uses d code) → In d (ks ++ made q ch)
  part_uses {q = q} {ks = ks} {ch = ch} p d u = ⊎_elim (λ k. part_knows p d k) (λ h. in_right d ks (made q ch) (p.hidden_made d h)) (p.used d u)

  part_names : {q : Numbering} {ks : List ℕ} {b : Bool} {xs : List Site} {st : Stack} {ch : List Chan} {named : List Path} {scope : Scope} {code : List kernel.Statement} (p : Part n fs q ks b xs st ch named scope code) → NamedIn q (ks ++ made q ch) named
  part_names {q = q} {ks = ks} {ch = ch} {named = named} p = weaker (λ x. In (number q x) (ks ++ p.known)) (λ x. In (number q x) (ks ++ made q ch)) named (λ x i. part_knows p (number q x) i) p.names

  -- branches of a `par`
  record Branches (q : Numbering) (ks : List ℕ) (st : Stack) (ch : List Chan) (named : List Path) (scope : Scope) (bs : kernel.Branches) : Type 0 where
    agrees : Agrees n fs st scope
    scoped : Scoped q (ks ++ made q ch) scope
    names : NamedIn q (ks ++ made q ch) named
    used : (d : ℕ) → IsTrue (by_branches (channel d) bs) → In d (ks ++ made q ch)
    tidy : EveryBranches AnyThing AnyPar SpeaksAlone bs

  record Cases (q : Numbering) (ks : List ℕ) (ch : List Chan) (named : List Path) (cs : kernel.Cases) (o : kernel.Default) : Type 0 where
    names : NamedIn q (ks ++ made q ch) named
    used : (d : ℕ) → IsTrue (by_cases (channel d) cs || by_default (channel d) o) → In d (ks ++ made q ch)
    tidy : EveryCases AnyThing AnyPar SpeaksAlone cs
    tidy_default : EveryDefault AnyThing AnyPar SpeaksAlone o

  -- outside of transactions all that is made is known
  outside : (q : Numbering) (ks : List ℕ) (b : Bool) (xs : List Site) (st : Stack) (ch : List Chan) (named : List Path) (scope : Scope) (code : List kernel.Statement) → b ≡ false → Agrees n fs st scope → Scoped q (ks ++ made q ch) scope → NamedIn q (ks ++ made q ch) named →
      ((d : ℕ) → IsTrue (uses d code) → In d (ks ++ made q ch)) → AllTidy code → Part n fs q ks b xs st ch named scope code
  outside q ks b xs st ch named scope code e a s m u t = record {
    agrees = a;
    known = made q ch;
    hidden = [];
    known_made = λ d i. i;
    hidden_made = λ d i. absurd i;
    apart = λ d i j. j;
    scoped = s;
    names = m;
    some = λ i t. never i e;
    used = λ d h. inl (u d h);
    held = λ i. never i e;
    tidy = t;
  }

  module _ (copies : CopiesCall) (speak : CallsSpeak n fs gs copies) (mute : CallsSilent copies) (keep : CallsKeep copies) where
    -- declarations

    initial_part : (c : Context) (path : Path) (r : Option tree.RightSide) (scope : Scope) (st : Stack) (around : Enclosing) (k : ℕ) (ks : List ℕ) → Sits n fs gs ks c scope st → Resolves n k st (marks.optional marks.of_right r) → AllIn IsFineHere (site.optional (site.of_right n around k true) r) →
        Room c.numbering ks (initial_copy copies c path r scope).channels → OnePart n fs gs copies speak mute keep ks around st c.numbering (initial_copy copies c path r scope)
    initial_part c path None scope st around k ks s r g room = let i = idle_zero (variable_number c.numbering path) in no_use n fs c.numbering ks (in_transaction around.holders) [] st scope (set_zero c path ∷ []) s.agrees s.scoped refl i.0 i.1
    initial_part c path (Some e) scope st around k ks s r g room = then_part n fs gs copies speak mute keep c scope st around k ks true e (set_word c path (value_of c scope e) ∷ []) (idle_set (word_at c path) (value_of c scope e)) s r g room

    kind_part : (c : Context) (scope : Scope) (st : Stack) (around : Enclosing) (k : ℕ) (ks : List ℕ) (name : Id) (kind : tree.Kind) → Sits n fs gs ks c scope st → Resolves n k st (marks.of_declaration (record { kind = kind; name = name })) → AllIn IsFineHere (site.of_kind n around (k + 1) kind) →
        Room c.numbering ks (kind_copy copies c scope name.text name.pos kind).channels → OnePart n fs gs copies speak mute keep ks around (after st (marks.of_declaration (record { kind = kind; name = name }))) c.numbering (kind_copy copies c scope name.text name.pos kind)
    kind_part c scope st around k ks name (tree.word u r) s rs g room =
        let d : Decl = record { name = name; what = what.Word u } in
        let path = path_at c.path name.pos in
        let inner = with_name scope name.text (a_word path u) in
        let su = with_decl d st in
        let a = agrees_with n fs st scope d (a_word path u) (refl, refl) s.agrees in
        let h = scoped_with c.numbering ks scope name.text (a_word path u) (no_channel c.numbering ks (a_word path u) refl) s.scoped in
        let w = initial_part c path r inner su around (k + 1) ks (with_names n fs gs ks inner su s a h) rs.1 g room in
        at_stack n fs c.numbering su _ (sym (quiet_after su (marks.optional marks.of_right r) (quiet_optional marks.of_right quiet_right r)))
        (recoded n fs c.numbering _ w (λ x e. e) (λ x e. e) w.tidy)
    kind_part c scope st around k ks name (tree.array u l p) s rs g room =
        let d : Decl = record { name = name; what = what.Array u l } in
        let path = path_at c.path name.pos in
        let i = idle_zero (variable_number c.numbering path) in
        no_use n fs c.numbering ks (in_transaction around.holders) [] (with_decl d st) (with_name scope name.text (an_array path l u)) (set_zero c path ∷ []) (agrees_with n fs st scope d (an_array path l u) (refl, refl) s.agrees)
        (scoped_with c.numbering ks scope name.text (an_array path l u) (no_channel c.numbering ks (an_array path l u) refl) s.scoped) refl i.0 i.1
    kind_part c scope st around k ks name (tree.channel b) s rs g room =
        let d : Decl = record { name = name; what = what.Chan b } in
        let path = path_at c.path name.pos in
        let one = number c.numbering path in
        record {
          agrees = agrees_with n fs st scope d (a_channel path) (refl, refl) s.agrees;
          known = one ∷ [];
          hidden = [];
          known_made = λ x i. i;
          hidden_made = λ x i. absurd i;
          apart = λ x i j. j;
          scoped = scoped_with c.numbering (ks ++ one ∷ []) scope name.text (a_channel path) (λ p e. in_right (number c.numbering p) ks (one ∷ []) (inl (ap (number c.numbering) (same_channel e)))) (λ t p e. in_left (number c.numbering p) ks (one ∷ []) (s.scoped t p e));
          names = tt;
          some = λ i t. never t refl;
          used = λ x e. never e refl;
          held = λ i x e. never e refl;
          tidy = tt;
        }
    kind_part c scope st around k ks name tree.timer s rs g room =
        let d : Decl = record { name = name; what = what.Timer } in
        let path = path_at c.path name.pos in
        no_use n fs c.numbering ks (in_transaction around.holders) [] (with_decl d st) (with_name scope name.text (a_timer path)) [] (agrees_with n fs st scope d (a_timer path) (refl, refl) s.agrees)
        (scoped_with c.numbering ks scope name.text (a_timer path) (no_channel c.numbering ks (a_timer path) refl) s.scoped) refl (λ x. refl) tt

    pub declarations_part : (ds : List tree.Declaration) (c : Context) (scope : Scope) (st : Stack) (around : Enclosing) (k : ℕ) (ks : List ℕ) → Sits n fs gs ks c scope st → Resolves n k st (marks.each marks.of_declaration ds) → AllIn IsFineHere (site.of_declarations n around k ds) →
        Room c.numbering ks (declarations_copy copies c ds scope).channels → OnePart n fs gs copies speak mute keep ks around (after st (marks.each marks.of_declaration ds)) c.numbering (declarations_copy copies c ds scope)
    declarations_part [] c scope st around k ks s r g room = no_use n fs c.numbering ks (in_transaction around.holders) [] st scope [] s.agrees s.scoped refl (λ x. refl) tt
    declarations_part (d ∷ ds) c scope st around k ks s r g room =
        let a = kind_copy copies c scope d.name.text d.name.pos d.kind in
        let b = declarations_copy copies c ds a.scope in
        let r2 = resolves_both n k st (marks.of_declaration d) (marks.each marks.of_declaration ds) r in
        let g2 = split IsFineHere (site.of_kind n around (k + 1) d.kind) _ g in
        let su = after st (marks.of_declaration d) in
        let p = kind_part c scope st around k ks d.name d.kind s r2.0 g2.0 (room_left c.numbering ks a.channels b.channels room) in
        let v = declarations_part ds c a.scope su around (past k (marks.of_declaration d)) (ks ++ p.known) (with_names n fs gs (ks ++ p.known) a.scope su s p.agrees p.scoped) r2.1 g2.1 (room_right c.numbering ks p.known a.channels b.channels p.known_made room) in
        at_stack n fs c.numbering _ _ (sym (after_both st (marks.of_declaration d) (marks.each marks.of_declaration ds)))
        (part_both n fs c.numbering ks (in_transaction around.holders) [] [] su _ a b room p v)

    -- assignments and `return`

    assign_part : (c : Context) (scope : Scope) (st : Stack) (around : Enclosing) (k : ℕ) (ks : List ℕ) (to : tree.Expression) (symbol : ℕ) (pos : Pos) (r : tree.RightSide) (b : Bool) → Sits n fs gs ks c scope st → Resolves n k st (marks.of_expression to ++ marks.of_right r) → AllIn IsFineHere (site.of_lval n k to ++ site.of_right n around (past k (marks.of_expression to)) true r) →
        Room c.numbering ks (assign_by copies c scope to symbol pos r b).channels → OnePart n fs gs copies speak mute keep ks around st c.numbering (assign_by copies c scope to symbol pos r b)
    assign_part c scope st around k ks to symbol pos r true s rs g room =
        let r2 = quiet_split n k st (marks.of_expression to) (marks.of_right r) (quiet_expression to) rs in
        let g2 = split IsFineHere (site.of_lval n k to) _ g in
        then_part n fs gs copies speak mute keep c scope st around (past k (marks.of_expression to)) ks true r (kernel.set (place c scope to) (value_of c scope r) ∷ []) (idle_set (place c scope to) (value_of c scope r)) s r2.1 g2.1 room
    assign_part c scope st around k ks to symbol pos r false s rs g room =
        let i = idle_set (place c scope to) (updated c.numbering scope to symbol pos (right_is_unsigned scope r) (value_of c scope r)) in
        no_use n fs c.numbering ks (in_transaction around.holders) [] st scope (kernel.set (place c scope to) (updated c.numbering scope to symbol pos (right_is_unsigned scope r) (value_of c scope r)) ∷ []) s.agrees s.scoped refl i.0 i.1

    leaving : (c : Context) (path : Path) → Idle (leave c path ∷ [])
    leaving c path = (λ d. refl, (tt, tt))

    return_part : (c : Context) (scope : Scope) (st : Stack) (around : Enclosing) (k : ℕ) (ks : List ℕ) (r : Option tree.RightSide) → Sits n fs gs ks c scope st → Resolves n k st (marks.optional marks.of_right r) → AllIn IsFineHere (site.optional (site.of_right n around k true) r) →
        Room c.numbering ks (return_copy copies c scope r).channels → OnePart n fs gs copies speak mute keep ks around st c.numbering (return_copy copies c scope r)
    return_part c scope st around k ks None s rs g room = let i = leaving c c.returns in no_use n fs c.numbering ks (in_transaction around.holders) [] st scope (leave c c.returns ∷ []) s.agrees s.scoped refl i.0 i.1
    return_part c scope st around k ks (Some r) s rs g room =
        then_part n fs gs copies speak mute keep c scope st around k ks true r (set_word c c.result (value_of c scope r) ∷ leave c c.returns ∷ []) (idle_both (set_word c c.result (value_of c scope r) ∷ []) (leave c c.returns ∷ []) (idle_set (word_at c c.result) (value_of c scope r)) (leaving c c.returns)) s rs g room

    -- transfers

    -- behind an input its target is known
    behind_input : (st : Stack) (i : tree.Input) → after st (marks.of_input i) ≡ after st (marks.of_target i.target)
    behind_input st i =
        quiet_skip st (marks.optional marks.of_timing i.time) (marks.optional marks.of_condition i.condition ++ (marks.of_target i.target ++ marks.optional marks.of_timing i.stamp)) (quiet_optional marks.of_timing quiet_timing i.time)
        ∙ quiet_skip st (marks.optional marks.of_condition i.condition) (marks.of_target i.target ++ marks.optional marks.of_timing i.stamp) (quiet_optional marks.of_condition quiet_condition i.condition)
        ∙ after_both st (marks.of_target i.target) (marks.optional marks.of_timing i.stamp) ∙ quiet_after _ (marks.optional marks.of_timing i.stamp) (quiet_optional marks.of_timing quiet_timing i.stamp)

    behind_output : (st : Stack) (o : tree.Output) → after st (marks.of_output o) ≡ st
    behind_output st o =
        quiet_skip st (marks.optional marks.of_timing o.time) (marks.of_expression o.value ++ marks.optional marks.of_timing o.stamp) (quiet_optional marks.of_timing quiet_timing o.time)
        ∙ quiet_skip st (marks.of_expression o.value) (marks.optional marks.of_timing o.stamp) (quiet_expression o.value) ∙ quiet_after st (marks.optional marks.of_timing o.stamp) (quiet_optional marks.of_timing quiet_timing o.stamp)

    target_agrees : (c : Context) (scope : Scope) (st : Stack) (t : tree.Target) → Agrees n fs st scope → Agrees n fs (after st (marks.of_target t)) (target_copy c scope t).scope
    target_agrees c scope st (tree.to e) a = subst (λ (z : Stack). Agrees n fs z scope) (sym (quiet_after st (marks.of_expression e) (quiet_expression e))) a
    target_agrees c scope st tree.dropped a = a
    target_agrees c scope st (tree.fresh u name) a = agrees_with n fs st scope (record { name = name; what = what.Word u }) (a_word (path_at c.path name.pos) u) (refl, refl) a

    target_scoped : (c : Context) (scope : Scope) (t : tree.Target) (ks : List ℕ) → Scoped c.numbering ks scope → Scoped c.numbering ks (target_copy c scope t).scope
    target_scoped c scope (tree.to e) ks h = h
    target_scoped c scope tree.dropped ks h = h
    target_scoped c scope (tree.fresh u name) ks h = scoped_with c.numbering ks scope name.text (a_word (path_at c.path name.pos) u) (no_channel c.numbering ks (a_word (path_at c.path name.pos) u) refl) h

    target_channels : (c : Context) (scope : Scope) (t : tree.Target) → (target_copy c scope t).channels ≡ []
    target_channels c scope (tree.to e) = refl
    target_channels c scope tree.dropped = refl
    target_channels c scope (tree.fresh u name) = refl

    input_agrees : (c : Context) (scope : Scope) (st : Stack) (i : tree.Input) → Agrees n fs st scope → Agrees n fs (after st (marks.of_input i)) (target_copy c scope i.target).scope
    input_agrees c scope st i a = subst (λ (z : Stack). Agrees n fs z (target_copy c scope i.target).scope) (sym (behind_input st i)) (target_agrees c scope st i.target a)

    -- a name that talks is one of a channel
    talking : (c : Context) (scope : Scope) (st : Stack) (k : ℕ) (t : List ℕ) (ks : List ℕ) → Sits n fs gs ks c scope st → declared_at n (slice_get n.uses k) ≡ found st t → is_channel (what_at n (slice_get n.uses k)) ≡ true →
        is_empty (channel_of (entity_of scope t)) ≡ false
    talking c scope st k t ks s r e = is_named c.numbering (entity_of scope t) ((s.agrees t).0 ∙ ap is_channel (sym (meant n st k t r)) ∙ e)

    input_uses : (c : Context) (scope : Scope) (st : Stack) (i : tree.Input) (ks : List ℕ) → Sits n fs gs ks c scope st → (d : ℕ) → IsTrue (by_input (channel d) (input_of c scope i)) → In d ks
    input_uses c scope st i ks s d u = resource_in c.numbering ks d (entity_of scope i.name.text) (s.scoped i.name.text) (subst IsTrue (by_resource_of d (input_of c scope i)) u)

    transfer_part : (c : Context) (ks : List ℕ) (inside : Bool) (sites : List Site) (st : Stack) (scope inner : Scope) (x : Entity) (code : List kernel.Statement) → Agrees n fs st inner → Scoped c.numbering ks inner → EntityIn c.numbering ks x → (talks sites ≡ true → is_empty (channel_of x) ≡ false) →
        ((d : ℕ) → IsTrue (uses d code) → In d ks) → ((d : ℕ) → holds d code ≡ false) → AllTidy code → Part n fs c.numbering ks inside sites st [] (channel_of x) inner code
    transfer_part c ks inside sites st scope inner x code a h e some u none t = record {
      agrees = a;
      known = [];
      hidden = [];
      known_made = λ d i. i;
      hidden_made = λ d i. i;
      apart = λ d i j. i;
      scoped = λ y p f. in_left (number c.numbering p) ks [] (h y p f);
      names = named_one c.numbering (ks ++ []) x (λ p f. in_left (number c.numbering p) ks [] (e p f));
      some = λ i z. some z;
      used = λ d f. inl (in_left d ks [] (u d f));
      held = λ i d f. never f (none d);
      tidy = t;
    }

    -- statements
    abbrev pub PartAt : List ℕ → Enclosing → List Site → Stack → Numbering → Copy → Type 0
    PartAt ks around sites st q copy = PartOf n fs q ks (in_transaction around.holders) sites st copy

    numbered_part : (b : tree.Branch) (c : Context) (scope : Scope) (name : Id) (st : Stack) (ks : List ℕ) → Sits n fs gs ks c scope st → (count index at : ℕ) →
        ((x : Context) (other : Scope) → x.numbering ≡ c.numbering → Sits n fs gs ks x other (with_decl (record { name = name; what = what.Index }) ([] ∷ st)) → Room x.numbering ks (branch_copy copies b x other).channels → Called n fs gs x.numbering ks (branch_copy copies b x other).channels (branch_copy copies b x other).code × NamedIn x.numbering (ks ++ made x.numbering (branch_copy copies b x other).channels) (branch_copy copies b x other).named) →
        Room c.numbering ks (replicated (numbered_copy (branch_copy copies b) c scope name.text) (pos_of_branch b) scope count index at).made.channels →
        Branches c.numbering ks st (replicated (numbered_copy (branch_copy copies b) c scope name.text) (pos_of_branch b) scope count index at).made.channels (replicated (numbered_copy (branch_copy copies b) c scope name.text) (pos_of_branch b) scope count index at).made.named
        (replicated (numbered_copy (branch_copy copies b) c scope name.text) (pos_of_branch b) scope count index at).made.scope (replicated (numbered_copy (branch_copy copies b) c scope name.text) (pos_of_branch b) scope count index at).branches
    numbered_part b c scope name st ks s zero index at rec room = record { agrees = s.agrees; scoped = λ t p e. in_left (number c.numbering p) ks [] (s.scoped t p e); names = tt; used = λ d e. never e refl; tidy = tt }
    numbered_part b c scope name st ks s (suc count) index at rec room =
        let q = c.numbering in
        let d : Decl = record { name = name; what = what.Index } in
        let inner = with_name scope name.text (a_constant at) in
        let one = branch_copy copies b (in_branch c index) inner in
        let others = replicated (numbered_copy (branch_copy copies b) c scope name.text) (pos_of_branch b) scope count (index + 1) (at + 1) in
        let a = agrees_with n fs ([] ∷ st) scope d (a_constant at) (refl, refl) s.agrees in
        let h = scoped_with q ks scope name.text (a_constant at) (no_channel q ks (a_constant at) refl) s.scoped in
        let x = rec (in_branch c index) inner refl (branch_sits n fs gs index (with_names n fs gs ks inner (with_decl d ([] ∷ st)) s a h)) (room_left q ks one.channels others.made.channels room) in
        let y = numbered_part b c scope name st ks s count (index + 1) (at + 1) rec (room_behind q ks one.channels others.made.channels room) in
        record {
          agrees = y.agrees;
          scoped = λ t p e. widen_second q (number q p) ks one.channels others.made.channels (y.scoped t p e);
          names = both (λ p. In (number q p) (ks ++ made q (one.channels ++ others.made.channels))) one.named others.made.named
              (weaker (λ p. In (number q p) (ks ++ made q one.channels)) (λ p. In (number q p) (ks ++ made q (one.channels ++ others.made.channels))) one.named (λ p i. widen_first q (number q p) ks one.channels others.made.channels i) x.1)
              (weaker (λ p. In (number q p) (ks ++ made q others.made.channels)) (λ p. In (number q p) (ks ++ made q (one.channels ++ others.made.channels))) others.made.named (λ p i. widen_second q (number q p) ks one.channels others.made.channels i) y.names);
          used = λ e u. ⊎_elim (λ l. widen_first q e ks one.channels others.made.channels (⊎_elim (λ k. in_left e ks (made q one.channels) k) (λ m. in_right e ks (made q one.channels) m) (x.0.used e l)))
              (λ r. widen_second q e ks one.channels others.made.channels (y.used e r)) (or_cases (uses e one.code) (by_branches (channel e) others.branches) u);
          tidy = (x.0.tidy, y.tidy);
        }

    -- what a case uses: by its input, in its body, or in the other cases
    case_used : (q : Numbering) (ks : List ℕ) (d : ℕ) (xs ys : List Chan) (guards : Option kernel.Expression) (i : kernel.Input) (body : List kernel.Statement) (cs : kernel.Cases) (o : kernel.Default) (pos : Pos) (c : Context) → (IsTrue (by_input (channel d) i) → In d (ks ++ made q (xs ++ ys))) → (IsTrue (uses d body) → In d (ks ++ made q (xs ++ ys))) →
        (IsTrue (by_cases (channel d) cs || by_default (channel d) o) → In d (ks ++ made q (xs ++ ys))) → IsTrue (by_cases (channel d) (kernel.more_cases (kernel.case guards i (kernel.statements (context.block_at c (path_at c.path pos) body ∷ []))) cs) || by_default (channel d) o) → In d (ks ++ made q (xs ++ ys))
    case_used q ks d xs ys guards i body cs o pos c f g h u = ⊎_elim (λ l. ⊎_elim here (λ r. h (or_left (by_cases (channel d) cs) (by_default (channel d) o) r)) (or_cases (by_case (channel d) (kernel.case guards i (kernel.statements (context.block_at c (path_at c.path pos) body ∷ [])))) (by_cases (channel d) cs) l))
        (λ r. h (or_right (by_cases (channel d) cs) (by_default (channel d) o) r)) (or_cases (by_cases (channel d) (kernel.more_cases (kernel.case guards i (kernel.statements (context.block_at c (path_at c.path pos) body ∷ []))) cs)) (by_default (channel d) o) u)
      where
        here : IsTrue (by_case (channel d) (kernel.case guards i (kernel.statements (context.block_at c (path_at c.path pos) body ∷ [])))) → In d (ks ++ made q (xs ++ ys))
        here l = ⊎_elim (λ e. never e (no_some_expression d guards)) (λ m. ⊎_elim f (λ b. g (by_one d _ b)) (or_cases (by_input (channel d) i) (uses d (context.block_at c (path_at c.path pos) body ∷ [])) m)) (or_cases (by_some_expression (channel d) guards) _ l)

    case_ends : (st : Stack) (a : tree.Case) → after st (marks.of_case a) ≡ st
    case_ends st (tree.case pos guard i ss) = scope_ends st _ (scopes.both _ _ (scopes.maybe marks.of_expression scopes.of_expression guard) (scopes.both _ _ (scopes.maybe marks.of_input scopes.of_input i) (scopes.of_statements ss)))

    cases_end : (st : Stack) (cs : tree.Cases) → after st (marks.of_cases cs) ≡ st
    cases_end st tree.no_case = refl
    cases_end st (tree.more_cases a cs) = after_both st (marks.of_case a) (marks.of_cases cs) ∙ ap (λ (z : Stack). after z (marks.of_cases cs)) (case_ends st a) ∙ cases_end st cs

    mutual
      pub statement_part : (t : tree.Statement) (c : Context) (scope : Scope) (st : Stack) (around : Enclosing) (k : ℕ) (ks : List ℕ) → Sits n fs gs ks c scope st → Resolves n k st (marks.of_statement t) → AllIn IsFineHere (site.of_statement n around k t) → Shape t → Room c.numbering ks (statement_copy copies t c scope).channels →
          PartAt ks around (site.of_statement n around k t) (after st (marks.of_statement t)) c.numbering (statement_copy copies t c scope)
      statement_part (tree.statement a pos close own) c scope st around k ks s r g x room = action_part a pos close c scope st around k ks s r g x room

      action_part : (a : tree.Action) (pos close : Pos) (c : Context) (scope : Scope) (st : Stack) (around : Enclosing) (k : ℕ) (ks : List ℕ) → Sits n fs gs ks c scope st → Resolves n k st (marks.of_action a) → AllIn IsFineHere (site.of_action n around k pos a) → ShapedAction IsProper IsProperLval Assigns AnyCall a → Room c.numbering ks (action_copy copies a pos close c scope).channels →
          PartAt ks around (site.of_action n around k pos a) (after st (marks.of_action a)) c.numbering (action_copy copies a pos close c scope)
      action_part tree.empty pos close c scope st around k ks s r g x room = no_use n fs c.numbering ks (in_transaction around.holders) [] st scope [] s.agrees s.scoped refl (λ d. refl) tt
      action_part (tree.block ss) pos close c scope st around k ks s r g x room =
          let r2 = resolves_both n k ([] ∷ st) (marks.of_statements ss) (Closes ∷ []) r in
          let p = statements_part ss c scope ([] ∷ st) (inside a_block around) k ks (with_names n fs gs ks scope ([] ∷ st) s s.agrees s.scoped) r2.0 g x room in
          at_stack n fs c.numbering st _ (sym (scope_ends st (marks.of_statements ss) (scopes.of_statements ss))) (rescoped n fs c.numbering st scope p s.agrees s.scoped)
      action_part (tree.declare ds) pos close c scope st around k ks s r g x room =
          resited n fs c.numbering (site.of_declarations n around k ds) (declarations_part ds c scope st around k ks s r g room) (λ t. never t (silent_declarations n around k ds))
      action_part (tree.assign to symbol spot e) pos close c scope st around k ks s r g x room =
          at_stack n fs c.numbering st _ (sym (quiet_after st (marks.of_expression to ++ marks.of_right e) (quiet_both _ _ (quiet_expression to) (quiet_right e))))
          (resited n fs c.numbering (site.of_action n around k pos (tree.assign to symbol spot e)) (assign_part c scope st around k ks to symbol spot e (nat_eq symbol equals) s r g room)
          (λ t. never t (silent_both (site.of_lval n k to) _ (silent_lval n k to) (silent_right n around (past k (marks.of_expression to)) true e))))
      action_part (tree.step to symbol) pos close c scope st around k ks s r g x room =
          let i = idle_set (place c scope to) (updated c.numbering scope to symbol pos false (kernel.number 1)) in
          at_stack n fs c.numbering st _ (sym (quiet_after st (marks.of_expression to) (quiet_expression to)))
          (no_use n fs c.numbering ks (in_transaction around.holders) (site.of_lval n k to) st scope (kernel.set (place c scope to) (updated c.numbering scope to symbol pos false (kernel.number 1)) ∷ []) s.agrees s.scoped (silent_lval n k to) i.0 i.1)
      action_part (tree.perform e) pos close c scope st around k ks s r g x room =
          at_stack n fs c.numbering st _ (sym (quiet_after st (marks.of_right e) (quiet_right e)))
          (resited n fs c.numbering (site.of_right n around k false e) (right_part n fs gs copies speak mute keep c scope st around k ks false e s r g room) (λ t. never t (silent_right n around k false e)))
      action_part (tree.output o) pos close c scope st around k ks s r g x room =
          at_stack n fs c.numbering st _ (sym (behind_output st o))
          (transfer_part c ks (in_transaction around.holders) (site.of_output n k o) st scope scope (entity_of scope o.name.text) (kernel.output (output_of c scope o) ∷ []) s.agrees s.scoped (s.scoped o.name.text)
          (λ t. talking c scope st k o.name.text ks s r.0 (output_talks n k o t))
          (λ d u. resource_in c.numbering ks d (entity_of scope o.name.text) (s.scoped o.name.text) (subst IsTrue (by_its_resource d (output_of c scope o)) (by_one d _ u))) (λ d. refl) (output SpeaksAlone (output_of c scope o), tt))
      action_part (tree.input i) pos close c scope st around k ks s r g x room =
          let e = target_channels c scope i.target in
          subst (λ (ch : List Chan). Part n fs c.numbering ks (in_transaction around.holders) (site.of_input n k i) (after st (marks.of_input i)) ch (channel_of (entity_of scope i.name.text)) (target_copy c scope i.target).scope (kernel.input (input_of c scope i) ∷ [])) (sym e)
          (transfer_part c ks (in_transaction around.holders) (site.of_input n k i) (after st (marks.of_input i)) scope (target_copy c scope i.target).scope (entity_of scope i.name.text) (kernel.input (input_of c scope i) ∷ []) (input_agrees c scope st i s.agrees) (target_scoped c scope i.target ks s.scoped) (s.scoped i.name.text)
          (λ t. talking c scope st k i.name.text ks s r.0 (input_talks n k i t))
          (λ d u. input_uses c scope st i ks s d (by_one d _ u)) (λ d. refl) (input SpeaksAlone (input_of c scope i), tt))
      action_part (tree.if_then test a b) pos close c scope st around k ks s r g x room =
          let q = c.numbering in
          let ca = statement_copy copies a c scope in
          let cb = maybe_copy copies b c ca.scope in
          let k1 = past k (marks.of_expression test) in
          let r1 = quiet_split n k st (marks.of_expression test) (marks.of_statement a ++ marks.of_maybe b) (quiet_expression test) r in
          let r2 = resolves_both n k1 st (marks.of_statement a) (marks.of_maybe b) r1.1 in
          let g1 = split IsFineHere (site.of_expression n k test) _ g in
          let g2 = split IsFineHere (site.of_statement n (inside an_if around) k1 a) _ g1.1 in
          let su = after st (marks.of_statement a) in
          let p = statement_part a c scope st (inside an_if around) k1 ks s r2.0 g2.0 x.1.0 (room_left q ks ca.channels cb.channels room) in
          let v = maybe_part b c ca.scope su (inside an_if around) (past k1 (marks.of_statement a)) (ks ++ p.known) (with_names n fs gs (ks ++ p.known) ca.scope su s p.agrees p.scoped) r2.1 g2.1 x.1.1 (room_right q ks p.known ca.channels cb.channels p.known_made room) in
          let w = part_both n fs q ks (in_transaction around.holders) (site.of_statement n (inside an_if around) k1 a) (site.of_maybe n (inside an_if around) (past k1 (marks.of_statement a)) b) su (after su (marks.of_maybe b)) ca cb room p v in
          at_stack n fs q _ _ (sym (quiet_skip st (marks.of_expression test) (marks.of_statement a ++ marks.of_maybe b) (quiet_expression test) ∙ after_both st (marks.of_statement a) (marks.of_maybe b)))
          (resited n fs q (site.of_action n around k pos (tree.if_then test a b))
          (recoded n fs q (kernel.if_then (context.expression c scope test) (kernel.statements ca.code) (kernel.statements cb.code) ∷ []) w (λ d. if_uses d (context.expression c scope test) ca.code cb.code) (λ d. if_holds d (context.expression c scope test) ca.code cb.code) ((expression SpeaksAlone (context.expression c scope test), p.tidy, v.tidy), tt))
          (silent_before n fs q (site.of_expression n k test) _ (silent_expression n k test)))
      action_part (tree.while_loop test body) pos close c scope st around k ks s r g x room =
          let q = c.numbering in
          let cb = statement_copy copies body (in_loop c pos) scope in
          let k1 = past k (marks.of_expression test) in
          let r1 = quiet_split n k st (marks.of_expression test) (marks.of_statement body) (quiet_expression test) r in
          let g1 = split IsFineHere (site.of_expression n k test) _ g in
          let w = statement_part body (in_loop c pos) scope st (inside a_loop around) k1 ks (loop_sits n fs gs pos s) r1.1 g1.1 x.1 room in
          at_stack n fs q _ _ (sym (quiet_skip st (marks.of_expression test) (marks.of_statement body) (quiet_expression test)))
          (resited n fs q (site.of_action n around k pos (tree.while_loop test body))
          (recoded n fs q (action_copy copies (tree.while_loop test body) pos close c scope).code w (λ d. loop_uses d c (path_at c.path pos) (context.expression c scope test) [] cb.code [] refl) (λ d. loop_holds d c (path_at c.path pos) (context.expression c scope test) [] cb.code [] refl)
          (((expression SpeaksAlone (context.expression c scope test), (w.tidy, tt), tt), tt), tt))
          (silent_before n fs q (site.of_expression n k test) _ (silent_expression n k test)))
      action_part (tree.do_while body test) pos close c scope st around k ks s r g x room =
          let q = c.numbering in
          let cb = statement_copy copies body (in_loop c pos) scope in
          let k1 = past k (marks.of_statement body) in
          let su = after st (marks.of_statement body) in
          let r1 = resolves_both n k st (marks.of_statement body) (marks.of_expression test) r in
          let g1 = split IsFineHere (site.of_statement n (inside a_loop around) k body) _ g in
          let w = statement_part body (in_loop c pos) scope st (inside a_loop around) k ks (loop_sits n fs gs pos s) r1.0 g1.0 x.0 room in
          let end = leave_unless c (path_at c.path pos) (context.expression c cb.scope test) in
          at_stack n fs q _ _ (sym (after_both st (marks.of_statement body) (marks.of_expression test) ∙ quiet_after su (marks.of_expression test) (quiet_expression test)))
          (resited n fs q (site.of_action n around k pos (tree.do_while body test))
          (recoded n fs q (action_copy copies (tree.do_while body test) pos close c scope).code w (λ d. loop_uses d c (path_at c.path pos) (kernel.number 1) [] cb.code (end ∷ []) (leave_none d c (path_at c.path pos) (context.expression c cb.scope test))) (λ d. loop_holds d c (path_at c.path pos) (kernel.number 1) [] cb.code (end ∷ []) refl)
          (((tt, (w.tidy, ((expression SpeaksAlone (context.expression c cb.scope test), tt, (tt, tt)), tt)), tt), tt), tt))
          (silent_behind n fs q (site.of_statement n (inside a_loop around) k body) _ (silent_expression n k1 test)))
      action_part (tree.for_loop first test next body) pos close c scope st around k ks s r g x room =
          let q = c.numbering in
          let mt = marks.optional marks.of_expression test in
          let all = marks.of_maybe first ++ (mt ++ (marks.of_maybe next ++ marks.of_statement body)) in
          let r0 = (resolves_both n k ([] ∷ st) all (Closes ∷ []) r).0 in
          let r1 = resolves_both n k ([] ∷ st) (marks.of_maybe first) (mt ++ (marks.of_maybe next ++ marks.of_statement body)) r0 in
          let k1 = past k (marks.of_maybe first) in
          let su = after ([] ∷ st) (marks.of_maybe first) in
          let r2 = quiet_split n k1 su mt (marks.of_maybe next ++ marks.of_statement body) (quiet_optional marks.of_expression quiet_expression test) r1.1 in
          let k2 = past k1 mt in
          let r3 = quiet_split n k2 su (marks.of_maybe next) (marks.of_statement body) (step_quiet next x.1.1.0.1) r2.1 in
          let k3 = past k2 (marks.of_maybe next) in
          let g1 = split IsFineHere (site.of_maybe n around k first) _ g in
          let g2 = split IsFineHere (site.optional (site.of_expression n k1) test) _ g1.1 in
          let g3 = split IsFineHere (site.of_maybe n around k2 next) _ g2.1 in
          let f = maybe_copy copies first c scope in
          let cn = maybe_copy copies next c f.scope in
          let cb = statement_copy copies body (in_loop c pos) f.scope in
          let t = test_or_true (maybe_expression c f.scope test) in
          let pf = maybe_part first c scope ([] ∷ st) around k ks (with_names n fs gs ks scope ([] ∷ st) s s.agrees s.scoped) r1.0 g1.0 x.0 (room_left q ks f.channels (cn.channels ++ cb.channels) room) in
          let k4 = ks ++ pf.known in
          let room1 = room_right q ks pf.known f.channels (cn.channels ++ cb.channels) pf.known_made room in
          let sits = with_names n fs gs k4 f.scope su s pf.agrees pf.scoped in
          let pn = maybe_part next c f.scope su around k2 k4 sits r3.0 g3.0 x.1.1.0.0 (room_left q k4 cn.channels cb.channels room1) in
          let sb = with_names n fs gs (k4 ++ pn.known) f.scope su sits sits.agrees (λ y p e. in_left (number q p) k4 pn.known (sits.scoped y p e)) in
          let pb = statement_part body (in_loop c pos) f.scope su (inside a_loop around) k3 (k4 ++ pn.known) (loop_sits n fs gs pos sb) r3.1 g3.1 x.1.1.1 (room_right q k4 pn.known cn.channels cb.channels pn.known_made room1) in
          let w = part_both n fs q k4 (in_transaction around.holders) (site.of_maybe n around k2 next) (site.of_statement n (inside a_loop around) k3 body) _ (after su (marks.of_statement body)) cn cb room1 pn pb in
          let loop = for_copy c pos f.scope test cn cb in
          let v = resited n fs q (site.optional (site.of_expression n k1) test ++ (site.of_maybe n around k2 next ++ site.of_statement n (inside a_loop around) k3 body))
          (recoded n fs q loop.code w (λ d. loop_uses d c (path_at c.path pos) t cn.code cb.code [] refl) (λ d. loop_holds d c (path_at c.path pos) t cn.code cb.code [] refl)
          (((expression SpeaksAlone t, (pb.tidy, tt), pn.tidy), tt), tt))
          (silent_before n fs q (site.optional (site.of_expression n k1) test) _ (silent_maybe_expression n k1 test)) in
          let whole = part_both n fs q ks (in_transaction around.holders) (site.of_maybe n around k first) (site.optional (site.of_expression n k1) test ++ (site.of_maybe n around k2 next ++ site.of_statement n (inside a_loop around) k3 body)) su (after su (marks.of_statement body)) f loop room pf v in
          at_stack n fs q st _ (sym (scope_ends st all (scopes.both _ _ (scopes.of_maybe first) (scopes.both _ _ (scopes.maybe marks.of_expression scopes.of_expression test) (scopes.both _ _ (scopes.of_maybe next) (scopes.of_statement body))))))
          (rescoped n fs q st scope whole s.agrees s.scoped)
      action_part (tree.return_with e) pos close c scope st around k ks s r g x room =
          at_stack n fs c.numbering st _ (sym (quiet_after st (marks.optional marks.of_right e) (quiet_optional marks.of_right quiet_right e)))
          (resited n fs c.numbering (site.of_action n around k pos (tree.return_with e)) (return_part c scope st around k ks e s r g.1 room) (λ t. never t (silent_maybe_right n around k e)))
      action_part tree.break_out pos close c scope st around k ks s r g x room = no_use n fs c.numbering ks (in_transaction around.holders) (site.of_action n around k pos tree.break_out) st scope (leave c c.breaks ∷ []) s.agrees s.scoped refl (λ d. refl) (tt, tt)
      action_part tree.continue_on pos close c scope st around k ks s r g x room = no_use n fs c.numbering ks (in_transaction around.holders) (site.of_action n around k pos tree.continue_on) st scope (leave c c.continues ∷ []) s.agrees s.scoped refl (λ d. refl) (tt, tt)
      action_part (tree.par bs) pos close c scope st around k ks s r g x room =
          let w = branches_part bs 0 c scope st around k ks g.0.0 s r g.1 x room in
          let b = branches_copy copies bs 0 c scope in
          outside c.numbering ks (in_transaction around.holders) (site.of_action n around k pos (tree.par bs)) (after st (marks.of_branches bs)) b.made.channels b.made.named b.made.scope (kernel.par b.branches ∷ []) g.0.0 w.agrees w.scoped w.names (λ d u. w.used d (by_one d _ u)) ((tt, w.tidy), tt)
      action_part (tree.replicated first second third from until b) pos close c scope st around k ks s r g x room =
          let q = c.numbering in
          let d : Decl = record { name = first; what = what.Index } in
          let sd = with_decl d ([] ∷ st) in
          let r1 = resolves_both n (((k + 1) + 1) + 1) sd (marks.of_branch b) (Closes ∷ []) r.1.1.1 in
          let rb = subst (λ (j : ℕ). Resolves n j sd (marks.of_branch b)) (three k) r1.0 in
          let w = numbered_part b c scope first st ks s (until - from) 0 from
          (λ y other e t room1. let p = branch_part b y other sd around (k + 3) ks g.0.0 t rb g.1.1 x room1 in (record { used = λ z u. ⊎_elim (λ l. inl l) (λ m. inr m) (in_either z ks (made y.numbering (branch_copy copies b y other).channels) (part_uses p z u)); tidy = p.tidy }, part_names p)) room in
          let o = replicated (numbered_copy (branch_copy copies b) c scope first.text) (pos_of_branch b) scope (until - from) 0 from in
          at_stack n fs q st _ (sym (scope_ends st (marks.declares first what.Index ∷ Uses second ∷ Uses third ∷ marks.of_branch b) (scopes.declared refl (scopes.used (scopes.used (scopes.of_branch b))))))
          (outside q ks (in_transaction around.holders) (site.of_action n around k pos (tree.replicated first second third from until b)) st o.made.channels o.made.named o.made.scope (kernel.par o.branches ∷ []) g.0.0 w.agrees w.scoped w.names (λ z u. w.used z (by_one z _ u)) ((tt, w.tidy), tt))
      action_part (tree.select cs) pos close c scope st around k ks s r g x room =
          let q = c.numbering in
          let o = cases_copy copies cs c scope in
          let w = cases_part cs c scope st around k ks g.0.0 s r g.1 x room in
          at_stack n fs q st _ (sym (cases_end st cs))
          (outside q ks (in_transaction around.holders) (site.of_action n around k pos (tree.select cs)) st o.made.channels o.made.named scope (kernel.select o.cases o.otherwise pos ∷ []) g.0.0 s.agrees (λ t p e. in_left (number q p) ks (made q o.made.channels) (s.scoped t p e)) w.names (λ d u. w.used d (by_one d _ u)) ((w.tidy, w.tidy_default), tt))
      action_part (tree.transaction is_master ss) pos close c scope st around k ks s r g x room =
          let q = c.numbering in
          let r2 = resolves_both n k ([] ∷ st) (marks.of_statements ss) (Closes ∷ []) r in
          let cb = statements_copy copies ss c scope in
          let p = statements_part ss c scope ([] ∷ st) (inside a_transaction around) k ks (with_names n fs gs ks scope ([] ∷ st) s s.agrees s.scoped) r2.0 g.1 x room in
          let on = channel_number q (first_of cb.named) in
          let there = first_in q (ks ++ p.known) cb.named p.names (p.some refl (one_talks (site.of_statements n (inside a_transaction around) k ss) g.0.0.0)) in
          let clean : nested_uses on (kernel.statements cb.code) ≡ false = not_true (nested_uses on (kernel.statements cb.code)) (λ h. ⊎_elim (λ i. room.apart on i (p.hidden_made on (p.held refl on h))) (λ i. p.apart on i (p.held refl on h)) (in_either on ks p.known there)) in
          at_stack n fs q st _ (sym (scope_ends st (marks.of_statements ss) (scopes.of_statements ss)))
          (record {
            agrees = s.agrees;
            known = p.known;
            hidden = p.hidden;
            known_made = p.known_made;
            hidden_made = p.hidden_made;
            apart = p.apart;
            scoped = λ t y e. in_left (number q y) ks p.known (s.scoped t y e);
            names = p.names;
            some = λ i t. never i g.0.0.1;
            used = λ d u. ⊎_elim (λ e. inl (subst (λ (z : ℕ). In z (ks ++ p.known)) (sym (eqb-true d on e)) there)) (λ v. p.used d v) (or_cases (nat_eq d on) (uses d cb.code) (by_one d _ u));
            held = λ i. never i g.0.0.1;
            tidy = ((tt, clean, p.tidy), tt);
          })

      maybe_part : (t : tree.Maybe) (c : Context) (scope : Scope) (st : Stack) (around : Enclosing) (k : ℕ) (ks : List ℕ) → Sits n fs gs ks c scope st → Resolves n k st (marks.of_maybe t) → AllIn IsFineHere (site.of_maybe n around k t) → ShapedMaybe IsProper IsProperLval Assigns AnyCall t → Room c.numbering ks (maybe_copy copies t c scope).channels →
          PartAt ks around (site.of_maybe n around k t) (after st (marks.of_maybe t)) c.numbering (maybe_copy copies t c scope)
      maybe_part tree.absent c scope st around k ks s r g x room = no_use n fs c.numbering ks (in_transaction around.holders) [] st scope [] s.agrees s.scoped refl (λ d. refl) tt
      maybe_part (tree.present t) c scope st around k ks s r g x room = statement_part t c scope st around k ks s r g x room

      pub statements_part : (ss : tree.Statements) (c : Context) (scope : Scope) (st : Stack) (around : Enclosing) (k : ℕ) (ks : List ℕ) → Sits n fs gs ks c scope st → Resolves n k st (marks.of_statements ss) → AllIn IsFineHere (site.of_statements n around k ss) → ShapedStatements IsProper IsProperLval Assigns AnyCall ss → Room c.numbering ks (statements_copy copies ss c scope).channels →
          PartAt ks around (site.of_statements n around k ss) (after st (marks.of_statements ss)) c.numbering (statements_copy copies ss c scope)
      statements_part tree.no_more c scope st around k ks s r g x room = no_use n fs c.numbering ks (in_transaction around.holders) [] st scope [] s.agrees s.scoped refl (λ d. refl) tt
      statements_part (tree.more t ss) c scope st around k ks s r g x room =
          let q = c.numbering in
          let ct = statement_copy copies t c scope in
          let cs = statements_copy copies ss c ct.scope in
          let k1 = past k (marks.of_statement t) in
          let su = after st (marks.of_statement t) in
          let r1 = resolves_both n k st (marks.of_statement t) (marks.of_statements ss) r in
          let g1 = split IsFineHere (site.of_statement n around k t) _ g in
          let p = statement_part t c scope st around k ks s r1.0 g1.0 x.0 (room_left q ks ct.channels cs.channels room) in
          let v = statements_part ss c ct.scope su around k1 (ks ++ p.known) (with_names n fs gs (ks ++ p.known) ct.scope su s p.agrees p.scoped) r1.1 g1.1 x.1 (room_right q ks p.known ct.channels cs.channels p.known_made room) in
          at_stack n fs q _ _ (sym (after_both st (marks.of_statement t) (marks.of_statements ss)))
          (part_both n fs q ks (in_transaction around.holders) (site.of_statement n around k t) (site.of_statements n around k1 ss) su (after su (marks.of_statements ss)) ct cs room p v)

      pub branch_part : (b : tree.Branch) (c : Context) (scope : Scope) (st : Stack) (around : Enclosing) (k : ℕ) (ks : List ℕ) → in_transaction around.holders ≡ false → Sits n fs gs ks c scope st → Resolves n k st (marks.of_branch b) → AllIn IsFineHere (site.of_branch n around k b) → ShapedBranch IsProper IsProperLval Assigns AnyCall b → Room c.numbering ks (branch_copy copies b c scope).channels →
          PartAt ks around [] (after st (marks.of_branch b)) c.numbering (branch_copy copies b c scope)
      branch_part (tree.branch place t) c scope st around k ks out s r g x room =
          let mp = marks.optional marks.of_place place in
          let q = quiet_optional marks.of_place quiet_place place in
          let r1 = quiet_split n k st mp (marks.of_statement t) q r in
          let g1 = split IsFineHere (site.optional (site.of_branch_place n around k) place) _ g in
          at_stack n fs c.numbering _ _ (sym (quiet_skip st mp (marks.of_statement t) q))
          (resited n fs c.numbering [] (statement_part t c scope st (inside a_branch around) (past k mp) ks s r1.1 g1.1 x room) (λ e. never e refl))

      branches_part : (bs : tree.Branches) (index : ℕ) (c : Context) (scope : Scope) (st : Stack) (around : Enclosing) (k : ℕ) (ks : List ℕ) → in_transaction around.holders ≡ false → Sits n fs gs ks c scope st → Resolves n k st (marks.of_branches bs) → AllIn IsFineHere (site.of_branches n around k bs) → ShapedBranches IsProper IsProperLval Assigns AnyCall bs → Room c.numbering ks (branches_copy copies bs index c scope).made.channels →
          Branches c.numbering ks (after st (marks.of_branches bs)) (branches_copy copies bs index c scope).made.channels (branches_copy copies bs index c scope).made.named (branches_copy copies bs index c scope).made.scope (branches_copy copies bs index c scope).branches
      branches_part tree.no_branch index c scope st around k ks out s r g x room = record { agrees = s.agrees; scoped = λ t p e. in_left (number c.numbering p) ks [] (s.scoped t p e); names = tt; used = λ d e. never e refl; tidy = tt }
      branches_part (tree.more_branches b bs) index c scope st around k ks out s r g x room =
          let q = c.numbering in
          let cb = branch_copy copies b (in_branch c index) scope in
          let others = branches_copy copies bs (index + 1) c cb.scope in
          let k1 = past k (marks.of_branch b) in
          let su = after st (marks.of_branch b) in
          let r1 = resolves_both n k st (marks.of_branch b) (marks.of_branches bs) r in
          let g1 = split IsFineHere (site.of_branch n around k b) _ g in
          let p = branch_part b (in_branch c index) scope st around k ks out (branch_sits n fs gs index s) r1.0 g1.0 x.0 (room_left q ks cb.channels others.made.channels room) in
          let v = branches_part bs (index + 1) c cb.scope su around k1 (ks ++ p.known) out (with_names n fs gs (ks ++ p.known) cb.scope su s p.agrees p.scoped) r1.1 g1.1 x.1 (room_right q ks p.known cb.channels others.made.channels p.known_made room) in
          let e = after_both st (marks.of_branch b) (marks.of_branches bs) in
          record {
            agrees = subst (λ (z : Stack). Agrees n fs z others.made.scope) (sym e) v.agrees;
            scoped = λ t y f. widen q (number q y) ks p.known cb.channels others.made.channels p.known_made (v.scoped t y f);
            names = both (λ y. In (number q y) (ks ++ made q (cb.channels ++ others.made.channels))) cb.named others.made.named
                (weaker (λ y. In (number q y) (ks ++ made q cb.channels)) (λ y. In (number q y) (ks ++ made q (cb.channels ++ others.made.channels))) cb.named (λ y i. widen_first q (number q y) ks cb.channels others.made.channels i) (part_names p))
                (weaker (λ y. In (number q y) ((ks ++ p.known) ++ made q others.made.channels)) (λ y. In (number q y) (ks ++ made q (cb.channels ++ others.made.channels))) others.made.named (λ y i. widen q (number q y) ks p.known cb.channels others.made.channels p.known_made i) v.names);
            used = λ d u. ⊎_elim (λ l. widen_first q d ks cb.channels others.made.channels (part_uses p d l)) (λ m. widen q d ks p.known cb.channels others.made.channels p.known_made (v.used d m)) (or_cases (uses d cb.code) (by_branches (channel d) others.branches) u);
            tidy = (p.tidy, v.tidy);
          }

      cases_part : (cs : tree.Cases) (c : Context) (scope : Scope) (st : Stack) (around : Enclosing) (k : ℕ) (ks : List ℕ) → in_transaction around.holders ≡ false → Sits n fs gs ks c scope st → Resolves n k st (marks.of_cases cs) → AllIn IsFineHere (site.of_cases n around k cs) → ShapedCases IsProper IsProperLval Assigns AnyCall cs → Room c.numbering ks (cases_copy copies cs c scope).made.channels →
          Cases c.numbering ks (cases_copy copies cs c scope).made.channels (cases_copy copies cs c scope).made.named (cases_copy copies cs c scope).cases (cases_copy copies cs c scope).otherwise
      cases_part tree.no_case c scope st around k ks out s r g x room = record { names = tt; used = λ d e. never e refl; tidy = tt; tidy_default = tt }
      cases_part (tree.more_cases (tree.case pos guard None ss) cs) c scope st around k ks out s r g x room =
          let q = c.numbering in
          let mg = marks.optional marks.of_expression guard in
          let ms = marks.of_case (tree.case pos guard None ss) in
          let cb = statements_copy copies ss (in_case c pos) scope in
          let others = cases_copy copies cs c scope in
          let r1 = resolves_both n k st ms (marks.of_cases cs) r in
          let r2 = resolves_both n k ([] ∷ st) (mg ++ marks.of_statements ss) (Closes ∷ []) r1.0 in
          let r3 = quiet_split n k ([] ∷ st) mg (marks.of_statements ss) (quiet_optional marks.of_expression quiet_expression guard) r2.0 in
          let g1 = split IsFineHere (site.of_case n around k (tree.case pos guard None ss)) _ g in
          let g2 = split IsFineHere (site.optional (site.of_expression n k) guard) _ g1.0 in
          let p = statements_part ss (in_case c pos) scope ([] ∷ st) (inside a_case around) (past k mg) ks (case_sits n fs gs pos (with_names n fs gs ks scope ([] ∷ st) s s.agrees s.scoped)) r3.1 g2.1 x.0.1.1 (room_left q ks cb.channels others.made.channels room) in
          let rest = subst (λ (z : Stack). Resolves n (past k ms) z (marks.of_cases cs)) (case_ends st (tree.case pos guard None ss)) r1.1 in
          let v = cases_part cs c scope st around (past k ms) ks out s rest g1.1 x.1 (room_behind q ks cb.channels others.made.channels room) in
          record {
            names = both (λ y. In (number q y) (ks ++ made q (cb.channels ++ others.made.channels))) cb.named others.made.named
                (weaker (λ y. In (number q y) (ks ++ made q cb.channels)) (λ y. In (number q y) (ks ++ made q (cb.channels ++ others.made.channels))) cb.named (λ y i. widen_first q (number q y) ks cb.channels others.made.channels i) (part_names p))
                (weaker (λ y. In (number q y) (ks ++ made q others.made.channels)) (λ y. In (number q y) (ks ++ made q (cb.channels ++ others.made.channels))) others.made.named (λ y i. widen_second q (number q y) ks cb.channels others.made.channels i) v.names);
            used = λ d u. ⊎_elim (λ l. widen_second q d ks cb.channels others.made.channels (v.used d (or_left (by_cases (channel d) others.cases) (by_default (channel d) others.otherwise) l))) (λ m. widen_first q d ks cb.channels others.made.channels (part_uses p d (by_one d _ m))) (or_cases (by_cases (channel d) others.cases) _ u);
            tidy = v.tidy;
            tidy_default = (p.tidy, tt);
          }
      cases_part (tree.more_cases (tree.case pos guard (Some i) ss) cs) c scope st around k ks out s r g x room =
          let q = c.numbering in
          let mg = marks.optional marks.of_expression guard in
          let ms = marks.of_case (tree.case pos guard (Some i) ss) in
          let inner = case_scope c scope (Some i) in
          let ci = input_names c scope i in
          let cb = statements_copy copies ss (in_case c pos) inner in
          let others = cases_copy copies cs c scope in
          let ch = ci.channels ++ cb.channels in
          let r1 = resolves_both n k st ms (marks.of_cases cs) r in
          let r2 = resolves_both n k ([] ∷ st) (mg ++ (marks.of_input i ++ marks.of_statements ss)) (Closes ∷ []) r1.0 in
          let r3 = quiet_split n k ([] ∷ st) mg (marks.of_input i ++ marks.of_statements ss) (quiet_optional marks.of_expression quiet_expression guard) r2.0 in
          let k1 = past k mg in
          let r4 = resolves_both n k1 ([] ∷ st) (marks.of_input i) (marks.of_statements ss) r3.1 in
          let su = after ([] ∷ st) (marks.of_input i) in
          let g1 = split IsFineHere (site.of_case n around k (tree.case pos guard (Some i) ss)) _ g in
          let g2 = split IsFineHere (site.optional (site.of_expression n k) guard) _ g1.0 in
          let g3 = split IsFineHere (site.of_input n k1 i) _ g2.1 in
          let room1 = room_left q ks ch others.made.channels room in
          let sb = with_names n fs gs ks inner su s (input_agrees c scope ([] ∷ st) i s.agrees) (target_scoped c scope i.target ks s.scoped) in
          let p = statements_part ss (in_case c pos) inner su (inside a_case around) (past k1 (marks.of_input i)) ks (case_sits n fs gs pos sb) r4.1 g3.1 x.0.1.1 (room_behind q ks ci.channels cb.channels room1) in
          let rest = subst (λ (z : Stack). Resolves n (past k ms) z (marks.of_cases cs)) (case_ends st (tree.case pos guard (Some i) ss)) r1.1 in
          let v = cases_part cs c scope st around (past k ms) ks out s rest g1.1 x.1 (room_behind q ks ch others.made.channels room) in
          let guards = maybe_expression c scope guard in
          let from_body = λ (d : ℕ) (h : In d (ks ++ made q cb.channels)). widen_first q d ks ch others.made.channels (widen_second q d ks ci.channels cb.channels h) in
          record {
            names = both (λ y. In (number q y) (ks ++ made q (ch ++ others.made.channels))) (ci.named ++ cb.named) others.made.named
                (both (λ y. In (number q y) (ks ++ made q (ch ++ others.made.channels))) ci.named cb.named
                (named_one q (ks ++ made q (ch ++ others.made.channels)) (entity_of scope i.name.text) (λ y e. in_left (number q y) ks (made q (ch ++ others.made.channels)) (s.scoped i.name.text y e)))
                (weaker (λ y. In (number q y) (ks ++ made q cb.channels)) (λ y. In (number q y) (ks ++ made q (ch ++ others.made.channels))) cb.named (λ y h. from_body (number q y) h) (part_names p)))
                (weaker (λ y. In (number q y) (ks ++ made q others.made.channels)) (λ y. In (number q y) (ks ++ made q (ch ++ others.made.channels))) others.made.named (λ y h. widen_second q (number q y) ks ch others.made.channels h) v.names);
            used = λ d u. case_used q ks d ch others.made.channels guards (input_of c scope i) cb.code others.cases others.otherwise pos c (λ l. in_left d ks (made q (ch ++ others.made.channels)) (input_uses c scope st i ks s d l)) (λ l. from_body d (part_uses p d l)) (λ l. widen_second q d ks ch others.made.channels (v.used d l)) u;
            tidy = ((some_expression SpeaksAlone guards, input SpeaksAlone (input_of c scope i), (p.tidy, tt)), v.tidy);
            tidy_default = v.tidy_default;
          }
