-- In the copy of a typed program neither a `par` nor a `select` nor a transaction in a transaction uses its channel: functions, calls
-- and roots.
use Rattle.std.proofs.Common.{◌≡◌, inl, inr, ⊎_elim, ℕ, zero, suc, ◌+◌, ◌-◌, Bool, true, false, ◌&&◌, List, [], ◌∷◌, ◌++◌, length, Option, Some, None, refl, sym, ap, subst}
use Rattle.xw_words.specs.declared.pos.Pos.{Pos}
use Rattle.xc_tree.specs.declared.names.Decl.{Decl}
use Rattle.xc_tree.specs.declared.names.What.TheVariants as what
use Rattle.xc_tree.specs.declared.names.Mark.TheVariants.{Closes}
use Rattle.xc_tree.specs.declared.tree.Id.{Id}
use Rattle.xc_tree.specs.Plain as tree
use Rattle.xc_tree.specs.Names.Marks as marks
use Rattle.xc_tree.specs.Types.Named.{NamedProgram, past}
use Rattle.xc_tree.specs.Types.Calls.{arguments}
use Rattle.xc_tree.specs.Types.Sites as site
use Rattle.xc_tree.specs.Shapes.Enclosing.{Enclosing, in_block_of, in_transaction}
use Rattle.xc_tree.specs.Shapes.Main.{is_return_at_most, is_channels_par_return, are_channels, place_branches, places_branch, has_placed, is_placed, statements_in}
use Rattle.xc_kernel.specs.declared.kernel.Chan.{Chan}
use Rattle.xc_kernel.specs.Plain as kernel
use Rattle.xc_kernel.specs.Branches.{branches_of}
use Rattle.xc_kernel.specs.Paths.{Path, path_at}
use Rattle.xc_kernel.specs.Numbering.{Numbering, variable_number}
use Rattle.xc_kernel.specs.Scopes.{Scope, a_constant, entity_of, with_name}
use Rattle.xc_kernel.specs.Programs.{Function, function_named}
use Rattle.xc_kernel.specs.Ports.{core_of}
use Rattle.xc_kernel.specs.Context.{Context, in_branch, in_function, block_at}
use Rattle.xc_kernel.specs.Parameters.{all_passed}
use Rattle.xc_kernel.specs.Calls.{CopiesCall, result_copy, function_copy, path_of_call}
use Rattle.xc_kernel.specs.Declarations.{declarations_copy}
use Rattle.xc_kernel.specs.Statements.{statement_copy, calls_copy}
use Rattle.xc_kernel.specs.Roots as roots
use Rattle.xc_meaning.proofs.Basics.{or_left, or_right, or_cases}
use Rattle.xc_wellformed.specs.Stacks.{Frame, Stack, with_decl, after, Resolves}
use Rattle.xc_wellformed.specs.Operands.{IsProper}
use Rattle.xc_wellformed.proofs.Places.{In}
use Rattle.xc_wellformed.proofs.Spread.{in_left}
use Rattle.xc_wellformed.proofs.Shaped.{AnyCall, IsProperLval, ShapedStatements, ShapedBranch, ShapedBranches, Assigns}
use Rattle.xc_wellformed.proofs.Talks.{CallsSilent, calls_silent}
use Rattle.xc_wellformed.proofs.Leaks.{CallsKeep, calls_keep}
use Rattle.xc_wellformed.proofs.Stacks.{after_both, resolves_both}
use Rattle.xc_wellformed.proofs.Walk.Arguments.{AllIn, AllFit, split}
use Rattle.xc_invariants.specs.Rules.{AnyThing, AnyPar}
use Rattle.xc_invariants.specs.Every.{EveryBranches}
use Rattle.xc_invariants.specs.Tidy.{SpeaksAlone}
use Rattle.xc_invariants.proofs.Tidy.{never}
use Rattle.xc_invariants.proofs.Speaking.{in_either, in_again, tidy_both, by_one, uses_either, number, made, made_right, Room, room_left, room_right, room_behind, Scoped, scoped_with, no_channel, AgreesAt, Agrees, agrees_with, Part, made_left}
use Rattle.xc_invariants.proofs.Handed.{IsFineHere, Idle, idle_zero, params_found, Sits, with_names, branch_sits, all_agree, all_idle, Called, CallsSpeak}
use Rattle.xc_invariants.proofs.Spoken.{Shape, IsRight, three, part_uses, statement_part, statements_part, declarations_part, branch_part}
use Rattle.xc_tree.specs.declared.tree.Param.{Param}

module _ (n : NamedProgram) (fs : List Function) (gs : Frame) where
  module _ (copies : CopiesCall) (speak : CallsSpeak n fs gs copies) (mute : CallsSilent copies) (keep : CallsKeep copies) where
    -- what a part uses is known or made
    called_of : {q : Numbering} {ls : List ℕ} {b : Bool} {xs : _} {st : Stack} {ch : List Chan} {named : List Path} {scope : Scope} {code : List kernel.Statement} → Part n fs q ls b xs st ch named scope code → Called n fs gs q ls ch code
    called_of {q = q} {ls = ls} {ch = ch} p = record { used = λ d u. in_either d ls (made q ch) (part_uses n fs gs p d u); tidy = p.tidy }

    body_part : (h : tree.Head) (body : tree.Statement) (c : Context) (scope : Scope) (st : Stack) (k : ℕ) (ls : List ℕ) → Sits n fs gs ls c scope st → Resolves n k st (marks.of_body body) → AllIn IsFineHere (site.of_body n (in_block_of h) k body) → Shape body → Room c.numbering ls (statement_copy copies body c scope).channels →
        Called n fs gs c.numbering ls (statement_copy copies body c scope).channels (statement_copy copies body c scope).code
    body_part h (tree.statement (tree.block ss) p close own) c scope st k ls s r g x room =
        let w = called_of (statements_part n fs gs copies speak mute keep ss c scope st (in_block_of h) k ls s r g x room) in record { used = w.used; tidy = w.tidy }
    body_part h (tree.statement tree.empty p close own) c scope st k ls s r g x room = called_of (statement_part n fs gs copies speak mute keep (tree.statement tree.empty p close own) c scope st (in_block_of h) k ls s r g x room)
    body_part h (tree.statement (tree.declare ds) p close own) c scope st k ls s r g x room = called_of (statement_part n fs gs copies speak mute keep (tree.statement (tree.declare ds) p close own) c scope st (in_block_of h) k ls s r g x room)
    body_part h (tree.statement (tree.assign to symbol at e) p close own) c scope st k ls s r g x room = called_of (statement_part n fs gs copies speak mute keep (tree.statement (tree.assign to symbol at e) p close own) c scope st (in_block_of h) k ls s r g x room)
    body_part h (tree.statement (tree.step to symbol) p close own) c scope st k ls s r g x room = called_of (statement_part n fs gs copies speak mute keep (tree.statement (tree.step to symbol) p close own) c scope st (in_block_of h) k ls s r g x room)
    body_part h (tree.statement (tree.perform e) p close own) c scope st k ls s r g x room = called_of (statement_part n fs gs copies speak mute keep (tree.statement (tree.perform e) p close own) c scope st (in_block_of h) k ls s r g x room)
    body_part h (tree.statement (tree.output o) p close own) c scope st k ls s r g x room = called_of (statement_part n fs gs copies speak mute keep (tree.statement (tree.output o) p close own) c scope st (in_block_of h) k ls s r g x room)
    body_part h (tree.statement (tree.input i) p close own) c scope st k ls s r g x room = called_of (statement_part n fs gs copies speak mute keep (tree.statement (tree.input i) p close own) c scope st (in_block_of h) k ls s r g x room)
    body_part h (tree.statement (tree.if_then t a b) p close own) c scope st k ls s r g x room = called_of (statement_part n fs gs copies speak mute keep (tree.statement (tree.if_then t a b) p close own) c scope st (in_block_of h) k ls s r g x room)
    body_part h (tree.statement (tree.while_loop t a) p close own) c scope st k ls s r g x room = called_of (statement_part n fs gs copies speak mute keep (tree.statement (tree.while_loop t a) p close own) c scope st (in_block_of h) k ls s r g x room)
    body_part h (tree.statement (tree.do_while a t) p close own) c scope st k ls s r g x room = called_of (statement_part n fs gs copies speak mute keep (tree.statement (tree.do_while a t) p close own) c scope st (in_block_of h) k ls s r g x room)
    body_part h (tree.statement (tree.for_loop y t z a) p close own) c scope st k ls s r g x room = called_of (statement_part n fs gs copies speak mute keep (tree.statement (tree.for_loop y t z a) p close own) c scope st (in_block_of h) k ls s r g x room)
    body_part h (tree.statement (tree.return_with e) p close own) c scope st k ls s r g x room = called_of (statement_part n fs gs copies speak mute keep (tree.statement (tree.return_with e) p close own) c scope st (in_block_of h) k ls s r g x room)
    body_part h (tree.statement tree.break_out p close own) c scope st k ls s r g x room = called_of (statement_part n fs gs copies speak mute keep (tree.statement tree.break_out p close own) c scope st (in_block_of h) k ls s r g x room)
    body_part h (tree.statement tree.continue_on p close own) c scope st k ls s r g x room = called_of (statement_part n fs gs copies speak mute keep (tree.statement tree.continue_on p close own) c scope st (in_block_of h) k ls s r g x room)
    body_part h (tree.statement (tree.par bs) p close own) c scope st k ls s r g x room = called_of (statement_part n fs gs copies speak mute keep (tree.statement (tree.par bs) p close own) c scope st (in_block_of h) k ls s r g x room)
    body_part h (tree.statement (tree.replicated y a z from until b) p close own) c scope st k ls s r g x room = called_of (statement_part n fs gs copies speak mute keep (tree.statement (tree.replicated y a z from until b) p close own) c scope st (in_block_of h) k ls s r g x room)
    body_part h (tree.statement (tree.select cs) p close own) c scope st k ls s r g x room = called_of (statement_part n fs gs copies speak mute keep (tree.statement (tree.select cs) p close own) c scope st (in_block_of h) k ls s r g x room)
    body_part h (tree.statement (tree.transaction is_master ss) p close own) c scope st k ls s r g x room = called_of (statement_part n fs gs copies speak mute keep (tree.statement (tree.transaction is_master ss) p close own) c scope st (in_block_of h) k ls s r g x room)

    result_idle : (c : Context) (path : Path) (pos : Pos) (scope : Scope) (o : Option Bool) → Idle (result_copy c path pos scope o).code
    result_idle c path pos scope None = (λ d. refl, tt)
    result_idle c path pos scope (Some u) = idle_zero (variable_number c.numbering path)

    pub function_part : (c : Context) (scope : Scope) (st : Stack) (k : ℕ) (ks ls : List ℕ) (own : Path) (f : Function) (args : List tree.Argument) → IsRight n gs f → Sits n fs gs ks c scope st → Resolves n k st (marks.each marks.of_argument args) → length args ≡ length f.head.params → AllFit (arguments n k f.head.params args) →
        Scoped c.numbering ls (all_passed c scope own f.head.params args).scope → Room c.numbering ls (function_copy (statement_copy copies) c scope own f args).channels → Called n fs gs c.numbering ls (function_copy (statement_copy copies) c scope own f args).channels (function_copy (statement_copy copies) c scope own f args).code
    function_part c scope st k ks ls own f args fr s r long fit h room =
        let q = c.numbering in
        let cr = result_copy c (path_at own f.head.name.pos) f.head.name.pos scope f.head.result in
        let cp = all_passed c scope own f.head.params args in
        let inner = in_function c own f in
        let cb = statement_copy copies f.body inner cp.scope in
        let su = after ([] ∷ gs ∷ []) (marks.each marks.of_param f.head.params) in
        let agrees : Agrees n fs su cp.scope = λ t. subst (λ (o : Option Decl). AgreesAt n fs t o (entity_of cp.scope t)) (sym (params_found n f.head.params fr.params_at [] gs [] t fr.params_new)) (all_agree n fs gs ks c scope st s own f.head.params args k r long fit t) in
        let sits : Sits n fs gs ls inner cp.scope su = record { functions_are = s.functions_are; ports_agree = s.ports_agree; ports_free = s.ports_free; agrees = agrees; scoped = h } in
        let room1 = room_behind q ls cr.channels (cp.channels ++ cb.channels) room in
        let w = body_part f.head f.body inner cp.scope su fr.body_at ls sits fr.resolves fr.fine fr.shape (room_behind q ls cp.channels cb.channels room1) in
        let i = result_idle c (path_at own f.head.name.pos) f.head.name.pos scope f.head.result in
        let j = all_idle n fs gs ks c scope st s own f.head.params args in
        let block = block_at c own cb.code ∷ [] in
        record {
          used = λ d u. ⊎_elim (λ l. never l (i.0 d)) (λ v. ⊎_elim (λ l. never l (j.0 d)) (λ b. ⊎_elim (λ l. inl l) (λ m. inr (made_right q d cr.channels (cp.channels ++ cb.channels) (made_right q d cp.channels cb.channels m))) (w.used d (by_one d _ b))) (uses_either d cp.code block v)) (uses_either d cr.code (cp.code ++ block) u);
          tidy = tidy_both cr.code (cp.code ++ block) i.1 (tidy_both cp.code block j.1 (w.tidy, tt));
        }

  -- calls, as deep as they go
  module _ (rights : (t : List ℕ) (f : Function) → function_named fs t ≡ Some f → IsRight n gs f) where
    pub calls_speak : (depth : ℕ) → CallsSpeak n fs gs (calls_copy depth)
    calls_speak zero call f e c scope st k ks ls s r long fit h room = record { used = λ d u. never u refl; tidy = tt }
    calls_speak (suc depth) call f e c scope st k ks ls s r long fit h room =
        function_part (calls_copy depth) (calls_speak depth) (calls_silent depth) (calls_keep depth) c scope st k ks ls (path_of_call c call.called.pos) f call.arguments (rights call.called.text f e) s r long fit h room

    -- Roots.
    module _ (depth : ℕ) where
      abbrev calls : CopiesCall
      calls = calls_copy depth

      abbrev TidyRoots : List kernel.Root → Type 0
      TidyRoots rs = EveryBranches AnyThing AnyPar SpeaksAlone (branches_of rs)

      more_roots : (xs ys : List kernel.Root) → TidyRoots xs → TidyRoots ys → TidyRoots (xs ++ ys)
      more_roots [] ys h g = g
      more_roots (x ∷ xs) ys h g = (h.0, more_roots xs ys h.1 g)

      record Rooted (q : Numbering) (ks : List ℕ) (st : Stack) (r : roots.Rooted) : Type 0 where
        agrees : Agrees n fs st r.made.scope
        known : List ℕ
        known_made : (d : ℕ) → In d known → In d (made q r.made.channels)
        scoped : Scoped q (ks ++ known) r.made.scope
        tidy : TidyRoots r.roots

      root_part : (main : Pos) (b : tree.Branch) (c : Context) (scope : Scope) (st : Stack) (around : Enclosing) (k : ℕ) (ks : List ℕ) → in_transaction around.holders ≡ false → Sits n fs gs ks c scope st → Resolves n k st (marks.of_branch b) → AllIn IsFineHere (site.of_branch n around k b) → ShapedBranch IsProper IsProperLval Assigns AnyCall b →
          Room c.numbering ks (roots.branch_root calls main b c scope).made.channels → Rooted c.numbering ks (after st (marks.of_branch b)) (roots.branch_root calls main b c scope)
      root_part main (tree.branch place t) c scope st around k ks out s r g x room =
          let d = record c { core = core_of scope place } in
          let sd : Sits n fs gs ks d scope st = record { functions_are = s.functions_are; ports_agree = s.ports_agree; ports_free = s.ports_free; agrees = s.agrees; scoped = s.scoped } in
          let p = branch_part n fs gs calls (calls_speak depth) (calls_silent depth) (calls_keep depth) (tree.branch place t) d scope st around k ks out sd r g x room in
          record { agrees = p.agrees; known = p.known; known_made = p.known_made; scoped = p.scoped; tidy = (p.tidy, tt) }

      then_roots : (q : Numbering) (ks : List ℕ) (su : Stack) (a b : roots.Rooted) (st : Stack) (r : Rooted q ks st a) (v : Rooted q (ks ++ r.known) su b) → Rooted q ks su (roots.and_roots a b)
      then_roots q ks su a b st r v = record {
        agrees = v.agrees;
        known = r.known ++ v.known;
        known_made = λ d i. ⊎_elim (λ l. made_left q d a.made.channels b.made.channels (r.known_made d l)) (λ m. made_right q d a.made.channels b.made.channels (v.known_made d m)) (in_either d r.known v.known i);
        scoped = λ t p e. in_again (number q p) ks r.known v.known (v.scoped t p e);
        tidy = more_roots a.roots b.roots r.tidy v.tidy;
      }

      branch_roots_part : (main : Pos) (bs : tree.Branches) (index : ℕ) (c : Context) (scope : Scope) (st : Stack) (around : Enclosing) (k : ℕ) (ks : List ℕ) → in_transaction around.holders ≡ false → Sits n fs gs ks c scope st → Resolves n k st (marks.of_branches bs) → AllIn IsFineHere (site.of_branches n around k bs) → ShapedBranches IsProper IsProperLval Assigns AnyCall bs →
          Room c.numbering ks (roots.branch_roots calls main bs index c scope).made.channels → Rooted c.numbering ks (after st (marks.of_branches bs)) (roots.branch_roots calls main bs index c scope)
      branch_roots_part main tree.no_branch index c scope st around k ks out s r g x room = record { agrees = s.agrees; known = []; known_made = λ d i. i; scoped = λ t p e. in_left (number c.numbering p) ks [] (s.scoped t p e); tidy = tt }
      branch_roots_part main (tree.more_branches b bs) index c scope st around k ks out s r g x room =
          let q = c.numbering in
          let a = roots.branch_root calls main b (in_branch c index) scope in
          let others = roots.branch_roots calls main bs (index + 1) c a.made.scope in
          let su = after st (marks.of_branch b) in
          let r1 = resolves_both n k st (marks.of_branch b) (marks.of_branches bs) r in
          let g1 = split IsFineHere (site.of_branch n around k b) _ g in
          let p = root_part main b (in_branch c index) scope st around k ks out (branch_sits n fs gs index s) r1.0 g1.0 x.0 (room_left q ks a.made.channels others.made.channels room) in
          let v = branch_roots_part main bs (index + 1) c a.made.scope su around (past k (marks.of_branch b)) (ks ++ p.known) out (with_names n fs gs (ks ++ p.known) a.made.scope su s p.agrees p.scoped) r1.1 g1.1 x.1 (room_right q ks p.known a.made.channels others.made.channels p.known_made room) in
          let w = then_roots q ks (after su (marks.of_branches bs)) a others su p v in
          record { agrees = subst (λ (z : Stack). Agrees n fs z others.made.scope) (sym (after_both st (marks.of_branch b) (marks.of_branches bs))) w.agrees; known = w.known; known_made = w.known_made; scoped = w.scoped; tidy = w.tidy }

      numbered_roots_part : (main : Pos) (b : tree.Branch) (name : Id) (c : Context) (scope : Scope) (st : Stack) (around : Enclosing) (k : ℕ) (ks : List ℕ) (count index at : ℕ) → in_transaction around.holders ≡ false → Sits n fs gs ks c scope st →
          Resolves n k (with_decl (record { name = name; what = what.Index }) ([] ∷ st)) (marks.of_branch b) → AllIn IsFineHere (site.of_branch n around k b) → ShapedBranch IsProper IsProperLval Assigns AnyCall b →
          Room c.numbering ks (roots.numbered_roots calls main b name.text c scope count index at).made.channels → TidyRoots (roots.numbered_roots calls main b name.text c scope count index at).roots
      numbered_roots_part main b name c scope st around k ks zero index at out s r g x room = tt
      numbered_roots_part main b name c scope st around k ks (suc count) index at out s r g x room =
          let q = c.numbering in
          let d : Decl = record { name = name; what = what.Index } in
          let inner = with_name scope name.text (a_constant at) in
          let a = roots.branch_root calls main b (in_branch c index) inner in
          let others = roots.numbered_roots calls main b name.text c scope count (index + 1) (at + 1) in
          let ag = agrees_with n fs ([] ∷ st) scope d (a_constant at) (refl, refl) s.agrees in
          let h = scoped_with q ks scope name.text (a_constant at) (no_channel q ks (a_constant at) refl) s.scoped in
          let p = root_part main b (in_branch c index) inner (with_decl d ([] ∷ st)) around k ks out (branch_sits n fs gs index (with_names n fs gs ks inner (with_decl d ([] ∷ st)) s ag h)) r g x (room_left q ks a.made.channels others.made.channels room) in
          more_roots a.roots others.roots p.tidy (numbered_roots_part main b name c scope st around k ks count (index + 1) (at + 1) out s r g x (room_behind q ks a.made.channels others.made.channels room))

      -- behind main's `par` there is no root
      no_roots_behind : (main : Pos) (ss : tree.Statements) (c : Context) (scope : Scope) → is_return_at_most ss ≡ true → (roots.block_roots calls main ss c scope).roots ≡ []
      no_roots_behind main tree.no_more c scope e = refl
      no_roots_behind main (tree.more (tree.statement (tree.return_with r) p close own) tree.no_more) c scope e = refl
      no_roots_behind main (tree.more (tree.statement (tree.return_with r) p close own) (tree.more t ss)) c scope e = never e refl
      no_roots_behind main (tree.more (tree.statement other p close own) ss) c scope e = never e refl

      block_roots_part : (main : Pos) (ss : tree.Statements) (c : Context) (scope : Scope) (st : Stack) (around : Enclosing) (k : ℕ) (ks : List ℕ) → is_channels_par_return ss ≡ true → in_transaction around.holders ≡ false → Sits n fs gs ks c scope st → Resolves n k st (marks.of_statements ss) → AllIn IsFineHere (site.of_statements n around k ss) →
          ShapedStatements IsProper IsProperLval Assigns AnyCall ss → Room c.numbering ks (roots.block_roots calls main ss c scope).made.channels → TidyRoots (roots.block_roots calls main ss c scope).roots
      block_roots_part main tree.no_more c scope st around k ks form out s r g x room = never form refl
      block_roots_part main (tree.more (tree.statement (tree.declare ds) p close own) ss) c scope st around k ks form out s r g x room =
          let q = c.numbering in
          let a = declarations_copy calls c ds scope in
          let b = roots.block_roots calls main ss c a.scope in
          let ms = marks.each marks.of_declaration ds in
          let su = after st ms in
          let r1 = resolves_both n k st ms (marks.of_statements ss) r in
          let g1 = split IsFineHere (site.of_declarations n around k ds) _ g in
          let w = declarations_part n fs gs calls (calls_speak depth) (calls_silent depth) (calls_keep depth) ds c scope st around k ks s r1.0 g1.0 (room_left q ks a.channels b.made.channels room) in
          block_roots_part main ss c a.scope su around (past k ms) (ks ++ w.known) (and_right (are_channels ds) (is_channels_par_return ss) form) out (with_names n fs gs (ks ++ w.known) a.scope su s w.agrees w.scoped) r1.1 g1.1 x.1 (room_right q ks w.known a.channels b.made.channels w.known_made room)
        where
          and_right : (u v : Bool) → (u && v) ≡ true → v ≡ true
          and_right true v e = e
          and_right false v e = never e refl
      block_roots_part main (tree.more (tree.statement (tree.par bs) p close own) ss) c scope st around k ks form out s r g x room =
          let q = c.numbering in
          let a = roots.branch_roots calls main bs 0 c scope in
          let b = roots.block_roots calls main ss c a.made.scope in
          let r1 = resolves_both n k st (marks.of_branches bs) (marks.of_statements ss) r in
          let g1 = split IsFineHere (site.of_action n around k p (tree.par bs)) _ g in
          let w = branch_roots_part main bs 0 c scope st around k ks out s r1.0 g1.0.1 x.0 (room_left q ks a.made.channels b.made.channels room) in
          more_roots a.roots b.roots w.tidy (subst TidyRoots (sym (no_roots_behind main ss c a.made.scope form)) tt)
      block_roots_part main (tree.more (tree.statement (tree.replicated first second third from until b) p close own) ss) c scope st around k ks form out s r g x room =
          let q = c.numbering in
          let a = roots.numbered_roots calls main b first.text c scope (until - from) 0 from in
          let others = roots.block_roots calls main ss c a.made.scope in
          let d : Decl = record { name = first; what = what.Index } in
          let sd = with_decl d ([] ∷ st) in
          let r0 = resolves_both n k st (marks.of_action (tree.replicated first second third from until b)) (marks.of_statements ss) r in
          let r1 = resolves_both n (((k + 1) + 1) + 1) sd (marks.of_branch b) (Closes ∷ []) r0.0.1.1.1 in
          let rb = subst (λ (j : ℕ). Resolves n j sd (marks.of_branch b)) (three k) r1.0 in
          let g1 = split IsFineHere (site.of_action n around k p (tree.replicated first second third from until b)) _ g in
          let w = numbered_roots_part main b first c scope st around (k + 3) ks (until - from) 0 from out s rb g1.0.1.1 x.0 (room_left q ks a.made.channels others.made.channels room) in
          more_roots a.roots others.roots w (subst TidyRoots (sym (no_roots_behind main ss c a.made.scope form)) tt)
      block_roots_part main (tree.more (tree.statement other p close own) ss) c scope st around k ks form out s r g x room = never form refl

      -- a placed branch is one that the rule on main's form sees
      branch_placed : (bs : tree.Branches) → roots.has_placed bs ≡ true → has_placed bs ≡ true
      branch_placed tree.no_branch e = e
      branch_placed (tree.more_branches (tree.branch None t) bs) e = branch_placed bs e
      branch_placed (tree.more_branches (tree.branch (Some p) t) bs) e = refl

      one_placed : (b : tree.Branch) → roots.is_placed b ≡ true → is_placed b ≡ true
      one_placed (tree.branch None t) e = e
      one_placed (tree.branch (Some p) t) e = refl

      and_first : (u v : Bool) → (u && v) ≡ true → u ≡ true
      and_first true v e = refl
      and_first false v e = never e refl

      action_placed : (a : tree.Action) → roots.action_has_placed a ≡ true → places_branch a ≡ true
      action_placed (tree.par bs) e = branch_placed bs e
      action_placed (tree.replicated first second third from until b) e = one_placed b (and_first _ _ e)
      action_placed other e = never e refl

      block_placed : (ss : tree.Statements) → roots.block_has_placed ss ≡ true → place_branches ss ≡ true
      block_placed tree.no_more e = e
      block_placed (tree.more (tree.statement a p close own) ss) e =
          ⊎_elim (λ l. or_left (places_branch a) (place_branches ss) (action_placed a l)) (λ r. or_right (places_branch a) (place_branches ss) (block_placed ss r)) (or_cases (roots.action_has_placed a) (roots.block_has_placed ss) e)

      -- the rules on main
      pub record IsMain (f : Function) : Type 0 where
        pub right : IsRight n gs f
        pub alone : f.head.params ≡ []
        pub form : place_branches (statements_in f.body) ≡ true → is_channels_par_return (statements_in f.body) ≡ true

      placed_part : (f : Function) (body : tree.Statement) (c : Context) (k : ℕ) → (place_branches (statements_in body) ≡ true → is_channels_par_return (statements_in body) ≡ true) → Sits n fs gs [] c c.ports ([] ∷ gs ∷ []) → Resolves n k ([] ∷ gs ∷ []) (marks.of_body body) →
          AllIn IsFineHere (site.of_body n (in_block_of f.head) k body) → Shape body → roots.block_has_placed (roots.in_block body) ≡ true → Room c.numbering [] (roots.block_roots calls f.head.name.pos (roots.in_block body) c c.ports).made.channels → TidyRoots (roots.block_roots calls f.head.name.pos (roots.in_block body) c c.ports).roots
      placed_part f (tree.statement (tree.block ss) p close own) c k form s r g x e room = block_roots_part f.head.name.pos ss c c.ports ([] ∷ gs ∷ []) (in_block_of f.head) k [] (form (block_placed ss e)) refl s r g x room
      placed_part f other c k form s r g x e room = never e refl

      main_part : (f : Function) (c : Context) → IsMain f → Sits n fs gs [] c c.ports (gs ∷ []) → Room c.numbering [] (roots.main_root calls f c).made.channels → TidyRoots (roots.main_root calls f c).roots
      main_part f c m s room =
          let long : length {A = tree.Argument} [] ≡ length f.head.params = sym (ap length m.alone) in
          let fit = subst (λ (qs : List Param). Scoped c.numbering [] (all_passed c c.ports [] qs []).scope) (sym m.alone) s.ports_free in
          let w = function_part calls (calls_speak depth) (calls_silent depth) (calls_keep depth) c c.ports (gs ∷ []) 0 [] [] [] f [] m.right s tt long tt fit room in
          (w.tidy, tt)

      roots_by_part : (b : Bool) (f : Function) (c : Context) → roots.block_has_placed (roots.in_block f.body) ≡ b → IsMain f → Sits n fs gs [] c c.ports (gs ∷ []) → Room c.numbering [] (roots.roots_by calls b f c).made.channels → TidyRoots (roots.roots_by calls b f c).roots
      roots_by_part true f c e m s room =
          let su = after ([] ∷ gs ∷ []) (marks.each marks.of_param f.head.params) in
          let no : su ≡ [] ∷ gs ∷ [] = ap (λ (qs : List Param). after ([] ∷ gs ∷ []) (marks.each marks.of_param qs)) m.alone in
          let r = subst (λ (z : Stack). Resolves n m.right.body_at z (marks.of_body f.body)) no m.right.resolves in
          placed_part f f.body c m.right.body_at m.form (with_names n fs gs [] c.ports ([] ∷ gs ∷ []) s s.agrees s.scoped) r m.right.fine m.right.shape e room
      roots_by_part false f c e m s room = main_part f c m s room

      pub roots_part : (f : Function) (c : Context) → IsMain f → Sits n fs gs [] c c.ports (gs ∷ []) → Room c.numbering [] (roots.roots_of calls (Some f) c).made.channels → TidyRoots (roots.roots_of calls (Some f) c).roots
      roots_part f c m s room = roots_by_part (roots.block_has_placed (roots.in_block f.body)) f c refl m s room
