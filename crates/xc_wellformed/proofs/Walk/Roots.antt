-- The roots of a typed program's copy, each on its core.
use Rattle.std.proofs.Common.{◌≡◌, ◌⊎◌, inl, inr, ℕ, zero, suc, ◌+◌, ◌-◌, Bool, true, false, ◌||◌, List, [], ◌∷◌, ◌++◌, length, Option, Some, None, refl, sym, ap, subst, true≢false, arith}
use Rattle.xw_words.specs.declared.pos.Pos.{Pos}
use Rattle.xc_tree.specs.declared.tree.Id.{Id}
use Rattle.xc_tree.specs.declared.tree.Param.{Param}
use Rattle.xc_tree.specs.declared.names.Decl.{Decl}
use Rattle.xc_tree.specs.declared.names.What.{What}
use Rattle.xc_tree.specs.declared.names.What.TheVariants as what
use Rattle.xc_tree.specs.declared.names.Mark.TheVariants.{Closes, Uses}
use Rattle.xc_tree.specs.Plain as tree
use Rattle.xc_tree.specs.Names.Marks as marks
use Rattle.xc_tree.specs.Types.Named.{NamedProgram, what_of, past}
use Rattle.xc_tree.specs.Types.Sites.{Site}
use Rattle.xc_tree.specs.Types.Sites as site
use Rattle.xc_tree.specs.Shapes.Enclosing.{Enclosing, a_branch, inside, in_block_of}
use Rattle.xc_kernel.specs.declared.kernel.PortUse.{PortUse}
use Rattle.xc_kernel.specs.Plain as kernel
use Rattle.xc_kernel.specs.Paths.{Path, path_at}
use Rattle.xc_kernel.specs.Numbering.{Numbering, variable_number}
use Rattle.xc_kernel.specs.Scopes.{Scope, Entity, a_word, an_array, an_element, a_channel, a_timer, a_constant, entity_of, with_name}
use Rattle.xc_kernel.specs.Programs.{Function, function_named}
use Rattle.xc_kernel.specs.Copy.{Copy, with_code}
use Rattle.xc_kernel.specs.Things.{change, by_statements}
use Rattle.xc_kernel.specs.Context.{Context, in_branch, place}
use Rattle.xc_kernel.specs.Calls.{CopiesCall, result_copy, function_copy, path_of_call, path_of_result, called, call_by, right_copy, value_of, right_is_unsigned}
use Rattle.xc_kernel.specs.Declarations.{kind_copy, declarations_copy}
use Rattle.xc_kernel.specs.Statements.{statement_copy, calls_copy}
use Rattle.xc_tree.specs.Shapes.Main.{is_channel_kind, are_channels, is_return_at_most, is_channels_par_return, place_branches, places_branch, has_placed, is_placed, statements_in}
use Rattle.xc_kernel.specs.Roots as roots
use Rattle.xc_kernel.specs.Ports.{core_of}
use Rattle.xc_wellformed.specs.Stacks.{Frame, Stack, found, with_decl, after, Resolves}
use Rattle.xc_wellformed.specs.Denotes.{Denotes, a_variable, whole_array, word_referred, element_referred, array_referred, the_channel, the_end, the_timer, the_port, port_given, the_index, the_function, none_there}
use Rattle.xc_wellformed.specs.Each.{EachRootOn}
use Rattle.xc_wellformed.proofs.Shaped.{ShapedStatement, ShapedStatements, ShapedBranch, ShapedBranches, Deep}
use Rattle.xc_wellformed.proofs.Talks.{calls_silent}
use Rattle.xc_wellformed.proofs.Strays.{BranchStays, BranchesStay, AllStand, BodyStands}
use Rattle.xc_wellformed.proofs.Leaks.{Changed, Leaks, calls_keep, statement_leaks}
use Rattle.xc_wellformed.proofs.Stacks.{resolves_both, quiet_split, quiet_skip, quiet_optional, quiet_place}
use Rattle.xc_wellformed.proofs.Walk.Arguments.{AllIn, split, both, AllFit, IsFine}
use Rattle.xc_wellformed.proofs.Walk.Arguments as walk
use Rattle.xc_wellformed.proofs.Walk.Statements as statement

-- what holds of the paths of what a name stands for
abbrev OnPaths : (H J : Path → Type 0) → Entity → Type 0
OnPaths H J (a_word path u) = H path
OnPaths H J (an_array path m u) = H path
OnPaths H J (an_element path index u) = H path × H index
OnPaths H J (a_timer path) = J path
OnPaths H J other = Unit {0}

module _ (n : NamedProgram) (fs : List Function) (ps : List PortUse) (num : Numbering) (H J G K : Path → Type 0) where
  paths_of : (t : List ℕ) (w : Option What) (x : Entity) → Denotes n fs ps num H J t w x → OnPaths H J x
  paths_of t _ _ (a_variable h) = h.holds
  paths_of t _ _ (whole_array h) = h.holds
  paths_of t _ _ (word_referred h) = h.holds
  paths_of t _ _ (element_referred h g) = (h.holds, g.holds)
  paths_of t _ _ (array_referred told h) = h.holds
  paths_of t _ _ (the_channel h) = tt
  paths_of t _ _ (the_end h) = tt
  paths_of t _ _ (the_timer h) = h.1
  paths_of t _ _ (the_port h) = tt
  paths_of t _ _ (port_given h) = tt
  paths_of t _ _ the_index = tt
  paths_of t _ _ (the_function h) = tt
  paths_of t _ _ none_there = tt

  stands_with : (t : List ℕ) (w : Option What) (x : Entity) → OnPaths G K x → Denotes n fs ps num H J t w x → Denotes n fs ps num G K t w x
  stands_with t _ _ k (a_variable h) = a_variable (record { variable = h.variable; there = h.there; array = h.array; long = h.long; holds = k })
  stands_with t _ _ k (whole_array h) = whole_array (record { variable = h.variable; there = h.there; array = h.array; long = h.long; holds = k })
  stands_with t _ _ k (word_referred h) = word_referred (record { variable = h.variable; there = h.there; array = h.array; long = h.long; holds = k })
  stands_with t _ _ k (element_referred h g) = element_referred (record { variable = h.variable; there = h.there; array = h.array; long = h.long; holds = k.0 }) (record { variable = g.variable; there = g.there; array = g.array; long = g.long; holds = k.1 })
  stands_with t _ _ k (array_referred told h) = array_referred told (record { variable = h.variable; there = h.there; array = h.array; long = h.long; holds = k })
  stands_with t _ _ k (the_channel h) = the_channel h
  stands_with t _ _ k (the_end h) = the_end h
  stands_with t _ _ k (the_timer h) = the_timer (h.0, k)
  stands_with t _ _ k (the_port h) = the_port h
  stands_with t _ _ k (port_given h) = port_given h
  stands_with t _ _ k the_index = the_index
  stands_with t _ _ k (the_function h) = the_function h
  stands_with t _ _ k none_there = none_there

module _ (n : NamedProgram) (fs : List Function) (ps : List PortUse) (num : Numbering) (H J : ℕ → Path → Type 0) where
  module _ (X V : tree.Expression → Type 0) (S : ℕ → Type 0) (E F : ℕ → kernel.Expression → Type 0) (L : ℕ → kernel.Place → Type 0) (Z : ℕ → ℕ → Type 0) (O : ℕ → kernel.Output → Type 0) (I : ℕ → kernel.Input → Type 0) (T : ℕ → ℕ → Type 0) where
    module _ (leaves : (here : ℕ) → walk.Leaves n fs ps num H J here X V S (E here) (F here) (L here) (Z here) (O here) (I here) (T here)) (gs : Frame) where
      -- A holds of all roots; what a root changes may be used on each core
      module _ (rights : (here : ℕ) (t : List ℕ) (f : Function) → function_named fs t ≡ Some f → (walk.FunctionRight n fs ps num H J here X V S (E here) (F here) (L here) (Z here) (O here) (I here) (T here)) gs f) (A : kernel.Root → Type 0) (may : (r : kernel.Root) → A r → (path : Path) → H r.core path → by_statements (change (variable_number num path)) r.body ≡ true → (here : ℕ) → H here path) where
        -- Roots.

        abbrev RootsGood : List kernel.Root → Type 0
        RootsGood rs = EachRootOn E L Z O I T rs

        abbrev pub MadeOn : ℕ → Copy → Type 0
        MadeOn here copy = (walk.Made n fs ps num H J here X V S (E here) (F here) (L here) (Z here) (O here) (I here) (T here)) copy

        abbrev pub Made : Copy → Type 0
        Made copy = (here : ℕ) → MadeOn here copy

        made_both : (a b : Copy) → Made (Rattle.xc_kernel.specs.Copy.joined a b) → Made a × Made b
        made_both a b m = (λ here. ((walk.made_both n fs ps num H J here X V S (E here) (F here) (L here) (Z here) (O here) (I here) (T here)) a b (m here)).0, λ here. ((walk.made_both n fs ps num H J here X V S (E here) (F here) (L here) (Z here) (O here) (I here) (T here)) a b (m here)).1)

        remade : (a b : Copy) → ((here : ℕ) → MadeOn here a → MadeOn here b) → Made a → Made b
        remade a b f m = λ here. f here (m here)

        abbrev Known : Stack → Scope → Type 0
        Known st scope = (here : ℕ) → (walk.Known n fs ps num H J here) st scope

        more_roots : (xs ys : List kernel.Root) → RootsGood xs → RootsGood ys → RootsGood (xs ++ ys)
        more_roots [] ys h g = g
        more_roots (x ∷ xs) ys h g = (h.0, more_roots xs ys h.1 g)

        -- where main's branches stand
        pub record Stays (c : Context) (scope : Scope) (st : Stack) : Type 0 where
          pub numbers : c.numbering ≡ num
          pub functions_are : c.functions ≡ fs
          pub ports_known : Known (gs ∷ []) c.ports
          pub known : Known st scope

        in_a_branch : (c : Context) (here : ℕ) (scope : Scope) (st : Stack) (around : Enclosing) → Stays c scope st → (walk.Sits n fs ps num H J here X V S (E here) (F here) (L here) (Z here) (O here) (I here) (T here) (leaves here) gs) (record c { core = here }) scope st (inside a_branch around)
        in_a_branch c here scope st around s = record { numbers = s.numbers; core_is = refl; functions_are = s.functions_are; ports_known = s.ports_known here; result_there = λ t. absurd (true≢false t.0); known = s.known here }

        other_names : (c : Context) (index : ℕ) (scope other : Scope) (st su : Stack) → Known su other → Stays c scope st → Stays (in_branch c index) other su
        other_names c index scope other st su a s = record { numbers = s.numbers; functions_are = s.functions_are; ports_known = s.ports_known; known = a }

        same_place : (c : Context) (scope other : Scope) (st su : Stack) → Known su other → Stays c scope st → Stays c other su
        same_place c scope other st su a s = record { numbers = s.numbers; functions_are = s.functions_are; ports_known = s.ports_known; known = a }

        and_left : (a b : Bool) → (Rattle.std.proofs.Common.◌&&◌ a b) ≡ true → a ≡ true
        and_left = walk.and_left n fs ps num H J 0 X V S (E 0) (F 0) (L 0) (Z 0) (O 0) (I 0) (T 0) (leaves 0) gs

        and_right : (a b : Bool) → (Rattle.std.proofs.Common.◌&&◌ a b) ≡ true → b ≡ true
        and_right = walk.and_right n fs ps num H J 0 X V S (E 0) (F 0) (L 0) (Z 0) (O 0) (I 0) (T 0) (leaves 0) gs

        no : {B : Type 0} → false ≡ true → B
        no e = absurd (true≢false (sym e))

        -- what is known behind a root: what was before, and what it changed
        known_behind : (r : kernel.Root) → A r → (scope : Scope) (copy : Copy) (st su : Stack) → ((t : List ℕ) → (entity_of copy.scope t ≡ entity_of scope t) ⊎ Changed num r.body (entity_of copy.scope t)) → Known st scope → (walk.Known n fs ps num H J r.core) su copy.scope → Known su copy.scope
        known_behind r a scope copy st su leaks before behind here t = (
          stands_with n fs ps num (H r.core) (J r.core) (H here) (J here) t (what_of (found su t)) (entity_of copy.scope t)
              (by (entity_of copy.scope t) (leaks t) (paths_of n fs ps num (H r.core) (J r.core) (H r.core) (J r.core) t _ _ (behind t).0)) (behind t).0,
          (behind t).1,
        )
          where
            changed : (x : Entity) → Changed num r.body x → OnPaths (H r.core) (J r.core) x → OnPaths (H here) (J here) x
            changed (a_word path u) e k = may r a path k e here
            changed other e k = absurd e

            by : (x : Entity) → (x ≡ entity_of scope t) ⊎ Changed num r.body x → OnPaths (H r.core) (J r.core) x → OnPaths (H here) (J here) x
            by x (inl e) k = subst (OnPaths (H here) (J here)) (sym e) (paths_of n fs ps num (H here) (J here) (H here) (J here) t _ _ (before here t).0)
            by x (inr e) k = changed x e k

        module _ (depth : ℕ) where
          abbrev C : tree.Call → Type 0
          C = Deep X V S fs depth

          abbrev calls : CopiesCall
          calls = calls_copy depth

          root_well : (main : Pos) (b : tree.Branch) (c : Context) (scope : Scope) (st : Stack) (around : Enclosing) (k : ℕ) → Stays c scope st → Resolves n k st (marks.of_branch b) → AllIn IsFine (site.of_branch n around k b) → ShapedBranch X V S C b → Made (roots.branch_root calls main b c scope).made → RootsGood (roots.branch_root calls main b c scope).roots × (AllIn A (roots.branch_root calls main b c scope).roots → BranchStays b → Known (after st (marks.of_branch b)) (roots.branch_root calls main b c scope).made.scope)
          root_well main (tree.branch place t) c scope st around k s r g x m =
              let mp = marks.optional marks.of_place place in
              let q = quiet_optional marks.of_place quiet_place place in
              let r1 = quiet_split n k st mp (marks.of_statement t) q r in
              let g1 = split IsFine (site.optional (site.of_branch_place n around k) place) _ g in
              let here = core_of scope place in
              let d = record c { core = here } in
              let ct = statement_copy calls t d scope in
              let mh = m here in
              let w = (statement.statement_well n fs ps num H J here X V S (E here) (F here) (L here) (Z here) (O here) (I here) (T here) (leaves here) gs) C calls ((statement.calls_well n fs ps num H J here X V S (E here) (F here) (L here) (Z here) (O here) (I here) (T here) (leaves here) gs (rights here)) depth) (calls_silent depth) t d scope st (inside a_branch around) (past k mp) (in_a_branch c here scope st around s) r1.1 g1.1 x (record { variables = mh.variables; channels = mh.channels; timers = mh.timers }) in (
                ((walk.as_statements n fs ps num H J here X V S (E here) (F here) (L here) (Z here) (O here) (I here) (T here)) ct.code w.code, tt),
                λ a z. subst (λ (su : Stack). Known su ct.scope) (sym (quiet_skip st mp (marks.of_statement t) q))
                    (known_behind _ a.0 scope ct st (after st (marks.of_statement t)) (λ u. subst (λ (e : Numbering). Leaks e scope ct u) s.numbers (statement_leaks calls (calls_keep depth) t z d scope u)) s.known w.scope),
              )

          branch_roots_well : (main : Pos) (bs : tree.Branches) (index : ℕ) (c : Context) (scope : Scope) (st : Stack) (around : Enclosing) (k : ℕ) → BranchesStay bs → Stays c scope st → Resolves n k st (marks.of_branches bs) → AllIn IsFine (site.of_branches n around k bs) → ShapedBranches X V S C bs → Made (roots.branch_roots calls main bs index c scope).made → AllIn A (roots.branch_roots calls main bs index c scope).roots → RootsGood (roots.branch_roots calls main bs index c scope).roots
          branch_roots_well main tree.no_branch index c scope st around k z s r g x m l = tt
          branch_roots_well main (tree.more_branches b bs) index c scope st around k z s r g x m l =
              let a = roots.branch_root calls main b (in_branch c index) scope in
              let rest = roots.branch_roots calls main bs (index + 1) c a.made.scope in
              let r1 = resolves_both n k st (marks.of_branch b) (marks.of_branches bs) r in
              let g1 = split IsFine (site.of_branch n around k b) _ g in
              let m1 = made_both a.made rest.made m in
              let l1 = split A a.roots rest.roots l in
              let su = after st (marks.of_branch b) in
              let w = root_well main b (in_branch c index) scope st around k (other_names c index scope scope st st s.known s) r1.0 g1.0 x.0 m1.0 in
              let v = branch_roots_well main bs (index + 1) c a.made.scope su around (past k (marks.of_branch b)) z.1 (same_place c scope a.made.scope st su (w.1 l1.0 z.0) s) r1.1 g1.1 x.1 m1.1 l1.1 in
              more_roots a.roots rest.roots w.0 v

          numbered_roots_well : (main : Pos) (b : tree.Branch) (name : Id) (c : Context) (scope : Scope) (st : Stack) (around : Enclosing) (k count index number : ℕ) → Stays c scope st → Resolves n k (with_decl (record { name = name; what = what.Index }) ([] ∷ st)) (marks.of_branch b) → AllIn IsFine (site.of_branch n around k b) → ShapedBranch X V S C b → Made (roots.numbered_roots calls main b name.text c scope count index number).made → RootsGood (roots.numbered_roots calls main b name.text c scope count index number).roots
          numbered_roots_well main b name c scope st around k zero index number s r g x m = tt
          numbered_roots_well main b name c scope st around k (suc count) index number s r g x m =
              let d : Decl = record { name = name; what = what.Index } in
              let inner = with_name scope name.text (a_constant number) in
              let a = roots.branch_root calls main b (in_branch c index) inner in
              let rest = roots.numbered_roots calls main b name.text c scope count (index + 1) (number + 1) in
              let m1 = made_both (roots.root_in_scope_of calls scope a).made rest.made m in
              let known : Known (with_decl d ([] ∷ st)) inner = λ here. (walk.with_declared n fs ps num H J here) ([] ∷ st) scope d (a_constant number) (λ t. the_index) tt ((walk.in_new n fs ps num H J here) st scope (s.known here)) in
              let w = root_well main b (in_branch c index) inner (with_decl d ([] ∷ st)) around k (other_names c index scope inner st (with_decl d ([] ∷ st)) known s) r g x (λ here. let y = m1.0 here in record { variables = y.variables; channels = y.channels; timers = y.timers }) in
              more_roots a.roots rest.roots w.0 (numbered_roots_well main b name c scope st around k count (index + 1) (number + 1) s r g x m1.1)

          -- channels that main declares
          channels_known : (ds : List tree.Declaration) (c : Context) (scope : Scope) (st : Stack) → are_channels ds ≡ true → Known st scope → Made (declarations_copy calls c ds scope) → Known (after st (marks.each marks.of_declaration ds)) (declarations_copy calls c ds scope).scope
          channels_known [] c scope st e a m = a
          channels_known (d ∷ ds) c scope st e a m = by d.kind (and_left _ _ e) (made_both (kind_copy calls c scope d.name.text d.name.pos d.kind) (declarations_copy calls c ds (kind_copy calls c scope d.name.text d.name.pos d.kind).scope) m) (λ su x b mm. channels_known ds c x su (and_right _ _ e) b mm)
            where
              by : (kind : tree.Kind) → is_channel_kind kind ≡ true → Made (kind_copy calls c scope d.name.text d.name.pos kind) × Made (declarations_copy calls c ds (kind_copy calls c scope d.name.text d.name.pos kind).scope) →
                  ((su : Stack) (x : Scope) → Known su x → Made (declarations_copy calls c ds x) → Known (after su (marks.each marks.of_declaration ds)) (declarations_copy calls c ds x).scope) →
                  Known (after st (marks.of_declaration (record { kind = kind; name = d.name }) ++ marks.each marks.of_declaration ds)) (declarations_copy calls c ds (kind_copy calls c scope d.name.text d.name.pos kind).scope).scope
              by (tree.channel b) q mm rest =
                  let y : Decl = record { name = d.name; what = what.Chan b } in
                  rest (with_decl y st) _ (λ here. (walk.with_declared n fs ps num H J here) st scope y (a_channel (path_at c.path d.name.pos)) (λ t. the_channel (mm.0 here).channels.0) (c.path, refl) (a here)) mm.1
              by (tree.word u r) q mm rest = no q
              by (tree.array u l p) q mm rest = no q
              by tree.timer q mm rest = no q

          return_roots : (main : Pos) (ss : tree.Statements) (c : Context) (scope : Scope) → is_return_at_most ss ≡ true → RootsGood (roots.block_roots calls main ss c scope).roots
          return_roots main tree.no_more c scope e = tt
          return_roots main (tree.more (tree.statement (tree.return_with r) p close own) tree.no_more) c scope e = tt
          return_roots main other c scope e = no e

          block_roots_well : (main : Pos) (ss : tree.Statements) (c : Context) (scope : Scope) (st : Stack) (around : Enclosing) (k : ℕ) → is_channels_par_return ss ≡ true → AllStand ss → Stays c scope st → Resolves n k st (marks.of_statements ss) → AllIn IsFine (site.of_statements n around k ss) → ShapedStatements X V S C ss → Made (roots.block_roots calls main ss c scope).made → AllIn A (roots.block_roots calls main ss c scope).roots → RootsGood (roots.block_roots calls main ss c scope).roots
          block_roots_well main (tree.more (tree.statement (tree.declare ds) p close own) ss) c scope st around k e z s r g x m l =
              let dc = declarations_copy calls c ds scope in
              let rest = roots.block_roots calls main ss c dc.scope in
              let md = marks.each marks.of_declaration ds in
              let r1 = resolves_both n k st md (marks.of_statements ss) r in
              let g1 = split IsFine (site.of_declarations n around k ds) _ g in
              let m1 = made_both (with_code dc []) rest.made m in
              let known = channels_known ds c scope st (and_left (are_channels ds) (is_channels_par_return ss) e) s.known (λ here. let y = m1.0 here in record { variables = y.variables; channels = y.channels; timers = y.timers }) in
              block_roots_well main ss c dc.scope (after st md) around (past k md) (and_right (are_channels ds) (is_channels_par_return ss) e) z.1 (same_place c scope dc.scope st (after st md) known s) r1.1 g1.1 x.1 m1.1 l
          block_roots_well main (tree.more (tree.statement (tree.par bs) p close own) ss) c scope st around k e z s r g x m l =
              let a = roots.branch_roots calls main bs 0 c scope in
              let rest = roots.block_roots calls main ss c a.made.scope in
              let r1 = resolves_both n k st (marks.of_branches bs) (marks.of_statements ss) r in
              let g1 = split IsFine (site.of_branches n around k bs) _ g.1 in
              let m1 = made_both a.made rest.made m in
              more_roots a.roots rest.roots (branch_roots_well main bs 0 c scope st around k z.0 s r1.0 g1.0 x.0 m1.0 (split A a.roots rest.roots l).0) (return_roots main ss c a.made.scope e)
          block_roots_well main (tree.more (tree.statement (tree.replicated first second third from until b) p close own) ss) c scope st around k e z s r g x m l =
              let a = roots.numbered_roots calls main b first.text c scope (until - from) 0 from in
              let rest = roots.block_roots calls main ss c a.made.scope in
              let d : Decl = record { name = first; what = what.Index } in
              let sd = with_decl d ([] ∷ st) in
              let inner = marks.in_scope (marks.declares first what.Index ∷ Uses second ∷ Uses third ∷ marks.of_branch b) in
              let r0 = (resolves_both n k st inner (marks.of_statements ss) r).0 in
              let r1 = resolves_both n (((k + 1) + 1) + 1) sd (marks.of_branch b) (Closes ∷ []) r0.1.1.1 in
              let rb = subst (λ (j : ℕ). Resolves n j sd (marks.of_branch b)) (three_more k) r1.0 in
              let g1 = split IsFine (site.of_branch n around (k + 3) b) _ g.1.1 in
              let m1 = made_both a.made rest.made m in
              more_roots a.roots rest.roots (numbered_roots_well main b first c scope st around (k + 3) (until - from) 0 from s rb g1.0 x.0 m1.0) (return_roots main ss c a.made.scope e)
            where
              three_more : (k : ℕ) → ((k + 1) + 1) + 1 ≡ k + 3
              three_more k = omega arith
          block_roots_well main other c scope st around k e z s r g x m l = no e

          -- a placed branch is one that the rule on main's form sees
          branch_placed : (bs : tree.Branches) → roots.has_placed bs ≡ true → has_placed bs ≡ true
          branch_placed tree.no_branch e = e
          branch_placed (tree.more_branches (tree.branch None t) bs) e = branch_placed bs e
          branch_placed (tree.more_branches (tree.branch (Some p) t) bs) e = refl

          one_placed : (b : tree.Branch) → roots.is_placed b ≡ true → is_placed b ≡ true
          one_placed (tree.branch None t) e = e
          one_placed (tree.branch (Some p) t) e = refl

          or_true : (a b x y : Bool) → (a ≡ true → x ≡ true) → (b ≡ true → y ≡ true) → (a || b) ≡ true → (x || y) ≡ true
          or_true true b x y f g e = ap (λ (z : Bool). z || y) (f refl)
          or_true false b true y f g e = refl
          or_true false b false y f g e = g e

          action_placed : (a : tree.Action) → roots.action_has_placed a ≡ true → places_branch a ≡ true
          action_placed (tree.par bs) e = branch_placed bs e
          action_placed (tree.replicated first second third from until b) e = one_placed b (and_left _ _ e)
          action_placed other e = no e

          block_placed : (ss : tree.Statements) → roots.block_has_placed ss ≡ true → place_branches ss ≡ true
          block_placed tree.no_more e = e
          block_placed (tree.more (tree.statement a p close own) ss) e = or_true (roots.action_has_placed a) (roots.block_has_placed ss) (places_branch a) (place_branches ss) (action_placed a) (block_placed ss) e

          -- the rules on main
          pub record MainRight (f : Function) : Type 0 where
            pub right : (here : ℕ) → (walk.FunctionRight n fs ps num H J here X V S (E here) (F here) (L here) (Z here) (O here) (I here) (T here)) gs f
            pub alone : f.head.params ≡ []
            pub stands : BodyStands f.body
            pub form : place_branches (statements_in f.body) ≡ true → is_channels_par_return (statements_in f.body) ≡ true

          placed_well : (f : Function) (body : tree.Statement) (c : Context) (k : ℕ) → (place_branches (statements_in body) ≡ true → is_channels_par_return (statements_in body) ≡ true) → BodyStands body → Stays c c.ports ([] ∷ gs ∷ []) → Resolves n k ([] ∷ gs ∷ []) (marks.of_body body) → AllIn IsFine (site.of_body n (in_block_of f.head) k body) → ShapedStatement X V S C body → roots.block_has_placed (roots.in_block body) ≡ true → Made (roots.block_roots calls f.head.name.pos (roots.in_block body) c c.ports).made → AllIn A (roots.block_roots calls f.head.name.pos (roots.in_block body) c c.ports).roots → RootsGood (roots.block_roots calls f.head.name.pos (roots.in_block body) c c.ports).roots
          placed_well f (tree.statement (tree.block ss) p close own) c k form z s r g x e m l = block_roots_well f.head.name.pos ss c c.ports ([] ∷ gs ∷ []) (in_block_of f.head) k (form (block_placed ss e)) z s r g x m l
          placed_well f other c k form z s r g x e m l = no e

          abbrev no_result : Enclosing
          no_result = record { function = record { result = None; name = record { text = []; pos = record { line = 1; col = 1 } }; params = []; own = 0 }; holders = [] }

          main_well : (f : Function) (c : Context) → c.core ≡ 0 → MainRight f → ShapedStatement X V S C f.body → Stays c c.ports (gs ∷ []) → Made (roots.main_root calls f c).made → RootsGood (roots.main_root calls f c).roots
          main_well f c on r x s m =
              let sits : (walk.Sits n fs ps num H J 0 X V S (E 0) (F 0) (L 0) (Z 0) (O 0) (I 0) (T 0) (leaves 0) gs) c c.ports (gs ∷ []) no_result = record { numbers = s.numbers; core_is = on; functions_are = s.functions_are; ports_known = s.ports_known 0; result_there = λ t. no t.1; known = s.known 0 } in
              let fc = function_copy (statement_copy calls) c c.ports [] f [] in
              let long : length {A = tree.Argument} [] ≡ length f.head.params = sym (ap length r.alone) in
              let mh = m 0 in
              let w = (statement.function_well n fs ps num H J 0 X V S (E 0) (F 0) (L 0) (Z 0) (O 0) (I 0) (T 0) (leaves 0) gs) C calls ((statement.calls_well n fs ps num H J 0 X V S (E 0) (F 0) (L 0) (Z 0) (O 0) (I 0) (T 0) (leaves 0) gs (rights 0)) depth) (calls_silent depth) c c.ports (gs ∷ []) no_result 0 [] f [] (r.right 0) x sits tt tt tt long tt (record { variables = mh.variables; channels = mh.channels; timers = mh.timers }) in
              ((walk.as_statements n fs ps num H J 0 X V S (E 0) (F 0) (L 0) (Z 0) (O 0) (I 0) (T 0)) fc.code w.well.code, tt)

          roots_by_well : (b : Bool) (f : Function) (c : Context) → c.core ≡ 0 → roots.block_has_placed (roots.in_block f.body) ≡ b → MainRight f → ShapedStatement X V S C f.body → Stays c c.ports (gs ∷ []) → Made (roots.roots_by calls b f c).made → AllIn A (roots.roots_by calls b f c).roots → RootsGood (roots.roots_by calls b f c).roots
          roots_by_well false f c on e r x s m l = main_well f c on r x s m
          roots_by_well true f c on e r x s m l =
              let su = [] ∷ gs ∷ [] in
              let inst = with_code (Rattle.xc_kernel.specs.Calls.instance_of c f c.ports) [] in
              let m1 = made_both inst (roots.block_roots calls f.head.name.pos (roots.in_block f.body) c c.ports).made m in
              let rs = subst (λ (qs : List Param). Resolves n (r.right 0).body_at (after su (marks.each marks.of_param qs)) (marks.of_body f.body)) r.alone (r.right 0).resolves in
              placed_well f f.body c (r.right 0).body_at r.form r.stands (same_place c c.ports c.ports (gs ∷ []) su (λ here. (walk.in_new n fs ps num H J here) (gs ∷ []) c.ports (s.known here)) s) rs (r.right 0).fine x e m1.1 l

          -- all roots of a program whose main is right
          pub roots_well : (f : Function) (c : Context) → c.core ≡ 0 → MainRight f → ShapedStatement X V S C f.body → Stays c c.ports (gs ∷ []) → Made (roots.roots_of calls (Some f) c).made → AllIn A (roots.roots_of calls (Some f) c).roots → RootsGood (roots.roots_of calls (Some f) c).roots
          roots_well f c on r x s m l = roots_by_well (roots.block_has_placed (roots.in_block f.body)) f c on refl r x s m l
