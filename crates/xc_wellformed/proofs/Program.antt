-- All code of a typed program's kernel is right.
use Rattle.std.proofs.Common.{◌≡◌, ℕ, zero, suc, ◌+◌, ◌≤◌, inl, inr, Bool, true, false, not, ◌&&◌, List, [], ◌∷◌, length, map, slice_get, bytes_eq, Option, Some, None, option_map, refl, sym, ap, subst, ◌∙◌, true≢false, arith}
use Rattle.std.proofs.lemmas.Slice.Eq.{bytes_eq-Decides}
use Rattle.xc_tree.specs.declared.tree.Param.{Param}
use Rattle.xc_tree.specs.declared.names.Decl.{Decl}
use Rattle.xc_tree.specs.declared.names.What.{What}
use Rattle.xc_tree.specs.declared.names.What.TheVariants as what
use Rattle.xc_tree.specs.Plain as tree
use Rattle.xc_tree.specs.Depth as depth
use Rattle.xc_tree.specs.Derives.{deepest}
use Rattle.xc_tree.specs.Names.Marks as marks
use Rattle.xc_tree.specs.Names.Rules as names
use Rattle.xc_tree.specs.Types.Named.{NamedProgram, what_of, function_of, head_of_item}
use Rattle.xc_tree.specs.Types.Sites as site
use Rattle.xc_tree.specs.Shapes.Enclosing.{is_main, is_empty}
use Rattle.xc_kernel.specs.declared.kernel.PortUse.{PortUse}
use Rattle.xc_kernel.specs.Plain as kernel
use Rattle.xc_kernel.specs.declared.kernel.Var.{Var}
use Rattle.xc_kernel.specs.declared.kernel.Timer.{Timer}
use Rattle.xc_kernel.specs.Paths.{Path}
use Rattle.xc_kernel.specs.Things.{change, by_statements}
use Rattle.xc_kernel.specs.Copy.{Copy}
use Rattle.xc_kernel.specs.Numbering.{Numbering, variable_number, path_of_variable, path_of_timer}
use Rattle.xc_kernel.specs.Scopes.{Entity, entity_of}
use Rattle.xc_kernel.specs.Programs.{Function, functions, ports, main_of, function_by, function_named, name_of_main}
use Rattle.xc_kernel.specs.Ports.{port_use, scope_of_ports}
use Rattle.xc_kernel.specs.Roots as roots
use Rattle.xc_kernel.specs.Copies.{calls_of, rooted, numbering}
use Rattle.xc_kernel.specs.Sound.{IsTyped}
use Rattle.xc_meaning.specs.Texts.Called.{GoesWithin}
use Rattle.xc_meaning.proofs.Recursion.End.{calls_end}
use Rattle.xc_wellformed.specs.Stacks.{Frame, outer, found_in}
use Rattle.xc_wellformed.specs.Denotes.{AnyPath, head_of, Agrees, Denotes, a_variable, whole_array, word_referred, element_referred, array_referred, the_channel, the_end, the_timer, the_port, port_given, the_index, the_function, none_there}
use Rattle.xc_wellformed.specs.Each.{EachRoot, EachRootOn}
use Rattle.xc_wellformed.specs.Exits.{EachRootLeaves}
use Rattle.xc_wellformed.specs.Rising.{IsRising}
use Rattle.xc_wellformed.proofs.Shaped.{Assigns}
use Rattle.xc_wellformed.proofs.Grammar.{AllOf, program_shaped}
use Rattle.xc_wellformed.proofs.Walk.Arguments.{AllIn, IsFine}
use Rattle.xc_wellformed.proofs.Walk.Arguments as walk
use Rattle.xc_wellformed.proofs.Walk.Roots as rooted_walk
use Rattle.xc_wellformed.proofs.FineSites.{fine_sites}
use Rattle.xc_wellformed.proofs.Resolved.{names_resolve, outer_differ}
use Rattle.xc_wellformed.proofs.Outside.{Among, bottom, decl_of_item, outer_item, found_there}
use Rattle.xc_wellformed.proofs.Functions.{functions_right, right_named, outside_known, outside_instance}
use Rattle.xc_wellformed.proofs.Instances.{IsAt, program_variables, program_channels, program_timers, program_blocks}
use Rattle.xc_wellformed.proofs.Right.{IsShallow, IsShallowLval}
use Rattle.xc_wellformed.proofs.Strays.{functions_stand, stand_named}
use Rattle.xc_wellformed.proofs.Shallow.{IsGrown, all_grown, grown_named, any_statement, body_shaped}
use Rattle.xc_wellformed.proofs.Rising.{functions_differ}
use Rattle.xc_wellformed.proofs.Leaving.{IsFineOf, calls_good, roots_good}
use Rattle.xc_wellformed.proofs.Twice.{program_differs}

named_so : (xs : List Function) (t : List ℕ) (f : Function) → function_named xs t ≡ Some f → bytes_eq f.head.name.text t ≡ true
named_so [] t f e = absurd (none_some f e)
  where
    none_some : (x : Function) → None ≡ Some x → ⊥
    none_some x q = cc
named_so (x ∷ xs) t f e = by (bytes_eq x.head.name.text t) refl e (named_so xs t f)
  where
    some_same : (x y : Function) → Some x ≡ Some y → x ≡ y
    some_same x y q = cc

    by : (b : Bool) → bytes_eq x.head.name.text t ≡ b → function_by b x (function_named xs t) ≡ Some f → (function_named xs t ≡ Some f → bytes_eq f.head.name.text t ≡ true) → bytes_eq f.head.name.text t ≡ true
    by true q g k = ap (λ (y : Function). bytes_eq y.head.name.text t) (sym (some_same x f g)) ∙ q
    by false q g k = k g

form_of : (a b c : Bool) → (a && (b && not c)) ≡ false → a ≡ true → b ≡ true → c ≡ true
form_of true true true e f g = refl
form_of true true false e f g = absurd (true≢false e)
form_of true false c e f g = absurd (true≢false (sym g))
form_of false b c e f g = absurd (true≢false (sym f))

in_main : (f : Function) → f.head.params ≡ [] → bytes_eq f.head.name.text name_of_main ≡ true → is_main f.head ≡ true
in_main f e q = ap (λ (b : Bool). b && is_empty f.head.params) q ∙ ap is_empty e

port_there : (xs : List tree.Port) (j : ℕ) (p : tree.Port) → slice_get xs j ≡ Some p → slice_get (map port_use xs) j ≡ Some (port_use p)
port_there [] j p e = absurd (none_some p e)
  where
    none_some : (x : tree.Port) → None ≡ Some x → ⊥
    none_some x q = cc
port_there (x ∷ xs) zero p e = cc
port_there (x ∷ xs) (suc j) p e = port_there xs j p e

all_among : (xs ys : List Decl) → ((d : Decl) → Among d xs → Among d ys) → AllIn (λ d. Among d ys) xs
all_among [] ys h = tt
all_among (x ∷ xs) ys h = (h x (inl refl), all_among xs ys (λ d a. h d (inr a)))

zero_more : (j : ℕ) → j ≡ 0 + j
zero_more j = omega arith

-- what an item declares is declared outside of functions
item_among : (items : List tree.Item) (i k : ℕ) (x : tree.Item) → slice_get items k ≡ Some x → Among (decl_of_item (i + k) x) (outer 0 (marks.of_items i items))
item_among [] i k x e = absurd (none_some x e)
  where
    none_some : (y : tree.Item) → None ≡ Some y → ⊥
    none_some y q = cc
item_among (y ∷ items) i zero x e = subst (λ (ds : List Decl). Among (decl_of_item (i + 0) x) ds) (sym (outer_item i y (marks.of_items (i + 1) items))) (inl (ap (λ (z : tree.Item). decl_of_item i z) (some_same y x e) ∙ ap (λ (j : ℕ). decl_of_item j x) (no_more i)))
  where
    some_same : (a b : tree.Item) → Some a ≡ Some b → a ≡ b
    some_same a b q = cc

    no_more : (j : ℕ) → j ≡ j + 0
    no_more j = omega arith
item_among (y ∷ items) i (suc k) x e = subst (λ (ds : List Decl). Among (decl_of_item (i + suc k) x) ds) (sym (outer_item i y (marks.of_items (i + 1) items))) (inr (subst (λ (j : ℕ). Among (decl_of_item j x) (outer 0 (marks.of_items (i + 1) items))) (one_more i k) (item_among items (i + 1) k x e)))
  where
    one_more : (a b : ℕ) → (a + 1) + b ≡ a + suc b
    one_more a b = omega arith

module _ (P : List tree.Item) (n : NamedProgram) where
  abbrev fs : List Function
  fs = functions P

  abbrev ps : List PortUse
  ps = map port_use (ports P)

  abbrev num : Numbering
  num = numbering P

  module _ (H J : ℕ → Path → Type 0) (E F : ℕ → kernel.Expression → Type 0) (L : ℕ → kernel.Place → Type 0) (Z : ℕ → ℕ → Type 0) (O : ℕ → kernel.Output → Type 0) (I : ℕ → kernel.Input → Type 0) (T : ℕ → ℕ → Type 0) (leaves : (here : ℕ) → walk.Leaves n fs ps num H J here IsShallow IsShallowLval Assigns (E here) (F here) (L here) (Z here) (O here) (I here) (T here)) where
    abbrev Right : ℕ → Frame → Function → Type 0
    Right here gs f = walk.FunctionRight n fs ps num H J here IsShallow IsShallowLval Assigns (E here) (F here) (L here) (Z here) (O here) (I here) (T here) gs f

    -- all code of roots is right
    abbrev pub RootsRight : List kernel.Root → Type 0
    RootsRight rs = EachRootOn E L Z O I T rs

    module _ (types : List Bool) (typed : IsTyped P n types) where
      abbrev gs : Frame
      gs = outer 0 (marks.of_items 0 P)

      fine : AllIn IsFine (site.of_items n 0 0 P)
      unfolding site.sites
      fine = subst (λ (items : List tree.Item). AllIn IsFine (site.of_items n 0 0 items)) typed.is_named.program_is (fine_sites n typed.types_and_shapes)

      all_right : (here : ℕ) → AllIn (Right here gs) fs
      all_right here = functions_right n fs ps num H J here IsShallow IsShallowLval Assigns (E here) (F here) (L here) (Z here) (O here) (I here) (T here) P 0 0 gs gs (outer_differ P n types typed) (bottom (λ t. refl)) (all_among gs gs (λ d a. a)) (names_resolve P n types typed) fine

      right_by_name : (here : ℕ) (t : List ℕ) (f : Function) → function_named fs t ≡ Some f → Right here gs f
      right_by_name here t f e = right_named n fs ps num H J here IsShallow IsShallowLval Assigns (E here) (F here) (L here) (Z here) (O here) (I here) (T here) gs fs (all_right here) t f e

      pub ports_are : (here : ℕ) → Agrees n fs ps num (H here) (J here) (gs ∷ []) (scope_of_ports 0 (ports P))
      ports_are here t = (
        outside_known n fs ps num H J here IsShallow IsShallowLval Assigns (E here) (F here) (L here) (Z here) (O here) (I here) (T here) P 0 0 (outer_differ P n types typed)
            (λ j x e. subst (λ (items : List tree.Item). slice_get items (0 + j) ≡ Some x) (sym typed.is_named.program_is) (subst (λ (u : ℕ). slice_get P u ≡ Some x) (zero_more j) e))
            (λ j p e. record { port = port_use p; there = subst (λ (u : ℕ). slice_get ps u ≡ Some (port_use p)) (zero_more j) (port_there (ports P) j p e); direction = refl }) t refl,
        outside_instance n fs ps num H J here IsShallow IsShallowLval Assigns (E here) (F here) (L here) (Z here) (O here) (I here) (T here) P 0 0
            (λ j p e. (port_use p, subst (λ (u : ℕ). slice_get ps u ≡ Some (port_use p)) (zero_more j) (port_there (ports P) j p e), refl)) t,
      )

      -- Main.

      -- what is found by the name of a main without parameters
      pub record HasMain : Type 0 where
        pub main : Function
        pub main_is : main_of P ≡ Some main
        pub alone : main.head.params ≡ []

      -- a function that is declared is the one that is found by its name
      FindsFunction : List ℕ → Option What → Type 0
      FindsFunction t (Some (what.Func g)) = function_of n (Some (what.Func g)) ≡ option_map head_of (function_named fs t)
      FindsFunction t other = Unit {0}

      finds : (t : List ℕ) (w : Option What) (e : Entity) → Denotes n fs ps num (H 0) (J 0) t w e → FindsFunction t w
      unfolding FindsFunction
      finds t _ _ (the_function h) = h
      finds t _ _ (a_variable h) = tt
      finds t _ _ (whole_array h) = tt
      finds t _ _ (word_referred h) = tt
      finds t _ _ (element_referred h g) = tt
      finds t _ _ (array_referred told h) = tt
      finds t _ _ (the_channel h) = tt
      finds t _ _ (the_end h) = tt
      finds t _ _ (the_timer h) = tt
      finds t _ _ (the_port h) = tt
      finds t _ _ (port_given h) = tt
      finds t _ _ the_index = tt
      finds t _ _ none_there = tt

      -- so is a main without parameters
      main_head : (k : ℕ) (m : names.IsMain P k) → Some m.head ≡ option_map head_of (main_of P)
      unfolding FindsFunction
      main_head k m =
          let d = decl_of_item (0 + k) (tree.function m.head m.body) in
          let at = found_there gs d name_of_main (outer_differ P n types typed) (item_among P 0 k (tree.function m.head m.body) m.there) ((bytes_eq-Decides m.head.name.text name_of_main).1 m.spelled) in
          let found = subst (λ (w : Option What). FindsFunction name_of_main w) (ap what_of at) (finds name_of_main (what_of (found_in gs name_of_main None)) (entity_of (scope_of_ports 0 (ports P)) name_of_main) (ports_are 0 name_of_main).0) in
          sym (ap head_of_item (ap (λ (items : List tree.Item). slice_get items (0 + k)) typed.is_named.program_is ∙ (ap (slice_get P) (sym (zero_more k)) ∙ m.there))) ∙ found

      pub has_main : HasMain
      has_main = by (main_of P) refl
        where
          none_some : (h : tree.Head) → Some h ≡ None → ⊥
          none_some h q = cc

          some_same : (a b : tree.Head) → Some a ≡ Some b → a ≡ b
          some_same a b q = cc

          never : ((k : ℕ) → names.IsMain P k → ⊥) → ⊥
          never f = typed.names _ (names.without_main (record { no_main = f; place = refl }))

          with : (f : Function) → main_of P ≡ Some f → (qs : List Param) → f.head.params ≡ qs → HasMain
          with f e [] q = record { main = f; main_is = e; alone = q }
          with f e (x ∷ qs) q = absurd (never (λ k m. parts x qs (sym m.without ∙ (ap (λ (h : tree.Head). h.params) (some_same m.head f.head (main_head k m ∙ ap (option_map head_of) e)) ∙ q))))
            where
              parts : (y : Param) (ys : List Param) → [] ≡ y ∷ ys → ⊥
              parts y ys r = cc

          by : (o : Option Function) → main_of P ≡ o → HasMain
          by None e = absurd (never (λ k m. none_some m.head (main_head k m ∙ ap (option_map head_of) e)))
          by (Some f) e = with f e f.head.params refl

      fine_by_name : (t : List ℕ) (f : Function) → function_named fs t ≡ Some f → IsFineOf n f
      fine_by_name t f e = let r = right_by_name 0 t f e in record { at = r.body_at; fine = r.fine }

      -- what its roots leave are blocks around
      pub roots_leave : IsRising P → EachRootLeaves (rooted P num).roots
      roots_leave rising =
          let d = program_differs P num (functions_differ P rising) in
          roots_good n fs fine_by_name (calls_of P) (calls_good n fs fine_by_name (length fs)) (main_of P) (roots.context_of P num) refl (fine_by_name name_of_main) (record { differ = d.blocks; there = program_blocks P })

      -- this holds of what is listed, of each root, and of what a root changes
      module _ (rising : IsRising P) (low : depth.of_program P ≤ deepest) (of_variable : (v : Var) → IsAt path_of_variable num.variables v → H v.core v.path) (of_timer : (t : Timer) → IsAt path_of_timer num.timers t → J t.core t.path)
          (A : kernel.Root → Type 0) (all_roots : AllIn A (rooted P num).roots) (may : (r : kernel.Root) → A r → (path : Path) → H r.core path → by_statements (change (variable_number num path)) r.body ≡ true → (here : ℕ) → H here path) where
        abbrev MadeBy : Copy → Type 0
        MadeBy copy = (here : ℕ) → walk.Made n fs ps num H J here IsShallow IsShallowLval Assigns (E here) (F here) (L here) (Z here) (O here) (I here) (T here) copy

        made : MadeBy (rooted P num).made
        made here =
            let d = program_differs P num (functions_differ P rising) in
            record { variables = program_variables P H J of_variable d; channels = program_channels P; timers = program_timers P H J of_timer d }

        grown : AllOf IsGrown fs
        grown = all_grown P (program_shaped typed.text.read.toks _ 0 (length typed.text.read.toks) P typed.text.read.derived) low

        -- all code of the kernel is right
        pub roots_right : RootsRight (rooted P num).roots
        roots_right =
            let m = has_main in
            let main = m.main in
            let r = right_by_name 0 name_of_main main m.main_is in
            let right_main : rooted_walk.MainRight n fs ps num H J IsShallow IsShallowLval Assigns E F L Z O I T leaves gs right_by_name A may (length fs) main = record {
              right = λ here. right_by_name here name_of_main main m.main_is;
              alone = m.alone;
              stands = stand_named fs (functions_stand typed.text.read.toks _ 0 (length typed.text.read.toks) P typed.text.read.derived) name_of_main main m.main_is;
              form = λ e. form_of _ _ _ r.form (in_main main m.alone (named_so fs name_of_main main m.main_is)) e;
            } in
            let shaped = body_shaped fs grown (length fs) main (grown_named fs grown name_of_main main m.main_is) (any_statement (GoesWithin fs (length fs)) (calls_end P n types typed).each main.body) in
            let all = subst (λ (o : Option Function). MadeBy (roots.roots_of (calls_of P) o (roots.context_of P num)).made) m.main_is made in
            let a = subst (λ (o : Option Function). AllIn A (roots.roots_of (calls_of P) o (roots.context_of P num)).roots) m.main_is all_roots in
            let good = rooted_walk.roots_well n fs ps num H J IsShallow IsShallowLval Assigns E F L Z O I T leaves gs right_by_name A may (length fs) main (roots.context_of P num) refl right_main shaped
            (record { numbers = refl; functions_are = refl; ports_known = ports_are; known = ports_are }) all a in
            subst (λ (o : Option Function). RootsRight (roots.roots_of (calls_of P) o (roots.context_of P num)).roots) (sym m.main_is) good

  -- what is the same on all cores
  module _ (E F : kernel.Expression → Type 0) (L : kernel.Place → Type 0) (Z : ℕ → Type 0) (O : kernel.Output → Type 0) (I : kernel.Input → Type 0) (T : ℕ → Type 0) (leaves : (here : ℕ) → walk.Leaves n fs ps num (λ k. AnyPath) (λ k. AnyPath) here IsShallow IsShallowLval Assigns E F L Z O I T) where
    alike : (rs : List kernel.Root) → EachRootOn (λ k. E) (λ k. L) (λ k. Z) (λ k. O) (λ k. I) (λ k. T) rs → EachRoot E L Z O I T rs
    alike [] h = tt
    alike (r ∷ rs) h = (h.0, alike rs h.1)

    any : (rs : List kernel.Root) → AllIn (λ r. Unit {0}) rs
    any [] = tt
    any (r ∷ rs) = (tt, any rs)

    pub roots_alike : (types : List Bool) → IsTyped P n types → IsRising P → depth.of_program P ≤ deepest → EachRoot E L Z O I T (rooted P num).roots
    roots_alike types typed rising low = alike (rooted P num).roots (roots_right (λ k. AnyPath) (λ k. AnyPath) (λ k. E) (λ k. F) (λ k. L) (λ k. Z) (λ k. O) (λ k. I) (λ k. T) leaves types typed rising low (λ v e. tt) (λ t e. tt) (λ r. Unit {0}) (any (rooted P num).roots) (λ r a path h e here. tt))

    pub roots_leave_alike : (types : List Bool) → IsTyped P n types → IsRising P → EachRootLeaves (rooted P num).roots
    roots_leave_alike types typed rising = roots_leave (λ k. AnyPath) (λ k. AnyPath) (λ k. E) (λ k. F) (λ k. L) (λ k. Z) (λ k. O) (λ k. I) (λ k. T) leaves types typed rising
