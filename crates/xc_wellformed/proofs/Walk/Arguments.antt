-- In the copy of a typed program each name stands for an instance of what it is declared as; so what holds of each part of the
-- text in such a scope holds of all code of the kernel.
use Rattle.std.proofs.Common.{◌≡◌, ℕ, suc, ◌+◌, Bool, true, false, not, ◌&&◌, if◌then◌else◌, List, [], ◌∷◌, ◌++◌, length, ◌⊎◌, inl, inr, Option, Some, None, slice_get, nat_eq, bytes_eq, option_map, is_some, refl, sym, ap, subst, ◌∙◌, true≢false, arith}
use Rattle.std.proofs.lemmas.Bool.Decides.{nat_tests}
use Rattle.std.proofs.lemmas.Slice.Eq.{bytes_eq-Decides}
use Rattle.xw_words.specs.declared.pos.Pos.{Pos}
use Rattle.xc_tree.specs.declared.tree.Param.{Param}
use Rattle.xc_tree.specs.declared.tree.TreeDir.{TreeDir}
use Rattle.xc_tree.specs.declared.tree.TreeDir.TheVariants.{In, Out, Both}
use Rattle.xc_tree.specs.declared.tree.ParamKind.{ParamKind}
use Rattle.xc_tree.specs.declared.tree.ParamKind.TheVariants as param
use Rattle.xc_tree.specs.declared.names.Decl.{Decl}
use Rattle.xc_tree.specs.declared.names.What.{What}
use Rattle.xc_tree.specs.declared.names.What.TheVariants as what
use Rattle.xc_tree.specs.Plain as tree
use Rattle.xc_tree.specs.Names.Marks as marks
use Rattle.xc_tree.specs.Types.Named.{NamedProgram, what_of, what_at, past, function_of}
use Rattle.xc_tree.specs.Types.Entities.{is_word, is_array, is_index, is_port, is_timer, takes_output, gives_input, agree, is_word_of, is_array_of, is_channel_of, is_port_of, same_direction, length_of, length_does}
use Rattle.xc_tree.specs.Types.Calls.{Argument, given_by, given_form, arguments, fits, rest_of}
use Rattle.xc_tree.specs.Types.Rules.{has_number, gives_word}
use Rattle.xc_tree.specs.Words.{timerafter_word}
use Rattle.xc_tree.specs.Types.Sites.{Site}
use Rattle.xc_tree.specs.Types.Sites as site
use Rattle.xc_tree.specs.Shapes.Enclosing.{Enclosing, a_block, an_if, a_loop, a_case, a_branch, a_transaction, Holder, inside, in_block_of, has_way_out, has_next_turn, in_transaction, in_par_or_transaction, is_main}
use Rattle.xc_tree.specs.Shapes.Rules.{channels, are_one}
use Rattle.xc_kernel.specs.declared.kernel.Var.{Var}
use Rattle.xc_kernel.specs.declared.kernel.Chan.{Chan}
use Rattle.xc_kernel.specs.declared.kernel.Timer.{Timer}
use Rattle.xc_kernel.specs.declared.kernel.PortUse.{PortUse}
use Rattle.xc_kernel.specs.Plain as kernel
use Rattle.xc_tree.specs.Symbols.{bracket}
use Rattle.xc_kernel.specs.Paths.{Path, path_at}
use Rattle.xc_kernel.specs.Numbering.{Numbering, variable_number, channel_number}
use Rattle.xc_kernel.specs.Scopes.{is_unsigned, Scope, Entity, a_word, an_array, an_element, entity_by, entity_of, with_name}
use Rattle.xc_kernel.specs.Expressions.{word_of, expression_in, kernel_place, two_operands, updated}
use Rattle.xc_kernel.specs.Programs.{Function, function_named}
use Rattle.xc_kernel.specs.Copy.{Copy, joined, followed_by, with_code, code_of}
use Rattle.xc_kernel.specs.Context.{Context, expression, place}
use Rattle.xc_kernel.specs.Parameters.{Passed, passed, all_passed, by_element, form_by_reference, by_name}
use Rattle.xc_kernel.specs.Calls.{CopiesCall}
use Rattle.xc_kernel.specs.Transfers.{output_of, input_of}
use Rattle.xc_tree.specs.Shapes.Main.{is_channels_par_return, place_branches, statements_in}
pub use Rattle.xc_meaning.proofs.Counting.GreatestCount.{AllIn, both}
use Rattle.xc_wellformed.specs.Stacks.{declared_at, Frame, Stack, decl_by, found, with_decl, after, IsUndeclared, Resolves}
use Rattle.xc_wellformed.specs.Denotes.{InstanceOf, IsInstance, IsTold, HasVariable, HasChannel, HasTimer, head_of, Denotes, a_variable, whole_array, word_referred, element_referred, array_referred, the_channel, the_end, the_timer, the_port, port_given, the_index, the_function, none_there, Agrees}
use Rattle.xc_wellformed.specs.Each.{EachStatement, EachOf}
use Rattle.xc_wellformed.proofs.Shaped.{WaitsRight, ShapedArguments}
use Rattle.xc_wellformed.proofs.Stacks.{quiet_split, quiet_argument}

pub split : {A : Type 0} (P : A → Type 0) (xs ys : List A) → AllIn P (xs ++ ys) → AllIn P xs × AllIn P ys
split P [] ys h = (tt, h)
split P (x ∷ xs) ys h = let g = split P xs ys h.1 in ((h.0, g.0), g.1)

abbrev pub AllFit : List Argument → Type 0
AllFit [] = Unit {0}
AllFit (a ∷ rest) = (fits a.parameter a.given ≡ true) × AllFit rest

-- what the rules of types promise
abbrev pub IsFine : Site → Type 0
IsFine (site.word x) = is_word x.what ≡ true
IsFine (site.indexed x) = is_array x.what ≡ true
IsFine (site.lval x) = (is_word x.what ≡ true) × (is_index x.what ≡ false)
IsFine (site.call around x meant given r) = (is_some meant ≡ true) × ((has_number meant given ≡ true) × (AllFit given × (r ≡ true → gives_word meant ≡ true)))
IsFine (site.output x) = takes_output x.what ≡ true
IsFine (site.input x) = gives_input x.what ≡ true
IsFine (site.time x p) = is_port x.what ≡ true
IsFine (site.condition x p t) = (if nat_eq t timerafter_word then is_timer x.what else is_port x.what) ≡ true
IsFine (site.return around v p) = (agree v (is_some around.function.result) ≡ true) × (in_par_or_transaction around.holders ≡ false)
IsFine (site.break around p) = has_way_out around.holders ≡ true
IsFine (site.continue around p) = has_next_turn around.holders ≡ true
IsFine (site.transaction around within p) = (are_one (channels within) ≡ true) × (in_transaction around.holders ≡ false)
IsFine (site.par around p) = in_transaction around.holders ≡ false
IsFine (site.select around cs p) = in_transaction around.holders ≡ false
IsFine (site.function h b) = (is_main h && (place_branches (statements_in b) && not (is_channels_par_return (statements_in b)))) ≡ false
IsFine other = Unit {0}

module _ (n : NamedProgram) (fs : List Function) (ps : List PortUse) (num : Numbering) (H J : ℕ → Path → Type 0) (here : ℕ) where
  abbrev pub Known : Stack → Scope → Type 0
  Known st scope = Agrees n fs ps num (H here) (J here) st scope

  abbrev pub Standing : List ℕ → Option What → Entity → Type 0
  Standing t w e = Denotes n fs ps num (H here) (J here) t w e

  -- a name at its place in the text
  pub standing : (st : Stack) (scope : Scope) (k : ℕ) (t : List ℕ) → Known st scope → declared_at n (slice_get n.uses k) ≡ found st t → Standing t (what_at n (slice_get n.uses k)) (entity_of scope t)
  standing st scope k t a e = subst (λ (w : Option What). Standing t w (entity_of scope t)) (sym (meant (slice_get n.uses k) ∙ ap what_of e)) (a t).0
    where
      meant : (o : Option ℕ) → what_at n o ≡ what_of (declared_at n o)
      meant None = refl
      meant (Some d) = refl

  -- an instance on this core
  pub own_variable : (core : ℕ) (path : Path) (b : Bool) (words : ℕ) → core ≡ here → HasVariable num (H core) path b words → HasVariable num (H here) path b words
  own_variable core path b words e h = subst (λ (k : ℕ). HasVariable num (H k) path b words) e h

  pub own_timer : (core : ℕ) (path : Path) → core ≡ here → HasTimer num (J core) path → HasTimer num (J here) path
  own_timer core path e h = subst (λ (k : ℕ). HasTimer num (J k) path) e h

  -- one more name
  abbrev pub Stood : List ℕ → Option Decl → Entity → Type 0
  Stood t o x = Standing t (what_of o) x × IsInstance ps o x

  declared_by : (b : Bool) (t : List ℕ) (d : Decl) (o : Option Decl) (x y : Entity) → (b ≡ true → Stood t (Some d) x) → Stood t o y → Stood t (decl_by b d o) (entity_by b x y)
  declared_by true t d o x y h g = h refl
  declared_by false t d o x y h g = g

  -- what is declared stands for this, by whatever name
  abbrev StandsAlways : What → Entity → Type 0
  StandsAlways w x = (t : List ℕ) → Standing t (Some w) x

  pub with_declared : (st : Stack) (scope : Scope) (d : Decl) (x : Entity) → StandsAlways d.what x → IsInstance ps (Some d) x → Known st scope → Known (with_decl d st) (with_name scope d.name.text x)
  with_declared [] scope d x h i a t = declared_by (bytes_eq d.name.text t) t d None x (entity_of scope t) (λ e. (h t, i)) (a t)
  with_declared (f ∷ st) scope d x h i a t = declared_by (bytes_eq d.name.text t) t d (found (f ∷ st) t) x (entity_of scope t) (λ e. (h t, i)) (a t)

  -- a new scope
  pub in_new : (st : Stack) (scope : Scope) → Known st scope → Known ([] ∷ st) scope
  in_new st scope a t = a t

  module _ (X V : tree.Expression → Type 0) (S : ℕ → Type 0) (E F : kernel.Expression → Type 0) (L : kernel.Place → Type 0) (Z : ℕ → Type 0) (O : kernel.Output → Type 0) (I : kernel.Input → Type 0) (T : ℕ → Type 0) where
    -- what has to be shown of the parts: F is for expressions of the text, and E for all
    pub record Leaves : Type 0 where
      pub weaker : (e : kernel.Expression) → F e → E e
      pub ex : (e : tree.Expression) (k : ℕ) (st : Stack) (scope : Scope) → Known st scope → Resolves n k st (marks.of_expression e) → AllIn IsFine (site.of_expression n k e) → X e → F (expression_in num scope e)
      pub lval : (e : tree.Expression) (k : ℕ) (st : Stack) (scope : Scope) → Known st scope → Resolves n k st (marks.of_expression e) → AllIn IsFine (site.of_lval n k e) → V e → L (kernel_place num scope e)
      pub updating : (e : tree.Expression) (k : ℕ) (st : Stack) (scope : Scope) → Known st scope → Resolves n k st (marks.of_expression e) → AllIn IsFine (site.of_lval n k e) → V e → (symbol : ℕ) → S symbol → (pos : Pos) (value : tree.Expression) (j : ℕ) → Resolves n j st (marks.of_expression value) → AllIn IsFine (site.of_expression n j value) → X value → E (updated num scope e symbol pos (is_unsigned scope value) (expression_in num scope value))
      pub stepping : (e : tree.Expression) (k : ℕ) (st : Stack) (scope : Scope) → Known st scope → Resolves n k st (marks.of_expression e) → AllIn IsFine (site.of_lval n k e) → V e → (symbol : ℕ) → S symbol → (pos : Pos) → E (updated num scope e symbol pos false (kernel.number 1))
      pub testing : (v : kernel.Expression) → F v → (path : Path) (l : ℕ) → HasVariable num (H here) path true l → (pos : Pos) → E (kernel.operation bracket true (two_operands v (kernel.number l)) pos)
      pub one : F (kernel.number 1)
      pub word : (path : Path) → HasVariable num (H here) path false 1 → L (word_of num path)
      pub read_word : (path : Path) → HasVariable num (H here) path false 1 → F (kernel.read (word_of num path))
      pub zero_in : (path : Path) (b : Bool) (words : ℕ) → HasVariable num (H here) path b words → Z (variable_number num path)
      pub going_out : (c : Context) (scope : Scope) (o : tree.Output) (k : ℕ) (st : Stack) → c.numbering ≡ num → Known st scope → Resolves n k st (marks.of_output o) → AllIn IsFine (site.of_output n k o) → O (output_of c scope o)
      pub coming_in : (c : Context) (scope : Scope) (i : tree.Input) (k : ℕ) (st : Stack) → c.numbering ≡ num → Known st scope → Resolves n k st (marks.of_input i) → AllIn IsFine (site.of_input n k i) → WaitsRight i → I (input_of c scope i)
      pub transacting : (path : Path) → HasChannel num path → T (channel_number num path)
      pub index_in : (t : List ℕ) (i : tree.Expression) (pos : Pos) → X (tree.expression (tree.index t i) pos) → X i

    abbrev pub Good : kernel.Statement → Type 0
    Good s = EachStatement E L Z O I T s

    pub as_statements : (xs : List kernel.Statement) → AllIn Good xs → EachOf E L Z O I T (kernel.statements xs)
    as_statements [] h = tt
    as_statements (x ∷ xs) h = (h.0, as_statements xs h.1)

    abbrev VariableMade : Var → Type 0
    VariableMade v = HasVariable num (H v.core) v.path v.array v.words

    abbrev ChannelMade : Chan → Type 0
    ChannelMade c = HasChannel num c.path

    abbrev TimerMade : Timer → Type 0
    TimerMade t = HasTimer num (J t.core) t.path

    -- the instances of a copy are in the kernel's lists
    pub record Made (copy : Copy) : Type 0 where
      pub variables : AllIn VariableMade copy.variables
      pub channels : AllIn ChannelMade copy.channels
      pub timers : AllIn TimerMade copy.timers

    pub made_both : (a b : Copy) → Made (joined a b) → Made a × Made b
    made_both a b m =
        let v = split VariableMade a.variables b.variables m.variables in
        let c = split ChannelMade a.channels b.channels m.channels in
        let t = split TimerMade a.timers b.timers m.timers in
        (record { variables = v.0; channels = c.0; timers = t.0 }, record { variables = v.1; channels = c.1; timers = t.1 })

    -- the same instances
    same_made : (a b : Copy) → a.variables ≡ b.variables → a.channels ≡ b.channels → a.timers ≡ b.timers → Made a → Made b
    same_made a b e f g m = record { variables = subst (AllIn VariableMade) e m.variables; channels = subst (AllIn ChannelMade) f m.channels; timers = subst (AllIn TimerMade) g m.timers }

    pub record Well (st : Stack) (copy : Copy) : Type 0 where
      pub code : AllIn Good copy.code
      pub scope : Known st copy.scope

    pub at_stack : (st other : Stack) (copy : Copy) → st ≡ other → Well st copy → Well other copy
    at_stack st other copy e w = subst (λ (s : Stack). Well s copy) e w

    -- a function obeys the rules, where all that is declared outside is in the outermost frame
    pub record FunctionRight (gs : Frame) (f : Function) : Type 0 where
      pub params_at : ℕ
      pub params_new : Resolves n params_at ([] ∷ gs ∷ []) (marks.each marks.of_param f.head.params)
      pub body_at : ℕ
      pub resolves : Resolves n body_at (after ([] ∷ gs ∷ []) (marks.each marks.of_param f.head.params)) (marks.of_body f.body)
      pub fine : AllIn IsFine (site.of_body n (in_block_of f.head) body_at f.body)
      pub form : IsFine (site.function f.head f.body)

    module _ (leaves : Leaves) (gs : Frame) where
      -- a `return` here would leave the function's body with a value
      abbrev pub NeedsResult : Enclosing → Type 0
      NeedsResult around = (in_par_or_transaction around.holders ≡ false) × (is_some around.function.result ≡ true)

      pub inner_needs : (h : Holder) (around : Enclosing) → NeedsResult (inside h around) → NeedsResult around
      inner_needs a_block around t = t
      inner_needs an_if around t = t
      inner_needs a_loop around t = t
      inner_needs a_case around t = t
      inner_needs a_branch around t = absurd (true≢false t.0)
      inner_needs a_transaction around t = absurd (true≢false t.0)

      -- where a statement stands
      pub record Sits (c : Context) (scope : Scope) (st : Stack) (around : Enclosing) : Type 0 where
        pub numbers : c.numbering ≡ num
        pub core_is : c.core ≡ here
        pub functions_are : c.functions ≡ fs
        pub ports_known : Known (gs ∷ []) c.ports
        pub result_there : NeedsResult around → HasVariable num (H here) c.result false 1
        pub known : Known st scope

      pub sits_in : (c d : Context) (scope other : Scope) (st su : Stack) (around near : Enclosing) → d.numbering ≡ c.numbering → d.functions ≡ c.functions → d.ports ≡ c.ports → d.result ≡ c.result → d.core ≡ c.core → (NeedsResult near → NeedsResult around) → Known su other → Sits c scope st around → Sits d other su near
      sits_in c d scope other st su around near e f g h i q a s = record {
        numbers = e ∙ s.numbers;
        core_is = i ∙ s.core_is;
        functions_are = f ∙ s.functions_are;
        ports_known = subst (λ (x : Scope). Known (gs ∷ []) x) (sym g) s.ports_known;
        result_there = λ r. subst (λ (p : Path). HasVariable num (H here) p false 1) (sym h) (s.result_there (q r));
        known = a;
      }

      -- the same place with other names, or inside something
      pub with_names : (c : Context) (scope other : Scope) (st su : Stack) (around near : Enclosing) → (NeedsResult near → NeedsResult around) → Known su other → Sits c scope st around → Sits c other su near
      with_names c scope other st su around near q a s = sits_in c c scope other st su around near refl refl refl refl refl q a s

      -- expressions and places here
      pub ex_at : (c : Context) (scope : Scope) (st : Stack) (around : Enclosing) (k : ℕ) (e : tree.Expression) → Sits c scope st around → Resolves n k st (marks.of_expression e) → AllIn IsFine (site.of_expression n k e) → X e → F (expression c scope e)
      ex_at c scope st around k e s r g x = subst (λ (m : Numbering). F (expression_in m scope e)) (sym s.numbers) (leaves.ex e k st scope s.known r g x)

      pub test_at : (c : Context) (scope : Scope) (st : Stack) (around : Enclosing) (k : ℕ) (e : tree.Expression) → Sits c scope st around → Resolves n k st (marks.of_expression e) → AllIn IsFine (site.of_expression n k e) → X e → E (expression c scope e)
      test_at c scope st around k e s r g x = leaves.weaker _ (ex_at c scope st around k e s r g x)

      pub lval_at : (c : Context) (scope : Scope) (st : Stack) (around : Enclosing) (k : ℕ) (e : tree.Expression) → Sits c scope st around → Resolves n k st (marks.of_expression e) → AllIn IsFine (site.of_lval n k e) → V e → L (place c scope e)
      lval_at c scope st around k e s r g x = subst (λ (m : Numbering). L (kernel_place m scope e)) (sym s.numbers) (leaves.lval e k st scope s.known r g x)

      pub word_at_path : (c : Context) → c.numbering ≡ num → (path : Path) → HasVariable num (H here) path false 1 → L (word_of c.numbering path)
      word_at_path c e path h = subst (λ (m : Numbering). L (word_of m path)) (sym e) (leaves.word path h)

      pub read_at_path : (c : Context) → c.numbering ≡ num → (path : Path) → HasVariable num (H here) path false 1 → F (kernel.read (word_of c.numbering path))
      read_at_path c e path h = subst (λ (m : Numbering). F (kernel.read (word_of m path))) (sym e) (leaves.read_word path h)

      pub zero_at_path : (c : Context) → c.numbering ≡ num → (path : Path) (b : Bool) (words : ℕ) → HasVariable num (H here) path b words → Z (variable_number c.numbering path)
      zero_at_path c e path b words h = subst (λ (m : Numbering). Z (variable_number m path)) (sym e) (leaves.zero_in path b words h)

      -- Parameters.

      abbrev decl_of : Param → Decl
      decl_of p = record { name = p.name; what = marks.what_of_param p.kind }

      -- the first of some parameters that is spelled so
      abbrev param_found : List Param → List ℕ → Option Decl → Option Decl
      param_found [] t o = o
      param_found (p ∷ qs) t o = decl_by (bytes_eq p.name.text t) (decl_of p) (param_found qs t o)

      text_same : (a b t : List ℕ) → bytes_eq a t ≡ true → bytes_eq a b ≡ false → bytes_eq b t ≡ false
      text_same a b t e f = by (bytes_eq b t) refl
        where
          same : (x y : List ℕ) → bytes_eq x y ≡ true → x ≡ y
          same x y q = (bytes_eq-Decides x y).0 q

          by : (c : Bool) → bytes_eq b t ≡ c → c ≡ false
          by false q = refl
          by true q = absurd (true≢false (sym ((bytes_eq-Decides a b).1 (same a t e ∙ sym (same b t q))) ∙ f))

      abbrev Among : Decl → Frame → Type 0
      Among x [] = ⊥
      Among x (y ∷ f) = (y ≡ x) ⊎ Among x f

      among_fresh : (f : Frame) (x : Decl) (t : List ℕ) → Among x f → IsUndeclared t f → bytes_eq x.name.text t ≡ false
      among_fresh [] x t a h = absurd a
      among_fresh (y ∷ f) x t (inl e) h = ap (λ (z : Decl). bytes_eq z.name.text t) (sym e) ∙ h.0
      among_fresh (y ∷ f) x t (inr a) h = among_fresh f x t a h.1

      -- those behind a parameter aren't spelled as it is
      none_again : (qs : List Param) (k : ℕ) (f g : Frame) (st : Stack) (x : Decl) (t : List ℕ) (o : Option Decl) → Among x f → bytes_eq x.name.text t ≡ true → Resolves n k (f ∷ g ∷ st) (marks.each marks.of_param qs) → param_found qs t o ≡ o
      none_again [] k f g st x t o a e r = refl
      none_again (q ∷ qs) k f g st x t o a e r =
          ap (λ (b : Bool). decl_by b (decl_of q) (param_found qs t o)) (text_same x.name.text q.name.text t e (among_fresh f x q.name.text a r.0))
          ∙ none_again qs (k + 1) (decl_of q ∷ f) g st x t o (inr a) e r.1

      pub params_found : (qs : List Param) (k : ℕ) (f g : Frame) (st : Stack) (t : List ℕ) → Resolves n k (f ∷ g ∷ st) (marks.each marks.of_param qs) → found (after (f ∷ g ∷ st) (marks.each marks.of_param qs)) t ≡ param_found qs t (found (f ∷ g ∷ st) t)
      params_found [] k f g st t r = refl
      params_found (q ∷ qs) k f g st t r = params_found qs (k + 1) (decl_of q ∷ f) g st t r.1 ∙ by (bytes_eq q.name.text t) refl
        where
          by : (b : Bool) → bytes_eq q.name.text t ≡ b → param_found qs t (decl_by b (decl_of q) (found (f ∷ g ∷ st) t)) ≡ decl_by b (decl_of q) (param_found qs t (found (f ∷ g ∷ st) t))
          by false e = refl
          by true e = none_again qs (k + 1) (decl_of q ∷ f) g st (decl_of q) t (Some (decl_of q)) (inl refl) e r.1

      -- Arguments.

      pub no : {A : Type 0} → false ≡ true → A
      no e = absurd (true≢false (sym e))

      pub and_left : (a b : Bool) → (a && b) ≡ true → a ≡ true
      and_left true b e = refl
      and_left false b e = e

      pub and_right : (a b : Bool) → (a && b) ≡ true → b ≡ true
      and_right true b e = e
      and_right false b e = no e

      agree_same : (a b : Bool) → agree a b ≡ true → b ≡ a
      agree_same true b e = e
      agree_same false false e = refl
      agree_same false true e = no e

      direction_same : (d e : TreeDir) → same_direction d e ≡ true → e ≡ d
      direction_same In In q = refl
      direction_same In Out q = no q
      direction_same In Both q = no q
      direction_same Out In q = no q
      direction_same Out Out q = refl
      direction_same Out Both q = no q
      direction_same Both In q = no q
      direction_same Both Out q = no q
      direction_same Both Both q = refl

      -- what a parameter then stands for, and what is stored for it
      record PassedWell (w : What) (p : Passed) : Type 0 where
        pub code : AllIn Good p.code
        pub entity : StandsAlways w p.entity

      reference_given : (u : Bool) (t : List ℕ) (w : Option What) (x : Entity) → Standing t w x → is_word_of u w ≡ true → is_index w ≡ false → StandsAlways (what.Ref u) x
      reference_given u t _ _ (a_variable {u = v} {path = path} h) e i s = subst (λ (b : Bool). Standing s (Some (what.Ref u)) (a_word path b)) (sym (agree_same u v (and_right true (agree u v) e))) (word_referred h)
      reference_given u t _ _ (word_referred {u = v} {path = path} h) e i s = subst (λ (b : Bool). Standing s (Some (what.Ref u)) (a_word path b)) (sym (agree_same u v (and_right true (agree u v) e))) (word_referred h)
      reference_given u t _ _ (element_referred {u = v} {path = path} {index = index} h g) e i s = subst (λ (b : Bool). Standing s (Some (what.Ref u)) (an_element path index b)) (sym (agree_same u v (and_right true (agree u v) e))) (element_referred h g)
      reference_given u t _ _ the_index e i s = absurd (true≢false i)
      reference_given u t _ _ (whole_array {u = v} {l = m} {path = path} h) e i s = no e
      reference_given u t _ _ (array_referred {u = v} {m = m} {path = path} told h) e i s = no e
      reference_given u t _ _ (the_channel h) e i s = no e
      reference_given u t _ _ (the_end h) e i s = no e
      reference_given u t _ _ (the_timer h) e i s = no e
      reference_given u t _ _ (the_port h) e i s = no e
      reference_given u t _ _ (port_given h) e i s = no e
      reference_given u t _ _ (the_function h) e i s = no e
      reference_given u t _ _ none_there e i s = no e

      equal_numbers : (x y : ℕ) → nat_eq x y ≡ true → x ≡ y
      equal_numbers x y e = grind (arith, nat_tests)

      told_by : (l : Option ℕ) (m : ℕ) → length_does l (Some m) ≡ true → IsTold l m
      told_by None m e = tt
      told_by (Some n) m e = equal_numbers n m e

      told_again : (l k : Option ℕ) (m : ℕ) → length_does l k ≡ true → IsTold k m → IsTold l m
      told_again None k m e h = tt
      told_again (Some n) None m e h = no e
      told_again (Some n) (Some j) m e h = equal_numbers n j e ∙ h

      array_given : (u : Bool) (l : Option ℕ) (t : List ℕ) (w : Option What) (x : Entity) → Standing t w x → is_array_of u w ≡ true → length_does l (length_of w) ≡ true → StandsAlways (what.ArrayParam u l) x
      array_given u l t _ _ (whole_array {u = v} {l = m} {path = path} h) e long s = subst (λ (b : Bool). Standing s (Some (what.ArrayParam u l)) (an_array path m b)) (sym (agree_same u v (and_right true (agree u v) e))) (array_referred (told_by l m long) h)
      array_given u l t _ _ (array_referred {u = v} {l = k} {m = m} {path = path} told h) e long s = subst (λ (b : Bool). Standing s (Some (what.ArrayParam u l)) (an_array path m b)) (sym (agree_same u v (and_right true (agree u v) e))) (array_referred (told_again l k m long told) h)
      array_given u l t _ _ (a_variable {u = v} {path = path} h) e long s = no e
      array_given u l t _ _ (word_referred {u = v} {path = path} h) e long s = no e
      array_given u l t _ _ (element_referred {u = v} {path = path} {index = index} h g) e long s = no e
      array_given u l t _ _ the_index e long s = no e
      array_given u l t _ _ (the_channel h) e long s = no e
      array_given u l t _ _ (the_end h) e long s = no e
      array_given u l t _ _ (the_timer h) e long s = no e
      array_given u l t _ _ (the_port h) e long s = no e
      array_given u l t _ _ (port_given h) e long s = no e
      array_given u l t _ _ (the_function h) e long s = no e
      array_given u l t _ _ none_there e long s = no e

      end_given : (st : Bool) (t : List ℕ) (w : Option What) (x : Entity) → Standing t w x → is_channel_of st w ≡ true → StandsAlways (what.End st) x
      end_given st t _ _ (the_channel h) e s = the_end h
      end_given st t _ _ (the_end h) e s = the_end h
      end_given st t _ _ (whole_array {u = v} {l = m} {path = path} h) e s = no e
      end_given st t _ _ (array_referred {u = v} {m = m} {path = path} told h) e s = no e
      end_given st t _ _ (a_variable {u = v} {path = path} h) e s = no e
      end_given st t _ _ (word_referred {u = v} {path = path} h) e s = no e
      end_given st t _ _ (element_referred {u = v} {path = path} {index = index} h g) e s = no e
      end_given st t _ _ the_index e s = no e
      end_given st t _ _ (the_timer h) e s = no e
      end_given st t _ _ (the_port h) e s = no e
      end_given st t _ _ (port_given h) e s = no e
      end_given st t _ _ (the_function h) e s = no e
      end_given st t _ _ none_there e s = no e

      given_port : (d : TreeDir) (t : List ℕ) (w : Option What) (x : Entity) → Standing t w x → is_port_of d w ≡ true → StandsAlways (what.PortParam d) x
      given_port d t _ _ (the_port {d = f} h) e s = port_given (record { port = h.port; there = h.there; direction = h.direction ∙ direction_same d f e })
      given_port d t _ _ (port_given {d = f} h) e s = port_given (record { port = h.port; there = h.there; direction = h.direction ∙ direction_same d f e })
      given_port d t _ _ (the_channel h) e s = no e
      given_port d t _ _ (the_end h) e s = no e
      given_port d t _ _ (whole_array {u = v} {l = m} {path = path} h) e s = no e
      given_port d t _ _ (array_referred {u = v} {m = m} {path = path} told h) e s = no e
      given_port d t _ _ (a_variable {u = v} {path = path} h) e s = no e
      given_port d t _ _ (word_referred {u = v} {path = path} h) e s = no e
      given_port d t _ _ (element_referred {u = v} {path = path} {index = index} h g) e s = no e
      given_port d t _ _ the_index e s = no e
      given_port d t _ _ (the_timer h) e s = no e
      given_port d t _ _ (the_function h) e s = no e
      given_port d t _ _ none_there e s = no e

      -- an element whose index is tested and stored
      element_given : (c : Context) (scope : Scope) (own : Path) (pos spot : Pos) (u : Bool) (i : tree.Expression) (t : List ℕ) (w : Option What) (x : Entity) → c.numbering ≡ num → c.core ≡ here → F (expression c scope i) → Standing t w x → is_array_of u w ≡ true → AllIn VariableMade (by_element c scope own pos i spot x).variables → PassedWell (what.Ref u) (by_element c scope own pos i spot x)
      element_given c scope own pos spot u i t _ _ q on f (whole_array {u = v} {l = m} {path = path} h) e made = let own_index = own_variable c.core (path_at own pos) false 1 on made.0 in record {
        code = ((word_at_path c q (path_at own pos) own_index, leaves.testing (expression c scope i) f path m h spot), tt);
        entity = λ s. subst (λ (b : Bool). Standing s (Some (what.Ref u)) (an_element path (path_at own pos) b)) (sym (agree_same u v (and_right true (agree u v) e))) (element_referred h own_index);
      }
      element_given c scope own pos spot u i t _ _ q on f (array_referred {u = v} {m = m} {path = path} told h) e made = let own_index = own_variable c.core (path_at own pos) false 1 on made.0 in record {
        code = ((word_at_path c q (path_at own pos) own_index, leaves.testing (expression c scope i) f path m h spot), tt);
        entity = λ s. subst (λ (b : Bool). Standing s (Some (what.Ref u)) (an_element path (path_at own pos) b)) (sym (agree_same u v (and_right true (agree u v) e))) (element_referred h own_index);
      }
      element_given c scope own pos spot u i t _ _ q on f (a_variable h) e made = no e
      element_given c scope own pos spot u i t _ _ q on f (word_referred h) e made = no e
      element_given c scope own pos spot u i t _ _ q on f (element_referred h g) e made = no e
      element_given c scope own pos spot u i t _ _ q on f the_index e made = no e
      element_given c scope own pos spot u i t _ _ q on f (the_channel h) e made = no e
      element_given c scope own pos spot u i t _ _ q on f (the_end h) e made = no e
      element_given c scope own pos spot u i t _ _ q on f (the_timer h) e made = no e
      element_given c scope own pos spot u i t _ _ q on f (the_port h) e made = no e
      element_given c scope own pos spot u i t _ _ q on f (port_given h) e made = no e
      element_given c scope own pos spot u i t _ _ q on f (the_function h) e made = no e
      element_given c scope own pos spot u i t _ _ q on f none_there e made = no e

      module _ (c : Context) (scope : Scope) (st : Stack) (around : Enclosing) (s : Sits c scope st around) where
        stands_here : (k : ℕ) (t : List ℕ) → declared_at n (slice_get n.uses k) ≡ found st t → Standing t (what_at n (slice_get n.uses k)) (entity_of scope t)
        stands_here k t e = standing st scope k t s.known e

        reference_form : (own : Path) (pos : Pos) (u : Bool) (f : tree.Form) (p : Pos) (k : ℕ) → Resolves n k st (marks.of_form p f) → AllIn IsFine (site.of_lval n k (tree.expression f p)) → X (tree.expression f p) → fits (Some (param.Ref u)) (given_form n k p f) ≡ true → AllIn VariableMade (form_by_reference c scope own pos p f).variables → PassedWell (what.Ref u) (form_by_reference c scope own pos p f)
        reference_form own pos u (tree.name t) p k r g x e made = record { code = tt; entity = reference_given u t _ _ (stands_here k t r.0) e g.0.1 }
        reference_form own pos u (tree.index t i) p k r g x e made =
            element_given c scope own pos p u i t _ _ s.numbers s.core_is (ex_at c scope st around (k + 1) i s r.1 g.1.1 (leaves.index_in t i p x)) (stands_here k t r.0) e made
        reference_form own pos u (tree.number v b) p k r g x e made = no e
        reference_form own pos u (tree.unary o a) p k r g x e made = no e
        reference_form own pos u (tree.binary o a b) p k r g x e made = no e
        reference_form own pos u (tree.choice q a b) p k r g x e made = no e
        reference_form own pos u (tree.cast b a) p k r g x e made = no e

        array_form : (u : Bool) (l : Option (ℕ × Pos)) (f : tree.Form) (p : Pos) (k : ℕ) → Resolves n k st (marks.of_form p f) → fits (Some (param.Array u l)) (given_form n k p f) ≡ true → PassedWell (what.ArrayParam u (marks.length_of l)) (by_name scope (tree.expression f p))
        array_form u l (tree.name t) p k r e = record { code = tt; entity = array_given u (marks.length_of l) t _ _ (stands_here k t r.0) (and_left _ _ e) (and_right _ _ e) }
        array_form u l (tree.index t i) p k r e = no e
        array_form u l (tree.number v b) p k r e = no e
        array_form u l (tree.unary o a) p k r e = no e
        array_form u l (tree.binary o a b) p k r e = no e
        array_form u l (tree.choice q a b) p k r e = no e
        array_form u l (tree.cast b a) p k r e = no e

        end_form : (b : Bool) (f : tree.Form) (p : Pos) (k : ℕ) → Resolves n k st (marks.of_form p f) → fits (Some (param.End b)) (given_form n k p f) ≡ true → PassedWell (what.End b) (by_name scope (tree.expression f p))
        end_form b (tree.name t) p k r e = record { code = tt; entity = end_given b t _ _ (stands_here k t r.0) e }
        end_form b (tree.index t i) p k r e = no e
        end_form b (tree.number v u) p k r e = no e
        end_form b (tree.unary o a) p k r e = no e
        end_form b (tree.binary o a d) p k r e = no e
        end_form b (tree.choice q a d) p k r e = no e
        end_form b (tree.cast u a) p k r e = no e

        port_form : (d : TreeDir) (f : tree.Form) (p : Pos) (k : ℕ) → Resolves n k st (marks.of_form p f) → fits (Some (param.Port d)) (given_form n k p f) ≡ true → PassedWell (what.PortParam d) (by_name scope (tree.expression f p))
        port_form d (tree.name t) p k r e = record { code = tt; entity = given_port d t _ _ (stands_here k t r.0) e }
        port_form d (tree.index t i) p k r e = no e
        port_form d (tree.number v u) p k r e = no e
        port_form d (tree.unary o a) p k r e = no e
        port_form d (tree.binary o a b) p k r e = no e
        port_form d (tree.choice q a b) p k r e = no e
        port_form d (tree.cast u a) p k r e = no e

        passed_well : (own : Path) (pos : Pos) (kind : ParamKind) (e : tree.Expression) (k : ℕ) → Resolves n k st (marks.of_expression e) → AllIn IsFine (site.of_argument n k (Some kind) e) → X e → fits (Some kind) (given_by n k e) ≡ true → AllIn VariableMade (passed c scope own pos kind e).variables → PassedWell (marks.what_of_param kind) (passed c scope own pos kind e)
        passed_well own pos (param.Value u) e k r g x q made =
            let h = own_variable c.core (path_at own pos) false 1 s.core_is made.0 in
            record { code = ((word_at_path c s.numbers (path_at own pos) h, test_at c scope st around k e s r g x), tt); entity = λ t. a_variable h }
        passed_well own pos (param.Ref u) (tree.expression f p) k r g x q made = reference_form own pos u f p k r g x q made
        passed_well own pos (param.Array u l) (tree.expression f p) k r g x q made = array_form u l f p k r q
        passed_well own pos (param.End b) (tree.expression f p) k r g x q made = end_form b f p k r q
        passed_well own pos (param.Port d) (tree.expression f p) k r g x q made = port_form d f p k r q

        -- all of them, behind which the parameters are known
        -- a parameter by value is a word of its own
        passed_instance : (own : Path) (pos : Pos) (kind : ParamKind) (e : tree.Expression) → InstanceOf ps pos (marks.what_of_param kind) (passed c scope own pos kind e).entity
        passed_instance own pos (param.Value u) e = (own, refl)
        passed_instance own pos (param.Ref u) e = tt
        passed_instance own pos (param.Array u l) e = tt
        passed_instance own pos (param.End b) e = tt
        passed_instance own pos (param.Port d) e = tt

        pub record AllPassed (qs : List Param) (copy : Copy) : Type 0 where
          pub code : AllIn Good copy.code
          pub entities : (t : List ℕ) → Stood t (param_found qs t (found (gs ∷ []) t)) (entity_of copy.scope t)

        fewer : (a b : ℕ) → suc a ≡ suc b → a ≡ b
        fewer a b e = omega arith

        zero_no : {A : Type 0} (a : ℕ) → 0 ≡ suc a → A
        zero_no a e = absurd (omega arith)

        pub all_passed_well : (C : tree.Call → Type 0) (own : Path) (qs : List Param) (args : List tree.Argument) (k : ℕ) → Resolves n k st (marks.each marks.of_argument args) → AllIn IsFine (site.of_arguments n k qs args) → ShapedArguments X V S C args → length args ≡ length qs → AllFit (arguments n k qs args) → AllIn VariableMade (all_passed c scope own qs args).variables → AllPassed qs (all_passed c scope own qs args)
        all_passed_well C own [] args k r g x long fit made = record { code = tt; entities = s.ports_known }
        all_passed_well C own (q ∷ qs) [] k r g x long fit made = zero_no (length qs) long
        all_passed_well C own (q ∷ qs) (a ∷ args) k r g x long fit made =
            let r2 = quiet_split n k st (marks.of_argument a) (marks.each marks.of_argument args) (quiet_argument a) r in
            let g2 = split IsFine (site.of_argument n k (Some q.kind) a.value) (site.of_arguments n (past k (marks.of_argument a)) qs args) g in
            let m2 = split VariableMade (passed c scope own q.name.pos q.kind a.value).variables (all_passed c scope own qs args).variables made in
            let p = passed_well own q.name.pos q.kind a.value k r2.0 g2.0 x.0 fit.0 m2.0 in
            let rest = all_passed_well C own qs args (past k (marks.of_argument a)) r2.1 g2.1 x.1 (fewer (length args) (length qs) long) fit.1 m2.1 in
            record {
              code = both Good (passed c scope own q.name.pos q.kind a.value).code (all_passed c scope own qs args).code p.code rest.code;
              entities = λ t. declared_by (bytes_eq q.name.text t) t (decl_of q) (param_found qs t (found (gs ∷ []) t)) (passed c scope own q.name.pos q.kind a.value).entity (entity_of (all_passed c scope own qs args).scope t) (λ e. (p.entity t, passed_instance own q.name.pos q.kind a.value)) (rest.entities t);
            }

        -- what the call of a function means, by what its name is declared as
        pub function_there : (t : List ℕ) (w : Option What) (x : Entity) → Standing t w x → is_some (function_of n w) ≡ true → function_of n w ≡ option_map head_of (function_named fs t)
        function_there t _ _ (the_function h) e = h
        function_there t _ _ (a_variable h) e = no e
        function_there t _ _ (whole_array h) e = no e
        function_there t _ _ (word_referred h) e = no e
        function_there t _ _ (element_referred h g) e = no e
        function_there t _ _ (array_referred told h) e = no e
        function_there t _ _ (the_channel h) e = no e
        function_there t _ _ (the_end h) e = no e
        function_there t _ _ (the_timer h) e = no e
        function_there t _ _ (the_port h) e = no e
        function_there t _ _ (port_given h) e = no e
        function_there t _ _ the_index e = no e
        function_there t _ _ none_there e = no e

      -- Calls.

      pub equal : (x y : ℕ) → nat_eq x y ≡ true → x ≡ y
      equal x y e = grind (arith, nat_tests)

      pub as_many : (k : ℕ) (qs : List Param) (args : List tree.Argument) → length (arguments n k qs args) ≡ length args
      as_many k qs [] = refl
      as_many k qs (a ∷ args) = ap suc (as_many (past k (marks.of_argument a)) (rest_of qs) args)

      -- the copy of a call, whose result is there where the function has one
      pub record CallWell (st : Stack) (own : Path) (f : Function) (copy : Copy) : Type 0 where
        pub well : Well st copy
        pub result : is_some f.head.result ≡ true → HasVariable num (H here) (path_at own f.head.name.pos) false 1

      abbrev pub CallsWell : (tree.Call → Type 0) → CopiesCall → Type 0
      CallsWell C copies = (call : tree.Call) (f : Function) → function_named fs call.called.text ≡ Some f → C call → (c : Context) (scope : Scope) (st : Stack) (around : Enclosing) (k : ℕ) → Sits c scope st around →
          Resolves n k st (marks.each marks.of_argument call.arguments) → AllIn IsFine (site.of_arguments n k f.head.params call.arguments) → ShapedArguments X V S C call.arguments → length call.arguments ≡ length f.head.params → AllFit (arguments n k f.head.params call.arguments) →
          Made (copies c scope f call.called.pos call.arguments) → CallWell st (path_at c.path call.called.pos) f (copies c scope f call.called.pos call.arguments)

      -- what the rules say of a call of what is meant
      abbrev pub CallFacts : ℕ → List tree.Argument → Bool → Option tree.Head → Type 0
      CallFacts k args r meant = (has_number meant (arguments n k (site.params_of meant) args) ≡ true) × (AllFit (arguments n k (site.params_of meant) args) × ((r ≡ true → gives_word meant ≡ true) × AllIn IsFine (site.of_arguments n k (site.params_of meant) args)))

      pub nothing_well : (c : Context) (scope : Scope) (st : Stack) (around : Enclosing) → Sits c scope st around → Well st (Rattle.xc_kernel.specs.Copy.no_copy scope)
      nothing_well c scope st around s = record { code = tt; scope = s.known }
