-- Which parts of a text communicate, and what their copies name.
use Rattle.std.proofs.Common.{◌≡◌, ◌⊎◌, inl, inr, ℕ, zero, suc, Bool, true, false, ◌||◌, List, [], ◌∷◌, ◌++◌, Option, Some, None, refl, sym, ap, ◌∙◌, true≢false}
use Rattle.xw_words.specs.declared.pos.Pos.{Pos}
use Rattle.xc_tree.specs.declared.tree.Param.{Param}
use Rattle.xc_tree.specs.declared.tree.ParamKind.{ParamKind}
use Rattle.xc_tree.specs.declared.tree.ParamKind.TheVariants as param
use Rattle.xc_tree.specs.Plain as tree
use Rattle.xc_tree.specs.Names.Marks as marks
use Rattle.xc_tree.specs.Types.Named.{NamedProgram, Name, past}
use Rattle.xc_tree.specs.Types.Entities.{is_channel}
use Rattle.xc_tree.specs.Types.Calls.{first_of, rest_of}
use Rattle.xc_tree.specs.Types.Sites.{Site, communications}
use Rattle.xc_tree.specs.Types.Sites as site
use Rattle.xc_tree.specs.Shapes.Enclosing.{Enclosing}
use Rattle.xc_tree.specs.Shapes.Rules.{channels, are_one}
use Rattle.xc_kernel.specs.Paths.{Path}
use Rattle.xc_kernel.specs.Scopes.{Scope}
use Rattle.xc_kernel.specs.Programs.{Function}
use Rattle.xc_kernel.specs.Context.{Context}
use Rattle.xc_kernel.specs.Calls.{CopiesCall, right_copy, call_by, called}
use Rattle.xc_kernel.specs.Declarations.{initial_copy, kind_copy, declarations_copy}
use Rattle.xc_kernel.specs.Statements.{assign_by, return_copy, calls_copy}

-- whether some of these is the communication of a channel
abbrev pub talks : List Site → Bool
talks [] = false
talks (site.output x ∷ ss) = is_channel x.what || talks ss
talks (site.input x ∷ ss) = is_channel x.what || talks ss
talks (other ∷ ss) = talks ss

either_talks : (a b c d : Bool) → (b ≡ true → (c ≡ true) ⊎ (d ≡ true)) → (a || b) ≡ true → ((a || c) ≡ true) ⊎ (d ≡ true)
either_talks true b c d f e = inl refl
either_talks false b c d f e = f e

pub talks_both : (xs ys : List Site) → talks (xs ++ ys) ≡ true → (talks xs ≡ true) ⊎ (talks ys ≡ true)
talks_both [] ys e = inr e
talks_both (site.output x ∷ xs) ys e = either_talks (is_channel x.what) (talks (xs ++ ys)) (talks xs) (talks ys) (talks_both xs ys) e
talks_both (site.input x ∷ xs) ys e = either_talks (is_channel x.what) (talks (xs ++ ys)) (talks xs) (talks ys) (talks_both xs ys) e
talks_both (other ∷ xs) ys e = talks_both xs ys e

pub silent_both : (xs ys : List Site) → talks xs ≡ false → talks ys ≡ false → talks (xs ++ ys) ≡ false
silent_both xs ys e f = by (talks (xs ++ ys)) refl
  where
    clash : (talks xs ≡ true) ⊎ (talks ys ≡ true) → ⊥
    clash (inl q) = true≢false (sym q ∙ e)
    clash (inr q) = true≢false (sym q ∙ f)

    by : (b : Bool) → talks (xs ++ ys) ≡ b → b ≡ false
    by true q = absurd (clash (talks_both xs ys q))
    by false q = refl

-- where a channel is named, some part is its communication
no_channels : (ss : List Site) → talks ss ≡ false → channels (communications ss) ≡ []
no_channels [] e = refl
no_channels (site.output x ∷ ss) e = by (is_channel x.what) refl e (no_channels ss)
  where
    by : (b : Bool) → is_channel x.what ≡ b → (b || talks ss) ≡ false → (talks ss ≡ false → channels (communications ss) ≡ []) → channels (communications (site.output x ∷ ss)) ≡ []
    by true q h k = absurd (true≢false h)
    by false q h k = ap (λ (b : Bool). Rattle.xc_tree.specs.Shapes.Rules.declared_as_channel b x.declared ++ channels (communications ss)) q ∙ k h
no_channels (site.input x ∷ ss) e = by (is_channel x.what) refl e (no_channels ss)
  where
    by : (b : Bool) → is_channel x.what ≡ b → (b || talks ss) ≡ false → (talks ss ≡ false → channels (communications ss) ≡ []) → channels (communications (site.input x ∷ ss)) ≡ []
    by true q h k = absurd (true≢false h)
    by false q h k = ap (λ (b : Bool). Rattle.xc_tree.specs.Shapes.Rules.declared_as_channel b x.declared ++ channels (communications ss)) q ∙ k h
no_channels (other ∷ ss) e = no_channels ss e

pub one_talks : (ss : List Site) → are_one (channels (communications ss)) ≡ true → talks ss ≡ true
one_talks ss e = by (talks ss) refl
  where
    by : (b : Bool) → talks ss ≡ b → b ≡ true
    by true q = refl
    by false q = absurd (true≢false (sym e ∙ ap are_one (no_channels ss q)))

-- What doesn't communicate.

module _ (n : NamedProgram) where
  mutual
    pub silent_expression : (k : ℕ) (e : tree.Expression) → talks (site.of_expression n k e) ≡ false
    silent_expression k (tree.expression f p) = silent_form k p f

    silent_form : (k : ℕ) (p : Pos) (f : tree.Form) → talks (site.of_form n k p f) ≡ false
    silent_form k p (tree.number v u) = refl
    silent_form k p (tree.name t) = refl
    silent_form k p (tree.index t e) = silent_expression _ e
    silent_form k p (tree.unary o a) = silent_expression _ a
    silent_form k p (tree.binary o a b) = silent_both (site.of_expression n k a) _ (silent_expression k a) (silent_expression _ b)
    silent_form k p (tree.choice c a b) = silent_both (site.of_expression n k c) _ (silent_expression k c) (silent_both (site.of_expression n _ a) _ (silent_expression _ a) (silent_expression _ b))
    silent_form k p (tree.cast u a) = silent_expression _ a

  pub silent_lval : (k : ℕ) (e : tree.Expression) → talks (site.of_lval n k e) ≡ false
  silent_lval k (tree.expression (tree.name t) p) = refl
  silent_lval k (tree.expression (tree.number v u) p) = refl
  silent_lval k (tree.expression (tree.index t i) p) = silent_expression k (tree.expression (tree.index t i) p)
  silent_lval k (tree.expression (tree.unary o a) p) = silent_expression k (tree.expression (tree.unary o a) p)
  silent_lval k (tree.expression (tree.binary o a b) p) = silent_expression k (tree.expression (tree.binary o a b) p)
  silent_lval k (tree.expression (tree.choice c a b) p) = silent_expression k (tree.expression (tree.choice c a b) p)
  silent_lval k (tree.expression (tree.cast u a) p) = silent_expression k (tree.expression (tree.cast u a) p)

  silent_whole : (k : ℕ) (e : tree.Expression) → talks (site.of_whole n k e) ≡ false
  silent_whole k (tree.expression (tree.name t) p) = refl
  silent_whole k (tree.expression (tree.number v u) p) = refl
  silent_whole k (tree.expression (tree.index t i) p) = silent_expression k (tree.expression (tree.index t i) p)
  silent_whole k (tree.expression (tree.unary o a) p) = silent_expression k (tree.expression (tree.unary o a) p)
  silent_whole k (tree.expression (tree.binary o a b) p) = silent_expression k (tree.expression (tree.binary o a b) p)
  silent_whole k (tree.expression (tree.choice c a b) p) = silent_expression k (tree.expression (tree.choice c a b) p)
  silent_whole k (tree.expression (tree.cast u a) p) = silent_expression k (tree.expression (tree.cast u a) p)

  silent_argument : (k : ℕ) (o : Option ParamKind) (e : tree.Expression) → talks (site.of_argument n k o e) ≡ false
  silent_argument k None e = silent_whole k e
  silent_argument k (Some (param.Value u)) e = silent_expression k e
  silent_argument k (Some (param.Ref u)) e = silent_lval k e
  silent_argument k (Some (param.Array u l)) e = silent_whole k e
  silent_argument k (Some (param.End s)) e = silent_whole k e
  silent_argument k (Some (param.Port d)) e = silent_whole k e

  silent_arguments : (k : ℕ) (ps : List Param) (xs : List tree.Argument) → talks (site.of_arguments n k ps xs) ≡ false
  silent_arguments k ps [] = refl
  silent_arguments k ps (a ∷ rest) = silent_both (site.of_argument n k (first_of ps) a.value) _ (silent_argument k (first_of ps) a.value) (silent_arguments (past k (marks.of_argument a)) (rest_of ps) rest)

  pub silent_right : (around : Enclosing) (k : ℕ) (b : Bool) (r : tree.RightSide) → talks (site.of_right n around k b r) ≡ false
  silent_right around k b (tree.value e) = silent_expression k e
  silent_right around k b (tree.result call) = silent_arguments _ _ call.arguments

  pub silent_maybe_right : (around : Enclosing) (k : ℕ) (o : Option tree.RightSide) → talks (site.optional (site.of_right n around k true) o) ≡ false
  silent_maybe_right around k None = refl
  silent_maybe_right around k (Some r) = silent_right around k true r

  pub silent_maybe_expression : (k : ℕ) (o : Option tree.Expression) → talks (site.optional (site.of_expression n k) o) ≡ false
  silent_maybe_expression k None = refl
  silent_maybe_expression k (Some e) = silent_expression k e

  silent_kind : (around : Enclosing) (k : ℕ) (kind : tree.Kind) → talks (site.of_kind n around k kind) ≡ false
  silent_kind around k (tree.word u r) = silent_maybe_right around k r
  silent_kind around k (tree.array u l p) = refl
  silent_kind around k (tree.channel s) = refl
  silent_kind around k tree.timer = refl

  pub silent_declarations : (around : Enclosing) (k : ℕ) (ds : List tree.Declaration) → talks (site.of_declarations n around k ds) ≡ false
  silent_declarations around k [] = refl
  silent_declarations around k (d ∷ ds) = silent_both (site.of_kind n around _ d.kind) _ (silent_kind around _ d.kind) (silent_declarations around (past k (marks.of_declaration d)) ds)

  silent_time : (k : ℕ) (x : Name) (o : Option tree.Timing) → talks (site.optional (site.of_time n k x) o) ≡ false
  silent_time k x None = refl
  silent_time k x (Some t) = silent_expression k t.value

  silent_stamp : (k : ℕ) (x : Name) (o : Option tree.Timing) → talks (site.optional (site.of_stamp n k x) o) ≡ false
  silent_stamp k x None = refl
  silent_stamp k x (Some t) = silent_lval k t.value

  silent_condition : (k : ℕ) (x : Name) (o : Option tree.Condition) → talks (site.optional (site.of_condition n k x) o) ≡ false
  silent_condition k x None = refl
  silent_condition k x (Some w) = silent_expression k w.value

  silent_target : (k : ℕ) (t : tree.Target) → talks (site.of_target n k t) ≡ false
  silent_target k (tree.to e) = silent_lval k e
  silent_target k tree.dropped = refl
  silent_target k (tree.fresh u name) = refl

  -- only its name is what an output or an input communicates by
  or_right : (a b : Bool) → b ≡ false → (a || b) ≡ true → a ≡ true
  or_right true b e f = refl
  or_right false b e f = absurd (true≢false (sym f ∙ e))

  pub output_talks : (k : ℕ) (o : tree.Output) → talks (site.of_output n k o) ≡ true → is_channel (Rattle.xc_tree.specs.Types.Named.name_at n k o.name).what ≡ true
  output_talks k o e = or_right _ _ (silent_both (site.optional (site.of_time n _ _) o.time) _ (silent_time _ _ o.time) (silent_both (site.of_expression n _ o.value) _ (silent_expression _ o.value) (silent_stamp _ _ o.stamp))) e

  pub input_talks : (k : ℕ) (i : tree.Input) → talks (site.of_input n k i) ≡ true → is_channel (Rattle.xc_tree.specs.Types.Named.name_at n k i.name).what ≡ true
  input_talks k i e =
      or_right _ _ (silent_both (site.optional (site.of_time n _ _) i.time) _ (silent_time _ _ i.time) (silent_both (site.optional (site.of_condition n _ _) i.condition) _ (silent_condition _ _ i.condition)
      (silent_both (site.of_target n _ i.target) _ (silent_target _ i.target) (silent_stamp _ _ i.stamp)))) e

-- Copies that name no channel.

abbrev pub CallsSilent : CopiesCall → Type 0
CallsSilent copies = (c : Context) (scope : Scope) (f : Function) (pos : Pos) (args : List tree.Argument) → (copies c scope f pos args).named ≡ []

pub calls_silent : (depth : ℕ) → CallsSilent (calls_copy depth)
calls_silent zero c scope f pos args = refl
calls_silent (suc depth) c scope f pos args = refl

module _ (copies : CopiesCall) (silent : CallsSilent copies) where
  call_names_none : (c : Context) (scope : Scope) (pos : Pos) (args : List tree.Argument) (o : Option Function) → (call_by copies c scope pos args o).named ≡ []
  call_names_none c scope pos args None = refl
  call_names_none c scope pos args (Some f) = silent c scope f pos args

  pub right_names_none : (c : Context) (scope : Scope) (r : tree.RightSide) → (right_copy copies c scope r).named ≡ []
  right_names_none c scope (tree.value e) = refl
  right_names_none c scope (tree.result call) = call_names_none c scope call.called.pos call.arguments (called c call)

  pub assign_names_none : (c : Context) (scope : Scope) (to : tree.Expression) (symbol : ℕ) (pos : Pos) (r : tree.RightSide) (b : Bool) → (assign_by copies c scope to symbol pos r b).named ≡ []
  assign_names_none c scope to symbol pos r true = ap (λ (ps : List Path). ps ++ []) (right_names_none c scope r)
  assign_names_none c scope to symbol pos r false = refl

  pub return_names_none : (c : Context) (scope : Scope) (o : Option tree.RightSide) → (return_copy copies c scope o).named ≡ []
  return_names_none c scope None = refl
  return_names_none c scope (Some r) = ap (λ (ps : List Path). ps ++ []) (right_names_none c scope r)

  initial_names_none : (c : Context) (path : Path) (o : Option tree.RightSide) (scope : Scope) → (initial_copy copies c path o scope).named ≡ []
  initial_names_none c path None scope = refl
  initial_names_none c path (Some r) scope = ap (λ (ps : List Path). ps ++ []) (right_names_none c scope r)

  kind_names_none : (c : Context) (scope : Scope) (name : List ℕ) (pos : Pos) (kind : tree.Kind) → (kind_copy copies c scope name pos kind).named ≡ []
  kind_names_none c scope name pos (tree.word u r) = initial_names_none c _ r _
  kind_names_none c scope name pos (tree.array u l at) = refl
  kind_names_none c scope name pos (tree.channel s) = refl
  kind_names_none c scope name pos tree.timer = refl

  pub declarations_name_none : (c : Context) (ds : List tree.Declaration) (scope : Scope) → (declarations_copy copies c ds scope).named ≡ []
  declarations_name_none c [] scope = refl
  declarations_name_none c (d ∷ ds) scope =
      ap (λ (ps : List Path). ps ++ (declarations_copy copies c ds (kind_copy copies c scope d.name.text d.name.pos d.kind).scope).named) (kind_names_none c scope d.name.text d.name.pos d.kind)
      ∙ declarations_name_none c ds (kind_copy copies c scope d.name.text d.name.pos d.kind).scope
