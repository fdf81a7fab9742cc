-- The code of a kernel comes from the text: each expression is one of the text, whose names mean what `uses` has for them and whose
-- operations have the types that `unsigned_at` tells.
use Rattle.std.proofs.Common.{◌≡◌, ℕ, ◌+◌, ◌≤◌, Bool, false, ◌||◌, List, ◌++◌, map, Option, refl, sym, ap, subst, ◌∙◌, arith}
use Rattle.xw_words.specs.declared.pos.Pos.{Pos}
use Rattle.xc_tree.specs.declared.names.What.{What}
use Rattle.xc_tree.specs.Depth as depth
use Rattle.xc_tree.specs.Derives.{deepest}
use Rattle.xc_tree.specs.Names.Marks as marks
use Rattle.xc_tree.specs.Plain as tree
use Rattle.xc_tree.specs.Types.Named.{NamedProgram, past}
use Rattle.xc_tree.specs.Types.Entities as entities
use Rattle.xc_tree.specs.Types.Words as words
use Rattle.xc_kernel.specs.declared.kernel.PortUse.{PortUse}
use Rattle.xc_kernel.specs.Plain as kernel
use Rattle.xc_kernel.specs.Operators.{operator_at, operator_of}
use Rattle.xc_kernel.specs.Types.{word_is_unsigned, elements_are_unsigned, operation_is_unsigned, result_is_unsigned, sign_is_unsigned}
use Rattle.xc_kernel.specs.Paths.{Path}
use Rattle.xc_kernel.specs.Numbering.{Numbering}
use Rattle.xc_kernel.specs.Scopes.{Scope, Entity, entity_of, type_of_entity, is_unsigned}
use Rattle.xc_kernel.specs.Expressions.{expression_in, form_in, kernel_place, two_operands, one_operand, array_number, resource_of}
use Rattle.xc_kernel.specs.Programs.{Function, functions, ports}
use Rattle.xc_kernel.specs.Ports.{port_use}
use Rattle.xc_kernel.specs.Copies.{numbering, copy_of}
use Rattle.xc_kernel.specs.Sound.{IsTyped}
use Rattle.xc_wellformed.specs.Operands.{IsProper, IsProperForm}
use Rattle.xc_wellformed.specs.Each.{AnyNumber, EachRoot}
use Rattle.xc_wellformed.specs.Rising.{IsRising}
use Rattle.xc_wellformed.proofs.Rising.{of_text}
use Rattle.xc_wellformed.specs.Stacks.{Stack, Resolves}
use Rattle.xc_wellformed.specs.Denotes.{AnyPath, Denotes, a_variable, whole_array, word_referred, element_referred, array_referred, the_channel, the_end, the_timer, the_port, port_given, the_index, the_function, none_there, Agrees}
use Rattle.xc_wellformed.specs.Sources.{typed, typed_form, typed_place, Simple, copied, result, always, HasSource, simple, updated, stepped, tested, PlaceHasSource, placed, own, OutputHasSource, InputHasSource}
use Rattle.xc_wellformed.specs.Laws.{CodeHasSource}
use Rattle.xc_wellformed.proofs.Shaped.{IsLval, Assigns}
use Rattle.xc_wellformed.proofs.Stacks.{quiet_split, quiet_expression}
use Rattle.xc_wellformed.proofs.Gives.{of_one, of_two}
use Rattle.xc_wellformed.proofs.Right.{IsShallow, IsShallowLval}
use Rattle.xc_wellformed.proofs.Walk.Arguments.{standing, Leaves}
use Rattle.xc_wellformed.proofs.Program.{roots_alike}

module _ (n : NamedProgram) (fs : List Function) (ps : List PortUse) (num : Numbering) (H J : ℕ → Path → Type 0) (here : ℕ) where
  -- what stands for a name has its type
  word_type : (t : List ℕ) (w : Option What) (x : Entity) → Denotes n fs ps num (H here) (J here) t w x → word_is_unsigned (type_of_entity x) ≡ entities.word_is_unsigned w
  word_type t _ _ (a_variable h) = refl
  word_type t _ _ (whole_array h) = refl
  word_type t _ _ (word_referred h) = refl
  word_type t _ _ (element_referred h g) = refl
  word_type t _ _ (array_referred told h) = refl
  word_type t _ _ (the_channel h) = refl
  word_type t _ _ (the_end h) = refl
  word_type t _ _ (the_timer h) = refl
  word_type t _ _ (the_port h) = refl
  word_type t _ _ (port_given h) = refl
  word_type t _ _ the_index = refl
  word_type t _ _ (the_function h) = refl
  word_type t _ _ none_there = refl

  array_type : (t : List ℕ) (w : Option What) (x : Entity) → Denotes n fs ps num (H here) (J here) t w x → elements_are_unsigned (type_of_entity x) ≡ entities.elements_are_unsigned w
  array_type t _ _ (a_variable h) = refl
  array_type t _ _ (whole_array h) = refl
  array_type t _ _ (word_referred h) = refl
  array_type t _ _ (element_referred h g) = refl
  array_type t _ _ (array_referred told h) = refl
  array_type t _ _ (the_channel h) = refl
  array_type t _ _ (the_end h) = refl
  array_type t _ _ (the_timer h) = refl
  array_type t _ _ (the_port h) = refl
  array_type t _ _ (port_given h) = refl
  array_type t _ _ the_index = refl
  array_type t _ _ (the_function h) = refl
  array_type t _ _ none_there = refl

  two_same : {A B : Type 0} (f : A → A → B) (a b c d : A) → a ≡ c → b ≡ d → f a b ≡ f c d
  two_same f a b c d e g = ap (λ x. f x b) e ∙ ap (f c) g

  module _ (st : Stack) (scope : Scope) (known : Agrees n fs ps num (H here) (J here) st scope) where
    -- the type of an expression
    mutual
      pub type_is : (e : tree.Expression) (k : ℕ) → Resolves n k st (marks.of_expression e) → IsProper e → is_unsigned scope e ≡ words.is_unsigned n k e
      type_is (tree.expression f p) k r x = form_type f p k r x

      form_type : (f : tree.Form) (p : Pos) (k : ℕ) → Resolves n k st (marks.of_form p f) → IsProperForm f → is_unsigned scope (tree.expression f p) ≡ words.form_is_unsigned n k f
      form_type (tree.number v u) p k r x = refl
      form_type (tree.name t) p k r x = word_type t _ _ (standing n fs ps num H J here st scope k t known r.0)
      form_type (tree.index t i) p k r x = array_type t _ _ (standing n fs ps num H J here st scope k t known r.0)
      form_type (tree.unary o a) p k r x = ap (sign_is_unsigned (operator_at o)) (type_is a k r x.1) ∙ of_one o (words.is_unsigned n k a) x.0
      form_type (tree.binary o a b) p k r x =
          let r1 = quiet_split n k st (marks.of_expression a) (marks.of_expression b) (quiet_expression a) r in
          let k1 = past k (marks.of_expression a) in
          two_same (result_is_unsigned (operator_at o)) (is_unsigned scope a) (is_unsigned scope b) (words.is_unsigned n k a) (words.is_unsigned n k1 b) (type_is a k r1.0 x.1.0) (type_is b k1 r1.1 x.1.1)
          ∙ of_two o (words.is_unsigned n k a) (words.is_unsigned n k1 b) x.0
      form_type (tree.choice q a b) p k r x =
          let r1 = quiet_split n k st (marks.of_expression q) (marks.of_expression a ++ marks.of_expression b) (quiet_expression q) r in
          let k1 = past k (marks.of_expression q) in
          let r2 = quiet_split n k1 st (marks.of_expression a) (marks.of_expression b) (quiet_expression a) r1.1 in
          let k2 = past k1 (marks.of_expression a) in
          two_same (λ c d. c || d) (is_unsigned scope a) (is_unsigned scope b) (words.is_unsigned n k1 a) (words.is_unsigned n k2 b) (type_is a k1 r2.0 x.1.0) (type_is b k2 r2.1 x.1.1)
      form_type (tree.cast u a) p k r x = refl

    -- the translation by the types of the text
    mutual
      pub typed_is : (e : tree.Expression) (k : ℕ) → Resolves n k st (marks.of_expression e) → IsProper e → expression_in num scope e ≡ typed n num scope k e
      typed_is (tree.expression f p) k r x = typed_form_is f p k r x

      typed_form_is : (f : tree.Form) (p : Pos) (k : ℕ) → Resolves n k st (marks.of_form p f) → IsProperForm f → form_in num scope p f ≡ typed_form n num scope k p f
      typed_form_is (tree.number v u) p k r x = refl
      typed_form_is (tree.name t) p k r x = refl
      typed_form_is (tree.index t i) p k r x = ap (λ (y : kernel.Expression). kernel.read (kernel.element (array_number num (entity_of scope t)) y p)) (typed_is i (k + 1) r.1 x)
      typed_form_is (tree.unary o a) p k r x =
          ap (λ (u : Bool). kernel.operation o u (one_operand (expression_in num scope a)) p) (type_is a k r x.1)
          ∙ ap (λ (y : kernel.Expression). kernel.operation o (words.is_unsigned n k a) (one_operand y) p) (typed_is a k r x.1)
      typed_form_is (tree.binary o a b) p k r x =
          let r1 = quiet_split n k st (marks.of_expression a) (marks.of_expression b) (quiet_expression a) r in
          let k1 = past k (marks.of_expression a) in
          let u = operation_is_unsigned (operator_at o) (words.is_unsigned n k a) (words.is_unsigned n k1 b) in
          ap (λ (v : Bool). kernel.operation o v (two_operands (expression_in num scope a) (expression_in num scope b)) p)
          (two_same (operation_is_unsigned (operator_at o)) (is_unsigned scope a) (is_unsigned scope b) (words.is_unsigned n k a) (words.is_unsigned n k1 b) (type_is a k r1.0 x.1.0) (type_is b k1 r1.1 x.1.1))
          ∙ two_same (λ (y z : kernel.Expression). kernel.operation o u (two_operands y z) p) (expression_in num scope a) (expression_in num scope b) (typed n num scope k a) (typed n num scope k1 b) (typed_is a k r1.0 x.1.0) (typed_is b k1 r1.1 x.1.1)
      typed_form_is (tree.choice q a b) p k r x =
          let r1 = quiet_split n k st (marks.of_expression q) (marks.of_expression a ++ marks.of_expression b) (quiet_expression q) r in
          let k1 = past k (marks.of_expression q) in
          let r2 = quiet_split n k1 st (marks.of_expression a) (marks.of_expression b) (quiet_expression a) r1.1 in
          let k2 = past k1 (marks.of_expression a) in
          let u = words.is_unsigned n k1 a || words.is_unsigned n k2 b in
          ap (λ (v : Bool). kernel.operation Rattle.xc_tree.specs.Symbols.question v (kernel.more_operands (expression_in num scope q) (two_operands (expression_in num scope a) (expression_in num scope b))) p)
          (two_same (λ c d. c || d) (is_unsigned scope a) (is_unsigned scope b) (words.is_unsigned n k1 a) (words.is_unsigned n k2 b) (type_is a k1 r2.0 x.1.0) (type_is b k2 r2.1 x.1.1))
          ∙ (ap (λ (y : kernel.Expression). kernel.operation Rattle.xc_tree.specs.Symbols.question u (kernel.more_operands y (two_operands (expression_in num scope a) (expression_in num scope b))) p) (typed_is q k r1.0 x.0)
          ∙ two_same (λ (y z : kernel.Expression). kernel.operation Rattle.xc_tree.specs.Symbols.question u (kernel.more_operands (typed n num scope k q) (two_operands y z)) p) (expression_in num scope a) (expression_in num scope b) (typed n num scope k1 a) (typed n num scope k2 b) (typed_is a k1 r2.0 x.1.0) (typed_is b k2 r2.1 x.1.1))
      typed_form_is (tree.cast u a) p k r x = typed_is a k r x

    pub typed_place_is : (e : tree.Expression) (k : ℕ) → Resolves n k st (marks.of_expression e) → IsLval e → IsProper e → kernel_place num scope e ≡ typed_place n num scope k e
    typed_place_is (tree.expression (tree.name t) p) k r l x = refl
    typed_place_is (tree.expression (tree.index t i) p) k r l x = ap (λ (y : kernel.Expression). kernel.element (array_number num (entity_of scope t)) y p) (typed_is i (k + 1) r.1 x)
    typed_place_is (tree.expression (tree.number v u) p) k r l x = absurd l
    typed_place_is (tree.expression (tree.unary o a) p) k r l x = absurd l
    typed_place_is (tree.expression (tree.binary o a b) p) k r l x = absurd l
    typed_place_is (tree.expression (tree.choice q a b) p) k r l x = absurd l
    typed_place_is (tree.expression (tree.cast u a) p) k r l x = absurd l

    -- an operation of `op=` and of a step
    pub updated_is : (to : tree.Expression) (k : ℕ) (symbol : ℕ) (pos : Pos) (u v : Bool) (y z : kernel.Expression) → Resolves n k st (marks.of_expression to) → IsProper to → u ≡ v → y ≡ z →
        kernel.operation symbol (operation_is_unsigned (operator_at symbol) (is_unsigned scope to) u) (two_operands (expression_in num scope to) y) pos
        ≡ kernel.operation symbol (operation_is_unsigned (operator_at symbol) (words.is_unsigned n k to) v) (two_operands (typed n num scope k to) z) pos
    updated_is to k symbol pos u v y z r x e f =
        ap (λ (b : Bool). kernel.operation symbol b (two_operands (expression_in num scope to) y) pos) (two_same (operation_is_unsigned (operator_at symbol)) (is_unsigned scope to) u (words.is_unsigned n k to) v (type_is to k r x) e)
        ∙ two_same (λ (a b : kernel.Expression). kernel.operation symbol (operation_is_unsigned (operator_at symbol) (words.is_unsigned n k to) v) (two_operands a b) pos) (expression_in num scope to) y (typed n num scope k to) z (typed_is to k r x) f

module _ (P : List tree.Item) (n : NamedProgram) where
  abbrev fs : List Function
  fs = functions P

  abbrev ps : List PortUse
  ps = map port_use (ports P)

  abbrev num : Numbering
  num = numbering P

  sources : (here : ℕ) → Leaves n fs ps num (λ k. AnyPath) (λ k. AnyPath) here IsShallow IsShallowLval Assigns (HasSource P n) (Simple P n) (PlaceHasSource P n) AnyNumber (OutputHasSource P n) (InputHasSource P n) AnyNumber
  sources here = record {
    weaker = λ e h. simple h;
    ex = λ e k st scope a r g x. copied (record { there = record { stack = st; scope = scope; agrees = a }; text = e; names = k; resolves = r; is = typed_is n fs ps num (λ k. AnyPath) (λ k. AnyPath) here st scope a e k r x.0 });
    lval = λ e k st scope a r g x. placed (record { there = record { stack = st; scope = scope; agrees = a }; text = e; names = k; resolves = r; is = typed_place_is n fs ps num (λ k. AnyPath) (λ k. AnyPath) here st scope a e k r x.0 x.1.0 });
    updating = λ e k st scope a r g x symbol y pos value j rv gv xv. updated (record {
      there = record { stack = st; scope = scope; agrees = a };
      to = e;
      names = k;
      resolves = r;
      value = value;
      value_names = j;
      value_resolves = rv;
      symbol = symbol;
      pos = pos;
      is = updated_is n fs ps num (λ k. AnyPath) (λ k. AnyPath) here st scope a e k (operator_of symbol) pos (is_unsigned scope value) (words.is_unsigned n j value) (expression_in num scope value) (typed n num scope j value) r x.1.0 (type_is n fs ps num (λ k. AnyPath) (λ k. AnyPath) here st scope a value j rv xv.0) (typed_is n fs ps num (λ k. AnyPath) (λ k. AnyPath) here st scope a value j rv xv.0);
    });
    stepping = λ e k st scope a r g x symbol y pos. stepped (record {
      there = record { stack = st; scope = scope; agrees = a };
      to = e;
      names = k;
      resolves = r;
      symbol = symbol;
      pos = pos;
      is = updated_is n fs ps num (λ k. AnyPath) (λ k. AnyPath) here st scope a e k (operator_of symbol) pos false false (kernel.number 1) (kernel.number 1) r x.1.0 refl refl;
    });
    testing = λ v h path l array pos. tested array h;
    one = always;
    word = λ path h. own (record { path = path; variable = h; is = refl });
    read_word = λ path h. result (record { path = path; variable = h; is = refl });
    zero_in = λ path b words h. tt;
    going_out = λ c scope o k st e a r g. record { there = record { stack = st; scope = scope; agrees = a }; text = o; names = k; resolves = r; is = ap (λ (m : Numbering). resource_of m (entity_of scope o.name.text)) e };
    coming_in = λ c scope i k st e a r g x. record { there = record { stack = st; scope = scope; agrees = a }; text = i; names = k; resolves = r; is = ap (λ (m : Numbering). resource_of m (entity_of scope i.name.text)) e };
    transacting = λ path h. tt;
    index_in = λ t i pos x. (x.0, index_low t i pos x.1);
  }
    where
      index_low : (t : List ℕ) (i : tree.Expression) (pos : Pos) → depth.of_expression (tree.expression (tree.index t i) pos) ≤ deepest → depth.of_expression i ≤ deepest
      index_low t i pos d = omega arith

of_copy : (P : List tree.Item) (n : NamedProgram) (types : List Bool) → IsTyped P n types → IsRising P → depth.of_program P ≤ deepest → EachRoot (HasSource P n) (PlaceHasSource P n) AnyNumber (OutputHasSource P n) (InputHasSource P n) AnyNumber (copy_of P).roots
unfolding copy_of
of_copy P n types t r l = roots_alike P n (HasSource P n) (Simple P n) (PlaceHasSource P n) AnyNumber (OutputHasSource P n) (InputHasSource P n) AnyNumber (sources P n) types t r l

pub code_has_source : CodeHasSource
code_has_source P n types K typed low c =
    subst (λ (k : kernel.Kernel). EachRoot (HasSource P n) (PlaceHasSource P n) AnyNumber (OutputHasSource P n) (InputHasSource P n) AnyNumber k.roots) (sym c.is_copy) (of_copy P n types typed (of_text P typed.text) low)
