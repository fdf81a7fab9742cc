-- The variables of expressions and places are right.
use Rattle.std.proofs.Common.{◌≡◌, ℕ, ◌+◌, Bool, true, false, List, ◌++◌, Option, refl, sym, true≢false}
use Rattle.xw_words.specs.declared.pos.Pos.{Pos}
use Rattle.xc_tree.specs.declared.names.What.{What}
use Rattle.xc_tree.specs.Plain as tree
use Rattle.xc_tree.specs.Names.Marks as marks
use Rattle.xc_tree.specs.Types.Named.{NamedProgram, past}
use Rattle.xc_tree.specs.Types.Entities.{is_word, is_array, is_index}
use Rattle.xc_tree.specs.Types.Sites.{Site}
use Rattle.xc_tree.specs.Types.Sites as site
use Rattle.xc_kernel.specs.declared.kernel.PortUse.{PortUse}
use Rattle.xc_kernel.specs.Paths.{Path}
use Rattle.xc_kernel.specs.Numbering.{Numbering, variable_number}
use Rattle.xc_kernel.specs.Scopes.{Scope, Entity}
use Rattle.xc_kernel.specs.Expressions.{expression_in, kernel_place}
use Rattle.xc_kernel.specs.Programs.{Function}
use Rattle.xc_wellformed.specs.Stacks.{Stack, Resolves}
use Rattle.xc_wellformed.specs.Denotes.{HasVariable, Denotes, a_variable, whole_array, word_referred, element_referred, array_referred, the_channel, the_end, the_timer, the_port, port_given, the_index, the_function, none_there, Agrees}
use Rattle.xc_kernel.specs.Expressions.{place_of_entity, word_of_entity, array_number, form_in}
use Rattle.xc_wellformed.specs.Numbers.{NumbersInExpression, NumbersInPlace}
use Rattle.xc_wellformed.proofs.Stacks.{quiet_split, quiet_expression}
use Rattle.xc_wellformed.proofs.Shaped.{IsLval}
use Rattle.xc_wellformed.proofs.Walk.Arguments.{AllIn, split, IsFine, standing}

pub no : {A : Type 0} → false ≡ true → A
no e = absurd (true≢false (sym e))

module _ (n : NamedProgram) (fs : List Function) (ps : List PortUse) (num : Numbering) (H J : ℕ → Path → Type 0) (here : ℕ) (W : ℕ → Bool → Type 0) (listed : (path : Path) (b : Bool) (words : ℕ) → (b ≡ false → words ≡ 1) → HasVariable num (H here) path b words → W (variable_number num path) b) where
  abbrev Known : Stack → Scope → Type 0
  Known st scope = Agrees n fs ps num (H here) (J here) st scope

  abbrev Standing : List ℕ → Option What → Entity → Type 0
  Standing t w e = Denotes n fs ps num (H here) (J here) t w e

  pub word_well : (t : List ℕ) (w : Option What) (x : Entity) (pos : Pos) → Standing t w x → is_word w ≡ true → NumbersInExpression W (word_of_entity num pos x)
  word_well t _ _ pos (a_variable {path = path} h) e = listed path false 1 (λ q. refl) h
  word_well t _ _ pos (word_referred {path = path} h) e = listed path false 1 (λ q. refl) h
  word_well t _ _ pos (element_referred {m = m} {path = path} {index = index} h g) e = (listed path true m (λ q. absurd (true≢false q)) h, listed index false 1 (λ q. refl) g)
  word_well t _ _ pos the_index e = tt
  word_well t _ _ pos (whole_array h) e = no e
  word_well t _ _ pos (array_referred told h) e = no e
  word_well t _ _ pos (the_channel h) e = no e
  word_well t _ _ pos (the_end h) e = no e
  word_well t _ _ pos (the_timer h) e = no e
  word_well t _ _ pos (the_port h) e = no e
  word_well t _ _ pos (port_given h) e = no e
  word_well t _ _ pos (the_function h) e = no e
  word_well t _ _ pos none_there e = no e

  pub place_well : (t : List ℕ) (w : Option What) (x : Entity) (pos : Pos) → Standing t w x → is_word w ≡ true → is_index w ≡ false → NumbersInPlace W (place_of_entity num pos x)
  place_well t _ _ pos (a_variable {path = path} h) e i = listed path false 1 (λ q. refl) h
  place_well t _ _ pos (word_referred {path = path} h) e i = listed path false 1 (λ q. refl) h
  place_well t _ _ pos (element_referred {m = m} {path = path} {index = index} h g) e i = (listed path true m (λ q. absurd (true≢false q)) h, listed index false 1 (λ q. refl) g)
  place_well t _ _ pos the_index e i = absurd (true≢false i)
  place_well t _ _ pos (whole_array h) e i = no e
  place_well t _ _ pos (array_referred told h) e i = no e
  place_well t _ _ pos (the_channel h) e i = no e
  place_well t _ _ pos (the_end h) e i = no e
  place_well t _ _ pos (the_timer h) e i = no e
  place_well t _ _ pos (the_port h) e i = no e
  place_well t _ _ pos (port_given h) e i = no e
  place_well t _ _ pos (the_function h) e i = no e
  place_well t _ _ pos none_there e i = no e

  pub array_well : (t : List ℕ) (w : Option What) (x : Entity) → Standing t w x → is_array w ≡ true → W (array_number num x) true
  array_well t _ _ (whole_array {l = m} {path = path} h) e = listed path true m (λ q. absurd (true≢false q)) h
  array_well t _ _ (array_referred {m = m} {path = path} told h) e = listed path true m (λ q. absurd (true≢false q)) h
  array_well t _ _ (a_variable h) e = no e
  array_well t _ _ (word_referred h) e = no e
  array_well t _ _ (element_referred h g) e = no e
  array_well t _ _ the_index e = no e
  array_well t _ _ (the_channel h) e = no e
  array_well t _ _ (the_end h) e = no e
  array_well t _ _ (the_timer h) e = no e
  array_well t _ _ (the_port h) e = no e
  array_well t _ _ (port_given h) e = no e
  array_well t _ _ (the_function h) e = no e
  array_well t _ _ none_there e = no e

  module _ (st : Stack) (scope : Scope) (known : Known st scope) where
    mutual
      pub expression_well : (e : tree.Expression) (k : ℕ) → Resolves n k st (marks.of_expression e) → AllIn IsFine (site.of_expression n k e) → NumbersInExpression W (expression_in num scope e)
      expression_well (tree.expression f p) k r g = form_well f p k r g

      form_well : (f : tree.Form) (p : Pos) (k : ℕ) → Resolves n k st (marks.of_form p f) → AllIn IsFine (site.of_form n k p f) → NumbersInExpression W (form_in num scope p f)
      form_well (tree.number v u) p k r g = tt
      form_well (tree.name t) p k r g = word_well t _ _ p (standing n fs ps num H J here st scope k t known r.0) g.0
      form_well (tree.index t i) p k r g = (array_well t _ _ (standing n fs ps num H J here st scope k t known r.0) g.0, expression_well i (k + 1) r.1 g.1.1)
      form_well (tree.unary o a) p k r g = (expression_well a k r g.1, tt)
      form_well (tree.binary o a b) p k r g =
          let r1 = quiet_split n k st (marks.of_expression a) (marks.of_expression b) (quiet_expression a) r in
          let g1 = split IsFine (site.of_expression n k a) _ g in
          (expression_well a k r1.0 g1.0, (expression_well b (past k (marks.of_expression a)) r1.1 g1.1.1, tt))
      form_well (tree.choice q a b) p k r g =
          let r1 = quiet_split n k st (marks.of_expression q) (marks.of_expression a ++ marks.of_expression b) (quiet_expression q) r in
          let k1 = past k (marks.of_expression q) in
          let r2 = quiet_split n k1 st (marks.of_expression a) (marks.of_expression b) (quiet_expression a) r1.1 in
          let g1 = split IsFine (site.of_expression n k q) _ g in
          let g2 = split IsFine (site.of_expression n k1 a) _ g1.1.1 in
          (expression_well q k r1.0 g1.0, (expression_well a k1 r2.0 g2.0, (expression_well b (past k1 (marks.of_expression a)) r2.1 g2.1, tt)))
      form_well (tree.cast u a) p k r g = expression_well a k r g.1

    pub lval_well : (e : tree.Expression) (k : ℕ) → Resolves n k st (marks.of_expression e) → AllIn IsFine (site.of_lval n k e) → IsLval e → NumbersInPlace W (kernel_place num scope e)
    lval_well (tree.expression (tree.name t) p) k r g x = place_well t _ _ p (standing n fs ps num H J here st scope k t known r.0) g.0.0 g.0.1
    lval_well (tree.expression (tree.index t i) p) k r g x = (array_well t _ _ (standing n fs ps num H J here st scope k t known r.0) g.0, expression_well i (k + 1) r.1 g.1.1)
    lval_well (tree.expression (tree.number v u) p) k r g x = absurd x
    lval_well (tree.expression (tree.unary o a) p) k r g x = absurd x
    lval_well (tree.expression (tree.binary o a b) p) k r g x = absurd x
    lval_well (tree.expression (tree.choice q a b) p) k r g x = absurd x
    lval_well (tree.expression (tree.cast u a) p) k r g x = absurd x

    -- what stands at a place that can be assigned to
    pub lval_read : (e : tree.Expression) (k : ℕ) → Resolves n k st (marks.of_expression e) → AllIn IsFine (site.of_lval n k e) → IsLval e → NumbersInExpression W (expression_in num scope e)
    lval_read (tree.expression (tree.name t) p) k r g x = word_well t _ _ p (standing n fs ps num H J here st scope k t known r.0) g.0.0
    lval_read (tree.expression (tree.index t i) p) k r g x = (array_well t _ _ (standing n fs ps num H J here st scope k t known r.0) g.0, expression_well i (k + 1) r.1 g.1.1)
    lval_read (tree.expression (tree.number v u) p) k r g x = absurd x
    lval_read (tree.expression (tree.unary o a) p) k r g x = absurd x
    lval_read (tree.expression (tree.binary o a b) p) k r g x = absurd x
    lval_read (tree.expression (tree.choice q a b) p) k r g x = absurd x
    lval_read (tree.expression (tree.cast u a) p) k r g x = absurd x
