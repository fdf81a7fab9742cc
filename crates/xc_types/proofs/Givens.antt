-- What an argument gives, by the name that it is or of which it is an element.
use Rattle.std.proofs.Common.{◌≡◌, ℕ, Bool, true, false, ◌&&◌, ◌||◌, List, Option, None, slice_get, refl, sym, subst}
use Rattle.std.specs.declared.boxed.Box.{Box}
use Rattle.std.specs.declared.alloc.Global.{Global}
use Rattle.xw_words.specs.declared.pos.Pos.{Pos}
use Rattle.xc_tree.specs.declared.tree.Expr.{Expr}
use Rattle.xc_tree.specs.declared.tree.Ex.TheOpen as E
use Rattle.xc_tree.specs.declared.tree.Ex.{Ex, Name, Index, out-Ex, roll-Ex, roll-out-Ex, fold-roll-Ex}
use Rattle.xc_tree.specs.declared.tree.Ex.TheVariants.{rolls-Name, rolls-Index}
use Rattle.xc_tree.specs.declared.tree.TreeDir.{TreeDir}
use Rattle.xc_tree.specs.Plain as plain
use Rattle.xc_tree.specs.Trees.{expression_of, form_of, form_step, expression_step}
use Rattle.xc_tree.specs.Types.Calls.{Given, a_name, an_element, another, given_form, given_by, fits_reference, fits_array, fits_end, fits_port, is_channel_given}
use Rattle.xc_tree.specs.Types.Entities.{is_word_of, is_array_of, is_channel, is_channel_of, is_port_of, length_of, length_does}
use Rattle.xc_tree.specs.Types.Named.{NamedProgram, what_at}
use Rattle.xc_tree.proofs.Forms.{expression-Expr, form-Name, form-Index}
use Rattle.xc_types.specs.Given.{name_given, element_given}

record IsUnnamed (f : plain.Form) : Type 0 where
  pub none : (n : NamedProgram) (k : ℕ) (p : Pos) → name_given (given_form n k p f) ≡ None

rolled_unnamed : (f : E.Ex-F Ex Expr) → ((t : List ℕ) → roll-Ex f ≡ Name t → ⊥) → IsUnnamed (form_of (roll-Ex f))
unfolding form_of
rolled_unnamed (E.Name t) h = absurd (h t (rolls-Name t))
rolled_unnamed f h = subst IsUnnamed (sym (fold-roll-Ex plain.Form plain.Expression form_step expression_step f)) (record { none = λ n k p. refl })

is_unnamed : (f : Ex) → ((t : List ℕ) → f ≡ Name t → ⊥) → IsUnnamed (form_of f)
is_unnamed f = subst (λ (g : Ex). ((t : List ℕ) → g ≡ Name t → ⊥) → IsUnnamed (form_of g)) (roll-out-Ex f) (rolled_unnamed (out-Ex f))

record IsNoElement (f : plain.Form) : Type 0 where
  pub none : (n : NamedProgram) (k : ℕ) (p : Pos) → element_given (given_form n k p f) ≡ None

rolled_no_element : (f : E.Ex-F Ex Expr) → ((t : List ℕ) (i : Box Expr Global) → roll-Ex f ≡ Index t i → ⊥) → IsNoElement (form_of (roll-Ex f))
unfolding form_of
rolled_no_element (E.Index t i) h = absurd (h t i (rolls-Index t i))
rolled_no_element f h = subst IsNoElement (sym (fold-roll-Ex plain.Form plain.Expression form_step expression_step f)) (record { none = λ n k p. refl })

is_no_element : (f : Ex) → ((t : List ℕ) (i : Box Expr Global) → f ≡ Index t i → ⊥) → IsNoElement (form_of f)
is_no_element f = subst (λ (g : Ex). ((t : List ℕ) (i : Box Expr Global) → g ≡ Index t i → ⊥) → IsNoElement (form_of g)) (roll-out-Ex f) (rolled_no_element (out-Ex f))

module _ (n : NamedProgram) (k : ℕ) (e : Expr) where
  pub a_name_given : (t : List ℕ) → e.kind ≡ Name t → what_at n (slice_get n.uses k) ≡ name_given (given_by n k (expression_of e))
  a_name_given t h = rw (expression-Expr e, h, form-Name t) refl

  pub no_name_given : ((t : List ℕ) → e.kind ≡ Name t → ⊥) → None ≡ name_given (given_by n k (expression_of e))
  no_name_given h = rw (expression-Expr e) (sym ((is_unnamed e.kind h).none n k e.pos))

  pub an_element_given : (t : List ℕ) (i : Box Expr Global) → e.kind ≡ Index t i → what_at n (slice_get n.uses k) ≡ element_given (given_by n k (expression_of e))
  an_element_given t i h = rw (expression-Expr e, h, form-Index t i) refl

  pub no_element_given : ((t : List ℕ) (i : Box Expr Global) → e.kind ≡ Index t i → ⊥) → None ≡ element_given (given_by n k (expression_of e))
  no_element_given h = rw (expression-Expr e) (sym ((is_no_element e.kind h).none n k e.pos))

or_none : (a : Bool) → (a || false) ≡ a
or_none true = refl
or_none false = refl

pub fits_a_reference : (u : Bool) (g : Given) → (is_word_of u (name_given g) || is_array_of u (element_given g)) ≡ fits_reference u g
fits_a_reference u (a_name x) = or_none (is_word_of u x.what)
fits_a_reference u (an_element x) = refl
fits_a_reference u another = refl

pub fits_an_array : (u : Bool) (l : Option ℕ) (g : Given) → (is_array_of u (name_given g) && length_does l (length_of (name_given g))) ≡ fits_array u l g
fits_an_array u l (a_name x) = refl
fits_an_array u l (an_element x) = refl
fits_an_array u l another = refl

pub fits_an_end : (s : Bool) (g : Given) → is_channel_of s (name_given g) ≡ fits_end s g
fits_an_end s (a_name x) = refl
fits_an_end s (an_element x) = refl
fits_an_end s another = refl

pub fits_a_port : (d : TreeDir) (g : Given) → is_port_of d (name_given g) ≡ fits_port d g
fits_a_port d (a_name x) = refl
fits_a_port d (an_element x) = refl
fits_a_port d another = refl

pub gives_a_channel : (g : Given) → is_channel (name_given g) ≡ is_channel_given g
gives_a_channel (a_name x) = refl
gives_a_channel (an_element x) = refl
gives_a_channel another = refl

pub ruleset fitting = (fits_a_reference, fits_an_array, fits_an_end, fits_a_port, gives_a_channel)
