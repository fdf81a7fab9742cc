-- From what the phases say of a text to its first broken rule, or its kernel.
use Rattle.std.proofs.Common.{◌≡◌, ◌≤◌, ℕ, Bool, List, sym, ap, subst, ◌∙◌, arith}
use Rattle.std.specs.Prelude.{Result, Ok, Err, IfErr, IfOk}
use Rattle.xw_words.specs.declared.pos.Broken.{Broken}
use Rattle.xc_tree.specs.declared.names.Named.{Named}
use Rattle.xc_tree.specs.declared.token.Tok.{Tok}
use Rattle.xc_tree.specs.declared.tree.Tree.{Tree}
use Rattle.xc_tree.specs.declared.types.Typed.{Typed}
use Rattle.xc_tree.specs.Checks.{Breaks as BreaksInTypes}
use Rattle.xc_tree.specs.Depth as depth
use Rattle.xc_tree.specs.Derives.{IsProgram, deepest}
use Rattle.xc_tree.specs.Least.{IsFirst}
use Rattle.xc_tree.specs.Lexes.{Lexes}
use Rattle.xc_tree.specs.Names.Rules.{Breaks as BreaksInNames}
use Rattle.xc_tree.specs.Parses.{BreaksRule}
use Rattle.xc_tree.specs.Plain.{Item}
use Rattle.xc_tree.specs.Programs.{Rise}
use Rattle.xc_tree.specs.Trees.{program_of}
use Rattle.xc_tree.specs.Types.Named.{IsNamed, named_of}
use Rattle.xc_tree.specs.Types.Sites.{unsigned_at}
use Rattle.xc_disjoint.specs.Rules.{Breaks as BreaksInNeeds}
use Rattle.xc_wellformed.proofs.Texts.{texts_rise}
use Rattle.xc_kernel.specs.Copies.{Copies}
use Rattle.xc_kernel.specs.Plain.{Kernel}
use Rattle.xc_kernel.specs.Size.{Breaks509, IsTooLarge}
use Rattle.xc_kernel.specs.Sound.{IsOfText, IsTyped}
use Rattle.xl_image.proofs.TodayBuilt.{kernels_are_built}
use Rattle.xc_today.specs.Today.{IsSupported}
use Rattle.xl_image.specs.Roots.{KernelIsBuilt}
use Rattle.xr_front.specs.Reads.{IsReadAs}
use Rattle.xr_front.specs.Rules.{First, IsKernelOf, IsResolved}
use Rattle.xr_front.proofs.Order.{tokens_few}
use Rattle.xr_front.proofs.Firsts.{accepts, first_in_names, first_in_needs, first_in_size, first_in_types}

pub read_as : (text : List ℕ) (toks : List Tok) (items : List Item) → Lexes text toks → Rise toks → IsProgram toks items →
    ((v : List Item) → IsProgram toks v → v ≡ items) → ((rule i : ℕ) → BreaksRule toks rule i → ⊥) →
    depth.of_program items ≤ deepest → IsSupported toks → IsReadAs text items
read_as text toks items lexes rising derives only unbroken shallow form = record {
  toks = toks;
  lexes = lexes;
  rising = rising;
  few = let tokens = tokens_few text toks lexes in let short = lexes.short in omega (arith, tokens, short);
  derives = derives;
  only = only;
  unbroken = unbroken;
  shallow = shallow;
  form = form;
}

-- what is so of the answer, where two things are
pub ok_by : {T E : Type 0} {P Q S : T → Type 0} (r : Result T E) → ((x : T) → P x → Q x → S x) → IfOk r P → IfOk r Q → IfOk r S
ok_by (Ok x) f p q = f x p q
ok_by (Err e) f p q = tt

-- what is so of the error
pub err_by : {T E : Type 0} {P Q : E → Type 0} (r : Result T E) → ((e : E) → P e → Q e) → IfErr r P → IfErr r Q
err_by (Ok x) f p = tt
err_by (Err e) f p = f e p

module _ (text : List ℕ) (items : List Item) (r : IsReadAs text items) where
  pub of_names : (b : Broken) → IsFirst (BreaksInNames items) b → First text b
  of_names = first_in_names text r.toks r.lexes items r.derives r.unbroken r.only r.form

  of_text : IsOfText items
  of_text = record {
    read = record { toks = r.toks; derived = r.derives; few = r.few; rising = r.rising };
    lines = λ i t e. (texts_rise text r.toks r.lexes).lines i t e;
  }

  module _ (named : Named) (is_named : IsNamed items (named_of named)) (names : (b : Broken) → BreaksInNames items b → ⊥) where
    resolved : IsResolved items (named_of named)
    resolved = record { unbroken = names; named = is_named }

    pub of_types : (b : Broken) → IsFirst (BreaksInTypes (named_of named)) b → First text b
    of_types = first_in_types text r.toks r.lexes items r.derives r.unbroken r.only r.form (named_of named) resolved

    module _ (types : List Bool) (types_are : types ≡ unsigned_at (named_of named)) (typed : (b : Broken) → BreaksInTypes (named_of named) b → ⊥) where
      pub typed_is : IsTyped items (named_of named) types
      typed_is = record { text = of_text; is_named = is_named; names = names; types_and_shapes = typed; types_are = types_are }

      pub of_size : (b : Broken) → Breaks509 items b → First text b
      of_size = first_in_size text r.toks r.lexes items r.derives r.unbroken r.only r.form (named_of named) resolved typed

      module _ (K : Kernel) (small : IsTooLarge items → ⊥) (copies : Copies items K) where
        pub of_needs : (b : Broken) → IsFirst (BreaksInNeeds K) b → First text b
        of_needs = first_in_needs text r.toks r.lexes items r.derives r.unbroken r.only r.form (named_of named) resolved typed small K copies

        pub kernel_is : ((b : Broken) → BreaksInNeeds K b → ⊥) → IsKernelOf text K
        kernel_is unbroken = record {
          program = items;
          accepted = accepts text r.toks r.lexes items r.derives r.unbroken r.only r.form (named_of named) resolved typed small K copies unbroken;
          named = named_of named;
          types = types;
          typed = typed_is;
          copies = copies;
        }

        pub built : KernelIsBuilt K
        built = kernels_are_built r.toks items (named_of named) types K r.derives r.shallow r.form typed_is copies

-- the same of a program with types that holds what was read and named
module _
    (text : List ℕ) (tree : Tree) (r : IsReadAs text (program_of tree)) (named : Named) (its_tree : named.tree ≡ tree)
    (is_named : IsNamed (program_of tree) (named_of named)) (names : (b : Broken) → BreaksInNames (program_of tree) b → ⊥)
    (typed : Typed) (same : typed.named ≡ named) (types_are : typed.unsigned_at ≡ unsigned_at (named_of named))
    (sound : (b : Broken) → BreaksInTypes (named_of named) b → ⊥) where
  tree_is : typed.named.tree ≡ tree
  tree_is = ap (λ (n : Named). n.tree) same ∙ its_tree

  pub typed_too : IsTyped (program_of typed.named.tree) (named_of typed.named) typed.unsigned_at
  typed_too =
      subst (λ (t : Tree). IsTyped (program_of t) (named_of typed.named) typed.unsigned_at) (sym tree_is)
      (subst (λ (n : Named). IsTyped (program_of tree) (named_of n) typed.unsigned_at) (sym same)
      (typed_is text (program_of tree) r named is_named names typed.unsigned_at types_are sound))

  pub shallow_too : depth.of_program (program_of typed.named.tree) ≤ deepest
  shallow_too = subst (λ (t : Tree). depth.of_program (program_of t) ≤ deepest) (sym tree_is) r.shallow

  pub size_too : (b : Broken) → Breaks509 (program_of typed.named.tree) b → First text b
  size_too b h =
      of_size text (program_of tree) r named is_named names typed.unsigned_at types_are sound b
      (subst (λ (t : Tree). Breaks509 (program_of t) b) tree_is h)

  module _ (K : Kernel) (small : IsTooLarge (program_of typed.named.tree) → ⊥) (copies : Copies (program_of typed.named.tree) K) where
    its_small : IsTooLarge (program_of tree) → ⊥
    its_small h = small (subst (λ (t : Tree). IsTooLarge (program_of t)) (sym tree_is) h)

    its_copies : Copies (program_of tree) K
    its_copies = subst (λ (t : Tree). Copies (program_of t) K) tree_is copies

    pub needs_too : (b : Broken) → IsFirst (BreaksInNeeds K) b → First text b
    needs_too = of_needs text (program_of tree) r named is_named names typed.unsigned_at types_are sound K its_small its_copies

    pub kernel_too : ((b : Broken) → BreaksInNeeds K b → ⊥) → IsKernelOf text K
    kernel_too = kernel_is text (program_of tree) r named is_named names typed.unsigned_at types_are sound K its_small its_copies

    pub built_too : KernelIsBuilt K
    built_too = built text (program_of tree) r named is_named names typed.unsigned_at types_are sound K its_small its_copies
