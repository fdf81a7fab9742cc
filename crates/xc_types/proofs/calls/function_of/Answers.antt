use Rattle.std.proofs.Common.{◌≡◌, ℕ, Option, Some, None, slice_get, option_map, refl, ap, sym, ◌∙◌}
use Rattle.std.proofs.lemmas.Option.{slice_get-map}
use Rattle.std.specs.Option.{option_copied}
use Rattle.xc_tree.specs.declared.names.Named.{Named}
use Rattle.xc_tree.specs.declared.names.What.{What}
use Rattle.xc_tree.specs.declared.names.What.TheVariants.{Func}
use Rattle.xc_tree.specs.declared.tree.Item.{Item}
use Rattle.xc_tree.specs.Trees.{item_of}
use Rattle.xc_tree.specs.Types.Named.{named_of, function_of, head_of_item}
use Rattle.xc_types.proofs.calls.function_of.Goals as goal

-- what isn't a function means none
no_function : (named : Named) (w : What) → ((k : ℕ) → w ≡ Func k → ⊥) → None ≡ function_of (named_of named) (Some w)
no_function named (Func k) other = absurd (other k refl)
no_function named _ other = refl

-- a name means the function that is the item of its number
item_meant : (named : Named) (w : What) (k : ℕ) (i : Item) → w ≡ Func k → slice_get named.tree.items k ≡ Some i →
    head_of_item (Some (item_of i)) ≡ function_of (named_of named) (Some w)
item_meant named w k i is there =
    sym
    (ap (λ (x : What). function_of (named_of named) (Some x)) is
    ∙ ap head_of_item (slice_get-map item_of named.tree.items k ∙ ap (λ (o : Option Item). option_map item_of o) there))

pub returns-in_default : goal.returns-in_default
returns-in_default c =
    no_function c.args.named.now c.in_ok-k.field-0.now c.in_default.not-Func
    ∙ ap (λ o. function_of (named_of c.args.named.now) (option_copied o)) (sym c.in_ok-k.was)

pub returns-in-Func-2 : goal.returns-in-Func-2
returns-in-Func-2 c =
    ap (λ (i : Item). head_of_item (Some (item_of i))) (sym c.in-Func-2.is)
    ∙ item_meant c.args.named.now c.in_ok-k.field-0.now c.in-Func.k c.in_ok-function.field-0.now c.in-Func.is
    (sym c.get.ensures ∙ ap option_copied c.in_ok-function.was)
    ∙ ap (λ o. function_of (named_of c.args.named.now) (option_copied o)) (sym c.in_ok-k.was)

pub returns-in-Port : goal.returns-in-Port
returns-in-Port c =
    ap (λ (i : Item). head_of_item (Some (item_of i))) (sym c.in-Port.is)
    ∙ item_meant c.args.named.now c.in_ok-k.field-0.now c.in-Func.k c.in_ok-function.field-0.now c.in-Func.is
    (sym c.get.ensures ∙ ap option_copied c.in_ok-function.was)
    ∙ ap (λ o. function_of (named_of c.args.named.now) (option_copied o)) (sym c.in_ok-k.was)
