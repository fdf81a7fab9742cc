-- What parameters stand for.
use Rattle.std.proofs.Common.{◌≡◌, zero, suc, Bool, [], ◌∷◌, Option, Some, None, refl, ap, ◌∙◌, arith}
use Rattle.std.proofs.lemmas.Slice.Eq.{bytes_eq-Decides}
use Rattle.xc_tree.specs.declared.tree.Param.{Param}
use Rattle.xc_tree.specs.declared.tree.ParamKind.TheVariants.{Value, Ref, Array, End, Port}
use Rattle.xc_tree.specs.Plain as tree
use Rattle.xc_kernel.specs.Plain as kernel
use Rattle.xc_kernel.specs.Eval.{eval}
use Rattle.xc_kernel.specs.Numbering.{Numbering}
use Rattle.xc_kernel.specs.Scopes.{entity_by, entity_of}
use Rattle.xc_kernel.specs.Expressions.{expression_in}
use Rattle.xc_kernel.specs.Context.{word_at}
use Rattle.xc_kernel.specs.Parameters.{Passed, index_test, by_element, passed, all_passed}
use Rattle.xc_kernel.specs.Programs.{Function}
use Rattle.xc_kernel.specs.Calls.{path_of_result}
use Rattle.xc_wellformed.specs.Given.{ValuesGiven, ElementsGiven, NamesGiven, EachByItsOwn, ResultIsReturned}
use Rattle.xc_wellformed.proofs.Worded.{words_kept, keeps_index}

pub values_given : ValuesGiven
values_given P n there store c e own pos u k x h = (
  record {
    word = expression_in c.numbering there.scope x;
    code = refl;
    value = ap (λ (m : Numbering). eval store (expression_in m there.scope x)) e ∙ words_kept P n there store k x h;
  },
  refl,
)

pub elements_given : ElementsGiven
elements_given P n there store has c e own pos u k name i at h array length of_unsigned is =
    let given = ap (by_element c there.scope own pos i at) is in (
      record {
        word = index_test c there.scope i length at;
        code = ap (λ (p : Passed). p.code) given;
        value = keeps_index P n there store has c e k at name i h array length of_unsigned is;
      },
      ap (λ (p : Passed). p.entity) given,
    )

pub names_given : NamesGiven
names_given P n there store c own pos (Value u) b name at = absurd b
names_given P n there store c own pos (Ref u) b name at = refl
names_given P n there store c own pos (Array u length) b name at = refl
names_given P n there store c own pos (End is_streaming) b name at = refl
names_given P n there store c own pos (Port dir) b name at = refl

pub each_by_its_own : EachByItsOwn
each_by_its_own c scope own [] args i p a ep ea other = absurd (none_some ep)
  where
    none_some : {A : Type 0} {x : A} → None ≡ Some x → ⊥
    none_some q = cc
each_by_its_own c scope own (q ∷ ps) [] i p a ep ea other = absurd (none_some ea)
  where
    none_some : {A : Type 0} {x : A} → None ≡ Some x → ⊥
    none_some q = cc
each_by_its_own c scope own (q ∷ ps) (b ∷ args) zero p a ep ea other =
    let same = some_same ep in
    let given = some_same ea in
    ap (λ (t : Bool). entity_by t (passed c scope own q.name.pos q.kind b.value).entity (entity_of (all_passed c scope own ps args).scope p.name.text))
    ((bytes_eq-Decides q.name.text p.name.text).1 (ap (λ (x : Param). x.name.text) same))
    ∙ (ap (λ (x : Param). (passed c scope own x.name.pos x.kind b.value).entity) same ∙ ap (λ (x : tree.Argument). (passed c scope own p.name.pos p.kind x.value).entity) given)
  where
    some_same : {A : Type 0} {x y : A} → Some x ≡ Some y → x ≡ y
    some_same e = cc
each_by_its_own c scope own (q ∷ ps) (b ∷ args) (suc i) p a ep ea other =
    ap (λ (t : Bool). entity_by t (passed c scope own q.name.pos q.kind b.value).entity (entity_of (all_passed c scope own ps args).scope p.name.text))
    (other 0 q (omega arith) refl)
    ∙ each_by_its_own c scope own ps args i p a ep ea (λ j r l e. other (suc j) r (omega arith) e)

pub result_is_returned : ResultIsReturned
result_is_returned c scope call f e = ap (λ (o : Option Function). kernel.read (word_at c (path_of_result c call.called.pos o))) e
