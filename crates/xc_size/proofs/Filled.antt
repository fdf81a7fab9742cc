-- Sizes as they are found, one function after another or in rounds.
use Rattle.std.proofs.Common.{◌≡◌, ℕ, zero, suc, ◌+◌, ◌<◌, ◌≤◌, ◌≢◌, ◌⊎◌, inl, inr, List, [], ◌∷◌, ◌++◌, length, get_or, replicate, Bor, Option, Some, None, refl, sym, ap, subst, ◌∙◌, arith, add-one}
use Rattle.std.specs.Prelude.{slice_get, slice_set}
use Rattle.std.proofs.lemmas.List.{length-map, length-set, length-append, length-replicate}
use Rattle.xw_words.proofs.Lists.{below_or_at, push_at, push_before, set_at, set_other, some_same}
use Rattle.xc_tree.specs.declared.tree.FuncItem.{FuncItem}
use Rattle.xc_tree.specs.Plain as tree
use Rattle.xc_kernel.specs.Programs.{Function, function_named}
use Rattle.xc_kernel.specs.Size.{most_statements, most_nodes, greatest_depth}
use Rattle.xc_size.specs.declared.names.Names.{Names}
use Rattle.xc_size.specs.declared.size.Size.{Size}
use Rattle.xc_size.specs.declared.sizes.Sizes.{Sizes}
use Rattle.xc_size.proofs.CalledParts as callees
use Rattle.xc_size.specs.Functions.{function_of, function_at}
use Rattle.xc_size.specs.Known.{AreKnown, IsSizeOfCall, IsSizeOfFunction, AreOfFunctions, AreSizesFrom, AreSizesAt, AreNextSizes, listed}
use Rattle.xc_size.specs.Numbers.{number_of}
use Rattle.xc_size.specs.Sizes.{no_size}
use Rattle.xc_size.proofs.Numbered.{mapped}
use Rattle.xc_size.proofs.Places.{same_or_other, repeats, repeats_only}
use Rattle.xc_size.proofs.Right.{all_known, all_at, function_right}
use Rattle.xc_size.proofs.UpTo.{up_to_none}

clash : {A B : Type 0} (x : A) → None ≡ Some x → B
clash x e = absurd (cc)

-- none is known
pub nothing_known : (all : List (Bor FuncItem)) (names : Names) (each : List (Option Size)) (n : ℕ) → each ≡ replicate n None → AreSizesFrom (record { all = all; names = names; each = each }) 0
nothing_known all names each n same = record { right = λ call number size e f m h. clash size (repeats_only n number None (Some size) (ap (λ xs. slice_get xs number) (sym same) ∙ f)) }

-- a bound on how deep calls are followed may grow
pub from_deeper : (sizes : Sizes) (deep : ℕ) → AreSizesFrom sizes deep → AreSizesFrom sizes (deep + 1)
from_deeper sizes deep from = record { right = λ call number size e f n h. from.right call number size e f n (omega arith) }

-- what a named call calls
named_at : (sizes : Sizes) (call : tree.Call) (number : ℕ) (f : Function) → AreOfFunctions sizes → number_of sizes.names call.called.text ≡ Some number → slice_get (listed sizes) number ≡ Some f → function_named (listed sizes) call.called.text ≡ Some f
named_at sizes call number f of e g = of.numbers.named call.called.text ∙ ap (function_at (listed sizes)) e ∙ g

module _ (sizes : Sizes) (number : ℕ) (f : Bor FuncItem) (size : Size) (of : AreOfFunctions sizes) (is : f ≡ get_or sizes.all number f) (within : number < length sizes.all) (known : AreKnown sizes.each (callees.of_statement (number_of sizes.names) (function_of f.now).body)) (right : IsSizeOfFunction sizes (function_of f.now) size) where
  with_one : Sizes
  with_one = record sizes { each = slice_set sizes.each number (Some size) }

  there : slice_get (listed sizes) number ≡ Some (function_of f.now)
  there = mapped (λ (g : Bor FuncItem). function_of g.now) sizes.all number f is within

  place : number < length sizes.each
  place = let p = of.places in omega arith

  pub of_more : AreOfFunctions (record sizes { each = slice_set sizes.each number (Some size) })
  of_more = record { numbers = of.numbers; places = length-set sizes.each number (Some size) ∙ of.places }

  module _ (deep : ℕ) (from : AreSizesFrom sizes deep) where
    by_place : (call : tree.Call) (j : ℕ) (found : Size) (n : ℕ) → number_of sizes.names call.called.text ≡ Some j → slice_get (slice_set sizes.each number (Some size)) j ≡ Some (Some found) → deep + 1 ≤ n → (j ≡ number) ⊎ (j ≢ number) → IsSizeOfCall (listed sizes) n call found
    by_place call j found zero e g h k = absurd (omega arith)
    by_place call j found (suc m) e g h (inl same) =
        let here : size ≡ found = some_same size found (some_same (Some size) (Some found) (sym (set_at sizes.each number (Some size) place) ∙ ap (slice_get (slice_set sizes.each number (Some size))) (sym same) ∙ g)) in
        let d : deep ≤ m = omega arith in
        let named = named_at sizes call number (function_of f.now) of (e ∙ ap Some same) there in
        subst (IsSizeOfCall (listed sizes) (suc m) call) here (function_right sizes m (function_of f.now) call size named (all_known sizes deep m (callees.of_statement (number_of sizes.names) (function_of f.now).body) of from d known) right)
    by_place call j found (suc m) e g h (inr other) =
        let less : j < length sizes.each = let w = of.numbers.within call.called.text j e in let p = of.places in let q = length-map sizes.all (λ (x : Bor FuncItem). function_of x.now) in omega arith in
        from.right call j found e (sym (set_other sizes.each number j (Some size) other less) ∙ g) (suc m) (omega arith)

    -- one more is known
    pub from_more : AreSizesFrom (record sizes { each = slice_set sizes.each number (Some size) }) (deep + 1)
    from_more = record { right = λ call j found e g n h. by_place call j found n e g h (same_or_other j number) }

-- one function more has its next size
pub next_more : (sizes : Sizes) (each new : List (Option Size)) (k : ℕ) (f : Bor FuncItem) (size : Size) → f ≡ get_or sizes.all k f → k < length sizes.all → new ≡ each ++ Some size ∷ [] → IsSizeOfFunction sizes (function_of f.now) size → AreNextSizes sizes each k → AreNextSizes sizes new (k + 1)
next_more sizes each new k f size is within grown right so_far = record {
  places = ap length grown ∙ length-append each (Some size ∷ []) ∙ ap (λ n. n + 1) so_far.places;
  next = λ number g h e. by number g e (below_or_at number k h);
}
  where
    by : (number : ℕ) (g : Function) → slice_get (listed sizes) number ≡ Some g → (number < k) ⊎ (number ≡ k) → (found : Size) × (slice_get new number ≡ Some (Some found)) × IsSizeOfFunction sizes g found
    by number g e (inl h) =
        let old = so_far.next number g h e in
        let less : number < length each = let p = so_far.places in omega arith in
        (old.0, ap (λ xs. slice_get xs number) grown ∙ push_before each (Some size) number less ∙ old.1, old.2)
    by number g e (inr h) =
        let same : function_of f.now ≡ g = some_same (function_of f.now) g (sym (mapped (λ (x : Bor FuncItem). function_of x.now) sizes.all k f is within) ∙ ap (slice_get (listed sizes)) (sym h) ∙ e) in
        (size, ap (λ xs. slice_get xs number) grown ∙ push_at each (Some size) number (h ∙ sym so_far.places), subst (λ (x : Function). IsSizeOfFunction sizes x size) same right)

-- no call is followed
pub empty_at : (sizes : Sizes) (each : List (Option Size)) → AreOfFunctions sizes → each ≡ replicate (length sizes.all) (Some no_size) → AreSizesAt (record sizes { each = each }) 0
empty_at sizes each of same = record {
  right = λ call number e.
      let less : number < length sizes.all = let w = of.numbers.within call.called.text number e in let q = length-map sizes.all (λ (x : Bor FuncItem). function_of x.now) in omega arith in
      (no_size, ap (λ xs. slice_get xs number) same ∙ repeats (length sizes.all) number (Some no_size) less, record { statements = sym (up_to_none most_statements); nodes = sym (up_to_none most_nodes); depth = sym (up_to_none greatest_depth) });
}

pub of_empty : (sizes : Sizes) (each : List (Option Size)) → AreOfFunctions sizes → each ≡ replicate (length sizes.all) (Some no_size) → AreOfFunctions (record sizes { each = each })
of_empty sizes each of same = record { numbers = of.numbers; places = ap length same ∙ length-replicate (length sizes.all) (Some no_size) }

-- calls are followed one step further
pub at_more : (sizes : Sizes) (each : List (Option Size)) (deep : ℕ) → AreOfFunctions sizes → AreSizesAt sizes deep → AreNextSizes sizes each (length sizes.all) → AreSizesAt (record sizes { each = each }) (deep + 1)
at_more sizes each deep of are next = record {
  right = λ call number e.
      let less : number < length (listed sizes) = of.numbers.within call.called.text number e in
      let long = length-map sizes.all (λ (x : Bor FuncItem). function_of x.now) in
      let f = read (listed sizes) number less in
      let found = next.next number f.0 (omega arith) f.1 in (
        found.0,
        found.1,
        subst (λ (d : ℕ). IsSizeOfCall (listed sizes) d call found.0) (sym (add-one deep))
            (function_right sizes deep f.0 call found.0 (named_at sizes call number f.0 of e f.1) (all_at sizes deep (callees.of_statement (number_of sizes.names) f.0.body) of are) found.2),
      );
}
  where
    read : (fs : List Function) (k : ℕ) → k < length fs → (f : Function) × (slice_get fs k ≡ Some f)
    read [] k h = absurd (omega arith)
    read (f ∷ fs) zero h = (f, refl)
    read (f ∷ fs) (suc k) h = read fs k (omega arith)

pub of_next : (sizes : Sizes) (each : List (Option Size)) → AreOfFunctions sizes → AreNextSizes sizes each (length sizes.all) → AreOfFunctions (record sizes { each = each })
of_next sizes each of next = record { numbers = of.numbers; places = next.places }
