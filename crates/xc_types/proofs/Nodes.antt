-- Nodes of expressions, most of which have their type set behind what stands in them.
use Rattle.std.proofs.Common.{◌≡◌, ℕ, ◌+◌, ◌<◌, Bool, false, List, [], ◌∷◌, ◌++◌, length, sym, ap, ◌∙◌, arith}
use Rattle.xc_tree.specs.declared.tree.Id.{Id}
use Rattle.xc_tree.specs.declared.names.Mark.{Mark}
use Rattle.xc_tree.specs.declared.names.Mark.TheVariants.{Uses}
use Rattle.xc_tree.specs.Types.Named.{NamedProgram, name_at, past}
use Rattle.xc_tree.specs.Types.Sites.{Site, node, word, indexed}
use Rattle.xc_types.specs.declared.checker.Checker.{Checker}
use Rattle.xc_types.specs.Checker.{saw, with_type, with_type_at, after_word, after_indexed, next_is_unsigned, next_has_unsigned}
use Rattle.xc_types.proofs.Joins.{saw_join, saw_names, saw_nothing}
use Rattle.xc_types.proofs.Steps.{names_broken, names_more, names_typed, saw_indexed, saw_node, saw_set, saw_use, saw_word, types_grow}

-- behind two parts, one behind the other
pub both_seen : (s t v : Checker) (a b : List Mark) (x : List Site) (there : ℕ → List Site) → t ≡ saw s a x → v ≡ saw t b (there t.names) → v ≡ saw s (a ++ b) (x ++ there (past s.names a))
both_seen s t v a b x there e f =
    f
    ∙ ap (λ (k : ℕ). saw t b (there k)) (ap (λ (z : Checker). z.names) e ∙ saw_names s a x)
    ∙ ap (λ (z : Checker). saw z b (there (past s.names a))) e
    ∙ sym (saw_join s a b x (there (past s.names a)))

-- how many names stand before what is in a node behind a part
pub names_inside : (s t v : Checker) (a : List Mark) (x : List Site) → t ≡ saw s a x → v ≡ with_type false t → v.names ≡ past s.names a
names_inside s t v a x e f = ap (λ (z : Checker). z.names) f ∙ names_typed false t ∙ ap (λ (z : Checker). z.names) e ∙ saw_names s a x

-- behind a part, a node, and a part that stands in the node, whose type is set then
pub node_seen : (s t v w : Checker) (a b : List Mark) (x : List Site) (there : ℕ → List Site) (i : ℕ) (u : Bool) →
    t ≡ saw s a x → v ≡ with_type false t → w ≡ saw v b (there v.names) → i ≡ length t.types
    → with_type_at i u w ≡ saw s (a ++ b) (x ++ node u ∷ there (past s.names a))
node_seen s t v w a b x there i u e f g h =
    ap (with_type_at i u) (g ∙ ap (λ (k : ℕ). saw v b (there k)) (names_inside s t v a x e f) ∙ ap (λ (z : Checker). saw z b (there (past s.names a))) f)
    ∙ saw_set t i u false b (there (past s.names a)) h
    ∙ sym (saw_node t u b (there (past s.names a)))
    ∙ ap (λ (z : Checker). saw z b (node u ∷ there (past s.names a))) e
    ∙ sym (saw_join s a b x (node u ∷ there (past s.names a)))

-- the node stands among the types
pub node_within : (t v w : Checker) (b : List Mark) (y : List Site) (i : ℕ) → v ≡ with_type false t → w ≡ saw v b y → i ≡ length t.types → i < length w.types
node_within t v w b y i f g h =
    let grows = types_grow t false i b y h in
    let same : length w.types ≡ length (saw (with_type false t) b y).types = ap (λ (z : Checker). length z.types) (g ∙ ap (λ (z : Checker). saw z b y) f) in
    omega arith

-- behind a node, and a part that stands in the node, whose type is set then
pub first_node_seen : (s v w : Checker) (b : List Mark) (there : ℕ → List Site) (i : ℕ) (u : Bool) →
    v ≡ with_type false s → w ≡ saw v b (there v.names) → i ≡ length s.types
    → with_type_at i u w ≡ saw s b (node u ∷ there s.names)
first_node_seen s v w b there i u f g h = node_seen s s v w [] b [] there i u (sym (saw_nothing s)) f g h

-- behind a name, alone where a word is needed
pub word_seen : (n : NamedProgram) (s : Checker) (i : Id) → after_word n i.pos s ≡ saw s (Uses i ∷ []) (word (name_at n s.names i) ∷ node (next_is_unsigned n s) ∷ [])
word_seen n s i =
    sym (saw_word s (name_at n s.names i) (Uses i ∷ []) (node (next_is_unsigned n s) ∷ [])
    ∙ saw_node _ (next_is_unsigned n s) (Uses i ∷ []) []
    ∙ saw_use _ i [] []
    ∙ saw_nothing _)

-- behind a name before a `[`, and what stands behind that
pub indexed_seen : (n : NamedProgram) (s t v : Checker) (i : Id) (b : List Mark) (there : ℕ → List Site) →
    t ≡ after_indexed n i.pos s → v ≡ saw t b (there t.names)
    → v ≡ saw s (Uses i ∷ b) (indexed (name_at n s.names i) ∷ node (next_has_unsigned n s) ∷ there (s.names + 1))
indexed_seen n s t v i b there e f =
    f
    ∙ ap (λ (k : ℕ). saw t b (there k)) (ap (λ (z : Checker). z.names) e ∙ names_more _ ∙ ap (λ (k : ℕ). k + 1) (names_typed _ _ ∙ names_broken _ 402 i.pos s))
    ∙ ap (λ (z : Checker). saw z b (there (s.names + 1))) e
    ∙ sym (saw_indexed s (name_at n s.names i) (Uses i ∷ b) (node (next_has_unsigned n s) ∷ there (s.names + 1))
    ∙ saw_node _ (next_has_unsigned n s) (Uses i ∷ b) (there (s.names + 1))
    ∙ saw_use _ i b (there (s.names + 1)))

-- behind a node whose type is known before what stands in it
pub typed_seen : (s v w : Checker) (u : Bool) (b : List Mark) (there : ℕ → List Site) → v ≡ with_type u s → w ≡ saw v b (there v.names) → w ≡ saw s b (node u ∷ there s.names)
typed_seen s v w u b there f g =
    g
    ∙ ap (λ (k : ℕ). saw v b (there k)) (ap (λ (z : Checker). z.names) f ∙ names_typed u s)
    ∙ ap (λ (z : Checker). saw z b (there s.names)) f
    ∙ sym (saw_node s u b (there s.names))
