-- The names of ports.
use Rattle.std.proofs.Common.{◌≡◌, ℕ, ◌+◌, ◌<◌, ◌≤◌, List, [], ◌∷◌, ◌++◌, length, drop, get_or, map, refl, ap, sym, subst, ◌∙◌}
use Rattle.std.proofs.lemmas.List.{append-nil, append_assoc, drop_all}
use Rattle.std.specs.Borrow.{Bor}
use Rattle.xw_words.proofs.Lists.{drop_item}
use Rattle.xc_tree.specs.Plain as tree
use Rattle.xc_tree.specs.Trees.{item_of}
use Rattle.xc_tree.specs.declared.tree.Item.{Item}
use Rattle.xc_kernel.specs.Ports.{scope_of_ports}
use Rattle.xc_kernel.specs.Programs.{ports}
use Rattle.xc_kernel.specs.Scopes.{a_port, with_name}
use Rattle.xc_inline.specs.Contexts.{ports_from}
use Rattle.xc_flat.specs.Ports.{names_among, names_of_ports}

-- ports of these names have these numbers
pub ports_named : (n : ℕ) (names : List (Bor (List ℕ))) (ps : List tree.Port) → names_among names ≡ names_of_ports ps → ports_from n names ≡ scope_of_ports n ps
ports_named n [] [] e = refl
ports_named n [] (p ∷ ps) e = cc
ports_named n (x ∷ xs) [] e = cc
ports_named n (x ∷ xs) (p ∷ ps) e =
    let first : x.now ≡ p.name.text = cc in
    let rest : names_among xs ≡ names_of_ports ps = cc in
    λ i. with_name (ports_named (n + 1) xs ps rest i) (first i) (a_port n)

names_cons : (i : tree.Item) (items : List tree.Item) → names_of_ports (ports (i ∷ items)) ≡ names_of_ports (ports (i ∷ [])) ++ names_of_ports (ports items)
names_cons (tree.function head body) items = refl
names_cons (tree.port p) items = refl

-- what has been added, before the names of the rest, is the names of all
pub names_more : (items xs : List Item) (i : ℕ) (x : Item) (before : List (List ℕ)) {made whole : List (List ℕ)} → xs ≡ items → x ≡ get_or xs i x → i < length xs → made ≡ before ++ names_of_ports (ports (item_of x ∷ [])) →
    before ++ names_of_ports (ports (map item_of (drop i items))) ≡ whole → made ++ names_of_ports (ports (map item_of (drop (i + 1) items))) ≡ whole
names_more items xs i x before same e h added so_far =
    let rest = names_of_ports (ports (map item_of (drop (i + 1) items))) in
    let at = drop_item items i x (subst (λ (ys : List Item). x ≡ get_or ys i x) same e) (subst (λ (ys : List Item). i < length ys) same h) in
    let step = ap (λ ys. names_of_ports (ports (map item_of ys))) at ∙ names_cons (item_of x) (map item_of (drop (i + 1) items)) in
    ap (λ m. m ++ rest) added ∙ append_assoc before (names_of_ports (ports (item_of x ∷ []))) rest ∙ sym (ap (λ r. before ++ r) step) ∙ so_far

pub names_all : (items xs : List Item) (i : ℕ) (made : List (List ℕ)) {whole : List (List ℕ)} → xs ≡ items → length xs ≤ i → made ++ names_of_ports (ports (map item_of (drop i items))) ≡ whole → made ≡ whole
names_all items xs i made same h so_far =
    let none = ap (λ ys. names_of_ports (ports (map item_of ys))) (drop_all i items (subst (λ (ys : List Item). length ys ≤ i) same h)) in
    sym (append-nil made) ∙ sym (ap (λ r. made ++ r) none) ∙ so_far
