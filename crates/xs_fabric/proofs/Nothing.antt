-- Where nothing is on its way to a core.
use Rattle.std.proofs.Common.{◌≡◌, ◌<◌, ◌≤◌, ◌∙◌, ◌&&◌, ℕ, zero, suc, true, List, [], ◌∷◌, ◌++◌, refl, ap, sym, arith}
use Rattle.std.proofs.lemmas.Bool.{and_parts}
use Rattle.xs_instr.specs.declared.state.Item.{Item}
use Rattle.xs_instr.specs.Machine.{link_of, link_put}
use Rattle.xs_fabric.proofs.Links.{put_same}
use Rattle.xs_fabric.specs.EndWord.{no_items}
use Rattle.xs_fabric.specs.Lockstep.{due_from, due_of, late_from, late_of}
use Rattle.xs_fabric.specs.OnLinks.{none_to}
use Rattle.xs_fabric.specs.Rounds.{Links}

none_of : (items : List Item) → no_items items ≡ true → items ≡ []
none_of [] h = refl
none_of (i ∷ items) h = cc

-- so is each of its links
each_is_empty : (links : Links) (c : ℕ) → none_to links c ≡ true → (a : ℕ) → a < 4 → link_of links a c ≡ []
each_is_empty links c h a below =
    let n0 = no_items (link_of links 0 c) in
    let n1 = no_items (link_of links 1 c) in
    let n2 = no_items (link_of links 2 c) in
    let n3 = no_items (link_of links 3 c) in
    let three = and_parts (n0 && n1 && n2) n3 h in
    let two = and_parts (n0 && n1) n2 three.0 in
    let one = and_parts n0 n1 two.0 in
    go a below (none_of (link_of links 0 c) one.0) (none_of (link_of links 1 c) one.1) (none_of (link_of links 2 c) two.1) (none_of (link_of links 3 c) three.1)
  where
    go : (a : ℕ) → a < 4 → link_of links 0 c ≡ [] → link_of links 1 c ≡ [] → link_of links 2 c ≡ [] → link_of links 3 c ≡ [] → link_of links a c ≡ []
    go zero lt e0 e1 e2 e3 = e0
    go (suc zero) lt e0 e1 e2 e3 = e1
    go (suc (suc zero)) lt e0 e1 e2 e3 = e2
    go (suc (suc (suc zero))) lt e0 e1 e2 e3 = e3
    go (suc (suc (suc (suc n)))) lt e0 e1 e2 e3 = absurd (omega (arith, lt))

late_below : (links : Links) (c clock : ℕ) → ((a : ℕ) → a < 4 → link_of links a c ≡ []) → (n : ℕ) → n ≤ 4 → late_from links c clock n ≡ links
late_below links c clock empty zero few = refl
late_below links c clock empty (suc n) few =
    let none = empty n (omega (arith, few)) in
    ap (λ (before : Links). link_put before n c (late_of clock (link_of before n c))) (late_below links c clock empty n (omega (arith, few)))
    ∙ ap (λ l. link_put links n c (late_of clock l)) none
    ∙ ap (link_put links n c) (sym none)
    ∙ put_same links n c

-- all links stay
pub links_stay : (links : Links) (c clock : ℕ) → none_to links c ≡ true → late_from links c clock 4 ≡ links
links_stay links c clock h = late_below links c clock (each_is_empty links c h) 4 (omega arith)

-- from the cores below n
due_below : (links : Links) (c clock : ℕ) → ((a : ℕ) → a < 4 → link_of links a c ≡ []) → (n : ℕ) → n ≤ 4 → due_from links c clock n ≡ []
due_below links c clock empty zero few = refl
due_below links c clock empty (suc n) few =
    ap (λ due. due ++ due_of clock (link_of links n c)) (due_below links c clock empty n (omega (arith, few)))
    ∙ ap (due_of clock) (empty n (omega (arith, few)))

-- nothing is due
pub nothing_due : (links : Links) (c clock : ℕ) → none_to links c ≡ true → due_from links c clock 4 ≡ []
nothing_due links c clock h = due_below links c clock (each_is_empty links c h) 4 (omega arith)
