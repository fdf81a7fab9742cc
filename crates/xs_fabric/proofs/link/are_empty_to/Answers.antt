use Rattle.std.proofs.Common.{◌≡◌, ◌<◌, ◌∙◌, ℕ, Bool, true, false, List, length, get_or, sym, ap, arith}
use Rattle.std.specs.Prelude.{◌&&◌}
use Rattle.xs_instr.specs.declared.state.Item.{Item}
use Rattle.xs_instr.specs.Machine.{link_in, link_of}
use Rattle.xs_core.proofs.There.{there}
use Rattle.xs_fabric.specs.EndWord.{no_items}
use Rattle.xs_fabric.specs.OnLinks.{items_at}
use Rattle.xs_fabric.specs.Rounds.{Links}
use Rattle.xs_fabric.proofs.link.are_empty_to.Goals.{then-is_empty_at, else-is_empty_at, then-is_empty_at-2, else-is_empty_at-2}
use Rattle.xs_fabric.proofs.link.are_empty_to.Goals as goal

-- what is told of a core's links out is told of the link from it
from_core : (links : Links) (from to : ℕ) (d : List (List Item)) (answer : Bool) → length links ≡ 4 → from < 4 →
    answer ≡ no_items (items_at (get_or links from d) to) → answer ≡ no_items (link_of links from to)
from_core links from to d answer four lt is =
    is ∙ sym (ap (λ out. no_items (link_in out to)) (there links from d (omega (arith, four, lt))))

-- the test behind a test that holds, and behind one that doesn't
behind_true : (before one : Bool) → before ≡ true → one ≡ before && one
behind_true before one e = sym (ap (λ b. b && one) e)

behind_false : (before one : Bool) → before ≡ false → before ≡ before && one
behind_false before one e = e ∙ sym (ap (λ b. b && one) e)

pub returns-then-is_empty_at-3 : goal.returns-then-is_empty_at-3
returns-then-is_empty_at-3 c =
    let links = c.args.links.now in
    let to = c.args.to in
    let four = c.type_inv.links in
    let n = λ (from : ℕ). no_items (link_of links from to) in
    let first : c.is_empty_at.result ≡ n 0 = from_core links 0 to _ _ four (omega arith) c.is_empty_at.ensures in
    let second : c.if-is_empty_at.value ≡ n 0 && n 1 = elim c.if-is_empty_at.branch [
      | then-is_empty_at w ↦
          w.value-is
          ∙ from_core links 1 to _ _ four (omega arith) w.is_empty_at-then-is_empty_at.ensures
          ∙ behind_true (n 0) (n 1) (sym first ∙ w.if-is_empty_at.true)
      | else-is_empty_at w ↦ w.value-is ∙ first ∙ behind_false (n 0) (n 1) (sym first ∙ w.if-is_empty_at.false)
    ] in
    let third : c.if-is_empty_at-2.value ≡ n 0 && n 1 && n 2 = elim c.if-is_empty_at-2.branch [
      | then-is_empty_at-2 w ↦
          w.value-is
          ∙ from_core links 2 to _ _ four (omega arith) w.is_empty_at-then-is_empty_at-2.ensures
          ∙ behind_true (n 0 && n 1) (n 2) (sym second ∙ w.if-is_empty_at-2.true)
      | else-is_empty_at-2 w ↦ w.value-is ∙ second ∙ behind_false (n 0 && n 1) (n 2) (sym second ∙ w.if-is_empty_at-2.false)
    ] in
    from_core links 3 to _ _ four (omega arith) c.is_empty_at-then-is_empty_at-3.ensures
    ∙ behind_true (n 0 && n 1 && n 2) (n 3) (sym third ∙ c.if-is_empty_at-3.true)

pub returns-else-is_empty_at-3 : goal.returns-else-is_empty_at-3
returns-else-is_empty_at-3 c =
    let links = c.args.links.now in
    let to = c.args.to in
    let four = c.type_inv.links in
    let n = λ (from : ℕ). no_items (link_of links from to) in
    let first : c.is_empty_at.result ≡ n 0 = from_core links 0 to _ _ four (omega arith) c.is_empty_at.ensures in
    let second : c.if-is_empty_at.value ≡ n 0 && n 1 = elim c.if-is_empty_at.branch [
      | then-is_empty_at w ↦
          w.value-is
          ∙ from_core links 1 to _ _ four (omega arith) w.is_empty_at-then-is_empty_at.ensures
          ∙ behind_true (n 0) (n 1) (sym first ∙ w.if-is_empty_at.true)
      | else-is_empty_at w ↦ w.value-is ∙ first ∙ behind_false (n 0) (n 1) (sym first ∙ w.if-is_empty_at.false)
    ] in
    let third : c.if-is_empty_at-2.value ≡ n 0 && n 1 && n 2 = elim c.if-is_empty_at-2.branch [
      | then-is_empty_at-2 w ↦
          w.value-is
          ∙ from_core links 2 to _ _ four (omega arith) w.is_empty_at-then-is_empty_at-2.ensures
          ∙ behind_true (n 0 && n 1) (n 2) (sym second ∙ w.if-is_empty_at-2.true)
      | else-is_empty_at-2 w ↦ w.value-is ∙ second ∙ behind_false (n 0 && n 1) (n 2) (sym second ∙ w.if-is_empty_at-2.false)
    ] in
    third ∙ behind_false (n 0 && n 1 && n 2) (n 3) (sym third ∙ c.if-is_empty_at-3.false)
