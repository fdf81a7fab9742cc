use Rattle.std.proofs.Common.{[], ℕ, ◌+◌, List, inr, refl, sym, ap, subst, ◌∙◌}
use Rattle.xc_tree.specs.HashLines.{Ending, Tail, NoForm, Include, Define}
use Rattle.xc_tree.specs.Pieces.{fault, go_on}
use Rattle.xc_lexer.specs.Steps.{stand}
use Rattle.xc_lexer.proofs.Forms.{include_one, define_one}
use Rattle.xc_lexer.proofs.Outcomes.{stray_hash, hash_line, broken_here}
use Rattle.xc_lexer.proofs.lexer.hash.Goals as goal
use Rattle.xc_lexer.proofs.lexer.hash.Goals.{in-Some+in_default-tail, in_default, in-Some-definition_at+in_default-tail-2, in_default-definition_at}

pub returns-then-not-state-clause-broken : goal.returns-then-not-state-clause-broken
returns-then-not-state-clause-broken c =
    let text = c.args.text.now in
    let state = c.args.state.now in
    broken_here text state [] 101 (go_on (stand state) (state.place.at + 1)) c.broken.result c.broken.ensures c.requires.place c.requires.more
    (stray_hash text (stand state) c.requires.starts c.if-not-state.true)

pub returns-clause-broken : goal.returns-clause-broken
returns-clause-broken c =
    let text = c.args.text.now in
    let state = c.args.state.now in
    let at = state.place.at in
    let no_include : (k j : ℕ) (e : Ending) → Include text at k → Tail text k j e → ⊥ = λ k j e a t. elim c.match-include_end.branch [
      | in-Some+in_default-tail w ↦
          let same = include_one a w.in-Some.ensures.some.0 in
          w.in_default-tail.ensures.none j e (subst (λ n. Tail text n j e) (sym (ap (λ p. p.at) w.further.ensures ∙ same)) t)
      | in_default w ↦ w.in_default.ensures.none k a
    ] in
    let no_define : (name : List ℕ) (m k j : ℕ) (e : Ending) → Define text at name m k → Tail text k j e → ⊥ = λ name m k j e a t. elim c.match-definition_at.branch [
      | in-Some-definition_at+in_default-tail-2 w ↦
          let same = define_one a w.in-Some-definition_at.ensures.some.form in
          w.in_default-tail-2.ensures.none j e (subst (λ n. Tail text n j e) (sym (ap (λ p. p.at) w.further-in-Some-definition_at.ensures ∙ same.same_end)) t)
      | in_default-definition_at w ↦ w.in_default-definition_at.ensures.none name m k a
    ] in
    let form : NoForm text at = record { no_include = no_include; no_define = no_define } in
    let after = go_on (stand state) (at + 1) in
    broken_here text state [] 104 after c.broken-2.result c.broken-2.ensures c.requires.place c.requires.more
    (hash_line text (stand state) after (fault 104 at) c.requires.starts c.if-not-state.false (inr (inr (form, refl, refl))))
