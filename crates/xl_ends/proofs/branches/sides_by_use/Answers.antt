use Rattle.std.proofs.Common.{◌≡◌, ◌+◌, ◌++◌, Bool, List, [], ◌∷◌, drop, map, take, append_assoc, sym, ap, ap₂, ◌∙◌}
use Rattle.std.proofs.lemmas.List.{at_drop_more, length-drop, map-append, take_more}
use Rattle.std.proofs.Math.Seq.{take-length}
use Rattle.xl_ends.specs.Branches.{sides_by, sides_by_each}
use Rattle.xl_ends.specs.Ends.{Sides}
use Rattle.xl_ends.specs.Sides.{sides_of}
use Rattle.xl_ends.proofs.branches.sides_by_use.Goals as goal

pub loop-index-preserved : goal.loop-index-preserved
loop-index-preserved c =
    let sides = sides_of c.args.sides.now in
    let used = c.args.used.now in
    let i = c.loop-index.index in
    let here = c.index-used-index.result in
    let each = map sides_of c.loop-index.each in
    let own = sides_of c.in_ok-own.own in
    let behind = drop (i + 1) used in
    let own_is : own ≡ sides_by 0 (take i used) here behind sides =
    c.in_ok-own.ensures
    ∙ ap₂ (λ (x : List Bool) (rest : List (List Bool)). sides_by 0 (take i used) x rest sides) c.as_slice.ensures
    (ap (λ n. take n behind) (sym (length-drop (i + 1) used)) ∙ take-length behind) in
    let before : take (i + 1) used ≡ take i used ++ here ∷ [] =
    take_more used i here c.loop-index-test.true ∙ ap (λ (x : List Bool). take i used ++ x ∷ []) (sym c.index-used-index.is) in
    c.loop-index.invariant
    ∙ ap (λ (s : List Sides). each ++ s)
    (at_drop_more (λ xs. sides_by_each sides (take i used) xs) used i here c.loop-index-test.true
    ∙ ap (λ (x : List Bool). sides_by 0 (take i used) x behind sides ∷ sides_by_each sides (take i used ++ x ∷ []) behind) (sym c.index-used-index.is)
    ∙ ap₂ (λ (s : Sides) (xs : List (List Bool)). s ∷ sides_by_each sides xs behind) (sym own_is) (sym before))
    ∙ sym (append_assoc each (own ∷ []) (sides_by_each sides (take (i + 1) used) behind))
    ∙ ap (λ (s : List Sides). s ++ sides_by_each sides (take (i + 1) used) behind) (sym (ap (map sides_of) c.in_ok-push.ensures.ok ∙ map-append sides_of c.loop-index.each (c.in_ok-own.own ∷ [])))
