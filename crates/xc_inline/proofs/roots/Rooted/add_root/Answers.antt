use Rattle.std.proofs.Common.{ap, ◌∙◌, map, ◌++◌, ◌∷◌, []}
use Rattle.std.proofs.lemmas.List.{map_push}
use Rattle.xc_kernel.specs.declared.kernel.Root.{Root}
use Rattle.xc_kernel.specs.Copy as copies
use Rattle.xc_kernel.specs.Kernels.{root_of, statement_of}
use Rattle.xc_kernel.specs.Plain as plain
use Rattle.xc_inline.specs.Copied.{copy_of}
use Rattle.xc_inline.proofs.Laws.Results.{given_on_ok}
use Rattle.xc_inline.proofs.roots.Rooted.add_root.Goals as goal

pub returns : goal.returns
returns c = given_on_ok c.push.result c.push.ensures.ok (λ h. λ before behind.
    let joined = rw c.in_ok-body.ensures.done at c.join-joined.ensures in
    let made = joined before behind ∙ ap (copies.joined (copy_of c.args.self.now.made before)) (c.take_code-body.ensures.left behind) in
    let root : Root = record { core = c.args.core; place = c.args.place; body = c.in_ok-body.body; pos = c.args.pos } in
    let roots = ap (map root_of) h ∙ map_push root_of c.args.self.now.roots root
    ∙ λ i. map root_of c.args.self.now.roots ++ record { core = c.args.core; place = c.args.place; body = plain.statements ((ap (map statement_of) c.in_ok-body.ensures.value ∙ c.take_code-body.ensures.code behind) i); pos = c.args.pos } ∷ [] in
    λ i. record { made = made i; roots = roots i })
