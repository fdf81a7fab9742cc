use Rattle.std.proofs.Common.{ap, map, ◌∙◌}
use Rattle.std.proofs.lemmas.List.{map-append}
use Rattle.xc_kernel.specs.Kernels.{statement_of}
use Rattle.xc_inline.proofs.Laws.Results.{given_on_ok}
use Rattle.xc_inline.proofs.copied.Copied.append.Goals as goal

pub returns : goal.returns
returns c = given_on_ok c.append-7.result c.append-7.ensures (λ named before after. λ i. record {
  code = (ap (map statement_of) c.in_ok-append.ensures ∙ map-append statement_of c.args.self.now.code.items c.args.other.now.code.items) i;
  scope = after;
  variables = c.in_ok-append-2.ensures i;
  channels = c.in_ok-append-3.ensures i;
  timers = c.in_ok-append-4.ensures i;
  blocks = c.in_ok-append-5.ensures i;
  instances = c.in_ok-append-6.ensures i;
  named = named i;
})
