use Rattle.std.proofs.Common.{◌∙◌, arith}
use Rattle.xt_core.proofs.images.first_core.Goals as goal

pub returns-clause-good : goal.returns-clause-good
returns-clause-good c = record {
  words = omega arith;
  timers = omega arith;
  ends = omega arith;
  ports = c.in_ok-ports.ensures;
  some_root = c.requires.some_root;
  few_roots = c.requires.few_roots;
  few = omega (arith, c.requires.few);
  places = c.in_ok-at.ensures ∙ c.len.ensures;
  roots = c.requires.roots;
  code = c.requires.code;
}
