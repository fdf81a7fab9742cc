use Rattle.std.proofs.Common.{ap, ◌∙◌}
use Rattle.xw_words.specs.Tables.{place_in}
use Rattle.xw_words.specs.Ports.{identifiers}
use Rattle.xc_kernel.specs.Ports.{port_at}
use Rattle.xc_flat.proofs.program.port_use.Goals as goal

pub returns : goal.returns
returns c =
    let id = c.port_of.ensures ∙ ap (λ t. port_at (place_in identifiers t)) c.as_slice.ensures in
    let place = c.pos_of_place.ensures in
    λ i. record { id = id i; dir = c.args.port.now.dir; core = c.in_ok-core.ensures i; place = place i; pos = c.args.port.now.name.pos }
