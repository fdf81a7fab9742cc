use Rattle.std.proofs.Common.{◌∙◌}
use Rattle.xr_assembly.proofs.Listings.{line_first, reference_is}
use Rattle.xr_assembly.proofs.listing.read_listing.Goals as goal
use Rattle.xr_assembly.specs.Listings.{by_reference}

pub returns-in-Err-clause-broken : goal.returns-in-Err-clause-broken
returns-in-Err-clause-broken c = line_first c.args.text.now c.in-Err.e c.in-Err.ensures.broken

pub returns-in-Some-clause-broken : goal.returns-in-Some-clause-broken
returns-in-Some-clause-broken c =
    by_reference c.in-Ok.ensures.unbroken
    (reference_is c.args.text.now c.in_ok-image.image c.as_slice.result.now c.as_slice-2.result.now c.in_ok-line.field-0
    (c.as_slice.ensures ∙ c.in-Ok.ensures.lines) (c.as_slice-2.ensures ∙ c.in-Ok.ensures.lines) c.in_ok-image.ensures c.in_ok-line.ensures
    ∙ c.in-Some.is)
