use Rattle.std.proofs.Common.{rules, ◌≡◌, None, ap, sym, subst, ◌∙◌}
use Rattle.xw_io.specs.Outside.{IsFileOf}
use Rattle.xr_driver.specs.Command.{route_file_of, stim_of}
use Rattle.xr_driver.specs.Decision.{command_of}
use Rattle.xr_driver.specs.Due.{of_second}
use Rattle.xr_driver.proofs.Decides.{handed_on, route_file_is_second, with_routes, with_stim, without_files}
use Rattle.xr_driver.proofs.files.inputs_of.Goals as goal

pub returns-in_err-stim-clause-refused : goal.returns-in_err-stim-clause-refused
returns-in_err-stim-clause-refused g c =
    handed_on _ _ _ c.from_residual.result c.from_residual.ensures.1
    (λ command is. c.in_err-stim.ensures.refused command (is.0, ap stim_of is.1 ∙ c.in-Some.ensures))

pub returns-in-Some-clause-read : goal.returns-in-Some-clause-read
returns-in-Some-clause-read g c = with_stim _ _ _ _ c.in-Some.ensures c.in_ok-stim.ensures.read

pub returns-in_default-routes-clause-read : goal.returns-in_default-routes-clause-read
returns-in_default-routes-clause-read g c =
    let no_stim : stim_of (command_of c.args.command) ≡ None = search rules in
    let no_routes : route_file_of (command_of c.args.command) ≡ None = search rules in
    without_files _ _ _ no_stim c.without_lines-stim.ensures no_routes

pub returns-in_err-text-clause-refused : goal.returns-in_err-text-clause-refused
returns-in_err-text-clause-refused g c =
    handed_on _ _ _ c.from_residual-in_err-text.result c.from_residual-in_err-text.ensures.1
    (λ command is. c.in_err-text.ensures.refused command
    (of_second command _ is.0 (route_file_is_second command _ (ap route_file_of is.1 ∙ c.in-Some-routes.ensures))))

pub returns-clause-read : goal.returns-clause-read
returns-clause-read g c =
    let no_stim : stim_of (command_of c.args.command) ≡ None = search rules in
    let told = subst (λ t. IsFileOf (g.S.Shelf.files c.args.shelf.now) c.in-Some-routes.name.now t) (sym c.from_vec-routes.ensures)
    c.in_ok-text.ensures.loaded in
    with_routes _ _ _ _ no_stim c.without_lines-stim-2.ensures c.in-Some-routes.ensures told
