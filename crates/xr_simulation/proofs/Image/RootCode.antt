-- A root's code, as an image has it, is the code of what the root's branch has to do.
use Rattle.std.proofs.Common.{ℕ, ◌+◌, [], ◌∷◌, None, refl}
use Rattle.xs_instr.specs.declared.image.CoreImage.{CoreImage}
use Rattle.xc_kernel.specs.Plain as kernel
use Rattle.xc_meaning.specs.States.Items.{ends, todo}
use Rattle.xl_expr.specs.declared.plan.Plan.{Plan}
use Rattle.xl_image.specs.Images.{RootAt}
use Rattle.xl_ends.specs.Ends.{Sides}
use Rattle.xr_simulation.specs.Items.{EndAt, ItemsAt}
use Rattle.xr_simulation.proofs.ItemCode.Items.{pieces_before}

-- what a root's branch has to do stands behind the two instructions that set its stack
pub root_items : (K : kernel.Kernel) (plan : Plan) (part : CoreImage) (core place : ℕ) (root : kernel.Root) (sides : Sides) (at_root : RootAt K plan part core place root sides) →
    ItemsAt plan part.code sides (EndAt plan part.code None []) (todo root.body (ends ∷ [])) [] (at_root.index + 2) 0
root_items K plan part core place root sides at_root =
    let end : ItemsAt plan part.code sides (EndAt plan part.code None []) (ends ∷ []) [] at_root.behind 0 = record {
      index = at_root.behind;
      here = 0;
      further = 0;
      jumps = refl;
      stands = (at_root.end, refl);
      sum = refl;
    } in
    pieces_before plan part.code sides (EndAt plan part.code None []) root.body (ends ∷ []) [] (at_root.index + 2) at_root.behind 0
    at_root.body end
