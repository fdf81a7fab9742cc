use Rattle.std.proofs.Common.{◌≡◌, ◌∙◌, ap, arith, refl, false}
use Rattle.std.proofs.Math.ListN.{set}
use Rattle.xs_instr.specs.Lines.{lines_of, with_target}
use Rattle.xs_instr.proofs.Lines.{seen_length, hole_within, seen_land}
use Rattle.xs_instr.proofs.emitter.Emitter.land.Goals as goal

pub index-requires : goal.index-requires
index-requires c =
    let h = hole_within c.self.inside.instrs.items c.self.inside.places.items c.self.inside.holes.items c.args.self.now c.self.invariant c.self.view_is c.args.hole.index c.args.hole.index refl c.requires in
    omega (arith, h)

pub index_mut-requires : goal.index_mut-requires
index_mut-requires c =
    let h = hole_within c.self.inside.instrs.items c.self.inside.places.items c.self.inside.holes.items c.args.self.now c.self.invariant c.self.view_is c.args.hole.index c.args.hole.index refl c.requires in
    omega (arith, h)

pub index_mut-requires-2 : goal.index_mut-requires-2
index_mut-requires-2 c =
    let h = hole_within c.self.inside.instrs.items c.self.inside.places.items c.self.inside.holes.items c.args.self.now c.self.invariant c.self.view_is c.args.hole.index c.args.hole.index refl c.requires in
    let e = c.self.invariant.open_ones in
    omega (arith, h, e)

pub returns : goal.returns
returns c =
    let is = c.self.inside.instrs.items in
    let ps = c.self.inside.places.items in
    let os = c.self.inside.holes.items in
    let h = c.args.hole.index in
    let e = seen_length is ps os c.args.self.now c.self.invariant c.self.view_is in
    let l = c.len-target.ensures in
    let n : c.len-target.result ≡ _ = omega (arith, e, l) in
    ap (λ i. lines_of (set is h i) ps (set os h false)) (c.aimed.ensures ∙ ap (λ i. with_target i c.len-target.result) c.index.ensures)
    ∙ seen_land is ps os c.args.self.now c.self.invariant c.self.view_is h h c.len-target.result _ c.index.result.now refl n c.requires
