-- An image that implements a program's kernel implements the program's text, and so it is of all that an image promises.
use Rattle.std.proofs.Common.{◌≡◌, ℕ, ◌+◌, ◌*◌, ◌≤◌, List, Option, Some, None, sym, subst, ap, ◌∙◌, arith}
use Rattle.std.specs.Prelude.{◌↔◌, map, slice_index_or}
use Rattle.std.proofs.lemmas.Option.{same_Some}
use Rattle.xs_instr.specs.declared.image.Image.{Image}
use Rattle.xs_instr.specs.declared.image.Stim.{Stim}
use Rattle.xc_tree.specs.Plain as tree
use Rattle.xc_kernel.specs.Copies.{Copies, copy_of}
use Rattle.xc_kernel.specs.Plain as kernel
use Rattle.xc_meaning.specs.Counts.KernelCounts.{kernel_bound}
use Rattle.xc_meaning.specs.Counts.TextCounts.{program_bound}
use Rattle.xc_meaning.specs.Follows.{AreAlike, StandAlike, StandClose}
use Rattle.xc_meaning.specs.Quiet.{QuietBehind}
use Rattle.xc_meaning.specs.Runs.{kernel_start, program_start}
use Rattle.xc_meaning.specs.States.Channels.{Side, no_parcels, parcels_at}
use Rattle.xc_meaning.specs.States.Worlds.{World, Action, clock}
use Rattle.xc_meaning.proofs.Counting.Bounds.{bound_carries, bounds_fit}
use Rattle.xc_meaning.proofs.Counting.Fit.{counts_fit}
use Rattle.xc_meaning.proofs.Recursion.End.{calls_end}
use Rattle.xc_meaning.proofs.Recursion.Typed.{typed_text_follows}
use Rattle.xc_meaning.proofs.Simulation.Theorem.{text_follows_closely}
use Rattle.xr_match.specs.Implements.{AgreeNow, AgreeWholly, QuietAgree, StepsAreBounded}
use Rattle.xr_match.specs.Lives.{Family, Watched, machine_of}
use Rattle.xr_match.specs.Meanings.{HasParcel, family_in, of_kernel, of_text, KernelsCarry, KernelsCarryWholly}
use Rattle.xr_match.specs.Sources.{Counted, actions_by, actions_of, counted_of}
use Rattle.xr_match.proofs.Births.{family_alike}
use Rattle.xr_match.proofs.Through.{refines_through}
use Rattle.xr_match.proofs.RunsBeside.{IsOfKernel, IsOfText, refines_so, same_run}

module _ (P : List tree.Item) (K : kernel.Kernel) (s : Stim) where
  abbrev Alike : Counted (of_kernel K) → Counted (of_text P) → Type 0
  Alike x y = AreAlike x.state y.state

  -- alike, quiet together, and with the actions of each family in the kernel bounded by those in the text
  record Close (x : Counted (of_kernel K)) (y : Counted (of_text P)) : Type 0 where
    pub alike : Alike x y
    pub quiet : (cores : List ℕ) → QuietBehind K s x.state cores ↔ QuietBehind (copy_of P) s y.state cores
    pub bounded : (f : ℕ) → x.actions f + 1 ≤ 4 * (y.actions f + 1)

  module _ (ms ns : List Action) (x : Counted (of_kernel K)) (y : Counted (of_text P)) (e : IsOfKernel P K s ms x) (f : IsOfText P K s ns y) where
    -- of the states that such runs lead to
    same : (F : World → World → Type 0) (h : StandAlike P K s ms ns) → F h.of_kernel h.of_text → F x.state y.state
    same F h is =
        subst (λ z. F x.state z) (same_Some _ _ (sym h.text_leads ∙ f.led)) (subst (λ z. F z h.of_text) (same_Some _ _ (sym h.kernel_leads ∙ e.led)) is)

    alike : StandAlike P K s ms ns → Alike x y
    alike h = same AreAlike h h.alike

    close : StandClose P K s ms ns → Close x y
    close h = record {
      alike = same AreAlike h.alike h.alike.alike;
      quiet = same (λ z w. (cores : List ℕ) → QuietBehind K s z cores ↔ QuietBehind (copy_of P) s w cores) h.alike h.quiet;
      bounded = λ family. let p = e.told family in let q = f.told family in let b = h.bounded family in omega (arith, p, q, b);
    }

  -- what stands in the kernel's inbox stands in the text's
  has_parcel : (copies : Copies P K) (x y : World) → AreAlike x y → (place : ℕ) (side : Side) → HasParcel K x place side → HasParcel (copy_of P) y place side
  has_parcel copies x y k place side h =
      subst (λ k. HasParcel k y place side) copies.is_copy
      (record {
        channel = h.channel;
        is_channel = h.is_channel;
        oldest = h.oldest;
        others = h.others;
        stand = ap (λ boxes. parcels_at (slice_index_or boxes h.channel no_parcels) side) (sym k.inboxes) ∙ h.stand;
      })

  agree : (L : Image) (copies : Copies P K) (w : Watched) (x : Counted (of_kernel K)) (y : Counted (of_text P)) → AgreeNow L (of_kernel K) w x → Alike x y → AgreeNow L (of_text P) w y
  agree L copies w x y a k = record {
    clocks = a.clocks ∙ k.clocks;
    trace = a.trace ∙ k.trace;
    arrivals = λ line pair side at arrives. has_parcel copies x.state y.state k line side (a.arrivals line pair side at arrives);
    ended = ((λ h. sym k.ended ∙ a.ended.0 h), (λ h. a.ended.1 (k.ended ∙ h)));
  }

  -- where the machine is quiet behind some ticks so is the kernel, and so is the text
  agree_quiet : (L : Image) (w : Watched) (x : Counted (of_kernel K)) (y : Counted (of_text P)) → QuietAgree L (of_kernel K) s w.machine x.state → Close x y → QuietAgree L (of_text P) s w.machine y.state
  agree_quiet L w x y a k cores still later e =
      let behind = (k.quiet cores).0 (record { quiet = λ z f. a cores still z (sym (same_run K s (kernel_start K) (of_kernel K).bound (map clock cores) x.state) ∙ f) }) in
      behind.quiet later (same_run (copy_of P) s (program_start P) (of_text P).bound (map clock cores) y.state ∙ e)

  -- a family has the same number on both sides
  same_number : (copies : Copies P K) (x y : World) → AreAlike x y → (name : Family) → family_in K x name ≡ family_in (copy_of P) y name
  same_number copies x y k name = family_alike K x y k.births name ∙ ap (λ k. family_in k y name) copies.is_copy

  -- so its actions are bounded
  actions_bounded : (copies : Copies P K) (x : Counted (of_kernel K)) (y : Counted (of_text P)) → Close x y → (family : Option Family) → actions_of (of_kernel K) x family + 1 ≤ 4 * (actions_of (of_text P) y family + 1)
  actions_bounded copies x y k None = omega arith
  actions_bounded copies x y k (Some name) =
      subst (λ o. actions_by (of_kernel K) x (family_in K x.state name) + 1 ≤ 4 * (actions_by (of_text P) y o + 1)) (same_number copies x.state y.state k.alike name) (by (family_in K x.state name))
    where
      by : (number : Option ℕ) → actions_by (of_kernel K) x number + 1 ≤ 4 * (actions_by (of_text P) y number + 1)
      by None = omega arith
      by (Some f) = k.bounded f

  agree_bounded : (copies : Copies P K) → 4 * kernel_bound K ≤ program_bound P → (w : Watched) (x : Counted (of_kernel K)) (y : Counted (of_text P)) → StepsAreBounded (of_kernel K) w x → Close x y → StepsAreBounded (of_text P) w y
  agree_bounded copies fits w x y a k core thread =
      let life = w.lives core thread in
      bound_carries (kernel_bound K) (program_bound P) (actions_of (of_kernel K) x life.family) (actions_of (of_text P) y life.family) life.steps
      fits (actions_bounded copies x y k life.family) (a core thread)

  agree_wholly : (L : Image) (copies : Copies P K) → 4 * kernel_bound K ≤ program_bound P → (w : Watched) (x : Counted (of_kernel K)) (y : Counted (of_text P)) → AgreeWholly L (of_kernel K) s w x → Close x y → AgreeWholly L (of_text P) s w y
  agree_wholly L copies fits w x y a k = record {
    agree = agree L copies w x y a.agree k.alike;
    quiet = agree_quiet L w x y a.quiet k;
    bounded = agree_bounded copies fits w x y a.bounded k;
  }

-- what implements the kernel implements the text
pub kernels_carry : KernelsCarry
kernels_carry L P K named types typed copies of_K = record {
  by = λ s good.
      refines_through
      (machine_of L s)
      (counted_of (of_kernel K) s)
      (counted_of (of_text P) s)
      (AgreeNow L (of_kernel K))
      (Alike P K s)
      (AgreeNow L (of_text P))
      (agree P K s L copies)
      (of_K.by s good)
      (refines_so P K s (StandAlike P K s) (Alike P K s) (λ ms ns h. h) (alike P K s) (typed_text_follows P K named types typed copies s));
}

-- and what keeps all promises of the kernel keeps those of the text
pub kernels_carry_wholly : KernelsCarryWholly
kernels_carry_wholly L P K named types typed copies meet narrow of_K = record {
  by = λ s good.
      refines_through
      (machine_of L s)
      (counted_of (of_kernel K) s)
      (counted_of (of_text P) s)
      (AgreeWholly L (of_kernel K) s)
      (Close P K s)
      (AgreeWholly L (of_text P) s)
      (agree_wholly P K s L copies (bounds_fit P K (counts_fit typed.text.read.toks P K typed.text.read.derived copies narrow)))
      (of_K.by s good)
      (refines_so P K s (StandClose P K s) (Close P K s) (λ ms ns h. h.alike) (close P K s) (text_follows_closely P K (calls_end P named types typed) copies s (meet s)));
}
