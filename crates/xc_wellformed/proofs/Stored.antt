-- Where the words and the stamps of transfers go.
use Rattle.std.proofs.Common.{◌≡◌, Option, Some, option_map, ap, ◌∙◌}
use Rattle.xc_tree.specs.Plain as tree
use Rattle.xc_kernel.specs.Eval.{Store}
use Rattle.xc_kernel.specs.Numbering.{Numbering}
use Rattle.xc_kernel.specs.Scopes.{Scope}
use Rattle.xc_kernel.specs.Expressions.{kernel_place}
use Rattle.xc_kernel.specs.Transfers.{stamp_of, target_of}
use Rattle.xc_meaning.specs.Settings.Stores.{Spot}
use Rattle.xc_meaning.specs.Texts.Words.{spot_of_place}
use Rattle.xc_wellformed.specs.Stored.{spot_of, TargetsKept, InputStampsKept, OutputStampsKept, FreshTargetsKept, NoneStored}
use Rattle.xc_wellformed.proofs.Worded.{spots_kept}

-- a place by this numbering
numbered : (store : Store) (a b : Numbering) (scope : Scope) (e : tree.Expression) (spot : Spot) → a ≡ b → spot_of_place store (kernel_place b scope e) ≡ spot → spot_of store (Some (kernel_place a scope e)) ≡ Some spot
numbered store a b scope e spot f g = ap (λ (m : Numbering). Some (spot_of_place store (kernel_place m scope e))) f ∙ ap (λ (x : Spot). Some x) g

pub targets_kept : TargetsKept
targets_kept P n there store c e i k x is h =
    ap (λ (t : tree.Target). spot_of store (target_of c there.scope t)) is
    ∙ numbered store c.numbering _ there.scope x _ e (spots_kept P n there store k x h)

pub input_stamps_kept : InputStampsKept
input_stamps_kept P n there store c e i before behind k t is h =
    ap (λ (o : Option tree.Timing). spot_of store (option_map (stamp_of c (Rattle.xc_kernel.specs.Transfers.behind_target c before i)) o)) is
    ∙ (ap (λ (scope : Scope). spot_of store (Some (kernel_place c.numbering scope t.value))) behind
    ∙ numbered store c.numbering _ there.scope t.value _ e (spots_kept P n there store k t.value h))

pub output_stamps_kept : OutputStampsKept
output_stamps_kept P n there store c e o k t is h =
    ap (λ (s : Option tree.Timing). spot_of store (option_map (stamp_of c there.scope) s)) is
    ∙ numbered store c.numbering _ there.scope t.value _ e (spots_kept P n there store k t.value h)

pub fresh_targets_kept : FreshTargetsKept
fresh_targets_kept store c scope i u name is = ap (λ (t : tree.Target). spot_of store (target_of c scope t)) is

pub none_stored : NoneStored
none_stored c scope i o = (
  λ e. ap (target_of c scope) e,
  (λ e. ap (option_map (stamp_of c (Rattle.xc_kernel.specs.Transfers.behind_target c scope i))) e, λ e. ap (option_map (stamp_of c scope)) e),
)
