-- Where the words and the stamps of transfers go.
use Rattle.std.specs.Prelude.{◌≡◌, ℕ, Bool, List, Option, Some, None, option_map}
use Rattle.xc_tree.specs.declared.tree.Id.{Id}
use Rattle.xc_tree.specs.Plain as tree
use Rattle.xc_tree.specs.Types.Named.{NamedProgram}
use Rattle.xc_kernel.specs.Plain as kernel
use Rattle.xc_kernel.specs.Eval.{Store}
use Rattle.xc_kernel.specs.Paths.{path_at}
use Rattle.xc_kernel.specs.Numbering.{variable_number}
use Rattle.xc_kernel.specs.Scopes.{Scope}
use Rattle.xc_kernel.specs.Context.{Context}
use Rattle.xc_kernel.specs.Transfers.{behind_target, output_of, input_of}
use Rattle.xc_kernel.specs.Copies.{numbering}
use Rattle.xc_meaning.specs.Settings.Stores.{Spot}
use Rattle.xc_meaning.specs.Texts.Words.{word_spot, spot_of_place}
use Rattle.xc_wellformed.specs.Sources.{Where}
use Rattle.xc_wellformed.specs.Words.{SpotOf, StandsHere, AtEachPlace}

-- where a place of the kernel is, if there is one
abbrev pub spot_of : Store → Option kernel.Place → Option Spot
spot_of store place = option_map (spot_of_place store) place

module _ (P : List tree.Item) (n : NamedProgram) (there : Where P n) (store : Store) where
  -- An input's word is stored at what its target is, in the variable that the target declares, or nowhere;
  abbrev pub TargetKept : Type 0
  TargetKept =
      (c : Context) → c.numbering ≡ numbering P →
      (i : tree.Input) (k : ℕ) (e : tree.Expression) → i.target ≡ tree.to e →
      StandsHere P n there store k e → spot_of store (input_of c there.scope i).target ≡ Some (SpotOf P n there store k e)

  -- its counter at its stamp, where a name that the target declares is known;
  abbrev pub InputStampKept : Type 0
  InputStampKept =
      (c : Context) → c.numbering ≡ numbering P →
      (i : tree.Input) (before : Scope) → behind_target c before i ≡ there.scope →
      (k : ℕ) (t : tree.Timing) → i.stamp ≡ Some t → StandsHere P n there store k t.value →
      spot_of store (input_of c before i).stamp ≡ Some (SpotOf P n there store k t.value)

  -- and that of an output at its stamp.
  abbrev pub OutputStampKept : Type 0
  OutputStampKept =
      (c : Context) → c.numbering ≡ numbering P →
      (o : tree.Output) (k : ℕ) (t : tree.Timing) → o.stamp ≡ Some t → StandsHere P n there store k t.value →
      spot_of store (output_of c there.scope o).stamp ≡ Some (SpotOf P n there store k t.value)

abbrev pub TargetsKept : Type 0
TargetsKept = AtEachPlace TargetKept

abbrev pub InputStampsKept : Type 0
InputStampsKept = AtEachPlace InputStampKept

abbrev pub OutputStampsKept : Type 0
OutputStampsKept = AtEachPlace OutputStampKept

abbrev pub FreshTargetsKept : Type 0
FreshTargetsKept =
    (store : Store) (c : Context) (scope : Scope) (i : tree.Input) (u : Bool) (name : Id) → i.target ≡ tree.fresh u name →
    spot_of store (input_of c scope i).target ≡ Some (word_spot (variable_number c.numbering (path_at c.path name.pos)))

-- What isn't told in the text isn't stored.
abbrev pub NoneStored : Type 0
NoneStored =
    (c : Context) (scope : Scope) (i : tree.Input) (o : tree.Output) →
    (i.target ≡ tree.dropped → (input_of c scope i).target ≡ None)
    × ((i.stamp ≡ None → (input_of c scope i).stamp ≡ None) × (o.stamp ≡ None → (output_of c scope o).stamp ≡ None))
