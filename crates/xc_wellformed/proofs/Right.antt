-- What is right in all code of a typed program's kernel, by its parts: variables, operands, levels and transfers.
use Rattle.std.proofs.Common.{◌≡◌, ◌∙◌, ℕ, Bool, ◌+◌, ◌<◌, ◌≤◌, false, List, length, refl, arith}
use Rattle.xc_tree.specs.Plain as tree
use Rattle.xc_tree.specs.Depth as depth
use Rattle.xc_tree.specs.Derives.{deepest}
use Rattle.xc_tree.specs.Types.Named.{NamedProgram}
use Rattle.xc_kernel.specs.declared.kernel.PortUse.{PortUse}
use Rattle.xc_kernel.specs.Plain as kernel
use Rattle.xc_kernel.specs.Paths.{Path}
use Rattle.xc_kernel.specs.Numbering.{Numbering, variable_number}
use Rattle.xc_kernel.specs.Programs.{Function}
use Rattle.xc_wellformed.specs.Numbers.{IsVariable, IsListed, NumbersInExpression, NumbersInPlace}
use Rattle.xc_wellformed.specs.Denotes.{HasVariable}
use Rattle.xc_wellformed.specs.Operands.{HasOperands, PlaceHasOperands, IsProper}
use Rattle.xc_wellformed.specs.Levels.{levels, IsLow, IsLowPlace}
use Rattle.xc_wellformed.proofs.Shaped.{IsLval, Assigns}
use Rattle.xc_wellformed.proofs.Walk.Arguments.{Leaves}
use Rattle.xc_wellformed.proofs.Numbers.{expression_well, lval_well, lval_read}
use Rattle.xc_wellformed.proofs.Transferred.{OutGoes, InGoes, out_leaf, in_leaf}
use Rattle.xc_wellformed.proofs.Low.{has_operands, few_levels, place_operands, place_levels}

-- an expression of the text that is proper and not too deep
abbrev pub IsShallow : tree.Expression → Type 0
IsShallow e = IsProper e × (depth.of_expression e ≤ deepest)

-- one that can be assigned to
abbrev pub IsShallowLval : tree.Expression → Type 0
IsShallowLval e = IsLval e × IsShallow e

module _ (num : Numbering) where
  -- its translation is so low, and with the operation of an `op=` or of a tested index it is still low
  abbrev pub Lower : kernel.Expression → Type 0
  Lower e = NumbersInExpression (IsVariable num.variables) e × (HasOperands e × (levels e ≤ deepest + 1))

  abbrev pub IsRight : kernel.Expression → Type 0
  IsRight e = NumbersInExpression (IsVariable num.variables) e × (HasOperands e × IsLow e)

  abbrev pub IsRightPlace : kernel.Place → Type 0
  IsRightPlace p = NumbersInPlace (IsVariable num.variables) p × (PlaceHasOperands p × IsLowPlace p)

  abbrev pub IsOne : ℕ → Type 0
  IsOne c = c < length num.channels

module _ (n : NamedProgram) (fs : List Function) (ps : List PortUse) (num : Numbering) (H J : ℕ → Path → Type 0) (here : ℕ) where
  listed : (path : Path) (b : Bool) (words : ℕ) → (b ≡ false → words ≡ 1) → HasVariable num (H here) path b words → IsVariable num.variables (variable_number num path) b
  listed path b words one h = record { variable = h.variable; there = h.there; array = h.array; one_word = λ e. h.long ∙ one e }

  pub right_leaves : Leaves n fs ps num H J here IsShallow IsShallowLval Assigns (IsRight num) (Lower num) (IsRightPlace num) (IsListed num.variables) (OutGoes n fs ps num H J here) (InGoes n fs ps num H J here) (IsOne num)
  right_leaves = record {
    weaker = λ e h. let l = h.1.1 in (h.0, (h.1.0, omega arith));
    ex = λ e k st scope a r g x. (expression_well n fs ps num H J here (IsVariable num.variables) listed st scope a e k r g, (has_operands num scope e x.0, (let d = x.1 in let l = few_levels num scope e in omega arith)));
    lval = λ e k st scope a r g x. (lval_well n fs ps num H J here (IsVariable num.variables) listed st scope a e k r g x.0, (place_operands num scope e x.1.0, (let d = x.1.1 in let l = place_levels num scope e in omega arith)));
    updating = λ e k st scope a r g x symbol y pos value j rv gv xv. (
      (lval_read n fs ps num H J here (IsVariable num.variables) listed st scope a e k r g x.0, (expression_well n fs ps num H J here (IsVariable num.variables) listed st scope a value j rv gv, tt)),
      (
        (y, (has_operands num scope e x.1.0, (has_operands num scope value xv.0, tt))),
        (let d = x.1.1 in let l = few_levels num scope e in let b = xv.1 in let m = few_levels num scope value in omega arith),
      ),
    );
    stepping = λ e k st scope a r g x symbol y pos. (
      (lval_read n fs ps num H J here (IsVariable num.variables) listed st scope a e k r g x.0, (tt, tt)),
      (
        (y, (has_operands num scope e x.1.0, (tt, tt))),
        (let d = x.1.1 in let l = few_levels num scope e in omega arith),
      ),
    );
    testing = λ v h path l array pos. ((h.0, (tt, tt)), ((refl, (h.1.0, (tt, tt))), (let b = h.1.1 in omega arith)));
    one = (tt, (tt, omega arith));
    word = λ path h. (listed path false 1 (λ e. refl) h, (tt, omega arith));
    read_word = λ path h. (listed path false 1 (λ e. refl) h, (tt, omega arith));
    zero_in = λ path b words h. record { variable = h.variable; there = h.there };
    going_out = out_leaf n fs ps num H J here;
    coming_in = in_leaf n fs ps num H J here;
    transacting = λ path h. h;
    index_in = λ t i pos x. (x.0, (let d = x.1 in omega arith));
  }
