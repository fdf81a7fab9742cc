-- Where the events of a select's cases lead, there stands the code of each one's input, of its body, and of what is left behind the select;
-- and so it is with the default.
use Rattle.std.proofs.Common.{◌≡◌, ℕ, zero, suc, ◌+◌, ◌≤◌, ◌++◌, true, List, [], ◌∷◌, length, Option, Some, None, refl, sym, ap, ◌∙◌, subst, inl, arith}
use Rattle.std.specs.Prelude.{slice_get}
use Rattle.xs_instr.specs.declared.instr.Instr.TheVariants.{Brfu}
use Rattle.xc_kernel.specs.declared.statement.KRes.{KRes}
use Rattle.xc_kernel.specs.declared.statement.KRes.TheVariants.{Port, Timer, Chan}
use Rattle.xc_kernel.specs.Plain as kernel
use Rattle.xc_meaning.proofs.Basics.{none_given, some_given}
use Rattle.xc_meaning.specs.Settings.Select.{default_of}
use Rattle.xc_meaning.specs.States.Items.{Item, todo}
use Rattle.xl_chan.specs.Transfers.{Receives}
use Rattle.xl_ends.specs.Ends.{end_at, end_of_side}
use Rattle.xl_select.specs.Armed.{case_in}
use Rattle.xl_select.specs.Entry.{EntersCase, EntersFrom}
use Rattle.xl_select.specs.Opening.{default_targets}
use Rattle.xl_select.specs.OpeningCode.{case_count, first_end, is_default, other_ends}
use Rattle.xl_statements.specs.CaseEnds.{case_end, end_or_first}
use Rattle.xl_statements.specs.Pieces.{ByEndAt, CaseFrom, CasesAt, DefaultFrom, Exit, InputAt, LinesAt, PieceAt, PiecesAt}
use Rattle.xr_simulation.specs.Fits.{TakesInAt}
use Rattle.xr_simulation.specs.NextStep.{CaseAt, DefaultAt, EndOf, EntersAt, IsOnSide, ItemsFrom}
use Rattle.xr_simulation.specs.Runners.{IsLaidOut, Runner, Setting, code, plan}
use Rattle.xr_simulation.proofs.ItemCode.Items.{behind_jumps, pieces_before}

module _ (g : Setting) (r : Runner) (exits : List Exit) (otherwise : kernel.Default) (end : ℕ) where
  -- a case's code, from an index to the select's end
  abbrev pub CaseCode : (index : ℕ) → kernel.Case → Type 0
  CaseCode index (kernel.case guard i ss) =
      CaseFrom (code g r) (plan g r) (EntersCase (plan g r) i (case_end (plan g r).channels r.sides i.resource) true)
      (PiecesAt (code g r) (plan g r) r.sides ss exits) index end

  -- the default's, by its target, where there is one
  abbrev pub DefaultCode : (targets : List ℕ) → (index : ℕ) → Type 0
  DefaultCode = DefaultFrom (code g r) (plan g r) r.sides exits otherwise

  abbrev AllCases : kernel.Cases → List ℕ → Type 0
  AllCases cs targets = CasesAt (code g r) (plan g r) r.sides exits DefaultCode cs targets end

  -- the case at a place has its code at the target at that place
  pub target_at : (cs : kernel.Cases) (targets more : List ℕ) → AllCases cs (targets ++ more) → length targets ≡ case_count cs → (n : ℕ)
      (c : kernel.Case) (index : ℕ) → case_in cs n ≡ Some c → slice_get targets n ≡ Some index → CaseCode index c
  target_at kernel.no_case targets more h many n c index is at = absurd (none_given is)
  target_at (kernel.more_cases (kernel.case guard i ss) cs) [] more h many n c index is at = absurd (none_given at)
  target_at (kernel.more_cases (kernel.case guard i ss) cs) (t ∷ ts) more (target, later, same, its, others) many zero c index is at =
      subst (CaseCode index) (some_given is)
      (subst (λ p. CaseCode p (kernel.case guard i ss)) (sym (ap first_end same) ∙ some_given at) its)
  target_at (kernel.more_cases (kernel.case guard i ss) cs) (t ∷ ts) more (target, later, same, its, others) many (suc n) c index is at =
      target_at cs ts more (subst (AllCases cs) (sym (ap other_ends same)) others) (omega (arith, many)) n c index is at

  -- behind them stands the default's
  pub default_at : (cs : kernel.Cases) (targets more : List ℕ) → AllCases cs (targets ++ more) → length targets ≡ case_count cs →
      DefaultCode more end
  default_at kernel.no_case [] more h many = h
  default_at kernel.no_case (t ∷ ts) more h many = absurd (let z : ⊥ = omega (arith, many) in z)
  default_at (kernel.more_cases (kernel.case guard i ss) cs) [] more h many = absurd (let z : ⊥ = omega (arith, many) in z)
  default_at (kernel.more_cases (kernel.case guard i ss) cs) (t ∷ ts) more (target, later, same, its, others) many =
      default_at cs ts more (subst (AllCases cs) (sym (ap other_ends same)) others) (omega (arith, many))

  -- What is left behind the select stands where that ends.
  module _ (rest : List Item) (j : ℕ) (behind : ItemsFrom g r rest exits end j) where
    module _ (i : kernel.Input) (ss : kernel.Statements) (index : ℕ) (h : CaseCode index (kernel.case None i ss)) where
      abbrev jumps : ℕ
      jumps = h.jumps + j

      few : jumps ≤ j + 1
      few = let one = h.at_most_one in omega (arith, one)

      -- the body, and then that
      items : ItemsFrom g r (todo ss rest) exits h.entered jumps
      items =
          pieces_before (plan g r) (code g r) r.sides (EndOf g r) ss rest exits h.entered h.done jumps h.body
          (behind_jumps (plan g r) (code g r) r.sides (EndOf g r) rest exits h.jumps h.done end j h.past behind)

      -- the lines with which it begins, by its resource
      abbrev LinesOf : KRes → Type 0
      LinesOf res =
          LinesAt (code g r) (EntersFrom (plan g r) i (case_end (plan g r).channels r.sides res) true res) index h.entered

      -- the end of a channel that they use is that of the side in which the runner stands
      whole_input : (o : Option ℕ) (known : ℕ) → o ≡ Some known →
          LinesAt (code g r) (Receives (plan g r) (end_or_first o) i.target true i.pos) index h.entered →
          ByEndAt (code g r) (plan g r) (λ e. Receives (plan g r) e i.target true i.pos) o index h.entered
      whole_input None known is lines = absurd (none_given is)
      whole_input (Some e) known is lines = lines

      module _ (laid : IsLaidOut g r) where
        by_resource : (res : KRes) → i.resource ≡ res → LinesOf res → TakesInAt g r res → IsOnSide g r res →
            CaseAt g r res i (todo ss rest) (j + 1) index
        by_resource (Port p) is lines from side =
            (h.entered, exits, jumps, few, subst (λ q. EntersAt g r q i index h.entered) (sym is) lines, items)
        by_resource (Timer t) is lines from side =
            (h.entered, exits, jumps, few, subst (λ q. EntersAt g r q i index h.entered) (sym is) lines, items)
        by_resource (Chan c) is lines from (side, stands_in, here) =
            let its = laid.ends c side from here in
            let end_is : end_at (plan g r).channels r.sides c ≡ Some its.place =
            ap (end_of_side (slice_get (plan g r).channels c)) stands_in ∙ its.is in
            let input : InputAt (code g r) (plan g r) r.sides i (Chan c) index h.entered =
            whole_input (end_at (plan g r).channels r.sides c) its.place end_is lines in
            let piece : PieceAt (code g r) (plan g r) r.sides (kernel.input i) exits index h.entered =
            subst (λ q. InputAt (code g r) (plan g r) r.sides i q index h.entered) (sym is) input in (
              exits,
              jumps,
              few,
              record { index = index; here = 0; further = jumps; jumps = refl; stands = (h.entered, piece, items); sum = omega arith },
            )

        -- the input's code, and behind it all else
        pub case_at : TakesInAt g r i.resource → IsOnSide g r i.resource → CaseAt g r i.resource i (todo ss rest) (j + 1) index
        case_at from side = by_resource i.resource refl h.enters from side

    -- and so it is with the default, where one jump leads to its code
    pub default_stands : (target index : ℕ) → DefaultCode (default_targets (is_default otherwise) target) end →
        (is_default otherwise ≡ true → slice_get (code g r).instrs index ≡ Some (Brfu target)) →
        DefaultAt g r (default_of otherwise) rest (j + 1) index
    default_stands target index h jump = by otherwise h jump
      where
        by : (d : kernel.Default) → DefaultFrom (code g r) (plan g r) r.sides exits d (default_targets (is_default d) target) end →
            (is_default d ≡ true → slice_get (code g r).instrs index ≡ Some (Brfu target)) → DefaultAt g r (default_of d) rest (j + 1) index
        by kernel.no_default h jump = tt
        by (kernel.default ss) (other, same, pieces) jump =
            let there : target ≡ other = ap first_end same in (
              exits,
              1 + j,
              omega arith,
              behind_jumps (plan g r) (code g r) r.sides (EndOf g r) (todo ss rest) exits 1 index target j (target, inl (jump refl), refl)
                  (subst (λ p. ItemsFrom g r (todo ss rest) exits p j) (sym there)
                  (pieces_before (plan g r) (code g r) r.sides (EndOf g r) ss rest exits other end j pieces behind)),
            )
