-- What a select leaves to be done fits where the select does: its enabled cases, the input and the body of one that is taken, and the
-- default.
use Rattle.std.proofs.Common.{◌≡◌, ℕ, ◌∷◌, List, Option, Some}
use Rattle.std.specs.Prelude.{slice_get}
use Rattle.xw_words.specs.declared.pos.Pos.{Pos}
use Rattle.xc_kernel.specs.declared.statement.KRes.{KRes}
use Rattle.xc_kernel.specs.declared.statement.KRes.TheVariants.{Port, Timer, Chan}
use Rattle.xc_kernel.specs.Eval.{Store}
use Rattle.xc_kernel.specs.Plain as kernel
use Rattle.xc_invariants.specs.Sided.{BodyIs, DefaultIs}
use Rattle.xc_invariants.proofs.Choices.{EachCase, choice_each, known_each}
use Rattle.xc_meaning.specs.Settings.Select.{default_of, enabled, input_taken, these}
use Rattle.xc_meaning.specs.Settings.Setting as program
use Rattle.xc_meaning.specs.States.Items.{Body, of_kernel, of_text, Choice, Item, body_items, chooses}
use Rattle.xr_simulation.specs.Fits.{AllFit, CasesFit, CountedInputFits, DefaultFits, Fits, ItemFits, ItemsFit}
use Rattle.xr_simulation.specs.Runners.{Setting, Runner}
use Rattle.xr_simulation.proofs.ItemCode.Items.{all_fit}

module _ (g : Setting) (r : Runner) where
  -- each case's input and body
  inputs_fit : (cs : kernel.Cases) → CasesFit g r cs → EachCase (CountedInputFits g r) (AllFit g r) cs
  inputs_fit kernel.no_case h = tt
  inputs_fit (kernel.more_cases (kernel.case guard i ss) cs) h = (h.0.1, h.0.2, inputs_fit cs h.1)

  default_fit : (d : kernel.Default) → DefaultFits g r d → DefaultIs (AllFit g r) (default_of d)
  default_fit kernel.no_default h = tt
  default_fit (kernel.default ss) h = h

  -- a select that has begun
  pub begun_fits : (cs : kernel.Cases) (d : kernel.Default) (pos : Pos) (store : Store) (choices : List Choice) →
      enabled store cs ≡ these choices → Fits g r (kernel.select cs d pos) → ItemFits g r (chooses choices (default_of d))
  begun_fits cs d pos store choices is h =
      (known_each (CountedInputFits g r) (AllFit g r) store cs choices is (inputs_fit cs h.0), default_fit d h.1)

  body_fits : (b : Body) (rest : List Item) → BodyIs (AllFit g r) b → ItemsFit g r rest → ItemsFit g r (body_items b rest)
  body_fits (of_kernel ss) rest h k = all_fit g r ss rest h k
  body_fits (of_text i) rest h k = absurd h

  -- the input of a case that is taken, by its resource
  taken_fits : (s : program.Setting) (i : kernel.Input) (res : KRes) → CountedInputFits g r i → ItemFits g r (input_taken s i res)
  taken_fits s i (Port p) h = h
  taken_fits s i (Timer t) h = h
  taken_fits s i (Chan c) h = h

  -- a case that is taken, before what else is left
  pub case_fits : (s : program.Setting) (choices : List Choice) (otherwise : Option Body) (n : ℕ) (c : Choice) (rest : List Item) →
      slice_get choices n ≡ Some c → ItemFits g r (chooses choices otherwise) → ItemsFit g r rest →
      ItemsFit g r (input_taken s c.input c.input.resource ∷ body_items c.body rest)
  case_fits s choices otherwise n c rest is h k =
      let each = choice_each (CountedInputFits g r) (AllFit g r) choices n c is h.0 in
      (taken_fits s c.input c.input.resource each.0, body_fits c.body rest each.1 k)

  -- and the default
  pub default_left_fits : (choices : List Choice) (b : Body) (rest : List Item) → ItemFits g r (chooses choices (Some b)) →
      ItemsFit g r rest → ItemsFit g r (body_items b rest)
  default_left_fits choices b rest h k = body_fits b rest h.1 k
