-- The steps of the kernel's expressions and places are those of the text's.
use Rattle.std.proofs.Common.{◌≡◌, ℕ, Bool, length, Option, Some, None, option_map, refl, ap, ◌∙◌}
use Rattle.xw_words.specs.declared.pos.Pos.{Pos}
use Rattle.xc_tree.specs.Plain as tree
use Rattle.xc_kernel.specs.declared.statement.KRes.{KRes}
use Rattle.xc_kernel.specs.declared.statement.KRes.TheVariants.{Port, Timer, Chan}
use Rattle.xc_kernel.specs.Plain as kernel
use Rattle.xc_kernel.specs.Values.{Value, word, error, tested}
use Rattle.xc_kernel.specs.Eval.{Store, words_of, eval}
use Rattle.xc_kernel.specs.Scopes.{Scope}
use Rattle.xc_kernel.specs.Expressions.{updated}
use Rattle.xc_kernel.specs.Context.{Context, expression, maybe_expression, place}
use Rattle.xc_kernel.specs.Calls.{value_of}
use Rattle.xc_kernel.specs.Flow.{test_or_true}
use Rattle.xc_kernel.specs.Transfers.{time_of, condition_of, output_of, input_of}
use Rattle.xc_meaning.specs.States.Items.{at_time}
use Rattle.xc_meaning.specs.States.Worlds.{World, only_if}
use Rattle.xc_meaning.specs.Settings.Setting.{Setting, with_value}
use Rattle.xc_meaning.specs.Settings.Stores.{Spot, stored_in, stored, stored_at, assigned, assigned_at}
use Rattle.xc_meaning.specs.Settings.Channels.{outputs_word}
use Rattle.xc_meaning.specs.Settings.Time.{timing_by, when_tested, timing, with_timing, clock_of, counter_of, pins_of, port_may_pass, timer_may_pass}
use Rattle.xc_meaning.specs.Settings.Transfers.{drives, samples, reads_clock, outputs_to, inputs_from}
use Rattle.xc_meaning.specs.Settings.Select.{guard_value}
use Rattle.xc_meaning.specs.Texts.Words.{index_below, spot_of_place, value_in, updated_in, spot_in}
use Rattle.xc_meaning.specs.Texts.Transfers.{timing_in, outputs_text, inputs_text}
use Rattle.xc_meaning.specs.Texts.Select.{guard_in}
use Rattle.xc_meaning.specs.Texts.Loops.{test_value}
use Rattle.xc_meaning.specs.Texts.Statements.{right_value}
use Rattle.xc_meaning.proofs.Words.{value_is, spot_is, updated_is}

-- what is stored at a place is stored at its spot
tested_at : (s : Setting) (v : Value) (long : ℕ) (pos : Pos) (go : ℕ → Option World) → with_value s v (λ i. with_value s (tested i long pos) go) ≡ with_value s (index_below long pos v) go
tested_at s (word i) long pos go = refl
tested_at s (error kind at) long pos go = refl

stored_is : (s : Setting) (p : kernel.Place) (v : ℕ) → stored s p v ≡ stored_at s (spot_of_place s.world.store p) v
stored_is s (kernel.word variable) v = refl
stored_is s (kernel.element variable index pos) v = tested_at s (eval s.world.store index) (length (words_of s.world.store variable)) pos (stored_in s variable v)

pub assigned_is : (s : Setting) (p : kernel.Place) (e : kernel.Expression) (spot : Spot) (v : Value) → spot_of_place s.world.store p ≡ spot → eval s.world.store e ≡ v → assigned s p e ≡ assigned_at s spot v
assigned_is s p e spot v f g = (λ i. with_value s (g i) (λ w. stored_is s p w i)) ∙ ap (λ (x : Spot). with_value s v (stored_at s x)) f

module _ (c : Context) (scope : Scope) (store : Store) where
  pub word_is : (e : tree.Expression) → eval store (expression c scope e) ≡ value_in c scope store e
  word_is e = value_is c.numbering scope store 0 e

  pub place_is : (e : tree.Expression) → spot_of_place store (place c scope e) ≡ spot_in c scope store e
  place_is e = spot_is c.numbering scope store 0 e

  pub right_is : (r : tree.RightSide) → eval store (value_of c scope r) ≡ right_value c scope store r
  right_is (tree.value e) = word_is e
  right_is (tree.result call) = refl

  pub update_is : (to : tree.Expression) (symbol : ℕ) (pos : Pos) (u : Bool) (e : kernel.Expression) (v : Value) → eval store e ≡ v → eval store (updated c.numbering scope to symbol pos u e) ≡ updated_in c scope store to symbol pos u v
  update_is to symbol pos u e v h = updated_is c.numbering scope store 0 to symbol pos u e v h

  pub test_is : (test : Option tree.Expression) → eval store (test_or_true (maybe_expression c scope test)) ≡ test_value c scope store test
  test_is None = refl
  test_is (Some e) = word_is e

  pub guard_is : (guard : Option tree.Expression) → guard_value store (maybe_expression c scope guard) ≡ guard_in c scope store guard
  guard_is None = refl
  guard_is (Some e) = word_is e

  pub timing_is : (time : Option tree.Timing) (condition : Option tree.Condition) → timing store (option_map (time_of c scope) time) (option_map (condition_of c scope) condition) ≡ timing_in c scope store time condition
  timing_is (Some time) condition = ap (λ v. timing_by v at_time) (word_is time.value)
  timing_is None (Some w) = ap (λ v. timing_by v (when_tested w.test)) (word_is w.value)
  timing_is None None = refl

-- transfers
module _ (s : Setting) (c : Context) (scope : Scope) where
  pub outputs_is : (o : tree.Output) (r : KRes) → outputs_to s (output_of c scope o) r ≡ outputs_text s c scope o r
  outputs_is o (Port p) =
      λ i. with_timing s (timing_is c scope s.world.store o.time None i)
      (λ when. with_value s (word_is c scope s.world.store o.value i) (drives s (output_of c scope o) p when))
  outputs_is o (Timer t) = refl
  outputs_is o (Chan channel) = λ i. with_value s (word_is c scope s.world.store o.value i) (outputs_word s channel o.name.pos)

  pub inputs_is : (x : tree.Input) (r : KRes) → inputs_from s (input_of c scope x) r ≡ inputs_text s c scope x r
  inputs_is x (Port p) =
      λ i. with_timing s (timing_is c scope s.world.store x.time x.condition i)
      (λ when. only_if (port_may_pass s p when) (samples s (input_of c scope x) p (pins_of s p) (counter_of s)))
  inputs_is x (Timer t) =
      λ i. with_timing s (timing_is c scope s.world.store x.time x.condition i)
      (λ when. only_if (timer_may_pass s when) (reads_clock s (input_of c scope x) (clock_of s)))
  inputs_is x (Chan channel) = refl
