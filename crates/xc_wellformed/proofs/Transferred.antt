-- Outputs and inputs go through what they can go through.
use Rattle.std.proofs.Common.{◌≡◌, ◌⊎◌, inl, inr, ℕ, ◌+◌, Bool, true, false, if◌then◌else◌, List, length, Option, Some, None, nat_eq, option_map, is_some, refl, sym, ap, subst, ◌∙◌, true≢false}
use Rattle.xc_tree.specs.declared.tree.TreeDir.{TreeDir}
use Rattle.xc_tree.specs.declared.names.What.{What}
use Rattle.xc_tree.specs.declared.names.What.TheVariants as what
use Rattle.xc_tree.specs.Plain as tree
use Rattle.xc_tree.specs.Names.Marks as marks
use Rattle.xc_tree.specs.Types.Named.{NamedProgram, Name, name_at, past}
use Rattle.xc_tree.specs.Types.Entities.{is_port, is_timer, takes_output, gives_input}
use Rattle.xc_tree.specs.Words.{pinseq_word, pinsneq_word, timerafter_word}
use Rattle.xc_tree.specs.Types.Sites.{Site}
use Rattle.xc_tree.specs.Types.Sites as site
use Rattle.xc_kernel.specs.declared.kernel.PortUse.{PortUse}
use Rattle.xc_kernel.specs.Conditions.{AsksForPins, AsksForTime}
use Rattle.xc_kernel.specs.Plain as kernel
use Rattle.xc_kernel.specs.Paths.{Path}
use Rattle.xc_kernel.specs.Numbering.{Numbering}
use Rattle.xc_kernel.specs.Scopes.{Scope, Entity, entity_of}
use Rattle.xc_kernel.specs.Programs.{Function}
use Rattle.xc_kernel.specs.Context.{Context}
use Rattle.xc_kernel.specs.Transfers.{time_of, stamp_of, condition_of, output_of, input_of, behind_target}
use Rattle.xc_wellformed.specs.Stacks.{Stack, Resolves}
use Rattle.xc_wellformed.specs.Denotes.{HasPort, Denotes, a_variable, whole_array, word_referred, element_referred, array_referred, the_channel, the_end, the_timer, the_port, port_given, the_index, the_function, none_there, Agrees}
use Rattle.xc_tree.specs.Types.Entities.{drives, reads}
use Rattle.xc_kernel.specs.declared.statement.KRes.{KRes}
use Rattle.xc_kernel.specs.Expressions.{resource_of}
use Rattle.xc_wellformed.specs.Transfers.{IsNothing, IsPort, can_drive, can_read, WaitsForOne, OutputGoes, InputComes}
use Rattle.xc_wellformed.proofs.Shaped.{Waits, WaitsRight}
use Rattle.xc_wellformed.proofs.Numbers.{no}
use Rattle.xc_wellformed.proofs.Walk.Arguments.{AllIn, split, IsFine, standing}

module _ (n : NamedProgram) (fs : List Function) (ps : List PortUse) (num : Numbering) (H J : ℕ → Path → Type 0) (here : ℕ) where
  abbrev Known : Stack → Scope → Type 0
  Known st scope = Agrees n fs ps num (H here) (J here) st scope

  abbrev Standing : List ℕ → Option What → Entity → Type 0
  Standing t w e = Denotes n fs ps num (H here) (J here) t w e

  none_by : {A : Type 0} (o : Option A) → (is_some o ≡ true → false ≡ true) → IsNothing o
  none_by None h = tt
  none_by (Some x) h = no (h refl)

  abbrev Goes : KRes → Option kernel.Expression → Option kernel.Place → Type 0
  Goes r time stamp = OutputGoes ps (length num.channels) (length num.timers) r time stamp

  port_drives : (number : ℕ) (d : TreeDir) → HasPort ps number d → drives d ≡ true → IsPort ps number can_drive
  port_drives number d h e = record { port = h.port; there = h.there; direction = ap drives h.direction ∙ e }

  port_reads : (number : ℕ) (d : TreeDir) → HasPort ps number d → reads d ≡ true → IsPort ps number can_read
  port_reads number d h e = record { port = h.port; there = h.there; direction = ap reads h.direction ∙ e }

  output_goes : (t : List ℕ) (w : Option What) (x : Entity) → Standing t w x → takes_output w ≡ true → (time : Option kernel.Expression) (stamp : Option kernel.Place) → (is_some time ≡ true → is_port w ≡ true) → (is_some stamp ≡ true → is_port w ≡ true) → Goes (resource_of num x) time stamp
  output_goes t _ _ (the_port {d = d} {number = number} h) e time stamp f g = port_drives number d h e
  output_goes t _ _ (port_given {d = d} {number = number} h) e time stamp f g = port_drives number d h e
  output_goes t _ _ (the_channel h) e time stamp f g = (h, (none_by time f, none_by stamp g))
  output_goes t _ _ (the_end h) e time stamp f g = (h, (none_by time f, none_by stamp g))
  output_goes t _ _ (a_variable h) e time stamp f g = no e
  output_goes t _ _ (whole_array h) e time stamp f g = no e
  output_goes t _ _ (word_referred h) e time stamp f g = no e
  output_goes t _ _ (element_referred h i) e time stamp f g = no e
  output_goes t _ _ (array_referred told h) e time stamp f g = no e
  output_goes t _ _ (the_timer h) e time stamp f g = no e
  output_goes t _ _ the_index e time stamp f g = no e
  output_goes t _ _ (the_function h) e time stamp f g = no e
  output_goes t _ _ none_there e time stamp f g = no e

  -- what the rule on conditions says
  abbrev Tested : Option What → Option kernel.Condition → Type 0
  Tested w None = Unit {0}
  Tested w (Some c) = (if nat_eq c.test timerafter_word then is_timer w else is_port w) ≡ true

  -- and what the grammar says
  abbrev Asks : Option kernel.Expression → Option kernel.Condition → Type 0
  Asks time None = Unit {0}
  Asks None (Some c) = (c.test ≡ pinseq_word) ⊎ ((c.test ≡ pinsneq_word) ⊎ (c.test ≡ timerafter_word))
  Asks (Some t) (Some c) = ⊥

  abbrev One : kernel.Condition → Type 0
  One c = (c.test ≡ pinseq_word) ⊎ ((c.test ≡ pinsneq_word) ⊎ (c.test ≡ timerafter_word))

  one_of : (time : Option kernel.Expression) (c : kernel.Condition) → Asks time (Some c) → One c
  one_of None c h = h
  one_of (Some t) c h = absurd h

  waits_one : (time : Option kernel.Expression) (c : Option kernel.Condition) → Asks time c → WaitsForOne time c
  waits_one None c h = tt
  waits_one (Some t) None h = tt
  waits_one (Some t) (Some c) h = absurd h

  pins : (w : Option What) (time : Option kernel.Expression) (o : Option kernel.Condition) → is_timer w ≡ false → Tested w o → Asks time o → AsksForPins o
  pins w time None e h k = tt
  pins w time (Some c) e h k = by (one_of time c k)
    where
      test : nat_eq c.test timerafter_word ≡ true → ⊥
      test q = true≢false (sym h ∙ ap (λ (b : Bool). if b then is_timer w else is_port w) q ∙ e)

      by : One c → AsksForPins (Some c)
      by (inl q) = inl q
      by (inr (inl q)) = inr q
      by (inr (inr q)) = absurd (test (ap (λ (t : ℕ). nat_eq t timerafter_word) q))

  after_time : (w : Option What) (time : Option kernel.Expression) (o : Option kernel.Condition) → is_port w ≡ false → Tested w o → Asks time o → AsksForTime o
  after_time w time None e h k = tt
  after_time w time (Some c) e h k = by (one_of time c k)
    where
      test : nat_eq c.test timerafter_word ≡ false → ⊥
      test q = true≢false (sym h ∙ ap (λ (b : Bool). if b then is_timer w else is_port w) q ∙ e)

      by : One c → AsksForTime (Some c)
      by (inl q) = absurd (test (ap (λ (t : ℕ). nat_eq t timerafter_word) q))
      by (inr (inl q)) = absurd (test (ap (λ (t : ℕ). nat_eq t timerafter_word) q))
      by (inr (inr q)) = q

  no_test : (w : Option What) (o : Option kernel.Condition) → is_port w ≡ false → is_timer w ≡ false → Tested w o → IsNothing o
  no_test w None e f h = tt
  no_test w (Some c) e f h = by (nat_eq c.test timerafter_word) h
    where
      by : (b : Bool) → (if b then is_timer w else is_port w) ≡ true → ⊥
      by true q = true≢false (sym q ∙ f)
      by false q = true≢false (sym q ∙ e)

  input_goes : (t : List ℕ) (w : Option What) (x : Entity) → Standing t w x → gives_input w ≡ true → (time : Option kernel.Expression) (c : Option kernel.Condition) (stamp : Option kernel.Place) → (is_some time ≡ true → is_port w ≡ true) → Tested w c → Asks time c → (is_some stamp ≡ true → is_port w ≡ true) → InputComes ps (length num.channels) (length num.timers) (resource_of num x) time c stamp
  input_goes t _ _ (the_port {d = d} {number = number} h) e time c stamp f q k g = (port_reads number d h e, (waits_one time c k, pins (Some (what.Port d)) time c refl q k))
  input_goes t _ _ (port_given {d = d} {number = number} h) e time c stamp f q k g = (port_reads number d h e, (waits_one time c k, pins (Some (what.PortParam d)) time c refl q k))
  input_goes t _ _ (the_channel {s = b} h) e time c stamp f q k g = (h, (none_by time f, (no_test (Some (what.Chan b)) c refl refl q, none_by stamp g)))
  input_goes t _ _ (the_end {s = b} h) e time c stamp f q k g = (h, (none_by time f, (no_test (Some (what.End b)) c refl refl q, none_by stamp g)))
  input_goes t _ _ (the_timer h) e time c stamp f q k g = (h.0, (none_by time f, (after_time (Some what.Timer) time c refl q k, none_by stamp g)))
  input_goes t _ _ (a_variable h) e time c stamp f q k g = no e
  input_goes t _ _ (whole_array h) e time c stamp f q k g = no e
  input_goes t _ _ (word_referred h) e time c stamp f q k g = no e
  input_goes t _ _ (element_referred h i) e time c stamp f q k g = no e
  input_goes t _ _ (array_referred told h) e time c stamp f q k g = no e
  input_goes t _ _ the_index e time c stamp f q k g = no e
  input_goes t _ _ (the_function h) e time c stamp f q k g = no e
  input_goes t _ _ none_there e time c stamp f q k g = no e

  time_fact : (k : ℕ) (y : Name) (c : Context) (scope : Scope) (o : Option tree.Timing) → AllIn IsFine (site.optional (site.of_time n k y) o) → is_some (option_map (time_of c scope) o) ≡ true → is_port y.what ≡ true
  time_fact k y c scope None g e = no e
  time_fact k y c scope (Some t) g e = g.0

  stamp_fact : (k : ℕ) (y : Name) (c : Context) (scope : Scope) (o : Option tree.Timing) → AllIn IsFine (site.optional (site.of_stamp n k y) o) → is_some (option_map (stamp_of c scope) o) ≡ true → is_port y.what ≡ true
  stamp_fact k y c scope None g e = no e
  stamp_fact k y c scope (Some t) g e = g.0

  test_fact : (k : ℕ) (y : Name) (c : Context) (scope : Scope) (o : Option tree.Condition) → AllIn IsFine (site.optional (site.of_condition n k y) o) → Tested y.what (option_map (condition_of c scope) o)
  test_fact k y c scope None g = tt
  test_fact k y c scope (Some t) g = g.0

  asks_fact : (c : Context) (scope : Scope) (time : Option tree.Timing) (o : Option tree.Condition) → Waits time o → Asks (option_map (time_of c scope) time) (option_map (condition_of c scope) o)
  asks_fact c scope time None h = tt
  asks_fact c scope None (Some w) h = h
  asks_fact c scope (Some t) (Some w) h = absurd h

  abbrev pub OutGoes : kernel.Output → Type 0
  OutGoes o = OutputGoes ps (length num.channels) (length num.timers) o.resource o.time o.stamp

  abbrev pub InGoes : kernel.Input → Type 0
  InGoes i = InputComes ps (length num.channels) (length num.timers) i.resource i.time i.condition i.stamp

  pub out_leaf : (c : Context) (scope : Scope) (o : tree.Output) (k : ℕ) (st : Stack) → c.numbering ≡ num → Known st scope → Resolves n k st (marks.of_output o) → AllIn IsFine (site.of_output n k o) → OutGoes (output_of c scope o)
  out_leaf c scope o k st e a r g =
      let y = name_at n k o.name in
      let g2 = split IsFine (site.optional (site.of_time n (k + 1) y) o.time) _ g.1 in
      let k2 = past (k + 1) (marks.optional marks.of_timing o.time) in
      let g3 = split IsFine (site.of_expression n k2 o.value) _ g2.1 in
      subst (λ (m : Numbering). OutputGoes ps (length num.channels) (length num.timers) (resource_of m (entity_of scope o.name.text)) (option_map (time_of c scope) o.time) (option_map (stamp_of c scope) o.stamp)) (sym e)
      (output_goes o.name.text _ _ (standing n fs ps num H J here st scope k o.name.text a r.0) g.0 _ _ (time_fact (k + 1) y c scope o.time g2.0) (stamp_fact _ y c scope o.stamp g3.1))

  pub in_leaf : (c : Context) (scope : Scope) (i : tree.Input) (k : ℕ) (st : Stack) → c.numbering ≡ num → Known st scope → Resolves n k st (marks.of_input i) → AllIn IsFine (site.of_input n k i) → WaitsRight i → InGoes (input_of c scope i)
  in_leaf c scope i k st e a r g x =
      let y = name_at n k i.name in
      let g2 = split IsFine (site.optional (site.of_time n (k + 1) y) i.time) _ g.1 in
      let k2 = past (k + 1) (marks.optional marks.of_timing i.time) in
      let g3 = split IsFine (site.optional (site.of_condition n k2 y) i.condition) _ g2.1 in
      let k3 = past k2 (marks.optional marks.of_condition i.condition) in
      let g4 = split IsFine (site.of_target n k3 i.target) _ g3.1 in
      subst (λ (m : Numbering). InputComes ps (length num.channels) (length num.timers) (resource_of m (entity_of scope i.name.text)) (option_map (time_of c scope) i.time) (option_map (condition_of c scope) i.condition) (option_map (stamp_of c (behind_target c scope i)) i.stamp)) (sym e)
      (input_goes i.name.text _ _ (standing n fs ps num H J here st scope k i.name.text a r.0) g.0 _ _ _ (time_fact (k + 1) y c scope i.time g2.0) (test_fact k2 y c scope i.condition g3.0) (asks_fact c scope i.time i.condition x) (stamp_fact _ y c (behind_target c scope i) i.stamp g4.1))
