-- What a root uses is on its core.
use Rattle.std.proofs.Common.{◌≡◌, ◌≤◌, inl, inr, ℕ, suc, ◌+◌, Bool, true, false, List, [], ◌∷◌, map, Contains, Option, Some, slice_get, refl, ap, subst, ◌∙◌, arith}
use Rattle.xc_tree.specs.Plain as tree
use Rattle.xc_tree.specs.Depth as depth
use Rattle.xc_tree.specs.Derives.{deepest}
use Rattle.xc_tree.specs.declared.names.What.{What}
use Rattle.xc_tree.specs.Types.Named.{NamedProgram}
use Rattle.xc_kernel.specs.declared.kernel.PortUse.{PortUse}
use Rattle.xc_kernel.specs.Plain as kernel
use Rattle.xc_kernel.specs.Paths.{Path}
use Rattle.xc_kernel.specs.Numbering.{Numbering, variable_number, timer_number}
use Rattle.xc_kernel.specs.Scopes.{Entity, entity_of}
use Rattle.xc_kernel.specs.Expressions.{resource_of}
use Rattle.xc_kernel.specs.Programs.{Function, functions, ports}
use Rattle.xc_kernel.specs.Ports.{port_use}
use Rattle.xc_kernel.specs.Copies.{rooted, numbering, copy_of}
use Rattle.xc_kernel.specs.Sound.{IsTyped}
use Rattle.xc_wellformed.specs.Each.{AnyNumber}
use Rattle.xc_wellformed.specs.Numbers.{NumbersInExpression, NumbersInPlace}
use Rattle.xc_wellformed.specs.Cores.{VariableOn, TimerOn, ResourceOn, OutputOn, InputOn, CoresAreRight}
use Rattle.xc_wellformed.specs.Rising.{IsRising}
use Rattle.xc_wellformed.specs.Denotes.{HasVariable, Denotes, a_variable, whole_array, word_referred, element_referred, array_referred, the_channel, the_end, the_timer, the_port, port_given, the_index, the_function, none_there}
use Rattle.xc_wellformed.proofs.Shaped.{Assigns}
use Rattle.xc_wellformed.proofs.Right.{IsShallow, IsShallowLval}
use Rattle.xc_wellformed.proofs.Numbers.{expression_well, lval_well, lval_read}
use Rattle.xc_wellformed.proofs.Walk.Arguments.{AllIn, Leaves}
use Rattle.xc_wellformed.proofs.Program.{roots_right}

module _ (n : NamedProgram) (fs : List Function) (ps : List PortUse) (num : Numbering) (rs : List kernel.Root) where
  abbrev pub PathOn : ℕ → Path → Type 0
  PathOn core path = VariableOn num.variables rs core (variable_number num path)

  abbrev pub TimerPathOn : ℕ → Path → Type 0
  TimerPathOn core path = TimerOn num.timers core (timer_number num path)

  module _ (here : ℕ) where
    abbrev On : ℕ → Bool → Type 0
    On v is_array = VariableOn num.variables rs here v

    on : (path : Path) (b : Bool) (words : ℕ) → (b ≡ false → words ≡ 1) → HasVariable num (PathOn here) path b words → On (variable_number num path) b
    on path b words one h = h.holds

    resource_on : (t : List ℕ) (w : Option What) (x : Entity) → Denotes n fs ps num (PathOn here) (TimerPathOn here) t w x → ResourceOn num.timers here (resource_of num x)
    resource_on t _ _ (the_timer h) = h.1
    resource_on t _ _ (a_variable h) = tt
    resource_on t _ _ (whole_array h) = tt
    resource_on t _ _ (word_referred h) = tt
    resource_on t _ _ (element_referred h g) = tt
    resource_on t _ _ (array_referred told h) = tt
    resource_on t _ _ (the_channel h) = tt
    resource_on t _ _ (the_end h) = tt
    resource_on t _ _ (the_port h) = tt
    resource_on t _ _ (port_given h) = tt
    resource_on t _ _ the_index = tt
    resource_on t _ _ (the_function h) = tt
    resource_on t _ _ none_there = tt

    pub core_leaves : Leaves n fs ps num PathOn TimerPathOn here IsShallow IsShallowLval Assigns (NumbersInExpression On) (NumbersInExpression On) (NumbersInPlace On) (VariableOn num.variables rs here) (OutputOn num.timers here) (InputOn num.timers here) AnyNumber
    core_leaves = record {
      weaker = λ e h. h;
      ex = λ e k st scope a r g x. expression_well n fs ps num PathOn TimerPathOn here On on st scope a e k r g;
      lval = λ e k st scope a r g x. lval_well n fs ps num PathOn TimerPathOn here On on st scope a e k r g x.0;
      updating = λ e k st scope a r g x symbol y pos value j rv gv xv. (lval_read n fs ps num PathOn TimerPathOn here On on st scope a e k r g x.0, (expression_well n fs ps num PathOn TimerPathOn here On on st scope a value j rv gv, tt));
      stepping = λ e k st scope a r g x symbol y pos. (lval_read n fs ps num PathOn TimerPathOn here On on st scope a e k r g x.0, (tt, tt));
      testing = λ v h path l array pos. (h, (tt, tt));
      one = tt;
      word = λ path h. h.holds;
      read_word = λ path h. h.holds;
      zero_in = λ path b words h. h.holds;
      going_out = λ c scope o k st e a r g. subst (λ (m : Numbering). ResourceOn num.timers here (resource_of m (entity_of scope o.name.text))) (Rattle.std.proofs.Common.sym e) (resource_on o.name.text _ _ (a o.name.text).0);
      coming_in = λ c scope i k st e a r g x. subst (λ (m : Numbering). ResourceOn num.timers here (resource_of m (entity_of scope i.name.text))) (Rattle.std.proofs.Common.sym e) (resource_on i.name.text _ _ (a i.name.text).0);
      transacting = λ path h. tt;
      index_in = λ t i pos x. (x.0, index_low t i pos x.1);
    }
      where
        index_low : (t : List ℕ) (i : tree.Expression) (pos : Rattle.xw_words.specs.declared.pos.Pos.Pos) → depth.of_expression (tree.expression (tree.index t i) pos) ≤ deepest → depth.of_expression i ≤ deepest
        index_low t i pos d = omega arith

pub each_contained : (rs all : List kernel.Root) → ((r : kernel.Root) → Contains rs r → Contains all r) → AllIn (Contains all) rs
each_contained [] all f = tt
each_contained (r ∷ rs) all f = (f r (0, omega arith, refl), each_contained rs all (λ x h. f x (let l = h.1 in (suc h.0, omega arith, h.2))))

-- in the kernel of a typed program
pub cores_right : (P : List tree.Item) (n : NamedProgram) (types : List Bool) → IsTyped P n types → IsRising P → depth.of_program P ≤ deepest → CoresAreRight (copy_of P)
unfolding copy_of
cores_right P n types typed rising low =
    let num = numbering P in
    let rs = (rooted P num).roots in
    let fs = functions P in
    let ps = map port_use (ports P) in
    roots_right P n (PathOn n fs ps num rs) (TimerPathOn n fs ps num rs)
    (λ core. NumbersInExpression (λ v is_array. VariableOn num.variables rs core v)) (λ core. NumbersInExpression (λ v is_array. VariableOn num.variables rs core v)) (λ core. NumbersInPlace (λ v is_array. VariableOn num.variables rs core v))
    (VariableOn num.variables rs) (OutputOn num.timers) (InputOn num.timers) (λ core. AnyNumber) (core_leaves n fs ps num rs) types typed rising low
    (λ v e. record { variable = v; there = e; place = inl refl }) (λ t e. record { timer = t; there = e; place = refl })
    (Contains rs) (each_contained rs rs (λ r h. h))
    (λ r a path h e here. record { variable = h.variable; there = h.there; place = Rattle.std.proofs.Common.⊎_elim (λ q. inr (record { root = r; among = a; there = Rattle.std.proofs.Common.sym q; changes = e })) (λ q. inr q) h.place })
