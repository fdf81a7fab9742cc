-- How what was found grows by the parts of a communication.
use Rattle.std.proofs.Common.{◌≡◌, ℕ, ◌+◌, arith, slice_get, Bool, not, List, [], ◌∷◌, ◌++◌, Option, Some, None, refl, sym, ◌∙◌, append_assoc}
use Rattle.xc_tree.specs.declared.names.Mark.{Mark}
use Rattle.xw_words.specs.declared.pos.Pos.{Pos}
use Rattle.xc_tree.specs.declared.tree.Id.{Id}
use Rattle.xc_tree.specs.declared.names.Mark.TheVariants.{Uses}
use Rattle.xc_tree.specs.declared.names.What.{What}
use Rattle.xc_tree.specs.Names.Marks as marks
use Rattle.xc_tree.specs.Plain as plain
use Rattle.xc_tree.specs.Shapes.Rules.{declared_as_channel, channels}
use Rattle.xc_tree.specs.Types.Entities.{is_channel, is_port, takes_output, gives_input}
use Rattle.xc_tree.specs.Types.Named.{NamedProgram, Name, name_at, past, what_at}
use Rattle.xc_tree.specs.Types.Sites.{Site, of_time, of_stamp, of_condition, optional, communications}
use Rattle.xc_tree.specs.Types.Sites as site
use Rattle.xc_types.specs.declared.checker.Checker.{Checker}
use Rattle.xc_types.specs.Communications.{with_time, with_stamp, with_condition, past_input, with_target_and_stamp, can_ask}
use Rattle.xc_types.specs.Checker.{saw, all_broken, one_more_name, with_broken, with_channel}
use Rattle.xc_types.proofs.Joins.{one, saw_join, saw_names, saw_nothing}
use Rattle.xc_types.proofs.Steps.{steps, first_here, saw_use, names_broken}

pub saw_output : (s : Checker) (x : Name) (ms : List Mark) (ss : List Site) → saw s ms (site.output x ∷ ss) ≡ saw (with_channel (is_channel x.what) x.declared (with_broken (not (takes_output x.what)) 410 x.id.pos s)) ms ss
unfolding saw with_broken with_channel
saw_output s x ms ss =
    one s _ _ _ _ _ _ _ _ refl refl (first_here s.best (not (takes_output x.what)) 410 x.id.pos [] (all_broken ss)) (sym (append_assoc s.channels (declared_as_channel (is_channel x.what) x.declared) (channels (communications ss))))

pub saw_input : (s : Checker) (x : Name) (ms : List Mark) (ss : List Site) → saw s ms (site.input x ∷ ss) ≡ saw (with_channel (is_channel x.what) x.declared (with_broken (not (gives_input x.what)) 411 x.id.pos s)) ms ss
unfolding saw with_broken with_channel
saw_input s x ms ss =
    one s _ _ _ _ _ _ _ _ refl refl (first_here s.best (not (gives_input x.what)) 411 x.id.pos [] (all_broken ss)) (sym (append_assoc s.channels (declared_as_channel (is_channel x.what) x.declared) (channels (communications ss))))

pub names_channel : (b : Bool) (d : Option ℕ) (s : Checker) → (with_channel b d s).names ≡ s.names
unfolding with_channel
names_channel b d s = refl

time_here : (n : NamedProgram) (s : Checker) (x : Name) (t : plain.Timing) → saw s (marks.of_timing t) (of_time n s.names x t) ≡ with_time n (is_port x.what) (Some t) s
unfolding saw with_broken
time_here n s x t = one s _ _ _ _ _ _ _ _ refl refl (first_here s.best (not (is_port x.what)) 413 t.at [] (all_broken (site.of_expression n s.names t.value))) refl

pub saw_time : (n : NamedProgram) (s : Checker) (k : ℕ) (x : Name) (t : Option plain.Timing) → k ≡ s.names → saw s (marks.optional marks.of_timing t) (optional (of_time n k x) t) ≡ with_time n (is_port x.what) t s
saw_time n s k x None e = saw_nothing s
saw_time n s k x (Some t) e = rw e (time_here n s x t)

stamp_here : (n : NamedProgram) (s : Checker) (x : Name) (t : plain.Timing) → saw s (marks.of_timing t) (of_stamp n s.names x t) ≡ with_stamp n (is_port x.what) (Some t) s
unfolding saw with_broken
stamp_here n s x t = one s _ _ _ _ _ _ _ _ refl refl (first_here s.best (not (is_port x.what)) 413 t.at [] (all_broken (site.of_lval n s.names t.value))) refl

pub saw_stamp : (n : NamedProgram) (s : Checker) (k : ℕ) (x : Name) (t : Option plain.Timing) → k ≡ s.names → saw s (marks.optional marks.of_timing t) (optional (of_stamp n k x) t) ≡ with_stamp n (is_port x.what) t s
saw_stamp n s k x None e = saw_nothing s
saw_stamp n s k x (Some t) e = rw e (stamp_here n s x t)

condition_here : (n : NamedProgram) (s : Checker) (x : Name) (t : plain.Condition) → saw s (marks.of_condition t) (of_condition n s.names x t) ≡ with_condition n x.what (Some t) s
unfolding saw with_broken
condition_here n s x t = one s _ _ _ _ _ _ _ _ refl refl (first_here s.best (not (can_ask x.what t.test)) 414 t.at [] (all_broken (site.of_expression n s.names t.value))) refl

pub saw_condition : (n : NamedProgram) (s : Checker) (k : ℕ) (x : Name) (t : Option plain.Condition) → k ≡ s.names → saw s (marks.optional marks.of_condition t) (optional (of_condition n k x) t) ≡ with_condition n x.what t s
saw_condition n s k x None e = saw_nothing s
saw_condition n s k x (Some t) e = rw e (condition_here n s x t)

pub names_time : (n : NamedProgram) (b : Bool) (t : Option plain.Timing) (s : Checker) → (with_time n b t s).names ≡ past s.names (marks.optional marks.of_timing t)
unfolding saw with_broken
names_time n b None s = refl
names_time n b (Some t) s = refl

pub names_condition : (n : NamedProgram) (w : Option What) (t : Option plain.Condition) (s : Checker) → (with_condition n w t s).names ≡ past s.names (marks.optional marks.of_condition t)
unfolding saw with_broken
names_condition n w None s = refl
names_condition n w (Some t) s = refl

pub saw_target_and_stamp : (n : NamedProgram) (s : Checker) (k : ℕ) (x : Name) (i : plain.Input) → k ≡ s.names →
    saw s (marks.of_target i.target ++ marks.optional marks.of_timing i.stamp) (site.of_target_and_stamp n k x i) ≡ with_target_and_stamp n (is_port x.what) i s
saw_target_and_stamp n s k x i e = rw e (saw_join s _ _ _ _ ∙ saw_stamp n _ _ x i.stamp (sym (saw_names s (marks.of_target i.target) _)))

pub saw_input_name : (n : NamedProgram) (s : Checker) (k : ℕ) (i : Id) (ms : List Mark) (ss : List Site) → k ≡ s.names → saw s (Uses i ∷ ms) (site.input (name_at n k i) ∷ ss) ≡ saw (past_input n i.pos s) ms ss
saw_input_name n s k i ms ss e = rw e (saw_input s (name_at n s.names i) (Uses i ∷ ms) ss ∙ saw_use _ i ms ss)

pub names_input : (n : NamedProgram) (p : Pos) (s : Checker) → (past_input n p s).names ≡ s.names + 1
unfolding with_broken with_channel one_more_name
names_input n p s = refl

pub ruleset talks = (saw_input_name, names_input, saw_target_and_stamp, steps, saw_output, saw_input, names_channel, saw_time, saw_stamp, saw_condition, names_time, names_condition)

pub ruleset same_names = (names_broken, names_channel)

-- behind a whole input, by what is found behind its parts
pub whole_input : (n : NamedProgram) (s : Checker) (i : plain.Input) (w : Option What) (b : Bool) (s1 s2 s3 : Checker) → w ≡ what_at n (slice_get n.uses s.names) → b ≡ is_port w
    → s1 ≡ past_input n i.name.pos s → s2 ≡ with_time n b i.time s1 → s3 ≡ with_condition n w i.condition s2
    → with_target_and_stamp n b i s3 ≡ saw s (marks.of_input i) (site.of_input n s.names i)
whole_input n s i w b s1 s2 s3 e f g h j = grind (arith, talks)
