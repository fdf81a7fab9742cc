-- In the kernel of a program that breaks no rule neither a `par` nor a `select` nor a transaction in a transaction uses its channel.
use Rattle.std.proofs.Common.{◌≡◌, inl, inr, ℕ, ◌+◌, ◌≤◌, Bool, true, false, not, ◌&&◌, List, [], ◌∷◌, ◌++◌, length, map, slice_get, bytes_eq, Option, Some, option_map, is_some, refl, sym, ap, subst, ◌∙◌, arith}
use Rattle.std.specs.Prelude.{Contains}
use Rattle.xw_words.specs.declared.pos.Pos.{Pos}
use Rattle.xw_words.specs.declared.pos.Broken.{Broken}
use Rattle.xc_tree.specs.declared.names.Decl.{Decl}
use Rattle.xc_tree.specs.declared.names.What.{What}
use Rattle.xc_tree.specs.declared.names.Mark.TheVariants.{Closes, Declares}
use Rattle.xc_tree.specs.Plain as tree
use Rattle.xc_tree.specs.Depth as depth
use Rattle.xc_tree.specs.Derives.{deepest}
use Rattle.xc_tree.specs.Checks.{rule, Breaks}
use Rattle.xc_tree.specs.Names.Marks as marks
use Rattle.xc_tree.specs.Types.Named.{NamedProgram, function_of, past}
use Rattle.xc_tree.specs.Types.Entities.{is_channel}
use Rattle.xc_tree.specs.Types.Sites.{Site, sites}
use Rattle.xc_tree.specs.Types.Sites as site
use Rattle.xc_tree.specs.Shapes.Enclosing.{in_transaction, is_main, is_empty}
use Rattle.xc_tree.specs.Shapes.Rules.{rule_506, is_channel_among}
use Rattle.xc_kernel.specs.declared.kernel.Chan.{Chan}
use Rattle.xc_kernel.specs.declared.kernel.PortUse.{PortUse}
use Rattle.xc_kernel.specs.Branches.{branches_of}
use Rattle.xc_kernel.specs.Numbering.{Numbering, channel_number, path_of_channel}
use Rattle.xc_kernel.specs.Paths.{Path}
use Rattle.xc_kernel.specs.Scopes.{Entity, a_port}
use Rattle.xc_kernel.specs.Programs.{Function, functions, ports, function_by, function_named, name_of_main}
use Rattle.xc_kernel.specs.Ports.{port_use, scope_of_ports}
use Rattle.xc_kernel.specs.Roots as roots
use Rattle.xc_kernel.specs.Copies.{calls_of, rooted, numbering, copy_of}
use Rattle.xc_kernel.specs.Sound.{IsTyped}
use Rattle.xc_kernel.proofs.Roots.{numbering_is_own}
use Rattle.xc_meaning.proofs.Basics.{some_given, none_given}
use Rattle.xc_wellformed.specs.Once.{NoneAt, PathsDiffer}
use Rattle.xc_wellformed.specs.Stacks.{Frame, Stack, after, Resolves, outer}
use Rattle.xc_wellformed.specs.Denotes.{AnyPath, head_of, Denotes, a_variable, whole_array, word_referred, element_referred, array_referred, the_channel, the_end, the_timer, the_port, port_given, the_index, the_function, none_there}
use Rattle.xc_wellformed.specs.Numbers.{IsListed as IsVariableListed}
use Rattle.xc_wellformed.specs.Transfers.{GoesOut, ComesIn}
use Rattle.xc_meaning.proofs.Recursion.Scopes as scopes
use Rattle.xc_wellformed.proofs.Places.{In}
use Rattle.xc_wellformed.proofs.Stacks.{resolves_both, scope_ends, quiet_skip, quiet_optional, quiet_place}
use Rattle.xc_wellformed.proofs.Resolved.{AllNew, names_resolve, outer_differ}
use Rattle.xc_wellformed.proofs.Outside.{Alike, further, bottom, alike_resolves, Among, declared_again, decl_of_item, outer_item}
use Rattle.xc_wellformed.proofs.FineSites.{all_by_place, fine_sites, where_not}
use Rattle.xc_wellformed.proofs.Grammar.{AllOf, program_shaped}
use Rattle.xc_wellformed.proofs.Shallow.{IsGrown, all_grown}
use Rattle.xc_wellformed.proofs.Instances.{each_listed}
use Rattle.xc_wellformed.proofs.Twice.{program_differs}
use Rattle.xc_wellformed.proofs.Rising.{functions_differ, of_text}
use Rattle.xc_wellformed.proofs.Right.{Lower, IsRight as IsRightExpression, IsRightPlace, IsOne, right_leaves}
use Rattle.xc_wellformed.proofs.Formed.{of_programs}
use Rattle.xc_wellformed.proofs.Program as program
use Rattle.xc_wellformed.proofs.Walk.Arguments.{AllIn, split, IsFine}
use Rattle.xc_invariants.specs.Tidy.{TransactionsAreTidy, SpeaksAlone}
use Rattle.xc_invariants.specs.Lawful.{CheckedSpeakAlone, CheckedTidy, CheckedTidyHolds}
use Rattle.xc_invariants.proofs.Always.{tidy_along}
use Rattle.xc_invariants.proofs.Checked.{checked_obey}
use Rattle.xc_invariants.proofs.Tidy.{never, tidy_by}
use Rattle.xc_invariants.proofs.Speaking.{is_chan, made, Once, Scoped, scoped_with, no_channel, Agrees, Room}
use Rattle.xc_invariants.proofs.Handed.{IsQuiet, IsFineHere, Sits}
use Rattle.xc_invariants.proofs.Spoken.{IsRight}
use Rattle.xc_invariants.proofs.SpokenRoots.{IsMain, roots_part}
use Rattle.std.proofs.lemmas.Option.{get_or_from_slice_get, slice_get_within}
use Rattle.xc_invariants.specs.Every.{EveryBranches}
use Rattle.xc_invariants.specs.Rules.{AnyPar, AnyThing}

-- Sites.

both_of : {A : Type 0} (P Q : A → Type 0) (xs : List A) → AllIn P xs → AllIn Q xs → AllIn (λ x. P x × Q x) xs
both_of P Q [] h g = tt
both_of P Q (x ∷ xs) h g = ((h.0, g.0), both_of P Q xs h.1 g.1)

module _ (named : NamedProgram) (unbroken : (b : Broken) → Breaks named b → ⊥) where
  never_506 : (s : Site) (p : Pos) → Contains (sites named) s → Contains (rule_506 s) p → ⊥
  never_506 s p h g = unbroken (record { rule = 506; pos = p }) (record { rule = rule 506 rule_506; among = (21, omega arith, refl); numbered = refl; site = s; there = h; broken = g })

  quiet_site : (s : Site) → Contains (sites named) s → IsQuiet s
  quiet_site (site.call around x meant given r) h = where_not (in_transaction around.holders && is_channel_among given) x.id.pos (never_506 (site.call around x meant given r) x.id.pos h)
  quiet_site other h = tt

  quiet_sites : AllIn IsQuiet (sites named)
  quiet_sites = all_by_place IsQuiet (sites named) (λ i s e. quiet_site s (i, slice_get_within (sites named) i s e, get_or_from_slice_get (sites named) i s s e))

  pub sites_are_fine : AllIn IsFineHere (sites named)
  sites_are_fine = both_of IsFine IsQuiet (sites named) (fine_sites named unbroken) quiet_sites

-- Functions.

abbrev AllAmong : Frame → List Decl → Type 0
AllAmong gs ds = AllIn (λ d. Among d gs) ds

abbrev Grown : List Function → Type 0
Grown xs = AllOf IsGrown xs

module _ (n : NamedProgram) where
  functions_right : (items : List tree.Item) (i k : ℕ) (a gs : Frame) → AllNew gs → Alike (a ∷ []) (gs ∷ []) → AllAmong gs (outer 0 (marks.of_items i items)) → Resolves n k (a ∷ []) (marks.of_items i items) → AllIn IsFineHere (site.of_items n i k items) → Grown (functions items) →
      AllIn (λ f. IsRight n gs f × IsFine (site.function f.head f.body)) (functions items)
  functions_right [] i k a gs new alike among r g x = tt
  functions_right (tree.port p ∷ items) i k a gs new alike among r g x =
      let ms = marks.of_item i (tree.port p) in
      let rest = marks.of_items (i + 1) items in
      let d = decl_of_item i (tree.port p) in
      let am = subst (AllAmong gs) (outer_item i (tree.port p) rest) among in
      let r1 = resolves_both n k (a ∷ []) ms rest r in
      let q = quiet_skip (a ∷ []) (marks.optional marks.of_place p.place) (Declares d ∷ []) (quiet_optional marks.of_place quiet_place p.place) in
      let g1 = split IsFineHere (site.of_item n k (tree.port p)) _ g in
      functions_right items (i + 1) (past k ms) (d ∷ a) gs new (declared_again gs a d new am.0 alike) am.1 (subst (λ (z : Stack). Resolves n (past k ms) z rest) q r1.1) g1.1 x
  functions_right (tree.function h b ∷ items) i k a gs new alike among r g x =
      let ms = marks.of_item i (tree.function h b) in
      let rest = marks.of_items (i + 1) items in
      let d = decl_of_item i (tree.function h b) in
      let am = subst (AllAmong gs) (outer_item i (tree.function h b) rest) among in
      let r1 = resolves_both n k (a ∷ []) ms rest r in
      let mp = marks.each marks.of_param h.params in
      let inner = mp ++ marks.of_body b in
      let su = (d ∷ a) ∷ [] in
      let alike1 = declared_again gs a d new am.0 alike in
      let q : after su (marks.in_scope inner) ≡ su = scope_ends su inner (scopes.both _ _ (scopes.all marks.of_param scopes.of_param h.params) (scopes.of_body b)) in
      let r2 = (resolves_both n (k + 1) ([] ∷ su) inner (Closes ∷ []) r1.0.1).0 in
      let r3 = alike_resolves n inner (k + 1) ([] ∷ su) ([] ∷ gs ∷ []) (further alike1) r2 in
      let r4 = resolves_both n (k + 1) ([] ∷ gs ∷ []) mp (marks.of_body b) r3 in
      let g1 = split IsFineHere (site.of_item n k (tree.function h b)) _ g in
      let g2 = split IsFineHere (site.each site.of_parameter h.params) _ g1.0.1 in (
        (record { params_at = k + 1; params_new = r4.0; body_at = past (k + 1) mp; resolves = r4.1; fine = g2.1; shape = x.0.shape }, g1.0.0.0),
        functions_right items (i + 1) (past k ms) (d ∷ a) gs new alike1 am.1 (subst (λ (z : Stack). Resolves n (past k ms) z rest) q r1.1) g1.1 x.1,
      )

  -- the one that is found by a name
  right_named : (P : Function → Type 0) (xs : List Function) → AllIn P xs → (t : List ℕ) (f : Function) → function_named xs t ≡ Some f → P f
  right_named P [] h t f e = none_given e
  right_named P (x ∷ xs) h t f e = by (bytes_eq x.head.name.text t) e (right_named P xs h.1 t f)
    where
      by : (b : Bool) → function_by b x (function_named xs t) ≡ Some f → (function_named xs t ≡ Some f → P f) → P f
      by true q k = subst P (some_given q) h.0
      by false q k = k q

-- Channels.

once_of : (q : Numbering) (xs : List Chan) → PathsDiffer path_of_channel xs → AllIn (λ x. slice_get q.channels (channel_number q x.path) ≡ Some x) xs → Once (made q xs)
once_of q [] d h = tt
once_of q (x ∷ xs) d h = (λ i. clash xs d.0 h.1 i, once_of q xs d.1 h.1)
  where
    clash : (ys : List Chan) → NoneAt path_of_channel x.path ys → AllIn (λ y. slice_get q.channels (channel_number q y.path) ≡ Some y) ys → In (channel_number q x.path) (made q ys) → ⊥
    clash [] none g i = i
    clash (y ∷ ys) none g (inl e) = none.0 (ap path_of_channel (some_given (sym g.0 ∙ (ap (slice_get q.channels) e ∙ h.0))))
    clash (y ∷ ys) none g (inr i) = clash ys none.1 g.1 i

-- ports are no channels
ports_free : (q : Numbering) (m : ℕ) (ps : List tree.Port) → Scoped q [] (scope_of_ports m ps)
ports_free q m [] = λ t p e. never (ap is_chan e) refl
ports_free q m (p ∷ ps) = scoped_with q [] (scope_of_ports (m + 1) ps) p.name.text (a_port m) (no_channel q [] (a_port m) refl) (ports_free q (m + 1) ps)

stands_agrees : (n : NamedProgram) (fs : List Function) (ps : List PortUse) (num : Numbering) (H J : Path → Type 0) (t : List ℕ) (w : Option What) (x : Entity) → Denotes n fs ps num H J t w x →
    (is_chan x ≡ is_channel w) × (is_some (function_of n w) ≡ true → function_of n w ≡ option_map head_of (function_named fs t))
stands_agrees n fs ps num H J t _ _ (the_function h) = (refl, λ e. h)
stands_agrees n fs ps num H J t _ _ (a_variable h) = (refl, λ e. never e refl)
stands_agrees n fs ps num H J t _ _ (whole_array h) = (refl, λ e. never e refl)
stands_agrees n fs ps num H J t _ _ (word_referred h) = (refl, λ e. never e refl)
stands_agrees n fs ps num H J t _ _ (element_referred h g) = (refl, λ e. never e refl)
stands_agrees n fs ps num H J t _ _ (array_referred told h) = (refl, λ e. never e refl)
stands_agrees n fs ps num H J t _ _ (the_channel h) = (refl, λ e. never e refl)
stands_agrees n fs ps num H J t _ _ (the_end h) = (refl, λ e. never e refl)
stands_agrees n fs ps num H J t _ _ (the_timer h) = (refl, λ e. never e refl)
stands_agrees n fs ps num H J t _ _ (the_port h) = (refl, λ e. never e refl)
stands_agrees n fs ps num H J t _ _ (port_given h) = (refl, λ e. never e refl)
stands_agrees n fs ps num H J t _ _ the_index = (refl, λ e. never e refl)
stands_agrees n fs ps num H J t _ _ none_there = (refl, λ e. never e refl)

-- Main.

named_so : (xs : List Function) (t : List ℕ) (f : Function) → function_named xs t ≡ Some f → bytes_eq f.head.name.text t ≡ true
named_so [] t f e = none_given e
named_so (x ∷ xs) t f e = by (bytes_eq x.head.name.text t) refl e (named_so xs t f)
  where
    by : (b : Bool) → bytes_eq x.head.name.text t ≡ b → function_by b x (function_named xs t) ≡ Some f → (function_named xs t ≡ Some f → bytes_eq f.head.name.text t ≡ true) → bytes_eq f.head.name.text t ≡ true
    by true q g k = ap (λ (y : Function). bytes_eq y.head.name.text t) (sym (some_given g)) ∙ q
    by false q g k = k g

form_of : (a b c : Bool) → (a && (b && not c)) ≡ false → a ≡ true → b ≡ true → c ≡ true
form_of true true true e f g = refl
form_of true true false e f g = never refl e
form_of true false c e f g = never g refl
form_of false b c e f g = never f refl

in_main : (f : Function) → f.head.params ≡ [] → bytes_eq f.head.name.text name_of_main ≡ true → is_main f.head ≡ true
in_main f e q = ap (λ (b : Bool). b && is_empty f.head.params) q ∙ ap is_empty e

all_among : (xs ys : List Decl) → ((d : Decl) → Among d xs → Among d ys) → AllIn (λ d. Among d ys) xs
all_among [] ys h = tt
all_among (x ∷ xs) ys h = (h x (inl refl), all_among xs ys (λ d a. h d (inr a)))

module _ (P : List tree.Item) (n : NamedProgram) (types : List Bool) (typed : IsTyped P n types) (low : depth.of_program P ≤ deepest) where
  abbrev num : Numbering
  num = numbering P

  abbrev fs : List Function
  fs = functions P

  abbrev ps : List PortUse
  ps = map port_use (ports P)

  abbrev gs : Frame
  gs = outer 0 (marks.of_items 0 P)

  fine : AllIn IsFineHere (site.of_items n 0 0 P)
  unfolding sites
  fine = subst (λ (items : List tree.Item). AllIn IsFineHere (site.of_items n 0 0 items)) typed.is_named.program_is (sites_are_fine n typed.types_and_shapes)

  grown : AllOf IsGrown fs
  grown = all_grown P (program_shaped typed.text.read.toks _ 0 (length typed.text.read.toks) P typed.text.read.derived) low

  all_right : AllIn (λ f. IsRight n gs f × IsFine (site.function f.head f.body)) fs
  all_right = functions_right n P 0 0 gs gs (outer_differ P n types typed) (bottom (λ t. refl)) (all_among gs gs (λ d a. a)) (names_resolve P n types typed) fine grown

  rights : (t : List ℕ) (f : Function) → function_named fs t ≡ Some f → IsRight n gs f × IsFine (site.function f.head f.body)
  rights t f e = right_named n (λ g. IsRight n gs g × IsFine (site.function g.head g.body)) fs all_right t f e

  ports_agree : Agrees n fs (gs ∷ []) (scope_of_ports 0 (ports P))
  unfolding copy_of
  ports_agree t = stands_agrees n fs ps num AnyPath AnyPath t _ _
      (program.ports_are P n (λ k. AnyPath) (λ k. AnyPath) (λ k. IsRightExpression num) (λ k. Lower num) (λ k. IsRightPlace num) (λ k. IsVariableListed num.variables) (λ k. GoesOut (copy_of P)) (λ k. ComesIn (copy_of P)) (λ k. IsOne num) (right_leaves n fs ps num (λ k. AnyPath) (λ k. AnyPath)) types typed 0 t).0

  once : Once (made num (rooted P num).made.channels)
  once =
      let d = program_differs P num (functions_differ P (of_text P typed.text)) in
      once_of num (rooted P num).made.channels d.channels
      (subst (λ (q : Numbering). AllIn (λ x. slice_get q.channels (channel_number q x.path) ≡ Some x) (rooted P num).made.channels) (numbering_is_own P num) (each_listed path_of_channel (rooted P num).made.channels d.channels))

  pub roots_tidy : TransactionsAreTidy (copy_of P)
  unfolding copy_of
  roots_tidy =
      let m = program.has_main P n (λ k. AnyPath) (λ k. AnyPath) (λ k. IsRightExpression num) (λ k. Lower num) (λ k. IsRightPlace num) (λ k. IsVariableListed num.variables) (λ k. GoesOut (copy_of P)) (λ k. ComesIn (copy_of P)) (λ k. IsOne num) (right_leaves n fs ps num (λ k. AnyPath) (λ k. AnyPath)) types typed in
      let r = rights name_of_main m.main m.main_is in
      let main : IsMain n fs gs (λ t f e. (rights t f e).0) (length fs) m.main = record { right = r.0; alone = m.alone; form = λ e. form_of _ _ _ r.1 (in_main m.main m.alone (named_so fs name_of_main m.main m.main_is)) e } in
      let c = roots.context_of P num in
      let free = ports_free num 0 (ports P) in
      let s : Sits n fs gs [] c c.ports (gs ∷ []) = record { functions_are = refl; ports_agree = ports_agree; ports_free = free; agrees = ports_agree; scoped = free } in
      let room = subst (λ (o : Option Function). Room num [] (roots.roots_of (calls_of P) o c).made.channels) m.main_is (record { once = once; apart = λ d i j. i }) in
      record { tidy = subst (λ (o : Option Function). EveryBranches AnyThing AnyPar SpeaksAlone (branches_of (roots.roots_of (calls_of P) o c).roots)) (sym m.main_is) (roots_part n fs gs (λ t f e. (rights t f e).0) (length fs) m.main c main s room) }

-- so is each kernel that is checked
pub checked_speak_alone : CheckedSpeakAlone
checked_speak_alone K h = let o = h.of_program in subst TransactionsAreTidy (sym o.copies.is_copy) (roots_tidy o.program o.sound.named o.sound.types o.sound.typed o.shallow)

pub checked_tidy : CheckedTidy
checked_tidy K h = tidy_by K (of_programs K h.of_program).exits (checked_speak_alone K h)

pub checked_tidy_holds : CheckedTidyHolds
checked_tidy_holds K s ms x h e = tidy_along K s ms x (checked_obey K h) (checked_tidy K h) e
