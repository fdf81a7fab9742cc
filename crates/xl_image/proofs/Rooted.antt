-- A checked kernel has a root on some core.
use Rattle.std.proofs.Common.{◌≡◌, ◌∙◌, ◌⊎◌, inl, inr, ⊎_elim, ℕ, zero, suc, ◌-◌, ◌≤◌, Bool, true, false, List, [], ◌∷◌, ◌++◌, length, Option, Some, None, slice_get, refl, sym, ap, subst, arith, eq-eqb}
use Rattle.std.specs.Prelude.{◌&&◌, ◌||◌, bytes_eq, cond, filter, nat_eq, nat_lt}
use Rattle.std.proofs.lemmas.Bool.{eqb-true, ltb-true}
use Rattle.std.proofs.lemmas.Slice.Eq.{bytes_eq-Decides}
use Rattle.xw_words.specs.declared.pos.Pos.{Pos}
use Rattle.xc_tree.specs.Plain as tree
use Rattle.xc_tree.specs.Names.Rules as names
use Rattle.xc_kernel.specs.Plain as kernel
use Rattle.xc_kernel.specs.Scopes.{Scope}
use Rattle.xc_kernel.specs.Programs.{Function, functions, function_by, function_named, main_of, name_of_main}
use Rattle.xc_kernel.specs.Context.{Context}
use Rattle.xc_kernel.specs.Calls.{CopiesCall}
use Rattle.xc_kernel.specs.Roots.{is_placed, has_placed, action_has_placed, block_has_placed, in_block, branch_roots, numbered_roots, action_roots, block_roots, roots_by, roots_of, context_of}
use Rattle.xc_kernel.specs.Copies.{calls_of, numbering, copy_of}
use Rattle.xc_disjoint.specs.Checked.{IsChecked}
use Rattle.xc_wellformed.proofs.RootCores.{IsOnACore, roots_are_on_cores}
use Rattle.xc_wellformed.proofs.Walk.Arguments.{AllIn}
use Rattle.xl_plan.proofs.Lists.{some_given, none_given}
use Rattle.xl_image.specs.Images.{roots_on}
use Rattle.xl_image.specs.Parts.{below, cores_of, has_root, is_some_root}

false_true : {A : Type 0} → false ≡ true → A
false_true e = absurd cc

or_cases : (a b : Bool) → a || b ≡ true → (a ≡ true) ⊎ (b ≡ true)
or_cases true b e = inl refl
or_cases false b e = inr e

and_second : (a b : Bool) → a && b ≡ true → b ≡ true
and_second true b e = e
and_second false b e = false_true e

further : {A : Type 0} (xs ys : List A) → (1 ≤ length xs) ⊎ (1 ≤ length ys) → 1 ≤ length (xs ++ ys)
further [] ys h = ⊎_elim (λ l. absurd (let z : ⊥ = omega (arith, l) in z)) (λ l. l) h
further (x ∷ xs) ys h = omega arith

module _ (copies : CopiesCall) where
  -- There is some root.

  branches_some : (main : Pos) (bs : tree.Branches) (index : ℕ) (c : Context) (scope : Scope) → has_placed bs ≡ true → 1 ≤ length (branch_roots copies main bs index c scope).roots
  branches_some main tree.no_branch index c scope e = false_true e
  branches_some main (tree.more_branches (tree.branch place s) bs) index c scope e = omega arith

  numbered_some : (main : Pos) (b : tree.Branch) (name : List ℕ) (c : Context) (scope : Scope) (count index number : ℕ) → 1 ≤ count → 1 ≤ length (numbered_roots copies main b name c scope count index number).roots
  numbered_some main b name c scope zero index number l = absurd (let z : ⊥ = omega (arith, l) in z)
  numbered_some main (tree.branch place s) name c scope (suc count) index number l = omega arith

  action_some : (main : Pos) (a : tree.Action) (c : Context) (scope : Scope) → action_has_placed a ≡ true → 1 ≤ length (action_roots copies main a c scope).roots
  action_some main (tree.par bs) c scope e = branches_some main bs 0 c scope e
  action_some main (tree.replicated first second third from until b) c scope e =
      let l = ltb-true from until (and_second (is_placed b) (nat_lt from until) e) in
      numbered_some main b first.text c scope (until - from) 0 from (omega (arith, l))
  action_some main tree.empty c scope e = false_true e
  action_some main (tree.block ss) c scope e = false_true e
  action_some main (tree.declare ds) c scope e = false_true e
  action_some main (tree.assign to symbol at r) c scope e = false_true e
  action_some main (tree.step to symbol) c scope e = false_true e
  action_some main (tree.perform r) c scope e = false_true e
  action_some main (tree.output o) c scope e = false_true e
  action_some main (tree.input i) c scope e = false_true e
  action_some main (tree.if_then test a b) c scope e = false_true e
  action_some main (tree.while_loop test body) c scope e = false_true e
  action_some main (tree.do_while body test) c scope e = false_true e
  action_some main (tree.for_loop first test next body) c scope e = false_true e
  action_some main (tree.return_with r) c scope e = false_true e
  action_some main tree.break_out c scope e = false_true e
  action_some main tree.continue_on c scope e = false_true e
  action_some main (tree.select cs) c scope e = false_true e
  action_some main (tree.transaction is_master ss) c scope e = false_true e

  block_some : (main : Pos) (ss : tree.Statements) (c : Context) (scope : Scope) → block_has_placed ss ≡ true → 1 ≤ length (block_roots copies main ss c scope).roots
  block_some main tree.no_more c scope e = false_true e
  block_some main (tree.more (tree.statement action pos close own) ss) c scope e =
      let first = action_roots copies main action c scope in
      further first.roots (block_roots copies main ss c first.made.scope).roots
      (⊎_elim (λ p. inl (action_some main action c scope p)) (λ p. inr (block_some main ss c first.made.scope p)) (or_cases (action_has_placed action) (block_has_placed ss) e))

  by_some : (placed : Bool) (f : Function) (c : Context) → block_has_placed (in_block f.body) ≡ placed → 1 ≤ length (roots_by copies placed f c).roots
  by_some true f c e = block_some f.head.name.pos (in_block f.body) c c.ports e
  by_some false f c e = omega arith

-- Main is there.

no_main_by : (b : Bool) (f : Function) (others : Option Function) → function_by b f others ≡ None → (b ≡ false) × (others ≡ None)
no_main_by true f others e = absurd cc
no_main_by false f others e = (refl, e)

head_given : (h g : tree.Head) (a b : tree.Statement) → tree.function h a ≡ tree.function g b → h ≡ g
head_given h g a b e = cc

no_function : (p : tree.Port) (h : tree.Head) (b : tree.Statement) → tree.port p ≡ tree.function h b → ⊥
no_function p h b e = cc

not_there : (items : List tree.Item) (k : ℕ) → function_named (functions items) name_of_main ≡ None → names.IsMain items k → ⊥
not_there [] k e m = none_given m.there
not_there (tree.function h b ∷ items) zero e m =
    let same = head_given h m.head b m.body (some_given m.there) in
    let is = (bytes_eq-Decides h.name.text name_of_main).1 (ap (λ (g : tree.Head). g.name.text) same ∙ m.spelled) in
    let none = no_main_by (bytes_eq h.name.text name_of_main) (record { head = h; body = b }) (function_named (functions items) name_of_main) e in
    false_true (sym none.0 ∙ is)
not_there (tree.function h b ∷ items) (suc k) e m =
    let none = no_main_by (bytes_eq h.name.text name_of_main) (record { head = h; body = b }) (function_named (functions items) name_of_main) e in
    not_there items k none.1 (record { head = m.head; body = m.body; there = m.there; spelled = m.spelled; without = m.without })
not_there (tree.port p ∷ items) zero e m = no_function p m.head m.body (some_given m.there)
not_there (tree.port p ∷ items) (suc k) e m = not_there items k e (record { head = m.head; body = m.body; there = m.there; spelled = m.spelled; without = m.without })

some_of : (copies : CopiesCall) (f : Option Function) (c : Context) → (f ≡ None → ⊥) → 1 ≤ length (roots_of copies f c).roots
some_of copies None c never = absurd (never refl)
some_of copies (Some f) c never = by_some copies (block_has_placed (in_block f.body)) f c refl

module _ (k : kernel.Kernel) (checked : IsChecked k) where
  some_root : 1 ≤ length (copy_of checked.of_program.program).roots
  unfolding copy_of
  some_root =
      let typed = checked.of_program.sound.typed in
      some_of (calls_of checked.of_program.program) (main_of checked.of_program.program) (context_of checked.of_program.program (numbering checked.of_program.program))
      (λ e. typed.names _ (names.without_main (record { no_main = λ i m. not_there checked.of_program.program i e m; place = refl })))

  low_at : (rs : List kernel.Root) → AllIn IsOnACore rs → (place : ℕ) (r : kernel.Root) → slice_get rs place ≡ Some r → r.core ≤ 3
  low_at [] low place r e = absurd (none_given e)
  low_at (q ∷ rs) low zero r e = subst IsOnACore (some_given e) low.0
  low_at (q ∷ rs) low (suc place) r e = low_at rs low.1 place r e

  pub root_is_low : (place : ℕ) (r : kernel.Root) → slice_get k.roots place ≡ Some r → r.core ≤ 3
  root_is_low place r e = low_at k.roots (roots_are_on_cores k checked) place r e

  -- what a root is on
  first_core : (rs : List kernel.Root) → AllIn IsOnACore rs → 1 ≤ length rs → (core : ℕ) × (core ≤ 3) × (is_some_root (roots_on core rs) ≡ true)
  first_core [] low l = absurd (let z : ⊥ = omega (arith, l) in z)
  first_core (r ∷ rs) low l = (r.core, low.0, ap (λ b. is_some_root (cond b (r ∷ roots_on r.core rs) (roots_on r.core rs))) (eq-eqb r.core r.core refl))

  low_by : (core : ℕ) (r : kernel.Root) (rs : List kernel.Root) → IsOnACore r → (is_some_root (roots_on core rs) ≡ true → core ≤ 3) → (b : Bool) → nat_eq r.core core ≡ b → is_some_root (cond b (r ∷ roots_on core rs) (roots_on core rs)) ≡ true → core ≤ 3
  low_by core r rs low others true same e = let q = eqb-true r.core core same in omega (arith, low, q)
  low_by core r rs low others false same e = others e

  low_core : (core : ℕ) (rs : List kernel.Root) → AllIn IsOnACore rs → is_some_root (roots_on core rs) ≡ true → core ≤ 3
  low_core core [] low e = false_true e
  low_core core (r ∷ rs) low e = low_by core r rs low.0 (low_core core rs low.1) (nat_eq r.core core) refl e

  kept_by : (p : ℕ → Bool) (n c : ℕ) (ns : List ℕ) → (j : ℕ) × (slice_get (filter p ns) j ≡ Some c) → (b : Bool) → (j : ℕ) × (slice_get (cond b (n ∷ filter p ns) (filter p ns)) j ≡ Some c)
  kept_by p n c ns at true = (suc at.0, at.1)
  kept_by p n c ns at false = at

  kept : (p : ℕ → Bool) (ns : List ℕ) (i c : ℕ) → slice_get ns i ≡ Some c → p c ≡ true → (j : ℕ) × (slice_get (filter p ns) j ≡ Some c)
  kept p [] i c at e = absurd (none_given at)
  kept p (n ∷ ns) zero c at e =
      (0, ap (λ b. slice_get (cond b (n ∷ filter p ns) (filter p ns)) 0) (ap p (some_given at) ∙ e) ∙ at)
  kept p (n ∷ ns) (suc i) c at e = kept_by p n c ns (kept p ns i c at e) (p n)

  is_below : (c : ℕ) → c ≤ 3 → slice_get (below 4) c ≡ Some c
  is_below zero l = refl
  is_below (suc zero) l = refl
  is_below (suc (suc zero)) l = refl
  is_below (suc (suc (suc zero))) l = refl
  is_below (suc (suc (suc (suc c)))) l = absurd (let z : ⊥ = omega (arith, l) in z)

  -- a core with a root is among the cores
  pub core_listed : (core : ℕ) → has_root k core ≡ true → (j : ℕ) × (slice_get (cores_of k) j ≡ Some core)
  core_listed core e = kept (has_root k) (below 4) core core (is_below core (low_core core k.roots (roots_are_on_cores k checked) e)) e

  pub core_is_low : (core : ℕ) → has_root k core ≡ true → core ≤ 3
  core_is_low core e = low_core core k.roots (roots_are_on_cores k checked) e

  some_item : (ns : List ℕ) (j c : ℕ) → slice_get ns j ≡ Some c → 1 ≤ length ns
  some_item [] j c e = absurd (none_given e)
  some_item (n ∷ ns) j c e = omega arith

  pub some_core : 1 ≤ length (cores_of k)
  some_core =
      let e = ap (λ (q : kernel.Kernel). q.roots) checked.of_program.copies.is_copy in
      let r = first_core k.roots (roots_are_on_cores k checked) (subst (λ (rs : List kernel.Root). 1 ≤ length rs) (sym e) some_root) in
      let l = core_listed r.0 r.2 in
      some_item (cores_of k) l.0 r.0 l.1
