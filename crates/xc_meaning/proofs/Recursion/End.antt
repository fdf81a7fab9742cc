-- In a program that breaks no rule of names, types and shapes no chain of calls is longer than there are functions.
use Rattle.std.proofs.Common.{◌≡◌, ℕ, zero, suc, ◌≤◌, inl, inr, Bool, true, false, List, [], ◌∷◌, length, take, slice_get, is_some, Option, None, Some, refl, sym, ap, subst, ◌∙◌, arith}
use Rattle.std.proofs.lemmas.Option.{slice_get_within}
use Rattle.std.proofs.lemmas.Slice.Eq.{bytes_eq-Decides}
use Rattle.xw_words.specs.declared.pos.Pos.{Pos}
use Rattle.xw_words.specs.declared.pos.Broken.{Broken}
use Rattle.xc_tree.specs.declared.tree.Id.{Id}
use Rattle.xc_tree.specs.declared.names.Decl.{Decl}
use Rattle.xc_tree.specs.declared.names.What.{What}
use Rattle.xc_tree.specs.declared.names.What.TheVariants as what
use Rattle.xc_tree.specs.declared.names.Mark.{Mark}
use Rattle.xc_tree.specs.Plain as plain
use Rattle.xc_tree.specs.Names.Marks as marks
use Rattle.xc_tree.specs.Names.Uses.{AreUses, declarations, number_of}
use Rattle.xc_tree.specs.Names.Calls.{CallsAt, Reaches, directly, through}
use Rattle.xc_tree.specs.Names.Rules as names
use Rattle.xc_tree.specs.Types.Named.{NamedProgram, what_at, what_of, function_of, past}
use Rattle.xc_tree.specs.Checks as checks
use Rattle.xc_kernel.specs.Programs.{Function, functions, function_named}
use Rattle.xc_kernel.specs.Sound.{IsTyped}
use Rattle.xc_meaning.specs.Texts.Called.{EachCall, EachInFunction, GoesWithin, CallsEnd}
use Rattle.xc_meaning.proofs.Recursion.Scopes.{is_function}
use Rattle.xc_meaning.proofs.Recursion.Items.{declared_at, callee_is, named}
use Rattle.xc_meaning.proofs.Recursion.Uses.{numbered, Entry, EntriesStand, entries_stand}
use Rattle.xc_meaning.proofs.Recursion.Places.{Member, without, places, as_many, has_place, function_place}
use Rattle.xc_meaning.proofs.Recursion.Calls.{IsCall, each_call, function_is, calls_function}

-- a program that breaks no rule of names, types and shapes, with what its names mean
record IsRight (n : NamedProgram) : Type 0 where
  pub entries : EntriesStand (marks.of_items 0 n.program) (length (marks.of_items 0 n.program)) n.uses
  pub decls : n.decls ≡ declarations (marks.of_items 0 n.program)
  pub once : (p : Pos) → names.Breaks302 (marks.of_items 0 n.program) p → ⊥
  pub no_cycle : (p : Pos) → names.Breaks304 n.program p → ⊥
  pub types_and_shapes : (b : Broken) → checks.Breaks n b → ⊥

-- a call in an item of a function that is there is an edge of the graph of calls
record Edge (P : List plain.Item) (f g : ℕ) : Type 0 where
  pub place : ℕ
  pub name : Id
  pub calls : CallsAt P place f g name

module _ (n : NamedProgram) (is_right : IsRight n) where
  edge : (f : ℕ) (c : plain.Call) → IsCall n f c → (j : ℕ) (h : plain.Head) (b : plain.Statement) → slice_get n.program j ≡ Some (plain.function h b) → h.name.text ≡ c.called.text → Edge n.program f j
  unfolding marks.of_program
  edge f c k j h b at_j spelled =
      let entry : Entry (marks.of_items 0 n.program) k.place c.called n.uses = is_right.entries.each k.place c.called (slice_get_within (marks.of_items 0 n.program) k.place _ k.there) k.there in
      let decl = entry.means.declared.decl in
      let number : slice_get n.decls (number_of (marks.of_items 0 n.program) entry.declaration) ≡ Some decl = ap (λ (ds : List Decl). slice_get ds (number_of (marks.of_items 0 n.program) entry.declaration)) is_right.decls ∙ numbered (marks.of_items 0 n.program) entry.declaration decl entry.means.declared.there in
      let what_is : what_at n (slice_get n.uses (past 0 (take k.place (marks.of_items 0 n.program)))) ≡ Some decl.what = ap (what_at n) entry.entry ∙ ap what_of number in
      let is_one : is_some (function_of n (Some decl.what)) ≡ true = ap (λ (w : Option What). is_some (function_of n w)) (sym what_is) ∙ calls_function n is_right.types_and_shapes f c k in
      let it = function_is n decl.what is_one in
      let same : it.0 ≡ j = callee_is n.program is_right.once k.place c.called.text entry.declaration entry.means decl entry.means.declared.there it.0 it.1 j h b at_j spelled in
      record { place = k.place; name = c.called; calls = record { called = k.there; inside = k.inside; declared_at = entry.declaration; means = entry.means; decl = decl; there = entry.means.declared.there; function = it.1 ∙ ap what.Func same } }

  -- no function reaches itself
  never_back : (g : ℕ) → Reaches n.program g g → ⊥
  never_back g (directly {n = i} c) = is_right.no_cycle i.pos (record { «at» = _; name = i; cycle = record { caller = g; callee = g; calls = c; back = inl refl }; place = refl })
  never_back g (through {g = h} {n = i} c r) = is_right.no_cycle i.pos (record { «at» = _; name = i; cycle = record { caller = g; callee = h; calls = c; back = inr r }; place = refl })

  -- what an item reaches is a function
  callee_place : (u f g : ℕ) (i : Id) → CallsAt n.program u f g i → Member g (places 0 n.program)
  unfolding marks.of_program
  callee_place u f g i c =
      let d = declared_at 0 n.program c.declared_at c.decl g c.there (ap is_function c.function) in
      subst (λ (x : ℕ). Member x (places 0 n.program)) (sym d.number) (has_place 0 n.program d.item d.head d.body d.there)

  reached_place : (f g : ℕ) → Reaches n.program f g → Member g (places 0 n.program)
  reached_place f g (directly {u = u} {n = i} c) = callee_place u f g i c
  reached_place f g (through {g = h} c r) = reached_place h g r

  -- where all that a function reaches is among so many, the calls in it go as deep
  AreWithin : ℕ → Type 0
  AreWithin m =
      (f : ℕ) (h : plain.Head) (b : plain.Statement) → slice_get n.program f ≡ Some (plain.function h b) → (left : List ℕ) → ((x : ℕ) → Reaches n.program f x → Member x left) → length left ≤ m → EachCall (GoesWithin (functions n.program) m) b

  -- of what a call may reach its callee is one, and that does not reach itself
  body_within : (m : ℕ) → AreWithin m → (t : List ℕ) (left : List ℕ) → length left ≤ suc m → (o : Option Function) → function_named (functions n.program) t ≡ o → ((j : ℕ) (h : plain.Head) (b : plain.Statement) → slice_get n.program j ≡ Some (plain.function h b) → h.name.text ≡ t → Member j left) → ((j : ℕ) (h : plain.Head) (b : plain.Statement) → slice_get n.program j ≡ Some (plain.function h b) → h.name.text ≡ t → (x : ℕ) → Reaches n.program j x → Member x left) → EachInFunction (GoesWithin (functions n.program) m) o
  unfolding AreWithin
  body_within m within t left short None e callee reached = tt
  body_within m within t left short (Some f) e callee reached =
      let k = named n.program t f e in
      let spelled = (bytes_eq-Decides f.head.name.text t).0 k.spelled in
      let w = without k.item left (callee k.item f.head f.body k.there spelled) in
      within k.item f.head f.body k.there w.left
      (λ x r. w.others x (reached k.item f.head f.body k.there spelled x r) (λ q. never_back k.item (subst (λ (y : ℕ). Reaches n.program k.item y) q r)))
      (let l = w.one_less in omega arith)

  none_there : (t : List ℕ) → (o : Option Function) → function_named (functions n.program) t ≡ o → ((j : ℕ) (h : plain.Head) (b : plain.Statement) → slice_get n.program j ≡ Some (plain.function h b) → h.name.text ≡ t → ⊥) → is_some o ≡ false
  none_there t None e none = refl
  none_there t (Some f) e none = let k = named n.program t f e in absurd (none k.item f.head f.body k.there ((bytes_eq-Decides f.head.name.text t).0 k.spelled))

  are_within : (m : ℕ) → AreWithin m
  unfolding AreWithin
  are_within zero f h b at_f left all short =
      each_call n f h b at_f (GoesWithin (functions n.program) zero)
      (λ c k. none_there c.called.text (function_named (functions n.program) c.called.text) refl
      (λ j h' b' at_j spelled. let e = edge f c k j h' b' at_j spelled in empty j left (all j (directly e.calls)) short))
    where
      empty : (j : ℕ) (left : List ℕ) → Member j left → length left ≤ 0 → ⊥
      empty j [] m s = elim m [ ]
      empty j (x ∷ left) m s = omega arith
  are_within (suc m) f h b at_f left all short =
      each_call n f h b at_f (GoesWithin (functions n.program) (suc m))
      (λ c k. body_within m (are_within m) c.called.text left short (function_named (functions n.program) c.called.text) refl
      (λ j h' b' at_j spelled. let e = edge f c k j h' b' at_j spelled in all j (directly e.calls))
      (λ j h' b' at_j spelled x r. let e = edge f c k j h' b' at_j spelled in all x (through e.calls r)))

  goes_within : (m : ℕ) → length (functions n.program) ≡ m → (c : plain.Call) → GoesWithin (functions n.program) m c
  goes_within zero long c =
      none_there c.called.text (function_named (functions n.program) c.called.text) refl
      (λ j h b at_j spelled. empty j (places 0 n.program) (function_place n.program j h b at_j) (as_many 0 n.program))
    where
      empty : (j : ℕ) (left : List ℕ) → Member j left → length left ≡ length (functions n.program) → ⊥
      empty j [] m s = elim m [ ]
      empty j (x ∷ left) m s = omega arith
  goes_within (suc m) long c =
      body_within m (are_within m) c.called.text (places 0 n.program) (let e = as_many 0 n.program in omega arith) (function_named (functions n.program) c.called.text) refl
      (λ j h b at_j spelled. function_place n.program j h b at_j)
      (λ j h b at_j spelled x r. reached_place j x r)

is_right : (n : NamedProgram) → n.decls ≡ declarations (marks.of_program n.program) → AreUses (marks.of_program n.program) n.uses → ((b : Broken) → names.Breaks n.program b → ⊥) → ((b : Broken) → checks.Breaks n b → ⊥) → IsRight n
unfolding marks.of_program
is_right n decls uses right types = record {
  entries = entries_stand (marks.of_items 0 n.program) _ n.uses uses;
  decls = decls;
  once = λ p b. right _ (names.declared_again b);
  no_cycle = λ p b. right _ (names.on_cycle b);
  types_and_shapes = types;
}

-- no chain of calls is longer than there are functions
pub calls_end : (P : List plain.Item) (n : NamedProgram) (types : List Bool) → IsTyped P n types → CallsEnd P
calls_end P n types t =
    let same = t.is_named.program_is in
    let ms : marks.of_program P ≡ marks.of_program n.program = ap marks.of_program (sym same) in
    let k : IsRight n = is_right n (t.is_named.decls ∙ ap declarations ms) (subst (λ (xs : List Mark). AreUses xs n.uses) ms t.is_named.uses) (subst (λ (Q : List plain.Item). (b : Broken) → names.Breaks Q b → ⊥) (sym same) t.names) t.types_and_shapes in
    subst CallsEnd same (record { each = goes_within n k (length (functions n.program)) refl })
