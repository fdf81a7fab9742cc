-- The calls that the search finds are those that stand on a cycle of calls.
use Rattle.std.proofs.Common.{◌≡◌, ℕ, ◌+◌, ◌<◌, ◌≤◌, ◌⊎◌, inl, inr, List, length, slice_get, Option, Some, refl, sym, ap, subst, ◌∙◌, arith}
use Rattle.std.proofs.lemmas.Bool.{cases_lt}
use Rattle.std.proofs.lemmas.List.{take_all}
use Rattle.std.proofs.lemmas.Option.{slice_get_within, none-some}
use Rattle.xw_words.proofs.Lists.{some_same}
use Rattle.xw_words.specs.declared.pos.Pos.{Pos}
use Rattle.xw_words.specs.declared.pos.Broken.{Broken}
use Rattle.xc_tree.specs.declared.tree.Id.{Id}
use Rattle.xc_tree.specs.declared.names.What.{What}
use Rattle.xc_tree.specs.declared.names.What.TheVariants as what
use Rattle.xc_tree.specs.declared.names.Mark.{Mark}
use Rattle.xc_tree.specs.declared.names.Mark.TheVariants.{Opens, Closes, Declares, Uses, Calls}
use Rattle.xc_tree.specs.Plain as plain
use Rattle.xc_tree.specs.Names.Marks.{of_items, of_program}
use Rattle.xc_tree.specs.Names.Scopes.{Means, IsWithin}
use Rattle.xc_tree.specs.Names.Calls.{first_of, IsInItem, CallsAt, Reaches, directly, through}
use Rattle.xc_names.specs.Starts.{AreStarts}
use Rattle.xc_tree.specs.Least.{IsLeastOf}
use Rattle.xc_names.specs.Meanings.{AreMeanings, Meaning, means, unknown}
use Rattle.xc_names.specs.Callees.{called_at, declared_function, function_of, IsCall}
use Rattle.xc_names.specs.Cycles.{HasCycle, on_cycle}
use Rattle.xc_names.specs.Searches.{IsInBody, IsStep, IsNext, IsReached, itself, further, IsBackToOne}
use Rattle.xc_tree.proofs.Leasts.{of_same}
use Rattle.xc_names.proofs.NameRules.{spelled_here}

both_within : (ms : List Mark) (d e : ℕ) → IsWithin ms d e → IsWithin ms e d → d ≡ e
both_within ms d e (inl h) (inl k) = absurd (omega arith)
both_within ms d e (inl h) (inr k) = let z = k.0 in absurd (omega arith)
both_within ms d e (inr h) (inl k) = let z = h.0 in absurd (omega arith)
both_within ms d e (inr h) (inr k) = let y = h.1 in let z = k.1 in omega arith

-- a name means at most one declaration
pub one_meaning : (ms : List Mark) (u : ℕ) (t : List ℕ) (d e : ℕ) → Means ms u t d → Means ms u t e → d ≡ e
one_meaning ms u t d e a b = both_within ms d e (a.innermost e b.declared b.known) (b.innermost d a.declared a.known)

a_function : (w : What) (g : ℕ) → function_of w ≡ Some g → w ≡ what.Func g
a_function (what.Word u) g e = absurd (none-some g e)
a_function (what.Array u n) g e = absurd (none-some g e)
a_function (what.Ref u) g e = absurd (none-some g e)
a_function (what.ArrayParam u n) g e = absurd (none-some g e)
a_function (what.Chan s) g e = absurd (none-some g e)
a_function (what.End s) g e = absurd (none-some g e)
a_function what.Timer g e = absurd (none-some g e)
a_function (what.Port d) g e = absurd (none-some g e)
a_function (what.PortParam d) g e = absurd (none-some g e)
a_function (what.Func k) g e = ap what.Func (some_same k g e)
a_function what.Index g e = absurd (none-some g e)

-- a name that calls item g by what names mean
pub record IsNamedCall (program : List plain.Item) (u f g : ℕ) (p : Pos) : Type 0 where
  pub name : Id
  pub calls : CallsAt program u f g name
  pub place : p ≡ name.pos

module _ (program : List plain.Item) (meant : List (Option ℕ)) (starts : List ℕ) (are : AreMeanings (of_program program) meant) (begin : AreStarts program starts) where
  -- an item that holds a place is one of the program
  is_item : (u f : ℕ) → IsInItem program u f → f < length program
  is_item u f i = by (cases_lt f (length program))
    where
      same : length program ≤ f → first_of program f ≡ first_of program (f + 1)
      same h = ap (λ (is : List plain.Item). length (of_items 0 is)) (take_all f program h ∙ sym (take_all (f + 1) program (omega arith)))

      by : (f < length program) ⊎ (length program ≤ f) → f < length program
      by (inl h) = h
      by (inr h) = let e = same h in let a = i.begun in let b = i.before_next in absurd (omega arith)

  in_body : (u f : ℕ) → IsInItem program u f → IsInBody starts f u
  in_body u f i =
      let h = is_item u f i in
      record { first = first_of program f; end = first_of program (f + 1); begins = begin.each f (omega arith); ends = begin.each (f + 1) (omega arith); behind = i.begun; before = i.before_next }

  in_item : (u f : ℕ) → IsInBody starts f u → IsInItem program u f
  in_item u f b =
      let long = begin.one_more in
      let less = slice_get_within starts (f + 1) b.end b.ends in
      let first : b.first ≡ first_of program f = some_same _ _ (sym b.begins ∙ begin.each f (omega arith)) in
      let end : b.end ≡ first_of program (f + 1) = some_same _ _ (sym b.ends ∙ begin.each (f + 1) (omega arith)) in
      record { begun = let x = b.behind in omega arith; before_next = let x = b.before in omega arith }

  pub to_named : (f u g : ℕ) (p : Pos) → IsStep (of_program program) meant starts f u p g → IsNamedCall program u f g p
  to_named f u g p s = by s.call.mark s.call.there s.call.called
    where
      of_meaning : (n : Id) → slice_get (of_program program) u ≡ Some (Calls n) → p ≡ n.pos → (o : Option ℕ) → Meaning (of_program program) u n.text o → o ≡ Some s.call.place → IsNamedCall program u f g p
      of_meaning n e q o (unknown no_one) x = absurd (none-some s.call.place x)
      of_meaning n e q o (means {d = d} k) x =
          let same : d ≡ s.call.place = some_same d s.call.place x in
          let decl : Declares k.declared.decl ≡ s.call.declaration = some_same _ _ (sym k.declared.there ∙ ap (slice_get (of_program program)) same ∙ s.call.declared) in
          record {
            name = n;
            calls = record {
              called = e;
              inside = in_item u f s.inside;
              declared_at = d;
              means = k;
              decl = k.declared.decl;
              there = k.declared.there;
              function = a_function k.declared.decl.what g (ap declared_function decl ∙ s.call.function);
            };
            place = q;
          }

      by : (m : Mark) → slice_get (of_program program) u ≡ Some m → called_at m ≡ Some p → IsNamedCall program u f g p
      by Opens e q = absurd (none-some p q)
      by Closes e q = absurd (none-some p q)
      by (Declares d) e q = absurd (none-some p q)
      by (Uses n) e q = absurd (none-some p q)
      by (Calls n) e q = of_meaning n e (sym (some_same n.pos p q)) (Some s.call.place) (spelled_here (of_program program) u (Calls n) n.text meant (Some s.call.place) are e refl s.call.means) refl

  pub of_named : (f u g : ℕ) (n : Id) → CallsAt program u f g n → IsStep (of_program program) meant starts f u n.pos g
  of_named f u g n c = record { inside = in_body u f c.inside; call = call }
    where
      kept : (o : Option ℕ) → slice_get meant u ≡ Some o → Meaning (of_program program) u n.text o → slice_get meant u ≡ Some (Some c.declared_at)
      kept o e (means {d = d} k) = e ∙ ap (λ (x : ℕ). Some (Some x)) (one_meaning (of_program program) u n.text d c.declared_at k c.means)
      kept o e (unknown no_one) = absurd (no_one c.declared_at c.means.declared c.means.known)

      call : IsCall (of_program program) meant u n.pos g
      call =
          let m = are.each u n.text (record { mark = Calls n; there = c.called; spelled = refl }) in
          record { mark = Calls n; there = c.called; called = refl; place = c.declared_at; means = kept m.found m.there m.right; declaration = Declares c.decl; declared = c.there; function = ap function_of c.function }

  longer : (g f x u : ℕ) (n : Id) → Reaches program g f → CallsAt program u f x n → Reaches program g x
  longer g f x u n (directly a) c = through a (directly c)
  longer g f x u n (through {g = h} a r) c = through a (longer h f x u n r c)

  to_reaches : (g x : ℕ) → IsReached (of_program program) meant starts g x → (g ≡ x) ⊎ Reaches program g x
  to_reaches g x itself = inl refl
  to_reaches g x (further {f = f} r k) = by (to_reaches g f r) (to_named f k.place x k.pos k.step)
    where
      by : (g ≡ f) ⊎ Reaches program g f → IsNamedCall program k.place f x k.pos → (g ≡ x) ⊎ Reaches program g x
      by (inl e) c = inr (subst (λ (z : ℕ). Reaches program z x) (sym e) (directly c.calls))
      by (inr e) c = inr (longer g f x k.place c.name e c.calls)

  earlier : (g h x : ℕ) → IsNext (of_program program) meant starts g h → IsReached (of_program program) meant starts h x → IsReached (of_program program) meant starts g x
  earlier g h x k itself = further itself k
  earlier g h x k (further {f = f} r l) = further (earlier g h f k r) l

  a_next : (f u g : ℕ) (n : Id) → CallsAt program u f g n → IsNext (of_program program) meant starts f g
  a_next f u g n c = record { place = u; pos = n.pos; step = of_named f u g n c }

  of_reaches : (g x : ℕ) → Reaches program g x → IsReached (of_program program) meant starts g x
  of_reaches g x (directly {u = u} {n = n} a) = further itself (a_next g u x n a)
  of_reaches g x (through {g = h} {u = u} {n = n} a r) = earlier g h x (a_next g u h n a) (of_reaches h x r)

  to_cycle : (b : Broken) → IsBackToOne (of_program program) meant starts (length starts) b → HasCycle program b
  to_cycle b k =
      let c = to_named k.back.item k.back.back.place k.goal k.back.back.pos k.back.back.step in
      subst (HasCycle program) (ap (λ (p : Pos). record { rule = 304; pos = p }) (sym c.place) ∙ sym k.back.back.is)
      (on_cycle (record { «at» = k.back.back.place; name = c.name; cycle = record { caller = k.back.item; callee = k.goal; calls = c.calls; back = to_reaches k.goal k.back.item k.back.reached }; place = refl }))

  calls_from : (g x : ℕ) → Reaches program g x → g < length program
  calls_from g x (directly {u = u} a) = is_item u g a.inside
  calls_from g x (through {u = u} a r) = is_item u g a.inside

  of_cycle : (b : Broken) → HasCycle program b → IsBackToOne (of_program program) meant starts (length starts) b
  of_cycle b (on_cycle {p = p} x) = record {
    goal = x.cycle.callee;
    before = let long = begin.one_more in let h = small x.cycle.back in omega arith;
    back = record {
      item = x.cycle.caller;
      reached = reached x.cycle.back;
      back = record { place = x.«at»; pos = x.name.pos; step = of_named x.cycle.caller x.«at» x.cycle.callee x.name x.cycle.calls; is = ap (λ (q : Pos). record { rule = 304; pos = q }) x.place };
    };
  }
    where
      small : (x.cycle.callee ≡ x.cycle.caller) ⊎ Reaches program x.cycle.callee x.cycle.caller → x.cycle.callee < length program
      small (inl e) = subst (λ (z : ℕ). z < length program) (sym e) (is_item x.«at» x.cycle.caller x.cycle.calls.inside)
      small (inr r) = calls_from x.cycle.callee x.cycle.caller r

      reached : (x.cycle.callee ≡ x.cycle.caller) ⊎ Reaches program x.cycle.callee x.cycle.caller → IsReached (of_program program) meant starts x.cycle.callee x.cycle.caller
      reached (inl e) = subst (IsReached (of_program program) meant starts x.cycle.callee) e itself
      reached (inr r) = of_reaches x.cycle.callee x.cycle.caller r

  -- the least that the search finds is the least of rule 304
  pub cycle_rule : (best : Option Broken) → IsLeastOf (IsBackToOne (of_program program) meant starts (length starts)) best → IsLeastOf (HasCycle program) best
  cycle_rule best l = of_same (IsBackToOne (of_program program) meant starts (length starts)) (HasCycle program) best to_cycle of_cycle l
