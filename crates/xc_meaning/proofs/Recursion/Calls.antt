-- A call in the body of a function, with the place of its mark and with its site.
use Rattle.std.proofs.Common.{◌≡◌, ℕ, zero, suc, ◌+◌, ◌≤◌, Bool, true, false, List, [], ◌∷◌, ◌++◌, length, take, slice_get, Contains, is_some, Some, refl, sym, ap, subst, ◌∙◌, arith, append_assoc, length-append}
use Rattle.std.proofs.lemmas.List.Elements.{Contains-append_left, Contains-append_right}
use Rattle.std.proofs.lemmas.Option.{none-some}
use Rattle.xw_words.proofs.Lists.{some_same, at_front}
use Rattle.xw_words.specs.declared.pos.Broken.{Broken}
use Rattle.xc_tree.specs.declared.names.What.{What}
use Rattle.xc_tree.specs.declared.names.What.TheVariants as what
use Rattle.xc_tree.specs.declared.names.Mark.{Mark}
use Rattle.xc_tree.specs.declared.names.Mark.TheVariants.{Opens, Closes, Calls}
use Rattle.xc_tree.specs.Plain as plain
use Rattle.xc_tree.specs.Names.Marks as marks
use Rattle.xc_tree.specs.Names.Calls.{first_of, IsInItem}
use Rattle.xc_tree.specs.Types.Named.{NamedProgram, name_at, function_of, past}
use Rattle.xc_tree.specs.Types.Calls.{Argument}
use Rattle.xc_tree.specs.Types.Sites as sites
use Rattle.xc_tree.specs.Types.Rules.{rule_404, broken_unless}
use Rattle.xc_tree.specs.Shapes.Enclosing.{Enclosing, in_block_of}
use Rattle.xc_tree.specs.Checks as checks
use Rattle.xc_meaning.specs.Texts.Called.{EachCall}
use Rattle.xc_meaning.proofs.Recursion.Items.{item_stands, item_next}
use Rattle.xc_meaning.proofs.Recursion.Uses.{past_both}
use Rattle.xc_meaning.proofs.Recursion.Walk.{of_body}

take_front : {A : Type 0} (xs ys : List A) → take (length xs) (xs ++ ys) ≡ xs
take_front [] ys = refl
take_front (x ∷ xs) ys = ap (λ zs. x ∷ zs) (take_front xs ys)

-- a part of a text, between two places of all of its marks, with k names before the part
record Marked (all : List Mark) (from until : ℕ) (k : ℕ) (ms : List Mark) : Type 0 where
  pub before : List Mark
  pub after : List Mark
  pub whole : all ≡ before ++ (ms ++ after)
  pub names : past 0 before ≡ k
  pub begun : from ≤ length before
  pub within : length before + length ms ≤ until

module _ (all : List Mark) (from until : ℕ) where
  marked_first : (k : ℕ) (ms ns : List Mark) → Marked all from until k (ms ++ ns) → Marked all from until k ms
  marked_first k ms ns m =
      let long : length (ms ++ ns) ≡ length ms + length ns = length-append ms ns in
      record { before = m.before; after = ns ++ m.after; whole = m.whole ∙ ap (λ (xs : List Mark). m.before ++ xs) (append_assoc ms ns m.after); names = m.names; begun = m.begun; within = let w = m.within in omega arith }

  marked_second : (k : ℕ) (ms ns : List Mark) → Marked all from until k (ms ++ ns) → Marked all from until (past k ms) ns
  marked_second k ms ns m =
      let long : length (ms ++ ns) ≡ length ms + length ns = length-append ms ns in
      let more : length (m.before ++ ms) ≡ length m.before + length ms = length-append m.before ms in
      record {
        before = m.before ++ ms;
        after = m.after;
        whole = m.whole ∙ ap (λ (xs : List Mark). m.before ++ xs) (append_assoc ms ns m.after) ∙ sym (append_assoc m.before ms (ns ++ m.after));
        names = past_both 0 m.before ms ∙ ap (λ (j : ℕ). past j ms) m.names;
        begun = let b = m.begun in omega arith;
        within = let w = m.within in omega arith;
      }

-- each of these sites is one of the program
record Among (n : NamedProgram) (ss : List sites.Site) : Type 0 where
  pub each : (s : sites.Site) → Contains ss s → Contains (sites.sites n) s

-- a call in an item: the place of its mark, and its site
pub record IsCall (n : NamedProgram) (f : ℕ) (c : plain.Call) : Type 0 where
  pub place : ℕ
  pub inside : IsInItem n.program place f
  pub there : slice_get (marks.of_items 0 n.program) place ≡ Some (Calls c.called)
  pub around : Enclosing
  pub given : List Argument
  pub is_right_side : Bool
  pub site : Contains (sites.sites n) (sites.call around (name_at n (past 0 (take place (marks.of_items 0 n.program))) c.called) (function_of n (name_at n (past 0 (take place (marks.of_items 0 n.program))) c.called).what) given is_right_side)

-- what stands in the body of a function is among the sites of its program
body_sites : (n : NamedProgram) (i k : ℕ) (is : List plain.Item) (j : ℕ) (h : plain.Head) (b : plain.Statement) → slice_get is j ≡ Some (plain.function h b) → (s : sites.Site) → Contains (sites.of_body n (in_block_of h) (past (past k (marks.of_items i (take j is)) + 1) (marks.each marks.of_param h.params)) b) s → Contains (sites.of_items n i k is) s
body_sites n i k [] j h b e s c = absurd (none-some _ e)
body_sites n i k (item ∷ is) zero h b e s c =
    let same : item ≡ plain.function h b = some_same item (plain.function h b) e in
    let own : Contains (sites.of_item n k (plain.function h b)) s = Contains-append_right (sites.function h b ∷ []) _ s (Contains-append_right (sites.each sites.of_parameter h.params) _ s c) in
    Contains-append_left (sites.of_item n k item) _ s (subst (λ (x : plain.Item). Contains (sites.of_item n k x) s) (sym same) own)
body_sites n i k (item ∷ is) (suc j) h b e s c =
    Contains-append_right (sites.of_item n k item) _ s
    (body_sites n (i + 1) (past k (marks.of_item i item)) is j h b e s
    (subst (λ (m : ℕ). Contains (sites.of_body n (in_block_of h) (past (m + 1) (marks.each marks.of_param h.params)) b) s) (past_both k (marks.of_item i item) (marks.of_items (i + 1) (take j is))) c))

sites_are : (n : NamedProgram) (s : sites.Site) → Contains (sites.of_items n 0 0 n.program) s → Contains (sites.sites n) s
unfolding sites.sites
sites_are n s c = c

module _ (n : NamedProgram) (f : ℕ) (h : plain.Head) (b : plain.Statement) (at_f : slice_get n.program f ≡ Some (plain.function h b)) where
  In : ℕ → List Mark → Type 0
  In = Marked (marks.of_items 0 n.program) (first_of n.program f) (first_of n.program (f + 1))

  body_marked : In (past (past 0 (marks.of_items 0 (take f n.program)) + 1) (marks.each marks.of_param h.params)) (marks.of_body b)
  unfolding In
  body_marked =
      let all = marks.of_items 0 n.program in
      let lo = first_of n.program f in
      let hi = first_of n.program (f + 1) in
      let own = marks.each marks.of_param h.params ++ marks.of_body b in
      let k = past 0 (marks.of_items 0 (take f n.program)) in
      let long : hi ≡ lo + length (marks.of_item (0 + f) (plain.function h b)) = ap (first_of n.program) (one_more f) ∙ ap length (item_next 0 n.program f (plain.function h b) at_f) ∙ length-append (marks.of_items 0 (take f n.program)) _ in
      let item : Marked all lo hi k (marks.of_item (0 + f) (plain.function h b)) = record { before = marks.of_items 0 (take f n.program); after = _; whole = item_stands 0 n.program f (plain.function h b) at_f; names = refl; begun = omega arith; within = omega arith } in
      let scope : Marked all lo hi (k + 1) (marks.in_scope own) = marked_second all lo hi k (marks.declares h.name (what.Func (0 + f)) ∷ []) (marks.in_scope own) item in
      let inner : Marked all lo hi (k + 1) own = marked_first all lo hi (k + 1) own (Closes ∷ []) (marked_second all lo hi (k + 1) (Opens ∷ []) (own ++ Closes ∷ []) scope) in
      marked_second all lo hi (k + 1) (marks.each marks.of_param h.params) (marks.of_body b) inner
    where
      one_more : (j : ℕ) → j + 1 ≡ suc j
      one_more j = omega arith

  a_call : (k : ℕ) (c : plain.Call) (ms : List Mark) (around : Enclosing) (given : List Argument) (r : Bool) (ss : List sites.Site) → In k (Calls c.called ∷ ms) → Among n (sites.call around (name_at n k c.called) (function_of n (name_at n k c.called).what) given r ∷ ss) → IsCall n f c
  unfolding In
  a_call k c ms around given r ss m a =
      let before_is : past 0 (take (length m.before) (marks.of_items 0 n.program)) ≡ k = ap (λ (xs : List Mark). past 0 (take (length m.before) xs)) m.whole ∙ ap (past 0) (take_front m.before _) ∙ m.names in
      record {
        place = length m.before;
        inside = record { begun = m.begun; before_next = let w = m.within in omega arith };
        there = ap (λ (xs : List Mark). slice_get xs (length m.before)) m.whole ∙ at_front m.before _ _;
        around = around;
        given = given;
        is_right_side = r;
        site = subst (λ (j : ℕ). Contains (sites.sites n) (sites.call around (name_at n j c.called) (function_of n (name_at n j c.called).what) given r)) (sym before_is) (a.each _ (0, omega arith, refl));
      }

  -- what holds of all calls of an item holds of each in the body
  pub each_call : (Holds : plain.Call → Type 0) → ((c : plain.Call) → IsCall n f c → Holds c) → EachCall Holds b
  unfolding In
  each_call Holds each =
      of_body n (Marked (marks.of_items 0 n.program) (first_of n.program f) (first_of n.program (f + 1))) (Among n) Holds
      (record {
        first = marked_first (marks.of_items 0 n.program) (first_of n.program f) (first_of n.program (f + 1));
        second = marked_second (marks.of_items 0 n.program) (first_of n.program f) (first_of n.program (f + 1));
        left = λ ss ts a. record { each = λ s c. a.each s (Contains-append_left ss ts s c) };
        right = λ ss ts a. record { each = λ s c. a.each s (Contains-append_right ss ts s c) };
        call = λ k c ms around given r ss m a. each c (a_call k c ms around given r ss m a);
      })
      (in_block_of h) _ b body_marked (record { each = λ s c. sites_are n s (body_sites n 0 0 n.program f h b at_f s c) })

-- what a called name means in a program that breaks no rule of types
pub function_is : (n : NamedProgram) (w : What) → is_some (function_of n (Some w)) ≡ true → (g : ℕ) × (w ≡ what.Func g)
function_is n (what.Word u) e = absurd (cc)
function_is n (what.Array u l) e = absurd (cc)
function_is n (what.Ref u) e = absurd (cc)
function_is n (what.ArrayParam u l) e = absurd (cc)
function_is n (what.Chan s) e = absurd (cc)
function_is n (what.End s) e = absurd (cc)
function_is n what.Timer e = absurd (cc)
function_is n (what.Port d) e = absurd (cc)
function_is n (what.PortParam d) e = absurd (cc)
function_is n (what.Func k) e = (k, refl)
function_is n what.Index e = absurd (cc)

module _ (n : NamedProgram) (right : (b : Broken) → checks.Breaks n b → ⊥) where
  pub calls_function : (f : ℕ) (c : plain.Call) (k : IsCall n f c) → is_some (function_of n (name_at n (past 0 (take k.place (marks.of_items 0 n.program))) c.called).what) ≡ true
  calls_function f c k = by (is_some (function_of n (name_at n (past 0 (take k.place (marks.of_items 0 n.program))) c.called).what)) refl
    where
      by : (t : Bool) → is_some (function_of n (name_at n (past 0 (take k.place (marks.of_items 0 n.program))) c.called).what) ≡ t → t ≡ true
      by true e = refl
      by false e = absurd (right (record { rule = 404; pos = c.called.pos }) (record { rule = checks.rule 404 rule_404; among = (3, omega arith, refl); numbered = refl; site = _; there = k.site; broken = subst (λ (t : Bool). Contains (broken_unless t c.called.pos) c.called.pos) (sym e) (0, omega arith, refl) }))
