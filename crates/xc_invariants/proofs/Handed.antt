-- What is handed on in a call that names no channel is none, and the parts of a copy that stand in one statement.
use Rattle.std.proofs.Common.{◌≡◌, ◌⊎◌, inl, inr, ⊎_elim, ℕ, suc, ◌+◌, Bool, true, false, ◌&&◌, ◌||◌, IsTrue, List, [], ◌∷◌, ◌++◌, length, Option, Some, None, option_map, is_some, slice_get, bytes_eq, nat_eq, refl, sym, ap, ap₂, subst, ◌∙◌, arith}
use Rattle.std.proofs.lemmas.Bool.Decides.{nat_tests}
use Rattle.std.proofs.lemmas.Slice.Eq.{bytes_eq-Decides}
use Rattle.xw_words.specs.declared.pos.Pos.{Pos}
use Rattle.xc_tree.specs.declared.tree.Param.{Param}
use Rattle.xc_tree.specs.declared.tree.ParamKind.{ParamKind}
use Rattle.xc_tree.specs.declared.tree.ParamKind.TheVariants as param
use Rattle.xc_tree.specs.declared.names.Decl.{Decl}
use Rattle.xc_tree.specs.declared.names.What.{What}
use Rattle.xc_tree.specs.declared.names.What.TheVariants as what
use Rattle.xc_tree.specs.Plain as tree
use Rattle.xc_tree.specs.Names.Marks as marks
use Rattle.xc_tree.specs.Types.Named.{NamedProgram, what_of, what_at, past, function_of}
use Rattle.xc_tree.specs.Types.Entities.{is_channel, is_word_of, is_array_of, is_channel_of, is_port_of}
use Rattle.xc_tree.specs.Types.Calls.{given_by, given_form, arguments, fits, is_channel_given, rest_of}
use Rattle.xc_tree.specs.Types.Rules.{has_number}
use Rattle.xc_tree.specs.Types.Sites.{Site}
use Rattle.xc_tree.specs.Types.Sites as site
use Rattle.xc_tree.specs.Shapes.Enclosing.{Enclosing, in_transaction}
use Rattle.xc_tree.specs.Shapes.Rules.{is_channel_among}
use Rattle.xc_kernel.specs.declared.kernel.Chan.{Chan}
use Rattle.xc_kernel.specs.Plain as kernel
use Rattle.xc_kernel.specs.Paths.{Path, path_at}
use Rattle.xc_kernel.specs.Numbering.{Numbering}
use Rattle.xc_kernel.specs.Scopes.{Scope, Entity, a_word, an_array, an_element, a_channel, a_timer, a_port, a_constant, nothing_known, entity_of}
use Rattle.xc_kernel.specs.Programs.{Function, function_named}
use Rattle.xc_kernel.specs.Copy.{Copy, joined, no_copy}
use Rattle.xc_kernel.specs.Context as context
use Rattle.xc_kernel.specs.Context.{Context, word_at, in_branch, in_loop, in_case, set_word, set_zero, place}
use Rattle.xc_kernel.specs.Parameters.{index_test, passed, all_passed, by_element, form_by_reference, by_name}
use Rattle.xc_kernel.specs.Calls.{CopiesCall, path_of_call, call_by, right_copy}
use Rattle.xc_kernel.proofs.Used.{no_expression, no_target}
use Rattle.xc_wellformed.specs.Stacks.{declared_at as meant_at, Frame, Stack, decl_by, found, after, IsUndeclared, Resolves}
use Rattle.xc_wellformed.specs.Denotes.{head_of}
use Rattle.xc_wellformed.proofs.Places.{In}
use Rattle.xc_wellformed.proofs.Spread.{in_left}
use Rattle.xc_wellformed.proofs.Stacks.{quiet_split, quiet_argument}
use Rattle.xc_wellformed.proofs.Talks.{CallsSilent}
use Rattle.xc_wellformed.proofs.Leaks.{CallsKeep}
use Rattle.xc_wellformed.proofs.Walk.Arguments.{AllIn, AllFit, IsFine}
use Rattle.xc_invariants.specs.Tidy.{SpeaksAlone}
use Rattle.xc_invariants.proofs.Tidy.{never, not_true, nested_are_used}
use Rattle.xc_invariants.proofs.Formed.{expression, target}
use Rattle.xc_invariants.proofs.Speaking.{uses, AllTidy, tidy_both, uses_either, is_chan, number, made, Room, room_left, no_room, Scoped, EntityIn, scoped_with, no_channel, NamedIn, AgreesAt, Agrees, agrees_by, declared_at, PartOf, no_use, part_both}

-- what the rules of types and shapes promise of a site
abbrev pub IsQuiet : Site → Type 0
IsQuiet (site.call around x meant given r) = (in_transaction around.holders && is_channel_among given) ≡ false
IsQuiet other = Unit {0}

abbrev pub IsFineHere : Site → Type 0
IsFineHere s = IsFine s × IsQuiet s

-- code that uses no channel
abbrev pub Idle : List kernel.Statement → Type 0
Idle xs = ((d : ℕ) → uses d xs ≡ false) × AllTidy xs

pub idle_both : (xs ys : List kernel.Statement) → Idle xs → Idle ys → Idle (xs ++ ys)
idle_both xs ys h g = (λ d. not_true (uses d (xs ++ ys)) (λ e. ⊎_elim (λ l. never l (h.0 d)) (λ r. never r (g.0 d)) (uses_either d xs ys e)), tidy_both xs ys h.1 g.1)

pub idle_set : (p : kernel.Place) (e : kernel.Expression) → Idle (kernel.set p e ∷ [])
idle_set p e = (λ d. ap₂ ◌||◌ (ap₂ ◌||◌ (no_target d p) (no_expression d e)) refl, ((target SpeaksAlone p, expression SpeaksAlone e), tt))

pub idle_zero : (v : ℕ) → Idle (kernel.set_zero v ∷ [])
idle_zero v = (λ d. refl, ((tt, tt), tt))

-- Parameters.

abbrev pub decl_of : Param → Decl
decl_of p = record { name = p.name; what = marks.what_of_param p.kind }

-- the first of some parameters that is spelled so
abbrev pub param_found : List Param → List ℕ → Option Decl → Option Decl
param_found [] t o = o
param_found (p ∷ qs) t o = decl_by (bytes_eq p.name.text t) (decl_of p) (param_found qs t o)

text_same : (a b t : List ℕ) → bytes_eq a t ≡ true → bytes_eq a b ≡ false → bytes_eq b t ≡ false
text_same a b t e f = not_true (bytes_eq b t) (λ q. never ((bytes_eq-Decides a b).1 (same a t e ∙ sym (same b t q))) f)
  where
    same : (x y : List ℕ) → bytes_eq x y ≡ true → x ≡ y
    same x y q = (bytes_eq-Decides x y).0 q

among_fresh : (f : Frame) (x : Decl) (t : List ℕ) → In x f → IsUndeclared t f → bytes_eq x.name.text t ≡ false
among_fresh [] x t a h = absurd a
among_fresh (y ∷ f) x t (inl e) h = ap (λ (z : Decl). bytes_eq z.name.text t) (sym e) ∙ h.0
among_fresh (y ∷ f) x t (inr a) h = among_fresh f x t a h.1

module _ (n : NamedProgram) where
  -- those behind a parameter aren't spelled as it is
  none_again : (qs : List Param) (k : ℕ) (f g : Frame) (st : Stack) (x : Decl) (t : List ℕ) (o : Option Decl) → In x f → bytes_eq x.name.text t ≡ true → Resolves n k (f ∷ g ∷ st) (marks.each marks.of_param qs) → param_found qs t o ≡ o
  none_again [] k f g st x t o a e r = refl
  none_again (q ∷ qs) k f g st x t o a e r =
      ap (λ (b : Bool). decl_by b (decl_of q) (param_found qs t o)) (text_same x.name.text q.name.text t e (among_fresh f x q.name.text a r.0)) ∙ none_again qs (k + 1) (decl_of q ∷ f) g st x t o (inr a) e r.1

  pub params_found : (qs : List Param) (k : ℕ) (f g : Frame) (st : Stack) (t : List ℕ) → Resolves n k (f ∷ g ∷ st) (marks.each marks.of_param qs) → found (after (f ∷ g ∷ st) (marks.each marks.of_param qs)) t ≡ param_found qs t (found (f ∷ g ∷ st) t)
  params_found [] k f g st t r = refl
  params_found (q ∷ qs) k f g st t r = params_found qs (k + 1) (decl_of q ∷ f) g st t r.1 ∙ by (bytes_eq q.name.text t) refl
    where
      by : (b : Bool) → bytes_eq q.name.text t ≡ b → param_found qs t (decl_by b (decl_of q) (found (f ∷ g ∷ st) t)) ≡ decl_by b (decl_of q) (param_found qs t (found (f ∷ g ∷ st) t))
      by false e = refl
      by true e = none_again qs (k + 1) (decl_of q ∷ f) g st (decl_of q) t (Some (decl_of q)) (inl refl) e r.1

  -- a name means what it is found as
  pub meant : (st : Stack) (k : ℕ) (t : List ℕ) → meant_at n (slice_get n.uses k) ≡ found st t → what_at n (slice_get n.uses k) ≡ what_of (found st t)
  meant st k t e = by (slice_get n.uses k) ∙ ap what_of e
    where
      by : (o : Option ℕ) → what_at n o ≡ what_of (meant_at n o)
      by None = refl
      by (Some d) = refl

-- an element is no channel
element_free : (c : Context) (scope : Scope) (own : Path) (pos at : Pos) (i : tree.Expression) (x : Entity) → is_chan (by_element c scope own pos i at x).entity ≡ false
element_free c scope own pos at i (an_array p l u) = refl
element_free c scope own pos at i (a_word p u) = refl
element_free c scope own pos at i (an_element p j u) = refl
element_free c scope own pos at i (a_channel p) = refl
element_free c scope own pos at i (a_timer p) = refl
element_free c scope own pos at i (a_port k) = refl
element_free c scope own pos at i (a_constant v) = refl
element_free c scope own pos at i nothing_known = refl

word_free : (u : Bool) (w : Option What) → is_word_of u w ≡ true → is_channel w ≡ false
word_free u (Some (what.Chan s)) e = never e refl
word_free u (Some (what.End s)) e = never e refl
word_free u (Some (what.Word v)) e = refl
word_free u (Some (what.Array v l)) e = refl
word_free u (Some (what.Ref v)) e = refl
word_free u (Some (what.ArrayParam v l)) e = refl
word_free u (Some what.Timer) e = refl
word_free u (Some (what.Port d)) e = refl
word_free u (Some (what.PortParam d)) e = refl
word_free u (Some (what.Func g)) e = refl
word_free u (Some what.Index) e = refl
word_free u None e = refl

array_free : (u : Bool) (w : Option What) → is_array_of u w ≡ true → is_channel w ≡ false
array_free u (Some (what.Chan s)) e = never e refl
array_free u (Some (what.End s)) e = never e refl
array_free u (Some (what.Word v)) e = refl
array_free u (Some (what.Array v l)) e = refl
array_free u (Some (what.Ref v)) e = refl
array_free u (Some (what.ArrayParam v l)) e = refl
array_free u (Some what.Timer) e = refl
array_free u (Some (what.Port d)) e = refl
array_free u (Some (what.PortParam d)) e = refl
array_free u (Some (what.Func g)) e = refl
array_free u (Some what.Index) e = refl
array_free u None e = refl

port_free : (d : _) (w : Option What) → is_port_of d w ≡ true → is_channel w ≡ false
port_free d (Some (what.Chan s)) e = never e refl
port_free d (Some (what.End s)) e = never e refl
port_free d (Some (what.Word v)) e = refl
port_free d (Some (what.Array v l)) e = refl
port_free d (Some (what.Ref v)) e = refl
port_free d (Some (what.ArrayParam v l)) e = refl
port_free d (Some what.Timer) e = refl
port_free d (Some (what.Port f)) e = refl
port_free d (Some (what.PortParam f)) e = refl
port_free d (Some (what.Func g)) e = refl
port_free d (Some what.Index) e = refl
port_free d None e = refl

end_is : (s : Bool) (w : Option What) → is_channel_of s w ≡ true → is_channel w ≡ true
end_is s (Some (what.Chan t)) e = refl
end_is s (Some (what.End t)) e = refl
end_is s (Some (what.Word v)) e = never e refl
end_is s (Some (what.Array v l)) e = never e refl
end_is s (Some (what.Ref v)) e = never e refl
end_is s (Some (what.ArrayParam v l)) e = never e refl
end_is s (Some what.Timer) e = never e refl
end_is s (Some (what.Port d)) e = never e refl
end_is s (Some (what.PortParam d)) e = never e refl
end_is s (Some (what.Func g)) e = never e refl
end_is s (Some what.Index) e = never e refl
end_is s None e = never e refl

and_left : (a b : Bool) → (a && b) ≡ true → a ≡ true
and_left true b e = refl
and_left false b e = never e refl

either_false : (a b : Bool) → (a || b) ≡ false → (a ≡ false) × (b ≡ false)
either_false true b e = never refl e
either_false false b e = (refl, e)

module _ (n : NamedProgram) (fs : List Function) (gs : Frame) where
  -- where a statement stands, with the channels that are known
  pub record Sits (ks : List ℕ) (c : Context) (scope : Scope) (st : Stack) : Type 0 where
    pub functions_are : c.functions ≡ fs
    pub ports_agree : Agrees n fs (gs ∷ []) c.ports
    pub ports_free : Scoped c.numbering [] c.ports
    pub agrees : Agrees n fs st scope
    pub scoped : Scoped c.numbering ks scope

  pub with_names : {ks : List ℕ} {c : Context} {scope : Scope} {st : Stack} (ls : List ℕ) (other : Scope) (su : Stack) → Sits ks c scope st → Agrees n fs su other → Scoped c.numbering ls other → Sits ls c other su
  with_names ls other su s a h = record { functions_are = s.functions_are; ports_agree = s.ports_agree; ports_free = s.ports_free; agrees = a; scoped = h }

  pub loop_sits : {ks : List ℕ} {c : Context} {scope : Scope} {st : Stack} (pos : Pos) → Sits ks c scope st → Sits ks (in_loop c pos) scope st
  loop_sits pos s = record { functions_are = s.functions_are; ports_agree = s.ports_agree; ports_free = s.ports_free; agrees = s.agrees; scoped = s.scoped }

  pub case_sits : {ks : List ℕ} {c : Context} {scope : Scope} {st : Stack} (pos : Pos) → Sits ks c scope st → Sits ks (in_case c pos) scope st
  case_sits pos s = record { functions_are = s.functions_are; ports_agree = s.ports_agree; ports_free = s.ports_free; agrees = s.agrees; scoped = s.scoped }

  pub branch_sits : {ks : List ℕ} {c : Context} {scope : Scope} {st : Stack} (index : ℕ) → Sits ks c scope st → Sits ks (in_branch c index) scope st
  branch_sits index s = record { functions_are = s.functions_are; ports_agree = s.ports_agree; ports_free = s.ports_free; agrees = s.agrees; scoped = s.scoped }

  module _ (ks : List ℕ) (c : Context) (scope : Scope) (st : Stack) (s : Sits ks c scope st) (own : Path) where
    named_is : (k : ℕ) (t : List ℕ) → meant_at n (slice_get n.uses k) ≡ found st t → is_chan (entity_of scope t) ≡ is_channel (what_at n (slice_get n.uses k))
    named_is k t e = (s.agrees t).0 ∙ ap is_channel (sym (meant n st k t e))

    -- what is passed is a channel where the parameter is one
    reference_is : (pos at : Pos) (u : Bool) (f : tree.Form) (k : ℕ) → Resolves n k st (marks.of_form at f) → fits (Some (param.Ref u)) (given_form n k at f) ≡ true → is_chan (form_by_reference c scope own pos at f).entity ≡ false
    reference_is pos at u (tree.name t) k r e = named_is k t r.0 ∙ word_free u (what_at n (slice_get n.uses k)) e
    reference_is pos at u (tree.index t i) k r e = element_free c scope own pos at i (entity_of scope t)
    reference_is pos at u (tree.number v b) k r e = refl
    reference_is pos at u (tree.unary o a) k r e = refl
    reference_is pos at u (tree.binary o a b) k r e = refl
    reference_is pos at u (tree.choice q a b) k r e = refl
    reference_is pos at u (tree.cast b a) k r e = refl

    array_is : (at : Pos) (u : Bool) (l : Option (ℕ × Pos)) (f : tree.Form) (k : ℕ) → Resolves n k st (marks.of_form at f) → fits (Some (param.Array u l)) (given_form n k at f) ≡ true → is_chan (by_name scope (tree.expression f at)).entity ≡ false
    array_is at u l (tree.name t) k r e = named_is k t r.0 ∙ array_free u (what_at n (slice_get n.uses k)) (and_left _ _ e)
    array_is at u l (tree.index t i) k r e = refl
    array_is at u l (tree.number v b) k r e = refl
    array_is at u l (tree.unary o a) k r e = refl
    array_is at u l (tree.binary o a b) k r e = refl
    array_is at u l (tree.choice q a b) k r e = refl
    array_is at u l (tree.cast b a) k r e = refl

    port_is : (at : Pos) (d : _) (f : tree.Form) (k : ℕ) → Resolves n k st (marks.of_form at f) → fits (Some (param.Port d)) (given_form n k at f) ≡ true → is_chan (by_name scope (tree.expression f at)).entity ≡ false
    port_is at d (tree.name t) k r e = named_is k t r.0 ∙ port_free d (what_at n (slice_get n.uses k)) e
    port_is at d (tree.index t i) k r e = refl
    port_is at d (tree.number v b) k r e = refl
    port_is at d (tree.unary o a) k r e = refl
    port_is at d (tree.binary o a b) k r e = refl
    port_is at d (tree.choice q a b) k r e = refl
    port_is at d (tree.cast b a) k r e = refl

    end_is_given : (at : Pos) (z : Bool) (f : tree.Form) (k : ℕ) → Resolves n k st (marks.of_form at f) → fits (Some (param.End z)) (given_form n k at f) ≡ true → (is_chan (by_name scope (tree.expression f at)).entity ≡ true) × (is_channel_given (given_form n k at f) ≡ true)
    end_is_given at z (tree.name t) k r e = let w = end_is z (what_at n (slice_get n.uses k)) e in (named_is k t r.0 ∙ w, w)
    end_is_given at z (tree.index t i) k r e = never e refl
    end_is_given at z (tree.number v b) k r e = never e refl
    end_is_given at z (tree.unary o a) k r e = never e refl
    end_is_given at z (tree.binary o a b) k r e = never e refl
    end_is_given at z (tree.choice q a b) k r e = never e refl
    end_is_given at z (tree.cast b a) k r e = never e refl

    passed_is : (pos : Pos) (kind : ParamKind) (e : tree.Expression) (k : ℕ) → Resolves n k st (marks.of_expression e) → fits (Some kind) (given_by n k e) ≡ true → is_chan (passed c scope own pos kind e).entity ≡ is_channel (Some (marks.what_of_param kind))
    passed_is pos (param.Value u) e k r f = refl
    passed_is pos (param.Ref u) (tree.expression f at) k r e = reference_is pos at u f k r e
    passed_is pos (param.Array u l) (tree.expression f at) k r e = array_is at u l f k r e
    passed_is pos (param.End z) (tree.expression f at) k r e = (end_is_given at z f k r e).0
    passed_is pos (param.Port d) (tree.expression f at) k r e = port_is at d f k r e

    -- and it is none where no channel is given
    passed_free : (pos : Pos) (kind : ParamKind) (e : tree.Expression) (k : ℕ) → Resolves n k st (marks.of_expression e) → fits (Some kind) (given_by n k e) ≡ true → is_channel_given (given_by n k e) ≡ false → is_chan (passed c scope own pos kind e).entity ≡ false
    passed_free pos (param.Value u) e k r f g = refl
    passed_free pos (param.Ref u) (tree.expression f at) k r e g = reference_is pos at u f k r e
    passed_free pos (param.Array u l) (tree.expression f at) k r e g = array_is at u l f k r e
    passed_free pos (param.End z) (tree.expression f at) k r e g = never (end_is_given at z f k r e).1 g
    passed_free pos (param.Port d) (tree.expression f at) k r e g = port_is at d f k r e

    -- one that is passed is one that is known
    form_known : (pos at : Pos) (f : tree.Form) → EntityIn c.numbering ks (form_by_reference c scope own pos at f).entity
    form_known pos at (tree.name t) = s.scoped t
    form_known pos at (tree.index t i) = no_channel c.numbering ks (by_element c scope own pos i at (entity_of scope t)).entity (element_free c scope own pos at i (entity_of scope t))
    form_known pos at (tree.number v b) = no_channel c.numbering ks nothing_known refl
    form_known pos at (tree.unary o a) = no_channel c.numbering ks nothing_known refl
    form_known pos at (tree.binary o a b) = no_channel c.numbering ks nothing_known refl
    form_known pos at (tree.choice q a b) = no_channel c.numbering ks nothing_known refl
    form_known pos at (tree.cast b a) = no_channel c.numbering ks nothing_known refl

    name_known : (at : Pos) (f : tree.Form) → EntityIn c.numbering ks (by_name scope (tree.expression f at)).entity
    name_known at (tree.name t) = s.scoped t
    name_known at (tree.index t i) = no_channel c.numbering ks nothing_known refl
    name_known at (tree.number v b) = no_channel c.numbering ks nothing_known refl
    name_known at (tree.unary o a) = no_channel c.numbering ks nothing_known refl
    name_known at (tree.binary o a b) = no_channel c.numbering ks nothing_known refl
    name_known at (tree.choice q a b) = no_channel c.numbering ks nothing_known refl
    name_known at (tree.cast b a) = no_channel c.numbering ks nothing_known refl

    passed_known : (pos : Pos) (kind : ParamKind) (e : tree.Expression) → EntityIn c.numbering ks (passed c scope own pos kind e).entity
    passed_known pos (param.Value u) e = no_channel c.numbering ks (a_word (path_at own pos) u) refl
    passed_known pos (param.Ref u) (tree.expression f at) = form_known pos at f
    passed_known pos (param.Array u l) (tree.expression f at) = name_known at f
    passed_known pos (param.End z) (tree.expression f at) = name_known at f
    passed_known pos (param.Port d) (tree.expression f at) = name_known at f

    no_function : (kind : ParamKind) → is_some (function_of n (Some (marks.what_of_param kind))) ≡ false
    no_function (param.Value u) = refl
    no_function (param.Ref u) = refl
    no_function (param.Array u l) = refl
    no_function (param.End z) = refl
    no_function (param.Port d) = refl

    fewer : (a b : ℕ) → suc a ≡ suc b → a ≡ b
    fewer a b e = omega arith

    zero_no : {A : Type 0} (a : ℕ) → 0 ≡ suc a → A
    zero_no a e = absurd (omega arith)

    pub all_agree : (qs : List Param) (args : List tree.Argument) (k : ℕ) → Resolves n k st (marks.each marks.of_argument args) → length args ≡ length qs → AllFit (arguments n k qs args) → (t : List ℕ) → AgreesAt n fs t (param_found qs t (found (gs ∷ []) t)) (entity_of (all_passed c scope own qs args).scope t)
    all_agree [] args k r long fit t = s.ports_agree t
    all_agree (q ∷ qs) [] k r long fit t = zero_no (length qs) long
    all_agree (q ∷ qs) (a ∷ args) k r long fit t =
        let r2 = quiet_split n k st (marks.of_argument a) (marks.each marks.of_argument args) (quiet_argument a) r in
        agrees_by n fs (bytes_eq q.name.text t) t (decl_of q) (param_found qs t (found (gs ∷ []) t)) (passed c scope own q.name.pos q.kind a.value).entity (entity_of (all_passed c scope own qs args).scope t)
        (declared_at n fs t (decl_of q) (passed c scope own q.name.pos q.kind a.value).entity (passed_is q.name.pos q.kind a.value k r2.0 fit.0, no_function q.kind))
        (all_agree qs args (past k (marks.of_argument a)) r2.1 (fewer (length args) (length qs) long) fit.1 t)

    pub all_known : (qs : List Param) (args : List tree.Argument) → Scoped c.numbering ks (all_passed c scope own qs args).scope
    all_known [] args = λ t p e. absurd (s.ports_free t p e)
    all_known (q ∷ qs) [] = λ t p e. absurd (s.ports_free t p e)
    all_known (q ∷ qs) (a ∷ args) = scoped_with c.numbering ks (all_passed c scope own qs args).scope q.name.text (passed c scope own q.name.pos q.kind a.value).entity (passed_known q.name.pos q.kind a.value) (all_known qs args)

    pub all_free : (qs : List Param) (args : List tree.Argument) (k : ℕ) → Resolves n k st (marks.each marks.of_argument args) → length args ≡ length qs → AllFit (arguments n k qs args) → is_channel_among (arguments n k qs args) ≡ false → Scoped c.numbering [] (all_passed c scope own qs args).scope
    all_free [] args k r long fit g = s.ports_free
    all_free (q ∷ qs) [] k r long fit g = zero_no (length qs) long
    all_free (q ∷ qs) (a ∷ args) k r long fit g =
        let r2 = quiet_split n k st (marks.of_argument a) (marks.each marks.of_argument args) (quiet_argument a) r in
        let g2 = either_false (is_channel_given (given_by n k a.value)) (is_channel_among (arguments n (past k (marks.of_argument a)) qs args)) g in
        scoped_with c.numbering [] (all_passed c scope own qs args).scope q.name.text (passed c scope own q.name.pos q.kind a.value).entity
        (no_channel c.numbering [] (passed c scope own q.name.pos q.kind a.value).entity (passed_free q.name.pos q.kind a.value k r2.0 fit.0 g2.0))
        (all_free qs args (past k (marks.of_argument a)) r2.1 (fewer (length args) (length qs) long) fit.1 g2.1)

    -- the code of what is passed
    element_idle : (pos at : Pos) (i : tree.Expression) (x : Entity) → Idle (by_element c scope own pos i at x).code
    element_idle pos at i (an_array p l u) = idle_set (word_at c (path_at own pos)) (index_test c scope i l at)
    element_idle pos at i (a_word p u) = (λ d. refl, tt)
    element_idle pos at i (an_element p j u) = (λ d. refl, tt)
    element_idle pos at i (a_channel p) = (λ d. refl, tt)
    element_idle pos at i (a_timer p) = (λ d. refl, tt)
    element_idle pos at i (a_port k) = (λ d. refl, tt)
    element_idle pos at i (a_constant v) = (λ d. refl, tt)
    element_idle pos at i nothing_known = (λ d. refl, tt)

    form_idle : (pos at : Pos) (f : tree.Form) → Idle (form_by_reference c scope own pos at f).code
    form_idle pos at (tree.index t i) = element_idle pos at i (entity_of scope t)
    form_idle pos at other = (λ d. refl, tt)

    name_idle : (e : tree.Expression) → Idle (by_name scope e).code
    name_idle (tree.expression (tree.name t) at) = (λ d. refl, tt)
    name_idle other = (λ d. refl, tt)

    passed_idle : (pos : Pos) (kind : ParamKind) (e : tree.Expression) → Idle (passed c scope own pos kind e).code
    passed_idle pos (param.Value u) e = idle_set (word_at c (path_at own pos)) (context.expression c scope e)
    passed_idle pos (param.Ref u) (tree.expression f at) = form_idle pos at f
    passed_idle pos (param.Array u l) e = name_idle e
    passed_idle pos (param.End z) e = name_idle e
    passed_idle pos (param.Port d) e = name_idle e

    pub all_idle : (qs : List Param) (args : List tree.Argument) → Idle (all_passed c scope own qs args).code
    all_idle [] args = (λ d. refl, tt)
    all_idle (q ∷ qs) [] = (λ d. refl, tt)
    all_idle (q ∷ qs) (a ∷ args) = idle_both (passed c scope own q.name.pos q.kind a.value).code (all_passed c scope own qs args).code (passed_idle q.name.pos q.kind a.value) (all_idle qs args)

  -- Calls.

  -- a copy that uses these channels and those that it makes
  pub record Called (q : Numbering) (ls : List ℕ) (ch : List Chan) (code : List kernel.Statement) : Type 0 where
    pub used : (d : ℕ) → IsTrue (uses d code) → In d ls ⊎ In d (made q ch)
    pub tidy : AllTidy code

  abbrev pub CallsSpeak : CopiesCall → Type 0
  CallsSpeak copies = (call : tree.Call) (f : Function) → function_named fs call.called.text ≡ Some f → (c : Context) (scope : Scope) (st : Stack) (k : ℕ) (ks ls : List ℕ) → Sits ks c scope st →
      Resolves n k st (marks.each marks.of_argument call.arguments) → length call.arguments ≡ length f.head.params → AllFit (arguments n k f.head.params call.arguments) →
      Scoped c.numbering ls (all_passed c scope (path_of_call c call.called.pos) f.head.params call.arguments).scope → Room c.numbering ls (copies c scope f call.called.pos call.arguments).channels →
      Called c.numbering ls (copies c scope f call.called.pos call.arguments).channels (copies c scope f call.called.pos call.arguments).code

  -- what the rules say of a call of what is meant
  abbrev pub Facts : Enclosing → ℕ → List tree.Argument → Option tree.Head → Type 0
  Facts around k args meant = (has_number meant (arguments n k (site.params_of meant) args) ≡ true) × (AllFit (arguments n k (site.params_of meant) args) × ((in_transaction around.holders && is_channel_among (arguments n k (site.params_of meant) args)) ≡ false))

  pub equal : (x y : ℕ) → nat_eq x y ≡ true → x ≡ y
  equal x y e = grind (arith, nat_tests)

  pub as_many : (k : ℕ) (qs : List Param) (args : List tree.Argument) → length (arguments n k qs args) ≡ length args
  as_many k qs [] = refl
  as_many k qs (a ∷ args) = ap suc (as_many (past k (marks.of_argument a)) (rest_of qs) args)

  module _ (copies : CopiesCall) (speak : CallsSpeak copies) (mute : CallsSilent copies) (keep : CallsKeep copies) where
    abbrev pub OnePart : List ℕ → Enclosing → Stack → Numbering → Copy → Type 0
    OnePart ks around st q copy = PartOf n fs q ks (in_transaction around.holders) [] st copy

    -- what a call makes is hidden
    hidden_part : (q : Numbering) (ks ls : List ℕ) (inside : Bool) (st : Stack) (copy : Copy) → Agrees n fs st copy.scope → Scoped q ks copy.scope → copy.named ≡ [] → Called q ls copy.channels copy.code → ((d : ℕ) → In d ls → In d ks) → (inside ≡ true → (d : ℕ) → In d ls → ⊥) → PartOf n fs q ks inside [] st copy
    hidden_part q ks ls inside st copy a s e w f none = record {
      agrees = a;
      known = [];
      hidden = made q copy.channels;
      known_made = λ d i. absurd i;
      hidden_made = λ d i. i;
      apart = λ d i j. i;
      scoped = λ t p g. in_left (number q p) ks [] (s t p g);
      names = subst (NamedIn q (ks ++ [])) (sym e) tt;
      some = λ i t. never t refl;
      used = λ d u. ⊎_elim (λ l. inl (in_left d ks [] (f d l))) (λ m. inr m) (w.used d u);
      held = λ i d h. ⊎_elim (λ l. absurd (none i d l)) (λ m. m) (w.used d (nested_are_used d (kernel.statements copy.code) h));
      tidy = w.tidy;
    }

    call_part : (c : Context) (scope : Scope) (st : Stack) (around : Enclosing) (k : ℕ) (ks : List ℕ) (call : tree.Call) (o : Option Function) → function_named fs call.called.text ≡ o → Sits ks c scope st → Resolves n k st (marks.each marks.of_argument call.arguments) → is_some (option_map head_of o) ≡ true →
        Facts around k call.arguments (option_map head_of o) → Room c.numbering ks (call_by copies c scope call.called.pos call.arguments o).channels → OnePart ks around st c.numbering (call_by copies c scope call.called.pos call.arguments o)
    call_part c scope st around k ks call None e s r there facts room = never there refl
    call_part c scope st around k ks call (Some f) e s r there facts room = by (in_transaction around.holders) refl
      where
        copy : Copy
        copy = copies c scope f call.called.pos call.arguments

        by : (b : Bool) → in_transaction around.holders ≡ b → OnePart ks around st c.numbering (copies c scope f call.called.pos call.arguments)
        by true i =
            let long : length call.arguments ≡ length f.head.params = sym (as_many k f.head.params call.arguments) ∙ equal _ _ facts.0 in
            let free = all_free ks c scope st s (path_of_call c call.called.pos) f.head.params call.arguments k r long facts.1.0 (subst (λ (z : Bool). (z && is_channel_among (arguments n k f.head.params call.arguments)) ≡ false) i facts.1.1) in
            hidden_part c.numbering ks [] (in_transaction around.holders) st (copies c scope f call.called.pos call.arguments) (subst (Agrees n fs st) (sym (keep c scope f call.called.pos call.arguments)) s.agrees) (subst (Scoped c.numbering ks) (sym (keep c scope f call.called.pos call.arguments)) s.scoped) (mute c scope f call.called.pos call.arguments)
            (speak call f e c scope st k ks [] s r long facts.1.0 free (no_room c.numbering ks (copies c scope f call.called.pos call.arguments).channels room)) (λ d l. absurd l) (λ t d l. l)
        by false i =
            let long : length call.arguments ≡ length f.head.params = sym (as_many k f.head.params call.arguments) ∙ equal _ _ facts.0 in
            hidden_part c.numbering ks ks (in_transaction around.holders) st (copies c scope f call.called.pos call.arguments) (subst (Agrees n fs st) (sym (keep c scope f call.called.pos call.arguments)) s.agrees) (subst (Scoped c.numbering ks) (sym (keep c scope f call.called.pos call.arguments)) s.scoped) (mute c scope f call.called.pos call.arguments)
            (speak call f e c scope st k ks ks s r long facts.1.0 (all_known ks c scope st s (path_of_call c call.called.pos) f.head.params call.arguments) room) (λ d l. l) (λ t. never t i)

    pub right_part : (c : Context) (scope : Scope) (st : Stack) (around : Enclosing) (k : ℕ) (ks : List ℕ) (b : Bool) (r : tree.RightSide) → Sits ks c scope st → Resolves n k st (marks.of_right r) → AllIn IsFineHere (site.of_right n around k b r) → Room c.numbering ks (right_copy copies c scope r).channels → OnePart ks around st c.numbering (right_copy copies c scope r)
    right_part c scope st around k ks b (tree.value e) s r g room = no_use n fs c.numbering ks (in_transaction around.holders) [] st scope [] s.agrees s.scoped refl (λ d. refl) tt
    right_part c scope st around k ks b (tree.result call) s r g room =
        let w = ap (function_of n) (meant n st k call.called.text r.0) in
        let is = w ∙ (s.agrees call.called.text).1 (subst (λ (h : Option tree.Head). is_some h ≡ true) w g.0.0.0) in
        let there = subst (λ (h : Option tree.Head). is_some h ≡ true) is g.0.0.0 in
        let facts = subst (Facts around (k + 1) call.arguments) is (g.0.0.1.0, (g.0.0.1.1.0, g.0.1)) in
        let e : function_named c.functions call.called.text ≡ function_named fs call.called.text = ap (λ (xs : List Function). function_named xs call.called.text) s.functions_are in
        call_part c scope st around (k + 1) ks call (function_named c.functions call.called.text) (sym e) s r.1
        (subst (λ (o : Option Function). is_some (option_map head_of o) ≡ true) (sym e) there)
        (subst (λ (o : Option Function). Facts around (k + 1) call.arguments (option_map head_of o)) (sym e) facts) room

    -- a right side, and then a statement that uses no channel
    pub then_part : (c : Context) (scope : Scope) (st : Stack) (around : Enclosing) (k : ℕ) (ks : List ℕ) (b : Bool) (r : tree.RightSide) (code : List kernel.Statement) → Idle code → Sits ks c scope st → Resolves n k st (marks.of_right r) → AllIn IsFineHere (site.of_right n around k b r) → Room c.numbering ks ((right_copy copies c scope r).channels ++ []) →
        OnePart ks around st c.numbering (joined (right_copy copies c scope r) (record (no_copy scope) { code = code }))
    then_part c scope st around k ks b r code idle s rs g room =
        let p = right_part c scope st around k ks b r s rs g (room_left c.numbering ks (right_copy copies c scope r).channels [] room) in
        part_both n fs c.numbering ks (in_transaction around.holders) [] [] st st (right_copy copies c scope r) (record (no_copy scope) { code = code }) room p
        (no_use n fs c.numbering (ks ++ p.known) (in_transaction around.holders) [] st scope code s.agrees (λ t x e. in_left (number c.numbering x) ks p.known (s.scoped t x e)) refl idle.0 idle.1)
