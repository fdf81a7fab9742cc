-- The stack of open scopes along a text.
use Rattle.std.proofs.Common.{◌≡◌, ℕ, ◌+◌, List, [], ◌∷◌, ◌++◌, Option, None, Some, refl, ap, subst, ◌∙◌}
use Rattle.xc_tree.specs.declared.tree.Id.{Id}
use Rattle.xc_tree.specs.declared.names.Mark.{Mark}
use Rattle.xc_tree.specs.declared.names.Mark.TheVariants.{Opens, Closes, Declares, Uses, Calls}
use Rattle.xc_tree.specs.Plain as plain
use Rattle.xc_tree.specs.Names.Marks as marks
use Rattle.xc_tree.specs.Types.Named.{NamedProgram, past}
use Rattle.xc_wellformed.specs.Stacks.{Frame, Stack, with_decl, popped, after, Resolves}
use Rattle.xc_meaning.proofs.Recursion.Scopes as scopes
use Rattle.xc_meaning.proofs.Recursion.Scopes.{Inner}

pub after_both : (st : Stack) (ms ns : List Mark) → after st (ms ++ ns) ≡ after (after st ms) ns
after_both st [] ns = refl
after_both st (Opens ∷ ms) ns = after_both ([] ∷ st) ms ns
after_both st (Closes ∷ ms) ns = after_both (popped st) ms ns
after_both st (Declares d ∷ ms) ns = after_both (with_decl d st) ms ns
after_both st (Uses i ∷ ms) ns = after_both st ms ns
after_both st (Calls i ∷ ms) ns = after_both st ms ns

pub resolves_both : (n : NamedProgram) (k : ℕ) (st : Stack) (ms ns : List Mark) → Resolves n k st (ms ++ ns) → Resolves n k st ms × Resolves n (past k ms) (after st ms) ns
resolves_both n k st [] ns h = (tt, h)
resolves_both n k st (Opens ∷ ms) ns h = resolves_both n k ([] ∷ st) ms ns h
resolves_both n k st (Closes ∷ ms) ns h = resolves_both n k (popped st) ms ns h
resolves_both n k st (Declares d ∷ ms) ns h = let g = resolves_both n (k + 1) (with_decl d st) ms ns h.1 in ((h.0, g.0), g.1)
resolves_both n k st (Uses i ∷ ms) ns h = let g = resolves_both n (k + 1) st ms ns h.1 in ((h.0, g.0), g.1)
resolves_both n k st (Calls i ∷ ms) ns h = let g = resolves_both n (k + 1) st ms ns h.1 in ((h.0, g.0), g.1)

-- what stands inside a function leaves the frames further out
record Kept (f : Frame) (st : Stack) (ms : List Mark) : Type 0 where
  pub frame : Frame
  pub is : after (f ∷ st) ms ≡ frame ∷ st

kept_inner : (f : Frame) (st : Stack) (ms : List Mark) → Inner ms → Kept f st ms
kept_inner f st [] scopes.nothing = record { frame = f; is = refl }
kept_inner f st (Uses i ∷ ms) (scopes.used a) = let k = kept_inner f st ms a in record { frame = k.frame; is = k.is }
kept_inner f st (Calls i ∷ ms) (scopes.called a) = let k = kept_inner f st ms a in record { frame = k.frame; is = k.is }
kept_inner f st (Declares d ∷ ms) (scopes.declared h a) = let k = kept_inner (d ∷ f) st ms a in record { frame = k.frame; is = k.is }
kept_inner f st (Closes ∷ ms) a = elim a [ ]
kept_inner f st (Opens ∷ ks) (scopes.scope {ms = ms} {rest = rest} a b) =
    let k = kept_inner [] (f ∷ st) ms a in
    let g = kept_inner f st rest b in
    record { frame = g.frame; is = after_both ([] ∷ f ∷ st) ms (Closes ∷ rest) ∙ ap (λ (s : Stack). after s (Closes ∷ rest)) k.is ∙ g.is }

pub scope_ends : (st : Stack) (ms : List Mark) → Inner ms → after st (marks.in_scope ms) ≡ st
scope_ends st ms a = let k = kept_inner [] st ms a in after_both ([] ∷ st) ms (Closes ∷ []) ∙ ap popped k.is

-- Marks of uses alone.
pub data Quiet : List Mark → Type 0 where
  silent : Quiet []
  quiet_use : {i : Id} {ms : List Mark} → Quiet ms → Quiet (Uses i ∷ ms)
  quiet_called : {i : Id} {ms : List Mark} → Quiet ms → Quiet (Calls i ∷ ms)

pub quiet_both : (ms ns : List Mark) → Quiet ms → Quiet ns → Quiet (ms ++ ns)
quiet_both [] ns silent g = g
quiet_both (Uses i ∷ ms) ns (quiet_use h) g = quiet_use (quiet_both ms ns h g)
quiet_both (Calls i ∷ ms) ns (quiet_called h) g = quiet_called (quiet_both ms ns h g)
quiet_both (Opens ∷ ms) ns h g = elim h [ ]
quiet_both (Closes ∷ ms) ns h g = elim h [ ]
quiet_both (Declares d ∷ ms) ns h g = elim h [ ]

pub quiet_after : (st : Stack) (ms : List Mark) → Quiet ms → after st ms ≡ st
quiet_after st [] silent = refl
quiet_after st (Uses i ∷ ms) (quiet_use h) = quiet_after st ms h
quiet_after st (Calls i ∷ ms) (quiet_called h) = quiet_after st ms h
quiet_after st (Opens ∷ ms) h = elim h [ ]
quiet_after st (Closes ∷ ms) h = elim h [ ]
quiet_after st (Declares d ∷ ms) h = elim h [ ]

pub quiet_split : (n : NamedProgram) (k : ℕ) (st : Stack) (ms ns : List Mark) → Quiet ms → Resolves n k st (ms ++ ns) → Resolves n k st ms × Resolves n (past k ms) st ns
quiet_split n k st ms ns q h = let g = resolves_both n k st ms ns h in (g.0, subst (λ (s : Stack). Resolves n (past k ms) s ns) (quiet_after st ms q) g.1)

pub quiet_skip : (st : Stack) (ms ns : List Mark) → Quiet ms → after st (ms ++ ns) ≡ after st ns
quiet_skip st ms ns q = after_both st ms ns ∙ ap (λ (s : Stack). after s ns) (quiet_after st ms q)

module _ {V : Type 0} (f : V → List Mark) (q : (x : V) → Quiet (f x)) where
  pub quiet_each : (xs : List V) → Quiet (marks.each f xs)
  quiet_each [] = silent
  quiet_each (x ∷ xs) = quiet_both (f x) (marks.each f xs) (q x) (quiet_each xs)

  pub quiet_optional : (x : Option V) → Quiet (marks.optional f x)
  quiet_optional None = silent
  quiet_optional (Some x) = q x

mutual
  pub quiet_expression : (e : plain.Expression) → Quiet (marks.of_expression e)
  quiet_expression (plain.expression f p) = quiet_form p f

  pub quiet_form : (p : _) (f : plain.Form) → Quiet (marks.of_form p f)
  quiet_form p (plain.number v u) = silent
  quiet_form p (plain.name t) = quiet_use silent
  quiet_form p (plain.index t e) = quiet_use (quiet_expression e)
  quiet_form p (plain.unary o e) = quiet_expression e
  quiet_form p (plain.binary o a b) = quiet_both _ _ (quiet_expression a) (quiet_expression b)
  quiet_form p (plain.choice c a b) = quiet_both _ _ (quiet_expression c) (quiet_both _ _ (quiet_expression a) (quiet_expression b))
  quiet_form p (plain.cast u e) = quiet_expression e

pub quiet_argument : (a : plain.Argument) → Quiet (marks.of_argument a)
quiet_argument a = quiet_expression a.value

pub quiet_call : (c : plain.Call) → Quiet (marks.of_call c)
quiet_call c = quiet_called (quiet_each marks.of_argument quiet_argument c.arguments)

pub quiet_right : (r : plain.RightSide) → Quiet (marks.of_right r)
quiet_right (plain.value e) = quiet_expression e
quiet_right (plain.result c) = quiet_call c

pub quiet_timing : (t : plain.Timing) → Quiet (marks.of_timing t)
quiet_timing t = quiet_expression t.value

pub quiet_condition : (c : plain.Condition) → Quiet (marks.of_condition c)
quiet_condition c = quiet_expression c.value

pub quiet_place : (p : plain.Place) → Quiet (marks.of_place p)
quiet_place p = quiet_expression p.value
