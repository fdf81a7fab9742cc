-- The roots of a core, one after the other.
use Rattle.std.proofs.Common.{◌≡◌, ◌∙◌, ℕ, suc, ◌+◌, ◌<◌, ◌≤◌, true, false, List, [], ◌∷◌, ◌++◌, length, map, drop, get_or, slice_get, refl, sym, ap, subst, arith, append_assoc, append-nil, length-append}
use Rattle.std.specs.Prelude.{cond, nat_eq}
use Rattle.xs_instr.specs.Adds.{Adds}
use Rattle.xs_instr.specs.Lines.{Line}
use Rattle.xc_kernel.specs.declared.kernel.Root.{Root}
use Rattle.xc_kernel.specs.Kernels.{root_of}
use Rattle.xc_kernel.specs.Plain as kernel
use Rattle.xl_expr.specs.declared.plan.Plan.{Plan}
use Rattle.xl_expr.specs.Targets.{AreGoodLines}
use Rattle.xl_expr.proofs.GoodCode.{good_append}
use Rattle.xl_plan.specs.Layout.{temporary_of}
use Rattle.xl_statements.specs.Inside.{StandAlone}
use Rattle.xl_ends.specs.Ends.{Sides}
use Rattle.xl_image.specs.Images.{SidedRoot, root_sides, sided_on, sided_roots}
use Rattle.xl_image.specs.Roots.{AreReady, AreRoots, IsRootCode, most_of_root, most_of_roots}
use Rattle.xl_image.proofs.Sided.{roots_are, root_in, root_known, sided_from_here}

alone_append : (a b : List Line) → StandAlone 0 a → StandAlone (length a) b → StandAlone 0 (a ++ b)
alone_append a b h g = record {
  by = λ size le.
      let l = length-append a b in
      let e : length a ≡ 0 + length a = omega arith in
      good_append size 0 a b (h.by size (omega (arith, l, le))) (subst (λ n. AreGoodLines size n b) e (g.by size (omega (arith, l, le))));
}

-- What the loop keeps: the code so far is that of the roots on the core so far, once the others' comes behind it.
pub record Begun (k : kernel.Kernel) (core : ℕ) (plan : Plan) (all rest : List SidedRoot) (e : List Line) (entries : List ℕ) : Type 0 where
  pub ready : AreReady (map root_in rest)
  pub room : length e + most_of_roots plan.vars (map root_in rest) ≤ most_of_roots plan.vars (map root_in all)
  pub count : length entries + length (sided_on core rest) ≡ length (sided_on core all)
  pub alone : StandAlone 0 e
  pub so : (more : List Line) (later : List ℕ) → AreRoots k core plan (sided_on core rest) (length entries) (length e) more later →
      AreRoots k core plan (sided_on core all) 0 0 (e ++ more) (entries ++ later)

pub begins : (k : kernel.Kernel) (core : ℕ) (plan : Plan) (e : List Line) → e ≡ [] → AreReady k.roots → Begun k core plan (sided_roots k) (sided_roots k) e []
begins k core plan e empty is_ready = subst (λ l. Begun k core plan (sided_roots k) (sided_roots k) l []) (sym empty) (record {
  ready = subst AreReady (sym (roots_are k)) is_ready;
  room = omega arith;
  count = omega arith;
  alone = record { by = λ size le. tt };
  so = λ more later h. h;
})

-- by the roots as they are walked
pub turned : (k : kernel.Kernel) (core : ℕ) (plan : Plan) (rs slice : List Root) (i : ℕ) (x : Root) (e : List Line) (entries : List ℕ) → slice ≡ rs → map root_of rs ≡ k.roots → x ≡ get_or slice i x → i < length slice →
    Begun k core plan (sided_roots k) (drop i (sided_roots k)) e entries → Begun k core plan (sided_roots k) (record { root = root_of x; sides = root_sides k i } ∷ drop (i + 1) (sided_roots k)) e entries
turned k core plan rs slice i x e entries same roots is lt begun =
    let known = ap (λ (l : List kernel.Root). slice_get l i) (sym roots ∙ ap (map root_of) (sym same)) ∙ root_known slice i x is lt in
    subst (λ (l : List SidedRoot). Begun k core plan (sided_roots k) l e entries) (sided_from_here k i (root_of x) known) begun

module _ (k : kernel.Kernel) (core : ℕ) (plan : Plan) (all rest : List SidedRoot) (s : SidedRoot) (e : List Line) (entries : List ℕ)
    (begun : Begun k core plan all (s ∷ rest) e entries) where
  -- a root that is elsewhere
  pub passes : nat_eq s.root.core core ≡ false → Begun k core plan all rest e entries
  passes other =
      let same : sided_on core (s ∷ rest) ≡ sided_on core rest = ap (λ b. cond b (s ∷ sided_on core rest) (sided_on core rest)) other in
      let room = begun.room in
      let count = begun.count in
      record {
        ready = begun.ready.1;
        room = omega arith;
        count = subst (λ ss. length entries + length ss ≡ length (sided_on core all)) same count;
        alone = begun.alone;
        so = λ more later h. begun.so more later (subst (λ ss. AreRoots k core plan ss (length entries) (length e) more later) (sym same) h);
      }

  here_is : nat_eq s.root.core core ≡ true → sided_on core (s ∷ rest) ≡ s ∷ sided_on core rest
  here_is here = ap (λ b. cond b (s ∷ sided_on core rest) (sided_on core rest)) here

  pub is_thread : nat_eq s.root.core core ≡ true → length entries + 1 ≤ length (sided_on core all)
  is_thread here = let l = ap length (here_is here) in let count = begun.count in omega (arith, l, count)

  pub has_room : length e + most_of_root plan.vars s.root ≤ most_of_roots plan.vars (map root_in all)
  has_room = let room = begun.room in omega arith

  -- one that is here
  pub goes_on : nat_eq s.root.core core ≡ true → (e' : List Line) (entries' : List ℕ) (sides : Sides) (word : ℕ) → sides ≡ s.sides → word ≡ temporary_of k core (length entries) → entries' ≡ entries ++ length e ∷ [] →
      Adds e e' (IsRootCode plan sides word s.root (length e)) → Adds e e' (StandAlone (length e)) → length e' ≤ length e + most_of_root plan.vars s.root →
      Begun k core plan all rest e' entries'
  goes_on here e' entries' sides word sides_are word_is entries_are code lone size =
      let l = ap length (here_is here) in
      let count = begun.count in
      let room = begun.room in
      let longer : length entries' ≡ suc (length entries) = ap length entries_are ∙ length-append entries (length e ∷ []) ∙ omega arith in
      let further : length e' ≡ length e + length code.lines = ap length code.is ∙ length-append e code.lines in
      record {
        ready = begun.ready.1;
        room = omega arith;
        count = omega (arith, l, count, longer);
        alone = subst (StandAlone 0) (sym lone.is) (alone_append e lone.lines begun.alone lone.so);
        so = λ more later h.
            let others = subst (λ n. AreRoots k core plan (sided_on core rest) n (length e + length code.lines) more later) longer (subst (λ n. AreRoots k core plan (sided_on core rest) (length entries') n more later) further h) in
            let whole : AreRoots k core plan (s ∷ sided_on core rest) (length entries) (length e) (code.lines ++ more) (length e ∷ later) = record {
              first = code.lines;
              others = more;
              later = later;
              is = refl;
              entry = refl;
              first_is = subst (λ w. IsRootCode plan s.sides w s.root (length e) code.lines) word_is (subst (λ own. IsRootCode plan own word s.root (length e) code.lines) sides_are code.so);
              others_are = others;
            } in
            let done = begun.so (code.lines ++ more) (length e ∷ later) (subst (λ ss. AreRoots k core plan ss (length entries) (length e) (code.lines ++ more) (length e ∷ later)) (sym (here_is here)) whole) in
            let lines : e ++ (code.lines ++ more) ≡ e' ++ more = sym (append_assoc e code.lines more) ∙ ap (λ ls. ls ++ more) (sym code.is) in
            let indices : entries ++ (length e ∷ later) ≡ entries' ++ later = sym (append_assoc entries (length e ∷ []) later) ∙ ap (λ ns. ns ++ later) (sym entries_are) in
            subst (λ ls. AreRoots k core plan (sided_on core all) 0 0 ls (entries' ++ later)) lines (subst (λ ns. AreRoots k core plan (sided_on core all) 0 0 (e ++ (code.lines ++ more)) ns) indices done);
      }

pub ends_so : (k : kernel.Kernel) (core : ℕ) (plan : Plan) (all : List SidedRoot) (e : List Line) (entries : List ℕ) → Begun k core plan all [] e entries → AreRoots k core plan (sided_on core all) 0 0 e entries
ends_so k core plan all e entries begun =
    subst (λ ls. AreRoots k core plan (sided_on core all) 0 0 ls entries) (append-nil e)
    (subst (λ ns. AreRoots k core plan (sided_on core all) 0 0 (e ++ []) ns) (append-nil entries) (begun.so [] [] (refl, refl)))
