-- The code of a root: what sets its stack, and its statements and end behind it.
use Rattle.std.proofs.Common.{◌≡◌, ◌∙◌, ℕ, ◌+◌, ◌*◌, List, [], ◌∷◌, ◌++◌, length, Result, Ok, Err, OnOk, refl, ap, subst, arith, append_assoc, length-append}
use Rattle.xw_words.specs.declared.pos.Pos.{Pos}
use Rattle.xs_instr.specs.declared.instr.Instr.TheVariants.{Ldc, Setsp}
use Rattle.xs_instr.specs.declared.instr.Reg.TheVariants.{R0}
use Rattle.xs_instr.specs.Adds.{Adds}
use Rattle.xs_instr.specs.Lines.{Line, line, last_or, last_pos, first_pos}
use Rattle.xc_kernel.specs.Plain as kernel
use Rattle.xl_expr.specs.declared.plan.Plan.{Plan}
use Rattle.xl_expr.specs.Targets.{AreGoodLines}
use Rattle.xl_ends.specs.Ends.{Sides}
use Rattle.xl_statements.specs.Inside.{StandAlone}
use Rattle.xl_statements.specs.Roots.{IsRoot}
use Rattle.xl_image.specs.Roots.{IsRootCode, stack_code}

-- the place of the last of two lines
last_of_two : (p : Pos) (a : List Line) (l m : Line) → last_or p (a ++ (l ∷ m ∷ [])) ≡ m.pos
last_of_two p [] l m = refl
last_of_two p (x ∷ a) l m = last_of_two x.pos a l m

module _ (word : ℕ) (r : kernel.Root) (e0 e1 e2 : List Line) (at_1 : e1 ≡ e0 ++ stack_code word r.pos) where
  place : last_pos e1 ≡ r.pos
  place = ap last_pos at_1 ∙ last_of_two first_pos e0 (line (Ldc R0 (4 * word)) r.pos) (line (Setsp R0) r.pos)

  pub longer : length e1 ≡ length e0 + 2
  longer = ap length at_1 ∙ length-append e0 (stack_code word r.pos)

  joined : (rest : List Line) → e2 ≡ e1 ++ rest → e2 ≡ e0 ++ (stack_code word r.pos ++ rest)
  joined rest e = e ∙ ap (λ ls. ls ++ rest) at_1 ∙ append_assoc e0 (stack_code word r.pos) rest

  pub thread_code : (plan : Plan) (sides : Sides) → Adds e1 e2 (IsRoot plan sides r.body r.pos (last_pos e1) (length e1)) → Adds e0 e2 (IsRootCode plan sides word r (length e0))
  thread_code plan sides a = record {
    lines = stack_code word r.pos ++ a.lines;
    is = joined a.lines a.is;
    so = record {
      rest = a.lines;
      is = refl;
      root = subst (λ n. IsRoot plan sides r.body r.pos r.pos n a.lines) longer (subst (λ p. IsRoot plan sides r.body r.pos p (length e1) a.lines) place a.so);
    };
  }

  pub thread_alone : Adds e1 e2 (StandAlone (length e1)) → Adds e0 e2 (StandAlone (length e0))
  thread_alone a = record {
    lines = stack_code word r.pos ++ a.lines;
    is = joined a.lines a.is;
    so = record {
      by = λ size le.
          let n : length e1 ≡ length e0 + 1 + 1 = longer ∙ (let z : length e0 + 2 ≡ length e0 + 1 + 1 = omega arith in z) in
          (tt, refl, (tt, refl, subst (λ m. AreGoodLines size m a.lines) n (a.so.by size (let l = longer in omega (arith, le, l)))));
    };
  }

pub on_ok : {A B : Type 0} (r : Result A B) (P Q : Type 0) → OnOk r P → (P → Q) → OnOk r Q
on_ok (Ok x) P Q h f = f h
on_ok (Err x) P Q h f = tt
