-- Where the lines of a core's roots are its code, each statement's piece stands.
use Rattle.std.specs.List.{All, Contains}
use Rattle.std.proofs.Common.{true, ◌≡◌, ◌∙◌, ℕ, zero, suc, ◌+◌, ◌*◌, List, [], ◌∷◌, ◌++◌, length, map, Some, slice_get, refl, sym, ap, subst, arith, append_assoc, length-append}
use Rattle.xs_instr.specs.declared.image.Code.{Code}
use Rattle.xs_instr.specs.declared.image.CoreImage.{CoreImage}
use Rattle.xs_instr.specs.declared.image.Image.{Image}
use Rattle.xs_instr.specs.declared.instr.Instr.TheVariants.{Ldc}
use Rattle.xs_instr.specs.declared.instr.Reg.TheVariants.{R0}
use Rattle.xs_instr.specs.Lines.{Line, instr_of, pos_of}
use Rattle.xs_instr.specs.OwnSteps.{StandAt}
use Rattle.xc_kernel.specs.Plain as kernel
use Rattle.xl_expr.specs.declared.plan.Plan.{Plan}
use Rattle.xl_expr.proofs.Lists.{stand_front, stand_back}
use Rattle.xl_plan.specs.Layout.{temporary_of}
use Rattle.xl_plan.proofs.Lists.{some_given, none_given, contains_at}
use Rattle.xl_statements.proofs.Stands as walk
use Rattle.xc_disjoint.specs.Checked.{IsChecked}
use Rattle.xl_image.specs.Images.{IsCoreImage, IsImage, SidedRoot, pairs_below, root_sides, roots_on, sided_on, sided_roots, thread_of}
use Rattle.xl_image.specs.Parts.{IsPartOf, cores_of, is_some_root, number_of}
use Rattle.xl_image.specs.Roots.{AreRoots, IsRootCode, stack_code}
use Rattle.xl_image.proofs.GoodParts.{as_many}
use Rattle.xl_image.proofs.Rooted.{core_listed}
use Rattle.xl_image.proofs.Sided.{as_many_there, sided_there}

at_behind : {A B : Type 0} (f : A → B) (xs ys : List A) (y : A) → slice_get (map f (xs ++ (y ∷ ys))) (length xs) ≡ Some (f y)
at_behind f [] ys y = refl
at_behind f (x ∷ xs) ys y = at_behind f xs ys y

-- the lines of a code stand in it
stand_behind : (code : Code) (front ls : List Line) → code.instrs ≡ map instr_of (front ++ ls) → code.«at» ≡ map pos_of (front ++ ls) → StandAt code (length front) ls
stand_behind code front [] is at = tt
stand_behind code front (l ∷ ls) is at =
    let cut : front ++ (l ∷ ls) ≡ (front ++ l ∷ []) ++ ls = sym (append_assoc front (l ∷ []) ls) in
    let one : length (front ++ l ∷ []) ≡ length front + 1 = length-append front (l ∷ []) in (
      ap (λ xs. slice_get xs (length front)) is ∙ at_behind instr_of front ls l,
      ap (λ xs. slice_get xs (length front)) at ∙ at_behind pos_of front ls l,
      subst (λ n. StandAt code n ls) one (stand_behind code (front ++ l ∷ []) ls (is ∙ ap (map instr_of) cut) (at ∙ ap (map pos_of) cut)),
    )

-- the root at a place, its index and its lines
record Found (k : kernel.Kernel) (core : ℕ) (plan : Plan) (code : Code) (entries : List ℕ) (thread place : ℕ) (s : SidedRoot) : Type 0 where
  index : ℕ
  listed : slice_get entries place ≡ Some index
  lines : List Line
  stand : StandAt code index lines
  is : IsRootCode plan s.sides (temporary_of k core thread) s.root index lines

module _ (k : kernel.Kernel) (core : ℕ) (plan : Plan) (code : Code) where
  found : (ss : List SidedRoot) (thread pc : ℕ) (lines : List Line) (entries : List ℕ) → AreRoots k core plan ss thread pc lines entries → StandAt code pc lines →
      (place : ℕ) (s : SidedRoot) → slice_get ss place ≡ Some s → Found k core plan code entries (thread + place) place s
  found [] thread pc lines entries h stand place s e = absurd (none_given e)
  found (q ∷ ss) thread pc lines entries h stand zero s e = record {
    index = pc;
    listed = ap (λ ns. slice_get ns 0) h.entry;
    lines = h.first;
    stand = stand_front code pc h.first h.others (subst (StandAt code pc) h.is stand);
    is = subst (λ n. IsRootCode plan s.sides (temporary_of k core n) s.root pc h.first) (let z : thread ≡ thread + 0 = omega arith in z) (subst (λ (x : SidedRoot). IsRootCode plan x.sides (temporary_of k core thread) x.root pc h.first) (some_given e) h.first_is);
  }
  found (q ∷ ss) thread pc lines entries h stand (suc place) s e =
      let f = found ss (suc thread) (pc + length h.first) h.others h.later h.others_are (stand_back code pc h.first h.others (subst (StandAt code pc) h.is stand)) place s e in
      record {
        index = f.index;
        listed = ap (λ ns. slice_get ns (suc place)) h.entry ∙ f.listed;
        lines = f.lines;
        stand = f.stand;
        is = subst (λ n. IsRootCode plan s.sides (temporary_of k core n) s.root f.index f.lines) (let z : suc thread + place ≡ thread + suc place = omega arith in z) f.is;
      }

pub core_imaged : (k : kernel.Kernel) (part : CoreImage) → IsPartOf k part.number part → IsCoreImage k part
core_imaged k part is = record {
  plan = is.code.plan;
  planned = is.code.planned;
  words = is.words;
  timers = is.timers;
  ends = is.ends;
  ports = is.ports;
  as_many = as_many k part.number is.code.plan (sided_on part.number (sided_roots k)) 0 0 is.code.lines part.roots is.code.roots ∙ as_many_there k part.number;
  roots = λ number r known here.
      let place = thread_of part.number k.roots number in
      let sides = root_sides k number in
      let f = found k part.number is.code.plan part.code (sided_on part.number (sided_roots k)) 0 0 is.code.lines part.roots is.code.roots (stand_behind part.code [] is.code.lines is.code.instrs is.code.places) place (record { root = r; sides = sides }) (sided_there k part.number number r known here) in
      let all = subst (StandAt part.code f.index) f.is.is f.stand in
      let rest = stand_back part.code f.index (stack_code (temporary_of k part.number (0 + place)) r.pos) f.is.rest all in
      let root = walk.roots_stand part.code is.code.plan sides r.body r.pos r.pos (f.index + 2) f.is.rest f.is.root rest in
      let same : 0 + place ≡ place = omega arith in
      record {
        index = f.index;
        listed = f.listed;
        stack = subst (λ n. slice_get part.code.instrs f.index ≡ Some (Ldc R0 (4 * temporary_of k part.number n))) same all.0;
        set = all.2.0;
        behind = root.done;
        body = root.pieces;
        end = root.ends_here.0;
      };
}

-- The whole image.

part_at : (cores : List CoreImage) (j c : ℕ) → slice_get (map number_of cores) j ≡ Some c → (part : CoreImage) × (slice_get cores j ≡ Some part) × (part.number ≡ c)
part_at [] j c e = absurd (none_given e)
part_at (part ∷ cores) zero c e = (part, refl, some_given e)
part_at (part ∷ cores) (suc j) c e = part_at cores j c e

some_by : (rs : List kernel.Root) (r : kernel.Root) → Contains rs r → is_some_root rs ≡ true
some_by [] r c = let l = c.1 in absurd (let z : ⊥ = omega (arith, l) in z)
some_by (q ∷ rs) r c = refl

pub imaged : (k : kernel.Kernel) → IsChecked k → (image : Image) → map number_of image.cores ≡ cores_of k → All (λ (part : CoreImage). IsPartOf k part.number part) image.cores → image.chans ≡ pairs_below k (length k.channels) → IsImage k image
imaged k checked image numbers parts channels = record {
  cores = λ core r among.
      let at = core_listed k checked core (some_by (roots_on core k.roots) r among) in
      let p = part_at image.cores at.0 core (ap (λ ns. slice_get ns at.0) numbers ∙ at.1) in
      (p.0, contains_at image.cores at.0 p.0 p.1, p.2);
  parts = λ part among. core_imaged k part (subst (λ (p : CoreImage). IsPartOf k p.number p) among.2 (parts among.0 part among.1));
  channels = channels;
}
