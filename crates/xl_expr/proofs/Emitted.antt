-- Pieces that are emitted one after another, and holes that land.
use Rattle.std.proofs.Common.{◌≡◌, ℕ, ◌+◌, Bool, List, [], ◌∷◌, ◌++◌, length, Option, Some, None, Result, Ok, Err, refl, sym, ap, ◌∙◌, subst, arith, append-nil, append_assoc, length-append}
use Rattle.std.specs.Prelude.{slice_get, slice_set, OnOk, OnErr}
use Rattle.xw_words.specs.declared.pos.Pos.{Pos}
use Rattle.xs_instr.specs.declared.instr.Instr.{Instr}
use Rattle.xs_instr.specs.declared.instr.Instr.TheVariants.{Ldwsp, Stwsp, Brff, Brfu}
use Rattle.xs_instr.specs.declared.instr.Reg.{Reg}
use Rattle.xs_instr.specs.declared.instr.Reg.TheVariants.{R0, R11}
use Rattle.xs_instr.specs.Lines.{Line, line, open_line, aimed, with_target, IsOpen, IsOpenLine, landed, landed_at, at_pos, first_pos, last_or, last_pos}
use Rattle.xc_kernel.specs.Operators as operator
use Rattle.xl_expr.specs.declared.direct_operand.Direct.{Direct}
use Rattle.xl_expr.specs.Code.{Piece, added, added_to, after_main, joined_code, made_truth, main_instr, moved_to, short_code, two_tail, brought, direct_tail, with_move}
use Rattle.xs_instr.specs.Extends.{Extends}
use Rattle.xl_expr.specs.Parts.{aimed_code, either_code}

pub at_pos-append : (pos : Pos) (a b : List Instr) → at_pos pos (a ++ b) ≡ at_pos pos a ++ at_pos pos b
at_pos-append pos [] b = refl
at_pos-append pos (i ∷ a) b = ap (λ ls. line i pos ∷ ls) (at_pos-append pos a b)

-- the line behind some others
get_behind : (front : List Line) (l : Line) (rest : List Line) → slice_get (front ++ l ∷ rest) (length front) ≡ Some l
get_behind [] l rest = refl
get_behind (x ∷ front) l rest = get_behind front l rest

set_behind : (front : List Line) (l m : Line) (rest : List Line) → slice_set (front ++ l ∷ rest) (length front) m ≡ front ++ m ∷ rest
set_behind [] l m rest = refl
set_behind (x ∷ front) l m rest = ap (λ ls. x ∷ ls) (set_behind front l m rest)

-- a hole that was made behind some lines is open
pub open_behind : (front rest ls : List Line) (h : ℕ) (i : Instr) (pos : Pos) → h ≡ length front → ls ≡ front ++ open_line i pos ∷ rest → IsOpen ls h
open_behind front rest ls h i pos e f =
    subst (λ l. IsOpen l h) (sym f) (subst (λ n. IsOpen (front ++ open_line i pos ∷ rest) n) (sym e) (open_here (slice_get (front ++ open_line i pos ∷ rest) (length front)) (get_behind front (open_line i pos) rest)))
  where
    open_here : (x : Option Line) → x ≡ Some (open_line i pos) → IsOpenLine x
    open_here x g = subst IsOpenLine (sym g) refl

-- and lands so
pub landed_behind : (front rest ls : List Line) (h n : ℕ) (i : Instr) (pos : Pos) → h ≡ length front → ls ≡ front ++ open_line i pos ∷ rest → landed ls h n ≡ front ++ line (with_target i n) pos ∷ rest
landed_behind front rest ls h n i pos e f =
    ap (λ l. landed l h n) f
    ∙ ap (λ k. landed (front ++ open_line i pos ∷ rest) k n) e
    ∙ ap (landed_at (front ++ open_line i pos ∷ rest) (length front) n) (get_behind front (open_line i pos) rest)
    ∙ set_behind front (open_line i pos) (aimed (open_line i pos) n) rest

-- the place behind lines
pub last_append : (last : Pos) (a b : List Line) → last_or last (a ++ b) ≡ last_or (last_or last a) b
last_append last [] b = refl
last_append last (l ∷ a) b = last_append l.pos a b

pub last_added : (old new more : List Line) → new ≡ old ++ more → last_pos new ≡ last_or (last_pos old) more
last_added old new more h = ap last_pos h ∙ last_append first_pos old more

-- code, and the move behind it
pub move_emitted : (to : Reg) (behind : Pos) (old e1 e2 ls : List Line) → e1 ≡ old ++ ls → behind ≡ last_pos e1 → e2 ≡ e1 ++ at_pos behind (moved_to to) → e2 ≡ old ++ with_move to (last_pos old) ls
move_emitted to behind old e1 e2 ls h1 at_last h2 =
    h2
    ∙ ap (λ p. e1 ++ at_pos p (moved_to to)) (at_last ∙ last_added old e1 ls h1)
    ∙ ap (λ x. x ++ at_pos (last_or (last_pos old) ls) (moved_to to)) h1
    ∙ append_assoc old ls (at_pos (last_or (last_pos old) ls) (moved_to to))

-- one more line is one more
pub one_longer : (old new : List Line) (l : Line) → new ≡ old ++ l ∷ [] → length new ≡ length old + 1
one_longer old new l e = ap length e ∙ length-append old (l ∷ [])

-- a line and what follows it
pub behind_line : (old e1 e2 : List Line) (l : Line) (b : ℕ → List Line) → e1 ≡ old ++ l ∷ [] → e2 ≡ e1 ++ b (length e1) → e2 ≡ old ++ l ∷ b (length old + 1)
behind_line old e1 e2 l b h g =
    g
    ∙ ap (λ n. e1 ++ b n) (one_longer old e1 l h)
    ∙ ap (λ x. x ++ b (length old + 1)) h
    ∙ append_assoc old (l ∷ []) (b (length old + 1))

-- code behind code
pub then_code : (old e1 e2 c : List Line) (f : ℕ → List Line) → e1 ≡ old ++ c → e2 ≡ e1 ++ f (length e1) → e2 ≡ old ++ (c ++ f (length old + length c))
then_code old e1 e2 c f h g =
    g
    ∙ ap (λ n. e1 ++ f n) (ap length h ∙ length-append old c)
    ∙ ap (λ x. x ++ f (length old + length c)) h
    ∙ append_assoc old c (f (length old + length c))

-- the code behind the first of two operands: kept
pub kept_emitted : (o : operator.Operator) (u : Bool) (pos : Pos) (k : ℕ) (old e1 e2 e3 e4 : List Line) (b : ℕ → List Line) → e1 ≡ old ++ line (Stwsp R0 k) pos ∷ [] → e2 ≡ e1 ++ b (length e1) → e3 ≡ e2 ++ at_pos pos (Ldwsp R11 k ∷ main_instr o u R11 R0 ∷ []) → e4 ≡ e3 ++ at_pos pos (after_main o R11 R0) → e4 ≡ old ++ aimed_code (λ target. Stwsp R0 k) pos b (Ldwsp R11 k ∷ two_tail o u R11 R0) (length old)
kept_emitted o u pos k old e1 e2 e3 e4 b h1 h2 h3 h4 =
    let two = Ldwsp R11 k ∷ main_instr o u R11 R0 ∷ [] in
    let rest = after_main o R11 R0 in
    let l = line (Stwsp R0 k) pos in
    let cb = b (length old + 1) in
    h4
    ∙ ap (λ x. x ++ at_pos pos rest) h3
    ∙ append_assoc e2 (at_pos pos two) (at_pos pos rest)
    ∙ ap (λ x. e2 ++ x) (sym (at_pos-append pos two rest))
    ∙ ap (λ x. x ++ at_pos pos (two ++ rest)) (behind_line old e1 e2 l b h1 h2)
    ∙ append_assoc old (l ∷ cb) (at_pos pos (two ++ rest))

-- a direct operand's tail, by its two parts
pub tail_emitted : (o : operator.Operator) (u : Bool) (pos : Pos) (d : Direct) (a b : Reg) (old e1 e2 : List Line) → e1 ≡ old ++ at_pos pos (brought d R11 ∷ main_instr o u a b ∷ []) → e2 ≡ e1 ++ at_pos pos (after_main o a b) → e2 ≡ old ++ at_pos pos (direct_tail o u d None a b)
tail_emitted o u pos d a b old e1 e2 h1 h2 =
    h2 ∙ ap (λ x. x ++ at_pos pos (after_main o a b)) h1 ∙ append_assoc old (at_pos pos (brought d R11 ∷ main_instr o u a b ∷ [])) (at_pos pos (after_main o a b))

-- the code behind the first operand of `&&` or `||`
module _ (jump : Instr) (pos : Pos) (old e1 e2 : List Line) (b : ℕ → List Line) (h : ℕ) (h_is : h ≡ length old) (h1 : e1 ≡ old ++ open_line jump pos ∷ []) (h2 : e2 ≡ e1 ++ b (length e1)) where
  mid : e2 ≡ old ++ open_line jump pos ∷ b (length old + 1)
  mid = behind_line old e1 e2 (open_line jump pos) b h1 h2

  pub short_open : IsOpen e2 h
  short_open = open_behind old (b (length old + 1)) e2 h jump pos h_is mid

  target_is : length e2 ≡ length old + 1 + length (b (length old + 1))
  target_is = omega (arith, ap length mid, length-append old (open_line jump pos ∷ b (length old + 1)))

  landed_is : (e3 : List Line) → e3 ≡ landed e2 h (length e2) → e3 ≡ old ++ line (with_target jump (length old + 1 + length (b (length old + 1)))) pos ∷ b (length old + 1)
  landed_is e3 h3 =
      h3 ∙ landed_behind old (b (length old + 1)) e2 h (length e2) jump pos h_is mid ∙ ap (λ n. old ++ line (with_target jump n) pos ∷ b (length old + 1)) target_is

  pub short_emitted : (e3 e4 : List Line) (tail : List Instr) → e3 ≡ landed e2 h (length e2) → e4 ≡ e3 ++ at_pos pos tail → e4 ≡ old ++ aimed_code (with_target jump) pos b tail (length old)
  short_emitted e3 e4 tail h3 h4 =
      h4 ∙ ap (λ x. x ++ at_pos pos tail) (landed_is e3 h3) ∙ append_assoc old (line (with_target jump (length old + 1 + length (b (length old + 1)))) pos ∷ b (length old + 1)) (at_pos pos tail)

  pub short_extends : (e3 e4 : List Line) → e3 ≡ landed e2 h (length e2) → Extends e3 e4 → Extends old e4
  short_extends e3 e4 h3 x =
      let ls = line (with_target jump (length old + 1 + length (b (length old + 1)))) pos ∷ b (length old + 1) in
      record { more = ls ++ x.more; is = x.is ∙ ap (λ y. y ++ x.more) (landed_is e3 h3) ∙ append_assoc old ls x.more }

  pub short_length : (e3 : List Line) → e3 ≡ landed e2 h (length e2) → length e3 ≡ length e2
  short_length e3 h3 = omega (arith, ap length (landed_is e3 h3), ap length mid, length-append old (open_line jump pos ∷ b (length old + 1)), length-append old (line (with_target jump (length old + 1 + length (b (length old + 1)))) pos ∷ b (length old + 1)))

-- the code behind the test of `? :`
module _ (pos : Pos) (old e1 e2 e3 e4 : List Line) (b : ℕ → List Line) (g h : ℕ) (g_is : g ≡ length old) (h_is : h ≡ length e2) (h1 : e1 ≡ old ++ open_line (Brff R0 0) pos ∷ []) (h2 : e2 ≡ e1 ++ b (length e1)) (h3 : e3 ≡ e2 ++ open_line (Brfu 0) pos ∷ []) where
  up_to : e3 ≡ old ++ open_line (Brff R0 0) pos ∷ (b (length old + 1) ++ open_line (Brfu 0) pos ∷ [])
  up_to = h3 ∙ ap (λ x. x ++ open_line (Brfu 0) pos ∷ []) (behind_line old e1 e2 (open_line (Brff R0 0) pos) b h1 h2) ∙ append_assoc old (open_line (Brff R0 0) pos ∷ b (length old + 1)) (open_line (Brfu 0) pos ∷ [])

  pub past_open : IsOpen e3 g
  past_open = open_behind old (b (length old + 1) ++ open_line (Brfu 0) pos ∷ []) e3 g (Brff R0 0) pos g_is up_to

  length2 : length e2 ≡ length old + 1 + length (b (length old + 1))
  length2 = omega (arith, ap length (behind_line old e1 e2 (open_line (Brff R0 0) pos) b h1 h2), length-append old (open_line (Brff R0 0) pos ∷ b (length old + 1)))

  pub length3 : length e3 ≡ length e2 + 1
  length3 = one_longer e2 e3 (open_line (Brfu 0) pos) h3

  aim_is : length e3 ≡ length old + 1 + length (b (length old + 1)) + 1
  aim_is = omega (arith, length2, length3)

  module _ (h4 : e4 ≡ landed e3 g (length e3)) where
    abbrev first_line : Line
    first_line = line (Brff R0 (length old + 1 + length (b (length old + 1)) + 1)) pos

    half : e4 ≡ (old ++ first_line ∷ b (length old + 1)) ++ open_line (Brfu 0) pos ∷ []
    half =
        h4
        ∙ landed_behind old (b (length old + 1) ++ open_line (Brfu 0) pos ∷ []) e3 g (length e3) (Brff R0 0) pos g_is up_to
        ∙ ap (λ n. old ++ line (Brff R0 n) pos ∷ (b (length old + 1) ++ open_line (Brfu 0) pos ∷ [])) aim_is
        ∙ sym (append_assoc old (first_line ∷ b (length old + 1)) (open_line (Brfu 0) pos ∷ []))

    front_length : length (old ++ first_line ∷ b (length old + 1)) ≡ length e2
    front_length = omega (arith, length-append old (first_line ∷ b (length old + 1)), length2)

    pub length4 : length e4 ≡ length e3
    length4 = omega (arith, one_longer (old ++ first_line ∷ b (length old + 1)) e4 (open_line (Brfu 0) pos) half, front_length, length3)

    pub choice_extends : (e5 : List Line) → Extends e4 e5 → Extends old e5
    choice_extends e5 x =
        let ls = (first_line ∷ b (length old + 1)) ++ open_line (Brfu 0) pos ∷ [] in
        record { more = ls ++ x.more; is = x.is ∙ ap (λ y. y ++ x.more) (half ∙ append_assoc old (first_line ∷ b (length old + 1)) (open_line (Brfu 0) pos ∷ [])) ∙ append_assoc old ls x.more }

    module _ (e5 : List Line) (d : ℕ → List Line) (h5 : e5 ≡ e4 ++ d (length e4)) where
      d_at : length e4 ≡ length old + 1 + length (b (length old + 1)) + 1
      d_at = omega (arith, length4, aim_is)

      abbrev third : List Line
      third = d (length old + 1 + length (b (length old + 1)) + 1)

      whole : e5 ≡ (old ++ first_line ∷ b (length old + 1)) ++ open_line (Brfu 0) pos ∷ third
      whole =
          h5
          ∙ ap (λ n. e4 ++ d n) d_at
          ∙ ap (λ x. x ++ third) half
          ∙ append_assoc (old ++ first_line ∷ b (length old + 1)) (open_line (Brfu 0) pos ∷ []) third

      pub over_open : IsOpen e5 h
      over_open = open_behind (old ++ first_line ∷ b (length old + 1)) third e5 h (Brfu 0) pos (h_is ∙ sym front_length) whole

      end_is : length e5 ≡ length old + 1 + length (b (length old + 1)) + 1 + length third
      end_is = omega (arith, ap length whole, length-append (old ++ first_line ∷ b (length old + 1)) (open_line (Brfu 0) pos ∷ third), front_length, length2)

      pub choice_emitted : (e6 : List Line) → e6 ≡ landed e5 h (length e5) → e6 ≡ old ++ either_code pos b d (length old)
      choice_emitted e6 h6 =
          h6
          ∙ landed_behind (old ++ first_line ∷ b (length old + 1)) third e5 h (length e5) (Brfu 0) pos (h_is ∙ sym front_length) whole
          ∙ ap (λ n. (old ++ first_line ∷ b (length old + 1)) ++ line (Brfu n) pos ∷ third) end_is
          ∙ append_assoc old (first_line ∷ b (length old + 1)) (line (Brfu (length old + 1 + length (b (length old + 1)) + 1 + length third)) pos ∷ third)

pub two_longer : (old new : List Line) (l m : Line) → new ≡ old ++ l ∷ m ∷ [] → length new ≡ length old + 2
two_longer old new l m e = ap length e ∙ length-append old (l ∷ m ∷ [])

-- a clause on an error holds where its fact does
pub on_err : {A B : Type 0} (r : Result A B) (P : Type 0) → P → OnErr r P
on_err (Ok x) P h = tt
on_err (Err x) P h = h

-- lines that were refused behind others extend these
pub same_extends : (old new : List Line) → new ≡ old → Extends old new
same_extends old new e = record { more = []; is = e ∙ sym (append-nil old) }

pub behind_extends : (old held new ls : List Line) → held ≡ old ++ ls → Extends held new → Extends old new
behind_extends old held new ls e x = record { more = ls ++ x.more; is = x.is ∙ ap (λ y. y ++ x.more) e ∙ append_assoc old ls x.more }

pub on_err_behind : {A B : Type 0} (r : Result A B) (old held new ls : List Line) → held ≡ old ++ ls → OnErr r (Extends held new) → OnErr r (Extends old new)
on_err_behind (Ok x) old held new ls e h = tt
on_err_behind (Err x) old held new ls e h = behind_extends old held new ls e h

-- lines that were added are these, and so with others before them
pub on_code : {A B : Type 0} (r : Result A B) (old new a b : List Line) → a ≡ b → OnOk r (new ≡ old ++ a) → OnOk r (new ≡ old ++ b)
on_code (Ok x) old new a b e h = h ∙ ap (λ ls. old ++ ls) e
on_code (Err x) old new a b e h = tt

pub on_code_behind : {A B : Type 0} (r : Result A B) (old held new a b : List Line) (f : ℕ → List Line) → held ≡ old ++ a → a ++ f (length old + length a) ≡ b → OnOk r (new ≡ held ++ f (length held)) → OnOk r (new ≡ old ++ b)
on_code_behind (Ok x) old held new a b f h e g = then_code old held new a f h g ∙ ap (λ ls. old ++ ls) e
on_code_behind (Err x) old held new a b f h e g = tt

-- and so behind the code of an operation's first operand
module _ (o : operator.Operator) (u : Bool) (pos : Pos) (a b : Piece) (d e : Option Direct) (k here : ℕ) (last : Pos) where
  pub second_direct : (operand : Direct) (sum : Option ℕ) → e ≡ Some operand → sum ≡ added o operand → a k here last ++ at_pos pos (direct_tail o u operand sum R0 R11) ≡ joined_code o u pos a b d e k here last
  second_direct operand sum f g =
      ap (λ (s : Option ℕ). a k here last ++ at_pos pos (direct_tail o u operand s R0 R11)) g
      ∙ ap (λ (x : Option Direct). joined_code o u pos a b d x k here last) (sym f)

  pub first_direct : (operand : Direct) (sum : Option ℕ) → d ≡ Some operand → e ≡ None → sum ≡ added_to o operand → b k here last ++ at_pos pos (direct_tail o u operand sum R11 R0) ≡ joined_code o u pos a b d e k here last
  first_direct operand sum f none g =
      ap (λ (s : Option ℕ). b k here last ++ at_pos pos (direct_tail o u operand s R11 R0)) g
      ∙ ap (λ (x : Option Direct). joined_code o u pos a b x None k here last) (sym f)
      ∙ ap (λ (x : Option Direct). joined_code o u pos a b d x k here last) (sym none)

  pub none_direct : d ≡ None → e ≡ None → a k here last ++ aimed_code (λ target. Stwsp R0 k) pos (λ n. b (k + 1) n pos) (Ldwsp R11 k ∷ two_tail o u R11 R0) (here + length (a k here last)) ≡ joined_code o u pos a b d e k here last
  none_direct f g =
      let cb = b (k + 1) (here + length (a k here last) + 1) pos in
      sym (append_assoc (a k here last) (line (Stwsp R0 k) pos ∷ cb) (at_pos pos (Ldwsp R11 k ∷ two_tail o u R11 R0)))
      ∙ ap (λ (x : Option Direct). joined_code o u pos a b x None k here last) (sym f)
      ∙ ap (λ (x : Option Direct). joined_code o u pos a b d x k here last) (sym g)

pub short_chained : (jump : ℕ → Instr) (pos : Pos) (a b : Piece) (k here : ℕ) (last : Pos) → a k here last ++ aimed_code jump pos (λ n. b (k + 1) n pos) made_truth (here + length (a k here last)) ≡ short_code jump pos a b k here last
short_chained jump pos a b k here last =
    let here' = here + length (a k here last) in
    let cb = b (k + 1) (here' + 1) pos in
    sym (append_assoc (a k here last) (line (jump (here' + 1 + length cb)) pos ∷ cb) (at_pos pos made_truth))
