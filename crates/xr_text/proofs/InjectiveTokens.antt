-- Texts without separators, and how a text is cut at its first separator.
use Rattle.std.proofs.Common.{◌≡◌, ℕ, zero, suc, ◌+◌, ◌%◌, ◌<◌, ◌^◌, Bool, true, false, ◌&&◌, ◌||◌, List, [], ◌∷◌, ◌++◌, length, refl, sym, ◌∙◌, ap, arith, if◌then◌else◌, bytes_eq, nat_lt, inl, inr, subst}
use Rattle.std.proofs.lemmas.Fmt.{decimal_by_steps, decimal_is_IsNumeral, decimal_nonempty}
use Rattle.std.proofs.lemmas.Bool.{cases_eq}
use Rattle.std.proofs.lemmas.Bool.Decides.{nat_tests}
use Rattle.std.specs.Prelude.{codes, decimal}
use Rattle.std.specs.Str.Parse.{digits_value}
use Rattle.xs_instr.specs.declared.image.Dir.{Dir}
use Rattle.xs_instr.specs.declared.image.Dir.TheVariants.{In as DirIn, Out as DirOut, Both as DirBoth}
use Rattle.xs_instr.specs.declared.instr.Cond.{Cond}
use Rattle.xs_instr.specs.declared.instr.Cond.TheVariants.{None as CondNone, Eq as CondEq, Neq as CondNeq, After as CondAfter}
use Rattle.xs_instr.specs.declared.instr.GetKind.{GetKind}
use Rattle.xs_instr.specs.declared.instr.GetKind.TheVariants.{Sync as GetSync, Lock as GetLock}
use Rattle.xs_instr.specs.declared.instr.Reg.{Reg}
use Rattle.xs_instr.specs.declared.instr.Reg.TheVariants.{R0, R1, R2, R3, R4, R5, R6, R7, R8, R9, R10, R11, Cp, Dp, Sp, Lr}
use Rattle.xs_instr.specs.Texts.{cond_text, dir_text, get_text, reg_text}
use Rattle.xw_words.specs.Ports.{port_text}

-- a digit or a letter, and no separator
unfoldable pub is_inside : ℕ → Bool
is_inside b = nat_lt 47 b && (nat_lt b 58 || nat_lt 64 b)

-- no byte is a separator
abbrev pub all_inside : List ℕ → Bool
all_inside [] = true
all_inside (b ∷ bs) = is_inside b && all_inside bs

-- a separator begins it, or it is empty
abbrev pub Apart : List ℕ → Type 0
Apart [] = Unit {0}
Apart (b ∷ bs) = is_inside b ≡ false

pub feed_apart : is_inside 10 ≡ false
unfolding is_inside
feed_apart = refl

pub space_apart : is_inside 32 ≡ false
unfolding is_inside
space_apart = refl

pub comma_apart : is_inside 44 ≡ false
unfolding is_inside
comma_apart = refl

pub dot_apart : is_inside 46 ≡ false
unfolding is_inside
dot_apart = refl

pub colon_apart : is_inside 58 ≡ false
unfolding is_inside
colon_apart = refl

pub at_apart : is_inside 64 ≡ false
unfolding is_inside
at_apart = refl

pub and_first : (a b : Bool) → (a && b) ≡ true → a ≡ true
and_first true b h = refl
and_first false b h = h

and_second : (a b : Bool) → (a && b) ≡ true → b ≡ true
and_second true b h = h
and_second false b h = absurd (cc)

pub head_is : (a b : ℕ) (x y : List ℕ) → a ∷ x ≡ b ∷ y → a ≡ b
head_is a b x y e = cc

pub tail_is : (a b : ℕ) (x y : List ℕ) → a ∷ x ≡ b ∷ y → x ≡ y
tail_is a b x y e = cc

apart_ne : (b : ℕ) (r x : List ℕ) → Apart x → is_inside b ≡ true → x ≡ b ∷ r → ⊥
apart_ne b r [] g h e = absurd (cc)
apart_ne b r (c ∷ x) g h e = let c_is : c ≡ b = head_is c b x r e in let same = ap is_inside c_is in absurd (cc)

-- each text is cut in one way where a separator stands next
pub cut : (s t x y : List ℕ) → all_inside s ≡ true → all_inside t ≡ true → Apart x → Apart y → s ++ x ≡ t ++ y → (s ≡ t) × (x ≡ y)
cut [] [] x y p q g h e = (refl, e)
cut [] (b ∷ t) x y p q g h e = absurd (apart_ne b (t ++ y) x g (and_first (is_inside b) (all_inside t) q) e)
cut (a ∷ s) [] x y p q g h e = absurd (apart_ne a (s ++ x) y h (and_first (is_inside a) (all_inside s) p) (sym e))
cut (a ∷ s) (b ∷ t) x y p q g h e =
    let r : (s ≡ t) × (x ≡ y) = cut s t x y (and_second (is_inside a) (all_inside s) p) (and_second (is_inside b) (all_inside t) q) g h (tail_is a b (s ++ x) (t ++ y) e) in
    let first : a ≡ b = head_is a b (s ++ x) (t ++ y) e in
    let rest : s ≡ t = r.0 in (cc, r.1)

digit_inside : (d : ℕ) → d < 10 → is_inside (48 + d) ≡ true
unfolding is_inside
digit_inside d h = grind (arith, nat_tests)

inside-append : (s t : List ℕ) → all_inside s ≡ true → all_inside t ≡ true → all_inside (s ++ t) ≡ true
inside-append [] t p q = q
inside-append (a ∷ s) t p q = both (is_inside a) (all_inside s) (all_inside (s ++ t)) p (λ r. inside-append s t r q)
  where
    both : (a b c : Bool) → (a && b) ≡ true → (b ≡ true → c ≡ true) → (a && c) ≡ true
    both true b c h go = go h
    both false b c h go = h

and_true : (a : Bool) → a ≡ true → (a && true) ≡ true
and_true true h = refl
and_true false h = h

pub decimal_inside : (n : ℕ) → n < 2 ^ 64 → all_inside (decimal n) ≡ true
decimal_inside n h =
    decimal_by_steps (λ n ds. all_inside ds ≡ true) (λ n h. and_true (is_inside (48 + n)) (digit_inside n h))
    (λ n ds ge ih. inside-append ds ((48 + n % 10) ∷ []) ih (and_true (is_inside (48 + n % 10)) (digit_inside (n % 10) (omega arith)))) n h

-- a decimal number is not empty
pub decimal_some : (n : ℕ) → n < 2 ^ 64 → decimal n ≡ [] → ⊥
decimal_some n h e = let some : 0 < length (decimal n) = decimal_nonempty n h in let none = ap length e in absurd (omega arith)

pub word_wide : (n : ℕ) → n < 2 ^ 32 → n < 2 ^ 64
word_wide n h = omega arith

-- the number that a text writes
unfoldable pub number_of : List ℕ → ℕ
number_of t = digits_value 10 t

pub number_of-decimal : (n : ℕ) → n < 2 ^ 64 → number_of (decimal n) ≡ n
unfolding number_of
number_of-decimal n h = (decimal_is_IsNumeral n h).1

pub decimal_same : (m n : ℕ) → m < 2 ^ 64 → n < 2 ^ 64 → decimal m ≡ decimal n → m ≡ n
decimal_same m n p q e = sym (number_of-decimal m p) ∙ ap number_of e ∙ number_of-decimal n q

-- the register of that name
unfoldable pub reg_of : List ℕ → Reg
reg_of t =
    if bytes_eq t (codes "r0") then R0
    else if bytes_eq t (codes "r1") then R1
    else if bytes_eq t (codes "r2") then R2
    else if bytes_eq t (codes "r3") then R3
    else if bytes_eq t (codes "r4") then R4
    else if bytes_eq t (codes "r5") then R5
    else if bytes_eq t (codes "r6") then R6
    else if bytes_eq t (codes "r7") then R7
    else if bytes_eq t (codes "r8") then R8
    else if bytes_eq t (codes "r9") then R9
    else if bytes_eq t (codes "r10") then R10
    else if bytes_eq t (codes "r11") then R11
    else if bytes_eq t (codes "cp") then Cp
    else if bytes_eq t (codes "dp") then Dp
    else if bytes_eq t (codes "sp") then Sp
    else Lr

pub reg_of-text : (r : Reg) → reg_of (reg_text r) ≡ r
unfolding reg_of
reg_of-text R0 = refl
reg_of-text R1 = refl
reg_of-text R2 = refl
reg_of-text R3 = refl
reg_of-text R4 = refl
reg_of-text R5 = refl
reg_of-text R6 = refl
reg_of-text R7 = refl
reg_of-text R8 = refl
reg_of-text R9 = refl
reg_of-text R10 = refl
reg_of-text R11 = refl
reg_of-text Cp = refl
reg_of-text Dp = refl
reg_of-text Sp = refl
reg_of-text Lr = refl

pub reg_inside : (r : Reg) → all_inside (reg_text r) ≡ true
unfolding is_inside
reg_inside R0 = refl
reg_inside R1 = refl
reg_inside R2 = refl
reg_inside R3 = refl
reg_inside R4 = refl
reg_inside R5 = refl
reg_inside R6 = refl
reg_inside R7 = refl
reg_inside R8 = refl
reg_inside R9 = refl
reg_inside R10 = refl
reg_inside R11 = refl
reg_inside Cp = refl
reg_inside Dp = refl
reg_inside Sp = refl
reg_inside Lr = refl

-- the condition of that name
unfoldable pub cond_of : List ℕ → Cond
cond_of t = if bytes_eq t (codes "NONE") then CondNone else if bytes_eq t (codes "EQ") then CondEq else if bytes_eq t (codes "NEQ") then CondNeq else CondAfter

pub cond_of-text : (c : Cond) → cond_of (cond_text c) ≡ c
unfolding cond_of
cond_of-text CondNone = refl
cond_of-text CondEq = refl
cond_of-text CondNeq = refl
cond_of-text CondAfter = refl

pub cond_inside : (c : Cond) → all_inside (cond_text c) ≡ true
unfolding is_inside
cond_inside CondNone = refl
cond_inside CondEq = refl
cond_inside CondNeq = refl
cond_inside CondAfter = refl

-- what GETR takes, by its name
unfoldable pub kind_of : List ℕ → GetKind
kind_of t = if bytes_eq t (codes "SYNC") then GetSync else GetLock

pub kind_of-text : (k : GetKind) → kind_of (get_text k) ≡ k
unfolding kind_of
kind_of-text GetSync = refl
kind_of-text GetLock = refl

pub kind_inside : (k : GetKind) → all_inside (get_text k) ≡ true
unfolding is_inside
kind_inside GetSync = refl
kind_inside GetLock = refl

-- the way of that name
unfoldable pub dir_of : List ℕ → Dir
dir_of t = if bytes_eq t (codes "in") then DirIn else if bytes_eq t (codes "out") then DirOut else DirBoth

dir_of-text : (d : Dir) → dir_of (dir_text d) ≡ d
unfolding dir_of
dir_of-text DirIn = refl
dir_of-text DirOut = refl
dir_of-text DirBoth = refl

pub dir_same : (d e : Dir) → dir_text d ≡ dir_text e → d ≡ e
dir_same d e h = sym (dir_of-text d) ∙ ap dir_of h ∙ dir_of-text e

pub dir_inside : (d : Dir) → all_inside (dir_text d) ≡ true
unfolding is_inside
dir_inside DirIn = refl
dir_inside DirOut = refl
dir_inside DirBoth = refl

-- it holds of each number below n
abbrev EachBelow : ℕ → (ℕ → Type 0) → Type 0
EachBelow zero P = Unit {0}
EachBelow (suc n) P = P n × EachBelow n P

each_below : (P : ℕ → Type 0) (n k : ℕ) → EachBelow n P → k < n → P k
each_below P zero k all h = absurd (omega arith)
each_below P (suc n) k all h = elim (cases_eq k n) [ inl e ↦ subst P (sym e) all.0 | inr l ↦ each_below P n k all.1 (omega arith) ]

-- the port below n that has this text
abbrev port_below : ℕ → List ℕ → ℕ
port_below zero t = 0
port_below (suc n) t = if bytes_eq t (port_text n) then n else port_below n t

unfoldable port_of : List ℕ → ℕ
port_of t = port_below 29 t

port_of-text : (p : ℕ) → p < 29 → port_of (port_text p) ≡ p
unfolding port_of
port_of-text p h = each_below (λ p. port_of (port_text p) ≡ p) 29 p ((refl, (refl, (refl, (refl, (refl, (refl, (refl, (refl, (refl, (refl, (refl, (refl, (refl, (refl, (refl, (refl, (refl, (refl, (refl, (refl, (refl, (refl, (refl, (refl, (refl, (refl, (refl, (refl, (refl, tt)))))))))))))))))))))))))))))) h

pub port_same : (p q : ℕ) → p < 29 → q < 29 → port_text p ≡ port_text q → p ≡ q
port_same p q g h e = sym (port_of-text p g) ∙ ap port_of e ∙ port_of-text q h

pub port_inside : (p : ℕ) → p < 29 → all_inside (port_text p) ≡ true
unfolding is_inside
port_inside p h = each_below (λ p. all_inside (port_text p) ≡ true) 29 p ((refl, (refl, (refl, (refl, (refl, (refl, (refl, (refl, (refl, (refl, (refl, (refl, (refl, (refl, (refl, (refl, (refl, (refl, (refl, (refl, (refl, (refl, (refl, (refl, (refl, (refl, (refl, (refl, (refl, tt)))))))))))))))))))))))))))))) h
