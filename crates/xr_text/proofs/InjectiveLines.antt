-- A listing's lines: each line's text tells the line, and what a line begins with tells where a list of lines ends.
use Rattle.std.proofs.Common.{◌≡◌, ◌≢◌, ℕ, suc, ◌+◌, ◌*◌, ◌<◌, ◌≤◌, ◌^◌, true, false, List, [], ◌∷◌, ◌++◌, length, get_or, refl, sym, ◌∙◌, ap, arith, if◌then◌else◌, inl, inr, nat_eq}
use Rattle.std.proofs.lemmas.Bool.{cases_eq, ne_eqb}
use Rattle.std.proofs.lemmas.List.{append_assoc, append_cancel_left}
use Rattle.std.specs.Prelude.{codes, decimal}
use Rattle.xr_text.proofs.InjectiveInstr.{instr_cut}
use Rattle.xr_text.proofs.InjectiveTokens.{all_inside, and_first, is_inside, colon_apart, dot_apart, feed_apart, space_apart, cut, decimal_inside, decimal_same, decimal_some, dir_inside, dir_same, port_inside, port_same, tail_is, word_wide}
use Rattle.xs_instr.specs.Words.{AreWordInstrs, AreWordPlaces, IsWordInstr}
use Rattle.xs_instr.specs.declared.image.Dir.{Dir}
use Rattle.xs_instr.specs.declared.image.Pair.{Pair}
use Rattle.xs_instr.specs.declared.image.PortDecl.{PortDecl}
use Rattle.xs_instr.specs.declared.instr.Instr.{Instr}
use Rattle.xs_instr.specs.Texts.{all_texts, chan_line, code_line, code_lines, dir_text, instr_text, number_line, port_line, root_line}
use Rattle.xw_words.specs.Ports.{port_text}
use Rattle.xw_words.specs.declared.pos.Pos.{Pos}

-- what a line begins with: the two letters behind a dot, as one number; 1 for a byte that is no dot; 0 for nothing
unfoldable pub mark : List ℕ → ℕ
mark [] = 0
mark (b ∷ bs) = if nat_eq b 46 then 2 + get_or bs 0 0 * 256 + get_or bs 1 0 else 1

abbrev pub port_mark : ℕ
port_mark = 28785

abbrev pub root_mark : ℕ
root_mark = 29297

abbrev pub core_mark : ℕ
core_mark = 25457

abbrev pub chan_mark : ℕ
chan_mark = 25450

pub nothing_marked : mark [] ≡ 0
unfolding mark
nothing_marked = refl

-- it holds of each item
abbrev pub Each : {A : Type 0} → (A → Type 0) → List A → Type 0
Each P [] = Unit {0}
Each P (x ∷ xs) = P x × Each P xs

-- Texts that all begin alike, and a text behind them that begins otherwise.
module _ {A : Type 0} (text : A → List ℕ) (Good : A → Type 0) (Next : List ℕ → Type 0) (m : ℕ)
    (marked : (a : A) (z : List ℕ) → Good a → mark (text a ++ z) ≡ m) (next : (a : A) (z : List ℕ) → Good a → Next (text a ++ z))
    (one : (a b : A) (z w : List ℕ) → Good a → Good b → Next z → Next w → text a ++ z ≡ text b ++ w → (a ≡ b) × (z ≡ w)) where
  next_all : (as' : List A) (z : List ℕ) → Each Good as' → Next z → Next (all_texts text as' ++ z)
  next_all [] z g n = n
  next_all (a ∷ as') z g n = rw (append_assoc (text a) (all_texts text as') z) (next a (all_texts text as' ++ z) g.0)

  pub all_cut : (as' bs : List A) (z w : List ℕ) → Each Good as' → Each Good bs → mark z ≢ m → mark w ≢ m → Next z → Next w →
      all_texts text as' ++ z ≡ all_texts text bs ++ w → (as' ≡ bs) × (z ≡ w)
  all_cut [] [] z w g h p q n k e = (refl, e)
  all_cut [] (b ∷ bs) z w g h p q n k e =
      let e' : z ≡ text b ++ (all_texts text bs ++ w) = e ∙ append_assoc (text b) (all_texts text bs) w in
      absurd (p (ap mark e' ∙ marked b (all_texts text bs ++ w) h.0))
  all_cut (a ∷ as') [] z w g h p q n k e =
      let e' : w ≡ text a ++ (all_texts text as' ++ z) = sym e ∙ append_assoc (text a) (all_texts text as') z in
      absurd (q (ap mark e' ∙ marked a (all_texts text as' ++ z) g.0))
  all_cut (a ∷ as') (b ∷ bs) z w g h p q n k e =
      let za = all_texts text as' ++ z in
      let wb = all_texts text bs ++ w in
      let e' : text a ++ za ≡ text b ++ wb = sym (append_assoc (text a) (all_texts text as') z) ∙ e ∙ append_assoc (text b) (all_texts text bs) w in
      let first : (a ≡ b) × (za ≡ wb) = one a b za wb g.0 h.0 (next_all as' z g.1 n) (next_all bs w h.1 k) e' in
      let rest : (as' ≡ bs) × (z ≡ w) = all_cut as' bs z w g.1 h.1 p q n k first.1 in
      (ap (λ x. x ∷ as') first.0 ∙ ap (λ xs. b ∷ xs) rest.0, rest.1)

-- a number and a separator
number_cut : (m n : ℕ) (z w : List ℕ) (c : ℕ) → m < 2 ^ 64 → n < 2 ^ 64 → is_inside c ≡ false → decimal m ++ c ∷ z ≡ decimal n ++ c ∷ w → (m ≡ n) × (z ≡ w)
number_cut m n z w c p q apart e =
    let r : (decimal m ≡ decimal n) × (c ∷ z ≡ c ∷ w) = cut (decimal m) (decimal n) (c ∷ z) (c ∷ w) (decimal_inside m p) (decimal_inside n q) apart apart e in
    (decimal_same m n p q r.0, tail_is c c z w r.1)

number_line_front : (name : List ℕ) (n : ℕ) (z : List ℕ) → number_line name n ++ z ≡ name ++ 32 ∷ (decimal n ++ 10 ∷ z)
unfolding number_line
number_line_front name n z = simp append_assoc

pub number_line_cut : (name : List ℕ) (m n : ℕ) (z w : List ℕ) → m < 2 ^ 64 → n < 2 ^ 64 → number_line name m ++ z ≡ number_line name n ++ w → (m ≡ n) × (z ≡ w)
number_line_cut name m n z w p q e =
    let fm = decimal m ++ 10 ∷ z in
    let fn' = decimal n ++ 10 ∷ w in
    let e' : 32 ∷ fm ≡ 32 ∷ fn' = append_cancel_left name (32 ∷ fm) (32 ∷ fn') (sym (number_line_front name m z) ∙ e ∙ number_line_front name n w) in
    number_cut m n z w 10 p q feed_apart (tail_is 32 32 fm fn' e')

pub port_marked : (d : PortDecl) (z : List ℕ) → mark (port_line d ++ z) ≡ port_mark
unfolding mark port_line
port_marked d z = refl

pub root_marked : (k : ℕ) (z : List ℕ) → mark (root_line k ++ z) ≡ root_mark
unfolding mark number_line
root_marked k z = refl

pub chan_marked : (p : Pair) (z : List ℕ) → mark (chan_line p ++ z) ≡ chan_mark
unfolding mark chan_line
chan_marked p z = refl

mark_other : (b : ℕ) (bs : List ℕ) → is_inside b ≡ true → mark (b ∷ bs) ≡ 1
unfolding mark
mark_other b bs h =
    elim (cases_eq b 46) [
      | inl e ↦ let same = ap is_inside e in let no = dot_apart in absurd (cc)
      | inr ne ↦ rw (ne_eqb b 46 ne) refl
    ]

mark_inside : (s z : List ℕ) → all_inside s ≡ true → (s ≡ [] → ⊥) → mark (s ++ z) ≡ 1
mark_inside [] z h some = absurd (some refl)
mark_inside (b ∷ s) z h some = mark_other b (s ++ z) (and_first (is_inside b) (all_inside s) h)

port_line_front : (d : PortDecl) (z : List ℕ) → port_line d ++ z ≡ codes ".port " ++ (port_text d.port ++ 32 ∷ (dir_text d.dir ++ 10 ∷ z))
unfolding port_line
port_line_front d z = simp append_assoc

abbrev pub IsPort : PortDecl → Type 0
IsPort d = d.port < 29

port_decl_same : (d e : PortDecl) → d.port ≡ e.port → d.dir ≡ e.dir → d ≡ e
port_decl_same d e p q =
    let with_port : ℕ → PortDecl = λ n. record { port = n; dir = d.dir } in
    let with_dir : Dir → PortDecl = λ n. record { port = e.port; dir = n } in ap with_port p ∙ ap with_dir q

pub port_line_cut : (d e : PortDecl) (z w : List ℕ) → IsPort d → IsPort e → port_line d ++ z ≡ port_line e ++ w → (d ≡ e) × (z ≡ w)
port_line_cut d e z w p q h =
    let dz = dir_text d.dir ++ 10 ∷ z in
    let ew = dir_text e.dir ++ 10 ∷ w in
    let h' : port_text d.port ++ 32 ∷ dz ≡ port_text e.port ++ 32 ∷ ew =
    append_cancel_left (codes ".port ") (port_text d.port ++ 32 ∷ dz) (port_text e.port ++ 32 ∷ ew) (sym (port_line_front d z) ∙ h ∙ port_line_front e w) in
    let ids : (port_text d.port ≡ port_text e.port) × (32 ∷ dz ≡ 32 ∷ ew) = cut (port_text d.port) (port_text e.port) (32 ∷ dz) (32 ∷ ew) (port_inside d.port p) (port_inside e.port q) space_apart space_apart h' in
    let dirs : (dir_text d.dir ≡ dir_text e.dir) × (10 ∷ z ≡ 10 ∷ w) = cut (dir_text d.dir) (dir_text e.dir) (10 ∷ z) (10 ∷ w) (dir_inside d.dir) (dir_inside e.dir) feed_apart feed_apart (tail_is 32 32 dz ew ids.1) in
    (port_decl_same d e (port_same d.port e.port p q ids.0) (dir_same d.dir e.dir dirs.0), tail_is 10 10 z w dirs.1)

chan_line_front : (p : Pair) (z : List ℕ) → chan_line p ++ z ≡ codes ".chan " ++ (decimal p.core ++ 32 ∷ (decimal p.end ++ 32 ∷ (decimal p.peer_core ++ 32 ∷ (decimal p.peer_end ++ 10 ∷ z))))
unfolding chan_line
chan_line_front p z = simp append_assoc

-- numbers that decimal texts tell apart
pub record IsSmallPair (p : Pair) : Type 0 where
  pub core : p.core < 2 ^ 64
  pub end : p.end < 2 ^ 64
  pub peer_core : p.peer_core < 2 ^ 64
  pub peer_end : p.peer_end < 2 ^ 64

pair_same : (p q : Pair) → p.core ≡ q.core → p.end ≡ q.end → p.peer_core ≡ q.peer_core → p.peer_end ≡ q.peer_end → p ≡ q
pair_same p q a b c d =
    let made : ℕ → ℕ → ℕ → ℕ → Pair = λ k l m n. record { core = k; end = l; peer_core = m; peer_end = n } in
    ap (λ n. made n p.end p.peer_core p.peer_end) a ∙ ap (λ n. made q.core n p.peer_core p.peer_end) b
    ∙ ap (λ n. made q.core q.end n p.peer_end) c ∙ ap (λ n. made q.core q.end q.peer_core n) d

pub chan_line_cut : (p q : Pair) (z w : List ℕ) → IsSmallPair p → IsSmallPair q → chan_line p ++ z ≡ chan_line q ++ w → (p ≡ q) × (z ≡ w)
chan_line_cut p q z w g h e =
    let p4 = decimal p.peer_end ++ 10 ∷ z in
    let q4 = decimal q.peer_end ++ 10 ∷ w in
    let p3 = decimal p.peer_core ++ 32 ∷ p4 in
    let q3 = decimal q.peer_core ++ 32 ∷ q4 in
    let p2 = decimal p.end ++ 32 ∷ p3 in
    let q2 = decimal q.end ++ 32 ∷ q3 in
    let e1 : decimal p.core ++ 32 ∷ p2 ≡ decimal q.core ++ 32 ∷ q2 =
    append_cancel_left (codes ".chan ") (decimal p.core ++ 32 ∷ p2) (decimal q.core ++ 32 ∷ q2) (sym (chan_line_front p z) ∙ e ∙ chan_line_front q w) in
    let r1 : (p.core ≡ q.core) × (p2 ≡ q2) = number_cut p.core q.core p2 q2 32 g.core h.core space_apart e1 in
    let r2 : (p.end ≡ q.end) × (p3 ≡ q3) = number_cut p.end q.end p3 q3 32 g.end h.end space_apart r1.1 in
    let r3 : (p.peer_core ≡ q.peer_core) × (p4 ≡ q4) = number_cut p.peer_core q.peer_core p4 q4 32 g.peer_core h.peer_core space_apart r2.1 in
    let r4 : (p.peer_end ≡ q.peer_end) × (z ≡ w) = number_cut p.peer_end q.peer_end z w 10 g.peer_end h.peer_end feed_apart r3.1 in
    (pair_same p q r1.0 r2.0 r3.0 r4.0, r4.1)

code_line_front : (i : ℕ) (x : Instr) (p : Pos) (z : List ℕ) →
    code_line i x p ++ z ≡ decimal i ++ 58 ∷ 32 ∷ (instr_text x ++ 32 ∷ 64 ∷ (decimal p.line ++ 58 ∷ (decimal p.col ++ 10 ∷ z)))
unfolding code_line
code_line_front i x p z = simp append_assoc

pub code_marked : (i : ℕ) (x : Instr) (p : Pos) (z : List ℕ) → i < 2 ^ 64 → mark (code_line i x p ++ z) ≡ 1
code_marked i x p z h =
    ap mark (code_line_front i x p z)
    ∙ mark_inside (decimal i) (58 ∷ 32 ∷ (instr_text x ++ 32 ∷ 64 ∷ (decimal p.line ++ 58 ∷ (decimal p.col ++ 10 ∷ z)))) (decimal_inside i h) (decimal_some i h)

pos_same : (p q : Pos) → p.line ≡ q.line → p.col ≡ q.col → p ≡ q
pos_same p q a b =
    let made : ℕ → ℕ → Pos = λ m n. record { line = m; col = n } in ap (λ n. made n p.col) a ∙ ap (λ n. made q.line n) b

code_line_cut : (i : ℕ) (x y : Instr) (p q : Pos) (z w : List ℕ) → IsWordInstr x → IsWordInstr y → p.line < 2 ^ 32 → p.col < 2 ^ 32 → q.line < 2 ^ 32 → q.col < 2 ^ 32 →
    code_line i x p ++ z ≡ code_line i y q ++ w → (x ≡ y) × (p ≡ q) × (z ≡ w)
code_line_cut i x y p q z w g h pl pc ql qc e =
    let p3 = decimal p.col ++ 10 ∷ z in
    let q3 = decimal q.col ++ 10 ∷ w in
    let p2 = decimal p.line ++ 58 ∷ p3 in
    let q2 = decimal q.line ++ 58 ∷ q3 in
    let p1 = instr_text x ++ 32 ∷ 64 ∷ p2 in
    let q1 = instr_text y ++ 32 ∷ 64 ∷ q2 in
    let e0 : 58 ∷ 32 ∷ p1 ≡ 58 ∷ 32 ∷ q1 = append_cancel_left (decimal i) (58 ∷ 32 ∷ p1) (58 ∷ 32 ∷ q1) (sym (code_line_front i x p z) ∙ e ∙ code_line_front i y q w) in
    let e1 : p1 ≡ q1 = tail_is 32 32 p1 q1 (tail_is 58 58 (32 ∷ p1) (32 ∷ q1) e0) in
    let r1 : (x ≡ y) × (p2 ≡ q2) = instr_cut x y p2 q2 g h e1 in
    let r2 : (p.line ≡ q.line) × (p3 ≡ q3) = number_cut p.line q.line p3 q3 58 (word_wide p.line pl) (word_wide q.line ql) colon_apart r1.1 in
    let r3 : (p.col ≡ q.col) × (z ≡ w) = number_cut p.col q.col z w 10 (word_wide p.col pc) (word_wide q.col qc) feed_apart r2.1 in
    (r1.0, pos_same p q r2.0 r3.0, r3.1)

index_wide : (i n : ℕ) → i + suc n ≤ 2 ^ 32 → i < 2 ^ 64
index_wide i n h = omega arith

index_next : (i n : ℕ) → i + suc n ≤ 2 ^ 32 → suc i + n ≤ 2 ^ 32
index_next i n h = omega arith

-- the lines of a core's code, and a text that doesn't begin like one of them
pub code_lines_cut : (i : ℕ) (xs ys : List Instr) (ps qs : List Pos) (z w : List ℕ) → i + length xs ≤ 2 ^ 32 → i + length ys ≤ 2 ^ 32 →
    length ps ≡ length xs → length qs ≡ length ys → AreWordInstrs xs → AreWordInstrs ys → AreWordPlaces ps → AreWordPlaces qs → mark z ≢ 1 → mark w ≢ 1 →
    code_lines i xs ps ++ z ≡ code_lines i ys qs ++ w → (xs ≡ ys) × (ps ≡ qs) × (z ≡ w)
code_lines_cut i [] [] [] [] z w a b c d g h k l m n e = (refl, refl, e)
code_lines_cut i [] ys (p ∷ ps) qs z w a b c d g h k l m n e = absurd (omega arith)
code_lines_cut i [] [] [] (q ∷ qs) z w a b c d g h k l m n e = absurd (omega arith)
code_lines_cut i [] (y ∷ ys) [] [] z w a b c d g h k l m n e = absurd (omega arith)
code_lines_cut i [] (y ∷ ys) [] (q ∷ qs) z w a b c d g h k l m n e =
    let rest = code_lines (suc i) ys qs in
    absurd (m (ap mark (e ∙ append_assoc (code_line i y q) rest w) ∙ code_marked i y q (rest ++ w) (index_wide i (length ys) b)))
code_lines_cut i (x ∷ xs) ys [] qs z w a b c d g h k l m n e = absurd (omega arith)
code_lines_cut i (x ∷ xs) [] (p ∷ ps) [] z w a b c d g h k l m n e =
    let rest = code_lines (suc i) xs ps in
    absurd (n (ap mark (sym e ∙ append_assoc (code_line i x p) rest z) ∙ code_marked i x p (rest ++ z) (index_wide i (length xs) a)))
code_lines_cut i (x ∷ xs) [] (p ∷ ps) (q ∷ qs) z w a b c d g h k l m n e = absurd (omega arith)
code_lines_cut i (x ∷ xs) (y ∷ ys) (p ∷ ps) [] z w a b c d g h k l m n e = absurd (omega arith)
code_lines_cut i (x ∷ xs) (y ∷ ys) (p ∷ ps) (q ∷ qs) z w a b c d g h k l m n e =
    let zx = code_lines (suc i) xs ps ++ z in
    let wy = code_lines (suc i) ys qs ++ w in
    let e' : code_line i x p ++ zx ≡ code_line i y q ++ wy = sym (append_assoc (code_line i x p) (code_lines (suc i) xs ps) z) ∙ e ∙ append_assoc (code_line i y q) (code_lines (suc i) ys qs) w in
    let first : (x ≡ y) × (p ≡ q) × (zx ≡ wy) = code_line_cut i x y p q zx wy g.0 h.0 k.0 k.1 l.0 l.1 e' in
    let rest : (xs ≡ ys) × (ps ≡ qs) × (z ≡ w) =
    code_lines_cut (suc i) xs ys ps qs z w (index_next i (length xs) a) (index_next i (length ys) b) (omega arith) (omega arith) g.1 h.1 k.2 l.2 m n first.2 in
    (ap (λ t. t ∷ xs) first.0 ∙ ap (λ t. y ∷ t) rest.0, ap (λ t. t ∷ ps) first.1 ∙ ap (λ t. q ∷ t) rest.1, rest.2)
