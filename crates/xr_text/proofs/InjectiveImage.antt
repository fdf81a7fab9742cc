-- Two valid images with one text are one image.
use Rattle.std.proofs.Common.{◌≡◌, ◌≢◌, ℕ, ◌+◌, ◌<◌, ◌≤◌, ◌^◌, Bool, true, false, List, [], ◌∷◌, ◌++◌, refl, sym, ◌∙◌, ap, arith, ◌⊎◌, inl, inr, nat_eq}
use Rattle.std.proofs.lemmas.Bool.{eqb-true}
use Rattle.std.proofs.lemmas.List.{append_assoc}
use Rattle.std.specs.Prelude.{codes}
use Rattle.xr_text.proofs.InjectiveLines.{Each, IsPort, IsSmallPair, all_cut, chan_line_cut, chan_mark, chan_marked, code_lines_cut, code_marked, core_mark, mark, nothing_marked, number_line_cut, port_line_cut, port_mark, port_marked, root_mark, root_marked}
use Rattle.xs_instr.specs.Words.{AreWordCores, AreWordInstrs, AreWordPlaces, HasWords}
use Rattle.xs_instr.specs.declared.image.CoreImage.{CoreImage}
use Rattle.xs_instr.specs.declared.image.Image.{Image}
use Rattle.xs_instr.specs.declared.image.Pair.{Pair}
use Rattle.xs_instr.specs.declared.image.PortDecl.{PortDecl}
use Rattle.xs_instr.specs.declared.instr.Instr.{Instr}
use Rattle.xs_instr.specs.Machine.{parts_by, parts_in}
use Rattle.xs_instr.specs.Texts.{all_texts, chan_line, code_line, code_lines, core_lines, image_text, number_line, port_line, root_line, size_lines}
use Rattle.xs_instr.specs.Valid.{AreGoodCores, AreGoodPairs, AreGoodPorts, AreIndices, IsGoodCore, IsThere, Valid}
use Rattle.xw_words.specs.declared.pos.Pos.{Pos}

-- a core whose lines tell it
record IsToldCore (k : CoreImage) : Type 0 where
  number : k.number < 4
  good : IsGoodCore k
  instrs : AreWordInstrs k.code.instrs
  places : AreWordPlaces k.code.«at»

-- no line of a core's own begins it
record IsBehindCore (z : List ℕ) : Type 0 where
  no_port : mark z ≢ port_mark
  no_root : mark z ≢ root_mark
  no_code : mark z ≢ 1

other_mark : (a b c : ℕ) → a ≡ b → b ≢ c → a ≢ c
other_mark a b c e ne h = ne (sym e ∙ h)

apart_by : (a b : ℕ) → (a < b) ⊎ (b < a) → a ≢ b
apart_by a b (inl h) e = omega arith
apart_by a b (inr h) e = omega arith

ports_told : (ds : List PortDecl) → AreGoodPorts ds → Each IsPort ds
ports_told [] g = tt
ports_told (d ∷ ds) g = (g.0, ports_told ds g.2)

IsWide : ℕ → Type 0
IsWide n = n < 2 ^ 64

roots_told : (size : ℕ) (ks : List ℕ) → size < 2 ^ 32 → AreIndices size ks → Each IsWide ks
unfolding IsWide
roots_told size [] h g = tt
roots_told size (k ∷ ks) h g = (omega arith, roots_told size ks h g.1)

cores_told : (n : ℕ) (ks : List CoreImage) → AreGoodCores n ks → AreWordCores ks → Each IsToldCore ks
cores_told n [] g w = tt
cores_told n (k ∷ ks) g w = (record { number = g.1; good = g.2; instrs = w.0; places = w.1 }, cores_told (k.number + 1) ks g.3 w.2)

there_by : (k rest : CoreImage) (c e : ℕ) (b : Bool) → nat_eq k.number c ≡ b → e < (parts_by k rest b).ends → ((k.number ≡ c) × (e < k.ends)) ⊎ (e < rest.ends)
there_by k rest c e true t h = inl (eqb-true k.number c t, h)
there_by k rest c e false t h = inr h

-- an end that is there has small numbers
there_small : (n : ℕ) (ks : List CoreImage) (c e : ℕ) → AreGoodCores n ks → IsThere ks c e → (c < 2 ^ 64) × (e < 2 ^ 64)
there_small n [] c e g h = absurd (omega arith)
there_small n (k ∷ ks) c e g h =
    elim (there_by k (parts_in ks c) c e (nat_eq k.number c) refl h) [
      | inl s ↦ let here : k.number ≡ c = s.0 in let low : e < k.ends = s.1 in let few = g.2.ends in let small = g.1 in (omega arith, omega arith)
      | inr s ↦ there_small (k.number + 1) ks c e g.3 s
    ]

pairs_told : (ks : List CoreImage) (ps : List Pair) → AreGoodCores 0 ks → AreGoodPairs ks ps → Each IsSmallPair ps
pairs_told ks [] g h = tt
pairs_told ks (p ∷ ps) g h =
    let a = there_small 0 ks p.core p.end g h.0 in
    let b = there_small 0 ks p.peer_core p.peer_end g h.1 in
    (record { core = a.0; end = a.1; peer_core = b.0; peer_end = b.1 }, pairs_told ks ps g h.2)

-- behind the roots, and behind the ports
code_begins : (xs : List Instr) (ps : List Pos) (z : List ℕ) (m : ℕ) → mark z ≢ m → 1 ≢ m → mark (code_lines 0 xs ps ++ z) ≢ m
code_begins [] ps z m h one = h
code_begins (x ∷ xs) [] z m h one = h
code_begins (x ∷ xs) (p ∷ ps) z m h one =
    other_mark _ 1 m (ap mark (append_assoc (code_line 0 x p) (code_lines 1 xs ps) z) ∙ code_marked 0 x p (code_lines 1 xs ps ++ z) (omega arith)) one

roots_begin : (ks : List ℕ) (z : List ℕ) (m : ℕ) → mark z ≢ m → root_mark ≢ m → mark (all_texts root_line ks ++ z) ≢ m
roots_begin [] z m h one = h
roots_begin (k ∷ ks) z m h one =
    other_mark _ root_mark m (ap mark (append_assoc (root_line k) (all_texts root_line ks) z) ∙ root_marked k (all_texts root_line ks ++ z)) one

any_text : List ℕ → Type 0
any_text z = Unit {0}

core_front : (k : CoreImage) (z : List ℕ) →
    core_lines k ++ z ≡ number_line (codes ".core") k.number ++ (number_line (codes ".words") k.words ++ (number_line (codes ".timers") k.timers ++ (number_line (codes ".ends") k.ends
    ++ (all_texts port_line k.ports ++ (all_texts root_line k.roots ++ (code_lines 0 k.code.instrs k.code.«at» ++ z))))))
unfolding core_lines size_lines
core_front k z = simp append_assoc

core_marked : (k : CoreImage) (z : List ℕ) → IsToldCore k → mark (core_lines k ++ z) ≡ core_mark
unfolding core_lines size_lines number_line mark
core_marked k z g = refl

core_behind : (k : CoreImage) (z : List ℕ) → IsToldCore k → IsBehindCore (core_lines k ++ z)
core_behind k z g = record {
  no_port = other_mark _ core_mark port_mark (core_marked k z g) (apart_by core_mark port_mark (inl (omega arith)));
  no_root = other_mark _ core_mark root_mark (core_marked k z g) (apart_by core_mark root_mark (inl (omega arith)));
  no_code = other_mark _ core_mark 1 (core_marked k z g) (apart_by core_mark 1 (inr (omega arith)));
}

made : ℕ → ℕ → ℕ → ℕ → List PortDecl → List ℕ → List Instr → List Pos → CoreImage
made a b c d e f g h = record { number = a; words = b; timers = c; ends = d; ports = e; roots = f; code = record { instrs = g; «at» = h } }

core_same : (k l : CoreImage) → k.number ≡ l.number → k.words ≡ l.words → k.timers ≡ l.timers → k.ends ≡ l.ends → k.ports ≡ l.ports → k.roots ≡ l.roots →
    k.code.instrs ≡ l.code.instrs → k.code.«at» ≡ l.code.«at» → k ≡ l
unfolding made
core_same k l a b c d e f g h =
    ap (λ n. made n k.words k.timers k.ends k.ports k.roots k.code.instrs k.code.«at») a
    ∙ ap (λ n. made l.number n k.timers k.ends k.ports k.roots k.code.instrs k.code.«at») b
    ∙ ap (λ n. made l.number l.words n k.ends k.ports k.roots k.code.instrs k.code.«at») c
    ∙ ap (λ n. made l.number l.words l.timers n k.ports k.roots k.code.instrs k.code.«at») d
    ∙ ap (λ n. made l.number l.words l.timers l.ends n k.roots k.code.instrs k.code.«at») e
    ∙ ap (λ n. made l.number l.words l.timers l.ends l.ports n k.code.instrs k.code.«at») f
    ∙ ap (λ n. made l.number l.words l.timers l.ends l.ports l.roots n k.code.«at») g
    ∙ ap (λ n. made l.number l.words l.timers l.ends l.ports l.roots l.code.instrs n) h

small_size : (n m : ℕ) → n ≤ m → m < 2 ^ 64 → n < 2 ^ 64
small_size n m h k = omega arith

ports_cut : (ds es : List PortDecl) (z w : List ℕ) → AreGoodPorts ds → AreGoodPorts es → mark z ≢ port_mark → mark w ≢ port_mark →
    all_texts port_line ds ++ z ≡ all_texts port_line es ++ w → (ds ≡ es) × (z ≡ w)
unfolding any_text
ports_cut ds es z w g h p q e =
    all_cut port_line IsPort any_text port_mark (λ d z g. port_marked d z) (λ d z g. tt) (λ a b z w g h m n e. port_line_cut a b z w g h e)
    ds es z w (ports_told ds g) (ports_told es h) p q tt tt e

roots_cut : (ks ls : List ℕ) (z w : List ℕ) → Each IsWide ks → Each IsWide ls → mark z ≢ root_mark → mark w ≢ root_mark →
    all_texts root_line ks ++ z ≡ all_texts root_line ls ++ w → (ks ≡ ls) × (z ≡ w)
unfolding any_text IsWide
roots_cut ks ls z w g h p q e =
    all_cut root_line IsWide any_text root_mark (λ k z g. root_marked k z) (λ k z g. tt) (λ a b z w g h m n e. number_line_cut (codes ".root") a b z w g h e)
    ks ls z w g h p q tt tt e

core_cut : (k l : CoreImage) (z w : List ℕ) → IsToldCore k → IsToldCore l → IsBehindCore z → IsBehindCore w → core_lines k ++ z ≡ core_lines l ++ w → (k ≡ l) × (z ≡ w)
core_cut k l z w g h m n e =
    let k7 = code_lines 0 k.code.instrs k.code.«at» ++ z in
    let l7 = code_lines 0 l.code.instrs l.code.«at» ++ w in
    let k6 = all_texts root_line k.roots ++ k7 in
    let l6 = all_texts root_line l.roots ++ l7 in
    let k5 = all_texts port_line k.ports ++ k6 in
    let l5 = all_texts port_line l.ports ++ l6 in
    let k4 = number_line (codes ".ends") k.ends ++ k5 in
    let l4 = number_line (codes ".ends") l.ends ++ l5 in
    let k3 = number_line (codes ".timers") k.timers ++ k4 in
    let l3 = number_line (codes ".timers") l.timers ++ l4 in
    let k2 = number_line (codes ".words") k.words ++ k3 in
    let l2 = number_line (codes ".words") l.words ++ l3 in
    let e1 : number_line (codes ".core") k.number ++ k2 ≡ number_line (codes ".core") l.number ++ l2 = sym (core_front k z) ∙ e ∙ core_front l w in
    let kn = g.number in
    let ln = h.number in
    let r1 : (k.number ≡ l.number) × (k2 ≡ l2) = number_line_cut (codes ".core") k.number l.number k2 l2 (omega arith) (omega arith) e1 in
    let r2 : (k.words ≡ l.words) × (k3 ≡ l3) =
    number_line_cut (codes ".words") k.words l.words k3 l3 (small_size _ _ g.good.words (omega arith)) (small_size _ _ h.good.words (omega arith)) r1.1 in
    let r3 : (k.timers ≡ l.timers) × (k4 ≡ l4) =
    number_line_cut (codes ".timers") k.timers l.timers k4 l4 (small_size _ _ g.good.timers (omega arith)) (small_size _ _ h.good.timers (omega arith)) r2.1 in
    let r4 : (k.ends ≡ l.ends) × (k5 ≡ l5) =
    number_line_cut (codes ".ends") k.ends l.ends k5 l5 (small_size _ _ g.good.ends (omega arith)) (small_size _ _ h.good.ends (omega arith)) r3.1 in
    let root_port : root_mark ≢ port_mark = apart_by root_mark port_mark (inr (omega arith)) in
    let code_port : 1 ≢ port_mark = apart_by 1 port_mark (inl (omega arith)) in
    let code_root : 1 ≢ root_mark = apart_by 1 root_mark (inl (omega arith)) in
    let r5 : (k.ports ≡ l.ports) × (k6 ≡ l6) =
    ports_cut k.ports l.ports k6 l6 g.good.ports h.good.ports
    (roots_begin k.roots k7 port_mark (code_begins k.code.instrs k.code.«at» z port_mark m.no_port code_port) root_port)
    (roots_begin l.roots l7 port_mark (code_begins l.code.instrs l.code.«at» w port_mark n.no_port code_port) root_port) r4.1 in
    let r6 : (k.roots ≡ l.roots) × (k7 ≡ l7) =
    roots_cut k.roots l.roots k7 l7 (roots_told _ k.roots g.good.few g.good.roots) (roots_told _ l.roots h.good.few h.good.roots)
    (code_begins k.code.instrs k.code.«at» z root_mark m.no_root code_root)
    (code_begins l.code.instrs l.code.«at» w root_mark n.no_root code_root) r5.1 in
    let kf = g.good.few in
    let lf = h.good.few in
    let r7 : (k.code.instrs ≡ l.code.instrs) × (k.code.«at» ≡ l.code.«at») × (z ≡ w) =
    code_lines_cut 0 k.code.instrs l.code.instrs k.code.«at» l.code.«at» z w (omega arith) (omega arith) g.good.places h.good.places g.instrs h.instrs g.places h.places m.no_code n.no_code r6.1 in
    (core_same k l r1.0 r2.0 r3.0 r4.0 r5.0 r6.0 r7.0 r7.1, r7.2)

-- what begins the channels' lines
chans_begin : (ps : List Pair) (m : ℕ) → 0 ≢ m → chan_mark ≢ m → mark (all_texts chan_line ps) ≢ m
chans_begin [] m none one = other_mark _ 0 m nothing_marked none
chans_begin (p ∷ ps) m none one = other_mark _ chan_mark m (chan_marked p (all_texts chan_line ps)) one

chans_behind : (ps : List Pair) → IsBehindCore (all_texts chan_line ps)
chans_behind ps = record {
  no_port = chans_begin ps port_mark (apart_by 0 port_mark (inl (omega arith))) (apart_by chan_mark port_mark (inl (omega arith)));
  no_root = chans_begin ps root_mark (apart_by 0 root_mark (inl (omega arith))) (apart_by chan_mark root_mark (inl (omega arith)));
  no_code = chans_begin ps 1 (apart_by 0 1 (inl (omega arith))) (apart_by chan_mark 1 (inr (omega arith)));
}

append_nothing : (xs : List ℕ) → xs ++ [] ≡ xs
append_nothing [] = refl
append_nothing (x ∷ xs) = ap (λ t. x ∷ t) (append_nothing xs)

chans_same : (ps qs : List Pair) → Each IsSmallPair ps → Each IsSmallPair qs → all_texts chan_line ps ≡ all_texts chan_line qs → ps ≡ qs
unfolding any_text
chans_same ps qs g h e =
    let none : mark [] ≢ chan_mark = other_mark _ 0 chan_mark nothing_marked (apart_by 0 chan_mark (inl (omega arith))) in
    let e' : all_texts chan_line ps ++ [] ≡ all_texts chan_line qs ++ [] = append_nothing (all_texts chan_line ps) ∙ e ∙ sym (append_nothing (all_texts chan_line qs)) in
    let r : (ps ≡ qs) × ([] ≡ []) =
    all_cut chan_line IsSmallPair any_text chan_mark (λ p z g. chan_marked p z) (λ p z g. tt) (λ a b z w g h m n e. chan_line_cut a b z w g h e)
    ps qs [] [] g h none none tt tt e' in
    r.0

pub image_same : (L M : Image) → Valid L → Valid M → HasWords L → HasWords M → image_text L ≡ image_text M → L ≡ M
unfolding image_text
image_same L M v u g h e =
    let z = all_texts chan_line L.chans in
    let w = all_texts chan_line M.chans in
    let no_core : (ps : List Pair) → mark (all_texts chan_line ps) ≢ core_mark =
    λ ps. chans_begin ps core_mark (apart_by 0 core_mark (inl (omega arith))) (apart_by chan_mark core_mark (inl (omega arith))) in
    let r : (L.cores ≡ M.cores) × (z ≡ w) =
    all_cut core_lines IsToldCore IsBehindCore core_mark core_marked core_behind core_cut L.cores M.cores z w (cores_told 0 L.cores v.cores g) (cores_told 0 M.cores u.cores h)
    (no_core L.chans) (no_core M.chans) (chans_behind L.chans) (chans_behind M.chans) e in
    let chans : L.chans ≡ M.chans = chans_same L.chans M.chans (pairs_told L.cores L.chans v.cores v.pairs) (pairs_told M.cores M.chans u.cores u.pairs) r.1 in
    let with_cores : List CoreImage → Image = λ ks. record { cores = ks; chans = L.chans } in
    let with_chans : List Pair → Image = λ ps. record { cores = M.cores; chans = ps } in
    ap with_cores r.0 ∙ ap with_chans chans
