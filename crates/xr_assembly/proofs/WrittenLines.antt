-- The lines of a listing that say numbers, ports and channels, as they are written, are read as what they say.
use Rattle.std.proofs.Common.{◌≡◌, ℕ, zero, suc, ◌<◌, ◌^◌, true, List, [], ◌∷◌, ◌++◌, Some, inl, inr, refl, sym, ap, subst, ◌∙◌, arith, append_assoc}
use Rattle.std.proofs.lemmas.Bool.{cases_eq}
use Rattle.std.specs.Prelude.{codes, decimal}
use Rattle.xr_assembly.proofs.Written.{free, free-append, inside-free, numeral-decimal, parts-last, parts-more}
use Rattle.xr_assembly.specs.Cuts.{numeral, parts, the_one_named}
use Rattle.xr_assembly.specs.Forms.{chan_by, directive, dirs, form_of_line, form_of_words, formed, numbered_by, port_by}
use Rattle.xr_assembly.specs.Written.{AreWords, IsLine, chan_line_of}
use Rattle.xr_assembly.specs.declared.lines.Line.{Line}
use Rattle.xr_assembly.specs.declared.lines.Line.TheVariants.{Port, Chan}
use Rattle.xr_stim.specs.Forms.{port_names}
use Rattle.xr_text.proofs.InjectiveTokens.{decimal_inside, dir_inside, feed_apart, port_inside, space_apart}
use Rattle.xs_instr.specs.declared.image.Dir.{Dir}
use Rattle.xs_instr.specs.declared.image.Dir.TheVariants.{In as DirIn, Out as DirOut, Both as DirBoth}
use Rattle.xs_instr.specs.declared.image.Pair.{Pair}
use Rattle.xs_instr.specs.declared.image.PortDecl.{PortDecl}
use Rattle.xs_instr.specs.Texts.{chan_line, dir_text, number_line, port_line}
use Rattle.xw_words.specs.Ports.{port_text}
use Rattle.xw_words.specs.Tables.{place_from, place_in}

-- bytes without a line feed, with one behind them, are a line
pub line-is : (text bytes : List ℕ) (line : Line) → text ≡ bytes ++ 10 ∷ [] → free 10 bytes ≡ true →
    form_of_line bytes ≡ Some (record { line = line; fits = true }) → IsLine text line
line-is text bytes line is whole reads = record {
  bytes = bytes;
  ends = λ behind. ap (λ t. parts 10 (t ++ behind)) is ∙ ap (parts 10) (append_assoc bytes (10 ∷ []) behind) ∙ parts-more 10 bytes behind whole;
  reads = reads;
}

pub feed-decimal : (n : ℕ) → n < 2 ^ 32 → free 10 (decimal n) ≡ true
feed-decimal n small = inside-free 10 (decimal n) feed_apart (decimal_inside n (omega arith))

pub space-decimal : (n : ℕ) → n < 2 ^ 32 → free 32 (decimal n) ≡ true
space-decimal n small = inside-free 32 (decimal n) space_apart (decimal_inside n (omega arith))

pub number_line-is : (name : List ℕ) (n : ℕ) (line : Line) → n < 2 ^ 32 → free 10 name ≡ true → free 32 name ≡ true →
    directive name n ≡ Some line → IsLine (number_line name n) line
unfolding number_line
number_line-is name n line small feeds spaces says =
    line-is (number_line name n) (name ++ 32 ∷ decimal n) line (simp append_assoc) (free-append 10 name (32 ∷ decimal n) feeds (feed-decimal n small))
    (ap form_of_words (parts-more 32 name (decimal n) spaces ∙ ap (λ ps. name ∷ ps) (parts-last 32 (decimal n) (space-decimal n small)))
    ∙ ap (numbered_by name) (numeral-decimal n small) ∙ ap (formed true) says)

dir-named : (d : Dir) → the_one_named dir_text dirs (dir_text d) ≡ Some d
dir-named DirIn = refl
dir-named DirOut = refl
dir-named DirBoth = refl

-- it holds of each number below n
abbrev EachBelow : ℕ → (ℕ → Type 0) → Type 0
EachBelow zero P = Unit {0}
EachBelow (suc n) P = P n × EachBelow n P

each_below : (P : ℕ → Type 0) (n k : ℕ) → EachBelow n P → k < n → P k
each_below P zero k all h = absurd (omega arith)
each_below P (suc n) k all h = elim (cases_eq k n) [ inl e ↦ subst P (sym e) all.0 | inr l ↦ each_below P n k all.1 (omega arith) ]

port-named : (p : ℕ) → p < 29 → place_in port_names (port_text p) ≡ Some p
unfolding port_names place_from
port-named p h = each_below (λ p. place_in port_names (port_text p) ≡ Some p) 29 p ((refl, (refl, (refl, (refl, (refl, (refl, (refl, (refl, (refl, (refl, (refl, (refl, (refl, (refl, (refl, (refl, (refl, (refl, (refl, (refl, (refl, (refl, (refl, (refl, (refl, (refl, (refl, (refl, (refl, tt)))))))))))))))))))))))))))))) h

pub port_line-is : (d : PortDecl) → d.port < 29 → IsLine (port_line d) (Port d)
unfolding port_line
port_line-is d small =
    let id = port_text d.port in
    let way = dir_text d.dir in
    line-is (port_line d) (codes ".port" ++ 32 ∷ (id ++ 32 ∷ way)) (Port d) (simp append_assoc)
    (free-append 10 id (32 ∷ way) (inside-free 10 id feed_apart (port_inside d.port small)) (inside-free 10 way feed_apart (dir_inside d.dir)))
    (ap form_of_words (parts-more 32 (codes ".port") (id ++ 32 ∷ way) refl
    ∙ ap (λ ps. codes ".port" ∷ ps) (parts-more 32 id way (inside-free 32 id space_apart (port_inside d.port small))
    ∙ ap (λ ps. id ∷ ps) (parts-last 32 way (inside-free 32 way space_apart (dir_inside d.dir)))))
    ∙ ap (λ o. port_by o (the_one_named dir_text dirs way)) (port-named d.port small) ∙ ap (port_by (Some d.port)) (dir-named d.dir))

chan_text : (a b c d : ℕ) → a < 2 ^ 32 → b < 2 ^ 32 → c < 2 ^ 32 → d < 2 ^ 32 →
    form_of_line (codes ".chan" ++ 32 ∷ (decimal a ++ 32 ∷ (decimal b ++ 32 ∷ (decimal c ++ 32 ∷ decimal d))))
    ≡ Some (record { line = Chan (record { core = a; end = b; peer_core = c; peer_end = d }); fits = true })
chan_text a b c d ha hb hc hd =
    ap form_of_words (parts-more 32 (codes ".chan") (decimal a ++ 32 ∷ (decimal b ++ 32 ∷ (decimal c ++ 32 ∷ decimal d))) refl
    ∙ ap (λ ps. codes ".chan" ∷ ps) (parts-more 32 (decimal a) (decimal b ++ 32 ∷ (decimal c ++ 32 ∷ decimal d)) (space-decimal a ha)
    ∙ ap (λ ps. decimal a ∷ ps) (parts-more 32 (decimal b) (decimal c ++ 32 ∷ decimal d) (space-decimal b hb)
    ∙ ap (λ ps. decimal b ∷ ps) (parts-more 32 (decimal c) (decimal d) (space-decimal c hc)
    ∙ ap (λ ps. decimal c ∷ ps) (parts-last 32 (decimal d) (space-decimal d hd))))))
    ∙ ap (λ o. chan_by o (numeral (decimal b)) (numeral (decimal c)) (numeral (decimal d))) (numeral-decimal a ha)
    ∙ ap (λ o. chan_by (Some (Some a)) o (numeral (decimal c)) (numeral (decimal d))) (numeral-decimal b hb)
    ∙ ap (λ o. chan_by (Some (Some a)) (Some (Some b)) o (numeral (decimal d))) (numeral-decimal c hc)
    ∙ ap (chan_by (Some (Some a)) (Some (Some b)) (Some (Some c))) (numeral-decimal d hd)

pub chan_line-is : (p : Pair) → AreWords p → IsLine (chan_line p) (Chan (chan_line_of p))
unfolding chan_line
chan_line-is p words =
    let ha = words.core in
    let hb = words.end in
    let hc = words.peer_core in
    let hd = words.peer_end in
    let a = decimal p.core in
    let b = decimal p.end in
    let c = decimal p.peer_core in
    let d = decimal p.peer_end in
    line-is (chan_line p) (codes ".chan" ++ 32 ∷ (a ++ 32 ∷ (b ++ 32 ∷ (c ++ 32 ∷ d)))) (Chan (chan_line_of p)) (simp append_assoc)
    (free-append 10 a (32 ∷ (b ++ 32 ∷ (c ++ 32 ∷ d))) (feed-decimal p.core ha)
    (free-append 10 b (32 ∷ (c ++ 32 ∷ d)) (feed-decimal p.end hb)
    (free-append 10 c (32 ∷ d) (feed-decimal p.peer_core hc) (feed-decimal p.peer_end hd))))
    (chan_text p.core p.end p.peer_core p.peer_end ha hb hc hd)
