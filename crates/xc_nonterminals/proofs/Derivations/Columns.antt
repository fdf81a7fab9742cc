-- Lines and columns, byte by byte.
use Rattle.std.proofs.Common.{◌≡◌, ℕ, ◌+◌, ◌<◌, List, length, get_or, drop, if◌then◌else◌, sym, ap}
use Rattle.std.proofs.lemmas.List.{at_drop_more}
use Rattle.std.proofs.lemmas.Bool.{eq-eqb, ne_eqb}
use Rattle.xw_words.specs.declared.pos.Pos.{Pos}
use Rattle.xc_tree.specs.Places.{pos_behind, next_pos}

pub pos_step : (p : Pos) (bs : List ℕ) (i : ℕ) → i < length bs → pos_behind p (drop i bs) ≡ pos_behind (next_pos p (get_or bs i 0)) (drop (i + 1) bs)
unfolding pos_behind
pos_step p bs i h = at_drop_more (pos_behind p) bs i 0 h

pub line_feed : (p : Pos) (b : ℕ) → b ≡ 10 → record { line = p.line + 1; col = 1 } ≡ next_pos p b
unfolding next_pos
line_feed p b e = ap (λ t. if t then record { line = p.line + 1; col = 1 } else record { line = p.line; col = p.col + 1 }) (sym (eq-eqb b 10 e))

pub no_line_feed : (p : Pos) (b : ℕ) → (b ≡ 10 → ⊥) → record { line = p.line; col = p.col + 1 } ≡ next_pos p b
unfolding next_pos
no_line_feed p b e = ap (λ t. if t then record { line = p.line + 1; col = 1 } else record { line = p.line; col = p.col + 1 }) (sym (ne_eqb b 10 e))
