-- What is read with the room inside a statement, and what stops for want of memory.
use Rattle.std.proofs.Common.{◌≡◌, ℕ, ◌+◌, List, sym, subst, arith}
use Rattle.xc_tree.specs.declared.token.Tok.{Tok}
use Rattle.xc_tree.specs.Symbol.{Symbol, Value}
use Rattle.xc_nonterminals.specs.declared.stop.Stop.{Stop}
use Rattle.xc_nonterminals.specs.declared.stop.Stop.TheVariants.{Memory}
use Rattle.xc_nonterminals.specs.Reading.{Reads, Unfit}
use Rattle.xc_nonterminals.specs.Stops.{Stopped}
use Rattle.xc_nonterminals.proofs.Rests.Rests.{Rest, left}
use Rattle.xc_nonterminals.proofs.Reading.Paths.{Roomy}

one_left : (room : ℕ) → room ≡ left (room + 1) 1
one_left room = omega arith

pub inner_reads : {toks : List Tok} (room : ℕ) {s : Symbol} {i j : ℕ} {v : Value s} → Reads toks room s i j v → Reads toks (left (room + 1) 1) s i j v
inner_reads {toks} room {s} {i} {j} {v} r = subst (λ (n : ℕ). Reads toks n s i j v) (one_left room) r

pub inner_stopped : (toks : List Tok) (room : ℕ) (s : Symbol) (i : ℕ) (e : Stop) → Stopped toks room s i e → Stopped toks (left (room + 1) 1) s i e
inner_stopped toks room s i e r = subst (λ (n : ℕ). Stopped toks n s i e) (one_left room) r

pub inner_unfit : {toks : List Tok} (room : ℕ) {s : Symbol} {i j : ℕ} → Unfit toks room s i j → Unfit toks (left (room + 1) 1) s i j
inner_unfit {toks} room {s} {i} {j} r = subst (λ (n : ℕ). Unfit toks n s i j) (one_left room) r

pub inner_roomy : {toks : List Tok} (room : ℕ) {s : Symbol} {i k : ℕ} {rs : List (Rest (Value s))} → Roomy toks room s i k rs → Roomy toks (left (room + 1) 1) s i k rs
inner_roomy {toks} room {s} {i} {k} {rs} r = subst (λ (n : ℕ). Roomy toks n s i k rs) (one_left room) r

-- want of memory stops every symbol
pub memory_stops : (toks : List Tok) (room : ℕ) (s : Symbol) (i : ℕ) {e : Stop} → e ≡ Memory → Stopped toks room s i e
memory_stops toks room s i h = subst (Stopped toks room s i) (sym h) tt
