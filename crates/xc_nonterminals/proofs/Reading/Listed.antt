-- Rows `t { "," t }` as a loop reads them: the last one was read, and what stands behind it isn't yet known.
use Rattle.std.proofs.Common.{◌≡◌, ℕ, ◌+◌, true, List, [], ◌∷◌, ◌++◌, subst}
use Rattle.xw_words.specs.declared.pos.Pos.{Pos}
use Rattle.xc_tree.specs.declared.token.Tok.{Tok}
use Rattle.xc_tree.specs.declared.token.Kind.TheVariants.{Sym}
use Rattle.xc_tree.specs.Symbol.{Symbol, Value}
use Rattle.xc_tree.specs.Derives.{On}
use Rattle.xc_nonterminals.specs.declared.stop.Stop.{Stop}
use Rattle.xc_nonterminals.specs.Reading.{Reads}
use Rattle.xc_nonterminals.specs.Stops.{Stopped}
use Rattle.xc_nonterminals.proofs.Rests.Rests.{left}
use Rattle.xc_nonterminals.proofs.Reading.Paths.{Roomy}
use Rattle.xc_nonterminals.proofs.Reading.Loops.{Run, listing, had, is_row}
use Rattle.xc_nonterminals.proofs.Reading.Rows.{with_comma, last_one, row_stops}

-- of a row inside the symbol s these values were read up to j
pub record Listed (toks : List Tok) (room : ℕ) (s : Symbol) (i : ℕ) (r : Run (Value s)) (j : ℕ) (ys : List (Value r.symbol)) : Type 0 where
  pub from : ℕ
  pub before : List (Value r.symbol)
  pub last : Value r.symbol
  pub stands : Roomy toks room s i from (listing r before ∷ [])
  pub reads : Reads toks (left room r.above) r.symbol from j last
  pub is : before ++ (last ∷ []) ≡ ys

module _ {toks : List Tok} {room : ℕ} {s : Symbol} {i : ℕ} (r : Run (Value s)) where
  pub first_listed : {k j : ℕ} {v : Value r.symbol} {ys : List (Value r.symbol)} → Roomy toks room s i k (listing r [] ∷ []) → Reads toks (left room r.above) r.symbol k j v → v ∷ [] ≡ ys → Listed toks room s i r j ys
  first_listed {k} {v} st x e = record { from = k; before = []; last = v; stands = st; reads = x; is = e }

  -- behind a comma
  behind_comma : {j : ℕ} {ys : List (Value r.symbol)} {p : Pos} → Listed toks room s i r j ys → On toks j (Sym 7) p → is_row s r.symbol r.parts ≡ true → Roomy toks room s i (j + 1) (listing r ys ∷ [])
  behind_comma {j} l on e = subst (λ zs. Roomy toks room s i (j + 1) (listing r zs ∷ [])) l.is (with_comma r l.before l.stands l.reads on e)

  pub next_listed : {j m : ℕ} {ys zs : List (Value r.symbol)} {v : Value r.symbol} {p : Pos} → Listed toks room s i r j ys → On toks j (Sym 7) p → is_row s r.symbol r.parts ≡ true → Reads toks (left room r.above) r.symbol (j + 1) m v → ys ++ (v ∷ []) ≡ zs → Listed toks room s i r m zs
  next_listed {j} {ys} {v} l on d x e = record { from = j + 1; before = ys; last = v; stands = behind_comma l on d; reads = x; is = e }

  pub next_stops : {j : ℕ} {ys : List (Value r.symbol)} {p : Pos} (e : Stop) → Listed toks room s i r j ys → On toks j (Sym 7) p → is_row s r.symbol r.parts ≡ true → Stopped toks (left room r.above) r.symbol (j + 1) e → Stopped toks room s i e
  next_stops {ys} e l on d x = row_stops r ys e (behind_comma l on d) x d

  pub end_listed : {j : ℕ} {ys : List (Value r.symbol)} → Listed toks room s i r j ys → ((p : Pos) → On toks j (Sym 7) p → ⊥) → is_row s r.symbol r.parts ≡ true → Roomy toks room s i j (had r ys ∷ [])
  end_listed {j} l none e = subst (λ zs. Roomy toks room s i j (had r zs ∷ [])) l.is (last_one r l.before l.stands l.reads none e)
