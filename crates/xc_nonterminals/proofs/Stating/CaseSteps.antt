-- Paths through a case: what it waits for, and its statements.
use Rattle.std.proofs.Common.{◌≡◌, ℕ, ◌+◌, ◌-◌, ◌<◌, ◌≤◌, List, [], ◌∷◌, ◌++◌, Option, Some, None, refl, sym as sym', subst, append_assoc, append-nil, arith}
use Rattle.xw_words.specs.declared.pos.Pos.{Pos}
use Rattle.xc_tree.specs.declared.token.Tok.{Tok}
use Rattle.xc_tree.specs.declared.token.Kind.TheVariants.{Name, Key}
use Rattle.xc_tree.specs.Plain as plain
use Rattle.xc_tree.specs.Symbol.{key, block_item, case_item, case, guard, input, Values}
use Rattle.xc_tree.specs.Derives.{On, in_this}
use Rattle.xc_nonterminals.specs.declared.stop.Stop.{Stop}
use Rattle.xc_nonterminals.specs.declared.stop.Stop.TheVariants.{Wrong, Deep, Memory}
use Rattle.xc_nonterminals.specs.Follows.{OneOf}
use Rattle.xc_nonterminals.specs.Reading.{Reads}
use Rattle.xc_nonterminals.specs.Stops.{Stopped}
use Rattle.xc_nonterminals.specs.CaseParts.{awaited, event_row, body_row}
use Rattle.xc_nonterminals.specs.RowReading.{ReadsRow, StoppedRow}
use Rattle.xc_nonterminals.proofs.Derivations.Single.{key_reads}
use Rattle.xc_nonterminals.proofs.Derivations.Forth.{forth, row_forth}
use Rattle.xc_nonterminals.proofs.Derivations.TokenSets.{one_token_of}
use Rattle.xc_nonterminals.proofs.Derivations.Lists.{unrow, unend}
use Rattle.xc_nonterminals.proofs.Rests.Behinds.{token_derived}
use Rattle.xc_nonterminals.proofs.Reading.Paths.{begin, lacks_word, at_word, read, stops, finish}
use Rattle.xc_nonterminals.proofs.Derivations.Counts.{held_case}
use Rattle.xc_nonterminals.proofs.Reading.RowReads.{NoRow, row_read, row_goes, row_stops, no_more_row, one_of_many, with_it, without_it, packed_read, packed_stops, beyond_start, beyond_begun, IsBeyond}
use Rattle.xc_nonterminals.proofs.Reading.RowSteps.{read_row, stops_row}
use Rattle.xc_nonterminals.proofs.Stating.CaseEnds.{ending, items_end}
use Rattle.xc_nonterminals.proofs.Stating.CaseItems.{item_reads, item_stops}
use Rattle.xc_nonterminals.proofs.Stating.Guards.{guarded, begins_guard, begins_input}
use Rattle.xc_tree.specs.Terminals as terminal

no_word : {toks : List Tok} {i w : ℕ} → ((p : Pos) → On toks i (Key w) p → ⊥) → OneOf toks i (key w ∷ []) → ⊥
no_word {w} none o = let x = one_token_of (key w) o in none x.0 x.1

-- From i to k these statements of a case were read: what is read from k on is read from i on with them before it.
pub record Leads (toks : List Tok) (room i k : ℕ) (xs : List plain.Statement) : Type 0 where
  pub reads : (j : ℕ) (ys : List plain.Statement) (u : Values ending) → ReadsRow toks room body_row k j (ys, u) → ReadsRow toks room body_row i j (xs ++ ys, u)
  pub stops : (e : Stop) → StoppedRow toks room body_row k e → StoppedRow toks room body_row i e

module _ {toks : List Tok} {room i : ℕ} where
  pub leads_none : Leads toks room i i []
  leads_none = record { reads = λ j ys u r. r; stops = λ e r. r }

  module _ {k : ℕ} {xs : List plain.Statement} (l : Leads toks room i k xs) where
    pub leads_more : {j : ℕ} {v : plain.Statement} → ((p : Pos) → On toks k (Key 0) p → ⊥) → Reads toks room block_item k j v → Leads toks room i j (xs ++ (v ∷ []))
    leads_more {j} {v} none r =
        let c = item_reads none r in
        let h = forth r.derives in
        record {
          reads = λ n ys u q.
              let g = row_forth q.derives in
              let a = packed_read (one_of_many case_item ending (no_word none) refl) (row_read c q refl) (omega arith) in
              subst (λ (zs : List plain.Statement). ReadsRow toks room body_row i n (zs, u)) (sym' (append_assoc xs (v ∷ []) ys)) (l.reads n (v ∷ ys) u a);
          stops = λ e q.
              let b = row_goes toks room k case_item body_row e c q refl in
              l.stops e (packed_stops (one_of_many case_item ending (no_word none) refl) room e b (beyond_start toks room k _ e b));
        }

    pub leads_stop : (e : Stop) → ((p : Pos) → On toks k (Key 0) p → ⊥) → Stopped toks room block_item k e → StoppedRow toks room body_row i e
    leads_stop e none r =
        let b = row_stops toks room k case_item body_row e (item_stops none room e r) refl in
        l.stops e (packed_stops (one_of_many case_item ending (no_word none) refl) room e b (beyond_start toks room k _ e b))

    pub leads_end : {p q : Pos} {j : ℕ} → On toks k (Key 0) p → Reads toks room terminal.semicolon (k + 1) j q → ReadsRow toks room body_row i j (xs, (p, (q, tt)))
    leads_end {p} {q} {j} on r =
        let h = forth r.derives in
        let a = packed_read (items_end on) (row_read (key_reads on room) (row_read r no_more_row refl) refl) (omega arith) in
        subst (λ (zs : List plain.Statement). ReadsRow toks room body_row i j (zs, (p, (q, tt)))) (append-nil xs) (l.reads j [] (p, (q, tt)) a)

    pub leads_open : {p : Pos} (e : Stop) → On toks k (Key 0) p → Stopped toks room terminal.semicolon (k + 1) e → StoppedRow toks room body_row i e
    leads_open e on r =
        let b = row_goes toks room k terminal.break_word (terminal.semicolon ∷ []) e (key_reads on room) (row_stops toks room (k + 1) terminal.semicolon [] e r refl) refl in
        l.stops e (packed_stops (items_end on) room e b (beyond_start toks room k _ e b))

-- how many tokens they have
pub case_body_tokens : {toks : List Tok} {room i : ℕ} (k : ℕ) {n : ℕ} {ss : List plain.Statement} {p q : Pos} → n ≡ k + 1 + 1 → ReadsRow toks room body_row i n (ss, (p, (q, tt))) → k - i ≡ plain.all_tokens (plain.statements ss)
case_body_tokens {toks} {room} {i} k {n} {ss} {p} {q} t r =
    let a = unrow r.derives in
    let b = unrow a.2 in
    let c = unrow b.2 in
    let e = (token_derived {t = terminal.break_word} refl b.1).0 in
    let f = (token_derived {t = terminal.semicolon} refl c.1).0 in
    let g = unend c.2 in
    let h : a.0 ≡ k = omega (arith, t) in
    subst (λ (l : ℕ). l - i ≡ plain.all_tokens (plain.statements ss)) h (held_case (record { line = 0; col = 0 }) None None a.1)

-- an input and its colon
module _ (toks : List Tok) (room i : ℕ) where
  pub input_stops : (e : Stop) → Stopped toks room input i e → StoppedRow toks room awaited i e
  input_stops e r = row_stops toks room i input (terminal.colon ∷ []) e r refl

  pub colon_stops : {j : ℕ} {v : plain.Input} (e : Stop) → Reads toks room input i j v → Stopped toks room terminal.colon j e → StoppedRow toks room awaited i e
  colon_stops {j} e r s = row_goes toks room i input (terminal.colon ∷ []) e r (row_stops toks room j terminal.colon [] e s refl) refl

  pub input_reads : {j k : ℕ} {v : plain.Input} {p : Pos} → Reads toks room input i j v → Reads toks room terminal.colon j k p → ReadsRow toks room awaited i k (v, (p, tt))
  input_reads r s = row_read r (row_read s no_more_row refl) refl

  -- no guard stands before them
  module _ {x : List ℕ} {p : Pos} (on : On toks i (Name x) p) (none : NoRow toks guarded i (i + 1)) where
    pub alone_reads : {k : ℕ} {v : plain.Input} {q : Pos} → i < k → ReadsRow toks room awaited i k (v, (q, tt)) → ReadsRow toks room event_row i k (None, (v, (q, tt)))
    alone_reads h r = packed_read (without_it guard awaited none) r (omega arith)

    pub alone_stops : (e : Stop) → StoppedRow toks room awaited i e → StoppedRow toks room event_row i e
    alone_stops e r = packed_stops (without_it guard awaited none) room e r (beyond_begun toks room i (i + 1) awaited e r (in_this (begins_input on)))

  -- a guard stands before them
  module _ {m : ℕ} (none : NoRow toks awaited i m) where
    pub guarded_reads : {j k : ℕ} {g : plain.Expression} {v : plain.Input} {q : Pos} → Reads toks room guard i j g → m ≤ j → ReadsRow toks room awaited j k (v, (q, tt)) → ReadsRow toks room event_row i k (Some g, (v, (q, tt)))
    guarded_reads r h s = let l = row_forth s.derives in packed_read (with_it guard awaited none) (row_read r s refl) (omega arith)

    pub guarded_stops : {j : ℕ} {g : plain.Expression} (e : Stop) → Reads toks room guard i j g → m ≤ j → StoppedRow toks room awaited j e → StoppedRow toks room event_row i e
    guarded_stops {j} e r h s =
        let b = row_goes toks room i guard awaited e r s refl in
        packed_stops (with_it guard awaited none) room e b (later j m e h (beyond_start toks room j awaited e s))
      where
        later : (j m : ℕ) (e : Stop) → m ≤ j → IsBeyond e j → IsBeyond e m
        later j m (Wrong n) h l = omega arith
        later j m (Deep n) h l = omega arith
        later j m Memory h l = tt

    pub guard_stops : (e : Stop) → Stopped toks room guard i e → IsBeyond e m → StoppedRow toks room event_row i e
    guard_stops e r h = packed_stops (with_it guard awaited none) room e (row_stops toks room i guard awaited e r refl) h

  -- how far a guard that begins with a name goes at least
  pub named_guard : {x : List ℕ} {p : Pos} (e : Stop) → On toks i (Name x) p → 1 ≤ room → Stopped toks room guard i e → IsBeyond e (i + 1)
  named_guard e on h r = beyond_begun toks room i (i + 1) guarded e (row_stops toks room i guard awaited e r refl) (in_this (begins_guard on h))

  pub any_guard : (e : Stop) → Stopped toks room guard i e → IsBeyond e i
  any_guard e r = beyond_start toks room i guarded e (row_stops toks room i guard awaited e r refl)

-- a case
module _ (toks : List Tok) (room i : ℕ) where
  module _ (other : (p : Pos) → On toks i (Key 5) p → ⊥) where
    pub case_word_stops : (e : Stop) → Stopped toks room terminal.case_word i e → Stopped toks room case i e
    case_word_stops e r = stops e (lacks_word 5 (begin refl tt) other) r refl

    module _ {j : ℕ} {p : Pos} (word : Reads toks room terminal.case_word i j p) where
      pub case_event_stops : (e : Stop) → StoppedRow toks room event_row j e → Stopped toks room case i e
      case_event_stops e r = stops_row 0 event_row _ e (read (lacks_word 5 (begin refl tt) other) word refl) r refl

      module _ {k : ℕ} {g : Option plain.Expression} {v : plain.Input} {q : Pos} (event : ReadsRow toks room event_row j k (g, (v, (q, tt)))) where
        pub case_body_stops : (e : Stop) → StoppedRow toks room body_row k e → Stopped toks room case i e
        case_body_stops e r = stops_row 0 body_row [] e (read_row 0 event_row _ (read (lacks_word 5 (begin refl tt) other) word refl) event refl refl) r refl

        pub reads_case : {n : ℕ} {ss : List plain.Statement} {b c : Pos} → ReadsRow toks room body_row k n (ss, (b, (c, tt))) → Reads toks room case i n (plain.case p g (Some v) (plain.statements ss))
        reads_case r = finish (read_row 0 body_row [] (read_row 0 event_row _ (read (lacks_word 5 (begin refl tt) other) word refl) event refl refl) r refl refl) refl

  -- one that waits for nothing
  module _ {x : Pos} (on : On toks i (Key 5) x) where
    pub default_word_stops : (e : Stop) → Stopped toks room terminal.default_word i e → Stopped toks room case i e
    default_word_stops e r = stops e (at_word (begin refl tt) on) r refl

    module _ {j : ℕ} {p : Pos} (word : Reads toks room terminal.default_word i j p) where
      pub default_colon_stops : (e : Stop) → Stopped toks room terminal.colon j e → Stopped toks room case i e
      default_colon_stops e r = stops e (read (at_word (begin refl tt) on) word refl) r refl

      module _ {k : ℕ} {q : Pos} (colon : Reads toks room terminal.colon j k q) where
        pub default_stops : (e : Stop) → StoppedRow toks room body_row k e → Stopped toks room case i e
        default_stops e r = stops_row 0 body_row [] e (read (read (at_word (begin refl tt) on) word refl) colon refl) r refl

        pub default_reads : {n : ℕ} {ss : List plain.Statement} {b c : Pos} → ReadsRow toks room body_row k n (ss, (b, (c, tt))) → Reads toks room case i n (plain.case p None None (plain.statements ss))
        default_reads r = finish (read_row 0 body_row [] (read (read (at_word (begin refl tt) on) word refl) colon refl) r refl refl) refl
