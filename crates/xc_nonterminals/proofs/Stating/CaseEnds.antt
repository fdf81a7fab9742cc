-- The statements of a case end where a `break` stands: a statement that begins with one is `break ;`, which doesn't stand
-- directly in a case.
use Rattle.std.proofs.Common.{◌≡◌, ℕ, ◌≤◌, ◌⊎◌, inl, inr, Bool, true, ◌&&◌, List, [], ◌∷◌, refl, sym as sym', ap, subst}
use Rattle.std.proofs.lemmas.Bool.{and_parts}
use Rattle.xw_words.specs.declared.pos.Pos.{Pos}
use Rattle.xc_tree.specs.declared.token.Tok.{Tok}
use Rattle.xc_tree.specs.declared.token.Kind.TheVariants.{Key}
use Rattle.xc_tree.specs.Plain as plain
use Rattle.xc_tree.specs.Symbol.{Symbol, many, statement, case_item}
use Rattle.xc_tree.specs.Grammar.{rules}
use Rattle.xc_tree.specs.Derives.{On, Room, Derives, Row, next, Prefix, nothing, whole, Begins, in_this, after}
use Rattle.xc_nonterminals.proofs.Rests.Opening.{is_token}
use Rattle.xc_nonterminals.proofs.Rests.Alternatives.{by_starts}
use Rattle.xc_nonterminals.proofs.Rests.Behinds.{token_derives, token_derived}
use Rattle.xc_nonterminals.proofs.Meeting.Openers.{begins_opened, no_item}
use Rattle.xc_nonterminals.proofs.Derivations.Lists.{token_begun, unrow, unbegin, unbegin_none, many_split, many_none, many_begin}
use Rattle.xc_nonterminals.proofs.Reading.RowReads.{Packs}
use Rattle.xc_tree.specs.Terminals as terminal

abbrev all_tokens : List Symbol → Bool
all_tokens [] = true
all_tokens (t ∷ ts) = is_token t && all_tokens ts

-- tokens need no room
begins_anew : {toks : List Tok} {a b : Room} {i n : ℕ} (ss : List Symbol) → all_tokens ss ≡ true → Begins toks a ss i n → Begins toks b ss i n
begins_anew [] e x = absurd (unbegin_none x)
begins_anew {toks} {b} {i} (t ∷ ss) e x =
    let p = and_parts (is_token t) (all_tokens ss) e in
    elim (unbegin x) [
      | inl q ↦ elim (token_begun p.0 q) [
        | inl h ↦ in_this (subst (Prefix toks b t i) (sym' h) nothing)
        | inr z ↦ in_this (subst (Prefix toks b t i) (sym' z.0) (whole (token_derives t z.2)))
      ]
      | inr y ↦ let z = token_derived {t = t} p.0 y.2 in after (subst (λ (k : ℕ). Derives toks b t i k y.1) (sym' z.0) (token_derives t z.1)) (begins_anew ss p.1 y.3)
    ]

-- `break ;`
abbrev pub ending : List Symbol
ending = terminal.break_word ∷ terminal.semicolon ∷ []

module _ {toks : List Tok} {i : ℕ} {p : Pos} (on : On toks i (Key 0) p) where
  statement_begins : {room other : Room} {n : ℕ} → Prefix toks room statement i n → (n ≤ i) ⊎ Begins toks other ending i n
  statement_begins {room} {n} q = elim (by_starts toks room statement i n refl q) [
    | inl h ↦ inl h
    | inr x ↦ elim (begins_opened toks room i terminal.break_word (p, on) (rules statement) n x) [
      | inl h ↦ inl h
      | inr y ↦ elim y [ inl z ↦ inr (begins_anew ending refl z.1) | inr z ↦ absurd z ]
    ]
  ]

  item_begins : {room other : Room} {n : ℕ} → Prefix toks room case_item i n → (n ≤ i) ⊎ Begins toks other ending i n
  item_begins {room} {n} q = elim (by_starts toks room case_item i n refl q) [
    | inl h ↦ inl h
    | inr x ↦ elim (begins_opened toks room i terminal.break_word (p, on) (rules case_item) n x) [
      | inl h ↦ inl h
      | inr y ↦ elim y [
        | inl z ↦ elim (unbegin z.1) [ inl w ↦ statement_begins w | inr w ↦ absurd (unbegin_none w.3) ]
        | inr z ↦ absurd z
      ]
    ]
  ]

  -- no more statements of the case
  pub items_end : Packs toks i i (many case_item ∷ ending) ending (λ x. ([], x))
  items_end = record {
    to = λ room k ws r. next many_none r;
    from = λ room k vs r. let y = unrow r in elim (many_split y.1) [
      | inl e ↦ (vs.1, subst (λ (l : ℕ). Row toks room ending l k vs.1) e.0 y.2, ap (λ (xs : List plain.Statement). (xs, vs.1)) e.1)
      | inr z ↦ absurd (no_item on z.3)
    ];
    begins_to = λ room n b. after many_none b;
    begins_from = λ room n b. elim (unbegin b) [
      | inl q ↦ elim (many_begin q) [
        | inl h ↦ inl h
        | inr z ↦ elim z [ inl w ↦ item_begins w | inr w ↦ absurd (no_item on w.2) ]
      ]
      | inr y ↦ elim (many_split y.2) [
        | inl e ↦ inr (subst (λ (l : ℕ). Begins toks room ending l n) e.0 y.3)
        | inr z ↦ absurd (no_item on z.3)
      ]
    ];
  }
