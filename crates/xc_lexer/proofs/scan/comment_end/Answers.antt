use Rattle.std.proofs.Common.{◌≡◌, ℕ, ◌+◌, ◌-◌, ◌<◌, ◌≤◌, inl, inr, List, length, get_or, sym, subst, ◌∙◌, arith}
use Rattle.std.proofs.lemmas.Bool.{cases_lt}
use Rattle.std.proofs.lemmas.List.{get_or_past, get_or_default}
use borrow.Author.Count.{falls}
use Rattle.xc_tree.specs.Bytes.{Closes, ClosedAt, Unclosed}
use Rattle.xc_lexer.proofs.scan.comment_end.Goals.{else-text-k-eq42-via-then-text-k-eq42+else-text-k-eq47, else-text-k-eq42-via-else-text-k-eq42}
use Rattle.xc_lexer.proofs.scan.comment_end.Goals as goal

-- no `*/` stands from at on before k
abbrev None : List ℕ → ℕ → ℕ → Type 0
None text at k = (j : ℕ) → at ≤ j → j < k → Closes text j → ⊥

-- the first one stands at k
closed_at : (text : List ℕ) (at k : ℕ) → at ≤ k → None text at k → 1 < length text - k → get_or text k 0 ≡ 42 → get_or text (k + 1) 0 ≡ 47 →
    ClosedAt text at (k + 2) × (k + 2 ≤ length text)
closed_at text at k after none more star slash =
    let here : k ≡ k + 2 - 2 = omega arith in
    let closes : Closes text k = record {
      star = get_or_default text k 256 0 (omega (arith, more)) ∙ star;
      slash = get_or_default text (k + 1) 256 0 (omega (arith, more)) ∙ slash;
    } in (
      record {
        after = omega (arith, after);
        closes = subst (Closes text) here closes;
        first = λ j from below. none j from (omega (arith, below));
      },
      omega (arith, more),
    )

-- none stands behind the text, so that there is none at all
unclosed : (text : List ℕ) (at k : ℕ) → None text at k → length text ≤ k + 1 → Unclosed text at
unclosed text at k none past = record {
  never = λ j from closes. elim (cases_lt j k) [
    | inl h ↦ none j from h closes
    | inr h ↦ let behind = get_or_past text (j + 1) 256 (omega (arith, past, h)) in let slash = closes.slash in absurd (omega (arith, behind, slash))
  ];
}

-- none stands at k either
none_more : (text : List ℕ) (at k : ℕ) → None text at k → (Closes text k → ⊥) → None text at (k + 1)
none_more text at k none not j from below closes = elim (cases_lt j k) [
  | inl h ↦ none j from h closes
  | inr h ↦ let same : j ≡ k = omega (arith, below, h) in not (subst (Closes text) same closes)
]

-- none stands where there is no star
no_star : (text : List ℕ) (k : ℕ) → k < length text → (get_or text k 0 ≡ 42 → ⊥) → Closes text k → ⊥
no_star text k some other closes = other (sym (get_or_default text k 256 0 some) ∙ closes.star)

-- none stands where no slash follows
no_slash : (text : List ℕ) (k : ℕ) → 1 < length text - k → (get_or text (k + 1) 0 ≡ 47 → ⊥) → Closes text k → ⊥
no_slash text k more other closes = other (sym (get_or_default text (k + 1) 256 0 (omega (arith, more))) ∙ closes.slash)

pub bytes-init : goal.bytes-init
bytes-init c = record {
  after = omega arith;
  within = c.requires;
  none = λ j from below closes. omega (arith, from, below);
}

pub bytes-smaller : goal.bytes-smaller
bytes-smaller c = falls (length c.args.text.now) c.bytes.k c.bytes-test.true

pub returns-then-text-k-eq47-clause-closed : goal.returns-then-text-k-eq47-clause-closed
returns-then-text-k-eq47-clause-closed c =
    closed_at c.args.text.now c.args.at c.bytes.k c.bytes.invariant.after c.bytes.invariant.none c.if-text-k-gt1.true c.if-text-k-eq42.true
    c.if-text-k-eq47.true

pub bytes-preserved : goal.bytes-preserved
bytes-preserved c =
    let text = c.args.text.now in
    let k = c.bytes.k in
    let not : Closes text k → ⊥ = elim c.else-text-k-eq42.branch [
      | else-text-k-eq42-via-then-text-k-eq42+else-text-k-eq47 w ↦ no_slash text k c.if-text-k-gt1.true w.if-text-k-eq47.false
      | else-text-k-eq42-via-else-text-k-eq42 w ↦ no_star text k c.bytes-test.true w.if-text-k-eq42.false
    ] in
    let within = c.bytes-test.true in
    let after = c.bytes.invariant.after in
    record {
      after = omega (arith, after);
      within = omega (arith, within);
      none = none_more text c.args.at k c.bytes.invariant.none not;
    }

pub returns-else-text-k-gt1-clause-open : goal.returns-else-text-k-gt1-clause-open
returns-else-text-k-gt1-clause-open c =
    let few : length c.args.text.now - c.bytes.k ≤ 1 = c.if-text-k-gt1.false in
    unclosed c.args.text.now c.args.at c.bytes.k c.bytes.invariant.none (omega (arith, few))

pub returns-after-bytes-clause-open : goal.returns-after-bytes-clause-open
returns-after-bytes-clause-open c =
    let past = c.bytes-test.false in
    unclosed c.args.text.now c.args.at c.bytes.k c.bytes.invariant.none (omega (arith, past))
