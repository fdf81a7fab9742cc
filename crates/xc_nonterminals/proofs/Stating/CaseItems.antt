-- What stands directly in a case is what stands in a block, but for `break ;`.
use Rattle.std.proofs.Common.{◌≡◌, ℕ, ◌≤◌, ◌⊎◌, inl, inr, false, not, List, refl, ap, subst, ◌∙◌, arith}
use Rattle.xw_words.specs.declared.pos.Pos.{Pos}
use Rattle.xc_tree.specs.declared.token.Tok.{Tok}
use Rattle.xc_tree.specs.declared.token.Kind.TheVariants.{Key}
use Rattle.xc_tree.specs.Plain as plain
use Rattle.xc_tree.specs.Plain.{is_break}
use Rattle.xc_tree.specs.Symbol.{statement, assign, block_item, case_item}
use Rattle.xc_tree.specs.Derives.{On, Room, unlimited, at_most, Derives, Prefix, nothing}
use Rattle.xc_nonterminals.specs.declared.stop.Stop.{Stop}
use Rattle.xc_nonterminals.specs.declared.stop.Stop.TheVariants.{Wrong, Deep, Memory}
use Rattle.xc_nonterminals.specs.Reading.{IsFront, Reads}
use Rattle.xc_nonterminals.specs.Stops.{Stopped}
use Rattle.xc_nonterminals.proofs.Rests.Behinds.{token_derived}
use Rattle.xc_nonterminals.proofs.Rests.Alternatives.{by_rules, from_rules, by_starts, from_starts}
use Rattle.xc_nonterminals.proofs.Derivations.Lists.{unrow}
use Rattle.xc_tree.specs.Terminals as terminal

module _ {toks : List Tok} {k : ℕ} where
  -- an assignment is no `break ;`
  assigns_not : {r : Room} {j : ℕ} {a : plain.Action} (p c : Pos) (own : ℕ) → Derives toks r assign k j a → is_break (plain.statement a p c own) ≡ false
  assigns_not {r} {j} {a} p c own d = elim (by_rules toks r assign k j a refl d) [
    | inl x ↦ ap (λ b. is_break (plain.statement b p c own)) x.4
    | inr z ↦ elim z [
      | inl x ↦ ap (λ b. is_break (plain.statement b p c own)) x.4
      | inr z ↦ elim z [
        | inl x ↦ ap (λ b. is_break (plain.statement b p c own)) x.4
        | inr z ↦ elim z [ inl x ↦ ap (λ b. is_break (plain.statement b p c own)) x.4 | inr z ↦ absurd z ]
      ]
    ]
  ]

  -- a statement that doesn't begin with `break` is no `break ;`
  not_break : {r : Room} {j : ℕ} {v : plain.Statement} → ((p : Pos) → On toks k (Key 0) p → ⊥) → Derives toks r statement k j v → is_break v ≡ false
  not_break {r} {j} {v} none d = elim (by_rules toks r statement k j v refl d) [
    | inl x ↦ ap is_break x.4
    | inr z ↦ elim z [
      | inl x ↦ ap is_break x.4
      | inr z ↦ elim z [
        | inl x ↦ ap is_break x.4 ∙ assigns_not _ _ _ (unrow x.2).1
        | inr z ↦ elim z [
          | inl x ↦ ap is_break x.4
          | inr z ↦ elim z [
            | inl x ↦ ap is_break x.4
            | inr z ↦ elim z [
              | inl x ↦ ap is_break x.4
              | inr z ↦ elim z [
                | inl x ↦ ap is_break x.4
                | inr z ↦ elim z [
                  | inl x ↦ ap is_break x.4
                  | inr z ↦ elim z [
                    | inl x ↦ ap is_break x.4
                    | inr z ↦ elim z [
                      | inl x ↦ ap is_break x.4
                      | inr z ↦ elim z [
                        | inl x ↦ ap is_break x.4
                        | inr z ↦ elim z [
                          | inl x ↦ ap is_break x.4
                          | inr z ↦ elim z [
                            | inl x ↦ absurd (none _ (token_derived {t = terminal.break_word} refl (unrow x.2).1).1)
                            | inr z ↦ elim z [
                              | inl x ↦ ap is_break x.4
                              | inr z ↦ elim z [
                                | inl x ↦ ap is_break x.4
                                | inr z ↦ elim z [
                                  | inl x ↦ ap is_break x.4
                                  | inr z ↦ elim z [
                                    | inl x ↦ ap is_break x.4
                                    | inr z ↦ elim z [
                                      | inl x ↦ ap is_break x.4
                                      | inr z ↦ elim z [ inl x ↦ ap is_break x.4 | inr z ↦ absurd z ]
                                    ]
                                  ]
                                ]
                              ]
                            ]
                          ]
                        ]
                      ]
                    ]
                  ]
                ]
              ]
            ]
          ]
        ]
      ]
    ]
  ]

module _ {toks : List Tok} {room : Room} {k : ℕ} where
  to_block : {j : ℕ} {v : plain.Statement} → Derives toks room case_item k j v → Derives toks room block_item k j v
  to_block {j} {v} d = elim (by_rules toks room case_item k j v refl d) [
    | inl x ↦ from_rules toks room block_item k j v (inl x)
    | inr z ↦ elim z [ inl x ↦ from_rules toks room block_item k j v (inr (inl (x.0, x.1, x.2, refl, x.4))) | inr w ↦ absurd w ]
  ]

  to_case : {j : ℕ} {v : plain.Statement} → ((p : Pos) → On toks k (Key 0) p → ⊥) → Derives toks room block_item k j v → Derives toks room case_item k j v
  to_case {j} {v} none d = elim (by_rules toks room block_item k j v refl d) [
    | inl x ↦ from_rules toks room case_item k j v (inl x)
    | inr z ↦ elim z [
      | inl x ↦ from_rules toks room case_item k j v (inr (inl (x.0, x.1, x.2, ap not (not_break none (unrow x.2).1), x.4)))
      | inr w ↦ absurd w
    ]
  ]

  to_block_prefix : {n : ℕ} → Prefix toks room case_item k n → (n ≤ k) ⊎ Prefix toks room block_item k n
  to_block_prefix {n} q = elim (by_starts toks room case_item k n refl q) [ inl h ↦ inl h | inr z ↦ inr (from_starts toks room block_item k n z) ]

  to_case_prefix : {n : ℕ} → Prefix toks room block_item k n → (n ≤ k) ⊎ Prefix toks room case_item k n
  to_case_prefix {n} q = elim (by_starts toks room block_item k n refl q) [ inl h ↦ inl h | inr z ↦ inr (from_starts toks room case_item k n z) ]

as_front : {toks : List Tok} {l : ℕ} {w : plain.Statement} → IsFront toks block_item l w → IsFront toks case_item l w
as_front f = record { goes_on = f.goes_on; may = f.may }

-- so it is read, or refused, as what stands in a block is
module _ {toks : List Tok} {k : ℕ} (none : (p : Pos) → On toks k (Key 0) p → ⊥) where
  pub item_reads : {room j : ℕ} {v : plain.Statement} → Reads toks room block_item k j v → Reads toks room case_item k j v
  item_reads r = record {
    derives = to_case none r.derives;
    only = λ l w d. elim (r.only l w (to_block d)) [ inl e ↦ inl e | inr f ↦ inr (as_front f) ];
    most = λ n q. elim (to_block_prefix q) [ inl h ↦ let g = r.most k nothing in omega arith | inr q' ↦ r.most n q' ];
  }

  as_case : (limit : Room) {n : ℕ} → k ≤ n → Prefix toks limit block_item k n → Prefix toks limit case_item k n
  as_case limit {n} h q = elim (to_case_prefix q) [ inl g ↦ let e : k ≡ n = omega arith in subst (Prefix toks limit case_item k) e nothing | inr q' ↦ q' ]

  pub item_stops : (room : ℕ) (e : Stop) → Stopped toks room block_item k e → Stopped toks room case_item k e
  item_stops room (Wrong m) r = record {
    prefix = as_case (at_most room) (r.most k nothing) r.prefix;
    never = λ l w d. as_front (r.never l w (to_block d));
    most = λ n q. elim (to_block_prefix q) [ inl h ↦ let g = r.most k nothing in omega arith | inr q' ↦ r.most n q' ];
  }
  item_stops room (Deep m) r = record {
    prefix = as_case (at_most room) (r.most k nothing) r.prefix;
    begins = let g = r.most k nothing in as_case unlimited (omega arith) r.begins;
    never = λ l w d. as_front (r.never l w (to_block d));
    most = λ n q. elim (to_block_prefix q) [ inl h ↦ let g = r.most k nothing in omega arith | inr q' ↦ r.most n q' ];
  }
  item_stops room Memory r = tt
