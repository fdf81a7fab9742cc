-- How far a token reaches.
use Rattle.std.proofs.Common.{◌≡◌, ℕ, ◌+◌, ◌≤◌, inl, Bool, true, List, refl, arith}
use Rattle.xw_words.specs.declared.pos.Pos.{Pos}
use Rattle.xc_tree.specs.declared.token.Tok.{Tok}
use Rattle.xc_tree.specs.declared.token.Kind.TheVariants.{Name, Num, Key, Sym}
use Rattle.xc_tree.specs.Symbol.{Symbol, sym, key, a_name, a_number, Value}
use Rattle.xc_tree.specs.Derives.{On, Prefix, nothing, whole, begins, unlimited}
use Rattle.xc_nonterminals.specs.Reading.{Reads, Refuses}
use Rattle.xc_nonterminals.proofs.Rests.Opening.{is_token}
use Rattle.xc_nonterminals.proofs.Rests.Behinds.{TokenAt, token_derives, token_derived, token_prefix, same_value, no_rule}

no_prefix : {toks : List Tok} {i n : ℕ} (t : Symbol) → is_token t ≡ true → ((v : Value t) → TokenAt toks i t v → ⊥) → Prefix toks unlimited t i n → n ≤ i
no_prefix t e none nothing = omega arith
no_prefix t e none (whole {v} d) = absurd (none v (token_derived e d).1)
no_prefix t e none (begins a h b) = absurd (no_rule t e a)

module _ {toks : List Tok} {room i : ℕ} where
  pub token_reads : (t : Symbol) → is_token t ≡ true → (v : Value t) → TokenAt toks i t v → Reads toks room t i (i + 1) v
  token_reads t e v at = record {
    derives = token_derives t at;
    only = λ k w d. let y = token_derived e d in inl (y.0, same_value toks i t v w at y.1);
    most = λ n q. token_prefix e q;
  }

  pub token_refuses : (t : Symbol) → is_token t ≡ true → ((v : Value t) → TokenAt toks i t v → ⊥) → Refuses toks room t i i
  token_refuses t e none = record {
    prefix = nothing;
    never = λ k w d. absurd (none w (token_derived e d).1);
    most = λ n q. no_prefix t e none q;
  }

  pub symbol_reads : {o : ℕ} {p : Pos} → On toks i (Sym o) p → Reads toks room (sym o) i (i + 1) p
  symbol_reads {o} {p} on = token_reads (sym o) refl p on

  pub word_reads : {w : ℕ} {p : Pos} → On toks i (Key w) p → Reads toks room (key w) i (i + 1) p
  word_reads {w} {p} on = token_reads (key w) refl p on

  pub name_reads : {t : List ℕ} {p : Pos} → On toks i (Name t) p → Reads toks room a_name i (i + 1) (record { text = t; pos = p })
  name_reads {t} {p} on = token_reads a_name refl (record { text = t; pos = p }) on

  pub number_reads : {n : ℕ} {u : Bool} {p : Pos} → On toks i (Num n u) p → Reads toks room a_number i (i + 1) (record { value = n; is_unsigned = u; pos = p })
  number_reads {n} {u} {p} on = token_reads a_number refl (record { value = n; is_unsigned = u; pos = p }) on

  pub symbol_refuses : (o : ℕ) → ((p : Pos) → On toks i (Sym o) p → ⊥) → Refuses toks room (sym o) i i
  symbol_refuses o none = token_refuses (sym o) refl none

  pub word_refuses : (w : ℕ) → ((p : Pos) → On toks i (Key w) p → ⊥) → Refuses toks room (key w) i i
  word_refuses w none = token_refuses (key w) refl none

  pub name_refuses : ((t : List ℕ) (p : Pos) → On toks i (Name t) p → ⊥) → Refuses toks room a_name i i
  name_refuses none = token_refuses a_name refl (λ v on. none v.text v.pos on)

  pub number_refuses : ((n : ℕ) (u : Bool) (p : Pos) → On toks i (Num n u) p → ⊥) → Refuses toks room a_number i i
  number_refuses none = token_refuses a_number refl (λ v on. none v.value v.is_unsigned v.pos on)
