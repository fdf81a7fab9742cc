-- Declarations: the rows of their names, as they are read.
use Rattle.std.proofs.Common.{◌≡◌, ℕ, ◌+◌, ◌-◌, ◌≤◌, inl, inr, Bool, true, false, List, [], ◌∷◌, ◌++◌, map, IsTrue, refl, sym as sym', ap, subst, ◌∙◌, if◌then◌else◌, lit<, arith}
use Rattle.std.proofs.lemmas.List.{map-append}
use Rattle.xw_words.specs.declared.pos.Pos.{Pos}
use Rattle.xc_tree.specs.declared.token.Tok.{Tok}
use Rattle.xc_tree.specs.declared.token.Kind.TheVariants.{Sym, Key}
use Rattle.xc_tree.specs.declared.tree.Id.{Id}
use Rattle.xc_tree.specs.declared.tree.Declared.{Declared}
use Rattle.xc_tree.specs.Plain as plain
use Rattle.xc_tree.specs.Symbol.{a_name, word, decl, dv, Declarator, Value}
use Rattle.xc_tree.specs.Grammar.{statement_of, named, declared}
use Rattle.xc_tree.specs.Derives.{On, extent}
use Rattle.xc_tree.specs.Trees.{declaration_of}
use Rattle.xc_nonterminals.specs.declared.stop.Stop.{Stop}
use Rattle.xc_nonterminals.specs.declared.stop.Stop.TheVariants.{Wrong, Deep, Memory}
use Rattle.xc_nonterminals.specs.Follows.{OneOf, begins_declaration}
use Rattle.xc_nonterminals.specs.Reading.{Reads, Refuses, TooDeep}
use Rattle.xc_nonterminals.specs.Stops.{Stopped}
use Rattle.xc_nonterminals.specs.Parts.{resource_kind, Declares, Names, NoName, Adds}
use Rattle.xc_nonterminals.proofs.Reading.Paths.{Roomy, begin, over_word, read, stops, finish}
use Rattle.xc_nonterminals.proofs.Rests.Choices.{all_open, no_one, dead, stuck}
use Rattle.xc_nonterminals.proofs.Reading.Loops.{Run, listing, is_row}
use Rattle.xc_nonterminals.proofs.Reading.Rows.{with_comma, row_stops, row_unfit}
use Rattle.xc_nonterminals.proofs.Reading.Listed.{Listed, first_listed, next_listed, end_listed}
use Rattle.xc_nonterminals.proofs.Stating.Marks.{first_of, none_of, at_a_type}
use Rattle.xc_tree.specs.Terminals as terminal

-- no declaration begins there
pub decl_refuses : {toks : List Tok} {i : ℕ} (room : ℕ) → (OneOf toks i begins_declaration → ⊥) → Refuses toks room decl i i
decl_refuses room none = stuck (no_one begins_declaration (all_open refl) none)

-- one begins there, and has no room
pub decl_deep : {toks : List Tok} {i : ℕ} (room : ℕ) → room ≡ 0 → OneOf toks i begins_declaration → TooDeep toks room decl i i
decl_deep {toks} {i} room e o = subst (λ r. TooDeep toks r decl i i) (sym' e) (elim (first_of terminal.int_word (terminal.unsigned_word ∷ terminal.chan_word ∷ terminal.timer_word ∷ []) o) [
  | inl x ↦ dead terminal.int_word (all_open refl) x refl (lit< tt, tt)
  | inr o ↦ elim (first_of terminal.unsigned_word (terminal.chan_word ∷ terminal.timer_word ∷ []) o) [
    | inl x ↦ dead terminal.unsigned_word (all_open refl) x refl (lit< tt, tt)
    | inr o ↦ elim (first_of terminal.chan_word (terminal.timer_word ∷ []) o) [
      | inl x ↦ dead terminal.chan_word (all_open refl) x refl (lit< tt, tt)
      | inr o ↦ elim (first_of terminal.timer_word [] o) [ inl x ↦ dead terminal.timer_word (all_open refl) x refl (lit< tt, tt) | inr o ↦ absurd (none_of o) ]
    ]
  ]
])

-- the rest of a declaration of variables and arrays, and of one of channels or timers
abbrev pub row_of_words : Bool → Run plain.Statement
row_of_words w = record {
  need = 1;
  above = 1;
  symbol = dv;
  parts = record { above = 1; symbol = terminal.semicolon } ∷ [];
  fits = λ x. true;
  make = λ e x. statement_of e (plain.declare (map (declared w) x.0));
}

abbrev pub row_of_resources : Bool → Run plain.Statement
row_of_resources is_chan = record {
  need = 1;
  above = 1;
  symbol = a_name;
  parts = record { above = 1; symbol = terminal.semicolon } ∷ [];
  fits = λ x. true;
  make = λ e x. statement_of e (plain.declare (map (named (resource_kind is_chan)) x.0));
}

abbrev resource_word : Bool → ℕ
resource_word is_chan = if is_chan then 2 else 24

module _ (toks : List Tok) (room i : ℕ) (h : 1 ≤ room) where
  pub word_stops : (e : Stop) → OneOf toks i (terminal.int_word ∷ terminal.unsigned_word ∷ []) → Stopped toks (room - 1) word i e → Stopped toks room decl i e
  word_stops e o x = stops e (at_a_type (begin refl h) o refl) x refl

  pub word_begins : {j : ℕ} {w : Bool} → OneOf toks i (terminal.int_word ∷ terminal.unsigned_word ∷ []) → Reads toks (room - 1) word i j w → Roomy toks room decl i j (listing (row_of_words w) [] ∷ [])
  word_begins o x = read (at_a_type (begin refl h) o refl) x refl

  pub resource_begins : {p : Pos} (is_chan : Bool) → On toks i (Key (resource_word is_chan)) p → Roomy toks room decl i (i + 1) (listing (row_of_resources is_chan) [] ∷ [])
  resource_begins true on = over_word (begin refl h) on refl
  resource_begins false on = over_word (begin refl h) on refl

  module _ (w : Bool) where
    -- a name was refused, or its value is too deep
    pub declared_stops : {k : ℕ} (ys : List Declarator) (e : Stop) → Roomy toks room decl i k (listing (row_of_words w) ys ∷ []) → NoName toks (room - 1) k e → Stopped toks room decl i e
    declared_stops ys e st (inl x) = row_stops (row_of_words w) ys e st x refl
    declared_stops ys (Deep m) st (inr x) =
        let cut = row_unfit (row_of_words w) ys st x.1 refl in
        subst (λ n. TooDeep toks room decl i n) (sym' x.2.0) (elim (first_of terminal.comma (terminal.semicolon ∷ []) x.2.1) [
          | inl y ↦ dead terminal.comma cut y refl (omega arith, tt)
          | inr o ↦ elim (first_of terminal.semicolon [] o) [ inl y ↦ dead terminal.semicolon cut y refl (omega arith, tt) | inr z ↦ absurd (none_of z) ]
        ])
    declared_stops ys (Wrong m) st (inr x) =
        let cut = row_unfit (row_of_words w) ys st x.1 refl in
        subst (λ n. Refuses toks room decl i n) (sym' x.2.0) (stuck (no_one (terminal.comma ∷ terminal.semicolon ∷ []) cut x.2.1))
    declared_stops ys Memory st (inr x) = tt

-- the variables and arrays that were read up to j, each with the comma before it
pub record Words (toks : List Tok) (room i j : ℕ) (w : Bool) (ds : List Declared) : Type 0 where
  pub values : List Declarator
  pub listed : Listed toks room decl i (row_of_words w) j values
  pub is : map declaration_of ds ≡ map (declared w) values

-- the channels or timers
pub record Resources (toks : List Tok) (room i j : ℕ) (is_chan : Bool) (ds : List Declared) : Type 0 where
  pub names : List Id
  pub listed : Listed toks room decl i (row_of_resources is_chan) j names
  pub is : map declaration_of ds ≡ map (named (resource_kind is_chan)) names

behind_comma : {toks : List Tok} {room i j : ℕ} {p : Pos} (r : Run plain.Statement) {ys : List (Value r.symbol)} → Listed toks room decl i r j ys → On toks j (Sym 7) p → is_row decl r.symbol r.parts ≡ true → Roomy toks room decl i (j + 1) (listing r ys ∷ [])
behind_comma {toks} {room} {i} {j} r l on e = subst (λ zs. Roomy toks room decl i (j + 1) (listing r zs ∷ [])) l.is (with_comma r l.before l.stands l.reads on e)

module _ (toks : List Tok) (room i : ℕ) (w : Bool) where
  pub words_first : {k j : ℕ} {ds : List Declared} → Roomy toks room decl i k (listing (row_of_words w) [] ∷ []) → Adds [] ds (Declares toks (room - 1) k j w) → Words toks room i j w ds
  words_first st a = record {
    values = a.2.value ∷ [];
    listed = first_listed (row_of_words w) st a.2.reads refl;
    is = ap (map declaration_of) a.1 ∙ ap (λ d. d ∷ []) a.2.is;
  }

  pub words_next : {j m : ℕ} {ds es : List Declared} {p : Pos} → Words toks room i j w ds → On toks j (Sym 7) p → Adds ds es (Declares toks (room - 1) (j + 1) m w) → Words toks room i m w es
  words_next {ds} s on a = record {
    values = s.values ++ (a.2.value ∷ []);
    listed = next_listed (row_of_words w) s.listed on refl a.2.reads refl;
    is = ap (map declaration_of) a.1 ∙ map-append declaration_of ds (a.0 ∷ []) ∙ ap (λ xs. xs ++ (declaration_of a.0 ∷ [])) s.is ∙ ap (λ d. map (declared w) s.values ++ (d ∷ [])) a.2.is ∙ sym' (map-append (declared w) s.values (a.2.value ∷ []));
  }

  pub words_next_stops : {j : ℕ} {ds : List Declared} {p : Pos} (e : Stop) → 1 ≤ room → Words toks room i j w ds → On toks j (Sym 7) p → NoName toks (room - 1) (j + 1) e → Stopped toks room decl i e
  words_next_stops e h s on x = declared_stops toks room i h w s.values e (behind_comma (row_of_words w) s.listed on refl) x

  module _ {j : ℕ} {ds : List Declared} (s : Words toks room i j w ds) (none : (p : Pos) → On toks j (Sym 7) p → ⊥) where
    pub words_close_stops : (e : Stop) → Stopped toks (room - 1) terminal.semicolon j e → Stopped toks room decl i e
    words_close_stops e x = stops e (end_listed (row_of_words w) s.listed none refl) x refl

    pub words_read : {k : ℕ} {p : Pos} → Reads toks (room - 1) terminal.semicolon j k p → Reads toks room decl i k (statement_of (extent toks i k) (plain.declare (map declaration_of ds)))
    words_read {k} x = subst (λ xs. Reads toks room decl i k (statement_of (extent toks i k) (plain.declare xs))) (sym' s.is) (finish (read (end_listed (row_of_words w) s.listed none refl) x refl) refl)

module _ (toks : List Tok) (room i : ℕ) (is_chan : Bool) where
  pub resources_first : {k j : ℕ} {ds : List Declared} → Roomy toks room decl i k (listing (row_of_resources is_chan) [] ∷ []) → Adds [] ds (Names toks k j (resource_kind is_chan)) → Resources toks room i j is_chan ds
  resources_first st a = record {
    names = a.0.name ∷ [];
    listed = first_listed (row_of_resources is_chan) st (a.2.reads _) refl;
    is = ap (map declaration_of) a.1 ∙ ap (λ d. d ∷ []) a.2.is;
  }

  pub resources_next : {j m : ℕ} {ds es : List Declared} {p : Pos} → Resources toks room i j is_chan ds → On toks j (Sym 7) p → Adds ds es (Names toks (j + 1) m (resource_kind is_chan)) → Resources toks room i m is_chan es
  resources_next {ds} s on a = record {
    names = s.names ++ (a.0.name ∷ []);
    listed = next_listed (row_of_resources is_chan) s.listed on refl (a.2.reads _) refl;
    is = ap (map declaration_of) a.1 ∙ map-append declaration_of ds (a.0 ∷ []) ∙ ap (λ xs. xs ++ (declaration_of a.0 ∷ [])) s.is ∙ ap (λ d. map (named (resource_kind is_chan)) s.names ++ (d ∷ [])) a.2.is ∙ sym' (map-append (named (resource_kind is_chan)) s.names (a.0.name ∷ []));
  }

  pub resources_first_stops : {k : ℕ} (e : Stop) → Roomy toks room decl i k (listing (row_of_resources is_chan) [] ∷ []) → Stopped toks (room - 1) a_name k e → Stopped toks room decl i e
  resources_first_stops e st x = row_stops (row_of_resources is_chan) [] e st x refl

  pub resources_next_stops : {j : ℕ} {ds : List Declared} {p : Pos} (e : Stop) → Resources toks room i j is_chan ds → On toks j (Sym 7) p → Stopped toks (room - 1) a_name (j + 1) e → Stopped toks room decl i e
  resources_next_stops e s on x = row_stops (row_of_resources is_chan) s.names e (behind_comma (row_of_resources is_chan) s.listed on refl) x refl

  module _ {j : ℕ} {ds : List Declared} (s : Resources toks room i j is_chan ds) (none : (p : Pos) → On toks j (Sym 7) p → ⊥) where
    pub resources_close_stops : (e : Stop) → Stopped toks (room - 1) terminal.semicolon j e → Stopped toks room decl i e
    resources_close_stops e x = stops e (end_listed (row_of_resources is_chan) s.listed none refl) x refl

    pub resources_read : {k : ℕ} {p : Pos} → Reads toks (room - 1) terminal.semicolon j k p → Reads toks room decl i k (statement_of (extent toks i k) (plain.declare (map declaration_of ds)))
    resources_read {k} x = subst (λ xs. Reads toks room decl i k (statement_of (extent toks i k) (plain.declare xs))) (sym' s.is) (finish (read (end_listed (row_of_resources is_chan) s.listed none refl) x refl) refl)

-- the word of a declaration of channels or timers
pub word_of_resource : (toks : List Tok) (i : ℕ) (is_chan : Bool) → (IsTrue is_chan → (p : Pos) × On toks i (Key 2) p) → ((is_chan ≡ false) → (p : Pos) → On toks i (Key 2) p → ⊥) → OneOf toks i (terminal.chan_word ∷ terminal.timer_word ∷ []) → (p : Pos) × On toks i (Key (resource_word is_chan)) p
word_of_resource toks i true one none o = one refl
word_of_resource toks i false one none o = elim (first_of terminal.chan_word (terminal.timer_word ∷ []) o) [
  | inl x ↦ absurd (none refl x.0 x.1)
  | inr q ↦ elim (first_of terminal.timer_word [] q) [ inl x ↦ x | inr z ↦ absurd (none_of z) ]
]
