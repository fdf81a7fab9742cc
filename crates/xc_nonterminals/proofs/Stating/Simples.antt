-- Paths through the statements that hold no statement.
use Rattle.std.proofs.Common.{◌≡◌, ℕ, ◌+◌, ◌<◌, ◌≤◌, inl, inr, true, List, [], ◌∷◌, Some, None, refl, subst, arith, lit<, lit≤}
use Rattle.std.proofs.lemmas.Bool.{or_cases}
use Rattle.xw_words.specs.declared.pos.Pos.{Pos}
use Rattle.xc_tree.specs.declared.token.Tok.{Tok}
use Rattle.xc_tree.specs.declared.token.Kind.TheVariants.{Name, Key, Sym}
use Rattle.xc_tree.specs.Plain as plain
use Rattle.xc_tree.specs.Symbol.{Symbol, a_name, assign, block, body, call, rhs, statement}
use Rattle.xc_tree.specs.Grammar.{statement_of}
use Rattle.xc_tree.specs.Derives.{On, extent}
use Rattle.xc_nonterminals.specs.declared.stop.Stop.{Stop}
use Rattle.xc_nonterminals.specs.Begun.{assigning}
use Rattle.xc_nonterminals.specs.Follows.{OneOf, StandsAt, has, is_same, begins_statement}
use Rattle.xc_nonterminals.specs.Reading.{Reads, Refuses, TooDeep, Unfit}
use Rattle.xc_nonterminals.specs.Stops.{Stopped}
use Rattle.xc_nonterminals.proofs.Rests.Rests.{left}
use Rattle.xc_nonterminals.proofs.Derivations.TokenSets.{is_same_eq}
use Rattle.xc_nonterminals.proofs.Rests.Choices.{all_open, pass_name, dead, stuck, no_one}
use Rattle.xc_nonterminals.proofs.Reading.Paths.{roomy, begin, at_symbol, lacks_symbol, over_symbol, over_word, over_name, taken, read, stops, unfit, finish}
use Rattle.xc_nonterminals.proofs.Rests.Aheads.{name_symbol, name_else, read_ahead, stops_ahead}
use Rattle.xc_nonterminals.proofs.Reading.Insides.{inner_roomy, inner_reads, inner_stopped, inner_unfit}
use Rattle.xc_tree.specs.Terminals as terminal

-- a fact for each of some tokens
abbrev pub Each : List Symbol → (Symbol → Type 0) → Type 0
Each [] P = Unit {0}
Each (x ∷ xs) P = P x × Each xs P

pub each_of : (xs : List Symbol) (P : Symbol → Type 0) → Each xs P → (t : Symbol) → has xs t ≡ true → P t
each_of [] P h t e = absurd (cc)
each_of (x ∷ xs) P h t e = elim (or_cases (is_same x t) (has xs t) e) [ inl f ↦ subst P (is_same_eq x t f) h.0 | inr f ↦ each_of xs P h.1 t f ]

module _ (toks : List Tok) (room at : ℕ) where
  pub semicolon_reads : 1 ≤ room → {p : Pos} → On toks at (Sym 6) p → Reads toks room statement at (at + 1) (statement_of (extent toks at (at + 1)) plain.empty)
  semicolon_reads h on = finish (over_symbol (begin refl h) on refl) refl

  pub block_reads : {p : Pos} {j : ℕ} {ss : List plain.Statement} → On toks at (Sym 2) p → Reads toks room block at j ss → Reads toks (room + 1) statement at j (statement_of (extent toks at j) (plain.block (plain.statements ss)))
  block_reads on r = finish (read (at_symbol (begin refl (omega arith)) on) (inner_reads room r) refl) refl

  pub block_stops : {p : Pos} (e : Stop) → On toks at (Sym 2) p → Stopped toks room block at e → Stopped toks (room + 1) statement at e
  block_stops e on s = stops e (at_symbol (begin refl (omega arith)) on) (inner_stopped toks room block at e s) refl

  pub body_reads : {j : ℕ} {ss : List plain.Statement} → Reads toks room block at j ss → Reads toks (room + 1) body at j (statement_of (extent toks at j) (plain.block (plain.statements ss)))
  body_reads r = finish (read (begin refl (omega arith)) (inner_reads room r) refl) refl

  pub body_stops : (e : Stop) → Stopped toks room block at e → Stopped toks (room + 1) body at e
  body_stops e s = stops e (begin refl (omega arith)) (inner_stopped toks room block at e s) refl

  -- no room for a block
  pub body_deep : {p : Pos} → On toks at (Sym 2) p → TooDeep toks 0 body at at
  body_deep {p} on = dead terminal.brace (all_open refl) (p, on) refl (lit< tt, tt)

  pub body_wrong : ((p : Pos) → On toks at (Sym 2) p → ⊥) → Refuses toks 0 body at at
  body_wrong none = stuck (no_one (terminal.brace ∷ []) (all_open refl) (λ o. no_brace o))
    where
      no_brace : OneOf toks at (terminal.brace ∷ []) → ⊥
      no_brace o = each_of (terminal.brace ∷ []) (λ t. StandsAt toks at t → ⊥) ((λ x. none x.0 x.1), tt) o.token o.among o.stands

  -- where no statement begins, and where one does and there is no room for it
  pub none_begins : {limit : ℕ} → (OneOf toks at begins_statement → ⊥) → Refuses toks limit statement at at
  none_begins none = stuck (no_one begins_statement (all_open refl) none)

  pub deep_begins : (t : Symbol) → StandsAt toks at t → has begins_statement t ≡ true → TooDeep toks 0 statement at at
  deep_begins t at_t e =
      let z : 0 < 1 = lit< tt in
      each_of begins_statement (λ t. StandsAt toks at t → TooDeep toks 0 statement at at)
      ((λ s. dead terminal.semicolon (all_open refl) s refl (z, tt)), ((λ s. dead terminal.brace (all_open refl) s refl (z, tt)), ((λ s. dead (a_name) (all_open refl) s refl (z, (z, (z, (z, tt))))), ((λ s. dead terminal.if_word (all_open refl) s refl (z, (z, tt))), ((λ s. dead terminal.while_word (all_open refl) s refl (z, tt)), ((λ s. dead terminal.do_word (all_open refl) s refl (z, tt)), ((λ s. dead terminal.for_word (all_open refl) s refl (z, tt)), ((λ s. dead terminal.return_word (all_open refl) s refl (z, tt)), ((λ s. dead terminal.break_word (all_open refl) s refl (z, tt)), ((λ s. dead terminal.continue_word (all_open refl) s refl (z, tt)), ((λ s. dead terminal.par_word (all_open refl) s refl (z, (z, tt))), ((λ s. dead terminal.select_word (all_open refl) s refl (z, tt)), ((λ s. dead terminal.master_word (all_open refl) s refl (z, tt)), ((λ s. dead terminal.slave_word (all_open refl) s refl (z, tt)), tt)))))))))))))) t e at_t

  -- `break ;` and `continue ;`
  pub break_reads : {p q : Pos} → On toks at (Key 0) p → On toks (at + 1) (Sym 6) q → Reads toks (room + 1) statement at (at + 1 + 1) (statement_of (extent toks at (at + 1 + 1)) plain.break_out)
  break_reads a b = finish (over_symbol (over_word (begin refl (omega arith)) a refl) b refl) refl

  pub break_stops : {p : Pos} (e : Stop) → On toks at (Key 0) p → Stopped toks (left (room + 1) 1) terminal.semicolon (at + 1) e → Stopped toks (room + 1) statement at e
  break_stops e a s = stops e (over_word (begin refl (omega arith)) a refl) s refl

  pub continue_reads : {p q : Pos} → On toks at (Key 4) p → On toks (at + 1) (Sym 6) q → Reads toks (room + 1) statement at (at + 1 + 1) (statement_of (extent toks at (at + 1 + 1)) plain.continue_on)
  continue_reads a b = finish (over_symbol (over_word (begin refl (omega arith)) a refl) b refl) refl

  pub continue_stops : {p : Pos} (e : Stop) → On toks at (Key 4) p → Stopped toks (left (room + 1) 1) terminal.semicolon (at + 1) e → Stopped toks (room + 1) statement at e
  continue_stops e a s = stops e (over_word (begin refl (omega arith)) a refl) s refl

  -- `return`
  module _ {p : Pos} (w : On toks at (Key 19) p) where
    pub return_none : {q : Pos} → On toks (at + 1) (Sym 6) q → Reads toks (room + 1) statement at (at + 1 + 1) (statement_of (extent toks at (at + 1 + 1)) (plain.return_with None))
    return_none b = finish (over_symbol (over_word (begin refl (omega arith)) w refl) b refl) refl

    module _ (none : (q : Pos) → On toks (at + 1) (Sym 6) q → ⊥) where
      pub value_stops : (e : Stop) → Stopped toks room rhs (at + 1) e → Stopped toks (room + 1) statement at e
      value_stops e s = stops e (lacks_symbol 6 (taken (over_word (begin refl (omega arith)) w refl) refl) none) (inner_stopped toks room rhs (at + 1) e s) refl

      module _ {j : ℕ} {v : plain.RightSide} (r : Reads toks room rhs (at + 1) j v) where
        pub value_ends : (e : Stop) → Stopped toks (left (room + 1) 1) terminal.semicolon j e → Stopped toks (room + 1) statement at e
        value_ends e s = stops e (read (lacks_symbol 6 (taken (over_word (begin refl (omega arith)) w refl) refl) none) (inner_reads room r) refl) s refl

        pub return_reads : {q : Pos} → On toks j (Sym 6) q → Reads toks (room + 1) statement at (j + 1) (statement_of (extent toks at (j + 1)) (plain.return_with (Some v)))
        return_reads b = finish (over_symbol (read (lacks_symbol 6 (taken (over_word (begin refl (omega arith)) w refl) refl) none) (inner_reads room r) refl) b refl) refl

      module _ {j : ℕ} (u : Unfit toks room rhs (at + 1) j) where
        pub return_deep : {q : Pos} → On toks j (Sym 6) q → TooDeep toks (room + 1) statement at j
        return_deep {q} b = dead terminal.semicolon (unfit (lacks_symbol 6 (taken (over_word (begin refl (omega arith)) w refl) refl) none) (inner_unfit room u) refl) (q, b) refl (omega arith, tt)

        pub return_wrong : ((q : Pos) → On toks j (Sym 6) q → ⊥) → Refuses toks (room + 1) statement at j
        return_wrong lack = stuck (no_one (terminal.semicolon ∷ []) (unfit (lacks_symbol 6 (taken (over_word (begin refl (omega arith)) w refl) refl) none) (inner_unfit room u) refl) (λ o. no_end o))
          where
            no_end : OneOf toks j (terminal.semicolon ∷ []) → ⊥
            no_end o = each_of (terminal.semicolon ∷ []) (λ t. StandsAt toks j t → ⊥) ((λ x. lack x.0 x.1), tt) o.token o.among o.stands

-- those that a call and a transfer go on with
abbrev pub others : List Symbol
others = terminal.paren ∷ terminal.at_sign ∷ terminal.sends ∷ terminal.receives ∷ terminal.when_word ∷ []

-- statements that begin with a name
module _ (toks : List Tok) (room at : ℕ) {x : List ℕ} {p : Pos} (n : On toks at (Name x) p) where
  pub call_reads : {q r : Pos} {k : ℕ} {c : plain.Call} → On toks (at + 1) (Sym 0) q → Reads toks room call at k c → at + 1 ≤ k → On toks k (Sym 6) r → Reads toks (room + 1) statement at (k + 1) (statement_of (extent toks at (k + 1)) (plain.perform (plain.result c)))
  call_reads b c l e = finish (over_symbol (read_ahead (name_symbol (begin refl (omega arith)) n b) (inner_reads room c) l refl) e refl) refl

  pub call_stops : {q : Pos} (e : Stop) → On toks (at + 1) (Sym 0) q → Stopped toks room call at e → Stopped toks (room + 1) statement at e
  call_stops e b s = stops_ahead e (name_symbol (begin refl (omega arith)) n b) (over_name (begin refl tt) n refl) (inner_stopped toks room call at e s) refl

  pub call_ends : {q : Pos} {k : ℕ} {c : plain.Call} (e : Stop) → On toks (at + 1) (Sym 0) q → Reads toks room call at k c → at + 1 ≤ k → Stopped toks (left (room + 1) 1) terminal.semicolon k e → Stopped toks (room + 1) statement at e
  call_ends e b c l s = stops e (read_ahead (name_symbol (begin refl (omega arith)) n b) (inner_reads room c) l refl) s refl

  module _ (none : OneOf toks (at + 1) others → ⊥) where
    pub assign_stops : (e : Stop) → 1 ≤ room → Stopped toks room assign at e → Stopped toks (room + 1) statement at e
    assign_stops e h s = stops_ahead e (name_else others (begin refl (omega arith)) n none) (inner_roomy room (roomy (pass_name (all_open refl) n refl h) h)) (inner_stopped toks room assign at e s) refl

    module _ {k : ℕ} {c : plain.Action} (a : Reads toks room assign at k c) (l : at + 1 ≤ k) where
      pub assign_ends : (e : Stop) → Stopped toks (left (room + 1) 1) terminal.semicolon k e → Stopped toks (room + 1) statement at e
      assign_ends e s = stops e (read_ahead (name_else others (begin refl (omega arith)) n none) (inner_reads room a) l refl) s refl

      pub assign_reads : {r : Pos} → On toks k (Sym 6) r → Reads toks (room + 1) statement at (k + 1) (statement_of (extent toks at (k + 1)) c)
      assign_reads e = finish (over_symbol (read_ahead (name_else others (begin refl (omega arith)) n none) (inner_reads room a) l refl) e refl) refl

    -- no statement goes on so
    pub name_wrong : (OneOf toks (at + 1) assigning → ⊥) → Refuses toks (room + 1) statement at (at + 1)
    name_wrong no_one_of = stuck (no_one assigning (no_one others (pass_name (all_open refl) n refl (omega arith)) none) no_one_of)

  -- an assignment that there is no room for
  pub name_deep : OneOf toks (at + 1) assigning → TooDeep toks 1 statement at (at + 1)
  name_deep o = each_of assigning (λ t. StandsAt toks (at + 1) t → TooDeep toks 1 statement at (at + 1)) all o.token o.among o.stands
    where
      all : Each assigning (λ t. StandsAt toks (at + 1) t → TooDeep toks 1 statement at (at + 1))
      all =
          let z : 1 < 2 = lit< tt in let l : 1 ≤ 1 = lit≤ tt in
          ((λ s. dead terminal.equals (pass_name (all_open refl) n refl l) s refl (z, tt)), ((λ s. dead terminal.bracket (pass_name (all_open refl) n refl l) s refl (z, (z, (z, (z, tt))))), ((λ s. dead terminal.plus_plus (pass_name (all_open refl) n refl l) s refl (z, tt)), ((λ s. dead terminal.minus_minus (pass_name (all_open refl) n refl l) s refl (z, tt)), ((λ s. dead terminal.plus_equals (pass_name (all_open refl) n refl l) s refl (z, tt)), ((λ s. dead terminal.minus_equals (pass_name (all_open refl) n refl l) s refl (z, tt)), ((λ s. dead terminal.star_equals (pass_name (all_open refl) n refl l) s refl (z, tt)), ((λ s. dead terminal.slash_equals (pass_name (all_open refl) n refl l) s refl (z, tt)), ((λ s. dead terminal.percent_equals (pass_name (all_open refl) n refl l) s refl (z, tt)), ((λ s. dead terminal.ampersand_equals (pass_name (all_open refl) n refl l) s refl (z, tt)), ((λ s. dead terminal.bar_equals (pass_name (all_open refl) n refl l) s refl (z, tt)), ((λ s. dead terminal.caret_equals (pass_name (all_open refl) n refl l) s refl (z, tt)), ((λ s. dead terminal.shift_up_equals (pass_name (all_open refl) n refl l) s refl (z, tt)), ((λ s. dead terminal.shift_down_equals (pass_name (all_open refl) n refl l) s refl (z, tt)), tt))))))))))))))
