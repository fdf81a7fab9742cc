-- Places where some alternatives have room and others have none, or none has.
use Rattle.std.proofs.Common.{◌≡◌, inl, inr, ℕ, ◌+◌, true, false, List, []}
use Rattle.xw_words.specs.declared.pos.Pos.{Pos}
use Rattle.xc_tree.specs.declared.token.Tok.{Tok}
use Rattle.xc_tree.specs.declared.token.Kind.TheVariants.{Name, Key, Sym}
use Rattle.xc_tree.specs.Symbol.{Symbol, sym, key, a_name, Value}
use Rattle.xc_tree.specs.Derives.{On, unlimited, at_most}
use Rattle.xc_nonterminals.specs.Follows.{OneOf, StandsAt}
use Rattle.xc_nonterminals.specs.Reading.{Refuses, TooDeep}
use Rattle.xc_nonterminals.proofs.Rests.Rests.{Rest, Stands}
use Rattle.xc_nonterminals.proofs.Derivations.Reaches.{reaches, rests_reached}
use Rattle.xc_nonterminals.proofs.Rests.Behinds.{TokenAt}
use Rattle.xc_nonterminals.proofs.Rests.Beginnings.{all_begun}
use Rattle.xc_nonterminals.proofs.Rests.Narrows.{at_token, at_none}
use Rattle.xc_nonterminals.proofs.Rests.Spreads.{spreads}
use Rattle.xc_nonterminals.proofs.Rests.Moves.{pass, stay, one_any, one_has, none_ends, none_starts}
use Rattle.xc_nonterminals.proofs.Rests.Opening.{fronts, is_token, beginnings, over, all_ready, grown, layers, OneFits, NoneFits, keep, without, spread}

module _ {toks : List Tok} {room : ℕ} {s : Symbol} where
  pub all_open : {i : ℕ} → is_token s ≡ false → Stands toks room s i i (beginnings s)
  all_open {i} e = record { free = all_begun toks unlimited s i e; held = all_begun toks (at_most room) s i e }

  module _ {i k : ℕ} {rs : List (Rest (Value s))} where
    -- over a token that at least one rest has room for
    pub pass_token : (t : Symbol) (v : Value t) → TokenAt toks k t v → Stands toks room s i k rs → all_ready (fronts s) t (grown layers (fronts s) t rs) ≡ true → OneFits room (over (fronts s) t v rs) → Stands toks room s i (k + 1) (over (fronts s) t v rs)
    pass_token t v at st e h = record { free = pass t v at st.free e (one_any room (over (fronts s) t v rs) h); held = pass t v at st.held e (one_has room (over (fronts s) t v rs) h) }

    pub pass_symbol : {o : ℕ} {p : Pos} → Stands toks room s i k rs → On toks k (Sym o) p → all_ready (fronts s) (sym o) (grown layers (fronts s) (sym o) rs) ≡ true → OneFits room (over (fronts s) (sym o) p rs) → Stands toks room s i (k + 1) (over (fronts s) (sym o) p rs)
    pass_symbol {o} {p} st on e h = pass_token (sym o) p on st e h

    pub pass_word : {w : ℕ} {p : Pos} → Stands toks room s i k rs → On toks k (Key w) p → all_ready (fronts s) (key w) (grown layers (fronts s) (key w) rs) ≡ true → OneFits room (over (fronts s) (key w) p rs) → Stands toks room s i (k + 1) (over (fronts s) (key w) p rs)
    pass_word {w} {p} st on e h = pass_token (key w) p on st e h

    pub pass_name : {t : List ℕ} {p : Pos} → Stands toks room s i k rs → On toks k (Name t) p → all_ready (fronts s) a_name (grown layers (fronts s) a_name rs) ≡ true → OneFits room (over (fronts s) a_name (record { text = t; pos = p }) rs) → Stands toks room s i (k + 1) (over (fronts s) a_name (record { text = t; pos = p }) rs)
    pass_name {t} {p} st on e h = pass_token a_name (record { text = t; pos = p }) on st e h

    -- the rests that a token leaves open
    pub only_token : (t : Symbol) → StandsAt toks k t → Stands toks room s i k rs → Stands toks room s i k (keep (fronts s) t rs)
    only_token t at st = record { free = stay st.free (at_token t at rs); held = stay st.held (at_token t at rs) }

    pub only_symbol : {o : ℕ} {p : Pos} → Stands toks room s i k rs → On toks k (Sym o) p → Stands toks room s i k (keep (fronts s) (sym o) rs)
    only_symbol {o} {p} st on = only_token (sym o) (p, on) st

    pub only_word : {w : ℕ} {p : Pos} → Stands toks room s i k rs → On toks k (Key w) p → Stands toks room s i k (keep (fronts s) (key w) rs)
    only_word {w} {p} st on = only_token (key w) (p, on) st

    pub only_name : {t : List ℕ} {p : Pos} → Stands toks room s i k rs → On toks k (Name t) p → Stands toks room s i k (keep (fronts s) a_name rs)
    only_name {t} {p} st on = only_token a_name (t, p, on) st

    -- those that are left where none of these tokens stands
    pub no_one : (ts : List Symbol) → Stands toks room s i k rs → (OneOf toks k ts → ⊥) → Stands toks room s i k (without ts rs)
    no_one ts st none = record { free = stay st.free (at_none ts none rs); held = stay st.held (at_none ts none rs) }

    -- the plain symbols that rests begin with, taken for their alternatives
    pub spread_out : Stands toks room s i k rs → Stands toks room s i k (spread rs)
    spread_out st = record { free = stay st.free (spreads k rs); held = stay st.held (spreads k rs) }

    -- a token that only rests without room begin with: at the first of these tokens it is too deep
    pub dead : (t : Symbol) → Stands toks room s i k rs → StandsAt toks k t → reaches t (keep (fronts s) t rs) ≡ true → NoneFits room (keep (fronts s) t rs) → TooDeep toks room s i k
    dead t st at e h =
        let o = only_token t at st in
        record {
          prefix = st.held.here;
          begins = o.free.prefix (k + 1) (rests_reached toks k t at (keep (fronts s) t rs) e);
          never = λ j v d. elim (o.held.only j v d) [ inl g ↦ g | inr x ↦ absurd (none_ends toks i k room (keep (fronts s) t rs) j v h x) ];
          most = λ n q. elim (o.held.most n q) [ inl l ↦ l | inr x ↦ absurd (none_starts toks i k room (keep (fronts s) t rs) n h x) ];
        }

  -- no rest is left
  pub stuck : {i k : ℕ} → Stands toks room s i k [] → Refuses toks room s i k
  stuck {i} {k} st = record {
    prefix = st.held.here;
    never = λ j v d. elim (st.free.only j v d) [ inl g ↦ g | inr x ↦ absurd x ];
    most = λ n q. elim (st.free.most n q) [ inl l ↦ l | inr x ↦ absurd x ];
  }
