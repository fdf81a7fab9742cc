-- Places: what is open behind their first words.
use Rattle.std.proofs.Common.{◌≡◌, ℕ, ◌+◌, ◌⊎◌, inl, inr, List, [], ◌∷◌, refl, sym, subst}
use Rattle.xw_words.specs.declared.pos.Pos.{Pos}
use Rattle.xc_tree.specs.declared.token.Tok.{Tok}
use Rattle.xc_tree.specs.declared.token.Kind.TheVariants.{Key}
use Rattle.xc_tree.specs.Plain as plain
use Rattle.xc_tree.specs.Symbol.{place}
use Rattle.xc_tree.specs.Derives.{On}
use Rattle.xc_nonterminals.specs.declared.stop.Stop.{Stop}
use Rattle.xc_nonterminals.specs.Follows.{OneOf, follows}
use Rattle.xc_nonterminals.specs.Reading.{Reads, Refuses}
use Rattle.xc_nonterminals.specs.Stops.{Stopped}
use Rattle.xc_nonterminals.proofs.Rests.Rests.{Rest}
use Rattle.xc_nonterminals.proofs.Rests.Opening.{beginnings, Heads, no_head, one_head, popped, over}
use Rattle.xc_nonterminals.proofs.Reading.Paths.{Roomy, begin, over_word, lacks, read_all, stops_all, none_left}
use Rattle.xc_tree.specs.Terminals as terminal

abbrev place_heads : Heads terminal.on_word 0 (beginnings place)
place_heads = one_head (one_head no_head)

-- the alternatives behind `on`, and behind the word that follows, which says nothing more
abbrev pub behind_on : Pos → List (Rest plain.Place)
behind_on p = popped place_heads p

abbrev pub behind_core : Pos → List (Rest plain.Place)
behind_core p = over (follows place) terminal.stdcore_word p (behind_on p)

pub on_stops : (toks : List Tok) (room at : ℕ) (e : Stop) → Stopped toks room terminal.on_word at e → Stopped toks room place at e
on_stops toks room at e x = stops_all place_heads e (begin refl tt) x refl

module _ {toks : List Tok} {room at k : ℕ} {p : Pos} where
  pub at_on : Reads toks room terminal.on_word at k p → Roomy toks room place at k (behind_on p)
  at_on x = read_all place_heads (begin refl tt) x refl

  pub at_core : {w m : ℕ} {q : Pos} → Roomy toks room place at k (behind_on p) → (w ≡ 22) ⊎ (w ≡ 23) → On toks k (Key w) q → m ≡ k + 1 → Roomy toks room place at m (behind_core p)
  at_core {q} st (inl e) on h = subst (λ n. Roomy toks room place at n (behind_core p)) (sym h) (over_word st (subst (λ v. On toks k (Key v) q) e on) refl)
  at_core {q} st (inr e) on h = subst (λ n. Roomy toks room place at n (behind_core p)) (sym h) (over_word st (subst (λ v. On toks k (Key v) q) e on) refl)

  pub no_core : Roomy toks room place at k (behind_on p) → (OneOf toks k (terminal.stdcore_word ∷ terminal.tile_word ∷ []) → ⊥) → Refuses toks room place at k
  no_core st none = none_left (lacks (terminal.stdcore_word ∷ terminal.tile_word ∷ []) st none)
