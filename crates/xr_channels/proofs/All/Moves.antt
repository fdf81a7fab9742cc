-- An item of a link comes to its end: what the program does, and what then stands between the sides of all channels.
use Rattle.std.proofs.Common.{◌≡◌, ◌≢◌, ℕ, List, ◌∷◌, Some, ap, subst}
use Rattle.std.specs.Prelude.{slice_get, slice_set}
use Rattle.xs_instr.specs.declared.image.Pair.{Pair}
use Rattle.xs_instr.specs.declared.state.CoreState.{CoreState}
use Rattle.xs_instr.specs.declared.state.Item.{Item}
use Rattle.xs_instr.specs.declared.state.Moved.{Moved}
use Rattle.xs_instr.specs.declared.state.Moved.TheVariants.{Tok, Credit}
use Rattle.xs_instr.specs.declared.state.Token.{Token}
use Rattle.xs_instr.specs.Ends.{Peer}
use Rattle.xs_instr.specs.Machine.{link_of, link_put, came}
use Rattle.xc_meaning.specs.States.Channels.{Inboxes}
use Rattle.xr_channels.specs.Channels.{Links, end_of_side, Ghosts, IsWired}
use Rattle.xr_channels.specs.CreditsOverLinks.{end_of_item, ComesFrom, AllCome, BalancedOverLinks}
use Rattle.xr_channels.specs.ChannelsOverLinks.{ChannelsOverLinks, Delivered, silently, putting}
use Rattle.xr_channels.proofs.Tokens.Views.{IsEnd, Square}
use Rattle.xr_channels.proofs.Tokens.Changes.{peer}
use Rattle.xr_channels.proofs.All.Arrivals.{Arrival, belongs, after_late, move_followed, credit_followed}
use Rattle.xr_channels.proofs.Laws.Deliveries.{Sender}
use Rattle.xr_channels.proofs.Laws.CreditsOverLinks.{sender, is_end, from_core, to_core, no_self, kept}

-- A link's first item comes from core a to core b.
module _ (pairs : List Pair) (wired : IsWired pairs) (cores : List CoreState) (links : Links) (boxes : List Inboxes) (g : Ghosts) (over : ChannelsOverLinks pairs cores links boxes g) (a b : ℕ) (core : CoreState) (at_b : slice_get cores b ≡ Some core) (rest : List Item) where
  square : Square links
  square = record { rows = over.balanced.rows }

  -- the machine afterwards
  abbrev pub cores_then : Moved → List CoreState
  cores_then moved = slice_set cores b (came core moved)

  abbrev pub links_then : Links
  links_then = link_put links a b rest

  module _ (tick : ℕ) where
    -- a token
    token_case : (e : ℕ) (t : Token) → link_of links a b ≡ record { tick = tick; moved = Tok e t } ∷ rest → ComesFrom pairs a b e → BalancedOverLinks pairs (cores_then (Tok e t)) links_then → Delivered pairs a b (cores_then (Tok e t)) links_then boxes g
    token_case e t is comes balanced =
        said (subst (λ (x : ℕ). At x (peer b e)) s.from (subst (λ (z : Peer). At (end_of_side s.pair s.side).core z) s.to (λ at ne there i. move_followed pairs wired cores links boxes g over.wires square s.channel s.pair s.side s.here core at ne tick t rest there i)) at_b ne (is_end pairs wired cores links a b tick rest core at_b over.balanced e comes) is)
      where
        s : Sender pairs a b e
        s = sender pairs a b e comes

        ne : a ≢ b
        ne = no_self pairs wired cores links a b tick rest core at_b over.balanced (record { tick = tick; moved = Tok e t }) is

        At : ℕ → Peer → Type 0
        At x z = slice_get cores z.core ≡ Some core → x ≢ z.core → IsEnd core.ends z.end → link_of links x z.core ≡ record { tick = tick; moved = Tok z.end t } ∷ rest → Arrival pairs wired cores links boxes g over.wires square s.channel s.pair s.side s.here (slice_set cores z.core (came core (Tok z.end t))) (link_put links x z.core rest)

        said : Arrival pairs wired cores links boxes g over.wires square s.channel s.pair s.side s.here (cores_then (Tok e t)) links_then → Delivered pairs a b (cores_then (Tok e t)) links_then boxes g
        said (belongs w) = silently (record { wires = w; balanced = balanced })
        said (after_late x ps i late kind w) = putting s.channel s.pair s.side x ps i s.here s.from (ap (λ (z : Peer). z.core) s.to) late kind (record { wires = w; balanced = balanced })

    -- a credit
    credit_case : (e : ℕ) → link_of links a b ≡ record { tick = tick; moved = Credit e } ∷ rest → ComesFrom pairs a b e → BalancedOverLinks pairs (cores_then (Credit e)) links_then → Delivered pairs a b (cores_then (Credit e)) links_then boxes g
    credit_case e is comes balanced =
        let la = from_core pairs wired cores links a b tick rest core at_b over.balanced e comes in
        let lb = to_core pairs wired cores links a b tick rest core at_b over.balanced e comes in
        let ne = no_self pairs wired cores links a b tick rest core at_b over.balanced (record { tick = tick; moved = Credit e }) is in
        silently (record { wires = credit_followed pairs cores links boxes g a b tick e rest core at_b square la lb ne is over.wires; balanced = balanced })

    -- either
    by_case : (moved : Moved) → link_of links a b ≡ record { tick = tick; moved = moved } ∷ rest → ComesFrom pairs a b (end_of_item moved) → BalancedOverLinks pairs (cores_then moved) links_then → Delivered pairs a b (cores_then moved) links_then boxes g
    by_case (Tok e t) is comes balanced = token_case e t is comes balanced
    by_case (Credit e) is comes balanced = credit_case e is comes balanced

  -- each item of a link is for a side
  pub delivered : (i : Item) → link_of links a b ≡ i ∷ rest → Delivered pairs a b (cores_then i.moved) links_then boxes g
  delivered i is =
      let all : AllCome pairs a b (i ∷ rest) = subst (AllCome pairs a b) is (over.balanced.come a b) in
      by_case i.tick i.moved is all.0 (kept pairs wired cores links a b i.tick rest core at_b over.balanced i.moved is all.0)
