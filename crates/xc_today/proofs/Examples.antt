-- What is built today and what isn't: the words of later forms as they are spelled, and rows of tokens.
use Rattle.std.proofs.Common.{◌≡◌, false, List, [], ◌∷◌, map, Some, codes, refl}
use Rattle.xw_words.specs.Tables.{place_in, place_from}
use Rattle.xc_tree.specs.declared.token.Tok.{Tok}
use Rattle.xc_tree.specs.declared.token.Kind.{Kind}
use Rattle.xc_tree.specs.declared.token.Kind.TheVariants.{Name, Num, Key, Sym}
use Rattle.xc_tree.specs.Symbols as symbols
use Rattle.xc_tree.specs.Tables as tables
use Rattle.xc_tree.specs.Words as words
use Rattle.xc_today.specs.Today.{later_words, IsSupported}

spelled_words : map (place_in tables.words) (codes "master" ∷ codes "slave" ∷ []) ≡ map Some later_words
unfolding tables.words place_from
spelled_words = refl

-- tokens of these kinds
abbrev tokens : List Kind → List Tok
tokens [] = []
tokens (k ∷ ks) = record { kind = k; pos = record { line = 1; col = 1 } } ∷ tokens ks

-- Of a later form.

-- `master {`
master_is_later : IsSupported (tokens (Key words.master_word ∷ Sym symbols.brace ∷ [])) → ⊥
master_is_later h = h.0.0 refl

-- `slave {`
slave_is_later : IsSupported (tokens (Key words.slave_word ∷ Sym symbols.brace ∷ [])) → ⊥
slave_is_later h = h.0.1.0 refl

-- Of today.

-- `par {`
par_is_of_today : IsSupported (tokens (Key words.par_word ∷ Sym symbols.brace ∷ []))
par_is_of_today = ((λ e. absurd (cc), (λ e. absurd (cc), tt)), (tt, tt))

-- `on tile`, in front of a branch
placed_branch_is_of_today : IsSupported (tokens (Key words.par_word ∷ Sym symbols.brace ∷ Key words.on_word ∷ Key words.tile_word ∷ []))
placed_branch_is_of_today = (
  (λ e. absurd (cc), (λ e. absurd (cc), tt)),
  (tt, ((λ e. absurd (cc), (λ e. absurd (cc), tt)), ((λ e. absurd (cc), (λ e. absurd (cc), tt)), tt))),
)

-- `select {`
select_is_of_today : IsSupported (tokens (Key words.select_word ∷ Sym symbols.brace ∷ []))
select_is_of_today = ((λ e. absurd (cc), (λ e. absurd (cc), tt)), (tt, tt))

-- `chan c ;`
channel_is_of_today : IsSupported (tokens (Key words.chan_word ∷ Name (codes "c") ∷ Sym symbols.semicolon ∷ []))
channel_is_of_today = ((λ e. absurd (cc), (λ e. absurd (cc), tt)), (tt, (tt, tt)))

-- `timer t ;`
timer_is_of_today : IsSupported (tokens (Key words.timer_word ∷ Name (codes "t") ∷ Sym symbols.semicolon ∷ []))
timer_is_of_today = ((λ e. absurd (cc), (λ e. absurd (cc), tt)), (tt, (tt, tt)))

-- `in port p`
in_port_is_of_today : IsSupported (tokens (Key words.in_word ∷ Key words.port_word ∷ Name (codes "p") ∷ []))
in_port_is_of_today = (
  (λ e. absurd (cc), (λ e. absurd (cc), tt)),
  ((λ e. absurd (cc), (λ e. absurd (cc), tt)), (tt, tt)),
)

-- `p <: 1 @ t`
stamp_is_of_today : IsSupported (tokens (Name (codes "p") ∷ Sym symbols.sends ∷ Num 1 false ∷ Sym symbols.at_sign ∷ Name (codes "t") ∷ []))
stamp_is_of_today = (tt, (tt, (tt, (tt, (tt, tt)))))

-- `c :>`
input_is_of_today : IsSupported (tokens (Name (codes "c") ∷ Sym symbols.receives ∷ []))
input_is_of_today = (tt, (tt, tt))

-- a name is no word
name_is_of_today : IsSupported (tokens (Name (codes "slave") ∷ Num 15 false ∷ []))
name_is_of_today = (tt, (tt, tt))
