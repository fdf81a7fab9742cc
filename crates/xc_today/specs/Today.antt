-- Which programs are built today: those in whose text no word of a later form stands.
use Rattle.std.specs.Prelude.{◌≢◌, ℕ, List, [], ◌∷◌}
use Rattle.xc_tree.specs.declared.token.Tok.{Tok}
use Rattle.xc_tree.specs.declared.token.Kind.{Kind}
use Rattle.xc_tree.specs.declared.token.Kind.TheVariants.{Name, Num, Key, Sym}
use Rattle.xc_tree.specs.Words as words

-- The words of later forms, by their places in `WORDS`. No symbol is a later form's.
abbrev pub later_words : List ℕ
later_words = words.master_word ∷ words.slave_word ∷ []

-- a place that is none of these
abbrev pub IsNoneOf : List ℕ → ℕ → Type 0
IsNoneOf [] place = Unit {0}
IsNoneOf (other ∷ rest) place = (place ≢ other) × IsNoneOf rest place

-- a token that is no word of a later form
abbrev pub KindIsSupported : Kind → Type 0
KindIsSupported (Name text) = Unit {0}
KindIsSupported (Num value is_unsigned) = Unit {0}
KindIsSupported (Key place) = IsNoneOf later_words place
KindIsSupported (Sym place) = Unit {0}

-- The program that these tokens are is built today: no word of a later form stands among them.
abbrev pub IsSupported : List Tok → Type 0
IsSupported [] = Unit {0}
IsSupported (t ∷ ts) = KindIsSupported t.kind × IsSupported ts
