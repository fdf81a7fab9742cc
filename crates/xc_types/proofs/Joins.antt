-- What was found behind two parts of a text, one behind the other.
use Rattle.std.proofs.Common.{◌≡◌, ℕ, ◌+◌, Bool, List, [], ◌∷◌, ◌++◌, Option, sym, ap, ◌∙◌, refl, append_assoc, append-nil}
use Rattle.xw_words.specs.declared.pos.Broken.{Broken}
use Rattle.xc_tree.specs.declared.names.Mark.{Mark}
use Rattle.xc_tree.specs.declared.names.Mark.TheVariants.{Opens, Closes, Declares, Uses, Calls}
use Rattle.xc_tree.specs.Checks.{rules}
use Rattle.xc_tree.specs.Least.{first_of}
use Rattle.xc_tree.specs.Types.Named.{Name, past}
use Rattle.xc_tree.specs.Types.Sites.{Site, types, type_of, communications, named_by}
use Rattle.xc_tree.specs.Shapes.Rules.{channels, declared_as_channel}
use Rattle.xc_tree.specs.Types.Entities.{is_channel}
use Rattle.xc_types.specs.declared.checker.Checker.{Checker}
use Rattle.xc_types.specs.Checker.{saw, all_broken, broken_of, first_among}

pub past_join : (k : ℕ) (a b : List Mark) → past k (a ++ b) ≡ past (past k a) b
past_join k [] b = refl
past_join k (Opens ∷ ms) b = past_join k ms b
past_join k (Closes ∷ ms) b = past_join k ms b
past_join k (Declares d ∷ ms) b = past_join (k + 1) ms b
past_join k (Uses i ∷ ms) b = past_join (k + 1) ms b
past_join k (Calls i ∷ ms) b = past_join (k + 1) ms b

pub types_join : (a b : List Site) → types (a ++ b) ≡ types a ++ types b
types_join [] b = refl
types_join (s ∷ ss) b = ap (λ ts. type_of s ++ ts) (types_join ss b) ∙ sym (append_assoc (type_of s) (types ss) (types b))

pub communications_join : (a b : List Site) → communications (a ++ b) ≡ communications a ++ communications b
communications_join [] b = refl
communications_join (s ∷ ss) b = ap (λ ts. named_by s ++ ts) (communications_join ss b) ∙ sym (append_assoc (named_by s) (communications ss) (communications b))

pub channels_join : (a b : List Name) → channels (a ++ b) ≡ channels a ++ channels b
channels_join [] b = refl
channels_join (x ∷ xs) b =
    ap (λ ts. declared_as_channel (is_channel x.what) x.declared ++ ts) (channels_join xs b)
    ∙ sym (append_assoc (declared_as_channel (is_channel x.what) x.declared) (channels xs) (channels b))

pub broken_join : (a b : List Site) → all_broken (a ++ b) ≡ all_broken a ++ all_broken b
broken_join [] b = refl
broken_join (s ∷ ss) b = ap (λ ts. broken_of rules s ++ ts) (broken_join ss b) ∙ sym (append_assoc (broken_of rules s) (all_broken ss) (all_broken b))

pub first_join : (best : Option Broken) (a b : List Broken) → first_among best (a ++ b) ≡ first_among (first_among best a) b
first_join best [] b = refl
first_join best (x ∷ xs) b = first_join (first_of best (Option.Some x)) xs b

pub one : (s : Checker) (n n2 : ℕ) (t t2 : List Bool) (b b2 : Option Broken) (c c2 : List ℕ) → n ≡ n2 → t ≡ t2 → b ≡ b2 → c ≡ c2 →
    ◌≡◌ {A = Checker} (record s { names = n; types = t; best = b; channels = c }) (record s { names = n2; types = t2; best = b2; channels = c2 })
one s n n2 t t2 b b2 c c2 e f g h = λ i. record s { names = e i; types = f i; best = g i; channels = h i }

pub saw_join : (s : Checker) (a b : List Mark) (x y : List Site) → saw s (a ++ b) (x ++ y) ≡ saw (saw s a x) b y
unfolding saw
saw_join s a b x y = one s _ _ _ _ _ _ _ _ (past_join s.names a b) (rw types_join (sym (append_assoc s.types (types x) (types y)))) (rw broken_join (first_join s.best (all_broken x) (all_broken y))) (rw (communications_join, channels_join) (sym (append_assoc s.channels (channels (communications x)) (channels (communications y)))))

pub saw_names : (s : Checker) (a : List Mark) (x : List Site) → (saw s a x).names ≡ past s.names a
unfolding saw
saw_names s a x = refl

pub saw_nothing : (s : Checker) → saw s [] [] ≡ s
unfolding saw
saw_nothing s = one s _ _ _ _ _ _ _ _ refl (append-nil s.types) refl (append-nil s.channels)
