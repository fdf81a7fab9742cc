-- Lines with more sent, put or taken; and how what is under way changes.
use Rattle.std.proofs.Common.{◌≡◌, suc, ◌+◌, Bool, true, false, List, [], ◌∷◌, ◌++◌, refl, sym, ap, ◌∙◌, subst, arith, append_assoc, append-nil}
use Rattle.std.specs.Prelude.{not}
use Rattle.xs_instr.specs.declared.state.Token.{Token}
use Rattle.xc_meaning.specs.States.Channels.{Parcel, offer, opening, word, closing, taken}
use Rattle.xr_channels.specs.Phases.{Question, offers, opens, closes, Phase, between, encode, encodes, asked, Path, questions, answers, Asked, is_open, is_answered, Direction}

-- the line with more tokens sent, and with more that is late
abbrev pub sent_on : Direction → List Token → Direction
sent_on l ks = record l { link = l.link ++ ks }

-- and more that is late
abbrev pub told_late : Direction → List Token → Parcel → Direction
told_late l ks p = record l { link = l.link ++ ks; late = l.late ++ p ∷ [] }

-- with more tokens sent, and a parcel put
abbrev pub told_now : Direction → List Token → Parcel → Direction
told_now l ks p = record l { link = l.link ++ ks; inbox = l.inbox ++ p ∷ [] }

-- what was late first is put
abbrev pub put_late : Direction → Parcel → List Parcel → Direction
put_late l p rest = record l { inbox = l.inbox ++ p ∷ []; late = rest }

-- with tokens taken, or a parcel taken, or both
abbrev pub read_to : Direction → List Token → List Parcel → Direction
read_to l ts ps = record l { buffer = ts; inbox = ps }

-- a token comes from the link
abbrev pub come_on : Direction → Token → List Token → Direction
come_on l t rest = record l { buffer = l.buffer ++ t ∷ []; link = rest }

-- at the start
abbrev pub no_line : Direction
no_line = record { buffer = []; link = []; inbox = []; late = [] }

-- the tokens of parcels
pub encodes_append : (ps qs : List Parcel) → encodes (ps ++ qs) ≡ encodes ps ++ encodes qs
encodes_append [] qs = refl
encodes_append (p ∷ ps) qs = ap (λ l. encode p ++ l) (encodes_append ps qs) ∙ sym (append_assoc (encode p) (encodes ps) (encodes qs))

-- more tokens are sent, of more that is late
pub grows_coming : (link more ks u u' : List Token) (late ps : List Parcel) → ks ++ u' ≡ u ++ encodes ps → link ++ u ≡ more ++ encodes late → (link ++ ks) ++ u' ≡ more ++ encodes (late ++ ps)
grows_coming link more ks u u' late ps e h =
    append_assoc link ks u'
    ∙ ap (λ l. link ++ l) e
    ∙ sym (append_assoc link u (encodes ps))
    ∙ ap (λ l. l ++ encodes ps) h
    ∙ append_assoc more (encodes late) (encodes ps)
    ∙ ap (λ l. more ++ l) (sym (encodes_append late ps))

-- the first that is late is put
pub put_coming : (x more : List Token) (p : Parcel) (late : List Parcel) → x ≡ more ++ encodes (p ∷ late) → x ≡ (more ++ encode p) ++ encodes late
put_coming x more p late h = h ∙ sym (append_assoc more (encode p) (encodes late))

-- it stands last in the inbox
pub put_come : (a b more u : List Token) (p : Parcel) (inbox : List Parcel) → a ++ (b ++ more) ≡ u ++ encodes inbox → a ++ (b ++ (more ++ encode p)) ≡ u ++ encodes (inbox ++ p ∷ [])
put_come a b more u p inbox h =
    ap (λ l. a ++ l) (sym (append_assoc b more (encode p)))
    ∙ sym (append_assoc a (b ++ more) (encode p))
    ∙ ap (λ l. l ++ encode p) h
    ∙ append_assoc u (encodes inbox) (encode p)
    ∙ ap (λ l. u ++ l) (ap (λ l. encodes inbox ++ l) (sym (append-nil (encode p))) ∙ sym (encodes_append inbox (p ∷ [])))

-- paths with a parcel more
pub path_on : (t f : Bool) (ps : List Parcel) (m to : Bool) (p : Parcel) → Path t f ps m → ((x : Bool) → x ≡ m → Path t x (p ∷ []) to) → Path t f (ps ++ p ∷ []) to
path_on t f [] m to p h next = next f h
path_on t false (offer v ∷ ps) m to p h next = path_on t false ps m to p h next
path_on t true (offer v ∷ ps) m to p h next = absurd h
path_on t false (opening ∷ ps) m to p h next = path_on t true ps m to p h next
path_on t true (opening ∷ ps) m to p h next = absurd h
path_on t false (word v ∷ ps) m to p h next = absurd h
path_on t true (word v ∷ ps) m to p h next = path_on t true ps m to p h next
path_on t false (closing ∷ ps) m to p h next = absurd h
path_on t true (closing ∷ ps) m to p h next = path_on t false ps m to p h next
path_on false f (taken ∷ ps) m to p h next = path_on false f ps m to p h next
path_on true f (taken ∷ ps) m to p h next = path_on true (not f) ps m to p h next

-- without answers it doesn't matter what an answer would do
pub path_no_answer : (t t' f : Bool) (ps : List Parcel) (to : Bool) → answers ps ≡ 0 → Path t f ps to → Path t' f ps to
path_no_answer t t' f [] to none h = h
path_no_answer t t' false (offer v ∷ ps) to none h = path_no_answer t t' false ps to none h
path_no_answer t t' true (offer v ∷ ps) to none h = absurd h
path_no_answer t t' false (opening ∷ ps) to none h = path_no_answer t t' true ps to none h
path_no_answer t t' true (opening ∷ ps) to none h = absurd h
path_no_answer t t' false (word v ∷ ps) to none h = absurd h
path_no_answer t t' true (word v ∷ ps) to none h = path_no_answer t t' true ps to none h
path_no_answer t t' false (closing ∷ ps) to none h = absurd h
path_no_answer t t' true (closing ∷ ps) to none h = path_no_answer t t' false ps to none h
path_no_answer t t' f (taken ∷ ps) to none h = absurd (let z : suc (answers ps) ≡ 0 = none in omega (arith, z))

-- the questions of two lists
pub questions_append : (ps qs : List Parcel) → questions (ps ++ qs) ≡ questions ps ++ questions qs
questions_append [] qs = refl
questions_append (offer v ∷ ps) qs = ap (λ l. offers v ∷ l) (questions_append ps qs)
questions_append (opening ∷ ps) qs = ap (λ l. opens ∷ l) (questions_append ps qs)
questions_append (word v ∷ ps) qs = questions_append ps qs
questions_append (closing ∷ ps) qs = ap (λ l. closes ∷ l) (questions_append ps qs)
questions_append (taken ∷ ps) qs = questions_append ps qs

-- the answers of two lists
pub answers_append : (ps qs : List Parcel) → answers (ps ++ qs) ≡ answers ps + answers qs
answers_append [] qs = omega arith
answers_append (offer v ∷ ps) qs = answers_append ps qs
answers_append (opening ∷ ps) qs = answers_append ps qs
answers_append (word v ∷ ps) qs = answers_append ps qs
answers_append (closing ∷ ps) qs = answers_append ps qs
answers_append (taken ∷ ps) qs = let h = answers_append ps qs in omega (arith, h)

-- tokens are sent that were owed
pub owed_coming : (link rest ks u u' : List Token) → ks ++ u' ≡ u → link ++ u ≡ rest → (link ++ ks) ++ u' ≡ rest
owed_coming link rest ks u u' e h = append_assoc link ks u' ∙ ap (λ l. link ++ l) e ∙ h

-- a parcel is put at once, and some of its tokens are sent
pub told_coming : (link more ks u u' : List Token) (p : Parcel) (late : List Parcel) → late ≡ [] → ks ++ u' ≡ u ++ encode p → link ++ u ≡ more ++ encodes late → (link ++ ks) ++ u' ≡ (more ++ encode p) ++ encodes late
told_coming link more ks u u' p late e k h =
    append_assoc link ks u'
    ∙ ap (λ l. link ++ l) k
    ∙ sym (append_assoc link u (encode p))
    ∙ ap (λ l. l ++ encode p) (h ∙ ap (λ l. more ++ encodes l) e ∙ append-nil more)
    ∙ sym (append-nil (more ++ encode p))
    ∙ ap (λ l. (more ++ encode p) ++ encodes l) (sym e)

-- a path of one parcel
pub one_path : (t m to : Bool) (p : Parcel) → Path t m (p ∷ []) to → (x : Bool) → x ≡ m → Path t x (p ∷ []) to
one_path t m to p h x e = subst (λ y. Path t y (p ∷ []) to) (sym e) h

-- nothing was asked
pub no_question : (there here : List Parcel) → Asked between there here → (questions there ≡ []) × (answers here ≡ 0)
no_question there here (is_open q a) = (q, a)
no_question there here (is_answered q a) = (q, a)

-- the first question is late
pub asks_more : (inbox late : List Parcel) (p : Parcel) → questions (inbox ++ late) ≡ [] → questions (inbox ++ (late ++ p ∷ [])) ≡ questions (p ∷ [])
asks_more inbox late p h =
    ap questions (sym (append_assoc inbox late (p ∷ []))) ∙ questions_append (inbox ++ late) (p ∷ []) ∙ ap (λ l. l ++ questions (p ∷ [])) h

-- where nothing is late
pub asks_put : (inbox late : List Parcel) (p : Parcel) → late ≡ [] → questions (inbox ++ late) ≡ [] → questions ((inbox ++ p ∷ []) ++ late) ≡ questions (p ∷ [])
asks_put inbox late p e h =
    ap (λ l. questions ((inbox ++ p ∷ []) ++ l)) e
    ∙ ap questions (append-nil (inbox ++ p ∷ []))
    ∙ questions_append inbox (p ∷ [])
    ∙ ap (λ l. l ++ questions (p ∷ [])) (ap questions (sym (append-nil inbox)) ∙ ap (λ l. questions (inbox ++ l)) (sym e) ∙ h)

-- two lists of tokens of which nothing is left
pub nothing_both : (a b : List Token) → [] ≡ a ++ b → (a ≡ []) × (b ≡ [])
nothing_both [] b h = (refl, sym h)
nothing_both (t ∷ a) b h = cc

-- nobody who has asked nothing has a question in the other's inbox
pub none_there : (phase : Phase) (inbox late here : List Parcel) → asked phase ≡ [] → Asked phase (inbox ++ late) here → questions inbox ≡ []
none_there phase inbox late here a h = first_of (questions inbox) (questions late) (sym (questions_append inbox late) ∙ all h)
  where
    first_of : (xs ys : List Question) → xs ++ ys ≡ [] → xs ≡ []
    first_of [] ys z = refl
    first_of (x ∷ xs) ys z = cc

    all : Asked phase (inbox ++ late) here → questions (inbox ++ late) ≡ []
    all (is_open q n) = q ∙ a
    all (is_answered q n) = q
