-- How the tokens at ends and on links change.
use Rattle.std.proofs.Common.{◌≡◌, ◌<◌, ◌≢◌, ℕ, suc, zero, ◌+◌, Bool, true, false, List, [], ◌∷◌, ◌++◌, Option, Some, None, refl, sym, ap, ◌∙◌, subst, append_assoc, append-nil, inl, inr, eq-eqb, arith}
use Rattle.std.proofs.lemmas.Bool.{eqb-true, eqb-false}
use Rattle.std.specs.Prelude.{◌⊎◌, nat_eq, slice_get, slice_set}
use Rattle.xs_instr.specs.declared.state.ChanEnd.{ChanEnd}
use Rattle.xs_instr.specs.declared.state.Item.{Item}
use Rattle.xs_instr.specs.declared.state.Moved.{Moved}
use Rattle.xs_instr.specs.declared.state.Moved.TheVariants.{Tok, Credit}
use Rattle.xs_instr.specs.declared.state.Token.{Token}
use Rattle.xs_instr.specs.Ends.{arrives, all_arrive, token_at, credit_at, tokens_to, credits_to, all_sent}
use Rattle.xs_instr.specs.Machine.{items_in, link_in, link_of, link_put_in, link_put, on_links, no_links}
use Rattle.xr_channels.specs.Channels.{Links, tokens_in, token_by, token_for, tokens_for}

-- an element that is written
pub get_set : {X : Type 0} (xs : List X) (i : ℕ) (x y : X) → slice_get xs i ≡ Some x → slice_get (slice_set xs i y) i ≡ Some y
get_set [] i x y h = cc
get_set (z ∷ xs) zero x y h = refl
get_set (z ∷ xs) (suc i) x y h = get_set xs i x y h

-- another element
pub get_set_other : {X : Type 0} (xs : List X) (i j : ℕ) (y : X) → i ≢ j → slice_get (slice_set xs i y) j ≡ slice_get xs j
get_set_other [] i j y h = refl
get_set_other (z ∷ xs) zero zero y h = absurd (h refl)
get_set_other (z ∷ xs) zero (suc j) y h = refl
get_set_other (z ∷ xs) (suc i) zero y h = refl
get_set_other (z ∷ xs) (suc i) (suc j) y h = get_set_other xs i j y (λ e. h (ap suc e))

-- two numbers are one or two
pub same_num : (a b : ℕ) → (a ≡ b) ⊎ (a ≢ b)
same_num a b = by (nat_eq a b) refl
  where
    by : (x : Bool) → nat_eq a b ≡ x → (a ≡ b) ⊎ (a ≢ b)
    by true e = inl (eqb-true a b e)
    by false e = inr (eqb-false a b e)

-- two numbers that are two
pub num_other : (a b : ℕ) → a ≢ b → nat_eq a b ≡ false
num_other a b ne = by (nat_eq a b) refl
  where
    by : (x : Bool) → nat_eq a b ≡ x → x ≡ false
    by true e = absurd (ne (eqb-true a b e))
    by false e = refl

-- the tokens at an end of a core
abbrev pub tokens_of_end : List ChanEnd → ℕ → List Token
tokens_of_end ends e = tokens_in (slice_get ends e)

-- an end is there
pub record IsEnd (ends : List ChanEnd) (e : ℕ) : Type 0 where
  pub end : ChanEnd
  pub there : slice_get ends e ≡ Some end

-- what a place holds is one thing
some_is : {X : Type 0} (x y : X) → Some x ≡ Some y → x ≡ y
some_is x y h = cc

-- writing an end with the same tokens
pub same_tokens : (ends : List ChanEnd) (e g : ℕ) (end end' : ChanEnd) → slice_get ends e ≡ Some end → end'.tokens ≡ end.tokens → tokens_of_end (slice_set ends e end') g ≡ tokens_of_end ends g
same_tokens ends e g end end' h same = by (same_num e g)
  where
    by : (e ≡ g) ⊎ (e ≢ g) → tokens_of_end (slice_set ends e end') g ≡ tokens_of_end ends g
    by (inl x) = subst (λ y. tokens_of_end (slice_set ends e end') y ≡ tokens_of_end ends y) x (ap tokens_in (get_set ends e end end' h) ∙ same ∙ sym (ap tokens_in h))
    by (inr ne) = ap tokens_in (get_set_other ends e g end' ne)

-- an end is still there
pub end_after : (ends : List ChanEnd) (e g : ℕ) (x : ChanEnd) → IsEnd ends g → IsEnd (slice_set ends e x) g
end_after ends e g x h = by (same_num e g)
  where
    by : (e ≡ g) ⊎ (e ≢ g) → IsEnd (slice_set ends e x) g
    by (inl y) = record { end = x; there = subst (λ z. slice_get (slice_set ends e x) z ≡ Some x) y (get_set ends e h.end x (subst (λ z. slice_get ends z ≡ Some h.end) (sym y) h.there)) }
    by (inr ne) = record { end = h.end; there = get_set_other ends e g x ne ∙ h.there }

-- tokens come to their end
pub tokens_arrive : (ends : List ChanEnd) (f : ℕ) (ks : List Token) → IsEnd ends f → tokens_of_end (all_arrive ends (tokens_to f ks)) f ≡ tokens_of_end ends f ++ ks
tokens_arrive ends f [] h = sym (append-nil (tokens_of_end ends f))
tokens_arrive ends f (k ∷ ks) h =
    let now : ChanEnd = record h.end { tokens = h.end.tokens ++ k ∷ [] } in
    let one : arrives ends (Tok f k) ≡ slice_set ends f now = ap (λ o. token_at ends f k o) h.there in
    let set = get_set ends f h.end now h.there in
    let rest = tokens_arrive (slice_set ends f now) f ks (record { end = now; there = set }) in
    ap (λ x. tokens_of_end (all_arrive x (tokens_to f ks)) f) one
    ∙ rest
    ∙ ap (λ o. tokens_in o ++ ks) set
    ∙ append_assoc h.end.tokens (k ∷ []) ks
    ∙ ap (λ o. tokens_in o ++ k ∷ ks) (sym h.there)

-- another end
token_arrives_other : (ends : List ChanEnd) (f g : ℕ) (k : Token) (o : Option ChanEnd) → f ≢ g → slice_get (token_at ends f k o) g ≡ slice_get ends g
token_arrives_other ends f g k None ne = refl
token_arrives_other ends f g k (Some end) ne = get_set_other ends f g _ ne

-- the tokens at another end
pub tokens_arrive_other : (ends : List ChanEnd) (f g : ℕ) (ks : List Token) → f ≢ g → tokens_of_end (all_arrive ends (tokens_to f ks)) g ≡ tokens_of_end ends g
tokens_arrive_other ends f g [] ne = refl
tokens_arrive_other ends f g (k ∷ ks) ne = tokens_arrive_other (arrives ends (Tok f k)) f g ks ne ∙ ap tokens_in (token_arrives_other ends f g k (slice_get ends f) ne)

-- credits change no tokens
pub credit_arrives : (ends : List ChanEnd) (f g : ℕ) → tokens_of_end (arrives ends (Credit f)) g ≡ tokens_of_end ends g
credit_arrives ends f g = by (slice_get ends f) refl
  where
    by : (o : Option ChanEnd) → slice_get ends f ≡ o → tokens_of_end (credit_at ends f o) g ≡ tokens_of_end ends g
    by None e = refl
    by (Some end) e = same_tokens ends f g end (record end { credits = end.credits + 1 }) e refl

-- several credits
pub credits_arrive : (ends : List ChanEnd) (f g n : ℕ) → tokens_of_end (all_arrive ends (credits_to f n)) g ≡ tokens_of_end ends g
credits_arrive ends f g zero = refl
credits_arrive ends f g (suc n) = credits_arrive (arrives ends (Credit f)) f g n ∙ credit_arrives ends f g

-- four links out of each of four cores
pub record Square (links : Links) : Type 0 where
  pub rows : (a : ℕ) → a < 4 → (out : List (List Item)) × (slice_get links a ≡ Some out) × ((b : ℕ) → b < 4 → (items : List Item) × (slice_get out b ≡ Some items))

-- four empty links out of each of four cores
pub no_square : Square no_links
no_square = record { rows = λ a lt. (replicate_4, row a lt, columns) }
  where
    replicate_4 : List (List Item)
    replicate_4 = [] ∷ [] ∷ [] ∷ [] ∷ []

    row : (a : ℕ) → a < 4 → slice_get no_links a ≡ Some replicate_4
    row zero lt = refl
    row (suc zero) lt = refl
    row (suc (suc zero)) lt = refl
    row (suc (suc (suc zero))) lt = refl
    row (suc (suc (suc (suc a)))) lt = absurd (omega (arith, lt))

    columns : (b : ℕ) → b < 4 → (items : List Item) × (slice_get replicate_4 b ≡ Some items)
    columns zero lt = ([], refl)
    columns (suc zero) lt = ([], refl)
    columns (suc (suc zero)) lt = ([], refl)
    columns (suc (suc (suc zero))) lt = ([], refl)
    columns (suc (suc (suc (suc b)))) lt = absurd (omega (arith, lt))

-- the link that is written
pub get_put : (links : Links) (a b : ℕ) (x : List Item) → Square links → a < 4 → b < 4 → link_of (link_put links a b x) a b ≡ x
get_put links a b x q la lb =
    let row = q.rows a la in
    let it = row.2 b lb in
    ap (λ o. link_of (link_put_in links a b x o) a b) row.1
    ∙ ap (λ r. link_in r b) (get_set links a row.0 (slice_set row.0 b x) row.1)
    ∙ ap items_in (get_set row.0 b it.0 x it.1)

-- another link
pub get_put_other : (links : Links) (a b c d : ℕ) (x : List Item) → ((a ≡ c) → b ≢ d) → link_of (link_put links a b x) c d ≡ link_of links c d
get_put_other links a b c d x ne = by (slice_get links a) refl (same_num a c)
  where
    by : (o : Option (List (List Item))) → slice_get links a ≡ o → (a ≡ c) ⊎ (a ≢ c) → link_of (link_put_in links a b x o) c d ≡ link_of links c d
    by None e s = refl
    by (Some out) e (inr n) = ap (λ r. link_in r d) (get_set_other links a c (slice_set out b x) n)
    by (Some out) e (inl s) =
        let at_a : link_of (slice_set links a (slice_set out b x)) a d ≡ link_of links a d =
        ap (λ r. link_in r d) (get_set links a out (slice_set out b x) e) ∙ ap items_in (get_set_other out b d x (ne s)) ∙ sym (ap (λ r. link_in r d) e) in
        subst (λ v. link_of (slice_set links a (slice_set out b x)) v d ≡ link_of links v d) s at_a

-- there are still as many links
pub square_put : (links : Links) (a b : ℕ) (x : List Item) → Square links → Square (link_put links a b x)
square_put links a b x q = record { rows = λ c lc. by c lc (slice_get links a) refl (same_num a c) }
  where
    columns : (out : List (List Item)) → ((d : ℕ) → d < 4 → (items : List Item) × (slice_get out d ≡ Some items)) → (d : ℕ) → d < 4 → (b ≡ d) ⊎ (b ≢ d) → (items : List Item) × (slice_get (slice_set out b x) d ≡ Some items)
    columns out h d ld (inl s) = let it = h d ld in (x, subst (λ v. slice_get (slice_set out b x) v ≡ Some x) s (get_set out b it.0 x (subst (λ v. slice_get out v ≡ Some it.0) (sym s) it.1)))
    columns out h d ld (inr n) = let it = h d ld in (it.0, get_set_other out b d x n ∙ it.1)

    by : (c : ℕ) → c < 4 → (o : Option (List (List Item))) → slice_get links a ≡ o → (a ≡ c) ⊎ (a ≢ c) → (out : List (List Item)) × (slice_get (link_put_in links a b x o) c ≡ Some out) × ((d : ℕ) → d < 4 → (items : List Item) × (slice_get out d ≡ Some items))
    by c lc None e s = q.rows c lc
    by c lc (Some out) e (inr n) = let row = q.rows c lc in (row.0, get_set_other links a c (slice_set out b x) n ∙ row.1, row.2)
    by c lc (Some out) e (inl s) =
        let row = q.rows c lc in
        let same : row.0 ≡ out = some_is row.0 out (sym row.1 ∙ ap (λ v. slice_get links v) (sym s) ∙ e) in (
          slice_set out b x,
          subst (λ v. slice_get (slice_set links a (slice_set out b x)) v ≡ Some (slice_set out b x)) s (get_set links a out (slice_set out b x) e),
          λ d ld. columns out (subst (λ (o : List (List Item)). (d : ℕ) → d < 4 → (items : List Item) × (slice_get o d ≡ Some items)) same row.2) d ld (same_num b d),
        )

-- and where something is sent
pub square_sent : (links : Links) (c d tick : ℕ) (ms : List Moved) → Square links → Square (on_links links c (all_sent d tick ms))
square_sent links c d tick [] q = q
square_sent links c d tick (m ∷ ms) q = square_sent _ c d tick ms (square_put links c d _ q)

-- what is sent goes behind what is on the link
abbrev pub items_of : ℕ → List Moved → List Item
items_of tick [] = []
items_of tick (m ∷ ms) = record { tick = tick; moved = m } ∷ items_of tick ms

-- on that link
pub link_sent : (links : Links) (c d tick : ℕ) (ms : List Moved) → Square links → c < 4 → d < 4 → link_of (on_links links c (all_sent d tick ms)) c d ≡ link_of links c d ++ items_of tick ms
link_sent links c d tick [] q lc ld = sym (append-nil (link_of links c d))
link_sent links c d tick (m ∷ ms) q lc ld =
    let i : Item = record { tick = tick; moved = m } in
    let links1 = link_put links c d (link_of links c d ++ i ∷ []) in
    link_sent links1 c d tick ms (square_put links c d _ q) lc ld
    ∙ ap (λ l. l ++ items_of tick ms) (get_put links c d (link_of links c d ++ i ∷ []) q lc ld)
    ∙ append_assoc (link_of links c d) (i ∷ []) (items_of tick ms)

-- on another link
pub link_sent_other : (links : Links) (c d a b tick : ℕ) (ms : List Moved) → ((c ≡ a) → d ≢ b) → link_of (on_links links c (all_sent d tick ms)) a b ≡ link_of links a b
link_sent_other links c d a b tick [] ne = refl
link_sent_other links c d a b tick (m ∷ ms) ne = link_sent_other _ c d a b tick ms ne ∙ get_put_other links c d a b _ ne

-- an item before others
token_more : (e : ℕ) (m : Moved) (xs ys : List Token) → token_for e m (xs ++ ys) ≡ token_for e m xs ++ ys
token_more e (Credit f) xs ys = refl
token_more e (Tok f k) xs ys = by (nat_eq f e)
  where
    by : (b : Bool) → token_by b k (xs ++ ys) ≡ token_by b k xs ++ ys
    by true = refl
    by false = refl

-- the tokens of two parts of a link
pub tokens_for_append : (e : ℕ) (xs ys : List Item) → tokens_for e (xs ++ ys) ≡ tokens_for e xs ++ tokens_for e ys
tokens_for_append e [] ys = refl
tokens_for_append e (x ∷ xs) ys = ap (λ l. token_for e x.moved l) (tokens_for_append e xs ys) ∙ token_more e x.moved (tokens_for e xs) (tokens_for e ys)

-- the tokens that were sent
pub tokens_for_here : (e tick : ℕ) (ks : List Token) → tokens_for e (items_of tick (tokens_to e ks)) ≡ ks
tokens_for_here e tick [] = refl
tokens_for_here e tick (k ∷ ks) = ap (λ b. token_by b k (tokens_for e (items_of tick (tokens_to e ks)))) (eq-eqb e e refl) ∙ ap (λ l. k ∷ l) (tokens_for_here e tick ks)

-- those for another end
pub tokens_for_other : (e f tick : ℕ) (ks : List Token) → f ≢ e → tokens_for e (items_of tick (tokens_to f ks)) ≡ []
tokens_for_other e f tick [] ne = refl
tokens_for_other e f tick (k ∷ ks) ne = ap (λ b. token_by b k (tokens_for e (items_of tick (tokens_to f ks)))) (num_other f e ne) ∙ tokens_for_other e f tick ks ne

-- credits are no tokens
pub tokens_for_credits : (e f tick n : ℕ) → tokens_for e (items_of tick (credits_to f n)) ≡ []
tokens_for_credits e f tick zero = refl
tokens_for_credits e f tick (suc n) = tokens_for_credits e f tick n
