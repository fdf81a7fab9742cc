-- Two readings of a statement meet: an `else` belongs to the last `if` before it that has none.
use Rattle.std.proofs.Common.{◌≡◌, ℕ, zero, suc, inl, inr, Bool, true, not, ◌&&◌, List, [], ◌∷◌, ◌++◌, refl, sym as sym', ap, subst, ◌∙◌}
use Rattle.std.proofs.lemmas.Bool.{and_parts, not-true}
use Rattle.xc_tree.specs.declared.token.Tok.{Tok}
use Rattle.xc_tree.specs.Plain as plain
use Rattle.xc_tree.specs.Plain.{is_open}
use Rattle.xc_tree.specs.Symbol.{Symbol, a_name, a_number, maybe, place, expr, statement, closed, block_item, case_item, branch, for_start, for_step, Value, Values}
use Rattle.xc_tree.specs.Grammar.{Rule, rules, does}
use Rattle.xc_tree.specs.Terminals.{paren, end_paren, semicolon, equals, below, plus_plus, if_word, else_word, while_word, for_word, int_word, par_word}
use Rattle.xc_nonterminals.specs.Follows.{OneOf, follows}
use Rattle.xc_nonterminals.specs.Reading.{IsFront}
use Rattle.xc_nonterminals.proofs.Rests.Opening.{fronts, is_disjoint}
use Rattle.xc_nonterminals.proofs.Rests.Behinds.{token_derived}
use Rattle.xc_nonterminals.proofs.Derivations.Covers.{row_firsts, row_nullable}
use Rattle.xc_nonterminals.proofs.Derivations.Statures.{RowBy, By, Tree, opened_same, derived}
use Rattle.xc_nonterminals.proofs.Meeting.Meetings.{AllMeet, Meets, Tail, is_listed, OneMeets, AllOneMeet, Differ, DifferFrom, AllDiffer, row_meets, behind_front, each_told, each_meets, rules_meet}
use Rattle.xc_nonterminals.proofs.Meeting.Differing.{differ_from, told_from, told_all}
use Rattle.xc_tree.specs.Terminals as terminal

-- the last of some symbols, behind each of which a token stands
abbrev last_of : Symbol → List Symbol → Symbol
last_of s [] = s
last_of s (t ∷ ts) = last_of t ts

abbrev last_value : (s : Symbol) (ss : List Symbol) → Values (s ∷ ss) → Value (last_of s ss)
last_value s [] x = x.0
last_value s (t ∷ ts) x = last_value t ts x.1

abbrev is_solid : List Symbol → Bool
is_solid [] = true
is_solid (s ∷ ss) = not (row_nullable (s ∷ ss)) && is_solid ss

-- a row goes on where its last symbol does
last_front : (toks : List Tok) (s : Symbol) (ss : List Symbol) (j : ℕ) (vs : Values (s ∷ ss)) → is_solid ss ≡ true → Tail toks (s ∷ ss) j vs → IsFront toks (last_of s ss) j (last_value s ss vs)
last_front toks s [] j vs e (inl t) = t.0
last_front toks s [] j vs e (inr t) = absurd t
last_front toks s (t ∷ ts) j vs e (inl f) =
    let h = not-true (row_nullable (t ∷ ts)) (and_parts (not (row_nullable (t ∷ ts))) (is_solid ts) e).0 in
    let g = f.1 in
    absurd (cc)
last_front toks s (t ∷ ts) j vs e (inr f) = last_front toks t ts j vs.1 (and_parts (not (row_nullable (t ∷ ts))) (is_solid ts) e).1 f

-- some symbols that are told from what stands behind them, whether these or those symbols
abbrev is_passed : List Symbol → List Symbol → List Symbol → Bool
is_passed [] ss ts = true
is_passed (p ∷ ps) ss ts =
    (is_listed p && ((is_disjoint (follows p) (row_firsts (ps ++ ss)) && not (row_nullable (ps ++ ss))) && (is_disjoint (follows p) (row_firsts (ps ++ ts)) && not (row_nullable (ps ++ ts))))) &&
    is_passed ps ss ts

module _ (toks : List Tok) (n : ℕ) where
  no_front : (p : Symbol) (ss : List Symbol) (m j : ℕ) (v : Value p) (vs : Values ss) → is_disjoint (follows p) (row_firsts ss) && not (row_nullable ss) ≡ true → RowBy (Tree toks n) ss m j vs → IsFront toks p m v → ⊥
  no_front p ss m j v vs e r f =
      let q = and_parts (is_disjoint (follows p) (row_firsts ss)) (not (row_nullable ss)) e in
      let g = (behind_front toks n p ss m j v vs q.0 r f).1 in
      let h = not-true (row_nullable ss) q.1 in
      absurd (cc)

  -- what both rows begin with is read up to one place
  passed : AllMeet toks n → (ps ss ts : List Symbol) → is_passed ps ss ts ≡ true → (i j k : ℕ) (vs : Values (ps ++ ss)) (ws : Values (ps ++ ts)) → RowBy (Tree toks n) (ps ++ ss) i j vs → RowBy (Tree toks n) (ps ++ ts) i k ws → (m : ℕ) × (us : Values ss) × (zs : Values ts) × RowBy (Tree toks n) ss m j us × RowBy (Tree toks n) ts m k zs
  passed meet [] ss ts e i j k vs ws x y = (i, vs, ws, x, y)
  passed meet (p ∷ ps) ss ts e i j k vs ws (m, a, x) (l, b, y) =
      let q = and_parts (is_listed p && ((is_disjoint (follows p) (row_firsts (ps ++ ss)) && not (row_nullable (ps ++ ss))) && (is_disjoint (follows p) (row_firsts (ps ++ ts)) && not (row_nullable (ps ++ ts))))) (is_passed ps ss ts) e in
      let r = and_parts (is_listed p) ((is_disjoint (follows p) (row_firsts (ps ++ ss)) && not (row_nullable (ps ++ ss))) && (is_disjoint (follows p) (row_firsts (ps ++ ts)) && not (row_nullable (ps ++ ts)))) q.0 in
      let c = and_parts (is_disjoint (follows p) (row_firsts (ps ++ ss)) && not (row_nullable (ps ++ ss))) (is_disjoint (follows p) (row_firsts (ps ++ ts)) && not (row_nullable (ps ++ ts))) r.1 in
      elim (meet p r.0 i m l vs.0 ws.0 a b) [
        | inl g ↦ passed meet ps ss ts q.1 m j k vs.1 ws.1 x (subst (λ z. RowBy (Tree toks n) (ps ++ ts) z k ws.1) g.0 y)
        | inr (inl f) ↦ absurd (no_front p (ps ++ ss) m j vs.0 vs.1 c.0 x f)
        | inr (inr f) ↦ absurd (no_front p (ps ++ ts) l k ws.0 ws.1 c.1 y f)
      ]

abbrev condition : List Symbol
condition = if_word ∷ paren ∷ expr ∷ end_paren ∷ []

abbrev alone : Rule plain.Statement
alone = does (if_word ∷ paren ∷ expr ∷ end_paren ∷ statement ∷ []) (λ (p, (q, (c, (r, (s, u))))). plain.if_then c s plain.absent)

abbrev with_else : Rule plain.Statement
with_else = does (if_word ∷ paren ∷ expr ∷ end_paren ∷ closed ∷ else_word ∷ statement ∷ []) (λ (p, (q, (c, (r, (s, (l, (o, u))))))). plain.if_then c s (plain.present o))

-- some alternatives without the first ones
abbrev from : ℕ → List (Rule plain.Statement) → List (Rule plain.Statement)
from zero rs = rs
from (suc n) [] = []
from (suc n) (r ∷ rs) = from n rs

abbrev rest : ℕ → List (Rule plain.Statement)
rest n = from n (rules statement)

abbrev HeadDiffers : List Tok → ℕ → List (Rule plain.Statement) → Type 0
HeadDiffers toks n [] = Unit {0}
HeadDiffers toks n (r ∷ rs) = DifferFrom toks n statement r rs

abbrev head_differs : List (Rule plain.Statement) → Bool
head_differs [] = true
head_differs (r ∷ rs) = differ_from (fronts statement) r.parts rs

module _ (toks : List Tok) (n : ℕ) (meet : AllMeet toks n) where
  -- an `if` without `else`, behind whose statement one stands
  else_differs : Differ toks n statement alone with_else
  else_differs i j k v w x y =
      let p = passed toks n meet condition (statement ∷ []) (closed ∷ else_word ∷ statement ∷ []) refl i j k x.0 y.0 x.1 y.1 in
      let m = p.0 in
      let a = p.3 in
      let c = p.4 in
      let on = (token_derived {t = else_word} refl (derived toks n else_word c.0 c.2.0 p.2.1.0 c.2.1)).1 in
      let goes : (l : ℕ) → OneOf toks l (terminal.else_word ∷ []) → j ≡ l → IsFront toks statement j v = (λ l o e. record { goes_on = subst (λ z. OneOf toks z (terminal.else_word ∷ [])) (sym' e) o; may = ap is_open x.3 }) in
      elim (opened_same toks n closed refl m c.0 p.2.0 c.1) [
        | inl z ↦ elim (meet statement refl m a.0 z.1.0 p.1.0 z.0.0 a.1 z.1.1) [
          | inl g ↦ inl (goes c.0 (record { token = terminal.else_word; stands = (p.2.1.0, on); among = refl }) (a.2 ∙ sym' (z.1.2 ∙ g.0)))
          | inr (inl f) ↦ inl (goes a.0 f.goes_on a.2)
          | inr (inr f) ↦ let h = not-true (is_open z.0.0) z.2 in let g : is_open z.0.0 ≡ true = f.may in absurd (cc)
        ]
        | inr z ↦ absurd z
      ]

  head_told : (rs : List (Rule plain.Statement)) → head_differs rs ≡ true → HeadDiffers toks n rs
  head_told [] e = tt
  head_told (r ∷ rs) e = told_from toks n meet statement r rs e

  differ_all : AllDiffer toks n statement (rules statement)
  differ_all = (head_told (rest 0) refl, (head_told (rest 1) refl, (head_told (rest 2) refl, (head_told (rest 3) refl, (head_told (rest 4) refl, (head_told (rest 5) refl, ((else_differs, told_from toks n meet statement alone (rest 8) refl), told_all toks n meet statement (rest 7) refl)))))))

  abbrev HeadMeets : (s : Symbol) → List (Rule (Value s)) → Type 0
  HeadMeets s [] = Unit {0}
  HeadMeets s (r ∷ rs) = OneMeets toks n s r

  abbrev head_is_told : (s : Symbol) → List (Rule (Value s)) → Bool
  head_is_told s [] = true
  head_is_told s (r ∷ rs) = each_told (fronts s) (r ∷ [])

  head_meets : (s : Symbol) (rs : List (Rule (Value s))) → head_is_told s rs ≡ true → HeadMeets s rs
  head_meets s [] e = tt
  head_meets s (r ∷ rs) e = (each_meets toks n meet s (r ∷ []) e).0

  abbrev looped : List Symbol
  looped = paren ∷ expr ∷ end_paren ∷ statement ∷ []

  abbrev chosen : List Symbol
  chosen = paren ∷ expr ∷ end_paren ∷ closed ∷ else_word ∷ statement ∷ []

  abbrev counted : List Symbol
  counted = paren ∷ maybe for_start ∷ semicolon ∷ maybe expr ∷ semicolon ∷ maybe for_step ∷ end_paren ∷ statement ∷ []

  abbrev spread : List Symbol
  spread = paren ∷ int_word ∷ a_name ∷ equals ∷ a_number ∷ semicolon ∷ a_name ∷ below ∷ a_number ∷ semicolon ∷ a_name ∷ plus_plus ∷ end_paren ∷ branch ∷ []

  meets_all : AllOneMeet toks n statement (rules statement)
  meets_all = (
    head_meets statement (rest 0) refl,
    (
      head_meets statement (rest 1) refl,
      (
        head_meets statement (rest 2) refl,
        (
          head_meets statement (rest 3) refl,
          (
            head_meets statement (rest 4) refl,
            (
              head_meets statement (rest 5) refl,
              (
                record {
                  meets = row_meets toks n meet (if_word ∷ looped) refl;
                  tail = λ e vs j f t. record { goes_on = (last_front toks if_word looped j vs refl t).goes_on; may = refl };
                },
                (
                  record {
                    meets = row_meets toks n meet (if_word ∷ chosen) refl;
                    tail = λ e vs j f t. let h = last_front toks if_word chosen j vs refl t in record { goes_on = h.goes_on; may = h.may };
                  },
                  (
                    record {
                      meets = row_meets toks n meet (while_word ∷ looped) refl;
                      tail = λ e vs j f t. let h = last_front toks while_word looped j vs refl t in record { goes_on = h.goes_on; may = h.may };
                    },
                    (
                      head_meets statement (rest 9) refl,
                      (
                        record {
                          meets = row_meets toks n meet (for_word ∷ counted) refl;
                          tail = λ e vs j f t. let h = last_front toks for_word counted j vs refl t in record { goes_on = h.goes_on; may = h.may };
                        },
                        (
                          head_meets statement (rest 11) refl,
                          (
                            head_meets statement (rest 12) refl,
                            (
                              head_meets statement (rest 13) refl,
                              (
                                head_meets statement (rest 14) refl,
                                (
                                  record {
                                    meets = row_meets toks n meet (par_word ∷ spread) refl;
                                    tail = λ e vs j f t. let h = last_front toks par_word spread j vs refl t in record { goes_on = h.goes_on; may = h.may };
                                  },
                                  each_meets toks n meet statement (rest 16) refl,
                                ),
                              ),
                            ),
                          ),
                        ),
                      ),
                    ),
                  ),
                ),
              ),
            ),
          ),
        ),
      ),
    ),
  )

  pub statement_meets : (i j k : ℕ) (v w : plain.Statement) → By toks (Tree toks n) (rules statement) i j v → By toks (Tree toks n) (rules statement) i k w → Meets toks statement j v k w
  statement_meets i j k v w x y = rules_meet toks n statement i j k v w (rules statement) meets_all differ_all x y

  -- what stands for a statement
  pub closed_meets : (i j k : ℕ) (v w : plain.Statement) → By toks (Tree toks n) (rules closed) i j v → By toks (Tree toks n) (rules closed) i k w → Meets toks closed j v k w
  closed_meets i j k v w x y = rules_meet toks n closed i j k v w (rules closed) (
    record {
      meets = row_meets toks n meet (statement ∷ []) refl;
      tail = λ e vs q f t. let h = last_front toks statement [] q vs refl t in let g = not-true (is_open vs.0) f in let o : is_open vs.0 ≡ true = h.may in absurd (cc);
    },
    tt,
  ) (tt, tt) x y

  pub block_item_meets : (i j k : ℕ) (v w : plain.Statement) → By toks (Tree toks n) (rules block_item) i j v → By toks (Tree toks n) (rules block_item) i k w → Meets toks block_item j v k w
  block_item_meets i j k v w x y = rules_meet toks n block_item i j k v w (rules block_item) (
    head_meets block_item (rules block_item) refl,
    (
      record {
        meets = row_meets toks n meet (statement ∷ []) refl;
        tail = λ e vs q f t. let h = last_front toks statement [] q vs refl t in record { goes_on = h.goes_on; may = h.may };
      },
      tt,
    ),
  ) (told_all toks n meet block_item (rules block_item) refl) x y

  pub case_item_meets : (i j k : ℕ) (v w : plain.Statement) → By toks (Tree toks n) (rules case_item) i j v → By toks (Tree toks n) (rules case_item) i k w → Meets toks case_item j v k w
  case_item_meets i j k v w x y = rules_meet toks n case_item i j k v w (rules case_item) (
    head_meets case_item (rules case_item) refl,
    (
      record {
        meets = row_meets toks n meet (statement ∷ []) refl;
        tail = λ e vs q f t. let h = last_front toks statement [] q vs refl t in record { goes_on = h.goes_on; may = h.may };
      },
      tt,
    ),
  ) (told_all toks n meet case_item (rules case_item) refl) x y

  pub branch_meets : (i j k : ℕ) (v w : plain.Branch) → By toks (Tree toks n) (rules branch) i j v → By toks (Tree toks n) (rules branch) i k w → Meets toks branch j v k w
  branch_meets i j k v w x y = rules_meet toks n branch i j k v w (rules branch) (
    record {
      meets = row_meets toks n meet (maybe place ∷ statement ∷ []) refl;
      tail = λ e vs q f t. let h = last_front toks (maybe place) (statement ∷ []) q vs refl t in record { goes_on = h.goes_on; may = h.may };
    },
    tt,
  ) (tt, tt) x y
