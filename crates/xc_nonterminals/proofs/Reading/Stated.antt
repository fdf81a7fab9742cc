-- What the answers of the functions that read statements need besides the paths.
use Rattle.std.proofs.Common.{◌≡◌, ℕ, zero, suc, ◌+◌, Bool, true, false, if◌then◌else◌, IsTrue, List, [], ◌∷◌, Some, slice_get, refl, subst}
use Rattle.std.specs.Prelude.{Result, Ok, Err, Option, None, IfOk, IfErr, IfSome, IfNone}
use Rattle.xw_words.specs.declared.pos.Pos.{Pos}
use Rattle.xc_tree.specs.declared.token.Tok.{Tok}
use Rattle.xc_tree.specs.declared.token.Kind.TheVariants.{Key, Sym}
use Rattle.xc_tree.specs.Plain as plain
use Rattle.xc_tree.specs.Symbol.{Symbol, sym, assign, statement, Value, Values}
use Rattle.xc_tree.specs.Grammar.{Extent, Rule, rules}
use Rattle.xc_tree.specs.Derives.{On, Room, extent, Derives, a_sym, a_key, named, counted, by_rule}
use Rattle.xc_nonterminals.specs.declared.stop.Stop.{Stop}
use Rattle.xc_nonterminals.specs.declared.statements.First.{First}
use Rattle.xc_nonterminals.specs.declared.statements.First.TheVariants.{Semicolon, Brace, Name, If, While, Do, For, Return, Break, Continue, Par, Select, Master, Slave}
use Rattle.xc_nonterminals.specs.Begun.{token_of, assigning}
use Rattle.xc_nonterminals.specs.Follows.{OneOf, StandsAt, has, begins_statement}
use Rattle.xc_nonterminals.specs.Reading.{Reads}
use Rattle.xc_nonterminals.specs.Stops.{Stopped}
use Rattle.xc_nonterminals.proofs.Rests.Behinds.{token_derived}
use Rattle.xc_nonterminals.proofs.Rests.Opening.{is_token}
use Rattle.xc_nonterminals.proofs.Derivations.Single.{one_kind}
use Rattle.xc_nonterminals.proofs.Rests.Rests.{left}
use Rattle.xc_nonterminals.proofs.Stating.Simples.{Each, each_of, others, break_stops, continue_stops}
use Rattle.xc_tree.specs.Terminals as terminal

-- a symbol that was read stands there
pub symbol_there : {toks : List Tok} {room o i j : ℕ} {v : Pos} → Reads toks room (sym o) i j v → On toks i (Sym o) v
symbol_there {o} r = (token_derived {t = sym o} refl r.derives).1

-- what was read or stopped at a place, written otherwise
pub from_place : {toks : List Tok} {room : ℕ} {s : Symbol} {i k j : ℕ} {v : Value s} → i ≡ k → Reads toks room s i j v → Reads toks room s k j v
from_place {toks} {room} {s} {j} {v} e r = subst (λ n. Reads toks room s n j v) e r

pub stopped_from : (toks : List Tok) (room : ℕ) (s : Symbol) {i k : ℕ} (e : Stop) → i ≡ k → Stopped toks room s i e → Stopped toks room s k e
stopped_from toks room s e q r = subst (λ n. Stopped toks room s n e) q r

-- what holds of a result, from what is known of it
pub ok_with : {T E : Type 0} (P Q : T → Type 0) (r : Result T E) → ((x : T) → P x → Q x) → IfOk r P → IfOk r Q
ok_with P Q (Ok x) f h = f x h
ok_with P Q (Err e) f h = tt

pub err_with : {T E : Type 0} (P Q : E → Type 0) (r : Result T E) → ((e : E) → P e → Q e) → IfErr r P → IfErr r Q
err_with P Q (Ok x) f h = tt
err_with P Q (Err e) f h = f e h

pub some_with : {T : Type 0} (P Q : T → Type 0) (r : Option T) → ((x : T) → P x → Q x) → IfSome r P → IfSome r Q
some_with P Q (Some x) f h = f x h
some_with P Q None f h = tt

pub none_with : {T : Type 0} {A B : Type 0} (r : Option T) → (A → B) → IfNone r A → IfNone r B
none_with (Some x) f h = tt
none_with None f h = f h

-- which word begins a jump
module _ {toks : List Tok} {i : ℕ} {p : Pos} where
  pub break_word : (b : Bool) → IsTrue b → On toks i (Key (if b then 0 else 4)) p → On toks i (Key 0) p
  break_word true h on = on
  break_word false h on = absurd (cc)

  pub continue_word : (b : Bool) → b ≡ false → On toks i (Key (if b then 0 else 4)) p → On toks i (Key 4) p
  continue_word true h on = absurd (cc)
  continue_word false h on = on

-- what a call and a transfer go on with is missing behind a name
pub no_others : {toks : List Tok} {k : ℕ} → ((p : Pos) → On toks k (Sym 0) p → ⊥) → (OneOf toks k (terminal.sends ∷ terminal.at_sign ∷ []) → ⊥) → (OneOf toks k (terminal.receives ∷ terminal.when_word ∷ []) → ⊥) → OneOf toks k others → ⊥
no_others {toks} {k} call send receive o =
    each_of others (λ t. StandsAt toks k t → ⊥)
    ((λ x. call x.0 x.1), ((λ x. send (record { token = terminal.at_sign; stands = x; among = refl })), ((λ x. send (record { token = terminal.sends; stands = x; among = refl })), ((λ x. receive (record { token = terminal.receives; stands = x; among = refl })), ((λ x. receive (record { token = terminal.when_word; stands = x; among = refl })), tt)))))
    o.token o.among o.stands

-- a symbol is one of those that an assignment goes on with only where they have it
pub among_assigning : {toks : List Tok} {i n : ℕ} {p : Pos} → On toks i (Sym n) p → OneOf toks i assigning → has assigning (sym n) ≡ true
among_assigning {toks} {i} {n} on o = each_of assigning (λ t. StandsAt toks i t → has assigning (sym n) ≡ true) all o.token o.among o.stands
  where
    same : (m : ℕ) → has assigning (sym m) ≡ true → StandsAt toks i (sym m) → has assigning (sym n) ≡ true
    same m h x = let e : Sym n ≡ Sym m = one_kind on x.1 in let f : m ≡ n = cc in subst (λ a. has assigning (sym a) ≡ true) f h

    all : Each assigning (λ t. StandsAt toks i t → has assigning (sym n) ≡ true)
    all = (same 22 refl, (same 4 refl, (same 35 refl, (same 36 refl, (same 37 refl, (same 38 refl, (same 39 refl, (same 40 refl, (same 41 refl, (same 42 refl, (same 43 refl, (same 44 refl, (same 45 refl, (same 46 refl, tt))))))))))))))

-- where something else than a symbol stands, no assignment goes on
pub only_symbols : {toks : List Tok} {i : ℕ} → ((n : ℕ) (p : Pos) → On toks i (Sym n) p → ⊥) → OneOf toks i assigning → ⊥
only_symbols {toks} {i} none o =
    let f : (n : ℕ) → StandsAt toks i (sym n) → ⊥ = λ n x. none n x.0 x.1 in
    each_of assigning (λ t. StandsAt toks i t → ⊥) (f 22, (f 4, (f 35, (f 36, (f 37, (f 38, (f 39, (f 40, (f 41, (f 42, (f 43, (f 44, (f 45, (f 46, tt)))))))))))))) o.token o.among o.stands

-- each alternative makes a value that has the property
abbrev Makes : {V : Type 0} → (V → Type 0) → Rule V → Type 0
Makes P r = (e : Extent) (x : Values r.parts) → P (r.make e x)

infixr 20 ◌&◌
data AllMake {V : Type 0} (P : V → Type 0) : List (Rule V) → Type 0 where
  none : AllMake P []
  ◌&◌ : {r : Rule V} {rs : List (Rule V)} → Makes P r → AllMake P rs → AllMake P (r ∷ rs)

among_makes : {V : Type 0} (P : V → Type 0) (rs : List (Rule V)) (r : Rule V) (at : ℕ) → AllMake P rs → slice_get rs at ≡ Some r → Makes P r
among_makes P [] r at none e = absurd (cc)
among_makes P (x ∷ rs) r zero (a & more) e = let g : x ≡ r = cc in subst (λ y. Makes P y) g a
among_makes P (x ∷ rs) r (suc at) (a & more) e = among_makes P rs r at more e

made : {toks : List Tok} {room : Room} {s : Symbol} {i j : ℕ} {v : Value s} (P : Value s → Type 0) → AllMake P (rules s) → is_token s ≡ false → Derives toks room s i j v → P v
made P all e (a_sym on) = absurd (cc)
made P all e (a_key on) = absurd (cc)
made P all e (named on) = absurd (cc)
made P all e (counted on) = absurd (cc)
made {toks} {s} {i} {j} P all e (by_rule {r} {vs} a h row f) = among_makes P (rules s) r a.at all a.there (extent toks i j) vs

-- an assignment holds no statement
pub assign_holds_none : {toks : List Tok} {room : Room} {i j : ℕ} {a : plain.Action} → Derives toks room assign i j a → 0 ≡ plain.held a
assign_holds_none d = made {s = assign} (λ (a : plain.Action). 0 ≡ plain.held a) ((λ e x. refl) & (λ e x. refl) & (λ e x. refl) & (λ e x. refl) & none) refl d

-- a jump whose semicolon is missing
pub jump_stops : (toks : List Tok) (room at : ℕ) (is_break : Bool) {p : Pos} (e : Stop) → On toks at (Key (if is_break then 0 else 4)) p → Stopped toks (left (room + 1) 1) terminal.semicolon (at + 1) e → Stopped toks (room + 1) statement at e
jump_stops toks room at true e on s = break_stops toks room at e on s
jump_stops toks room at false e on s = continue_stops toks room at e on s

-- a statement begins with each of these
pub begins_all : (f : First) → has begins_statement (token_of f) ≡ true
begins_all Semicolon = refl
begins_all Brace = refl
begins_all Name = refl
begins_all If = refl
begins_all While = refl
begins_all Do = refl
begins_all For = refl
begins_all Return = refl
begins_all Break = refl
begins_all Continue = refl
begins_all Par = refl
begins_all Select = refl
begins_all Master = refl
begins_all Slave = refl

-- the same room, written otherwise
pub ok_room : {T : Type 0} (toks : List Tok) (s : Symbol) (i : ℕ) (end_of : T → ℕ) (value_of : T → Value s) {a b : ℕ} → a ≡ b → (r : Result T Stop) → IfOk r (λ x. Reads toks a s i (end_of x) (value_of x)) → IfOk r (λ x. Reads toks b s i (end_of x) (value_of x))
ok_room toks s i end_of value_of e r h = subst (λ n. IfOk r (λ x. Reads toks n s i (end_of x) (value_of x))) e h

pub err_room : {T : Type 0} (toks : List Tok) (s : Symbol) (i : ℕ) {a b : ℕ} → a ≡ b → (r : Result T Stop) → IfErr r (λ e. Stopped toks a s i e) → IfErr r (λ e. Stopped toks b s i e)
err_room toks s i e r h = subst (λ n. IfErr r (λ x. Stopped toks n s i x)) e h
