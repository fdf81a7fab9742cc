-- What a part of a program's copy makes of channels: those that its names then stand for, those that calls in it hide, and which of
-- them it uses.
use Rattle.std.proofs.Common.{◌≡◌, ◌⊎◌, inl, inr, ⊎_elim, ℕ, Bool, true, false, ◌||◌, IsTrue, List, [], ◌∷◌, ◌++◌, Option, Some, None, option_map, is_some, bytes_eq, refl, sym, ap, subst, true≢false}
use Rattle.std.proofs.lemmas.Bool.{eqb-true}
use Rattle.xc_tree.specs.declared.names.Decl.{Decl}
use Rattle.xc_tree.specs.Types.Named.{NamedProgram, what_of, function_of}
use Rattle.xc_tree.specs.Types.Entities.{is_channel}
use Rattle.xc_tree.specs.Types.Sites.{Site}
use Rattle.xc_tree.specs.Shapes.Enclosing.{is_empty}
use Rattle.xc_kernel.specs.declared.kernel.Chan.{Chan}
use Rattle.xc_kernel.specs.Plain as kernel
use Rattle.xc_kernel.specs.Things.{channel, by_resource, by_expression, by_statement, by_statements}
use Rattle.xc_kernel.specs.Paths.{Path, path_of_turn}
use Rattle.xc_kernel.specs.Numbering.{Numbering, channel_number}
use Rattle.xc_kernel.specs.Scopes.{Scope, Entity, a_word, an_array, an_element, a_channel, a_timer, a_port, a_constant, nothing_known, entity_by, entity_of, with_name}
use Rattle.xc_kernel.specs.Expressions.{resource_of}
use Rattle.xc_kernel.specs.Programs.{Function, function_named}
use Rattle.xc_kernel.specs.Copy.{Copy, joined}
use Rattle.xc_kernel.specs.Context.{Context, block_at}
use Rattle.xc_kernel.specs.Transfers.{channel_of}
use Rattle.xc_kernel.proofs.Used.{no_expression}
use Rattle.xc_meaning.proofs.Basics.{or_left, or_right, or_cases}
use Rattle.xc_wellformed.specs.Stacks.{Stack, decl_by, found, with_decl}
use Rattle.xc_wellformed.specs.Denotes.{head_of}
use Rattle.xc_wellformed.proofs.Places.{In}
use Rattle.xc_wellformed.proofs.Spread.{in_left, in_right, weaker}
use Rattle.xc_wellformed.proofs.Talks.{talks, talks_both}
use Rattle.xc_wellformed.proofs.Walk.Arguments.{AllIn, both}
use Rattle.xc_invariants.specs.Rules.{AnyThing, AnyPar}
use Rattle.xc_invariants.specs.Every.{EveryStatements}
use Rattle.xc_invariants.specs.Tidy.{nested_use, nested_uses, SpeaksAlone}
use Rattle.xc_invariants.proofs.Tidy.{never, nested_are_used}

-- Lists.

pub in_either : {A : Type 0} (x : A) (xs ys : List A) → In x (xs ++ ys) → In x xs ⊎ In x ys
in_either x [] ys h = inr h
in_either x (y ∷ xs) ys (inl e) = inl (inl e)
in_either x (y ∷ xs) ys (inr h) = ⊎_elim (λ l. inl (inr l)) (λ r. inr r) (in_either x xs ys h)

-- in more of them
pub in_more : (d : ℕ) (ks xs ys : List ℕ) → In d (ks ++ xs) → In d (ks ++ (xs ++ ys))
in_more d ks xs ys h = ⊎_elim (λ l. in_left d ks (xs ++ ys) l) (λ r. in_right d ks (xs ++ ys) (in_left d xs ys r)) (in_either d ks xs h)

pub in_again : (d : ℕ) (ks xs ys : List ℕ) → In d ((ks ++ xs) ++ ys) → In d (ks ++ (xs ++ ys))
in_again d ks xs ys h = ⊎_elim (λ l. in_more d ks xs ys l) (λ r. in_right d ks (xs ++ ys) (in_right d xs ys r)) (in_either d (ks ++ xs) ys h)

-- all numbers differ
abbrev pub Once : List ℕ → Type 0
Once [] = Unit {0}
Once (x ∷ xs) = (In x xs → ⊥) × Once xs

-- Which channels code uses.

abbrev pub uses : ℕ → List kernel.Statement → Bool
uses d xs = by_statements (channel d) (kernel.statements xs)

abbrev pub holds : ℕ → List kernel.Statement → Bool
holds d xs = nested_uses d (kernel.statements xs)

abbrev pub AllTidy : List kernel.Statement → Type 0
AllTidy xs = EveryStatements AnyThing AnyPar SpeaksAlone (kernel.statements xs)

pub tidy_both : (xs ys : List kernel.Statement) → AllTidy xs → AllTidy ys → AllTidy (xs ++ ys)
tidy_both [] ys h g = g
tidy_both (x ∷ xs) ys h g = (h.0, tidy_both xs ys h.1 g)

module _ (d : ℕ) where
  pub uses_either : (xs ys : List kernel.Statement) → IsTrue (uses d (xs ++ ys)) → IsTrue (uses d xs) ⊎ IsTrue (uses d ys)
  uses_either [] ys h = inr h
  uses_either (x ∷ xs) ys h =
      ⊎_elim (λ l. inl (or_left (by_statement (channel d) x) (uses d xs) l)) (λ r. ⊎_elim (λ l. inl (or_right (by_statement (channel d) x) (uses d xs) l)) (λ s. inr s) (uses_either xs ys r)) (or_cases (by_statement (channel d) x) (uses d (xs ++ ys)) h)

  pub uses_first : (xs ys : List kernel.Statement) → IsTrue (uses d xs) → IsTrue (uses d (xs ++ ys))
  uses_first [] ys h = never h refl
  uses_first (x ∷ xs) ys h =
      ⊎_elim (λ l. or_left (by_statement (channel d) x) (uses d (xs ++ ys)) l) (λ r. or_right (by_statement (channel d) x) (uses d (xs ++ ys)) (uses_first xs ys r)) (or_cases (by_statement (channel d) x) (uses d xs) h)

  pub uses_second : (xs ys : List kernel.Statement) → IsTrue (uses d ys) → IsTrue (uses d (xs ++ ys))
  uses_second [] ys h = h
  uses_second (x ∷ xs) ys h = or_right (by_statement (channel d) x) (uses d (xs ++ ys)) (uses_second xs ys h)

  pub holds_either : (xs ys : List kernel.Statement) → IsTrue (holds d (xs ++ ys)) → IsTrue (holds d xs) ⊎ IsTrue (holds d ys)
  holds_either [] ys h = inr h
  holds_either (x ∷ xs) ys h =
      ⊎_elim (λ l. inl (or_left (nested_use d x) (holds d xs) l)) (λ r. ⊎_elim (λ l. inl (or_right (nested_use d x) (holds d xs) l)) (λ s. inr s) (holds_either xs ys r)) (or_cases (nested_use d x) (holds d (xs ++ ys)) h)

  pub holds_first : (xs ys : List kernel.Statement) → IsTrue (holds d xs) → IsTrue (holds d (xs ++ ys))
  holds_first [] ys h = never h refl
  holds_first (x ∷ xs) ys h =
      ⊎_elim (λ l. or_left (nested_use d x) (holds d (xs ++ ys)) l) (λ r. or_right (nested_use d x) (holds d (xs ++ ys)) (holds_first xs ys r)) (or_cases (nested_use d x) (holds d xs) h)

  pub holds_second : (xs ys : List kernel.Statement) → IsTrue (holds d ys) → IsTrue (holds d (xs ++ ys))
  holds_second [] ys h = h
  holds_second (x ∷ xs) ys h = or_right (nested_use d x) (holds d (xs ++ ys)) (holds_second xs ys h)

  -- one statement uses what it uses
  pub by_one : (b : Bool) → IsTrue (b || false) → IsTrue b
  by_one true h = refl
  by_one false h = h

  -- behind an expression
  pub behind_expression : (e : kernel.Expression) (b : Bool) → IsTrue (by_expression (channel d) e || b) → IsTrue b
  behind_expression e b h = ⊎_elim (λ l. never l (no_expression d e)) (λ r. r) (or_cases (by_expression (channel d) e) b h)

  -- of two parts
  pub uses_two : (xs ys : List kernel.Statement) → IsTrue (uses d xs || uses d ys) → IsTrue (uses d (xs ++ ys))
  uses_two xs ys h = ⊎_elim (λ l. uses_first xs ys l) (λ r. uses_second xs ys r) (or_cases (uses d xs) (uses d ys) h)

  pub holds_two : (xs ys : List kernel.Statement) → IsTrue (holds d xs || holds d ys) → IsTrue (holds d (xs ++ ys))
  holds_two xs ys h = ⊎_elim (λ l. holds_first xs ys l) (λ r. holds_second xs ys r) (or_cases (holds d xs) (holds d ys) h)

  pub if_uses : (e : kernel.Expression) (xs ys : List kernel.Statement) → IsTrue (uses d (kernel.if_then e (kernel.statements xs) (kernel.statements ys) ∷ [])) → IsTrue (uses d (xs ++ ys))
  if_uses e xs ys h = uses_two xs ys (behind_expression e _ (by_one _ h))

  pub if_holds : (e : kernel.Expression) (xs ys : List kernel.Statement) → IsTrue (holds d (kernel.if_then e (kernel.statements xs) (kernel.statements ys) ∷ [])) → IsTrue (holds d (xs ++ ys))
  if_holds e xs ys h = holds_two xs ys (by_one _ h)

  -- a loop in its blocks: what follows each turn, and the body, where nothing else uses the channel
  pub loop_uses : (c : Context) (path : Path) (test : kernel.Expression) (next body more : List kernel.Statement) → uses d more ≡ false →
      IsTrue (uses d (block_at c path (kernel.loop test (kernel.statements (block_at c (path_of_turn path) body ∷ more)) (kernel.statements next) ∷ []) ∷ [])) → IsTrue (uses d (next ++ body))
  loop_uses c path test next body more none h =
      ⊎_elim (λ l. uses_second next body (⊎_elim (λ b. b) (λ m. never m none) (or_cases (uses d body) (uses d more) l))) (λ r. uses_first next body r) (or_cases _ (uses d next) (behind_expression test _ (by_one _ (by_one _ h))))

  pub loop_holds : (c : Context) (path : Path) (test : kernel.Expression) (next body more : List kernel.Statement) → holds d more ≡ false →
      IsTrue (holds d (block_at c path (kernel.loop test (kernel.statements (block_at c (path_of_turn path) body ∷ more)) (kernel.statements next) ∷ []) ∷ [])) → IsTrue (holds d (next ++ body))
  loop_holds c path test next body more none h =
      ⊎_elim (λ l. holds_second next body (⊎_elim (λ b. b) (λ m. never m none) (or_cases (holds d body) (holds d more) l))) (λ r. holds_first next body r) (or_cases _ (holds d next) (by_one _ (by_one _ h)))

-- Channels and names.

abbrev pub is_chan : Entity → Bool
is_chan (a_channel path) = true
is_chan other = false

module _ (q : Numbering) where
  abbrev pub number : Path → ℕ
  number path = channel_number q path

  -- the numbers of channels that are made
  abbrev pub made : List Chan → List ℕ
  made [] = []
  made (x ∷ xs) = channel_number q x.path ∷ made xs

  pub made_left : (d : ℕ) (xs ys : List Chan) → In d (made xs) → In d (made (xs ++ ys))
  made_left d [] ys h = absurd h
  made_left d (x ∷ xs) ys (inl e) = inl e
  made_left d (x ∷ xs) ys (inr h) = inr (made_left d xs ys h)

  pub made_right : (d : ℕ) (xs ys : List Chan) → In d (made ys) → In d (made (xs ++ ys))
  made_right d [] ys h = h
  made_right d (x ∷ xs) ys h = inr (made_right d xs ys h)

  once_left : (xs ys : List Chan) → Once (made (xs ++ ys)) → Once (made xs)
  once_left [] ys h = tt
  once_left (x ∷ xs) ys h = (λ i. h.0 (made_left (channel_number q x.path) xs ys i), once_left xs ys h.1)

  once_right : (xs ys : List Chan) → Once (made (xs ++ ys)) → Once (made ys)
  once_right [] ys h = h
  once_right (x ∷ xs) ys h = once_right xs ys h.1

  once_apart : (d : ℕ) (xs ys : List Chan) → Once (made (xs ++ ys)) → In d (made xs) → In d (made ys) → ⊥
  once_apart d [] ys h i j = i
  once_apart d (x ∷ xs) ys h (inl e) j = h.0 (made_right (channel_number q x.path) xs ys (subst (λ (z : ℕ). In z (made ys)) (sym e) j))
  once_apart d (x ∷ xs) ys h (inr i) j = once_apart d xs ys h.1 i j

  -- the channels that are made have numbers of their own, and others than those that are known
  pub record Room (ks : List ℕ) (ch : List Chan) : Type 0 where
    pub once : Once (made ch)
    pub apart : (d : ℕ) → In d ks → In d (made ch) → ⊥

  pub room_left : (ks : List ℕ) (xs ys : List Chan) → Room ks (xs ++ ys) → Room ks xs
  room_left ks xs ys r = record { once = once_left xs ys r.once; apart = λ d i j. r.apart d i (made_left d xs ys j) }

  pub room_right : (ks ms : List ℕ) (xs ys : List Chan) → ((d : ℕ) → In d ms → In d (made xs)) → Room ks (xs ++ ys) → Room (ks ++ ms) ys
  room_right ks ms xs ys f r = record {
    once = once_right xs ys r.once;
    apart = λ d i j. ⊎_elim (λ l. r.apart d l (made_right d xs ys j)) (λ m. once_apart d xs ys r.once (f d m) j) (in_either d ks ms i);
  }

  pub room_behind : (ks : List ℕ) (xs ys : List Chan) → Room ks (xs ++ ys) → Room ks ys
  room_behind ks xs ys r = record { once = once_right xs ys r.once; apart = λ d i j. r.apart d i (made_right d xs ys j) }

  pub no_room : (ks : List ℕ) (ch : List Chan) → Room ks ch → Room [] ch
  no_room ks ch r = record { once = r.once; apart = λ d i j. absurd i }

  -- the channels that names stand for are among these
  abbrev pub Scoped : List ℕ → Scope → Type 0
  Scoped ks scope = (t : List ℕ) (p : Path) → entity_of scope t ≡ a_channel p → In (number p) ks

  abbrev pub EntityIn : List ℕ → Entity → Type 0
  EntityIn ks x = (p : Path) → x ≡ a_channel p → In (number p) ks

  scoped_by : (ks : List ℕ) (b : Bool) (x y : Entity) → EntityIn ks x → EntityIn ks y → EntityIn ks (entity_by b x y)
  scoped_by ks true x y h g = h
  scoped_by ks false x y h g = g

  pub scoped_with : (ks : List ℕ) (scope : Scope) (name : List ℕ) (x : Entity) → EntityIn ks x → Scoped ks scope → Scoped ks (with_name scope name x)
  scoped_with ks scope name x h g t = scoped_by ks (bytes_eq name t) x (entity_of scope t) h (g t)

  pub no_channel : (ks : List ℕ) (x : Entity) → is_chan x ≡ false → EntityIn ks x
  no_channel ks x e p f = never (ap is_chan f) e

  abbrev pub NamedIn : List ℕ → List Path → Type 0
  NamedIn ks named = AllIn (λ p. In (number p) ks) named

  pub named_one : (ks : List ℕ) (x : Entity) → EntityIn ks x → NamedIn ks (channel_of x)
  named_one ks (a_channel p) h = (h p refl, tt)
  named_one ks (a_word p u) h = tt
  named_one ks (an_array p l u) h = tt
  named_one ks (an_element p i u) h = tt
  named_one ks (a_timer p) h = tt
  named_one ks (a_port k) h = tt
  named_one ks (a_constant v) h = tt
  named_one ks nothing_known h = tt

  pub is_named : (x : Entity) → is_chan x ≡ true → is_empty (channel_of x) ≡ false
  is_named (a_channel p) e = refl
  is_named (a_word p u) e = never e refl
  is_named (an_array p l u) e = never e refl
  is_named (an_element p i u) e = never e refl
  is_named (a_timer p) e = never e refl
  is_named (a_port k) e = never e refl
  is_named (a_constant v) e = never e refl
  is_named nothing_known e = never e refl

  -- what a transfer uses
  pub resource_in : (ks : List ℕ) (d : ℕ) (x : Entity) → EntityIn ks x → IsTrue (by_resource (channel d) (resource_of q x)) → In d ks
  resource_in ks d (a_channel p) h u = subst (λ (z : ℕ). In z ks) (sym (eqb-true d (number p) u)) (h p refl)
  resource_in ks d (a_word p u) h e = never e refl
  resource_in ks d (an_array p l u) h e = never e refl
  resource_in ks d (an_element p i u) h e = never e refl
  resource_in ks d (a_timer p) h e = never e refl
  resource_in ks d (a_port k) h e = never e refl
  resource_in ks d (a_constant v) h e = never e refl
  resource_in ks d nothing_known h e = never e refl

-- A name stands for a channel in the copy where it does in the text, and a called name for the function that it means.
module _ (n : NamedProgram) (fs : List Function) where
  abbrev pub AgreesAt : List ℕ → Option Decl → Entity → Type 0
  AgreesAt t o x = (is_chan x ≡ is_channel (what_of o)) × (is_some (function_of n (what_of o)) ≡ true → function_of n (what_of o) ≡ option_map head_of (function_named fs t))

  abbrev pub Agrees : Stack → Scope → Type 0
  Agrees st scope = (t : List ℕ) → AgreesAt t (found st t) (entity_of scope t)

  pub agrees_by : (b : Bool) (t : List ℕ) (d : Decl) (o : Option Decl) (x y : Entity) → AgreesAt t (Some d) x → AgreesAt t o y → AgreesAt t (decl_by b d o) (entity_by b x y)
  agrees_by true t d o x y h g = h
  agrees_by false t d o x y h g = g

  -- a declaration of no function
  abbrev pub Declared : Decl → Entity → Type 0
  Declared d x = (is_chan x ≡ is_channel (Some d.what)) × (is_some (function_of n (Some d.what)) ≡ false)

  pub declared_at : (t : List ℕ) (d : Decl) (x : Entity) → Declared d x → AgreesAt t (Some d) x
  declared_at t d x h = (h.0, λ e. never e h.1)

  pub agrees_with : (st : Stack) (scope : Scope) (d : Decl) (x : Entity) → Declared d x → Agrees st scope → Agrees (with_decl d st) (with_name scope d.name.text x)
  agrees_with [] scope d x h a t = agrees_by (bytes_eq d.name.text t) t d None x (entity_of scope t) (declared_at t d x h) (a t)
  agrees_with (f ∷ st) scope d x h a t = agrees_by (bytes_eq d.name.text t) t d (found (f ∷ st) t) x (entity_of scope t) (declared_at t d x h) (a t)

  module _ (q : Numbering) where
    -- A part of a copy in which these channels are known, with the sites of its text. In a transaction what it holds uses hidden
    -- channels alone.
    pub record Part (ks : List ℕ) (inside : Bool) (sites : List Site) (st : Stack) (ch : List Chan) (named : List Path) (scope : Scope) (code : List kernel.Statement) : Type 0 where
      pub agrees : Agrees st scope
      pub known : List ℕ
      pub hidden : List ℕ
      pub known_made : (d : ℕ) → In d known → In d (made q ch)
      pub hidden_made : (d : ℕ) → In d hidden → In d (made q ch)
      pub apart : (d : ℕ) → In d known → In d hidden → ⊥
      pub scoped : Scoped q (ks ++ known) scope
      pub names : NamedIn q (ks ++ known) named
      pub some : inside ≡ true → talks sites ≡ true → is_empty named ≡ false
      pub used : (d : ℕ) → IsTrue (uses d code) → In d (ks ++ known) ⊎ In d hidden
      pub held : inside ≡ true → (d : ℕ) → IsTrue (holds d code) → In d hidden
      pub tidy : AllTidy code

    abbrev pub PartOf : List ℕ → Bool → List Site → Stack → Copy → Type 0
    PartOf ks inside sites st copy = Part ks inside sites st copy.channels copy.named copy.scope copy.code

    -- what makes no channels and uses none
    pub no_use : (ks : List ℕ) (inside : Bool) (sites : List Site) (st : Stack) (scope : Scope) (code : List kernel.Statement) → Agrees st scope → Scoped q ks scope → talks sites ≡ false → ((d : ℕ) → uses d code ≡ false) → AllTidy code → Part ks inside sites st [] [] scope code
    no_use ks inside sites st scope code a s silent none t = record {
      agrees = a;
      known = [];
      hidden = [];
      known_made = λ d i. i;
      hidden_made = λ d i. i;
      apart = λ d i j. i;
      scoped = λ x p e. in_left (number q p) ks [] (s x p e);
      names = tt;
      some = λ e h. never h silent;
      used = λ d e. never e (none d);
      held = λ i d e. never (nested_are_used d (kernel.statements code) e) (none d);
      tidy = t;
    }

    -- one part behind another
    module _ (ks : List ℕ) (inside : Bool) (xs ys : List Site) (st su : Stack) (a b : Copy) (r : Room q ks (a.channels ++ b.channels)) (p : PartOf ks inside xs st a) (g : PartOf (ks ++ p.known) inside ys su b) where
      left_or_right : (ms ns : List ℕ) → ((d : ℕ) → In d ms → In d (made q a.channels)) → ((d : ℕ) → In d ns → In d (made q b.channels)) → (d : ℕ) → In d (ms ++ ns) → In d (made q (a.channels ++ b.channels))
      left_or_right ms ns f k d i = ⊎_elim (λ l. made_left q d a.channels b.channels (f d l)) (λ m. made_right q d a.channels b.channels (k d m)) (in_either d ms ns i)

      clash : (d : ℕ) → In d (made q a.channels) → In d (made q b.channels) → ⊥
      clash d i j = let s = room_right q ks (made q a.channels) a.channels b.channels (λ x k. k) r in s.apart d (in_right d ks (made q a.channels) i) j

      all_apart : (d : ℕ) → In d (p.known ++ g.known) → In d (p.hidden ++ g.hidden) → ⊥
      all_apart d i j =
          ⊎_elim (λ k. ⊎_elim (λ h. p.apart d k h) (λ h. clash d (p.known_made d k) (g.hidden_made d h)) (in_either d p.hidden g.hidden j))
          (λ k. ⊎_elim (λ h. clash d (p.hidden_made d h) (g.known_made d k)) (λ h. g.apart d k h) (in_either d p.hidden g.hidden j)) (in_either d p.known g.known i)

      named_some : inside ≡ true → (talks xs ≡ true) ⊎ (talks ys ≡ true) → is_empty (a.named ++ b.named) ≡ false
      named_some i (inl t) = first a.named b.named (p.some i t)
        where
          first : (us vs : List Path) → is_empty us ≡ false → is_empty (us ++ vs) ≡ false
          first [] vs e = absurd (true≢false e)
          first (u ∷ us) vs e = refl
      named_some i (inr t) = second a.named b.named (g.some i t)
        where
          second : (us vs : List Path) → is_empty vs ≡ false → is_empty (us ++ vs) ≡ false
          second [] vs e = e
          second (u ∷ us) vs e = refl

      pub part_both : PartOf ks inside (xs ++ ys) su (joined a b)
      part_both = record {
        agrees = g.agrees;
        known = p.known ++ g.known;
        hidden = p.hidden ++ g.hidden;
        known_made = left_or_right p.known g.known p.known_made g.known_made;
        hidden_made = left_or_right p.hidden g.hidden p.hidden_made g.hidden_made;
        apart = all_apart;
        scoped = λ t c e. in_again (number q c) ks p.known g.known (g.scoped t c e);
        names = both (λ c. In (number q c) (ks ++ (p.known ++ g.known))) a.named b.named (weaker (λ c. In (number q c) (ks ++ p.known)) (λ c. In (number q c) (ks ++ (p.known ++ g.known))) a.named (λ c i. in_more (number q c) ks p.known g.known i) p.names)
            (weaker (λ c. In (number q c) ((ks ++ p.known) ++ g.known)) (λ c. In (number q c) (ks ++ (p.known ++ g.known))) b.named (λ c i. in_again (number q c) ks p.known g.known i) g.names);
        some = λ i t. named_some i (talks_both xs ys t);
        used = λ d e.
            ⊎_elim (λ l. ⊎_elim (λ i. inl (in_more d ks p.known g.known i)) (λ j. inr (in_left d p.hidden g.hidden j)) (p.used d l))
            (λ m. ⊎_elim (λ i. inl (in_again d ks p.known g.known i)) (λ j. inr (in_right d p.hidden g.hidden j)) (g.used d m)) (uses_either d a.code b.code e);
        held = λ i d e. ⊎_elim (λ l. in_left d p.hidden g.hidden (p.held i d l)) (λ m. in_right d p.hidden g.hidden (g.held i d m)) (holds_either d a.code b.code e);
        tidy = tidy_both a.code b.code p.tidy g.tidy;
      }

    -- with other code that uses no more
    pub recoded : {ks : List ℕ} {inside : Bool} {sites : List Site} {st : Stack} {ch : List Chan} {named : List Path} {scope : Scope} {code : List kernel.Statement} (other : List kernel.Statement) → Part ks inside sites st ch named scope code →
        ((d : ℕ) → IsTrue (uses d other) → IsTrue (uses d code)) → ((d : ℕ) → IsTrue (holds d other) → IsTrue (holds d code)) → AllTidy other → Part ks inside sites st ch named scope other
    recoded other p u h t = record {
      agrees = p.agrees;
      known = p.known;
      hidden = p.hidden;
      known_made = p.known_made;
      hidden_made = p.hidden_made;
      apart = p.apart;
      scoped = p.scoped;
      names = p.names;
      some = p.some;
      used = λ d e. p.used d (u d e);
      held = λ i d e. p.held i d (h d e);
      tidy = t;
    }

    -- where its scope ends
    pub rescoped : {ks : List ℕ} {inside : Bool} {sites : List Site} {su : Stack} {ch : List Chan} {named : List Path} {inner : Scope} {code : List kernel.Statement} (st : Stack) (scope : Scope) → Part ks inside sites su ch named inner code → Agrees st scope → Scoped q ks scope →
        Part ks inside sites st ch named scope code
    rescoped {ks = ks} st scope p a s = record {
      agrees = a;
      known = p.known;
      hidden = p.hidden;
      known_made = p.known_made;
      hidden_made = p.hidden_made;
      apart = p.apart;
      scoped = λ t c e. in_left (number q c) ks p.known (s t c e);
      names = p.names;
      some = p.some;
      used = p.used;
      held = p.held;
      tidy = p.tidy;
    }

    -- with other sites, that talk no more
    pub resited : {ks : List ℕ} {inside : Bool} {xs : List Site} {st : Stack} {ch : List Chan} {named : List Path} {scope : Scope} {code : List kernel.Statement} (ys : List Site) → Part ks inside xs st ch named scope code → (talks ys ≡ true → talks xs ≡ true) → Part ks inside ys st ch named scope code
    resited ys p f = record {
      agrees = p.agrees;
      known = p.known;
      hidden = p.hidden;
      known_made = p.known_made;
      hidden_made = p.hidden_made;
      apart = p.apart;
      scoped = p.scoped;
      names = p.names;
      some = λ i t. p.some i (f t);
      used = p.used;
      held = p.held;
      tidy = p.tidy;
    }

    pub silent_before : (xs ys : List Site) → talks xs ≡ false → talks (xs ++ ys) ≡ true → talks ys ≡ true
    silent_before xs ys e t = ⊎_elim (λ l. never l e) (λ r. r) (talks_both xs ys t)

    pub silent_behind : (xs ys : List Site) → talks ys ≡ false → talks (xs ++ ys) ≡ true → talks xs ≡ true
    silent_behind xs ys e t = ⊎_elim (λ l. l) (λ r. never r e) (talks_both xs ys t)

    pub at_stack : {ks : List ℕ} {inside : Bool} {xs : List Site} {ch : List Chan} {named : List Path} {scope : Scope} {code : List kernel.Statement} (st su : Stack) → st ≡ su → Part ks inside xs st ch named scope code → Part ks inside xs su ch named scope code
    at_stack {ks = ks} {inside = inside} {xs = xs} {ch = ch} {named = named} {scope = scope} {code = code} st su e p = subst (λ (z : Stack). Part ks inside xs z ch named scope code) e p
