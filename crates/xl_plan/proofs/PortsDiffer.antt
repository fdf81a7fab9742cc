-- The ports of a core of a checked kernel have differing identifiers.
use Rattle.std.proofs.Common.{◌≡◌, ◌≢◌, ◌≤◌, ◌<◌, inl, inr, ℕ, zero, suc, ◌+◌, Bool, true, false, cond, if◌then◌else◌, List, [], ◌∷◌, length, map, Contains, Option, None, Some, slice_get, slice_index_or, bytes_eq, nat_eq, refl, sym, ap, subst, ◌∙◌, true≢false, arith}
use Rattle.std.proofs.lemmas.Slice.Eq.{bytes_eq-Decides}
use Rattle.xw_words.specs.Ports.{identifiers, port_count}
use Rattle.xw_words.specs.Tables.{place_from, place_in}
use Rattle.xw_words.specs.declared.pos.Broken.{Broken}
use Rattle.xc_tree.specs.declared.names.Decl.{Decl}
use Rattle.xc_tree.specs.Plain as tree
use Rattle.xc_tree.specs.Names.Marks as marks
use Rattle.xc_tree.specs.Names.Ports as names
use Rattle.xc_tree.specs.Names.Ports.{core_of_port}
use Rattle.xc_tree.specs.Names.Rules.{Breaks, wrong_port}
use Rattle.xc_tree.specs.Types.Named.{NamedProgram}
use Rattle.xc_tree.specs.Types.Sites as site
use Rattle.xc_kernel.specs.declared.kernel.PortUse.{PortUse}
use Rattle.xc_kernel.specs.Plain as kernel
use Rattle.xc_kernel.specs.Programs.{ports}
use Rattle.xc_kernel.specs.Ports.{port_at, port_use}
use Rattle.xc_kernel.specs.Copies.{copy_of}
use Rattle.xc_kernel.specs.Sound.{IsOfProgram, IsTyped}
use Rattle.xc_wellformed.specs.Stacks.{Frame, outer}
use Rattle.xc_wellformed.proofs.Outside.{Among, bottom}
use Rattle.xc_wellformed.proofs.Resolved.{names_resolve, outer_differ}
use Rattle.xc_wellformed.proofs.Walk.Arguments.{AllIn}
use Rattle.xl_plan.specs.Planned.{ports_on, IsNewPort, ArePortsApart}
use Rattle.xl_plan.proofs.Lists.{some_given, none_given}
use Rattle.xl_plan.proofs.PortPlaces.{IsFinePlace, PlaceValued, ports_valued, none_index, outer_not_index, fine_places, core_is}

eq_from : (a b : ℕ) → nat_eq a b ≡ true → a ≡ b
eq_from a b e = grind arith

-- a row of a table, by its place
module _ (w : List ℕ) where
  pub record Row (k : ℕ) (xs : List (List ℕ)) (m : ℕ) : Type 0 where
    pub place : ℕ
    pub is : m ≡ k + place
    pub there : slice_get xs place ≡ Some w
    pub below : place < length xs

  row_by : (b : Bool) (k : ℕ) (x : List ℕ) (xs : List (List ℕ)) (m : ℕ) → bytes_eq x w ≡ b → (if b then Some k else place_from (k + 1) xs w) ≡ Some m → (place_from (k + 1) xs w ≡ Some m → Row (k + 1) xs m) → Row k (x ∷ xs) m
  row_by true k x xs m e f next = record { place = 0; is = sym (some_given f) ∙ (let q : k ≡ k + 0 = omega arith in q); there = ap (λ z. Some z) ((bytes_eq-Decides x w).0 e); below = omega arith }
  row_by false k x xs m e f next =
      let r = next f in
      let b = r.below in
      record { place = suc r.place; is = r.is ∙ (let q : (k + 1) + r.place ≡ k + suc r.place = omega arith in q); there = r.there; below = omega arith }

  row : (k : ℕ) (xs : List (List ℕ)) (m : ℕ) → place_from k xs w ≡ Some m → Row k xs m
  unfolding place_from
  row k [] m e = absurd (none_given e)
  row k (x ∷ xs) m e = row_by (bytes_eq x w) k x xs m refl e (row (k + 1) xs m)

  no_row_by : (b : Bool) (k : ℕ) (x : List ℕ) (xs : List (List ℕ)) → bytes_eq x w ≡ b → (if b then Some k else place_from (k + 1) xs w) ≡ None → (place_from (k + 1) xs w ≡ None → Contains xs w → ⊥) → Contains (x ∷ xs) w → ⊥
  no_row_by true k x xs e f next c = none_given (sym f)
  no_row_by false k x xs e f next c = by c.0 c.1 c.2
    where
      by : (j : ℕ) → j < length (x ∷ xs) → slice_index_or (x ∷ xs) j w ≡ w → ⊥
      by zero lt is = true≢false (sym ((bytes_eq-Decides x w).1 is) ∙ e)
      by (suc j) lt is = next f (j, omega arith, is)

  no_row : (k : ℕ) (xs : List (List ℕ)) → place_from k xs w ≡ None → Contains xs w → ⊥
  unfolding place_from
  no_row k [] e c = let lt = c.1 in absurd (let q : ⊥ = omega arith in q)
  no_row k (x ∷ xs) e c = no_row_by (bytes_eq x w) k x xs refl e (no_row (k + 1) xs) c

-- an identifier is one of the table
pub record Identified (w : List ℕ) : Type 0 where
  pub place : ℕ
  pub is : port_at (place_in identifiers w) ≡ place
  pub there : slice_get identifiers place ≡ Some w
  pub below : place < port_count

identified_by : (w : List ℕ) (o : Option ℕ) → place_in identifiers w ≡ o → ((Contains identifiers w → ⊥) → ⊥) → Identified w
unfolding identifiers
identified_by w None e h = absurd (h (no_row w 0 identifiers e))
identified_by w (Some m) e h =
    let r = row w 0 identifiers m e in
    let same : m ≡ r.place = r.is ∙ (let q : 0 + r.place ≡ r.place = omega arith in q) in
    record { place = r.place; is = ap port_at e ∙ same; there = r.there; below = r.below }

module _ (P : List tree.Item) (n : NamedProgram) (unbroken : (b : Broken) → Breaks P b → ⊥) (core : ℕ) (is_core : core ≤ 3) where
  identified : (i : ℕ) (p : tree.Port) → slice_get (names.ports P) i ≡ Some p → Identified p.ident.text
  identified i p there = identified_by p.ident.text (place_in identifiers p.ident.text) refl
      (λ h. unbroken (record { rule = 303; pos = p.ident.pos }) (wrong_port (record { at = i; port = p; there = there; wrong = inl h; place = refl })))

  abbrev There : ℕ → List tree.Port → Type 0
  There i ps = (j : ℕ) (p : tree.Port) → slice_get ps j ≡ Some p → slice_get (names.ports P) (i + j) ≡ Some p

  next_there : (i : ℕ) (p : tree.Port) (ps : List tree.Port) → There i (p ∷ ps) → There (i + 1) ps
  next_there i p ps h j q e = ap (slice_get (names.ports P)) (let s : (i + 1) + j ≡ i + suc j = omega arith in s) ∙ h (suc j) q e

  first_there : (i : ℕ) (p : tree.Port) (ps : List tree.Port) → There i (p ∷ ps) → slice_get (names.ports P) i ≡ Some p
  first_there i p ps h = ap (slice_get (names.ports P)) (let s : i ≡ i + 0 = omega arith in s) ∙ h 0 p refl

  abbrev PortValued : tree.Port → Type 0
  PortValued p = PlaceValued n p.place

  -- two ports of the core with one identifier
  not_both : (i j : ℕ) (p q : tree.Port) → i < j → slice_get (names.ports P) i ≡ Some p → slice_get (names.ports P) j ≡ Some q → PortValued p → PortValued q → (port_use p).core ≡ core → (port_use q).core ≡ core → (port_use p).id ≡ (port_use q).id → ⊥
  not_both i j p q lt at_p at_q vp vq cp cq same =
      let a = identified i p at_p in
      let b = identified j q at_q in
      let places : a.place ≡ b.place = sym a.is ∙ same ∙ b.is in
      let texts : p.ident.text ≡ q.ident.text = some_given (sym a.there ∙ ap (slice_get identifiers) places ∙ b.there) in
      unbroken (record { rule = 303; pos = q.ident.pos }) (wrong_port (record {
        at = j;
        port = q;
        there = at_q;
        wrong = inr (record { other = i; earlier = lt; port_before = p; there = at_p; one_identifier = texts; core = core; its_core = core_is n q.place core vq cq is_core; one_core = core_is n p.place core vp cp is_core });
        place = refl;
      }))

  new_by : (b : Bool) (id : ℕ) (q : PortUse) (qs : List PortUse) → (b ≡ true → id ≢ q.id) → IsNewPort id qs → IsNewPort id (cond b (q ∷ qs) qs)
  new_by true id q qs h g = (h refl, g)
  new_by false id q qs h g = g

  new_among : (i : ℕ) (p : tree.Port) → slice_get (names.ports P) i ≡ Some p → PortValued p → (port_use p).core ≡ core → (j : ℕ) (qs : List tree.Port) → i < j → There j qs → AllIn PortValued qs → IsNewPort (port_use p).id (ports_on core (map port_use qs))
  new_among i p at_p vp cp j [] lt there v = tt
  new_among i p at_p vp cp j (q ∷ qs) lt there v =
      new_by (nat_eq (port_use q).core core) (port_use p).id (port_use q) (ports_on core (map port_use qs))
      (λ e same. not_both i j p q lt at_p (first_there j q qs there) vp v.0 cp (eq_from (port_use q).core core e) same)
      (new_among i p at_p vp cp (j + 1) qs (omega arith) (next_there j q qs there) v.1)

  apart_by : (b : Bool) (q : PortUse) (qs : List PortUse) → (b ≡ true → (q.id < port_count) × IsNewPort q.id qs) → ArePortsApart qs → ArePortsApart (cond b (q ∷ qs) qs)
  apart_by true q qs h g = let x = h refl in (x.0, x.1, g)
  apart_by false q qs h g = g

  apart : (i : ℕ) (ps : List tree.Port) → There i ps → AllIn PortValued ps → ArePortsApart (ports_on core (map port_use ps))
  apart i [] there v = tt
  apart i (p ∷ ps) there v =
      let at_p = first_there i p ps there in
      let known = identified i p at_p in
      let small : (port_use p).id < port_count = subst (λ m. m < port_count) (sym known.is) known.below in
      apart_by (nat_eq (port_use p).core core) (port_use p) (ports_on core (map port_use ps))
      (λ e. (small, new_among i p at_p v.0 (eq_from (port_use p).core core e) (i + 1) ps (omega arith) (next_there i p ps there) v.1))
      (apart (i + 1) ps (next_there i p ps there) v.1)

-- the ports of a program by both definitions
same_ports : (items : List tree.Item) → ports items ≡ names.ports items
same_ports [] = refl
same_ports (tree.port p ∷ items) = ap (λ (ps : List tree.Port). p ∷ ps) (same_ports items)
same_ports (tree.function h b ∷ items) = same_ports items

all_among : (xs ys : List Decl) → ((d : Decl) → Among d xs → Among d ys) → AllIn (λ d. Among d ys) xs
all_among [] ys h = tt
all_among (x ∷ xs) ys h = (h x (inl refl), all_among xs ys (λ d a. h d (inr a)))

program_ports : (P : List tree.Item) (n : NamedProgram) (types : List Bool) → IsTyped P n types → AllIn (λ (p : tree.Port). PlaceValued n p.place) (names.ports P)
unfolding site.sites
program_ports P n types typed =
    let gs : Frame = outer 0 (marks.of_items 0 P) in
    ports_valued n P 0 0 gs gs (outer_differ P n types typed) (bottom (λ t. refl)) (all_among gs gs (λ d a. a)) (λ t. none_index n gs t (outer_not_index n P 0)) (names_resolve P n types typed)
    (subst (λ (items : List tree.Item). AllIn (IsFinePlace n) (site.of_items n 0 0 items)) typed.is_named.program_is (fine_places n typed.types_and_shapes))

of_copy : (P : List tree.Item) (n : NamedProgram) (types : List Bool) (core : ℕ) → core ≤ 3 → IsTyped P n types → ArePortsApart (ports_on core (copy_of P).ports)
unfolding copy_of
of_copy P n types core is_core typed =
    subst (λ (ps : List tree.Port). ArePortsApart (ports_on core (map port_use ps))) (sym (same_ports P))
    (apart P n typed.names core is_core 0 (names.ports P) (λ j p e. ap (slice_get (names.ports P)) (let s : 0 + j ≡ j = omega arith in s) ∙ e) (program_ports P n types typed))

-- so of a program's kernel
pub ports_apart : (k : kernel.Kernel) (core : ℕ) → core ≤ 3 → IsOfProgram k → ArePortsApart (ports_on core k.ports)
ports_apart k core is_core o =
    subst (λ (K : kernel.Kernel). ArePortsApart (ports_on core K.ports)) (sym o.copies.is_copy) (of_copy o.program o.sound.named o.sound.types core is_core o.sound.typed)
