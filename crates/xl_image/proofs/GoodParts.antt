-- The image can be loaded.
use Rattle.std.proofs.Common.{◌≡◌, ◌∙◌, ◌⊎◌, ⊎_elim, ℕ, suc, ◌+◌, ◌<◌, ◌≤◌, Bool, true, false, List, [], ◌∷◌, length, map, sym, ap, subst, arith, length-append}
use Rattle.std.proofs.lemmas.List.{length-map}
use Rattle.std.specs.Prelude.{cond, filter}
use Rattle.std.specs.List.{All}
use Rattle.std.proofs.lemmas.List.Elements.{All-head, All-tail, filter_passes}
use Rattle.xs_instr.specs.declared.image.CoreImage.{CoreImage}
use Rattle.xs_instr.specs.declared.image.Image.{Image}
use Rattle.xs_instr.specs.Lines.{Line, instr_of, pos_of}
use Rattle.xs_instr.specs.Valid.{AreGoodCores, AreGoodInstrs, AreGoodPairs, AreGoodPorts, AreIndices, IsGoodCore, IsNewPort, Valid, times_named}
use Rattle.xc_kernel.specs.declared.kernel.PortUse.{PortUse}
use Rattle.xc_kernel.specs.Plain as kernel
use Rattle.xc_disjoint.specs.Checked.{IsChecked}
use Rattle.xc_disjoint.specs.Cores.{last_core}
use Rattle.xc_disjoint.specs.Needs.{timers_on}
use Rattle.xc_disjoint.specs.Rules.{most_threads, most_timers, needs, timers}
use Rattle.xl_expr.specs.declared.plan.Plan.{Plan}
use Rattle.xl_expr.proofs.GoodCode.{good_instrs}
use Rattle.xl_plan.specs.Planned as planned
use Rattle.xl_plan.specs.Planned.{ports_on}
use Rattle.xl_plan.proofs.Ends.{ends_are_used, few_ends}
use Rattle.xl_plan.proofs.PortsDiffer.{ports_apart}
use Rattle.xl_plan.proofs.Sizes.{few_words}
use Rattle.xl_ends.specs.Ends.{Sides}
use Rattle.xl_image.specs.Images.{SidedRoot, decl_of, pairs_below, roots_on, sided_on, sided_roots}
use Rattle.xl_image.specs.Roots.{AreRoots, IsRootCode}
use Rattle.xl_image.specs.Parts.{IsPartOf, below, cores_of, has_root, is_some_root, number_of}
use Rattle.xl_image.proofs.GoodPairs.{all_good, named_once}
use Rattle.xl_image.proofs.Sided.{as_many_there}
use Rattle.xl_image.proofs.Threads.{few_threads, roots_have_threads}

module _ (k : kernel.Kernel) (core : ℕ) (plan : Plan) where
  -- each root has an index
  pub as_many : (ss : List SidedRoot) (thread pc : ℕ) (lines : List Line) (entries : List ℕ) → AreRoots k core plan ss thread pc lines entries → length entries ≡ length ss
  as_many [] thread pc lines entries h = ap length h.1
  as_many (s ∷ ss) thread pc lines entries h = ap length h.entry ∙ ap suc (as_many ss (suc thread) (pc + length h.first) h.others h.later h.others_are)

  -- its code has some instruction
  some_line : (sides : Sides) (word : ℕ) (r : kernel.Root) (pc : ℕ) (lines : List Line) → IsRootCode plan sides word r pc lines → 1 ≤ length lines
  some_line sides word r pc lines h = let l = ap length h.is in omega (arith, l)

  indices : (ss : List SidedRoot) (thread pc : ℕ) (lines : List Line) (entries : List ℕ) (size : ℕ) → AreRoots k core plan ss thread pc lines entries → pc + length lines ≤ size → AreIndices size entries
  indices [] thread pc lines entries size h le = subst (AreIndices size) (sym h.1) tt
  indices (s ∷ ss) thread pc lines entries size h le =
      let n = ap length h.is ∙ length-append h.first h.others in
      let one = some_line _ _ s.root pc h.first h.first_is in
      subst (AreIndices size) (sym h.entry)
      (omega (arith, n, one, le), indices ss (suc thread) (pc + length h.first) h.others h.later size h.others_are (omega (arith, n, le)))

within_or_not : (n most : ℕ) → (n ≤ most) ⊎ (most < n)
within_or_not n most = grind arith

module _ (k : kernel.Kernel) (checked : IsChecked k) (core : ℕ) (is_core : core ≤ last_core) where
  pub few_timers : timers_on k core ≤ most_timers
  few_timers =
      ⊎_elim (λ le. le)
      (λ lt. absurd (checked.unbroken _ (needs (timers (record { core = core; is_core = is_core; more = lt })))))
      (within_or_not (timers_on k core) most_timers)

  pub few_roots_on : length (roots_on core k.roots) ≤ most_threads
  few_roots_on = let t = few_threads k checked core is_core in let e = roots_have_threads core k.roots in omega (arith, t, e)

  some_there : (rs : List kernel.Root) → is_some_root rs ≡ true → 1 ≤ length rs
  some_there [] e = absurd (let q : false ≡ true = e in cc)
  some_there (r ∷ rs) e = omega arith

  pub good_core : (part : CoreImage) → IsPartOf k core part → has_root k core ≡ true → AreGoodPorts part.ports → IsGoodCore part
  good_core part is rooted ports =
      let code = is.code in
      let many = as_many k core code.plan (sided_on core (sided_roots k)) 0 0 code.lines part.roots code.roots ∙ as_many_there k core in
      let instrs : length part.code.instrs ≡ length code.lines = ap length code.instrs ∙ length-map code.lines instr_of in
      let places : length part.code.«at» ≡ length code.lines = ap length code.places ∙ length-map code.lines pos_of in
      record {
        words = let w = few_words k core checked is_core in let e = is.words in omega (arith, w, e);
        timers = let w = few_timers in let e = is.timers in omega (arith, w, e);
        ends = let e = is.ends in let n = ends_are_used k core checked in let f = few_ends k core checked is_core in omega (arith, e, n, f);
        ports = ports;
        some_root = let s = some_there (roots_on core k.roots) rooted in omega (arith, many, s);
        few_roots = let t = few_threads k checked core is_core in let e = roots_have_threads core k.roots in omega (arith, many, t, e);
        few = let f = code.few in omega (arith, f, instrs);
        places = places ∙ sym instrs;
        roots = indices k core code.plan (sided_on core (sided_roots k)) 0 0 code.lines part.roots (length part.code.instrs) code.roots (omega (arith, instrs));
        code = subst (λ is. AreGoodInstrs (length part.code.instrs) 0 is) (sym code.instrs) (good_instrs (length part.code.instrs) 0 code.lines (code.alone.by (length part.code.instrs) (omega (arith, instrs))));
      }

-- Ports.

new_port : (id : ℕ) (ps : List PortUse) → planned.IsNewPort id ps → IsNewPort id (map decl_of ps)
new_port id [] h = tt
new_port id (p ∷ ps) h = (h.0, new_port id ps h.1)

good_ports : (ps : List PortUse) → planned.ArePortsApart ps → AreGoodPorts (map decl_of ps)
good_ports [] h = tt
good_ports (p ∷ ps) h = (h.0, new_port p.id ps h.1, good_ports ps h.2)

-- All parts.

abbrev Ascend : ℕ → List ℕ → Type 0
Ascend n [] = Unit {0}
Ascend n (m ∷ ms) = (n ≤ m) × (m < 4) × Ascend (m + 1) ms

ascend_from : (n m : ℕ) → n ≤ m → (ms : List ℕ) → Ascend m ms → Ascend n ms
ascend_from n m le [] h = tt
ascend_from n m le (x ∷ ms) h = (let a = h.0 in omega (arith, le, a), h.1, h.2)

ascend_by : (n m : ℕ) (ms kept : List ℕ) → Ascend n (m ∷ ms) → Ascend (m + 1) kept → (b : Bool) → Ascend n (cond b (m ∷ kept) kept)
ascend_by n m ms kept h others true = (h.0, h.1, others)
ascend_by n m ms kept h others false = ascend_from n (m + 1) (let a = h.0 in omega (arith, a)) kept others

ascend_filtered : (p : ℕ → Bool) (n : ℕ) (ms : List ℕ) → Ascend n ms → Ascend n (filter p ms)
ascend_filtered p n [] h = tt
ascend_filtered p n (m ∷ ms) h = ascend_by n m ms (filter p ms) h (ascend_filtered p (m + 1) ms h.2) (p m)

-- each number of a filtered list passes
passes : (p : ℕ → Bool) (ms : List ℕ) → All (λ m. p m ≡ true) (filter p ms)
passes p ms = filter_passes p ms

module _ (k : kernel.Kernel) (checked : IsChecked k) where
  abbrev AreParts : List CoreImage → Type 0
  AreParts = All (λ (part : CoreImage). IsPartOf k part.number part)

  cons_parts : {A : Type 0} {a b : A} {xs ys : List A} → a ∷ xs ≡ b ∷ ys → (a ≡ b) × (xs ≡ ys)
  cons_parts e = (cc, cc)

  good_cores : (n : ℕ) (ns : List ℕ) (cores : List CoreImage) → map number_of cores ≡ ns → Ascend n ns → All (λ m. has_root k m ≡ true) ns → AreParts cores → AreGoodCores n cores
  good_cores n ns [] e up rooted parts = tt
  good_cores n [] (part ∷ cores) e up rooted parts = absurd cc
  good_cores n (m ∷ ms) (part ∷ cores) e up rooted parts =
      let es = cons_parts e in
      let least : n ≤ part.number = let a = up.0 in let b = es.0 in omega (arith, a, b) in
      let most : part.number < 4 = let a = up.1 in let b = es.0 in omega (arith, a, b) in
      let has : has_root k part.number ≡ true = subst (λ c. has_root k c ≡ true) (sym es.0) (All-head (λ c. has_root k c ≡ true) m ms rooted) in
      let is = All-head (λ (p : CoreImage). IsPartOf k p.number p) part cores parts in
      let apart = ports_apart k part.number (omega (arith, most)) checked.of_program in
      let ports = subst AreGoodPorts (sym is.ports) (good_ports (ports_on part.number k.ports) apart) in
      let one = good_core k checked part.number (omega (arith, most)) part is has ports in
      let others = good_cores (m + 1) ms cores es.1 up.2 (All-tail (λ c. has_root k c ≡ true) m ms rooted) (All-tail (λ (p : CoreImage). IsPartOf k p.number p) part cores parts) in
      (least, most, one, subst (λ c. AreGoodCores (c + 1) cores) (sym es.0) others)

  -- The image can be loaded.
  pub valid_image : (image : Image) → 1 ≤ length (cores_of k) → map number_of image.cores ≡ cores_of k → AreParts image.cores → image.chans ≡ pairs_below k (length k.channels) → Valid image
  valid_image image some numbers parts channels = record {
    some_core = let l = sym (length-map image.cores number_of) ∙ ap length numbers in omega (arith, l, some);
    cores = good_cores 0 (cores_of k) image.cores numbers (ascend_filtered (has_root k) 0 (below 4) ((omega arith, omega arith, (omega arith, omega arith, (omega arith, omega arith, (omega arith, omega arith, tt)))))) (passes (has_root k) (below 4)) parts;
    pairs = subst (AreGoodPairs image.cores) (sym channels) (all_good k checked image.cores numbers parts (length k.channels) (omega arith));
    once = λ c e there. ap (λ ps. times_named ps c e) channels ∙ named_once k checked image.cores numbers parts c e there;
  }
