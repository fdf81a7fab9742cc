-- Each function of a typed program stands in the scope of what is declared outside of functions.
use Rattle.std.proofs.Common.{◌≡◌, ℕ, suc, ◌+◌, Bool, true, false, List, [], ◌∷◌, ◌++◌, slice_get, bytes_eq, Option, None, Some, option_map, refl, sym, ap, subst, ◌∙◌, arith}
use Rattle.std.proofs.lemmas.Slice.Eq.{bytes_eq-Decides}
use Rattle.xw_words.specs.declared.pos.Pos.{Pos}
use Rattle.xc_tree.specs.declared.names.Decl.{Decl}
use Rattle.xc_tree.specs.declared.names.What.TheVariants as what
use Rattle.xc_tree.specs.declared.names.Mark.TheVariants.{Closes, Declares}
use Rattle.xc_tree.specs.Plain as tree
use Rattle.xc_tree.specs.Names.Marks as marks
use Rattle.xc_tree.specs.Types.Named.{NamedProgram, what_of, function_of, past}
use Rattle.xc_tree.specs.Types.Sites as site
use Rattle.xc_kernel.specs.Plain as kernel
use Rattle.xc_kernel.specs.declared.kernel.PortUse.{PortUse}
use Rattle.xc_kernel.specs.Paths.{Path}
use Rattle.xc_kernel.specs.Numbering.{Numbering}
use Rattle.xc_kernel.specs.Scopes.{Entity, a_port, nothing_known, entity_by, entity_of}
use Rattle.xc_kernel.specs.Programs.{Function, functions, ports, function_by, function_named}
use Rattle.xc_kernel.specs.Ports.{scope_of_ports}
use Rattle.xc_wellformed.specs.Stacks.{Frame, Stack, decl_by, found_in, after, Resolves, outer}
use Rattle.xc_wellformed.specs.Denotes.{IsInstance, HasPort, head_of, Denotes, the_port, the_function, none_there}
use Rattle.xc_meaning.proofs.Recursion.Scopes as scopes
use Rattle.xc_wellformed.proofs.Stacks.{resolves_both, scope_ends, quiet_skip, quiet_optional, quiet_place}
use Rattle.xc_wellformed.proofs.Resolved.{NotNamed, AllNew}
use Rattle.xc_wellformed.proofs.Outside.{Alike, further, alike_resolves, Among, declared_again, decl_of_item, outer_item}
use Rattle.xc_wellformed.proofs.Walk.Arguments.{AllIn, split, IsFine}
use Rattle.xc_wellformed.proofs.Walk.Arguments as walk

module _ (n : NamedProgram) (fs : List Function) (ps : List PortUse) (num : Numbering) (H J : ℕ → Path → Type 0) (here : ℕ) (X V : tree.Expression → Type 0) (S : ℕ → Type 0) (E F : kernel.Expression → Type 0) (L : kernel.Place → Type 0) (Z : ℕ → Type 0) (O : kernel.Output → Type 0) (I : kernel.Input → Type 0) (T : ℕ → Type 0) where
  abbrev pub Right : Frame → Function → Type 0
  Right gs f = walk.FunctionRight n fs ps num H J here X V S E F L Z O I T gs f

  abbrev pub AllAmong : Frame → List Decl → Type 0
  AllAmong gs ds = AllIn (λ d. Among d gs) ds

  pub functions_right : (items : List tree.Item) (i k : ℕ) (a gs : Frame) → AllNew gs → Alike (a ∷ []) (gs ∷ []) → AllAmong gs (outer 0 (marks.of_items i items)) → Resolves n k (a ∷ []) (marks.of_items i items) → AllIn IsFine (site.of_items n i k items) → AllIn (Right gs) (functions items)
  functions_right [] i k a gs new alike among r g = tt
  functions_right (tree.port p ∷ items) i k a gs new alike among r g =
      let ms = marks.of_item i (tree.port p) in
      let rest = marks.of_items (i + 1) items in
      let d = decl_of_item i (tree.port p) in
      let am = subst (AllAmong gs) (outer_item i (tree.port p) rest) among in
      let r1 = resolves_both n k (a ∷ []) ms rest r in
      let q = quiet_skip (a ∷ []) (marks.optional marks.of_place p.place) (Declares d ∷ []) (quiet_optional marks.of_place quiet_place p.place) in
      let g1 = split IsFine (site.of_item n k (tree.port p)) _ g in
      functions_right items (i + 1) (past k ms) (d ∷ a) gs new (declared_again gs a d new am.0 alike) am.1 (subst (λ (z : Stack). Resolves n (past k ms) z rest) q r1.1) g1.1
  functions_right (tree.function h b ∷ items) i k a gs new alike among r g =
      let ms = marks.of_item i (tree.function h b) in
      let rest = marks.of_items (i + 1) items in
      let d = decl_of_item i (tree.function h b) in
      let am = subst (AllAmong gs) (outer_item i (tree.function h b) rest) among in
      let r1 = resolves_both n k (a ∷ []) ms rest r in
      let mp = marks.each marks.of_param h.params in
      let inner = mp ++ marks.of_body b in
      let su = (d ∷ a) ∷ [] in
      let alike1 = declared_again gs a d new am.0 alike in
      let q : after su (marks.in_scope inner) ≡ su = scope_ends su inner (scopes.both _ _ (scopes.all marks.of_param scopes.of_param h.params) (scopes.of_body b)) in
      let r2 = (resolves_both n (k + 1) ([] ∷ su) inner (Closes ∷ []) r1.0.1).0 in
      let r3 = alike_resolves n inner (k + 1) ([] ∷ su) ([] ∷ gs ∷ []) (further alike1) r2 in
      let r4 = resolves_both n (k + 1) ([] ∷ gs ∷ []) mp (marks.of_body b) r3 in
      let g1 = split IsFine (site.of_item n k (tree.function h b)) _ g in
      let g2 = split IsFine (site.each site.of_parameter h.params) _ g1.0.1 in (
        record { params_at = k + 1; params_new = r4.0; body_at = past (k + 1) mp; resolves = r4.1; fine = g2.1; form = g1.0.0 },
        functions_right items (i + 1) (past k ms) (d ∷ a) gs new alike1 am.1 (subst (λ (z : Stack). Resolves n (past k ms) z rest) q r1.1) g1.1,
      )

  right_by : (gs : Frame) (b : Bool) (g : Function) (o : Option Function) → Right gs g → ((f : Function) → o ≡ Some f → Right gs f) → (f : Function) → function_by b g o ≡ Some f → Right gs f
  right_by gs true g o h k f e = subst (Right gs) (some_same g f e) h
    where
      some_same : (x y : Function) → Some x ≡ Some y → x ≡ y
      some_same x y q = cc
  right_by gs false g o h k f e = k f e

  -- the one that is found by a name
  pub right_named : (gs : Frame) (xs : List Function) → AllIn (Right gs) xs → (t : List ℕ) (f : Function) → function_named xs t ≡ Some f → Right gs f
  right_named gs [] h t f e = absurd (none_some f e)
    where
      none_some : (x : Function) → None ≡ Some x → ⊥
      none_some x q = cc
  right_named gs (x ∷ xs) h t f e = right_by gs (bytes_eq x.head.name.text t) x (function_named xs t) h.0 (λ y q. right_named gs xs h.1 t y q) f e

  -- Ports, and functions, which the copy's scope doesn't have.

  no_port : (items : List tree.Item) (i m : ℕ) (t s : List ℕ) → bytes_eq s t ≡ true → NotNamed s (outer 0 (marks.of_items i items)) → entity_of (scope_of_ports m (ports items)) t ≡ nothing_known
  no_port [] i m t s e h = refl
  no_port (tree.port p ∷ items) i m t s e h =
      let h1 = subst (NotNamed s) (outer_item i (tree.port p) (marks.of_items (i + 1) items)) h in
      ap (λ (b : Bool). entity_by b (a_port m) (entity_of (scope_of_ports (m + 1) (ports items)) t)) (subst (λ (u : List ℕ). bytes_eq p.name.text u ≡ false) ((bytes_eq-Decides s t).0 e) h1.0)
      ∙ no_port items (i + 1) (m + 1) t s e h1.1
  no_port (tree.function g b ∷ items) i m t s e h = no_port items (i + 1) m t s e (subst (NotNamed s) (outer_item i (tree.function g b) (marks.of_items (i + 1) items)) h).1

  pub outside_known : (items : List tree.Item) (i m : ℕ) → AllNew (outer 0 (marks.of_items i items)) → ((j : ℕ) (x : tree.Item) → slice_get items j ≡ Some x → slice_get n.program (i + j) ≡ Some x) → ((j : ℕ) (p : tree.Port) → slice_get (ports items) j ≡ Some p → HasPort ps (m + j) p.dir) →
      (t : List ℕ) → function_named fs t ≡ function_named (functions items) t → Denotes n fs ps num (H here) (J here) t (what_of (found_in (outer 0 (marks.of_items i items)) t None)) (entity_of (scope_of_ports m (ports items)) t)
  outside_known [] i m new at_items at_ports t e = none_there
  outside_known (tree.port p ∷ items) i m new at_items at_ports t e =
      let rest = marks.of_items (i + 1) items in
      let o = outer_item i (tree.port p) rest in
      let new1 = (subst AllNew o new).1 in
      let next = outside_known items (i + 1) (m + 1) new1 (λ j x q. subst (λ (u : ℕ). slice_get n.program u ≡ Some x) (shift i j) (at_items (suc j) x q)) (λ j x q. subst (λ (u : ℕ). HasPort ps u x.dir) (shift m j) (at_ports (suc j) x q)) t e in
      subst (λ (ds : List Decl). Denotes n fs ps num (H here) (J here) t (what_of (found_in ds t None)) (entity_of (scope_of_ports m (ports (tree.port p ∷ items))) t)) (sym o)
      (by (bytes_eq p.name.text t) (at_ports 0 p refl) next)
    where
      shift : (a b : ℕ) → a + suc b ≡ (a + 1) + b
      shift a b = omega arith

      by : (b : Bool) → HasPort ps (m + 0) p.dir → Denotes n fs ps num (H here) (J here) t (what_of (found_in (outer 0 (marks.of_items (i + 1) items)) t None)) (entity_of (scope_of_ports (m + 1) (ports items)) t) → Denotes n fs ps num (H here) (J here) t (what_of (decl_by b (decl_of_item i (tree.port p)) (found_in (outer 0 (marks.of_items (i + 1) items)) t None))) (entity_by b (a_port m) (entity_of (scope_of_ports (m + 1) (ports items)) t))
      by true h r = the_port (subst (λ (u : ℕ). HasPort ps u p.dir) (none m) h)
        where
          none : (a : ℕ) → a + 0 ≡ a
          none a = omega arith
      by false h r = r
  outside_known (tree.function h body ∷ items) i m new at_items at_ports t e =
      let rest = marks.of_items (i + 1) items in
      let o = outer_item i (tree.function h body) rest in
      let new1 = subst AllNew o new in
      subst (λ (ds : List Decl). Denotes n fs ps num (H here) (J here) t (what_of (found_in ds t None)) (entity_of (scope_of_ports m (ports items)) t)) (sym o)
      (by (bytes_eq h.name.text t) refl (at_items 0 (tree.function h body) refl) (λ q. no_port items (i + 1) m t h.name.text q new1.0)
      (λ q. outside_known items (i + 1) m new1.1 (λ j x q. subst (λ (u : ℕ). slice_get n.program u ≡ Some x) (shift i j) (at_items (suc j) x q)) at_ports t (e ∙ ap (λ (b : Bool). function_by b (record { head = h; body = body }) (function_named (functions items) t)) q)))
    where
      shift : (a b : ℕ) → a + suc b ≡ (a + 1) + b
      shift a b = omega arith

      by : (b : Bool) → bytes_eq h.name.text t ≡ b → slice_get n.program (i + 0) ≡ Some (tree.function h body) → (bytes_eq h.name.text t ≡ true → entity_of (scope_of_ports m (ports items)) t ≡ nothing_known) →
          (bytes_eq h.name.text t ≡ false → Denotes n fs ps num (H here) (J here) t (what_of (found_in (outer 0 (marks.of_items (i + 1) items)) t None)) (entity_of (scope_of_ports m (ports items)) t)) →
          Denotes n fs ps num (H here) (J here) t (what_of (decl_by b (decl_of_item i (tree.function h body)) (found_in (outer 0 (marks.of_items (i + 1) items)) t None))) (entity_of (scope_of_ports m (ports items)) t)
      by false q there none next = next q
      by true q there none next =
          subst (λ (x : Entity). Denotes n fs ps num (H here) (J here) t (Some (what.Func i)) x) (sym (none q))
          (the_function (ap (λ (x : Option tree.Item). Rattle.xc_tree.specs.Types.Named.head_of_item x) (ap (slice_get n.program) (no_more i) ∙ there)
          ∙ sym (ap (option_map head_of) (e ∙ ap (λ (b : Bool). function_by b (record { head = h; body = body }) (function_named (functions items) t)) q))))
        where
          no_more : (a : ℕ) → a ≡ a + 0
          no_more a = omega arith

  -- a port is that of its declaration
  abbrev PortAt : ℕ → Pos → Type 0
  PortAt number pos = (port : PortUse) × (slice_get ps number ≡ Some port) × (port.pos ≡ pos)

  pub outside_instance : (items : List tree.Item) (i m : ℕ) → ((j : ℕ) (p : tree.Port) → slice_get (ports items) j ≡ Some p → PortAt (m + j) p.name.pos) →
      (t : List ℕ) → IsInstance ps (found_in (outer 0 (marks.of_items i items)) t None) (entity_of (scope_of_ports m (ports items)) t)
  outside_instance [] i m at_ports t = tt
  outside_instance (tree.port p ∷ items) i m at_ports t =
      subst (λ (ds : List Decl). IsInstance ps (found_in ds t None) (entity_of (scope_of_ports m (ports (tree.port p ∷ items))) t)) (sym (outer_item i (tree.port p) (marks.of_items (i + 1) items)))
      (by (bytes_eq p.name.text t) (subst (λ (u : ℕ). PortAt u p.name.pos) (none m) (at_ports 0 p refl)) (outside_instance items (i + 1) (m + 1) (λ j x q. subst (λ (u : ℕ). PortAt u x.name.pos) (shift m j) (at_ports (suc j) x q)) t))
    where
      shift : (a b : ℕ) → a + suc b ≡ (a + 1) + b
      shift a b = omega arith

      none : (a : ℕ) → a + 0 ≡ a
      none a = omega arith

      by : (b : Bool) → PortAt m p.name.pos → IsInstance ps (found_in (outer 0 (marks.of_items (i + 1) items)) t None) (entity_of (scope_of_ports (m + 1) (ports items)) t) →
          IsInstance ps (decl_by b (decl_of_item i (tree.port p)) (found_in (outer 0 (marks.of_items (i + 1) items)) t None)) (entity_by b (a_port m) (entity_of (scope_of_ports (m + 1) (ports items)) t))
      by true h r = h
      by false h r = r
  outside_instance (tree.function h body ∷ items) i m at_ports t =
      subst (λ (ds : List Decl). IsInstance ps (found_in ds t None) (entity_of (scope_of_ports m (ports items)) t)) (sym (outer_item i (tree.function h body) (marks.of_items (i + 1) items)))
      (by (bytes_eq h.name.text t) (outside_instance items (i + 1) m at_ports t))
    where
      by : (b : Bool) → IsInstance ps (found_in (outer 0 (marks.of_items (i + 1) items)) t None) (entity_of (scope_of_ports m (ports items)) t) →
          IsInstance ps (decl_by b (decl_of_item i (tree.function h body)) (found_in (outer 0 (marks.of_items (i + 1) items)) t None)) (entity_of (scope_of_ports m (ports items)) t)
      by true r = tt
      by false r = r
