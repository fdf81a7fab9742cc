-- The program's start, and who runs its roots then.
use Rattle.std.proofs.Common.{◌≡◌, ◌≢◌, ℕ, zero, suc, ◌+◌, ◌<◌, ◌≤◌, List, [], ◌∷◌, map, length, Option, Some, None, refl, sym, ap, ◌∙◌, subst, ⊎_elim, arith}
use Rattle.std.specs.Prelude.{Bool, true, false, ◌&&◌, cond, nat_eq, slice_get, replicate}
use Rattle.std.proofs.lemmas.Bool.{cases_lt}
use Rattle.std.proofs.lemmas.List.{length-replicate}
use Rattle.std.proofs.lemmas.Option.{same_Some, slice_get_within}
use Rattle.xc_kernel.specs.declared.kernel.Var.{Var}
use Rattle.xc_kernel.specs.Plain as kernel
use Rattle.xc_kernel.specs.Eval.{words_of}
use Rattle.xc_disjoint.specs.Needs.{threads_on}
use Rattle.xc_meaning.specs.Counts.KernelCounts.{words_in}
use Rattle.xc_meaning.specs.Runs.{kernel_root, kernel_start, no_side, root_branches, zeros_of}
use Rattle.xc_meaning.specs.States.Branches.{Branch, runs}
use Rattle.xc_meaning.specs.States.Channels.{Side}
use Rattle.xc_meaning.specs.States.Items.{ends, todo}
use Rattle.xl_image.specs.Images.{roots_on, thread_of}
use Rattle.xl_par.specs.Acquired.{Acquired, IsAmong}
use Rattle.xl_plan.specs.Layout.{temporary_of}
use Rattle.xr_match.specs.Meanings.{root_among}
use Rattle.xr_simulation.specs.Images.{IsImageOf, IsRoot, IsRootRole}
use Rattle.xr_simulation.specs.Parents.{Parent, branches_of, syncs_of}
use Rattle.xr_simulation.specs.Roles.{AreRoles, IsOnce, IsParent, Role, Roles, got_by, outermost, unused, used_by}
use Rattle.xr_simulation.specs.Runners.{Setting, Runner}
use Rattle.xr_simulation.specs.ThreadViews.{Owns, held_in, sync_in}
use Rattle.xr_simulation.specs.MatchStates.{living_on, one_where}
use Rattle.xr_simulation.proofs.Relation.Roots.{none_found, numbered}

-- a root as it starts
pub record IsRootBranch (root : kernel.Root) (number : ℕ) (branch : Branch) : Type 0 where
  pub core : branch.core ≡ root.core
  pub mode : branch.mode ≡ runs
  pub items : branch.items ≡ todo root.body (ends ∷ [])
  pub family : branch.family ≡ number

-- each root has its branch
pub root_at : (roots : List kernel.Root) (n : ℕ) (before : List kernel.Statements) (sides : List (Option Side)) (k : ℕ) (root : kernel.Root) → slice_get roots k ≡ Some root →
    (branch : Branch) × (slice_get (root_branches n before sides (map kernel_root roots)) k ≡ Some branch) × IsRootBranch root (n + k) branch
root_at [] n before sides k root e = cc
root_at (r ∷ roots) n before sides zero root e =
    let same = same_Some r root e in
    let number : n ≡ n + 0 = omega arith in
    (_, refl, record { core = ap (λ (x : kernel.Root). x.core) same; mode = refl; items = ap (λ (x : kernel.Root). todo x.body (ends ∷ [])) same; family = number })
root_at (r ∷ roots) n before sides (suc k) root e =
    let on = root_at roots (n + 1) (r.body ∷ before) sides k root e in
    let number : n + 1 + k ≡ n + suc k = omega arith in
    (on.0, on.1, record { core = on.2.core; mode = on.2.mode; items = on.2.items; family = on.2.family ∙ number })

-- all branches are roots at the start
pub start_roots : (roots : List kernel.Root) (n : ℕ) (before : List kernel.Statements) (sides : List (Option Side)) (b : ℕ) (branch : Branch) → slice_get (root_branches n before sides (map kernel_root roots)) b ≡ Some branch →
    (root : kernel.Root) × (slice_get roots b ≡ Some root)
start_roots [] n before sides b branch e = cc
start_roots (r ∷ roots) n before sides zero branch e = (r, refl)
start_roots (r ∷ roots) n before sides (suc b) branch e = start_roots roots (n + 1) (r.body ∷ before) sides b branch e

-- each root of a core counts as one
one_by : (b : Bool) (r : kernel.Root) (rs : List kernel.Root) → one_where (b && true) + length rs ≡ length (cond b (r ∷ rs) rs)
one_by true r rs = omega arith
one_by false r rs = omega arith

live_from : (core number : ℕ) (before : List kernel.Statements) (sides : List (Option Side)) (rs : List kernel.Root) → living_on core (root_branches number before sides (map kernel_root rs)) ≡ length (roots_on core rs)
live_from core number before sides [] = refl
live_from core number before sides (r ∷ rs) =
    ap (λ n. one_where (nat_eq r.core core && true) + n) (live_from core (number + 1) (r.body ∷ before) sides rs)
    ∙ one_by (nat_eq r.core core) r (roots_on core rs)

-- at the start all roots of a core live
pub roots_live : (K : kernel.Kernel) (core : ℕ) → living_on core (kernel_start K).branches ≡ length (roots_on core K.roots)
roots_live K core = live_from core 0 [] (map no_side K.channels) K.roots

-- words that are all 0
pub words_zero : (n i : ℕ) → i < n → slice_get {X = ℕ} (replicate n 0) i ≡ Some 0
words_zero zero i lt = absurd (omega arith)
words_zero (suc n) zero lt = refl
words_zero (suc n) (suc i) lt = words_zero n i (omega arith)

-- a variable's words are 0
pub variable_zero : (variables : List Var) (v i : ℕ) → i < words_in variables v → slice_get (words_of (map zeros_of variables) v) i ≡ Some 0
variable_zero [] v i lt = absurd (omega arith)
variable_zero (x ∷ variables) zero i lt = words_zero x.words i lt
variable_zero (x ∷ variables) (suc v) i lt = variable_zero variables v i lt

-- and there are as many as the variable has
pub variable_length : (variables : List Var) (v : ℕ) → length (words_of (map zeros_of variables) v) ≡ words_in variables v
variable_length [] v = refl
variable_length (x ∷ variables) zero = length-replicate x.words 0
variable_length (x ∷ variables) (suc v) = variable_length variables v

-- Who runs the roots.
module _ (g : Setting) (who : Roles) (is : IsImageOf g who) where
  -- a thread that is used is a root's, with nothing in hand
  pub record RunsRoot (c t : ℕ) (r : Runner) (hand : Option Acquired) : Type 0 where
    pub none : hand ≡ None
    pub runs_it : who c t ≡ used_by r None
    pub root : kernel.Root
    pub is_root : IsRoot g r root
    pub core : r.core ≡ c
    pub thread : r.thread ≡ t

  root_role : (c t : ℕ) (r : Runner) (hand : Option Acquired) → who c t ≡ used_by r hand → IsRootRole g (used_by r hand) → RunsRoot c t r hand
  root_role c t r None e h = record { none = refl; runs_it = e; root = h.0; is_root = h.1; core = is.core c t r e; thread = is.thread c t r e }
  root_role c t r (Some hand) e h = absurd h

  pub root_of : (c t : ℕ) (r : Runner) (hand : Option Acquired) → who c t ≡ used_by r hand → RunsRoot c t r hand
  root_of c t r hand e = root_role c t r hand e (subst (IsRootRole g) e (is.roles c t))

  -- no thread was got
  pub none_got : (c u t : ℕ) → who c u ≡ got_by t → ⊥
  none_got c u t e = subst (IsRootRole g) e (is.roles c u)

  pub on_four : (c t : ℕ) (r : Runner) (hand : Option Acquired) → who c t ≡ used_by r hand → c < 4
  on_four c t r hand e =
      let h = root_of c t r hand e in
      let lt = is.placed r.branch h.root h.is_root.known in
      let core = h.is_root.core in
      let here = h.core in
      omega (arith, lt, core, here)

  -- a thread that is used is one of those that its core needs
  inside_by : (c t : ℕ) (role : Role) → who c t ≡ role → role ≢ unused → (t < threads_on g.program c) × (t < 8)
  inside_by c t unused e ne = absurd (ne refl)
  inside_by c t (got_by u) e ne = absurd (none_got c t u e)
  inside_by c t (used_by r hand) e ne =
      let h = root_of c t r hand e in
      let lt : t < threads_on g.program c = subst (λ k. k < threads_on g.program c) h.thread (subst (λ k. r.thread < threads_on g.program k) h.core h.is_root.inside) in
      let few = is.few c (on_four c t r hand e) in
      (lt, omega (arith, lt, few))

  alone_among : (ps : List Parent) (b n : ℕ) → ps ≡ [] → IsAmong (n ∷ branches_of ps) b → b ≡ n
  alone_among ps b n alone m =
      ⊎_elim
      (λ (here : b ≡ n). here)
      (λ (there : IsAmong (branches_of ps) b). absurd (subst (λ l. IsAmong (branches_of l) b) alone there))
      m

  pub owns_none : (c t n : ℕ) (r : Runner) (hand : Option Acquired) → who c t ≡ used_by r hand → Owns r hand n → ⊥
  owns_none c t n r hand e owns =
      let h = root_of c t r hand e in
      ⊎_elim
      (λ (m : IsAmong (syncs_of r.parents) n). subst (λ l. IsAmong (syncs_of l) n) h.is_root.alone m)
      (λ (s : sync_in hand ≡ Some n). let z : ◌≡◌ {A = Option ℕ} None (Some n) = sym (ap sync_in h.none) ∙ s in cc)
      owns

  -- each role is a root's
  pub roles_begin : AreRoles g who
  roles_begin = record {
    core = λ c t r hand e. (root_of c t r hand e).core;
    there = on_four;
    thread = λ c t r hand e. (root_of c t r hand e).thread;
    few = λ c t ne. (inside_by c t (who c t) refl ne).1;
    inside = λ c t ne. (inside_by c t (who c t) refl ne).0;
    block = λ c t r hand e. (root_of c t r hand e).is_root.block;
    stack = λ c t r hand e.
        let h = root_of c t r hand e in
        h.is_root.stack ∙ ap (λ k. temporary_of g.program k r.thread) h.core ∙ ap (temporary_of g.program c) h.thread;
    started = λ c t r hand e. let h = root_of c t r hand e in ap (outermost r.branch) h.is_root.alone ∙ sym h.is_root.family;
    branches = λ c t c' t' b r s hand other e f m n.
        let h = root_of c t r hand e in
        let k = root_of c' t' s other f in
        let first : b ≡ r.branch = alone_among r.parents b r.branch h.is_root.alone m in
        let second : b ≡ s.branch = alone_among s.parents b s.branch k.is_root.alone n in
        is.roots_differ c t c' t' r s h.runs_it k.runs_it (sym second ∙ first);
    got = λ c u t e. absurd (none_got c u t e);
    held = λ c t u r hand e m. absurd (subst (λ h. IsAmong (held_in h) u) (root_of c t r hand e).none m);
    held_once = λ c t r hand e. subst (λ h. IsOnce (held_in h)) (sym (root_of c t r hand e).none) tt;
    owner = λ c t t' n r s hand other e f owns others. absurd (owns_none c t n r hand e owns);
    owned_once = λ c t r hand e. subst (λ l. IsOnce (syncs_of l)) (sym (root_of c t r hand e).is_root.alone) tt;
    owned_apart = λ c t n r hand e m. absurd (subst (λ l. IsAmong (syncs_of l) n) (root_of c t r hand e).is_root.alone m);
    kids = λ c t n j r hand p e m sync least less. absurd (subst (λ l. IsParent l p) (root_of c t r hand e).is_root.alone m);
    tied = λ c u n s other e tie. let z : ◌≡◌ {A = Option ℕ} None (Some n) = sym (root_of c u s other e).is_root.tie ∙ tie in cc;
    untied = λ c u s other e tie.
        let h = root_of c u s other e in
        let lt = slice_get_within g.program.roots s.branch h.root h.is_root.known in
        let same = h.is_root.family in
        omega (arith, lt, same);
  }

  -- a thread that has a root's place runs it
  place_taken : (c t : ℕ) (o : Option ℕ) → root_among c 0 g.program.roots t ≡ o → t < length (roots_on c g.program.roots) → who c t ≢ unused
  place_taken c t None e lt = let le = none_found c 0 g.program.roots t e in absurd (omega arith)
  place_taken c t (Some b) e lt =
      let h = numbered c 0 g.program.roots t b e in
      let at_b : b ≡ h.place = h.number_is ∙ (let z : 0 + h.place ≡ h.place = omega arith in z) in
      let known : slice_get g.program.roots b ≡ Some h.root = ap (slice_get g.program.roots) at_b ∙ h.known in
      let q = is.run b h.root known in
      let k = root_of q.0 q.1 q.2 None q.3 in
      let same : k.root ≡ h.root = same_Some k.root h.root (sym k.is_root.known ∙ ap (slice_get g.program.roots) q.4 ∙ known) in
      let on : q.2.core ≡ c = sym k.is_root.core ∙ ap (λ (x : kernel.Root). x.core) same ∙ h.core_is in
      let m = numbered q.2.core 0 g.program.roots q.2.thread q.2.branch k.is_root.numbered in
      let at_m : m.place ≡ h.place = sym (let z : 0 + m.place ≡ m.place = omega arith in z) ∙ sym m.number_is ∙ q.4 ∙ at_b in
      let place : q.2.thread ≡ t = m.thread_is ∙ ap (λ d. thread_of d g.program.roots m.place) on ∙ ap (thread_of c g.program.roots) at_m ∙ sym h.thread_is in
      let here : who c t ≡ used_by q.2 None = ap (λ d. who d t) (sym on ∙ k.core) ∙ ap (who q.0) (sym place ∙ k.thread) ∙ q.3 in
      λ free. let z : used_by q.2 None ≡ unused = sym here ∙ free in cc

  -- one that is unused has none
  pub no_place : (c t : ℕ) → who c t ≡ unused → length (roots_on c g.program.roots) ≤ t
  no_place c t e =
      ⊎_elim
      (λ (lt : t < length (roots_on c g.program.roots)). absurd (place_taken c t (root_among c 0 g.program.roots t) refl lt e))
      (λ (le : length (roots_on c g.program.roots) ≤ t). le)
      (cases_lt t (length (roots_on c g.program.roots)))

  -- The branches.

  pub branch_of : (b : ℕ) (root : kernel.Root) → slice_get g.program.roots b ≡ Some root → (branch : Branch) × (slice_get (kernel_start g.program).branches b ≡ Some branch) × IsRootBranch root b branch
  branch_of b root known =
      let h = root_at g.program.roots 0 [] (map no_side g.program.channels) b root known in
      let number : 0 + b ≡ b = omega arith in
      (h.0, h.1, subst (λ n. IsRootBranch root n h.0) number h.2)

  pub known_root : (b : ℕ) (branch : Branch) → slice_get (kernel_start g.program).branches b ≡ Some branch → (root : kernel.Root) × IsRootBranch root b branch × (slice_get g.program.roots b ≡ Some root)
  known_root b branch e =
      let r = start_roots g.program.roots 0 [] (map no_side g.program.channels) b branch e in
      let at_b = branch_of b r.0 r.1 in
      (r.0, subst (IsRootBranch r.0 b) (same_Some at_b.0 branch (sym at_b.1 ∙ e)) at_b.2, r.1)
