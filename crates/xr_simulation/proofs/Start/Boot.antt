-- The machine's start: each root's thread sets its stack, by two steps that nobody sees, and is at the code of its branch's items behind them.
use Rattle.std.proofs.Common.{◌≡◌, ◌≢◌, ℕ, zero, suc, ◌+◌, ◌*◌, ◌<◌, ◌≤◌, inr, false, List, [], ◌∷◌, length, Option, Some, None, refl, sym, ap, ◌∙◌, subst, ⊎_elim, arith}
use Rattle.std.specs.Prelude.{slice_get, slice_set}
use Rattle.std.proofs.lemmas.List.{length-set}
use Rattle.std.proofs.lemmas.Option.{same_Some}
use Rattle.xs_instr.specs.declared.image.CoreImage.{CoreImage}
use Rattle.xs_instr.specs.declared.image.PortDecl.{PortDecl}
use Rattle.xs_instr.specs.declared.instr.Instr.{Instr}
use Rattle.xs_instr.specs.declared.instr.Instr.TheVariants.{Ldc, Setsp}
use Rattle.xs_instr.specs.declared.instr.Reg.TheVariants.{R0, Sp}
use Rattle.xs_instr.specs.declared.state.CoreState.{CoreState}
use Rattle.xs_instr.specs.declared.state.Mode.TheVariants.{Running, Unused}
use Rattle.xs_instr.specs.declared.state.Regs.{Regs}
use Rattle.xs_instr.specs.declared.state.Thread.{Thread}
use Rattle.xs_instr.specs.Did.{makes, map_did}
use Rattle.xs_instr.specs.Machine.{boot_core, boot_port, boot_ports, boot_threads, root_thread, unused_thread}
use Rattle.xs_instr.specs.Pool.{is_tied, is_unused}
use Rattle.xs_instr.specs.Registers.{no_regs, reg_set}
use Rattle.xs_instr.specs.Rows.{local_of, local_row, put_local, row}
use Rattle.xs_instr.specs.Slot.{instr_at, is_waiteu}
use Rattle.xl_expr.proofs.Lists.{get_set_same, get_set_other}
use Rattle.xl_expr.proofs.ResourceParts.{others_same, own_same, own_then}
use Rattle.xl_par.specs.Acquired.{Acquired, IsAmong, unused_in}
use Rattle.xr_simulation.specs.Roles.{Role, got_by, unused, used_by}
use Rattle.xr_simulation.specs.Runners.{IsMine, Setting, Runner, home}
use Rattle.xr_simulation.specs.ThreadViews.{IsStable, LeadsIn, Rely, SpareFor, ThreadView, after, held_in, keeps, running, sync_in}
use Rattle.xr_simulation.specs.NextStep.{IsAt}
use Rattle.xr_simulation.proofs.RelyGuarantee.Arrival.{at_runs, same_use}
use Rattle.xr_simulation.proofs.OwnSteps.Turns.{turn_is_row}
use Rattle.xr_simulation.proofs.RelyGuarantee.ThreadViews.{leads_in_stable, then_leads}
use Rattle.xr_simulation.proofs.Relation.Lasting.{get_set_cases}

-- a port as it starts
pub boot_port_at : (decls : List PortDecl) (n : ℕ) (decl : PortDecl) → slice_get decls n ≡ Some decl → slice_get (boot_ports decls) n ≡ Some (boot_port decl)
boot_port_at [] n decl e = cc
boot_port_at (d ∷ decls) zero decl e = ap (λ (x : PortDecl). Some (boot_port x)) (same_Some d decl e)
boot_port_at (d ∷ decls) (suc n) decl e = boot_port_at decls n decl e

-- a root's thread as it starts
pub boot_thread_at : (roots : List ℕ) (n t entry : ℕ) → t < n → slice_get roots t ≡ Some entry → slice_get (boot_threads roots n) t ≡ Some (root_thread entry)
boot_thread_at roots zero t entry lt e = absurd (omega arith)
boot_thread_at [] (suc n) t entry lt e = cc
boot_thread_at (k ∷ roots) (suc n) zero entry lt e = ap (λ i. Some (root_thread i)) (same_Some k entry e)
boot_thread_at (k ∷ roots) (suc n) (suc t) entry lt e = boot_thread_at roots n t entry (omega arith) e

-- another thread
pub boot_thread_free : (roots : List ℕ) (n t : ℕ) → t < n → length roots ≤ t → slice_get (boot_threads roots n) t ≡ Some unused_thread
boot_thread_free roots zero t lt le = absurd (omega arith)
boot_thread_free [] (suc n) zero lt le = refl
boot_thread_free [] (suc n) (suc t) lt le = boot_thread_free [] n t (omega arith) (omega arith)
boot_thread_free (k ∷ roots) (suc n) zero lt le = absurd (omega arith)
boot_thread_free (k ∷ roots) (suc n) (suc t) lt le = boot_thread_free roots n t (omega arith) (omega arith)

-- so many
pub boot_length : (roots : List ℕ) (n : ℕ) → length (boot_threads roots n) ≡ n
boot_length roots zero = refl
boot_length [] (suc n) = ap suc (boot_length [] n)
boot_length (k ∷ roots) (suc n) = ap suc (boot_length roots n)

-- The core as it is where all its roots' threads have set their stacks.

abbrev pub set_regs : Runner → Regs
set_regs r = reg_set (reg_set no_regs R0 (4 * r.stack)) Sp (4 * r.stack)

abbrev pub set_thread : Role → Thread → Thread
set_thread unused x = x
set_thread (got_by t) x = x
set_thread (used_by r hand) x = record x { pc = x.pc + 2; regs = set_regs r }

abbrev pub set_threads : (who : ℕ → Role) → (from : ℕ) → List Thread → List Thread
set_threads who n [] = []
set_threads who n (x ∷ xs) = set_thread (who n) x ∷ set_threads who (n + 1) xs

abbrev pub set_core : (who : ℕ → Role) → CoreImage → CoreState
set_core who k = record (boot_core k) { threads = set_threads who 0 (boot_threads k.roots 8) }

set_at_from : (who : ℕ → Role) (n : ℕ) (xs : List Thread) (t : ℕ) (x : Thread) → slice_get xs t ≡ Some x → slice_get (set_threads who n xs) t ≡ Some (set_thread (who (n + t)) x)
set_at_from who n [] t x e = cc
set_at_from who n (y ∷ xs) zero x e =
    let number : n ≡ n + 0 = omega arith in
    ap (λ k. Some (set_thread (who k) y)) number ∙ ap (λ k. Some (set_thread (who (n + 0)) k)) (same_Some y x e)
set_at_from who n (y ∷ xs) (suc t) x e =
    let number : n + 1 + t ≡ n + suc t = omega arith in
    set_at_from who (n + 1) xs t x e ∙ ap (λ k. Some (set_thread (who k) x)) number

-- one of its threads
pub set_at : (who : ℕ → Role) (xs : List Thread) (t : ℕ) (x : Thread) → slice_get xs t ≡ Some x → slice_get (set_threads who 0 xs) t ≡ Some (set_thread (who t) x)
set_at who xs t x e =
    let number : 0 + t ≡ t = omega arith in
    set_at_from who 0 xs t x e ∙ ap (λ k. Some (set_thread (who k) x)) number

pub set_length : (who : ℕ → Role) (n : ℕ) (xs : List Thread) → length (set_threads who n xs) ≡ length xs
set_length who n [] = refl
set_length who n (x ∷ xs) = ap suc (set_length who (n + 1) xs)

-- What a thread lacks is there still where one that runs is at another index.

unused_set : (xs : List Thread) (t : ℕ) (x y : Thread) → slice_get xs t ≡ Some x → is_unused y.mode ≡ is_unused x.mode → unused_in (slice_set xs t y) ≡ unused_in xs
unused_set [] t x y e same = cc
unused_set (z ∷ xs) zero x y e same =
    let one : is_unused y.mode ≡ is_unused z.mode = same ∙ ap (λ (i : Thread). is_unused i.mode) (sym (same_Some z x e)) in
    rw (one)
unused_set (z ∷ xs) (suc t) x y e same = let on = unused_set xs t x y e same in omega (arith, on)

module _ (g : Setting) (r : Runner) where
  -- the runner's thread at another index with other registers
  abbrev pub at_spot : CoreState → ℕ → Regs → CoreState
  at_spot a pc regs = record a { threads = slice_set a.threads r.thread (running r.tie pc regs) }

  spare_moved : (hand : Option Acquired) (a : CoreState) (pc pc' : ℕ) (regs regs' : Regs) → slice_get a.threads r.thread ≡ Some (running r.tie pc regs) → SpareFor hand a → SpareFor hand (at_spot a pc' regs')
  spare_moved None a pc pc' regs regs' here s = tt
  spare_moved (Some hand) a pc pc' regs regs' here s =
      let th = running r.tie pc regs in
      let th' = running r.tie pc' regs' in
      record {
        threads = let many = unused_set a.threads r.thread th th' here refl in let old = s.threads in omega (arith, many, old);
        sync = s.sync;
        few_threads = let many = length-set a.threads r.thread th' in let old = s.few_threads in omega (arith, many, old);
        few_syncs = s.few_syncs;
        no_events = λ u x there free.
            ⊎_elim
            (λ (own : (u ≡ r.thread) × (x ≡ th')). let z : Running ≡ Unused = sym (ap (λ (i : Thread). i.mode) own.1) ∙ free in absurd cc)
            (λ (other : (u ≢ r.thread) × (slice_get a.threads u ≡ Some x)). s.no_events u x other.1 free)
            (get_set_cases a.threads r.thread u th th' x here there);
        untied = λ n u x free there.
            ⊎_elim
            (λ (own : (u ≡ r.thread) × (x ≡ th')). subst (λ i. is_tied i n ≡ false) (sym own.1) (s.untied n r.thread th free here))
            (λ (other : (u ≢ r.thread) × (slice_get a.threads u ≡ Some x)). s.untied n u x free other.1)
            (get_set_cases a.threads r.thread u th th' x here there);
      }

  -- an instruction that changes registers alone leads there, as far as the runner can tell
  by_regs : (z : ThreadView) (pc : ℕ) (regs : Regs) (i : Instr) → IsAt g r z pc regs → instr_at (home g r) pc ≡ Some i →
      is_waiteu (Some i) ≡ false →
      ((a : CoreState) (x : Thread) → row (home g r) a r.thread x i ≡ map_did (put_local a r.thread x) (local_row (local_of a x) i)) → (pc' : ℕ) (regs' : Regs) →
      ((words : List ℕ) → local_row (record { pc = pc; regs = regs; words = words }) i ≡ makes (record { pc = pc'; regs = regs'; words = words })) →
      (held : (u : ℕ) → IsAmong (held_in z.hand) u → u ≢ r.thread) →
      LeadsIn g r (Rely g r (after g r z (at_spot z.core pc' regs'))) 1 z
  by_regs z pc regs i here code no_event own pc' regs' does held =
      let th = running r.tie pc regs in
      let th' = running r.tie pc' regs' in
      inr (λ y k.
      let here_y = k.thread ∙ here in
      let fetched = turn_is_row (home g r) y.core r.thread r.tie pc regs i here_y code no_event in
      let left = at_spot y.core pc' regs' in
      let there = get_set_same y.core.threads r.thread th th' here_y in (
        after g r y left,
        record {
          made = fetched ∙ own y.core th ∙ ap (map_did (put_local y.core r.thread th)) (does y.core.words);
          world = refl;
          roots = refl;
          channel_ends = refl;
          guarantee = record {
            clock = refl;
            others = λ u ne free. get_set_other y.core.threads r.thread u th' ne;
            as_many = length-set y.core.threads r.thread th';
            words = λ w n. refl;
            sizes = refl;
            resources = others_same _ _ _ _ refl refl refl;
          };
          hand = keeps refl refl (same_use g r y (after g r y left) (λ u ne. get_set_other y.core.threads r.thread u th' ne));
          was = at_runs g r y pc regs here_y;
          on = at_runs g r (after g r y left) pc' regs' there;
        },
        record {
          thread = there ∙ sym (get_set_same z.core.threads r.thread th th' here);
          words = k.words;
          resources = own_then (IsMine g r) r.thread _ _ _ (own_same _ _ _ _ refl refl refl)
              (own_then (IsMine g r) r.thread _ _ _ k.resources (own_same _ _ _ _ refl refl refl));
          sizes = k.sizes;
          branch = k.branch;
          parents = k.parents;
          store = k.store;
          clock = k.clock;
          hand = k.hand;
          syncs = k.syncs;
          held = λ u m. get_set_other y.core.threads r.thread u th' (held u m) ∙ k.held u m ∙ sym (get_set_other z.core.threads r.thread u th' (held u m));
          tied = λ n u x sync at_u tied.
              ⊎_elim
              (λ (own : (u ≡ r.thread) × (x ≡ th')).
              ap (slice_get (slice_set z.core.threads r.thread th')) own.0 ∙ get_set_same z.core.threads r.thread th th' here ∙ ap Some (sym own.1))
              (λ (other : (u ≢ r.thread) × (slice_get y.core.threads u ≡ Some x)). get_set_other z.core.threads r.thread u th' other.0 ∙ k.tied n u x sync other.1 tied)
              (get_set_cases y.core.threads r.thread u th th' x here_y at_u);
          spare = spare_moved z.hand y.core pc pc' regs regs' here_y k.spare;
        },
      ))

  -- The two instructions that set a root's stack stand at an index.
  module _ (e stack : ℕ) (first : instr_at (home g r) e ≡ Some (Ldc R0 (4 * stack))) (second : instr_at (home g r) (e + 1) ≡ Some (Setsp R0)) where
    abbrev regs_set : Regs
    regs_set = reg_set (reg_set no_regs R0 (4 * stack)) Sp (4 * stack)

    -- By two steps it does both, and then it is on its way further as it is where its thread, among others, is behind them.
    pub stack_leads : (z : ThreadView) (threads : List Thread) → IsAt g r z e no_regs →
        slice_get threads r.thread ≡ Some (running r.tie (e + 2) regs_set) → held_in z.hand ≡ [] → sync_in z.hand ≡ None →
        (Q : ThreadView → Type 0) → IsStable g r Q → (n : ℕ) → LeadsIn g r Q n (record z { core = record z.core { threads = threads } }) →
        LeadsIn g r Q (1 + (1 + n)) z
    stack_leads z threads here there none_held no_sync Q stable n on =
        let s = reg_set no_regs R0 (4 * stack) in
        let th1 = running r.tie (e + 1) s in
        let th2 = running r.tie (e + 1 + 1) regs_set in
        let z1 = after g r z (at_spot z.core (e + 1) s) in
        let held : (u : ℕ) → IsAmong (held_in z.hand) u → u ≢ r.thread = λ u m. absurd (subst (λ l. IsAmong l u) none_held m) in
        let to1 = by_regs z e no_regs (Ldc R0 (4 * stack)) here first refl (λ a t. refl) (e + 1) s (λ ws. refl) held in
        let here1 = get_set_same z.core.threads r.thread (running r.tie e no_regs) th1 here in
        let z2 = after g r z1 (at_spot z1.core (e + 1 + 1) regs_set) in
        let to2 = by_regs z1 (e + 1) s (Setsp R0) here1 second refl (λ a t. refl) (e + 1 + 1) regs_set (λ ws. refl) held in
        let here2 = get_set_same z1.core.threads r.thread th1 th2 here1 in
        let two : e + 1 + 1 ≡ e + 2 = omega arith in
        let past : ThreadView = record z { core = record z.core { threads = threads } } in
        let kept : (y : ThreadView) → Rely g r z2 y → Rely g r past y = λ y k. record {
          thread = k.thread ∙ here2 ∙ ap (λ p. Some (running r.tie p regs_set)) two ∙ sym there;
          words = k.words;
          resources = own_then (IsMine g r) r.thread _ _ _ (own_same _ _ _ _ refl refl refl)
              (own_then (IsMine g r) r.thread _ _ _ k.resources (own_same _ _ _ _ refl refl refl));
          sizes = k.sizes;
          branch = k.branch;
          parents = k.parents;
          store = k.store;
          clock = k.clock;
          hand = k.hand;
          syncs = k.syncs;
          held = λ u m. absurd (subst (λ l. IsAmong l u) none_held m);
          tied = λ n u x sync at_u tied. let z : ◌≡◌ {A = Option ℕ} None (Some n) = sym no_sync ∙ sync in cc;
          spare = k.spare;
        } in
        let from1 = then_leads g r (Rely g r z2) Q 1 n z1 to2 (λ y k. leads_in_stable g r Q stable n past y (kept y k) on) in
        then_leads g r (Rely g r z1) Q 1 (1 + n) z to1 (λ x k. leads_in_stable g r Q stable (1 + n) z1 x k from1)
