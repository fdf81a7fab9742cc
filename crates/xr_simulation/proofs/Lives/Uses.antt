-- Which threads and synchronisers an event gets: none, where the others are used as before, or run, or are unused from then on.
use Rattle.std.proofs.Common.{◌≡◌, ℕ, zero, suc, ◌≢◌, Bool, true, false, List, [], ◌∷◌, length, Option, Some, None, refl, sym, ap, ◌∙◌, ⊎_elim, arith}
use Rattle.std.specs.Prelude.{slice_get, slice_set, not, ◌&&◌, option_map}
use Rattle.std.proofs.lemmas.Bool.{cases_eq}
use Rattle.xs_instr.specs.declared.state.CoreState.{CoreState}
use Rattle.xs_instr.specs.declared.state.Thread.{Thread}
use Rattle.xs_instr.specs.Pool.{all_joined, all_started, is_tied, is_unused, joined_by, started_by}
use Rattle.xl_expr.proofs.Lists.{get_set_other, get_set_same}
use Rattle.xr_match.specs.Lives.{in_use, is_so}
use Rattle.xr_simulation.proofs.Lives.Quiet.{GetsNothing}
use Rattle.xr_simulation.proofs.Lives.Names.{not_got_before, not_got_behind, not_got_same, sync_got, thread_got}
use Rattle.xr_simulation.proofs.Relation.Pools.{joined_at, started_at}

-- where a list is past its end, so is one of its length
past_still : (xs ys : List Thread) (k : ℕ) → slice_get xs k ≡ None → length ys ≡ length xs → slice_get ys k ≡ None
past_still [] [] k none same = refl
past_still [] (y ∷ ys) k none same = absurd (omega (arith, same))
past_still (x ∷ xs) [] k none same = refl
past_still (x ∷ xs) (y ∷ ys) zero none same = let e : Some x ≡ None = none in cc
past_still (x ∷ xs) (y ∷ ys) (suc k) none same = past_still xs ys k none (omega (arith, same))

module _ (a b : CoreState) where
  -- the synchronisers are the same
  pub same_syncs : b.syncs ≡ a.syncs → (n : ℕ) → sync_got a b n ≡ false
  same_syncs e n = not_got_same (is_so (slice_get a.syncs n)) (is_so (slice_get b.syncs n)) (ap (λ l. is_so (slice_get l n)) e)

  -- one of them is given back
  pub freed_sync : (n : ℕ) → slice_get a.syncs n ≡ Some true → b.syncs ≡ slice_set a.syncs n false → (k : ℕ) → sync_got a b k ≡ false
  freed_sync n taken e k =
      ⊎_elim
      (λ (s : k ≡ n). not_got_before (is_so (slice_get a.syncs k)) (is_so (slice_get b.syncs k)) (ap (λ i. is_so (slice_get a.syncs i)) s ∙ ap is_so taken))
      (λ (ne : k ≢ n).
      not_got_same (is_so (slice_get a.syncs k)) (is_so (slice_get b.syncs k))
      (ap (λ l. is_so (slice_get l k)) e ∙ ap is_so (get_set_other a.syncs n k false ne)))
      (cases_eq k n)

  -- one of them is got
  pub taken_sync : (n : ℕ) → slice_get a.syncs n ≡ Some false → b.syncs ≡ slice_set a.syncs n true → sync_got a b n ≡ true
  taken_sync n free e =
      ap (λ o. not (is_so o) && is_so (slice_get b.syncs n)) free ∙ ap (λ l. is_so (slice_get l n)) e ∙ ap is_so (get_set_same a.syncs n false true free)

  -- a thread that is as it was
  pub same_thread : (u : ℕ) → slice_get b.threads u ≡ slice_get a.threads u → thread_got a b u ≡ false
  same_thread u e = not_got_same (in_use (slice_get a.threads u)) (in_use (slice_get b.threads u)) (ap in_use e)

  -- or was in use
  pub used_thread : (u : ℕ) → in_use (slice_get a.threads u) ≡ true → thread_got a b u ≡ false
  used_thread u e = not_got_before (in_use (slice_get a.threads u)) (in_use (slice_get b.threads u)) e

  -- or is used alike
  pub alike_thread : length b.threads ≡ length a.threads → (u : ℕ) → ((x : Thread) → slice_get a.threads u ≡ Some x → (x' : Thread) × (slice_get b.threads u ≡ Some x') × (x'.mode ≡ x.mode)) → thread_got a b u ≡ false
  alike_thread as_many u alike = by_thread (slice_get a.threads u) refl
    where
      by_thread : (o : Option Thread) → slice_get a.threads u ≡ o → thread_got a b u ≡ false
      by_thread None e =
          not_got_behind (in_use (slice_get a.threads u)) (in_use (slice_get b.threads u)) (ap in_use (past_still a.threads b.threads u e as_many))
      by_thread (Some x) e =
          let h = alike x e in
          not_got_same (in_use (slice_get a.threads u)) (in_use (slice_get b.threads u))
          (ap in_use h.1 ∙ ap (λ m. not (is_unused m)) h.2 ∙ sym (ap in_use e))

  -- all others are as they were
  pub gets_nothing : (t : ℕ) → b.syncs ≡ a.syncs → in_use (slice_get a.threads t) ≡ true → ((u : ℕ) → u ≢ t → slice_get b.threads u ≡ slice_get a.threads u) → GetsNothing a b
  gets_nothing t syncs own others = record {
    syncs = same_syncs syncs;
    threads = λ u. ⊎_elim (λ (e : u ≡ t). used_thread u (ap (λ k. in_use (slice_get a.threads k)) e ∙ own)) (λ (ne : u ≢ t). same_thread u (others u ne)) (cases_eq u t);
  }

  -- and a synchroniser is given back
  pub gives_sync : (t n : ℕ) → slice_get a.syncs n ≡ Some true → b.syncs ≡ slice_set a.syncs n false → in_use (slice_get a.threads t) ≡ true → ((u : ℕ) → u ≢ t → slice_get b.threads u ≡ slice_get a.threads u) → GetsNothing a b
  gives_sync t n taken syncs own others = record {
    syncs = freed_sync n taken syncs;
    threads = λ u. ⊎_elim (λ (e : u ≡ t). used_thread u (ap (λ k. in_use (slice_get a.threads k)) e ∙ own)) (λ (ne : u ≢ t). same_thread u (others u ne)) (cases_eq u t);
  }

  -- one that starts was in use
  started_thread : (n u : ℕ) → ((x : Thread) → slice_get a.threads u ≡ Some x → is_tied x n ≡ true → in_use (slice_get a.threads u) ≡ true) → (not (in_use (slice_get a.threads u)) && in_use (slice_get (all_started a.threads n) u)) ≡ false
  started_thread n u used = by_thread (slice_get a.threads u) refl
    where
      by_tie : (x : Thread) (s : Bool) → slice_get a.threads u ≡ Some x → is_tied x n ≡ s → (not (in_use (slice_get a.threads u)) && in_use (Some (started_by x s))) ≡ false
      by_tie x true e tie = not_got_before (in_use (slice_get a.threads u)) (in_use (Some (started_by x true))) (used x e tie)
      by_tie x false e tie = not_got_same (in_use (slice_get a.threads u)) (in_use (Some x)) (ap in_use (sym e))

      by_thread : (o : Option Thread) → slice_get a.threads u ≡ o → (not (in_use (slice_get a.threads u)) && in_use (slice_get (all_started a.threads n) u)) ≡ false
      by_thread None e =
          not_got_behind (in_use (slice_get a.threads u)) (in_use (slice_get (all_started a.threads n) u))
          (ap in_use (started_at a.threads n u ∙ ap (option_map (λ (x : Thread). started_by x (is_tied x n))) e))
      by_thread (Some x) e =
          ap (λ o. not (in_use (slice_get a.threads u)) && in_use o) (started_at a.threads n u ∙ ap (option_map (λ (i : Thread). started_by i (is_tied i n))) e)
          ∙ by_tie x (is_tied x n) e refl

  -- one that is joined is unused
  joined_thread : (n u : ℕ) → (not (in_use (slice_get a.threads u)) && in_use (slice_get (all_joined a.threads n) u)) ≡ false
  joined_thread n u = by_thread (slice_get a.threads u) refl
    where
      by_tie : (x : Thread) (s : Bool) → slice_get a.threads u ≡ Some x → (not (in_use (slice_get a.threads u)) && in_use (Some (joined_by x s))) ≡ false
      by_tie x true e = not_got_behind (in_use (slice_get a.threads u)) (in_use (Some (joined_by x true))) refl
      by_tie x false e = not_got_same (in_use (slice_get a.threads u)) (in_use (Some x)) (ap in_use (sym e))

      by_thread : (o : Option Thread) → slice_get a.threads u ≡ o → (not (in_use (slice_get a.threads u)) && in_use (slice_get (all_joined a.threads n) u)) ≡ false
      by_thread None e =
          not_got_behind (in_use (slice_get a.threads u)) (in_use (slice_get (all_joined a.threads n) u))
          (ap in_use (joined_at a.threads n u ∙ ap (option_map (λ (x : Thread). joined_by x (is_tied x n))) e))
      by_thread (Some x) e =
          ap (λ o. not (in_use (slice_get a.threads u)) && in_use o) (joined_at a.threads n u ∙ ap (option_map (λ (i : Thread). joined_by i (is_tied i n))) e)
          ∙ by_tie x (is_tied x n) e

  -- the threads that are tied to a synchroniser start, or are joined, and thread t goes on
  pub starts_tied : (t n : ℕ) (own : Thread) → b.syncs ≡ a.syncs → in_use (slice_get a.threads t) ≡ true → b.threads ≡ slice_set (all_started a.threads n) t own →
      ((u : ℕ) (x : Thread) → slice_get a.threads u ≡ Some x → is_tied x n ≡ true → in_use (slice_get a.threads u) ≡ true) → GetsNothing a b
  starts_tied t n own syncs mine threads used = record {
    syncs = same_syncs syncs;
    threads = λ u.
        ⊎_elim
        (λ (e : u ≡ t). used_thread u (ap (λ k. in_use (slice_get a.threads k)) e ∙ mine))
        (λ (ne : u ≢ t).
        ap (λ o. not (in_use (slice_get a.threads u)) && in_use o) (ap (λ l. slice_get l u) threads ∙ get_set_other (all_started a.threads n) t u own ne)
        ∙ started_thread n u (used u))
        (cases_eq u t);
  }

  pub joins_tied : (t n : ℕ) (own : Thread) → b.syncs ≡ a.syncs → in_use (slice_get a.threads t) ≡ true → b.threads ≡ slice_set (all_joined a.threads n) t own → GetsNothing a b
  joins_tied t n own syncs mine threads = record {
    syncs = same_syncs syncs;
    threads = λ u.
        ⊎_elim
        (λ (e : u ≡ t). used_thread u (ap (λ k. in_use (slice_get a.threads k)) e ∙ mine))
        (λ (ne : u ≢ t).
        ap (λ o. not (in_use (slice_get a.threads u)) && in_use o) (ap (λ l. slice_get l u) threads ∙ get_set_other (all_joined a.threads n) t u own ne)
        ∙ joined_thread n u)
        (cases_eq u t);
  }
