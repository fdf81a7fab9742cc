-- The two sides stand so, and the lives' names are so; and these are so with other lives of the same families.
use Rattle.std.proofs.Common.{◌≡◌, ℕ, ◌+◌, ◌*◌, ◌≤◌, List, Some, ◌∙◌}
use Rattle.xc_meaning.specs.Counts.KernelCounts.{kernel_bound}
use Rattle.xc_meaning.specs.Runs.{acts_all}
use Rattle.xc_meaning.specs.States.Worlds.{Action, World}
use Rattle.xr_match.specs.Lives.{Watched}
use Rattle.xr_match.specs.Meanings.{of_kernel}
use Rattle.xr_match.specs.Sources.{Counted, actions_of}
use Rattle.xr_simulation.specs.Living.{AreNamed}
use Rattle.xr_simulation.specs.Roles.{Roles, got_by, unused}
use Rattle.xr_simulation.specs.Runners.{Setting}
use Rattle.xr_simulation.specs.MatchStates.{MatchStates, none_rests}
use Rattle.xr_simulation.proofs.Lives.Quiet.{IsLike, kids_still}
use Rattle.xr_simulation.proofs.Relation.Lasting.{told_by}

-- some roles by which all stand so, nobody is at rest, and the lives are named
pub record Together (g : Setting) (w : Watched) (x : Counted (of_kernel g.program)) : Type 0 where
  pub who : Roles
  pub standing : MatchStates g none_rests who w x
  pub named : AreNamed g who w x

-- a piece of the program's run leads there
pub record Comes (g : Setting) (x : Counted (of_kernel g.program)) (w : Watched) : Type 0 where
  pub piece : List Action
  pub world : World
  pub acted : acts_all g.program g.stimulus (Some x.state) piece ≡ Some world
  pub together : Together g w (told_by g.program g.stimulus x piece world)

module _ (g : Setting) (who : Roles) where
  -- the names are so with other lives of the same families, which did the same
  pub named_like : (w w' : Watched) (x : Counted (of_kernel g.program)) → ((c t : ℕ) → IsLike (w.lives c t) (w'.lives c t)) →
      ((c u t : ℕ) → who c u ≡ got_by t → (w'.lives c u).steps ≡ 0) →
      ((c t : ℕ) → who c t ≡ unused → (w'.lives c t).steps ≤ kernel_bound g.program * (actions_of (of_kernel g.program) x (w'.lives c t).family + 1)) → AreNamed g who w x → AreNamed g who w' x
  named_like w w' x like got over h = record {
    named = λ c t r hand e.
        let n = h.named c t r hand e in
        let same = like c t in
        record {
          name = n.name;
          of_life = same.family ∙ n.of_life;
          number = n.number;
          pars = same.pars ∙ n.pars;
          ties = λ held k f sync opens.
              let q = n.ties held k f sync opens in
              (same.tyings k ∙ q.0, kids_still (w.lives c) (w'.lives c) n.name _ held.threads (λ u m. (like c u).family) q.1);
        };
    got = λ c u t e. (got c u t e, (like c u).pars ∙ (h.got c u t e).1);
    over = over;
    births = h.births;
  }
