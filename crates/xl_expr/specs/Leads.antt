-- Steps that lead to where something holds, whatever happens between them: `Within` of any rely and guarantee.
use Rattle.std.specs.Prelude.{ℕ, zero, suc, ◌⊎◌}
use Rattle.xs_instr.specs.declared.state.CoreState.{CoreState}

module _ (Keeps : CoreState → CoreState → Type 0) (Steps : CoreState → CoreState → Type 0) where
  -- at most n steps lead to where Q holds
  abbrev pub Leads : (CoreState → Type 0) → ℕ → CoreState → Type 0
  Leads Q zero a = Q a
  Leads Q (suc n) a = Q a ⊎ ((b : CoreState) → Keeps a b → (d : CoreState) × Steps b d × Leads Q n d)
