-- The use of a channel in all code, and in the roots as one `par`.
use Rattle.std.proofs.Common.{◌≡◌, ℕ, ◌+◌, Bool, true, false, List, [], ◌∷◌, ◌++◌, nat_eq, sym, subst, arith}
use Rattle.std.proofs.lemmas.Bool.Decides.{nat_tests}
use Rattle.xc_kernel.specs.declared.statement.KRes.{KRes}
use Rattle.xc_kernel.specs.declared.statement.KRes.TheVariants.{Port, Timer, Chan}
use Rattle.xc_kernel.specs.Plain as kernel
use Rattle.xc_kernel.specs.Things as things
use Rattle.xc_kernel.specs.Uses as uses
use Rattle.xc_kernel.specs.Uses.{Use, once, count_of}
use Rattle.xc_kernel.specs.Pars as pars
use Rattle.xc_kernel.specs.Branches.{uses_in}
use Rattle.xc_kernel.proofs.Used.{count_append}
use Rattle.xc_disjoint.specs.Uses as own
use Rattle.xc_disjoint.specs.Uses.{Uses, Shares, no_uses, no_shares, all_after, all_with, uses_of, only, use_if, one_use, of_resource}
use Rattle.xc_disjoint.proofs.Users.{snoc, behind, behind_snoc, behind_none}
use Rattle.xc_disjoint.proofs.Holding.{Fits, Shared, both, nothing, one_use_fits, no_branch_yet, of_par, one_more}

module _ (c : ℕ) where
  followed : (us vs : List Use) (ps qs : List kernel.Branches) (f g : Uses) → Fits c (count_of c us) ps (f c) → Fits c (count_of c vs) qs (g c) → Fits c (count_of c (us ++ vs)) (ps ++ qs) (all_after f g c)
  unfolding all_after
  followed us vs ps qs f g h k = subst (λ n. Fits c n (ps ++ qs) (own.some_after (f c) (g c))) (sym (count_append c us vs)) (both c (count_of c us) (count_of c vs) ps qs (f c) (g c) h k)

  no_use : Fits c (count_of c []) [] (no_uses c)
  unfolding no_uses
  no_use = nothing c

  use_of : (u : Use) → Fits c (count_of c (u ∷ [])) [] (of_resource u.resource c)
  unfolding no_uses only
  use_of u = by u.resource
    where
      at : (b : Bool) → Fits c (once b + 0) [] (use_if b one_use)
      at true = one_use_fits c
      at false = nothing c

      swapped : (a b : ℕ) → nat_eq a b ≡ nat_eq b a
      swapped a b = grind (arith, nat_tests)

      by : (r : KRes) → Fits c (once (things.by_resource (things.channel c) r) + 0) [] (of_resource r c)
      by (Port n) = nothing c
      by (Timer n) = nothing c
      by (Chan n) = subst (λ b. Fits c (once (nat_eq c n) + 0) [] (use_if b one_use)) (swapped c n) (at (nat_eq c n))

  mutual
    unfolding uses_of all_with no_shares

    of_statement : (s : kernel.Statement) → Fits c (count_of c (uses.of_statement s)) (pars.of_statement s) (own.of_statement s c)
    of_statement (kernel.set_zero v) = no_use
    of_statement (kernel.set p e) = no_use
    of_statement (kernel.output o) = use_of (uses.of_output o)
    of_statement (kernel.input i) = use_of (uses.of_input i)
    of_statement (kernel.if_then test a b) = followed (uses.of_statements a) (uses.of_statements b) (pars.of_statements a) (pars.of_statements b) (own.of_statements a) (own.of_statements b) (of_statements a) (of_statements b)
    of_statement (kernel.loop test a b) = followed (uses.of_statements a) (uses.of_statements b) (pars.of_statements a) (pars.of_statements b) (own.of_statements a) (own.of_statements b) (of_statements a) (of_statements b)
    of_statement (kernel.block n a) = of_statements a
    of_statement (kernel.exit n) = no_use
    of_statement (kernel.select cs d pos) = followed (uses.of_cases cs) (uses.of_default d) (pars.of_cases cs) (pars.of_default d) (own.of_cases cs) (own.of_default d) (of_cases cs) (of_default d)
    of_statement (kernel.par bs) = of_par c bs (own.with_branches no_shares bs c) (of_branches kernel.no_branch no_shares bs (no_branch_yet c))
    of_statement (kernel.transaction d is_master a start close) =
        followed (uses.of_channel d start ∷ []) (uses.of_statements a) [] (pars.of_statements a) (only d one_use) (own.of_statements a) (use_of (uses.of_channel d start)) (of_statements a)

    pub of_statements : (ss : kernel.Statements) → Fits c (count_of c (uses.of_statements ss)) (pars.of_statements ss) (own.of_statements ss c)
    of_statements kernel.no_more = no_use
    of_statements (kernel.more s ss) = followed (uses.of_statement s) (uses.of_statements ss) (pars.of_statement s) (pars.of_statements ss) (own.of_statement s) (own.of_statements ss) (of_statement s) (of_statements ss)

    of_case : (a : kernel.Case) → Fits c (count_of c (uses.of_case a)) (pars.of_case a) (own.of_case a c)
    of_case (kernel.case guard i a) = followed (uses.of_input i ∷ []) (uses.of_statements a) [] (pars.of_statements a) (of_resource i.resource) (own.of_statements a) (use_of (uses.of_input i)) (of_statements a)

    of_cases : (cs : kernel.Cases) → Fits c (count_of c (uses.of_cases cs)) (pars.of_cases cs) (own.of_cases cs c)
    of_cases kernel.no_case = no_use
    of_cases (kernel.more_cases a cs) = followed (uses.of_case a) (uses.of_cases cs) (pars.of_case a) (pars.of_cases cs) (own.of_case a) (own.of_cases cs) (of_case a) (of_cases cs)

    of_default : (d : kernel.Default) → Fits c (count_of c (uses.of_default d)) (pars.of_default d) (own.of_default d c)
    of_default kernel.no_default = no_use
    of_default (kernel.default a) = of_statements a

    -- of branches behind others
    of_branches : (front : kernel.Branches) (shares : Shares) (bs : kernel.Branches) → Shared c front (shares c) → Shared c (behind front bs) (own.with_branches shares bs c)
    of_branches front shares kernel.no_branch h = subst (λ x. Shared c x (shares c)) (sym (behind_none front)) h
    of_branches front shares (kernel.more_branches (kernel.branch ss pos) bs) h =
        subst (λ x. Shared c x (own.with_branches (all_with pos shares (own.of_statements ss)) bs c)) (behind_snoc front (kernel.branch ss pos) bs)
        (of_branches (snoc front (kernel.branch ss pos)) (all_with pos shares (own.of_statements ss)) bs (one_more c front ss pos (shares c) (own.of_statements ss c) h (of_statements ss)))

  -- of the branches of a whole `par`
  pub of_whole : (bs : kernel.Branches) → Fits c (uses_in c bs) (bs ∷ pars.of_branches bs) (own.of_statement (kernel.par bs) c)
  of_whole bs = of_statement (kernel.par bs)

  -- how the branches of a whole `par` share it
  pub of_shares : (bs : kernel.Branches) → Shared c bs (own.with_branches no_shares bs c)
  unfolding no_shares
  of_shares bs = of_branches kernel.no_branch no_shares bs (no_branch_yet c)
