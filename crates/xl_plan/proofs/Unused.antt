-- Code that doesn't use a channel has no `par` whose branches are the channel's sides.
use Rattle.std.proofs.Common.{◌≡◌, ℕ, false, ◌&&◌, ◌||◌, List, [], ◌∷◌, ◌++◌, nat_eq, refl, ap, ◌∙◌, arith}
use Rattle.xc_kernel.specs.Plain as kernel
use Rattle.xc_kernel.specs.Things.{channel, by_statement, by_statements, by_cases, by_default, by_branch, by_branches}
use Rattle.xc_kernel.specs.Uses.{once}
use Rattle.xc_kernel.specs.Branches.{uses_in, users, some_has_sides}
use Rattle.xc_kernel.specs.Pars as pars
use Rattle.xc_kernel.proofs.Used.{or_false}

module _ (c : ℕ) where
  no_users : (bs : kernel.Branches) → by_branches (channel c) bs ≡ false → users c bs ≡ 0
  no_users kernel.no_branch h = refl
  no_users (kernel.more_branches b bs) h =
      let g = or_false (by_branch (channel c) b) (by_branches (channel c) bs) h in
      let e = ap once g.0 in
      let f = no_users bs g.1 in
      omega arith

  -- of none of these `par`s a branch uses it
  abbrev pub AreUnused : List kernel.Branches → Type 0
  AreUnused [] = Unit {0}
  AreUnused (bs ∷ ps) = (users c bs ≡ 0) × AreUnused ps

  both : (ps qs : List kernel.Branches) → AreUnused ps → AreUnused qs → AreUnused (ps ++ qs)
  both [] qs h g = g
  both (bs ∷ ps) qs h g = (h.0, both ps qs h.1 g)

  mutual
    in_statement : (s : kernel.Statement) → by_statement (channel c) s ≡ false → AreUnused (pars.of_statement s)
    in_statement (kernel.set_zero v) h = tt
    in_statement (kernel.set p e) h = tt
    in_statement (kernel.output o) h = tt
    in_statement (kernel.input i) h = tt
    in_statement (kernel.if_then e a b) h =
        let g = or_false _ _ (or_false _ _ h).1 in both (pars.of_statements a) (pars.of_statements b) (in_statements a g.0) (in_statements b g.1)
    in_statement (kernel.loop e a b) h =
        let g = or_false _ _ (or_false _ _ h).1 in both (pars.of_statements a) (pars.of_statements b) (in_statements a g.0) (in_statements b g.1)
    in_statement (kernel.block n a) h = in_statements a h
    in_statement (kernel.exit n) h = tt
    in_statement (kernel.select cs d pos) h = let g = or_false _ _ h in both (pars.of_cases cs) (pars.of_default d) (in_cases cs g.0) (in_default d g.1)
    in_statement (kernel.par bs) h = (no_users bs h, in_branches bs h)
    in_statement (kernel.transaction d is_master a start close) h = in_statements a (or_false _ _ h).1

    pub in_statements : (ss : kernel.Statements) → by_statements (channel c) ss ≡ false → AreUnused (pars.of_statements ss)
    in_statements kernel.no_more h = tt
    in_statements (kernel.more s ss) h =
        let g = or_false _ _ h in both (pars.of_statement s) (pars.of_statements ss) (in_statement s g.0) (in_statements ss g.1)

    in_cases : (cs : kernel.Cases) → by_cases (channel c) cs ≡ false → AreUnused (pars.of_cases cs)
    in_cases kernel.no_case h = tt
    in_cases (kernel.more_cases (kernel.case guard i a) cs) h =
        let g = or_false _ _ h in
        let own = (or_false _ _ (or_false _ _ g.0).1).1 in
        both (pars.of_statements a) (pars.of_cases cs) (in_statements a own) (in_cases cs g.1)

    in_default : (d : kernel.Default) → by_default (channel c) d ≡ false → AreUnused (pars.of_default d)
    in_default kernel.no_default h = tt
    in_default (kernel.default a) h = in_statements a h

    in_branches : (bs : kernel.Branches) → by_branches (channel c) bs ≡ false → AreUnused (pars.of_branches bs)
    in_branches kernel.no_branch h = tt
    in_branches (kernel.more_branches (kernel.branch a pos) bs) h =
        let g = or_false _ _ h in both (pars.of_statements a) (pars.of_branches bs) (in_statements a g.0) (in_branches bs g.1)

  -- of a whole `par`
  pub in_par : (bs : kernel.Branches) → by_branches (channel c) bs ≡ false → AreUnused (bs ∷ pars.of_branches bs)
  in_par bs h = in_statement (kernel.par bs) h

  pub none_has_sides : (count : ℕ) (ps : List kernel.Branches) → AreUnused ps → some_has_sides c count ps ≡ false
  none_has_sides count [] h = refl
  none_has_sides count (bs ∷ ps) h =
      ap (λ n. nat_eq n 2 && nat_eq (uses_in c bs) count || some_has_sides c count ps) h.0 ∙ none_has_sides count ps h.1
