-- What a piece of the program's run makes of the branches: the names stay, and a family makes one more `par`, or none.
use Rattle.std.proofs.Common.{◌≡◌, ℕ, ◌<◌, ◌≤◌, ◌≢◌, List, [], ◌∷◌, ◌++◌, length, Some, refl, sym, ◌∙◌, subst}
use Rattle.std.specs.Prelude.{slice_get, slice_set}
use Rattle.xc_meaning.specs.States.Branches.{Branch}
use Rattle.xl_expr.proofs.Lists.{get_set_other}
use Rattle.xr_match.specs.Meanings.{of_kernel}
use Rattle.xr_match.specs.Sources.{Counted}
use Rattle.xr_simulation.specs.Living.{pars_of}
use Rattle.xr_simulation.specs.Runners.{Setting}
use Rattle.xr_simulation.proofs.Lives.Quiet.{Lengthens, lengthens_by, pars_still}
use Rattle.xr_simulation.proofs.Lives.Families.{AreBornOf, Grown, born_of_below, born_of_one, grown_append, grown_set}

-- one of the branches is another of the same birth
pub grown_one : (bs bs' : List Branch) (n : ℕ) (old new : Branch) → slice_get bs n ≡ Some old → new.birth ≡ old.birth → bs' ≡ slice_set bs n new → Grown bs bs' []
grown_one bs bs' n old new h birth e = subst (λ l. Grown bs l []) (sym e) (grown_set bs n old new h birth)

-- and others are added
pub grown_more : (bs bs' more : List Branch) (n : ℕ) (old new : Branch) → slice_get bs n ≡ Some old → new.birth ≡ old.birth → bs' ≡ slice_set bs n new ++ more → Grown bs bs' more
grown_more bs bs' more n old new h birth e = subst (λ l. Grown bs l more) (sym e) (grown_append bs (slice_set bs n new) more (grown_set bs n old new h birth))

-- one after the other
pub grown_then : (bs bs' bs'' more : List Branch) → Grown bs bs' [] → Grown bs' bs'' more → Grown bs bs'' more
grown_then [] [] bs'' more g h = h
grown_then [] (b' ∷ bs') bs'' more g h = cc
grown_then (b ∷ bs) [] bs'' more g h = absurd g
grown_then (b ∷ bs) (b' ∷ bs') [] more g h = absurd h
grown_then (b ∷ bs) (b' ∷ bs') (b'' ∷ bs'') more g h = (h.0 ∙ g.0, grown_then bs bs' bs'' more g.1 h.1)

-- two branches are others
pub grown_two : (bs bs' : List Branch) (n m : ℕ) (old new old' new' : Branch) → slice_get bs n ≡ Some old → new.birth ≡ old.birth → slice_get bs m ≡ Some old' → new'.birth ≡ old'.birth → m ≢ n → bs' ≡ slice_set (slice_set bs n new) m new' → Grown bs bs' []
grown_two bs bs' n m old new old' new' h birth h' birth' ne e =
    let there : slice_get (slice_set bs n new) m ≡ Some old' = get_set_other bs n m new ne ∙ h' in
    grown_then bs (slice_set bs n new) bs' [] (grown_set bs n old new h birth) (grown_one (slice_set bs n new) bs' m old' new' there birth' e)

-- A piece of the program's run in which no family makes a `par` of two branches or more.
pub record Goes (g : Setting) (x x' : Counted (of_kernel g.program)) : Type 0 where
  pub longer : Lengthens g x x'
  pub pars : (f : ℕ) → pars_of f x'.state.branches ≡ pars_of f x.state.branches

-- no branch is added
pub goes_on : (g : Setting) (x x' : Counted (of_kernel g.program)) → ((f : ℕ) → x.actions f ≤ x'.actions f) → Grown x.state.branches x'.state.branches [] → Goes g x x'
goes_on g x x' actions grown = record {
  longer = lengthens_by g x x' [] actions grown tt;
  pars = λ f. pars_still f x.state.branches x'.state.branches [] grown refl;
}

-- a `par` of one branch
pub goes_into : (g : Setting) (x x' : Counted (of_kernel g.program)) (family : ℕ) (more : List Branch) → ((f : ℕ) → x.actions f ≤ x'.actions f) → Grown x.state.branches x'.state.branches more → AreBornOf family 1 0 more → family < length x.state.branches → Goes g x x'
goes_into g x x' family more actions grown born there = record {
  longer = lengthens_by g x x' more actions grown (born_of_below (length x.state.branches) family 1 0 more there born);
  pars = λ f. pars_still f x.state.branches x'.state.branches more grown (born_of_one family f more born);
}
