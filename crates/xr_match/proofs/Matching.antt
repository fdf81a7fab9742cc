-- From runs that stand beside each other to the words of runs: a machine's events, and the program's actions.
use Rattle.std.proofs.Common.{zero-add, ◌≡◌, ℕ, ◌+◌, ◌*◌, ◌≤◌, List, [], ◌∷◌, ◌++◌, Option, Some, None, refl, sym, subst, ap, ◌∙◌}
use Rattle.std.proofs.lemmas.Option.{same_Some}
use Rattle.xs_instr.specs.declared.image.Image.{Image}
use Rattle.xs_instr.specs.declared.image.Stim.{Stim}
use Rattle.xs_instr.specs.Machine.{Machine, Event, and_then, boot, does, runs}
use Rattle.xc_tree.specs.Plain as tree
use Rattle.xc_kernel.specs.Copies.{copy_of}
use Rattle.xc_meaning.specs.Counts.TextCounts.{program_bound}
use Rattle.xc_meaning.specs.Runs.{acts_all, program_run, program_start}
use Rattle.xc_meaning.specs.States.Worlds.{World, Action}
use Rattle.xr_match.specs.Implements.{Agree, AgreeNow, AgreeWholly}
use Rattle.xr_match.specs.Lives.{Watched, machine_of, watched_after, watched_start}
use Rattle.xr_match.specs.Matching.{AgreeQuietly, CountsAreSteps, LivesAreBounded, MatchAlong, MatchingRun, RunsMatch, RunsMatchWholly, steps_by}
use Rattle.xr_match.specs.Meanings.{family_in, of_text, of_worlds}
use Rattle.xr_match.specs.Sources.{Counted, actions_by, counted_of, counted_start}
use Rattle.xr_match.specs.Systems.{System, SomeIs, IsRun, concat, leads, Along, Refines}
use Rattle.xr_match.proofs.Counted.{counted_steps, uncounted}
use Rattle.xr_match.proofs.Through.{leads_both, there_get, there_put}
use Rattle.xr_match.proofs.RunsBeside.{same_run}

-- what is counted beside a run from its start on
pub counts_are_steps : CountsAreSteps
counts_are_steps K s start bound actions z e f =
    let led : acts_all K s (Some start) actions ≡ Some z.state =
    same_run K s start bound actions start ∙ uncounted (of_worlds K start bound) s actions (counted_start (of_worlds K start bound)) z e in
    let counted = counted_steps K s start bound actions (counted_start (of_worlds K start bound)) z.state led in
    ap (λ (x : Counted (of_worlds K start bound)). x.actions f) (same_Some _ _ (sym e ∙ counted.1)) ∙ (counted.3 f ∙ zero-add _)

-- a machine's run, with the lives of its threads
module _ (L : Image) (s : Stim) where
  with_lives : (events : List Event) (w : Watched) (m : Machine) → runs L s w.machine events ≡ Some m →
      (z : Watched) × (leads (machine_of L s) w events ≡ Some z) × (z.machine ≡ m)
  with_lives [] w m e = (w, refl, same_Some _ _ e)
  with_lives (a ∷ events) w m e = go (with_lives events) (does L s w.machine a) refl e
    where
      go : ((w' : Watched) (m' : Machine) → runs L s w'.machine events ≡ Some m' →
          (z : Watched) × (leads (machine_of L s) w' events ≡ Some z) × (z.machine ≡ m')) →
          (o : Option Machine) → does L s w.machine a ≡ o → and_then o (λ x. runs L s x events) ≡ Some m →
          (z : Watched) × (leads (machine_of L s) w (a ∷ events) ≡ Some z) × (z.machine ≡ m)
      go next None acted h = absurd cc
      go next (Some x) acted h =
          let rest = next (watched_after w a x) m h in
          let first = ap (λ (o : Option Machine). and_then (and_then o (λ y. Some (watched_after w a y))) (λ y. leads (machine_of L s) y events)) acted in
          (rest.0, first ∙ rest.1, rest.2)

  -- an event of the machine, by one with lives
  done_by : (w z : Watched) (event : Event) (o : Option Machine) → and_then o (λ m. Some (watched_after w event m)) ≡ Some z → o ≡ Some z.machine
  done_by w z event None e = absurd cc
  done_by w z event (Some m) e = ap (λ (v : Watched). Some v.machine) (same_Some _ _ e)

-- where a run has one beside it, the pieces make one list, and the two stand so in the end
module _ (A B : System) (R : A.State → B.State → Type 0) where
  along_to_end : (steps : List A.Step) (pieces : List (List B.Step)) (x x' : A.State) (y : B.State) →
      leads A x steps ≡ Some x' → Along A B R x y steps pieces → (y' : B.State) × (leads B y (concat pieces) ≡ Some y') × R x' y'
  along_to_end [] [] x x' y e h = (y, refl, subst (λ z. R z y) (same_Some _ _ e) h)
  along_to_end [] (p ∷ ps) x x' y e h = absurd h
  along_to_end (a ∷ steps) [] x x' y e h = absurd h
  along_to_end (a ∷ steps) (p ∷ ps) x x' y e h =
      let one = there_get (λ z. SomeIs (leads B y p) (λ w. Along A B R z w steps ps)) (A.next x a) h.1 in
      let two = there_get (λ w. Along A B R one.0 w steps ps) (leads B y p) one.2 in
      let on : leads A one.0 steps ≡ Some x' = ap (λ (o : Option A.State). and_then o (λ z. leads A z steps)) (sym one.1) ∙ e in
      let rest = along_to_end steps ps one.0 x' two.0 on two.2 in
      (rest.0, leads_both B p (concat ps) y two.0 two.1 ∙ rest.1, rest.2)

module _ (L : Image) (P : List tree.Item) (s : Stim) where
  abbrev Text : System
  Text = counted_of (of_text P) s

  -- where actions lead, by one with counts
  acted : (actions : List Action) (x z : Counted (of_text P)) → leads Text x actions ≡ Some z → acts_all (copy_of P) s (Some x.state) actions ≡ Some z.state
  acted actions x z e =
      same_run (copy_of P) s (program_start P) (of_text P).bound actions x.state ∙ uncounted (of_text P) s actions x z e

  module _ (R : Watched → Counted (of_text P) → Type 0) (S : Machine → World → Type 0)
      (seen : (w : Watched) (x : Counted (of_text P)) → R w x → S w.machine x.state) where
    along : (events : List Event) (pieces : List (List Action)) (w : Watched) (x : Counted (of_text P)) →
        Along (machine_of L s) Text R w x events pieces → MatchAlong S L P s w.machine x.state events pieces
    along [] [] w x h = seen w x h
    along [] (p ∷ ps) w x h = absurd h
    along (a ∷ events) [] w x h = absurd h
    along (a ∷ events) (p ∷ ps) w x h =
        let one = there_get (λ v. SomeIs (leads Text x p) (λ y. Along (machine_of L s) Text R v y events ps))
        (and_then (does L s w.machine a) (λ m. Some (watched_after w a m))) h.1 in
        let two = there_get (λ y. Along (machine_of L s) Text R one.0 y events ps) (leads Text x p) one.2 in (
          seen w x h.0,
          there_put (λ n. SomeIs (acts_all (copy_of P) s (Some x.state) p) (λ y. MatchAlong S L P s n y events ps)) (does L s w.machine a)
              one.0.machine (done_by L s w one.0 a (does L s w.machine a) one.1)
              (there_put (λ y. MatchAlong S L P s one.0.machine y events ps) (acts_all (copy_of P) s (Some x.state) p) two.0.state
              (acted p x two.0 two.1) (along events ps one.0 two.0 two.2)),
        )

    -- the whole run, with where the program stands in the end
    pub record Matched (events : List Event) (m : Machine) : Type 0 where
      pub run : MatchingRun S L P s events m
      pub lives : Watched
      pub lived : leads (machine_of L s) (watched_start L) events ≡ Some lives
      pub counted : Counted (of_text P)
      pub counts : leads Text (counted_start (of_text P)) (run.first ++ concat run.pieces) ≡ Some counted
      pub at : run.state ≡ counted.state
      pub stand : R lives counted

    matched : (events : List Event) (m : Machine) → runs L s (boot L) events ≡ Some m → Refines (machine_of L s) Text R → Matched events m
    matched events m e refines =
        let w = with_lives L s events (watched_start L) m e in
        let is : IsRun (machine_of L s) events = subst (λ o. SomeIs o (λ x. Unit {0})) (sym w.1) tt in
        let b = refines.by events is in
        let x = there_get (λ y. Along (machine_of L s) Text R (watched_start L) y events b.pieces) (leads Text (counted_start (of_text P)) b.first) b.along in
        let z = along_to_end (machine_of L s) Text R events b.pieces (watched_start L) w.0 x.0 w.1 x.2 in
        let whole = leads_both Text b.first (concat b.pieces) (counted_start (of_text P)) x.0 x.1 ∙ z.1 in
        record {
          run = record {
            first = b.first;
            pieces = b.pieces;
            along = there_put (λ y. MatchAlong S L P s (boot L) y events b.pieces) (program_run P s b.first) x.0.state
                (acted b.first (counted_start (of_text P)) x.0 x.1) (along events b.pieces (watched_start L) x.0 x.2);
            state = z.0.state;
            is_run = acted (b.first ++ concat b.pieces) (counted_start (of_text P)) z.0 whole;
            last = subst (λ n. S n z.0.state) w.2 (seen w.0 z.0 z.2);
          };
          lives = w.0;
          lived = w.1;
          counted = z.0;
          counts = whole;
          at = refl;
          stand = z.2;
        }

  counted_so : (actions : List Action) (z : Counted (of_text P)) → leads Text (counted_start (of_text P)) actions ≡ Some z →
      (o : Option ℕ) → actions_by (of_text P) z o ≡ steps_by P s actions o
  counted_so actions z e None = refl
  counted_so actions z e (Some f) = counts_are_steps (copy_of P) s (program_start P) (of_text P).bound actions z e f

  -- the bound on the lives, by what is counted beside the run
  bounded_by : (events : List Event) (actions : List Action) (w : Watched) (z : Counted (of_text P)) →
      leads (machine_of L s) (watched_start L) events ≡ Some w → leads Text (counted_start (of_text P)) actions ≡ Some z →
      AgreeWholly L (of_text P) s w z → LivesAreBounded L P s events actions z.state
  bounded_by events actions w z lived counts wholly v lived' core thread = subst Bounded (same_Some w v (sym lived ∙ lived')) by_counts
    where
      Bounded : Watched → Type 0
      Bounded v =
          (v.lives core thread).steps ≤
          program_bound P * (steps_by P s actions (and_then (v.lives core thread).family (family_in (copy_of P) z.state)) + 1)

      by_counts : Bounded w
      by_counts =
          subst (λ n. (w.lives core thread).steps ≤ program_bound P * (n + 1))
          (counted_so actions z counts (and_then (w.lives core thread).family (family_in (copy_of P) z.state)))
          (wholly.bounded core thread)

pub runs_match : RunsMatch
runs_match L P s implements good events m e =
    (matched L P s (AgreeNow L (of_text P)) (Agree L (of_text P)) (λ w x agree. agree) events m e (implements.by s good)).run

pub runs_match_wholly : RunsMatchWholly
runs_match_wholly L P s implements good events m e =
    let r : Matched L P s (AgreeWholly L (of_text P) s) (AgreeQuietly L P s) seen_wholly events m =
    matched L P s (AgreeWholly L (of_text P) s) (AgreeQuietly L P s) seen_wholly events m e (implements.by s good) in
    record {
      run = r.run;
      bounded = subst (λ x. LivesAreBounded L P s events (r.run.first ++ concat r.run.pieces) x) (sym r.at)
          (bounded_by L P s events (r.run.first ++ concat r.run.pieces) r.lives r.counted r.lived r.counts r.stand);
    }
  where
    seen_wholly : (w : Watched) (x : Counted (of_text P)) → AgreeWholly L (of_text P) s w x → AgreeQuietly L P s w.machine x.state
    seen_wholly w x h = record { agree = h.agree; quiet = h.quiet }
