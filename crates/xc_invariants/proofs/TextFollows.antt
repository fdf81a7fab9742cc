-- The exits of a placed kernel meet their marks in each state of its runs, so its text follows it closely.
use Rattle.std.proofs.Common.{◌≡◌, ⊎_elim, ℕ, Bool, true, false, IsTrue, List, [], ◌∷◌, Option, Some, None, nat_eq, refl, sym, subst, ◌∙◌, ap, true≢false, T, eqb→eq}
use Rattle.xs_instr.specs.declared.image.Stim.{Stim}
use Rattle.xc_kernel.specs.Plain as kernel
use Rattle.xc_meaning.specs.States.Items.{Item, does, says, stores, stamps, mark, awaits, transaction_end, chooses, fixed, ends}
use Rattle.xc_meaning.specs.States.Branches.{runs, Branch}
use Rattle.xc_meaning.specs.States.Worlds.{World, Action}
use Rattle.xc_meaning.specs.Settings.Channels.{is_among}
use Rattle.xc_meaning.specs.Settings.Flow.{from_mark_by, items_from_mark}
use Rattle.xc_meaning.specs.Runs.{acts, acts_all, kernel_start}
use Rattle.xc_meaning.specs.Outline.{Moved}
use Rattle.xc_meaning.specs.Follows.{HasMark, ExitsMeet, ExitsMeetIn}
use Rattle.xc_meaning.proofs.Basics.{some_given, none_given, or_cases}
use Rattle.xc_meaning.proofs.Moved.{moved}
use Rattle.xc_meaning.proofs.Recursion.End.{calls_end}
use Rattle.xc_meaning.proofs.Simulation.Theorem.{text_follows_closely}
use Rattle.xc_invariants.specs.Each.{EachItem}
use Rattle.xc_invariants.specs.Rules.{AnyThing, AnyPar, AnyTransaction}
use Rattle.xc_invariants.specs.Placed.{AnyBlock, AnyInside, open_of, PlacedItems, WellPlaced, EachPlaced, IfLively, IsPlaced}
use Rattle.xc_invariants.specs.Lawful.{KernelsAt}
use Rattle.xc_invariants.specs.TextFollows.{ExitsAreMet, TypedTextFollowsClosely}
use Rattle.xc_invariants.proofs.Uses.{every_kept, no_text}
use Rattle.xc_invariants.proofs.Apart.{kernels_begin}
use Rattle.xc_invariants.proofs.Placed.{placed_kept, placed_begins}
use Rattle.xc_invariants.proofs.Copied.{copies_are_placed}

-- A mark among items is met from them.

mark_met : (n m : ℕ) (rest : List Item) (b : Bool) → nat_eq n m ≡ b → (IsTrue (is_among n (open_of rest)) → HasMark n rest) → IsTrue b → HasMark n (mark m ∷ rest)
mark_met n m rest true e h t =
    record { behind = rest; is = ap (λ b. from_mark_by b (mark m ∷ rest) (items_from_mark n rest)) e ∙ ap (λ k. mark k ∷ rest) (sym (eqb→eq n m (subst T (sym e) tt))) }
mark_met n m rest false e h t = absurd (true≢false (sym t))

mark_later : (n m : ℕ) (rest : List Item) (b : Bool) → nat_eq n m ≡ b → HasMark n rest → HasMark n (mark m ∷ rest)
mark_later n m rest true e h =
    record { behind = rest; is = ap (λ b. from_mark_by b (mark m ∷ rest) (items_from_mark n rest)) e ∙ ap (λ k. mark k ∷ rest) (sym (eqb→eq n m (subst T (sym e) tt))) }
mark_later n m rest false e h = record { behind = h.behind; is = ap (λ b. from_mark_by b (mark m ∷ rest) (items_from_mark n rest)) e ∙ h.is }

among_met : (n : ℕ) (items : List Item) → IsTrue (is_among n (open_of items)) → HasMark n items
among_met n [] t = absurd (true≢false (sym t))
among_met n (does s ∷ rest) t = let h : HasMark n rest = among_met n rest t in record { behind = h.behind; is = h.is }
among_met n (says i ∷ rest) t = let h : HasMark n rest = among_met n rest t in record { behind = h.behind; is = h.is }
among_met n (stores place v ∷ rest) t = let h : HasMark n rest = among_met n rest t in record { behind = h.behind; is = h.is }
among_met n (stamps resource place v ∷ rest) t = let h : HasMark n rest = among_met n rest t in record { behind = h.behind; is = h.is }
among_met n (mark m ∷ rest) t =
    ⊎_elim (mark_met n m rest (nat_eq n m) refl (among_met n rest)) (λ u. mark_later n m rest (nat_eq n m) refl (among_met n rest u)) (or_cases (nat_eq n m) (is_among n (open_of rest)) t)
among_met n (awaits c pos ∷ rest) t = let h : HasMark n rest = among_met n rest t in record { behind = h.behind; is = h.is }
among_met n (transaction_end c is_master pos ∷ rest) t = absurd (true≢false (sym t))
among_met n (chooses choices otherwise ∷ rest) t = let h : HasMark n rest = among_met n rest t in record { behind = h.behind; is = h.is }
among_met n (fixed i v counter ∷ rest) t = let h : HasMark n rest = among_met n rest t in record { behind = h.behind; is = h.is }
among_met n (ends ∷ rest) t = let h : HasMark n rest = among_met n rest t in record { behind = h.behind; is = h.is }

-- So it is in each state of a placed kernel's runs.

record IsMet (x : World) : Type 0 where
  pub kernels : EachItem KernelsAt x.branches
  pub placed : EachPlaced AnyBlock AnyInside x.branches

met_after : (K : kernel.Kernel) (s : Stim) (x y : World) → Moved K s x y → IsMet x → IsMet y
met_after K s x y m h = record { kernels = every_kept K s x AnyThing AnyPar AnyTransaction h.kernels m; placed = placed_kept AnyBlock AnyInside K s x h.placed m }

met_along : (K : kernel.Kernel) (s : Stim) (ms : List Action) (o : Option World) (y : World) → ((x : World) → o ≡ Some x → IsMet x) → acts_all K s o ms ≡ Some y → IsMet y
met_along K s ms None y h e = none_given e
met_along K s [] (Some x) y h e = h y e
met_along K s (m ∷ ms) (Some x) y h e =
    let g : IsMet x = h x refl in
    met_along K s ms (acts K s x m) y (λ z f. met_after K s x z (moved K s x (no_text K s x g.kernels) m f) g) e

lively_runs : (b : Branch) → b.mode ≡ runs → IfLively b.mode (WellPlaced AnyBlock AnyInside b) → WellPlaced AnyBlock AnyInside b
lively_runs b em h = subst (λ m. IfLively m (WellPlaced AnyBlock AnyInside b)) em h

meets : (x : World) → IsMet x → ExitsMeetIn x.branches
meets x h = record {
  meet = λ n b e em block rest ei.
      let w : WellPlaced AnyBlock AnyInside b = lively_runs b em (h.placed.each n b e) in
      let p : PlacedItems AnyBlock AnyInside (does (kernel.exit block) ∷ rest) = subst (PlacedItems AnyBlock AnyInside) ei w.placed in
      among_met block rest p.0;
}

placed_meet : (K : kernel.Kernel) → IsPlaced AnyBlock AnyInside K → (s : Stim) → ExitsMeet K s
placed_meet K h s = record {
  each = λ ms x e. meets x
      (met_along K s ms (Some (kernel_start K)) x (λ z f. subst IsMet (some_given f) (record { kernels = kernels_begin K; placed = placed_begins AnyBlock AnyInside K h })) e);
}

pub exits_are_met : ExitsAreMet
exits_are_met P K named types typed copies s = placed_meet K (subst (IsPlaced AnyBlock AnyInside) (sym copies.is_copy) (copies_are_placed P named types typed)) s

pub typed_text_follows_closely : TypedTextFollowsClosely
typed_text_follows_closely P K named types typed copies s ms leads = text_follows_closely P K (calls_end P named types typed) copies s (exits_are_met P K named types typed copies s) ms leads
