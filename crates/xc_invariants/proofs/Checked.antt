-- What a kernel is that is checked.
use Rattle.std.proofs.Common.{◌≡◌, inl, inr, subst, ⊎_elim, ℕ, zero, suc, ◌<◌, IsTrue, List, [], ◌∷◌, length, Some, Contains, slice_get, refl, sym, ap, ◌∙◌, arith}
use Rattle.xc_kernel.specs.declared.kernel.PortUse.{PortUse}
use Rattle.xc_kernel.specs.declared.statement.KRes.TheVariants.{Port}
use Rattle.xc_kernel.specs.Plain as kernel
use Rattle.xc_kernel.specs.Uses as uses
use Rattle.xc_kernel.specs.Uses.{Use}
use Rattle.xc_disjoint.specs.Checked.{IsChecked}
use Rattle.xc_disjoint.specs.Rules.{apart, elsewhere}
use Rattle.xc_meaning.specs.Runs.{kernel_start}
use Rattle.xc_meaning.specs.States.Branches.{runs, Branch, side_of}
use Rattle.xc_meaning.specs.Settings.Channels.{is_among}
use Rattle.xc_kernel.specs.Things.{channel}
use Rattle.xc_meaning.specs.States.Worlds.{World}
use Rattle.xc_wellformed.proofs.Formed.{of_programs}
use Rattle.xc_invariants.specs.Placed.{IsDistinct, AnyInside, ends_of, IfLively}
use Rattle.xc_invariants.specs.Nested.{StandsInside, EachInside}
use Rattle.xc_invariants.specs.Rules.{AnyPar, AnyTransaction}
use Rattle.xc_invariants.specs.Lawful.{UsesOwnPorts, CheckedObey, BlocksAreDistinct, BlocksAreDistinctHolds, InsideHolds, EndsAreBehind, UsersAreInside, Listed, KernelsAreListed, CheckedListed, Lawful}
use Rattle.xc_invariants.proofs.Always.{accepted_obey, ends_use, differ_not, along, laws_begin, laws_hold, listed_holds}
use Rattle.xc_invariants.proofs.Channels.{copies_are_listed}
use Rattle.xc_invariants.proofs.Formed.{fresh_blocks, transactions_listed}
use Rattle.xc_invariants.proofs.Placed.{placed_kept, placed_begins}
use Rattle.xc_invariants.proofs.Nested.{inside_kept, inside_begins, end_is_behind, ends_inside, above_stands, all_below}
use Rattle.xc_invariants.proofs.Trees.{running_waits_not, above_waits}
use Rattle.xc_invariants.proofs.Links.{items_have}
use Rattle.xc_meaning.proofs.Basics.{some_given, none_given, same_or_not}

contains : {A : Type 0} (xs : List A) (i : ℕ) (a : A) → slice_get xs i ≡ Some a → Contains xs a
contains [] i a e = none_given e
contains (x ∷ xs) zero a e = (0, omega arith, some_given e)
contains (x ∷ xs) (suc i) a e = let h = contains xs i a e in let l = h.1 in (suc h.0, omega arith, h.2)

own_ports : (K : kernel.Kernel) → IsChecked K → UsesOwnPorts K
own_ports K h = record { own = own }
  where
    own : (j : ℕ) (r : kernel.Root) → slice_get K.roots j ≡ Some r → (i : ℕ) (u : Use) → slice_get (uses.of_statements r.body) i ≡ Some u → (n : ℕ) → u.resource ≡ Port n → (p : PortUse) → slice_get K.ports n ≡ Some p → p.core ≡ r.core
    own j r root i u there n is_port p port =
        ⊎_elim (λ e. e)
        (λ ne. absurd (h.unbroken (record { rule = 706; pos = u.pos }) (elsewhere (record {
          root = r;
          among = contains K.roots j r root;
          used = u;
          elsewhere = record { among = contains (uses.of_statements r.body) i u there; number = n; resource = is_port; port = p; is_port = port; other_core = ne };
          place = refl;
        }))))
        (same_or_not p.core r.core)

pub checked_obey : CheckedObey
checked_obey K h =
    accepted_obey h.of_program.program h.of_program.sound.named h.of_program.sound.types h.of_program.sound.typed K h.of_program.copies
    (λ b g. h.unbroken b (apart g)) (own_ports K h)

-- its blocks are fresh in each state of its runs
pub fresh_holds : BlocksAreDistinctHolds
fresh_holds K s ms x k e =
    along BlocksAreDistinct K s (λ a b m h t. record { placed = placed_kept IsDistinct AnyInside K s a t.placed m }) ms (Some (kernel_start K)) x
    (λ z f. (subst (Lawful K) (some_given f) (laws_begin K (checked_obey K k)), subst BlocksAreDistinct (some_given f) (record { placed = placed_begins IsDistinct AnyInside K (fresh_blocks K (of_programs K k.of_program).exits) }))) e

-- each branch stands in the transactions whose ends are its own and in those of the one that waits for it
pub inside_holds : InsideHolds
inside_holds K s ms x k e =
    along (λ w. EachInside (length K.roots) w.branches) K s (λ a b m h t. inside_kept K s a (length K.roots) h.forest h.placed t m) ms (Some (kernel_start K)) x
    (λ z f. (subst (Lawful K) (some_given f) (laws_begin K (checked_obey K k)), subst (λ w. EachInside (length K.roots) w.branches) (some_given f) (inside_begins K (checked_obey K k).placed))) e

stands_running : (K : kernel.Kernel) (x : World) → EachInside (length K.roots) x.branches → (n : ℕ) (b : Branch) → slice_get x.branches n ≡ Some b → b.mode ≡ runs → StandsInside (length K.roots) x.branches n b
stands_running K x h n b e em = subst (λ m. IfLively m (StandsInside (length K.roots) x.branches n b)) em (h.each n b e)

pub ends_are_behind : EndsAreBehind
ends_are_behind K s ms x k e n b is em c u =
    let h = inside_holds K s ms x k e in
    end_is_behind (length K.roots) x.branches (laws_hold K s ms x (checked_obey K k) e).forest h n b (stands_running K x h n b is em) c u

-- and its channels are listed
pub kernels_are_listed : KernelsAreListed
kernels_are_listed K o = copies_are_listed o.program K o.copies (transactions_listed K (of_programs K o).transactions)

pub checked_listed : CheckedListed
checked_listed K s ms x k e = listed_holds K s ms x (checked_obey K k) (kernels_are_listed K k.of_program) e

-- while a transaction's end is among a branch's items, who uses the channel on its side stands in the transaction
pub users_are_inside : UsersAreInside
users_are_inside K s ms x k e m n b d ib id em c u es v =
    let lawful = laws_hold K s ms x (checked_obey K k) e in
    let h = inside_holds K s ms x k e in
    let lt : c < length K.channels = items_have (Listed K) AnyPar AnyTransaction (channel c) d.items ((checked_listed K s ms x k e).all n d id) v in
    let stands = stands_running K x h n d id em in
    ⊎_elim
    (λ q. let same : b ≡ d = some_given (sym ib ∙ ap (slice_get x.branches) (sym q) ∙ id) in
    (inl q, ends_inside (length K.roots) x.branches n d c stands (subst (λ z. IsTrue (is_among c (ends_of z.items))) same u)))
    (λ ne. ⊎_elim
    (λ a. let above = above_stands (length K.roots) x.branches lawful.forest h c m n b a ib in
    (inr a, all_below (length K.roots) x.branches lawful.forest h c m n b d a ib stands (ends_inside (length K.roots) x.branches m b c above u)))
    (λ r. ⊎_elim
    (λ a. running_waits_not em (above_waits x.branches n m d id a))
    (λ o. absurd (differ_not (side_of b c) (side_of d c) es (o.differ (ends_use c b.items u) v)))
    r)
    ((lawful.other_sides c lt).pair m n b d ib id (λ q. ne (sym q))))
    (same_or_not n m)
