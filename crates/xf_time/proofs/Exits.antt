-- The longest of the ways that begin at certain indices.
use Rattle.std.proofs.Common.{◌≡◌, ◌≤◌, ◌<◌, ◌⊎◌, inl, inr, ℕ, ◌+◌, Bool, true, false, List, Option, Some, None, length, refl, sym, ◌∙◌, subst, arith}
use Rattle.std.proofs.lemmas.Bool.{cases_lt}
use Rattle.std.proofs.lemmas.List.{get_or_past}
use Rattle.std.proofs.lemmas.Option.{slice_get_within}
use Rattle.std.specs.List.{slice_get}
use Rattle.std.specs.Prelude.{if◌then◌else◌, max, MatchOption}
use Rattle.xs_instr.specs.declared.image.Code.{Code}
use Rattle.xs_instr.specs.declared.instr.Instr.{Instr}
use Rattle.xs_fabric.specs.OwnTurns.{Onward, GoesOn, Waits, MayBranch, Branches, MayBranchBack, BranchesBack, EndsThread, AwaitsEvent, LeadsElsewhere, onward}
use Rattle.xf_time.specs.Routes.{HasWay, HoldsUp, on_way, at_from, IsExit, IsExitOf, IsLongest, IsUnsaidAt, flow_to, is_at, is_unsaid}
use Rattle.xf_time.specs.Rows.{IsFilledFrom, IsNumber, exit_number, exits_at, exits_by, exits_where, longer, number_in}
use Rattle.xf_time.specs.Ways.{Flow, LeadsTo, goes_on, behind_waits, not_branched, branched, branches, not_branched_back, branched_back, branches_back, MeetsHold, Way}
use Rattle.xw_words.specs.declared.pos.Pos.{Pos}

-- a way from such an index has this length
pub record Reaches (flow : Flow) (b : ℕ) (Begins : ℕ → Type 0) (long : ℕ) : Type 0 where
  pub exit : ℕ
  pub begins : Begins exit
  pub taken : ℕ
  pub few : taken ≤ b
  pub way : Way flow exit taken long

pub data Held (flow : Flow) (b : ℕ) (Begins : ℕ → Type 0) (Unsaid : Type 0) : Type 0 where
  unsaid : Unsaid → Held flow b Begins Unsaid
  meets : (j n : ℕ) → Begins j → n ≤ b → MeetsHold flow j n → Held flow b Begins Unsaid

pub record IsGreatest (flow : Flow) (b : ℕ) (Begins : ℕ → Type 0) (Unsaid : Type 0) (v : ℕ) : Type 0 where
  pub free : Held flow b Begins Unsaid → ⊥
  pub most : (l : ℕ) → Reaches flow b Begins l → l ≤ v
  pub reached : (v ≡ 0) ⊎ Reaches flow b Begins v

abbrev pub IsAnswer : Flow → ℕ → (ℕ → Type 0) → Type 0 → Option ℕ → Type 0
IsAnswer flow b Begins Unsaid None = Held flow b Begins Unsaid
IsAnswer flow b Begins Unsaid (Some v) = IsGreatest flow b Begins Unsaid v

-- no way begins
pub none : (flow : Flow) (b : ℕ) (P : ℕ → Type 0) (U : Type 0) → ((j : ℕ) → P j → ⊥) → (U → ⊥) → IsAnswer flow b P U (Some 0)
none flow b P U p u = record { free = free; most = λ l r. absurd (p r.exit r.begins); reached = inl refl }
  where
    free : Held flow b P U → ⊥
    free (unsaid x) = u x
    free (meets j n x h m) = p j x

reaches_on : (flow : Flow) (b v : ℕ) (P Q : ℕ → Type 0) → ((j : ℕ) → P j → Q j) → Reaches flow b P v → Reaches flow b Q v
reaches_on flow b v P Q f r = record { exit = r.exit; begins = f r.exit r.begins; taken = r.taken; few = r.few; way = r.way }

held_on : (flow : Flow) (b : ℕ) (P Q : ℕ → Type 0) (U V : Type 0) → ((j : ℕ) → P j → Q j) → (U → V) → Held flow b P U → Held flow b Q V
held_on flow b P Q U V f g (unsaid x) = unsaid (g x)
held_on flow b P Q U V f g (meets j n x h m) = meets j n (f j x) h m

-- the same indices
pub same : (flow : Flow) (b : ℕ) (P Q : ℕ → Type 0) (U V : Type 0) (r : Option ℕ) → ((j : ℕ) → P j → Q j) → ((j : ℕ) → Q j → P j) → (U → V) → (V → U) →
    IsAnswer flow b P U r → IsAnswer flow b Q V r
same flow b P Q U V None f g u v h = held_on flow b P Q U V f u h
same flow b P Q U V (Some w) f g u v h = record {
  free = λ x. h.free (held_on flow b Q P V U g v x);
  most = λ l x. h.most l (reaches_on flow b l Q P g x);
  reached = elim h.reached [ inl e ↦ inl e | inr x ↦ inr (reaches_on flow b w P Q f x) ];
}

-- those of two kinds
module _ (flow : Flow) (b : ℕ) (P Q R : ℕ → Type 0) (U V W : Type 0) (parts : (j : ℕ) → R j → P j ⊎ Q j) (p : (j : ℕ) → P j → R j) (q : (j : ℕ) → Q j → R j)
    (parted : W → U ⊎ V) (u : U → W) (v : V → W) where
  join_free : (m n : ℕ) → IsGreatest flow b P U m → IsGreatest flow b Q V n → Held flow b R W → ⊥
  join_free m n f g (unsaid x) = elim (parted x) [ inl y ↦ f.free (unsaid y) | inr y ↦ g.free (unsaid y) ]
  join_free m n f g (meets j k x h e) = elim (parts j x) [ inl y ↦ f.free (meets j k y h e) | inr y ↦ g.free (meets j k y h e) ]

  join_most : (m n : ℕ) → IsGreatest flow b P U m → IsGreatest flow b Q V n → (l : ℕ) → Reaches flow b R l → l ≤ max m n
  join_most m n f g l r = elim (parts r.exit r.begins) [
    | inl y ↦ let h = f.most l (record { exit = r.exit; begins = y; taken = r.taken; few = r.few; way = r.way }) in omega (arith, h)
    | inr y ↦ let h = g.most l (record { exit = r.exit; begins = y; taken = r.taken; few = r.few; way = r.way }) in omega (arith, h)
  ]

  greater : (m n : ℕ) → (max m n ≡ m) ⊎ (max m n ≡ n)
  greater m n = elim (cases_lt m n) [ inl l ↦ inr (omega (arith, l)) | inr l ↦ inl (omega (arith, l)) ]

  pub Reached : ℕ → Type 0
  Reached m = (m ≡ 0) ⊎ Reaches flow b R m

  join_first : (m : ℕ) → (m ≡ 0) ⊎ Reaches flow b P m → Reached m
  unfolding Reached
  join_first m (inl e) = inl e
  join_first m (inr x) = inr (reaches_on flow b m P R p x)

  join_second : (m : ℕ) → (m ≡ 0) ⊎ Reaches flow b Q m → Reached m
  unfolding Reached
  join_second m (inl e) = inl e
  join_second m (inr x) = inr (reaches_on flow b m Q R q x)

  join_reached : (m n : ℕ) → IsGreatest flow b P U m → IsGreatest flow b Q V n → Reached (max m n)
  join_reached m n f g =
      elim (greater m n) [
        | inl e ↦ subst Reached (sym e) (join_first m f.reached)
        | inr e ↦ subst Reached (sym e) (join_second n g.reached)
      ]

  pub join : (r s : Option ℕ) → IsAnswer flow b P U r → IsAnswer flow b Q V s → IsAnswer flow b R W (longer r s)
  unfolding Reached
  join None s f g = held_on flow b P R U W p u f
  join (Some m) None f g = held_on flow b Q R V W q v g
  join (Some m) (Some n) f g = record { free = join_free m n f g; most = join_most m n f g; reached = join_reached m n f g }

module _ (code : Code) (from to : Pos) (b i : ℕ) (row : List (Option ℕ)) (filled : IsFilledFrom code to b 0 row) where
  -- k alone, where it is an exit
  Alone : ℕ → ℕ → Type 0
  Alone k j = (j ≡ k) × (k < length code.instrs) × (is_at code from k ≡ false)

  -- an exit to which such an instruction at index i leads
  Behind : Onward → ℕ → Type 0
  Behind w j = (u : ℕ) × LeadsTo w i u j × (j < length code.instrs) × (is_at code from j ≡ false)

  alone_in : (k : ℕ) → k < length code.instrs → is_at code from k ≡ false → (r : Option ℕ) → IsNumber (flow_to code to) b k r → IsAnswer (flow_to code to) b (Alone k) ⊥ r
  unfolding Alone
  alone_in k h e None m = meets k m.0 (refl, h, e) m.1 m.2
  alone_in k h e (Some v) f = record {
    free = free;
    most = λ l r. f.most r.taken l r.few (subst (λ (z : ℕ). Way (flow_to code to) z r.taken l) r.begins.0 r.way);
    reached = elim f.reached [ inl z ↦ inl z | inr w ↦ inr (record { exit = k; begins = (refl, h, e); taken = w.0; few = w.1; way = w.2 }) ];
  }
    where
      free : Held (flow_to code to) b (Alone k) ⊥ → ⊥
      free (unsaid x) = x
      free (meets j n x g m) = f.free n g (subst (λ (z : ℕ). MeetsHold (flow_to code to) z n) x.0 m)

  alone_at : (k : ℕ) (at : Bool) → is_at code from k ≡ at → IsAnswer (flow_to code to) b (Alone k) ⊥ (if at then Some 0 else number_in row k)
  unfolding Alone
  alone_at k true e = none (flow_to code to) b (Alone k) ⊥ (λ j x. let h : true ≡ false = sym e ∙ x.2 in cc) (λ x. x)
  alone_at k false e = by (cases_lt k (length code.instrs))
    where
      by : (k < length code.instrs) ⊎ (length code.instrs ≤ k) → IsAnswer (flow_to code to) b (Alone k) ⊥ (number_in row k)
      by (inl h) = alone_in k h e (number_in row k) (filled.above k (omega arith))
      by (inr h) =
          subst (IsAnswer (flow_to code to) b (Alone k) ⊥) (sym (get_or_past row k (Some 0) (let l = filled.long in omega (arith, l, h))))
          (none (flow_to code to) b (Alone k) ⊥ (λ j x. let g = x.1 in omega (arith, g, h)) (λ x. x))

  alone : (k : ℕ) → IsAnswer (flow_to code to) b (Alone k) ⊥ (exit_number code from row k)
  alone k = alone_at k (is_at code from k) refl

  into : (w : Onward) (u k j : ℕ) → LeadsTo w i u k → Alone k j → Behind w j
  unfolding Alone Behind
  into w u k j d x =
      (u, subst (LeadsTo w i u) (sym x.0) d, subst (λ (z : ℕ). z < length code.instrs) (sym x.0) x.1, subst (λ (z : ℕ). is_at code from z ≡ false) (sym x.0) x.2)

  back : (w : Onward) (k j : ℕ) → j ≡ k → Behind w j → Alone k j
  unfolding Alone Behind
  back w k j e x = (e, subst (λ (z : ℕ). z < length code.instrs) e x.2, subst (λ (z : ℕ). is_at code from z ≡ false) e x.3)

  said : (w : Onward) → is_unsaid w ≡ false → is_unsaid w ≡ true → ⊥
  said w e f = let h : true ≡ false = sym f ∙ e in cc

  to_one : (w : Onward) (u k : ℕ) → LeadsTo w i u k → ((u' j : ℕ) → LeadsTo w i u' j → j ≡ k) → is_unsaid w ≡ false →
      IsAnswer (flow_to code to) b (Behind w) (is_unsaid w ≡ true) (exit_number code from row k)
  unfolding Alone Behind
  to_one w u k d all e =
      same (flow_to code to) b (Alone k) (Behind w) ⊥ (is_unsaid w ≡ true) (exit_number code from row k)
      (λ j x. into w u k j d x) (λ j x. back w k j (all x.0 j x.1) x) (λ x. absurd x) (λ x. said w e x) (alone k)

  to_two : (w : Onward) (u t k l : ℕ) → LeadsTo w i u k → LeadsTo w i t l → ((u' j : ℕ) → LeadsTo w i u' j → (j ≡ k) ⊎ (j ≡ l)) → is_unsaid w ≡ false →
      IsAnswer (flow_to code to) b (Behind w) (is_unsaid w ≡ true) (longer (exit_number code from row k) (exit_number code from row l))
  unfolding Alone Behind
  to_two w u t k l d f all e =
      join (flow_to code to) b (Alone k) (Alone l) (Behind w) ⊥ ⊥ (is_unsaid w ≡ true)
      (λ j x. elim (all x.0 j x.1) [ inl h ↦ inl (back w k j h x) | inr h ↦ inr (back w l j h x) ])
      (λ j x. into w u k j d x) (λ j x. into w t l j f x) (λ x. inl (said w e x)) (λ x. absurd x) (λ x. absurd x)
      (exit_number code from row k) (exit_number code from row l) (alone k) (alone l)

  on_one : (u j : ℕ) → LeadsTo GoesOn i u j → j ≡ i + 1
  on_one _ _ goes_on = refl

  waits_one : (u j : ℕ) → LeadsTo Waits i u j → j ≡ i + 1
  waits_one _ _ behind_waits = refl

  branch_one : (k u j : ℕ) → LeadsTo (Branches k) i u j → j ≡ k
  branch_one k _ _ branches = refl

  back_one : (k u j : ℕ) → LeadsTo (BranchesBack k) i u j → j ≡ k
  back_one k _ _ branches_back = refl

  branch_two : (k u j : ℕ) → LeadsTo (MayBranch k) i u j → (j ≡ i + 1) ⊎ (j ≡ k)
  branch_two k _ _ not_branched = inl refl
  branch_two k _ _ branched = inr refl

  back_two : (k u j : ℕ) → LeadsTo (MayBranchBack k) i u j → (j ≡ i + 1) ⊎ (j ≡ k)
  back_two k _ _ not_branched_back = inl refl
  back_two k _ _ branched_back = inr refl

  ends_nowhere : (u j : ℕ) → LeadsTo EndsThread i u j → ⊥
  ends_nowhere u j d = elim d [ ]

  behind : (w : Onward) → IsAnswer (flow_to code to) b (Behind w) (is_unsaid w ≡ true) (exits_by w i (exit_number code from row))
  unfolding Behind
  behind GoesOn = to_one GoesOn 0 (i + 1) goes_on on_one refl
  behind Waits = to_one Waits 0 (i + 1) behind_waits waits_one refl
  behind (MayBranch k) = to_two (MayBranch k) 0 0 (i + 1) k not_branched branched (branch_two k) refl
  behind (Branches k) = to_one (Branches k) 0 k branches (branch_one k) refl
  behind (MayBranchBack k) = to_two (MayBranchBack k) 0 1 (i + 1) k not_branched_back branched_back (back_two k) refl
  behind (BranchesBack k) = to_one (BranchesBack k) 1 k branches_back (back_one k) refl
  behind EndsThread = none (flow_to code to) b (Behind EndsThread) (is_unsaid EndsThread ≡ true) (λ j x. ends_nowhere x.0 j x.1) (said EndsThread refl)
  behind AwaitsEvent = unsaid refl
  behind LeadsElsewhere = unsaid refl

  one_instr : (x y : Instr) → slice_get code.instrs i ≡ Some x → slice_get code.instrs i ≡ Some y → y ≡ x
  one_instr x y e f = let h : Some y ≡ Some x = sym f ∙ e in cc

  behind_exit : (x : Instr) → slice_get code.instrs i ≡ Some x → (j : ℕ) → IsExitOf code from i j → Behind (onward x) j
  unfolding Behind
  behind_exit x e j h =
      (h.taken, subst (λ (y : Instr). LeadsTo (onward y) i h.taken j) (one_instr x h.instr e h.instr_is) h.leads, h.there, h.apart)

  exit_behind : (x : Instr) → slice_get code.instrs i ≡ Some x → is_at code from i ≡ true → (j : ℕ) → Behind (onward x) j → IsExitOf code from i j
  unfolding Behind
  exit_behind x e at j h = record { at_from = at; instr = x; instr_is = e; taken = h.0; leads = h.1; there = h.2; apart = h.3 }

  exits_where_are : (at : Bool) (o : Option Instr) → is_at code from i ≡ at → slice_get code.instrs i ≡ o →
      IsAnswer (flow_to code to) b (IsExitOf code from i) (IsUnsaidAt code from i) (exits_where at o i (exit_number code from row))
  exits_where_are false o a e =
      none (flow_to code to) b (IsExitOf code from i) (IsUnsaidAt code from i)
      (λ j x. let h : true ≡ false = sym x.at_from ∙ a in cc) (λ x. let h : true ≡ false = sym x.at_from ∙ a in cc)
  exits_where_are true None a e =
      none (flow_to code to) b (IsExitOf code from i) (IsUnsaidAt code from i)
      (λ j x. let h : Some x.instr ≡ None = sym x.instr_is ∙ e in cc) (λ x. let h : Some x.instr ≡ None = sym x.instr_is ∙ e in cc)
  exits_where_are true (Some x) a e =
      same (flow_to code to) b (Behind (onward x)) (IsExitOf code from i) (is_unsaid (onward x) ≡ true) (IsUnsaidAt code from i) (exits_by (onward x) i (exit_number code from row))
      (exit_behind x e a) (behind_exit x e) (λ h. record { at_from = a; instr = x; instr_is = e; unsaid = h })
      (λ h. subst (λ (y : Instr). is_unsaid (onward y) ≡ true) (one_instr x h.instr e h.instr_is) h.unsaid) (behind (onward x))

  pub exits_are : IsAnswer (flow_to code to) b (IsExitOf code from i) (IsUnsaidAt code from i) (exits_at code from row i)
  exits_are = exits_where_are (is_at code from i) (slice_get code.instrs i) refl refl

-- an exit of an index below n
pub record ExitBelow (code : Code) (from : Pos) (n j : ℕ) : Type 0 where
  pub index : ℕ
  pub below : index < n
  pub exit : IsExitOf code from index j

pub record UnsaidBelow (code : Code) (from : Pos) (n : ℕ) : Type 0 where
  pub index : ℕ
  pub below : index < n
  pub unsaid : IsUnsaidAt code from index

abbrev pub IsBelow : (code : Code) (from to : Pos) (b n : ℕ) → Option ℕ → Type 0
IsBelow code from to b n r = IsAnswer (flow_to code to) b (ExitBelow code from n) (UnsaidBelow code from n) r

pub none_below : (code : Code) (from to : Pos) (b : ℕ) → IsBelow code from to b 0 (Some 0)
none_below code from to b =
    none (flow_to code to) b (ExitBelow code from 0) (UnsaidBelow code from 0) (λ j x. let h = x.below in omega (arith, h)) (λ x. let h = x.below in omega (arith, h))

exit_parts : (code : Code) (from : Pos) (n j : ℕ) → ExitBelow code from (n + 1) j → ExitBelow code from n j ⊎ IsExitOf code from n j
exit_parts code from n j x = elim (cases_lt x.index n) [
  | inl h ↦ inl (record { index = x.index; below = h; exit = x.exit })
  | inr h ↦ let g = x.below in inr (subst (λ (m : ℕ). IsExitOf code from m j) (omega (arith, g, h)) x.exit)
]

unsaid_parts : (code : Code) (from : Pos) (n : ℕ) → UnsaidBelow code from (n + 1) → UnsaidBelow code from n ⊎ IsUnsaidAt code from n
unsaid_parts code from n x = elim (cases_lt x.index n) [
  | inl h ↦ inl (record { index = x.index; below = h; unsaid = x.unsaid })
  | inr h ↦ let g = x.below in inr (subst (IsUnsaidAt code from) (omega (arith, g, h)) x.unsaid)
]

-- one index more
pub more_below : (code : Code) (from to : Pos) (b n : ℕ) (row : List (Option ℕ)) (r : Option ℕ) → IsFilledFrom code to b 0 row → IsBelow code from to b n r →
    IsBelow code from to b (n + 1) (longer r (exits_at code from row n))
more_below code from to b n row r filled h =
    join (flow_to code to) b (ExitBelow code from n) (IsExitOf code from n) (ExitBelow code from (n + 1)) (UnsaidBelow code from n) (IsUnsaidAt code from n) (UnsaidBelow code from (n + 1))
    (exit_parts code from n)
    (λ j x. let g = x.below in record { index = x.index; below = omega (arith, g); exit = x.exit })
    (λ j x. record { index = n; below = omega arith; exit = x })
    (unsaid_parts code from n)
    (λ x. let g = x.below in record { index = x.index; below = omega (arith, g); unsaid = x.unsaid })
    (λ x. record { index = n; below = omega arith; unsaid = x })
    r (exits_at code from row n) h (exits_are code from to b n row filled)

-- all indices
pub all_below : (code : Code) (from to : Pos) (b : ℕ) (r : Option ℕ) → IsBelow code from to b (length code.instrs) r →
    MatchOption r (HoldsUp code from to b) (λ long. IsLongest code from to b long)
all_below code from to b None (unsaid x) = at_from x.unsaid
all_below code from to b None (meets j n x h m) = on_way (record { index = x.index; exit = x.exit }) h m
all_below code from to b (Some v) f = record { not_held = not_held; most = most; reached = reached f.reached }
  where
    below : (j : ℕ) → IsExit code from j → ExitBelow code from (length code.instrs) j
    below j x = record { index = x.index; below = slice_get_within code.instrs x.index x.exit.instr x.exit.instr_is; exit = x.exit }

    not_held : HoldsUp code from to b → ⊥
    not_held (on_way {j} {taken = n} x h m) = f.free (meets j n (below j x) h m)
    not_held (at_from {i} x) = f.free (unsaid (record { index = i; below = slice_get_within code.instrs i x.instr x.instr_is; unsaid = x }))

    most : (l : ℕ) → HasWay code from to b l → l ≤ v
    most l w = f.most l (record { exit = w.exit; begins = below w.exit w.is_exit; taken = w.taken; few = w.few; way = w.way })

    reached : (v ≡ 0) ⊎ Reaches (flow_to code to) b (ExitBelow code from (length code.instrs)) v → (v ≡ 0) ⊎ HasWay code from to b v
    reached (inl e) = inl e
    reached (inr r) = inr (record { exit = r.exit; is_exit = record { index = r.begins.index; exit = r.begins.exit }; taken = r.taken; few = r.few; way = r.way })
