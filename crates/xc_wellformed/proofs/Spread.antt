-- Instances whose paths go on from one path by differing places.
use Rattle.std.proofs.Common.{◌≡◌, inl, inr, ℕ, zero, suc, ◌<◌, ◌≤◌, ◌+◌, ◌*◌, ◌^◌, ◌%◌, ◌/◌, List, [], ◌∷◌, ◌++◌, refl, sym, ap, subst, ◌∙◌, arith, append_assoc}
use Rattle.std.proofs.Math.Nat.{mod-add-div}
use Rattle.xw_words.specs.declared.pos.Pos.{Pos}
use Rattle.xc_kernel.specs.Paths.{Path, path_at, path_of_branch}
use Rattle.xc_wellformed.specs.Once.{NoneAt, PathsDiffer}
use Rattle.xc_wellformed.proofs.Places.{In, Differ}
use Rattle.xc_wellformed.proofs.Walk.Arguments.{AllIn, both}

-- lists

pub in_left : {A : Type 0} (x : A) (xs ys : List A) → In x xs → In x (xs ++ ys)
in_left x [] ys h = absurd h
in_left x (y ∷ xs) ys (inl e) = inl e
in_left x (y ∷ xs) ys (inr h) = inr (in_left x xs ys h)

pub in_right : {A : Type 0} (x : A) (xs ys : List A) → In x ys → In x (xs ++ ys)
in_right x [] ys h = h
in_right x (y ∷ xs) ys h = inr (in_right x xs ys h)

pub weaker : {A : Type 0} (P Q : A → Type 0) (xs : List A) → ((x : A) → P x → Q x) → AllIn P xs → AllIn Q xs
weaker P Q [] f h = tt
weaker P Q (x ∷ xs) f h = (f x h.0, weaker P Q xs f h.1)

-- the parts of places that differ
pub record Halves (xs ys : List Pos) : Type 0 where
  pub left : Differ xs
  pub right : Differ ys
  pub apart : (k : Pos) → In k xs → In k ys → ⊥

pub halves : (xs ys : List Pos) → Differ (xs ++ ys) → Halves xs ys
halves [] ys h = record { left = tt; right = h; apart = λ k a b. absurd a }
halves (x ∷ xs) ys h =
    let rest = halves xs ys h.1.1 in
    record {
      left = (h.0, ((λ a. h.1.0 (in_left x xs ys a)), rest.left));
      right = rest.right;
      apart = λ k a b. by k a b (rest.apart k);
    }
  where
    by : (k : Pos) → In k (x ∷ xs) → In k ys → (In k xs → In k ys → ⊥) → ⊥
    by k (inl e) b f = h.1.0 (in_right x xs ys (subst (λ (z : Pos). In z ys) (sym e) b))
    by k (inr a) b f = f a b

-- paths

-- past the indices of branches, what is behind an instance's path begins with a place
abbrev pub At : Path → Pos → Type 0
At [] k = ⊥
At (a ∷ []) k = ⊥
At (zero ∷ i ∷ rest) k = At rest k
At (suc a ∷ b ∷ rest) k = (suc a ≡ k.line) × (b ≡ k.col)

same_place : (a b : ℕ) (k l : Pos) → a ≡ k.line → b ≡ k.col → a ≡ l.line → b ≡ l.col → k ≡ l
same_place a b k l e f g h = ap (λ (z : ℕ). record { line = z; col = k.col }) (sym e ∙ g) ∙ ap (λ (z : ℕ). record { line = l.line; col = z }) (sym f ∙ h)

pub at_one : (r : Path) (k l : Pos) → At r k → At r l → k ≡ l
at_one [] k l h g = absurd h
at_one (a ∷ []) k l h g = absurd h
at_one (zero ∷ i ∷ rest) k l h g = at_one rest k l h g
at_one (suc a ∷ b ∷ rest) k l h g = same_place (suc a) b k l h.0 h.1 g.0 g.1

at_by : (l c : ℕ) (rest : Path) (k : Pos) → l ≡ k.line → c ≡ k.col → 0 < l → At (l ∷ c ∷ rest) k
at_by zero c rest k e f h = absurd (let q : ⊥ = omega arith in q)
at_by (suc l) c rest k e f h = (e, f)

pub at_place : (k : Pos) (rest : Path) → 0 < k.line → At (k.line ∷ k.col ∷ rest) k
at_place k rest h = at_by k.line k.col rest k refl refl h

tail_same : (a b : ℕ) (x y : Path) → a ∷ x ≡ b ∷ y → x ≡ y
tail_same a b x y e = cc

head_same : (a b : ℕ) (x y : Path) → a ∷ x ≡ b ∷ y → a ≡ b
head_same a b x y e = cc

-- what is behind one path
pub behind_same : (p x y : Path) → p ++ x ≡ p ++ y → x ≡ y
behind_same [] x y e = e
behind_same (a ∷ p) x y e = behind_same p x y (tail_same a a (p ++ x) (p ++ y) e)

pub more_behind : (p x : Path) → 0 < 1 → p ≡ p ++ x → x ≡ []
more_behind [] x t e = sym e
more_behind (a ∷ p) x t e = more_behind p x t (tail_same a a p (p ++ x) e)

-- what a branch's index adds to a path
abbrev of_index : ℕ → Path
of_index i = 0 ∷ i % 2 ^ 32 ∷ 0 ∷ i / 2 ^ 32 ∷ []

-- no two indices add the same
one_index : (i j : ℕ) (x y : Path) → of_index i ++ x ≡ of_index j ++ y → i ≡ j
one_index i j x y e =
    let behind = tail_same 0 0 (i % 2 ^ 32 ∷ 0 ∷ i / 2 ^ 32 ∷ x) (j % 2 ^ 32 ∷ 0 ∷ j / 2 ^ 32 ∷ y) e in
    let low = head_same (i % 2 ^ 32) (j % 2 ^ 32) (0 ∷ i / 2 ^ 32 ∷ x) (0 ∷ j / 2 ^ 32 ∷ y) behind in
    let rest = tail_same (i % 2 ^ 32) (j % 2 ^ 32) (0 ∷ i / 2 ^ 32 ∷ x) (0 ∷ j / 2 ^ 32 ∷ y) behind in
    let high = head_same (i / 2 ^ 32) (j / 2 ^ 32) x y (tail_same 0 0 (i / 2 ^ 32 ∷ x) (j / 2 ^ 32 ∷ y) rest) in
    sym (mod-add-div i (2 ^ 32)) ∙ ((λ t. low t + 2 ^ 32 * high t) ∙ mod-add-div j (2 ^ 32))

-- a path that goes on from p by one of some places
pub record Beneath (p : Path) (ks : List Pos) (x : Path) : Type 0 where
  pub rest : Path
  pub is : x ≡ p ++ rest
  pub key : Pos
  pub among : In key ks
  pub place : At rest key

-- from two paths of places that differ
pub beneath_apart : (p : Path) (ks ls : List Pos) (x y : Path) → ((k : Pos) → In k ks → In k ls → ⊥) → Beneath p ks x → Beneath p ls y → x ≡ y → ⊥
beneath_apart p ks ls x y apart a b e =
    let same = behind_same p a.rest b.rest (sym a.is ∙ (e ∙ b.is)) in
    let one = at_one b.rest a.key b.key (subst (λ (r : Path). At r a.key) same a.place) b.place in
    apart b.key (subst (λ (k : Pos). In k ks) one a.among) b.among

module _ {V : Type 0} (path_of : V → Path) where
  abbrev pub AllBeneath : Path → List Pos → List V → Type 0
  AllBeneath p ks xs = AllIn (λ v. Beneath p ks (path_of v)) xs

  -- instances of differing paths, each beneath p
  pub record Spread (p : Path) (ks : List Pos) (xs : List V) : Type 0 where
    pub beneath : AllBeneath p ks xs
    pub differ : PathsDiffer path_of xs

  pub spread_none : (p : Path) (ks : List Pos) → Spread p ks []
  spread_none p ks = record { beneath = tt; differ = tt }

  none_both : (path : Path) (xs ys : List V) → NoneAt path_of path xs → NoneAt path_of path ys → NoneAt path_of path (xs ++ ys)
  none_both path [] ys h g = g
  none_both path (x ∷ xs) ys h g = (h.0, none_both path xs ys h.1 g)

  none_by : (P : V → Type 0) (path : Path) (ys : List V) → ((y : V) → P y → path_of y ≡ path → ⊥) → AllIn P ys → NoneAt path_of path ys
  none_by P path [] f h = tt
  none_by P path (y ∷ ys) f h = (f y h.0, none_by P path ys f h.1)

  -- those of two lists that have nothing in common
  pub differ_both : (P Q : V → Type 0) (xs ys : List V) → ((x y : V) → P x → Q y → path_of y ≡ path_of x → ⊥) → AllIn P xs → AllIn Q ys → PathsDiffer path_of xs → PathsDiffer path_of ys → PathsDiffer path_of (xs ++ ys)
  differ_both P Q [] ys f h g d e = e
  differ_both P Q (x ∷ xs) ys f h g d e =
      (none_both (path_of x) xs ys d.0 (none_by Q (path_of x) ys (λ y q. f x y h.0 q) g), differ_both P Q xs ys f h.1 g d.1 e)

  wider : (p : Path) (ks ms : List Pos) (x : Path) → ((k : Pos) → In k ks → In k ms) → Beneath p ks x → Beneath p ms x
  wider p ks ms x f b = record { rest = b.rest; is = b.is; key = b.key; among = f b.key b.among; place = b.place }

  pub spread_wider : (p : Path) (ks ms : List Pos) (xs : List V) → ((k : Pos) → In k ks → In k ms) → Spread p ks xs → Spread p ms xs
  spread_wider p ks ms xs f s = record { beneath = weaker (λ v. Beneath p ks (path_of v)) (λ v. Beneath p ms (path_of v)) xs (λ v b. wider p ks ms (path_of v) f b) s.beneath; differ = s.differ }

  pub spread_both : (p : Path) (ks ls : List Pos) (xs ys : List V) → ((k : Pos) → In k ks → In k ls → ⊥) → Spread p ks xs → Spread p ls ys → Spread p (ks ++ ls) (xs ++ ys)
  spread_both p ks ls xs ys apart s t =
      let a = spread_wider p ks (ks ++ ls) xs (λ k i. in_left k ks ls i) s in
      let b = spread_wider p ls (ks ++ ls) ys (λ k i. in_right k ks ls i) t in
      record {
        beneath = both (λ v. Beneath p (ks ++ ls) (path_of v)) xs ys a.beneath b.beneath;
        differ = differ_both (λ v. Beneath p ks (path_of v)) (λ v. Beneath p ls (path_of v)) xs ys (λ x y q r e. beneath_apart p ks ls (path_of x) (path_of y) apart q r (sym e)) s.beneath t.beneath s.differ t.differ;
      }

  -- in a branch
  in_branch : (p : Path) (i : ℕ) (ks : List Pos) (x : Path) → Beneath (path_of_branch p i) ks x → Beneath p ks x
  in_branch p i ks x b = record { rest = of_index i ++ b.rest; is = b.is ∙ append_assoc p (of_index i) b.rest; key = b.key; among = b.among; place = b.place }

  pub spread_branch : (p : Path) (i : ℕ) (ks : List Pos) (xs : List V) → Spread (path_of_branch p i) ks xs → Spread p ks xs
  spread_branch p i ks xs s = record { beneath = weaker (λ v. Beneath (path_of_branch p i) ks (path_of v)) (λ v. Beneath p ks (path_of v)) xs (λ v b. in_branch p i ks (path_of v) b) s.beneath; differ = s.differ }

  -- in branches from an index on
  pub record Later (p : Path) (from : ℕ) (ks : List Pos) (x : Path) : Type 0 where
    pub index : ℕ
    pub late : from ≤ index
    pub inside : Beneath (path_of_branch p index) ks x

  pub record Numbered (p : Path) (from : ℕ) (ks : List Pos) (xs : List V) : Type 0 where
    pub later : AllIn (λ v. Later p from ks (path_of v)) xs
    pub differ : PathsDiffer path_of xs

  pub numbered_none : (p : Path) (from : ℕ) (ks : List Pos) → Numbered p from ks []
  numbered_none p from ks = record { later = tt; differ = tt }

  two_indices : (p : Path) (i j : ℕ) (ks : List Pos) (x y : Path) → Beneath (path_of_branch p i) ks x → Beneath (path_of_branch p j) ks y → y ≡ x → i ≡ j
  two_indices p i j ks x y a b e =
      one_index i j a.rest b.rest (behind_same p (of_index i ++ a.rest) (of_index j ++ b.rest) (sym (append_assoc p (of_index i) a.rest) ∙ (sym a.is ∙ (sym e ∙ (b.is ∙ append_assoc p (of_index j) b.rest)))))

  pub numbered_next : (p : Path) (from : ℕ) (ks : List Pos) (xs ys : List V) → Spread (path_of_branch p from) ks xs → Numbered p (from + 1) ks ys → Numbered p from ks (xs ++ ys)
  numbered_next p from ks xs ys s t = record {
    later = both (λ v. Later p from ks (path_of v)) xs ys
        (weaker (λ v. Beneath (path_of_branch p from) ks (path_of v)) (λ v. Later p from ks (path_of v)) xs (λ v b. record { index = from; late = omega arith; inside = b }) s.beneath)
        (weaker (λ v. Later p (from + 1) ks (path_of v)) (λ v. Later p from ks (path_of v)) ys (λ v l. record { index = l.index; late = let q = l.late in omega arith; inside = l.inside }) t.later);
    differ = differ_both (λ v. Beneath (path_of_branch p from) ks (path_of v)) (λ v. Later p (from + 1) ks (path_of v)) xs ys
        (λ x y b l e. let q = two_indices p from l.index ks (path_of x) (path_of y) b l.inside e in let r = l.late in omega arith)
        s.beneath t.later s.differ t.differ;
  }

  pub numbered_spread : (p : Path) (from : ℕ) (ks : List Pos) (xs : List V) → Numbered p from ks xs → Spread p ks xs
  numbered_spread p from ks xs n = record { beneath = weaker (λ v. Later p from ks (path_of v)) (λ v. Beneath p ks (path_of v)) xs (λ v l. in_branch p l.index ks (path_of v) l.inside) n.later; differ = n.differ }

  -- behind one path
  pub record Behind (own x : Path) : Type 0 where
    pub rest : Path
    pub is : x ≡ own ++ rest

  pub record Within (own : Path) (xs : List V) : Type 0 where
    pub behind : AllIn (λ v. Behind own (path_of v)) xs
    pub differ : PathsDiffer path_of xs

  pub spread_within : (p : Path) (ks : List Pos) (xs : List V) → Spread p ks xs → Within p xs
  spread_within p ks xs s = record { behind = weaker (λ v. Beneath p ks (path_of v)) (λ v. Behind p (path_of v)) xs (λ v b. record { rest = b.rest; is = b.is }) s.beneath; differ = s.differ }

  -- what is behind the path of a place is beneath the path before it
  pub within_spread : (p : Path) (k : Pos) (xs : List V) → 0 < k.line → Within (path_at p k) xs → Spread p (k ∷ []) xs
  within_spread p k xs h w = record {
    beneath = weaker (λ v. Behind (path_at p k) (path_of v)) (λ v. Beneath p (k ∷ []) (path_of v)) xs
        (λ v b. record { rest = k.line ∷ k.col ∷ b.rest; is = b.is ∙ append_assoc p (k.line ∷ k.col ∷ []) b.rest; key = k; among = inl refl; place = at_place k b.rest h }) w.behind;
    differ = w.differ;
  }

  -- an instance of the path itself is none of those beneath it
  pub own_within : (own : Path) (ks : List Pos) (x : V) (xs : List V) → path_of x ≡ own → Spread own ks xs → Within own (x ∷ xs)
  own_within own ks x xs e s = record {
    behind = (record { rest = []; is = e ∙ sym (no_more own) }, (spread_within own ks xs s).behind);
    differ = (none_by (λ v. Beneath own ks (path_of v)) (path_of x) xs (λ y b q. nowhere b.rest b.key (more_behind own b.rest (omega arith) (sym e ∙ (sym q ∙ b.is))) b.place) s.beneath, s.differ);
  }
    where
      no_more : (p : Path) → p ++ [] ≡ p
      no_more [] = refl
      no_more (a ∷ p) = ap (λ (z : Path). a ∷ z) (no_more p)

      nowhere : (r : Path) (k : Pos) → r ≡ [] → At r k → ⊥
      nowhere r k q h = subst (λ (z : Path). At z k) q h
