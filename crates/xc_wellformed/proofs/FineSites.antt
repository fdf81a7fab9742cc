-- What the rules of types and shapes promise of each site of a program that breaks none.
use Rattle.std.proofs.Common.{◌≡◌, ℕ, suc, Bool, true, false, not, ◌&&◌, if◌then◌else◌, List, [], ◌∷◌, Some, is_some, slice_get, nat_eq, refl, sym, true≢false, arith}
use Rattle.std.specs.Prelude.{Contains}
use Rattle.std.proofs.lemmas.List.Elements.{Contains-append_left, Contains-append_right}
use Rattle.std.proofs.lemmas.Option.{get_or_from_slice_get, slice_get_within}
use Rattle.xw_words.specs.declared.pos.Pos.{Pos}
use Rattle.xw_words.specs.declared.pos.Broken.{Broken}
use Rattle.xc_tree.specs.Types.Named.{NamedProgram}
use Rattle.xc_tree.specs.Types.Entities.{is_word, is_array, is_index, is_port, is_timer, takes_output, gives_input, agree}
use Rattle.xc_tree.specs.Types.Calls.{Argument, fits}
use Rattle.xc_tree.specs.Types.Rules.{broken_where, broken_unless, misfits, has_number, gives_word, rule_401, rule_402, rule_403, rule_404, rule_405, rule_406, rule_407, rule_408, rule_410, rule_411, rule_412, rule_413, rule_414}
use Rattle.xc_tree.specs.Words.{timerafter_word}
use Rattle.xc_tree.specs.Types.Sites.{Site, sites}
use Rattle.xc_tree.specs.Types.Sites as site
use Rattle.xc_tree.specs.Shapes.Enclosing.{has_way_out, has_next_turn, in_transaction, in_par_or_transaction, is_main}
use Rattle.xc_tree.specs.Shapes.Main.{place_branches, is_channels_par_return, statements_in}
use Rattle.xc_tree.specs.Shapes.Rules.{channels, are_one, rule_501, rule_502, rule_504, rule_505, rule_506}
use Rattle.xc_tree.specs.Checks.{rules, rule, Breaks}
use Rattle.xc_wellformed.proofs.Walk.Arguments.{AllIn, AllFit, IsFine}

pub all_by_place : {A : Type 0} (P : A → Type 0) (xs : List A) → ((i : ℕ) (x : A) → slice_get xs i ≡ Some x → P x) → AllIn P xs
all_by_place P [] k = tt
all_by_place P (x ∷ xs) k = (k 0 x refl, all_by_place P xs (λ i y e. k (suc i) y e))

there : {A : Type 0} (xs : List A) (i : ℕ) (x : A) → slice_get xs i ≡ Some x → Contains xs x
there xs i x e = (i, slice_get_within xs i x e, get_or_from_slice_get xs i x x e)

-- a rule that isn't broken holds
unless : (b : Bool) (p : Pos) → (Contains (broken_unless b p) p → ⊥) → b ≡ true
unless true p h = refl
unless false p h = absurd (h (0, omega arith, refl))

pub where_not : (b : Bool) (p : Pos) → (Contains (broken_where b p) p → ⊥) → b ≡ false
where_not false p h = refl
where_not true p h = absurd (h (0, omega arith, refl))

all_fit : (given : List Argument) → ((p : Pos) → Contains (misfits given) p → ⊥) → AllFit given
all_fit [] h = tt
all_fit (a ∷ rest) h = (
  unless (fits a.parameter a.given) a.first (λ c. h a.first (Contains-append_left (broken_unless (fits a.parameter a.given) a.first) (misfits rest) a.first c)),
  all_fit rest (λ p c. h p (Contains-append_right (broken_unless (fits a.parameter a.given) a.first) (misfits rest) p c)),
)

gives_one : (r g : Bool) → (r && not g) ≡ false → r ≡ true → g ≡ true
gives_one true true e q = refl
gives_one true false e q = absurd (true≢false e)
gives_one false g e q = absurd (true≢false (sym q))

module _ (named : NamedProgram) (unbroken : (b : Broken) → Breaks named b → ⊥) where
  never : (k : ℕ) (f : Site → List Pos) → Contains rules (rule k f) → (s : Site) → Contains (sites named) s → (p : Pos) → Contains (f s) p → ⊥
  never k f among s h p g = unbroken (record { rule = k; pos = p }) (record { rule = rule k f; among = among; numbered = refl; site = s; there = h; broken = g })

  fine_site : (s : Site) → Contains (sites named) s → IsFine s
  fine_site (site.word x) h = unless (is_word x.what) x.id.pos (never 401 rule_401 (0, omega arith, refl) (site.word x) h x.id.pos)
  fine_site (site.indexed x) h = unless (is_array x.what) x.id.pos (never 402 rule_402 (1, omega arith, refl) (site.indexed x) h x.id.pos)
  fine_site (site.lval x) h = (
    unless (is_word x.what) x.id.pos (never 403 rule_403 (2, omega arith, refl) (site.lval x) h x.id.pos),
    where_not (is_index x.what) x.id.pos (never 412 rule_412 (11, omega arith, refl) (site.lval x) h x.id.pos),
  )
  fine_site (site.call around x meant given r) h = (
    unless (is_some meant) x.id.pos (never 404 rule_404 (3, omega arith, refl) (site.call around x meant given r) h x.id.pos),
    (
      unless (has_number meant given) x.id.pos (never 405 rule_405 (4, omega arith, refl) (site.call around x meant given r) h x.id.pos),
      (
        all_fit given (never 406 rule_406 (5, omega arith, refl) (site.call around x meant given r) h),
        gives_one r (gives_word meant) (where_not (r && not (gives_word meant)) x.id.pos (never 407 rule_407 (6, omega arith, refl) (site.call around x meant given r) h x.id.pos)),
      ),
    ),
  )
  fine_site (site.output x) h = unless (takes_output x.what) x.id.pos (never 410 rule_410 (9, omega arith, refl) (site.output x) h x.id.pos)
  fine_site (site.input x) h = unless (gives_input x.what) x.id.pos (never 411 rule_411 (10, omega arith, refl) (site.input x) h x.id.pos)
  fine_site (site.time x p) h = unless (is_port x.what) p (never 413 rule_413 (12, omega arith, refl) (site.time x p) h p)
  fine_site (site.condition x p t) h = unless (if nat_eq t timerafter_word then is_timer x.what else is_port x.what) p (never 414 rule_414 (13, omega arith, refl) (site.condition x p t) h p)
  fine_site (site.return around v p) h = (
    unless (agree v (is_some around.function.result)) p (never 408 rule_408 (7, omega arith, refl) (site.return around v p) h p),
    where_not (in_par_or_transaction around.holders) p (never 502 rule_502 (17, omega arith, refl) (site.return around v p) h p),
  )
  fine_site (site.transaction around within p) h = (
    unless (are_one (channels within)) p (never 505 rule_505 (20, omega arith, refl) (site.transaction around within p) h p),
    where_not (in_transaction around.holders) p (never 506 rule_506 (21, omega arith, refl) (site.transaction around within p) h p),
  )
  fine_site (site.par around p) h = where_not (in_transaction around.holders) p (never 506 rule_506 (21, omega arith, refl) (site.par around p) h p)
  fine_site (site.select around cs p) h = where_not (in_transaction around.holders) p (never 506 rule_506 (21, omega arith, refl) (site.select around cs p) h p)
  fine_site (site.break around p) h = unless (has_way_out around.holders) p (never 501 rule_501 (16, omega arith, refl) (site.break around p) h p)
  fine_site (site.continue around p) h = unless (has_next_turn around.holders) p (never 501 rule_501 (16, omega arith, refl) (site.continue around p) h p)
  fine_site (site.function hd b) h = where_not (is_main hd && (place_branches (statements_in b) && not (is_channels_par_return (statements_in b)))) hd.name.pos (never 504 rule_504 (19, omega arith, refl) (site.function hd b) h hd.name.pos)
  fine_site other h = tt

  pub fine_sites : AllIn IsFine (sites named)
  fine_sites = all_by_place IsFine (sites named) (λ i s e. fine_site s (there (sites named) i s e))
