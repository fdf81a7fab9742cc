use Rattle.std.proofs.Common.{◌≡◌, ℕ, ◌<◌, length, Option, Some, None, IfSome, refl, sym, ◌∙◌, arith}
use Rattle.xc_names.specs.Latest.{latest_of}
use Rattle.xc_names.proofs.News.{no_some, some_some, mark_at, over_none, can_find, finds_inside, over_new, over_old}
use Rattle.xc_names.proofs.meanings.read.Goals as goal

pub returns-in_default : goal.returns-in_default
returns-in_default c =
    over_none c.args.marks.now c.args.ends.now (latest_of c.args.walk.now.latest) c.args.walk.now.outer c.args.walk.now.meant c.args.at c.index-marks-at.result c.requires.before (mark_at _ _ _ c.index-marks-at.is c.requires.within)
    c.push.new.self c.push-in_default.new.self (no_some c.spelling.result _ _ c.in_default.not-Some c.spelling.ensures) c.in_ok-push.ensures.ok c.in_ok-push-2.ensures.ok

pub find-found-requires : goal.find-found-requires
find-found-requires c =
    can_find c.args.marks.now c.args.ends.now (latest_of c.args.walk.now.latest) c.args.walk.now.outer c.args.walk.now.meant c.args.at c.index-marks-at.result c.requires.before (mark_at _ _ _ c.index-marks-at.is c.requires.within)
    c.in-Some.name.now c.get.result c.as_slice.result.now c.get.ensures c.as_slice.ensures

if_inside : (n m : ℕ) (r : Option ℕ) → m ≡ n → ((d : ℕ) → r ≡ Some d → d < n) → IfSome r (λ d. d < m)
if_inside n m None e h = tt
if_inside n m (Some d) e h = let g = h d refl in omega arith

pub is_new-requires-clause-found : goal.is_new-requires-clause-found
is_new-requires-clause-found c =
    if_inside (length c.args.marks.now) (length c.args.ends.now) c.find-found.result c.requires.before.are_ends.one_each
    (finds_inside c.args.marks.now c.args.ends.now (latest_of c.args.walk.now.latest) c.args.walk.now.outer c.args.walk.now.meant c.args.at c.index-marks-at.result c.requires.before (mark_at _ _ _ c.index-marks-at.is c.requires.within)
    c.in-Some.name.now (some_some c.spelling.result _ _ c.in-Some.name c.in-Some.is c.spelling.ensures) c.find-found.result c.get.result c.as_slice.result.now c.get.ensures c.as_slice.ensures c.find-found.ensures)

pub returns-then-is_new : goal.returns-then-is_new
returns-then-is_new c =
    over_new c.args.marks.now c.args.ends.now (latest_of c.args.walk.now.latest) c.args.walk.now.outer c.args.walk.now.meant c.args.at c.index-marks-at.result c.requires.before (mark_at _ _ _ c.index-marks-at.is c.requires.within)
    c.in-Some.name.now (some_some c.spelling.result _ _ c.in-Some.name c.in-Some.is c.spelling.ensures) c.find-found.result c.get.result c.as_slice.result.now c.get.ensures c.as_slice.ensures c.find-found.ensures
    (latest_of c.keep.new.self) c.push-then-is_new.new.self c.push-then-is_new-2.new.self (sym c.is_new.ensures ∙ c.if-is_new.true) c.in_ok-keep.ensures.here c.in_ok-keep.ensures.others c.in_ok-push-3.ensures.ok c.in_ok-push-4.ensures.ok

pub returns : goal.returns
returns c =
    over_old c.args.marks.now c.args.ends.now (latest_of c.args.walk.now.latest) c.args.walk.now.outer c.args.walk.now.meant c.args.at c.index-marks-at.result c.requires.before (mark_at _ _ _ c.index-marks-at.is c.requires.within)
    c.in-Some.name.now (some_some c.spelling.result _ _ c.in-Some.name c.in-Some.is c.spelling.ensures) c.find-found.result c.get.result c.as_slice.result.now c.get.ensures c.as_slice.ensures c.find-found.ensures
    c.push-2.new.self c.push-3.new.self (sym c.is_new.ensures ∙ c.if-is_new.false) c.in_ok-push-5.ensures.ok c.in_ok-push-6.ensures.ok
