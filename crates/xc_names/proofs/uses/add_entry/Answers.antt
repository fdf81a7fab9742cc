use Rattle.std.proofs.Common.{◌≡◌, ℕ, ◌<◌, List, length, get_or, slice_get, Option, Some, None, sym, ◌∙◌, arith}
use Rattle.std.proofs.lemmas.Option.{slice_get-get_or, get_or_from_slice_get}
use Rattle.xc_tree.specs.Names.Uses.{number_of}
use Rattle.xc_names.proofs.News.{mark_at}
use Rattle.xc_names.proofs.Numbers.{onward, entry_inside}
use Rattle.xc_names.proofs.uses.add_entry.Goals as goal

kept : (meant : List (Option ℕ)) (n i : ℕ) → i < n → length meant ≡ n → slice_get meant i ≡ Some (get_or meant i None)
kept meant n i h e = slice_get-get_or meant i None (omega arith)

pub returns-in-None : goal.returns-in-None
returns-in-None c =
    (onward c.args.marks.now c.args.meant.now c.requires.meant c.requires.unbroken c.args.at c.index-marks-at.result (get_or c.args.meant.now c.args.at None) c.args.uses.now (mark_at _ _ _ c.index-marks-at.is c.requires.within) (kept c.args.meant.now _ c.args.at c.requires.within c.requires.meant.one_each) c.requires.so_far).1
    (sym c.entry.ensures ∙ c.in-None.is)

pub prove-unreachable-requires : goal.prove-unreachable-requires
prove-unreachable-requires c =
    let h = entry_inside c.args.marks.now c.args.meant.now c.requires.meant c.args.at c.index-marks-at.result (get_or c.args.meant.now c.args.at None) (mark_at _ _ _ c.index-marks-at.is c.requires.within) (kept c.args.meant.now _ c.args.at c.requires.within c.requires.meant.one_each) c.in-Some.d (sym c.entry.ensures ∙ c.in-Some.is) in
    let k = c.requires.numbers.count in
    omega arith

pub returns-in_ok-push-in-Some : goal.returns-in_ok-push-in-Some
returns-in_ok-push-in-Some c =
    let h = (onward c.args.marks.now c.args.meant.now c.requires.meant c.requires.unbroken c.args.at c.index-marks-at.result (get_or c.args.meant.now c.args.at None) c.args.uses.now (mark_at _ _ _ c.index-marks-at.is c.requires.within) (kept c.args.meant.now _ c.args.at c.requires.within c.requires.meant.one_each) c.requires.so_far).0 c.in-Some.d (sym c.entry.ensures ∙ c.in-Some.is) in
    let less : c.in-Some.d < length c.args.marks.now = let k = c.requires.numbers.count in let g = c.if-prove.false in omega arith in
    let e : get_or c.args.numbers.now c.in-Some.d 0 ≡ number_of c.args.marks.now c.in-Some.d = get_or_from_slice_get c.args.numbers.now c.in-Some.d _ 0 (c.requires.numbers.each c.in-Some.d less) in
    rw (c.in_ok-push-in-Some.ensures.ok, e) h
