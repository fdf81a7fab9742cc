use Rattle.std.proofs.Common.{◌≡◌, ℕ, ◌<◌, ◌≤◌, List, length, get_or, slice_get, Some, ap, arith}
use Rattle.xc_names.proofs.Searches.{search_begins, search_on, all_searched, next_item, few, one_less}
use Rattle.xc_names.proofs.calls.search_calls.Goals as goal

pub search-init : goal.search-init
search-init c = search_begins c.args.marks.now c.args.meant.now c.args.starts.now c.args.goal c.args.reached.now.keys c.add.new.reached.keys c.requires.small c.requires.empty c.in_ok-add.ensures

item : (ks keys : List ℕ) (next : ℕ) → ks ≡ keys → next < length keys → slice_get keys next ≡ Some (get_or ks next 0)
item ks keys next e h = next_item keys next (get_or ks next 0) (ap (λ (xs : List ℕ). get_or xs next 0) e) h

pub pass-requires-clause-small : goal.pass-requires-clause-small
pass-requires-clause-small c =
    let less : c.search.next < length c.search.reached.keys = let l = c.len.ensures.len in let t = c.search-test.true in omega arith in
    c.search.invariant.small _ (record { place = c.search.next; there = item c.as_slice.result.now c.search.reached.keys c.search.next c.as_slice.ensures.keys less })

pub search-smaller : goal.search-smaller
search-smaller c =
    let less : c.search.next < length c.search.reached.keys = let l = c.len.ensures.len in let t = c.search-test.true in omega arith in
    one_less c.search.next (length c.search.reached.keys) less (few c.args.marks.now c.args.meant.now c.args.starts.now c.args.goal c.search.next c.search.reached.keys c.search.best c.search.invariant c.len.ensures.unique)

pub search-preserved : goal.search-preserved
search-preserved c =
    let less : c.search.next < length c.search.reached.keys = let l = c.len.ensures.len in let t = c.search-test.true in omega arith in
    rw c.earlier-best.ensures
    (search_on c.args.marks.now c.args.meant.now c.args.starts.now c.args.goal c.search.next (get_or c.as_slice.result.now c.search.next 0) c.search.reached.keys c.pass.new.reached.keys c.search.best c.in_ok-pass.field-0 c.search.invariant (item c.as_slice.result.now c.search.reached.keys c.search.next c.as_slice.ensures.keys less) c.in_ok-pass.ensures.adds c.in_ok-pass.ensures.back)

pub returns : goal.returns
returns c =
    let long : length c.search.reached.keys ≤ c.search.next = let l = c.len.ensures.len in let t = c.search-test.false in omega arith in
    all_searched c.args.marks.now c.args.meant.now c.args.starts.now c.args.goal c.search.next c.search.reached.keys c.search.best long c.search.invariant
