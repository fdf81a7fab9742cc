use Rattle.std.proofs.Common.{◌⊎◌, inl, inr, ℕ, ◌+◌, ◌<◌, ◌≤◌, List, length, get_or, arith}
use Rattle.std.proofs.lemmas.Option.{slice_get-get_or, slice_get_within, get_or_from_slice_get}
use Rattle.xc_names.specs.Searches.{AreBounds, AreWithin}
use Rattle.xc_names.proofs.calls.body.Goals.{else-f-starts-via-then-f-starts+else-starts-f, else-f-starts-via-else-f-starts}
use Rattle.xc_names.proofs.calls.body.Goals as goal

-- an item's places are those from its start up to the next one's
between : (starts : List ℕ) (n f : ℕ) → AreWithin starts n → f + 1 < length starts → get_or starts f 0 ≤ get_or starts (f + 1) 0 →
    AreBounds starts n f (get_or starts f 0) (get_or starts (f + 1) 0)
between starts n f within more ordered =
    let begins = slice_get-get_or starts f 0 (omega (arith, more)) in
    let ends = slice_get-get_or starts (f + 1) 0 more in
    record {
      ordered = ordered;
      within = within.each (f + 1) (get_or starts (f + 1) 0) ends;
      inside = λ u i.
          let first = get_or_from_slice_get starts f i.first 0 i.begins in
          let end = get_or_from_slice_get starts (f + 1) i.end 0 i.ends in
          let behind = i.behind in
          let before = i.before in
          (omega (arith, first, behind), omega (arith, end, before));
      of_body = λ u behind before. record {
        first = get_or starts f 0;
        end = get_or starts (f + 1) 0;
        begins = begins;
        ends = ends;
        behind = behind;
        before = before;
      };
    }

-- no place belongs to an item behind the last one, or to one that begins behind the next
nowhere : (starts : List ℕ) (n f : ℕ) → (length starts ≤ f + 1) ⊎ (get_or starts (f + 1) 0 < get_or starts f 0) → AreBounds starts n f 0 0
nowhere starts n f (inl past) = record {
  ordered = omega arith;
  within = omega arith;
  inside = λ u i. let more = slice_get_within starts (f + 1) i.end i.ends in absurd (omega (arith, past, more));
  of_body = λ u behind before. absurd (omega (arith, before));
}
nowhere starts n f (inr less) = record {
  ordered = omega arith;
  within = omega arith;
  inside = λ u i.
      let first = get_or_from_slice_get starts f i.first 0 i.begins in
      let end = get_or_from_slice_get starts (f + 1) i.end 0 i.ends in
      let behind = i.behind in
      let before = i.before in
      absurd (omega (arith, less, first, end, behind, before));
  of_body = λ u behind before. absurd (omega (arith, before));
}

pub returns-then-starts-f : goal.returns-then-starts-f
returns-then-starts-f c = between c.args.starts.now c.args.n c.args.f c.requires.within c.if-f-starts.true c.if-starts-f.true

pub returns-else-f-starts : goal.returns-else-f-starts
returns-else-f-starts c = elim c.else-f-starts.branch [
  | else-f-starts-via-then-f-starts+else-starts-f w ↦ nowhere c.args.starts.now c.args.n c.args.f (inr w.if-starts-f.false)
  | else-f-starts-via-else-f-starts w ↦ nowhere c.args.starts.now c.args.n c.args.f (inl w.if-f-starts.false)
]
