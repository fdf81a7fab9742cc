-- On a streaming channel: an output with its credits has room, and each word of an inbox has a token at the end, so a select may go by
-- tokens. Each is a lemma of one channel: `ChannelRel` doesn't have the second as a field yet.
use Rattle.std.proofs.Common.{◌≡◌, ◌<◌, ◌≤◌, ℕ, ◌+◌, true, List, [], ◌∷◌, ◌++◌, length, ap, arith, length-append}
use Rattle.xs_instr.specs.declared.state.Token.{Token}
use Rattle.xs_instr.specs.Ends.{word_tokens}
use Rattle.xc_meaning.specs.States.Channels.{Parcel, word, words_among}
use Rattle.xr_channels.specs.Phases.{streams, SideState, side_state, encodes, unread, ahead, Direction, TransitRel}
use Rattle.xr_channels.proofs.Tokens.Lines.{told_late, put_late, come_on, read_to, no_line, encodes_append}
use Rattle.xr_channels.proofs.Tokens.Lengths.{words_fit}

-- how many tokens are under way from one streaming side to another
pub under_way : (r : SideState) (go come : Direction) → r.phase ≡ streams → TransitRel (side_state streams true) r go come → length go.buffer + length go.link ≡ length (encodes go.inbox) + length (encodes go.late)
under_way r go come e h =
    let o = h.outward in
    let a = ap length o.coming in
    let b = length-append go.link [] in
    let c = length-append o.more (encodes go.late) in
    let d = ap length o.come in
    let f = length-append (ahead r.phase) (go.buffer ++ o.more) in
    let g = length-append go.buffer o.more in
    let i = length-append (unread r.phase) (encodes go.inbox) in
    let j = ap (λ y. length (ahead y)) e in
    let k = ap (λ y. length (unread y)) e in
    omega (arith, a, b, c, d, f, g, i, j, k)

-- OUT with its credits, by which buffer and link hold at most seven tokens: fewer than two words are unread or on their way
pub stream_room : (r : SideState) (go come : Direction) → r.phase ≡ streams → TransitRel (side_state streams true) r go come → length go.buffer + length go.link ≤ 7 → words_among go.inbox + words_among go.late < 2
stream_room r go come e h few =
    let sum = under_way r go come e h in
    let a = words_fit go.inbox in
    let b = words_fit go.late in
    omega (arith, sum, a, b, few)

-- At most three of the tokens of the receiver's inbox are still to come, so each word of it has a token at the end. Each step that
-- changes an inbox or an end keeps it.
abbrev pub EachHasToken : (s r : SideState) → Direction → Type 0
EachHasToken s r l = s.phase ≡ streams → r.phase ≡ streams → length (encodes l.inbox) ≤ length l.buffer + 3

-- where nothing has been sent
pub each_begins : (s r : SideState) → EachHasToken s r no_line
each_begins s r = λ a b. omega arith

-- the word is late
pub each_late : (s r : SideState) (l : Direction) (ks : List Token) (p : Parcel) → EachHasToken s r l → EachHasToken s r (told_late l ks p)
each_late s r l ks p h = λ a b. h a b

-- it is put, and all its tokens come
pub each_near : (v : ℕ) (s r : SideState) (l : Direction) (late : List Parcel) → EachHasToken s r l → EachHasToken s r (record { buffer = l.buffer ++ word_tokens v; link = []; inbox = l.inbox ++ word v ∷ []; late = late })
each_near v s r l late h = λ a b.
    let old = h a b in
    let n = length-append l.buffer (word_tokens v) in
    let m = ap length (encodes_append l.inbox (word v ∷ [])) in
    let k = length-append (encodes l.inbox) (encodes (word v ∷ [])) in
    omega (arith, old, n, m, k)

-- it is put as its first token comes
pub each_put : (v : ℕ) (r : SideState) (go come : Direction) (late : List Parcel) (t : Token) (rest : List Token) (h : TransitRel (side_state streams true) r go come) → h.outward.more ≡ [] → EachHasToken (side_state streams true) r (come_on (put_late go (word v) late) t rest)
each_put v r go come late t rest h none = λ a b.
    let d = ap length h.outward.come in
    let f = length-append (ahead r.phase) (go.buffer ++ h.outward.more) in
    let g = length-append go.buffer h.outward.more in
    let i = length-append (unread r.phase) (encodes go.inbox) in
    let j = ap (λ y. length (ahead y)) b in
    let k = ap (λ y. length (unread y)) b in
    let z = ap length none in
    let n = length-append go.buffer (t ∷ []) in
    let m = ap length (encodes_append go.inbox (word v ∷ [])) in
    let o = length-append (encodes go.inbox) (encodes (word v ∷ [])) in
    omega (arith, d, f, g, i, j, k, z, n, m, o)

-- another token comes
pub each_come : (s r : SideState) (l : Direction) (t : Token) (rest : List Token) → EachHasToken s r l → EachHasToken s r (come_on l t rest)
each_come s r l t rest h = λ a b.
    let old = h a b in
    let n = length-append l.buffer (t ∷ []) in
    omega (arith, old, n)

-- IN
pub each_took : (v : ℕ) (s r : SideState) (l : Direction) (ts : List Token) (ps : List Parcel) → l.inbox ≡ word v ∷ ps → l.buffer ≡ word_tokens v ++ ts → EachHasToken s r l → EachHasToken s r (read_to l ts ps)
each_took v s r l ts ps e b h = λ x y.
    let old = h x y in
    let n = ap length b in
    let m = ap (λ k. length (encodes k)) e in
    omega (arith, old, n, m)

-- Without a token the inbox has no word.
pub none_unread : (s r : SideState) (l : Direction) → s.phase ≡ streams → r.phase ≡ streams → EachHasToken s r l → l.buffer ≡ [] → words_among l.inbox ≡ 0
none_unread s r l a b h none =
    let old = h a b in
    let n = ap length none in
    let m = words_fit l.inbox in
    omega (arith, old, n, m)
