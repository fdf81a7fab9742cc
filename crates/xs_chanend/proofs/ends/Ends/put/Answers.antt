use Rattle.std.proofs.Common.{◌≡◌, ◌<◌, ◌∙◌, ℕ, Bool, true, false, List, [], ◌∷◌, ◌++◌, length, length-set, get_or, set, slice_get, ap, sym, subst}
use Rattle.std.proofs.lemmas.List.{get_or_read, set-get_or}
use Rattle.std.proofs.lemmas.Option.{slice_get-get_or}
use Rattle.std.specs.Bool.{OnTrue, OnFalse}
use Rattle.std.specs.Prelude.{◌↔◌}
use Rattle.xs_instr.specs.declared.state.ChanEnd.{ChanEnd}
use Rattle.xs_instr.specs.declared.state.Token.{Token}
use Rattle.xs_instr.specs.Ends.{token_at}
use Rattle.xs_instr.specs.Machine.{boot_end}
use Rattle.xs_chanend.specs.Ends.{end_at}
use Rattle.xs_chanend.proofs.ends.Ends.put.Goals as goal

-- the end that is lent is the one at its place
lent_is : (ends inside : List ChanEnd) (e : ℕ) (lent : ChanEnd) → ends ≡ inside → e < length ends → lent ≡ get_or inside e lent → lent ≡ end_at ends e
lent_is ends inside e lent same lt is = get_or_read ends e lent lt (is ∙ sym (ap (λ all. get_or all e lent) same)) boot_end

-- a token that is taken comes last at the end, and the other ends stay
put_last : (ends inside : List ChanEnd) (e : ℕ) (k : Token) (lent new : ChanEnd) (answer : Bool) → ends ≡ inside → e < length ends →
    lent ≡ get_or inside e lent → OnTrue answer (new ≡ record lent { tokens = lent.tokens ++ k ∷ [] }) →
    OnTrue answer (set inside e new ≡ token_at ends e k (slice_get ends e))
put_last ends inside e k lent new true same lt is h =
    ap (λ all. set all e new) (sym same)
    ∙ ap (set ends e) (h ∙ ap (λ (end : ChanEnd). record end { tokens = end.tokens ++ k ∷ [] }) (lent_is ends inside e lent same lt is))
    ∙ sym (ap (token_at ends e k) (slice_get-get_or ends e boot_end lt))
put_last ends inside e k lent new false same lt is h = h

-- a token that is refused leaves all ends
none_put : (ends inside : List ChanEnd) (e : ℕ) (lent new : ChanEnd) (answer : Bool) → ends ≡ inside → lent ≡ get_or inside e lent →
    OnFalse answer (new ≡ lent) → OnFalse answer (set inside e new ≡ ends)
none_put ends inside e lent new true same is h = h
none_put ends inside e lent new false same is h = ap (set inside e) (h ∙ is) ∙ set-get_or inside e lent ∙ sym same

pub returns-clause-full : goal.returns-clause-full
returns-clause-full c =
    subst (λ (end : ChanEnd). (c.put.result ≡ false) ↔ (length end.tokens ≡ 8))
    (lent_is c.args.self.now _ c.args.end _ (sym c.self.view_is) c.requires c.index_mut-it.ensures.value) c.put.ensures.full

pub returns-clause-last : goal.returns-clause-last
returns-clause-last c =
    put_last c.args.self.now _ c.args.end c.args.t _ _ _ (sym c.self.view_is) c.requires c.index_mut-it.ensures.value c.put.ensures.last

pub returns-clause-refused : goal.returns-clause-refused
returns-clause-refused c =
    none_put c.args.self.now _ c.args.end _ _ _ (sym c.self.view_is) c.index_mut-it.ensures.value c.put.ensures.refused

pub returns-clause-count : goal.returns-clause-count
returns-clause-count c = length-set c.self.inside.all.items c.args.end c.put.new.self ∙ ap length c.self.view_is
