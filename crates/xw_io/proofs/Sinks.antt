-- What a sink gains piece by piece.
use Rattle.std.proofs.Common.{◌≡◌, ℕ, ◌+◌, ◌-◌, ◌≤◌, List, [], ◌∷◌, ◌++◌, length, take, drop, refl, sym, ◌∙◌, ap, arith, inl, inr, true, false, Bool, zero, suc, zero-add, suc-add}
use Rattle.std.proofs.lemmas.Grind.{common_steps}
use Rattle.std.proofs.lemmas.List.{append_assoc, take-append-drop}
use Rattle.std.specs.Prelude.{Option, Some, None, Result, Ok, Err, MatchResult}
use Rattle.xw_io.specs.declared.output.SinkFault.{SinkFault}
use Rattle.xw_io.specs.Outside.{gained, Rose}
use Rattle.xw_io.specs.Gathering.{Passed, Went, Fell, Wrote, Flowed, Drew}
use Rattle.xw_io.specs.declared.output.Out.{Out}

pub append_nothing : {A : Type 0} → (xs : List A) → xs ++ [] ≡ xs
append_nothing [] = refl
append_nothing (x ∷ xs) = ap (λ ys. x ∷ ys) (append_nothing xs)

pub take_plus : (xs : List ℕ) (m n : ℕ) → take (m + n) xs ≡ take m xs ++ take n (drop m xs)
take_plus xs zero n = rw zero-add refl
take_plus [] (suc m) n = grind (arith, common_steps)
take_plus (x ∷ xs) (suc m) n = rw suc-add (ap (λ ys. x ∷ ys) (take_plus xs m n))

pub gained-nothing : (told : Option (List ℕ)) → gained told [] ≡ told
gained-nothing None = refl
gained-nothing (Some b) = ap Some (append_nothing b)

pub gained-more : (told : Option (List ℕ)) (xs ys : List ℕ) → gained (gained told xs) ys ≡ gained told (xs ++ ys)
gained-more None xs ys = refl
gained-more (Some b) xs ys = ap Some (append_assoc b xs ys)

pub rose-later : (a b c : ℕ) → a ≤ b → Rose b c → Rose a c
rose-later a b c h r = elim r [ inl up ↦ inl (omega arith) | inr top ↦ inr top ]

pub passed-then : (a b c : Option (List ℕ)) (due rest more rest' : List ℕ) →
    Passed a b due rest → Passed b c (rest ++ more) rest' → Passed a c (due ++ more) rest'
passed-then a b c due rest more rest' p q = record {
  front = p.front ++ q.front;
  due_is = rw (p.due_is, append_assoc p.front rest more, q.due_is, append_assoc p.front q.front rest') refl;
  told_is = rw (q.told_is, p.told_is) (gained-more a p.front q.front);
}

pub passed-more : (a b : Option (List ℕ)) (due rest more : List ℕ) → Passed a b due rest → Passed a b (due ++ more) (rest ++ more)
passed-more a b due rest more p = record {
  front = p.front;
  due_is = rw (p.due_is, append_assoc p.front rest more) refl;
  told_is = p.told_is;
}

pub passed-nothing : (a : Option (List ℕ)) (due : List ℕ) → Passed a a due due
passed-nothing a due = record { front = []; due_is = refl; told_is = sym (gained-nothing a) }

module _ {O : Type 0} (bytes : O → Option (List ℕ)) (faults : O → ℕ) where
  pub went-nothing : (o : Out O) → Went bytes faults o o []
  went-nothing o = record {
    counts = omega arith;
    passed = rw (append_nothing o.held) (passed-nothing (bytes o.sink.now) o.held);
  }

  pub went-then : (a b c : Out O) (x y : List ℕ) → Went bytes faults a b x → Went bytes faults b c y → Went bytes faults a c (x ++ y)
  went-then a b c x y p q = record {
    counts = omega (arith, p.counts, q.counts);
    passed = rw (← append_assoc a.held x y) (passed-then _ _ _ _ _ _ _ p.passed q.passed);
  }

  pub fell-then : (a b c : Out O) (x y : List ℕ) → Went bytes faults a b x → Fell bytes faults b c y → Fell bytes faults a c (x ++ y)
  fell-then a b c x y p q = record {
    rose = rose-later _ _ _ p.counts q.rose;
    counts = omega (arith, p.counts, q.counts);
    rest = q.rest;
    passed = rw (← append_assoc a.held x y) (passed-then _ _ _ _ _ _ _ p.passed q.passed);
  }

  pub fell-more : (a b : Out O) (x y : List ℕ) → Fell bytes faults a b x → Fell bytes faults a b (x ++ y)
  fell-more a b x y p = record {
    rose = p.rose;
    counts = p.counts;
    rest = p.rest ++ y;
    passed = rw (← append_assoc a.held x y) (passed-more _ _ _ _ y p.passed);
  }

pub rest_is : (text : List ℕ) (start : ℕ) → take (length text - start) (drop start text) ≡ drop start text
rest_is text start = grind (arith, common_steps)

-- what the rest of a text took is within the text
pub within-on : (text : List ℕ) (start n : ℕ) → start ≤ length text → n ≤ length (take (length text - start) (drop start text)) → start + n ≤ length text
within-on text start n le h = grind (arith, common_steps)

pub take-on : (text : List ℕ) (start n : ℕ) → take start text ++ take n (take (length text - start) (drop start text)) ≡ take (start + n) text
take-on text start n = rw (rest_is text start) (sym (take_plus text start n))

pub gained-on : (a b c : Option (List ℕ)) (text : List ℕ) (start n : ℕ) → start ≤ length text →
    b ≡ gained a (take start text) → c ≡ gained b (take n (take (length text - start) (drop start text))) → c ≡ gained a (take (start + n) text)
gained-on a b c text start n le p q =
    rw (q, p, rest_is text start, gained-more a (take start text) (take n (drop start text))) (ap (gained a) (sym (take_plus text start n)))

pub passed-front : (a b c : Option (List ℕ)) (text : List ℕ) (start : ℕ) →
    b ≡ gained a (take start text) → c ≡ b → Passed a c text (drop start text)
passed-front a b c text start p q = record {
  front = take start text;
  due_is = sym (take-append-drop start text);
  told_is = q ∙ p;
}

module _ {O : Type 0} (bytes : O → Option (List ℕ)) (faults : O → ℕ) where
  -- a front of a text was written, and then more of it
  pub went-on : (a b c : Out O) (text : List ℕ) (start n : ℕ) →
      Went bytes faults a b (take start text) → Went bytes faults b c (take n (take (length text - start) (drop start text))) → Went bytes faults a c (take (start + n) text)
  went-on a b c text start n p q = rw (← take-on text start n) (went-then bytes faults a b c _ _ p q)

  -- a front of a text was written, and then the sink failed
  pub fell-on : (a b c : Out O) (text : List ℕ) (start : ℕ) → Went bytes faults a b (take start text) → Fell bytes faults b c [] → Fell bytes faults a c text
  fell-on a b c text start p q =
      let front : take start text ++ [] ≡ take start text = append_nothing (take start text) in
      let fell : Fell bytes faults a c (take start text ++ []) = fell-then bytes faults a b c _ _ p q in
      rw (← take-append-drop start text, ← front) (fell-more bytes faults a c (take start text ++ []) (drop start text) fell)

module _ {O : Type 0} (bytes : O → Option (List ℕ)) (faults : O → ℕ) where
  flowed-then : (a b c : Out O) (x y : List ℕ) (u v w : Bool) → Flowed bytes faults a b x u v → Flowed bytes faults b c y v w → Flowed bytes faults a c (x ++ y) u w
  flowed-then a b c x y true true true p q = went-then bytes faults a b c x y p q
  flowed-then a b c x y true true false p q = fell-then bytes faults a b c x y p q
  flowed-then a b c x y true false true p q = absurd q
  flowed-then a b c x y true false false p q = record {
    rose = rw q.1 p.rose;
    counts = rw q.1 p.counts;
    rest = p.rest ++ y;
    passed = rw (← append_assoc a.held x y, q.0) (passed-more _ _ _ _ y p.passed);
  }
  flowed-then a b c x y false true w p q = absurd p
  flowed-then a b c x y false false true p q = absurd q
  flowed-then a b c x y false false false p q = (q.0 ∙ p.0, q.1 ∙ p.1)

  pub drew-then : (a b c : Out O) (x y : List ℕ) → Drew bytes faults a b x → Drew bytes faults b c y → Drew bytes faults a c (x ++ y)
  drew-then a b c x y p q = record { flowed = flowed-then a b c x y _ _ _ p.flowed q.flowed }

  flowed-nothing : (o : Out O) (u : Bool) → Flowed bytes faults o o [] u u
  flowed-nothing o true = went-nothing bytes faults o
  flowed-nothing o false = (refl, refl)

  pub drew-nothing : (o : Out O) → Drew bytes faults o o []
  drew-nothing o = record { flowed = flowed-nothing o _ }

  wrote-drew : (a b : Out O) (text : List ℕ) (u v : Bool) → u ≡ true → a.usable ≡ u → b.usable ≡ v →
      Flowed bytes faults a b text u v → (r : Result (Unit {0}) SinkFault) → MatchResult r (λ _. b.usable ≡ true) (λ _. b.usable ≡ false) → Wrote bytes faults a b text r
  wrote-drew a b text false v e f g p r h = absurd (cc)
  wrote-drew a b text true true e f g p (Ok d) h = (g, p)
  wrote-drew a b text true true e f g p (Err d) h = absurd (cc)
  wrote-drew a b text true false e f g p (Ok d) h = absurd (cc)
  wrote-drew a b text true false e f g p (Err d) h = (g, p)

  -- a text that was drawn, with what the Out says of it
  pub drawn : (a b : Out O) (text : List ℕ) (r : Result (Unit {0}) SinkFault) → a.usable ≡ true →
      Drew bytes faults a b text → MatchResult r (λ _. b.usable ≡ true) (λ _. b.usable ≡ false) → Wrote bytes faults a b text r
  drawn a b text r u p h = wrote-drew a b text _ _ u refl refl p.flowed r h
