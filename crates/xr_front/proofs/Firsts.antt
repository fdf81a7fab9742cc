-- The first broken rule of a text, by the phase that found it, and the texts that break none.
use Rattle.std.proofs.Common.{◌≡◌, ◌⊎◌, ◌<◌, ◌≤◌, ℕ, List, length, refl, sym, ap, subst, inl, inr, ◌∙◌, arith}
use Rattle.xw_words.specs.declared.pos.Broken.{Broken}
use Rattle.xc_tree.specs.declared.token.Tok.{Tok}
use Rattle.xc_tree.specs.Derives.{IsProgram}
use Rattle.xc_tree.specs.Lexes.{Lexes, IsBefore, IsNotAfter, Breaks as BreaksInBytes}
use Rattle.xc_tree.specs.Least.{IsFirst}
use Rattle.xc_tree.specs.Parses.{BreaksRule, FirstBroken as FirstInTokens, place_at}
use Rattle.xc_tree.specs.Plain.{Item}
use Rattle.xc_tree.specs.Names.Rules.{Breaks as BreaksInNames}
use Rattle.xc_tree.specs.Types.Named.{NamedProgram}
use Rattle.xc_tree.specs.Checks.{Breaks as BreaksInTypes}
use Rattle.xc_disjoint.specs.Rules.{Breaks as BreaksInNeeds}
use Rattle.xc_kernel.specs.Copies.{Copies, copy_of}
use Rattle.xc_kernel.specs.Plain.{Kernel}
use Rattle.xc_kernel.specs.Size.{Breaks509, IsTooLarge}
use Rattle.xc_today.specs.Today.{IsSupported}
use Rattle.xc_lexer.proofs.Rows.{tokens_one, tokens_unbroken}
use Rattle.xr_front.specs.Rules.{Breaks, of_bytes, of_form, of_names, of_needs, of_size, of_tokens, of_types, First, IsAccepted, IsCopied, IsEarlier, IsResolved, IsShaped, IsTree, Phase, Form, Bytes, Tokens, Names, Types, Size, Needs, end_of, not_built}
use Rattle.xr_front.proofs.Meanings.{named_one}
use Rattle.xr_front.proofs.Order.{tokens_in_order}

pub first_in_bytes : (text : List ℕ) (b : Broken) → IsFirst (BreaksInBytes text) b → First text b
first_in_bytes text b f = record { phase = Bytes; breaks = of_bytes b f.breaks; least = least }
  where
    least : (later : Phase) (other : Broken) → Breaks text later other → IsEarlier Bytes later ⊎ ((Bytes ≡ later) × IsNotAfter b other)
    least later other (of_form items tree not) = absurd (tokens_unbroken text tree.toks b tree.lexes f.breaks)
    least later other (of_bytes c breaks) = inr (refl, f.least c breaks)
    least later other (of_tokens toks rule i lexes breaks) = inl (omega arith)
    least later other (of_names items c tree breaks) = inl (omega arith)
    least later other (of_types items n c tree named breaks) = inl (omega arith)
    least later other (of_size items n c tree shaped breaks) = inl (omega arith)
    least later other (of_needs items K c tree copied breaks) = inl (omega arith)

-- a broken rule stands at a token or at the end
within : (toks : List Tok) (rule i : ℕ) → BreaksRule toks rule i → i ≤ length toks
within toks rule i (inl h) = h.1.within
within toks rule i (inr h) = let l = h.1.within in omega (arith, l)

module _ (text : List ℕ) (toks : List Tok) (lexes : Lexes text toks) where
  same : (others : List Tok) → Lexes text others → others ≡ toks
  same others l = tokens_one text others toks l lexes

  pub first_in_tokens : (b : Broken) → FirstInTokens toks (end_of text) b → First text b
  first_in_tokens b f = record { phase = Tokens; breaks = subst (Breaks text Tokens) (sym is) (of_tokens toks b.rule f.«at» lexes f.breaks); least = least }
    where
      is : b ≡ record { rule = b.rule; pos = place_at toks (end_of text) f.«at» }
      is = ap (λ p. let c : Broken = record { rule = b.rule; pos = p } in c) f.place

      by : (rule i : ℕ) → i ≤ length toks → (f.«at» < i) ⊎ ((f.«at» ≡ i) × (b.rule ≤ rule)) → IsNotAfter b (record { rule = rule; pos = place_at toks (end_of text) i })
      by rule i few (inl before) = inl (subst (λ p. IsBefore p (place_at toks (end_of text) i)) (sym f.place) (tokens_in_order text toks lexes f.«at» i before few))
      by rule i few (inr here) = inr (f.place ∙ ap (place_at toks (end_of text)) here.0, here.1)

      least : (later : Phase) (other : Broken) → Breaks text later other → IsEarlier Tokens later ⊎ ((Tokens ≡ later) × IsNotAfter b other)
      least later other (of_form items tree not) = absurd (tree.unbroken b.rule f.«at» (subst (λ ts. BreaksRule ts b.rule f.«at») (sym (same tree.toks tree.lexes)) f.breaks))
      least later other (of_bytes c breaks) = absurd (tokens_unbroken text toks c lexes breaks)
      least later other (of_tokens others rule i l breaks) =
          let e = same others l in
          let at_toks = subst (λ ts. BreaksRule ts rule i) e breaks in
          inr (refl, subst (λ ts. IsNotAfter b (record { rule = rule; pos = place_at ts (end_of text) i })) (sym e) (by rule i (within toks rule i at_toks) (f.least rule i at_toks)))
      least later other (of_names items c tree breaks) = inl (omega arith)
      least later other (of_types items n c tree named breaks) = inl (omega arith)
      least later other (of_size items n c tree shaped breaks) = inl (omega arith)
      least later other (of_needs items K c tree copied breaks) = inl (omega arith)

  module _ (items : List Item) (derives : IsProgram toks items) (unbroken : (rule i : ℕ) → BreaksRule toks rule i → ⊥) where
    abbrev tree : IsTree text items
    tree = record { toks = toks; lexes = lexes; derives = derives; unbroken = unbroken }

    pub first_of_form : (IsSupported toks → ⊥) → First text not_built
    first_of_form not = record { phase = Form; breaks = of_form items tree not; least = least }
      where
        least : (later : Phase) (other : Broken) → Breaks text later other → IsEarlier Form later ⊎ ((Form ≡ later) × IsNotAfter not_built other)
        least later other (of_form others t n) = inr (refl, inr (refl, omega arith))
        least later other (of_bytes c breaks) = inl (omega arith)
        least later other (of_tokens others rule i l breaks) = inl (omega arith)
        least later other (of_names others c t breaks) = inl (omega arith)
        least later other (of_types others n c t named breaks) = inl (omega arith)
        least later other (of_size others n c t shaped breaks) = inl (omega arith)
        least later other (of_needs others K c t copied breaks) = inl (omega arith)

    no_bytes : (c : Broken) → BreaksInBytes text c → ⊥
    no_bytes c breaks = tokens_unbroken text toks c lexes breaks

    no_tokens : (others : List Tok) (rule i : ℕ) → Lexes text others → BreaksRule others rule i → ⊥
    no_tokens others rule i l breaks = unbroken rule i (subst (λ ts. BreaksRule ts rule i) (same others l) breaks)

    module _ (only : (v : List Item) → IsProgram toks v → v ≡ items) (form : IsSupported toks) where
      one_tree : (others : List Item) → IsTree text others → others ≡ items
      one_tree others t = only others (subst (λ ts. IsProgram ts others) (same t.toks t.lexes) t.derives)

      no_other_form : (others : List Item) (t : IsTree text others) → (IsSupported t.toks → ⊥) → ⊥
      no_other_form others t not = not (subst IsSupported (sym (same t.toks t.lexes)) form)

      pub first_in_names : (b : Broken) → IsFirst (BreaksInNames items) b → First text b
      first_in_names b f = record { phase = Names; breaks = of_names items b tree f.breaks; least = least }
        where
          least : (later : Phase) (other : Broken) → Breaks text later other → IsEarlier Names later ⊎ ((Names ≡ later) × IsNotAfter b other)
          least later other (of_form others t not) = absurd (no_other_form others t not)
          least later other (of_bytes c breaks) = absurd (no_bytes c breaks)
          least later other (of_tokens others rule i l breaks) = absurd (no_tokens others rule i l breaks)
          least later other (of_names others c t breaks) = inr (refl, f.least c (subst (λ v. BreaksInNames v c) (one_tree others t) breaks))
          least later other (of_types others n c t named breaks) = inl (omega arith)
          least later other (of_size others n c t shaped breaks) = inl (omega arith)
          least later other (of_needs others K c t copied breaks) = inl (omega arith)

      module _ (n : NamedProgram) (named : IsResolved items n) where
        no_names : (others : List Item) (c : Broken) → IsTree text others → BreaksInNames others c → ⊥
        no_names others c t breaks = named.unbroken c (subst (λ v. BreaksInNames v c) (one_tree others t) breaks)

        in_types : (others : List Item) (m : NamedProgram) (c : Broken) → IsTree text others → IsResolved others m → BreaksInTypes m c → BreaksInTypes n c
        in_types others m c t other_named breaks =
            subst (λ x. BreaksInTypes x c) (named_one items m n (subst (λ v. IsResolved v m) (one_tree others t) other_named) named) breaks

        pub first_in_types : (b : Broken) → IsFirst (BreaksInTypes n) b → First text b
        first_in_types b f = record { phase = Types; breaks = of_types items n b tree named f.breaks; least = least }
          where
            least : (later : Phase) (other : Broken) → Breaks text later other → IsEarlier Types later ⊎ ((Types ≡ later) × IsNotAfter b other)
            least later other (of_form others t not) = absurd (no_other_form others t not)
            least later other (of_bytes c breaks) = absurd (no_bytes c breaks)
            least later other (of_tokens others rule i l breaks) = absurd (no_tokens others rule i l breaks)
            least later other (of_names others c t breaks) = absurd (no_names others c t breaks)
            least later other (of_types others m c t other_named breaks) = inr (refl, f.least c (in_types others m c t other_named breaks))
            least later other (of_size others m c t shaped breaks) = inl (omega arith)
            least later other (of_needs others K c t copied breaks) = inl (omega arith)

        module _ (typed : (b : Broken) → BreaksInTypes n b → ⊥) where
          shaped : IsShaped items n
          shaped = record { resolved = named; unbroken = typed }

          no_types : (others : List Item) (m : NamedProgram) (c : Broken) → IsTree text others → IsResolved others m → BreaksInTypes m c → ⊥
          no_types others m c t other_named breaks = typed c (in_types others m c t other_named breaks)

          -- all that is broken in the one phase stands at one place, under one number
          one_size : (b c : Broken) → Breaks509 items b → Breaks509 items c → IsNotAfter b c
          one_size b c x y =
              let rule_b = x.rule in
              let rule_c = y.rule in
              inr (x.place ∙ sym y.place, omega (arith, rule_b, rule_c))

          pub first_in_size : (b : Broken) → Breaks509 items b → First text b
          first_in_size b f = record { phase = Size; breaks = of_size items n b tree shaped f; least = least }
            where
              least : (later : Phase) (other : Broken) → Breaks text later other → IsEarlier Size later ⊎ ((Size ≡ later) × IsNotAfter b other)
              least later other (of_form others t not) = absurd (no_other_form others t not)
              least later other (of_bytes c breaks) = absurd (no_bytes c breaks)
              least later other (of_tokens others rule i l breaks) = absurd (no_tokens others rule i l breaks)
              least later other (of_names others c t breaks) = absurd (no_names others c t breaks)
              least later other (of_types others m c t other_named breaks) = absurd (no_types others m c t other_named breaks)
              least later other (of_size others m c t other_shaped breaks) =
                  inr (refl, one_size b c f (subst (λ v. Breaks509 v c) (one_tree others t) breaks))
              least later other (of_needs others K c t copied breaks) = inl (omega arith)

          module _ (small : IsTooLarge items → ⊥) (K : Kernel) (copies : Copies items K) where
            no_size : (others : List Item) (c : Broken) → IsTree text others → Breaks509 others c → ⊥
            no_size others c t breaks = small (subst IsTooLarge (one_tree others t) breaks.too_large)

            one_kernel : (others : List Item) (k : Kernel) → IsTree text others → IsCopied others k → k ≡ K
            one_kernel others k t copied = copied.copies.is_copy ∙ ap copy_of (one_tree others t) ∙ sym copies.is_copy

            in_needs : (others : List Item) (k : Kernel) (c : Broken) → IsTree text others → IsCopied others k → BreaksInNeeds k c → BreaksInNeeds K c
            in_needs others k c t copied breaks = subst (λ x. BreaksInNeeds x c) (one_kernel others k t copied) breaks

            pub first_in_needs : (b : Broken) → IsFirst (BreaksInNeeds K) b → First text b
            first_in_needs b f = record {
              phase = Needs;
              breaks = of_needs items K b tree (record { n = n; shaped = shaped; small = small; copies = copies }) f.breaks;
              least = least;
            }
              where
                least : (later : Phase) (other : Broken) → Breaks text later other → IsEarlier Needs later ⊎ ((Needs ≡ later) × IsNotAfter b other)
                least later other (of_form others t not) = absurd (no_other_form others t not)
                least later other (of_bytes c breaks) = absurd (no_bytes c breaks)
                least later other (of_tokens others rule i l breaks) = absurd (no_tokens others rule i l breaks)
                least later other (of_names others c t breaks) = absurd (no_names others c t breaks)
                least later other (of_types others m c t other_named breaks) = absurd (no_types others m c t other_named breaks)
                least later other (of_size others m c t other_shaped breaks) = absurd (no_size others c t breaks)
                least later other (of_needs others k c t copied breaks) = inr (refl, f.least c (in_needs others k c t copied breaks))

            pub accepts : ((b : Broken) → BreaksInNeeds K b → ⊥) → IsAccepted text items
            accepts unneeded = record { tree = tree; unbroken = none }
              where
                none : (phase : Phase) (b : Broken) → Breaks text phase b → ⊥
                none phase b (of_form others t not) = no_other_form others t not
                none phase b (of_bytes c breaks) = no_bytes c breaks
                none phase b (of_tokens others rule i l breaks) = no_tokens others rule i l breaks
                none phase b (of_names others c t breaks) = no_names others c t breaks
                none phase b (of_types others m c t other_named breaks) = no_types others m c t other_named breaks
                none phase b (of_size others m c t other_shaped breaks) = no_size others c t breaks
                none phase b (of_needs others k c t copied breaks) = unneeded c (in_needs others k c t copied breaks)
