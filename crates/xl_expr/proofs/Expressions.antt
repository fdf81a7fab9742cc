-- An expression's code means its value.
use Rattle.std.proofs.Common.{◌≡◌, ℕ, ◌+◌, ◌<◌, ◌≤◌, Bool, true, false, List, length, Option, Some, None, refl, sym, ap, subst, arith}
use Rattle.std.specs.Prelude.{slice_index, nat_lt}
use Rattle.std.proofs.lemmas.Bool.{ltb-true}
use Rattle.std.proofs.lemmas.Option.{slice_get-get_or}
use Rattle.xw_words.specs.declared.pos.Pos.{Pos}
use Rattle.xs_instr.specs.declared.image.Code.{Code}
use Rattle.xs_instr.specs.declared.instr.Instr.TheVariants.{Ldc}
use Rattle.xs_instr.specs.declared.instr.Reg.TheVariants.{R0}
use Rattle.xs_instr.specs.Registers.{reg_set}
use Rattle.xc_kernel.specs.Plain as kernel
use Rattle.xc_kernel.specs.Operators.{operator_at}
use Rattle.xc_kernel.specs.Values.{Value, word}
use Rattle.xc_kernel.specs.Eval.{Store, words_of, element_by, element_at, eval, eval_all, eval_place}
use Rattle.xs_instr.specs.Lines.{Line}
use Rattle.xs_instr.specs.OwnSteps.{IsWord, temporary}
use Rattle.xl_expr.specs.declared.plan.VarAt.{VarAt}
use Rattle.xl_expr.specs.declared.plan.VarAt.TheVariants.{Near, Far, Through}
use Rattle.xl_expr.specs.declared.plan.VarPlan.{VarPlan}
use Rattle.xl_expr.specs.Plans.{var_in}
use Rattle.xl_expr.specs.Measures.{nodes, nodes_of, nodes_at, depth, depth_of, depth_at}
use Rattle.xl_expr.specs.Code.{where_below, fixed_index, near_word, direct_word, near_element, direct_element, direct_place, direct_of, operand_of, expression_code, codes, place_code}
use Rattle.xl_expr.specs.Works.{WordStands, ArrayStands, WordIsLaid, ArrayIsLaid, ElementIsLaid, IsLaid, AreLaid, PlaceIsLaid}
use Rattle.xl_expr.proofs.Runs.{keeps_r0, done, looser, one_on, by_quiet}
use Rattle.xl_expr.proofs.Pieces.{Means}
use Rattle.xl_expr.proofs.Operations.{HasDirect, AllMean, none, some, operation_means}
use Rattle.xl_expr.proofs.Places.{array_of, near_address, word_means, element_means}

module _ (code : Code) (relied : ℕ → Bool) (s : ℕ) (small : s + temporary ≤ 16384) (mine : (k : ℕ) → k < temporary → relied (s + k) ≡ true) (dp : ℕ) (first : List ℕ) (vars : List (Option VarPlan)) (store : Store) where
  abbrev Piece_means : (ℕ → ℕ → Pos → List Line) → Value → ℕ → ℕ → Type 0
  Piece_means = Means code relied s small mine dp first

  number_means : (v : ℕ) → Piece_means (expression_code vars (kernel.number v)) (word v) 1 1
  number_means v = record {
    by = λ k pc last regs words st fits ready.
        looser code relied s regs words pc (pc + 1) (pc + 1) k k (1 + 0) 7 (word v) refl (omega arith) (omega arith)
        (one_on code relied s regs words (reg_set regs R0 v) words pc (pc + 1) (pc + 1) k 0 (word v) (by_quiet code relied s (Ldc R0 v) regs (reg_set regs R0 v) words pc (pc + 1) st.0 (record { row_is = λ h c t th. refl; no_event = refl }) (λ ws g. refl)) (keeps_r0 s k regs words v) (done code relied s (reg_set regs R0 v) words (pc + 1) (pc + 1) k 0 v refl refl));
  }

  -- what one instruction may bring of an expression is its word
  near_means : (place : VarAt) (x : ℕ) → WordStands vars relied s dp first store place x → HasDirect code relied s small mine dp first (near_word place) (word x)
  near_means (Near n) x h = (x, refl, h)
  near_means (Far n) x h = tt
  near_means (Through n) x h = tt

  word_direct : (found : Option VarPlan) (xs : List ℕ) → WordIsLaid vars relied s dp first store found xs → HasDirect code relied s small mine dp first (direct_word found) (word (slice_index xs 0))
  word_direct None xs h = tt
  word_direct (Some found) xs h = near_means found.place (slice_index xs 0) h

  -- of an array near dp, at a number below its length
  near_at : (place : VarAt) (xs : List ℕ) (i : ℕ) (pos : Pos) (b : Bool) → nat_lt i (length xs) ≡ b → ArrayStands vars relied s dp first store place xs (word i) → HasDirect code relied s small mine dp first (near_element place (where_below i b)) (element_by xs pos i b)
  near_at (Near n) xs i pos true e g =
      let x = slice_index xs i in
      (x, refl, subst (λ p. IsWord relied s first p x) (near_address code relied s small mine dp first vars store n i) (g i x (slice_get-get_or xs i 0 (ltb-true i (length xs) e))))
  near_at (Near n) xs i pos false e g = tt
  near_at (Far n) xs i pos b e g = tt
  near_at (Through n) xs i pos b e g = tt

  -- no other element is direct
  not_direct : (place : VarAt) (v : Value) → HasDirect code relied s small mine dp first (near_element place None) v
  not_direct (Near n) v = tt
  not_direct (Far n) v = tt
  not_direct (Through n) v = tt

  element_direct : (found : Option VarPlan) (index : Type 0) (xs : List ℕ) (i : kernel.Expression) (pos : Pos) → ElementIsLaid vars relied s dp first store found index xs (eval store i) → HasDirect code relied s small mine dp first (direct_element found i) (element_at xs pos (eval store i))
  element_direct None index xs i pos h = tt
  element_direct (Some found) index xs (kernel.number i) pos h =
      let laid = array_of found.place index (ArrayIsLaid vars relied s dp first store found xs (word i)) h in
      subst (λ len. HasDirect code relied s small mine dp first (near_element found.place (where_below i (nat_lt i len))) (element_by xs pos i (nat_lt i (length xs)))) (sym laid.0)
      (near_at found.place xs i pos (nat_lt i (length xs)) refl laid.1)
  element_direct (Some found) index xs (kernel.read p) pos h = not_direct found.place (element_at xs pos (eval store (kernel.read p)))
  element_direct (Some found) index xs (kernel.operation o u es at_pos') pos h = not_direct found.place (element_at xs pos (eval store (kernel.operation o u es at_pos')))

  place_direct : (p : kernel.Place) → PlaceIsLaid vars relied s dp first store p → HasDirect code relied s small mine dp first (direct_place vars p) (eval_place store p)
  place_direct (kernel.word v) h = word_direct (var_in vars v) (words_of store v) h
  place_direct (kernel.element v i pos) h = element_direct (var_in vars v) (IsLaid vars relied s dp first store i) (words_of store v) i pos h

  pub direct_means : (x : kernel.Expression) → IsLaid vars relied s dp first store x → HasDirect code relied s small mine dp first (direct_of vars x) (eval store x)
  direct_means (kernel.number v) h = (v, refl, refl)
  direct_means (kernel.read p) h = place_direct p h
  direct_means (kernel.operation o u es pos) h = tt

  -- an index that needs no test is a number below the length
  below_known : (i len j : ℕ) (b : Bool) → nat_lt i len ≡ b → where_below i b ≡ Some j → (i ≡ j) × (j < len)
  below_known i len j true e h = let same : i ≡ j = cc in let lt = ltb-true i len e in (same, omega arith)
  below_known i len j false e h = absurd (cc)

  pub fixed_known : (x : kernel.Expression) (len j : ℕ) → fixed_index x len ≡ Some j → (eval store x ≡ word j) × (j < len)
  fixed_known (kernel.number i) len j h = let r = below_known i len j (nat_lt i len) refl h in (ap word r.0, r.1)
  fixed_known (kernel.read p) len j h = absurd (cc)
  fixed_known (kernel.operation o u es pos) len j h = absurd (cc)

  mutual
    pub expression_means : (x : kernel.Expression) → IsLaid vars relied s dp first store x → Piece_means (expression_code vars x) (eval store x) (depth x) (nodes x)
    expression_means (kernel.number v) h = number_means v
    expression_means (kernel.read p) h = place_means p h
    expression_means (kernel.operation o u es pos) h =
        operation_means code relied s small mine dp first (operator_at o) u pos (codes vars es) (eval_all store es) (depth_of es) (nodes_of es) (codes_mean es h)

    codes_mean : (es : kernel.Operands) → AreLaid vars relied s dp first store es → AllMean code relied s small mine dp first (codes vars es) (eval_all store es) (depth_of es) (nodes_of es)
    codes_mean kernel.no_operand h = none
    codes_mean (kernel.more_operands e es) h =
        some (operand_of vars e) (eval store e) (depth e) (nodes e) (codes vars es) (eval_all store es) (depth_of es) (nodes_of es) (expression_means e h.0) (direct_means e h.0) (codes_mean es h.1)

    place_means : (p : kernel.Place) → PlaceIsLaid vars relied s dp first store p → Piece_means (place_code vars p) (eval_place store p) (depth_at p) (nodes_at p)
    place_means (kernel.word v) h = word_means code relied s small mine dp first vars store (var_in vars v) (words_of store v) h
    place_means (kernel.element v i pos) h =
        element_means code relied s small mine dp first vars store (var_in vars v) (words_of store v) i pos (expression_code vars i) (eval store i) (depth i) (nodes i) (IsLaid vars relied s dp first store i) (λ laid. expression_means i laid) (fixed_known i) h
