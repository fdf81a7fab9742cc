-- What the declared expressions and places say of measures and code.
use Rattle.std.proofs.Common.{◌≡◌, ℕ, zero, suc, ◌+◌, ◌<◌, ◌≤◌, Bool, List, [], ◌∷◌, ◌++◌, length, get_or, drop, Option, Some, None, refl, sym, ap, ◌∙◌, arith, append-nil}
use Rattle.std.specs.declared.boxed.Box.{Box}
use Rattle.std.specs.declared.alloc.Global.{Global}
use Rattle.xw_words.specs.declared.pos.Pos.{Pos}
use Rattle.xc_kernel.specs.declared.statement.Kx.{Kx}
use Rattle.xc_kernel.specs.declared.statement.Kx as E
use Rattle.xc_kernel.specs.declared.statement.Place.{Place}
use Rattle.xc_kernel.specs.declared.statement.Place as P
use Rattle.xc_kernel.specs.Kernels.{expression_of, place_of}
use Rattle.xc_kernel.proofs.Forms.{expression-Num, expression-Read, expression-Op, place-Word, place-Elem}
use Rattle.xc_kernel.specs.Operators.{Operator, operator_at}
use Rattle.xs_instr.specs.Lines.{Line, line, at_pos}
use Rattle.xs_instr.specs.declared.instr.Instr.TheVariants.{Ldc}
use Rattle.xs_instr.specs.declared.instr.Reg.TheVariants.{R0}
use Rattle.xl_expr.specs.declared.plan.VarAt.{VarAt}
use Rattle.xl_expr.specs.declared.plan.VarPlan.{VarPlan}
use Rattle.xl_expr.specs.Plans.{var_in}
use Rattle.xl_expr.specs.Code.{Piece, operation_code, codes, word_at_place, word_code, element_at_place, element_code, expression_code, place_code}
use Rattle.xl_expr.specs.Measures.{nodes, nodes_of, nodes_at, depth, depth_of, depth_at}
use Rattle.xl_expr.specs.Operands.{operands_of}
use Rattle.xs_instr.specs.declared.instr.Reg.{Reg}
use Rattle.xl_expr.specs.Stores.{store_code, word_store, word_write, element_store, element_store_at}
use Rattle.xl_expr.proofs.StoreClause.{some_place}

pub nodes_read : (x : Kx) (p : Place) → x ≡ E.Read p → nodes (expression_of x) ≡ nodes_at (place_of p)
nodes_read x p e = ap (λ y. nodes (expression_of y)) e ∙ ap nodes (expression-Read p)

pub depth_read : (x : Kx) (p : Place) → x ≡ E.Read p → depth (expression_of x) ≡ depth_at (place_of p)
depth_read x p e = ap (λ y. depth (expression_of y)) e ∙ ap depth (expression-Read p)

pub nodes_op : (x : Kx) (o : ℕ) (u : Bool) (es ops : List Kx) (pos : Pos) → x ≡ E.Op o u es pos → ops ≡ es → nodes (expression_of x) ≡ 1 + nodes_of (operands_of ops)
nodes_op x o u es ops pos e f = ap (λ y. nodes (expression_of y)) e ∙ ap nodes (expression-Op o u es pos) ∙ ap (λ l. 1 + nodes_of (operands_of l)) (sym f)

pub depth_op : (x : Kx) (o : ℕ) (u : Bool) (es ops : List Kx) (pos : Pos) → x ≡ E.Op o u es pos → ops ≡ es → depth (expression_of x) ≡ 1 + depth_of (operands_of ops)
depth_op x o u es ops pos e f = ap (λ y. depth (expression_of y)) e ∙ ap depth (expression-Op o u es pos) ∙ ap (λ l. 1 + depth_of (operands_of l)) (sym f)

pub nodes_elem : (p : Place) (v : ℕ) (i : Box Kx Global) (pos : Pos) (x : Kx) → p ≡ P.Elem v i pos → x ≡ i.value → nodes_at (place_of p) ≡ 1 + nodes (expression_of x)
nodes_elem p v i pos x e f = ap (λ q. nodes_at (place_of q)) e ∙ ap nodes_at (place-Elem v i pos) ∙ ap (λ y. 1 + nodes (expression_of y)) (sym f)

pub depth_elem : (p : Place) (v : ℕ) (i : Box Kx Global) (pos : Pos) (x : Kx) → p ≡ P.Elem v i pos → x ≡ i.value → depth_at (place_of p) ≡ 1 + depth (expression_of x)
depth_elem p v i pos x e f = ap (λ q. depth_at (place_of q)) e ∙ ap depth_at (place-Elem v i pos) ∙ ap (λ y. 1 + depth (expression_of y)) (sym f)

-- of the operands of an operation
pub nodes_first : (xs : List Kx) (x : Kx) → 1 ≤ length xs → x ≡ get_or xs 0 x → nodes (expression_of x) ≤ nodes_of (operands_of xs)
nodes_first [] x n e = absurd (omega arith)
nodes_first (y ∷ xs) x n e = let h : nodes (expression_of x) ≡ nodes (expression_of y) = ap (λ z. nodes (expression_of z)) e in omega arith

pub nodes_two : (xs : List Kx) (x y : Kx) → 2 ≤ length xs → x ≡ get_or xs 0 x → y ≡ get_or xs 1 y → nodes (expression_of x) + nodes (expression_of y) ≤ nodes_of (operands_of xs)
nodes_two [] x y n e f = absurd (omega arith)
nodes_two (z ∷ xs) x y n e f =
    let h : nodes (expression_of x) ≡ nodes (expression_of z) = ap (λ w. nodes (expression_of w)) e in
    let g = nodes_first xs y (omega arith) f in
    omega arith

pub nodes_three : (xs : List Kx) (x y z : Kx) → 3 ≤ length xs → x ≡ get_or xs 0 x → y ≡ get_or xs 1 y → z ≡ get_or xs 2 z → nodes (expression_of x) + nodes (expression_of y) + nodes (expression_of z) ≤ nodes_of (operands_of xs)
nodes_three [] x y z n e f g = absurd (omega arith)
nodes_three (w ∷ xs) x y z n e f g =
    let h : nodes (expression_of x) ≡ nodes (expression_of w) = ap (λ w. nodes (expression_of w)) e in
    let g = nodes_two xs y z (omega arith) f g in
    omega arith

pub depth_nth : (xs : List Kx) (i : ℕ) (x : Kx) → i < length xs → x ≡ get_or xs i x → depth (expression_of x) ≤ depth_of (operands_of xs)
depth_nth [] i x n e = absurd (omega arith)
depth_nth (y ∷ xs) zero x n e = let h : depth (expression_of x) ≡ depth (expression_of y) = ap (λ z. depth (expression_of z)) e in omega arith
depth_nth (y ∷ xs) (suc i) x n e = let h = depth_nth xs i x (omega arith) e in omega arith

-- two operands
pub two_operands : (xs : List Kx) (x y : Kx) → 2 ≤ length xs → length xs < 3 → x ≡ get_or xs 0 x → y ≡ get_or xs 1 y → xs ≡ x ∷ y ∷ []
two_operands [] x y n m e f = absurd (omega arith)
two_operands (a ∷ []) x y n m e f = absurd (omega arith)
two_operands (a ∷ b ∷ []) x y n m e f = ap (λ (z : Kx). z ∷ b ∷ []) (sym e) ∙ ap (λ (z : Kx). x ∷ z ∷ []) (sym f)
two_operands (a ∷ b ∷ c ∷ xs) x y n m e f = absurd (omega arith)

no_operands : (xs : List Kx) → length xs < 1 → xs ≡ []
no_operands [] n = refl
no_operands (y ∷ xs) n = absurd (omega arith)

one_operand : (xs : List Kx) (x : Kx) → 1 ≤ length xs → length xs < 2 → x ≡ get_or xs 0 x → xs ≡ x ∷ []
one_operand [] x n m e = absurd (omega arith)
one_operand (a ∷ []) x n m e = ap (λ (z : Kx). z ∷ []) (sym e)
one_operand (a ∷ b ∷ xs) x n m e = absurd (omega arith)

three_operands : (xs : List Kx) (x y z : Kx) → 3 ≤ length xs → x ≡ get_or xs 0 x → y ≡ get_or xs 1 y → z ≡ get_or xs 2 z → xs ≡ x ∷ y ∷ z ∷ drop 3 xs
three_operands [] x y z n e f g = absurd (omega arith)
three_operands (a ∷ []) x y z n e f g = absurd (omega arith)
three_operands (a ∷ b ∷ []) x y z n e f g = absurd (omega arith)
three_operands (a ∷ b ∷ c ∷ xs) x y z n e f g = ap (λ (w : Kx). w ∷ b ∷ c ∷ xs) (sym e) ∙ ap (λ (w : Kx). x ∷ w ∷ c ∷ xs) (sym f) ∙ ap (λ (w : Kx). x ∷ y ∷ w ∷ xs) (sym g)

-- the code of an operation, by its operands
module _ (o : Operator) (u : Bool) (pos : Pos) (vars : List (Option VarPlan)) (xs : List Kx) (k here : ℕ) (last : Pos) where
  of_operands : (ys : List Kx) → xs ≡ ys → operation_code o u pos (codes vars (operands_of ys)) k here last ≡ operation_code o u pos (codes vars (operands_of xs)) k here last
  of_operands ys e = ap (λ (l : List Kx). operation_code o u pos (codes vars (operands_of l)) k here last) (sym e)

  pub of_none : length xs < 1 → line (Ldc R0 0) pos ∷ [] ≡ operation_code o u pos (codes vars (operands_of xs)) k here last
  of_none n = of_operands [] (no_operands xs n)

  pub of_one : (x : Kx) → 1 ≤ length xs → length xs < 2 → x ≡ get_or xs 0 x → operation_code o u pos (codes vars (operands_of (x ∷ []))) k here last ≡ operation_code o u pos (codes vars (operands_of xs)) k here last
  of_one x n m e = of_operands (x ∷ []) (one_operand xs x n m e)

  pub of_three : (x y z : Kx) → 3 ≤ length xs → x ≡ get_or xs 0 x → y ≡ get_or xs 1 y → z ≡ get_or xs 2 z → operation_code o u pos (codes vars (operands_of (x ∷ y ∷ z ∷ drop 3 xs))) k here last ≡ operation_code o u pos (codes vars (operands_of xs)) k here last
  of_three x y z n e f g = of_operands (x ∷ y ∷ z ∷ drop 3 xs) (three_operands xs x y z n e f g)

-- the code of an expression and of a place, by their variants
module _ (vars : List (Option VarPlan)) (k here : ℕ) (last : Pos) where
  pub num_code : (x : Kx) (v : ℕ) → x ≡ E.Num v → line (Ldc R0 v) last ∷ [] ≡ expression_code vars (expression_of x) k here last
  num_code x v e = ap (λ y. expression_code vars y k here last) (sym (expression-Num v)) ∙ ap (λ y. expression_code vars (expression_of y) k here last) (sym e)

  pub read_code : (x : Kx) (p : Place) → x ≡ E.Read p → place_code vars (place_of p) k here last ≡ expression_code vars (expression_of x) k here last
  read_code x p e = ap (λ y. expression_code vars y k here last) (sym (expression-Read p)) ∙ ap (λ y. expression_code vars (expression_of y) k here last) (sym e)

  pub op_code : (x : Kx) (o : ℕ) (u : Bool) (es ops : List Kx) (pos : Pos) (m : Operator) → x ≡ E.Op o u es pos → ops ≡ es → m ≡ operator_at o → operation_code m u pos (codes vars (operands_of ops)) k here last ≡ expression_code vars (expression_of x) k here last
  op_code x o u es ops pos m e f g =
      ap (λ (n : Operator). operation_code n u pos (codes vars (operands_of ops)) k here last) g
      ∙ ap (λ (l : List Kx). operation_code (operator_at o) u pos (codes vars (operands_of l)) k here last) f
      ∙ ap (λ y. expression_code vars y k here last) (sym (expression-Op o u es pos))
      ∙ ap (λ y. expression_code vars (expression_of y) k here last) (sym e)

  pub word_found : (p : Place) (v : ℕ) (r : Option VarPlan) (found : VarPlan) → p ≡ P.Word v → r ≡ Some found → r ≡ var_in vars v → at_pos last (word_at_place found.place) ≡ place_code vars (place_of p) k here last
  word_found p v r found e f g =
      ap (λ (o : Option VarPlan). word_code o last) (sym f ∙ g)
      ∙ ap (λ q. place_code vars q k here last) (sym (place-Word v))
      ∙ ap (λ q. place_code vars (place_of q) k here last) (sym e)

  pub element_found : (p : Place) (v : ℕ) (i : Box Kx Global) (pos : Pos) (x : Kx) (r : Option VarPlan) (found : VarPlan) → p ≡ P.Elem v i pos → x ≡ i.value → r ≡ Some found → r ≡ var_in vars v → element_code (Some found) (expression_of x) pos (expression_code vars (expression_of x)) k here last ≡ place_code vars (place_of p) k here last
  element_found p v i pos x r found e h f g =
      ap (λ (y : Kx). element_code (Some found) (expression_of y) pos (expression_code vars (expression_of y)) k here last) h
      ∙ ap (λ (o : Option VarPlan). element_code o (expression_of i.value) pos (expression_code vars (expression_of i.value)) k here last) (sym f ∙ g)
      ∙ ap (λ q. place_code vars q k here last) (sym (place-Elem v i pos))
      ∙ ap (λ q. place_code vars (place_of q) k here last) (sym e)

-- of an element, by where the plan has it and by its index
pub element_at : (place p : VarAt) (words : ℕ) (fixed f : Option ℕ) (pos : Pos) (index : Piece) (k here : ℕ) (last : Pos) → place ≡ p → fixed ≡ f → element_at_place p words f pos index k here last ≡ element_at_place place words fixed pos index k here last
element_at place p words fixed f pos index k here last e g =
    ap (λ (q : VarAt). element_at_place q words f pos index k here last) (sym e)
    ∙ ap (λ (h : Option ℕ). element_at_place place words h pos index k here last) (sym g)

-- a variable that the plan does not have
pub no_word : (vars : List (Option VarPlan)) (p : Place) (v k here : ℕ) (last : Pos) (found : Option VarPlan) (ls : List Line) → p ≡ P.Word v → found ≡ None → found ≡ var_in vars v → ls ≡ ls ++ place_code vars (place_of p) k here last
no_word vars p v k here last found ls e f g =
    sym (append-nil ls)
    ∙ ap (λ (o : Option VarPlan). ls ++ word_code o last) (sym f ∙ g)
    ∙ ap (λ q. ls ++ place_code vars q k here last) (sym (place-Word v))
    ∙ ap (λ q. ls ++ place_code vars (place_of q) k here last) (sym e)

pub no_element : (vars : List (Option VarPlan)) (p : Place) (v : ℕ) (i : Box Kx Global) (pos : Pos) (k here : ℕ) (last : Pos) (found : Option VarPlan) (ls : List Line) → p ≡ P.Elem v i pos → found ≡ None → found ≡ var_in vars v → ls ≡ ls ++ place_code vars (place_of p) k here last
no_element vars p v i pos k here last found ls e f g =
    sym (append-nil ls)
    ∙ ap (λ (o : Option VarPlan). ls ++ element_code o (expression_of i.value) pos (expression_code vars (expression_of i.value)) k here last) (sym f ∙ g)
    ∙ ap (λ q. ls ++ place_code vars q k here last) (sym (place-Elem v i pos))
    ∙ ap (λ q. ls ++ place_code vars (place_of q) k here last) (sym e)

-- stores
pub nodes_some : (p : Place) → 1 ≤ nodes_at (place_of p)
nodes_some p = some_place (place_of p)

pub no_store : (vars : List (Option VarPlan)) (p : Place) (v : ℕ) (from : Reg) (here : ℕ) (last : Pos) (found : Option VarPlan) (ls : List Line) → p ≡ P.Word v → found ≡ None → found ≡ var_in vars v → ls ≡ ls ++ store_code vars (place_of p) from here last
no_store vars p v from here last found ls e f g =
    sym (append-nil ls)
    ∙ ap (λ (o : Option VarPlan). ls ++ word_store o from last) (sym f ∙ g)
    ∙ ap (λ q. ls ++ store_code vars q from here last) (sym (place-Word v))
    ∙ ap (λ q. ls ++ store_code vars (place_of q) from here last) (sym e)

pub no_element_store : (vars : List (Option VarPlan)) (p : Place) (v : ℕ) (i : Box Kx Global) (pos : Pos) (from : Reg) (here : ℕ) (last : Pos) (found : Option VarPlan) (ls : List Line) → p ≡ P.Elem v i pos → found ≡ None → found ≡ var_in vars v → ls ≡ ls ++ store_code vars (place_of p) from here last
no_element_store vars p v i pos from here last found ls e f g =
    sym (append-nil ls)
    ∙ ap (λ (o : Option VarPlan). ls ++ element_store o (expression_of i.value) from pos (λ n. expression_code vars (expression_of i.value) 1 n pos) here) (sym f ∙ g)
    ∙ ap (λ q. ls ++ store_code vars q from here last) (sym (place-Elem v i pos))
    ∙ ap (λ q. ls ++ store_code vars (place_of q) from here last) (sym e)

pub element_stored_at : (place p : VarAt) (words : ℕ) (fixed f : Option ℕ) (from : Reg) (pos : Pos) (index : ℕ → List Line) (here : ℕ) → place ≡ p → fixed ≡ f → element_store_at p words f from pos index here ≡ element_store_at place words fixed from pos index here
element_stored_at place p words fixed f from pos index here e g =
    ap (λ (q : VarAt). element_store_at q words f from pos index here) (sym e)
    ∙ ap (λ (h : Option ℕ). element_store_at place words h from pos index here) (sym g)

pub word_stored : (vars : List (Option VarPlan)) (p : Place) (v : ℕ) (from : Reg) (here : ℕ) (last : Pos) (r : Option VarPlan) (found : VarPlan) → p ≡ P.Word v → r ≡ Some found → r ≡ var_in vars v → at_pos last (word_write found.place from) ≡ store_code vars (place_of p) from here last
word_stored vars p v from here last r found e f g =
    ap (λ (o : Option VarPlan). word_store o from last) (sym f ∙ g)
    ∙ ap (λ q. store_code vars q from here last) (sym (place-Word v))
    ∙ ap (λ q. store_code vars (place_of q) from here last) (sym e)

pub element_stored : (vars : List (Option VarPlan)) (p : Place) (v : ℕ) (i : Box Kx Global) (pos : Pos) (x : Kx) (from : Reg) (here : ℕ) (last : Pos) (r : Option VarPlan) (found : VarPlan) → p ≡ P.Elem v i pos → x ≡ i.value → r ≡ Some found → r ≡ var_in vars v → element_store (Some found) (expression_of x) from pos (λ n. expression_code vars (expression_of x) 1 n pos) here ≡ store_code vars (place_of p) from here last
element_stored vars p v i pos x from here last r found e h f g =
    ap (λ (y : Kx). element_store (Some found) (expression_of y) from pos (λ n. expression_code vars (expression_of y) 1 n pos) here) h
    ∙ ap (λ (o : Option VarPlan). element_store o (expression_of i.value) from pos (λ n. expression_code vars (expression_of i.value) 1 n pos) here) (sym f ∙ g)
    ∙ ap (λ q. store_code vars q from here last) (sym (place-Elem v i pos))
    ∙ ap (λ q. store_code vars (place_of q) from here last) (sym e)
