-- A list of tokens is at most one program, whatever its depth.
use Rattle.std.proofs.Common.{◌≡◌, ℕ, zero, suc, ◌+◌, inl, inr, Bool, true, false, ◌&&◌, List, length, refl, sym as sym', ◌∙◌, arith}
use Rattle.std.proofs.lemmas.Bool.{and_parts}
use Rattle.xc_tree.specs.declared.token.Tok.{Tok}
use Rattle.xc_tree.specs.Plain.{Item}
use Rattle.xc_tree.specs.Symbol.{Symbol, sym, key, a_name, a_number, many, maybe, commas, program, item, portdecl, dir, place, place_value, head, result, word, params, param, body, block, block_item, decl, dv, initial, statement, closed, case_item, for_start, for_step, branch, case, guard, assign, assign_op, rhs, call, arguments, argument, lval, output, input, time, stamp, waits, test, dest, expr, level, operator, sign, atom, Value}
use Rattle.xc_tree.specs.Grammar.{rules}
use Rattle.xc_tree.specs.Derives.{unlimited, Derives, IsProgram}
use Rattle.xc_nonterminals.proofs.Rests.Opening.{fronts, is_token}
use Rattle.xc_nonterminals.proofs.Rests.Behinds.{token_derived, same_value}
use Rattle.xc_nonterminals.proofs.Derivations.Cuts.{one_of_within}
use Rattle.xc_nonterminals.proofs.Derivations.Statures.{By, Tree, tall, taller, derived, opened}
use Rattle.xc_nonterminals.proofs.Meeting.Meetings.{AllMeet, Meets, is_listed, each_told, each_meets, rules_meet}
use Rattle.xc_nonterminals.proofs.Meeting.Differing.{all_differ, told_all}
use Rattle.xc_nonterminals.proofs.Meeting.LevelsMeet.{level_meets, operator_meets}
use Rattle.xc_nonterminals.proofs.Meeting.CallsMeet.{rhs_meets}
use Rattle.xc_nonterminals.proofs.Meeting.CasesMeet.{case_meets}
use Rattle.xc_nonterminals.proofs.Meeting.StatementsMeet.{statement_meets, closed_meets, block_item_meets, case_item_meets, branch_meets}

module _ (toks : List Tok) where
  -- a token
  token_meets : (s : Symbol) → is_token s ≡ true → (i j k : ℕ) (v w : Value s) → Derives toks unlimited s i j v → Derives toks unlimited s i k w → Meets toks s j v k w
  token_meets s e i j k v w x y =
      let a = token_derived e x in
      let b = token_derived e y in
      inl (b.0 ∙ sym' a.0, same_value toks i s v w a.1 b.1)

  module _ (n : ℕ) (meet : AllMeet toks n) where
    -- a symbol whose alternatives are told apart by computing
    told : (s : Symbol) → each_told (fronts s) (rules s) && all_differ (fronts s) (rules s) ≡ true → (i j k : ℕ) (v w : Value s) → By toks (Tree toks n) (rules s) i j v → By toks (Tree toks n) (rules s) i k w → Meets toks s j v k w
    told s e i j k v w x y =
        let p = and_parts (each_told (fronts s) (rules s)) (all_differ (fronts s) (rules s)) e in
        rules_meet toks n s i j k v w (rules s) (each_meets toks n meet s (rules s) p.0) (told_all toks n meet s (rules s) p.1) x y

    step : (s : Symbol) → is_listed s ≡ true → (i j k : ℕ) (v w : Value s) → By toks (Tree toks n) (rules s) i j v → By toks (Tree toks n) (rules s) i k w → Meets toks s j v k w
    step (sym o) e i j k v w x y = absurd x
    step (key o) e i j k v w x y = absurd x
    step a_name e i j k v w x y = absurd x
    step a_number e i j k v w x y = absurd x
    step (many item) e i j k v w x y = told (many item) refl i j k v w x y
    step (many block_item) e i j k v w x y = told (many block_item) refl i j k v w x y
    step (many case_item) e i j k v w x y = told (many case_item) refl i j k v w x y
    step (many branch) e i j k v w x y = told (many branch) refl i j k v w x y
    step (many case) e i j k v w x y = told (many case) refl i j k v w x y
    step (many _) e i j k v w x y = absurd (cc)
    step (maybe place) e i j k v w x y = told (maybe place) refl i j k v w x y
    step (maybe initial) e i j k v w x y = told (maybe initial) refl i j k v w x y
    step (maybe for_start) e i j k v w x y = told (maybe for_start) refl i j k v w x y
    step (maybe for_step) e i j k v w x y = told (maybe for_step) refl i j k v w x y
    step (maybe rhs) e i j k v w x y = told (maybe rhs) refl i j k v w x y
    step (maybe guard) e i j k v w x y = told (maybe guard) refl i j k v w x y
    step (maybe time) e i j k v w x y = told (maybe time) refl i j k v w x y
    step (maybe stamp) e i j k v w x y = told (maybe stamp) refl i j k v w x y
    step (maybe expr) e i j k v w x y = told (maybe expr) refl i j k v w x y
    step (maybe _) e i j k v w x y = absurd (cc)
    step (commas param) e i j k v w x y = told (commas param) refl i j k v w x y
    step (commas dv) e i j k v w x y = told (commas dv) refl i j k v w x y
    step (commas a_name) e i j k v w x y = told (commas a_name) refl i j k v w x y
    step (commas argument) e i j k v w x y = told (commas argument) refl i j k v w x y
    step (commas _) e i j k v w x y = absurd (cc)
    step program e i j k v w x y = told program refl i j k v w x y
    step item e i j k v w x y = told item refl i j k v w x y
    step portdecl e i j k v w x y = told portdecl refl i j k v w x y
    step dir e i j k v w x y = told dir refl i j k v w x y
    step place e i j k v w x y = told place refl i j k v w x y
    step place_value e i j k v w x y = told place_value refl i j k v w x y
    step head e i j k v w x y = told head refl i j k v w x y
    step result e i j k v w x y = told result refl i j k v w x y
    step word e i j k v w x y = told word refl i j k v w x y
    step params e i j k v w x y = told params refl i j k v w x y
    step param e i j k v w x y = told param refl i j k v w x y
    step body e i j k v w x y = told body refl i j k v w x y
    step block e i j k v w x y = told block refl i j k v w x y
    step decl e i j k v w x y = told decl refl i j k v w x y
    step dv e i j k v w x y = told dv refl i j k v w x y
    step initial e i j k v w x y = told initial refl i j k v w x y
    step for_start e i j k v w x y = told for_start refl i j k v w x y
    step for_step e i j k v w x y = told for_step refl i j k v w x y
    step guard e i j k v w x y = told guard refl i j k v w x y
    step assign e i j k v w x y = told assign refl i j k v w x y
    step assign_op e i j k v w x y = told assign_op refl i j k v w x y
    step call e i j k v w x y = told call refl i j k v w x y
    step arguments e i j k v w x y = told arguments refl i j k v w x y
    step argument e i j k v w x y = told argument refl i j k v w x y
    step lval e i j k v w x y = told lval refl i j k v w x y
    step output e i j k v w x y = told output refl i j k v w x y
    step input e i j k v w x y = told input refl i j k v w x y
    step time e i j k v w x y = told time refl i j k v w x y
    step stamp e i j k v w x y = told stamp refl i j k v w x y
    step waits e i j k v w x y = told waits refl i j k v w x y
    step test e i j k v w x y = told test refl i j k v w x y
    step dest e i j k v w x y = told dest refl i j k v w x y
    step expr e i j k v w x y = told expr refl i j k v w x y
    step sign e i j k v w x y = told sign refl i j k v w x y
    step atom e i j k v w x y = told atom refl i j k v w x y
    step block_item e i j k v w x y = block_item_meets toks n meet i j k v w x y
    step statement e i j k v w x y = statement_meets toks n meet i j k v w x y
    step closed e i j k v w x y = closed_meets toks n meet i j k v w x y
    step case_item e i j k v w x y = case_item_meets toks n meet i j k v w x y
    step branch e i j k v w x y = branch_meets toks n meet i j k v w x y
    step case e i j k v w x y = case_meets toks n meet i j k v w x y
    step rhs e i j k v w x y = rhs_meets toks n meet i j k v w x y
    step (level zero) e i j k v w x y = told (level zero) refl i j k v w x y
    step (level (suc m)) e i j k v w x y = level_meets toks n m meet i j k v w x y
    step (operator m) e i j k v w x y = operator_meets toks m i j k v w (derived toks (suc n) (operator m) i j v (inr x)) (derived toks (suc n) (operator m) i k w (inr y))

  by_kind : (n : ℕ) → AllMeet toks n → (b : Bool) (s : Symbol) → is_token s ≡ b → is_listed s ≡ true → (i j k : ℕ) (v w : Value s) → Tree toks (suc n) s i j v → Tree toks (suc n) s i k w → Meets toks s j v k w
  by_kind n meet true s e l i j k v w x y = token_meets s e i j k v w (derived toks (suc n) s i j v x) (derived toks (suc n) s i k w y)
  by_kind n meet false s e l i j k v w x y = step n meet s l i j k v w (opened toks n s e i j v x) (opened toks n s e i k w y)

  -- two readings of one symbol from one place are the same, or one of them goes on at its end
  all_meet : (n : ℕ) → AllMeet toks n
  all_meet zero s l i j k v w x y = absurd x
  all_meet (suc n) s l i j k v w x y = by_kind n (all_meet n) (is_token s) s refl l i j k v w x y

pub sole_program : (toks : List Tok) (v w : List Item) → IsProgram toks v → IsProgram toks w → v ≡ w
sole_program toks v w d e =
    let a = tall toks d in
    let b = tall toks e in
    let n = a.0 + b.0 in
    let x = taller toks a.0 n (omega arith) program 0 (length toks) v a.1 in
    let y = taller toks b.0 n (omega arith) program 0 (length toks) w b.1 in
    elim (all_meet toks n program refl 0 (length toks) (length toks) v w x y) [
      | inl g ↦ sym' g.1
      | inr (inl f) ↦ let h = one_of_within f.goes_on in absurd (omega arith)
      | inr (inr f) ↦ let h = one_of_within f.goes_on in absurd (omega arith)
    ]
