-- The cases of a select, one after the other, and its default.
use Rattle.std.proofs.Common.{◌≡◌, ℕ, zero, suc, ◌+◌, ◌*◌, ◌<◌, ◌≤◌, add-one, append-nil, Bool, true, false, drop, drop-cons, get_or, List, [], ◌∷◌, ◌++◌, length, map, Option, Some, None, option_map, Result, Ok, Err, OnOk, OnErr, refl, sym, ap, ◌∙◌, subst, arith}
use Rattle.xw_words.specs.declared.pos.Pos.{Pos}
use Rattle.xc_kernel.specs.Plain as kernel
use Rattle.xc_kernel.specs.declared.statement.KCase.{KCase}
use Rattle.xc_kernel.specs.declared.statement.Kst.{Kst}
use Rattle.xc_kernel.specs.Kernels.{case_of, default_of, expression_of, input_of}
use Rattle.xc_kernel.proofs.Forms.{case-KCase}
use Rattle.xs_instr.specs.Adds.{Adds}
use Rattle.xs_instr.specs.Extends.{Extends}
use Rattle.xs_instr.specs.Lines.{Line, IsOpen, landed, last_or, last_pos}
use Rattle.xl_expr.specs.declared.plan.EndPlaces.{EndPlaces}
use Rattle.xl_expr.specs.declared.plan.Plan.{Plan}
use Rattle.xl_expr.specs.Targets.{AreAimed}
use Rattle.xl_ends.specs.Ends.{Sides}
use Rattle.xl_select.specs.Entry.{EntersCase, entry_nodes}
use Rattle.xl_select.specs.OpeningCode.{case_count, cases_of}
use Rattle.xl_statements.specs.declared.leaving.Leaving.{Leaving}
use Rattle.xl_statements.specs.Built.{CasesAreBuilt, CasesAreNarrow, CasesAreShallow, most_of_all, most_of_cases, statements_of}
use Rattle.xl_statements.specs.CaseEnds.{case_end, case_ends}
use Rattle.xl_statements.specs.Cells.{Cell, known, behind, leaves, line_of}
use Rattle.xl_statements.specs.Emits.{AllEmit, AreLines, CaseCode, Coded, DefaultEmits, Emitted, Follow, InsideEmits, StartsEmitted, is_last, jump_unless}
use Rattle.xl_statements.specs.Landing.{AreLandable, Lands, all_landed}
use Rattle.xl_statements.proofs.FromStarts.{StartsWalked, rest_landable, start_open, start_refused, starts_begin, starts_end, starts_go_on, starts_refused}
use Rattle.xl_statements.proofs.Parts.{both_emitted, emitted_as, lines_known, piece_emitted}
use Rattle.xl_statements.proofs.Starts.{all_last, all_none, all_size}
use Rattle.xl_statements.proofs.Walks.{case_weights, weights}
use Rattle.std.proofs.lemmas.List.{length-map}

-- The cases of a list.

pub cases_count : (cs : List KCase) → case_count (cases_of cs) ≡ length cs
cases_count [] = refl
cases_count (c ∷ cs) = let h = cases_count cs in omega (arith, h)

pub ends_count : (channels : List EndPlaces) (sides : Sides) (cs : kernel.Cases) → length (case_ends channels sides cs) ≡ case_count cs
ends_count channels sides kernel.no_case = refl
ends_count channels sides (kernel.more_cases (kernel.case guard i ss) cs) = let h = ends_count channels sides cs in omega (arith, h)

-- a case in front of others isn't the last code of its select
pub not_last : (others : List KCase) (d : kernel.Default) → 1 ≤ length others → false ≡ is_last (cases_of others) d
not_last [] d some = absurd (let z : ⊥ = omega (arith, some) in z)
not_last (c ∷ cs) d some = refl

case_first : (c x : KCase) (others : kernel.Cases) → x ≡ c → kernel.more_cases (case_of c) others ≡ kernel.more_cases (kernel.case (option_map expression_of x.guard) (input_of x.head) (statements_of x.body)) others
case_first c x others e = ap (λ y. kernel.more_cases (case_of y) others) (sym e) ∙ ap (λ y. kernel.more_cases y others) (case-KCase x)

-- those from one on
pub cases_at : (cs : List KCase) (i : ℕ) (x : KCase) → x ≡ get_or cs i x → i < length cs → cases_of (drop i cs) ≡ kernel.more_cases (kernel.case (option_map expression_of x.guard) (input_of x.head) (statements_of x.body)) (cases_of (drop (i + 1) cs))
cases_at cs i x is lt =
    let cut : drop i cs ≡ get_or cs i x ∷ drop (i + 1) cs = rw add-one (drop-cons cs i x lt) in
    ap cases_of cut ∙ case_first (get_or cs i x) x (cases_of (drop (i + 1) cs)) is

some_case_weight : (cs : kernel.Cases) → 1 ≤ case_weights cs
some_case_weight kernel.no_case = omega arith
some_case_weight (kernel.more_cases (kernel.case guard i ss) cs) = omega arith

case_weight : (cs : List KCase) (i : ℕ) (x d : KCase) → get_or cs i d ≡ x → i < length cs → weights (statements_of x.body) + 2 ≤ case_weights (cases_of cs)
case_weight [] i x d is lt = absurd (let z : ⊥ = omega (arith, lt) in z)
case_weight (c ∷ cs) zero x d is lt =
    let e = ap case_weights (case_first c x (cases_of cs) (sym is)) in
    let l = some_case_weight (cases_of cs) in
    omega (arith, e, l)
case_weight (c ∷ cs) (suc i) x d is lt =
    let e = ap case_weights (case_first c c (cases_of cs) refl) in
    let l = case_weight cs i x d is (omega (arith, lt)) in
    omega (arith, e, l)

pub case_lighter : (cs : List KCase) (i : ℕ) (x : KCase) (more : ℕ) → x ≡ get_or cs i x → i < length cs → 2 * weights (statements_of x.body) + 1 < 2 * (case_weights (cases_of cs) + more)
case_lighter cs i x more is lt = let l = case_weight cs i x x (sym is) lt in omega (arith, l)

pub some_weight_of_cases : (cs : kernel.Cases) (n : ℕ) → 2 * n < 2 * (case_weights cs + n)
some_weight_of_cases cs n = let l = some_case_weight cs in omega (arith, l)

-- One case, from what it begins with to its jump.

parts_of_case : (Enters : ℕ → List Line → Type 0) (Body : Coded) (ends_select : Bool) (last : Pos) (pc : ℕ) (cells : List Cell) →
    Follow (AreLines Enters) (Follow Body (λ last pc cells. cells ≡ jump_unless ends_select last)) last pc cells → CaseCode Enters Body ends_select last pc cells
parts_of_case Enters Body ends_select last pc cells h =
    let entry = h.first_is.lines in
    let g = h.rest_is in
    let at_last : behind last h.first ≡ last_or last h.first_is.lines = ap (behind last) h.first_is.is ∙ ap (last_or last) (lines_known h.first_is.lines) in
    let size : length h.first ≡ length h.first_is.lines = ap length h.first_is.is ∙ length-map h.first_is.lines known in
    record {
      entry = entry;
      body = g.first;
      is =
          h.is
          ∙ ap (λ (f : List Cell). f ++ h.rest) h.first_is.is
          ∙ ap (λ (r : List Cell). map known entry ++ r) (g.is ∙ ap (λ (j : List Cell). g.first ++ j) (g.rest_is ∙ ap (λ p. jump_unless ends_select (behind p g.first)) at_last));
      enters = h.first_is.so;
      aimed = h.first_is.aimed;
      body_is = subst (λ p. Body p (pc + length entry) g.first) at_last (subst (λ n. Body (behind last h.first) (pc + n) g.first) size g.first_is);
    }

pub case_emitted : (Enters : ℕ → List Line → Type 0) (Body : Coded) (ends_select : Bool) (e1 e2 e3 e4 : List Line) (left0 left1 left2 : List Leaving) →
    Adds e1 e2 (Enters (length e1)) → Adds e1 e2 (AreAimed (length e1)) → Emitted Body e2 e3 left0 left1 →
    Emitted (λ last pc cells. cells ≡ jump_unless ends_select last) e3 e4 left1 left2 → Emitted (CaseCode Enters Body ends_select) e1 e4 left0 left2
case_emitted Enters Body ends_select e1 e2 e3 e4 left0 left1 left2 enters aims body jump =
    let Jump = λ (last : Pos) (pc : ℕ) (cells : List Cell). cells ≡ jump_unless ends_select last in
    emitted_as (Follow (AreLines Enters) (Follow Body Jump)) (CaseCode Enters Body ends_select) e1 e4 left0 left2 (parts_of_case Enters Body ends_select)
    (both_emitted (AreLines Enters) (Follow Body Jump) e1 e2 e4 left0 left0 left2 (piece_emitted Enters e1 e2 left0 enters aims)
    (both_emitted Body Jump e2 e3 e4 left0 left1 left2 body jump))

-- where the jump is the last call, and `end` was found in front
pub case_code : {A B : Type 0} (r : Result A B) (plan : Plan) (i : kernel.Input) (end own : ℕ) (Body : Coded) (ends_select : Bool) (landed_1 e1 e2 e3 e4 : List Line) (left0 left1 left2 : List Leaving) →
    end ≡ own → landed_1 ≡ e1 → Adds landed_1 e2 (EntersCase plan i end true (length landed_1)) → Adds landed_1 e2 (AreAimed (length landed_1)) → Emitted Body e2 e3 left0 left1 →
    OnOk r (Emitted (λ last pc cells. cells ≡ jump_unless ends_select last) e3 e4 left1 left2) → OnOk r (Emitted (CaseCode (EntersCase plan i own true) Body ends_select) e1 e4 left0 left2)
case_code (Ok x) plan i end own Body ends_select landed_1 e1 e2 e3 e4 left0 left1 left2 own_is is enters aims body jump =
    subst (λ ls. Emitted (CaseCode (EntersCase plan i own true) Body ends_select) ls e4 left0 left2) is
    (case_emitted (EntersCase plan i own true) Body ends_select landed_1 e2 e3 e4 left0 left1 left2 (subst (λ n. Adds landed_1 e2 (EntersCase plan i n true (length landed_1))) own_is enters) aims body jump)
case_code (Err x) plan i end own Body ends_select landed_1 e1 e2 e3 e4 left0 left1 left2 own_is is enters aims body jump = tt

-- The default.

pub no_default_code : (plan : Plan) (sides : Sides) (o : Option (List Kst)) (holes : List ℕ) (e : List Line) (left : List Leaving) → o ≡ None → StartsEmitted (DefaultEmits plan sides (default_of o)) holes e e left left
no_default_code plan sides o holes e left is =
    subst (λ (d : kernel.Default). StartsEmitted (DefaultEmits plan sides d) holes e e left left) (sym (ap default_of is))
    (record {
      starts = [];
      cells = [];
      lines = all_none e holes ∙ sym (append-nil (all_landed e holes []));
      leaving_ones = sym (append-nil left);
      so = (refl, refl);
    })

pub default_is : (o : Option (List Kst)) (body listed : List Kst) → o ≡ Some listed → body ≡ listed → default_of o ≡ kernel.default (statements_of body)
default_is o body listed is same = ap default_of is ∙ ap (λ (ss : List Kst). kernel.default (statements_of ss)) (sym same)

module _ {A B : Type 0} (r : Result A B) (holes : List ℕ) (e0 e1 e2 : List Line) (is : e1 ≡ all_landed e0 holes (length e0 ∷ [])) where
  pub default_code : (plan : Plan) (sides : Sides) (d : kernel.Default) (ss : kernel.Statements) (left0 left1 : List Leaving) → d ≡ kernel.default ss →
      OnOk r (Emitted (AllEmit plan sides ss) e1 e2 left0 left1) → OnOk r (StartsEmitted (DefaultEmits plan sides d) holes e0 e2 left0 left1)
  default_code plan sides d ss left0 left1 d_is h = subst (λ x. OnOk r (StartsEmitted (DefaultEmits plan sides x) holes e0 e2 left0 left1)) (sym d_is) (by r h)
    where
      by : (r : Result A B) → OnOk r (Emitted (AllEmit plan sides ss) e1 e2 left0 left1) → OnOk r (StartsEmitted (DefaultEmits plan sides (kernel.default ss)) holes e0 e2 left0 left1)
      by (Ok x) g =
          let size : length e1 ≡ length e0 = ap length is ∙ all_size e0 holes (length e0 ∷ []) in
          let last : last_pos e1 ≡ last_pos e0 = ap last_pos is ∙ all_last e0 holes (length e0 ∷ []) in
          record {
            starts = length e0 ∷ [];
            cells = g.cells;
            lines = g.lines ∙ ap (λ ls. ls ++ map line_of g.cells) is;
            leaving_ones = g.leaving_ones ∙ ap (λ k. left0 ++ leaves g.cells k) size;
            so = (refl, subst (λ p. AllEmit plan sides ss p (length e0) g.cells) last (subst (λ k. AllEmit plan sides ss (last_pos e1) k g.cells) size g.so));
          }
      by (Err x) g = tt

  pub default_refused : OnErr r (Extends e1 e2) → OnErr r (Lands holes e0 e2)
  default_refused h = by r h
    where
      by : (r : Result A B) → OnErr r (Extends e1 e2) → OnErr r (Lands holes e0 e2)
      by (Ok x) g = tt
      by (Err x) g = record { targets = length e0 ∷ []; more = g.more; is = g.is ∙ ap (λ ls. ls ++ g.more) is }

-- What the loop over the cases keeps.
pub record CasesWalked
    (plan : Plan) (sides : Sides) (otherwise : kernel.Default) (all rest : kernel.Cases) (holes open_ones : List ℕ)
    (e0 e : List Line) (before left : List Leaving) : Type 0 where
  pub built : CasesAreBuilt rest
  pub shallow : CasesAreShallow rest
  pub narrow : CasesAreNarrow rest
  pub room : length e + most_of_cases plan.vars rest ≤ length e0 + most_of_cases plan.vars all
  pub walked : StartsWalked (InsideEmits plan sides otherwise all) (InsideEmits plan sides otherwise rest) holes open_ones e0 e before left

pub cases_begin : (plan : Plan) (sides : Sides) (otherwise : kernel.Default) (all : kernel.Cases) (holes : List ℕ) (e0 : List Line) (before : List Leaving) →
    CasesAreBuilt all → CasesAreShallow all → CasesAreNarrow all → AreLandable e0 holes →
    CasesWalked plan sides otherwise all all holes holes e0 e0 before before
cases_begin plan sides otherwise all holes e0 before built shallow narrow landable = record {
  built = built;
  shallow = shallow;
  narrow = narrow;
  room = omega arith;
  walked = starts_begin (InsideEmits plan sides otherwise all) holes e0 before landable;
}

module _
    (plan : Plan) (sides : Sides) (otherwise : kernel.Default) (all rest : kernel.Cases) (guard : Option kernel.Expression) (i : kernel.Input) (ss : kernel.Statements) (holes open_ones : List ℕ) (hole : ℕ)
    (e0 e1 : List Line) (before left1 : List Leaving)
    (h : CasesWalked plan sides otherwise all (kernel.more_cases (kernel.case guard i ss) rest) holes (hole ∷ open_ones) e0 e1 before left1)
  where
    -- the code of the next one
    abbrev First : Coded
    First = CaseCode (EntersCase plan i (case_end plan.channels sides i.resource) true) (AllEmit plan sides ss) (is_last rest otherwise)

    pub case_open : IsOpen e1 hole
    case_open = start_open (InsideEmits plan sides otherwise all) First (InsideEmits plan sides otherwise rest) holes open_ones hole e0 e1 before left1 h.walked

    pub case_refused : (e2 : List Line) → Extends (landed e1 hole (length e1)) e2 → Lands holes e0 e2
    case_refused e2 more = start_refused (InsideEmits plan sides otherwise all) First (InsideEmits plan sides otherwise rest) holes open_ones hole e0 e1 before left1 h.walked e2 more

    pub cases_go_on : (e2 : List Line) (left2 : List Leaving) →
        Emitted (CaseCode (EntersCase plan i (case_end plan.channels sides i.resource) true) (AllEmit plan sides ss) (is_last rest otherwise)) (landed e1 hole (length e1)) e2 left1 left2 →
        length e2 ≤ length e1 + 8 * entry_nodes i + 7 + most_of_all plan.vars ss → CasesWalked plan sides otherwise all rest holes open_ones e0 e2 before left2
    cases_go_on e2 left2 g size = record {
      built = h.built.1;
      shallow = h.shallow.2;
      narrow = h.narrow.1;
      room = let r = h.room in omega (arith, r, size);
      walked = starts_go_on (InsideEmits plan sides otherwise all) First (InsideEmits plan sides otherwise rest) holes open_ones hole e0 e1 before left1 h.walked e2 left2 g;
    }

-- behind the last case the default
pub default_landable : (plan : Plan) (sides : Sides) (otherwise : kernel.Default) (all : kernel.Cases) (holes open_ones : List ℕ) (e0 e1 : List Line) (before left1 : List Leaving) → CasesWalked plan sides otherwise all kernel.no_case holes open_ones e0 e1 before left1 → AreLandable e1 open_ones
default_landable plan sides otherwise all holes open_ones e0 e1 before left1 h = rest_landable (InsideEmits plan sides otherwise all) (InsideEmits plan sides otherwise kernel.no_case) holes open_ones e0 e1 before left1 h.walked

module _
    {A B : Type 0} (r : Result A B) (plan : Plan) (sides : Sides) (otherwise : kernel.Default) (all : kernel.Cases) (holes open_ones : List ℕ)
    (e0 e1 e2 : List Line) (before left1 left2 : List Leaving)
    (h : CasesWalked plan sides otherwise all kernel.no_case holes open_ones e0 e1 before left1)
  where
    pub cases_end : OnOk r (StartsEmitted (DefaultEmits plan sides otherwise) open_ones e1 e2 left1 left2) → OnOk r (StartsEmitted (InsideEmits plan sides otherwise all) holes e0 e2 before left2)
    cases_end g = by r g
      where
        by : (r : Result A B) → OnOk r (StartsEmitted (DefaultEmits plan sides otherwise) open_ones e1 e2 left1 left2) → OnOk r (StartsEmitted (InsideEmits plan sides otherwise all) holes e0 e2 before left2)
        by (Ok x) k = starts_end (InsideEmits plan sides otherwise all) (InsideEmits plan sides otherwise kernel.no_case) holes open_ones e0 e1 before left1 h.walked e2 left2 k
        by (Err x) k = tt

    pub cases_refused : OnErr r (Lands open_ones e1 e2) → OnErr r (Lands holes e0 e2)
    cases_refused g = by r g
      where
        by : (r : Result A B) → OnErr r (Lands open_ones e1 e2) → OnErr r (Lands holes e0 e2)
        by (Ok x) k = tt
        by (Err x) k = starts_refused (InsideEmits plan sides otherwise all) (InsideEmits plan sides otherwise kernel.no_case) holes open_ones e0 e1 before left1 h.walked e2 k
