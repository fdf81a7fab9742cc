-- A select: what opens it, its cases and its default, and its end.
use Rattle.std.proofs.Common.{◌≡◌, ℕ, ◌+◌, ◌≤◌, List, [], ◌∷◌, ◌++◌, drop, length, map, Option, take, Result, Ok, Err, OnOk, refl, sym, ap, ◌∙◌, subst, arith, append_assoc, append-nil, length-append}
use Rattle.xw_words.specs.declared.pos.Pos.{Pos}
use Rattle.xc_kernel.specs.declared.statement.KRes.{KRes}
use Rattle.xc_kernel.specs.declared.statement.KCase.{KCase}
use Rattle.xc_kernel.specs.declared.statement.KSelect.{KSelect, out-KSelect}
use Rattle.xc_kernel.specs.Kernels.{default_of, select_of}
use Rattle.xc_kernel.specs.Plain as kernel
use Rattle.xc_kernel.proofs.Forms.{select-KSelect}
use Rattle.xs_instr.specs.Adds.{Adds}
use Rattle.xs_instr.specs.Extends.{Extends}
use Rattle.xs_instr.specs.Lines.{Line, last_or, last_pos}
use Rattle.xl_expr.specs.declared.plan.EndPlaces.{EndPlaces}
use Rattle.xl_expr.specs.declared.plan.Plan.{Plan}
use Rattle.xl_expr.proofs.Emitted.{last_added}
use Rattle.xl_par.specs.Opening.{filled}
use Rattle.xl_ends.specs.Ends.{Sides}
use Rattle.xl_select.specs.Holes.{holes_in, listed}
use Rattle.xl_select.specs.Opening.{AreAimedWith, Opens, default_targets}
use Rattle.xl_select.specs.OpeningCode.{case_count, case_lines, cases_in, cases_of, cases_starts, default_start, first_end, flag_for, has_default, is_default, opening_lines, opening_starts, other_ends, seen_with, select_pos}
use Rattle.xl_statements.specs.declared.leaving.JumpTarget.TheVariants.{SelectEnd}
use Rattle.xl_statements.specs.declared.leaving.Leaving.{Leaving}
use Rattle.xl_statements.specs.CaseEnds.{case_ends}
use Rattle.xl_statements.specs.Cells.{Cell, known, behind, leaves, line_of}
use Rattle.xl_statements.specs.Emits.{Closes, Coded, DefaultEmits, Emits, Emitted, InsideEmits, SelectCode, StartsEmitted}
use Rattle.xl_statements.specs.Landing.{AreLandable, Closable, Lands, all_landed, closed_lines, others_leaving}
use Rattle.xl_statements.proofs.Blocks.{closed_emitted, closed_extends, closed_size, inner_closable, outside_within}
use Rattle.xl_statements.proofs.Cases.{ends_count}
use Rattle.xl_statements.proofs.Parts.{leaves_behind, lines_append, lines_known}
use Rattle.xl_statements.proofs.Seams.{extends_by, extends_on}
use Rattle.xl_statements.proofs.Several.{added}
use Rattle.xl_statements.proofs.Starts.{all_last, all_size, filled_length, fills, landables}

-- there is a start for each case
pub starts_as_many : (plan : Plan) (ends : List ℕ) (seen : List KRes) (here : ℕ) (last : Pos) (cs : kernel.Cases) → length (cases_starts plan ends seen here last cs) ≡ case_count cs
starts_as_many plan ends seen here last kernel.no_case = refl
starts_as_many plan ends seen here last (kernel.more_cases (kernel.case guard i ss) cs) =
    let lines = case_lines plan (first_end ends) (flag_for seen i.resource) guard i here last in
    let h = starts_as_many plan (other_ends ends) (seen_with seen i.resource) (here + length lines) (last_or last lines) cs in
    omega (arith, h)

-- The starts of the cases, and that of the default.
pub record Split (cases : kernel.Cases) (otherwise : kernel.Default) (starts : List ℕ) : Type 0 where
  pub of_cases : List ℕ
  pub of_default : ℕ
  pub as_many : length of_cases ≡ case_count cases
  pub is : starts ≡ of_cases ++ default_targets (is_default otherwise) of_default

default_split : (plan : Plan) (sides : Sides) (otherwise : kernel.Default) (starts : List ℕ) (last : Pos) (pc : ℕ) (cells : List Cell) → DefaultEmits plan sides otherwise starts last pc cells → Split kernel.no_case otherwise starts
default_split plan sides kernel.no_default starts last pc cells h = record { of_cases = []; of_default = 0; as_many = refl; is = h.0 }
default_split plan sides (kernel.default ss) starts last pc cells h = record { of_cases = []; of_default = pc; as_many = refl; is = h.0 }

pub starts_split : (plan : Plan) (sides : Sides) (otherwise : kernel.Default) (cs : kernel.Cases) (starts : List ℕ) (last : Pos) (pc : ℕ) (cells : List Cell) → InsideEmits plan sides otherwise cs starts last pc cells → Split cs otherwise starts
starts_split plan sides otherwise kernel.no_case starts last pc cells h = default_split plan sides otherwise starts last pc cells h
starts_split plan sides otherwise (kernel.more_cases (kernel.case guard i ss) cs) starts last pc cells h =
    let g = starts_split plan sides otherwise cs h.later (behind last h.first) (pc + length h.first) h.others h.others_are in
    record {
      of_cases = pc ∷ g.of_cases;
      of_default = g.of_default;
      as_many = let h = g.as_many in omega (arith, h);
      is = h.starts_are ∙ ap (λ ns. pc ∷ ns) g.is;
    }

-- What was added opens a select: these are its open lines, each of which may land.
module _ (opening : List Line) (holes : List ℕ) (e0 e1 : List Line) (at_1 : e1 ≡ e0 ++ opening) (holes_are : holes ≡ holes_in opening (length e0)) where
  pub opening_landable : AreLandable e1 holes
  opening_landable =
      subst (AreLandable e1) (sym holes_are)
      (subst (λ ls. AreLandable ls (holes_in opening (length e0))) (ap (λ ls. e0 ++ ls) (append-nil opening) ∙ sym at_1) (landables opening [] e0))

  landed_are : (starts : List ℕ) → all_landed e1 holes starts ≡ e0 ++ filled opening starts
  landed_are starts =
      ap (λ hs. all_landed e1 hs starts) holes_are
      ∙ ap (λ ls. all_landed ls (holes_in opening (length e0)) starts) (at_1 ∙ ap (λ ls. e0 ++ ls) (sym (append-nil opening)))
      ∙ fills opening [] e0 starts
      ∙ ap (λ ls. e0 ++ ls) (append-nil (filled opening starts))

  pub opening_refused : (e2 : List Line) → Lands holes e1 e2 → Extends e0 e2
  opening_refused e2 h = extends_by e0 e2 _ (h.is ∙ ap (λ ls. ls ++ h.more) (landed_are h.targets) ∙ append_assoc e0 (filled opening h.targets) h.more)

  -- what stands in the select, from there to its end
  module _ (Inside : List ℕ → Coded) (e2 : List Line) (left0 left1 : List Leaving) (at_2 : StartsEmitted Inside holes e1 e2 left0 left1) where
    abbrev front : List Line
    front = all_landed e1 holes at_2.starts

    front_size : length (all_landed e1 holes at_2.starts) ≡ length e1
    front_size = all_size e1 holes at_2.starts

    front_last : last_pos (all_landed e1 holes at_2.starts) ≡ last_pos e1
    front_last = all_last e1 holes at_2.starts

    inside_emitted : Emitted (Inside at_2.starts) (all_landed e1 holes at_2.starts) e2 left0 left1
    inside_emitted = record {
      cells = at_2.cells;
      lines = at_2.lines;
      leaving_ones = at_2.leaving_ones ∙ ap (λ k. left0 ++ leaves at_2.cells k) (sym front_size);
      so = subst (λ p. Inside at_2.starts p (length front) at_2.cells) (sym front_last) (subst (λ k. Inside at_2.starts (last_pos e1) k at_2.cells) (sym front_size) at_2.so);
    }

    -- where `outside` jumps were open in front of it
    module _ (outside : ℕ) (outside_is : outside ≡ length left0) where
      pub select_within : outside ≤ length left1
      select_within = outside_within (Inside at_2.starts) SelectEnd front e2 left0 left1 inside_emitted outside outside_is

      pub select_closable : Closable e2 SelectEnd (length e2) (drop outside left1)
      select_closable = inner_closable (Inside at_2.starts) SelectEnd front e2 left0 left1 inside_emitted outside outside_is

      module _ (e3 : List Line) (at_3 : e3 ≡ closed_lines e2 SelectEnd (length e2) (drop outside left1)) where
        pub select_size : length e3 ≡ length e2
        select_size = closed_size (Inside at_2.starts) SelectEnd front e2 left0 left1 inside_emitted outside outside_is e3 at_3

        pub select_extends : Extends e0 e3
        select_extends =
            extends_on e0 front e3 (extends_by e0 front (filled opening at_2.starts) (landed_are at_2.starts))
            (closed_extends (Inside at_2.starts) SelectEnd front e2 left0 left1 inside_emitted outside outside_is e3 at_3)

        module _
            (plan : Plan) (ends : List ℕ) (cases : kernel.Cases) (otherwise : kernel.Default) (pos : Pos) (split : Split cases otherwise at_2.starts)
            (opens : Opens plan ends cases (is_default otherwise) pos (length e0) opening) (aimed : AreAimedWith (case_count cases) (is_default otherwise) (length e0) opening)
          where
            select_emitted : (left2 : List Leaving) → left2 ≡ take outside left1 ++ others_leaving SelectEnd (drop outside left1) → Emitted (SelectCode plan ends cases otherwise pos Inside) e0 e3 left0 left2
            select_emitted left2 others =
                let g = closed_emitted (Inside at_2.starts) SelectEnd front e2 left0 left1 inside_emitted outside outside_is e3 at_3 left2 others in
                let size : length e1 ≡ length e0 + length opening = ap length at_1 ∙ length-append e0 opening in
                let filled_size : length e0 + length (filled opening at_2.starts) ≡ length (all_landed e1 holes at_2.starts) = ap (λ k. length e0 + k) (filled_length opening at_2.starts) ∙ sym (front_size ∙ size) in
                record {
                  cells = map known (filled opening at_2.starts) ++ g.cells;
                  lines =
                      g.lines
                      ∙ ap (λ ls. ls ++ map line_of g.cells) (landed_are at_2.starts)
                      ∙ append_assoc e0 (filled opening at_2.starts) (map line_of g.cells)
                      ∙ ap (λ ls. e0 ++ (ls ++ map line_of g.cells)) (sym (lines_known (filled opening at_2.starts)))
                      ∙ ap (λ ls. e0 ++ ls) (sym (lines_append (map known (filled opening at_2.starts)) g.cells));
                  leaving_ones =
                      g.leaving_ones
                      ∙ ap (λ k. left0 ++ leaves g.cells k) (sym filled_size)
                      ∙ ap (λ l. left0 ++ l) (sym (leaves_behind (filled opening at_2.starts) g.cells (length e0)));
                  so = record {
                    opening = opening;
                    starts = split.of_cases;
                    default_start = split.of_default;
                    inside = g.cells;
                    as_many = split.as_many;
                    is = ap (λ ns. map known (filled opening ns) ++ g.cells) split.is;
                    opens = opens;
                    opens_aimed = aimed;
                    inside_is =
                        subst (λ ns. Closes SelectEnd (Inside ns) (last_or (last_pos e0) opening) (length e0 + length opening) g.cells) split.is
                        (subst (λ p. Closes SelectEnd (Inside at_2.starts) p (length e0 + length opening) g.cells) (front_last ∙ last_added e0 e1 opening at_1)
                        (subst (λ k. Closes SelectEnd (Inside at_2.starts) (last_pos front) k g.cells) (front_size ∙ size) g.so));
                  };
                }

            pub select_ends : {A B : Type 0} (r : Result A B) (left2 : List Leaving) → OnOk r (left2 ≡ take outside left1 ++ others_leaving SelectEnd (drop outside left1)) → OnOk r (Emitted (SelectCode plan ends cases otherwise pos Inside) e0 e3 left0 left2)
            select_ends (Ok x) left2 h = select_emitted left2 h
            select_ends (Err x) left2 h = tt

-- what `open_select` says of what it added
pub record Opened (plan : Plan) (ends : List ℕ) (s : kernel.Statement) (e0 e1 : List Line) (starts : List ℕ) (default_hole : Option ℕ) : Type 0 where
  pub code : e1 ≡ e0 ++ opening_lines plan ends (cases_in s) (has_default s) (select_pos s) (length e0)
  pub starts_are : starts ≡ cases_starts plan ends [] (length e0 + 2) (select_pos s) (cases_in s)
  pub default_is : default_hole ≡ default_start (has_default s) (length e1)
  pub open_ones : Adds e0 e1 (λ lines. holes_in lines (length e0) ≡ opening_starts plan ends s (length e0) (length e1))
  pub aimed : Adds e0 e1 (AreAimedWith (case_count (cases_in s)) (has_default s) (length e0))
  pub opens : Adds e0 e1 (Opens plan ends (cases_in s) (has_default s) (select_pos s) (length e0))

pub opened_by : (plan : Plan) (ends : List ℕ) (s : kernel.Statement) (e0 e1 : List Line) (starts : List ℕ) (default_hole : Option ℕ) →
    e1 ≡ e0 ++ opening_lines plan ends (cases_in s) (has_default s) (select_pos s) (length e0) →
    starts ≡ cases_starts plan ends [] (length e0 + 2) (select_pos s) (cases_in s) →
    default_hole ≡ default_start (has_default s) (length e1) →
    Adds e0 e1 (λ lines. holes_in lines (length e0) ≡ opening_starts plan ends s (length e0) (length e1)) →
    Adds e0 e1 (AreAimedWith (case_count (cases_in s)) (has_default s) (length e0)) →
    Adds e0 e1 (Opens plan ends (cases_in s) (has_default s) (select_pos s) (length e0)) → Opened plan ends s e0 e1 starts default_hole
opened_by plan ends s e0 e1 starts default_hole code starts_are default_is open_ones aimed opens =
    record { code = code; starts_are = starts_are; default_is = default_is; open_ones = open_ones; aimed = aimed; opens = opens }

pub select_is : (s : KSelect) (listed : List KCase) → listed ≡ (out-KSelect s).cases → select_of s ≡ kernel.select (cases_of listed) (default_of (out-KSelect s).otherwise) (out-KSelect s).pos
select_is s listed is = select-KSelect s ∙ ap (λ (cs : List KCase). kernel.select (cases_of cs) (default_of (out-KSelect s).otherwise) (out-KSelect s).pos) (sym is)

-- there is an end for each case
pub ends_as_many : (channels : List EndPlaces) (sides : Sides) (s : kernel.Statement) (cs : kernel.Cases) (d : kernel.Default) (pos : Pos) (ends : List ℕ) → s ≡ kernel.select cs d pos → ends ≡ case_ends channels sides cs → length ends ≡ case_count (cases_in s)
ends_as_many channels sides s cs d pos ends is ends_are = ap length ends_are ∙ ends_count channels sides cs ∙ sym (ap (λ x. case_count (cases_in x)) is)

-- the code of a select's statement, from there on
module _
    (plan : Plan) (sides : Sides) (cs : kernel.Cases) (d : kernel.Default) (pos : Pos) (s : kernel.Statement) (is : s ≡ kernel.select cs d pos)
    (ends : List ℕ) (ends_are : ends ≡ case_ends plan.channels sides cs) (e0 e1 : List Line) (starts : List ℕ) (default_hole : Option ℕ)
    (said : Opened plan ends s e0 e1 starts default_hole)
  where
    abbrev opening : List Line
    opening = opening_lines plan (case_ends plan.channels sides cs) cs (is_default d) pos (length e0)

    abbrev holes : List ℕ
    holes = starts ++ listed default_hole

    opened : Opened plan (case_ends plan.channels sides cs) (kernel.select cs d pos) e0 e1 starts default_hole
    opened = subst (λ ns. Opened plan ns (kernel.select cs d pos) e0 e1 starts default_hole) ends_are (subst (λ x. Opened plan ends x e0 e1 starts default_hole) is said)

    holes_are : starts ++ listed default_hole ≡ holes_in (opening_lines plan (case_ends plan.channels sides cs) cs (is_default d) pos (length e0)) (length e0)
    holes_are =
        ap (λ ns. ns ++ listed default_hole) opened.starts_are
        ∙ ap (λ hole. cases_starts plan (case_ends plan.channels sides cs) [] (length e0 + 2) pos cs ++ listed hole) opened.default_is
        ∙ sym (added e0 e1 opening (λ lines. holes_in lines (length e0) ≡ opening_starts plan (case_ends plan.channels sides cs) (kernel.select cs d pos) (length e0) (length e1)) opened.code opened.open_ones)

    pub whole_count : length starts ≡ case_count cs
    whole_count = ap length opened.starts_are ∙ starts_as_many plan (case_ends plan.channels sides cs) [] (length e0 + 2) pos cs

    pub whole_landable : AreLandable e1 (starts ++ listed default_hole)
    whole_landable = opening_landable opening holes e0 e1 opened.code holes_are

    pub whole_refused : (e2 : List Line) → Lands (starts ++ listed default_hole) e1 e2 → Extends e0 e2
    whole_refused e2 h = opening_refused opening holes e0 e1 opened.code holes_are e2 h

    module _
        (e2 : List Line) (left0 left1 : List Leaving) (at_2 : StartsEmitted (InsideEmits plan sides d cs) (starts ++ listed default_hole) e1 e2 left0 left1)
        (outside : ℕ) (outside_is : outside ≡ length left0)
      where
        pub whole_within : outside ≤ length left1
        whole_within = select_within opening holes e0 e1 opened.code holes_are (InsideEmits plan sides d cs) e2 left0 left1 at_2 outside outside_is

        pub whole_closable : Closable e2 SelectEnd (length e2) (drop outside left1)
        whole_closable = select_closable opening holes e0 e1 opened.code holes_are (InsideEmits plan sides d cs) e2 left0 left1 at_2 outside outside_is

        module _ (e3 : List Line) (at_3 : e3 ≡ closed_lines e2 SelectEnd (length e2) (drop outside left1)) where
          pub whole_size : length e3 ≡ length e2
          whole_size = select_size opening holes e0 e1 opened.code holes_are (InsideEmits plan sides d cs) e2 left0 left1 at_2 outside outside_is e3 at_3

          pub whole_extends : Extends e0 e3
          whole_extends = select_extends opening holes e0 e1 opened.code holes_are (InsideEmits plan sides d cs) e2 left0 left1 at_2 outside outside_is e3 at_3

          pub whole_ends : {A B : Type 0} (r : Result A B) (left2 : List Leaving) → OnOk r (left2 ≡ take outside left1 ++ others_leaving SelectEnd (drop outside left1)) → OnOk r (Emitted (Emits plan sides s) e0 e3 left0 left2)
          whole_ends r left2 h =
              subst (λ x. OnOk r (Emitted (Emits plan sides x) e0 e3 left0 left2)) (sym is)
              (select_ends opening holes e0 e1 opened.code holes_are (InsideEmits plan sides d cs) e2 left0 left1 at_2 outside outside_is e3 at_3
              plan (case_ends plan.channels sides cs) cs d pos (starts_split plan sides d cs at_2.starts (last_pos e1) (length e1) at_2.cells at_2.so)
              (added e0 e1 opening (Opens plan (case_ends plan.channels sides cs) cs (is_default d) pos (length e0)) opened.code opened.opens)
              (added e0 e1 opening (AreAimedWith (case_count cs) (is_default d) (length e0)) opened.code opened.aimed)
              r left2 h)
