-- How what was found grows by the items of a program.
use Rattle.std.proofs.Common.{◌≡◌, ℕ, ◌+◌, ◌<◌, Bool, not, ◌&&◌, List, [], ◌∷◌, ◌++◌, length, drop, get_or, map, refl, ◌∙◌}
use Rattle.xc_tree.specs.declared.names.Decl.{Decl}
use Rattle.xc_tree.specs.declared.names.Mark.{Mark}
use Rattle.xc_tree.specs.declared.names.Mark.TheVariants.{Declares}
use Rattle.xc_tree.specs.declared.tree.Item.{Item}
use Rattle.xc_tree.specs.Names.Marks as marks
use Rattle.xc_tree.specs.Plain as plain
use Rattle.xc_tree.specs.Trees.{item_of}
use Rattle.xc_tree.specs.Types.Named.{NamedProgram}
use Rattle.xc_tree.specs.Shapes.Enclosing.{is_main}
use Rattle.xc_tree.specs.Shapes.Main.{place_branches, is_channels_par_return, statements_in}
use Rattle.xc_tree.specs.Types.Sites.{Site}
use Rattle.xc_tree.specs.Types.Sites as site
use Rattle.xc_types.specs.declared.checker.Checker.{Checker}
use Rattle.xc_types.specs.Checker.{saw, all_broken, one_more_name, with_broken}
use Rattle.xc_types.proofs.Joins.{one, past_join}
use Rattle.xc_types.proofs.Loops.{next_item, no_item}
use Rattle.xc_types.proofs.Shaping.{shaping}
use Rattle.xc_types.proofs.Steps.{first_here}

pub saw_last_declaration : (s : Checker) (d : Decl) (ms : List Mark) (ss : List Site) → saw s (ms ++ Declares d ∷ []) ss ≡ one_more_name (saw s ms ss)
unfolding saw one_more_name
saw_last_declaration s d ms ss = one s _ _ _ _ _ _ _ _ (past_join s.names ms (Declares d ∷ [])) refl refl refl

abbrev breaks_form : plain.Head → plain.Statement → Bool
breaks_form h b = is_main h && (place_branches (statements_in b) && not (is_channels_par_return (statements_in b)))

pub saw_function : (s : Checker) (h : plain.Head) (b : plain.Statement) (ms : List Mark) (ss : List Site) → saw s ms (site.function h b ∷ ss) ≡ saw (with_broken (breaks_form h b) 504 h.name.pos s) ms ss
unfolding saw with_broken
saw_function s h b ms ss = one s _ _ _ _ _ _ _ _ refl refl (first_here s.best (breaks_form h b) 504 h.name.pos [] (all_broken ss)) refl

same_item : (s : Checker) (i : ℕ) (x : plain.Item) (ss : List Site) → saw s (marks.of_item 0 x) ss ≡ saw s (marks.of_item i x) ss
unfolding saw
same_item s i (plain.port p) ss = refl
same_item s i (plain.function h b) ss = refl

-- one item further, whatever its number
pub next_of_program : (n : NamedProgram) (xs : List Item) (i : ℕ) (s : Checker) (x : Item) → x ≡ get_or xs i x → i < length xs → (t : Checker) → t ≡ saw s (marks.of_item 0 (item_of x)) (site.of_item n s.names (item_of x))
    → saw s (marks.of_items i (map item_of (drop i xs))) (site.of_items n i s.names (map item_of (drop i xs))) ≡ saw t (marks.of_items (i + 1) (map item_of (drop (i + 1) xs))) (site.of_items n (i + 1) t.names (map item_of (drop (i + 1) xs)))
next_of_program n xs i s x e h t g = next_item n xs i s x e h t (g ∙ same_item s i (item_of x) (site.of_item n s.names (item_of x)))

pub ruleset items = (next_of_program, no_item)

pub ruleset programs = (shaping, saw_last_declaration, saw_function)
