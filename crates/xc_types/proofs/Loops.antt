-- How what was found grows along the lists of a tree, one item at a time.
use Rattle.std.proofs.Common.{◌≡◌, ℕ, ◌+◌, ◌<◌, ◌≤◌, List, ◌++◌, length, drop, get_or, map, sym, ap, ◌∙◌}
use Rattle.std.proofs.lemmas.List.{drop_all}
use Rattle.xw_words.proofs.Lists.{drop_item}
use Rattle.xc_tree.specs.declared.tree.Branch.{Branch}
use Rattle.xc_tree.specs.declared.tree.Case.{Case}
use Rattle.xc_tree.specs.declared.tree.Declared.{Declared}
use Rattle.xc_tree.specs.declared.tree.Item.{Item}
use Rattle.xc_tree.specs.declared.tree.Param.{Param}
use Rattle.xc_tree.specs.declared.tree.Stmt.{Stmt}
use Rattle.xc_tree.specs.declared.names.Decl.{Decl}
use Rattle.xc_tree.specs.declared.names.Mark.{Mark}
use Rattle.xc_tree.specs.Names.Marks as marks
use Rattle.xc_tree.specs.Plain as plain
use Rattle.xc_tree.specs.Shapes.Enclosing.{Enclosing}
use Rattle.xc_tree.specs.Trees.{branch_of, case_of, declaration_of, item_of, statement_of}
use Rattle.xc_tree.specs.Types.Named.{NamedProgram, past}
use Rattle.xc_tree.specs.Types.Sites.{Site}
use Rattle.xc_tree.specs.Types.Sites as site
use Rattle.xc_types.specs.declared.checker.Checker.{Checker}
use Rattle.xc_types.specs.Checker.{saw, one_more_name}
use Rattle.xc_types.proofs.Joins.{saw_join, saw_names, saw_nothing}
use Rattle.xc_types.proofs.Steps.{saw_declaration, names_more}

abbrev declared_by : Declared → Decl
declared_by x = record { name = (declaration_of x).name; what = marks.what_of (declaration_of x).kind }

-- behind the first of some parts, where the others have these marks and, by how many names there are, these sites
pub behind : (s t : Checker) (first others : List Mark) (here : List Site) (there : ℕ → List Site) → t ≡ saw s first here → saw s (first ++ others) (here ++ there (past s.names first)) ≡ saw t others (there t.names)
behind s t first others here there e =
    saw_join s first others here (there (past s.names first))
    ∙ ap (λ (z : Checker). saw z others (there (past s.names first))) (sym e)
    ∙ ap (λ (k : ℕ). saw t others (there k)) (sym (ap (λ (z : Checker). z.names) e ∙ saw_names s first here))

module _ (n : NamedProgram) (around : Enclosing) (xs : List Stmt) (i : ℕ) (s : Checker) where
  pub next_statement : (x : Stmt) → x ≡ get_or xs i x → i < length xs → (t : Checker) → t ≡ saw s (marks.of_statement (statement_of x)) (site.of_statement n around s.names (statement_of x))
      → saw s (marks.of_statements (plain.statements (map statement_of (drop i xs)))) (site.of_statements n around s.names (plain.statements (map statement_of (drop i xs))))
      ≡ saw t (marks.of_statements (plain.statements (map statement_of (drop (i + 1) xs)))) (site.of_statements n around t.names (plain.statements (map statement_of (drop (i + 1) xs))))
  next_statement x e h t g =
      rw (drop_item xs i x e h) (behind s t (marks.of_statement (statement_of x)) (marks.of_statements (plain.statements (map statement_of (drop (i + 1) xs)))) (site.of_statement n around s.names (statement_of x)) (λ k. site.of_statements n around k (plain.statements (map statement_of (drop (i + 1) xs)))) g)

  pub no_statement : length xs ≤ i → saw s (marks.of_statements (plain.statements (map statement_of (drop i xs)))) (site.of_statements n around s.names (plain.statements (map statement_of (drop i xs)))) ≡ s
  no_statement h = rw (drop_all i xs h) (saw_nothing s)

module _ (n : NamedProgram) (around : Enclosing) (xs : List Branch) (i : ℕ) (s : Checker) where
  pub next_branch : (x : Branch) → x ≡ get_or xs i x → i < length xs → (t : Checker) → t ≡ saw s (marks.of_branch (branch_of x)) (site.of_branch n around s.names (branch_of x))
      → saw s (marks.of_branches (plain.branches (map branch_of (drop i xs)))) (site.of_branches n around s.names (plain.branches (map branch_of (drop i xs))))
      ≡ saw t (marks.of_branches (plain.branches (map branch_of (drop (i + 1) xs)))) (site.of_branches n around t.names (plain.branches (map branch_of (drop (i + 1) xs))))
  next_branch x e h t g =
      rw (drop_item xs i x e h) (behind s t (marks.of_branch (branch_of x)) (marks.of_branches (plain.branches (map branch_of (drop (i + 1) xs)))) (site.of_branch n around s.names (branch_of x)) (λ k. site.of_branches n around k (plain.branches (map branch_of (drop (i + 1) xs)))) g)

  pub no_branch : length xs ≤ i → saw s (marks.of_branches (plain.branches (map branch_of (drop i xs)))) (site.of_branches n around s.names (plain.branches (map branch_of (drop i xs)))) ≡ s
  no_branch h = rw (drop_all i xs h) (saw_nothing s)

module _ (n : NamedProgram) (around : Enclosing) (xs : List Case) (i : ℕ) (s : Checker) where
  pub next_case : (x : Case) → x ≡ get_or xs i x → i < length xs → (t : Checker) → t ≡ saw s (marks.of_case (case_of x)) (site.of_case n around s.names (case_of x))
      → saw s (marks.of_cases (plain.cases (map case_of (drop i xs)))) (site.of_cases n around s.names (plain.cases (map case_of (drop i xs))))
      ≡ saw t (marks.of_cases (plain.cases (map case_of (drop (i + 1) xs)))) (site.of_cases n around t.names (plain.cases (map case_of (drop (i + 1) xs))))
  next_case x e h t g =
      rw (drop_item xs i x e h) (behind s t (marks.of_case (case_of x)) (marks.of_cases (plain.cases (map case_of (drop (i + 1) xs)))) (site.of_case n around s.names (case_of x)) (λ k. site.of_cases n around k (plain.cases (map case_of (drop (i + 1) xs)))) g)

  pub no_case : length xs ≤ i → saw s (marks.of_cases (plain.cases (map case_of (drop i xs)))) (site.of_cases n around s.names (plain.cases (map case_of (drop i xs)))) ≡ s
  no_case h = rw (drop_all i xs h) (saw_nothing s)

module _ (n : NamedProgram) (around : Enclosing) (xs : List Declared) (i : ℕ) (s : Checker) where
  pub next_declaration : (x : Declared) → x ≡ get_or xs i x → i < length xs → (r t : Checker) → r ≡ one_more_name s → t ≡ saw r (marks.of_initial (declaration_of x).kind) (site.of_kind n around r.names (declaration_of x).kind)
      → saw s (marks.each marks.of_declaration (map declaration_of (drop i xs))) (site.of_declarations n around s.names (map declaration_of (drop i xs)))
      ≡ saw t (marks.each marks.of_declaration (map declaration_of (drop (i + 1) xs))) (site.of_declarations n around t.names (map declaration_of (drop (i + 1) xs)))
  next_declaration x e h r t f g =
      rw (drop_item xs i x e h) (behind s t (marks.of_declaration (declaration_of x)) (marks.each marks.of_declaration (map declaration_of (drop (i + 1) xs))) (site.of_kind n around (s.names + 1) (declaration_of x).kind) (λ k. site.of_declarations n around k (map declaration_of (drop (i + 1) xs)))
      (g
      ∙ ap (λ (z : Checker). saw z (marks.of_initial (declaration_of x).kind) (site.of_kind n around z.names (declaration_of x).kind)) f
      ∙ ap (λ (k : ℕ). saw (one_more_name s) (marks.of_initial (declaration_of x).kind) (site.of_kind n around k (declaration_of x).kind)) (names_more s)
      ∙ sym (saw_declaration s (declared_by x) (marks.of_initial (declaration_of x).kind) (site.of_kind n around (s.names + 1) (declaration_of x).kind))))

  pub no_declaration : length xs ≤ i → saw s (marks.each marks.of_declaration (map declaration_of (drop i xs))) (site.of_declarations n around s.names (map declaration_of (drop i xs))) ≡ s
  no_declaration h = rw (drop_all i xs h) (saw_nothing s)

module _ (xs : List Param) (i : ℕ) (s : Checker) where
  pub next_parameter : (x : Param) → x ≡ get_or xs i x → i < length xs → (t : Checker) → t ≡ saw s (marks.of_param x) (site.of_parameter x)
      → saw s (marks.each marks.of_param (drop i xs)) (site.each site.of_parameter (drop i xs)) ≡ saw t (marks.each marks.of_param (drop (i + 1) xs)) (site.each site.of_parameter (drop (i + 1) xs))
  next_parameter x e h t g =
      rw (drop_item xs i x e h) (behind s t (marks.of_param x) (marks.each marks.of_param (drop (i + 1) xs)) (site.of_parameter x) (λ k. site.each site.of_parameter (drop (i + 1) xs)) g)

  pub no_parameter : length xs ≤ i → saw s (marks.each marks.of_param (drop i xs)) (site.each site.of_parameter (drop i xs)) ≡ s
  no_parameter h = rw (drop_all i xs h) (saw_nothing s)

module _ (n : NamedProgram) (xs : List Item) (i : ℕ) (s : Checker) where
  pub next_item : (x : Item) → x ≡ get_or xs i x → i < length xs → (t : Checker) → t ≡ saw s (marks.of_item i (item_of x)) (site.of_item n s.names (item_of x))
      → saw s (marks.of_items i (map item_of (drop i xs))) (site.of_items n i s.names (map item_of (drop i xs))) ≡ saw t (marks.of_items (i + 1) (map item_of (drop (i + 1) xs))) (site.of_items n (i + 1) t.names (map item_of (drop (i + 1) xs)))
  next_item x e h t g =
      rw (drop_item xs i x e h) (behind s t (marks.of_item i (item_of x)) (marks.of_items (i + 1) (map item_of (drop (i + 1) xs))) (site.of_item n s.names (item_of x)) (λ k. site.of_items n (i + 1) k (map item_of (drop (i + 1) xs))) g)

  pub no_item : length xs ≤ i → saw s (marks.of_items i (map item_of (drop i xs))) (site.of_items n i s.names (map item_of (drop i xs))) ≡ s
  no_item h = rw (drop_all i xs h) (saw_nothing s)

pub ruleset loops = (next_statement, no_statement, next_branch, no_branch, next_case, no_case, next_declaration, no_declaration, next_parameter, no_parameter, next_item, no_item)
