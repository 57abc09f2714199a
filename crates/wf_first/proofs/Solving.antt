-- From the numbers of nodes to their names: the rows that are solved are those of the program.
use Rattle.std.proofs.Common.{◌≡◌, ℕ, List, [], ◌++◌, length, take, drop, sym, ap, subst, ◌∙◌}
use Rattle.std.specs.Prelude.{Contains, map}
use Rattle.std.proofs.lemmas.List.{take_at}
use Rattle.wf_data.specs.declared.class_info.ClassInfo.{ClassInfo}
use Rattle.wf_names.specs.declared.member.MemberName.{MemberName}
use Rattle.wf_sys.specs.declared.flow.Flow.{Flow}
use Rattle.wf_sys.specs.declared.inequality.Inequality.{Inequality}
use Rattle.wf_sys.specs.System.{Least}
use Rattle.wf_sys.specs.Assignments.{value_at, IsSeedOf, TargetsFit}
use Rattle.wf_sys.specs.Nodes.{Node, Start, Initialized, Entered}
use Rattle.wf_sys.specs.Program.{Row, Seed}
use Rattle.wf_first.specs.Form.{IsOfForm}
use Rattle.wf_first.specs.Nodes.{place_of, with_nodes, nodes_of}
use Rattle.wf_first.specs.Rows.{rows_of, renamed, HasNodesOf}
use Rattle.wf_first.specs.Solution.{seeded, by_name}
use Rattle.wf_first.proofs.RowLaws.{listed_is_row, row_is_listed}
use Rattle.wf_first.proofs.RowNodes.{nodes_are_there, root_is_there}
use Rattle.wf_first.proofs.NumberLaws.{rows_renamed, with_nodes_new, seeded_length, least_by_name, targets_fit, least_along}

abbrev id_ : Node → Node
id_ n = n

abbrev all_nodes : List ClassInfo → List Node
all_nodes classes = with_nodes [] (nodes_of classes)

-- the nodes of a row are among those that were numbered
numbered : (classes : List ClassInfo) (root : MemberName) → IsOfForm classes root → (q : Inequality Node) → Contains (rows_of id_ classes) q → HasNodesOf (all_nodes classes) q
numbered classes root form q h =
    let there = nodes_are_there classes root q form h in
    record {
      target = with_nodes_new [] (nodes_of classes) q.target there.target;
      guard = λ n e. with_nodes_new [] (nodes_of classes) n (there.guard n e);
      value = λ n e. with_nodes_new [] (nodes_of classes) n (there.value n e);
    }

-- the rows raise numbered nodes alone
pub rows_fit : (classes : List ClassInfo) (root : MemberName) → IsOfForm classes root → (nodes : List Node) → nodes ≡ all_nodes classes → (rows : List (Inequality ℕ)) → rows ≡ rows_of (place_of nodes) classes
    → (values : List Flow) → values ≡ seeded nodes root → TargetsFit (length values) rows
rows_fit classes root form nodes all rows made values seeds =
    let fit = targets_fit (all_nodes classes) (rows_of id_ classes) (numbered classes root form) in
    let long : length values ≡ length (all_nodes classes) = ap (λ (vs : List Flow). length vs) seeds ∙ seeded_length nodes root ∙ ap (λ (ns : List Node). length ns) all in
    let same : rows ≡ map (renamed (place_of (all_nodes classes))) (rows_of id_ classes) = made ∙ ap (λ (ns : List Node). rows_of (place_of ns) classes) all ∙ rows_renamed (place_of (all_nodes classes)) classes in
    subst (λ (n : ℕ). TargetsFit n rows) (sym long) (subst (λ (qs : List (Inequality ℕ)). TargetsFit (length (all_nodes classes)) qs) (sym same) fit)

by_number : (classes : List ClassInfo) (root : MemberName) → IsOfForm classes root → (values : List Flow) → length values ≡ length (all_nodes classes)
    → Least (Contains (map (renamed (place_of (all_nodes classes))) (rows_of id_ classes))) (IsSeedOf (seeded (all_nodes classes) root)) (value_at values) → Least (Row classes) (Seed root) (by_name (all_nodes classes) values)
by_number classes root form values long least =
    let there = root_is_there classes root form in
    least_along (λ q h. listed_is_row classes root q form h) (λ q h. row_is_listed classes root q form h)
    (least_by_name (all_nodes classes) (rows_of id_ classes) root values (numbered classes root form)
    (with_nodes_new [] (nodes_of classes) Start there.2) (with_nodes_new [] (nodes_of classes) (Entered root) there.0) (with_nodes_new [] (nodes_of classes) (Initialized root.class) there.1)
    long least)

-- what solves them by number solves the program by name
pub solution_by_name : (classes : List ClassInfo) (root : MemberName) → IsOfForm classes root → (nodes : List Node) → nodes ≡ all_nodes classes → (rows : List (Inequality ℕ)) → rows ≡ rows_of (place_of nodes) classes
    → (seeds values : List Flow) → seeds ≡ seeded nodes root → length values ≡ length seeds → Least (Contains rows) (IsSeedOf seeds) (value_at values) → Least (Row classes) (Seed root) (by_name nodes values)
solution_by_name classes root form nodes all rows made seeds values given long least =
    let same : rows ≡ map (renamed (place_of (all_nodes classes))) (rows_of id_ classes) = made ∙ ap (λ (ns : List Node). rows_of (place_of ns) classes) all ∙ rows_renamed (place_of (all_nodes classes)) classes in
    let started : seeds ≡ seeded (all_nodes classes) root = given ∙ ap (λ (ns : List Node). seeded ns root) all in
    let size : length values ≡ length (all_nodes classes) = long ∙ ap (λ (vs : List Flow). length vs) started ∙ seeded_length (all_nodes classes) root in
    subst (λ (ns : List Node). Least (Row classes) (Seed root) (by_name ns values)) (sym all)
    (by_number classes root form values size
    (subst (λ (qs : List (Inequality ℕ)). Least (Contains qs) (IsSeedOf (seeded (all_nodes classes) root)) (value_at values)) same
    (subst (λ (vs : List Flow). Least (Contains rows) (IsSeedOf vs) (value_at values)) started least)))

-- what is written over a list of its own length
pub written_over : {X : Type 0} (n : ℕ) (new old : List X) → length new ≡ n → take n (new ++ drop (length new) old) ≡ new
written_over n new old e = take_at new (drop (length new) old) n e
