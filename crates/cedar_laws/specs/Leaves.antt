-- The parts of a policy with each leaf changed by f.
use Rattle.cedar_grammar.specs.TypedTrees.{PartKind, Clause, tree_map, annotation_bare, annotation_value, annotations_more, cond_of, conds_more, no_annotation, no_cond, policy_of, variable_bare, variable_is, variable_is_op, variable_op}

abbrev pub part_map : {A B : Type 0} {k : PartKind} → (A → B) → Clause A k → Clause B k
part_map f (variable_bare x0) = variable_bare (f x0)
part_map f (variable_is x0 x1 x2) = variable_is (f x0) (f x1) (tree_map f x2)
part_map f (variable_op x0 x1 x2) = variable_op (f x0) (f x1) (tree_map f x2)
part_map f (variable_is_op x0 x1 x2 x3 x4) = variable_is_op (f x0) (f x1) (tree_map f x2) (f x3) (tree_map f x4)
part_map f (cond_of x0 x1 x2 x3) = cond_of (f x0) (f x1) (tree_map f x2) (f x3)
part_map f no_cond = no_cond
part_map f (conds_more x0 x1) = conds_more (part_map f x0) (part_map f x1)
part_map f (annotation_bare x0 x1) = annotation_bare (f x0) (f x1)
part_map f (annotation_value x0 x1 x2 x3 x4) = annotation_value (f x0) (f x1) (f x2) (f x3) (f x4)
part_map f no_annotation = no_annotation
part_map f (annotations_more x0 x1) = annotations_more (part_map f x0) (part_map f x1)
part_map f (policy_of x0 x1 x2 x3 x4 x5 x6 x7 x8 x9 x10) = policy_of (part_map f x0) (f x1) (f x2) (part_map f x3) (f x4) (part_map f x5) (f x6) (part_map f x7) (f x8) (part_map f x9) (f x10)
