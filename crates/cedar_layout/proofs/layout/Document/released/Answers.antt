use Rattle.std.proofs.Common.{◌+◌, ap, ◌∙◌, sym}
use Rattle.cedar_layout.specs.Nodes.{nodes}
use Rattle.cedar_layout.specs.Inside.Releasing.{nested}
use Rattle.cedar_layout.proofs.Counts.{nodes_pos, nodes_nest, nodes_group}
use Rattle.cedar_layout.proofs.Releasing.{leaf_released, inner_released, nested_leaf, nested_nest, nested_group}
use Rattle.cedar_layout.proofs.layout.Document.released.Goals as goal

pub returns-in-Nil : goal.returns-in-Nil
returns-in-Nil c = leaf_released c.args.docs.items c.args.self (nested_leaf c.args.self c.in-Nil.is)
    (nodes_pos c.args.self)

pub returns-in-Nest : goal.returns-in-Nest
returns-in-Nest c =
    inner_released c.args.docs.items _ c.args.self c.into_inner.result c.put.ensures
    (ap nested c.in-Nest.is ∙ nested_nest _ c.in-Nest.inner)
    (ap nodes c.in-Nest.is ∙ nodes_nest _ c.in-Nest.inner
    ∙ ap (λ d. 1 + nodes d) (sym c.into_inner.ensures))

pub returns-in-Group : goal.returns-in-Group
returns-in-Group c =
    inner_released c.args.docs.items _ c.args.self c.into_inner-in-Group.result
    c.put-in-Group.ensures
    (ap nested c.in-Group.is ∙ nested_group c.in-Group.inner)
    (ap nodes c.in-Group.is ∙ nodes_group c.in-Group.inner
    ∙ ap (λ d. 1 + nodes d) (sym c.into_inner-in-Group.ensures))
