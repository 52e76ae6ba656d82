-- Laws of trees.
pub mod FirstLeaf
pub mod Relabelling
pub mod Laws
pub mod Unlike
