-- Laws that several proofs cite.
pub mod LayoutLaws
pub mod WeightLaws
pub mod AreaLaws
pub mod CornersLaws
