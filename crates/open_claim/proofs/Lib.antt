-- The laws, and the computed example.
pub mod ClosedLaws
pub mod TopEdge
