-- The laws.
pub mod WeightLaws
pub mod PointLaws
pub mod StartLaws
pub mod SingleLaws
pub mod StayLaws
