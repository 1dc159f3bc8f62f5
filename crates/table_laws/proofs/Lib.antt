-- The theorems.
pub mod TableLaws
pub mod RowLaws
pub mod FaceLaws
pub mod CramerLaws
pub mod ConeLaws
pub mod SideLaws
pub mod FanLaws
