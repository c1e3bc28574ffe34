-- Demand 3, proved.
pub mod SortedLaws
pub mod Effects
pub mod EffectLaws
pub mod RowLaws
pub mod ContactLaws
pub mod CellLaws
pub mod OrderLaws
pub mod LimitLaws
pub mod KeptLaws
pub mod TombstoneLaws
pub mod DepositLaws
pub mod LifeLaws
pub mod ShareLaws
pub mod OfferLaws
pub mod OfferSteps
pub mod HistoryLaws
