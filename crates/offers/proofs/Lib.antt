pub mod AppendLaws
pub mod EntryLaws
pub mod OfferLaws
pub mod ListingLaws
pub mod WritingLaws
pub mod SentLaws
