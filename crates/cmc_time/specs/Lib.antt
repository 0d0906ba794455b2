pub mod Moment
pub mod Texts
pub mod Rfc3339
pub mod Asn1
pub mod Durations
pub mod TimeTexts
pub mod DurationTexts
