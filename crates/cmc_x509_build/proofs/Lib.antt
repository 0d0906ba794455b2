pub mod AddressLaws
pub mod ValueLaws
pub mod BuiltKeyLaws
pub mod BuiltNameLaws
pub mod RequestLaws
pub mod CertificateBuiltLaws
pub mod ServeLaws
