pub mod TakingLaws
pub mod ListLaws
pub mod NameLaws
pub mod KeyLaws
pub mod FileLaws
pub mod CertificateLaws
