pub mod Given
pub mod MetadataForm
pub mod CertificateForm
pub mod ObjectForm
pub mod Laws
