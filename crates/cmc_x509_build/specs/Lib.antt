pub mod Addresses
pub mod Octets
pub mod Keys
pub mod Requests
pub mod Certificates
