pub mod OwnerKeys
