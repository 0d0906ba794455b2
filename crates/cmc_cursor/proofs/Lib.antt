mod FloatFree
pub mod Always
