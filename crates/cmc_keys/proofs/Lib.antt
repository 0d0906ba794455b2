pub mod FileLaws
pub mod SyntheticLaws
pub mod KindLaws
pub mod ScriptedLaws
pub mod SignatureLaws
