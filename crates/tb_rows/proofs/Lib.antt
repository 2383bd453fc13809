mod CutTexts
pub mod FieldIndices
mod Left
pub mod Meaning
mod Names
pub mod WholeFiles
