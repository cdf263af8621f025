pub mod ExpansionReport
pub mod Laws
pub mod StepLines
pub mod StepProblems
pub mod Words
