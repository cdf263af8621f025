mod AlienLaws
mod BadLaws
mod ClausalLaws
mod Climbs
mod Crosses
pub mod EmptyMaps
mod Entry
mod Existentials
mod FittedParents
mod FreshLaws
mod InferenceLaws
mod LinkLaws
mod ListLimits
mod NotedForms
mod NumberedRows
pub mod OneRepresentative
pub mod OneVerdict
mod OwnForms
mod PieceLaws
pub mod SortedLaws
mod TableLaws
pub mod TrueClauses
pub mod TrueForms
pub mod TrueSteps
mod VerdictLaws
mod WithinLaws
