pub mod LabelLists
pub mod AxisLabels
pub mod PathLabels
pub mod SeenLabels
pub mod SeenLaws
pub mod Covered
pub mod OnceNoted
mod NotedLooks
pub mod ProgramLaws
pub mod ReadsAlone
pub mod FindLaws
pub mod StepLooks
mod Rows
