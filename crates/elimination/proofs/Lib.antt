pub mod Exchanges
pub mod Steps
pub mod Reductions
pub mod PanelLaws
pub mod CodeLaws
pub mod Stages
pub mod RowsLaws
pub mod Info
pub mod SolveLaws
pub mod Words
pub mod UpperLaws
pub mod Pivots
pub mod Numbers
pub mod StripMaps
pub mod StripLaws
pub mod StripColumns
mod Examples
mod WholeExchanges
mod WholeSteps
mod WholeLoops
mod WholeFits
mod WholeCarried
mod ByPanels
mod Pieces
mod ByHalves
