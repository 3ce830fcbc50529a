pub mod CalendarLemmas
pub mod YearLemmas
pub mod FormatLemmas
pub mod VisibleLemmas
pub mod Computed
