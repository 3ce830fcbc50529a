pub mod EndsLaws
pub mod FaultLaws
pub mod BeforeLaws
pub mod CheckLaws
pub mod NamesLaws
pub mod FaultlessLaws
pub mod PatternLaws
