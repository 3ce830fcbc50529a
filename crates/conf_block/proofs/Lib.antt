pub mod ForestLaws
pub mod LevelLaws
