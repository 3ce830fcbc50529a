mod GrowLaws
mod LineLaws
mod LevelLaws
mod ServerLaws
mod RaceLaws
mod RunLaws
