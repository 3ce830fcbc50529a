pub mod Paths
pub mod Confs
