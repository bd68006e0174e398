pub mod Commands
pub mod Apps
pub mod Lines
