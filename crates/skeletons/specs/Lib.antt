pub mod Skeleton
pub mod Make
pub mod Scan
pub mod Form
pub mod FormOf
