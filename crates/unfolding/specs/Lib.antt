pub mod Unfolding
