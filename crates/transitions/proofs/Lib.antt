pub mod Leads
pub mod Walking
pub mod Node
pub mod Checked
