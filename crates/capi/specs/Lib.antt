pub mod Result
pub mod Mark
