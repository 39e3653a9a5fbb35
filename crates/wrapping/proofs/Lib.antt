pub mod OneRule
