-- Laws of sheets: what the refusals 1 to 16 let through.
pub mod Grammar
pub mod Automaton
pub mod Passed
pub mod Write
pub mod Wrap
pub mod Bodies
pub mod Rules
pub mod Asked
