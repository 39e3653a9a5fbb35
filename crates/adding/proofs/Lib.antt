mod Alone
mod Lengthened
mod Added
