-- What proves it: Public and Ground have the theorems, by the rules of Equal.
pub mod Equal
pub mod Public
pub mod Ground
