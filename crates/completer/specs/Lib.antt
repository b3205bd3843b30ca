-- What the contracts of the crate `completer` cite. Some have no module: Controller is the state that both modules
-- speak of, Settling what `serve` and `dispatch` leave by what they give, with the record that follows, and what
-- goes on inside, Called what is promised of a call. The crate `figures` has calls in figures.
pub mod Controller
pub mod Verdict
pub mod Serving
pub mod Settling
pub mod Called
