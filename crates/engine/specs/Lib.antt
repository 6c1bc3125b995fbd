-- What the engine's own calls do, in the words of the theory.
pub mod Playing
