pub mod Kind
pub mod Groups
pub mod Numbers
pub mod Three
pub mod BitLaws
pub mod ModularLaws
pub mod Equal
pub mod Names
