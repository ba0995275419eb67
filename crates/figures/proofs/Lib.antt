pub mod DigitLaws
pub mod FigureLaws
pub mod TimeLaws
pub mod Examples
