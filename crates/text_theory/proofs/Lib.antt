pub mod JoinedTexts
pub mod TermTexts
pub mod PolynomialTexts
pub mod ElementTexts
pub mod InFull
