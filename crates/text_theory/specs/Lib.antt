pub mod WrittenInFull
