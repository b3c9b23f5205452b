pub mod Lexemes
pub mod Trees
pub mod Arrays
pub mod Numbers
