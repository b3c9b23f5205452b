-- What set states mean.
pub mod Rows
pub mod Values
pub mod Equations
pub mod Algebra
pub mod Folds
pub mod Loops
pub mod Tests
pub mod Rises
pub mod Reads
