-- Laws of the chunks that a log is kept in.
pub mod LogLaws
