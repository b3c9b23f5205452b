-- The words that the contracts of this library are written in.
pub use Rattle.lasp_mail.specs.Line.{both_ends, no_table, sending, taking}
pub use Rattle.lasp_mail.specs.Parcel.{Attests}
pub use Rattle.lasp_mail.specs.Witness.{IsOwner, IsReader, Keeps, Told, all_of, compared, founder, gathered, issued, mark_of, reader_of, recalled, took, withdrawn}
