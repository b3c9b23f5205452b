-- The words that the contracts of this library are written in.
pub use Rattle.std.specs.Bool.{nat_eq}
pub use Rattle.std.specs.Io.KnownBytes.{IsAtEnd}
pub use Rattle.std.specs.Str.{bytes_eq}
pub use Rattle.model_values.specs.Faults.{Rose, counted}
pub use Rattle.model_values.specs.Told.{AppendsPrefix, Sees, untold}
pub use Rattle.lasp_edge.specs.Loops.{GrowsByPrefix, TakesUpTo, is_failed}
pub use Rattle.lasp_edge.specs.MemFiles.{is_set}
pub use Rattle.lasp_edge.specs.MemSink.{set_after, taken_count}
pub use Rattle.lasp_edge.specs.Shelf.{file_at}
pub use Rattle.lasp_edge.specs.declared.error.Fetch.TheVariants.{Memory}
