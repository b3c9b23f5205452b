-- The words that the contracts of this library are written in.
pub use Rattle.lasp_histlock.specs.Content.{IsCarrier}
pub use Rattle.lasp_histlock.specs.History.{Allowed, Made, added, entries_of}
pub use Rattle.lasp_histlock.specs.Names.{name_of}
pub use Rattle.lasp_histlock.specs.Passes.{after_give, after_look, after_miss, after_rejoin, after_split, after_take, first_pass, new_pass}
pub use Rattle.lasp_histlock.specs.Rule.{IsReady, Keeps}
pub use Rattle.lasp_histlock.specs.Steps.{SomeOut, Told}
pub use Rattle.lasp_histlock.specs.Taken.{HasContent, HasTurn, begun, settled}
pub use Rattle.lasp_histlock.specs.Views.{founder, grown, landed, looked, missed, placed, recalled, turned_to}
