use Rattle.lasp_store.proofs.ShelfLaws.{shelf-stays}
use Rattle.lasp_store.proofs.laws.shelves_stay.Goals as goal

pub returns : goal.returns
returns c = shelf-stays
