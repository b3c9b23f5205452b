use Rattle.lasp_store.proofs.TurnLaws.{early-later}
use Rattle.lasp_store.proofs.store.Store.letter.Goals as goal

pub end_letter-requires-clause-early : goal.end_letter-requires-clause-early
end_letter-requires-clause-early g c = early-later c.args.since c.args.f.now.seen c.begin-core.result.value.entries c.begin-core.ensures.goes_on c.requires.early
