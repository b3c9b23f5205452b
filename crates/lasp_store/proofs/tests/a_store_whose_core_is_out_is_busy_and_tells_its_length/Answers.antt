use Rattle.std.proofs.Common.{refl}
use Rattle.lasp_store.proofs.TurnLaws.{may-still}
use Rattle.lasp_store.proofs.tests.a_store_whose_core_is_out_is_busy_and_tells_its_length.Goals as goal

pub end-requires : goal.end-requires
end-requires g c =
    let core = c.begin-core.result.value in
    may-still c.in_ok-store.store c.begin-core.new.h core core c.begin-core.ensures.turn c.begin-core.ensures.core refl refl
