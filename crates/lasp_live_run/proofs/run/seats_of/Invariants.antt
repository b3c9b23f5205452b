use Rattle.std.proofs.Common.{◌≡◌, ◌++◌, ℕ, length, map}
use Rattle.std.specs.Prelude.{None, Some, slice_get}
use Rattle.std.specs.Vec.Iter.{into_iter_items}
use Rattle.lasp_live_run.specs.declared.seat.Seat.{Seat}
use Rattle.lasp_live_run.proofs.run.seats_of.Given as goal
use Rattle.lasp_store.specs.Turn.{Knows}

abbrev pub invariant-loop-p : goal.invariant-loop-p
invariant-loop-p g l = record {
  end : l.p-end ≡ length l.stores;
  size : length l.seats.items ≡ l.p;
  each : (p : ℕ) (s : Seat Knows) → slice_get l.seats.items p ≡ Some s → (s.me ≡ p) × (s.diary ≡ None);
  feeders : map (λ (s : Seat Knows). s.feeder) l.seats.items ++ l.feeds.items ≡ l.fn.feeds.items;
  outlets : map (λ (s : Seat Knows). s.outs) l.seats.items ++ into_iter_items l.outs_left ≡ l.fn.outs.items;
  inlets : map (λ (s : Seat Knows). s.ins) l.seats.items ++ into_iter_items l.ins_left ≡ l.fn.ins.items;
}
