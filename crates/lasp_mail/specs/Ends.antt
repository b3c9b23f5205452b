-- A mailbox and its ends as contracts see them, and what the ends are made of.
use Rattle.std.specs.Prelude.{◌≡◌, List, [], length, Option, None}
use Rattle.std.specs.declared.alloc.Global.{Global}
use Rattle.atomic_table.specs.Seated.{TableId}
use Rattle.atomic_table.specs.declared.shared.Seat as table
use Rattle.atomic_blocks.specs.declared.web.Seat as web
use Rattle.crossbeam_queue.specs.declared.seg_queue.Going.{Going}
use Rattle.crossbeam_queue.specs.SegTies.{SegId}
use Rattle.lasp_mail.specs.declared.line.Line.{Line}
use Rattle.lasp_mail.specs.declared.witness.Witness.{Witness}
use Rattle.lasp_mail.specs.Line.{sending, taking}
use Rattle.lasp_mail.specs.Witness.{IsOwner, IsReader, all_of}

-- which mailbox it is, and the frame of its bodies
pub record BoxId (F : Type 0) : Type 0 where
  pub queue : SegId Global
  pub ledger : TableId
  pub frame : Option F

pub record OutletView (E F : Type 0) : Type 0 where
  pub of : BoxId F
  -- what it put, in order
  pub put : List E

pub record InletView (E F : Type 0) : Type 0 where
  pub of : BoxId F
  -- what it took, in order
  pub got : List E

pub record ClosedView (E : Type 0) : Type 0 where
  pub put : List E
  pub got : List E

abbrev pub Pass : Type 0 → Type 0
Pass P = web.Seat (Option P) (Going P Line) Global

abbrev pub Seat : Type 0 → Type 0 → Type 0 → Type 0
Seat S E F = table.Seat S (Witness E F)

module _ {P S E F : Type 0} where
  abbrev pub box_of : Pass P → Seat S E F → BoxId F
  box_of pass seat = record { queue = record { web = pass.web; heap = pass.heap }; ledger = seat.table_id; frame = seat.me.0.frame }

  abbrev pub outlet_view : Pass P → Seat S E F → OutletView E F
  outlet_view pass seat = record { of = box_of pass seat; put = all_of seat.me.0 }

  abbrev pub inlet_view : Pass P → Seat S E F → InletView E F
  inlet_view pass seat = record { of = box_of pass seat; got = seat.me.0.list }

  pub record IsOutlet (pass : Pass P) (seat : Seat S E F) : Type 0 where
    pub pass_bare : (pass.me.hand ≡ None) × (pass.me.spare ≡ None)
    pub line : pass.me.view.client ≡ sending seat.table_id (length (all_of seat.me.0))
    pub owner : IsOwner seat.me.0
    pub seat_bare : seat.me.1 ≡ []

  pub record IsInlet (pass : Pass P) (seat : Seat S E F) : Type 0 where
    pub pass_bare : (pass.me.hand ≡ None) × (pass.me.spare ≡ None)
    pub line : pass.me.view.client ≡ taking seat.table_id (length seat.me.0.list)
    pub reader : IsReader seat.me.0
    pub no_next : seat.me.0.next ≡ []
    pub seat_bare : seat.me.1 ≡ []

module _ {S E F : Type 0} where
  -- the outlet's seat, after the inlet's came to it
  abbrev pub closed_view : Seat S E F → ClosedView E
  closed_view seat = record { put = all_of seat.me.0; got = seat.me.0.beside }
