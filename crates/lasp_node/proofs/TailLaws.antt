-- What came since a node last sent is a tail of what it sent, and has no more than that.
use Rattle.std.proofs.Common.{◌≡◌, ap}
use Rattle.std.specs.Prelude.{Option, Some}
use Rattle.std.specs.Option.{option_map}
use Rattle.std.specs.Arc.{arc_value}
use Rattle.model_core.specs.Core.{Core, IsCore}
use Rattle.lasp_core.specs.Since.{IsTailSince}
use Rattle.lasp_core.proofs.ExactLaws.{tail-has}
use Rattle.lasp_drive.specs.Node.{IsTailOf}
use Rattle.lasp_drive.specs.declared.node.Tail.{Tail}
use Rattle.lasp_node.specs.View.{node_of, posted_at}
use Rattle.lasp_node.specs.declared.node.LastSent.{LastSent}

pub tail-of : (c : Core) → IsCore c → (sent : Option LastSent) (s : LastSent) → sent ≡ Some s → (t : Tail) → t.before ≡ s.number → IsTailSince c.frame c.entries s.entries (arc_value t.rows) → IsTailOf (node_of c sent) t
tail-of c core sent s is t number rows = record {
  posted = posted_at c s;
  sent = ap (option_map (posted_at c)) is;
  number = number;
  rows = rows.tail;
  exact = λ x low source. tail-has c.frame c.entries core.legal s.entries (arc_value t.rows) rows x low source;
}
