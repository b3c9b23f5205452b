-- The sources of a message are short enough to be written.
use Rattle.std.proofs.Common.{◌≡◌, ℕ, ◌≤◌, true, List, [], ◌∷◌, length, map, arith}
use Rattle.std.specs.List.{AllByRecursion}
use Rattle.std.proofs.lemmas.Bool.{and_parts}
use Rattle.model_values.specs.Value.{Val}
use Rattle.model_values.specs.Row.{Row}
use Rattle.model_wire.specs.Lawful.{IsSourceValue, IsRow, IsSource, IsSent}
use Rattle.model_wire.proofs.ValueLaws.{within_range}
use Rattle.model_values.specs.Name.{is_name}
use Rattle.lasp_state.specs.declared.state.State.{State}
use Rattle.lasp_state.specs.declared.state.State.TheVariants.{Set, Grow, Count, Max, Fold}
use Rattle.lasp_state.specs.State.{content_of}
use Rattle.lasp_wire.specs.declared.source.Source.{Source}
use Rattle.lasp_wire.specs.Sent.{kind_of, sent_of}
use Rattle.lasp_wire.specs.Written.{IsShort, IsShortState, IsShortSource}

short_rows : (nodes : ℕ) (rows : List Row) → AllByRecursion (IsRow nodes) rows → AllByRecursion (λ r. IsShort r.0.0) rows
short_rows nodes [] h = tt
short_rows nodes (r ∷ rows) h = (omega (arith, h.0.0.size.bytes), short_rows nodes rows h.1)

short_values : (values : List Val) → AllByRecursion IsSourceValue values → AllByRecursion IsShort values
short_values [] h = tt
short_values (v ∷ values) h = (omega (arith, h.0.size.bytes), short_values values h.1)

short_state : (nodes : ℕ) (s : State) → IsSource nodes (kind_of s) (content_of s) → IsShortState s
short_state nodes (Set rows) h = (h.0.few, short_rows nodes rows h.0.each)
short_state nodes (Grow values) h = (h.0.few, short_values values h.0.each)
short_state nodes (Count counts) h = tt
short_state nodes (Max m) h = tt
short_state nodes (Fold rows n) h = h

pub short_name : (t : List ℕ) → is_name t ≡ true → length t ≤ 32
short_name t h = (within_range 1 32 (length t) (and_parts _ _ (and_parts _ _ h).0).0).1

pub short_sources : (nodes : ℕ) (sources : List Source) → AllByRecursion (IsSent nodes) (map sent_of sources) → AllByRecursion IsShortSource sources
short_sources nodes [] h = tt
short_sources nodes (s ∷ sources) h = ((short_name s.name h.0.0, short_state nodes s.state h.0.1), short_sources nodes sources h.1)
