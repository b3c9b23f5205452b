-- What every step of a feeder asks for and leaves.
use Rattle.std.specs.Prelude.{◌≡◌, ℕ, ◌+◌, ◌*◌, ◌<◌, List, length, slice_get, Some, None, Result, Ok, Err}
use Rattle.model_graph.specs.Graph.{Decl}
use Rattle.model_journal.specs.Entry as model
use Rattle.model_journal.specs.Entry.{Entry, Frame}
use Rattle.model_graph.specs.Message.{Message}
use Rattle.model_live.specs.Letter.{IsNews}
use Rattle.model_live.specs.Lived.{numbers_of_one, first_number}
use Rattle.lasp_live.specs.Own.{total_in}
use Rattle.lasp_live.specs.Turns.{Feeds, Learns}
use Rattle.lasp_live.specs.declared.own.Own.{Own}
use Rattle.model_world.specs.Command.{Script}
use Rattle.model_world.specs.Lawful.{IsLawful, IsWithinLimits}
use Rattle.model_readings.specs.Lawful.{IsGraph}
use Rattle.model_live.specs.Together.{too_large}
use Rattle.model_live.specs.Words.{AreLive}
use Rattle.lasp_live.specs.Ends.{Box, Out, In, AreEnds}
use Rattle.lasp_live.specs.Fed.{Setting}

abbrev pub setting : List Decl → Script → ℕ → Setting
setting g script me = record { graph = g; script = script; me = me }

-- a node of a script that nodes may run which run beside each other, and which all updates together leave within the limits; these are the ends of its mailboxes
pub record MayFeed (s : Setting) (boxes : List Box) (outs : List Out) (ins : List In) : Type 0 where
  pub graph : IsGraph s.graph
  pub lawful : IsLawful s.graph s.script
  pub limits : IsWithinLimits s.script
  pub live : AreLive s.script.commands
  pub small : too_large s.graph s.script ≡ None
  pub member : s.me < s.script.nodes
  pub ends : AreEnds (s.graph, s.script) s.script.nodes s.me boxes outs ins

-- a letter of node q with this number was news to the node, was taken in and written down under q's number of it, behind results alone; where that was refused the journal went on by results
abbrev pub HasDelivered : {A E : Type 0} → Frame → List Decl → Own → ℕ → ℕ → Message → List Entry → Result A E → List Entry → Type 0
HasDelivered X g own q number m old (Ok done) new = (number < numbers_of_one) × IsNews g X.replica own.updates (total_in own) m × ((found : List Entry) × Feeds (model.Deliver (first_number q + number) m) found old new)
HasDelivered X g own q number m old (Err why) new = Learns old new

-- the same of what it takes from
pub record MayHear (s : Setting) (boxes : List Box) (ins : List In) : Type 0 where
  pub graph : IsGraph s.graph
  pub lawful : IsLawful s.graph s.script
  pub limits : IsWithinLimits s.script
  pub small : too_large s.graph s.script ≡ None
  pub member : s.me < s.script.nodes
  pub many : (length boxes ≡ s.script.nodes * s.script.nodes) × (length ins ≡ s.script.nodes)
  pub planned : (b : ℕ) (box : Box) → slice_get boxes b ≡ Some box → box.frame ≡ Some (s.graph, s.script)
  pub ins_of : (q : ℕ) (i : In) → slice_get ins q ≡ Some i → slice_get boxes (q * s.script.nodes + s.me) ≡ Some i.of
