-- What one call of a feeder makes of the journal that it has seen, whatever others add to it meanwhile.
use Rattle.std.specs.Prelude.{◌≡◌, ℕ, ◌+◌, ◌<◌, ◌≤◌, List, [], ◌∷◌, ◌++◌, length, Some, None, Result, Ok, Err}
use Rattle.model_graph.specs.Evaluation.{eval, first_large}
use Rattle.model_journal.specs.Entry as model
use Rattle.model_journal.specs.Entry.{Act, Entry, Frame}
use Rattle.model_journal.specs.Journal.{graph, vals, counts, sources}
use Rattle.model_graph.specs.Message.{Message}
use Rattle.model_runs.specs.Calls.{fed, unbound}
use Rattle.lasp_core.specs.Listed.{GoesOn}
use Rattle.lasp_core.specs.declared.watched.Settle.{Settle}
use Rattle.lasp_core.specs.declared.watched.Settle.TheVariants as settle
use Rattle.lasp_replica.specs.Jobs.{IsUnclean}
use Rattle.lasp_replica.specs.Replica.{IsAnswered, IsDelivered, update_refusal}
use Rattle.lasp_replica.specs.declared.refused.DeliverRefused.{DeliverRefused}
use Rattle.lasp_replica.specs.declared.refused.UpdateRefused.{UpdateRefused}
use Rattle.lasp_state.specs.State.{op_of}
use Rattle.lasp_state.specs.declared.op.Op.{Op}

-- the list goes on by results alone
pub record Learns (old new : List Entry) : Type 0 where
  pub more : List Entry
  pub is : new ≡ old ++ more
  pub results : unbound more ≡ []

-- the list goes on by results, and then by this act of the feeder
pub record Feeds (a : Act) (found old new : List Entry) : Type 0 where
  pub learned : Learns old found
  pub is : new ≡ found ++ fed a ∷ []

-- an update was answered at the list that it found, and stands behind that where it was done
abbrev pub Updates : {A : Type 0} → Frame → ℕ → Op → List Entry → Result A UpdateRefused → List Entry → Type 0
Updates X x op old (Ok a) new = (found : List Entry) × Feeds (model.Update x (op_of op)) found old new × (update_refusal X.nodes X.replica (graph X found) (vals X found) (counts X found) x op ≡ None)
Updates {A} X x op old (Err why) new = Learns old new × IsAnswered {A = A} (update_refusal X.nodes X.replica (graph X new) (vals X new) (counts X new) x op) (Err why)

-- so was a delivery
abbrev pub Delivers : {A : Type 0} → Frame → ℕ → Message → List Entry → Result A DeliverRefused → List Entry → Type 0
Delivers {A} X i m old (Ok a) new = (found : List Entry) × Feeds (model.Deliver i m) found old new × IsDelivered X.nodes (graph X found) (vals X found) m (Ok a)
Delivers {A} X i m old (Err why) new = Learns old new × IsDelivered {A = A} X.nodes (graph X new) (vals X new) m (Err why)

-- the feeder's own entries go on by this act where the call was done, and stay where it was refused
abbrev pub Adds : {A E : Type 0} → Act → List Entry → Result A E → List Entry → Type 0
Adds a old (Ok done) new = new ≡ old ++ fed a ∷ []
Adds a old (Err why) new = new ≡ old

-- the call found so many entries: all that there are behind it but that which it added
abbrev pub IsFoundBehind : {A E : Type 0} → Result A E → ℕ → ℕ → Type 0
IsFoundBehind (Ok done) found many = many ≡ found + 1
IsFoundBehind (Err why) found many = many ≡ found

-- the entry is the feeder's own result of a variable from the first bound on and before the second, which had inputs to take in where its job was taken
pub record IsOwnResult (X : Frame) (seen : List Entry) (from to : ℕ) (e : Entry) : Type 0 where
  pub var : ℕ
  -- the journal there
  pub found : List Entry
  pub begins : GoesOn found seen
  pub is : e ≡ fed (model.Bind var (length found))
  pub unclean : IsUnclean X found var
  pub low : from ≤ var
  pub high : var < to

-- each entry is, and each is of a later variable than the one before it
abbrev pub AreOwnResults : Frame → List Entry → ℕ → ℕ → List Entry → Type 0
AreOwnResults X seen from to [] = Unit {0}
AreOwnResults X seen from to (e ∷ mine) = (r : IsOwnResult X seen from to e) × AreOwnResults X seen (r.var + 1) to mine

-- the feeder's own entries go on by its results, of each variable one at most
pub record PassesOnce (X : Frame) (seen old new : List Entry) : Type 0 where
  pub mine : List Entry
  pub is : new ≡ old ++ mine
  pub once : AreOwnResults X seen 0 (length (graph X seen)) mine

-- what plain evaluation gives of the sources
abbrev pub AreEvaluated : Frame → List Entry → Type 0
AreEvaluated X entries = vals X entries ≡ eval (graph X entries) (sources X entries)

-- nor does it make a variable too large
abbrev pub AreSmall : Frame → List Entry → Type 0
AreSmall X entries = first_large 0 (eval (graph X entries) (sources X entries)) ≡ None

-- all was settled, and no variable is too large; or this one is the first that is; or memory was wanting
abbrev pub Settles : Frame → List Entry → Result ℕ Settle → Type 0
Settles X entries (Ok n) = AreEvaluated X entries × AreSmall X entries
Settles X entries (Err (settle.TooLarge x)) = first_large 0 (eval (graph X entries) (sources X entries)) ≡ Some x
Settles X entries (Err settle.Memory) = Unit {0}
