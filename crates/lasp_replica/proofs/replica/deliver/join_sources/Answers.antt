use Rattle.std.proofs.Common.{◌≡◌, ◌<◌, ℕ, ◌+◌, ◌++◌, [], ◌∷◌, Bool, false, List, length, map, slice_set, sym, ap, subst, ◌∙◌, arith}
use Rattle.model_states.specs.Content.{join_contents}
use Rattle.model_graph.specs.Message.{sent_at, brought, gained}
use Rattle.model_graph.specs.Graph.{is_source}
use Rattle.lasp_graph.specs.States.{Held, held_at, contents_of}
use Rattle.lasp_replica.specs.Kept.{Kept}
use Rattle.lasp_replica.specs.Replica.{told}
use Rattle.lasp_replica.specs.Delivery.{AreTaken}
use Rattle.lasp_replica.proofs.TakenLaws.{taken-number, taken-like, taken-source, taken-derived, taken-large, taken-all, told-set, told-long, refused-passed}
use Rattle.lasp_replica.proofs.replica.deliver.join_sources.Goals as goal
use Rattle.lasp_replica.proofs.replica.deliver.join_sources.Goals.{then-is_source+in_ok-grows, else-is_source}

pub join_source-requires-clause-like : goal.join_source-requires-clause-like
join_source-requires-clause-like c =
    taken-like c.args.graph.now c.args.message.now c.args.states.now c.loop-x.x c.loop-x.i c.loop-x.states c.loop-x.histories.items c.loop-x.grow.items c.loop-x.invariant.taken c.requires.sent c.requires.kinds
    (omega (arith, c.loop-x-test.true, c.len-x-end.ensures.count)) (ap is_source c.at.ensures.kind ∙ sym c.is_source.ensures ∙ c.if-is_source.true)

pub overflow_add-i : goal.overflow_add-i
overflow_add-i c =
    omega (arith, taken-number c.args.graph.now c.args.message.now c.args.states.now c.loop-x.x c.loop-x.i c.loop-x.states c.loop-x.histories.items c.loop-x.grow.items c.loop-x.invariant.taken, c.loop-x-test.true, c.loop-x.auto.x-end)

pub returns-in_err-grows-clause-told : goal.returns-in_err-grows-clause-told
returns-in_err-grows-clause-told c =
    told-set c.loop-x.histories.items c.loop-x.x c.index_mut.result.now c.join_source.new.history c.index_mut.ensures.value c.join_source.ensures.history ∙ c.loop-x.invariant.told

pub returns-in_err-grows-clause-refused : goal.returns-in_err-grows-clause-refused
returns-in_err-grows-clause-refused c =
    refused-passed (gained (brought c.args.graph.now c.args.message.now) 0 (contents_of c.args.states.now)) c.loop-x.x (join_contents (held_at c.loop-x.states c.loop-x.x).content (sent_at c.args.message.now.sources c.loop-x.i))
    c.in_err-grows.field-0.0 c.join_source.result c.from_residual.result c.in_err-grows.was c.from_residual.ensures.1
    (taken-large c.args.graph.now c.args.message.now c.args.states.now c.loop-x.x c.loop-x.i c.loop-x.states c.loop-x.histories.items c.loop-x.grow.items c.loop-x.invariant.taken
    (ap is_source c.at.ensures.kind ∙ sym c.is_source.ensures ∙ c.if-is_source.true) (omega (arith, c.loop-x-test.true, c.len-x-end.ensures.count, c.requires.long))) c.join_source.ensures.refused

pub returns-in_err-push-clause-told : goal.returns-in_err-push-clause-told
returns-in_err-push-clause-told c = elim c.if-is_source.branch [
  | then-is_source+in_ok-grows w ↦
      let items : c.if-is_source.histories.items ≡ slice_set c.loop-x.histories.items c.loop-x.x w.join_source.new.history = λ j. (w.histories-is j).items in
      ap (λ (hs : List Kept). map told hs) items ∙ told-set c.loop-x.histories.items c.loop-x.x w.index_mut.result.now w.join_source.new.history w.index_mut.ensures.value w.join_source.ensures.history ∙ c.loop-x.invariant.told
  | else-is_source w ↦
      let items : c.if-is_source.histories.items ≡ c.loop-x.histories.items = λ j. (w.histories-is j).items in
      ap (λ (hs : List Kept). map told hs) items ∙ c.loop-x.invariant.told
]

pub loop-x-preserved : goal.loop-x-preserved
loop-x-preserved c = elim c.if-is_source.branch [
  | then-is_source+in_ok-grows w ↦
      let items : c.if-is_source.histories.items ≡ slice_set c.loop-x.histories.items c.loop-x.x w.join_source.new.history = λ j. (w.histories-is j).items in
      let low : c.loop-x.x < length c.args.graph.now = omega (arith, c.loop-x-test.true, c.len-x-end.ensures.count) in
      let taken = taken-source c.args.graph.now c.args.message.now c.args.states.now c.loop-x.x c.loop-x.i c.loop-x.states c.loop-x.histories.items c.loop-x.grow.items c.loop-x.invariant.taken w.in_ok-grows.grows w.join_source.new.states w.join_source.new.history
      w.in_ok-grows.ensures.ok low (omega (arith, low, c.requires.many, told-long c.args.histories.now.items c.loop-x.histories.items c.loop-x.invariant.told)) (ap is_source c.at.ensures.kind ∙ sym c.is_source.ensures ∙ w.if-is_source.true) in
      let grow : c.push.new.self.items ≡ c.loop-x.grow.items ++ w.in_ok-grows.grows ∷ [] = c.in_ok-push.ensures.items ∙ ap (λ (b : Bool). c.loop-x.grow.items ++ b ∷ []) w.grows-is in
      record {
        taken = subst (λ (bs : List Bool). AreTaken c.args.graph.now c.args.message.now c.args.states.now (c.loop-x.x + 1) c.if-is_source.i c.if-is_source.states c.if-is_source.histories.items bs) (sym grow)
            (subst (λ (hs : List Kept). AreTaken c.args.graph.now c.args.message.now c.args.states.now (c.loop-x.x + 1) c.if-is_source.i c.if-is_source.states hs (c.loop-x.grow.items ++ w.in_ok-grows.grows ∷ [])) (sym items)
            (subst (λ (hs : List Held). AreTaken c.args.graph.now c.args.message.now c.args.states.now (c.loop-x.x + 1) c.if-is_source.i hs (slice_set c.loop-x.histories.items c.loop-x.x w.join_source.new.history) (c.loop-x.grow.items ++ w.in_ok-grows.grows ∷ [])) (sym w.states-is)
            (subst (λ (i : ℕ). AreTaken c.args.graph.now c.args.message.now c.args.states.now (c.loop-x.x + 1) i w.join_source.new.states (slice_set c.loop-x.histories.items c.loop-x.x w.join_source.new.history) (c.loop-x.grow.items ++ w.in_ok-grows.grows ∷ [])) (sym w.i-is) taken)));
        told = ap (λ (hs : List Kept). map told hs) items ∙ told-set c.loop-x.histories.items c.loop-x.x w.index_mut.result.now w.join_source.new.history w.index_mut.ensures.value w.join_source.ensures.history ∙ c.loop-x.invariant.told;
      }
  | else-is_source w ↦
      let items : c.if-is_source.histories.items ≡ c.loop-x.histories.items = λ j. (w.histories-is j).items in
      let low : c.loop-x.x < length c.args.graph.now = omega (arith, c.loop-x-test.true, c.len-x-end.ensures.count) in
      let taken = taken-derived c.args.graph.now c.args.message.now c.args.states.now c.loop-x.x c.loop-x.i c.loop-x.states c.loop-x.histories.items c.loop-x.grow.items c.loop-x.invariant.taken c.requires.small
      (omega (arith, low, c.requires.long)) low (ap is_source c.at.ensures.kind ∙ sym c.is_source.ensures ∙ w.if-is_source.false) in
      let grow : c.push.new.self.items ≡ c.loop-x.grow.items ++ false ∷ [] = c.in_ok-push.ensures.items ∙ ap (λ (b : Bool). c.loop-x.grow.items ++ b ∷ []) w.grows-is in
      record {
        taken = subst (λ (bs : List Bool). AreTaken c.args.graph.now c.args.message.now c.args.states.now (c.loop-x.x + 1) c.if-is_source.i c.if-is_source.states c.if-is_source.histories.items bs) (sym grow)
            (subst (λ (hs : List Kept). AreTaken c.args.graph.now c.args.message.now c.args.states.now (c.loop-x.x + 1) c.if-is_source.i c.if-is_source.states hs (c.loop-x.grow.items ++ false ∷ [])) (sym items)
            (subst (λ (hs : List Held). AreTaken c.args.graph.now c.args.message.now c.args.states.now (c.loop-x.x + 1) c.if-is_source.i hs c.loop-x.histories.items (c.loop-x.grow.items ++ false ∷ [])) (sym w.states-is)
            (subst (λ (i : ℕ). AreTaken c.args.graph.now c.args.message.now c.args.states.now (c.loop-x.x + 1) i c.loop-x.states c.loop-x.histories.items (c.loop-x.grow.items ++ false ∷ [])) (sym w.i-is) taken)));
        told = ap (λ (hs : List Kept). map told hs) items ∙ c.loop-x.invariant.told;
      }
]

pub returns-clause-ok : goal.returns-clause-ok
returns-clause-ok c =
    taken-all c.args.graph.now c.args.message.now c.args.states.now c.loop-x.x c.loop-x.i c.loop-x.states c.loop-x.histories.items c.loop-x.grow.items c.loop-x.invariant.taken
    (omega (arith, c.loop-x-test.false, c.len-x-end.ensures.count)) (omega (arith, c.loop-x.auto.x-end, c.len-x-end.ensures.count)) c.requires.long
