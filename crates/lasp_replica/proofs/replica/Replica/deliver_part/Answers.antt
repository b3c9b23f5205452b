use Rattle.std.proofs.Common.{rules, ◌≡◌, ◌++◌, ◌∷◌, [], ℕ, Bool, List, length, map, vec_len, IsOk, refl, sym, ap, subst, ◌∙◌}
use Rattle.std.specs.Arc.{arc_value}
use Rattle.model_graph.specs.Graph.{Decl}
use Rattle.model_states.specs.Counts.{larger}
use Rattle.model_graph.specs.Message.{Message, brought, gained}
use Rattle.model_runs.specs.Held.{IsSentTo}
use Rattle.model_wire.specs.Lawful.{IsMessage}
use Rattle.lasp_replica.proofs.KeptLaws.{where-ok}
use Rattle.lasp_graph.specs.States.{Held, AreSourcesOfKind, contents_of}
use Rattle.model_journal.specs.Entry.{Deliver, entry}
use Rattle.lasp_replica.specs.declared.entry.Entry.{Entry}
use Rattle.lasp_replica.specs.declared.entry.Act.TheVariants as act
use Rattle.lasp_replica.specs.Entries.{entry_of}
use Rattle.lasp_replica.specs.Replica.{IsOfGraph}
use Rattle.lasp_replica.specs.Delivery.{AreSmall, AreJoined, IsRefused, AreRecordedTo}
use Rattle.lasp_replica.proofs.OrderLaws.{sent-ordered}
use Rattle.lasp_replica.proofs.BroughtLaws.{joined-whole, refused-whole, refused-told}
use Rattle.lasp_replica.proofs.DeliverLaws.{long-before, small-before, kinds-before, sent-before, pushed, goes}
use Rattle.lasp_replica.proofs.replica.Replica.deliver_part.Goals as goal

pub join_sources-requires-clause-long : goal.join_sources-requires-clause-long
join_sources-requires-clause-long c = ap (λ (hs : List Held). length hs) c.in_ok-states.ensures ∙ long-before c.args.self.now c.requires.replica ∙ ap (λ (g : List Decl). length g) (sym c.deref-3.ensures)

pub join_sources-requires-clause-small : goal.join_sources-requires-clause-small
join_sources-requires-clause-small c = subst AreSmall (sym c.in_ok-states.ensures) (small-before c.args.self.now c.requires.replica)

pub join_sources-requires-clause-sent : goal.join_sources-requires-clause-sent
join_sources-requires-clause-sent c =
    let g = arc_value c.args.self.now.graph in
    let m = arc_value c.args.message.now in
    let of : IsOfGraph (length c.args.self.now.counts) g m = subst (IsOfGraph (length c.args.self.now.counts) g) c.deref.ensures (c.suits.ensures.0 c.if-not-suits.false) in
    subst (λ (h : List Decl). IsSentTo (length c.args.part.now.counts) h c.args.part.now) (sym c.deref-3.ensures) (sent-before c.args.self.now c.requires.replica c.args.part.now c.recall-2.ensures (c.requires.part.begins of.1))

pub join_sources-requires-clause-kinds : goal.join_sources-requires-clause-kinds
join_sources-requires-clause-kinds c =
    let g = arc_value c.args.self.now.graph in
    let m = arc_value c.args.message.now in
    let of : IsOfGraph (length c.args.self.now.counts) g m = subst (IsOfGraph (length c.args.self.now.counts) g) c.deref.ensures (c.suits.ensures.0 c.if-not-suits.false) in
    subst (λ (h : List Decl). AreSourcesOfKind (length c.args.part.now.counts) h c.in_ok-states.states) (sym c.deref-3.ensures)
    (subst (AreSourcesOfKind (length c.args.part.now.counts) g) (sym c.in_ok-states.ensures) (kinds-before c.args.self.now c.requires.replica (length c.args.part.now.counts) (c.requires.part.wide ∙ of.0)))

pub returns-in_err-grow-clause-answer : goal.returns-in_err-grow-clause-answer
returns-in_err-grow-clause-answer c =
    let g = arc_value c.args.self.now.graph in
    let m = arc_value c.args.message.now in
    let old = c.args.self.now.states in
    let message : IsMessage m = subst IsMessage c.deref-2.ensures c.recall.ensures in
    let of : IsOfGraph (length c.args.self.now.counts) g m = subst (IsOfGraph (length c.args.self.now.counts) g) c.deref.ensures (c.suits.ensures.0 c.if-not-suits.false) in
    let part : IsRefused (gained (brought g c.args.part.now) 0 (contents_of old)) c.join_sources.result =
    subst (λ (hs : List Held). IsRefused (gained (brought g c.args.part.now) 0 (contents_of hs)) c.join_sources.result) c.in_ok-states.ensures
    (subst (λ (h : List Decl). IsRefused (gained (brought h c.args.part.now) 0 (contents_of c.in_ok-states.states)) c.join_sources.result) c.deref-3.ensures c.join_sources.ensures.refused) in
    refused-told (length c.args.self.now.counts) g (contents_of old) m c.in_err-grow.field-0.0 c.join_sources.result c.from_residual-in_err-grow.result c.in_err-grow.was c.from_residual-in_err-grow.ensures.1 of
    (refused-whole g m c.args.part.now old c.join_sources.new.states c.join_sources.new.histories.items [] (long-before c.args.self.now c.requires.replica) c.requires.part (sent-ordered c.args.part.now c.recall-2.ensures) (sent-ordered m message) c.join_sources.result part)

pub returns-clause-ok : goal.returns-clause-ok
returns-clause-ok c =
    let g = arc_value c.args.self.now.graph in
    let m = arc_value c.args.message.now in
    let old = c.args.self.now.states in
    let message : IsMessage m = subst IsMessage c.deref-2.ensures c.recall.ensures in
    let of : IsOfGraph (length c.args.self.now.counts) g m = subst (IsOfGraph (length c.args.self.now.counts) g) c.deref.ensures (c.suits.ensures.0 c.if-not-suits.false) in
    let part : AreJoined g c.args.part.now old c.join_sources.new.states c.join_sources.new.histories.items c.in_ok-grow.grow.items =
    subst (λ (hs : List Held). AreJoined g c.args.part.now hs c.join_sources.new.states c.join_sources.new.histories.items c.in_ok-grow.grow.items) c.in_ok-states.ensures
    (subst (λ (h : List Decl). AreJoined h c.args.part.now c.in_ok-states.states c.join_sources.new.states c.join_sources.new.histories.items c.in_ok-grow.grow.items) c.deref-3.ensures c.in_ok-grow.ensures.ok) in
    let joined : AreJoined g m old c.join_sources.new.states c.join_sources.new.histories.items c.in_ok-grow.grow.items =
    joined-whole g m c.args.part.now old c.join_sources.new.states c.join_sources.new.histories.items c.in_ok-grow.grow.items (long-before c.args.self.now c.requires.replica) c.requires.part (sent-ordered c.args.part.now c.recall-2.ensures) (sent-ordered m message) part in
    let counted : vec_len c.reserve.new.self ≡ length c.reserve.new.self.items = c.reserve.new.self.ok.0 in
    let number : c.len.result ≡ length c.args.self.now.journal.items = c.len.ensures ∙ counted ∙ ap length c.reserve.ensures.items in
    let recorded : AreRecordedTo (length c.in_ok-grow.grow.items) c.in_ok-grow.grow.items (length c.args.self.now.journal.items) c.join_sources.new.histories.items c.record_all.new.histories.items =
    subst (λ (n : ℕ). AreRecordedTo (length c.in_ok-grow.grow.items) c.in_ok-grow.grow.items n c.join_sources.new.histories.items c.record_all.new.histories.items) number
    (subst (λ (bs : List Bool). AreRecordedTo (length bs) bs c.len.result c.join_sources.new.histories.items c.record_all.new.histories.items) c.deref-4.ensures.value c.record_all.ensures) in
    let counts : c.raise.new.counts ≡ larger c.args.self.now.counts (arc_value c.args.message.now).counts = c.raise.ensures ∙ ap (larger c.args.self.now.counts) (c.counts.ensures ∙ ap (λ (m : Message). m.counts) c.deref-5.ensures) in
    let v : Entry = record { by = c.args.by; what = act.Deliver c.args.number c.in_ok-share.share } in
    let room : IsOk c.push.result = search rules in
    let items : c.push.new.self.items ≡ c.args.self.now.journal.items ++ v ∷ [] =
    where-ok c.push.result c.push.new.self.items (c.reserve.new.self.items ++ v ∷ []) c.reserve.new.self.items room c.push.ensures.items ∙ ap (λ (es : List Entry). es ++ v ∷ []) c.reserve.ensures.items in
    let entries : map entry_of c.push.new.self.items ≡ map entry_of c.args.self.now.journal.items ++ entry c.args.by (Deliver c.args.number (arc_value c.args.message.now)) ∷ [] =
    pushed c.args.self.now.journal.items c.push.new.self.items v (entry c.args.by (Deliver c.args.number (arc_value c.args.message.now))) items
    (ap (λ (m : Message). entry c.args.by (Deliver c.args.number m)) c.in_ok-share.ensures) in
    let gathered = subst (λ (hs : List Held). AreJoined (arc_value c.args.self.now.graph) (arc_value c.args.message.now) c.args.self.now.states hs c.join_sources.new.histories.items c.in_ok-grow.grow.items) (sym c.tend_all.ensures) joined in
    goes c.args.self.now _ c.requires.replica c.args.by c.args.number (arc_value c.args.message.now) c.join_sources.new.histories.items c.in_ok-grow.grow.items message of.0 of.1 c.join_sources.ensures.told gathered recorded refl refl refl refl counts entries v items tt

pub returns-clause-answer : goal.returns-clause-answer
returns-clause-answer c =
    let g = arc_value c.args.self.now.graph in
    let m = arc_value c.args.message.now in
    let old = c.args.self.now.states in
    let message : IsMessage m = subst IsMessage c.deref-2.ensures c.recall.ensures in
    let of : IsOfGraph (length c.args.self.now.counts) g m = subst (IsOfGraph (length c.args.self.now.counts) g) c.deref.ensures (c.suits.ensures.0 c.if-not-suits.false) in
    let part : AreJoined g c.args.part.now old c.join_sources.new.states c.join_sources.new.histories.items c.in_ok-grow.grow.items =
    subst (λ (hs : List Held). AreJoined g c.args.part.now hs c.join_sources.new.states c.join_sources.new.histories.items c.in_ok-grow.grow.items) c.in_ok-states.ensures
    (subst (λ (h : List Decl). AreJoined h c.args.part.now c.in_ok-states.states c.join_sources.new.states c.join_sources.new.histories.items c.in_ok-grow.grow.items) c.deref-3.ensures c.in_ok-grow.ensures.ok) in
    (of, (joined-whole g m c.args.part.now old c.join_sources.new.states c.join_sources.new.histories.items c.in_ok-grow.grow.items (long-before c.args.self.now c.requires.replica) c.requires.part (sent-ordered c.args.part.now c.recall-2.ensures) (sent-ordered m message) part).small)
